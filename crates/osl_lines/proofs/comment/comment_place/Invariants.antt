use Rattle.std.proofs.Common.{◌≡◌, drop}
use Rattle.osl_valuetext.specs.declared.place.Place.TheVariants.{Open}
use Rattle.osl_valuetext.specs.Scan.{piece_end}
use Rattle.osl_lines.specs.Comment.{begins_comment}
use Rattle.osl_lines.proofs.comment.comment_place.Given as goal

abbrev pub invariant-loop-at : goal.invariant-loop-at
invariant-loop-at l = piece_end begins_comment l.place l.at (drop l.at l.line) ≡ piece_end begins_comment Open 0 l.line
