use Rattle.std.proofs.Common.{◌≡◌, drop}
use Rattle.osl_valuetext.specs.declared.place.Place.TheVariants.{Open}
use Rattle.osl_valuetext.specs.Scan.{parts, piece_end}
use Rattle.osl_valuetext.proofs.words.piece_len.Given as goal

abbrev pub invariant-loop-at : goal.invariant-loop-at
invariant-loop-at l = piece_end (parts l.parting) l.place l.at (drop l.at l.text) ≡ piece_end (parts l.parting) Open 0 l.text
