use Rattle.std.proofs.Common.{◌≡◌, ◌+◌, length}
use Rattle.osl_grouptext.specs.Pieces.{comment_len}
use Rattle.osl_grouptext.proofs.pieces.comment_len.Given as goal

abbrev pub invariant-loop-rest : goal.invariant-loop-rest
invariant-loop-rest l =
    record {
      value : l.len + comment_len l.rest ≡ comment_len l.fn.text;
      within : l.len + length l.rest ≡ length l.fn.text;
    }

abbrev pub decreases-loop-rest : goal.decreases-loop-rest
decreases-loop-rest l = length l.rest
