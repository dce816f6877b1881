use Rattle.std.proofs.Common.{◌≡◌, ◌+◌, length}
use Rattle.osl_valuetext.specs.declared.place.Place.TheVariants.{Open}
use Rattle.osl_grouptext.specs.Pieces.{word_end}
use Rattle.osl_grouptext.proofs.pieces.word_len.Given as goal

abbrev pub invariant-loop-rest : goal.invariant-loop-rest
invariant-loop-rest l =
    record {
      value : word_end l.place l.len l.rest ≡ word_end Open 0 l.fn.text;
      within : l.len + length l.rest ≡ length l.fn.text;
    }

abbrev pub decreases-loop-rest : goal.decreases-loop-rest
decreases-loop-rest l = length l.rest
