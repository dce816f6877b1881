use Rattle.std.proofs.Common.{◌≡◌, ◌++◌, filter, length}
use Rattle.osl_valuetext.specs.declared.place.Place.TheVariants.{Open}
use Rattle.osl_valuetext.specs.Scan.{spoken}
use Rattle.osl_grouptext.specs.Pieces.{pieces, Word, is_word}
use Rattle.osl_grouptext.proofs.pieces.push_words.Given as goal

-- the words so far, and those of what is left, are all
abbrev pub invariant-loop-part : goal.invariant-loop-part
invariant-loop-part l = spoken l.into.items ++ filter is_word (pieces (Word Open) l.rest) ≡ spoken l.fn.into.items ++ filter is_word (pieces (Word Open) l.fn.text)

abbrev pub decreases-loop-part : goal.decreases-loop-part
decreases-loop-part l = length l.rest
