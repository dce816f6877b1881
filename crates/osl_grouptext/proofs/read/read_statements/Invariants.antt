use Rattle.std.proofs.Common.{◌≡◌, ◌+◌, ◌≤◌, length}
use Rattle.std.specs.List.{slice_split}
use Rattle.osl_valuetext.specs.Scan.{spoken}
use Rattle.osl_grouptext.specs.Reading.{is_semicolon, reads}
use Rattle.osl_grouptext.proofs.Numbers.{with_front}
use Rattle.osl_grouptext.proofs.read.read_statements.Given as goal

-- what was read, before what is read of the words that are left, is all
abbrev pub invariant-loop-at : goal.invariant-loop-at
invariant-loop-at l =
    record {
      so_far : with_front l.statements.items (reads l.number (slice_split is_semicolon (spoken l.rest))) ≡ reads 1 (slice_split is_semicolon (spoken l.fn.words));
      within : l.number + length l.rest ≤ length l.fn.words + 1;
    }

abbrev pub decreases-loop-at : goal.decreases-loop-at
decreases-loop-at l = length l.rest
