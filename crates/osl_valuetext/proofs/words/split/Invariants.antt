use Rattle.std.proofs.Common.{◌≡◌, ◌≤◌, ◌++◌, filter, length}
use Rattle.osl_valuetext.specs.declared.place.Place.TheVariants.{Open}
use Rattle.osl_valuetext.specs.Splitting.{pieces}
use Rattle.osl_valuetext.specs.Scan.{parts, keeps, spoken}
use Rattle.osl_valuetext.proofs.words.split.Given as goal

-- the pieces so far, and those of what is left, are all
abbrev pub invariant-loop-rest : goal.invariant-loop-rest
invariant-loop-rest l =
    record {
      so_far : spoken l.into.items ++ filter (keeps l.parting) (pieces (parts l.parting) Open l.rest)
          ≡ spoken l.fn.into.items ++ filter (keeps l.parting) (pieces (parts l.parting) Open l.text);
      within : length l.rest ≤ length l.text;
    }

abbrev pub decreases-loop-rest : goal.decreases-loop-rest
decreases-loop-rest l = length l.rest
