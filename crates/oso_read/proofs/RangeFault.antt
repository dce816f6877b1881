-- The first fault of ranges, from what a walk over the ops finds.
use Rattle.std.proofs.Common.{◌≡◌, ℕ, length, Option, Some, None, ap, ◌∙◌, subst}
use Rattle.oso_code.specs.declared.checks.opened.RangeFaults.{RangeFaults}
use Rattle.oso_code.specs.declared.raw.Raw.{Raw}
use Rattle.oso_code.specs.Faults.{misfits, least}
use Rattle.oso_code.specs.Ranges.{steps_of}
use Rattle.oso_code.specs.Valid.{nests_within}
use Rattle.oso_code.specs.Walked.{AreRangeFaults}
use Rattle.oso_code.proofs.Decoding.{length_steps}
use Rattle.oso_code.proofs.Firsts.{Below, misfits_within}
use Rattle.oso_read.specs.Finds.{found}
use Rattle.oso_read.specs.Reading.{sooner, range_fault}
use Rattle.oso_read.proofs.Ranged.{IsBelow, first_found}

is_below : (end : ℕ) (place : Option ℕ) → Below end place → IsBelow end place
is_below end None below = tt
is_below end (Some p) below = below

-- the least op that nests too deep is an op
deep_below : (raw : Raw) → IsBelow (length raw.ops) (least (misfits (nests_within (steps_of raw)) 0 (steps_of raw)))
deep_below raw =
    is_below (length raw.ops) (least (misfits (nests_within (steps_of raw)) 0 (steps_of raw)))
    (subst (λ n. Below n (least (misfits (nests_within (steps_of raw)) 0 (steps_of raw)))) (length_steps raw.symbols 0 raw.ops)
    (misfits_within (nests_within (steps_of raw)) (steps_of raw)))

pub range_fault_found : (raw : Raw) (faults : RangeFaults) → AreRangeFaults raw.symbols raw.sections raw.ops faults → found faults.jump faults.deep ≡ range_fault raw
unfolding range_fault
range_fault_found raw faults are =
    ap (found faults.jump) are.deep
    ∙ first_found (length raw.ops) faults.jump (least (misfits (nests_within (steps_of raw)) 0 (steps_of raw))) (deep_below raw)
    ∙ ap (λ jump. sooner jump (least (misfits (nests_within (steps_of raw)) 0 (steps_of raw)))) are.jump
