-- The jumps of code that was put together fit: each range lies within those around it and within its section.
use Rattle.std.proofs.Common.{◌≡◌, ℕ, ◌+◌, ◌<◌, ◌≤◌, List, [], ◌∷◌, length, Some, true, false, refl, sym, ap, ◌∙◌, arith}
use Rattle.std.specs.Prelude.{slice_get, map, nat_le, IsTrue, ◌&&◌, ◌==◌}
use Rattle.std.specs.List.{list_all}
use Rattle.std.proofs.lemmas.Bool.{le-leb, eqb-true}
use Rattle.osl_value.specs.declared.op_name.OpName.{OpName}
use Rattle.osl_value.specs.declared.op_name.OpName.TheVariants as O
use Rattle.oso_code.specs.declared.op.Op.{Op}
use Rattle.oso_code.specs.declared.op.Section.{Section}
use Rattle.oso_code.specs.declared.raw.Raw.{Raw}
use Rattle.oso_code.specs.declared.symbol.Symbol.{Symbol}
use Rattle.oso_code.specs.Nesting.{after, IsClosed, Nests}
use Rattle.oso_code.specs.Ops.{range_count, takes_types, type_at, section_at, op_at_fits}
use Rattle.oso_code.specs.Ranges.{around, ascends, reach, ends_in_section, leaving_fits, jumps_fit, steps_of}
use Rattle.oso_code.specs.Steps.{Step, step_of, named_step, branch_step, while_step, for_step, do_step, call_step}
use Rattle.oso_code.proofs.Decoding.{WithOne, WithTwo, WithThree, one, two, three, with_one, with_two, with_three, step_at, after_reach}
use Rattle.oso_code.proofs.Members.{both_and}
use Rattle.oso_code.proofs.Nested.{op_facts}
use Rattle.osl_gencode.proofs.LoopsAround.{leaves_fit}
use Rattle.osl_gencode.proofs.NestedRanges.{around_fits}
use Rattle.osl_gencode.specs.Pieces.{Leaves}

-- ---- jumps ascend

le_true : (a b : ℕ) → a ≤ b → IsTrue (nat_le a b)
le_true a b h = le-leb a b h

two_ascend : (k a e : ℕ) → k + 1 ≤ a → a ≤ e → IsTrue (ascends (k + 1) (a ∷ e ∷ []))
two_ascend k a e l m = both_and (nat_le (k + 1) a) (nat_le a e && true) (le_true (k + 1) a l) (both_and (nat_le a e) true (le_true a e m) refl)

module _ (steps : List Step) (k : ℕ) where
  branch_ascends : (args jumps : List ℕ) → WithTwo args jumps → Nests steps k (branch_step k args jumps) → IsTrue (ascends (k + 1) jumps)
  branch_ascends _ _ (two c a e) nest = two_ascend k a e nest.0.ordered nest.1.ordered

  while_ascends : (args jumps : List ℕ) → WithTwo args jumps → Nests steps k (while_step k args jumps) → IsTrue (ascends (k + 1) jumps)
  while_ascends _ _ (two c a e) nest = two_ascend k a e nest.0.ordered nest.1.ordered

  do_ascends : (args jumps : List ℕ) → WithTwo args jumps → Nests steps k (do_step k args jumps) → IsTrue (ascends (k + 1) jumps)
  do_ascends _ _ (two c a e) nest = two_ascend k a e nest.1.ordered nest.0.ordered

  for_ascends : (args jumps : List ℕ) → WithThree args jumps → Nests steps k (for_step k args jumps) → IsTrue (ascends (k + 1) jumps)
  for_ascends _ _ (three c a s e) nest =
      both_and (nat_le (k + 1) a) (nat_le a s && (nat_le s e && true)) (le_true (k + 1) a nest.0.ordered) (both_and (nat_le a s) (nat_le s e && true) (le_true a s nest.1.ordered) (both_and (nat_le s e) true (le_true s e nest.2.ordered) refl))

  call_ascends : (args jumps : List ℕ) → WithOne args jumps → Nests steps k (call_step k args jumps) → IsTrue (ascends (k + 1) jumps)
  call_ascends _ _ (one e) nest = both_and (nat_le (k + 1) e) true (le_true (k + 1) e nest.ordered) refl

  none_ascends : (jumps : List ℕ) → IsTrue (length jumps == 0) → IsTrue (ascends (k + 1) jumps)
  none_ascends [] h = refl
  none_ascends (j ∷ js) h = let n = eqb-true (length (j ∷ js)) 0 h in absurd (omega (arith, n))

  named_ascends : (symbols : List Symbol) (name : OpName) (args jumps : List ℕ) → IsTrue (length jumps == range_count name) → IsTrue (takes_types name (map (type_at symbols) args)) → Nests steps k (named_step symbols k name args jumps) → IsTrue (ascends (k + 1) jumps)
  named_ascends symbols O.If args jumps n t nest = branch_ascends args jumps (with_two symbols O.If refl args jumps n t) nest
  named_ascends symbols O.While args jumps n t nest = while_ascends args jumps (with_two symbols O.While refl args jumps n t) nest
  named_ascends symbols O.For args jumps n t nest = for_ascends args jumps (with_three symbols args jumps n t) nest
  named_ascends symbols O.DoWhile args jumps n t nest = do_ascends args jumps (with_two symbols O.DoWhile refl args jumps n t) nest
  named_ascends symbols O.FunctionCall args jumps n t nest = call_ascends args jumps (with_one symbols args jumps n t) nest
  named_ascends symbols name args jumps n t nest = none_ascends jumps n

  pub ascends_nested : (symbols : List Symbol) (op : Op) → IsTrue (length op.jumps == range_count op.name) → IsTrue (takes_types op.name (map (type_at symbols) op.args)) → Nests steps k (step_of symbols k op) → IsTrue (ascends (k + 1) op.jumps)
  unfolding step_of
  ascends_nested symbols op n t nest = named_ascends symbols op.name op.args op.jumps n t nest

-- ---- all that is asked of jumps

-- the section that an op is in, which no op of it reaches out of
pub record IsPlaced (raw : Raw) (k : ℕ) : Type 0 where
  pub section : Section
  pub here : section_at raw.sections k ≡ Some section
  pub first : section.start ≤ k
  pub last : k < section.end
  pub closed : IsClosed (steps_of raw) section.start section.end

pub jumps_valid : (raw : Raw) (m k : ℕ) (op : Op) → slice_get raw.ops k ≡ Some op → k < m → IsTrue (op_at_fits raw k op) → IsPlaced raw k → ((j : ℕ) (step : Step) → slice_get (steps_of raw) j ≡ Some step → Nests (steps_of raw) j step) → Leaves (steps_of raw) false 0 m → IsTrue (jumps_fit raw (steps_of raw) k op)
jumps_valid raw m k op at lt fits placed nested leaves =
    let f = op_facts raw k op fits in
    let step = step_of raw.symbols k op in
    let here = step_at raw k op at in
    let reached : after k step ≡ reach (k + 1) op.jumps = after_reach raw.symbols k op f.count f.types in
    let ascend = ascends_nested (steps_of raw) k raw.symbols op f.count f.types (nested k step here) in
    let end = placed.closed.ends k step placed.first placed.last here in
    let section : IsTrue (ends_in_section (reach (k + 1) op.jumps) (section_at raw.sections k)) = ap (ends_in_section (reach (k + 1) op.jumps)) placed.here ∙ le_true (reach (k + 1) op.jumps) placed.section.end (omega (arith, reached, end)) in
    let ranges : IsTrue (list_all (λ r. nat_le (reach (k + 1) op.jumps) r.span.end) (around (steps_of raw) k)) = ap (λ n. list_all (λ r. nat_le n r.span.end) (around (steps_of raw) k)) (sym reached) ∙ around_fits (steps_of raw) nested k step here in
    let leaving : IsTrue (leaving_fits (around (steps_of raw) k) step) = leaves_fit (steps_of raw) m k step lt here leaves in
    both_and (ascends (k + 1) op.jumps && ends_in_section (reach (k + 1) op.jumps) (section_at raw.sections k)) (list_all (λ r. nat_le (reach (k + 1) op.jumps) r.span.end) (around (steps_of raw) k) && leaving_fits (around (steps_of raw) k) step)
    (both_and (ascends (k + 1) op.jumps) (ends_in_section (reach (k + 1) op.jumps) (section_at raw.sections k)) ascend section)
    (both_and (list_all (λ r. nat_le (reach (k + 1) op.jumps) r.span.end) (around (steps_of raw) k)) (leaving_fits (around (steps_of raw) k) step) ranges leaving)
