-- The ranges of valid code nest.
use Rattle.std.proofs.Common.{◌≡◌, ℕ, ◌+◌, ◌<◌, ◌≤◌, inl, inr, List, [], ◌∷◌, length, Some, true, refl, sym, ap, ◌∙◌, subst, arith}
use Rattle.std.specs.Prelude.{slice_get, take, map, nat_lt, nat_le, ◌==◌, ◌&&◌, IsTrue}
use Rattle.std.specs.List.{list_all}
use Rattle.std.proofs.lemmas.Bool.{leb-true, le-leb, lt-ltb}
use Rattle.osl_value.specs.declared.op_name.OpName.{OpName}
use Rattle.osl_value.specs.declared.op_name.OpName.TheVariants as O
use Rattle.oso_code.specs.declared.op.Op.{Op}
use Rattle.oso_code.specs.declared.raw.Raw.{Raw}
use Rattle.oso_code.specs.Nesting.{after, IsClosed, IsInside, Nests, AreNested}
use Rattle.oso_code.specs.Ops.{range_count, takes_types, type_at, section_at, owner_at, op_at_fits, is_number_of, may_write, written, may_read, reads}
use Rattle.oso_code.specs.declared.checks.role.Role.{Role}
use Rattle.oso_code.specs.declared.checks.role.Role.TheVariants.{LoopBody, CallBody, Part}
use Rattle.oso_code.specs.Ranges.{Ranged, ranged, ranges_of, contains, around, ascends, reach, ends_in_section, leaving_fits, jumps_fit, steps_of}
use Rattle.oso_code.specs.Steps.{span, Step, step_of, named_step, branch_step, while_step, for_step, do_step, call_step, compute}
use Rattle.oso_code.specs.Valid.{IsValid}
use Rattle.oso_code.proofs.Decoding.{WithOne, WithTwo, WithThree, one, two, three, with_one, with_two, with_three, came_from, after_reach}
use Rattle.oso_code.proofs.Members.{and_both, both_and, In, in_filter, in_flat_map, in_take, in_reverse, in_all}

-- ---- what fits of an op

pub record OpFits (raw : Raw) (k : ℕ) (op : Op) : Type 0 where
  pub numbers : IsTrue (list_all (is_number_of raw.symbols) op.args)
  pub count : IsTrue (length op.jumps == range_count op.name)
  pub types : IsTrue (takes_types op.name (map (type_at raw.symbols) op.args))
  pub writes : IsTrue (may_write raw.kind raw.symbols (owner_at raw.sections k) (written op))
  pub reads_fit : IsTrue (list_all (may_read raw.symbols (owner_at raw.sections k)) (reads op))

pub op_facts : (raw : Raw) (k : ℕ) (op : Op) → IsTrue (op_at_fits raw k op) → OpFits raw k op
op_facts raw k op h =
    let numbers = list_all (is_number_of raw.symbols) op.args in
    let count = length op.jumps == range_count op.name in
    let types = takes_types op.name (map (type_at raw.symbols) op.args) in
    let writes = may_write raw.kind raw.symbols (owner_at raw.sections k) (written op) in
    let reads_fit = list_all (may_read raw.symbols (owner_at raw.sections k)) (reads op) in
    let all = and_both ((numbers && count) && types) (writes && reads_fit) h in
    let shape = and_both (numbers && count) types all.0 in
    let first = and_both numbers count shape.0 in
    let classes = and_both writes reads_fit all.1 in
    record { numbers = first.0; count = first.1; types = shape.1; writes = classes.0; reads_fit = classes.1 }

pub record JumpsFit (raw : Raw) (k : ℕ) (op : Op) : Type 0 where
  pub ascend : IsTrue (ascends (k + 1) op.jumps)
  pub section : IsTrue (ends_in_section (reach (k + 1) op.jumps) (section_at raw.sections k))
  pub ranges : IsTrue (list_all (λ r. nat_le (reach (k + 1) op.jumps) r.span.end) (around (steps_of raw) k))
  pub leaving : IsTrue (leaving_fits (around (steps_of raw) k) (step_of raw.symbols k op))

pub jump_facts : (raw : Raw) (k : ℕ) (op : Op) → IsTrue (jumps_fit raw (steps_of raw) k op) → JumpsFit raw k op
jump_facts raw k op h =
    let ascend = ascends (k + 1) op.jumps in
    let section = ends_in_section (reach (k + 1) op.jumps) (section_at raw.sections k) in
    let ranges = list_all (λ r. nat_le (reach (k + 1) op.jumps) r.span.end) (around (steps_of raw) k) in
    let leaving = leaving_fits (around (steps_of raw) k) (step_of raw.symbols k op) in
    let all = and_both (ascend && section) (ranges && leaving) h in
    let first = and_both ascend section all.0 in
    let second = and_both ranges leaving all.1 in
    record { ascend = first.0; section = first.1; ranges = second.0; leaving = second.1 }

-- ---- ranges are closed

module _ (raw : Raw) (valid : IsValid raw) where
  -- where an op's ranges end
  pub op_ends : (k : ℕ) (op : Op) → slice_get raw.ops k ≡ Some op → after k (step_of raw.symbols k op) ≡ reach (k + 1) op.jumps
  op_ends k op is =
      let fits = op_facts raw k op (valid.ops k op is) in
      after_reach raw.symbols k op fits.count fits.types

  range_closed : (k : ℕ) (step : Step) (r : Ranged) → slice_get (steps_of raw) k ≡ Some step → In r (ranges_of step) → k < r.span.start → IsClosed (steps_of raw) r.span.start r.span.end
  range_closed k step r is within later = record {
    ends = λ j next a b at.
        let from = came_from raw j next at in
        let fits = jump_facts raw j from.op (valid.jumps j from.op from.here) in
        let holds : IsTrue (contains j r) = both_and (nat_le r.span.start j) (nat_lt j r.span.end) (le-leb r.span.start j a) (lt-ltb j r.span.end b) in
        let around_it = in_filter (contains j) r _ (in_flat_map ranges_of r step _ (in_reverse step (take j (steps_of raw)) (in_take step j k (steps_of raw) is (omega arith))) within) holds in
        let le = leb-true (reach (j + 1) from.op.jumps) r.span.end (in_all (λ q. nat_le (reach (j + 1) from.op.jumps) q.span.end) r (around (steps_of raw) j) fits.ranges around_it) in
        let e = ap (after j) from.is ∙ op_ends j from.op from.here in
        omega (arith, e, le);
  }

  abbrev ClosedBehind : ℕ → Step → Type 0
  ClosedBehind k step = (r : Ranged) → In r (ranges_of step) → k < r.span.start → IsClosed (steps_of raw) r.span.start r.span.end

  abbrev NestsThere : ℕ → Step → List ℕ → Type 0
  NestsThere k step jumps = IsTrue (ascends (k + 1) jumps) → ClosedBehind k step → Nests (steps_of raw) k step

  -- one range of an op
  inside : (k next : ℕ) (step : Step) (role : Role) (a e : ℕ) → ClosedBehind k step → In (ranged role (span a e)) (ranges_of step) → k < a → a ≤ e → e ≤ next → IsInside (steps_of raw) k next (span a e)
  inside k next step role a e closed within later ordered le = record { later = later; ordered = ordered; within = le; closed = closed (ranged role (span a e)) within later }

  two_rises : (k a e : ℕ) → IsTrue (ascends (k + 1) (a ∷ e ∷ [])) → (k + 1 ≤ a) × (a ≤ e)
  two_rises k a e h =
      let p = and_both (nat_le (k + 1) a) (nat_le a e && true) h in
      let q = and_both (nat_le a e) true p.1 in
      (leb-true (k + 1) a p.0, leb-true a e q.0)

  three_rises : (k a s e : ℕ) → IsTrue (ascends (k + 1) (a ∷ s ∷ e ∷ [])) → (k + 1 ≤ a) × (a ≤ s) × (s ≤ e)
  three_rises k a s e h =
      let p = and_both (nat_le (k + 1) a) (nat_le a s && (nat_le s e && true)) h in
      let q = and_both (nat_le a s) (nat_le s e && true) p.1 in
      let r = and_both (nat_le s e) true q.1 in
      (leb-true (k + 1) a p.0, leb-true a s q.0, leb-true s e r.0)

  branch_nests : (k : ℕ) (args jumps : List ℕ) → WithTwo args jumps → NestsThere k (branch_step k args jumps) jumps
  branch_nests k _ _ (two c a e) rises closed =
      let step = branch_step k (c ∷ []) (a ∷ e ∷ []) in
      let p = (two_rises k a e rises).0 in let q = (two_rises k a e rises).1 in
      (inside k e step Part (k + 1) a closed (inl refl) (omega arith) p q, inside k e step Part a e closed (inr (inl refl)) (omega (arith, p)) q (omega arith))

  while_nests : (k : ℕ) (args jumps : List ℕ) → WithTwo args jumps → NestsThere k (while_step k args jumps) jumps
  while_nests k _ _ (two c a e) rises closed =
      let step = while_step k (c ∷ []) (a ∷ e ∷ []) in
      let p = (two_rises k a e rises).0 in let q = (two_rises k a e rises).1 in (
        inside k e step Part (k + 1) a closed (inl refl) (omega arith) p q,
        inside k e step LoopBody a e closed (inr (inl refl)) (omega (arith, p)) q (omega arith),
        inside k e step Part e e closed (inr (inr (inl refl))) (omega (arith, p, q)) (omega arith) (omega arith),
      )

  for_nests : (k : ℕ) (args jumps : List ℕ) → WithThree args jumps → NestsThere k (for_step k args jumps) jumps
  for_nests k _ _ (three c a s e) rises closed =
      let step = for_step k (c ∷ []) (a ∷ s ∷ e ∷ []) in
      let up = three_rises k a s e rises in
      let p = up.0 in let q = up.1 in let r = up.2 in (
        inside k e step Part (k + 1) a closed (inl refl) (omega arith) p (omega (arith, q, r)),
        inside k e step LoopBody a s closed (inr (inl refl)) (omega (arith, p)) q r,
        inside k e step Part s e closed (inr (inr (inl refl))) (omega (arith, p, q)) r (omega arith),
      )

  do_nests : (k : ℕ) (args jumps : List ℕ) → WithTwo args jumps → NestsThere k (do_step k args jumps) jumps
  do_nests k _ _ (two c a e) rises closed =
      let step = do_step k (c ∷ []) (a ∷ e ∷ []) in
      let p = (two_rises k a e rises).0 in let q = (two_rises k a e rises).1 in (
        inside k e step Part a e closed (inr (inl refl)) (omega (arith, p)) q (omega arith),
        inside k e step LoopBody (k + 1) a closed (inl refl) (omega arith) p q,
        inside k e step Part e e closed (inr (inr (inl refl))) (omega (arith, p, q)) (omega arith) (omega arith),
      )

  call_nests : (k : ℕ) (args jumps : List ℕ) → WithOne args jumps → NestsThere k (call_step k args jumps) jumps
  call_nests k _ _ (one e) rises closed =
      inside k e (call_step k [] (e ∷ [])) CallBody (k + 1) e closed (inl refl) (omega arith) (leb-true (k + 1) e (and_both (nat_le (k + 1) e) true rises).0) (omega arith)

  compute_nests : (k : ℕ) (name : OpName) (args : List ℕ) → Nests (steps_of raw) k (compute raw.symbols name args)
  compute_nests k name [] = tt
  compute_nests k name (target ∷ others) = tt

  named_nests : (k : ℕ) (name : OpName) (args jumps : List ℕ) → IsTrue (length jumps == range_count name) → IsTrue (takes_types name (map (type_at raw.symbols) args)) → NestsThere k (named_step raw.symbols k name args jumps) jumps
  named_nests k O.If args jumps n t = branch_nests k args jumps (with_two raw.symbols O.If refl args jumps n t)
  named_nests k O.While args jumps n t = while_nests k args jumps (with_two raw.symbols O.While refl args jumps n t)
  named_nests k O.For args jumps n t = for_nests k args jumps (with_three raw.symbols args jumps n t)
  named_nests k O.DoWhile args jumps n t = do_nests k args jumps (with_two raw.symbols O.DoWhile refl args jumps n t)
  named_nests k O.FunctionCall args jumps n t = call_nests k args jumps (with_one raw.symbols args jumps n t)
  named_nests k O.Break args jumps n t = λ rises closed. tt
  named_nests k O.Continue args jumps n t = λ rises closed. tt
  named_nests k O.Return args jumps n t = λ rises closed. tt
  named_nests k O.Exit args jumps n t = λ rises closed. tt
  named_nests k name args jumps n t = λ rises closed. compute_nests k name args

  step_nests : (k : ℕ) (op : Op) → slice_get raw.ops k ≡ Some op → ClosedBehind k (step_of raw.symbols k op) → Nests (steps_of raw) k (step_of raw.symbols k op)
  unfolding step_of
  step_nests k op is closed =
      let fits = op_facts raw k op (valid.ops k op is) in
      named_nests k op.name op.args op.jumps fits.count fits.types (jump_facts raw k op (valid.jumps k op is)).ascend closed

  -- ranges lie in each other
  pub valid_nested : AreNested (steps_of raw)
  valid_nested = record {
    each = λ k step is.
        let from = came_from raw k step is in
        subst (Nests (steps_of raw) k) (sym from.is) (step_nests k from.op from.here (λ r within later. range_closed k (step_of raw.symbols k from.op) r (is ∙ ap Some from.is) within later));
  }
