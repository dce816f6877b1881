-- A walk over ops: each op that fits keeps what is known of the ranges that are open.
use Rattle.std.proofs.Common.{◌≡◌, ℕ, ◌+◌, ◌≤◌, List, [], ◌∷◌, ◌++◌, Some, Bool, true, false, refl, ap, arith}
use Rattle.std.specs.Prelude.{slice_get, filter, nat_lt, nat_le, ◌&&◌, if◌then◌else◌, IsTrue}
use Rattle.std.proofs.lemmas.Bool.{leb-true, le-ltb}
use Rattle.osl_value.specs.declared.op_name.OpName.{OpName}
use Rattle.osl_value.specs.declared.op_name.OpName.TheVariants as O
use Rattle.oso_code.specs.declared.checks.opened.Open.{Open}
use Rattle.oso_code.specs.declared.checks.opened.Inside.{Inside}
use Rattle.oso_code.specs.declared.checks.role.Role.{Role}
use Rattle.oso_code.specs.declared.checks.role.Role.TheVariants.{LoopBody, CallBody, Part}
use Rattle.oso_code.specs.declared.op.Op.{Op}
use Rattle.oso_code.specs.declared.symbol.Symbol.{Symbol}
use Rattle.oso_code.specs.Ranges.{Ranged, ranged, ranges_of, contains, ascends, reach}
use Rattle.oso_code.specs.Steps.{span, Step, step_of, named_step, branch_step, while_step, for_step, do_step, call_step, compute}
use Rattle.oso_code.specs.Walk.{inside_of, entered, open_two, open_three, open_one, open_ranges}
use Rattle.oso_code.proofs.Members.{and_both}
use Rattle.oso_code.proofs.Walked.{open_at, Ahead, Stacked, dropped}
use Rattle.oso_code.proofs.Opening.{next_stacked, opens_none, one_held, two_held, three_held}

-- an empty range holds no place
empty_range : (j e : ℕ) → filter (contains j) (ranged Part (span e e) ∷ []) ≡ []
empty_range j e = dropped (contains j (ranged Part (span e e))) (ranged Part (span e e)) [] (never (nat_le e j) refl)
  where
    never : (b : Bool) → nat_le e j ≡ b → (b && nat_lt j e) ≡ false
    never true h = le-ltb j e (leb-true e j h)
    never false h = refl

two_rises : (k a e : ℕ) → IsTrue (ascends (k + 1) (a ∷ e ∷ [])) → (k + 1 ≤ a) × (a ≤ e)
two_rises k a e h =
    let p = and_both (nat_le (k + 1) a) (nat_le a e && true) h in
    (leb-true (k + 1) a p.0, leb-true a e (and_both (nat_le a e) true p.1).0)

three_rises : (k a s e : ℕ) → IsTrue (ascends (k + 1) (a ∷ s ∷ e ∷ [])) → (k + 1 ≤ a) × (a ≤ s) × (s ≤ e)
three_rises k a s e h =
    let p = and_both (nat_le (k + 1) a) (nat_le a s && (nat_le s e && true)) h in
    let q = and_both (nat_le a s) (nat_le s e && true) p.1 in
    (leb-true (k + 1) a p.0, leb-true a s q.0, leb-true s e (and_both (nat_le s e) true q.1).0)

module _ (steps : List Step) (k : ℕ) (stack : List Open) (end : ℕ) (stacked : Stacked steps k stack) (ahead : Ahead k stack) where
  abbrev at_end : Inside
  at_end = inside_of end stack

  -- the op's jumps fit
  pub record JumpsFit (jumps : List ℕ) : Type 0 where
    pub rises : IsTrue (ascends (k + 1) jumps)
    pub in_section : reach (k + 1) jumps ≤ end
    pub in_range : reach (k + 1) jumps ≤ at_end.end

  abbrev Keeps : Step → List Open → Type 0
  Keeps step new = slice_get steps k ≡ Some step → Stacked steps (k + 1) (new ++ stack)

  -- two ranges, after which the step may have an empty one
  two_keep : (step : Step) (first second : Role) (a e : ℕ) → JumpsFit (a ∷ e ∷ []) → ((j : ℕ) → filter (contains j) (ranges_of step) ≡ open_at j (entered at_end first (k + 1) a ∷ entered at_end second a e ∷ [])) → Keeps step (entered at_end first (k + 1) a ∷ entered at_end second a e ∷ [])
  two_keep step first second a e fits same is =
      let up = two_rises k a e fits.rises in
      next_stacked steps k stack end stacked ahead step (entered at_end first (k + 1) a ∷ entered at_end second a e ∷ []) is (two_held steps k stack end stacked ahead e fits.in_section fits.in_range first second a e up.0 up.1 (omega arith)) (omega arith) same

  third_drops : (j : ℕ) (r q : Ranged) (e : ℕ) → filter (contains j) (r ∷ q ∷ ranged Part (span e e) ∷ []) ≡ filter (contains j) (r ∷ q ∷ [])
  third_drops j r q e = ap (λ xs. if contains j r then r ∷ (if contains j q then q ∷ xs else xs) else (if contains j q then q ∷ xs else xs)) (empty_range j e)

  branch_keeps : (args jumps : List ℕ) → JumpsFit jumps → Keeps (branch_step k args jumps) (open_two at_end k Part Part args jumps)
  branch_keeps [] jumps fits is = opens_none steps k stack end stacked ahead (branch_step k [] jumps) is refl
  branch_keeps (c ∷ []) [] fits is = opens_none steps k stack end stacked ahead (branch_step k (c ∷ []) []) is refl
  branch_keeps (c ∷ []) (a ∷ []) fits is = opens_none steps k stack end stacked ahead (branch_step k (c ∷ []) (a ∷ [])) is refl
  branch_keeps (c ∷ []) (a ∷ e ∷ []) fits is = two_keep (branch_step k (c ∷ []) (a ∷ e ∷ [])) Part Part a e fits (λ j. refl) is
  branch_keeps (c ∷ []) (a ∷ e ∷ j ∷ js) fits is = opens_none steps k stack end stacked ahead (branch_step k (c ∷ []) (a ∷ e ∷ j ∷ js)) is refl
  branch_keeps (c ∷ d ∷ more) jumps fits is = opens_none steps k stack end stacked ahead (branch_step k (c ∷ d ∷ more) jumps) is refl

  while_keeps : (args jumps : List ℕ) → JumpsFit jumps → Keeps (while_step k args jumps) (open_two at_end k Part LoopBody args jumps)
  while_keeps [] jumps fits is = opens_none steps k stack end stacked ahead (while_step k [] jumps) is refl
  while_keeps (c ∷ []) [] fits is = opens_none steps k stack end stacked ahead (while_step k (c ∷ []) []) is refl
  while_keeps (c ∷ []) (a ∷ []) fits is = opens_none steps k stack end stacked ahead (while_step k (c ∷ []) (a ∷ [])) is refl
  while_keeps (c ∷ []) (a ∷ e ∷ []) fits is =
      two_keep (while_step k (c ∷ []) (a ∷ e ∷ [])) Part LoopBody a e fits (λ j. third_drops j (ranged Part (span (k + 1) a)) (ranged LoopBody (span a e)) e) is
  while_keeps (c ∷ []) (a ∷ e ∷ j ∷ js) fits is = opens_none steps k stack end stacked ahead (while_step k (c ∷ []) (a ∷ e ∷ j ∷ js)) is refl
  while_keeps (c ∷ d ∷ more) jumps fits is = opens_none steps k stack end stacked ahead (while_step k (c ∷ d ∷ more) jumps) is refl

  do_keeps : (args jumps : List ℕ) → JumpsFit jumps → Keeps (do_step k args jumps) (open_two at_end k LoopBody Part args jumps)
  do_keeps [] jumps fits is = opens_none steps k stack end stacked ahead (do_step k [] jumps) is refl
  do_keeps (c ∷ []) [] fits is = opens_none steps k stack end stacked ahead (do_step k (c ∷ []) []) is refl
  do_keeps (c ∷ []) (a ∷ []) fits is = opens_none steps k stack end stacked ahead (do_step k (c ∷ []) (a ∷ [])) is refl
  do_keeps (c ∷ []) (a ∷ e ∷ []) fits is =
      two_keep (do_step k (c ∷ []) (a ∷ e ∷ [])) LoopBody Part a e fits (λ j. third_drops j (ranged LoopBody (span (k + 1) a)) (ranged Part (span a e)) e) is
  do_keeps (c ∷ []) (a ∷ e ∷ j ∷ js) fits is = opens_none steps k stack end stacked ahead (do_step k (c ∷ []) (a ∷ e ∷ j ∷ js)) is refl
  do_keeps (c ∷ d ∷ more) jumps fits is = opens_none steps k stack end stacked ahead (do_step k (c ∷ d ∷ more) jumps) is refl

  for_keeps : (args jumps : List ℕ) → JumpsFit jumps → Keeps (for_step k args jumps) (open_three at_end k args jumps)
  for_keeps [] jumps fits is = opens_none steps k stack end stacked ahead (for_step k [] jumps) is refl
  for_keeps (c ∷ []) [] fits is = opens_none steps k stack end stacked ahead (for_step k (c ∷ []) []) is refl
  for_keeps (c ∷ []) (a ∷ []) fits is = opens_none steps k stack end stacked ahead (for_step k (c ∷ []) (a ∷ [])) is refl
  for_keeps (c ∷ []) (a ∷ s ∷ []) fits is = opens_none steps k stack end stacked ahead (for_step k (c ∷ []) (a ∷ s ∷ [])) is refl
  for_keeps (c ∷ []) (a ∷ s ∷ e ∷ []) fits is =
      let up = three_rises k a s e fits.rises in
      next_stacked steps k stack end stacked ahead (for_step k (c ∷ []) (a ∷ s ∷ e ∷ [])) (open_three at_end k (c ∷ []) (a ∷ s ∷ e ∷ [])) is (three_held steps k stack end stacked ahead e fits.in_section fits.in_range a s e up.0 up.1 up.2 (omega arith)) (omega arith) (λ j. refl)
  for_keeps (c ∷ []) (a ∷ s ∷ e ∷ j ∷ js) fits is = opens_none steps k stack end stacked ahead (for_step k (c ∷ []) (a ∷ s ∷ e ∷ j ∷ js)) is refl
  for_keeps (c ∷ d ∷ more) jumps fits is = opens_none steps k stack end stacked ahead (for_step k (c ∷ d ∷ more) jumps) is refl

  call_keeps : (args jumps : List ℕ) → JumpsFit jumps → Keeps (call_step k args jumps) (open_one at_end k args jumps)
  call_keeps [] [] fits is = opens_none steps k stack end stacked ahead (call_step k [] []) is refl
  call_keeps [] (e ∷ []) fits is =
      let up = leb-true (k + 1) e (and_both (nat_le (k + 1) e) true fits.rises).0 in
      next_stacked steps k stack end stacked ahead (call_step k [] (e ∷ [])) (open_one at_end k [] (e ∷ [])) is (one_held steps k stack end stacked ahead e fits.in_section fits.in_range CallBody e up (omega arith)) (omega arith) (λ j. refl)
  call_keeps [] (e ∷ j ∷ js) fits is = opens_none steps k stack end stacked ahead (call_step k [] (e ∷ j ∷ js)) is refl
  call_keeps (c ∷ more) jumps fits is = opens_none steps k stack end stacked ahead (call_step k (c ∷ more) jumps) is refl

  compute_ranges : (symbols : List Symbol) (name : OpName) (args : List ℕ) → ranges_of (compute symbols name args) ≡ []
  compute_ranges symbols name [] = refl
  compute_ranges symbols name (target ∷ others) = refl

  named_keeps : (symbols : List Symbol) (name : OpName) (args jumps : List ℕ) → JumpsFit jumps → Keeps (named_step symbols k name args jumps) (open_ranges at_end k name args jumps)
  named_keeps symbols O.If args jumps fits is = branch_keeps args jumps fits is
  named_keeps symbols O.While args jumps fits is = while_keeps args jumps fits is
  named_keeps symbols O.For args jumps fits is = for_keeps args jumps fits is
  named_keeps symbols O.DoWhile args jumps fits is = do_keeps args jumps fits is
  named_keeps symbols O.FunctionCall args jumps fits is = call_keeps args jumps fits is
  named_keeps symbols O.Break args jumps fits is = opens_none steps k stack end stacked ahead (named_step symbols k O.Break args jumps) is refl
  named_keeps symbols O.Continue args jumps fits is = opens_none steps k stack end stacked ahead (named_step symbols k O.Continue args jumps) is refl
  named_keeps symbols O.Return args jumps fits is = opens_none steps k stack end stacked ahead (named_step symbols k O.Return args jumps) is refl
  named_keeps symbols O.Exit args jumps fits is = opens_none steps k stack end stacked ahead (named_step symbols k O.Exit args jumps) is refl
  named_keeps symbols name args jumps fits is = opens_none steps k stack end stacked ahead (compute symbols name args) is (compute_ranges symbols name args)

  -- one op on
  pub op_keeps : (symbols : List Symbol) (op : Op) → JumpsFit op.jumps → slice_get steps k ≡ Some (step_of symbols k op) → Stacked steps (k + 1) (open_ranges at_end k op.name op.args op.jumps ++ stack)
  unfolding step_of
  op_keeps symbols op fits is = named_keeps symbols op.name op.args op.jumps fits is
