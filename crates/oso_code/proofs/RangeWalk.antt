-- A walk over ranges: what it knows at each op, and what it finds.
use Rattle.std.proofs.Common.{◌≡◌, ℕ, ◌+◌, List, [], ◌∷◌, length, Option, Some, None, Bool, true, false, not, refl, ap, ◌∙◌, arith}
use Rattle.std.specs.Prelude.{nat_lt, nat_le, ◌&&◌, ◌||◌, IsTrue}
use Rattle.std.specs.List.{list_all}
use Rattle.std.proofs.lemmas.Bool.{leb-true, leb-false, lt-ltb, le-ltb}
use Rattle.osl_value.specs.declared.op_name.OpName.{OpName}
use Rattle.osl_value.specs.declared.op_name.OpName.TheVariants as O
use Rattle.oso_code.specs.declared.checks.opened.Open.{Open}
use Rattle.oso_code.specs.declared.checks.opened.Inside.{Inside}
use Rattle.oso_code.specs.declared.op.Op.{Op}
use Rattle.oso_code.specs.declared.op.Section.{Section}
use Rattle.oso_code.specs.declared.symbol.Symbol.{Symbol}
use Rattle.oso_code.specs.Ops.{section_at}
use Rattle.oso_code.specs.Ranges.{Ranged, ranges_of, around, ascends, reach, ends_in_section, in_loop_body, leaving_fits, jumps_in_fit}
use Rattle.oso_code.specs.Steps.{Step, step_of, named_step, branch_step, while_step, for_step, do_step, call_step, compute}
use Rattle.oso_code.specs.Symbols.{is_empty}
use Rattle.oso_code.specs.Valid.{nests_within, most_nested}
use Rattle.oso_code.specs.Walk.{inside_of, opens_two, opens_three, opens_one, opens, may_leave, fits_inside, section_end}
use Rattle.oso_code.proofs.Members.{and_both}
use Rattle.oso_code.proofs.Walked.{open_at, Ahead, Stacked, StandsIn, stands_in}
use Rattle.oso_code.proofs.OpeningOps.{JumpsFit}

-- ---- what an op is, by its form

module _ (rs : List Ranged) (k : ℕ) where
  -- what does not leave may be anywhere, and has ranges by its form
  pub record Stays (step : Step) (o : Bool) : Type 0 where
    pub leaves : leaving_fits rs step ≡ true
    pub ranges : is_empty (ranges_of step) ≡ not o

  branch_stays : (args jumps : List ℕ) → Stays (branch_step k args jumps) (opens_two args jumps)
  branch_stays [] jumps = record { leaves = refl; ranges = refl }
  branch_stays (c ∷ []) [] = record { leaves = refl; ranges = refl }
  branch_stays (c ∷ []) (a ∷ []) = record { leaves = refl; ranges = refl }
  branch_stays (c ∷ []) (a ∷ e ∷ []) = record { leaves = refl; ranges = refl }
  branch_stays (c ∷ []) (a ∷ e ∷ j ∷ js) = record { leaves = refl; ranges = refl }
  branch_stays (c ∷ d ∷ more) jumps = record { leaves = refl; ranges = refl }

  while_stays : (args jumps : List ℕ) → Stays (while_step k args jumps) (opens_two args jumps)
  while_stays [] jumps = record { leaves = refl; ranges = refl }
  while_stays (c ∷ []) [] = record { leaves = refl; ranges = refl }
  while_stays (c ∷ []) (a ∷ []) = record { leaves = refl; ranges = refl }
  while_stays (c ∷ []) (a ∷ e ∷ []) = record { leaves = refl; ranges = refl }
  while_stays (c ∷ []) (a ∷ e ∷ j ∷ js) = record { leaves = refl; ranges = refl }
  while_stays (c ∷ d ∷ more) jumps = record { leaves = refl; ranges = refl }

  do_stays : (args jumps : List ℕ) → Stays (do_step k args jumps) (opens_two args jumps)
  do_stays [] jumps = record { leaves = refl; ranges = refl }
  do_stays (c ∷ []) [] = record { leaves = refl; ranges = refl }
  do_stays (c ∷ []) (a ∷ []) = record { leaves = refl; ranges = refl }
  do_stays (c ∷ []) (a ∷ e ∷ []) = record { leaves = refl; ranges = refl }
  do_stays (c ∷ []) (a ∷ e ∷ j ∷ js) = record { leaves = refl; ranges = refl }
  do_stays (c ∷ d ∷ more) jumps = record { leaves = refl; ranges = refl }

  for_stays : (args jumps : List ℕ) → Stays (for_step k args jumps) (opens_three args jumps)
  for_stays [] jumps = record { leaves = refl; ranges = refl }
  for_stays (c ∷ []) [] = record { leaves = refl; ranges = refl }
  for_stays (c ∷ []) (a ∷ []) = record { leaves = refl; ranges = refl }
  for_stays (c ∷ []) (a ∷ s ∷ []) = record { leaves = refl; ranges = refl }
  for_stays (c ∷ []) (a ∷ s ∷ e ∷ []) = record { leaves = refl; ranges = refl }
  for_stays (c ∷ []) (a ∷ s ∷ e ∷ j ∷ js) = record { leaves = refl; ranges = refl }
  for_stays (c ∷ d ∷ more) jumps = record { leaves = refl; ranges = refl }

  call_stays : (args jumps : List ℕ) → Stays (call_step k args jumps) (opens_one args jumps)
  call_stays [] [] = record { leaves = refl; ranges = refl }
  call_stays [] (e ∷ []) = record { leaves = refl; ranges = refl }
  call_stays [] (e ∷ j ∷ js) = record { leaves = refl; ranges = refl }
  call_stays (c ∷ more) jumps = record { leaves = refl; ranges = refl }

  compute_stays : (symbols : List Symbol) (name : OpName) (args : List ℕ) → Stays (compute symbols name args) false
  compute_stays symbols name [] = record { leaves = refl; ranges = refl }
  compute_stays symbols name (target ∷ others) = record { leaves = refl; ranges = refl }

  named_leaves : (symbols : List Symbol) (name : OpName) (args jumps : List ℕ) → leaving_fits rs (named_step symbols k name args jumps) ≡ may_leave name (in_loop_body rs)
  named_leaves symbols O.If args jumps = (branch_stays args jumps).leaves
  named_leaves symbols O.While args jumps = (while_stays args jumps).leaves
  named_leaves symbols O.For args jumps = (for_stays args jumps).leaves
  named_leaves symbols O.DoWhile args jumps = (do_stays args jumps).leaves
  named_leaves symbols O.FunctionCall args jumps = (call_stays args jumps).leaves
  named_leaves symbols O.Break args jumps = refl
  named_leaves symbols O.Continue args jumps = refl
  named_leaves symbols O.Return args jumps = refl
  named_leaves symbols O.Exit args jumps = refl
  named_leaves symbols name args jumps = (compute_stays symbols name args).leaves

  named_opens : (symbols : List Symbol) (name : OpName) (args jumps : List ℕ) → is_empty (ranges_of (named_step symbols k name args jumps)) ≡ not (opens name args jumps)
  named_opens symbols O.If args jumps = (branch_stays args jumps).ranges
  named_opens symbols O.While args jumps = (while_stays args jumps).ranges
  named_opens symbols O.For args jumps = (for_stays args jumps).ranges
  named_opens symbols O.DoWhile args jumps = (do_stays args jumps).ranges
  named_opens symbols O.FunctionCall args jumps = (call_stays args jumps).ranges
  named_opens symbols O.Break args jumps = refl
  named_opens symbols O.Continue args jumps = refl
  named_opens symbols O.Return args jumps = refl
  named_opens symbols O.Exit args jumps = refl
  named_opens symbols name args jumps = (compute_stays symbols name args).ranges

  pub op_leaves : (symbols : List Symbol) (op : Op) → leaving_fits rs (step_of symbols k op) ≡ may_leave op.name (in_loop_body rs)
  unfolding step_of
  op_leaves symbols op = named_leaves symbols op.name op.args op.jumps

  pub op_opens : (symbols : List Symbol) (op : Op) → is_empty (ranges_of (step_of symbols k op)) ≡ not (opens op.name op.args op.jumps)
  unfolding step_of
  op_opens symbols op = named_opens symbols op.name op.args op.jumps

-- ---- whether it fits

if_first : (p q r : Bool) → (IsTrue p → q ≡ r) → (p && q) ≡ (p && r)
if_first true q r h = h refl
if_first false q r h = refl

ends_there : (end : ℕ) (section : Option Section) → IsTrue (ends_in_section end section) → IsTrue (nat_le end (section_end section))
ends_there end None h = absurd (cc h)
ends_there end (Some section) h = h

module _ (symbols : List Symbol) (sections : List Section) (steps : List Step) (k : ℕ) (stack : List Open) (stacked : Stacked steps k stack) (ahead : Ahead k stack) where
  abbrev end : ℕ
  end = section_end (section_at sections k)

  abbrev here : Inside
  here = inside_of end stack

  around_is : around steps k ≡ open_at k stack
  around_is = stacked.same k (omega arith)

  abbrev stands : StandsIn (open_at k stack) here end k
  stands = stands_in k stack end stacked.held stacked.begun ahead

  pub fit_is : (op : Op) → jumps_in_fit symbols sections steps k op ≡ fits_inside op k (section_at sections k) here
  fit_is op =
      let limit = reach (k + 1) op.jumps in
      let first = ascends (k + 1) op.jumps && ends_in_section limit (section_at sections k) in
      if_first first (list_all (λ r. nat_le limit r.span.end) (around steps k) && leaving_fits (around steps k) (step_of symbols k op)) (nat_le limit here.end && may_leave op.name here.in_loop)
      (λ h.
      let within = ends_there limit (section_at sections k) (and_both (ascends (k + 1) op.jumps) (ends_in_section limit (section_at sections k)) h).1 in
      (λ i. list_all (λ r. nat_le limit r.span.end) (around_is i) && leaving_fits (around_is i) (step_of symbols k op))
      ∙ (λ i. stands.ends limit within i && op_leaves (open_at k stack) k symbols op i)
      ∙ ap (λ b. nat_le limit here.end && may_leave op.name b) stands.loop)

  pub fits_jumps : (op : Op) → IsTrue (fits_inside op k (section_at sections k) here) → JumpsFit steps k stack end stacked ahead op.jumps
  fits_jumps op h =
      let limit = reach (k + 1) op.jumps in
      let all = and_both (ascends (k + 1) op.jumps && ends_in_section limit (section_at sections k)) (nat_le limit here.end && may_leave op.name here.in_loop) h in
      let first = and_both (ascends (k + 1) op.jumps) (ends_in_section limit (section_at sections k)) all.0 in
      record {
        rises = first.0;
        in_section = leb-true limit end (ends_there limit (section_at sections k) first.1);
        in_range = leb-true limit here.end (and_both (nat_le limit here.end) (may_leave op.name here.in_loop) all.1).0;
      }

  lt_not : (d m : ℕ) → nat_lt d m ≡ not (nat_le m d)
  lt_not d m = go (nat_le m d) refl
    where
      go : (b : Bool) → nat_le m d ≡ b → nat_lt d m ≡ not b
      go true h = le-ltb d m (leb-true m d h)
      go false h = lt-ltb d m (leb-false m d h)

  either_not : (o n : Bool) → (not o || not n) ≡ not (o && n)
  either_not true n = refl
  either_not false n = refl

  pub nest_is : (op : Op) → nests_within steps k (step_of symbols k op) ≡ not (opens op.name op.args op.jumps && nat_le most_nested here.depth)
  nest_is op =
      (λ i. op_opens (open_at k stack) k symbols op i || nat_lt (length (around_is i)) most_nested)
      ∙ ap (λ n. not (opens op.name op.args op.jumps) || nat_lt n most_nested) stands.depth
      ∙ ap (λ b. not (opens op.name op.args op.jumps) || b) (lt_not here.depth most_nested)
      ∙ either_not (opens op.name op.args op.jumps) (nat_le most_nested here.depth)
