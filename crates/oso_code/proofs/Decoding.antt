-- The steps of ops: which step is where, and where an op's ranges end.
use Rattle.std.proofs.Common.{◌≡◌, ℕ, zero, suc, ◌+◌, ◌<◌, List, [], ◌∷◌, length, Option, Some, None, refl, sym, ap, ◌∙◌, arith}
use Rattle.std.specs.Prelude.{slice_get, option_map, map, ◌==◌, IsTrue}
use Rattle.std.proofs.lemmas.Bool.{eqb-true}
use Rattle.osl_value.specs.declared.op_name.OpName.{OpName}
use Rattle.osl_value.specs.declared.op_name.OpName.TheVariants as O
use Rattle.oso_code.specs.declared.op.Op.{Op}
use Rattle.oso_code.specs.declared.raw.Raw.{Raw}
use Rattle.oso_code.specs.declared.symbol.Symbol.{Symbol}
use Rattle.oso_code.specs.Nesting.{after}
use Rattle.oso_code.specs.Ops.{is_conditional, range_count, takes_condition, takes_types, type_at}
use Rattle.oso_code.specs.Ranges.{reach, steps_of}
use Rattle.oso_code.specs.Steps.{Step, step_of, steps_from, named_step, compute, branch_step, while_step, for_step, do_step, call_step}
use Rattle.oso_code.proofs.Fitting.{some_same}

steps_at : (symbols : List Symbol) (at : ℕ) (ops : List Op) (k : ℕ) → slice_get (steps_from symbols at ops) k ≡ option_map (step_of symbols (at + k)) (slice_get ops k)
steps_at symbols at [] k = refl
steps_at symbols at (op ∷ ops) zero = let n : at ≡ at + 0 = omega arith in ap (λ j. Some (step_of symbols j op)) n
steps_at symbols at (op ∷ ops) (suc k) =
    let n : (at + 1) + k ≡ at + suc k = omega arith in
    steps_at symbols (at + 1) ops k ∙ ap (λ j. option_map (step_of symbols j) (slice_get ops k)) n

pub length_steps : (symbols : List Symbol) (at : ℕ) (ops : List Op) → length (steps_from symbols at ops) ≡ length ops
length_steps symbols at [] = refl
length_steps symbols at (op ∷ ops) = let h = length_steps symbols (at + 1) ops in omega (arith, h)

pub steps_get : (symbols : List Symbol) (ops : List Op) (k : ℕ) (op : Op) → slice_get ops k ≡ Some op → slice_get (steps_from symbols 0 ops) k ≡ Some (step_of symbols k op)
steps_get symbols ops k op is =
    let n : 0 + k ≡ k = omega arith in
    steps_at symbols 0 ops k ∙ ap (λ j. option_map (step_of symbols j) (slice_get ops k)) n ∙ ap (option_map (step_of symbols k)) is

-- the step of an op
pub step_at : (raw : Raw) (k : ℕ) (op : Op) → slice_get raw.ops k ≡ Some op → slice_get (steps_of raw) k ≡ Some (step_of raw.symbols k op)
step_at raw k op is =
    let n : 0 + k ≡ k = omega arith in
    steps_at raw.symbols 0 raw.ops k ∙ ap (λ j. option_map (step_of raw.symbols j) (slice_get raw.ops k)) n ∙ ap (option_map (step_of raw.symbols k)) is

-- the op of a step
pub record CameFrom (raw : Raw) (k : ℕ) (step : Step) : Type 0 where
  pub op : Op
  pub here : slice_get raw.ops k ≡ Some op
  pub is : step ≡ step_of raw.symbols k op

came_by : (raw : Raw) (k : ℕ) (step : Step) (o : Option Op) → slice_get raw.ops k ≡ o → option_map (step_of raw.symbols k) o ≡ Some step → CameFrom raw k step
came_by raw k step None is h = absurd (cc h)
came_by raw k step (Some op) is h = record { op = op; here = is; is = sym (some_same (step_of raw.symbols k op) step h) }

pub came_from : (raw : Raw) (k : ℕ) (step : Step) → slice_get (steps_of raw) k ≡ Some step → CameFrom raw k step
came_from raw k step is =
    let n : 0 + k ≡ k = omega arith in
    came_by raw k step (slice_get raw.ops k) refl (sym (steps_at raw.symbols 0 raw.ops k ∙ ap (λ j. option_map (step_of raw.symbols j) (slice_get raw.ops k)) n) ∙ is)

-- ---- where ranges end

abbrev Ends : List Symbol → ℕ → OpName → List ℕ → List ℕ → Type 0
Ends symbols k name args jumps =
    IsTrue (length jumps == range_count name) → IsTrue (takes_types name (map (type_at symbols) args)) → after k (named_step symbols k name args jumps) ≡ reach (k + 1) jumps

no_jumps : (k : ℕ) (jumps : List ℕ) → IsTrue (length jumps == 0) → reach k jumps ≡ k
no_jumps k [] h = refl
no_jumps k (j ∷ js) h = let n = eqb-true (length (j ∷ js)) 0 h in absurd (omega (arith, n))

compute_ends : (symbols : List Symbol) (k : ℕ) (name : OpName) (args : List ℕ) → after k (compute symbols name args) ≡ k + 1
compute_ends symbols k name [] = refl
compute_ends symbols k name (target ∷ others) = refl

-- ---- the arguments and jumps of control ops

not_long : {X : Type 0} (xs : List X) (n : ℕ) → n < length xs → IsTrue (length xs == n) → ⊥
not_long xs n lt h = let e = eqb-true (length xs) n h in omega (arith, e, lt)

not_short : {X : Type 0} (xs : List X) (n : ℕ) → length xs < n → IsTrue (length xs == n) → ⊥
not_short xs n lt h = let e = eqb-true (length xs) n h in omega (arith, e, lt)

-- a condition and two jumps, a condition and three, one jump alone
pub data WithTwo : List ℕ → List ℕ → Type 0 where
  two : (c a e : ℕ) → WithTwo (c ∷ []) (a ∷ e ∷ [])

pub data WithThree : List ℕ → List ℕ → Type 0 where
  three : (c a s e : ℕ) → WithThree (c ∷ []) (a ∷ s ∷ e ∷ [])

pub data WithOne : List ℕ → List ℕ → Type 0 where
  one : (e : ℕ) → WithOne [] (e ∷ [])

module _ (symbols : List Symbol) where
  pub with_two : (name : OpName) → IsTrue (is_conditional name) → (args jumps : List ℕ) → IsTrue (length jumps == 2) → IsTrue (takes_condition name (map (type_at symbols) args)) → WithTwo args jumps
  with_two name con args [] n t = absurd (not_short {X = ℕ} [] 2 (omega arith) n)
  with_two name con args (a ∷ []) n t = absurd (not_short (a ∷ []) 2 (omega arith) n)
  with_two name con [] (a ∷ e ∷ []) n t = absurd (cc (con, t))
  with_two name con (c ∷ []) (a ∷ e ∷ []) n t = two c a e
  with_two name con (c ∷ d ∷ more) (a ∷ e ∷ []) n t = absurd (cc t)
  with_two name con args (a ∷ e ∷ j ∷ js) n t = absurd (not_long (a ∷ e ∷ j ∷ js) 2 (omega arith) n)

  pub with_three : (args jumps : List ℕ) → IsTrue (length jumps == 3) → IsTrue (takes_condition O.For (map (type_at symbols) args)) → WithThree args jumps
  with_three args [] n t = absurd (not_short {X = ℕ} [] 3 (omega arith) n)
  with_three args (a ∷ []) n t = absurd (not_short (a ∷ []) 3 (omega arith) n)
  with_three args (a ∷ s ∷ []) n t = absurd (not_short (a ∷ s ∷ []) 3 (omega arith) n)
  with_three [] (a ∷ s ∷ e ∷ []) n t = absurd (cc t)
  with_three (c ∷ []) (a ∷ s ∷ e ∷ []) n t = three c a s e
  with_three (c ∷ d ∷ more) (a ∷ s ∷ e ∷ []) n t = absurd (cc t)
  with_three args (a ∷ s ∷ e ∷ j ∷ js) n t = absurd (not_long (a ∷ s ∷ e ∷ j ∷ js) 3 (omega arith) n)

  pub with_one : (args jumps : List ℕ) → IsTrue (length jumps == 1) → IsTrue (takes_condition O.FunctionCall (map (type_at symbols) args)) → WithOne args jumps
  with_one args [] n t = absurd (not_short {X = ℕ} [] 1 (omega arith) n)
  with_one [] (e ∷ []) n t = one e
  with_one (c ∷ []) (e ∷ []) n t = absurd (cc t)
  with_one (c ∷ d ∷ more) (e ∷ []) n t = absurd (cc t)
  with_one args (e ∷ j ∷ js) n t = absurd (not_long (e ∷ j ∷ js) 1 (omega arith) n)

-- ---- where their ranges end

branch_ends : (k : ℕ) (args jumps : List ℕ) → WithTwo args jumps → after k (branch_step k args jumps) ≡ reach (k + 1) jumps
branch_ends k _ _ (two c a e) = refl

while_ends : (k : ℕ) (args jumps : List ℕ) → WithTwo args jumps → after k (while_step k args jumps) ≡ reach (k + 1) jumps
while_ends k _ _ (two c a e) = refl

for_ends : (k : ℕ) (args jumps : List ℕ) → WithThree args jumps → after k (for_step k args jumps) ≡ reach (k + 1) jumps
for_ends k _ _ (three c a s e) = refl

do_ends : (k : ℕ) (args jumps : List ℕ) → WithTwo args jumps → after k (do_step k args jumps) ≡ reach (k + 1) jumps
do_ends k _ _ (two c a e) = refl

call_ends : (k : ℕ) (args jumps : List ℕ) → WithOne args jumps → after k (call_step k args jumps) ≡ reach (k + 1) jumps
call_ends k _ _ (one e) = refl

named_ends : (symbols : List Symbol) (k : ℕ) (name : OpName) (args jumps : List ℕ) → Ends symbols k name args jumps
named_ends symbols k O.If args jumps n t = branch_ends k args jumps (with_two symbols O.If refl args jumps n t)
named_ends symbols k O.While args jumps n t = while_ends k args jumps (with_two symbols O.While refl args jumps n t)
named_ends symbols k O.For args jumps n t = for_ends k args jumps (with_three symbols args jumps n t)
named_ends symbols k O.DoWhile args jumps n t = do_ends k args jumps (with_two symbols O.DoWhile refl args jumps n t)
named_ends symbols k O.FunctionCall args jumps n t = call_ends k args jumps (with_one symbols args jumps n t)
named_ends symbols k O.Break args jumps n t = sym (no_jumps (k + 1) jumps n)
named_ends symbols k O.Continue args jumps n t = sym (no_jumps (k + 1) jumps n)
named_ends symbols k O.Return args jumps n t = sym (no_jumps (k + 1) jumps n)
named_ends symbols k O.Exit args jumps n t = sym (no_jumps (k + 1) jumps n)
named_ends symbols k name args jumps n t = compute_ends symbols k name args ∙ sym (no_jumps (k + 1) jumps n)

-- the range around a valid op goes on at its last jump
pub after_reach : (symbols : List Symbol) (k : ℕ) (op : Op) → IsTrue (length op.jumps == range_count op.name) → IsTrue (takes_types op.name (map (type_at symbols) op.args)) → after k (step_of symbols k op) ≡ reach (k + 1) op.jumps
unfolding step_of
after_reach symbols k op n t = named_ends symbols k op.name op.args op.jumps n t
