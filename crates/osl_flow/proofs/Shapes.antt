-- The ranges of an op of code follow each other from the op on.
use Rattle.std.proofs.Common.{◌≡◌, ℕ, ◌+◌, List, [], ◌∷◌, true, false, Some, refl, sym, subst}
use Rattle.std.specs.Prelude.{slice_get}
use Rattle.osl_value.specs.declared.op_name.OpName.{OpName}
use Rattle.osl_value.specs.declared.op_name.OpName.TheVariants as O
use Rattle.oso_code.specs.Ranges.{steps_of}
use Rattle.oso_code.specs.Steps.{Step, Compute, Branch, Loop, Call, Leave, step_of, named_step, branch_step, while_step, for_step, do_step, call_step, compute}
use Rattle.oso_code.specs.declared.raw.Raw.{Raw}
use Rattle.oso_code.specs.declared.symbol.Symbol.{Symbol}
use Rattle.oso_code.proofs.Decoding.{came_from}

abbrev pub Shape : ℕ → Step → Type 0
Shape i (Compute name ty target sources) = Unit {0}
Shape i (Branch c holds fails) = (holds.start ≡ i + 1) × (holds.end ≡ fails.start)
Shape i (Loop true c test body step) = (test.start ≡ i + 1) × (test.end ≡ body.start) × (body.end ≡ step.start)
Shape i (Loop false c test body step) = (body.start ≡ i + 1) × (body.end ≡ test.start) × (test.end ≡ step.start)
Shape i (Call body) = body.start ≡ i + 1
Shape i (Leave way) = Unit {0}

branch_shape : (i : ℕ) (args jumps : List ℕ) → Shape i (branch_step i args jumps)
branch_shape i (c ∷ []) (a ∷ e ∷ []) = (refl, refl)
branch_shape i args jumps = tt

while_shape : (i : ℕ) (args jumps : List ℕ) → Shape i (while_step i args jumps)
while_shape i (c ∷ []) (a ∷ e ∷ []) = (refl, refl, refl)
while_shape i args jumps = tt

for_shape : (i : ℕ) (args jumps : List ℕ) → Shape i (for_step i args jumps)
for_shape i (c ∷ []) (a ∷ s ∷ e ∷ []) = (refl, refl, refl)
for_shape i args jumps = tt

do_shape : (i : ℕ) (args jumps : List ℕ) → Shape i (do_step i args jumps)
do_shape i (c ∷ []) (a ∷ e ∷ []) = (refl, refl, refl)
do_shape i args jumps = tt

call_shape : (i : ℕ) (args jumps : List ℕ) → Shape i (call_step i args jumps)
call_shape i [] (e ∷ []) = refl
call_shape i args jumps = tt

compute_shape : (symbols : List Symbol) (i : ℕ) (name : OpName) (args : List ℕ) → Shape i (compute symbols name args)
compute_shape symbols i name [] = tt
compute_shape symbols i name (target ∷ others) = tt

named_shape : (symbols : List Symbol) (i : ℕ) (name : OpName) (args jumps : List ℕ) → Shape i (named_step symbols i name args jumps)
named_shape symbols i O.If args jumps = branch_shape i args jumps
named_shape symbols i O.While args jumps = while_shape i args jumps
named_shape symbols i O.For args jumps = for_shape i args jumps
named_shape symbols i O.DoWhile args jumps = do_shape i args jumps
named_shape symbols i O.FunctionCall args jumps = call_shape i args jumps
named_shape symbols i O.Break args jumps = tt
named_shape symbols i O.Continue args jumps = tt
named_shape symbols i O.Return args jumps = tt
named_shape symbols i O.Exit args jumps = tt
named_shape symbols i name args jumps = compute_shape symbols i name args

pub shaped : (raw : Raw) (i : ℕ) (step : Step) → slice_get (steps_of raw) i ≡ Some step → Shape i step
unfolding step_of
shaped raw i step is = let from = came_from raw i step is in subst (Shape i) (sym from.is) (named_shape raw.symbols i from.op.name from.op.args from.op.jumps)
