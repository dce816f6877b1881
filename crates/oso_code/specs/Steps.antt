-- What an op of code does, with the ranges of ops that it runs (oso text, control ops).
use Rattle.std.specs.Prelude.{ℕ, ◌+◌, Bool, true, false, List, [], ◌∷◌}
use Rattle.osl_value.specs.declared.op_name.OpName.{OpName}
use Rattle.osl_value.specs.declared.op_name.OpName.TheVariants as O
use Rattle.osl_value.specs.declared.types.Ty.{Ty}
use Rattle.oso_code.specs.declared.op.Op.{Op}
use Rattle.oso_code.specs.declared.symbol.Symbol.{Symbol}
use Rattle.oso_code.specs.Ops.{operands, type_at}

-- the ops from `start` up to `end`
pub record Span : Type 0 where
  pub start : ℕ
  pub end : ℕ

abbrev pub span : ℕ → ℕ → Span
span start end = record { start = start; end = end }

-- a way out of a range other than its end
pub data Way : Type 0 where
  Break : Way
  Continue : Way
  Return : Way
  Exit : Way

pub data Step : Type 0 where
  -- an operation with a value: the type that is written, the symbol that is written, and those that are read
  Compute : OpName → Ty → (target : ℕ) → (sources : List ℕ) → Step
  -- a condition, and the ranges that are run where it holds and where it does not
  Branch : (condition : ℕ) → (holds fails : Span) → Step
  -- whether the condition is tested before the first turn; the condition; the ranges of the condition, the body and the step
  Loop : (tested : Bool) → (condition : ℕ) → (test body step : Span) → Step
  -- a range that a return leaves
  Call : (body : Span) → Step
  Leave : Way → Step

-- an operation with a value writes its first argument
abbrev pub compute : List Symbol → OpName → List ℕ → Step
compute symbols name [] = Leave Exit
compute symbols name (target ∷ others) = Compute name (type_at symbols target) target (operands name (target ∷ others))

-- the op at `at`, by its name, arguments and jumps; what is not valid leaves the layer
abbrev pub branch_step : ℕ → List ℕ → List ℕ → Step
branch_step at (c ∷ []) (a ∷ e ∷ []) = Branch c (span (at + 1) a) (span a e)
branch_step at args jumps = Leave Exit

abbrev pub while_step : ℕ → List ℕ → List ℕ → Step
while_step at (c ∷ []) (a ∷ e ∷ []) = Loop true c (span (at + 1) a) (span a e) (span e e)
while_step at args jumps = Leave Exit

abbrev pub for_step : ℕ → List ℕ → List ℕ → Step
for_step at (c ∷ []) (a ∷ s ∷ e ∷ []) = Loop true c (span (at + 1) a) (span a s) (span s e)
for_step at args jumps = Leave Exit

abbrev pub do_step : ℕ → List ℕ → List ℕ → Step
do_step at (c ∷ []) (a ∷ e ∷ []) = Loop false c (span a e) (span (at + 1) a) (span e e)
do_step at args jumps = Leave Exit

abbrev pub call_step : ℕ → List ℕ → List ℕ → Step
call_step at [] (e ∷ []) = Call (span (at + 1) e)
call_step at args jumps = Leave Exit

abbrev pub named_step : List Symbol → ℕ → OpName → List ℕ → List ℕ → Step
named_step symbols at O.If args jumps = branch_step at args jumps
named_step symbols at O.While args jumps = while_step at args jumps
named_step symbols at O.For args jumps = for_step at args jumps
named_step symbols at O.DoWhile args jumps = do_step at args jumps
named_step symbols at O.FunctionCall args jumps = call_step at args jumps
named_step symbols at O.Break args jumps = Leave Break
named_step symbols at O.Continue args jumps = Leave Continue
named_step symbols at O.Return args jumps = Leave Return
named_step symbols at O.Exit args jumps = Leave Exit
named_step symbols at name args jumps = compute symbols name args

unfoldable pub step_of : List Symbol → ℕ → Op → Step
step_of symbols at op = named_step symbols at op.name op.args op.jumps

abbrev pub steps_from : List Symbol → ℕ → List Op → List Step
steps_from symbols at [] = []
steps_from symbols at (op ∷ ops) = step_of symbols at op ∷ steps_from symbols (at + 1) ops
