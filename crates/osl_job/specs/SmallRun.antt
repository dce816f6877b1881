-- The meaning of a shader of the small form: OSL specification, sections "Shader parameters", "Expressions" and "Statements". A float stands as its units.
use Rattle.std.specs.Prelude.{ℕ, ◌+◌, ◌==◌, List, [], ◌∷◌, ℤ, pos, if◌then◌else◌}
use Rattle.osl_value.specs.Numbers.{fx_add, fx_sub}
use Rattle.osl_job.specs.declared.small.SumOp.{SumOp}
use Rattle.osl_job.specs.declared.small.SumOp.TheVariants.{Add, Sub}
use Rattle.osl_job.specs.declared.small.Expr.{Expr, Expr-F, fold-Expr}
use Rattle.osl_job.specs.declared.small.Expr.TheOpen.{Const, Var, Apply}
use Rattle.osl_job.specs.declared.small.Param.{Param}
use Rattle.osl_job.specs.declared.small.Assignment.{Assignment}
use Rattle.osl_job.specs.declared.small.SmallShader.{SmallShader}

-- the values of the variables, by their numbers
abbrev pub Environment : Type 0
Environment = ℕ → ℤ

-- every variable starts at zero
abbrev pub zeros : Environment
zeros = λ k. pos 0

-- the environment in which variable k has this value, and the others theirs
unfoldable pub write : ℕ → ℤ → Environment → Environment
write k value env = λ j. if j == k then value else env j

-- the value of an operation
abbrev pub apply : SumOp → ℤ → ℤ → ℤ
apply Add a b = fx_add a b
apply Sub a b = fx_sub a b

-- one node of an expression, from the values of its parts
abbrev pub expr_step : Environment → Expr-F ℤ → ℤ
expr_step env (Const value) = value
expr_step env (Var k) = env k
expr_step env (Apply op a b) = apply op a b

-- the value of an expression
unfoldable pub eval : Environment → Expr → ℤ
eval env e = fold-Expr ℤ (expr_step env) e

-- the environment after assignments, made in order
abbrev pub exec : List Assignment → Environment → Environment
exec [] env = env
exec (s ∷ rest) env = exec rest (write s.target (eval env s.value) env)

-- the environment after the parameters from the k-th on were given their defaults, in order
abbrev pub hold_defaults : ℕ → List Param → Environment → Environment
hold_defaults k [] env = env
hold_defaults k (p ∷ rest) env = hold_defaults (k + 1) rest (write k (eval env p.default) env)

-- A layer run from its source: its parameters hold their defaults, and then its body is run. The answer is the environment at its end.
abbrev pub small_run : SmallShader → Environment
small_run t = exec t.body (hold_defaults 0 t.params zeros)
