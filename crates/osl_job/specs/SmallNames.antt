-- Which names a shader of the small form has, and whether its variables are its parameters: OSL specification, sections "Shader parameters" and "Variable declarations".
use Rattle.std.specs.Prelude.{ℕ, List, length, Bool, true, ◌&&◌, Option, nat_lt, bytes_eq}
use Rattle.std.specs.List.{list_all, position_from}
use Rattle.osl_job.specs.declared.small.Expr.{Expr, Expr-F, fold-Expr}
use Rattle.osl_job.specs.declared.small.Expr.TheOpen.{Const, Var, Apply}
use Rattle.osl_job.specs.declared.small.Param.{Param}
use Rattle.osl_job.specs.declared.small.Assignment.{Assignment}
use Rattle.osl_job.specs.declared.small.SmallShader.{SmallShader}

-- the number of the first parameter of this name
abbrev pub param_named : List Param → List ℕ → Option ℕ
param_named params name = position_from (λ p. bytes_eq p.name name) 0 params

-- the number of the first output parameter of this name
abbrev pub output_named : List Param → List ℕ → Option ℕ
output_named params name = position_from (λ p. p.output && bytes_eq p.name name) 0 params

-- one node of an expression: whether its variables are among the first n, from what holds of its parts
abbrev pub fits_step : ℕ → Expr-F Bool → Bool
fits_step n (Const v) = true
fits_step n (Var k) = nat_lt k n
fits_step n (Apply op a b) = a && b

-- the variables of an expression are among the first n
unfoldable pub fits : ℕ → Expr → Bool
fits n e = fold-Expr Bool (fits_step n) e

-- an assignment speaks of the first n variables
abbrev pub assignment_fits : ℕ → Assignment → Bool
assignment_fits n s = nat_lt s.target n && fits n s.value

-- each variable in the shader is one of its parameters
abbrev pub is_tied : SmallShader → Bool
is_tied t = list_all (λ p. fits (length t.params) p.default) t.params && list_all (assignment_fits (length t.params)) t.body
