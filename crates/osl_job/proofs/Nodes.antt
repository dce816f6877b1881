-- What each node of an expression gives, from what its parts give.
use Rattle.std.proofs.Common.{◌≡◌, ℕ, Bool, true, ◌&&◌, nat_lt, sym, ap, ◌∙◌}
use Rattle.std.specs.Prelude.{ℤ}
use Rattle.osl_job.specs.declared.small.SumOp.{SumOp}
use Rattle.osl_job.specs.declared.small.Expr.{Expr, fold-Expr, fold-roll-Expr}
use Rattle.osl_job.specs.declared.small.Expr.TheOpen as node
use Rattle.osl_job.specs.declared.small.Expr.TheVariants.{Const, Var, Apply, rolls-Const, rolls-Var, rolls-Apply}
use Rattle.osl_job.specs.SmallNames.{fits, fits_step}
use Rattle.osl_job.specs.SmallRun.{Environment, eval, expr_step, apply}

pub eval-Const : (env : Environment) (value : ℤ) → eval env (Const value) ≡ value
unfolding eval
eval-Const env value = ap (fold-Expr ℤ (expr_step env)) (sym (rolls-Const value)) ∙ fold-roll-Expr ℤ (expr_step env) (node.Const value)

pub eval-Var : (env : Environment) (k : ℕ) → eval env (Var k) ≡ env k
unfolding eval
eval-Var env k = ap (fold-Expr ℤ (expr_step env)) (sym (rolls-Var k)) ∙ fold-roll-Expr ℤ (expr_step env) (node.Var k)

pub eval-Apply : (env : Environment) (op : SumOp) (a b : Expr) → eval env (Apply op a b) ≡ apply op (eval env a) (eval env b)
unfolding eval
eval-Apply env op a b = ap (fold-Expr ℤ (expr_step env)) (sym (rolls-Apply op a b)) ∙ fold-roll-Expr ℤ (expr_step env) (node.Apply op a b)

pub fits-Const : (n : ℕ) (value : ℤ) → fits n (Const value) ≡ true
unfolding fits
fits-Const n value = ap (fold-Expr Bool (fits_step n)) (sym (rolls-Const value)) ∙ fold-roll-Expr Bool (fits_step n) (node.Const value)

pub fits-Var : (n k : ℕ) → fits n (Var k) ≡ nat_lt k n
unfolding fits
fits-Var n k = ap (fold-Expr Bool (fits_step n)) (sym (rolls-Var k)) ∙ fold-roll-Expr Bool (fits_step n) (node.Var k)

pub fits-Apply : (n : ℕ) (op : SumOp) (a b : Expr) → fits n (Apply op a b) ≡ (fits n a && fits n b)
unfolding fits
fits-Apply n op a b = ap (fold-Expr Bool (fits_step n)) (sym (rolls-Apply op a b)) ∙ fold-roll-Expr Bool (fits_step n) (node.Apply op a b)
