-- What is read is tied to its parameters.
use Rattle.std.proofs.Common.{◌≡◌, ℕ, ◌<◌, List, [], ◌∷◌, ◌++◌, true, ◌&&◌, nat_lt, refl, ap, ◌∙◌}
use Rattle.std.specs.Prelude.{ℤ}
use Rattle.std.specs.List.{list_all}
use Rattle.std.proofs.lemmas.Bool.{lt-ltb}
use Rattle.std.proofs.lemmas.List.Folds.{list_all-append}
use Rattle.osl_job.specs.declared.small.SumOp.{SumOp}
use Rattle.osl_job.specs.declared.small.Expr.{Expr}
use Rattle.osl_job.specs.declared.small.Expr.TheVariants.{Const, Var, Apply}
use Rattle.osl_job.specs.declared.small.Param.{Param}
use Rattle.osl_job.specs.declared.small.Assignment.{Assignment}
use Rattle.osl_job.specs.SmallNames.{fits, assignment_fits}
use Rattle.osl_job.proofs.Nodes.{fits-Const, fits-Var, fits-Apply}
use Rattle.osl_job.specs.Small.{AreTied}
use Rattle.osl_job.proofs.Ops.{both_true}

pub var_tied : (n k : ℕ) → k < n → fits n (Var k) ≡ true
var_tied n k h = fits-Var n k ∙ lt-ltb k n h

pub const_tied : (n : ℕ) (v : ℤ) → fits n (Const v) ≡ true
const_tied n v = fits-Const n v

pub apply_tied : (n : ℕ) (op : SumOp) (a b e : Expr) → e ≡ Apply op a b → fits n a ≡ true → fits n b ≡ true → fits n e ≡ true
apply_tied n op a b e is p q = ap (fits n) is ∙ fits-Apply n op a b ∙ both_true (fits n a) (fits n b) p q

pub assignment_tied : (n : ℕ) (a : Assignment) → a.target < n → fits n a.value ≡ true → assignment_fits n a ≡ true
assignment_tied n a h f = both_true (nat_lt a.target n) (fits n a.value) (lt-ltb a.target n h) f

pub one_tied : (n : ℕ) (v : ℤ) → (fits n (Const v) && true) ≡ true
one_tied n v = both_true (fits n (Const v)) true (fits-Const n v) refl

pub params_tied : (params : List Param) (p : Param) (new : List Param) → new ≡ params ++ p ∷ [] → AreTied params → AreTied (p ∷ []) → AreTied new
params_tied params p new is t u n = ap (list_all (λ x. fits n x.default)) is ∙ list_all-append (λ x. fits n x.default) params (p ∷ []) ∙ both_true _ _ (t n) (u n)

pub body_tied : (n : ℕ) (body : List Assignment) (a : Assignment) (new : List Assignment) → new ≡ body ++ a ∷ [] → list_all (assignment_fits n) body ≡ true → assignment_fits n a ≡ true
    → list_all (assignment_fits n) new ≡ true
body_tied n body a new is t u = ap (list_all (assignment_fits n)) is ∙ list_all-append (assignment_fits n) body (a ∷ []) ∙ both_true _ _ t (both_true (assignment_fits n a) true u refl)
