-- Lists that grow, and code that covers them.
use Rattle.std.proofs.Common.{◌≡◌, ℕ, zero, suc, ◌+◌, ◌<◌, ◌≤◌, ◌≢◌, List, [], ◌∷◌, ◌++◌, length, Some, refl, ap, ◌∙◌, arith, length-append}
use Rattle.std.specs.Prelude.{slice_get, slice_set}
use Rattle.std.proofs.Math.ListN.{length-set}
use Rattle.oso_code.specs.declared.op.Op.{Op}
use Rattle.oso_code.specs.declared.symbol.Symbol.{Symbol}
use Rattle.oso_code.specs.Steps.{Step, step_of}
use Rattle.osl_value.specs.declared.types.Ty.{Ty}
use Rattle.osl_gencode.specs.Growth.{Extends, Grows, Covers}
use Rattle.osl_gencode.specs.Bodies.{HasType, HaveTypes, IsVariable}

module _ {A : Type 0} where
  pub get_left : (xs ys : List A) (k : ℕ) → k < length xs → slice_get (xs ++ ys) k ≡ slice_get xs k
  get_left [] ys k h = absurd (omega arith)
  get_left (x ∷ xs) ys zero h = refl
  get_left (x ∷ xs) ys (suc k) h = get_left xs ys k (omega arith)

  pub get_seam : (xs : List A) (y : A) → slice_get (xs ++ y ∷ []) (length xs) ≡ Some y
  get_seam [] y = refl
  get_seam (x ∷ xs) y = get_seam xs y

  pub get_some : (xs : List A) (k : ℕ) (x : A) → slice_get xs k ≡ Some x → k < length xs
  get_some [] k x h = absurd (cc h)
  get_some (y ∷ xs) zero x h = omega arith
  get_some (y ∷ xs) (suc k) x h = let r = get_some xs k x h in omega (arith, r)

  pub get_there : (xs : List A) (k : ℕ) → k < length xs → (x : A) × (slice_get xs k ≡ Some x)
  get_there [] k h = absurd (omega arith)
  get_there (x ∷ xs) zero h = (x, refl)
  get_there (x ∷ xs) (suc k) h = get_there xs k (omega arith)

  pub get_set_other : (xs : List A) (i k : ℕ) (y : A) → k ≢ i → slice_get (slice_set xs i y) k ≡ slice_get xs k
  get_set_other [] i k y ne = refl
  get_set_other (x ∷ xs) zero zero y ne = absurd (ne refl)
  get_set_other (x ∷ xs) zero (suc k) y ne = refl
  get_set_other (x ∷ xs) (suc i) zero y ne = refl
  get_set_other (x ∷ xs) (suc i) (suc k) y ne = get_set_other xs i k y (λ e. ne (ap suc e))

  pub get_set_same : (xs : List A) (i : ℕ) (y : A) → i < length xs → slice_get (slice_set xs i y) i ≡ Some y
  get_set_same [] i y h = absurd (omega arith)
  get_set_same (x ∷ xs) zero y h = refl
  get_set_same (x ∷ xs) (suc i) y h = get_set_same xs i y (omega arith)

  pub extends_self : (xs : List A) → Extends xs xs
  extends_self xs = record { longer = omega arith; same = λ k h. refl }

  pub extends_on : (xs ys zs : List A) → Extends xs ys → Extends ys zs → Extends xs zs
  extends_on xs ys zs a b =
      record { longer = omega (arith, a.longer, b.longer); same = λ k h. b.same k (omega (arith, h, a.longer)) ∙ a.same k h }

  pub extends_push : (xs : List A) (y : A) → Extends xs (xs ++ y ∷ [])
  extends_push xs y =
      record { longer = omega (arith, length-append xs (y ∷ [])); same = λ k h. get_left xs (y ∷ []) k h }

  pub extends_set : (xs ys : List A) (i : ℕ) (y : A) → Extends xs ys → length xs ≤ i → Extends xs (slice_set ys i y)
  extends_set xs ys i y a le =
      record { longer = omega (arith, a.longer, length-set ys i y); same = λ k h. get_set_other ys i k y (λ e. absurd (omega arith)) ∙ a.same k h }

  pub push_length : (xs : List A) (y : A) → length (xs ++ y ∷ []) ≡ length xs + 1
  push_length xs y = omega (arith, length-append xs (y ∷ []))

  pub get_extended : (xs ys : List A) (k : ℕ) (x : A) → Extends xs ys → slice_get xs k ≡ Some x → slice_get ys k ≡ Some x
  get_extended xs ys k x e h = e.same k (get_some xs k x h) ∙ h

pub grows_on : (o0 o1 o2 : List Op) (s0 s1 s2 : List Symbol) → Grows o0 o1 s0 s1 → Grows o1 o2 s1 s2 → Grows o0 o2 s0 s2
grows_on o0 o1 o2 s0 s1 s2 a b =
    record { ops = extends_on o0 o1 o2 a.ops b.ops; syms = extends_on s0 s1 s2 a.syms b.syms }

-- ---- steps

-- later ops cover what they go on from
pub covers_before : (symbols : List Symbol) (steps : List Step) (ops ops1 : List Op) (start start1 : ℕ) → start ≤ start1 → Extends ops ops1 → Covers symbols steps ops1 start → Covers symbols steps ops start1
covers_before symbols steps ops ops1 start start1 le ext cov =
    record { at = λ k op l h. cov.at k op (omega (arith, l, le)) (get_extended ops ops1 k op ext h) }

-- an op that is written over stands before what is covered
pub covers_after : (symbols : List Symbol) (steps : List Step) (ops : List Op) (i start start1 : ℕ) (y : Op) → start ≤ start1 → i < start1 → Covers symbols steps (slice_set ops i y) start → Covers symbols steps ops start1
covers_after symbols steps ops i start start1 y le lt cov =
    record { at = λ k op l h. cov.at k op (omega (arith, l, le)) (get_set_other ops i k y (λ e. absurd (omega (arith, l, lt, e))) ∙ h) }

pub at_set : (symbols : List Symbol) (steps : List Step) (ops : List Op) (i start : ℕ) (y : Op) → start ≤ i → i < length ops → Covers symbols steps (slice_set ops i y) start → slice_get steps i ≡ Some (step_of symbols i y)
at_set symbols steps ops i start y le lt cov = cov.at i y le (get_set_same ops i y lt)

pub at_push : (symbols : List Symbol) (steps : List Step) (ops : List Op) (y : Op) (start : ℕ) → start ≤ length ops → Covers symbols steps (ops ++ y ∷ []) start → slice_get steps (length ops) ≡ Some (step_of symbols (length ops) y)
at_push symbols steps ops y start le cov = cov.at (length ops) y le (get_seam ops y)

-- ---- symbols

pub type_later : (syms syms1 : List Symbol) (k : ℕ) (ty : Ty) → Extends syms syms1 → HasType syms k ty → HasType syms1 k ty
type_later syms syms1 k ty e h = record { symbol = h.symbol; here = get_extended syms syms1 k h.symbol e h.here; type = h.type }

pub types_later : (syms syms1 : List Symbol) (r : ℕ) (types : List Ty) → Extends syms syms1 → HaveTypes syms r types → HaveTypes syms1 r types
types_later syms syms1 r types e h = record { each = λ k ty at. type_later syms syms1 (r + k) ty e (h.each k ty at) }

pub variable_later : (syms syms1 : List Symbol) (k : ℕ) (ty : Ty) → Extends syms syms1 → IsVariable syms k ty → IsVariable syms1 k ty
variable_later syms syms1 k ty e h = record { symbol = h.symbol; here = get_extended syms syms1 k h.symbol e h.here; type = h.type; free = h.free }

pub variable_typed : (syms : List Symbol) (k : ℕ) (ty : Ty) → IsVariable syms k ty → HasType syms k ty
variable_typed syms k ty h = record { symbol = h.symbol; here = h.here; type = h.type }
