-- A reader that takes no text but the canonical one: it reads, and compares with what would be written.
use Rattle.std.proofs.Common.{◌≡◌, ◌≢◌, ℕ, Bool, true, false, List, ℤ, Option, Some, None, IfNone, refl, sym, ap, ◌∙◌, eqb}
use Rattle.std.proofs.lemmas.Bool.{both_ways}
use Rattle.std.proofs.lemmas.Bool.Decides.{Decides-eqb}
use Rattle.std.proofs.lemmas.Slice.Eq.{slice_eq-Decides}
use Rattle.std.specs.Bool.{then_some}
use lib.Pointwise.{pointwise}

module _ (read : List ℕ → Option ℤ) (text_of : ℤ → List ℕ) (Fits : ℤ → Type 0) (again : (x : ℤ) → Fits x → read (text_of x) ≡ Some x) where
  -- what is not read is no canonical text
  pub never_written : (text : List ℕ) → None ≡ read text → (x : ℤ) → Fits x → text ≢ text_of x
  never_written text none x fits e = let some = ap read e ∙ again x fits in cc

  -- a text that differs from the canonical one of the number that it is read as is no number's canonical text
  pub differs : (text : List ℕ) (y : ℤ) (same : Bool) → Some y ≡ read text → same ≡ pointwise eqb (text_of y) text → IfNone (then_some same y) ((x : ℤ) → Fits x → text ≢ text_of x)
  differs text y true read_as compared = tt
  differs text y false read_as compared = λ x fits e.
      let y_is : y ≡ x = let some = ap read e ∙ again x fits in cc in
      both_ways false refl ((slice_eq-Decides Decides-eqb (text_of y) text false compared).1 (ap text_of y_is ∙ sym e))
