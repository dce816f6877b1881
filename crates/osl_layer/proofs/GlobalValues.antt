-- The globals at a point are values of their types.
use Rattle.std.proofs.Common.{◌≡◌, ◌≢◌, ℕ, ℤ, List, [], ◌∷◌, length, refl, arith, lit≤}
use Rattle.std.specs.List.{All}
use Rattle.std.proofs.lemmas.List.Elements.{All-nil, All-cons}
use Rattle.osl_value.specs.declared.closure.Part.{Part}
use Rattle.osl_value.specs.declared.point.Point.{Point}
use Rattle.osl_value.specs.declared.types.Base.{Base}
use Rattle.osl_value.specs.declared.types.Base.TheVariants as B
use Rattle.osl_value.specs.AnyValue.{Of, Parts, with_numbers}
use Rattle.osl_value.specs.Numbers.{IsInRange}
use Rattle.osl_value.specs.Plain.{IsPlain, IsNumberOf}
use Rattle.osl_value.specs.Types.{only, numbers_in, texts_in}
use Rattle.osl_value.specs.WellFormed.{AreFloats, IsPart, IsOfType, IsPoint}
use Rattle.osl_layer.specs.declared.global.GlobalName.{GlobalName}
use Rattle.osl_layer.specs.declared.global.GlobalName.TheVariants.{P, N, Ng, I, U, V, Ci}
use Rattle.osl_layer.specs.Globals.{type_of_global, global_at}
use Rattle.osl_layer.specs.Laws.{GlobalsAreTyped}

-- so many numbers as one element has are a value
one_element : (base : Base) (xs : List ℤ) → base ≢ B.Closure → 0 ≡ texts_in base → length xs ≡ numbers_in base → All (IsNumberOf base) xs → IsOfType (only base) (with_numbers (only base) xs)
one_element base xs no_closure no_texts count all = record {
  value = record { no_closure = no_closure; short = lit≤ tt; nums_fit = omega arith; texts_fit = omega arith; in_range = all };
  type = refl;
}

one_float : (x : ℤ) → IsInRange x → IsOfType (only B.Float) (with_numbers (only B.Float) (x ∷ []))
one_float x in_range = one_element B.Float (x ∷ []) (λ e. cc) refl refl (All-cons IsInRange x [] in_range (All-nil IsInRange))

pub globals_are_typed : GlobalsAreTyped
globals_are_typed point P is = let p = is.p in one_element B.Point point.p (λ e. cc) refl p.count_fits p.in_range
globals_are_typed point N is = let n = is.n in one_element B.Normal point.n (λ e. cc) refl n.count_fits n.in_range
globals_are_typed point Ng is = let ng = is.ng in one_element B.Normal point.ng (λ e. cc) refl ng.count_fits ng.in_range
globals_are_typed point I is = let i = is.i in one_element B.Vector point.i (λ e. cc) refl i.count_fits i.in_range
globals_are_typed point U is = one_float point.u is.u
globals_are_typed point V is = one_float point.v is.v
globals_are_typed point Ci is = record { value = record { few = lit≤ tt; all = All-nil IsPart }; type = refl }
