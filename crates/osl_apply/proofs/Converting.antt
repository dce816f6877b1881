-- What a copy into another type is.
use Rattle.std.proofs.Common.{◌≡◌, true, false, ◌&&◌, ◌||◌, eqb, ℤ, List, [], ◌∷◌, length, refl, sym, ap, subst, ◌∙◌, arith, ⊎_elim}
use Rattle.std.proofs.lemmas.Bool.{false≢true, and_parts, or_cases, cond-true, cond-false, cases_Bool, eqb-true}
use Rattle.osl_value.specs.declared.types.Base.{Base}
use Rattle.osl_value.specs.declared.types.Base.TheVariants.{Int, Float, Color, Point, Vector, Normal, Matrix, Str, Closure}
use Rattle.osl_value.specs.declared.types.Ty.{Ty}
use Rattle.osl_value.specs.AnyValue.{AnyValue, type_of, floats_of, with_numbers, converted, is_assignable, is_one_triple, is_number}
use Rattle.osl_value.specs.Geometry.{repeated}
use Rattle.osl_value.specs.Laws.{int_value}
use Rattle.osl_value.specs.Types.{only, is_only, is_triple, same_type}
use Rattle.osl_value.proofs.SameTypes.{same_type-true, same_type-refl}
use Rattle.osl_value.proofs.Seen.{alone}

-- an int, and a float, as a float
pub int_as_float : (v : AnyValue) (n x : ℤ) → v ≡ int_value n → x ∷ [] ≡ floats_of (int_value n) → converted (only Float) v ≡ with_numbers (only Float) (x ∷ [])
int_as_float v n x e h = ap (converted (only Float)) e ∙ ap (with_numbers (only Float)) (sym h)

pub float_as_float : (v : AnyValue) (x : ℤ) → v ≡ with_numbers (only Float) (x ∷ []) → converted (only Float) v ≡ with_numbers (only Float) (x ∷ [])
float_as_float v x e = ap (converted (only Float)) e

-- where the type is another one
other_triple : (ty : Ty) (v : AnyValue) → is_one_triple ty ≡ true → same_type ty (type_of v) ≡ false → converted ty v ≡ with_numbers ty (repeated 3 (floats_of v))
other_triple ty v t other = cond-false _ _ _ other ∙ cond-true _ _ _ t

number_no_triple : (base : Base) → is_triple base ≡ true → same_type (only base) (only Int) ≡ false
number_no_triple Int h = absurd (false≢true h)
number_no_triple Float h = absurd (false≢true h)
number_no_triple Color h = refl
number_no_triple Point h = refl
number_no_triple Vector h = refl
number_no_triple Normal h = refl
number_no_triple Matrix h = absurd (false≢true h)
number_no_triple Str h = absurd (false≢true h)
number_no_triple Closure h = absurd (false≢true h)

float_no_triple : (base : Base) → is_triple base ≡ true → same_type (only base) (only Float) ≡ false
float_no_triple Int h = absurd (false≢true h)
float_no_triple Float h = absurd (false≢true h)
float_no_triple Color h = refl
float_no_triple Point h = refl
float_no_triple Vector h = refl
float_no_triple Normal h = refl
float_no_triple Matrix h = absurd (false≢true h)
float_no_triple Str h = absurd (false≢true h)
float_no_triple Closure h = absurd (false≢true h)

is_other_number : (ty s : Ty) → is_one_triple ty ≡ true → is_number s ≡ true → same_type ty s ≡ false
is_other_number ty s t h =
    let p = and_parts (is_triple ty.base) (eqb ty.len 0) t in
    let e = alone ty p.1 in
    ⊎_elim
    (λ i. (λ j. same_type (e j) (same_type-true s (only Int) i j)) ∙ number_no_triple ty.base p.0)
    (λ f. (λ j. same_type (e j) (same_type-true s (only Float) f j)) ∙ float_no_triple ty.base p.0)
    (or_cases (is_only Int s) (is_only Float s) h)

pub number_spread : (ty : Ty) (v : AnyValue) (xs : List ℤ) → is_number (type_of v) ≡ true → floats_of v ≡ xs → is_one_triple ty ≡ true → converted ty v ≡ with_numbers ty (repeated 3 xs)
number_spread ty v xs h e t = other_triple ty v t (is_other_number ty (type_of v) t h) ∙ ap (λ ys. with_numbers ty (repeated 3 ys)) e

three_repeated : (xs : List ℤ) → length xs ≡ 3 → repeated 3 xs ≡ xs
three_repeated [] h = absurd (omega arith)
three_repeated (x ∷ []) h = absurd (omega arith)
three_repeated (x ∷ (y ∷ [])) h = absurd (omega arith)
three_repeated (x ∷ (y ∷ (z ∷ []))) h = refl
three_repeated (x ∷ (y ∷ (z ∷ (w ∷ xs)))) h = absurd (omega arith)

triple_floats : (base : Base) (xs : List ℤ) → is_triple base ≡ true → floats_of (with_numbers (only base) xs) ≡ xs
triple_floats Int xs h = absurd (false≢true h)
triple_floats Float xs h = absurd (false≢true h)
triple_floats Color xs h = refl
triple_floats Point xs h = refl
triple_floats Vector xs h = refl
triple_floats Normal xs h = refl
triple_floats Matrix xs h = absurd (false≢true h)
triple_floats Str xs h = absurd (false≢true h)
triple_floats Closure xs h = absurd (false≢true h)

pub floats_of_triple : (s : Ty) (v : AnyValue) (xs : List ℤ) → is_one_triple s ≡ true → v ≡ with_numbers s xs → floats_of v ≡ xs
floats_of_triple s v xs h e =
    let p = and_parts (is_triple s.base) (eqb s.len 0) h in
    ap floats_of e ∙ ap (λ t. floats_of (with_numbers t xs)) (alone s p.1) ∙ triple_floats s.base xs p.0

pub triple_spread : (ty s : Ty) (v : AnyValue) (xs : List ℤ) → is_one_triple s ≡ true → length xs ≡ 3 → v ≡ with_numbers s xs → is_one_triple ty ≡ true → converted ty v ≡ with_numbers ty (repeated 3 xs)
triple_spread ty s v xs h three e t =
    ⊎_elim
    (λ same. cond-true _ _ _ same ∙ e ∙ ap (λ u. with_numbers u xs) (sym (same_type-true ty (type_of v) same ∙ ap type_of e)) ∙ ap (with_numbers ty) (sym (three_repeated xs three)))
    (λ other. other_triple ty v t other ∙ ap (λ ys. with_numbers ty (repeated 3 ys)) (floats_of_triple s v xs h e))
    (cases_Bool (same_type ty (type_of v)))

-- ---- what may be assigned

-- to an array only an array of the type
pub array_assigned : (ty s : Ty) → (ty.len ≡ 0 → ⊥) → is_assignable ty s ≡ true → ty ≡ s
array_assigned ty s n h =
    let no_single : (base : Base) → is_only base ty ≡ true → ⊥ = λ base e. n (eqb-true ty.len 0 (and_parts _ (eqb ty.len 0) e).1) in
    ⊎_elim
    (λ e. ⊎_elim (λ a. same_type-true ty s a) (λ b. absurd (no_single Float (and_parts (is_only Float ty) (is_only Int s) b).0)) (or_cases (same_type ty s) (is_only Float ty && is_only Int s) e))
    (λ e. absurd (n (eqb-true ty.len 0 (and_parts (is_triple ty.base) (eqb ty.len 0) (and_parts (is_one_triple ty) (is_number s || is_one_triple s) e).0).1)))
    (or_cases (same_type ty s || (is_only Float ty && is_only Int s)) (is_one_triple ty && (is_number s || is_one_triple s)) h)

-- what is converted to its own type stays
pub same_converted : (ty : Ty) (v : AnyValue) → ty ≡ type_of v → converted ty v ≡ v
same_converted ty v e = cond-true _ _ _ (subst (λ t. same_type ty t ≡ true) e (same_type-refl ty))
