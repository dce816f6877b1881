-- Elements of arrays, read and written.
use Rattle.std.proofs.Common.{◌≡◌, ℕ, zero, suc, ◌+◌, ◌*◌, ◌<◌, ◌≤◌, true, false, ◌||◌, not, eqb, ℤ, pos, List, [], ◌∷◌, ◌++◌, length, take, drop, get_or, set, refl, sym, ap, ◌∙◌, arith, append-nil}
use Rattle.std.proofs.lemmas.List.{length-replicate}
use Rattle.std.proofs.lemmas.Bool.{false≢true, and_parts, not-true, eqb-false, cond-false}
use Rattle.std.proofs.lemmas.List.{set_split}
use Rattle.std.proofs.Math.Seq.{drop-cons}
use Rattle.osl_value.specs.declared.types.Base.{Base}
use Rattle.osl_value.specs.declared.types.Base.TheVariants.{Int, Float, Color, Point, Vector, Normal, Matrix, Str, Closure}
use Rattle.osl_value.specs.declared.types.Ty.{Ty}
use Rattle.osl_value.specs.AnyValue.{AnyValue, Of, with_numbers, with_text, is_array, element_of, with_element, items_at, with_items_at}
use Rattle.osl_value.specs.Geometry.{number_at, place}
use Rattle.osl_value.specs.Laws.{int_value}
use Rattle.osl_value.specs.Plain.{Plain, IsPlain, zero_of}
use Rattle.osl_value.specs.Types.{only, is_only, is_triple, same_base, numbers_in, texts_in, number_count, element_count}
use Rattle.osl_value.proofs.SameTypes.{same_type-true}
use Rattle.osl_value.proofs.Seen.{from_only}

-- ---- how much an array holds

pub record Counts (v : Plain) : Type 0 where
  pub some : 1 ≤ v.ty.len
  pub short : v.ty.len ≤ 1024
  pub nums : length v.nums ≡ v.ty.len * numbers_in v.ty.base
  pub texts : length v.texts ≡ v.ty.len * texts_in v.ty.base

some_len : (ty : Ty) → is_array ty ≡ true → eqb ty.len 0 ≡ false
some_len ty h = not-true (eqb ty.len 0) (and_parts (not (eqb ty.len 0)) (not (same_base ty.base Closure)) h).0

pub counts : (v : Plain) → IsPlain v.ty v.nums v.texts → is_array v.ty ≡ true → Counts v
counts v p h =
    let no_zero = eqb-false v.ty.len 0 (some_len v.ty h) in
    let many : element_count v.ty ≡ v.ty.len = cond-false _ _ _ (some_len v.ty h) in
    record {
      some = omega (arith, no_zero);
      short = p.short;
      nums = p.nums_fit ∙ ap (λ n. n * numbers_in v.ty.base) many;
      texts = p.texts_fit ∙ ap (λ n. n * texts_in v.ty.base) many;
    }

pub place_below : (i : ℤ) (len : ℕ) → 1 ≤ len → place i len < len
place_below i len h = omega arith

pub no_closure_base : (ty : Ty) → is_array ty ≡ true → ty.base ≡ Closure → ⊥
no_closure_base ty h e = false≢true (sym (ap (λ b. not (same_base b Closure)) e) ∙ (and_parts (not (eqb ty.len 0)) (not (same_base ty.base Closure)) h).1)

-- numbers and texts of an array whose base type is known
pub nums_by : (v : Plain) (base : Base) → Counts v → v.ty.base ≡ base → length v.nums ≡ v.ty.len * numbers_in base
nums_by v base c e = c.nums ∙ ap (λ b. v.ty.len * numbers_in b) e

pub texts_by : (v : Plain) (base : Base) → Counts v → v.ty.base ≡ base → length v.texts ≡ v.ty.len * texts_in base
texts_by v base c e = c.texts ∙ ap (λ b. v.ty.len * texts_in b) e

-- ---- an element that is read

abbrev at_base : Base → List ℤ → List (List ℕ) → ℕ → AnyValue
at_base base nums texts k =
    Of (record { ty = only base; nums = items_at (numbers_in base) (k * numbers_in base) nums; texts = items_at (texts_in base) (k * texts_in base) texts })

by_base : (v : Plain) (base : Base) (k : ℕ) → v.ty.base ≡ base → element_of (Of v) k ≡ at_base base v.nums v.texts k
by_base v base k e = ap (λ b. at_base b v.nums v.texts k) e

one_item : {X : Type 0} (xs : List X) (k : ℕ) (d : X) → k < length xs → items_at 1 (k * 1) xs ≡ get_or xs k d ∷ []
one_item xs k d h = let e : k * 1 ≡ k = omega arith in ap (λ n. take 1 (drop n xs)) e ∙ ap (take 1) (drop-cons xs k d h)

pub int_element : (v : Plain) (k : ℕ) (n : ℤ) → v.ty.base ≡ Int → k < length v.nums → n ≡ number_at v.nums k → int_value n ≡ element_of (Of v) k
int_element v k n e h is =
    ap (λ m. int_value m) is ∙ ap (λ xs. with_numbers (only Int) xs) (sym (one_item v.nums k (pos 0) h)) ∙ sym (by_base v Int k e)

pub float_element : (v : Plain) (k : ℕ) (x : ℤ) → v.ty.base ≡ Float → k < length v.nums → x ≡ number_at v.nums k → with_numbers (only Float) (x ∷ []) ≡ element_of (Of v) k
float_element v k x e h is =
    ap (λ m. with_numbers (only Float) (m ∷ [])) is ∙ ap (λ xs. with_numbers (only Float) xs) (sym (one_item v.nums k (pos 0) h)) ∙ sym (by_base v Float k e)

pub text_element : (v : Plain) (k : ℕ) (text : List ℕ) → v.ty.base ≡ Str → k < length v.texts → text ≡ get_or v.texts k [] → with_text (only Str) text ≡ element_of (Of v) k
text_element v k text e h is =
    ap (λ t. with_text (only Str) t) is
    ∙ ap (λ ts. Of (record { ty = only Str; nums = []; texts = ts })) (sym (one_item v.texts k [] h))
    ∙ sym (by_base v Str k e)

triple_at_base : (base : Base) (nums : List ℤ) (texts : List (List ℕ)) (k : ℕ) → is_triple base ≡ true → with_numbers (only base) (items_at 3 (k * 3) nums) ≡ at_base base nums texts k
triple_at_base Int nums texts k h = absurd (false≢true h)
triple_at_base Float nums texts k h = absurd (false≢true h)
triple_at_base Color nums texts k h = refl
triple_at_base Point nums texts k h = refl
triple_at_base Vector nums texts k h = refl
triple_at_base Normal nums texts k h = refl
triple_at_base Matrix nums texts k h = absurd (false≢true h)
triple_at_base Str nums texts k h = absurd (false≢true h)
triple_at_base Closure nums texts k h = absurd (false≢true h)

times_three : (k : ℕ) → 3 * k ≡ k * 3
times_three k = omega arith

times_sixteen : (k : ℕ) → 16 * k ≡ k * 16
times_sixteen k = omega arith

pub triple_element : (v : Plain) (base : Base) (k : ℕ) (xs : List ℤ) → v.ty.base ≡ base → is_triple base ≡ true → xs ≡ items_at 3 (3 * k) v.nums → with_numbers (only base) xs ≡ element_of (Of v) k
triple_element v base k xs e t is =
    ap (with_numbers (only base)) (is ∙ ap (λ n. items_at 3 n v.nums) (times_three k)) ∙ triple_at_base base v.nums v.texts k t ∙ sym (by_base v base k e)

pub matrix_element_is : (v : Plain) (k : ℕ) (xs : List ℤ) → v.ty.base ≡ Matrix → xs ≡ items_at 16 (16 * k) v.nums → with_numbers (only Matrix) xs ≡ element_of (Of v) k
matrix_element_is v k xs e is =
    ap (with_numbers (only Matrix)) (is ∙ ap (λ n. items_at 16 n v.nums) (times_sixteen k)) ∙ sym (by_base v Matrix k e)

-- the last place of an element's numbers
pub three_within : (n len k : ℕ) → n ≡ len * 3 → k < len → 3 * k + 3 ≤ n
three_within n len k e h = omega arith

pub sixteen_within : (n len k : ℕ) → n ≡ len * 16 → k < len → 16 * k + 16 ≤ n
sixteen_within n len k e h = omega arith

-- ---- an element that is written

abbrev written_at : Base → Ty → List ℤ → List (List ℕ) → ℕ → List ℤ → List (List ℕ) → AnyValue
written_at base ty nums texts k new_nums new_texts =
    Of (record {
      ty = ty;
      nums = with_items_at (numbers_in base) (k * numbers_in base) new_nums nums;
      texts = with_items_at (texts_in base) (k * texts_in base) new_texts texts;
    })

no_items : {X : Type 0} (xs : List X) (k : ℕ) → with_items_at 0 (k * 0) [] xs ≡ xs
no_items xs k = let e : k * 0 ≡ 0 = omega arith in ap (λ n. with_items_at 0 n [] xs) e

one_set : {X : Type 0} (xs : List X) (k : ℕ) (x : X) → k < length xs → set xs k x ≡ with_items_at 1 (k * 1) (x ∷ []) xs
one_set xs k x h =
    let e : k ≡ k * 1 = omega arith in
    let f : suc k ≡ k + 1 = omega arith in
    set_split xs k x h ∙ ap (λ n. take k xs ++ x ∷ drop n xs) f ∙ ap (λ n. with_items_at 1 n (x ∷ []) xs) e

pub int_written : (v : Plain) (k : ℕ) (n : ℤ) → v.ty.base ≡ Int → k < length v.nums → Of (record v { nums = set v.nums k n }) ≡ with_element (Of v) k (with_numbers (only v.ty.base) (n ∷ []))
int_written v k n e h =
    (λ i. Of (record { ty = v.ty; nums = one_set v.nums k n h i; texts = sym (no_items v.texts k) i }))
    ∙ ap (λ b. written_at b v.ty v.nums v.texts k (n ∷ []) []) (sym e)

pub text_written : (v : Plain) (k : ℕ) (text : List ℕ) → v.ty.base ≡ Str → k < length v.texts → Of (record v { texts = set v.texts k text }) ≡ with_element (Of v) k (with_text (only v.ty.base) text)
text_written v k text e h =
    (λ i. Of (record { ty = v.ty; nums = sym (no_items v.nums k) i; texts = one_set v.texts k text h i }))
    ∙ ap (λ b. written_at b v.ty v.nums v.texts k [] (text ∷ [])) (sym e)

-- floats from a place on
pub float_written : (v : Plain) (k : ℕ) (xs : List ℤ) → v.ty.base ≡ Float → length xs ≡ 1
    → Of (record v { nums = with_items_at (length xs) k xs v.nums }) ≡ with_element (Of v) k (with_numbers (only v.ty.base) xs)
float_written v k xs e n =
    let at : k ≡ k * 1 = omega arith in
    (λ i. Of (record { ty = v.ty; nums = with_items_at (n i) (at i) xs v.nums; texts = sym (no_items v.texts k) i }))
    ∙ ap (λ b. written_at b v.ty v.nums v.texts k xs []) (sym e)

triple_written_at : (base : Base) (ty : Ty) (nums : List ℤ) (texts : List (List ℕ)) (k : ℕ) (xs : List ℤ) → is_triple base ≡ true
    → Of (record { ty = ty; nums = with_items_at 3 (k * 3) xs nums; texts = with_items_at 0 (k * 0) [] texts }) ≡ written_at base ty nums texts k xs []
triple_written_at Int ty nums texts k xs h = absurd (false≢true h)
triple_written_at Float ty nums texts k xs h = absurd (false≢true h)
triple_written_at Color ty nums texts k xs h = refl
triple_written_at Point ty nums texts k xs h = refl
triple_written_at Vector ty nums texts k xs h = refl
triple_written_at Normal ty nums texts k xs h = refl
triple_written_at Matrix ty nums texts k xs h = absurd (false≢true h)
triple_written_at Str ty nums texts k xs h = absurd (false≢true h)
triple_written_at Closure ty nums texts k xs h = absurd (false≢true h)

pub triple_written : (v : Plain) (k : ℕ) (xs : List ℤ) → is_triple v.ty.base ≡ true → length xs ≡ 3
    → Of (record v { nums = with_items_at (length xs) (3 * k) xs v.nums }) ≡ with_element (Of v) k (with_numbers (only v.ty.base) xs)
triple_written v k xs t n =
    (λ i. Of (record { ty = v.ty; nums = with_items_at (n i) (times_three k i) xs v.nums; texts = sym (no_items v.texts k) i }))
    ∙ triple_written_at v.ty.base v.ty v.nums v.texts k xs t

pub matrix_written : (v : Plain) (k : ℕ) (xs : List ℤ) → v.ty.base ≡ Matrix → length xs ≡ 16
    → Of (record v { nums = with_items_at (length xs) (16 * k) xs v.nums }) ≡ with_element (Of v) k (with_numbers (only v.ty.base) xs)
matrix_written v k xs e n =
    (λ i. Of (record { ty = v.ty; nums = with_items_at (n i) (times_sixteen k i) xs v.nums; texts = sym (no_items v.texts k) i }))
    ∙ ap (λ b. written_at b v.ty v.nums v.texts k xs []) (sym e)

pub triple_no_int : (base : Base) → is_triple base ≡ true → base ≡ Int → ⊥
triple_no_int base h e = false≢true (sym (ap is_triple e) ∙ h)

-- three numbers for each element of a triple kind
pub triple_nums : (v : Plain) → Counts v → is_triple v.ty.base ≡ true → length v.nums ≡ v.ty.len * 3
triple_nums v c t = c.nums ∙ ap (λ n. v.ty.len * n) (three_in v.ty.base t)
  where
    three_in : (base : Base) → is_triple base ≡ true → numbers_in base ≡ 3
    three_in Int h = absurd (false≢true h)
    three_in Float h = absurd (false≢true h)
    three_in Color h = refl
    three_in Point h = refl
    three_in Vector h = refl
    three_in Normal h = refl
    three_in Matrix h = absurd (false≢true h)
    three_in Str h = absurd (false≢true h)
    three_in Closure h = absurd (false≢true h)

-- ---- a whole matrix

drop_past : (xs : List ℤ) (n : ℕ) → length xs ≤ n → drop n xs ≡ []
drop_past [] zero h = refl
drop_past [] (suc n) h = refl
drop_past (x ∷ xs) zero h = absurd (omega arith)
drop_past (x ∷ xs) (suc n) h = drop_past xs n (omega arith)

no_more : (ts : List (List ℕ)) → length ts ≡ 0 → ts ≡ []
no_more [] h = refl
no_more (t ∷ ts) h = absurd (omega arith)

pub all_written : (v : Plain) (xs : List ℤ) → IsPlain v.ty v.nums v.texts → is_only Matrix v.ty ≡ true → length xs ≡ 16
    → Of (record v { nums = with_items_at (length xs) 0 xs v.nums }) ≡ with_numbers (only Matrix) xs
all_written v xs p h n =
    let q = from_only v.ty Matrix v.nums v.texts h p in
    let many : length v.nums ≡ 16 = q.nums_fit in
    let none : length v.texts ≡ 0 = q.texts_fit in
    let past : length v.nums ≤ 0 + length xs = omega (arith, many, n) in
    (λ i. Of (record { ty = same_type-true v.ty (only Matrix) h i; nums = xs ++ drop_past v.nums (0 + length xs) past i; texts = no_more v.texts none i }))
    ∙ ap (with_numbers (only Matrix)) (append-nil xs)

pub some_items : (ty : Ty) → is_array ty ≡ true → 1 ≤ ty.len
some_items ty h = let e = eqb-false ty.len 0 (some_len ty h) in omega (arith, e)

-- ---- a float or a triple, as a value

covers : (n : ℕ) (xs zeros : List ℤ) → length zeros ≡ n → length xs ≡ n → xs ++ drop (0 + length xs) zeros ≡ xs
covers n xs zeros z h = ap (λ ys. xs ++ ys) (drop_past zeros (0 + length xs) (omega (arith, z, h))) ∙ append-nil xs

pub floats_whole : (base : Base) (xs : List ℤ) → (is_triple base || same_base base Float) ≡ true → length xs ≡ number_count (only base)
    → Of (record (zero_of (only base)) { nums = with_items_at (length xs) 0 xs (zero_of (only base)).nums }) ≡ with_numbers (only base) xs
floats_whole Int xs h n = absurd (false≢true h)
floats_whole Float xs h n = ap (with_numbers (only Float)) (covers 1 xs _ refl n)
floats_whole Color xs h n = ap (with_numbers (only Color)) (covers 3 xs _ refl n)
floats_whole Point xs h n = ap (with_numbers (only Point)) (covers 3 xs _ refl n)
floats_whole Vector xs h n = ap (with_numbers (only Vector)) (covers 3 xs _ refl n)
floats_whole Normal xs h n = ap (with_numbers (only Normal)) (covers 3 xs _ refl n)
floats_whole Matrix xs h n = absurd (false≢true h)
floats_whole Str xs h n = absurd (false≢true h)
floats_whole Closure xs h n = absurd (false≢true h)

pub float_base : (base : Base) → (is_triple base || same_base base Float) ≡ true → base ≡ Int → ⊥
float_base base h e = false≢true (sym (ap (λ b. is_triple b || same_base b Float) e) ∙ h)

pub zero_length : (ty : Ty) → length (zero_of ty).nums ≡ number_count ty
zero_length ty = length-replicate (number_count ty) (pos 0)
