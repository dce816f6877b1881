-- What values of a type alone are made of.
use Rattle.std.proofs.Common.{◌≡◌, ℕ, zero, suc, ◌+◌, ◌<◌, ◌≤◌, true, eqb, ℤ, pos, List, [], ◌∷◌, length, take, drop, get_or, refl, sym, ap, subst, ◌∙◌, arith, length-drop}
use Rattle.std.proofs.lemmas.Bool.{false≢true, and_parts}
use Rattle.std.proofs.Math.Seq.{drop-cons}
use Rattle.std.proofs.lemmas.List.{get_or-take, get_or-drop, length-take-le}
use Rattle.osl_value.specs.declared.types.Base.{Base}
use Rattle.osl_value.specs.declared.types.Base.TheVariants.{Int, Float, Color, Point, Vector, Normal, Matrix, Str, Closure}
use Rattle.osl_value.specs.declared.types.Ty.{Ty}
use Rattle.osl_value.specs.AnyValue.{Of, with_numbers, with_text, items_at, is_one_triple}
use Rattle.osl_value.specs.Geometry.{number_at}
use Rattle.osl_value.specs.Laws.{int_value}
use Rattle.osl_value.specs.Plain.{Plain, IsPlain}
use Rattle.osl_value.specs.Types.{only, is_only, is_triple, number_count, text_count}
use Rattle.osl_value.proofs.SameTypes.{same_type-true}
use Rattle.osl_value.proofs.Seen.{from_only, one_triple_read, alone}

one_number : (xs : List ℤ) → length xs ≡ 1 → xs ≡ number_at xs 0 ∷ []
one_number [] h = absurd (omega arith)
one_number (x ∷ []) h = refl
one_number (x ∷ (y ∷ xs)) h = absurd (omega arith)

no_item : {X : Type 0} (xs : List X) → length xs ≡ 0 → xs ≡ []
no_item [] h = refl
no_item (x ∷ xs) h = absurd (omega arith)

one_text : (ts : List (List ℕ)) → length ts ≡ 1 → ts ≡ get_or ts 0 [] ∷ []
one_text [] h = absurd (omega arith)
one_text (t ∷ []) h = refl
one_text (t ∷ (u ∷ ts)) h = absurd (omega arith)

plain_is : (v : Plain) (ty : Ty) (xs : List ℤ) (ts : List (List ℕ)) → v.ty ≡ ty → v.nums ≡ xs → v.texts ≡ ts → Of v ≡ Of (record { ty = ty; nums = xs; texts = ts })
plain_is v ty xs ts a b c = λ i. Of (record { ty = a i; nums = b i; texts = c i })

pub int_is : (v : Plain) → IsPlain v.ty v.nums v.texts → is_only Int v.ty ≡ true → Of v ≡ int_value (number_at v.nums 0)
int_is v p h =
    let q = from_only v.ty Int v.nums v.texts h p in
    plain_is v (only Int) _ _ (same_type-true v.ty (only Int) h) (one_number v.nums q.nums_fit) (no_item v.texts q.texts_fit)

pub float_is : (v : Plain) → IsPlain v.ty v.nums v.texts → is_only Float v.ty ≡ true → Of v ≡ with_numbers (only Float) (number_at v.nums 0 ∷ [])
float_is v p h =
    let q = from_only v.ty Float v.nums v.texts h p in
    plain_is v (only Float) _ _ (same_type-true v.ty (only Float) h) (one_number v.nums q.nums_fit) (no_item v.texts q.texts_fit)

pub text_is : (v : Plain) → IsPlain v.ty v.nums v.texts → is_only Str v.ty ≡ true → Of v ≡ with_text (only Str) (get_or v.texts 0 [])
text_is v p h =
    let q = from_only v.ty Str v.nums v.texts h p in
    plain_is v (only Str) _ _ (same_type-true v.ty (only Str) h) (no_item v.nums q.nums_fit) (one_text v.texts q.texts_fit)

pub numbers_in_one : (v : Plain) (base : Base) → IsPlain v.ty v.nums v.texts → is_only base v.ty ≡ true → length v.nums ≡ number_count (only base)
numbers_in_one v base p h = (from_only v.ty base v.nums v.texts h p).nums_fit

pub texts_in_one : (v : Plain) (base : Base) → IsPlain v.ty v.nums v.texts → is_only base v.ty ≡ true → length v.texts ≡ text_count (only base)
texts_in_one v base p h = (from_only v.ty base v.nums v.texts h p).texts_fit

pub three_numbers : (v : Plain) → IsPlain v.ty v.nums v.texts → is_one_triple v.ty ≡ true → length v.nums ≡ 3
three_numbers v p h = (one_triple_read v.ty v.nums v.texts h p).count_fits

-- the base type of a type alone, and of a triple
pub base_is : (ty : Ty) (base : Base) → is_only base ty ≡ true → ty.base ≡ base
base_is ty base h = ap (λ (t : Ty). t.base) (same_type-true ty (only base) h)

triple_base : (base : Base) → is_triple base ≡ true → base ≡ Int → ⊥
triple_base base h e = false≢true (subst (λ b. is_triple b ≡ true) e h)

pub triple_no_int : (ty : Ty) → is_one_triple ty ≡ true → ty.base ≡ Int → ⊥
triple_no_int ty h e = triple_base ty.base (and_parts _ _ h).0 e

-- ---- items from a place on

one_more : (n : ℕ) → suc n ≡ n + 1
one_more n = omega arith

two_more : (n : ℕ) → suc (suc n) ≡ n + 2
two_more n = omega arith

next_item : (xs : List ℤ) (from : ℕ) → from < length xs → drop from xs ≡ number_at xs from ∷ drop (suc from) xs
next_item xs from h = drop-cons xs from (pos 0) h

pub three_items : (xs : List ℤ) (from : ℕ) → from + 3 ≤ length xs → items_at 3 from xs ≡ number_at xs from ∷ number_at xs (from + 1) ∷ number_at xs (from + 2) ∷ []
three_items xs from h =
    let one = next_item xs from (omega arith) in
    let two = next_item xs (suc from) (omega arith) in
    let three = next_item xs (suc (suc from)) (omega arith) in
    ap (take 3) (one ∙ ap (λ ys. number_at xs from ∷ ys) (two ∙ ap (λ ys. number_at xs (suc from) ∷ ys) three))
    ∙ λ i. number_at xs from ∷ number_at xs (one_more from i) ∷ number_at xs (two_more from i) ∷ []

-- lists of one length with the same elements
pub same_items : (n : ℕ) (xs ys : List ℤ) → length xs ≡ n → length ys ≡ n → ((k : ℕ) → k < n → number_at xs k ≡ number_at ys k) → xs ≡ ys
same_items n [] [] a b h = refl
same_items n [] (y ∷ ys) a b h = absurd (omega arith)
same_items n (x ∷ xs) [] a b h = absurd (omega arith)
same_items zero (x ∷ xs) (y ∷ ys) a b h = absurd (omega arith)
same_items (suc n) (x ∷ xs) (y ∷ ys) a b h =
    let heads = h 0 (omega arith) in
    let tails = same_items n xs ys (omega arith) (omega arith) (λ k below. h (suc k) (omega arith)) in
    λ i. heads i ∷ tails i

pub item_of : (xs : List ℤ) (count from k : ℕ) → k < count → number_at (items_at count from xs) k ≡ number_at xs (from + k)
item_of xs count from k h = get_or-take count (drop from xs) k (pos 0) h ∙ get_or-drop from xs k (pos 0)

pub length_items : (xs : List ℤ) (count from : ℕ) → from + count ≤ length xs → length (items_at count from xs) ≡ count
length_items xs count from h = length-take-le count (drop from xs) (omega (arith, length-drop from xs))

no_texts : (base : Base) → is_triple base ≡ true → text_count (only base) ≡ 0
no_texts Int h = absurd (false≢true h)
no_texts Float h = absurd (false≢true h)
no_texts Color h = refl
no_texts Point h = refl
no_texts Vector h = refl
no_texts Normal h = refl
no_texts Matrix h = absurd (false≢true h)
no_texts Str h = absurd (false≢true h)
no_texts Closure h = absurd (false≢true h)

first_three : (xs : List ℤ) → length xs ≡ 3 → xs ≡ items_at 3 0 xs
first_three [] h = absurd (omega arith)
first_three (x ∷ []) h = absurd (omega arith)
first_three (x ∷ (y ∷ [])) h = absurd (omega arith)
first_three (x ∷ (y ∷ (z ∷ []))) h = refl
first_three (x ∷ (y ∷ (z ∷ (w ∷ xs)))) h = absurd (omega arith)

pub triple_value : (v : Plain) (xs : List ℤ) → IsPlain v.ty v.nums v.texts → is_one_triple v.ty ≡ true → xs ≡ items_at 3 0 v.nums → Of v ≡ with_numbers v.ty xs
triple_value v xs p h e =
    let alone_in : v.ty ≡ only v.ty.base = alone v.ty (and_parts (is_triple v.ty.base) (eqb v.ty.len 0) h).1 in
    let q = subst (λ t. IsPlain t v.nums v.texts) alone_in p in
    let none : length v.texts ≡ 0 = q.texts_fit ∙ no_texts v.ty.base (and_parts (is_triple v.ty.base) (eqb v.ty.len 0) h).0 in
    plain_is v v.ty xs [] refl (first_three v.nums (three_numbers v p h) ∙ sym e) (no_item v.texts none)

all_taken : (n : ℕ) (xs : List ℤ) → length xs ≡ n → take n xs ≡ xs
all_taken zero [] h = refl
all_taken zero (x ∷ xs) h = absurd (omega arith)
all_taken (suc n) [] h = absurd (omega arith)
all_taken (suc n) (x ∷ xs) h = ap (λ ys. x ∷ ys) (all_taken n xs (omega arith))

pub matrix_value : (v : Plain) (xs : List ℤ) → IsPlain v.ty v.nums v.texts → is_only Matrix v.ty ≡ true → xs ≡ items_at 16 0 v.nums → Of v ≡ with_numbers (only Matrix) xs
matrix_value v xs p h e =
    let q = from_only v.ty Matrix v.nums v.texts h p in
    plain_is v (only Matrix) xs [] (same_type-true v.ty (only Matrix) h) (sym (e ∙ all_taken 16 v.nums q.nums_fit)) (no_item v.texts q.texts_fit)
