-- Rows by their bits: a row's list is told by its bit at each place, and so are its words.
use Rattle.std.proofs.Common.{◌≡◌, ◌≢◌, ℕ, suc, zero, ◌+◌, ◌-◌, ◌*◌, ◌/◌, ◌%◌, ◌^◌, ◌<◌, ◌≤◌, ◌==◌, Bool, false, not, List, [], ◌∷◌, length, get_or, set, max, min, replicate, Some, sym, ap, refl, ◌∙◌, ⊎_elim, arith}
use Rattle.std.specs.Prelude.{◌↔◌, ◌&&◌, ◌||◌, slice_get, bit_and, bit_or}
use Rattle.std.specs.Int.{bit_at, bit_not, w64}
use Rattle.std.proofs.lemmas.Bool.Decides.{nat_tests}
use Rattle.std.proofs.lemmas.List.{get_or_past, length-replicate, get_or-replicate, get_or-set_same, get_or-set_other, length-set}
use Rattle.std.proofs.lemmas.Bool.{cases_eq, cases_lt}
use Rattle.std.proofs.lemmas.Option.{slice_get-get_or}
use Rattle.std.proofs.lemmas.List.FromFn.{length-map-range_with_len, get_or-map-range_with_len, fill_by_all}
use Rattle.std.proofs.lemmas.Nat.Bits.{bit_at_and, bit_at_or, bit_at_not, bit_at-lt, same_from_bits_below, bit_at-zero}
use Rattle.osl_bits.specs.Bits.{bit_of, bits_of, IsRow}
use Rattle.osl_bits.specs.Row.{each_pair}

pub length-bits_of : (words : List ℕ) (n : ℕ) → length (bits_of words n) ≡ n
length-bits_of words n = length-map-range_with_len (bit_of words) 0 n

-- a row's list is as long as its length says
pub length_of : (words : List ℕ) (n : ℕ) (row : List Bool) → bits_of words n ≡ row → length row ≡ n
length_of words n row v = sym (ap length v) ∙ length-bits_of words n

pub get_or-bits_of : (words : List ℕ) (n i : ℕ) (d : Bool) → i < n → get_or (bits_of words n) i d ≡ bit_of words i
get_or-bits_of words n i d h = get_or-map-range_with_len (bit_of words) 0 n i i d h (omega arith)

-- a list that has the words' bit at each place is the row's list
pub bits_of-by_places : (words : List ℕ) (n : ℕ) (xs : List Bool) → length xs ≡ n → ((i : ℕ) → i < n → bit_of words i ≡ get_or xs i false) → bits_of words n ≡ xs
bits_of-by_places words n xs l h = sym (fill_by_all (bit_of words) xs n false l (λ k b. sym (h k b)))

-- ---- two rows

pub length-each_pair : (f : Bool → Bool → Bool) (xs ys : List Bool) → length xs ≡ length ys → length (each_pair f xs ys) ≡ length xs
length-each_pair f [] ys h = refl
length-each_pair f (x ∷ xs) [] h = absurd (omega arith)
length-each_pair f (x ∷ xs) (y ∷ ys) h = ap (λ n. suc n) (length-each_pair f xs ys (omega arith))

pub get_or-each_pair : (f : Bool → Bool → Bool) (xs ys : List Bool) (i : ℕ) → length xs ≡ length ys → i < length xs → get_or (each_pair f xs ys) i false ≡ f (get_or xs i false) (get_or ys i false)
get_or-each_pair f [] ys i h b = absurd (omega arith)
get_or-each_pair f (x ∷ xs) [] i h b = absurd (omega arith)
get_or-each_pair f (x ∷ xs) (y ∷ ys) zero h b = refl
get_or-each_pair f (x ∷ xs) (y ∷ ys) (suc i) h b = get_or-each_pair f xs ys i (omega arith) (omega arith)

max-bits : (x y : ℕ) → x < 2 → y < 2 → (max x y == 1) ≡ ((x == 1) || (y == 1))
max-bits x y h k = grind (arith, nat_tests)

min-bits : (x y : ℕ) → x < 2 → y < 2 → (min x (1 - y) == 1) ≡ ((x == 1) && not (y == 1))
min-bits x y h k = grind (arith, nat_tests)

pub bit_or-bit : (a b j : ℕ) → (bit_at (bit_or a b) j == 1) ≡ ((bit_at a j == 1) || (bit_at b j == 1))
bit_or-bit a b j = rw bit_at_or (max-bits (bit_at a j) (bit_at b j) (bit_at-lt a j) (bit_at-lt b j))

pub bit_minus-bit : (a b j : ℕ) → b < 2 ^ 64 → j < 64 → (bit_at (bit_and a (bit_not w64 b)) j == 1) ≡ ((bit_at a j == 1) && not (bit_at b j == 1))
bit_minus-bit a b j h k =
    let e : bit_at (bit_not w64 b) j ≡ 1 - bit_at b j = bit_at_not w64 b j h k in
    rw (bit_at_and, e) (min-bits (bit_at a j) (bit_at b j) (bit_at-lt a j) (bit_at-lt b j))

pub bit_of_past : (words : List ℕ) (i : ℕ) → length words ≤ i / 64 → bit_of words i ≡ false
bit_of_past words i h = rw (get_or_past words (i / 64) 0 h, bit_at-zero (i % 64)) refl

-- ---- one bit set

-- the word where bit i lies is one of the row's
pub place_of : (words : List ℕ) (n i : ℕ) (row : List Bool) → IsRow words n → bits_of words n ≡ row → i < length row → i / 64 < length words
place_of words n i row r v b =
    let l = length_of words n row v in
    omega (arith, r.enough)

-- the list's value at i is the words' bit there
pub test_of : (words : List ℕ) (n i : ℕ) (row : List Bool) → bits_of words n ≡ row → i < length row → slice_get row i ≡ Some (bit_of words i)
test_of words n i row v b =
    let l = length_of words n row v in
    slice_get-get_or row i false b ∙ ap Some (ap (λ xs. get_or xs i false) (sym v) ∙ get_or-bits_of words n i false (omega arith))

-- w is the word of bit i with that bit set to y
pub record Sets (words : List ℕ) (i : ℕ) (y : Bool) (w : ℕ) : Type 0 where
  pub within : i / 64 < length words
  pub same : (bit_at w (i % 64) == 1) ≡ y
  pub others : (j : ℕ) → j < 64 → j ≢ i % 64 → bit_at w j ≡ bit_at (get_or words (i / 64) 0) j

bit_of-set_same : (words : List ℕ) (i w : ℕ) (y : Bool) → Sets words i y w → bit_of (set words (i / 64) w) i ≡ y
bit_of-set_same words i w y s = rw (get_or-set_same words (i / 64) w 0 s.within) s.same

bit_of-set_other : (words : List ℕ) (i w j : ℕ) (y : Bool) → Sets words i y w → j ≢ i → bit_of (set words (i / 64) w) j ≡ bit_of words j
bit_of-set_other words i w j y s n = ⊎_elim
    (λ e. let apart : j % 64 ≢ i % 64 = λ m. n (omega arith) in
    let at : get_or (set words (i / 64) w) (j / 64) 0 ≡ w = rw e (get_or-set_same words (i / 64) w 0 s.within) in
    let was : get_or words (j / 64) 0 ≡ get_or words (i / 64) 0 = ap (λ k. get_or words k 0) e in
    rw (at, was) (ap (λ b. b == 1) (s.others (j % 64) (omega arith) apart)))
    (λ e. ap (λ w. bit_at w (j % 64) == 1) (get_or-set_other words (i / 64) (j / 64) w 0 e))
    (cases_eq (j / 64) (i / 64))

pub bits_of-set : (words : List ℕ) (n i w : ℕ) (y : Bool) → i < n → Sets words i y w → bits_of (set words (i / 64) w) n ≡ set (bits_of words n) i y
bits_of-set words n i w y b s =
    let row = bits_of words n in
    bits_of-by_places (set words (i / 64) w) n (set row i y) (length-set row i y ∙ length-bits_of words n)
    (λ j h. ⊎_elim
    (λ e. rw (e, get_or-set_same row i y false (omega (arith, length-bits_of words n))) (bit_of-set_same words i w y s))
    (λ e. bit_of-set_other words i w j y s e ∙ sym (get_or-set_other row i j y false e ∙ get_or-bits_of words n j false h))
    (cases_eq j i))

pub IsRow-set : (words : List ℕ) (n i w : ℕ) (y : Bool) → i < n → IsRow words n → Sets words i y w → IsRow (set words (i / 64) w) n
IsRow-set words n i w y b r s = record {
  enough = length-set words (i / 64) w ∙ r.enough;
  past = λ j h. bit_of-set_other words i w j y s (λ e. absurd (omega arith)) ∙ r.past j h;
}

-- ---- a row of false bits

get_or-zeros : (m k : ℕ) → get_or {A = ℕ} (replicate m 0) k 0 ≡ 0
get_or-zeros m k =
    let zeros : List ℕ = replicate m 0 in
    ⊎_elim (λ (h : k < m). get_or-replicate m k 0 0 h) (λ (h : m ≤ k). get_or_past zeros k 0 (omega (arith, length-replicate {A = ℕ} m 0))) (cases_lt k m)

bit_of-zeros : (m i : ℕ) → bit_of (replicate m 0) i ≡ false
bit_of-zeros m i = rw (get_or-zeros m (i / 64), bit_at-zero (i % 64)) refl

pub IsRow-zeros : (m n : ℕ) → m ≡ (n + 63) / 64 → IsRow (replicate m 0) n
IsRow-zeros m n h = record { enough = length-replicate m 0 ∙ h; past = λ i b. bit_of-zeros m i }

pub bits_of-zeros : (m n : ℕ) → bits_of (replicate m 0) n ≡ replicate n false
bits_of-zeros m n = bits_of-by_places (replicate m 0) n (replicate n false) (length-replicate n false)
    (λ i h. bit_of-zeros m i ∙ sym (get_or-replicate n i false false h))

-- ---- two rows

pub bits_of-combined : (f : Bool → Bool → Bool) (new mine others : List ℕ) (n : ℕ)
    → ((i : ℕ) → bit_of new i ≡ f (bit_of mine i) (bit_of others i))
    → bits_of new n ≡ each_pair f (bits_of mine n) (bits_of others n)
bits_of-combined f new mine others n h =
    let xs = bits_of mine n in
    let ys = bits_of others n in
    let same : length xs ≡ length ys = length-bits_of mine n ∙ sym (length-bits_of others n) in
    bits_of-by_places new n (each_pair f xs ys) (length-each_pair f xs ys same ∙ length-bits_of mine n)
    (λ i b. h i ∙ sym (get_or-each_pair f xs ys i same (omega (arith, length-bits_of mine n))
    ∙ ap (λ x. f x (get_or ys i false)) (get_or-bits_of mine n i false b) ∙ ap (λ y. f (bit_of mine i) y) (get_or-bits_of others n i false b)))

-- the bits of words that were joined or taken away one by one
pub bit_of-union : (new words others : List ℕ) → length new ≡ length words → ((k : ℕ) → k < length new → get_or new k 0 ≡ bit_or (get_or words k 0) (get_or others k 0))
    → length words ≡ length others → (i : ℕ) → bit_of new i ≡ (bit_of words i || bit_of others i)
bit_of-union new words others n h l i = ⊎_elim
    (λ (b : i / 64 < length new). rw (h (i / 64) b) (bit_or-bit (get_or words (i / 64) 0) (get_or others (i / 64) 0) (i % 64)))
    (λ b. rw (bit_of_past new i b, bit_of_past words i (omega arith), bit_of_past others i (omega arith)) refl)
    (cases_lt (i / 64) (length new))

pub bit_of-minus : (new words others : List ℕ) → length new ≡ length words → ((k : ℕ) → k < length new → get_or new k 0 ≡ bit_and (get_or words k 0) (bit_not w64 (get_or others k 0)))
    → length words ≡ length others → ((k : ℕ) → get_or others k 0 < 2 ^ 64) → (i : ℕ) → bit_of new i ≡ (bit_of words i && not (bit_of others i))
bit_of-minus new words others n h l fits i = ⊎_elim
    (λ (b : i / 64 < length new). rw (h (i / 64) b) (bit_minus-bit (get_or words (i / 64) 0) (get_or others (i / 64) 0) (i % 64) (fits (i / 64)) (omega arith)))
    (λ b. rw (bit_of_past new i b, bit_of_past words i (omega arith)) refl)
    (cases_lt (i / 64) (length new))

-- ---- equal rows

-- the row's bit j of word k
bit_of-at : (words : List ℕ) (k j : ℕ) → j < 64 → bit_of words (64 * k + j) ≡ (bit_at (get_or words k 0) j == 1)
bit_of-at words k j h =
    let q : (64 * k + j) / 64 ≡ k = omega arith in
    let r : (64 * k + j) % 64 ≡ j = omega arith in
    rw (q, r) refl

bit-by_test : (x y : ℕ) → x < 2 → y < 2 → (x == 1) ≡ (y == 1) → x ≡ y
bit-by_test x y h k e = grind (arith, nat_tests)

-- rows of one length with one list have the same bits, also past their length
pub same_bits : (words others : List ℕ) (n i : ℕ) → IsRow words n → IsRow others n → bits_of words n ≡ bits_of others n → bit_of words i ≡ bit_of others i
same_bits words others n i r s e = ⊎_elim
    (λ h. sym (get_or-bits_of words n i false h) ∙ ap (λ xs. get_or xs i false) e ∙ get_or-bits_of others n i false h)
    (λ h. r.past i h ∙ sym (s.past i h))
    (cases_lt i n)

-- words that differ somewhere have another bit
pub words_differ : (words others : List ℕ) (k : ℕ) → get_or words k 0 < 2 ^ 64 → get_or others k 0 < 2 ^ 64 → get_or words k 0 ≢ get_or others k 0
    → ((i : ℕ) → bit_of words i ≡ bit_of others i) → ⊥
words_differ words others k fits others_fit n e =
    n (same_from_bits_below 64 (get_or words k 0) (get_or others k 0) fits others_fit
    (λ j b. bit-by_test (bit_at (get_or words k 0) j) (bit_at (get_or others k 0) j) (bit_at-lt (get_or words k 0) j) (bit_at-lt (get_or others k 0) j)
    (sym (bit_of-at words k j b) ∙ e (64 * k + j) ∙ bit_of-at others k j b)))

-- one row's list is another's exactly where all their bits are the same
pub rows_same : (words others : List ℕ) (n m : ℕ) (row other : List Bool) → IsRow words n → IsRow others m → bits_of words n ≡ row → bits_of others m ≡ other
    → length row ≡ length other → ((i : ℕ) → bit_of words i ≡ bit_of others i) ↔ (row ≡ other)
rows_same words others n m row other r s v w l =
    let same : n ≡ m = sym (length_of words n row v) ∙ l ∙ length_of others m other w in (
      λ e. sym v ∙ bits_of-by_places words n other (sym l ∙ length_of words n row v)
          (λ i b. e i ∙ sym (get_or-bits_of others m i false (omega arith)) ∙ ap (λ xs. get_or xs i false) w),
      λ e i. same_bits words others n i r (rw same s) (v ∙ e ∙ sym w ∙ ap (bits_of others) (sym same)),
    )

-- a row's words are as many as another's of its length
pub as_many_words : (words others : List ℕ) (n m : ℕ) (row other : List Bool) → IsRow words n → IsRow others m → bits_of words n ≡ row → bits_of others m ≡ other
    → length row ≡ length other → length words ≡ length others
as_many_words words others n m row other r s v w l =
    let same : n ≡ m = sym (length_of words n row v) ∙ l ∙ length_of others m other w in
    omega (arith, r.enough, s.enough)

-- ---- two rows, as the calls have them

pub view_combined : (f : Bool → Bool → Bool) (new words others : List ℕ) (n m : ℕ) (row other : List Bool) → bits_of words n ≡ row → bits_of others m ≡ other
    → length row ≡ length other → ((i : ℕ) → bit_of new i ≡ f (bit_of words i) (bit_of others i)) → bits_of new n ≡ each_pair f row other
view_combined f new words others n m row other v w l h =
    let same : n ≡ m = sym (length_of words n row v) ∙ l ∙ length_of others m other w in
    bits_of-combined f new words others n h ∙ ap (λ xs. each_pair f xs (bits_of others n)) v ∙ ap (λ ys. each_pair f row ys) (ap (bits_of others) same ∙ w)

-- a call that keeps the row's length keeps its list's
pub kept_length : (words new : List ℕ) (n : ℕ) (row row' : List Bool) → bits_of words n ≡ row → bits_of new n ≡ row' → length row' ≡ length row
kept_length words new n row row' v w = length_of new n row' w ∙ sym (length_of words n row v)

pub IsRow-combined : (f : Bool → Bool → Bool) → f false false ≡ false → (new words others : List ℕ) (n m : ℕ) (row other : List Bool) → IsRow words n → IsRow others m
    → bits_of words n ≡ row → bits_of others m ≡ other → length row ≡ length other → length new ≡ length words
    → ((i : ℕ) → bit_of new i ≡ f (bit_of words i) (bit_of others i)) → IsRow new n
IsRow-combined f z new words others n m row other r s v w l k h =
    let same : n ≡ m = sym (length_of words n row v) ∙ l ∙ length_of others m other w in
    record { enough = k ∙ r.enough; past = λ i b. h i ∙ ap (λ x. f x (bit_of others i)) (r.past i b) ∙ ap (f false) (s.past i (omega arith)) ∙ z }
