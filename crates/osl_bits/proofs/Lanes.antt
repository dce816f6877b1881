-- Eight words at a time, as their vectors' lanes, and the rest.
use Rattle.std.proofs.Common.{◌≡◌, ℕ, suc, zero, ◌+◌, ◌-◌, ◌/◌, ◌%◌, ◌^◌, ◌<◌, ◌≤◌, ◌==◌, Bool, true, false, List, [], ◌∷◌, length, map, get_or, sym, ap, refl, ◌∙◌, ⊎_elim, arith}
use Rattle.std.specs.Prelude.{◌↔◌, IsTrue, nat_eq, slice_index}
use Rattle.std.specs.Simd.Lanes.{zip2, chunk, put_chunk, mask_l}
use Rattle.std.proofs.Math.Nat.{pow-succ'}
use Rattle.std.proofs.lemmas.Bool.{cases_lt, cases_eq, false≢true, eqb-true, eq-eqb}
use Rattle.std.proofs.lemmas.Simd.{length-chunk, get_or-chunk, get_or-zip2, length-zip2, get_or-put_chunk_below, get_or-put_chunk_at, get_or-put_chunk_above, mask_l-lt}
use Rattle.std.specs.Int.{bit_at}
use Rattle.osl_bits.specs.Bits.{bit_of}
use Rattle.osl_bits.specs.Words.{Combined, SameWords}
use Rattle.osl_bits.proofs.Rows.{bit_of_past, words_differ}

-- ---- parts that were combined, one after another

pub Combined-none : (f : ℕ → ℕ → ℕ) (old others : List ℕ) (at : ℕ) → Combined f old others old at at
Combined-none f old others at = record { done = λ k b c. absurd (omega arith); below = λ k b. refl; above = λ k b. refl }

pub Combined-next : (f : ℕ → ℕ → ℕ) (old others mid new : List ℕ) (from at to : ℕ) → from ≤ at → at ≤ to → Combined f old others mid from at → Combined f mid others new at to → Combined f old others new from to
Combined-next f old others mid new from at to h k a b = record {
  done = λ i l m. ⊎_elim
      (λ (u : i < at). b.below i u ∙ a.done i l u)
      (λ (u : at ≤ i). b.done i u m ∙ ap (λ w. f w (slice_index others i)) (a.above i u))
      (cases_lt i at);
  below = λ i l. b.below i (omega arith) ∙ a.below i l;
  above = λ i l. b.above i l ∙ a.above i (omega arith);
}

-- ---- one vector

pub zip2-map_right : (f : ℕ → ℕ → ℕ) (g : ℕ → ℕ) (xs ys : List ℕ) → zip2 f xs (map g ys) ≡ zip2 (λ x y. f x (g y)) xs ys
zip2-map_right f g [] ys = refl
zip2-map_right f g (x ∷ xs) [] = refl
zip2-map_right f g (x ∷ xs) (y ∷ ys) = ap (λ zs. f x (g y) ∷ zs) (zip2-map_right f g xs ys)

length-eight : (old : List ℕ) (at : ℕ) → at + 8 ≤ length old → length (chunk at 8 old) ≡ 8
length-eight old at h = length-chunk at 8 old h

pub Combined-lanes : (f : ℕ → ℕ → ℕ) (old others lanes : List ℕ) (at : ℕ) → at + 8 ≤ length old → at + 8 ≤ length others → lanes ≡ zip2 f (chunk at 8 old) (chunk at 8 others)
    → Combined f old others (put_chunk at old lanes) at (at + 8)
Combined-lanes f old others lanes at h k e =
    let mine = length-eight old at h in
    let across = length-eight others at k in
    let size : length lanes ≡ 8 = ap length e ∙ length-zip2 f (chunk at 8 old) (chunk at 8 others) (mine ∙ sym across) ∙ mine in
    record {
      done = λ i l m.
          let j : at + (i - at) ≡ i = omega arith in
          let to : get_or (put_chunk at old lanes) (at + (i - at)) 0 ≡ get_or lanes (i - at) 0 = get_or-put_chunk_at at old lanes (i - at) 0 (omega arith) (omega arith) in
          let is : get_or lanes (i - at) 0 ≡ f (get_or (chunk at 8 old) (i - at) 0) (get_or (chunk at 8 others) (i - at) 0) = ap (λ zs. get_or zs (i - at) 0) e ∙ get_or-zip2 f (chunk at 8 old) (chunk at 8 others) (i - at) 0 0 0 (omega arith) (omega arith) in
          let x : get_or (chunk at 8 old) (i - at) 0 ≡ get_or old (at + (i - at)) 0 = get_or-chunk at 8 old (i - at) 0 (omega arith) in
          let y : get_or (chunk at 8 others) (i - at) 0 ≡ get_or others (at + (i - at)) 0 = get_or-chunk at 8 others (i - at) 0 (omega arith) in
          ap (λ n. get_or (put_chunk at old lanes) n 0) (sym j) ∙ to ∙ is ∙ ap (λ a. f a (get_or (chunk at 8 others) (i - at) 0)) (x ∙ ap (λ n. get_or old n 0) j)
          ∙ ap (λ b. f (get_or old i 0) b) (y ∙ ap (λ n. get_or others n 0) j);
      below = λ i l. get_or-put_chunk_below at old lanes i 0 l;
      above = λ i l. get_or-put_chunk_above at old lanes i 0 (omega arith);
    }

-- ---- lanes that are all the same

-- the greatest mask has all bits, and only it
full_mask : (ms : List Bool) → mask_l ms + 1 ≡ 2 ^ length ms → (k : ℕ) → k < length ms → get_or ms k false ≡ true
full_mask [] e k b = absurd (omega arith)
full_mask (true ∷ ms) e zero b = refl
full_mask (true ∷ ms) e (suc k) b =
    let two = pow-succ' 2 (length ms) in
    full_mask ms (omega arith) k (omega arith)
full_mask (false ∷ ms) e k b =
    let two = pow-succ' 2 (length ms) in
    absurd (omega arith)

mask_of_all : (ms : List Bool) → ((k : ℕ) → k < length ms → get_or ms k false ≡ true) → mask_l ms + 1 ≡ 2 ^ length ms
mask_of_all [] h = refl
mask_of_all (true ∷ ms) h =
    let rest = mask_of_all ms (λ k b. h (suc k) (omega arith)) in
    let two = pow-succ' 2 (length ms) in
    omega arith
mask_of_all (false ∷ ms) h = absurd (false≢true (h 0 (omega arith)))

-- a vector of eight tests
eight_mask : (ms : List Bool) → length ms ≡ 8 → IsTrue (nat_eq (mask_l ms % 2 ^ 64) 255) ↔ ((k : ℕ) → k < 8 → get_or ms k false ≡ true)
eight_mask ms l =
    let low = mask_l-lt ms in
    let pow : 2 ^ length ms ≡ 256 = ap (λ n. 2 ^ n) l in
    let small : mask_l ms % 2 ^ 64 ≡ mask_l ms = omega arith in (
      λ t k b. full_mask ms (let e = eqb-true (mask_l ms % 2 ^ 64) 255 t in omega arith) k (omega arith),
      λ h. let e = mask_of_all ms (λ k b. h k (omega arith)) in eq-eqb (mask_l ms % 2 ^ 64) 255 (omega arith),
    )

pub same_lanes : (words others : List ℕ) (at : ℕ) (ms : List Bool) → at + 8 ≤ length words → at + 8 ≤ length others → ms ≡ zip2 nat_eq (chunk at 8 words) (chunk at 8 others)
    → IsTrue (nat_eq (mask_l ms % 2 ^ 64) 255) ↔ SameWords words others at (at + 8)
same_lanes words others at ms h k e =
    let mine = length-eight words at h in
    let across = length-eight others at k in
    let size : length ms ≡ 8 = ap length e ∙ length-zip2 nat_eq (chunk at 8 words) (chunk at 8 others) (mine ∙ sym across) ∙ mine in
    let lane : (j : ℕ) → j < 8 → get_or ms j false ≡ nat_eq (get_or words (at + j) 0) (get_or others (at + j) 0) = λ j b.
    ap (λ zs. get_or zs j false) e ∙ get_or-zip2 nat_eq (chunk at 8 words) (chunk at 8 others) j 0 0 false (omega arith) (omega arith)
    ∙ ap (λ a. nat_eq a (get_or (chunk at 8 others) j 0)) (get_or-chunk at 8 words j 0 b) ∙ ap (λ b. nat_eq (get_or words (at + j) 0) b) (get_or-chunk at 8 others j 0 b) in
    let mask = eight_mask ms size in (
      λ t i l m.
          let j : at + (i - at) ≡ i = omega arith in
          let on : nat_eq (get_or words (at + (i - at)) 0) (get_or others (at + (i - at)) 0) ≡ true = sym (lane (i - at) (omega arith)) ∙ mask.0 t (i - at) (omega arith) in
          sym (ap (λ n. get_or words n 0) j) ∙ eqb-true (get_or words (at + (i - at)) 0) (get_or others (at + (i - at)) 0) on ∙ ap (λ n. get_or others n 0) j,
      λ same. mask.1 (λ i b. lane i b ∙ eq-eqb (get_or words (at + i) 0) (get_or others (at + i) 0) (same (at + i) (omega arith) (omega arith))),
    )

-- ---- whole rows

pub SameWords-next : (words others : List ℕ) (from at to : ℕ) → SameWords words others from at → SameWords words others at to → SameWords words others from to
SameWords-next words others from at to a b = λ k l m. ⊎_elim (λ (u : k < at). a k l u) (λ (u : at ≤ k). b k u m) (cases_lt k at)

-- words that are the same up to their end have the same bits, and the other way round
pub same_words : (words others : List ℕ) → length words ≡ length others → ((k : ℕ) → get_or words k 0 < 2 ^ 64) → ((k : ℕ) → get_or others k 0 < 2 ^ 64)
    → SameWords words others 0 (length words) ↔ ((i : ℕ) → bit_of words i ≡ bit_of others i)
same_words words others l fits others_fit = (
  λ same i. ⊎_elim
      (λ (u : i / 64 < length words). ap (λ w. bit_at w (i % 64) == 1) (same (i / 64) (omega arith) u))
      (λ (u : length words ≤ i / 64). bit_of_past words i u ∙ sym (bit_of_past others i (omega arith)))
      (cases_lt (i / 64) (length words)),
  λ bits k a b. ⊎_elim
      (λ e. e)
      (λ n. absurd (words_differ words others k (fits k) (others_fit k) n bits))
      (cases_eq (get_or words k 0) (get_or others k 0)),
)
