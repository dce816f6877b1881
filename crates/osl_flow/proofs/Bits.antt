-- Rows by their bits.
use Rattle.std.proofs.Common.{◌≡◌, ℕ, ◌<◌, ◌≤◌, ◌==◌, ◌⊎◌, inl, inr, Bool, true, false, not, List, [], ◌∷◌, length, set, replicate, refl, sym, ap, ◌∙◌, arith, ⊎_elim}
use Rattle.std.specs.Prelude.{◌||◌, ◌&&◌, if◌then◌else◌}
use Rattle.std.proofs.lemmas.Bool.{cases_eq, cases_lt, eq-eqb, ne_eqb}
use Rattle.std.proofs.lemmas.List.{length-replicate, get_or-replicate, get_or_past, get_or-set_same, get_or-set_other, ext_get_or}
use Rattle.std.proofs.lemmas.List.FromFn.{fill_by_all}
use Rattle.osl_bits.specs.Row.{each_pair, union, minus}
use Rattle.osl_bits.proofs.Rows.{length-each_pair, get_or-each_pair}
use Rattle.osl_flow.specs.Rows.{lacks}
use Rattle.osl_flow.specs.Uses.{bit, has, row_of}

-- a row without any bit
pub cleared : (row : List Bool) (n : ℕ) → length row ≡ n → ((k : ℕ) → k < n → bit row k ≡ false) → row ≡ replicate n false
cleared row n size none = ext_get_or false row (replicate n false) (size ∙ sym (length-replicate n false)) (λ k lt. let h : k < n = omega arith in none k h ∙ sym (get_or-replicate n k false false h))

pub no_bit : (n k : ℕ) → bit (replicate n false) k ≡ false
no_bit n k = ⊎_elim (λ (lt : k < n). get_or-replicate n k false false lt) (λ (past : n ≤ k). get_or_past (replicate n false) k false (let e = length-replicate n false in omega (arith, e))) (cases_lt k n)

-- a set that was put into an empty row
pub filled : (empty row : List Bool) (n : ℕ) (symbols : List ℕ) → empty ≡ replicate n false → length row ≡ length empty
    → ((k : ℕ) → bit row k ≡ (bit empty k || has symbols k)) → row ≡ row_of n (has symbols)
filled empty row n symbols none size bits =
    fill_by_all (has symbols) row n false (size ∙ ap length none ∙ length-replicate n false)
    (λ k lt. bits k ∙ ap (λ xs. bit xs k || has symbols k) none ∙ ap (λ b. b || has symbols k) (no_bit n k))

-- ---- one bit, and two rows

pub bit_set : (row : List Bool) (i k : ℕ) (b : Bool) → i < length row → bit (set row i b) k ≡ (if i == k then b else bit row k)
bit_set row i k b lt = ⊎_elim
    (λ (e : i ≡ k). ap (λ j. bit (set row i b) j) (sym e) ∙ get_or-set_same row i b false lt ∙ sym (ap (λ c. if c then b else bit row k) (eq-eqb i k e)))
    (λ (n : i ≡ k → ⊥). get_or-set_other row i k b false (λ e. n (sym e)) ∙ sym (ap (λ c. if c then b else bit row k) (ne_eqb i k n)))
    (cases_eq i k)

bit_pair : (f : Bool → Bool → Bool) (a b : List Bool) (k : ℕ) → f false false ≡ false → length a ≡ length b → bit (each_pair f a b) k ≡ f (bit a k) (bit b k)
bit_pair f a b k z e = ⊎_elim
    (λ (lt : k < length a). get_or-each_pair f a b k e lt)
    (λ (past : length a ≤ k).
    let size = length-each_pair f a b e in
    get_or_past (each_pair f a b) k false (omega (arith, size)) ∙ sym z ∙ sym (ap (λ x. f x (bit b k)) (get_or_past a k false past) ∙ ap (f false) (get_or_past b k false (omega arith))))
    (cases_lt k (length a))

pub bit_union : (a b : List Bool) (k : ℕ) → length a ≡ length b → bit (union a b) k ≡ (bit a k || bit b k)
bit_union a b k e = bit_pair (λ x y. x || y) a b k refl e

pub bit_minus : (a b : List Bool) (k : ℕ) → length a ≡ length b → bit (minus a b) k ≡ (bit a k && not (bit b k))
bit_minus a b k e = bit_pair (λ x y. x && not y) a b k refl e

-- ---- what a row lacks

fewer_lack : (row more : List Bool) → length row ≡ length more → lacks (union row more) ≤ lacks row
fewer_lack [] more e = omega arith
fewer_lack (x ∷ row) [] e = absurd (omega arith)
fewer_lack (true ∷ row) (y ∷ more) e = let h = fewer_lack row more (omega arith) in omega (arith, h)
fewer_lack (false ∷ row) (true ∷ more) e = let h = fewer_lack row more (omega arith) in omega (arith, h)
fewer_lack (false ∷ row) (false ∷ more) e = let h = fewer_lack row more (omega arith) in omega (arith, h)

-- with anything that it does not have a row lacks less
pub less_lack : (row more : List Bool) → length more ≡ length row → (minus more row ≡ replicate (length row) false) ⊎ (lacks (union row (minus more row)) < lacks row)
less_lack [] [] e = inl refl
less_lack [] (y ∷ more) e = absurd (omega arith)
less_lack (x ∷ row) [] e = absurd (omega arith)
less_lack (true ∷ row) (y ∷ more) e = ⊎_elim
    (λ (none : minus more row ≡ replicate (length row) false). inl (ap (λ b. b ∷ minus more row) (and_false y) ∙ ap (λ xs. false ∷ xs) none))
    (λ (less : lacks (union row (minus more row)) < lacks row). inr (omega (arith, less)))
    (less_lack row more (omega arith))
  where
    and_false : (y : Bool) → (y && not true) ≡ false
    and_false true = refl
    and_false false = refl
less_lack (false ∷ row) (true ∷ more) e =
    let n = length-each_pair (λ x y. x && not y) more row (omega arith) in
    let h = fewer_lack row (minus more row) (omega (arith, n)) in
    inr (omega (arith, h))
less_lack (false ∷ row) (false ∷ more) e = ⊎_elim
    (λ (none : minus more row ≡ replicate (length row) false). inl (ap (λ xs. false ∷ xs) none))
    (λ (less : lacks (union row (minus more row)) < lacks row). inr (omega (arith, less)))
    (less_lack row more (omega arith))

-- ---- what is added to a row

both_or : (a b : Bool) → (a || (b && not a)) ≡ (a || b)
both_or true b = refl
both_or false true = refl
both_or false false = refl

none_or : (a b : Bool) → (b && not a) ≡ false → a ≡ (a || b)
none_or true b e = refl
none_or false true e = absurd (cc e)
none_or false false e = refl

none_and : (a b : Bool) → ((b && not a) && not (a || (b && not a))) ≡ false
none_and true true = refl
none_and true false = refl
none_and false true = refl
none_and false false = refl

module _ (row more : List Bool) (size : length more ≡ length row) where
  size_minus : length (minus more row) ≡ length row
  size_minus = length-each_pair (λ x y. x && not y) more row size ∙ size

  size_union : length (union row (minus more row)) ≡ length row
  size_union = length-each_pair (λ x y. x || y) row (minus more row) (sym size_minus)

  pub added_bits : (k : ℕ) → bit (union row (minus more row)) k ≡ (bit row k || bit more k)
  added_bits k = bit_union row (minus more row) k (sym size_minus) ∙ ap (λ b. bit row k || b) (bit_minus more row k size) ∙ both_or (bit row k) (bit more k)

  -- nothing was lacking
  pub kept_bits : minus more row ≡ replicate (length row) false → (k : ℕ) → bit row k ≡ (bit row k || bit more k)
  kept_bits none k = none_or (bit row k) (bit more k) (sym (bit_minus more row k size) ∙ ap (λ xs. bit xs k) none ∙ no_bit (length row) k)

  -- and nothing is left
  pub emptied : minus (minus more row) (union row (minus more row)) ≡ replicate (length row) false
  emptied =
      let same = size_minus ∙ sym size_union in
      cleared (minus (minus more row) (union row (minus more row))) (length row) (length-each_pair (λ x y. x && not y) (minus more row) (union row (minus more row)) same ∙ size_minus)
      (λ k lt. bit_minus (minus more row) (union row (minus more row)) k same
      ∙ ap (λ b. bit (minus more row) k && not b) (bit_union row (minus more row) k (sym size_minus))
      ∙ ap (λ b. b && not (bit row k || b)) (bit_minus more row k size)
      ∙ none_and (bit row k) (bit more k))

  pub less : (minus more row ≡ replicate (length row) false → ⊥) → lacks (union row (minus more row)) < lacks row
  less some = ⊎_elim (λ (none : minus more row ≡ replicate (length row) false). absurd (some none)) (λ (h : lacks (union row (minus more row)) < lacks row). h) (less_lack row more size)

-- ---- the bit of one symbol

pub and_true : (b : Bool) → (b && true) ≡ b
and_true true = refl
and_true false = refl

or_bit : (b c : Bool) → (if c then true else b) ≡ (b || (c || false))
or_bit true true = refl
or_bit true false = refl
or_bit false true = refl
or_bit false false = refl

pub set_one : (row : List Bool) (i k : ℕ) → i < length row → bit (set row i true) k ≡ (bit row k || has (i ∷ []) k)
set_one row i k lt = bit_set row i k true lt ∙ or_bit (bit row k) (i == k)
