-- The shape of a decimal.
use Rattle.std.proofs.Common.{◌≡◌, ℕ, ◌+◌, Bool, true, not, ◌||◌, List, [], ◌∷◌, ◌++◌, length, get_or, refl, sym, ap, subst, ◌∙◌, inl, inr, arith, append_assoc, append-nil}
use Rattle.std.specs.List.{list_any, position_or_len, before_first, after_first}
use Rattle.std.proofs.lemmas.Bool.{and_parts, cases_lt, eqb-true}
use Rattle.std.proofs.lemmas.List.{take_all, drop_all}
use Rattle.std.proofs.lemmas.List.Sums.{split_at_first, passes_at_first}
use Rattle.std.proofs.lemmas.List.Folds.{list_any_at}
use Rattle.osl_decimal.specs.Decimal.{without_sign, is_numeral, is_point, begins_exponent, mantissa, whole, decimals, exponent, exponent_digits, is_decimal}

-- A list round the first element that passes a test, or a list in which none does.
pub data Round (test : ℕ → Bool) (xs : List ℕ) : Type 0 where
  no_one : before_first test xs ≡ xs → after_first test xs ≡ [] → Round test xs
  some_one : (c : ℕ) → test c ≡ true → list_any test xs ≡ true → xs ≡ before_first test xs ++ c ∷ after_first test xs → Round test xs

pub round : (test : ℕ → Bool) (xs : List ℕ) → Round test xs
round test xs = elim (cases_lt (position_or_len test xs) (length xs)) [
  | inl within ↦ some_one (get_or xs (position_or_len test xs) 0) (passes_at_first test xs 0 within)
      (list_any_at test xs (position_or_len test xs) 0 within (passes_at_first test xs 0 within)) (split_at_first test xs 0 within)
  | inr past ↦ no_one (take_all (position_or_len test xs) xs past) (drop_all (position_or_len test xs + 1) xs (omega arith))
]

-- digits behind a point, or no point
pub data IsPointed : List ℕ → List ℕ → Type 0 where
  no_point : IsPointed [] []
  point : (digits : List ℕ) → IsPointed (46 ∷ digits) digits

-- an exponent behind its `e`, or none
pub data IsTail : List ℕ → Type 0 where
  no_tail : IsTail []
  tail : (e : ℕ) (behind : List ℕ) → begins_exponent e ≡ true → is_numeral (without_sign behind) ≡ true → IsTail (e ∷ behind)

pub record Shape (text : List ℕ) : Type 0 where
  pub front : List ℕ
  pub middle : List ℕ
  pub digits : List ℕ
  pub end : List ℕ
  pub split : text ≡ front ++ (middle ++ end)
  pub pointed : IsPointed middle digits
  pub tailed : IsTail end
  pub numeral : is_numeral (front ++ digits) ≡ true

-- the mantissa of a decimal
record Halves (part : List ℕ) : Type 0 where
  front : List ℕ
  middle : List ℕ
  digits : List ℕ
  split : part ≡ front ++ middle
  pointed : IsPointed middle digits
  front_is : before_first is_point part ≡ front
  digits_is : after_first is_point part ≡ digits

halves : (part : List ℕ) → Halves part
halves part = elim (round is_point part) [
  | no_one before after ↦ record { front = part; middle = []; digits = []; split = sym (append-nil part); pointed = no_point; front_is = before; digits_is = after }
  | some_one c is any split ↦ record {
    front = before_first is_point part;
    middle = c ∷ after_first is_point part;
    digits = after_first is_point part;
    split = split;
    pointed = subst (λ (x : ℕ). IsPointed (x ∷ after_first is_point part) (after_first is_point part)) (sym (eqb-true c 46 is)) (point (after_first is_point part));
    front_is = refl;
    digits_is = refl;
  }
]

-- a mantissa of a decimal, and what stands behind it
with_end : (text : List ℕ) → is_numeral (whole text ++ decimals text) ≡ true → (end : List ℕ) → text ≡ mantissa text ++ end → IsTail end → Shape text
unfolding whole decimals
with_end text numeral end split tailed =
    let h = halves (mantissa text) in
    record {
      front = h.front;
      middle = h.middle;
      digits = h.digits;
      end = end;
      split = split ∙ ap (λ (xs : List ℕ). xs ++ end) h.split ∙ append_assoc h.front h.middle end;
      pointed = h.pointed;
      tailed = tailed;
      numeral = ap (λ (xs : List ℕ). is_numeral (xs ++ h.digits)) (sym h.front_is)
          ∙ ap (λ (ys : List ℕ). is_numeral (before_first is_point (mantissa text) ++ ys)) (sym h.digits_is) ∙ numeral;
    }

pub shape : (text : List ℕ) → is_decimal text ≡ true → Shape text
unfolding is_decimal mantissa exponent exponent_digits
shape text is = go (and_parts (is_numeral (whole text ++ decimals text)) (not (list_any begins_exponent text) || is_numeral (exponent_digits text)) is) (round begins_exponent text)
  where
    go : (is_numeral (whole text ++ decimals text) ≡ true) × ((not (list_any begins_exponent text) || is_numeral (exponent_digits text)) ≡ true) → Round begins_exponent text → Shape text
    go parts (no_one before after) = with_end text parts.0 [] (sym before ∙ sym (append-nil (mantissa text))) no_tail
    go parts (some_one c begins any split) =
        let behind : is_numeral (exponent_digits text) ≡ true = rw any at parts.1 in
        with_end text parts.0 (c ∷ after_first begins_exponent text) split (tail c (after_first begins_exponent text) begins behind)
