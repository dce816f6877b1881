-- Numbers at the front of a list: they go on as far as the text that is read, and are cut short where that is no number.
use Rattle.std.proofs.Common.{◌≡◌, ◌≢◌, ◌⊎◌, ℕ, zero, suc, ◌+◌, ◌<◌, ◌≤◌, Bool, true, false, not, ◌||◌, ◌&&◌, List, [], ◌∷◌, length, take, drop, nat_eq, ◌==◌, slice_index, slice_get, Option, Some, None, if◌then◌else◌, refl, sym, ap, subst, ◌∙◌, inl, inr, arith, length-take, pos}
use Rattle.std.specs.Char.{is_ascii_digit}
use Rattle.std.proofs.lemmas.Bool.{eqb-true, and_parts, or_cases, or_parts, and_right, both_ways, not-true, cases_lt}
use Rattle.std.proofs.lemmas.List.{take-append-drop, drop_more}
use Rattle.std.specs.Str.Parse.{digits_value}
use Rattle.osl_tree.specs.declared.token.TokenKind.{TokenKind}
use Rattle.osl_tree.specs.declared.token.TokenKind.TheVariants as kinds
use Rattle.osl_tree.specs.Lexical.{is_word_byte, is_number, passes, IsToken}
use Rattle.osl_decimal.specs.Decimal.{is_point, begins_exponent, decimal_units}
use Rattle.osl_lex.specs.Scan.{goes_on, run_end, is_hex, number_len}
use Rattle.osl_lex.specs.Value.{number_of}
use Rattle.osl_lex.proofs.Places.{passes_within, fails_there}
use Rattle.osl_lex.proofs.Firsts.{only_number, only_point}
use Rattle.osl_lex.proofs.Fronts.{IsFront, front_some, front_index, front_first}
use Rattle.osl_lex.proofs.Runs.{last_of, run_end-le, always_on}
use Rattle.osl_lex.proofs.Numbers.{begins_as_number, number_text}
use Rattle.osl_lex.proofs.Values.{begins_apart, IsNumber, number_is, number_again}
use Rattle.osl_lex.proofs.Bases.{digit_token, point_token}

pub run_end-within : (hex : Bool) (at before : ℕ) (xs : List ℕ) → run_end hex at before xs ≤ at + length xs
run_end-within hex at before [] = omega arith
run_end-within hex at before (c ∷ cs) = go (goes_on hex before c) (run_end-within hex (at + 1) c cs)
  where
    go : (b : Bool) → run_end hex (at + 1) c cs ≤ at + 1 + length cs → (if b then run_end hex (at + 1) c cs else at) ≤ at + length (c ∷ cs)
    go true low = omega arith
    go false low = omega arith

-- Where a number may begin, every front that is a token is a number, or one byte.
number_or_one : (rest : List ℕ) (n : ℕ) (kind : TokenKind) → begins_as_number rest ≡ true → n ≤ length rest → IsToken (take n rest) kind → (is_number kind ≡ true) ⊎ (n ≡ 1)
number_or_one rest n kind begins low is = elim (or_cases (is_ascii_digit (slice_index rest 0)) (is_point (slice_index rest 0) && is_ascii_digit (slice_index rest 1)) begins) [
  | inl digit ↦ inl (only_number (take n rest) kind is (ap is_ascii_digit (front_first rest n kind is) ∙ digit))
  | inr point ↦ at_point (front_first rest n kind is ∙ eqb-true (slice_index rest 0) 46 (and_parts (is_point (slice_index rest 0)) (is_ascii_digit (slice_index rest 1)) point).0)
]
  where
    at_point : slice_index (take n rest) 0 ≡ 46 → (is_number kind ≡ true) ⊎ (n ≡ 1)
    at_point first = elim (only_point (take n rest) kind is first) [
      | inl number ↦ inl number
      | inr one ↦ inr (let long = length-take n rest in let e = ap length one in omega arith)
    ]

-- A number is the longest token at the front, and cut short.
pub record IsCutFront (rest : List ℕ) : Type 0 where
  pub kind : TokenKind
  pub len : ℕ
  pub front : IsFront rest kind len
  pub number : is_number kind ≡ true
  pub cut : passes (λ c. is_word_byte c || nat_eq c 46) (slice_get rest len) ≡ true

-- the shortest number at the front
record Shortest (rest : List ℕ) : Type 0 where
  kind : TokenKind
  len : ℕ
  some : 0 < len
  low : len ≤ length rest
  is : IsToken (take len rest) kind
  number : is_number kind ≡ true

shortest_point : (c : ℕ) (cs : List ℕ) → c ≡ 46 → is_ascii_digit (slice_index cs 0) ≡ true → Shortest (c ∷ cs)
shortest_point c [] point digit = cc
shortest_point c (d ∷ ds) point digit = record {
  kind = kinds.Float (pos (decimal_units (46 ∷ d ∷ [])));
  len = 2;
  some = omega arith;
  low = omega arith;
  is = subst (λ (x : ℕ). IsToken (x ∷ d ∷ []) (kinds.Float (pos (decimal_units (46 ∷ d ∷ []))))) (sym point) (point_token d digit);
  number = refl;
}

shortest : (rest : List ℕ) → begins_as_number rest ≡ true → Shortest rest
shortest [] begins = cc
shortest (c ∷ cs) begins = elim (or_cases (is_ascii_digit c) (is_point c && is_ascii_digit (slice_index cs 0)) begins) [
  | inl digit ↦ record { kind = kinds.Int (pos (digits_value 10 (c ∷ []))); len = 1; some = omega arith; low = omega arith; is = digit_token c digit; number = refl }
  | inr point ↦ (
      let parts = and_parts (is_point c) (is_ascii_digit (slice_index cs 0)) point in
      shortest_point c cs (eqb-true c 46 parts.0) parts.1
      )
]

module _ (rest : List ℕ) (begins : begins_as_number rest ≡ true) where
  -- A front that is a number is as long as the number goes on, or shorter.
  goes : (n : ℕ) (kind : TokenKind) → n ≤ length rest → IsToken (take n rest) kind → is_number kind ≡ true
      → number_len rest ≡ run_end (is_hex rest) n (last_of 0 (take n rest)) (drop n rest)
  goes n kind low is number =
      let text = number_text (take n rest) kind is number in
      let whole = take-append-drop n rest in
      let through = text.through (drop n rest) 0 (drop n rest) in
      let long = length-take n rest in
      let at : 0 + length (take n rest) ≡ n = omega arith in
      let e = ap (λ (xs : List ℕ). run_end (is_hex xs) 0 0 xs) (sym whole) in
      let f = ap (λ (xs : List ℕ). run_end (is_hex xs) (0 + length (take n rest)) (last_of 0 (take n rest)) (drop n rest)) whole in
      let g = ap (λ m. run_end (is_hex rest) m (last_of 0 (take n rest)) (drop n rest)) at in
      e ∙ through ∙ f ∙ g

  at_most : (n : ℕ) (kind : TokenKind) → n ≤ length rest → IsToken (take n rest) kind → is_number kind ≡ true → n ≤ number_len rest
  at_most n kind low is number = let e = goes n kind low is number in let f = run_end-le (is_hex rest) n (last_of 0 (take n rest)) (drop n rest) in omega arith

  pub number_len-within : number_len rest ≤ length rest
  number_len-within = let e = run_end-within (is_hex rest) 0 0 rest in omega arith

  -- a front of any length begins with no minus
  pub front_apart : (n : ℕ) → slice_index (take n rest) 0 ≢ 45
  front_apart zero same = cc
  front_apart (suc n) same = begins_apart rest begins (sym (front_index rest (suc n) 0 (omega arith)) ∙ same)

  -- the byte behind a front that is a number
  behind : (n : ℕ) (kind : TokenKind) → n < length rest → IsToken (take n rest) kind → is_number kind ≡ true
      → number_len rest ≡ (if goes_on (is_hex rest) (last_of 0 (take n rest)) (slice_index rest n) then run_end (is_hex rest) (n + 1) (slice_index rest n) (drop (n + 1) rest) else n)
  behind n kind low is number =
      goes n kind (omega arith) is number ∙ ap (λ (xs : List ℕ). run_end (is_hex rest) n (last_of 0 (take n rest)) xs) (drop_more rest n 0 low)

  -- ---- where the text is a number, it is the longest token, and whole

  abbrev pub is_cut : ℕ → Bool
  is_cut n = passes (λ c. is_word_byte c || nat_eq c 46) (slice_get rest n)

  pub number_front : (kind : TokenKind) → number_of (take (number_len rest) rest) ≡ Some kind → IsFront rest kind (number_len rest)
  number_front kind found =
      let len = number_len rest in
      let it = number_is (take len rest) kind (front_apart len) found in
      record {
        within = number_len-within;
        is = it.is;
        longest = λ n other more low is. elim (number_or_one rest n other begins low is) [
          | inl number ↦ (let e = at_most n other low is number in absurd (omega arith))
          | inr one ↦ (let e = front_some rest len kind it.is in absurd (omega arith))
        ];
      }

  pub number_whole : (kind : TokenKind) → number_of (take (number_len rest) rest) ≡ Some kind → is_number kind && is_cut (number_len rest) ≡ false
  number_whole kind found =
      let len = number_len rest in
      let it = number_is (take len rest) kind (front_apart len) found in
      and_right (is_number kind) (is_cut len) (fails_there always_on rest len (λ within.
      stops (goes_on (is_hex rest) (last_of 0 (take len rest)) (slice_index rest len)) refl (behind len kind within it.is it.number)))
    where
      stops : (b : Bool) → goes_on (is_hex rest) (last_of 0 (take (number_len rest) rest)) (slice_index rest (number_len rest)) ≡ b
          → number_len rest ≡ (if b then run_end (is_hex rest) (number_len rest + 1) (slice_index rest (number_len rest)) (drop (number_len rest + 1) rest) else number_len rest)
          → always_on (slice_index rest (number_len rest)) ≡ false
      stops true s e =
          let f = run_end-le (is_hex rest) (number_len rest + 1) (slice_index rest (number_len rest)) (drop (number_len rest + 1) rest) in
          absurd (omega arith)
      stops false s e = (or_parts (always_on (slice_index rest (number_len rest))) _ s).0

  -- ---- where it is none, the longest token is a number that is cut short

  -- No number is longer than this, up to the end of the text that is read.
  abbrev NoneAbove : ℕ → Type 0
  NoneAbove n = (m : ℕ) (kind : TokenKind) → n < m → m ≤ number_len rest → IsToken (take m rest) kind → is_number kind ≡ true → ⊥

  -- a number that is not read to its end is cut short
  cut_short : (kind : TokenKind) (len : ℕ) → IsFront rest kind len → is_number kind ≡ true → len < number_len rest → IsCutFront rest
  cut_short kind len front number below =
      let within : len < length rest = let e = number_len-within in omega arith in
      record {
        kind = kind;
        len = len;
        front = front;
        number = number;
        cut = passes_within always_on rest len within ∙ goes_on_there (goes_on (is_hex rest) (last_of 0 (take len rest)) (slice_index rest len)) refl (behind len kind within front.is number);
      }
    where
      quiet : is_hex rest ≡ false → begins_exponent (last_of 0 (take len rest)) ≡ false
      quiet plain = (number_text (take len rest) kind front.is number).quiet (drop len rest) (ap is_hex (take-append-drop len rest) ∙ plain)

      sign_there : (not (is_hex rest) && begins_exponent (last_of 0 (take len rest)) && ((slice_index rest len == 43) || (slice_index rest len == 45))) ≡ true → ⊥
      sign_there e =
          let parts = and_parts (not (is_hex rest) && begins_exponent (last_of 0 (take len rest))) ((slice_index rest len == 43) || (slice_index rest len == 45)) e in
          let both = and_parts (not (is_hex rest)) (begins_exponent (last_of 0 (take len rest))) parts.0 in
          both_ways _ (quiet (not-true (is_hex rest) both.0)) both.1

      goes_on_there : (b : Bool) → goes_on (is_hex rest) (last_of 0 (take len rest)) (slice_index rest len) ≡ b
          → number_len rest ≡ (if b then run_end (is_hex rest) (len + 1) (slice_index rest len) (drop (len + 1) rest) else len)
          → always_on (slice_index rest len) ≡ true
      goes_on_there true s e = elim (or_cases (always_on (slice_index rest len)) _ s) [ inl on ↦ on | inr sign ↦ absurd (sign_there sign) ]
      goes_on_there false s e = absurd (omega arith)

  longest_from : (n : ℕ) → n ≤ number_len rest → NoneAbove n → number_of (take (number_len rest) rest) ≡ None → IsCutFront rest
  longest_from zero low none not_read =
      let s = shortest rest begins in
      absurd (none s.len s.kind s.some (at_most s.len s.kind s.low s.is s.number) s.is s.number)
  longest_from (suc n) low none not_read = go (number_of (take (suc n) rest)) refl (longest_from n (omega arith))
    where
      longest : (kind : TokenKind) → IsNumber (take (suc n) rest) kind → (m : ℕ) (other : TokenKind) → suc n < m → m ≤ length rest → IsToken (take m rest) other → ⊥
      longest kind it m other more within is = elim (number_or_one rest m other begins within is) [
        | inl number ↦ none m other more (at_most m other within is number) is number
        | inr one ↦ absurd (omega arith)
      ]

      none_here : number_of (take (suc n) rest) ≡ None → NoneAbove n
      none_here s m kind more within is number = elim (cases_lt (suc n) m) [
        | inl above ↦ none m kind above within is number
        | inr at ↦ (
            let e : m ≡ suc n = omega arith in
            let found = number_again (take m rest) kind is number in
            let none' = subst (λ k. number_of (take k rest) ≡ None) (sym e) s in
            cc
            )
      ]

      below : (kind : TokenKind) → number_of (take (suc n) rest) ≡ Some kind → suc n < number_len rest
      below kind s = elim (cases_lt (suc n) (number_len rest)) [
        | inl lower ↦ lower
        | inr same ↦ (let e : number_len rest ≡ suc n = omega arith in let f = subst (λ k. number_of (take k rest) ≡ None) e not_read in cc)
      ]

      go : (found : Option TokenKind) → number_of (take (suc n) rest) ≡ found → (NoneAbove n → number_of (take (number_len rest) rest) ≡ None → IsCutFront rest) → IsCutFront rest
      go None s shorter = shorter (none_here s) not_read
      go (Some kind) s shorter =
          let it = number_is (take (suc n) rest) kind (front_apart (suc n)) s in
          cut_short kind (suc n) (record { within = let e = number_len-within in omega arith; is = it.is; longest = longest kind it }) it.number (below kind s)

  pub number_cut : number_of (take (number_len rest) rest) ≡ None → IsCutFront rest
  number_cut not_read = longest_from (number_len rest) (omega arith) (λ m kind more within is number. absurd (omega arith)) not_read
