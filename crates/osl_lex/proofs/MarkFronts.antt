-- Marks at the front of a list.
use Rattle.std.proofs.Common.{◌≡◌, ◌≢◌, ℕ, zero, suc, ◌-◌, ◌<◌, ◌≤◌, Bool, true, false, ◌&&◌, List, [], ◌∷◌, length, take, nat_eq, ◌==◌, slice_index, Option, Some, None, if◌then◌else◌, refl, sym, ap, subst, ◌∙◌, arith, length-take}
use Rattle.std.specs.Option.{option_or}
use Rattle.std.specs.Char.{is_ascii_digit}
use Rattle.std.proofs.lemmas.Bool.{eqb-true, eq-eqb, and_parts, or_parts, or_from, and_right, both_ways}
use Rattle.std.proofs.lemmas.Option.{some_pair_parts}
use Rattle.osl_tree.specs.declared.token.Punct.{Punct}
use Rattle.osl_tree.specs.declared.token.Punct.TheVariants as p
use Rattle.osl_tree.specs.declared.token.TokenKind.{TokenKind}
use Rattle.osl_tree.specs.declared.token.TokenKind.TheVariants as kinds
use Rattle.osl_tree.specs.Lexical.{begins_word, IsToken, spelling, mark}
use Rattle.osl_decimal.specs.Decimal.{is_point}
use Rattle.osl_lex.specs.Scan.{begins_number}
use Rattle.osl_lex.specs.Signs.{one_byte_mark, mark_with_equals, doubled_mark, two_byte_mark, three_byte_mark, with_len, longest_mark}
use Rattle.osl_lex.proofs.Firsts.{only_mark}
use Rattle.osl_lex.proofs.Numbers.{begins_as_number}
use Rattle.osl_lex.proofs.Fronts.{IsFront, HasNoFront, front_index, front_first}

-- ---- the mark of some bytes is spelled so

-- one test of a list of them: the mark of n is m
tried : (text : ℕ → List ℕ) (c n : ℕ) (m : Punct) (others : Option Punct) (x : Punct) → spelling m ≡ text n → (others ≡ Some x → spelling x ≡ text c)
    → (if c == n then Some m else others) ≡ Some x → spelling x ≡ text c
tried text c n m others x spelt later e = go (c == n) refl e
  where
    go : (b : Bool) → (c == n) ≡ b → (if b then Some m else others) ≡ Some x → spelling x ≡ text c
    go true s e = let same : m ≡ x = cc in ap spelling (sym same) ∙ spelt ∙ ap text (sym (eqb-true c n s))
    go false s e = later e

abbrev alone : ℕ → List ℕ
alone c = c ∷ []

abbrev and_equals : ℕ → List ℕ
and_equals c = c ∷ 61 ∷ []

abbrev twice : ℕ → List ℕ
twice c = c ∷ c ∷ []

abbrev twice_and_equals : ℕ → List ℕ
twice_and_equals c = c ∷ c ∷ 61 ∷ []

one_byte_spelt : (c : ℕ) (x : Punct) → one_byte_mark c ≡ Some x → spelling x ≡ c ∷ []
one_byte_spelt c x =
    tried alone c 40 p.OpenParen _ x refl (
    tried alone c 41 p.CloseParen _ x refl (
    tried alone c 123 p.OpenBrace _ x refl (
    tried alone c 125 p.CloseBrace _ x refl (
    tried alone c 91 p.OpenBracket _ x refl (
    tried alone c 93 p.CloseBracket _ x refl (
    tried alone c 44 p.Comma _ x refl (
    tried alone c 59 p.Semicolon _ x refl (
    tried alone c 46 p.Dot _ x refl (
    tried alone c 63 p.Question _ x refl (
    tried alone c 58 p.Colon _ x refl (
    tried alone c 61 p.Assign _ x refl (
    tried alone c 60 p.Less _ x refl (
    tried alone c 62 p.Greater _ x refl (
    tried alone c 43 p.Plus _ x refl (
    tried alone c 45 p.Minus _ x refl (
    tried alone c 42 p.Star _ x refl (
    tried alone c 47 p.Slash _ x refl (
    tried alone c 37 p.Percent _ x refl (
    tried alone c 38 p.And _ x refl (
    tried alone c 124 p.Or _ x refl (
    tried alone c 94 p.Xor _ x refl (
    tried alone c 126 p.Tilde _ x refl (
    tried alone c 33 p.Bang _ x refl (λ e. cc))))))))))))))))))))))))

with_equals_spelt : (c : ℕ) (x : Punct) → mark_with_equals c ≡ Some x → spelling x ≡ c ∷ 61 ∷ []
with_equals_spelt c x =
    tried and_equals c 61 p.Equal _ x refl (
    tried and_equals c 33 p.NotEqual _ x refl (
    tried and_equals c 60 p.LessEqual _ x refl (
    tried and_equals c 62 p.GreaterEqual _ x refl (
    tried and_equals c 43 p.PlusAssign _ x refl (
    tried and_equals c 45 p.MinusAssign _ x refl (
    tried and_equals c 42 p.StarAssign _ x refl (
    tried and_equals c 47 p.SlashAssign _ x refl (
    tried and_equals c 38 p.AndAssign _ x refl (
    tried and_equals c 124 p.OrAssign _ x refl (
    tried and_equals c 94 p.XorAssign _ x refl (λ e. cc)))))))))))

doubled_spelt : (c : ℕ) (x : Punct) → doubled_mark c ≡ Some x → spelling x ≡ c ∷ c ∷ []
doubled_spelt c x =
    tried twice c 91 p.OpenMeta _ x refl (
    tried twice c 60 p.ShiftLeft _ x refl (
    tried twice c 62 p.ShiftRight _ x refl (
    tried twice c 43 p.Increment _ x refl (
    tried twice c 45 p.Decrement _ x refl (
    tried twice c 38 p.AndAnd _ x refl (
    tried twice c 124 p.OrOr _ x refl (λ e. cc)))))))

two_byte_spelt : (c d : ℕ) (x : Punct) → two_byte_mark c d ≡ Some x → spelling x ≡ c ∷ d ∷ []
two_byte_spelt c d x e = go (d == 61) refl (c == d) refl e
  where
    go : (b : Bool) → (d == 61) ≡ b → (s : Bool) → (c == d) ≡ s → (if b then mark_with_equals c else (if s then doubled_mark c else None)) ≡ Some x → spelling x ≡ c ∷ d ∷ []
    go true is s t e = with_equals_spelt c x e ∙ ap (λ (n : ℕ). c ∷ n ∷ []) (sym (eqb-true d 61 is))
    go false is true t e = doubled_spelt c x e ∙ ap (λ (n : ℕ). c ∷ n ∷ []) (eqb-true c d t)
    go false is false t e = cc

three_byte_spelt : (c d f : ℕ) (x : Punct) → three_byte_mark c d f ≡ Some x → spelling x ≡ c ∷ d ∷ f ∷ []
three_byte_spelt c d f x e = go ((c == d) && (f == 61)) refl e
  where
    first : (if c == 60 then Some p.ShiftLeftAssign else (if c == 62 then Some p.ShiftRightAssign else None)) ≡ Some x → spelling x ≡ c ∷ c ∷ 61 ∷ []
    first = tried twice_and_equals c 60 p.ShiftLeftAssign _ x refl (tried twice_and_equals c 62 p.ShiftRightAssign _ x refl (λ e. cc))

    go : (b : Bool) → ((c == d) && (f == 61)) ≡ b → (if b then (if c == 60 then Some p.ShiftLeftAssign else (if c == 62 then Some p.ShiftRightAssign else None)) else None) ≡ Some x
        → spelling x ≡ c ∷ d ∷ f ∷ []
    go true s e =
        let parts = and_parts (c == d) (f == 61) s in
        first e ∙ ap (λ (n : ℕ). c ∷ n ∷ 61 ∷ []) (eqb-true c d parts.0) ∙ ap (λ (n : ℕ). c ∷ d ∷ n ∷ []) (sym (eqb-true f 61 parts.1))
    go false s e = cc

-- ---- each mark is found by its bytes

pub data Found (sign : Punct) : Type 0 where
  of_one : (c : ℕ) → spelling sign ≡ c ∷ [] → one_byte_mark c ≡ Some sign → Found sign
  of_two : (c d : ℕ) → spelling sign ≡ c ∷ d ∷ [] → two_byte_mark c d ≡ Some sign → Found sign
  of_three : (c d f : ℕ) → spelling sign ≡ c ∷ d ∷ f ∷ [] → three_byte_mark c d f ≡ Some sign → Found sign

pub found : (sign : Punct) → Found sign
found p.OpenParen = of_one 40 refl refl
found p.CloseParen = of_one 41 refl refl
found p.OpenBrace = of_one 123 refl refl
found p.CloseBrace = of_one 125 refl refl
found p.OpenBracket = of_one 91 refl refl
found p.CloseBracket = of_one 93 refl refl
found p.Comma = of_one 44 refl refl
found p.Semicolon = of_one 59 refl refl
found p.Dot = of_one 46 refl refl
found p.Question = of_one 63 refl refl
found p.Colon = of_one 58 refl refl
found p.Assign = of_one 61 refl refl
found p.Less = of_one 60 refl refl
found p.Greater = of_one 62 refl refl
found p.Plus = of_one 43 refl refl
found p.Minus = of_one 45 refl refl
found p.Star = of_one 42 refl refl
found p.Slash = of_one 47 refl refl
found p.Percent = of_one 37 refl refl
found p.And = of_one 38 refl refl
found p.Or = of_one 124 refl refl
found p.Xor = of_one 94 refl refl
found p.Tilde = of_one 126 refl refl
found p.Bang = of_one 33 refl refl
found p.Equal = of_two 61 61 refl refl
found p.NotEqual = of_two 33 61 refl refl
found p.LessEqual = of_two 60 61 refl refl
found p.GreaterEqual = of_two 62 61 refl refl
found p.PlusAssign = of_two 43 61 refl refl
found p.MinusAssign = of_two 45 61 refl refl
found p.StarAssign = of_two 42 61 refl refl
found p.SlashAssign = of_two 47 61 refl refl
found p.AndAssign = of_two 38 61 refl refl
found p.OrAssign = of_two 124 61 refl refl
found p.XorAssign = of_two 94 61 refl refl
found p.OpenMeta = of_two 91 91 refl refl
found p.ShiftLeft = of_two 60 60 refl refl
found p.ShiftRight = of_two 62 62 refl refl
found p.Increment = of_two 43 43 refl refl
found p.Decrement = of_two 45 45 refl refl
found p.AndAnd = of_two 38 38 refl refl
found p.OrOr = of_two 124 124 refl refl
found p.ShiftLeftAssign = of_three 60 60 61 refl refl
found p.ShiftRightAssign = of_three 62 62 61 refl refl

-- ---- the bytes at the front

-- No byte of a mark is 0, so that its bytes, read at the front, stand there.
mark_last : (sign : Punct) → nat_eq (slice_index (spelling sign) (length (spelling sign) - 1)) 0 ≡ false
mark_last p.OpenParen = refl
mark_last _ = refl

last_there : (sign : Punct) (text : List ℕ) → spelling sign ≡ text → slice_index text (length text - 1) ≢ 0
last_there sign text e zero' =
    both_ways _ (ap (λ (xs : List ℕ). nat_eq (slice_index xs (length xs - 1)) 0) (sym e) ∙ mark_last sign) (eq-eqb (slice_index text (length text - 1)) 0 zero')

take_one : (rest : List ℕ) → slice_index rest 0 ≢ 0 → take 1 rest ≡ slice_index rest 0 ∷ []
take_one [] there = absurd (there refl)
take_one (c ∷ cs) there = refl

take_two : (rest : List ℕ) → slice_index rest 1 ≢ 0 → take 2 rest ≡ slice_index rest 0 ∷ slice_index rest 1 ∷ []
take_two [] there = absurd (there refl)
take_two (c ∷ []) there = absurd (there refl)
take_two (c ∷ d ∷ cs) there = refl

take_three : (rest : List ℕ) → slice_index rest 2 ≢ 0 → take 3 rest ≡ slice_index rest 0 ∷ slice_index rest 1 ∷ slice_index rest 2 ∷ []
take_three [] there = absurd (there refl)
take_three (c ∷ []) there = absurd (there refl)
take_three (c ∷ d ∷ []) there = absurd (there refl)
take_three (c ∷ d ∷ f ∷ cs) there = refl

-- A mark of these bytes stands at the front, and no longer token does.
stands_front : (rest : List ℕ) (sign : Punct) (text : List ℕ) (len : ℕ) → spelling sign ≡ text → take len rest ≡ text → length text ≡ len
    → ((n : ℕ) (other : TokenKind) → len < n → n ≤ length rest → IsToken (take n rest) other → ⊥) → IsFront rest (kinds.Punct sign) len
stands_front rest sign text len spelt there long longest = record {
  within = let e = length-take len rest in let f = ap length there in omega arith;
  is = mark (take len rest) sign (there ∙ sym spelt);
  longest = longest;
}

-- the mark that was found
found_front : (rest : List ℕ) (x sign : Punct) (n len : ℕ) → ◌≡◌ {A = Option (Punct × ℕ)} (Some (x, n)) (Some (sign, len)) → IsFront rest (kinds.Punct x) n → IsFront rest (kinds.Punct sign) len
found_front rest x sign n len e front =
    let both = some_pair_parts x sign n len e in
    subst (λ y. IsFront rest (kinds.Punct y) len) both.0 (subst (IsFront rest (kinds.Punct x)) both.1 front)

-- what a front of some length is, where only marks begin
data AtFront (rest : List ℕ) (n : ℕ) : Type 0 where
  at_one : (sign : Punct) → n ≡ 1 → one_byte_mark (slice_index rest 0) ≡ Some sign → AtFront rest n
  at_two : (sign : Punct) → n ≡ 2 → two_byte_mark (slice_index rest 0) (slice_index rest 1) ≡ Some sign → AtFront rest n
  at_three : (sign : Punct) → n ≡ 3 → three_byte_mark (slice_index rest 0) (slice_index rest 1) (slice_index rest 2) ≡ Some sign → AtFront rest n

module _ (rest : List ℕ) (no_word : begins_word (slice_index rest 0) ≡ false) (no_quote : slice_index rest 0 ≡ 34 → ⊥) (no_number : begins_as_number rest ≡ false) where
  front_no_number : (n : ℕ) → begins_as_number (take n rest) ≡ false
  front_no_number zero = refl
  front_no_number (suc zero) =
      let parts = or_parts (is_ascii_digit (slice_index rest 0)) (is_point (slice_index rest 0) && is_ascii_digit (slice_index rest 1)) no_number in
      or_from (is_ascii_digit (slice_index (take 1 rest) 0)) _ (ap is_ascii_digit (front_index rest 1 0 (omega arith)) ∙ parts.0)
      (and_right (is_point (slice_index (take 1 rest) 0)) (is_ascii_digit (slice_index (take 1 rest) 1)) (ap is_ascii_digit (past rest)))
    where
      past : (rest : List ℕ) → slice_index (take 1 rest) 1 ≡ 0
      past [] = refl
      past (c ∷ cs) = refl
  front_no_number (suc (suc n)) =
      ap (λ c. begins_number c (slice_index (take (suc (suc n)) rest) 1)) (front_index rest (suc (suc n)) 0 (omega arith))
      ∙ ap (begins_number (slice_index rest 0)) (front_index rest (suc (suc n)) 1 (omega arith)) ∙ no_number

  at_front : (n : ℕ) (kind : TokenKind) → n ≤ length rest → IsToken (take n rest) kind → AtFront rest n
  at_front n kind low is = by_sign (only_mark (take n rest) kind is (ap begins_word first ∙ no_word) (λ quote. no_quote (sym first ∙ quote)) (front_no_number n))
    where
      first : slice_index (take n rest) 0 ≡ slice_index rest 0
      first = front_first rest n kind is

      by_bytes : (sign : Punct) → take n rest ≡ spelling sign → Found sign → AtFront rest n
      by_bytes sign e (of_one c spelt is_it) =
          let there = e ∙ spelt in
          let long = ap length there in
          let long' = length-take n rest in
          let one : n ≡ 1 = omega arith in
          let same : slice_index rest 0 ≡ c = sym first ∙ ap (λ (xs : List ℕ). slice_index xs 0) there in
          at_one sign one (ap one_byte_mark same ∙ is_it)
      by_bytes sign e (of_two c d spelt is_it) =
          let there = e ∙ spelt in
          let long = ap length there in
          let long' = length-take n rest in
          let two : n ≡ 2 = omega arith in
          let same : slice_index rest 0 ≡ c = sym first ∙ ap (λ (xs : List ℕ). slice_index xs 0) there in
          let same' : slice_index rest 1 ≡ d = sym (front_index rest n 1 (omega arith)) ∙ ap (λ (xs : List ℕ). slice_index xs 1) there in
          at_two sign two (ap (λ x. two_byte_mark x (slice_index rest 1)) same ∙ ap (two_byte_mark c) same' ∙ is_it)
      by_bytes sign e (of_three c d f spelt is_it) =
          let there = e ∙ spelt in
          let long = ap length there in
          let long' = length-take n rest in
          let three : n ≡ 3 = omega arith in
          let same : slice_index rest 0 ≡ c = sym first ∙ ap (λ (xs : List ℕ). slice_index xs 0) there in
          let same' : slice_index rest 1 ≡ d = sym (front_index rest n 1 (omega arith)) ∙ ap (λ (xs : List ℕ). slice_index xs 1) there in
          let same'' : slice_index rest 2 ≡ f = sym (front_index rest n 2 (omega arith)) ∙ ap (λ (xs : List ℕ). slice_index xs 2) there in
          at_three sign three (ap (λ x. three_byte_mark x (slice_index rest 1) (slice_index rest 2)) same
          ∙ ap (λ x. three_byte_mark c x (slice_index rest 2)) same' ∙ ap (three_byte_mark c d) same'' ∙ is_it)

      by_sign : (sign : Punct) × (take n rest ≡ spelling sign) × (kind ≡ kinds.Punct sign) → AtFront rest n
      by_sign s = by_bytes s.0 s.1 (found s.0)

  abbrev c : ℕ
  c = slice_index rest 0

  abbrev d : ℕ
  d = slice_index rest 1

  abbrev f : ℕ
  f = slice_index rest 2

  none_longer_three : (n : ℕ) (other : TokenKind) → 3 < n → n ≤ length rest → IsToken (take n rest) other → ⊥
  none_longer_three n other more low is = go (at_front n other low is)
    where
      go : AtFront rest n → ⊥
      go (at_one sign e s) = absurd (omega arith)
      go (at_two sign e s) = absurd (omega arith)
      go (at_three sign e s) = absurd (omega arith)

  none_longer_two : three_byte_mark c d f ≡ None → (n : ℕ) (other : TokenKind) → 2 < n → n ≤ length rest → IsToken (take n rest) other → ⊥
  none_longer_two no_three n other more low is = go (at_front n other low is)
    where
      go : AtFront rest n → ⊥
      go (at_one sign e s) = absurd (omega arith)
      go (at_two sign e s) = absurd (omega arith)
      go (at_three sign e s) = let x = sym s ∙ no_three in cc

  none_longer_one : three_byte_mark c d f ≡ None → two_byte_mark c d ≡ None → (n : ℕ) (other : TokenKind) → 1 < n → n ≤ length rest → IsToken (take n rest) other → ⊥
  none_longer_one no_three no_two n other more low is = go (at_front n other low is)
    where
      go : AtFront rest n → ⊥
      go (at_one sign e s) = absurd (omega arith)
      go (at_two sign e s) = let x = sym s ∙ no_two in cc
      go (at_three sign e s) = let x = sym s ∙ no_three in cc

  pub mark_front : (sign : Punct) (len : ℕ) → longest_mark rest ≡ Some (sign, len) → IsFront rest (kinds.Punct sign) len
  mark_front sign len e = go (three_byte_mark c d f) refl (two_byte_mark c d) refl (one_byte_mark c) refl e
    where
      go : (o₃ : Option Punct) → three_byte_mark c d f ≡ o₃ → (o₂ : Option Punct) → two_byte_mark c d ≡ o₂ → (o₁ : Option Punct) → one_byte_mark c ≡ o₁
          → option_or (with_len 3 o₃) (option_or (with_len 2 o₂) (with_len 1 o₁)) ≡ Some (sign, len) → IsFront rest (kinds.Punct sign) len
      go (Some x) s₃ o₂ s₂ o₁ s₁ e =
          let spelt = three_byte_spelt c d f x s₃ in
          let there = take_three rest (last_there x (c ∷ d ∷ f ∷ []) spelt) in
          found_front rest x sign 3 len e (stands_front rest x (c ∷ d ∷ f ∷ []) 3 spelt there refl none_longer_three)
      go None s₃ (Some x) s₂ o₁ s₁ e =
          let spelt = two_byte_spelt c d x s₂ in
          let there = take_two rest (last_there x (c ∷ d ∷ []) spelt) in
          found_front rest x sign 2 len e (stands_front rest x (c ∷ d ∷ []) 2 spelt there refl (none_longer_two s₃))
      go None s₃ None s₂ (Some x) s₁ e =
          let spelt = one_byte_spelt c x s₁ in
          let there = take_one rest (last_there x (c ∷ []) spelt) in
          found_front rest x sign 1 len e (stands_front rest x (c ∷ []) 1 spelt there refl (none_longer_one s₃ s₂))
      go None s₃ None s₂ None s₁ e = cc

  pub no_mark : longest_mark rest ≡ None → HasNoFront rest
  no_mark e n kind low is = go (three_byte_mark c d f) refl (two_byte_mark c d) refl (one_byte_mark c) refl e
    where
      by : three_byte_mark c d f ≡ None → two_byte_mark c d ≡ None → one_byte_mark c ≡ None → AtFront rest n → ⊥
      by s₃ s₂ s₁ (at_one sign e s) = let x = sym s ∙ s₁ in cc
      by s₃ s₂ s₁ (at_two sign e s) = let x = sym s ∙ s₂ in cc
      by s₃ s₂ s₁ (at_three sign e s) = let x = sym s ∙ s₃ in cc

      go : (o₃ : Option Punct) → three_byte_mark c d f ≡ o₃ → (o₂ : Option Punct) → two_byte_mark c d ≡ o₂ → (o₁ : Option Punct) → one_byte_mark c ≡ o₁
          → option_or (with_len 3 o₃) (option_or (with_len 2 o₂) (with_len 1 o₁)) ≡ None → ⊥
      go (Some x) s₃ o₂ s₂ o₁ s₁ e = cc
      go None s₃ (Some x) s₂ o₁ s₁ e = cc
      go None s₃ None s₂ (Some x) s₁ e = cc
      go None s₃ None s₂ None s₁ e = by s₃ s₂ s₁ (at_front n kind low is)
