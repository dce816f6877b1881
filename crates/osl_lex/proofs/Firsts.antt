-- Which kinds of tokens begin with a byte.
use Rattle.std.proofs.Common.{◌≡◌, ◌⊎◌, ℕ, ◌<◌, true, false, List, [], ◌∷◌, length, nat_eq, slice_index, refl, sym, ap, subst, ◌∙◌, inl, inr, arith, append-nil}
use Rattle.std.specs.Char.{is_ascii_digit}
use Rattle.std.proofs.lemmas.Bool.{both_ways}
use Rattle.std.proofs.lemmas.Bool.Decides.{nat_tests}
use Rattle.osl_tree.specs.declared.token.Punct.{Punct}
use Rattle.osl_tree.specs.declared.token.Punct.TheVariants as p
use Rattle.osl_tree.specs.declared.token.TokenKind.{TokenKind}
use Rattle.osl_tree.specs.declared.token.TokenKind.TheVariants as kinds
use Rattle.osl_tree.specs.Lexical.{is_blank, begins_word, is_number, IsWord, IsString, IsToken, spelling, word, quoted, int, float, string, mark}
use Rattle.osl_lex.specs.Scan.{begins_number}
use Rattle.osl_lex.proofs.Numbers.{begins_as_number, number_text}

word_first : (text : List ℕ) → IsWord text → begins_word (slice_index text 0) ≡ true
word_first _ (word c cs begins each) = begins

string_first : (text : List ℕ) → IsString text → slice_index text 0 ≡ 34
string_first _ (quoted inside is) = refl

pub number_first : (text : List ℕ) (kind : TokenKind) → IsToken text kind → is_number kind ≡ true → begins_as_number text ≡ true
number_first text kind is number = subst (λ (xs : List ℕ). begins_as_number xs ≡ true) (append-nil text) ((number_text text kind is number).begins [])

-- ---- with which bytes no mark begins

mark_no_word : (sign : Punct) → begins_word (slice_index (spelling sign) 0) ≡ false
mark_no_word p.OpenParen = refl
mark_no_word _ = refl

mark_no_digit : (sign : Punct) → is_ascii_digit (slice_index (spelling sign) 0) ≡ false
mark_no_digit p.OpenParen = refl
mark_no_digit _ = refl

mark_no_quote : (sign : Punct) → nat_eq (slice_index (spelling sign) 0) 34 ≡ false
mark_no_quote p.OpenParen = refl
mark_no_quote _ = refl

mark_no_blank : (sign : Punct) → is_blank (slice_index (spelling sign) 0) ≡ false
mark_no_blank p.OpenParen = refl
mark_no_blank _ = refl

-- ---- what a token is, by its first byte

-- A token is a word, a number, a string or a mark.
pub data Sort (text : List ℕ) : TokenKind → Type 0 where
  a_word : IsWord text → begins_word (slice_index text 0) ≡ true → Sort text kinds.Word
  a_number : (kind : TokenKind) → is_number kind ≡ true → IsToken text kind → begins_as_number text ≡ true → Sort text kind
  a_string : IsString text → slice_index text 0 ≡ 34 → Sort text kinds.Str
  a_mark : (sign : Punct) → text ≡ spelling sign → Sort text (kinds.Punct sign)

pub sort : (text : List ℕ) (kind : TokenKind) → IsToken text kind → Sort text kind
sort _ _ (word text is) = a_word is (word_first text is)
sort _ _ (int text n is) = a_number (kinds.Int n) refl (int text n is) (number_first text (kinds.Int n) (int text n is) refl)
sort _ _ (float text units is) = a_number (kinds.Float units) refl (float text units is) (number_first text (kinds.Float units) (float text units is) refl)
sort _ _ (string text is) = a_string is (string_first text is)
sort _ _ (mark text sign is) = a_mark sign is

digit_no_word : (c : ℕ) → is_ascii_digit c ≡ true → begins_word c ≡ false
digit_no_word c digit = grind (arith, nat_tests)

word_no_number : (c d : ℕ) → begins_word c ≡ true → begins_number c d ≡ false
word_no_number c d begins = grind (arith, nat_tests)

word_no_quote : (c : ℕ) → begins_word c ≡ true → c ≡ 34 → ⊥
word_no_quote c begins e = let f : begins_word 34 ≡ true = ap begins_word (sym e) ∙ begins in cc

number_no_quote : (c d : ℕ) → begins_number c d ≡ true → c ≡ 34 → ⊥
number_no_quote c d begins e = let f : begins_number 34 d ≡ true = subst (λ x. begins_number x d ≡ true) e begins in cc

first_of : (text other : List ℕ) → text ≡ other → slice_index text 0 ≡ slice_index other 0
first_of text other e = ap (λ (xs : List ℕ). slice_index xs 0) e

-- Only a word begins as a word does.
pub only_word : (text : List ℕ) (kind : TokenKind) → IsToken text kind → begins_word (slice_index text 0) ≡ true → IsWord text × (kind ≡ kinds.Word)
only_word text kind is begins = go kind (sort text kind is)
  where
    go : (kind : TokenKind) → Sort text kind → IsWord text × (kind ≡ kinds.Word)
    go _ (a_word is first) = (is, refl)
    go _ (a_number kind number is first) = absurd (both_ways _ (word_no_number (slice_index text 0) (slice_index text 1) begins) first)
    go _ (a_string is first) = absurd (word_no_quote (slice_index text 0) begins first)
    go _ (a_mark sign e) = absurd (both_ways _ (mark_no_word sign) (ap begins_word (sym (first_of text (spelling sign) e)) ∙ begins))

-- Only a string begins with a quote.
pub only_string : (text : List ℕ) (kind : TokenKind) → IsToken text kind → slice_index text 0 ≡ 34 → IsString text × (kind ≡ kinds.Str)
only_string text kind is quote = go kind (sort text kind is)
  where
    go : (kind : TokenKind) → Sort text kind → IsString text × (kind ≡ kinds.Str)
    go _ (a_word is first) = absurd (word_no_quote (slice_index text 0) first quote)
    go _ (a_number kind number is first) = absurd (number_no_quote (slice_index text 0) (slice_index text 1) first quote)
    go _ (a_string is first) = (is, refl)
    go _ (a_mark sign e) = let f : slice_index (spelling sign) 0 ≡ 34 = sym (first_of text (spelling sign) e) ∙ quote in
        absurd (both_ways _ (mark_no_quote sign) (ap (λ c. nat_eq c 34) f))

-- Only a number begins with a digit.
pub only_number : (text : List ℕ) (kind : TokenKind) → IsToken text kind → is_ascii_digit (slice_index text 0) ≡ true → is_number kind ≡ true
only_number text kind is digit = go kind (sort text kind is)
  where
    go : (kind : TokenKind) → Sort text kind → is_number kind ≡ true
    go _ (a_word is first) = absurd (both_ways _ (digit_no_word (slice_index text 0) digit) first)
    go _ (a_number kind number is first) = number
    go _ (a_string is first) = let f : is_ascii_digit 34 ≡ true = ap is_ascii_digit (sym first) ∙ digit in cc
    go _ (a_mark sign e) = absurd (both_ways _ (mark_no_digit sign) (ap is_ascii_digit (sym (first_of text (spelling sign) e)) ∙ digit))

-- With a point begin numbers and the mark alone.
pub only_point : (text : List ℕ) (kind : TokenKind) → IsToken text kind → slice_index text 0 ≡ 46 → (is_number kind ≡ true) ⊎ (text ≡ 46 ∷ [])
only_point text kind is at_point = go kind (sort text kind is)
  where
    dot : (sign : Punct) → slice_index (spelling sign) 0 ≡ 46 → spelling sign ≡ 46 ∷ []
    dot p.Dot e = refl
    dot _ e = cc

    go : (kind : TokenKind) → Sort text kind → (is_number kind ≡ true) ⊎ (text ≡ 46 ∷ [])
    go _ (a_word is first) = let f : begins_word 46 ≡ true = ap begins_word (sym at_point) ∙ first in cc
    go _ (a_number kind number is first) = inl number
    go _ (a_string is first) = let f : ◌≡◌ {A = ℕ} 46 34 = sym at_point ∙ first in absurd (omega arith)
    go _ (a_mark sign e) = inr (e ∙ dot sign (sym (first_of text (spelling sign) e) ∙ at_point))

-- what begins neither as a word, a string nor a number is a mark
pub only_mark : (text : List ℕ) (kind : TokenKind) → IsToken text kind → begins_word (slice_index text 0) ≡ false → (slice_index text 0 ≡ 34 → ⊥) → begins_as_number text ≡ false
    → (sign : Punct) × (text ≡ spelling sign) × (kind ≡ kinds.Punct sign)
only_mark text kind is no_word no_quote no_number = go kind (sort text kind is)
  where
    go : (kind : TokenKind) → Sort text kind → (sign : Punct) × (text ≡ spelling sign) × (kind ≡ kinds.Punct sign)
    go _ (a_word is first) = absurd (both_ways _ no_word first)
    go _ (a_number kind number is first) = absurd (both_ways _ no_number first)
    go _ (a_string is first) = absurd (no_quote first)
    go _ (a_mark sign e) = (sign, e, refl)

-- No token begins with a blank.
pub not_blank : (text : List ℕ) (kind : TokenKind) → IsToken text kind → is_blank (slice_index text 0) ≡ false
not_blank text kind is = go kind (sort text kind is)
  where
    word_no_blank : (c : ℕ) → begins_word c ≡ true → is_blank c ≡ false
    word_no_blank c begins = grind (arith, nat_tests)

    number_no_blank : (c d : ℕ) → begins_number c d ≡ true → is_blank c ≡ false
    number_no_blank c d begins = grind (arith, nat_tests)

    go : (kind : TokenKind) → Sort text kind → is_blank (slice_index text 0) ≡ false
    go _ (a_word is first) = word_no_blank (slice_index text 0) first
    go _ (a_number kind number is first) = number_no_blank (slice_index text 0) (slice_index text 1) first
    go _ (a_string is first) = ap is_blank first
    go _ (a_mark sign e) = ap is_blank (first_of text (spelling sign) e) ∙ mark_no_blank sign

-- A token has a byte.
pub some_byte : (text : List ℕ) (kind : TokenKind) → IsToken text kind → 0 < length text
some_byte [] kind is = go kind (sort [] kind is)
  where
    no_empty : (sign : Punct) → spelling sign ≡ [] → ⊥
    no_empty p.OpenParen e = cc
    no_empty _ e = cc

    go : (kind : TokenKind) → Sort [] kind → 0 < 0
    go _ (a_word is first) = cc
    go _ (a_number kind number is first) = cc
    go _ (a_string is first) = cc
    go _ (a_mark sign e) = absurd (no_empty sign (sym e))
some_byte (c ∷ cs) kind is = omega arith

-- No token begins with `#`.
pub not_hash : (text : List ℕ) (kind : TokenKind) → IsToken text kind → nat_eq (slice_index text 0) 35 ≡ false
not_hash text kind is = go kind (sort text kind is)
  where
    word_no_hash : (c : ℕ) → begins_word c ≡ true → nat_eq c 35 ≡ false
    word_no_hash c begins = grind (arith, nat_tests)

    number_no_hash : (c d : ℕ) → begins_number c d ≡ true → nat_eq c 35 ≡ false
    number_no_hash c d begins = grind (arith, nat_tests)

    mark_no_hash : (sign : Punct) → nat_eq (slice_index (spelling sign) 0) 35 ≡ false
    mark_no_hash p.OpenParen = refl
    mark_no_hash _ = refl

    go : (kind : TokenKind) → Sort text kind → nat_eq (slice_index text 0) 35 ≡ false
    go _ (a_word is first) = word_no_hash (slice_index text 0) first
    go _ (a_number kind number is first) = number_no_hash (slice_index text 0) (slice_index text 1) first
    go _ (a_string is first) = ap (λ c. nat_eq c 35) first
    go _ (a_mark sign e) = ap (λ c. nat_eq c 35) (first_of text (spelling sign) e) ∙ mark_no_hash sign
