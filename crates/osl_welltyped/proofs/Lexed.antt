-- What the tokens of a source are: names are words, and numbers are in range.
use Rattle.std.proofs.Common.{◌≡◌, ℕ, ◌<◌, ◌≤◌, ◌^◌, Bool, true, List, [], ◌∷◌, Option, Some, None, ap, arith, rules}
use Rattle.std.specs.Prelude.{FitsSigned, ℤ, pos, negsuc}
use Rattle.std.specs.Int.{w32, cast_signed}
use Rattle.std.specs.Str.Parse.{digits_value}
use Rattle.std.proofs.lemmas.Bool.{lt-ltb, le-leb}
use Rattle.osl_tree.specs.Lexeme.{Lexeme}
use Rattle.osl_tree.specs.Lexeme as l
use Rattle.osl_tree.specs.Lexemes.{lexeme_of, lexemes, named, reserved}
use Rattle.osl_tree.specs.Lexical.{IsWord, IsToken, IsTokenAt, Runs, Tokens}
use Rattle.osl_tree.specs.Lexical as x
use Rattle.osl_tree.specs.Numbers.{IsInt, IsFloat}
use Rattle.osl_tree.specs.Numbers as n
use Rattle.osl_tree.specs.declared.terminal.Keyword.{Keyword}
use Rattle.osl_tree.specs.declared.token.Token.{Token}
use Rattle.osl_tree.specs.declared.token.TokenKind.{TokenKind}
use Rattle.osl_welltyped.specs.Measures.{by_height, by_text, by_fault, fits_int, fits_float, fault_unless}
use Rattle.osl_welltyped.proofs.GrammarFiles.{AllOf}
use Rattle.osl_welltyped.proofs.GrammarLow.{LiteralsLow, IsHeightBound}
use Rattle.osl_welltyped.proofs.Measured.{IsMeasure}

abbrev pub IsLexed : Lexeme → Type 0
IsLexed (l.name bytes) = IsWord bytes
IsLexed (l.int n) = fits_int n ≡ true
IsLexed (l.float units) = fits_float units ≡ true
IsLexed (l.text bytes) = Unit {0}
IsLexed (l.terminal terminal) = Unit {0}

word_lexed : (text : List ℕ) (o : Option Keyword) → IsWord text → IsLexed (named text o)
word_lexed text None w = w
word_lexed text (Some k) w = tt

signed_fits : (z : ℤ) → FitsSigned w32 z → fits_int z ≡ true
signed_fits (pos k) h = lt-ltb k (2 ^ 31) (omega arith)
signed_fits (negsuc k) h = lt-ltb k (2 ^ 31) (omega arith)

hex_fits : (v : ℕ) → v < 2 ^ 32 → fits_int (cast_signed w32 v) ≡ true
hex_fits v h = signed_fits (cast_signed w32 v) (search rules)

int_fits : (text : List ℕ) (v : ℤ) → IsInt text v → fits_int v ≡ true
int_fits text v (n.decimal digits is low) = lt-ltb (digits_value 10 digits) (2 ^ 31) (omega arith)
int_fits text v (n.hexadecimal c digits mark is low) = hex_fits (digits_value 16 digits) low

float_fits : (text : List ℕ) (v : ℤ) → IsFloat text v → fits_float v ≡ true
float_fits text v (n.plain t is) = le-leb _ _ is.in_range
float_fits text v (n.suffixed t mark is end) = le-leb _ _ is.in_range

token_lexed : (text : List ℕ) (kind : TokenKind) → IsToken text kind → IsLexed (lexeme_of text kind)
token_lexed text kind (x.word t w) = word_lexed t (reserved t) w
token_lexed text kind (x.int t v is) = int_fits t v is
token_lexed text kind (x.float t v is) = float_fits t v is
token_lexed text kind (x.string t is) = tt
token_lexed text kind (x.mark t sign is) = tt

runs_lexed : (bytes : List ℕ) (at to : ℕ) (ts : List Token) → Runs bytes at ts to → AllOf IsLexed (lexemes bytes ts)
runs_lexed bytes at to ts (x.here a) = tt
runs_lexed bytes at to ts (x.gap a on end us gap rest) = runs_lexed bytes on end us rest
runs_lexed bytes at to ts (x.token a end t us is rest) = (token_lexed _ t.kind is.longest.is, runs_lexed bytes t.end end us rest)

pub tokens_lexed : (bytes : List ℕ) (ts : List Token) → Tokens bytes ts → AllOf IsLexed (lexemes bytes ts)
tokens_lexed bytes ts h = runs_lexed bytes 0 _ ts h

-- ---- the measures

pub height_is : IsMeasure by_height
height_is = record { more = λ a b le. omega arith; grows = λ a. omega arith; leaf_low = λ a. omega arith; longest_low = λ a. omega arith }

pub text_is : IsMeasure by_text
text_is = record { more = λ a b le. le; grows = λ a. omega arith; leaf_low = λ a. omega arith; longest_low = λ a. omega arith }

pub fault_is : IsMeasure by_fault
fault_is = record { more = λ a b le. le; grows = λ a. omega arith; leaf_low = λ a. omega arith; longest_low = λ a. omega arith }

pub height_bound : IsHeightBound by_height (λ h. h)
height_bound = record { leaf = omega arith; more = λ a b le. le; node = λ h some. omega arith }

pub fault_bound : IsHeightBound by_fault (λ h. 0)
fault_bound = record { leaf = omega arith; more = λ a b le. omega arith; node = λ h some. omega arith }

pub heights_low : (xs : List Lexeme) → LiteralsLow by_height 1 xs
heights_low [] = tt
heights_low (l.name bytes ∷ xs) = (tt, heights_low xs)
heights_low (l.int v ∷ xs) = (omega arith, heights_low xs)
heights_low (l.float v ∷ xs) = (omega arith, heights_low xs)
heights_low (l.text bytes ∷ xs) = (omega arith, heights_low xs)
heights_low (l.terminal t ∷ xs) = (tt, heights_low xs)

no_fault : (b : Bool) → b ≡ true → fault_unless b ≤ 0
no_fault b h = let e : fault_unless b ≡ 0 = ap fault_unless h in omega arith

pub faults_low : (xs : List Lexeme) → AllOf IsLexed xs → LiteralsLow by_fault 0 xs
faults_low [] h = tt
faults_low (l.name bytes ∷ xs) h = (tt, faults_low xs (h.1))
faults_low (l.int v ∷ xs) h = (no_fault (fits_int v) (h.0), faults_low xs (h.1))
faults_low (l.float v ∷ xs) h = (no_fault (fits_float v) (h.0), faults_low xs (h.1))
faults_low (l.text bytes ∷ xs) h = (omega arith, faults_low xs (h.1))
faults_low (l.terminal t ∷ xs) h = (tt, faults_low xs (h.1))
