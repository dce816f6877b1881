-- The texts of tokens.
use Rattle.std.proofs.Common.{◌≡◌, true, ℕ, ◌<◌, List, [], ◌∷◌, length, length-append, sym, arith, subst}
use Rattle.std.specs.Prelude.{ℤ}
use Rattle.osl_tree.specs.declared.token.Punct.{Punct}
use Rattle.osl_tree.specs.declared.token.Punct.TheVariants as p
use Rattle.osl_tree.specs.declared.token.TokenKind.{TokenKind}
use Rattle.osl_tree.specs.Numbers as n
use Rattle.osl_tree.specs.Numbers.{IsInt, IsFraction, IsFloat}
use Rattle.osl_decimal.specs.Decimal.{is_numeral}
use Rattle.osl_tree.specs.Lexical as g
use Rattle.osl_tree.specs.Lexical.{IsWord, IsString, spelling, IsToken}

numeral_some : (digits : List ℕ) → is_numeral digits ≡ true → 0 < length digits
numeral_some [] is = cc
numeral_some (c ∷ cs) is = omega arith

int_some : {text : List ℕ} {i : ℤ} → IsInt text i → 0 < length text
int_some (n.decimal digits is le) = numeral_some digits is
int_some (n.hexadecimal x digits e is less) = omega arith

fraction_some : (text : List ℕ) → IsFraction text → 0 < length text
fraction_some [] d = let marked = d.marked in cc
fraction_some (c ∷ cs) d = omega arith

float_some : {text : List ℕ} {units : ℤ} → IsFloat text units → 0 < length text
float_some (n.plain text d) = fraction_some text d
float_some (n.suffixed text f d e) = omega (arith, length-append text (f ∷ []))

word_some : {text : List ℕ} → IsWord text → 0 < length text
word_some (g.word c cs b all) = omega arith

string_some : {text : List ℕ} → IsString text → 0 < length text
string_some (g.quoted inside d) = omega arith

mark_some : (sign : Punct) → 0 < length (spelling sign)
mark_some p.OpenParen = omega arith
mark_some _ = omega arith

-- A token has a byte.
pub token_some : {text : List ℕ} {kind : TokenKind} → IsToken text kind → 0 < length text
token_some (g.word text d) = word_some d
token_some (g.int text i d) = int_some d
token_some (g.float text units d) = float_some d
token_some (g.string text d) = string_some d
token_some (g.mark text sign same) = subst (λ t. 0 < length t) (sym same) (mark_some sign)
