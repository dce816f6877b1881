-- Tokens with their texts.
use Rattle.std.specs.Prelude.{ℕ, zero, suc, ◌*◌, ◌+◌, ◌-◌, ◌%◌, nat_eq, nat_le, Bool, ◌&&◌, if◌then◌else◌, List, [], ◌∷◌, length, slice_range, map, find, Option, Some, None, codes, bytes_eq}
use Rattle.osl_tree.specs.declared.token.TokenKind.{TokenKind}
use Rattle.osl_tree.specs.declared.token.TokenKind.TheVariants as kinds
use Rattle.osl_tree.specs.declared.token.Token.{Token}
use Rattle.osl_tree.specs.declared.terminal.Keyword.{Keyword}
use Rattle.osl_tree.specs.declared.terminal.Keyword.TheVariants as w
use Rattle.osl_tree.specs.declared.terminal.Terminal.TheVariants as m
use Rattle.osl_tree.specs.Lexeme.{Lexeme}
use Rattle.osl_tree.specs.Lexeme as l

-- ---- words

abbrev pub word_of : Keyword → List ℕ
word_of w.Struct = codes "struct"
word_of w.Int = codes "int"
word_of w.Float = codes "float"
word_of w.Color = codes "color"
word_of w.Point = codes "point"
word_of w.Vector = codes "vector"
word_of w.Normal = codes "normal"
word_of w.Matrix = codes "matrix"
word_of w.Str = codes "string"
word_of w.Closure = codes "closure"
word_of w.Void = codes "void"
word_of w.Output = codes "output"
word_of w.Surface = codes "surface"
word_of w.Displacement = codes "displacement"
word_of w.Volume = codes "volume"
word_of w.Shader = codes "shader"
word_of w.Break = codes "break"
word_of w.Continue = codes "continue"
word_of w.Return = codes "return"
word_of w.If = codes "if"
word_of w.Else = codes "else"
word_of w.While = codes "while"
word_of w.Do = codes "do"
word_of w.For = codes "for"
word_of w.Not = codes "not"
word_of w.And = codes "and"
word_of w.Or = codes "or"

abbrev pub keywords : List Keyword
keywords = w.Struct ∷ w.Int ∷ w.Float ∷ w.Color ∷ w.Point ∷ w.Vector ∷ w.Normal ∷ w.Matrix ∷ w.Str ∷ w.Closure ∷ w.Void ∷ w.Output ∷ w.Surface ∷ w.Displacement ∷ w.Volume ∷ w.Shader
    ∷ w.Break ∷ w.Continue ∷ w.Return ∷ w.If ∷ w.Else ∷ w.While ∷ w.Do ∷ w.For ∷ w.Not ∷ w.And ∷ w.Or ∷ []

-- the reserved word that is spelled so
unfoldable pub reserved : List ℕ → Option Keyword
reserved text = find (λ word. bytes_eq (word_of word) text) keywords

abbrev pub named : List ℕ → Option Keyword → Lexeme
named text None = l.name text
named text (Some word) = l.terminal (m.Keyword word)

-- ---- strings

abbrev pub is_octal : ℕ → Bool
is_octal c = nat_le 48 c && nat_le c 55

-- An escape may have up to three octal digits: the byte for which they stand, the low eight bits of their number, and what follows.
abbrev pub third_digit : ℕ → List ℕ → ℕ × List ℕ
third_digit n [] = (n, [])
third_digit n (c ∷ cs) = if is_octal c then ((n * 8 + (c - 48)) % 256, cs) else (n, c ∷ cs)

abbrev pub second_digit : ℕ → List ℕ → ℕ × List ℕ
second_digit n [] = (n, [])
second_digit n (c ∷ cs) = if is_octal c then third_digit (n * 8 + (c - 48)) cs else (n, c ∷ cs)

-- `\n`, `\t` and `\r` are line feed, tab and carriage return; `\` and another byte is that byte
abbrev pub plain_escape : ℕ → ℕ
plain_escape c = if nat_eq c 110 then 10 else (if nat_eq c 116 then 9 else (if nat_eq c 114 then 13 else c))

-- after a `\`
abbrev pub escape : ℕ → List ℕ → ℕ × List ℕ
escape c cs = if is_octal c then second_digit (c - 48) cs else (plain_escape c, cs)

-- the first byte for which the text stands, and the text that follows
abbrev pub first_byte : List ℕ → Option (ℕ × List ℕ)
first_byte [] = None
first_byte (c ∷ []) = Some (c, [])
first_byte (c ∷ d ∷ cs) = if nat_eq c 92 then Some (escape d cs) else Some (c, d ∷ cs)

abbrev pub and_more : Option (ℕ × List ℕ) → (List ℕ → List ℕ) → List ℕ
and_more None more = []
and_more (Some (c, cs)) more = c ∷ more cs

-- byte by byte, of which there are no more than so many
unfoldable pub unescaped_from : ℕ → List ℕ → List ℕ
unescaped_from zero text = []
unescaped_from (suc n) text = and_more (first_byte text) (unescaped_from n)

-- the bytes for which the text between two quotes stands
unfoldable pub unescaped : List ℕ → List ℕ
unescaped text = unescaped_from (length text) text

-- ---- tokens

-- what is between the first and the last byte
abbrev pub inside : List ℕ → List ℕ
inside text = slice_range text 1 (length text - 1)

abbrev pub lexeme_of : List ℕ → TokenKind → Lexeme
lexeme_of text kinds.Word = named text (reserved text)
lexeme_of text (kinds.Int n) = l.int n
lexeme_of text (kinds.Float units) = l.float units
lexeme_of text kinds.Str = l.text (unescaped (inside text))
lexeme_of text (kinds.Punct mark) = l.terminal (m.Punct mark)

abbrev pub lexeme : List ℕ → Token → Lexeme
lexeme source t = lexeme_of (slice_range source t.start t.end) t.kind

-- the tokens of a source, with their texts
abbrev pub lexemes : List ℕ → List Token → List Lexeme
lexemes source tokens = map (lexeme source) tokens
