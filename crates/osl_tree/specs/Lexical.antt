-- The tokens of a source, and where it has none: OSL specification, section "Lexical structure". A source is a list of bytes, and a place is a number of bytes before it.
use Rattle.std.specs.Prelude.{◌≡◌, ℕ, ◌+◌, ◌<◌, ◌≤◌, nat_eq, Bool, true, false, ◌&&◌, ◌||◌, List, [], ◌∷◌, ◌++◌, length, slice_get, slice_range, Option, Some, None, ℤ, codes}
use Rattle.std.specs.List.{AllPass}
use Rattle.std.specs.Char.{is_ascii_whitespace, is_ascii_alphabetic, is_ascii_alphanumeric}
use Rattle.osl_tree.specs.declared.token.Punct.{Punct}
use Rattle.osl_tree.specs.declared.token.Punct.TheVariants as p
use Rattle.osl_tree.specs.declared.token.TokenKind.{TokenKind}
use Rattle.osl_tree.specs.declared.token.TokenKind.TheVariants as kinds
use Rattle.osl_tree.specs.declared.token.Token.{Token}
use Rattle.osl_tree.specs.declared.token.LexKind.{LexKind}
use Rattle.osl_tree.specs.declared.token.LexKind.TheVariants as faults
use Rattle.osl_tree.specs.Numbers.{IsInt, IsFloat}

-- ---- the texts of tokens

-- space, tab, line feed, carriage return, form feed
abbrev pub is_blank : ℕ → Bool
is_blank c = is_ascii_whitespace c

-- a letter or `_`
abbrev pub begins_word : ℕ → Bool
begins_word c = is_ascii_alphabetic c || nat_eq c 95

-- a letter, a digit or `_`
abbrev pub is_word_byte : ℕ → Bool
is_word_byte c = is_ascii_alphanumeric c || nat_eq c 95

pub data IsWord : List ℕ → Type 0 where
  word : (c : ℕ) (cs : List ℕ) → begins_word c ≡ true → AllPass is_word_byte cs → IsWord (c ∷ cs)

-- What is between the quotes of a string: no quote, `\` or line feed but as the second of a pair that begins with `\`, and there no line feed.
pub data IsInside : List ℕ → Type 0 where
  nothing : IsInside []
  plain : (c : ℕ) (cs : List ℕ) → nat_eq c 34 ≡ false → nat_eq c 92 ≡ false → nat_eq c 10 ≡ false → IsInside cs → IsInside (c ∷ cs)
  escaped : (c : ℕ) (cs : List ℕ) → nat_eq c 10 ≡ false → IsInside cs → IsInside (92 ∷ c ∷ cs)

pub data IsString : List ℕ → Type 0 where
  quoted : (inside : List ℕ) → IsInside inside → IsString (34 ∷ inside ++ 34 ∷ [])

abbrev pub spelling : Punct → List ℕ
spelling p.OpenParen = codes "("
spelling p.CloseParen = codes ")"
spelling p.OpenBrace = codes "{"
spelling p.CloseBrace = codes "}"
spelling p.OpenBracket = codes "["
spelling p.CloseBracket = codes "]"
spelling p.OpenMeta = codes "[["
spelling p.Comma = codes ","
spelling p.Semicolon = codes ";"
spelling p.Dot = codes "."
spelling p.Question = codes "?"
spelling p.Colon = codes ":"
spelling p.Assign = codes "="
spelling p.Equal = codes "=="
spelling p.NotEqual = codes "!="
spelling p.Less = codes "<"
spelling p.Greater = codes ">"
spelling p.LessEqual = codes "<="
spelling p.GreaterEqual = codes ">="
spelling p.ShiftLeft = codes "<<"
spelling p.ShiftRight = codes ">>"
spelling p.Plus = codes "+"
spelling p.Minus = codes "-"
spelling p.Star = codes "*"
spelling p.Slash = codes "/"
spelling p.Percent = codes "%"
spelling p.Increment = codes "++"
spelling p.Decrement = codes "--"
spelling p.PlusAssign = codes "+="
spelling p.MinusAssign = codes "-="
spelling p.StarAssign = codes "*="
spelling p.SlashAssign = codes "/="
spelling p.ShiftLeftAssign = codes "<<="
spelling p.ShiftRightAssign = codes ">>="
spelling p.AndAssign = codes "&="
spelling p.OrAssign = codes "|="
spelling p.XorAssign = codes "^="
spelling p.And = codes "&"
spelling p.Or = codes "|"
spelling p.Xor = codes "^"
spelling p.Tilde = codes "~"
spelling p.Bang = codes "!"
spelling p.AndAnd = codes "&&"
spelling p.OrOr = codes "||"

-- the text is a token of this kind and value
pub data IsToken : List ℕ → TokenKind → Type 0 where
  word : (text : List ℕ) → IsWord text → IsToken text kinds.Word
  int : (text : List ℕ) (n : ℤ) → IsInt text n → IsToken text (kinds.Int n)
  float : (text : List ℕ) (units : ℤ) → IsFloat text units → IsToken text (kinds.Float units)
  string : (text : List ℕ) → IsString text → IsToken text kinds.Str
  mark : (text : List ℕ) (sign : Punct) → text ≡ spelling sign → IsToken text (kinds.Punct sign)

-- ---- what is at a place

-- these bytes are there
abbrev pub Stands : List ℕ → ℕ → List ℕ → Type 0
Stands bytes at text = slice_range bytes at (at + length text) ≡ text

-- the byte there, if there is one, passes the test
abbrev pub passes : (ℕ → Bool) → Option ℕ → Bool
passes test None = false
passes test (Some c) = test c

-- A line comment ends where its line ends, before the line feed.
pub record IsLineComment (bytes : List ℕ) (at to : ℕ) : Type 0 where
  pub opens : Stands bytes at (codes "//")
  pub order : at + 2 ≤ to
  pub within : to ≤ length bytes
  pub one_line : (k : ℕ) → at ≤ k → k < to → passes (nat_eq 10) (slice_get bytes k) ≡ false
  pub ends : to < length bytes → slice_get bytes to ≡ Some 10

-- A block comment ends after the first `*/` that follows its `/*`.
pub record IsBlockComment (bytes : List ℕ) (at to : ℕ) : Type 0 where
  pub opens : Stands bytes at (codes "/*")
  pub order : at + 4 ≤ to
  pub closes : (k : ℕ) × (k + 2 ≡ to) × Stands bytes k (codes "*/")
  pub first : (k : ℕ) → at + 2 ≤ k → k + 2 < to → Stands bytes k (codes "*/") → ⊥

-- what is between tokens
pub data IsGap (bytes : List ℕ) (at : ℕ) : ℕ → Type 0 where
  blank : passes is_blank (slice_get bytes at) ≡ true → IsGap bytes at (at + 1)
  line_comment : (to : ℕ) → IsLineComment bytes at to → IsGap bytes at to
  block_comment : (to : ℕ) → IsBlockComment bytes at to → IsGap bytes at to

-- `//` and `/*` always begin a comment
pub record IsNoComment (bytes : List ℕ) (at : ℕ) : Type 0 where
  pub no_line_comment : Stands bytes at (codes "//") → ⊥
  pub no_block_comment : Stands bytes at (codes "/*") → ⊥

-- the longest token that begins there
pub record IsLongest (bytes : List ℕ) (t : Token) : Type 0 where
  pub within : t.end ≤ length bytes
  pub is : IsToken (slice_range bytes t.start t.end) t.kind
  pub longest : (to : ℕ) (kind : TokenKind) → t.end < to → to ≤ length bytes → IsToken (slice_range bytes t.start to) kind → ⊥

abbrev pub is_number : TokenKind → Bool
is_number kinds.Word = false
is_number (kinds.Int n) = true
is_number (kinds.Float units) = true
is_number kinds.Str = false
is_number (kinds.Punct sign) = false

-- A number that is followed by a letter, a digit, `_` or a point is cut short: it is out of range, or its form is wrong.
abbrev pub is_cut_short : List ℕ → Token → Bool
is_cut_short bytes t = is_number t.kind && passes (λ c. is_word_byte c || nat_eq c 46) (slice_get bytes t.end)

-- the token that is there
pub record IsTokenAt (bytes : List ℕ) (at : ℕ) (t : Token) : Type 0 where
  pub starts : t.start ≡ at
  pub no_comment : IsNoComment bytes at
  pub longest : IsLongest bytes t
  pub whole : is_cut_short bytes t ≡ false

-- ---- a whole source

-- From a place on, the bytes are gaps and these tokens, up to a place.
pub data Runs (bytes : List ℕ) : ℕ → List Token → ℕ → Type 0 where
  here : (at : ℕ) → Runs bytes at [] at
  gap : (at on to : ℕ) (ts : List Token) → IsGap bytes at on → Runs bytes on ts to → Runs bytes at ts to
  token : (at to : ℕ) (t : Token) (ts : List Token) → IsTokenAt bytes at t → Runs bytes t.end ts to → Runs bytes at (t ∷ ts) to

-- These are the tokens of the source.
abbrev pub Tokens : List ℕ → List Token → Type 0
Tokens bytes ts = Runs bytes 0 ts (length bytes)

-- nothing but blanks is before it on its line
pub record BeginsLine (bytes : List ℕ) (at : ℕ) : Type 0 where
  pub line : ℕ
  pub order : line ≤ at
  pub begins : 0 < line → (k : ℕ) × (k + 1 ≡ line) × (slice_get bytes k ≡ Some 10)
  pub blank : (k : ℕ) → line ≤ k → k < at → passes is_blank (slice_get bytes k) ≡ true

-- no token begins there
abbrev pub NoToken : List ℕ → ℕ → Type 0
NoToken bytes at = (to : ℕ) (kind : TokenKind) → to ≤ length bytes → IsToken (slice_range bytes at to) kind → ⊥

-- a fault at this place
pub data IsFault (bytes : List ℕ) (at : ℕ) : LexKind → Type 0 where
  open_comment : Stands bytes at (codes "/*") → ((k : ℕ) → at + 2 ≤ k → Stands bytes k (codes "*/") → ⊥) → IsFault bytes at faults.OpenComment
  open_string : slice_get bytes at ≡ Some 34 → NoToken bytes at → IsFault bytes at faults.OpenString
  bad_number : (t : Token) → t.start ≡ at → IsLongest bytes t → is_cut_short bytes t ≡ true → IsFault bytes at faults.BadNumber
  directive : slice_get bytes at ≡ Some 35 → BeginsLine bytes at → IsFault bytes at faults.Directive
  bad_byte : (c : ℕ) → slice_get bytes at ≡ Some c → is_blank c ≡ false → nat_eq c 34 ≡ false → NoToken bytes at
      → (c ≡ 35 → BeginsLine bytes at → ⊥) → IsFault bytes at faults.BadByte

-- The first fault of the source, of which all before is gaps and tokens.
pub record FirstBad (bytes : List ℕ) (kind : LexKind) (at : ℕ) : Type 0 where
  pub tokens : List Token
  pub before : Runs bytes 0 tokens at
  pub fault : IsFault bytes at kind
