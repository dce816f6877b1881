-- How group and point texts are cut: bytes that stand together make a piece, and each byte that stands alone is a mark.
use Rattle.std.specs.Prelude.{ℕ, suc, Bool, true, false, not, ◌&&◌, ◌||◌, ◌==◌, nat_le, if◌then◌else◌, List, [], ◌∷◌}
use Rattle.osl_job.specs.declared.text.TextForm.{TextForm}
use Rattle.osl_job.specs.declared.text.TextForm.TheVariants as form
use Rattle.osl_job.specs.declared.text.Class.{Class}
use Rattle.osl_job.specs.declared.text.Class.TheVariants.{Blank, Comment, Joined, Alone}

-- ---- bytes

-- space, tab, line feed, carriage return, form feed
abbrev pub is_blank : ℕ → Bool
is_blank c = (c == 32) || (c == 9) || (c == 10) || (c == 13) || (c == 12)

abbrev pub is_digit : ℕ → Bool
is_digit c = nat_le 48 c && nat_le c 57

-- a letter or `_`
abbrev pub begins_word : ℕ → Bool
begins_word c = (nat_le 97 c && nat_le c 122) || (nat_le 65 c && nat_le c 90) || (c == 95)

abbrev pub is_word_byte : ℕ → Bool
is_word_byte c = begins_word c || is_digit c

abbrev pub is_point : ℕ → Bool
is_point c = c == 46

abbrev pub ends_line : List ℕ → Bool
ends_line [] = false
ends_line (c ∷ cs) = c == 10

-- ---- what a byte is for, with what stands behind it

-- In a group's text `;` stands alone, and `#` begins a comment.
abbrev pub group_class : ℕ → Class
group_class c = if is_blank c then Blank else if c == 35 then Comment else if c == 59 then Alone else Joined

-- In a point file words are parted by spaces and tabs, and lines by line feeds, which a carriage return may precede.
abbrev pub point_class : ℕ → List ℕ → Class
point_class c after =
    if (c == 32) || (c == 9) || (c == 10) || ((c == 13) && ends_line after) then Blank
    else if c == 35 then Comment else Joined

abbrev pub class_of : TextForm → ℕ → List ℕ → Class
class_of form.Group c after = group_class c
class_of form.Points c after = point_class c after

-- ---- the pieces and marks of a text

pub data Lexeme : Type 0 where
  Piece : List ℕ → Lexeme
  Mark : ℕ → Lexeme

abbrev pub is_joined : Class → Bool
is_joined Blank = false
is_joined Comment = false
is_joined Joined = true
is_joined Alone = false

abbrev pub is_comment : Class → Bool
is_comment Blank = false
is_comment Comment = true
is_comment Joined = false
is_comment Alone = false

-- a piece goes on here
abbrev pub joins : TextForm → List ℕ → Bool
joins form [] = false
joins form (c ∷ cs) = is_joined (class_of form c cs)

-- one more byte in front of a piece
abbrev pub longer : ℕ → List Lexeme → List Lexeme
longer c [] = Piece (c ∷ []) ∷ []
longer c (Piece text ∷ rest) = Piece (c ∷ text) ∷ rest
longer c (Mark m ∷ rest) = Piece (c ∷ []) ∷ Mark m ∷ rest

-- a byte in front of what the rest is cut into
abbrev pub placed : Class → ℕ → Bool → List Lexeme → List Lexeme
placed Blank c goes_on rest = rest
placed Comment c goes_on rest = rest
placed Joined c goes_on rest = if goes_on then longer c rest else Piece (c ∷ []) ∷ rest
placed Alone c goes_on rest = Mark c ∷ rest

-- A text, cut. It may begin inside a comment, which goes up to the line's end.
unfoldable pub cut : TextForm → Bool → List ℕ → List Lexeme
cut form inside [] = []
cut form true (c ∷ cs) = cut form (not (c == 10)) cs
cut form false (c ∷ cs) = placed (class_of form c cs) c (joins form cs) (cut form (is_comment (class_of form c cs)) cs)

abbrev pub lexemes : TextForm → List ℕ → List Lexeme
lexemes form text = cut form false text

-- ---- the front of a text

abbrev pub begins_lexeme : Class → Bool
begins_lexeme Blank = false
begins_lexeme Comment = false
begins_lexeme Joined = true
begins_lexeme Alone = true

-- no blank and no comment stands in front
abbrev pub begins : TextForm → List ℕ → Bool
begins form [] = true
begins form (c ∷ cs) = begins_lexeme (class_of form c cs)

abbrev pub one_longer : Class → ℕ → ℕ
one_longer Blank n = 0
one_longer Comment n = 0
one_longer Joined n = suc n
one_longer Alone n = 0

-- how many bytes stand together in front
unfoldable pub joined_len : TextForm → List ℕ → ℕ
joined_len form [] = 0
joined_len form (c ∷ cs) = one_longer (class_of form c cs) (joined_len form cs)
