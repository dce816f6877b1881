-- The words of a group's text. A text is cut into pieces: words, marks, blanks and comments.
use Rattle.std.specs.Prelude.{ℕ, suc, ◌+◌, Bool, false, not, ◌&&◌, ◌||◌, ◌==◌, if◌then◌else◌, List, [], ◌∷◌, filter}
use Rattle.std.specs.List.{onto_first}
use Rattle.osl_valuetext.specs.declared.place.Place.{Place}
use Rattle.osl_valuetext.specs.declared.place.Place.TheVariants.{Open}
use Rattle.osl_valuetext.specs.Splitting.{next, is_open}
use Rattle.osl_valuetext.specs.Words.{Line}

-- space, tab, line feed, carriage return, form feed
abbrev pub is_blank : ℕ → Bool
is_blank c = (c == 32) || ((c == 9) || ((c == 10) || ((c == 13) || (c == 12))))

-- a blank, and the marks `;` and `=`: pieces of one byte
abbrev pub is_single : ℕ → Bool
is_single c = is_blank c || ((c == 59) || (c == 61))

-- the marks `[[` and `]]`: a bracket that another of its kind follows
abbrev pub is_double : ℕ → List ℕ → Bool
is_double c [] = false
is_double c (d ∷ cs) = ((c == 91) || (c == 93)) && (d == c)

abbrev pub begins_comment : ℕ → Bool
begins_comment c = c == 35

abbrev pub is_line_feed : ℕ → Bool
is_line_feed c = c == 10

-- where a byte of the text is
pub data Spot : Type 0 where
  -- in a word, or in a string of one
  Word : Place → Spot
  -- at the second bracket of `[[` or `]]`
  Bracket : Spot
  Comment : Spot

-- The pieces of a text whose first byte is here. The first and others may be empty. A comment begins at a `#` outside strings and has its line feed.
abbrev pub pieces : Spot → List ℕ → List (List ℕ)
pieces spot [] = [] ∷ []
pieces (Word place) (c ∷ cs) =
    if is_open place && is_single c then [] ∷ (c ∷ []) ∷ pieces (Word Open) cs
    else (if is_open place && is_double c cs then [] ∷ onto_first c (pieces Bracket cs)
    else (if is_open place && begins_comment c then [] ∷ onto_first c (pieces Comment cs)
    else onto_first c (pieces (Word (next place c)) cs)))
pieces Bracket (c ∷ cs) = (c ∷ []) ∷ pieces (Word Open) cs
pieces Comment (c ∷ cs) = if is_line_feed c then (c ∷ []) ∷ pieces (Word Open) cs else onto_first c (pieces Comment cs)

-- a piece that is a word or a mark
abbrev pub is_word : List ℕ → Bool
is_word [] = false
is_word (c ∷ cs) = not (is_blank c || begins_comment c)

-- the words and marks of a text
unfoldable pub words : List ℕ → Line
words text = filter is_word (pieces (Word Open) text)

-- ---- how far a piece goes

-- a byte outside strings that ends a word
abbrev pub ends_word : ℕ → List ℕ → Bool
ends_word c cs = is_single c || (is_double c cs || begins_comment c)

-- where a word ends whose bytes begin at `at`, the first at this place
abbrev pub word_end : Place → ℕ → List ℕ → ℕ
word_end place at [] = at
word_end place at (c ∷ cs) = if is_open place && ends_word c cs then at else word_end (next place c) (at + 1) cs

-- how many bytes a comment has after its first
abbrev pub comment_len : List ℕ → ℕ
comment_len [] = 0
comment_len (c ∷ cs) = if is_line_feed c then 1 else suc (comment_len cs)

-- how many bytes the mark, the blank or the comment at the front has
abbrev pub part_len : List ℕ → ℕ
part_len [] = 0
part_len (c ∷ cs) = if is_single c then 1 else (if is_double c cs then 2 else suc (comment_len cs))
