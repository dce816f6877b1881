-- The lines of a text, with their numbers, and what they mean. A line feed ends each line but perhaps the last, and a carriage return before a line feed does not count.
use Rattle.std.specs.Prelude.{ℕ, ◌+◌, Bool, false, not, ◌==◌, List, [], ◌∷◌, ◌++◌, length, filter, slice_index}
use Rattle.std.specs.Str.Lines.{lines}
use Rattle.osl_valuetext.specs.Words.{Line, behind}
use Rattle.osl_valuetext.specs.Splitting.{words}
use Rattle.osl_lines.specs.declared.comment.Comments.{Comments}
use Rattle.osl_lines.specs.declared.comment.Comments.TheVariants.{WholeLines, Anywhere}
use Rattle.osl_lines.specs.Comment.{begins_comment, uncommented}

abbrev pub is_line_feed : ℕ → Bool
is_line_feed c = c == 10

-- the words of a line
abbrev pub line_words : Comments → List ℕ → Line
line_words WholeLines line = words line
line_words Anywhere line = words (uncommented line)

-- A line means nothing where it has no words, or where its first begins with `#`.
abbrev pub means : Line → Bool
means [] = false
means (word ∷ words) = not (begins_comment (slice_index word 0))

-- a line with its number, counted from 1
pub record Numbered : Type 0 where
  pub number : ℕ
  pub line : Line

abbrev pub numbered : Comments → ℕ → List (List ℕ) → List Numbered
numbered comments n [] = []
numbered comments n (line ∷ lines) = record { number = n; line = line_words comments line } ∷ numbered comments (n + 1) lines

-- the lines of a text that mean something, its first line having this number
unfoldable pub meant_from : Comments → ℕ → List ℕ → List Numbered
meant_from comments n bytes = filter (λ l. means l.line) (numbered comments n (lines bytes))

-- how many lines a text has, one without a line feed at the end included
abbrev pub line_count : List ℕ → ℕ
line_count bytes = length (lines bytes)

-- the canonical text of a line: its words with one space between them, and a line feed
abbrev pub line_text : Line → List ℕ
line_text [] = 10 ∷ []
line_text (word ∷ words) = word ++ behind 32 words ++ 10 ∷ []
