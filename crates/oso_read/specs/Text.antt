-- The lines that mean something. Lines are those of a text: a line feed ends each but perhaps the last, and a carriage return before a line feed does not count.
use Rattle.std.specs.Prelude.{ℕ, ◌+◌, Bool, false, not, ◌==◌, if◌then◌else◌, List, [], ◌∷◌, length, filter, Option, Some, None, slice_index}
use Rattle.std.specs.Str.Lines.{lines}
use Rattle.osl_valuetext.specs.Words.{Line}
use Rattle.osl_valuetext.specs.Splitting.{words}

-- the one word that there is
abbrev pub only_word : Line → Option (List ℕ)
only_word [] = None
only_word (word ∷ words) = if length words == 0 then Some word else None

-- ---- lines

-- It means nothing where it has no words, or where its first begins with `#`.
abbrev pub means : Line → Bool
means [] = false
means (word ∷ words) = not (slice_index word 0 == 35)

-- a line with its number, counted from 1
pub record Numbered : Type 0 where
  pub number : ℕ
  pub line : Line

abbrev pub numbered : ℕ → List (List ℕ) → List Numbered
numbered n [] = []
numbered n (line ∷ lines) = record { number = n; line = words line } ∷ numbered (n + 1) lines

-- the lines of a text that mean something, its first line having this number
unfoldable pub told_from : ℕ → List ℕ → List Numbered
told_from n bytes = filter (λ l. means l.line) (numbered n (lines bytes))

abbrev pub told : List ℕ → List Numbered
told bytes = told_from 1 bytes

-- how many lines a text has, one without a line feed at the end included
abbrev pub line_count : List ℕ → ℕ
line_count bytes = length (lines bytes)
