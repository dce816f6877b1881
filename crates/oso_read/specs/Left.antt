-- The lines that a reader has before it.
use Rattle.std.specs.Prelude.{ℕ, ◌+◌, List, [], ◌∷◌, Option, None, Some, length}
use Rattle.std.specs.Str.Lines.{lines}
use Rattle.osl_valuetext.specs.Words.{Line}
use Rattle.oso_read.specs.declared.reader.Reader.{Reader}
use Rattle.oso_read.specs.Text.{Numbered, told_from}
use Rattle.osl_valuetext.specs.Scan.{spoken}

-- a line, if there is one, and those after it
abbrev pub with_line : Option ℕ → Line → List Numbered → List Numbered
with_line None line rest = []
with_line (Some number) line rest = record { number = number; line = line } ∷ rest

abbrev pub left : Reader → List Numbered
left reader = with_line reader.number (spoken reader.words.items) (told_from reader.lines.number reader.lines.rest.now)

-- the number of the line after the last
abbrev pub line_after : Reader → ℕ
line_after reader = reader.lines.number + length (lines reader.lines.rest.now)
