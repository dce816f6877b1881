-- The one canonical text of a shader: its lines with one space between words and a line feed after the last.
use Rattle.std.specs.Prelude.{ℕ, List, [], ◌∷◌, ◌++◌}
use Rattle.std.specs.List.{flat_map}
use Rattle.oso_code.specs.declared.raw.Raw.{Raw}
use Rattle.osl_valuetext.specs.Words.{behind, Line}
use Rattle.oso_write.specs.Lines.{lines_of}

abbrev pub line_text : Line → List ℕ
line_text [] = 10 ∷ []
line_text (word ∷ words) = word ++ behind 32 words ++ 10 ∷ []

unfoldable pub canon : Raw → List ℕ
canon raw = flat_map line_text (lines_of raw)
