-- Comments, which begin at a `#` and go up to the line's end.
use Rattle.std.specs.Prelude.{ℕ, Bool, ◌==◌, List, take}
use Rattle.osl_valuetext.specs.declared.place.Place.TheVariants.{Open}
use Rattle.osl_valuetext.specs.Scan.{piece_end}

abbrev pub begins_comment : ℕ → Bool
begins_comment c = c == 35

-- a line without its comment, which begins at the first `#` outside strings
unfoldable pub uncommented : List ℕ → List ℕ
uncommented line = take (piece_end begins_comment Open 0 line) line
