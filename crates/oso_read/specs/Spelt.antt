-- Which bytes spell a shader.
use Rattle.std.specs.Prelude.{◌≡◌, ℕ, Bool, true, false, ◌&&◌, ◌==◌, List, map, Option, None, Some, IsTrue}
use Rattle.std.specs.List.{after_last, list_all}
use Rattle.osl_value.specs.Plain.{Plain}
use Rattle.oso_code.specs.declared.raw.Raw.{Raw}
use Rattle.oso_code.specs.declared.symbol.Meta.{Meta}
use Rattle.oso_code.specs.declared.symbol.Symbol.{Symbol}
use Rattle.oso_code.specs.Valid.{IsValid}
use Rattle.oso_write.specs.Lines.{lines_of}
use Rattle.osl_valuetext.specs.Splitting.{words}
use Rattle.oso_read.specs.Text.{means, told}
use Rattle.oso_read.specs.Hints.{said}
use Rattle.osl_valuetext.specs.Spells.{are_bytes, is_text}

-- ---- strings, which hold bytes, those of values at most 512

abbrev pub datum_spells : Meta → Bool
datum_spells meta = list_all are_bytes meta.texts

abbrev pub start_spells : Option Plain → Bool
start_spells None = true
start_spells (Some value) = list_all is_text value.texts

abbrev pub symbol_spells : Symbol → Bool
symbol_spells symbol = start_spells symbol.value && list_all datum_spells symbol.metas

abbrev pub can_spell : Raw → Bool
can_spell raw = list_all datum_spells raw.metas && list_all symbol_spells raw.symbols

-- ---- texts

abbrev pub is_line_feed : ℕ → Bool
is_line_feed c = c == 10

-- The lines that mean something say what the shader's lines say, and the last of these has its line feed: blanks between words, hints but `%meta`, and lines that mean nothing are free.
pub record Spelt (bytes : List ℕ) (raw : Raw) : Type 0 where
  pub valid : IsValid raw
  pub texts : IsTrue (can_spell raw)
  pub says : map (λ l. said l.line) (told bytes) ≡ map Some (lines_of raw)
  pub ended : means (words (after_last is_line_feed bytes)) ≡ false
