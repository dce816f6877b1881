-- How the sections of code follow each other: those of parameters, in the parameters' order, and then that of the body (oso text, sections).
use Rattle.std.specs.Prelude.{ℕ, ◌≡◌, ◌<◌, ◌≤◌, nat_lt, nat_le, Bool, true, false, ◌&&◌, ◌==◌, List, [], ◌∷◌, ◌++◌, length, map, Option, Some, None, slice_get, unwrap_or}
use Rattle.std.specs.List.{list_all}
use Rattle.osl_value.specs.Plain.{Plain}
use Rattle.osl_value.specs.Numbers.{is_zero}
use Rattle.oso_code.specs.declared.op.Section.{Section}
use Rattle.oso_code.specs.declared.raw.Raw.{Raw}
use Rattle.oso_code.specs.declared.symbol.Symbol.{Symbol}
use Rattle.oso_code.specs.Faults.{misfits, unless}
use Rattle.oso_code.specs.Ops.{op_at_fits}
use Rattle.oso_code.specs.Symbols.{is_parameter, is_empty}

-- zeros and empty strings; a closure parameter has no value
abbrev pub is_zeros : Option Plain → Bool
is_zeros None = true
is_zeros (Some v) = list_all is_zero v.nums && list_all is_empty v.texts

-- there may be a section of a parameter whose values are zeros
abbrev pub may_own : Symbol → Bool
may_own symbol = is_parameter symbol.class && is_zeros symbol.value

abbrev pub may_have_section : Option Symbol → Bool
may_have_section None = false
may_have_section (Some symbol) = may_own symbol

-- the body, or a parameter whose values are zeros
abbrev pub owner_fits : List Symbol → Option ℕ → Bool
owner_fits symbols None = true
owner_fits symbols (Some p) = may_have_section (slice_get symbols p)

-- nothing follows the body, and parameters follow in their order
abbrev pub owner_follows : Option ℕ → Option ℕ → Bool
owner_follows None owner = false
owner_follows (Some p) None = true
owner_follows (Some p) (Some q) = nat_lt p q

-- of each symbol, whether there may be a section of it
abbrev pub owners_of : List Symbol → List Bool
owners_of symbols = map may_own symbols

-- whether there may be a section of the body, or of a symbol by its number
abbrev pub may_stand : List Bool → Option ℕ → Bool
may_stand owners None = true
may_stand owners (Some p) = unwrap_or (slice_get owners p) false

abbrev pub section_fits : Raw → Section → Bool
section_fits raw section =
    owner_fits raw.symbols section.param && (nat_le section.start section.end && nat_le section.end (length raw.ops))

-- a section after another
abbrev pub follows : Section → Section → Bool
follows before section = owner_follows before.param section.param && (section.start == before.end)

-- the starts of sections at fault, after one
abbrev pub later_faults : Raw → Section → List Section → List ℕ
later_faults raw before [] = []
later_faults raw before (section ∷ sections) =
    unless (follows before section && section_fits raw section) section.start ++ later_faults raw section sections

-- the body is the last, and ends where the ops end
abbrev pub is_body : Option ℕ → Bool
is_body None = true
is_body (Some p) = false

abbrev pub end_faults : Raw → Section → List Section → List ℕ
end_faults raw last [] = unless (is_body last.param && nat_le (length raw.ops) last.end) last.end
end_faults raw before (section ∷ sections) = end_faults raw section sections

abbrev pub section_faults : Raw → List Section → List ℕ
section_faults raw [] = 0 ∷ []
section_faults raw (section ∷ sections) =
    unless ((section.start == 0) && section_fits raw section) section.start ++ (later_faults raw section sections ++ end_faults raw section sections)

abbrev pub op_faults : Raw → List ℕ
op_faults raw = misfits (op_at_fits raw) 0 raw.ops ++ section_faults raw raw.sections

-- the first n sections end at a place or before it
abbrev pub EndBefore : List Section → ℕ → ℕ → Type 0
EndBefore sections n at = (j : ℕ) (section : Section) → j < n → slice_get sections j ≡ Some section → section.end ≤ at
