-- Which code is valid, and the first flaw of code that is not (oso text, validity and limits).
use Rattle.std.specs.Prelude.{◌≡◌, ◌↔◌, IsTrue, slice_get, ℕ, ◌+◌, nat_lt, nat_le, Bool, ◌&&◌, ◌||◌, List, [], ◌∷◌, length, Option, Some, None}
use Rattle.osl_value.specs.Types.{slot_count}
use Rattle.oso_code.specs.declared.error.FlawKind.{FlawKind}
use Rattle.oso_code.specs.declared.error.FlawKind.TheVariants as K
use Rattle.oso_code.specs.declared.op.Op.{Op}
use Rattle.oso_code.specs.declared.raw.Raw.{Raw}
use Rattle.oso_code.specs.declared.symbol.Symbol.{Symbol}
use Rattle.oso_code.specs.Faults.{unless, least, misfits}
use Rattle.oso_code.specs.Ops.{op_at_fits}
use Rattle.oso_code.specs.Ranges.{jumps_fit, around, ranges_of, jump_faults, steps_of}
use Rattle.oso_code.specs.Sections.{section_faults, op_faults}
use Rattle.oso_code.specs.Steps.{Step}
use Rattle.oso_code.specs.Symbols.{is_empty, header_fits, symbol_at_fits, symbol_faults}

-- ---- limits

abbrev pub most_ops : ℕ
most_ops = 65536

abbrev pub most_symbols : ℕ
most_symbols = 65536

abbrev pub most_slots : ℕ
most_slots = 65536

-- the most ranges, one in another
abbrev pub most_nested : ℕ
most_nested = 4608

abbrev pub slots_of : List Symbol → ℕ
slots_of [] = 0
slots_of (symbol ∷ symbols) = slot_count symbol.ty + slots_of symbols

-- an op's ranges are one deeper than the op
abbrev pub nests_within : List Step → ℕ → Step → Bool
nests_within steps at step = is_empty (ranges_of step) || nat_lt (length (around steps at)) most_nested

-- the ops whose ranges nest too deep
abbrev pub deep_faults : Raw → List ℕ
deep_faults raw = misfits (nests_within (steps_of raw)) 0 (steps_of raw)

abbrev pub fits_limits : Raw → Bool
fits_limits raw =
    ((nat_le (length raw.symbols) most_symbols && nat_le (length raw.ops) most_ops) && nat_le (slots_of raw.symbols) most_slots)
    && is_empty (deep_faults raw)

-- ---- flaws

abbrev pub Flaw : Type 0
Flaw = FlawKind × ℕ

-- the least place, or else what comes later
abbrev pub first_of : FlawKind → List ℕ → Option Flaw → Option Flaw
first_of kind faults later = elim (least faults) [ None ↦ later | Some at ↦ Some (kind, at) ]

-- the first kind of which there is a fault, with its first place
unfoldable pub first_flaw : Raw → Option Flaw
first_flaw raw =
    first_of K.Symbol (symbol_faults raw)
    (first_of K.Op (op_faults raw) (first_of K.Jump (jump_faults raw) (first_of K.Limit (unless (fits_limits raw) 0) None)))

-- each part of the code fits
pub record IsValid (raw : Raw) : Type 0 where
  pub header : IsTrue (header_fits raw)
  pub symbols : (k : ℕ) (symbol : Symbol) → slice_get raw.symbols k ≡ Some symbol → IsTrue (symbol_at_fits raw.symbols k symbol)
  pub ops : (k : ℕ) (op : Op) → slice_get raw.ops k ≡ Some op → IsTrue (op_at_fits raw k op)
  pub sections : section_faults raw raw.sections ≡ []
  pub jumps : (k : ℕ) (op : Op) → slice_get raw.ops k ≡ Some op → IsTrue (jumps_fit raw (steps_of raw) k op)
  pub limits : IsTrue (fits_limits raw)

-- code is valid exactly where it has no flaw
abbrev pub ValidityIsExact : Type 0
ValidityIsExact = (raw : Raw) → IsValid raw ↔ (first_flaw raw ≡ None)
