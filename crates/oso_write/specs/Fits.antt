-- What the writer asks of code, and valid code has.
use Rattle.std.specs.Prelude.{◌≤◌, List, length}
use Rattle.std.specs.List.{All}
use Rattle.osl_value.specs.Plain.{IsNumberOf}
use Rattle.oso_code.specs.declared.op.Op.{Op}
use Rattle.oso_code.specs.declared.op.Section.{Section}
use Rattle.oso_code.specs.declared.symbol.Meta.{Meta}
use Rattle.oso_code.specs.declared.symbol.Symbol.{Symbol}

-- a datum's numbers are its type's
abbrev pub IsDatum : Meta → Type 0
IsDatum m = All (IsNumberOf m.ty.base) m.nums

abbrev pub HasData : Symbol → Type 0
HasData s = All IsDatum s.metas

-- the ops of a section
pub record IsInside (ops : List Op) (s : Section) : Type 0 where
  pub ordered : s.start ≤ s.end
  pub within : s.end ≤ length ops
