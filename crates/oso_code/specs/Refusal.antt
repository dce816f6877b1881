-- Why code is refused.
use Rattle.std.specs.Prelude.{◌≡◌, Some}
use Rattle.oso_code.specs.declared.error.CodeError.{CodeError}
use Rattle.oso_code.specs.declared.error.CodeError.TheVariants.{Memory, Flaw}
use Rattle.oso_code.specs.declared.raw.Raw.{Raw}
use Rattle.oso_code.specs.Valid.{first_flaw}

-- out of memory, or the flaw is the first one
abbrev pub Refuses : Raw → CodeError → Type 0
Refuses raw Memory = Unit {0}
Refuses raw (Flaw kind at) = first_flaw raw ≡ Some (kind, at)
