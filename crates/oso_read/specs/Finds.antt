-- What a function of the code returned, against what a line gives, and the errors that it makes of faults.
use Rattle.std.specs.Prelude.{◌≡◌, ℕ, Option, None, Some, Result, Ok, Err}
use Rattle.oso_read.specs.declared.error.OsoError.{OsoError}
use Rattle.oso_read.specs.declared.error.OsoError.TheVariants as errors
use Rattle.oso_read.specs.declared.error.OsoKind.{OsoKind}
use Rattle.oso_read.specs.declared.error.OsoKind.TheVariants as kinds
use Rattle.oso_read.specs.declared.fault.LineFault.{LineFault}
use Rattle.oso_read.specs.declared.fault.LineFault.TheVariants as faults
use Rattle.osl_valuetext.specs.declared.unread.Unread.{Unread}
use Rattle.osl_valuetext.specs.declared.unread.Unread.TheVariants as unread

-- It is, seen by view, what the line gives, or the kind of its fault, unless memory ran out.
abbrev pub Finds : {X A : Type 0} → (X → A) → Result X LineFault → Result A OsoKind → Type 0
Finds view (Ok x) read = read ≡ Ok (view x)
Finds view (Err faults.Memory) read = Unit {0}
Finds view (Err (faults.Kind kind)) read = read ≡ Err kind

-- the fault of a line whose words are misspelled
abbrev pub fault_of : Unread → OsoKind → LineFault
fault_of unread.Memory kind = faults.Memory
fault_of unread.Misspelled kind = faults.Kind kind

-- the fault with its line
abbrev pub error_at : LineFault → ℕ → OsoError
error_at faults.Memory line = errors.Memory
error_at (faults.Kind kind) line = errors.Bad kind line

-- the fault that comes first, of the first op whose jumps are not valid and the first before it whose ranges nest too deep
abbrev pub found : Option ℕ → Option ℕ → Option (OsoKind × ℕ)
found None None = None
found (Some jump) None = Some (kinds.Jump, jump)
found None (Some deep) = Some (kinds.Limit, deep)
found (Some jump) (Some deep) = Some (kinds.Limit, deep)
