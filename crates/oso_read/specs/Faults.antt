-- Faults of a text, and steps of which the first that fails ends a reading.
use Rattle.std.specs.Prelude.{◌≡◌, ℕ, Bool, if◌then◌else◌, Result, Ok, Err}
use Rattle.oso_read.specs.declared.error.OsoKind.{OsoKind}
use Rattle.oso_read.specs.declared.error.OsoError.{OsoError}
use Rattle.oso_read.specs.declared.error.OsoError.TheVariants as errors

pub record Fault : Type 0 where
  pub kind : OsoKind
  pub line : ℕ

abbrev pub fault : OsoKind → ℕ → Fault
fault kind line = record { kind = kind; line = line }

infixl 10 ◌>>=◌
abbrev pub ◌>>=◌ : {E A B : Type 0} → Result A E → (A → Result B E) → Result B E
(Ok x) >>= f = f x
(Err e) >>= f = Err e

-- the line of a fault
abbrev pub at_line : {A : Type 0} → ℕ → Result A OsoKind → Result A Fault
at_line n (Ok x) = Ok x
at_line n (Err kind) = Err (fault kind n)

-- the value, if the test holds
abbrev pub holding : {A : Type 0} → Bool → OsoKind → A → Result A OsoKind
holding holds kind x = if holds then Ok x else Err kind

-- What a function returned, seen by view, is what reading gives, unless memory ran out.
abbrev pub Fails : {A : Type 0} → OsoError → Result A Fault → Type 0
Fails errors.Memory read = Unit {0}
Fails (errors.Bad kind line) read = read ≡ Err (fault kind line)

abbrev pub Gives : {X A : Type 0} → (X → A) → Result X OsoError → Result A Fault → Type 0
Gives view (Ok x) read = read ≡ Ok (view x)
Gives view (Err e) read = Fails e read
