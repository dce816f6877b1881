-- What an answer of the checker says of what the definition has.
use Rattle.std.specs.Prelude.{◌≡◌, Option, None, Some, Result, Ok, Err}
use Rattle.osl_typing.specs.declared.error.TypeError.{TypeError}
use Rattle.osl_typing.specs.declared.error.TypeError.TheVariants.{Memory, NoTyping}

-- what there is, or that there is nothing; out of memory it says nothing
abbrev pub Says : {A : Type 0} → Option A → Result A TypeError → Type 0
Says o (Ok a) = o ≡ Some a
Says o (Err NoTyping) = o ≡ None
Says o (Err Memory) = Unit {0}

-- the same, of what the definition sees of the value
abbrev pub SaysBy : {A B : Type 0} → (B → A) → Option A → Result B TypeError → Type 0
SaysBy see o (Ok b) = o ≡ Some (see b)
SaysBy see o (Err NoTyping) = o ≡ None
SaysBy see o (Err Memory) = Unit {0}
