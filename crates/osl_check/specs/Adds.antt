-- What an answer of the checker, and what it made of a table, say of what the definition has.
use Rattle.std.specs.Prelude.{◌≡◌, Option, None, Some, Result, Ok, Err}
use Rattle.osl_typing.specs.declared.error.TypeError.{TypeError}
use Rattle.osl_typing.specs.declared.error.TypeError.TheVariants.{Memory, NoTyping}
use Rattle.osl_typed.specs.Scopes.{Scope}

-- what there is, with the scope after it, or that there is nothing; out of memory it says nothing
abbrev pub Adds : {A : Type 0} → Option (A × Scope) → Result A TypeError → Scope → Type 0
Adds o (Ok a) scope = o ≡ Some (a, scope)
Adds o (Err NoTyping) scope = o ≡ None
Adds o (Err Memory) scope = Unit {0}

-- the same of an answer that is nothing but the new table
abbrev pub Gives : {A : Type 0} → Option A → Result (Unit {0}) TypeError → A → Type 0
Gives o (Ok done) new = o ≡ Some new
Gives o (Err NoTyping) new = o ≡ None
Gives o (Err Memory) new = Unit {0}
