-- A byte and the text after it, as values.
use Rattle.std.specs.Prelude.{ℕ, List, Option, Some, None}
use denote.Ref.{Bor}

abbrev pub next_byte_of : Option (ℕ × Bor (List ℕ)) → Option (ℕ × List ℕ)
next_byte_of None = None
next_byte_of (Some r) = Some (r.0, r.1.now)
