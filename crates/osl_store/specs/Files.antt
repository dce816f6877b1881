-- Files by name, and what a store tells of them.
use Rattle.std.specs.Prelude.{◌≡◌, ℕ, ◌<◌, ◌≤◌, List, ◌++◌, length, Option, None, Some, IfSome, IsSome}

-- what a store tells of a file: none where it does not tell, else the bytes or that there is no such file
abbrev pub Told : Type 0
Told = Option (Option (List ℕ))

-- files by name
abbrev pub Files : Type 0
Files = List ℕ → Option (List ℕ)

-- the bytes of a file within the limit were appended
abbrev pub Takes : Told → ℕ → List ℕ → List ℕ → Type 0
Takes told limit old new = (bytes : List ℕ) × (new ≡ old ++ bytes) × (length bytes ≤ limit) × IfSome told (λ file. file ≡ Some bytes)

-- there is no such file
abbrev pub IsMissing : Told → Type 0
IsMissing told = IfSome told (λ file. file ≡ None)

-- the file is longer than the limit
abbrev pub IsLonger : Told → ℕ → Type 0
IsLonger told limit = IfSome told (λ file. (bytes : List ℕ) × (file ≡ Some bytes) × (limit < length bytes))

-- the file holds these bytes, and is told where it was
abbrev pub Becomes : Told → Told → List ℕ → Type 0
Becomes old new bytes = IfSome new (λ file. file ≡ Some bytes) × (IsSome old → IsSome new)
