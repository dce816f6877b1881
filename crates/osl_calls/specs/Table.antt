-- What a table of functions by name says.
use Rattle.std.specs.Prelude.{◌≡◌, ℕ, List, [], ◌∷◌, ◌++◌, length, drop, Option, None, Some, bytes_eq, if◌then◌else◌}
use Rattle.osl_typed.specs.BuiltIns.{lines}
use Rattle.osl_typed.specs.Scopes.{Candidate, Functions, StructureName, Sight}
use Rattle.osl_calls.specs.Lines.{named_in}

-- names with their functions
abbrev pub Table : Type 0
Table = List (List ℕ × List Candidate)

abbrev pub functions_in : Option (List Candidate) → List Candidate
functions_in None = []
functions_in (Some functions) = functions

-- the functions of a name, the built-in ones among them
unfoldable pub held : Table → List ℕ → List Candidate
held [] name = []
held (entry ∷ entries) name = if bytes_eq name (entry.0) then entry.1 else held entries name

-- the functions that are declared: the built-in ones of a name come before them
unfoldable pub functions_of : Table → Functions
functions_of table = λ name. drop (length (named_in lines name)) (held table name)

-- the built-in functions come before the declared ones
unfoldable pub HasBuiltIns : Table → Type 0
HasBuiltIns table = (name : List ℕ) → held table name ≡ named_in lines name ++ functions_of table name

-- what a body sees where these structures and functions are declared
abbrev pub sight_of : List StructureName → Table → Sight
sight_of structures table = record { structures = structures; functions = functions_of table }
