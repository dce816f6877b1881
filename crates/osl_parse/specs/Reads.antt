-- What a rule of the parser ensures: the outcome of the reading, unless memory is refused.
use Rattle.std.specs.Prelude.{◌≡◌, Bool, true, false, Option, Some, None, Result, Ok, Err, List, [], ◌∷◌}
use Rattle.osl_tree.specs.Lexeme.{Lexeme}
use Rattle.osl_tree.specs.Parser.{Read}
use Rattle.osl_parse.specs.declared.error.SyntaxError.{SyntaxError}
use Rattle.osl_parse.specs.declared.error.SyntaxError.TheVariants as errors

abbrev pub Reads : {A : Type 0} → Read A → Result A SyntaxError → List Lexeme → Type 0
Reads read (Ok a) new = read ≡ Some (a, new)
Reads read (Err errors.NoTree) new = read ≡ None
Reads read (Err errors.Memory) new = Unit {0}

-- what `parse` answers, unless memory is refused
abbrev pub Parses : {A : Type 0} → Option A → Result A SyntaxError → Type 0
Parses read (Ok a) = read ≡ Some a
Parses read (Err errors.NoTree) = read ≡ None
Parses read (Err errors.Memory) = Unit {0}

abbrev pub IsNoTree : {A : Type 0} → Result A SyntaxError → Type 0
IsNoTree (Ok a) = ⊥
IsNoTree (Err errors.NoTree) = Unit {0}
IsNoTree (Err errors.Memory) = ⊥

-- whether no token is left
abbrev pub is_end : List Lexeme → Bool
is_end [] = true
is_end (t ∷ ts) = false
