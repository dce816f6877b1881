-- What a source is read as: its tokens, or the kind and the place of its first fault.
use Rattle.std.specs.Prelude.{◌≡◌, ℕ, List, Result, Ok, Err}
use Rattle.osl_tree.specs.declared.token.Token.{Token}
use Rattle.osl_tree.specs.declared.token.LexKind.{LexKind}
use Rattle.osl_tree.specs.Lexical.{Tokens, FirstBad}

abbrev pub Reading : Type 0
Reading = Result (List Token) (LexKind × ℕ)

abbrev pub IsReading : List ℕ → Reading → Type 0
IsReading source (Ok tokens) = Tokens source tokens
IsReading source (Err fault) = FirstBad source fault.0 fault.1

-- each source is read
abbrev pub SomeReading : Type 0
SomeReading = (source : List ℕ) → (reading : Reading) × IsReading source reading

-- and in one way alone
abbrev pub OneReading : Type 0
OneReading = (source : List ℕ) (x y : Reading) → IsReading source x → IsReading source y → x ≡ y
