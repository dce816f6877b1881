-- The functions of one name: their signatures side by side, and what each of them calls.
use Rattle.std.specs.Prelude.{List, [], ◌∷◌}
use Rattle.osl_overload.specs.declared.signature.Signature.{Signature}
use Rattle.osl_typed.specs.declared.found.Callee.{Callee}
use Rattle.osl_typed.specs.Scopes.{Candidate}

abbrev pub candidate : Signature → Callee → Candidate
candidate signature callee = record { signature = signature; callee = callee }

unfoldable pub candidates_of : List Signature → List Callee → List Candidate
candidates_of [] callees = []
candidates_of (signature ∷ signatures) [] = []
candidates_of (signature ∷ signatures) (callee ∷ callees) = candidate signature callee ∷ candidates_of signatures callees
