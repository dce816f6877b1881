-- Names, and what is kept beside each.
use Rattle.std.specs.Prelude.{ℕ, List, [], ◌∷◌}
use Rattle.osl_overload.specs.declared.signature.Kind.{Kind}
use Rattle.osl_typed.specs.Scopes.{FieldName, StructureName}

unfoldable pub fields_of : List (List ℕ) → List Kind → List FieldName
fields_of [] kinds = []
fields_of (name ∷ names) [] = []
fields_of (name ∷ names) (kind ∷ kinds) = record { name = name; kind = kind } ∷ fields_of names kinds

unfoldable pub structures_of : List (List ℕ) → List (List FieldName) → List StructureName
structures_of [] fields = []
structures_of (name ∷ names) [] = []
structures_of (name ∷ names) (fields ∷ others) = record { name = name; fields = fields } ∷ structures_of names others
