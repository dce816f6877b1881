-- What indices lead to: an element of an array, a component of a triple, an element of a matrix (by two indices).
use Rattle.std.specs.Prelude.{ℕ, zero, suc, ◌+◌, if◌then◌else◌, List, [], ◌∷◌, length, Option, None, Some}
use Rattle.osl_value.specs.declared.types.Base.TheVariants.{Float, Matrix}
use Rattle.osl_value.specs.declared.types.Ty.{Ty}
use Rattle.osl_value.specs.Types.{only, is_only}
use Rattle.osl_value.specs.AnyValue.{is_array, element_type}
use Rattle.osl_overload.specs.declared.signature.Kind.{Kind}
use Rattle.osl_overload.specs.declared.signature.Kind.TheVariants.{Value}
use Rattle.osl_typed.specs.declared.expr.Part.{Part}

abbrev component_type : Ty → ℕ → List Ty
component_type ty zero = []
component_type ty (suc n) = only Float ∷ []

-- the types of the expressions that so many indices make of one of a type, the innermost first: the two indices of a matrix make one
unfoldable pub types_on_the_way : Ty → ℕ → List Ty
types_on_the_way ty zero = []
types_on_the_way ty (suc n) =
    if is_array ty then element_type ty ∷ types_on_the_way (element_type ty) n
    else if is_only Matrix ty then component_type ty n
    else only Float ∷ []

abbrev pub last_type : Ty → List Ty → Ty
last_type ty [] = ty
last_type ty (next ∷ rest) = last_type next rest

-- the type that they lead to
abbrev pub selected_type : Ty → ℕ → Ty
selected_type ty n = last_type ty (types_on_the_way ty n)

abbrev pub component_count : Option ℕ → ℕ
component_count None = 0
component_count (Some c) = 1

-- how many indices a part has with its component
abbrev pub depth_of : {X : Type 0} → Part → List X → ℕ
depth_of part indices = length indices + component_count part.component

abbrev pub kind_at : Kind → ℕ → Kind
kind_at (Value ty) n = Value (selected_type ty n)
kind_at kind n = kind

-- the kind of a part
abbrev pub part_kind : {X : Type 0} → Part → List X → Kind
part_kind part indices = kind_at part.kind (depth_of part indices)
