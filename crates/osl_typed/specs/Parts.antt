-- Reading and writing variables and parts of them. An index is moved to the nearest place by the operations.
use Rattle.std.specs.Prelude.{ℕ, pos, ◌+◌, if◌then◌else◌, List, [], ◌∷◌, ◌++◌, take, drop, Option, None, Some}
use Rattle.osl_value.specs.declared.op_name.OpName.TheVariants.{ARef, AAssign, CompRef, CompAssign, MxCompRef, MxCompAssign}
use Rattle.osl_value.specs.declared.types.Base.TheVariants.{Int, Float, Matrix}
use Rattle.osl_value.specs.declared.types.Ty.{Ty}
use Rattle.osl_value.specs.Types.{only, is_only}
use Rattle.osl_value.specs.AnyValue.{AnyValue, Parts, with_numbers, is_array, element_type}
use Rattle.osl_value.specs.Apply.{apply}
use Rattle.osl_overload.specs.declared.signature.Kind.{Kind}
use Rattle.osl_overload.specs.declared.signature.Kind.TheVariants.{Value}
use Rattle.osl_layer.specs.Layer.{Input, From, Fixed, Default, Inputs}
use Rattle.osl_typed.specs.declared.expr.Root.{Root}
use Rattle.osl_typed.specs.declared.expr.Root.TheVariants as root
use Rattle.osl_typed.specs.declared.expr.Part.{Part}
use Rattle.osl_typed.specs.declared.shader.TypedStructure.{TypedStructure}
use Rattle.osl_typed.specs.Frames.{leaf_count, leaves_before, place_of, kind_in}
use Rattle.osl_typed.specs.State.{State, ExpressionEnd, Gives, Spent, leaves_at, write_leaves, write_global, noted}

-- what the variables of a body are: the structures, the kinds of the frame, and which are connected
pub record Frame : Type 0 where
  pub structures : List TypedStructure
  pub kinds : List Kind
  pub inputs : Inputs

-- ---- leaves

-- the value of a single leaf
abbrev pub single : List AnyValue → AnyValue
single [] = Parts []
single (v ∷ vs) = v

abbrev pub int_of : ℕ → AnyValue
int_of n = with_numbers (only Int) (pos n ∷ [])

-- where the leaves of a part of variable k begin, and how many they are
abbrev pub first_leaf : Frame → ℕ → Part → ℕ
first_leaf frame k part = place_of frame.structures frame.kinds k + leaves_before frame.structures (kind_in frame.kinds k) part.fields

abbrev pub part_leaves : Frame → Part → ℕ
part_leaves frame part = leaf_count frame.structures part.kind

-- of the leaves of a value of this kind, those that the part's fields lead to
abbrev pub field_leaves : Frame → Kind → Part → List AnyValue → List AnyValue
field_leaves frame kind part vs = take (part_leaves frame part) (drop (leaves_before frame.structures kind part.fields) vs)

-- ---- elements and components of one leaf

abbrev pub matrix_element : AnyValue → AnyValue → List AnyValue → AnyValue
matrix_element v row [] = v
matrix_element v row (column ∷ rest) = apply MxCompRef (only Float) (v ∷ row ∷ column ∷ [])

-- what indices select of a value of a type: an element of an array, then a component of it
unfoldable pub selected : Ty → AnyValue → List AnyValue → AnyValue
selected ty v [] = v
selected ty v (i ∷ indices) =
    if is_array ty then selected (element_type ty) (apply ARef (element_type ty) (v ∷ i ∷ [])) indices
    else if is_only Matrix ty then matrix_element v i indices
    else apply CompRef (only Float) (v ∷ i ∷ [])

abbrev pub with_matrix_element : Ty → AnyValue → AnyValue → List AnyValue → AnyValue → AnyValue
with_matrix_element ty v row [] x = v
with_matrix_element ty v row (column ∷ rest) x = apply MxCompAssign ty (v ∷ row ∷ column ∷ x ∷ [])

-- the value with x where they select
unfoldable pub with_selected : Ty → AnyValue → List AnyValue → AnyValue → AnyValue
with_selected ty v [] x = x
with_selected ty v (i ∷ indices) x =
    if is_array ty then
    apply AAssign ty (v ∷ i ∷ with_selected (element_type ty) (apply ARef (element_type ty) (v ∷ i ∷ [])) indices x ∷ [])
    else if is_only Matrix ty then with_matrix_element ty v i indices x
    else apply CompAssign ty (v ∷ i ∷ x ∷ [])

-- ---- parts

abbrev pub named_component : Option ℕ → List AnyValue
named_component None = []
named_component (Some c) = int_of c ∷ []

-- all indices of a part, with the component that is named
abbrev pub all_indices : Part → List AnyValue → List AnyValue
all_indices part indices = indices ++ named_component part.component

abbrev pub selected_of : Kind → List AnyValue → List AnyValue → List AnyValue
selected_of (Value ty) vs indices = selected ty (single vs) indices ∷ []
selected_of _ vs indices = vs

-- the part's leaves, of the leaves that its fields lead to
abbrev pub selection : Part → List AnyValue → List AnyValue → List AnyValue
selection part vs indices = selected_of part.kind vs (all_indices part indices)

abbrev pub with_selected_of : Kind → List AnyValue → List AnyValue → List AnyValue → List AnyValue
with_selected_of (Value ty) vs indices xs = with_selected ty (single vs) indices (single xs) ∷ []
with_selected_of _ vs indices xs = xs

abbrev pub with_selection : Part → List AnyValue → List AnyValue → List AnyValue → List AnyValue
with_selection part vs indices xs = with_selected_of part.kind vs (all_indices part indices) xs

-- ---- reading

-- a connected parameter holds its source's output, and is noted when it is read; nothing ends the run
abbrev pub read_input : Input → ℕ → List AnyValue → State → ExpressionEnd (List AnyValue)
read_input (From None) k own s = Spent (noted k s)
read_input (From (Some v)) k own s = Gives (v ∷ []) (noted k s)
read_input (Fixed v) k own s = Gives own s
read_input Default k own s = Gives own s

-- the leaves that the part's fields lead to
abbrev pub read_leaves : Frame → Root → Part → State → ExpressionEnd (List AnyValue)
read_leaves frame (root.Variable k) part s =
    read_input (frame.inputs k) k (leaves_at s.vars (first_leaf frame k part) (part_leaves frame part)) s
read_leaves frame (root.Global g) part s = Gives (s.globals g ∷ []) s

-- ---- writing

-- with these values in a part of a variable
abbrev pub write_part : Frame → Root → Part → List AnyValue → List AnyValue → State → State
write_part frame (root.Variable k) part indices xs s =
    let from = first_leaf frame k part in
    write_leaves from (with_selection part (leaves_at s.vars from (part_leaves frame part)) indices xs) s
write_part frame (root.Global g) part indices xs s = write_global g (single (with_selection part (s.globals g ∷ []) indices xs)) s
