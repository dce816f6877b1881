-- Where variables lie: each variable of a frame is a row of leaves, and a structure has the leaves of its fields, in order (OSL specification, "Structures").
use Rattle.std.specs.Prelude.{ℕ, zero, suc, ◌+◌, ◌==◌, if◌then◌else◌, List, [], ◌∷◌, length, take, map, None, Some, slice_get, slice_index_or}
use Rattle.std.specs.List.{flat_map}
use Rattle.osl_value.specs.declared.types.Ty.{Ty}
use Rattle.osl_value.specs.AnyValue.{AnyValue, Parts, zero_value}
use Rattle.osl_overload.specs.declared.signature.Kind.{Kind}
use Rattle.osl_overload.specs.declared.signature.Kind.TheVariants.{Value, Structure, Void}
use Rattle.osl_typed.specs.declared.shader.TypedStructure.{TypedStructure}

-- ---- leaves

-- the kinds of the fields of structure m
abbrev pub fields_of : List TypedStructure → ℕ → List Kind
fields_of structures m = elim (slice_get structures m) [ None ↦ [] | Some structure ↦ structure.fields ]

-- the leaves of a kind, where `inside` gives those of a structure
abbrev pub leaves_with : (ℕ → List Ty) → Kind → List Ty
leaves_with inside (Value ty) = ty ∷ []
leaves_with inside (Structure m) = inside m
leaves_with inside Void = []

-- the leaves of the structures below n
unfoldable pub leaves_below : List TypedStructure → ℕ → ℕ → List Ty
leaves_below structures zero m = []
leaves_below structures (suc n) m =
    if m == n then flat_map (leaves_with (leaves_below structures n)) (fields_of structures n) else leaves_below structures n m

-- the types of the leaves of a kind
abbrev pub leaves_of : List TypedStructure → Kind → List Ty
leaves_of structures kind = leaves_with (leaves_below structures (length structures)) kind

abbrev pub leaf_count : List TypedStructure → Kind → ℕ
leaf_count structures kind = length (leaves_of structures kind)

-- zero in each leaf
abbrev pub zeros_of : List TypedStructure → Kind → List AnyValue
zeros_of structures kind = map zero_value (leaves_of structures kind)

-- ---- fields

-- the fields of a structure; nothing else has any
abbrev pub fields_in : List TypedStructure → Kind → List Kind
fields_in structures (Structure m) = fields_of structures m
fields_in structures _ = []

-- how many leaves there are before those that the fields lead to
unfoldable pub leaves_before : List TypedStructure → Kind → List ℕ → ℕ
leaves_before structures kind [] = 0
leaves_before structures kind (field ∷ fields) =
    let inside = fields_in structures kind in
    length (flat_map (leaves_of structures) (take field inside)) + leaves_before structures (slice_index_or inside field Void) fields

-- ---- frames

-- where the leaves of variable k begin
abbrev pub place_of : List TypedStructure → List Kind → ℕ → ℕ
place_of structures frame k = length (flat_map (leaves_of structures) (take k frame))

-- zero in each leaf of these types, by its place
abbrev pub zero_leaves : List Ty → ℕ → AnyValue
zero_leaves types k = elim (slice_get types k) [ None ↦ Parts [] | Some ty ↦ zero_value ty ]

abbrev pub kind_in : List Kind → ℕ → Kind
kind_in frame k = slice_index_or frame k Void
