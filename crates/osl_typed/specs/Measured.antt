-- What the measure keeps: each number stops at one above its limit, so that it is small whatever the source says.
use Rattle.std.specs.Prelude.{ℕ, ◌≡◌, ◌+◌, min, Bool, true, false, if◌then◌else◌, List, [], ◌∷◌, map, length, Option, None, Some, slice_get, sum_by}
use Rattle.osl_value.specs.declared.types.Ty.{Ty}
use Rattle.osl_value.specs.declared.types.Base.TheVariants.{Matrix}
use Rattle.osl_value.specs.Types.{is_only, slot_count, longest_text}
use Rattle.osl_overload.specs.declared.signature.Kind.{Kind}
use Rattle.osl_typed.specs.declared.expr.Part.{Part}
use Rattle.osl_typed.specs.declared.expr.Root.{Root}
use Rattle.osl_typed.specs.declared.shader.TypedFunction.{TypedFunction}
use Rattle.osl_typed.specs.declared.shader.TypedShader.{TypedShader}
use Rattle.osl_typed.specs.declared.shader.TypedStructure.{TypedStructure}
use Rattle.osl_typed.specs.declared.sizes.Leaves.{Leaves}
use Rattle.osl_typed.specs.declared.sizes.Sizes.{Sizes}
use Rattle.osl_typed.specs.declared.sizes.Weight.{Weight}
use Rattle.osl_typed.specs.Frames.{leaves_below}
use Rattle.osl_typed.specs.Sizes.{◌&◌, or_nothing, all_of, bare, valued, held, selections, selected_types, field_kinds, root_kind, calls_below, size_of, slots_of, calls_of, most_size, most_slots, most_calls, longest_name}

-- ---- weights

abbrev pub size_top : ℕ
size_top = most_size + 1

abbrev pub slots_top : ℕ
slots_top = most_slots + 1

abbrev pub call_top : ℕ
call_top = most_calls + 1

abbrev pub cut : Weight → Weight
cut w = record { size = min size_top w.size; slots = min slots_top w.slots; calls = min call_top w.calls }

-- ---- tables

-- the leaves of a type or of types, and their slots
abbrev pub shortened : List Ty → Leaves
shortened types = record { count = min size_top (length types); slots = min slots_top (sum_by slot_count types) }

abbrev pub leaves_sum : Leaves → Leaves → Leaves
leaves_sum a b = record { count = min size_top (a.count + b.count); slots = min slots_top (a.slots + b.slots) }

abbrev pub leaves_or_none : Option Leaves → Leaves
leaves_or_none None = record { count = 0; slots = 0 }
leaves_or_none (Some leaves) = leaves

-- the table has the leaves of the structures that it is as long as
abbrev pub IsLeafTable : List TypedStructure → List Leaves → Type 0
IsLeafTable structures table = (m : ℕ) → leaves_or_none (slice_get table m) ≡ shortened (leaves_below structures (length table) m)

-- the table has what a call adds of each function that it is as long as
abbrev pub IsCallTable : List TypedStructure → List TypedFunction → List Weight → Type 0
IsCallTable structures functions table = (f : ℕ) → or_nothing (slice_get table f) ≡ cut (calls_below structures functions (length table) f)

-- ---- nodes

-- the node that a field makes: of a value it holds a value
abbrev pub fields_node : Bool → List TypedStructure → Kind → Weight
fields_node true structures kind = valued structures kind
fields_node false structures kind = bare structures kind

-- a variable or a part of one, of which so many indices and components are taken, without the indices
abbrev pub variable_node : List TypedStructure → List Kind → Root → Part → ℕ → Weight
variable_node structures kinds root part n =
    let from = root_kind kinds root in
    let types = selected_types part.kind n in
    all_of (map (bare structures) (from ∷ field_kinds structures from part.fields)) & held structures part.kind types & selections structures types

-- a part of a value, without the value and without the indices
abbrev pub part_node : List TypedStructure → Kind → Part → ℕ → Weight
part_node structures kind part n = all_of (map (valued structures) (field_kinds structures kind part.fields)) & selections structures (selected_types part.kind n)

abbrev pub has_some : List Ty → Bool
has_some [] = false
has_some (ty ∷ rest) = true

-- how many indices make one expression of something that is no array
abbrev pub indices_wanted : Ty → ℕ
indices_wanted ty = if is_only Matrix ty then 2 else 1

-- ---- the measure

-- the sizes of a typed shader, each stopped at one above its limit
abbrev pub measured : TypedShader → Sizes
measured t = record {
  size = min size_top (size_of t);
  slots = min slots_top (slots_of t);
  calls = min call_top (calls_of t);
  longest_text = min (longest_text + 1) t.longest_text;
  longest_word = min (longest_name + 1) t.longest_word;
}
