-- Weights of nodes are fair: what a node counts for the leaves that it has.
use Rattle.std.proofs.Common.{◌≡◌, ◌+◌, ◌*◌, ◌≤◌, List, [], ◌∷◌, length, arith}
use Rattle.std.specs.Prelude.{map, sum_by}
use Rattle.std.proofs.lemmas.List.Sums.{sum_by-cons}
use Rattle.osl_value.specs.declared.types.Ty.{Ty}
use Rattle.osl_value.specs.Types.{slot_count}
use Rattle.osl_overload.specs.declared.signature.Kind.{Kind}
use Rattle.osl_overload.specs.declared.signature.Kind.TheVariants.{Value, Structure, Void}
use Rattle.osl_typed.specs.declared.shader.TypedStructure.{TypedStructure}
use Rattle.osl_typed.specs.Frames.{leaf_count}
use Rattle.osl_typed.specs.Sizes.{all_of, node_size, kind_slots, bare, selections}

-- 4 for each leaf
pub size_fair : (structures : List TypedStructure) (kind : Kind) → 4 * leaf_count structures kind ≤ node_size structures kind
size_fair structures (Value ty) = omega arith
size_fair structures (Structure m) = omega arith
size_fair structures Void = omega arith

-- a value of a type is one leaf
pub one_slots : (structures : List TypedStructure) (ty : Ty) → kind_slots structures (Value ty) ≡ slot_count ty
one_slots structures ty = omega arith

-- ---- selections

pub selections_size : (structures : List TypedStructure) (types : List Ty) → (selections structures types).size ≡ 4 * length types
selections_size structures [] = omega arith
selections_size structures (ty ∷ types) = let r = selections_size structures types in omega (arith, r)

pub selections_slots : (structures : List TypedStructure) (types : List Ty) → (selections structures types).slots ≡ length types + 2 * sum_by slot_count types
selections_slots structures [] = omega arith
selections_slots structures (ty ∷ types) = let r = selections_slots structures types in omega (arith, r, sum_by-cons slot_count ty types)

-- ---- a variable and its fields

-- the last of these kinds
abbrev pub last_kind : Kind → List Kind → Kind
last_kind kind [] = kind
last_kind kind (next ∷ rest) = last_kind next rest

-- at least what the last of them counts
pub chain_size : (structures : List TypedStructure) (kind : Kind) (kinds : List Kind) → node_size structures (last_kind kind kinds) ≤ (all_of (map (bare structures) (kind ∷ kinds))).size
chain_size structures kind [] = omega arith
chain_size structures kind (next ∷ rest) = let r = chain_size structures next rest in omega (arith, r)

pub chain_slots : (structures : List TypedStructure) (kind : Kind) (kinds : List Kind) → 1 ≤ (all_of (map (bare structures) (kind ∷ kinds))).slots
chain_slots structures kind kinds = omega arith
