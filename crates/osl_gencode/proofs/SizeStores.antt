-- Sizes of parts of values, and of assignments and updates.
use Rattle.std.proofs.Common.{◌≡◌, ℕ, ◌+◌, ◌*◌, ◌≤◌, List, [], ◌∷◌, length, ap, ◌∙◌, arith}
use Rattle.std.specs.Prelude.{map, sum_by}
use Rattle.osl_value.specs.declared.op_name.OpName.{OpName}
use Rattle.osl_value.specs.declared.types.Ty.{Ty}
use Rattle.osl_value.specs.Types.{slot_count}
use Rattle.osl_overload.specs.declared.signature.Kind.{Kind}
use Rattle.osl_overload.specs.declared.signature.Kind.TheVariants.{Value, Structure, Void}
use Rattle.osl_typed.specs.declared.expr.Part.{Part}
use Rattle.osl_typed.specs.declared.expr.Root.{Root}
use Rattle.osl_typed.specs.declared.expr.TypedExpr.{TypedExpr}
use Rattle.osl_typed.specs.declared.expr.TypedExpr.TheVariants as e
use Rattle.osl_typed.specs.declared.shader.TypedStructure.{TypedStructure}
use Rattle.osl_typed.specs.declared.sizes.Weight.{Weight}
use Rattle.osl_typed.specs.Frames.{leaf_count}
use Rattle.osl_typed.specs.Selections.{depth_of, part_kind, kind_at}
use Rattle.osl_typed.specs.Sizes.{Scale, all_of, kind_slots, node_size, valued, held, field_kinds, root_kind, selected_types, stored_weight, weight}
use Rattle.osl_typed.proofs.WeightLaws.{weight-PartOf, weight-Assign, weight-Update}
use Rattle.oso_code.specs.declared.op.Op.{Op}
use Rattle.oso_code.specs.declared.symbol.Symbol.{Symbol}
use Rattle.osl_gencode.specs.Sizes.{Adds, Within, ExprWithin}
use Rattle.osl_gencode.proofs.SizeSums.{within_nothing, adds_none}
use Rattle.osl_gencode.proofs.FairLaws.{size_fair, one_slots, selections_size, selections_slots, last_kind}
use Rattle.osl_gencode.proofs.SizeNodes.{within_as}
use Rattle.osl_gencode.proofs.SizeParts.{LeadsTo, variable_size, variable_slots}

-- ---- parts of values

-- the last of the fields of a value
values_size : (structures : List TypedStructure) (kind : Kind) (kinds : List Kind) → node_size structures (last_kind kind kinds) ≤ (all_of (map (valued structures) (kind ∷ kinds))).size
values_size structures kind [] = omega arith
values_size structures kind (next ∷ rest) = let r = values_size structures next rest in omega (arith, r)

values_slots : (structures : List TypedStructure) (kind : Kind) (kinds : List Kind) → 1 + 2 * kind_slots structures (last_kind kind kinds) ≤ (all_of (map (valued structures) (kind ∷ kinds))).slots
values_slots structures kind [] = omega arith
values_slots structures kind (next ∷ rest) = let r = values_slots structures next rest in omega (arith, r)

-- a field of a value, where it is
pub field_within : (scale : Scale) (kind next : Kind) (rest : List Kind) (a : TypedExpr) (part : Part) (ops0 ops1 : List Op) (syms0 syms1 : List Symbol) (leaves q : ℕ)
    → field_kinds scale.structures kind part.fields ≡ next ∷ rest → last_kind next rest ≡ part.kind
    → ExprWithin ops0 ops1 syms0 syms1 leaves q (weight scale a)
    → ExprWithin ops0 ops1 syms0 syms1 (leaf_count scale.structures part.kind) (1 + 2 * kind_slots scale.structures part.kind + q) (weight scale (e.PartOf kind a part []))
field_within scale kind next rest a part ops0 ops1 syms0 syms1 leaves q fields last c =
    let o = c.ops in let s = c.syms in let t = c.slots in
    let size = values_size scale.structures next rest in let slots = values_slots scale.structures next rest in
    let a1 : (all_of (map (valued scale.structures) (field_kinds scale.structures kind part.fields))).size ≡ (all_of (map (valued scale.structures) (next ∷ rest))).size = ap (λ ks. (all_of (map (valued scale.structures) ks)).size) fields in
    let a2 : (all_of (map (valued scale.structures) (field_kinds scale.structures kind part.fields))).slots ≡ (all_of (map (valued scale.structures) (next ∷ rest))).slots = ap (λ ks. (all_of (map (valued scale.structures) ks)).slots) fields in
    let l1 : node_size scale.structures (last_kind next rest) ≡ node_size scale.structures part.kind = ap (node_size scale.structures) last in
    let l2 : kind_slots scale.structures (last_kind next rest) ≡ kind_slots scale.structures part.kind = ap (kind_slots scale.structures) last in
    let f = size_fair scale.structures part.kind in
    within_as ops0 ops1 syms0 syms1 _ _ _ _ _ (weight-PartOf scale kind a part []) (record { ops = omega (arith, o, size, a1, l1, f); syms = omega (arith, s, size, a1, l1, f); slots = omega (arith, t, slots, a2, l2) })

-- an element or a component of a value, after its indices
pub part_within : (scale : Scale) (kind : Kind) (a : TypedExpr) (part : Part) (indices : List TypedExpr) (types : List Ty) (ops0 opsA opsI ops1 : List Op) (syms0 symsA symsI syms1 : List Symbol) (na ma qa n m q : ℕ)
    → selected_types part.kind (depth_of part (map (weight scale) indices)) ≡ types → 1 ≤ length types
    → Within ops0 opsA syms0 symsA na ma qa (weight scale a) → Within opsA opsI symsA symsI n m q (all_of (map (weight scale) indices))
    → Adds opsI ops1 symsI syms1 (length types) (1 + length types) (1 + sum_by slot_count types)
    → ExprWithin ops0 ops1 syms0 syms1 1 (sum_by slot_count types + qa + q) (weight scale (e.PartOf kind a part indices))
part_within scale kind a part indices types ops0 opsA opsI ops1 syms0 symsA symsI syms1 na ma qa n m q is some c d b =
    let o = c.ops in let s = c.syms in let t = c.slots in let o1 = d.ops in let s1 = d.syms in let t1 = d.slots in let o2 = b.ops in let s2 = b.syms in let t2 = b.slots in
    let ts = selected_types part.kind (depth_of part (map (weight scale) indices)) in
    let l : length ts ≡ length types = ap length is in
    let k : sum_by slot_count ts ≡ sum_by slot_count types = ap (sum_by slot_count) is in
    let size = selections_size scale.structures ts in let slots = selections_slots scale.structures ts in
    within_as ops0 ops1 syms0 syms1 _ _ _ _ _ (weight-PartOf scale kind a part indices) (record { ops = omega (arith, o, o1, o2, l, size, some); syms = omega (arith, s, s1, s2, l, size, some); slots = omega (arith, t, t1, t2, l, k, slots, some) })

-- ---- assignments and updates

-- what has parts is a value
parted_size : (structures : List TypedStructure) (kind : Kind) (n : ℕ) → 1 ≤ length (selected_types kind n) → (node_size structures kind ≡ 4) × (node_size structures (kind_at kind n) ≡ 4)
parted_size structures (Value ty) n some = (omega arith, omega arith)
parted_size structures (Structure m) n some = absurd (omega (arith, some))
parted_size structures Void n some = absurd (omega (arith, some))

module _ (scale : Scale) (root : Root) (part : Part) (indices : List TypedExpr) (leads : LeadsTo scale.structures (root_kind scale.kinds root) part) where
  abbrev Types : List Ty
  Types = selected_types part.kind (depth_of part (map (weight scale) indices))

  abbrev Kind_of : Kind
  Kind_of = part_kind part (map (weight scale) indices)

  -- Any code that writes a variable or a part of one: the indices, what is added after them, the value, and what is added after it.
  pub stored_within : (a : TypedExpr) (ops0 opsI opsN opsE ops1 : List Op) (syms0 symsI symsN symsE syms1 : List Symbol) (n m q na ma qa n1 m1 q1 x y z x1 y1 z1 : ℕ) (w : Weight)
      → w ≡ stored_weight scale root part (map (weight scale) indices) (weight scale a)
      → n1 + x + x1 ≤ node_size scale.structures Kind_of + node_size scale.structures part.kind + 4 * length Types + n + na
      → m1 + y + y1 ≤ node_size scale.structures Kind_of + node_size scale.structures part.kind + 4 * length Types + m + ma
      → q1 + z + z1 ≤ 2 + 2 * kind_slots scale.structures Kind_of + (held scale.structures part.kind Types).slots + length Types + 2 * sum_by slot_count Types + q + qa
      → Within ops0 opsI syms0 symsI n m q (all_of (map (weight scale) indices)) → Adds opsI opsN symsI symsN x y z
      → Within opsN opsE symsN symsE na ma qa (weight scale a) → Adds opsE ops1 symsE syms1 x1 y1 z1
      → Within ops0 ops1 syms0 syms1 n1 m1 q1 w
  stored_within a ops0 opsI opsN opsE ops1 syms0 symsI symsN symsE syms1 n m q na ma qa n1 m1 q1 x y z x1 y1 z1 w is ln lm lq c d c1 d1 =
      let o = c.ops in let s = c.syms in let t = c.slots in let o1 = d.ops in let s1 = d.syms in let t1 = d.slots in
      let o2 = c1.ops in let s2 = c1.syms in let t2 = c1.slots in let o3 = d1.ops in let s3 = d1.syms in let t3 = d1.slots in
      let size = variable_size scale.structures scale.kinds root part (map (weight scale) indices) leads in
      let slots = variable_slots scale.structures scale.kinds root part (map (weight scale) indices) leads in
      within_as ops0 ops1 syms0 syms1 _ _ _ _ _ is (record { ops = omega (arith, o, o1, o2, o3, size, ln); syms = omega (arith, s, s1, s2, s3, size, lm); slots = omega (arith, t, t1, t2, t3, slots, lq) })

  -- an assignment to a part: a constant for a component that is named, and two ops and a symbol for each expression that the indices make
  pub assign_within : (types : List Ty) (a : TypedExpr) (ops0 opsI opsN opsE ops1 : List Op) (syms0 symsI symsN symsE syms1 : List Symbol) (n m q qa : ℕ) → Types ≡ types → 1 ≤ length types
      → Within ops0 opsI syms0 symsI n m q (all_of (map (weight scale) indices)) → Adds opsI opsN symsI symsN 0 1 1
      → ExprWithin opsN opsE symsN symsE 1 qa (weight scale a) → Adds opsE ops1 symsE syms1 (2 * length types) (length types) (sum_by slot_count types)
      → ExprWithin ops0 ops1 syms0 syms1 1 (1 + 2 * kind_slots scale.structures Kind_of + length types + sum_by slot_count types + q + qa) (weight scale (e.Assign root part indices a))
  assign_within types a ops0 opsI opsN opsE ops1 syms0 symsI symsN symsE syms1 n m q qa is some c d c1 d1 =
      let l : length Types ≡ length types = ap length is in
      let k : sum_by slot_count Types ≡ sum_by slot_count types = ap (sum_by slot_count) is in
      stored_within a ops0 opsI opsN opsE ops1 syms0 symsI symsN symsE syms1 n m q _ _ qa _ _ _ _ _ _ _ _ _ _ (weight-Assign scale root part indices a) (omega (arith, l, some)) (omega (arith, l, some)) (omega (arith, l, k)) c d c1 d1

  -- An update of a part: its old value is read, the new one is made, perhaps promoted, and put back.
  pub update_within : (op : OpName) (ty : Ty) (types : List Ty) (a : TypedExpr) (ops0 opsI opsR opsE ops1 : List Op) (syms0 symsI symsR symsE syms1 : List Symbol) (n m q leaves qa s : ℕ) → Types ≡ types → 1 ≤ length types
      → s ≤ 1 + kind_slots scale.structures Kind_of
      → Within ops0 opsI syms0 symsI n m q (all_of (map (weight scale) indices)) → Adds opsI opsR symsI symsR (length types) (1 + length types) (1 + sum_by slot_count types)
      → ExprWithin opsR opsE symsR symsE leaves qa (weight scale a) → Adds opsE ops1 symsE syms1 (2 + 2 * length types) (2 + length types) (s + kind_slots scale.structures Kind_of + sum_by slot_count types)
      → ExprWithin ops0 ops1 syms0 syms1 1 (length types + q + qa) (weight scale (e.Update op ty root part indices a))
  update_within op ty types a ops0 opsI opsR opsE ops1 syms0 symsI symsR symsE syms1 n m q leaves qa s is some few c d c1 d1 =
      let l : length Types ≡ length types = ap length is in
      let k : sum_by slot_count Types ≡ sum_by slot_count types = ap (sum_by slot_count) is in
      let v = parted_size scale.structures part.kind (depth_of part (map (weight scale) indices)) (omega (arith, l, some)) in let v0 = v.0 in let v1 = v.1 in
      stored_within a ops0 opsI opsR opsE ops1 syms0 symsI symsR symsE syms1 n m q _ _ qa _ _ _ _ _ _ _ _ _ _ (weight-Update scale op ty root part indices a) (omega (arith, l, some, v0, v1)) (omega (arith, l, some, v0, v1)) (omega (arith, l, k, few)) c d c1 d1

-- ---- whole variables

module _ (scale : Scale) (root : Root) (part : Part) (leads : LeadsTo scale.structures (root_kind scale.kinds root) part) (a : TypedExpr) (ops0 opsN opsE ops1 : List Op) (syms0 symsN symsE syms1 : List Symbol) (kind : Kind) (is_kind : part_kind part (map (weight scale) []) ≡ kind) where
  -- a whole variable is assigned, or a field of one: a move for each leaf at most
  pub assign_whole_within : (leaves qa x : ℕ) → x ≤ 4 * leaf_count scale.structures kind → leaf_count scale.structures kind ≤ leaves
      → ExprWithin ops0 opsE syms0 symsE leaves qa (weight scale a) → Adds opsE ops1 symsE syms1 x 0 0
      → ExprWithin ops0 ops1 syms0 syms1 leaves (2 + 2 * kind_slots scale.structures kind + qa) (weight scale (e.Assign root part [] a))
  assign_whole_within leaves qa x few there c d =
      let l : node_size scale.structures (part_kind part (map (weight scale) [])) ≡ node_size scale.structures kind = ap (node_size scale.structures) is_kind in
      let k : kind_slots scale.structures (part_kind part (map (weight scale) [])) ≡ kind_slots scale.structures kind = ap (kind_slots scale.structures) is_kind in
      let f = size_fair scale.structures kind in
      stored_within scale root part [] leads a ops0 ops0 ops0 opsE ops1 syms0 syms0 syms0 symsE syms1 0 0 0 _ _ qa _ _ _ 0 0 0 x 0 0 _ (weight-Assign scale root part [] a) (omega (arith, l, f, few)) (omega (arith, l, f)) (omega (arith, k)) (within_nothing ops0 syms0) (adds_none ops0 syms0) c d

  -- an update of a whole leaf: one op, or a copy of the old value, the new one, a promotion of it and a move
  pub update_whole_within : (op : OpName) (ty leaf : Ty) (leaves qa s : ℕ) → part.kind ≡ Value leaf → kind ≡ Value leaf → selected_types part.kind (depth_of part (map (weight scale) [])) ≡ [] → s ≤ 1 + slot_count leaf
      → Adds ops0 opsN syms0 symsN 1 1 (slot_count leaf) → ExprWithin opsN opsE symsN symsE leaves qa (weight scale a) → Adds opsE ops1 symsE syms1 3 2 (s + slot_count leaf)
      → ExprWithin ops0 ops1 syms0 syms1 1 (1 + qa) (weight scale (e.Update op ty root part [] a))
  update_whole_within op ty leaf leaves qa s is_leaf is_value none few b c d =
      let l : node_size scale.structures (part_kind part (map (weight scale) [])) ≡ 4 = ap (node_size scale.structures) (is_kind ∙ is_value) in
      let k : kind_slots scale.structures (part_kind part (map (weight scale) [])) ≡ slot_count leaf = ap (kind_slots scale.structures) (is_kind ∙ is_value) ∙ one_slots scale.structures leaf in
      let l1 : node_size scale.structures part.kind ≡ 4 = ap (node_size scale.structures) is_leaf in
      let k1 : kind_slots scale.structures part.kind ≡ slot_count leaf = ap (kind_slots scale.structures) is_leaf ∙ one_slots scale.structures leaf in
      let h : (held scale.structures part.kind (selected_types part.kind (depth_of part (map (weight scale) [])))).slots ≡ 2 * kind_slots scale.structures part.kind = ap (λ ts. (held scale.structures part.kind ts).slots) none in
      stored_within scale root part [] leads a ops0 ops0 opsN opsE ops1 syms0 syms0 symsN symsE syms1 0 0 0 _ _ qa _ _ _ 1 1 (slot_count leaf) 3 2 (s + slot_count leaf) _ (weight-Update scale op ty root part [] a) (omega (arith, l, l1)) (omega (arith, l, l1)) (omega (arith, k, k1, h, few)) (within_nothing ops0 syms0) b c d
