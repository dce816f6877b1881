-- Sizes of variables, of parts of them and of values, and of what is written into them.
use Rattle.std.proofs.Common.{◌≡◌, ℕ, ◌+◌, ◌*◌, ◌≤◌, List, [], ◌∷◌, length, ap, arith}
use Rattle.std.specs.Prelude.{map, sum_by}
use Rattle.osl_value.specs.declared.types.Ty.{Ty}
use Rattle.osl_value.specs.Types.{slot_count}
use Rattle.osl_overload.specs.declared.signature.Kind.{Kind}
use Rattle.osl_typed.specs.declared.expr.Part.{Part}
use Rattle.osl_typed.specs.declared.expr.Root.{Root}
use Rattle.osl_typed.specs.declared.expr.TypedExpr.{TypedExpr}
use Rattle.osl_typed.specs.declared.expr.TypedExpr.TheVariants as e
use Rattle.osl_typed.specs.declared.expr.Argument.TheVariants as arguments
use Rattle.osl_typed.specs.declared.shader.TypedStructure.{TypedStructure}
use Rattle.osl_typed.specs.declared.sizes.Weight.{Weight}
use Rattle.osl_typed.specs.Frames.{leaf_count}
use Rattle.osl_typed.specs.Selections.{depth_of}
use Rattle.osl_typed.specs.Sizes.{Scale, all_of, kind_slots, node_size, held, field_kinds, root_kind, selected_types, variable_weight, weight, weight_passed}
use Rattle.osl_typed.proofs.WeightLaws.{weight-Variable, weight-Out}
use Rattle.oso_code.specs.declared.op.Op.{Op}
use Rattle.oso_code.specs.declared.symbol.Symbol.{Symbol}
use Rattle.osl_gencode.specs.Sizes.{Adds, Within, ExprWithin}
use Rattle.osl_gencode.proofs.FairLaws.{size_fair, selections_size, selections_slots, last_kind, chain_size, chain_slots}
use Rattle.osl_gencode.proofs.SizeNodes.{within_as}

-- ---- what a variable weighs at least

-- the fields lead to the kind of the part
pub record LeadsTo (structures : List TypedStructure) (from : Kind) (part : Part) : Type 0 where
  pub ends : last_kind from (field_kinds structures from part.fields) ≡ part.kind

module _ (structures : List TypedStructure) (kinds : List Kind) (root : Root) (part : Part) (ws : List Weight) (leads : LeadsTo structures (root_kind kinds root) part) where
  -- the expressions that its indices make
  abbrev types : List Ty
  types = selected_types part.kind (depth_of part ws)

  pub variable_size : node_size structures part.kind + 4 * length types + (all_of ws).size ≤ (variable_weight structures kinds root part ws).size
  variable_size =
      let from = root_kind kinds root in
      let c = chain_size structures from (field_kinds structures from part.fields) in
      let is : node_size structures (last_kind from (field_kinds structures from part.fields)) ≡ node_size structures part.kind = ap (node_size structures) leads.ends in
      let h : (held structures part.kind types).size ≡ 0 = of_held types in
      omega (arith, c, is, h, selections_size structures types)
    where
      of_held : (ts : List Ty) → (held structures part.kind ts).size ≡ 0
      of_held [] = omega arith
      of_held (t ∷ ts) = omega arith

  pub variable_slots : 1 + (held structures part.kind types).slots + length types + 2 * sum_by slot_count types + (all_of ws).slots ≤ (variable_weight structures kinds root part ws).slots
  variable_slots =
      let from = root_kind kinds root in
      omega (arith, chain_slots structures from (field_kinds structures from part.fields), selections_slots structures types)

-- ---- variables

module _ (scale : Scale) (root : Root) (part : Part) (leads : LeadsTo scale.structures (root_kind scale.kinds root) part) where
  -- a variable, or a field of one, where it is, or copied: z slots of the two for each of its own
  pub whole_within : (ops0 ops1 : List Op) (syms0 syms1 : List Symbol) (x z q : ℕ) → selected_types part.kind (depth_of part (map (weight scale) [])) ≡ [] → x ≤ leaf_count scale.structures part.kind → q + z ≤ 1 + 2 * kind_slots scale.structures part.kind → Adds ops0 ops1 syms0 syms1 x x z → ExprWithin ops0 ops1 syms0 syms1 (leaf_count scale.structures part.kind) q (weight scale (e.Variable root part []))
  whole_within ops0 ops1 syms0 syms1 x z q none few le a =
      let o = a.ops in let s = a.syms in let t = a.slots in
      let size = variable_size scale.structures scale.kinds root part [] leads in
      let slots = variable_slots scale.structures scale.kinds root part [] leads in
      let h : (held scale.structures part.kind (selected_types part.kind (depth_of part (map (weight scale) [])))).slots ≡ 2 * kind_slots scale.structures part.kind = ap (λ ts. (held scale.structures part.kind ts).slots) none in
      let f = size_fair scale.structures part.kind in
      within_as ops0 ops1 syms0 syms1 _ _ _ _ _ (weight-Variable scale root part []) (record { ops = omega (arith, o, size, f, few); syms = omega (arith, s, size, f, few); slots = omega (arith, t, slots, h, le) })

  -- the same of a part, after its indices: they leave room, and so does each expression that they make
  pub selected_within : (indices : List TypedExpr) (ops0 opsI ops1 : List Op) (syms0 symsI syms1 : List Symbol) (n m q n1 m1 q1 x y z : ℕ) (w : Weight) → w ≡ variable_weight scale.structures scale.kinds root part (map (weight scale) indices)
      → n1 + x ≤ node_size scale.structures part.kind + 4 * length (selected_types part.kind (depth_of part (map (weight scale) indices))) + n
      → m1 + y ≤ node_size scale.structures part.kind + 4 * length (selected_types part.kind (depth_of part (map (weight scale) indices))) + m
      → q1 + z ≤ 1 + length (selected_types part.kind (depth_of part (map (weight scale) indices))) + 2 * sum_by slot_count (selected_types part.kind (depth_of part (map (weight scale) indices))) + q
      → Within ops0 opsI syms0 symsI n m q (all_of (map (weight scale) indices)) → Adds opsI ops1 symsI syms1 x y z → Within ops0 ops1 syms0 syms1 n1 m1 q1 w
  selected_within indices ops0 opsI ops1 syms0 symsI syms1 n m q n1 m1 q1 x y z w is ln lm lq a b =
      let o = a.ops in let s = a.syms in let t = a.slots in let o1 = b.ops in let s1 = b.syms in let t1 = b.slots in
      let size = variable_size scale.structures scale.kinds root part (map (weight scale) indices) leads in
      let slots = variable_slots scale.structures scale.kinds root part (map (weight scale) indices) leads in
      within_as ops0 ops1 syms0 syms1 _ _ _ _ _ is (record { ops = omega (arith, o, o1, size, ln); syms = omega (arith, s, s1, size, lm); slots = omega (arith, t, t1, slots, lq) })

  -- reading a part: a constant for a component that is named, and an op and a symbol for each expression that the indices make
  pub read_within : (indices : List TypedExpr) (types : List Ty) (ops0 opsI ops1 : List Op) (syms0 symsI syms1 : List Symbol) (n m q : ℕ) → selected_types part.kind (depth_of part (map (weight scale) indices)) ≡ types → 1 ≤ length types
      → Within ops0 opsI syms0 symsI n m q (all_of (map (weight scale) indices)) → Adds opsI ops1 symsI syms1 (length types) (1 + length types) (1 + sum_by slot_count types)
      → ExprWithin ops0 ops1 syms0 syms1 1 (length types + sum_by slot_count types + q) (weight scale (e.Variable root part indices))
  read_within indices types ops0 opsI ops1 syms0 symsI syms1 n m q is some a b =
      let l : length (selected_types part.kind (depth_of part (map (weight scale) indices))) ≡ length types = ap length is in
      let k : sum_by slot_count (selected_types part.kind (depth_of part (map (weight scale) indices))) ≡ sum_by slot_count types = ap (sum_by slot_count) is in
      selected_within indices ops0 opsI ops1 syms0 symsI syms1 n m q _ _ _ _ _ _ _ (weight-Variable scale root part indices) (omega (arith, l, some)) (omega (arith, l, some)) (omega (arith, l, k)) a b

  -- an output that is a part: it is read, and leaves room for being written
  pub output_within : (indices : List TypedExpr) (types : List Ty) (ops0 opsI ops1 : List Op) (syms0 symsI syms1 : List Symbol) (n m q : ℕ) → selected_types part.kind (depth_of part (map (weight scale) indices)) ≡ types → 1 ≤ length types
      → Within ops0 opsI syms0 symsI n m q (all_of (map (weight scale) indices)) → Adds opsI ops1 symsI syms1 (length types) (1 + length types) (1 + sum_by slot_count types)
      → Within ops0 ops1 syms0 syms1 (2 * length types) (length types) (sum_by slot_count types) (weight_passed scale (arguments.Out root part indices))
  output_within indices types ops0 opsI ops1 syms0 symsI syms1 n m q is some a b =
      let l : length (selected_types part.kind (depth_of part (map (weight scale) indices))) ≡ length types = ap length is in
      let k : sum_by slot_count (selected_types part.kind (depth_of part (map (weight scale) indices))) ≡ sum_by slot_count types = ap (sum_by slot_count) is in
      selected_within indices ops0 opsI ops1 syms0 symsI syms1 n m q _ _ _ _ _ _ _ (weight-Out scale root part indices) (omega (arith, l, some)) (omega (arith, l, some)) (omega (arith, l, k, some)) a b

  -- an output that is whole is read where it is, and leaves room for a move of each leaf
  pub whole_output_within : (ops : List Op) (syms : List Symbol) → Within ops ops syms syms (4 * leaf_count scale.structures part.kind) 0 0 (weight_passed scale (arguments.Out root part []))
  whole_output_within ops syms =
      let size = variable_size scale.structures scale.kinds root part [] leads in
      let f = size_fair scale.structures part.kind in
      within_as ops ops syms syms _ _ _ _ _ (weight-Out scale root part []) (record { ops = omega (arith, size, f); syms = omega arith; slots = omega arith })
