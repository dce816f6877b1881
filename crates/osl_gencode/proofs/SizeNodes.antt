-- Sizes of nodes of expressions: the code of a node is within its weight where the code of its parts is within theirs.
use Rattle.std.proofs.Common.{◌≡◌, ℕ, ℤ, ◌+◌, ◌*◌, ◌≤◌, List, refl, sym, subst, arith}
use Rattle.std.specs.Prelude.{map}
use Rattle.osl_value.specs.declared.op_name.OpName.{OpName}
use Rattle.osl_value.specs.declared.types.Base.TheVariants.{Int, Float, Str}
use Rattle.osl_value.specs.declared.types.Ty.{Ty}
use Rattle.osl_value.specs.Types.{slot_count, only}
use Rattle.osl_overload.specs.declared.signature.Kind.{Kind}
use Rattle.osl_typed.specs.declared.expr.Increment.{Increment}
use Rattle.osl_typed.specs.declared.expr.Root.{Root}
use Rattle.osl_typed.specs.declared.expr.TypedExpr.{TypedExpr}
use Rattle.osl_typed.specs.declared.expr.TypedExpr.TheVariants as e
use Rattle.osl_typed.specs.declared.sizes.Weight.{Weight}
use Rattle.osl_typed.specs.Frames.{leaf_count}
use Rattle.osl_typed.specs.Sizes.{Scale, all_of, kind_slots, weight, typed_node}
use Rattle.osl_typed.proofs.WeightLaws.{weight-Int, weight-Float, weight-Text, weight-Paren, weight-Promote, weight-Apply, weight-And, weight-Or, weight-Choose, weight-Step, weight-Exit}
use Rattle.oso_code.specs.declared.op.Op.{Op}
use Rattle.oso_code.specs.declared.symbol.Symbol.{Symbol}
use Rattle.osl_gencode.specs.Sizes.{Adds, Within, ExprWithin}
use Rattle.osl_gencode.proofs.FairLaws.{size_fair}

-- by an equation of weights
pub within_as : (ops0 ops1 : List Op) (syms0 syms1 : List Symbol) (n m q : ℕ) (v w : Weight) → v ≡ w → Within ops0 ops1 syms0 syms1 n m q w → Within ops0 ops1 syms0 syms1 n m q v
within_as ops0 ops1 syms0 syms1 n m q v w is a = subst (Within ops0 ops1 syms0 syms1 n m q) (sym is) a

module _ (scale : Scale) (ops0 ops1 : List Op) (syms0 syms1 : List Symbol) where
  -- ---- constants

  -- a constant of its own, or one that is there
  constant_within : (ty : Ty) → Adds ops0 ops1 syms0 syms1 0 1 (slot_count ty) → ExprWithin ops0 ops1 syms0 syms1 1 (1 + slot_count ty) (typed_node scale ty)
  constant_within ty a =
      let o = a.ops in let s = a.syms in let t = a.slots in
      record { ops = omega (arith, o); syms = omega (arith, s); slots = omega (arith, t) }

  pub int_within : (n : ℤ) → Adds ops0 ops1 syms0 syms1 0 1 (slot_count (only Int)) → ExprWithin ops0 ops1 syms0 syms1 1 (1 + slot_count (only Int)) (weight scale (e.Int n))
  int_within n a = within_as ops0 ops1 syms0 syms1 _ _ _ _ _ (weight-Int scale n) (constant_within (only Int) a)

  pub float_within : (units : ℤ) → Adds ops0 ops1 syms0 syms1 0 1 (slot_count (only Float)) → ExprWithin ops0 ops1 syms0 syms1 1 (1 + slot_count (only Float)) (weight scale (e.Float units))
  float_within units a = within_as ops0 ops1 syms0 syms1 _ _ _ _ _ (weight-Float scale units) (constant_within (only Float) a)

  pub text_within : (bytes : List ℕ) → Adds ops0 ops1 syms0 syms1 0 1 (slot_count (only Str)) → ExprWithin ops0 ops1 syms0 syms1 1 (1 + slot_count (only Str)) (weight scale (e.Text bytes))
  text_within bytes a = within_as ops0 ops1 syms0 syms1 _ _ _ _ _ (weight-Text scale bytes) (constant_within (only Str) a)

  pub exit_within : Adds ops0 ops1 syms0 syms1 1 0 0 → ExprWithin ops0 ops1 syms0 syms1 0 1 (weight scale e.Exit)
  exit_within a =
      let o = a.ops in let s = a.syms in let t = a.slots in
      within_as ops0 ops1 syms0 syms1 _ _ _ _ _ (weight-Exit scale) (record { ops = omega (arith, o); syms = omega (arith, s); slots = omega (arith, t) })

  -- the old value, a constant and the new one
  pub step_within : (step : Increment) (ty : Ty) (root : Root) → Adds ops0 ops1 syms0 syms1 2 2 (2 * slot_count ty) → ExprWithin ops0 ops1 syms0 syms1 1 (2 + 2 * slot_count ty) (weight scale (e.Step step ty root))
  step_within step ty root a =
      let o = a.ops in let s = a.syms in let t = a.slots in
      within_as ops0 ops1 syms0 syms1 _ _ _ _ _ (weight-Step scale step ty root) (record { ops = omega (arith, o); syms = omega (arith, s); slots = omega (arith, t) })

  -- parentheses add no code
  pub paren_within : (kind : Kind) (a : TypedExpr) (leaves q : ℕ) → ExprWithin ops0 ops1 syms0 syms1 leaves q (weight scale a) → ExprWithin ops0 ops1 syms0 syms1 leaves (1 + 2 * kind_slots scale.structures kind + q) (weight scale (e.Paren kind a))
  paren_within kind a leaves q c =
      let o = c.ops in let s = c.syms in let t = c.slots in
      within_as ops0 ops1 syms0 syms1 _ _ _ _ _ (weight-Paren scale kind a) (record { ops = omega (arith, o); syms = omega (arith, s); slots = omega (arith, t) })

  -- a promotion that changes nothing adds no code
  pub same_within : (ty : Ty) (a : TypedExpr) (q : ℕ) → ExprWithin ops0 ops1 syms0 syms1 1 q (weight scale a) → ExprWithin ops0 ops1 syms0 syms1 1 (1 + q) (weight scale (e.Promote ty a))
  same_within ty a q c =
      let o = c.ops in let s = c.syms in let t = c.slots in
      within_as ops0 ops1 syms0 syms1 _ _ _ _ _ (weight-Promote scale ty a) (record { ops = omega (arith, o); syms = omega (arith, s); slots = omega (arith, t) })

module _ (scale : Scale) (ops0 ops1 ops2 : List Op) (syms0 syms1 syms2 : List Symbol) where
  -- a promotion has a slot of its own; the others are what the operand leaves
  pub promote_within : (ty : Ty) (a : TypedExpr) (q r : ℕ) → slot_count ty + r ≤ 1 + q → ExprWithin ops0 ops1 syms0 syms1 1 q (weight scale a) → Adds ops1 ops2 syms1 syms2 1 1 (slot_count ty) → ExprWithin ops0 ops2 syms0 syms2 1 r (weight scale (e.Promote ty a))
  promote_within ty a q r le c d =
      let o = c.ops in let s = c.syms in let t = c.slots in let o1 = d.ops in let s1 = d.syms in let t1 = d.slots in
      within_as ops0 ops2 syms0 syms2 _ _ _ _ _ (weight-Promote scale ty a) (record { ops = omega (arith, o, o1); syms = omega (arith, s, s1); slots = omega (arith, t, t1, le) })

  -- an operation: its operands, and one op that writes a symbol of its own, or a target
  pub apply_within : (op : OpName) (ty : Ty) (operands : List TypedExpr) (n m q : ℕ) → Within ops0 ops1 syms0 syms1 n m q (all_of (map (weight scale) operands)) → Adds ops1 ops2 syms1 syms2 1 1 (slot_count ty) → ExprWithin ops0 ops2 syms0 syms2 1 (1 + slot_count ty + q) (weight scale (e.Apply op ty operands))
  apply_within op ty operands n m q c d =
      let o = c.ops in let s = c.syms in let t = c.slots in let o1 = d.ops in let s1 = d.syms in let t1 = d.slots in
      within_as ops0 ops2 syms0 syms2 _ _ _ _ _ (weight-Apply scale op ty operands) (record { ops = omega (arith, o, o1); syms = omega (arith, s, s1); slots = omega (arith, t, t1) })

-- `&&` and `||`: what is added between the operands and after them is five ops and three symbols
module _ (scale : Scale) (ops0 opsA opsT opsB ops1 : List Op) (syms0 symsA symsT symsB syms1 : List Symbol) (a b : TypedExpr) (qa qb x y : ℕ) (few : x + y ≤ 5) (first : ExprWithin ops0 opsA syms0 symsA 1 qa (weight scale a)) (between : Adds opsA opsT symsA symsT x 2 2) (second : ExprWithin opsT opsB symsT symsB 1 qb (weight scale b)) (after : Adds opsB ops1 symsB syms1 y 1 1) where
  both_within : (w : Weight) → w.size ≡ 4 + (weight scale a).size + (weight scale b).size → w.slots ≡ 3 + (weight scale a).slots + (weight scale b).slots → ExprWithin ops0 ops1 syms0 syms1 1 (qa + qb) w
  both_within w size slots =
      let o = first.ops in let s = first.syms in let t = first.slots in let o1 = between.ops in let s1 = between.syms in let t1 = between.slots in
      let o2 = second.ops in let s2 = second.syms in let t2 = second.slots in let o3 = after.ops in let s3 = after.syms in let t3 = after.slots in
      record { ops = omega (arith, o, o1, o2, o3, size, few); syms = omega (arith, s, s1, s2, s3, size); slots = omega (arith, t, t1, t2, t3, slots) }

  pub and_within : ExprWithin ops0 ops1 syms0 syms1 1 (qa + qb) (weight scale (e.And a b))
  and_within = within_as ops0 ops1 syms0 syms1 _ _ _ _ _ (weight-And scale a b) (both_within _ refl refl)

  pub or_within : ExprWithin ops0 ops1 syms0 syms1 1 (qa + qb) (weight scale (e.Or a b))
  or_within = within_as ops0 ops1 syms0 syms1 _ _ _ _ _ (weight-Or scale a b) (both_within _ refl refl)

-- `?:`: its test, which takes a `not` and a symbol for it where it is a float's; the symbols of the value; and a move of each leaf in both parts
pub choose_within : (scale : Scale) (ops0 opsC opsT opsA opsN opsB ops1 : List Op) (syms0 symsC symsT symsA symsN symsB syms1 : List Symbol) (kind : Kind) (c a b : TypedExpr) (qc qa qb : ℕ)
    → ExprWithin ops0 opsC syms0 symsC 1 qc (weight scale c)
    → Adds opsC opsT symsC symsT 2 (1 + leaf_count scale.structures kind) (1 + kind_slots scale.structures kind)
    → ExprWithin opsT opsA symsT symsA (leaf_count scale.structures kind) qa (weight scale a)
    → Adds opsA opsN symsA symsN (leaf_count scale.structures kind) 0 0
    → ExprWithin opsN opsB symsN symsB (leaf_count scale.structures kind) qb (weight scale b)
    → Adds opsB ops1 symsB syms1 (leaf_count scale.structures kind) 0 0
    → ExprWithin ops0 ops1 syms0 syms1 (leaf_count scale.structures kind) (kind_slots scale.structures kind + qc + qa + qb) (weight scale (e.Choose kind c a b))
choose_within scale ops0 opsC opsT opsA opsN opsB ops1 syms0 symsC symsT symsA symsN symsB syms1 kind c a b qc qa qb test between first moved second after =
    let o = test.ops in let s = test.syms in let t = test.slots in let o1 = between.ops in let s1 = between.syms in let t1 = between.slots in
    let o2 = first.ops in let s2 = first.syms in let t2 = first.slots in let o3 = moved.ops in let s3 = moved.syms in let t3 = moved.slots in
    let o4 = second.ops in let s4 = second.syms in let t4 = second.slots in let o5 = after.ops in let s5 = after.syms in let t5 = after.slots in
    within_as ops0 ops1 syms0 syms1 _ _ _ _ _ (weight-Choose scale kind c a b) (record {
      ops = omega (arith, o, o1, o2, o3, o4, o5, size_fair scale.structures kind);
      syms = omega (arith, s, s1, s2, s3, s4, s5, size_fair scale.structures kind);
      slots = omega (arith, t, t1, t2, t3, t4, t5);
    })
