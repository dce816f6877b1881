-- Sizes of statements: declarations, branches, loops, and what they are made of.
use Rattle.std.proofs.Common.{◌≡◌, ℕ, ◌+◌, ◌*◌, List, [], ◌∷◌, ◌++◌, length, Some, None, arith}
use Rattle.std.specs.Prelude.{map}
use Rattle.osl_overload.specs.declared.signature.Kind.{Kind}
use Rattle.osl_typed.specs.declared.expr.TypedExpr.{TypedExpr}
use Rattle.osl_typed.specs.declared.shader.TypedStructure.{TypedStructure}
use Rattle.osl_typed.specs.declared.sizes.Weight.{Weight}
use Rattle.osl_typed.specs.declared.stmt.Declared.{Declared}
use Rattle.osl_typed.specs.declared.stmt.TypedInit.TheVariants as init
use Rattle.osl_typed.specs.declared.stmt.TypedStmt.{TypedStmt}
use Rattle.osl_typed.specs.declared.stmt.TypedStmt.TheVariants as s
use Rattle.osl_typed.specs.Frames.{leaf_count}
use Rattle.osl_typed.specs.Sizes.{Scale, all_of, kind_slots, valued, weight, init_weight, maybe_init, declared_weight, all_declared, statement, weight_done, ◌&◌}
use Rattle.osl_typed.proofs.WeightLaws.{done-Empty, done-Block, done-Declare, done-Expr, done-Break, done-Continue, done-Return}
use Rattle.oso_code.specs.declared.op.Op.{Op}
use Rattle.oso_code.specs.declared.symbol.Symbol.{Symbol}
use Rattle.osl_gencode.specs.Sizes.{Adds, Within, ExprWithin, StmtWithin, declared_leaves, declared_slots}
use Rattle.osl_gencode.proofs.FairLaws.{size_fair}
use Rattle.osl_gencode.proofs.SizeNodes.{within_as}
use Rattle.osl_gencode.proofs.SizeSums.{within_nothing}

-- ---- declared variables

pub declared_more : (structures : List TypedStructure) (ds es : List Declared) → declared_leaves structures (ds ++ es) ≡ declared_leaves structures ds + declared_leaves structures es
declared_more structures [] es = omega arith
declared_more structures (d ∷ ds) es = let r = declared_more structures ds es in omega (arith, r)

pub declared_slots_more : (structures : List TypedStructure) (ds es : List Declared) → declared_slots structures (ds ++ es) ≡ declared_slots structures ds + declared_slots structures es
declared_slots_more structures [] es = omega arith
declared_slots_more structures (d ∷ ds) es = let r = declared_slots_more structures ds es in omega (arith, r)

module _ (scale : Scale) (kind : Kind) (ops0 ops1 : List Op) (syms0 syms1 : List Symbol) where
  -- a declared variable without an initialiser: a move of zero to each leaf
  pub zeroed_within : Adds ops0 ops1 syms0 syms1 (leaf_count scale.structures kind) 0 0 → Within ops0 ops1 syms0 syms1 (leaf_count scale.structures kind) (2 * leaf_count scale.structures kind) (2 * kind_slots scale.structures kind) (valued scale.structures kind & maybe_init scale kind None)
  zeroed_within a =
      let o = a.ops in let s = a.syms in let t = a.slots in let f = size_fair scale.structures kind in
      record { ops = omega (arith, o, f); syms = omega (arith, s, f); slots = omega (arith, t) }

  -- with one: its code, and a move of each leaf
  pub moved_within : (opsA : List Op) (symsA : List Symbol) (a : TypedExpr) (q : ℕ) → ExprWithin ops0 opsA syms0 symsA (leaf_count scale.structures kind) q (weight scale a) → Adds opsA ops1 symsA syms1 (leaf_count scale.structures kind) 0 0
      → Within ops0 ops1 syms0 syms1 (leaf_count scale.structures kind) (2 * leaf_count scale.structures kind) (2 * kind_slots scale.structures kind) (valued scale.structures kind & init_weight scale kind (init.Expr a))
  moved_within opsA symsA a q c d =
      let o = c.ops in let s = c.syms in let t = c.slots in let o1 = d.ops in let s1 = d.syms in let t1 = d.slots in let f = size_fair scale.structures kind in
      record { ops = omega (arith, o, o1, f); syms = omega (arith, s, s1, f); slots = omega (arith, t, t1) }

  -- a brace list of a structure: its items, and a move of each leaf
  pub fields_within : (opsA : List Op) (symsA : List Symbol) (items : List TypedExpr) (n m q : ℕ) → Within ops0 opsA syms0 symsA n m q (all_of (map (weight scale) items)) → Adds opsA ops1 symsA syms1 (leaf_count scale.structures kind) 0 0
      → Within ops0 ops1 syms0 syms1 (leaf_count scale.structures kind) (2 * leaf_count scale.structures kind) (2 * kind_slots scale.structures kind) (valued scale.structures kind & init_weight scale kind (init.List items))
  fields_within opsA symsA items n m q c d =
      let o = c.ops in let s = c.syms in let t = c.slots in let o1 = d.ops in let s1 = d.syms in let t1 = d.slots in let f = size_fair scale.structures kind in
      record { ops = omega (arith, o, o1, f); syms = omega (arith, s, s1, f); slots = omega (arith, t, t1) }

  -- a brace list of an array: its items, which leave room for two ops each, a zero, and a counter with the constant that it counts by
  pub elements_within : (opsA : List Op) (symsA : List Symbol) (items : List TypedExpr) (m q : ℕ) → leaf_count scale.structures kind ≡ 1 → Within ops0 opsA syms0 symsA (2 * length items) m q (all_of (map (weight scale) items)) → Adds opsA ops1 symsA syms1 (2 + 2 * length items) 2 2
      → Within ops0 ops1 syms0 syms1 (leaf_count scale.structures kind) (2 * leaf_count scale.structures kind) (2 * kind_slots scale.structures kind) (valued scale.structures kind & init_weight scale kind (init.List items))
  elements_within opsA symsA items m q one c d =
      let o = c.ops in let s = c.syms in let t = c.slots in let o1 = d.ops in let s1 = d.syms in let t1 = d.slots in let f = size_fair scale.structures kind in
      record { ops = omega (arith, o, o1, f, one); syms = omega (arith, s, s1, f, one); slots = omega (arith, t, t1) }

-- the declarations of a list
pub declarations_none : (scale : Scale) (ops : List Op) (syms : List Symbol) → StmtWithin scale.structures ops ops syms syms 0 [] (all_declared scale [])
declarations_none scale ops syms = within_nothing ops syms

pub declarations_more : (scale : Scale) (d : Declared) (ds : List Declared) (ops0 ops1 ops2 : List Op) (syms0 syms1 syms2 : List Symbol)
    → Within ops0 ops1 syms0 syms1 (leaf_count scale.structures d.kind) (2 * leaf_count scale.structures d.kind) (2 * kind_slots scale.structures d.kind) (declared_weight scale d)
    → StmtWithin scale.structures ops1 ops2 syms1 syms2 0 ds (all_declared scale ds) → StmtWithin scale.structures ops0 ops2 syms0 syms2 0 (d ∷ ds) (all_declared scale (d ∷ ds))
declarations_more scale d ds ops0 ops1 ops2 syms0 syms1 syms2 a b =
    let o = a.ops in let o1 = b.ops in let s = a.syms in let s1 = b.syms in let t = a.slots in let t1 = b.slots in
    record { ops = omega (arith, o, o1); syms = omega (arith, s, s1); slots = omega (arith, t, t1) }

-- ---- statements that are no ranges

module _ (scale : Scale) (ops0 ops1 : List Op) (syms0 syms1 : List Symbol) where
  one_op : (w : Weight) → w.size ≡ 4 → w.slots ≡ 1 → Adds ops0 ops1 syms0 syms1 1 0 0 → StmtWithin scale.structures ops0 ops1 syms0 syms1 1 [] w
  one_op w size slots a =
      let o = a.ops in let s = a.syms in let t = a.slots in
      record { ops = omega (arith, o, size); syms = omega (arith, s, size); slots = omega (arith, t, slots) }

  pub empty_within : Adds ops0 ops1 syms0 syms1 1 0 0 → StmtWithin scale.structures ops0 ops1 syms0 syms1 1 [] (weight_done scale s.Empty)
  empty_within a = within_as ops0 ops1 syms0 syms1 _ _ _ _ _ (done-Empty scale) (one_op statement (omega arith) (omega arith) a)

  pub break_within : Adds ops0 ops1 syms0 syms1 1 0 0 → StmtWithin scale.structures ops0 ops1 syms0 syms1 1 [] (weight_done scale s.Break)
  break_within a = within_as ops0 ops1 syms0 syms1 _ _ _ _ _ (done-Break scale) (one_op statement (omega arith) (omega arith) a)

  pub continue_within : Adds ops0 ops1 syms0 syms1 1 0 0 → StmtWithin scale.structures ops0 ops1 syms0 syms1 1 [] (weight_done scale s.Continue)
  continue_within a = within_as ops0 ops1 syms0 syms1 _ _ _ _ _ (done-Continue scale) (one_op statement (omega arith) (omega arith) a)

  pub return_within : Adds ops0 ops1 syms0 syms1 1 0 0 → StmtWithin scale.structures ops0 ops1 syms0 syms1 1 [] (weight_done scale (s.Return None))
  return_within a =
      let o = a.ops in let s = a.syms in let t = a.slots in
      within_as ops0 ops1 syms0 syms1 _ _ _ _ _ (done-Return scale None) (record { ops = omega (arith, o); syms = omega (arith, s); slots = omega (arith, t) })

  pub done_within : (a : TypedExpr) (leaves q : ℕ) → ExprWithin ops0 ops1 syms0 syms1 leaves q (weight scale a) → StmtWithin scale.structures ops0 ops1 syms0 syms1 1 [] (weight_done scale (s.Expr a))
  done_within a leaves q c =
      let o = c.ops in let s = c.syms in let t = c.slots in
      within_as ops0 ops1 syms0 syms1 _ _ _ _ _ (done-Expr scale a) (record { ops = omega (arith, o); syms = omega (arith, s); slots = omega (arith, t) })

  pub declare_within : (ds : List Declared) → StmtWithin scale.structures ops0 ops1 syms0 syms1 0 ds (all_declared scale ds) → StmtWithin scale.structures ops0 ops1 syms0 syms1 1 ds (weight_done scale (s.Declare ds))
  declare_within ds c =
      let o = c.ops in let s = c.syms in let t = c.slots in
      within_as ops0 ops1 syms0 syms1 _ _ _ _ _ (done-Declare scale ds) (record { ops = omega (arith, o); syms = omega (arith, s); slots = omega (arith, t) })

  pub block_within : (all : List TypedStmt) (n : ℕ) (ds : List Declared) → StmtWithin scale.structures ops0 ops1 syms0 syms1 n ds (all_of (map (weight_done scale) all)) → StmtWithin scale.structures ops0 ops1 syms0 syms1 1 ds (weight_done scale (s.Block all))
  block_within all n ds c =
      let o = c.ops in let s = c.syms in let t = c.slots in
      within_as ops0 ops1 syms0 syms1 _ _ _ _ _ (done-Block scale all) (record { ops = omega (arith, o); syms = omega (arith, s); slots = omega (arith, t) })

-- the value is moved, a leaf at a time, and one op leaves
pub return_value_within : (scale : Scale) (ops0 opsA ops1 : List Op) (syms0 symsA syms1 : List Symbol) (a : TypedExpr) (leaves q : ℕ) → ExprWithin ops0 opsA syms0 symsA leaves q (weight scale a) → Adds opsA ops1 symsA syms1 (1 + leaves) 0 0
    → StmtWithin scale.structures ops0 ops1 syms0 syms1 1 [] (weight_done scale (s.Return (Some a)))
return_value_within scale ops0 opsA ops1 syms0 symsA syms1 a leaves q c d =
    let o = c.ops in let s = c.syms in let t = c.slots in let o1 = d.ops in let s1 = d.syms in let t1 = d.slots in
    within_as ops0 ops1 syms0 syms1 _ _ _ _ _ (done-Return scale (Some a)) (record { ops = omega (arith, o, o1); syms = omega (arith, s, s1); slots = omega (arith, t, t1) })

-- ---- statements in a row

pub stmts_none : (scale : Scale) (ops : List Op) (syms : List Symbol) → StmtWithin scale.structures ops ops syms syms 0 [] (all_of (map (weight_done scale) []))
stmts_none scale ops syms = within_nothing ops syms

pub stmts_more : (scale : Scale) (x : TypedStmt) (xs : List TypedStmt) (ops0 ops1 ops2 : List Op) (syms0 syms1 syms2 : List Symbol) (n k : ℕ) (ds es : List Declared)
    → StmtWithin scale.structures ops0 ops1 syms0 syms1 n ds (weight_done scale x) → StmtWithin scale.structures ops1 ops2 syms1 syms2 k es (all_of (map (weight_done scale) xs))
    → StmtWithin scale.structures ops0 ops2 syms0 syms2 (n + k) (ds ++ es) (all_of (map (weight_done scale) (x ∷ xs)))
stmts_more scale x xs ops0 ops1 ops2 syms0 syms1 syms2 n k ds es a b =
    let o = a.ops in let o1 = b.ops in let s = a.syms in let s1 = b.syms in let t = a.slots in let t1 = b.slots in
    let l = declared_more scale.structures ds es in let h = declared_slots_more scale.structures ds es in
    record { ops = omega (arith, o, o1, l); syms = omega (arith, s, s1, l); slots = omega (arith, t, t1, h) }
