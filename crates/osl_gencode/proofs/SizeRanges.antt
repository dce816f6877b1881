-- Sizes of branches and loops.
use Rattle.std.proofs.Common.{ℕ, ◌+◌, ◌≤◌, List, [], ◌++◌, Option, Some, None, arith}
use Rattle.osl_typed.specs.declared.expr.TypedExpr.{TypedExpr}
use Rattle.osl_typed.specs.declared.stmt.Declared.{Declared}
use Rattle.osl_typed.specs.declared.stmt.TypedForStart.{TypedForStart}
use Rattle.osl_typed.specs.declared.stmt.TypedForStart.TheVariants as start
use Rattle.osl_typed.specs.declared.stmt.TypedStmt.{TypedStmt}
use Rattle.osl_typed.specs.declared.stmt.TypedStmt.TheVariants as s
use Rattle.osl_typed.specs.Sizes.{Scale, weight, maybe_weight, start_weight, weight_done, all_declared}
use Rattle.osl_typed.proofs.WeightLaws.{done-If, done-If-Else, done-While, done-DoWhile, done-For}
use Rattle.oso_code.specs.declared.op.Op.{Op}
use Rattle.oso_code.specs.declared.symbol.Symbol.{Symbol}
use Rattle.osl_gencode.specs.Sizes.{Adds, Within, ExprWithin, StmtWithin}
use Rattle.osl_gencode.proofs.SizeNodes.{within_as}
use Rattle.osl_gencode.proofs.SizeStatements.{declared_more, declared_slots_more}

-- ---- tests

-- The test of a loop leaves nothing to ask for: where it is an int's, it is there; a float's is turned twice, by two ops on one symbol.
pub test_within : (scale : Scale) (ops0 ops1 ops2 : List Op) (syms0 syms1 syms2 : List Symbol) (c : TypedExpr) (q r : ℕ) → r + 1 ≤ q → ExprWithin ops0 ops1 syms0 syms1 1 q (weight scale c) → Adds ops1 ops2 syms1 syms2 2 1 1 → Within ops0 ops2 syms0 syms2 0 0 r (weight scale c)
test_within scale ops0 ops1 ops2 syms0 syms1 syms2 c q r le a b =
    let o = a.ops in let s = a.syms in let t = a.slots in let o1 = b.ops in let s1 = b.syms in let t1 = b.slots in
    record { ops = omega (arith, o, o1); syms = omega (arith, s, s1); slots = omega (arith, t, t1, le) }

-- ---- branches

module _ (scale : Scale) (c : TypedExpr) (a b : TypedStmt) (ops0 opsC opsT opsA opsB : List Op) (syms0 symsC symsT symsA symsB : List Symbol) (q n : ℕ) (ds : List Declared) (some : 1 ≤ n) (enough : 1 ≤ q) (test : ExprWithin ops0 opsC syms0 symsC 1 q (weight scale c)) (between : Adds opsC opsT symsC symsT 2 1 1) (first : StmtWithin scale.structures opsT opsA symsT symsA n ds (weight_done scale a)) where
  -- the op itself, and a `not` where the condition is a float
  pub if_within : StmtWithin scale.structures ops0 opsA syms0 symsA 1 ds (weight_done scale (s.If c a None))
  if_within =
      let o = test.ops in let s = test.syms in let t = test.slots in let o1 = between.ops in let s1 = between.syms in let t1 = between.slots in
      let o2 = first.ops in let s2 = first.syms in let t2 = first.slots in
      within_as ops0 opsA syms0 symsA _ _ _ _ _ (done-If scale c a) (record { ops = omega (arith, o, o1, o2); syms = omega (arith, s, s1, s2); slots = omega (arith, t, t1, t2, enough) })

  pub if_else_within : (k : ℕ) (es : List Declared) → StmtWithin scale.structures opsA opsB symsA symsB k es (weight_done scale b) → StmtWithin scale.structures ops0 opsB syms0 symsB 1 (ds ++ es) (weight_done scale (s.If c a (Some b)))
  if_else_within k es second =
      let o = test.ops in let s = test.syms in let t = test.slots in let o1 = between.ops in let s1 = between.syms in let t1 = between.slots in
      let o2 = first.ops in let s2 = first.syms in let t2 = first.slots in let o3 = second.ops in let s3 = second.syms in let t3 = second.slots in
      let l = declared_more scale.structures ds es in let h = declared_slots_more scale.structures ds es in
      within_as ops0 opsB syms0 symsB _ _ _ _ _ (done-If-Else scale c a b) (record { ops = omega (arith, o, o1, o2, o3, l); syms = omega (arith, s, s1, s2, s3, l); slots = omega (arith, t, t1, t2, t3, h, enough) })

-- ---- loops

-- an op, the test and the body
pub while_within : (scale : Scale) (c : TypedExpr) (a : TypedStmt) (ops0 opsX opsC opsA : List Op) (syms0 symsX symsC symsA : List Symbol) (n : ℕ) (ds : List Declared)
    → Adds ops0 opsX syms0 symsX 1 0 0 → Within opsX opsC symsX symsC 0 0 0 (weight scale c) → StmtWithin scale.structures opsC opsA symsC symsA n ds (weight_done scale a)
    → StmtWithin scale.structures ops0 opsA syms0 symsA 1 ds (weight_done scale (s.While c a))
while_within scale c a ops0 opsX opsC opsA syms0 symsX symsC symsA n ds x test body =
    let o = x.ops in let s = x.syms in let t = x.slots in let o1 = test.ops in let s1 = test.syms in let t1 = test.slots in let o2 = body.ops in let s2 = body.syms in let t2 = body.slots in
    within_as ops0 opsA syms0 symsA _ _ _ _ _ (done-While scale c a) (record { ops = omega (arith, o, o1, o2); syms = omega (arith, s, s1, s2); slots = omega (arith, t, t1, t2) })

pub do_within : (scale : Scale) (c : TypedExpr) (a : TypedStmt) (ops0 opsX opsA opsC : List Op) (syms0 symsX symsA symsC : List Symbol) (n : ℕ) (ds : List Declared)
    → Adds ops0 opsX syms0 symsX 1 0 0 → StmtWithin scale.structures opsX opsA symsX symsA n ds (weight_done scale a) → Within opsA opsC symsA symsC 0 0 0 (weight scale c)
    → StmtWithin scale.structures ops0 opsC syms0 symsC 1 ds (weight_done scale (s.DoWhile a c))
do_within scale c a ops0 opsX opsA opsC syms0 symsX symsA symsC n ds x body test =
    let o = x.ops in let s = x.syms in let t = x.slots in let o1 = test.ops in let s1 = test.syms in let t1 = test.slots in let o2 = body.ops in let s2 = body.syms in let t2 = body.slots in
    within_as ops0 opsC syms0 symsC _ _ _ _ _ (done-DoWhile scale a c) (record { ops = omega (arith, o, o1, o2); syms = omega (arith, s, s1, s2); slots = omega (arith, t, t1, t2) })

-- what starts a `for`: nothing, an expression, or declarations
pub no_start : (scale : Scale) (ops : List Op) (syms : List Symbol) → StmtWithin scale.structures ops ops syms syms 0 [] (start_weight scale start.Nothing)
no_start scale ops syms = record { ops = omega arith; syms = omega arith; slots = omega arith }

pub expr_start : (scale : Scale) (a : TypedExpr) (ops0 ops1 : List Op) (syms0 syms1 : List Symbol) (leaves q : ℕ) → ExprWithin ops0 ops1 syms0 syms1 leaves q (weight scale a) → StmtWithin scale.structures ops0 ops1 syms0 syms1 0 [] (start_weight scale (start.Expr a))
expr_start scale a ops0 ops1 syms0 syms1 leaves q c =
    let o = c.ops in let s = c.syms in let t = c.slots in
    record { ops = omega (arith, o); syms = omega (arith, s); slots = omega (arith, t) }

pub declared_start : (scale : Scale) (es : List Declared) (ops0 ops1 : List Op) (syms0 syms1 : List Symbol) → StmtWithin scale.structures ops0 ops1 syms0 syms1 0 es (all_declared scale es) → StmtWithin scale.structures ops0 ops1 syms0 syms1 0 es (start_weight scale (start.Declare es))
declared_start scale es ops0 ops1 syms0 syms1 c = c

-- a part of a `for` that is an expression, which leaves nothing to ask for, and one that is missing
pub some_part : (scale : Scale) (a : TypedExpr) (ops0 ops1 : List Op) (syms0 syms1 : List Symbol) (n m q : ℕ) → Within ops0 ops1 syms0 syms1 n m q (weight scale a) → Within ops0 ops1 syms0 syms1 0 0 0 (maybe_weight scale (Some a))
some_part scale a ops0 ops1 syms0 syms1 n m q c =
    let o = c.ops in let s = c.syms in let t = c.slots in
    record { ops = omega (arith, o); syms = omega (arith, s); slots = omega (arith, t) }

pub no_part : (scale : Scale) (ops : List Op) (syms : List Symbol) → Within ops ops syms syms 0 0 0 (maybe_weight scale None)
no_part scale ops syms = record { ops = omega arith; syms = omega arith; slots = omega arith }

-- Its start, an op, the test, the body and the step. Where there is no test, a constant that always holds stands for it: its slot is the body's to give.
pub for_within : (scale : Scale) (x : TypedForStart) (c step : Option TypedExpr) (a : TypedStmt) (ops0 opsS opsX opsC opsA opsE : List Op) (syms0 symsS symsX symsC symsA symsE : List Symbol) (n : ℕ) (ds es : List Declared) → 1 ≤ n
    → StmtWithin scale.structures ops0 opsS syms0 symsS 0 es (start_weight scale x) → Adds opsS opsX symsS symsX 1 1 1
    → Within opsX opsC symsX symsC 0 0 0 (maybe_weight scale c) → StmtWithin scale.structures opsC opsA symsC symsA n ds (weight_done scale a) → Within opsA opsE symsA symsE 0 0 0 (maybe_weight scale step)
    → StmtWithin scale.structures ops0 opsE syms0 symsE 1 (es ++ ds) (weight_done scale (s.For x c step a))
for_within scale x c step a ops0 opsS opsX opsC opsA opsE syms0 symsS symsX symsC symsA symsE n ds es some begin between test body next =
    let o = begin.ops in let s = begin.syms in let t = begin.slots in let o1 = between.ops in let s1 = between.syms in let t1 = between.slots in
    let o2 = test.ops in let s2 = test.syms in let t2 = test.slots in let o3 = body.ops in let s3 = body.syms in let t3 = body.slots in let o4 = next.ops in let s4 = next.syms in let t4 = next.slots in
    let l = declared_more scale.structures es ds in let h = declared_slots_more scale.structures es ds in
    within_as ops0 opsE syms0 symsE _ _ _ _ _ (done-For scale x c step a) (record { ops = omega (arith, o, o1, o2, o3, o4, l); syms = omega (arith, s, s1, s2, s3, s4, l); slots = omega (arith, t, t1, t2, t3, t4, h, some) })
