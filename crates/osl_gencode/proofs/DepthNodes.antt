-- The ranges of a part's code lie no deeper than those of the whole, and where they are ranges of an op of the whole, one less deep.
use Rattle.std.proofs.Common.{◌≡◌, ℕ, zero, suc, ◌+◌, ◌*◌, ◌≤◌, List, [], ◌∷◌, map, Some, None, ap, arith, Option}
use Rattle.std.specs.Prelude.{slice_get, max}
use Rattle.osl_value.specs.declared.op_name.OpName.{OpName}
use Rattle.osl_value.specs.declared.types.Ty.{Ty}
use Rattle.osl_overload.specs.declared.signature.Kind.{Kind}
use Rattle.osl_typed.specs.declared.expr.Argument.{Argument}
use Rattle.osl_typed.specs.declared.expr.Argument.TheVariants as arguments
use Rattle.osl_typed.specs.declared.expr.Part.{Part}
use Rattle.osl_typed.specs.declared.expr.Root.{Root}
use Rattle.osl_typed.specs.declared.stmt.Declared.{Declared}
use Rattle.osl_typed.specs.declared.stmt.TypedInit.{TypedInit}
use Rattle.osl_typed.specs.declared.stmt.TypedInit.TheVariants as init
use Rattle.osl_typed.specs.declared.expr.TypedExpr.{TypedExpr}
use Rattle.osl_typed.specs.declared.expr.TypedExpr.TheVariants as e
use Rattle.osl_typed.specs.declared.shader.TypedFunction.{TypedFunction}
use Rattle.osl_typed.specs.declared.sizes.Weight.{Weight}
use Rattle.osl_typed.specs.declared.stmt.TypedForStart.{TypedForStart}
use Rattle.osl_typed.specs.declared.stmt.TypedStmt.{TypedStmt}
use Rattle.osl_typed.specs.declared.stmt.TypedStmt.TheVariants as s
use Rattle.osl_typed.specs.Sizes.{Scale, all_of, start_weight, maybe_weight, weight, weight_done, weight_passed, formal_weight, body_weight, call_weight, init_weight, maybe_init, declared_weight}
use Rattle.osl_typed.proofs.WeightLaws.{weight-Paren, weight-Promote, weight-Apply, weight-And, weight-Or, weight-Choose, weight-Call, weight-In, done-Block, done-Expr, done-Return, done-If, done-If-Else, done-While, done-DoWhile, done-For, weight-Variable, weight-PartOf, weight-Assign, weight-Update, weight-Out, done-Declare}
use Rattle.osl_welltyped.specs.Measures.{by_height, greatest_of, start_measured, maybe_measured, measured, argument_measured, stmt_measured, body_measured, init_measured, begun_measured}
use Rattle.osl_welltyped.proofs.MeasureLaws.{measured-Paren, measured-Promote, measured-Apply, measured-And, measured-Or, measured-Choose, measured-Call, measured-In, measured-Variable, measured-PartOf, measured-Assign, measured-Update, measured-Out}
use Rattle.osl_welltyped.proofs.StatementNodes.{measured-Block, measured-Expr, measured-Return, measured-If, measured-If-else, measured-While, measured-DoWhile, measured-For, measured-Declare}
use Rattle.osl_gencode.specs.Depths.{call_depth, expr_depth, stmt_depth, body_depth}

-- ---- greatest numbers

left : (m n : ℕ) → m ≤ max m n
left m n = omega arith

right : (m n : ℕ) → n ≤ max m n
right m n = omega arith

-- an element is no greater than the greatest
least_all : {A : Type 0} (f : A → ℕ) (xs : List A) (k : ℕ) (x : A) → slice_get xs k ≡ Some x → f x ≤ greatest_of (map f xs)
least_all f [] k x at = absurd (cc at)
least_all f (y ∷ xs) zero x at =
    let s : Some y ≡ Some x = at in let q : y ≡ x = cc s in let z : f y ≡ f x = ap f q in
    let h = left (f y) (greatest_of (map f xs)) in omega (arith, h, z)
least_all f (y ∷ xs) (suc k) x at =
    let h = least_all f xs k x at in let r = right (f y) (greatest_of (map f xs)) in omega (arith, h, r)

-- nor are its calls
least_calls : {A : Type 0} (f : A → Weight) (xs : List A) (k : ℕ) (x : A) → slice_get xs k ≡ Some x → (f x).calls ≤ (all_of (map f xs)).calls
least_calls f [] k x at = absurd (cc at)
least_calls f (y ∷ xs) zero x at =
    let s : Some y ≡ Some x = at in let q : y ≡ x = cc s in let z : (f y).calls ≡ (f x).calls = ap (λ v. (f v).calls) q in
    let h = left (f y).calls (all_of (map f xs)).calls in omega (arith, h, z)
least_calls f (y ∷ xs) (suc k) x at =
    let h = least_calls f xs k x at in let r = right (f y).calls (all_of (map f xs)).calls in omega (arith, h, r)

-- d more, by the calls and by the height
deeper : (d c c1 h h1 : ℕ) → c ≤ c1 → d + h ≤ h1 → d + (call_depth * c + h) ≤ call_depth * c1 + h1
deeper d c c1 h h1 l m = omega (arith, l, m)

level : (c c1 h h1 : ℕ) → c ≤ c1 → h ≤ h1 → call_depth * c + h ≤ call_depth * c1 + h1
level c c1 h h1 l m = omega (arith, l, m)

module _ (scale : Scale) where
  -- ---- expressions

  pub depth_paren : (kind : Kind) (a : TypedExpr) → expr_depth scale a ≤ expr_depth scale (e.Paren kind a)
  depth_paren kind a =
      let c = ap (λ w. w.calls) (weight-Paren scale kind a) in let m = measured-Paren by_height kind a in
      let r = right 0 (weight scale a).calls in let g = right 1 (measured by_height a) in
      level (weight scale a).calls (weight scale (e.Paren kind a)).calls (measured by_height a) (measured by_height (e.Paren kind a)) (omega (arith, c, r)) (omega (arith, m, g))

  pub depth_promote : (ty : Ty) (a : TypedExpr) → expr_depth scale a ≤ expr_depth scale (e.Promote ty a)
  depth_promote ty a =
      let c = ap (λ w. w.calls) (weight-Promote scale ty a) in let m = measured-Promote by_height ty a in
      let r = right 0 (weight scale a).calls in
      level (weight scale a).calls (weight scale (e.Promote ty a)).calls (measured by_height a) (measured by_height (e.Promote ty a)) (omega (arith, c, r)) (omega (arith, m))

  pub depth_operand : (op : OpName) (ty : Ty) (xs : List TypedExpr) (k : ℕ) (x : TypedExpr) → slice_get xs k ≡ Some x → expr_depth scale x ≤ expr_depth scale (e.Apply op ty xs)
  depth_operand op ty xs k x at =
      let c = ap (λ w. w.calls) (weight-Apply scale op ty xs) in let m = measured-Apply by_height op ty xs in
      let r = right 0 (all_of (map (weight scale) xs)).calls in let g = right 1 (greatest_of (map (measured by_height) xs)) in
      let lc = least_calls (weight scale) xs k x at in let lm = least_all (measured by_height) xs k x at in
      level (weight scale x).calls (weight scale (e.Apply op ty xs)).calls (measured by_height x) (measured by_height (e.Apply op ty xs)) (omega (arith, c, r, lc)) (omega (arith, m, g, lm))

  -- two operands, the second of which is evaluated in a range
  two : (x a b : TypedExpr) → (weight scale x).calls ≡ max (max 0 (weight scale a).calls) (weight scale b).calls → measured by_height x ≡ max 1 (max (measured by_height a) (measured by_height b)) + 1 → (1 + expr_depth scale a ≤ expr_depth scale x) × (1 + expr_depth scale b ≤ expr_depth scale x)
  two x a b c m =
      let l = left (max 0 (weight scale a).calls) (weight scale b).calls in let r = right (max 0 (weight scale a).calls) (weight scale b).calls in let z = right 0 (weight scale a).calls in
      let o = right 1 (max (measured by_height a) (measured by_height b)) in let p = left (measured by_height a) (measured by_height b) in let q = right (measured by_height a) (measured by_height b) in (
        deeper 1 (weight scale a).calls (weight scale x).calls (measured by_height a) (measured by_height x) (omega (arith, c, l, z)) (omega (arith, m, o, p)),
        deeper 1 (weight scale b).calls (weight scale x).calls (measured by_height b) (measured by_height x) (omega (arith, c, r)) (omega (arith, m, o, q)),
      )

  pub depth_and : (a b : TypedExpr) → (1 + expr_depth scale a ≤ expr_depth scale (e.And a b)) × (1 + expr_depth scale b ≤ expr_depth scale (e.And a b))
  depth_and a b = two (e.And a b) a b (ap (λ w. w.calls) (weight-And scale a b)) (measured-And by_height a b)

  pub depth_or : (a b : TypedExpr) → (1 + expr_depth scale a ≤ expr_depth scale (e.Or a b)) × (1 + expr_depth scale b ≤ expr_depth scale (e.Or a b))
  depth_or a b = two (e.Or a b) a b (ap (λ w. w.calls) (weight-Or scale a b)) (measured-Or by_height a b)

  pub depth_choose : (kind : Kind) (c a b : TypedExpr) → (1 + expr_depth scale c ≤ expr_depth scale (e.Choose kind c a b)) × (1 + expr_depth scale a ≤ expr_depth scale (e.Choose kind c a b)) × (1 + expr_depth scale b ≤ expr_depth scale (e.Choose kind c a b))
  depth_choose kind c a b =
      let w = ap (λ v. v.calls) (weight-Choose scale kind c a b) in let m = measured-Choose by_height kind c a b in
      let x = e.Choose kind c a b in
      let wc = (weight scale c).calls in let wa = (weight scale a).calls in let wb = (weight scale b).calls in
      let hc = measured by_height c in let ha = measured by_height a in let hb = measured by_height b in
      let l1 = right 0 wc in let l2 = left (max 0 wc) wa in let l3 = right (max 0 wc) wa in let l4 = left (max (max 0 wc) wa) wb in let l5 = right (max (max 0 wc) wa) wb in
      let m1 = left ha hb in let m2 = right ha hb in let m3 = left hc (max ha hb) in let m4 = right hc (max ha hb) in let m5 = right 1 (max hc (max ha hb)) in (
        deeper 1 wc (weight scale x).calls hc (measured by_height x) (omega (arith, w, l1, l2, l4)) (omega (arith, m, m3, m5)),
        deeper 1 wa (weight scale x).calls ha (measured by_height x) (omega (arith, w, l3, l4)) (omega (arith, m, m1, m4, m5)),
        deeper 1 wb (weight scale x).calls hb (measured by_height x) (omega (arith, w, l5)) (omega (arith, m, m2, m4, m5)),
      )

  -- ---- calls

  pub depth_argument : (f : ℕ) (kind : Kind) (args : List Argument) (k : ℕ) (x : TypedExpr) → slice_get args k ≡ Some (arguments.In x) → expr_depth scale x ≤ expr_depth scale (e.Call f kind args)
  depth_argument f kind args k x at =
      let c = ap (λ w. w.calls) (weight-Call scale f kind args) in let m = measured-Call by_height f kind args in
      let all = (all_of (map (weight_passed scale) args)).calls in
      let r = right 0 all in let l = left (max 0 all) (scale.calls f).calls in let g = right 1 (greatest_of (map (argument_measured by_height) args)) in
      let lc = least_calls (weight_passed scale) args k (arguments.In x) at in let lm = least_all (argument_measured by_height) args k (arguments.In x) at in
      let ic = ap (λ w. w.calls) (weight-In scale x) in let im = measured-In by_height x in
      level (weight scale x).calls (weight scale (e.Call f kind args)).calls (measured by_height x) (measured by_height (e.Call f kind args)) (omega (arith, c, r, l, lc, ic)) (omega (arith, m, g, lm, im))

  -- the body of a called function, which is no higher than a source
  pub depth_call : (f : ℕ) (kind : Kind) (args : List Argument) (calls : ℕ → Weight) (fn : TypedFunction) → scale.calls f ≡ call_weight scale.structures calls fn → body_measured by_height fn.body + 1 ≤ call_depth → 1 + body_depth (record { structures = scale.structures; kinds = fn.frame; calls = calls }) fn.body ≤ expr_depth scale (e.Call f kind args)
  depth_call f kind args calls fn is low =
      let inside : Scale = record { structures = scale.structures; kinds = fn.frame; calls = calls } in
      let c = ap (λ w. w.calls) (weight-Call scale f kind args) in
      let all = (all_of (map (weight_passed scale) args)).calls in
      let r = right (max 0 all) (scale.calls f).calls in
      let n = ap (λ w. w.calls) is in
      let q = right (all_of (map (formal_weight scale.structures) fn.formals)).calls (body_weight inside fn.body).calls in
      omega (arith, c, r, n, q, low)

  -- ---- statements

  pub depth_expr : (a : TypedExpr) → expr_depth scale a ≤ stmt_depth scale (s.Expr a)
  depth_expr a =
      let c = ap (λ w. w.calls) (done-Expr scale a) in let m = measured-Expr by_height a in
      let r = right 0 (weight scale a).calls in let g = right 1 (measured by_height a) in
      level (weight scale a).calls (weight_done scale (s.Expr a)).calls (measured by_height a) (stmt_measured by_height (s.Expr a)) (omega (arith, c, r)) (omega (arith, m, g))

  pub depth_return : (a : TypedExpr) → expr_depth scale a ≤ stmt_depth scale (s.Return (Some a))
  depth_return a =
      let c = ap (λ w. w.calls) (done-Return scale (Some a)) in let m = measured-Return by_height (Some a) in
      let r = right 0 (weight scale a).calls in let g = right 1 (measured by_height a) in
      level (weight scale a).calls (weight_done scale (s.Return (Some a))).calls (measured by_height a) (stmt_measured by_height (s.Return (Some a))) (omega (arith, c, r)) (omega (arith, m, g))

  -- the statements of a body, and those of a block
  pub depth_body : (body : List TypedStmt) (k : ℕ) (x : TypedStmt) → slice_get body k ≡ Some x → stmt_depth scale x ≤ body_depth scale body
  depth_body body k x at =
      let lc = least_calls (weight_done scale) body k x at in let lm = least_all (stmt_measured by_height) body k x at in
      level (weight_done scale x).calls (body_weight scale body).calls (stmt_measured by_height x) (body_measured by_height body) lc lm

  pub depth_block : (all : List TypedStmt) → body_depth scale all ≤ stmt_depth scale (s.Block all)
  depth_block all =
      let c = ap (λ w. w.calls) (done-Block scale all) in let m = measured-Block by_height all in
      let r = right 0 (body_weight scale all).calls in let g = right 1 (body_measured by_height all) in
      level (body_weight scale all).calls (weight_done scale (s.Block all)).calls (body_measured by_height all) (stmt_measured by_height (s.Block all)) (omega (arith, c, r)) (omega (arith, m, g))

  pub depth_while : (c : TypedExpr) (a : TypedStmt) → (1 + expr_depth scale c ≤ stmt_depth scale (s.While c a)) × (1 + stmt_depth scale a ≤ stmt_depth scale (s.While c a))
  depth_while c a =
      let w = ap (λ v. v.calls) (done-While scale c a) in let m = measured-While by_height c a in
      let wc = (weight scale c).calls in let wa = (weight_done scale a).calls in let hc = measured by_height c in let ha = stmt_measured by_height a in
      let l1 = right 0 wc in let l2 = left (max 0 wc) wa in let l3 = right (max 0 wc) wa in
      let m1 = left hc ha in let m2 = right hc ha in let m3 = right 1 (max hc ha) in (
        deeper 1 wc (weight_done scale (s.While c a)).calls hc (stmt_measured by_height (s.While c a)) (omega (arith, w, l1, l2)) (omega (arith, m, m1, m3)),
        deeper 1 wa (weight_done scale (s.While c a)).calls ha (stmt_measured by_height (s.While c a)) (omega (arith, w, l3)) (omega (arith, m, m2, m3)),
      )

  pub depth_do : (a : TypedStmt) (c : TypedExpr) → (1 + stmt_depth scale a ≤ stmt_depth scale (s.DoWhile a c)) × (1 + expr_depth scale c ≤ stmt_depth scale (s.DoWhile a c))
  depth_do a c =
      let w = ap (λ v. v.calls) (done-DoWhile scale a c) in let m = measured-DoWhile by_height a c in
      let wc = (weight scale c).calls in let wa = (weight_done scale a).calls in let hc = measured by_height c in let ha = stmt_measured by_height a in
      let l1 = right 0 wa in let l2 = left (max 0 wa) wc in let l3 = right (max 0 wa) wc in
      let m1 = left ha hc in let m2 = right ha hc in let m3 = right 1 (max ha hc) in (
        deeper 1 wa (weight_done scale (s.DoWhile a c)).calls ha (stmt_measured by_height (s.DoWhile a c)) (omega (arith, w, l1, l2)) (omega (arith, m, m1, m3)),
        deeper 1 wc (weight_done scale (s.DoWhile a c)).calls hc (stmt_measured by_height (s.DoWhile a c)) (omega (arith, w, l3)) (omega (arith, m, m2, m3)),
      )

  pub depth_if : (c : TypedExpr) (a : TypedStmt) → (1 + expr_depth scale c ≤ stmt_depth scale (s.If c a None)) × (1 + stmt_depth scale a ≤ stmt_depth scale (s.If c a None))
  depth_if c a =
      let w = ap (λ v. v.calls) (done-If scale c a) in let m = measured-If by_height c a in
      let wc = (weight scale c).calls in let wa = (weight_done scale a).calls in let hc = measured by_height c in let ha = stmt_measured by_height a in
      let l1 = right 0 wc in let l2 = left (max 0 wc) wa in let l3 = right (max 0 wc) wa in let l4 = left (max (max 0 wc) wa) 0 in
      let m1 = left ha 0 in let m2 = left hc (max ha 0) in let m3 = right hc (max ha 0) in let m4 = right 1 (max hc (max ha 0)) in (
        deeper 1 wc (weight_done scale (s.If c a None)).calls hc (stmt_measured by_height (s.If c a None)) (omega (arith, w, l1, l2, l4)) (omega (arith, m, m2, m4)),
        deeper 1 wa (weight_done scale (s.If c a None)).calls ha (stmt_measured by_height (s.If c a None)) (omega (arith, w, l3, l4)) (omega (arith, m, m1, m3, m4)),
      )

  pub depth_if_else : (c : TypedExpr) (a b : TypedStmt) → (1 + expr_depth scale c ≤ stmt_depth scale (s.If c a (Some b))) × (1 + stmt_depth scale a ≤ stmt_depth scale (s.If c a (Some b))) × (1 + stmt_depth scale b ≤ stmt_depth scale (s.If c a (Some b)))
  depth_if_else c a b =
      let x = s.If c a (Some b) in
      let w = ap (λ v. v.calls) (done-If-Else scale c a b) in let m = measured-If-else by_height c a b in
      let wc = (weight scale c).calls in let wa = (weight_done scale a).calls in let wb = (weight_done scale b).calls in let hc = measured by_height c in let ha = stmt_measured by_height a in let hb = stmt_measured by_height b in
      let l1 = right 0 wc in let l2 = left (max 0 wc) wa in let l3 = right (max 0 wc) wa in let l4 = left (max (max 0 wc) wa) wb in let l5 = right (max (max 0 wc) wa) wb in
      let m1 = left ha hb in let m2 = right ha hb in let m3 = left hc (max ha hb) in let m4 = right hc (max ha hb) in let m5 = right 1 (max hc (max ha hb)) in (
        deeper 1 wc (weight_done scale x).calls hc (stmt_measured by_height x) (omega (arith, w, l1, l2, l4)) (omega (arith, m, m3, m5)),
        deeper 1 wa (weight_done scale x).calls ha (stmt_measured by_height x) (omega (arith, w, l3, l4)) (omega (arith, m, m1, m4, m5)),
        deeper 1 wb (weight_done scale x).calls hb (stmt_measured by_height x) (omega (arith, w, l5)) (omega (arith, m, m2, m4, m5)),
      )

  -- ---- loops that have three parts

  pub depth_for : (x : TypedForStart) (c step : Option TypedExpr) (a : TypedStmt) → (1 + (call_depth * (start_weight scale x).calls + start_measured by_height x) ≤ stmt_depth scale (s.For x c step a)) × (1 + (call_depth * (maybe_weight scale c).calls + maybe_measured by_height c) ≤ stmt_depth scale (s.For x c step a)) × (1 + (call_depth * (maybe_weight scale step).calls + maybe_measured by_height step) ≤ stmt_depth scale (s.For x c step a)) × (1 + stmt_depth scale a ≤ stmt_depth scale (s.For x c step a))
  depth_for x c step a =
      let y = s.For x c step a in
      let w = ap (λ v. v.calls) (done-For scale x c step a) in let m = measured-For by_height x c step a in
      let wx = (start_weight scale x).calls in let wc = (maybe_weight scale c).calls in let ws = (maybe_weight scale step).calls in let wa = (weight_done scale a).calls in
      let hx = start_measured by_height x in let hc = maybe_measured by_height c in let hs = maybe_measured by_height step in let ha = stmt_measured by_height a in
      let l1 = right 0 wx in let l2 = left (max 0 wx) wc in let l3 = right (max 0 wx) wc in let l4 = left (max (max 0 wx) wc) ws in let l5 = right (max (max 0 wx) wc) ws in
      let l6 = left (max (max (max 0 wx) wc) ws) wa in let l7 = right (max (max (max 0 wx) wc) ws) wa in
      let m1 = left hx hc in let m2 = right hx hc in let m3 = left hs ha in let m4 = right hs ha in
      let m5 = left (max hx hc) (max hs ha) in let m6 = right (max hx hc) (max hs ha) in let m7 = right 1 (max (max hx hc) (max hs ha)) in (
        deeper 1 wx (weight_done scale y).calls hx (stmt_measured by_height y) (omega (arith, w, l1, l2, l4, l6)) (omega (arith, m, m1, m5, m7)),
        deeper 1 wc (weight_done scale y).calls hc (stmt_measured by_height y) (omega (arith, w, l3, l4, l6)) (omega (arith, m, m2, m5, m7)),
        deeper 1 ws (weight_done scale y).calls hs (stmt_measured by_height y) (omega (arith, w, l5, l6)) (omega (arith, m, m3, m6, m7)),
        deeper 1 wa (weight_done scale y).calls ha (stmt_measured by_height y) (omega (arith, w, l7)) (omega (arith, m, m4, m6, m7)),
      )

  -- ---- parts of values, and assignments

  pub depth_part : (kind : Kind) (a : TypedExpr) (part : Part) (xs : List TypedExpr) → expr_depth scale a ≤ expr_depth scale (e.PartOf kind a part xs)
  depth_part kind a part xs =
      let y = e.PartOf kind a part xs in
      let c = ap (λ w. w.calls) (weight-PartOf scale kind a part xs) in let m = measured-PartOf by_height kind a part xs in
      let o = right 1 (max (measured by_height a) (greatest_of (map (measured by_height) xs))) in let l = left (measured by_height a) (greatest_of (map (measured by_height) xs)) in
      level (weight scale a).calls (weight scale y).calls (measured by_height a) (measured by_height y) (omega (arith, c)) (omega (arith, m, o, l))

  pub depth_part_index : (kind : Kind) (a : TypedExpr) (part : Part) (xs : List TypedExpr) (k : ℕ) (x : TypedExpr) → slice_get xs k ≡ Some x → expr_depth scale x ≤ expr_depth scale (e.PartOf kind a part xs)
  depth_part_index kind a part xs k x at =
      let y = e.PartOf kind a part xs in
      let c = ap (λ w. w.calls) (weight-PartOf scale kind a part xs) in let m = measured-PartOf by_height kind a part xs in
      let o = right 1 (max (measured by_height a) (greatest_of (map (measured by_height) xs))) in let r = right (measured by_height a) (greatest_of (map (measured by_height) xs)) in
      let lc = least_calls (weight scale) xs k x at in let lm = least_all (measured by_height) xs k x at in
      level (weight scale x).calls (weight scale y).calls (measured by_height x) (measured by_height y) (omega (arith, c, lc)) (omega (arith, m, o, r, lm))

  -- an index of a variable
  least_node : (xs : List TypedExpr) (k : ℕ) (x : TypedExpr) → slice_get xs k ≡ Some x → measured by_height x ≤ max 1 (greatest_of (map by_height.node (map (measured by_height) xs)))
  least_node [] k x at = absurd (cc at)
  least_node (y ∷ xs) zero x at =
      let z : Some y ≡ Some x = at in let q : y ≡ x = cc z in let h = ap (measured by_height) q in omega (arith, h)
  least_node (y ∷ xs) (suc k) x at = let h = least_node xs k x at in omega (arith, h)

  pub depth_index : (root : Root) (part : Part) (xs : List TypedExpr) (k : ℕ) (x : TypedExpr) → slice_get xs k ≡ Some x → expr_depth scale x ≤ expr_depth scale (e.Variable root part xs)
  depth_index root part xs k x at =
      let y = e.Variable root part xs in
      let c = ap (λ w. w.calls) (weight-Variable scale root part xs) in let m = measured-Variable by_height root part xs in
      let lc = least_calls (weight scale) xs k x at in let lm = least_node xs k x at in
      level (weight scale x).calls (weight scale y).calls (measured by_height x) (measured by_height y) (omega (arith, c, lc)) (omega (arith, m, lm))

  pub depth_assigned : (root : Root) (part : Part) (xs : List TypedExpr) (a : TypedExpr) → expr_depth scale a ≤ expr_depth scale (e.Assign root part xs a)
  depth_assigned root part xs a =
      let y = e.Assign root part xs a in
      let c = ap (λ w. w.calls) (weight-Assign scale root part xs a) in let m = measured-Assign by_height root part xs a in
      level (weight scale a).calls (weight scale y).calls (measured by_height a) (measured by_height y) (omega (arith, c)) (omega (arith, m))

  pub depth_assign_index : (root : Root) (part : Part) (xs : List TypedExpr) (a : TypedExpr) (k : ℕ) (x : TypedExpr) → slice_get xs k ≡ Some x → expr_depth scale x ≤ expr_depth scale (e.Assign root part xs a)
  depth_assign_index root part xs a k x at =
      let y = e.Assign root part xs a in
      let c = ap (λ w. w.calls) (weight-Assign scale root part xs a) in let m = measured-Assign by_height root part xs a in
      let lc = least_calls (weight scale) xs k x at in let lm = least_node xs k x at in
      level (weight scale x).calls (weight scale y).calls (measured by_height x) (measured by_height y) (omega (arith, c, lc)) (omega (arith, m, lm))

  pub depth_updated : (op : OpName) (ty : Ty) (root : Root) (part : Part) (xs : List TypedExpr) (a : TypedExpr) → expr_depth scale a ≤ expr_depth scale (e.Update op ty root part xs a)
  depth_updated op ty root part xs a =
      let y = e.Update op ty root part xs a in
      let c = ap (λ w. w.calls) (weight-Update scale op ty root part xs a) in let m = measured-Update by_height op ty root part xs a in
      level (weight scale a).calls (weight scale y).calls (measured by_height a) (measured by_height y) (omega (arith, c)) (omega (arith, m))

  pub depth_update_index : (op : OpName) (ty : Ty) (root : Root) (part : Part) (xs : List TypedExpr) (a : TypedExpr) (k : ℕ) (x : TypedExpr) → slice_get xs k ≡ Some x → expr_depth scale x ≤ expr_depth scale (e.Update op ty root part xs a)
  depth_update_index op ty root part xs a k x at =
      let y = e.Update op ty root part xs a in
      let c = ap (λ w. w.calls) (weight-Update scale op ty root part xs a) in let m = measured-Update by_height op ty root part xs a in
      let lc = least_calls (weight scale) xs k x at in let lm = least_node xs k x at in
      level (weight scale x).calls (weight scale y).calls (measured by_height x) (measured by_height y) (omega (arith, c, lc)) (omega (arith, m, lm))

  -- ---- declarations, and output arguments

  -- what a declared variable begins with
  pub depth_declared : (ds : List Declared) (k : ℕ) (d : Declared) (x : TypedInit) → slice_get ds k ≡ Some d → d.init ≡ Some x → call_depth * (init_weight scale d.kind x).calls + init_measured by_height x ≤ stmt_depth scale (s.Declare ds)
  depth_declared ds k d x at is =
      let y = s.Declare ds in
      let c = ap (λ w. w.calls) (done-Declare scale ds) in let m = measured-Declare by_height ds in
      let lc = least_calls (declared_weight scale) ds k d at in let lm = least_all (λ (z : Declared). begun_measured by_height z.init) ds k d at in
      let ic = ap (λ o. (maybe_init scale d.kind o).calls) is in let im = ap (begun_measured by_height) is in
      level (init_weight scale d.kind x).calls (weight_done scale y).calls (init_measured by_height x) (stmt_measured by_height y) (omega (arith, c, lc, ic)) (omega (arith, m, lm, im))

  -- an expression as an initialiser, and an item of a list
  pub depth_item : (kind : Kind) (items : List TypedExpr) (k : ℕ) (x : TypedExpr) → slice_get items k ≡ Some x → expr_depth scale x ≤ call_depth * (init_weight scale kind (init.List items)).calls + init_measured by_height (init.List items)
  depth_item kind items k x at =
      let lc = least_calls (weight scale) items k x at in let lm = least_all (measured by_height) items k x at in
      level (weight scale x).calls (init_weight scale kind (init.List items)).calls (measured by_height x) (init_measured by_height (init.List items)) (omega (arith, lc)) (omega (arith, lm))

  -- an index of an output argument
  pub depth_output_index : (f : ℕ) (kind : Kind) (args : List Argument) (i : ℕ) (root : Root) (part : Part) (xs : List TypedExpr) (k : ℕ) (x : TypedExpr) → slice_get args i ≡ Some (arguments.Out root part xs) → slice_get xs k ≡ Some x → expr_depth scale x ≤ expr_depth scale (e.Call f kind args)
  depth_output_index f kind args i root part xs k x here at =
      let y = e.Call f kind args in
      let c = ap (λ w. w.calls) (weight-Call scale f kind args) in let m = measured-Call by_height f kind args in
      let lc = least_calls (weight_passed scale) args i (arguments.Out root part xs) here in let lm = least_all (argument_measured by_height) args i (arguments.Out root part xs) here in
      let oc = ap (λ w. w.calls) (weight-Out scale root part xs) in let om = measured-Out by_height root part xs in
      let ic = least_calls (weight scale) xs k x at in let im = least_node xs k x at in
      level (weight scale x).calls (weight scale y).calls (measured by_height x) (measured by_height y) (omega (arith, c, lc, oc, ic)) (omega (arith, m, lm, om, im))

-- ---- the whole

-- a body that is no higher than a source, with at most 16 calls open, lies within the limit of valid code
pub depth_within : (c h : ℕ) → c ≤ 16 → h ≤ 256 → call_depth * c + h ≤ 4608
depth_within c h l m = omega (arith, l, m)
