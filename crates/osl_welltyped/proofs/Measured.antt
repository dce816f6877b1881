-- The measure of a typed expression is at most that of its source.
use Rattle.std.proofs.Common.{◌≡◌, ℕ, zero, suc, ◌≤◌, max, Bool, true, false, ◌&&◌, ◌||◌, List, [], ◌∷◌, ◌++◌, length, map, Option, Some, None, sym, ap, ◌∙◌, subst, arith}
use Rattle.std.specs.Prelude.{pos, if◌then◌else◌, ◌==◌, slice_get}
use Rattle.osl_value.specs.declared.op_name.OpName.{OpName}
use Rattle.osl_value.specs.declared.op_name.OpName.TheVariants as op
use Rattle.osl_value.specs.declared.types.Ty.{Ty}
use Rattle.osl_value.specs.AnyValue.{is_number, is_one_triple}
use Rattle.osl_value.specs.Types.{only, is_only}
use Rattle.osl_value.specs.declared.types.Base.TheVariants.{Int, Matrix}
use Rattle.osl_overload.specs.Cost.{cost}
use Rattle.osl_overload.specs.Kinds.{same_kind}
use Rattle.osl_overload.specs.declared.signature.Formal.{Formal}
use Rattle.osl_overload.specs.declared.signature.Kind.{Kind}
use Rattle.osl_overload.specs.declared.signature.Kind.TheVariants.{Value, Structure, Void}
use Rattle.osl_tree.specs.declared.expr.AssignOp.{AssignOp}
use Rattle.osl_tree.specs.declared.expr.BaseType.{BaseType}
use Rattle.osl_tree.specs.declared.expr.BinaryOp.{BinaryOp}
use Rattle.osl_tree.specs.declared.expr.BinaryOp.TheVariants as by
use Rattle.osl_tree.specs.declared.expr.PostfixOp.{PostfixOp}
use Rattle.osl_tree.specs.declared.expr.PostfixOp.TheVariants as after
use Rattle.osl_tree.specs.declared.expr.PrefixOp.{PrefixOp}
use Rattle.osl_tree.specs.declared.expr.PrefixOp.TheVariants as before
use Rattle.osl_tree.specs.declared.expr.Expr.{Expr, Expr-F, fold-Expr, fold-roll-Expr, ind-Expr, roll-Expr}
use Rattle.osl_tree.specs.declared.expr.Expr.TheFolds.{map-Expr}
use Rattle.osl_tree.specs.declared.expr.Expr.TheOpen as o
use Rattle.osl_typed.specs.declared.expr.Argument.{Argument}
use Rattle.osl_typed.specs.declared.expr.Root.{Root}
use Rattle.osl_typed.specs.declared.expr.Part.{Part}
use Rattle.osl_typed.specs.declared.expr.Increment.{Increment}
use Rattle.osl_typed.specs.declared.expr.TypedExpr.{TypedExpr}
use Rattle.osl_typed.specs.declared.expr.TypedExpr.TheVariants as e
use Rattle.osl_typed.specs.declared.found.Binding.{Binding}
use Rattle.osl_typed.specs.declared.found.Callee.{Callee}
use Rattle.osl_typed.specs.declared.found.Callee.TheVariants.{Declared, Operation, SubstrToEnd, Exit}
use Rattle.osl_typed.specs.declared.found.Form.{Form}
use Rattle.osl_typed.specs.declared.found.Form.TheVariants.{Place, Piece, Whole}
use Rattle.osl_typed.specs.declared.found.Found.{Found}
use Rattle.osl_typed.specs.Choosing.{chosen, apart}
use Rattle.osl_typed.specs.Operators as operators
use Rattle.osl_typed.specs.Operators.{operation, operator_of, base_named, is_arithmetic, is_convertible, conversion_of}
use Rattle.osl_typed.specs.Scopes.{look, field_named, StructureName, Candidate, Sight}
use Rattle.osl_typed.specs.Typing.{◌>>=◌, sequence, expression, tree_of, tree_of_form, as_argument, root_of, fit, fit_at, name, index, indexed_kind, with_index, with_component, with_field, component_of, fields_of_structure, selected_by, field, plain_type, applied, stepped, whole_variable, prefixed, postfixed, converted, cast, trees, are_numbers, made_of, construct_from, construct, operated, joined_by, binary, common, choice, Target, target_form, stored, assign, pass_to, pass_all, fit_all, formal_kinds, operation_call, called_as, longest, kinds_of, candidates, call, typing_step, found_form, typing}
use Rattle.osl_welltyped.specs.Measures.{Measure, greatest_of, place_measured, measured, argument_measured}
use Rattle.osl_welltyped.proofs.MeasureLaws.{measured-Int, measured-Float, measured-Text, measured-Variable, measured-PartOf, measured-Paren, measured-Promote, measured-Apply, measured-And, measured-Or, measured-Choose, measured-Assign, measured-Update, measured-Step, measured-Call, measured-Exit, measured-In, measured-Out}
use Rattle.osl_welltyped.proofs.Steps.{none_is_not, some_same, bound, held}
use Rattle.osl_welltyped.proofs.Suffixes.{expression_is}
use Rattle.osl_welltyped.proofs.Assignments.{target_is}
use Rattle.osl_welltyped.proofs.TypeTables.{goes_to}

-- what a measure must be
pub record IsMeasure (m : Measure) : Type 0 where
  pub more : (a b : ℕ) → a ≤ b → m.node a ≤ m.node b
  pub grows : (a : ℕ) → a ≤ m.node a
  pub leaf_low : (a : ℕ) → m.leaf ≤ m.node a
  -- the length that `substr` has where none is given
  pub longest_low : (a : ℕ) → m.node (max a (m.int (pos 512))) ≤ m.node a

-- ---- the measure of a source

abbrev pub source_step : Measure → Expr-F ℕ → ℕ
source_step m (o.Int n) = m.int n
source_step m (o.Float units) = m.float units
source_step m (o.Text bytes) = m.text bytes
source_step m (o.Name word) = m.leaf
source_step m (o.Call word args) = m.node (greatest_of args)
source_step m (o.Construct to args) = m.node (greatest_of args)
source_step m (o.Paren a) = m.node a
source_step m (o.Index a i) = m.node (max a i)
source_step m (o.Field a word) = m.node a
source_step m (o.Postfix operator a) = m.node a
source_step m (o.Prefix operator a) = m.node a
source_step m (o.Cast to a) = m.node a
source_step m (o.Binary operator a b) = m.node (max a b)
source_step m (o.Choice c a b) = m.node (max c (max a b))
source_step m (o.Assign operator a b) = m.node (max a b)

unfoldable pub source_measured : Measure → Expr → ℕ
source_measured m x = fold-Expr ℕ (source_step m) x

module _ (m : Measure) (is : IsMeasure m) where
  -- an expression's tree is at most so
  abbrev pub IsLow : Found → ℕ → Type 0
  IsLow a h = measured m (tree_of a) ≤ h

  over : (x y : ℕ) → x ≡ y → (h : ℕ) → y ≤ h → x ≤ h
  over x y e h l = subst (λ k. k ≤ h) (sym e) l

  same_low : (a b : Found) (h : ℕ) → a ≡ b → IsLow a h → IsLow b h
  same_low a b h e l = subst (λ x. IsLow x h) e l

  expression_low : (a b : Found) (h : ℕ) → IsLow a h → expression a ≡ Some b → IsLow b h
  expression_low a b h l g = same_low a b h (expression_is a b g).1 l

  node_low : (a h : ℕ) → a ≤ h → m.node a ≤ m.node h
  node_low a h l = is.more a h l

  -- ---- promotions

  fit_low_at : (kind : Kind) (tree x : TypedExpr) (c : Option ℕ) → fit_at kind tree c ≡ Some x → measured m x ≤ measured m tree
  fit_low_at kind tree x None h = none_is_not x h
  fit_low_at kind tree x (Some zero) h = let e : measured m tree ≡ measured m x = ap (measured m) (some_same tree x h) in omega arith
  fit_low_at (Value ty) tree x (Some (suc n)) h = let e : measured m x ≡ measured m tree = ap (measured m) (sym (some_same (e.Promote ty tree) x h)) ∙ measured-Promote m ty tree in omega arith
  fit_low_at (Structure j) tree x (Some (suc n)) h = none_is_not x h
  fit_low_at Void tree x (Some (suc n)) h = none_is_not x h

  pub fit_low : (kind : Kind) (a : Found) (x : TypedExpr) (h : ℕ) → IsLow a h → fit kind a ≡ Some x → measured m x ≤ h
  unfolding fit
  fit_low kind a x h l g = let f = fit_low_at kind (tree_of a) x (cost (as_argument a) kind) g in omega arith

  -- ---- suffixes

  place_low : (r : Root) (w : Bool) (part : Part) (indices : List TypedExpr) (h : ℕ) → measured m (tree_of_form (Place r w part indices)) ≤ h → place_measured m (map (measured m) indices) ≤ h
  place_low r w part indices h l = let e = measured-Variable m r part indices in omega arith

  greatest_snoc : (indices : List TypedExpr) (i : TypedExpr) (h : ℕ) → greatest_of (map m.node (map (measured m) indices)) ≤ h → m.node (measured m i) ≤ h → greatest_of (map m.node (map (measured m) (indices ++ i ∷ []))) ≤ h
  greatest_snoc [] i h a b = omega arith
  greatest_snoc (x ∷ indices) i h a b =
      let first : max (m.node (measured m x)) (greatest_of (map m.node (map (measured m) indices))) ≤ h = a in
      let rest = greatest_snoc indices i h (omega arith) b in omega arith

  plain_snoc : (indices : List TypedExpr) (i : TypedExpr) (h : ℕ) → greatest_of (map (measured m) indices) ≤ h → measured m i ≤ h → greatest_of (map (measured m) (indices ++ i ∷ [])) ≤ h
  plain_snoc [] i h a b = omega arith
  plain_snoc (x ∷ indices) i h a b =
      let first : max (measured m x) (greatest_of (map (measured m) indices)) ≤ h = a in
      let rest = plain_snoc indices i h (omega arith) b in omega arith

  index_form : (form : Form) (kind : Kind) (i : TypedExpr) (h hi : ℕ) → measured m (tree_of_form form) ≤ h → measured m i ≤ hi → measured m (tree_of_form (with_index kind i form)) ≤ m.node (max h hi)
  index_form (Place r w part indices) kind i h hi l li =
      let p : max m.leaf (greatest_of (map m.node (map (measured m) indices))) ≤ h = place_low r w part indices h l in
      let g = is.grows (max h hi) in
      let n = is.more (measured m i) (max h hi) (omega arith) in
      let s = greatest_snoc indices i (m.node (max h hi)) (omega arith) n in
      over _ _ (measured-Variable m r part (indices ++ i ∷ [])) _ (omega arith)
  index_form (Piece from a part indices) kind i h hi l li =
      let e = measured-PartOf m from a part indices in
      let g = is.grows (max (measured m a) (greatest_of (map (measured m) indices))) in
      let s = plain_snoc indices i (max h hi) (omega arith) (omega arith) in
      over _ _ (measured-PartOf m from a part (indices ++ i ∷ [])) _ (is.more _ _ (omega arith))
  index_form (Whole a) kind i h hi l li = over _ _ (measured-PartOf m kind a _ (i ∷ [])) _ (is.more _ _ (omega arith))

  -- fields and components have the indices that were there
  same_form : (form : Form) (kind : Kind) (c : ℕ) (h : ℕ) → measured m (tree_of_form form) ≤ h → measured m (tree_of_form (with_component kind c form)) ≤ m.node h
  same_form (Place r w part indices) kind c h l =
      let p : max m.leaf (greatest_of (map m.node (map (measured m) indices))) ≤ h = place_low r w part indices h l in
      let g = is.grows h in over _ _ (measured-Variable m r _ indices) _ (omega arith)
  same_form (Piece from a part indices) kind c h l = let e = measured-PartOf m from a part indices in let g = is.grows h in over _ _ (measured-PartOf m from a _ indices) _ (omega arith)
  same_form (Whole a) kind c h l = over _ _ (measured-PartOf m kind a _ []) _ (is.more _ _ (omega arith))

  field_form : (form : Form) (from : Kind) (k : ℕ) (kind : Kind) (h : ℕ) → measured m (tree_of_form form) ≤ h → measured m (tree_of_form (with_field from k kind form)) ≤ m.node h
  field_form (Place r w part indices) from k kind h l =
      let p : max m.leaf (greatest_of (map m.node (map (measured m) indices))) ≤ h = place_low r w part indices h l in
      let g = is.grows h in over _ _ (measured-Variable m r _ indices) _ (omega arith)
  field_form (Piece origin a part indices) from k kind h l = let e = measured-PartOf m origin a part indices in let g = is.grows h in over _ _ (measured-PartOf m origin a _ indices) _ (omega arith)
  field_form (Whole a) from k kind h l = over _ _ (measured-PartOf m from a _ []) _ (is.more _ _ (omega arith))

  name_low : (bindings : List Binding) (word : List ℕ) (a : Found) → name word bindings ≡ Some a → IsLow a m.leaf
  name_low bindings word a h =
      let b = bound (look word bindings) _ a h in
      same_low _ a m.leaf (some_same _ a b.goes) (over _ _ (measured-Variable m b.value.root _ []) _ (omega arith))

  index_low : (a i b : Found) (h hi : ℕ) → IsLow a h → IsLow i hi → index a i ≡ Some b → IsLow b (m.node (max h hi))
  unfolding index
  index_low a i b h hi l li g =
      let n = bound (expression i) _ b g in
      let t = held (same_kind n.value.kind operators.int) _ b n.goes in
      let to = bound (indexed_kind a.is_row a.kind) _ b (t.1) in
      same_low _ b _ (some_same _ b to.goes) (index_form a.form a.kind (tree_of n.value) h hi l (expression_low i n.value hi li n.was))

  selected_low : (structures : List StructureName) (word : List ℕ) (a b : Found) (kind : Kind) (h : ℕ) → IsLow a h → selected_by structures word a kind ≡ Some b → IsLow b (m.node h)
  selected_low structures word a b (Value ty) h l g = let c = bound (component_of ty word) _ b g in same_low _ b _ (some_same _ b c.goes) (same_form a.form a.kind c.value h l)
  selected_low structures word a b (Structure j) h l g =
      let r = bound (field_named 0 (fields_of_structure structures j) word) _ b g in same_low _ b _ (some_same _ b r.goes) (field_form a.form a.kind (r.value.0) (r.value.1) h l)
  selected_low structures word a b Void h l g = none_is_not b g

  field_low : (structures : List StructureName) (word : List ℕ) (a b : Found) (h : ℕ) → IsLow a h → field structures word a ≡ Some b → IsLow b (m.node h)
  unfolding field
  field_low structures word a b h l g = let c = bound (expression a) _ b g in selected_low structures word c.value b c.value.kind h (expression_low a c.value h l c.was) c.goes

  -- ---- operators

  apply_low : (name : OpName) (ty : Ty) (xs : List TypedExpr) (h : ℕ) → greatest_of (map (measured m) xs) ≤ h → measured m (e.Apply name ty xs) ≤ m.node h
  apply_low name ty xs h l = over _ _ (measured-Apply m name ty xs) _ (is.more _ _ l)

  applied_low : (name : OpName) (test : Ty → Bool) (gives : Ty → Ty) (a c : Found) (h : ℕ) → IsLow a h → applied name a test gives ≡ Some c → IsLow c (m.node h)
  applied_low name test gives a c h l g =
      let b = bound (expression a) _ c g in
      let ty = bound (plain_type b.value.kind) _ c b.goes in
      let t = held (test ty.value) _ c ty.goes in
      let lb = expression_low a b.value h l b.was in
      same_low _ c _ (some_same _ c (t.1)) (apply_low name (gives ty.value) (tree_of b.value ∷ []) h (omega arith))

  leaf_of_place : (form : Form) (r : Root) (h : ℕ) → whole_variable form ≡ Some r → measured m (tree_of_form form) ≤ h → m.leaf ≤ h
  leaf_of_place (Place x w part indices) r h g l = let p : max m.leaf (greatest_of (map m.node (map (measured m) indices))) ≤ h = place_low x w part indices h l in omega arith
  leaf_of_place (Piece from a part indices) r h g l = none_is_not r g
  leaf_of_place (Whole a) r h g l = none_is_not r g

  stepped_low : (step : Increment) (a c : Found) (h : ℕ) → IsLow a h → stepped step a ≡ Some c → IsLow c (m.node h)
  stepped_low step a c h l g =
      let b = bound (expression a) _ c g in
      let ty = bound (plain_type b.value.kind) _ c b.goes in
      let t = held (is_number ty.value) _ c ty.goes in
      let r = bound (whole_variable b.value.form) _ c (t.1) in
      let lb = expression_low a b.value h l b.was in
      same_low _ c _ (some_same _ c r.goes) (over _ _ (measured-Step m step ty.value r.value) _ (is.more _ _ (leaf_of_place b.value.form r.value h r.was lb)))

  prefixed_low : (p : PrefixOp) (a c : Found) (h : ℕ) → IsLow a h → prefixed p a ≡ Some c → IsLow c (m.node h)
  unfolding prefixed
  prefixed_low before.Minus a c h l g = applied_low op.Neg (λ ty. is_arithmetic ty) (λ ty. ty) a c h l g
  prefixed_low before.Plus a c h l g = applied_low op.Assign (λ ty. is_arithmetic ty) (λ ty. ty) a c h l g
  prefixed_low before.Complement a c h l g = applied_low op.Compl (is_only Int) (λ ty. ty) a c h l g
  prefixed_low before.Not a c h l g = applied_low op.Not (λ ty. is_number ty) (λ ty. only Int) a c h l g
  prefixed_low before.Increment a c h l g = stepped_low _ a c h l g
  prefixed_low before.Decrement a c h l g = stepped_low _ a c h l g

  postfixed_low : (p : PostfixOp) (a c : Found) (h : ℕ) → IsLow a h → postfixed p a ≡ Some c → IsLow c (m.node h)
  unfolding postfixed
  postfixed_low after.Increment a c h l g = stepped_low _ a c h l g
  postfixed_low after.Decrement a c h l g = stepped_low _ a c h l g

  converted_low : (to : Ty) (a c : Found) (h : ℕ) → IsLow a h → converted to a ≡ Some c → IsLow c (m.node h)
  converted_low to a c h l g =
      let b = bound (expression a) _ c g in
      let ty = bound (plain_type b.value.kind) _ c b.goes in
      let t = held (is_convertible to ty.value) _ c ty.goes in
      let lb = expression_low a b.value h l b.was in
      same_low _ c _ (some_same _ c (t.1)) (apply_low (conversion_of to ty.value) to (tree_of b.value ∷ []) h (omega arith))

  cast_low : (to : BaseType) (a c : Found) (h : ℕ) → IsLow a h → cast to a ≡ Some c → IsLow c (m.node h)
  unfolding cast
  cast_low to a c h l g = converted_low (only (base_named to)) a c h l g

  operated_low : (p : BinaryOp) (a b c : Found) (ha hb : ℕ) → IsLow a ha → IsLow b hb → operated p a b ≡ Some c → IsLow c (m.node (max ha hb))
  operated_low p a b c ha hb la lb g =
      let r = bound (operation p a.kind b.kind) _ c g in
      let left = bound (fit r.value.left a) _ c r.goes in
      let right = bound (fit r.value.right b) _ c left.goes in
      let x = fit_low r.value.left a left.value ha la left.was in
      let y = fit_low r.value.right b right.value hb lb right.was in
      same_low _ c _ (some_same _ c right.goes) (apply_low r.value.op r.value.ty (left.value ∷ right.value ∷ []) (max ha hb) (omega arith))

  joined_low : (p : BinaryOp) (a b c : Found) (ha hb : ℕ) → IsLow a ha → IsLow b hb → joined_by p a b ≡ Some c → IsLow c (m.node (max ha hb))
  joined_low by.And a b c ha hb la lb g =
      let t = held (operators.is_numeric a.kind && operators.is_numeric b.kind) _ c g in
      same_low _ c _ (some_same _ c (t.1)) (over _ _ (measured-And m (tree_of a) (tree_of b)) _ (is.more _ _ (omega arith)))
  joined_low by.Or a b c ha hb la lb g =
      let t = held (operators.is_numeric a.kind && operators.is_numeric b.kind) _ c g in
      same_low _ c _ (some_same _ c (t.1)) (over _ _ (measured-Or m (tree_of a) (tree_of b)) _ (is.more _ _ (omega arith)))
  joined_low p a b c ha hb la lb g = operated_low p a b c ha hb la lb g

  binary_low : (p : BinaryOp) (a b c : Found) (ha hb : ℕ) → IsLow a ha → IsLow b hb → binary p a b ≡ Some c → IsLow c (m.node (max ha hb))
  unfolding binary
  binary_low p a b c ha hb la lb g =
      let left = bound (expression a) _ c g in
      let right = bound (expression b) _ c left.goes in
      joined_low p left.value right.value c ha hb (expression_low a left.value ha la left.was) (expression_low b right.value hb lb right.was) right.goes

  choice_low : (t a b c : Found) (ht ha hb : ℕ) → IsLow t ht → IsLow a ha → IsLow b hb → choice t a b ≡ Some c → IsLow c (m.node (max ht (max ha hb)))
  unfolding choice
  choice_low t a b c ht ha hb lt la lb g =
      let test = bound (expression t) _ c g in
      let first = bound (expression a) _ c test.goes in
      let second = bound (expression b) _ c first.goes in
      let number = held (operators.is_numeric test.value.kind) _ c second.goes in
      let kind = bound (common first.value second.value) _ c (number.1) in
      let left = bound (fit kind.value first.value) _ c kind.goes in
      let right = bound (fit kind.value second.value) _ c left.goes in
      let x = expression_low t test.value ht lt test.was in
      let y = fit_low kind.value first.value left.value ha (expression_low a first.value ha la first.was) left.was in
      let z = fit_low kind.value second.value right.value hb (expression_low b second.value hb lb second.was) right.was in
      same_low _ c _ (some_same _ c right.goes) (over _ _ (measured-Choose m kind.value (tree_of test.value) left.value right.value) _ (is.more _ _ (omega arith)))

  target_low : (a : Found) (t : Target) (h : ℕ) → IsLow a h → target_form a.form ≡ Some t → place_measured m (map (measured m) t.indices) ≤ h
  target_low a t h l g = place_low t.root true t.part t.indices h (subst (λ form. measured m (tree_of_form form) ≤ h) (target_is a.form t g) l)

  stored_low : (p : Option BinaryOp) (a b c : Found) (t : Target) (ha hb : ℕ) → place_measured m (map (measured m) t.indices) ≤ ha → IsLow b hb → stored p a t b ≡ Some c → IsLow c (m.node (max ha hb))
  stored_low None a b c t ha hb la lb g =
      let right = bound (fit a.kind b) _ c g in
      let y = fit_low a.kind b right.value hb lb right.was in
      same_low _ c _ (some_same _ c right.goes) (over _ _ (measured-Assign m t.root t.part t.indices right.value) _ (is.more _ _ (omega arith)))
  stored_low (Some p) a b c t ha hb la lb g =
      let r = bound (operation p a.kind b.kind) _ c g in
      let right = bound (fit r.value.right b) _ c r.goes in
      let goes = held (goes_to r.value.ty a.kind) _ c right.goes in
      let y = fit_low r.value.right b right.value hb lb right.was in
      same_low _ c _ (some_same _ c (goes.1)) (over _ _ (measured-Update m r.value.op r.value.ty t.root t.part t.indices right.value) _ (is.more _ _ (omega arith)))

  assign_low : (p : AssignOp) (a b c : Found) (ha hb : ℕ) → IsLow a ha → IsLow b hb → assign p a b ≡ Some c → IsLow c (m.node (max ha hb))
  unfolding assign
  assign_low p a b c ha hb la lb g =
      let left = bound (expression a) _ c g in
      let right = bound (expression b) _ c left.goes in
      let t = bound (target_form left.value.form) _ c right.goes in
      stored_low (operator_of p) left.value right.value c t.value ha hb (target_low left.value t.value ha (expression_low a left.value ha la left.was) t.was) (expression_low b right.value hb lb right.was) t.goes

  -- ---- lists

  abbrev AllLow : List Found → ℕ → Type 0
  AllLow [] h = Unit {0}
  AllLow (a ∷ args) h = IsLow a h × AllLow args h

  pub all_expressions_low : (args bs : List Found) (h : ℕ) → AllLow args h → sequence (map expression args) ≡ Some bs → AllLow bs h
  unfolding sequence
  all_expressions_low [] bs h l g = subst (λ xs. AllLow xs h) (some_same [] bs g) tt
  all_expressions_low (a ∷ args) bs h l g =
      let b = bound (expression a) _ bs g in
      let rest = bound (sequence (map expression args)) _ bs b.goes in
      subst (λ xs. AllLow xs h) (some_same (b.value ∷ rest.value) bs rest.goes) (expression_low a b.value h (l.0) b.was, all_expressions_low args rest.value h (l.1) rest.was)

  trees_low : (args : List Found) (h : ℕ) → AllLow args h → greatest_of (map (measured m) (trees args)) ≤ h
  trees_low [] h l = omega arith
  trees_low (a ∷ args) h l = let rest = trees_low args h (l.1) in let first : measured m (tree_of a) ≤ h = l.0 in omega arith

  made_low : (name : OpName) (ty : Ty) (args : List Found) (c : Found) (h : ℕ) → AllLow args h → made_of name ty args ≡ Some c → IsLow c (m.node h)
  made_low name ty args c h l g = let t = held (are_numbers args) _ c g in same_low _ c _ (some_same _ c (t.1)) (apply_low name ty (trees args) h (trees_low args h l))

  abbrev converted_alone : Ty → List Found → Option Found
  converted_alone ty args = elim args [ [] ↦ None | a ∷ more ↦ if length more == 0 then converted ty a else None ]

  alone_low : (ty : Ty) (args : List Found) (c : Found) (h : ℕ) → AllLow args h → converted_alone ty args ≡ Some c → IsLow c (m.node h)
  alone_low ty [] c h l g = none_is_not c g
  alone_low ty (a ∷ more) c h l g =
      (elim (length more == 0) as (λ t. (if t then converted ty a else None) ≡ Some c → IsLow c (m.node h)) [
        | true ↦ λ k. converted_low ty a c h (l.0) k
        | false ↦ λ k. none_is_not c k
      ]) g

  from_low : (ty : Ty) (args : List Found) (c : Found) (h : ℕ) → AllLow args h → construct_from ty args ≡ Some c → IsLow c (m.node h)
  from_low ty args c h l g =
      (elim (is_only Matrix ty && (length args == 1 || length args == 16)) as (λ t. (if t then made_of op.Matrix ty args else (if is_one_triple ty && (length args == 3) then made_of op.Triple ty args else converted_alone ty args)) ≡ Some c → IsLow c (m.node h)) [
        | true ↦ λ k. made_low op.Matrix ty args c h l k
        | false ↦ elim (is_one_triple ty && (length args == 3)) as (λ t. (if t then made_of op.Triple ty args else converted_alone ty args) ≡ Some c → IsLow c (m.node h)) [
          | true ↦ λ k. made_low op.Triple ty args c h l k
          | false ↦ λ k. alone_low ty args c h l k
        ]
      ]) g

  construct_low : (to : BaseType) (args : List Found) (c : Found) (h : ℕ) → AllLow args h → construct to args ≡ Some c → IsLow c (m.node h)
  unfolding construct
  construct_low to args c h l g =
      let bs = bound (sequence (map expression args)) _ c g in
      from_low (only (base_named to)) bs.value c h (all_expressions_low args bs.value h l bs.was) bs.goes

  -- ---- calls

  pass_low : (formal : Formal) (kind : Kind) (output : Bool) (a : Found) (x : Argument) (h : ℕ) → IsLow a h → pass_to (record { kind = kind; output = output }) a ≡ Some x → argument_measured m x ≤ h
  pass_low formal kind true a x h l g =
      let t = bound (target_form a.form) _ x g in
      subst (λ y. argument_measured m y ≤ h) (some_same _ x t.goes) (over _ _ (measured-Out m t.value.root t.value.part t.value.indices) _ (target_low a t.value h l t.was))
  pass_low formal kind false a x h l g =
      let y = bound (fit kind a) _ x g in
      subst (λ y. argument_measured m y ≤ h) (some_same _ x y.goes) (over _ _ (measured-In m y.value) _ (fit_low kind a y.value h l y.was))

  passed_low : (formals : List Formal) (args : List Found) (xs : List Argument) (h : ℕ) → AllLow args h → pass_all formals args ≡ Some xs → greatest_of (map (argument_measured m) xs) ≤ h
  unfolding pass_all
  passed_low [] args xs h l g = subst (λ ys. greatest_of (map (argument_measured m) ys) ≤ h) (some_same [] xs g) (omega arith)
  passed_low (formal ∷ formals) [] xs h l g = none_is_not xs g
  passed_low (formal ∷ formals) (a ∷ args) xs h l g =
      let x = bound (pass_to formal a) _ xs g in
      let rest = bound (pass_all formals args) _ xs x.goes in
      let one = pass_low formal formal.kind formal.output a x.value h (l.0) x.was in
      let more = passed_low formals args rest.value h (l.1) rest.was in
      subst (λ ys. greatest_of (map (argument_measured m) ys) ≤ h) (some_same (x.value ∷ rest.value) xs rest.goes) (omega arith)

  operands_low : (kinds : List Kind) (args : List Found) (xs : List TypedExpr) (h : ℕ) → AllLow args h → fit_all kinds args ≡ Some xs → greatest_of (map (measured m) xs) ≤ h
  unfolding fit_all
  operands_low [] args xs h l g = subst (λ ys. greatest_of (map (measured m) ys) ≤ h) (some_same [] xs g) (omega arith)
  operands_low (kind ∷ kinds) [] xs h l g = none_is_not xs g
  operands_low (kind ∷ kinds) (a ∷ args) xs h l g =
      let x = bound (fit kind a) _ xs g in
      let rest = bound (fit_all kinds args) _ xs x.goes in
      let one = fit_low kind a x.value h (l.0) x.was in
      let more = operands_low kinds args rest.value h (l.1) rest.was in
      subst (λ ys. greatest_of (map (measured m) ys) ≤ h) (some_same (x.value ∷ rest.value) xs rest.goes) (omega arith)

  greatest_both : (xs ys : List TypedExpr) (h : ℕ) → greatest_of (map (measured m) xs) ≤ h → greatest_of (map (measured m) ys) ≤ h → greatest_of (map (measured m) (xs ++ ys)) ≤ h
  greatest_both [] ys h a b = b
  greatest_both (x ∷ xs) ys h a b =
      let first : max (measured m x) (greatest_of (map (measured m) xs)) ≤ h = a in
      let rest = greatest_both xs ys h (omega arith) b in omega arith

  operation_low : (name : OpName) (c : Candidate) (args : List Found) (more : List TypedExpr) (d : Found) (h k : ℕ) → AllLow args h → h ≤ k → greatest_of (map (measured m) more) ≤ k → operation_call name c args more ≡ Some d → IsLow d (m.node k)
  operation_low name c args more d h k l hk lm g =
      let xs = bound (fit_all (formal_kinds c.signature.params) args) _ d g in
      let ty = bound (plain_type c.signature.result) _ d xs.goes in
      let low = operands_low (formal_kinds c.signature.params) args xs.value h l xs.was in
      same_low _ d _ (some_same _ d ty.goes) (apply_low name ty.value (xs.value ++ more) k (greatest_both xs.value more k (omega arith) lm))

  called_low : (callee : Callee) (c : Candidate) (args : List Found) (d : Found) (h : ℕ) → AllLow args h → called_as callee c args ≡ Some d → IsLow d (m.node h)
  called_low (Declared f) c args d h l g =
      let xs = bound (pass_all c.signature.params args) _ d g in
      same_low _ d _ (some_same _ d xs.goes) (over _ _ (measured-Call m f c.signature.result xs.value) _ (is.more _ _ (passed_low c.signature.params args xs.value h l xs.was)))
  called_low (Operation name) c args d h l g = operation_low name c args [] d h h l (omega arith) (omega arith) g
  called_low SubstrToEnd c args d h l g =
      let k = max h (m.int (pos 512)) in
      let e : measured m longest ≡ m.int (pos 512) = measured-Int m (pos 512) in
      let low : IsLow d (m.node k) = operation_low op.SubStr c args (longest ∷ []) d h k l (omega arith) (omega arith) g in
      let less = is.longest_low h in omega arith
  called_low Exit c args d h l g = same_low _ d _ (some_same _ d g) (over _ _ (measured-Exit m) _ (is.leaf_low h))

  call_low : (sight : Sight) (word : List ℕ) (given : List Found) (d : Found) (h : ℕ) → AllLow given h → call sight word given ≡ Some d → IsLow d (m.node h)
  unfolding call
  call_low sight word given d h l g =
      let args = bound (sequence (map expression given)) _ d g in
      let place = bound (chosen (map (λ c. c.signature) (candidates sight word (kinds_of args.value))) (map as_argument args.value)) _ d args.goes in
      let c = bound (slice_get (candidates sight word (kinds_of args.value)) place.value) _ d place.goes in
      let t = held (apart c.value.signature.params (map root_of args.value)) _ d c.goes in
      called_low c.value.callee c.value args.value d h (all_expressions_low given args.value h l args.was) (t.1)

  -- ---- all forms

  module _ (sight : Sight) (bindings : List Binding) where
    abbrev Low : Option Found → ℕ → Type 0
    Low answer h = (a : Found) → answer ≡ Some a → IsLow a h

    one : (x : Option Found) (h : ℕ) (f : Found → Option Found) → Low x h → ((a b : Found) → IsLow a h → f a ≡ Some b → IsLow b (m.node h)) → Low (x >>= f) (m.node h)
    one x h f l keeps c g = let b = bound x f c g in keeps b.value c (l b.value b.was) b.goes

    two : (x y : Option Found) (hx hy : ℕ) (f : Found → Found → Option Found) → Low x hx → Low y hy → ((a b c : Found) (ha hb : ℕ) → IsLow a ha → IsLow b hb → f a b ≡ Some c → IsLow c (m.node (max ha hb))) → Low (x >>= λ a. y >>= f a) (m.node (max hx hy))
    two x y hx hy f lx ly keeps c g = let a = bound x _ c g in let b = bound y _ c a.goes in keeps a.value b.value c hx hy (lx a.value a.was) (ly b.value b.was) b.goes

    module _ (Y : Type 0) (tree : Y → Expr) (low : (y : Y) → Low (found_form sight bindings (tree y)) (source_measured m (tree y))) where
      lift : (args : List Found) (h k : ℕ) → h ≤ k → AllLow args h → AllLow args k
      lift [] h k le l = tt
      lift (a ∷ args) h k le l = (let first : measured m (tree_of a) ≤ h = l.0 in omega arith, lift args h k le (l.1))

      all_low : (ys : List Y) (args : List Found) → sequence (map (found_form sight bindings) (map tree ys)) ≡ Some args → AllLow args (greatest_of (map (source_measured m) (map tree ys)))
      unfolding sequence
      all_low [] args g = subst (λ xs. AllLow xs 0) (some_same [] args g) tt
      all_low (y ∷ ys) args g =
          let p = bound (found_form sight bindings (tree y)) _ args g in
          let q = bound (sequence (map (found_form sight bindings) (map tree ys))) _ args p.goes in
          let first : measured m (tree_of p.value) ≤ source_measured m (tree y) = low y p.value p.was in
          let most = max (source_measured m (tree y)) (greatest_of (map (source_measured m) (map tree ys))) in
          subst (λ xs. AllLow xs most) (some_same (p.value ∷ q.value) args q.goes) (omega arith, lift q.value _ most (omega arith) (all_low ys q.value q.was))

      step_low : (l : Expr-F Y) → Low (typing_step sight bindings (map-Expr Expr (Option Found) (found_form sight bindings) (map-Expr Y Expr tree l))) (source_step m (map-Expr Expr ℕ (source_measured m) (map-Expr Y Expr tree l)))
      step_low (o.Int n) = λ a g. same_low _ a _ (some_same _ a g) (over _ _ (measured-Int m n) _ (omega arith))
      step_low (o.Float units) = λ a g. same_low _ a _ (some_same _ a g) (over _ _ (measured-Float m units) _ (omega arith))
      step_low (o.Text bytes) = λ a g. same_low _ a _ (some_same _ a g) (over _ _ (measured-Text m bytes) _ (omega arith))
      step_low (o.Name word) = λ a g. name_low bindings word a g
      step_low (o.Call word ys) = λ c g. let args = bound (sequence (map (found_form sight bindings) (map tree ys))) _ c g in call_low sight word args.value c _ (all_low ys args.value args.was) args.goes
      step_low (o.Construct to ys) = λ c g. let args = bound (sequence (map (found_form sight bindings) (map tree ys))) _ c g in construct_low to args.value c _ (all_low ys args.value args.was) args.goes
      step_low (o.Paren x) = one (found_form sight bindings (tree x)) (source_measured m (tree x)) _ (low x) (λ a c l g. let b = bound (expression a) _ c g in
          same_low _ c _ (some_same _ c b.goes) (over _ _ (measured-Paren m b.value.kind (tree_of b.value)) _ (is.more _ _ (expression_low a b.value _ l b.was))))
      step_low (o.Index x i) = two (found_form sight bindings (tree x)) (found_form sight bindings (tree i)) _ _ index (low x) (low i) index_low
      step_low (o.Field x word) = one (found_form sight bindings (tree x)) _ (field sight.structures word) (low x) (λ a c l g. field_low sight.structures word a c _ l g)
      step_low (o.Postfix p x) = one (found_form sight bindings (tree x)) _ (postfixed p) (low x) (λ a c l g. postfixed_low p a c _ l g)
      step_low (o.Prefix p x) = one (found_form sight bindings (tree x)) _ (prefixed p) (low x) (λ a c l g. prefixed_low p a c _ l g)
      step_low (o.Cast to x) = one (found_form sight bindings (tree x)) _ (cast to) (low x) (λ a c l g. cast_low to a c _ l g)
      step_low (o.Binary p x y) = two (found_form sight bindings (tree x)) (found_form sight bindings (tree y)) _ _ (binary p) (low x) (low y) (binary_low p)
      step_low (o.Choice t x y) = λ c g.
          let p = bound (found_form sight bindings (tree t)) _ c g in
          let a = bound (found_form sight bindings (tree x)) _ c p.goes in
          let b = bound (found_form sight bindings (tree y)) _ c a.goes in
          choice_low p.value a.value b.value c _ _ _ (low t p.value p.was) (low x a.value a.was) (low y b.value b.was) b.goes
      step_low (o.Assign p x y) = two (found_form sight bindings (tree x)) (found_form sight bindings (tree y)) _ _ (assign p) (low x) (low y) (assign_low p)

      layer_low : (l : Expr-F Y) → Low (found_form sight bindings (roll-Expr (map-Expr Y Expr tree l))) (source_measured m (roll-Expr (map-Expr Y Expr tree l)))
      unfolding found_form source_measured
      layer_low l =
          subst (λ (h : ℕ). Low (found_form sight bindings (roll-Expr (map-Expr Y Expr tree l))) h) (sym (fold-roll-Expr ℕ (source_step m) (map-Expr Y Expr tree l)))
          (subst (λ (x : Option Found). Low x (source_step m (map-Expr Expr ℕ (source_measured m) (map-Expr Y Expr tree l)))) (sym (fold-roll-Expr (Option Found) (typing_step sight bindings) (map-Expr Y Expr tree l))) (step_low l))

    pub form_low : (x : Expr) (a : Found) → found_form sight bindings x ≡ Some a → IsLow a (source_measured m x)
    form_low x = ind-Expr (λ x. Low (found_form sight bindings x) (source_measured m x)) (λ l y same. subst (λ z. Low (found_form sight bindings (roll-Expr z)) (source_measured m (roll-Expr z))) same (layer_low _ (λ w. w.0) (λ w. w.1) y)) x

    pub typing_low : (x : Expr) (a : Found) → typing sight bindings x ≡ Some a → IsLow a (source_measured m x)
    typing_low x a g = let b = bound (found_form sight bindings x) expression a g in expression_low b.value a _ (form_low x b.value b.was) b.goes
