-- Initialisers and declarations keep states typed: what they give has the kind of what begins with it.
use Rattle.std.proofs.Common.{◌≡◌, ℕ, ◌+◌, ◌≤◌, true, ◌&&◌, List, [], ◌∷◌, ◌++◌, length, map, take, drop, Option, Some, None, sym, ap, ◌∙◌, subst, arith}
use Rattle.std.specs.Prelude.{slice_get, nat_le, IsTrue}
use Rattle.std.specs.List.{All, flat_map, list_all}
use Rattle.std.proofs.lemmas.Bool.{false≢true, and_parts, leb-true, ltb-true}
use Rattle.std.proofs.lemmas.List.{length-map, take-append-drop}
use Rattle.std.proofs.lemmas.List.Elements.{All-nil, All-cons, All-head, All-tail}
use Rattle.std.proofs.lemmas.Grind.{flat_map-append}
use Rattle.std.proofs.Math.Seq.{drop-append_seam}
use Rattle.osl_value.specs.declared.op_name.OpName.TheVariants.{AAssign}
use Rattle.osl_value.specs.declared.types.Ty.{Ty}
use Rattle.osl_value.specs.AnyValue.{AnyValue, type_of, is_array, element_type, zero_value}
use Rattle.osl_value.specs.Apply.{apply}
use Rattle.osl_value.specs.Types.{longest_array}
use Rattle.osl_value.specs.WellFormed.{IsValue, IsOfType}
use Rattle.osl_layer.specs.Layer.{Inputs}
use Rattle.osl_overload.specs.declared.signature.Kind.{Kind}
use Rattle.osl_overload.specs.declared.signature.Kind.TheVariants.{Value, Structure, Void}
use Rattle.osl_typed.specs.declared.expr.TypedExpr.{TypedExpr}
use Rattle.osl_typed.specs.declared.stmt.TypedInit.{TypedInit}
use Rattle.osl_typed.specs.declared.stmt.TypedInit.TheVariants as init
use Rattle.osl_typed.specs.Expressions.{Meaning, Calls, eval}
use Rattle.osl_typed.specs.Frames.{fields_of, leaves_of, zeros_of, place_of}
use Rattle.osl_typed.specs.Parts.{single, int_of}
use Rattle.osl_typed.specs.State as expression
use Rattle.osl_typed.specs.State.{State, ExpressionEnd, Gives, in_order, write_leaves}
use Rattle.osl_typed.specs.Statements.{with_elements, listed, begun, begun_or_zero}
use Rattle.osl_welltyped.specs.Kinded.{Rules, is_type, kinded}
use Rattle.osl_welltyped.specs.Measures.{by_fault, measured, all_measured, init_measured, begun_measured}
use Rattle.osl_welltyped.specs.StatementsFit.{has_kind, items_fit, list_fits, init_fits, maybe_fits}
use Rattle.osl_welltyped.specs.WellTyped.{variable_fits}
use Rattle.osl_welltyped.proofs.Steps.{is_kind_is}
use Rattle.oso_code.proofs.TypedStart.{short_type, zero_typed}
use Rattle.osl_typed_runs.specs.Typed.{AreOfTypes, IsOfKind, IsTypedState, EndsTyped, frame_by, types_by, IsTypedFrame, CallsKeep}
use Rattle.osl_typed_runs.proofs.ExpressionTypes.{left_good, right_good, expr_sound}
use Rattle.osl_typed_runs.proofs.LeafKinds.{all_get, kind_all, zero_row}
use Rattle.osl_typed_runs.proofs.LeafRows.{leaves_inside, lies_placed}
use Rattle.osl_typed_runs.proofs.LeafTypes.{no_values, one_value, both_rows, row_dropped, row_written}
use Rattle.osl_typed_runs.proofs.NodeTypes.{Means, Keep, then_typed, order_typed}
use Rattle.osl_typed_runs.proofs.Values.{applied, count_typed}

-- ---- arrays

-- its elements, from the k-th on
elements_typed : (ty : Ty) (k : ℕ) (xs : List AnyValue) (v : AnyValue) → IsTrue (is_type ty) → All IsValue xs → k + length xs ≤ longest_array → IsOfType ty v → IsOfType ty (with_elements ty k xs v)
unfolding with_elements
elements_typed ty k [] v fits all few h = h
elements_typed ty k (x ∷ xs) v fits all few h =
    let index = count_typed k (omega (arith, few)) in
    let args = All-cons IsValue v (int_of k ∷ x ∷ []) h.value (All-cons IsValue (int_of k) (x ∷ []) index.value (All-cons IsValue x [] (All-head IsValue x xs all) (All-nil IsValue))) in
    elements_typed ty (k + 1) xs (apply AAssign ty (v ∷ int_of k ∷ x ∷ [])) fits (All-tail IsValue x xs all) (omega (arith, few)) (applied AAssign ty (v ∷ int_of k ∷ x ∷ []) fits args)

-- ---- structures

-- the rest of a row is zero
rest_typed : (row given : List Ty) (vs zeros : List AnyValue) → AreOfTypes given vs → AreOfTypes (given ++ row) zeros → AreOfTypes (given ++ row) (vs ++ drop (length vs) zeros)
rest_typed row given vs zeros are zero =
    let n : length vs ≡ length given = sym (length-map vs type_of) ∙ ap length are.types in
    both_rows given row vs (drop (length vs) zeros) are
    (subst (λ r. AreOfTypes r (drop (length vs) zeros)) (ap (λ k. drop k (given ++ row)) n ∙ drop-append_seam given row) (row_dropped (given ++ row) zeros (length vs) zero))

module _ (rules : Rules) (inputs : Inputs) (calls : Calls) (fit : IsTypedFrame rules inputs) (keep : CallsKeep rules.structures rules.functions calls) where
  abbrev pub Given : Kind → Meaning → Type 0
  Given kind m = Means rules inputs calls fit kind m

  abbrev leaves : List Kind → List Ty
  leaves kinds = flat_map (leaves_of rules.structures) kinds

  -- ---- expressions of a kind

  pub kind_typed : (kind : Kind) (x : TypedExpr) → has_kind rules kind x ≡ true → measured by_fault x ≡ 0 → Given kind (eval (frame_by rules inputs) calls x)
  kind_typed kind x fits good = expr_sound rules inputs calls fit keep x good kind (is_kind_is kind (kinded rules x) fits)

  values_given : (kind : Kind) (x : ExpressionEnd (List AnyValue)) → EndsTyped (types_by rules) (IsOfKind rules.structures kind) x → EndsTyped (types_by rules) (All IsValue) x
  values_given kind x h = then_all x h
    where
      then_all : (x : ExpressionEnd (List AnyValue)) → EndsTyped (types_by rules) (IsOfKind rules.structures kind) x → EndsTyped (types_by rules) (All IsValue) x
      then_all (Gives vs s) h = (h.0.values, h.1)
      then_all (expression.Exits s) h = h
      then_all (expression.Spent s) h = h

  all_given : (kind : Kind) (xs : List TypedExpr) → list_all (has_kind rules kind) xs ≡ true → all_measured by_fault xs ≡ 0 → Keep rules inputs calls fit (map (eval (frame_by rules inputs) calls) xs)
  all_given kind [] h good = tt
  all_given kind (x ∷ xs) h good =
      let p = and_parts (has_kind rules kind x) (list_all (has_kind rules kind) xs) h in
      (λ s typed. values_given kind (eval (frame_by rules inputs) calls x s) (kind_typed kind x p.0 (left_good (measured by_fault x) (all_measured by_fault xs) good) s typed), all_given kind xs p.1 (right_good (measured by_fault x) (all_measured by_fault xs) good))

  -- ---- lists in braces

  array_begun : (ty : Ty) (items : List TypedExpr) → IsTrue (is_type ty) → list_fits rules (Value ty) items ≡ true → all_measured by_fault items ≡ 0 → Given (Value ty) (begun (frame_by rules inputs) calls (Value ty) (init.List items))
  array_begun ty items is h good s typed =
      let p = and_parts (is_array ty && nat_le (length items) ty.len) (list_all (has_kind rules (Value (element_type ty))) items) h in
      let few = leb-true (length items) ty.len (and_parts (is_array ty) (nat_le (length items) ty.len) p.0).1 in
      let short = short_type ty is in
      order_typed rules inputs calls fit (IsOfKind rules.structures (Value ty)) (map (eval (frame_by rules inputs) calls) items) s (λ vs s1. Gives (listed rules.structures (Value ty) vs) s1) (all_given (Value (element_type ty)) items p.1 good) typed
      (λ vs s1 n all t.
      let m : length (map single vs) ≡ length items = length-map vs single ∙ n ∙ length-map items (eval (frame_by rules inputs) calls) in
      (one_value ty (with_elements ty 0 (map single vs) (zero_value ty)) (elements_typed ty 0 (map single vs) (zero_value ty) is all (omega (arith, m, few, short)) (zero_typed ty is)), t))

  -- the first fields, in order
  fields_given : (kinds : List Kind) (items : List TypedExpr) (s : State) (go : List (List AnyValue) → State → ExpressionEnd (List AnyValue)) (QB : List AnyValue → Type 0) → items_fit rules kinds items ≡ true → all_measured by_fault items ≡ 0 → IsTypedState (types_by rules) s
      → ((vs : List (List AnyValue)) (s1 : State) → AreOfTypes (leaves (take (length items) kinds)) (flat_map (λ item. item) vs) → IsTypedState (types_by rules) s1 → EndsTyped (types_by rules) QB (go vs s1))
      → EndsTyped (types_by rules) QB (in_order (map (eval (frame_by rules inputs) calls) items) s go)
  unfolding in_order
  fields_given kinds [] s go QB h good typed f = f [] s no_values typed
  fields_given [] (x ∷ xs) s go QB h good typed f = absurd (false≢true h)
  fields_given (kind ∷ kinds) (x ∷ xs) s go QB h good typed f =
      let p = and_parts (has_kind rules kind x) (items_fit rules kinds xs) h in
      then_typed rules inputs calls fit (IsOfKind rules.structures kind) QB (eval (frame_by rules inputs) calls x s) (λ a s1. in_order (map (eval (frame_by rules inputs) calls) xs) s1 (λ rest s2. go (a ∷ rest) s2))
      (kind_typed kind x p.0 (left_good (measured by_fault x) (all_measured by_fault xs) good) s typed)
      (λ a s1 is t. fields_given kinds xs s1 (λ rest s2. go (a ∷ rest) s2) QB p.1 (right_good (measured by_fault x) (all_measured by_fault xs) good) t
      (λ vs s2 are t2. f (a ∷ vs) s2 (both_rows (leaves_of rules.structures kind) (leaves (take (length xs) kinds)) a (flat_map (λ item. item) vs) is are) t2))

  structure_begun : (m : ℕ) (items : List TypedExpr) → variable_fits rules.structures (Structure m) ≡ true → list_fits rules (Structure m) items ≡ true → all_measured by_fault items ≡ 0 → Given (Structure m) (begun (frame_by rules inputs) calls (Structure m) (init.List items))
  structure_begun m items is h good s typed =
      let fields = fields_of rules.structures m in
      let first = leaves (take (length items) fields) in
      let rest = leaves (drop (length items) fields) in
      let row : leaves_of rules.structures (Structure m) ≡ first ++ rest =
      leaves_inside rules.structures fit.structures m (ltb-true m (length rules.structures) is)
      ∙ ap leaves (sym (take-append-drop (length items) fields)) ∙ flat_map-append (leaves_of rules.structures) (take (length items) fields) (drop (length items) fields) in
      let zeros = zero_row (leaves_of rules.structures (Structure m)) (kind_all rules.structures fit.structures (Structure m) is) in
      fields_given fields items s (λ vs s1. Gives (listed rules.structures (Structure m) vs) s1) (IsOfKind rules.structures (Structure m)) h good typed
      (λ vs s1 are t. (
        subst (λ r. AreOfTypes r (listed rules.structures (Structure m) vs)) (sym row)
            (rest_typed rest first (flat_map (λ item. item) vs) (zeros_of rules.structures (Structure m)) are (subst (λ r. AreOfTypes r (zeros_of rules.structures (Structure m))) row zeros)),
        t,
      ))

  -- ---- initialisers

  pub begun_typed : (kind : Kind) (x : TypedInit) → variable_fits rules.structures kind ≡ true → init_fits rules kind x ≡ true → init_measured by_fault x ≡ 0 → Given kind (begun (frame_by rules inputs) calls kind x)
  begun_typed kind (init.Expr a) is h good s typed = kind_typed kind a h good s typed
  begun_typed (Value ty) (init.List items) is h good s typed = array_begun ty items is h good s typed
  begun_typed (Structure m) (init.List items) is h good s typed = structure_begun m items is h good s typed
  begun_typed Void (init.List items) is h good s typed = absurd (false≢true h)

  pub begun_or_zero_typed : (kind : Kind) (x : Option TypedInit) → variable_fits rules.structures kind ≡ true → maybe_fits rules kind x ≡ true → begun_measured by_fault x ≡ 0 → Given kind (begun_or_zero (frame_by rules inputs) calls kind x)
  begun_or_zero_typed kind None is h good s typed = (zero_row (leaves_of rules.structures kind) (kind_all rules.structures fit.structures kind is), typed)
  begun_or_zero_typed kind (Some x) is h good s typed = begun_typed kind x is h good s typed

  -- ---- variables of the frame

  pub variable_written : (k : ℕ) (kind : Kind) (vs : List AnyValue) (s : State) → slice_get rules.kinds k ≡ Some kind → IsOfKind rules.structures kind vs → IsTypedState (types_by rules) s
      → IsTypedState (types_by rules) (write_leaves (place_of rules.structures rules.kinds k) vs s)
  variable_written k kind vs s is are typed = record {
    vars = row_written (types_by rules) (leaves_of rules.structures kind) vs s.vars (place_of rules.structures rules.kinds k) typed.vars are (lies_placed (leaves_of rules.structures) rules.kinds k kind is);
    globals = typed.globals;
  }

  pub kind_there : (k : ℕ) (kind : Kind) → slice_get rules.kinds k ≡ Some kind → variable_fits rules.structures kind ≡ true
  kind_there k kind is = all_get (variable_fits rules.structures) rules.kinds k kind fit.kinds is
