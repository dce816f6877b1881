-- Parts of variables that are read have the leaves of their kind, and states stay typed where such leaves are written.
use Rattle.std.proofs.Common.{◌≡◌, ℕ, ◌+◌, Bool, true, false, List, [], ◌∷◌, ◌++◌, length, Option, Some, None, refl, sym, ap, ◌∙◌, subst, arith}
use Rattle.std.specs.Prelude.{slice_get, if◌then◌else◌, nat_lt, IsTrue}
use Rattle.std.specs.List.{All}
use Rattle.std.proofs.lemmas.List.Elements.{All-append}
use Rattle.osl_value.specs.declared.types.Ty.{Ty}
use Rattle.osl_value.specs.AnyValue.{AnyValue, type_of}
use Rattle.osl_value.specs.WellFormed.{IsValue, IsOfType}
use Rattle.osl_layer.specs.Globals.{type_of_global}
use Rattle.osl_layer.specs.Layer.{Input, From, Fixed, Default, Inputs}
use Rattle.osl_layer.specs.declared.global.GlobalName.{GlobalName}
use Rattle.osl_layer.specs.declared.global.GlobalName.TheVariants as G
use Rattle.osl_overload.specs.declared.signature.Kind.{Kind}
use Rattle.osl_overload.specs.declared.signature.Kind.TheVariants.{Value, Structure, Void}
use Rattle.osl_typed.specs.declared.expr.Part.{Part}
use Rattle.osl_typed.specs.declared.expr.Root.{Root}
use Rattle.osl_typed.specs.declared.expr.Root.TheVariants as root
use Rattle.osl_typed.specs.declared.shader.TypedStructure.{TypedStructure}
use Rattle.osl_typed.specs.Expressions.{read_part}
use Rattle.osl_typed.specs.Frames.{leaves_of}
use Rattle.osl_typed.specs.Parts.{single, selected, with_selected, named_component, all_indices, selected_of, selection, with_selected_of, with_selection, read_input, read_leaves, write_part, first_leaf}
use Rattle.osl_typed.specs.Selections.{kind_at, component_count}
use Rattle.osl_typed.specs.State.{State, ExpressionEnd, Gives, Exits, Spent, leaves_at, then_value}
use Rattle.osl_welltyped.specs.Kinded.{Rules, led_to, root_kind, is_type}
use Rattle.osl_welltyped.proofs.Steps.{none_is_not, some_same}
use Rattle.osl_typed_runs.specs.Typed.{AreOfTypes, IsOfKind, IsTypedState, EndsTyped, frame_by, types_by, IsTypedFrame}
use Rattle.osl_typed_runs.proofs.LeafKinds.{leaf_fits}
use Rattle.osl_typed_runs.proofs.LeafRows.{LiesIn, lies_part}
use Rattle.osl_typed_runs.proofs.LeafTypes.{one_value, first_value, row_held, row_written, global_written}
use Rattle.osl_typed_runs.proofs.SelectedTypes.{selected_typed, with_selected_typed}

-- ---- one leaf

pub single_type : (ty : Ty) (vs : List AnyValue) → AreOfTypes (ty ∷ []) vs → IsOfType ty (single vs)
single_type ty [] h = let e : [] ≡ ty ∷ [] = h.types in absurd (cc e)
single_type ty (v ∷ vs) h = first_value ty [] v vs h

counted_indices : (is : List AnyValue) (c : Option ℕ) → length (is ++ named_component c) ≡ length is + component_count c
counted_indices [] None = refl
counted_indices [] (Some c) = refl
counted_indices (i ∷ is) c = let h = counted_indices is c in omega (arith, h)

-- a component that is named is a value
abbrev pub IsNamed : Part → Type 0
IsNamed part = All IsValue (named_component part.component)

module _ (structures : List TypedStructure) where
  selected_leaves : (kind : Kind) (vs is : List AnyValue) → All IsValue is → IsOfKind structures kind vs → IsOfKind structures (kind_at kind (length is)) (selected_of kind vs is)
  selected_leaves (Value ty) vs is all h = one_value _ (selected ty (single vs) is) (selected_typed ty (single vs) is (single_type ty vs h) all)
  selected_leaves (Structure m) vs is all h = h
  selected_leaves Void vs is all h = h

  pub selection_typed : (part : Part) (vs is : List AnyValue) → IsNamed part → All IsValue is → IsOfKind structures part.kind vs → IsOfKind structures (kind_at part.kind (length is + component_count part.component)) (selection part vs is)
  selection_typed part vs is named all h =
      subst (λ n. IsOfKind structures (kind_at part.kind n) (selection part vs is)) (counted_indices is part.component) (selected_leaves part.kind vs (all_indices part is) (All-append IsValue is (named_component part.component) all named) h)

  with_leaves_typed : (kind : Kind) (vs is xs : List AnyValue) → All IsValue is → ((ty : Ty) → kind ≡ Value ty → IsTrue (is_type ty)) → IsOfKind structures kind vs → IsOfKind structures (kind_at kind (length is)) xs → IsOfKind structures kind (with_selected_of kind vs is xs)
  with_leaves_typed (Value ty) vs is xs all fits h x = one_value ty (with_selected ty (single vs) is (single xs)) (with_selected_typed ty (single vs) is (single xs) (fits ty refl) (single_type ty vs h) all (single_type _ xs x))
  with_leaves_typed (Structure m) vs is xs all fits h x = x
  with_leaves_typed Void vs is xs all fits h x = x

  pub with_selection_typed : (part : Part) (vs is xs : List AnyValue) → IsNamed part → All IsValue is → ((ty : Ty) → part.kind ≡ Value ty → IsTrue (is_type ty)) → IsOfKind structures part.kind vs → IsOfKind structures (kind_at part.kind (length is + component_count part.component)) xs → IsOfKind structures part.kind (with_selection part vs is xs)
  with_selection_typed part vs is xs named all fits h x =
      with_leaves_typed part.kind vs (all_indices part is) xs (All-append IsValue is (named_component part.component) all named) fits h
      (subst (λ n. IsOfKind structures (kind_at part.kind n) xs) (sym (counted_indices is part.component)) x)

  -- a value has no fields
  value_led : (ty : Ty) (to : Kind) (fields : List ℕ) → led_to structures (Some (Value ty)) fields ≡ Some to → Value ty ≡ to
  value_led ty to [] h = some_same (Value ty) to h
  value_led ty to (field ∷ fields) h = none_is_not to h

-- ---- parts of variables

global_fits : (g : GlobalName) → IsTrue (is_type (type_of_global g))
global_fits G.P = refl
global_fits G.N = refl
global_fits G.Ng = refl
global_fits G.I = refl
global_fits G.U = refl
global_fits G.V = refl
global_fits G.Ci = refl

pub there_is : (b : Bool) (o : Option Kind) (kind : Kind) → (if b then o else None) ≡ Some kind → o ≡ Some kind
there_is true o kind h = h
there_is false o kind h = none_is_not kind h

value_same : (a b : Ty) → Value a ≡ Value b → a ≡ b
value_same a b h = cc h

module _ (rules : Rules) (inputs : Inputs) (fit : IsTypedFrame rules inputs) where
  abbrev Holds : Kind → List AnyValue → Type 0
  Holds kind vs = IsOfKind rules.structures kind vs

  abbrev Typed : State → Type 0
  Typed s = IsTypedState (types_by rules) s

  module _ (part : Part) (kind : Kind) (led : led_to rules.structures (Some kind) part.fields ≡ Some part.kind) where
    lies : (k : ℕ) → root_kind rules (root.Variable k) ≡ Some kind → LiesIn (types_by rules) (first_leaf (frame_by rules inputs) k part) (leaves_of rules.structures part.kind)
    lies k is = lies_part rules.structures fit.structures rules.kinds k kind part.kind part.fields (there_is (nat_lt k rules.ready) (slice_get rules.kinds k) kind is) led

    one_leaf : (v : AnyValue) (ty : Ty) → kind ≡ Value ty → IsOfType ty v → Holds part.kind (v ∷ [])
    one_leaf v ty is h =
        subst (λ k. Holds k (v ∷ [])) (value_led rules.structures ty part.kind part.fields (ap (λ z. led_to rules.structures (Some z) part.fields) (sym is) ∙ led)) (one_value ty v h)

    input_typed : (k : ℕ) (input : Input) (own : List AnyValue) (s : State) → root_kind rules (root.Variable k) ≡ Some kind → inputs k ≡ input → Holds part.kind own → Typed s → EndsTyped (types_by rules) (Holds part.kind) (read_input input k own s)
    input_typed k (From None) own s is e h typed = record { vars = typed.vars; globals = typed.globals }
    input_typed k (From (Some v)) own s is e h typed = (
      one_leaf v (type_of v) (some_same kind (Value (type_of v)) (sym (there_is (nat_lt k rules.ready) (slice_get rules.kinds k) kind is) ∙ fit.connected k v e)) (record { value = fit.given k v e; type = refl }),
      record { vars = typed.vars; globals = typed.globals },
    )
    input_typed k (Fixed v) own s is e h typed = (h, typed)
    input_typed k Default own s is e h typed = (h, typed)

    leaves_read : (from : Root) (s : State) → root_kind rules from ≡ Some kind → Typed s → EndsTyped (types_by rules) (Holds part.kind) (read_leaves (frame_by rules inputs) from part s)
    leaves_read (root.Variable k) s is typed = input_typed k (inputs k) _ s is refl (row_held (types_by rules) (leaves_of rules.structures part.kind) s.vars (first_leaf (frame_by rules inputs) k part) typed.vars (lies k is)) typed
    leaves_read (root.Global g) s is typed = (one_leaf (s.globals g) (type_of_global g) (sym (some_same _ kind is)) (typed.globals.each g), typed)

    -- a part that is read has the leaves of its kind
    pub part_read : IsNamed part → (from : Root) (is : List AnyValue) (s : State) → All IsValue is → root_kind rules from ≡ Some kind → Typed s → EndsTyped (types_by rules) (Holds (kind_at part.kind (length is + component_count part.component))) (read_part (frame_by rules inputs) from part is s)
    part_read named from is s all here typed = by (read_leaves (frame_by rules inputs) from part s) (leaves_read from s here typed)
      where
        by : (x : ExpressionEnd (List AnyValue)) → EndsTyped (types_by rules) (Holds part.kind) x → EndsTyped (types_by rules) (Holds (kind_at part.kind (length is + component_count part.component))) (then_value x (λ vs s1. Gives (selection part vs is) s1))
        by (Gives vs s1) h = (selection_typed rules.structures part vs is named all h.0, h.1)
        by (Exits s1) h = h
        by (Spent s1) h = h

    -- and one that is written keeps the state typed
    pub part_written : IsNamed part → (from : Root) (is xs : List AnyValue) (s : State) → All IsValue is → root_kind rules from ≡ Some kind → Holds (kind_at part.kind (length is + component_count part.component)) xs → Typed s → Typed (write_part (frame_by rules inputs) from part is xs s)
    part_written named (root.Variable k) is xs s all here x typed =
        let at = first_leaf (frame_by rules inputs) k part in
        let row = leaves_of rules.structures part.kind in
        let own = leaves_at s.vars at (length row) in
        let new = with_selection_typed rules.structures part own is xs named all (λ ty e. leaf_fits rules inputs fit (at + 0) ty ((lies k here).each 0 ty (ap (λ z. slice_get (leaves_of rules.structures z) 0) e))) (row_held (types_by rules) row s.vars at typed.vars (lies k here)) x in
        record {
          vars = row_written (types_by rules) row (with_selection part own is xs) s.vars at typed.vars new (lies k here);
          globals = typed.globals;
        }
    part_written named (root.Global g) is xs s all here x typed =
        let value : Value (type_of_global g) ≡ part.kind = value_led rules.structures (type_of_global g) part.kind part.fields (ap (λ z. led_to rules.structures z part.fields) here ∙ led) in
        let own = one_leaf (s.globals g) (type_of_global g) (sym (some_same _ kind here)) (typed.globals.each g) in
        let new = with_selection_typed rules.structures part (s.globals g ∷ []) is xs named all (λ ty e. subst (λ t. IsTrue (is_type t)) (value_same (type_of_global g) ty (value ∙ e)) (global_fits g)) own x in
        record {
          vars = typed.vars;
          globals = global_written g _ s.globals typed.globals (single_type (type_of_global g) _ (subst (λ k. Holds k (with_selection part (s.globals g ∷ []) is xs)) (sym value) new));
        }
