-- A node's meaning keeps states typed and gives leaves of its kind, if the meanings of its parts do.
use Rattle.std.proofs.Common.{◌≡◌, ℕ, suc, ◌+◌, Bool, true, false, ◌&&◌, List, [], ◌∷◌, length, map, Option, Some, None, refl, sym, ap, ◌∙◌, subst, lit<}
use Rattle.std.specs.Prelude.{if◌then◌else◌, ℤ, IsTrue}
use Rattle.std.specs.List.{All, list_all}
use Rattle.std.proofs.lemmas.Bool.{false≢true, and_parts, cond_both}
use Rattle.std.proofs.lemmas.List.Elements.{All-nil, All-cons, All-head}
use Rattle.osl_value.specs.declared.op_name.OpName.{OpName}
use Rattle.osl_value.specs.declared.op_name.OpName.TheVariants.{Assign}
use Rattle.osl_value.specs.declared.types.Base.TheVariants.{Int, Float, Str, Closure}
use Rattle.osl_value.specs.declared.types.Ty.{Ty}
use Rattle.osl_value.specs.AnyValue.{AnyValue, Parts, with_numbers, with_text}
use Rattle.osl_value.specs.Apply.{apply}
use Rattle.osl_value.specs.Types.{only, same_base}
use Rattle.osl_value.specs.WellFormed.{IsValue, IsOfType}
use Rattle.osl_layer.specs.Layer.{Inputs}
use Rattle.osl_overload.specs.declared.signature.Kind.{Kind}
use Rattle.osl_overload.specs.declared.signature.Kind.TheVariants.{Value, Structure, Void}
use Rattle.osl_typed.specs.declared.expr.Argument.TheOpen as e
use Rattle.osl_typed.specs.declared.expr.Increment.{Increment}
use Rattle.osl_typed.specs.declared.expr.Increment.TheVariants.{PreIncrement, PreDecrement, PostIncrement, PostDecrement}
use Rattle.osl_typed.specs.declared.expr.Part.{Part}
use Rattle.osl_typed.specs.declared.expr.Root.{Root}
use Rattle.osl_typed.specs.Expressions.{Meaning, Calls, holds, promoted, truth_value, stored_as, both, either, expr_step, whole, step_op, one_of, stepped, step_gives, read_part}
use Rattle.osl_typed.specs.Frames.{leaves_of, leaves_before}
use Rattle.osl_typed.specs.Parts.{single, int_of, selection, field_leaves, write_part}
use Rattle.osl_typed.specs.Selections.{types_on_the_way, part_kind, kind_at, component_count}
use Rattle.osl_typed.specs.State.{State, ExpressionEnd, Gives, Exits, Spent, then_value, in_order}
use Rattle.oso_code.proofs.TypedStart.{closure_type}
use Rattle.osl_welltyped.specs.Kinded.{Rules, is_type, is_kind, is_int, is_numeric, led_to, root_kind, kind_selects, part_fits, read_fits, stored_fits, plain_types, takes, promotes, updates_by, steps, kind_step}
use Rattle.osl_welltyped.specs.Measures.{fits_int, fits_float, fault_unless}
use Rattle.osl_welltyped.proofs.Steps.{none_is_not, some_same, is_kind_is}
use Rattle.osl_typed_runs.specs.Typed.{IsOfKind, IsTypedState, EndsTyped, frame_by, types_by, IsTypedFrame}
use Rattle.osl_typed_runs.proofs.KindTests.{if_so, int_found, number_found, named_fits, promotes_fits, takes_fits, update_fits, step_fits}
use Rattle.osl_typed_runs.proofs.LeafRows.{lies_led}
use Rattle.osl_typed_runs.proofs.LeafTypes.{one_value, part_typed}
use Rattle.osl_typed_runs.proofs.PartTypes.{IsNamed, single_type, selection_typed, part_read, part_written}
use Rattle.osl_typed_runs.proofs.Values.{as_type, applied, int_typed, float_typed, text_typed, count_typed, truth_typed, empty_closure}

-- ---- single values

pub single_is : (vs : List AnyValue) → All IsValue vs → IsValue (single vs)
single_is [] all = empty_closure.value
single_is (v ∷ vs) all = All-head IsValue v vs all

-- a promoted value
promoted_typed : (ty : Ty) (v : AnyValue) → IsTrue (is_type ty) → IsValue v → IsOfType ty (promoted ty v)
promoted_typed ty v fits is =
    cond_both (same_base ty.base Closure) (Parts []) (apply Assign ty (v ∷ [])) (IsOfType ty)
    (λ closure. as_type (only Closure) ty (Parts []) (closure_type ty fits closure) empty_closure)
    (λ other. applied Assign ty (v ∷ []) fits (All-cons IsValue v [] is (All-nil IsValue)))

module _ (rules : Rules) (inputs : Inputs) (calls : Calls) (fit : IsTypedFrame rules inputs) where
  abbrev pub Typed : State → Type 0
  Typed s = IsTypedState (types_by rules) s

  abbrev pub Holds : Kind → List AnyValue → Type 0
  Holds kind vs = IsOfKind rules.structures kind vs

  abbrev pub Ends : {A : Type 0} → (A → Type 0) → ExpressionEnd A → Type 0
  Ends Q x = EndsTyped (types_by rules) Q x

  -- a meaning of this kind
  abbrev pub Means : Kind → Meaning → Type 0
  Means kind m = (s : State) → Typed s → Ends (Holds kind) (m s)

  -- of the kind that there is, if there is one
  abbrev pub Sound : Option Kind → Meaning → Type 0
  Sound o m = (kind : Kind) → o ≡ Some kind → Means kind m

  abbrev pub Sounds : List (Option Kind) → List Meaning → Type 0
  Sounds [] [] = Unit {0}
  Sounds [] (m ∷ ms) = ⊥
  Sounds (o ∷ os) [] = ⊥
  Sounds (o ∷ os) (m ∷ ms) = Sound o m × Sounds os ms

  -- meanings that give values
  abbrev pub Keep : List Meaning → Type 0
  Keep [] = Unit {0}
  Keep (m ∷ ms) = ((s : State) → Typed s → Ends (All IsValue) (m s)) × Keep ms

  -- ---- one after the other

  pub then_typed : {A B : Type 0} (QA : A → Type 0) (QB : B → Type 0) (x : ExpressionEnd A) (go : A → State → ExpressionEnd B) → Ends QA x → ((a : A) (s : State) → QA a → Typed s → Ends QB (go a s)) → Ends QB (then_value x go)
  then_typed QA QB (Gives a s) go h f = f a s h.0 h.1
  then_typed QA QB (Exits s) go h f = h
  then_typed QA QB (Spent s) go h f = h

  values : (kind : Kind) (x : ExpressionEnd (List AnyValue)) → Ends (Holds kind) x → Ends (All IsValue) x
  values kind (Gives vs s) h = (h.0.values, h.1)
  values kind (Exits s) h = h
  values kind (Spent s) h = h

  pub order_typed : {B : Type 0} (QB : B → Type 0) (ms : List Meaning) (s : State) (go : List (List AnyValue) → State → ExpressionEnd B) → Keep ms → Typed s
      → ((vs : List (List AnyValue)) (s1 : State) → length vs ≡ length ms → All IsValue (map single vs) → Typed s1 → Ends QB (go vs s1)) → Ends QB (in_order ms s go)
  unfolding in_order
  order_typed QB [] s go keep typed f = f [] s refl (All-nil IsValue) typed
  order_typed QB (m ∷ ms) s go keep typed f =
      then_typed (All IsValue) QB (m s) (λ a s1. in_order ms s1 (λ rest s2. go (a ∷ rest) s2)) (keep.0 s typed)
      (λ a s1 is t. order_typed QB ms s1 (λ rest s2. go (a ∷ rest) s2) keep.1 t (λ vs s2 n all t2. f (a ∷ vs) s2 (ap suc n) (All-cons IsValue (single a) (map single vs) (single_is a is) all) t2))

  pub sounds_length : (os : List (Option Kind)) (ms : List Meaning) → Sounds os ms → length ms ≡ length os
  sounds_length [] [] all = refl
  sounds_length [] (m ∷ ms) all = absurd all
  sounds_length (o ∷ os) [] all = absurd all
  sounds_length (o ∷ os) (m ∷ ms) all = ap suc (sounds_length os ms all.1)

  pub ints_keep : (os : List (Option Kind)) (ms : List Meaning) → Sounds os ms → list_all is_int os ≡ true → Keep ms
  ints_keep [] [] all h = tt
  ints_keep [] (m ∷ ms) all h = absurd all
  ints_keep (o ∷ os) [] all h = absurd all
  ints_keep (o ∷ os) (m ∷ ms) all h =
      let p = and_parts (is_int o) (list_all is_int os) h in
      let found = int_found o p.0 in
      (λ s typed. values found.kind (m s) (all.0 found.kind found.is s typed), ints_keep os ms all.1 p.1)

  singles : (vs : List (List AnyValue)) → length (map single vs) ≡ length vs
  singles [] = refl
  singles (v ∷ vs) = ap suc (singles vs)

  -- ---- parts that fit

  pub record Fits (from : Option Kind) (part : Part) (os : List (Option Kind)) : Type 0 where
    pub kind : Kind
    pub is : from ≡ Some kind
    pub led : led_to rules.structures (Some kind) part.fields ≡ Some part.kind
    pub ints : list_all is_int os ≡ true
    pub named : IsNamed part

  pub fits : (from : Option Kind) (part : Part) (os : List (Option Kind)) → part_fits rules.structures from part os ≡ true → Fits from part os
  fits None part os h = absurd (false≢true h)
  fits (Some kind) part os h =
      let q = and_parts (is_kind part.kind (led_to rules.structures (Some kind) part.fields) && list_all is_int os) (kind_selects part.kind (length os) part.component) h in
      let p = and_parts (is_kind part.kind (led_to rules.structures (Some kind) part.fields)) (list_all is_int os) q.0 in
      record { kind = kind; is = refl; led = is_kind_is part.kind (led_to rules.structures (Some kind) part.fields) p.0; ints = p.1; named = named_fits part.kind (length os) part.component q.1 }

  -- the kind of a part, by as many indices as there are
  pub as_many : (part : Part) (os : List (Option Kind)) (ms : List Meaning) (vs : List (List AnyValue)) → Sounds os ms → length vs ≡ length ms → kind_at part.kind (length (map single vs) + component_count part.component) ≡ part_kind part os
  as_many part os ms vs all n = ap (λ k. kind_at part.kind (k + component_count part.component)) (singles vs ∙ n ∙ sounds_length os ms all)

  -- ---- nodes

  pub variable_sound : (root : Root) (part : Part) (os : List (Option Kind)) (ms : List Meaning) → Sounds os ms → Sound (kind_step rules (e.Variable root part os)) (expr_step (frame_by rules inputs) calls (e.Variable root part ms))
  variable_sound root part os ms all kind h s typed =
      let t = if_so (read_fits rules root part os) (part_kind part os) kind h in
      let f = fits (root_kind rules root) part os t.0 in
      order_typed (Holds kind) ms s (λ is s1. read_part (frame_by rules inputs) root part (map single is) s1) (ints_keep os ms all f.ints) typed
      (λ vs s1 n is t1. subst (λ k. Ends (Holds k) (read_part (frame_by rules inputs) root part (map single vs) s1)) (as_many part os ms vs all n ∙ t.1) (part_read rules inputs fit part f.kind f.led f.named root (map single vs) s1 is f.is t1))

  pub assigned_sound : (root : Root) (part : Part) (os : List (Option Kind)) (ms : List Meaning) (o : Option Kind) (m : Meaning) → Sounds os ms → Sound o m
      → Sound (kind_step rules (e.Assign root part os o)) (expr_step (frame_by rules inputs) calls (e.Assign root part ms m))
  assigned_sound root part os ms o m all sound kind h s typed =
      let t = if_so (stored_fits rules root part os && is_kind (part_kind part os) o) (part_kind part os) kind h in
      let p = and_parts (stored_fits rules root part os) (is_kind (part_kind part os) o) t.0 in
      let f = fits (root_kind rules root) part os (and_parts (rules.may_write root) (read_fits rules root part os) p.0).1 in
      order_typed (Holds kind) ms s (λ is s1. then_value (m s1) (λ v s2. Gives v (write_part (frame_by rules inputs) root part (map single is) v s2))) (ints_keep os ms all f.ints) typed
      (λ vs s1 n is t1. then_typed (Holds (part_kind part os)) (Holds kind) (m s1) (λ v s2. Gives v (write_part (frame_by rules inputs) root part (map single vs) v s2)) (sound (part_kind part os) (is_kind_is (part_kind part os) o p.1) s1 t1)
      (λ v s2 holds t2. (
        subst (λ k. Holds k v) t.1 holds,
        part_written rules inputs fit part f.kind f.led f.named root (map single vs) v s2 is f.is (subst (λ k. Holds k v) (sym (as_many part os ms vs all n)) holds) t2,
      )))

  pub chosen_sound : (k : Kind) (oc oa ob : Option Kind) (c a b : Meaning) → Sound oc c → Sound oa a → Sound ob b → Sound (kind_step rules (e.Choose k oc oa ob)) (expr_step (frame_by rules inputs) calls (e.Choose k c a b))
  chosen_sound k oc oa ob c a b sc sa sb kind h s typed =
      let t = if_so (is_numeric oc && is_kind k oa && is_kind k ob) k kind h in
      let p = and_parts _ _ t.0 in let q = and_parts _ _ p.0 in
      let number = number_found oc q.0 in
      then_typed (Holds number.kind) (Holds kind) (c s) (λ v s1. if holds v then a s1 else b s1) (sc number.kind number.is s typed)
      (λ v s1 u t1. by (holds v) s1 (sa kind (is_kind_is k oa q.1 ∙ ap Some t.1) s1 t1) (sb kind (is_kind_is k ob p.1 ∙ ap Some t.1) s1 t1))
    where
      by : (z : Bool) (s1 : State) → Ends (Holds kind) (a s1) → Ends (Holds kind) (b s1) → Ends (Holds kind) (if z then a s1 else b s1)
      by true s1 x y = x
      by false s1 x y = y

  plain_keep : (os : List (Option Kind)) (ms : List Meaning) (types : List Ty) → Sounds os ms → plain_types os ≡ Some types → Keep ms
  plain_keep [] [] types all h = tt
  plain_keep [] (m ∷ ms) types all h = absurd all
  plain_keep (o ∷ os) [] types all h = absurd all
  plain_keep (Some (Value ty) ∷ os) (m ∷ ms) types all h =
      (λ s typed. values (Value ty) (m s) (all.0 (Value ty) refl s typed), by (plain_types os) (λ rest is. plain_keep os ms rest all.1 is) refl h)
    where
      by : (x : Option (List Ty)) → ((rest : List Ty) → x ≡ Some rest → Keep ms) → x ≡ x → elim x [ None ↦ None | Some rest ↦ Some (ty ∷ rest) ] ≡ Some types → Keep ms
      by None f e g = none_is_not types g
      by (Some rest) f e g = f rest refl
  plain_keep (Some (Structure m) ∷ os) (_ ∷ ms) types all h = none_is_not types h
  plain_keep (Some Void ∷ os) (_ ∷ ms) types all h = none_is_not types h
  plain_keep (None ∷ os) (_ ∷ ms) types all h = none_is_not types h

  -- ---- literals, in range

  pub int_sound : (n : ℤ) → fault_unless (fits_int n) ≡ 0 → Sound (kind_step rules (e.Int n)) (expr_step (frame_by rules inputs) calls (e.Int n))
  int_sound n good kind h s typed = (subst (λ k. Holds k (with_numbers (only Int) (n ∷ []) ∷ [])) (some_same (Value (only Int)) kind h) (one_value (only Int) (with_numbers (only Int) (n ∷ [])) (int_typed n good)), typed)

  pub float_sound : (units : ℤ) → fault_unless (fits_float units) ≡ 0 → Sound (kind_step rules (e.Float units)) (expr_step (frame_by rules inputs) calls (e.Float units))
  float_sound units good kind h s typed = (subst (λ k. Holds k (with_numbers (only Float) (units ∷ []) ∷ [])) (some_same (Value (only Float)) kind h) (one_value (only Float) (with_numbers (only Float) (units ∷ [])) (float_typed units good)), typed)

  pub text_sound : (bytes : List ℕ) → Sound (kind_step rules (e.Text bytes)) (expr_step (frame_by rules inputs) calls (e.Text bytes))
  text_sound bytes kind h s typed = (subst (λ k. Holds k (with_text (only Str) bytes ∷ [])) (some_same (Value (only Str)) kind h) (one_value (only Str) (with_text (only Str) bytes) (text_typed bytes)), typed)

  -- ---- the other nodes

  pub paren_sound : (k : Kind) (o : Option Kind) (m : Meaning) → Sound o m → Sound (kind_step rules (e.Paren k o)) (expr_step (frame_by rules inputs) calls (e.Paren k m))
  paren_sound k o m sound kind h s typed = let t = if_so (is_kind k o) k kind h in sound kind (is_kind_is k o t.0 ∙ ap Some t.1) s typed

  pub exit_sound : Sound (kind_step rules e.Exit) (expr_step (frame_by rules inputs) calls e.Exit)
  exit_sound kind h s typed = typed

  pub promote_sound : (ty : Ty) (o : Option Kind) (m : Meaning) → Sound o m → Sound (kind_step rules (e.Promote ty o)) (expr_step (frame_by rules inputs) calls (e.Promote ty m))
  promote_sound ty o m sound kind h s typed =
      let t = if_so (promotes ty o) (Value ty) kind h in
      let p = promotes_fits ty o t.0 in
      then_typed (Holds p.1.kind) (Holds kind) (m s) (λ v s1. Gives (promoted ty (single v) ∷ []) s1) (sound p.1.kind p.1.is s typed)
      (λ v s1 is t1. (subst (λ k. Holds k (promoted ty (single v) ∷ [])) t.1 (one_value ty _ (promoted_typed ty (single v) p.0 (single_is v is.values))), t1))

  takes_keep : (op : OpName) (ty : Ty) (os : List (Option Kind)) (ms : List Meaning) → Sounds os ms → takes op ty (plain_types os) ≡ true → IsTrue (is_type ty) × Keep ms
  takes_keep op ty os ms all h = by (plain_types os) refl h
    where
      by : (x : Option (List Ty)) → plain_types os ≡ x → takes op ty x ≡ true → IsTrue (is_type ty) × Keep ms
      by None is g = absurd (false≢true g)
      by (Some types) is g = (takes_fits op ty types g, plain_keep os ms types all is)

  pub apply_sound : (op : OpName) (ty : Ty) (os : List (Option Kind)) (ms : List Meaning) → Sounds os ms → Sound (kind_step rules (e.Apply op ty os)) (expr_step (frame_by rules inputs) calls (e.Apply op ty ms))
  apply_sound op ty os ms all kind h s typed =
      let t = if_so (takes op ty (plain_types os)) (Value ty) kind h in
      let p = takes_keep op ty os ms all t.0 in
      order_typed (Holds kind) ms s (λ vs s1. Gives (apply op ty (map single vs) ∷ []) s1) p.1 typed
      (λ vs s1 n is t1. (subst (λ k. Holds k (apply op ty (map single vs) ∷ [])) t.1 (one_value ty _ (applied op ty (map single vs) p.0 is)), t1))

  abbrev Truth : List AnyValue → Type 0
  Truth vs = Holds (Value (only Int)) vs

  truth_holds : (b : Bool) → Truth (truth_value b)
  truth_holds b = one_value (only Int) _ (truth_typed b)

  module _ (oa ob : Option Kind) (a b : Meaning) (sa : Sound oa a) (sb : Sound ob b) where
    second : (p : is_numeric ob ≡ true) (s : State) → Typed s → Ends Truth (then_value (b s) (λ w s2. Gives (truth_value (holds w)) s2))
    second p s typed =
        let number = number_found ob p in
        then_typed (Holds number.kind) Truth (b s) (λ w s2. Gives (truth_value (holds w)) s2) (sb number.kind number.is s typed) (λ w s2 u t2. (truth_holds (holds w), t2))

    pub and_sound : Sound (kind_step rules (e.And oa ob)) (expr_step (frame_by rules inputs) calls (e.And a b))
    and_sound kind h s typed =
        let t = if_so (is_numeric oa && is_numeric ob) (Value (only Int)) kind h in
        let p = and_parts (is_numeric oa) (is_numeric ob) t.0 in
        let number = number_found oa p.0 in
        subst (λ k. Ends (Holds k) (both a b s)) t.1 (
        then_typed (Holds number.kind) Truth (a s) (λ v s1. if holds v then then_value (b s1) (λ w s2. Gives (truth_value (holds w)) s2) else Gives (truth_value false) s1) (sa number.kind number.is s typed)
        (λ v s1 u t1. by (holds v) s1 (second p.1 s1 t1) t1))
      where
        by : (z : Bool) (s1 : State) → Ends Truth (then_value (b s1) (λ w s2. Gives (truth_value (holds w)) s2)) → Typed s1
            → Ends Truth (if z then then_value (b s1) (λ w s2. Gives (truth_value (holds w)) s2) else Gives (truth_value false) s1)
        by true s1 x t1 = x
        by false s1 x t1 = (truth_holds false, t1)

    pub or_sound : Sound (kind_step rules (e.Or oa ob)) (expr_step (frame_by rules inputs) calls (e.Or a b))
    or_sound kind h s typed =
        let t = if_so (is_numeric oa && is_numeric ob) (Value (only Int)) kind h in
        let p = and_parts (is_numeric oa) (is_numeric ob) t.0 in
        let number = number_found oa p.0 in
        subst (λ k. Ends (Holds k) (either a b s)) t.1 (
        then_typed (Holds number.kind) Truth (a s) (λ v s1. if holds v then Gives (truth_value true) s1 else then_value (b s1) (λ w s2. Gives (truth_value (holds w)) s2)) (sa number.kind number.is s typed)
        (λ v s1 u t1. by (holds v) s1 (second p.1 s1 t1) t1))
      where
        by : (z : Bool) (s1 : State) → Ends Truth (then_value (b s1) (λ w s2. Gives (truth_value (holds w)) s2)) → Typed s1
            → Ends Truth (if z then Gives (truth_value true) s1 else then_value (b s1) (λ w s2. Gives (truth_value (holds w)) s2))
        by true s1 x t1 = (truth_holds true, t1)
        by false s1 x t1 = x

  pub taken_sound : (k : Kind) (o : Option Kind) (m : Meaning) (part : Part) (os : List (Option Kind)) (ms : List Meaning) → Sound o m → Sounds os ms
      → Sound (kind_step rules (e.PartOf k o part os)) (expr_step (frame_by rules inputs) calls (e.PartOf k m part ms))
  taken_sound k o m part os ms sound all kind h s typed =
      let t = if_so (is_kind k o && part_fits rules.structures (Some k) part os) (part_kind part os) kind h in
      let p = and_parts (is_kind k o) (part_fits rules.structures (Some k) part os) t.0 in
      let f = fits (Some k) part os p.1 in
      let led = ap (λ z. led_to rules.structures (Some z) part.fields) (some_same k f.kind f.is) ∙ f.led in
      then_typed (Holds k) (Holds kind) (m s) (λ vs s1. in_order ms s1 (λ is s2. Gives (selection part (field_leaves (frame_by rules inputs) k part vs) (map single is)) s2)) (sound k (is_kind_is k o p.0) s typed)
      (λ vs s1 holds t1. order_typed (Holds kind) ms s1 (λ is s2. Gives (selection part (field_leaves (frame_by rules inputs) k part vs) (map single is)) s2) (ints_keep os ms all f.ints) t1
      (λ is s2 n are t2. (
        subst (λ z. Holds z (selection part (field_leaves (frame_by rules inputs) k part vs) (map single is))) (as_many part os ms is all n ∙ t.1)
            (selection_typed rules.structures part (field_leaves (frame_by rules inputs) k part vs) (map single is) f.named are (part_typed (leaves_of rules.structures k) (leaves_of rules.structures part.kind) vs (leaves_before rules.structures k part.fields) holds (lies_led rules.structures fit.structures k part.kind part.fields led))),
        t2,
      )))

  abbrev new : Part → List Meaning → OpName → Ty → List AnyValue → List AnyValue → List AnyValue
  new part ms op ty old v = stored_as (part_kind part ms) (apply op ty (single old ∷ single v ∷ [])) ∷ []

  stored_holds : (k : Kind) (to : Ty) (v : AnyValue) → k ≡ Value to → IsTrue (is_type to) → IsValue v → Holds k (stored_as k v ∷ [])
  stored_holds k to v is good value = subst (λ z. Holds z (stored_as z v ∷ [])) (sym is) (one_value to _ (applied Assign to (v ∷ []) good (All-cons IsValue v [] value (All-nil IsValue))))

  pub updated_sound : (op : OpName) (ty : Ty) (root : Root) (part : Part) (os : List (Option Kind)) (ms : List Meaning) (o : Option Kind) (m : Meaning) → Sounds os ms → Sound o m
      → Sound (kind_step rules (e.Update op ty root part os o)) (expr_step (frame_by rules inputs) calls (e.Update op ty root part ms m))
  updated_sound op ty root part os ms o m all sound kind h s typed =
      let t = if_so (stored_fits rules root part os && updates_by op ty (part_kind part os) o) (part_kind part os) kind h in
      let p = and_parts (stored_fits rules root part os) (updates_by op ty (part_kind part os) o) t.0 in
      let f = fits (root_kind rules root) part os (and_parts (rules.may_write root) (read_fits rules root part os) p.0).1 in
      let u = update_fits op ty (part_kind part os) o p.1 in
      let same : part_kind part ms ≡ part_kind part os = ap (λ k. kind_at part.kind (k + component_count part.component)) (sounds_length os ms all) in
      order_typed (Holds kind) ms s (λ is s1. then_value (read_part (frame_by rules inputs) root part (map single is) s1) (λ old s2. then_value (m s2) (λ v s3. Gives (new part ms op ty old v) (write_part (frame_by rules inputs) root part (map single is) (new part ms op ty old v) s3)))) (ints_keep os ms all f.ints) typed
      (λ vs s1 n is t1. then_typed (Holds (kind_at part.kind (length (map single vs) + component_count part.component))) (Holds kind) (read_part (frame_by rules inputs) root part (map single vs) s1)
      (λ old s2. then_value (m s2) (λ v s3. Gives (new part ms op ty old v) (write_part (frame_by rules inputs) root part (map single vs) (new part ms op ty old v) s3)))
      (part_read rules inputs fit part f.kind f.led f.named root (map single vs) s1 is f.is t1)
      (λ old s2 h2 t2. then_typed (Holds (Value u.from)) (Holds kind) (m s2) (λ v s3. Gives (new part ms op ty old v) (write_part (frame_by rules inputs) root part (map single vs) (new part ms op ty old v) s3)) (sound (Value u.from) u.given s2 t2)
      (λ v s3 h3 t3.
      let operands = single old ∷ single v ∷ [] in
      let made = applied op ty operands u.made (All-cons IsValue (single old) (single v ∷ []) (single_is old h2.values) (All-cons IsValue (single v) [] (single_is v h3.values) (All-nil IsValue))) in
      let holds = stored_holds (part_kind part ms) u.to (apply op ty operands) (same ∙ u.stored) u.fits made.value in (
        subst (λ k. Holds k (new part ms op ty old v)) (same ∙ t.1) holds,
        part_written rules inputs fit part f.kind f.led f.named root (map single vs) (new part ms op ty old v) s3 is f.is (subst (λ k. Holds k (new part ms op ty old v)) (same ∙ sym (as_many part os ms vs all n)) holds) t3,
      ))))

  pub stepped_sound : (step : Increment) (ty : Ty) (root : Root) → Sound (kind_step rules (e.Step step ty root)) (expr_step (frame_by rules inputs) calls (e.Step step ty root))
  unfolding types_on_the_way
  stepped_sound step ty root kind h s typed =
      let t = if_so (rules.may_write root && steps ty (root_kind rules root)) (Value ty) kind h in
      let f = step_fits ty (root_kind rules root) (and_parts (rules.may_write root) (steps ty (root_kind rules root)) t.0).1 in
      let none = All-nil IsValue in
      then_typed (Holds (Value ty)) (Holds kind) (read_part (frame_by rules inputs) root (whole ty) [] s)
      (λ old s1. Gives (step_gives step (single old) (stepped step ty (single old)) ∷ []) (write_part (frame_by rules inputs) root (whole ty) [] (stepped step ty (single old) ∷ []) s1))
      (part_read rules inputs fit (whole ty) (Value ty) refl none root [] s none f.0 typed)
      (λ old s1 h1 t1.
      let one = promoted_typed ty (int_of 1) f.1 (count_typed 1 (lit< tt)).value in
      let held = single_type ty old h1 in
      let new = applied (step_op step) ty (single old ∷ one_of ty ∷ []) f.1 (All-cons IsValue (single old) (one_of ty ∷ []) held.value (All-cons IsValue (one_of ty) [] one.value none)) in (
        subst (λ k. Holds k (step_gives step (single old) (stepped step ty (single old)) ∷ [])) t.1 (one_value ty _ (by step (single old) (stepped step ty (single old)) held new)),
        part_written rules inputs fit (whole ty) (Value ty) refl none root [] (stepped step ty (single old) ∷ []) s1 none f.0 (one_value ty _ new) t1,
      ))
    where
      by : (step : Increment) (old new : AnyValue) → IsOfType ty old → IsOfType ty new → IsOfType ty (step_gives step old new)
      by PreIncrement old new a b = b
      by PreDecrement old new a b = b
      by PostIncrement old new a b = a
      by PostDecrement old new a b = a
