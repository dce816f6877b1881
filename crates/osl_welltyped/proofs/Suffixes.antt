-- Names, indices, components and fields keep what is known.
use Rattle.std.proofs.Common.{◌≡◌, ℕ, zero, suc, ◌+◌, Bool, true, false, not, ◌&&◌, nat_lt, List, [], ◌∷◌, ◌++◌, length, map, Option, Some, None, refl, sym, ap, ◌∙◌, subst, arith}
use Rattle.std.specs.Prelude.{if◌then◌else◌, slice_get, bytes_eq, codes}
use Rattle.std.specs.List.{list_all}
use Rattle.std.proofs.lemmas.Bool.{false≢true, and_from, and_parts}
use Rattle.osl_value.proofs.SameTypes.{same_type-true}
use Rattle.osl_value.specs.declared.types.Base.TheVariants.{Float, Color}
use Rattle.osl_value.specs.declared.types.Ty.{Ty}
use Rattle.osl_value.specs.AnyValue.{is_one_triple}
use Rattle.osl_value.specs.Types.{only, is_only}
use Rattle.osl_overload.specs.Kinds.{same_kind}
use Rattle.osl_overload.specs.declared.signature.Kind.{Kind}
use Rattle.osl_overload.specs.declared.signature.Kind.TheVariants.{Value, Structure, Void}
use Rattle.osl_typed.specs.declared.expr.Part.{Part}
use Rattle.osl_typed.specs.declared.expr.TypedExpr.{TypedExpr}
use Rattle.osl_typed.specs.declared.found.Binding.{Binding}
use Rattle.osl_typed.specs.declared.found.Form.{Form}
use Rattle.osl_typed.specs.declared.found.Form.TheVariants.{Place, Piece, Whole}
use Rattle.osl_typed.specs.declared.found.Found.{Found}
use Rattle.osl_typed.specs.declared.shader.TypedStructure.{TypedStructure}
use Rattle.osl_typed.specs.Frames.{fields_in}
use Rattle.osl_typed.specs.Operators.{int, float}
use Rattle.osl_typed.specs.Scopes.{look, field_named, FieldName, StructureName, Sight}
use Rattle.osl_typed.specs.Typing.{◌>>=◌, name, index, field, expression, tree_of, indexed_type, indexed_kind, with_index, with_component, with_field, with_field_in, component_of, component_in, selected_by, fields_of_structure, whole_of}
use Rattle.osl_welltyped.specs.Kinded.{Rules, is_int, led_to, component_fits, kinded}
use Rattle.osl_welltyped.specs.Agreement.{SightFits, NamesFit}
use Rattle.osl_welltyped.proofs.FoundFits.{FoundFits, FormFits, Leads, AreInts, told, named, pair_same, tree_fits, if_some}
use Rattle.osl_welltyped.proofs.Reached.{reached, reached_more}
use Rattle.osl_welltyped.proofs.Steps.{none_is_not, some_same, bound, held, same_kind-true}

-- an expression is no row
pub expression_is : (a b : Found) → expression a ≡ Some b → (a.is_row ≡ false) × (a ≡ b)
expression_is a b h =
    elim (a.is_row) as (λ t. (if t then None else Some a) ≡ Some b → (t ≡ false) × (a ≡ b)) [
      | true ↦ λ g. none_is_not b g
      | false ↦ λ g. (refl, some_same a b g)
    ] h

pub whole_told : (kind : Kind) → told kind 0 None ≡ Some (kind, false)
unfolding reached
whole_told (Value ty) = refl
whole_told (Structure m) = refl
whole_told Void = refl

pub whole_leads : (structures : List TypedStructure) (kind : Kind) → Leads structures kind (whole_of kind) 0 kind false
whole_leads structures kind = record { fields = refl; selected = whole_told kind }

-- ---- names

pub name_fits : (rules : Rules) (bindings : List Binding) (word : List ℕ) (a : Found) → NamesFit rules bindings → name word bindings ≡ Some a → FoundFits rules a
name_fits rules bindings word a names h =
    let b = bound (look word bindings) _ a h in
    let is = names.bound word b.value b.was in
    subst (FoundFits rules) (some_same _ a b.goes) (record {
      form = record { from = b.value.kind; rooted = is.kind_is; leads = whole_leads rules.structures b.value.kind; ints = refl; writes = is.writes };
      zero_is = λ f. absurd (false≢true f);
    })

-- ---- indices

snoc_length : {X : Type 0} (xs : List X) (x : X) → length (xs ++ x ∷ []) ≡ suc (length xs)
snoc_length [] x = refl
snoc_length (y ∷ ys) x = ap suc (snoc_length ys x)

ints_snoc : (rules : Rules) (xs : List TypedExpr) (x : TypedExpr) → AreInts rules xs → kinded rules x ≡ Some int → AreInts rules (xs ++ x ∷ [])
ints_snoc rules [] x ints is = ap (λ o. is_int o && true) is
ints_snoc rules (y ∷ ys) x ints is = let p = and_parts (is_int (kinded rules y)) (list_all is_int (map (kinded rules) ys)) ints in and_from _ _ (p.0) (ints_snoc rules ys x (p.1) is)

told_more : (from : Kind) (n : ℕ) (component : Option ℕ) (kind : Kind) (is_row : Bool) (to : Ty × Bool) → told from n component ≡ Some (kind, is_row) → indexed_kind is_row kind ≡ Some to
    → told from (suc n) component ≡ Some (Value (to.0), to.1)
told_more (Value ty) n None kind is_row to h i =
    let b = bound (reached ty n) (named None) (kind, is_row) h in
    let p = pair_same (Value (b.value.0)) kind (b.value.1) is_row b.goes in
    let j : indexed_type (b.value.1) (b.value.0) ≡ Some to = (λ k. indexed_kind (p.1 k) (p.0 k)) ∙ i in
    ap (λ (o : Option (Ty × Bool)). o >>= named None) (reached_more ty n ∙ ap (λ (o : Option (Ty × Bool)). o >>= λ r. indexed_type (r.1) (r.0)) b.was ∙ j)
told_more (Value ty) n (Some c) kind is_row to h i =
    let b = bound (reached ty n) (named (Some c)) (kind, is_row) h in
    let t = if_some {A = Kind × Bool} (component_fits (b.value.0) (Some c) && not (b.value.1)) (float, false) (kind, is_row) b.goes in
    none_is_not to ((λ k. indexed_kind ((t.1 k).1) ((t.1 k).0)) ∙ i)
told_more (Structure m) zero None kind is_row to h i = let p = pair_same (Structure m) kind false is_row h in none_is_not to (ap (λ k. indexed_kind is_row k) (p.0) ∙ i)
told_more (Structure m) zero (Some c) kind is_row to h i = none_is_not _ h
told_more (Structure m) (suc n) component kind is_row to h i = none_is_not _ h
told_more Void zero None kind is_row to h i = let p = pair_same Void kind false is_row h in none_is_not to (ap (λ k. indexed_kind is_row k) (p.0) ∙ i)
told_more Void zero (Some c) kind is_row to h i = none_is_not _ h
told_more Void (suc n) component kind is_row to h i = none_is_not _ h

indexed_form : (rules : Rules) (form : Form) (kind : Kind) (is_row : Bool) (i : TypedExpr) (to : Ty × Bool) → FormFits rules form kind is_row → kinded rules i ≡ Some int → indexed_kind is_row kind ≡ Some to
    → FormFits rules (with_index kind i form) (Value (to.0)) (to.1)
indexed_form rules (Place root writable part indices) kind is_row i to f is goes = record {
  from = f.from;
  rooted = f.rooted;
  leads = record { fields = f.leads.fields; selected = ap (λ n. told part.kind n part.component) (snoc_length indices i) ∙ told_more part.kind (length indices) part.component kind is_row to f.leads.selected goes };
  ints = ints_snoc rules indices i f.ints is;
  writes = f.writes;
}
indexed_form rules (Piece from a part indices) kind is_row i to f is goes = record {
  holds = f.holds;
  leads = record { fields = f.leads.fields; selected = ap (λ n. told part.kind n part.component) (snoc_length indices i) ∙ told_more part.kind (length indices) part.component kind is_row to f.leads.selected goes };
  ints = ints_snoc rules indices i f.ints is;
}
indexed_form rules (Whole a) kind is_row i to f is goes = record {
  holds = f.holds;
  leads = record { fields = refl; selected = told_more kind 0 None kind is_row to (whole_told kind ∙ ap (λ b. Some (kind, b)) (sym f.no_row)) goes };
  ints = ints_snoc rules [] i refl is;
}

pub index_fits : (rules : Rules) (a i b : Found) → FoundFits rules a → FoundFits rules i → index a i ≡ Some b → FoundFits rules b
unfolding index
index_fits rules a i b fa fi h =
    let n = bound (expression i) _ b h in
    let t = held (same_kind n.value.kind int) _ b n.goes in
    let to = bound (indexed_kind a.is_row a.kind) _ b (t.1) in
    let is = expression_is i n.value n.was in
    let fn : FoundFits rules n.value = subst (FoundFits rules) (is.1) fi in
    let whole : n.value.is_row ≡ false = ap (λ (x : Found). x.is_row) (sym (is.1)) ∙ is.0 in
    let int_is : kinded rules (tree_of n.value) ≡ Some int = tree_fits rules n.value fn whole ∙ ap Some (same_kind-true n.value.kind int (t.0)) in
    subst (FoundFits rules) (some_same _ b to.goes) (record {
      form = indexed_form rules a.form a.kind a.is_row (tree_of n.value) to.value fa.form int_is to.was;
      zero_is = λ f. absurd (false≢true f);
    })

-- ---- components

in_three : (first second third word : List ℕ) (c : ℕ) → component_in first second third word ≡ Some c → nat_lt c 3 ≡ true
in_three first second third word c =
    elim (bytes_eq word first) as (λ t. (if t then Some 0 else if bytes_eq word second then Some 1 else if bytes_eq word third then Some 2 else None) ≡ Some c → nat_lt c 3 ≡ true) [
      | true ↦ λ h. ap (λ n. nat_lt n 3) (sym (some_same 0 c h))
      | false ↦ elim (bytes_eq word second) as (λ t. (if t then Some 1 else if bytes_eq word third then Some 2 else None) ≡ Some c → nat_lt c 3 ≡ true) [
        | true ↦ λ h. ap (λ n. nat_lt n 3) (sym (some_same 1 c h))
        | false ↦ elim (bytes_eq word third) as (λ t. (if t then Some 2 else None) ≡ Some c → nat_lt c 3 ≡ true) [
          | true ↦ λ h. ap (λ n. nat_lt n 3) (sym (some_same 2 c h))
          | false ↦ λ h. none_is_not c h
        ]
      ]
    ]

component_is : (ty : Ty) (word : List ℕ) (c : ℕ) → component_of ty word ≡ Some c → component_fits ty (Some c) ≡ true
component_is ty word c =
    elim (is_only Color ty) as (λ t. is_only Color ty ≡ t → (if t then component_in (codes "r") (codes "g") (codes "b") word else if is_one_triple ty then component_in (codes "x") (codes "y") (codes "z") word else None) ≡ Some c → component_fits ty (Some c) ≡ true) [
      | true ↦ λ is h. and_from _ _ (ap (λ (k : Ty). is_one_triple k) (same_type-true ty (only Color) is)) (in_three _ _ _ word c h)
      | false ↦ λ is. elim (is_one_triple ty) as (λ t. is_one_triple ty ≡ t → (if t then component_in (codes "x") (codes "y") (codes "z") word else None) ≡ Some c → component_fits ty (Some c) ≡ true) [
        | true ↦ λ triple h. and_from _ _ triple (in_three _ _ _ word c h)
        | false ↦ λ triple h. none_is_not c h
      ] refl
    ] refl

value_same : (a b : Ty) → Value a ≡ Value b → a ≡ b
value_same a b h = cc

not_structure : {X : Type 0} (ty : Ty) (m : ℕ) → Value ty ≡ Structure m → X
not_structure ty m h = absurd cc

not_void : {X : Type 0} (kind : Kind) (ty : Ty) → Void ≡ Value ty → X
not_void kind ty h = absurd cc

void_structure : {X : Type 0} (m : ℕ) → Void ≡ Structure m → X
void_structure m h = absurd cc

abbrev float_where : Bool → Option (Kind × Bool)
float_where t = if t then Some (float, false) else None

told_component : (from : Kind) (n : ℕ) (component : Option ℕ) (ty : Ty) (c : ℕ) → told from n component ≡ Some (Value ty, false) → component_fits ty (Some c) ≡ true → told from n (Some c) ≡ Some (float, false)
told_component (Value from) n None ty c h fits =
    let b = bound (reached from n) (named None) (Value ty, false) h in
    let p = pair_same (Value (b.value.0)) (Value ty) (b.value.1) false b.goes in
    let test : (component_fits (b.value.0) (Some c) && not (b.value.1)) ≡ true =
    and_from _ _ (ap (λ (k : Ty). component_fits k (Some c)) (value_same (b.value.0) ty (p.0)) ∙ fits) (ap not (p.1)) in
    ap (λ (o : Option (Ty × Bool)). o >>= named (Some c)) b.was ∙ ap float_where test
told_component (Value from) n (Some d) ty c h fits =
    let b = bound (reached from n) (named (Some d)) (Value ty, false) h in
    let t = if_some {A = Kind × Bool} (component_fits (b.value.0) (Some d) && not (b.value.1)) (float, false) (Value ty, false) b.goes in
    let e : only Float ≡ ty = value_same (only Float) ty (ap (λ (p : Kind × Bool). p.0) (t.1)) in
    absurd (false≢true (ap (λ (k : Ty). component_fits k (Some c)) e ∙ fits))
told_component (Structure m) zero None ty c h fits = not_structure ty m (sym ((pair_same (Structure m) (Value ty) false false h).0))
told_component (Structure m) zero (Some d) ty c h fits = none_is_not _ h
told_component (Structure m) (suc n) component ty c h fits = none_is_not _ h
told_component Void zero None ty c h fits = not_void Void ty ((pair_same Void (Value ty) false false h).0)
told_component Void zero (Some d) ty c h fits = none_is_not _ h
told_component Void (suc n) component ty c h fits = none_is_not _ h

component_form : (rules : Rules) (form : Form) (kind : Kind) (ty : Ty) (c : ℕ) → kind ≡ Value ty → FormFits rules form kind false → component_fits ty (Some c) ≡ true → FormFits rules (with_component kind c form) float false
component_form rules (Place root writable part indices) kind ty c is f fits = record {
  from = f.from;
  rooted = f.rooted;
  leads = record { fields = f.leads.fields; selected = told_component part.kind (length indices) part.component ty c (f.leads.selected ∙ ap (λ k. Some (k, false)) is) fits };
  ints = f.ints;
  writes = f.writes;
}
component_form rules (Piece from a part indices) kind ty c is f fits = record {
  holds = f.holds;
  leads = record { fields = f.leads.fields; selected = told_component part.kind (length indices) part.component ty c (f.leads.selected ∙ ap (λ k. Some (k, false)) is) fits };
  ints = f.ints;
}
component_form rules (Whole a) kind ty c is f fits = record {
  holds = f.holds;
  leads = record { fields = refl; selected = told_component kind 0 None ty c (whole_told kind ∙ ap (λ k. Some (k, false)) is) fits };
  ints = refl;
}

-- ---- fields

field_at : (at : ℕ) (fields : List FieldName) (word : List ℕ) (r : ℕ × Kind) → field_named at fields word ≡ Some r
    → (k : ℕ) × (r.0 ≡ at + k) × (slice_get (map (λ f. f.kind) fields) k ≡ Some (r.1))
unfolding field_named
field_at at [] word r h = none_is_not r h
field_at at (x ∷ xs) word r h =
    (elim (bytes_eq x.name word) as (λ t. (if t then Some (at, x.kind) else field_named (at + 1) xs word) ≡ Some r → (k : ℕ) × (r.0 ≡ at + k) × (slice_get (map (λ f. f.kind) (x ∷ xs)) k ≡ Some (r.1))) [
      | true ↦ λ g. let e = some_same {A = ℕ × Kind} (at, x.kind) r g in
          let a : at ≡ r.0 = ap (λ (p : ℕ × Kind). p.0) e in
          let z : at + 0 ≡ at = omega arith in
          (0, sym a ∙ sym z, ap (λ (p : ℕ × Kind). Some (p.1)) e)
      | false ↦ λ g. let rest = field_at (at + 1) xs word r g in
          let z : at + 1 + rest.0 ≡ at + suc (rest.0) = omega arith in
          (suc (rest.0), rest.1 ∙ z, rest.2)
    ]) h

led_end : (structures : List TypedStructure) (o : Option Kind) → led_to structures o [] ≡ o
led_end structures None = refl
led_end structures (Some kind) = refl

led_snoc : (structures : List TypedStructure) (o : Option Kind) (fields : List ℕ) (field : ℕ) (kind : Kind) → led_to structures o fields ≡ Some kind
    → led_to structures o (fields ++ field ∷ []) ≡ slice_get (fields_in structures kind) field
led_snoc structures None fields field kind h = none_is_not kind h
led_snoc structures (Some k) [] field kind h = led_end structures _ ∙ ap (λ j. slice_get (fields_in structures j) field) (some_same k kind h)
led_snoc structures (Some k) (f ∷ fields) field kind h = led_snoc structures (slice_get (fields_in structures k) f) fields field kind h

abbrev names_in : Option StructureName → List FieldName
names_in o = elim o [ None ↦ [] | Some structure ↦ structure.fields ]

abbrev kinds_in : Option TypedStructure → List Kind
kinds_in o = elim o [ None ↦ [] | Some structure ↦ structure.fields ]

structure_field : (rules : Rules) (sight : Sight) (m : ℕ) (word : List ℕ) (r : ℕ × Kind) → SightFits rules sight → field_named 0 (fields_of_structure sight.structures m) word ≡ Some r
    → slice_get (fields_in rules.structures (Structure m)) (r.0) ≡ Some (r.1)
unfolding field_named
structure_field rules sight m word r fits =
    elim (slice_get sight.structures m) as (λ o. slice_get sight.structures m ≡ o → field_named 0 (names_in o) word ≡ Some r → slice_get (fields_in rules.structures (Structure m)) (r.0) ≡ Some (r.1)) [
      | None ↦ λ was h. none_is_not r h
      | Some s ↦ λ was h. let k = field_at 0 s.fields word r h in
          let z : 0 + k.0 ≡ k.0 = omega arith in
          ap (λ (o : Option TypedStructure). slice_get (kinds_in o) (r.0)) (fits.structures m s was) ∙ ap (λ j. slice_get (map (λ f. f.kind) s.fields) j) (k.1 ∙ z) ∙ k.2
    ] refl

record IsWholeStructure (from : Kind) (n : ℕ) (component : Option ℕ) (m : ℕ) : Type 0 where
  from_is : from ≡ Structure m
  none : n ≡ 0
  bare : component ≡ None

told_structure : (from : Kind) (n : ℕ) (component : Option ℕ) (m : ℕ) → told from n component ≡ Some (Structure m, false) → IsWholeStructure from n component m
told_structure (Value from) n None m h =
    let b = bound (reached from n) (named None) (Structure m, false) h in
    not_structure (b.value.0) m ((pair_same (Value (b.value.0)) (Structure m) (b.value.1) false b.goes).0)
told_structure (Value from) n (Some d) m h =
    let b = bound (reached from n) (named (Some d)) (Structure m, false) h in
    let t = if_some {A = Kind × Bool} (component_fits (b.value.0) (Some d) && not (b.value.1)) (float, false) (Structure m, false) b.goes in
    not_structure (only Float) m (ap (λ (p : Kind × Bool). p.0) (t.1))
told_structure (Structure j) zero None m h = record { from_is = (pair_same (Structure j) (Structure m) false false h).0; none = refl; bare = refl }
told_structure (Structure j) zero (Some d) m h = none_is_not _ h
told_structure (Structure j) (suc n) component m h = none_is_not _ h
told_structure Void zero None m h = void_structure m ((pair_same Void (Structure m) false false h).0)
told_structure Void zero (Some d) m h = none_is_not _ h
told_structure Void (suc n) component m h = none_is_not _ h

field_leads : (structures : List TypedStructure) (from : Kind) (part : Part) (n : ℕ) (kind : Kind) (m field : ℕ) (to : Kind) → kind ≡ Structure m → Leads structures from part n kind false
    → slice_get (fields_in structures (Structure m)) field ≡ Some to → Leads structures from (with_field_in field to part) n to false
field_leads structures from part n kind m field to is leads has =
    let w = told_structure part.kind n part.component m (leads.selected ∙ ap (λ k. Some (k, false)) is) in
    record {
      fields = led_snoc structures (Some from) part.fields field part.kind leads.fields ∙ ap (λ k. slice_get (fields_in structures k) field) w.from_is ∙ has;
      selected = (λ i. told to (w.none i) (w.bare i)) ∙ whole_told to;
    }

field_form : (rules : Rules) (form : Form) (kind : Kind) (m field : ℕ) (to : Kind) → kind ≡ Structure m → FormFits rules form kind false → slice_get (fields_in rules.structures (Structure m)) field ≡ Some to
    → FormFits rules (with_field kind field to form) to false
field_form rules (Place root writable part indices) kind m field to is f has =
    record { from = f.from; rooted = f.rooted; leads = field_leads rules.structures f.from part (length indices) kind m field to is f.leads has; ints = f.ints; writes = f.writes }
field_form rules (Piece from a part indices) kind m field to is f has =
    record { holds = f.holds; leads = field_leads rules.structures from part (length indices) kind m field to is f.leads has; ints = f.ints }
field_form rules (Whole a) kind m field to is f has =
    record { holds = f.holds; leads = field_leads rules.structures kind (whole_of kind) 0 kind m field to is (whole_leads rules.structures kind) has; ints = refl }

selected_fits : (rules : Rules) (sight : Sight) (word : List ℕ) (a b : Found) (kind : Kind) → SightFits rules sight → FormFits rules a.form a.kind false → a.kind ≡ kind
    → selected_by sight.structures word a kind ≡ Some b → FoundFits rules b
selected_fits rules sight word a b (Value ty) fits f is h =
    let c = bound (component_of ty word) _ b h in
    subst (FoundFits rules) (some_same _ b c.goes) (record {
      form = component_form rules a.form a.kind ty c.value is f (component_is ty word c.value c.was);
      zero_is = λ g. absurd (false≢true g);
    })
selected_fits rules sight word a b (Structure m) fits f is h =
    let r = bound (field_named 0 (fields_of_structure sight.structures m) word) _ b h in
    subst (FoundFits rules) (some_same _ b r.goes) (record {
      form = field_form rules a.form a.kind m (r.value.0) (r.value.1) is f (structure_field rules sight m word r.value fits r.was);
      zero_is = λ g. absurd (false≢true g);
    })
selected_fits rules sight word a b Void fits f is h = none_is_not b h

pub field_fits : (rules : Rules) (sight : Sight) (word : List ℕ) (a b : Found) → SightFits rules sight → FoundFits rules a → field sight.structures word a ≡ Some b → FoundFits rules b
unfolding field
field_fits rules sight word a b fits fa h =
    let c = bound (expression a) _ b h in
    let is = expression_is a c.value c.was in
    let fc : FoundFits rules c.value = subst (FoundFits rules) (is.1) fa in
    let whole : c.value.is_row ≡ false = ap (λ (x : Found). x.is_row) (sym (is.1)) ∙ is.0 in
    selected_fits rules sight word c.value b c.value.kind fits (subst (FormFits rules c.value.form c.value.kind) whole fc.form) refl c.goes
