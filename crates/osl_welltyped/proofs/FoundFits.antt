-- What typing knows of an expression, against the rules of well formed trees; and what its tree is by them.
use Rattle.std.proofs.Common.{◌≡◌, ℕ, zero, suc, ◌+◌, ◌<◌, Bool, true, false, not, ◌&&◌, nat_lt, List, length, map, Option, Some, None, refl, sym, ap, ◌∙◌, subst, arith}
use Rattle.std.specs.Prelude.{if◌then◌else◌, ◌==◌, is_some}
use Rattle.std.specs.List.{list_all}
use Rattle.std.proofs.lemmas.Bool.{false≢true, and_parts, and_from, or_left, eqb-true}
use Rattle.std.proofs.lemmas.List.{length-map}
use Rattle.osl_value.specs.declared.types.Base.{Base}
use Rattle.osl_value.specs.declared.types.Base.TheVariants.{Int, Float, Color, Point, Vector, Normal, Matrix, Str, Closure}
use Rattle.osl_value.specs.declared.types.Ty.{Ty}
use Rattle.osl_value.specs.AnyValue.{is_one_triple}
use Rattle.osl_value.specs.Types.{only, is_triple}
use Rattle.osl_overload.specs.Cost.{cost, promotion, promotion_of, is_spatial}
use Rattle.osl_overload.specs.Kinds.{same_kind}
use Rattle.osl_overload.specs.declared.signature.Kind.{Kind}
use Rattle.osl_overload.specs.declared.signature.Kind.TheVariants.{Value, Structure, Void}
use Rattle.osl_typed.specs.declared.expr.Root.{Root}
use Rattle.osl_typed.specs.declared.expr.Part.{Part}
use Rattle.osl_typed.specs.declared.expr.TypedExpr.{TypedExpr}
use Rattle.osl_typed.specs.declared.expr.TypedExpr.TheVariants as e
use Rattle.osl_typed.specs.declared.found.Form.{Form}
use Rattle.osl_typed.specs.declared.found.Form.TheVariants.{Place, Piece, Whole}
use Rattle.osl_typed.specs.declared.found.Found.{Found}
use Rattle.osl_typed.specs.declared.shader.TypedStructure.{TypedStructure}
use Rattle.osl_typed.specs.Operators.{int, float, closure}
use Rattle.osl_typed.specs.Selections.{part_kind, kind_at, selected_type, component_count}
use Rattle.osl_typed.specs.Typing.{◌>>=◌, indexed_type, tree_of, tree_of_form, fit, fit_at}
use Rattle.osl_welltyped.specs.Kinded.{Rules, is_int, led_to, component_fits, kind_selects, promotes, root_kind, read_fits, kinded}
use Rattle.osl_welltyped.proofs.Steps.{none_is_not, some_same, bound, kind_is, only_if_so, same_kind-true}
use Rattle.osl_welltyped.proofs.KindedLaws.{kinded-Variable, kinded-PartOf, kinded-Promote}
use Rattle.osl_welltyped.proofs.Reached.{reached, reached_more, reached_ends}

-- ---- tests of three

pub three : (a b c : Bool) → a ≡ true → b ≡ true → c ≡ true → (a && b && c) ≡ true
three a b c p q r = λ i. p i && q i && r i

pub three_parts : (a b c : Bool) → (a && b && c) ≡ true → (a ≡ true) × (b ≡ true) × (c ≡ true)
three_parts true true true h = (refl, refl, refl)
three_parts true true false h = absurd (false≢true h)
three_parts true false c h = absurd (false≢true h)
three_parts false b c h = absurd (false≢true h)

-- ---- parts

-- the kind that indices and a component lead to, and whether it is a row of a matrix
abbrev pub named : Option ℕ → Ty × Bool → Option (Kind × Bool)
named None r = Some (Value (r.0), r.1)
named (Some c) r = if component_fits (r.0) (Some c) && not (r.1) then Some (float, false) else None

abbrev pub whole_only : Kind → ℕ → Option ℕ → Option (Kind × Bool)
whole_only kind zero None = Some (kind, false)
whole_only kind zero (Some c) = None
whole_only kind (suc n) component = None

abbrev pub told : Kind → ℕ → Option ℕ → Option (Kind × Bool)
told (Value ty) n component = reached ty n >>= named component
told (Structure m) n component = whole_only (Structure m) n component
told Void n component = whole_only Void n component

-- from a kind by fields, so many indices and perhaps a component
pub record Leads (structures : List TypedStructure) (from : Kind) (part : Part) (n : ℕ) (kind : Kind) (is_row : Bool) : Type 0 where
  pub fields : led_to structures (Some from) part.fields ≡ Some part.kind
  pub selected : told part.kind n part.component ≡ Some (kind, is_row)

abbrev pub AreInts : Rules → List TypedExpr → Type 0
AreInts rules indices = list_all is_int (map (kinded rules) indices) ≡ true

pub record PlaceFits (rules : Rules) (root : Root) (writable : Bool) (part : Part) (indices : List TypedExpr) (kind : Kind) (is_row : Bool) : Type 0 where
  pub from : Kind
  pub rooted : root_kind rules root ≡ Some from
  pub leads : Leads rules.structures from part (length indices) kind is_row
  pub ints : AreInts rules indices
  pub writes : writable ≡ true → rules.may_write root ≡ true

pub record PieceFits (rules : Rules) (from : Kind) (a : TypedExpr) (part : Part) (indices : List TypedExpr) (kind : Kind) (is_row : Bool) : Type 0 where
  pub holds : kinded rules a ≡ Some from
  pub leads : Leads rules.structures from part (length indices) kind is_row
  pub ints : AreInts rules indices

pub record WholeFits (rules : Rules) (a : TypedExpr) (kind : Kind) (is_row : Bool) : Type 0 where
  pub holds : kinded rules a ≡ Some kind
  pub no_row : is_row ≡ false

abbrev pub FormFits : Rules → Form → Kind → Bool → Type 0
FormFits rules (Place root writable part indices) kind is_row = PlaceFits rules root writable part indices kind is_row
FormFits rules (Piece from a part indices) kind is_row = PieceFits rules from a part indices kind is_row
FormFits rules (Whole a) kind is_row = WholeFits rules a kind is_row

pub record FoundFits (rules : Rules) (a : Found) : Type 0 where
  pub form : FormFits rules a.form a.kind a.is_row
  -- the literal 0 is an int
  pub zero_is : a.zero_literal ≡ true → a.kind ≡ int

-- ---- a part by the rules

pub record IsSelected (from : Kind) (n : ℕ) (component : Option ℕ) (kind : Kind) : Type 0 where
  pub selects : kind_selects from n component ≡ true
  pub kind_is : kind_at from (n + component_count component) ≡ kind

pub pair_same : {A B : Type 0} (a c : A) (b d : B) → ◌≡◌ {A = Option (A × B)} (Some (a, b)) (Some (c, d)) → (a ≡ c) × (b ≡ d)
pair_same {A} {B} a c b d h = let e = some_same {A = A × B} (a, b) (c, d) h in (ap (λ (p : A × B). p.0) e, ap (λ (p : A × B). p.1) e)

pub if_some : {A : Type 0} (t : Bool) (x y : A) → (if t then Some x else None) ≡ Some y → (t ≡ true) × (x ≡ y)
if_some true x y h = (refl, some_same x y h)
if_some false x y h = none_is_not y h

at_zero : (b : Base) (len : ℕ) → (len == 0) ≡ true → indexed_type false (record { base = b; len = len }) ≡ indexed_type false (only b)
at_zero b len h = ap (λ n. indexed_type false (record { base = b; len = n })) (eqb-true len 0 h)

triple_indexed : (b : Base) (len : ℕ) → is_one_triple (record { base = b; len = len }) ≡ true → indexed_type false (record { base = b; len = len }) ≡ Some (only Float, false)
triple_indexed Color len h = at_zero Color len h
triple_indexed Point len h = at_zero Point len h
triple_indexed Vector len h = at_zero Vector len h
triple_indexed Normal len h = at_zero Normal len h
triple_indexed Int len h = absurd (false≢true h)
triple_indexed Float len h = absurd (false≢true h)
triple_indexed Matrix len h = absurd (false≢true h)
triple_indexed Str len h = absurd (false≢true h)
triple_indexed Closure len h = absurd (false≢true h)

not_so : (b : Bool) → not b ≡ true → b ≡ false
not_so true h = absurd (false≢true h)
not_so false h = refl

selected_value : (ty : Ty) (n : ℕ) (component : Option ℕ) (r : Ty × Bool) (kind : Kind) → reached ty n ≡ Some r → named component r ≡ Some (kind, false) → IsSelected (Value ty) n component kind
selected_value ty n None r kind was goes =
    let p = pair_same (Value (r.0)) kind (r.1) false goes in
    let ends = reached_ends ty n (r.0) (was ∙ ap (λ b. Some (r.0, b)) (p.1)) in
    let same : n + 0 ≡ n = omega arith in
    record { selects = and_from _ _ ends.selects refl; kind_is = ap (λ k. Value (selected_type ty k)) same ∙ ap Value ends.type ∙ p.0 }
selected_value ty n (Some c) r kind was goes =
    let i = if_some {A = Kind × Bool} (component_fits (r.0) (Some c) && not (r.1)) (float, false) (kind, false) goes in
    let tests = and_parts (component_fits (r.0) (Some c)) (not (r.1)) (i.0) in
    let fits = and_parts (is_one_triple (r.0)) (nat_lt c 3) (tests.0) in
    let at : reached ty n ≡ Some (r.0, false) = was ∙ ap (λ b. Some (r.0, b)) (not_so (r.1) (tests.1)) in
    let ends = reached_ends ty n (r.0) at in
    let next : reached ty (suc n) ≡ Some (only Float, false) =
    reached_more ty n ∙ ap (λ (o : Option (Ty × Bool)). o >>= λ r. indexed_type (r.1) (r.0)) at ∙ triple_indexed (r.0).base (r.0).len (fits.0) in
    let same : n + 1 ≡ suc n = omega arith in
    record {
      selects = and_from _ _ ends.selects (ap (λ to. component_fits to (Some c)) ends.type ∙ tests.0);
      kind_is = ap (λ k. Value (selected_type ty k)) same ∙ ap Value (reached_ends ty (suc n) (only Float) next).type ∙ ap (λ (p : Kind × Bool). p.0) (i.1);
    }

pub selected_of : (from : Kind) (n : ℕ) (component : Option ℕ) (kind : Kind) → told from n component ≡ Some (kind, false) → IsSelected from n component kind
selected_of (Value ty) n component kind h = let b = bound (reached ty n) (named component) (kind, false) h in selected_value ty n component b.value kind b.was b.goes
selected_of (Structure m) zero None kind h = record { selects = refl; kind_is = (pair_same (Structure m) kind false false h).0 }
selected_of (Structure m) zero (Some c) kind h = none_is_not _ h
selected_of (Structure m) (suc n) component kind h = none_is_not _ h
selected_of Void zero None kind h = record { selects = refl; kind_is = (pair_same Void kind false false h).0 }
selected_of Void zero (Some c) kind h = none_is_not _ h
selected_of Void (suc n) component kind h = none_is_not _ h

-- ---- trees

same_count : (rules : Rules) (part : Part) (indices : List TypedExpr) → part_kind part (map (kinded rules) indices) ≡ part_kind part indices
same_count rules part indices = ap (λ n. kind_at part.kind (n + component_count part.component)) (length-map indices (kinded rules))

pub record ReadFits (rules : Rules) (root : Root) (part : Part) (indices : List TypedExpr) (kind : Kind) : Type 0 where
  pub fits : read_fits rules root part (map (kinded rules) indices) ≡ true
  pub kind_is : part_kind part (map (kinded rules) indices) ≡ kind
  pub plain : part_kind part indices ≡ kind

pub place_read : (rules : Rules) (root : Root) (writable : Bool) (part : Part) (indices : List TypedExpr) (kind : Kind)
    → PlaceFits rules root writable part indices kind false → ReadFits rules root part indices kind
place_read rules root writable part indices kind f =
    let s = selected_of part.kind (length indices) part.component kind f.leads.selected in
    record {
      fits = three _ _ _ (kind_is part.kind _ (ap (λ o. led_to rules.structures o part.fields) f.rooted ∙ f.leads.fields)) f.ints
          (ap (λ n. kind_selects part.kind n part.component) (length-map indices (kinded rules)) ∙ s.selects);
      kind_is = same_count rules part indices ∙ s.kind_is;
      plain = s.kind_is;
    }

form_tree : (rules : Rules) (form : Form) (kind : Kind) → FormFits rules form kind false → kinded rules (tree_of_form form) ≡ Some kind
form_tree rules (Place root writable part indices) kind f =
    let r = place_read rules root writable part indices kind f in
    kinded-Variable rules root part indices ∙ only_if_so _ _ r.fits ∙ ap Some r.kind_is
form_tree rules (Piece from a part indices) kind f =
    let s = selected_of part.kind (length indices) part.component kind f.leads.selected in
    kinded-PartOf rules from a part indices ∙ only_if_so _ _ (and_from _ _ (kind_is from (kinded rules a) f.holds)
    (three _ _ _ (kind_is part.kind _ f.leads.fields) f.ints (ap (λ n. kind_selects part.kind n part.component) (length-map indices (kinded rules)) ∙ s.selects)))
    ∙ ap Some (same_count rules part indices ∙ s.kind_is)
form_tree rules (Whole a) kind f = f.holds

pub tree_fits : (rules : Rules) (a : Found) → FoundFits rules a → a.is_row ≡ false → kinded rules (tree_of a) ≡ Some a.kind
tree_fits rules a f whole = form_tree rules a.form a.kind (subst (FormFits rules a.form a.kind) whole f.form)

-- ---- what fits a kind

never : (t : Bool) (n : ℕ) → 0 < n → (if t then Some n else None) ≡ Some 0 → ⊥
never true n some h = let e : n ≡ 0 = some_same n 0 h in omega arith
never false n some h = none_is_not 0 h

costs_some : (from to : Base) → promotion from to ≡ Some 0 → ⊥
costs_some Int Float h = never true 1 (omega arith) h
costs_some Int to h = never (is_triple to) 3 (omega arith) h
costs_some Float to h = never (is_triple to) 2 (omega arith) h
costs_some from to h = never (is_spatial from && is_spatial to) 1 (omega arith) h

promotion_costs : (t : Bool) (from to : Base) → (if t then promotion from to else None) ≡ Some 0 → ⊥
promotion_costs true from to h = costs_some from to h
promotion_costs false from to h = none_is_not 0 h

promoted_fits : (rules : Rules) (kind k : Kind) (tree x : TypedExpr) (n : ℕ) → kinded rules tree ≡ Some k → promotion_of k kind ≡ Some n → fit_at kind tree (Some n) ≡ Some x → kinded rules x ≡ Some kind
promoted_fits rules (Value ty) (Value from) tree x zero holds p h = absurd (promotion_costs ((from.len == 0) && (ty.len == 0)) from.base ty.base p)
promoted_fits rules (Value ty) (Value from) tree x (suc n) holds p h =
    ap (kinded rules) (sym (some_same _ x h)) ∙ kinded-Promote rules ty tree
    ∙ only_if_so (promotes ty (kinded rules tree)) (Value ty) (ap (promotes ty) holds ∙ or_left (is_some (promotion_of (Value from) (Value ty))) _ (ap is_some p))
promoted_fits rules (Value ty) (Structure m) tree x n holds p h = none_is_not n p
promoted_fits rules (Value ty) Void tree x n holds p h = none_is_not n p
promoted_fits rules (Structure j) (Value from) tree x n holds p h = none_is_not n p
promoted_fits rules (Structure j) (Structure m) tree x n holds p h = none_is_not n p
promoted_fits rules (Structure j) Void tree x n holds p h = none_is_not n p
promoted_fits rules Void (Value from) tree x n holds p h = none_is_not n p
promoted_fits rules Void (Structure m) tree x n holds p h = none_is_not n p
promoted_fits rules Void Void tree x n holds p h = none_is_not n p

zero_fits : (rules : Rules) (kind : Kind) (tree x : TypedExpr) → kinded rules tree ≡ Some int → kind ≡ closure → fit_at kind tree (Some 3) ≡ Some x → kinded rules x ≡ Some kind
zero_fits rules kind tree x holds is h =
    subst (λ k. fit_at k tree (Some 3) ≡ Some x → kinded rules x ≡ Some k) (sym is) (λ g.
    ap (kinded rules) (sym (some_same (e.Promote (only Closure) tree) x g)) ∙ kinded-Promote rules (only Closure) tree
    ∙ only_if_so (promotes (only Closure) (kinded rules tree)) closure (ap (promotes (only Closure)) holds)) h

by_cost : (rules : Rules) (kind k : Kind) (zero_literal : Bool) (tree x : TypedExpr) → kinded rules tree ≡ Some k → (zero_literal ≡ true → k ≡ int)
    → fit_at kind tree (cost (record { kind = k; zero_literal = zero_literal; writable = false }) kind) ≡ Some x → kinded rules x ≡ Some kind
by_cost rules kind k zero_literal tree x holds zero_is =
    elim (same_kind k kind) as (λ t. same_kind k kind ≡ t → fit_at kind tree (if t then Some 0 else (if zero_literal && same_kind kind closure then Some 3 else promotion_of k kind)) ≡ Some x → kinded rules x ≡ Some kind) [
      | true ↦ λ same h. ap (kinded rules) (sym (some_same tree x h)) ∙ holds ∙ ap Some (same_kind-true k kind same)
      | false ↦ λ other. elim (zero_literal && same_kind kind closure) as (λ u. (zero_literal && same_kind kind closure) ≡ u → fit_at kind tree (if u then Some 3 else promotion_of k kind) ≡ Some x → kinded rules x ≡ Some kind) [
        | true ↦ λ both h. let p = and_parts zero_literal (same_kind kind closure) both in
            zero_fits rules kind tree x (holds ∙ ap Some (zero_is (p.0))) (same_kind-true kind closure (p.1)) h
        | false ↦ λ neither. elim (promotion_of k kind) as (λ o. promotion_of k kind ≡ o → fit_at kind tree o ≡ Some x → kinded rules x ≡ Some kind) [
          | None ↦ λ was h. none_is_not x h
          | Some n ↦ λ was h. promoted_fits rules kind k tree x n holds was h
        ] refl
      ] refl
    ] refl

-- what fits a kind has it
pub fit_kinded : (rules : Rules) (kind : Kind) (a : Found) (x : TypedExpr) → FoundFits rules a → a.is_row ≡ false → fit kind a ≡ Some x → kinded rules x ≡ Some kind
unfolding fit
fit_kinded rules kind a x f whole h = by_cost rules kind a.kind a.zero_literal (tree_of a) x (tree_fits rules a f whole) f.zero_is h
