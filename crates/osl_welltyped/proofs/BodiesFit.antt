-- Initialisers, declarations and statements: what is typed fits the rules, declares what the frame gains, and keeps the names.
use Rattle.std.proofs.Common.{◌≡◌, ℕ, zero, suc, ◌+◌, ◌<◌, ◌≤◌, Bool, true, false, not, ◌&&◌, List, [], ◌∷◌, ◌++◌, length, map, replicate, nat_le, Option, Some, None, refl, sym, ap, ◌∙◌, subst, arith, append_assoc, length-append}
use Rattle.std.specs.Prelude.{if◌then◌else◌, ◌==◌, slice_get, bytes_eq, nat_lt, ℤ, pos, negsuc}
use Rattle.std.specs.List.{list_all}
use Rattle.std.proofs.lemmas.Bool.{false≢true, and_from, and_parts, eq-eqb, le-leb, leb-true, lt-ltb}
use Rattle.std.proofs.lemmas.List.Folds.{list_all-append}
use Rattle.osl_value.specs.declared.types.Base.{Base}
use Rattle.osl_value.specs.declared.types.Base.TheVariants.{Closure}
use Rattle.osl_value.specs.Types.{only, same_base, longest_array}
use Rattle.osl_tree.specs.declared.expr.BaseType.{BaseType}
use Rattle.osl_tree.specs.declared.expr.BaseType.TheVariants as bases
use Rattle.osl_tree.specs.declared.stmt.TypeName.TheVariants as types
use Rattle.osl_typed.specs.Operators.{base_named}
use Rattle.osl_value.specs.AnyValue.{is_array, element_type}
use Rattle.osl_overload.specs.declared.signature.Kind.{Kind}
use Rattle.osl_overload.specs.declared.signature.Kind.TheVariants.{Value, Structure, Void}
use Rattle.osl_tree.specs.declared.expr.Expr.{Expr}
use Rattle.osl_tree.specs.declared.stmt.Init.{Init}
use Rattle.osl_tree.specs.declared.stmt.Init.TheVariants as begin
use Rattle.osl_tree.specs.declared.stmt.TypeName.{TypeName}
use Rattle.osl_tree.specs.declared.stmt.Var.{Var}
use Rattle.osl_typed.specs.declared.expr.Root.TheVariants as root
use Rattle.osl_typed.specs.declared.expr.TypedExpr.{TypedExpr}
use Rattle.osl_typed.specs.declared.found.Binding.{Binding}
use Rattle.osl_typed.specs.declared.found.Found.{Found}
use Rattle.osl_typed.specs.declared.stmt.Declared.{Declared}
use Rattle.osl_typed.specs.declared.stmt.TypedInit.{TypedInit}
use Rattle.osl_typed.specs.declared.shader.TypedStructure.{TypedStructure}
use Rattle.osl_typed.specs.Frames.{fields_of}
use Rattle.osl_typed.specs.Scopes.{Scope, Sight, FieldName, StructureName, look, is_here, with_variable, structure_named}
use Rattle.osl_typed.specs.Typing.{◌>>=◌, sequence, typing, fit}
use Rattle.osl_typed.specs.BodyTyping.{array_kind, declared_kind, listed_kinds, fit_first, begun, maybe_begun, declare, declare_all}
use Rattle.osl_welltyped.specs.Agreement.{IsBound, SightFits, NamesFit}
use Rattle.osl_welltyped.specs.Kinded.{Rules, is_type, root_kind, kinded}
use Rattle.osl_welltyped.specs.StatementsFit.{has_kind, items_fit, list_fits, init_fits, maybe_fits, declared_fits, are_numbered}
use Rattle.osl_welltyped.specs.WellTyped.{kinds_declared}
use Rattle.osl_welltyped.proofs.ExpressionsFit.{typing_stands}
use Rattle.osl_welltyped.proofs.CallsFit.{append_none}
use Rattle.osl_welltyped.proofs.FoundFits.{fit_kinded, three, three_parts}
use Rattle.osl_welltyped.proofs.OperatorsFit.{Stands}
use Rattle.osl_welltyped.proofs.Steps.{none_is_not, some_same, bound, held, kind_is}

-- ---- initialisers

module _ (rules : Rules) (sight : Sight) (bindings : List Binding) (seen : SightFits rules sight) (names : NamesFit rules bindings) where
  abbrev AllStood : List Found → Type 0
  AllStood [] = Unit {0}
  AllStood (a ∷ args) = Stands rules a × AllStood args

  all_stood : (items : List Expr) (all : List Found) → sequence (map (typing sight bindings) items) ≡ Some all → AllStood all
  unfolding sequence
  all_stood [] all h = subst AllStood (some_same [] all h) tt
  all_stood (x ∷ items) all h =
      let a = bound (typing sight bindings x) _ all h in
      let rest = bound (sequence (map (typing sight bindings) items)) _ all a.goes in
      subst AllStood (some_same (a.value ∷ rest.value) all rest.goes) (typing_stands rules sight bindings seen names x a.value a.was, all_stood items rest.value rest.was)

  first_items : (kinds : List Kind) (all : List Found) (xs : List TypedExpr) → AllStood all → fit_first kinds all ≡ Some xs → items_fit rules kinds xs ≡ true
  unfolding fit_first
  first_items kinds [] xs s h = ap (items_fit rules kinds) (sym (some_same [] xs h))
  first_items [] (a ∷ all) xs s h = none_is_not xs h
  first_items (kind ∷ kinds) (a ∷ all) xs s h =
      let x = bound (fit kind a) _ xs h in
      let rest = bound (fit_first kinds all) _ xs x.goes in
      ap (items_fit rules (kind ∷ kinds)) (sym (some_same (x.value ∷ rest.value) xs rest.goes))
      ∙ and_from _ _ (kind_is kind (kinded rules x.value) (fit_kinded rules kind a x.value (s.0).fits (s.0).whole x.was)) (first_items kinds all rest.value (s.1) rest.was)

  -- the elements of an array
  elements_fit : (n : ℕ) (kind : Kind) (xs : List TypedExpr) → items_fit rules (replicate n kind) xs ≡ true → (nat_le (length xs) n && list_all (has_kind rules kind) xs) ≡ true
  elements_fit n kind [] h = and_from _ _ (le-leb 0 n (omega arith)) refl
  elements_fit zero kind (x ∷ xs) h = absurd (false≢true h)
  elements_fit (suc n) kind (x ∷ xs) h =
      let p = and_parts (has_kind rules kind x) (items_fit rules (replicate n kind) xs) h in
      let q = and_parts (nat_le (length xs) n) (list_all (has_kind rules kind) xs) (elements_fit n kind xs (p.1)) in
      let few : length xs ≤ n = leb-true (length xs) n (q.0) in
      and_from _ _ (le-leb (suc (length xs)) (suc n) (omega arith)) (and_from _ _ (p.0) (q.1))

  items_none : (xs : List TypedExpr) (kinds : List Kind) → items_fit rules [] xs ≡ true → items_fit rules kinds xs ≡ true
  items_none [] kinds h = refl
  items_none (x ∷ xs) kinds h = absurd (false≢true h)

  abbrev names_in : Option StructureName → List FieldName
  names_in o = elim o [ None ↦ [] | Some structure ↦ structure.fields ]

  abbrev kinds_in : Option TypedStructure → List Kind
  kinds_in o = elim o [ None ↦ [] | Some structure ↦ structure.fields ]

  structure_items : (m : ℕ) (xs : List TypedExpr) (o : Option StructureName) → slice_get sight.structures m ≡ o → items_fit rules (map (λ field. field.kind) (names_in o)) xs ≡ true → items_fit rules (fields_of rules.structures m) xs ≡ true
  structure_items m xs None was h = items_none xs (fields_of rules.structures m) h
  structure_items m xs (Some s) was h = ap (λ o. items_fit rules (kinds_in o) xs) (seen.structures m s was) ∙ h

  list_begun : (kind : Kind) (kinds : List Kind) (xs : List TypedExpr) → listed_kinds sight.structures kind ≡ Some kinds → items_fit rules kinds xs ≡ true → list_fits rules kind xs ≡ true
  list_begun (Value ty) kinds xs h fits =
      (elim (is_array ty) as (λ t. is_array ty ≡ t → (if t then Some (replicate ty.len (Value (element_type ty))) else None) ≡ Some kinds → list_fits rules (Value ty) xs ≡ true) [
        | true ↦ λ is g. let p = and_parts (nat_le (length xs) ty.len) (list_all (has_kind rules (Value (element_type ty))) xs)
            (elements_fit ty.len (Value (element_type ty)) xs (ap (λ ks. items_fit rules ks xs) (some_same _ kinds g) ∙ fits)) in
            three _ _ _ is (p.0) (p.1)
        | false ↦ λ is g. none_is_not kinds g
      ]) refl h
  list_begun (Structure m) kinds xs h fits = structure_items m xs (slice_get sight.structures m) refl (ap (λ ks. items_fit rules ks xs) (some_same _ kinds h) ∙ fits)
  list_begun Void kinds xs h fits = none_is_not kinds h

-- what a variable begins with has its kind
pub begun_fits : (rules : Rules) (sight : Sight) (scope : Scope) → SightFits rules sight → NamesFit rules scope.bindings → (kind : Kind) (x : Init) (y : TypedInit) → begun sight scope kind x ≡ Some y → init_fits rules kind y ≡ true
unfolding begun
begun_fits rules sight scope seen names kind (begin.Expr a) y h =
    let f = bound (typing sight scope.bindings a >>= fit kind) _ y h in
    let b = bound (typing sight scope.bindings a) (fit kind) f.value f.was in
    let s = typing_stands rules sight scope.bindings seen names a b.value b.was in
    ap (init_fits rules kind) (sym (some_same _ y f.goes)) ∙ kind_is kind (kinded rules f.value) (fit_kinded rules kind b.value f.value s.fits s.whole b.goes)
begun_fits rules sight scope seen names kind (begin.List items) y h =
    let kinds = bound (listed_kinds sight.structures kind) _ y h in
    let all = bound (sequence (map (typing sight scope.bindings) items)) _ y kinds.goes in
    let xs = bound (fit_first kinds.value all.value) _ y all.goes in
    ap (init_fits rules kind) (sym (some_same _ y xs.goes))
    ∙ list_begun rules sight scope.bindings seen names kind kinds.value xs.value kinds.was
    (first_items rules sight scope.bindings seen names kinds.value all.value xs.value (all_stood rules sight scope.bindings seen names items all.value all.was) xs.was)

maybe_fit : (rules : Rules) (sight : Sight) (scope : Scope) → SightFits rules sight → NamesFit rules scope.bindings → (kind : Kind) (x : Option Init) (y : Option TypedInit) → maybe_begun sight scope kind x ≡ Some y → maybe_fits rules kind y ≡ true
maybe_fit rules sight scope seen names kind None y h = ap (maybe_fits rules kind) (sym (some_same None y h))
maybe_fit rules sight scope seen names kind (Some x) y h =
    let b = bound (begun sight scope kind x) _ y h in
    ap (maybe_fits rules kind) (sym (some_same _ y b.goes)) ∙ begun_fits rules sight scope seen names kind x b.value b.was

-- ---- kinds of declarations

-- the kind of a variable, where so many structures are known
abbrev pub kind_below : ℕ → Kind → Bool
kind_below n (Value ty) = is_type ty
kind_below n (Structure m) = nat_lt m n
kind_below n Void = false

no_closure : (c z : Bool) → not c ≡ true → not (c && not z) ≡ true
no_closure true z h = absurd (false≢true h)
no_closure false z h = refl

lt_is : (m n : ℕ) → m < n → nat_lt m n ≡ true
lt_is m n h = lt-ltb m n h

named_below : (at : ℕ) (xs : List StructureName) (name : List ℕ) (m : ℕ) → structure_named at xs name ≡ Some m → m < at + length xs
unfolding structure_named
named_below at [] name m h = none_is_not m h
named_below at (x ∷ xs) name m h =
    (elim (bytes_eq x.name name) as (λ t. (if t then Some at else structure_named (at + 1) xs name) ≡ Some m → m < at + suc (length xs)) [
      | true ↦ λ g. let e : at ≡ m = some_same at m g in omega arith
      | false ↦ λ g. let r = named_below (at + 1) xs name m g in omega arith
    ]) h

array_type : (base : Base) (n : ℤ) (kind : Kind) → array_kind base n ≡ Some kind → (count : ℕ) → kind_below count kind ≡ true
array_type base (pos n) kind h count =
    (elim (nat_le 1 n && nat_le n longest_array && not (same_base base Closure)) as (λ t. (nat_le 1 n && nat_le n longest_array && not (same_base base Closure)) ≡ t → (if t then Some (Value (record { base = base; len = n })) else None) ≡ Some kind → kind_below count kind ≡ true) [
      | true ↦ λ is g. let p = three_parts (nat_le 1 n) (nat_le n longest_array) (not (same_base base Closure)) is in
          ap (kind_below count) (sym (some_same _ kind g)) ∙ and_from _ _ (p.1) (no_closure (same_base base Closure) (n == 0) (p.2))
      | false ↦ λ is g. none_is_not kind g
    ]) refl h
array_type base (negsuc n) kind h count = none_is_not kind h

alone_type : (to : BaseType) (count : ℕ) → kind_below count (Value (only (base_named to))) ≡ true
alone_type bases.Int count = refl
alone_type bases.Float count = refl
alone_type bases.Color count = refl
alone_type bases.Point count = refl
alone_type bases.Vector count = refl
alone_type bases.Normal count = refl
alone_type bases.Matrix count = refl
alone_type bases.Str count = refl
alone_type bases.Closure count = refl

pub declared_below : (structures : List StructureName) (type : TypeName) (len : Option ℤ) (kind : Kind) → declared_kind structures type len ≡ Some kind → kind_below (length structures) kind ≡ true
declared_below structures (types.Base base) None kind h = ap (kind_below (length structures)) (sym (some_same _ kind h)) ∙ alone_type base (length structures)
declared_below structures (types.Base base) (Some n) kind h = array_type (base_named base) n kind h (length structures)
declared_below structures (types.Struct word) None kind h =
    let m = bound (structure_named 0 structures word) _ kind h in
    let b = named_below 0 structures word m.value m.was in
    let z : 0 + length structures ≡ length structures = omega arith in
    ap (kind_below (length structures)) (sym (some_same _ kind m.goes)) ∙ lt_is m.value (length structures) (omega arith)
declared_below structures (types.Struct word) (Some n) kind h = none_is_not kind h

-- ---- what a scope gains

-- the frame of the rules has these variables
abbrev pub Extends : Rules → List Kind → Type 0
Extends rules kinds = (k : ℕ) (kind : Kind) → slice_get kinds k ≡ Some kind → root_kind rules (root.Variable k) ≡ Some kind

-- variables from a number on may be assigned
abbrev pub Fresh : Rules → ℕ → Type 0
Fresh rules n = (k : ℕ) → n ≤ k → rules.may_write (root.Variable k) ≡ true

pub record Sees (rules : Rules) (sight : Sight) (scope : Scope) (kinds : List Kind) : Type 0 where
  pub sees : SightFits rules sight
  pub names : NamesFit rules scope.bindings
  pub fresh : Fresh rules (length scope.kinds)
  pub holds : Extends rules kinds

-- From a scope to another, with declarations, where a test holds by the rules.
pub record Grows (sight : Sight) (scope : Scope) (ds : List Declared) (after : Scope) (test : Rules → Bool) : Type 0 where
  pub kinds : after.kinds ≡ scope.kinds ++ kinds_declared ds
  pub numbers : are_numbered (length scope.kinds) ds ≡ true
  pub sound : list_all (kind_below (length sight.structures)) (kinds_declared ds) ≡ true
  pub fits : (rules : Rules) → Sees rules sight scope after.kinds → (test rules ≡ true) × NamesFit rules after.bindings

pub at_end : {X : Type 0} (xs : List X) (x : X) → slice_get (xs ++ x ∷ []) (length xs) ≡ Some x
at_end [] x = refl
at_end (y ∷ xs) x = at_end xs x

pub at_front : {X : Type 0} (xs ys : List X) (k : ℕ) (x : X) → slice_get xs k ≡ Some x → slice_get (xs ++ ys) k ≡ Some x
at_front [] ys k x h = none_is_not x h
at_front (y ∷ xs) ys zero x h = h
at_front (y ∷ xs) ys (suc k) x h = at_front xs ys k x h

extends_front : (rules : Rules) (xs ys zs : List Kind) → zs ≡ xs ++ ys → Extends rules zs → Extends rules xs
extends_front rules xs ys zs is h = λ k kind at. h k kind (ap (λ (l : List Kind). slice_get l k) is ∙ at_front xs ys k kind at)

-- one more name
pub with_name : (rules : Rules) (name : List ℕ) (kind : Kind) (writable : Bool) (scope : Scope) → NamesFit rules scope.bindings → Extends rules (scope.kinds ++ kind ∷ [])
    → (writable ≡ true → rules.may_write (root.Variable (length scope.kinds)) ≡ true) → NamesFit rules (with_variable name kind writable scope).bindings
unfolding look
with_name rules name kind writable scope names extends writes = record {
  bound = λ word b.
      elim (bytes_eq name word) as (λ t. (if t then Some (record { name = name; depth = scope.depth; root = root.Variable (length scope.kinds); kind = kind; writable = writable }) else look word scope.bindings) ≡ Some b → IsBound rules b) [
        | true ↦ λ h. subst (IsBound rules) (some_same _ b h) (record { kind_is = extends (length scope.kinds) kind (at_end scope.kinds kind); writes = writes })
        | false ↦ λ h. names.bound word b h
      ];
}

one_declared : (sight : Sight) (type : TypeName) (v : Var) (scope : Scope) (r : Declared × Scope) → declare sight type v scope ≡ Some r → Grows sight scope (r.0 ∷ []) (r.1) (λ rules. declared_fits rules (r.0))
unfolding declare
one_declared sight type v scope r h =
    let kind = bound (declared_kind sight.structures type v.item.len) _ r h in
    let x = bound (maybe_begun sight scope kind.value v.init) _ r kind.goes in
    let t = held (not (is_here v.item.name scope)) _ r x.goes in
    subst (λ (r : Declared × Scope). Grows sight scope (r.0 ∷ []) (r.1) (λ rules. declared_fits rules (r.0)))
    (some_same {A = Declared × Scope} (record { number = length scope.kinds; kind = kind.value; init = x.value }, with_variable v.item.name kind.value true scope) r (t.1))
    (record {
      kinds = refl;
      numbers = and_from _ _ (eq-eqb (length scope.kinds) (length scope.kinds) refl) refl;
      sound = and_from _ _ (declared_below sight.structures type v.item.len kind.value kind.was) refl;
      fits = λ rules s. (
        and_from _ _ (kind_is kind.value _ (s.holds (length scope.kinds) kind.value (at_end scope.kinds kind.value))) (maybe_fit rules sight scope s.sees s.names kind.value v.init x.value x.was),
        with_name rules v.item.name kind.value true scope s.names s.holds (λ is. s.fresh (length scope.kinds) (omega arith)),
      );
    })

-- ---- one after the other

map_both : {X Y : Type 0} (f : X → Y) (xs ys : List X) → map f (xs ++ ys) ≡ map f xs ++ map f ys
map_both f [] ys = refl
map_both f (x ∷ xs) ys = ap (λ zs. f x ∷ zs) (map_both f xs ys)

numbered_both : (n : ℕ) (ds es : List Declared) → are_numbered n ds ≡ true → are_numbered (n + length ds) es ≡ true → are_numbered n (ds ++ es) ≡ true
numbered_both n [] es p q = let z : n + 0 ≡ n = omega arith in ap (λ k. are_numbered k es) (sym z) ∙ q
numbered_both n (d ∷ ds) es p q =
    let a = and_parts (d.number == n) (are_numbered (n + 1) ds) p in
    let z : n + 1 + length ds ≡ n + suc (length ds) = omega arith in
    and_from _ _ (a.0) (numbered_both (n + 1) ds es (a.1) (ap (λ k. are_numbered k es) z ∙ q))

pub length_declared : (ds : List Declared) → length (kinds_declared ds) ≡ length ds
length_declared [] = refl
length_declared (d ∷ ds) = ap suc (length_declared ds)

pub grows_then : (sight : Sight) (scope mid after : Scope) (ds es : List Declared) (p q : Rules → Bool) → Grows sight scope ds mid p → Grows sight mid es after q → Grows sight scope (ds ++ es) after (λ rules. p rules && q rules)
grows_then sight scope mid after ds es p q a b =
    let grown : length mid.kinds ≡ length scope.kinds + length ds = ap length a.kinds ∙ length-append scope.kinds (kinds_declared ds) ∙ ap (λ n. length scope.kinds + n) (length_declared ds) in
    record {
      kinds = b.kinds ∙ ap (λ ks. ks ++ kinds_declared es) a.kinds ∙ append_assoc scope.kinds (kinds_declared ds) (kinds_declared es) ∙ ap (λ ks. scope.kinds ++ ks) (sym (map_both (λ d. d.kind) ds es));
      numbers = numbered_both (length scope.kinds) ds es a.numbers (ap (λ n. are_numbered n es) (sym grown) ∙ b.numbers);
      sound = ap (list_all (kind_below (length sight.structures))) (map_both (λ d. d.kind) ds es) ∙ list_all-append (kind_below (length sight.structures)) (kinds_declared ds) (kinds_declared es) ∙ and_from _ _ a.sound b.sound;
      fits = λ rules s.
          let first = a.fits rules (record { sees = s.sees; names = s.names; fresh = s.fresh; holds = extends_front rules mid.kinds (kinds_declared es) after.kinds b.kinds s.holds }) in
          let second = b.fits rules (record { sees = s.sees; names = first.1; fresh = λ k le. s.fresh k (omega arith); holds = s.holds }) in
          (and_from _ _ (first.0) (second.0), second.1);
    }

pub grows_none : (sight : Sight) (scope : Scope) (p : Rules → Bool) → ((rules : Rules) → Sees rules sight scope scope.kinds → p rules ≡ true) → Grows sight scope [] scope p
grows_none sight scope p h = record { kinds = sym (append_none scope.kinds); numbers = refl; sound = refl; fits = λ rules s. (h rules s, s.names) }

pub grows_as : (sight : Sight) (scope after : Scope) (ds es : List Declared) (p q : Rules → Bool) → es ≡ ds → ((rules : Rules) → p rules ≡ true → q rules ≡ true) → Grows sight scope ds after p → Grows sight scope es after q
grows_as sight scope after ds es p q is so g = record {
  kinds = g.kinds ∙ ap (λ (l : List Declared). scope.kinds ++ kinds_declared l) (sym is);
  numbers = ap (are_numbered (length scope.kinds)) is ∙ g.numbers;
  sound = ap (λ (l : List Declared). list_all (kind_below (length sight.structures)) (kinds_declared l)) is ∙ g.sound;
  fits = λ rules s. let f = g.fits rules s in (so rules (f.0), f.1);
}

pub all_declared : (sight : Sight) (type : TypeName) (vs : List Var) (scope : Scope) (r : List Declared × Scope) → declare_all sight type vs scope ≡ Some r → Grows sight scope (r.0) (r.1) (λ rules. list_all (declared_fits rules) (r.0))
unfolding declare_all
all_declared sight type [] scope r h =
    subst (λ (r : List Declared × Scope). Grows sight scope (r.0) (r.1) (λ rules. list_all (declared_fits rules) (r.0))) (some_same {A = List Declared × Scope} ([], scope) r h) (grows_none sight scope (λ rules. true) (λ rules s. refl))
all_declared sight type (v ∷ vs) scope r h =
    let d = bound (declare sight type v scope) _ r h in
    let rest = bound (declare_all sight type vs (d.value.1)) _ r d.goes in
    subst (λ (r : List Declared × Scope). Grows sight scope (r.0) (r.1) (λ rules. list_all (declared_fits rules) (r.0)))
    (some_same {A = List Declared × Scope} (d.value.0 ∷ rest.value.0, rest.value.1) r rest.goes)
    (grows_then sight scope (d.value.1) (rest.value.1) (d.value.0 ∷ []) (rest.value.0) (λ rules. declared_fits rules (d.value.0)) (λ rules. list_all (declared_fits rules) (rest.value.0))
    (one_declared sight type v scope d.value d.was) (all_declared sight type vs (d.value.1) rest.value rest.was))
