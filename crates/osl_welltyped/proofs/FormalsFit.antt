-- Global variables, formal parameters and parameters: what a body's scope begins with.
use Rattle.std.proofs.Common.{◌≡◌, ℕ, zero, suc, ◌+◌, ◌<◌, ◌≤◌, Bool, true, false, not, ◌⊎◌, inl, inr, List, [], ◌∷◌, ◌++◌, length, map, nat_lt, Some, None, refl, sym, ap, ◌∙◌, subst, arith, append_assoc, length-append}
use Rattle.std.specs.Prelude.{if◌then◌else◌, slice_get, bytes_eq}
use Rattle.std.specs.List.{list_all}
use Rattle.std.proofs.lemmas.Bool.{and_from, lt-ltb}
use Rattle.std.proofs.lemmas.Option.{slice_get_within}
use Rattle.osl_layer.specs.declared.global.GlobalName.{GlobalName}
use Rattle.osl_layer.specs.Globals.{all_globals}
use Rattle.osl_overload.specs.declared.signature.Formal.{Formal}
use Rattle.osl_overload.specs.declared.signature.Kind.{Kind}
use Rattle.osl_tree.specs.declared.tree.Formal as formal_tree
use Rattle.osl_typed.specs.declared.expr.Root.TheVariants as root
use Rattle.osl_typed.specs.declared.found.Binding.{Binding}
use Rattle.osl_typed.specs.Scopes.{Scope, StructureName, look, is_here, with_variable, global_binding}
use Rattle.osl_typed.specs.BodyTyping.{declared_kind}
use Rattle.osl_typed.specs.FileTyping.{formals_added}
use Rattle.osl_welltyped.specs.Agreement.{IsBound, NamesFit}
use Rattle.osl_welltyped.specs.Kinded.{Rules}
use Rattle.osl_welltyped.specs.WellTyped.{kinds_of_formals}
use Rattle.osl_welltyped.proofs.BodiesFit.{Extends, kind_below, declared_below, with_name, at_front}
use Rattle.osl_welltyped.proofs.CallsFit.{append_none}
use Rattle.osl_welltyped.proofs.Steps.{none_is_not, some_same, bound, held}

-- ---- globals

global_found : (rules : Rules) (writable : GlobalName → Bool) → ((g : GlobalName) → writable g ≡ true → rules.may_write (root.Global g) ≡ true)
    → (gs : List GlobalName) (word : List ℕ) (b : Binding) → look word (map (global_binding writable) gs) ≡ Some b → IsBound rules b
unfolding look
global_found rules writable writes [] word b h = none_is_not b h
global_found rules writable writes (g ∷ gs) word b h =
    (elim (bytes_eq (global_binding writable g).name word) as (λ t. (if t then Some (global_binding writable g) else look word (map (global_binding writable) gs)) ≡ Some b → IsBound rules b) [
      | true ↦ λ k. subst (IsBound rules) (some_same _ b k) (record { kind_is = refl; writes = writes g })
      | false ↦ λ k. global_found rules writable writes gs word b k
    ]) h

pub globals_fit : (rules : Rules) (writable : GlobalName → Bool) → ((g : GlobalName) → writable g ≡ true → rules.may_write (root.Global g) ≡ true) → NamesFit rules (map (global_binding writable) all_globals)
globals_fit rules writable writes = record { bound = global_found rules writable writes all_globals }

-- ---- formal parameters

-- outputs may be assigned, from a number on
abbrev pub Writes : Rules → ℕ → List Formal → Type 0
Writes rules n formals = (k : ℕ) (formal : Formal) → slice_get formals k ≡ Some formal → formal.output ≡ true → rules.may_write (root.Variable (n + k)) ≡ true

pub record FormalsGrow (count : ℕ) (scope : Scope) (formals : List Formal) (after : Scope) : Type 0 where
  pub kinds : after.kinds ≡ scope.kinds ++ kinds_of_formals formals
  pub sound : list_all (kind_below count) (kinds_of_formals formals) ≡ true
  pub names : (rules : Rules) → NamesFit rules scope.bindings → Extends rules after.kinds → Writes rules (length scope.kinds) formals → NamesFit rules after.bindings

pub formals_none : (count : ℕ) (scope : Scope) → FormalsGrow count scope [] scope
formals_none count scope = record { kinds = sym (append_none scope.kinds); sound = refl; names = λ rules names extends writes. names }

-- one more parameter, and then others
pub formals_more : (count : ℕ) (name : List ℕ) (kind : Kind) (output : Bool) (scope after : Scope) (formals : List Formal) → kind_below count kind ≡ true
    → FormalsGrow count (with_variable name kind output scope) formals after → FormalsGrow count scope (record { kind = kind; output = output } ∷ formals) after
formals_more count name kind output scope after formals below rest = record {
  kinds = rest.kinds ∙ append_assoc scope.kinds (kind ∷ []) (kinds_of_formals formals);
  sound = and_from _ _ below rest.sound;
  names = λ rules names extends writes.
      let one : Extends rules (scope.kinds ++ kind ∷ []) = λ k kd at. extends k kd (ap (λ (l : List Kind). slice_get l k) rest.kinds ∙ at_front (scope.kinds ++ kind ∷ []) (kinds_of_formals formals) k kd at) in
      let z : length scope.kinds + 0 ≡ length scope.kinds = omega arith in
      let first = with_name rules name kind output scope names one (λ is. ap (λ j. rules.may_write (root.Variable j)) (sym z) ∙ writes 0 (record { kind = kind; output = output }) refl is) in
      rest.names rules first extends (λ k formal at is.
      let long : length (scope.kinds ++ kind ∷ []) ≡ length scope.kinds + 1 = length-append scope.kinds (kind ∷ []) in
      let e : length (scope.kinds ++ kind ∷ []) + k ≡ length scope.kinds + suc k = omega arith in
      ap (λ j. rules.may_write (root.Variable j)) e ∙ writes (suc k) formal at is);
}

pub formals_grow : (structures : List StructureName) (formals : List formal_tree.Formal) (scope : Scope) (r : List Formal × Scope) → formals_added structures formals scope ≡ Some r → FormalsGrow (length structures) scope (r.0) (r.1)
unfolding formals_added
formals_grow structures [] scope r h = subst (λ (r : List Formal × Scope). FormalsGrow (length structures) scope (r.0) (r.1)) (some_same {A = List Formal × Scope} ([], scope) r h) (formals_none (length structures) scope)
formals_grow structures (formal ∷ formals) scope r h =
    let kind = bound (declared_kind structures formal.ty formal.item.len) _ r h in
    let t = held (not (is_here formal.item.name scope)) _ r kind.goes in
    let rest = bound (formals_added structures formals (with_variable formal.item.name kind.value formal.output scope)) _ r (t.1) in
    subst (λ (r : List Formal × Scope). FormalsGrow (length structures) scope (r.0) (r.1))
    (some_same {A = List Formal × Scope} (record { kind = kind.value; output = formal.output } ∷ rest.value.0, rest.value.1) r rest.goes)
    (formals_more (length structures) formal.item.name kind.value formal.output scope (rest.value.1) (rest.value.0) (declared_below structures formal.ty formal.item.len kind.value kind.was)
    (formals_grow structures formals (with_variable formal.item.name kind.value formal.output scope) rest.value rest.was))

-- ---- lists that begin others

pub record Begins {X : Type 0} (xs zs : List X) : Type 0 where
  pub rest : List X
  pub is : zs ≡ xs ++ rest

pub begins_all : {X : Type 0} (xs : List X) → Begins xs xs
begins_all xs = record { rest = []; is = sym (append_none xs) }

pub begins_less : {X : Type 0} (xs ys zs : List X) → Begins (xs ++ ys) zs → Begins xs zs
begins_less xs ys zs b = record { rest = ys ++ b.rest; is = b.is ∙ append_assoc xs ys b.rest }

pub begins_at : {X : Type 0} (xs zs : List X) (k : ℕ) (x : X) → Begins xs zs → slice_get xs k ≡ Some x → slice_get zs k ≡ Some x
begins_at xs zs k x b at = ap (λ l. slice_get l k) b.is ∙ at_front xs b.rest k x at

pub begins_length : {X : Type 0} (xs zs : List X) → Begins xs zs → length xs ≤ length zs
begins_length xs zs b = let e = ap length b.is ∙ length-append xs b.rest in omega arith

pub snoc_at : {X : Type 0} (xs : List X) (x : X) (k : ℕ) (y : X) → slice_get (xs ++ x ∷ []) k ≡ Some y → (slice_get xs k ≡ Some y) ⊎ ((k ≡ length xs) × (x ≡ y))
snoc_at [] x zero y h = inr (refl, some_same x y h)
snoc_at [] x (suc k) y h = none_is_not y h
snoc_at (z ∷ xs) x zero y h = inl h
snoc_at (z ∷ xs) x (suc k) y h = elim (snoc_at xs x k y h) [ inl a ↦ inl a | inr b ↦ inr (ap suc (b.0), b.1) ]

-- the frame of a body has its own variables
pub whole_frame : (rules : Rules) (kinds : List Kind) → rules.kinds ≡ kinds → rules.ready ≡ length kinds → Extends rules kinds
whole_frame rules kinds same ready k kind at =
    let low : k < length kinds = slice_get_within kinds k kind at in
    let test : nat_lt k rules.ready ≡ true = ap (nat_lt k) ready ∙ lt-ltb k (length kinds) low in
    ap (λ t. if t then slice_get rules.kinds k else None) test ∙ ap (λ (l : List Kind). slice_get l k) same ∙ at
