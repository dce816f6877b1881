-- Runs from typed states: two ops that agree on typed values do the same there.
use Rattle.std.proofs.Common.{◌≡◌, ℕ, List, [], ◌∷◌, map, Some, None, refl, sym, ap, ◌∙◌, subst}
use Rattle.std.specs.Prelude.{slice_get, IsTrue}
use Rattle.std.specs.List.{All}
use Rattle.std.proofs.lemmas.List.Elements.{All-nil, All-cons}
use Rattle.osl_value.specs.declared.op_name.OpName.{OpName}
use Rattle.osl_value.specs.declared.op_name.OpName.TheVariants.{Assign}
use Rattle.osl_value.specs.declared.types.Ty.{Ty}
use Rattle.osl_value.specs.AnyValue.{AnyValue, type_of}
use Rattle.osl_value.specs.Apply.{apply, is_allowed}
use Rattle.osl_value.specs.Laws.{GivesValues}
use Rattle.osl_value.specs.WellFormed.{IsValue, IsOfType}
use Rattle.osl_value.proofs.TableLaws.{writes_its_type}
use Rattle.oso_code.specs.Ops.{type_at, type_of_symbol}
use Rattle.oso_code.specs.Run.{State, note, Source, Own, Wired, Held, Sources, read, read_from, Outcome, with_value, arguments}
use Rattle.oso_code.specs.Typed.{AreThere, IsTyped, TypedSources, AllTyped, OpTyped}
use Rattle.oso_code.specs.declared.symbol.Symbol.{Symbol}
use Rattle.osl_rewrites.specs.Side.{Match, always, Swap}

module _ (gives_values : GivesValues) (symbols : List Symbol) (from : Sources) (typed : TypedSources symbols from) where
  pub record Alike (s t : State) : Type 0 where
    pub one : s ≡ t
    pub kept : IsTyped symbols s

  noted : (k : ℕ) (s t : State) → Alike s t → Alike (note k s) (note k t)
  noted k s t r = record { one = ap (note k) r.one; kept = record { each = r.kept.each } }

  -- a read gives one value on both sides, of the symbol's type
  abbrev MatchRead : ℕ → State → State → Type 0
  MatchRead k s t =
      (go go' : AnyValue → State → Outcome) → ((v : AnyValue) (a b : State) → IsOfType (type_at symbols k) v → Alike a b → Match (always Alike) (go v a) (go' v b))
      → Match (always Alike) (with_value (read from k s) go) (with_value (read from k t) go')

  read_by : (source : Source) (k : ℕ) (symbol : Symbol) (s t : State) → slice_get symbols k ≡ Some symbol → from k ≡ source → Alike s t → (go go' : AnyValue → State → Outcome) → ((v : AnyValue) (a b : State) → IsOfType symbol.ty v → Alike a b → Match (always Alike) (go v a) (go' v b))
      → Match (always Alike) (with_value (read_from source k s) go) (with_value (read_from source k t) go')
  read_by Own k symbol s t at is r go go' h =
      subst (λ x. Match (always Alike) (go (s.values k) s) (go' (x.values k) t)) r.one (h (s.values k) s t (r.kept.each k symbol at) r)
  read_by (Wired None) k symbol s t at is r go go' h = (note k t, refl, noted k s t r)
  read_by (Wired (Some v)) k symbol s t at is r go go' h = h v (note k s) (note k t) (typed.wired k symbol v at is) (noted k s t r)
  read_by (Held v) k symbol s t at is r go go' h = h v s t (typed.held k symbol v at is) r

  read_typed : (k : ℕ) (symbol : Symbol) (s t : State) → slice_get symbols k ≡ Some symbol → Alike s t → MatchRead k s t
  read_typed k symbol s t at r go go' h =
      read_by (from k) k symbol s t at refl r go go' (λ v a b q. h v a b (subst (λ o. IsOfType (type_of_symbol o) v) (sym at) q))

  pub args_typed : (ks : List ℕ) (s t : State) (go go' : List AnyValue → State → Outcome) → AreThere symbols ks → Alike s t
      → ((vs : List AnyValue) (a b : State) → AllTyped symbols ks vs → Alike a b → Match (always Alike) (go vs a) (go' vs b)) → Match (always Alike) (arguments from ks s go) (arguments from ks t go')
  args_typed [] s t go go' there r h = h [] s t tt r
  args_typed (k ∷ ks) s t go go' ((symbol, at), more) r h =
      read_typed k symbol s t at r (λ v s1. arguments from ks s1 (λ vs s2. go (v ∷ vs) s2)) (λ v s1. arguments from ks s1 (λ vs s2. go' (v ∷ vs) s2))
      (λ v a b q x. args_typed ks a b (λ vs s2. go (v ∷ vs) s2) (λ vs s2. go' (v ∷ vs) s2) more x (λ vs c d qs y. h (v ∷ vs) c d (q, qs) y))

  -- typed values are values, and have their types
  all_values : (ks : List ℕ) (vs : List AnyValue) → AllTyped symbols ks vs → All IsValue vs
  all_values [] [] q = All-nil IsValue
  all_values [] (v ∷ vs) q = absurd q
  all_values (k ∷ ks) [] q = absurd q
  all_values (k ∷ ks) (v ∷ vs) q = All-cons IsValue v vs q.0.value (all_values ks vs q.1)

  all_types : (ks : List ℕ) (vs : List AnyValue) → AllTyped symbols ks vs → map type_of vs ≡ map (type_at symbols) ks
  all_types [] [] q = refl
  all_types [] (v ∷ vs) q = absurd q
  all_types (k ∷ ks) [] q = absurd q
  all_types (k ∷ ks) (v ∷ vs) q = λ j. q.0.type j ∷ all_types ks vs q.1 j

  abbrev pub Fine : ℕ → AnyValue → Type 0
  Fine target v = IsOfType (type_at symbols target) v

  given : (name : OpName) (ty : Ty) (target : ℕ) (ks : List ℕ) (vs : List AnyValue) → OpTyped symbols name ty target ks → AllTyped symbols ks vs → Fine target (apply name ty vs)
  given name ty target ks vs op q =
      let ok : IsTrue (is_allowed name ty (map type_of vs)) = subst (λ ts. IsTrue (is_allowed name ty ts)) (sym (all_types ks vs q)) op.allowed in
      record { value = gives_values name ty vs (all_values ks vs q) ok; type = writes_its_type name ty vs ok ∙ sym op.written }

  -- an op that stays
  pub same_swap : (name : OpName) (ty : Ty) (target : ℕ) (ks : List ℕ) → OpTyped symbols name ty target ks → Swap from from Alike (Fine target) name ty ks name ks
  same_swap name ty target ks op go go' h s t r =
      args_typed ks s t (λ vs s1. go (apply name ty vs) s1) (λ vs s1. go' (apply name ty vs) s1) op.there r (λ vs a b q x. h (apply name ty vs) a b (given name ty target ks vs op q) x)

  -- an op of x and a held z that leaves x as it was
  pub right_swap : (name : OpName) (ty : Ty) (target x z : ℕ) (w : AnyValue) → OpTyped symbols name ty target (x ∷ z ∷ []) → from z ≡ Held w
      → ((v : AnyValue) → AllTyped symbols (x ∷ z ∷ []) (v ∷ w ∷ []) → apply name ty (v ∷ w ∷ []) ≡ apply Assign ty (v ∷ []))
      → Swap from from Alike (Fine target) name ty (x ∷ z ∷ []) Assign (x ∷ [])
  right_swap name ty target x z w op is exact go go' h s t r =
      read_typed x (op.there.0.0) s t (op.there.0.1) r (λ v s1. with_value (read from z s1) (λ u s2. go (apply name ty (v ∷ u ∷ [])) s2)) (λ v s1. go' (apply Assign ty (v ∷ [])) s1)
      (λ v a b q y.
      let q2 : AllTyped symbols (x ∷ z ∷ []) (v ∷ w ∷ []) = (q, (subst (λ o. IsOfType (type_of_symbol o) w) (sym op.there.1.0.1) (typed.held z (op.there.1.0.0) w (op.there.1.0.1) is), tt)) in
      subst (λ i. Match (always Alike) (with_value (read_from i z a) (λ u s2. go (apply name ty (v ∷ u ∷ [])) s2)) (go' (apply Assign ty (v ∷ [])) b)) (sym is)
      (subst (λ u. Match (always Alike) (go (apply name ty (v ∷ w ∷ [])) a) (go' u b)) (exact v q2) (h (apply name ty (v ∷ w ∷ [])) a b (given name ty target (x ∷ z ∷ []) (v ∷ w ∷ []) op q2) y)))
