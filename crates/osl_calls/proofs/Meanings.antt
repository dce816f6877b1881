-- What a call means, from the choice among the functions of its name.
use Rattle.std.proofs.Common.{◌≡◌, codes, ℕ, zero, suc, Bool, true, false, ◌&&◌, ◌||◌, if◌then◌else◌, List, [], ◌∷◌, ◌++◌, length, map, slice_get, bytes_eq, Option, Some, None, is_some, refl, ap, sym, ◌∙◌}
use Rattle.std.specs.Cmp.Lexicographic.{pointwise}
use Rattle.std.specs.List.{list_any}
use Rattle.std.proofs.lemmas.Bool.Decides.{Decides-eqb}
use Rattle.osl_value.proofs.SameTypes.{same_type-refl}
use Rattle.osl_overload.specs.declared.choice.Choice.{Choice}
use Rattle.osl_overload.specs.declared.choice.Choice.TheVariants.{Chosen, NoCandidate, Ambiguous}
use Rattle.osl_overload.specs.Choice.{IsChoice}
use Rattle.osl_overload.specs.Cost.{total, plus}
use Rattle.osl_overload.specs.Kinds.{same_kind}
use Rattle.osl_overload.specs.declared.signature.Arg.{Arg}
use Rattle.osl_overload.specs.declared.signature.Kind.{Kind}
use Rattle.osl_overload.specs.declared.signature.Kind.TheVariants.{Value, Structure, Void}
use Rattle.osl_overload.specs.declared.signature.Signature.{Signature}
use Rattle.osl_typed.specs.declared.found.Callee.{Callee}
use Rattle.osl_typed.specs.declared.found.Found.{Found}
use Rattle.osl_value.specs.AnyValue.{is_array}
use Rattle.osl_typed.specs.Choosing.{costs, costs_this, least, chosen}
use Rattle.osl_typed.specs.Operators.{is_type}
use Rattle.osl_typed.specs.Scopes.{Candidate, Sight}
use Rattle.osl_typed.specs.Typing.{◌>>=◌, sequence, expression, as_argument, kinds_of, formal_kinds, candidates, call}
use Rattle.osl_typed.proofs.Choices.{chosen_is_least, least_is_chosen}
use Rattle.osl_calls.specs.Calling.{called_by, called_at, called_among, place_of, own_kind, sole_kind, length_of, lengths_of}
use Rattle.osl_calls.specs.Named.{candidate, candidates_of}
use Rattle.osl_calls.proofs.Candidates.{their_signatures}
use Rattle.osl_calls.proofs.Least.{alone, free_first}

-- ---- the choice

pub choice_is : (signatures : List Signature) (args : List Arg) (choice : Choice) → IsChoice signatures args choice
    → ((other : Choice) → IsChoice signatures args other → other ≡ choice) → chosen signatures args ≡ place_of choice
choice_is signatures args (Chosen i) is only = least_is_chosen signatures args i is
choice_is signatures args NoCandidate is only = go (chosen signatures args) refl
  where
    go : (p : Option ℕ) → chosen signatures args ≡ p → p ≡ None
    go None e = refl
    go (Some i) e = let k = only (Chosen i) (chosen_is_least signatures args i e) in absurd (cc)
choice_is signatures args Ambiguous is only = go (chosen signatures args) refl
  where
    go : (p : Option ℕ) → chosen signatures args ≡ p → p ≡ None
    go None e = refl
    go (Some i) e = let k = only (Chosen i) (chosen_is_least signatures args i e) in absurd (cc)

-- ---- functions held as two lists

module _ (signatures : List Signature) (callees : List Callee) (even : length signatures ≡ length callees) (args : List Found) (passed : List Arg) (same : passed ≡ map as_argument args) where
  by_place : (p : Option ℕ) → chosen signatures passed ≡ p → called_among (candidates_of signatures callees) args ≡ (p >>= called_at (candidates_of signatures callees) args)
  unfolding called_among
  by_place p e =
      ap (λ o. o >>= called_at (candidates_of signatures callees) args)
      ((λ i. chosen (their_signatures signatures callees even i) (sym same i)) ∙ e)

  pub not_chosen : chosen signatures passed ≡ None → called_among (candidates_of signatures callees) args ≡ None
  not_chosen e = by_place None e

  pub no_signature_at : (place : ℕ) → chosen signatures passed ≡ Some place → slice_get signatures place ≡ None → called_among (candidates_of signatures callees) args ≡ None
  unfolding candidates_of
  no_signature_at place e f = by_place (Some place) e ∙ ap (λ o. o >>= λ d. called_by d args) (none signatures callees place f)
    where
      none : (ss : List Signature) (cs : List Callee) (i : ℕ) → slice_get ss i ≡ None → slice_get (candidates_of ss cs) i ≡ None
      none [] cs i f = refl
      none (t ∷ ss) [] i f = refl
      none (t ∷ ss) (d ∷ cs) zero f = absurd (cc)
      none (t ∷ ss) (d ∷ cs) (suc i) f = none ss cs i f

  pub no_callee_at : (place : ℕ) → chosen signatures passed ≡ Some place → slice_get callees place ≡ None → called_among (candidates_of signatures callees) args ≡ None
  unfolding candidates_of
  no_callee_at place e f = by_place (Some place) e ∙ ap (λ o. o >>= λ d. called_by d args) (none signatures callees place f)
    where
      none : (ss : List Signature) (cs : List Callee) (i : ℕ) → slice_get cs i ≡ None → slice_get (candidates_of ss cs) i ≡ None
      none [] cs i f = refl
      none (t ∷ ss) [] i f = refl
      none (t ∷ ss) (d ∷ cs) zero f = absurd (cc)
      none (t ∷ ss) (d ∷ cs) (suc i) f = none ss cs i f

  pub chosen_is_called : (place : ℕ) (s : Signature) (c : Callee) → chosen signatures passed ≡ Some place
      → slice_get signatures place ≡ Some s → slice_get callees place ≡ Some c
      → called_among (candidates_of signatures callees) args ≡ called_by (candidate s c) args
  unfolding candidates_of
  chosen_is_called place s c e f g = by_place (Some place) e ∙ ap (λ o. o >>= λ d. called_by d args) (both signatures callees place f g)
    where
      both : (ss : List Signature) (cs : List Callee) (i : ℕ) → slice_get ss i ≡ Some s → slice_get cs i ≡ Some c → slice_get (candidates_of ss cs) i ≡ Some (candidate s c)
      both [] cs i f g = absurd (cc)
      both (t ∷ ss) [] i f g = absurd (cc)
      both (t ∷ ss) (d ∷ cs) zero f g = let a : t ≡ s = cc in let b : d ≡ c = cc in λ i. Some (candidate (a i) (b i))
      both (t ∷ ss) (d ∷ cs) (suc i) f g = both ss cs i f g

-- ---- `arraylength`

same_kind-refl : (kind : Kind) → same_kind kind kind ≡ true
same_kind-refl (Value ty) = same_type-refl ty
same_kind-refl (Structure m) = (Decides-eqb m m).1 refl
same_kind-refl Void = refl

free_length : (a : Found) → total (length_of a.kind).signature.params (as_argument a ∷ []) ≡ Some 0
free_length a = go (same_kind a.kind a.kind) _ (same_kind-refl a.kind)
  where
    go : (b : Bool) (other : Option ℕ) → b ≡ true → plus (if b then Some 0 else other) (Some 0) ≡ Some 0
    go true other e = refl
    go false other e = absurd (cc)

module _ (kind : Kind) (others : List Candidate) (args : List Found) (passed : List Arg) (same : passed ≡ map as_argument args) where
  abbrev shared : Bool
  shared = list_any (costs_this 0) (costs (map (λ c. c.signature) others) passed)

  length_chosen : sole_kind (kinds_of args) ≡ Some kind
      → chosen (map (λ c. c.signature) (length_of kind ∷ others)) (map as_argument args) ≡ alone shared
  length_chosen e = go args same e
    where
      go : (xs : List Found) → passed ≡ map as_argument xs → sole_kind (kinds_of xs) ≡ Some kind
          → chosen (map (λ c. c.signature) (length_of kind ∷ others)) (map as_argument xs) ≡ alone shared
      go [] s e = absurd (cc)
      go (a ∷ b ∷ xs) s e = absurd (cc)
      go (a ∷ []) s e =
          let k : a.kind ≡ kind = cc in
          free_first (length_of kind).signature (map (λ c. c.signature) others) (as_argument a ∷ [])
          (ap (λ j. total (length_of j).signature.params (as_argument a ∷ [])) (sym k) ∙ free_length a)
          ∙ ap (λ ps. alone (list_any (costs_this 0) (costs (map (λ c. c.signature) others) ps))) (sym s)

  pub length_shared : sole_kind (kinds_of args) ≡ Some kind → shared ≡ true → called_among (length_of kind ∷ others) args ≡ None
  unfolding called_among
  length_shared e t = ap (λ o. o >>= called_at (length_of kind ∷ others) args) (length_chosen e ∙ ap alone t)

  pub length_alone : sole_kind (kinds_of args) ≡ Some kind → shared ≡ false → called_among (length_of kind ∷ others) args ≡ called_by (length_of kind) args
  unfolding called_among
  length_alone e f = ap (λ o. o >>= called_at (length_of kind ∷ others) args) (length_chosen e ∙ ap alone f)

-- ---- a call

pub call_is : (sight : Sight) (word : List ℕ) (found args : List Found) (all : List Candidate) → sequence (map expression found) ≡ Some args
    → candidates sight word (kinds_of args) ≡ all → call sight word found ≡ called_among all args
unfolding call called_among called_by
call_is sight word found args all e f =
    ap (λ o. o >>= λ xs. called_among (candidates sight word (kinds_of xs)) xs) e ∙ ap (λ cs. called_among cs args) f

pub call_stops : (sight : Sight) (word : List ℕ) (found : List Found) → sequence (map expression found) ≡ None → call sight word found ≡ None
unfolding call called_among called_by
call_stops sight word found e = ap (λ o. o >>= λ xs. called_among (candidates sight word (kinds_of xs)) xs) e

pub chosen_place : (signatures : List Signature) (args : List Arg) (choice x : Choice) → IsChoice signatures args choice
    → ((other : Choice) → IsChoice signatures args other → other ≡ choice) → choice ≡ x → place_of x ≡ chosen signatures args
chosen_place signatures args choice x is only e = sym (choice_is signatures args choice is only ∙ ap place_of e)

pub none_called : (args : List Found) → called_among [] args ≡ None
unfolding called_among chosen least
none_called args = refl

pub own_is_sole : (word : List ℕ) (o : Option Kind) (kind : Kind) → own_kind word o ≡ Some kind → o ≡ Some kind
own_is_sole word None kind e = absurd (cc)
own_is_sole word (Some k) kind e = go (bytes_eq word (codes "arraylength") && is_type is_array k) e
  where
    go : (b : Bool) → (if b then Some k else None) ≡ Some kind → Some k ≡ Some kind
    go true h = h
    go false h = absurd (cc)

-- ---- a function that is taken

abbrev pub same_kinds : List Kind → Candidate → Bool
same_kinds kinds c = pointwise same_kind (formal_kinds c.signature.params) kinds

pub taken_own : (word : List ℕ) (kinds : List Kind) (rest : List Candidate) → is_some (own_kind word (sole_kind kinds)) ≡ true
    → list_any (same_kinds kinds) (lengths_of (own_kind word (sole_kind kinds)) ++ rest) ≡ true
taken_own word [] rest h = absurd (cc)
taken_own word (kind ∷ k ∷ kinds) rest h = absurd (cc)
taken_own word (kind ∷ []) rest h = go (bytes_eq word (codes "arraylength") && is_type is_array kind) h
  where
    go : (b : Bool) → is_some (if b then Some kind else None) ≡ true → list_any (same_kinds (kind ∷ [])) (lengths_of (if b then Some kind else None) ++ rest) ≡ true
    go true e = ap (λ b. (b && true) || list_any (same_kinds (kind ∷ [])) rest) (same_kind-refl kind)
    go false e = absurd (cc)

pub taken_other : (kinds : List Kind) (o : Option Kind) (rest : List Candidate) → is_some o ≡ false
    → list_any (same_kinds kinds) (lengths_of o ++ rest) ≡ list_any (same_kinds kinds) rest
taken_other kinds None rest h = refl
taken_other kinds (Some kind) rest h = absurd (cc)
