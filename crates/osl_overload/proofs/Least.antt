-- What a standing says of the candidates that were looked at, and what it says of all of them.
use Rattle.std.proofs.Common.{◌≡◌, ℕ, ◌+◌, ◌<◌, ◌≤◌, Bool, true, false, List, length, slice_get, nat_lt, if◌then◌else◌, Option, Some, None, refl, ap, sym, ◌∙◌, subst, inl, inr, ◌⊎◌, arith, option_and_then}
use Rattle.std.proofs.lemmas.Bool.Decides.{nat_tests}
use Rattle.std.proofs.lemmas.Option.{slice_get_within}
use Rattle.osl_overload.specs.declared.signature.Arg.{Arg}
use Rattle.osl_overload.specs.declared.signature.Signature.{Signature}
use Rattle.osl_overload.specs.declared.standing.Standing.{Standing}
use Rattle.osl_overload.specs.declared.standing.Standing.TheVariants.{Nobody, One, Tie}
use Rattle.osl_overload.specs.Cost.{total}
use Rattle.osl_overload.specs.Choice.{cost_at, IsLeast, AreTied}
use Rattle.osl_overload.specs.Standing.{stands}

-- what a standing says of the candidates below n
pub record NoneFits (f : ℕ → Option ℕ) (n : ℕ) : Type 0 where
  pub none : (j d : ℕ) → j < n → f j ≡ Some d → ⊥

pub record OneFits (f : ℕ → Option ℕ) (n i c : ℕ) : Type 0 where
  pub below : i < n
  pub costs : f i ≡ Some c
  pub alone : (j d : ℕ) → j < n → f j ≡ Some d → (j ≡ i) ⊎ (c < d)

pub record TwoFit (f : ℕ → Option ℕ) (n c : ℕ) : Type 0 where
  pub first : ℕ
  pub second : ℕ
  pub apart : first < second
  pub below : second < n
  pub first_costs : f first ≡ Some c
  pub second_costs : f second ≡ Some c
  pub least : (j d : ℕ) → j < n → f j ≡ Some d → c ≤ d

abbrev pub Says : (ℕ → Option ℕ) → ℕ → Standing → Type 0
Says f n Nobody = NoneFits f n
Says f n (One i c) = OneFits f n i c
Says f n (Tie c) = TwoFit f n c

newest : (j n : ℕ) → j < n + 1 → (j < n) ⊎ (j ≡ n)
newest j n lt = grind arith

-- what is so of all below n and of n is so of all below n + 1
one_on : (Q : ℕ → ℕ → Type 0) (f : ℕ → Option ℕ) (n : ℕ) → ((j d : ℕ) → j < n → f j ≡ Some d → Q j d) → ((d : ℕ) → f n ≡ Some d → Q n d)
    → (j d : ℕ) → j < n + 1 → f j ≡ Some d → Q j d
one_on Q f n old new j d lt e = elim (newest j n lt) [ inl l ↦ old j d l e | inr s ↦ subst (λ i. Q i d) (sym s) (new d (ap f (sym s) ∙ e)) ]

says_none : (f : ℕ → Option ℕ) (n : ℕ) (s : Standing) → f n ≡ None → Says f n s → Says f (n + 1) s
says_none f n Nobody e h = record { none = one_on (λ j d. ⊥) f n h.none (λ d g. cc) }
says_none f n (One i c) e h = record {
  below = let b : i < n = h.below in omega arith;
  costs = h.costs;
  alone = one_on (λ j d. (j ≡ i) ⊎ (c < d)) f n h.alone (λ d g. absurd (cc));
}
says_none f n (Tie c) e h = record {
  first = h.first;
  second = h.second;
  apart = h.apart;
  below = let b : h.second < n = h.below in omega arith;
  first_costs = h.first_costs;
  second_costs = h.second_costs;
  least = one_on (λ j d. c ≤ d) f n h.least (λ d g. absurd (cc));
}

same_cost : (a b : ℕ) (o : Option ℕ) → o ≡ Some a → o ≡ Some b → a ≡ b
same_cost a b o p q = cc

-- n costs less than all below it
leads : (f : ℕ → Option ℕ) (n d : ℕ) → f n ≡ Some d → ((j c : ℕ) → j < n → f j ≡ Some c → d < c) → OneFits f (n + 1) n d
leads f n d e h = record {
  below = omega arith;
  costs = e;
  alone = one_on (λ j c. (j ≡ n) ⊎ (d < c)) f n (λ j c l g. inr (h j c l g)) (λ c g. inl refl);
}

at_least : (f : ℕ → Option ℕ) (n i c : ℕ) → OneFits f n i c → (j x : ℕ) → j < n → f j ≡ Some x → c ≤ x
at_least f n i c h j x l g = elim (h.alone j x l g) [ inl s ↦ (let t : x ≡ c = same_cost x c (f i) (ap f (sym s) ∙ g) h.costs in omega arith) | inr t ↦ omega arith ]

at_one : (f : ℕ → Option ℕ) (n d i c : ℕ) → f n ≡ Some d → OneFits f n i c → Says f (n + 1) (if nat_lt d c then One n d else if nat_lt c d then One i c else Tie c)
at_one f n d i c e h = go (nat_lt d c) refl (nat_lt c d) refl
  where
    go : (a : Bool) → nat_lt d c ≡ a → (b : Bool) → nat_lt c d ≡ b → Says f (n + 1) (if a then One n d else if b then One i c else Tie c)
    go true p b q = leads f n d e (λ j x l g. let t : c ≤ x = at_least f n i c h j x l g in let u : d < c = grind (arith, nat_tests) in omega arith)
    go false p true q = record {
      below = let b : i < n = h.below in omega arith;
      costs = h.costs;
      alone = one_on (λ j x. (j ≡ i) ⊎ (c < x)) f n h.alone (λ x g. let s : x ≡ d = same_cost x d (f n) g e in let t : c < d = grind (arith, nat_tests) in inr (omega arith));
    }
    go false p false q = record {
      first = i;
      second = n;
      apart = h.below;
      below = omega arith;
      first_costs = h.costs;
      second_costs = let s : d ≡ c = grind (arith, nat_tests) in e ∙ ap Some s;
      least = one_on (λ j x. c ≤ x) f n (at_least f n i c h) (λ x g. let s : x ≡ d = same_cost x d (f n) g e in let t : d ≡ c = grind (arith, nat_tests) in omega arith);
    }

at_tie : (f : ℕ → Option ℕ) (n d c : ℕ) → f n ≡ Some d → TwoFit f n c → Says f (n + 1) (if nat_lt d c then One n d else Tie c)
at_tie f n d c e h = go (nat_lt d c) refl
  where
    go : (a : Bool) → nat_lt d c ≡ a → Says f (n + 1) (if a then One n d else Tie c)
    go true p = leads f n d e (λ j x l g. let t : c ≤ x = h.least j x l g in let u : d < c = grind (arith, nat_tests) in omega arith)
    go false p = record {
      first = h.first;
      second = h.second;
      apart = h.apart;
      below = let b : h.second < n = h.below in omega arith;
      first_costs = h.first_costs;
      second_costs = h.second_costs;
      least = one_on (λ j x. c ≤ x) f n h.least (λ x g. let s : x ≡ d = same_cost x d (f n) g e in let t : c ≤ d = grind (arith, nat_tests) in omega arith);
    }

pub says_more : (f : ℕ → Option ℕ) (n : ℕ) (o : Option ℕ) (s : Standing) → f n ≡ o → Says f n s → Says f (n + 1) (stands n o s)
says_more f n None s e h = says_none f n s e h
says_more f n (Some d) Nobody e h = leads f n d e (λ j c l g. absurd (h.none j c l g))
says_more f n (Some d) (One i c) e h = at_one f n d i c e h
says_more f n (Some d) (Tie c) e h = at_tie f n d c e h

pub says_first : (f : ℕ → Option ℕ) → Says f 0 Nobody
says_first f = record { none = λ j d l. absurd (omega arith) }

-- ---- all candidates

-- only the candidates that are there cost anything
pub there : (candidates : List Signature) (args : List Arg) (j cost : ℕ) → cost_at candidates args j ≡ Some cost → j < length candidates
there candidates args j cost e = go (slice_get candidates j) refl e
  where
    go : (o : Option Signature) → slice_get candidates j ≡ o → option_and_then (λ (c : Signature). total c.params args) o ≡ Some cost → j < length candidates
    go None g h = absurd (cc)
    go (Some c) g h = slice_get_within candidates j c g

pub none_fits : (candidates : List Signature) (args : List Arg) (n : ℕ) → length candidates ≤ n → NoneFits (cost_at candidates args) n → (i : ℕ) → cost_at candidates args i ≡ None
none_fits candidates args n long h i = go (cost_at candidates args i) refl
  where
    go : (o : Option ℕ) → cost_at candidates args i ≡ o → cost_at candidates args i ≡ None
    go None e = e
    go (Some cost) e = let b : i < length candidates = there candidates args i cost e in absurd (h.none i cost (omega arith) e)

pub one_least : (candidates : List Signature) (args : List Arg) (n i cost : ℕ) → length candidates ≤ n → OneFits (cost_at candidates args) n i cost → IsLeast candidates args i
one_least candidates args n i cost long h = record {
  least = cost;
  costs = h.costs;
  others = λ j d e. h.alone j d (let b : j < length candidates = there candidates args j d e in omega arith) e;
}

pub two_tied : (candidates : List Signature) (args : List Arg) (n cost : ℕ) → length candidates ≤ n → TwoFit (cost_at candidates args) n cost → AreTied candidates args
two_tied candidates args n cost long h = record {
  first = h.first;
  second = h.second;
  apart = h.apart;
  least = cost;
  first_costs = h.first_costs;
  second_costs = h.second_costs;
  others = λ j d e. h.least j d (let b : j < length candidates = there candidates args j d e in omega arith) e;
}
