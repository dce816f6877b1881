-- The candidate that is chosen is the one that costs least.
use Rattle.std.proofs.Common.{◌≡◌, ℕ, zero, suc, ◌+◌, ◌<◌, ◌≤◌, min, Bool, true, false, List, [], ◌∷◌, if◌then◌else◌, Option, Some, None, refl, ap, sym, ◌∙◌, inl, inr, ◌⊎◌, arith}
use Rattle.std.proofs.lemmas.Bool.Decides.{nat_tests}
use Rattle.std.specs.Prelude.{◌==◌}
use Rattle.osl_overload.specs.declared.signature.Arg.{Arg}
use Rattle.osl_overload.specs.declared.signature.Signature.{Signature}
use Rattle.osl_overload.specs.Choice.{cost_at, IsLeast}
use Rattle.osl_typed.specs.Choosing.{costs, least, least_of, places, costs_this, sole, sole_at, chosen}

-- the cost at a place, if there is one
abbrev at : List (Option ℕ) → ℕ → Option ℕ
at [] i = None
at (c ∷ cs) zero = c
at (c ∷ cs) (suc i) = at cs i

at_place : (candidates : List Signature) (args : List Arg) (i : ℕ) → cost_at candidates args i ≡ at (costs candidates args) i
at_place [] args i = refl
at_place (c ∷ cs) args zero = refl
at_place (c ∷ cs) args (suc i) = at_place cs args i

-- ---- the least cost

record IsLow (all : List (Option ℕ)) (n : ℕ) : Type 0 where
  place : ℕ
  reached : at all place ≡ Some n
  low : (j d : ℕ) → at all j ≡ Some d → n ≤ d

abbrev Says : List (Option ℕ) → Option ℕ → Type 0
Says all None = (j d : ℕ) → at all j ≡ Some d → ⊥
Says all (Some n) = IsLow all n

some_number : (a b : ℕ) → Some a ≡ Some b → a ≡ b
some_number a b e = cc

least_pair : (a n : ℕ) → ((min a n ≡ a) × (a ≤ n)) ⊎ ((min a n ≡ n) × (n ≤ a))
least_pair a n = grind arith

one_more : (c l : Option ℕ) (cs : List (Option ℕ)) → Says cs l → Says (c ∷ cs) (least_of c l)
one_more None None cs h = go
  where
    go : (j d : ℕ) → at (None ∷ cs) j ≡ Some d → ⊥
    go zero d e = absurd (cc)
    go (suc j) d e = h j d e
one_more None (Some n) cs h = record { place = suc h.place; reached = h.reached; low = go }
  where
    go : (j d : ℕ) → at (None ∷ cs) j ≡ Some d → n ≤ d
    go zero d e = absurd (cc)
    go (suc j) d e = h.low j d e
one_more (Some a) None cs h = record { place = zero; reached = refl; low = go }
  where
    go : (j d : ℕ) → at (Some a ∷ cs) j ≡ Some d → a ≤ d
    go zero d e = let s : a ≡ d = some_number a d e in omega arith
    go (suc j) d e = absurd (h j d e)
one_more (Some a) (Some n) cs h = go (least_pair a n)
  where
    below : (j d : ℕ) → at (Some a ∷ cs) j ≡ Some d → min a n ≤ d
    below zero d e = let s : a ≡ d = some_number a d e in omega arith
    below (suc j) d e = let s : n ≤ d = h.low j d e in omega arith

    go : ((min a n ≡ a) × (a ≤ n)) ⊎ ((min a n ≡ n) × (n ≤ a)) → IsLow (Some a ∷ cs) (min a n)
    go (inl p) = record { place = zero; reached = ap Some (sym (p.0)); low = below }
    go (inr p) = record { place = suc h.place; reached = h.reached ∙ ap Some (sym (p.0)); low = below }

says_least : (all : List (Option ℕ)) → Says all (least all)
unfolding least
says_least [] = λ j d e. absurd (cc)
says_least (c ∷ cs) = one_more c (least cs) cs (says_least cs)

-- ---- the places of a cost

abbrev placed : ℕ → ℕ → Bool → List ℕ → List ℕ
placed n from this rest = if this then from ∷ rest else rest

same_number : (a n : ℕ) → (a == n) ≡ true → a ≡ n
same_number a n e = grind (arith, nat_tests)

other_number : (a n : ℕ) → (a == n) ≡ false → a ≡ n → ⊥
other_number a n e s = grind (arith, nat_tests)

this_cost : (n : ℕ) (c : Option ℕ) → costs_this n c ≡ true → c ≡ Some n
this_cost n None e = absurd (cc)
this_cost n (Some a) e = ap Some (same_number a n e)

other_cost : (n : ℕ) (c : Option ℕ) → costs_this n c ≡ false → c ≡ Some n → ⊥
other_cost n None e s = cc
other_cost n (Some a) e s = other_number a n e (some_number a n s)

not_empty : {x : ℕ} {xs : List ℕ} → x ∷ xs ≡ [] → ⊥
not_empty e = cc

nowhere_step : (n from : ℕ) (c : Option ℕ) (cs : List (Option ℕ)) (this : Bool) → costs_this n c ≡ this
    → (places n (from + 1) cs ≡ [] → (j : ℕ) → at cs j ≡ Some n → ⊥)
    → placed n from this (places n (from + 1) cs) ≡ [] → (j : ℕ) → at (c ∷ cs) j ≡ Some n → ⊥
nowhere_step n from c cs true p ih e j h = not_empty e
nowhere_step n from c cs false p ih e zero h = other_cost n c p h
nowhere_step n from c cs false p ih e (suc j) h = ih e j h

nowhere : (n from : ℕ) (all : List (Option ℕ)) → places n from all ≡ [] → (j : ℕ) → at all j ≡ Some n → ⊥
unfolding places
nowhere n from [] e j h = cc
nowhere n from (c ∷ cs) e j h = nowhere_step n from c cs (costs_this n c) refl (nowhere n (from + 1) cs) e j h

no_places_step : (n from : ℕ) (c : Option ℕ) (cs : List (Option ℕ)) (this : Bool) → costs_this n c ≡ this
    → (((j : ℕ) → at cs j ≡ Some n → ⊥) → places n (from + 1) cs ≡ [])
    → ((j : ℕ) → at (c ∷ cs) j ≡ Some n → ⊥) → placed n from this (places n (from + 1) cs) ≡ []
no_places_step n from c cs true p ih none = absurd (none zero (this_cost n c p))
no_places_step n from c cs false p ih none = ih (λ j h. none (suc j) h)

no_places : (n from : ℕ) (all : List (Option ℕ)) → ((j : ℕ) → at all j ≡ Some n → ⊥) → places n from all ≡ []
unfolding places
no_places n from [] none = refl
no_places n from (c ∷ cs) none = no_places_step n from c cs (costs_this n c) refl (no_places n (from + 1) cs) none

-- the only place of a cost
record IsLone (n from : ℕ) (all : List (Option ℕ)) (place : ℕ) : Type 0 where
  index : ℕ
  here : place ≡ from + index
  costs_so : at all index ≡ Some n
  alone : (j : ℕ) → at all j ≡ Some n → j ≡ index

only_one : (x : ℕ) (xs : List ℕ) (p : ℕ) → sole (x ∷ xs) ≡ Some p → (x ≡ p) × (xs ≡ [])
only_one x [] p e = (some_number x p e, refl)
only_one x (y ∷ ys) p e = absurd (cc)

lone_step : (n from : ℕ) (c : Option ℕ) (cs : List (Option ℕ)) (p : ℕ) (this : Bool) → costs_this n c ≡ this
    → (sole (places n (from + 1) cs) ≡ Some p → IsLone n (from + 1) cs p)
    → sole (placed n from this (places n (from + 1) cs)) ≡ Some p → IsLone n from (c ∷ cs) p
lone_step n from c cs p true q ih e =
    let parts = only_one from (places n (from + 1) cs) p e in
    record { index = 0; here = (let s : from ≡ p = parts.0 in omega arith); costs_so = this_cost n c q; alone = go (nowhere n (from + 1) cs (parts.1)) }
  where
    go : ((j : ℕ) → at cs j ≡ Some n → ⊥) → (j : ℕ) → at (c ∷ cs) j ≡ Some n → j ≡ 0
    go none zero h = refl
    go none (suc j) h = absurd (none j h)
lone_step n from c cs p false q ih e = go (ih e)
  where
    go : IsLone n (from + 1) cs p → IsLone n from (c ∷ cs) p
    go l = record { index = suc l.index; here = (let s : p ≡ from + 1 + l.index = l.here in omega arith); costs_so = l.costs_so; alone = alone_so }
      where
        alone_so : (j : ℕ) → at (c ∷ cs) j ≡ Some n → j ≡ suc l.index
        alone_so zero h = absurd (other_cost n c q h)
        alone_so (suc j) h = ap suc (l.alone j h)

lone : (n from : ℕ) (all : List (Option ℕ)) (p : ℕ) → sole (places n from all) ≡ Some p → IsLone n from all p
unfolding places
lone n from [] p e = absurd (cc)
lone n from (c ∷ cs) p e = lone_step n from c cs p (costs_this n c) refl (lone n (from + 1) cs p) e

sole_step : (n from : ℕ) (c : Option ℕ) (cs : List (Option ℕ)) (i : ℕ) (this : Bool) → costs_this n c ≡ this
    → ((k : ℕ) → at cs k ≡ Some n → ((j : ℕ) → at cs j ≡ Some n → j ≡ k) → sole (places n (from + 1) cs) ≡ Some (from + 1 + k))
    → at (c ∷ cs) i ≡ Some n → ((j : ℕ) → at (c ∷ cs) j ≡ Some n → j ≡ i)
    → sole (placed n from this (places n (from + 1) cs)) ≡ Some (from + i)
sole_step n from c cs zero true p ih h alone =
    let rest : places n (from + 1) cs ≡ [] = no_places n (from + 1) cs (λ j g. let s : suc j ≡ zero = alone (suc j) g in omega arith) in
    rw rest (ap Some (omega arith))
sole_step n from c cs (suc i) true p ih h alone = absurd (let s : zero ≡ suc i = alone zero (this_cost n c p) in omega arith)
sole_step n from c cs zero false p ih h alone = absurd (other_cost n c p h)
sole_step n from c cs (suc i) false p ih h alone =
    ih i h (λ j g. let s : suc j ≡ suc i = alone (suc j) g in omega arith) ∙ ap Some (omega arith)

sole_place : (n from : ℕ) (all : List (Option ℕ)) (i : ℕ) → at all i ≡ Some n → ((j : ℕ) → at all j ≡ Some n → j ≡ i) → sole (places n from all) ≡ Some (from + i)
unfolding places
sole_place n from [] i h alone = absurd (cc)
sole_place n from (c ∷ cs) i h alone = sole_step n from c cs i (costs_this n c) refl (sole_place n (from + 1) cs) h alone

-- ---- the choice

others_cost_more : (all : List (Option ℕ)) (n i : ℕ) → IsLow all n → IsLone n 0 all i → (j d : ℕ) → at all j ≡ Some d → (j ≡ i) ⊎ (n < d)
others_cost_more all n i low l j d e = go (same_or_less n d (low.low j d e))
  where
    same_or_less : (a b : ℕ) → a ≤ b → (b ≡ a) ⊎ (a < b)
    same_or_less a b h = grind arith

    go : (d ≡ n) ⊎ (n < d) → (j ≡ i) ⊎ (n < d)
    go (inl s) = inl (let t : j ≡ l.index = l.alone j (e ∙ ap Some s) in let u : i ≡ 0 + l.index = l.here in omega arith)
    go (inr t) = inr t

lone_costs : (all : List (Option ℕ)) (n i : ℕ) → IsLone n 0 all i → at all i ≡ Some n
lone_costs all n i l = let u : i ≡ l.index = (let v : i ≡ 0 + l.index = l.here in omega arith) in ap (at all) u ∙ l.costs_so

least_at : (candidates : List Signature) (args : List Arg) (i : ℕ) (l : Option ℕ) → Says (costs candidates args) l → sole_at (costs candidates args) l ≡ Some i → IsLeast candidates args i
least_at candidates args i None h e = absurd (cc)
least_at candidates args i (Some n) h e =
    let l = lone n 0 (costs candidates args) i e in
    record {
      least = n;
      costs = at_place candidates args i ∙ lone_costs (costs candidates args) n i l;
      others = λ j d g. others_cost_more (costs candidates args) n i h l j d (sym (at_place candidates args j) ∙ g);
    }

pub chosen_is_least : (candidates : List Signature) (args : List Arg) (i : ℕ) → chosen candidates args ≡ Some i → IsLeast candidates args i
unfolding chosen
chosen_is_least candidates args i e = least_at candidates args i (least (costs candidates args)) (says_least (costs candidates args)) e

chosen_at : (candidates : List Signature) (args : List Arg) (i : ℕ) → IsLeast candidates args i → (l : Option ℕ) → Says (costs candidates args) l → sole_at (costs candidates args) l ≡ Some i
chosen_at candidates args i h None none = absurd (none i h.least (sym (at_place candidates args i) ∙ h.costs))
chosen_at candidates args i h (Some n) low =
    let here : at (costs candidates args) i ≡ Some h.least = sym (at_place candidates args i) ∙ h.costs in
    let not_above : n ≤ h.least = low.low i h.least here in
    let not_below : h.least ≤ n = reached (h.others low.place n (at_place candidates args low.place ∙ low.reached)) in
    let same : h.least ≡ n = omega arith in
    let from_start : 0 + i ≡ i = omega arith in
    sole_place n 0 (costs candidates args) i (here ∙ ap Some same) (λ j g. lone_so j (h.others j n (at_place candidates args j ∙ g))) ∙ ap Some from_start
  where
    reached : (low.place ≡ i) ⊎ (h.least < n) → h.least ≤ n
    reached (inl s) =
        let t : h.least ≡ n = some_number h.least n (sym h.costs ∙ at_place candidates args i ∙ ap (at (costs candidates args)) (sym s) ∙ low.reached) in omega arith
    reached (inr t) = omega arith

    lone_so : (j : ℕ) → (j ≡ i) ⊎ (h.least < n) → j ≡ i
    lone_so j (inl s) = s
    lone_so j (inr t) = absurd (let u : n ≤ h.least = low.low i h.least (sym (at_place candidates args i) ∙ h.costs) in omega arith)

pub least_is_chosen : (candidates : List Signature) (args : List Arg) (i : ℕ) → IsLeast candidates args i → chosen candidates args ≡ Some i
unfolding chosen
least_is_chosen candidates args i h = chosen_at candidates args i h (least (costs candidates args)) (says_least (costs candidates args))
