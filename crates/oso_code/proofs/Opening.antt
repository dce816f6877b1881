-- A walk over ops: the ranges of an op that fits are opened on top of those that are open.
use Rattle.std.proofs.Common.{◌≡◌, ℕ, suc, ◌+◌, ◌<◌, ◌≤◌, List, [], ◌∷◌, ◌++◌, Some, refl, sym, ap, ◌∙◌, arith}
use Rattle.std.specs.Prelude.{slice_get, take, map, reverse, filter, flat_map}
use Rattle.std.proofs.Math.Seq.{take-suc}
use Rattle.std.proofs.lemmas.Bool.{le-leb}
use Rattle.std.proofs.lemmas.List.{map-append, reverse-append}
use Rattle.std.proofs.lemmas.List.Elements.{filter-append}
use Rattle.std.proofs.lemmas.Option.{slice_get_within, get_or_from_slice_get}
use Rattle.oso_code.specs.declared.checks.opened.Open.{Open}
use Rattle.oso_code.specs.declared.checks.opened.Inside.{Inside}
use Rattle.oso_code.specs.declared.checks.role.Role.{Role}
use Rattle.oso_code.specs.declared.checks.role.Role.TheVariants.{LoopBody, Part}
use Rattle.oso_code.specs.Ranges.{ranges_of, contains, in_body}
use Rattle.oso_code.specs.Steps.{Step}
use Rattle.oso_code.specs.Walk.{inside_of, entered}
use Rattle.oso_code.proofs.Walked.{range_of, open_at, around_of, HeldOn, Follows, AllHeld, Begun, Ahead, Stacked, StandsIn, stands_in, same_open, top_misses, outside_early}

open_append : (j : ℕ) (xs ys : List Open) → open_at j (xs ++ ys) ≡ open_at j xs ++ open_at j ys
open_append j xs ys = ap (filter (contains j)) (map-append range_of xs ys) ∙ filter-append (contains j) (map range_of xs) (map range_of ys)

begun_on : (k : ℕ) (stack : List Open) → Begun k stack → Begun (k + 1) stack
begun_on k [] h = tt
begun_on k (r ∷ below) h = omega (arith, h)

follows_begun : (k : ℕ) (r : Open) (stack : List Open) → Begun k stack → k ≤ r.end → Follows r stack
follows_begun k r [] h le = tt
follows_begun k r (q ∷ below) h le = omega (arith, h, le)

-- the ranges of one more op
around_next : (steps : List Step) (k j : ℕ) (step : Step) → slice_get steps k ≡ Some step → around_of (take (k + 1) steps) j ≡ filter (contains j) (ranges_of step) ++ around_of (take k steps) j
around_next steps k j step is =
    let lt = slice_get_within steps k step is in
    let n : k + 1 ≡ suc k = omega arith in
    let cut : take (k + 1) steps ≡ take k steps ++ step ∷ [] = ap (λ i. take i steps) n ∙ take-suc steps k step lt ∙ ap (λ x. take k steps ++ x ∷ []) (get_or_from_slice_get steps k step step is) in
    ap (λ xs. filter (contains j) (flat_map ranges_of xs)) (ap reverse cut ∙ reverse-append (take k steps) (step ∷ []))
    ∙ filter-append (contains j) (ranges_of step) (flat_map ranges_of (reverse (take k steps)))

module _ (steps : List Step) (k : ℕ) (stack : List Open) (end : ℕ) (stacked : Stacked steps k stack) (ahead : Ahead k stack) where
  abbrev inside : Inside
  inside = inside_of end stack

  abbrev stands : StandsIn (open_at k stack) inside end k
  stands = stands_in k stack end stacked.held stacked.begun ahead

  pub next_stacked : (step : Step) (new : List Open) → slice_get steps k ≡ Some step → AllHeld (new ++ stack) → Begun (k + 1) (new ++ stack) → ((j : ℕ) → filter (contains j) (ranges_of step) ≡ open_at j new) → Stacked steps (k + 1) (new ++ stack)
  next_stacked step new is held begun same = record {
    same = λ j from. around_next steps k j step is ∙ (λ i. same j i ++ stacked.same j (omega (arith, from)) i) ∙ sym (open_append j new stack);
    held = held;
    begun = begun;
  }

  -- nothing is opened
  pub opens_none : (step : Step) → slice_get steps k ≡ Some step → ranges_of step ≡ [] → Stacked steps (k + 1) stack
  opens_none step is none = next_stacked step [] is stacked.held (begun_on k stack stacked.begun) (λ j. ap (filter (contains j)) none)

  module _ (limit : ℕ) (in_section : limit ≤ end) (in_range : limit ≤ inside.end) where
    -- a new range, over others of its op that do not hold its places
    new_held : (between : List Open) (role : Role) (start stop : ℕ) → k < start → stop ≤ limit → ((j : ℕ) → start ≤ j → j < stop → open_at j between ≡ []) → HeldOn (between ++ stack) (entered inside role start stop)
    new_held between role start stop later within apart = record {
      outside = open_at k stack;
      same = λ j from to.
          open_append j between stack ∙ ap (λ xs. xs ++ open_at j stack) (apart j from to) ∙ same_open k j stack end stacked.held stacked.begun ahead (omega (arith, later, from)) (omega (arith, to, within, in_range));
      depth = ap (λ n. n + 1) (sym stands.depth);
      loop = ap (in_body role) (sym stands.loop);
      ends = stands.ends stop (le-leb stop end (omega (arith, within, in_section))) ∙ le-leb stop inside.end (omega (arith, within, in_range));
      low = let l = stands.low in omega (arith, l, later);
    }

    alone : (j start stop : ℕ) (role : Role) → j < start → open_at j (entered inside role start stop ∷ []) ≡ []
    alone j start stop role lt = top_misses j (entered inside role start stop) [] (outside_early j (entered inside role start stop) lt)

    pub one_held : (role : Role) (e : ℕ) → k + 1 ≤ e → e ≤ limit → AllHeld (entered inside role (k + 1) e ∷ stack)
    one_held role e le within = (
      new_held [] role (k + 1) e (omega arith) within (λ j from to. refl),
      follows_begun k (entered inside role (k + 1) e) stack stacked.begun (omega (arith, le)),
      stacked.held,
    )

    pub two_held : (first second : Role) (a e : ℕ) → k + 1 ≤ a → a ≤ e → e ≤ limit → AllHeld (entered inside first (k + 1) a ∷ entered inside second a e ∷ stack)
    two_held first second a e p q within = (
      new_held (entered inside second a e ∷ []) first (k + 1) a (omega arith) (omega (arith, q, within)) (λ j from to. alone j a e second to),
      omega arith,
      (new_held [] second a e (omega (arith, p)) within (λ j from to. refl), follows_begun k (entered inside second a e) stack stacked.begun (omega (arith, p, q)), stacked.held),
    )

    pub three_held : (a s e : ℕ) → k + 1 ≤ a → a ≤ s → s ≤ e → e ≤ limit → AllHeld (entered inside Part (k + 1) a ∷ entered inside LoopBody a s ∷ entered inside Part s e ∷ stack)
    three_held a s e p q r within =
        let body = entered inside LoopBody a s in let step = entered inside Part s e in (
          new_held (body ∷ step ∷ []) Part (k + 1) a (omega arith) (omega (arith, q, r, within)) (λ j from to. top_misses j body (step ∷ []) (outside_early j body to) ∙ alone j s e Part (omega (arith, to, q))),
          omega arith,
          (
            new_held (step ∷ []) LoopBody a s (omega (arith, p)) (omega (arith, r, within)) (λ j from to. alone j s e Part to),
            omega arith,
            (new_held [] Part s e (omega (arith, p, q)) within (λ j from to. refl), follows_begun k step stack stacked.begun (omega (arith, p, q, r)), stacked.held),
          ),
        )
