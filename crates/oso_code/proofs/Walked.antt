-- A walk over ops: the ranges that are open are those that a place is in.
use Rattle.std.proofs.Common.{◌≡◌, ℕ, suc, ◌+◌, ◌<◌, ◌≤◌, List, [], ◌∷◌, length, Bool, true, false, refl, sym, ap, ◌∙◌, arith}
use Rattle.std.specs.Prelude.{take, map, reverse, filter, flat_map, nat_lt, nat_le, ◌&&◌, if◌then◌else◌, IsTrue}
use Rattle.std.specs.List.{list_all}
use Rattle.std.proofs.lemmas.Bool.{ltb-true, ltb-false, lt-ltb, le-ltb, le-leb, lt-leb, leb-true}
use Rattle.oso_code.specs.declared.checks.opened.Open.{Open}
use Rattle.oso_code.specs.declared.checks.opened.Inside.{Inside}
use Rattle.oso_code.specs.Ranges.{Ranged, ranged, ranges_of, contains, in_body, in_loop_body}
use Rattle.oso_code.specs.Steps.{span, Step}
use Rattle.oso_code.specs.Walk.{close, inside_of}
use Rattle.oso_code.proofs.Members.{and_both, both_and}

-- an open range as a range
abbrev pub range_of : Open → Ranged
range_of r = ranged r.role (span r.start r.end)

-- the ranges that a place is in, of those that are open
abbrev pub open_at : ℕ → List Open → List Ranged
open_at k stack = filter (contains k) (map range_of stack)

-- what is known of an open range, over those below it
pub record HeldOn (below : List Open) (r : Open) : Type 0 where
  pub outside : List Ranged
  pub same : (k : ℕ) → r.start ≤ k → k < r.end → open_at k below ≡ outside
  pub depth : r.depth ≡ length outside + 1
  pub loop : r.in_loop ≡ in_body r.role (in_loop_body outside)
  pub ends : IsTrue (list_all (λ q. nat_le r.end q.span.end) outside)
  pub low : r.depth ≤ r.start

-- the next one begins no later than this one ends
abbrev pub Follows : Open → List Open → Type 0
Follows r [] = Unit {0}
Follows r (q ∷ below) = q.start ≤ r.end

abbrev pub AllHeld : List Open → Type 0
AllHeld [] = Unit {0}
AllHeld (r ∷ below) = HeldOn below r × Follows r below × AllHeld below

abbrev pub Begun : ℕ → List Open → Type 0
Begun k [] = Unit {0}
Begun k (r ∷ below) = r.start ≤ k

abbrev pub around_of : List Step → ℕ → List Ranged
around_of steps j = filter (contains j) (flat_map ranges_of (reverse steps))

-- none of the first k ops has a range over a place from k on but those that are open
pub record Stacked (steps : List Step) (k : ℕ) (stack : List Open) : Type 0 where
  pub same : (j : ℕ) → k ≤ j → around_of (take k steps) j ≡ open_at j stack
  pub held : AllHeld stack
  pub begun : Begun k stack

-- ---- a place and a range

pub outside_late : (j : ℕ) (r : Open) → r.end ≤ j → contains j (range_of r) ≡ false
outside_late j r le = ap (λ b. nat_le r.start j && b) (le-ltb j r.end le) ∙ and_none (nat_le r.start j)
  where
    and_none : (b : Bool) → (b && false) ≡ false
    and_none true = refl
    and_none false = refl

pub outside_early : (j : ℕ) (r : Open) → j < r.start → contains j (range_of r) ≡ false
outside_early j r lt = ap (λ b. b && nat_lt j r.end) (lt-leb r.start j lt)

inside_it : (j : ℕ) (r : Open) → r.start ≤ j → j < r.end → IsTrue (contains j (range_of r))
inside_it j r le lt = both_and (nat_le r.start j) (nat_lt j r.end) (le-leb r.start j le) (lt-ltb j r.end lt)

kept : (b : Bool) (x : Ranged) (xs : List Ranged) → IsTrue b → (if b then x ∷ xs else xs) ≡ x ∷ xs
kept true x xs h = refl
kept false x xs h = absurd (cc h)

pub dropped : (b : Bool) (x : Ranged) (xs : List Ranged) → b ≡ false → (if b then x ∷ xs else xs) ≡ xs
dropped true x xs h = absurd (cc h)
dropped false x xs h = refl

-- the range on top holds the place, or does not
top_holds : (j : ℕ) (r : Open) (below : List Open) → r.start ≤ j → j < r.end → open_at j (r ∷ below) ≡ range_of r ∷ open_at j below
top_holds j r below le lt = kept (contains j (range_of r)) (range_of r) (open_at j below) (inside_it j r le lt)

pub top_misses : (j : ℕ) (r : Open) (below : List Open) → contains j (range_of r) ≡ false → open_at j (r ∷ below) ≡ open_at j below
top_misses j r below h = dropped (contains j (range_of r)) (range_of r) (open_at j below) h

-- ---- closing

begun_below : (k : ℕ) (r : Open) (below : List Open) → Follows r below → r.end ≤ k → Begun k below
begun_below k r [] follows le = tt
begun_below k r (q ∷ below) follows le = omega (arith, follows, le)

pub close_keeps : (steps : List Step) (k : ℕ) (stack : List Open) → Stacked steps k stack → Stacked steps k (close k stack)
close_keeps steps k [] s = s
close_keeps steps k (r ∷ below) s = go (nat_lt k r.end) refl (λ t. close_keeps steps k below t)
  where
    go : (b : Bool) → nat_lt k r.end ≡ b → (Stacked steps k below → Stacked steps k (close k below)) → Stacked steps k (if b then r ∷ below else close k below)
    go true h more = s
    go false h more =
        let le : r.end ≤ k = ltb-false k r.end h in
        more (record {
          same = λ j from. s.same j from ∙ top_misses j r below (outside_late j r (omega (arith, le, from)));
          held = s.held.2;
          begun = begun_below k r below s.held.1 le;
        })

-- the range on top ends after the place
abbrev pub Ahead : ℕ → List Open → Type 0
Ahead k [] = Unit {0}
Ahead k (r ∷ below) = k < r.end

pub close_ahead : (k : ℕ) (stack : List Open) → Ahead k (close k stack)
close_ahead k [] = tt
close_ahead k (r ∷ below) = go (nat_lt k r.end) refl (close_ahead k below)
  where
    go : (b : Bool) → nat_lt k r.end ≡ b → Ahead k (close k below) → Ahead k (if b then r ∷ below else close k below)
    go true h more = ltb-true k r.end h
    go false h more = more

-- ---- what a place is in

-- at a place that the range on top holds, the same are open as at another
pub same_open : (k j : ℕ) (stack : List Open) (end : ℕ) → AllHeld stack → Begun k stack → Ahead k stack → k ≤ j → j < (inside_of end stack).end → open_at j stack ≡ open_at k stack
same_open k j [] end held begun ahead le lt = refl
same_open k j (r ∷ below) end held begun ahead le lt =
    top_holds j r below (omega (arith, begun, le)) lt ∙ ap (λ xs. range_of r ∷ xs) (held.0.same j (omega (arith, begun, le)) lt ∙ sym (held.0.same k begun ahead)) ∙ sym (top_holds k r below begun ahead)

-- the depth, and whether it is in a loop's body
pub record StandsIn (rs : List Ranged) (inside : Inside) (end k : ℕ) : Type 0 where
  pub depth : length rs ≡ inside.depth
  pub loop : in_loop_body rs ≡ inside.in_loop
  pub ends : (reach : ℕ) → IsTrue (nat_le reach end) → (list_all (λ r. nat_le reach r.span.end) rs) ≡ nat_le reach inside.end
  pub low : inside.depth ≤ k

all_beyond : (reach end : ℕ) (rs : List Ranged) → IsTrue (list_all (λ r. nat_le end r.span.end) rs) → reach ≤ end → IsTrue (list_all (λ r. nat_le reach r.span.end) rs)
all_beyond reach end [] h le = refl
all_beyond reach end (r ∷ rs) h le =
    let p = and_both (nat_le end r.span.end) (list_all (λ q. nat_le end q.span.end) rs) h in
    let q = leb-true end r.span.end p.0 in
    both_and (nat_le reach r.span.end) (list_all (λ q. nat_le reach q.span.end) rs) (le-leb reach r.span.end (omega (arith, q, le))) (all_beyond reach end rs p.1 le)

-- where the innermost range holds the end, so do the others
innermost : (reach end : ℕ) (rs : List Ranged) → IsTrue (list_all (λ r. nat_le end r.span.end) rs) → (nat_le reach end && list_all (λ r. nat_le reach r.span.end) rs) ≡ nat_le reach end
innermost reach end rs h = go (nat_le reach end) refl
  where
    go : (b : Bool) → nat_le reach end ≡ b → (b && list_all (λ r. nat_le reach r.span.end) rs) ≡ b
    go true e = all_beyond reach end rs h (leb-true reach end e)
    go false e = refl

pub stands_in : (k : ℕ) (stack : List Open) (end : ℕ) → AllHeld stack → Begun k stack → Ahead k stack → StandsIn (open_at k stack) (inside_of end stack) end k
stands_in k [] end held begun ahead = record { depth = refl; loop = refl; ends = λ reach h. sym h; low = omega arith }
stands_in k (r ∷ below) end held begun ahead =
    let on = held.0 in
    let top = top_holds k r below begun ahead ∙ ap (λ xs. range_of r ∷ xs) (on.same k begun ahead) in
    let d = on.depth in
    let low = on.low in
    record {
      depth = ap length top ∙ sym (let e : length on.outside + 1 ≡ suc (length on.outside) = omega arith in d ∙ e);
      loop = ap in_loop_body top ∙ sym on.loop;
      ends = λ reach h. ap (list_all (λ q. nat_le reach q.span.end)) top ∙ innermost reach r.end on.outside on.ends;
      low = omega (arith, low, begun);
    }
