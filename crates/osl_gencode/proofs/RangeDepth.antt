-- How deep the ranges of code lie in each other.
use Rattle.std.proofs.Common.{◌≡◌, ℕ, zero, suc, ◌+◌, ◌<◌, ◌≤◌, ◌⊎◌, inl, inr, ⊎_elim, List, [], ◌∷◌, ◌++◌, length, Option, Some, Bool, true, false, refl, sym, ap, ◌∙◌, arith}
use Rattle.std.specs.Prelude.{slice_get, take, filter, flat_map, reverse, nat_le, nat_lt, if◌then◌else◌}
use Rattle.std.proofs.lemmas.Bool.{cases_lt, and_parts, leb-true, ltb-true, lt-ltb}
use Rattle.oso_code.specs.Nesting.{after, Nests}
use Rattle.oso_code.specs.Ranges.{Ranged, ranges_of, ranged, contains, around}
use Rattle.oso_code.specs.declared.checks.role.Role.TheVariants.{LoopBody, CallBody, Part}
use Rattle.oso_code.specs.Steps.{Step, Compute, Branch, Loop, Call, Leave, span}
use Rattle.oso_code.specs.Valid.{nests_within, most_nested}
use Rattle.osl_gencode.proofs.LoopsAround.{ranges_more, there}
use Rattle.osl_gencode.specs.Pieces.{Shaped, holding, depth_at, own_depth, Deep}

-- ---- how many ranges are around a place

holding_append : (k : ℕ) (rs qs : List Ranged) → holding k (rs ++ qs) ≡ holding k rs + holding k qs
holding_append k [] qs = omega arith
holding_append k (r ∷ rs) qs = by_test (contains k r) (holding_append k rs qs)
  where
    by_test : (t : Bool) → holding k (rs ++ qs) ≡ holding k rs + holding k qs → length (if t then r ∷ filter (contains k) (rs ++ qs) else filter (contains k) (rs ++ qs)) ≡ length (if t then r ∷ filter (contains k) rs else filter (contains k) rs) + holding k qs
    by_test true h = omega (arith, h)
    by_test false h = h

-- one op more
pub depth_more : (steps : List Step) (k n : ℕ) (step : Step) → slice_get steps n ≡ Some step → depth_at steps k (suc n) ≡ holding k (ranges_of step) + depth_at steps k n
depth_more steps k n step at = ap (holding k) (ranges_more steps n step at) ∙ holding_append k (ranges_of step) (flat_map ranges_of (reverse (take n steps)))

-- ---- places that a range does not have

misses : (k : ℕ) (r : Ranged) → (k < r.span.start) ⊎ (r.span.end ≤ k) → contains k r ≡ false
misses k r out = by_test (contains k r) refl
  where
    by_test : (t : Bool) → contains k r ≡ t → contains k r ≡ false
    by_test true e =
        let p = and_parts (nat_le r.span.start k) (nat_lt k r.span.end) e in
        let a = leb-true r.span.start k p.0 in let b = ltb-true k r.span.end p.1 in
        absurd (⊎_elim (λ (l : k < r.span.start). omega (arith, l, a)) (λ (l : r.span.end ≤ k). omega (arith, l, b)) out)
    by_test false e = e

at_most : (k : ℕ) (r : Ranged) (rs : List Ranged) → holding k (r ∷ rs) ≤ 1 + holding k rs
at_most k r rs = by_test (contains k r)
  where
    by_test : (t : Bool) → length (if t then r ∷ filter (contains k) rs else filter (contains k) rs) ≤ 1 + holding k rs
    by_test true = omega arith
    by_test false = omega arith

passed : (k : ℕ) (r : Ranged) (rs : List Ranged) → (k < r.span.start) ⊎ (r.span.end ≤ k) → holding k (r ∷ rs) ≡ holding k rs
passed k r rs out = ap (λ t. length (if t then r ∷ filter (contains k) rs else filter (contains k) rs)) (misses k r out)

-- ranges that lie side by side: one of them at most has the place
pub one_of_two : (k x a e : ℕ) (r q : Ranged) → r.span ≡ span x a → q.span ≡ span a e → holding k (r ∷ q ∷ []) ≤ 1
one_of_two k x a e r q first second =
    ⊎_elim (λ (l : k < a).
    let m = passed k q [] (inl (let s : q.span.start ≡ a = ap (λ z. z.start) second in omega (arith, l, s))) in
    let h = at_most k r (q ∷ []) in omega (arith, h, m)) (λ (g : a ≤ k).
    let m = passed k r (q ∷ []) (inr (let s : r.span.end ≡ a = ap (λ z. z.end) first in omega (arith, g, s))) in
    let h = at_most k q [] in omega (arith, h, m)) (cases_lt k a)

pub one_of_three : (k x a s e : ℕ) (r q u : Ranged) → a ≤ s → r.span ≡ span x a → q.span ≡ span a s → u.span ≡ span s e → holding k (r ∷ q ∷ u ∷ []) ≤ 1
one_of_three k x a s e r q u le first second third =
    ⊎_elim (λ (l : k < a).
    let m = passed k q (u ∷ []) (inl (let z : q.span.start ≡ a = ap (λ z. z.start) second in omega (arith, l, z))) in
    let n = passed k u [] (inl (let z : u.span.start ≡ s = ap (λ z. z.start) third in omega (arith, l, z, le))) in
    let h = at_most k r (q ∷ u ∷ []) in omega (arith, h, m, n)) (λ (g : a ≤ k).
    let m = passed k r (q ∷ u ∷ []) (inr (let z : r.span.end ≡ a = ap (λ z. z.end) first in omega (arith, g, z))) in
    let h = one_of_two k a s e q u second third in omega (arith, h, m)) (cases_lt k a)

-- ---- ops that are over before a place

ended_op : (steps : List Step) (k m j : ℕ) (step : Step) → m ≤ k → after j step ≤ m → Nests steps j step → holding k (ranges_of step) ≡ 0
ended_op steps k m j (Compute name ty target sources) le end nest = refl
ended_op steps k m j (Branch c holds fails) le end nest =
    passed k (ranged Part holds) (ranged Part fails ∷ []) (inr (let w = nest.0.within in omega (arith, w, end, le))) ∙ passed k (ranged Part fails) [] (inr (let w = nest.1.within in omega (arith, w, end, le)))
ended_op steps k m j (Loop true c test body step) le end nest =
    passed k (ranged Part test) (ranged LoopBody body ∷ ranged Part step ∷ []) (inr (let w = nest.0.within in omega (arith, w, end, le))) ∙ passed k (ranged LoopBody body) (ranged Part step ∷ []) (inr (let w = nest.1.within in omega (arith, w, end, le))) ∙ passed k (ranged Part step) [] (inr (let w = nest.2.within in omega (arith, w, end, le)))
ended_op steps k m j (Loop false c test body step) le end nest =
    passed k (ranged LoopBody body) (ranged Part test ∷ ranged Part step ∷ []) (inr (let w = nest.1.within in omega (arith, w, end, le))) ∙ passed k (ranged Part test) (ranged Part step ∷ []) (inr (let w = nest.0.within in omega (arith, w, end, le))) ∙ passed k (ranged Part step) [] (inr (let w = nest.2.within in omega (arith, w, end, le)))
ended_op steps k m j (Call body) le end nest = passed k (ranged CallBody body) [] (inr (let w = nest.within in omega (arith, w, end, le)))
ended_op steps k m j (Leave way) le end nest = refl

-- a part is around no place after it
pub not_around : (steps : List Step) (i m k : ℕ) (at_k : Step) → slice_get steps k ≡ Some at_k → i ≤ m → m ≤ k → Shaped steps i m → depth_at steps k m ≡ depth_at steps k i
not_around steps i m k at_k here le h shaped = up_to m le (omega arith)
  where
    up_to : (n : ℕ) → i ≤ n → n ≤ m → depth_at steps k n ≡ depth_at steps k i
    up_to zero low high = ap (depth_at steps k) (let e : 0 ≡ i = omega (arith, low) in e)
    up_to (suc n) low high = ⊎_elim (λ (l : i < suc n).
        let s = there steps n k at_k here (omega (arith, high, h)) in
        depth_more steps k n s.0 s.1
        ∙ ap (λ z. z + depth_at steps k n) (ended_op steps k m n s.0 h (shaped.closed.ends n s.0 (omega (arith, l)) (omega (arith, high)) s.1) (shaped.nests n s.0 (omega (arith, l)) (omega (arith, high)) s.1))
        ∙ (let r = up_to n (omega (arith, l)) (omega (arith, high)) in omega (arith, r))) (λ (g : suc n ≤ i). ap (depth_at steps k) (let e : suc n ≡ i = omega (arith, low, g) in e)) (cases_lt i (suc n))

-- ---- parts

pub deep_none : (steps : List Step) (i d : ℕ) → Deep steps i i d
deep_none steps i d = record { each = λ k step a b at. absurd (omega (arith, a, b)) }

pub deep_more : (steps : List Step) (i m d d1 : ℕ) → d ≤ d1 → Deep steps i m d → Deep steps i m d1
deep_more steps i m d d1 le s = record { each = λ k step a b at. let h = s.each k step a b at in omega (arith, h, le) }

-- one part after another
pub deep_on : (steps : List Step) (i m e d : ℕ) → i ≤ m → Shaped steps i m → Deep steps i m d → Deep steps m e d → Deep steps i e d
deep_on steps i m e d le shaped s t = record {
  each = λ k step a b at. ⊎_elim (λ (l : k < m). s.each k step a l at) (λ (g : m ≤ k).
      let h = t.each k step g b at in let z = not_around steps i m k step at le g shaped in omega (arith, h, z)) (cases_lt k m);
}

same_some : {A : Type 0} (x y : A) (o : Option A) → o ≡ Some x → o ≡ Some y → x ≡ y
same_some x y o p q = let s : Some x ≡ Some y = sym p ∙ q in cc s

-- an op without ranges
pub deep_plain : (steps : List Step) (i d : ℕ) (one : Step) → slice_get steps i ≡ Some one → own_depth one ≤ d → Deep steps i (i + 1) d
deep_plain steps i d one here le = record {
  each = λ k step a b at.
      let e : k ≡ i = omega (arith, a, b) in
      let same = same_some one step (slice_get steps i) here (ap (slice_get steps) (sym e) ∙ at) in
      let o : own_depth step ≡ own_depth one = ap own_depth (sym same) in
      let z : depth_at steps k k ≡ depth_at steps k i = ap (depth_at steps k) e in
      omega (arith, o, z, le);
}

-- an op before its ranges, of which one at most has a place
pub deep_op : (steps : List Step) (i e d : ℕ) (one : Step) → slice_get steps i ≡ Some one → ((k : ℕ) → holding k (ranges_of one) ≤ 1) → Deep steps (i + 1) e d → Deep steps i e (1 + d)
deep_op steps i e d one here few s = record {
  each = λ k step a b at. ⊎_elim (λ (l : k < i + 1).
      let first = deep_plain steps i (1 + d) one here (few_own one) in
      let z : k < i + 1 = l in first.each k step a z at) (λ (g : i + 1 ≤ k).
      let h = s.each k step g b at in
      let n : i + 1 ≡ suc i = omega arith in
      let m : depth_at steps k (i + 1) ≡ holding k (ranges_of one) + depth_at steps k i = ap (depth_at steps k) n ∙ depth_more steps k i one here in
      let f = few k in omega (arith, h, m, f)) (cases_lt k (i + 1));
}
  where
    few_own : (x : Step) → own_depth x ≤ 1 + d
    few_own (Compute name ty target sources) = omega arith
    few_own (Branch c holds fails) = omega arith
    few_own (Loop tested c test body step) = omega arith
    few_own (Call body) = omega arith
    few_own (Leave way) = omega arith

pub deep_branch : (steps : List Step) (i c a e d : ℕ) → slice_get steps i ≡ Some (Branch c (span (i + 1) a) (span a e)) → Deep steps (i + 1) e d → Deep steps i e (1 + d)
deep_branch steps i c a e d here s = deep_op steps i e d (Branch c (span (i + 1) a) (span a e)) here (λ k. one_of_two k (i + 1) a e (ranged Part (span (i + 1) a)) (ranged Part (span a e)) refl refl) s

pub deep_loop : (steps : List Step) (i c a m e d : ℕ) → slice_get steps i ≡ Some (Loop true c (span (i + 1) a) (span a m) (span m e)) → a ≤ m → Deep steps (i + 1) e d → Deep steps i e (1 + d)
deep_loop steps i c a m e d here le s = deep_op steps i e d (Loop true c (span (i + 1) a) (span a m) (span m e)) here (λ k. one_of_three k (i + 1) a m e (ranged Part (span (i + 1) a)) (ranged LoopBody (span a m)) (ranged Part (span m e)) le refl refl refl) s

-- a loop that tests last: its body comes first
pub deep_do : (steps : List Step) (i c a e d : ℕ) → slice_get steps i ≡ Some (Loop false c (span a e) (span (i + 1) a) (span e e)) → a ≤ e → Deep steps (i + 1) e d → Deep steps i e (1 + d)
deep_do steps i c a e d here le s = deep_op steps i e d (Loop false c (span a e) (span (i + 1) a) (span e e)) here (λ k. one_of_three k (i + 1) a e e (ranged LoopBody (span (i + 1) a)) (ranged Part (span a e)) (ranged Part (span e e)) le refl refl refl) s

pub deep_call : (steps : List Step) (i e d : ℕ) → slice_get steps i ≡ Some (Call (span (i + 1) e)) → Deep steps (i + 1) e d → Deep steps i e (1 + d)
deep_call steps i e d here s = deep_op steps i e d (Call (span (i + 1) e)) here (λ k. at_most k (ranged CallBody (span (i + 1) e)) []) s

-- ---- the whole

-- where it is no deeper than code may be, the ranges of each op nest within the limit
pub deep_fits : (steps : List Step) (m d k : ℕ) (step : Step) → d ≤ most_nested → Deep steps 0 m d → k < m → slice_get steps k ≡ Some step → nests_within steps k step ≡ true
deep_fits steps m d k step le s lt at = by_step step (let h = s.each k step (omega arith) lt at in omega (arith, h, le))
  where
    below : length (around steps k) + 1 ≤ most_nested → nat_lt (length (around steps k)) most_nested ≡ true
    below h = lt-ltb (length (around steps k)) most_nested (omega (arith, h))

    by_step : (x : Step) → depth_at steps k k + own_depth x ≤ most_nested → nests_within steps k x ≡ true
    by_step (Compute name ty target sources) h = refl
    by_step (Branch c holds fails) h = below h
    by_step (Loop true c test body step1) h = below h
    by_step (Loop false c test body step1) h = below h
    by_step (Call body) h = below h
    by_step (Leave way) h = refl
