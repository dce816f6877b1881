-- A `break` and a `continue` have their loop: the innermost body around each is a loop's.
use Rattle.std.proofs.Common.{◌≡◌, ℕ, zero, suc, ◌+◌, ◌<◌, ◌≤◌, inl, inr, ⊎_elim, List, [], ◌∷◌, ◌++◌, Option, Some, Bool, true, false, refl, sym, ap, ◌∙◌, subst, arith}
use Rattle.std.specs.Prelude.{slice_get, take, filter, flat_map, reverse, nat_le, nat_lt, if◌then◌else◌}
use Rattle.std.proofs.lemmas.List.{reverse-append}
use Rattle.std.proofs.lemmas.Bool.{cases_lt, and_parts, and_from, le-leb, ltb-true, lt-ltb}
use Rattle.oso_code.specs.declared.checks.role.Role.{Role}
use Rattle.oso_code.specs.declared.checks.role.Role.TheVariants.{LoopBody, CallBody, Part}
use Rattle.oso_code.specs.Nesting.{after, IsClosed}
use Rattle.oso_code.specs.Ranges.{Ranged, ranges_of, contains, around, in_loop_body, in_body, leaving_fits}
use Rattle.oso_code.specs.Steps.{Span, Step, Compute, Branch, Loop, Call, Leave, Break, Continue, Return, Exit}
use Rattle.osl_gencode.specs.Pieces.{IsNoCall, NoCalls, HasLoop, NeedsLoop, MayLeave, Leaves}

-- ---- the ranges around it

passes : (k : ℕ) (r : Ranged) (rs : List Ranged) → (r.role ≡ CallBody → contains k r ≡ false) → in_loop_body (filter (contains k) rs) ≡ true → in_loop_body (filter (contains k) (r ∷ rs)) ≡ true
passes k r rs no_call rest = by_test (contains k r) refl
  where
    by_role : (role : Role) → r.role ≡ role → contains k r ≡ true → in_body role (in_loop_body (filter (contains k) rs)) ≡ true
    by_role LoopBody e t = refl
    by_role CallBody e t = absurd (let f = no_call e in cc (t, f))
    by_role Part e t = rest

    by_test : (t : Bool) → contains k r ≡ t → in_loop_body (if t then r ∷ filter (contains k) rs else filter (contains k) rs) ≡ true
    by_test true t = by_role r.role refl t
    by_test false t = rest

catches : (k : ℕ) (s : Span) (rs : List Ranged) → s.start ≤ k → k < s.end → in_loop_body (filter (contains k) (record { role = LoopBody; span = s } ∷ rs)) ≡ true
catches k s rs l h = ap (λ t. in_loop_body (if t then record { role = LoopBody; span = s } ∷ filter (contains k) rs else filter (contains k) rs)) (and_from (nat_le s.start k) (nat_lt k s.end) (le-leb s.start k l) (lt-ltb k s.end h))

outside : (k : ℕ) (s : Span) → s.end ≤ k → contains k (record { role = CallBody; span = s }) ≡ false
outside k s le = by_test (contains k (record { role = CallBody; span = s })) refl
  where
    by_test : (t : Bool) → contains k (record { role = CallBody; span = s }) ≡ t → contains k (record { role = CallBody; span = s }) ≡ false
    by_test true e = absurd (let p = and_parts (nat_le s.start k) (nat_lt k s.end) e in let h = ltb-true k s.end p.1 in omega (arith, h, le))
    by_test false e = e

-- an op that is no call around k
past_op : (k : ℕ) (step : Step) (rs : List Ranged) → IsNoCall k step → in_loop_body (filter (contains k) rs) ≡ true → in_loop_body (filter (contains k) (ranges_of step ++ rs)) ≡ true
past_op k (Compute name ty target sources) rs none rest = rest
past_op k (Branch c holds fails) rs none rest =
    passes k (record { role = Part; span = holds }) (record { role = Part; span = fails } ∷ rs) (λ e. absurd (cc e)) (passes k (record { role = Part; span = fails }) rs (λ e. absurd (cc e)) rest)
past_op k (Loop true c test body step) rs none rest =
    passes k (record { role = Part; span = test }) (record { role = LoopBody; span = body } ∷ record { role = Part; span = step } ∷ rs) (λ e. absurd (cc e)) (passes k (record { role = LoopBody; span = body }) (record { role = Part; span = step } ∷ rs) (λ e. absurd (cc e)) (passes k (record { role = Part; span = step }) rs (λ e. absurd (cc e)) rest))
past_op k (Loop false c test body step) rs none rest =
    passes k (record { role = LoopBody; span = body }) (record { role = Part; span = test } ∷ record { role = Part; span = step } ∷ rs) (λ e. absurd (cc e)) (passes k (record { role = Part; span = test }) (record { role = Part; span = step } ∷ rs) (λ e. absurd (cc e)) (passes k (record { role = Part; span = step }) rs (λ e. absurd (cc e)) rest))
past_op k (Call body) rs none rest = passes k (record { role = CallBody; span = body }) rs (λ e. outside k body none) rest
past_op k (Leave way) rs none rest = rest

-- the loop itself
at_loop : (k : ℕ) (tested : Bool) (c : ℕ) (test body step : Span) (rs : List Ranged) → body.start ≤ k → k < body.end → in_loop_body (filter (contains k) (ranges_of (Loop tested c test body step) ++ rs)) ≡ true
at_loop k true c test body step rs l h = passes k (record { role = Part; span = test }) (record { role = LoopBody; span = body } ∷ record { role = Part; span = step } ∷ rs) (λ e. absurd (cc e)) (catches k body (record { role = Part; span = step } ∷ rs) l h)
at_loop k false c test body step rs l h = catches k body (record { role = Part; span = test } ∷ record { role = Part; span = step } ∷ rs) l h

-- the first n ops and one more
take_more : (steps : List Step) (n : ℕ) (step : Step) → slice_get steps n ≡ Some step → take (suc n) steps ≡ take n steps ++ step ∷ []
take_more [] n step at = absurd (cc at)
take_more (x ∷ steps) zero step at = let s : Some x ≡ Some step = at in ap (λ z. z ∷ []) (cc s)
take_more (x ∷ steps) (suc n) step at = ap (λ l. x ∷ l) (take_more steps n step at)

pub ranges_more : (steps : List Step) (n : ℕ) (step : Step) → slice_get steps n ≡ Some step → flat_map ranges_of (reverse (take (suc n) steps)) ≡ ranges_of step ++ flat_map ranges_of (reverse (take n steps))
ranges_more steps n step at = ap (λ l. flat_map ranges_of (reverse l)) (take_more steps n step at) ∙ ap (flat_map ranges_of) (reverse-append (take n steps) (step ∷ []))

pub there : (steps : List Step) (n k : ℕ) (step : Step) → slice_get steps k ≡ Some step → n ≤ k → (s : Step) × (slice_get steps n ≡ Some s)
there [] n k step at le = absurd (cc at)
there (x ∷ steps) zero k step at le = (x, refl)
there (x ∷ steps) (suc n) zero step at le = absurd (omega (arith, le))
there (x ∷ steps) (suc n) (suc k) step at le = there steps n k step at (omega (arith, le))

-- the innermost body around k is the loop's
pub loop_around : (steps : List Step) (i k : ℕ) (step : Step) → slice_get steps k ≡ Some step → HasLoop steps i k → in_loop_body (around steps k) ≡ true
loop_around steps i k step at h = from_loop k (h.before) (omega arith)
  where
    from_loop : (n : ℕ) → h.at < n → n ≤ k → in_loop_body (filter (contains k) (flat_map ranges_of (reverse (take n steps)))) ≡ true
    from_loop zero lt le = absurd (omega (arith, lt))
    from_loop (suc n) lt le = ⊎_elim (λ (later : h.at < n).
        let s = there steps n k step at (omega (arith, le)) in
        let none = h.no_calls.each n s.0 (omega (arith, later)) (omega (arith, le)) s.1 in
        ap (λ l. in_loop_body (filter (contains k) l)) (ranges_more steps n s.0 s.1) ∙ past_op k s.0 (flat_map ranges_of (reverse (take n steps))) none (from_loop n later (omega (arith, le)))) (λ (here : n ≤ h.at).
        let e : h.at ≡ n = omega (arith, here, lt) in
        ap (λ l. in_loop_body (filter (contains k) l)) (ranges_more steps n (Loop h.tested h.condition h.test h.body h.step) (ap (slice_get steps) (sym e) ∙ h.here)) ∙ at_loop k h.tested h.condition h.test h.body h.step (flat_map ranges_of (reverse (take n steps))) h.starts h.ends) (cases_lt h.at n)

-- ---- parts

needs_more : (step : Step) (S T : Type 0) → (S → T) → NeedsLoop step S → NeedsLoop step T
needs_more (Leave Break) S T f n = f n
needs_more (Leave Continue) S T f n = f n
needs_more (Leave Return) S T f n = tt
needs_more (Leave Exit) S T f n = tt
needs_more (Compute name ty target sources) S T f n = tt
needs_more (Branch c holds fails) S T f n = tt
needs_more (Loop tested c test body step) S T f n = tt
needs_more (Call body) S T f n = tt

pub leaves_none : (steps : List Step) (inside : Bool) (i : ℕ) → Leaves steps inside i i
leaves_none steps inside i = record { each = λ k step a b at. absurd (omega (arith, a, b)) }

same_some : {A : Type 0} (x y : A) (o : Option A) → o ≡ Some x → o ≡ Some y → x ≡ y
same_some x y o p q = let s : Some x ≡ Some y = sym p ∙ q in cc s

earlier : (steps : List Step) (h i k : ℕ) → h ≤ i → HasLoop steps i k → HasLoop steps h k
earlier steps h i k le l = record { at = l.at; later = (let a = l.later in omega (arith, a, le)); before = l.before; tested = l.tested; condition = l.condition; test = l.test; body = l.body; step = l.step; here = l.here; starts = l.starts; ends = l.ends; no_calls = l.no_calls }

-- a call that ends before k is no call around it
ended : (k : ℕ) (j m : ℕ) (step : Step) → after j step ≤ m → m ≤ k → IsNoCall k step
ended k j m (Call body) le h = omega (arith, le, h)
ended k j m (Compute name ty target sources) le h = tt
ended k j m (Branch c holds fails) le h = tt
ended k j m (Loop tested c test body step) le h = tt
ended k j m (Leave way) le h = tt

-- one part after another
pub leaves_on : (steps : List Step) (inside : Bool) (i m e : ℕ) → i ≤ m → IsClosed steps i m → Leaves steps inside i m → Leaves steps inside m e → Leaves steps inside i e
leaves_on steps inside i m e le closed s t = record {
  each = λ k step a b at. ⊎_elim (λ (l : k < m). s.each k step a l at) (λ (g : m ≤ k).
      needs_more step (MayLeave steps inside m k) (MayLeave steps inside i k) (λ may. ⊎_elim (λ h. inl (earlier steps i m k le h)) (λ o. inr (o.0, record { each = λ j one c d here. ⊎_elim (λ (l : j < m). ended k j m one (closed.ends j one c l here) g) (λ (h : m ≤ j). o.1.each j one h d here) (cases_lt j m) })) may) (t.each k step g b at)) (cases_lt k m);
}

-- an op is before a part, and is no call
same_op : (steps : List Step) (i k : ℕ) (one step : Step) → slice_get steps i ≡ Some one → slice_get steps k ≡ Some step → i ≤ k → k < i + 1 → one ≡ step
same_op steps i k one step here at a b = let e : k ≡ i = omega (arith, a, b) in same_some one step (slice_get steps i) here (ap (slice_get steps) (sym e) ∙ at)

widened : (steps : List Step) (inside : Bool) (i k : ℕ) (one : Step) → slice_get steps i ≡ Some one → IsNoCall k one → MayLeave steps inside (i + 1) k → MayLeave steps inside i k
widened steps inside i k one here calm may =
    ⊎_elim (λ h. inl (earlier steps i (i + 1) k (omega arith) h)) (λ o. inr (o.0, record { each = λ j step c d at. ⊎_elim (λ (l : j < i + 1). subst (IsNoCall k) (same_op steps i j one step here at c l) calm) (λ (h : i + 1 ≤ j). o.1.each j step h d at) (cases_lt j (i + 1)) })) may

-- one op: a `break` where a loop is around the part
pub leaves_plain : (steps : List Step) (inside : Bool) (i : ℕ) (one : Step) → slice_get steps i ≡ Some one → NeedsLoop one (inside ≡ true) → Leaves steps inside i (i + 1)
leaves_plain steps inside i one here needs = record {
  each = λ k step a b at. subst (λ z. NeedsLoop z (MayLeave steps inside i k)) (same_op steps i k one step here at a b) (needs_more one (inside ≡ true) (MayLeave steps inside i k) (λ t. inr (t, record { each = λ j other c d there. absurd (omega (arith, b, c, d)) })) needs);
}

-- an op with two ranges, which are one part after another
pub leaves_branch : (steps : List Step) (inside : Bool) (i c e : ℕ) (holds fails : Span) → slice_get steps i ≡ Some (Branch c holds fails) → Leaves steps inside (i + 1) e → Leaves steps inside i e
leaves_branch steps inside i c e holds fails here s = record {
  each = λ k step a b at. ⊎_elim (λ (l : k < i + 1). subst (λ z. NeedsLoop z (MayLeave steps inside i k)) (same_op steps i k (Branch c holds fails) step here at a l) tt) (λ (g : i + 1 ≤ k). needs_more step (MayLeave steps inside (i + 1) k) (MayLeave steps inside i k) (widened steps inside i k (Branch c holds fails) here tt) (s.each k step g b at)) (cases_lt k (i + 1));
}

-- a call: no loop around it counts
pub leaves_call : (steps : List Step) (inside : Bool) (i e : ℕ) (body : Span) → slice_get steps i ≡ Some (Call body) → Leaves steps false (i + 1) e → Leaves steps inside i e
leaves_call steps inside i e body here s = record {
  each = λ k step a b at. ⊎_elim (λ (l : k < i + 1). subst (λ z. NeedsLoop z (MayLeave steps inside i k)) (same_op steps i k (Call body) step here at a l) tt) (λ (g : i + 1 ≤ k). needs_more step (MayLeave steps false (i + 1) k) (MayLeave steps inside i k) (λ may. ⊎_elim (λ h. inl (earlier steps i (i + 1) k (omega arith) h)) (λ o. absurd (let f = o.0 in cc f)) may) (s.each k step g b at)) (cases_lt k (i + 1));
}

-- a loop: its first range, and then its second, one of which is its body
pub leaves_loop : (steps : List Step) (inside tested : Bool) (i c a e : ℕ) (test body step : Span) → slice_get steps i ≡ Some (Loop tested c test body step) → i + 1 ≤ a → IsClosed steps (i + 1) a → (first second : Bool) → (first ≡ true → (body.start ≤ i + 1) × (a ≤ body.end)) → (second ≡ true → (body.start ≤ a) × (e ≤ body.end)) → Leaves steps first (i + 1) a → Leaves steps second a e → Leaves steps inside i e
leaves_loop steps inside tested i c a e test body step here le closed first second one two s t = record {
  each = λ k op x y at. ⊎_elim (λ (l : k < i + 1). subst (λ z. NeedsLoop z (MayLeave steps inside i k)) (same_op steps i k (Loop tested c test body step) op here at x l) tt) (λ (g : i + 1 ≤ k). ⊎_elim (λ (l : k < a).
      needs_more op (MayLeave steps first (i + 1) k) (MayLeave steps inside i k) (λ may. ⊎_elim (λ h. inl (earlier steps i (i + 1) k (omega arith) h)) (λ o. inl (let w = one o.0 in let w0 = w.0 in let w1 = w.1 in caught k g (omega (arith, w0, g)) (omega (arith, w1, l)) o.1)) may) (s.each k op g l at)) (λ (h : a ≤ k).
      needs_more op (MayLeave steps second a k) (MayLeave steps inside i k) (λ may. ⊎_elim (λ q. inl (earlier steps i a k (omega (arith, le)) q)) (λ o. inl (let w = two o.0 in let w0 = w.0 in let w1 = w.1 in caught k g (omega (arith, w0, h)) (omega (arith, w1, y)) (record { each = λ j other u v there. ⊎_elim (λ (m : j < a). ended k j a other (closed.ends j other u m there) h) (λ (m : a ≤ j). o.1.each j other m v there) (cases_lt j a) }))) may) (t.each k op h y at)) (cases_lt k a)) (cases_lt k (i + 1));
}
  where
    caught : (k : ℕ) → i + 1 ≤ k → body.start ≤ k → k < body.end → NoCalls steps (i + 1) k → HasLoop steps i k
    caught k g l h calls = record { at = i; later = omega arith; before = omega (arith, g); tested = tested; condition = c; test = test; body = body; step = step; here = here; starts = l; ends = h; no_calls = calls }

-- what needs no loop around it may have one
pub leaves_inside : (steps : List Step) (inside : Bool) (i m : ℕ) → Leaves steps false i m → Leaves steps inside i m
leaves_inside steps inside i m s = record {
  each = λ k step a b at. needs_more step (MayLeave steps false i k) (MayLeave steps inside i k) (λ may. ⊎_elim (λ h. inl h) (λ o. absurd (let f = o.0 in cc f)) may) (s.each k step a b at);
}

-- a part that needs no loop around it, after another
pub leaves_past : (steps : List Step) (inside : Bool) (i m e : ℕ) → i ≤ m → Leaves steps inside i m → Leaves steps false m e → Leaves steps inside i e
leaves_past steps inside i m e le s t = record {
  each = λ k step a b at. ⊎_elim (λ (l : k < m). s.each k step a l at) (λ (g : m ≤ k).
      needs_more step (MayLeave steps false m k) (MayLeave steps inside i k) (λ may. ⊎_elim (λ h. inl (earlier steps i m k le h)) (λ o. absurd (let f = o.0 in cc f)) may) (t.each k step g b at)) (cases_lt k m);
}

-- in the whole, where no loop is around, each has its loop
pub leaves_fit : (steps : List Step) (m k : ℕ) (step : Step) → k < m → slice_get steps k ≡ Some step → Leaves steps false 0 m → leaving_fits (around steps k) step ≡ true
leaves_fit steps m k step lt at s = by_step step at (s.each k step (omega arith) lt at)
  where
    found : (one : Step) → slice_get steps k ≡ Some one → MayLeave steps false 0 k → in_loop_body (around steps k) ≡ true
    found one here (inl h) = loop_around steps 0 k one here h
    found one here (inr o) = absurd (let f = o.0 in cc f)

    by_step : (one : Step) → slice_get steps k ≡ Some one → NeedsLoop one (MayLeave steps false 0 k) → leaving_fits (around steps k) one ≡ true
    by_step (Leave Break) here n = found (Leave Break) here n
    by_step (Leave Continue) here n = found (Leave Continue) here n
    by_step (Leave Return) here n = refl
    by_step (Leave Exit) here n = refl
    by_step (Compute name ty target sources) here n = refl
    by_step (Branch c holds fails) here n = refl
    by_step (Loop tested c test body step1) here n = refl
    by_step (Call body) here n = refl
