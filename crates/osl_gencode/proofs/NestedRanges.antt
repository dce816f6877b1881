-- Ranges of code that was put together nest: the shape of a part, and what it says of the whole.
use Rattle.std.proofs.Common.{◌≡◌, ℕ, zero, suc, ◌+◌, ◌<◌, ◌≤◌, ◌⊎◌, inl, inr, ⊎_elim, List, [], ◌∷◌, ◌++◌, Option, Some, Bool, true, false, refl, sym, ap, ◌∙◌, subst, arith}
use Rattle.std.specs.Prelude.{slice_get, take, filter, flat_map, reverse, nat_le, nat_lt, if◌then◌else◌}
use Rattle.std.specs.List.{list_all}
use Rattle.std.proofs.lemmas.List.{reverse-append}
use Rattle.std.proofs.lemmas.Bool.{cases_lt, and_parts, and_from, leb-true, le-leb, ltb-true}
use Rattle.oso_code.specs.Nesting.{after, IsClosed, Nests}
use Rattle.oso_code.specs.Ranges.{Ranged, ranges_of, contains, around}
use Rattle.oso_code.specs.Steps.{Step, Compute, Branch, Loop, Call, Leave, span}
use Rattle.osl_typed.specs.Expressions.{holds}
use Rattle.osl_gencode.specs.Pieces.{Shaped}

-- ---- parts

pub shaped_none : (steps : List Step) (i : ℕ) → Shaped steps i i
shaped_none steps i = record { closed = record { ends = λ k step a b at. absurd (omega (arith, a, b)) }; nests = λ k step a b at. absurd (omega (arith, a, b)) }

pub shaped_on : (steps : List Step) (i m e : ℕ) → m ≤ e → Shaped steps i m → Shaped steps m e → Shaped steps i e
shaped_on steps i m e le s t = record {
  closed = record { ends = λ k step a b at. ⊎_elim (λ (l : k < m). let h = s.closed.ends k step a l at in omega (arith, h, le)) (λ (g : m ≤ k). t.closed.ends k step g b at) (cases_lt k m) };
  nests = λ k step a b at. ⊎_elim (λ (l : k < m). s.nests k step a l at) (λ (g : m ≤ k). t.nests k step g b at) (cases_lt k m);
}

same_some : {A : Type 0} (x y : A) (o : Option A) → o ≡ Some x → o ≡ Some y → x ≡ y
same_some x y o p q = let s : Some x ≡ Some y = sym p ∙ q in cc s

-- one op, before what follows it
shaped_op : (steps : List Step) (i e : ℕ) (one : Step) → slice_get steps i ≡ Some one → after i one ≤ e → Nests steps i one → Shaped steps (i + 1) e → Shaped steps i e
shaped_op steps i e one here le nest s = record {
  closed = record { ends = λ k step a b at. ⊎_elim (λ (l : k < i + 1). let z : k ≡ i = omega (arith, a, l) in let q = same_some one step (slice_get steps i) here (ap (slice_get steps) (sym z) ∙ at) in subst (λ w. after k w ≤ e) q (subst (λ w. after w one ≤ e) (sym z) le)) (λ (g : i + 1 ≤ k). s.closed.ends k step g b at) (cases_lt k (i + 1)) };
  nests = λ k step a b at. ⊎_elim (λ (l : k < i + 1). let z : k ≡ i = omega (arith, a, l) in let q = same_some one step (slice_get steps i) here (ap (slice_get steps) (sym z) ∙ at) in subst (Nests steps k) q (subst (λ w. Nests steps w one) (sym z) nest)) (λ (g : i + 1 ≤ k). s.nests k step g b at) (cases_lt k (i + 1));
}

pub shaped_plain : (steps : List Step) (i : ℕ) (one : Step) → slice_get steps i ≡ Some one → after i one ≡ i + 1 → Nests steps i one → Shaped steps i (i + 1)
shaped_plain steps i one here is nest = shaped_op steps i (i + 1) one here (omega (arith, is)) nest (shaped_none steps (i + 1))

-- an op with two ranges
pub shaped_branch : (steps : List Step) (i c a e : ℕ) → slice_get steps i ≡ Some (Branch c (span (i + 1) a) (span a e)) → i + 1 ≤ a → a ≤ e → Shaped steps (i + 1) a → Shaped steps a e → Shaped steps i e
shaped_branch steps i c a e here l1 l2 s t =
    shaped_op steps i e (Branch c (span (i + 1) a) (span a e)) here (omega arith) (
      record { later = omega arith; ordered = l1; within = l2; closed = s.closed },
      record { later = omega (arith, l1); ordered = l2; within = omega arith; closed = t.closed },
    ) (shaped_on steps (i + 1) a e l2 s t)

-- a loop that tests first: its condition, its body and its step
pub shaped_for : (steps : List Step) (i c a m e : ℕ) → slice_get steps i ≡ Some (Loop true c (span (i + 1) a) (span a m) (span m e)) → i + 1 ≤ a → a ≤ m → m ≤ e → Shaped steps (i + 1) a → Shaped steps a m → Shaped steps m e → Shaped steps i e
shaped_for steps i c a m e here l1 l2 l3 s t u =
    shaped_op steps i e (Loop true c (span (i + 1) a) (span a m) (span m e)) here (omega arith) (
      record { later = omega arith; ordered = l1; within = omega (arith, l2, l3); closed = s.closed },
      record { later = omega (arith, l1); ordered = l2; within = l3; closed = t.closed },
      record { later = omega (arith, l1, l2); ordered = l3; within = omega arith; closed = u.closed },
    ) (shaped_on steps (i + 1) a e (omega (arith, l2, l3)) s (shaped_on steps a m e l3 t u))

pub shaped_loop : (steps : List Step) (i c a e : ℕ) → slice_get steps i ≡ Some (Loop true c (span (i + 1) a) (span a e) (span e e)) → i + 1 ≤ a → a ≤ e → Shaped steps (i + 1) a → Shaped steps a e → Shaped steps i e
shaped_loop steps i c a e here l1 l2 s t = shaped_for steps i c a e e here l1 l2 (omega arith) s t (shaped_none steps e)

-- a loop that tests last: its body comes first
pub shaped_do : (steps : List Step) (i c a e : ℕ) → slice_get steps i ≡ Some (Loop false c (span a e) (span (i + 1) a) (span e e)) → i + 1 ≤ a → a ≤ e → Shaped steps (i + 1) a → Shaped steps a e → Shaped steps i e
shaped_do steps i c a e here l1 l2 s t =
    shaped_op steps i e (Loop false c (span a e) (span (i + 1) a) (span e e)) here (omega arith) (
      record { later = omega (arith, l1); ordered = l2; within = omega arith; closed = t.closed },
      record { later = omega arith; ordered = l1; within = l2; closed = s.closed },
      record { later = omega (arith, l1, l2); ordered = omega arith; within = omega arith; closed = (shaped_none steps e).closed },
    ) (shaped_on steps (i + 1) a e l2 s t)

pub shaped_call : (steps : List Step) (i e : ℕ) → slice_get steps i ≡ Some (Call (span (i + 1) e)) → i + 1 ≤ e → Shaped steps (i + 1) e → Shaped steps i e
shaped_call steps i e here le s =
    shaped_op steps i e (Call (span (i + 1) e)) here (omega arith) (record { later = omega arith; ordered = le; within = omega arith; closed = s.closed }) s

-- ---- the whole

-- x is an element
abbrev In : {X : Type 0} → X → List X → Type 0
In x [] = ⊥
In x (y ∷ ys) = (x ≡ y) ⊎ In x ys

in_either : {X : Type 0} (x : X) (xs ys : List X) → In x (xs ++ ys) → In x xs ⊎ In x ys
in_either x [] ys h = inr h
in_either x (z ∷ zs) ys (inl e) = inl (inl e)
in_either x (z ∷ zs) ys (inr h) = ⊎_elim (λ a. inl (inr a)) (λ b. inr b) (in_either x zs ys h)

in_reversed : {X : Type 0} (x : X) (xs : List X) → In x (reverse xs) → In x xs
in_reversed x [] h = absurd h
in_reversed x (y ∷ ys) h =
    ⊎_elim (λ a. inr (in_reversed x ys a)) (λ b. ⊎_elim (λ e. inl e) (λ n. absurd n) b) (in_either x (reverse ys) (y ∷ []) (subst (In x) (reverse-append (y ∷ []) ys) h))

in_flat : {X Y : Type 0} (f : X → List Y) (y : Y) (xs : List X) → In y (flat_map f xs) → (x : X) × In x xs × In y (f x)
in_flat f y [] h = absurd h
in_flat f y (x ∷ xs) h = ⊎_elim (λ a. (x, inl refl, a)) (λ b. let r = in_flat f y xs b in (r.0, inr r.1, r.2)) (in_either y (f x) (flat_map f xs) h)

in_taken : {X : Type 0} (x : X) (n : ℕ) (xs : List X) → In x (take n xs) → (j : ℕ) × (slice_get xs j ≡ Some x)
in_taken x zero [] h = absurd h
in_taken x (suc n) [] h = absurd h
in_taken x zero (y ∷ ys) h = absurd h
in_taken x (suc n) (y ∷ ys) (inl e) = (0, ap Some (sym e))
in_taken x (suc n) (y ∷ ys) (inr h) = let r = in_taken x n ys h in (suc r.0, r.1)

all_filter : {X : Type 0} (P Q : X → Bool) (xs : List X) → ((x : X) → In x xs → Q x ≡ true → P x ≡ true) → list_all P (filter Q xs) ≡ true
all_filter P Q [] h = refl
all_filter P Q (x ∷ xs) h = by_test (Q x) refl (all_filter P Q xs (λ y i t. h y (inr i) t))
  where
    by_test : (t : Bool) → Q x ≡ t → list_all P (filter Q xs) ≡ true → list_all P (if t then x ∷ filter Q xs else filter Q xs) ≡ true
    by_test true e rest = and_from (P x) (list_all P (filter Q xs)) (h x (inl refl) e) rest
    by_test false e rest = rest

-- the ranges of a nested op are closed
range_closed : (steps : List Step) (j : ℕ) (step : Step) (r : Ranged) → Nests steps j step → In r (ranges_of step) → IsClosed steps r.span.start r.span.end
range_closed steps j (Compute name ty target sources) r nest i = absurd i
range_closed steps j (Branch c holds fails) r nest (inl e) = subst (λ z. IsClosed steps z.span.start z.span.end) (sym e) nest.0.closed
range_closed steps j (Branch c holds fails) r nest (inr (inl e)) = subst (λ z. IsClosed steps z.span.start z.span.end) (sym e) nest.1.closed
range_closed steps j (Branch c holds fails) r nest (inr (inr n)) = absurd n
range_closed steps j (Loop true c test body step) r nest (inl e) = subst (λ z. IsClosed steps z.span.start z.span.end) (sym e) nest.0.closed
range_closed steps j (Loop true c test body step) r nest (inr (inl e)) = subst (λ z. IsClosed steps z.span.start z.span.end) (sym e) nest.1.closed
range_closed steps j (Loop true c test body step) r nest (inr (inr (inl e))) = subst (λ z. IsClosed steps z.span.start z.span.end) (sym e) nest.2.closed
range_closed steps j (Loop true c test body step) r nest (inr (inr (inr n))) = absurd n
range_closed steps j (Loop false c test body step) r nest (inl e) = subst (λ z. IsClosed steps z.span.start z.span.end) (sym e) nest.1.closed
range_closed steps j (Loop false c test body step) r nest (inr (inl e)) = subst (λ z. IsClosed steps z.span.start z.span.end) (sym e) nest.0.closed
range_closed steps j (Loop false c test body step) r nest (inr (inr (inl e))) = subst (λ z. IsClosed steps z.span.start z.span.end) (sym e) nest.2.closed
range_closed steps j (Loop false c test body step) r nest (inr (inr (inr n))) = absurd n
range_closed steps j (Call body) r nest (inl e) = subst (λ z. IsClosed steps z.span.start z.span.end) (sym e) nest.closed
range_closed steps j (Call body) r nest (inr n) = absurd n
range_closed steps j (Leave way) r nest i = absurd i

-- what an op reaches lies in every range around it, as validity asks
pub around_fits : (steps : List Step) → ((k : ℕ) (step : Step) → slice_get steps k ≡ Some step → Nests steps k step) → (k : ℕ) (step : Step) → slice_get steps k ≡ Some step → list_all (λ r. nat_le (after k step) r.span.end) (around steps k) ≡ true
around_fits steps nested k step at =
    all_filter (λ r. nat_le (after k step) r.span.end) (contains k) (flat_map ranges_of (reverse (take k steps))) (λ r i t.
    let f = in_flat ranges_of r (reverse (take k steps)) i in
    let g = in_taken (f.0) k steps (in_reversed (f.0) (take k steps) f.1) in
    let p = and_parts (nat_le r.span.start k) (nat_lt k r.span.end) t in
    let h = (range_closed steps (g.0) (f.0) r (nested (g.0) (f.0) (g.1)) f.2).ends k step (leb-true r.span.start k p.0) (ltb-true k r.span.end p.1) at in
    le-leb (after k step) r.span.end h)
