-- Where ops go when some are taken out, and that ranges still nest.
use Rattle.std.proofs.Common.{◌≡◌, ℕ, zero, suc, ◌+◌, ◌-◌, ◌<◌, ◌≤◌, ⊎_elim, List, length, Option, Some, None, Bool, true, false, refl, sym, ap, ◌∙◌, subst, arith}
use Rattle.std.specs.Prelude.{slice_get, if◌then◌else◌}
use Rattle.std.proofs.lemmas.Bool.{cases_lt}
use Rattle.oso_code.specs.Nesting.{after, IsClosed, IsInside, Nests, AreNested}
use Rattle.oso_code.specs.Run.{State, Sources}
use Rattle.oso_code.specs.Steps.{Span, span, Step, Compute, Branch, Loop, Call, Leave}
use Rattle.oso_code.proofs.Steady.{closed_later}
use Rattle.osl_rewrites.specs.Cut.{new_place, moved, moved_span, Came, CutSteps, RunsIn, Parts, Stays, Goes, Fate, Kept, Gone, Moves}
use Rattle.osl_rewrites.specs.Quiet.{quiet}
use Rattle.osl_rewrites.proofs.Acts.{call_nothing}
use Rattle.osl_rewrites.proofs.Moved.{moved_run}
use Rattle.osl_rewrites.proofs.Uniform.{is_there}

module _ (kept : ℕ → Bool) where
  step_up : (b : Bool) (n : ℕ) → n ≤ n + (if b then 1 else 0)
  step_up true n = omega arith
  step_up false n = omega arith

  pub one_more : (k : ℕ) → kept k ≡ true → new_place kept (k + 1) ≡ new_place kept k + 1
  unfolding new_place
  one_more k h = let e : k + 1 ≡ suc k = omega arith in rw e (ap (λ b. new_place kept k + (if b then 1 else 0)) h)

  pub none_more : (k : ℕ) → kept k ≡ false → new_place kept (k + 1) ≡ new_place kept k
  unfolding new_place
  none_more k h = let e : k + 1 ≡ suc k = omega arith in rw e (ap (λ b. new_place kept k + (if b then 1 else 0)) h ∙ omega arith)

  rise : (i d : ℕ) → new_place kept i ≤ new_place kept (d + i)
  unfolding new_place
  rise i zero = let e : 0 + i ≡ i = omega arith in rw e (omega arith)
  rise i (suc d) = let e : suc d + i ≡ suc (d + i) = omega arith in let a = rise i d in let b = step_up (kept (d + i)) (new_place kept (d + i)) in rw e (omega (arith, a, b))

  pub rises : (i j : ℕ) → i ≤ j → new_place kept i ≤ new_place kept j
  rises i j le = let e : (j - i) + i ≡ j = omega arith in subst (λ k. new_place kept i ≤ new_place kept k) e (rise i (j - i))

  pub above : (k j : ℕ) → kept k ≡ true → k < j → new_place kept k < new_place kept j
  above k j h lt = let a = one_more k h in let b = rises (k + 1) j (omega arith) in omega (arith, a, b)

  -- an op that stayed is in the range that its place is in
  inside_low : (i k : ℕ) → kept k ≡ true → new_place kept i ≤ new_place kept k → i ≤ k
  inside_low i k h le = ⊎_elim (λ lt. absurd (let a = above k i h lt in omega (arith, a))) (λ ge. ge) (cases_lt k i)

  inside_high : (k e : ℕ) → new_place kept k < new_place kept e → k < e
  inside_high k e lt = ⊎_elim (λ a. a) (λ ge. absurd (let a = rises e k ge in omega (arith, a))) (cases_lt k e)

  after_moved : (k : ℕ) (step : Step) → kept k ≡ true → after (new_place kept k) (moved (new_place kept) step) ≡ new_place kept (after k step)
  after_moved k (Compute name ty target sources) h = sym (one_more k h)
  after_moved k (Branch c holds fails) h = refl
  after_moved k (Loop tested c test body step) h = refl
  after_moved k (Call body) h = refl
  after_moved k (Leave way) h = sym (one_more k h)

  module _ (old new : List Step) (cut : CutSteps kept old new) where
    closed_came : (i e k : ℕ) (step : Step) → IsClosed old i e → new_place kept i ≤ k → k < new_place kept e → Came kept old k step → after k step ≤ new_place kept e
    closed_came i e k step cl a b c =
        let l : i ≤ c.from_place = inside_low i c.from_place c.stayed (omega (arith, c.there)) in
        let h : c.from_place < e = inside_high c.from_place e (omega (arith, c.there)) in
        let m = rises (after c.from_place c.from_step) e (cl.ends c.from_place c.from_step l h c.here) in
        subst (λ x. after k x ≤ new_place kept e) (sym c.is)
        (subst (λ x. after x (moved (new_place kept) c.from_step) ≤ new_place kept e) c.there
        (subst (λ x. x ≤ new_place kept e) (sym (after_moved c.from_place c.from_step c.stayed)) m))

    pub closed_cut : (i e : ℕ) → IsClosed old i e → IsClosed new (new_place kept i) (new_place kept e)
    closed_cut i e cl = record { ends = λ k step a b at. closed_came i e k step cl a b (cut.back k step at) }

    inside_moved : (k next : ℕ) (s : Span) → kept k ≡ true → IsInside old k next s → IsInside new (new_place kept k) (new_place kept next) (moved_span (new_place kept) s)
    inside_moved k next s h o = record { later = above k s.start h o.later; ordered = rises s.start s.end o.ordered; within = rises s.end next o.within; closed = closed_cut s.start s.end o.closed }

    nest_moved : (k : ℕ) (step : Step) → kept k ≡ true → Nests old k step → Nests new (new_place kept k) (moved (new_place kept) step)
    nest_moved k (Compute name ty target sources) h o = tt
    nest_moved k (Branch c holds fails) h o = (inside_moved k fails.end holds h o.0, inside_moved k fails.end fails h o.1)
    nest_moved k (Loop tested c test body step) h o = (inside_moved k step.end test h o.0, inside_moved k step.end body h o.1, inside_moved k step.end step h o.2)
    nest_moved k (Call body) h o = inside_moved k body.end body h o
    nest_moved k (Leave way) h o = tt

    -- ranges nest, whatever is taken out
    pub nested_cut : AreNested old → AreNested new
    nested_cut n = record {
      each = λ k step at.
          let c = cut.back k step at in
          subst (λ x. Nests new k x) (sym c.is) (subst (λ x. Nests new x (moved (new_place kept) c.from_step)) c.there (nest_moved c.from_place c.from_step c.stayed (n.each c.from_place c.from_step c.here)));
    }

    pub stays_cut : (Runs : ℕ → ℕ → Type 0) (i e : ℕ) (step : Step) → slice_get old i ≡ Some step → kept i ≡ true → Parts Runs step i e → Stays old new (new_place kept) Runs i e step
    stays_cut Runs i e step at h parts = record { here = at; there = cut.there i step at h; one = one_more i h; parts = parts }

    pub record Within (i e : ℕ) : Type 0 where
      pub closed : IsClosed old i e
      pub within : e ≤ length old

    module _ (from : Sources) (nested : AreNested old) (nothing : (k : ℕ) → k < length old → kept k ≡ false → slice_get old k ≡ Some (Call (span (k + 1) (k + 1)))) where
      in_it : (k next e : ℕ) (s : Span) → IsInside old k next s → next ≤ e → e ≤ length old → RunsIn Within k next s
      in_it k next e s o le w = let x = o.within in record { later = o.later; ordered = o.ordered; within = o.within; runs = record { closed = o.closed; within = omega (arith, x, le, w) } }

      later : (i j e : ℕ) → i ≤ j → Within i e → Within j e
      later i j e le w = record { closed = closed_later old i j e le w.closed; within = w.within }

      parts_within : (k e : ℕ) (step : Step) → slice_get old k ≡ Some step → Within k e → k < e → Parts Within step k e
      parts_within k e (Compute name ty target sources) at w lt = later k (k + 1) e (omega arith) w
      parts_within k e (Branch c holds fails) at w lt =
          let n = nested.each k (Branch c holds fails) at in let l = w.closed.ends k (Branch c holds fails) (omega arith) lt at in let p = n.1.later in let q = n.1.ordered in
          (l, in_it k fails.end e holds n.0 l w.within, in_it k fails.end e fails n.1 l w.within, later k fails.end e (omega (arith, p, q)) w)
      parts_within k e (Loop tested c test body step) at w lt =
          let n = nested.each k (Loop tested c test body step) at in let l = w.closed.ends k (Loop tested c test body step) (omega arith) lt at in let p = n.2.later in let q = n.2.ordered in
          (l, in_it k step.end e test n.0 l w.within, in_it k step.end e body n.1 l w.within, in_it k step.end e step n.2 l w.within, later k step.end e (omega (arith, p, q)) w)
      parts_within k e (Call body) at w lt =
          let n = nested.each k (Call body) at in let l = w.closed.ends k (Call body) (omega arith) lt at in let p = n.later in let q = n.ordered in
          (l, in_it k body.end e body n l w.within, later k body.end e (omega (arith, p, q)) w)
      parts_within k e (Leave way) at w lt = tt

      at_nothing : (i e : ℕ) → Within i e → i < e → kept i ≡ false → Goes from old (new_place kept) Within i e (Call (span (i + 1) (i + 1))) (i + 1) (i + 1) (i + 1)
      at_nothing i e w lt h =
          let x = w.within in
          record {
            here = nothing i (omega (arith, x, lt)) h;
            later = omega arith;
            order = omega arith;
            ahead = omega arith;
            within = omega arith;
            first = none_more i h;
            rest = refl;
            inner = record { closed = record { ends = λ k step a b is. absurd (omega arith) }; within = omega (arith, x, lt) };
            outer = later i (i + 1) e (omega arith) w;
            does = λ f s. call_nothing from old f i e s;
          }

      by_bool : (i e : ℕ) (o : Option Step) (b : Bool) → slice_get old i ≡ o → kept i ≡ b → Within i e → i < e → Fate from old new (new_place kept) Within i e
      by_bool i e None b at h w lt = absurd (is_there old i at (let x = w.within in omega (arith, x, lt)))
      by_bool i e (Some step) true at h w lt = Kept step (stays_cut Within i e step at h (parts_within i e step at w lt))
      by_bool i e (Some step) false at h w lt = Gone (Call (span (i + 1) (i + 1))) (i + 1) (i + 1) (i + 1) (at_nothing i e w lt h)

      moves : Moves from old new (new_place kept) Within
      moves = record {
        rises = rises;
        closed = λ i e r. closed_cut i e r.closed;
        bounded = λ i e r. let z = rises e (length old) r.within in omega (arith, z, cut.size);
        each = λ i e r lt. by_bool i e (slice_get old i) (kept i) refl refl r lt;
      }

      -- code from which calls of nothing were taken out, any number of them
      pub nothings_run : (f g i e : ℕ) (s : State) → Within i e → e ≤ f + i → new_place kept e ≤ g + new_place kept i → quiet from old f i e s ≡ quiet from new g (new_place kept i) (new_place kept e) s
      nothings_run f g i e s w lf lg = moved_run from (new_place kept) Within old new (nested_cut nested) moves f g i e s w lf lg
