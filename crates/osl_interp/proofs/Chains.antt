-- Steps, one after another.
use Rattle.std.proofs.Common.{◌≡◌, ℕ, ◌+◌, ◌-◌, ◌<◌, ◌≤◌, refl, sym, ap, ◌∙◌, Option, Some, None, subst, arith}
use Rattle.oso_code.specs.Run.{Spent}
use Rattle.osl_interp.specs.Advances.{Advances, Asks, EndsAs, StopDone, work, no_op, one_op}
use Rattle.osl_interp.specs.Stops.{Goes, Finishes, Fails, StepDone, EndDone, ticks_at}
use Rattle.osl_interp.specs.Meaning.{Configuration, state_of, meaning}
use Rattle.osl_interp.specs.Ready.{Ready}
use Rattle.osl_interp.specs.declared.stop.LayerStop.{LayerStop}
use Rattle.osl_interp.specs.declared.stop.LayerStop.TheVariants as T

-- a step counts what t says
pub record Counts (t : ℕ → ℕ) (a b : ℕ) : Type 0 where
  pub grows : a ≤ b
  pub by : (n : ℕ) → n + (b - a) ≡ t n

pub counts_none : (a : ℕ) → Counts no_op a a
counts_none a = record { grows = omega arith; by = λ n. omega arith }

pub counts_one : (a b : ℕ) → b ≡ a + 1 → Counts one_op a b
counts_one a b is = record { grows = omega (arith, is); by = λ n. omega (arith, is) }

pub step_goes : (t : ℕ → ℕ) (old new : Configuration) (a b : ℕ) → Counts t a b → Advances t old new → Goes old new a b × (work new < work old)
step_goes t old new a b k h = (
  record {
    ready = h.ready;
    code = h.code;
    inputs_stay = h.inputs_stay;
    fits = h.fits;
    grows = k.grows;
    same = λ inputs fits n. ap (λ x. meaning inputs x new) (k.by n) ∙ h.same inputs fits n;
  },
  h.less,
)

pub step_finishes : (t : ℕ → ℕ) (old new : Configuration) (a b : ℕ) → Counts t a b → Ready old → StopDone t old new (Some T.Done) → Finishes old new a b
step_finishes t old new a b k ready h =
    subst (λ x. Finishes old x a b) (sym h.0) (record {
      laid = ready.laid;
      code = refl;
      inputs_stay = refl;
      fits = λ inputs f. f;
      grows = k.grows;
      ends = λ inputs fits n. subst (λ x. EndsAs (meaning inputs n old) (state_of x old)) (sym (k.by n)) (h.1 inputs fits n);
    })

pub step_fails : (t : ℕ → ℕ) (old new : Configuration) (a b : ℕ) → Counts t a b → StopDone t old new (Some T.Spent) → Fails old new a b
step_fails t old new a b k h =
    subst (λ x. Fails old x a b) (sym h.0) (record { inputs_stay = refl; fits = λ inputs f. f; grows = k.grows; ends = λ inputs fits n. h.1 inputs fits n ∙ ap (λ x. Spent (state_of x old)) (sym (k.by n)) })

pub goes_none : (c : Configuration) (a : ℕ) → Ready c → Goes c c a a
goes_none c a ready =
    record { ready = ready; code = refl; inputs_stay = refl; fits = λ inputs h. h; grows = omega arith; same = λ inputs h n. let e : n + (a - a) ≡ n = omega arith in ap (λ x. meaning inputs x c) e }

pub step_asks : (t : ℕ → ℕ) (old new : Configuration) (a p : ℕ) → Ready old → StopDone t old new (Some (T.Needs p)) → EndDone old new a a (T.Needs p)
step_asks t old new a p ready h = (subst (λ x. Goes old x a a) (sym h.0) (goes_none old a ready), subst (λ x. Asks x p) (sym h.0) h.1)

pub left_done : (old new : Configuration) (a : ℕ) (stop : Option LayerStop) → Ready old → StopDone no_op old new stop → StepDone old new a a stop
left_done old new a None ready h = step_goes no_op old new a a (counts_none a) h
left_done old new a (Some T.Done) ready h = step_finishes no_op old new a a (counts_none a) ready h
left_done old new a (Some T.Spent) ready h = step_fails no_op old new a a (counts_none a) h
left_done old new a (Some (T.Needs p)) ready h = step_asks no_op old new a p ready h

-- the run stops at an op
pub op_stops : (old new : Configuration) (a b : ℕ) (stop : LayerStop) → Ready old → b ≡ a + ticks_at stop → StopDone one_op old new (Some stop) → EndDone old new a b stop
op_stops old new a b T.Done ready is h = step_finishes one_op old new a b (counts_one a b is) ready h
op_stops old new a b T.Spent ready is h = step_fails one_op old new a b (counts_one a b is) h
op_stops old new a b (T.Needs p) ready is h =
    let e : a ≡ b = omega (arith, is) in subst (λ n. EndDone old new a n (T.Needs p)) e (step_asks one_op old new a p ready h)

-- ---- chains

pub goes_on : (old mid new : Configuration) (a b c : ℕ) → Goes old mid a b → Goes mid new b c → Goes old new a c
goes_on old mid new a b c g h =
    let x = g.grows in let y = h.grows in
    record {
      ready = h.ready;
      code = h.code ∙ g.code;
      inputs_stay = h.inputs_stay ∙ g.inputs_stay;
      fits = λ inputs f. h.fits inputs (g.fits inputs f);
      grows = omega (arith, x, y);
      same = λ inputs f n.
          let e : n + (c - a) ≡ (n + (b - a)) + (c - b) = omega (arith, x, y) in
          ap (λ k. meaning inputs k new) e ∙ h.same inputs (g.fits inputs f) (n + (b - a)) ∙ g.same inputs f n;
    }

pub goes_finishes : (old mid new : Configuration) (a b c : ℕ) → Goes old mid a b → Finishes mid new b c → Finishes old new a c
goes_finishes old mid new a b c g h =
    let x = g.grows in let y = h.grows in
    record {
      laid = h.laid;
      code = h.code ∙ g.code;
      inputs_stay = h.inputs_stay ∙ g.inputs_stay;
      fits = λ inputs f. h.fits inputs (g.fits inputs f);
      grows = omega (arith, x, y);
      ends = λ inputs f n.
          let e : n + (c - a) ≡ (n + (b - a)) + (c - b) = omega (arith, x, y) in
          subst (λ k. EndsAs (meaning inputs n old) (state_of k new)) (sym e) (subst (λ o. EndsAs o (state_of ((n + (b - a)) + (c - b)) new)) (g.same inputs f n) (h.ends inputs (g.fits inputs f) (n + (b - a))));
    }

pub goes_fails : (old mid new : Configuration) (a b c : ℕ) → Goes old mid a b → Fails mid new b c → Fails old new a c
goes_fails old mid new a b c g h =
    let x = g.grows in let y = h.grows in
    record {
      inputs_stay = h.inputs_stay ∙ g.inputs_stay;
      fits = λ inputs f. h.fits inputs (g.fits inputs f);
      grows = omega (arith, x, y);
      ends = λ inputs f n.
          let e : n + (c - a) ≡ (n + (b - a)) + (c - b) = omega (arith, x, y) in
          sym (g.same inputs f n) ∙ h.ends inputs (g.fits inputs f) (n + (b - a)) ∙ ap (λ k. Spent (state_of k new)) (sym e);
    }

pub goes_ends : (old mid new : Configuration) (a b c : ℕ) (stop : LayerStop) → Goes old mid a b → EndDone mid new b c stop → EndDone old new a c stop
goes_ends old mid new a b c T.Done g h = goes_finishes old mid new a b c g h
goes_ends old mid new a b c T.Spent g h = goes_fails old mid new a b c g h
goes_ends old mid new a b c (T.Needs p) g h = (goes_on old mid new a b c g h.0, h.1)
