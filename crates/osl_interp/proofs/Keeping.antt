-- What no run undoes holds of all that a machine still comes to.
use Rattle.std.proofs.Common.{◌≡◌, ℕ, ◌+◌, ◌-◌, ◌≤◌, List, [], ◌∷◌, Some, Bool, true, false, refl, sym, ap, subst, arith}
use Rattle.std.specs.Prelude.{drop, filter, nat_eq, if◌then◌else◌}
use Rattle.std.proofs.lemmas.Bool.{eq-eqb}
use Rattle.osl_layer.specs.Layer as L
use Rattle.oso_code.specs.declared.op.Section.{Section}
use Rattle.oso_code.specs.declared.raw.Raw.{Raw}
use Rattle.oso_code.specs.CodeRun.{sources_of, is_run, run_sections, layer_end, results_by}
use Rattle.oso_code.specs.Lasting.{Lasts, Keeps}
use Rattle.oso_code.specs.Ranges.{steps_of}
use Rattle.oso_code.specs.Run.{State, put, note, Sources, Outcome, Next, Jumps, Spent, last, then_do, on_test, test_after, after_body, call_end, range}
use Rattle.oso_code.specs.Steps as S
use Rattle.oso_code.proofs.Lasting.{then_lasts, after_lasts, call_lasts, on_lasts, turn_lasts, looped_lasts, test_lasts, range_lasts, count_lasts}
use Rattle.osl_interp.specs.Advances.{Asks, EndsAs}
use Rattle.osl_interp.specs.Known.{given_reads, Fits}
use Rattle.osl_interp.specs.Stops.{Goes, Finishes, Fails, EndDone, Counted}
use Rattle.osl_interp.specs.Meaning.{Configuration, run_range, from_test, from_turn, from_step, behind, close, resume, now, state_of, later_sections, comes_from, meaning}
use Rattle.osl_interp.specs.declared.frame.Frame.{Frame}
use Rattle.osl_interp.specs.declared.frame.Frame.TheVariants.{Rest, Called, Test, Body, Step}
use Rattle.oso_step.specs.declared.step.LoopOp.{LoopOp}
use Rattle.osl_interp.specs.declared.frame.Mode.{Mode}
use Rattle.osl_interp.specs.declared.frame.Mode.TheVariants as M
use Rattle.osl_interp.specs.declared.stop.LayerStop.{LayerStop}
use Rattle.osl_interp.specs.declared.stop.LayerStop.TheVariants as E

module _ (P : State → Type 0) (keeps : Lasts P) where
  module _ (from : Sources) (steps : List S.Step) where
    test_keeps : (l : LoopOp) → Keeps P (from_test from steps l)
    test_keeps l =
        looped_lasts P keeps true (λ s1. test_after from l.condition (run_range from steps l.test s1)) (run_range from steps l.body) (run_range from steps l.step)
        (λ s p. test_lasts P keeps from l.condition (run_range from steps l.test s) (range_lasts P keeps from steps l.test.start l.test.end s p))
        (range_lasts P keeps from steps l.body.start l.body.end) (range_lasts P keeps from steps l.step.start l.step.end)

    turn_keeps : (l : LoopOp) → Keeps P (from_turn from steps l)
    turn_keeps l =
        turn_lasts P keeps (run_range from steps l.body) (run_range from steps l.step) (from_test from steps l) (range_lasts P keeps from steps l.body.start l.body.end) (range_lasts P keeps from steps l.step.start l.step.end) (test_keeps l)

    step_keeps : (l : LoopOp) → Keeps P (from_step from steps l)
    step_keeps l s p =
        then_lasts P keeps (run_range from steps l.step s) (from_test from steps l) (range_lasts P keeps from steps l.step.start l.step.end s p) (test_keeps l)

    close_lasts : (f : Frame) (o : Outcome) → P (last o) → P (last (close from steps f o))
    close_lasts (Rest r) o p = then_lasts P keeps o (run_range from steps r) p (range_lasts P keeps from steps r.start r.end)
    close_lasts (Called r) o p = then_lasts P keeps (call_end o) (run_range from steps r) (call_lasts P keeps o p) (range_lasts P keeps from steps r.start r.end)
    close_lasts (Test l e) o p =
        then_lasts P keeps (on_test (test_after from l.condition o) (from_turn from steps l)) (behind from steps l e)
        (on_lasts P keeps (test_after from l.condition o) (from_turn from steps l) (test_lasts P keeps from l.condition o p) (turn_keeps l))
        (range_lasts P keeps from steps l.step.end e)
    close_lasts (Body l e) o p =
        then_lasts P keeps (after_body o (from_step from steps l)) (behind from steps l e) (after_lasts P keeps o (from_step from steps l) p (step_keeps l)) (range_lasts P keeps from steps l.step.end e)
    close_lasts (Step l e) o p =
        then_lasts P keeps (then_do o (from_test from steps l)) (behind from steps l e) (then_lasts P keeps o (from_test from steps l) p (test_keeps l)) (range_lasts P keeps from steps l.step.end e)

    resume_lasts : (fs : List Frame) (o : Outcome) → P (last o) → P (last (resume from steps fs o))
    resume_lasts [] o p = p
    resume_lasts (f ∷ fs) o p = close_lasts f (resume from steps fs o) (resume_lasts fs o p)

    now_lasts : (mode : Mode) (at e : ℕ) → Keeps P (now from steps mode at e)
    now_lasts M.Run at e s p = range_lasts P keeps from steps at e s p
    now_lasts M.Break at e s p = p
    now_lasts M.Continue at e s p = p
    now_lasts M.Return at e s p = p

    sections_last : (sections : List Section) → Keeps P (run_sections from steps sections)
    sections_last [] s p = p
    sections_last (section ∷ sections) s p =
        then_lasts P keeps (range from steps section.start section.end s) (run_sections from steps sections) (range_lasts P keeps from steps section.start section.end s p) (sections_last sections)

  pub comes_lasts : (inputs : L.Inputs) (c : Configuration) (s : State) → P s → P (last (comes_from inputs c s))
  comes_lasts inputs c s p =
      let from = sources_of c.code inputs in
      let steps = steps_of c.code in
      then_lasts P keeps (resume from steps c.frames (now from steps c.mode c.at c.end s)) (later_sections inputs c.code c.section)
      (resume_lasts from steps c.frames (now from steps c.mode c.at c.end s) (now_lasts from steps c.mode c.at c.end s p))
      (sections_last from steps (filter (is_run inputs) (drop c.section c.code.sections)))

-- what was read stays read
put_keeps : (k p : ℕ) (f : ℕ → Bool) → f p ≡ true → put k true f p ≡ true
unfolding put
put_keeps k p f h = by (nat_eq p k)
  where
    by : (b : Bool) → (if b then true else f p) ≡ true
    by true = refl
    by false = h

pub reads_last : (p : ℕ) → Lasts (λ s. s.reads p ≡ true)
reads_last p = record { writes = λ k v s h. h; notes = λ k s h. put_keeps k p s.reads h; ticks = λ s h. h; turns = λ n s h e. h }

put_there : (p : ℕ) (f : ℕ → Bool) → put p true f p ≡ true
unfolding put
put_there p f = ap (λ b. if b then true else f p) (eq-eqb p p refl)

-- ---- the calls

pub asked_reads : (inputs : L.Inputs) (c : Configuration) (p n : ℕ) → Asks c p → Fits inputs c.inputs c.values → (last (meaning inputs n c)).reads p ≡ true
asked_reads inputs c p n a h =
    subst (λ o. (last o).reads p ≡ true) (sym (a.notes inputs h (state_of n c))) (comes_lasts (λ s. s.reads p ≡ true) (reads_last p) inputs c (note p (state_of n c)) (put_there p (given_reads c.inputs)))

pub asked_ops : (inputs : L.Inputs) (c : Configuration) (n : ℕ) → n ≤ (last (meaning inputs n c)).ops
asked_ops inputs c n = comes_lasts (λ s. n ≤ s.ops) (count_lasts n) inputs c (state_of n c) (omega arith)

-- ---- the count, however the run ends

pub ended_last : (o : Outcome) (s : State) → EndsAs o s → last o ≡ s
ended_last (Next t) s h = h
ended_last (Jumps way t) s h = h
ended_last (Spent t) s h = absurd h

pub goes_counted : (old new : Configuration) (a b : ℕ) → Goes old new a b → Counted old a b
goes_counted old new a b g =
    let x = g.grows in
    record {
      grows = x;
      within = λ inputs h n.
          let le = subst (λ o. n + (b - a) ≤ (last o).ops) (g.same inputs h n) (asked_ops inputs new (n + (b - a))) in
          omega (arith, le, x);
    }

pub finishes_counted : (old new : Configuration) (a b : ℕ) → Finishes old new a b → Counted old a b
finishes_counted old new a b f =
    let x = f.grows in
    record {
      grows = x;
      within = λ inputs h n. let e : (last (meaning inputs n old)).ops ≡ n + (b - a) = ap (λ s. s.ops) (ended_last (meaning inputs n old) (state_of (n + (b - a)) new) (f.ends inputs h n)) in omega (arith, e, x);
    }

pub fails_counted : (old new : Configuration) (a b : ℕ) → Fails old new a b → Counted old a b
fails_counted old new a b f =
    let x = f.grows in
    record {
      grows = x;
      within = λ inputs h n. let e : (last (meaning inputs n old)).ops ≡ n + (b - a) = ap (λ o. (last o).ops) (f.ends inputs h n) in omega (arith, e, x);
    }

pub run_counted : (old new : Configuration) (a b : ℕ) (stop : LayerStop) → EndDone old new a b stop → Counted old a b
run_counted old new a b E.Done h = finishes_counted old new a b h
run_counted old new a b E.Spent h = fails_counted old new a b h
run_counted old new a b (E.Needs p) h = goes_counted old new a b h.0

pub ended_given : (code : Raw) (o : Outcome) (s : State) → EndsAs o s → (layer_end code o).results ≡ Some (results_by code s)
ended_given code (Next t) s h = ap (λ x. Some (results_by code x)) h
ended_given code (Jumps way t) s h = ap (λ x. Some (results_by code x)) h
ended_given code (Spent t) s h = absurd h
