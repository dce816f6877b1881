-- The ends of ranges: what each frame goes on with.
use Rattle.std.proofs.Common.{◌≡◌, ◌≢◌, ℕ, suc, ◌+◌, ◌*◌, ◌<◌, ◌≤◌, ◌⊎◌, inl, inr, List, [], ◌∷◌, ◌++◌, length, Some, Bool, true, false, add-zero, refl, sym, ap, ◌∙◌, subst, arith}
use Rattle.std.specs.Prelude.{if◌then◌else◌}
use Rattle.std.proofs.lemmas.Bool.{le-ltb}
use Rattle.osl_value.specs.AnyValue.{AnyValue, argument}
use Rattle.osl_layer.specs.Layer.{Inputs}
use Rattle.oso_code.specs.CodeRun.{sources_of}
use Rattle.oso_code.specs.Ranges.{steps_of}
use Rattle.oso_code.specs.Run.{State, note, Sources, Outcome, Next, Jumps, Spent, then_do, read, is_so, Holds, Fails, on_test, test_after, after_body, call_end, arguments}
use Rattle.oso_code.specs.Steps as S
use Rattle.oso_code.proofs.Loops.{loop_first, test_gainless, run_gainless}
use Rattle.osl_interp.specs.Advances.{Advances, Asks, ReadsNext, StopDone, IsLast, weight, turn_weight, no_op}
use Rattle.osl_interp.specs.Known.{met, Fits}
use Rattle.osl_interp.specs.Meaning.{Configuration, run_range, from_test, from_turn, from_step, behind, close, resume, now, state_of, later_sections, comes_from, meaning, pending_in, pending}
use Rattle.osl_interp.specs.Ready.{IsLoop, Ready}
use Rattle.osl_interp.specs.declared.frame.Frame.{Frame}
use Rattle.osl_interp.specs.declared.frame.Frame.TheVariants.{Rest, Called, Test, Body, Step}
use Rattle.oso_step.specs.declared.step.LoopOp.{LoopOp}
use Rattle.osl_interp.specs.declared.frame.Mode.{Mode}
use Rattle.osl_interp.specs.declared.frame.Mode.TheVariants as M
use Rattle.oso_step.specs.declared.step.Span.{Span}
use Rattle.osl_interp.specs.declared.known.Met.TheVariants as T
use Rattle.osl_interp.specs.declared.stop.LayerStop.TheVariants as P
use Rattle.osl_interp.proofs.Frames.{resume_push, resume_spent, over, state_at, top, Top, top_frame, left, swapped, split, under, top_of}
use Rattle.osl_interp.proofs.Reading.{sources_fit, arguments_all, arguments_missing, arguments_note, arguments_stop, one_waits, wired_nothing, first_of, on_decide}

-- ---- ranges that are left

-- the way that a mode leaves ranges by
abbrev pub way_of : Mode → S.Way
way_of M.Run = S.Exit
way_of M.Break = S.Break
way_of M.Continue = S.Continue
way_of M.Return = S.Return

pub leaving : (from : Sources) (steps : List S.Step) (mode : Mode) (at e : ℕ) (s : State) → mode ≢ M.Run → now from steps mode at e s ≡ Jumps (way_of mode) s
leaving from steps M.Run at e s not = absurd (not refl)
leaving from steps M.Break at e s not = refl
leaving from steps M.Continue at e s not = refl
leaving from steps M.Return at e s not = refl

-- a frame that is passed over
passed : (c : Configuration) (f : Frame) → Top c f → c.mode ≢ M.Run
    → ((from : Sources) (steps : List S.Step) (s : State) → close from steps f (Jumps (way_of c.mode) s) ≡ Jumps (way_of c.mode) s)
    → 0 < weight f → Advances no_op (top c f) c
passed c f t not passes weighs =
    left c f c.mode c.at c.end t t.ready.here
    (λ inputs h n.
    let from = sources_of c.code inputs in
    let steps = steps_of c.code in
    let is = leaving from steps c.mode c.at c.end (state_of n c) not in
    is ∙ sym (passes from steps (state_of n c)) ∙ ap (close from steps f) (sym is))
    (omega (arith, weighs))

pub rest_passed : (c : Configuration) (r : Span) → Top c (Rest r) → c.mode ≢ M.Run → Advances no_op (top c (Rest r)) c
rest_passed c r t not = passed c (Rest r) t not (λ from steps s. refl) (omega arith)

pub test_passed : (c : Configuration) (l : LoopOp) (e : ℕ) → Top c (Test l e) → c.mode ≢ M.Run → Advances no_op (top c (Test l e)) c
test_passed c l e t not = passed c (Test l e) t not (λ from steps s. refl) (omega arith)

pub step_passed : (c : Configuration) (l : LoopOp) (e : ℕ) → Top c (Step l e) → c.mode ≢ M.Run → Advances no_op (top c (Step l e)) c
step_passed c l e t not = passed c (Step l e) t not (λ from steps s. refl) (omega arith)

pub body_passed : (c : Configuration) (l : LoopOp) (e : ℕ) → Top c (Body l e) → c.mode ≡ M.Return → Advances no_op (top c (Body l e)) c
body_passed c l e t is =
    passed c (Body l e) t (λ h. let q = sym is ∙ h in absurd (cc q))
    (λ from steps s. subst (λ mode. close from steps (Body l e) (Jumps (way_of mode) s) ≡ Jumps (way_of mode) s) (sym is) refl)
    (omega arith)

-- ---- ranges whose end is reached

-- the rest of the range around one
pub rest_over : (c : Configuration) (r : Span) → Top c (Rest r) → c.mode ≡ M.Run → Advances no_op (top c (Rest r)) (record c { mode = M.Run; at = r.start; end = r.end })
rest_over c r t runs =
    left c (Rest r) M.Run r.start r.end t (top_frame c (Rest r) t)
    (λ inputs h n.
    let from = sources_of c.code inputs in
    let steps = steps_of c.code in
    ap (λ o. then_do o (run_range from steps r)) (sym (over from steps c.mode c.at c.end (state_of n c) runs (t.past runs))))
    (omega arith)

called_by : (from : Sources) (steps : List S.Step) (mode : Mode) (at e : ℕ) (s : State) → (mode ≡ M.Run → e ≤ at) → call_end (now from steps mode at e s) ≡ Next s
called_by from steps M.Run at e s past = ap call_end (over from steps M.Run at e s refl (past refl))
called_by from steps M.Break at e s past = refl
called_by from steps M.Continue at e s past = refl
called_by from steps M.Return at e s past = refl

-- the rest of the range around a call
pub called_over : (c : Configuration) (r : Span) → Top c (Called r) → Advances no_op (top c (Called r)) (record c { mode = M.Run; at = r.start; end = r.end })
called_over c r t =
    left c (Called r) M.Run r.start r.end t (top_frame c (Called r) t)
    (λ inputs h n.
    let from = sources_of c.code inputs in
    let steps = steps_of c.code in
    ap (λ o. then_do o (run_range from steps r)) (sym (called_by from steps c.mode c.at c.end (state_of n c) t.past)))
    (omega arith)

body_goes : (from : Sources) (steps : List S.Step) (mode : Mode) (at e : ℕ) (s : State) (go : State → Outcome) → (mode ≡ M.Run → e ≤ at) → ((mode ≡ M.Run) ⊎ (mode ≡ M.Continue)) → after_body (now from steps mode at e s) go ≡ go s
body_goes from steps mode at e s go past (inl runs) = ap (λ o. after_body o go) (over from steps mode at e s runs (past runs))
body_goes from steps mode at e s go past (inr is) = ap (λ y. after_body (now from steps y at e s) go) is

-- a body is over: the step
pub body_over : (c : Configuration) (l : LoopOp) (e : ℕ) → Top c (Body l e) → ((c.mode ≡ M.Run) ⊎ (c.mode ≡ M.Continue))
    → Advances no_op (top c (Body l e)) (record c { frames = c.frames ++ Step l e ∷ []; mode = M.Run; at = l.step.start; end = l.step.end })
body_over c l e t goes =
    let f = top_frame c (Body l e) t in
    swapped c (Body l e) (Step l e) c.turns l.step.start l.step.end t f.step f
    (λ inputs h n.
    let from = sources_of c.code inputs in
    let steps = steps_of c.code in
    ap (λ o. then_do o (behind from steps l e)) (sym (body_goes from steps c.mode c.at c.end (state_of n c) (from_step from steps l) t.past goes)))
    (omega arith)

-- a body is left by a break: what follows the loop
pub body_broken : (c : Configuration) (l : LoopOp) (e : ℕ) → Top c (Body l e) → c.mode ≡ M.Break
    → Advances no_op (top c (Body l e)) (record c { mode = M.Run; at = l.step.end; end = e })
body_broken c l e t is =
    left c (Body l e) M.Run l.step.end e t (top_frame c (Body l e) t).rest
    (λ inputs h n.
    let from = sources_of c.code inputs in
    let steps = steps_of c.code in
    ap (λ y. then_do (after_body (now from steps y c.at c.end (state_of n c)) (from_step from steps l)) (behind from steps l e)) (sym is))
    (omega arith)

-- a loop, by its first turn
pub test_first : (from : Sources) (steps : List S.Step) (l : LoopOp) (s : State) → from_test from steps l s ≡ on_test (test_after from l.condition (run_range from steps l.test s)) (from_turn from steps l)
test_first from steps l s =
    loop_first (λ s1. test_after from l.condition (run_range from steps l.test s1)) (run_range from steps l.body) (run_range from steps l.step)
    (test_gainless from l.condition (run_range from steps l.test) (run_gainless from steps (length steps) l.test.start l.test.end))
    (run_gainless from steps (length steps) l.body.start l.body.end)
    (run_gainless from steps (length steps) l.step.start l.step.end)
    s

-- a step is over: the condition
pub step_over : (c : Configuration) (l : LoopOp) (e : ℕ) → Top c (Step l e) → c.mode ≡ M.Run
    → Advances no_op (top c (Step l e)) (record c { frames = c.frames ++ Test l e ∷ []; mode = M.Run; at = l.test.start; end = l.test.end })
step_over c l e t runs =
    let f = top_frame c (Step l e) t in
    swapped c (Step l e) (Test l e) c.turns l.test.start l.test.end t f.test f
    (λ inputs h n.
    let from = sources_of c.code inputs in
    let steps = steps_of c.code in
    ap (λ o. then_do o (behind from steps l e)) (sym (test_first from steps l (state_of n c)))
    ∙ ap (λ o. then_do (then_do o (from_test from steps l)) (behind from steps l e)) (sym (over from steps c.mode c.at c.end (state_of n c) runs (t.past runs))))
    (omega arith)

-- ---- conditions of loops

-- what follows a condition that is read
abbrev chosen : Sources → List S.Step → LoopOp → AnyValue → State → Outcome
chosen from steps l v s = on_test (if is_so v then Holds s else Fails s) (from_turn from steps l)

-- a loop's condition, as an argument that is read
pub tested_by : (c : Configuration) (l : LoopOp) (e : ℕ) → Top c (Test l e) → c.mode ≡ M.Run → (inputs : Inputs) (s : State)
    → close (sources_of c.code inputs) (steps_of c.code) (Test l e) (now (sources_of c.code inputs) (steps_of c.code) c.mode c.at c.end s)
    ≡ then_do (arguments (sources_of c.code inputs) (l.condition ∷ []) s (first_of (chosen (sources_of c.code inputs) (steps_of c.code) l))) (behind (sources_of c.code inputs) (steps_of c.code) l e)
tested_by c l e t runs inputs s =
    let from = sources_of c.code inputs in
    let steps = steps_of c.code in
    ap (close from steps (Test l e)) (over from steps c.mode c.at c.end s runs (t.past runs))
    ∙ ap (λ o. then_do o (behind from steps l e)) (on_decide (read from l.condition s) (from_turn from steps l))

-- the condition is there
tested_all : (c : Configuration) (l : LoopOp) (e : ℕ) (b : Bool) → Top c (Test l e) → c.mode ≡ M.Run → met c.inputs (l.condition ∷ []) ≡ T.All → is_so (argument c.values l.condition) ≡ b → (inputs : Inputs) → Fits inputs c.inputs c.values → (n : ℕ)
    → close (sources_of c.code inputs) (steps_of c.code) (Test l e) (now (sources_of c.code inputs) (steps_of c.code) c.mode c.at c.end (state_of n c))
    ≡ then_do (on_test (if b then Holds (state_of n c) else Fails (state_of n c)) (from_turn (sources_of c.code inputs) (steps_of c.code) l)) (behind (sources_of c.code inputs) (steps_of c.code) l e)
tested_all c l e b t runs all is inputs h n =
    let from = sources_of c.code inputs in
    let steps = steps_of c.code in
    let fit = sources_fit c.code c.inputs c.values t.ready.laid inputs h in
    tested_by c l e t runs inputs (state_of n c)
    ∙ ap (λ o. then_do o (behind from steps l e)) (arguments_all c.code from c.inputs c.values fit (l.condition ∷ []) c.turns n (first_of (chosen from steps l)) all)
    ∙ ap (λ x. then_do (on_test (if x then Holds (state_of n c) else Fails (state_of n c)) (from_turn from steps l)) (behind from steps l e)) is

-- it does not hold: what follows the loop
pub test_fails : (c : Configuration) (l : LoopOp) (e : ℕ) → Top c (Test l e) → c.mode ≡ M.Run → met c.inputs (l.condition ∷ []) ≡ T.All → is_so (argument c.values l.condition) ≡ false
    → Advances no_op (top c (Test l e)) (record c { mode = M.Run; at = l.step.end; end = e })
test_fails c l e t runs all is =
    left c (Test l e) M.Run l.step.end e t (top_frame c (Test l e) t).rest
    (λ inputs h n. sym (tested_all c l e false t runs all is inputs h n))
    (omega arith)

-- a turn is taken
pub turn_more : (from : Sources) (steps : List S.Step) (l : LoopOp) (c : Configuration) (turns n : ℕ) → c.turns ≡ turns + 1
    → from_turn from steps l (state_at c c.turns n) ≡ after_body (run_range from steps l.body (state_at c turns n)) (from_step from steps l)
turn_more from steps l c turns n is =
    let more : c.turns ≡ suc turns = omega (arith, is) in
    ap (λ x. from_turn from steps l (state_at c x n)) more

pub turn_none : (from : Sources) (steps : List S.Step) (l : LoopOp) (c : Configuration) (n : ℕ) → c.turns ≡ 0
    → from_turn from steps l (state_at c c.turns n) ≡ Spent (state_at c c.turns n)
turn_none from steps l c n is = subst (λ x. from_turn from steps l (state_at c x n) ≡ Spent (state_at c x n)) (sym is) refl

turn_weighs : (size turns more : ℕ) → more ≡ turns + 1 → size * more ≡ size * turns + size
turn_weighs size turns more is = ap (λ x. size * x) is ∙ omega arith

-- it holds: a turn
pub test_holds : (c : Configuration) (l : LoopOp) (e turns : ℕ) → Top c (Test l e) → c.mode ≡ M.Run → met c.inputs (l.condition ∷ []) ≡ T.All → is_so (argument c.values l.condition) ≡ true → c.turns ≡ turns + 1
    → Advances no_op (top c (Test l e)) (record c { turns = turns; frames = c.frames ++ Body l e ∷ []; mode = M.Run; at = l.body.start; end = l.body.end })
test_holds c l e turns t runs all is more =
    let f = top_frame c (Test l e) t in
    let k = turn_weighs (turn_weight c.code) turns c.turns more in
    let a = f.test.within in let b = f.body.within in let s = f.step.within in
    swapped c (Test l e) (Body l e) turns l.body.start l.body.end t f.body f
    (λ inputs h n.
    let from = sources_of c.code inputs in
    let steps = steps_of c.code in
    sym (tested_all c l e true t runs all is inputs h n ∙ ap (λ o. then_do o (behind from steps l e)) (turn_more from steps l c turns n more)))
    (omega (arith, k, a, b, s))

-- what a machine comes to, by its innermost frame
top_comes : (c : Configuration) (f : Frame) (inputs : Inputs) (s : State)
    → comes_from inputs (top c f) s ≡ then_do (resume (sources_of c.code inputs) (steps_of c.code) c.frames (close (sources_of c.code inputs) (steps_of c.code) f (now (sources_of c.code inputs) (steps_of c.code) c.mode c.at c.end s))) (later_sections inputs c.code c.section)
top_comes c f inputs s =
    let from = sources_of c.code inputs in
    let steps = steps_of c.code in
    ap (λ o. then_do o (later_sections inputs c.code c.section)) (resume_push from steps c.frames f (now from steps c.mode c.at c.end s))

-- the frame's end spends the run
top_spent : (c : Configuration) (f : Frame) (inputs : Inputs) (s t : State)
    → close (sources_of c.code inputs) (steps_of c.code) f (now (sources_of c.code inputs) (steps_of c.code) c.mode c.at c.end s) ≡ Spent t
    → comes_from inputs (top c f) s ≡ Spent t
top_spent c f inputs s t is =
    let from = sources_of c.code inputs in
    let steps = steps_of c.code in
    top_comes c f inputs s
    ∙ ap (λ o. then_do (resume from steps c.frames o) (later_sections inputs c.code c.section)) is
    ∙ ap (λ o. then_do o (later_sections inputs c.code c.section)) (resume_spent from steps c.frames t)

-- no turn is left
pub test_spent : (c : Configuration) (l : LoopOp) (e : ℕ) → Top c (Test l e) → c.mode ≡ M.Run → met c.inputs (l.condition ∷ []) ≡ T.All → is_so (argument c.values l.condition) ≡ true → c.turns ≡ 0
    → (inputs : Inputs) → Fits inputs c.inputs c.values → (n : ℕ) → meaning inputs n (top c (Test l e)) ≡ Spent (state_of n c)
test_spent c l e t runs all is none inputs h n =
    let from = sources_of c.code inputs in
    let steps = steps_of c.code in
    top_spent c (Test l e) inputs (state_of n c) (state_of n c) (tested_all c l e true t runs all is inputs h n ∙ ap (λ o. then_do o (behind from steps l e)) (turn_none from steps l c n none))

-- the condition is nothing
pub test_missing : (c : Configuration) (l : LoopOp) (e : ℕ) → Top c (Test l e) → c.mode ≡ M.Run → met c.inputs (l.condition ∷ []) ≡ T.Missing
    → (inputs : Inputs) → Fits inputs c.inputs c.values → (n : ℕ) → meaning inputs n (top c (Test l e)) ≡ Spent (state_of n c)
test_missing c l e t runs missing inputs h n =
    let from = sources_of c.code inputs in
    let steps = steps_of c.code in
    let fit = sources_fit c.code c.inputs c.values t.ready.laid inputs h in
    top_spent c (Test l e) inputs (state_of n c) (state_of n c) (tested_by c l e t runs inputs (state_of n c) ∙ ap (λ o. then_do o (behind from steps l e)) (arguments_missing c.code from c.inputs c.values fit (l.condition ∷ []) c.turns n (first_of (chosen from steps l)) missing))

-- where a range is over nothing is to be counted
none_pending : (c : Configuration) → c.mode ≡ M.Run → c.end ≤ c.at → pending c ≡ 0
none_pending c runs past = ap (λ m. pending_in m c.at c.end) runs ∙ ap (λ b. if b then 1 else 0) (le-ltb c.at c.end past)

-- the condition was not given
pub test_asks : (c : Configuration) (l : LoopOp) (e p : ℕ) → Top c (Test l e) → c.mode ≡ M.Run → ReadsNext (top c (Test l e)) (l.condition ∷ []) → met c.inputs (l.condition ∷ []) ≡ T.Waiting p → Asks (top c (Test l e)) p
test_asks c l e p t runs next waits =
    record {
      waits = one_waits c.inputs (l.condition ∷ []) p waits;
      next = (l.condition ∷ [], (next, waits));
      notes = λ inputs h s.
          let from = sources_of c.code inputs in
          let steps = steps_of c.code in
          let fit = sources_fit c.code c.inputs c.values t.ready.laid inputs h in
          let same = tested_by c l e t runs inputs s
          ∙ ap (λ o. then_do o (behind from steps l e)) (arguments_note c.code from c.inputs c.values fit (l.condition ∷ []) p s (first_of (chosen from steps l)) waits)
          ∙ sym (tested_by c l e t runs inputs (note p s)) in
          top_comes c (Test l e) inputs s
          ∙ ap (λ o. then_do (resume from steps c.frames o) (later_sections inputs c.code c.section)) same
          ∙ sym (top_comes c (Test l e) inputs (note p s));
      stops = λ inputs h none s.
          let from = sources_of c.code inputs in
          let steps = steps_of c.code in
          let fit = sources_fit c.code c.inputs c.values t.ready.laid inputs h in
          let gone = wired_nothing c.code c.inputs c.values t.ready.laid inputs h p (one_waits c.inputs (l.condition ∷ []) p waits) none in
          let ends = arguments_stop c.code from c.inputs c.values fit (l.condition ∷ []) p s.ops s (first_of (chosen from steps l)) gone waits refl in
          (ends.0, top_spent c (Test l e) inputs s (note p ends.0) (tested_by c l e t runs inputs s ∙ ap (λ o. then_do o (behind from steps l e)) ends.1), ends.2 ∙ sym (add-zero s.ops) ∙ ap (λ n. s.ops + n) (sym (none_pending c runs (t.past runs))));
    }

-- ---- a condition that was computed, by the frames of the machine

-- one of the modes that leave ranges
pub not_run : (mode : Mode) → (mode ≡ M.Break) ⊎ ((mode ≡ M.Continue) ⊎ (mode ≡ M.Return)) → mode ≢ M.Run
not_run mode (inl is) h = let q = sym is ∙ h in cc q
not_run mode (inr (inl is)) h = let q = sym is ∙ h in cc q
not_run mode (inr (inr is)) h = let q = sym is ∙ h in cc q

-- the mode of a machine whose frame was taken off
pub mode_of : (old mid : Configuration) (f : Frame) → old ≡ top mid f → old.mode ≢ M.Run → mid.mode ≢ M.Run
mode_of old mid f is not runs = not (ap (λ (x : Configuration). x.mode) is ∙ runs)

module _ (c : Configuration) (l : LoopOp) (e : ℕ) (last : IsLast (Test l e) c.frames) (ready : Ready c) (runs : c.mode ≡ M.Run) (past : c.end ≤ c.at) where
  abbrev below : Configuration
  below = record c { frames = (split c.frames (Test l e) last).0 }

  is_under : c ≡ top below (Test l e)
  is_under = under c (Test l e) (split c.frames (Test l e) last).0 (split c.frames (Test l e) last).1

  on_top : Top below (Test l e)
  on_top = top_of c (Test l e) (split c.frames (Test l e) last).0 (split c.frames (Test l e) last).1 ready (λ h. past)

  pub condition_missing : met c.inputs (l.condition ∷ []) ≡ T.Missing → StopDone no_op c c (Some P.Spent)
  condition_missing missing = (refl, λ inputs h n. ap (meaning inputs n) is_under ∙ test_missing below l e on_top runs missing inputs h n)

  pub condition_waits : (p : ℕ) → met c.inputs (l.condition ∷ []) ≡ T.Waiting p → StopDone no_op c c (Some (P.Needs p))
  condition_waits p waits =
      let next = subst (λ x. ReadsNext x (l.condition ∷ [])) is_under (inr (record { runs = runs; past = past; repeat = l; rest = e; top = last; reads = refl })) in
      (refl, subst (λ x. Asks x p) (sym is_under) (test_asks below l e p on_top runs next waits))

  pub no_turn : met c.inputs (l.condition ∷ []) ≡ T.All → is_so (argument c.values l.condition) ≡ true → c.turns ≡ 0 → StopDone no_op c c (Some P.Spent)
  no_turn all is none = (refl, λ inputs h n. ap (meaning inputs n) is_under ∙ test_spent below l e on_top runs all is none inputs h n)

  pub loop_there : IsLoop c.code c.inputs l e
  loop_there = top_frame below (Test l e) on_top

-- it was taken off: the loop ends
pub condition_fails : (c mid : Configuration) (l : LoopOp) (e : ℕ) → c ≡ top mid (Test l e) → Ready c → c.mode ≡ M.Run → c.end ≤ c.at → met c.inputs (l.condition ∷ []) ≡ T.All → is_so (argument c.values l.condition) ≡ false
    → Advances no_op c (record mid { mode = M.Run; at = l.step.end; end = e })
condition_fails c mid l e is =
    subst (λ (x : Configuration). Ready x → x.mode ≡ M.Run → x.end ≤ x.at → met x.inputs (l.condition ∷ []) ≡ T.All → is_so (argument x.values l.condition) ≡ false → Advances no_op x (record mid { mode = M.Run; at = l.step.end; end = e })) (sym is)
    (λ ready runs past all so. test_fails mid l e (record { ready = ready; past = λ h. past }) runs all so)

-- or a turn begins
pub condition_holds : (c mid : Configuration) (l : LoopOp) (e turns : ℕ) → c ≡ top mid (Test l e) → Ready c → c.mode ≡ M.Run → c.end ≤ c.at → met c.inputs (l.condition ∷ []) ≡ T.All → is_so (argument c.values l.condition) ≡ true → mid.turns ≡ turns + 1
    → Advances no_op c (record mid { turns = turns; frames = mid.frames ++ Body l e ∷ []; at = l.body.start; end = l.body.end })
condition_holds c mid l e turns is =
    subst (λ (x : Configuration). Ready x → x.mode ≡ M.Run → x.end ≤ x.at → met x.inputs (l.condition ∷ []) ≡ T.All → is_so (argument x.values l.condition) ≡ true → mid.turns ≡ turns + 1 → Advances no_op x (record mid { turns = turns; frames = mid.frames ++ Body l e ∷ []; at = l.body.start; end = l.body.end })) (sym is)
    (λ ready runs past all so more.
    subst (λ mode. Advances no_op (top mid (Test l e)) (record mid { turns = turns; frames = mid.frames ++ Body l e ∷ []; mode = mode; at = l.body.start; end = l.body.end })) (sym runs)
    (test_holds mid l e turns (record { ready = ready; past = λ h. past }) runs all so more))
