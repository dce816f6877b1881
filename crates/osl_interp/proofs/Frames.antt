-- Frames, and a machine that moves on.
use Rattle.std.proofs.Common.{◌≡◌, ℕ, suc, ◌+◌, ◌-◌, ◌*◌, ◌<◌, ◌≤◌, List, [], ◌∷◌, ◌++◌, length, Some, None, refl, sym, ap, ◌∙◌, subst, arith}
use Rattle.std.specs.Prelude.{slice_get}
use Rattle.std.proofs.lemmas.Option.{slice_get-get_or}
use Rattle.osl_layer.specs.Layer.{Inputs}
use Rattle.oso_code.specs.declared.raw.Raw.{Raw}
use Rattle.oso_code.specs.CodeRun.{sources_of}
use Rattle.oso_code.specs.Nesting.{IsClosed, IsInside}
use Rattle.oso_code.specs.Ranges.{steps_of}
use Rattle.oso_code.specs.Run.{State, ticked, Sources, Outcome, Next, Jumps, Spent, then_do, act, range}
use Rattle.oso_code.specs.Steps as S
use Rattle.oso_code.proofs.Nested.{valid_nested}
use Rattle.oso_code.proofs.Steady.{first_op, run_past, closed_later}
use Rattle.oso_code.proofs.Fitting.{some_same}
use Rattle.osl_interp.specs.Advances.{Advances, IsLast, here, weight, weights, turn_weight, one_op, no_op}
use Rattle.osl_interp.specs.Known.{given_reads, Fits}
use Rattle.osl_interp.specs.Meaning.{Configuration, held_values, close, resume, now, state_of, later_sections}
use Rattle.osl_interp.specs.Ready.{IsRange, IsFrame, AreFrames, Ready}
use Rattle.osl_interp.specs.declared.frame.Frame.{Frame}
use Rattle.osl_interp.specs.declared.frame.Frame.TheVariants.{Rest, Called, Test, Body, Step}
use Rattle.osl_interp.specs.declared.frame.Mode.{Mode}
use Rattle.osl_interp.specs.declared.frame.Mode.TheVariants as M
use Rattle.osl_interp.specs.declared.known.Known.{Known}

module _ (from : Sources) (steps : List S.Step) where
  pub resume_push : (fs : List Frame) (f : Frame) (o : Outcome) → resume from steps (fs ++ f ∷ []) o ≡ resume from steps fs (close from steps f o)
  resume_push [] f o = refl
  resume_push (g ∷ fs) f o = ap (close from steps g) (resume_push fs f o)

  spent_close : (f : Frame) (s : State) → close from steps f (Spent s) ≡ Spent s
  spent_close (Rest r) s = refl
  spent_close (Called r) s = refl
  spent_close (Test l e) s = refl
  spent_close (Body l e) s = refl
  spent_close (Step l e) s = refl

  -- no frame goes on where the run is spent, or has left the layer
  pub resume_spent : (fs : List Frame) (s : State) → resume from steps fs (Spent s) ≡ Spent s
  resume_spent [] s = refl
  resume_spent (f ∷ fs) s = ap (close from steps f) (resume_spent fs s) ∙ spent_close f s

  exit_close : (f : Frame) (s : State) → close from steps f (Jumps S.Exit s) ≡ Jumps S.Exit s
  exit_close (Rest r) s = refl
  exit_close (Called r) s = refl
  exit_close (Test l e) s = refl
  exit_close (Body l e) s = refl
  exit_close (Step l e) s = refl

  pub resume_exit : (fs : List Frame) (s : State) → resume from steps fs (Jumps S.Exit s) ≡ Jumps S.Exit s
  resume_exit [] s = refl
  resume_exit (f ∷ fs) s = ap (close from steps f) (resume_exit fs s) ∙ exit_close f s

  -- a range whose end is reached
  pub over : (mode : Mode) (at e : ℕ) (s : State) → mode ≡ M.Run → e ≤ at → now from steps mode at e s ≡ Next s
  over mode at e s runs past = ap (λ y. now from steps y at e s) runs ∙ run_past from steps (length steps) at e s past

module _ (code : Raw) (known : List Known) where
  pub frames_push : (fs : List Frame) (f : Frame) → AreFrames code known fs → IsFrame code known f → AreFrames code known (fs ++ f ∷ [])
  frames_push [] f a b = (b, tt)
  frames_push (g ∷ fs) f a b = (a.0, frames_push fs f a.1 b)

  pub frames_pop : (fs : List Frame) (f : Frame) → AreFrames code known (fs ++ f ∷ []) → AreFrames code known fs × IsFrame code known f
  frames_pop [] f a = (tt, a.0)
  frames_pop (g ∷ fs) f a = let h = frames_pop fs f a.1 in ((a.0, h.0), h.1)

  -- a part of a range that may be run
  pub part_of : (i e j d : ℕ) → IsRange code known i e → i ≤ j → d ≤ e → IsClosed (steps_of code) j d → IsRange code known j d
  part_of i e j d r low high closed =
      let w = r.within in
      record { closed = closed; within = omega (arith, high, w); spares = λ k step a b at. r.spares k step (omega (arith, low, a)) (omega (arith, high, b)) at }

  pub later_part : (i e j : ℕ) → IsRange code known i e → i ≤ j → IsRange code known j e
  later_part i e j r low = part_of i e j e r low (omega arith) (closed_later (steps_of code) i j e low r.closed)

  -- a range of an op
  pub inner_part : (i e next : ℕ) (span : S.Span) → IsRange code known i e → next ≤ e → IsInside (steps_of code) i next span → IsRange code known span.start span.end
  inner_part i e next span r high inside =
      let a = inside.later in let b = inside.within in
      part_of i e span.start span.end r (omega (arith, a)) (omega (arith, b, high)) inside.closed

pub weights_push : (fs : List Frame) (f : Frame) → weights (fs ++ f ∷ []) ≡ weights fs + weight f
weights_push [] f = omega arith
weights_push (g ∷ fs) f = let h = weights_push fs f in omega (arith, h)

-- ---- moves

-- the state with so many turns
abbrev pub state_at : Configuration → ℕ → ℕ → State
state_at c turns n = record { values = held_values c.code c.inputs c.values; turns = turns; reads = given_reads c.inputs; ops = n }

abbrev pub load : Configuration → ℕ → List Frame → Mode → ℕ → ℕ → ℕ
load c turns fs mode at end = turn_weight c.code * turns + (here mode at end + weights fs)

-- a machine that goes on with other turns, frames and another place
pub moved : (t : ℕ → ℕ) (c : Configuration) (turns : ℕ) (fs : List Frame) (mode : Mode) (at end : ℕ)
    → Ready c → IsRange c.code c.inputs at end → AreFrames c.code c.inputs fs
    → ((inputs : Inputs) → Fits inputs c.inputs c.values → (n : ℕ)
    → resume (sources_of c.code inputs) (steps_of c.code) fs (now (sources_of c.code inputs) (steps_of c.code) mode at end (state_at c turns (t n)))
    ≡ resume (sources_of c.code inputs) (steps_of c.code) c.frames (now (sources_of c.code inputs) (steps_of c.code) c.mode c.at c.end (state_of n c)))
    → load c turns fs mode at end < load c c.turns c.frames c.mode c.at c.end
    → Advances t c (record c { turns = turns; frames = fs; mode = mode; at = at; end = end })
moved t c turns fs mode at end ready here_is frames_are same less =
    record {
      ready = record { laid = ready.laid; here = here_is; frames = frames_are };
      code = refl;
      inputs_stay = refl;
      fits = λ inputs h. h;
      same = λ inputs h n. ap (λ o. then_do o (later_sections inputs c.code c.section)) (same inputs h n);
      less = omega (arith, less);
    }

-- what a machine comes to, by its next op
pub by_op : (inputs : Inputs) (c : Configuration) (step : S.Step) → Ready c → c.mode ≡ M.Run → c.at < c.end → slice_get (steps_of c.code) c.at ≡ Some step → (s : State)
    → now (sources_of c.code inputs) (steps_of c.code) c.mode c.at c.end s ≡ act (sources_of c.code inputs) (range (sources_of c.code inputs) (steps_of c.code)) (Some step) c.at c.end (ticked s)
by_op inputs c step ready runs lt at s =
    let from = sources_of c.code inputs in
    let steps = steps_of c.code in
    ap (λ y. now from steps y c.at c.end s) runs ∙ first_op from steps (valid_nested c.code ready.laid.valid) c.at c.end step s ready.here.closed lt ready.here.within at

run_weighs : (mode : Mode) (at e : ℕ) → mode ≡ M.Run → here mode at e ≡ 2 * (e - at)
run_weighs mode at e runs = ap (λ y. here y at e) runs

-- a range was entered, with one more frame around it
pub entered : (c : Configuration) (step : S.Step) (turns : ℕ) (f : Frame) (i e : ℕ)
    → Ready c → c.mode ≡ M.Run → c.at < c.end → slice_get (steps_of c.code) c.at ≡ Some step → IsFrame c.code c.inputs f → IsRange c.code c.inputs i e
    → ((inputs : Inputs) → Fits inputs c.inputs c.values → (n : ℕ)
    → act (sources_of c.code inputs) (range (sources_of c.code inputs) (steps_of c.code)) (Some step) c.at c.end (state_at c c.turns n)
    ≡ close (sources_of c.code inputs) (steps_of c.code) f (range (sources_of c.code inputs) (steps_of c.code) i e (state_at c turns n)))
    → turn_weight c.code * turns + (2 * (e - i) + weight f) < turn_weight c.code * c.turns + 2 * (c.end - c.at)
    → Advances one_op c (record c { turns = turns; frames = c.frames ++ f ∷ []; at = i; end = e })
entered c step turns f i e ready runs lt at frame part same less =
    let a = run_weighs c.mode i e runs in
    let b = run_weighs c.mode c.at c.end runs in
    let w = weights_push c.frames f in
    moved one_op c turns (c.frames ++ f ∷ []) c.mode i e ready part (frames_push c.code c.inputs c.frames f ready.frames frame)
    (λ inputs h n.
    let from = sources_of c.code inputs in
    let steps = steps_of c.code in
    resume_push from steps c.frames f (now from steps c.mode i e (state_at c turns (n + 1)))
    ∙ ap (λ y. resume from steps c.frames (close from steps f (now from steps y i e (state_at c turns (n + 1))))) runs
    ∙ ap (resume from steps c.frames) (sym (same inputs h (n + 1)) ∙ sym (by_op inputs c step ready runs lt at (state_of n c))))
    (omega (arith, a, b, w, less))

-- ---- the innermost frame

-- a machine with one more frame
abbrev pub top : Configuration → Frame → Configuration
top c f = record c { frames = c.frames ++ f ∷ [] }

-- a machine whose innermost frame's range is over or left, the frame taken off
pub record Top (c : Configuration) (f : Frame) : Type 0 where
  pub ready : Ready (top c f)
  pub past : c.mode ≡ M.Run → c.end ≤ c.at

pub popped : (old c : Configuration) (f : Frame) → old ≡ top c f → Ready old → (old.mode ≡ M.Run → old.end ≤ old.at) → Top c f
popped old c f is ready past = record { ready = subst Ready is ready; past = subst (λ (x : Configuration). x.mode ≡ M.Run → x.end ≤ x.at) is past }

pub top_frame : (c : Configuration) (f : Frame) → Top c f → IsFrame c.code c.inputs f
top_frame c f t = (frames_pop c.code c.inputs c.frames f t.ready.frames).1

-- the frame was left
pub left : (c : Configuration) (f : Frame) (mode : Mode) (i e : ℕ)
    → Top c f → IsRange c.code c.inputs i e
    → ((inputs : Inputs) → Fits inputs c.inputs c.values → (n : ℕ)
    → now (sources_of c.code inputs) (steps_of c.code) mode i e (state_of n c)
    ≡ close (sources_of c.code inputs) (steps_of c.code) f (now (sources_of c.code inputs) (steps_of c.code) c.mode c.at c.end (state_of n c)))
    → here mode i e < here c.mode c.at c.end + weight f
    → Advances no_op (top c f) (record c { mode = mode; at = i; end = e })
left c f mode i e t part same less =
    let w = weights_push c.frames f in
    moved no_op (top c f) c.turns c.frames mode i e t.ready part (frames_pop c.code c.inputs c.frames f t.ready.frames).0
    (λ inputs h n.
    let from = sources_of c.code inputs in
    let steps = steps_of c.code in
    ap (resume from steps c.frames) (same inputs h n)
    ∙ sym (resume_push from steps c.frames f (now from steps c.mode c.at c.end (state_of n c))))
    (omega (arith, w, less))

-- another frame was put in its place
pub swapped : (c : Configuration) (f g : Frame) (turns : ℕ) (i e : ℕ)
    → Top c f → IsRange c.code c.inputs i e → IsFrame c.code c.inputs g
    → ((inputs : Inputs) → Fits inputs c.inputs c.values → (n : ℕ)
    → close (sources_of c.code inputs) (steps_of c.code) g (range (sources_of c.code inputs) (steps_of c.code) i e (state_at c turns n))
    ≡ close (sources_of c.code inputs) (steps_of c.code) f (now (sources_of c.code inputs) (steps_of c.code) c.mode c.at c.end (state_of n c)))
    → turn_weight c.code * turns + (2 * (e - i) + weight g) < turn_weight c.code * c.turns + (here c.mode c.at c.end + weight f)
    → Advances no_op (top c f) (record c { turns = turns; frames = c.frames ++ g ∷ []; mode = M.Run; at = i; end = e })
swapped c f g turns i e t part frame same less =
    let w = weights_push c.frames f in
    let v = weights_push c.frames g in
    moved no_op (top c f) turns (c.frames ++ g ∷ []) M.Run i e t.ready part (frames_push c.code c.inputs c.frames g (frames_pop c.code c.inputs c.frames f t.ready.frames).0 frame)
    (λ inputs h n.
    let from = sources_of c.code inputs in
    let steps = steps_of c.code in
    resume_push from steps c.frames g (range from steps i e (state_at c turns n))
    ∙ ap (resume from steps c.frames) (same inputs h n)
    ∙ sym (resume_push from steps c.frames f (now from steps c.mode c.at c.end (state_of n c))))
    (omega (arith, w, v, less))

-- the same, by what the machine was and is
pub arrives : (t : ℕ → ℕ) (old old' new new' : Configuration) → old ≡ old' → new ≡ new' → Advances t old' new' → Advances t old new
arrives t old old' new new' p q h = subst (λ x. Advances t x new) (sym p) (subst (Advances t old') (sym q) h)

-- the frames below the innermost one
pub split : (fs : List Frame) (f : Frame) → IsLast f fs → (rest : List Frame) × (fs ≡ rest ++ f ∷ [])
split [] f h = absurd (cc h)
split (g ∷ []) f h = let q : g ≡ f = some_same g f h in ([], ap (λ x. x ∷ []) q)
split (g ∷ k ∷ fs) f h =
    let n : length (g ∷ k ∷ fs) - 1 ≡ suc (length (k ∷ fs) - 1) = omega arith in
    let s = split (k ∷ fs) f (subst (λ i. slice_get (g ∷ k ∷ fs) i ≡ Some f) n h) in
    (g ∷ s.0, ap (λ l. g ∷ l) s.1)

pub no_frames : (fs : List Frame) → slice_get fs (length fs - 1) ≡ None → fs ≡ []
no_frames [] h = refl
no_frames (f ∷ fs) h = absurd (let q = sym (slice_get-get_or (f ∷ fs) (length (f ∷ fs) - 1) f (omega arith)) ∙ h in cc q)

-- a machine, by its innermost frame
pub under : (c : Configuration) (f : Frame) (rest : List Frame) → c.frames ≡ rest ++ f ∷ [] → c ≡ top (record c { frames = rest }) f
under c f rest is = λ i. record c { frames = is i }

pub top_of : (c : Configuration) (f : Frame) (rest : List Frame) → c.frames ≡ rest ++ f ∷ [] → Ready c → (c.mode ≡ M.Run → c.end ≤ c.at) → Top (record c { frames = rest }) f
top_of c f rest is ready past = popped c (record c { frames = rest }) f (under c f rest is) ready past
