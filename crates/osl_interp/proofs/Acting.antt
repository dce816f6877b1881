-- Ops: what each goes on with.
use Rattle.std.proofs.Common.{◌≡◌, ◌≢◌, ℕ, ◌+◌, ◌-◌, ◌*◌, ◌<◌, ◌≤◌, inl, ⊎_elim, List, [], ◌∷◌, ◌++◌, length, map, get_or, Option, Some, None, Bool, true, false, refl, sym, ap, ◌∙◌, subst, arith}
use Rattle.std.specs.Prelude.{slice_get, slice_set, nat_eq, if◌then◌else◌, IsTrue}
use Rattle.std.proofs.Math.ListN.{length-set}
use Rattle.std.proofs.lemmas.Bool.{cases_eq, eqb-true, eqb-false, lt-ltb}
use Rattle.std.proofs.lemmas.Option.{slice_get_read}
use Rattle.osl_value.specs.declared.op_name.OpName.{OpName}
use Rattle.osl_value.specs.declared.types.Ty.{Ty}
use Rattle.osl_value.specs.AnyValue.{AnyValue, argument, type_of, zero_value}
use Rattle.osl_value.specs.Apply.{apply, is_allowed}
use Rattle.osl_value.proofs.TableLaws.{writes_its_type}
use Rattle.osl_layer.specs.Layer.{Input, Inputs}
use Rattle.osl_apply.specs.declared.slot.Slot.{Slot}
use Rattle.osl_apply.specs.Operands.{takes, values, held, held_all, AllBelow, UpdatesFirst}
use Rattle.osl_interp.specs.declared.machine.Machine.{Machine}
use Rattle.oso_code.specs.declared.raw.Raw.{Raw}
use Rattle.oso_code.specs.CodeRun.{sources_of}
use Rattle.oso_code.specs.Ops.{type_at}
use Rattle.oso_code.specs.Ranges.{steps_of}
use Rattle.oso_code.specs.Run.{State, put, write, note, ticked, Sources, Outcome, Jumps, Spent, then_do, either, is_so, arguments, run_span, act, range}
use Rattle.oso_code.specs.Steps as S
use Rattle.oso_code.specs.declared.op.Op.{Op}
use Rattle.oso_code.specs.Steps.{step_of}
use Rattle.oso_code.proofs.Decoding.{step_at, length_steps}
use Rattle.oso_code.proofs.Nested.{valid_nested}
use Rattle.osl_interp.specs.Advances.{Advances, Asks, EndsAs, here, reads_first, turn_weight, one_op}
use Rattle.oso_step.specs.Decoded.{seen_span}
use Rattle.osl_interp.specs.Known.{met, is_wired, is_wired_at, given_reads, FitsAt, Fits}
use Rattle.osl_interp.specs.Meaning.{Configuration, held_values, configuration, behind, resume, now, state_of, later_sections, comes_from, meaning, pending_in, pending}
use Rattle.osl_interp.specs.Ready.{IsLaid, IsRange, IsLoop, Ready}
use Rattle.osl_interp.specs.declared.frame.Frame.TheVariants.{Rest, Called, Test, Body}
use Rattle.oso_step.specs.declared.step.LoopOp.{LoopOp}
use Rattle.osl_interp.specs.declared.frame.Mode.{Mode}
use Rattle.osl_interp.specs.declared.frame.Mode.TheVariants as M
use Rattle.oso_step.specs.declared.step.Span.{Span}
use Rattle.osl_interp.specs.declared.known.Known.{Known}
use Rattle.osl_interp.specs.declared.known.Known.TheVariants as K
use Rattle.osl_interp.specs.declared.known.Met.TheVariants as T
use Rattle.osl_interp.proofs.Frames.{resume_spent, resume_exit, later_part, inner_part, state_at, moved, by_op, entered}
use Rattle.osl_interp.proofs.Laying.{IsInt, length_values, step_fits, put_argument, keep_argument}
use Rattle.osl_interp.proofs.Leaving.{test_first, turn_more, turn_none}
use Rattle.osl_interp.proofs.Reading.{sources_fit, wired_nothing, arguments_all, arguments_missing, arguments_note, arguments_stop, one_waits, first_of}

-- a machine that is at an op
pub record At (c : Configuration) (step : S.Step) : Type 0 where
  pub ready : Ready c
  pub runs : c.mode ≡ M.Run
  pub inside : c.at < c.end
  pub op : slice_get (steps_of c.code) c.at ≡ Some step

-- how the op ends the range, and with it all that the machine comes to
abbrev acts : Inputs → Configuration → S.Step → State → Outcome
acts inputs c step s = act (sources_of c.code inputs) (range (sources_of c.code inputs) (steps_of c.code)) (Some step) c.at c.end s

comes_by : (c : Configuration) (step : S.Step) → At c step → (inputs : Inputs) (s : State)
    → comes_from inputs c s ≡ then_do (resume (sources_of c.code inputs) (steps_of c.code) c.frames (acts inputs c step (ticked s))) (later_sections inputs c.code c.section)
comes_by c step a inputs s =
    ap (λ o. then_do (resume (sources_of c.code inputs) (steps_of c.code) c.frames o) (later_sections inputs c.code c.section)) (by_op inputs c step a.ready a.runs a.inside a.op s)

spent_by : (c : Configuration) (step : S.Step) → At c step → (inputs : Inputs) (s t : State) → acts inputs c step (ticked s) ≡ Spent t → comes_from inputs c s ≡ Spent t
spent_by c step a inputs s t is =
    comes_by c step a inputs s
    ∙ ap (λ o. then_do (resume (sources_of c.code inputs) (steps_of c.code) c.frames o) (later_sections inputs c.code c.section)) is
    ∙ ap (λ o. then_do o (later_sections inputs c.code c.section)) (resume_spent (sources_of c.code inputs) (steps_of c.code) c.frames t)

-- ---- ops that begin with reading

-- an op that reads these symbols first
pub record Reads (c : Configuration) (step : S.Step) (ks : List ℕ) : Type 0 where
  pub first : reads_first step ≡ ks
  pub go : Inputs → List AnyValue → State → Outcome
  pub is : (inputs : Inputs) (s : State) → acts inputs c step s ≡ arguments (sources_of c.code inputs) ks s (go inputs)

abbrev pub computes : (c : Configuration) (name : OpName) (ty : Ty) (target : ℕ) (sources : List ℕ) → Reads c (S.Compute name ty target sources) sources
computes c name ty target sources = record {
  first = refl;
  go = λ inputs vs s1. range (sources_of c.code inputs) (steps_of c.code) (c.at + 1) c.end (write target (apply name ty vs) s1);
  is = λ inputs s. refl;
}

abbrev pub branches : (c : Configuration) (k : ℕ) (holds fails : S.Span) → Reads c (S.Branch k holds fails) (k ∷ [])
branches c k holds fails = record {
  first = refl;
  go = λ inputs. first_of (λ v s1. then_do (either (is_so v) (run_span (range (sources_of c.code inputs) (steps_of c.code)) holds) (run_span (range (sources_of c.code inputs) (steps_of c.code)) fails) s1) (range (sources_of c.code inputs) (steps_of c.code) fails.end c.end));
  is = λ inputs s. refl;
}

pub read_missing : (c : Configuration) (step : S.Step) (ks : List ℕ) → At c step → Reads c step ks → met c.inputs ks ≡ T.Missing → (inputs : Inputs) → Fits inputs c.inputs c.values → (n : ℕ) → meaning inputs n c ≡ Spent (state_of (n + 1) c)
read_missing c step ks a r missing inputs h n =
    let fit = sources_fit c.code c.inputs c.values a.ready.laid inputs h in
    spent_by c step a inputs (state_of n c) (state_of (n + 1) c) (r.is inputs (state_of (n + 1) c) ∙ arguments_missing c.code (sources_of c.code inputs) c.inputs c.values fit ks c.turns (n + 1) (r.go inputs) missing)

-- an op that waits is not counted yet
is_pending : (c : Configuration) → c.mode ≡ M.Run → c.at < c.end → pending c ≡ 1
is_pending c runs inside = ap (λ m. pending_in m c.at c.end) runs ∙ ap (λ b. if b then 1 else 0) (lt-ltb c.at c.end inside)

pub read_asks : (c : Configuration) (step : S.Step) (ks : List ℕ) (p : ℕ) → At c step → Reads c step ks → met c.inputs ks ≡ T.Waiting p → Asks c p
read_asks c step ks p a r waits =
    record {
      waits = one_waits c.inputs ks p waits;
      next = (ks, (inl (record { runs = a.runs; inside = a.inside; step = step; op = a.op; reads = r.first }), waits));
      notes = λ inputs h s.
          let fit = sources_fit c.code c.inputs c.values a.ready.laid inputs h in
          comes_by c step a inputs s
          ∙ ap (λ o. then_do (resume (sources_of c.code inputs) (steps_of c.code) c.frames o) (later_sections inputs c.code c.section))
          (r.is inputs (ticked s) ∙ arguments_note c.code (sources_of c.code inputs) c.inputs c.values fit ks p (ticked s) (r.go inputs) waits ∙ sym (r.is inputs (ticked (note p s))))
          ∙ sym (comes_by c step a inputs (note p s));
      stops = λ inputs h none s.
          let fit = sources_fit c.code c.inputs c.values a.ready.laid inputs h in
          let gone = wired_nothing c.code c.inputs c.values a.ready.laid inputs h p (one_waits c.inputs ks p waits) none in
          let ends = arguments_stop c.code (sources_of c.code inputs) c.inputs c.values fit ks p (s.ops + 1) (ticked s) (r.go inputs) gone waits refl in
          (ends.0, spent_by c step a inputs s (note p ends.0) (r.is inputs (ticked s) ∙ ends.1), ends.2 ∙ ap (λ n. s.ops + n) (sym (is_pending c a.runs a.inside)));
    }

-- ---- a condition

branch_by : (c : Configuration) (k : ℕ) (holds fails : Span) (b : Bool) (side : Span) → (b ≡ true → side ≡ holds) → (b ≡ false → side ≡ fails) → (from : Sources) (s : State)
    → either b (run_span (range from (steps_of c.code)) (seen_span holds)) (run_span (range from (steps_of c.code)) (seen_span fails)) s ≡ range from (steps_of c.code) side.start side.end s
branch_by c k holds fails true side taken other from s = ap (λ (r : Span). range from (steps_of c.code) r.start r.end s) (sym (taken refl))
branch_by c k holds fails false side taken other from s = ap (λ (r : Span). range from (steps_of c.code) r.start r.end s) (sym (other refl))

side_of : (P : Span → Type 0) (b : Bool) (holds fails side : Span) → side ≡ (if b then holds else fails) → P holds → P fails → P side
side_of P true holds fails side is h f = subst P (sym is) h
side_of P false holds fails side is h f = subst P (sym is) f

pub branch_taken : (c : Configuration) (k : ℕ) (holds fails side : Span) (b : Bool) → At c (S.Branch k (seen_span holds) (seen_span fails)) → met c.inputs (k ∷ []) ≡ T.All → is_so (argument c.values k) ≡ b → side ≡ (if b then holds else fails)
    → Advances one_op c (record c { frames = c.frames ++ Rest (record { start = fails.end; end = c.end }) ∷ []; at = side.start; end = side.end })
branch_taken c k holds fails side b a all is which =
    let step = S.Branch k (seen_span holds) (seen_span fails) in
    let ready = a.ready in
    let nest = (valid_nested c.code ready.laid.valid).each c.at step a.op in
    let reach : fails.end ≤ c.end = ready.here.closed.ends c.at step (omega arith) a.inside a.op in
    let l0 = nest.0.later in let o0 = nest.0.ordered in let w0 = nest.0.within in
    let l1 = nest.1.later in let o1 = nest.1.ordered in
    let part : IsRange c.code c.inputs side.start side.end =
    side_of (λ r. IsRange c.code c.inputs r.start r.end) b holds fails side which
    (inner_part c.code c.inputs c.at c.end fails.end (seen_span holds) ready.here reach nest.0)
    (inner_part c.code c.inputs c.at c.end fails.end (seen_span fails) ready.here reach nest.1) in
    let small : 2 * (side.end - side.start) + (1 + 2 * (c.end - fails.end)) < 2 * (c.end - c.at) =
    side_of (λ r. 2 * (r.end - r.start) + (1 + 2 * (c.end - fails.end)) < 2 * (c.end - c.at)) b holds fails side which
    (omega (arith, reach, l0, o0, w0, l1, o1, a.inside)) (omega (arith, reach, l1, o1, a.inside)) in
    entered c step c.turns (Rest (record { start = fails.end; end = c.end })) side.start side.end ready a.runs a.inside a.op
    (later_part c.code c.inputs c.at c.end fails.end ready.here (omega (arith, l1, o1)))
    part
    (λ inputs h n.
    let from = sources_of c.code inputs in
    let steps = steps_of c.code in
    let fit = sources_fit c.code c.inputs c.values ready.laid inputs h in
    let r = branches c k (seen_span holds) (seen_span fails) in
    arguments_all c.code from c.inputs c.values fit (k ∷ []) c.turns n (r.go inputs) all
    ∙ ap (λ x. then_do (either x (run_span (range from steps) (seen_span holds)) (run_span (range from steps) (seen_span fails)) (state_at c c.turns n)) (range from steps fails.end c.end)) is
    ∙ ap (λ o. then_do o (range from steps fails.end c.end)) (branch_by c k holds fails b side (λ e. which ∙ ap (λ x. if x then holds else fails) e) (λ e. which ∙ ap (λ x. if x then holds else fails) e) from (state_at c c.turns n)))
    (omega (arith, small))

-- ---- loops and calls

loop_of : (c : Configuration) (tested : Bool) (l : LoopOp) → At c (S.Loop tested l.condition (seen_span l.test) (seen_span l.body) (seen_span l.step)) → IsLoop c.code c.inputs l c.end
loop_of c tested l a =
    let step = S.Loop tested l.condition (seen_span l.test) (seen_span l.body) (seen_span l.step) in
    let ready = a.ready in
    let nest = (valid_nested c.code ready.laid.valid).each c.at step a.op in
    let reach : l.step.end ≤ c.end = ready.here.closed.ends c.at step (omega arith) a.inside a.op in
    let int = step_fits c.code ready.laid.valid c.at step a.op in
    let later = nest.2.later in let ordered = nest.2.ordered in
    record {
      test = inner_part c.code c.inputs c.at c.end l.step.end (seen_span l.test) ready.here reach nest.0;
      body = inner_part c.code c.inputs c.at c.end l.step.end (seen_span l.body) ready.here reach nest.1;
      step = inner_part c.code c.inputs c.at c.end l.step.end (seen_span l.step) ready.here reach nest.2;
      rest = later_part c.code c.inputs c.at c.end l.step.end ready.here (omega (arith, later, ordered));
      number = int.0;
      condition = int.1;
    }

pub loop_tested : (c : Configuration) (l : LoopOp) → At c (S.Loop true l.condition (seen_span l.test) (seen_span l.body) (seen_span l.step))
    → Advances one_op c (record c { frames = c.frames ++ Test l c.end ∷ []; at = l.test.start; end = l.test.end })
loop_tested c l a =
    let step = S.Loop true l.condition (seen_span l.test) (seen_span l.body) (seen_span l.step) in
    let is = loop_of c true l a in
    let nest = (valid_nested c.code a.ready.laid.valid).each c.at step a.op in
    let reach : l.step.end ≤ c.end = a.ready.here.closed.ends c.at step (omega arith) a.inside a.op in
    let l0 = nest.0.later in let w0 = nest.0.within in let l2 = nest.2.later in let o2 = nest.2.ordered in
    entered c step c.turns (Test l c.end) l.test.start l.test.end a.ready a.runs a.inside a.op is is.test
    (λ inputs h n. ap (λ o. then_do o (behind (sources_of c.code inputs) (steps_of c.code) l c.end)) (test_first (sources_of c.code inputs) (steps_of c.code) l (state_at c c.turns n)))
    (omega (arith, reach, l0, w0, l2, o2))

turn_pays : (size turns more : ℕ) → more ≡ turns + 1 → size * more ≡ size * turns + size
turn_pays size turns more is = ap (λ x. size * x) is ∙ omega arith

pub loop_turned : (c : Configuration) (l : LoopOp) (turns : ℕ) → At c (S.Loop false l.condition (seen_span l.test) (seen_span l.body) (seen_span l.step)) → c.turns ≡ turns + 1
    → Advances one_op c (record c { turns = turns; frames = c.frames ++ Body l c.end ∷ []; at = l.body.start; end = l.body.end })
loop_turned c l turns a more =
    let step = S.Loop false l.condition (seen_span l.test) (seen_span l.body) (seen_span l.step) in
    let is = loop_of c false l a in
    let nest = (valid_nested c.code a.ready.laid.valid).each c.at step a.op in
    let reach : l.step.end ≤ c.end = a.ready.here.closed.ends c.at step (omega arith) a.inside a.op in
    let l2 = nest.2.later in let o2 = nest.2.ordered in
    let k = turn_pays (turn_weight c.code) turns c.turns more in
    let t = is.test.within in let b = is.body.within in let s = is.step.within in
    entered c step turns (Body l c.end) l.body.start l.body.end a.ready a.runs a.inside a.op is is.body
    (λ inputs h n. ap (λ o. then_do o (behind (sources_of c.code inputs) (steps_of c.code) l c.end)) (turn_more (sources_of c.code inputs) (steps_of c.code) l c turns n more))
    (omega (arith, k, t, b, s, reach, l2, o2))

pub loop_spent : (c : Configuration) (l : LoopOp) → At c (S.Loop false l.condition (seen_span l.test) (seen_span l.body) (seen_span l.step)) → c.turns ≡ 0
    → (inputs : Inputs) → Fits inputs c.inputs c.values → (n : ℕ) → meaning inputs n c ≡ Spent (state_of (n + 1) c)
loop_spent c l a none inputs h n =
    let step = S.Loop false l.condition (seen_span l.test) (seen_span l.body) (seen_span l.step) in
    spent_by c step a inputs (state_of n c) (state_of (n + 1) c)
    (ap (λ o. then_do o (behind (sources_of c.code inputs) (steps_of c.code) l c.end)) (turn_none (sources_of c.code inputs) (steps_of c.code) l c (n + 1) none))

pub call_entered : (c : Configuration) (body : Span) → At c (S.Call (seen_span body))
    → Advances one_op c (record c { frames = c.frames ++ Called (record { start = body.end; end = c.end }) ∷ []; at = body.start; end = body.end })
call_entered c body a =
    let step = S.Call (seen_span body) in
    let nest = (valid_nested c.code a.ready.laid.valid).each c.at step a.op in
    let reach : body.end ≤ c.end = a.ready.here.closed.ends c.at step (omega arith) a.inside a.op in
    let later = nest.later in let ordered = nest.ordered in
    entered c step c.turns (Called (record { start = body.end; end = c.end })) body.start body.end a.ready a.runs a.inside a.op
    (later_part c.code c.inputs c.at c.end body.end a.ready.here (omega (arith, later, ordered)))
    (inner_part c.code c.inputs c.at c.end body.end (seen_span body) a.ready.here reach nest)
    (λ inputs h n. refl)
    (omega (arith, reach, later, ordered))

-- ---- ways out

pub mode_left : (c : Configuration) (way : S.Way) (mode : Mode) → At c (S.Leave way)
    → ((from : Sources) (steps : List S.Step) (s : State) → now from steps mode c.at c.end s ≡ Jumps way s) → here mode c.at c.end ≡ 0
    → Advances one_op c (record c { mode = mode })
mode_left c way mode a is none =
    let weighs : here c.mode c.at c.end ≡ 2 * (c.end - c.at) = ap (λ y. here y c.at c.end) a.runs in
    moved one_op c c.turns c.frames mode c.at c.end a.ready a.ready.here a.ready.frames
    (λ inputs h n.
    let from = sources_of c.code inputs in
    let steps = steps_of c.code in
    ap (resume from steps c.frames) (is from steps (state_at c c.turns (n + 1)) ∙ sym (by_op inputs c (S.Leave way) a.ready a.runs a.inside a.op (state_of n c))))
    (omega (arith, weighs, none, a.inside))

pub exit_left : (c : Configuration) → At c (S.Leave S.Exit) → (inputs : Inputs) → Fits inputs c.inputs c.values → (n : ℕ) → EndsAs (meaning inputs n c) (state_of (n + 1) c)
exit_left c a inputs h n =
    let from = sources_of c.code inputs in
    let steps = steps_of c.code in
    subst (λ o. EndsAs o (state_of (n + 1) c)) (sym (comes_by c (S.Leave S.Exit) a inputs (state_of n c) ∙ ap (λ o. then_do o (later_sections inputs c.code c.section)) (resume_exit from steps c.frames (state_of (n + 1) c)))) refl

-- ---- operations with a value

-- what is known of an input that is not connected says nothing of a value
unwired_fits : (input : Input) (v w : AnyValue) (o : Option Known) → is_wired o ≡ false → FitsAt input v o → FitsAt input w o
unwired_fits input v w None not h = h
unwired_fits input v w (Some K.Default) not h = h
unwired_fits input v w (Some K.Fixed) not h = h
unwired_fits input v w (Some K.Waiting) not h = h
unwired_fits input v w (Some K.Given) not h = absurd (cc not)
unwired_fits input v w (Some K.Nothing) not h = h

written_fits : (inputs : Inputs) (known : List Known) (vs : List AnyValue) (target : ℕ) (v : AnyValue) → is_wired_at known target ≡ false → Fits inputs known vs → Fits inputs known (slice_set vs target v)
written_fits inputs known vs target v not h =
    record {
      each = λ k. ⊎_elim (λ (e : k ≡ target). unwired_fits (inputs k) (argument vs k) (argument (slice_set vs target v) k) (slice_get known k) (ap (is_wired_at known) e ∙ not) (h.each k)) (λ (ne : k ≢ target). subst (λ w. FitsAt (inputs k) w (slice_get known k)) (sym (keep_argument vs target v k ne)) (h.each k)) (cases_eq k target);
    }

written_laid : (code : Raw) (known : List Known) (vs : List AnyValue) (target : ℕ) (v : AnyValue) → target < length code.symbols → type_of v ≡ type_at code.symbols target → IsLaid code known vs → IsLaid code known (slice_set vs target v)
written_laid code known vs target v lt ty laid =
    let s = laid.slots in
    record {
      valid = laid.valid;
      parameters = laid.parameters;
      no_output = laid.no_output;
      slots = length-set vs target v ∙ laid.slots;
      types = λ k below. ⊎_elim (λ (e : k ≡ target). ap type_of (put_argument vs target v k (omega (arith, lt, s)) e) ∙ ty ∙ ap (type_at code.symbols) (sym e)) (λ (ne : k ≢ target). ap type_of (keep_argument vs target v k ne) ∙ laid.types k below) (cases_eq k target);
    }

-- the types of symbols that are read
pub types_held : (code : Raw) (known : List Known) (vs : List AnyValue) (ks : List ℕ) → IsLaid code known vs → AllBelow (length code.symbols) ks → map type_of (map (argument vs) ks) ≡ map (type_at code.symbols) ks
types_held code known vs [] laid below = refl
types_held code known vs (k ∷ ks) laid below = λ i. laid.types k below.0 i ∷ types_held code known vs ks laid below.1 i

put_held : (code : Raw) (known : List Known) (vs : List AnyValue) (target : ℕ) (v : AnyValue) → target < length vs → is_wired_at known target ≡ false → (k : ℕ) → put target v (held_values code known vs) k ≡ held_values code known (slice_set vs target v) k
unfolding put
put_held code known vs target v lt not k = by (nat_eq k target) refl
  where
    by : (b : Bool) → nat_eq k target ≡ b → (if b then v else held_values code known vs k) ≡ held_values code known (slice_set vs target v) k
    by true e =
        let is = eqb-true k target e in
        sym (ap (λ b. if b then zero_value (type_at code.symbols k) else argument (slice_set vs target v) k) (ap (is_wired_at known) is ∙ not) ∙ put_argument vs target v k lt is)
    by false e = ap (λ w. if is_wired_at known k then zero_value (type_at code.symbols k) else w) (sym (keep_argument vs target v k (eqb-false k target e)))

-- an operation was executed
pub computed : (c : Configuration) (name : OpName) (ty : Ty) (target : ℕ) (sources : List ℕ) (v : AnyValue) → At c (S.Compute name ty target sources) → met c.inputs sources ≡ T.All → v ≡ apply name ty (map (argument c.values) sources)
    → Advances one_op c (record c { values = slice_set c.values target v; at = c.at + 1 })
computed c name ty target sources v a all is =
    let step = S.Compute name ty target sources in
    let laid = a.ready.laid in
    let ops = step_fits c.code laid.valid c.at step a.op in
    let s = laid.slots in
    let n0 = ops.number in
    let spared = a.ready.here.spares c.at step (omega arith) a.inside a.op in
    let there : target < length c.values = omega (arith, n0, s) in
    let typed = ap type_of is ∙ writes_its_type name ty (map (argument c.values) sources) (ap (is_allowed name ty) (types_held c.code c.inputs c.values sources laid ops.numbers) ∙ ops.allowed) ∙ ops.type_is in
    let weighs : here c.mode c.at c.end ≡ 2 * (c.end - c.at) = ap (λ y. here y c.at c.end) a.runs in
    let after : here c.mode (c.at + 1) c.end ≡ 2 * (c.end - (c.at + 1)) = ap (λ y. here y (c.at + 1) c.end) a.runs in
    record {
      ready = record {
        laid = written_laid c.code c.inputs c.values target v n0 typed laid;
        here = later_part c.code c.inputs c.at c.end (c.at + 1) a.ready.here (omega arith);
        frames = a.ready.frames;
      };
      code = refl;
      inputs_stay = refl;
      fits = λ inputs h. written_fits inputs c.inputs c.values target v spared h;
      same = λ inputs h n.
          let from = sources_of c.code inputs in
          let steps = steps_of c.code in
          let fit = sources_fit c.code c.inputs c.values laid inputs h in
          let r = computes c name ty target sources in
          ap (λ o. then_do (resume from steps c.frames o) (later_sections inputs c.code c.section))
          (ap (λ y. now from steps y (c.at + 1) c.end (state_of (n + 1) (record c { values = slice_set c.values target v; at = c.at + 1 }))) a.runs
          ∙ (λ j. range from steps (c.at + 1) c.end (record { values = λ k. sym (put_held c.code c.inputs c.values target v there spared k) j; turns = c.turns; reads = given_reads c.inputs; ops = n + 1 }))
          ∙ ap (λ x. range from steps (c.at + 1) c.end (write target x (state_at c c.turns (n + 1)))) is
          ∙ sym (arguments_all c.code from c.inputs c.values fit sources c.turns (n + 1) (r.go inputs) all))
          ∙ sym (comes_by c step a inputs (state_of n c));
      less = omega (arith, weighs, after, a.inside);
    }

-- what an execution asks for
pub record Executes (slots : List Slot) (name : OpName) (target : ℕ) (sources : List ℕ) : Type 0 where
  pub target_there : target < length slots
  pub places : AllBelow (length slots) sources
  pub takes_them : IsTrue (takes name (type_of (held slots target)) (held_all slots sources))
  pub updates_first : UpdatesFirst name target sources

more_below : (m n : ℕ) (ks : List ℕ) → m ≤ n → AllBelow m ks → AllBelow n ks
more_below m n [] le h = tt
more_below m n (k ∷ ks) le h = let lt = h.0 in (omega (arith, le, lt), more_below m n ks le h.1)

pub executes : (m : Machine) (name : OpName) (ty : Ty) (target : ℕ) (sources : List ℕ) → At (configuration m) (S.Compute name ty target sources) → Executes m.slots.items name target sources
executes m name ty target sources a =
    let c = configuration m in
    let laid = a.ready.laid in
    let ops = step_fits c.code laid.valid c.at (S.Compute name ty target sources) a.op in
    let s = laid.slots in let l = length_values m.slots.items in let n = ops.number in
    record {
      target_there = omega (arith, n, s, l);
      places = more_below (length c.code.symbols) (length m.slots.items) sources (omega (arith, s, l)) ops.numbers;
      takes_them =
          ap (λ t. is_allowed name t (map type_of (held_all m.slots.items sources))) (laid.types target n ∙ sym ops.type_is)
          ∙ ap (is_allowed name ty) (types_held c.code c.inputs c.values sources laid ops.numbers)
          ∙ ops.allowed;
      updates_first = ops.first;
    }

-- an operation was executed on the slots
pub executed : (m : Machine) (name : OpName) (ty : Ty) (target : ℕ) (sources : List ℕ) (slots : List Slot) → At (configuration m) (S.Compute name ty target sources) → met m.inputs.items sources ≡ T.All
    → values slots ≡ slice_set (values m.slots.items) target (apply name (type_of (held m.slots.items target)) (held_all m.slots.items sources))
    → Advances one_op (configuration m) (record (configuration m) { values = values slots; at = m.at + 1 })
executed m name ty target sources slots a all is =
    let c = configuration m in
    let laid = a.ready.laid in
    let ops = step_fits c.code laid.valid c.at (S.Compute name ty target sources) a.op in
    subst (λ vs. Advances one_op c (record c { values = vs; at = c.at + 1 })) (sym is)
    (computed c name ty target sources (apply name (type_of (held m.slots.items target)) (held_all m.slots.items sources)) a all
    (ap (λ t. apply name t (held_all m.slots.items sources)) (laid.types target ops.number ∙ sym ops.type_is)))

-- as many slots as before
pub as_many : (m : Machine) (target : ℕ) (v : AnyValue) (slots : List Slot) (n : ℕ) → n ≡ length m.slots.items → values slots ≡ slice_set (values m.slots.items) target v → length slots ≡ n
as_many m target v slots n len is =
    let a = ap length is in let b = length-set (values m.slots.items) target v in
    let l = length_values m.slots.items in let k = length_values slots in
    omega (arith, a, b, l, k, len)

pub condition_int : (c : Configuration) (k : ℕ) (holds fails : S.Span) → At c (S.Branch k holds fails) → IsInt c.code.symbols k
condition_int c k holds fails a = step_fits c.code a.ready.laid.valid c.at (S.Branch k holds fails) a.op

-- the step of an op that is read
pub step_read : (code : Raw) (at : ℕ) (ops : List Op) (op : Op) (step : S.Step) → ops ≡ code.ops → at < length ops → op ≡ get_or ops at op → step ≡ step_of code.symbols at op → slice_get (steps_of code) at ≡ Some step
step_read code at ops op step same lt is by =
    let here = ap (λ l. slice_get l at) (sym same) ∙ slice_get_read ops (length ops) at op refl lt is in
    step_at code at op here ∙ ap Some (sym by)

pub op_there : (code : Raw) (at e : ℕ) (ops : List Op) → ops ≡ code.ops → at < e → e ≤ length (steps_of code) → at < length ops
op_there code at e ops same lt le = let h = length_steps code.symbols 0 code.ops in let s = ap length same in omega (arith, h, s, lt, le)
