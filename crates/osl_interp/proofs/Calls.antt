-- The calls on a run: what it is after each, and what callers then see.
use Rattle.std.proofs.Common.{◌≡◌, ◌≢◌, ℕ, ◌+◌, ◌-◌, ◌≤◌, ⊎_elim, List, length, Option, Some, None, true, refl, sym, ap, ◌∙◌, subst, arith}
use Rattle.std.specs.Prelude.{slice_get, slice_set}
use Rattle.std.proofs.lemmas.Bool.{cases_eq}
use Rattle.std.proofs.lemmas.Option.{slice_get_within}
use Rattle.osl_value.specs.AnyValue.{AnyValue, type_of}
use Rattle.osl_value.specs.Plain.{Plain}
use Rattle.osl_apply.specs.declared.slot.Slot.{Slot}
use Rattle.osl_apply.specs.Operands.{values}
use Rattle.osl_layer.specs.Layer as L
use Rattle.oso_code.specs.CodeRun.{code_run, ops_run, layer_end, results_by, outputs_from, closure_from}
use Rattle.oso_code.specs.Ops.{type_at}
use Rattle.oso_code.specs.Run.{State, Outcome, Spent, note, last}
use Rattle.osl_interp.specs.Advances.{Asks}
use Rattle.osl_interp.specs.Calls.{MayGo, GoDone, gave}
use Rattle.osl_interp.specs.Calls as Called
use Rattle.osl_interp.specs.Known.{Fits}
use Rattle.osl_interp.specs.Meaning.{Configuration, configuration, held_values, state_of, meaning, pending}
use Rattle.osl_interp.specs.Progress.{Progress, AgreesAt, Agrees, given_reads, IsWithin, IsOver, IsAtRead, StopSound, outputs_of, closure_of}
use Rattle.osl_interp.specs.Ready.{IsLaid}
use Rattle.osl_interp.specs.Stops.{Goes, Finishes, Fails, Counted, EndDone, AreKept, KeptAt}
use Rattle.osl_interp.specs.View.{Plan, seen_known, seen_knowns, supposed_at, supposed, supposed_ops, progress_of, Follows, IsFinished, Holds, IsRunOf, plan_of, progress, IsRun}
use Rattle.osl_interp.specs.declared.known.Known.{Known}
use Rattle.osl_interp.specs.declared.layer_run.LayerRun.TheInside.{Inside}
use Rattle.osl_interp.specs.declared.layer_run.Status.{Status}
use Rattle.osl_interp.specs.declared.layer_run.Status.TheVariants.{Fresh, Resumed, Stopped, Lost}
use Rattle.osl_interp.specs.declared.stop.LayerStop.{LayerStop}
use Rattle.osl_interp.specs.declared.stop.LayerStop.TheVariants.{Done, Needs}
use Rattle.osl_interp.specs.declared.stop.LayerStop.TheVariants as P
use Rattle.osl_interp.proofs.Agreeing.{agrees_fits, reads_same, waits_seen, supposed_agrees, knowns_stay, knowns_given, set_back}
use Rattle.osl_interp.proofs.Giving.{GivenAs, Gives, after, after_ready, after_same, asked_slot, set_here, set_apart}
use Rattle.osl_interp.proofs.Keeping.{comes_lasts, reads_last, asked_reads, asked_ops, ended_last, ended_given}
use Rattle.osl_interp.proofs.Laying.{put_argument, keep_argument}

-- ---- the whole run, by what a machine that follows it comes to

module _ (plan : Plan) (c : Configuration) (n : ℕ) (f : Follows plan c n) (inputs : L.Inputs) (h : Agrees inputs (seen_knowns plan.fixed c)) where
  fitting : Fits inputs c.inputs c.values
  fitting = agrees_fits plan.fixed c inputs h

  whole_counts : ops_run plan.code inputs plan.point plan.budget ≡ (last (meaning inputs n c)).ops
  unfolding ops_run
  whole_counts = ap (λ o. (last o).ops) (sym (f.comes inputs h))

  whole_reads : (code_run plan.code inputs plan.point plan.budget).reads ≡ (last (meaning inputs n c)).reads
  unfolding code_run
  whole_reads = ap (λ o. (last o).reads) (sym (f.comes inputs h))

  whole_gives : (code_run plan.code inputs plan.point plan.budget).results ≡ (layer_end plan.code (meaning inputs n c)).results
  unfolding code_run
  whole_gives = ap (λ (o : Outcome). (layer_end plan.code o).results) (sym (f.comes inputs h))

  whole_is : (given : Option L.LayerResults) → (layer_end plan.code (meaning inputs n c)).results ≡ given → (last (meaning inputs n c)).reads ≡ given_reads (seen_knowns plan.fixed c)
      → code_run plan.code inputs plan.point plan.budget ≡ record { results = given; reads = given_reads (seen_knowns plan.fixed c) }
  unfolding code_run
  whole_is given gives reads = λ i. record { results = (whole_gives ∙ gives) i; reads = (whole_reads ∙ reads) i }

  -- what was read stays read, and what was counted is counted
  read_so_far : (k : ℕ) → given_reads (seen_knowns plan.fixed c) k ≡ true → (code_run plan.code inputs plan.point plan.budget).reads k ≡ true
  read_so_far k read =
      (λ i. whole_reads i k)
      ∙ comes_lasts (λ s. s.reads k ≡ true) (reads_last k) inputs c (state_of n c) ((λ i. reads_same plan.fixed c i k) ∙ read)

  counted_so_far : n ≤ ops_run plan.code inputs plan.point plan.budget
  counted_so_far = let le = asked_ops inputs c n in let e = whole_counts in omega (arith, le, e)

pub within : (plan : Plan) (c : Configuration) (status : Status) (n : ℕ) → Follows plan c n → (progress_of plan c status).ops ≡ n → IsWithin (progress_of plan c status)
within plan c status n f is =
    record {
      reads = λ inputs h. read_so_far plan c n f inputs h;
      ops = λ inputs h. let le = counted_so_far plan c n f inputs h in omega (arith, le, is);
    }

-- ---- a run that may go on

pub may_follow : (plan : Plan) (c : Configuration) (slots : List Slot) (status : Status) → MayGo status → Holds plan c slots status → Follows plan c (progress_of plan c status).ops
may_follow plan c slots Fresh may h = h
may_follow plan c slots (Resumed param) may h = h
may_follow plan c slots (Stopped stop) may h = absurd may
may_follow plan c slots Lost may h = absurd may

pub counted : (plan : Plan) (c : Configuration) (status : Status) (a b : ℕ) → Follows plan c (progress_of plan c status).ops → Counted c a b → Called.Counted (progress_of plan c status) a b
counted plan c status a b f k =
    record {
      grows = k.grows;
      within = λ inputs h.
          let n = (progress_of plan c status).ops in
          let le = k.within inputs (fitting plan c n f inputs h) n in
          let e = whole_counts plan c n f inputs h in
          omega (arith, le, e);
    }

-- it is over, in a state or spent
module _ (plan : Plan) (c d : Configuration) (n m : ℕ) (f : Follows plan c n) (stay : seen_knowns plan.fixed d ≡ seen_knowns plan.fixed c) (given : Option L.LayerResults)
    (ends : (inputs : L.Inputs) → Fits inputs c.inputs c.values → ((layer_end plan.code (meaning inputs n c)).results ≡ given) × (last (meaning inputs n c) ≡ state_of m d)) where
  before : (inputs : L.Inputs) → Agrees inputs (seen_knowns plan.fixed d) → Agrees inputs (seen_knowns plan.fixed c)
  before inputs h = subst (Agrees inputs) stay h

  over_ops : (inputs : L.Inputs) → Agrees inputs (seen_knowns plan.fixed d) → ops_run plan.code inputs plan.point plan.budget ≡ m
  over_ops inputs h =
      let old = before inputs h in
      whole_counts plan c n f inputs old ∙ ap (λ s. s.ops) (ends inputs (fitting plan c n f inputs old)).1

  over_count : supposed_ops plan.code plan.point plan.budget (seen_knowns plan.fixed d) ≡ m
  over_count = over_ops (supposed (seen_knowns plan.fixed d)) (supposed_agrees (seen_knowns plan.fixed d))

  over_is : (inputs : L.Inputs) → Agrees inputs (seen_knowns plan.fixed d) → code_run plan.code inputs plan.point plan.budget ≡ record { results = given; reads = given_reads (seen_knowns plan.fixed d) }
  over_is inputs h =
      let old = before inputs h in
      let e = ends inputs (fitting plan c n f inputs old) in
      whole_is plan c n f inputs old given e.0 (ap (λ s. s.reads) e.1 ∙ reads_same plan.fixed d ∙ ap given_reads stay)
      ∙ ap (λ l. record { results = given; reads = given_reads l }) (sym stay)

-- ---- go

module _ (plan : Plan) (c d : Configuration) (slots : List Slot) (status : Status) (a b : ℕ) (f : Follows plan c (progress_of plan c status).ops) where
  abbrev old : Progress
  old = progress_of plan c status

  abbrev so_far : ℕ
  so_far = old.ops + (b - a)

  pub record Went (stop : LayerStop) : Type 0 where
    pub run : IsRunOf plan d slots (Stopped stop)
    pub done : GoDone old (progress_of plan d (Stopped stop)) a b stop

  went : (stop : LayerStop) → seen_knowns plan.fixed d ≡ seen_knowns plan.fixed c → a ≤ b → (progress_of plan d (Stopped stop)).ops ≡ so_far → StopSound (progress_of plan d (Stopped stop)) stop → Holds plan d slots (Stopped stop) → Went stop
  went stop stay grows count sound holds =
      record {
        run = record { sound = sound; holds = holds };
        done = record { code = refl; point = refl; budget = refl; known = stay; status = refl; ops = omega (arith, count, grows); sound = sound };
      }

  goes_done : Finishes c d a b → AreKept d.code.symbols slots → Went Done
  goes_done h kept =
      let stay = knowns_stay plan.fixed c d h.inputs_stay h.fits in
      let is : d.code ≡ plan.code = h.code ∙ f.code in
      let results : L.LayerResults = results_by plan.code (record (state_of 0 d) { values = held_values plan.code d.inputs d.values }) in
      let same : (code : _) → d.code ≡ code → results_by code (state_of so_far d) ≡ results_by code (record (state_of 0 d) { values = held_values code d.inputs d.values }) = λ code e. ap (λ x. results_by code (record (state_of 0 d) { values = held_values x d.inputs d.values })) e in
      let ends : (inputs : L.Inputs) → Fits inputs c.inputs c.values → ((layer_end plan.code (meaning inputs old.ops c)).results ≡ Some results) × (last (meaning inputs old.ops c) ≡ state_of so_far d) = λ inputs fits.
      (ended_given plan.code (meaning inputs old.ops c) (state_of so_far d) (h.ends inputs fits old.ops) ∙ ap Some (same plan.code is), ended_last (meaning inputs old.ops c) (state_of so_far d) (h.ends inputs fits old.ops)) in
      let count = over_count plan c d old.ops so_far f stay (Some results) ends in
      let over : IsOver (progress_of plan d (Stopped Done)) = record {
        ends = over_is plan c d old.ops so_far f stay (Some results) ends;
        ops = λ inputs agrees. over_ops plan c d old.ops so_far f stay (Some results) ends inputs agrees ∙ sym count;
      } in
      went Done stay h.grows count (over, refl)
      (record { code = is; laid = subst (λ code. IsLaid code d.inputs d.values) is h.laid; kept = subst (λ (x : _). AreKept x slots) (ap (λ x. x.symbols) is) kept })

  goes_spent : Fails c d a b → Went P.Spent
  goes_spent h =
      let stay = knowns_stay plan.fixed c d h.inputs_stay h.fits in
      let ends : (inputs : L.Inputs) → Fits inputs c.inputs c.values → ((layer_end plan.code (meaning inputs old.ops c)).results ≡ None) × (last (meaning inputs old.ops c) ≡ state_of so_far d) = λ inputs fits.
      (ap (λ (o : Outcome). (layer_end plan.code o).results) (h.ends inputs fits old.ops), ap last (h.ends inputs fits old.ops)) in
      let count = over_count plan c d old.ops so_far f stay None ends in
      let over : IsOver (progress_of plan d (Stopped P.Spent)) = record {
        ends = over_is plan c d old.ops so_far f stay None ends;
        ops = λ inputs agrees. over_ops plan c d old.ops so_far f stay None ends inputs agrees ∙ sym count;
      } in
      went P.Spent stay h.grows count (over, refl) tt

  module _ (p : ℕ) (g : Goes c d a b) (asks : Asks d p) where
    stays : seen_knowns plan.fixed d ≡ seen_knowns plan.fixed c
    stays = knowns_stay plan.fixed c d g.inputs_stay g.fits

    follows : Follows plan d so_far
    follows = record {
      code = g.code ∙ f.code;
      ready = g.ready;
      comes = λ inputs h.
          let agrees = subst (Agrees inputs) stays h in
          g.same inputs (fitting plan c old.ops f inputs agrees) old.ops ∙ f.comes inputs agrees;
    }

    waits : slice_get (seen_knowns plan.fixed d) p ≡ Some None
    waits = waits_seen plan.fixed d p asks.waits

    stopped : (inputs : L.Inputs) → Agrees inputs (seen_knowns plan.fixed d) → inputs p ≡ L.From None → (t : State) × (meaning inputs so_far d ≡ Spent (note p t)) × (t.ops ≡ so_far + pending d)
    stopped inputs h none = asks.stops inputs (fitting plan d so_far follows inputs h) none (state_of so_far d)

    count_needs : supposed_ops plan.code plan.point plan.budget (seen_knowns plan.fixed d) - pending d ≡ so_far
    count_needs =
        let inputs = supposed (seen_knowns plan.fixed d) in
        let agrees = supposed_agrees (seen_knowns plan.fixed d) in
        let t = stopped inputs agrees (ap supposed_at waits) in
        let e = whole_counts plan d so_far follows inputs agrees ∙ ap (λ o. (last o).ops) t.1 in
        let q = t.2 in
        omega (arith, e, q)

    goes_needs : Went (Needs p)
    goes_needs =
        let read : IsAtRead (progress_of plan d (Stopped (Needs p))) p = record {
          waits = waits;
          reads = λ inputs h. (λ i. whole_reads plan d so_far follows inputs h i p) ∙ asked_reads inputs d p so_far asks (fitting plan d so_far follows inputs h);
          stops = λ inputs h none. whole_gives plan d so_far follows inputs h ∙ ap (λ (o : Outcome). (layer_end plan.code o).results) (stopped inputs h none).1;
        } in
        went (Needs p) stays g.grows count_needs (within plan d (Stopped (Needs p)) so_far follows count_needs, read)
        (subst (Follows plan d) (sym count_needs) follows, asks)

  pub goes : (stop : LayerStop) → EndDone c d a b stop → KeptAt stop d.code.symbols slots → Went stop
  goes Done h kept = goes_done h kept
  goes P.Spent h kept = goes_spent h
  goes (Needs p) h kept = goes_needs p h.0 h.1

-- ---- give

seen_given : (given : Option AnyValue) (known : Known) (w : AnyValue) (f : Option (Option Plain)) → GivenAs given known w → seen_known known w f ≡ Some (L.From given)
seen_given None known w f h = ap (λ k. seen_known k w f) h
seen_given (Some v) known w f h = ap (λ k. seen_known k w f) h.0 ∙ ap (λ x. Some (L.From (Some x))) h.1

-- fewer inputs agree once a parameter that waited was given
pub agreed_before : (inputs : L.Inputs) (known : List (Option L.Input)) (p : ℕ) (given : Option AnyValue) → slice_get known p ≡ Some None → Agrees inputs (slice_set known p (Some (L.From given))) → Agrees inputs known × (inputs p ≡ L.From given)
agreed_before inputs known p given waits h =
    let is : inputs p ≡ L.From given = subst (AgreesAt (inputs p)) (set_here known p (Some (L.From given)) (slice_get_within known p None waits)) (h.each p) in (
      record {
        each = λ k. ⊎_elim (λ (e : k ≡ p). subst (λ j. AgreesAt (inputs j) (slice_get known j)) (sym e) (subst (AgreesAt (inputs p)) (sym waits) (given, is))) (λ (ne : k ≢ p). subst (AgreesAt (inputs k)) (set_apart known p k (Some (L.From given)) ne) (h.each k)) (cases_eq k p);
      },
      is,
    )

pub agrees_after : (inputs : L.Inputs) (known : List (Option L.Input)) (p : ℕ) (given : Option AnyValue) → slice_get known p ≡ Some None → Agrees inputs known → inputs p ≡ L.From given → Agrees inputs (slice_set known p (Some (L.From given)))
agrees_after inputs known p given waits h is =
    record {
      each = λ k. ⊎_elim (λ (e : k ≡ p). subst (λ j. AgreesAt (inputs j) (slice_get (slice_set known p (Some (L.From given))) j)) (sym e) (subst (AgreesAt (inputs p)) (sym (set_here known p (Some (L.From given)) (slice_get_within known p None waits))) is)) (λ (ne : k ≢ p). subst (AgreesAt (inputs k)) (sym (set_apart known p k (Some (L.From given)) ne)) (h.each k)) (cases_eq k p);
    }

module _ (plan : Plan) (c : Configuration) (slots : List Slot) (p : ℕ) (holds : Holds plan c slots (Stopped (Needs p))) (given : Option AnyValue) (known : Known) (w : AnyValue)
    (as_given : GivenAs given known w) (typed : type_of w ≡ type_at plan.code.symbols p) where
  abbrev pub asking : Progress
  asking = progress_of plan c (Stopped (Needs p))

  pub gives : Gives c p given known w
  gives = record { ready = holds.0.ready; asks = holds.1; given_as = as_given; typed = typed ∙ ap (λ code. type_at code.symbols p) (sym holds.0.code) }

  abbrev pub new : Configuration
  new = after c p given known w gives

  knows : seen_knowns plan.fixed new ≡ slice_set asking.known p (Some (L.From given))
  knows =
      knowns_given plan.fixed c new p known refl (λ j ne. keep_argument c.values p w j ne)
      ∙ ap (λ x. slice_set asking.known p x) (ap (λ v. seen_known known v (slice_get plan.fixed p)) (put_argument c.values p w p (asked_slot c p holds.0.ready holds.1 (length c.values) refl) refl) ∙ seen_given given known w (slice_get plan.fixed p) as_given)

  counts : (progress_of plan new (Resumed p)).ops ≡ asking.ops
  counts = ap (λ l. supposed_ops plan.code plan.point plan.budget l - pending c) (ap (λ l. slice_set l p None) knows ∙ set_back asking.known p (Some (L.From given)) None (waits_seen plan.fixed c p holds.1.waits))

  pub seen_gave : progress_of plan new (Resumed p) ≡ gave asking p given
  seen_gave = λ i. record { code = plan.code; point = plan.point; budget = plan.budget; known = knows i; status = Resumed p; ops = counts i; results = None }

  resumes : Follows plan new (progress_of plan new (Resumed p)).ops
  resumes = subst (Follows plan new) (sym counts) (record {
    code = holds.0.code;
    ready = after_ready c p given known w gives;
    comes = λ inputs h.
        let agrees = (agreed_before inputs asking.known p given (waits_seen plan.fixed c p holds.1.waits) (subst (Agrees inputs) knows h)).0 in
        after_same c p given known w gives inputs (agrees_fits plan.fixed new inputs h) asking.ops ∙ holds.0.comes inputs agrees;
  })

  pub gave_run : (others : List Slot) → IsRunOf plan new others (Resumed p)
  gave_run others = record { sound = within plan new (Resumed p) (progress_of plan new (Resumed p)).ops resumes refl; holds = resumes }

-- ---- the fields of a run

module _ (r : Inside) (v : Progress) (is : progress r ≡ v) (run : IsRun r) where
  pub holds_at : (status : Status) → v.status ≡ status → Holds (plan_of r) (configuration r.machine) r.machine.slots.items status
  holds_at status e = subst (Holds (plan_of r) (configuration r.machine) r.machine.slots.items) (ap (λ (p : Progress). p.status) is ∙ e) run.holds

  pub status_is : (status : Status) → v.status ≡ status → r.status ≡ status
  status_is status e = ap (λ (p : Progress). p.status) is ∙ e

  pub may_go : MayGo v.status → Follows (plan_of r) (configuration r.machine) (progress r).ops
  may_go may = may_follow (plan_of r) (configuration r.machine) r.machine.slots.items r.status (subst MayGo (sym (ap (λ (p : Progress). p.status) is)) may) run.holds

  pub seen_as : (status : Status) → v.status ≡ status → progress_of (plan_of r) (configuration r.machine) status ≡ v
  seen_as status e = ap (progress_of (plan_of r) (configuration r.machine)) (sym (status_is status e)) ∙ is

  pub code_as : r.code.now ≡ v.code
  code_as = ap (λ (p : Progress). p.code) is

  -- it was given a parameter
  module _ (p : ℕ) (asks : v.status ≡ Stopped (Needs p)) (given : Option AnyValue) (known : Known) (w : AnyValue) (as_given : GivenAs given known w) (typed : type_of w ≡ type_at r.code.now.symbols p) where
    abbrev pub left : Configuration
    left = record (configuration r.machine) { inputs = slice_set (configuration r.machine).inputs p known; values = slice_set (configuration r.machine).values p w }

    pub given_run : (slots : List Slot) (d : Configuration) → d ≡ left → IsRunOf (plan_of r) d slots (Resumed p)
    given_run slots d there =
        subst (λ x. IsRunOf (plan_of r) x slots (Resumed p)) (sym there)
        (gave_run (plan_of r) (configuration r.machine) r.machine.slots.items p (holds_at (Stopped (Needs p)) asks) given known w as_given typed slots)

    pub given_seen : (d : Configuration) → d ≡ left → progress_of (plan_of r) d (Resumed p) ≡ gave v p given
    given_seen d there =
        ap (λ x. progress_of (plan_of r) x (Resumed p)) there
        ∙ seen_gave (plan_of r) (configuration r.machine) r.machine.slots.items p (holds_at (Stopped (Needs p)) asks) given known w as_given typed
        ∙ ap (λ x. gave x p given) (seen_as (Stopped (Needs p)) asks)

  -- it is done
  pub done_laid : v.status ≡ Stopped Done → IsFinished (plan_of r) (configuration r.machine) r.machine.slots.items
  done_laid e = holds_at (Stopped Done) e

  pub done_outputs : v.status ≡ Stopped Done → outputs_of v ≡ outputs_from 0 r.code.now.symbols (held_values r.code.now r.machine.inputs.items (values r.machine.slots.items))
  done_outputs e = ap outputs_of (sym (seen_as (Stopped Done) e))

  pub done_closure : v.status ≡ Stopped Done → closure_from 0 r.code.now.symbols (held_values r.code.now r.machine.inputs.items (values r.machine.slots.items)) ≡ closure_of v
  done_closure e = ap closure_of (seen_as (Stopped Done) e)
