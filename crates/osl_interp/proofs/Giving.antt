-- What is given to a run that asks for it, and what a run that is done holds.
use Rattle.std.proofs.Common.{◌≡◌, ◌≢◌, ℕ, suc, ◌+◌, ◌<◌, ◌≤◌, ⊎_elim, List, [], ◌∷◌, length, Option, Some, None, Bool, true, false, refl, sym, ap, ◌∙◌, subst, arith}
use Rattle.std.specs.Prelude.{slice_get, slice_set, nat_eq, nat_lt, if◌then◌else◌}
use Rattle.std.specs.Str.{bytes_eq}
use Rattle.std.proofs.Math.ListN.{length-set}
use Rattle.std.proofs.lemmas.Bool.{cases_eq, cases_lt, lt-ltb, eqb-true, eqb-false}
use Rattle.std.proofs.lemmas.Option.{slice_get_within, slice_get_past, slice_get-get_or}
use Rattle.std.proofs.lemmas.List.{get_or-set_same, get_or-set_other, set-get_or, map-set}
use Rattle.osl_apply.specs.declared.slot.Slot.{Slot}
use Rattle.osl_apply.specs.Slots.{seen}
use Rattle.osl_apply.specs.Operands.{values}
use Rattle.osl_value.specs.AnyValue.{AnyValue, Parts, argument, parts_of, type_of, zero_value}
use Rattle.osl_layer.specs.declared.global.GlobalName.TheVariants.{Ci}
use Rattle.osl_layer.specs.Globals.{global_text}
use Rattle.osl_layer.specs.Layer as L
use Rattle.oso_code.specs.declared.raw.Raw.{Raw}
use Rattle.oso_code.specs.declared.symbol.Symbol.{Symbol}
use Rattle.oso_code.specs.CodeRun.{is_parameter_at, is_ci, closure_from}
use Rattle.oso_code.specs.Ops.{type_at}
use Rattle.oso_code.specs.Run.{put, note}
use Rattle.oso_code.specs.Steps as S
use Rattle.oso_code.specs.Symbols.{is_global}
use Rattle.oso_code.proofs.Members.{and_both}
use Rattle.osl_interp.specs.Advances.{Asks}
use Rattle.osl_interp.specs.Known.{is_wired, is_wired_at, is_given, given_reads, FitsAt, Fits}
use Rattle.osl_interp.specs.Meaning.{Configuration, held_values, state_of, comes_from, meaning}
use Rattle.osl_interp.specs.Ready.{IsLaid, Spares, IsRange, IsLoop, IsFrame, AreFrames, Ready}
use Rattle.osl_interp.specs.declared.frame.Frame.{Frame}
use Rattle.osl_interp.specs.declared.frame.Frame.TheVariants.{Rest, Called, Test, Body, Step}
use Rattle.oso_step.specs.declared.step.LoopOp.{LoopOp}
use Rattle.osl_interp.specs.declared.known.Known.{Known}
use Rattle.osl_interp.specs.declared.known.Known.TheVariants as K
use Rattle.osl_interp.proofs.Laying.{put_argument, keep_argument}

-- ---- inputs that are connected as before

module _ (code : Raw) (old new : List Known) (same : (k : ℕ) → is_wired_at new k ≡ is_wired_at old k) where
  spares_again : (step : S.Step) → Spares old step → Spares new step
  spares_again (S.Compute name ty target sources) h = same target ∙ h
  spares_again (S.Branch c holds fails) h = tt
  spares_again (S.Loop tested c test body step) h = tt
  spares_again (S.Call body) h = tt
  spares_again (S.Leave way) h = tt

  range_again : (i e : ℕ) → IsRange code old i e → IsRange code new i e
  range_again i e r = record { closed = r.closed; within = r.within; spares = λ k step a b at. spares_again step (r.spares k step a b at) }

  loop_again : (l : LoopOp) (e : ℕ) → IsLoop code old l e → IsLoop code new l e
  loop_again l e h =
      record {
        test = range_again l.test.start l.test.end h.test;
        body = range_again l.body.start l.body.end h.body;
        step = range_again l.step.start l.step.end h.step;
        rest = range_again l.step.end e h.rest;
        number = h.number;
        condition = h.condition;
      }

  frame_again : (f : Frame) → IsFrame code old f → IsFrame code new f
  frame_again (Rest r) h = range_again r.start r.end h
  frame_again (Called r) h = range_again r.start r.end h
  frame_again (Test l e) h = loop_again l e h
  frame_again (Body l e) h = loop_again l e h
  frame_again (Step l e) h = loop_again l e h

  frames_again : (fs : List Frame) → AreFrames code old fs → AreFrames code new fs
  frames_again [] h = tt
  frames_again (f ∷ fs) h = (frame_again f h.0, frames_again fs h.1)

-- ---- a list with another element

pub set_here : {X : Type 0} (ks : List X) (p : ℕ) (x : X) → p < length ks → slice_get (slice_set ks p x) p ≡ Some x
set_here ks p x lt =
    let h = length-set ks p x in
    slice_get-get_or (slice_set ks p x) p x (omega (arith, h, lt)) ∙ ap Some (get_or-set_same ks p x x lt)

pub set_apart : {X : Type 0} (ks : List X) (p k : ℕ) (x : X) → k ≢ p → slice_get (slice_set ks p x) k ≡ slice_get ks k
set_apart ks p k x ne =
    let h = length-set ks p x in
    ⊎_elim (λ (lt : k < length ks). slice_get-get_or (slice_set ks p x) k x (omega (arith, h, lt)) ∙ ap Some (get_or-set_other ks p k x x ne) ∙ sym (slice_get-get_or ks k x lt)) (λ (le : length ks ≤ k). slice_get_past (slice_set ks p x) k (omega (arith, h, le)) ∙ sym (slice_get_past ks k le)) (cases_lt k (length ks))

-- a parameter that waits is a symbol
asked_symbol : (c : Configuration) (p : ℕ) → Ready c → slice_get c.inputs p ≡ Some K.Waiting → p < length c.code.symbols
asked_symbol c p ready waits = ⊎_elim (λ (lt : p < length c.code.symbols). lt) (λ (le : length c.code.symbols ≤ p). absurd (beyond le)) (cases_lt p (length c.code.symbols))
  where
    beyond : length c.code.symbols ≤ p → ⊥
    beyond le =
        let a = ap is_parameter_at (slice_get_past c.code.symbols p le) in
        let b = ready.laid.parameters p in
        let d = lt-ltb p (length c.inputs) (slice_get_within c.inputs p K.Waiting waits) in
        let q = sym a ∙ b ∙ d in cc q

-- ---- what is given

-- what is then known of the input, and what its slot holds
abbrev pub GivenAs : Option AnyValue → Known → AnyValue → Type 0
GivenAs None known w = known ≡ K.Nothing
GivenAs (Some v) known w = (known ≡ K.Given) × (w ≡ v)

given_wired : (given : Option AnyValue) (known : Known) (w : AnyValue) → GivenAs given known w → is_wired (Some known) ≡ true
given_wired None known w h = ap (λ x. is_wired (Some x)) h
given_wired (Some v) known w h = ap (λ x. is_wired (Some x)) h.0

given_given : (given : Option AnyValue) (known : Known) (w : AnyValue) → GivenAs given known w → is_given (Some known) ≡ true
given_given None known w h = ap (λ x. is_given (Some x)) h
given_given (Some v) known w h = ap (λ x. is_given (Some x)) h.0

given_fits : (given : Option AnyValue) (known : Known) (w : AnyValue) (input : L.Input) → GivenAs given known w → input ≡ L.From given → FitsAt input w (Some known)
given_fits None known w input h is = subst (λ x. FitsAt input w (Some x)) (sym h) is
given_fits (Some v) known w input h is = subst (λ x. FitsAt input w (Some x)) (sym h.0) (is ∙ ap (λ x. L.From (Some x)) (sym h.1))

fits_given : (given : Option AnyValue) (known : Known) (w : AnyValue) (input : L.Input) → GivenAs given known w → FitsAt input w (Some known) → input ≡ L.From given
fits_given None known w input h f = subst (λ x. FitsAt input w (Some x)) h f
fits_given (Some v) known w input h f = subst (λ x. FitsAt input w (Some x)) h.0 f ∙ ap (λ x. L.From (Some x)) h.1

pub record Gives (c : Configuration) (p : ℕ) (given : Option AnyValue) (known : Known) (w : AnyValue) : Type 0 where
  pub ready : Ready c
  pub asks : Asks c p
  pub given_as : GivenAs given known w
  pub typed : type_of w ≡ type_at c.code.symbols p

module _ (c : Configuration) (p : ℕ) (given : Option AnyValue) (known : Known) (w : AnyValue) (g : Gives c p given known w) where
  abbrev pub after : Configuration
  after = record c { inputs = slice_set c.inputs p known; values = slice_set c.values p w }

  within : p < length c.inputs
  within = slice_get_within c.inputs p K.Waiting g.asks.waits

  wired_same : (k : ℕ) → is_wired_at after.inputs k ≡ is_wired_at c.inputs k
  wired_same k =
      ⊎_elim (λ (e : k ≡ p). ap (is_wired_at after.inputs) e ∙ ap is_wired (set_here c.inputs p known within) ∙ given_wired given known w g.given_as ∙ sym (ap (is_wired_at c.inputs) e ∙ ap is_wired g.asks.waits)) (λ (ne : k ≢ p). ap is_wired (set_apart c.inputs p k known ne)) (cases_eq k p)

  slot_within : p < length c.values
  slot_within = let s = g.ready.laid.slots in let lt = asked_symbol c p g.ready g.asks.waits in omega (arith, s, lt)

  pub after_ready : Ready after
  after_ready =
      let laid = g.ready.laid in
      record {
        laid = record {
          valid = laid.valid;
          parameters = λ k. laid.parameters k ∙ ap (nat_lt k) (sym (length-set c.inputs p known));
          no_output = λ k symbol wired at. laid.no_output k symbol (sym (wired_same k) ∙ wired) at;
          slots = length-set c.values p w ∙ laid.slots;
          types = λ k below. ⊎_elim (λ (e : k ≡ p). ap type_of (put_argument c.values p w k slot_within e) ∙ g.typed ∙ ap (type_at c.code.symbols) (sym e)) (λ (ne : k ≢ p). ap type_of (keep_argument c.values p w k ne) ∙ laid.types k below) (cases_eq k p);
        };
        here = range_again c.code c.inputs after.inputs wired_same c.at c.end g.ready.here;
        frames = frames_again c.code c.inputs after.inputs wired_same c.frames g.ready.frames;
      }

  pub after_fits : (inputs : L.Inputs) → Fits inputs c.inputs c.values → inputs p ≡ L.From given → Fits inputs after.inputs after.values
  after_fits inputs f is =
      record {
        each = λ k. ⊎_elim (λ (e : k ≡ p). subst (λ j. FitsAt (inputs j) (argument after.values j) (slice_get after.inputs j)) (sym e) (subst (FitsAt (inputs p) (argument after.values p)) (sym (set_here c.inputs p known within)) (subst (λ v. FitsAt (inputs p) v (Some known)) (sym (put_argument c.values p w p slot_within refl)) (given_fits given known w (inputs p) g.given_as is)))) (λ (ne : k ≢ p). subst (λ v. FitsAt (inputs k) v (slice_get after.inputs k)) (sym (keep_argument c.values p w k ne)) (subst (FitsAt (inputs k) (argument c.values k)) (sym (set_apart c.inputs p k known ne)) (f.each k))) (cases_eq k p);
      }

  pub given_is : (inputs : L.Inputs) → Fits inputs after.inputs after.values → inputs p ≡ L.From given
  given_is inputs f =
      fits_given given known w (inputs p) g.given_as (subst (λ v. FitsAt (inputs p) v (Some known)) (put_argument c.values p w p slot_within refl) (subst (FitsAt (inputs p) (argument after.values p)) (set_here c.inputs p known within) (f.each p)))

  pub before_fits : (inputs : L.Inputs) → Fits inputs after.inputs after.values → Fits inputs c.inputs c.values
  before_fits inputs f =
      let is = given_is inputs f in
      record {
        each = λ k. ⊎_elim (λ (e : k ≡ p). subst (λ j. FitsAt (inputs j) (argument c.values j) (slice_get c.inputs j)) (sym e) (subst (FitsAt (inputs p) (argument c.values p)) (sym g.asks.waits) (given, is))) (λ (ne : k ≢ p). subst (λ v. FitsAt (inputs k) v (slice_get c.inputs k)) (keep_argument c.values p w k ne) (subst (FitsAt (inputs k) (argument after.values k)) (set_apart c.inputs p k known ne) (f.each k))) (cases_eq k p);
      }

  -- the state afterwards is the one before, with the read noted
  values_same : (k : ℕ) → held_values c.code after.inputs after.values k ≡ held_values c.code c.inputs c.values k
  values_same k =
      ⊎_elim (λ (e : k ≡ p).
      ap (λ b. if b then zero_value (type_at c.code.symbols k) else argument after.values k) (wired_same k ∙ ap (is_wired_at c.inputs) e ∙ ap is_wired g.asks.waits)
      ∙ sym (ap (λ b. if b then zero_value (type_at c.code.symbols k) else argument c.values k) (ap (is_wired_at c.inputs) e ∙ ap is_wired g.asks.waits))) (λ (ne : k ≢ p).
      (λ i. if wired_same k i then zero_value (type_at c.code.symbols k) else keep_argument c.values p w k ne i)) (cases_eq k p)

  reads_same : (k : ℕ) → given_reads after.inputs k ≡ put p true (given_reads c.inputs) k
  unfolding put
  reads_same k = by (nat_eq k p) refl
    where
      by : (b : Bool) → nat_eq k p ≡ b → given_reads after.inputs k ≡ (if b then true else given_reads c.inputs k)
      by true e = ap (given_reads after.inputs) (eqb-true k p e) ∙ ap is_given (set_here c.inputs p known within) ∙ given_given given known w g.given_as
      by false e = ap is_given (set_apart c.inputs p k known (eqb-false k p e))

  after_state : (n : ℕ) → state_of n after ≡ note p (state_of n c)
  after_state n = λ i. record { values = λ k. values_same k i; turns = c.turns; reads = λ k. reads_same k i; ops = n }

  pub after_same : (inputs : L.Inputs) → Fits inputs after.inputs after.values → (n : ℕ) → meaning inputs n after ≡ meaning inputs n c
  after_same inputs f n = ap (comes_from inputs c) (after_state n) ∙ sym (g.asks.notes inputs (before_fits inputs f) (state_of n c))

-- ---- the closure

ci_not_wired : (code : Raw) (known : List Known) (vs : List AnyValue) → IsLaid code known vs → (k : ℕ) (symbol : Symbol) → slice_get code.symbols k ≡ Some symbol → is_ci symbol ≡ true → is_wired_at known k ≡ false
ci_not_wired code known vs laid k symbol at ci = by (is_wired_at known k) refl
  where
    by : (b : Bool) → is_wired_at known k ≡ b → b ≡ false
    by true is = let p = (and_both (is_global symbol.class) (bytes_eq symbol.name (global_text Ci)) ci).0 in let q = sym (ap is_global (laid.no_output k symbol is at)) ∙ p in absurd (cc q)
    by false is = refl

closure_same : (at : ℕ) (symbols : List Symbol) (f g : ℕ → AnyValue) → ((k : ℕ) (symbol : Symbol) → slice_get symbols k ≡ Some symbol → is_ci symbol ≡ true → f (at + k) ≡ g (at + k)) → closure_from at symbols f ≡ closure_from at symbols g
closure_same at [] f g h = refl
closure_same at (symbol ∷ symbols) f g h = by (is_ci symbol) refl (closure_same (at + 1) symbols f g (λ k s there ci. let e : (at + 1) + k ≡ at + suc k = omega arith in ap f e ∙ h (suc k) s there ci ∙ ap g (sym e)))
  where
    by : (b : Bool) → is_ci symbol ≡ b → closure_from (at + 1) symbols f ≡ closure_from (at + 1) symbols g → (if b then parts_of (f at) else closure_from (at + 1) symbols f) ≡ (if b then parts_of (g at) else closure_from (at + 1) symbols g)
    by true ci rest = let e : at + 0 ≡ at = omega arith in ap parts_of (ap f (sym e) ∙ h 0 symbol refl ci ∙ ap g e)
    by false ci rest = rest

pub closure_held : (code : Raw) (known : List Known) (vs : List AnyValue) → IsLaid code known vs → closure_from 0 code.symbols (argument vs) ≡ closure_from 0 code.symbols (held_values code known vs)
closure_held code known vs laid =
    closure_same 0 code.symbols (argument vs) (held_values code known vs) (λ k symbol at ci.
    let e : 0 + k ≡ k = omega arith in
    ap (argument vs) e
    ∙ sym (ap (λ b. if b then zero_value (type_at code.symbols k) else argument vs k) (ci_not_wired code known vs laid k symbol at ci))
    ∙ ap (held_values code known vs) (sym e))

-- ---- slots

-- the slots with another one, and the values with what is there already
pub values_set : (slots : List Slot) (p : ℕ) (slot : Slot) → values (slice_set slots p slot) ≡ slice_set (values slots) p (seen slot)
values_set slots p slot = map-set seen slots p slot

pub values_stay : (vs : List AnyValue) (p : ℕ) → slice_set vs p (argument vs p) ≡ vs
values_stay vs p = set-get_or vs p (Parts [])

-- what waits has a slot and an entry
module _ (c : Configuration) (p : ℕ) (ready : Ready c) (asks : Asks c p) where
  pub asked_slot : (n : ℕ) → n ≡ length c.values → p < n
  asked_slot n is =
      let lt = asked_symbol c p ready asks.waits in
      let s = ready.laid.slots in
      omega (arith, lt, s, is)

  pub asked_input : (n : ℕ) → n ≡ length c.inputs → p < n
  asked_input n is = let lt = slice_get_within c.inputs p K.Waiting asks.waits in omega (arith, lt, is)

  pub asked_type : type_of (argument c.values p) ≡ type_at c.code.symbols p
  asked_type = ready.laid.types p (asked_symbol c p ready asks.waits)
