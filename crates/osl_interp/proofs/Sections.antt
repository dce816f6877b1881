-- The ends of sections: the next one, or the end of the run.
use Rattle.std.proofs.Common.{◌≡◌, ◌≢◌, ℕ, zero, suc, ◌+◌, ◌-◌, ◌*◌, ◌≤◌, List, [], ◌∷◌, length, drop, Option, Some, None, Bool, true, false, refl, sym, ap, ◌∙◌, subst, arith}
use Rattle.std.specs.Prelude.{slice_get, nat_lt, filter, if◌then◌else◌, IsTrue}
use Rattle.std.proofs.lemmas.Bool.{eqb-true, ltb-true, lt-ltb}
use Rattle.osl_value.specs.AnyValue.{AnyValue}
use Rattle.osl_layer.specs.Layer as L
use Rattle.oso_code.specs.declared.op.Section.{Section}
use Rattle.oso_code.specs.declared.raw.Raw.{Raw}
use Rattle.osl_value.specs.declared.shader_kind.ShaderKind.{ShaderKind}
use Rattle.oso_code.specs.declared.symbol.Class.{Class}
use Rattle.oso_code.specs.declared.symbol.Class.TheVariants.{Param}
use Rattle.oso_code.specs.declared.symbol.Symbol.{Symbol}
use Rattle.oso_code.specs.CodeRun.{sources_of, is_parameter_at, is_run, run_sections}
use Rattle.oso_code.specs.CodeRun as R
use Rattle.oso_code.specs.Ops.{may_write_symbol, may_write_class, is_owner, owner_of}
use Rattle.oso_code.specs.Ranges.{steps_of}
use Rattle.oso_code.specs.Run.{then_do}
use Rattle.oso_code.specs.Steps as S
use Rattle.oso_code.specs.Valid.{IsValid}
use Rattle.oso_code.specs.Sections.{owner_fits, may_have_section, is_zeros}
use Rattle.oso_code.specs.Symbols.{is_parameter}
use Rattle.oso_code.proofs.Members.{and_both}
use Rattle.oso_code.proofs.Chained.{valid_section, section_closed, section_within}
use Rattle.osl_interp.specs.Advances.{Advances, EndsAs, here, sections_weight, no_op}
use Rattle.osl_interp.specs.Known.{is_default, is_default_at, is_wired, is_wired_at, FitsAt, Fits}
use Rattle.osl_interp.specs.Meaning.{Configuration, resume, now, state_of, later_sections, meaning}
use Rattle.osl_interp.specs.Ready.{IsLaid, Spares, IsRange, Ready}
use Rattle.osl_interp.specs.declared.known.Known.{Known}
use Rattle.osl_interp.specs.declared.known.Known.TheVariants as K
use Rattle.osl_interp.specs.declared.frame.Mode.TheVariants as M
use Rattle.osl_interp.proofs.Frames.{over}
use Rattle.osl_interp.proofs.Leaving.{leaving}
use Rattle.osl_interp.proofs.Laying.{Fitting, step_fits}

-- ---- sections of defaults leave connected parameters as they are

default_not_wired : (o : Option Known) → is_default o ≡ true → is_wired o ≡ true → ⊥
default_not_wired None d w = cc d
default_not_wired (Some K.Default) d w = cc w
default_not_wired (Some K.Fixed) d w = cc d
default_not_wired (Some K.Waiting) d w = cc d
default_not_wired (Some K.Given) d w = cc d
default_not_wired (Some K.Nothing) d w = cc d

owner_is : (param : Option ℕ) (k : ℕ) → is_owner param k ≡ true → param ≡ Some k
owner_is None k h = absurd (cc h)
owner_is (Some p) k h = ap Some (eqb-true p k h)

module _ (code : Raw) (known : List Known) (param : Option ℕ) (runs : is_default_at known param ≡ true) where
  not_owned : (kind : ShaderKind) (target : ℕ) (name : List ℕ) (class : Class) → is_wired_at known target ≡ true → class ≡ Param → IsTrue (may_write_class kind (is_owner param target) name class) → ⊥
  not_owned kind target name class wired is h =
      let owned : is_owner param target ≡ true = subst (λ x. IsTrue (may_write_class kind (is_owner param target) name x)) is h in
      default_not_wired (slice_get known target) (ap (is_default_at known) (sym (owner_is param target owned)) ∙ runs) wired

  not_written : (laid : (k : ℕ) (symbol : Symbol) → is_wired_at known k ≡ true → slice_get code.symbols k ≡ Some symbol → symbol.class ≡ Param) (target : ℕ) (o : Option Symbol) → slice_get code.symbols target ≡ o → is_wired_at known target ≡ true → IsTrue (may_write_symbol code.kind (is_owner param target) o) → ⊥
  not_written laid target None at wired h = cc h
  not_written laid target (Some symbol) at wired h = not_owned code.kind target symbol.name symbol.class wired (laid target symbol wired at) h

  spared : (laid : (k : ℕ) (symbol : Symbol) → is_wired_at known k ≡ true → slice_get code.symbols k ≡ Some symbol → symbol.class ≡ Param) (step : S.Step) → Fitting code.kind param code.symbols step → Spares known step
  spared laid (S.Compute name ty target sources) fits = by (is_wired_at known target) refl
    where
      by : (b : Bool) → is_wired_at known target ≡ b → b ≡ false
      by true is = absurd (not_written laid target (slice_get code.symbols target) refl is fits.writes)
      by false is = refl
  spared laid (S.Branch c holds fails) fits = tt
  spared laid (S.Loop tested c test body step) fits = tt
  spared laid (S.Call body) fits = tt
  spared laid (S.Leave way) fits = tt

-- a section that is run
pub section_range : (code : Raw) (known : List Known) (laid_valid : IsValid code) (laid : (k : ℕ) (symbol : Symbol) → is_wired_at known k ≡ true → slice_get code.symbols k ≡ Some symbol → symbol.class ≡ Param) (j : ℕ) (section : Section) → slice_get code.sections j ≡ Some section → is_default_at known section.param ≡ true → IsRange code known section.start section.end
section_range code known valid laid j section at runs =
    record {
      closed = section_closed code valid j section at;
      within = section_within code valid j section at;
      spares = λ k step a b is.
          let owner = ap owner_of ((valid_section code valid j section at).holds k a b) in
          spared code known section.param runs laid step (subst (λ o. Fitting code.kind o code.symbols step) owner (step_fits code valid k step is));
    }

-- ---- the sections that are left

left_sections : (sections : List Section) (j : ℕ) (section : Section) → slice_get sections j ≡ Some section → drop j sections ≡ section ∷ drop (j + 1) sections
left_sections [] j section at = absurd (cc at)
left_sections (s ∷ sections) zero section at = let q : s ≡ section = cc at in ap (λ x. x ∷ sections) q
left_sections (s ∷ sections) (suc j) section at =
    let n : suc j + 1 ≡ suc (j + 1) = omega arith in
    left_sections sections j section at ∙ ap (λ i. section ∷ drop i (s ∷ sections)) (sym n)

no_sections : (sections : List Section) (j : ℕ) → slice_get sections j ≡ None → drop j sections ≡ []
no_sections [] zero at = refl
no_sections [] (suc j) at = refl
no_sections (s ∷ sections) zero at = absurd (cc at)
no_sections (s ∷ sections) (suc j) at = no_sections sections j at

input_default : (input : L.Input) (v : AnyValue) (o : Option Known) → FitsAt input v o → (o ≡ None → ⊥) → R.is_default input ≡ is_default o
input_default input v None h there = absurd (there refl)
input_default input v (Some K.Default) h there = ap R.is_default h
input_default input v (Some K.Fixed) h there = ap R.is_default h.1
input_default input v (Some K.Waiting) h there = ap R.is_default h.1
input_default input v (Some K.Given) h there = ap R.is_default h
input_default input v (Some K.Nothing) h there = ap R.is_default h

owned_is_parameter : (o : Option Symbol) → IsTrue (may_have_section o) → is_parameter_at o ≡ true
owned_is_parameter None h = absurd (cc h)
owned_is_parameter (Some symbol) h = (and_both (is_parameter symbol.class) (is_zeros symbol.value) h).0

not_there : {X : Type 0} (xs : List X) (p : ℕ) → nat_lt p (length xs) ≡ true → slice_get xs p ≡ None → ⊥
not_there [] p lt at = let h = ltb-true p 0 lt in absurd (omega (arith, h))
not_there (x ∷ xs) zero lt at = cc at
not_there (x ∷ xs) (suc p) lt at = let h = ltb-true (suc p) (length (x ∷ xs)) lt in not_there xs p (lt-ltb p (length xs) (omega (arith, h))) at

-- whether a section is run, by the inputs and by what is known of them
pub run_is_known : (code : Raw) (known : List Known) (vs : _) (laid : IsLaid code known vs) (inputs : L.Inputs) → Fits inputs known vs → (j : ℕ) (section : Section) → slice_get code.sections j ≡ Some section → is_run inputs section ≡ is_default_at known section.param
run_is_known code known vs laid inputs fits j section at = by section.param refl (valid_section code laid.valid j section at).owner
  where
    by : (param : Option ℕ) → section.param ≡ param → IsTrue (owner_fits code.symbols param) → is_run inputs (record section { param = param }) ≡ is_default_at known param
    by None is fits_it = refl
    by (Some p) is fits_it =
        input_default (inputs p) _ (slice_get known p) (fits.each p) (λ none. not_there known p (sym (laid.parameters p) ∙ owned_is_parameter (slice_get code.symbols p) fits_it) none)

-- a machine between sections
pub record Between (c : Configuration) : Type 0 where
  pub ready : Ready c
  pub runs : c.mode ≡ M.Run
  pub past : c.end ≤ c.at
  pub last : c.frames ≡ []

-- it comes to what the sections that are left come to
pub between_comes : (c : Configuration) → Between c → (inputs : L.Inputs) (n : ℕ) → meaning inputs n c ≡ later_sections inputs c.code c.section (state_of n c)
between_comes c b inputs n =
    let from = sources_of c.code inputs in
    let steps = steps_of c.code in
    ap (λ fs. then_do (resume from steps fs (now from steps c.mode c.at c.end (state_of n c))) (later_sections inputs c.code c.section)) b.last
    ∙ ap (λ o. then_do o (later_sections inputs c.code c.section)) (over from steps c.mode c.at c.end (state_of n c) b.runs b.past)

abbrev kept : L.Inputs → Bool → Section → List Section → List Section
kept inputs b section sections = if b then section ∷ filter (is_run inputs) sections else filter (is_run inputs) sections

next_section : (c : Configuration) (section : Section) (b : Bool) → Between c → slice_get c.code.sections c.section ≡ Some section → is_default_at c.inputs section.param ≡ b → (inputs : L.Inputs) → Fits inputs c.inputs c.values → (n : ℕ)
    → meaning inputs n c ≡ run_sections (sources_of c.code inputs) (steps_of c.code) (kept inputs b section (drop (c.section + 1) c.code.sections)) (state_of n c)
next_section c section b btw at is inputs fits n =
    let from = sources_of c.code inputs in
    let steps = steps_of c.code in
    between_comes c btw inputs n
    ∙ ap (λ l. run_sections from steps (filter (is_run inputs) l) (state_of n c)) (left_sections c.code.sections c.section section at)
    ∙ ap (λ x. run_sections from steps (kept inputs x section (drop (c.section + 1) c.code.sections)) (state_of n c)) (run_is_known c.code c.inputs c.values btw.ready.laid inputs fits c.section section at ∙ is)

pub section_runs : (c : Configuration) (section : Section) → Between c → slice_get c.code.sections c.section ≡ Some section → is_default_at c.inputs section.param ≡ true
    → Advances no_op c (record c { at = section.start; end = section.end; section = c.section + 1 })
section_runs c section b at is =
    let w = ap sections_weight (left_sections c.code.sections c.section section at) in
    let h : here c.mode section.start section.end ≡ 2 * (section.end - section.start) = ap (λ y. here y section.start section.end) b.runs in
    record {
      ready = record { laid = b.ready.laid; here = section_range c.code c.inputs b.ready.laid.valid b.ready.laid.no_output c.section section at is; frames = b.ready.frames };
      code = refl;
      inputs_stay = refl;
      fits = λ inputs f. f;
      same = λ inputs fits n.
          let from = sources_of c.code inputs in
          let steps = steps_of c.code in
          ap (λ fs. then_do (resume from steps fs (now from steps c.mode section.start section.end (state_of n c))) (later_sections inputs c.code (c.section + 1))) b.last
          ∙ ap (λ y. then_do (now from steps y section.start section.end (state_of n c)) (later_sections inputs c.code (c.section + 1))) b.runs
          ∙ sym (next_section c section true b at is inputs fits n);
      less = omega (arith, w, h);
    }

pub section_passed : (c : Configuration) (section : Section) → Between c → slice_get c.code.sections c.section ≡ Some section → is_default_at c.inputs section.param ≡ false
    → Advances no_op c (record c { section = c.section + 1 })
section_passed c section b at is =
    let w = ap sections_weight (left_sections c.code.sections c.section section at) in
    record {
      ready = record { laid = b.ready.laid; here = b.ready.here; frames = b.ready.frames };
      code = refl;
      inputs_stay = refl;
      fits = λ inputs f. f;
      same = λ inputs fits n.
          between_comes (record c { section = c.section + 1 }) (record { ready = record { laid = b.ready.laid; here = b.ready.here; frames = b.ready.frames }; runs = b.runs; past = b.past; last = b.last }) inputs n
          ∙ sym (next_section c section false b at is inputs fits n);
      less = omega (arith, w);
    }

pub sections_over : (c : Configuration) → Between c → slice_get c.code.sections c.section ≡ None → (inputs : L.Inputs) → Fits inputs c.inputs c.values → (n : ℕ) → EndsAs (meaning inputs n c) (state_of n c)
sections_over c b none inputs fits n =
    let from = sources_of c.code inputs in
    let steps = steps_of c.code in
    subst (λ o. EndsAs o (state_of n c)) (sym (between_comes c b inputs n ∙ ap (λ l. run_sections from steps (filter (is_run inputs) l) (state_of n c)) (no_sections c.code.sections c.section none))) refl

-- a layer that was left
pub layer_left : (c : Configuration) → c.mode ≢ M.Run → c.frames ≡ [] → (inputs : L.Inputs) → Fits inputs c.inputs c.values → (n : ℕ) → EndsAs (meaning inputs n c) (state_of n c)
layer_left c not last inputs fits n =
    let from = sources_of c.code inputs in
    let steps = steps_of c.code in
    subst (λ o. EndsAs o (state_of n c))
    (sym (ap (λ fs. then_do (resume from steps fs (now from steps c.mode c.at c.end (state_of n c))) (later_sections inputs c.code c.section)) last
    ∙ ap (λ o. then_do o (later_sections inputs c.code c.section)) (leaving from steps c.mode c.at c.end (state_of n c) not))) refl
