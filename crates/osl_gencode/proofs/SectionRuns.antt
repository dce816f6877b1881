-- A layer: the sections of the defaults, and then the body.
use Rattle.std.proofs.Common.{◌≡◌, ℕ, ◌+◌, ◌<◌, ◌≤◌, ◌≢◌, inl, inr, ⊎_elim, List, [], ◌∷◌, length, Some, None, Bool, true, false, refl, sym, ap, ◌∙◌, subst, arith}
use Rattle.std.specs.Prelude.{filter, nat_le, if◌then◌else◌}
use Rattle.std.proofs.lemmas.Bool.{cases_lt, le-leb, lt-leb}
use Rattle.osl_value.specs.declared.types.Ty.{Ty}
use Rattle.osl_layer.specs.Layer.{Input, From, Fixed, Default, Inputs}
use Rattle.oso_code.specs.declared.op.Section.{Section}
use Rattle.oso_code.specs.declared.symbol.Symbol.{Symbol}
use Rattle.oso_code.specs.CodeRun.{is_default, is_run, run_sections}
use Rattle.oso_code.specs.Run as R
use Rattle.oso_code.specs.Steps.{Step, Break, Continue, Return, Exit}
use Rattle.osl_typed.specs.declared.shader.TypedParam.{TypedParam}
use Rattle.osl_value.specs.AnyValue.{AnyValue}
use Rattle.osl_typed.specs.State.{State, with_leaves, write_leaves}
use Rattle.osl_typed.specs.Ends.{StatementEnd, Doing, Next, Breaks, Continues, Returns, Exits, Spent, then_do}
use Rattle.osl_typed.specs.Parts.{Frame}
use Rattle.osl_typed.specs.Expressions.{Calls, holds}
use Rattle.osl_typed.specs.SourceRun.{default_held, defaults_held}
use Rattle.osl_gencode.specs.Bodies.{Body}
use Rattle.osl_gencode.specs.Relation.{Related}
use Rattle.osl_gencode.specs.RunEnds.{DoesCode}
use Rattle.osl_gencode.specs.ShaderSymbols.{Defaults, stated_or, with_stated, EndsAs}
use Rattle.osl_gencode.proofs.LayerStart.{stated_none}
use Rattle.osl_gencode.proofs.RelatedStates.{written_leaf, other_leaf}
use Rattle.osl_gencode.proofs.RangeRuns.{whole, whole_end}
use Rattle.osl_gencode.proofs.LoopsAgree.{Same, same_by}

written_here : (k : ℕ) (v : AnyValue) (vars : ℕ → AnyValue) → with_leaves k (v ∷ []) vars k ≡ v
written_here k v vars = let e : k ≡ k + 0 = omega arith in ap (with_leaves k (v ∷ []) vars) e ∙ written_leaf k (v ∷ []) vars 0 v refl

written_other : (k j : ℕ) (v : AnyValue) (vars : ℕ → AnyValue) → j ≢ k → with_leaves k (v ∷ []) vars j ≡ vars j
written_other k j v vars ne = other_leaf k (v ∷ []) vars j (⊎_elim (λ (l : j < k). inl l) (λ (g : k ≤ j). inr (by_next g)) (cases_lt j k))
  where
    by_next : k ≤ j → k + 1 ≤ j
    by_next g = ⊎_elim (λ (l : j < k + 1). absurd (ne (let e : j ≡ k = omega (arith, l, g) in e))) (λ (h : k + 1 ≤ j). h) (cases_lt j (k + 1))

module _ (b : Body) (from : R.Sources) (steps : List Step) (syms : List Symbol) where
  -- the bound of a whole range is the length of the code, so no bound is left to speak of
  abbrev pub Any : ℕ → Type 0
  Any g = Unit {0}

  abbrev pub Tied : State → R.State → Type 0
  Tied s x = Related b syms s x

  abbrev pub SameRun : StatementEnd → R.Outcome → Type 0
  SameRun o out = Same Tied (λ vs. Tied) Any o (λ g. out)

  -- the code of a section does what its source does
  pub does_same : (types : List Ty) (s0 i m : ℕ) (x : R.State) (o : StatementEnd) → m ≤ length steps + i → DoesCode b from steps syms s0 types i m x o → SameRun o (R.range from steps i m x)
  does_same types s0 i m x (Next s) le (y, k) = (y, λ g l. whole from steps i m (length steps) x y le k.leads, k.related)
  does_same types s0 i m x (Breaks s) le (y, k) = (y, λ g l. whole_end from steps i m (length steps) x (R.Jumps Break y) le k.finishes, k.related)
  does_same types s0 i m x (Continues s) le (y, k) = (y, λ g l. whole_end from steps i m (length steps) x (R.Jumps Continue y) le k.finishes, k.related)
  does_same types s0 i m x (Returns vs s) le (y, k) = (y, λ g l. whole_end from steps i m (length steps) x (R.Jumps Return y) le k.finishes, k.related)
  does_same types s0 i m x (Exits s) le (y, k) = (y, λ g l. whole_end from steps i m (length steps) x (R.Jumps Exit y) le k.finishes, k.related)
  does_same types s0 i m x (Spent s) le (y, k) = (y, λ g l. whole_end from steps i m (length steps) x (R.Spent y) le k.finishes, k.reads)

  module _ (inputs : Inputs) (frame : Frame) (calls : Calls) (body : Doing) (defaults : Defaults) where
    abbrev pub HoldsSection : Section → Doing → Type 0
    HoldsSection section does = (s : State) (x : R.State) → Tied s x → SameRun (does s) (R.range from steps section.start section.end x)

    -- the stated defaults from parameter k on
    abbrev pub ahead : ℕ → State → State
    ahead k s = with_stated defaults inputs k s

    -- A section for each parameter whose default is not stated in its symbol, in order, and then that of the body. A default does the same where later stated defaults are there already.
    pub data Sections : ℕ → List TypedParam → List Section → Type 0 where
      last : (k : ℕ) (main : Section) → main.param ≡ None → ((j : ℕ) → k ≤ j → defaults j ≡ None) → HoldsSection main body → Sections k [] (main ∷ [])
      stated : (k : ℕ) (p : TypedParam) (ps : List TypedParam) (sections : List Section) (v : AnyValue) → defaults k ≡ Some v → frame.inputs k ≡ inputs k → ((s : State) → default_held frame calls Default k p s ≡ Next (write_leaves k (v ∷ []) s)) → Sections (k + 1) ps sections → Sections k (p ∷ ps) sections
      more : (k : ℕ) (p : TypedParam) (ps : List TypedParam) (section : Section) (sections : List Section) → section.param ≡ Some k → defaults k ≡ None → frame.inputs k ≡ inputs k → (inputs k ≡ Default → HoldsSection section (default_held frame calls Default k p)) → (inputs k ≡ Default → (s : State) → EndsAs (ahead (k + 1)) (default_held frame calls Default k p s) (default_held frame calls Default k p (ahead (k + 1) s))) → Sections (k + 1) ps sections → Sections k (p ∷ ps) (section ∷ sections)

    -- ---- what is ahead

    past : (k j : ℕ) → k ≤ j → (nat_le k j ≡ true)
    past k j le = le-leb k j le

    short : (k j : ℕ) → j < k → (nat_le k j ≡ false)
    short k j lt = lt-leb k j lt

    at_place : (k j : ℕ) (x y : AnyValue) → ((k ≤ j) → stated_or (inputs j) (defaults j) x ≡ y) → (j < k → x ≡ y) → (if nat_le k j then stated_or (inputs j) (defaults j) x else x) ≡ y
    at_place k j x y after before =
        ⊎_elim (λ (l : j < k). ap (λ t. if t then stated_or (inputs j) (defaults j) x else x) (short k j l) ∙ before l) (λ (g : k ≤ j). ap (λ t. if t then stated_or (inputs j) (defaults j) x else x) (past k j g) ∙ after g) (cases_lt j k)

    same_vars : (s u : State) → ((j : ℕ) → s.vars j ≡ u.vars j) → s.globals ≡ u.globals → s.turns ≡ u.turns → s.reads ≡ u.reads → s ≡ u
    same_vars s u vars globals turns reads = (λ i. record { vars = λ j. vars j i; globals = globals i; turns = turns i; reads = reads i })

    -- nothing is ahead
    pub ahead_none : (k : ℕ) (s : State) → ((j : ℕ) → k ≤ j → defaults j ≡ None) → ahead k s ≡ s
    ahead_none k s none = same_vars (ahead k s) s (λ j. at_place k j (s.vars j) (s.vars j) (λ le. ap (λ d. stated_or (inputs j) d (s.vars j)) (none j le) ∙ stated_none (inputs j) (s.vars j)) (λ lt. refl)) refl refl refl

    -- parameter k is not ahead, so what is ahead is so after it
    ahead_same : (k : ℕ) (s : State) → ((x : AnyValue) → stated_or (inputs k) (defaults k) x ≡ x) → ahead k s ≡ ahead (k + 1) s
    ahead_same k s plain = same_vars (ahead k s) (ahead (k + 1) s) (λ j. at_place k j (s.vars j) ((ahead (k + 1) s).vars j) (λ le. ⊎_elim (λ (l : j < k + 1).
        let e : j ≡ k = omega (arith, le, l) in
        (ap (λ z. stated_or (inputs z) (defaults z) (s.vars z)) e ∙ plain (s.vars k) ∙ ap s.vars (sym e)) ∙ sym (at_place (k + 1) j (s.vars j) (s.vars j) (λ h. absurd (omega (arith, h, l))) (λ h. refl))) (λ (g : k + 1 ≤ j). sym (at_place (k + 1) j (s.vars j) (stated_or (inputs j) (defaults j) (s.vars j)) (λ h. refl) (λ h. absurd (omega (arith, h, g))))) (cases_lt j (k + 1))) (λ lt. sym (at_place (k + 1) j (s.vars j) (s.vars j) (λ h. absurd (omega (arith, h, lt))) (λ h. refl)))) refl refl refl

    -- the default of parameter k is what was ahead
    ahead_written : (k : ℕ) (s : State) (v : AnyValue) → inputs k ≡ Default → defaults k ≡ Some v → ahead k s ≡ ahead (k + 1) (write_leaves k (v ∷ []) s)
    ahead_written k s v wanted is =
        let u = write_leaves k (v ∷ []) s in
        same_vars (ahead k s) (ahead (k + 1) u) (λ j. at_place k j (s.vars j) ((ahead (k + 1) u).vars j) (λ le. ⊎_elim (λ (l : j < k + 1).
        let e : j ≡ k = omega (arith, le, l) in
        (ap (λ z. stated_or (inputs z) (defaults z) (s.vars j)) e ∙ ap (λ i. stated_or i (defaults k) (s.vars j)) wanted ∙ ap (λ d. stated_or Default d (s.vars j)) is ∙ sym (ap u.vars e ∙ written_here k v s.vars)) ∙ sym (at_place (k + 1) j (u.vars j) (u.vars j) (λ h. absurd (omega (arith, h, l))) (λ h. refl))) (λ (g : k + 1 ≤ j). ap (stated_or (inputs j) (defaults j)) (sym (written_other k j v s.vars (λ e. absurd (omega (arith, e, g))))) ∙ sym (at_place (k + 1) j (u.vars j) (stated_or (inputs j) (defaults j) (u.vars j)) (λ h. refl) (λ h. absurd (omega (arith, h, g))))) (cases_lt j (k + 1))) (λ lt. sym (written_other k j v s.vars (λ e. absurd (omega (arith, e, lt)))) ∙ sym (at_place (k + 1) j (u.vars j) (u.vars j) (λ h. absurd (omega (arith, h, lt))) (λ h. refl)))) refl refl refl

    -- ---- runs

    run_one : (section : Section) (rest : List Section) (x : R.State) (t : Bool) → is_run inputs section ≡ t → run_sections from steps (filter (is_run inputs) (section ∷ rest)) x ≡ (if t then R.then_do (R.range from steps section.start section.end x) (run_sections from steps (filter (is_run inputs) rest)) else run_sections from steps (filter (is_run inputs) rest) x)
    run_one section rest x true is = ap (λ t. run_sections from steps (if t then section ∷ filter (is_run inputs) rest else filter (is_run inputs) rest) x) is
    run_one section rest x false is = ap (λ t. run_sections from steps (if t then section ∷ filter (is_run inputs) rest else filter (is_run inputs) rest) x) is

    same_as : (o : StatementEnd) (a c : R.Outcome) → c ≡ a → SameRun o a → SameRun o c
    same_as o a c e h = same_by Tied (λ vs. Tied) Any o (λ g. a) (λ g. c) (λ g l. e) h

    same_end : (o : StatementEnd) (out : R.Outcome) → SameRun o out → SameRun o (R.then_do out R.Next)
    same_end (Next s) out (y, e, r) = (y, λ g l. ap (λ z. R.then_do z R.Next) (e g l), r)
    same_end (Breaks s) out (y, e, r) = (y, λ g l. ap (λ z. R.then_do z R.Next) (e g l), r)
    same_end (Continues s) out (y, e, r) = (y, λ g l. ap (λ z. R.then_do z R.Next) (e g l), r)
    same_end (Returns vs s) out (y, e, r) = (y, λ g l. ap (λ z. R.then_do z R.Next) (e g l), r)
    same_end (Exits s) out (y, e, r) = (y, λ g l. ap (λ z. R.then_do z R.Next) (e g l), r)
    same_end (Spent s) out (y, e, r) = (y, λ g l. ap (λ z. R.then_do z R.Next) (e g l), r)

    then_assoc : (o : StatementEnd) (f g : Doing) → then_do (then_do o f) g ≡ then_do o (λ s. then_do (f s) g)
    then_assoc (Next s) f g = refl
    then_assoc (Breaks s) f g = refl
    then_assoc (Continues s) f g = refl
    then_assoc (Returns vs s) f g = refl
    then_assoc (Exits s) f g = refl
    then_assoc (Spent s) f g = refl

    is_run_is : (section : Section) (k : ℕ) (i : Input) → section.param ≡ Some k → inputs k ≡ i → is_run inputs section ≡ is_default i
    is_run_is section k i owner e = ap (λ o. elim o [ None ↦ true | Some q ↦ is_default (inputs q) ]) owner ∙ ap is_default e

    -- a default that was run with what is ahead, and what follows it
    then_ahead : (later : State → State) (o : StatementEnd) (out : R.Outcome) (oa : StatementEnd) (go : Doing) (goc : R.State → R.Outcome) → EndsAs later o oa → SameRun oa out → ((s : State) (x : R.State) → Tied (later s) x → SameRun (go s) (goc x)) → SameRun (then_do o go) (R.then_do out goc)
    then_ahead later (Next s) out oa go goc alike same next =
        let q = subst (λ z. SameRun z out) alike same in let x = q.0 in
        same_as (go s) (goc x) (R.then_do out goc) (ap (λ z. R.then_do z goc) (q.1 0 tt)) (next s x q.2)
    then_ahead later (Breaks s) out oa go goc alike same next = let q = subst (λ z. SameRun z out) alike same in (q.0, λ g l. ap (λ z. R.then_do z goc) (q.1 g l), q.2)
    then_ahead later (Continues s) out oa go goc alike same next = let q = subst (λ z. SameRun z out) alike same in (q.0, λ g l. ap (λ z. R.then_do z goc) (q.1 g l), q.2)
    then_ahead later (Returns vs s) out oa go goc alike same next = let q = subst (λ z. SameRun z out) alike same in (q.0, λ g l. ap (λ z. R.then_do z goc) (q.1 g l), q.2)
    then_ahead later (Exits s) out oa go goc alike same next = let q = subst (λ z. SameRun z out) alike same in (q.0, λ g l. ap (λ z. R.then_do z goc) (q.1 g l), q.2)
    then_ahead later (Spent s) out oa go goc alike same next = let q = subst (λ z. SameRun z out) (alike.1) same in (q.0, λ g l. ap (λ z. R.then_do z goc) (q.1 g l), q.2 ∙ alike.2)

    -- what follows parameter k, from states in which what is ahead of it is there
    abbrev Follows : ℕ → List TypedParam → List Section → Type 0
    Follows k ps sections = (s : State) (x : R.State) → Tied (ahead k s) x → SameRun (then_do (defaults_held frame calls k ps s) body) (run_sections from steps (filter (is_run inputs) sections) x)

    abbrev Holds : ℕ → TypedParam → List TypedParam → List Section → State → R.State → Type 0
    Holds k p ps sections s x = SameRun (then_do (default_held frame calls (frame.inputs k) k p s) (λ s1. then_do (defaults_held frame calls (k + 1) ps s1) body)) (run_sections from steps (filter (is_run inputs) sections) x)

    to_input : (k : ℕ) (p : TypedParam) (ps : List TypedParam) (sections : List Section) (s : State) (x : R.State) (i : Input) → frame.inputs k ≡ i → SameRun (then_do (default_held frame calls i k p s) (λ s1. then_do (defaults_held frame calls (k + 1) ps s1) body)) (run_sections from steps (filter (is_run inputs) sections) x) → Holds k p ps sections s x
    to_input k p ps sections s x i e h = subst (λ z. SameRun (then_do (default_held frame calls z k p s) (λ s1. then_do (defaults_held frame calls (k + 1) ps s1) body)) (run_sections from steps (filter (is_run inputs) sections) x)) (sym e) h

    -- a section that is passed over, or run
    by_input : (k : ℕ) (p : TypedParam) (ps : List TypedParam) (section : Section) (sections : List Section) → section.param ≡ Some k → defaults k ≡ None → frame.inputs k ≡ inputs k → (inputs k ≡ Default → HoldsSection section (default_held frame calls Default k p)) → (inputs k ≡ Default → (s : State) → EndsAs (ahead (k + 1)) (default_held frame calls Default k p s) (default_held frame calls Default k p (ahead (k + 1) s))) → Follows (k + 1) ps sections → (s : State) (x : R.State) → Tied (ahead (k + 1) s) x → (i : Input) → inputs k ≡ i → Holds k p ps (section ∷ sections) s x
    by_input k p ps section sections owner none given holds alike rest s x rel (From o) e =
        to_input k p ps (section ∷ sections) s x (From o) (given ∙ e) (same_as _ _ _ (run_one section sections x false (is_run_is section k (From o) owner e)) (rest s x rel))
    by_input k p ps section sections owner none given holds alike rest s x rel (Fixed v) e =
        to_input k p ps (section ∷ sections) s x (Fixed v) (given ∙ e) (same_as _ _ _ (run_one section sections x false (is_run_is section k (Fixed v) owner e)) (rest s x rel))
    by_input k p ps section sections owner none given holds alike rest s x rel Default e =
        to_input k p ps (section ∷ sections) s x Default (given ∙ e) (same_as _ _ _ (run_one section sections x true (is_run_is section k Default owner e)) (
        then_ahead (ahead (k + 1)) (default_held frame calls Default k p s) (R.range from steps section.start section.end x) (default_held frame calls Default k p (ahead (k + 1) s)) (λ s1. then_do (defaults_held frame calls (k + 1) ps s1) body) (run_sections from steps (filter (is_run inputs) sections)) (alike e s) (holds e (ahead (k + 1) s) x rel) rest))

    -- a stated default, which needs no section
    by_stated : (k : ℕ) (p : TypedParam) (ps : List TypedParam) (sections : List Section) (v : AnyValue) → defaults k ≡ Some v → frame.inputs k ≡ inputs k → ((s : State) → default_held frame calls Default k p s ≡ Next (write_leaves k (v ∷ []) s)) → Follows (k + 1) ps sections → (s : State) (x : R.State) → Tied (ahead k s) x → (i : Input) → inputs k ≡ i → Holds k p ps sections s x
    by_stated k p ps sections v is given writes rest s x rel (From o) e =
        to_input k p ps sections s x (From o) (given ∙ e) (rest s x (subst (λ z. Tied z x) (ahead_same k s (λ y. ap (λ i. stated_or i (defaults k) y) e)) rel))
    by_stated k p ps sections v is given writes rest s x rel (Fixed w) e =
        to_input k p ps sections s x (Fixed w) (given ∙ e) (rest s x (subst (λ z. Tied z x) (ahead_same k s (λ y. ap (λ i. stated_or i (defaults k) y) e)) rel))
    by_stated k p ps sections v is given writes rest s x rel Default e =
        to_input k p ps sections s x Default (given ∙ e) (subst (λ o. SameRun (then_do o (λ s1. then_do (defaults_held frame calls (k + 1) ps s1) body)) (run_sections from steps (filter (is_run inputs) sections) x)) (sym (writes s)) (rest (write_leaves k (v ∷ []) s) x (subst (λ z. Tied z x) (ahead_written k s v e is) rel)))

    pub layer_same : (k : ℕ) (ps : List TypedParam) (sections : List Section) → Sections k ps sections → (s : State) (x : R.State) → Tied (ahead k s) x → SameRun (then_do (defaults_held frame calls k ps s) body) (run_sections from steps (filter (is_run inputs) sections) x)
    unfolding defaults_held
    layer_same k _ _ (last _ main none few holds) s x rel =
        same_as (body s) _ _ (run_one main [] x true (ap (λ o. elim o [ None ↦ true | Some p ↦ is_default (inputs p) ]) none)) (same_end (body s) (R.range from steps main.start main.end x) (holds s x (subst (λ z. Tied z x) (ahead_none k s few) rel)))
    layer_same k _ _ (stated _ p ps sections v is given writes rest) s x rel =
        subst (λ z. SameRun z (run_sections from steps (filter (is_run inputs) sections) x)) (sym (then_assoc (default_held frame calls (frame.inputs k) k p s) (defaults_held frame calls (k + 1) ps) body)) (
        by_stated k p ps sections v is given writes (layer_same (k + 1) ps sections rest) s x rel (inputs k) refl)
    layer_same k _ _ (more _ p ps section sections owner none given holds alike rest) s x rel =
        subst (λ z. SameRun z (run_sections from steps (filter (is_run inputs) (section ∷ sections)) x)) (sym (then_assoc (default_held frame calls (frame.inputs k) k p s) (defaults_held frame calls (k + 1) ps) body)) (
        by_input k p ps section sections owner none given holds alike (layer_same (k + 1) ps sections rest) s x (subst (λ z. Tied z x) (ahead_same k s (λ y. ap (λ d. stated_or (inputs k) d y) none ∙ stated_none (inputs k) y)) rel) (inputs k) refl)
