-- What an op reads, by what is known of the inputs.
use Rattle.std.proofs.Common.{◌≡◌, ℕ, ◌<◌, ◌≤◌, ⊎_elim, List, [], ◌∷◌, length, map, Option, Some, None, Bool, true, false, refl, sym, ap, ◌∙◌, subst, arith}
use Rattle.std.specs.Prelude.{slice_get, nat_eq, nat_lt, if◌then◌else◌}
use Rattle.std.proofs.lemmas.Bool.{lt-ltb, le-ltb, cases_lt, eqb-true}
use Rattle.std.proofs.lemmas.Option.{slice_get_within, slice_get-get_or}
use Rattle.osl_value.specs.AnyValue.{AnyValue, argument, zero_value}
use Rattle.osl_layer.specs.Layer as L
use Rattle.oso_code.specs.declared.raw.Raw.{Raw}
use Rattle.oso_code.specs.Ops.{type_at}
use Rattle.oso_code.specs.CodeRun.{source_of, sources_of}
use Rattle.oso_code.specs.Run.{State, put, note, Source, Own, Wired, Sources, Reading, Gives, read_from, read, Outcome, Next, Spent, with_value, arguments, is_so, Holds, Fails, on_test, decide}
use Rattle.osl_interp.specs.Known.{met_at, met, is_given, is_wired, is_wired_at, given_reads, FitsAt, Fits}
use Rattle.osl_interp.specs.Meaning.{held_values}
use Rattle.osl_interp.specs.Ready.{IsLaid}
use Rattle.osl_interp.specs.declared.known.Known.{Known}
use Rattle.osl_interp.specs.declared.known.Known.TheVariants.{Default, Fixed, Waiting, Given, Nothing}
use Rattle.osl_interp.specs.declared.known.Met.{Met}
use Rattle.osl_interp.specs.declared.known.Met.TheVariants as M

-- ---- where symbols' values come from

abbrev pub SourceFits : Source → AnyValue → Option Known → Type 0
SourceFits from v None = from ≡ Own
SourceFits from v (Some Default) = from ≡ Own
SourceFits from v (Some Fixed) = from ≡ Own
SourceFits from v (Some Waiting) = (given : Option AnyValue) × (from ≡ Wired given)
SourceFits from v (Some Given) = from ≡ Wired (Some v)
SourceFits from v (Some Nothing) = from ≡ Wired None

pub record SourcesFit (from : Sources) (known : List Known) (values : List AnyValue) : Type 0 where
  pub each : (k : ℕ) → SourceFits (from k) (argument values k) (slice_get known k)

known_source : (input : L.Input) (v : AnyValue) (x : Known) → FitsAt input v (Some x) → SourceFits (source_of input) v (Some x)
known_source input v Default h = ap source_of h
known_source input v Fixed h = ap source_of h.1
known_source input v Waiting h = (h.0, ap source_of h.1)
known_source input v Given h = ap source_of h
known_source input v Nothing h = ap source_of h

within : {X : Type 0} (xs : List X) (k : ℕ) → slice_get xs k ≡ None → nat_lt k (length xs) ≡ false
within xs k is =
    ⊎_elim (λ (lt : k < length xs). ⊎_elim (λ (a : k < length xs). le-ltb k (length xs) (absurd (got xs k lt is))) (λ (le : length xs ≤ k). le-ltb k (length xs) le) (cases_lt k (length xs))) (λ (le : length xs ≤ k). le-ltb k (length xs) le) (cases_lt k (length xs))
  where
    got : {X : Type 0} (xs : List X) (k : ℕ) → k < length xs → slice_get xs k ≡ None → ⊥
    got [] k lt is = absurd (omega arith)
    got (x ∷ xs) k lt is = let q = sym (slice_get-get_or (x ∷ xs) k x lt) ∙ is in absurd (cc q)

module _ (code : Raw) (known : List Known) (values : List AnyValue) (laid : IsLaid code known values) (inputs : L.Inputs) (fits : Fits inputs known values) where
  source_by : (k : ℕ) (o : Option Known) → slice_get known k ≡ o → SourceFits (sources_of code inputs k) (argument values k) o
  source_by k None is =
      ap (λ b. if b then source_of (inputs k) else Own) (laid.parameters k ∙ within known k is)
  source_by k (Some x) is =
      let there = ap (λ b. if b then source_of (inputs k) else Own) (laid.parameters k ∙ lt-ltb k (length known) (slice_get_within known k x is)) in
      subst (λ s. SourceFits s (argument values k) (Some x)) (sym there) (known_source (inputs k) (argument values k) x (subst (FitsAt (inputs k) (argument values k)) is (fits.each k)))

  pub sources_fit : SourcesFit (sources_of code inputs) known values
  sources_fit = record { each = λ k. source_by k (slice_get known k) refl }

  -- a parameter that waits and turns out to be nothing
  pub wired_nothing : (p : ℕ) → slice_get known p ≡ Some Waiting → inputs p ≡ L.From None → sources_of code inputs p ≡ Wired None
  wired_nothing p at none =
      ap (λ b. if b then source_of (inputs p) else Own) (laid.parameters p ∙ lt-ltb p (length known) (slice_get_within known p Waiting at)) ∙ ap source_of none

-- ---- notes

put_true : (k : ℕ) (f : ℕ → Bool) → f k ≡ true → (j : ℕ) → put k true f j ≡ f j
unfolding put
put_true k f is j = by (nat_eq j k) refl
  where
    by : (b : Bool) → nat_eq j k ≡ b → (if b then true else f j) ≡ f j
    by true e = sym is ∙ ap f (sym (eqb-true j k e))
    by false e = refl

put_twice : (k p : ℕ) (f : ℕ → Bool) (j : ℕ) → put p true (put k true f) j ≡ put k true (put p true f) j
unfolding put
put_twice k p f j = by (nat_eq j p) (nat_eq j k)
  where
    by : (a b : Bool) → (if a then true else if b then true else f j) ≡ (if b then true else if a then true else f j)
    by true true = refl
    by true false = refl
    by false true = refl
    by false false = refl

note_again : (p : ℕ) (f : ℕ → Bool) (j : ℕ) → put p true (put p true f) j ≡ put p true f j
unfolding put
note_again p f j = by (nat_eq j p)
  where
    by : (b : Bool) → (if b then true else if b then true else f j) ≡ (if b then true else f j)
    by true = refl
    by false = refl

-- a read that was noted before
pub noted : (k : ℕ) (s : State) → s.reads k ≡ true → note k s ≡ s
noted k s is = λ i. record { values = s.values; turns = s.turns; reads = λ j. put_true k s.reads is j i; ops = s.ops }

pub notes_swap : (k p : ℕ) (s : State) → note p (note k s) ≡ note k (note p s)
notes_swap k p s = λ i. record { values = s.values; turns = s.turns; reads = λ j. put_twice k p s.reads j i; ops = s.ops }

pub notes_twice : (p : ℕ) (s : State) → note p (note p s) ≡ note p s
notes_twice p s = λ i. record { values = s.values; turns = s.turns; reads = λ j. note_again p s.reads j i; ops = s.ops }

-- ---- what waits

module _ (known : List Known) where
  -- one waits
  met_waits : (k : ℕ) (o : Option Known) (p : ℕ) (behind : Met) → slice_get known k ≡ o → met_at o k behind ≡ M.Waiting p → (behind ≡ M.Waiting p → slice_get known p ≡ Some Waiting) → slice_get known p ≡ Some Waiting
  met_waits k None p behind at h next = next h
  met_waits k (Some Default) p behind at h next = next h
  met_waits k (Some Fixed) p behind at h next = next h
  met_waits k (Some Waiting) p behind at h next = let q : k ≡ p = cc h in ap (slice_get known) (sym q) ∙ at
  met_waits k (Some Given) p behind at h next = next h
  met_waits k (Some Nothing) p behind at h next = absurd (cc h)

  pub one_waits : (ks : List ℕ) (p : ℕ) → met known ks ≡ M.Waiting p → slice_get known p ≡ Some Waiting
  one_waits [] p h = absurd (cc h)
  one_waits (k ∷ ks) p h = met_waits k (slice_get known k) p (met known ks) refl h (λ later. one_waits ks p later)

-- ---- arguments

-- the state of a run with these values, which has read the inputs that it was given
abbrev pub state_with : Raw → List Known → List AnyValue → ℕ → ℕ → State
state_with code known values turns n = record { values = held_values code known values; turns = turns; reads = given_reads known; ops = n }

module _ (code : Raw) (from : Sources) (known : List Known) (values : List AnyValue) (fit : SourcesFit from known values) where
  abbrev Go : Type 0
  Go = List AnyValue → State → Outcome

  abbrev Here : ℕ → ℕ → State
  Here turns n = state_with code known values turns n

  -- what a symbol that is not connected holds
  held_own : (k : ℕ) → is_wired_at known k ≡ false → held_values code known values k ≡ argument values k
  held_own k not = ap (λ b. if b then zero_value (type_at code.symbols k) else argument values k) not

  -- one that is there
  read_own : (k turns n : ℕ) → from k ≡ Own → is_wired_at known k ≡ false → read from k (Here turns n) ≡ Gives (argument values k) (Here turns n)
  read_own k turns n is not = ap (λ i. read_from i k (Here turns n)) is ∙ ap (λ v. Gives v (Here turns n)) (held_own k not)

  read_given : (k turns n : ℕ) → from k ≡ Wired (Some (argument values k)) → slice_get known k ≡ Some Given → read from k (Here turns n) ≡ Gives (argument values k) (Here turns n)
  read_given k turns n is at =
      ap (λ i. read_from i k (Here turns n)) is ∙ ap (Gives (argument values k)) (noted k (Here turns n) (ap is_given at))

  -- all are there
  all_by : (k : ℕ) (o : Option Known) (behind : Met) (turns n : ℕ) → slice_get known k ≡ o → met_at o k behind ≡ M.All → (read from k (Here turns n) ≡ Gives (argument values k) (Here turns n)) × (behind ≡ M.All)
  all_by k None behind turns n at h = (read_own k turns n (subst (SourceFits (from k) (argument values k)) at (fit.each k)) (ap is_wired at), h)
  all_by k (Some Default) behind turns n at h = (read_own k turns n (subst (SourceFits (from k) (argument values k)) at (fit.each k)) (ap is_wired at), h)
  all_by k (Some Fixed) behind turns n at h = (read_own k turns n (subst (SourceFits (from k) (argument values k)) at (fit.each k)) (ap is_wired at), h)
  all_by k (Some Waiting) behind turns n at h = absurd (cc h)
  all_by k (Some Given) behind turns n at h = (read_given k turns n (subst (SourceFits (from k) (argument values k)) at (fit.each k)) at, h)
  all_by k (Some Nothing) behind turns n at h = absurd (cc h)

  pub arguments_all : (ks : List ℕ) (turns n : ℕ) (go : Go) → met known ks ≡ M.All → arguments from ks (Here turns n) go ≡ go (map (argument values) ks) (Here turns n)
  arguments_all [] turns n go h = refl
  arguments_all (k ∷ ks) turns n go h =
      let p = all_by k (slice_get known k) (met known ks) turns n refl h in
      ap (λ r. with_value r (λ v s1. arguments from ks s1 (λ vs s2. go (v ∷ vs) s2))) p.0 ∙ arguments_all ks turns n (λ vs s2. go (argument values k ∷ vs) s2) p.1

  -- one is nothing
  missing_by : (k : ℕ) (o : Option Known) (ks : List ℕ) (turns n : ℕ) (go : AnyValue → State → Outcome) → slice_get known k ≡ o → met_at o k (met known ks) ≡ M.Missing → (met known ks ≡ M.Missing → go (argument values k) (Here turns n) ≡ Spent (Here turns n)) → with_value (read from k (Here turns n)) go ≡ Spent (Here turns n)
  missing_by k None ks turns n go at h next = ap (λ r. with_value r go) (read_own k turns n (subst (SourceFits (from k) (argument values k)) at (fit.each k)) (ap is_wired at)) ∙ next h
  missing_by k (Some Default) ks turns n go at h next = ap (λ r. with_value r go) (read_own k turns n (subst (SourceFits (from k) (argument values k)) at (fit.each k)) (ap is_wired at)) ∙ next h
  missing_by k (Some Fixed) ks turns n go at h next = ap (λ r. with_value r go) (read_own k turns n (subst (SourceFits (from k) (argument values k)) at (fit.each k)) (ap is_wired at)) ∙ next h
  missing_by k (Some Waiting) ks turns n go at h next = absurd (cc h)
  missing_by k (Some Given) ks turns n go at h next =
      ap (λ r. with_value r go) (read_given k turns n (subst (SourceFits (from k) (argument values k)) at (fit.each k)) at) ∙ next h
  missing_by k (Some Nothing) ks turns n go at h next =
      ap (λ i. with_value (read_from i k (Here turns n)) go) (subst (SourceFits (from k) (argument values k)) at (fit.each k)) ∙ ap Spent (noted k (Here turns n) (ap is_given at))

  pub arguments_missing : (ks : List ℕ) (turns n : ℕ) (go : Go) → met known ks ≡ M.Missing → arguments from ks (Here turns n) go ≡ Spent (Here turns n)
  arguments_missing [] turns n go h = absurd (cc h)
  arguments_missing (k ∷ ks) turns n go h =
      missing_by k (slice_get known k) ks turns n (λ v s1. arguments from ks s1 (λ vs s2. go (v ∷ vs) s2)) refl h (λ later. arguments_missing ks turns n (λ vs s2. go (argument values k ∷ vs) s2) later)

  -- the read of a parameter that waits is noted, whatever it is
  wired_noted : (i : Source) (given : Option AnyValue) (p : ℕ) (s : State) (go : AnyValue → State → Outcome) → i ≡ Wired given → with_value (read_from i p s) go ≡ with_value (read_from i p (note p s)) go
  wired_noted i None p s go is =
      ap (λ x. with_value (read_from x p s) go) is ∙ ap Spent (sym (notes_twice p s)) ∙ ap (λ x. with_value (read_from x p (note p s)) go) (sym is)
  wired_noted i (Some v) p s go is =
      ap (λ x. with_value (read_from x p s) go) is ∙ ap (go v) (sym (notes_twice p s)) ∙ ap (λ x. with_value (read_from x p (note p s)) go) (sym is)

  own_noted : (i : Source) (k p : ℕ) (s : State) (go : AnyValue → State → Outcome) → i ≡ Own → ((v : AnyValue) (t : State) → go v t ≡ go v (note p t)) → with_value (read_from i k s) go ≡ with_value (read_from i k (note p s)) go
  own_noted i k p s go is next =
      ap (λ x. with_value (read_from x k s) go) is ∙ next (s.values k) s ∙ ap (λ x. with_value (read_from x k (note p s)) go) (sym is)

  given_noted : (i : Source) (v : AnyValue) (k p : ℕ) (s : State) (go : AnyValue → State → Outcome) → i ≡ Wired (Some v) → ((v : AnyValue) (t : State) → go v t ≡ go v (note p t)) → with_value (read_from i k s) go ≡ with_value (read_from i k (note p s)) go
  given_noted i v k p s go is next =
      ap (λ x. with_value (read_from x k s) go) is ∙ next v (note k s) ∙ ap (go v) (notes_swap k p s) ∙ ap (λ x. with_value (read_from x k (note p s)) go) (sym is)

  notes_by : (k : ℕ) (o : Option Known) (p : ℕ) (behind : Met) (s : State) (go : AnyValue → State → Outcome) → slice_get known k ≡ o → met_at o k behind ≡ M.Waiting p → (behind ≡ M.Waiting p → (v : AnyValue) (t : State) → go v t ≡ go v (note p t)) → with_value (read from k s) go ≡ with_value (read from k (note p s)) go
  notes_by k None p behind s go at h next = own_noted (from k) k p s go (subst (SourceFits (from k) (argument values k)) at (fit.each k)) (next h)
  notes_by k (Some Default) p behind s go at h next = own_noted (from k) k p s go (subst (SourceFits (from k) (argument values k)) at (fit.each k)) (next h)
  notes_by k (Some Fixed) p behind s go at h next = own_noted (from k) k p s go (subst (SourceFits (from k) (argument values k)) at (fit.each k)) (next h)
  notes_by k (Some Waiting) p behind s go at h next =
      let q : k ≡ p = cc h in
      let w = subst (SourceFits (from k) (argument values k)) at (fit.each k) in
      subst (λ x. with_value (read from k s) go ≡ with_value (read from k (note x s)) go) q (wired_noted (from k) w.0 k s go w.1)
  notes_by k (Some Given) p behind s go at h next =
      given_noted (from k) (argument values k) k p s go (subst (SourceFits (from k) (argument values k)) at (fit.each k)) (next h)
  notes_by k (Some Nothing) p behind s go at h next = absurd (cc h)

  pub arguments_note : (ks : List ℕ) (p : ℕ) (s : State) (go : Go) → met known ks ≡ M.Waiting p → arguments from ks s go ≡ arguments from ks (note p s) go
  arguments_note [] p s go h = absurd (cc h)
  arguments_note (k ∷ ks) p s go h =
      notes_by k (slice_get known k) p (met known ks) s (λ v s1. arguments from ks s1 (λ vs s2. go (v ∷ vs) s2)) refl h (λ later v t. arguments_note ks p t (λ vs s2. go (v ∷ vs) s2) later)

  -- and where it is nothing the run ends with it, with n ops counted
  abbrev pub EndsAt : ℕ → ℕ → Outcome → Type 0
  EndsAt p n o = (t : State) × (o ≡ Spent (note p t)) × (t.ops ≡ n)

  stops_by : (k : ℕ) (o : Option Known) (p n : ℕ) (behind : Met) (s : State) (go : AnyValue → State → Outcome) → slice_get known k ≡ o → from p ≡ Wired None → met_at o k behind ≡ M.Waiting p → s.ops ≡ n → (behind ≡ M.Waiting p → (v : AnyValue) (t : State) → t.ops ≡ n → EndsAt p n (go v t)) → EndsAt p n (with_value (read from k s) go)
  stops_by k None p n behind s go at none h count next =
      let e = next h (s.values k) s count in (e.0, ap (λ x. with_value (read_from x k s) go) (subst (SourceFits (from k) (argument values k)) at (fit.each k)) ∙ e.1, e.2)
  stops_by k (Some Default) p n behind s go at none h count next =
      let e = next h (s.values k) s count in (e.0, ap (λ x. with_value (read_from x k s) go) (subst (SourceFits (from k) (argument values k)) at (fit.each k)) ∙ e.1, e.2)
  stops_by k (Some Fixed) p n behind s go at none h count next =
      let e = next h (s.values k) s count in (e.0, ap (λ x. with_value (read_from x k s) go) (subst (SourceFits (from k) (argument values k)) at (fit.each k)) ∙ e.1, e.2)
  stops_by k (Some Waiting) p n behind s go at none h count next =
      let q : k ≡ p = cc h in
      (s, ap (λ x. with_value (read from x s) go) q ∙ ap (λ x. with_value (read_from x p s) go) none, count)
  stops_by k (Some Given) p n behind s go at none h count next =
      let e = next h (argument values k) (note k s) count in (e.0, ap (λ x. with_value (read_from x k s) go) (subst (SourceFits (from k) (argument values k)) at (fit.each k)) ∙ e.1, e.2)
  stops_by k (Some Nothing) p n behind s go at none h count next = absurd (cc h)

  pub arguments_stop : (ks : List ℕ) (p n : ℕ) (s : State) (go : Go) → from p ≡ Wired None → met known ks ≡ M.Waiting p → s.ops ≡ n → EndsAt p n (arguments from ks s go)
  arguments_stop [] p n s go none h count = absurd (cc h)
  arguments_stop (k ∷ ks) p n s go none h count =
      stops_by k (slice_get known k) p n (met known ks) s (λ v s1. arguments from ks s1 (λ vs s2. go (v ∷ vs) s2)) refl none h count (λ later v t same. arguments_stop ks p n t (λ vs s2. go (v ∷ vs) s2) none later same)

-- ---- one symbol that is read

-- what goes on with one argument
abbrev pub first_of : (AnyValue → State → Outcome) → List AnyValue → State → Outcome
first_of go [] s = Next s
first_of go (v ∷ vs) s = go v s

-- a test is a condition that is read
pub on_decide : (r : Reading) (go : State → Outcome) → on_test (decide r) go ≡ with_value r (λ v s. on_test (if is_so v then Holds s else Fails s) go)
on_decide (Gives v s) go = refl
on_decide (Spent s) go = refl
