-- Two runs whose states are in one relation all along, of codes with the same ranges.
use Rattle.std.proofs.Common.{◌≡◌, ℕ, ◌+◌, ◌<◌, ◌≤◌, ⊎_elim, List, [], ◌∷◌, length, Option, Some, None, Bool, true, false, refl, arith}
use Rattle.std.specs.Prelude.{slice_get, nat_lt}
use Rattle.std.proofs.lemmas.Option.{slice_get_cases}
use Rattle.osl_value.specs.AnyValue.{AnyValue}
use Rattle.oso_code.specs.Nesting.{IsInside, AreNested}
use Rattle.oso_code.specs.Run.{State, write, with_turns, Sources, Outcome, read, arguments}
use Rattle.oso_code.specs.Steps.{Span, Way, Break, Continue, Return, Exit, Step, Compute, Branch, Loop, Call, Leave}
use Rattle.oso_code.proofs.Steady.{closed_later}
use Rattle.osl_rewrites.specs.Quiet.{quiet}
use Rattle.osl_rewrites.specs.Side.{Relation, Match, MatchReading, always, going_on, looping, calling, Into, Turning, whether, before_place, MayRun, IsControl, Twin, Same, Swapped, Part, Place, ByStep, ByBranch, ByLoop, ByCall}
use Rattle.osl_rewrites.proofs.Match.{weaken, with_match}
use Rattle.osl_rewrites.proofs.Side.{follow}

pub is_there : {X : Type 0} (xs : List X) (i : ℕ) → slice_get xs i ≡ None → i < length xs → ⊥
is_there xs i at lt = ⊎_elim (λ (x, a, is, d). cc (at, is)) (λ (le, n). omega arith) ((slice_get_cases xs i).1)

pub whether_same : (b : Bool) (A : Type 0) → A → whether b A A
whether_same true A a = a
whether_same false A a = a

pub same_whether : (b : Bool) (A : Type 0) → whether b A A → A
same_whether true A a = a
same_whether false A a = a

-- ranges of a range that may be run
pub runs_inside : (steps : List Step) (May : ℕ → Type 0) (i next e : ℕ) (span : Span) → MayRun steps May i e → IsInside steps i next span → next ≤ e → MayRun steps May span.start span.end
runs_inside steps May i next e span m in_it le =
    let a = in_it.later in let b = in_it.ordered in let c = in_it.within in let w = m.within in
    record { closed = in_it.closed; within = omega (arith, b, c, le, w); each = λ k x y. m.each k (omega (arith, a, x)) (omega (arith, y, c, le)) }

pub runs_later : (steps : List Step) (May : ℕ → Type 0) (i j e : ℕ) → i ≤ j → MayRun steps May i e → MayRun steps May j e
runs_later steps May i j e le m = record { closed = closed_later steps i j e le m.closed; within = m.within; each = λ k a b. m.each k (omega (arith, le, a)) b }

-- one list of arguments on both sides
module _ (from from' : Sources) (R : Relation) (reads : (k : ℕ) (s t : State) → R s t → MatchReading (always R) R (read from k s) (read from' k t)) where
  pub args_match : (ks : List ℕ) (s t : State) (go go' : List AnyValue → State → Outcome) → R s t → ((vs : List AnyValue) (a b : State) → R a b → Match (always R) (go vs a) (go' vs b)) → Match (always R) (arguments from ks s go) (arguments from' ks t go')
  args_match [] s t go go' r h = h [] s t r
  args_match (k ∷ ks) s t go go' q h =
      with_match (always R) R (read from k s) (read from' k t) (λ v s1. arguments from ks s1 (λ vs s2. go (v ∷ vs) s2)) (λ v s1. arguments from' ks s1 (λ vs s2. go' (v ∷ vs) s2)) (reads k s t q)
      (λ v a b p. args_match ks a b (λ vs s2. go (v ∷ vs) s2) (λ vs s2. go' (v ∷ vs) s2) p (λ vs c d x. h (v ∷ vs) c d x))

module _ (from from' : Sources) (steps new : List Step) (nested : AreNested steps) (May : ℕ → Type 0) (R : Relation)
    (reads : (k : ℕ) (s t : State) → R s t → MatchReading (always R) R (read from k s) (read from' k t))
    (turns : (s t : State) → R s t → s.turns ≡ t.turns) (taken : (n : ℕ) (s t : State) → R s t → R (with_turns n s) (with_turns n t))
    (Fine : ℕ → AnyValue → Type 0) (writes : (w : ℕ) (v : AnyValue) (s t : State) → Fine w v → R s t → R (write w v s) (write w v t))
    (twins : (i : ℕ) (step : Step) → May i → slice_get steps i ≡ Some step → Twin from from' new R Fine i step) where
  abbrev Runs : ℕ → ℕ → Unit {0} → Type 0
  Runs i e u = MayRun steps May i e

  anywhere : (i e : ℕ) (s t : State) → R s t → before_place (λ k. R) i e (always R) s t
  anywhere i e s t r = whether_same (nat_lt i e) (R s t) r

  nowhere : (i e : ℕ) (s t : State) → before_place (λ k. R) i e (always R) s t → R s t
  nowhere i e s t r = same_whether (nat_lt i e) (R s t) r

  abbrev Two : ℕ → ℕ → ℕ → ℕ → Relation
  Two i a b e s1 t1 = before_place (λ k. R) i a (always R) s1 t1 × before_place (λ k. R) b e (always R) s1 t1

  reads_c : (c i a b e : ℕ) (s t : State) → R s t → MatchReading (always R) (Two i a b e) (read from c s) (read from' c t)
  reads_c c i a b e s t r = weaken (always R) R (Two i a b e) (λ s1 t1 q. (anywhere i a s1 t1 q, anywhere b e s1 t1 q)) (read from c s) (read from' c t) (reads c s t r)

  turning : (i a : ℕ) → Turning (always R) (before_place (λ k. R) i a (always R))
  turning i a = record { same = λ s t r. turns s t (nowhere i a s t r); none = λ s t r. nowhere i a s t r; taken = λ n s t r. anywhere i a (with_turns n s) (with_turns n t) (taken n s t (nowhere i a s t r)) }

  goes_on : (b e : ℕ) → Into (always R) (going_on (before_place (λ k. R) b e (always R)) (always R))
  goes_on b e = record { next = λ s t r. anywhere b e s t r; jumps = λ way s t r. r; spent = λ s t r. r }

  out_of_loop : (i a b e : ℕ) → Into (always R) (looping (before_place (λ k. R) i a (always R)) (before_place (λ k. R) b e (always R)) (always R))
  out_of_loop i a b e = record { next = λ s t r. anywhere i a s t r; jumps = left; spent = λ s t r. r }
    where
      left : (way : Way) (s t : State) → R s t → (looping (before_place (λ k. R) i a (always R)) (before_place (λ k. R) b e (always R)) (always R)).jumps way s t
      left Break s t r = anywhere b e s t r
      left Continue s t r = anywhere i a s t r
      left Return s t r = r
      left Exit s t r = r

  out_of_call : (b e : ℕ) → Into (always R) (calling (before_place (λ k. R) b e (always R)) (always R))
  out_of_call b e = record { next = λ s t r. anywhere b e s t r; jumps = left; spent = λ s t r. r }
    where
      left : (way : Way) (s t : State) → R s t → (calling (before_place (λ k. R) b e (always R)) (always R)).jumps way s t
      left Break s t r = anywhere b e s t r
      left Continue s t r = anywhere b e s t r
      left Return s t r = anywhere b e s t r
      left Exit s t r = r

  entered : (tested : Bool) (i a b e : ℕ) (s t : State) → R s t → whether tested (before_place (λ k. R) i a (always R) s t) (before_place (λ k. R) b e (always R) s t)
  entered true i a b e s t r = anywhere i a s t r
  entered false i a b e s t r = anywhere b e s t r

  part : (i next e : ℕ) (span : Span) → MayRun steps May i e → IsInside steps i next span → next ≤ e → Part (Unit {0}) Runs i next span tt
  part i next e span m in_it le = record { later = in_it.later; within = in_it.within; runs = runs_inside steps May i next e span m in_it le }

  at_step : (i e : ℕ) (step : Step) → IsControl step → slice_get steps i ≡ Some step → slice_get new i ≡ Some step → Runs i e tt → i < e → Place from from' steps new (Unit {0}) (λ u. always R) Runs (λ k. R) i e tt
  at_step i e (Compute name ty target sources) control at there m lt = absurd control
  at_step i e (Branch c holds fails) control at there m lt =
      let nest = nested.each i (Branch c holds fails) at in
      let l : fails.end ≤ e = m.closed.ends i (Branch c holds fails) (omega arith) lt at in
      let p = nest.1.later in let q = nest.1.ordered in
      ByBranch c c holds fails at there (omega (arith, p, q)) l tt tt (part i fails.end e holds m nest.0 l) (part i fails.end e fails m nest.1 l) (runs_later steps May i fails.end e (omega (arith, p, q)) m)
      (goes_on fails.end e) (goes_on fails.end e) (λ s t r. reads_c c holds.start holds.end fails.start fails.end s t r)
  at_step i e (Loop tested c test body step) control at there m lt =
      let nest = nested.each i (Loop tested c test body step) at in
      let l : step.end ≤ e = m.closed.ends i (Loop tested c test body step) (omega arith) lt at in
      let p = nest.2.later in let q = nest.2.ordered in
      ByLoop tested c c test body step at there (omega (arith, p, q)) l tt tt tt (part i step.end e test m nest.0 l) (part i step.end e body m nest.1 l) (part i step.end e step m nest.2 l) (runs_later steps May i step.end e (omega (arith, p, q)) m)
      (record { next = λ s t r. r; jumps = λ way s t r. r; spent = λ s t r. r }) (out_of_loop step.start step.end step.end e) (goes_on test.start test.end)
      (λ s t r. reads_c c body.start body.end step.end e s t r) (turning body.start body.end) (turning test.start test.end) (λ s t r. entered tested test.start test.end body.start body.end s t r)
  at_step i e (Call body) control at there m lt =
      let nest = nested.each i (Call body) at in
      let l : body.end ≤ e = m.closed.ends i (Call body) (omega arith) lt at in
      let p = nest.later in let q = nest.ordered in
      ByCall body at there (omega (arith, p, q)) l tt (part i body.end e body m nest l) (runs_later steps May i body.end e (omega (arith, p, q)) m)
      (out_of_call body.end e) (λ s t r. anywhere body.start body.end s t r)
  at_step i e (Leave way) control at there m lt = ByStep (Leave way) (Leave way) at there (runs_later steps May i (i + 1) e (omega arith) m) (λ go go' past on s t r. (t, refl, r))

  at_twin : (i e : ℕ) (step : Step) → slice_get steps i ≡ Some step → Twin from from' new R Fine i step → Runs i e tt → i < e → Place from from' steps new (Unit {0}) (λ u. always R) Runs (λ k. R) i e tt
  at_twin i e step at (Same _ control there) m lt = at_step i e step control at there m lt
  at_twin i e _ at (Swapped name ty target sources name' sources' there swap) m lt =
      ByStep (Compute name ty target sources) (Compute name' ty target sources') at there (runs_later steps May i (i + 1) e (omega arith) m)
      (λ go go' past on s t r. swap (λ v s1. go (i + 1) e (write target v s1)) (λ v s1. go' (i + 1) e (write target v s1))
      (λ v a b fine q. on (write target v a) (write target v b) (anywhere (i + 1) e (write target v a) (write target v b) (writes target v a b fine q))) s t r)

  at_any : (i e : ℕ) (o : Option Step) → slice_get steps i ≡ o → Runs i e tt → i < e → Place from from' steps new (Unit {0}) (λ u. always R) Runs (λ k. R) i e tt
  at_any i e None at m lt = absurd (is_there steps i at (let w = m.within in omega (arith, w, lt)))
  at_any i e (Some step) at m lt = at_twin i e step at (twins i step (m.each i (omega arith) lt) at) m lt

  pub uniform : (f i e : ℕ) (s t : State) → MayRun steps May i e → e ≤ f + i → R s t → Match (always R) (quiet from steps f i e s) (quiet from' new f i e t)
  uniform f i e s t m lf r =
      follow from from' steps new (Unit {0}) (λ u. always R) Runs (λ k. R) (λ x y u runs lt. at_any x y (slice_get steps x) refl runs lt) f i e tt s t m lf (anywhere i e s t r)
