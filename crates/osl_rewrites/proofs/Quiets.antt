-- A run is the run that does not count, but for the count.
use Rattle.std.proofs.Common.{◌≡◌, ℕ, zero, suc, ◌+◌, ◌<◌, ◌≤◌, List, [], ◌∷◌, length, filter, Option, Some, None, Bool, true, false, refl, sym, ap, ◌∙◌}
use Rattle.std.specs.Prelude.{slice_get, nat_lt, if◌then◌else◌}
use Rattle.std.proofs.lemmas.Bool.{lt-ltb, le-ltb}
use Rattle.osl_value.specs.declared.point.Point.{Point}
use Rattle.osl_value.specs.AnyValue.{AnyValue}
use Rattle.osl_value.specs.Apply.{apply}
use Rattle.osl_layer.specs.Layer.{Inputs}
use Rattle.oso_code.specs.CodeRun.{sources_of, is_run, start_of, run_sections, layer_run, layer_end, code_run}
use Rattle.oso_code.specs.Nesting.{IsClosed, AreNested}
use Rattle.oso_code.specs.Ranges.{steps_of}
use Rattle.oso_code.specs.Run.{State, write, note, ticked, with_turns, Source, Own, Wired, Held, Sources, read_from, Outcome, Next, Jumps, Spent, last, then_do, with_value, either, arguments, is_so, Holds, Fails, on_test, decide, test_after, take_turn, after_body, turn, loop, looped, call_end, Run, run_span, act, run, range}
use Rattle.oso_code.specs.Steps.{Break, Continue, Return, Exit, Step, Compute, Branch, Loop, Call, Leave}
use Rattle.oso_code.specs.declared.op.Section.{Section}
use Rattle.oso_code.specs.declared.raw.Raw.{Raw}
use Rattle.oso_code.proofs.Steady.{steady}
use Rattle.osl_rewrites.specs.Quiet.{with_ops, recounted, quiet, quiet_range, quiet_sections, quiet_layer}

pub quiet_more : (from : Sources) (steps : List Step) (f i e : ℕ) (s : State) → i < e → quiet from steps (suc f) i e s ≡ act from (quiet from steps f) (slice_get steps i) i e s
unfolding quiet
quiet_more from steps f i e s lt = ap (λ b. either b (λ s1. act from (quiet from steps f) (slice_get steps i) i e s1) Next s) (lt-ltb i e lt)

pub quiet_past : (from : Sources) (steps : List Step) (f i e : ℕ) (s : State) → e ≤ i → quiet from steps f i e s ≡ Next s
unfolding quiet
quiet_past from steps zero i e s le = refl
quiet_past from steps (suc f) i e s le = ap (λ b. either b (λ s1. act from (quiet from steps f) (slice_get steps i) i e s1) Next s) (le-ltb i e le)

module _ (n : ℕ) where
  -- the same ends, but for the count
  abbrev pub SameEnds : (State → Outcome) → (State → Outcome) → Type 0
  SameEnds go go' = (s : State) → recounted n (go s) ≡ go' (with_ops n s)

  pub then_same : (o o' : Outcome) (go go' : State → Outcome) → recounted n o ≡ o' → SameEnds go go' → recounted n (then_do o go) ≡ then_do o' go'
  then_same (Next s) o' go go' is h = h s ∙ ap (λ x. then_do x go') is
  then_same (Jumps way s) o' go go' is h = ap (λ x. then_do x go') is
  then_same (Spent s) o' go go' is h = ap (λ x. then_do x go') is

  read_same : (source : Source) (k : ℕ) (s : State) (go go' : AnyValue → State → Outcome) → ((v : AnyValue) → SameEnds (go v) (go' v)) → recounted n (with_value (read_from source k s) go) ≡ with_value (read_from source k (with_ops n s)) go'
  read_same Own k s go go' h = h (s.values k) s
  read_same (Wired None) k s go go' h = refl
  read_same (Wired (Some v)) k s go go' h = h v (note k s)
  read_same (Held v) k s go go' h = h v s

  arguments_same : (from : Sources) (ks : List ℕ) (s : State) (go go' : List AnyValue → State → Outcome) → ((vs : List AnyValue) → SameEnds (go vs) (go' vs)) → recounted n (arguments from ks s go) ≡ arguments from ks (with_ops n s) go'
  arguments_same from [] s go go' h = h [] s
  arguments_same from (k ∷ ks) s go go' h =
      read_same (from k) k s (λ v s1. arguments from ks s1 (λ vs s2. go (v ∷ vs) s2)) (λ v s1. arguments from ks s1 (λ vs s2. go' (v ∷ vs) s2)) (λ v s1. arguments_same from ks s1 (λ vs s2. go (v ∷ vs) s2) (λ vs s2. go' (v ∷ vs) s2) (λ vs. h (v ∷ vs)))

  either_same : (b : Bool) (x x' y y' : State → Outcome) → SameEnds x x' → SameEnds y y' → SameEnds (either b x y) (either b x' y')
  either_same true x x' y y' h g s = h s
  either_same false x x' y y' h g s = g s

  after_same : (o o' : Outcome) (go go' : State → Outcome) → recounted n o ≡ o' → SameEnds go go' → recounted n (after_body o go) ≡ after_body o' go'
  after_same (Next s) o' go go' is h = h s ∙ ap (λ x. after_body x go') is
  after_same (Jumps Break s) o' go go' is h = ap (λ x. after_body x go') is
  after_same (Jumps Continue s) o' go go' is h = h s ∙ ap (λ x. after_body x go') is
  after_same (Jumps Return s) o' go go' is h = ap (λ x. after_body x go') is
  after_same (Jumps Exit s) o' go go' is h = ap (λ x. after_body x go') is
  after_same (Spent s) o' go go' is h = ap (λ x. after_body x go') is

  take_same : (m : ℕ) (s : State) (go go' : State → Outcome) → SameEnds go go' → recounted n (take_turn m s go) ≡ take_turn m (with_ops n s) go'
  take_same zero s go go' h = refl
  take_same (suc m) s go go' h = h (with_turns m s)

  decided : (b : Bool) (s : State) (go go' : State → Outcome) → SameEnds go go' → recounted n (on_test (if b then Holds s else Fails s) go) ≡ on_test (if b then Holds (with_ops n s) else Fails (with_ops n s)) go'
  decided true s go go' h = h s
  decided false s go go' h = refl

  read_test : (source : Source) (k : ℕ) (s : State) (go go' : State → Outcome) → SameEnds go go' → recounted n (on_test (decide (read_from source k s)) go) ≡ on_test (decide (read_from source k (with_ops n s))) go'
  read_test Own k s go go' h = decided (is_so (s.values k)) s go go' h
  read_test (Wired None) k s go go' h = refl
  read_test (Wired (Some v)) k s go go' h = decided (is_so v) (note k s) go go' h
  read_test (Held v) k s go go' h = decided (is_so v) s go go' h

  test_same : (from : Sources) (c : ℕ) (o o' : Outcome) (go go' : State → Outcome) → recounted n o ≡ o' → SameEnds go go' → recounted n (on_test (test_after from c o) go) ≡ on_test (test_after from c o') go'
  test_same from c (Next s) o' go go' is h = read_test (from c) c s go go' h ∙ ap (λ x. on_test (test_after from c x) go') is
  test_same from c (Jumps way s) o' go go' is h = ap (λ x. on_test (test_after from c x) go') is
  test_same from c (Spent s) o' go go' is h = ap (λ x. on_test (test_after from c x) go') is

  turn_same : (body body' step step' rest rest' : State → Outcome) → SameEnds body body' → SameEnds step step' → SameEnds rest rest' → SameEnds (turn body step rest) (turn body' step' rest')
  turn_same body body' step step' rest rest' hb hs hr s =
      take_same s.turns s (λ s1. after_body (body s1) (λ s2. then_do (step s2) rest)) (λ s1. after_body (body' s1) (λ s2. then_do (step' s2) rest'))
      (λ s1. after_same (body s1) (body' (with_ops n s1)) (λ s2. then_do (step s2) rest) (λ s2. then_do (step' s2) rest') (hb s1) (λ s2. then_same (step s2) (step' (with_ops n s2)) rest rest' (hs s2) hr))

  loop_same : (m : ℕ) (from : Sources) (c : ℕ) (test test' body body' step step' : State → Outcome) → SameEnds test test' → SameEnds body body' → SameEnds step step'
      → SameEnds (loop m (λ s1. test_after from c (test s1)) body step) (loop m (λ s1. test_after from c (test' s1)) body' step')
  unfolding loop
  loop_same zero from c test test' body body' step step' ht hb hs s = test_same from c (test s) (test' (with_ops n s)) (λ s1. Spent s1) (λ s1. Spent s1) (ht s) (λ s1. refl)
  loop_same (suc m) from c test test' body body' step step' ht hb hs s =
      test_same from c (test s) (test' (with_ops n s)) (turn body step (loop m (λ s1. test_after from c (test s1)) body step)) (turn body' step' (loop m (λ s1. test_after from c (test' s1)) body' step')) (ht s)
      (turn_same body body' step step' (loop m (λ s1. test_after from c (test s1)) body step) (loop m (λ s1. test_after from c (test' s1)) body' step') hb hs (loop_same m from c test test' body body' step step' ht hb hs))

  looped_same : (tested : Bool) (from : Sources) (c : ℕ) (test test' body body' step step' : State → Outcome) → SameEnds test test' → SameEnds body body' → SameEnds step step'
      → SameEnds (looped tested (λ s1. test_after from c (test s1)) body step) (looped tested (λ s1. test_after from c (test' s1)) body' step')
  looped_same true from c test test' body body' step step' ht hb hs s = loop_same s.turns from c test test' body body' step step' ht hb hs s
  looped_same false from c test test' body body' step step' ht hb hs s =
      turn_same body body' step step' (λ s1. loop s1.turns (λ s2. test_after from c (test s2)) body step s1) (λ s1. loop s1.turns (λ s2. test_after from c (test' s2)) body' step' s1) hb hs
      (λ s1. loop_same s1.turns from c test test' body body' step step' ht hb hs s1) s

  call_same : (o o' : Outcome) → recounted n o ≡ o' → recounted n (call_end o) ≡ call_end o'
  call_same (Next s) o' is = ap call_end is
  call_same (Jumps Break s) o' is = ap call_end is
  call_same (Jumps Continue s) o' is = ap call_end is
  call_same (Jumps Return s) o' is = ap call_end is
  call_same (Jumps Exit s) o' is = ap call_end is
  call_same (Spent s) o' is = ap call_end is

  act_same : (from : Sources) (go go' : Run) → ((x y : ℕ) → SameEnds (go x y) (go' x y)) → (o : Option Step) (i e : ℕ) → SameEnds (act from go o i e) (act from go' o i e)
  act_same from go go' h None i e s = refl
  act_same from go go' h (Some (Compute name ty target sources)) i e s =
      arguments_same from sources s (λ vs s1. go (i + 1) e (write target (apply name ty vs) s1)) (λ vs s1. go' (i + 1) e (write target (apply name ty vs) s1)) (λ vs s1. h (i + 1) e (write target (apply name ty vs) s1))
  act_same from go go' h (Some (Branch c holds fails)) i e s =
      read_same (from c) c s (λ v s1. then_do (either (is_so v) (run_span go holds) (run_span go fails) s1) (go fails.end e)) (λ v s1. then_do (either (is_so v) (run_span go' holds) (run_span go' fails) s1) (go' fails.end e))
      (λ v s1. then_same (either (is_so v) (run_span go holds) (run_span go fails) s1) (either (is_so v) (run_span go' holds) (run_span go' fails) (with_ops n s1)) (go fails.end e) (go' fails.end e)
      (either_same (is_so v) (run_span go holds) (run_span go' holds) (run_span go fails) (run_span go' fails) (h holds.start holds.end) (h fails.start fails.end) s1) (h fails.end e))
  act_same from go go' h (Some (Loop tested c test body step)) i e s =
      then_same (looped tested (λ s1. test_after from c (run_span go test s1)) (run_span go body) (run_span go step) s) (looped tested (λ s1. test_after from c (run_span go' test s1)) (run_span go' body) (run_span go' step) (with_ops n s)) (go step.end e) (go' step.end e)
      (looped_same tested from c (run_span go test) (run_span go' test) (run_span go body) (run_span go' body) (run_span go step) (run_span go' step) (h test.start test.end) (h body.start body.end) (h step.start step.end) s) (h step.end e)
  act_same from go go' h (Some (Call body)) i e s =
      then_same (call_end (run_span go body s)) (call_end (run_span go' body (with_ops n s))) (go body.end e) (go' body.end e) (call_same (run_span go body s) (run_span go' body (with_ops n s)) (h body.start body.end s)) (h body.end e)
  act_same from go go' h (Some (Leave way)) i e s = refl

  pub counted : (from : Sources) (steps : List Step) (f i e : ℕ) → SameEnds (run from steps f i e) (quiet from steps f i e)
  unfolding run quiet
  counted from steps zero i e s = refl
  counted from steps (suc f) i e s =
      either_same (nat_lt i e) (λ s1. act from (run from steps f) (slice_get steps i) i e (ticked s1)) (λ s1. act from (quiet from steps f) (slice_get steps i) i e s1) Next Next
      (λ s1. act_same from (run from steps f) (quiet from steps f) (counted from steps f) (slice_get steps i) i e (ticked s1)) (λ s1. refl) s

  pub sections_counted : (from : Sources) (steps : List Step) (sections : List Section) → SameEnds (run_sections from steps sections) (quiet_sections from steps sections)
  sections_counted from steps [] s = refl
  sections_counted from steps (section ∷ sections) s =
      then_same (range from steps section.start section.end s) (quiet_range from steps section.start section.end (with_ops n s)) (run_sections from steps sections) (quiet_sections from steps sections) (counted from steps (length steps) section.start section.end s) (sections_counted from steps sections)

-- the bound does not matter, once it is enough
pub quiet_steady : (from : Sources) (steps : List Step) → AreNested steps → (f g i e : ℕ) (s : State) → IsClosed steps i e → e ≤ f + i → e ≤ g + i → quiet from steps f i e s ≡ quiet from steps g i e s
quiet_steady from steps nested f g i e s cl lf lg =
    sym (counted s.ops from steps f i e s) ∙ ap (recounted s.ops) (steady from steps nested f g i e s cl lf lg) ∙ counted s.ops from steps g i e s

-- what a layer gives and reads, by the run that does not count
same_results : (raw : Raw) (o : Outcome) → (layer_end raw o).results ≡ (layer_end raw (recounted 0 o)).results
same_results raw (Next s) = refl
same_results raw (Jumps way s) = refl
same_results raw (Spent s) = refl

same_reads : (o : Outcome) → (last o).reads ≡ (last (recounted 0 o)).reads
same_reads (Next s) = refl
same_reads (Jumps way s) = refl
same_reads (Spent s) = refl

pub layer_counted : (raw : Raw) (inputs : Inputs) (point : Point) (budget : ℕ) → recounted 0 (layer_run raw inputs point budget) ≡ quiet_layer raw inputs point budget
layer_counted raw inputs point budget = sections_counted 0 (sources_of raw inputs) (steps_of raw) (filter (is_run inputs) raw.sections) (start_of raw inputs point budget)

pub quiet_results : (raw : Raw) (inputs : Inputs) (point : Point) (budget : ℕ) → (code_run raw inputs point budget).results ≡ (layer_end raw (quiet_layer raw inputs point budget)).results
unfolding code_run
quiet_results raw inputs point budget = same_results raw (layer_run raw inputs point budget) ∙ ap (λ (o : Outcome). (layer_end raw o).results) (layer_counted raw inputs point budget)

pub quiet_reads : (raw : Raw) (inputs : Inputs) (point : Point) (budget : ℕ) → (code_run raw inputs point budget).reads ≡ (last (quiet_layer raw inputs point budget)).reads
unfolding code_run
quiet_reads raw inputs point budget = same_reads (layer_run raw inputs point budget) ∙ ap (λ o. (last o).reads) (layer_counted raw inputs point budget)
