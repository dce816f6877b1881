-- The bound of a run does not matter, once it is enough: what a range's first op does.
use Rattle.std.proofs.Common.{◌≡◌, ℕ, zero, suc, ◌+◌, ◌<◌, ◌≤◌, ⊎_elim, List, [], ◌∷◌, length, Option, Some, None, refl, sym, ap, ◌∙◌, arith}
use Rattle.std.specs.Prelude.{slice_get}
use Rattle.std.proofs.lemmas.Bool.{lt-ltb, le-ltb, cases_lt}
use Rattle.osl_value.specs.AnyValue.{AnyValue}
use Rattle.osl_value.specs.Apply.{apply}
use Rattle.oso_code.specs.Nesting.{IsClosed, IsInside, Nests, AreNested}
use Rattle.oso_code.specs.Run.{State, write, ticked, Sources, read, Outcome, Next, with_value, then_do, either, arguments, is_so, test_after, looped, call_end, Run, run_span, act, run, range}
use Rattle.oso_code.specs.Steps.{Span, Step, Compute, Branch, Loop, Call, Leave}

pub run_more : (from : Sources) (steps : List Step) (f i e : ℕ) (s : State) → i < e → run from steps (suc f) i e s ≡ act from (run from steps f) (slice_get steps i) i e (ticked s)
unfolding run
run_more from steps f i e s lt = ap (λ b. either b (λ s1. act from (run from steps f) (slice_get steps i) i e (ticked s1)) Next s) (lt-ltb i e lt)

pub run_past : (from : Sources) (steps : List Step) (f i e : ℕ) (s : State) → e ≤ i → run from steps f i e s ≡ Next s
unfolding run
run_past from steps zero i e s le = refl
run_past from steps (suc f) i e s le = ap (λ b. either b (λ s1. act from (run from steps f) (slice_get steps i) i e (ticked s1)) Next s) (le-ltb i e le)

pub closed_later : (steps : List Step) (i j e : ℕ) → i ≤ j → IsClosed steps i e → IsClosed steps j e
closed_later steps i j e le c = record { ends = λ k step a b at. c.ends k step (omega arith) b at }

module _ (from : Sources) (steps : List Step) where
  -- two ways to go on from arguments
  pub args_same : (ks : List ℕ) (s : State) (go go' : List AnyValue → State → Outcome) → ((vs : List AnyValue) (t : State) → go vs t ≡ go' vs t) → arguments from ks s go ≡ arguments from ks s go'
  args_same [] s go go' h = h [] s
  args_same (k ∷ ks) s go go' h =
      λ j. with_value (read from k s) (λ v s1. args_same ks s1 (λ vs s2. go (v ∷ vs) s2) (λ vs s2. go' (v ∷ vs) s2) (λ vs t. h (v ∷ vs) t) j)

  -- what two ways to run the ranges after the op at i of a range that ends at e have in common
  abbrev pub Agree : Run → Run → ℕ → ℕ → Type 0
  Agree go go' i e = (x y : ℕ) (t : State) → i < x → y ≤ e → IsClosed steps x y → go x y t ≡ go' x y t

  span_same : (go go' : Run) (i next e : ℕ) (span : Span) (t : State) → IsInside steps i next span → next ≤ e → Agree go go' i e → run_span go span t ≡ run_span go' span t
  span_same go go' i next e span t inside le h = h span.start span.end t inside.later (let w = inside.within in omega (arith, w, le)) inside.closed

  -- an op, by two ways to run the ranges after it
  act_same : (go go' : Run) (i e : ℕ) (step : Step) (s : State) → Nests steps i step → IsClosed steps i e → i < e → slice_get steps i ≡ Some step → Agree go go' i e → act from go (Some step) i e s ≡ act from go' (Some step) i e s
  act_same go go' i e (Compute name ty target sources) s nest cl lt at h =
      args_same sources s (λ vs s1. go (i + 1) e (write target (apply name ty vs) s1)) (λ vs s1. go' (i + 1) e (write target (apply name ty vs) s1)) (λ vs t. h (i + 1) e (write target (apply name ty vs) t) (omega arith) (omega arith) (closed_later steps i (i + 1) e (omega arith) cl))
  act_same go go' i e (Branch c holds fails) s nest cl lt at h =
      let l : fails.end ≤ e = cl.ends i (Branch c holds fails) (omega arith) lt at in
      let p = nest.1.later in let q = nest.1.ordered in
      λ j. with_value (read from c s) (λ v s1. then_do (either (is_so v) (λ t. span_same go go' i fails.end e holds t nest.0 l h j) (λ t. span_same go go' i fails.end e fails t nest.1 l h j) s1) (λ t. h fails.end e t (omega (arith, p, q)) (omega arith) (closed_later steps i fails.end e (omega (arith, p, q)) cl) j))
  act_same go go' i e (Loop tested c test body step) s nest cl lt at h =
      let l : step.end ≤ e = cl.ends i (Loop tested c test body step) (omega arith) lt at in
      let p = nest.2.later in let q = nest.2.ordered in
      λ j. then_do (looped tested (λ s1. test_after from c (span_same go go' i step.end e test s1 nest.0 l h j)) (λ t. span_same go go' i step.end e body t nest.1 l h j) (λ t. span_same go go' i step.end e step t nest.2 l h j) s) (λ t. h step.end e t (omega (arith, p, q)) (omega arith) (closed_later steps i step.end e (omega (arith, p, q)) cl) j)
  act_same go go' i e (Call body) s nest cl lt at h =
      let l : body.end ≤ e = cl.ends i (Call body) (omega arith) lt at in
      let p = nest.later in let q = nest.ordered in
      λ j. then_do (call_end (span_same go go' i body.end e body s nest l h j)) (λ t. h body.end e t (omega (arith, p, q)) (omega arith) (closed_later steps i body.end e (omega (arith, p, q)) cl) j)
  act_same go go' i e (Leave way) s nest cl lt at h = refl

  module _ (nested : AreNested steps) where
    -- the op at i, if there is one
    act_same_at : (go go' : Run) (i e : ℕ) (o : Option Step) (s : State) → slice_get steps i ≡ o → IsClosed steps i e → i < e → Agree go go' i e → act from go o i e s ≡ act from go' o i e s
    act_same_at go go' i e None s at cl lt h = refl
    act_same_at go go' i e (Some step) s at cl lt h = act_same go go' i e step s (nested.each i step at) cl lt at h

    pub steady : (f g i e : ℕ) (s : State) → IsClosed steps i e → e ≤ f + i → e ≤ g + i → run from steps f i e s ≡ run from steps g i e s
    steady zero g i e s cl lf lg = run_past from steps zero i e s (omega arith) ∙ sym (run_past from steps g i e s (omega arith))
    steady (suc f) zero i e s cl lf lg = run_past from steps (suc f) i e s (omega arith) ∙ sym (run_past from steps zero i e s (omega arith))
    steady (suc f) (suc g) i e s cl lf lg =
        ⊎_elim (λ lt. run_more from steps f i e s lt ∙ act_same_at (run from steps f) (run from steps g) i e (slice_get steps i) (ticked s) refl cl lt (λ x y t l1 l2 c. steady f g x y t c (omega arith) (omega arith)) ∙ sym (run_more from steps g i e s lt)) (λ le. run_past from steps (suc f) i e s le ∙ sym (run_past from steps (suc g) i e s le)) (cases_lt i e)

    first_by : (n i e : ℕ) (step : Step) (s : State) → n ≡ length steps → IsClosed steps i e → i < e → e ≤ n → slice_get steps i ≡ Some step → run from steps n i e s ≡ act from (run from steps n) (Some step) i e (ticked s)
    first_by zero i e step s is cl lt le at = absurd (omega arith)
    first_by (suc n) i e step s is cl lt le at =
        run_more from steps n i e s lt ∙ ap (λ o. act from (run from steps n) o i e (ticked s)) at ∙ act_same_at (run from steps n) (run from steps (suc n)) i e (Some step) (ticked s) at cl lt (λ x y t l1 l2 c. steady n (suc n) x y t c (omega arith) (omega arith))

    -- the first op of a range
    pub first_op : (i e : ℕ) (step : Step) (s : State) → IsClosed steps i e → i < e → e ≤ length steps → slice_get steps i ≡ Some step → range from steps i e s ≡ act from (range from steps) (Some step) i e (ticked s)
    first_op i e step s cl lt le at = first_by (length steps) i e step s refl cl lt le at
