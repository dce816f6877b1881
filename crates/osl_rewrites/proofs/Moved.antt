-- Code of which ops were taken out, with the jumps led to where their ops went, runs as before.
use Rattle.std.proofs.Common.{◌≡◌, ℕ, zero, suc, ◌+◌, ◌<◌, ◌≤◌, ⊎_elim, List, Some, refl, sym, ap, ◌∙◌, subst, arith}
use Rattle.std.proofs.lemmas.Bool.{cases_lt}
use Rattle.osl_value.specs.Apply.{apply}
use Rattle.oso_code.specs.Nesting.{IsClosed, AreNested}
use Rattle.oso_code.specs.Run.{State, write, Sources, read, then_do, with_value, either, arguments, is_so, test_after, looped, call_end, Run, run_span, act}
use Rattle.oso_code.specs.Steps.{Span, Step, Compute, Branch, Loop, Call, Leave}
use Rattle.osl_rewrites.specs.Cut.{moved, moved_span, RunsIn, Parts, Stays, Goes, Fate, Kept, Gone, Moves}
use Rattle.osl_rewrites.specs.Quiet.{quiet}
use Rattle.osl_rewrites.proofs.Quiets.{quiet_more, quiet_past}
use Rattle.osl_rewrites.proofs.Split.{split}

module _ (from : Sources) (to : ℕ → ℕ) (Runs : ℕ → ℕ → Type 0) where
  abbrev Agree : Run → Run → ℕ → ℕ → Type 0
  Agree go go' i e = (x y : ℕ) (t : State) → i < x → y ≤ e → Runs x y → go x y t ≡ go' (to x) (to y) t

  span_moved : (go go' : Run) (i next e : ℕ) (s : Span) (t : State) → RunsIn Runs i next s → next ≤ e → Agree go go' i e → run_span go s t ≡ run_span go' (moved_span to s) t
  span_moved go go' i next e s t r le h = h s.start s.end t r.later (let w = r.within in omega (arith, w, le)) r.runs

  -- an op that stays, by two ways to run the ranges that follow it
  act_moved : (go go' : Run) (i e : ℕ) (step : Step) (s : State) → to (i + 1) ≡ to i + 1 → i < e → Parts Runs step i e → Agree go go' i e → act from go (Some step) i e s ≡ act from go' (Some (moved to step)) (to i) (to e) s
  act_moved go go' i e (Compute name ty target sources) s one lt parts h =
      (λ j. arguments from sources s (λ vs s1. h (i + 1) e (write target (apply name ty vs) s1) (omega arith) (omega arith) parts j))
      ∙ (λ j. arguments from sources s (λ vs s1. go' (one j) (to e) (write target (apply name ty vs) s1)))
  act_moved go go' i e (Branch c holds fails) s one lt parts h =
      let p = parts.2.later in let q = parts.2.ordered in
      λ j. with_value (read from c s) (λ v s1. then_do (either (is_so v) (λ t. span_moved go go' i fails.end e holds t parts.1 parts.0 h j) (λ t. span_moved go go' i fails.end e fails t parts.2 parts.0 h j) s1) (λ t. h fails.end e t (omega (arith, p, q)) (omega arith) parts.3 j))
  act_moved go go' i e (Loop tested c test body step) s one lt parts h =
      let p = parts.3.later in let q = parts.3.ordered in
      λ j. then_do (looped tested (λ s1. test_after from c (span_moved go go' i step.end e test s1 parts.1 parts.0 h j)) (λ t. span_moved go go' i step.end e body t parts.2 parts.0 h j) (λ t. span_moved go go' i step.end e step t parts.3 parts.0 h j) s) (λ t. h step.end e t (omega (arith, p, q)) (omega arith) parts.4 j)
  act_moved go go' i e (Call body) s one lt parts h =
      let p = parts.1.later in let q = parts.1.ordered in
      λ j. then_do (call_end (span_moved go go' i body.end e body s parts.1 parts.0 h j)) (λ t. h body.end e t (omega (arith, p, q)) (omega arith) parts.2 j)
  act_moved go go' i e (Leave way) s one lt parts h = refl

  module _ (old new : List Step) (nested : AreNested new) (moves : Moves from old new to Runs) where
    at_past : (f g i e : ℕ) (s : State) → e ≤ i → quiet from old f i e s ≡ quiet from new g (to i) (to e) s
    at_past f g i e s le = quiet_past from old f i e s le ∙ sym (quiet_past from new g (to i) (to e) s (moves.rises e i le))

    -- what is proved, at one bound
    abbrev pub Agrees : ℕ → Type 0
    Agrees f = (g i e : ℕ) (s : State) → Runs i e → e ≤ f + i → to e ≤ g + to i → quiet from old f i e s ≡ quiet from new g (to i) (to e) s

    at_kept : (f : ℕ) → Agrees f → (g i e : ℕ) (s : State) (step : Step) → i < e → e ≤ suc f + i → to e ≤ g + to i → Stays old new to Runs i e step → quiet from old (suc f) i e s ≡ quiet from new g (to i) (to e) s
    at_kept f ih zero i e s step lt lf lg k = absurd (let r = moves.rises (i + 1) e (omega arith) in omega (arith, r, k.one))
    at_kept f ih (suc g) i e s step lt lf lg k =
        let r = moves.rises (i + 1) e (omega arith) in
        quiet_more from old f i e s lt
        ∙ ap (λ o. act from (quiet from old f) o i e s) k.here
        ∙ act_moved (quiet from old f) (quiet from new g) i e step s k.one lt k.parts
        (λ x y t l1 l2 rs. let a = moves.rises (i + 1) x (omega arith) in let b = moves.rises y e l2 in ih g x y t rs (omega arith) (omega (arith, k.one)))
        ∙ sym (ap (λ o. act from (quiet from new g) o (to i) (to e) s) k.there)
        ∙ sym (quiet_more from new g (to i) (to e) s (omega (arith, r, k.one)))

    at_gone : (f : ℕ) → Agrees f → (g i e : ℕ) (s : State) (step : Step) (l m n : ℕ) → Runs i e → i < e → e ≤ suc f + i → to e ≤ g + to i → Goes from old to Runs i e step l m n → quiet from old (suc f) i e s ≡ quiet from new g (to i) (to e) s
    at_gone f ih g i e s step l m n runs lt lf lg k =
        let a = moves.rises l m k.order in let b = moves.rises n e k.within in
        let cm : IsClosed new (to i) (to m) = subst (λ x. IsClosed new x (to m)) k.first (moves.closed l m k.inner) in
        quiet_more from old f i e s lt
        ∙ ap (λ o. act from (quiet from old f) o i e s) k.here
        ∙ k.does f s
        ∙ (λ j. then_do (ih g l m s k.inner (omega (arith, k.later, k.order, k.ahead, k.within)) (omega (arith, k.first, k.rest)) j) (λ t. ih g n e t k.outer (omega (arith, k.later, k.order, k.ahead)) (omega (arith, k.first, k.rest)) j))
        ∙ (λ j. then_do (quiet from new g (k.first j) (to m) s) (quiet from new g (k.rest j) (to e)))
        ∙ sym (split from new nested g (to i) (to m) (to e) s cm (moves.closed i e runs) (omega (arith, k.first)) (omega (arith, k.rest)) (moves.bounded l m k.inner) lg)

    by_fate : (f : ℕ) → Agrees f → (g i e : ℕ) (s : State) → Runs i e → i < e → e ≤ suc f + i → to e ≤ g + to i → Fate from old new to Runs i e → quiet from old (suc f) i e s ≡ quiet from new g (to i) (to e) s
    by_fate f ih g i e s runs lt lf lg (Kept step k) = at_kept f ih g i e s step lt lf lg k
    by_fate f ih g i e s runs lt lf lg (Gone step l m n k) = at_gone f ih g i e s step l m n runs lt lf lg k

    pub moved_run : (f : ℕ) → Agrees f
    moved_run zero g i e s runs lf lg = at_past zero g i e s (omega arith)
    moved_run (suc f) g i e s runs lf lg =
        ⊎_elim (λ lt. by_fate f (moved_run f) g i e s runs lt lf lg (moves.each i e runs lt)) (λ le. at_past (suc f) g i e s le) (cases_lt i e)
