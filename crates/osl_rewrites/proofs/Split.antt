-- A range that is run in two parts.
use Rattle.std.proofs.Common.{◌≡◌, ℕ, zero, suc, ◌+◌, ◌<◌, ◌≤◌, ⊎_elim, List, [], ◌∷◌, length, Option, Some, None, refl, sym, ap, ◌∙◌, arith}
use Rattle.std.specs.Prelude.{slice_get}
use Rattle.std.proofs.lemmas.Bool.{cases_lt}
use Rattle.osl_value.specs.AnyValue.{AnyValue}
use Rattle.osl_value.specs.Apply.{apply}
use Rattle.oso_code.specs.Nesting.{after, IsClosed, Nests, AreNested}
use Rattle.oso_code.specs.Run.{State, write, Sources, Reading, Gives, Spent, read, Outcome, Next, Jumps, then_do, with_value, either, arguments, is_so, test_after, looped, call_end, Run, run_span, act}
use Rattle.oso_code.specs.Steps.{Step, Compute, Branch, Loop, Call, Leave}
use Rattle.oso_code.proofs.Steady.{closed_later}
use Rattle.osl_rewrites.specs.Quiet.{quiet}
use Rattle.osl_rewrites.proofs.Quiets.{quiet_more, quiet_past, quiet_steady}
use Rattle.osl_rewrites.proofs.Uniform.{is_there}

then_then : (o : Outcome) (k h : State → Outcome) → then_do (then_do o k) h ≡ then_do o (λ s. then_do (k s) h)
then_then (Next s) k h = refl
then_then (Jumps way s) k h = refl
then_then (Spent s) k h = refl

with_then : (o : Reading) (k : AnyValue → State → Outcome) (h : State → Outcome) → then_do (with_value o k) h ≡ with_value o (λ v s. then_do (k v s) h)
with_then (Gives v s) k h = refl
with_then (Spent s) k h = refl

args_then : (from : Sources) (ks : List ℕ) (s : State) (k : List AnyValue → State → Outcome) (h : State → Outcome) → then_do (arguments from ks s k) h ≡ arguments from ks s (λ vs t. then_do (k vs t) h)
args_then from [] s k h = refl
args_then from (r ∷ rs) s k h =
    with_then (read from r s) (λ v s1. arguments from rs s1 (λ vs s2. k (v ∷ vs) s2)) h
    ∙ (λ j. with_value (read from r s) (λ v s1. args_then from rs s1 (λ vs s2. k (v ∷ vs) s2) h j))

module _ (from : Sources) (steps : List Step) where
  -- an op, where what follows it is parted at m
  act_split : (go : Run) (h : State → Outcome) (i m e : ℕ) (step : Step) (s : State) → Nests steps i step → i < m → after i step ≤ m → ((x : ℕ) (t : State) → i < x → x ≤ m → go x e t ≡ then_do (go x m t) h) → act from go (Some step) i e s ≡ then_do (act from go (Some step) i m s) h
  act_split go h i m e (Compute name ty target sources) s nest lt le k =
      (λ j. arguments from sources s (λ vs s1. k (i + 1) (write target (apply name ty vs) s1) (omega arith) le j))
      ∙ sym (args_then from sources s (λ vs s1. go (i + 1) m (write target (apply name ty vs) s1)) h)
  act_split go h i m e (Branch c holds fails) s nest lt le k =
      let p = nest.1.later in let q = nest.1.ordered in
      let at = λ (s1 : State) (v : AnyValue). either (is_so v) (run_span go holds) (run_span go fails) s1 in
      (λ j. with_value (read from c s) (λ v s1. then_do (at s1 v) (λ t. k fails.end t (omega (arith, p, q)) le j)))
      ∙ sym (λ j. with_value (read from c s) (λ v s1. then_then (at s1 v) (go fails.end m) h j))
      ∙ sym (with_then (read from c s) (λ v s1. then_do (at s1 v) (go fails.end m)) h)
  act_split go h i m e (Loop tested c test body step) s nest lt le k =
      let p = nest.2.later in let q = nest.2.ordered in
      let o = looped tested (λ s1. test_after from c (run_span go test s1)) (run_span go body) (run_span go step) s in
      (λ j. then_do o (λ t. k step.end t (omega (arith, p, q)) le j)) ∙ sym (then_then o (go step.end m) h)
  act_split go h i m e (Call body) s nest lt le k =
      let p = nest.later in let q = nest.ordered in
      (λ j. then_do (call_end (run_span go body s)) (λ t. k body.end t (omega (arith, p, q)) le j)) ∙ sym (then_then (call_end (run_span go body s)) (go body.end m) h)
  act_split go h i m e (Leave way) s nest lt le k = refl

  module _ (nested : AreNested steps) where
    split_at : (go : Run) (h : State → Outcome) (i m e : ℕ) (o : Option Step) (s : State) → slice_get steps i ≡ o → m ≤ length steps → IsClosed steps i m → i < m → ((x : ℕ) (t : State) → i < x → x ≤ m → go x e t ≡ then_do (go x m t) h) → act from go o i e s ≡ then_do (act from go o i m s) h
    split_at go h i m e None s at within cl lt k = absurd (is_there steps i at (omega arith))
    split_at go h i m e (Some step) s at within cl lt k = act_split go h i m e step s (nested.each i step at) lt (cl.ends i step (omega arith) lt at) k

    pub split : (f i m e : ℕ) (s : State) → IsClosed steps i m → IsClosed steps i e → i ≤ m → m ≤ e → m ≤ length steps → e ≤ f + i → quiet from steps f i e s ≡ then_do (quiet from steps f i m s) (quiet from steps f m e)
    split zero i m e s cm ce lm le within lf =
        quiet_past from steps zero i e s (omega arith) ∙ sym (ap (λ o. then_do o (quiet from steps zero m e)) (quiet_past from steps zero i m s (omega arith)) ∙ quiet_past from steps zero m e s (omega arith))
    split (suc f) i m e s cm ce lm le within lf =
        ⊎_elim
        (λ lt. quiet_more from steps f i e s (omega arith)
        ∙ split_at (quiet from steps f) (quiet from steps (suc f) m e) i m e (slice_get steps i) s refl within cm lt
        (λ x t l1 l2. split f x m e t (closed_later steps i x m (omega arith) cm) (closed_later steps i x e (omega arith) ce) l2 le within (omega arith)
        ∙ (λ j. then_do (quiet from steps f x m t) (λ u. quiet_steady from steps nested f (suc f) m e u (closed_later steps i m e lm ce) (omega arith) (omega arith) j)))
        ∙ sym (ap (λ o. then_do o (quiet from steps (suc f) m e)) (quiet_more from steps f i m s lt)))
        (λ ge. let q : i ≡ m = omega arith in
        sym (ap (λ o. then_do o (quiet from steps (suc f) m e)) (quiet_past from steps (suc f) i m s ge) ∙ ap (λ k. quiet from steps (suc f) k e s) (sym q)))
        (cases_lt i m)
