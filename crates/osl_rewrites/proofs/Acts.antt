-- What an op does where its condition or its arguments are known.
use Rattle.std.proofs.Common.{◌≡◌, ℕ, zero, suc, ◌+◌, List, [], ◌∷◌, Some, true, false, refl, sym, ap, ◌∙◌, arith}
use Rattle.std.specs.Prelude.{if◌then◌else◌}
use Rattle.osl_value.specs.declared.op_name.OpName.TheVariants.{Assign}
use Rattle.osl_value.specs.AnyValue.{AnyValue}
use Rattle.osl_value.specs.Apply.{apply}
use Rattle.oso_code.specs.Run.{State, write, Sources, Gives, read, read_from, Outcome, Next, Jumps, Spent, then_do, with_value, either, arguments, is_so, Holds, Fails, on_test, decide, test_after, turn, loop, call_end, Run, run_span, act}
use Rattle.oso_code.specs.Steps.{Span, span, Step, Compute, Branch, Loop, Call}
use Rattle.osl_rewrites.specs.Known.{Known, held_as, hold, AllKnown}
use Rattle.osl_rewrites.specs.Quiet.{quiet}
use Rattle.osl_rewrites.proofs.Quiets.{quiet_past}

module _ (known : Known) (from : Sources) where
  read_known : (k : ℕ) (v : AnyValue) (s : State) → known k ≡ Some v → read (hold known from) k s ≡ Gives v s
  read_known k v s is = ap (λ o. read_from (held_as o (from k)) k s) is

  args_known : (ks : List ℕ) (vs : List AnyValue) (s : State) (go : List AnyValue → State → Outcome) → AllKnown known ks vs → arguments (hold known from) ks s go ≡ go vs s
  args_known [] [] s go h = refl
  args_known [] (v ∷ vs) s go h = absurd h
  args_known (k ∷ ks) [] s go h = absurd h
  args_known (k ∷ ks) (v ∷ vs) s go h =
      ap (λ o. with_value o (λ v s1. arguments (hold known from) ks s1 (λ vs s2. go (v ∷ vs) s2))) (read_known k v s h.0)
      ∙ args_known ks vs s (λ vs s2. go (v ∷ vs) s2) h.1

  -- an op of known arguments is an assign of its value
  pub fold_act : (go : Run) (name : _) (ty : _) (target c : ℕ) (ks : List ℕ) (vs : List AnyValue) (i e : ℕ) (v : AnyValue) (s : State) → AllKnown known ks vs → known c ≡ Some v → apply name ty vs ≡ apply Assign ty (v ∷ [])
      → act (hold known from) go (Some (Compute name ty target ks)) i e s ≡ act (hold known from) go (Some (Compute Assign ty target (c ∷ []))) i e s
  fold_act go name ty target c ks vs i e v s always is same =
      args_known ks vs s (λ us s1. go (i + 1) e (write target (apply name ty us) s1)) always
      ∙ ap (λ u. go (i + 1) e (write target u s)) same
      ∙ sym (args_known (c ∷ []) (v ∷ []) s (λ us s1. go (i + 1) e (write target (apply Assign ty us) s1)) (is, tt))

  -- a known condition chooses a range
  pub branch_act : (go : Run) (c : ℕ) (holds fails : Span) (i e : ℕ) (v : AnyValue) (s : State) → known c ≡ Some v
      → act (hold known from) go (Some (Branch c holds fails)) i e s ≡ then_do (either (is_so v) (run_span go holds) (run_span go fails) s) (go fails.end e)
  branch_act go c holds fails i e v s is = ap (λ o. with_value o (λ v s1. then_do (either (is_so v) (run_span go holds) (run_span go fails) s1) (go fails.end e))) (read_known c v s is)

  test_fails : (c : ℕ) (v : AnyValue) (o : Outcome) (go : State → Outcome) → known c ≡ Some v → is_so v ≡ false → on_test (test_after (hold known from) c o) go ≡ o
  test_fails c v (Next s) go is t = ap (λ o. on_test (decide o) go) (read_known c v s is) ∙ ap (λ x. on_test (if x then Holds s else Fails s) go) t
  test_fails c v (Jumps way s) go is t = refl
  test_fails c v (Spent s) go is t = refl

  loop_fails : (n c : ℕ) (v : AnyValue) (test body step : State → Outcome) (s : State) → known c ≡ Some v → is_so v ≡ false → loop n (λ s1. test_after (hold known from) c (test s1)) body step s ≡ test s
  unfolding loop
  loop_fails zero c v test body step s is t = test_fails c v (test s) (λ s1. Spent s1) is t
  loop_fails (suc n) c v test body step s is t = test_fails c v (test s) (turn body step (loop n (λ s1. test_after (hold known from) c (test s1)) body step)) is t

  -- a `while` or `for` with a known zero runs its condition's range
  pub loop_act : (go : Run) (c : ℕ) (test body step : Span) (i e : ℕ) (v : AnyValue) (s : State) → known c ≡ Some v → is_so v ≡ false
      → act (hold known from) go (Some (Loop true c test body step)) i e s ≡ then_do (run_span go test s) (go step.end e)
  loop_act go c test body step i e v s is t = ap (λ o. then_do o (go step.end e)) (loop_fails s.turns c v (run_span go test) (run_span go body) (run_span go step) s is t)

-- a call of an empty range does nothing
pub call_nothing : (from : Sources) (steps : List Step) (f i e : ℕ) (s : State) → act from (quiet from steps f) (Some (Call (span (i + 1) (i + 1)))) i e s ≡ then_do (quiet from steps f (i + 1) (i + 1) s) (quiet from steps f (i + 1) e)
call_nothing from steps f i e s =
    ap (λ o. then_do (call_end o) (quiet from steps f (i + 1) e)) (quiet_past from steps f (i + 1) (i + 1) s (omega arith))
    ∙ sym (ap (λ o. then_do o (quiet from steps f (i + 1) e)) (quiet_past from steps f (i + 1) (i + 1) s (omega arith)))
