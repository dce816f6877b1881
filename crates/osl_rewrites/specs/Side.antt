-- Two runs side by side: what holds of their states at each way to end.
use Rattle.std.specs.Prelude.{◌≡◌, ℕ, ◌+◌, ◌<◌, ◌≤◌, List, Some, Bool, true, false, nat_lt, length, slice_get}
use Rattle.osl_value.specs.declared.op_name.OpName.{OpName}
use Rattle.osl_value.specs.declared.types.Ty.{Ty}
use Rattle.osl_value.specs.AnyValue.{AnyValue}
use Rattle.osl_value.specs.Apply.{apply}
use Rattle.oso_code.specs.Nesting.{IsClosed}
use Rattle.oso_code.specs.Run.{State, with_turns, Sources, Reading, Gives, Spent, read, arguments, Outcome, Next, Jumps, Tested, Holds, Fails, Ends, Run, act}
use Rattle.oso_code.specs.Steps.{Span, Way, Break, Continue, Return, Exit, Step, Compute, Branch, Loop, Call, Leave}

-- a relation of two states
abbrev pub Relation : Type 1
Relation = State → State → Type 0

-- what holds where both ranges end one way
pub record AtEnds : Type 1 where
  pub next : Relation
  pub jumps : Way → Relation
  pub spent : Relation

-- both end the same way, in related states
abbrev pub Match : AtEnds → Outcome → Outcome → Type 0
Match k (Next s) o = (t : State) × (o ≡ Next t) × k.next s t
Match k (Jumps way s) o = (t : State) × (o ≡ Jumps way t) × k.jumps way s t
Match k (Spent s) o = (t : State) × (o ≡ Spent t) × k.spent s t

-- both read one value, or both nothing
abbrev pub MatchReading : AtEnds → Relation → Reading → Reading → Type 0
MatchReading k R (Gives v s) o = (t : State) × (o ≡ Gives v t) × R s t
MatchReading k R (Spent s) o = (t : State) × (o ≡ Spent t) × k.spent s t

-- both tests hold, or fail, or end the loop in the same way
abbrev pub MatchTested : Relation → Relation → AtEnds → Tested → Tested → Type 0
MatchTested good bad k (Holds s) o = (t : State) × (o ≡ Holds t) × good s t
MatchTested good bad k (Fails s) o = (t : State) × (o ≡ Fails t) × bad s t
MatchTested good bad k (Ends o1) o = (o2 : Outcome) × (o ≡ Ends o2) × Match k o1 o2

-- the same, where the range goes on with R
abbrev pub going_on : Relation → AtEnds → AtEnds
going_on R k = record { next = R; jumps = k.jumps; spent = k.spent }

-- of a loop's body: on to the step, or out
abbrev pub out_of_body : Relation → Relation → (Way → Relation) → Way → Relation
out_of_body step out jumps Break = out
out_of_body step out jumps Continue = step
out_of_body step out jumps Return = jumps Return
out_of_body step out jumps Exit = jumps Exit

-- what holds at the ends of a loop's body
abbrev pub looping : Relation → Relation → AtEnds → AtEnds
looping step out k = record { next = step; jumps = out_of_body step out k.jumps; spent = k.spent }

-- of a called range
abbrev pub out_of_call : Relation → (Way → Relation) → Way → Relation
out_of_call R jumps Break = R
out_of_call R jumps Continue = R
out_of_call R jumps Return = R
out_of_call R jumps Exit = jumps Exit

-- what holds at the ends of a called range
abbrev pub calling : Relation → AtEnds → AtEnds
calling R k = record { next = R; jumps = out_of_call R k.jumps; spent = k.spent }

-- what ends as a says ends as b says
pub record Into (a b : AtEnds) : Type 0 where
  pub next : (s t : State) → a.next s t → b.next s t
  pub jumps : (way : Way) (s t : State) → a.jumps way s t → b.jumps way s t
  pub spent : (s t : State) → a.spent s t → b.spent s t

-- before a turn: turns agree, and one may be taken or missing
pub record Turning (k : AtEnds) (R : Relation) : Type 0 where
  pub same : (s t : State) → R s t → s.turns ≡ t.turns
  pub none : (s t : State) → R s t → k.spent s t
  pub taken : (n : ℕ) (s t : State) → R s t → R (with_turns n s) (with_turns n t)

-- one or the other type, by a test
abbrev pub whether : Bool → Type 0 → Type 0 → Type 0
whether true A B = A
whether false A B = B

-- what holds before place i of a range that ends at e
abbrev pub before_place : (ℕ → Relation) → ℕ → ℕ → AtEnds → Relation
before_place B i e k s t = whether (nat_lt i e) (B i s t) (k.next s t)

-- what holds before a span is run
abbrev pub before : (ℕ → Relation) → Span → AtEnds → Relation
before B span k = before_place B span.start span.end k

-- an op that runs no range, or does nothing
abbrev pub Steps : (from from' : Sources) → (ℕ → Relation) → ℕ → ℕ → AtEnds → Step → Step → Type 0
Steps from from' B i e k step step' =
    (go go' : Run) → ((x : ℕ) (t : State) → go' x x t ≡ Next t)
    → ((s t : State) → before_place B (i + 1) e k s t → Match k (go (i + 1) e s) (go' (i + 1) e t))
    → (s t : State) → B i s t → Match k (act from go (Some step) i e s) (act from' go' (Some step') i e t)

-- one relation at every end
abbrev pub always : Relation → AtEnds
always R = record { next = R; jumps = λ way. R; spent = R }

-- a range that may be run: closed, and every place in it may be run
pub record MayRun (steps : List Step) (May : ℕ → Type 0) (i e : ℕ) : Type 0 where
  pub closed : IsClosed steps i e
  pub within : e ≤ length steps
  pub each : (k : ℕ) → i ≤ k → k < e → May k

-- two ops that write one symbol: from related states both read, or both stop, and go on with one value, which is fine
abbrev pub Swap : Sources → Sources → Relation → (AnyValue → Type 0) → OpName → Ty → List ℕ → OpName → List ℕ → Type 0
Swap from from' R Fine name ty sources name' sources' =
    (go go' : AnyValue → State → Outcome) → ((v : AnyValue) (a b : State) → Fine v → R a b → Match (always R) (go v a) (go' v b))
    → (s t : State) → R s t → Match (always R) (arguments from sources s (λ vs s1. go (apply name ty vs) s1)) (arguments from' sources' t (λ vs t1. go' (apply name' ty vs) t1))

-- the step writes no symbol
abbrev pub IsControl : Step → Type 0
IsControl (Compute name ty target sources) = ⊥
IsControl (Branch c holds fails) = Unit {0}
IsControl (Loop tested c test body step) = Unit {0}
IsControl (Call body) = Unit {0}
IsControl (Leave way) = Unit {0}

-- one control op in both codes, or two ops that write the same
pub data Twin (from from' : Sources) (new : List Step) (R : Relation) (Fine : ℕ → AnyValue → Type 0) (i : ℕ) : Step → Type 0 where
  Same : (step : Step) → IsControl step → slice_get new i ≡ Some step → Twin from from' new R Fine i step
  Swapped : (name : OpName) (ty : Ty) (target : ℕ) (sources : List ℕ) (name' : OpName) (sources' : List ℕ) → slice_get new i ≡ Some (Compute name' ty target sources') → Swap from from' R (Fine target) name ty sources name' sources' → Twin from from' new R Fine i (Compute name ty target sources)

-- a range of the op at i, which may be run in this context
pub record Part (C : Type 0) (Runs : ℕ → ℕ → C → Type 0) (i next : ℕ) (span : Span) (c : C) : Type 0 where
  pub later : i < span.start
  pub within : span.end ≤ next
  pub runs : Runs span.start span.end c

-- a place of two codes that have the same ranges. C is what a range is run in, and B what holds before an op
pub data Place (from from' : Sources) (old new : List Step) (C : Type 0) (both : C → AtEnds) (Runs : ℕ → ℕ → C → Type 0) (B : ℕ → Relation) (i e : ℕ) (k : C) : Type 0 where
  ByStep : (step step' : Step) → slice_get old i ≡ Some step → slice_get new i ≡ Some step' → Runs (i + 1) e k → Steps from from' B i e (both k) step step' → Place from from' old new C both Runs B i e k
  ByBranch : (c c' : ℕ) (holds fails : Span) → slice_get old i ≡ Some (Branch c holds fails) → slice_get new i ≡ Some (Branch c' holds fails) → i < fails.end → fails.end ≤ e
      → (one two : C) → Part C Runs i fails.end holds one → Part C Runs i fails.end fails two → Runs fails.end e k
      → Into (both one) (going_on (before_place B fails.end e (both k)) (both k)) → Into (both two) (going_on (before_place B fails.end e (both k)) (both k))
      → ((s t : State) → B i s t → MatchReading (both k) (λ s1 t1. before B holds (both one) s1 t1 × before B fails (both two) s1 t1) (read from c s) (read from' c' t))
      → Place from from' old new C both Runs B i e k
  ByLoop : (tested : Bool) (c c' : ℕ) (test body step : Span) → slice_get old i ≡ Some (Loop tested c test body step) → slice_get new i ≡ Some (Loop tested c' test body step) → i < step.end → step.end ≤ e
      → (one two three : C) → Part C Runs i step.end test one → Part C Runs i step.end body two → Part C Runs i step.end step three → Runs step.end e k
      → Into (both one) (going_on (both one).next (both k))
      → Into (both two) (looping (before B step (both three)) (before_place B step.end e (both k)) (both k))
      → Into (both three) (going_on (before B test (both one)) (both k))
      → ((s t : State) → (both one).next s t → MatchReading (both k) (λ s1 t1. before B body (both two) s1 t1 × before_place B step.end e (both k) s1 t1) (read from c s) (read from' c' t))
      → Turning (both k) (before B body (both two)) → Turning (both k) (before B test (both one))
      → ((s t : State) → B i s t → whether tested (before B test (both one) s t) (before B body (both two) s t))
      → Place from from' old new C both Runs B i e k
  ByCall : (body : Span) → slice_get old i ≡ Some (Call body) → slice_get new i ≡ Some (Call body) → i < body.end → body.end ≤ e
      → (inner : C) → Part C Runs i body.end body inner → Runs body.end e k
      → Into (both inner) (calling (before_place B body.end e (both k)) (both k))
      → ((s t : State) → B i s t → before B body (both inner) s t)
      → Place from from' old new C both Runs B i e k

-- states that agree on all but the count
pub record SameState (s t : State) : Type 0 where
  pub values : (k : ℕ) → s.values k ≡ t.values k
  pub turns : s.turns ≡ t.turns
  pub reads : s.reads ≡ t.reads

-- the same end, in such states
abbrev pub SameEnd : Outcome → Outcome → Type 0
SameEnd (Next s) o = (t : State) × (o ≡ Next t) × SameState s t
SameEnd (Jumps way s) o = (t : State) × (o ≡ Jumps way t) × SameState s t
SameEnd (Spent s) o = (t : State) × (o ≡ Spent t) × SameState s t
