-- Ways through code, and what is live on them.
use Rattle.std.specs.Prelude.{◌≡◌, ℕ, ◌+◌, ◌<◌, ◌⊎◌, List, [], ◌∷◌, Option, Some, None, Bool, true, false, nat_lt, if◌then◌else◌, slice_get}
use Rattle.oso_code.specs.Steps.{Span, Way, Break, Continue, Return, Exit, Step, Compute, Branch, Loop, Call, Leave}
use Rattle.oso_code.specs.Uses.{reads_on_entry, reads_in_test, written_by}
use Rattle.oso_code.specs.declared.op.Section.{Section}
use Rattle.osl_rewrites.specs.declared.point.Around.{Around}
use Rattle.osl_rewrites.specs.declared.point.Spot.{Spot}
use Rattle.osl_rewrites.specs.declared.point.Spot.TheVariants.{At, Test, Gate, Done}

-- where a way out of a range leads
abbrev pub left_to : Around → Way → Spot
left_to a Break = a.breaks
left_to a Continue = a.continues
left_to a Return = a.returns
left_to a Exit = Done

-- from place i of a range on
abbrev pub first : ℕ → Around → Spot
first i a = if nat_lt i a.end then At i else a.next

-- from the start of a span that is run within a range
abbrev pub entry : Span → Around → Spot
entry s a = first s.start a

-- a range of an op, which is followed by this spot and left as the range around the op is
abbrev pub part : Span → Spot → Around → Around
part s next a = record { end = s.end; next = next; breaks = a.breaks; continues = a.continues; returns = a.returns }

-- around a range of an `if`
abbrev pub within_branch : Span → Span → Around → Around
within_branch s fails a = part s (first fails.end a) a

-- around the range of a loop's condition
abbrev pub within_test : ℕ → Span → Around → Around
within_test i test a = part test (Test i) a

-- a loop's step is followed by its test
abbrev pub within_step : ℕ → Span → Span → Around → Around
within_step i test step a = part step (entry test (within_test i test a)) a

-- around a loop's body: `continue` goes on with the step, `break` after the loop
abbrev pub within_body : ℕ → Span → Span → Span → Around → Around
within_body i test body step a =
    let on = entry step (within_step i test step a) in
    record { end = body.end; next = on; breaks = first step.end a; continues = on; returns = a.returns }

-- around a called range: all ways but an exit go on after the call
abbrev pub within_call : Span → Around → Around
within_call body a = let on = first body.end a in record { end = body.end; next = on; breaks = on; continues = on; returns = on }

-- a section is followed by the gate of the next
abbrev pub within_section : ℕ → Section → Around
within_section j section = record { end = section.end; next = Gate (j + 1); breaks = Done; continues = Done; returns = Done }

-- ---- a table of what is around each op

-- the table says this of the range that begins at i, if it is not empty
abbrev pub IsAround : (ℕ → Around) → ℕ → Around → Type 0
IsAround around i a = i < a.end → around i ≡ a

-- the table is right on the ranges of the op at i, and on what follows it
abbrev pub Inner : (ℕ → Around) → ℕ → Step → Around → Type 0
Inner around i (Compute name ty target sources) a = IsAround around (i + 1) a
Inner around i (Branch c holds fails) a = IsAround around holds.start (within_branch holds fails a) × IsAround around fails.start (within_branch fails fails a) × IsAround around fails.end a
Inner around i (Loop tested c test body step) a =
    IsAround around test.start (within_test i test a) × IsAround around body.start (within_body i test body step a) × IsAround around step.start (within_step i test step a) × IsAround around step.end a
Inner around i (Call body) a = IsAround around body.start (within_call body a) × IsAround around body.end a
Inner around i (Leave way) a = IsAround around (i + 1) a

-- the table is right on all sections and on all ops
pub record Surrounds (steps : List Step) (sections : List Section) (around : ℕ → Around) : Type 0 where
  pub start : (j : ℕ) (section : Section) → slice_get sections j ≡ Some section → IsAround around section.start (within_section j section)
  pub each : (i : ℕ) (step : Step) → slice_get steps i ≡ Some step → Inner around i step (around i)

-- ---- ways

-- where a way may go on from an op
abbrev pub nexts_of : ℕ → Around → Step → List Spot
nexts_of i a (Compute name ty target sources) = first (i + 1) a ∷ []
nexts_of i a (Branch c holds fails) = entry holds (within_branch holds fails a) ∷ entry fails (within_branch fails fails a) ∷ []
nexts_of i a (Loop true c test body step) = entry test (within_test i test a) ∷ []
nexts_of i a (Loop false c test body step) = entry body (within_body i test body step a) ∷ []
nexts_of i a (Call body) = entry body (within_call body a) ∷ []
nexts_of i a (Leave way) = left_to a way ∷ []

-- and from where a loop's condition is read
abbrev pub test_nexts : ℕ → Around → Step → List Spot
test_nexts i a (Loop tested c test body step) = entry body (within_body i test body step a) ∷ first step.end a ∷ []
test_nexts i a step = []

-- from the gate of a section: into it, and where it is a parameter's, past it
abbrev pub gate_nexts : ℕ → Section → List Spot
gate_nexts j section = first section.start (within_section j section) ∷ elim (section.param) [ None ↦ [] | Some p ↦ Gate (j + 1) ∷ [] ]

-- where a way may go on from a spot, what is read there and what is written
abbrev pub nexts : List Step → List Section → (ℕ → Around) → Spot → List Spot
nexts steps sections around (At i) = elim (slice_get steps i) [ None ↦ [] | Some step ↦ nexts_of i (around i) step ]
nexts steps sections around (Test i) = elim (slice_get steps i) [ None ↦ [] | Some step ↦ test_nexts i (around i) step ]
nexts steps sections around (Gate j) = elim (slice_get sections j) [ None ↦ Done ∷ [] | Some section ↦ gate_nexts j section ]
nexts steps sections around Done = []

-- the symbols that are read at a spot
abbrev pub reads_at : List Step → Spot → List ℕ
reads_at steps (At i) = elim (slice_get steps i) [ None ↦ [] | Some step ↦ reads_on_entry step ]
reads_at steps (Test i) = elim (slice_get steps i) [ None ↦ [] | Some step ↦ reads_in_test step ]
reads_at steps (Gate j) = []
reads_at steps Done = []

-- the symbol that is written at a spot
abbrev pub writes_at : List Step → Spot → Option ℕ
writes_at steps (At i) = elim (slice_get steps i) [ None ↦ None | Some step ↦ written_by step ]
writes_at steps (Test i) = None
writes_at steps (Gate j) = None
writes_at steps Done = None

-- the symbol is in the list
abbrev pub In : ℕ → List ℕ → Type 0
In k [] = ⊥
In k (x ∷ xs) = (k ≡ x) ⊎ In k xs

-- the spot is in the list
abbrev pub Among : Spot → List Spot → Type 0
Among p [] = ⊥
Among p (q ∷ qs) = (p ≡ q) ⊎ Among p qs

-- some way from here reads the symbol before it overwrites it, or comes to the end where it is asked, without overwriting it
pub data Live (steps : List Step) (sections : List Section) (around : ℕ → Around) (asked : ℕ → Bool) (k : ℕ) : Spot → Type 0 where
  Reads : (p : Spot) → In k (reads_at steps p) → Live steps sections around asked k p
  Passes : (p q : Spot) → Among q (nexts steps sections around p) → (writes_at steps p ≡ Some k → ⊥) → Live steps sections around asked k q → Live steps sections around asked k p
  Asked : asked k ≡ true → Live steps sections around asked k Done

-- live after the op at i
abbrev pub LiveAfter : List Step → List Section → (ℕ → Around) → (ℕ → Bool) → ℕ → ℕ → Type 0
LiveAfter steps sections around asked i k = (q : Spot) × Among q (nexts steps sections around (At i)) × Live steps sections around asked k q

-- rows that hold what is live
pub record Settled (steps : List Step) (sections : List Section) (around : ℕ → Around) (asked : ℕ → Bool) (row : Spot → ℕ → Bool) : Type 0 where
  pub read : (p : Spot) (k : ℕ) → In k (reads_at steps p) → row p k ≡ true
  pub pass : (p q : Spot) (k : ℕ) → Among q (nexts steps sections around p) → (writes_at steps p ≡ Some k → ⊥) → row q k ≡ true → row p k ≡ true
  pub asks : (k : ℕ) → asked k ≡ true → row Done k ≡ true

-- and hold nothing else
pub record Earned (steps : List Step) (sections : List Section) (around : ℕ → Around) (asked : ℕ → Bool) (row : Spot → ℕ → Bool) : Type 0 where
  pub each : (p : Spot) (k : ℕ) → row p k ≡ true → Live steps sections around asked k p
