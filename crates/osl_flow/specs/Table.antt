-- The table of what is around each op, as it is made.
use Rattle.std.specs.Prelude.{◌≡◌, ℕ, ◌+◌, ◌<◌, ◌≤◌, nat_lt, List, [], ◌∷◌, length, Some, slice_get, if◌then◌else◌, slice_set, slice_index_or}
use Rattle.oso_code.specs.Steps.{Step, Compute, Branch, Loop, Call, Leave}
use Rattle.osl_rewrites.specs.Flow.{In, IsAround, Inner, within_section, within_branch, within_test, within_body, within_step, within_call}
use Rattle.oso_code.specs.declared.op.Section.{Section}
use Rattle.osl_rewrites.specs.declared.point.Around.{Around}
use Rattle.osl_rewrites.specs.declared.point.Spot.TheVariants.{Done}

-- around a place of which nothing was noted: an empty range
abbrev pub nowhere : Around
nowhere = record { end = 0; next = Done; breaks = Done; continues = Done; returns = Done }

-- what a list says is around each place
abbrev pub table_of : List Around → ℕ → Around
table_of table i = slice_index_or table i nowhere

-- what is around the range that begins at this place, if it is not empty
abbrev pub noted : ℕ → Around → List Around → List Around
noted at a table = if nat_lt at a.end then slice_set table at a else table

-- what is around the ranges of an op and what follows it, where this is around the op
abbrev pub marked : ℕ → Step → Around → List Around → List Around
marked i (Compute name ty target sources) a table = noted (i + 1) a table
marked i (Branch c holds fails) a table = noted fails.end a (noted fails.start (within_branch fails fails a) (noted holds.start (within_branch holds fails a) table))
marked i (Loop tested c test body step) a table =
    noted step.end a (noted step.start (within_step i test step a) (noted body.start (within_body i test body step a) (noted test.start (within_test i test a) table)))
marked i (Call body) a table = noted body.end a (noted body.start (within_call body a) table)
marked i (Leave way) a table = noted (i + 1) a table

-- where the ranges of an op start, and what follows it
abbrev pub starts : ℕ → Step → List ℕ
starts i (Compute name ty target sources) = (i + 1) ∷ []
starts i (Branch c holds fails) = holds.start ∷ fails.start ∷ fails.end ∷ []
starts i (Loop tested c test body step) = test.start ∷ body.start ∷ step.start ∷ step.end ∷ []
starts i (Call body) = body.start ∷ body.end ∷ []
starts i (Leave way) = (i + 1) ∷ []

module _ (steps : List Step) (sections : List Section) where
  -- a range that is around place x may end here: no op before x, and no section, has a start behind x that it passes
  pub record MayEnd (x n : ℕ) : Type 0 where
    pub bound : n ≤ length steps
    pub past : (p y : ℕ) (step : Step) → slice_get steps p ≡ Some step → In y (starts p step) → p < x → x < y → n ≤ y
    pub gates : (j : ℕ) (section : Section) → slice_get sections j ≡ Some section → x < section.start → n ≤ section.start

  -- ops before i, and sections, are noted as they are; each place has a range that may be around it
  pub record Walked (i : ℕ) (t : ℕ → Around) : Type 0 where
    pub start : (j : ℕ) (section : Section) → slice_get sections j ≡ Some section → IsAround t section.start (within_section j section)
    pub each : (q : ℕ) (step : Step) → q < i → slice_get steps q ≡ Some step → Inner t q step (t q)
    pub ends : (x : ℕ) → MayEnd x (t x).end
