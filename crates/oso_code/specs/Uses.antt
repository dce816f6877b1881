-- What an op reads, writes and overwrites, as a step (oso text; the table of operations). `reads`, `written` and `overwritten` of `Ops` say the same of an op. A symbol that an op reads and writes is read first.
use Rattle.std.specs.Prelude.{ℕ, ◌≡◌, if◌then◌else◌, List, [], ◌∷◌, ◌++◌, Option, Some, None}
use Rattle.osl_value.specs.Table.{updates}
use Rattle.oso_code.specs.declared.op.Op.{Op}
use Rattle.oso_code.specs.Ops.{reads, written, overwritten}
use Rattle.oso_code.specs.Steps.{Step, Compute, Branch, Loop, Call, Leave}

-- what is read where a run comes to the op: operands, what is updated included, or the condition of a branch
abbrev pub reads_on_entry : Step → List ℕ
reads_on_entry (Compute name ty target sources) = sources
reads_on_entry (Branch c holds fails) = c ∷ []
reads_on_entry (Loop tested c test body step) = []
reads_on_entry (Call body) = []
reads_on_entry (Leave way) = []

-- what is read before each turn of a loop: its condition, after the range of the condition
abbrev pub reads_in_test : Step → List ℕ
reads_in_test (Compute name ty target sources) = []
reads_in_test (Branch c holds fails) = []
reads_in_test (Loop tested c test body step) = c ∷ []
reads_in_test (Call body) = []
reads_in_test (Leave way) = []

-- all that it reads
abbrev pub reads_of : Step → List ℕ
reads_of step = reads_on_entry step ++ reads_in_test step

-- the symbol that it writes
abbrev pub written_by : Step → Option ℕ
written_by (Compute name ty target sources) = Some target
written_by (Branch c holds fails) = None
written_by (Loop tested c test body step) = None
written_by (Call body) = None
written_by (Leave way) = None

-- the symbol that it writes and does not read: whatever was there does not matter
abbrev pub overwritten_by : Step → Option ℕ
overwritten_by (Compute name ty target sources) = if updates name then None else Some target
overwritten_by (Branch c holds fails) = None
overwritten_by (Loop tested c test body step) = None
overwritten_by (Call body) = None
overwritten_by (Leave way) = None

-- a step uses what its op does
pub record UsesAs (step : Step) (op : Op) : Type 0 where
  pub reads : reads_of step ≡ reads op
  pub written : written_by step ≡ written op
  pub overwritten : overwritten_by step ≡ overwritten op
