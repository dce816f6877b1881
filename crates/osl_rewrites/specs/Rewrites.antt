-- Rewrites of code, one at a time: which code comes of each.
use Rattle.std.specs.Prelude.{◌≡◌, ℕ, ◌+◌, ◌==◌, nat_lt, nat_le, Bool, not, ◌&&◌, ◌||◌, [], ◌∷◌, ◌++◌, Some, if◌then◌else◌, slice_get, slice_set}
use Rattle.osl_value.specs.declared.op_name.OpName.TheVariants.{Assign, FunctionCall}
use Rattle.oso_code.specs.Ranges.{steps_of}
use Rattle.oso_code.specs.Steps.{Span, Step, Branch, Loop}
use Rattle.oso_code.specs.declared.op.Op.{Op}
use Rattle.oso_code.specs.declared.raw.Raw.{Raw}
use Rattle.oso_code.specs.declared.symbol.Symbol.{Symbol}
use Rattle.osl_rewrites.specs.Cut.{cut}

-- ---- the forms of all rewrites: an op is replaced in place, a symbol is added as the last, ops are taken out

-- the code with this op at i
abbrev pub with_op_at : Raw → ℕ → Op → Raw
with_op_at raw i op = record { kind = raw.kind; name = raw.name; metas = raw.metas; symbols = raw.symbols; sections = raw.sections; ops = slice_set raw.ops i op }

-- the code with one more symbol, the last
abbrev pub with_symbol : Raw → Symbol → Raw
with_symbol raw symbol = record { kind = raw.kind; name = raw.name; metas = raw.metas; symbols = raw.symbols ++ symbol ∷ []; sections = raw.sections; ops = raw.ops }

-- an op that assigns what another wrote
abbrev pub assign_to : Op → ℕ → Op
assign_to op c = record { name = Assign; args = elim (op.args) [ [] ↦ [] | k ∷ ks ↦ k ∷ c ∷ [] ]; jumps = [] }

-- an op that calls nothing
abbrev pub calls_nothing : ℕ → Op
calls_nothing i = record { name = FunctionCall; args = []; jumps = (i + 1) ∷ [] }

-- the op with symbol c as its argument j
abbrev pub with_argument : Op → ℕ → ℕ → Op
with_argument op j c = record { name = op.name; args = slice_set op.args j c; jumps = op.jumps }

-- ---- what stays of an op that gives way to one of its ranges

-- the place is in the span
abbrev pub in_span : ℕ → Span → Bool
in_span k s = nat_le s.start k && nat_lt k s.end

-- the op goes, and those of its ranges that are not run
abbrev pub stays_by : Bool → Step → ℕ → ℕ → Bool
stays_by so (Branch c holds fails) i k = not (k == i) && not (in_span k (if so then fails else holds))
stays_by so (Loop tested c test body step) i k = not (k == i) && not (in_span k body || in_span k step)
stays_by so step i k = not (k == i)

-- which code comes of one: the parts that the lines of a list are made of
pub data Rewritten (old : Raw) : Raw → Type 0 where
  -- fold, same: an assign of a symbol in place of an op
  Assigned : (i : ℕ) (op : Op) (c : ℕ) → slice_get old.ops i ≡ Some op → Rewritten old (with_op_at old i (assign_to op c))
  -- copy, wire: another symbol as an argument
  Reread : (i : ℕ) (op : Op) (j c : ℕ) → slice_get old.ops i ≡ Some op → Rewritten old (with_op_at old i (with_argument op j c))
  -- a new constant, which no op names yet
  Added : (symbol : Symbol) → Rewritten old (with_symbol old symbol)
  -- branch: by whether the condition holds
  Decided : (i : ℕ) (so : Bool) (step : Step) → slice_get (steps_of old) i ≡ Some step → Rewritten old (cut (stays_by so step i) old)
  -- drop
  Dropped : (i : ℕ) (op : Op) → slice_get old.ops i ≡ Some op → Rewritten old (cut (λ k. not (k == i)) old)
