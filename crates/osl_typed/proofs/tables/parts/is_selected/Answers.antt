use Rattle.std.proofs.Common.{sym, ◌∙◌}
use Rattle.osl_typed.proofs.Ways.{array_selected, selected}
use Rattle.osl_typed.proofs.tables.parts.is_selected.Goals as goal

pub returns-then-is_array : goal.returns-then-is_array
returns-then-is_array c = array_selected c.args.ty c.args.n (sym c.is_array.ensures ∙ c.if-is_array.true)

pub returns-else-is_array : goal.returns-else-is_array
returns-else-is_array c = selected c.args.ty c.args.n c.indices_wanted.result (sym c.is_array.ensures ∙ c.if-is_array.false) c.indices_wanted.ensures
