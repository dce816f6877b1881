use Rattle.std.proofs.Common.{ap, sym, ◌∙◌}
use Rattle.osl_value.specs.AnyValue.{with_numbers}
use Rattle.osl_apply.specs.Operands.{held_all}
use Rattle.osl_apply.proofs.Holding.{length_held, are_numbers}
use Rattle.osl_apply.proofs.MatrixOps.{matrix, given_matrix, many_matrix, rows_at}
use Rattle.osl_apply.proofs.matrices.of_many.Goals as goal

pub by_rows-requires-clause-count : goal.by_rows-requires-clause-count
by_rows-requires-clause-count c =
    (many_matrix c.args.name _ (given_matrix c.args.name (held_all c.args.slots.now c.args.sources.now) _ (length_held c.args.slots.now c.args.sources.now) c.requires.takes)
    c.requires.not_one c.requires.not_two c.requires.not_four).count_is

pub by_rows-requires-clause-numbers : goal.by_rows-requires-clause-numbers
by_rows-requires-clause-numbers c =
    let slots = c.args.slots.now in
    let sources = c.args.sources.now in
    let r = many_matrix c.args.name _ (given_matrix c.args.name (held_all slots sources) _ (length_held slots sources) c.requires.takes) c.requires.not_one c.requires.not_two c.requires.not_four in
    are_numbers 16 slots sources (rows_at c.args.name (held_all slots sources) r.name_is (length_held slots sources ∙ r.count_is) c.requires.takes).numbers

pub returns : goal.returns
returns c =
    let slots = c.args.slots.now in
    let sources = c.args.sources.now in
    let r = many_matrix c.args.name _ (given_matrix c.args.name (held_all slots sources) _ (length_held slots sources) c.requires.takes) c.requires.not_one c.requires.not_two c.requires.not_four in
    ap (with_numbers matrix) c.by_rows.ensures ∙ sym (rows_at c.args.name (held_all slots sources) r.name_is (length_held slots sources ∙ r.count_is) c.requires.takes).value
