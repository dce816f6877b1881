use Rattle.std.proofs.Common.{◌||◌, sym, subst}
use Rattle.osl_flow.specs.Rows.{Passed}
use Rattle.osl_flow.specs.Table.{table_of}
use Rattle.osl_flow.proofs.Rounds.{passed_two}
use Rattle.osl_flow.proofs.passes.refresh_op.Goals as goal

pub returns-clause-passed : goal.returns-clause-passed
returns-clause-passed c =
    let raw = c.args.code.now in
    let table = table_of c.args.around.now in
    let ahead = c.refresh_ahead-ahead in
    let test = c.refresh-test in
    let op = c.refresh-op in
    subst (Passed raw table c.args.rows.now op.new.rows) (sym c.one_of.ensures)
    (passed_two raw table c.args.rows.now test.new.rows op.new.rows (ahead.result || test.result) op.result
    (passed_two raw table c.args.rows.now ahead.new.rows test.new.rows ahead.result test.result ahead.ensures.passed test.ensures.passed) op.ensures.passed)
