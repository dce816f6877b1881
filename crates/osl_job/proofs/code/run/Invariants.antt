use Rattle.std.proofs.Common.{◌≡◌, take, length}
use Rattle.osl_job.specs.Code.{run, start, IsMachine}
use Rattle.osl_job.proofs.code.run.Given as goal

abbrev pub invariant-loop-op : goal.invariant-loop-op
invariant-loop-op l = record {
  count : length l.state.vars.items ≡ l.fn.vars;
  is : IsMachine (run (take l.op-index l.ops) start) l.state;
}
