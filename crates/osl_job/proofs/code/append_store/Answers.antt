use Rattle.osl_job.proofs.Ops.{stores_value}
use Rattle.osl_job.proofs.code.append_store.Goals as goal

pub returns : goal.returns
returns c = stores_value c.args.target c.args.value.now _ c.append_value.new.ops.items _ c.in_ok-append_value.ensures c.in_ok-push.ensures.items
