use Rattle.osl_fan.proofs.Members.{AllZip-by_places}
use Rattle.osl_fan.proofs.fan.set_to_work.Goals as goal

pub returns-then-threads-gt0 : goal.returns-then-threads-gt0
returns-then-threads-gt0 g c =
    AllZip-by_places g.W.Work.work_gives c.args.members.now c.for_each_mut.new.s c.for_each_mut.auto.s
    (λ i d b.
    let worked = (c.for_each_mut.ensures i d b).1 in
    let did : g.W.Work.work_gives worked.argument.now worked.after_call.now = worked.call in
    rw (← worked.argument_is, ← worked.left) did)
