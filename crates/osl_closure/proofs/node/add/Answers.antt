use Rattle.osl_closure.proofs.Walking.{parts_of-short, joined-none_left, joined-none_right}
use Rattle.osl_closure.proofs.node.add.Goals as goal

pub returns-in-None-default : goal.returns-in-None-default
returns-in-None-default c = rw (← c.a.view_is, ← c.b.view_is, c.in-None-default.is-0) (joined-none_left _ (parts_of-short c.b.inside.shape))

pub returns-in_default-None : goal.returns-in_default-None
returns-in_default-None c = rw (← c.a.view_is, ← c.b.view_is, c.in_default-None.is-1) (joined-none_right _ (parts_of-short c.a.inside.shape))
