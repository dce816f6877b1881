use Rattle.osl_job.proofs.Ops.{pushes_const, pushes_var, pushes_apply_of}
use Rattle.osl_job.proofs.code.+append_value.Goals as goal

pub returns-in_ok-push-in-Const : goal.returns-in_ok-push-in-Const
returns-in_ok-push-in-Const t c = rw c.in-Const.is (pushes_const c.in-Const.value _ _ c.in_ok-push-in-Const.ensures.items)

pub returns-in_ok-push-in-Var : goal.returns-in_ok-push-in-Var
returns-in_ok-push-in-Var t c = rw c.in-Var.is (pushes_var c.in-Var.number _ _ c.in_ok-push-in-Var.ensures.items)

pub returns-in_ok-push-in-Apply : goal.returns-in_ok-push-in-Apply
returns-in_ok-push-in-Apply t c =
    rw c.in-Apply.is
    (pushes_apply_of c.in-Apply.op _ _ _ _ _ c.append_value.new.ops.items c.append_value-in-Apply.new.ops.items _ c.get.ensures c.get-in-Apply.ensures
    c.in_ok-append_value-in-Apply.ensures c.in_ok-append_value-in-Apply-2.ensures c.in_ok-push-in-Apply.ensures.items)
