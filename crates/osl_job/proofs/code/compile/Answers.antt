use Rattle.std.proofs.Common.{subst, List}
use Rattle.osl_job.specs.declared.small.Param.{Param}
use Rattle.osl_job.specs.declared.small.Assignment.{Assignment}
use Rattle.osl_job.specs.declared.code.Op.{Op}
use Rattle.osl_job.specs.Code.{HoldsDefaults, Executes}
use Rattle.osl_job.proofs.Ops.{stands_for}
use Rattle.osl_job.proofs.code.compile.Goals as goal

pub returns : goal.returns
returns c =
    stands_for c.args.shader.now c.append_defaults.new.ops.items c.append_body.new.ops.items
    (subst (λ (l : List Op). HoldsDefaults c.args.shader.now.params l c.append_defaults.new.ops.items) c.new-ops.ensures.items
    (subst (λ (l : List Param). HoldsDefaults l c.new-ops.result.items c.append_defaults.new.ops.items) c.as_slice.ensures c.in_ok-append_defaults.ensures))
    (subst (λ (l : List Assignment). Executes l c.append_defaults.new.ops.items c.append_body.new.ops.items) c.as_slice-2.ensures c.in_ok-append_body.ensures)
