use Rattle.std.proofs.Common.{length, subst, List, ◌≡◌, true}
use Rattle.std.specs.List.{list_all}
use Rattle.osl_job.specs.declared.small.Param.{Param}
use Rattle.osl_job.specs.SmallNames.{assignment_fits}
use Rattle.osl_job.proofs.Ops.{both_true}
use Rattle.osl_job.proofs.shader.shader.Goals as goal

pub returns-clause-tied : goal.returns-clause-tied
returns-clause-tied c =
    both_true _ _ (c.in_ok-params.ensures.tied (length c.in_ok-params.params))
    (subst (λ (p : List Param). list_all (assignment_fits (length p)) c.in_ok-body.body ≡ true) c.as_slice.ensures c.in_ok-body.ensures.tied)
