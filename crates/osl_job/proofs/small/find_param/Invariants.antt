use Rattle.std.specs.Prelude.{◌≡◌, drop, bytes_eq}
use Rattle.std.specs.List.{position_from}
use Rattle.osl_job.specs.SmallNames.{param_named}
use Rattle.osl_job.specs.declared.small.Param.{Param}
use Rattle.osl_job.proofs.small.find_param.Given as goal

abbrev pub invariant-loop-at : goal.invariant-loop-at
invariant-loop-at l =
    param_named l.params l.name ≡ position_from (λ (p : Param). bytes_eq p.name l.name) l.at (drop l.at l.params)
