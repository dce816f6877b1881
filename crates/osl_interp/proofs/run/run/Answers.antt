use Rattle.std.proofs.Common.{sym, subst}
use Rattle.osl_interp.specs.Stops.{StepDone, Counted}
use Rattle.osl_interp.specs.Meaning.{configuration}
use Rattle.osl_interp.proofs.Keeping.{goes_counted, run_counted}
use Rattle.osl_interp.proofs.Chains.{goes_ends}
use Rattle.osl_interp.proofs.run.run.Goals as goal

pub returns-in_err-stop-clause-ops : goal.returns-in_err-stop-clause-ops
returns-in_err-stop-clause-ops g c =
    subst (Counted (configuration c.args.m.now) c.args.ops.now) (sym c.in_err-stop.ensures.err)
    (goes_counted (configuration c.args.m.now) (configuration c.steps.m) c.args.ops.now c.steps.ops c.steps.invariant)

pub returns-in-Some-clause-ops : goal.returns-in-Some-clause-ops
returns-in-Some-clause-ops g c =
    let h = subst (StepDone (configuration c.steps.m) (configuration c.step.new.m) c.steps.ops c.step.new.ops) c.in-Some.is c.in_ok-stop.ensures.stop in
    run_counted (configuration c.args.m.now) (configuration c.step.new.m) c.args.ops.now c.step.new.ops c.in-Some.stop
    (goes_ends (configuration c.args.m.now) (configuration c.steps.m) (configuration c.step.new.m) c.args.ops.now c.steps.ops c.step.new.ops c.in-Some.stop c.steps.invariant h)
