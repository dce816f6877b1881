use Rattle.std.proofs.Common.{subst}
use Rattle.osl_interp.specs.Calls.{Counted, GoDone}
use Rattle.osl_interp.specs.Meaning.{configuration}
use Rattle.osl_interp.specs.View.{plan_of, progress_of}
use Rattle.osl_interp.specs.declared.layer_run.Status.TheVariants.{Stopped}
use Rattle.osl_interp.proofs.Calls.{may_go, counted, goes}
use Rattle.osl_interp.proofs.layer_run.LayerRun.go.Goals as goal

pub returns-in_err-stop-clause-ops : goal.returns-in_err-stop-clause-ops
returns-in_err-stop-clause-ops g c =
    let r = c.self.inside in
    let f = may_go r c.args.self.now c.self.view_is c.self.invariant c.requires in
    subst (λ v. Counted v c.args.ops.now c.run_on.new.ops) c.self.view_is
    (counted (plan_of r) (configuration r.machine) r.status c.args.ops.now c.run_on.new.ops f c.in_err-stop.ensures.ops)

pub invariant_of-self-2 : goal.invariant_of-self-2
invariant_of-self-2 g c =
    let r = c.self.inside in
    let m = c.run_on.new.m in
    let f = may_go r c.args.self.now c.self.view_is c.self.invariant c.requires in
    (goes (plan_of r) (configuration r.machine) (configuration m) m.slots.items r.status c.args.ops.now c.run_on.new.ops f c.in_ok-stop.stop c.in_ok-stop.ensures.end c.in_ok-stop.ensures.kept).run

pub returns-clause-stop : goal.returns-clause-stop
returns-clause-stop g c =
    let r = c.self.inside in
    let m = c.run_on.new.m in
    let f = may_go r c.args.self.now c.self.view_is c.self.invariant c.requires in
    subst (λ v. GoDone v (progress_of (plan_of r) (configuration m) (Stopped c.in_ok-stop.stop)) c.args.ops.now c.run_on.new.ops c.in_ok-stop.stop) c.self.view_is
    (goes (plan_of r) (configuration r.machine) (configuration m) m.slots.items r.status c.args.ops.now c.run_on.new.ops f c.in_ok-stop.stop c.in_ok-stop.ensures.end c.in_ok-stop.ensures.kept).done

pub returns-clause-ops : goal.returns-clause-ops
returns-clause-ops g c =
    let r = c.self.inside in
    let f = may_go r c.args.self.now c.self.view_is c.self.invariant c.requires in
    subst (λ v. Counted v c.args.ops.now c.run_on.new.ops) c.self.view_is
    (counted (plan_of r) (configuration r.machine) r.status c.args.ops.now c.run_on.new.ops f c.in_ok-stop.ensures.ops)
