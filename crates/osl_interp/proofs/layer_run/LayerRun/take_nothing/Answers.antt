use Rattle.std.proofs.Common.{None, refl, sym, ap, ◌∙◌}
use Rattle.std.specs.Prelude.{slice_set}
use Rattle.osl_value.specs.AnyValue.{argument}
use Rattle.osl_apply.specs.Operands.{values}
use Rattle.oso_code.specs.Ops.{type_at}
use Rattle.osl_interp.specs.Meaning.{configuration}
use Rattle.osl_interp.specs.declared.known.Known.TheVariants.{Nothing}
use Rattle.osl_interp.specs.declared.layer_run.Status.TheVariants.{Stopped}
use Rattle.osl_interp.specs.declared.stop.LayerStop.TheVariants.{Needs}
use Rattle.osl_interp.proofs.Calls.{holds_at, given_run, given_seen}
use Rattle.osl_interp.proofs.Giving.{asked_type, values_stay}
use Rattle.osl_interp.proofs.layer_run.LayerRun.take_nothing.Goals as goal

pub invariant_of-self : goal.invariant_of-self
invariant_of-self c =
    let r = c.self.inside in
    let m = r.machine in
    let h = holds_at r c.args.self.now c.self.view_is c.self.invariant (Stopped (Needs c.args.param)) c.requires in
    let typed = asked_type (configuration m) c.args.param h.0.ready h.1 ∙ ap (λ code. type_at code.symbols c.args.param) h.0.code in
    given_run r c.args.self.now c.self.view_is c.self.invariant c.args.param c.requires None Nothing (argument (values m.slots.items) c.args.param) refl typed _ _
    (λ i. record (configuration m) { inputs = slice_set m.inputs.items c.args.param Nothing; values = sym (values_stay (values m.slots.items) c.args.param) i })

pub returns : goal.returns
returns c =
    let r = c.self.inside in
    let m = r.machine in
    let h = holds_at r c.args.self.now c.self.view_is c.self.invariant (Stopped (Needs c.args.param)) c.requires in
    let typed = asked_type (configuration m) c.args.param h.0.ready h.1 ∙ ap (λ code. type_at code.symbols c.args.param) h.0.code in
    given_seen r c.args.self.now c.self.view_is c.self.invariant c.args.param c.requires None Nothing (argument (values m.slots.items) c.args.param) refl typed _
    (λ i. record (configuration m) { inputs = slice_set m.inputs.items c.args.param Nothing; values = sym (values_stay (values m.slots.items) c.args.param) i })
