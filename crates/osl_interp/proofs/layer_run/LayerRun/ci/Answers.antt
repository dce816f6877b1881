use Rattle.std.proofs.Common.{ap, ◌∙◌}
use Rattle.osl_value.specs.AnyValue.{argument}
use Rattle.osl_apply.specs.Operands.{values}
use Rattle.oso_code.specs.CodeRun.{closure_from}
use Rattle.osl_interp.proofs.Calls.{done_laid, done_closure}
use Rattle.osl_interp.proofs.Giving.{closure_held}
use Rattle.osl_interp.proofs.layer_run.LayerRun.ci.Goals as goal

pub returns : goal.returns
returns c =
    let r = c.self.inside in
    let m = r.machine in
    let done = done_laid r c.args.self.now c.self.view_is c.self.invariant c.requires in
    c.closure_in_slots.ensures
    ∙ ap (λ l. closure_from 0 l (argument (values c.deref.result.now))) (c.as_slice.ensures ∙ ap (λ code. code.symbols) done.code)
    ∙ ap (λ l. closure_from 0 r.code.now.symbols (argument (values l))) c.deref.ensures.value
    ∙ closure_held r.code.now m.inputs.items (values m.slots.items) done.laid
    ∙ done_closure r c.args.self.now c.self.view_is c.self.invariant c.requires
