use Rattle.std.proofs.Common.{sym, ap, ◌∙◌, subst}
use Rattle.std.specs.Prelude.{slice_get}
use Rattle.osl_value.specs.AnyValue.{Of, Parts}
use Rattle.oso_code.specs.Ops.{type_at}
use Rattle.osl_interp.specs.Calls.{IsOutput}
use Rattle.osl_interp.proofs.Calls.{code_as, done_laid, done_outputs}
use Rattle.osl_interp.proofs.Outcomes.{output_given, output_is, output_kept, output_typed, small_is}
use Rattle.osl_interp.proofs.layer_run.LayerRun.output.Goals as goal

pub unreachable-requires : goal.unreachable-requires
unreachable-requires c =
    let r = c.self.inside in
    let m = r.machine in
    let done = done_laid r c.args.self.now c.self.view_is c.self.invariant c.requires.done in
    let out = subst (λ code. IsOutput code c.args.param) (sym (code_as r c.args.self.now c.self.view_is c.self.invariant)) c.requires.output in
    small_is c.index.result.now (output_kept r.code.now m.inputs.items m.slots.items done.laid done.kept c.args.param out c.index.result.now c.index.ensures) c.in-Int.is

pub returns-in-Whole-clause-value : goal.returns-in-Whole-clause-value
returns-in-Whole-clause-value c =
    let r = c.self.inside in
    let m = r.machine in
    let done = done_laid r c.args.self.now c.self.view_is c.self.invariant c.requires.done in
    let out = subst (λ code. IsOutput code c.args.param) (sym (code_as r c.args.self.now c.self.view_is c.self.invariant)) c.requires.output in
    ap (λ l. slice_get l c.args.param) (done_outputs r c.args.self.now c.self.view_is c.self.invariant c.requires.done)
    ∙ output_given r.code.now m.inputs.items m.slots.items done.laid done.kept c.args.param out _
    (ap Of c.deref.ensures ∙ sym (output_is r.code.now m.inputs.items m.slots.items done.laid done.kept c.args.param out c.index.result.now _ c.index.ensures c.in-Whole.is))

pub returns-in-Whole-clause-typed : goal.returns-in-Whole-clause-typed
returns-in-Whole-clause-typed c =
    let r = c.self.inside in
    let m = r.machine in
    let done = done_laid r c.args.self.now c.self.view_is c.self.invariant c.requires.done in
    let is = code_as r c.args.self.now c.self.view_is c.self.invariant in
    let out = subst (λ code. IsOutput code c.args.param) (sym is) c.requires.output in
    output_typed r.code.now m.inputs.items m.slots.items done.laid done.kept c.args.param out _
    (ap Of c.deref.ensures ∙ sym (output_is r.code.now m.inputs.items m.slots.items done.laid done.kept c.args.param out c.index.result.now _ c.index.ensures c.in-Whole.is))
    ∙ ap (λ code. type_at code.symbols c.args.param) is

pub returns-in-Lent-clause-value : goal.returns-in-Lent-clause-value
returns-in-Lent-clause-value c =
    let r = c.self.inside in
    let m = r.machine in
    let done = done_laid r c.args.self.now c.self.view_is c.self.invariant c.requires.done in
    let out = subst (λ code. IsOutput code c.args.param) (sym (code_as r c.args.self.now c.self.view_is c.self.invariant)) c.requires.output in
    ap (λ l. slice_get l c.args.param) (done_outputs r c.args.self.now c.self.view_is c.self.invariant c.requires.done)
    ∙ output_given r.code.now m.inputs.items m.slots.items done.laid done.kept c.args.param out _
    (sym (output_is r.code.now m.inputs.items m.slots.items done.laid done.kept c.args.param out c.index.result.now _ c.index.ensures c.in-Lent.is))

pub returns-in-Lent-clause-typed : goal.returns-in-Lent-clause-typed
returns-in-Lent-clause-typed c =
    let r = c.self.inside in
    let m = r.machine in
    let done = done_laid r c.args.self.now c.self.view_is c.self.invariant c.requires.done in
    let is = code_as r c.args.self.now c.self.view_is c.self.invariant in
    let out = subst (λ code. IsOutput code c.args.param) (sym is) c.requires.output in
    output_typed r.code.now m.inputs.items m.slots.items done.laid done.kept c.args.param out _
    (sym (output_is r.code.now m.inputs.items m.slots.items done.laid done.kept c.args.param out c.index.result.now _ c.index.ensures c.in-Lent.is))
    ∙ ap (λ code. type_at code.symbols c.args.param) is

pub returns-in-Closure-clause-value : goal.returns-in-Closure-clause-value
returns-in-Closure-clause-value c =
    let r = c.self.inside in
    let m = r.machine in
    let done = done_laid r c.args.self.now c.self.view_is c.self.invariant c.requires.done in
    let out = subst (λ code. IsOutput code c.args.param) (sym (code_as r c.args.self.now c.self.view_is c.self.invariant)) c.requires.output in
    ap (λ l. slice_get l c.args.param) (done_outputs r c.args.self.now c.self.view_is c.self.invariant c.requires.done)
    ∙ output_given r.code.now m.inputs.items m.slots.items done.laid done.kept c.args.param out _
    (ap Parts c.share.ensures ∙ sym (output_is r.code.now m.inputs.items m.slots.items done.laid done.kept c.args.param out c.index.result.now _ c.index.ensures c.in-Closure.is))

pub returns-in-Closure-clause-typed : goal.returns-in-Closure-clause-typed
returns-in-Closure-clause-typed c =
    let r = c.self.inside in
    let m = r.machine in
    let done = done_laid r c.args.self.now c.self.view_is c.self.invariant c.requires.done in
    let is = code_as r c.args.self.now c.self.view_is c.self.invariant in
    let out = subst (λ code. IsOutput code c.args.param) (sym is) c.requires.output in
    output_typed r.code.now m.inputs.items m.slots.items done.laid done.kept c.args.param out _
    (ap Parts c.share.ensures ∙ sym (output_is r.code.now m.inputs.items m.slots.items done.laid done.kept c.args.param out c.index.result.now _ c.index.ensures c.in-Closure.is))
    ∙ ap (λ code. type_at code.symbols c.args.param) is
