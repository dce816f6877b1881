use Rattle.std.proofs.Common.{Option, slice_get, sym, subst, ap, ◌∙◌}
use Rattle.std.specs.Option.{option_copied}
use Rattle.osl_typed.specs.declared.found.Found.{Found}
use Rattle.osl_typed.specs.Choosing.{chosen}
use Rattle.osl_typing.specs.Says.{Says}
use Rattle.osl_calls.specs.Calling.{called_among}
use Rattle.osl_calls.proofs.Meanings.{not_chosen, no_signature_at, chosen_is_called}
use Rattle.osl_calls.proofs.named.Named.call.Goals as goal

pub returns-in_default : goal.returns-in_default
returns-in_default c =
    ap (λ cs. called_among cs c.args.args.items) (sym c.self.view_is)
    ∙ not_chosen c.self.inside.signatures.items c.self.inside.callees.items c.self.invariant.0 c.args.args.items c.args.passed.now c.requires
    (sym (c.chosen.ensures ∙ ap (λ ss. chosen ss c.args.passed.now) c.deref.ensures.value) ∙ c.in_default.is)

pub returns-in_default-at : goal.returns-in_default-at
returns-in_default-at c =
    ap (λ cs. called_among cs c.args.args.items) (sym c.self.view_is)
    ∙ no_signature_at c.self.inside.signatures.items c.self.inside.callees.items c.self.invariant.0 c.args.args.items c.args.passed.now c.requires c.in-Some.place
    (sym (c.chosen.ensures ∙ ap (λ ss. chosen ss c.args.passed.now) c.deref.ensures.value) ∙ c.in-Some.is)
    (ap (λ ss. slice_get ss c.in-Some.place) (sym c.deref-2.ensures.value) ∙ sym c.at.ensures ∙ ap option_copied c.in_default-at.is)

pub returns : goal.returns
returns c =
    subst (λ (o : Option Found). Says o c.called_by.result)
    (sym (ap (λ cs. called_among cs c.args.args.items) (sym c.self.view_is)
    ∙ chosen_is_called c.self.inside.signatures.items c.self.inside.callees.items c.self.invariant.0 c.args.args.items c.args.passed.now c.requires c.in-Some.place
    c.in-Some-at.signature.now c.in-Some-at-2.callee.now
    (sym (c.chosen.ensures ∙ ap (λ ss. chosen ss c.args.passed.now) c.deref.ensures.value) ∙ c.in-Some.is)
    (ap (λ ss. slice_get ss c.in-Some.place) (sym c.deref-2.ensures.value) ∙ sym c.at.ensures ∙ ap option_copied c.in-Some-at.is)
    (ap (λ cs. slice_get cs c.in-Some.place) (sym c.deref-3.ensures.value) ∙ sym c.at-2.ensures ∙ ap option_copied c.in-Some-at-2.is)))
    c.called_by.ensures
