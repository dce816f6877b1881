use Rattle.std.proofs.Common.{ap, sym, ◌∙◌}
use Rattle.std.specs.List.{list_any}
use Rattle.osl_overload.specs.Cost.{total}
use Rattle.osl_overload.specs.declared.signature.Signature.{Signature}
use Rattle.osl_typed.specs.Choosing.{costs_this}
use Rattle.osl_typed.specs.Scopes.{Candidate}
use Rattle.osl_calls.proofs.Candidates.{any_of, any_cost}
use Rattle.osl_calls.proofs.named.Named.is_free.Goals as goal

pub returns : goal.returns
returns c =
    c.is_free.ensures
    ∙ ap (list_any (λ (s : Signature). costs_this 0 (total s.params c.args.args.now))) c.deref.ensures.value
    ∙ sym (any_of (λ (s : Signature). costs_this 0 (total s.params c.args.args.now)) c.self.inside.signatures.items c.self.inside.callees.items c.self.invariant.0)
    ∙ ap (list_any (λ (d : Candidate). costs_this 0 (total d.signature.params c.args.args.now))) c.self.view_is
    ∙ sym (any_cost c.args.self.now c.args.args.now)
