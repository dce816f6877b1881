use Rattle.std.proofs.Common.{ap, sym, ◌∙◌}
use Rattle.std.specs.Cmp.Lexicographic.{pointwise}
use Rattle.std.specs.List.{list_any}
use Rattle.osl_overload.specs.Kinds.{same_kind}
use Rattle.osl_overload.specs.declared.signature.Signature.{Signature}
use Rattle.osl_typed.specs.Scopes.{Candidate}
use Rattle.osl_typed.specs.Typing.{formal_kinds}
use Rattle.osl_calls.proofs.Candidates.{any_of}
use Rattle.osl_calls.proofs.named.Named.takes.Goals as goal

pub returns : goal.returns
returns c =
    c.has_kinds.ensures
    ∙ ap (list_any (λ (s : Signature). pointwise same_kind (formal_kinds s.params) (formal_kinds c.args.formals.now))) c.deref.ensures.value
    ∙ sym (any_of (λ (s : Signature). pointwise same_kind (formal_kinds s.params) (formal_kinds c.args.formals.now)) c.self.inside.signatures.items c.self.inside.callees.items c.self.invariant.0)
    ∙ ap (list_any (λ (d : Candidate). pointwise same_kind (formal_kinds d.signature.params) (formal_kinds c.args.formals.now))) c.self.view_is
