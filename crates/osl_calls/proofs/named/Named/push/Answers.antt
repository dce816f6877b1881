use Rattle.std.proofs.Common.{◌∷◌, [], ◌++◌, ap, ◌∙◌}
use Rattle.osl_calls.specs.Named.{candidate}
use Rattle.osl_calls.proofs.Candidates.{one_pushed}
use Rattle.osl_calls.proofs.named.Named.push.Goals as goal

pub returns-clause-ok : goal.returns-clause-ok
returns-clause-ok c =
    one_pushed c.self.inside.signatures.items c.push_reserved.new.self.items c.self.inside.callees.items c.push_reserved-2.new.self.items c.args.signature c.args.callee c.self.invariant.0
    (c.push_reserved.ensures.items ∙ ap (λ xs. xs ++ c.args.signature ∷ []) c.reserve.ensures.items)
    (c.push_reserved-2.ensures.items ∙ ap (λ xs. xs ++ c.args.callee ∷ []) c.reserve-2.ensures.items)
    ∙ ap (λ xs. xs ++ candidate c.args.signature c.args.callee ∷ []) c.self.view_is
