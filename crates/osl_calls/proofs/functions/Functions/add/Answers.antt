use Rattle.std.proofs.Common.{◌≡◌, OnOk, OnErr, subst}
use Rattle.osl_typed.specs.Scopes.{with_function}
use Rattle.osl_calls.specs.Named.{candidate}
use Rattle.osl_calls.specs.Table.{Table, functions_of}
use Rattle.osl_calls.proofs.Tables.{has_after, added_if, unchanged_if}
use Rattle.osl_calls.proofs.functions.Functions.add.Goals as goal

pub invariant_of-self : goal.invariant_of-self
invariant_of-self c =
    has_after c.push.result c.self.inside.table c.push.new.self c.args.name.now (candidate c.args.signature c.args.callee) c.push.ensures.ok c.push.ensures.err c.self.invariant

pub returns-clause-ok : goal.returns-clause-ok
returns-clause-ok c =
    subst (λ (t : Table). OnOk c.push.result (functions_of c.push.new.self ≡ with_function c.args.name.now (candidate c.args.signature c.args.callee) (functions_of t))) c.self.view_is
    (added_if c.push.result c.self.inside.table c.push.new.self c.args.name.now (candidate c.args.signature c.args.callee) c.push.ensures.ok c.self.invariant)

pub returns-clause-err : goal.returns-clause-err
returns-clause-err c =
    subst (λ (t : Table). OnErr c.push.result (functions_of c.push.new.self ≡ functions_of t)) c.self.view_is
    (unchanged_if c.push.result c.self.inside.table c.push.new.self c.push.ensures.err)
