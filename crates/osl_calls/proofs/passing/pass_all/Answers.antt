use Rattle.std.proofs.Common.{rules, ◌≡◌, get_or, None, false, sym, ◌∙◌, arith}
use Rattle.std.proofs.lemmas.Grind.{common_steps}
use Rattle.std.specs.Vec.Iter.{into_iter_items}
use Rattle.osl_overload.specs.declared.signature.Kind.TheVariants.{Void}
use Rattle.osl_typed.specs.Typing.{pass_to, pass_all}
use Rattle.osl_calls.proofs.Passed.{passing, passed_short, passed_stops, passed_more, passed_all}
use Rattle.osl_calls.proofs.passing.pass_all.Goals as goal

pub returns-in_default : goal.returns-in_default
returns-in_default c =
    passed_short pass_to pass_all passing c.args.formals.now c.loop-formal.formal-index (record { kind = Void; output = false }) (into_iter_items c.loop-formal.rest) (into_iter_items c.next.new.self) c.next.result c.loop-formal.passed _
    (omega arith) c.loop-formal.invariant c.next.ensures.items c.in_default.is (sym c.next.new.self.rest.ok.0 ∙ c.in_default.ensures.cases.1)

pub returns-in_err-argument : goal.returns-in_err-argument
returns-in_err-argument c =
    let k : pass_to (get_or c.args.formals.now c.loop-formal.formal-index (record { kind = Void; output = false })) c.in-Some.a ≡ None → pass_all c.args.formals.now c.args.args.items ≡ None =
    λ misfit. passed_stops pass_to pass_all passing c.args.formals.now c.loop-formal.formal-index (record { kind = Void; output = false }) (into_iter_items c.loop-formal.rest) (into_iter_items c.next.new.self) c.next.result c.in-Some.a c.loop-formal.passed _
    (omega arith) c.loop-formal.invariant c.next.ensures.items c.in-Some.is misfit in
    first_of (search (rules, k), grind (arith, common_steps, k))

pub loop-formal-preserved : goal.loop-formal-preserved
loop-formal-preserved c =
    passed_more pass_to pass_all passing c.args.formals.now c.loop-formal.formal-index _ (into_iter_items c.loop-formal.rest) (into_iter_items c.next.new.self) c.next.result c.in-Some.a c.loop-formal.passed _ _ _
    (omega arith) c.loop-formal.invariant c.next.ensures.items c.in-Some.is c.in_ok-argument.ensures c.in_ok-push.ensures.ok

pub returns : goal.returns
returns c = passed_all pass_to pass_all passing c.args.formals.now c.loop-formal.formal-index (into_iter_items c.loop-formal.rest) c.loop-formal.passed _ (omega arith) c.loop-formal.invariant
