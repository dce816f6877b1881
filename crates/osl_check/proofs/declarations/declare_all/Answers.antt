use Rattle.std.proofs.Common.{◌≡◌, ◌+◌, None, drop, ap, ◌∙◌, arith}
use Rattle.std.proofs.lemmas.Grind.{common_steps}
use Rattle.osl_names.proofs.Keeping.{keeps_on}
use Rattle.osl_typed.specs.BodyTyping.{declare_all}
use Rattle.osl_check.specs.Above.{sight_of}
use Rattle.osl_check.specs.BodyParts.{declare_one}
use Rattle.osl_check.proofs.Bodies.{declarations_gathered}
use Rattle.osl_check.proofs.Walks.{behind, gather_more, gather_stops, gather_ends}
use Rattle.osl_check.proofs.declarations.declare_all.Goals as goal

pub returns-in_err-one-clause-typed : goal.returns-in_err-one-clause-typed
returns-in_err-one-clause-typed c =
    let stops : declare_one (sight_of c.args.sight.now) c.plain_kind-plain.result c.var-item.result c.loop-var.scope ≡ None → declare_all (sight_of c.args.sight.now) c.args.ty.now c.args.vars.now c.args.scope.now ≡ None =
    gather_stops _ _ (declarations_gathered (sight_of c.args.sight.now) c.args.ty.now c.plain_kind-plain.result c.plain_kind-plain.ensures) c.args.vars.now c.loop-var.var-index c.var-item.result c.loop-var.all c.loop-var.scope _ c.loop-var-test.true c.var-item.is c.loop-var.invariant.typed in
    grind (arith, common_steps, stops)

pub loop-var-preserved : goal.loop-var-preserved
loop-var-preserved c = record {
  typed =
      ap (λ front. behind front (declare_all (sight_of c.args.sight.now) c.args.ty.now (drop (c.loop-var.var-index + 1) c.args.vars.now) c.declare.new.scope)) c.in_ok-push.ensures.ok
      ∙ gather_more _ _ (declarations_gathered (sight_of c.args.sight.now) c.args.ty.now c.plain_kind-plain.result c.plain_kind-plain.ensures) c.args.vars.now c.loop-var.var-index c.var-item.result c.loop-var.all c.in_ok-one.one c.loop-var.scope c.declare.new.scope _ c.loop-var-test.true c.var-item.is c.in_ok-one.ensures.typed c.loop-var.invariant.typed;
  keeps = keeps_on _ _ _ c.loop-var.invariant.keeps c.in_ok-one.ensures.keeps;
}

pub returns-clause-typed : goal.returns-clause-typed
returns-clause-typed c = gather_ends _ _ (declarations_gathered (sight_of c.args.sight.now) c.args.ty.now c.plain_kind-plain.result c.plain_kind-plain.ensures) c.args.vars.now c.loop-var.var-index c.loop-var.all c.loop-var.scope _ c.loop-var-test.false c.loop-var.invariant.typed
