use Rattle.std.proofs.Common.{◌≡◌, ◌+◌, None, drop, ap, ◌∙◌, arith}
use Rattle.std.proofs.lemmas.Grind.{common_steps}
use Rattle.osl_typed.specs.FileTyping.{formals_added}
use Rattle.osl_check.specs.FileParts.{formal_added}
use Rattle.osl_check.proofs.FileWalks.{formals_gathered}
use Rattle.osl_check.proofs.Walks.{behind, gather_more, gather_stops, gather_ends}
use Rattle.osl_check.proofs.definitions.add_formals.Goals as goal

pub returns-in_err-one : goal.returns-in_err-one
returns-in_err-one c =
    let stops : formal_added c.args.structures.now c.formal-item.result c.loop-formal.scope ≡ None → formals_added c.args.structures.now c.args.all.now c.args.scope.now ≡ None =
    gather_stops _ _ (formals_gathered c.args.structures.now) c.args.all.now c.loop-formal.formal-index c.formal-item.result c.loop-formal.formals c.loop-formal.scope _ c.loop-formal-test.true c.formal-item.is c.loop-formal.invariant in
    grind (arith, common_steps, stops)

pub loop-formal-preserved : goal.loop-formal-preserved
loop-formal-preserved c =
    ap (λ front. behind front (formals_added c.args.structures.now (drop (c.loop-formal.formal-index + 1) c.args.all.now) c.add_formal.new.scope)) c.in_ok-push.ensures.ok
    ∙ gather_more _ _ (formals_gathered c.args.structures.now) c.args.all.now c.loop-formal.formal-index c.formal-item.result c.loop-formal.formals c.in_ok-one.one c.loop-formal.scope c.add_formal.new.scope _ c.loop-formal-test.true c.formal-item.is c.in_ok-one.ensures c.loop-formal.invariant

pub returns : goal.returns
returns c = gather_ends _ _ (formals_gathered c.args.structures.now) c.args.all.now c.loop-formal.formal-index c.loop-formal.formals c.loop-formal.scope _ c.loop-formal-test.false c.loop-formal.invariant
