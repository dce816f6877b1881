use Rattle.std.proofs.Common.{◌∷◌, [], refl, sym, ap, ◌∙◌}
use Rattle.oso_code.specs.Run.{is_so}
use Rattle.osl_interp.specs.Advances.{one_op}
use Rattle.oso_step.specs.Decoded.{seen_span}
use Rattle.osl_interp.specs.Known.{met}
use Rattle.osl_interp.specs.Meaning.{configuration}
use Rattle.osl_interp.proofs.Acting.{branches, read_missing, read_asks, branch_taken, condition_int}
use Rattle.osl_interp.proofs.Frames.{arrives}
use Rattle.osl_interp.proofs.Laying.{int_slot, int_held, slot_there}
use Rattle.osl_interp.proofs.ops.branch.Goals as goal

pub returns-in-Waiting : goal.returns-in-Waiting
returns-in-Waiting c =
    let m = configuration c.args.m.now in
    let waits = ap (λ l. met l (c.args.c ∷ [])) (sym c.deref.ensures.value) ∙ sym c.first_met.ensures ∙ c.in-Waiting.is in
    (refl, read_asks m _ (c.args.c ∷ []) c.in-Waiting.p (record { ready = c.requires.ready; runs = c.requires.runs; inside = c.requires.inside; op = c.requires.op }) (branches m c.args.c (seen_span c.args.holds) (seen_span c.args.fails)) waits)

pub returns-in-Missing : goal.returns-in-Missing
returns-in-Missing c =
    let m = configuration c.args.m.now in
    let missing = ap (λ l. met l (c.args.c ∷ [])) (sym c.deref.ensures.value) ∙ sym c.first_met.ensures ∙ c.in-Missing.is in
    (refl, read_missing m _ (c.args.c ∷ []) (record { ready = c.requires.ready; runs = c.requires.runs; inside = c.requires.inside; op = c.requires.op }) (branches m c.args.c (seen_span c.args.holds) (seen_span c.args.fails)) missing)

pub index-requires : goal.index-requires
index-requires c =
    let m = c.args.m.now in
    let int = condition_int (configuration m) c.args.c (seen_span c.args.holds) (seen_span c.args.fails) (record { ready = c.requires.ready; runs = c.requires.runs; inside = c.requires.inside; op = c.requires.op }) in
    slot_there m.code.now m.inputs.items m.slots.items c.args.c m.slots.len c.requires.ready.laid int.0 m.slots.ok.0

pub is_true-requires : goal.is_true-requires
is_true-requires c =
    let m = c.args.m.now in
    let int = condition_int (configuration m) c.args.c (seen_span c.args.holds) (seen_span c.args.fails) (record { ready = c.requires.ready; runs = c.requires.runs; inside = c.requires.inside; op = c.requires.op }) in
    int_slot m.code.now m.inputs.items m.slots.items c.args.c c.index.result.now c.requires.ready.laid int c.index.ensures

pub returns-in_ok-enter-in-All : goal.returns-in_ok-enter-in-All
returns-in_ok-enter-in-All c =
    let m = c.args.m.now in
    let int = condition_int (configuration m) c.args.c (seen_span c.args.holds) (seen_span c.args.fails) (record { ready = c.requires.ready; runs = c.requires.runs; inside = c.requires.inside; op = c.requires.op }) in
    let all = ap (λ l. met l (c.args.c ∷ [])) (sym c.deref.ensures.value) ∙ sym c.first_met.ensures ∙ c.in-All.is in
    let so = ap is_so (int_held m.code.now m.inputs.items m.slots.items c.args.c c.index.result.now c.requires.ready.laid int c.index.ensures) ∙ sym c.is_true.ensures in
    arrives one_op _ _ _ _ refl c.in_ok-enter-in-All.ensures
    (branch_taken (configuration m) c.args.c c.args.holds c.args.fails c.side-side.result c.is_true.result (record { ready = c.requires.ready; runs = c.requires.runs; inside = c.requires.inside; op = c.requires.op }) all so c.side-side.ensures)
