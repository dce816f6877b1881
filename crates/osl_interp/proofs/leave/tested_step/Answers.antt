use Rattle.std.proofs.Common.{◌≡◌, ◌≢◌, ◌+◌, ◌-◌, ◌∷◌, [], refl, sym, ap, ◌∙◌, arith}
use Rattle.oso_code.specs.Run.{is_so}
use Rattle.osl_interp.specs.Advances.{no_op}
use Rattle.osl_interp.specs.Known.{met}
use Rattle.osl_interp.specs.Meaning.{configuration}
use Rattle.osl_interp.specs.declared.frame.Mode.TheVariants.{Run}
use Rattle.osl_interp.proofs.Frames.{arrives}
use Rattle.osl_interp.proofs.Laying.{int_slot, int_held, slot_there}
use Rattle.osl_interp.proofs.Leaving.{condition_missing, condition_waits, condition_fails, condition_holds, no_turn, loop_there}
use Rattle.osl_interp.proofs.leave.tested_step.Goals as goal

pub returns-in-Waiting : goal.returns-in-Waiting
returns-in-Waiting c =
    let m = c.args.m.now in
    let waits = ap (λ l. met l (c.args.repeat.condition ∷ [])) (sym c.deref.ensures.value) ∙ sym c.first_met.ensures ∙ c.in-Waiting.is in
    condition_waits (configuration m) c.args.repeat c.args.end c.requires.top c.requires.ready c.requires.runs c.requires.past c.in-Waiting.p waits

pub returns-in-Missing : goal.returns-in-Missing
returns-in-Missing c =
    let m = c.args.m.now in
    let missing = ap (λ l. met l (c.args.repeat.condition ∷ [])) (sym c.deref.ensures.value) ∙ sym c.first_met.ensures ∙ c.in-Missing.is in
    condition_missing (configuration m) c.args.repeat c.args.end c.requires.top c.requires.ready c.requires.runs c.requires.past missing

pub index-requires : goal.index-requires
index-requires c =
    let m = c.args.m.now in
    let l = loop_there (configuration m) c.args.repeat c.args.end c.requires.top c.requires.ready c.requires.runs c.requires.past in
    slot_there m.code.now m.inputs.items m.slots.items c.args.repeat.condition m.slots.len c.requires.ready.laid l.number m.slots.ok.0

pub is_true-requires : goal.is_true-requires
is_true-requires c =
    let m = c.args.m.now in
    let l = loop_there (configuration m) c.args.repeat c.args.end c.requires.top c.requires.ready c.requires.runs c.requires.past in
    int_slot m.code.now m.inputs.items m.slots.items c.args.repeat.condition c.index.result.now c.requires.ready.laid (l.number, l.condition) c.index.ensures

pub returns-then-not-is_true : goal.returns-then-not-is_true
returns-then-not-is_true c =
    let m = c.args.m.now in
    let l = loop_there (configuration m) c.args.repeat c.args.end c.requires.top c.requires.ready c.requires.runs c.requires.past in
    let mid = configuration c.take.new.m in
    let all = ap (λ l. met l (c.args.repeat.condition ∷ [])) (sym c.deref.ensures.value) ∙ sym c.first_met.ensures ∙ c.in-All.is in
    let so = ap is_so (int_held m.code.now m.inputs.items m.slots.items c.args.repeat.condition c.index.result.now c.requires.ready.laid (l.number, l.condition) c.index.ensures) ∙ sym c.is_true.ensures ∙ c.if-not-is_true.true in
    arrives no_op _ _ _ _ refl (c.go_on.ensures ∙ λ i. record mid { mode = Run; at = (c.behind.ensures i).start; end = (c.behind.ensures i).end })
    (condition_fails (configuration m) mid c.args.repeat c.args.end c.take.ensures c.requires.ready c.requires.runs c.requires.past all so)

pub returns-then-m-eq0 : goal.returns-then-m-eq0
returns-then-m-eq0 c =
    let m = c.args.m.now in
    let l = loop_there (configuration m) c.args.repeat c.args.end c.requires.top c.requires.ready c.requires.runs c.requires.past in
    let all = ap (λ l. met l (c.args.repeat.condition ∷ [])) (sym c.deref.ensures.value) ∙ sym c.first_met.ensures ∙ c.in-All.is in
    let so = ap is_so (int_held m.code.now m.inputs.items m.slots.items c.args.repeat.condition c.index.result.now c.requires.ready.laid (l.number, l.condition) c.index.ensures) ∙ sym c.is_true.ensures ∙ c.if-not-is_true.false in
    no_turn (configuration m) c.args.repeat c.args.end c.requires.top c.requires.ready c.requires.runs c.requires.past all so c.if-m-eq0.true

pub returns : goal.returns
returns c =
    let m = c.args.m.now in
    let l = loop_there (configuration m) c.args.repeat c.args.end c.requires.top c.requires.ready c.requires.runs c.requires.past in
    let mid = configuration c.take-2.new.m in
    let all = ap (λ l. met l (c.args.repeat.condition ∷ [])) (sym c.deref.ensures.value) ∙ sym c.first_met.ensures ∙ c.in-All.is in
    let so = ap is_so (int_held m.code.now m.inputs.items m.slots.items c.args.repeat.condition c.index.result.now c.requires.ready.laid (l.number, l.condition) c.index.ensures) ∙ sym c.is_true.ensures ∙ c.if-not-is_true.false in
    let kept = ap (λ x. x.turns) c.take-2.ensures in
    let more : mid.turns ≡ (mid.turns - 1) + 1 = let n : m.turns ≢ 0 = c.if-m-eq0.false in let k : m.turns ≡ mid.turns = kept in omega (arith, n, k) in
    arrives no_op _ _ _ _ refl c.in_ok-enter.ensures
    (condition_holds (configuration m) mid c.args.repeat c.args.end (mid.turns - 1) c.take-2.ensures c.requires.ready c.requires.runs c.requires.past all so more)
