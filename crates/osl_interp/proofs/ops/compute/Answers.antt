use Rattle.std.proofs.Common.{◌+◌, ◌<◌, length, refl, sym, ap, ◌∙◌, subst}
use Rattle.std.proofs.lemmas.List.{with_items_is}
use Rattle.std.specs.Prelude.{slice_set}
use Rattle.osl_value.specs.AnyValue.{type_of}
use Rattle.osl_value.specs.Apply.{apply}
use Rattle.osl_apply.specs.Operands.{values, held, held_all, takes, AllBelow}
use Rattle.std.specs.Prelude.{IsTrue}
use Rattle.oso_code.specs.Ops.{type_at}
use Rattle.osl_interp.specs.Advances.{one_op}
use Rattle.osl_interp.specs.Known.{met}
use Rattle.osl_interp.specs.Meaning.{configuration}
use Rattle.osl_interp.proofs.Acting.{computes, read_missing, read_asks, executes, executed, as_many}
use Rattle.osl_interp.proofs.Frames.{arrives}
use Rattle.osl_interp.proofs.ops.compute.Goals as goal

pub returns-in-Waiting : goal.returns-in-Waiting
returns-in-Waiting c =
    let m = configuration c.args.m.now in
    let ty = type_at m.code.symbols c.args.target in
    let waits = ap (λ l. met l c.args.sources.now) (sym c.deref.ensures.value) ∙ sym c.first_met.ensures ∙ c.in-Waiting.is in
    (refl, read_asks m _ c.args.sources.now c.in-Waiting.p (record { ready = c.requires.ready; runs = c.requires.runs; inside = c.requires.inside; op = c.requires.op }) (computes m c.args.name ty c.args.target c.args.sources.now) waits)

pub returns-in-Missing : goal.returns-in-Missing
returns-in-Missing c =
    let m = configuration c.args.m.now in
    let ty = type_at m.code.symbols c.args.target in
    let missing = ap (λ l. met l c.args.sources.now) (sym c.deref.ensures.value) ∙ sym c.first_met.ensures ∙ c.in-Missing.is in
    (refl, read_missing m _ c.args.sources.now (record { ready = c.requires.ready; runs = c.requires.runs; inside = c.requires.inside; op = c.requires.op }) (computes m c.args.name ty c.args.target c.args.sources.now) missing)

pub execute-requires-clause-target : goal.execute-requires-clause-target
execute-requires-clause-target c =
    let m = c.args.m.now in
    let e = executes m c.args.name (type_at m.code.now.symbols c.args.target) c.args.target c.args.sources.now (record { ready = c.requires.ready; runs = c.requires.runs; inside = c.requires.inside; op = c.requires.op }) in
    subst (λ l. c.args.target < length l) (sym c.deref_mut.ensures.value) e.target_there

pub execute-requires-clause-places : goal.execute-requires-clause-places
execute-requires-clause-places c =
    let m = c.args.m.now in
    let e = executes m c.args.name (type_at m.code.now.symbols c.args.target) c.args.target c.args.sources.now (record { ready = c.requires.ready; runs = c.requires.runs; inside = c.requires.inside; op = c.requires.op }) in
    subst (λ l. AllBelow (length l) c.args.sources.now) (sym c.deref_mut.ensures.value) e.places

pub execute-requires-clause-takes : goal.execute-requires-clause-takes
execute-requires-clause-takes c =
    let m = c.args.m.now in
    let e = executes m c.args.name (type_at m.code.now.symbols c.args.target) c.args.target c.args.sources.now (record { ready = c.requires.ready; runs = c.requires.runs; inside = c.requires.inside; op = c.requires.op }) in
    subst (λ l. IsTrue (takes c.args.name (type_of (held l c.args.target)) (held_all l c.args.sources.now))) (sym c.deref_mut.ensures.value) e.takes_them

pub execute-requires-clause-updates : goal.execute-requires-clause-updates
execute-requires-clause-updates c =
    let m = c.args.m.now in
    (executes m c.args.name (type_at m.code.now.symbols c.args.target) c.args.target c.args.sources.now (record { ready = c.requires.ready; runs = c.requires.runs; inside = c.requires.inside; op = c.requires.op })).updates_first

pub returns-in_ok-execute-in-All : goal.returns-in_ok-execute-in-All
returns-in_ok-execute-in-All c =
    let m = c.args.m.now in
    let ty = type_at m.code.now.symbols c.args.target in
    let all = ap (λ l. met l c.args.sources.now) (sym c.deref.ensures.value) ∙ sym c.first_met.ensures ∙ c.in-All.is in
    let is = c.in_ok-execute-in-All.ensures ∙ ap (λ l. slice_set (values l) c.args.target (apply c.args.name (type_of (held l c.args.target)) (held_all l c.args.sources.now))) c.deref_mut.ensures.value in
    let same = with_items_is m.slots c.execute.new.slots (as_many m c.args.target _ c.execute.new.slots m.slots.len m.slots.ok.0 is) in
    arrives one_op _ _ _ _ refl (λ i. record (configuration m) { values = values (same i); at = m.at + 1 })
    (executed m c.args.name ty c.args.target c.args.sources.now c.execute.new.slots (record { ready = c.requires.ready; runs = c.requires.runs; inside = c.requires.inside; op = c.requires.op }) all is)
