use Rattle.std.proofs.Common.{Some, refl, sym, ap, ◌∙◌, arith}
use Rattle.std.specs.Prelude.{slice_set}
use Rattle.osl_apply.specs.Slots.{seen}
use Rattle.oso_code.specs.Ops.{type_at}
use Rattle.osl_interp.specs.Meaning.{configuration}
use Rattle.osl_interp.specs.declared.known.Known.TheVariants.{Given}
use Rattle.osl_interp.specs.declared.layer_run.Status.TheVariants.{Stopped}
use Rattle.osl_interp.specs.declared.stop.LayerStop.TheVariants.{Needs}
use Rattle.osl_interp.proofs.Calls.{holds_at, code_as, given_run, given_seen}
use Rattle.osl_interp.proofs.Giving.{asked_slot, asked_input, values_set}
use Rattle.osl_interp.proofs.Laying.{length_values}
use Rattle.osl_interp.proofs.layer_run.LayerRun.take_value.Goals as goal

pub index_mut-requires : goal.index_mut-requires
index_mut-requires c =
    let r = c.self.inside in
    let m = r.machine in
    let h = holds_at r c.args.self.now c.self.view_is c.self.invariant (Stopped (Needs c.args.param)) c.requires.asks in
    let e = m.slots.ok.0 in let l = length_values m.slots.items in
    asked_slot (configuration m) c.args.param h.0.ready h.1 m.slots.len (omega (arith, e, l))

pub index_mut-requires-2 : goal.index_mut-requires-2
index_mut-requires-2 c =
    let r = c.self.inside in
    let h = holds_at r c.args.self.now c.self.view_is c.self.invariant (Stopped (Needs c.args.param)) c.requires.asks in
    asked_input (configuration r.machine) c.args.param h.0.ready h.1 r.machine.inputs.len r.machine.inputs.ok.0

pub invariant_of-self : goal.invariant_of-self
invariant_of-self c =
    let r = c.self.inside in
    let m = r.machine in
    let typed = c.requires.fits ∙ ap (λ code. type_at code.symbols c.args.param) (sym (code_as r c.args.self.now c.self.view_is c.self.invariant)) in
    given_run r c.args.self.now c.self.view_is c.self.invariant c.args.param c.requires.asks (Some (seen c.args.slot)) Given (seen c.args.slot) (refl, refl) typed _ _
    (λ i. record (configuration m) { inputs = slice_set m.inputs.items c.args.param Given; values = values_set m.slots.items c.args.param c.args.slot i })

pub returns : goal.returns
returns c =
    let r = c.self.inside in
    let m = r.machine in
    let typed = c.requires.fits ∙ ap (λ code. type_at code.symbols c.args.param) (sym (code_as r c.args.self.now c.self.view_is c.self.invariant)) in
    given_seen r c.args.self.now c.self.view_is c.self.invariant c.args.param c.requires.asks (Some (seen c.args.slot)) Given (seen c.args.slot) (refl, refl) typed _
    (λ i. record (configuration m) { inputs = slice_set m.inputs.items c.args.param Given; values = values_set m.slots.items c.args.param c.args.slot i })
