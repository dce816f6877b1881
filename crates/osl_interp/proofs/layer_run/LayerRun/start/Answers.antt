use Rattle.std.proofs.Common.{◌≡◌, ℕ, ◌≤◌, Some, sym, ap, ◌∙◌, subst}
use Rattle.std.specs.Prelude.{slice_get}
use Rattle.osl_value.specs.Types.{longest_array}
use Rattle.oso_code.specs.declared.raw.Raw.{Raw}
use Rattle.oso_code.specs.declared.symbol.Symbol.{Symbol}
use Rattle.osl_interp.specs.Meaning.{configuration}
use Rattle.osl_interp.specs.Starts.{AreFirst, first_configuration}
use Rattle.osl_interp.specs.View.{progress_of, IsRunOf}
use Rattle.osl_interp.specs.declared.layer_run.Status.TheVariants.{Fresh}
use Rattle.osl_interp.proofs.Starting.{lengths_same, symbols_short, started, seen_begun, same_plan}
use Rattle.osl_interp.proofs.layer_run.LayerRun.start.Goals as goal

pub first_machine-requires-clause-entries : goal.first_machine-requires-clause-entries
first_machine-requires-clause-entries c = lengths_same c.args.code.now c.args.wired.now c.args.fixed.now c.requires

pub first_machine-requires-clause-short : goal.first_machine-requires-clause-short
first_machine-requires-clause-short c =
    subst (λ (raw : Raw). (k : ℕ) (symbol : Symbol) → slice_get raw.symbols k ≡ Some symbol → symbol.ty.len ≤ longest_array) (sym c.raw.ensures.value) (symbols_short c.args.code.now c.raw.ensures.valid)

pub invariant_of-result : goal.invariant_of-result
invariant_of-result c =
    let code = c.args.code.now in let wired = c.args.wired.now in let fixed = c.args.fixed.now in
    let m = c.in_ok-machine.machine in
    let values = (configuration m).values in
    let first = subst (λ (raw : Raw). AreFirst raw.symbols wired fixed c.args.point.now values) c.raw.ensures.value c.in_ok-machine.ensures.slots in
    let is = c.in_ok-machine.ensures.machine ∙ ap (λ (raw : Raw). first_configuration raw wired fixed c.args.budget values) c.raw.ensures.value in
    subst (λ plan. IsRunOf plan (configuration m) m.slots.items Fresh)
    (same_plan code _ _ _ _ _ _ (sym c.of-2.ensures) (sym c.of-3.ensures) (sym c.of.ensures))
    (started code wired fixed c.requires c.raw.ensures.valid c.args.point.now c.args.budget values first m.slots.items (configuration m) is)

pub returns : goal.returns
returns c =
    let code = c.args.code.now in let wired = c.args.wired.now in let fixed = c.args.fixed.now in
    let m = c.in_ok-machine.machine in
    let values = (configuration m).values in
    let first = subst (λ (raw : Raw). AreFirst raw.symbols wired fixed c.args.point.now values) c.raw.ensures.value c.in_ok-machine.ensures.slots in
    let is = c.in_ok-machine.ensures.machine ∙ ap (λ (raw : Raw). first_configuration raw wired fixed c.args.budget values) c.raw.ensures.value in
    ap (λ plan. progress_of plan (configuration m) Fresh) (same_plan code _ _ _ _ _ _ c.of-2.ensures c.of-3.ensures c.of.ensures)
    ∙ seen_begun code wired fixed c.requires c.raw.ensures.valid c.args.point.now c.args.budget values first (configuration m) is
