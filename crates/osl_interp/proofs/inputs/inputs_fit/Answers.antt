use Rattle.std.proofs.Common.{◌∙◌, ap, subst}
use Rattle.std.specs.Prelude.{◌↔◌, IsTrue}
use Rattle.oso_code.specs.declared.raw.Raw.{Raw}
use Rattle.osl_interp.specs.Starts.{EntriesFit}
use Rattle.osl_interp.proofs.Entries.{inputs_from, entries_from}
use Rattle.osl_interp.proofs.inputs.inputs_fit.Goals as goal

pub returns : goal.returns
returns c =
    let code = c.args.code.now in
    let fits = c.entries_fit.result in
    let symbols = c.as_slice.ensures ∙ ap (λ (raw : Raw). raw.symbols) c.raw.ensures.value in
    let by_symbols = subst (λ ss. IsTrue fits ↔ EntriesFit ss c.args.wired.now c.as_slice-2.result.now) symbols c.entries_fit.ensures in
    let by_both = subst (λ vs. IsTrue fits ↔ EntriesFit code.symbols c.args.wired.now vs) c.as_slice-2.ensures by_symbols in
    (λ fit. inputs_from code c.args.fixed.now c.args.wired.now (by_both.0 fit), λ fit. by_both.1 (entries_from code c.args.fixed.now c.args.wired.now fit))
