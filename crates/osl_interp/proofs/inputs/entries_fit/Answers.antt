use Rattle.std.proofs.Common.{length, refl}
use Rattle.std.proofs.lemmas.Option.{slice_get_read}
use Rattle.osl_interp.proofs.Entries.{refused, passed}
use Rattle.osl_interp.proofs.inputs.entries_fit.Goals as goal

pub returns-then-not-entry_fits : goal.returns-then-not-entry_fits
returns-then-not-entry_fits c =
    let here = slice_get_read c.args.symbols.now (length c.args.symbols.now) c.loop-k.k c.index-symbols-k.result refl c.loop-k-test.true c.index-symbols-k.is in (
      λ t. absurd (cc t),
      λ all. absurd (refused c.args.symbols.now c.args.wired.now c.args.fixed.now c.loop-k.k c.index-symbols-k.result _ _ c.entry_fits.result (record { here = here; wired_is = c.wired_at.ensures; fixed_is = c.fixed_at.ensures; fits_is = c.entry_fits.ensures }) c.if-not-entry_fits.true all),
    )

pub loop-k-preserved : goal.loop-k-preserved
loop-k-preserved c =
    let here = slice_get_read c.args.symbols.now (length c.args.symbols.now) c.loop-k.k c.index-symbols-k.result refl c.loop-k-test.true c.index-symbols-k.is in
    passed c.args.symbols.now c.args.wired.now c.args.fixed.now c.loop-k.k c.index-symbols-k.result _ _ c.entry_fits.result (record { here = here; wired_is = c.wired_at.ensures; fixed_is = c.fixed_at.ensures; fits_is = c.entry_fits.ensures }) c.if-not-entry_fits.false c.loop-k.invariant
