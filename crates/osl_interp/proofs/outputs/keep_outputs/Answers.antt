use Rattle.std.proofs.Common.{refl, length}
use Rattle.std.proofs.lemmas.Option.{slice_get_read}
use Rattle.osl_interp.proofs.Outcomes.{kept_more, kept_all}
use Rattle.osl_interp.proofs.outputs.keep_outputs.Goals as goal

pub loop-k-preserved : goal.loop-k-preserved
loop-k-preserved c =
    kept_more c.args.symbols.now c.args.slots.now c.loop-k.slots c.loop-k.k c.index-symbols-k.result c.index-slots-k.result c.keep_output.new.slot c.loop-k.invariant
    (slice_get_read c.args.symbols.now (length c.args.symbols.now) c.loop-k.k c.index-symbols-k.result refl c.loop-k-test.true c.index-symbols-k.is)
    c.in_ok-keep_output.ensures.value c.in_ok-keep_output.ensures.kept

pub returns-clause-kept : goal.returns-clause-kept
returns-clause-kept c = kept_all c.args.symbols.now c.args.slots.now c.loop-k.slots c.loop-k.k c.loop-k.invariant c.loop-k-test.false
