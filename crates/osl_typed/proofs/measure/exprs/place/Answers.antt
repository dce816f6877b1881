use Rattle.osl_typed.specs.Seen.{seen}
use Rattle.osl_typed.specs.Sizes.{weight}
use Rattle.osl_typed.proofs.Weights.{place_sum}
use Rattle.osl_typed.proofs.measure.exprs.place.Goals as goal

pub returns : goal.returns
returns c = place_sum c.args.tables.now.structures.now c.args.tables.now.kinds.now c.args.root c.args.part.now (weight (seen c.args.tables.now)) c.args.indices.now
    c.variable.result c.args.all c.and.result c.variable.ensures c.requires c.and.ensures
