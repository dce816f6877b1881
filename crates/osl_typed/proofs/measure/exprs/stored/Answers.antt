use Rattle.osl_typed.specs.Seen.{seen}
use Rattle.osl_typed.specs.Sizes.{weight}
use Rattle.osl_typed.proofs.Weights.{stored_sum}
use Rattle.osl_typed.proofs.measure.exprs.stored.Goals as goal

pub returns : goal.returns
returns c = λ a is. stored_sum (seen c.args.tables.now) c.args.root c.args.part.now (weight (seen c.args.tables.now)) c.args.indices.now a c.kind_of_part.result
    c.valued.result c.place.result c.and.result c.args.right c.and-2.result c.kind_of_part.ensures c.valued.ensures c.place.ensures c.and.ensures is c.and-2.ensures
