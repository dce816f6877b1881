use Rattle.osl_typed.specs.Seen.{seen}
use Rattle.osl_typed.specs.Sizes.{weight}
use Rattle.osl_typed.proofs.Weights.{piece_sum}
use Rattle.osl_typed.proofs.measure.exprs.piece.Goals as goal

pub returns : goal.returns
returns c = λ a is. piece_sum c.args.tables.now.structures.now c.args.kind c.args.part.now (weight (seen c.args.tables.now)) a c.args.indices.now
    c.args.value c.part.result c.and.result c.args.all c.and-2.result is c.part.ensures c.and.ensures c.requires c.and-2.ensures
