use Rattle.std.proofs.Common.{refl}
use Rattle.std.specs.Prelude.{bit_or}
use Rattle.osl_bits.proofs.Lanes.{Combined-lanes}
use Rattle.osl_bits.proofs.words.union_lanes.Goals as goal

pub returns : goal.returns
returns c = Combined-lanes bit_or c.args.words.now c.args.others.now _ c.args.at c.requires.mine c.requires.across refl
