use Rattle.std.specs.Prelude.{bit_and}
use Rattle.std.specs.Int.{bit_not, w64}
use Rattle.std.specs.Simd.Lanes.{chunk}
use Rattle.osl_bits.specs.Words.{word_minus}
use Rattle.osl_bits.proofs.Lanes.{Combined-lanes, zip2-map_right}
use Rattle.osl_bits.proofs.words.minus_lanes.Goals as goal

pub returns : goal.returns
returns c = Combined-lanes word_minus c.args.words.now c.args.others.now _ c.args.at c.requires.mine c.requires.across
    (zip2-map_right bit_and (bit_not w64) (chunk c.args.at 8 c.args.words.now) (chunk c.args.at 8 c.args.others.now))
