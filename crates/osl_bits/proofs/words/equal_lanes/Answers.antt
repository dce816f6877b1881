use Rattle.std.specs.Prelude.{nat_eq}
use Rattle.std.specs.Int.{w64}
use Rattle.std.specs.Simd.Lanes.{chunk}
use Rattle.std.proofs.lemmas.Simd.{tops_compared}
use Rattle.osl_bits.proofs.Lanes.{same_lanes}
use Rattle.osl_bits.proofs.words.equal_lanes.Goals as goal

pub returns : goal.returns
returns c = same_lanes c.args.words.now c.args.others.now c.args.at _ c.requires.mine c.requires.across
    (tops_compared w64 nat_eq (chunk c.args.at 8 c.args.words.now) (chunk c.args.at 8 c.args.others.now))
