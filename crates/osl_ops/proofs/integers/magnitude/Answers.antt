use Rattle.std.proofs.Common.{pos, ap, ◌∙◌}
use Rattle.std.specs.Prelude.{unsigned_abs}
use Rattle.std.specs.Int.{w32, cast_signed}
use Rattle.std.proofs.lemmas.Int.{to_z-of_z}
use Rattle.osl_ops.proofs.Wrapping.{read_back, abs_is}
use Rattle.osl_ops.proofs.integers.magnitude.Goals as goal

pub returns : goal.returns
returns c =
    let same = to_z-of_z w32 c.args.a c.ranges.a in
    read_back _ (pos (unsigned_abs c.args.a)) (c.wrapping_abs.ensures ∙ ap (λ a. cast_signed w32 (unsigned_abs a)) same ∙ abs_is c.args.a c.ranges.a)
