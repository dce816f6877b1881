use Rattle.std.proofs.Common.{◌≡◌, ◌%◌, ◌^◌, pos, ◌*ℤ◌, ap, ◌∙◌, arith}
use Rattle.std.specs.Int.{w32, int_shl, cast_unsigned}
use Rattle.std.proofs.lemmas.Int.{to_z-of_z}
use Rattle.osl_ops.proofs.Wrapping.{shl_is, read_back}
use Rattle.osl_ops.proofs.integers.shifted_left.Goals as goal

pub returns : goal.returns
returns c =
    let same = to_z-of_z w32 c.args.a c.ranges.a in
    let bits : c.cast_unsigned.result ≡ cast_unsigned w32 c.args.count = c.cast_unsigned.ensures ∙ ap (cast_unsigned w32) (to_z-of_z w32 c.args.count c.ranges.count) in
    let power = cast_unsigned w32 c.args.count % 32 in
    read_back _ (c.args.a *ℤ pos (2 ^ power)) (c.wrapping_shl.ensures ∙ (λ i. int_shl w32 (same i) (bits i % 32)) ∙ shl_is c.args.a power c.ranges.a (omega arith))
