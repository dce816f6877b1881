use Rattle.std.proofs.Common.{◌≡◌, ◌%◌, ap, ◌∙◌}
use Rattle.std.specs.Int.{w32, int_shr, cast_unsigned}
use Rattle.std.proofs.lemmas.Int.{to_z-of_z}
use Rattle.osl_ops.proofs.Wrapping.{shift_back}
use Rattle.osl_ops.proofs.integers.shifted_right.Goals as goal

pub returns : goal.returns
returns c =
    let same = to_z-of_z w32 c.args.a c.ranges.a in
    let bits : c.cast_unsigned.result ≡ cast_unsigned w32 c.args.count = c.cast_unsigned.ensures ∙ ap (cast_unsigned w32) (to_z-of_z w32 c.args.count c.ranges.count) in
    shift_back _ c.args.a (cast_unsigned w32 c.args.count % 32) c.ranges.a (c.wrapping_shr.ensures ∙ (λ i. int_shr (same i) (bits i % 32)))
