use Rattle.oso_code.proofs.Validity.{flawless_valid}
use Rattle.oso_code.proofs.shader.Shader.of_flawless.Goals as goal

pub invariant_of-result : goal.invariant_of-result
invariant_of-result c = flawless_valid c.args.raw c.requires
