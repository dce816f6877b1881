use Rattle.osl_ops.proofs.Components.{set_alone}
use Rattle.osl_ops.proofs.geometry.write_float.Goals as goal

pub returns : goal.returns
returns c = set_alone _ _ c.requires
