use Rattle.oso_read.proofs.OneShader.{one_shader}
use Rattle.oso_read.proofs.laws.one_shader.Goals as goal

pub returns : goal.returns
returns c = one_shader
