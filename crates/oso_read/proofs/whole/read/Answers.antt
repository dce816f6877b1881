use Rattle.oso_read.proofs.ReadContract.{found_is_spelt, spelt_is_found}
use Rattle.oso_read.proofs.whole.read.Goals as goal

pub returns-clause-found : goal.returns-clause-found
returns-clause-found c = found_is_spelt c.args.bytes.now c.read_shader.result c.read_shader.ensures

pub returns-clause-only : goal.returns-clause-only
returns-clause-only c raw spelt = spelt_is_found c.args.bytes.now c.read_shader.result raw c.read_shader.ensures spelt
