use Rattle.oso_read.proofs.ReadValid.{read_is_flawless}
use Rattle.oso_read.proofs.whole.read_shader.Goals as goal

pub of_flawless-requires : goal.of_flawless-requires
of_flawless-requires c = read_is_flawless c.args.bytes.now c.in_ok-raw.raw c.in_ok-raw.ensures
