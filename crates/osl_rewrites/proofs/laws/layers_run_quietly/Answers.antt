use Rattle.osl_rewrites.proofs.Quiets.{quiet_results, quiet_reads}
use Rattle.osl_rewrites.proofs.laws.layers_run_quietly.Goals as goal

pub returns : goal.returns
returns c = λ raw inputs point budget. (quiet_results raw inputs point budget, quiet_reads raw inputs point budget)
