use Rattle.oso_code.proofs.TypedStart.{end_typed}
use Rattle.oso_code.specs.CodeRun.{layer_run, code_run}
use Rattle.oso_code.proofs.laws.results_are_typed.Goals as goal

pub returns : goal.returns
unfolding code_run
returns c = λ raw inputs point budget results valid fit in_range is. end_typed raw (layer_run raw inputs point budget) results (c.layers_keep_types.ensures raw inputs point budget valid fit in_range) is
