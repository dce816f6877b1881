use Rattle.osl_typed.specs.SourceRun.{start_of, layer_run, source_run}
use Rattle.osl_typed_runs.proofs.LayerTypes.{end_results}
use Rattle.osl_typed_runs.proofs.laws.results_are_typed.Goals as goal

pub returns : goal.returns
unfolding source_run
returns c = λ t inputs point budget results well are in_range is.
    end_results t well.rules well.bounds.numbers (layer_run t inputs (start_of t inputs point budget)) results (c.layers_keep_types.ensures t inputs point budget well are in_range) is
