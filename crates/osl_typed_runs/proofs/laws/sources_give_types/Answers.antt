use Rattle.osl_typed_runs.proofs.laws.sources_give_types.Goals as goal

pub returns : goal.returns
returns c = λ t inputs point budget results typing are in_range is. c.results_are_typed.ensures t inputs point budget results (c.typings_are_well_typed.ensures t typing) are in_range is
