use Rattle.std.specs.Prelude.{filter}
use Rattle.oso_code.specs.CodeRun.{sources_of, start_of, is_run}
use Rattle.oso_code.proofs.laws.layers_keep_types.Goals as goal

pub returns : goal.returns
returns c = λ raw inputs point budget valid fit in_range.
    c.sections_keep_types.ensures raw (sources_of raw inputs) (filter (is_run inputs) raw.sections) valid (c.sources_are_typed.ensures raw inputs valid fit) (start_of raw inputs point budget) (c.start_is_typed.ensures raw inputs point budget valid fit in_range)
