use Rattle.oso_code.proofs.TypedRuns.{valid_typed, act_typed}
use Rattle.oso_code.specs.Ranges.{steps_of}
use Rattle.oso_code.proofs.laws.ops_keep_types.Goals as goal

pub returns : goal.returns
returns c = λ raw from go valid typed. act_typed raw.symbols from typed c.gives_values.ensures c.writes_its_type.ensures (steps_of raw) (valid_typed raw valid) go
