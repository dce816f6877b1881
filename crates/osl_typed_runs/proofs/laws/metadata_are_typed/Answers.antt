use Rattle.osl_typed_runs.proofs.MetadataTypes.{datum_made}
use Rattle.osl_typed_runs.proofs.laws.metadata_are_typed.Goals as goal

pub returns : goal.returns
returns c = λ t datum well is. datum_made t well.rules.structures datum is
