use Rattle.osl_rewrites.proofs.Onces.{copies_same}
use Rattle.osl_rewrites.proofs.laws.copies_run_same.Goals as goal

pub returns : goal.returns
returns c = λ from old new p k d v f i e s nested once fates stays closed within before bound. copies_same from old new p k d v f i e s nested once fates stays closed within before bound
