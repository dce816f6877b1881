use Rattle.osl_rewrites.proofs.Held.{range_held}
use Rattle.osl_rewrites.proofs.laws.known_symbols_hold.Goals as goal

pub returns : goal.returns
returns c = λ known from steps i e s t nested closed within sound r. range_held known from steps i e s t nested closed within sound r
