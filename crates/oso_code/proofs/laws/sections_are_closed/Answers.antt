use Rattle.oso_code.proofs.Chained.{section_closed, section_within}
use Rattle.oso_code.proofs.laws.sections_are_closed.Goals as goal

pub returns : goal.returns
returns c = λ raw valid j section is. (section_closed raw valid j section is, section_within raw valid j section is)
