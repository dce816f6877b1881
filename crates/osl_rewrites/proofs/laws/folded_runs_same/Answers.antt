use Rattle.osl_rewrites.proofs.Folded.{folded_sections}
use Rattle.osl_rewrites.proofs.laws.folded_runs_same.Goals as goal

pub returns : goal.returns
returns c = λ known from old new sections s t between n1 n2 size c1 c2 s1 s2 same a b. folded_sections known from old new sections s t between n1 n2 size c1 c2 s1 s2 same a b
