use Rattle.osl_calls.proofs.Candidates.{no_candidates}
use Rattle.osl_calls.proofs.named.Named.new.Goals as goal

pub returns : goal.returns
returns c = no_candidates c.new.result.items c.new-2.result.items c.new.ensures.items
