use Rattle.std.proofs.Common.{take, ap, ◌∙◌}
use Rattle.std.proofs.lemmas.List.{take_min}
use Rattle.osl_strops.proofs.strings.first_bytes.Goals as goal

pub returns-clause-value : goal.returns-clause-value
returns-clause-value c = ap (λ n. take n c.args.bytes.now) c.min.ensures ∙ take_min c.args.count c.args.bytes.now
