use Rattle.std.proofs.Common.{ap, ◌∙◌}
use Rattle.std.specs.Option.{option_copied}
use Rattle.osl_calls.specs.Calling.{called_among}
use Rattle.osl_calls.specs.Table.{functions_in}
use Rattle.osl_calls.proofs.Meanings.{none_called}
use Rattle.osl_calls.proofs.calls.call_among.Goals as goal

pub returns-in-None : goal.returns-in-None
returns-in-None c = ap (λ o. called_among (functions_in (option_copied o)) c.args.args.items) c.in-None.is ∙ none_called c.args.args.items
