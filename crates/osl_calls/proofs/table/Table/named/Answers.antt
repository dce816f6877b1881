use Rattle.std.proofs.Common.{sym, ap, ◌∙◌}
use Rattle.osl_calls.specs.Table.{functions_in, held}
use Rattle.osl_calls.proofs.Names.{key_bytes, looked_up}
use Rattle.osl_calls.proofs.table.Table.named.Goals as goal

pub returns : goal.returns
returns c =
    ap functions_in c.get.ensures.value ∙ sym (looked_up key_bytes c.args.name.now c.self.inside.by_name.entries) ∙ ap (λ t. held t c.args.name.now) c.self.view_is
