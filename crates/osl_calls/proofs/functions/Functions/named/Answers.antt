use Rattle.std.proofs.Common.{◌++◌, sym, subst, ap, ◌∙◌}
use Rattle.osl_calls.specs.Calling.{own_candidates}
use Rattle.osl_calls.specs.Table.{HasBuiltIns, held}
use Rattle.osl_calls.proofs.Tables.{all_candidates}
use Rattle.osl_calls.proofs.functions.Functions.named.Goals as goal

pub returns : goal.returns
returns c = λ structures kinds.
    all_candidates structures c.args.self.now c.args.name.now kinds (subst HasBuiltIns c.self.view_is c.self.invariant)
    ∙ ap (λ xs. own_candidates c.args.name.now kinds ++ xs) (ap (λ t. held t c.args.name.now) (sym c.self.view_is) ∙ sym c.named.ensures)
