use Rattle.std.proofs.Common.{sym, ap, ◌∙◌, ◌-◌, arith}
use Rattle.osl_value.specs.AnyValue.{element_type}
use Rattle.osl_typed.specs.Selections.{types_on_the_way, selected_type}
use Rattle.osl_typed.proofs.Ways.{of_array, no_way, stays, leads_through}
use Rattle.osl_typed.proofs.tables.parts.selected_type.Goals as goal

pub returns-then-n-eq0 : goal.returns-then-n-eq0
returns-then-n-eq0 c = stays c.args.ty c.args.n (ap (types_on_the_way c.args.ty) c.if-n-eq0.true ∙ no_way c.args.ty)

pub returns-else-n-eq0 : goal.returns-else-n-eq0
returns-else-n-eq0 c = c.component_type-else-n-eq0.ensures ∙ ap (λ ty. selected_type ty (c.args.n - 1)) c.element_type.ensures
    ∙ leads_through c.args.ty (element_type c.args.ty) c.args.n (c.args.n - 1) (of_array c.args.ty c.args.n (sym c.is_array.ensures ∙ c.if-not-is_array.false) (omega arith))
