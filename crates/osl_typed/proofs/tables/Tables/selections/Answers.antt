use Rattle.std.proofs.Common.{sym, ap, ◌∙◌, ◌-◌, arith}
use Rattle.osl_value.specs.AnyValue.{element_type}
use Rattle.osl_overload.specs.declared.signature.Kind.TheVariants.{Value}
use Rattle.osl_typed.specs.Measured.{cut}
use Rattle.osl_typed.specs.Selections.{types_on_the_way}
use Rattle.osl_typed.specs.Sizes.{valued, selections}
use Rattle.osl_typed.proofs.Ways.{of_array, no_way, none_weigh, array_weighs}
use Rattle.osl_typed.proofs.tables.Tables.selections.Goals as goal

pub returns-then-n-eq0 : goal.returns-then-n-eq0
returns-then-n-eq0 c = none_weigh c.args.self.now.structures.now c.args.ty c.args.n (ap (types_on_the_way c.args.ty) c.if-n-eq0.true ∙ no_way c.args.ty)

pub returns : goal.returns
returns c = array_weighs c.args.self.now.structures.now c.args.ty (element_type c.args.ty) c.args.n (c.args.n - 1) c.valued.result c.components-2.result c.and.result
    (of_array c.args.ty c.args.n (sym c.is_array.ensures ∙ c.if-not-is_array.false) (omega arith))
    (c.valued.ensures ∙ ap (λ ty. cut (valued c.args.self.now.structures.now (Value ty))) c.element_type-element.ensures)
    (c.components-2.ensures ∙ ap (λ ty. cut (selections c.args.self.now.structures.now (types_on_the_way ty (c.args.n - 1)))) c.element_type-element.ensures)
    c.and.ensures
