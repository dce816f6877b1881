use Rattle.std.proofs.Common.{sym, ap, ◌∙◌}
use Rattle.osl_value.specs.AnyValue.{type_of}
use Rattle.osl_value.specs.Closures.{joined, weighted}
use Rattle.osl_apply.specs.Slots.{seen}
use Rattle.osl_apply.proofs.Forms.{two_gives, ok_is, parts_seen}
use Rattle.osl_apply.proofs.Numbers.{two_floats_taken}
use Rattle.osl_value.specs.declared.types.Base.TheVariants.{Closure}
use Rattle.osl_value.specs.Types.{only, is_only}
use Rattle.osl_value.proofs.SameTypes.{same_type-true}
use Rattle.osl_apply.proofs.Special.{add_at, mul_left, mul_right, factor_is, is_product}
use Rattle.osl_apply.proofs.binary.arithmetic.Goals as goal

pub on_two-requires-clause-types : goal.on_two-requires-clause-types
on_two-requires-clause-types c = two_floats_taken c.args.name c.args.ty (seen c.args.a.now) (seen c.args.b.now) c.requires.arithmetic c.requires.no_matrix (sym c.is_closure.ensures ∙ c.if-not-is_closure.true) c.requires.no_ints c.requires.takes

pub node-requires : goal.node-requires
node-requires c = (add_at c.args.name c.args.ty (seen c.args.a.now) (seen c.args.b.now) c.in-Add.is (same_type-true c.args.ty (only Closure) (sym c.if-not-is_closure.ensures)) c.requires.takes).first

pub node-requires-in-Add : goal.node-requires-in-Add
node-requires-in-Add c = (add_at c.args.name c.args.ty (seen c.args.a.now) (seen c.args.b.now) c.in-Add.is (same_type-true c.args.ty (only Closure) (sym c.if-not-is_closure.ensures)) c.requires.takes).second

pub returns-in-Add : goal.returns-in-Add
returns-in-Add c = ok_is _ _ _ (two_gives (add_at c.args.name c.args.ty (seen c.args.a.now) (seen c.args.b.now) c.in-Add.is (same_type-true c.args.ty (only Closure) (sym c.if-not-is_closure.ensures)) c.requires.takes) _ (λ i. joined (parts_seen (seen c.args.a.now) _ c.node.ensures i) (parts_seen (seen c.args.b.now) _ c.node-in-Add.ensures i))) c.sum.ensures

pub promoted-requires : goal.promoted-requires
promoted-requires c = factor_is (type_of (seen c.args.a.now)) (mul_right c.args.name c.args.ty (seen c.args.a.now) (seen c.args.b.now) (is_product c.args.name c.args.ty (seen c.args.a.now) (seen c.args.b.now) c.requires.arithmetic (same_type-true c.args.ty (only Closure) (sym c.if-not-is_closure.ensures)) c.in_default.not-Add c.requires.takes) (same_type-true c.args.ty (only Closure) (sym c.if-not-is_closure.ensures)) (sym c.ty.ensures.value ∙ same_type-true c.ty.result (only Closure) (sym c.if-is_closure.ensures)) c.requires.takes).first

pub node-requires-then-is_closure : goal.node-requires-then-is_closure
node-requires-then-is_closure c = (mul_right c.args.name c.args.ty (seen c.args.a.now) (seen c.args.b.now) (is_product c.args.name c.args.ty (seen c.args.a.now) (seen c.args.b.now) c.requires.arithmetic (same_type-true c.args.ty (only Closure) (sym c.if-not-is_closure.ensures)) c.in_default.not-Add c.requires.takes) (same_type-true c.args.ty (only Closure) (sym c.if-not-is_closure.ensures)) (sym c.ty.ensures.value ∙ same_type-true c.ty.result (only Closure) (sym c.if-is_closure.ensures)) c.requires.takes).second

pub returns-then-is_closure : goal.returns-then-is_closure
returns-then-is_closure c = ok_is _ _ _ (two_gives (mul_right c.args.name c.args.ty (seen c.args.a.now) (seen c.args.b.now) (is_product c.args.name c.args.ty (seen c.args.a.now) (seen c.args.b.now) c.requires.arithmetic (same_type-true c.args.ty (only Closure) (sym c.if-not-is_closure.ensures)) c.in_default.not-Add c.requires.takes) (same_type-true c.args.ty (only Closure) (sym c.if-not-is_closure.ensures)) (sym c.ty.ensures.value ∙ same_type-true c.ty.result (only Closure) (sym c.if-is_closure.ensures)) c.requires.takes) _ (λ i. weighted (sym c.promoted.ensures.floats i) (parts_seen (seen c.args.b.now) _ c.node-then-is_closure.ensures i))) c.product.ensures

pub promoted-requires-else-is_closure : goal.promoted-requires-else-is_closure
promoted-requires-else-is_closure c = factor_is (type_of (seen c.args.b.now)) (mul_left c.args.name c.args.ty (seen c.args.a.now) (seen c.args.b.now) (is_product c.args.name c.args.ty (seen c.args.a.now) (seen c.args.b.now) c.requires.arithmetic (same_type-true c.args.ty (only Closure) (sym c.if-not-is_closure.ensures)) c.in_default.not-Add c.requires.takes) (same_type-true c.args.ty (only Closure) (sym c.if-not-is_closure.ensures)) (ap (is_only Closure) (sym c.ty.ensures.value) ∙ sym c.if-is_closure.ensures) c.requires.takes).second

pub node-requires-else-is_closure : goal.node-requires-else-is_closure
node-requires-else-is_closure c = (mul_left c.args.name c.args.ty (seen c.args.a.now) (seen c.args.b.now) (is_product c.args.name c.args.ty (seen c.args.a.now) (seen c.args.b.now) c.requires.arithmetic (same_type-true c.args.ty (only Closure) (sym c.if-not-is_closure.ensures)) c.in_default.not-Add c.requires.takes) (same_type-true c.args.ty (only Closure) (sym c.if-not-is_closure.ensures)) (ap (is_only Closure) (sym c.ty.ensures.value) ∙ sym c.if-is_closure.ensures) c.requires.takes).first

pub returns-else-is_closure : goal.returns-else-is_closure
returns-else-is_closure c = ok_is _ _ _ (two_gives (mul_left c.args.name c.args.ty (seen c.args.a.now) (seen c.args.b.now) (is_product c.args.name c.args.ty (seen c.args.a.now) (seen c.args.b.now) c.requires.arithmetic (same_type-true c.args.ty (only Closure) (sym c.if-not-is_closure.ensures)) c.in_default.not-Add c.requires.takes) (same_type-true c.args.ty (only Closure) (sym c.if-not-is_closure.ensures)) (ap (is_only Closure) (sym c.ty.ensures.value) ∙ sym c.if-is_closure.ensures) c.requires.takes) _ (λ i. weighted (sym c.promoted-else-is_closure.ensures.floats i) (parts_seen (seen c.args.a.now) _ c.node-else-is_closure.ensures i))) c.product-else-is_closure.ensures
