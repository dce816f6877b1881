use Rattle.std.proofs.Common.{[], ◌∷◌, refl, sym, ap, ◌∙◌, rules, w32}
use Rattle.std.proofs.lemmas.Int.{to_z-of_z}
use Rattle.osl_value.specs.AnyValue.{type_of, numbers_of, element_of}
use Rattle.osl_value.specs.Geometry.{mat_mul, place}
use Rattle.osl_apply.specs.Slots.{seen}
use Rattle.osl_apply.proofs.Forms.{two_gives, int_seen}
use Rattle.osl_apply.proofs.MatrixOps.{matrix, given_matrix, mat_mul_at, none_left_of_two_matrix}
use Rattle.osl_apply.proofs.Special.{element_at, element_is_matrix}
use Rattle.osl_apply.proofs.matrices.of_two.Goals as goal

pub matrix-requires : goal.matrix-requires
matrix-requires c = (mat_mul_at c.args.name (seen c.args.a.now) (seen c.args.b.now) c.in-Mul.is c.requires).first

pub matrix-requires-in-Mul : goal.matrix-requires-in-Mul
matrix-requires-in-Mul c = (mat_mul_at c.args.name (seen c.args.a.now) (seen c.args.b.now) c.in-Mul.is c.requires).second

pub returns-in-Mul : goal.returns-in-Mul
returns-in-Mul c = two_gives (mat_mul_at c.args.name (seen c.args.a.now) (seen c.args.b.now) c.in-Mul.is c.requires) _ (c.mat_mul.ensures ∙ λ i. mat_mul (ap numbers_of (sym c.matrix.ensures) i) (ap numbers_of (sym c.matrix-in-Mul.ensures) i))

pub int-requires : goal.int-requires
int-requires c = (element_at c.args.name matrix (seen c.args.a.now) (seen c.args.b.now) c.in-ARef.is c.requires).index

pub matrix_element-requires-clause-array : goal.matrix_element-requires-clause-array
matrix_element-requires-clause-array c = (element_at c.args.name matrix (seen c.args.a.now) (seen c.args.b.now) c.in-ARef.is c.requires).array

pub matrix_element-requires-clause-matrices : goal.matrix_element-requires-clause-matrices
matrix_element-requires-clause-matrices c = element_is_matrix (type_of (seen c.args.a.now)) (element_at c.args.name matrix (seen c.args.a.now) (seen c.args.b.now) c.in-ARef.is c.requires).writes

pub returns-in-ARef : goal.returns-in-ARef
returns-in-ARef c = c.matrix_element.ensures ∙ ap (λ n. element_of (seen c.args.a.now) (place n (type_of (seen c.args.a.now)).len)) (to_z-of_z w32 c.int.result (search rules) ∙ int_seen (seen c.args.b.now) _ c.int.ensures) ∙ sym (element_at c.args.name matrix (seen c.args.a.now) (seen c.args.b.now) c.in-ARef.is c.requires).value

pub unreachable-requires : goal.unreachable-requires
unreachable-requires c = none_left_of_two_matrix c.args.name (given_matrix c.args.name ((seen c.args.a.now) ∷ (seen c.args.b.now) ∷ []) 2 refl c.requires) c.in_default.not-Mul c.in_default.not-ARef
