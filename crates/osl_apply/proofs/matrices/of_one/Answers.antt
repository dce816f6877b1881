use Rattle.std.proofs.Common.{[], ◌∷◌, refl, sym, ap, ◌∙◌}
use Rattle.osl_value.specs.declared.op_name.OpName.TheVariants.{Transpose}
use Rattle.osl_value.specs.AnyValue.{numbers_of}
use Rattle.osl_value.specs.Forms.{AMatrix}
use Rattle.osl_value.specs.Geometry.{diagonal, transpose}
use Rattle.osl_apply.specs.Slots.{seen}
use Rattle.osl_apply.proofs.Forms.{one_at, one_gives, number_seen}
use Rattle.osl_apply.proofs.MatrixOps.{matrix, given_matrix, matrix_copied, diagonal_at, none_left_of_one_matrix}
use Rattle.osl_apply.proofs.matrices.of_one.Goals as goal

pub matrix-requires : goal.matrix-requires
matrix-requires c = (matrix_copied c.args.name (seen c.args.a.now) c.in-Assign.is c.requires).reads

pub returns-in-Assign : goal.returns-in-Assign
returns-in-Assign c = sym c.matrix.ensures ∙ sym (matrix_copied c.args.name (seen c.args.a.now) c.in-Assign.is c.requires).value

pub number-requires : goal.number-requires
number-requires c = (diagonal_at c.args.name (seen c.args.a.now) c.in-Matrix.is c.requires).reads

pub returns-in-Matrix : goal.returns-in-Matrix
returns-in-Matrix c = one_gives (diagonal_at c.args.name (seen c.args.a.now) c.in-Matrix.is c.requires) _ (c.diagonal.ensures ∙ ap diagonal (number_seen (seen c.args.a.now) _ c.number.ensures.floats))

pub matrix-requires-in-Transpose : goal.matrix-requires-in-Transpose
matrix-requires-in-Transpose c = (one_at c.args.name Transpose AMatrix AMatrix transpose matrix (seen c.args.a.now) c.in-Transpose.is refl c.requires).reads

pub returns-in-Transpose : goal.returns-in-Transpose
returns-in-Transpose c = one_gives (one_at c.args.name Transpose AMatrix AMatrix transpose matrix (seen c.args.a.now) c.in-Transpose.is refl c.requires) _ (c.transpose.ensures ∙ ap transpose (ap numbers_of (sym c.matrix-in-Transpose.ensures)))

pub unreachable-requires : goal.unreachable-requires
unreachable-requires c = none_left_of_one_matrix c.args.name (given_matrix c.args.name ((seen c.args.a.now) ∷ []) 1 refl c.requires) c.in_default.not-Assign c.in_default.not-Matrix c.in_default.not-Transpose
