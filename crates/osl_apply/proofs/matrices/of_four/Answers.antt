use Rattle.std.proofs.Common.{[], ◌∷◌, refl, sym, ap, ◌∙◌, rules, w32}
use Rattle.std.proofs.lemmas.Int.{to_z-of_z}
use Rattle.osl_value.specs.AnyValue.{numbers_of}
use Rattle.osl_value.specs.Geometry.{mxcompassign}
use Rattle.osl_apply.specs.Slots.{seen}
use Rattle.osl_apply.proofs.Forms.{float_seen, int_seen}
use Rattle.osl_apply.proofs.MatrixOps.{given_matrix, four_matrix, four_at, four_gives}
use Rattle.osl_apply.proofs.matrices.of_four.Goals as goal

pub matrix-requires : goal.matrix-requires
matrix-requires c = (four_at c.args.name (seen c.args.a.now) (seen c.args.b.now) (seen c.args.c.now) (seen c.args.d.now) (four_matrix c.args.name (given_matrix c.args.name (seen c.args.a.now ∷ seen c.args.b.now ∷ seen c.args.c.now ∷ seen c.args.d.now ∷ []) 4 refl c.requires)) c.requires).first

pub int-requires : goal.int-requires
int-requires c = (four_at c.args.name (seen c.args.a.now) (seen c.args.b.now) (seen c.args.c.now) (seen c.args.d.now) (four_matrix c.args.name (given_matrix c.args.name (seen c.args.a.now ∷ seen c.args.b.now ∷ seen c.args.c.now ∷ seen c.args.d.now ∷ []) 4 refl c.requires)) c.requires).second

pub int-requires-2 : goal.int-requires-2
int-requires-2 c = (four_at c.args.name (seen c.args.a.now) (seen c.args.b.now) (seen c.args.c.now) (seen c.args.d.now) (four_matrix c.args.name (given_matrix c.args.name (seen c.args.a.now ∷ seen c.args.b.now ∷ seen c.args.c.now ∷ seen c.args.d.now ∷ []) 4 refl c.requires)) c.requires).third

pub float-requires : goal.float-requires
float-requires c = (four_at c.args.name (seen c.args.a.now) (seen c.args.b.now) (seen c.args.c.now) (seen c.args.d.now) (four_matrix c.args.name (given_matrix c.args.name (seen c.args.a.now ∷ seen c.args.b.now ∷ seen c.args.c.now ∷ seen c.args.d.now ∷ []) 4 refl c.requires)) c.requires).fourth

pub returns : goal.returns
returns c = four_gives (four_at c.args.name (seen c.args.a.now) (seen c.args.b.now) (seen c.args.c.now) (seen c.args.d.now) (four_matrix c.args.name (given_matrix c.args.name (seen c.args.a.now ∷ seen c.args.b.now ∷ seen c.args.c.now ∷ seen c.args.d.now ∷ []) 4 refl c.requires)) c.requires) _ (c.with_element.ensures ∙ λ i. mxcompassign (ap numbers_of (sym c.matrix.ensures) i) ((to_z-of_z w32 c.int.result (search rules) ∙ int_seen _ _ c.int.ensures) i) ((to_z-of_z w32 c.int-2.result (search rules) ∙ int_seen _ _ c.int-2.ensures) i) (float_seen _ _ c.float.ensures i))
