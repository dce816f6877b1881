use Rattle.std.proofs.Common.{sym, ◌∙◌, rules}
use Rattle.osl_apply.specs.Slots.{seen}
use Rattle.std.proofs.Common.{w32}
use Rattle.std.proofs.lemmas.Int.{to_z-of_z}
use Rattle.osl_value.specs.Numbers.{int_clamp}
use Rattle.osl_apply.proofs.Forms.{int_seen}
use Rattle.osl_apply.proofs.Numbers.{clamp_ints, clamp_floats}
use Rattle.osl_apply.proofs.ternary.clamped.Goals as goal

pub int-requires : goal.int-requires
int-requires c = (clamp_ints c.args.ty (seen c.args.a.now) (seen c.args.b.now) (seen c.args.c.now) (sym c.if-is_int.ensures) c.requires).first

pub int-requires-then-is_int : goal.int-requires-then-is_int
int-requires-then-is_int c = (clamp_ints c.args.ty (seen c.args.a.now) (seen c.args.b.now) (seen c.args.c.now) (sym c.if-is_int.ensures) c.requires).second

pub int-requires-then-is_int-2 : goal.int-requires-then-is_int-2
int-requires-then-is_int-2 c = (clamp_ints c.args.ty (seen c.args.a.now) (seen c.args.b.now) (seen c.args.c.now) (sym c.if-is_int.ensures) c.requires).third

pub returns-then-is_int : goal.returns-then-is_int
returns-then-is_int c = (clamp_ints c.args.ty (seen c.args.a.now) (seen c.args.b.now) (seen c.args.c.now) (sym c.if-is_int.ensures) c.requires).value _ (to_z-of_z w32 c.clamp.result (search rules) ∙ c.clamp.ensures ∙ λ i. int_clamp ((to_z-of_z w32 c.int.result (search rules) ∙ (int_seen (seen c.args.a.now) _ c.int.ensures)) i) ((to_z-of_z w32 c.int-then-is_int.result (search rules) ∙ (int_seen (seen c.args.b.now) _ c.int-then-is_int.ensures)) i) ((to_z-of_z w32 c.int-then-is_int-2.result (search rules) ∙ (int_seen (seen c.args.c.now) _ c.int-then-is_int-2.ensures)) i))

pub on_three-requires-clause-types : goal.on_three-requires-clause-types
on_three-requires-clause-types c = clamp_floats c.args.ty (seen c.args.a.now) (seen c.args.b.now) (seen c.args.c.now) (sym c.if-is_int.ensures) c.requires
