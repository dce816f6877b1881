use Rattle.std.proofs.Common.{not, sym, ap, ◌∙◌, rules, arith, w32, to_z, of_z}
use Rattle.std.proofs.lemmas.Int.{to_z-of_z}
use Rattle.osl_value.specs.Laws.{int_value}
use Rattle.osl_value.specs.Numbers.{truth}
use Rattle.osl_apply.specs.Slots.{seen}
use Rattle.osl_apply.proofs.Forms.{float_seen}
use Rattle.osl_apply.proofs.Numbers.{on_two_ints}
use Rattle.osl_apply.proofs.Others.{eq_at, neq_at, ordered_at}
use Rattle.osl_apply.proofs.binary.binary.Goals as goal

pub ints-requires : goal.ints-requires
ints-requires c = let e = (on_two_ints c.args.name c.args.ty (seen c.args.a.now) (seen c.args.b.now) (to_z w32 (of_z w32 c.in-Some.m)) (to_z w32 (of_z w32 c.in-Some.n)) c.requires.no_matrix (c.in-Some.ensures.0 ∙ ap int_value (sym (to_z-of_z w32 c.in-Some.m (search rules)))) (c.in-Some.ensures.1 ∙ ap int_value (sym (to_z-of_z w32 c.in-Some.n (search rules)))) c.requires.takes).takes_them in record { some = omega (arith, e); at_most_two = omega (arith, e) }

pub returns-in-Some : goal.returns-in-Some
returns-in-Some c = ap int_value (to_z-of_z w32 c.ints.result (search rules) ∙ c.ints.ensures) ∙ (on_two_ints c.args.name c.args.ty (seen c.args.a.now) (seen c.args.b.now) (to_z w32 (of_z w32 c.in-Some.m)) (to_z w32 (of_z w32 c.in-Some.n)) c.requires.no_matrix (c.in-Some.ensures.0 ∙ ap int_value (sym (to_z-of_z w32 c.in-Some.m (search rules)))) (c.in-Some.ensures.1 ∙ ap int_value (sym (to_z-of_z w32 c.in-Some.n (search rules)))) c.requires.takes).value

pub same-requires : goal.same-requires
same-requires c = (eq_at c.args.name c.args.ty (seen c.args.a.now) (seen c.args.b.now) c.in-Eq.is c.in_default.ensures c.requires.takes).comparable

pub returns-in-Eq : goal.returns-in-Eq
returns-in-Eq c = ap int_value (to_z-of_z w32 c.truth.result (search rules) ∙ c.truth.ensures ∙ ap truth c.same.ensures) ∙ (eq_at c.args.name c.args.ty (seen c.args.a.now) (seen c.args.b.now) c.in-Eq.is c.in_default.ensures c.requires.takes).value

pub same-requires-in-Neq : goal.same-requires-in-Neq
same-requires-in-Neq c = (neq_at c.args.name c.args.ty (seen c.args.a.now) (seen c.args.b.now) c.in-Neq.is c.in_default.ensures c.requires.takes).comparable

pub returns-in-Neq : goal.returns-in-Neq
returns-in-Neq c = ap int_value (to_z-of_z w32 c.truth-in-Neq.result (search rules) ∙ c.truth-in-Neq.ensures ∙ ap (λ s. truth (not s)) c.same-in-Neq.ensures) ∙ (neq_at c.args.name c.args.ty (seen c.args.a.now) (seen c.args.b.now) c.in-Neq.is c.in_default.ensures c.requires.takes).value

pub float-requires : goal.float-requires
float-requires c = (ordered_at c.args.name c.args.ty (seen c.args.a.now) (seen c.args.b.now) (search rules) c.in_default.ensures c.requires.takes).first

pub float-requires-in-Lt : goal.float-requires-in-Lt
float-requires-in-Lt c = (ordered_at c.args.name c.args.ty (seen c.args.a.now) (seen c.args.b.now) (search rules) c.in_default.ensures c.requires.takes).second

pub returns-in-Lt : goal.returns-in-Lt
returns-in-Lt c = ap int_value (to_z-of_z w32 c.ordered.result (search rules) ∙ c.ordered.ensures) ∙ (ordered_at c.args.name c.args.ty (seen c.args.a.now) (seen c.args.b.now) (search rules) c.in_default.ensures c.requires.takes).value c.float.result c.float-in-Lt.result (float_seen (seen c.args.a.now) _ c.float.ensures) (float_seen (seen c.args.b.now) _ c.float-in-Lt.ensures)
