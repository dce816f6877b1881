use Rattle.std.proofs.Common.{ℕ, List, arith, sym, ap, ◌∙◌}
use Rattle.std.specs.Global.{Vec}
use Rattle.std.specs.Option.{option_copied}
use Rattle.std.proofs.lemmas.Grind.{common_steps}
use Rattle.osl_typed.specs.Scopes.{look}
use Rattle.osl_names.proofs.Stacks.{look_by}
use Rattle.osl_names.proofs.stack.Stack.look.Goals as goal

abbrev bytes_of : Vec ℕ → List ℕ
bytes_of v = v.items

pub returns-in_err-at : goal.returns-in_err-at
returns-in_err-at c =
    let e = ap (look c.args.name.now) (sym c.self.view_is) ∙ look_by bytes_of c.self.inside.places c.self.inside.entries c.self.invariant c.args.name.now (option_copied c.get.result) c.get.ensures.value in
    grind (arith, common_steps)

pub returns-in_err-entry : goal.returns-in_err-entry
returns-in_err-entry c =
    let e = ap (look c.args.name.now) (sym c.self.view_is) ∙ look_by bytes_of c.self.inside.places c.self.inside.entries c.self.invariant c.args.name.now (option_copied c.get.result) c.get.ensures.value in
    grind (arith, common_steps)

pub returns : goal.returns
returns c =
    let e = ap (look c.args.name.now) (sym c.self.view_is) ∙ look_by bytes_of c.self.inside.places c.self.inside.entries c.self.invariant c.args.name.now (option_copied c.get.result) c.get.ensures.value in
    grind (arith, common_steps)
