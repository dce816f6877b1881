use Rattle.std.proofs.Common.{ℕ, List, Some, None, cond, sym, ap, ◌∙◌}
use Rattle.std.specs.Global.{Vec}
use Rattle.std.specs.Prelude.{bytes_eq}
use Rattle.std.specs.Map.{lookup}
use Rattle.osl_names.proofs.Tables.{changed}
use Rattle.osl_names.proofs.stack.restore.Goals as goal

abbrev bytes_of : Vec ℕ → List ℕ
bytes_of v = v.items

pub returns-in-Some-get_mut : goal.returns-in-Some-get_mut
returns-in-Some-get_mut c = λ w.
    let at = c.in-Some.at in
    let u = (c.get_mut.follows.holds at).3 c.requires in
    changed bytes_of c.args.name.now (Some at) c.args.places.now.entries (c.get_mut.follows.lender at).entries u.1 u.3 w
    ∙ ap (λ h. cond (bytes_eq c.args.name.now w) h (lookup (λ k. bytes_eq w k.items) c.args.places.now.entries)) (sym c.in-Some.is)

pub returns-in-None : goal.returns-in-None
returns-in-None c = λ w.
    changed bytes_of c.args.name.now None c.args.places.now.entries c.swap_remove.new.self.entries c.swap_remove.ensures.updates.1 c.swap_remove.ensures.updates.3 w
    ∙ ap (λ h. cond (bytes_eq c.args.name.now w) h (lookup (λ k. bytes_eq w k.items) c.args.places.now.entries)) (sym c.in-None.is)
