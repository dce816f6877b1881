use Rattle.std.proofs.Common.{ℕ, List, cond, drop, is_some, subst, ap, ◌∙◌}
use Rattle.std.specs.Global.{Vec}
use Rattle.std.specs.Prelude.{bytes_eq}
use Rattle.osl_names.specs.Stack.{Tied, place_by}
use Rattle.osl_names.proofs.Stacks.{popped, restored, dropped, nothing_dropped}
use Rattle.osl_names.proofs.stack.Stack.pop.Goals as goal

abbrev bytes_of : Vec ℕ → List ℕ
bytes_of v = v.items

pub restore-requires : goal.restore-requires
restore-requires c =
    let p = popped bytes_of c.self.inside.places c.pop.new.self c.in-Some.entry (subst (Tied bytes_of c.self.inside.places) c.in-Some.ensures c.self.invariant) in
    ap is_some (ap (λ n. place_by bytes_of n c.self.inside.places) c.as_slice.ensures ∙ p.place)

pub invariant_of-self : goal.invariant_of-self
invariant_of-self c =
    let p = popped bytes_of c.self.inside.places c.pop.new.self c.in-Some.entry (subst (Tied bytes_of c.self.inside.places) c.in-Some.ensures c.self.invariant) in
    restored bytes_of c.self.inside.places c.restore.new.places c.pop.new.self c.in-Some.entry p
    (λ w. c.restore.ensures w ∙ ap (λ n. cond (bytes_eq n w) c.in-Some.entry.hidden (place_by bytes_of w c.self.inside.places)) c.as_slice.ensures)

pub returns-in-Some : goal.returns-in-Some
returns-in-Some c = dropped c.self.inside.entries c.pop.new.self c.in-Some.entry c.in-Some.ensures ∙ ap (drop 1) c.self.view_is

pub returns-in_default : goal.returns-in_default
returns-in_default c = nothing_dropped c.self.inside.entries c.pop.new.self c.in_default.ensures.0 c.in_default.ensures.1 ∙ ap (drop 1) c.self.view_is
