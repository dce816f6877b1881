use Rattle.std.proofs.Common.{◌≡◌, ℕ, List, Some, cond, subst, sym, ap, ◌∙◌}
use Rattle.std.specs.Global.{Vec}
use Rattle.std.specs.Prelude.{bytes_eq}
use Rattle.osl_names.specs.declared.stack.Entry.{Entry}
use Rattle.osl_names.specs.Stack.{Tied, place_by}
use Rattle.osl_names.proofs.Stacks.{pushed}
use Rattle.osl_names.proofs.Tables.{changed}
use Rattle.osl_names.proofs.stack.Stack.push.Goals as goal

abbrev bytes_of : Vec ℕ → List ℕ
bytes_of v = v.items

pub invariant_of-self-in-Ok : goal.invariant_of-self-in-Ok
invariant_of-self-in-Ok c =
    let places = c.self.inside.places in
    let entries = c.self.inside.entries in
    let name = c.args.binding.name in
    let x : Entry = record { binding = c.args.binding; hidden = c.copied-hidden.result } in
    let named : c.in_ok-name.name.items ≡ name = c.in_ok-name.ensures.items ∙ c.as_slice.ensures in
    let hidden : c.copied-hidden.result ≡ place_by bytes_of name places = c.copied-hidden.ensures ∙ c.get.ensures.value ∙ ap (λ n. place_by bytes_of n places) (c.as_slice-2.ensures.value ∙ named) in
    let u = c.in-Ok.ensures.updates in
    subst (Tied bytes_of c.insert.new.self) (sym c.in_ok-push.ensures.ok)
    (pushed bytes_of places c.insert.new.self entries x c.self.invariant hidden
    (λ w. changed bytes_of c.in_ok-name.name.items (Some c.len-at.result) places.entries c.insert.new.self.entries u.1 u.3 w
    ∙ ap (λ n. cond (bytes_eq n w) (Some c.len-at.result) (place_by bytes_of w places)) named
    ∙ ap (λ n. cond (bytes_eq name w) (Some n) (place_by bytes_of w places)) c.len-at.ensures))
