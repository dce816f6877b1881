use Rattle.std.proofs.Common.{◌≡◌, List, [], ◌∷◌, ◌++◌, ℕ, Some, None, ap, sym, ◌∙◌}
use Rattle.std.specs.List.{position}
use Rattle.std.specs.Prelude.{slice_set}
use Rattle.std.specs.Str.{bytes_eq}
use Rattle.osl_network.specs.Building.{Waiting}
use Rattle.osl_group.proofs.Putting.{put_at, put_last}
use Rattle.osl_group.proofs.waiting.WaitingValues.put.Goals as goal

pub returns-in-Some-clause-put : goal.returns-in-Some-clause-put
returns-in-Some-clause-put c =
    let found : position (λ (w : Waiting). bytes_eq c.args.new.name w.name) c.args.self.now ≡ Some c.in-Some.at =
    ap (λ (name : List ℕ). position (λ (w : Waiting). bytes_eq name w.name) c.args.self.now) (sym c.name.ensures) ∙ sym c.place_of.ensures ∙ c.in-Some.is in
    ap (λ (xs : List Waiting). slice_set xs c.in-Some.at c.args.new) c.self.view_is ∙ sym (put_at c.args.new c.args.self.now c.in-Some.at found)

pub returns-in_ok-push-in-None-clause-put : goal.returns-in_ok-push-in-None-clause-put
returns-in_ok-push-in-None-clause-put c =
    let none : position (λ (w : Waiting). bytes_eq c.args.new.name w.name) c.args.self.now ≡ None =
    ap (λ (name : List ℕ). position (λ (w : Waiting). bytes_eq name w.name) c.args.self.now) (sym c.name.ensures) ∙ sym c.place_of.ensures ∙ c.in-None.is in
    c.in_ok-push-in-None.ensures.items ∙ ap (λ (xs : List Waiting). xs ++ c.args.new ∷ []) c.self.view_is ∙ sym (put_last c.args.new c.args.self.now none)
