use Rattle.std.proofs.Common.{◌≡◌, ◌∙◌, ap, sym, Some}
use Rattle.osl_store.specs.Memory.{name_of}
use Rattle.osl_store.proofs.Lookup.{content-set, content-set_other, content-push, content-push_other}
use Rattle.osl_store.proofs.memory.write_at.Goals as goal

pub returns-in-Some-clause-written : goal.returns-in-Some-clause-written
returns-in-Some-clause-written c =
    let first = rw c.as_slice.ensures.value at c.in-Some.ensures.found in
    content-set c.args.files.now.items c.args.name.now c.in-Some.at (c.index_mut-entry.result.now.0, c.in_ok-copy.copy) c.index_mut-entry.result.now
    first.within (λ k p. first.earlier _ k p) (ap name_of c.index_mut-entry.ensures.value ∙ first.same _)
    ∙ ap Some c.in_ok-copy.ensures.items

pub returns-in-Some-clause-others : goal.returns-in-Some-clause-others
returns-in-Some-clause-others c other n =
    let first = rw c.as_slice.ensures.value at c.in-Some.ensures.found in
    let here : name_of c.index_mut-entry.result.now ≡ c.args.name.now = ap name_of c.index_mut-entry.ensures.value ∙ first.same _ in
    content-set_other c.args.files.now.items other c.in-Some.at (c.index_mut-entry.result.now.0, c.in_ok-copy.copy) c.index_mut-entry.result.now
    first.within (λ e. n (sym e ∙ here)) (λ e. n (sym e ∙ first.same _))

pub returns-in_ok-push-in-None-clause-written : goal.returns-in_ok-push-in-None-clause-written
returns-in_ok-push-in-None-clause-written c =
    rw c.in_ok-push-in-None.ensures.items
    (content-push c.args.files.now.items c.args.name.now (c.in_ok-name-in-None.name, c.in_ok-copy.copy)
    (rw (← c.as_slice.ensures.value) c.in-None.ensures.none) c.in_ok-name-in-None.ensures.ok
    ∙ ap Some c.in_ok-copy.ensures.items)

pub returns-in_ok-push-in-None-clause-others : goal.returns-in_ok-push-in-None-clause-others
returns-in_ok-push-in-None-clause-others c other n =
    rw c.in_ok-push-in-None.ensures.items
    (content-push_other c.args.files.now.items other (c.in_ok-name-in-None.name, c.in_ok-copy.copy) (λ e. n (sym e ∙ c.in_ok-name-in-None.ensures.ok)))
