use Rattle.std.proofs.Common.{◌<◌, ℕ, ap, sym, subst, refl, vec_len, ◌∙◌}
use Rattle.std.proofs.lemmas.Bool.{ltb-true}
use Rattle.osl_job.specs.Code.{op_fits}
use Rattle.osl_job.proofs.Ops.{acts_store}
use Rattle.osl_job.proofs.code.act.Goals as goal

pub returns-in-Some : goal.returns-in-Some
returns-in-Some c =
    let within : c.in-Store.number < vec_len c.args.state.now.vars = ltb-true _ _ (ap (op_fits (vec_len c.args.state.now.vars)) (sym c.in-Store.is) ∙ c.requires) in
    rw c.in-Store.is (acts_store c.in-Store.number c.in-Some.value _ _ (subst (λ (n : ℕ). c.in-Store.number < n) c.args.state.now.vars.ok.0 within) c.in-Some.ensures.items refl)
