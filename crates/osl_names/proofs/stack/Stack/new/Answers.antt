use Rattle.std.proofs.Common.{ℕ, subst, sym, ap, ◌∙◌}
use Rattle.std.specs.Global.{Vec}
use Rattle.osl_names.specs.Stack.{Tied, bindings_of, flip}
use Rattle.osl_names.proofs.Stacks.{new_tied, no_bindings, none_there}
use Rattle.osl_names.proofs.stack.Stack.new.Goals as goal

pub invariant_of-result : goal.invariant_of-result
invariant_of-result c = subst (Tied (λ (v : Vec ℕ). v.items) c.new.result) (sym c.new-2.ensures) (new_tied (λ (v : Vec ℕ). v.items) c.new.result (none_there (λ (v : Vec ℕ). v.items) c.new.result c.new.ensures.empty))

pub returns : goal.returns
returns c = ap (λ z. bindings_of (flip z)) c.new-2.ensures ∙ no_bindings
