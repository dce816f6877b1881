use Rattle.std.proofs.Common.{◌≡◌, true, false, ◌++◌, is_some, sym, ap, ◌∙◌}
use Rattle.std.specs.List.{list_any}
use Rattle.std.specs.Option.{option_copied}
use Rattle.osl_typed.specs.Typing.{formal_kinds}
use Rattle.osl_calls.specs.Calling.{own_kind, sole_kind}
use Rattle.osl_calls.specs.Table.{functions_in}
use Rattle.osl_calls.proofs.Meanings.{same_kinds, taken_own, taken_other}
use Rattle.osl_calls.proofs.Tables.{own_is}
use Rattle.osl_calls.proofs.functions.Functions.is_taken.Goals as goal

pub returns-then-is_some : goal.returns-then-is_some
returns-then-is_some c = λ structures.
    let h : is_some (own_kind c.args.name.now (sole_kind (formal_kinds c.args.formals.now))) ≡ true =
    ap is_some (ap (own_kind c.args.name.now) (sym c.sole_kind.ensures) ∙ sym c.own_kind.ensures) ∙ sym c.is_some.ensures ∙ c.if-is_some.true in
    sym (ap (list_any (same_kinds (formal_kinds c.args.formals.now)))
    (c.named-named.ensures structures (formal_kinds c.args.formals.now) ∙ ap (λ os. os ++ functions_in (option_copied c.named-named.result)) (own_is c.args.name.now (formal_kinds c.args.formals.now)))
    ∙ taken_own c.args.name.now (formal_kinds c.args.formals.now) (functions_in (option_copied c.named-named.result)) h)

pub returns : goal.returns
returns c = λ structures.
    let h : is_some (own_kind c.args.name.now (sole_kind (formal_kinds c.args.formals.now))) ≡ false =
    ap is_some (ap (own_kind c.args.name.now) (sym c.sole_kind.ensures) ∙ sym c.own_kind.ensures) ∙ sym c.is_some.ensures ∙ c.if-is_some.false in
    c.take.ensures
    ∙ sym (ap (list_any (same_kinds (formal_kinds c.args.formals.now)))
    (c.named-named.ensures structures (formal_kinds c.args.formals.now) ∙ ap (λ os. os ++ functions_in (option_copied c.named-named.result)) (own_is c.args.name.now (formal_kinds c.args.formals.now)))
    ∙ taken_other (formal_kinds c.args.formals.now) (own_kind c.args.name.now (sole_kind (formal_kinds c.args.formals.now))) (functions_in (option_copied c.named-named.result)) h)
