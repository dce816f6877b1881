use Rattle.std.proofs.Common.{rules, arith, Option, sym, subst, ap, ◌∙◌, ◌∷◌, ◌++◌}
use Rattle.std.proofs.lemmas.Grind.{common_steps}
use Rattle.std.specs.Option.{option_copied}
use Rattle.osl_typed.specs.declared.found.Found.{Found}
use Rattle.osl_typed.specs.Typing.{kinds_of}
use Rattle.osl_typing.specs.Says.{Says}
use Rattle.osl_calls.specs.Calling.{own_kind, sole_kind, length_of, lengths_of}
use Rattle.osl_calls.specs.Table.{functions_in, sight_of}
use Rattle.osl_calls.proofs.Meanings.{call_is, call_stops, own_is_sole}
use Rattle.osl_calls.proofs.Tables.{own_is}
use Rattle.osl_calls.proofs.calls.call.Goals as goal

pub returns-in_err-args : goal.returns-in_err-args
returns-in_err-args c = λ structures.
    let k = call_stops (sight_of structures c.args.functions.now) c.args.word.now c.args.args.items in
    first_of (search (rules, k), grind (arith, common_steps, k))

pub array_length-requires-clause-sole : goal.array_length-requires-clause-sole
array_length-requires-clause-sole c =
    own_is_sole c.args.word.now (sole_kind (kinds_of c.in_ok-args.args.items)) c.in-Some.kind
    (ap (own_kind c.args.word.now) (sym (c.sole_kind.ensures ∙ ap (λ xs. sole_kind (kinds_of xs)) c.as_slice-2.ensures.value)) ∙ sym c.own_kind.ensures ∙ c.in-Some.is)

pub returns-in-Some : goal.returns-in-Some
returns-in-Some c = λ structures.
    subst (λ (o : Option Found). Says o c.array_length.result)
    (sym (call_is (sight_of structures c.args.functions.now) c.args.word.now c.args.args.items c.in_ok-args.args.items
    (length_of c.in-Some.kind ∷ functions_in (option_copied c.named-named.result)) c.in_ok-args.ensures
    (c.named-named.ensures structures (kinds_of c.in_ok-args.args.items)
    ∙ ap (λ os. os ++ functions_in (option_copied c.named-named.result))
    (own_is c.args.word.now (kinds_of c.in_ok-args.args.items)
    ∙ ap lengths_of (ap (own_kind c.args.word.now) (sym (c.sole_kind.ensures ∙ ap (λ xs. sole_kind (kinds_of xs)) c.as_slice-2.ensures.value)) ∙ sym c.own_kind.ensures ∙ c.in-Some.is)))))
    c.array_length.ensures

pub returns : goal.returns
returns c = λ structures.
    subst (λ (o : Option Found). Says o c.call_among.result)
    (sym (call_is (sight_of structures c.args.functions.now) c.args.word.now c.args.args.items c.in_ok-args.args.items
    (functions_in (option_copied c.named-named.result)) c.in_ok-args.ensures
    (c.named-named.ensures structures (kinds_of c.in_ok-args.args.items)
    ∙ ap (λ os. os ++ functions_in (option_copied c.named-named.result))
    (own_is c.args.word.now (kinds_of c.in_ok-args.args.items)
    ∙ ap lengths_of (ap (own_kind c.args.word.now) (sym (c.sole_kind.ensures ∙ ap (λ xs. sole_kind (kinds_of xs)) c.as_slice-2.ensures.value)) ∙ sym c.own_kind.ensures ∙ c.in-None.is)))))
    c.call_among.ensures
