use Rattle.std.proofs.Common.{Option, sym, subst, ap, ◌∙◌}
use Rattle.std.specs.Option.{option_copied}
use Rattle.osl_typed.specs.declared.found.Callee.TheVariants.{Operation}
use Rattle.osl_value.specs.declared.op_name.OpName.TheVariants.{ArrayLength}
use Rattle.osl_typed.specs.declared.found.Found.{Found}
use Rattle.osl_typing.specs.Says.{Says}
use Rattle.osl_calls.specs.Calling.{called_by}
use Rattle.osl_calls.specs.Named.{candidate}
use Rattle.osl_calls.specs.Table.{functions_in}
use Rattle.osl_calls.proofs.Meanings.{length_shared, length_alone}
use Rattle.osl_calls.proofs.calls.array_length.Goals as goal

pub returns-then-is_shared : goal.returns-then-is_shared
returns-then-is_shared c =
    length_shared c.args.kind (functions_in (option_copied c.args.named)) c.args.args.items c.args.passed.now c.requires.passed c.requires.sole (sym c.is_shared.ensures ∙ c.if-is_shared.true)

pub returns : goal.returns
returns c =
    subst (λ (o : Option Found). Says o c.called_by.result)
    (ap (λ s. called_by (candidate s (Operation ArrayLength)) c.args.args.items) c.in_ok-signature.ensures
    ∙ sym (length_alone c.args.kind (functions_in (option_copied c.args.named)) c.args.args.items c.args.passed.now c.requires.passed c.requires.sole (sym c.is_shared.ensures ∙ c.if-is_shared.false)))
    c.called_by.ensures
