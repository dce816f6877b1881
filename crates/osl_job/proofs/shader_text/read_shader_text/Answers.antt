use Rattle.osl_job.proofs.Verdicts.{bad_source, treeless_source, untyped_source, typed_source, tokens_lie}
use Rattle.osl_job.proofs.shader_text.read_shader_text.Goals as goal

pub returns-in-Err-Bad-clause-is : goal.returns-in-Err-Bad-clause-is
returns-in-Err-Bad-clause-is c = bad_source c.one_reading.ensures.one c.args.text.now c.in-Err-Bad.field-0 c.in-Err-Bad.field-0-0 c.in-Err-Bad.field-0-1 c.in-Err-Bad.field-0-is c.in-Err-Bad.ensures.bad

pub built-requires : goal.built-requires
built-requires c = tokens_lie c.tokens_lie_within.ensures c.args.text.now c.in-Ok.tokens.items _ c.as_slice-in-Ok-check.ensures.value c.in-Ok.ensures.tokens

pub returns-in-Ok-check-clause-is : goal.returns-in-Ok-check-clause-is
returns-in-Ok-check-clause-is c =
    typed_source c.args.text.now c.in-Ok.tokens.items _ _ c.in-Ok-parse.tree c.in-Ok-check._typed c.in_ok-built-in-Ok-check.field-0 c.as_slice.ensures.value c.as_slice-in-Ok-check.ensures.value
    c.in-Ok.ensures.tokens c.in-Ok-parse.ensures.found c.in-Ok-check.ensures.found c.in_ok-built-in-Ok-check.ensures.is

pub returns-in-Err-NoTyping-clause-is : goal.returns-in-Err-NoTyping-clause-is
returns-in-Err-NoTyping-clause-is c =
    untyped_source c.args.text.now c.in-Ok.tokens.items _ c.in-Ok-parse.tree c.in-Err-NoTyping.field-0 c.as_slice.ensures.value c.in-Ok.ensures.tokens c.in-Ok-parse.ensures.found
    c.in-Err-NoTyping.field-0-is c.in-Err-NoTyping.ensures.none

pub returns-in-Err-NoTree-clause-is : goal.returns-in-Err-NoTree-clause-is
returns-in-Err-NoTree-clause-is c =
    treeless_source c.args.text.now c.in-Ok.tokens.items _ c.in-Err-NoTree.field-0 c.as_slice.ensures.value c.in-Ok.ensures.tokens c.in-Err-NoTree.field-0-is c.in-Err-NoTree.ensures.none
