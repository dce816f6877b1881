use Rattle.std.proofs.Common.{◌∙◌}
use Rattle.osl_value.specs.Types.{longest_text}
use Rattle.osl_strops.proofs.Parts.{joined_is}
use Rattle.osl_strops.proofs.strings.concat.Goals as goal

pub returns : goal.returns
returns c = joined_is longest_text c.args.a.now c.args.b.now c.bytes-first.result.now c.bytes-second.result.now c.first_bytes-rest.result.now c.text_of.result c.bytes-first.ensures.short c.bytes-first.ensures.value c.bytes-second.ensures.value c.first_bytes-rest.ensures.value (c.text_of.ensures ∙ c.in_ok-bytes.ensures.bytes)
