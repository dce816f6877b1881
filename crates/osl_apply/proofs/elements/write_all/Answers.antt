use Rattle.std.proofs.Common.{ap, ◌∙◌}
use Rattle.osl_value.specs.AnyValue.{Of}
use Rattle.osl_apply.proofs.ArrayParts.{all_written}
use Rattle.osl_apply.proofs.elements.write_all.Goals as goal

pub returns : goal.returns
returns c = ap Of c.write_floats.ensures ∙ all_written c.args.value.now c.args.floats.now c.ty-ty.ensures.fits c.requires c.told-floats
