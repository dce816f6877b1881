use Rattle.oso_code.specs.Ranges.{steps_of}
use Rattle.oso_code.proofs.Nested.{valid_nested}
use Rattle.osl_rewrites.specs.Cut.{cut}
use Rattle.osl_rewrites.proofs.CutCode.{cut_steps}
use Rattle.osl_rewrites.proofs.Cuts.{nested_cut}
use Rattle.osl_rewrites.proofs.laws.cuts_nest.Goals as goal

pub returns : goal.returns
returns c = λ raw kept valid. nested_cut kept (steps_of raw) (steps_of (cut kept raw)) (cut_steps kept raw) (valid_nested raw valid)
