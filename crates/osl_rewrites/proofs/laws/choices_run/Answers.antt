use Rattle.osl_rewrites.proofs.Choices.{choice_range}
use Rattle.osl_rewrites.proofs.laws.choices_run.Goals as goal

pub returns : goal.returns
returns c = λ from kept old new p l m b head i e s nested tiled cuts chosen choice closed within outside. choice_range from kept old new p l m b head nested tiled cuts chosen choice i e s closed within outside
