use Rattle.osl_typed.proofs.Choices as choices
use Rattle.osl_typed.proofs.laws.least_is_chosen.Goals as goal

pub returns : goal.returns
returns c = λ candidates args i. (choices.chosen_is_least candidates args i, choices.least_is_chosen candidates args i)
