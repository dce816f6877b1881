use Rattle.osl_words.proofs.Jobs.{workers_fit, budget_fits, demo_fits, demo_text_fits}
use Rattle.osl_words.proofs.laws.numbers_in_range.Goals as goal

pub returns-clause-workers : goal.returns-clause-workers
returns-clause-workers c = workers_fit

pub returns-clause-budget : goal.returns-clause-budget
returns-clause-budget c = budget_fits

pub returns-clause-demo : goal.returns-clause-demo
returns-clause-demo c = demo_fits

pub returns-clause-demo_text : goal.returns-clause-demo_text
returns-clause-demo_text c = demo_text_fits
