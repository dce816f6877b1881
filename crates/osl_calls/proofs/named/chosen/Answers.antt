use Rattle.osl_overload.specs.declared.choice.Choice.TheVariants.{Chosen, NoCandidate, Ambiguous}
use Rattle.osl_calls.proofs.Meanings.{chosen_place}
use Rattle.osl_calls.proofs.named.chosen.Goals as goal

pub returns-in-Chosen : goal.returns-in-Chosen
returns-in-Chosen c =
    chosen_place c.args.signatures.now c.args.args.now c.choose.result (Chosen c.in-Chosen.place) c.choose.ensures.choice c.choose.ensures.only c.in-Chosen.is

pub returns-in-NoCandidate : goal.returns-in-NoCandidate
returns-in-NoCandidate c = chosen_place c.args.signatures.now c.args.args.now c.choose.result NoCandidate c.choose.ensures.choice c.choose.ensures.only c.in-NoCandidate.is

pub returns-in-Ambiguous : goal.returns-in-Ambiguous
returns-in-Ambiguous c = chosen_place c.args.signatures.now c.args.args.now c.choose.result Ambiguous c.choose.ensures.choice c.choose.ensures.only c.in-Ambiguous.is
