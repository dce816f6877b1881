use Rattle.osl_check.proofs.definitions.is_taken.Goals as goal

pub returns : goal.returns
returns c = c.is_taken.ensures c.args.sight.now.structures
