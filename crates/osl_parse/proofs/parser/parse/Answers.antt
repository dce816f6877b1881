use Rattle.osl_tree.proofs.Within.{tokens_lie_within}
use Rattle.osl_parse.proofs.Found.{found, none}
use Rattle.osl_parse.proofs.parser.parse.Goals as goal

pub read-requires : goal.read-requires
read-requires c = tokens_lie_within c.args.source.now c.args.tokens.now c.requires

pub returns-clause-found : goal.returns-clause-found
returns-clause-found c = found c.args.source.now c.args.tokens.now c.read.result c.read.ensures

pub returns-clause-none : goal.returns-clause-none
returns-clause-none c = none c.args.source.now c.args.tokens.now c.read.result c.read.ensures
