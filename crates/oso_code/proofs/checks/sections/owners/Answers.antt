use Rattle.std.proofs.Common.{rules, tests}
use Rattle.std.proofs.lemmas.Iterator.{items_from_collect, YieldsList-from_map, YieldsList-from_slice}
use Rattle.oso_code.specs.Sections.{may_own}
use Rattle.oso_code.proofs.checks.sections.owners.Goals as goal

pub returns : goal.returns
returns c =
    items_from_collect _ c.collect.ensures.ran
    (YieldsList-from_map _ may_own (YieldsList-from_slice c.args.symbols.now cc) c.map.ensures.closure (λ x r q k. search (rules, tests)))
