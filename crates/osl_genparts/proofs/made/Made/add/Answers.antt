use Rattle.std.proofs.Common.{sym, subst, rules}
use Rattle.osl_gencode.specs.OwnNames.{AreNamed}
use Rattle.osl_genparts.proofs.OwnSymbols.{own_pushed}
use Rattle.osl_genparts.proofs.made.Made.add.Goals as goal

pub invariant_of-self-2 : goal.invariant_of-self-2
invariant_of-self-2 c =
    subst AreNamed (sym c.in_ok-push.ensures.pushed) (own_pushed _ _ _ _ _ _ (search rules) c.self.invariant (search rules) (search rules) c.requires.no_parameter c.requires.no_global c.requires.language c.requires.holds)
