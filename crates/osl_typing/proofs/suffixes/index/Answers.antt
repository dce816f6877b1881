use Rattle.std.proofs.Common.{sym, subst}
use Rattle.osl_typing.specs.Says.{Says}
use Rattle.osl_typing.proofs.Indices.{index_is}
use Rattle.osl_typing.proofs.suffixes.index.Goals as goal

pub returns : goal.returns
returns c = subst (λ o. Says o c.index_by.result) (sym (index_is c.args.a c.args.i)) c.index_by.ensures
