use Rattle.std.proofs.Common.{refl}
use Rattle.std.proofs.lemmas.Bool.{and_parts}
use Rattle.osl_words.specs.Arguments.{matched}
use Rattle.osl_words.proofs.arguments.matched.Goals as goal

pub returns-in-Ok : goal.returns-in-Ok
unfolding matched
returns-in-Ok c =
    let simple = and_parts _ _ c.requires in
    let rows = c.in-Ok.ensures.matches simple.0 in
    let none = c.in-Ok.ensures.kinds c.requires in
    rw (none, rows.0) refl
