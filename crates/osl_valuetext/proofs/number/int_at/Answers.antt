use Rattle.std.proofs.Common.{ℤ, Some, ap, ◌∙◌, rules}
use Rattle.std.specs.Prelude.{FitsSigned}
use Rattle.std.specs.Int.{w32}
use Rattle.std.proofs.lemmas.Int.{to_z-of_z}
use Rattle.osl_valuetext.proofs.Spellings.{int_spelled, no_int_spelled}
use Rattle.osl_valuetext.proofs.number.int_at.Goals as goal

pub returns-in-Some : goal.returns-in-Some
returns-in-Some c =
    let fits : FitsSigned w32 c.in-Some.n = search rules in
    ap (λ (n : ℤ). Some n) (to_z-of_z w32 c.in-Some.n fits) ∙ int_spelled c.args.word.now c.in-Some.n fits c.in-Some.ensures.some

pub returns-in-None : goal.returns-in-None
returns-in-None c = no_int_spelled c.args.word.now c.in-None.ensures.none
