use Rattle.std.proofs.Common.{◌≡◌, ap, ◌∙◌, eqb, rules}
use Rattle.std.proofs.lemmas.Int.{to_z-of_z}
use Rattle.std.specs.Int.{w32}
use Rattle.std.specs.Int.RustNames.{FitsSigned}
use Rattle.osl_decimal.specs.Decimal.{int_of}
use Rattle.osl_decimal.specs.Canonical.{int_text}
use Rattle.osl_decimal.proofs.Canonicals.{never_written, differs}
use Rattle.osl_decimal.proofs.RoundTrip.{int_of-int_text}
use Rattle.osl_decimal.proofs.read.read_canonical_int.Goals as goal
use lib.Pointwise.{pointwise}
use mir.Val.{of_z, to_z}

pub returns-in_err-n-clause-none : goal.returns-in_err-n-clause-none
returns-in_err-n-clause-none c =
    rw c.from_residual.ensures
    (never_written int_of int_text (FitsSigned w32) int_of-int_text c.args.text.now c.in_err-n.ensures)

pub returns-clause-none : goal.returns-clause-none
returns-clause-none c =
    let n = c.in_ok-n.n in
    let n_is : to_z w32 (of_z w32 n) ≡ n = to_z-of_z w32 n (search rules) in
    let written = c.as_bytes.ensures.value ∙ c.format.ensures.text ∙ ap int_text n_is in
    let compared = c.eq.ensures ∙ ap (λ bytes. pointwise eqb bytes c.args.text.now) written in
    rw (c.then_some.ensures, n_is)
    (differs int_of int_text (FitsSigned w32) int_of-int_text c.args.text.now n c.eq.result c.in_ok-n.ensures compared)
