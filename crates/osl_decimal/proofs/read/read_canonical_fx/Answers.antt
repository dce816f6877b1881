use Rattle.std.proofs.Common.{ap, ◌∙◌, eqb}
use Rattle.osl_value.specs.Numbers.{IsInRange}
use Rattle.osl_decimal.specs.Decimal.{fx_of}
use Rattle.osl_decimal.specs.Canonical.{fx_text}
use Rattle.osl_decimal.proofs.Canonicals.{never_written, differs}
use Rattle.osl_decimal.proofs.RoundTrip.{fx_of-fx_text}
use Rattle.osl_decimal.proofs.read.read_canonical_fx.Goals as goal
use lib.Pointwise.{pointwise}

pub returns-in_err-x-clause-none : goal.returns-in_err-x-clause-none
returns-in_err-x-clause-none c =
    rw c.from_residual.ensures
    (never_written fx_of fx_text IsInRange fx_of-fx_text c.args.text.now c.in_err-x.ensures)

pub returns-clause-none : goal.returns-clause-none
returns-clause-none c =
    let compared = c.eq.ensures ∙ ap (λ written. pointwise eqb written c.args.text.now) (c.as_bytes.ensures ∙ c.of.ensures) in
    rw c.then_some.ensures
    (differs fx_of fx_text IsInRange fx_of-fx_text c.args.text.now c.in_ok-x.x c.eq.result c.in_ok-x.ensures compared)
