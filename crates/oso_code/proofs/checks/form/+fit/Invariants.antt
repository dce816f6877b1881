use Rattle.std.proofs.Common.{length}
use Rattle.oso_code.proofs.checks.form.+fit.Given as goal

abbrev pub decreases-fit : goal.decreases-fit
decreases-fit l = length l.forms.now
