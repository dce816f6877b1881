use Rattle.osl_interp.proofs.Whole.{resumes_as_code}
use Rattle.osl_interp.proofs.laws.resumes_as_code.Goals as goal

pub returns : goal.returns
returns c = resumes_as_code
