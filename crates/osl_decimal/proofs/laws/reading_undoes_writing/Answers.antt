use Rattle.osl_decimal.proofs.RoundTrip.{fx_of-fx_text, int_of-int_text}
use Rattle.osl_decimal.proofs.laws.reading_undoes_writing.Goals as goal

pub returns : goal.returns
returns c = record { fx = fx_of-fx_text; int = int_of-int_text }
