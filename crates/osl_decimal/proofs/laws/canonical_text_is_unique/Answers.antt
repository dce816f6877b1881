use Rattle.osl_decimal.proofs.Rules.{canonical_fx_text, canonical_int_text}
use Rattle.osl_decimal.proofs.Unique.{canonical_fx, canonical_int}
use Rattle.osl_decimal.proofs.laws.canonical_text_is_unique.Goals as goal

pub returns : goal.returns
returns c = record {
  written_fx = canonical_fx_text;
  only_fx = canonical_fx;
  written_int = canonical_int_text;
  only_int = canonical_int;
}
