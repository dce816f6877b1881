use Rattle.osl_value.proofs.Identities as I
use Rattle.osl_value.proofs.laws.floats_keep.Goals as goal

pub returns : goal.returns
returns c = record {
  add_right = I.fx_add-zero;
  add_left = I.zero-fx_add;
  sub_right = I.fx_sub-zero;
  mul_right = I.fx_mul-one;
  mul_left = I.one-fx_mul;
  div_right = I.fx_div-one;
  mul_zero = λ x. (I.fx_mul-zero x, I.zero-fx_mul x);
  div_zero = λ x. (I.zero-fx_div x, I.fx_div-zero x);
  mix_first = I.fx_mix-zero;
  mix_second = I.fx_mix-one;
}
