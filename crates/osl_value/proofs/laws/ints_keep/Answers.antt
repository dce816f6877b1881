use Rattle.osl_value.proofs.Identities as I
use Rattle.osl_value.proofs.laws.ints_keep.Goals as goal

pub returns : goal.returns
returns c = record {
  add_right = I.int_add-zero;
  add_left = I.zero-int_add;
  sub_right = I.int_sub-zero;
  mul_right = I.int_mul-one;
  mul_left = I.one-int_mul;
  div_right = I.int_quotient-one;
  mul_zero = λ n. (I.int_mul-zero n, I.zero-int_mul n);
  div_zero = λ n. (I.zero-int_quotient n, I.int_quotient-zero n);
}
