-- An index that is taken apart.
use Rattle.std.proofs.Common.{◌≡◌, Bool, true, false, refl, Option, None, Some}
use Rattle.osl_overload.specs.Kinds.{same_kind}
use Rattle.osl_typed.specs.declared.found.Found.{Found}
use Rattle.osl_typed.specs.Operators.{int}
use Rattle.osl_typed.specs.Typing.{◌>>=◌, when, expression, tree_of, index}
use Rattle.osl_typing.specs.Pieces.{int_operand, index_by, element}

tested : (b : Bool) (n a : Found) → (when b >>= λ ok. element a (tree_of n)) ≡ ((when b >>= λ ok. Some n) >>= λ m. element a (tree_of m))
tested true n a = refl
tested false n a = refl

taken : (o : Option Found) (a : Found) → (o >>= λ n. when (same_kind n.kind int) >>= λ ok. element a (tree_of n))
    ≡ ((o >>= λ n. when (same_kind n.kind int) >>= λ ok. Some n) >>= λ m. element a (tree_of m))
taken None a = refl
taken (Some n) a = tested (same_kind n.kind int) n a

pub index_is : (a i : Found) → index a i ≡ index_by a i
unfolding index index_by int_operand
index_is a i = taken (expression i) a
