-- The names of a pair are names.
use Rattle.std.proofs.Common.{◌≡◌, ℕ, List, Some, true, sym}
use Rattle.osl_valuetext.specs.Identifiers.{is_identifier, Pair, pair_at}
use Rattle.osl_valuetext.proofs.PairWords.{pair_spelled}

pub layer_is_name : (word : List ℕ) (pair : Pair) → Some pair ≡ pair_at word → is_identifier pair.layer ≡ true
layer_is_name word pair is = (pair_spelled word pair (sym is)).layer_is

pub param_is_name : (word : List ℕ) (pair : Pair) → Some pair ≡ pair_at word → is_identifier pair.param ≡ true
param_is_name word pair is = (pair_spelled word pair (sym is)).param_is
