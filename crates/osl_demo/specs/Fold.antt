-- The number that stands for a text: a polynomial in 257 over its bytes, modulo 2^64.
use Rattle.std.specs.Prelude.{ℕ, ◌+◌, ◌*◌, ◌%◌, ◌^◌, List}
use Rattle.std.specs.List.{fold}

abbrev pub with_byte : ℕ → ℕ → ℕ
with_byte h byte = (h * 257 + byte) % 2 ^ 64

abbrev pub fold_from : ℕ → List ℕ → ℕ
fold_from h bytes = fold with_byte h bytes
