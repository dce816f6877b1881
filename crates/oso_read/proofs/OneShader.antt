-- No bytes spell two shaders, since what a text spells is what is read of it.
use Rattle.std.proofs.Common.{◌≡◌, ℕ, List, sym, ◌∙◌}
use Rattle.oso_code.specs.declared.raw.Raw.{Raw}
use Rattle.oso_read.specs.Spelt.{Spelt}
use Rattle.oso_read.proofs.Passing.{ok_of}
use Rattle.oso_read.proofs.SpeltReads.{spelt_reads}

pub one_shader : (bytes : List ℕ) (x y : Raw) → Spelt bytes x → Spelt bytes y → x ≡ y
one_shader bytes x y a b = ok_of x y (sym (spelt_reads bytes x a) ∙ spelt_reads bytes y b)
