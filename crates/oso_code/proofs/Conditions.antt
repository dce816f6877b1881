-- A condition is one symbol.
use Rattle.std.proofs.Common.{◌≡◌, ℕ, ◌≤◌, List, [], ◌∷◌, length, false, refl, arith}
use Rattle.std.specs.Prelude.{map}
use Rattle.osl_value.specs.declared.op_name.OpName.{OpName}
use Rattle.osl_value.specs.declared.types.Ty.{Ty}
use Rattle.oso_code.specs.Ops.{takes_condition}

pub never_two : (name : OpName) (f : ℕ → Ty) (args : List ℕ) → 2 ≤ length args → false ≡ takes_condition name (map f args)
never_two name f [] le = absurd (omega arith)
never_two name f (a ∷ []) le = absurd (omega arith)
never_two name f (a ∷ b ∷ more) le = refl
