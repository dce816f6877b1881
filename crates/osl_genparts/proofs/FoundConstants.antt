-- Constants that are found, or added.
use Rattle.std.proofs.Common.{◌≡◌, ℕ, List, [], ◌∷◌, ◌++◌, length, Some, false, true, Bool, refl, sym, ap, subst, arith}
use Rattle.std.specs.Prelude.{IsTrue, ℤ, not, ◌&&◌, ◌==◌, nat_le}
use Rattle.std.proofs.lemmas.Bool.{and_from, le-leb}
use Rattle.osl_value.specs.declared.types.Base.TheVariants.{Closure}
use Rattle.osl_value.specs.declared.types.Ty.{Ty}
use Rattle.osl_value.specs.Plain.{Plain, IsPlain}
use Rattle.osl_value.specs.Types.{longest_array, slot_count}
use Rattle.osl_value.proofs.SameTypes.{same_base-true}
use Rattle.oso_code.specs.declared.symbol.Class.TheVariants as C
use Rattle.oso_code.specs.declared.symbol.Symbol.{Symbol}
use Rattle.oso_code.specs.Holding.{is_closure, is_type}
use Rattle.osl_gencode.proofs.Growing.{extends_self, extends_push, get_seam, push_length}
use Rattle.osl_gencode.proofs.SizeSums.{slots_push}
use Rattle.osl_genparts.specs.Made.{own_symbol, IsConstantOf, AddsConstant}

-- the type of a value that is no closure is one of the language
pub plain_type : (ty : Ty) (nums : List ℤ) (texts : List (List ℕ)) → IsPlain ty nums texts → IsTrue (is_type ty)
plain_type ty nums texts h = by_test (is_closure ty) refl
  where
    by_test : (t : Bool) → is_closure ty ≡ t → IsTrue (is_type ty)
    by_test true e = absurd (h.no_closure (same_base-true ty.base Closure e))
    by_test false e =
        and_from (nat_le ty.len longest_array) (not (is_closure ty && not (ty.len == 0))) (le-leb ty.len longest_array h.short) (ap (λ c. not (c && not (ty.len == 0))) e)

pub found_constant : (syms : List Symbol) (c : ℕ) (v : Plain) → IsConstantOf syms c v → AddsConstant syms syms v c
found_constant syms c v k = record { constant = k; grows = extends_self syms; few = omega arith; slots = omega arith }

pub added_constant : (syms syms1 : List Symbol) (ty : Ty) (c : ℕ) (v : Plain) → ty ≡ v.ty → c ≡ length syms → syms1 ≡ syms ++ own_symbol (length syms) C.Const ty (Some v) ∷ [] → AddsConstant syms syms1 v c
added_constant syms syms1 ty c v same place is =
    let symbol : Symbol = own_symbol (length syms) C.Const ty (Some v) in
    subst (λ z. AddsConstant syms z v c) (sym is) (subst (AddsConstant syms (syms ++ symbol ∷ []) v) (sym place) (record {
      constant = record { symbol = symbol; here = get_seam syms symbol; class = refl; type = same; value = refl };
      grows = extends_push syms symbol;
      few = omega (arith, push_length syms symbol);
      slots = omega (arith, slots_push syms symbol, ap slot_count same);
    }))
