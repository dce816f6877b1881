-- The compiler's own symbols fit after those that there are.
use Rattle.std.proofs.Common.{◌≡◌, ℕ, ◌<◌, List, [], ◌∷◌, ◌++◌, length, Option, false, arith}
use Rattle.std.specs.Prelude.{IsTrue}
use Rattle.osl_value.specs.declared.types.Ty.{Ty}
use Rattle.osl_value.specs.Plain.{Plain}
use Rattle.oso_code.specs.declared.symbol.Class.{Class}
use Rattle.oso_code.specs.declared.symbol.Meta.{Meta}
use Rattle.oso_code.specs.declared.symbol.Symbol.{Symbol}
use Rattle.oso_code.specs.Holding.{is_type}
use Rattle.oso_code.specs.Symbols.{is_parameter, is_global, is_value_of, has_value}
use Rattle.osl_gencode.specs.OwnNames.{own_name, AreNamed}
use Rattle.osl_gencode.proofs.OwnSymbols.{owned_push}
use Rattle.osl_genparts.specs.Made.{most}

-- a symbol with the name of the next number
pub own_pushed : (syms : List Symbol) (class : Class) (ty : Ty) (name : List ℕ) (value : Option Plain) (metas : List Meta) → length syms < most → AreNamed syms → name ≡ own_name (length syms) → metas ≡ []
    → is_parameter class ≡ false → is_global class ≡ false → IsTrue (is_type ty) → IsTrue (is_value_of (has_value class ty) ty value)
    → AreNamed (syms ++ record { class = class; ty = ty; name = name; value = value; metas = metas } ∷ [])
own_pushed syms class ty name value metas few are named none no_parameter no_global type holds =
    owned_push syms (record { class = class; ty = ty; name = name; value = value; metas = metas }) (omega (arith, few)) are (record {
      name = named;
      no_parameter = no_parameter;
      no_global = no_global;
      type = type;
      value = holds;
      metas = none;
    })
