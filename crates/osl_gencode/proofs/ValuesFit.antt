-- Values that symbols and metadata state fit, where they are values of their types.
use Rattle.std.proofs.Common.{◌≡◌, ℕ, List, Some, None, Bool, true, false, ℤ, refl, sym, ap, ◌∙◌}
use Rattle.std.specs.Prelude.{IsTrue, not, ◌&&◌}
use Rattle.osl_value.specs.declared.types.Base.TheVariants as B
use Rattle.osl_value.specs.declared.types.Ty.{Ty}
use Rattle.osl_value.specs.AnyValue.{AnyValue, numbers_of, texts_of}
use Rattle.osl_value.specs.Plain.{Plain, IsPlain}
use Rattle.osl_value.specs.Types.{same_type}
use Rattle.osl_value.specs.WellFormed.{IsOfType}
use Rattle.osl_value.proofs.SameTypes.{same_base-true, same_type-refl}
use Rattle.oso_code.specs.Holding.{is_closure, is_type, makes_up}
use Rattle.oso_code.specs.Names.{is_name}
use Rattle.oso_code.specs.Symbols.{is_value_of, datum_fits}
use Rattle.oso_code.proofs.Members.{both_and}
use Rattle.osl_typed_runs.proofs.MadeValues.{plain_makes, value_makes}

-- ---- values

open_type : (ty : Ty) (nums : List ℤ) (texts : List (List ℕ)) → IsPlain ty nums texts → is_closure ty ≡ false
open_type ty nums texts h = by_test (is_closure ty) refl
  where
    by_test : (t : Bool) → is_closure ty ≡ t → is_closure ty ≡ false
    by_test true e = absurd (h.no_closure (same_base-true ty.base B.Closure e))
    by_test false e = e

-- a symbol that states a value of its type, where one is wanted
pub value_fits : (ty : Ty) (wanted : Bool) (v : Plain) → wanted ≡ true → v.ty ≡ ty → IsPlain v.ty v.nums v.texts → IsTrue (is_value_of wanted ty (Some v))
value_fits ty wanted v want same h =
    both_and (wanted && not (is_closure ty)) (same_type v.ty ty && makes_up v.ty v.nums v.texts)
    (both_and wanted (not (is_closure ty)) want (ap not (sym (ap is_closure same) ∙ open_type v.ty v.nums v.texts h)))
    (both_and (same_type v.ty ty) (makes_up v.ty v.nums v.texts) (ap (same_type v.ty) (sym same) ∙ same_type-refl v.ty) (plain_makes v.ty v.nums v.texts h))

-- and none where none is
pub none_fits : (ty : Ty) (wanted : Bool) → wanted ≡ false → IsTrue (is_value_of wanted ty None)
none_fits ty wanted none = ap not none

-- ---- metadata

-- a datum whose value is one of its type; a closure has no numbers and no strings
pub meta_fits : (ty : Ty) (name : List ℕ) (v : AnyValue) → IsTrue (is_name name) → IsTrue (is_type ty) → IsOfType ty v → IsTrue (datum_fits (record { ty = ty; name = name; nums = numbers_of v; texts = texts_of v }))
meta_fits ty name v word type has =
    both_and (is_name name && is_type ty) (makes_up ty (numbers_of v) (texts_of v)) (both_and (is_name name) (is_type ty) word type) (value_makes ty v has)
