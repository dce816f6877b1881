-- Operations that leave one argument as it was, or give zero, by an argument that is known.
use Rattle.std.specs.Prelude.{◌≡◌, ℕ, ℤ, pos, ◌-ℤ◌, ◌+◌, ◌==◌, Bool, true, false, ◌&&◌, ◌||◌, List, [], ◌∷◌, map, Option, Some, None, if◌then◌else◌, slice_get, slice_index_or, IsTrue}
use Rattle.std.specs.List.{list_all, All}
use Rattle.osl_value.specs.declared.op_name.OpName.{OpName}
use Rattle.osl_value.specs.declared.op_name.OpName.TheVariants.{Assign, Add, Sub, Mul, Div, Mix}
use Rattle.osl_value.specs.declared.types.Base.TheVariants.{Int, Closure}
use Rattle.osl_value.specs.declared.types.Ty.{Ty}
use Rattle.osl_value.specs.AnyValue.{AnyValue, type_of, numbers_of, zero_value, is_number, is_one_triple}
use Rattle.osl_value.specs.Apply.{apply, is_allowed}
use Rattle.osl_value.specs.Numbers.{scale, is_zero}
use Rattle.osl_value.specs.Types.{is_only}
use Rattle.osl_value.specs.WellFormed.{IsValue}
use Rattle.osl_rewrites.specs.Known.{Known}

-- what an argument has to be
pub data Condition : Type 0 where
  Anything : Condition
  IsZero : Condition
  IsOne : Condition

-- what the op becomes an assign of
pub data Replacement : Type 0 where
  Argument : ℕ → Replacement
  Zero : Replacement

-- the written types that a row is for
pub data TypeKind : Type 0 where
  OfNumbers : TypeKind  -- numbers and triples
  OfClosure : TypeKind

-- a row of the table: for written types of this kind, arguments that meet the conditions, and what the op becomes
pub record Identity : Type 0 where
  pub types : TypeKind
  pub wanted : List Condition
  pub becomes : Replacement

-- a row, on one line
abbrev pub row : TypeKind → List Condition → Replacement → Identity
row types wanted becomes = record { types = types; wanted = wanted; becomes = becomes }

-- of each operation the forms of its rows, in their order
abbrev pub forms_of : OpName → List Identity
forms_of Add = row OfNumbers (Anything ∷ IsZero ∷ []) (Argument 0) ∷ row OfNumbers (IsZero ∷ Anything ∷ []) (Argument 1) ∷ []
forms_of Sub = row OfNumbers (Anything ∷ IsZero ∷ []) (Argument 0) ∷ []
forms_of Mul =
    row OfNumbers (Anything ∷ IsOne ∷ []) (Argument 0) ∷ row OfNumbers (IsOne ∷ Anything ∷ []) (Argument 1)
    ∷ row OfNumbers (Anything ∷ IsZero ∷ []) Zero ∷ row OfNumbers (IsZero ∷ Anything ∷ []) Zero
    ∷ row OfClosure (Anything ∷ IsOne ∷ []) (Argument 0) ∷ row OfClosure (IsOne ∷ Anything ∷ []) (Argument 1) ∷ []
forms_of Div = row OfNumbers (Anything ∷ IsOne ∷ []) (Argument 0) ∷ row OfNumbers (IsZero ∷ Anything ∷ []) Zero ∷ row OfNumbers (Anything ∷ IsZero ∷ []) Zero ∷ []
forms_of Mix = row OfNumbers (Anything ∷ Anything ∷ IsZero ∷ []) (Argument 0) ∷ row OfNumbers (Anything ∷ Anything ∷ IsOne ∷ []) (Argument 1) ∷ []
forms_of _ = []

-- ---- which values are 0 or 1; of a triple, all components

-- a number that is 0, or a triple of zeros
abbrev pub is_zero_value : AnyValue → Bool
is_zero_value v = (is_number (type_of v) || is_one_triple (type_of v)) && list_all is_zero (numbers_of v)

-- what 1 is in the numbers of the type
abbrev pub unit_of : Ty → ℤ
unit_of ty = if is_only Int ty then pos 1 else pos scale

-- a number that is 1, or a triple of ones
abbrev pub is_one : AnyValue → Bool
is_one v = (is_number (type_of v) || is_one_triple (type_of v)) && list_all (λ n. is_zero (n -ℤ unit_of (type_of v))) (numbers_of v)

-- what is known of the argument meets the condition
abbrev pub meets : Condition → Option AnyValue → Bool
meets Anything known = true
meets IsZero None = false
meets IsZero (Some v) = is_zero_value v
meets IsOne None = false
meets IsOne (Some v) = is_one v

-- and so of all arguments
abbrev pub meet_all : Known → List Condition → List ℕ → Bool
meet_all known [] [] = true
meet_all known [] (k ∷ ks) = false
meet_all known (w ∷ ws) [] = false
meet_all known (w ∷ ws) (k ∷ ks) = meets w (known k) && meet_all known ws ks

-- the type is of the kind
abbrev pub is_of : TypeKind → Ty → Bool
is_of OfNumbers ty = is_number ty || is_one_triple ty
is_of OfClosure ty = is_only Closure ty

-- the row is for an op that writes this type and reads these symbols
abbrev pub row_fits : Known → Ty → List ℕ → Identity → Bool
row_fits known ty sources id = is_of id.types ty && meet_all known id.wanted sources

-- the sources that the row no longer reads
abbrev pub without : ℕ → ℕ → List ℕ → List ℕ
without at k [] = []
without at k (x ∷ xs) = if at == k then xs else x ∷ without (at + 1) k xs

-- the sources of an op that its assign does not read
abbrev pub no_longer_read : Replacement → List ℕ → List ℕ
no_longer_read (Argument k) sources = without 0 k sources
no_longer_read Zero sources = sources

-- ---- the law of a row

-- the value meets the condition
abbrev pub MeetsValue : Condition → AnyValue → Type 0
MeetsValue Anything v = Unit {0}
MeetsValue IsZero v = IsTrue (is_zero_value v)
MeetsValue IsOne v = IsTrue (is_one v)

-- and so do all values
abbrev pub MeetAll : List Condition → List AnyValue → Type 0
MeetAll [] [] = Unit {0}
MeetAll [] (v ∷ vs) = ⊥
MeetAll (w ∷ ws) [] = ⊥
MeetAll (w ∷ ws) (v ∷ vs) = MeetsValue w v × MeetAll ws vs

-- what the assign gives
abbrev pub result_of : Ty → Replacement → List AnyValue → AnyValue
result_of ty (Argument k) vs = apply Assign ty (slice_index_or vs k (zero_value ty) ∷ [])
result_of ty Zero vs = apply Assign ty (zero_value ty ∷ [])

-- on values that the op takes it gives what the assign gives, at the ends of the range too
abbrev pub IsExact : OpName → Identity → Type 0
IsExact op id =
    (ty : Ty) (vs : List AnyValue) → All IsValue vs → MeetAll id.wanted vs → IsTrue (is_of id.types ty)
    → IsTrue (is_allowed op ty (map type_of vs)) → apply op ty vs ≡ result_of ty id.becomes vs

-- the law of the table: each row is exact
abbrev pub AllExact : Type 0
AllExact = (op : OpName) (j : ℕ) (id : Identity) → slice_get (forms_of op) j ≡ Some id → IsExact op id
