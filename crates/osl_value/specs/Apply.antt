-- What an operation means: which types it takes, and the value that it gives.
use Rattle.std.specs.Prelude.{ℕ, pos, false, ◌==◌, ◌&&◌, ◌||◌, Bool, not, if◌then◌else◌, List, [], ◌∷◌, length, map, replicate}
use Rattle.std.specs.List.{list_all, list_any}
use Rattle.std.specs.Cmp.Lexicographic.{pointwise}
use Rattle.osl_value.specs.declared.op_name.OpName.{OpName}
use Rattle.osl_value.specs.declared.types.Ty.{Ty}
use Rattle.osl_value.specs.Numbers.{Numeric, arity, value_at}
use Rattle.osl_value.specs.Geometry.{place, each}
use Rattle.osl_value.specs.Types.{same_type, number_count}
use Rattle.osl_value.specs.AnyValue.{AnyValue, is_assignable, converted, is_array, element_type, element_of, with_element, type_of, numbers_of, with_numbers, zero_value, is_one_triple, argument}
use Rattle.osl_value.specs.Forms.{AnInt, AFloat, ANumber, Floats, fits, seen_of, value_seen, function_at}
use Rattle.osl_value.specs.Table.{Rule, On, Made, Assigned, ElementRead, ElementWritten, LengthRead, Row, table}

-- ---- which types

-- as many arguments as the function takes
abbrev pub takes_count : Numeric → List Ty → Bool
takes_count f types = not (arity f == 0) && (arity f == length types)

-- ints alone
abbrev pub takes_ints : Row → Ty → List Ty → Bool
takes_ints row ty types = takes_count row.ints types && fits AnInt ty && list_all (fits AnInt) types

-- floats for a float; floats and triples for a triple
abbrev pub is_float_part : Ty → Ty → Bool
is_float_part ty arg = fits AFloat arg || (is_one_triple ty && is_one_triple arg)

abbrev pub takes_floats : Row → Ty → List Ty → Bool
takes_floats row ty types = takes_count row.floats types && fits Floats ty && list_all (is_float_part ty) types

-- an array and an index, and for a write an element
abbrev reads_element : Ty → List Ty → Bool
reads_element ty (array ∷ index ∷ []) = is_array array && fits AnInt index && same_type ty (element_type array)
reads_element _ _ = false

abbrev writes_element : Ty → List Ty → Bool
writes_element ty (array ∷ index ∷ element ∷ []) =
    is_array array && fits AnInt index && same_type element (element_type array) && same_type ty array
writes_element _ _ = false

abbrev reads_length : Ty → List Ty → Bool
reads_length ty (array ∷ []) = is_array array && fits AnInt ty
reads_length _ _ = false

abbrev assigns : Ty → List Ty → Bool
assigns ty (from ∷ []) = is_assignable ty from
assigns _ _ = false

abbrev pub takes_other : Ty → List Ty → Rule → Bool
takes_other ty types (On forms result f) = fits result ty && pointwise fits forms types
takes_other ty types (Made count result) = fits result ty && pointwise fits (replicate count ANumber) types
takes_other ty types Assigned = assigns ty types
takes_other ty types ElementRead = reads_element ty types
takes_other ty types ElementWritten = writes_element ty types
takes_other ty types LengthRead = reads_length ty types

-- whether the operation takes arguments of these types and writes the type `ty`
abbrev pub row_takes : Row → Ty → List Ty → Bool
row_takes row ty types = takes_ints row ty types || takes_floats row ty types || list_any (takes_other ty types) row.others

unfoldable pub is_allowed : OpName → Ty → List Ty → Bool
is_allowed op ty types = row_takes (table op) ty types

-- ---- which value

abbrev pub ints_value : Row → Ty → List AnyValue → AnyValue
ints_value row ty args = with_numbers ty (value_at row.ints (λ k. seen_of AnInt (argument args k)) ∷ [])

abbrev pub floats_value : Row → Ty → List AnyValue → AnyValue
floats_value row ty args = with_numbers ty (each (number_count ty) row.floats (map numbers_of args))

-- the place in the array that is the first argument, by the index that is the second
abbrev pub array_place : List AnyValue → ℕ
array_place args = place (seen_of AnInt (argument args 1)) (type_of (argument args 0)).len

abbrev pub other_value : Ty → List AnyValue → Rule → AnyValue
other_value ty args (On forms result f) = value_seen result ty (function_at forms result f args)
other_value ty args (Made count result) = with_numbers ty (map (seen_of ANumber) args)
other_value ty args Assigned = converted ty (argument args 0)
other_value ty args ElementRead = element_of (argument args 0) (array_place args)
other_value ty args ElementWritten = with_element (argument args 0) (array_place args) (argument args 2)
other_value ty args LengthRead = with_numbers ty (pos (type_of (argument args 0)).len ∷ [])

-- the value of the first rule that takes these types, and zero where none does
abbrev pub first_value : Ty → List AnyValue → List Rule → AnyValue
first_value ty args [] = zero_value ty
first_value ty args (rule ∷ rules) =
    if takes_other ty (map type_of args) rule then other_value ty args rule else first_value ty args rules

abbrev pub row_value : Row → Ty → List AnyValue → AnyValue
row_value row ty args =
    if takes_ints row ty (map type_of args) then ints_value row ty args
    else if takes_floats row ty (map type_of args) then floats_value row ty args
    else first_value ty args row.others

-- the value of an operation on these arguments, as the written type `ty`
unfoldable pub apply : OpName → Ty → List AnyValue → AnyValue
apply op ty args = row_value (table op) ty args
