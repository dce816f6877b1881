-- What a variable holds: a value, or the parts of a closure.
use Rattle.std.specs.Prelude.{ℕ, ◌+◌, ◌*◌, ◌==◌, ◌&&◌, ◌||◌, Bool, not, if◌then◌else◌, ℤ, List, [], ◌∷◌, ◌++◌, map, take, drop, slice_index_or}
use Rattle.osl_value.specs.declared.types.Base.TheVariants.{Int, Float, Closure}
use Rattle.osl_value.specs.declared.types.Ty.{Ty}
use Rattle.osl_value.specs.declared.closure.Part.{Part}
use Rattle.osl_value.specs.Numbers.{fx_from_int}
use Rattle.osl_value.specs.Geometry.{repeated}
use Rattle.osl_value.specs.Plain.{Plain, zero_of}
use Rattle.osl_value.specs.Types.{is_triple, is_only, same_base, same_type, only, numbers_in, texts_in}

pub data AnyValue : Type 0 where
  Of : Plain → AnyValue
  Parts : List Part → AnyValue

abbrev pub type_of : AnyValue → Ty
type_of (Of v) = v.ty
type_of (Parts parts) = only Closure

abbrev pub numbers_of : AnyValue → List ℤ
numbers_of (Of v) = v.nums
numbers_of (Parts parts) = []

abbrev pub texts_of : AnyValue → List (List ℕ)
texts_of (Of v) = v.texts
texts_of (Parts parts) = []

abbrev pub parts_of : AnyValue → List Part
parts_of (Of v) = []
parts_of (Parts parts) = parts

-- the value of a type with these numbers, or with this text
abbrev pub with_numbers : Ty → List ℤ → AnyValue
with_numbers ty nums = Of (record { ty = ty; nums = nums; texts = [] })

abbrev pub with_text : Ty → List ℕ → AnyValue
with_text ty text = Of (record { ty = ty; nums = []; texts = text ∷ [] })

-- zero, an empty string, or the empty closure
abbrev pub zero_value : Ty → AnyValue
zero_value ty = if same_base ty.base Closure then Parts [] else Of (zero_of ty)

-- the argument at a place
abbrev pub argument : List AnyValue → ℕ → AnyValue
argument args k = slice_index_or args k (Parts [])

-- ---- assignment

abbrev pub is_number : Ty → Bool
is_number ty = is_only Int ty || is_only Float ty

abbrev pub is_one_triple : Ty → Bool
is_one_triple ty = is_triple ty.base && (ty.len == 0)

-- a value of the type `from` may be assigned to a variable of the type `ty`: of the same type, an int to a float, a number to a triple, and one triple to another
abbrev pub is_assignable : Ty → Ty → Bool
is_assignable ty from =
    same_type ty from
    || (is_only Float ty && is_only Int from)
    || (is_one_triple ty && (is_number from || is_one_triple from))

-- the floats of a number or of a triple
abbrev pub floats_of : AnyValue → List ℤ
floats_of v = if is_only Int (type_of v) then map fx_from_int (numbers_of v) else numbers_of v

-- the value as the type `ty`, to which it may be assigned
abbrev pub converted : Ty → AnyValue → AnyValue
converted ty v =
    if same_type ty (type_of v) then v
    else if is_one_triple ty then with_numbers ty (repeated 3 (floats_of v))
    else with_numbers ty (floats_of v)

-- ---- arrays

-- the type of an array's elements
abbrev pub element_type : Ty → Ty
element_type ty = only ty.base

abbrev pub is_array : Ty → Bool
is_array ty = not (ty.len == 0) && not (same_base ty.base Closure)

-- so many items of a list from a place on, and the list with others in their place
abbrev pub items_at : {X : Type 0} → ℕ → ℕ → List X → List X
items_at count from xs = take count (drop from xs)

abbrev pub with_items_at : {X : Type 0} → ℕ → ℕ → List X → List X → List X
with_items_at count from items xs = take from xs ++ (items ++ drop (from + count) xs)

-- element k of an array
abbrev pub element_of : AnyValue → ℕ → AnyValue
element_of v k =
    let ty = element_type (type_of v) in
    let nums = numbers_in ty.base in
    let texts = texts_in ty.base in
    Of (record { ty = ty; nums = items_at nums (k * nums) (numbers_of v); texts = items_at texts (k * texts) (texts_of v) })

-- the array with another element k
abbrev pub with_element : AnyValue → ℕ → AnyValue → AnyValue
with_element v k x =
    let nums = numbers_in (type_of v).base in
    let texts = texts_in (type_of v).base in
    Of (record {
      ty = type_of v;
      nums = with_items_at nums (k * nums) (numbers_of x) (numbers_of v);
      texts = with_items_at texts (k * texts) (texts_of x) (texts_of v);
    })
