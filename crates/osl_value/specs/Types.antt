-- Types, and what a value of a type holds (OSL specification, "Data types").
use Rattle.std.specs.Prelude.{codes, List, ℕ, ◌*◌, ◌==◌, Bool, true, false, ◌&&◌, if◌then◌else◌}
use Rattle.osl_value.specs.declared.types.Base.{Base}
use Rattle.osl_value.specs.declared.types.Base.TheVariants.{Int, Float, Color, Point, Vector, Normal, Matrix, Str, Closure}
use Rattle.osl_value.specs.declared.types.Ty.{Ty}

-- the words of a type in the language
abbrev pub base_name : Base → List ℕ
base_name Int = codes "int"
base_name Float = codes "float"
base_name Color = codes "color"
base_name Point = codes "point"
base_name Vector = codes "vector"
base_name Normal = codes "normal"
base_name Matrix = codes "matrix"
base_name Str = codes "string"
base_name Closure = codes "closure color"

abbrev pub is_triple : Base → Bool
is_triple Int = false
is_triple Float = false
is_triple Color = true
is_triple Point = true
is_triple Vector = true
is_triple Normal = true
is_triple Matrix = false
is_triple Str = false
is_triple Closure = false

abbrev pub same_base : Base → Base → Bool
same_base Int Int = true
same_base Float Float = true
same_base Color Color = true
same_base Point Point = true
same_base Vector Vector = true
same_base Normal Normal = true
same_base Matrix Matrix = true
same_base Str Str = true
same_base Closure Closure = true
same_base _ _ = false

abbrev pub same_type : Ty → Ty → Bool
same_type a b = same_base a.base b.base && (a.len == b.len)

-- a base type alone, and no array
abbrev pub only : Base → Ty
only base = record { base = base; len = 0 }

abbrev pub is_only : Base → Ty → Bool
is_only base ty = same_type ty (only base)

-- how many numbers, and how many texts, one element holds
abbrev pub numbers_in : Base → ℕ
numbers_in Int = 1
numbers_in Float = 1
numbers_in Color = 3
numbers_in Point = 3
numbers_in Vector = 3
numbers_in Normal = 3
numbers_in Matrix = 16
numbers_in Str = 0
numbers_in Closure = 0

abbrev pub texts_in : Base → ℕ
texts_in Int = 0
texts_in Float = 0
texts_in Color = 0
texts_in Point = 0
texts_in Vector = 0
texts_in Normal = 0
texts_in Matrix = 0
texts_in Str = 1
texts_in Closure = 0

-- an array's length, and 1 where the type is no array
abbrev pub element_count : Ty → ℕ
element_count ty = if ty.len == 0 then 1 else ty.len

abbrev pub number_count : Ty → ℕ
number_count ty = element_count ty * numbers_in ty.base

abbrev pub text_count : Ty → ℕ
text_count ty = element_count ty * texts_in ty.base

-- how many slots one element takes up: 1 for an int, a float or a closure, 3 for a triple, 16 for a matrix, 32 for a string
abbrev pub slots_in : Base → ℕ
slots_in Int = 1
slots_in Float = 1
slots_in Color = 3
slots_in Point = 3
slots_in Vector = 3
slots_in Normal = 3
slots_in Matrix = 16
slots_in Str = 32
slots_in Closure = 1

-- the slots of a value, by which code is limited
abbrev pub slot_count : Ty → ℕ
slot_count ty = element_count ty * slots_in ty.base

-- the most bytes of a string, and the most elements of an array
abbrev pub longest_text : ℕ
longest_text = 512

abbrev pub longest_array : ℕ
longest_array = 1024
