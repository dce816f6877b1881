-- What holds of the table as a whole.
use Rattle.std.specs.Prelude.{◌≡◌, ◌<◌, ℤ, pos, FitsSigned, List, [], ◌∷◌, length, map, IsTrue}
use Rattle.std.specs.Int.{w32}
use Rattle.std.specs.List.{All}
use Rattle.osl_value.specs.declared.op_name.OpName.{OpName}
use Rattle.osl_value.specs.declared.op_name.OpName.TheVariants.{Assign}
use Rattle.osl_value.specs.declared.types.Base.TheVariants.{Int, Closure}
use Rattle.osl_value.specs.declared.types.Ty.{Ty}
use Rattle.osl_value.specs.declared.closure.Part.{Part}
use Rattle.osl_value.specs.Closures.{full_weight, weighted}
use Rattle.osl_value.specs.AnyValue.{AnyValue, type_of, numbers_of, with_numbers}
use Rattle.osl_value.specs.Apply.{apply, is_allowed, takes_floats}
use Rattle.osl_value.specs.Geometry.{number_at, each}
use Rattle.osl_value.specs.Numbers.{scale, IsInRange, arity, value_at, fx_add, fx_sub, fx_mul, fx_div, fx_mix, int_add, int_sub, int_mul, int_quotient}
use Rattle.osl_value.specs.OpText.{name_of}
use Rattle.osl_value.specs.Table.{table}
use Rattle.osl_value.specs.WellFormed.{AreParts, IsValue}
use Rattle.osl_value.specs.Types.{only, number_count}

-- no two operations have one name
abbrev pub NamesDiffer : Type 0
NamesDiffer = (a b : OpName) → name_of a ≡ name_of b → a ≡ b

-- an int as a value
abbrev pub int_value : ℤ → AnyValue
int_value n = with_numbers (only Int) (n ∷ [])

-- on as many ints as it takes an operation gives the int of its row
abbrev pub IntsGiveInts : Type 0
IntsGiveInts =
    (op : OpName) (ns : List ℤ) → 0 < length ns → arity (table op).ints ≡ length ns
    → apply op (only Int) (map int_value ns) ≡ int_value (value_at (table op).ints (number_at ns))

-- on floats and triples it gives the floats of its row, component by component
abbrev pub FloatsGiveFloats : Type 0
FloatsGiveFloats =
    (op : OpName) (ty : Ty) (args : List AnyValue) → IsTrue (takes_floats (table op) ty (map type_of args))
    → apply op ty args ≡ with_numbers ty (each (number_count ty) (table op).floats (map numbers_of args))

-- what is written has the written type
abbrev pub WritesItsType : Type 0
WritesItsType =
    (op : OpName) (ty : Ty) (args : List AnyValue) → IsTrue (is_allowed op ty (map type_of args))
    → type_of (apply op ty args) ≡ ty

-- no array of closures, of which there are no values (the other types have them)
abbrev pub HasValues : Ty → Type 0
HasValues ty = ty.base ≡ Closure → ty.len ≡ 0

-- and so it has whatever the arguments are
abbrev pub AppliedType : Type 0
AppliedType = (op : OpName) (ty : Ty) (args : List AnyValue) → HasValues ty → type_of (apply op ty args) ≡ ty

-- an assignment to a variable of the same type is a copy
abbrev pub CopiesItsType : Type 0
CopiesItsType = (v : AnyValue) → apply Assign (type_of v) (v ∷ []) ≡ v

-- 0 and 1 leave a float as it was or make it 0, at the ends of the range too
pub record FloatsKeep : Type 0 where
  pub add_right : (x : ℤ) → IsInRange x → fx_add x (pos 0) ≡ x
  pub add_left : (x : ℤ) → IsInRange x → fx_add (pos 0) x ≡ x
  pub sub_right : (x : ℤ) → IsInRange x → fx_sub x (pos 0) ≡ x
  pub mul_right : (x : ℤ) → IsInRange x → fx_mul x (pos scale) ≡ x
  pub mul_left : (x : ℤ) → IsInRange x → fx_mul (pos scale) x ≡ x
  pub div_right : (x : ℤ) → IsInRange x → fx_div x (pos scale) ≡ x
  pub mul_zero : (x : ℤ) → (fx_mul x (pos 0) ≡ pos 0) × (fx_mul (pos 0) x ≡ pos 0)
  pub div_zero : (x : ℤ) → (fx_div (pos 0) x ≡ pos 0) × (fx_div x (pos 0) ≡ pos 0)
  pub mix_first : (x y : ℤ) → IsInRange x → fx_mix x y (pos 0) ≡ x
  pub mix_second : (x y : ℤ) → IsInRange y → fx_mix x y (pos scale) ≡ y

-- and an int
pub record IntsKeep : Type 0 where
  pub add_right : (n : ℤ) → FitsSigned w32 n → int_add n (pos 0) ≡ n
  pub add_left : (n : ℤ) → FitsSigned w32 n → int_add (pos 0) n ≡ n
  pub sub_right : (n : ℤ) → FitsSigned w32 n → int_sub n (pos 0) ≡ n
  pub mul_right : (n : ℤ) → FitsSigned w32 n → int_mul n (pos 1) ≡ n
  pub mul_left : (n : ℤ) → FitsSigned w32 n → int_mul (pos 1) n ≡ n
  pub div_right : (n : ℤ) → FitsSigned w32 n → int_quotient n (pos 1) ≡ n
  pub mul_zero : (n : ℤ) → (int_mul n (pos 0) ≡ pos 0) × (int_mul (pos 0) n ≡ pos 0)
  pub div_zero : (n : ℤ) → (int_quotient (pos 0) n ≡ pos 0) × (int_quotient n (pos 0) ≡ pos 0)

-- on values an operation gives a value: counts fit, and numbers are in range
abbrev pub GivesValues : Type 0
GivesValues =
    (op : OpName) (ty : Ty) (args : List AnyValue) → All IsValue args → IsTrue (is_allowed op ty (map type_of args)) → IsValue (apply op ty args)

-- a factor of 1, as a number or as a color, leaves the parts of a closure as they were
abbrev pub ClosuresKeep : Type 0
ClosuresKeep =
    (parts : List Part) → AreParts parts → (weighted (pos scale ∷ []) parts ≡ parts) × (weighted full_weight parts ≡ parts)
