-- What the parts of an operation's execution ask for and give.
use Rattle.std.specs.Prelude.{◌≡◌, ◌<◌, ℕ, ℤ, Bool, true, false, IsTrue, ◌&&◌, ◌||◌, if◌then◌else◌, List, [], ◌∷◌, map}
use Rattle.std.specs.Cmp.Lexicographic.{pointwise}
use Rattle.std.specs.Ordering.{int_eq}
use Rattle.std.specs.Str.{bytes_eq}
use Rattle.osl_value.specs.declared.op_name.OpName.{OpName}
use Rattle.osl_value.specs.declared.op_name.OpName.TheVariants.{Eq, Neq, Lt, Gt, Le, Ge}
use Rattle.osl_value.specs.declared.types.Ty.{Ty}
use Rattle.osl_value.specs.AnyValue.{AnyValue, type_of, numbers_of, argument}
use Rattle.osl_value.specs.Geometry.{repeated}
use Rattle.osl_value.specs.Forms.{AnInt, ANumber, Floats, AMatrix, AString, fits, seen_of}
use Rattle.osl_value.specs.Apply.{is_allowed}
use Rattle.osl_value.specs.Table.{updates}
use Rattle.osl_apply.specs.declared.read.Floats.TheVariants as F
use Rattle.osl_apply.specs.declared.read.Floats.{Floats as SomeFloats}
use Rattle.osl_apply.specs.declared.slot.Slot.{Slot}
use Rattle.osl_apply.specs.Slots.{seen}

-- the floats of an operand
abbrev pub floats_in : SomeFloats → List ℤ
floats_in (F.One floats) = floats
floats_in (F.Three floats) = floats

-- the operation takes arguments of these values, and writes the type
abbrev pub takes : OpName → Ty → List AnyValue → Bool
takes name ty args = is_allowed name ty (map type_of args)

-- ---- the slots

abbrev pub values : List Slot → List AnyValue
values slots = map seen slots

-- the value of a symbol
abbrev pub held : List Slot → ℕ → AnyValue
held slots k = argument (values slots) k

abbrev pub held_all : List Slot → List ℕ → List AnyValue
held_all slots ks = map (held slots) ks

abbrev pub AllBelow : ℕ → List ℕ → Type 0
AllBelow n [] = Unit
AllBelow n (k ∷ ks) = (k < n) × AllBelow n ks

-- an operation that reads what it writes has it as its first operand
abbrev pub IsFirst : ℕ → List ℕ → Type 0
IsFirst k [] = ⊥
IsFirst k (j ∷ js) = j ≡ k

abbrev pub UpdatesFirst : OpName → ℕ → List ℕ → Type 0
UpdatesFirst name target sources = updates name ≡ true → IsFirst target sources

-- ---- kinds of operations, and their operands

abbrev pub is_ordering : OpName → Bool
is_ordering Lt = true
is_ordering Gt = true
is_ordering Le = true
is_ordering Ge = true
is_ordering _ = false

abbrev pub is_comparison : OpName → Bool
is_comparison Eq = true
is_comparison Neq = true
is_comparison name = is_ordering name

abbrev pub are_ints : Ty → Ty → Bool
are_ints s t = fits AnInt s && fits AnInt t

-- floats and triples, matrices, or strings
abbrev pub are_comparable : Ty → Ty → Bool
are_comparable s t = (fits Floats s && fits Floats t) || ((fits AMatrix s && fits AMatrix t) || (fits AString s && fits AString t))

abbrev pub are_same : AnyValue → AnyValue → Bool
are_same a b =
    if fits AString (type_of a) then bytes_eq (seen_of AString a) (seen_of AString b)
    else if fits AMatrix (type_of a) then pointwise int_eq (numbers_of a) (numbers_of b)
    else pointwise int_eq (repeated 3 (numbers_of a)) (repeated 3 (numbers_of b))

-- numbers, and their floats
abbrev pub AreNumbers : List Slot → List ℕ → Type 0
AreNumbers slots [] = Unit
AreNumbers slots (k ∷ ks) = IsTrue (fits ANumber (type_of (held slots k))) × AreNumbers slots ks

abbrev pub numbers_held : List Slot → List ℕ → List ℤ
numbers_held slots ks = map (seen_of ANumber) (held_all slots ks)
