-- The forms of an operation's arguments and of what it writes: which types fit, and what a definition sees of a value.
use Rattle.std.specs.Prelude.{ℕ, ◌||◌, Bool, ℤ, List, [], ◌∷◌, slice_index_or}
use Rattle.osl_value.specs.declared.types.Base.TheVariants.{Int, Float, Color, Point, Normal, Matrix, Str, Closure}
use Rattle.osl_value.specs.declared.types.Ty.{Ty}
use Rattle.osl_value.specs.declared.closure.Part.{Part}
use Rattle.osl_value.specs.Geometry.{number_at}
use Rattle.osl_value.specs.Types.{is_only}
use Rattle.osl_value.specs.AnyValue.{AnyValue, Parts, numbers_of, texts_of, parts_of, floats_of, with_numbers, with_text, is_number, is_one_triple}

pub data Form : Type 0 where
  AnInt : Form
  AFloat : Form
  -- an int or a float, seen as a float
  ANumber : Form
  -- a float or a triple, seen as its floats
  Floats : Form
  ATriple : Form
  APoint : Form
  ANormal : Form
  AMatrix : Form
  AString : Form
  AClosure : Form
  -- what a closure is multiplied by: a number or a color, seen as its floats
  AFactor : Form

-- the types of a form
abbrev pub fits : Form → Ty → Bool
fits AnInt ty = is_only Int ty
fits AFloat ty = is_only Float ty
fits ANumber ty = is_number ty
fits Floats ty = is_only Float ty || is_one_triple ty
fits ATriple ty = is_one_triple ty
fits APoint ty = is_only Point ty
fits ANormal ty = is_only Normal ty
fits AMatrix ty = is_only Matrix ty
fits AString ty = is_only Str ty
fits AClosure ty = is_only Closure ty
fits AFactor ty = is_number ty || is_only Color ty

-- what is seen of a value
abbrev pub Seen : Form → Type 0
Seen AnInt = ℤ
Seen AFloat = ℤ
Seen ANumber = ℤ
Seen Floats = List ℤ
Seen ATriple = List ℤ
Seen APoint = List ℤ
Seen ANormal = List ℤ
Seen AMatrix = List ℤ
Seen AString = List ℕ
Seen AClosure = List Part
Seen AFactor = List ℤ

abbrev pub seen_of : (form : Form) → AnyValue → Seen form
seen_of AnInt v = number_at (numbers_of v) 0
seen_of AFloat v = number_at (numbers_of v) 0
seen_of ANumber v = number_at (floats_of v) 0
seen_of Floats v = numbers_of v
seen_of ATriple v = numbers_of v
seen_of APoint v = numbers_of v
seen_of ANormal v = numbers_of v
seen_of AMatrix v = numbers_of v
seen_of AString v = slice_index_or (texts_of v) 0 []
seen_of AClosure v = parts_of v
seen_of AFactor v = floats_of v

-- the value of a type of the form, of which this is seen
abbrev pub value_seen : (form : Form) → Ty → Seen form → AnyValue
value_seen AnInt ty n = with_numbers ty (n ∷ [])
value_seen AFloat ty x = with_numbers ty (x ∷ [])
value_seen ANumber ty x = with_numbers ty (x ∷ [])
value_seen Floats ty xs = with_numbers ty xs
value_seen ATriple ty xs = with_numbers ty xs
value_seen APoint ty xs = with_numbers ty xs
value_seen ANormal ty xs = with_numbers ty xs
value_seen AMatrix ty xs = with_numbers ty xs
value_seen AString ty text = with_text ty text
value_seen AClosure ty parts = Parts parts
value_seen AFactor ty xs = with_numbers ty xs

-- a function from what is seen of arguments of these forms to what is seen of the result
abbrev pub Function : List Form → Form → Type 0
Function [] result = Seen result
Function (form ∷ forms) result = Seen form → Function forms result

-- its value at arguments
abbrev pub function_at : (forms : List Form) (result : Form) → Function forms result → List AnyValue → Seen result
function_at [] result f args = f
function_at (form ∷ forms) result f [] = function_at forms result (f (seen_of form (Parts []))) []
function_at (form ∷ forms) result f (arg ∷ args) = function_at forms result (f (seen_of form arg)) args
