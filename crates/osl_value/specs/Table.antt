-- The operations, one on a line: what each does on ints, on floats component by component, and on other types.
use Rattle.std.specs.Prelude.{ℕ, Bool, true, false, pos, List, [], ◌∷◌}
use Rattle.std.specs.Int.{int_min, int_max}
use Rattle.osl_value.specs.declared.closure.Primitive.{Primitive}
use Rattle.osl_value.specs.declared.closure.Primitive.TheVariants.{Emission, Background, Holdout, Transparent, Diffuse, OrenNayar, Translucent, Reflection, Refraction, Debug}
use Rattle.osl_value.specs.declared.op_name.OpName.{OpName}
use Rattle.osl_value.specs.declared.op_name.OpName.TheVariants.{Assign, Empty, ToInt, Add, Sub, Mul, Div, IRem, Neg, Compl, BitAnd, BitOr, Xor, Shl, Shr, Not, Eq, Neq, Lt, Gt, Le, Ge, ARef, AAssign, ArrayLength, CompRef, CompAssign, MxCompRef, MxCompAssign, Triple, Matrix, Abs, Sign, Floor, Ceil, Round, Trunc, Sqrt, InverseSqrt, Min, Max, Fmod, Mod, Step, Clamp, Mix, SmoothStep, Dot, Cross, Length, Distance, Normalize, Transpose, Transform, Concat, StrLen, StartsWith, EndsWith, SubStr, GetChar, ClEmission, ClBackground, ClHoldout, ClTransparent, ClDiffuse, ClTranslucent, ClOrenNayar, ClReflection, ClRefraction, ClDebug, If, For, While, DoWhile, FunctionCall, Break, Continue, Return, Exit}
use Rattle.osl_value.specs.Forms.{Form, AnInt, AFloat, ANumber, Floats, ATriple, APoint, ANormal, AMatrix, AString, AClosure, AFactor, Function}
use Rattle.osl_value.specs.Numbers.{Numeric, Never, One, Two, Three, fx_to_int, fx_add, fx_sub, fx_mul, fx_div, fx_fmod, fx_mod, fx_min, fx_max, fx_step, fx_clamp, fx_neg, fx_abs, fx_sign, fx_floor, fx_ceil, fx_round, fx_trunc, fx_sqrt, fx_inversesqrt, fx_mix, fx_smoothstep, int_add, int_sub, int_mul, int_quotient, int_remainder, int_neg, int_abs, int_compl, int_bitand, int_bitor, int_xor, int_shl, int_shr, int_not, int_clamp, eq, neq, lt, gt, le, ge}
use Rattle.osl_value.specs.Geometry.{eq_floats, neq_floats, eq_matrices, neq_matrices, compref, compassign, dot, cross, length_of, distance, normalize, mxcompref, mxcompassign, diagonal, mat_mul, transpose, transform}
use Rattle.osl_value.specs.Strings.{eq_strings, neq_strings, concat, strlen, startswith, endswith, substr, getchar}
use Rattle.osl_value.specs.Closures.{no_normal, primitive, joined, weighted, weighted_by}

-- a meaning on types other than ints alone or floats component by component
pub data Rule : Type 0 where
  -- arguments of these forms, and what is written
  On : (forms : List Form) (result : Form) → Function forms result → Rule
  -- so many numbers, which are the floats of what is written
  Made : ℕ → Form → Rule
  -- a copy, converted to the written type
  Assigned : Rule
  -- an element of an array, the array with another element, and an array's length
  ElementRead : Rule
  ElementWritten : Rule
  LengthRead : Rule

pub record Row : Type 0 where
  pub ints : Numeric
  pub floats : Numeric
  pub others : List Rule

abbrev pub row : Numeric → Numeric → List Rule → Row
row ints floats others = record { ints = ints; floats = floats; others = others }

-- a meaning on other types alone
abbrev pub others : List Rule → Row
others rules = row Never Never rules

-- ---- primitives: without arguments, with a normal, with a normal and a number

abbrev bare : Primitive → Rule
bare prim = On [] AClosure (primitive prim no_normal (pos 0) [])

abbrev facing : Primitive → Rule
facing prim = On (ANormal ∷ []) AClosure (λ normal. primitive prim normal (pos 0) [])

abbrev measured : Primitive → Rule
measured prim = On (ANormal ∷ ANumber ∷ []) AClosure (λ normal number. primitive prim normal number [])

-- ---- the table

abbrev pub table : OpName → Row
-- copies and conversions
table Assign = others (Assigned ∷ [])
table Empty = others (On [] AClosure [] ∷ [])
table ToInt = others (On (AFloat ∷ []) AnInt fx_to_int ∷ [])
-- arithmetic
table Add = row (Two int_add) (Two fx_add) (On (AClosure ∷ AClosure ∷ []) AClosure joined ∷ [])
table Sub = row (Two int_sub) (Two fx_sub) []
table Mul = row (Two int_mul) (Two fx_mul) (On (AMatrix ∷ AMatrix ∷ []) AMatrix mat_mul ∷ On (AFactor ∷ AClosure ∷ []) AClosure weighted ∷ On (AClosure ∷ AFactor ∷ []) AClosure weighted_by ∷ [])
table Div = row (Two int_quotient) (Two fx_div) []
table IRem = row (Two int_remainder) Never []
table Neg = row (One int_neg) (One fx_neg) []
-- bits and truth
table Compl = row (One int_compl) Never []
table BitAnd = row (Two int_bitand) Never []
table BitOr = row (Two int_bitor) Never []
table Xor = row (Two int_xor) Never []
table Shl = row (Two int_shl) Never []
table Shr = row (Two int_shr) Never []
table Not = row (One int_not) Never (On (AFloat ∷ []) AnInt int_not ∷ [])
-- comparisons
table Eq = row (Two eq) Never (On (Floats ∷ Floats ∷ []) AnInt eq_floats ∷ On (AMatrix ∷ AMatrix ∷ []) AnInt eq_matrices ∷ On (AString ∷ AString ∷ []) AnInt eq_strings ∷ [])
table Neq = row (Two neq) Never (On (Floats ∷ Floats ∷ []) AnInt neq_floats ∷ On (AMatrix ∷ AMatrix ∷ []) AnInt neq_matrices ∷ On (AString ∷ AString ∷ []) AnInt neq_strings ∷ [])
table Lt = row (Two lt) Never (On (AFloat ∷ AFloat ∷ []) AnInt lt ∷ [])
table Gt = row (Two gt) Never (On (AFloat ∷ AFloat ∷ []) AnInt gt ∷ [])
table Le = row (Two le) Never (On (AFloat ∷ AFloat ∷ []) AnInt le ∷ [])
table Ge = row (Two ge) Never (On (AFloat ∷ AFloat ∷ []) AnInt ge ∷ [])
-- elements and components
table ARef = others (ElementRead ∷ [])
table AAssign = others (ElementWritten ∷ [])
table ArrayLength = others (LengthRead ∷ [])
table CompRef = others (On (ATriple ∷ AnInt ∷ []) AFloat compref ∷ [])
table CompAssign = others (On (ATriple ∷ AnInt ∷ AFloat ∷ []) ATriple compassign ∷ [])
table MxCompRef = others (On (AMatrix ∷ AnInt ∷ AnInt ∷ []) AFloat mxcompref ∷ [])
table MxCompAssign = others (On (AMatrix ∷ AnInt ∷ AnInt ∷ AFloat ∷ []) AMatrix mxcompassign ∷ [])
table Triple = others (Made 3 ATriple ∷ [])
table Matrix = others (On (ANumber ∷ []) AMatrix diagonal ∷ Made 16 AMatrix ∷ [])
-- componentwise functions
table Abs = row (One int_abs) (One fx_abs) []
table Sign = row Never (One fx_sign) []
table Floor = row Never (One fx_floor) []
table Ceil = row Never (One fx_ceil) []
table Round = row Never (One fx_round) []
table Trunc = row Never (One fx_trunc) []
table Sqrt = row Never (One fx_sqrt) []
table InverseSqrt = row Never (One fx_inversesqrt) []
table Min = row (Two int_min) (Two fx_min) []
table Max = row (Two int_max) (Two fx_max) []
table Fmod = row Never (Two fx_fmod) []
table Mod = row Never (Two fx_mod) []
table Step = row Never (Two fx_step) []
table Clamp = row (Three int_clamp) (Three fx_clamp) []
table Mix = row Never (Three fx_mix) []
table SmoothStep = row Never (Three fx_smoothstep) []
-- geometry
table Dot = others (On (ATriple ∷ ATriple ∷ []) AFloat dot ∷ [])
table Cross = others (On (ATriple ∷ ATriple ∷ []) ATriple cross ∷ [])
table Length = others (On (ATriple ∷ []) AFloat length_of ∷ [])
table Distance = others (On (ATriple ∷ ATriple ∷ []) AFloat distance ∷ [])
table Normalize = others (On (ATriple ∷ []) ATriple normalize ∷ [])
table Transpose = others (On (AMatrix ∷ []) AMatrix transpose ∷ [])
table Transform = others (On (AMatrix ∷ ATriple ∷ []) APoint (transform true) ∷ On (AMatrix ∷ ATriple ∷ []) ATriple (transform false) ∷ [])
-- strings
table Concat = others (On (AString ∷ AString ∷ []) AString concat ∷ [])
table StrLen = others (On (AString ∷ []) AnInt strlen ∷ [])
table StartsWith = others (On (AString ∷ AString ∷ []) AnInt startswith ∷ [])
table EndsWith = others (On (AString ∷ AString ∷ []) AnInt endswith ∷ [])
table SubStr = others (On (AString ∷ AnInt ∷ AnInt ∷ []) AString substr ∷ [])
table GetChar = others (On (AString ∷ AnInt ∷ []) AnInt getchar ∷ [])
-- closure primitives
table ClEmission = others (bare Emission ∷ [])
table ClBackground = others (bare Background ∷ [])
table ClHoldout = others (bare Holdout ∷ [])
table ClTransparent = others (bare Transparent ∷ [])
table ClDiffuse = others (facing Diffuse ∷ [])
table ClTranslucent = others (facing Translucent ∷ [])
table ClOrenNayar = others (measured OrenNayar ∷ [])
table ClReflection = others (measured Reflection ∷ [])
table ClRefraction = others (measured Refraction ∷ [])
table ClDebug = others (On (AString ∷ []) AClosure (λ text. primitive Debug no_normal (pos 0) text) ∷ [])
-- control, which has no value of its own
table If = others []
table For = others []
table While = others []
table DoWhile = others []
table FunctionCall = others []
table Break = others []
table Continue = others []
table Return = others []
table Exit = others []

-- the operations whose first argument is read as well as written
abbrev pub updates : OpName → Bool
updates AAssign = true
updates CompAssign = true
updates MxCompAssign = true
updates _ = false

-- the operations that steer the run and have no meaning here
abbrev pub is_control : OpName → Bool
is_control If = true
is_control For = true
is_control While = true
is_control DoWhile = true
is_control FunctionCall = true
is_control Break = true
is_control Continue = true
is_control Return = true
is_control Exit = true
is_control _ = false
