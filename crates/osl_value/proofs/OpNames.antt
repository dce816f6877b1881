-- Every operation is among `OpName::ALL`.
use Rattle.std.proofs.Common.{ℕ, ◌≡◌, length, get_or, List, refl, T, ltb, ltb→lt, ◌≢◌, Option, Some, None, IfNone}
use Rattle.std.specs.List.{All, Contains}
use Rattle.std.proofs.lemmas.List.Elements.{All-contains}
use Rattle.osl_value.specs.OpText.{name_of}
use Rattle.osl_value.specs.declared.op_name.OpName.{OpName}
use Rattle.osl_value.specs.declared.op_name.TheConstants.OpName.{ALL}
use Rattle.osl_value.specs.declared.op_name.OpName.TheVariants.{Assign, Empty, ToInt, Add, Sub, Mul, Div, IRem, Neg, Compl, BitAnd, BitOr, Xor, Shl, Shr, Not, Eq, Neq, Lt, Gt, Le, Ge, ARef, AAssign, ArrayLength, CompRef, CompAssign, MxCompRef, MxCompAssign, Triple, Matrix, Abs, Sign, Floor, Ceil, Round, Trunc, Sqrt, InverseSqrt, Min, Max, Fmod, Mod, Step, Clamp, Mix, SmoothStep, Dot, Cross, Length, Distance, Normalize, Transpose, Transform, Concat, StrLen, StartsWith, EndsWith, SubStr, GetChar, ClEmission, ClBackground, ClHoldout, ClTransparent, ClDiffuse, ClTranslucent, ClOrenNayar, ClReflection, ClRefraction, ClDebug, If, For, While, DoWhile, FunctionCall, Break, Continue, Return, Exit}

-- it is at this place
at : (k : ℕ) (op : OpName) → T (ltb k (length ALL)) → get_or ALL k op ≡ op → Contains ALL op
at k op below same = (k, ltb→lt k (length ALL) below, same)

pub Contains-all : (op : OpName) → Contains ALL op
Contains-all Assign = at 0 Assign tt refl
Contains-all Empty = at 1 Empty tt refl
Contains-all ToInt = at 2 ToInt tt refl
Contains-all Add = at 3 Add tt refl
Contains-all Sub = at 4 Sub tt refl
Contains-all Mul = at 5 Mul tt refl
Contains-all Div = at 6 Div tt refl
Contains-all IRem = at 7 IRem tt refl
Contains-all Neg = at 8 Neg tt refl
Contains-all Compl = at 9 Compl tt refl
Contains-all BitAnd = at 10 BitAnd tt refl
Contains-all BitOr = at 11 BitOr tt refl
Contains-all Xor = at 12 Xor tt refl
Contains-all Shl = at 13 Shl tt refl
Contains-all Shr = at 14 Shr tt refl
Contains-all Not = at 15 Not tt refl
Contains-all Eq = at 16 Eq tt refl
Contains-all Neq = at 17 Neq tt refl
Contains-all Lt = at 18 Lt tt refl
Contains-all Gt = at 19 Gt tt refl
Contains-all Le = at 20 Le tt refl
Contains-all Ge = at 21 Ge tt refl
Contains-all ARef = at 22 ARef tt refl
Contains-all AAssign = at 23 AAssign tt refl
Contains-all ArrayLength = at 24 ArrayLength tt refl
Contains-all CompRef = at 25 CompRef tt refl
Contains-all CompAssign = at 26 CompAssign tt refl
Contains-all MxCompRef = at 27 MxCompRef tt refl
Contains-all MxCompAssign = at 28 MxCompAssign tt refl
Contains-all Triple = at 29 Triple tt refl
Contains-all Matrix = at 30 Matrix tt refl
Contains-all Abs = at 31 Abs tt refl
Contains-all Sign = at 32 Sign tt refl
Contains-all Floor = at 33 Floor tt refl
Contains-all Ceil = at 34 Ceil tt refl
Contains-all Round = at 35 Round tt refl
Contains-all Trunc = at 36 Trunc tt refl
Contains-all Sqrt = at 37 Sqrt tt refl
Contains-all InverseSqrt = at 38 InverseSqrt tt refl
Contains-all Min = at 39 Min tt refl
Contains-all Max = at 40 Max tt refl
Contains-all Fmod = at 41 Fmod tt refl
Contains-all Mod = at 42 Mod tt refl
Contains-all Step = at 43 Step tt refl
Contains-all Clamp = at 44 Clamp tt refl
Contains-all Mix = at 45 Mix tt refl
Contains-all SmoothStep = at 46 SmoothStep tt refl
Contains-all Dot = at 47 Dot tt refl
Contains-all Cross = at 48 Cross tt refl
Contains-all Length = at 49 Length tt refl
Contains-all Distance = at 50 Distance tt refl
Contains-all Normalize = at 51 Normalize tt refl
Contains-all Transpose = at 52 Transpose tt refl
Contains-all Transform = at 53 Transform tt refl
Contains-all Concat = at 54 Concat tt refl
Contains-all StrLen = at 55 StrLen tt refl
Contains-all StartsWith = at 56 StartsWith tt refl
Contains-all EndsWith = at 57 EndsWith tt refl
Contains-all SubStr = at 58 SubStr tt refl
Contains-all GetChar = at 59 GetChar tt refl
Contains-all ClEmission = at 60 ClEmission tt refl
Contains-all ClBackground = at 61 ClBackground tt refl
Contains-all ClHoldout = at 62 ClHoldout tt refl
Contains-all ClTransparent = at 63 ClTransparent tt refl
Contains-all ClDiffuse = at 64 ClDiffuse tt refl
Contains-all ClTranslucent = at 65 ClTranslucent tt refl
Contains-all ClOrenNayar = at 66 ClOrenNayar tt refl
Contains-all ClReflection = at 67 ClReflection tt refl
Contains-all ClRefraction = at 68 ClRefraction tt refl
Contains-all ClDebug = at 69 ClDebug tt refl
Contains-all If = at 70 If tt refl
Contains-all For = at 71 For tt refl
Contains-all While = at 72 While tt refl
Contains-all DoWhile = at 73 DoWhile tt refl
Contains-all FunctionCall = at 74 FunctionCall tt refl
Contains-all Break = at 75 Break tt refl
Contains-all Continue = at 76 Continue tt refl
Contains-all Return = at 77 Return tt refl
Contains-all Exit = at 78 Exit tt refl

-- a name that none of all has is no operation's
pub no_name : (r : Option OpName) (name : List ℕ) → IfNone r (All (λ op. name_of op ≢ name) ALL) → IfNone r ((op : OpName) → name_of op ≢ name)
no_name None name none = λ op. All-contains (λ (o : OpName). name_of o ≢ name) ALL op none (Contains-all op)
no_name (Some x) name none = tt
