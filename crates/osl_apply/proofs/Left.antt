-- Which operations are left where a match has tried the others.
use Rattle.std.proofs.Common.{◌≡◌, true, refl}
use Rattle.std.proofs.lemmas.Bool.{false≢true}
use Rattle.osl_value.specs.declared.op_name.OpName.{OpName}
use Rattle.osl_value.specs.declared.op_name.OpName.TheVariants.{AAssign, ARef, Abs, Add, ArrayLength, Assign, Ceil, ClBackground, ClDebug, ClDiffuse, ClEmission, ClHoldout, ClOrenNayar, ClReflection, ClRefraction, ClTranslucent, ClTransparent, Clamp, CompAssign, CompRef, Concat, Cross, Distance, Div, Dot, Empty, EndsWith, Eq, Floor, Fmod, Ge, GetChar, Gt, InverseSqrt, Le, Length, Lt, Max, Min, Mix, Mod, Mul, MxCompRef, Neg, Neq, Normalize, Not, Round, Sign, SmoothStep, Sqrt, StartsWith, Step, StrLen, Sub, SubStr, ToInt, Transform, Triple, Trunc}
use Rattle.osl_apply.proofs.Counts.{may_give}

-- on no operand
pub none_left_of_none : (op : OpName) → may_give op 0 ≡ true
    → (op ≡ Empty → ⊥)
    → (op ≡ ClEmission → ⊥)
    → (op ≡ ClBackground → ⊥)
    → (op ≡ ClHoldout → ⊥)
    → (op ≡ ClTransparent → ⊥) → ⊥
none_left_of_none Empty h n0 _ _ _ _ = n0 refl
none_left_of_none ClEmission h _ n1 _ _ _ = n1 refl
none_left_of_none ClBackground h _ _ n2 _ _ = n2 refl
none_left_of_none ClHoldout h _ _ _ n3 _ = n3 refl
none_left_of_none ClTransparent h _ _ _ _ n4 = n4 refl
none_left_of_none _ h _ _ _ _ _ = absurd (false≢true h)

-- on one
pub none_left_of_one : (op : OpName) → may_give op 1 ≡ true
    → (op ≡ Assign → ⊥)
    → (op ≡ ToInt → ⊥)
    → (op ≡ Neg → ⊥)
    → (op ≡ Not → ⊥)
    → (op ≡ ArrayLength → ⊥)
    → (op ≡ Abs → ⊥)
    → (op ≡ Sign → ⊥)
    → (op ≡ Floor → ⊥)
    → (op ≡ Ceil → ⊥)
    → (op ≡ Round → ⊥)
    → (op ≡ Trunc → ⊥)
    → (op ≡ Sqrt → ⊥)
    → (op ≡ InverseSqrt → ⊥)
    → (op ≡ Length → ⊥)
    → (op ≡ Normalize → ⊥)
    → (op ≡ StrLen → ⊥)
    → (op ≡ ClDiffuse → ⊥)
    → (op ≡ ClTranslucent → ⊥)
    → (op ≡ ClDebug → ⊥) → ⊥
none_left_of_one Assign h n0 _ _ _ _ _ _ _ _ _ _ _ _ _ _ _ _ _ _ = n0 refl
none_left_of_one ToInt h _ n1 _ _ _ _ _ _ _ _ _ _ _ _ _ _ _ _ _ = n1 refl
none_left_of_one Neg h _ _ n2 _ _ _ _ _ _ _ _ _ _ _ _ _ _ _ _ = n2 refl
none_left_of_one Not h _ _ _ n3 _ _ _ _ _ _ _ _ _ _ _ _ _ _ _ = n3 refl
none_left_of_one ArrayLength h _ _ _ _ n4 _ _ _ _ _ _ _ _ _ _ _ _ _ _ = n4 refl
none_left_of_one Abs h _ _ _ _ _ n5 _ _ _ _ _ _ _ _ _ _ _ _ _ = n5 refl
none_left_of_one Sign h _ _ _ _ _ _ n6 _ _ _ _ _ _ _ _ _ _ _ _ = n6 refl
none_left_of_one Floor h _ _ _ _ _ _ _ n7 _ _ _ _ _ _ _ _ _ _ _ = n7 refl
none_left_of_one Ceil h _ _ _ _ _ _ _ _ n8 _ _ _ _ _ _ _ _ _ _ = n8 refl
none_left_of_one Round h _ _ _ _ _ _ _ _ _ n9 _ _ _ _ _ _ _ _ _ = n9 refl
none_left_of_one Trunc h _ _ _ _ _ _ _ _ _ _ n10 _ _ _ _ _ _ _ _ = n10 refl
none_left_of_one Sqrt h _ _ _ _ _ _ _ _ _ _ _ n11 _ _ _ _ _ _ _ = n11 refl
none_left_of_one InverseSqrt h _ _ _ _ _ _ _ _ _ _ _ _ n12 _ _ _ _ _ _ = n12 refl
none_left_of_one Length h _ _ _ _ _ _ _ _ _ _ _ _ _ n13 _ _ _ _ _ = n13 refl
none_left_of_one Normalize h _ _ _ _ _ _ _ _ _ _ _ _ _ _ n14 _ _ _ _ = n14 refl
none_left_of_one StrLen h _ _ _ _ _ _ _ _ _ _ _ _ _ _ _ n15 _ _ _ = n15 refl
none_left_of_one ClDiffuse h _ _ _ _ _ _ _ _ _ _ _ _ _ _ _ _ n16 _ _ = n16 refl
none_left_of_one ClTranslucent h _ _ _ _ _ _ _ _ _ _ _ _ _ _ _ _ _ n17 _ = n17 refl
none_left_of_one ClDebug h _ _ _ _ _ _ _ _ _ _ _ _ _ _ _ _ _ _ n18 = n18 refl
none_left_of_one _ h _ _ _ _ _ _ _ _ _ _ _ _ _ _ _ _ _ _ _ = absurd (false≢true h)

-- on two
pub none_left_of_two : (op : OpName) → may_give op 2 ≡ true
    → (op ≡ Add → ⊥)
    → (op ≡ Sub → ⊥)
    → (op ≡ Mul → ⊥)
    → (op ≡ Div → ⊥)
    → (op ≡ Min → ⊥)
    → (op ≡ Max → ⊥)
    → (op ≡ Fmod → ⊥)
    → (op ≡ Mod → ⊥)
    → (op ≡ Step → ⊥)
    → (op ≡ Eq → ⊥)
    → (op ≡ Neq → ⊥)
    → (op ≡ Lt → ⊥)
    → (op ≡ Gt → ⊥)
    → (op ≡ Le → ⊥)
    → (op ≡ Ge → ⊥)
    → (op ≡ ARef → ⊥)
    → (op ≡ CompRef → ⊥)
    → (op ≡ Dot → ⊥)
    → (op ≡ Distance → ⊥)
    → (op ≡ Cross → ⊥)
    → (op ≡ Transform → ⊥)
    → (op ≡ Concat → ⊥)
    → (op ≡ StartsWith → ⊥)
    → (op ≡ EndsWith → ⊥)
    → (op ≡ GetChar → ⊥)
    → (op ≡ ClOrenNayar → ⊥)
    → (op ≡ ClReflection → ⊥)
    → (op ≡ ClRefraction → ⊥) → ⊥
none_left_of_two Add h n0 _ _ _ _ _ _ _ _ _ _ _ _ _ _ _ _ _ _ _ _ _ _ _ _ _ _ _ = n0 refl
none_left_of_two Sub h _ n1 _ _ _ _ _ _ _ _ _ _ _ _ _ _ _ _ _ _ _ _ _ _ _ _ _ _ = n1 refl
none_left_of_two Mul h _ _ n2 _ _ _ _ _ _ _ _ _ _ _ _ _ _ _ _ _ _ _ _ _ _ _ _ _ = n2 refl
none_left_of_two Div h _ _ _ n3 _ _ _ _ _ _ _ _ _ _ _ _ _ _ _ _ _ _ _ _ _ _ _ _ = n3 refl
none_left_of_two Min h _ _ _ _ n4 _ _ _ _ _ _ _ _ _ _ _ _ _ _ _ _ _ _ _ _ _ _ _ = n4 refl
none_left_of_two Max h _ _ _ _ _ n5 _ _ _ _ _ _ _ _ _ _ _ _ _ _ _ _ _ _ _ _ _ _ = n5 refl
none_left_of_two Fmod h _ _ _ _ _ _ n6 _ _ _ _ _ _ _ _ _ _ _ _ _ _ _ _ _ _ _ _ _ = n6 refl
none_left_of_two Mod h _ _ _ _ _ _ _ n7 _ _ _ _ _ _ _ _ _ _ _ _ _ _ _ _ _ _ _ _ = n7 refl
none_left_of_two Step h _ _ _ _ _ _ _ _ n8 _ _ _ _ _ _ _ _ _ _ _ _ _ _ _ _ _ _ _ = n8 refl
none_left_of_two Eq h _ _ _ _ _ _ _ _ _ n9 _ _ _ _ _ _ _ _ _ _ _ _ _ _ _ _ _ _ = n9 refl
none_left_of_two Neq h _ _ _ _ _ _ _ _ _ _ n10 _ _ _ _ _ _ _ _ _ _ _ _ _ _ _ _ _ = n10 refl
none_left_of_two Lt h _ _ _ _ _ _ _ _ _ _ _ n11 _ _ _ _ _ _ _ _ _ _ _ _ _ _ _ _ = n11 refl
none_left_of_two Gt h _ _ _ _ _ _ _ _ _ _ _ _ n12 _ _ _ _ _ _ _ _ _ _ _ _ _ _ _ = n12 refl
none_left_of_two Le h _ _ _ _ _ _ _ _ _ _ _ _ _ n13 _ _ _ _ _ _ _ _ _ _ _ _ _ _ = n13 refl
none_left_of_two Ge h _ _ _ _ _ _ _ _ _ _ _ _ _ _ n14 _ _ _ _ _ _ _ _ _ _ _ _ _ = n14 refl
none_left_of_two ARef h _ _ _ _ _ _ _ _ _ _ _ _ _ _ _ n15 _ _ _ _ _ _ _ _ _ _ _ _ = n15 refl
none_left_of_two CompRef h _ _ _ _ _ _ _ _ _ _ _ _ _ _ _ _ n16 _ _ _ _ _ _ _ _ _ _ _ = n16 refl
none_left_of_two Dot h _ _ _ _ _ _ _ _ _ _ _ _ _ _ _ _ _ n17 _ _ _ _ _ _ _ _ _ _ = n17 refl
none_left_of_two Distance h _ _ _ _ _ _ _ _ _ _ _ _ _ _ _ _ _ _ n18 _ _ _ _ _ _ _ _ _ = n18 refl
none_left_of_two Cross h _ _ _ _ _ _ _ _ _ _ _ _ _ _ _ _ _ _ _ n19 _ _ _ _ _ _ _ _ = n19 refl
none_left_of_two Transform h _ _ _ _ _ _ _ _ _ _ _ _ _ _ _ _ _ _ _ _ n20 _ _ _ _ _ _ _ = n20 refl
none_left_of_two Concat h _ _ _ _ _ _ _ _ _ _ _ _ _ _ _ _ _ _ _ _ _ n21 _ _ _ _ _ _ = n21 refl
none_left_of_two StartsWith h _ _ _ _ _ _ _ _ _ _ _ _ _ _ _ _ _ _ _ _ _ _ n22 _ _ _ _ _ = n22 refl
none_left_of_two EndsWith h _ _ _ _ _ _ _ _ _ _ _ _ _ _ _ _ _ _ _ _ _ _ _ n23 _ _ _ _ = n23 refl
none_left_of_two GetChar h _ _ _ _ _ _ _ _ _ _ _ _ _ _ _ _ _ _ _ _ _ _ _ _ n24 _ _ _ = n24 refl
none_left_of_two ClOrenNayar h _ _ _ _ _ _ _ _ _ _ _ _ _ _ _ _ _ _ _ _ _ _ _ _ _ n25 _ _ = n25 refl
none_left_of_two ClReflection h _ _ _ _ _ _ _ _ _ _ _ _ _ _ _ _ _ _ _ _ _ _ _ _ _ _ n26 _ = n26 refl
none_left_of_two ClRefraction h _ _ _ _ _ _ _ _ _ _ _ _ _ _ _ _ _ _ _ _ _ _ _ _ _ _ _ n27 = n27 refl
none_left_of_two _ h _ _ _ _ _ _ _ _ _ _ _ _ _ _ _ _ _ _ _ _ _ _ _ _ _ _ _ _ = absurd (false≢true h)

-- on three
pub none_left_of_three : (op : OpName) → may_give op 3 ≡ true
    → (op ≡ Clamp → ⊥)
    → (op ≡ Mix → ⊥)
    → (op ≡ SmoothStep → ⊥)
    → (op ≡ Triple → ⊥)
    → (op ≡ CompAssign → ⊥)
    → (op ≡ AAssign → ⊥)
    → (op ≡ MxCompRef → ⊥)
    → (op ≡ SubStr → ⊥) → ⊥
none_left_of_three Clamp h n0 _ _ _ _ _ _ _ = n0 refl
none_left_of_three Mix h _ n1 _ _ _ _ _ _ = n1 refl
none_left_of_three SmoothStep h _ _ n2 _ _ _ _ _ = n2 refl
none_left_of_three Triple h _ _ _ n3 _ _ _ _ = n3 refl
none_left_of_three CompAssign h _ _ _ _ n4 _ _ _ = n4 refl
none_left_of_three AAssign h _ _ _ _ _ n5 _ _ = n5 refl
none_left_of_three MxCompRef h _ _ _ _ _ _ n6 _ = n6 refl
none_left_of_three SubStr h _ _ _ _ _ _ _ n7 = n7 refl
none_left_of_three _ h _ _ _ _ _ _ _ _ = absurd (false≢true h)
