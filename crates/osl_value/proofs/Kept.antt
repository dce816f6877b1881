-- An operation on values gives a value: line by line of the table.
use Rattle.std.proofs.Common.{◌≡◌, ℕ, ◌+◌, ◌*◌, ◌<◌, ◌≤◌, true, cond, eqb, ℤ, pos, negsuc, List, [], ◌∷◌, ◌++◌, length, get_or, take, set, refl, sym, subst, ◌∙◌, arith, lit<, lit≤, length-take, length-set}
use Rattle.std.specs.Prelude.{FitsSigned}
use Rattle.std.specs.Int.{w32}
use Rattle.std.specs.List.{All, range_with_len}
use Rattle.std.proofs.lemmas.List.{length-map}
use Rattle.std.proofs.lemmas.List.FromFn.{length-map-range_with_len}
use Rattle.std.proofs.lemmas.List.Elements.{All-nil, All-cons, All-map, All-weaker, All-append, All-take, All-set, All-from_recursion}
use Rattle.osl_value.specs.declared.closure.Part.{Part}
use Rattle.osl_value.specs.declared.closure.Primitive.{Primitive}
use Rattle.osl_value.specs.declared.op_name.OpName.{OpName}
use Rattle.osl_value.specs.declared.op_name.OpName.TheVariants.{Assign, Empty, ToInt, Add, Sub, Mul, Div, IRem, Neg, Compl, BitAnd, BitOr, Xor, Shl, Shr, Not, Eq, Neq, Lt, Gt, Le, Ge, ARef, AAssign, ArrayLength, CompRef, CompAssign, MxCompRef, MxCompAssign, Triple, Matrix, Abs, Sign, Floor, Ceil, Round, Trunc, Sqrt, InverseSqrt, Min, Max, Fmod, Mod, Step, Clamp, Mix, SmoothStep, Dot, Cross, Length, Distance, Normalize, Transpose, Transform, Concat, StrLen, StartsWith, EndsWith, SubStr, GetChar, ClEmission, ClBackground, ClHoldout, ClTransparent, ClDiffuse, ClTranslucent, ClOrenNayar, ClReflection, ClRefraction, ClDebug}
use Rattle.osl_value.specs.declared.types.Base.TheVariants as Bases
use Rattle.osl_value.specs.declared.types.Ty.{Ty}
use Rattle.osl_value.specs.AnyValue.{with_numbers}
use Rattle.osl_value.specs.Closures.{full_weight, no_normal, primitive, joined, weighted, weighted_part, most_parts}
use Rattle.osl_value.specs.Forms.{fits}
use Rattle.osl_value.specs.Geometry.{component, repeated, each, dot, length_of, matrix_of, product_at, element_at}
use Rattle.osl_value.specs.Numbers.{IsInRange, Numeric, Never, One, Two, Three, arity, value_at, fx_sub, fx_mul, fx_div}
use Rattle.osl_value.specs.Strings.{getchar}
use Rattle.osl_value.specs.Table.{Rule, On, Made, Assigned, ElementRead, ElementWritten, LengthRead, table}
use Rattle.osl_value.specs.WellFormed.{AreFloats, AreParts, IsPart, IsValue}
use Rattle.osl_value.proofs.InRange as R
use Rattle.osl_value.proofs.Seen.{number_at_is, plain_alone, as_only, one_triple_written, IsWritten, Keeps}

-- ---- functions of numbers

abbrev pub KeepsAll : (ℤ → Type 0) → Numeric → Type 0
KeepsAll P Never = Unit {0}
KeepsAll P (One f) = (a : ℤ) → P a → P (f a)
KeepsAll P (Two f) = (a b : ℤ) → P a → P b → P (f a b)
KeepsAll P (Three f) = (a b c : ℤ) → P a → P b → P c → P (f a b c)

pub value_at_is : (P : ℤ → Type 0) (f : Numeric) (arg : ℕ → ℤ) → KeepsAll P f → 0 < arity f → ((k : ℕ) → k < arity f → P (arg k)) → P (value_at f arg)
value_at_is P Never arg k some h = absurd (omega arith)
value_at_is P (One f) arg k some h = k (arg 0) (h 0 (lit< tt))
value_at_is P (Two f) arg k some h = k (arg 0) (arg 1) (h 0 (lit< tt)) (h 1 (lit< tt))
value_at_is P (Three f) arg k some h = k (arg 0) (arg 1) (arg 2) (h 0 (lit< tt)) (h 1 (lit< tt)) (h 2 (lit< tt))

-- ---- ints, line by line

pub ints_keep : (op : OpName) → KeepsAll (FitsSigned w32) (table op).ints
ints_keep Add = λ a b h k. R.wrapped_fits _
ints_keep Sub = λ a b h k. R.wrapped_fits _
ints_keep Mul = λ a b h k. R.wrapped_fits _
ints_keep Div = λ a b h k. R.int_quotient_fits a b
ints_keep IRem = λ a b h k. R.int_remainder_fits a b
ints_keep Neg = λ a h. R.wrapped_fits _
ints_keep Compl = λ a h. R.int_compl_fits a h
ints_keep BitAnd = λ a b h k. R.bits_fit _
ints_keep BitOr = λ a b h k. R.bits_fit _
ints_keep Xor = λ a b h k. R.bits_fit _
ints_keep Shl = λ a b h k. R.wrapped_fits _
ints_keep Shr = λ a b h k. R.int_shr_fits a b h
ints_keep Not = λ a h. R.truth_fits _
ints_keep Eq = λ a b h k. R.truth_fits _
ints_keep Neq = λ a b h k. R.truth_fits _
ints_keep Lt = λ a b h k. R.truth_fits _
ints_keep Gt = λ a b h k. R.truth_fits _
ints_keep Le = λ a b h k. R.truth_fits _
ints_keep Ge = λ a b h k. R.truth_fits _
ints_keep Abs = λ a h. R.wrapped_fits _
ints_keep Min = λ a b h k. R.int_min_fits a b h k
ints_keep Max = λ a b h k. R.int_max_fits a b h k
ints_keep Clamp = λ a b c h k l. R.int_clamp_fits a b c h k l
ints_keep _ = tt

-- ---- floats, line by line

pub floats_keep : (op : OpName) → KeepsAll IsInRange (table op).floats
floats_keep Add = λ a b h k. R.saturated_is _
floats_keep Sub = λ a b h k. R.saturated_is _
floats_keep Mul = λ a b h k. R.saturated_is _
floats_keep Div = λ a b h k. R.fx_div_is a b
floats_keep Neg = λ a h. R.fx_neg_is a h
floats_keep Abs = λ a h. R.fx_abs_is a h
floats_keep Sign = λ a h. R.fx_sign_is a
floats_keep Floor = λ a h. R.saturated_is _
floats_keep Ceil = λ a h. R.saturated_is _
floats_keep Round = λ a h. R.saturated_is _
floats_keep Trunc = λ a h. R.saturated_is _
floats_keep Sqrt = λ a h. R.fx_sqrt_is a h
floats_keep InverseSqrt = λ a h. R.fx_inversesqrt_is a
floats_keep Min = λ a b h k. R.fx_min_is a b h k
floats_keep Max = λ a b h k. R.fx_max_is a b h k
floats_keep Fmod = λ a b h k. R.fx_fmod_is a b h
floats_keep Mod = λ a b h k. R.fx_mod_is a b k
floats_keep Step = λ a b h k. R.fx_step_is a b
floats_keep Clamp = λ a b c h k l. R.fx_clamp_is a b c h k l
floats_keep Mix = λ a b c h k l. R.saturated_is _
floats_keep SmoothStep = λ a b c h k l. R.fx_smoothstep_is a b c
floats_keep _ = tt

-- ---- lists of floats, matrices and parts

three_are : (x y z : ℤ) → IsInRange x → IsInRange y → IsInRange z → AreFloats 3 (x ∷ y ∷ z ∷ [])
three_are x y z h k l = record { count_fits = refl; in_range = All-from_recursion IsInRange (x ∷ y ∷ z ∷ []) (h, (k, (l, tt))) }

matrix_is : (f : ℕ → ℕ → ℤ) → ((i j : ℕ) → IsInRange (f i j)) → AreFloats 16 (matrix_of f)
matrix_is f h = record {
  count_fits = refl;
  in_range = All-from_recursion IsInRange (matrix_of f)
      (h 0 0, (h 0 1, (h 0 2, (h 0 3, (h 1 0, (h 1 1, (h 1 2, (h 1 3, (h 2 0, (h 2 1, (h 2 2, (h 2 3, (h 3 0, (h 3 1, (h 3 2, (h 3 3, tt))))))))))))))));
}

pub each_is : (n : ℕ) (f : Numeric) (args : List (List ℤ)) → ((k : ℕ) → IsInRange (value_at f (λ i. component (get_or args i []) k))) → AreFloats n (each n f args)
each_is n f args h = record {
  count_fits = length-map-range_with_len (λ k. value_at f (λ i. component (get_or args i []) k)) 0 n;
  in_range = All-map IsInRange (λ k. value_at f (λ i. component (get_or args i []) k)) (range_with_len 0 n) (λ k d below. h (get_or (range_with_len 0 n) k d));
}

pub repeated_are : (n : ℕ) (xs : List ℤ) → All IsInRange xs → AreFloats n (repeated n xs)
repeated_are n xs h = record {
  count_fits = length-map-range_with_len (component xs) 0 n;
  in_range = All-map IsInRange (component xs) (range_with_len 0 n) (λ k d below. number_at_is xs _ h);
}

set_are : (count : ℕ) (xs : List ℤ) (i : ℕ) (x : ℤ) → AreFloats count xs → IsInRange x → AreFloats count (set xs i x)
set_are count xs i x h k = record { count_fits = length-set xs i x ∙ h.count_fits; in_range = All-set IsInRange xs i x k h.in_range }

no_parts : AreParts []
no_parts = record { few = lit≤ tt; all = All-nil IsPart }

one_part : (prim : Primitive) (normal : List ℤ) (number : ℤ) (text : List ℕ) → AreFloats 3 normal → IsInRange number → AreParts (primitive prim normal number text)
one_part prim normal number text h k =
    let part : Part = record { weight = full_weight; prim = prim; normal = normal; number = number; text = text } in
    record { few = lit≤ tt; all = All-cons IsPart part [] (record { weight = three_are _ _ _ R.one_is R.one_is R.one_is; normal = h; number = k }) (All-nil IsPart) }

bare_is : (prim : Primitive) → AreParts (primitive prim no_normal (pos 0) [])
bare_is prim = one_part prim no_normal (pos 0) [] (three_are _ _ _ R.zero_is R.zero_is R.zero_is) R.zero_is

few_taken : (parts : List Part) → length (take most_parts parts) ≤ most_parts
few_taken parts = omega (arith, length-take most_parts parts)

joined_are : (a b : List Part) → AreParts a → AreParts b → AreParts (joined a b)
joined_are a b h k = record {
  few = few_taken (a ++ b);
  all = All-take IsPart most_parts (a ++ b) (All-append IsPart a b h.all k.all);
}

weighted_is : (factor : List ℤ) (part : Part) → IsPart part → IsPart (weighted_part factor part)
weighted_is factor part h = record {
  weight = each_is 3 (Two fx_mul) (factor ∷ part.weight ∷ []) (λ k. R.saturated_is _);
  normal = h.normal;
  number = h.number;
}

weighted_are : (factor : List ℤ) (parts : List Part) → AreParts parts → AreParts (weighted factor parts)
weighted_are factor parts h = record {
  few = subst (λ n. n ≤ most_parts) (sym (length-map parts (weighted_part factor))) h.few;
  all = All-map IsPart (weighted_part factor) parts (All-weaker IsPart (λ p. IsPart (weighted_part factor p)) (weighted_is factor) parts h.all);
}

getchar_fits : (s : List ℕ) (i : ℤ) → FitsSigned w32 (getchar s i)
getchar_fits s (pos i) = R.wrapped_fits _
getchar_fits s (negsuc i) = R.zero_fits

-- ---- the other rules, line by line

abbrev pub RuleKeeps : Rule → Type 0
RuleKeeps (On forms result f) = IsWritten result × Keeps forms result f
RuleKeeps (Made count result) = (ty : Ty) (xs : List ℤ) → fits result ty ≡ true → AreFloats count xs → IsValue (with_numbers ty xs)
RuleKeeps Assigned = Unit {0}
RuleKeeps ElementRead = Unit {0}
RuleKeeps ElementWritten = Unit {0}
RuleKeeps LengthRead = Unit {0}

abbrev pub RulesKeep : List Rule → Type 0
RulesKeep [] = Unit {0}
RulesKeep (rule ∷ rules) = RuleKeeps rule × RulesKeep rules

pub others_keep : (op : OpName) → RulesKeep (table op).others
others_keep Assign = (tt, tt)
others_keep Empty = ((tt, no_parts), tt)
others_keep ToInt = ((tt, λ x h. R.fx_to_int_fits x), tt)
others_keep Add = ((tt, λ a h b k. joined_are a b h k), tt)
others_keep Mul = ((tt, λ a h b k. matrix_is (product_at a b) (λ i j. R.saturated_is _)), ((tt, λ f h c k. weighted_are f c k), ((tt, λ c k f h. weighted_are f c k), tt)))
others_keep Not = ((tt, λ x h. R.truth_fits _), tt)
others_keep Eq = ((tt, λ a h b k. R.truth_fits _), ((tt, λ a h b k. R.truth_fits _), ((tt, λ a h b k. R.truth_fits _), tt)))
others_keep Neq = ((tt, λ a h b k. R.truth_fits _), ((tt, λ a h b k. R.truth_fits _), ((tt, λ a h b k. R.truth_fits _), tt)))
others_keep Lt = ((tt, λ a h b k. R.truth_fits _), tt)
others_keep Gt = ((tt, λ a h b k. R.truth_fits _), tt)
others_keep Le = ((tt, λ a h b k. R.truth_fits _), tt)
others_keep Ge = ((tt, λ a h b k. R.truth_fits _), tt)
others_keep ARef = (tt, tt)
others_keep AAssign = (tt, tt)
others_keep ArrayLength = (tt, tt)
others_keep CompRef = ((tt, λ t h i k. number_at_is t _ h.in_range), tt)
others_keep CompAssign = ((tt, λ t h i k x l. set_are 3 t _ x h l), tt)
others_keep MxCompRef = ((tt, λ m h i k j l. number_at_is m _ h.in_range), tt)
others_keep MxCompAssign = ((tt, λ m h i k j l x n. set_are 16 m _ x h n), tt)
others_keep Triple = (λ ty xs h f. one_triple_written ty xs h f, tt)
others_keep Matrix = ((tt, λ x h. matrix_is (λ i j. cond (eqb i j) x (pos 0)) (λ i j. R.either_way IsInRange (eqb i j) x (pos 0) h R.zero_is)), (λ ty xs h f. as_only ty Bases.Matrix xs [] h (plain_alone Bases.Matrix xs [] (λ e. (cc)) f.count_fits refl f.in_range), tt))
others_keep Dot = ((tt, λ a h b k. R.saturated_is _), tt)
others_keep Cross = ((tt, λ a h b k. three_are _ _ _ (R.saturated_is _) (R.saturated_is _) (R.saturated_is _)), tt)
others_keep Length = ((tt, λ a h. R.fx_sqrt_is (dot a a) (R.saturated_is _)), tt)
others_keep Distance = ((tt, λ a h b k. R.fx_sqrt_is (dot (each 3 (Two fx_sub) (a ∷ b ∷ [])) (each 3 (Two fx_sub) (a ∷ b ∷ []))) (R.saturated_is _)), tt)
others_keep Normalize = ((tt, λ a h. each_is 3 (One (λ x. fx_div x (length_of a))) (a ∷ []) (λ k. R.fx_div_is (component a k) (length_of a))), tt)
others_keep Transpose = ((tt, λ m h. matrix_is (λ i j. element_at m j i) (λ i j. number_at_is m (4 * j + i) h.in_range)), tt)
others_keep Transform = ((tt, λ m h p k. three_are _ _ _ (R.saturated_is _) (R.saturated_is _) (R.saturated_is _)), ((tt, λ m h p k. three_are _ _ _ (R.saturated_is _) (R.saturated_is _) (R.saturated_is _)), tt))
others_keep Concat = ((tt, λ s h t k. tt), tt)
others_keep StrLen = ((tt, λ s h. R.wrapped_fits _), tt)
others_keep StartsWith = ((tt, λ s h t k. R.truth_fits _), tt)
others_keep EndsWith = ((tt, λ s h t k. R.truth_fits _), tt)
others_keep SubStr = ((tt, λ s h i k n l. tt), tt)
others_keep GetChar = ((tt, λ s h i k. getchar_fits s i), tt)
others_keep ClEmission = ((tt, bare_is _), tt)
others_keep ClBackground = ((tt, bare_is _), tt)
others_keep ClHoldout = ((tt, bare_is _), tt)
others_keep ClTransparent = ((tt, bare_is _), tt)
others_keep ClDiffuse = ((tt, λ n h. one_part _ n (pos 0) [] h R.zero_is), tt)
others_keep ClTranslucent = ((tt, λ n h. one_part _ n (pos 0) [] h R.zero_is), tt)
others_keep ClOrenNayar = ((tt, λ n h x k. one_part _ n x [] h k), tt)
others_keep ClReflection = ((tt, λ n h x k. one_part _ n x [] h k), tt)
others_keep ClRefraction = ((tt, λ n h x k. one_part _ n x [] h k), tt)
others_keep ClDebug = ((tt, λ text h. one_part _ no_normal (pos 0) text (three_are _ _ _ R.zero_is R.zero_is R.zero_is) R.zero_is), tt)
others_keep _ = tt
