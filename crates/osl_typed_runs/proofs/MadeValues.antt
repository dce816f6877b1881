-- A value makes up its type: it has as many numbers and texts as the type, each number in its range, as valid code asks of what it states.
use Rattle.std.proofs.Common.{ℕ, ℤ, pos, negsuc, List, [], ◌∷◌, length, refl, subst, arith}
use Rattle.std.specs.Prelude.{IsTrue, ◌^◌}
use Rattle.std.specs.List.{All, list_all}
use Rattle.std.proofs.lemmas.Bool.{and_from, lt-ltb, le-leb, eq-eqb}
use Rattle.std.proofs.lemmas.List.Elements.{All-head, All-tail}
use Rattle.osl_value.specs.declared.types.Base.{Base}
use Rattle.osl_value.specs.declared.types.Base.TheVariants as B
use Rattle.osl_value.specs.declared.types.Ty.{Ty}
use Rattle.osl_value.specs.AnyValue.{AnyValue, Of, Parts, numbers_of, texts_of}
use Rattle.osl_value.specs.Plain.{IsNumberOf, IsPlain}
use Rattle.osl_value.specs.Types.{number_count, text_count}
use Rattle.osl_value.specs.WellFormed.{IsOfType}
use Rattle.oso_code.specs.Holding.{fits_base, makes_up}

number_fits : (base : Base) (n : ℤ) → IsNumberOf base n → IsTrue (fits_base base n)
number_fits B.Int (pos n) h = let k = h.sfits in lt-ltb n (2 ^ 31) (omega arith)
number_fits B.Int (negsuc n) h = let k = h.sfits in lt-ltb n (2 ^ 31) (omega arith)
number_fits B.Float n h = le-leb _ _ h
number_fits B.Color n h = le-leb _ _ h
number_fits B.Point n h = le-leb _ _ h
number_fits B.Vector n h = le-leb _ _ h
number_fits B.Normal n h = le-leb _ _ h
number_fits B.Matrix n h = le-leb _ _ h
number_fits B.Str n h = le-leb _ _ h
number_fits B.Closure n h = le-leb _ _ h

numbers_fit : (base : Base) (ns : List ℤ) → All (IsNumberOf base) ns → IsTrue (list_all (fits_base base) ns)
numbers_fit base [] all = refl
numbers_fit base (n ∷ ns) all = and_from _ _ (number_fits base n (All-head (IsNumberOf base) n ns all)) (numbers_fit base ns (All-tail (IsNumberOf base) n ns all))

pub plain_makes : (ty : Ty) (nums : List ℤ) (texts : List (List ℕ)) → IsPlain ty nums texts → IsTrue (makes_up ty nums texts)
plain_makes ty nums texts h =
    and_from _ _ (and_from _ _ (eq-eqb (length nums) (number_count ty) h.nums_fit) (eq-eqb (length texts) (text_count ty) h.texts_fit)) (numbers_fit ty.base nums h.in_range)

-- a closure has no numbers and no texts
pub value_makes : (ty : Ty) (v : AnyValue) → IsOfType ty v → IsTrue (makes_up ty (numbers_of v) (texts_of v))
value_makes ty (Of v) h = subst (λ t. IsTrue (makes_up t v.nums v.texts)) h.type (plain_makes v.ty v.nums v.texts h.value)
value_makes ty (Parts parts) h = subst (λ t. IsTrue (makes_up t [] [])) h.type refl
