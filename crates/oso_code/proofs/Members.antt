-- Members of lists that filters, maps and tests go over.
use Rattle.std.proofs.Common.{◌≡◌, ℕ, zero, suc, ◌<◌, ◌⊎◌, inl, inr, List, [], ◌∷◌, ◌++◌, Some, Bool, true, false, refl, sym, ap, ◌∙◌, subst, arith}
use Rattle.std.specs.Prelude.{slice_get, take, filter, flat_map, reverse, if◌then◌else◌, ◌&&◌, IsTrue}
use Rattle.std.specs.List.{list_all}
use Rattle.std.proofs.lemmas.List.{reverse-append}
use Rattle.oso_code.proofs.Fitting.{some_same}

pub and_both : (a b : Bool) → IsTrue (a && b) → IsTrue a × IsTrue b
and_both true b h = (refl, h)
and_both false b h = absurd (cc h)

pub both_and : (a b : Bool) → IsTrue a → IsTrue b → IsTrue (a && b)
both_and true b h k = k
both_and false b h k = absurd (cc h)

-- x is an element
abbrev pub In : {X : Type 0} → X → List X → Type 0
In x [] = ⊥
In x (y ∷ ys) = (x ≡ y) ⊎ In x ys

pub in_front : {X : Type 0} (x : X) (xs ys : List X) → In x xs → In x (xs ++ ys)
in_front x [] ys h = absurd h
in_front x (z ∷ zs) ys (inl e) = inl e
in_front x (z ∷ zs) ys (inr h) = inr (in_front x zs ys h)

pub in_back : {X : Type 0} (x : X) (xs ys : List X) → In x ys → In x (xs ++ ys)
in_back x [] ys h = h
in_back x (z ∷ zs) ys h = inr (in_back x zs ys h)

in_kept : {X : Type 0} (b : Bool) (x y : X) (rest : List X) → In x rest → In x (if b then y ∷ rest else rest)
in_kept true x y rest h = inr h
in_kept false x y rest h = h

in_found : {X : Type 0} (b : Bool) (x y : X) (rest : List X) → b ≡ true → x ≡ y → In x (if b then y ∷ rest else rest)
in_found true x y rest t e = inl e
in_found false x y rest t e = absurd (cc t)

pub in_filter : {X : Type 0} (test : X → Bool) (x : X) (xs : List X) → In x xs → IsTrue (test x) → In x (filter test xs)
in_filter test x [] h t = absurd h
in_filter test x (y ∷ ys) (inl e) t = in_found (test y) x y (filter test ys) (ap test (sym e) ∙ t) e
in_filter test x (y ∷ ys) (inr h) t = in_kept (test y) x y (filter test ys) (in_filter test x ys h t)

pub in_flat_map : {X Y : Type 0} (f : X → List Y) (y : Y) (x : X) (xs : List X) → In x xs → In y (f x) → In y (flat_map f xs)
in_flat_map f y x [] h i = absurd h
in_flat_map f y x (z ∷ zs) (inl e) i = in_front y (f z) (flat_map f zs) (subst (λ w. In y (f w)) e i)
in_flat_map f y x (z ∷ zs) (inr h) i = in_back y (f z) (flat_map f zs) (in_flat_map f y x zs h i)

pub in_take : {X : Type 0} (x : X) (j k : ℕ) (xs : List X) → slice_get xs k ≡ Some x → k < j → In x (take j xs)
in_take x j k [] is lt = absurd (cc is)
in_take x zero k (z ∷ zs) is lt = absurd (omega arith)
in_take x (suc j) zero (z ∷ zs) is lt = inl (sym (some_same z x is))
in_take x (suc j) (suc k) (z ∷ zs) is lt = inr (in_take x j k zs is (omega arith))

pub in_reverse : {X : Type 0} (x : X) (xs : List X) → In x xs → In x (reverse xs)
in_reverse x [] h = absurd h
in_reverse x (y ∷ ys) (inl e) = subst (In x) (sym (reverse-append (y ∷ []) ys)) (in_back x (reverse ys) (y ∷ []) (inl e))
in_reverse x (y ∷ ys) (inr h) = subst (In x) (sym (reverse-append (y ∷ []) ys)) (in_front x (reverse ys) (y ∷ []) (in_reverse x ys h))

pub in_all : {X : Type 0} (test : X → Bool) (x : X) (xs : List X) → IsTrue (list_all test xs) → In x xs → IsTrue (test x)
in_all test x [] h i = absurd i
in_all test x (y ∷ ys) h (inl e) = ap test e ∙ (and_both (test y) (list_all test ys) h).0
in_all test x (y ∷ ys) h (inr i) = in_all test x ys (and_both (test y) (list_all test ys) h).1 i
