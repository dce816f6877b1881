-- Sizes of lists: their code, one element after another.
use Rattle.std.proofs.Common.{◌≡◌, ℕ, ◌+◌, ◌*◌, ◌≤◌, List, [], ◌∷◌, ◌++◌, ap, ◌∙◌, arith}
use Rattle.std.specs.Prelude.{map}
use Rattle.std.proofs.lemmas.List.{map-append}
use Rattle.osl_typed.specs.declared.sizes.Weight.{Weight}
use Rattle.osl_typed.specs.Sizes.{all_of}
use Rattle.oso_code.specs.declared.op.Op.{Op}
use Rattle.oso_code.specs.declared.symbol.Symbol.{Symbol}
use Rattle.osl_gencode.specs.Sizes.{Adds, Within, ExprWithin}
use Rattle.osl_gencode.proofs.SizeSums.{within_nothing, within_adds}

-- ---- sums

pub all_size : (xs ys : List Weight) → (all_of (xs ++ ys)).size ≡ (all_of xs).size + (all_of ys).size
all_size [] ys = omega arith
all_size (x ∷ xs) ys = let r = all_size xs ys in omega (arith, r)

pub all_slots : (xs ys : List Weight) → (all_of (xs ++ ys)).slots ≡ (all_of xs).slots + (all_of ys).slots
all_slots [] ys = omega arith
all_slots (x ∷ xs) ys = let r = all_slots xs ys in omega (arith, r)

-- ---- code

pub none_within : {A : Type 0} (f : A → Weight) (ops : List Op) (syms : List Symbol) → Within ops ops syms syms 0 0 0 (all_of (map f []))
none_within f ops syms = within_nothing ops syms

-- one more element of any list
pub more_within : {A : Type 0} (f : A → Weight) (xs : List A) (x : A) (ops0 ops1 ops2 : List Op) (syms0 syms1 syms2 : List Symbol) (n m q n1 m1 q1 : ℕ)
    → Within ops0 ops1 syms0 syms1 n m q (all_of (map f xs)) → Within ops1 ops2 syms1 syms2 n1 m1 q1 (f x)
    → Within ops0 ops2 syms0 syms2 (n + n1) (m + m1) (q + q1) (all_of (map f (xs ++ x ∷ [])))
more_within f xs x ops0 ops1 ops2 syms0 syms1 syms2 n m q n1 m1 q1 a b =
    let o = a.ops in let o1 = b.ops in let s = a.syms in let s1 = b.syms in let t = a.slots in let t1 = b.slots in
    let size : (all_of (map f (xs ++ x ∷ []))).size ≡ (all_of (map f xs)).size + (f x).size = ap (λ ws. (all_of ws).size) (map-append f xs (x ∷ [])) ∙ all_size (map f xs) (f x ∷ []) ∙ omega arith in
    let slots : (all_of (map f (xs ++ x ∷ []))).slots ≡ (all_of (map f xs)).slots + (f x).slots = ap (λ ws. (all_of ws).slots) (map-append f xs (x ∷ [])) ∙ all_slots (map f xs) (f x ∷ []) ∙ omega arith in
    record { ops = omega (arith, o, o1, size); syms = omega (arith, s, s1, size); slots = omega (arith, t, t1, slots) }

-- the same from the front, as statements and arguments are taken from left to right
pub first_within : {A : Type 0} (f : A → Weight) (x : A) (xs : List A) (ops0 ops1 ops2 : List Op) (syms0 syms1 syms2 : List Symbol) (n m q n1 m1 q1 : ℕ)
    → Within ops0 ops1 syms0 syms1 n m q (f x) → Within ops1 ops2 syms1 syms2 n1 m1 q1 (all_of (map f xs))
    → Within ops0 ops2 syms0 syms2 (n + n1) (m + m1) (q + q1) (all_of (map f (x ∷ xs)))
first_within f x xs ops0 ops1 ops2 syms0 syms1 syms2 n m q n1 m1 q1 a b =
    let o = a.ops in let o1 = b.ops in let s = a.syms in let s1 = b.syms in let t = a.slots in let t1 = b.slots in
    record { ops = omega (arith, o, o1); syms = omega (arith, s, s1); slots = omega (arith, t, t1) }

-- An operand that is copied, so that a later one cannot write it: an op and a symbol for each leaf, and the slots, of the room that it leaves. A variable leaves them.
pub copied_within : (ops0 ops1 ops2 : List Op) (syms0 syms1 syms2 : List Symbol) (leaves q z r : ℕ) (w : Weight) → r + z ≤ q → ExprWithin ops0 ops1 syms0 syms1 leaves q w → Adds ops1 ops2 syms1 syms2 leaves leaves z → Within ops0 ops2 syms0 syms2 leaves 0 r w
copied_within ops0 ops1 ops2 syms0 syms1 syms2 leaves q z r w le a b =
    within_adds ops0 ops1 ops2 syms0 syms1 syms2 (2 * leaves) leaves q leaves 0 r leaves leaves z w (omega arith) (omega arith) le a b
