-- A choice with one candidate more in front, which costs nothing.
use Rattle.std.proofs.Common.{◌≡◌, ℕ, ◌+◌, min, Bool, true, false, ◌||◌, List, [], ◌∷◌, if◌then◌else◌, Option, Some, None, refl, ap, ◌∙◌, arith}
use Rattle.std.specs.List.{list_any}
use Rattle.osl_overload.specs.Cost.{total}
use Rattle.osl_overload.specs.declared.signature.Arg.{Arg}
use Rattle.osl_overload.specs.declared.signature.Signature.{Signature}
use Rattle.osl_typed.specs.Choosing.{costs, least, least_of, places, costs_this, sole, sole_at, chosen}

least_zero : (l : Option ℕ) → least_of (Some 0) l ≡ Some 0
least_zero None = refl
least_zero (Some n) = let e : min 0 n ≡ 0 = omega arith in ap Some e

abbrev pub alone : Bool → Option ℕ
alone true = None
alone false = Some 0

none_placed : (n at : ℕ) (all : List (Option ℕ)) → list_any (costs_this n) all ≡ false → places n at all ≡ []
unfolding places
none_placed n at [] h = refl
none_placed n at (cost ∷ rest) h = go (costs_this n cost) h (none_placed n (at + 1) rest)
  where
    go : (this : Bool) → (this || list_any (costs_this n) rest) ≡ false → (list_any (costs_this n) rest ≡ false → places n (at + 1) rest ≡ [])
        → (if this then at ∷ places n (at + 1) rest else places n (at + 1) rest) ≡ []
    go true h ih = absurd (cc)
    go false h ih = ih h

some_placed : (n at : ℕ) (all : List (Option ℕ)) (first : ℕ) → list_any (costs_this n) all ≡ true → sole (first ∷ places n at all) ≡ None
unfolding places
some_placed n at [] first h = absurd (cc)
some_placed n at (cost ∷ rest) first h = go (costs_this n cost) h (some_placed n (at + 1) rest first)
  where
    go : (this : Bool) → (this || list_any (costs_this n) rest) ≡ true → (list_any (costs_this n) rest ≡ true → sole (first ∷ places n (at + 1) rest) ≡ None)
        → sole (first ∷ (if this then at ∷ places n (at + 1) rest else places n (at + 1) rest)) ≡ None
    go true h ih = refl
    go false h ih = ih h

zero_first : (all : List (Option ℕ)) (b : Bool) → list_any (costs_this 0) all ≡ b → sole_at (Some 0 ∷ all) (least (Some 0 ∷ all)) ≡ alone b
unfolding least places
zero_first all true h = ap (sole_at (Some 0 ∷ all)) (least_zero (least all)) ∙ some_placed 0 1 all 0 h
zero_first all false h = ap (sole_at (Some 0 ∷ all)) (least_zero (least all)) ∙ ap (λ ps. sole (0 ∷ ps)) (none_placed 0 1 all h)

pub free_first : (own : Signature) (others : List Signature) (args : List Arg) → total own.params args ≡ Some 0
    → chosen (own ∷ others) args ≡ alone (list_any (costs_this 0) (costs others args))
unfolding chosen
free_first own others args e = rw e (zero_first (costs others args) (list_any (costs_this 0) (costs others args)) refl)
