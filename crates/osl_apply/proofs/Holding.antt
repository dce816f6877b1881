-- What slots hold, by their numbers.
use Rattle.std.proofs.Common.{◌≡◌, ℕ, zero, suc, ◌<◌, true, List, [], ◌∷◌, length, map, replicate, get_or, refl, ap, arith}
use Rattle.std.specs.Cmp.Lexicographic.{pointwise}
use Rattle.std.proofs.lemmas.Bool.{false≢true, and_parts}
use Rattle.osl_value.specs.AnyValue.{type_of}
use Rattle.osl_value.specs.Forms.{ANumber, fits, seen_of}
use Rattle.osl_value.specs.Geometry.{number_at}
use Rattle.osl_apply.specs.declared.slot.Slot.{Slot}
use Rattle.osl_apply.specs.Slots.{seen}
use Rattle.osl_apply.specs.Operands.{held, held_all, numbers_held, AllBelow, AreNumbers, IsFirst}

pub held_is : (slots : List Slot) (k : ℕ) (d : Slot) → k < length slots → held slots k ≡ seen (get_or slots k d)
held_is [] k d h = absurd (omega arith)
held_is (s ∷ slots) zero d h = refl
held_is (s ∷ slots) (suc k) d h = held_is slots k d (omega arith)

pub below_at : (n : ℕ) (ks : List ℕ) (k : ℕ) → AllBelow n ks → k < length ks → get_or ks k 0 < n
below_at n [] k all h = absurd (omega arith)
below_at n (j ∷ ks) zero all h = all.0
below_at n (j ∷ ks) (suc k) all h = below_at n ks k all.1 (omega arith)

pub number_at_place : (slots : List Slot) (ks : List ℕ) (k : ℕ) → AreNumbers slots ks → k < length ks → fits ANumber (type_of (held slots (get_or ks k 0))) ≡ true
number_at_place slots [] k all h = absurd (omega arith)
number_at_place slots (j ∷ ks) zero all h = all.0
number_at_place slots (j ∷ ks) (suc k) all h = number_at_place slots ks k all.1 (omega arith)

pub number_held_at : (slots : List Slot) (ks : List ℕ) (k : ℕ) → k < length ks → number_at (numbers_held slots ks) k ≡ seen_of ANumber (held slots (get_or ks k 0))
number_held_at slots [] k h = absurd (omega arith)
number_held_at slots (j ∷ ks) zero h = refl
number_held_at slots (j ∷ ks) (suc k) h = number_held_at slots ks k (omega arith)

pub length_numbers : (slots : List Slot) (ks : List ℕ) → length (numbers_held slots ks) ≡ length ks
length_numbers slots [] = refl
length_numbers slots (j ∷ ks) = ap suc (length_numbers slots ks)

pub length_held : (slots : List Slot) (ks : List ℕ) → length (map type_of (held_all slots ks)) ≡ length ks
length_held slots [] = refl
length_held slots (k ∷ ks) = ap suc (length_held slots ks)

pub are_numbers : (n : ℕ) (slots : List Slot) (ks : List ℕ) → pointwise fits (replicate n ANumber) (map type_of (held_all slots ks)) ≡ true → AreNumbers slots ks
are_numbers n slots [] h = tt
are_numbers zero slots (k ∷ ks) h = absurd (false≢true h)
are_numbers (suc n) slots (k ∷ ks) h =
    let p = and_parts (fits ANumber (type_of (held slots k))) (pointwise fits (replicate n ANumber) (map type_of (held_all slots ks))) h in
    (p.0, are_numbers n slots ks p.1)

pub three_held : (slots : List Slot) (ks : List ℕ) → length ks ≡ 3 → held_all slots ks ≡ held slots (get_or ks 0 0) ∷ held slots (get_or ks 1 0) ∷ held slots (get_or ks 2 0) ∷ []
three_held slots [] h = absurd (omega arith)
three_held slots (a ∷ []) h = absurd (omega arith)
three_held slots (a ∷ (b ∷ [])) h = absurd (omega arith)
three_held slots (a ∷ (b ∷ (c ∷ []))) h = refl
three_held slots (a ∷ (b ∷ (c ∷ (d ∷ ks)))) h = absurd (omega arith)

pub first_is : (k : ℕ) (ks : List ℕ) → IsFirst k ks → get_or ks 0 0 ≡ k
first_is k [] h = absurd h
first_is k (j ∷ ks) h = h
