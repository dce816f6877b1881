-- A text around the first byte that passes a test.
use Rattle.std.proofs.Common.{◌≡◌, ℕ, ◌+◌, ◌<◌, ◌≤◌, Bool, true, false, not, ◌||◌, cond, nat_lt, List, [], ◌∷◌, length, Some, None, refl, arith}
use Rattle.std.proofs.lemmas.Bool.{or_parts, ltb-true, ltb-false}
use Rattle.std.specs.List.{list_any, position, position_or_len}

-- ---- the place that `position` answers

placed_some : (b : Bool) (k i : ℕ) → cond b (Some k) None ≡ Some i → (b ≡ true) × (k ≡ i)
placed_some true k i h = (refl, cc)
placed_some false k i h = absurd cc

placed_none : (b : Bool) (k : ℕ) → cond b (Some k) None ≡ None → b ≡ false
placed_none true k h = absurd cc
placed_none false k h = refl

pub found_at : (p : ℕ → Bool) (text : List ℕ) (i : ℕ) → position p text ≡ Some i → (position_or_len p text ≡ i) × (i < length text)
found_at p text i h =
    let placed = placed_some (nat_lt (position_or_len p text) (length text)) (position_or_len p text) i h in
    (placed.1, omega (arith, placed.1, ltb-true _ _ placed.0))

pub found_none : (p : ℕ → Bool) (text : List ℕ) → position p text ≡ None → length text ≤ position_or_len p text
found_none p text h = ltb-false _ _ (placed_none (nat_lt (position_or_len p text) (length text)) (position_or_len p text) h)

-- ---- whether some byte passes

pub none_passes : (p : ℕ → Bool) (text : List ℕ) → list_any p text ≡ false → position_or_len p text ≡ length text
none_passes p [] h = refl
none_passes p (c ∷ text) h =
    let parts = or_parts (p c) (list_any p text) h in
    let rest = none_passes p text parts.1 in
    rw parts.0 (omega arith)

pub some_passes : (p : ℕ → Bool) (text : List ℕ) → position_or_len p text < length text → list_any p text ≡ true
some_passes p text h = elim (list_any p text) as (λ b. list_any p text ≡ b → b ≡ true) [
  | true ↦ λ _. refl
  | false ↦ λ none. absurd (omega (arith, none_passes p text none))
] refl

pub all_fail : (p : ℕ → Bool) (text : List ℕ) → length text ≤ position_or_len p text → list_any p text ≡ false
all_fail p [] h = refl
all_fail p (c ∷ text) h = elim (p c) as (λ b. length (c ∷ text) ≤ cond (not b) (1 + position_or_len p text) 0 → b || list_any p text ≡ false) [
  | true ↦ λ within. absurd (omega arith)
  | false ↦ λ over. all_fail p text (omega arith)
] h
