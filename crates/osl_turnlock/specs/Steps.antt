-- What each step tells its seat, of the number found and of the seat before and after.
use Rattle.std.specs.Prelude.{◌≡◌, ◌≢◌, ℕ, ◌+◌, ◌%◌, ◌^◌, ◌≤◌, List, [], ◌∷◌, length, false, Option, Some, None}
use mathlib.Core.List.{IsPrefix}
use Rattle.atomic_table.specs.Table.{Me, Step}
use Rattle.osl_turnlock.specs.declared.board.Known.{Known}
use Rattle.osl_turnlock.specs.Growth.{KeepsMark, longer, or_mark}
use Rattle.osl_turnlock.specs.Views.{both, waiting, entered, left, idle, told}

-- a seat's view, and the slots that are out with it
abbrev pub Sat : Type 0 → Type 0 → Type 0 → Type 0
Sat T E B = Me (Option T) (Known E B)

module _ {E B : Type 0} where
  -- the seat has all parts, so each other one was joined into it
  abbrev pub HasAllParts : Known E B → Type 0
  HasAllParts v = v.parts ≡ v.origin.seats

  -- what such a seat knows of itself
  abbrev pub IsWhole : Known E B → Type 0
  IsWhole v = (length v.list ≡ v.origin.start + v.own) × (v.set ≡ false → v.origin.mark ≡ None → v.mark ≡ None)

  -- what a look tells of the seat's own view: the two lists of its last join begin one log, and the two marks are of one value
  pub record Learned (v : Known E B) : Type 0 where
    pub few : v.parts ≤ 1024
    pub lists : (log : List E) × IsPrefix v.list log × IsPrefix v.beside log
    pub marks : (mark : Option ℕ) × KeepsMark v.mark mark × KeepsMark v.beside_mark mark
    pub alone : HasAllParts v → IsWhole v

  -- what is known of two seats once they are joined
  pub record Joined (v w : Known E B) : Type 0 where
    pub few : v.parts + w.parts ≤ 1024
    pub lists : IsPrefix v.list (longer v.list w.list) × IsPrefix w.list (longer v.list w.list)
    pub marks : KeepsMark v.mark (or_mark v.mark w.mark) × KeepsMark w.mark (or_mark v.mark w.mark)
    pub alone : HasAllParts (both v w) → IsWhole (both v w)

module _ {T E B : Type 0} where
  -- the seat has the number that was next
  abbrev pub drawn : Step (Option T) → Sat T E B → ℕ → Sat T E B → Type 0
  drawn st m r m' = (n : ℕ) × (r ≡ n % 2 ^ 64) × (m' ≡ (waiting n m.0, m.1))

  -- the turn is over
  abbrev pub ended : Step (Option T) → Sat T E B → ℕ → Sat T E B → Type 0
  ended st m r m' = m' ≡ (idle m.0, m.1)

  -- the log so far was seen, and the number found is its length
  abbrev pub counted : Step (Option T) → Sat T E B → ℕ → Sat T E B → Type 0
  counted st m r m' = (log : List E) × IsPrefix m.0.list log × (length log ≡ r) × (m' ≡ (told log m.0, m.1))

  -- nothing changed
  abbrev pub learned : Step (Option T) → Sat T E B → ℕ → Sat T E B → Type 0
  learned st m r m' = (m' ≡ m) × Learned m.0

  module _ (log_of : T → List E) (mark_of : T → Option ℕ) (base_of : T → B) where
    -- what is known of the value that a seat with the view v finds
    pub record Found (v : Known E B) (x : T) : Type 0 where
      pub log : IsPrefix v.list (log_of x)
      pub mark : KeepsMark v.mark (mark_of x)
      pub base : Some (base_of x) ≡ v.origin.base
      pub alone : HasAllParts v → (log_of x ≡ v.list) × (mark_of x ≡ v.mark)

    -- the number found is the seat's own, and the same step took the slot; or it is another, and nothing changed
    abbrev pub awaited : Step (Option T) → Sat T E B → ℕ → Sat T E B → Type 0
    awaited st m r m' =
        (r ≡ m.0.number % 2 ^ 64 → (x : T) × Found m.0 x × (m' ≡ (entered (log_of x) (mark_of x) m.0, (0, Some x) ∷ m.1)))
        × (r ≢ m.0.number % 2 ^ 64 → m' ≡ m)

    -- the slot is back, with the value that the seat had put into it
    abbrev pub gave : Step (Option T) → Sat T E B → ℕ → Sat T E B → Type 0
    gave st m r m' = (x : T) → m.1 ≡ (0, Some x) ∷ [] → m' ≡ (left (log_of x) (mark_of x) st.first m.0, [])
