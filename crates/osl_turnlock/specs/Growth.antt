-- How logs and marks go on. A log only grows, and a mark that is set stays as it is.
use Rattle.std.specs.Prelude.{◌≡◌, List, length, Bool, true, false, nat_lt, if◌then◌else◌, Option, Some, None}

module _ {E : Type 0} where
  -- of two lists the one that is longer, and the first where neither is
  abbrev pub longer : List E → List E → List E
  longer xs ys = if nat_lt (length xs) (length ys) then ys else xs

  -- the other one
  abbrev pub shorter : List E → List E → List E
  shorter xs ys = if nat_lt (length xs) (length ys) then xs else ys

module _ {A : Type 0} where
  -- where there is a mark before, it is the mark after
  abbrev pub KeepsMark : Option A → Option A → Type 0
  KeepsMark None after = Unit {0}
  KeepsMark (Some x) after = after ≡ Some x

  -- there was no mark before, and there is one after
  abbrev pub came : Option A → Option A → Bool
  came None (Some x) = true
  came None None = false
  came (Some x) after = false

  -- the first mark, or else the second
  abbrev pub or_mark : Option A → Option A → Option A
  or_mark (Some x) second = Some x
  or_mark None second = second
