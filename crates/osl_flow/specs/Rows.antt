-- A row of bits for each spot: what may be live there.
use Rattle.std.specs.Prelude.{◌≡◌, ℕ, ◌+◌, ◌<◌, ◌≤◌, ◌==◌, nat_lt, Bool, true, false, not, ◌&&◌, ◌||◌, List, [], ◌∷◌, length, Option, None, Some, if◌then◌else◌, slice_index_or}
use Rattle.std.specs.List.{list_any, All}
use Rattle.oso_code.specs.Ranges.{steps_of}
use Rattle.oso_code.specs.Steps.{Step}
use Rattle.oso_code.specs.Uses.{reads_on_entry, reads_in_test, written_by}
use Rattle.oso_code.specs.declared.op.Section.{Section}
use Rattle.oso_code.specs.declared.raw.Raw.{Raw}
use Rattle.osl_rewrites.specs.Flow.{nexts, reads_at, writes_at, Live}
use Rattle.osl_rewrites.specs.declared.point.Around.{Around}
use Rattle.osl_rewrites.specs.declared.point.Spot.{Spot}
use Rattle.osl_rewrites.specs.declared.point.Spot.TheVariants.{At, Test, Gate, Done}
use Rattle.osl_flow.specs.Uses.{bit, has}

-- the place of a spot's row: those of ops, of loops' tests, of the layer's end, of the gates before sections
abbrev pub number : ℕ → ℕ → Spot → ℕ
number n m (At i) = if nat_lt i n then i else n + n + 1 + m
number n m (Test i) = if nat_lt i n then n + i else n + n + 1 + m
number n m (Gate j) = if nat_lt j m then n + n + 1 + j else n + n
number n m Done = n + n

-- the bit of a symbol before a spot
abbrev pub row_at : List (List Bool) → ℕ → ℕ → Spot → ℕ → Bool
row_at rows n m p k = bit (slice_index_or rows (number n m p) []) k

-- whether this is the symbol
abbrev pub is_symbol : Option ℕ → ℕ → Bool
is_symbol None k = false
is_symbol (Some w) k = w == k

-- what is live before a spot, where ways go on to these, and this is written and read
abbrev pub before : (Spot → ℕ → Bool) → List Spot → Option ℕ → List ℕ → ℕ → Bool
before row spots written read k = (list_any (λ q. row q k) spots && not (is_symbol written k)) || has read k

-- each row has so many bits
pub record AreRows (n : ℕ) (rows : List (List Bool)) : Type 0 where
  pub each : All (λ row. length row ≡ n) rows

-- the symbols that a step uses are below n
pub record UsesBelow (n : ℕ) (step : Step) : Type 0 where
  pub entry : All (λ k. k < n) (reads_on_entry step)
  pub test : All (λ k. k < n) (reads_in_test step)
  pub written : (k : ℕ) → written_by step ≡ Some k → k < n

-- how many bits a row lacks
abbrev pub lacks : List Bool → ℕ
lacks [] = 0
lacks (b ∷ bs) = (if b then 0 else 1) + lacks bs

-- and all rows
abbrev pub all_lack : List (List Bool) → ℕ
all_lack [] = 0
all_lack (row ∷ rows) = lacks row + all_lack rows

-- ---- one spot after another

-- a spot with a row of its own that is computed
abbrev pub IsReal : Raw → Spot → Type 0
IsReal raw (At i) = i < length raw.ops
IsReal raw (Test i) = i < length raw.ops
IsReal raw (Gate j) = j < length raw.sections
IsReal raw Done = ⊥

module _ (raw : Raw) (table : ℕ → Around) where
  -- the bit of a symbol before a spot of this code
  abbrev pub live_bit : List (List Bool) → Spot → ℕ → Bool
  live_bit rows = row_at rows (length raw.ops) (length raw.sections)

  -- what is live before a spot, where the rows say what is before those that follow it
  abbrev pub wanted : List (List Bool) → Spot → ℕ → Bool
  wanted rows p = before (live_bit rows) (nexts (steps_of raw) raw.sections table p) (writes_at (steps_of raw) p) (reads_at (steps_of raw) p)

  -- the row of the spot holds what the rows of those that follow it ask for
  abbrev pub SettledAt : List (List Bool) → Spot → Type 0
  SettledAt rows p = (k : ℕ) → wanted rows p k ≡ true → live_bit rows p k ≡ true

  -- each bit is of a live symbol
  abbrev pub AllEarned : (ℕ → Bool) → List (List Bool) → Type 0
  AllEarned asked rows = (p : Spot) (k : ℕ) → live_bit rows p k ≡ true → Live (steps_of raw) raw.sections table asked k p

  -- so many rows, of so many bits
  pub record Sized (rows : List (List Bool)) : Type 0 where
    pub long : length rows ≡ length raw.ops + length raw.ops + 1 + length raw.sections
    pub wide : AreRows (length raw.symbols) rows

  -- bits of live symbols were added, or none was
  pub record Passed (rows new : List (List Bool)) (changed : Bool) : Type 0 where
    pub sized : Sized new
    pub grows : (p : Spot) (k : ℕ) → live_bit rows p k ≡ true → live_bit new p k ≡ true
    pub earned : (asked : ℕ → Bool) → AllEarned asked rows → AllEarned asked new
    pub still : changed ≡ false → new ≡ rows
    pub rises : changed ≡ true → all_lack new < all_lack rows

  -- bits of live symbols were added
  pub record Reached (rows new : List (List Bool)) : Type 0 where
    pub sized : Sized new
    pub grows : (p : Spot) (k : ℕ) → live_bit rows p k ≡ true → live_bit new p k ≡ true
    pub earned : (asked : ℕ → Bool) → AllEarned asked rows → AllEarned asked new

  -- the rows of an op and of the test that it may have
  abbrev pub SettledOp : List (List Bool) → ℕ → Type 0
  SettledOp rows i = SettledAt rows (At i) × SettledAt rows (Test i)

  -- those of a section's ops and of its gate
  abbrev pub SettledSection : List (List Bool) → ℕ → Section → Type 0
  SettledSection rows j section = ((i : ℕ) → section.start ≤ i → i < section.end → SettledOp rows i) × SettledAt rows (Gate j)
