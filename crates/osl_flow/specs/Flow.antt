-- What the analyses of a shader's code say.
use Rattle.std.specs.Prelude.{◌≡◌, ◌↔◌, ℕ, ◌<◌, Bool, true, List, [], ◌∷◌, ◌++◌, length, replicate, false, None, Some, slice_get, slice_index_or}
use Rattle.std.specs.List.{list_any}
use Rattle.oso_code.specs.Ops.{reads}
use Rattle.oso_code.specs.Ranges.{steps_of}
use Rattle.oso_code.specs.declared.raw.Raw.{Raw}
use Rattle.osl_rewrites.specs.Flow.{Surrounds, nexts, LiveAfter, Settled, Earned}
use Rattle.osl_rewrites.specs.declared.point.Around.{Around}
use Rattle.osl_rewrites.specs.declared.point.Spot.{Spot}
use Rattle.osl_rewrites.specs.declared.point.Spot.TheVariants.{At}
use Rattle.osl_flow.specs.Rows.{AreRows, live_bit}
use Rattle.osl_flow.specs.Uses.{bit, writes_of}

-- the code, what is asked at its end, and after each op the row of what is live
pub record View : Type 0 where
  pub code : Raw
  pub asked : List Bool
  pub live : List (List Bool)

-- the rows of all spots hold what is live there, and only that
pub record AreSettled (raw : Raw) (around : ℕ → Around) (asked : List Bool) (rows : List (List Bool)) : Type 0 where
  pub wide : AreRows (length raw.symbols) rows
  pub settled : Settled (steps_of raw) raw.sections around (bit asked) (live_bit raw around rows)
  pub earned : Earned (steps_of raw) raw.sections around (bit asked) (live_bit raw around rows)

-- each row is that of what is live after its op, by one table of what is around ops and by rows of all spots
pub record AreLive (raw : Raw) (around : ℕ → Around) (asked : List Bool) (live : List (List Bool)) : Type 0 where
  pub row : Spot → ℕ → Bool
  pub settled : Settled (steps_of raw) raw.sections around (bit asked) row
  pub earned : Earned (steps_of raw) raw.sections around (bit asked) row
  pub long : length live ≡ length raw.ops
  pub wide : AreRows (length raw.symbols) live
  pub after : (i k : ℕ) → i < length raw.ops → bit (slice_index_or live i []) k ≡ list_any (λ q. row q k) (nexts (steps_of raw) raw.sections around (At i))

-- the rows of a view are those of its code
pub record IsFlow (view : View) : Type 0 where
  pub around : ℕ → Around
  pub surrounds : Surrounds (steps_of view.code) view.code.sections around
  pub are_live : AreLive view.code around view.asked view.live

-- the row has just the symbols that are live after the op, by a table of what is around ops
pub record IsLiveAfter (raw : Raw) (asked : List Bool) (i : ℕ) (row : List Bool) : Type 0 where
  pub around : ℕ → Around
  pub surrounds : Surrounds (steps_of raw) raw.sections around
  pub exact : (k : ℕ) → (bit row k ≡ true) ↔ LiveAfter (steps_of raw) raw.sections around (bit asked) i k

-- the symbols that the op at a place reads, and those that it writes
abbrev pub reads_at_op : Raw → ℕ → List ℕ
reads_at_op raw i = elim (slice_get raw.ops i) [ None ↦ [] | Some op ↦ reads op ]

abbrev pub writes_at_op : Raw → ℕ → List ℕ
writes_at_op raw i = elim (slice_get raw.ops i) [ None ↦ [] | Some op ↦ writes_of op ]

-- the rows before any pass: what is asked at the end, and nothing else
abbrev pub first_rows : Raw → List Bool → List (List Bool)
first_rows raw asked =
    let none = replicate (length raw.symbols) false in
    (replicate (length raw.ops) none ++ replicate (length raw.ops) none) ++ (asked ∷ replicate (length raw.sections) none)
