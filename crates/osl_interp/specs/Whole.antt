-- A run of a layer against the run of its code.
use Rattle.std.specs.Prelude.{◌≡◌, ℕ, ◌≤◌, Bool, true, List, Option, slice_get}
use Rattle.osl_value.specs.Plain.{Plain}
use Rattle.osl_layer.specs.Layer as L
use Rattle.osl_interp.specs.Progress.{Progress, given_reads, whole, whole_ops}
use Rattle.osl_interp.specs.Starts.{BeginsAt}
use Rattle.osl_interp.specs.declared.layer_run.Status.{Status}
use Rattle.osl_interp.specs.declared.layer_run.Status.TheVariants.{Fresh, Resumed, Stopped, Lost}

-- the inputs of a layer of which these are connected, and these are instance values
abbrev pub Begins : L.Inputs → List Bool → List (Option Plain) → Type 0
Begins inputs wired fixed = (k : ℕ) → BeginsAt (inputs k) (slice_get wired k) (slice_get fixed k)

-- the run of the code gives this, reads what was read, and counts what was counted
pub record EndsAsCode (p : Progress) (inputs : L.Inputs) : Type 0 where
  pub results : (whole p inputs).results ≡ p.results
  pub reads : (whole p inputs).reads ≡ given_reads p.known
  pub ops : whole_ops p inputs ≡ p.ops

-- the run of the code reads what was read, and counts no less than was counted
pub record IsPartOfCode (p : Progress) (inputs : L.Inputs) : Type 0 where
  pub reads : (k : ℕ) → given_reads p.known k ≡ true → (whole p inputs).reads k ≡ true
  pub ops : p.ops ≤ whole_ops p inputs

-- it did not run out of memory
abbrev pub IsNotLost : Status → Type 0
IsNotLost Fresh = Unit
IsNotLost (Resumed param) = Unit
IsNotLost (Stopped stop) = Unit
IsNotLost Lost = ⊥
