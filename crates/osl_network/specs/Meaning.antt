-- What a group shows at a point: its asked outputs and the closure of its last layer.
use Rattle.std.specs.Prelude.{ℕ, ◌-◌, List, [], ◌∷◌, length, Option, None, Some, option_and_then, slice_get}
use Rattle.osl_value.specs.declared.closure.Part.{Part}
use Rattle.osl_value.specs.AnyValue.{AnyValue}
use Rattle.osl_value.specs.Closures.{shown}
use Rattle.osl_layer.specs.Layer.{LayerEnd, LayerResults}
use Rattle.osl_network.specs.declared.variables.VarPoint.{VarPoint}
use Rattle.osl_network.specs.Inputs.{output_at}
use Rattle.osl_network.specs.Network.{Place, Network}
use Rattle.osl_network.specs.Runs.{Runnings, GroupValues, group_run}

pub data Shown : Type 0 where
  -- the last layer, or one that is asked, gave nothing
  Spent : Shown
  -- the asked outputs in order, and the parts of the last layer's `Ci` without those of weight zero on all channels
  Shows : List AnyValue → List Part → Shown

-- what the last layer gave
abbrev pub last_results : List LayerEnd → Option LayerResults
last_results ends = option_and_then (λ end. end.results) (slice_get ends (length ends - 1))

abbrev pub with_output : Option AnyValue → Option (List AnyValue) → Option (List AnyValue)
with_output None outs = None
with_output (Some v) None = None
with_output (Some v) (Some outs) = Some (v ∷ outs)

-- the outputs at these places, if each is there
abbrev pub outputs_at : List LayerEnd → List Place → Option (List AnyValue)
outputs_at ends [] = Some []
outputs_at ends (place ∷ places) = with_output (output_at ends place) (outputs_at ends places)

abbrev pub shown_of : Option (List AnyValue) → Option LayerResults → Shown
shown_of None results = Spent
shown_of (Some outs) None = Spent
shown_of (Some outs) (Some results) = Shows outs (shown results.closure)

abbrev pub shown_by : List LayerEnd → List Place → Shown
shown_by ends asked = shown_of (outputs_at ends asked) (last_results ends)

-- what a group shows under instance values at a point with its variables, each layer having a budget of turns of loops
abbrev pub meaning : Runnings → Network → GroupValues → VarPoint → ℕ → Shown
meaning runs net values at budget = shown_by (group_run runs net values at budget) net.asked
