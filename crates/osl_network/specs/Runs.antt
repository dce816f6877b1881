-- A group's layers run one after another, each in full, over whatever runs a layer.
use Rattle.std.specs.Prelude.{ℕ, false, List, [], ◌∷◌, ◌++◌, length, Option, None, slice_index_or}
use Rattle.osl_value.specs.declared.point.Point.{Point}
use Rattle.osl_value.specs.Plain.{Plain}
use Rattle.osl_layer.specs.Layer.{Inputs, LayerEnd}
use Rattle.osl_network.specs.declared.variables.VarPoint.{VarPoint}
use Rattle.osl_network.specs.Inputs.{inputs_of}
use Rattle.osl_network.specs.Network.{Layer, Network}

-- what runs a layer: given inputs, at a point, with a budget of turns of loops
abbrev pub Running : Type 0
Running = Inputs → Point → ℕ → LayerEnd

-- a layer that is not there gives nothing and reads nothing
abbrev pub nothing : LayerEnd
nothing = record { results = None; reads = λ k. false }

-- by the layers' numbers
abbrev pub Runnings : Type 0
Runnings = ℕ → Running

-- the instance values of all layers, one list for each, with one entry for each parameter
abbrev pub GroupValues : Type 0
GroupValues = List (List (Option Plain))

abbrev pub values_of : GroupValues → ℕ → List (Option Plain)
values_of values l = slice_index_or values l []

-- the run of a layer of a number, where the layers before it ended so
abbrev pub layer_ends : Runnings → GroupValues → VarPoint → ℕ → List LayerEnd → ℕ → Layer → LayerEnd
layer_ends runs values at budget ends l layer = runs l (inputs_of at.vars ends (values_of values l) layer) at.point budget

-- the ends of some layers, and after them those of the others
unfoldable pub ends_after : Runnings → GroupValues → VarPoint → ℕ → List LayerEnd → List Layer → List LayerEnd
ends_after runs values at budget ends [] = ends
ends_after runs values at budget ends (layer ∷ layers) =
    ends_after runs values at budget (ends ++ layer_ends runs values at budget ends (length ends) layer ∷ []) layers

-- how each layer ends, first to last, every layer run
abbrev pub group_run : Runnings → Network → GroupValues → VarPoint → ℕ → List LayerEnd
group_run runs net values at budget = ends_after runs values at budget [] net.layers
