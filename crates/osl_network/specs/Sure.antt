-- Layers that cannot run out of turns.
use Rattle.std.specs.Prelude.{ℕ, Bool, true, false, not, ◌&&◌, List, [], ◌∷◌, ◌++◌, length, Option, None, Some, slice_index_or}
use Rattle.std.specs.List.{list_all, list_any}
use Rattle.osl_value.specs.declared.op_name.OpName.{OpName}
use Rattle.osl_value.specs.declared.op_name.OpName.TheVariants.{For, While, DoWhile}
use Rattle.oso_code.specs.declared.raw.Raw.{Raw}
use Rattle.osl_network.specs.Network.{Place, Layer, Network}

abbrev pub is_loop : OpName → Bool
is_loop For = true
is_loop While = true
is_loop DoWhile = true
is_loop _ = false

abbrev pub has_loop : Raw → Bool
has_loop raw = list_any (λ op. is_loop op.name) raw.ops

-- a parameter that is connected to a sure layer, or to none
abbrev pub is_sure_source : List Bool → Option Place → Bool
is_sure_source sure None = true
is_sure_source sure (Some place) = slice_index_or sure place.0 false

-- a layer is sure where its code has no loop and each of its connected parameters comes from a sure layer
abbrev pub is_sure : (ℕ → Bool) → List Bool → ℕ → Layer → Bool
is_sure loops sure l layer = not (loops l) && list_all (is_sure_source sure) layer.sources

-- whether some layers are sure, and after them the others, by whether the code of a layer of a number has a loop
unfoldable pub sure_after : (ℕ → Bool) → List Bool → List Layer → List Bool
sure_after loops sure [] = sure
sure_after loops sure (layer ∷ layers) = sure_after loops (sure ++ is_sure loops sure (length sure) layer ∷ []) layers

abbrev pub sure_layers : (ℕ → Bool) → Network → List Bool
sure_layers loops net = sure_after loops [] net.layers
