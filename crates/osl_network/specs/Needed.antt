-- Which layers a point needs.
use Rattle.std.specs.Prelude.{ℕ, ◌+◌, ◌==◌, Bool, false, ◌&&◌, ◌||◌, List, [], ◌∷◌, length, count_by, Option, None, Some}
use Rattle.std.specs.List.{list_any}
use Rattle.osl_layer.specs.Layer.{LayerEnd}
use Rattle.osl_network.specs.Network.{Place, Layer, Network}

-- some parameter that is connected to layer l was read
abbrev pub reads_layer : ℕ → (ℕ → Bool) → ℕ → List (Option Place) → Bool
reads_layer l reads k [] = false
reads_layer l reads k (None ∷ sources) = reads_layer l reads (k + 1) sources
reads_layer l reads k (Some place ∷ sources) = ((place.0 == l) && reads k) || reads_layer l reads (k + 1) sources

-- one of these layers is needed, and its run read layer l
abbrev pub is_read : ℕ → List Layer → List LayerEnd → List Bool → Bool
is_read l (layer ∷ layers) (end ∷ ends) (needed ∷ rest) = (needed && reads_layer l end.reads 0 layer.sources) || is_read l layers ends rest
is_read l layers ends needed = false

abbrev pub is_asked : Network → ℕ → Bool
is_asked net l = list_any (λ place. place.0 == l) net.asked

-- whether each layer is needed, from the layer of number l on: the last one, the asked ones, and each that is connected to a parameter that the run of a needed layer read. A layer is read by later ones alone
unfoldable pub needed_from : Network → ℕ → List Layer → List LayerEnd → List Bool
needed_from net l [] ends = []
needed_from net l (layer ∷ layers) [] = []
needed_from net l (layer ∷ layers) (end ∷ ends) =
    let later = needed_from net (l + 1) layers ends in
    (((l + 1 == length net.layers) || is_asked net l) || is_read l layers ends later) ∷ later

abbrev pub needed : Network → List LayerEnd → List Bool
needed net ends = needed_from net 0 net.layers ends

-- how many layers a point needs
abbrev pub needed_count : Network → List LayerEnd → ℕ
needed_count net ends = count_by (λ flag. flag) (needed net ends)
