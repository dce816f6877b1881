-- What is known of a layer's inputs, what an op meets when it reads, and which inputs fit.
use Rattle.std.specs.Prelude.{◌≡◌, ℕ, Bool, true, false, List, [], ◌∷◌, Option, Some, None, slice_get}
use Rattle.osl_value.specs.AnyValue.{AnyValue, argument}
use Rattle.osl_layer.specs.Layer as L
use Rattle.osl_interp.specs.declared.known.Known.{Known}
use Rattle.osl_interp.specs.declared.known.Known.TheVariants.{Default, Fixed, Waiting, Given, Nothing}
use Rattle.osl_interp.specs.declared.known.Met.{Met}
use Rattle.osl_interp.specs.declared.known.Met.TheVariants as M

-- what reading meets at a symbol, and else at those behind it
abbrev pub met_at : Option Known → ℕ → Met → Met
met_at None k behind = behind
met_at (Some Default) k behind = behind
met_at (Some Fixed) k behind = behind
met_at (Some Waiting) k behind = M.Waiting k
met_at (Some Given) k behind = behind
met_at (Some Nothing) k behind = M.Missing

abbrev pub met : List Known → List ℕ → Met
met known [] = M.All
met known (k ∷ ks) = met_at (slice_get known k) k (met known ks)

abbrev pub is_default : Option Known → Bool
is_default None = false
is_default (Some Default) = true
is_default (Some Fixed) = false
is_default (Some Waiting) = false
is_default (Some Given) = false
is_default (Some Nothing) = false

-- whether the section of a parameter, or of the body, is run
abbrev pub is_default_at : List Known → Option ℕ → Bool
is_default_at known None = true
is_default_at known (Some p) = is_default (slice_get known p)

abbrev pub is_wired : Option Known → Bool
is_wired None = false
is_wired (Some Default) = false
is_wired (Some Fixed) = false
is_wired (Some Waiting) = true
is_wired (Some Given) = true
is_wired (Some Nothing) = true

-- whether a symbol is a connected parameter
abbrev pub is_wired_at : List Known → ℕ → Bool
is_wired_at known k = is_wired (slice_get known k)

abbrev pub is_given : Option Known → Bool
is_given None = false
is_given (Some Default) = false
is_given (Some Fixed) = false
is_given (Some Waiting) = false
is_given (Some Given) = true
is_given (Some Nothing) = true

-- the parameters that were given are those that were read
abbrev pub given_reads : List Known → ℕ → Bool
given_reads known k = is_given (slice_get known k)

-- an input is as it is known, where `v` is what the parameter's symbol holds
abbrev pub FitsAt : L.Input → AnyValue → Option Known → Type 0
FitsAt input v None = Unit
FitsAt input v (Some Default) = input ≡ L.Default
FitsAt input v (Some Fixed) = (fixed : AnyValue) × (input ≡ L.Fixed fixed)
FitsAt input v (Some Waiting) = (given : Option AnyValue) × (input ≡ L.From given)
FitsAt input v (Some Given) = input ≡ L.From (Some v)
FitsAt input v (Some Nothing) = input ≡ L.From None

-- the inputs are as they are known
pub record Fits (inputs : L.Inputs) (known : List Known) (values : List AnyValue) : Type 0 where
  pub each : (k : ℕ) → FitsAt (inputs k) (argument values k) (slice_get known k)
