-- How a group is built, call by call: when each is refused, and what it makes (OSL's shader groups: `Parameter`, `Shader`, `ConnectShaders`).
use Rattle.std.specs.Prelude.{ℕ, ◌+◌, nat_lt, nat_le, Bool, false, not, ◌||◌, if◌then◌else◌, List, [], ◌∷◌, ◌++◌, map, length, sum_by, Option, None, Some, is_some, is_none, option_map, option_and_then, unwrap_or, slice_get, slice_set, find, position}
use Rattle.std.specs.List.{list_any}
use Rattle.std.specs.Str.{bytes_eq}
use Rattle.osl_value.specs.declared.types.Base.TheVariants.{Float, Closure}
use Rattle.osl_value.specs.AnyValue.{is_assignable}
use Rattle.osl_value.specs.Plain.{Plain}
use Rattle.osl_value.specs.Types.{only, same_base, same_type, slot_count}
use Rattle.osl_network.specs.declared.refusal.GroupError.{GroupError}
use Rattle.osl_network.specs.declared.refusal.GroupError.TheVariants.{SameShader, NoShader, SameLayer, NoLayer, NoParam, NotOutput, NotInput, NotUpstream, WrongType, Connected, TooMany, Empty}
use Rattle.osl_network.specs.declared.port.Port.{Port}
use Rattle.osl_network.specs.Network.{Place, Layer, Network, layer_at, port_at, source_at, layer_named, place_named}

-- ---- what a builder holds

-- a shader that layers may be instances of
pub record Loaded : Type 0 where
  pub name : List ℕ
  pub ports : List Port

-- an instance value that waits for the next layer
pub record Waiting : Type 0 where
  pub name : List ℕ
  pub value : Plain
  -- whether the parameter is locked, if it was said
  pub lockgeom : Option Bool

pub record Building : Type 0 where
  pub loaded : List Loaded
  pub waiting : List Waiting
  pub net : Network

-- the first in order of conditions that holds refuses
abbrev pub first_of : List (Bool × GroupError) → Option GroupError
first_of [] = None
first_of (cause ∷ causes) = if cause.0 then Some cause.1 else first_of causes

-- ---- limits

-- the most layers of a group, the most outputs that are asked, and the most slots of these
abbrev pub most_layers : ℕ
most_layers = 64

abbrev pub most_asked : ℕ
most_asked = 64

abbrev pub most_asked_slots : ℕ
most_asked_slots = 256

-- ---- load: a shader

abbrev pub shader_named : List Loaded → List ℕ → Option ℕ
shader_named loaded name = position (λ shader. bytes_eq name shader.name) loaded

abbrev pub load_refused : List ℕ → Building → Option GroupError
load_refused name b = first_of ((is_some (shader_named b.loaded name), SameShader) ∷ [])

abbrev pub with_shader : List ℕ → List Port → Building → Building
with_shader name ports b = record b { loaded = b.loaded ++ record { name = name; ports = ports } ∷ [] }

-- ---- parameter: a value waits; of two of one name the later counts

abbrev pub waiting_with : Waiting → List Waiting → List Waiting
waiting_with new [] = new ∷ []
waiting_with new (old ∷ rest) = if bytes_eq new.name old.name then new ∷ rest else old ∷ waiting_with new rest

abbrev pub with_waiting : Waiting → Building → Building
with_waiting new b = record b { waiting = waiting_with new b.waiting }

-- ---- clear

abbrev pub cleared : Building → Building
cleared b = record b { waiting = [] }

-- ---- shader: a layer

abbrev pub ports_of_loaded : List Loaded → ℕ → List Port
ports_of_loaded loaded n = elim (slice_get loaded n) [ None ↦ [] | Some shader ↦ shader.ports ]

-- the parameter for which a value waits
abbrev pub port_for : List Port → Waiting → Option Port
port_for ports waiting = find (λ port. bytes_eq waiting.name port.name) ports

-- it has exactly the parameter's type
abbrev pub has_type_of : Waiting → Option Port → Bool
has_type_of waiting None = false
has_type_of waiting (Some port) = same_type port.ty waiting.value.ty

abbrev pub layer_refused : List ℕ → List ℕ → Building → Option GroupError
layer_refused shader name b =
    let ports = ports_of_loaded b.loaded (unwrap_or (shader_named b.loaded shader) 0) in
    first_of (
    (is_none (shader_named b.loaded shader), NoShader)
    ∷ (is_some (layer_named b.net name), SameLayer)
    ∷ (list_any (λ waiting. is_none (port_for ports waiting)) b.waiting, NoParam)
    ∷ (list_any (λ waiting. not (has_type_of waiting (port_for ports waiting))) b.waiting, WrongType)
    ∷ (nat_le most_layers (length b.net.layers), TooMany) ∷ [])

abbrev pub waits_for : List Waiting → Port → Option Waiting
waits_for waiting port = find (λ w. bytes_eq port.name w.name) waiting

-- the parameter is interactive where `lockgeom` is 0: by what was said of it, or by the shader's own metadata
abbrev pub loose_by : (loose : Bool) → (lockgeom : Option Bool) → Bool
loose_by loose None = loose
loose_by loose (Some locked) = not locked

abbrev pub starts_interactive : List Waiting → Port → Bool
starts_interactive waiting port = loose_by port.loose (option_and_then (λ w. w.lockgeom) (waits_for waiting port))

abbrev pub starts_with : List Waiting → Port → Option Plain
starts_with waiting port = option_map (λ w. w.value) (waits_for waiting port)

-- a layer that takes the values that wait
abbrev pub new_layer : List ℕ → ℕ → List Port → List Waiting → Layer
new_layer name shader ports waiting = record {
  name = name;
  shader = shader;
  ports = ports;
  values = map (starts_with waiting) ports;
  interactive = map (starts_interactive waiting) ports;
  sources = map (λ port. None) ports;
}

abbrev pub net_with_layer : Layer → Network → Network
net_with_layer layer net = record net { layers = net.layers ++ layer ∷ [] }

abbrev pub with_layer : List ℕ → List ℕ → Building → Building
with_layer shader name b =
    let number = unwrap_or (shader_named b.loaded shader) 0 in
    record b { waiting = []; net = net_with_layer (new_layer name number (ports_of_loaded b.loaded number) b.waiting) b.net }

-- ---- connect: an output of an earlier layer to a parameter of a later one

-- what is asked of a parameter where there is none
abbrev pub no_port : Port
no_port = record { name = []; ty = only Float; output = false; loose = false }

abbrev pub port_or : Network → Place → Port
port_or net place = unwrap_or (port_at net place) no_port

-- of two places that are there
abbrev pub wire_refused : Network → Place → Place → Option GroupError
wire_refused net from to = first_of (
    (not (port_or net from).output, NotOutput)
    ∷ ((port_or net to).output, NotInput)
    ∷ (nat_le to.0 from.0, NotUpstream)
    ∷ (not (is_assignable (port_or net to).ty (port_or net from).ty), WrongType)
    ∷ (is_some (source_at net to), Connected) ∷ [])

abbrev pub both_there : Network → Option Place → Option Place → Option GroupError
both_there net None to = Some NoParam
both_there net (Some from) None = Some NoParam
both_there net (Some from) (Some to) = wire_refused net from to

abbrev pub connect_refused : List ℕ → List ℕ → List ℕ → List ℕ → Network → Option GroupError
connect_refused src_layer src_param dst_layer dst_param net =
    if is_none (layer_named net src_layer) || is_none (layer_named net dst_layer) then Some NoLayer
    else both_there net (place_named net src_layer src_param) (place_named net dst_layer dst_param)

abbrev pub layer_wired : Place → ℕ → Layer → Layer
layer_wired from k layer = record layer { sources = slice_set layer.sources k (Some from) }

abbrev pub wired : Place → Place → Network → Network
wired from to net = elim (layer_at net to.0) [
  | None ↦ net
  | Some layer ↦ record net { layers = slice_set net.layers to.0 (layer_wired from to.1 layer) }
]

abbrev pub connected : List ℕ → List ℕ → List ℕ → List ℕ → Network → Network
connected src_layer src_param dst_layer dst_param net =
    wired (unwrap_or (place_named net src_layer src_param) (0, 0)) (unwrap_or (place_named net dst_layer dst_param) (0, 0)) net

-- ---- ask: an output

abbrev pub slots_at : Network → Place → ℕ
slots_at net place = slot_count (port_or net place).ty

abbrev pub asked_slots : Network → ℕ
asked_slots net = sum_by (slots_at net) net.asked

abbrev pub output_refused : Network → Place → Option GroupError
output_refused net place = first_of (
    (not (port_or net place).output, NotOutput)
    ∷ (same_base (port_or net place).ty.base Closure, WrongType)
    ∷ (nat_le most_asked (length net.asked) || nat_lt most_asked_slots (asked_slots net + slots_at net place), TooMany) ∷ [])

abbrev pub ask_refused : List ℕ → List ℕ → Network → Option GroupError
ask_refused layer param net =
    if is_none (layer_named net layer) then Some NoLayer
    else elim (place_named net layer param) [ None ↦ Some NoParam | Some place ↦ output_refused net place ]

abbrev pub asked_too : List ℕ → List ℕ → Network → Network
asked_too layer param net = record net { asked = net.asked ++ unwrap_or (place_named net layer param) (0, 0) ∷ [] }

-- ---- end

abbrev pub end_refused : Network → Option GroupError
end_refused net = first_of ((nat_le (length net.layers) 0, Empty) ∷ [])
