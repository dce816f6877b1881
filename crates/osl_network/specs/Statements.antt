-- The group that statements give, or the first statement that is refused.
use Rattle.std.specs.Prelude.{ℕ, ◌+◌, List, [], ◌∷◌, length, Option, None, Some}
use Rattle.osl_network.specs.declared.refusal.GroupError.{GroupError}
use Rattle.osl_network.specs.declared.statement.Statement.{Statement}
use Rattle.osl_network.specs.declared.statement.Statement.TheVariants.{Param, Shader, Connect, Output}
use Rattle.osl_network.specs.Building.{Loaded, Building, with_waiting, layer_refused, with_layer, connect_refused, connected, ask_refused, asked_too, end_refused}
use Rattle.osl_network.specs.Network.{Network}

-- a builder that has shaders alone
abbrev pub begun : List Loaded → Building
begun shaders = record { loaded = shaders; waiting = []; net = record { layers = []; asked = [] } }

-- when a statement is refused, and what it makes where it is not
abbrev pub refusal : Statement → Building → Option GroupError
refusal (Param name value lockgeom) b = None
refusal (Shader shader layer) b = layer_refused shader layer b
refusal (Connect src_layer src_param dst_layer dst_param) b = connect_refused src_layer src_param dst_layer dst_param b.net
refusal (Output layer param) b = ask_refused layer param b.net

abbrev pub after_statement : Statement → Building → Building
after_statement (Param name value lockgeom) b = with_waiting (record { name = name; value = value; lockgeom = lockgeom }) b
after_statement (Shader shader layer) b = with_layer shader layer b
after_statement (Connect src_layer src_param dst_layer dst_param) b = record b { net = connected src_layer src_param dst_layer dst_param b.net }
after_statement (Output layer param) b = record b { net = asked_too layer param b.net }

-- how far statements go: the builder after all of them, or the first that is refused, by its number and its cause, and the builder after those before it
pub data Progress : Type 0 where
  Done : Building → Progress
  Stops : ℕ → GroupError → Building → Progress

-- from the statement of a number on
unfoldable pub progress : ℕ → Building → List Statement → Progress
progress at b [] = Done b
progress at b (statement ∷ rest) = elim (refusal statement b) [ Some error ↦ Stops at error b | None ↦ progress (at + 1) (after_statement statement b) rest ]

pub data Built : Type 0 where
  Makes : Network → Built
  -- the number of a statement, counted from 1, and why
  Refuses : ℕ → GroupError → Built

-- that there is no layer counts as the statement after the last
abbrev pub ended : ℕ → Building → Built
ended last b = elim (end_refused b.net) [ None ↦ Makes b.net | Some error ↦ Refuses (last + 1) error ]

abbrev pub built_by : ℕ → Progress → Built
built_by last (Done b) = ended last b
built_by last (Stops at error b) = Refuses at error

-- The group that these statements give over these shaders, or the first refused statement and its cause.
abbrev pub builds : List Statement → List Loaded → Built
builds statements shaders = built_by (length statements) (progress 1 (begun shaders) statements)
