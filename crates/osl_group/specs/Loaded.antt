-- What a builder of groups keeps of loaded shaders.
use Rattle.std.specs.Prelude.{ℕ, List, map}
use Rattle.oso_code.specs.declared.raw.Raw.{Raw}
use Rattle.osl_network.specs.declared.port.Port.{Port}
use Rattle.osl_network.specs.Building.{Loaded}
use Rattle.osl_network.specs.Shaders.{ports_of}

-- a shader's code under the name by which it is loaded
pub record NamedCode : Type 0 where
  pub name : List ℕ
  pub code : Raw

-- what a builder sees of it
abbrev pub loaded_as : NamedCode → Loaded
loaded_as shader = record { name = shader.name; ports = ports_of shader.code }

abbrev pub loaded_of : List NamedCode → List Loaded
loaded_of shaders = map loaded_as shaders

-- the names of parameters
abbrev pub names_of : List Port → List (List ℕ)
names_of ports = map (λ port. port.name) ports
