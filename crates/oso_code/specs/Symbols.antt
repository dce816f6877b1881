-- Which symbols and which metadata code may have (oso text, symbols and metadata).
use Rattle.std.specs.Prelude.{ℕ, Bool, true, false, not, ◌&&◌, ◌||◌, if◌then◌else◌, List, [], ◌∷◌, ◌++◌, Option, Some, None, take}
use Rattle.std.specs.List.{list_all, list_any}
use Rattle.std.specs.Str.{bytes_eq}
use Rattle.osl_value.specs.declared.types.Ty.{Ty}
use Rattle.osl_value.specs.Plain.{Plain}
use Rattle.osl_value.specs.Types.{same_type}
use Rattle.osl_layer.specs.declared.global.GlobalName.{GlobalName}
use Rattle.oso_code.specs.declared.raw.Raw.{Raw}
use Rattle.oso_code.specs.declared.symbol.Class.{Class}
use Rattle.oso_code.specs.declared.symbol.Class.TheVariants.{Param, Oparam, Global, Const, Local, Temp}
use Rattle.oso_code.specs.declared.symbol.Meta.{Meta}
use Rattle.oso_code.specs.declared.symbol.Symbol.{Symbol}
use Rattle.oso_code.specs.Faults.{misfits, unless}
use Rattle.osl_layer.specs.Globals.{global_named, type_of_global}
use Rattle.oso_code.specs.Holding.{is_closure, is_type, makes_up}
use Rattle.oso_code.specs.Names.{is_name, main_name}

abbrev pub is_empty : {X : Type 0} → List X → Bool
is_empty [] = true
is_empty (x ∷ xs) = false

abbrev pub is_parameter : Class → Bool
is_parameter Param = true
is_parameter Oparam = true
is_parameter Global = false
is_parameter Const = false
is_parameter Local = false
is_parameter Temp = false

abbrev pub is_global : Class → Bool
is_global Param = false
is_global Oparam = false
is_global Global = true
is_global Const = false
is_global Local = false
is_global Temp = false

-- a datum of metadata
abbrev pub datum_fits : Meta → Bool
datum_fits meta = (is_name meta.name && is_type meta.ty) && makes_up meta.ty meta.nums meta.texts

-- parameters come first, and none has the name of the body
abbrev pub parameter_fits : Bool → Symbol → Bool
parameter_fits leading symbol = not (is_parameter symbol.class) || (leading && not (bytes_eq symbol.name main_name))

abbrev pub is_global_type : Option GlobalName → Ty → Bool
is_global_type None ty = false
is_global_type (Some global) ty = same_type ty (type_of_global global)

-- a global is one of the language's, with its own type
abbrev pub global_fits : Class → List ℕ → Ty → Bool
global_fits Param name ty = true
global_fits Oparam name ty = true
global_fits Global name ty = is_global_type (global_named name) ty
global_fits Const name ty = true
global_fits Local name ty = true
global_fits Temp name ty = true

-- a constant has a value, and a parameter that is no closure
abbrev pub has_value : Class → Ty → Bool
has_value Param ty = not (is_closure ty)
has_value Oparam ty = not (is_closure ty)
has_value Global ty = false
has_value Const ty = true
has_value Local ty = false
has_value Temp ty = false

-- a value of the type, where one is wanted
abbrev pub is_value_of : Bool → Ty → Option Plain → Bool
is_value_of wanted ty None = not wanted
is_value_of wanted ty (Some v) = (wanted && not (is_closure ty)) && (same_type v.ty ty && makes_up v.ty v.nums v.texts)

-- parameters alone have metadata
abbrev pub metadata_fits : Class → List Meta → Bool
metadata_fits class metas = if is_parameter class then list_all datum_fits metas else is_empty metas

-- a symbol by itself; `leading` says that all symbols before it are parameters
abbrev pub symbol_fits : Bool → Symbol → Bool
symbol_fits leading symbol =
    ((is_name symbol.name && parameter_fits leading symbol) && (is_type symbol.ty && global_fits symbol.class symbol.name symbol.ty))
    && (is_value_of (has_value symbol.class symbol.ty) symbol.ty symbol.value && metadata_fits symbol.class symbol.metas)

-- the symbols are parameters
abbrev pub are_parameters : List Symbol → Bool
are_parameters symbols = list_all (λ symbol. is_parameter symbol.class) symbols

-- one of the symbols has the name
abbrev pub is_taken : List Symbol → List ℕ → Bool
is_taken symbols name = list_any (λ symbol. bytes_eq name symbol.name) symbols

-- a symbol after others
abbrev pub fits_behind : List Symbol → Symbol → Bool
fits_behind before symbol = symbol_fits (are_parameters before) symbol && not (is_taken before symbol.name)

abbrev pub symbol_at_fits : List Symbol → ℕ → Symbol → Bool
symbol_at_fits symbols k symbol = fits_behind (take k symbols) symbol

-- the shader's own name and metadata
abbrev pub header_fits : Raw → Bool
header_fits raw = is_name raw.name && list_all datum_fits raw.metas

abbrev pub symbol_faults : Raw → List ℕ
symbol_faults raw = unless (header_fits raw) 0 ++ misfits (symbol_at_fits raw.symbols) 0 raw.symbols
