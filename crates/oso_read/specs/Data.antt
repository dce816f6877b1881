-- Words that are data of metadata.
use Rattle.std.specs.Prelude.{codes, ℕ, ◌-◌, nat_le, Bool, ◌&&◌, ◌==◌, if◌then◌else◌, List, [], ◌∷◌, length, take, drop, Option, Some, None, option_map, slice_index}
use Rattle.std.specs.Str.{bytes_eq}
use Rattle.osl_value.specs.declared.types.Base.TheVariants.{Closure}
use Rattle.osl_value.specs.declared.types.Ty.{Ty}
use Rattle.osl_value.specs.Types.{base_name, only}
use Rattle.oso_code.specs.declared.symbol.Meta.{Meta}
use Rattle.oso_code.specs.Names.{is_name}
use Rattle.osl_valuetext.specs.declared.number.Spelling.TheVariants.{Canonical}
use Rattle.osl_valuetext.specs.declared.place.Place.TheVariants.{Open}
use Rattle.osl_valuetext.specs.Words.{Line}
use Rattle.osl_valuetext.specs.Splitting.{pieces, is_comma}
use Rattle.osl_valuetext.specs.Literals.{◌>>=◌, string_at, values_at}
use Rattle.osl_valuetext.specs.Types.{type_at}

-- the type of a datum, which may be `closure color`, with its blank
unfoldable pub meta_type_at : List ℕ → Option Ty
meta_type_at word = if bytes_eq word (base_name Closure) then Some (only Closure) else type_at word

-- a datum's type, name and values
unfoldable pub datum_of : Line → Option Meta
datum_of [] = None
datum_of (ty ∷ []) = None
datum_of (ty ∷ name ∷ values) =
    meta_type_at ty >>= λ t. if is_name name then option_map (λ v. record { ty = t; name = name; nums = v.nums; texts = v.texts }) (values_at Canonical string_at t values) else None

-- `%meta{` and `}` round something
abbrev pub is_meta : List ℕ → Bool
is_meta word = (nat_le 7 (length word) && bytes_eq (take 6 word) (codes "%meta{")) && (slice_index word (length word - 1) == 125)

-- what is in the braces
abbrev pub in_braces : List ℕ → List ℕ
in_braces word = take (length word - 7) (drop 6 word)

-- the datum of a hint: its fields are parted by commas
unfoldable pub meta_at : List ℕ → Option Meta
meta_at word = if is_meta word then datum_of (pieces is_comma Open (in_braces word)) else None
