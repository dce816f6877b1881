-- What a symbol's line says, and the line of a shader's kind and name.
use Rattle.std.specs.Prelude.{codes, ℕ, ◌==◌, if◌then◌else◌, List, [], ◌∷◌, length, find, Option, Some, None, option_map}
use Rattle.std.specs.Str.{bytes_eq}
use Rattle.osl_value.specs.declared.types.Base.TheVariants.{Closure}
use Rattle.osl_value.specs.declared.types.Ty.{Ty}
use Rattle.osl_value.specs.Plain.{Plain}
use Rattle.osl_value.specs.Types.{only}
use Rattle.osl_value.specs.declared.shader_kind.ShaderKind.{ShaderKind}
use Rattle.osl_value.specs.declared.shader_kind.ShaderKind.TheVariants as kinds
use Rattle.oso_code.specs.declared.symbol.Class.{Class}
use Rattle.oso_code.specs.declared.symbol.Class.TheVariants as classes
use Rattle.oso_code.specs.declared.symbol.Meta.{Meta}
use Rattle.oso_code.specs.declared.symbol.Symbol.{Symbol}
use Rattle.oso_code.specs.Names.{is_name}
use Rattle.oso_code.specs.Symbols.{is_parameter, has_value}
use Rattle.oso_write.specs.Names.{kind_name, class_name}
use Rattle.osl_valuetext.specs.Words.{Line}
use Rattle.oso_read.specs.Hints.{Saying}
use Rattle.osl_valuetext.specs.declared.number.Spelling.TheVariants.{Canonical}
use Rattle.osl_valuetext.specs.Literals.{◌>>=◌, each, value_at}
use Rattle.oso_read.specs.Text.{only_word}
use Rattle.osl_valuetext.specs.Types.{type_at}
use Rattle.oso_read.specs.Data.{meta_at}

-- ---- the shader

abbrev pub all_kinds : List ShaderKind
all_kinds = kinds.Surface ∷ kinds.Displacement ∷ kinds.Volume ∷ kinds.Shader ∷ []

abbrev pub kind_named : List ℕ → Option ShaderKind
kind_named word = find (λ kind. bytes_eq word (kind_name kind)) all_kinds

pub record Head : Type 0 where
  pub kind : ShaderKind
  pub name : List ℕ
  pub metas : List Meta

-- a kind and a name, with metadata
unfoldable pub head_words : Line → List Meta → Option Head
head_words [] metas = None
head_words (kind ∷ words) metas =
    kind_named kind >>= λ k. only_word words >>= λ name. if is_name name then Some (record { kind = k; name = name; metas = metas }) else None

unfoldable pub head_at : Saying → Option Head
head_at s = each meta_at s.metadata >>= head_words s.words

-- ---- symbols

abbrev pub all_classes : List Class
all_classes = classes.Param ∷ classes.Oparam ∷ classes.Global ∷ classes.Const ∷ classes.Local ∷ classes.Temp ∷ []

abbrev pub class_named : List ℕ → Option Class
class_named word = find (λ class. bytes_eq word (class_name class)) all_classes

pub record Typed : Type 0 where
  pub ty : Ty
  pub rest : Line

-- `closure` and `color` are two words; a type is what is there and what follows it
abbrev pub closure_words : Line → Option Typed
closure_words [] = None
closure_words (word ∷ words) = if bytes_eq word (codes "color") then Some (record { ty = only Closure; rest = words }) else None

unfoldable pub typed_words : Line → Option Typed
typed_words [] = None
typed_words (word ∷ words) =
    if bytes_eq word (codes "closure") then closure_words words
    else option_map (λ ty. record { ty = ty; rest = words }) (type_at word)

-- the value of a constant and of a parameter that is no closure, and no words for others
unfoldable pub start_at : Class → Ty → Line → Option (Option Plain)
start_at class ty words =
    if has_value class ty then option_map Some (value_at Canonical ty words)
    else (if length words == 0 then Some None else None)

-- metadata stands on parameters alone
unfoldable pub metas_at : Class → Line → Option (List Meta)
metas_at class metadata = if is_parameter class then each meta_at metadata else (if length metadata == 0 then Some [] else None)

-- a name, and what the symbol starts at
unfoldable pub named_at : Class → Ty → Line → List Meta → Option Symbol
named_at class ty [] metas = None
named_at class ty (name ∷ words) metas =
    if is_name name then option_map (λ value. record { class = class; ty = ty; name = name; value = value; metas = metas }) (start_at class ty words) else None

unfoldable pub class_at : List ℕ → Line → Line → Option Symbol
class_at word words metadata =
    class_named word >>= λ class. typed_words words >>= λ typed. metas_at class metadata >>= λ metas. named_at class typed.ty typed.rest metas

unfoldable pub symbol_words : Line → Line → Option Symbol
symbol_words [] metadata = None
symbol_words (word ∷ words) metadata = class_at word words metadata

unfoldable pub symbol_at : Saying → Option Symbol
symbol_at s = symbol_words s.words s.metadata
