-- What the rows of flaws are written with: symbols, ops, sections and code of them.
use Rattle.std.specs.Prelude.{ℕ, ℤ, pos, neg_ℤ, List, [], ◌∷◌, codes, length, Option, None, Some}
use Rattle.osl_value.specs.declared.op_name.OpName.{OpName}
use Rattle.osl_value.specs.declared.shader_kind.ShaderKind.{ShaderKind}
use Rattle.osl_value.specs.declared.shader_kind.ShaderKind.TheVariants as kinds
use Rattle.osl_value.specs.declared.types.Base.{Base}
use Rattle.osl_value.specs.declared.types.Base.TheVariants as base
use Rattle.osl_value.specs.declared.types.Ty.{Ty}
use Rattle.osl_value.specs.Plain.{Plain}
use Rattle.osl_value.specs.Types.{only}
use Rattle.oso_code.specs.declared.op.Op.{Op}
use Rattle.oso_code.specs.declared.op.Section.{Section}
use Rattle.oso_code.specs.declared.raw.Raw.{Raw}
use Rattle.oso_code.specs.declared.symbol.Class.{Class}
use Rattle.oso_code.specs.declared.symbol.Class.TheVariants as class
use Rattle.oso_code.specs.declared.symbol.Symbol.{Symbol}

abbrev pub minus : ℕ → ℤ
minus n = neg_ℤ (pos n)

abbrev pub row : ℕ → Base → Ty
row n of = record { base = of; len = n }

abbrev pub symbol : Class → Ty → List ℕ → Option Plain → Symbol
symbol of ty name value = record { class = of; ty = ty; name = name; value = value; metas = [] }

-- a symbol with these numbers and strings
abbrev pub valued : Class → Ty → List ℕ → List ℤ → List (List ℕ) → Symbol
valued of ty name nums texts = symbol of ty name (Some (record { ty = ty; nums = nums; texts = texts }))

abbrev pub input : Symbol
input = valued class.Param (only base.Float) (codes "a") (pos 0 ∷ []) []

abbrev pub plain : OpName → List ℕ → Op
plain name args = record { name = name; args = args; jumps = [] }

abbrev pub jumping : OpName → List ℕ → List ℕ → Op
jumping name args jumps = record { name = name; args = args; jumps = jumps }

abbrev pub section : Option ℕ → ℕ → ℕ → Section
section param start end = record { param = param; start = start; end = end }

abbrev pub of_kind : ShaderKind → List Symbol → List Section → List Op → Raw
of_kind kind symbols sections ops = record { kind = kind; name = codes "one"; metas = []; symbols = symbols; sections = sections; ops = ops }

abbrev pub code : List Symbol → List Section → List Op → Raw
code = of_kind kinds.Shader

-- a body alone
abbrev pub body : List Symbol → List Op → Raw
body symbols ops = code symbols (section None 0 (length ops) ∷ []) ops
