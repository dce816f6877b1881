-- Worked values of the definitions, found by computing.
use Rattle.std.proofs.Common.{◌≡◌, ℕ, pos, List, [], ◌∷◌, length, Option, Some, None, refl}
use Rattle.std.specs.Prelude.{codes, ◌==◌, if◌then◌else◌, ℤ}
use Rattle.osl_value.specs.declared.op_name.OpName.{OpName}
use Rattle.osl_value.specs.declared.op_name.OpName.TheVariants as O
use Rattle.osl_value.specs.declared.point.Point.{Point}
use Rattle.osl_value.specs.declared.types.Base.TheVariants.{Int, Float}
use Rattle.osl_value.specs.AnyValue.{AnyValue, Of}
use Rattle.osl_value.specs.Apply.{apply, is_allowed}
use Rattle.osl_value.specs.Plain.{Plain}
use Rattle.osl_value.specs.Types.{only}
use Rattle.oso_code.specs.declared.error.FlawKind.TheVariants as K
use Rattle.oso_code.specs.declared.op.Op.{Op}
use Rattle.oso_code.specs.declared.raw.Raw.{Raw}
use Rattle.osl_value.specs.declared.shader_kind.ShaderKind.TheVariants.{Shader}
use Rattle.oso_code.specs.declared.symbol.Class.{Class}
use Rattle.oso_code.specs.declared.symbol.Class.TheVariants.{Param, Oparam, Const}
use Rattle.oso_code.specs.declared.symbol.Symbol.{Symbol}
use Rattle.osl_layer.specs.Layer.{From, Default, Inputs}
use Rattle.oso_code.specs.CodeRun.{code_run, ops_run}
use Rattle.oso_code.specs.Run.{put, loop, run}
use Rattle.oso_code.specs.Steps.{step_of}
use Rattle.oso_code.specs.Valid.{first_flaw}

-- ---- a shader with an input a, an output r, the constants 0 and 1, and these ops

abbrev float_of : ℤ → Plain
float_of units = record { ty = only Float; nums = units ∷ []; texts = [] }

abbrev int_of : ℤ → Plain
int_of n = record { ty = only Int; nums = n ∷ []; texts = [] }

abbrev symbol : Class → List ℕ → Plain → Symbol
symbol class name v = record { class = class; ty = v.ty; name = name; value = Some v; metas = [] }

abbrev shader : List Op → Raw
shader ops = record {
  kind = Shader;
  name = codes "one";
  metas = [];
  symbols =
      symbol Param (codes "a") (float_of (pos 0)) ∷ symbol Oparam (codes "r") (float_of (pos 0)) ∷ symbol Const (codes "$0") (int_of (pos 0)) ∷ symbol Const (codes "$1") (int_of (pos 1)) ∷ [];
  sections = record { param = None; start = 0; end = length ops } ∷ [];
  ops = ops;
}

abbrev op : OpName → List ℕ → List ℕ → Op
op name args jumps = record { name = name; args = args; jumps = jumps }

-- r = a
abbrev one : Raw
one = shader (op O.Assign (1 ∷ 0 ∷ []) [] ∷ [])

abbrev three : AnyValue
three = Of (float_of (pos 3000000000))

-- a is connected
abbrev a_is : Option AnyValue → Inputs
a_is given k = if k == 0 then From given else Default

abbrev defaults : Inputs
defaults k = Default

abbrev zeros : List ℤ
zeros = pos 0 ∷ pos 0 ∷ pos 0 ∷ []

abbrev origin : Point
origin = record { p = zeros; n = zeros; ng = zeros; i = zeros; u = pos 0; v = pos 0 }

-- ---- validity

valid : first_flaw one ≡ None
unfolding first_flaw step_of is_allowed
valid = refl

-- an `if` whose jump passes its section
jumps_too_far : first_flaw (shader (op O.If (2 ∷ []) (1 ∷ 2 ∷ []) ∷ [])) ≡ Some (K.Jump, 0)
unfolding first_flaw step_of is_allowed
jumps_too_far = refl

writes_constant : first_flaw (shader (op O.Assign (2 ∷ 3 ∷ []) [] ∷ [])) ≡ Some (K.Op, 0)
unfolding first_flaw step_of is_allowed
writes_constant = refl

break_outside : first_flaw (shader (op O.If (2 ∷ []) (2 ∷ 2 ∷ []) ∷ op O.Break [] [] ∷ [])) ≡ Some (K.Jump, 1)
unfolding first_flaw step_of is_allowed
break_outside = refl

break_inside : first_flaw (shader (op O.While (2 ∷ []) (1 ∷ 3 ∷ []) ∷ op O.If (2 ∷ []) (3 ∷ 3 ∷ []) ∷ op O.Break [] [] ∷ [])) ≡ None
unfolding first_flaw step_of is_allowed
break_inside = refl

-- ---- runs

given_three : (code_run one (a_is (Some three)) origin 1).results ≡ Some (record { outputs = None ∷ Some three ∷ []; closure = [] })
unfolding code_run run loop put step_of apply
given_three = refl

given_nothing : (code_run one (a_is None) origin 1).results ≡ None
unfolding code_run run loop put step_of apply
given_nothing = refl

-- a `while` on a 1 with empty ranges spends any budget
never_ends : (code_run (shader (op O.While (3 ∷ []) (1 ∷ 1 ∷ []) ∷ [])) defaults origin 3).results ≡ None
unfolding code_run run loop put step_of apply
never_ends = refl

-- a `dowhile` on a 0 with empty ranges takes one turn
one_turn : (code_run (shader (op O.DoWhile (2 ∷ []) (1 ∷ 1 ∷ []) ∷ [])) defaults origin 1).results ≡ Some (record { outputs = None ∷ Some (Of (float_of (pos 0))) ∷ []; closure = [] })
unfolding code_run run loop put step_of apply
one_turn = refl

-- ops are counted once each time that the run comes to them, whatever the turns
one_op : ops_run one defaults origin 1 ≡ 1
unfolding ops_run run loop put step_of apply
one_op = refl

two_ops : ops_run (shader (op O.DoWhile (2 ∷ []) (1 ∷ 2 ∷ []) ∷ op O.Assign (1 ∷ 0 ∷ []) [] ∷ [])) defaults origin 1 ≡ 2
unfolding ops_run run loop put step_of apply
two_ops = refl
