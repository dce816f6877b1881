-- Runs of code: what parameters start at, the order of reads, sections of defaults, branches, loops with their budget, calls and what leaves them.
use Rattle.std.proofs.Common.{◌≡◌, ℕ, refl}
use Rattle.std.specs.Int.{int_wrap}
use Rattle.std.specs.Prelude.{◌==◌, Bool, true, false, if◌then◌else◌, ℤ, pos, neg_ℤ, List, [], ◌∷◌, length, map, codes, Option, None, Some}
use Rattle.osl_value.specs.declared.op_name.OpName.{OpName}
use Rattle.osl_value.specs.declared.op_name.OpName.TheVariants as op
use Rattle.osl_value.specs.declared.point.Point.{Point}
use Rattle.osl_value.specs.declared.shader_kind.ShaderKind.TheVariants as kinds
use Rattle.osl_value.specs.declared.types.Base.TheVariants as base
use Rattle.osl_value.specs.declared.types.Ty.{Ty}
use Rattle.osl_value.specs.AnyValue.{AnyValue, with_numbers}
use Rattle.osl_value.specs.Apply.{apply}
use Rattle.osl_value.specs.Types.{only}
use Rattle.osl_layer.specs.Layer.{Input, From, Fixed, Default, Inputs, LayerResults}
use Rattle.oso_code.specs.declared.op.Op.{Op}
use Rattle.oso_code.specs.declared.op.Section.{Section}
use Rattle.oso_code.specs.declared.raw.Raw.{Raw}
use Rattle.oso_code.specs.declared.symbol.Class.{Class}
use Rattle.oso_code.specs.declared.symbol.Class.TheVariants as class
use Rattle.oso_code.specs.declared.symbol.Symbol.{Symbol}
use Rattle.oso_code.specs.CodeRun.{code_run, ops_run}
use Rattle.oso_code.specs.Run.{put, run, loop}
use Rattle.oso_code.specs.Steps.{step_of}

-- ---- code

abbrev int : Ty
int = only base.Int

abbrev an_int : ℤ → AnyValue
an_int n = with_numbers int (n ∷ [])

abbrev symbol : Class → List ℕ → Option ℤ → Symbol
symbol of name stated = record {
  class = of;
  ty = int;
  name = name;
  value = elim stated [ None ↦ None | Some n ↦ Some (record { ty = int; nums = n ∷ []; texts = [] }) ];
  metas = [];
}

-- two parameters, an output that starts at 1, the constants 1, 2 and 3, a temporary symbol and a local one
abbrev symbols : List Symbol
symbols =
    symbol class.Param (codes "a") (Some (pos 7))
    ∷ symbol class.Param (codes "b") (Some (pos 0))
    ∷ symbol class.Oparam (codes "r") (Some (pos 1))
    ∷ symbol class.Const (codes "one") (Some (pos 1))
    ∷ symbol class.Const (codes "two") (Some (pos 2))
    ∷ symbol class.Const (codes "three") (Some (pos 3))
    ∷ symbol class.Temp (codes "t") None
    ∷ symbol class.Local (codes "i") None
    ∷ []

abbrev a : ℕ
a = 0

abbrev b : ℕ
b = 1

abbrev r : ℕ
r = 2

abbrev one : ℕ
one = 3

abbrev two : ℕ
two = 4

abbrev three : ℕ
three = 5

abbrev t : ℕ
t = 6

abbrev i : ℕ
i = 7

abbrev plain : OpName → List ℕ → Op
plain name args = record { name = name; args = args; jumps = [] }

abbrev jumping : OpName → List ℕ → List ℕ → Op
jumping name args jumps = record { name = name; args = args; jumps = jumps }

abbrev section : Option ℕ → ℕ → ℕ → Section
section param start end = record { param = param; start = start; end = end }

abbrev code : List Section → List Op → Raw
code sections ops = record { kind = kinds.Shader; name = codes "s"; metas = []; symbols = symbols; sections = sections; ops = ops }

-- a body alone
abbrev body : List Op → Raw
body ops = code (section None 0 (length ops) ∷ []) ops

-- ---- inputs and results

abbrev here : Point
here = record { p = []; n = []; ng = []; i = []; u = pos 0; v = pos 0 }

abbrev defaults : Inputs
defaults k = Default

abbrev with_input : ℕ → Input → Inputs
with_input at given k = if k == at then given else Default

abbrev with_inputs : Input → Input → Inputs
with_inputs of_a of_b k = if k == 0 then of_a else if k == 1 then of_b else Default

abbrev results : Raw → Inputs → ℕ → Option LayerResults
results raw inputs budget = (code_run raw inputs here budget).results

abbrev gives : ℕ → Option LayerResults
gives n = Some (record { outputs = None ∷ None ∷ Some (an_int (pos n)) ∷ []; closure = [] })

-- whether parameters 0 and 1 were read
abbrev reads : Raw → Inputs → List Bool
reads raw inputs = map (code_run raw inputs here 0).reads (0 ∷ 1 ∷ [])

-- ---- what symbols start at

abbrev nothing : Raw
nothing = body []

output_default : results nothing defaults 0 ≡ (gives 1)
unfolding code_run ops_run run loop put step_of apply int_wrap
output_default = refl

output_given : results nothing (with_input 2 (Fixed (an_int (pos 5)))) 0 ≡ (gives 5)
unfolding code_run ops_run run loop put step_of apply int_wrap
output_given = refl

abbrev sum : Raw
sum = body (plain op.Add (r ∷ a ∷ one ∷ []) ∷ [])

by_default : results sum defaults 0 ≡ (gives 8)
unfolding code_run ops_run run loop put step_of apply int_wrap
by_default = refl

by_instance : results sum (with_input 0 (Fixed (an_int (pos 20)))) 0 ≡ (gives 21)
unfolding code_run ops_run run loop put step_of apply int_wrap
by_instance = refl

by_connection : results sum (with_input 0 (From (Some (an_int (pos 30))))) 0 ≡ (gives 31)
unfolding code_run ops_run run loop put step_of apply int_wrap
by_connection = refl

by_nothing : results sum (with_input 0 (From None)) 0 ≡ None
unfolding code_run ops_run run loop put step_of apply int_wrap
by_nothing = refl

local_is_zero : results (body (plain op.Add (r ∷ i ∷ t ∷ []) ∷ [])) defaults 0 ≡ (gives 0)
unfolding code_run ops_run run loop put step_of apply int_wrap
local_is_zero = refl

-- ---- reads, from left to right

abbrev two_reads : Raw
two_reads = body (plain op.Add (r ∷ a ∷ b ∷ []) ∷ [])

first_is_nothing : reads two_reads (with_inputs (From None) (From (Some (an_int (pos 1))))) ≡ (true ∷ false ∷ [])
unfolding code_run ops_run run loop put step_of apply int_wrap
first_is_nothing = refl

second_is_nothing : reads two_reads (with_inputs (From (Some (an_int (pos 1)))) (From None)) ≡ (true ∷ true ∷ [])
unfolding code_run ops_run run loop put step_of apply int_wrap
second_is_nothing = refl

only_connected : reads two_reads (with_inputs Default (From (Some (an_int (pos 1))))) ≡ (false ∷ true ∷ [])
unfolding code_run ops_run run loop put step_of apply int_wrap
only_connected = refl

instance_is_not_noted : reads two_reads (with_inputs (Fixed (an_int (pos 1))) (Fixed (an_int (pos 1)))) ≡ (false ∷ false ∷ [])
unfolding code_run ops_run run loop put step_of apply int_wrap
instance_is_not_noted = refl

nothing_is_read : reads nothing (with_inputs (From None) (From None)) ≡ (false ∷ false ∷ [])
unfolding code_run ops_run run loop put step_of apply int_wrap
nothing_is_read = refl

nothing_is_needed : results nothing (with_inputs (From None) (From None)) 0 ≡ (gives 1)
unfolding code_run ops_run run loop put step_of apply int_wrap
nothing_is_needed = refl

-- ---- sections of defaults: run where the input is the default, before the body

abbrev with_default : Raw
with_default = code (section (Some 0) 0 1 ∷ section None 1 2 ∷ []) (plain op.Add (a ∷ one ∷ one ∷ []) ∷ plain op.Add (r ∷ a ∷ one ∷ []) ∷ [])

default_run : results with_default defaults 0 ≡ (gives 3)
unfolding code_run ops_run run loop put step_of apply int_wrap
default_run = refl

default_of_instance : results with_default (with_input 0 (Fixed (an_int (pos 20)))) 0 ≡ (gives 21)
unfolding code_run ops_run run loop put step_of apply int_wrap
default_of_instance = refl

default_of_connection : results with_default (with_input 0 (From (Some (an_int (pos 30))))) 0 ≡ (gives 31)
unfolding code_run ops_run run loop put step_of apply int_wrap
default_of_connection = refl

default_ops : ops_run with_default defaults here 0 ≡ 2
unfolding code_run ops_run run loop put step_of apply int_wrap
default_ops = refl

instance_ops : ops_run with_default (with_input 0 (Fixed (an_int (pos 20)))) here 0 ≡ 1
unfolding code_run ops_run run loop put step_of apply int_wrap
instance_ops = refl

exit_in_default : results (code (section (Some 0) 0 1 ∷ section None 1 2 ∷ []) (plain op.Exit ([]) ∷ plain op.Assign (r ∷ two ∷ []) ∷ [])) defaults 0 ≡ (gives 1)
unfolding code_run ops_run run loop put step_of apply int_wrap
exit_in_default = refl

return_in_default : results (code (section (Some 0) 0 1 ∷ section None 1 2 ∷ []) (plain op.Return ([]) ∷ plain op.Assign (r ∷ two ∷ []) ∷ [])) defaults 0 ≡ (gives 1)
unfolding code_run ops_run run loop put step_of apply int_wrap
return_in_default = refl

-- ---- branches: any int but 0

abbrev branch : Raw
branch = body (jumping op.If (a ∷ []) (2 ∷ 3 ∷ []) ∷ plain op.Assign (r ∷ two ∷ []) ∷ plain op.Assign (r ∷ three ∷ []) ∷ [])

holds : results branch defaults 0 ≡ (gives 2)
unfolding code_run ops_run run loop put step_of apply int_wrap
holds = refl

fails : results branch (with_input 0 (Fixed (an_int (pos 0)))) 0 ≡ (gives 3)
unfolding code_run ops_run run loop put step_of apply int_wrap
fails = refl

holds_below_zero : results branch (with_input 0 (Fixed (an_int (neg_ℤ (pos 1))))) 0 ≡ (gives 2)
unfolding code_run ops_run run loop put step_of apply int_wrap
holds_below_zero = refl

condition_is_nothing : results branch (with_input 0 (From None)) 0 ≡ None
unfolding code_run ops_run run loop put step_of apply int_wrap
condition_is_nothing = refl

branch_ops : ops_run branch defaults here 0 ≡ 2
unfolding code_run ops_run run loop put step_of apply int_wrap
branch_ops = refl

-- ---- loops: a turn of the budget before each body

abbrev count_while : Raw
count_while = body (jumping op.While (t ∷ []) (2 ∷ 4 ∷ []) ∷ plain op.Lt (t ∷ i ∷ three ∷ []) ∷ plain op.Add (r ∷ r ∷ one ∷ []) ∷ plain op.Add (i ∷ i ∷ one ∷ []) ∷ [])

while_3 : results count_while defaults 3 ≡ (gives 4)
unfolding code_run ops_run run loop put step_of apply int_wrap
while_3 = refl

while_2 : results count_while defaults 2 ≡ None
unfolding code_run ops_run run loop put step_of apply int_wrap
while_2 = refl

while_9 : results count_while defaults 9 ≡ (gives 4)
unfolding code_run ops_run run loop put step_of apply int_wrap
while_9 = refl

while_ops : ops_run count_while defaults here 3 ≡ 11
unfolding code_run ops_run run loop put step_of apply int_wrap
while_ops = refl

abbrev count_for : Raw
count_for = body (jumping op.For (t ∷ []) (2 ∷ 3 ∷ 4 ∷ []) ∷ plain op.Lt (t ∷ i ∷ three ∷ []) ∷ plain op.Add (r ∷ r ∷ one ∷ []) ∷ plain op.Add (i ∷ i ∷ one ∷ []) ∷ [])

for_3 : results count_for defaults 3 ≡ (gives 4)
unfolding code_run ops_run run loop put step_of apply int_wrap
for_3 = refl

for_2 : results count_for defaults 2 ≡ None
unfolding code_run ops_run run loop put step_of apply int_wrap
for_2 = refl

abbrev continue_for : Raw
continue_for = body (jumping op.For (t ∷ []) (2 ∷ 4 ∷ 5 ∷ []) ∷ plain op.Lt (t ∷ i ∷ three ∷ []) ∷ plain op.Continue ([]) ∷ plain op.Add (r ∷ r ∷ one ∷ []) ∷ plain op.Add (i ∷ i ∷ one ∷ []) ∷ [])

continue_for_3 : results continue_for defaults 3 ≡ (gives 1)
unfolding code_run ops_run run loop put step_of apply int_wrap
continue_for_3 = refl

continue_for_2 : results continue_for defaults 2 ≡ None
unfolding code_run ops_run run loop put step_of apply int_wrap
continue_for_2 = refl

break_leaves_before_the_step : results (body (jumping op.For (one ∷ []) (1 ∷ 2 ∷ 3 ∷ []) ∷ plain op.Break ([]) ∷ plain op.Add (r ∷ r ∷ one ∷ []) ∷ [])) defaults 1 ≡ (gives 1)
unfolding code_run ops_run run loop put step_of apply int_wrap
break_leaves_before_the_step = refl

no_turn_for_a_break : results (body (jumping op.For (one ∷ []) (1 ∷ 2 ∷ 3 ∷ []) ∷ plain op.Break ([]) ∷ plain op.Add (r ∷ r ∷ one ∷ []) ∷ [])) defaults 0 ≡ None
unfolding code_run ops_run run loop put step_of apply int_wrap
no_turn_for_a_break = refl

abbrev count_do : Raw
count_do = body (jumping op.DoWhile (t ∷ []) (2 ∷ 3 ∷ []) ∷ plain op.Add (r ∷ r ∷ one ∷ []) ∷ plain op.Lt (t ∷ r ∷ three ∷ []) ∷ [])

do_2 : results count_do defaults 2 ≡ (gives 3)
unfolding code_run ops_run run loop put step_of apply int_wrap
do_2 = refl

do_1 : results count_do defaults 1 ≡ None
unfolding code_run ops_run run loop put step_of apply int_wrap
do_1 = refl

do_0 : results count_do defaults 0 ≡ None
unfolding code_run ops_run run loop put step_of apply int_wrap
do_0 = refl

continue_do : results (body (jumping op.DoWhile (t ∷ []) (3 ∷ 4 ∷ []) ∷ plain op.Add (r ∷ r ∷ one ∷ []) ∷ plain op.Continue ([]) ∷ plain op.Lt (t ∷ r ∷ three ∷ []) ∷ [])) defaults 2 ≡ (gives 3)
unfolding code_run ops_run run loop put step_of apply int_wrap
continue_do = refl

break_do : results (body (jumping op.DoWhile (t ∷ []) (3 ∷ 4 ∷ []) ∷ plain op.Add (r ∷ r ∷ one ∷ []) ∷ plain op.Break ([]) ∷ plain op.Lt (t ∷ r ∷ three ∷ []) ∷ [])) defaults 1 ≡ (gives 2)
unfolding code_run ops_run run loop put step_of apply int_wrap
break_do = refl

never_done : results (body (jumping op.While (i ∷ []) (1 ∷ 2 ∷ []) ∷ plain op.Assign (r ∷ two ∷ []) ∷ [])) defaults 0 ≡ (gives 1)
unfolding code_run ops_run run loop put step_of apply int_wrap
never_done = refl

budget_is_one : results (body (jumping op.DoWhile (i ∷ []) (1 ∷ 1 ∷ []) ∷ jumping op.DoWhile (i ∷ []) (2 ∷ 2 ∷ []) ∷ plain op.Assign (r ∷ two ∷ []) ∷ [])) defaults 1 ≡ None
unfolding code_run ops_run run loop put step_of apply int_wrap
budget_is_one = refl

-- a test that fails takes no turn, so the next loop has it
abbrev two_loops : Raw
two_loops = body (jumping op.While (i ∷ []) (1 ∷ 2 ∷ []) ∷ plain op.Assign (r ∷ two ∷ []) ∷ jumping op.DoWhile (i ∷ []) (4 ∷ 4 ∷ []) ∷ plain op.Assign (r ∷ three ∷ []) ∷ [])

no_turn_for_a_test : results two_loops defaults 1 ≡ (gives 3)
unfolding code_run ops_run run loop put step_of apply int_wrap
no_turn_for_a_test = refl

no_turn_is_left : results two_loops defaults 0 ≡ None
unfolding code_run ops_run run loop put step_of apply int_wrap
no_turn_is_left = refl

-- ---- calls, and what leaves them

call_end : results (body (jumping op.FunctionCall ([]) (2 ∷ []) ∷ plain op.Assign (r ∷ two ∷ []) ∷ plain op.Add (r ∷ r ∷ one ∷ []) ∷ [])) defaults 0 ≡ (gives 3)
unfolding code_run ops_run run loop put step_of apply int_wrap
call_end = refl

return_leaves_the_call : results (body (jumping op.FunctionCall ([]) (3 ∷ []) ∷ plain op.Return ([]) ∷ plain op.Assign (r ∷ two ∷ []) ∷ plain op.Add (r ∷ r ∷ one ∷ []) ∷ [])) defaults 0 ≡ (gives 2)
unfolding code_run ops_run run loop put step_of apply int_wrap
return_leaves_the_call = refl

return_leaves_the_loop_too : results (body (jumping op.FunctionCall ([]) (4 ∷ []) ∷ jumping op.While (a ∷ []) (2 ∷ 4 ∷ []) ∷ plain op.Return ([]) ∷ plain op.Assign (r ∷ three ∷ []) ∷ plain op.Add (r ∷ r ∷ one ∷ []) ∷ [])) defaults 1 ≡ (gives 2)
unfolding code_run ops_run run loop put step_of apply int_wrap
return_leaves_the_loop_too = refl

return_leaves_one_call : results (body (jumping op.FunctionCall ([]) (4 ∷ []) ∷ jumping op.FunctionCall ([]) (3 ∷ []) ∷ plain op.Return ([]) ∷ plain op.Assign (r ∷ two ∷ []) ∷ plain op.Add (r ∷ r ∷ one ∷ []) ∷ [])) defaults 0 ≡ (gives 3)
unfolding code_run ops_run run loop put step_of apply int_wrap
return_leaves_one_call = refl

return_leaves_the_layer : results (body (plain op.Return ([]) ∷ plain op.Assign (r ∷ two ∷ []) ∷ [])) defaults 0 ≡ (gives 1)
unfolding code_run ops_run run loop put step_of apply int_wrap
return_leaves_the_layer = refl

exit_leaves_the_layer : results (body (jumping op.FunctionCall ([]) (3 ∷ []) ∷ jumping op.FunctionCall ([]) (3 ∷ []) ∷ plain op.Exit ([]) ∷ plain op.Assign (r ∷ two ∷ []) ∷ [])) defaults 0 ≡ (gives 1)
unfolding code_run ops_run run loop put step_of apply int_wrap
exit_leaves_the_layer = refl

exit_leaves_the_loop : results (body (jumping op.While (a ∷ []) (1 ∷ 2 ∷ []) ∷ plain op.Exit ([]) ∷ plain op.Assign (r ∷ two ∷ []) ∷ [])) defaults 1 ≡ (gives 1)
unfolding code_run ops_run run loop put step_of apply int_wrap
exit_leaves_the_loop = refl
