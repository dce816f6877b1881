-- What variables and parameters begin with: zeros, lists in braces, the empty closure, defaults, connections, and the global variables.
use Rattle.std.proofs.Common.{◌≡◌, ℕ, refl, ◌∙◌}
use Rattle.std.specs.Int.{int_wrap}
use Rattle.std.specs.Prelude.{codes, ℤ, pos, negsuc, ◌==◌, if◌then◌else◌, true, false, [], ◌∷◌, None, Some}
use Rattle.osl_value.specs.declared.op_name.OpName.TheVariants as op
use Rattle.osl_value.specs.declared.closure.Primitive.TheVariants.{Emission}
use Rattle.osl_value.specs.declared.types.Ty.{Ty}
use Rattle.osl_value.specs.AnyValue.{with_text}
use Rattle.osl_value.specs.Apply.{apply}
use Rattle.osl_value.specs.Numbers.{root_by, root_of}
use Rattle.osl_layer.specs.Layer.{From, Fixed, Default, Inputs, LayerEnd}
use Rattle.osl_layer.specs.declared.global.GlobalName.TheVariants as globals
use Rattle.osl_overload.specs.declared.signature.Kind.TheVariants.{Value, Structure}
use Rattle.osl_value.specs.declared.shader_kind.ShaderKind.TheVariants as kinds
use Rattle.osl_typed.specs.declared.expr.Part.{Part}
use Rattle.osl_typed.specs.declared.expr.Root.TheVariants.{Global}
use Rattle.osl_typed.specs.declared.expr.Increment.TheVariants.{PreDecrement, PostDecrement}
use Rattle.osl_typed.specs.Ends.{in_turn, loop}
use Rattle.osl_typed.specs.Expressions.{whole}
use Rattle.osl_typed.specs.Frames.{leaves_below, leaves_before}
use Rattle.osl_typed.specs.Parts.{selected, with_selected}
use Rattle.osl_typed.specs.Selections.{types_on_the_way}
use Rattle.osl_typed.specs.SourceRun.{outputs_from, source_run}
use Rattle.osl_typed.specs.State.{in_order, leaves_at, with_leaves}
use Rattle.osl_typed.specs.Statements.{finals_from, with_elements}
use Rattle.osl_typed.proofs.Written as w
use Rattle.osl_source_tests.proofs.Words.{int, float, color, point, vector, normal, matrix, string, closure, row, units, an_int, floats, here, defaults, gives, gives_ints, spent, literal, component, text, own, read, var, global, element, with_two, new_step, old_step, lend, put_as, put, add, from_value, declare, begin_zero, count_to, by_value, by_output, function, input, output, int_outputs, shader}

-- ---- words

-- a closure of emission alone, with weight 1
abbrev glowing : LayerEnd
glowing = record {
  results = Some (record {
    outputs = None ∷ [];
    closure = record { weight = units 1 ∷ units 1 ∷ units 1 ∷ []; prim = Emission; normal = pos 0 ∷ pos 0 ∷ pos 0 ∷ []; number = pos 0; text = [] } ∷ [];
  });
  reads = λ k. false;
}

abbrev set_closure : w.Known → w.Does
set_closure a = w.evaluate (w.set (Global globals.Ci) (whole closure) [] a)

abbrev emission : w.Known
emission = w.apply_to op.ClEmission closure []

-- the instance value of a parameter
abbrev with_value_at : ℕ → ℤ → Inputs
with_value_at at n = λ k. if k == at then Fixed (an_int n) else Default

-- ---- surface zeros(output int i = 1, output string s = "x", output color c = 1, output matrix m = matrix(1))
-- { int a; string b; color d; matrix e; closure color f; i = a; s = b; c = d; m = e; Ci = emission(); Ci = f; }

abbrev zeros : w.Whole
zeros = record (shader []
    (output int (literal 1) ∷ output string (text (codes "x")) ∷ output color (w.promote color (literal 1)) ∷ output matrix (w.apply_to op.Matrix matrix (literal 1 ∷ [])) ∷ [])
    (Value int ∷ Value string ∷ Value color ∷ Value matrix ∷ Value closure ∷ [])
    (begin_zero 4 (Value int) ∷ begin_zero 5 (Value string) ∷ begin_zero 6 (Value color) ∷ begin_zero 7 (Value matrix) ∷ begin_zero 8 (Value closure)
    ∷ put 0 (var 4) ∷ put_as string 1 (read string 5) ∷ put_as color 2 (read color 6) ∷ put_as matrix 3 (read matrix 7)
    ∷ set_closure emission ∷ set_closure (read closure 8) ∷ [])) { kind = kinds.Surface }

all_zero : source_run (w.shader zeros) defaults here 0 ≡ gives (Some (an_int (pos 0)) ∷ Some (with_text string []) ∷ Some (floats color (pos 0 ∷ pos 0 ∷ pos 0 ∷ [])) ∷ Some (floats matrix (pos 0 ∷ pos 0 ∷ pos 0 ∷ pos 0 ∷ pos 0 ∷ pos 0 ∷ pos 0 ∷ pos 0 ∷ pos 0 ∷ pos 0 ∷ pos 0 ∷ pos 0 ∷ pos 0 ∷ pos 0 ∷ pos 0 ∷ pos 0 ∷ [])) ∷ [])
unfolding leaves_below leaves_before leaves_at with_leaves in_order in_turn loop types_on_the_way selected with_selected finals_from with_elements outputs_from w.routines_below w.defaults_written w.run_of apply root_by root_of int_wrap
all_zero = w.runs zeros defaults here 0 ∙ refl

-- ---- shader again(output int r = 0) { for (int i = 0; i < 3; ++i) { int n; n += i; r = n; } }: n is zero each time that it is declared

abbrev again : w.Whole
again = shader []
    (int_outputs (0 ∷ []))
    (Value int ∷ Value int ∷ [])
    (count_to 1 (literal 3) (w.block (begin_zero 2 (Value int) ∷ add 2 (var 1) ∷ put 0 (var 2) ∷ [])) ∷ [])

zero_again : source_run (w.shader again) defaults here 3 ≡ gives_ints (pos 2 ∷ [])
unfolding leaves_below leaves_before leaves_at with_leaves in_order in_turn loop types_on_the_way selected with_selected finals_from with_elements outputs_from w.routines_below w.defaults_written w.run_of apply root_by root_of int_wrap
zero_again = w.runs again defaults here 3 ∙ refl

-- ---- shader pairs(output int r = 0) { int a = 3, b = a++ * 10; r = a + b; }: the variables of a declaration begin in order; 4 + 30

abbrev pairs : w.Whole
pairs = shader []
    (int_outputs (0 ∷ []))
    (Value int ∷ Value int ∷ [])
    (declare (from_value 1 (Value int) (literal 3) ∷ from_value 2 (Value int) (with_two op.Mul (old_step 1) (literal 10)) ∷ [])
    ∷ put 0 (with_two op.Add (var 1) (var 2)) ∷ [])

paired : source_run (w.shader pairs) defaults here 0 ≡ gives_ints (pos 34 ∷ [])
unfolding leaves_below leaves_before leaves_at with_leaves in_order in_turn loop types_on_the_way selected with_selected finals_from with_elements outputs_from w.routines_below w.defaults_written w.run_of apply root_by root_of int_wrap
paired = w.runs pairs defaults here 0 ∙ refl

-- ---- shader lists(output int a = 9, output int b = 9, output int c = 9, output int i = 4) { int t[3] = {i++, i}; a = t[0]; b = t[1]; c = t[2]; }: in order, and the missing element is zero

abbrev lists : w.Whole
lists = shader []
    (int_outputs (9 ∷ 9 ∷ 9 ∷ 4 ∷ []))
    (Value (row 3) ∷ [])
    (w.variable_of 4 (Value (row 3)) (old_step 3 ∷ var 3 ∷ [])
    ∷ put 0 (element (row 3) 4 (literal 0)) ∷ put 1 (element (row 3) 4 (literal 1)) ∷ put 2 (element (row 3) 4 (literal 2)) ∷ [])

listed : source_run (w.shader lists) defaults here 0 ≡ gives_ints (pos 4 ∷ pos 5 ∷ pos 0 ∷ pos 5 ∷ [])
unfolding leaves_below leaves_before leaves_at with_leaves in_order in_turn loop types_on_the_way selected with_selected finals_from with_elements outputs_from w.routines_below w.defaults_written w.run_of apply root_by root_of int_wrap
listed = w.runs lists defaults here 0 ∙ refl

-- ---- struct pair { float x; int n; };
-- shader fields(output float r = 9, output int k = 9) { pair p = {1}; r = p.x; k = p.n; }: the missing field is zero

abbrev field : ℕ → Ty → Part
field number ty = record { fields = number ∷ []; kind = Value ty; component = None }

abbrev fields : w.Whole
fields = record (shader []
    (output float (w.promote float (literal 9)) ∷ output int (literal 9) ∷ [])
    (Structure 0 ∷ [])
    (w.variable_of 2 (Structure 0) (w.promote float (literal 1) ∷ [])
    ∷ put_as float 0 (w.part (own 2) (field 0 float) [])
    ∷ put 1 (w.part (own 2) (field 1 int) []) ∷ [])) { structures = record { fields = Value float ∷ Value int ∷ [] } ∷ [] }

of_fields : source_run (w.shader fields) defaults here 0 ≡ gives (Some (floats float (units 1 ∷ [])) ∷ Some (an_int (pos 0)) ∷ [])
unfolding leaves_below leaves_before leaves_at with_leaves in_order in_turn loop types_on_the_way selected with_selected finals_from with_elements outputs_from w.routines_below w.defaults_written w.run_of apply root_by root_of int_wrap
of_fields = w.runs fields defaults here 0 ∙ refl

-- ---- surface glows(int on = 0) { closure color c = 0; Ci = emission(); Ci = c + (on ? Ci : 0); }: the literal 0 is the empty closure

abbrev glows : w.Whole
glows = record (shader []
    (input int (literal 0) ∷ [])
    (Value closure ∷ [])
    (w.variable 1 (Value closure) (w.promote closure (literal 0))
    ∷ set_closure emission
    ∷ set_closure (w.apply_to op.Add closure (read closure 1 ∷ w.paren (Value closure) (w.choose (Value closure) (var 0) (global closure globals.Ci) (w.promote closure (literal 0))) ∷ [])) ∷ [])) { kind = kinds.Surface }

dark : source_run (w.shader glows) defaults here 0 ≡ gives (None ∷ [])
unfolding leaves_below leaves_before leaves_at with_leaves in_order in_turn loop types_on_the_way selected with_selected finals_from with_elements outputs_from w.routines_below w.defaults_written w.run_of apply root_by root_of int_wrap
dark = w.runs glows defaults here 0 ∙ refl

bright : source_run (w.shader glows) (with_value_at 0 (pos 1)) here 0 ≡ glowing
unfolding leaves_below leaves_before leaves_at with_leaves in_order in_turn loop types_on_the_way selected with_selected finals_from with_elements outputs_from w.routines_below w.defaults_written w.run_of apply root_by root_of int_wrap
bright = w.runs glows (with_value_at 0 (pos 1)) here 0 ∙ refl

-- ---- int one(int n) { for (int i = 0; i < n; ++i) return 7; }
-- shader later(int a = one(2), int b = a + 1, output int r = b) { while (r < 9) r = r + 1; }: one turn in a default, and one in the body

abbrev one : w.Routine
one = function (Value int) (by_value int ∷ []) (Value int ∷ [])
    (count_to 1 (var 0) (w.give_back (literal 7)) ∷ [])

abbrev later : w.Whole
later = shader (one ∷ [])
    (input int (w.call 0 (Value int) (w.copied (literal 2) ∷ [])) ∷ input int (with_two op.Add (var 0) (literal 1)) ∷ output int (var 1) ∷ [])
    []
    (w.while_true (with_two op.Lt (var 2) (literal 9)) (put 2 (with_two op.Add (var 2) (literal 1))) ∷ [])

two_turns : source_run (w.shader later) defaults here 2 ≡ gives (None ∷ None ∷ Some (an_int (pos 9)) ∷ [])
unfolding leaves_below leaves_before leaves_at with_leaves in_order in_turn loop types_on_the_way selected with_selected finals_from with_elements outputs_from w.routines_below w.defaults_written w.run_of apply root_by root_of int_wrap
two_turns = w.runs later defaults here 2 ∙ refl

one_turn_left : source_run (w.shader later) defaults here 1 ≡ spent
unfolding leaves_below leaves_before leaves_at with_leaves in_order in_turn loop types_on_the_way selected with_selected finals_from with_elements outputs_from w.routines_below w.defaults_written w.run_of apply root_by root_of int_wrap
one_turn_left = w.runs later defaults here 1 ∙ refl

-- with the instance value 5 of a: no turn in a default, and three in the body

three_turns : source_run (w.shader later) (with_value_at 0 (pos 5)) here 3 ≡ gives (None ∷ None ∷ Some (an_int (pos 9)) ∷ [])
unfolding leaves_below leaves_before leaves_at with_leaves in_order in_turn loop types_on_the_way selected with_selected finals_from with_elements outputs_from w.routines_below w.defaults_written w.run_of apply root_by root_of int_wrap
three_turns = w.runs later (with_value_at 0 (pos 5)) here 3 ∙ refl

two_turns_left : source_run (w.shader later) (with_value_at 0 (pos 5)) here 2 ≡ spent
unfolding leaves_below leaves_before leaves_at with_leaves in_order in_turn loop types_on_the_way selected with_selected finals_from with_elements outputs_from w.routines_below w.defaults_written w.run_of apply root_by root_of int_wrap
two_turns_left = w.runs later (with_value_at 0 (pos 5)) here 2 ∙ refl

-- ---- int bump(output int a) { a += 1; return 10 * a; }
-- shader bumps(output int a = 4, output int b = bump(a)) { }: a default may assign an earlier output

abbrev bump : w.Routine
bump = function (Value int) (by_output int ∷ []) []
    (add 0 (literal 1) ∷ w.give_back (with_two op.Mul (literal 10) (var 0)) ∷ [])

abbrev bumps : w.Whole
bumps = shader (bump ∷ [])
    (output int (literal 4) ∷ output int (w.call 0 (Value int) (lend 0 ∷ [])) ∷ [])
    []
    []

bumped : source_run (w.shader bumps) defaults here 0 ≡ gives_ints (pos 5 ∷ pos 50 ∷ [])
unfolding leaves_below leaves_before leaves_at with_leaves in_order in_turn loop types_on_the_way selected with_selected finals_from with_elements outputs_from w.routines_below w.defaults_written w.run_of apply root_by root_of int_wrap
bumped = w.runs bumps defaults here 0 ∙ refl

-- ---- shader connected(output int n = 0, int a = ++n, output int r = 0) { r = a; }: the default of a connected parameter is not evaluated, and its read is noted

abbrev connected : w.Whole
connected = shader []
    (output int (literal 0) ∷ input int (new_step 0) ∷ output int (literal 0) ∷ [])
    []
    (put 2 (var 1) ∷ [])

abbrev from_five : Inputs
from_five = λ k. if k == 1 then From (Some (an_int (pos 5))) else Default

from_a_source : source_run (w.shader connected) from_five here 0 ≡ record { results = Some (record { outputs = Some (an_int (pos 0)) ∷ None ∷ Some (an_int (pos 5)) ∷ []; closure = [] }); reads = λ k. if k == 1 then true else false }
unfolding leaves_below leaves_before leaves_at with_leaves in_order in_turn loop types_on_the_way selected with_selected finals_from with_elements outputs_from w.routines_below w.defaults_written w.run_of apply root_by root_of int_wrap
from_a_source = w.runs connected from_five here 0 ∙ refl

from_its_default : source_run (w.shader connected) defaults here 0 ≡ gives (Some (an_int (pos 1)) ∷ None ∷ Some (an_int (pos 1)) ∷ [])
unfolding leaves_below leaves_before leaves_at with_leaves in_order in_turn loop types_on_the_way selected with_selected finals_from with_elements outputs_from w.routines_below w.defaults_written w.run_of apply root_by root_of int_wrap
from_its_default = w.runs connected defaults here 0 ∙ refl

-- ---- shader green(color c = 0, output float r = 0) { r = c.g; }, where c is connected: the read of a part is noted as one of the whole

abbrev green : w.Whole
green = shader []
    (input color (w.promote color (literal 0)) ∷ output float (w.promote float (literal 0)) ∷ [])
    []
    (put_as float 1 (w.part (own 0) (component 1) []) ∷ [])

abbrev from_a_color : Inputs
from_a_color = λ k. if k == 0 then From (Some (floats color (units 1 ∷ units 2 ∷ units 3 ∷ []))) else Default

green_of_a_source : source_run (w.shader green) from_a_color here 0
    ≡ record { results = Some (record { outputs = None ∷ Some (floats float (units 2 ∷ [])) ∷ []; closure = [] }); reads = λ k. if k == 0 then true else false }
unfolding leaves_below leaves_before leaves_at with_leaves in_order in_turn loop types_on_the_way selected with_selected finals_from with_elements outputs_from w.routines_below w.defaults_written w.run_of apply root_by root_of int_wrap
green_of_a_source = w.runs green from_a_color here 0 ∙ refl

-- ---- displacement pushes(output point q = 0) { P += N; P[0] = 3; q = P; }: P is read as it was assigned; the point is 0, 0, 0 and N is 0, 0, 2

abbrev pushes : w.Whole
pushes = record (shader []
    (output point (w.promote point (literal 0)) ∷ [])
    []
    (w.evaluate (w.update op.Add vector (Global globals.P) (whole point) [] (w.promote vector (global normal globals.N)))
    ∷ w.evaluate (w.set (Global globals.P) (whole point) (literal 0 ∷ []) (w.promote float (literal 3)))
    ∷ put_as point 0 (global point globals.P) ∷ [])) { kind = kinds.Displacement }

pushed : source_run (w.shader pushes) defaults here 0 ≡ gives (Some (floats point (units 3 ∷ units 0 ∷ units 2 ∷ [])) ∷ [])
unfolding leaves_below leaves_before leaves_at with_leaves in_order in_turn loop types_on_the_way selected with_selected finals_from with_elements outputs_from w.routines_below w.defaults_written w.run_of apply root_by root_of int_wrap
pushed = w.runs pushes defaults here 0 ∙ refl

-- ---- displacement early(output point q = P = 1, output float x = P[2]) { }: a default assigns P, and a later one reads it

abbrev early : w.Whole
early = record (shader []
    (output point (w.set (Global globals.P) (whole point) [] (w.promote point (literal 1))) ∷ output float (w.part (Global globals.P) (whole point) (literal 2 ∷ [])) ∷ [])
    []
    []) { kind = kinds.Displacement }

assigned_early : source_run (w.shader early) defaults here 0 ≡ gives (Some (floats point (units 1 ∷ units 1 ∷ units 1 ∷ [])) ∷ Some (floats float (units 1 ∷ [])) ∷ [])
unfolding leaves_below leaves_before leaves_at with_leaves in_order in_turn loop types_on_the_way selected with_selected finals_from with_elements outputs_from w.routines_below w.defaults_written w.run_of apply root_by root_of int_wrap
assigned_early = w.runs early defaults here 0 ∙ refl

-- ---- shader downs(output int a = 3, output int b = 0, output int c = 0, output float f = 0.5) { b = a--; c = --a; --f; f--; }: the old value and then the new one

abbrev downs : w.Whole
downs = shader []
    (output int (literal 3) ∷ output int (literal 0) ∷ output int (literal 0) ∷ output float (w.number (pos 500000000)) ∷ [])
    []
    (put 1 (w.step PostDecrement int (own 0))
    ∷ put 2 (w.step PreDecrement int (own 0))
    ∷ w.evaluate (w.step PreDecrement float (own 3))
    ∷ w.evaluate (w.step PostDecrement float (own 3)) ∷ [])

gone_down : source_run (w.shader downs) defaults here 0 ≡ gives (Some (an_int (pos 1)) ∷ Some (an_int (pos 3)) ∷ Some (an_int (pos 1)) ∷ Some (floats float (negsuc 1499999999 ∷ [])) ∷ [])
unfolding leaves_below leaves_before leaves_at with_leaves in_order in_turn loop types_on_the_way selected with_selected finals_from with_elements outputs_from w.routines_below w.defaults_written w.run_of apply root_by root_of int_wrap
gone_down = w.runs downs defaults here 0 ∙ refl
