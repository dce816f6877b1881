-- The order of evaluation: indices, operands, arguments and writes, from left to right, and what is not evaluated at all.
use Rattle.std.proofs.Common.{◌≡◌, ℕ, refl, ◌∙◌}
use Rattle.std.specs.Int.{int_wrap}
use Rattle.std.specs.Prelude.{pos, [], ◌∷◌, Some}
use Rattle.osl_value.specs.declared.op_name.OpName.TheVariants as op
use Rattle.osl_value.specs.Apply.{apply}
use Rattle.osl_value.specs.Numbers.{root_by, root_of}
use Rattle.osl_layer.specs.declared.global.GlobalName.TheVariants as globals
use Rattle.osl_overload.specs.declared.signature.Kind.TheVariants.{Value, Void}
use Rattle.osl_typed.specs.declared.expr.Increment.TheVariants.{PreDecrement}
use Rattle.osl_typed.specs.Ends.{in_turn, loop}
use Rattle.osl_typed.specs.Expressions.{whole}
use Rattle.osl_typed.specs.Frames.{leaves_below, leaves_before}
use Rattle.osl_typed.specs.Parts.{selected, with_selected}
use Rattle.osl_typed.specs.Selections.{types_on_the_way}
use Rattle.osl_typed.specs.SourceRun.{outputs_from, source_run}
use Rattle.osl_typed.specs.State.{in_order, leaves_at, with_leaves}
use Rattle.osl_typed.specs.Statements.{finals_from, with_elements}
use Rattle.osl_typed.proofs.Written as w
use Rattle.osl_source_tests.proofs.Words.{int, float, color, point, vector, normal, matrix, row, units, an_int, floats, here, defaults, gives, gives_ints, literal, component, own, var, global, element, with_two, minus, set_to, add_to, set_at, new_step, old_step, lend, lend_at, put_as, put, add, begin_zero, by_value, by_output, function, output, int_outputs, shader, more}

-- ---- shader targets(output int a = 0, output int b = 0) { int t[2]; int i = 0; t[i] = ++i; a = t[0]; b = t[1]; }: the target's index comes before the right side

abbrev targets : w.Whole
targets = shader []
    (int_outputs (0 ∷ 0 ∷ []))
    (Value (row 2) ∷ Value int ∷ [])
    (begin_zero 2 (Value (row 2))
    ∷ w.variable 3 (Value int) (literal 0)
    ∷ w.evaluate (set_at (row 2) 2 (var 3) (new_step 3))
    ∷ put 0 (element (row 2) 2 (literal 0))
    ∷ put 1 (element (row 2) 2 (literal 1)) ∷ [])

index_first : source_run (w.shader targets) defaults here 65536 ≡ gives_ints (pos 1 ∷ pos 0 ∷ [])
unfolding leaves_below leaves_before leaves_at with_leaves in_order in_turn loop types_on_the_way selected with_selected finals_from with_elements outputs_from w.routines_below w.defaults_written w.run_of apply root_by root_of int_wrap
index_first = w.runs targets defaults here 65536 ∙ refl

-- ---- shader sums(output int r = 0) { int i = 1; r = i + i++ * 2; }: 1 + 1 * 2

abbrev sums : w.Whole
sums = shader []
    (int_outputs (0 ∷ []))
    (Value int ∷ [])
    (w.variable 1 (Value int) (literal 1)
    ∷ put 0 (with_two op.Add (var 1) (with_two op.Mul (old_step 1) (literal 2))) ∷ [])

summed : source_run (w.shader sums) defaults here 65536 ≡ gives_ints (pos 3 ∷ [])
unfolding leaves_below leaves_before leaves_at with_leaves in_order in_turn loop types_on_the_way selected with_selected finals_from with_elements outputs_from w.routines_below w.defaults_written w.run_of apply root_by root_of int_wrap
summed = w.runs sums defaults here 65536 ∙ refl

-- ---- shader reads(output int r = 0) { int t[2]; r = t[(t[1] = 5) - 4]; }: the variable is read behind its index

abbrev reads : w.Whole
reads = shader []
    (int_outputs (0 ∷ []))
    (Value (row 2) ∷ [])
    (begin_zero 1 (Value (row 2))
    ∷ put 0 (element (row 2) 1 (with_two op.Sub (w.paren (Value int) (set_at (row 2) 1 (literal 1) (literal 5))) (literal 4))) ∷ [])

read_behind_its_index : source_run (w.shader reads) defaults here 65536 ≡ gives_ints (pos 5 ∷ [])
unfolding leaves_below leaves_before leaves_at with_leaves in_order in_turn loop types_on_the_way selected with_selected finals_from with_elements outputs_from w.routines_below w.defaults_written w.run_of apply root_by root_of int_wrap
read_behind_its_index = w.runs reads defaults here 65536 ∙ refl

-- ---- shader adds(output int x = 3) { x += x++; }: x is read, then x++ gives 3 and stores 4, and then 6 is written

abbrev adds : w.Whole
adds = shader []
    (int_outputs (3 ∷ []))
    []
    (add 0 (old_step 0) ∷ [])

added : source_run (w.shader adds) defaults here 65536 ≡ gives_ints (pos 6 ∷ [])
unfolding leaves_below leaves_before leaves_at with_leaves in_order in_turn loop types_on_the_way selected with_selected finals_from with_elements outputs_from w.routines_below w.defaults_written w.run_of apply root_by root_of int_wrap
added = w.runs adds defaults here 65536 ∙ refl

-- ---- shader once(output int a = 0, output int b = 0, output int c = 0, output int n = 0) { int t[3] = {5}; int i = 0; t[i++] += 1; a = t[0]; b = t[1]; c = t[2]; n = i; }: the index is evaluated once

abbrev once : w.Whole
once = shader []
    (int_outputs (0 ∷ 0 ∷ 0 ∷ 0 ∷ []))
    (Value (row 3) ∷ Value int ∷ [])
    (w.variable_of 4 (Value (row 3)) (literal 5 ∷ [])
    ∷ w.variable 5 (Value int) (literal 0)
    ∷ w.evaluate (w.update op.Add int (own 4) (whole (row 3)) (old_step 5 ∷ []) (literal 1))
    ∷ put 0 (element (row 3) 4 (literal 0))
    ∷ put 1 (element (row 3) 4 (literal 1))
    ∷ put 2 (element (row 3) 4 (literal 2))
    ∷ put 3 (var 5) ∷ [])

index_once : source_run (w.shader once) defaults here 65536 ≡ gives_ints (pos 6 ∷ pos 0 ∷ pos 0 ∷ pos 1 ∷ [])
unfolding leaves_below leaves_before leaves_at with_leaves in_order in_turn loop types_on_the_way selected with_selected finals_from with_elements outputs_from w.routines_below w.defaults_written w.run_of apply root_by root_of int_wrap
index_once = w.runs once defaults here 65536 ∙ refl

-- ---- shader updates(output int a = 0, output int b = 0, output int i = 0) { int t[2] = {3}; t[i] += (t[0] = 7) + ++i; a = t[0]; b = t[1]; }: 3 is read before 7 is written, and 3 + (7 + 1) behind it

abbrev updates : w.Whole
updates = shader []
    (int_outputs (0 ∷ 0 ∷ 0 ∷ []))
    (Value (row 2) ∷ [])
    (w.variable_of 3 (Value (row 2)) (literal 3 ∷ [])
    ∷ w.evaluate (w.update op.Add int (own 3) (whole (row 2)) (var 2 ∷ [])
    (with_two op.Add (w.paren (Value int) (set_at (row 2) 3 (literal 0) (literal 7))) (new_step 2)))
    ∷ put 0 (element (row 2) 3 (literal 0))
    ∷ put 1 (element (row 2) 3 (literal 1)) ∷ [])

updated : source_run (w.shader updates) defaults here 65536 ≡ gives_ints (pos 11 ∷ pos 0 ∷ pos 1 ∷ [])
unfolding leaves_below leaves_before leaves_at with_leaves in_order in_turn loop types_on_the_way selected with_selected finals_from with_elements outputs_from w.routines_below w.defaults_written w.run_of apply root_by root_of int_wrap
updated = w.runs updates defaults here 65536 ∙ refl

-- ---- shader shifts(output point p = 1, output vector q = 0) { q = p += N; }: the sum of a point and a normal is a vector, and what is stored, and given, is a point

abbrev shifts : w.Whole
shifts = shader []
    (output point (w.promote point (literal 1)) ∷ output vector (w.promote vector (literal 0)) ∷ [])
    []
    (put_as vector 1 (w.promote vector (w.update op.Add vector (own 0) (whole point) [] (w.promote vector (global normal globals.N)))) ∷ [])

shifted : source_run (w.shader shifts) defaults here 65536
    ≡ gives (Some (floats point (units 1 ∷ units 1 ∷ units 3 ∷ [])) ∷ Some (floats vector (units 1 ∷ units 1 ∷ units 3 ∷ [])) ∷ [])
unfolding leaves_below leaves_before leaves_at with_leaves in_order in_turn loop types_on_the_way selected with_selected finals_from with_elements outputs_from w.routines_below w.defaults_written w.run_of apply root_by root_of int_wrap
shifted = w.runs shifts defaults here 65536 ∙ refl

-- ---- shader components(output color c = 0.5) { int i = 0; c[i] = ++i; c.b = 2 * c[-5]; }: c[0] = 1, and c[-5] is c[0]

abbrev components : w.Whole
components = shader []
    (output color (w.promote color (w.number (pos 500000000))) ∷ [])
    (Value int ∷ [])
    (w.variable 1 (Value int) (literal 0)
    ∷ w.evaluate (set_at color 0 (var 1) (w.promote float (new_step 1)))
    ∷ w.evaluate (w.set (own 0) (component 2) []
    (w.apply_to op.Mul float (w.promote float (literal 2) ∷ element color 0 (minus 5) ∷ []))) ∷ [])

of_components : source_run (w.shader components) defaults here 65536 ≡ gives (Some (floats color (units 1 ∷ pos 500000000 ∷ units 2 ∷ [])) ∷ [])
unfolding leaves_below leaves_before leaves_at with_leaves in_order in_turn loop types_on_the_way selected with_selected finals_from with_elements outputs_from w.routines_below w.defaults_written w.run_of apply root_by root_of int_wrap
of_components = w.runs components defaults here 65536 ∙ refl

-- ---- shader elements(output matrix m = matrix(1)) { int i = 0; m[1][-3] = 7; m[9][1] += 2; m[i++][++i] = i; }: m[1][0] = 7, m[3][1] = 2, m[0][2] = 2

abbrev elements : w.Whole
elements = shader []
    (output matrix (w.apply_to op.Matrix matrix (literal 1 ∷ [])) ∷ [])
    (Value int ∷ [])
    (w.variable 1 (Value int) (literal 0)
    ∷ w.evaluate (w.set (own 0) (whole matrix) (literal 1 ∷ minus 3 ∷ []) (w.promote float (literal 7)))
    ∷ w.evaluate (w.update op.Add float (own 0) (whole matrix) (literal 9 ∷ literal 1 ∷ []) (w.promote float (literal 2)))
    ∷ w.evaluate (w.set (own 0) (whole matrix) (old_step 1 ∷ new_step 1 ∷ []) (w.promote float (var 1))) ∷ [])

of_elements : source_run (w.shader elements) defaults here 65536
    ≡ gives (Some (floats matrix (
    units 1 ∷ units 0 ∷ units 2 ∷ units 0
    ∷ units 7 ∷ units 1 ∷ units 0 ∷ units 0
    ∷ units 0 ∷ units 0 ∷ units 1 ∷ units 0
    ∷ units 0 ∷ units 2 ∷ units 0 ∷ units 1 ∷ [])) ∷ [])
unfolding leaves_below leaves_before leaves_at with_leaves in_order in_turn loop types_on_the_way selected with_selected finals_from with_elements outputs_from w.routines_below w.defaults_written w.run_of apply root_by root_of int_wrap
of_elements = w.runs elements defaults here 65536 ∙ refl

-- ---- color tint(output int n) { n += 1; return color(10, 20, 30); }
-- shader takes(output float r = 0, output int i = 0) { r = tint(i)[i]; }: of a value that is no variable the value comes before the index

abbrev tint : w.Routine
tint = function (Value color) (by_output int ∷ []) []
    (add 0 (literal 1)
    ∷ w.give_back (w.apply_to op.Triple color (literal 10 ∷ literal 20 ∷ literal 30 ∷ [])) ∷ [])

abbrev takes : w.Whole
takes = shader (tint ∷ [])
    (output float (w.promote float (literal 0)) ∷ output int (literal 0) ∷ [])
    []
    (put_as float 0 (w.part_of (Value color) (w.call 0 (Value color) (lend 1 ∷ [])) (whole color) (var 1 ∷ [])) ∷ [])

taken : source_run (w.shader takes) defaults here 65536 ≡ gives (Some (floats float (units 20 ∷ [])) ∷ Some (an_int (pos 1)) ∷ [])
unfolding leaves_below leaves_before leaves_at with_leaves in_order in_turn loop types_on_the_way selected with_selected finals_from with_elements outputs_from w.routines_below w.defaults_written w.run_of apply root_by root_of int_wrap
taken = w.runs takes defaults here 65536 ∙ refl

-- ---- void f(output int a, int b) { a = b; }
-- shader lends(output int a = 0, output int b = 0, output int c = 0, output int i = 0) { int t[3]; f(t[i], i = 2); a = t[0]; b = t[1]; c = t[2]; }: an output's index is evaluated at its turn

abbrev passed_on : w.Routine
passed_on = function Void (by_output int ∷ by_value int ∷ []) []
    (put 0 (var 1) ∷ [])

abbrev lends : w.Whole
lends = shader (passed_on ∷ [])
    (int_outputs (0 ∷ 0 ∷ 0 ∷ 0 ∷ []))
    (Value (row 3) ∷ [])
    (begin_zero 4 (Value (row 3))
    ∷ w.evaluate (w.call 0 Void (lend_at (row 3) 4 (var 3) ∷ w.copied (set_to 3 (literal 2)) ∷ []))
    ∷ put 0 (element (row 3) 4 (literal 0))
    ∷ put 1 (element (row 3) 4 (literal 1))
    ∷ put 2 (element (row 3) 4 (literal 2)) ∷ [])

lent_at_its_turn : source_run (w.shader lends) defaults here 65536 ≡ gives_ints (pos 2 ∷ pos 0 ∷ pos 0 ∷ pos 2 ∷ [])
unfolding leaves_below leaves_before leaves_at with_leaves in_order in_turn loop types_on_the_way selected with_selected finals_from with_elements outputs_from w.routines_below w.defaults_written w.run_of apply root_by root_of int_wrap
lent_at_its_turn = w.runs lends defaults here 65536 ∙ refl

-- ---- void seven(output int a, output int b) { a = 1; b = 7; }
-- shader holds(output int a = 0, output int b = 0, output int i = 0) { int t[2]; seven(i, t[i]); a = t[0]; b = t[1]; }: i is written back before t[0], whose index was evaluated before

abbrev seven : w.Routine
seven = function Void (by_output int ∷ by_output int ∷ []) []
    (put 0 (literal 1) ∷ put 1 (literal 7) ∷ [])

abbrev holds : w.Whole
holds = shader (seven ∷ [])
    (int_outputs (0 ∷ 0 ∷ 0 ∷ []))
    (Value (row 2) ∷ [])
    (begin_zero 3 (Value (row 2))
    ∷ w.evaluate (w.call 0 Void (lend 2 ∷ lend_at (row 2) 3 (var 2) ∷ []))
    ∷ put 0 (element (row 2) 3 (literal 0))
    ∷ put 1 (element (row 2) 3 (literal 1)) ∷ [])

index_held : source_run (w.shader holds) defaults here 65536 ≡ gives_ints (pos 7 ∷ pos 0 ∷ pos 1 ∷ [])
unfolding leaves_below leaves_before leaves_at with_leaves in_order in_turn loop types_on_the_way selected with_selected finals_from with_elements outputs_from w.routines_below w.defaults_written w.run_of apply root_by root_of int_wrap
index_held = w.runs holds defaults here 65536 ∙ refl

-- ---- void more(output int a, int n) { a += n; }
-- shader raises(output int r = 0) { int t[1] = {1}; more(t[0], t[0] = 5); r = t[0]; }: 1 is copied in before 5 is written

abbrev raises : w.Whole
raises = shader (more ∷ [])
    (int_outputs (0 ∷ []))
    (Value (row 1) ∷ [])
    (w.variable_of 1 (Value (row 1)) (literal 1 ∷ [])
    ∷ w.evaluate (w.call 0 Void (lend_at (row 1) 1 (literal 0) ∷ w.copied (set_at (row 1) 1 (literal 0) (literal 5)) ∷ []))
    ∷ put 0 (element (row 1) 1 (literal 0)) ∷ [])

raised : source_run (w.shader raises) defaults here 65536 ≡ gives_ints (pos 6 ∷ [])
unfolding leaves_below leaves_before leaves_at with_leaves in_order in_turn loop types_on_the_way selected with_selected finals_from with_elements outputs_from w.routines_below w.defaults_written w.run_of apply root_by root_of int_wrap
raised = w.runs raises defaults here 65536 ∙ refl

-- ---- int tens(int a, int b) { return 10 * a + b; }
-- shader passes(output int r = 0, output int i = 1) { r = tens(i++, i++); }: arguments from left to right

abbrev tens : w.Routine
tens = function (Value int) (by_value int ∷ by_value int ∷ []) []
    (w.give_back (with_two op.Add (with_two op.Mul (literal 10) (var 0)) (var 1)) ∷ [])

abbrev passes : w.Whole
passes = shader (tens ∷ [])
    (int_outputs (0 ∷ 1 ∷ []))
    []
    (put 0 (w.call 0 (Value int) (w.copied (old_step 1) ∷ w.copied (old_step 1) ∷ [])) ∷ [])

passed : source_run (w.shader passes) defaults here 65536 ≡ gives_ints (pos 12 ∷ pos 3 ∷ [])
unfolding leaves_below leaves_before leaves_at with_leaves in_order in_turn loop types_on_the_way selected with_selected finals_from with_elements outputs_from w.routines_below w.defaults_written w.run_of apply root_by root_of int_wrap
passed = w.runs passes defaults here 65536 ∙ refl

-- ---- shader shorts(output int a = 0, output int b = 7, output int c = 0, output int n = 0) { a = 0.5 || (n += 1); b = n && (n += 10); c = 0 || (n += 1) && 0 || (n += 10); }: n stays 0 in the first two lines

abbrev adds_to_n : ℕ → w.Known
adds_to_n k = w.paren (Value int) (add_to 3 (literal k))

abbrev shorts : w.Whole
shorts = shader []
    (int_outputs (0 ∷ 7 ∷ 0 ∷ 0 ∷ []))
    []
    (put 0 (w.either (w.number (pos 500000000)) (adds_to_n 1))
    ∷ put 1 (w.both (var 3) (adds_to_n 10))
    ∷ put 2 (w.either (w.either (literal 0) (w.both (adds_to_n 1) (literal 0))) (adds_to_n 10)) ∷ [])

cut_short : source_run (w.shader shorts) defaults here 65536 ≡ gives_ints (pos 1 ∷ pos 0 ∷ pos 1 ∷ pos 11 ∷ [])
unfolding leaves_below leaves_before leaves_at with_leaves in_order in_turn loop types_on_the_way selected with_selected finals_from with_elements outputs_from w.routines_below w.defaults_written w.run_of apply root_by root_of int_wrap
cut_short = w.runs shorts defaults here 65536 ∙ refl

-- ---- shader picks(output int r = 0, output int n = 5, output int m = 8) { r = u < 0.5 ? n++ : m++; r = r < 5 ? (n = 9) : r + --m; }: at u = 0.3, 5, and then 5 + 7

abbrev picks : w.Whole
picks = shader []
    (int_outputs (0 ∷ 5 ∷ 8 ∷ []))
    []
    (put 0 (w.choose (Value int) (with_two op.Lt (global float globals.U) (w.number (pos 500000000))) (old_step 1) (old_step 2))
    ∷ put 0 (w.choose (Value int) (with_two op.Lt (var 0) (literal 5))
    (w.paren (Value int) (set_to 1 (literal 9)))
    (with_two op.Add (var 0) (w.step PreDecrement int (own 2)))) ∷ [])

picked : source_run (w.shader picks) defaults here 65536 ≡ gives_ints (pos 12 ∷ pos 6 ∷ pos 7 ∷ [])
unfolding leaves_below leaves_before leaves_at with_leaves in_order in_turn loop types_on_the_way selected with_selected finals_from with_elements outputs_from w.routines_below w.defaults_written w.run_of apply root_by root_of int_wrap
picked = w.runs picks defaults here 65536 ∙ refl
