-- Calls: results, `return`, outputs and inputs, functions that call functions, the global variables, and `exit()`.
use Rattle.std.proofs.Common.{◌≡◌, ℕ, refl, ◌∙◌}
use Rattle.std.specs.Int.{int_wrap}
use Rattle.std.specs.Prelude.{pos, negsuc, [], ◌∷◌, None, Some}
use Rattle.osl_value.specs.declared.op_name.OpName.TheVariants as op
use Rattle.osl_value.specs.Apply.{apply}
use Rattle.osl_value.specs.Numbers.{root_by, root_of}
use Rattle.osl_layer.specs.declared.global.GlobalName.TheVariants as globals
use Rattle.osl_overload.specs.declared.signature.Kind.TheVariants.{Value, Void, Structure}
use Rattle.osl_value.specs.declared.shader_kind.ShaderKind.TheVariants as kinds
use Rattle.osl_typed.specs.declared.expr.Part.{Part}
use Rattle.osl_typed.specs.declared.expr.Root.TheVariants.{Global}
use Rattle.osl_typed.specs.Ends.{in_turn, loop}
use Rattle.osl_typed.specs.Expressions.{whole}
use Rattle.osl_typed.specs.Frames.{leaves_below, leaves_before}
use Rattle.osl_typed.specs.Parts.{selected, with_selected}
use Rattle.osl_typed.specs.Selections.{types_on_the_way}
use Rattle.osl_typed.specs.SourceRun.{outputs_from, source_run}
use Rattle.osl_typed.specs.State.{in_order, leaves_at, with_leaves}
use Rattle.osl_typed.specs.Statements.{finals_from, with_elements}
use Rattle.osl_typed.proofs.Written as w
use Rattle.osl_source_tests.proofs.Words.{int, float, color, point, row, floats, here, defaults, gives, gives_ints, spent, literal, own, var, global, with_two, minus, new_step, lend, put_as, put, add, begin_zero, go_back, count_to, by_value, by_output, function, output, int_outputs, shader, more}

-- ---- int root(int n) { for (int i = 0; i < 3; ++i) if (i * i >= n) return i; return -1; }
-- shader roots(output int r = 0) { r = root(4) + 10 * root(9); }: 2 - 10, in 3 + 3 turns

abbrev root : w.Routine
root = function (Value int) (by_value int ∷ []) (Value int ∷ [])
    (count_to 1 (literal 3) (w.only_if (with_two op.Ge (with_two op.Mul (var 1) (var 1)) (var 0)) (w.give_back (var 1)))
    ∷ w.give_back (minus 1) ∷ [])

abbrev root_of_int : ℕ → w.Known
root_of_int n = w.call 0 (Value int) (w.copied (literal n) ∷ [])

abbrev roots : w.Whole
roots = shader (root ∷ [])
    (int_outputs (0 ∷ []))
    []
    (put 0 (with_two op.Add (root_of_int 4) (with_two op.Mul (literal 10) (root_of_int 9))) ∷ [])

rooted : source_run (w.shader roots) defaults here 6 ≡ gives_ints (negsuc 7 ∷ [])
unfolding leaves_below leaves_before leaves_at with_leaves in_order in_turn loop types_on_the_way selected with_selected finals_from with_elements outputs_from w.routines_below w.defaults_written w.run_of apply root_by root_of int_wrap
rooted = w.runs roots defaults here 6 ∙ refl

roots_spent : source_run (w.shader roots) defaults here 5 ≡ spent
unfolding leaves_below leaves_before leaves_at with_leaves in_order in_turn loop types_on_the_way selected with_selected finals_from with_elements outputs_from w.routines_below w.defaults_written w.run_of apply root_by root_of int_wrap
roots_spent = w.runs roots defaults here 5 ∙ refl

-- ---- void climb(output int a) { while (1) { a += 1; if (a > 2) return; } }
-- shader climbs(output int r = 0) { climb(r); r += 10; }: `return;` leaves the loop and the function, and the output is written back

abbrev climb : w.Routine
climb = function Void (by_output int ∷ []) []
    (w.while_true (literal 1) (w.block (add 0 (literal 1) ∷ w.only_if (with_two op.Gt (var 0) (literal 2)) go_back ∷ [])) ∷ [])

abbrev climbs : w.Whole
climbs = shader (climb ∷ [])
    (int_outputs (0 ∷ []))
    []
    (w.evaluate (w.call 0 Void (lend 0 ∷ [])) ∷ add 0 (literal 10) ∷ [])

climbed : source_run (w.shader climbs) defaults here 3 ≡ gives_ints (pos 13 ∷ [])
unfolding leaves_below leaves_before leaves_at with_leaves in_order in_turn loop types_on_the_way selected with_selected finals_from with_elements outputs_from w.routines_below w.defaults_written w.run_of apply root_by root_of int_wrap
climbed = w.runs climbs defaults here 3 ∙ refl

climbs_spent : source_run (w.shader climbs) defaults here 2 ≡ spent
unfolding leaves_below leaves_before leaves_at with_leaves in_order in_turn loop types_on_the_way selected with_selected finals_from with_elements outputs_from w.routines_below w.defaults_written w.run_of apply root_by root_of int_wrap
climbs_spent = w.runs climbs defaults here 2 ∙ refl

-- ---- shader stops(output int r = 1) { r = 2; if (r) return; r = 3; }: `return;` ends the layer

abbrev stops : w.Whole
stops = shader []
    (int_outputs (1 ∷ []))
    []
    (put 0 (literal 2) ∷ w.only_if (var 0) go_back ∷ put 0 (literal 3) ∷ [])

stopped : source_run (w.shader stops) defaults here 0 ≡ gives_ints (pos 2 ∷ [])
unfolding leaves_below leaves_before leaves_at with_leaves in_order in_turn loop types_on_the_way selected with_selected finals_from with_elements outputs_from w.routines_below w.defaults_written w.run_of apply root_by root_of int_wrap
stopped = w.runs stops defaults here 0 ∙ refl

-- ---- color half(int on) { if (on) return 0.5; }
-- shader halves(output color a = 1, output color b = 1) { a = half(1); b = half(0); }: a body that ends without `return` gives zero

abbrev half : w.Routine
half = function (Value color) (by_value int ∷ []) []
    (w.only_if (var 0) (w.give_back (w.promote color (w.number (pos 500000000)))) ∷ [])

abbrev half_if : ℕ → w.Known
half_if on = w.call 0 (Value color) (w.copied (literal on) ∷ [])

abbrev halves : w.Whole
halves = shader (half ∷ [])
    (output color (w.promote color (literal 1)) ∷ output color (w.promote color (literal 1)) ∷ [])
    []
    (put_as color 0 (half_if 1) ∷ put_as color 1 (half_if 0) ∷ [])

halved : source_run (w.shader halves) defaults here 0 ≡ gives (Some (floats color (pos 500000000 ∷ pos 500000000 ∷ pos 500000000 ∷ [])) ∷ Some (floats color (pos 0 ∷ pos 0 ∷ pos 0 ∷ [])) ∷ [])
unfolding leaves_below leaves_before leaves_at with_leaves in_order in_turn loop types_on_the_way selected with_selected finals_from with_elements outputs_from w.routines_below w.defaults_written w.run_of apply root_by root_of int_wrap
halved = w.runs halves defaults here 0 ∙ refl

-- ---- int square(int n) { return n * n; }
-- int squares(int n) { return square(n) + square(n + 1); }
-- shader calls(output int r = 0) { r = squares(3); }: 9 + 16

abbrev square : w.Routine
square = function (Value int) (by_value int ∷ []) []
    (w.give_back (with_two op.Mul (var 0) (var 0)) ∷ [])

abbrev squares : w.Routine
squares = function (Value int) (by_value int ∷ []) []
    (w.give_back (with_two op.Add (w.call 0 (Value int) (w.copied (var 0) ∷ [])) (w.call 0 (Value int) (w.copied (with_two op.Add (var 0) (literal 1)) ∷ []))) ∷ [])

abbrev calls : w.Whole
calls = shader (square ∷ squares ∷ [])
    (int_outputs (0 ∷ []))
    []
    (put 0 (w.call 1 (Value int) (w.copied (literal 3) ∷ [])) ∷ [])

called : source_run (w.shader calls) defaults here 0 ≡ gives_ints (pos 25 ∷ [])
unfolding leaves_below leaves_before leaves_at with_leaves in_order in_turn loop types_on_the_way selected with_selected finals_from with_elements outputs_from w.routines_below w.defaults_written w.run_of apply root_by root_of int_wrap
called = w.runs calls defaults here 0 ∙ refl

-- ---- void g(output int a) { a = 5; exit(); }
-- void f(output int a) { g(a); a = 6; }
-- shader exits(output int r = 1) { f(r); r = 7; }: `exit()` two calls deep ends the layer, and nothing is written back

abbrev inner_exit : w.Routine
inner_exit = function Void (by_output int ∷ []) []
    (put 0 (literal 5) ∷ w.evaluate w.exit ∷ [])

abbrev outer_exit : w.Routine
outer_exit = function Void (by_output int ∷ []) []
    (w.evaluate (w.call 0 Void (lend 0 ∷ [])) ∷ put 0 (literal 6) ∷ [])

abbrev exits : w.Whole
exits = shader (inner_exit ∷ outer_exit ∷ [])
    (int_outputs (1 ∷ []))
    []
    (w.evaluate (w.call 1 Void (lend 0 ∷ [])) ∷ put 0 (literal 7) ∷ [])

exited : source_run (w.shader exits) defaults here 0 ≡ gives_ints (pos 1 ∷ [])
unfolding leaves_below leaves_before leaves_at with_leaves in_order in_turn loop types_on_the_way selected with_selected finals_from with_elements outputs_from w.routines_below w.defaults_written w.run_of apply root_by root_of int_wrap
exited = w.runs exits defaults here 0 ∙ refl

-- ---- float across() { return P[0] + u; }
-- displacement moves(output float before = 0, output float after = 0) { before = across(); P[0] = 2; after = across(); }: a function reads the globals as they stand at the call

abbrev across : w.Routine
across = function (Value float) [] []
    (w.give_back (w.apply_to op.Add float (w.part (Global globals.P) (whole point) (literal 0 ∷ []) ∷ global float globals.U ∷ [])) ∷ [])

abbrev moves : w.Whole
moves = record (shader (across ∷ [])
    (output float (w.promote float (literal 0)) ∷ output float (w.promote float (literal 0)) ∷ [])
    []
    (put_as float 0 (w.call 0 (Value float) [])
    ∷ w.evaluate (w.set (Global globals.P) (whole point) (literal 0 ∷ []) (w.promote float (literal 2)))
    ∷ put_as float 1 (w.call 0 (Value float) []) ∷ [])) { kind = kinds.Displacement }

moved : source_run (w.shader moves) defaults here 0 ≡ gives (Some (floats float (pos 300000000 ∷ [])) ∷ Some (floats float (pos 2300000000 ∷ [])) ∷ [])
unfolding leaves_below leaves_before leaves_at with_leaves in_order in_turn loop types_on_the_way selected with_selected finals_from with_elements outputs_from w.routines_below w.defaults_written w.run_of apply root_by root_of int_wrap
moved = w.runs moves defaults here 0 ∙ refl

-- ---- void both(output int a, output int b) { b = a + 1; a = b + 1; }
-- shader writes(output int x = 1, output int y = 0) { both(x, y); }: both outputs are written back

abbrev both : w.Routine
both = function Void (by_output int ∷ by_output int ∷ []) []
    (put 1 (with_two op.Add (var 0) (literal 1)) ∷ put 0 (with_two op.Add (var 1) (literal 1)) ∷ [])

abbrev writes : w.Whole
writes = shader (both ∷ [])
    (int_outputs (1 ∷ 0 ∷ []))
    []
    (w.evaluate (w.call 0 Void (lend 0 ∷ lend 1 ∷ [])) ∷ [])

written : source_run (w.shader writes) defaults here 0 ≡ gives_ints (pos 3 ∷ pos 2 ∷ [])
unfolding leaves_below leaves_before leaves_at with_leaves in_order in_turn loop types_on_the_way selected with_selected finals_from with_elements outputs_from w.routines_below w.defaults_written w.run_of apply root_by root_of int_wrap
written = w.runs writes defaults here 0 ∙ refl

-- ---- int old(int a, output int b) { b = 9; return a; }
-- shader copies(output int x = 4, output int r = 0) { r = x + old((x), x) + x; }: (x) is a value, which is copied; 4 + 4 + 9

abbrev old : w.Routine
old = function (Value int) (by_value int ∷ by_output int ∷ []) []
    (put 1 (literal 9) ∷ w.give_back (var 0) ∷ [])

abbrev copies : w.Whole
copies = shader (old ∷ [])
    (int_outputs (4 ∷ 0 ∷ []))
    []
    (put 1 (with_two op.Add (with_two op.Add (var 0) (w.call 0 (Value int) (w.copied (w.paren (Value int) (var 0)) ∷ lend 0 ∷ []))) (var 0)) ∷ [])

copied : source_run (w.shader copies) defaults here 0 ≡ gives_ints (pos 9 ∷ pos 17 ∷ [])
unfolding leaves_below leaves_before leaves_at with_leaves in_order in_turn loop types_on_the_way selected with_selected finals_from with_elements outputs_from w.routines_below w.defaults_written w.run_of apply root_by root_of int_wrap
copied = w.runs copies defaults here 0 ∙ refl

-- ---- int fresh() { int n; n += 1; return n; }
-- shader begins(output int r = 0) { r = 10 * fresh() + fresh(); }: each call has variables of its own

abbrev fresh : w.Routine
fresh = function (Value int) [] (Value int ∷ [])
    (begin_zero 0 (Value int) ∷ add 0 (literal 1) ∷ w.give_back (var 0) ∷ [])

abbrev begins : w.Whole
begins = shader (fresh ∷ [])
    (int_outputs (0 ∷ []))
    []
    (put 0 (with_two op.Add (with_two op.Mul (literal 10) (w.call 0 (Value int) [])) (w.call 0 (Value int) [])) ∷ [])

begun : source_run (w.shader begins) defaults here 0 ≡ gives_ints (pos 11 ∷ [])
unfolding leaves_below leaves_before leaves_at with_leaves in_order in_turn loop types_on_the_way selected with_selected finals_from with_elements outputs_from w.routines_below w.defaults_written w.run_of apply root_by root_of int_wrap
begun = w.runs begins defaults here 0 ∙ refl

-- ---- struct pair { int a; int b[2]; };
-- void more(output int a, int n) { a += n; }
-- shader parts(output int r = 0) { pair p; more(p.b[1], 4); more(p.b[1], 3); r = p.b[1]; }: an element of a field is an output

abbrev second_field : Part
second_field = record { fields = 1 ∷ []; kind = Value (row 2); component = None }

abbrev more_by : ℕ → w.Does
more_by n = w.evaluate (w.call 0 Void (w.lent (own 1) second_field (literal 1 ∷ []) ∷ w.copied (literal n) ∷ []))

abbrev parts : w.Whole
parts = record (shader (more ∷ [])
    (int_outputs (0 ∷ []))
    (Structure 0 ∷ [])
    (begin_zero 1 (Structure 0) ∷ more_by 4 ∷ more_by 3 ∷ put 0 (w.part (own 1) second_field (literal 1 ∷ [])) ∷ [])) { structures = record { fields = Value int ∷ Value (row 2) ∷ [] } ∷ [] }

of_parts : source_run (w.shader parts) defaults here 0 ≡ gives_ints (pos 7 ∷ [])
unfolding leaves_below leaves_before leaves_at with_leaves in_order in_turn loop types_on_the_way selected with_selected finals_from with_elements outputs_from w.routines_below w.defaults_written w.run_of apply root_by root_of int_wrap
of_parts = w.runs parts defaults here 0 ∙ refl

-- ---- void up(output int a) { ++a; }
-- shader either(output int n = 0, output int m = 0) { u < 0.5 ? up(n) : up(m); }: of two calls without a value one is made

abbrev up : w.Routine
up = function Void (by_output int ∷ []) []
    (w.evaluate (new_step 0) ∷ [])

abbrev up_at : ℕ → w.Known
up_at k = w.call 0 Void (lend k ∷ [])

abbrev either : w.Whole
either = shader (up ∷ [])
    (int_outputs (0 ∷ 0 ∷ []))
    []
    (w.evaluate (w.choose Void (with_two op.Lt (global float globals.U) (w.number (pos 500000000))) (up_at 0) (up_at 1)) ∷ [])

one_of_two : source_run (w.shader either) defaults here 0 ≡ gives_ints (pos 1 ∷ pos 0 ∷ [])
unfolding leaves_below leaves_before leaves_at with_leaves in_order in_turn loop types_on_the_way selected with_selected finals_from with_elements outputs_from w.routines_below w.defaults_written w.run_of apply root_by root_of int_wrap
one_of_two = w.runs either defaults here 0 ∙ refl
