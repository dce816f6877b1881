-- Loops: turns and the budget that they take, `break`, `continue` and `return` in them, and tests and steps with effects.
use Rattle.std.proofs.Common.{◌≡◌, refl, ◌∙◌}
use Rattle.std.specs.Int.{int_wrap}
use Rattle.std.specs.Prelude.{pos, negsuc, [], ◌∷◌}
use Rattle.osl_value.specs.declared.op_name.OpName.TheVariants as op
use Rattle.osl_value.specs.Apply.{apply}
use Rattle.osl_value.specs.Numbers.{root_by, root_of}
use Rattle.osl_overload.specs.declared.signature.Kind.TheVariants.{Value}
use Rattle.osl_typed.specs.declared.expr.Increment.TheVariants.{PostDecrement}
use Rattle.osl_typed.specs.Ends.{in_turn, loop}
use Rattle.osl_typed.specs.Expressions.{whole}
use Rattle.osl_typed.specs.Frames.{leaves_below, leaves_before}
use Rattle.osl_typed.specs.Parts.{selected, with_selected}
use Rattle.osl_typed.specs.Selections.{types_on_the_way}
use Rattle.osl_typed.specs.SourceRun.{outputs_from, source_run}
use Rattle.osl_typed.specs.State.{in_order, leaves_at, with_leaves}
use Rattle.osl_typed.specs.Statements.{finals_from, with_elements}
use Rattle.osl_typed.proofs.Written as w
use Rattle.osl_source_tests.proofs.Words.{int, here, defaults, gives_ints, spent, literal, own, var, with_two, minus, set_to, add_to, new_step, put, add, for_ever, for_from, count_to, by_value, function, int_outputs, shader}

-- ---- shader nested(output int r = 0) { for (int i = 0; i < 2; ++i) for (int j = 0; j < 2; ++j) r += 1; }: two turns of the outer loop and four of the inner one

abbrev nested : w.Whole
nested = shader []
    (int_outputs (0 ∷ []))
    (Value int ∷ Value int ∷ [])
    (count_to 1 (literal 2) (count_to 2 (literal 2) (add 0 (literal 1))) ∷ [])

six_turns : source_run (w.shader nested) defaults here 6 ≡ gives_ints (pos 4 ∷ [])
unfolding leaves_below leaves_before leaves_at with_leaves in_order in_turn loop types_on_the_way selected with_selected finals_from with_elements outputs_from w.routines_below w.defaults_written w.run_of apply root_by root_of int_wrap
six_turns = w.runs nested defaults here 6 ∙ refl

five_turns : source_run (w.shader nested) defaults here 5 ≡ spent
unfolding leaves_below leaves_before leaves_at with_leaves in_order in_turn loop types_on_the_way selected with_selected finals_from with_elements outputs_from w.routines_below w.defaults_written w.run_of apply root_by root_of int_wrap
five_turns = w.runs nested defaults here 5 ∙ refl

-- ---- shader leaps(output int r = 0) { for (int i = 0; i < 4; ++i) { if (i == 1) continue; r += i; } }: 0 + 2 + 3, and the step is evaluated behind `continue`

abbrev leaps : w.Whole
leaps = shader []
    (int_outputs (0 ∷ []))
    (Value int ∷ [])
    (count_to 1 (literal 4) (w.block (w.only_if (with_two op.Eq (var 1) (literal 1)) w.go_on ∷ add 0 (var 1) ∷ [])) ∷ [])

leapt : source_run (w.shader leaps) defaults here 4 ≡ gives_ints (pos 5 ∷ [])
unfolding leaves_below leaves_before leaves_at with_leaves in_order in_turn loop types_on_the_way selected with_selected finals_from with_elements outputs_from w.routines_below w.defaults_written w.run_of apply root_by root_of int_wrap
leapt = w.runs leaps defaults here 4 ∙ refl

leapt_too_often : source_run (w.shader leaps) defaults here 3 ≡ spent
unfolding leaves_below leaves_before leaves_at with_leaves in_order in_turn loop types_on_the_way selected with_selected finals_from with_elements outputs_from w.routines_below w.defaults_written w.run_of apply root_by root_of int_wrap
leapt_too_often = w.runs leaps defaults here 3 ∙ refl

-- ---- shader inner(output int r = 0) { for (int i = 0; i < 3; ++i) { int j = 0; while (1) { if (j == i) break; ++j; ++r; } r += 10; } }: `break` leaves the inner loop alone; 3 + (1 + 2 + 3) turns

abbrev inner : w.Whole
inner = shader []
    (int_outputs (0 ∷ []))
    (Value int ∷ Value int ∷ [])
    (count_to 1 (literal 3) (w.block (w.variable 2 (Value int) (literal 0)
    ∷ w.while_true (literal 1) (w.block (w.only_if (with_two op.Eq (var 2) (var 1)) w.break_off ∷ w.evaluate (new_step 2) ∷ w.evaluate (new_step 0) ∷ []))
    ∷ add 0 (literal 10) ∷ [])) ∷ [])

left_the_inner_one : source_run (w.shader inner) defaults here 9 ≡ gives_ints (pos 33 ∷ [])
unfolding leaves_below leaves_before leaves_at with_leaves in_order in_turn loop types_on_the_way selected with_selected finals_from with_elements outputs_from w.routines_below w.defaults_written w.run_of apply root_by root_of int_wrap
left_the_inner_one = w.runs inner defaults here 9 ∙ refl

inner_spent : source_run (w.shader inner) defaults here 8 ≡ spent
unfolding leaves_below leaves_before leaves_at with_leaves in_order in_turn loop types_on_the_way selected with_selected finals_from with_elements outputs_from w.routines_below w.defaults_written w.run_of apply root_by root_of int_wrap
inner_spent = w.runs inner defaults here 8 ∙ refl

-- ---- shader tests(output int r = 0) { int i = 0; do { r += 10; if (i) continue; ++r; } while (++i < 3); }: behind `continue` the condition is evaluated; 11 + 10 + 10

abbrev tests : w.Whole
tests = shader []
    (int_outputs (0 ∷ []))
    (Value int ∷ [])
    (w.variable 1 (Value int) (literal 0)
    ∷ w.do_while (w.block (add 0 (literal 10) ∷ w.only_if (var 1) w.go_on ∷ w.evaluate (new_step 0) ∷ [])) (with_two op.Lt (new_step 1) (literal 3)) ∷ [])

tested_behind : source_run (w.shader tests) defaults here 3 ≡ gives_ints (pos 31 ∷ [])
unfolding leaves_below leaves_before leaves_at with_leaves in_order in_turn loop types_on_the_way selected with_selected finals_from with_elements outputs_from w.routines_below w.defaults_written w.run_of apply root_by root_of int_wrap
tested_behind = w.runs tests defaults here 3 ∙ refl

tested_too_often : source_run (w.shader tests) defaults here 2 ≡ spent
unfolding leaves_below leaves_before leaves_at with_leaves in_order in_turn loop types_on_the_way selected with_selected finals_from with_elements outputs_from w.routines_below w.defaults_written w.run_of apply root_by root_of int_wrap
tested_too_often = w.runs tests defaults here 2 ∙ refl

-- ---- shader firsts(output int r = 0) { while (0) r = 5; do r += 7; while (0); }: `while` takes no turn, and `do` one

abbrev firsts : w.Whole
firsts = shader []
    (int_outputs (0 ∷ []))
    []
    (w.while_true (literal 0) (put 0 (literal 5)) ∷ w.do_while (add 0 (literal 7)) (literal 0) ∷ [])

one_turn : source_run (w.shader firsts) defaults here 1 ≡ gives_ints (pos 7 ∷ [])
unfolding leaves_below leaves_before leaves_at with_leaves in_order in_turn loop types_on_the_way selected with_selected finals_from with_elements outputs_from w.routines_below w.defaults_written w.run_of apply root_by root_of int_wrap
one_turn = w.runs firsts defaults here 1 ∙ refl

no_turn : source_run (w.shader firsts) defaults here 0 ≡ spent
unfolding leaves_below leaves_before leaves_at with_leaves in_order in_turn loop types_on_the_way selected with_selected finals_from with_elements outputs_from w.routines_below w.defaults_written w.run_of apply root_by root_of int_wrap
no_turn = w.runs firsts defaults here 0 ∙ refl

-- ---- shader falls(output int r = 0, output int i = 3) { while (i--) r += i; }: 2 + 1 + 0, and the test that fails has its effect too

abbrev falls : w.Whole
falls = shader []
    (int_outputs (0 ∷ 3 ∷ []))
    []
    (w.while_true (w.step PostDecrement int (own 1)) (add 0 (var 1)) ∷ [])

fallen : source_run (w.shader falls) defaults here 3 ≡ gives_ints (pos 3 ∷ negsuc 0 ∷ [])
unfolding leaves_below leaves_before leaves_at with_leaves in_order in_turn loop types_on_the_way selected with_selected finals_from with_elements outputs_from w.routines_below w.defaults_written w.run_of apply root_by root_of int_wrap
fallen = w.runs falls defaults here 3 ∙ refl

fallen_too_far : source_run (w.shader falls) defaults here 2 ≡ spent
unfolding leaves_below leaves_before leaves_at with_leaves in_order in_turn loop types_on_the_way selected with_selected finals_from with_elements outputs_from w.routines_below w.defaults_written w.run_of apply root_by root_of int_wrap
fallen_too_far = w.runs falls defaults here 2 ∙ refl

-- ---- shader bare(output int r = 0) { for (;;) if (++r > 2) break; }: it goes on as if a condition held

abbrev bare : w.Whole
bare = shader []
    (int_outputs (0 ∷ []))
    []
    (for_ever (w.only_if (with_two op.Gt (new_step 0) (literal 2)) w.break_off) ∷ [])

broken_off : source_run (w.shader bare) defaults here 3 ≡ gives_ints (pos 3 ∷ [])
unfolding leaves_below leaves_before leaves_at with_leaves in_order in_turn loop types_on_the_way selected with_selected finals_from with_elements outputs_from w.routines_below w.defaults_written w.run_of apply root_by root_of int_wrap
broken_off = w.runs bare defaults here 3 ∙ refl

bare_spent : source_run (w.shader bare) defaults here 2 ≡ spent
unfolding leaves_below leaves_before leaves_at with_leaves in_order in_turn loop types_on_the_way selected with_selected finals_from with_elements outputs_from w.routines_below w.defaults_written w.run_of apply root_by root_of int_wrap
bare_spent = w.runs bare defaults here 2 ∙ refl

-- ---- shader stays(output int r = 0) { for (r = 1; r < 5; r += 10) break; }: behind `break` no step is evaluated

abbrev stays : w.Whole
stays = shader []
    (int_outputs (0 ∷ []))
    []
    (for_from (set_to 0 (literal 1)) (with_two op.Lt (var 0) (literal 5)) (add_to 0 (literal 10)) w.break_off ∷ [])

stayed : source_run (w.shader stays) defaults here 1 ≡ gives_ints (pos 1 ∷ [])
unfolding leaves_below leaves_before leaves_at with_leaves in_order in_turn loop types_on_the_way selected with_selected finals_from with_elements outputs_from w.routines_below w.defaults_written w.run_of apply root_by root_of int_wrap
stayed = w.runs stays defaults here 1 ∙ refl

-- ---- int first(int n) { for (int i = 0; i < 3; ++i) for (int j = 0; j < 3; ++j) if (i * j == n) return 10 * i + j; return -1; }
-- shader looks(output int r = 0) { r = first(2); r -= first(9); }: `return` leaves both loops, behind 4 + 4 turns; nothing is found in 3 + 9 turns

abbrev first : w.Routine
first = function (Value int) (by_value int ∷ []) (Value int ∷ Value int ∷ [])
    (count_to 1 (literal 3) (count_to 2 (literal 3) (w.only_if (with_two op.Eq (with_two op.Mul (var 1) (var 2)) (var 0))
    (w.give_back (with_two op.Add (with_two op.Mul (literal 10) (var 1)) (var 2)))))
    ∷ w.give_back (minus 1) ∷ [])

abbrev looks : w.Whole
looks = shader (first ∷ [])
    (int_outputs (0 ∷ []))
    []
    (put 0 (w.call 0 (Value int) (w.copied (literal 2) ∷ []))
    ∷ w.evaluate (w.update op.Sub int (own 0) (whole int) [] (w.call 0 (Value int) (w.copied (literal 9) ∷ []))) ∷ [])

looked : source_run (w.shader looks) defaults here 20 ≡ gives_ints (pos 13 ∷ [])
unfolding leaves_below leaves_before leaves_at with_leaves in_order in_turn loop types_on_the_way selected with_selected finals_from with_elements outputs_from w.routines_below w.defaults_written w.run_of apply root_by root_of int_wrap
looked = w.runs looks defaults here 20 ∙ refl

looked_too_long : source_run (w.shader looks) defaults here 19 ≡ spent
unfolding leaves_below leaves_before leaves_at with_leaves in_order in_turn loop types_on_the_way selected with_selected finals_from with_elements outputs_from w.routines_below w.defaults_written w.run_of apply root_by root_of int_wrap
looked_too_long = w.runs looks defaults here 19 ∙ refl
