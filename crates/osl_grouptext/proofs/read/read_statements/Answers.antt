use Rattle.std.proofs.Common.{◌≡◌, ℕ, ◌==◌, ◌+◌, ◌-◌, true, false, None, length, take, drop, sym, ap, ◌∙◌, length-take, length-drop, arith, rules, tests}
use Rattle.std.specs.List.{position}
use Rattle.osl_valuetext.specs.Scan.{spoken}
use Rattle.osl_network.specs.declared.statement.Statement.{Statement}
use Rattle.osl_grouptext.specs.Reading.{is_semicolon}
use Rattle.osl_grouptext.specs.Statements.{statement_at}
use Rattle.osl_grouptext.proofs.Numbers.{parted, within, no_semicolon, statement_read, statement_fails, all_read, last_fails, spoken_len, misspelled}
use Rattle.osl_grouptext.proofs.read.read_statements.Goals as goal

pub returns-in-Err-Misspelled-clause-err : goal.returns-in-Err-Misspelled-clause-err
returns-in-Err-Misspelled-clause-err c =
    let rest = c.loop-at.rest.now in
    let at = c.in-Some.at in
    let here = spoken (take at rest) in
    let later = spoken (take (length rest - (at + 1)) (drop (at + 1) rest)) in
    let none = misspelled (λ (statement : Statement). statement) c.in-Err-Misspelled.field-0 (statement_at here) c.in-Err-Misspelled.field-0-is c.in-Err-Misspelled.ensures in
    statement_fails c.loop-at.number (spoken rest) here later c.loop-at.statements.items _ (parted rest at (sym c.in-Some.ensures)) none c.loop-at.invariant.so_far

pub loop-at-preserved : goal.loop-at-preserved
loop-at-preserved c =
    let rest = c.loop-at.rest.now in
    let at = c.in-Some.at in
    let here = spoken (take at rest) in
    let later = spoken (take (length rest - (at + 1)) (drop (at + 1) rest)) in
    record {
      so_far = statement_read c.loop-at.number (spoken rest) here later c.loop-at.statements.items _ c.in-Ok.statement _ (parted rest at (sym c.in-Some.ensures)) c.in-Ok.ensures c.in_ok-push.ensures.items c.loop-at.invariant.so_far;
      within = omega (arith, within (spoken rest) at (sym c.in-Some.ensures), spoken_len rest, length-take (length rest - (at + 1)) (drop (at + 1) rest), length-drop (at + 1) rest, c.loop-at.invariant.within);
    }

pub returns-then-is_empty-clause-ok : goal.returns-then-is_empty-clause-ok
returns-then-is_empty-clause-ok c =
    let rest = c.loop-at.rest.now in
    let nowhere : position is_semicolon (spoken rest) ≡ None = search rules in
    let empty : (length rest == 0) ≡ true = search (rules, tests) in
    let none : (length (spoken rest) == 0) ≡ true = ap (λ (n : ℕ). n == 0) (spoken_len rest) ∙ empty in
    all_read c.loop-at.number (spoken rest) _ _ (no_semicolon (spoken rest) nowhere) none c.loop-at.invariant.so_far

pub returns-else-is_empty-clause-err : goal.returns-else-is_empty-clause-err
returns-else-is_empty-clause-err c =
    let rest = c.loop-at.rest.now in
    let nowhere : position is_semicolon (spoken rest) ≡ None = search rules in
    let filled : (length rest == 0) ≡ false = search (rules, tests) in
    let some : (length (spoken rest) == 0) ≡ false = ap (λ (n : ℕ). n == 0) (spoken_len rest) ∙ filled in
    last_fails c.loop-at.number (spoken rest) _ _ (no_semicolon (spoken rest) nowhere) some c.loop-at.invariant.so_far
