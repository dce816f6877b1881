use Rattle.std.proofs.Common.{◌≡◌, ◌∙◌, Some, None, Result, true, false, sym, ap, subst, rules}
use Rattle.oso_read.specs.declared.error.OsoError.{OsoError}
use Rattle.oso_read.specs.declared.table.Table.{Table}
use Rattle.oso_read.specs.Faults.{Fault, Fails}
use Rattle.oso_read.specs.Left.{left}
use Rattle.oso_read.specs.Reading.{Declared, declared_from}
use Rattle.osl_valuetext.specs.Scan.{spoken}
use Rattle.oso_read.specs.Text.{told_from}
use Rattle.oso_read.proofs.Walks.{declared_ends, declared_last, declared_more, declared_fails}
use Rattle.oso_read.proofs.parts.read_symbols.Goals as goal

pub returns-then-begins_body-clause-symbols : goal.returns-then-begins_body-clause-symbols
returns-then-begins_body-clause-symbols c =
    let reader = c.loop-line.reader in
    let line = spoken reader.words.items in
    let here : reader.number ≡ Some c.in-Some.line = sym c.number.ensures.value ∙ c.in-Some.is in
    let begins : c.begins_body.result ≡ true = search rules in
    sym c.loop-line.invariant.all
    ∙ declared_ends c.loop-line.table.symbols.items reader.number line (told_from reader.lines.number reader.lines.rest.now) c.in-Some.line here (sym c.begins_body.ensures ∙ begins)

pub returns-in-Err-clause-symbols : goal.returns-in-Err-clause-symbols
returns-in-Err-clause-symbols c =
    let reader = c.loop-line.reader in
    let line = spoken reader.words.items in
    let before = c.loop-line.table.symbols.items in
    let here : reader.number ≡ Some c.in-Some.line = sym c.number.ensures.value ∙ c.in-Some.is in
    let other : c.begins_body.result ≡ false = search rules in
    let fails = declared_fails (λ (table : Table). table.symbols.items) c.in-Err.fault before _ reader.number line (told_from reader.lines.number reader.lines.rest.now) c.in-Some.line here
    (sym c.begins_body.ensures ∙ other) c.said.ensures c.in-Err.ensures in
    subst (λ (r : Result Declared Fault). Fails c.at.result r) c.loop-line.invariant.all
    (subst (λ (e : OsoError). Fails e (declared_from before (left reader))) (sym c.at.ensures) fails)

pub loop-line-preserved : goal.loop-line-preserved
loop-line-preserved c =
    let reader = c.loop-line.reader in
    let line = spoken reader.words.items in
    let before = c.loop-line.table.symbols.items in
    let after = c.in-Ok.table.symbols.items in
    let here : reader.number ≡ Some c.in-Some.line = sym c.number.ensures.value ∙ c.in-Some.is in
    let other : c.begins_body.result ≡ false = search rules in
    record {
      all = ap (declared_from after) c.in_ok-advance.ensures.left
          ∙ sym (declared_more before after _ reader.number line (told_from reader.lines.number reader.lines.rest.now) c.in-Some.line here (sym c.begins_body.ensures ∙ other) c.said.ensures c.in-Ok.ensures)
          ∙ c.loop-line.invariant.all;
      after = c.in_ok-advance.ensures.after ∙ c.loop-line.invariant.after;
    }

pub returns-clause-symbols : goal.returns-clause-symbols
returns-clause-symbols c =
    let reader = c.loop-line.reader in
    let none : reader.number ≡ None = sym c.number.ensures.value ∙ c.in_default.is in
    sym c.loop-line.invariant.all
    ∙ declared_last c.loop-line.table.symbols.items reader.number (spoken reader.words.items) (told_from reader.lines.number reader.lines.rest.now) none
