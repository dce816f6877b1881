use Rattle.std.proofs.Common.{◌≡◌, ◌∙◌, Some, None, Result, true, false, sym, ap, subst, rules}
use Rattle.oso_read.specs.declared.error.OsoError.{OsoError}
use Rattle.oso_read.specs.BodyLines.{body_of}
use Rattle.oso_read.specs.Faults.{Fault, Fails}
use Rattle.oso_read.specs.Left.{left}
use Rattle.oso_read.specs.Reading.{Filled, filled_from}
use Rattle.osl_valuetext.specs.Scan.{spoken}
use Rattle.oso_read.specs.Text.{told_from}
use Rattle.oso_read.proofs.Walks.{filled_ends, filled_last, filled_more, filled_fails}
use Rattle.oso_read.proofs.parts.read_body.Goals as goal

pub returns-then-is_end_line-clause-body : goal.returns-then-is_end_line-clause-body
returns-then-is_end_line-clause-body c =
    let reader = c.loop-line.reader in
    let here : reader.number ≡ Some c.in-Some.line = sym c.number.ensures.value ∙ c.in-Some.is in
    let ends : c.is_end_line.result ≡ true = search rules in
    sym c.loop-line.invariant.all
    ∙ filled_ends c.args.kind c.args.table.now.symbols.items (body_of c.loop-line.body) reader.number (spoken reader.words.items) (told_from reader.lines.number reader.lines.rest.now) c.in-Some.line
    here (sym c.is_end_line.ensures ∙ ends)

pub returns-in-Err-clause-body : goal.returns-in-Err-clause-body
returns-in-Err-clause-body c =
    let reader = c.loop-line.reader in
    let kind = c.args.kind in
    let symbols = c.args.table.now.symbols.items in
    let body = body_of c.loop-line.body in
    let here : reader.number ≡ Some c.in-Some.line = sym c.number.ensures.value ∙ c.in-Some.is in
    let other : c.is_end_line.result ≡ false = search rules in
    let fails = filled_fails (λ (_ : Unit {0}). body_of c.read_body_line.new.body) c.in-Err.fault kind symbols body reader.number (spoken reader.words.items) (told_from reader.lines.number reader.lines.rest.now) c.in-Some.line
    here (sym c.is_end_line.ensures ∙ other) c.in-Err.ensures in
    subst (λ (r : Result Filled Fault). Fails c.at.result r) c.loop-line.invariant.all
    (subst (λ (e : OsoError). Fails e (filled_from kind symbols body (left reader))) (sym c.at.ensures) fails)

pub loop-line-preserved : goal.loop-line-preserved
loop-line-preserved c =
    let reader = c.loop-line.reader in
    let kind = c.args.kind in
    let symbols = c.args.table.now.symbols.items in
    let after = body_of c.read_body_line.new.body in
    let here : reader.number ≡ Some c.in-Some.line = sym c.number.ensures.value ∙ c.in-Some.is in
    let other : c.is_end_line.result ≡ false = search rules in
    record {
      all = ap (filled_from kind symbols after) c.in_ok-advance.ensures.left
          ∙ sym (filled_more kind symbols (body_of c.loop-line.body) after reader.number (spoken reader.words.items) (told_from reader.lines.number reader.lines.rest.now) c.in-Some.line
          here (sym c.is_end_line.ensures ∙ other) c.in_default-read_body_line.ensures)
          ∙ c.loop-line.invariant.all;
      after = c.in_ok-advance.ensures.after ∙ c.loop-line.invariant.after;
    }

pub returns-clause-body : goal.returns-clause-body
returns-clause-body c =
    let reader = c.loop-line.reader in
    let none : reader.number ≡ None = sym c.number.ensures.value ∙ c.in_default.is in
    sym c.loop-line.invariant.all
    ∙ filled_last c.args.kind c.args.table.now.symbols.items (body_of c.loop-line.body) reader.number (spoken reader.words.items) (told_from reader.lines.number reader.lines.rest.now) none
