use Rattle.std.proofs.Common.{◌≡◌, true, false, sym, ap, ◌∙◌, length, arith, rules, tests}
use Rattle.oso_read.specs.Text.{means}
use Rattle.osl_valuetext.specs.Scan.{spoken}
use Rattle.oso_read.proofs.FirstLine.{told_found, told_passed, told_none}
use Rattle.oso_read.proofs.lines.Lines.next.Goals as goal

pub returns-then-means-clause-found : goal.returns-then-means-clause-found
returns-then-means-clause-found c =
    let said = spoken c.split_words.new.into.items in
    let does : means said ≡ true = search rules in
    sym c.loop-line.invariant.same ∙ told_found c.loop-line.self.number c.loop-line.self.rest.now _ _ said c.first_line.ensures.lines c.in_ok-split_words.ensures does

pub loop-line-preserved : goal.loop-line-preserved
loop-line-preserved c =
    let said = spoken c.split_words.new.into.items in
    let does : means said ≡ false = search rules in
    record {
      same = told_passed c.loop-line.self.number c.loop-line.self.rest.now _ _ said c.first_line.ensures.lines c.in_ok-split_words.ensures does ∙ c.loop-line.invariant.same;
      counted = omega (arith, ap length c.first_line.ensures.lines);
    }

pub returns-clause-found : goal.returns-clause-found
returns-clause-found c =
    let none : length c.loop-line.self.rest.now ≡ 0 = search (rules, tests) in
    sym c.loop-line.invariant.same ∙ told_none c.loop-line.self.number c.loop-line.self.rest.now none
