use Rattle.std.proofs.Common.{◌≡◌, true, false, sym, ap, ◌∙◌, length, arith, rules, tests}
use Rattle.osl_lines.specs.Lines.{means}
use Rattle.osl_valuetext.specs.Scan.{spoken}
use Rattle.osl_lines.proofs.FirstLine.{meant_found, meant_passed, meant_none}
use Rattle.osl_lines.proofs.lines.Lines.next.Goals as goal

pub returns-then-means-clause-found : goal.returns-then-means-clause-found
returns-then-means-clause-found c =
    let said = spoken c.split_line.new.into.items in
    let does : means said ≡ true = search rules in
    sym c.loop-comments.invariant.same ∙ meant_found c.args.comments c.loop-comments.self.number c.loop-comments.self.rest.now _ _ said c.first_line.ensures.lines c.in_ok-split_line.ensures does

pub loop-comments-preserved : goal.loop-comments-preserved
loop-comments-preserved c =
    let said = spoken c.split_line.new.into.items in
    let does : means said ≡ false = search rules in
    record {
      same = meant_passed c.args.comments c.loop-comments.self.number c.loop-comments.self.rest.now _ _ said c.first_line.ensures.lines c.in_ok-split_line.ensures does ∙ c.loop-comments.invariant.same;
      counted = omega (arith, ap length c.first_line.ensures.lines);
    }

pub returns-clause-found : goal.returns-clause-found
returns-clause-found c =
    let none : length c.loop-comments.self.rest.now ≡ 0 = search (rules, tests) in
    sym c.loop-comments.invariant.same ∙ meant_none c.args.comments c.loop-comments.self.number c.loop-comments.self.rest.now none
