use Rattle.std.proofs.Common.{sym, subst, arith}
use Rattle.osl_tree.specs.Lexical.{Runs, here}
use Rattle.osl_lex.proofs.Standing.{token_of, gap_ends, token_ends}
use Rattle.osl_lex.proofs.Walks.{and_gap, and_token}
use Rattle.osl_lex.proofs.lexer.lex.Goals as goal

pub loop-at-init : goal.loop-at-init
loop-at-init c = record {
  within = omega arith;
  runs = subst (λ ts. Runs c.args.source.now 0 ts 0) (sym c.new-tokens.ensures.items) (here 0);
}

pub loop-at-preserved-in-Gap : goal.loop-at-preserved-in-Gap
loop-at-preserved-in-Gap c =
    let is = rw c.in-Gap.is at c.in-Ok.ensures in
    record {
      within = (gap_ends c.args.source.now c.loop-at.at c.in-Gap.end c.loop-at-test.true is).1;
      runs = and_gap c.in-Gap.end c.loop-at.invariant.runs is;
    }

pub loop-at-smaller : goal.loop-at-smaller
loop-at-smaller c =
    let is = rw c.in-Token.is at c.in-Ok.ensures in
    omega (arith, token_ends c.args.source.now c.loop-at.at c.in-Token.kind c.in-Token.end is)

pub loop-at-preserved : goal.loop-at-preserved
loop-at-preserved c =
    let source = c.args.source.now in
    let is = rw c.in-Token.is at c.in-Ok.ensures in
    let t = token_of c.in-Token.kind c.loop-at.at c.in-Token.end in
    record {
      within = (token_ends source c.loop-at.at c.in-Token.kind c.in-Token.end is).1;
      runs = subst (λ ts. Runs source 0 ts c.in-Token.end) (sym c.in_ok-push-in-Token.ensures.items) (and_token t c.loop-at.invariant.runs is);
    }
