use Rattle.std.proofs.Common.{◌≤◌, ◌-◌, length}
use Rattle.osl_tree.specs.Lexical.{Runs}
use Rattle.osl_lex.proofs.lexer.lex.Given as goal

abbrev pub invariant-loop-at : goal.invariant-loop-at
invariant-loop-at l = record {
  within : l.at ≤ length l.source;
  runs : Runs l.source 0 l.tokens.items l.at;
}

abbrev pub decreases-loop-at : goal.decreases-loop-at
decreases-loop-at l = length l.source - l.at
