use Rattle.std.proofs.Common.{◌≡◌, ℕ, ◌≤◌, ◌<◌, ◌&&◌, not, ◌==◌, true, slice_index}
use Rattle.osl_tree.specs.Lexical.{is_blank}
use Rattle.osl_lex.proofs.piece.begins_line.Given as goal

abbrev pub invariant-loop-line : goal.invariant-loop-line
invariant-loop-line l = record {
  order : l.line ≤ l.at;
  blank : (k : ℕ) → l.line ≤ k → k < l.at → (is_blank (slice_index l.source k) && not (slice_index l.source k == 10)) ≡ true;
}

abbrev pub decreases-loop-line : goal.decreases-loop-line
decreases-loop-line l = l.line
