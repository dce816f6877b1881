use Rattle.std.proofs.Common.{◌≡◌, ◌-◌, ◌++◌}
use Rattle.osl_tree.specs.Lexemes.{unescaped, unescaped_from}
use Rattle.osl_parse.proofs.escape.unescaped.Given as goal

abbrev pub invariant-loop-turn : goal.invariant-loop-turn
invariant-loop-turn l = unescaped l.fn.text ≡ l.bytes ++ unescaped_from (l._turn-end - l._turn) l.rest
