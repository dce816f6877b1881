use Rattle.std.proofs.Common.{◌≡◌, ◌++◌, map, take}
use Rattle.osl_valuetext.specs.Words.{behind}
use Rattle.oso_write.specs.Lines.{name_at}
use Rattle.oso_write.proofs.line.write_args.Given as goal

abbrev pub invariant-loop-arg : goal.invariant-loop-arg
invariant-loop-arg l = l.out.items ≡ l.fn.out.items ++ behind 32 (map (name_at l.symbols) (take l.arg-index l.args))
