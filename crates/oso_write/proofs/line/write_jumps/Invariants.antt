use Rattle.std.proofs.Common.{◌≡◌, ◌++◌, map, take}
use Rattle.std.specs.Fmt.{decimal}
use Rattle.osl_valuetext.specs.Words.{behind}
use Rattle.oso_write.proofs.line.write_jumps.Given as goal

abbrev pub invariant-loop-jump : goal.invariant-loop-jump
invariant-loop-jump l = l.out.items ≡ l.fn.out.items ++ behind 32 (map decimal (take l.jump-index l.jumps))
