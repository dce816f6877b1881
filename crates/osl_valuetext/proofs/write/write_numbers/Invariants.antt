use Rattle.std.proofs.Common.{◌≡◌, ◌++◌, map, take}
use Rattle.osl_valuetext.specs.Words.{behind, number_text}
use Rattle.osl_valuetext.proofs.write.write_numbers.Given as goal

abbrev pub invariant-loop-n : goal.invariant-loop-n
invariant-loop-n l = l.out.items ≡ l.fn.out.items ++ behind l.mark (map (number_text l.base) (take l.n-index l.nums))
