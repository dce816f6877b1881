use Rattle.std.proofs.Common.{◌≡◌, ◌++◌, map, take}
use Rattle.osl_valuetext.specs.Words.{behind}
use Rattle.oso_write.specs.Lines.{meta_text}
use Rattle.oso_write.proofs.line.write_metas.Given as goal

abbrev pub invariant-loop-meta : goal.invariant-loop-meta
invariant-loop-meta l = l.out.items ≡ l.fn.out.items ++ behind 32 (map meta_text (take l.meta-index l.metas))
