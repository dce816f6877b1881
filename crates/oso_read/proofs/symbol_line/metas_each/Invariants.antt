use Rattle.std.proofs.Common.{◌≡◌, drop}
use Rattle.osl_valuetext.specs.Literals.{each}
use Rattle.oso_read.specs.Data.{meta_at}
use Rattle.osl_valuetext.specs.Scan.{spoken}
use Rattle.osl_valuetext.proofs.Each.{behind_front}
use Rattle.oso_read.proofs.symbol_line.metas_each.Given as goal

-- the metadata so far, and those of the hints left, are all
abbrev pub invariant-loop-hint : goal.invariant-loop-hint
invariant-loop-hint l = behind_front l.metas.items (each meta_at (spoken (drop l.hint-index l.hints))) ≡ each meta_at (spoken l.hints)
