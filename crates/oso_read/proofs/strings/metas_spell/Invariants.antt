use Rattle.std.proofs.Common.{◌≡◌, true, take}
use Rattle.std.specs.List.{list_all}
use Rattle.oso_read.specs.Spelt.{datum_spells}
use Rattle.oso_read.proofs.strings.metas_spell.Given as goal

abbrev pub invariant-loop-meta : goal.invariant-loop-meta
invariant-loop-meta l = list_all datum_spells (take l.meta-index l.metas) ≡ true
