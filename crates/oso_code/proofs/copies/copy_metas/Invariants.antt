use Rattle.std.proofs.Common.{◌≡◌, take}
use Rattle.oso_code.proofs.copies.copy_metas.Given as goal

abbrev pub invariant-loop-meta : goal.invariant-loop-meta
invariant-loop-meta l = l.copies.items ≡ take l.meta-index l.metas
