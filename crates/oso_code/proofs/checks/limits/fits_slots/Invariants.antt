use Rattle.std.proofs.Common.{◌≡◌, ◌+◌, ◌≤◌, drop}
use Rattle.oso_code.specs.Valid.{slots_of}
use Rattle.oso_code.proofs.checks.limits.fits_slots.Given as goal

abbrev pub invariant-loop-symbol : goal.invariant-loop-symbol
invariant-loop-symbol l = (l.total + slots_of (drop l.symbol-index l.symbols) ≡ slots_of l.symbols) × (l.total ≤ 65536)
