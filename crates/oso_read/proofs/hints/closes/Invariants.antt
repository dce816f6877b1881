use Rattle.std.proofs.Common.{◌≡◌, drop}
use Rattle.osl_valuetext.specs.declared.place.Place.TheVariants.{Braced}
use Rattle.oso_read.specs.Hints.{closes}
use Rattle.oso_read.proofs.hints.closes.Given as goal

abbrev pub invariant-loop-at : goal.invariant-loop-at
invariant-loop-at l = closes l.place (drop l.at l.inside) ≡ closes Braced l.inside
