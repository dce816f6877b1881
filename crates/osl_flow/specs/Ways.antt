-- Where ways through code go on, as code has it.
use Rattle.std.specs.Prelude.{List, [], ◌∷◌}
use Rattle.osl_flow.specs.declared.contexts.Nexts.{Nexts}
use Rattle.osl_flow.specs.declared.contexts.Nexts.TheVariants as N
use Rattle.osl_rewrites.specs.declared.point.Spot.{Spot}

abbrev pub spots_of : Nexts → List Spot
spots_of N.None = []
spots_of (N.One p) = p ∷ []
spots_of (N.Two p q) = p ∷ q ∷ []
