-- What holds of the globals at a point.
use Rattle.osl_value.specs.declared.point.Point.{Point}
use Rattle.osl_value.specs.WellFormed.{IsOfType, IsPoint}
use Rattle.osl_layer.specs.declared.global.GlobalName.{GlobalName}
use Rattle.osl_layer.specs.Globals.{type_of_global, global_at}

-- at a point each global has a value of its type
abbrev pub GlobalsAreTyped : Type 0
GlobalsAreTyped = (point : Point) (global : GlobalName) → IsPoint point → IsOfType (type_of_global global) (global_at point global)
