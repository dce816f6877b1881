-- The parts of what lies in the arena.
use Rattle.std.specs.Prelude.{ℤ, List, [], ◌∷◌, Option, None, Some}
use Rattle.std.specs.Borrow.{Bor}
use Rattle.osl_value.specs.Closures.{full_weight, joined, weighted}
use Rattle.osl_value.specs.declared.closure.Part.{Part}
use Rattle.osl_closure.specs.declared.arena.Arguments.{Arguments}
use Rattle.osl_closure.specs.declared.arena.ArenaText.{ArenaText}
use Rattle.osl_closure.specs.declared.node.Shape.{Shape, Leaf, Add', Scale'}

-- the part of this weight with these arguments
abbrev pub part_with : List ℤ → Arguments → ArenaText → Part
part_with weight arguments text = record {
  weight = weight;
  prim = arguments.prim;
  normal = arguments.normal;
  number = arguments.number;
  text = text.bytes.now;
}

abbrev pub parts : Shape → List Part
parts (Leaf arguments text) = part_with full_weight arguments.now text ∷ []
parts (Add' p a q b) = joined (parts a) (parts b)
parts (Scale' by p a) = weighted by.now (parts a)

-- the empty closure has no shape
abbrev pub parts_of : Option (Bor Shape) → List Part
parts_of None = []
parts_of (Some shape) = parts shape.now
