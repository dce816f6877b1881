-- What the walk over the shapes has found, and what it has left to do.
use Rattle.std.specs.Prelude.{ℕ, ◌+◌, ℤ, List, [], ◌∷◌, ◌++◌, take, drop, map, reverse}
use Rattle.osl_value.specs.Closures.{joined, weighted}
use Rattle.osl_value.specs.declared.closure.Part.{Part}
use Rattle.osl_closure.specs.declared.node.Shape.{Shape, Leaf, Add', Scale'}
use Rattle.osl_closure.specs.declared.walk.Found.{Found}
use Rattle.osl_closure.specs.declared.walk.Task.{Task}
use Rattle.osl_closure.specs.declared.walk.Task.TheVariants.{Visit, Multiply}
use Rattle.osl_closure.specs.Parts.{part_with, parts}
use Rattle.osl_closure.specs.Weights.{times}

-- a found part without where it lies
abbrev pub seen : Found → Part
seen f = part_with f.weight f.arguments.now f.text

abbrev pub seen_all : List Found → List Part
seen_all = map seen

-- a found part with its weight multiplied
abbrev pub found_weighted : List ℤ → Found → Found
found_weighted by f = record f { weight = times by f.weight }

-- one task done
abbrev pub done : Task → List Part → List Part
done (Visit shape) found = joined found (parts shape.now)
done (Multiply from by) found = take from found ++ weighted by.now (drop from found)

-- all tasks done, the first of them first
abbrev pub finish : List Task → List Part → List Part
finish [] found = found
finish (task ∷ tasks) found = finish tasks (done task found)

-- all tasks done, the last of them first
abbrev pub finish_up : List Task → List Part → List Part
finish_up tasks found = finish (reverse tasks) found

-- how many steps a shape takes at most
abbrev pub size : Shape → ℕ
size (Leaf arguments text) = 1
size (Add' p a q b) = size a + size b + 1
size (Scale' by p a) = size a + 2

abbrev pub work_of : Task → ℕ
work_of (Visit shape) = size shape.now
work_of (Multiply from by) = 1
