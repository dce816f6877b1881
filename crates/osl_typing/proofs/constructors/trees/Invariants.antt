use Rattle.std.proofs.Common.{◌≡◌, map}
use Rattle.osl_typed.specs.Typing.{tree_of}
use Rattle.osl_typing.proofs.constructors.trees.Given as goal

abbrev pub invariant-loop-a : goal.invariant-loop-a
invariant-loop-a l = l.trees ≡ map tree_of l.yielded
