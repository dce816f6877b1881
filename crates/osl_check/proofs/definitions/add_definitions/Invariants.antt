use Rattle.std.proofs.Common.{◌≡◌, drop}
use Rattle.osl_typed.specs.FileTyping.{definitions_added}
use Rattle.osl_check.specs.Above.{above_of}
use Rattle.osl_check.proofs.definitions.add_definitions.Given as goal

abbrev pub invariant-loop-definition : goal.invariant-loop-definition
invariant-loop-definition l = definitions_added (drop l.definition-index l.definitions) (above_of l.above) ≡ definitions_added l.definitions (above_of l.initial.above)
