use Rattle.std.proofs.Common.{◌≡◌, map, take}
use Rattle.osl_names.proofs.Placing.{kinds_in}
use Rattle.osl_names.proofs.structures.Structures.typed.Given as goal

abbrev pub invariant-loop-fields : goal.invariant-loop-fields
invariant-loop-fields l = l.all ≡ map kinds_in (take l.fields-index l.fields-items)
