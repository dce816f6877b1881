use Rattle.std.proofs.Common.{◌≡◌, true, take}
use Rattle.std.specs.List.{list_all}
use Rattle.osl_typed.specs.FileTyping.{is_constant}
use Rattle.osl_check.proofs.constancy.+constant.Given as goal

abbrev pub invariant-are_constant-loop-item : goal.invariant-are_constant-loop-item
invariant-are_constant-loop-item l = list_all is_constant (take l.item-index l.items) ≡ true
