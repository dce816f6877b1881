use Rattle.std.proofs.Common.{◌≡◌, drop}
use Rattle.osl_typed.specs.FileTyping.{fields_added}
use Rattle.osl_check.proofs.definitions.add_fields.Given as goal

abbrev pub invariant-loop-item : goal.invariant-loop-item
invariant-loop-item l = fields_added l.structures l.ty (drop l.item-index l.items) l.fields ≡ fields_added l.structures l.ty l.items l.initial.fields
