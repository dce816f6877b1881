use Rattle.std.proofs.Common.{◌≡◌, drop}
use Rattle.osl_store.specs.Memory.{content}
use Rattle.osl_store.proofs.memory.bytes_of.Given as goal

abbrev pub invariant-loop-entry : goal.invariant-loop-entry
invariant-loop-entry l = content l.files l.name ≡ content (drop l.entry-index l.files) l.name
