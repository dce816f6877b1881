use Rattle.std.proofs.Common.{◌≡◌, ◌≢◌, ◌<◌, drop, ℕ, slice_index_or}
use Rattle.osl_store.specs.Memory.{content, name_of, Entry}
use Rattle.osl_store.proofs.memory.place_of.Given as goal

abbrev pub invariant-loop-at : goal.invariant-loop-at
invariant-loop-at l = record {
  earlier : (d : Entry) (k : ℕ) → k < l.at → name_of (slice_index_or l.files k d) ≢ l.name;
  rest : content l.files l.name ≡ content (drop l.at l.files) l.name;
}
