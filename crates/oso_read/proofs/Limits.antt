-- What valid code has at most.
use Rattle.std.proofs.Common.{◌≤◌, ◌&&◌, length}
use Rattle.std.specs.Prelude.{nat_le}
use Rattle.std.proofs.lemmas.Bool.{and_parts, leb-true}
use Rattle.oso_code.specs.declared.raw.Raw.{Raw}
use Rattle.oso_code.specs.Symbols.{is_empty}
use Rattle.oso_code.specs.Valid.{most_symbols, most_ops, most_slots, slots_of, deep_faults, IsValid}

pub record Limits (raw : Raw) : Type 0 where
  pub symbols : length raw.symbols ≤ most_symbols
  pub ops : length raw.ops ≤ most_ops
  pub slots : slots_of raw.symbols ≤ most_slots

pub limits : (raw : Raw) → IsValid raw → Limits raw
limits raw valid =
    let symbols = nat_le (length raw.symbols) most_symbols in
    let ops = nat_le (length raw.ops) most_ops in
    let slots = nat_le (slots_of raw.symbols) most_slots in
    let all = and_parts ((symbols && ops) && slots) (is_empty (deep_faults raw)) valid.limits in
    let most = and_parts (symbols && ops) slots all.0 in
    let counts = and_parts symbols ops most.0 in
    record {
      symbols = leb-true (length raw.symbols) most_symbols counts.0;
      ops = leb-true (length raw.ops) most_ops counts.1;
      slots = leb-true (slots_of raw.symbols) most_slots most.1;
    }
