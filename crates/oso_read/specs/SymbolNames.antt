-- The names of symbols, and the room after them.
use Rattle.std.specs.Prelude.{ℕ, ◌+◌, nat_lt, nat_le, Bool, ◌&&◌, List, length, map}
use Rattle.osl_value.specs.declared.types.Ty.{Ty}
use Rattle.osl_value.specs.Types.{slot_count}
use Rattle.oso_code.specs.declared.symbol.Symbol.{Symbol}
use Rattle.oso_code.specs.Valid.{most_symbols, most_slots, slots_of}

abbrev pub names_of : List Symbol → List (List ℕ)
names_of symbols = map (λ symbol. symbol.name) symbols

-- one more symbol of the type passes no limit
abbrev pub has_room : List Symbol → Ty → Bool
has_room before ty = nat_lt (length before) most_symbols && nat_le (slots_of before + slot_count ty) most_slots
