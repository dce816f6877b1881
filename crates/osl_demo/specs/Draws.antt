-- The generator's draws: a linear congruential sequence of states, and the number that each step gives.
use Rattle.std.specs.Prelude.{ℕ, zero, suc, ◌+◌, ◌*◌, ◌/◌, ◌%◌, ◌^◌}

unfoldable pub next : ℕ → ℕ
next x = (x * 1103515245 + 12345) % 2 ^ 31

-- the state after so many draws
abbrev pub after : ℕ → ℕ → ℕ
after zero x = x
after (suc k) x = next (after k x)

-- the number below m that the next draw gives in a state
unfoldable pub drawn : ℕ → ℕ → ℕ
drawn x m = next x / 65536 % m
