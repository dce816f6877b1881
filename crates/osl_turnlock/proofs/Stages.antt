-- What a seat is doing, and the slot and the number that it has then.
use Rattle.std.proofs.Common.{◌≡◌, ℕ, ◌+◌, ◌<◌, ◌≤◌, refl, ap, arith}
use Rattle.osl_turnlock.specs.declared.board.Stage.{Stage}
use Rattle.osl_turnlock.specs.declared.board.Stage.TheVariants.{Idle, Waiting, Inside, Leaving}
use Rattle.osl_turnlock.specs.Views.{busy, carries}
use Rattle.osl_turnlock.specs.Rule.{Served}

pub busy_most : (s : Stage) → busy s ≤ 1
busy_most Idle = omega arith
busy_most Waiting = omega arith
busy_most Inside = omega arith
busy_most Leaving = omega arith

pub carrier : (s : Stage) → 0 < carries s → s ≡ Inside
carrier Idle h = absurd (omega arith)
carrier Waiting h = absurd (omega arith)
carrier Inside h = refl
carrier Leaving h = absurd (omega arith)

-- a seat that has no slot is not inside
pub not_inside : (s : Stage) → carries s ≡ 0 → s ≡ Inside → ⊥
not_inside s none inside = let one : carries s ≡ 1 = ap carries inside in omega arith

-- the stage of another seat, where the next number is served
pub served_next : (s : Stage) (turn n : ℕ) → Served turn n s → (n ≡ turn → busy s ≡ 1 → ⊥) → Served (turn + 1) n s
served_next Idle turn n is not = tt
served_next Waiting turn n is not = tt
served_next Inside turn n is not = absurd (not is refl)
served_next Leaving turn n is not = absurd (not is refl)
