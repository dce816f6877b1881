-- What clauses say of a lock, a seat and a turn.
use Rattle.std.specs.Prelude.{◌≡◌, ℕ, ◌-◌, List, [], ◌∷◌, Option, Bool, None}
use Rattle.osl_turnlock.specs.declared.board.Stage.TheVariants.{Idle, Inside}
use Rattle.osl_turnlock.specs.declared.lock.Seat.{Seat}
use Rattle.osl_turnlock.specs.declared.lock.TurnLock.{TurnLock}
use Rattle.osl_turnlock.specs.declared.lock.Turn.{Turn}
use Rattle.osl_turnlock.specs.declared.held.Held.{Ghosts}

module _ {T E B : Type 0} where
  -- how many seats there may be
  abbrev pub lock_seats : TurnLock T E B → ℕ
  lock_seats l = l.board.shared.key.seats

  -- the length of the log when the lock was made
  abbrev pub lock_start : TurnLock T E B → ℕ
  lock_start l = l.board.shared.key.start

  -- the mark when the lock was made
  abbrev pub lock_mark : TurnLock T E B → Option ℕ
  lock_mark l = l.board.shared.key.mark

module _ {T E B : Type 0} {g : Ghosts T E B} where
  -- the beginning of the log that the seat has seen
  abbrev pub seat_list : Seat T E B g → List E
  seat_list s = s.place.me.0.list

  -- the mark that the seat has seen
  abbrev pub seat_mark : Seat T E B g → Option ℕ
  seat_mark s = s.place.me.0.mark

  -- how many seats may be split off it
  abbrev pub seat_spare : Seat T E B g → ℕ
  seat_spare s = s.place.me.0.parts - 1

  -- how many entries its turns added
  abbrev pub seat_own : Seat T E B g → ℕ
  seat_own s = s.place.me.0.own

  -- one of its turns set the mark
  abbrev pub seat_set : Seat T E B g → Bool
  seat_set s = s.place.me.0.set

  -- the base of each value that its lock has
  abbrev pub seat_base : Seat T E B g → Option B
  seat_base s = s.place.me.0.origin.base

  -- the seat is of this lock: the lock's `make` gave it, or a `split` from such a seat
  abbrev pub IsOf : TurnLock T E B → Seat T E B g → Type 0
  IsOf l s = (s.place.table_id ≡ l.board.shared.table_id) × (s.place.me.0.origin.seats ≡ lock_seats l) × (s.place.me.0.origin.start ≡ lock_start l) × (s.place.me.0.origin.mark ≡ lock_mark l)

  -- the seat is in no turn
  abbrev pub IsFree : Seat T E B g → Type 0
  IsFree s = (s.place.me.0.stage ≡ Idle) × (s.place.me.1 ≡ [])

  -- the seat is in a turn, and the value is out with it
  abbrev pub IsInTurn : Seat T E B g → Type 0
  IsInTurn s = (s.place.me.0.stage ≡ Inside) × (s.place.me.1 ≡ (0, None) ∷ [])

  -- all that is spare is with the seat, so each other one was joined into it
  abbrev pub IsAlone : TurnLock T E B → Seat T E B g → Type 0
  IsAlone l s = seat_spare s ≡ lock_seats l - 1

  -- what no turn changes: the lock, its start, the base and the spare
  abbrev pub IsSameSeat : Seat T E B g → Seat T E B g → Type 0
  IsSameSeat s s' = (s'.place.table_id ≡ s.place.table_id) × (s'.place.me.0.origin ≡ s.place.me.0.origin) × (s'.place.me.0.parts ≡ s.place.me.0.parts)

  -- the value that the turn has out
  abbrev pub turn_value : Turn T E B g → T
  turn_value t = t.value

  abbrev pub turn_lock : Turn T E B g → TurnLock T E B
  turn_lock t = t.lock.now

  -- the seat as it is while the turn lasts
  abbrev pub turn_seat : Turn T E B g → Seat T E B g
  turn_seat t = t.seat.now

  -- which seat of the caller's that is
  abbrev pub seat_name : Turn T E B g → ℕ
  seat_name t = t.seat.ghost_name
