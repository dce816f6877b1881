-- What a seat knows, as plain data, and how each step changes it.
use Rattle.std.specs.Prelude.{ℕ, ◌+◌, ◌-◌, List, [], Bool, true, false, ◌||◌, if◌then◌else◌, ◌==◌, Option, None}
use Rattle.osl_turnlock.specs.declared.board.Origin.{Origin}
use Rattle.osl_turnlock.specs.declared.board.Known.{Known}
use Rattle.osl_turnlock.specs.declared.board.Stage.{Stage}
use Rattle.osl_turnlock.specs.declared.board.Stage.TheVariants.{Idle, Waiting, Inside, Leaving}
use Rattle.osl_turnlock.specs.Growth.{longer, shorter, came, or_mark}

-- 1 where the seat has a number
abbrev pub busy : Stage → ℕ
busy Idle = 0
busy Waiting = 1
busy Inside = 1
busy Leaving = 1

-- 1 where the slot is out with the seat
abbrev pub carries : Stage → ℕ
carries Idle = 0
carries Waiting = 0
carries Inside = 1
carries Leaving = 0

abbrev pub weight : Bool → ℕ
weight true = 1
weight false = 0

-- no lock's: what is left of a seat that was joined into another
abbrev pub no_origin : {B : Type 0} → Origin B
no_origin = record { seats = 0; start = 0; mark = None; base = None }

module _ {E B : Type 0} where
  abbrev pub stage_of : Known E B → Stage
  stage_of v = v.stage

  -- what the rule adds up over all views
  abbrev pub parts_of : Known E B → ℕ
  parts_of v = v.parts

  abbrev pub busy_of : Known E B → ℕ
  busy_of v = busy v.stage

  abbrev pub carries_of : Known E B → ℕ
  carries_of v = carries v.stage

  abbrev pub own_of : Known E B → ℕ
  own_of v = v.own

  abbrev pub set_of : Known E B → ℕ
  set_of v = weight v.set

  -- 1 where the seat has the number n
  abbrev pub has : ℕ → Known E B → ℕ
  has n v = if v.number == n then busy v.stage else 0

  -- a number was drawn
  abbrev pub waiting : ℕ → Known E B → Known E B
  waiting n v = record v { stage = Waiting; number = n }

  -- the slot was taken, with a value of this log and mark
  abbrev pub entered : List E → Option ℕ → Known E B → Known E B
  entered log mark v = record v { stage = Inside; list = log; mark = mark }

  -- the slot was given back, with a value of this log and mark and k new entries
  abbrev pub left : List E → Option ℕ → ℕ → Known E B → Known E B
  left log mark k v = record v { stage = Leaving; list = log; mark = mark; own = v.own + k; set = v.set || came v.mark mark }

  -- the next number is served
  abbrev pub idle : Known E B → Known E B
  idle v = record v { stage = Idle }

  -- the log so far was seen
  abbrev pub told : List E → Known E B → Known E B
  told log v = record v { list = log }

  -- a seat with `give` spare parts was cut off: what is left, and what it was given
  abbrev pub giver : ℕ → Known E B → Known E B
  giver give v = record v { parts = v.parts - (give + 1) }

  abbrev pub taker : ℕ → Known E B → Known E B
  taker give v = record v { parts = give + 1; stage = Idle; own = 0; set = false }

  -- two seats were joined: what the one has now, and what is left of the other
  abbrev pub both : Known E B → Known E B → Known E B
  both v w = record v { parts = v.parts + w.parts; list = longer v.list w.list; mark = or_mark v.mark w.mark; own = v.own + w.own; set = v.set || w.set; beside = shorter v.list w.list; beside_mark = or_mark w.mark v.mark }

  abbrev pub spent : Known E B
  spent = record { origin = no_origin; parts = 0; stage = Idle; number = 0; list = []; mark = None; own = 0; set = false; beside = []; beside_mark = None }
