-- The rule of the lock, which holds between any two steps of its threads.
-- Word 0 is the number that is drawn next, word 1 the number that is served, and word 2 the length of the log. Numbers are true
-- numbers here, and the words are what is left of them modulo 2^64.
-- A view with no part is what is left of a seat that was joined into another.
use Rattle.std.specs.Prelude.{◌≡◌, ℕ, ◌+◌, ◌%◌, ◌^◌, ◌<◌, ◌≤◌, ◌⊎◌, List, [], ◌∷◌, length, sum_by, true, false, Option, Some, None, is_some}
use mathlib.Core.Option as maybe
use mathlib.Core.List.{IsPrefix}
use lib.ListN.{get_elem?}
use Rattle.atomic_table.specs.Table.{State}
use Rattle.osl_turnlock.specs.declared.board.Origin.{Origin}
use Rattle.osl_turnlock.specs.declared.board.Known.{Known}
use Rattle.osl_turnlock.specs.declared.board.Opening.{Opening}
use Rattle.osl_turnlock.specs.declared.board.Stage.{Stage}
use Rattle.osl_turnlock.specs.declared.board.Stage.TheVariants.{Idle, Waiting, Inside, Leaving}
use Rattle.osl_turnlock.specs.Growth.{KeepsMark, came}
use Rattle.osl_turnlock.specs.Views.{has, busy_of, carries_of, parts_of, own_of, set_of, weight}

-- the one slot, as the table lists its slots: a value that is at home, or none
abbrev pub Homes : Type 0 → Type 0
Homes T = List (maybe.Option (Option T))

-- a seat that has the slot, or has just given it back, has the number that is served
abbrev pub Served : ℕ → ℕ → Stage → Type 0
Served turn n Idle = Unit {0}
Served turn n Waiting = Unit {0}
Served turn n Inside = n ≡ turn
Served turn n Leaving = n ≡ turn

module _ {T : Type 0} where
  abbrev pub home : T → Homes T
  home x = maybe.some (Some x) ∷ []

  abbrev pub away : Homes T
  away = maybe.none ∷ []

  -- the slot is out where one view has it, and at home where none has
  abbrev pub Lies : Homes T → ℕ → Type 0
  Lies homes carriers = ((homes ≡ away) × (carriers ≡ 1)) ⊎ ((x : T) × (homes ≡ home x) × (carriers ≡ 0))

module _ {E B : Type 0} where
  -- this holds of each view
  abbrev pub EachView : List (Known E B) → (Known E B → Type 0) → Type 0
  EachView views P = (id : ℕ) (v : Known E B) → get_elem? views id ≡ maybe.some v → P v

module _ {T E B : Type 0} where
  -- Numbers and the slot. The numbers that are out are those from `turn` on, `waits` of them, each once.
  -- A seat's parts are 1 and its spare, and all parts are as many as there may be seats.
  pub record Numbered (seats turn waits : ℕ) (homes : Homes T) (views : List (Known E B)) : Type 0 where
    pub below : (n : ℕ) → n < turn → sum_by (has n) views ≡ 0
    pub within : (n : ℕ) → turn ≤ n → n < turn + waits → sum_by (has n) views ≡ 1
    pub above : (n : ℕ) → turn + waits ≤ n → sum_by (has n) views ≡ 0
    pub waiting : sum_by busy_of views ≡ waits
    pub shared : sum_by parts_of views ≡ seats
    pub few : seats ≤ 1024
    pub served : EachView views (λ v. Served turn v.number v.stage)
    pub resting : EachView views (λ v. v.parts ≡ 0 → v.stage ≡ Idle)
    pub slot : Lies homes (sum_by carries_of views)

  -- Lists and marks. There is one log and one mark, which the value at home has, or else the seat that has the slot.
  -- Each view has a beginning of that log, some view has it whole, and a mark that a view has is that mark.
  pub record Listed (log_of : T → List E) (mark_of : T → Option ℕ) (base_of : T → B) (origin : Origin B) (log : List E) (mark : Option ℕ) (count : ℕ) (homes : Homes T) (views : List (Known E B)) : Type 0 where
    pub counted : count ≡ length log
    pub short : length log < 2 ^ 64
    pub opened : EachView views (λ v. 0 < v.parts → v.origin ≡ origin)
    pub seen : EachView views (λ v. 0 < v.parts → IsPrefix v.list log × KeepsMark v.mark mark)
    pub aside : EachView views (λ v. 0 < v.parts → IsPrefix v.beside log × KeepsMark v.beside_mark mark)
    pub newest : (id : ℕ) × (v : Known E B) × (get_elem? views id ≡ maybe.some v) × (0 < v.parts) × (v.list ≡ log)
    pub marked : EachView views (λ v. 0 < v.parts → KeepsMark origin.mark v.mark)
    pub at_home : (x : T) → homes ≡ home x → (log_of x ≡ log) × (mark_of x ≡ mark) × (Some (base_of x) ≡ origin.base)
    pub held : EachView views (λ v. v.stage ≡ Inside → (v.list ≡ log) × (v.mark ≡ mark))

module _ {E B : Type 0} where
  -- Who added what. What the seats added is what the log has beyond the start's; one seat set the mark where it came since, and none did otherwise.
  pub record Summed (origin : Origin B) (log : List E) (mark : Option ℕ) (views : List (Known E B)) : Type 0 where
    pub added : sum_by own_of views + origin.start ≡ length log
    pub sets : sum_by set_of views ≡ weight (came origin.mark mark)
    pub setter : EachView views (λ v. v.set ≡ true → is_some v.mark ≡ true)
    pub nothing : EachView views (λ v. v.parts ≡ 0 → (v.own ≡ 0) × (v.set ≡ false))

module _ {T E B : Type 0} (log_of : T → List E) (mark_of : T → Option ℕ) (base_of : T → B) where
  -- what all views say of the start
  abbrev pub origin_of : Opening T → Origin B
  origin_of key = record { seats = key.seats; start = key.start; mark = key.mark; base = Some (base_of key.value.value) }

  -- the view of the first seat
  abbrev pub first_known : Opening T → Known E B
  first_known key = record { origin = origin_of key; parts = key.seats; stage = Idle; number = 0; list = log_of key.value.value; mark = mark_of key.value.value; own = 0; set = false; beside = []; beside_mark = None }

  -- the rule
  pub record Kept (key : Opening T) (s : State (Option T) (Known E B)) : Type 0 where
    pub turn : ℕ
    pub waits : ℕ
    pub count : ℕ
    pub log : List E
    pub mark : Option ℕ
    pub words : s.words ≡ (turn + waits) % 2 ^ 64 ∷ turn % 2 ^ 64 ∷ count ∷ []
    pub numbers : Numbered key.seats turn waits s.homes s.views
    pub lists : Listed log_of mark_of base_of (origin_of key) log mark count s.homes s.views
    pub sums : Summed (origin_of key) log mark s.views
