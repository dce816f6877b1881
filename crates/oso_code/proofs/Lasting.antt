-- What no run undoes, for every part of a run.
use Rattle.std.proofs.Common.{ℕ, ◌≤◌, List, length, Option, Bool, arith}
use Rattle.std.specs.Prelude.{slice_get}
use Rattle.osl_value.specs.AnyValue.{AnyValue}
use Rattle.osl_value.specs.Apply.{apply}
use Rattle.oso_code.specs.Lasting.{Lasts, Stays, Keeps, KeepsTest, last_tested}
use Rattle.oso_code.specs.Run.{State, write, Source, Sources, read_from, Outcome, last, then_do, with_value, either, arguments, Tested, on_test, decide, test_after, after_body, turn, loop, looped, call_end, Run, act, run, range}
use Rattle.oso_code.specs.Steps.{Step}
use Rattle.oso_code.proofs.Staying.{value_stays, then_stays, after_stays, call_stays, on_stays, turn_stays, loop_stays, looped_stays, either_stays, decide_stays, test_stays, args_stay, KeepsWriting, act_stays, run_stays}

module _ (P : State → Type 0) (keeps : Lasts P) where
  stays : Stays P
  stays = record { notes = keeps.notes; ticks = keeps.ticks; turns = keeps.turns }

  pub value_lasts : (i : Source) (k : ℕ) (s : State) (go : AnyValue → State → Outcome) → P s → ((v : AnyValue) → Keeps P (go v)) → P (last (with_value (read_from i k s) go))
  value_lasts = value_stays P stays

  pub then_lasts : (o : Outcome) (go : State → Outcome) → P (last o) → Keeps P go → P (last (then_do o go))
  then_lasts = then_stays P stays

  pub after_lasts : (o : Outcome) (go : State → Outcome) → P (last o) → Keeps P go → P (last (after_body o go))
  after_lasts = after_stays P stays

  pub call_lasts : (o : Outcome) → P (last o) → P (last (call_end o))
  call_lasts = call_stays P stays

  pub on_lasts : (t : Tested) (go : State → Outcome) → P (last_tested t) → Keeps P go → P (last (on_test t go))
  on_lasts = on_stays P stays

  pub turn_lasts : (body step rest : State → Outcome) → Keeps P body → Keeps P step → Keeps P rest → Keeps P (turn body step rest)
  turn_lasts = turn_stays P stays

  pub loop_lasts : (n : ℕ) (test : State → Tested) (body step : State → Outcome) → KeepsTest P test → Keeps P body → Keeps P step → Keeps P (loop n test body step)
  loop_lasts = loop_stays P stays

  pub looped_lasts : (tested : Bool) (test : State → Tested) (body step : State → Outcome) → KeepsTest P test → Keeps P body → Keeps P step → Keeps P (looped tested test body step)
  looped_lasts = looped_stays P stays

  pub either_lasts : (b : Bool) (go other : State → Outcome) → Keeps P go → Keeps P other → Keeps P (either b go other)
  either_lasts = either_stays P stays

  pub decide_lasts : (i : Source) (c : ℕ) (s : State) → P s → P (last_tested (decide (read_from i c s)))
  decide_lasts = decide_stays P stays

  pub test_lasts : (from : Sources) (c : ℕ) (o : Outcome) → P (last o) → P (last_tested (test_after from c o))
  test_lasts = test_stays P stays

  module _ (from : Sources) (steps : List Step) where
    pub args_last : (ks : List ℕ) (s : State) (go : List AnyValue → State → Outcome) → P s → ((vs : List AnyValue) → Keeps P (go vs)) → P (last (arguments from ks s go))
    args_last = args_stay P stays from steps

    writing : (o : Option Step) → KeepsWriting P stays from steps o
    writing o name ty target sources is go h s p = args_last sources s (λ vs s1. go (write target (apply name ty vs) s1)) p (λ vs t q. h (write target (apply name ty vs) t) (keeps.writes target (apply name ty vs) t q))

    pub act_lasts : (go : Run) → ((i e : ℕ) → Keeps P (go i e)) → (o : Option Step) (i e : ℕ) → Keeps P (act from go o i e)
    act_lasts go h o = act_stays P stays from steps go h o (writing o)

    pub run_lasts : (n i e : ℕ) → Keeps P (run from steps n i e)
    run_lasts = run_stays P stays from steps (λ k. writing (slice_get steps k))

    pub range_lasts : (i e : ℕ) → Keeps P (range from steps i e)
    range_lasts i e = run_lasts (length steps) i e

-- the count of ops never falls
pub count_lasts : (n : ℕ) → Lasts (λ s. n ≤ s.ops)
count_lasts n = record { writes = λ k v s h. h; notes = λ k s h. h; ticks = λ s h. omega (arith, h); turns = λ t s h e. h }

-- no run gains turns
pub turns_last : (n : ℕ) → Lasts (λ s. s.turns ≤ n)
turns_last n = record { writes = λ k v s h. h; notes = λ k s h. h; ticks = λ s h. h; turns = λ t s h e. omega (arith, h, e) }
