-- What a machine still comes to, by the meaning of code.
use Rattle.std.specs.Prelude.{ℕ, nat_lt, true, if◌then◌else◌, List, [], ◌∷◌, drop, filter}
use Rattle.osl_value.specs.AnyValue.{AnyValue, argument, zero_value}
use Rattle.osl_apply.specs.Operands.{values}
use Rattle.osl_layer.specs.Layer.{Inputs}
use Rattle.oso_code.specs.declared.raw.Raw.{Raw}
use Rattle.oso_code.specs.CodeRun.{sources_of, is_run, run_sections}
use Rattle.oso_code.specs.Ops.{type_at}
use Rattle.oso_code.specs.Ranges.{steps_of}
use Rattle.oso_code.specs.Run.{State, Sources, Outcome, Jumps, then_do, on_test, test_after, after_body, turn, looped, call_end, range}
use Rattle.oso_code.specs.Steps as S
use Rattle.osl_interp.specs.Known.{is_wired_at, given_reads}
use Rattle.osl_interp.specs.declared.frame.Frame.{Frame}
use Rattle.osl_interp.specs.declared.frame.Frame.TheVariants.{Rest, Called, Test, Body, Step}
use Rattle.oso_step.specs.declared.step.LoopOp.{LoopOp}
use Rattle.osl_interp.specs.declared.frame.Mode.{Mode}
use Rattle.osl_interp.specs.declared.frame.Mode.TheVariants as M
use Rattle.oso_step.specs.declared.step.Span.{Span}
use Rattle.osl_interp.specs.declared.known.Known.{Known}
use Rattle.osl_interp.specs.declared.machine.Machine.{Machine}

-- ---- the machine, with the values of its slots

pub record Configuration : Type 0 where
  pub code : Raw
  pub inputs : List Known
  pub values : List AnyValue
  pub turns : ℕ
  pub frames : List Frame
  pub mode : Mode
  pub at : ℕ
  pub end : ℕ
  pub section : ℕ

abbrev pub configuration : Machine → Configuration
configuration m = record {
  code = m.code.now;
  inputs = m.inputs.items;
  values = values m.slots.items;
  turns = m.turns;
  frames = m.frames.items;
  mode = m.mode;
  at = m.at;
  end = m.end;
  section = m.section;
}

-- ---- what follows a range

abbrev pub run_range : Sources → List S.Step → Span → State → Outcome
run_range from steps r s = range from steps r.start r.end s

-- a loop from its test on
abbrev pub from_test : Sources → List S.Step → LoopOp → State → Outcome
from_test from steps l s =
    looped true (λ s1. test_after from l.condition (run_range from steps l.test s1)) (run_range from steps l.body) (run_range from steps l.step) s

-- a loop from a turn on
abbrev pub from_turn : Sources → List S.Step → LoopOp → State → Outcome
from_turn from steps l s = turn (run_range from steps l.body) (run_range from steps l.step) (from_test from steps l) s

-- a loop from its step on
abbrev pub from_step : Sources → List S.Step → LoopOp → State → Outcome
from_step from steps l s = then_do (run_range from steps l.step s) (from_test from steps l)

-- the rest of the range around a loop
abbrev pub behind : Sources → List S.Step → LoopOp → ℕ → State → Outcome
behind from steps l e s = range from steps l.step.end e s

-- what follows the end of the range that a frame stands for
abbrev pub close : Sources → List S.Step → Frame → Outcome → Outcome
close from steps (Rest r) o = then_do o (run_range from steps r)
close from steps (Called r) o = then_do (call_end o) (run_range from steps r)
close from steps (Test l e) o = then_do (on_test (test_after from l.condition o) (from_turn from steps l)) (behind from steps l e)
close from steps (Body l e) o = then_do (after_body o (from_step from steps l)) (behind from steps l e)
close from steps (Step l e) o = then_do (then_do o (from_test from steps l)) (behind from steps l e)

-- the outermost frame stands first
abbrev pub resume : Sources → List S.Step → List Frame → Outcome → Outcome
resume from steps [] o = o
resume from steps (f ∷ fs) o = close from steps f (resume from steps fs o)

-- ---- what a machine comes to

abbrev pub now : Sources → List S.Step → Mode → ℕ → ℕ → State → Outcome
now from steps M.Run at e s = range from steps at e s
now from steps M.Break at e s = Jumps S.Break s
now from steps M.Continue at e s = Jumps S.Continue s
now from steps M.Return at e s = Jumps S.Return s

-- what symbols hold. The slot of a connected parameter has what was given, which is read in place of the symbol
abbrev pub held_values : Raw → List Known → List AnyValue → ℕ → AnyValue
held_values code inputs values k = if is_wired_at inputs k then zero_value (type_at code.symbols k) else argument values k

-- the state, where n ops were run
abbrev pub state_of : ℕ → Configuration → State
state_of n c = record { values = held_values c.code c.inputs c.values; turns = c.turns; reads = given_reads c.inputs; ops = n }

-- the sections from a number on
abbrev pub later_sections : Inputs → Raw → ℕ → State → Outcome
later_sections inputs code section s =
    run_sections (sources_of code inputs) (steps_of code) (filter (is_run inputs) (drop section code.sections)) s

-- what a machine comes to from a state
abbrev pub comes_from : Inputs → Configuration → State → Outcome
comes_from inputs c s =
    then_do (resume (sources_of c.code inputs) (steps_of c.code) c.frames (now (sources_of c.code inputs) (steps_of c.code) c.mode c.at c.end s)) (later_sections inputs c.code c.section)

-- what a machine comes to under these inputs, where n ops were run so far
abbrev pub meaning : Inputs → ℕ → Configuration → Outcome
meaning inputs n c = comes_from inputs c (state_of n c)

-- 1 where the next op is to be counted: a range of ops is run and not at its end
abbrev pub pending_in : Mode → ℕ → ℕ → ℕ
pending_in M.Run at e = if nat_lt at e then 1 else 0
pending_in M.Break at e = 0
pending_in M.Continue at e = 0
pending_in M.Return at e = 0

abbrev pub pending : Configuration → ℕ
pending c = pending_in c.mode c.at c.end
