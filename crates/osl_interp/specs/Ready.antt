-- What holds of a machine between steps.
use Rattle.std.specs.Prelude.{◌≡◌, ℕ, ◌<◌, ◌≤◌, nat_lt, true, false, List, [], ◌∷◌, Some, length, slice_get}
use Rattle.osl_value.specs.declared.types.Base.TheVariants.{Int}
use Rattle.osl_value.specs.AnyValue.{AnyValue, argument, type_of}
use Rattle.osl_value.specs.Types.{only}
use Rattle.oso_code.specs.declared.raw.Raw.{Raw}
use Rattle.oso_code.specs.declared.symbol.Class.TheVariants.{Param}
use Rattle.oso_code.specs.declared.symbol.Symbol.{Symbol}
use Rattle.oso_code.specs.CodeRun.{is_parameter_at}
use Rattle.oso_code.specs.Nesting.{IsClosed}
use Rattle.oso_code.specs.Ops.{type_at}
use Rattle.oso_code.specs.Ranges.{steps_of}
use Rattle.oso_code.specs.Steps as S
use Rattle.oso_code.specs.Valid.{IsValid}
use Rattle.osl_interp.specs.Known.{is_wired_at}
use Rattle.osl_interp.specs.Meaning.{Configuration}
use Rattle.osl_interp.specs.declared.frame.Frame.{Frame}
use Rattle.osl_interp.specs.declared.frame.Frame.TheVariants.{Rest, Called, Test, Body, Step}
use Rattle.oso_step.specs.declared.step.LoopOp.{LoopOp}
use Rattle.oso_step.specs.declared.step.Span.{Span}
use Rattle.osl_interp.specs.declared.known.Known.{Known}

-- the inputs and the symbols' values are those of the code
pub record IsLaid (code : Raw) (inputs : List Known) (values : List AnyValue) : Type 0 where
  pub valid : IsValid code
  -- one input for each parameter, and no output is connected
  pub parameters : (k : ℕ) → is_parameter_at (slice_get code.symbols k) ≡ nat_lt k (length inputs)
  pub no_output : (k : ℕ) (symbol : Symbol) → is_wired_at inputs k ≡ true → slice_get code.symbols k ≡ Some symbol → symbol.class ≡ Param
  pub slots : length values ≡ length code.symbols
  pub types : (k : ℕ) → k < length code.symbols → type_of (argument values k) ≡ type_at code.symbols k

-- an op leaves connected parameters as they are
abbrev pub Spares : List Known → S.Step → Type 0
Spares inputs (S.Compute name ty target sources) = is_wired_at inputs target ≡ false
Spares inputs (S.Branch c holds fails) = Unit
Spares inputs (S.Loop tested c test body step) = Unit
Spares inputs (S.Call body) = Unit
Spares inputs (S.Leave way) = Unit

-- the ops from i up to e may be run
pub record IsRange (code : Raw) (inputs : List Known) (i e : ℕ) : Type 0 where
  pub closed : IsClosed (steps_of code) i e
  pub within : e ≤ length (steps_of code)
  pub spares : (k : ℕ) (step : S.Step) → i ≤ k → k < e → slice_get (steps_of code) k ≡ Some step → Spares inputs step

abbrev pub IsSpan : Raw → List Known → Span → Type 0
IsSpan code inputs r = IsRange code inputs r.start r.end

-- a loop whose ranges may be run, in a range that ends at e
pub record IsLoop (code : Raw) (inputs : List Known) (l : LoopOp) (e : ℕ) : Type 0 where
  pub test : IsSpan code inputs l.test
  pub body : IsSpan code inputs l.body
  pub step : IsSpan code inputs l.step
  pub rest : IsRange code inputs l.step.end e
  pub number : l.condition < length code.symbols
  pub condition : type_at code.symbols l.condition ≡ only Int

abbrev pub IsFrame : Raw → List Known → Frame → Type 0
IsFrame code inputs (Rest r) = IsSpan code inputs r
IsFrame code inputs (Called r) = IsSpan code inputs r
IsFrame code inputs (Test l e) = IsLoop code inputs l e
IsFrame code inputs (Body l e) = IsLoop code inputs l e
IsFrame code inputs (Step l e) = IsLoop code inputs l e

abbrev pub AreFrames : Raw → List Known → List Frame → Type 0
AreFrames code inputs [] = Unit
AreFrames code inputs (f ∷ fs) = IsFrame code inputs f × AreFrames code inputs fs

pub record Ready (c : Configuration) : Type 0 where
  pub laid : IsLaid c.code c.inputs c.values
  pub here : IsRange c.code c.inputs c.at c.end
  pub frames : AreFrames c.code c.inputs c.frames
