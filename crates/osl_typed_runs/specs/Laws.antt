-- What holds of a well typed source, and along its runs: each leaf and each global variable holds a value of its type, in range.
use Rattle.std.specs.Prelude.{◌≡◌, ℕ, Bool, IsTrue, List, Some}
use Rattle.osl_value.specs.declared.point.Point.{Point}
use Rattle.osl_value.specs.WellFormed.{IsPoint}
use Rattle.osl_layer.specs.Layer.{Inputs, AreInputs, LayerResults}
use Rattle.osl_overload.specs.declared.signature.Kind.{Kind}
use Rattle.osl_overload.specs.declared.signature.Kind.TheVariants.{Void}
use Rattle.osl_typed.specs.declared.expr.TypedExpr.{TypedExpr}
use Rattle.osl_typed.specs.declared.shader.TypedDatum.{TypedDatum}
use Rattle.osl_typed.specs.declared.shader.TypedShader.{TypedShader}
use Rattle.osl_typed.specs.declared.stmt.TypedInit.{TypedInit}
use Rattle.osl_typed.specs.declared.stmt.TypedStmt.{TypedStmt}
use Rattle.osl_typed.specs.Expressions.{Calls, eval}
use Rattle.osl_typed.specs.Metadata.{datum_numbers, datum_texts}
use Rattle.osl_typed.specs.SourceRun.{start_of, given_to, functions_of, layer_run, source_run}
use Rattle.osl_typed.specs.SourceTyping.{IsTypingOfSource}
use Rattle.osl_typed.specs.State.{State}
use Rattle.osl_typed.specs.Statements.{begun, exec, exec_all}
use Rattle.osl_welltyped.specs.Kinded.{Rules, kinded}
use Rattle.osl_welltyped.specs.Measures.{by_fault, measured, init_measured, stmt_measured, body_measured}
use Rattle.osl_welltyped.specs.StatementsFit.{init_fits, stmt_fits, body_fits}
use Rattle.osl_welltyped.specs.WellTyped.{variable_fits, rules_below, rules_of, IsDatum, IsWellTyped}
use Rattle.oso_code.specs.Holding.{makes_up}
use Rattle.oso_code.specs.Typed.{AreResults}
use Rattle.osl_typed_runs.specs.Parameters.{parameters_of}
use Rattle.osl_typed_runs.specs.Typed.{IsOfKind, IsTypedState, EndsTyped, StatementEndsTyped, frame_by, types_by, IsTypedFrame, CallsKeep}

-- ---- parts of a body, under its rules: with literals in range, and calls that keep types

-- an expression of a kind, from a typed state
abbrev pub ExpressionsKeepTypes : Type 0
ExpressionsKeepTypes =
    (rules : Rules) (inputs : Inputs) (calls : Calls) (x : TypedExpr) (kind : Kind) (s : State)
    → IsTypedFrame rules inputs → CallsKeep rules.structures rules.functions calls
    → kinded rules x ≡ Some kind → measured by_fault x ≡ 0 → IsTypedState (types_by rules) s
    → EndsTyped (types_by rules) (IsOfKind rules.structures kind) (eval (frame_by rules inputs) calls x s)

-- the initialiser of a variable of a kind
abbrev pub InitialisersKeepTypes : Type 0
InitialisersKeepTypes =
    (rules : Rules) (inputs : Inputs) (calls : Calls) (kind : Kind) (x : TypedInit) (s : State)
    → IsTypedFrame rules inputs → CallsKeep rules.structures rules.functions calls
    → IsTrue (variable_fits rules.structures kind) → IsTrue (init_fits rules kind x) → init_measured by_fault x ≡ 0 → IsTypedState (types_by rules) s
    → EndsTyped (types_by rules) (IsOfKind rules.structures kind) (begun (frame_by rules inputs) calls kind x s)

-- a statement, in a loop or not, of a function that returns this kind
abbrev pub StatementsKeepTypes : Type 0
StatementsKeepTypes =
    (rules : Rules) (inputs : Inputs) (calls : Calls) (result : Kind) (x : TypedStmt) (in_loop : Bool) (s : State)
    → IsTypedFrame rules inputs → CallsKeep rules.structures rules.functions calls
    → IsTrue (stmt_fits rules result x in_loop) → stmt_measured by_fault x ≡ 0 → IsTypedState (types_by rules) s
    → StatementEndsTyped rules.structures (types_by rules) result (exec (frame_by rules inputs) calls x s)

-- and a whole body
abbrev pub BodiesKeepTypes : Type 0
BodiesKeepTypes =
    (rules : Rules) (inputs : Inputs) (calls : Calls) (result : Kind) (body : List TypedStmt) (s : State)
    → IsTypedFrame rules inputs → CallsKeep rules.structures rules.functions calls
    → IsTrue (body_fits rules result body) → body_measured by_fault body ≡ 0 → IsTypedState (types_by rules) s
    → StatementEndsTyped rules.structures (types_by rules) result (exec_all (frame_by rules inputs) calls body s)

-- ---- a well typed shader

-- calls of its functions, with arguments of their parameters' kinds
abbrev pub CallsKeepTypes : Type 0
CallsKeepTypes = (t : TypedShader) → IsWellTyped t → CallsKeep t.structures t.functions (functions_of t)

-- from inputs that fit its parameters, its frame is typed, whichever variables may be named
abbrev pub FramesAreTyped : Type 0
FramesAreTyped =
    (t : TypedShader) (inputs : Inputs) (ready : ℕ) → IsWellTyped t → AreInputs (parameters_of t) inputs
    → IsTypedFrame (rules_below t ready) (given_to t.params inputs)

-- at a point in range, its start is
abbrev pub StartIsTyped : Type 0
StartIsTyped =
    (t : TypedShader) (inputs : Inputs) (point : Point) (budget : ℕ) → IsWellTyped t → AreInputs (parameters_of t) inputs → IsPoint point
    → IsTypedState (types_by (rules_of t)) (start_of t inputs point budget)

-- and so is the end of its run
abbrev pub LayersKeepTypes : Type 0
LayersKeepTypes =
    (t : TypedShader) (inputs : Inputs) (point : Point) (budget : ℕ) → IsWellTyped t → AreInputs (parameters_of t) inputs → IsPoint point
    → StatementEndsTyped t.structures (types_by (rules_of t)) Void (layer_run t inputs (start_of t inputs point budget))

-- so what it gives has the types of its parameters
abbrev pub ResultsAreTyped : Type 0
ResultsAreTyped =
    (t : TypedShader) (inputs : Inputs) (point : Point) (budget : ℕ) (results : LayerResults) → IsWellTyped t → AreInputs (parameters_of t) inputs → IsPoint point
    → (source_run t inputs point budget).results ≡ Some results → AreResults (parameters_of t) results

-- ---- a source

-- what a layer of a source gives has the types of its parameters, each number in its range
abbrev pub SourcesGiveTypes : Type 0
SourcesGiveTypes =
    (t : TypedShader) (inputs : Inputs) (point : Point) (budget : ℕ) (results : LayerResults) → IsTypingOfSource t → AreInputs (parameters_of t) inputs → IsPoint point
    → (source_run t inputs point budget).results ≡ Some results → AreResults (parameters_of t) results

-- ---- metadata

-- the numbers and texts of a datum make up its type, as valid code asks of metadata
abbrev pub MetadataAreTyped : Type 0
MetadataAreTyped =
    (t : TypedShader) (datum : TypedDatum) → IsWellTyped t → IsDatum t datum
    → IsTrue (makes_up datum.ty (datum_numbers datum) (datum_texts datum))
