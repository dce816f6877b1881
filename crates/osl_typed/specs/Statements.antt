-- The meaning of statements and of calls: an algebra over one node, folded over the tree (OSL specification, sections "Declarations, statements and blocks" and "Functions").
use Rattle.std.specs.Prelude.{ℕ, zero, suc, ◌+◌, ◌==◌, true, false, if◌then◌else◌, List, [], ◌∷◌, ◌++◌, length, drop, map, Option, None, Some, slice_get}
use Rattle.std.specs.List.{flat_map}
use Rattle.osl_value.specs.declared.op_name.OpName.TheVariants.{AAssign}
use Rattle.osl_value.specs.declared.types.Ty.{Ty}
use Rattle.osl_value.specs.AnyValue.{AnyValue, zero_value}
use Rattle.osl_value.specs.Apply.{apply}
use Rattle.osl_overload.specs.declared.signature.Kind.{Kind}
use Rattle.osl_overload.specs.declared.signature.Kind.TheVariants.{Value}
use Rattle.osl_overload.specs.declared.signature.Formal.{Formal}
use Rattle.osl_layer.specs.Layer.{Default}
use Rattle.osl_typed.specs.Ends.{StatementEnd, Doing, Next, Breaks, Continues, Returns, Exits, Spent, then_do, in_turn, Tested, Holds, Fails, Ends, looped}
use Rattle.osl_typed.specs.declared.expr.TypedExpr.{TypedExpr}
use Rattle.osl_typed.specs.declared.stmt.TypedInit.{TypedInit}
use Rattle.osl_typed.specs.declared.stmt.TypedInit.TheVariants as init
use Rattle.osl_typed.specs.declared.stmt.Declared.{Declared}
use Rattle.osl_typed.specs.declared.stmt.TypedForStart.{TypedForStart}
use Rattle.osl_typed.specs.declared.stmt.TypedForStart.TheVariants as start
use Rattle.osl_typed.specs.declared.stmt.TypedStmt.{TypedStmt, TypedStmt-F, fold-TypedStmt}
use Rattle.osl_typed.specs.declared.stmt.TypedStmt.TheOpen as s
use Rattle.osl_typed.specs.declared.shader.TypedStructure.{TypedStructure}
use Rattle.osl_typed.specs.declared.shader.TypedFunction.{TypedFunction}
use Rattle.osl_typed.specs.Frames.{leaf_count, leaves_of, zeros_of, zero_leaves, place_of}
use Rattle.osl_typed.specs.State as expression
use Rattle.osl_typed.specs.State.{State, Environment, Globals, Reads, ExpressionEnd, Gives, in_order, leaves_at, with_leaves, write_leaves}
use Rattle.osl_typed.specs.Parts.{Frame, single, int_of}
use Rattle.osl_typed.specs.Expressions.{Meaning, Calls, Called, Came, Left, Lost, holds, eval}

-- ---- expressions in statements

abbrev pub with_value : {A : Type 0} → ExpressionEnd A → (A → State → StatementEnd) → StatementEnd
with_value (Gives a s) go = go a s
with_value (expression.Exits s) go = Exits s
with_value (expression.Spent s) go = Spent s

abbrev pub tested : ExpressionEnd (List AnyValue) → Tested
tested (Gives v s) = if holds v then Holds s else Fails s
tested (expression.Exits s) = Ends (Exits s)
tested (expression.Spent s) = Ends (Spent s)

-- an expression for what it does
abbrev pub done : Meaning → Doing
done e s = with_value (e s) (λ v s1. Next s1)

-- ---- initialisers

-- an array with these elements from the k-th on
unfoldable pub with_elements : Ty → ℕ → List AnyValue → AnyValue → AnyValue
with_elements ty k [] v = v
with_elements ty k (x ∷ xs) v = with_elements ty (k + 1) xs (apply AAssign ty (v ∷ int_of k ∷ x ∷ []))

-- the first elements or fields; the others are zero
abbrev pub listed : List TypedStructure → Kind → List (List AnyValue) → List AnyValue
listed structures (Value ty) items = with_elements ty 0 (map single items) (zero_value ty) ∷ []
listed structures kind items =
    let given = flat_map (λ item. item) items in
    given ++ drop (length given) (zeros_of structures kind)

abbrev pub begun : Frame → Calls → Kind → TypedInit → Meaning
begun frame calls kind (init.Expr a) s = eval frame calls a s
begun frame calls kind (init.List items) s =
    in_order (map (eval frame calls) items) s (λ vs s1. Gives (listed frame.structures kind vs) s1)

-- a declaration without an initialiser gives zero, each time
abbrev pub begun_or_zero : Frame → Calls → Kind → Option TypedInit → Meaning
begun_or_zero frame calls kind None s = Gives (zeros_of frame.structures kind) s
begun_or_zero frame calls kind (Some x) s = begun frame calls kind x s

abbrev pub declared : Frame → Calls → Declared → Doing
declared frame calls d s =
    with_value (begun_or_zero frame calls d.kind d.init s) (λ vs s1. Next (write_leaves (place_of frame.structures frame.kinds d.number) vs s1))

abbrev pub declared_all : Frame → Calls → List Declared → Doing
declared_all frame calls ds = in_turn (map (declared frame calls) ds)

-- ---- nodes

abbrev pub decided : Meaning → Doing → Doing → Doing
decided c a b s = with_value (c s) (λ v s1. if holds v then a s1 else b s1)

abbrev pub or_nothing : Option Doing → Doing
or_nothing None s = Next s
or_nothing (Some a) s = a s

abbrev pub started : Frame → Calls → TypedForStart → Doing
started frame calls start.Nothing s = Next s
started frame calls (start.Expr a) s = done (eval frame calls a) s
started frame calls (start.Declare ds) s = declared_all frame calls ds s

-- a loop without a condition goes on
abbrev pub condition : Frame → Calls → Option TypedExpr → State → Tested
condition frame calls None s = Holds s
condition frame calls (Some c) s = tested (eval frame calls c s)

abbrev pub step_of : Frame → Calls → Option TypedExpr → Doing
step_of frame calls None s = Next s
step_of frame calls (Some a) s = done (eval frame calls a) s

abbrev pub returned : Frame → Calls → Option TypedExpr → Doing
returned frame calls None s = Returns [] s
returned frame calls (Some a) s = with_value (eval frame calls a s) (λ v s1. Returns v s1)

-- one node of a statement, from the meanings of its parts
abbrev pub stmt_step : Frame → Calls → TypedStmt-F Doing → Doing
stmt_step frame calls s.Empty s0 = Next s0
stmt_step frame calls (s.Block all) s0 = in_turn all s0
stmt_step frame calls (s.Declare ds) s0 = declared_all frame calls ds s0
stmt_step frame calls (s.Expr a) s0 = done (eval frame calls a) s0
stmt_step frame calls s.Break s0 = Breaks s0
stmt_step frame calls s.Continue s0 = Continues s0
stmt_step frame calls (s.Return a) s0 = returned frame calls a s0
stmt_step frame calls (s.If c a b) s0 = decided (eval frame calls c) a (or_nothing b) s0
stmt_step frame calls (s.While c a) s0 = looped true (condition frame calls (Some c)) a Next s0
stmt_step frame calls (s.DoWhile a c) s0 = looped false (condition frame calls (Some c)) a Next s0
stmt_step frame calls (s.For x c step a) s0 =
    then_do (started frame calls x s0) (looped true (condition frame calls c) a (step_of frame calls step))

unfoldable pub exec : Frame → Calls → TypedStmt → Doing
exec frame calls x = fold-TypedStmt Doing (stmt_step frame calls) x

abbrev pub exec_all : Frame → Calls → List TypedStmt → Doing
exec_all frame calls xs = in_turn (map (exec frame calls) xs)

-- ---- functions

-- what the formal parameters hold, the first of them from a place on
unfoldable pub finals_from : List TypedStructure → ℕ → List Formal → Environment → List (List AnyValue)
finals_from structures at [] vars = []
finals_from structures at (formal ∷ formals) vars =
    let count = leaf_count structures formal.kind in
    leaves_at vars at count ∷ finals_from structures (at + count) formals vars

abbrev pub came : List TypedStructure → TypedFunction → List AnyValue → State → Called
came structures f result s = Came result (finals_from structures 0 f.formals s.vars) s.turns s.reads

-- a body that ends without `return` gives zero
abbrev pub call_end : List TypedStructure → TypedFunction → StatementEnd → Called
call_end structures f (Next s) = came structures f (zeros_of structures f.result) s
call_end structures f (Breaks s) = came structures f (zeros_of structures f.result) s
call_end structures f (Continues s) = came structures f (zeros_of structures f.result) s
call_end structures f (Returns v s) = came structures f v s
call_end structures f (Exits s) = Left s.turns s.reads
call_end structures f (Spent s) = Lost s.turns s.reads

-- the types of the leaves of a function's variables
abbrev pub frame_types : List TypedStructure → Option TypedFunction → List Ty
frame_types structures None = []
frame_types structures (Some f) = flat_map (leaves_of structures) f.frame

-- A body begins in an environment of its own: the formal parameters hold the arguments, and its other variables zero. It sees the globals as they are.
abbrev pub entered : List Ty → List (List AnyValue) → Globals → ℕ → Reads → State
entered types args globals turns reads =
    record { vars = with_leaves 0 (flat_map (λ arg. arg) args) (zero_leaves types); globals = globals; turns = turns; reads = reads }

abbrev pub function_frame : List TypedStructure → TypedFunction → Frame
function_frame structures f = record { structures = structures; kinds = f.frame; inputs = λ k. Default }

abbrev pub run_function : List TypedStructure → Calls → Option TypedFunction → State → Called
run_function structures calls None s = Lost s.turns s.reads
run_function structures calls (Some f) s = call_end structures f (exec_all (function_frame structures f) calls f.body s)

-- the functions below n, each of which sees those below itself alone
unfoldable pub below : List TypedStructure → List TypedFunction → ℕ → Calls
below structures functions zero f args globals turns reads = Lost turns reads
below structures functions (suc n) f args globals turns reads =
    if f == n then run_function structures (below structures functions n) (slice_get functions n) (entered (frame_types structures (slice_get functions n)) args globals turns reads)
    else below structures functions n f args globals turns reads
