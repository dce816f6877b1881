-- What the rows are written with: types, values and inputs, and the trees of small sources, with their meanings, beside those of `Written`.
use Rattle.std.proofs.Common.{◌≡◌, ℕ, ◌∙◌}
use Rattle.std.specs.Prelude.{ℤ, pos, ◌*◌, true, false, ◌++◌, List, [], ◌∷◌, map, Option, None, Some}
use Rattle.osl_value.specs.declared.op_name.OpName.{OpName}
use Rattle.osl_value.specs.declared.op_name.OpName.TheVariants as op
use Rattle.osl_value.specs.declared.point.Point.{Point}
use Rattle.osl_value.specs.declared.types.Base.TheVariants as base
use Rattle.osl_value.specs.declared.types.Ty.{Ty}
use Rattle.osl_value.specs.AnyValue.{AnyValue, with_numbers}
use Rattle.osl_value.specs.Types.{only}
use Rattle.osl_layer.specs.declared.global.GlobalName.{GlobalName}
use Rattle.osl_layer.specs.Layer.{Default, Inputs, LayerEnd}
use Rattle.osl_overload.specs.declared.signature.Formal.{Formal}
use Rattle.osl_overload.specs.declared.signature.Kind.{Kind}
use Rattle.osl_overload.specs.declared.signature.Kind.TheVariants.{Value, Void}
use Rattle.osl_value.specs.declared.shader_kind.ShaderKind.TheVariants as kinds
use Rattle.osl_typed.specs.declared.expr.Argument.TheOpen as node
use Rattle.osl_typed.specs.declared.expr.Part.{Part}
use Rattle.osl_typed.specs.declared.expr.Root.{Root}
use Rattle.osl_typed.specs.declared.expr.Root.TheVariants as root
use Rattle.osl_typed.specs.declared.expr.Increment.TheVariants.{PreIncrement, PostIncrement}
use Rattle.osl_typed.specs.declared.expr.TypedExpr.TheVariants as e
use Rattle.osl_typed.specs.declared.stmt.Declared.{Declared}
use Rattle.osl_typed.specs.declared.stmt.TypedForStart.TheVariants as start
use Rattle.osl_typed.specs.declared.stmt.TypedInit.TheVariants as init
use Rattle.osl_typed.specs.declared.stmt.TypedStmt.TheVariants as s
use Rattle.osl_typed.specs.Ends.{Doing, Next, Returns, Holds, then_do, in_turn, looped}
use Rattle.osl_typed.specs.Expressions.{Calls, expr_step, whole}
use Rattle.osl_typed.specs.Frames.{place_of, zeros_of}
use Rattle.osl_typed.specs.Parts.{Frame}
use Rattle.osl_typed.specs.State.{write_leaves}
use Rattle.osl_typed.specs.Statements.{with_value, declared, done, tested}
use Rattle.osl_typed.proofs.ExpressionLaws as laws
use Rattle.osl_typed.proofs.StatementLaws as laws2
use Rattle.osl_typed.proofs.Written as w

-- ---- types and values

abbrev pub int : Ty
int = only base.Int

abbrev pub float : Ty
float = only base.Float

abbrev pub color : Ty
color = only base.Color

abbrev pub point : Ty
point = only base.Point

abbrev pub vector : Ty
vector = only base.Vector

abbrev pub normal : Ty
normal = only base.Normal

abbrev pub matrix : Ty
matrix = only base.Matrix

abbrev pub string : Ty
string = only base.Str

abbrev pub closure : Ty
closure = only base.Closure

-- an array of so many ints
abbrev pub row : ℕ → Ty
row n = record { base = base.Int; len = n }

-- the units of a whole number
abbrev pub units : ℕ → ℤ
units n = pos (n * 1000000000)

abbrev pub an_int : ℤ → AnyValue
an_int n = with_numbers int (n ∷ [])

abbrev pub floats : Ty → List ℤ → AnyValue
floats ty xs = with_numbers ty xs

-- ---- runs

abbrev pub here : Point
here = record {
  p = pos 0 ∷ pos 0 ∷ pos 0 ∷ [];
  n = pos 0 ∷ pos 0 ∷ units 2 ∷ [];
  ng = pos 0 ∷ pos 0 ∷ pos 0 ∷ [];
  i = pos 0 ∷ pos 0 ∷ pos 0 ∷ [];
  u = pos 300000000;
  v = pos 100000000;
}

abbrev pub defaults : Inputs
defaults = λ k. Default

abbrev pub gives : List (Option AnyValue) → LayerEnd
gives outputs = record { results = Some (record { outputs = outputs; closure = [] }); reads = λ k. false }

-- of a layer all of whose parameters are outputs of the type int
abbrev pub gives_ints : List ℤ → LayerEnd
gives_ints ns = gives (map (λ n. Some (an_int n)) ns)

abbrev pub spent : LayerEnd
spent = record { results = None; reads = λ k. false }

-- ---- expressions

abbrev pub literal : ℕ → w.Known
literal n = w.int (pos n)

abbrev pub text : List ℕ → w.Known
text bytes = record { tree = e.Text bytes; means = λ frame calls. expr_step frame calls (node.Text bytes); same = λ frame calls. laws.eval-Text frame calls bytes }

abbrev pub own : ℕ → Root
own k = root.Variable k

abbrev pub read : Ty → ℕ → w.Known
read ty k = w.part (own k) (whole ty) []

-- a variable of the type int
abbrev pub var : ℕ → w.Known
var k = read int k

-- a component of a color, by its number
abbrev pub component : ℕ → Part
component c = record { fields = []; kind = Value color; component = Some c }

abbrev pub global : Ty → GlobalName → w.Known
global ty g = w.part (root.Global g) (whole ty) []

-- `x[i]`, of a variable of a type
abbrev pub element : Ty → ℕ → w.Known → w.Known
element ty k i = w.part (own k) (whole ty) (i ∷ [])

-- an operation on two operands that gives an int
abbrev pub with_two : OpName → w.Known → w.Known → w.Known
with_two name a b = w.apply_to name int (a ∷ b ∷ [])

-- `-a`
abbrev pub minus : ℕ → w.Known
minus n = w.apply_to op.Neg int (literal n ∷ [])

-- `x = a`, `x += a` and `x[i] = a`
abbrev pub set_to : ℕ → w.Known → w.Known
set_to k a = w.set (own k) (whole int) [] a

abbrev pub add_to : ℕ → w.Known → w.Known
add_to k a = w.update op.Add int (own k) (whole int) [] a

abbrev pub set_at : Ty → ℕ → w.Known → w.Known → w.Known
set_at ty k i a = w.set (own k) (whole ty) (i ∷ []) a

-- `++x`, which gives the new value, and `x++`, which gives the old one
abbrev pub new_step : ℕ → w.Known
new_step k = w.step PreIncrement int (own k)

abbrev pub old_step : ℕ → w.Known
old_step k = w.step PostIncrement int (own k)

-- ---- arguments that are outputs: a variable of the type int, and `x[i]`

abbrev pub lend : ℕ → w.Passes
lend k = w.lent (own k) (whole int) []

abbrev pub lend_at : Ty → ℕ → w.Known → w.Passes
lend_at ty k i = w.lent (own k) (whole ty) (i ∷ [])

-- ---- statements

-- `x = a;`
abbrev pub put_as : Ty → ℕ → w.Known → w.Does
put_as ty k a = w.evaluate (w.set (own k) (whole ty) [] a)

abbrev pub put : ℕ → w.Known → w.Does
put k a = w.evaluate (set_to k a)

-- `x += a;`
abbrev pub add : ℕ → w.Known → w.Does
add k a = w.evaluate (add_to k a)

-- a variable that is declared, and what it begins with
pub record Begins : Type 0 where
  pub tree : Declared
  pub means : Frame → Calls → Doing
  pub same : (frame : Frame) (calls : Calls) → declared frame calls tree ≡ means frame calls

abbrev pub from_zero : ℕ → Kind → Begins
from_zero k kind = record {
  tree = record { number = k; kind = kind; init = None };
  means = λ frame calls s0. Next (write_leaves (place_of frame.structures frame.kinds k) (zeros_of frame.structures kind) s0);
  same = λ frame calls i s0. Next (write_leaves (place_of frame.structures frame.kinds k) (zeros_of frame.structures kind) s0);
}

abbrev pub from_value : ℕ → Kind → w.Known → Begins
from_value k kind a = record {
  tree = record { number = k; kind = kind; init = Some (init.Expr a.tree) };
  means = λ frame calls s0. with_value (a.means frame calls s0) (λ vs s1. Next (write_leaves (place_of frame.structures frame.kinds k) vs s1));
  same = λ frame calls i s0. with_value (a.same frame calls i s0) (λ vs s1. Next (write_leaves (place_of frame.structures frame.kinds k) vs s1));
}

abbrev declarations : List Begins → List Declared
declarations [] = []
declarations (b ∷ bs) = b.tree ∷ declarations bs

abbrev beginnings : Frame → Calls → List Begins → List Doing
beginnings frame calls [] = []
beginnings frame calls (b ∷ bs) = b.means frame calls ∷ beginnings frame calls bs

pub all_begun : (frame : Frame) (calls : Calls) (bs : List Begins) → map (declared frame calls) (declarations bs) ≡ beginnings frame calls bs
all_begun frame calls [] = λ i. []
all_begun frame calls (b ∷ bs) = λ i. b.same frame calls i ∷ all_begun frame calls bs i

-- a declaration of several variables
abbrev pub declare : List Begins → w.Does
declare bs = record {
  tree = s.Declare (declarations bs);
  means = λ frame calls. in_turn (beginnings frame calls bs);
  same = λ frame calls. laws2.exec-Declare frame calls (declarations bs) ∙ (λ i. in_turn (all_begun frame calls bs i));
}

-- a declaration of one variable without `=`
abbrev pub begin_zero : ℕ → Kind → w.Does
begin_zero k kind = declare (from_zero k kind ∷ [])

-- `return;`
abbrev pub go_back : w.Does
go_back = record { tree = s.Return None; means = λ frame calls s0. Returns [] s0; same = λ frame calls. laws2.exec-Return frame calls None }

-- `for (;;) a`
abbrev pub for_ever : w.Does → w.Does
for_ever a = record {
  tree = s.For start.Nothing None None a.tree;
  means = λ frame calls. looped true (λ s0. Holds s0) (a.means frame calls) Next;
  same = λ frame calls. laws2.exec-For frame calls start.Nothing None None a.tree ∙ (λ i. looped true (λ s0. Holds s0) (a.same frame calls i) Next);
}

-- `for (first; c; next) a`
abbrev pub for_from : w.Known → w.Known → w.Known → w.Does → w.Does
for_from first c next a = record {
  tree = s.For (start.Expr first.tree) (Some c.tree) (Some next.tree) a.tree;
  means = λ frame calls s0. then_do (done (first.means frame calls) s0) (looped true (λ s1. tested (c.means frame calls s1)) (a.means frame calls) (done (next.means frame calls)));
  same = λ frame calls. laws2.exec-For frame calls (start.Expr first.tree) (Some c.tree) (Some next.tree) a.tree
      ∙ (λ i s0. then_do (done (first.same frame calls i) s0) (looped true (λ s1. tested (c.same frame calls i s1)) (a.same frame calls i) (done (next.same frame calls i))));
}

-- `for (int i = 0; i < n; ++i) a`, where i has this number
abbrev pub count_to : ℕ → w.Known → w.Does → w.Does
count_to k n a = w.for_each k (Value int) (literal 0) (with_two op.Lt (var k) n) (new_step k) a

-- ---- functions and shaders

abbrev pub by_value : Ty → Formal
by_value ty = record { kind = Value ty; output = false }

abbrev pub by_output : Ty → Formal
by_output ty = record { kind = Value ty; output = true }

-- a function, by its result, its formal parameters, the kinds of its other variables, and its body
abbrev pub function : Kind → List Formal → List Kind → List w.Does → w.Routine
function result formals others body = record { result = result; formals = formals; kinds = map (λ formal. formal.kind) formals ++ others; body = body }

abbrev pub input : Ty → w.Known → w.Given
input ty from = record { output = false; ty = ty; from = from }

abbrev pub output : Ty → w.Known → w.Given
output ty from = record { output = true; ty = ty; from = from }

-- output parameters of the type int, with these defaults
abbrev pub int_outputs : List ℕ → List w.Given
int_outputs ns = map (λ n. output int (literal n)) ns

-- a shader of the kind `shader`, by the functions before it, its parameters, the kinds of its other variables, and its body
abbrev pub shader : List w.Routine → List w.Given → List Kind → List w.Does → w.Whole
shader functions params others body =
    record { structures = []; functions = functions; kind = kinds.Shader; params = params; kinds = map (λ param. Value param.ty) params ++ others; body = body }

-- void more(output int a, int n) { a += n; }
abbrev pub more : w.Routine
more = function Void (by_output int ∷ by_value int ∷ []) []
    (add 0 (var 1) ∷ [])
