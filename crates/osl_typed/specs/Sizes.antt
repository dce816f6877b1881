-- The sizes of a typed shader: how much code it may become, how many slots that may need, and how many functions are open at once. The nodes that count are the expressions, the promotions, the brace lists, the statements, the declared variables and the shader's parameters. Functions count where they are called, and metadata does not count.
use Rattle.std.specs.Prelude.{ℕ, zero, suc, ◌+◌, ◌*◌, ◌==◌, max, if◌then◌else◌, List, [], ◌∷◌, length, map, Option, None, Some, slice_get, slice_index_or, sum_by}
use Rattle.osl_value.specs.declared.types.Base.TheVariants.{Int, Float, Str}
use Rattle.osl_value.specs.declared.types.Ty.{Ty}
use Rattle.osl_value.specs.Types.{slot_count, only}
use Rattle.osl_layer.specs.Globals.{type_of_global}
use Rattle.osl_overload.specs.declared.signature.Formal.{Formal}
use Rattle.osl_overload.specs.declared.signature.Kind.{Kind}
use Rattle.osl_overload.specs.declared.signature.Kind.TheVariants.{Value, Structure, Void}
use Rattle.osl_typed.specs.declared.expr.Argument.{Argument}
use Rattle.osl_typed.specs.declared.expr.Argument.TheFolds.{fold-TypedExpr, fold-Argument}
use Rattle.osl_typed.specs.declared.expr.Argument.TheOpen as e
use Rattle.osl_typed.specs.declared.expr.Argument.TheOpen.{TypedExpr-F, Argument-F}
use Rattle.osl_typed.specs.declared.expr.Part.{Part}
use Rattle.osl_typed.specs.declared.expr.Root.{Root}
use Rattle.osl_typed.specs.declared.expr.Root.TheVariants as root
use Rattle.osl_typed.specs.declared.expr.TypedExpr.{TypedExpr}
use Rattle.osl_typed.specs.declared.sizes.Weight.{Weight}
use Rattle.osl_typed.specs.declared.stmt.Declared.{Declared}
use Rattle.osl_typed.specs.declared.stmt.TypedForStart.{TypedForStart}
use Rattle.osl_typed.specs.declared.stmt.TypedForStart.TheVariants as start
use Rattle.osl_typed.specs.declared.stmt.TypedInit.{TypedInit}
use Rattle.osl_typed.specs.declared.stmt.TypedInit.TheVariants as init
use Rattle.osl_typed.specs.declared.stmt.TypedStmt.{TypedStmt, TypedStmt-F, fold-TypedStmt}
use Rattle.osl_typed.specs.declared.stmt.TypedStmt.TheOpen as s
use Rattle.osl_typed.specs.declared.shader.TypedFunction.{TypedFunction}
use Rattle.osl_typed.specs.declared.shader.TypedParam.{TypedParam}
use Rattle.osl_typed.specs.declared.shader.TypedShader.{TypedShader}
use Rattle.osl_typed.specs.declared.shader.TypedStructure.{TypedStructure}
use Rattle.osl_typed.specs.Frames.{leaves_of, leaf_count, fields_in, kind_in}
use Rattle.osl_typed.specs.Selections.{types_on_the_way, depth_of, part_kind}

-- ---- weights

abbrev pub nothing : Weight
nothing = record { size = 0; slots = 0; calls = 0 }

infixl 30 ◌&◌
abbrev pub ◌&◌ : Weight → Weight → Weight
a & b = record { size = a.size + b.size; slots = a.slots + b.slots; calls = max a.calls b.calls }

abbrev pub all_of : List Weight → Weight
all_of [] = nothing
all_of (w ∷ ws) = w & all_of ws

abbrev pub or_nothing : Option Weight → Weight
or_nothing None = nothing
or_nothing (Some w) = w

-- ---- slots of types

abbrev pub kind_slots : List TypedStructure → Kind → ℕ
kind_slots structures kind = sum_by slot_count (leaves_of structures kind)

-- ---- nodes by their kinds

-- 4, and of a structure 4 for each leaf
abbrev pub node_size : List TypedStructure → Kind → ℕ
node_size structures (Structure m) = 4 * leaf_count structures (Structure m)
node_size structures _ = 4

-- a node that holds no value of its own
abbrev pub bare : List TypedStructure → Kind → Weight
bare structures kind = record { size = node_size structures kind; slots = 1; calls = 0 }

-- a node with a value; its slots count twice, since a zero of its type may be needed beside it
abbrev pub valued : List TypedStructure → Kind → Weight
valued structures kind = record { size = node_size structures kind; slots = 1 + 2 * kind_slots structures kind; calls = 0 }

-- ---- variables and parts

-- what a variable's kind and fields lead to, one kind after another
unfoldable pub field_kinds : List TypedStructure → Kind → List ℕ → List Kind
field_kinds structures kind [] = []
field_kinds structures kind (field ∷ fields) =
    let next = slice_index_or (fields_in structures kind) field Void in next ∷ field_kinds structures next fields

abbrev pub root_kind : List Kind → Root → Kind
root_kind kinds (root.Variable k) = kind_in kinds k
root_kind kinds (root.Global g) = Value (type_of_global g)

abbrev pub selected_types : Kind → ℕ → List Ty
selected_types (Value ty) n = types_on_the_way ty n
selected_types _ n = []

-- the expressions that indices make
abbrev pub selections : List TypedStructure → List Ty → Weight
selections structures types = all_of (map (λ ty. valued structures (Value ty)) types)

-- the last of a variable and its fields holds a value where no index or component is taken of it; those before it hold none
abbrev pub held : List TypedStructure → Kind → List Ty → Weight
held structures kind [] = record { size = 0; slots = 2 * kind_slots structures kind; calls = 0 }
held structures kind (ty ∷ types) = nothing

abbrev pub variable_weight : List TypedStructure → List Kind → Root → Part → List Weight → Weight
variable_weight structures kinds root part indices =
    let from = root_kind kinds root in
    let types = selected_types part.kind (depth_of part indices) in
    all_of (map (bare structures) (from ∷ field_kinds structures from part.fields))
    & held structures part.kind types
    & selections structures types
    & all_of indices

abbrev pub part_weight : List TypedStructure → Kind → Weight → Part → List Weight → Weight
part_weight structures kind a part indices =
    a
    & all_of (map (valued structures) (field_kinds structures kind part.fields))
    & selections structures (selected_types part.kind (depth_of part indices))
    & all_of indices

-- ---- expressions

-- what the nodes of a body are weighed by: the structures, the kinds of its frame, and what a call of each function adds
pub record Scale : Type 0 where
  pub structures : List TypedStructure
  pub kinds : List Kind
  pub calls : ℕ → Weight

abbrev pub typed_node : Scale → Ty → Weight
typed_node scale ty = valued scale.structures (Value ty)

-- an assignment, with the variable or the part of one that is assigned
abbrev pub stored_weight : Scale → Root → Part → List Weight → Weight → Weight
stored_weight scale root part indices a =
    valued scale.structures (part_kind part indices) & variable_weight scale.structures scale.kinds root part indices & a

abbrev pub expr_weight : Scale → TypedExpr-F Weight Weight → Weight
expr_weight scale (e.Int n) = typed_node scale (only Int)
expr_weight scale (e.Float units) = typed_node scale (only Float)
expr_weight scale (e.Text bytes) = typed_node scale (only Str)
expr_weight scale (e.Variable root part indices) = variable_weight scale.structures scale.kinds root part indices
expr_weight scale (e.PartOf kind a part indices) = part_weight scale.structures kind a part indices
expr_weight scale (e.Paren kind a) = valued scale.structures kind & a
expr_weight scale (e.Promote ty a) = bare scale.structures (Value ty) & a
expr_weight scale (e.Apply op ty operands) = typed_node scale ty & all_of operands
expr_weight scale (e.And a b) = typed_node scale (only Int) & a & b
expr_weight scale (e.Or a b) = typed_node scale (only Int) & a & b
expr_weight scale (e.Choose kind c a b) = valued scale.structures kind & c & a & b
expr_weight scale (e.Assign root part indices a) = stored_weight scale root part indices a
expr_weight scale (e.Update op ty root part indices a) = stored_weight scale root part indices a
expr_weight scale (e.Step step ty root) = typed_node scale ty & typed_node scale ty
expr_weight scale (e.Call f kind args) = valued scale.structures kind & all_of args & scale.calls f
expr_weight scale e.Exit = bare scale.structures Void

abbrev pub argument_weight : Scale → Argument-F Weight Weight → Weight
argument_weight scale (e.In a) = a
argument_weight scale (e.Out root part indices) = variable_weight scale.structures scale.kinds root part indices

unfoldable pub weight : Scale → TypedExpr → Weight
weight scale x = fold-TypedExpr Weight Weight (argument_weight scale) (expr_weight scale) x

unfoldable pub weight_passed : Scale → Argument → Weight
weight_passed scale x = fold-Argument Weight Weight (argument_weight scale) (expr_weight scale) x

-- ---- statements

abbrev pub maybe_weight : Scale → Option TypedExpr → Weight
maybe_weight scale None = nothing
maybe_weight scale (Some a) = weight scale a

abbrev pub init_weight : Scale → Kind → TypedInit → Weight
init_weight scale kind (init.Expr a) = weight scale a
init_weight scale kind (init.List items) = bare scale.structures kind & all_of (map (weight scale) items)

abbrev pub maybe_init : Scale → Kind → Option TypedInit → Weight
maybe_init scale kind None = nothing
maybe_init scale kind (Some x) = init_weight scale kind x

abbrev pub declared_weight : Scale → Declared → Weight
declared_weight scale d = valued scale.structures d.kind & maybe_init scale d.kind d.init

abbrev pub all_declared : Scale → List Declared → Weight
all_declared scale ds = all_of (map (declared_weight scale) ds)

abbrev pub start_weight : Scale → TypedForStart → Weight
start_weight scale start.Nothing = nothing
start_weight scale (start.Expr a) = weight scale a
start_weight scale (start.Declare ds) = all_declared scale ds

abbrev pub statement : Weight
statement = record { size = 4; slots = 1; calls = 0 }

abbrev pub stmt_weight : Scale → TypedStmt-F Weight → Weight
stmt_weight scale s.Empty = statement
stmt_weight scale (s.Block all) = statement & all_of all
stmt_weight scale (s.Declare ds) = statement & all_declared scale ds
stmt_weight scale (s.Expr a) = statement & weight scale a
stmt_weight scale s.Break = statement
stmt_weight scale s.Continue = statement
stmt_weight scale (s.Return a) = statement & maybe_weight scale a
stmt_weight scale (s.If c a b) = statement & weight scale c & a & or_nothing b
stmt_weight scale (s.While c a) = statement & weight scale c & a
stmt_weight scale (s.DoWhile a c) = statement & a & weight scale c
stmt_weight scale (s.For x c step a) = statement & start_weight scale x & maybe_weight scale c & maybe_weight scale step & a

unfoldable pub weight_done : Scale → TypedStmt → Weight
weight_done scale x = fold-TypedStmt Weight (stmt_weight scale) x

abbrev pub body_weight : Scale → List TypedStmt → Weight
body_weight scale body = all_of (map (weight_done scale) body)

-- ---- functions

-- the formal parameters at a call: 8 for each leaf, and their slots twice
abbrev pub formal_weight : List TypedStructure → Formal → Weight
formal_weight structures formal =
    record { size = 8 * leaf_count structures formal.kind; slots = 2 * kind_slots structures formal.kind; calls = 0 }

abbrev pub one_open : Weight → Weight
one_open w = record { size = w.size; slots = w.slots; calls = 1 + w.calls }

-- what a call adds beside its own node and its arguments: the parameters and the whole body
abbrev pub call_weight : List TypedStructure → (ℕ → Weight) → TypedFunction → Weight
call_weight structures calls f =
    one_open (all_of (map (formal_weight structures) f.formals)
    & body_weight (record { structures = structures; kinds = f.frame; calls = calls }) f.body)

abbrev pub weight_of_call : List TypedStructure → (ℕ → Weight) → Option TypedFunction → Weight
weight_of_call structures calls None = nothing
weight_of_call structures calls (Some f) = call_weight structures calls f

-- of the functions below n
unfoldable pub calls_below : List TypedStructure → List TypedFunction → ℕ → ℕ → Weight
calls_below structures functions zero f = nothing
calls_below structures functions (suc n) f =
    if f == n then weight_of_call structures (calls_below structures functions n) (slice_get functions n) else calls_below structures functions n f

-- ---- the shader

abbrev pub scale_of : TypedShader → Scale
scale_of t = record { structures = t.structures; kinds = t.frame; calls = calls_below t.structures t.functions (length t.functions) }

abbrev pub param_weight : Scale → TypedParam → Weight
param_weight scale param = valued scale.structures (Value param.ty) & init_weight scale (Value param.ty) param.init

abbrev pub base_weight : Weight
base_weight = record { size = 64; slots = 64; calls = 0 }

unfoldable pub weight_of : TypedShader → Weight
weight_of t = base_weight & all_of (map (param_weight (scale_of t)) t.params) & body_weight (scale_of t) t.body

abbrev pub size_of : TypedShader → ℕ
size_of t = (weight_of t).size

abbrev pub slots_of : TypedShader → ℕ
slots_of t = (weight_of t).slots

abbrev pub calls_of : TypedShader → ℕ
calls_of t = (weight_of t).calls

-- ---- limits

abbrev pub most_size : ℕ
most_size = 65536

abbrev pub most_slots : ℕ
most_slots = 65536

abbrev pub most_calls : ℕ
most_calls = 16

abbrev pub longest_name : ℕ
longest_name = 255
