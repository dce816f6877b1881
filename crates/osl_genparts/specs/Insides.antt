-- What the code generator is inside: the body, its rules and what its nodes weigh.
use Rattle.std.specs.Prelude.{ℕ, ◌≡◌, ◌≤◌, ◌+◌, Bool, false, not, ◌&&◌, if◌then◌else◌, List, length, take, Some, slice_get}
use Rattle.std.specs.List.{flat_map}
use Rattle.osl_value.specs.declared.types.Ty.{Ty}
use Rattle.osl_value.specs.AnyValue.{is_one_triple}
use Rattle.osl_overload.specs.declared.signature.Kind.TheVariants.{Value}
use Rattle.osl_overload.specs.Kinds.{same_kind}
use Rattle.osl_typed.specs.declared.expr.Argument.{Argument}
use Rattle.osl_typed.specs.declared.expr.Argument.TheOpen as e
use Rattle.osl_typed.specs.declared.expr.Argument.TheOpen.{TypedExpr-F}
use Rattle.osl_typed.specs.declared.expr.Argument.TheViews.{out-TypedExpr}
use Rattle.osl_typed.specs.declared.expr.Root.{Root}
use Rattle.osl_typed.specs.declared.expr.Root.TheVariants as root
use Rattle.osl_typed.specs.declared.expr.TypedExpr.{TypedExpr}
use Rattle.osl_typed.specs.declared.shader.TypedFunction.{TypedFunction}
use Rattle.osl_typed.specs.declared.sizes.Weight.{Weight}
use Rattle.osl_typed.specs.Expressions.{Calls}
use Rattle.osl_typed.specs.Frames.{leaves_of}
use Rattle.osl_typed.specs.Scopes.{is_assignable_global}
use Rattle.osl_typed.specs.Sizes.{Scale, calls_below, kind_slots, most_size, most_slots}
use Rattle.osl_typed.specs.Statements.{below}
use Rattle.osl_welltyped.specs.Kinded.{Rules}
use Rattle.osl_welltyped.specs.KindOf.{kind_of}
use Rattle.osl_welltyped.specs.Measures.{by_height, body_measured}
use Rattle.osl_welltyped.specs.WellTyped.{is_output}
use Rattle.oso_code.specs.declared.op.Op.{Op}
use Rattle.oso_code.specs.declared.symbol.Class.TheVariants as C
use Rattle.oso_code.specs.declared.symbol.Symbol.{Symbol}
use Rattle.oso_code.specs.Valid.{slots_of}
use Rattle.osl_gencode.specs.Bodies.{Body, Room}
use Rattle.osl_gencode.specs.Depths.{call_depth}
use Rattle.osl_genparts.specs.declared.insides.Insides.{Insides}

-- ---- the body

-- outputs may be assigned, and what comes after the parameters
abbrev pub is_stored : Insides → ℕ → Bool
is_stored i k = is_output (slice_get i.formals.now k)

abbrev pub may_write_in : Insides → Root → Bool
may_write_in i (root.Variable k) = is_stored i k
may_write_in i (root.Global g) = not i.in_function && is_assignable_global i.kind g

abbrev pub body_of : Insides → Body
body_of i = record {
  structures = i.structures.now;
  kinds = i.kinds.now;
  types = flat_map (leaves_of i.structures.now) (take i.ready i.kinds.now);
  start = i.start;
  split = i.split;
  shift = i.shift;
  globals = i.globals;
  params = i.params;
  stored = is_stored i;
  calm = false;
}

abbrev pub rules_in : Insides → Rules
rules_in i = record {
  structures = i.structures.now;
  kinds = i.kinds.now;
  ready = i.ready;
  functions = take i.callable i.functions.now;
  may_write = may_write_in i;
}

-- what calls mean
abbrev pub calls_in : Insides → Calls
calls_in i = below i.structures.now i.functions.now i.callable

-- ---- sizes

abbrev pub scale_in : Insides → Scale
scale_in i = record { structures = i.structures.now; kinds = i.kinds.now; calls = calls_below i.structures.now i.functions.now i.callable }

-- the types of the leaves of an expression's value
abbrev pub types_in : Insides → TypedExpr → List Ty
types_in i x = leaves_of i.structures.now (kind_of x)

-- there is room for a part of this weight
pub record HasRoom (ops : List Op) (syms : List Symbol) (w : Weight) : Type 0 where
  pub few_ops : length ops + w.size ≤ most_size
  pub few_symbols : length syms + w.size ≤ most_size
  pub few_slots : slots_of syms + w.slots ≤ most_slots

-- a number or a triple becomes a triple of another type: it takes up the slots that its operand leaves
abbrev pub becomes_triple : TypedExpr-F Argument TypedExpr → Bool
becomes_triple (e.Promote ty a) = is_one_triple ty && not (same_kind (kind_of a) (Value ty))
becomes_triple _ = false

-- the slots that an expression leaves of its weight: those of a copy, and one more
abbrev pub spare_slots : Insides → TypedExpr → ℕ
spare_slots i x = if becomes_triple (out-TypedExpr x) then 0 else 1 + kind_slots i.structures.now (kind_of x)

-- ---- where code may be made

-- no constant is among the parameters
pub record ConstantsAfter (params : ℕ) (syms : List Symbol) : Type 0 where
  pub each : (k : ℕ) (symbol : Symbol) → slice_get syms k ≡ Some symbol → symbol.class ≡ C.Const → params ≤ k

-- the symbols have the body's variables, and its functions are no higher than a source is
pub record IsReady (i : Insides) (syms : List Symbol) : Type 0 where
  pub room : Room (body_of i) syms
  pub constants : ConstantsAfter i.params syms
  pub callable : i.callable ≤ length i.functions.now
  pub low : (n : ℕ) (f : TypedFunction) → slice_get (take i.callable i.functions.now) n ≡ Some f → body_measured by_height f.body + 1 ≤ call_depth
