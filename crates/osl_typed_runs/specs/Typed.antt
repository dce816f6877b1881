-- States in which each leaf and each global variable holds a value of its type, in range, and expressions, statements and calls that keep this.
use Rattle.std.specs.Prelude.{ℕ, ◌≡◌, List, map, Some, slice_get, IsTrue, [], ◌∷◌}
use Rattle.std.specs.List.{All, flat_map, list_all}
use Rattle.osl_value.specs.declared.types.Ty.{Ty}
use Rattle.osl_value.specs.AnyValue.{AnyValue, type_of}
use Rattle.osl_value.specs.WellFormed.{IsValue, IsOfType}
use Rattle.osl_layer.specs.Globals.{type_of_global}
use Rattle.osl_layer.specs.declared.global.GlobalName.{GlobalName}
use Rattle.osl_layer.specs.Layer.{From, Inputs}
use Rattle.osl_overload.specs.declared.signature.Formal.{Formal}
use Rattle.osl_overload.specs.declared.signature.Kind.{Kind}
use Rattle.osl_overload.specs.declared.signature.Kind.TheVariants.{Value}
use Rattle.osl_typed.specs.declared.shader.TypedFunction.{TypedFunction}
use Rattle.osl_typed.specs.declared.shader.TypedStructure.{TypedStructure}
use Rattle.osl_typed.specs.Ends as ends
use Rattle.osl_typed.specs.Ends.{StatementEnd}
use Rattle.osl_typed.specs.Expressions.{Calls, Called, Came, Left, Lost}
use Rattle.osl_typed.specs.Frames.{leaves_of}
use Rattle.osl_typed.specs.Parts.{Frame}
use Rattle.osl_typed.specs.State.{Environment, Globals, Reads, State, ExpressionEnd, Gives, Exits, Spent}
use Rattle.osl_welltyped.specs.Kinded.{Rules}
use Rattle.osl_welltyped.specs.WellTyped.{structures_fit, variable_fits}

-- ---- values

-- values of these types, one of each
pub record AreOfTypes (row : List Ty) (vs : List AnyValue) : Type 0 where
  pub values : All IsValue vs
  pub types : map type_of vs ≡ row

-- the leaves of a value of a kind
abbrev pub IsOfKind : List TypedStructure → Kind → List AnyValue → Type 0
IsOfKind structures kind vs = AreOfTypes (leaves_of structures kind) vs

-- ---- states

-- leaf k holds a value of type k
pub record LeavesHaveTypes (types : List Ty) (vars : Environment) : Type 0 where
  pub each : (k : ℕ) (ty : Ty) → slice_get types k ≡ Some ty → IsOfType ty (vars k)

-- and each global variable one of its own
pub record GlobalsHaveTypes (globals : Globals) : Type 0 where
  pub each : (g : GlobalName) → IsOfType (type_of_global g) (globals g)

-- both
pub record IsTypedState (types : List Ty) (s : State) : Type 0 where
  pub vars : LeavesHaveTypes types s.vars
  pub globals : GlobalsHaveTypes s.globals

-- an expression ends in such a state, and what it gives is so
abbrev pub EndsTyped : {A : Type 0} → List Ty → (A → Type 0) → ExpressionEnd A → Type 0
EndsTyped types Q (Gives a s) = Q a × IsTypedState types s
EndsTyped types Q (Exits s) = IsTypedState types s
EndsTyped types Q (Spent s) = IsTypedState types s

-- and a statement, which returns values of its function's kind
abbrev pub StatementEndsTyped : List TypedStructure → List Ty → Kind → StatementEnd → Type 0
StatementEndsTyped structures types result (ends.Next s) = IsTypedState types s
StatementEndsTyped structures types result (ends.Breaks s) = IsTypedState types s
StatementEndsTyped structures types result (ends.Continues s) = IsTypedState types s
StatementEndsTyped structures types result (ends.Returns v s) = IsOfKind structures result v × IsTypedState types s
StatementEndsTyped structures types result (ends.Exits s) = IsTypedState types s
StatementEndsTyped structures types result (ends.Spent s) = IsTypedState types s

-- ---- frames

-- the frame of a body by its rules
abbrev pub frame_by : Rules → Inputs → Frame
frame_by rules inputs = record { structures = rules.structures; kinds = rules.kinds; inputs = inputs }

-- the types of the leaves of its variables
abbrev pub types_by : Rules → List Ty
types_by rules = flat_map (leaves_of rules.structures) rules.kinds

-- structures are in order, each variable has a kind that a variable may have, and what is connected is a value of the type of its variable
pub record IsTypedFrame (rules : Rules) (inputs : Inputs) : Type 0 where
  pub structures : IsTrue (structures_fit 0 rules.structures)
  pub kinds : IsTrue (list_all (variable_fits rules.structures) rules.kinds)
  pub connected : (k : ℕ) (v : AnyValue) → inputs k ≡ From (Some v) → slice_get rules.kinds k ≡ Some (Value (type_of v))
  pub given : (k : ℕ) (v : AnyValue) → inputs k ≡ From (Some v) → IsValue v

-- ---- calls

-- what formal parameters of these hold
abbrev pub AreArguments : List TypedStructure → List Formal → List (List AnyValue) → Type 0
AreArguments structures [] [] = Unit {0}
AreArguments structures [] (arg ∷ args) = ⊥
AreArguments structures (formal ∷ formals) [] = ⊥
AreArguments structures (formal ∷ formals) (arg ∷ args) = IsOfKind structures formal.kind arg × AreArguments structures formals args

-- a call that comes back gives its result's kind, and its formal parameters hold values of theirs
abbrev pub CallEndsTyped : List TypedStructure → TypedFunction → Called → Type 0
CallEndsTyped structures f (Came result formals turns reads) = IsOfKind structures f.result result × AreArguments structures f.formals formals
CallEndsTyped structures f (Left turns reads) = Unit {0}
CallEndsTyped structures f (Lost turns reads) = Unit {0}

-- from arguments of their kinds
pub record CallsKeep (structures : List TypedStructure) (functions : List TypedFunction) (calls : Calls) : Type 0 where
  pub each : (n : ℕ) (f : TypedFunction) (args : List (List AnyValue)) (globals : Globals) (turns : ℕ) (reads : Reads) → slice_get functions n ≡ Some f → AreArguments structures f.formals args → GlobalsHaveTypes globals
      → CallEndsTyped structures f (calls n args globals turns reads)
