-- The meaning of expressions: an algebra over one node, folded over the tree (OSL specification, section "Expressions"). Operands are evaluated from left to right.
use Rattle.std.specs.Prelude.{ℕ, Bool, true, false, not, if◌then◌else◌, List, [], ◌∷◌, map, None}
use Rattle.osl_value.specs.declared.op_name.OpName.{OpName}
use Rattle.osl_value.specs.declared.op_name.OpName.TheVariants.{Assign, Add, Sub}
use Rattle.osl_value.specs.declared.types.Base.TheVariants.{Int, Float, Str, Closure}
use Rattle.osl_value.specs.declared.types.Ty.{Ty}
use Rattle.osl_value.specs.Numbers.{is_zero, truth}
use Rattle.osl_value.specs.Geometry.{number_at}
use Rattle.osl_value.specs.Types.{only, same_base}
use Rattle.osl_value.specs.AnyValue.{AnyValue, Parts, numbers_of, with_numbers, with_text}
use Rattle.osl_value.specs.Apply.{apply}
use Rattle.osl_overload.specs.declared.signature.Kind.{Kind}
use Rattle.osl_overload.specs.declared.signature.Kind.TheVariants.{Value}
use Rattle.osl_typed.specs.declared.expr.Root.{Root}
use Rattle.osl_typed.specs.declared.expr.Part.{Part}
use Rattle.osl_typed.specs.declared.expr.Increment.{Increment}
use Rattle.osl_typed.specs.declared.expr.Increment.TheVariants.{PreIncrement, PreDecrement, PostIncrement, PostDecrement}
use Rattle.osl_typed.specs.declared.expr.TypedExpr.{TypedExpr}
use Rattle.osl_typed.specs.declared.expr.Argument.{Argument}
use Rattle.osl_typed.specs.declared.expr.Argument.TheOpen as e
use Rattle.osl_typed.specs.declared.expr.Argument.TheOpen.{TypedExpr-F, Argument-F}
use Rattle.osl_typed.specs.declared.expr.Argument.TheFolds.{fold-TypedExpr, fold-Argument}
use Rattle.osl_typed.specs.Selections.{part_kind}
use Rattle.osl_typed.specs.State.{State, Globals, Reads, ExpressionEnd, Gives, Exits, Spent, then_value, in_order}
use Rattle.osl_typed.specs.Parts.{Frame, single, int_of, read_leaves, selection, field_leaves, write_part}

-- the meaning of an expression: from a state, its value as the list of its leaves
abbrev pub Meaning : Type 0
Meaning = State → ExpressionEnd (List AnyValue)

-- ---- calls

-- how a call of a function ends
pub data Called : Type 0 where
  -- with its result, what its formal parameters hold, the turns left and the reads
  Came : (result : List AnyValue) → (formals : List (List AnyValue)) → ℕ → Reads → Called
  -- the layer ends in it
  Left : ℕ → Reads → Called
  -- the budget is spent, or an input is missing
  Lost : ℕ → Reads → Called

-- the functions that may be called: from the values of the arguments, the globals, the turns left and the reads
abbrev pub Calls : Type 0
Calls = ℕ → List (List AnyValue) → Globals → ℕ → Reads → Called

-- an argument that was passed: copied, or a part of a variable, with its indices, that is written at the return
pub data Passed : Type 0 where
  Copied : (value : List AnyValue) → Passed
  Lent : (value : List AnyValue) → Root → Part → (indices : List AnyValue) → Passed

abbrev pub value_passed : Passed → List AnyValue
value_passed (Copied value) = value
value_passed (Lent value root part indices) = value

abbrev pub Passing : Type 0
Passing = State → ExpressionEnd Passed

abbrev pub write_back : Frame → Passed → List AnyValue → State → State
write_back frame (Copied value) final s = s
write_back frame (Lent value root part indices) final s = write_part frame root part indices final s

-- outputs are copied back from left to right
abbrev pub copied_back : Frame → List Passed → List (List AnyValue) → State → State
copied_back frame [] finals s = s
copied_back frame (arg ∷ args) [] s = s
copied_back frame (arg ∷ args) (final ∷ finals) s = copied_back frame args finals (write_back frame arg final s)

abbrev pub counted : ℕ → Reads → State → State
counted turns reads s = record { vars = s.vars; globals = s.globals; turns = turns; reads = reads }

-- what the caller does after a call: outputs are written at a return alone
abbrev pub after_call : Frame → List Passed → State → Called → ExpressionEnd (List AnyValue)
after_call frame args s (Came result finals turns reads) = Gives result (copied_back frame args finals (counted turns reads s))
after_call frame args s (Left turns reads) = Exits (counted turns reads s)
after_call frame args s (Lost turns reads) = Spent (counted turns reads s)

-- ---- values

-- a number that is not zero
abbrev pub holds : List AnyValue → Bool
holds vs = not (is_zero (number_at (numbers_of (single vs)) 0))

abbrev pub truth_value : Bool → List AnyValue
truth_value b = with_numbers (only Int) (truth b ∷ []) ∷ []

-- a value as another type: the literal 0 is the empty closure, and others are converted as by an assignment
abbrev pub promoted : Ty → AnyValue → AnyValue
promoted ty v = if same_base ty.base Closure then Parts [] else apply Assign ty (v ∷ [])

-- the value as the kind of the variable that it is stored in
abbrev pub stored_as : Kind → AnyValue → AnyValue
stored_as (Value ty) v = apply Assign ty (v ∷ [])
stored_as _ v = v

-- ---- parts of variables

-- the part's leaves, after its indices
abbrev pub read_part : Frame → Root → Part → List AnyValue → State → ExpressionEnd (List AnyValue)
read_part frame root part indices s = then_value (read_leaves frame root part s) (λ vs s1. Gives (selection part vs indices) s1)

-- the indices of a part, each one leaf
abbrev pub indexed : {A : Type 0} → List Meaning → State → (List AnyValue → State → ExpressionEnd A) → ExpressionEnd A
indexed indices s go = in_order indices s (λ is s1. go (map single is) s1)

-- ---- steps

abbrev pub whole : Ty → Part
whole ty = record { fields = []; kind = Value ty; component = None }

abbrev pub step_op : Increment → OpName
step_op PreIncrement = Add
step_op PreDecrement = Sub
step_op PostIncrement = Add
step_op PostDecrement = Sub

abbrev pub one_of : Ty → AnyValue
one_of ty = promoted ty (int_of 1)

abbrev pub stepped : Increment → Ty → AnyValue → AnyValue
stepped step ty v = apply (step_op step) ty (v ∷ one_of ty ∷ [])

-- the first forms give the new value, and the others the old one
abbrev pub step_gives : Increment → (old new : AnyValue) → AnyValue
step_gives PreIncrement old new = new
step_gives PreDecrement old new = new
step_gives PostIncrement old new = old
step_gives PostDecrement old new = old

-- ---- nodes

abbrev pub both : Meaning → Meaning → Meaning
both a b s = then_value (a s) (λ v s1. if holds v then then_value (b s1) (λ w s2. Gives (truth_value (holds w)) s2) else Gives (truth_value false) s1)

abbrev pub either : Meaning → Meaning → Meaning
either a b s = then_value (a s) (λ v s1. if holds v then Gives (truth_value true) s1 else then_value (b s1) (λ w s2. Gives (truth_value (holds w)) s2))

abbrev pub chosen : Meaning → Meaning → Meaning → Meaning
chosen c a b s = then_value (c s) (λ v s1. if holds v then a s1 else b s1)

-- the target's indices, then the right side, and then the write
abbrev pub assigned : Frame → Root → Part → List Meaning → Meaning → Meaning
assigned frame root part indices e s =
    indexed indices s (λ is s1. then_value (e s1) (λ v s2. Gives v (write_part frame root part is v s2)))

-- the target's indices, its value, the right side, and then the write
abbrev pub updated : Frame → OpName → Ty → Root → Part → List Meaning → Meaning → Meaning
updated frame op ty root part indices e s =
    indexed indices s (λ is s1. then_value (read_part frame root part is s1) (λ old s2. then_value (e s2) (λ v s3.
    let new = stored_as (part_kind part indices) (apply op ty (single old ∷ single v ∷ [])) ∷ [] in
    Gives new (write_part frame root part is new s3))))

abbrev pub stepping : Frame → Increment → Ty → Root → Meaning
stepping frame step ty root s =
    then_value (read_part frame root (whole ty) [] s) (λ old s1.
    let new = stepped step ty (single old) in
    Gives (step_gives step (single old) new ∷ []) (write_part frame root (whole ty) [] (new ∷ []) s1))

-- a part of a value: the value, the indices, and then the part
abbrev pub part_taken : Frame → Kind → Meaning → Part → List Meaning → Meaning
part_taken frame kind a part indices s =
    then_value (a s) (λ vs s1. indexed indices s1 (λ is s2. Gives (selection part (field_leaves frame kind part vs) is) s2))

abbrev pub called : Frame → Calls → ℕ → List Passing → Meaning
called frame calls f args s =
    in_order args s (λ passed s1. after_call frame passed s1 (calls f (map value_passed passed) s1.globals s1.turns s1.reads))

-- one node of an expression, from the meanings of its parts
abbrev pub expr_step : Frame → Calls → TypedExpr-F Passing Meaning → Meaning
expr_step frame calls (e.Int n) s = Gives (with_numbers (only Int) (n ∷ []) ∷ []) s
expr_step frame calls (e.Float units) s = Gives (with_numbers (only Float) (units ∷ []) ∷ []) s
expr_step frame calls (e.Text bytes) s = Gives (with_text (only Str) bytes ∷ []) s
expr_step frame calls (e.Variable root part indices) s = indexed indices s (λ is s1. read_part frame root part is s1)
expr_step frame calls (e.PartOf kind a part indices) s = part_taken frame kind a part indices s
expr_step frame calls (e.Paren kind a) s = a s
expr_step frame calls (e.Promote ty a) s = then_value (a s) (λ v s1. Gives (promoted ty (single v) ∷ []) s1)
expr_step frame calls (e.Apply op ty operands) s = in_order operands s (λ vs s1. Gives (apply op ty (map single vs) ∷ []) s1)
expr_step frame calls (e.And a b) s = both a b s
expr_step frame calls (e.Or a b) s = either a b s
expr_step frame calls (e.Choose kind c a b) s = chosen c a b s
expr_step frame calls (e.Assign root part indices a) s = assigned frame root part indices a s
expr_step frame calls (e.Update op ty root part indices a) s = updated frame op ty root part indices a s
expr_step frame calls (e.Step step ty root) s = stepping frame step ty root s
expr_step frame calls (e.Call f kind args) s = called frame calls f args s
expr_step frame calls e.Exit s = Exits s

-- an argument is evaluated at its turn; an output takes its indices and its value
abbrev pub argument_step : Frame → Argument-F Passing Meaning → Passing
argument_step frame (e.In a) s = then_value (a s) (λ v s1. Gives (Copied v) s1)
argument_step frame (e.Out root part indices) s =
    indexed indices s (λ is s1. then_value (read_part frame root part is s1) (λ v s2. Gives (Lent v root part is) s2))

unfoldable pub eval : Frame → Calls → TypedExpr → Meaning
eval frame calls x = fold-TypedExpr Passing Meaning (argument_step frame) (expr_step frame calls) x

unfoldable pub pass : Frame → Calls → Argument → Passing
pass frame calls x = fold-Argument Passing Meaning (argument_step frame) (expr_step frame calls) x
