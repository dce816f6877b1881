-- The typed form of an expression, if it has one: a rule for each form, from the typed forms of its parts (OSL specification, section "Expressions").
use Rattle.std.specs.Prelude.{ℕ, zero, suc, pos, ◌==◌, Bool, true, false, not, ◌&&◌, ◌||◌, if◌then◌else◌, ℤ, List, [], ◌∷◌, ◌++◌, length, map, codes, Option, None, Some, is_some, slice_get, bytes_eq}
use Rattle.std.specs.List.{list_all}
use Rattle.osl_value.specs.declared.op_name.OpName.{OpName}
use Rattle.osl_value.specs.declared.op_name.OpName.TheVariants as op
use Rattle.osl_value.specs.declared.types.Base.TheVariants.{Int, Float, Color, Matrix, Str}
use Rattle.osl_value.specs.declared.types.Ty.{Ty}
use Rattle.osl_value.specs.Numbers.{is_zero}
use Rattle.osl_value.specs.Types.{only, is_only}
use Rattle.osl_value.specs.AnyValue.{is_array, is_number, is_one_triple, element_type}
use Rattle.osl_overload.specs.Cost.{cost}
use Rattle.osl_overload.specs.Kinds.{same_kind}
use Rattle.osl_overload.specs.declared.signature.Arg.{Arg}
use Rattle.osl_overload.specs.declared.signature.Formal.{Formal}
use Rattle.osl_overload.specs.declared.signature.Kind.{Kind}
use Rattle.osl_overload.specs.declared.signature.Kind.TheVariants.{Value, Structure, Void}
use Rattle.osl_tree.specs.declared.expr.AssignOp.{AssignOp}
use Rattle.osl_tree.specs.declared.expr.BaseType.{BaseType}
use Rattle.osl_tree.specs.declared.expr.BinaryOp.{BinaryOp}
use Rattle.osl_tree.specs.declared.expr.BinaryOp.TheVariants as by
use Rattle.osl_tree.specs.declared.expr.Expr.{Expr, Expr-F, fold-Expr}
use Rattle.osl_tree.specs.declared.expr.Expr.TheOpen as x
use Rattle.osl_tree.specs.declared.expr.PostfixOp.{PostfixOp}
use Rattle.osl_tree.specs.declared.expr.PostfixOp.TheVariants as after
use Rattle.osl_tree.specs.declared.expr.PrefixOp.{PrefixOp}
use Rattle.osl_tree.specs.declared.expr.PrefixOp.TheVariants as before
use Rattle.osl_typed.specs.declared.expr.Argument.{Argument}
use Rattle.osl_typed.specs.declared.expr.Argument.TheVariants.{In, Out}
use Rattle.osl_typed.specs.declared.expr.Part.{Part}
use Rattle.osl_typed.specs.declared.expr.Root.{Root}
use Rattle.osl_typed.specs.declared.expr.Increment.{Increment}
use Rattle.osl_typed.specs.declared.expr.Increment.TheVariants.{PreIncrement, PreDecrement, PostIncrement, PostDecrement}
use Rattle.osl_typed.specs.declared.expr.TypedExpr.{TypedExpr}
use Rattle.osl_typed.specs.declared.expr.TypedExpr.TheVariants as e
use Rattle.osl_typed.specs.declared.found.Binding.{Binding}
use Rattle.osl_typed.specs.declared.found.Callee.{Callee}
use Rattle.osl_typed.specs.declared.found.Callee.TheVariants.{Declared, Operation, SubstrToEnd, Exit}
use Rattle.osl_typed.specs.declared.found.Form.{Form}
use Rattle.osl_typed.specs.declared.found.Form.TheVariants.{Place, Piece, Whole}
use Rattle.osl_typed.specs.declared.found.Found.{Found}
use Rattle.osl_typed.specs.BuiltIns.{built_in}
use Rattle.osl_typed.specs.Choosing.{chosen, apart}
use Rattle.osl_typed.specs.Operators.{int, float, closure, is_numeric, is_arithmetic, base_named, joined, operation, operator_of, is_convertible, conversion_of}
use Rattle.osl_typed.specs.Scopes.{look, field_named, FieldName, StructureName, Candidate, Sight}

-- ---- answers that may be missing

infixl 10 ◌>>=◌
abbrev pub ◌>>=◌ : {A B : Type 0} → Option A → (A → Option B) → Option B
None >>= f = None
Some a >>= f = f a

-- goes on where a test holds
abbrev pub when : Bool → Option (Unit {0})
when true = Some tt
when false = None

-- all of them, if none is missing
unfoldable pub sequence : {A : Type 0} → List (Option A) → Option (List A)
sequence [] = Some []
sequence (a ∷ rest) = a >>= λ first. sequence rest >>= λ others. Some (first ∷ others)

-- ---- what is known of an expression

abbrev pub tree_of_form : Form → TypedExpr
tree_of_form (Place root writable part indices) = e.Variable root part indices
tree_of_form (Piece kind a part indices) = e.PartOf kind a part indices
tree_of_form (Whole a) = a

abbrev pub tree_of : Found → TypedExpr
tree_of a = tree_of_form a.form

abbrev pub writable_form : Form → Bool
writable_form (Place root writable part indices) = writable
writable_form _ = false

abbrev pub root_of_form : Form → Option Root
root_of_form (Place root writable part indices) = Some root
root_of_form _ = None

-- the variable that it is, or is a part of
abbrev pub root_of : Found → Option Root
root_of a = root_of_form a.form

abbrev pub as_argument : Found → Arg
as_argument a = record { kind = a.kind; zero_literal = a.zero_literal; writable = writable_form a.form }

abbrev pub found : Form → Kind → Found
found form kind = record { form = form; kind = kind; zero_literal = false; is_row = false }

-- an expression that is no variable and no part of one
abbrev pub value : TypedExpr → Kind → Found
value a kind = found (Whole a) kind

abbrev pub whole_of : Kind → Part
whole_of kind = record { fields = []; kind = kind; component = None }

abbrev pub variable : Binding → Found
variable b = found (Place b.root b.writable (whole_of b.kind) []) b.kind

-- an expression: a row of a matrix is none
abbrev pub expression : Found → Option Found
expression a = if a.is_row then None else Some a

-- ---- an expression where a kind is wanted

abbrev pub promotion_to : Kind → TypedExpr → Option TypedExpr
promotion_to (Value ty) a = Some (e.Promote ty a)
promotion_to _ a = None

abbrev pub fit_at : Kind → TypedExpr → Option ℕ → Option TypedExpr
fit_at kind a None = None
fit_at kind a (Some zero) = Some a
fit_at kind a (Some (suc n)) = promotion_to kind a

-- by `=`: as it is where it has the kind, and promoted where it may be
unfoldable pub fit : Kind → Found → Option TypedExpr
fit kind a = fit_at kind (tree_of a) (cost (as_argument a) kind)

-- ---- literals and names

abbrev pub int_literal : ℤ → Found
int_literal n = record { form = Whole (e.Int n); kind = int; zero_literal = is_zero n; is_row = false }

abbrev pub name : List ℕ → List Binding → Option Found
name word bindings = look word bindings >>= λ b. Some (variable b)

-- a parenthesised variable is no variable
abbrev pub in_parens : Found → Found
in_parens a = value (e.Paren a.kind (tree_of a)) a.kind

-- ---- fields, components and indices

abbrev pub with_index : Kind → TypedExpr → Form → Form
with_index kind i (Place root writable part indices) = Place root writable part (indices ++ i ∷ [])
with_index kind i (Piece from a part indices) = Piece from a part (indices ++ i ∷ [])
with_index kind i (Whole a) = Piece kind a (whole_of kind) (i ∷ [])

abbrev pub with_field_in : ℕ → Kind → Part → Part
with_field_in field kind part = record { fields = part.fields ++ field ∷ []; kind = kind; component = part.component }

abbrev pub with_field : Kind → ℕ → Kind → Form → Form
with_field from field kind (Place root writable part indices) = Place root writable (with_field_in field kind part) indices
with_field from field kind (Piece origin a part indices) = Piece origin a (with_field_in field kind part) indices
with_field from field kind (Whole a) = Piece from a (with_field_in field kind (whole_of from)) []

abbrev pub with_component_in : ℕ → Part → Part
with_component_in c part = record { fields = part.fields; kind = part.kind; component = Some c }

abbrev pub with_component : Kind → ℕ → Form → Form
with_component kind c (Place root writable part indices) = Place root writable (with_component_in c part) indices
with_component kind c (Piece from a part indices) = Piece from a (with_component_in c part) indices
with_component kind c (Whole a) = Piece kind a (with_component_in c (whole_of kind)) []

-- the type of an element or a component, or a row of a matrix
abbrev pub indexed_type : Bool → Ty → Option (Ty × Bool)
indexed_type true ty = Some (only Float, false)
indexed_type false ty =
    if is_array ty then Some (element_type ty, false)
    else if is_one_triple ty then Some (only Float, false)
    else if is_only Matrix ty then Some (ty, true)
    else None

abbrev pub indexed_kind : Bool → Kind → Option (Ty × Bool)
indexed_kind is_row (Value ty) = indexed_type is_row ty
indexed_kind is_row _ = None

unfoldable pub index : Found → Found → Option Found
index a i = do
  number ← expression i
  ok ← when (same_kind number.kind int)
  to ← indexed_kind a.is_row a.kind
  Some (record { form = with_index a.kind (tree_of number) a.form; kind = Value (to.0); zero_literal = false; is_row = to.1 })

-- `.r .g .b` of a color, and `.x .y .z` of a point, a vector or a normal
abbrev pub component_in : List ℕ → List ℕ → List ℕ → List ℕ → Option ℕ
component_in first second third word =
    if bytes_eq word first then Some 0 else if bytes_eq word second then Some 1 else if bytes_eq word third then Some 2 else None

abbrev pub component_of : Ty → List ℕ → Option ℕ
component_of ty word =
    if is_only Color ty then component_in (codes "r") (codes "g") (codes "b") word
    else if is_one_triple ty then component_in (codes "x") (codes "y") (codes "z") word
    else None

abbrev pub fields_of_structure : List StructureName → ℕ → List FieldName
fields_of_structure structures m = elim (slice_get structures m) [ None ↦ [] | Some structure ↦ structure.fields ]

abbrev pub selected_by : List StructureName → List ℕ → Found → Kind → Option Found
selected_by structures word a (Value ty) = component_of ty word >>= λ c. Some (found (with_component a.kind c a.form) float)
selected_by structures word a (Structure m) =
    field_named 0 (fields_of_structure structures m) word >>= λ field. Some (found (with_field a.kind (field.0) (field.1) a.form) (field.1))
selected_by structures word a Void = None

unfoldable pub field : List StructureName → List ℕ → Found → Option Found
field structures word a = expression a >>= λ b. selected_by structures word b b.kind

-- ---- operators of one operand

abbrev pub plain_type : Kind → Option Ty
plain_type (Value ty) = Some ty
plain_type _ = None

-- an operation on one operand, if the operand's type is fit for it
abbrev pub applied : OpName → Found → (Ty → Bool) → (Ty → Ty) → Option Found
applied name a test gives = do
  b ← expression a
  ty ← plain_type b.kind
  ok ← when (test ty)
  Some (value (e.Apply name (gives ty) (tree_of b ∷ [])) (Value (gives ty)))

abbrev pub is_whole : Part → List TypedExpr → Bool
is_whole part indices = (length part.fields == 0) && not (is_some part.component) && (length indices == 0)

abbrev pub whole_variable : Form → Option Root
whole_variable (Place root writable part indices) = if writable && is_whole part indices then Some root else None
whole_variable _ = None

-- `++` and `--` take a whole variable, of ints or of floats, that may be assigned
abbrev pub stepped : Increment → Found → Option Found
stepped step a = do
  b ← expression a
  ty ← plain_type b.kind
  ok ← when (is_number ty)
  root ← whole_variable b.form
  Some (value (e.Step step ty root) b.kind)

unfoldable pub prefixed : PrefixOp → Found → Option Found
prefixed before.Minus a = applied op.Neg a is_arithmetic (λ ty. ty)
prefixed before.Plus a = applied op.Assign a is_arithmetic (λ ty. ty)
prefixed before.Complement a = applied op.Compl a (is_only Int) (λ ty. ty)
prefixed before.Not a = applied op.Not a is_number (λ ty. only Int)
prefixed before.Increment a = stepped PreIncrement a
prefixed before.Decrement a = stepped PreDecrement a

unfoldable pub postfixed : PostfixOp → Found → Option Found
postfixed after.Increment a = stepped PostIncrement a
postfixed after.Decrement a = stepped PostDecrement a

-- a value made another one of this type
abbrev pub converted : Ty → Found → Option Found
converted to a = do
  b ← expression a
  from ← plain_type b.kind
  ok ← when (is_convertible to from)
  Some (value (e.Apply (conversion_of to from) to (tree_of b ∷ [])) (Value to))

unfoldable pub cast : BaseType → Found → Option Found
cast to a = converted (only (base_named to)) a

-- ---- constructors

abbrev pub trees : List Found → List TypedExpr
trees args = map tree_of args

abbrev pub are_numbers : List Found → Bool
are_numbers args = list_all (λ a. is_numeric a.kind) args

abbrev pub made_of : OpName → Ty → List Found → Option Found
made_of name ty args = when (are_numbers args) >>= λ ok. Some (value (e.Apply name ty (trees args)) (Value ty))

-- a matrix of one number or of 16, a triple of three, and else what a cast makes of one value
abbrev pub construct_from : Ty → List Found → Option Found
construct_from ty args =
    if is_only Matrix ty && (length args == 1 || length args == 16) then made_of op.Matrix ty args
    else if is_one_triple ty && (length args == 3) then made_of op.Triple ty args
    else elim args [ [] ↦ None | a ∷ more ↦ if length more == 0 then converted ty a else None ]

unfoldable pub construct : BaseType → List Found → Option Found
construct to args = sequence (map expression args) >>= construct_from (only (base_named to))

-- ---- operators of two operands

abbrev pub both_numbers : (TypedExpr → TypedExpr → TypedExpr) → Found → Found → Option Found
both_numbers node a b = when (is_numeric a.kind && is_numeric b.kind) >>= λ ok. Some (value (node (tree_of a) (tree_of b)) int)

abbrev pub operated : BinaryOp → Found → Found → Option Found
operated operator a b = do
  o ← operation operator a.kind b.kind
  left ← fit o.left a
  right ← fit o.right b
  Some (value (e.Apply o.op o.ty (left ∷ right ∷ [])) (Value o.ty))

abbrev pub joined_by : BinaryOp → Found → Found → Option Found
joined_by by.And a b = both_numbers e.And a b
joined_by by.Or a b = both_numbers e.Or a b
joined_by operator a b = operated operator a b

unfoldable pub binary : BinaryOp → Found → Found → Option Found
binary operator a b = do
  left ← expression a
  right ← expression b
  joined_by operator left right

-- ---- choice

-- as two operands, but that the literal 0 may be the empty closure
abbrev pub common : Found → Found → Option Kind
common a b =
    if a.zero_literal && same_kind b.kind closure then Some closure
    else if b.zero_literal && same_kind a.kind closure then Some closure
    else joined a.kind b.kind

unfoldable pub choice : Found → Found → Found → Option Found
choice c a b = do
  test ← expression c
  first ← expression a
  second ← expression b
  ok ← when (is_numeric test.kind)
  kind ← common first second
  left ← fit kind first
  right ← fit kind second
  Some (value (e.Choose kind (tree_of test) left right) kind)

-- ---- assignment

-- a variable or a part of one that may be assigned
pub record Target : Type 0 where
  pub root : Root
  pub part : Part
  pub indices : List TypedExpr

abbrev pub target_form : Form → Option Target
target_form (Place root true part indices) = Some (record { root = root; part = part; indices = indices })
target_form _ = None

abbrev pub set_to : Found → Target → Found → Option Found
set_to a target b = fit a.kind b >>= λ right. Some (value (e.Assign target.root target.part target.indices right) a.kind)

-- `x op= e` is `x = x op e`
abbrev pub updated_by : BinaryOp → Found → Target → Found → Option Found
updated_by operator a target b = do
  o ← operation operator a.kind b.kind
  right ← fit o.right b
  ok ← when (is_some (cost (record { kind = Value o.ty; zero_literal = false; writable = false }) a.kind))
  Some (value (e.Update o.op o.ty target.root target.part target.indices right) a.kind)

abbrev pub stored : Option BinaryOp → Found → Target → Found → Option Found
stored None a target b = set_to a target b
stored (Some operator) a target b = updated_by operator a target b

unfoldable pub assign : AssignOp → Found → Found → Option Found
assign operator a b = do
  left ← expression a
  right ← expression b
  target ← target_form left.form
  stored (operator_of operator) left target right

-- ---- calls

abbrev pub pass_to : Formal → Found → Option Argument
pass_to formal a =
    if formal.output then (target_form a.form >>= λ target. Some (Out target.root target.part target.indices))
    else (fit formal.kind a >>= λ x. Some (In x))

unfoldable pub pass_all : List Formal → List Found → Option (List Argument)
pass_all [] args = Some []
pass_all (formal ∷ formals) [] = None
pass_all (formal ∷ formals) (a ∷ args) = pass_to formal a >>= λ x. pass_all formals args >>= λ xs. Some (x ∷ xs)

unfoldable pub fit_all : List Kind → List Found → Option (List TypedExpr)
fit_all [] args = Some []
fit_all (kind ∷ kinds) [] = None
fit_all (kind ∷ kinds) (a ∷ args) = fit kind a >>= λ x. fit_all kinds args >>= λ xs. Some (x ∷ xs)

abbrev pub formal_kinds : List Formal → List Kind
formal_kinds formals = map (λ formal. formal.kind) formals

-- the length of `substr` where none is given
abbrev pub longest : TypedExpr
longest = e.Int (pos 512)

abbrev pub operation_call : OpName → Candidate → List Found → List TypedExpr → Option Found
operation_call name c args more = do
  xs ← fit_all (formal_kinds c.signature.params) args
  ty ← plain_type c.signature.result
  Some (value (e.Apply name ty (xs ++ more)) c.signature.result)

abbrev pub called_as : Callee → Candidate → List Found → Option Found
called_as (Declared f) c args = pass_all c.signature.params args >>= λ xs. Some (value (e.Call f c.signature.result xs) c.signature.result)
called_as (Operation name) c args = operation_call name c args []
called_as SubstrToEnd c args = operation_call op.SubStr c args (longest ∷ [])
called_as Exit c args = Some (value e.Exit Void)

abbrev pub kinds_of : List Found → List Kind
kinds_of args = map (λ a. a.kind) args

-- the functions of a name that a call with arguments of these kinds may mean
abbrev pub candidates : Sight → List ℕ → List Kind → List Candidate
candidates sight word kinds = built_in word kinds ++ sight.functions word

unfoldable pub call : Sight → List ℕ → List Found → Option Found
call sight word found_args = do
  args ← sequence (map expression found_args)
  place ← chosen (map (λ c. c.signature) (candidates sight word (kinds_of args))) (map as_argument args)
  c ← slice_get (candidates sight word (kinds_of args)) place
  ok ← when (apart c.signature.params (map root_of args))
  called_as c.callee c args

-- ---- all forms

-- one node, from the typed forms of its parts
abbrev pub typing_step : Sight → List Binding → Expr-F (Option Found) → Option Found
typing_step sight bindings (x.Int n) = Some (int_literal n)
typing_step sight bindings (x.Float units) = Some (value (e.Float units) float)
typing_step sight bindings (x.Text bytes) = Some (value (e.Text bytes) (Value (only Str)))
typing_step sight bindings (x.Name word) = name word bindings
typing_step sight bindings (x.Call word args) = sequence args >>= call sight word
typing_step sight bindings (x.Construct to args) = sequence args >>= construct to
typing_step sight bindings (x.Paren a) = a >>= λ b. expression b >>= λ c. Some (in_parens c)
typing_step sight bindings (x.Index a i) = a >>= λ b. i >>= index b
typing_step sight bindings (x.Field a word) = a >>= field sight.structures word
typing_step sight bindings (x.Postfix operator a) = a >>= postfixed operator
typing_step sight bindings (x.Prefix operator a) = a >>= prefixed operator
typing_step sight bindings (x.Cast to a) = a >>= cast to
typing_step sight bindings (x.Binary operator a b) = a >>= λ left. b >>= binary operator left
typing_step sight bindings (x.Choice c a b) = c >>= λ test. a >>= λ first. b >>= choice test first
typing_step sight bindings (x.Assign operator a b) = a >>= λ left. b >>= assign operator left

-- the typed form of what may be a row of a matrix
unfoldable pub found_form : Sight → List Binding → Expr → Option Found
found_form sight bindings a = fold-Expr (Option Found) (typing_step sight bindings) a

-- the typed form of an expression
abbrev pub typing : Sight → List Binding → Expr → Option Found
typing sight bindings a = found_form sight bindings a >>= expression
