-- Rows, by computing: trees that are well formed, and trees that are not, each with its reason.
use Rattle.std.proofs.Common.{◌≡◌, ℕ, true, false, List, [], ◌∷◌, Some, None, refl, ap, ◌∙◌}
use Rattle.std.specs.Prelude.{pos, ◌&&◌}
use Rattle.osl_value.specs.declared.op_name.OpName.TheVariants as op
use Rattle.osl_value.specs.declared.types.Base.{Base}
use Rattle.osl_value.specs.declared.types.Base.TheVariants.{Int, Float, Color, Point, Matrix, Closure}
use Rattle.osl_value.specs.Apply.{is_allowed}
use Rattle.osl_value.specs.Types.{only}
use Rattle.osl_overload.specs.declared.signature.Formal.{Formal}
use Rattle.osl_overload.specs.declared.signature.Kind.{Kind}
use Rattle.osl_overload.specs.declared.signature.Kind.TheVariants.{Value, Structure, Void}
use Rattle.osl_typed.specs.declared.expr.Argument.TheVariants as arguments
use Rattle.osl_typed.specs.declared.expr.Argument.TheOpen as node
use Rattle.osl_typed.specs.declared.expr.Part.{Part}
use Rattle.osl_typed.specs.declared.expr.Root.TheVariants as root
use Rattle.osl_typed.specs.declared.expr.TypedExpr.{TypedExpr}
use Rattle.osl_typed.specs.declared.expr.TypedExpr.TheVariants as e
use Rattle.osl_typed.specs.declared.shader.TypedFunction.{TypedFunction}
use Rattle.osl_typed.specs.declared.shader.TypedStructure.{TypedStructure}
use Rattle.osl_typed.specs.declared.stmt.Declared.{Declared}
use Rattle.osl_typed.specs.declared.stmt.TypedInit.TheVariants as init
use Rattle.osl_typed.specs.declared.stmt.TypedStmt.TheOpen as stmt_node
use Rattle.osl_typed.specs.declared.stmt.TypedStmt.TheVariants as s
use Rattle.osl_typed.specs.Selections.{types_on_the_way}
use Rattle.osl_welltyped.specs.Kinded.{Rules, is_type, is_kind, is_numeric, kind_step, argument_step, kinded, selects, passed_kind}
use Rattle.osl_welltyped.specs.StatementsFit.{stmt_fits, fit_step, declared_fits, init_fits, are_numbered}
use Rattle.osl_welltyped.specs.WellTyped.{structures_fit, may_write_in, differ}
use Rattle.osl_welltyped.proofs.KindedLaws.{kinded-Int, kinded-Float, kinded-Variable, kinded-Promote, kinded-Apply, kinded-Assign, kinded-Call, kinded-In, kinded-Out}
use Rattle.osl_welltyped.proofs.StatementNodes.{fits-Break, fits-While, fits-Return}

-- ---- a scope

abbrev array : Base → ℕ → Kind
array base n = Value (record { base = base; len = n })

abbrev int : Kind
int = Value (only Int)

abbrev float : Kind
float = Value (only Float)

abbrev color : Kind
color = Value (only Color)

-- struct { float f; color c; }
abbrev one_structure : List TypedStructure
one_structure = record { fields = float ∷ color ∷ [] } ∷ []

-- float f(float a, output float b)
abbrev formals : List Formal
formals = record { kind = float; output = false } ∷ record { kind = float; output = true } ∷ []

abbrev one_function : List TypedFunction
one_function = record { result = float; formals = formals; frame = float ∷ float ∷ []; body = [] } ∷ []

-- variables 0 and 1 are parameters, of which 1 is an output; then float[3], float[2], the structure, a color and a matrix
abbrev frame : List Kind
frame = float ∷ float ∷ array Float 3 ∷ array Float 2 ∷ Structure 0 ∷ color ∷ Value (only Matrix) ∷ []

abbrev with_ready : ℕ → Rules
with_ready n = record { structures = one_structure; kinds = frame; ready = n; functions = one_function; may_write = may_write_in formals }

abbrev rules : Rules
rules = with_ready 7

abbrev whole : Kind → Part
whole kind = record { fields = []; kind = kind; component = None }

abbrev var : ℕ → Kind → TypedExpr
var k kind = e.Variable (root.Variable k) (whole kind) []

-- a whole variable
variable_row : (k : ℕ) (kind : Kind) → kinded rules (var k kind) ≡ kind_step rules (node.Variable (root.Variable k) (whole kind) [])
variable_row k kind = kinded-Variable rules (root.Variable k) (whole kind) []

-- ---- expressions that are well formed

-- 1 + 2
sum : kinded rules (e.Apply op.Add (only Int) (e.Int (pos 1) ∷ e.Int (pos 2) ∷ [])) ≡ Some int
unfolding is_allowed
sum = kinded-Apply rules op.Add (only Int) _ ∙ (λ i. kind_step rules (node.Apply op.Add (only Int) (kinded-Int rules (pos 1) i ∷ kinded-Int rules (pos 2) i ∷ [])))

-- an element of the array, a component of the structure's color, an element of the matrix
element : kinded rules (e.Variable (root.Variable 2) (whole (array Float 3)) (e.Int (pos 1) ∷ [])) ≡ Some float
unfolding selects types_on_the_way
element = kinded-Variable rules _ _ _ ∙ (λ i. kind_step rules (node.Variable (root.Variable 2) (whole (array Float 3)) (kinded-Int rules (pos 1) i ∷ [])))

component : kinded rules (e.Variable (root.Variable 4) (record { fields = 1 ∷ []; kind = color; component = Some 2 }) []) ≡ Some float
unfolding selects types_on_the_way
component = kinded-Variable rules _ _ _

matrix_element : kinded rules (e.Variable (root.Variable 6) (whole (Value (only Matrix))) (e.Int (pos 0) ∷ e.Int (pos 1) ∷ [])) ≡ Some float
unfolding selects types_on_the_way
matrix_element = kinded-Variable rules _ _ _ ∙ (λ i. kind_step rules (node.Variable (root.Variable 6) (whole (Value (only Matrix))) (kinded-Int rules (pos 0) i ∷ kinded-Int rules (pos 1) i ∷ [])))

-- the color variable = (color) 1.5
promoted : kinded rules (e.Promote (only Color) (e.Float (pos 1500000000))) ≡ Some color
promoted = kinded-Promote rules (only Color) _ ∙ (λ i. kind_step rules (node.Promote (only Color) (kinded-Float rules (pos 1500000000) i)))

assigned : kinded rules (e.Assign (root.Variable 5) (whole color) [] (e.Promote (only Color) (e.Float (pos 1500000000)))) ≡ Some color
unfolding selects types_on_the_way
assigned = kinded-Assign rules (root.Variable 5) (whole color) [] _ ∙ (λ i. kind_step rules (node.Assign (root.Variable 5) (whole color) [] (promoted i)))

-- f(x, y), where y is the output parameter
one_half : TypedExpr
one_half = e.Float (pos 500000000)

given : passed_kind rules (arguments.In one_half) ≡ Some (record { kind = float; output = false })
unfolding one_half
given = kinded-In rules _ ∙ (λ i. argument_step rules (node.In (kinded-Float rules (pos 500000000) i)))

lent : passed_kind rules (arguments.Out (root.Variable 1) (whole float) []) ≡ Some (record { kind = float; output = true })
unfolding selects types_on_the_way
lent = kinded-Out rules (root.Variable 1) (whole float) []

called : kinded rules (e.Call 0 float (arguments.In one_half ∷ arguments.Out (root.Variable 1) (whole float) [] ∷ [])) ≡ Some float
called = kinded-Call rules 0 float _ ∙ (λ i. kind_step rules (node.Call 0 float (given i ∷ lent i ∷ [])))

-- ---- expressions that are not

-- a later function called
later_function : kinded rules (e.Call 1 float (arguments.In one_half ∷ arguments.Out (root.Variable 1) (whole float) [] ∷ [])) ≡ None
later_function = kinded-Call rules 1 float _ ∙ (λ i. kind_step rules (node.Call 1 float (given i ∷ lent i ∷ [])))

-- too few arguments
too_few : kinded rules (e.Call 0 float (arguments.In one_half ∷ [])) ≡ None
too_few = kinded-Call rules 0 float _ ∙ (λ i. kind_step rules (node.Call 0 float (given i ∷ [])))

-- an output that is passed as a value
output_by_value : kinded rules (e.Call 0 float (arguments.In one_half ∷ arguments.In one_half ∷ [])) ≡ None
output_by_value = kinded-Call rules 0 float _ ∙ (λ i. kind_step rules (node.Call 0 float (given i ∷ given i ∷ [])))

-- a field past its structure
past_fields : kinded rules (e.Variable (root.Variable 4) (record { fields = 2 ∷ []; kind = color; component = None }) []) ≡ None
past_fields = kinded-Variable rules _ _ _

-- `.w` of a color
fourth_component : kinded rules (e.Variable (root.Variable 5) (record { fields = []; kind = color; component = Some 3 }) []) ≡ None
unfolding selects types_on_the_way
fourth_component = kinded-Variable rules _ _ _

-- a row of the matrix
matrix_row : kinded rules (e.Variable (root.Variable 6) (whole (Value (only Matrix))) (e.Int (pos 0) ∷ [])) ≡ None
unfolding selects types_on_the_way
matrix_row = kinded-Variable rules _ _ _ ∙ (λ i. kind_step rules (node.Variable (root.Variable 6) (whole (Value (only Matrix))) (kinded-Int rules (pos 0) i ∷ [])))

-- `%` of floats
wrong_types : kinded rules (e.Apply op.IRem (only Float) (e.Float (pos 1) ∷ e.Float (pos 2) ∷ [])) ≡ None
unfolding is_allowed
wrong_types = kinded-Apply rules op.IRem (only Float) _ ∙ (λ i. kind_step rules (node.Apply op.IRem (only Float) (kinded-Float rules (pos 1) i ∷ kinded-Float rules (pos 2) i ∷ [])))

-- an operation that updates in place
in_place : kinded rules (e.Apply op.CompAssign (only Color) (var 5 color ∷ e.Int (pos 0) ∷ e.Float (pos 1) ∷ [])) ≡ None
unfolding is_allowed selects types_on_the_way
in_place = kinded-Apply rules op.CompAssign (only Color) _ ∙ (λ i. kind_step rules (node.Apply op.CompAssign (only Color) (variable_row 5 color i ∷ kinded-Int rules (pos 0) i ∷ kinded-Float rules (pos 1) i ∷ [])))

-- float[3] = float[2]
other_length : kinded rules (e.Assign (root.Variable 2) (whole (array Float 3)) [] (var 3 (array Float 2))) ≡ None
unfolding selects types_on_the_way
other_length = kinded-Assign rules (root.Variable 2) (whole (array Float 3)) [] _ ∙ (λ i. kind_step rules (node.Assign (root.Variable 2) (whole (array Float 3)) [] (variable_row 3 (array Float 2) i)))

-- an input parameter assigned
input_assigned : kinded rules (e.Assign (root.Variable 0) (whole float) [] one_half) ≡ None
unfolding one_half
input_assigned = kinded-Assign rules (root.Variable 0) (whole float) [] _ ∙ (λ i. kind_step rules (node.Assign (root.Variable 0) (whole float) [] (kinded-Float rules (pos 500000000) i)))

-- a promotion of a color to a point
color_to_point : kinded rules (e.Promote (only Point) (var 5 color)) ≡ None
unfolding selects types_on_the_way
color_to_point = kinded-Promote rules (only Point) _ ∙ (λ i. kind_step rules (node.Promote (only Point) (variable_row 5 color i)))

-- the default of parameter 1 reads itself
later_parameter : init_fits (with_ready 1) float (init.Expr (var 1 float)) ≡ false
later_parameter = ap (λ k. is_kind float k) (kinded-Variable (with_ready 1) (root.Variable 1) (whole float) [])

-- it may read parameter 0
earlier_parameter : init_fits (with_ready 1) float (init.Expr (var 0 float)) ≡ true
unfolding selects types_on_the_way
earlier_parameter = ap (λ k. is_kind float k) (kinded-Variable (with_ready 1) (root.Variable 0) (whole float) [])

-- ---- statements

in_a_loop : stmt_fits rules Void (s.While (e.Int (pos 1)) s.Break) false ≡ true
in_a_loop = fits-While rules Void _ _ false ∙ (λ i. fit_step rules Void (stmt_node.While (e.Int (pos 1)) (stmt_fits rules Void s.Break)) false)
    ∙ (λ i. is_numeric (kinded-Int rules (pos 1) i) && fits-Break rules Void true i)

-- `break` outside a loop
outside_a_loop : stmt_fits rules Void s.Break false ≡ false
outside_a_loop = fits-Break rules Void false

-- `return 0.5;` of a function that gives a float, and of one that gives an int or nothing
returns_float : stmt_fits rules float (s.Return (Some one_half)) false ≡ true
unfolding one_half
returns_float = fits-Return rules float _ false ∙ ap (λ k. is_kind float k) (kinded-Float rules (pos 500000000))

returns_other : stmt_fits rules int (s.Return (Some one_half)) false ≡ false
unfolding one_half
returns_other = fits-Return rules int _ false ∙ ap (λ k. is_kind int k) (kinded-Float rules (pos 500000000))

returns_nothing : stmt_fits rules Void (s.Return (Some one_half)) false ≡ false
returns_nothing = fits-Return rules Void _ false

-- ---- declarations and frames

abbrev declared : ℕ → Kind → Declared
declared k kind = record { number = k; kind = kind; init = None }

in_frame : declared_fits rules (declared 5 color) ≡ true
in_frame = refl

past_frame : declared_fits rules (declared 7 color) ≡ false
past_frame = refl

other_kind : declared_fits rules (declared 5 float) ≡ false
other_kind = refl

in_order : are_numbered 2 (declared 2 float ∷ declared 3 color ∷ []) ≡ true
in_order = refl

used_twice : are_numbered 2 (declared 2 float ∷ declared 2 color ∷ []) ≡ false
used_twice = refl

-- ---- types, structures and names

closures_in_an_array : is_type (record { base = Closure; len = 2 }) ≡ false
closures_in_an_array = refl

too_long : is_type (record { base = Float; len = 1025 }) ≡ false
too_long = refl

earlier_structure : structures_fit 0 (record { fields = float ∷ [] } ∷ record { fields = Structure 0 ∷ [] } ∷ []) ≡ true
earlier_structure = refl

its_own_field : structures_fit 0 (record { fields = Structure 0 ∷ [] } ∷ []) ≡ false
its_own_field = refl

closure_field : structures_fit 0 (record { fields = Value (only Closure) ∷ [] } ∷ []) ≡ false
closure_field = refl

two_alike : differ ((97 ∷ []) ∷ (98 ∷ []) ∷ (97 ∷ []) ∷ []) ≡ false
two_alike = refl
