-- What each node adds to a shader's size and slots: a node and its type, each of its parts once, and the calls that are open at once.
use Rattle.std.proofs.Common.{◌≡◌, ℕ, refl, ap, sym, ◌∙◌}
use Rattle.std.specs.Prelude.{pos, true, false, ◌==◌, if◌then◌else◌, List, [], ◌∷◌, codes, None, Some}
use Rattle.osl_value.specs.declared.op_name.OpName.TheVariants as op
use Rattle.osl_value.specs.declared.types.Base.TheVariants as base
use Rattle.osl_value.specs.declared.types.Ty.{Ty}
use Rattle.osl_value.specs.Types.{only}
use Rattle.osl_layer.specs.declared.global.GlobalName.TheVariants as globals
use Rattle.osl_overload.specs.declared.signature.Kind.{Kind}
use Rattle.osl_overload.specs.declared.signature.Kind.TheVariants.{Value, Structure, Void}
use Rattle.osl_typed.specs.declared.expr.Argument.TheFolds.{fold-TypedExpr, fold-roll-TypedExpr}
use Rattle.osl_typed.specs.declared.expr.Argument.TheOpen as e
use Rattle.osl_typed.specs.declared.expr.Increment.TheVariants as increment
use Rattle.osl_typed.specs.declared.expr.Part.{Part}
use Rattle.osl_typed.specs.declared.expr.Root.TheVariants as root
use Rattle.osl_typed.specs.declared.expr.TypedExpr.{TypedExpr}
use Rattle.osl_typed.specs.declared.expr.TypedExpr.TheVariants as whole
use Rattle.osl_typed.specs.declared.sizes.Weight.{Weight}
use Rattle.osl_typed.specs.declared.shader.TypedStructure.{TypedStructure}
use Rattle.osl_typed.specs.declared.stmt.TypedForStart.TheVariants as start
use Rattle.osl_typed.specs.declared.stmt.TypedStmt.TheOpen as s
use Rattle.osl_typed.specs.Frames.{leaves_below}
use Rattle.osl_typed.specs.Selections.{types_on_the_way}
use Rattle.osl_typed.specs.Sizes.{Scale, weight, ◌&◌, nothing, expr_weight, argument_weight, stmt_weight, formal_weight, one_open, base_weight, most_size, most_slots, most_calls, field_kinds}

abbrev w : ℕ → ℕ → ℕ → Weight
w size slots calls = record { size = size; slots = slots; calls = calls }

abbrev int : Ty
int = only base.Int

abbrev color : Ty
color = only base.Color

abbrev row : ℕ → Ty
row n = record { base = base.Int; len = n }

-- structure 0 has an int and a color; structure 1 has structure 0 and a string
abbrev structures : List TypedStructure
structures =
    record { fields = Value int ∷ Value color ∷ [] }
    ∷ record { fields = Structure 0 ∷ Value (only base.Str) ∷ [] }
    ∷ []

-- variable 0 is an int, 1 a row of five ints, 2 of structure 1, 3 a color; function 0 adds this, and every other nothing
abbrev scale : Scale
scale = record {
  structures = structures;
  kinds = Value int ∷ Value (row 5) ∷ Structure 1 ∷ Value color ∷ [];
  calls = λ f. if f == 0 then w 5000 700 3 else w 0 0 0;
}

-- operands, each of another size, with other slots and other calls
abbrev a : Weight
a = w 100 10 1

abbrev b : Weight
b = w 2000 20 2

abbrev c : Weight
c = w 30000 4000 0

abbrev whole_of : Kind → Part
whole_of kind = record { fields = []; kind = kind; component = None }

-- ---- expressions

an_int : expr_weight scale (e.Int (pos 123)) ≡ w 4 3 0
unfolding leaves_below types_on_the_way field_kinds
an_int = refl

a_float : expr_weight scale (e.Float (pos 1)) ≡ w 4 3 0
unfolding leaves_below types_on_the_way field_kinds
a_float = refl

a_text : expr_weight scale (e.Text (codes "abc")) ≡ w 4 65 0
unfolding leaves_below types_on_the_way field_kinds
a_text = refl

operation : expr_weight scale (e.Apply op.Add color (a ∷ b ∷ c ∷ [])) ≡ w 32104 4037 2
unfolding leaves_below types_on_the_way field_kinds
operation = refl

operation_of_nothing : expr_weight scale (e.Apply op.ClEmission (only base.Closure) []) ≡ w 4 3 0
unfolding leaves_below types_on_the_way field_kinds
operation_of_nothing = refl

matrix_made : expr_weight scale (e.Apply op.Matrix (only base.Matrix) (a ∷ [])) ≡ w 104 43 1
unfolding leaves_below types_on_the_way field_kinds
matrix_made = refl

promotion : expr_weight scale (e.Promote color a) ≡ w 104 11 1
unfolding leaves_below types_on_the_way field_kinds
promotion = refl

both : expr_weight scale (e.And a b) ≡ w 2104 33 2
unfolding leaves_below types_on_the_way field_kinds
both = refl

either : expr_weight scale (e.Or b c) ≡ w 32004 4023 2
unfolding leaves_below types_on_the_way field_kinds
either = refl

choice : expr_weight scale (e.Choose (Value color) a b c) ≡ w 32104 4037 2
unfolding leaves_below types_on_the_way field_kinds
choice = refl

choice_of_structures : expr_weight scale (e.Choose (Structure 1) a b c) ≡ w 32112 4103 2
unfolding leaves_below types_on_the_way field_kinds
choice_of_structures = refl

parenthesis : expr_weight scale (e.Paren (Structure 0) a) ≡ w 108 19 1
unfolding leaves_below types_on_the_way field_kinds
parenthesis = refl

exit : expr_weight scale e.Exit ≡ w 4 1 0
unfolding leaves_below types_on_the_way field_kinds
exit = refl

step : expr_weight scale (e.Step increment.PostIncrement int (root.Variable 0)) ≡ w 8 6 0
unfolding leaves_below types_on_the_way field_kinds
step = refl

step_of_color : expr_weight scale (e.Step increment.PreDecrement color (root.Variable 3)) ≡ w 8 14 0
unfolding leaves_below types_on_the_way field_kinds
step_of_color = refl

call : expr_weight scale (e.Call 0 (Value color) (a ∷ b ∷ [])) ≡ w 7104 737 3
unfolding leaves_below types_on_the_way field_kinds
call = refl

call_of_structure : expr_weight scale (e.Call 1 (Structure 1) (c ∷ [])) ≡ w 30012 4073 0
unfolding leaves_below types_on_the_way field_kinds
call_of_structure = refl

call_of_nothing : expr_weight scale (e.Call 0 Void []) ≡ w 5004 701 3
unfolding leaves_below types_on_the_way field_kinds
call_of_nothing = refl

-- ---- variables: no slots of what an index, a component or a field is taken of

variable : expr_weight scale (e.Variable (root.Variable 0) (whole_of (Value int)) []) ≡ w 4 3 0
unfolding leaves_below types_on_the_way field_kinds
variable = refl

structure_whole : expr_weight scale (e.Variable (root.Variable 2) (whole_of (Structure 1)) []) ≡ w 12 73 0
unfolding leaves_below types_on_the_way field_kinds
structure_whole = refl

a_global : expr_weight scale (e.Variable (root.Global globals.N) (whole_of (Value (only base.Normal))) []) ≡ w 4 7 0
unfolding leaves_below types_on_the_way field_kinds
a_global = refl

element : expr_weight scale (e.Variable (root.Variable 1) (whole_of (Value (row 5))) (a ∷ [])) ≡ w 108 14 1
unfolding leaves_below types_on_the_way field_kinds
element = refl

component : expr_weight scale (e.Variable (root.Variable 3) (record { fields = []; kind = Value color; component = Some 1 }) []) ≡ w 8 4 0
unfolding leaves_below types_on_the_way field_kinds
component = refl

field : expr_weight scale (e.Variable (root.Variable 2) (record { fields = 1 ∷ []; kind = Value (only base.Str); component = None }) []) ≡ w 16 66 0
unfolding leaves_below types_on_the_way field_kinds
field = refl

field_of_field : expr_weight scale (e.Variable (root.Variable 2) (record { fields = 0 ∷ 1 ∷ []; kind = Value color; component = None }) []) ≡ w 24 9 0
unfolding leaves_below types_on_the_way field_kinds
field_of_field = refl

component_of_field : expr_weight scale (e.Variable (root.Variable 2) (record { fields = 0 ∷ 1 ∷ []; kind = Value color; component = Some 2 }) []) ≡ w 28 6 0
unfolding leaves_below types_on_the_way field_kinds
component_of_field = refl

part_of_value : expr_weight scale (e.PartOf (Structure 1) b (record { fields = 0 ∷ 1 ∷ []; kind = Value color; component = None }) []) ≡ w 2012 36 2
unfolding leaves_below types_on_the_way field_kinds
part_of_value = refl

element_of_value : expr_weight scale (e.PartOf (Value color) c (whole_of (Value color)) (a ∷ [])) ≡ w 30104 4013 1
unfolding leaves_below types_on_the_way field_kinds
element_of_value = refl

assignment : expr_weight scale (e.Assign (root.Variable 0) (whole_of (Value int)) [] b) ≡ w 2008 26 2
unfolding leaves_below types_on_the_way field_kinds
assignment = refl

assignment_of_element : expr_weight scale (e.Assign (root.Variable 1) (whole_of (Value (row 5))) (a ∷ []) b) ≡ w 2112 37 2
unfolding leaves_below types_on_the_way field_kinds
assignment_of_element = refl

update : expr_weight scale (e.Update op.Mul color (root.Variable 3) (whole_of (Value color)) [] c) ≡ w 30008 4014 0
unfolding leaves_below types_on_the_way field_kinds
update = refl

by_value : argument_weight scale (e.In b) ≡ w 2000 20 2
unfolding leaves_below types_on_the_way field_kinds
by_value = refl

by_output : argument_weight scale (e.Out (root.Variable 3) (whole_of (Value color)) []) ≡ w 4 7 0
unfolding leaves_below types_on_the_way field_kinds
by_output = refl

-- ---- statements

empty : stmt_weight scale s.Empty ≡ w 4 1 0
unfolding leaves_below types_on_the_way field_kinds
empty = refl

break_ : stmt_weight scale s.Break ≡ w 4 1 0
unfolding leaves_below types_on_the_way field_kinds
break_ = refl

continue_ : stmt_weight scale s.Continue ≡ w 4 1 0
unfolding leaves_below types_on_the_way field_kinds
continue_ = refl

return_nothing : stmt_weight scale (s.Return None) ≡ w 4 1 0
unfolding leaves_below types_on_the_way field_kinds
return_nothing = refl

block : stmt_weight scale (s.Block (a ∷ b ∷ c ∷ [])) ≡ w 32104 4031 2
unfolding leaves_below types_on_the_way field_kinds
block = refl

for_nothing : stmt_weight scale (s.For start.Nothing None None b) ≡ w 2004 21 2
unfolding leaves_below types_on_the_way field_kinds
for_nothing = refl

declares : stmt_weight scale (s.Declare (record { number = 0; kind = Value color; init = None } ∷ record { number = 1; kind = Structure 1; init = None } ∷ [])) ≡ w 20 81 0
unfolding leaves_below types_on_the_way field_kinds
declares = refl

abbrev a_string : TypedExpr
a_string = whole.Text (codes "abc")

string_weight : weight scale a_string ≡ w 4 65 0
unfolding weight leaves_below
string_weight = ap (fold-TypedExpr Weight Weight (argument_weight scale) (expr_weight scale)) (sym (whole.rolls-Text (codes "abc")))
    ∙ fold-roll-TypedExpr Weight Weight (argument_weight scale) (expr_weight scale) (e.Text (codes "abc"))

returned : stmt_weight scale (s.Return (Some a_string)) ≡ w 8 66 0
returned = ap (λ m. w 4 1 0 & m) string_weight

evaluated : stmt_weight scale (s.Expr a_string) ≡ w 8 66 0
evaluated = ap (λ m. w 4 1 0 & m) string_weight

if_condition : stmt_weight scale (s.If a_string a None) ≡ w 108 76 1
if_condition = ap (λ m. w 4 1 0 & m & a & nothing) string_weight

if_else : stmt_weight scale (s.If a_string a (Some b)) ≡ w 2108 96 2
if_else = ap (λ m. w 4 1 0 & m & a & b) string_weight

while_condition : stmt_weight scale (s.While a_string b) ≡ w 2008 86 2
while_condition = ap (λ m. w 4 1 0 & m & b) string_weight

do_condition : stmt_weight scale (s.DoWhile b a_string) ≡ w 2008 86 2
do_condition = ap (λ m. w 4 1 0 & b & m) string_weight

for_start : stmt_weight scale (s.For (start.Expr a_string) None None a) ≡ w 108 76 1
for_start = ap (λ m. w 4 1 0 & m & nothing & nothing & a) string_weight

for_condition : stmt_weight scale (s.For start.Nothing (Some a_string) None a) ≡ w 108 76 1
for_condition = ap (λ m. w 4 1 0 & nothing & m & nothing & a) string_weight

for_step : stmt_weight scale (s.For start.Nothing None (Some a_string) a) ≡ w 108 76 1
for_step = ap (λ m. w 4 1 0 & nothing & nothing & m & a) string_weight

-- ---- calls and bounds

formal : formal_weight structures (record { kind = Value color; output = true }) ≡ w 8 6 0
unfolding leaves_below types_on_the_way field_kinds
formal = refl

formal_structure : formal_weight structures (record { kind = Structure 1; output = false }) ≡ w 24 72 0
unfolding leaves_below types_on_the_way field_kinds
formal_structure = refl

opened : one_open b ≡ w 2000 20 3
unfolding leaves_below types_on_the_way field_kinds
opened = refl

before_all : base_weight ≡ w 64 64 0
unfolding types_on_the_way
before_all = refl

most : (most_size ∷ most_slots ∷ most_calls ∷ []) ≡ (65536 ∷ 65536 ∷ 16 ∷ [])
most = refl
