-- Rows, by computing: what small shaders give and its types, at the ends of the ranges; and what is not of a type, each with its reason.
use Rattle.std.proofs.Common.{◌≡◌, ◌≢◌, ℕ, zero, suc, ℤ, pos, negsuc, true, false, List, [], ◌∷◌, Option, Some, None, refl, sym, ap, ◌∙◌, subst, arith, lit≤}
use Rattle.std.specs.Int.{int_wrap}
use Rattle.std.specs.Prelude.{◌==◌, if◌then◌else◌, slice_get}
use Rattle.std.proofs.lemmas.Bool.{false≢true, cond-false, le-leb, ne_eqb}
use Rattle.std.proofs.lemmas.List.Elements.{All-nil, All-cons, All-head}
use Rattle.osl_value.specs.declared.closure.Part.{Part}
use Rattle.osl_value.specs.declared.closure.Primitive.TheVariants.{Emission}
use Rattle.osl_value.specs.declared.op_name.OpName.TheVariants as op
use Rattle.osl_value.specs.declared.point.Point.{Point}
use Rattle.osl_value.specs.declared.shader_kind.ShaderKind.TheVariants as kinds
use Rattle.osl_value.specs.declared.types.Base.TheVariants as base
use Rattle.osl_value.specs.declared.types.Ty.{Ty}
use Rattle.osl_value.specs.AnyValue.{AnyValue, with_numbers, with_text}
use Rattle.osl_value.specs.Apply.{apply}
use Rattle.osl_value.specs.Numbers.{IsInRange, fmax, root_by, root_of}
use Rattle.osl_value.specs.Types.{only, same_base}
use Rattle.osl_value.specs.WellFormed.{AreFloats, AreParts, IsPart, IsOfType, IsPoint}
use Rattle.osl_layer.specs.declared.global.GlobalName.TheVariants as globals
use Rattle.osl_layer.specs.Layer.{From, Fixed, Default, Inputs, LayerEnd, LayerResults, Parameter, AreInputs}
use Rattle.osl_overload.specs.declared.signature.Kind.{Kind}
use Rattle.osl_overload.specs.declared.signature.Kind.TheVariants.{Value, Structure}
use Rattle.osl_typed.specs.declared.expr.Root.{Root}
use Rattle.osl_typed.specs.declared.expr.Root.TheVariants as root
use Rattle.osl_typed.specs.Ends.{in_turn, loop}
use Rattle.osl_typed.specs.Expressions.{whole}
use Rattle.osl_typed.specs.Frames.{leaves_below, leaves_before}
use Rattle.osl_typed.specs.Parts.{selected, with_selected}
use Rattle.osl_typed.specs.Selections.{types_on_the_way}
use Rattle.osl_typed.specs.SourceRun.{outputs_from, source_run}
use Rattle.osl_typed.specs.State.{in_order, leaves_at, with_leaves}
use Rattle.osl_typed.specs.Statements.{finals_from, with_elements}
use Rattle.osl_typed.proofs.Written as w
use Rattle.osl_welltyped.proofs.Steps.{some_same}
use Rattle.oso_code.specs.Holding.{makes_up}
use Rattle.oso_code.specs.Typed.{OutputFits, AreResults}
use Rattle.osl_typed_runs.specs.Parameters.{parameters_of}
use Rattle.osl_typed_runs.proofs.Values.{int_typed, float_typed}

-- ---- words

abbrev int : Ty
int = only base.Int

abbrev float : Ty
float = only base.Float

abbrev color : Ty
color = only base.Color

abbrev closure : Ty
closure = only base.Closure

abbrev own : ℕ → Root
own k = root.Variable k

abbrev read : Ty → ℕ → w.Known
read ty k = w.part (own k) (whole ty) []

abbrev set : ℕ → Ty → w.Known → w.Does
set k ty a = w.evaluate (w.set (own k) (whole ty) [] a)

abbrev an_input : Ty → w.Known → w.Given
an_input ty a = record { output = false; ty = ty; from = a }

abbrev an_output : Ty → w.Known → w.Given
an_output ty a = record { output = true; ty = ty; from = a }

abbrev no_float : w.Known
no_float = w.promote float (w.int (pos 0))

abbrev ints : List ℤ → AnyValue
ints ns = with_numbers int ns

abbrev floats : List ℤ → AnyValue
floats xs = with_numbers float xs

-- u is the greatest float
abbrev here : Point
here = record { p = pos 0 ∷ pos 0 ∷ pos 0 ∷ []; n = pos 0 ∷ pos 0 ∷ pos 0 ∷ []; ng = pos 0 ∷ pos 0 ∷ pos 0 ∷ []; i = pos 0 ∷ pos 0 ∷ pos 0 ∷ []; u = pos fmax; v = pos 0 }

abbrev defaults : Inputs
defaults = λ k. Default

-- what the layer gives, within 65,536 turns
abbrev Gives : w.Whole → Inputs → LayerResults → Type 0
Gives layer inputs results = (source_run (w.shader layer) inputs here 65536).results ≡ Some results

abbrev by_parts : (layer : w.Whole) (inputs : Inputs) → (source_run (w.shader layer) inputs here 65536).results ≡ (w.run_of layer inputs here 65536).results
by_parts layer inputs = ap (λ (end : LayerEnd). end.results) (w.runs layer inputs here 65536)

-- ---- shader ends(float a = 0, int n = 0, output float high = 0, output float low = 0, output int next = 0)
-- { high = a + a; low = -a - a; next = n + 1; }, at the greatest float and the greatest int: floats stop at the ends of their range, and ints wrap

abbrev ends : w.Whole
ends = record {
  structures = [];
  functions = [];
  kind = kinds.Shader;
  params = an_input float no_float ∷ an_input int (w.int (pos 0)) ∷ an_output float no_float ∷ an_output float no_float ∷ an_output int (w.int (pos 0)) ∷ [];
  kinds = Value float ∷ Value int ∷ Value float ∷ Value float ∷ Value int ∷ [];
  body = set 2 float (w.apply_to op.Add float (read float 0 ∷ read float 0 ∷ []))
      ∷ set 3 float (w.apply_to op.Sub float (w.apply_to op.Neg float (read float 0 ∷ []) ∷ read float 0 ∷ []))
      ∷ set 4 int (w.apply_to op.Add int (read int 1 ∷ w.int (pos 1) ∷ [])) ∷ [];
}

-- a is connected, and n has an instance value
abbrev greatest : Inputs
greatest = λ k. if k == 0 then From (Some (floats (pos fmax ∷ []))) else if k == 1 then Fixed (ints (pos 2147483647 ∷ [])) else Default

abbrev at_ends : LayerResults
at_ends = record {
  outputs = None ∷ None ∷ Some (floats (pos 9223372036854775807 ∷ [])) ∷ Some (floats (negsuc 9223372036854775806 ∷ [])) ∷ Some (ints (negsuc 2147483647 ∷ [])) ∷ [];
  closure = [];
}

stops_at_ends : Gives ends greatest at_ends
unfolding leaves_below leaves_before leaves_at with_leaves in_order in_turn loop types_on_the_way selected with_selected finals_from with_elements outputs_from w.routines_below w.defaults_written w.run_of apply root_by root_of int_wrap
stops_at_ends = by_parts ends greatest ∙ refl

no_parts : AreParts []
no_parts = record { few = lit≤ tt; all = All-nil IsPart }

ends_typed : AreResults (parameters_of (w.shader ends)) at_ends
ends_typed = record { outputs = (tt, (tt, (float_typed _ refl, (float_typed _ refl, (int_typed _ refl, tt))))); closure = no_parts }

other_source : (v : AnyValue) (from : Option AnyValue) → Fixed v ≡ From from → ⊥
other_source v from h = cc h

no_source : (from : Option AnyValue) → Default ≡ From from → ⊥
no_source from h = cc h

not_fixed : (v : AnyValue) → Default ≡ Fixed v → ⊥
not_fixed v h = cc h

same_fixed : (v x : AnyValue) → Fixed v ≡ Fixed x → v ≡ x
same_fixed v x h = cc h

same_given : (v x : AnyValue) → From (Some v) ≡ From (Some x) → v ≡ x
same_given v x h = cc h

later_default : (k : ℕ) → greatest (suc (suc k)) ≡ Default
later_default k =
    cond-false (suc (suc k) == 0) (From (Some (floats (pos fmax ∷ [])))) _ (ne_eqb (suc (suc k)) 0 (λ e. omega (arith, e)))
    ∙ cond-false (suc (suc k) == 1) (Fixed (ints (pos 2147483647 ∷ []))) Default (ne_eqb (suc (suc k)) 1 (λ e. omega (arith, e)))

-- these inputs fit: no output is connected, and each value has its parameter's type
greatest_fit : AreInputs (parameters_of (w.shader ends)) greatest
greatest_fit = record { outputs = no_output_connected; fixed = fixed_typed; connected = connected_typed }
  where
    no_output_connected : (k : ℕ) (param : Parameter) (from : Option AnyValue) → slice_get (parameters_of (w.shader ends)) k ≡ Some param → param.output ≡ true → greatest k ≢ From from
    no_output_connected zero param from is output h = false≢true (ap (λ (p : Parameter). p.output) (some_same _ param is) ∙ output)
    no_output_connected (suc zero) param from is output h = other_source _ from h
    no_output_connected (suc (suc k)) param from is output h = no_source from (sym (later_default k) ∙ h)

    fixed_typed : (k : ℕ) (param : Parameter) (v : AnyValue) → slice_get (parameters_of (w.shader ends)) k ≡ Some param → greatest k ≡ Fixed v → IsOfType param.ty v
    fixed_typed zero param v is h = absurd (other_source v _ (sym h))
    fixed_typed (suc zero) param v is h = subst (λ (p : Parameter). IsOfType p.ty v) (some_same _ param is) (subst (IsOfType int) (same_fixed _ v h) (int_typed (pos 2147483647) refl))
    fixed_typed (suc (suc k)) param v is h = absurd (not_fixed v (sym (later_default k) ∙ h))

    connected_typed : (k : ℕ) (param : Parameter) (v : AnyValue) → slice_get (parameters_of (w.shader ends)) k ≡ Some param → greatest k ≡ From (Some v) → IsOfType param.ty v
    connected_typed zero param v is h = subst (λ (p : Parameter). IsOfType p.ty v) (some_same _ param is) (subst (IsOfType float) (same_given _ v h) (float_typed (pos fmax) refl))
    connected_typed (suc zero) param v is h = absurd (other_source _ (Some v) h)
    connected_typed (suc (suc k)) param v is h = absurd (no_source (Some v) (sym (later_default k) ∙ h))

-- and so does the point
three_floats : (x : ℤ) → IsInRange x → AreFloats 3 (x ∷ x ∷ x ∷ [])
three_floats x h = record { count_fits = refl; in_range = All-cons IsInRange x (x ∷ x ∷ []) h (All-cons IsInRange x (x ∷ []) h (All-cons IsInRange x [] h (All-nil IsInRange))) }

here_fits : IsPoint here
here_fits = record {
  p = three_floats (pos 0) (lit≤ tt);
  n = three_floats (pos 0) (lit≤ tt);
  ng = three_floats (pos 0) (lit≤ tt);
  i = three_floats (pos 0) (lit≤ tt);
  u = lit≤ tt;
  v = lit≤ tt;
}

-- ---- struct pair { float x; int n; };
-- shader halves(output float r = 0, output int k = 1) { pair p = {0.5}; r = p.x; k = p.n; }: a field that is not listed is zero

abbrev pair : Kind
pair = Structure 0

abbrev field : ℕ → Ty → w.Known
field number ty = w.part (own 2) (record { fields = number ∷ []; kind = Value ty; component = None }) []

abbrev halves : w.Whole
halves = record {
  structures = record { fields = Value float ∷ Value int ∷ [] } ∷ [];
  functions = [];
  kind = kinds.Shader;
  params = an_output float no_float ∷ an_output int (w.int (pos 1)) ∷ [];
  kinds = Value float ∷ Value int ∷ pair ∷ [];
  body = w.variable_of 2 pair (w.number (pos 500000000) ∷ []) ∷ set 0 float (field 0 float) ∷ set 1 int (field 1 int) ∷ [];
}

abbrev of_fields : LayerResults
of_fields = record { outputs = Some (floats (pos 500000000 ∷ [])) ∷ Some (ints (pos 0 ∷ [])) ∷ []; closure = [] }

fields_given : Gives halves defaults of_fields
unfolding leaves_below leaves_before leaves_at with_leaves in_order in_turn loop types_on_the_way selected with_selected finals_from with_elements outputs_from w.routines_below w.defaults_written w.run_of apply root_by root_of int_wrap
fields_given = by_parts halves defaults ∙ refl

fields_typed : AreResults (parameters_of (w.shader halves)) of_fields
fields_typed = record { outputs = (float_typed _ refl, (int_typed _ refl, tt)); closure = no_parts }

-- ---- shader fills(output int last = 0, output int past = 0) { int t[3] = {7}; t[2] = -9; last = t[2]; past = t[5]; }: an index past the end is the last place

abbrev three_ints : Ty
three_ints = record { base = base.Int; len = 3 }

abbrev element : ℕ → w.Known
element k = w.part (own 2) (whole three_ints) (w.int (pos k) ∷ [])

abbrev fills : w.Whole
fills = record {
  structures = [];
  functions = [];
  kind = kinds.Shader;
  params = an_output int (w.int (pos 0)) ∷ an_output int (w.int (pos 0)) ∷ [];
  kinds = Value int ∷ Value int ∷ Value three_ints ∷ [];
  body = w.variable_of 2 (Value three_ints) (w.int (pos 7) ∷ [])
      ∷ w.evaluate (w.set (own 2) (whole three_ints) (w.int (pos 2) ∷ []) (w.apply_to op.Neg int (w.int (pos 9) ∷ [])))
      ∷ set 0 int (element 2) ∷ set 1 int (element 5) ∷ [];
}

abbrev of_elements : LayerResults
of_elements = record { outputs = Some (ints (negsuc 8 ∷ [])) ∷ Some (ints (negsuc 8 ∷ [])) ∷ []; closure = [] }

elements_given : Gives fills defaults of_elements
unfolding leaves_below leaves_before leaves_at with_leaves in_order in_turn loop types_on_the_way selected with_selected finals_from with_elements outputs_from w.routines_below w.defaults_written w.run_of apply root_by root_of int_wrap
elements_given = by_parts fills defaults ∙ refl

elements_typed : AreResults (parameters_of (w.shader fills)) of_elements
elements_typed = record { outputs = (int_typed _ refl, (int_typed _ refl, tt)); closure = no_parts }

-- ---- surface glows() { Ci = u * (2 * emission()); }, where u is the greatest float: a weight stops there too

abbrev times : w.Known → w.Known → w.Known
times by a = w.apply_to op.Mul closure (by ∷ a ∷ [])

abbrev glows : w.Whole
glows = record {
  structures = [];
  functions = [];
  kind = kinds.Surface;
  params = [];
  kinds = [];
  body = w.evaluate (w.set (root.Global globals.Ci) (whole closure) []
      (times (w.part (root.Global globals.U) (whole float) []) (w.paren (Value closure) (times (w.int (pos 2)) (w.apply_to op.ClEmission closure []))))) ∷ [];
}

abbrev glow : Part
glow = record {
  weight = pos 9223372036854775807 ∷ pos 9223372036854775807 ∷ pos 9223372036854775807 ∷ [];
  prim = Emission;
  normal = pos 0 ∷ pos 0 ∷ pos 0 ∷ [];
  number = pos 0;
  text = [];
}

abbrev of_glow : LayerResults
of_glow = record { outputs = []; closure = glow ∷ [] }

glow_given : Gives glows defaults of_glow
unfolding leaves_below leaves_before leaves_at with_leaves in_order in_turn loop types_on_the_way selected with_selected finals_from with_elements outputs_from w.routines_below w.defaults_written w.run_of apply root_by root_of int_wrap
glow_given = by_parts glows defaults ∙ refl

glow_typed : AreResults (parameters_of (w.shader glows)) of_glow
glow_typed = record {
  outputs = tt;
  closure = record {
    few = lit≤ tt;
    all = All-cons IsPart glow [] (record { weight = three_floats (pos fmax) (lit≤ tt); normal = three_floats (pos 0) (lit≤ tt); number = lit≤ tt }) (All-nil IsPart);
  };
}

-- ---- what has not its type

-- one past the end of the range
too_large : OutputFits float true (Some (floats (pos 9223372036854775808 ∷ []))) → ⊥
too_large h = false≢true (le-leb 9223372036854775808 fmax (All-head IsInRange _ [] h.value.in_range))

-- another type, and one element too few
not_an_int : OutputFits int true (Some (floats (pos 0 ∷ []))) → ⊥
not_an_int h = false≢true (ap (λ ty. same_base ty.base base.Int) h.type)

too_short : OutputFits three_ints true (Some (with_numbers three_ints (pos 0 ∷ pos 0 ∷ []))) → ⊥
too_short h = cc h.value.nums_fit

-- an output without a value, an input with one, and a parameter without an entry
nothing_there : OutputFits float true None → ⊥
nothing_there h = h

no_output : OutputFits float false (Some (floats (pos 0 ∷ []))) → ⊥
no_output h = h

none_missing : AreResults (parameters_of (w.shader halves)) (record { outputs = Some (floats (pos 0 ∷ [])) ∷ []; closure = [] }) → ⊥
none_missing h = h.outputs.1

-- ---- what the laws ask is needed

-- shader copies(float a = 0, output float r = 0) { r = a; }
abbrev copies : w.Whole
copies = record {
  structures = [];
  functions = [];
  kind = kinds.Shader;
  params = an_input float no_float ∷ an_output float no_float ∷ [];
  kinds = Value float ∷ Value float ∷ [];
  body = set 1 float (read float 0) ∷ [];
}

-- where a is connected to a string, r is one: inputs must fit
abbrev a_text : AnyValue
a_text = with_text (only base.Str) []

unfit_input : Gives copies (λ k. if k == 0 then From (Some a_text) else Default) (record { outputs = None ∷ Some a_text ∷ []; closure = [] })
unfolding leaves_below leaves_before leaves_at with_leaves in_order in_turn loop types_on_the_way selected with_selected finals_from with_elements outputs_from w.routines_below w.defaults_written w.run_of apply root_by root_of int_wrap
unfit_input = by_parts copies (λ k. if k == 0 then From (Some a_text) else Default) ∙ refl

-- shader says(output float r = 0) { r = ""; } is no typing of a source, and gives a string: a tree must be well typed
abbrev says : w.Whole
says = record {
  structures = [];
  functions = [];
  kind = kinds.Shader;
  params = an_output float no_float ∷ [];
  kinds = Value float ∷ [];
  body = set 0 float (w.text []) ∷ [];
}

unfit_tree : Gives says defaults (record { outputs = Some a_text ∷ []; closure = [] })
unfolding leaves_below leaves_before leaves_at with_leaves in_order in_turn loop types_on_the_way selected with_selected finals_from with_elements outputs_from w.routines_below w.defaults_written w.run_of apply root_by root_of int_wrap
unfit_tree = by_parts says defaults ∙ refl

-- ---- metadata

-- int x[3] = {7}, string s[2] = {"a"}, closure color c = 0
ints_made : makes_up three_ints (pos 7 ∷ pos 0 ∷ pos 0 ∷ []) [] ≡ true
ints_made = refl

texts_made : makes_up (record { base = base.Str; len = 2 }) [] ((97 ∷ []) ∷ [] ∷ []) ≡ true
texts_made = refl

closure_made : makes_up closure [] [] ≡ true
closure_made = refl

-- an element that is missing, a number beside a string, an int past the end of its range
element_missing : makes_up three_ints (pos 7 ∷ pos 0 ∷ []) [] ≡ false
element_missing = refl

number_beside : makes_up (only base.Str) (pos 0 ∷ []) ([] ∷ []) ≡ false
number_beside = refl

int_too_large : makes_up int (pos 2147483648 ∷ []) [] ≡ false
int_too_large = refl
