-- What small shaders give, found by computing: sums, loops and their budget, places out of range, calls, `exit()`, closures, steps, `&&` and `||`.
use Rattle.std.proofs.Common.{◌≡◌, ℕ, refl, ◌∙◌}
use Rattle.std.specs.Int.{int_wrap}
use Rattle.std.specs.Prelude.{ℤ, pos, true, false, List, [], ◌∷◌, Option, None, Some, ◌==◌, if◌then◌else◌}
use Rattle.osl_value.specs.declared.op_name.OpName.TheVariants as op
use Rattle.osl_value.specs.declared.types.Base.TheVariants as base
use Rattle.osl_value.specs.declared.types.Ty.{Ty}
use Rattle.osl_value.specs.declared.closure.Primitive.TheVariants.{Emission, Diffuse, Reflection}
use Rattle.osl_value.specs.declared.point.Point.{Point}
use Rattle.osl_value.specs.AnyValue.{AnyValue, with_numbers}
use Rattle.osl_value.specs.Apply.{apply}
use Rattle.osl_value.specs.Numbers.{root_by, root_of}
use Rattle.osl_value.specs.Types.{only}
use Rattle.osl_layer.specs.declared.global.GlobalName.{GlobalName}
use Rattle.osl_layer.specs.declared.global.GlobalName.TheVariants as globals
use Rattle.osl_layer.specs.Layer.{From, Fixed, Default, Inputs, LayerEnd}
use Rattle.osl_overload.specs.declared.signature.Kind.{Kind}
use Rattle.osl_overload.specs.declared.signature.Kind.TheVariants.{Value, Structure, Void}
use Rattle.osl_value.specs.declared.shader_kind.ShaderKind.TheVariants as kinds
use Rattle.osl_typed.specs.declared.expr.Root.{Root}
use Rattle.osl_typed.specs.declared.expr.Root.TheVariants as root
use Rattle.osl_typed.specs.declared.expr.Part as parts
use Rattle.osl_typed.specs.declared.expr.Increment.TheVariants.{PreIncrement, PostIncrement}
use Rattle.osl_typed.specs.Ends.{in_turn, loop}
use Rattle.osl_typed.specs.Expressions.{whole}
use Rattle.osl_typed.specs.Frames.{leaves_below, leaves_before}
use Rattle.osl_typed.specs.Parts.{selected, with_selected}
use Rattle.osl_typed.specs.Selections.{types_on_the_way}
use Rattle.osl_typed.specs.SourceRun.{outputs_from, source_run}
use Rattle.osl_typed.specs.State.{in_order, leaves_at, with_leaves}
use Rattle.osl_typed.specs.Statements.{finals_from, with_elements}
use Rattle.osl_typed.proofs.Written as w

-- ---- words

abbrev int : Ty
int = only base.Int

abbrev float : Ty
float = only base.Float

abbrev color : Ty
color = only base.Color

abbrev own : ℕ → Root
own k = root.Variable k

abbrev read : Ty → ℕ → w.Known
read ty k = w.part (own k) (whole ty) []

abbrev global : Ty → GlobalName → w.Known
global ty g = w.part (root.Global g) (whole ty) []

abbrev ints : List ℤ → AnyValue
ints ns = with_numbers int ns

abbrev floats : Ty → List ℤ → AnyValue
floats ty xs = with_numbers ty xs

abbrev here : Point
here = record { p = pos 0 ∷ pos 0 ∷ pos 0 ∷ []; n = pos 0 ∷ pos 0 ∷ pos 2000000000 ∷ []; ng = pos 0 ∷ pos 0 ∷ pos 0 ∷ []; i = pos 0 ∷ pos 0 ∷ pos 0 ∷ []; u = pos 300000000; v = pos 100000000 }

abbrev defaults : Inputs
defaults = λ k. Default

abbrev gives : List (Option AnyValue) → LayerEnd
gives outputs = record { results = Some (record { outputs = outputs; closure = [] }); reads = λ k. false }

abbrev spent : LayerEnd
spent = record { results = None; reads = λ k. false }

-- ---- shader add1(float a = 2, output float r = 0) { r = a + 0.5; }

abbrev add1 : w.Whole
add1 = record {
  structures = [];
  functions = [];
  kind = kinds.Shader;
  params = record { output = false; ty = float; from = w.promote float (w.int (pos 2)) } ∷ record { output = true; ty = float; from = w.promote float (w.int (pos 0)) } ∷ [];
  kinds = Value float ∷ Value float ∷ [];
  body = w.evaluate (w.set (own 1) (whole float) [] (w.apply_to op.Add float (read float 0 ∷ w.number (pos 500000000) ∷ []))) ∷ [];
}

adds : source_run (w.shader add1) defaults here 65536 ≡ gives (None ∷ Some (floats float (pos 2500000000 ∷ [])) ∷ [])
unfolding leaves_below leaves_before leaves_at with_leaves in_order in_turn loop types_on_the_way selected with_selected finals_from with_elements outputs_from w.routines_below w.defaults_written w.run_of apply root_by root_of int_wrap
adds = w.runs add1 defaults here 65536 ∙ refl

-- ---- shader checker(float scale = 4, color c1 = 1, color c2 = 0, output color Cout = 0)
-- { int a = (int) floor(u * scale); int b = (int) floor(v * scale); Cout = (a + b) % 2 ? c2 : c1; }

abbrev cell : GlobalName → w.Known
cell g = w.apply_to op.ToInt int (w.apply_to op.Floor float (w.apply_to op.Mul float (global float g ∷ read float 0 ∷ []) ∷ []) ∷ [])

abbrev checker : w.Whole
checker = record {
  structures = [];
  functions = [];
  kind = kinds.Shader;
  params = record { output = false; ty = float; from = w.promote float (w.int (pos 4)) }
      ∷ record { output = false; ty = color; from = w.promote color (w.int (pos 1)) }
      ∷ record { output = false; ty = color; from = w.promote color (w.int (pos 0)) }
      ∷ record { output = true; ty = color; from = w.promote color (w.int (pos 0)) } ∷ [];
  kinds = Value float ∷ Value color ∷ Value color ∷ Value color ∷ Value int ∷ Value int ∷ [];
  body = w.variable 4 (Value int) (cell globals.U)
      ∷ w.variable 5 (Value int) (cell globals.V)
      ∷ w.evaluate (w.set (own 3) (whole color) [] (w.choose (Value color)
      (w.apply_to op.IRem int (w.paren (Value int) (w.apply_to op.Add int (read int 4 ∷ read int 5 ∷ [])) ∷ w.int (pos 2) ∷ []))
      (read color 2) (read color 1))) ∷ [];
}

abbrev fifth : List ℤ
fifth = pos 200000000 ∷ pos 200000000 ∷ pos 200000000 ∷ []

-- with the instance value 0.2 of c2
abbrev with_c2 : Inputs
with_c2 = λ k. if k == 2 then Fixed (floats color fifth) else Default

odd_cell : source_run (w.shader checker) with_c2 here 65536 ≡ gives (None ∷ None ∷ None ∷ Some (floats color fifth) ∷ [])
unfolding leaves_below leaves_before leaves_at with_leaves in_order in_turn loop types_on_the_way selected with_selected finals_from with_elements outputs_from w.routines_below w.defaults_written w.run_of apply root_by root_of int_wrap
odd_cell = w.runs checker with_c2 here 65536 ∙ refl

even_cell : source_run (w.shader checker) with_c2 (record here { u = pos 100000000 }) 65536
    ≡ gives (None ∷ None ∷ None ∷ Some (floats color (pos 1000000000 ∷ pos 1000000000 ∷ pos 1000000000 ∷ [])) ∷ [])
unfolding leaves_below leaves_before leaves_at with_leaves in_order in_turn loop types_on_the_way selected with_selected finals_from with_elements outputs_from w.routines_below w.defaults_written w.run_of apply root_by root_of int_wrap
even_cell = w.runs checker with_c2 (record here { u = pos 100000000 }) 65536 ∙ refl

-- ---- surface gloss(color Cs = 0.8, float Ks = 0.1) { normal Nf = normalize(N); Ci = (1 - Ks) * Cs * diffuse(Nf) + Ks * reflection(Nf, 1.5); }

abbrev normal : Ty
normal = only base.Normal

abbrev closure : Ty
closure = only base.Closure

abbrev gloss : w.Whole
gloss = record {
  structures = [];
  functions = [];
  kind = kinds.Surface;
  params = record { output = false; ty = color; from = w.promote color (w.number (pos 800000000)) } ∷ record { output = false; ty = float; from = w.number (pos 100000000) } ∷ [];
  kinds = Value color ∷ Value float ∷ Value normal ∷ [];
  body = w.variable 2 (Value normal) (w.apply_to op.Normalize normal (global normal globals.N ∷ []))
      ∷ w.evaluate (w.set (root.Global globals.Ci) (whole closure) [] (w.apply_to op.Add closure (
      w.apply_to op.Mul closure (
      w.apply_to op.Mul color (w.promote color (w.paren (Value float) (w.apply_to op.Sub float (w.promote float (w.int (pos 1)) ∷ read float 1 ∷ []))) ∷ read color 0 ∷ [])
      ∷ w.apply_to op.ClDiffuse closure (read normal 2 ∷ []) ∷ [])
      ∷ w.apply_to op.Mul closure (read float 1 ∷ w.apply_to op.ClReflection closure (read normal 2 ∷ w.number (pos 1500000000) ∷ []) ∷ []) ∷ []))) ∷ [];
}

abbrev up : List ℤ
up = pos 0 ∷ pos 0 ∷ pos 1000000000 ∷ []

-- the color comes from another layer, and is read
abbrev from_checker : Inputs
from_checker = λ k. if k == 0 then From (Some (floats color fifth)) else Default

glossy : source_run (w.shader gloss) from_checker here 65536 ≡ record {
  results = Some (record {
    outputs = None ∷ None ∷ [];
    closure = record { weight = pos 180000000 ∷ pos 180000000 ∷ pos 180000000 ∷ []; prim = Diffuse; normal = up; number = pos 0; text = [] }
        ∷ record { weight = pos 100000000 ∷ pos 100000000 ∷ pos 100000000 ∷ []; prim = Reflection; normal = up; number = pos 1500000000; text = [] } ∷ [];
  });
  reads = λ k. if k == 0 then true else false;
}
unfolding leaves_below leaves_before leaves_at with_leaves in_order in_turn loop types_on_the_way selected with_selected finals_from with_elements outputs_from w.routines_below w.defaults_written w.run_of apply root_by root_of int_wrap
glossy = w.runs gloss from_checker here 65536 ∙ refl

-- ---- shader turns(int n = 0, output int r = 0) { for (int i = 0; i < n; ++i) r = r + 1; }

abbrev turns : w.Whole
turns = record {
  structures = [];
  functions = [];
  kind = kinds.Shader;
  params = record { output = false; ty = int; from = w.int (pos 0) } ∷ record { output = true; ty = int; from = w.int (pos 0) } ∷ [];
  kinds = Value int ∷ Value int ∷ Value int ∷ [];
  body = w.for_each 2 (Value int) (w.int (pos 0)) (w.apply_to op.Lt int (read int 2 ∷ read int 0 ∷ [])) (w.step PreIncrement int (own 2))
      (w.evaluate (w.set (own 1) (whole int) [] (w.apply_to op.Add int (read int 1 ∷ w.int (pos 1) ∷ [])))) ∷ [];
}

abbrev times : ℕ → Inputs
times n = λ k. if k == 0 then Fixed (ints (pos n ∷ [])) else Default

four_turns : source_run (w.shader turns) (times 4) here 4 ≡ gives (None ∷ Some (ints (pos 4 ∷ [])) ∷ [])
unfolding leaves_below leaves_before leaves_at with_leaves in_order in_turn loop types_on_the_way selected with_selected finals_from with_elements outputs_from w.routines_below w.defaults_written w.run_of apply root_by root_of int_wrap
four_turns = w.runs turns (times 4) here 4 ∙ refl

five_turns : source_run (w.shader turns) (times 5) here 4 ≡ spent
unfolding leaves_below leaves_before leaves_at with_leaves in_order in_turn loop types_on_the_way selected with_selected finals_from with_elements outputs_from w.routines_below w.defaults_written w.run_of apply root_by root_of int_wrap
five_turns = w.runs turns (times 5) here 4 ∙ refl

-- ---- shader spin(output float r = 0) { while (1) { } }

abbrev spin : w.Whole
spin = record {
  structures = [];
  functions = [];
  kind = kinds.Shader;
  params = record { output = true; ty = float; from = w.promote float (w.int (pos 0)) } ∷ [];
  kinds = Value float ∷ [];
  body = w.while_true (w.int (pos 1)) (w.block []) ∷ [];
}

spins : source_run (w.shader spin) defaults here 5 ≡ spent
unfolding leaves_below leaves_before leaves_at with_leaves in_order in_turn loop types_on_the_way selected with_selected finals_from with_elements outputs_from w.routines_below w.defaults_written w.run_of apply root_by root_of int_wrap
spins = w.runs spin defaults here 5 ∙ refl

-- ---- surface pick(int on = 0, float a = 0, output float r = 0) { if (on) r = a; else r = 2; }, where nothing is connected to a

abbrev pick : w.Whole
pick = record {
  structures = [];
  functions = [];
  kind = kinds.Surface;
  params = record { output = false; ty = int; from = w.int (pos 0) } ∷ record { output = false; ty = float; from = w.promote float (w.int (pos 0)) }
      ∷ record { output = true; ty = float; from = w.promote float (w.int (pos 0)) } ∷ [];
  kinds = Value int ∷ Value float ∷ Value float ∷ [];
  body = w.if_else (read int 0) (w.evaluate (w.set (own 2) (whole float) [] (read float 1)))
      (w.evaluate (w.set (own 2) (whole float) [] (w.promote float (w.int (pos 2))))) ∷ [];
}

abbrev without_a : ℤ → Inputs
without_a on = λ k. if k == 1 then From None else if k == 0 then Fixed (ints (on ∷ [])) else Default

passes_by : source_run (w.shader pick) (without_a (pos 0)) here 65536 ≡ gives (None ∷ None ∷ Some (floats float (pos 2000000000 ∷ [])) ∷ [])
unfolding leaves_below leaves_before leaves_at with_leaves in_order in_turn loop types_on_the_way selected with_selected finals_from with_elements outputs_from w.routines_below w.defaults_written w.run_of apply root_by root_of int_wrap
passes_by = w.runs pick (without_a (pos 0)) here 65536 ∙ refl

reads_nothing : source_run (w.shader pick) (without_a (pos 1)) here 65536 ≡ record { results = None; reads = λ k. if k == 1 then true else false }
unfolding leaves_below leaves_before leaves_at with_leaves in_order in_turn loop types_on_the_way selected with_selected finals_from with_elements outputs_from w.routines_below w.defaults_written w.run_of apply root_by root_of int_wrap
reads_nothing = w.runs pick (without_a (pos 1)) here 65536 ∙ refl

-- ---- shader places(output float low = 0, output float high = 0) { float t[3] = {1, 2, 3}; low = t[-1]; high = t[3]; }

abbrev row_of_three : Ty
row_of_three = record { base = base.Float; len = 3 }

abbrev one_of_three : w.Known → w.Known
one_of_three i = w.part (own 2) (whole row_of_three) (i ∷ [])

abbrev places : w.Whole
places = record {
  structures = [];
  functions = [];
  kind = kinds.Shader;
  params = record { output = true; ty = float; from = w.promote float (w.int (pos 0)) } ∷ record { output = true; ty = float; from = w.promote float (w.int (pos 0)) } ∷ [];
  kinds = Value float ∷ Value float ∷ Value row_of_three ∷ [];
  body = w.variable_of 2 (Value row_of_three) (w.promote float (w.int (pos 1)) ∷ w.promote float (w.int (pos 2)) ∷ w.promote float (w.int (pos 3)) ∷ [])
      ∷ w.evaluate (w.set (own 0) (whole float) [] (one_of_three (w.apply_to op.Neg int (w.int (pos 1) ∷ []))))
      ∷ w.evaluate (w.set (own 1) (whole float) [] (one_of_three (w.int (pos 3)))) ∷ [];
}

nearest_places : source_run (w.shader places) defaults here 65536 ≡ gives (Some (floats float (pos 1000000000 ∷ [])) ∷ Some (floats float (pos 3000000000 ∷ [])) ∷ [])
unfolding leaves_below leaves_before leaves_at with_leaves in_order in_turn loop types_on_the_way selected with_selected finals_from with_elements outputs_from w.routines_below w.defaults_written w.run_of apply root_by root_of int_wrap
nearest_places = w.runs places defaults here 65536 ∙ refl

-- ---- void sw(output float a, output float b) { float t = a; a = b; b = t; }
-- shader swaps(output float x = 1, output float y = 2) { sw(x, y); }

abbrev swapping : w.Routine
swapping = record {
  result = Void;
  formals = record { kind = Value float; output = true } ∷ record { kind = Value float; output = true } ∷ [];
  kinds = Value float ∷ Value float ∷ Value float ∷ [];
  body = w.variable 2 (Value float) (read float 0)
      ∷ w.evaluate (w.set (own 0) (whole float) [] (read float 1))
      ∷ w.evaluate (w.set (own 1) (whole float) [] (read float 2)) ∷ [];
}

abbrev swaps : w.Whole
swaps = record {
  structures = [];
  functions = swapping ∷ [];
  kind = kinds.Shader;
  params = record { output = true; ty = float; from = w.promote float (w.int (pos 1)) } ∷ record { output = true; ty = float; from = w.promote float (w.int (pos 2)) } ∷ [];
  kinds = Value float ∷ Value float ∷ [];
  body = w.evaluate (w.call 0 Void (w.lent (own 0) (whole float) [] ∷ w.lent (own 1) (whole float) [] ∷ [])) ∷ [];
}

swapped : source_run (w.shader swaps) defaults here 65536 ≡ gives (Some (floats float (pos 2000000000 ∷ [])) ∷ Some (floats float (pos 1000000000 ∷ [])) ∷ [])
unfolding leaves_below leaves_before leaves_at with_leaves in_order in_turn loop types_on_the_way selected with_selected finals_from with_elements outputs_from w.routines_below w.defaults_written w.run_of apply root_by root_of int_wrap
swapped = w.runs swaps defaults here 65536 ∙ refl

-- ---- void leave(output float a) { a = 5; exit(); }, in a shader leaves(output float r = 1) { leave(r); r = 7; }: the layer ends, and nothing is copied back

abbrev leaving : w.Routine
leaving = record {
  result = Void;
  formals = record { kind = Value float; output = true } ∷ [];
  kinds = Value float ∷ [];
  body = w.evaluate (w.set (own 0) (whole float) [] (w.promote float (w.int (pos 5)))) ∷ w.evaluate w.exit ∷ [];
}

abbrev leaves : w.Whole
leaves = record {
  structures = [];
  functions = leaving ∷ [];
  kind = kinds.Shader;
  params = record { output = true; ty = float; from = w.promote float (w.int (pos 1)) } ∷ [];
  kinds = Value float ∷ [];
  body = w.evaluate (w.call 0 Void (w.lent (own 0) (whole float) [] ∷ [])) ∷ w.evaluate (w.set (own 0) (whole float) [] (w.promote float (w.int (pos 7)))) ∷ [];
}

left : source_run (w.shader leaves) defaults here 65536 ≡ gives (Some (floats float (pos 1000000000 ∷ [])) ∷ [])
unfolding leaves_below leaves_before leaves_at with_leaves in_order in_turn loop types_on_the_way selected with_selected finals_from with_elements outputs_from w.routines_below w.defaults_written w.run_of apply root_by root_of int_wrap
left = w.runs leaves defaults here 65536 ∙ refl

-- ---- surface mixer(float a = 3, float b = 0, output float r = 0) { r = mix(a, b, 0); }: b is read though it does not count

abbrev mixer : w.Whole
mixer = record {
  structures = [];
  functions = [];
  kind = kinds.Surface;
  params = record { output = false; ty = float; from = w.promote float (w.int (pos 3)) } ∷ record { output = false; ty = float; from = w.promote float (w.int (pos 0)) }
      ∷ record { output = true; ty = float; from = w.promote float (w.int (pos 0)) } ∷ [];
  kinds = Value float ∷ Value float ∷ Value float ∷ [];
  body = w.evaluate (w.set (own 2) (whole float) [] (w.apply_to op.Mix float (read float 0 ∷ read float 1 ∷ w.promote float (w.int (pos 0)) ∷ []))) ∷ [];
}

mixes_nothing : source_run (w.shader mixer) (λ k. if k == 1 then From None else Default) here 65536 ≡ record { results = None; reads = λ k. if k == 1 then true else false }
unfolding leaves_below leaves_before leaves_at with_leaves in_order in_turn loop types_on_the_way selected with_selected finals_from with_elements outputs_from w.routines_below w.defaults_written w.run_of apply root_by root_of int_wrap
mixes_nothing = w.runs mixer (λ k. if k == 1 then From None else Default) here 65536 ∙ refl

mixes_a_value : source_run (w.shader mixer) (λ k. if k == 1 then From (Some (floats float (pos 7000000000 ∷ []))) else Default) here 65536 ≡ record {
  results = Some (record { outputs = None ∷ None ∷ Some (floats float (pos 3000000000 ∷ [])) ∷ []; closure = [] });
  reads = λ k. if k == 1 then true else false;
}
unfolding leaves_below leaves_before leaves_at with_leaves in_order in_turn loop types_on_the_way selected with_selected finals_from with_elements outputs_from w.routines_below w.defaults_written w.run_of apply root_by root_of int_wrap
mixes_a_value = w.runs mixer (λ k. if k == 1 then From (Some (floats float (pos 7000000000 ∷ []))) else Default) here 65536 ∙ refl

-- ---- surface weighs() { Ci = 3 * (0.333333333 * (0.5 * diffuse(N))) + 0 * emission(); }: factors are multiplied one by one, and a weight of zero is kept

abbrev times_closure : w.Known → w.Known → w.Known
times_closure by a = w.apply_to op.Mul closure (by ∷ a ∷ [])

abbrev weighs : w.Whole
weighs = record {
  structures = [];
  functions = [];
  kind = kinds.Surface;
  params = [];
  kinds = [];
  body = w.evaluate (w.set (root.Global globals.Ci) (whole closure) [] (w.apply_to op.Add closure (
      times_closure (w.int (pos 3)) (w.paren (Value closure) (
      times_closure (w.number (pos 333333333)) (w.paren (Value closure) (
      times_closure (w.number (pos 500000000)) (w.apply_to op.ClDiffuse closure (global normal globals.N ∷ []))))))
      ∷ times_closure (w.int (pos 0)) (w.apply_to op.ClEmission closure []) ∷ []))) ∷ [];
}

weighed : source_run (w.shader weighs) defaults here 65536 ≡ record {
  results = Some (record {
    outputs = [];
    closure = record { weight = pos 499999998 ∷ pos 499999998 ∷ pos 499999998 ∷ []; prim = Diffuse; normal = pos 0 ∷ pos 0 ∷ pos 2000000000 ∷ []; number = pos 0; text = [] }
        ∷ record { weight = pos 0 ∷ pos 0 ∷ pos 0 ∷ []; prim = Emission; normal = pos 0 ∷ pos 0 ∷ pos 0 ∷ []; number = pos 0; text = [] } ∷ [];
  });
  reads = λ k. false;
}
unfolding leaves_below leaves_before leaves_at with_leaves in_order in_turn loop types_on_the_way selected with_selected finals_from with_elements outputs_from w.routines_below w.defaults_written w.run_of apply root_by root_of int_wrap
weighed = w.runs weighs defaults here 65536 ∙ refl

-- ---- struct pair { float x; int n; };
-- pair twice(pair a) { pair b = a; b.x *= 2; b.n += 1; return b; }
-- shader pairs(output float r = 0, output int k = 0) { pair p = {1, 2}; p = twice(p); r = p.x; k = twice(p).n; }

abbrev pair : Kind
pair = Structure 0

abbrev field : ℕ → Ty → parts.Part
field number ty = record { fields = number ∷ []; kind = Value ty; component = None }

abbrev all_of_pair : parts.Part
all_of_pair = record { fields = []; kind = pair; component = None }

abbrev twice : w.Routine
twice = record {
  result = pair;
  formals = record { kind = pair; output = false } ∷ [];
  kinds = pair ∷ pair ∷ [];
  body = w.variable 1 pair (w.part (own 0) all_of_pair [])
      ∷ w.evaluate (w.update op.Mul float (own 1) (field 0 float) [] (w.promote float (w.int (pos 2))))
      ∷ w.evaluate (w.update op.Add int (own 1) (field 1 int) [] (w.int (pos 1)))
      ∷ w.give_back (w.part (own 1) all_of_pair []) ∷ [];
}

abbrev of_p : List w.Passes
of_p = w.copied (w.part (own 2) all_of_pair []) ∷ []

abbrev pairs : w.Whole
pairs = record {
  structures = record { fields = Value float ∷ Value int ∷ [] } ∷ [];
  functions = twice ∷ [];
  kind = kinds.Shader;
  params = record { output = true; ty = float; from = w.promote float (w.int (pos 0)) } ∷ record { output = true; ty = int; from = w.int (pos 0) } ∷ [];
  kinds = Value float ∷ Value int ∷ pair ∷ [];
  body = w.variable_of 2 pair (w.promote float (w.int (pos 1)) ∷ w.int (pos 2) ∷ [])
      ∷ w.evaluate (w.set (own 2) all_of_pair [] (w.call 0 pair of_p))
      ∷ w.evaluate (w.set (own 0) (whole float) [] (w.part (own 2) (field 0 float) []))
      ∷ w.evaluate (w.set (own 1) (whole int) [] (w.part_of pair (w.call 0 pair of_p) (field 1 int) [])) ∷ [];
}

paired : source_run (w.shader pairs) defaults here 65536 ≡ gives (Some (floats float (pos 2000000000 ∷ [])) ∷ Some (ints (pos 4 ∷ [])) ∷ [])
unfolding leaves_below leaves_before leaves_at with_leaves in_order in_turn loop types_on_the_way selected with_selected finals_from with_elements outputs_from w.routines_below w.defaults_written w.run_of apply root_by root_of int_wrap
paired = w.runs pairs defaults here 65536 ∙ refl

-- ---- shader skips(output int r = 0) { int i = 0; do { ++i; if (i == 2) continue; if (i > 3) break; r += i; } while (1); }: 1 and 3 are added, in four turns

abbrev skips : w.Whole
skips = record {
  structures = [];
  functions = [];
  kind = kinds.Shader;
  params = record { output = true; ty = int; from = w.int (pos 0) } ∷ [];
  kinds = Value int ∷ Value int ∷ [];
  body = w.variable 1 (Value int) (w.int (pos 0))
      ∷ w.do_while (w.block (w.evaluate (w.step PreIncrement int (own 1))
      ∷ w.only_if (w.apply_to op.Eq int (read int 1 ∷ w.int (pos 2) ∷ [])) w.go_on
      ∷ w.only_if (w.apply_to op.Gt int (read int 1 ∷ w.int (pos 3) ∷ [])) w.break_off
      ∷ w.evaluate (w.update op.Add int (own 0) (whole int) [] (read int 1)) ∷ [])) (w.int (pos 1)) ∷ [];
}

skipped : source_run (w.shader skips) defaults here 4 ≡ gives (Some (ints (pos 4 ∷ [])) ∷ [])
unfolding leaves_below leaves_before leaves_at with_leaves in_order in_turn loop types_on_the_way selected with_selected finals_from with_elements outputs_from w.routines_below w.defaults_written w.run_of apply root_by root_of int_wrap
skipped = w.runs skips defaults here 4 ∙ refl

skipped_too_often : source_run (w.shader skips) defaults here 3 ≡ spent
unfolding leaves_below leaves_before leaves_at with_leaves in_order in_turn loop types_on_the_way selected with_selected finals_from with_elements outputs_from w.routines_below w.defaults_written w.run_of apply root_by root_of int_wrap
skipped_too_often = w.runs skips defaults here 3 ∙ refl

-- ---- shader counts(output int before = 0, output int after = 0) { int i = 3; before = i++; after = i; }: the old value is given, and the new one stored

abbrev counts : w.Whole
counts = record {
  structures = [];
  functions = [];
  kind = kinds.Shader;
  params = record { output = true; ty = int; from = w.int (pos 0) } ∷ record { output = true; ty = int; from = w.int (pos 0) } ∷ [];
  kinds = Value int ∷ Value int ∷ Value int ∷ [];
  body = w.variable 2 (Value int) (w.int (pos 3))
      ∷ w.evaluate (w.set (own 0) (whole int) [] (w.step PostIncrement int (own 2)))
      ∷ w.evaluate (w.set (own 1) (whole int) [] (read int 2)) ∷ [];
}

counted : source_run (w.shader counts) defaults here 65536 ≡ gives (Some (ints (pos 3 ∷ [])) ∷ Some (ints (pos 4 ∷ [])) ∷ [])
unfolding leaves_below leaves_before leaves_at with_leaves in_order in_turn loop types_on_the_way selected with_selected finals_from with_elements outputs_from w.routines_below w.defaults_written w.run_of apply root_by root_of int_wrap
counted = w.runs counts defaults here 65536 ∙ refl

-- ---- shader guards(output int a = 0, output int b = 0, output int c = 0, output int d = 0, output int n = 0)
-- { a = 0 && ++n; b = 2 || ++n; c = 3 && ++n; d = 0 || ++n; }: the right side is evaluated where the left one does not decide, and 1 is what holds

abbrev zero_int : w.Given
zero_int = record { output = true; ty = int; from = w.int (pos 0) }

abbrev guards : w.Whole
guards = record {
  structures = [];
  functions = [];
  kind = kinds.Shader;
  params = zero_int ∷ zero_int ∷ zero_int ∷ zero_int ∷ zero_int ∷ [];
  kinds = Value int ∷ Value int ∷ Value int ∷ Value int ∷ Value int ∷ [];
  body = w.evaluate (w.set (own 0) (whole int) [] (w.both (w.int (pos 0)) (w.step PreIncrement int (own 4))))
      ∷ w.evaluate (w.set (own 1) (whole int) [] (w.either (w.int (pos 2)) (w.step PreIncrement int (own 4))))
      ∷ w.evaluate (w.set (own 2) (whole int) [] (w.both (w.int (pos 3)) (w.step PreIncrement int (own 4))))
      ∷ w.evaluate (w.set (own 3) (whole int) [] (w.either (w.int (pos 0)) (w.step PreIncrement int (own 4)))) ∷ [];
}

guarded : source_run (w.shader guards) defaults here 65536
    ≡ gives (Some (ints (pos 0 ∷ [])) ∷ Some (ints (pos 1 ∷ [])) ∷ Some (ints (pos 1 ∷ [])) ∷ Some (ints (pos 1 ∷ [])) ∷ Some (ints (pos 2 ∷ [])) ∷ [])
unfolding leaves_below leaves_before leaves_at with_leaves in_order in_turn loop types_on_the_way selected with_selected finals_from with_elements outputs_from w.routines_below w.defaults_written w.run_of apply root_by root_of int_wrap
guarded = w.runs guards defaults here 65536 ∙ refl

-- ---- float stop() { exit(); return 1; }
-- shader early(output float p = 4, float a = stop(), output float r = 2) { r = 3; }: the layer ends in a default, and later defaults are not evaluated

abbrev stopping : w.Routine
stopping = record {
  result = Value float;
  formals = [];
  kinds = [];
  body = w.evaluate w.exit ∷ w.give_back (w.promote float (w.int (pos 1))) ∷ [];
}

abbrev early : w.Whole
early = record {
  structures = [];
  functions = stopping ∷ [];
  kind = kinds.Shader;
  params = record { output = true; ty = float; from = w.promote float (w.int (pos 4)) }
      ∷ record { output = false; ty = float; from = w.call 0 (Value float) [] }
      ∷ record { output = true; ty = float; from = w.promote float (w.int (pos 2)) } ∷ [];
  kinds = Value float ∷ Value float ∷ Value float ∷ [];
  body = w.evaluate (w.set (own 2) (whole float) [] (w.promote float (w.int (pos 3)))) ∷ [];
}

ended_early : source_run (w.shader early) defaults here 65536 ≡ gives (Some (floats float (pos 4000000000 ∷ [])) ∷ None ∷ Some (floats float (pos 0 ∷ [])) ∷ [])
unfolding leaves_below leaves_before leaves_at with_leaves in_order in_turn loop types_on_the_way selected with_selected finals_from with_elements outputs_from w.routines_below w.defaults_written w.run_of apply root_by root_of int_wrap
ended_early = w.runs early defaults here 65536 ∙ refl
