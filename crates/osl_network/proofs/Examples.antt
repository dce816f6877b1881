-- Worked groups, found by computing: which statements build which group, and what groups show.
use Rattle.std.proofs.Common.{◌≡◌, ℕ, refl}
use Rattle.std.specs.Prelude.{codes, ℤ, pos, true, false, Bool, ◌++◌, List, [], ◌∷◌, length, map, get_or, Option, Some, None}
use Rattle.osl_value.specs.declared.closure.Primitive.TheVariants.{Diffuse}
use Rattle.osl_value.specs.declared.op_name.OpName.{OpName}
use Rattle.osl_value.specs.declared.op_name.OpName.TheVariants as O
use Rattle.osl_value.specs.declared.shader_kind.ShaderKind.TheVariants as kinds
use Rattle.osl_value.specs.declared.types.Base.TheVariants as base
use Rattle.osl_value.specs.declared.types.Ty.{Ty}
use Rattle.osl_value.specs.AnyValue.{AnyValue, Of}
use Rattle.osl_value.specs.Apply.{apply}
use Rattle.osl_value.specs.Numbers.{root_by, root_of}
use Rattle.osl_value.specs.Plain.{Plain}
use Rattle.osl_value.specs.Types.{only}
use Rattle.oso_code.specs.declared.op.Op.{Op}
use Rattle.oso_code.specs.declared.raw.Raw.{Raw}
use Rattle.oso_code.specs.declared.symbol.Class.{Class}
use Rattle.oso_code.specs.declared.symbol.Class.TheVariants as class
use Rattle.oso_code.specs.declared.symbol.Meta.{Meta}
use Rattle.oso_code.specs.declared.symbol.Symbol.{Symbol}
use Rattle.oso_code.specs.CodeRun.{code_run}
use Rattle.oso_code.specs.Run.{put, loop, run}
use Rattle.oso_code.specs.Steps.{step_of}
use Rattle.osl_network.specs.declared.refusal.GroupError.TheVariants as E
use Rattle.osl_network.specs.declared.statement.Statement.{Statement}
use Rattle.osl_network.specs.declared.statement.Statement.TheVariants as S
use Rattle.osl_network.specs.declared.variables.Var.{Var}
use Rattle.osl_network.specs.declared.variables.VarPoint.{VarPoint}
use Rattle.osl_network.specs.Building.{Loaded, load_refused}
use Rattle.osl_network.specs.Edits.{after}
use Rattle.osl_network.specs.Groups.{start_values}
use Rattle.osl_network.specs.Meaning.{Shown, Spent, Shows, meaning}
use Rattle.osl_network.specs.Needed.{needed, needed_from}
use Rattle.osl_network.specs.Network.{Network}
use Rattle.osl_network.specs.Runs.{ends_after, group_run}
use Rattle.osl_network.specs.Shaders.{ports_of, code_runs}
use Rattle.osl_network.specs.Statements.{Built, Makes, Refuses, builds, begun, progress}
use Rattle.osl_network.specs.Sure.{sure_layers, sure_after, has_loop}

-- ---- shaders as code

abbrev floats : ℤ → Plain
floats units = record { ty = only base.Float; nums = units ∷ []; texts = [] }

abbrev ints : ℤ → Plain
ints n = record { ty = only base.Int; nums = n ∷ []; texts = [] }

abbrev color : ℤ → Plain
color units = record { ty = only base.Color; nums = units ∷ units ∷ units ∷ []; texts = [] }

abbrev symbol : Class → List ℕ → Plain → Symbol
symbol class name v = record { class = class; ty = v.ty; name = name; value = Some v; metas = [] }

abbrev lockgeom : ℤ → Meta
lockgeom n = record { ty = only base.Int; name = codes "lockgeom"; nums = n ∷ []; texts = [] }

-- a parameter of which the shader says `int lockgeom = 0`
abbrev loose : List ℕ → Plain → Symbol
loose name v = record (symbol class.Param name v) { metas = lockgeom (pos 0) ∷ [] }

abbrev own : Class → List ℕ → Ty → Symbol
own class name ty = record { class = class; ty = ty; name = name; value = None; metas = [] }

abbrev op : OpName → List ℕ → List ℕ → Op
op name args jumps = record { name = name; args = args; jumps = jumps }

abbrev code : List ℕ → List Symbol → List Op → Raw
code name symbols ops = record {
  kind = kinds.Surface;
  name = name;
  metas = [];
  symbols = symbols;
  sections = record { param = None; start = 0; end = length ops } ∷ [];
  ops = ops;
}

-- shader plain(output float r = 7) { }
abbrev plain : Raw
plain = code (codes "plain") (symbol class.Oparam (codes "r") (floats (pos 7000000000)) ∷ []) []

-- shader spin(output float r = 0) { while (1) { } }
abbrev spin : Raw
spin = code (codes "spin") (symbol class.Oparam (codes "r") (floats (pos 0)) ∷ symbol class.Const (codes "$0") (ints (pos 1)) ∷ []) (op O.While (1 ∷ []) (1 ∷ 1 ∷ []) ∷ [])

-- surface mixer(float a = 3, float b = 0, output float r = 0) { r = mix(a, b, 0); }
abbrev mixer : Raw
mixer = code (codes "mixer")
    (symbol class.Param (codes "a") (floats (pos 3000000000)) ∷ symbol class.Param (codes "b") (floats (pos 0)) ∷ symbol class.Oparam (codes "r") (floats (pos 0)) ∷ symbol class.Const (codes "$0") (floats (pos 0)) ∷ [])
    (op O.Mix (2 ∷ 0 ∷ 1 ∷ 3 ∷ []) [] ∷ [])

-- surface pick(int on = 0 [[int lockgeom = 0]], float a = 0, output float r = 0) { if (on) r = a; else r = 2; }
abbrev pick : Raw
pick = code (codes "pick")
    (loose (codes "on") (ints (pos 0)) ∷ symbol class.Param (codes "a") (floats (pos 0)) ∷ symbol class.Oparam (codes "r") (floats (pos 0)) ∷ symbol class.Const (codes "$0") (floats (pos 2000000000)) ∷ [])
    (op O.If (0 ∷ []) (2 ∷ 3 ∷ []) ∷ op O.Assign (2 ∷ 1 ∷ []) [] ∷ op O.Assign (2 ∷ 3 ∷ []) [] ∷ [])

-- surface matte(float Kd = 0.5 [[int lockgeom = 0]], color Cs = 1) { Ci = Kd * Cs * diffuse(N); }
abbrev matte : Raw
matte = code (codes "matte")
    (loose (codes "Kd") (floats (pos 500000000)) ∷ symbol class.Param (codes "Cs") (color (pos 1000000000))
    ∷ own class.Global (codes "N") (only base.Normal) ∷ own class.Global (codes "Ci") (only base.Closure)
    ∷ own class.Temp (codes "$0") (only base.Color) ∷ own class.Temp (codes "$1") (only base.Closure) ∷ [])
    (op O.Mul (4 ∷ 0 ∷ 1 ∷ []) [] ∷ op O.ClDiffuse (5 ∷ 2 ∷ []) [] ∷ op O.Mul (3 ∷ 4 ∷ 5 ∷ []) [] ∷ [])

-- shader three(output int n = 3, output closure color k = 0) { }
abbrev three : Raw
three = code (codes "three") (symbol class.Oparam (codes "n") (ints (pos 3)) ∷ own class.Oparam (codes "k") (only base.Closure) ∷ []) []

-- surface paint(color c = 0, closure color k = 0, output color r = 0) { r = c; Ci = k; }
abbrev paint : Raw
paint = code (codes "paint")
    (symbol class.Param (codes "c") (color (pos 0)) ∷ own class.Param (codes "k") (only base.Closure) ∷ symbol class.Oparam (codes "r") (color (pos 0)) ∷ own class.Global (codes "Ci") (only base.Closure) ∷ [])
    (op O.Assign (2 ∷ 0 ∷ []) [] ∷ op O.Assign (3 ∷ 1 ∷ []) [] ∷ [])

abbrev shaders : List Raw
shaders = plain ∷ spin ∷ mixer ∷ pick ∷ matte ∷ three ∷ paint ∷ []

abbrev loaded : List Loaded
loaded = map (λ raw. record { name = raw.name; ports = ports_of raw }) shaders

-- ---- statements

abbrev layer : List ℕ → List ℕ → Statement
layer shader name = S.Shader shader name

abbrev connect : List ℕ → List ℕ → List ℕ → List ℕ → Statement
connect a p b q = S.Connect a p b q

abbrev ask : List ℕ → List ℕ → Statement
ask a p = S.Output a p

abbrev wait : List ℕ → Plain → Option Bool → Statement
wait name v lockgeom = S.Param name v lockgeom

abbrev built : List Statement → Built
built statements = builds statements loaded

abbrev net_of : Built → Network
net_of (Makes net) = net
net_of (Refuses at error) = record { layers = []; asked = [] }

-- ---- points

abbrev zeros : List ℤ
zeros = pos 0 ∷ pos 0 ∷ pos 0 ∷ []

abbrev up : List ℤ
up = pos 0 ∷ pos 0 ∷ pos 1000000000 ∷ []

abbrev point_with : List Var → VarPoint
point_with vars = record { point = record { p = zeros; n = up; ng = zeros; i = zeros; u = pos 0; v = pos 0 }; vars = vars }

abbrev shows_under : (List (List (Option Plain)) → List (List (Option Plain))) → List Statement → List Var → ℕ → Shown
shows_under edited statements vars budget =
    let net = net_of (built statements) in meaning (code_runs shaders net) net (edited (start_values net)) (point_with vars) budget

abbrev shows : List Statement → Shown
shows statements = shows_under (λ values. values) statements [] 4

-- ---- a shader that says of a parameter that it is interactive, and point variables

abbrev one_matte : List Statement
one_matte = layer (codes "matte") (codes "a") ∷ []

abbrev lit : ℤ → Shown
lit w = Shows [] (record { weight = w ∷ w ∷ w ∷ []; prim = Diffuse; normal = up; number = pos 0; text = [] } ∷ [])

matte_alone : shows one_matte ≡ lit (pos 500000000)
unfolding progress ends_after code_run run loop put step_of apply root_by root_of
matte_alone = refl

abbrev var : List ℕ → Plain → Var
var name v = record { name = name; value = v }

abbrev at_variables : List Var → Shown
at_variables vars = shows_under (λ values. values) one_matte vars 4

-- a variable of an interactive parameter's name and type acts
a_variable_acts : at_variables (var (codes "Kd") (floats (pos 250000000)) ∷ []) ≡ lit (pos 250000000)
unfolding progress ends_after code_run run loop put step_of apply root_by root_of
a_variable_acts = refl

-- also over an instance value that an edit set
over_an_edit : shows_under (λ values. after values (record { who = 0; sets = record { layer = 0; param = 0; value = floats (pos 1000000000) } ∷ [] } ∷ [])) one_matte (var (codes "Kd") (floats (pos 250000000)) ∷ []) 4
    ≡ lit (pos 250000000)
unfolding progress ends_after code_run run loop put step_of apply root_by root_of
over_an_edit = refl

-- not on a locked parameter, nor where the type is another
not_locked : at_variables (var (codes "Cs") (color (pos 500000000)) ∷ []) ≡ lit (pos 500000000)
unfolding progress ends_after code_run run loop put step_of apply root_by root_of
not_locked = refl

not_another_type : at_variables (var (codes "Kd") (ints (pos 1)) ∷ []) ≡ lit (pos 500000000)
unfolding progress ends_after code_run run loop put step_of apply root_by root_of
not_another_type = refl

-- an edit acts without a variable, and `lockgeom = 1` locks what the shader says is interactive
edited : shows_under (λ values. after values (record { who = 0; sets = record { layer = 0; param = 0; value = floats (pos 250000000) } ∷ [] } ∷ [])) one_matte [] 4 ≡ lit (pos 250000000)
unfolding progress ends_after code_run run loop put step_of apply root_by root_of
edited = refl

locked_by_the_group : shows_under (λ values. values) (wait (codes "Kd") (floats (pos 100000000)) (Some true) ∷ one_matte) (var (codes "Kd") (floats (pos 250000000)) ∷ []) 4 ≡ lit (pos 100000000)
unfolding progress ends_after code_run run loop put step_of apply root_by root_of
locked_by_the_group = refl

-- a connected parameter takes no variable, interactive or not
abbrev wired_matte : List Statement
wired_matte = layer (codes "plain") (codes "w") ∷ layer (codes "matte") (codes "a") ∷ connect (codes "w") (codes "r") (codes "a") (codes "Kd") ∷ []

not_connected : shows_under (λ values. values) wired_matte (var (codes "Kd") (floats (pos 250000000)) ∷ []) 4 ≡ lit (pos 7000000000)
unfolding progress ends_after code_run run loop put step_of apply root_by root_of
not_connected = refl

-- ---- layers that are spent, and layers that are not needed

abbrev one : ℤ → AnyValue
one units = Of (floats units)

abbrev group_of : List ℕ → List ℕ → List ℕ → List Statement
group_of source other to = layer source (codes "s") ∷ layer other (codes "q") ∷ connect (codes "s") (codes "r") (codes "q") to ∷ ask (codes "q") (codes "r") ∷ []

-- what is spent is not read here ..
passes_by : shows (group_of (codes "spin") (codes "pick") (codes "a")) ≡ Shows (one (pos 2000000000) ∷ []) []
unfolding progress ends_after code_run run loop put step_of apply root_by root_of
passes_by = refl

abbrev switched : List (List (Option Plain)) → List (List (Option Plain))
switched values = after values (record { who = 0; sets = record { layer = 1; param = 0; value = ints (pos 1) } ∷ [] } ∷ [])

-- .. and is read here
reads_spent : shows_under switched (group_of (codes "spin") (codes "pick") (codes "a")) [] 4 ≡ Spent
unfolding progress ends_after code_run run loop put step_of apply root_by root_of
reads_spent = refl

mixes_spent : shows (group_of (codes "spin") (codes "mixer") (codes "b")) ≡ Spent
unfolding progress ends_after code_run run loop put step_of apply root_by root_of
mixes_spent = refl

mixes_plain : shows (group_of (codes "plain") (codes "mixer") (codes "b")) ≡ Shows (one (pos 3000000000) ∷ []) []
unfolding progress ends_after code_run run loop put step_of apply root_by root_of
mixes_plain = refl

abbrev needs_under : (List (List (Option Plain)) → List (List (Option Plain))) → List Statement → List Bool
needs_under edited statements =
    let net = net_of (built statements) in needed net (group_run (code_runs shaders net) net (edited (start_values net)) (point_with []) 4)

one_is_needed : needs_under (λ values. values) (group_of (codes "spin") (codes "pick") (codes "a")) ≡ (false ∷ true ∷ [])
unfolding progress ends_after needed_from code_run run loop put step_of apply root_by root_of
one_is_needed = refl

both_are_needed : needs_under switched (group_of (codes "spin") (codes "pick") (codes "a")) ≡ (true ∷ true ∷ [])
unfolding progress ends_after needed_from code_run run loop put step_of apply root_by root_of
both_are_needed = refl

-- a layer of which an output is asked is needed, and an asked layer that is spent is shown as spent
asked_is_needed : needs_under (λ values. values) (group_of (codes "plain") (codes "pick") (codes "a") ++ ask (codes "s") (codes "r") ∷ []) ≡ (true ∷ true ∷ [])
unfolding progress ends_after needed_from code_run run loop put step_of apply root_by root_of
asked_is_needed = refl

asked_is_spent : shows (group_of (codes "spin") (codes "pick") (codes "a") ++ ask (codes "s") (codes "r") ∷ []) ≡ Spent
unfolding progress ends_after code_run run loop put step_of apply root_by root_of
asked_is_spent = refl

-- ---- connected values are converted, once

converted_int : shows (layer (codes "three") (codes "t") ∷ layer (codes "paint") (codes "p") ∷ connect (codes "t") (codes "n") (codes "p") (codes "c") ∷ ask (codes "p") (codes "r") ∷ ask (codes "t") (codes "n") ∷ [])
    ≡ Shows (Of (color (pos 3000000000)) ∷ Of (ints (pos 3)) ∷ []) []
unfolding progress ends_after code_run run loop put step_of apply root_by root_of
converted_int = refl

converted_float : shows (layer (codes "plain") (codes "w") ∷ layer (codes "paint") (codes "p") ∷ connect (codes "w") (codes "r") (codes "p") (codes "c") ∷ ask (codes "p") (codes "r") ∷ [])
    ≡ Shows (Of (color (pos 7000000000)) ∷ []) []
unfolding progress ends_after code_run run loop put step_of apply root_by root_of
converted_float = refl

-- an asked output twice
twice : shows (layer (codes "plain") (codes "w") ∷ ask (codes "w") (codes "r") ∷ ask (codes "w") (codes "r") ∷ []) ≡ Shows (one (pos 7000000000) ∷ one (pos 7000000000) ∷ []) []
unfolding progress ends_after code_run run loop put step_of apply root_by root_of
twice = refl

-- ---- refusals, each at its statement

abbrev mixed : List Statement
mixed = layer (codes "mixer") (codes "m") ∷ layer (codes "plain") (codes "w") ∷ []

not_upstream : built (mixed ++ connect (codes "w") (codes "r") (codes "m") (codes "b") ∷ []) ≡ Refuses 3 E.NotUpstream
unfolding progress
not_upstream = refl

not_itself : built (mixed ++ connect (codes "m") (codes "r") (codes "m") (codes "b") ∷ []) ≡ Refuses 3 E.NotUpstream
unfolding progress
not_itself = refl

abbrev mixed_again : List Statement
mixed_again = mixed ++ layer (codes "mixer") (codes "m2") ∷ connect (codes "w") (codes "r") (codes "m2") (codes "b") ∷ []

connected_already : built (mixed_again ++ connect (codes "w") (codes "r") (codes "m2") (codes "b") ∷ []) ≡ Refuses 5 E.Connected
unfolding progress
connected_already = refl

not_input : built (mixed_again ++ connect (codes "w") (codes "r") (codes "m2") (codes "r") ∷ []) ≡ Refuses 5 E.NotInput
unfolding progress
not_input = refl

not_output : built (mixed_again ++ connect (codes "m") (codes "a") (codes "m2") (codes "r") ∷ []) ≡ Refuses 5 E.NotOutput
unfolding progress
not_output = refl

no_layer : built (mixed_again ++ connect (codes "m") (codes "x") (codes "n") (codes "r") ∷ []) ≡ Refuses 5 E.NoLayer
unfolding progress
no_layer = refl

no_parameter : built (mixed_again ++ connect (codes "m") (codes "a") (codes "m2") (codes "x") ∷ []) ≡ Refuses 5 E.NoParam
unfolding progress
no_parameter = refl

closures_alone : built (layer (codes "three") (codes "t") ∷ layer (codes "paint") (codes "p") ∷ connect (codes "t") (codes "k") (codes "p") (codes "c") ∷ []) ≡ Refuses 3 E.WrongType
unfolding progress
closures_alone = refl

no_shader : built (mixed ++ layer (codes "none") (codes "m") ∷ []) ≡ Refuses 3 E.NoShader
unfolding progress
no_shader = refl

same_layer : built (layer (codes "matte") (codes "a") ∷ wait (codes "x") (ints (pos 1)) None ∷ layer (codes "matte") (codes "a") ∷ []) ≡ Refuses 3 E.SameLayer
unfolding progress
same_layer = refl

no_such_name : built (wait (codes "Kd") (ints (pos 1)) None ∷ wait (codes "x") (ints (pos 1)) None ∷ one_matte) ≡ Refuses 3 E.NoParam
unfolding progress
no_such_name = refl

not_its_type : built (wait (codes "Kd") (ints (pos 1)) None ∷ one_matte) ≡ Refuses 2 E.WrongType
unfolding progress
not_its_type = refl

-- of two of one name the later counts, whole
the_later : shows_under (λ values. values) (wait (codes "Kd") (ints (pos 1)) (Some true) ∷ wait (codes "Kd") (floats (pos 100000000)) None ∷ one_matte) (var (codes "Kd") (floats (pos 250000000)) ∷ []) 4 ≡ lit (pos 250000000)
unfolding progress ends_after code_run run loop put step_of apply root_by root_of
the_later = refl

closure_asked : built (layer (codes "three") (codes "t") ∷ ask (codes "t") (codes "k") ∷ []) ≡ Refuses 2 E.WrongType
unfolding progress
closure_asked = refl

input_asked : built (layer (codes "mixer") (codes "m") ∷ ask (codes "m") (codes "a") ∷ []) ≡ Refuses 2 E.NotOutput
unfolding progress
input_asked = refl

-- no layer counts as the statement after the last
empty : built [] ≡ Refuses 1 E.Empty
unfolding progress
empty = refl

only_waiting : built (wait (codes "Kd") (ints (pos 1)) None ∷ []) ≡ Refuses 2 E.Empty
unfolding progress
only_waiting = refl

same_shader : load_refused (codes "plain") (begun loaded) ≡ Some E.SameShader
same_shader = refl

-- ---- sure layers

abbrev loops_of : List Raw → ℕ → Bool
loops_of raws l = has_loop (get_or raws l plain)

-- a loop, and what is connected to it, is not sure
sure : sure_layers (loops_of (spin ∷ mixer ∷ plain ∷ [])) (net_of (built (layer (codes "spin") (codes "s") ∷ layer (codes "mixer") (codes "m") ∷ layer (codes "plain") (codes "w") ∷ connect (codes "s") (codes "r") (codes "m") (codes "b") ∷ [])))
    ≡ (false ∷ false ∷ true ∷ [])
unfolding progress sure_after
sure = refl
