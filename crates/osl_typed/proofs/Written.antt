-- Typed trees with their meanings written out, so that what a small shader gives is found by computing: a tree is built from its parts, and with it what it means and that it does.
use Rattle.std.proofs.Common.{◌≡◌, ℕ, zero, suc, refl, ap, ◌∙◌}
use Rattle.std.proofs.lemmas.List.{length-map}
use Rattle.std.proofs.lemmas.Option.{slice_get-map}
use Rattle.std.specs.Prelude.{ℤ, ◌+◌, ◌==◌, Bool, true, false, if◌then◌else◌, List, [], ◌∷◌, length, map, Option, None, Some, option_map, slice_get}
use Rattle.osl_value.specs.declared.op_name.OpName.{OpName}
use Rattle.osl_value.specs.declared.point.Point.{Point}
use Rattle.osl_value.specs.declared.types.Ty.{Ty}
use Rattle.osl_value.specs.AnyValue.{AnyValue}
use Rattle.osl_layer.specs.Layer.{Input, From, Fixed, Default, Inputs, LayerEnd}
use Rattle.osl_overload.specs.declared.signature.Formal.{Formal}
use Rattle.osl_overload.specs.declared.signature.Kind.{Kind}
use Rattle.osl_value.specs.declared.shader_kind.ShaderKind.{ShaderKind}
use Rattle.osl_typed.specs.declared.expr.Argument.{Argument}
use Rattle.osl_typed.specs.declared.expr.Argument.TheOpen as node
use Rattle.osl_typed.specs.declared.expr.Argument.TheVariants as arguments
use Rattle.osl_typed.specs.declared.expr.Part.{Part}
use Rattle.osl_typed.specs.declared.expr.Root.{Root}
use Rattle.osl_typed.specs.declared.expr.Increment.{Increment}
use Rattle.osl_typed.specs.declared.expr.TypedExpr.{TypedExpr}
use Rattle.osl_typed.specs.declared.expr.TypedExpr.TheVariants as e
use Rattle.osl_typed.specs.declared.shader.TypedFunction.{TypedFunction}
use Rattle.osl_typed.specs.declared.shader.TypedParam.{TypedParam}
use Rattle.osl_typed.specs.declared.shader.TypedShader.{TypedShader}
use Rattle.osl_typed.specs.declared.shader.TypedStructure.{TypedStructure}
use Rattle.osl_typed.specs.declared.stmt.TypedForStart.TheVariants as start
use Rattle.osl_typed.specs.declared.stmt.TypedInit.TheVariants as init
use Rattle.osl_typed.specs.declared.stmt.TypedStmt.{TypedStmt}
use Rattle.osl_typed.specs.declared.stmt.TypedStmt.TheVariants as s
use Rattle.osl_typed.specs.Ends.{Doing, Next, Breaks, Continues, Returns, then_do, in_turn, looped}
use Rattle.osl_typed.specs.Expressions.{Meaning, Passing, Calls, Called, Lost, expr_step, argument_step, eval, pass}
use Rattle.osl_typed.specs.Frames.{place_of}
use Rattle.osl_typed.specs.Parts.{Frame}
use Rattle.osl_typed.specs.SourceRun.{start_of, shader_frame, functions_of, default_held, defaults_held, layer_end, source_run}
use Rattle.osl_typed.specs.State.{State, Globals, Reads, Gives, in_order, write_leaves}
use Rattle.osl_typed.specs.Statements.{with_value, tested, done, decided, listed, exec, exec_all, call_end, frame_types, entered, function_frame, run_function, below}
use Rattle.osl_typed.proofs.ExpressionLaws as laws
use Rattle.osl_typed.proofs.StatementLaws as laws2

-- ---- expressions

pub record Known : Type 0 where
  pub tree : TypedExpr
  pub means : Frame → Calls → Meaning
  pub same : (frame : Frame) (calls : Calls) → eval frame calls tree ≡ means frame calls

abbrev pub trees : List Known → List TypedExpr
trees [] = []
trees (k ∷ ks) = k.tree ∷ trees ks

abbrev pub meanings : Frame → Calls → List Known → List Meaning
meanings frame calls [] = []
meanings frame calls (k ∷ ks) = k.means frame calls ∷ meanings frame calls ks

pub all_same : (frame : Frame) (calls : Calls) (ks : List Known) → map (eval frame calls) (trees ks) ≡ meanings frame calls ks
all_same frame calls [] = refl
all_same frame calls (k ∷ ks) = λ i. k.same frame calls i ∷ all_same frame calls ks i

abbrev pub int : ℤ → Known
int n = record { tree = e.Int n; means = λ frame calls. expr_step frame calls (node.Int n); same = λ frame calls. laws.eval-Int frame calls n }

abbrev pub number : ℤ → Known
number units = record { tree = e.Float units; means = λ frame calls. expr_step frame calls (node.Float units); same = λ frame calls. laws.eval-Float frame calls units }

abbrev pub text : List ℕ → Known
text bytes = record { tree = e.Text bytes; means = λ frame calls. expr_step frame calls (node.Text bytes); same = λ frame calls. laws.eval-Text frame calls bytes }

abbrev pub part : Root → Part → List Known → Known
part root p ks = record {
  tree = e.Variable root p (trees ks);
  means = λ frame calls. expr_step frame calls (node.Variable root p (meanings frame calls ks));
  same = λ frame calls. laws.eval-Variable frame calls root p (trees ks) ∙ ap (λ ms. expr_step frame calls (node.Variable root p ms)) (all_same frame calls ks);
}

abbrev pub part_of : Kind → Known → Part → List Known → Known
part_of kind a p ks = record {
  tree = e.PartOf kind a.tree p (trees ks);
  means = λ frame calls. expr_step frame calls (node.PartOf kind (a.means frame calls) p (meanings frame calls ks));
  same = λ frame calls. laws.eval-PartOf frame calls kind a.tree p (trees ks)
      ∙ (λ i. expr_step frame calls (node.PartOf kind (a.same frame calls i) p (all_same frame calls ks i)));
}

-- `(a)`
abbrev pub paren : Kind → Known → Known
paren kind k = record {
  tree = e.Paren kind k.tree;
  means = λ frame calls. expr_step frame calls (node.Paren kind (k.means frame calls));
  same = λ frame calls. laws.eval-Paren frame calls kind k.tree ∙ ap (λ m. expr_step frame calls (node.Paren kind m)) (k.same frame calls);
}

abbrev pub promote : Ty → Known → Known
promote ty k = record {
  tree = e.Promote ty k.tree;
  means = λ frame calls. expr_step frame calls (node.Promote ty (k.means frame calls));
  same = λ frame calls. laws.eval-Promote frame calls ty k.tree ∙ ap (λ m. expr_step frame calls (node.Promote ty m)) (k.same frame calls);
}

abbrev pub apply_to : OpName → Ty → List Known → Known
apply_to op ty ks = record {
  tree = e.Apply op ty (trees ks);
  means = λ frame calls. expr_step frame calls (node.Apply op ty (meanings frame calls ks));
  same = λ frame calls. laws.eval-Apply frame calls op ty (trees ks) ∙ ap (λ ms. expr_step frame calls (node.Apply op ty ms)) (all_same frame calls ks);
}

-- `a && b`
abbrev pub both : Known → Known → Known
both a b = record {
  tree = e.And a.tree b.tree;
  means = λ frame calls. expr_step frame calls (node.And (a.means frame calls) (b.means frame calls));
  same = λ frame calls. laws.eval-And frame calls a.tree b.tree ∙ (λ i. expr_step frame calls (node.And (a.same frame calls i) (b.same frame calls i)));
}

-- `a || b`
abbrev pub either : Known → Known → Known
either a b = record {
  tree = e.Or a.tree b.tree;
  means = λ frame calls. expr_step frame calls (node.Or (a.means frame calls) (b.means frame calls));
  same = λ frame calls. laws.eval-Or frame calls a.tree b.tree ∙ (λ i. expr_step frame calls (node.Or (a.same frame calls i) (b.same frame calls i)));
}

abbrev pub choose : Kind → Known → Known → Known → Known
choose kind c a b = record {
  tree = e.Choose kind c.tree a.tree b.tree;
  means = λ frame calls. expr_step frame calls (node.Choose kind (c.means frame calls) (a.means frame calls) (b.means frame calls));
  same = λ frame calls. laws.eval-Choose frame calls kind c.tree a.tree b.tree
      ∙ (λ i. expr_step frame calls (node.Choose kind (c.same frame calls i) (a.same frame calls i) (b.same frame calls i)));
}

abbrev pub set : Root → Part → List Known → Known → Known
set root p ks a = record {
  tree = e.Assign root p (trees ks) a.tree;
  means = λ frame calls. expr_step frame calls (node.Assign root p (meanings frame calls ks) (a.means frame calls));
  same = λ frame calls. laws.eval-Assign frame calls root p (trees ks) a.tree
      ∙ (λ i. expr_step frame calls (node.Assign root p (all_same frame calls ks i) (a.same frame calls i)));
}

abbrev pub update : OpName → Ty → Root → Part → List Known → Known → Known
update op ty root p ks a = record {
  tree = e.Update op ty root p (trees ks) a.tree;
  means = λ frame calls. expr_step frame calls (node.Update op ty root p (meanings frame calls ks) (a.means frame calls));
  same = λ frame calls. laws.eval-Update frame calls op ty root p (trees ks) a.tree
      ∙ (λ i. expr_step frame calls (node.Update op ty root p (all_same frame calls ks i) (a.same frame calls i)));
}

abbrev pub step : Increment → Ty → Root → Known
step by ty root = record { tree = e.Step by ty root; means = λ frame calls. expr_step frame calls (node.Step by ty root); same = λ frame calls. laws.eval-Step frame calls by ty root }

abbrev pub exit : Known
exit = record { tree = e.Exit; means = λ frame calls. expr_step frame calls node.Exit; same = λ frame calls. laws.eval-Exit frame calls }

-- ---- arguments and calls

pub record Passes : Type 0 where
  pub tree : Argument
  pub means : Frame → Calls → Passing
  pub same : (frame : Frame) (calls : Calls) → pass frame calls tree ≡ means frame calls

abbrev pub copied : Known → Passes
copied k = record {
  tree = arguments.In k.tree;
  means = λ frame calls. argument_step frame (node.In (k.means frame calls));
  same = λ frame calls. laws.pass-In frame calls k.tree ∙ ap (λ m. argument_step frame (node.In m)) (k.same frame calls);
}

abbrev pub lent : Root → Part → List Known → Passes
lent root p ks = record {
  tree = arguments.Out root p (trees ks);
  means = λ frame calls. argument_step frame (node.Out root p (meanings frame calls ks));
  same = λ frame calls. laws.pass-Out frame calls root p (trees ks) ∙ ap (λ ms. argument_step frame (node.Out root p ms)) (all_same frame calls ks);
}

abbrev pub passed_trees : List Passes → List Argument
passed_trees [] = []
passed_trees (a ∷ args) = a.tree ∷ passed_trees args

abbrev pub passings : Frame → Calls → List Passes → List Passing
passings frame calls [] = []
passings frame calls (a ∷ args) = a.means frame calls ∷ passings frame calls args

pub all_passed : (frame : Frame) (calls : Calls) (args : List Passes) → map (pass frame calls) (passed_trees args) ≡ passings frame calls args
all_passed frame calls [] = refl
all_passed frame calls (a ∷ args) = λ i. a.same frame calls i ∷ all_passed frame calls args i

abbrev pub call : ℕ → Kind → List Passes → Known
call f kind args = record {
  tree = e.Call f kind (passed_trees args);
  means = λ frame calls. expr_step frame calls (node.Call f kind (passings frame calls args));
  same = λ frame calls. laws.eval-Call frame calls f kind (passed_trees args) ∙ ap (λ ms. expr_step frame calls (node.Call f kind ms)) (all_passed frame calls args);
}

-- ---- statements

pub record Does : Type 0 where
  pub tree : TypedStmt
  pub means : Frame → Calls → Doing
  pub same : (frame : Frame) (calls : Calls) → exec frame calls tree ≡ means frame calls

abbrev pub steps : List Does → List TypedStmt
steps [] = []
steps (d ∷ ds) = d.tree ∷ steps ds

abbrev pub doings : Frame → Calls → List Does → List Doing
doings frame calls [] = []
doings frame calls (d ∷ ds) = d.means frame calls ∷ doings frame calls ds

pub all_done : (frame : Frame) (calls : Calls) (ds : List Does) → map (exec frame calls) (steps ds) ≡ doings frame calls ds
all_done frame calls [] = refl
all_done frame calls (d ∷ ds) = λ i. d.same frame calls i ∷ all_done frame calls ds i

abbrev pub nothing : Does
nothing = record { tree = s.Empty; means = λ frame calls. Next; same = λ frame calls. laws2.exec-Empty frame calls }

abbrev pub block : List Does → Does
block ds = record {
  tree = s.Block (steps ds);
  means = λ frame calls. in_turn (doings frame calls ds);
  same = λ frame calls. laws2.exec-Block frame calls (steps ds) ∙ ap in_turn (all_done frame calls ds);
}

abbrev pub evaluate : Known → Does
evaluate k = record {
  tree = s.Expr k.tree;
  means = λ frame calls. done (k.means frame calls);
  same = λ frame calls. laws2.exec-Expr frame calls k.tree ∙ ap done (k.same frame calls);
}

-- the variable of a number, whose initialiser is an expression
abbrev pub variable : ℕ → Kind → Known → Does
variable k kind a = record {
  tree = s.Declare (record { number = k; kind = kind; init = Some (init.Expr a.tree) } ∷ []);
  means = λ frame calls. in_turn ((λ s. with_value (a.means frame calls s) (λ vs s1. Next (write_leaves (place_of frame.structures frame.kinds k) vs s1))) ∷ []);
  same = λ frame calls. laws2.exec-Declare frame calls (record { number = k; kind = kind; init = Some (init.Expr a.tree) } ∷ [])
      ∙ (λ i. in_turn ((λ s. with_value (a.same frame calls i s) (λ vs s1. Next (write_leaves (place_of frame.structures frame.kinds k) vs s1))) ∷ []));
}

-- the variable of a number, whose initialiser is a list
abbrev pub variable_of : ℕ → Kind → List Known → Does
variable_of k kind ks = record {
  tree = s.Declare (record { number = k; kind = kind; init = Some (init.List (trees ks)) } ∷ []);
  means = λ frame calls. in_turn ((λ s. with_value (in_order (meanings frame calls ks) s (λ vs s1. Gives (listed frame.structures kind vs) s1)) (λ vs s1. Next (write_leaves (place_of frame.structures frame.kinds k) vs s1))) ∷ []);
  same = λ frame calls. laws2.exec-Declare frame calls (record { number = k; kind = kind; init = Some (init.List (trees ks)) } ∷ [])
      ∙ (λ i. in_turn ((λ s. with_value (in_order (all_same frame calls ks i) s (λ vs s1. Gives (listed frame.structures kind vs) s1)) (λ vs s1. Next (write_leaves (place_of frame.structures frame.kinds k) vs s1))) ∷ []));
}

abbrev pub give_back : Known → Does
give_back a = record {
  tree = s.Return (Some a.tree);
  means = λ frame calls s0. with_value (a.means frame calls s0) (λ v s1. Returns v s1);
  same = λ frame calls. laws2.exec-Return frame calls (Some a.tree) ∙ (λ i s0. with_value (a.same frame calls i s0) (λ v s1. Returns v s1));
}

abbrev pub only_if : Known → Does → Does
only_if c a = record {
  tree = s.If c.tree a.tree None;
  means = λ frame calls. decided (c.means frame calls) (a.means frame calls) Next;
  same = λ frame calls. laws2.exec-If frame calls c.tree a.tree ∙ (λ i. decided (c.same frame calls i) (a.same frame calls i) Next);
}

abbrev pub if_else : Known → Does → Does → Does
if_else c a b = record {
  tree = s.If c.tree a.tree (Some b.tree);
  means = λ frame calls. decided (c.means frame calls) (a.means frame calls) (b.means frame calls);
  same = λ frame calls. laws2.exec-If-Else frame calls c.tree a.tree b.tree ∙ (λ i. decided (c.same frame calls i) (a.same frame calls i) (b.same frame calls i));
}

abbrev pub break_off : Does
break_off = record { tree = s.Break; means = λ frame calls. Breaks; same = λ frame calls. laws2.exec-Break frame calls }

abbrev pub go_on : Does
go_on = record { tree = s.Continue; means = λ frame calls. Continues; same = λ frame calls. laws2.exec-Continue frame calls }

abbrev pub while_true : Known → Does → Does
while_true c a = record {
  tree = s.While c.tree a.tree;
  means = λ frame calls. looped true (λ s0. tested (c.means frame calls s0)) (a.means frame calls) Next;
  same = λ frame calls. laws2.exec-While frame calls c.tree a.tree ∙ (λ i. looped true (λ s0. tested (c.same frame calls i s0)) (a.same frame calls i) Next);
}

abbrev pub do_while : Does → Known → Does
do_while a c = record {
  tree = s.DoWhile a.tree c.tree;
  means = λ frame calls. looped false (λ s0. tested (c.means frame calls s0)) (a.means frame calls) Next;
  same = λ frame calls. laws2.exec-DoWhile frame calls a.tree c.tree ∙ (λ i. looped false (λ s0. tested (c.same frame calls i s0)) (a.same frame calls i) Next);
}

-- `for (variable; c; next) a`
abbrev pub for_each : ℕ → Kind → Known → Known → Known → Does → Does
for_each k kind from c next a = record {
  tree = s.For (start.Declare (record { number = k; kind = kind; init = Some (init.Expr from.tree) } ∷ [])) (Some c.tree) (Some next.tree) a.tree;
  means = λ frame calls s0. then_do ((variable k kind from).means frame calls s0) (looped true (λ s1. tested (c.means frame calls s1)) (a.means frame calls) (done (next.means frame calls)));
  same = λ frame calls. laws2.exec-For frame calls (start.Declare (record { number = k; kind = kind; init = Some (init.Expr from.tree) } ∷ [])) (Some c.tree) (Some next.tree) a.tree
      ∙ (λ i s0. then_do (in_turn ((λ s. with_value (from.same frame calls i s) (λ vs s1. Next (write_leaves (place_of frame.structures frame.kinds k) vs s1))) ∷ []) s0)
      (looped true (λ s1. tested (c.same frame calls i s1)) (a.same frame calls i) (done (next.same frame calls i))));
}

-- ---- functions

pub record Routine : Type 0 where
  pub result : Kind
  pub formals : List Formal
  pub kinds : List Kind
  pub body : List Does

abbrev pub function : Routine → TypedFunction
function f = record { result = f.result; formals = f.formals; frame = f.kinds; body = steps f.body }

abbrev pub functions : List Routine → List TypedFunction
functions fs = map function fs

abbrev run_routine : List TypedStructure → Calls → Option Routine → State → Called
run_routine structures calls None s = Lost s.turns s.reads
run_routine structures calls (Some f) s = call_end structures (function f) (in_turn (doings (function_frame structures (function f)) calls f.body) s)

unfoldable pub routines_below : List TypedStructure → List Routine → ℕ → Calls
routines_below structures fs zero f args globals turns reads = Lost turns reads
routines_below structures fs (suc n) f args globals turns reads =
    if f == n then run_routine structures (routines_below structures fs n) (slice_get fs n) (entered (frame_types structures (option_map function (slice_get fs n))) args globals turns reads)
    else routines_below structures fs n f args globals turns reads

same_routine : (structures : List TypedStructure) (one other : Calls) → one ≡ other → (f : Option Routine) (s : State)
    → run_function structures one (option_map function f) s ≡ run_routine structures other f s
same_routine structures one other same None s = refl
same_routine structures one other same (Some f) s =
    ap (λ calls. call_end structures (function f) (exec_all (function_frame structures (function f)) calls (steps f.body) s)) same
    ∙ (λ i. call_end structures (function f) (in_turn (all_done (function_frame structures (function f)) other f.body i) s))

same_next : (structures : List TypedStructure) (fs : List Routine) (n : ℕ) → below structures (functions fs) n ≡ routines_below structures fs n → (args : List (List AnyValue)) (globals : Globals) (turns : ℕ) (reads : Reads)
    → run_function structures (below structures (functions fs) n) (slice_get (functions fs) n) (entered (frame_types structures (slice_get (functions fs) n)) args globals turns reads)
    ≡ run_routine structures (routines_below structures fs n) (slice_get fs n) (entered (frame_types structures (option_map function (slice_get fs n))) args globals turns reads)
same_next structures fs n inside args globals turns reads =
    ap (λ g. run_function structures (below structures (functions fs) n) g (entered (frame_types structures g) args globals turns reads)) (slice_get-map function fs n)
    ∙ same_routine structures _ _ inside (slice_get fs n) (entered (frame_types structures (option_map function (slice_get fs n))) args globals turns reads)

same_routines : (structures : List TypedStructure) (fs : List Routine) (n : ℕ) → below structures (functions fs) n ≡ routines_below structures fs n
unfolding below routines_below
same_routines structures fs zero = refl
same_routines structures fs (suc n) = λ i f args globals turns reads.
    if f == n then same_next structures fs n (same_routines structures fs n) args globals turns reads i
    else same_routines structures fs n i f args globals turns reads

-- ---- shaders

-- a parameter with an expression for its default
pub record Given : Type 0 where
  pub output : Bool
  pub ty : Ty
  pub from : Known

abbrev pub param : Given → TypedParam
param p = record { output = p.output; ty = p.ty; name = []; init = init.Expr p.from.tree; metadata = [] }

pub record Whole : Type 0 where
  pub structures : List TypedStructure
  pub functions : List Routine
  pub kind : ShaderKind
  pub params : List Given
  pub kinds : List Kind
  pub body : List Does

abbrev pub shader : Whole → TypedShader
shader w = record {
  structures = w.structures;
  functions = functions w.functions;
  kind = w.kind;
  name = [];
  metadata = [];
  params = map param w.params;
  frame = w.kinds;
  body = steps w.body;
  longest_word = 0;
  longest_text = 0;
}

abbrev default_written : Frame → Calls → Input → ℕ → Given → Doing
default_written frame calls (From source) k p s = Next s
default_written frame calls (Fixed v) k p s = Next s
default_written frame calls Default k p s =
    with_value (p.from.means frame calls s) (λ vs s1. Next (write_leaves (place_of frame.structures frame.kinds k) vs s1))

unfoldable pub defaults_written : Frame → Calls → ℕ → List Given → Doing
defaults_written frame calls k [] s = Next s
defaults_written frame calls k (p ∷ ps) s = then_do (default_written frame calls (frame.inputs k) k p s) (defaults_written frame calls (k + 1) ps)

-- the run of the shader, by the meanings of its parts
unfoldable pub run_of : Whole → Inputs → Point → ℕ → LayerEnd
run_of w inputs point budget =
    let frame = shader_frame (shader w) inputs in
    let calls = routines_below w.structures w.functions (length w.functions) in
    layer_end (shader w) (then_do (defaults_written frame calls 0 w.params (start_of (shader w) inputs point budget)) (in_turn (doings frame calls w.body)))

same_default : (frame : Frame) (calls : Calls) (input : Input) (k : ℕ) (p : Given) (s : State)
    → default_held frame calls input k (param p) s ≡ default_written frame calls input k p s
same_default frame calls (From source) k p s = refl
same_default frame calls (Fixed v) k p s = refl
same_default frame calls Default k p s =
    λ i. with_value (p.from.same frame calls i s) (λ vs s1. Next (write_leaves (place_of frame.structures frame.kinds k) vs s1))

same_defaults : (frame : Frame) (calls : Calls) (k : ℕ) (ps : List Given) → defaults_held frame calls k (map param ps) ≡ defaults_written frame calls k ps
unfolding defaults_held defaults_written
same_defaults frame calls k [] = refl
same_defaults frame calls k (p ∷ ps) =
    λ i s. then_do (same_default frame calls (frame.inputs k) k p s i) (same_defaults frame calls (k + 1) ps i)

same_functions : (w : Whole) → functions_of (shader w) ≡ routines_below w.structures w.functions (length w.functions)
same_functions w =
    ap (below w.structures (functions w.functions)) (length-map w.functions function) ∙ same_routines w.structures w.functions (length w.functions)

-- what a shader that is written out gives
pub runs : (w : Whole) (inputs : Inputs) (point : Point) (budget : ℕ) → source_run (shader w) inputs point budget ≡ run_of w inputs point budget
unfolding source_run run_of
runs w inputs point budget =
    let frame : Frame = shader_frame (shader w) inputs in
    let start : State = start_of (shader w) inputs point budget in
    (λ i. layer_end (shader w) (then_do (defaults_held frame (same_functions w i) 0 (map param w.params) start) (exec_all frame (same_functions w i) (steps w.body))))
    ∙ (λ i. layer_end (shader w) (then_do (same_defaults frame (routines_below w.structures w.functions (length w.functions)) 0 w.params i start)
    (in_turn (all_done frame (routines_below w.structures w.functions (length w.functions)) w.body i))))
