-- Whether each node of an expression is calm, from whether its parts are.
use Rattle.std.proofs.Common.{◌≡◌, ℕ, sym, ap, ◌∙◌}
use Rattle.std.specs.Prelude.{ℤ, Bool, List, map}
use Rattle.osl_value.specs.declared.op_name.OpName.{OpName}
use Rattle.osl_value.specs.declared.types.Ty.{Ty}
use Rattle.osl_overload.specs.declared.signature.Kind.{Kind}
use Rattle.osl_typed.specs.declared.expr.Root.{Root}
use Rattle.osl_typed.specs.declared.expr.Part.{Part}
use Rattle.osl_typed.specs.declared.expr.Increment.{Increment}
use Rattle.osl_typed.specs.declared.expr.TypedExpr.{TypedExpr}
use Rattle.osl_typed.specs.declared.expr.TypedExpr.TheVariants as e
use Rattle.osl_typed.specs.declared.expr.Argument.{Argument}
use Rattle.osl_typed.specs.declared.expr.Argument.TheVariants as arguments
use Rattle.osl_typed.specs.declared.expr.Argument.TheOpen as node
use Rattle.osl_typed.specs.declared.expr.Argument.TheFolds.{fold-TypedExpr, fold-Argument, fold-roll-TypedExpr, fold-roll-Argument}
use Rattle.osl_genparts.specs.Calm.{calm_step, calm_passed, is_calm, passes_calm}

pub calm-Int : (n : ℤ) → is_calm (e.Int n) ≡ calm_step (node.Int n)
unfolding is_calm passes_calm
calm-Int n =
    ap (fold-TypedExpr Bool Bool calm_passed calm_step) (sym (e.rolls-Int n))
    ∙ fold-roll-TypedExpr Bool Bool calm_passed calm_step (node.Int n)

pub calm-Float : (units : ℤ) → is_calm (e.Float units) ≡ calm_step (node.Float units)
unfolding is_calm passes_calm
calm-Float units =
    ap (fold-TypedExpr Bool Bool calm_passed calm_step) (sym (e.rolls-Float units))
    ∙ fold-roll-TypedExpr Bool Bool calm_passed calm_step (node.Float units)

pub calm-Text : (bytes : List ℕ) → is_calm (e.Text bytes) ≡ calm_step (node.Text bytes)
unfolding is_calm passes_calm
calm-Text bytes =
    ap (fold-TypedExpr Bool Bool calm_passed calm_step) (sym (e.rolls-Text bytes))
    ∙ fold-roll-TypedExpr Bool Bool calm_passed calm_step (node.Text bytes)

pub calm-Variable : (root : Root) (part : Part) (indices : List TypedExpr) → is_calm (e.Variable root part indices) ≡ calm_step (node.Variable root part (map is_calm indices))
unfolding is_calm passes_calm
calm-Variable root part indices =
    ap (fold-TypedExpr Bool Bool calm_passed calm_step) (sym (e.rolls-Variable root part indices))
    ∙ fold-roll-TypedExpr Bool Bool calm_passed calm_step (node.Variable root part indices)

pub calm-PartOf : (kind : Kind) (a : TypedExpr) (part : Part) (indices : List TypedExpr) → is_calm (e.PartOf kind a part indices) ≡ calm_step (node.PartOf kind (is_calm a) part (map is_calm indices))
unfolding is_calm passes_calm
calm-PartOf kind a part indices =
    ap (fold-TypedExpr Bool Bool calm_passed calm_step) (sym (e.rolls-PartOf kind a part indices))
    ∙ fold-roll-TypedExpr Bool Bool calm_passed calm_step (node.PartOf kind a part indices)

pub calm-Paren : (kind : Kind) (a : TypedExpr) → is_calm (e.Paren kind a) ≡ calm_step (node.Paren kind (is_calm a))
unfolding is_calm passes_calm
calm-Paren kind a =
    ap (fold-TypedExpr Bool Bool calm_passed calm_step) (sym (e.rolls-Paren kind a))
    ∙ fold-roll-TypedExpr Bool Bool calm_passed calm_step (node.Paren kind a)

pub calm-Promote : (ty : Ty) (a : TypedExpr) → is_calm (e.Promote ty a) ≡ calm_step (node.Promote ty (is_calm a))
unfolding is_calm passes_calm
calm-Promote ty a =
    ap (fold-TypedExpr Bool Bool calm_passed calm_step) (sym (e.rolls-Promote ty a))
    ∙ fold-roll-TypedExpr Bool Bool calm_passed calm_step (node.Promote ty a)

pub calm-Apply : (op : OpName) (ty : Ty) (operands : List TypedExpr) → is_calm (e.Apply op ty operands) ≡ calm_step (node.Apply op ty (map is_calm operands))
unfolding is_calm passes_calm
calm-Apply op ty operands =
    ap (fold-TypedExpr Bool Bool calm_passed calm_step) (sym (e.rolls-Apply op ty operands))
    ∙ fold-roll-TypedExpr Bool Bool calm_passed calm_step (node.Apply op ty operands)

pub calm-And : (a b : TypedExpr) → is_calm (e.And a b) ≡ calm_step (node.And (is_calm a) (is_calm b))
unfolding is_calm passes_calm
calm-And a b =
    ap (fold-TypedExpr Bool Bool calm_passed calm_step) (sym (e.rolls-And a b))
    ∙ fold-roll-TypedExpr Bool Bool calm_passed calm_step (node.And a b)

pub calm-Or : (a b : TypedExpr) → is_calm (e.Or a b) ≡ calm_step (node.Or (is_calm a) (is_calm b))
unfolding is_calm passes_calm
calm-Or a b =
    ap (fold-TypedExpr Bool Bool calm_passed calm_step) (sym (e.rolls-Or a b))
    ∙ fold-roll-TypedExpr Bool Bool calm_passed calm_step (node.Or a b)

pub calm-Choose : (kind : Kind) (c a b : TypedExpr) → is_calm (e.Choose kind c a b) ≡ calm_step (node.Choose kind (is_calm c) (is_calm a) (is_calm b))
unfolding is_calm passes_calm
calm-Choose kind c a b =
    ap (fold-TypedExpr Bool Bool calm_passed calm_step) (sym (e.rolls-Choose kind c a b))
    ∙ fold-roll-TypedExpr Bool Bool calm_passed calm_step (node.Choose kind c a b)

pub calm-Assign : (root : Root) (part : Part) (indices : List TypedExpr) (a : TypedExpr) → is_calm (e.Assign root part indices a) ≡ calm_step (node.Assign root part (map is_calm indices) (is_calm a))
unfolding is_calm passes_calm
calm-Assign root part indices a =
    ap (fold-TypedExpr Bool Bool calm_passed calm_step) (sym (e.rolls-Assign root part indices a))
    ∙ fold-roll-TypedExpr Bool Bool calm_passed calm_step (node.Assign root part indices a)

pub calm-Update : (op : OpName) (ty : Ty) (root : Root) (part : Part) (indices : List TypedExpr) (a : TypedExpr) → is_calm (e.Update op ty root part indices a) ≡ calm_step (node.Update op ty root part (map is_calm indices) (is_calm a))
unfolding is_calm passes_calm
calm-Update op ty root part indices a =
    ap (fold-TypedExpr Bool Bool calm_passed calm_step) (sym (e.rolls-Update op ty root part indices a))
    ∙ fold-roll-TypedExpr Bool Bool calm_passed calm_step (node.Update op ty root part indices a)

pub calm-Step : (step : Increment) (ty : Ty) (root : Root) → is_calm (e.Step step ty root) ≡ calm_step (node.Step step ty root)
unfolding is_calm passes_calm
calm-Step step ty root =
    ap (fold-TypedExpr Bool Bool calm_passed calm_step) (sym (e.rolls-Step step ty root))
    ∙ fold-roll-TypedExpr Bool Bool calm_passed calm_step (node.Step step ty root)

pub calm-Call : (f : ℕ) (kind : Kind) (args : List Argument) → is_calm (e.Call f kind args) ≡ calm_step (node.Call f kind (map passes_calm args))
unfolding is_calm passes_calm
calm-Call f kind args =
    ap (fold-TypedExpr Bool Bool calm_passed calm_step) (sym (e.rolls-Call f kind args))
    ∙ fold-roll-TypedExpr Bool Bool calm_passed calm_step (node.Call f kind args)

pub calm-Exit : is_calm e.Exit ≡ calm_step node.Exit
unfolding is_calm passes_calm
calm-Exit =
    ap (fold-TypedExpr Bool Bool calm_passed calm_step) (sym e.rolls-Exit)
    ∙ fold-roll-TypedExpr Bool Bool calm_passed calm_step node.Exit

pub calm-In : (a : TypedExpr) → passes_calm (arguments.In a) ≡ calm_passed (node.In (is_calm a))
unfolding is_calm passes_calm
calm-In a =
    ap (fold-Argument Bool Bool calm_passed calm_step) (sym (arguments.rolls-In a))
    ∙ fold-roll-Argument Bool Bool calm_passed calm_step (node.In a)

pub calm-Out : (root : Root) (part : Part) (indices : List TypedExpr) → passes_calm (arguments.Out root part indices) ≡ calm_passed (node.Out root part (map is_calm indices))
unfolding is_calm passes_calm
calm-Out root part indices =
    ap (fold-Argument Bool Bool calm_passed calm_step) (sym (arguments.rolls-Out root part indices))
    ∙ fold-roll-Argument Bool Bool calm_passed calm_step (node.Out root part indices)

pub ruleset arms = (calm-Int, calm-Float, calm-Text, calm-Variable, calm-PartOf, calm-Paren, calm-Promote, calm-Apply, calm-And, calm-Or, calm-Choose, calm-Assign, calm-Update, calm-Step, calm-Call, calm-Exit, calm-In, calm-Out)
