-- Which expressions write nothing that was there before them: they assign no variable, and pass none to be written.
use Rattle.std.specs.Prelude.{Bool, true, false, ◌&&◌, List, [], ◌∷◌}
use Rattle.osl_typed.specs.declared.expr.Argument.{Argument}
use Rattle.osl_typed.specs.declared.expr.Argument.TheFolds.{fold-TypedExpr, fold-Argument}
use Rattle.osl_typed.specs.declared.expr.Argument.TheOpen as e
use Rattle.osl_typed.specs.declared.expr.Argument.TheOpen.{TypedExpr-F, Argument-F}
use Rattle.osl_typed.specs.declared.expr.TypedExpr.{TypedExpr}

abbrev pub all_of : List Bool → Bool
all_of [] = true
all_of (b ∷ bs) = b && all_of bs

-- A function that is called writes variables of its own, and outputs. It assigns no global.
abbrev pub calm_step : TypedExpr-F Bool Bool → Bool
calm_step (e.Int n) = true
calm_step (e.Float units) = true
calm_step (e.Text bytes) = true
calm_step (e.Variable root part indices) = all_of indices
calm_step (e.PartOf kind a part indices) = a && all_of indices
calm_step (e.Paren kind a) = a
calm_step (e.Promote ty a) = a
calm_step (e.Apply op ty operands) = all_of operands
calm_step (e.And a b) = a && b
calm_step (e.Or a b) = a && b
calm_step (e.Choose kind c a b) = c && (a && b)
calm_step (e.Assign root part indices a) = false
calm_step (e.Update op ty root part indices a) = false
calm_step (e.Step step ty root) = false
calm_step (e.Call f kind args) = all_of args
calm_step e.Exit = true

abbrev pub calm_passed : Argument-F Bool Bool → Bool
calm_passed (e.In a) = a
calm_passed (e.Out root part indices) = false

unfoldable pub is_calm : TypedExpr → Bool
is_calm x = fold-TypedExpr Bool Bool calm_passed calm_step x

unfoldable pub passes_calm : Argument → Bool
passes_calm x = fold-Argument Bool Bool calm_passed calm_step x
