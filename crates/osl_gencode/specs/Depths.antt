-- How deep the ranges of code lie in each other, beside the height of its source: a call has the body of its function in it.
use Rattle.std.specs.Prelude.{ℕ, ◌+◌, ◌*◌, List}
use Rattle.osl_typed.specs.declared.expr.TypedExpr.{TypedExpr}
use Rattle.osl_typed.specs.declared.stmt.TypedStmt.{TypedStmt}
use Rattle.osl_typed.specs.Sizes.{Scale, weight, weight_done, body_weight}
use Rattle.osl_welltyped.specs.Measures.{by_height, measured, stmt_measured, body_measured}

-- the ranges that a called function's body may lie in, its call's own included
abbrev pub call_depth : ℕ
call_depth = 257

-- of an expression, of a statement, of a body
abbrev pub expr_depth : Scale → TypedExpr → ℕ
expr_depth scale x = call_depth * (weight scale x).calls + measured by_height x

abbrev pub stmt_depth : Scale → TypedStmt → ℕ
stmt_depth scale x = call_depth * (weight_done scale x).calls + stmt_measured by_height x

abbrev pub body_depth : Scale → List TypedStmt → ℕ
body_depth scale body = call_depth * (body_weight scale body).calls + body_measured by_height body
