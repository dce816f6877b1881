-- What each node of a statement means, from the meanings of its parts.
use Rattle.std.proofs.Common.{◌≡◌, sym, ap, ◌∙◌}
use Rattle.std.specs.Prelude.{List, Option, None, Some, map}
use Rattle.osl_typed.specs.declared.expr.TypedExpr.{TypedExpr}
use Rattle.osl_typed.specs.declared.stmt.Declared.{Declared}
use Rattle.osl_typed.specs.declared.stmt.TypedForStart.{TypedForStart}
use Rattle.osl_typed.specs.declared.stmt.TypedStmt.{TypedStmt, fold-TypedStmt, fold-roll-TypedStmt}
use Rattle.osl_typed.specs.declared.stmt.TypedStmt.TheVariants as s
use Rattle.osl_typed.specs.declared.stmt.TypedStmt.TheOpen as node
use Rattle.osl_typed.specs.Parts.{Frame}
use Rattle.osl_typed.specs.Expressions.{Calls}
use Rattle.osl_typed.specs.Ends.{Doing}
use Rattle.osl_typed.specs.Statements.{stmt_step, exec}

pub exec-Empty : (frame : Frame) (calls : Calls) → exec frame calls s.Empty ≡ stmt_step frame calls node.Empty
unfolding exec
exec-Empty frame calls =
    ap (fold-TypedStmt Doing (stmt_step frame calls)) (sym s.rolls-Empty)
    ∙ fold-roll-TypedStmt Doing (stmt_step frame calls) node.Empty

pub exec-Block : (frame : Frame) (calls : Calls) (all : List TypedStmt) → exec frame calls (s.Block all) ≡ stmt_step frame calls (node.Block (map (exec frame calls) all))
unfolding exec
exec-Block frame calls all =
    ap (fold-TypedStmt Doing (stmt_step frame calls)) (sym (s.rolls-Block all))
    ∙ fold-roll-TypedStmt Doing (stmt_step frame calls) (node.Block all)

pub exec-Declare : (frame : Frame) (calls : Calls) (ds : List Declared) → exec frame calls (s.Declare ds) ≡ stmt_step frame calls (node.Declare ds)
unfolding exec
exec-Declare frame calls ds =
    ap (fold-TypedStmt Doing (stmt_step frame calls)) (sym (s.rolls-Declare ds))
    ∙ fold-roll-TypedStmt Doing (stmt_step frame calls) (node.Declare ds)

pub exec-Expr : (frame : Frame) (calls : Calls) (a : TypedExpr) → exec frame calls (s.Expr a) ≡ stmt_step frame calls (node.Expr a)
unfolding exec
exec-Expr frame calls a =
    ap (fold-TypedStmt Doing (stmt_step frame calls)) (sym (s.rolls-Expr a))
    ∙ fold-roll-TypedStmt Doing (stmt_step frame calls) (node.Expr a)

pub exec-Break : (frame : Frame) (calls : Calls) → exec frame calls s.Break ≡ stmt_step frame calls node.Break
unfolding exec
exec-Break frame calls =
    ap (fold-TypedStmt Doing (stmt_step frame calls)) (sym s.rolls-Break)
    ∙ fold-roll-TypedStmt Doing (stmt_step frame calls) node.Break

pub exec-Continue : (frame : Frame) (calls : Calls) → exec frame calls s.Continue ≡ stmt_step frame calls node.Continue
unfolding exec
exec-Continue frame calls =
    ap (fold-TypedStmt Doing (stmt_step frame calls)) (sym s.rolls-Continue)
    ∙ fold-roll-TypedStmt Doing (stmt_step frame calls) node.Continue

pub exec-Return : (frame : Frame) (calls : Calls) (a : Option TypedExpr) → exec frame calls (s.Return a) ≡ stmt_step frame calls (node.Return a)
unfolding exec
exec-Return frame calls a =
    ap (fold-TypedStmt Doing (stmt_step frame calls)) (sym (s.rolls-Return a))
    ∙ fold-roll-TypedStmt Doing (stmt_step frame calls) (node.Return a)

pub exec-If : (frame : Frame) (calls : Calls) (c : TypedExpr) (a : TypedStmt) → exec frame calls (s.If c a None) ≡ stmt_step frame calls (node.If c (exec frame calls a) None)
unfolding exec
exec-If frame calls c a =
    ap (fold-TypedStmt Doing (stmt_step frame calls)) (sym (s.rolls-If c a None))
    ∙ fold-roll-TypedStmt Doing (stmt_step frame calls) (node.If c a None)

pub exec-If-Else : (frame : Frame) (calls : Calls) (c : TypedExpr) (a b : TypedStmt) → exec frame calls (s.If c a (Some b)) ≡ stmt_step frame calls (node.If c (exec frame calls a) (Some (exec frame calls b)))
unfolding exec
exec-If-Else frame calls c a b =
    ap (fold-TypedStmt Doing (stmt_step frame calls)) (sym (s.rolls-If c a (Some b)))
    ∙ fold-roll-TypedStmt Doing (stmt_step frame calls) (node.If c a (Some b))

pub exec-While : (frame : Frame) (calls : Calls) (c : TypedExpr) (a : TypedStmt) → exec frame calls (s.While c a) ≡ stmt_step frame calls (node.While c (exec frame calls a))
unfolding exec
exec-While frame calls c a =
    ap (fold-TypedStmt Doing (stmt_step frame calls)) (sym (s.rolls-While c a))
    ∙ fold-roll-TypedStmt Doing (stmt_step frame calls) (node.While c a)

pub exec-DoWhile : (frame : Frame) (calls : Calls) (a : TypedStmt) (c : TypedExpr) → exec frame calls (s.DoWhile a c) ≡ stmt_step frame calls (node.DoWhile (exec frame calls a) c)
unfolding exec
exec-DoWhile frame calls a c =
    ap (fold-TypedStmt Doing (stmt_step frame calls)) (sym (s.rolls-DoWhile a c))
    ∙ fold-roll-TypedStmt Doing (stmt_step frame calls) (node.DoWhile a c)

pub exec-For : (frame : Frame) (calls : Calls) (x : TypedForStart) (c step : Option TypedExpr) (a : TypedStmt) → exec frame calls (s.For x c step a) ≡ stmt_step frame calls (node.For x c step (exec frame calls a))
unfolding exec
exec-For frame calls x c step a =
    ap (fold-TypedStmt Doing (stmt_step frame calls)) (sym (s.rolls-For x c step a))
    ∙ fold-roll-TypedStmt Doing (stmt_step frame calls) (node.For x c step a)
