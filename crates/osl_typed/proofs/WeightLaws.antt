-- What each node of a tree weighs, from the weights of its parts.
use Rattle.std.proofs.Common.{◌≡◌, ℕ, sym, ap, ◌∙◌}
use Rattle.std.specs.Prelude.{ℤ, List, Option, None, Some, map}
use Rattle.osl_value.specs.declared.op_name.OpName.{OpName}
use Rattle.osl_value.specs.declared.types.Ty.{Ty}
use Rattle.osl_overload.specs.declared.signature.Kind.{Kind}
use Rattle.osl_typed.specs.declared.expr.Argument.{Argument}
use Rattle.osl_typed.specs.declared.expr.Argument.TheFolds.{fold-TypedExpr, fold-Argument, fold-roll-TypedExpr, fold-roll-Argument}
use Rattle.osl_typed.specs.declared.expr.Argument.TheOpen as node
use Rattle.osl_typed.specs.declared.expr.Argument.TheVariants as arguments
use Rattle.osl_typed.specs.declared.expr.Part.{Part}
use Rattle.osl_typed.specs.declared.expr.Root.{Root}
use Rattle.osl_typed.specs.declared.expr.Increment.{Increment}
use Rattle.osl_typed.specs.declared.expr.TypedExpr.{TypedExpr}
use Rattle.osl_typed.specs.declared.expr.TypedExpr.TheVariants as e
use Rattle.osl_typed.specs.declared.sizes.Weight.{Weight}
use Rattle.osl_typed.specs.declared.stmt.Declared.{Declared}
use Rattle.osl_typed.specs.declared.stmt.TypedForStart.{TypedForStart}
use Rattle.osl_typed.specs.declared.stmt.TypedStmt.{TypedStmt, fold-TypedStmt, fold-roll-TypedStmt}
use Rattle.osl_typed.specs.declared.stmt.TypedStmt.TheOpen as node2
use Rattle.osl_typed.specs.declared.stmt.TypedStmt.TheVariants as s
use Rattle.osl_typed.specs.Sizes.{Scale, expr_weight, argument_weight, weight, weight_passed, stmt_weight, weight_done}

pub weight-Int : (scale : Scale) (n : ℤ) → weight scale (e.Int n) ≡ expr_weight scale (node.Int n)
unfolding weight weight_passed
weight-Int scale n =
    ap (fold-TypedExpr Weight Weight (argument_weight scale) (expr_weight scale)) (sym (e.rolls-Int n))
    ∙ fold-roll-TypedExpr Weight Weight (argument_weight scale) (expr_weight scale) (node.Int n)

pub weight-Float : (scale : Scale) (units : ℤ) → weight scale (e.Float units) ≡ expr_weight scale (node.Float units)
unfolding weight weight_passed
weight-Float scale units =
    ap (fold-TypedExpr Weight Weight (argument_weight scale) (expr_weight scale)) (sym (e.rolls-Float units))
    ∙ fold-roll-TypedExpr Weight Weight (argument_weight scale) (expr_weight scale) (node.Float units)

pub weight-Text : (scale : Scale) (bytes : List ℕ) → weight scale (e.Text bytes) ≡ expr_weight scale (node.Text bytes)
unfolding weight weight_passed
weight-Text scale bytes =
    ap (fold-TypedExpr Weight Weight (argument_weight scale) (expr_weight scale)) (sym (e.rolls-Text bytes))
    ∙ fold-roll-TypedExpr Weight Weight (argument_weight scale) (expr_weight scale) (node.Text bytes)

pub weight-Variable : (scale : Scale) (root : Root) (part : Part) (indices : List TypedExpr) → weight scale (e.Variable root part indices) ≡ expr_weight scale (node.Variable root part (map (weight scale) indices))
unfolding weight weight_passed
weight-Variable scale root part indices =
    ap (fold-TypedExpr Weight Weight (argument_weight scale) (expr_weight scale)) (sym (e.rolls-Variable root part indices))
    ∙ fold-roll-TypedExpr Weight Weight (argument_weight scale) (expr_weight scale) (node.Variable root part indices)

pub weight-PartOf : (scale : Scale) (kind : Kind) (a : TypedExpr) (part : Part) (indices : List TypedExpr) → weight scale (e.PartOf kind a part indices) ≡ expr_weight scale (node.PartOf kind (weight scale a) part (map (weight scale) indices))
unfolding weight weight_passed
weight-PartOf scale kind a part indices =
    ap (fold-TypedExpr Weight Weight (argument_weight scale) (expr_weight scale)) (sym (e.rolls-PartOf kind a part indices))
    ∙ fold-roll-TypedExpr Weight Weight (argument_weight scale) (expr_weight scale) (node.PartOf kind a part indices)

pub weight-Paren : (scale : Scale) (kind : Kind) (a : TypedExpr) → weight scale (e.Paren kind a) ≡ expr_weight scale (node.Paren kind (weight scale a))
unfolding weight weight_passed
weight-Paren scale kind a =
    ap (fold-TypedExpr Weight Weight (argument_weight scale) (expr_weight scale)) (sym (e.rolls-Paren kind a))
    ∙ fold-roll-TypedExpr Weight Weight (argument_weight scale) (expr_weight scale) (node.Paren kind a)

pub weight-Promote : (scale : Scale) (ty : Ty) (a : TypedExpr) → weight scale (e.Promote ty a) ≡ expr_weight scale (node.Promote ty (weight scale a))
unfolding weight weight_passed
weight-Promote scale ty a =
    ap (fold-TypedExpr Weight Weight (argument_weight scale) (expr_weight scale)) (sym (e.rolls-Promote ty a))
    ∙ fold-roll-TypedExpr Weight Weight (argument_weight scale) (expr_weight scale) (node.Promote ty a)

pub weight-Apply : (scale : Scale) (op : OpName) (ty : Ty) (operands : List TypedExpr) → weight scale (e.Apply op ty operands) ≡ expr_weight scale (node.Apply op ty (map (weight scale) operands))
unfolding weight weight_passed
weight-Apply scale op ty operands =
    ap (fold-TypedExpr Weight Weight (argument_weight scale) (expr_weight scale)) (sym (e.rolls-Apply op ty operands))
    ∙ fold-roll-TypedExpr Weight Weight (argument_weight scale) (expr_weight scale) (node.Apply op ty operands)

pub weight-And : (scale : Scale) (a b : TypedExpr) → weight scale (e.And a b) ≡ expr_weight scale (node.And (weight scale a) (weight scale b))
unfolding weight weight_passed
weight-And scale a b =
    ap (fold-TypedExpr Weight Weight (argument_weight scale) (expr_weight scale)) (sym (e.rolls-And a b))
    ∙ fold-roll-TypedExpr Weight Weight (argument_weight scale) (expr_weight scale) (node.And a b)

pub weight-Or : (scale : Scale) (a b : TypedExpr) → weight scale (e.Or a b) ≡ expr_weight scale (node.Or (weight scale a) (weight scale b))
unfolding weight weight_passed
weight-Or scale a b =
    ap (fold-TypedExpr Weight Weight (argument_weight scale) (expr_weight scale)) (sym (e.rolls-Or a b))
    ∙ fold-roll-TypedExpr Weight Weight (argument_weight scale) (expr_weight scale) (node.Or a b)

pub weight-Choose : (scale : Scale) (kind : Kind) (c a b : TypedExpr) → weight scale (e.Choose kind c a b) ≡ expr_weight scale (node.Choose kind (weight scale c) (weight scale a) (weight scale b))
unfolding weight weight_passed
weight-Choose scale kind c a b =
    ap (fold-TypedExpr Weight Weight (argument_weight scale) (expr_weight scale)) (sym (e.rolls-Choose kind c a b))
    ∙ fold-roll-TypedExpr Weight Weight (argument_weight scale) (expr_weight scale) (node.Choose kind c a b)

pub weight-Assign : (scale : Scale) (root : Root) (part : Part) (indices : List TypedExpr) (a : TypedExpr) → weight scale (e.Assign root part indices a) ≡ expr_weight scale (node.Assign root part (map (weight scale) indices) (weight scale a))
unfolding weight weight_passed
weight-Assign scale root part indices a =
    ap (fold-TypedExpr Weight Weight (argument_weight scale) (expr_weight scale)) (sym (e.rolls-Assign root part indices a))
    ∙ fold-roll-TypedExpr Weight Weight (argument_weight scale) (expr_weight scale) (node.Assign root part indices a)

pub weight-Update : (scale : Scale) (op : OpName) (ty : Ty) (root : Root) (part : Part) (indices : List TypedExpr) (a : TypedExpr) → weight scale (e.Update op ty root part indices a) ≡ expr_weight scale (node.Update op ty root part (map (weight scale) indices) (weight scale a))
unfolding weight weight_passed
weight-Update scale op ty root part indices a =
    ap (fold-TypedExpr Weight Weight (argument_weight scale) (expr_weight scale)) (sym (e.rolls-Update op ty root part indices a))
    ∙ fold-roll-TypedExpr Weight Weight (argument_weight scale) (expr_weight scale) (node.Update op ty root part indices a)

pub weight-Step : (scale : Scale) (step : Increment) (ty : Ty) (root : Root) → weight scale (e.Step step ty root) ≡ expr_weight scale (node.Step step ty root)
unfolding weight weight_passed
weight-Step scale step ty root =
    ap (fold-TypedExpr Weight Weight (argument_weight scale) (expr_weight scale)) (sym (e.rolls-Step step ty root))
    ∙ fold-roll-TypedExpr Weight Weight (argument_weight scale) (expr_weight scale) (node.Step step ty root)

pub weight-Call : (scale : Scale) (f : ℕ) (kind : Kind) (args : List Argument) → weight scale (e.Call f kind args) ≡ expr_weight scale (node.Call f kind (map (weight_passed scale) args))
unfolding weight weight_passed
weight-Call scale f kind args =
    ap (fold-TypedExpr Weight Weight (argument_weight scale) (expr_weight scale)) (sym (e.rolls-Call f kind args))
    ∙ fold-roll-TypedExpr Weight Weight (argument_weight scale) (expr_weight scale) (node.Call f kind args)

pub weight-Exit : (scale : Scale) → weight scale e.Exit ≡ expr_weight scale node.Exit
unfolding weight weight_passed
weight-Exit scale =
    ap (fold-TypedExpr Weight Weight (argument_weight scale) (expr_weight scale)) (sym e.rolls-Exit)
    ∙ fold-roll-TypedExpr Weight Weight (argument_weight scale) (expr_weight scale) node.Exit

pub weight-In : (scale : Scale) (a : TypedExpr) → weight_passed scale (arguments.In a) ≡ argument_weight scale (node.In (weight scale a))
unfolding weight weight_passed
weight-In scale a =
    ap (fold-Argument Weight Weight (argument_weight scale) (expr_weight scale)) (sym (arguments.rolls-In a))
    ∙ fold-roll-Argument Weight Weight (argument_weight scale) (expr_weight scale) (node.In a)

pub weight-Out : (scale : Scale) (root : Root) (part : Part) (indices : List TypedExpr) → weight_passed scale (arguments.Out root part indices) ≡ argument_weight scale (node.Out root part (map (weight scale) indices))
unfolding weight weight_passed
weight-Out scale root part indices =
    ap (fold-Argument Weight Weight (argument_weight scale) (expr_weight scale)) (sym (arguments.rolls-Out root part indices))
    ∙ fold-roll-Argument Weight Weight (argument_weight scale) (expr_weight scale) (node.Out root part indices)

pub done-Empty : (scale : Scale) → weight_done scale s.Empty ≡ stmt_weight scale node2.Empty
unfolding weight_done
done-Empty scale =
    ap (fold-TypedStmt Weight (stmt_weight scale)) (sym s.rolls-Empty)
    ∙ fold-roll-TypedStmt Weight (stmt_weight scale) node2.Empty

pub done-Block : (scale : Scale) (all : List TypedStmt) → weight_done scale (s.Block all) ≡ stmt_weight scale (node2.Block (map (weight_done scale) all))
unfolding weight_done
done-Block scale all =
    ap (fold-TypedStmt Weight (stmt_weight scale)) (sym (s.rolls-Block all))
    ∙ fold-roll-TypedStmt Weight (stmt_weight scale) (node2.Block all)

pub done-Declare : (scale : Scale) (ds : List Declared) → weight_done scale (s.Declare ds) ≡ stmt_weight scale (node2.Declare ds)
unfolding weight_done
done-Declare scale ds =
    ap (fold-TypedStmt Weight (stmt_weight scale)) (sym (s.rolls-Declare ds))
    ∙ fold-roll-TypedStmt Weight (stmt_weight scale) (node2.Declare ds)

pub done-Expr : (scale : Scale) (a : TypedExpr) → weight_done scale (s.Expr a) ≡ stmt_weight scale (node2.Expr a)
unfolding weight_done
done-Expr scale a =
    ap (fold-TypedStmt Weight (stmt_weight scale)) (sym (s.rolls-Expr a))
    ∙ fold-roll-TypedStmt Weight (stmt_weight scale) (node2.Expr a)

pub done-Break : (scale : Scale) → weight_done scale s.Break ≡ stmt_weight scale node2.Break
unfolding weight_done
done-Break scale =
    ap (fold-TypedStmt Weight (stmt_weight scale)) (sym s.rolls-Break)
    ∙ fold-roll-TypedStmt Weight (stmt_weight scale) node2.Break

pub done-Continue : (scale : Scale) → weight_done scale s.Continue ≡ stmt_weight scale node2.Continue
unfolding weight_done
done-Continue scale =
    ap (fold-TypedStmt Weight (stmt_weight scale)) (sym s.rolls-Continue)
    ∙ fold-roll-TypedStmt Weight (stmt_weight scale) node2.Continue

pub done-Return : (scale : Scale) (a : Option TypedExpr) → weight_done scale (s.Return a) ≡ stmt_weight scale (node2.Return a)
unfolding weight_done
done-Return scale a =
    ap (fold-TypedStmt Weight (stmt_weight scale)) (sym (s.rolls-Return a))
    ∙ fold-roll-TypedStmt Weight (stmt_weight scale) (node2.Return a)

pub done-If : (scale : Scale) (c : TypedExpr) (a : TypedStmt) → weight_done scale (s.If c a None) ≡ stmt_weight scale (node2.If c (weight_done scale a) None)
unfolding weight_done
done-If scale c a =
    ap (fold-TypedStmt Weight (stmt_weight scale)) (sym (s.rolls-If c a None))
    ∙ fold-roll-TypedStmt Weight (stmt_weight scale) (node2.If c a None)

pub done-If-Else : (scale : Scale) (c : TypedExpr) (a b : TypedStmt) → weight_done scale (s.If c a (Some b)) ≡ stmt_weight scale (node2.If c (weight_done scale a) (Some (weight_done scale b)))
unfolding weight_done
done-If-Else scale c a b =
    ap (fold-TypedStmt Weight (stmt_weight scale)) (sym (s.rolls-If c a (Some b)))
    ∙ fold-roll-TypedStmt Weight (stmt_weight scale) (node2.If c a (Some b))

pub done-While : (scale : Scale) (c : TypedExpr) (a : TypedStmt) → weight_done scale (s.While c a) ≡ stmt_weight scale (node2.While c (weight_done scale a))
unfolding weight_done
done-While scale c a =
    ap (fold-TypedStmt Weight (stmt_weight scale)) (sym (s.rolls-While c a))
    ∙ fold-roll-TypedStmt Weight (stmt_weight scale) (node2.While c a)

pub done-DoWhile : (scale : Scale) (a : TypedStmt) (c : TypedExpr) → weight_done scale (s.DoWhile a c) ≡ stmt_weight scale (node2.DoWhile (weight_done scale a) c)
unfolding weight_done
done-DoWhile scale a c =
    ap (fold-TypedStmt Weight (stmt_weight scale)) (sym (s.rolls-DoWhile a c))
    ∙ fold-roll-TypedStmt Weight (stmt_weight scale) (node2.DoWhile a c)

pub done-For : (scale : Scale) (x : TypedForStart) (c step : Option TypedExpr) (a : TypedStmt) → weight_done scale (s.For x c step a) ≡ stmt_weight scale (node2.For x c step (weight_done scale a))
unfolding weight_done
done-For scale x c step a =
    ap (fold-TypedStmt Weight (stmt_weight scale)) (sym (s.rolls-For x c step a))
    ∙ fold-roll-TypedStmt Weight (stmt_weight scale) (node2.For x c step a)
