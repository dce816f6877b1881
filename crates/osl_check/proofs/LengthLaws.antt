-- What each form of an expression and of a statement has in it, from what its parts have.
use Rattle.std.proofs.Common.{◌≡◌, ℕ, sym, ap, ◌∙◌}
use Rattle.std.specs.Prelude.{ℤ, List, Option, None, Some, map}
use Rattle.osl_tree.specs.declared.expr.AssignOp.{AssignOp}
use Rattle.osl_tree.specs.declared.expr.BaseType.{BaseType}
use Rattle.osl_tree.specs.declared.expr.BinaryOp.{BinaryOp}
use Rattle.osl_tree.specs.declared.expr.Expr.{Expr, fold-Expr, fold-roll-Expr}
use Rattle.osl_tree.specs.declared.expr.Expr.TheOpen as node
use Rattle.osl_tree.specs.declared.expr.Expr.TheVariants as x
use Rattle.osl_tree.specs.declared.expr.PostfixOp.{PostfixOp}
use Rattle.osl_tree.specs.declared.expr.PrefixOp.{PrefixOp}
use Rattle.osl_tree.specs.declared.stmt.Declaration.{Declaration}
use Rattle.osl_tree.specs.declared.stmt.ForStart.{ForStart}
use Rattle.osl_tree.specs.declared.stmt.Stmt.{Stmt, fold-Stmt, fold-roll-Stmt}
use Rattle.osl_tree.specs.declared.stmt.Stmt.TheOpen as node2
use Rattle.osl_tree.specs.declared.stmt.Stmt.TheVariants as s
use Rattle.osl_typed.specs.Longest.{Longest, expr_step, in_expr, stmt_step, in_stmt}

pub longest-Int : (n : ℤ) → in_expr (x.Int n) ≡ expr_step (node.Int n)
unfolding in_expr
longest-Int n =
    ap (fold-Expr Longest expr_step) (sym (x.rolls-Int n))
    ∙ fold-roll-Expr Longest expr_step (node.Int n)

pub longest-Float : (units : ℤ) → in_expr (x.Float units) ≡ expr_step (node.Float units)
unfolding in_expr
longest-Float units =
    ap (fold-Expr Longest expr_step) (sym (x.rolls-Float units))
    ∙ fold-roll-Expr Longest expr_step (node.Float units)

pub longest-Text : (bytes : List ℕ) → in_expr (x.Text bytes) ≡ expr_step (node.Text bytes)
unfolding in_expr
longest-Text bytes =
    ap (fold-Expr Longest expr_step) (sym (x.rolls-Text bytes))
    ∙ fold-roll-Expr Longest expr_step (node.Text bytes)

pub longest-Name : (word : List ℕ) → in_expr (x.Name word) ≡ expr_step (node.Name word)
unfolding in_expr
longest-Name word =
    ap (fold-Expr Longest expr_step) (sym (x.rolls-Name word))
    ∙ fold-roll-Expr Longest expr_step (node.Name word)

pub longest-Call : (word : List ℕ) (args : List Expr) → in_expr (x.Call word args) ≡ expr_step (node.Call word (map in_expr args))
unfolding in_expr
longest-Call word args =
    ap (fold-Expr Longest expr_step) (sym (x.rolls-Call word args))
    ∙ fold-roll-Expr Longest expr_step (node.Call word args)

pub longest-Construct : (to : BaseType) (args : List Expr) → in_expr (x.Construct to args) ≡ expr_step (node.Construct to (map in_expr args))
unfolding in_expr
longest-Construct to args =
    ap (fold-Expr Longest expr_step) (sym (x.rolls-Construct to args))
    ∙ fold-roll-Expr Longest expr_step (node.Construct to args)

pub longest-Paren : (a : Expr) → in_expr (x.Paren a) ≡ expr_step (node.Paren (in_expr a))
unfolding in_expr
longest-Paren a =
    ap (fold-Expr Longest expr_step) (sym (x.rolls-Paren a))
    ∙ fold-roll-Expr Longest expr_step (node.Paren a)

pub longest-Index : (a i : Expr) → in_expr (x.Index a i) ≡ expr_step (node.Index (in_expr a) (in_expr i))
unfolding in_expr
longest-Index a i =
    ap (fold-Expr Longest expr_step) (sym (x.rolls-Index a i))
    ∙ fold-roll-Expr Longest expr_step (node.Index a i)

pub longest-Field : (a : Expr) (word : List ℕ) → in_expr (x.Field a word) ≡ expr_step (node.Field (in_expr a) word)
unfolding in_expr
longest-Field a word =
    ap (fold-Expr Longest expr_step) (sym (x.rolls-Field a word))
    ∙ fold-roll-Expr Longest expr_step (node.Field a word)

pub longest-Postfix : (operator : PostfixOp) (a : Expr) → in_expr (x.Postfix operator a) ≡ expr_step (node.Postfix operator (in_expr a))
unfolding in_expr
longest-Postfix operator a =
    ap (fold-Expr Longest expr_step) (sym (x.rolls-Postfix operator a))
    ∙ fold-roll-Expr Longest expr_step (node.Postfix operator a)

pub longest-Prefix : (operator : PrefixOp) (a : Expr) → in_expr (x.Prefix operator a) ≡ expr_step (node.Prefix operator (in_expr a))
unfolding in_expr
longest-Prefix operator a =
    ap (fold-Expr Longest expr_step) (sym (x.rolls-Prefix operator a))
    ∙ fold-roll-Expr Longest expr_step (node.Prefix operator a)

pub longest-Cast : (to : BaseType) (a : Expr) → in_expr (x.Cast to a) ≡ expr_step (node.Cast to (in_expr a))
unfolding in_expr
longest-Cast to a =
    ap (fold-Expr Longest expr_step) (sym (x.rolls-Cast to a))
    ∙ fold-roll-Expr Longest expr_step (node.Cast to a)

pub longest-Binary : (operator : BinaryOp) (a b : Expr) → in_expr (x.Binary operator a b) ≡ expr_step (node.Binary operator (in_expr a) (in_expr b))
unfolding in_expr
longest-Binary operator a b =
    ap (fold-Expr Longest expr_step) (sym (x.rolls-Binary operator a b))
    ∙ fold-roll-Expr Longest expr_step (node.Binary operator a b)

pub longest-Choice : (c a b : Expr) → in_expr (x.Choice c a b) ≡ expr_step (node.Choice (in_expr c) (in_expr a) (in_expr b))
unfolding in_expr
longest-Choice c a b =
    ap (fold-Expr Longest expr_step) (sym (x.rolls-Choice c a b))
    ∙ fold-roll-Expr Longest expr_step (node.Choice c a b)

pub longest-Assign : (operator : AssignOp) (a b : Expr) → in_expr (x.Assign operator a b) ≡ expr_step (node.Assign operator (in_expr a) (in_expr b))
unfolding in_expr
longest-Assign operator a b =
    ap (fold-Expr Longest expr_step) (sym (x.rolls-Assign operator a b))
    ∙ fold-roll-Expr Longest expr_step (node.Assign operator a b)

pub longest-Empty-done : in_stmt s.Empty ≡ stmt_step node2.Empty
unfolding in_stmt
longest-Empty-done =
    ap (fold-Stmt Longest stmt_step) (sym s.rolls-Empty)
    ∙ fold-roll-Stmt Longest stmt_step node2.Empty

pub longest-Block-done : (all : List Stmt) → in_stmt (s.Block all) ≡ stmt_step (node2.Block (map in_stmt all))
unfolding in_stmt
longest-Block-done all =
    ap (fold-Stmt Longest stmt_step) (sym (s.rolls-Block all))
    ∙ fold-roll-Stmt Longest stmt_step (node2.Block all)

pub longest-Declare-done : (d : Declaration) → in_stmt (s.Declare d) ≡ stmt_step (node2.Declare d)
unfolding in_stmt
longest-Declare-done d =
    ap (fold-Stmt Longest stmt_step) (sym (s.rolls-Declare d))
    ∙ fold-roll-Stmt Longest stmt_step (node2.Declare d)

pub longest-Expr-done : (a : Expr) → in_stmt (s.Expr a) ≡ stmt_step (node2.Expr a)
unfolding in_stmt
longest-Expr-done a =
    ap (fold-Stmt Longest stmt_step) (sym (s.rolls-Expr a))
    ∙ fold-roll-Stmt Longest stmt_step (node2.Expr a)

pub longest-Break-done : in_stmt s.Break ≡ stmt_step node2.Break
unfolding in_stmt
longest-Break-done =
    ap (fold-Stmt Longest stmt_step) (sym s.rolls-Break)
    ∙ fold-roll-Stmt Longest stmt_step node2.Break

pub longest-Continue-done : in_stmt s.Continue ≡ stmt_step node2.Continue
unfolding in_stmt
longest-Continue-done =
    ap (fold-Stmt Longest stmt_step) (sym s.rolls-Continue)
    ∙ fold-roll-Stmt Longest stmt_step node2.Continue

pub longest-Return-done : (a : Option Expr) → in_stmt (s.Return a) ≡ stmt_step (node2.Return a)
unfolding in_stmt
longest-Return-done a =
    ap (fold-Stmt Longest stmt_step) (sym (s.rolls-Return a))
    ∙ fold-roll-Stmt Longest stmt_step (node2.Return a)

pub longest-If-done : (c : Expr) (a : Stmt) → in_stmt (s.If c a None) ≡ stmt_step (node2.If c (in_stmt a) None)
unfolding in_stmt
longest-If-done c a =
    ap (fold-Stmt Longest stmt_step) (sym (s.rolls-If c a None))
    ∙ fold-roll-Stmt Longest stmt_step (node2.If c a None)

pub longest-If-Else-done : (c : Expr) (a b : Stmt) → in_stmt (s.If c a (Some b)) ≡ stmt_step (node2.If c (in_stmt a) (Some (in_stmt b)))
unfolding in_stmt
longest-If-Else-done c a b =
    ap (fold-Stmt Longest stmt_step) (sym (s.rolls-If c a (Some b)))
    ∙ fold-roll-Stmt Longest stmt_step (node2.If c a (Some b))

pub longest-While-done : (c : Expr) (a : Stmt) → in_stmt (s.While c a) ≡ stmt_step (node2.While c (in_stmt a))
unfolding in_stmt
longest-While-done c a =
    ap (fold-Stmt Longest stmt_step) (sym (s.rolls-While c a))
    ∙ fold-roll-Stmt Longest stmt_step (node2.While c a)

pub longest-DoWhile-done : (a : Stmt) (c : Expr) → in_stmt (s.DoWhile a c) ≡ stmt_step (node2.DoWhile (in_stmt a) c)
unfolding in_stmt
longest-DoWhile-done a c =
    ap (fold-Stmt Longest stmt_step) (sym (s.rolls-DoWhile a c))
    ∙ fold-roll-Stmt Longest stmt_step (node2.DoWhile a c)

pub longest-For-done : (first : ForStart) (c step : Option Expr) (a : Stmt) → in_stmt (s.For first c step a) ≡ stmt_step (node2.For first c step (in_stmt a))
unfolding in_stmt
longest-For-done first c step a =
    ap (fold-Stmt Longest stmt_step) (sym (s.rolls-For first c step a))
    ∙ fold-roll-Stmt Longest stmt_step (node2.For first c step a)

pub ruleset expression_laws = (longest-Int, longest-Float, longest-Text, longest-Name, longest-Call, longest-Construct, longest-Paren, longest-Index, longest-Field, longest-Postfix, longest-Prefix, longest-Cast, longest-Binary, longest-Choice, longest-Assign)

pub ruleset statement_laws = (longest-Empty-done, longest-Block-done, longest-Declare-done, longest-Expr-done, longest-Break-done, longest-Continue-done, longest-Return-done, longest-If-done, longest-If-Else-done, longest-While-done, longest-DoWhile-done, longest-For-done)
