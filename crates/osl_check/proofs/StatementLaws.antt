-- What each form of a statement is typed as, from the typed forms of its parts, in a loop or not and in any scope.
use Rattle.std.proofs.Common.{◌≡◌, sym, ap, ◌∙◌}
use Rattle.std.specs.Prelude.{Bool, List, Option, None, Some, map}
use Rattle.osl_tree.specs.declared.expr.Expr.{Expr}
use Rattle.osl_tree.specs.declared.stmt.Declaration.{Declaration}
use Rattle.osl_tree.specs.declared.stmt.ForStart.{ForStart}
use Rattle.osl_tree.specs.declared.stmt.Stmt.{Stmt, fold-Stmt, fold-roll-Stmt}
use Rattle.osl_tree.specs.declared.stmt.Stmt.TheOpen as node
use Rattle.osl_tree.specs.declared.stmt.Stmt.TheVariants as s
use Rattle.osl_typed.specs.Scopes.{Scope}
use Rattle.osl_typed.specs.BodyTyping.{Around, Going, going_step, going}

at : {g h : Going} (in_loop : Bool) (scope : Scope) → g ≡ h → g in_loop scope ≡ h in_loop scope
at in_loop scope same = λ i. same i in_loop scope

pub going-Empty : (around : Around) (in_loop : Bool) (scope : Scope) → going around s.Empty in_loop scope ≡ going_step around node.Empty in_loop scope
unfolding going
going-Empty around in_loop scope = at in_loop scope (
    ap (fold-Stmt Going (going_step around)) (sym s.rolls-Empty)
    ∙ fold-roll-Stmt Going (going_step around) node.Empty)

pub going-Block : (around : Around) (all : List Stmt) (in_loop : Bool) (scope : Scope) → going around (s.Block all) in_loop scope ≡ going_step around (node.Block (map (going around) all)) in_loop scope
unfolding going
going-Block around all in_loop scope = at in_loop scope (
    ap (fold-Stmt Going (going_step around)) (sym (s.rolls-Block all))
    ∙ fold-roll-Stmt Going (going_step around) (node.Block all))

pub going-Declare : (around : Around) (d : Declaration) (in_loop : Bool) (scope : Scope) → going around (s.Declare d) in_loop scope ≡ going_step around (node.Declare d) in_loop scope
unfolding going
going-Declare around d in_loop scope = at in_loop scope (
    ap (fold-Stmt Going (going_step around)) (sym (s.rolls-Declare d))
    ∙ fold-roll-Stmt Going (going_step around) (node.Declare d))

pub going-Expr : (around : Around) (a : Expr) (in_loop : Bool) (scope : Scope) → going around (s.Expr a) in_loop scope ≡ going_step around (node.Expr a) in_loop scope
unfolding going
going-Expr around a in_loop scope = at in_loop scope (
    ap (fold-Stmt Going (going_step around)) (sym (s.rolls-Expr a))
    ∙ fold-roll-Stmt Going (going_step around) (node.Expr a))

pub going-Break : (around : Around) (in_loop : Bool) (scope : Scope) → going around s.Break in_loop scope ≡ going_step around node.Break in_loop scope
unfolding going
going-Break around in_loop scope = at in_loop scope (
    ap (fold-Stmt Going (going_step around)) (sym s.rolls-Break)
    ∙ fold-roll-Stmt Going (going_step around) node.Break)

pub going-Continue : (around : Around) (in_loop : Bool) (scope : Scope) → going around s.Continue in_loop scope ≡ going_step around node.Continue in_loop scope
unfolding going
going-Continue around in_loop scope = at in_loop scope (
    ap (fold-Stmt Going (going_step around)) (sym s.rolls-Continue)
    ∙ fold-roll-Stmt Going (going_step around) node.Continue)

pub going-Return : (around : Around) (a : Option Expr) (in_loop : Bool) (scope : Scope) → going around (s.Return a) in_loop scope ≡ going_step around (node.Return a) in_loop scope
unfolding going
going-Return around a in_loop scope = at in_loop scope (
    ap (fold-Stmt Going (going_step around)) (sym (s.rolls-Return a))
    ∙ fold-roll-Stmt Going (going_step around) (node.Return a))

pub going-If : (around : Around) (c : Expr) (a : Stmt) (in_loop : Bool) (scope : Scope) → going around (s.If c a None) in_loop scope ≡ going_step around (node.If c (going around a) None) in_loop scope
unfolding going
going-If around c a in_loop scope = at in_loop scope (
    ap (fold-Stmt Going (going_step around)) (sym (s.rolls-If c a None))
    ∙ fold-roll-Stmt Going (going_step around) (node.If c a None))

pub going-If-Else : (around : Around) (c : Expr) (a b : Stmt) (in_loop : Bool) (scope : Scope) → going around (s.If c a (Some b)) in_loop scope ≡ going_step around (node.If c (going around a) (Some (going around b))) in_loop scope
unfolding going
going-If-Else around c a b in_loop scope = at in_loop scope (
    ap (fold-Stmt Going (going_step around)) (sym (s.rolls-If c a (Some b)))
    ∙ fold-roll-Stmt Going (going_step around) (node.If c a (Some b)))

pub going-While : (around : Around) (c : Expr) (a : Stmt) (in_loop : Bool) (scope : Scope) → going around (s.While c a) in_loop scope ≡ going_step around (node.While c (going around a)) in_loop scope
unfolding going
going-While around c a in_loop scope = at in_loop scope (
    ap (fold-Stmt Going (going_step around)) (sym (s.rolls-While c a))
    ∙ fold-roll-Stmt Going (going_step around) (node.While c a))

pub going-DoWhile : (around : Around) (a : Stmt) (c : Expr) (in_loop : Bool) (scope : Scope) → going around (s.DoWhile a c) in_loop scope ≡ going_step around (node.DoWhile (going around a) c) in_loop scope
unfolding going
going-DoWhile around a c in_loop scope = at in_loop scope (
    ap (fold-Stmt Going (going_step around)) (sym (s.rolls-DoWhile a c))
    ∙ fold-roll-Stmt Going (going_step around) (node.DoWhile a c))

pub going-For : (around : Around) (first : ForStart) (c step : Option Expr) (a : Stmt) (in_loop : Bool) (scope : Scope) → going around (s.For first c step a) in_loop scope ≡ going_step around (node.For first c step (going around a)) in_loop scope
unfolding going
going-For around first c step a in_loop scope = at in_loop scope (
    ap (fold-Stmt Going (going_step around)) (sym (s.rolls-For first c step a))
    ∙ fold-roll-Stmt Going (going_step around) (node.For first c step a))
