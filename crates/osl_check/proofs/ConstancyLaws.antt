-- What each form of an expression is as a constant.
use Rattle.std.proofs.Common.{◌≡◌, ℕ, sym, ap, ◌∙◌, refl, Bool, true, false, ◌&&◌}
use Rattle.std.specs.Prelude.{ℤ, List, map}
use Rattle.std.specs.List.{list_all}
use Rattle.std.proofs.lemmas.List.Folds.{list_all-map}
use Rattle.osl_tree.specs.declared.expr.AssignOp.{AssignOp}
use Rattle.osl_tree.specs.declared.expr.BaseType.{BaseType}
use Rattle.osl_tree.specs.declared.expr.BinaryOp.{BinaryOp}
use Rattle.osl_tree.specs.declared.expr.Expr.{Expr, fold-Expr, fold-roll-Expr}
use Rattle.osl_tree.specs.declared.expr.Expr.TheOpen as node
use Rattle.osl_tree.specs.declared.expr.Expr.TheVariants as x
use Rattle.osl_tree.specs.declared.expr.PostfixOp.{PostfixOp}
use Rattle.osl_tree.specs.declared.expr.PrefixOp.{PrefixOp}
use Rattle.osl_tree.specs.declared.expr.PrefixOp.TheVariants as before
use Rattle.osl_typed.specs.FileTyping.{Constancy, Numeral, Constant, Neither, is_constancy, constant_if, negated, constancy_step, constancy, is_constant}
use Rattle.osl_check.specs.Constancy.{is_minus, is_numeral}

kept : (b : Bool) → is_constancy (constant_if b) ≡ b
kept true = refl
kept false = refl

of_negated : (c : Constancy) → is_constancy (negated c) ≡ is_numeral c
of_negated Numeral = refl
of_negated Constant = refl
of_negated Neither = refl

no_numeral : (b : Bool) → is_numeral (constant_if b) ≡ false
no_numeral true = refl
no_numeral false = refl

negated_is_none : (c : Constancy) → is_numeral (negated c) ≡ false
negated_is_none Numeral = refl
negated_is_none Constant = refl
negated_is_none Neither = refl

of_prefix : (operator : PrefixOp) (c : Constancy) → is_constancy (constancy_step (node.Prefix operator c)) ≡ (is_minus operator && is_numeral c)
of_prefix before.Minus c = of_negated c
of_prefix _ c = refl

prefix_is_none : (operator : PrefixOp) (c : Constancy) → is_numeral (constancy_step (node.Prefix operator c)) ≡ false
prefix_is_none before.Minus c = negated_is_none c
prefix_is_none _ c = refl

pub constancy-Int : (n : ℤ) → constancy (x.Int n) ≡ Numeral
unfolding constancy
constancy-Int n = ap (fold-Expr Constancy constancy_step) (sym (x.rolls-Int n)) ∙ fold-roll-Expr Constancy constancy_step (node.Int n)

pub constancy-Float : (units : ℤ) → constancy (x.Float units) ≡ Numeral
unfolding constancy
constancy-Float units = ap (fold-Expr Constancy constancy_step) (sym (x.rolls-Float units)) ∙ fold-roll-Expr Constancy constancy_step (node.Float units)

pub constancy-Text : (bytes : List ℕ) → constancy (x.Text bytes) ≡ Constant
unfolding constancy
constancy-Text bytes = ap (fold-Expr Constancy constancy_step) (sym (x.rolls-Text bytes)) ∙ fold-roll-Expr Constancy constancy_step (node.Text bytes)

pub constancy-Name : (word : List ℕ) → constancy (x.Name word) ≡ Neither
unfolding constancy
constancy-Name word = ap (fold-Expr Constancy constancy_step) (sym (x.rolls-Name word)) ∙ fold-roll-Expr Constancy constancy_step (node.Name word)

pub constancy-Call : (word : List ℕ) (args : List Expr) → constancy (x.Call word args) ≡ Neither
unfolding constancy
constancy-Call word args = ap (fold-Expr Constancy constancy_step) (sym (x.rolls-Call word args)) ∙ fold-roll-Expr Constancy constancy_step (node.Call word args)

pub constancy-Paren : (a : Expr) → constancy (x.Paren a) ≡ Neither
unfolding constancy
constancy-Paren a = ap (fold-Expr Constancy constancy_step) (sym (x.rolls-Paren a)) ∙ fold-roll-Expr Constancy constancy_step (node.Paren a)

pub constancy-Index : (a i : Expr) → constancy (x.Index a i) ≡ Neither
unfolding constancy
constancy-Index a i = ap (fold-Expr Constancy constancy_step) (sym (x.rolls-Index a i)) ∙ fold-roll-Expr Constancy constancy_step (node.Index a i)

pub constancy-Field : (a : Expr) (word : List ℕ) → constancy (x.Field a word) ≡ Neither
unfolding constancy
constancy-Field a word = ap (fold-Expr Constancy constancy_step) (sym (x.rolls-Field a word)) ∙ fold-roll-Expr Constancy constancy_step (node.Field a word)

pub constancy-Postfix : (operator : PostfixOp) (a : Expr) → constancy (x.Postfix operator a) ≡ Neither
unfolding constancy
constancy-Postfix operator a = ap (fold-Expr Constancy constancy_step) (sym (x.rolls-Postfix operator a)) ∙ fold-roll-Expr Constancy constancy_step (node.Postfix operator a)

pub constancy-Cast : (to : BaseType) (a : Expr) → constancy (x.Cast to a) ≡ Neither
unfolding constancy
constancy-Cast to a = ap (fold-Expr Constancy constancy_step) (sym (x.rolls-Cast to a)) ∙ fold-roll-Expr Constancy constancy_step (node.Cast to a)

pub constancy-Binary : (operator : BinaryOp) (a b : Expr) → constancy (x.Binary operator a b) ≡ Neither
unfolding constancy
constancy-Binary operator a b = ap (fold-Expr Constancy constancy_step) (sym (x.rolls-Binary operator a b)) ∙ fold-roll-Expr Constancy constancy_step (node.Binary operator a b)

pub constancy-Choice : (c a b : Expr) → constancy (x.Choice c a b) ≡ Neither
unfolding constancy
constancy-Choice c a b = ap (fold-Expr Constancy constancy_step) (sym (x.rolls-Choice c a b)) ∙ fold-roll-Expr Constancy constancy_step (node.Choice c a b)

pub constancy-Assign : (operator : AssignOp) (a b : Expr) → constancy (x.Assign operator a b) ≡ Neither
unfolding constancy
constancy-Assign operator a b = ap (fold-Expr Constancy constancy_step) (sym (x.rolls-Assign operator a b)) ∙ fold-roll-Expr Constancy constancy_step (node.Assign operator a b)

pub constant-Construct : (to : BaseType) (args : List Expr) → is_constant (x.Construct to args) ≡ list_all is_constant args
unfolding constancy
constant-Construct to args =
    ap is_constancy (ap (fold-Expr Constancy constancy_step) (sym (x.rolls-Construct to args)) ∙ fold-roll-Expr Constancy constancy_step (node.Construct to args))
    ∙ kept (list_all is_constancy (map constancy args)) ∙ list_all-map is_constancy constancy args

pub numeral-Construct : (to : BaseType) (args : List Expr) → is_numeral (constancy (x.Construct to args)) ≡ false
unfolding constancy
numeral-Construct to args =
    ap is_numeral (ap (fold-Expr Constancy constancy_step) (sym (x.rolls-Construct to args)) ∙ fold-roll-Expr Constancy constancy_step (node.Construct to args))
    ∙ no_numeral (list_all is_constancy (map constancy args))

pub constant-Prefix : (operator : PrefixOp) (a : Expr) → is_constant (x.Prefix operator a) ≡ (is_minus operator && is_numeral (constancy a))
unfolding constancy
constant-Prefix operator a =
    ap is_constancy (ap (fold-Expr Constancy constancy_step) (sym (x.rolls-Prefix operator a)) ∙ fold-roll-Expr Constancy constancy_step (node.Prefix operator a))
    ∙ of_prefix operator (constancy a)

pub numeral-Prefix : (operator : PrefixOp) (a : Expr) → is_numeral (constancy (x.Prefix operator a)) ≡ false
unfolding constancy
numeral-Prefix operator a =
    ap is_numeral (ap (fold-Expr Constancy constancy_step) (sym (x.rolls-Prefix operator a)) ∙ fold-roll-Expr Constancy constancy_step (node.Prefix operator a))
    ∙ prefix_is_none operator (constancy a)

pub ruleset laws = (constancy-Int, constancy-Float, constancy-Text, constancy-Name, constancy-Call, constancy-Paren, constancy-Index, constancy-Field, constancy-Postfix, constancy-Cast, constancy-Binary, constancy-Choice, constancy-Assign, constant-Construct, numeral-Construct, constant-Prefix, numeral-Prefix)
