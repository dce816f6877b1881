-- What each form of an expression is typed as, from the typed forms of its parts.
use Rattle.std.proofs.Common.{◌≡◌, ℕ, sym, ap, subst, ◌∙◌}
use Rattle.std.specs.Prelude.{ℤ, List, Option, Some, map, Result}
use Rattle.osl_tree.specs.declared.expr.AssignOp.{AssignOp}
use Rattle.osl_tree.specs.declared.expr.BaseType.{BaseType}
use Rattle.osl_tree.specs.declared.expr.BinaryOp.{BinaryOp}
use Rattle.osl_tree.specs.declared.expr.Expr.{Expr, fold-Expr, fold-roll-Expr}
use Rattle.osl_tree.specs.declared.expr.Expr.TheOpen as node
use Rattle.osl_tree.specs.declared.expr.Expr.TheVariants as x
use Rattle.osl_tree.specs.declared.expr.PostfixOp.{PostfixOp}
use Rattle.osl_tree.specs.declared.expr.PrefixOp.{PrefixOp}
use Rattle.osl_typed.specs.declared.found.Binding.{Binding}
use Rattle.osl_typed.specs.declared.found.Found.{Found}
use Rattle.osl_typed.specs.Scopes.{Sight}
use Rattle.osl_typed.specs.Typing.{◌>>=◌, sequence, typing_step, found_form, call}
use Rattle.osl_typing.specs.Says.{Says}
use Rattle.osl_typing.specs.declared.error.TypeError.{TypeError}

pub typing-Int : (sight : Sight) (bindings : List Binding) (n : ℤ) → found_form sight bindings (x.Int n) ≡ typing_step sight bindings (node.Int n)
unfolding found_form
typing-Int sight bindings n =
    ap (fold-Expr (Option Found) (typing_step sight bindings)) (sym (x.rolls-Int n))
    ∙ fold-roll-Expr (Option Found) (typing_step sight bindings) (node.Int n)

pub typing-Float : (sight : Sight) (bindings : List Binding) (units : ℤ) → found_form sight bindings (x.Float units) ≡ typing_step sight bindings (node.Float units)
unfolding found_form
typing-Float sight bindings units =
    ap (fold-Expr (Option Found) (typing_step sight bindings)) (sym (x.rolls-Float units))
    ∙ fold-roll-Expr (Option Found) (typing_step sight bindings) (node.Float units)

pub typing-Text : (sight : Sight) (bindings : List Binding) (bytes : List ℕ) → found_form sight bindings (x.Text bytes) ≡ typing_step sight bindings (node.Text bytes)
unfolding found_form
typing-Text sight bindings bytes =
    ap (fold-Expr (Option Found) (typing_step sight bindings)) (sym (x.rolls-Text bytes))
    ∙ fold-roll-Expr (Option Found) (typing_step sight bindings) (node.Text bytes)

pub typing-Name : (sight : Sight) (bindings : List Binding) (word : List ℕ) → found_form sight bindings (x.Name word) ≡ typing_step sight bindings (node.Name word)
unfolding found_form
typing-Name sight bindings word =
    ap (fold-Expr (Option Found) (typing_step sight bindings)) (sym (x.rolls-Name word))
    ∙ fold-roll-Expr (Option Found) (typing_step sight bindings) (node.Name word)

pub typing-Call : (sight : Sight) (bindings : List Binding) (word : List ℕ) (args : List Expr) → found_form sight bindings (x.Call word args) ≡ typing_step sight bindings (node.Call word (map (found_form sight bindings) args))
unfolding found_form
typing-Call sight bindings word args =
    ap (fold-Expr (Option Found) (typing_step sight bindings)) (sym (x.rolls-Call word args))
    ∙ fold-roll-Expr (Option Found) (typing_step sight bindings) (node.Call word args)

pub typing-Construct : (sight : Sight) (bindings : List Binding) (to : BaseType) (args : List Expr) → found_form sight bindings (x.Construct to args) ≡ typing_step sight bindings (node.Construct to (map (found_form sight bindings) args))
unfolding found_form
typing-Construct sight bindings to args =
    ap (fold-Expr (Option Found) (typing_step sight bindings)) (sym (x.rolls-Construct to args))
    ∙ fold-roll-Expr (Option Found) (typing_step sight bindings) (node.Construct to args)

pub typing-Paren : (sight : Sight) (bindings : List Binding) (a : Expr) → found_form sight bindings (x.Paren a) ≡ typing_step sight bindings (node.Paren (found_form sight bindings a))
unfolding found_form
typing-Paren sight bindings a =
    ap (fold-Expr (Option Found) (typing_step sight bindings)) (sym (x.rolls-Paren a))
    ∙ fold-roll-Expr (Option Found) (typing_step sight bindings) (node.Paren a)

pub typing-Index : (sight : Sight) (bindings : List Binding) (a i : Expr) → found_form sight bindings (x.Index a i) ≡ typing_step sight bindings (node.Index (found_form sight bindings a) (found_form sight bindings i))
unfolding found_form
typing-Index sight bindings a i =
    ap (fold-Expr (Option Found) (typing_step sight bindings)) (sym (x.rolls-Index a i))
    ∙ fold-roll-Expr (Option Found) (typing_step sight bindings) (node.Index a i)

pub typing-Field : (sight : Sight) (bindings : List Binding) (a : Expr) (word : List ℕ) → found_form sight bindings (x.Field a word) ≡ typing_step sight bindings (node.Field (found_form sight bindings a) word)
unfolding found_form
typing-Field sight bindings a word =
    ap (fold-Expr (Option Found) (typing_step sight bindings)) (sym (x.rolls-Field a word))
    ∙ fold-roll-Expr (Option Found) (typing_step sight bindings) (node.Field a word)

pub typing-Postfix : (sight : Sight) (bindings : List Binding) (operator : PostfixOp) (a : Expr) → found_form sight bindings (x.Postfix operator a) ≡ typing_step sight bindings (node.Postfix operator (found_form sight bindings a))
unfolding found_form
typing-Postfix sight bindings operator a =
    ap (fold-Expr (Option Found) (typing_step sight bindings)) (sym (x.rolls-Postfix operator a))
    ∙ fold-roll-Expr (Option Found) (typing_step sight bindings) (node.Postfix operator a)

pub typing-Prefix : (sight : Sight) (bindings : List Binding) (operator : PrefixOp) (a : Expr) → found_form sight bindings (x.Prefix operator a) ≡ typing_step sight bindings (node.Prefix operator (found_form sight bindings a))
unfolding found_form
typing-Prefix sight bindings operator a =
    ap (fold-Expr (Option Found) (typing_step sight bindings)) (sym (x.rolls-Prefix operator a))
    ∙ fold-roll-Expr (Option Found) (typing_step sight bindings) (node.Prefix operator a)

pub typing-Cast : (sight : Sight) (bindings : List Binding) (to : BaseType) (a : Expr) → found_form sight bindings (x.Cast to a) ≡ typing_step sight bindings (node.Cast to (found_form sight bindings a))
unfolding found_form
typing-Cast sight bindings to a =
    ap (fold-Expr (Option Found) (typing_step sight bindings)) (sym (x.rolls-Cast to a))
    ∙ fold-roll-Expr (Option Found) (typing_step sight bindings) (node.Cast to a)

pub typing-Binary : (sight : Sight) (bindings : List Binding) (operator : BinaryOp) (a b : Expr) → found_form sight bindings (x.Binary operator a b) ≡ typing_step sight bindings (node.Binary operator (found_form sight bindings a) (found_form sight bindings b))
unfolding found_form
typing-Binary sight bindings operator a b =
    ap (fold-Expr (Option Found) (typing_step sight bindings)) (sym (x.rolls-Binary operator a b))
    ∙ fold-roll-Expr (Option Found) (typing_step sight bindings) (node.Binary operator a b)

pub typing-Choice : (sight : Sight) (bindings : List Binding) (c a b : Expr) → found_form sight bindings (x.Choice c a b) ≡ typing_step sight bindings (node.Choice (found_form sight bindings c) (found_form sight bindings a) (found_form sight bindings b))
unfolding found_form
typing-Choice sight bindings c a b =
    ap (fold-Expr (Option Found) (typing_step sight bindings)) (sym (x.rolls-Choice c a b))
    ∙ fold-roll-Expr (Option Found) (typing_step sight bindings) (node.Choice c a b)

pub typing-Assign : (sight : Sight) (bindings : List Binding) (operator : AssignOp) (a b : Expr) → found_form sight bindings (x.Assign operator a b) ≡ typing_step sight bindings (node.Assign operator (found_form sight bindings a) (found_form sight bindings b))
unfolding found_form
typing-Assign sight bindings operator a b =
    ap (fold-Expr (Option Found) (typing_step sight bindings)) (sym (x.rolls-Assign operator a b))
    ∙ fold-roll-Expr (Option Found) (typing_step sight bindings) (node.Assign operator a b)

-- the laws of all forms
-- a call, where its arguments have typed forms
pub called : (sight : Sight) (bindings : List Binding) (a : Expr) (word at_word : List ℕ) (args at_args : List Expr) (found : List Found) (result : Result Found TypeError)
    → a ≡ x.Call word args → at_word ≡ word → at_args ≡ args → sequence (map (found_form sight bindings) at_args) ≡ Some found
    → Says (call sight at_word found) result → Says (found_form sight bindings a) result
called sight bindings a word at_word args at_args found result is word_is args_are typed says =
    let whole : call sight at_word found ≡ found_form sight bindings a =
    ap (λ w. call sight w found) word_is
    ∙ sym (ap (found_form sight bindings) is ∙ typing-Call sight bindings word args ∙ ap (λ o. o >>= call sight word) (ap (λ xs. sequence (map (found_form sight bindings) xs)) (sym args_are) ∙ typed)) in
    subst (λ o. Says o result) whole says

pub ruleset typing_laws = (typing-Int, typing-Float, typing-Text, typing-Name, typing-Call, typing-Construct, typing-Paren, typing-Index, typing-Field, typing-Postfix, typing-Prefix, typing-Cast, typing-Binary, typing-Choice, typing-Assign)
