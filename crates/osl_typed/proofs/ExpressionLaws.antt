-- What each node of an expression means, from the meanings of its parts.
use Rattle.std.proofs.Common.{◌≡◌, ℕ, sym, ap, ◌∙◌}
use Rattle.std.specs.Prelude.{ℤ, List, map}
use Rattle.osl_value.specs.declared.op_name.OpName.{OpName}
use Rattle.osl_value.specs.declared.types.Ty.{Ty}
use Rattle.osl_overload.specs.declared.signature.Kind.{Kind}
use Rattle.osl_typed.specs.declared.expr.Root.{Root}
use Rattle.osl_typed.specs.declared.expr.Part.{Part}
use Rattle.osl_typed.specs.declared.expr.Increment.{Increment}
use Rattle.osl_typed.specs.declared.expr.TypedExpr.{TypedExpr}
use Rattle.osl_typed.specs.declared.expr.TypedExpr.TheVariants as e
use Rattle.osl_typed.specs.declared.expr.Argument.{Argument}
use Rattle.osl_typed.specs.declared.expr.Argument.TheVariants as arguments
use Rattle.osl_typed.specs.declared.expr.Argument.TheOpen as node
use Rattle.osl_typed.specs.declared.expr.Argument.TheFolds.{fold-TypedExpr, fold-Argument, fold-roll-TypedExpr, fold-roll-Argument}
use Rattle.osl_typed.specs.Parts.{Frame}
use Rattle.osl_typed.specs.Expressions.{Meaning, Calls, Passing, expr_step, argument_step, eval, pass}

pub eval-Int : (frame : Frame) (calls : Calls) (n : ℤ) → eval frame calls (e.Int n) ≡ expr_step frame calls (node.Int n)
unfolding eval pass
eval-Int frame calls n =
    ap (fold-TypedExpr Passing Meaning (argument_step frame) (expr_step frame calls)) (sym (e.rolls-Int n))
    ∙ fold-roll-TypedExpr Passing Meaning (argument_step frame) (expr_step frame calls) (node.Int n)

pub eval-Float : (frame : Frame) (calls : Calls) (units : ℤ) → eval frame calls (e.Float units) ≡ expr_step frame calls (node.Float units)
unfolding eval pass
eval-Float frame calls units =
    ap (fold-TypedExpr Passing Meaning (argument_step frame) (expr_step frame calls)) (sym (e.rolls-Float units))
    ∙ fold-roll-TypedExpr Passing Meaning (argument_step frame) (expr_step frame calls) (node.Float units)

pub eval-Text : (frame : Frame) (calls : Calls) (bytes : List ℕ) → eval frame calls (e.Text bytes) ≡ expr_step frame calls (node.Text bytes)
unfolding eval pass
eval-Text frame calls bytes =
    ap (fold-TypedExpr Passing Meaning (argument_step frame) (expr_step frame calls)) (sym (e.rolls-Text bytes))
    ∙ fold-roll-TypedExpr Passing Meaning (argument_step frame) (expr_step frame calls) (node.Text bytes)

pub eval-Variable : (frame : Frame) (calls : Calls) (root : Root) (part : Part) (indices : List TypedExpr) → eval frame calls (e.Variable root part indices) ≡ expr_step frame calls (node.Variable root part (map (eval frame calls) indices))
unfolding eval pass
eval-Variable frame calls root part indices =
    ap (fold-TypedExpr Passing Meaning (argument_step frame) (expr_step frame calls)) (sym (e.rolls-Variable root part indices))
    ∙ fold-roll-TypedExpr Passing Meaning (argument_step frame) (expr_step frame calls) (node.Variable root part indices)

pub eval-PartOf : (frame : Frame) (calls : Calls) (kind : Kind) (a : TypedExpr) (part : Part) (indices : List TypedExpr) → eval frame calls (e.PartOf kind a part indices) ≡ expr_step frame calls (node.PartOf kind (eval frame calls a) part (map (eval frame calls) indices))
unfolding eval pass
eval-PartOf frame calls kind a part indices =
    ap (fold-TypedExpr Passing Meaning (argument_step frame) (expr_step frame calls)) (sym (e.rolls-PartOf kind a part indices))
    ∙ fold-roll-TypedExpr Passing Meaning (argument_step frame) (expr_step frame calls) (node.PartOf kind a part indices)

pub eval-Paren : (frame : Frame) (calls : Calls) (kind : Kind) (a : TypedExpr) → eval frame calls (e.Paren kind a) ≡ expr_step frame calls (node.Paren kind (eval frame calls a))
unfolding eval pass
eval-Paren frame calls kind a =
    ap (fold-TypedExpr Passing Meaning (argument_step frame) (expr_step frame calls)) (sym (e.rolls-Paren kind a))
    ∙ fold-roll-TypedExpr Passing Meaning (argument_step frame) (expr_step frame calls) (node.Paren kind a)

pub eval-Promote : (frame : Frame) (calls : Calls) (ty : Ty) (a : TypedExpr) → eval frame calls (e.Promote ty a) ≡ expr_step frame calls (node.Promote ty (eval frame calls a))
unfolding eval pass
eval-Promote frame calls ty a =
    ap (fold-TypedExpr Passing Meaning (argument_step frame) (expr_step frame calls)) (sym (e.rolls-Promote ty a))
    ∙ fold-roll-TypedExpr Passing Meaning (argument_step frame) (expr_step frame calls) (node.Promote ty a)

pub eval-Apply : (frame : Frame) (calls : Calls) (op : OpName) (ty : Ty) (operands : List TypedExpr) → eval frame calls (e.Apply op ty operands) ≡ expr_step frame calls (node.Apply op ty (map (eval frame calls) operands))
unfolding eval pass
eval-Apply frame calls op ty operands =
    ap (fold-TypedExpr Passing Meaning (argument_step frame) (expr_step frame calls)) (sym (e.rolls-Apply op ty operands))
    ∙ fold-roll-TypedExpr Passing Meaning (argument_step frame) (expr_step frame calls) (node.Apply op ty operands)

pub eval-And : (frame : Frame) (calls : Calls) (a b : TypedExpr) → eval frame calls (e.And a b) ≡ expr_step frame calls (node.And (eval frame calls a) (eval frame calls b))
unfolding eval pass
eval-And frame calls a b =
    ap (fold-TypedExpr Passing Meaning (argument_step frame) (expr_step frame calls)) (sym (e.rolls-And a b))
    ∙ fold-roll-TypedExpr Passing Meaning (argument_step frame) (expr_step frame calls) (node.And a b)

pub eval-Or : (frame : Frame) (calls : Calls) (a b : TypedExpr) → eval frame calls (e.Or a b) ≡ expr_step frame calls (node.Or (eval frame calls a) (eval frame calls b))
unfolding eval pass
eval-Or frame calls a b =
    ap (fold-TypedExpr Passing Meaning (argument_step frame) (expr_step frame calls)) (sym (e.rolls-Or a b))
    ∙ fold-roll-TypedExpr Passing Meaning (argument_step frame) (expr_step frame calls) (node.Or a b)

pub eval-Choose : (frame : Frame) (calls : Calls) (kind : Kind) (c a b : TypedExpr) → eval frame calls (e.Choose kind c a b) ≡ expr_step frame calls (node.Choose kind (eval frame calls c) (eval frame calls a) (eval frame calls b))
unfolding eval pass
eval-Choose frame calls kind c a b =
    ap (fold-TypedExpr Passing Meaning (argument_step frame) (expr_step frame calls)) (sym (e.rolls-Choose kind c a b))
    ∙ fold-roll-TypedExpr Passing Meaning (argument_step frame) (expr_step frame calls) (node.Choose kind c a b)

pub eval-Assign : (frame : Frame) (calls : Calls) (root : Root) (part : Part) (indices : List TypedExpr) (a : TypedExpr) → eval frame calls (e.Assign root part indices a) ≡ expr_step frame calls (node.Assign root part (map (eval frame calls) indices) (eval frame calls a))
unfolding eval pass
eval-Assign frame calls root part indices a =
    ap (fold-TypedExpr Passing Meaning (argument_step frame) (expr_step frame calls)) (sym (e.rolls-Assign root part indices a))
    ∙ fold-roll-TypedExpr Passing Meaning (argument_step frame) (expr_step frame calls) (node.Assign root part indices a)

pub eval-Update : (frame : Frame) (calls : Calls) (op : OpName) (ty : Ty) (root : Root) (part : Part) (indices : List TypedExpr) (a : TypedExpr) → eval frame calls (e.Update op ty root part indices a) ≡ expr_step frame calls (node.Update op ty root part (map (eval frame calls) indices) (eval frame calls a))
unfolding eval pass
eval-Update frame calls op ty root part indices a =
    ap (fold-TypedExpr Passing Meaning (argument_step frame) (expr_step frame calls)) (sym (e.rolls-Update op ty root part indices a))
    ∙ fold-roll-TypedExpr Passing Meaning (argument_step frame) (expr_step frame calls) (node.Update op ty root part indices a)

pub eval-Step : (frame : Frame) (calls : Calls) (step : Increment) (ty : Ty) (root : Root) → eval frame calls (e.Step step ty root) ≡ expr_step frame calls (node.Step step ty root)
unfolding eval pass
eval-Step frame calls step ty root =
    ap (fold-TypedExpr Passing Meaning (argument_step frame) (expr_step frame calls)) (sym (e.rolls-Step step ty root))
    ∙ fold-roll-TypedExpr Passing Meaning (argument_step frame) (expr_step frame calls) (node.Step step ty root)

pub eval-Call : (frame : Frame) (calls : Calls) (f : ℕ) (kind : Kind) (args : List Argument) → eval frame calls (e.Call f kind args) ≡ expr_step frame calls (node.Call f kind (map (pass frame calls) args))
unfolding eval pass
eval-Call frame calls f kind args =
    ap (fold-TypedExpr Passing Meaning (argument_step frame) (expr_step frame calls)) (sym (e.rolls-Call f kind args))
    ∙ fold-roll-TypedExpr Passing Meaning (argument_step frame) (expr_step frame calls) (node.Call f kind args)

pub eval-Exit : (frame : Frame) (calls : Calls) → eval frame calls e.Exit ≡ expr_step frame calls node.Exit
unfolding eval pass
eval-Exit frame calls =
    ap (fold-TypedExpr Passing Meaning (argument_step frame) (expr_step frame calls)) (sym e.rolls-Exit)
    ∙ fold-roll-TypedExpr Passing Meaning (argument_step frame) (expr_step frame calls) node.Exit

pub pass-In : (frame : Frame) (calls : Calls) (a : TypedExpr) → pass frame calls (arguments.In a) ≡ argument_step frame (node.In (eval frame calls a))
unfolding eval pass
pass-In frame calls a =
    ap (fold-Argument Passing Meaning (argument_step frame) (expr_step frame calls)) (sym (arguments.rolls-In a))
    ∙ fold-roll-Argument Passing Meaning (argument_step frame) (expr_step frame calls) (node.In a)

pub pass-Out : (frame : Frame) (calls : Calls) (root : Root) (part : Part) (indices : List TypedExpr) → pass frame calls (arguments.Out root part indices) ≡ argument_step frame (node.Out root part (map (eval frame calls) indices))
unfolding eval pass
pass-Out frame calls root part indices =
    ap (fold-Argument Passing Meaning (argument_step frame) (expr_step frame calls)) (sym (arguments.rolls-Out root part indices))
    ∙ fold-roll-Argument Passing Meaning (argument_step frame) (expr_step frame calls) (node.Out root part indices)
