-- The kind of each node of an expression, from the kinds of its parts.
use Rattle.std.proofs.Common.{◌≡◌, ℕ, sym, ap, ◌∙◌}
use Rattle.std.specs.Prelude.{ℤ, List, map, Option}
use Rattle.osl_value.specs.declared.op_name.OpName.{OpName}
use Rattle.osl_value.specs.declared.types.Ty.{Ty}
use Rattle.osl_overload.specs.declared.signature.Formal.{Formal}
use Rattle.osl_overload.specs.declared.signature.Kind.{Kind}
use Rattle.osl_typed.specs.declared.expr.Root.{Root}
use Rattle.osl_typed.specs.declared.expr.Part.{Part}
use Rattle.osl_typed.specs.declared.expr.Increment.{Increment}
use Rattle.osl_typed.specs.declared.expr.TypedExpr.{TypedExpr}
use Rattle.osl_typed.specs.declared.expr.TypedExpr.TheVariants as e
use Rattle.osl_typed.specs.declared.expr.Argument.{Argument}
use Rattle.osl_typed.specs.declared.expr.Argument.TheVariants as arguments
use Rattle.osl_typed.specs.declared.expr.Argument.TheOpen as node
use Rattle.osl_typed.specs.declared.expr.Argument.TheFolds.{fold-TypedExpr, fold-Argument, fold-roll-TypedExpr, fold-roll-Argument}
use Rattle.osl_welltyped.specs.Kinded.{Rules, kind_step, argument_step, kinded, passed_kind}

pub kinded-Int : (rules : Rules) (n : ℤ) → kinded rules (e.Int n) ≡ kind_step rules (node.Int n)
unfolding kinded passed_kind
kinded-Int rules n =
    ap (fold-TypedExpr (Option Formal) (Option Kind) (argument_step rules) (kind_step rules)) (sym (e.rolls-Int n))
    ∙ fold-roll-TypedExpr (Option Formal) (Option Kind) (argument_step rules) (kind_step rules) (node.Int n)

pub kinded-Float : (rules : Rules) (units : ℤ) → kinded rules (e.Float units) ≡ kind_step rules (node.Float units)
unfolding kinded passed_kind
kinded-Float rules units =
    ap (fold-TypedExpr (Option Formal) (Option Kind) (argument_step rules) (kind_step rules)) (sym (e.rolls-Float units))
    ∙ fold-roll-TypedExpr (Option Formal) (Option Kind) (argument_step rules) (kind_step rules) (node.Float units)

pub kinded-Text : (rules : Rules) (bytes : List ℕ) → kinded rules (e.Text bytes) ≡ kind_step rules (node.Text bytes)
unfolding kinded passed_kind
kinded-Text rules bytes =
    ap (fold-TypedExpr (Option Formal) (Option Kind) (argument_step rules) (kind_step rules)) (sym (e.rolls-Text bytes))
    ∙ fold-roll-TypedExpr (Option Formal) (Option Kind) (argument_step rules) (kind_step rules) (node.Text bytes)

pub kinded-Variable : (rules : Rules) (root : Root) (part : Part) (indices : List TypedExpr) → kinded rules (e.Variable root part indices) ≡ kind_step rules (node.Variable root part (map (kinded rules) indices))
unfolding kinded passed_kind
kinded-Variable rules root part indices =
    ap (fold-TypedExpr (Option Formal) (Option Kind) (argument_step rules) (kind_step rules)) (sym (e.rolls-Variable root part indices))
    ∙ fold-roll-TypedExpr (Option Formal) (Option Kind) (argument_step rules) (kind_step rules) (node.Variable root part indices)

pub kinded-PartOf : (rules : Rules) (kind : Kind) (a : TypedExpr) (part : Part) (indices : List TypedExpr) → kinded rules (e.PartOf kind a part indices) ≡ kind_step rules (node.PartOf kind (kinded rules a) part (map (kinded rules) indices))
unfolding kinded passed_kind
kinded-PartOf rules kind a part indices =
    ap (fold-TypedExpr (Option Formal) (Option Kind) (argument_step rules) (kind_step rules)) (sym (e.rolls-PartOf kind a part indices))
    ∙ fold-roll-TypedExpr (Option Formal) (Option Kind) (argument_step rules) (kind_step rules) (node.PartOf kind a part indices)

pub kinded-Paren : (rules : Rules) (kind : Kind) (a : TypedExpr) → kinded rules (e.Paren kind a) ≡ kind_step rules (node.Paren kind (kinded rules a))
unfolding kinded passed_kind
kinded-Paren rules kind a =
    ap (fold-TypedExpr (Option Formal) (Option Kind) (argument_step rules) (kind_step rules)) (sym (e.rolls-Paren kind a))
    ∙ fold-roll-TypedExpr (Option Formal) (Option Kind) (argument_step rules) (kind_step rules) (node.Paren kind a)

pub kinded-Promote : (rules : Rules) (ty : Ty) (a : TypedExpr) → kinded rules (e.Promote ty a) ≡ kind_step rules (node.Promote ty (kinded rules a))
unfolding kinded passed_kind
kinded-Promote rules ty a =
    ap (fold-TypedExpr (Option Formal) (Option Kind) (argument_step rules) (kind_step rules)) (sym (e.rolls-Promote ty a))
    ∙ fold-roll-TypedExpr (Option Formal) (Option Kind) (argument_step rules) (kind_step rules) (node.Promote ty a)

pub kinded-Apply : (rules : Rules) (op : OpName) (ty : Ty) (operands : List TypedExpr) → kinded rules (e.Apply op ty operands) ≡ kind_step rules (node.Apply op ty (map (kinded rules) operands))
unfolding kinded passed_kind
kinded-Apply rules op ty operands =
    ap (fold-TypedExpr (Option Formal) (Option Kind) (argument_step rules) (kind_step rules)) (sym (e.rolls-Apply op ty operands))
    ∙ fold-roll-TypedExpr (Option Formal) (Option Kind) (argument_step rules) (kind_step rules) (node.Apply op ty operands)

pub kinded-And : (rules : Rules) (a : TypedExpr) (b : TypedExpr) → kinded rules (e.And a b) ≡ kind_step rules (node.And (kinded rules a) (kinded rules b))
unfolding kinded passed_kind
kinded-And rules a b =
    ap (fold-TypedExpr (Option Formal) (Option Kind) (argument_step rules) (kind_step rules)) (sym (e.rolls-And a b))
    ∙ fold-roll-TypedExpr (Option Formal) (Option Kind) (argument_step rules) (kind_step rules) (node.And a b)

pub kinded-Or : (rules : Rules) (a : TypedExpr) (b : TypedExpr) → kinded rules (e.Or a b) ≡ kind_step rules (node.Or (kinded rules a) (kinded rules b))
unfolding kinded passed_kind
kinded-Or rules a b =
    ap (fold-TypedExpr (Option Formal) (Option Kind) (argument_step rules) (kind_step rules)) (sym (e.rolls-Or a b))
    ∙ fold-roll-TypedExpr (Option Formal) (Option Kind) (argument_step rules) (kind_step rules) (node.Or a b)

pub kinded-Choose : (rules : Rules) (kind : Kind) (c : TypedExpr) (a : TypedExpr) (b : TypedExpr) → kinded rules (e.Choose kind c a b) ≡ kind_step rules (node.Choose kind (kinded rules c) (kinded rules a) (kinded rules b))
unfolding kinded passed_kind
kinded-Choose rules kind c a b =
    ap (fold-TypedExpr (Option Formal) (Option Kind) (argument_step rules) (kind_step rules)) (sym (e.rolls-Choose kind c a b))
    ∙ fold-roll-TypedExpr (Option Formal) (Option Kind) (argument_step rules) (kind_step rules) (node.Choose kind c a b)

pub kinded-Assign : (rules : Rules) (root : Root) (part : Part) (indices : List TypedExpr) (a : TypedExpr) → kinded rules (e.Assign root part indices a) ≡ kind_step rules (node.Assign root part (map (kinded rules) indices) (kinded rules a))
unfolding kinded passed_kind
kinded-Assign rules root part indices a =
    ap (fold-TypedExpr (Option Formal) (Option Kind) (argument_step rules) (kind_step rules)) (sym (e.rolls-Assign root part indices a))
    ∙ fold-roll-TypedExpr (Option Formal) (Option Kind) (argument_step rules) (kind_step rules) (node.Assign root part indices a)

pub kinded-Update : (rules : Rules) (op : OpName) (ty : Ty) (root : Root) (part : Part) (indices : List TypedExpr) (a : TypedExpr) → kinded rules (e.Update op ty root part indices a) ≡ kind_step rules (node.Update op ty root part (map (kinded rules) indices) (kinded rules a))
unfolding kinded passed_kind
kinded-Update rules op ty root part indices a =
    ap (fold-TypedExpr (Option Formal) (Option Kind) (argument_step rules) (kind_step rules)) (sym (e.rolls-Update op ty root part indices a))
    ∙ fold-roll-TypedExpr (Option Formal) (Option Kind) (argument_step rules) (kind_step rules) (node.Update op ty root part indices a)

pub kinded-Step : (rules : Rules) (step : Increment) (ty : Ty) (root : Root) → kinded rules (e.Step step ty root) ≡ kind_step rules (node.Step step ty root)
unfolding kinded passed_kind
kinded-Step rules step ty root =
    ap (fold-TypedExpr (Option Formal) (Option Kind) (argument_step rules) (kind_step rules)) (sym (e.rolls-Step step ty root))
    ∙ fold-roll-TypedExpr (Option Formal) (Option Kind) (argument_step rules) (kind_step rules) (node.Step step ty root)

pub kinded-Call : (rules : Rules) (f : ℕ) (kind : Kind) (args : List Argument) → kinded rules (e.Call f kind args) ≡ kind_step rules (node.Call f kind (map (passed_kind rules) args))
unfolding kinded passed_kind
kinded-Call rules f kind args =
    ap (fold-TypedExpr (Option Formal) (Option Kind) (argument_step rules) (kind_step rules)) (sym (e.rolls-Call f kind args))
    ∙ fold-roll-TypedExpr (Option Formal) (Option Kind) (argument_step rules) (kind_step rules) (node.Call f kind args)

pub kinded-Exit : (rules : Rules) → kinded rules e.Exit ≡ kind_step rules node.Exit
unfolding kinded passed_kind
kinded-Exit rules =
    ap (fold-TypedExpr (Option Formal) (Option Kind) (argument_step rules) (kind_step rules)) (sym e.rolls-Exit)
    ∙ fold-roll-TypedExpr (Option Formal) (Option Kind) (argument_step rules) (kind_step rules) node.Exit

pub kinded-In : (rules : Rules) (a : TypedExpr) → passed_kind rules (arguments.In a) ≡ argument_step rules (node.In (kinded rules a))
unfolding kinded passed_kind
kinded-In rules a =
    ap (fold-Argument (Option Formal) (Option Kind) (argument_step rules) (kind_step rules)) (sym (arguments.rolls-In a))
    ∙ fold-roll-Argument (Option Formal) (Option Kind) (argument_step rules) (kind_step rules) (node.In a)

pub kinded-Out : (rules : Rules) (root : Root) (part : Part) (indices : List TypedExpr) → passed_kind rules (arguments.Out root part indices) ≡ argument_step rules (node.Out root part (map (kinded rules) indices))
unfolding kinded passed_kind
kinded-Out rules root part indices =
    ap (fold-Argument (Option Formal) (Option Kind) (argument_step rules) (kind_step rules)) (sym (arguments.rolls-Out root part indices))
    ∙ fold-roll-Argument (Option Formal) (Option Kind) (argument_step rules) (kind_step rules) (node.Out root part indices)
