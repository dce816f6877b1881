-- The measure of each node of an expression, from the measures of its parts.
use Rattle.std.proofs.Common.{◌≡◌, ℕ, sym, ap, ◌∙◌}
use Rattle.std.specs.Prelude.{ℤ, List, map}
use Rattle.osl_value.specs.declared.op_name.OpName.{OpName}
use Rattle.osl_value.specs.declared.types.Ty.{Ty}
use Rattle.osl_overload.specs.declared.signature.Kind.{Kind}
use Rattle.osl_typed.specs.declared.expr.Root.{Root}
use Rattle.osl_typed.specs.declared.expr.Part.{Part}
use Rattle.osl_typed.specs.declared.expr.Increment.{Increment}
use Rattle.osl_typed.specs.declared.expr.TypedExpr.{TypedExpr}
use Rattle.osl_typed.specs.declared.expr.TypedExpr.TheVariants as e
use Rattle.osl_typed.specs.declared.expr.Argument.{Argument}
use Rattle.osl_typed.specs.declared.expr.Argument.TheVariants as arguments
use Rattle.osl_typed.specs.declared.expr.Argument.TheOpen as node
use Rattle.osl_typed.specs.declared.expr.Argument.TheFolds.{fold-TypedExpr, fold-Argument, fold-roll-TypedExpr, fold-roll-Argument}
use Rattle.osl_welltyped.specs.Measures.{Measure, measure_step, measure_passed, measured, argument_measured}

pub measured-Int : (m : Measure) (n : ℤ) → measured m (e.Int n) ≡ measure_step m (node.Int n)
unfolding measured argument_measured
measured-Int m n =
    ap (fold-TypedExpr ℕ ℕ (measure_passed m) (measure_step m)) (sym (e.rolls-Int n))
    ∙ fold-roll-TypedExpr ℕ ℕ (measure_passed m) (measure_step m) (node.Int n)

pub measured-Float : (m : Measure) (units : ℤ) → measured m (e.Float units) ≡ measure_step m (node.Float units)
unfolding measured argument_measured
measured-Float m units =
    ap (fold-TypedExpr ℕ ℕ (measure_passed m) (measure_step m)) (sym (e.rolls-Float units))
    ∙ fold-roll-TypedExpr ℕ ℕ (measure_passed m) (measure_step m) (node.Float units)

pub measured-Text : (m : Measure) (bytes : List ℕ) → measured m (e.Text bytes) ≡ measure_step m (node.Text bytes)
unfolding measured argument_measured
measured-Text m bytes =
    ap (fold-TypedExpr ℕ ℕ (measure_passed m) (measure_step m)) (sym (e.rolls-Text bytes))
    ∙ fold-roll-TypedExpr ℕ ℕ (measure_passed m) (measure_step m) (node.Text bytes)

pub measured-Variable : (m : Measure) (root : Root) (part : Part) (indices : List TypedExpr) → measured m (e.Variable root part indices) ≡ measure_step m (node.Variable root part (map (measured m) indices))
unfolding measured argument_measured
measured-Variable m root part indices =
    ap (fold-TypedExpr ℕ ℕ (measure_passed m) (measure_step m)) (sym (e.rolls-Variable root part indices))
    ∙ fold-roll-TypedExpr ℕ ℕ (measure_passed m) (measure_step m) (node.Variable root part indices)

pub measured-PartOf : (m : Measure) (kind : Kind) (a : TypedExpr) (part : Part) (indices : List TypedExpr) → measured m (e.PartOf kind a part indices) ≡ measure_step m (node.PartOf kind (measured m a) part (map (measured m) indices))
unfolding measured argument_measured
measured-PartOf m kind a part indices =
    ap (fold-TypedExpr ℕ ℕ (measure_passed m) (measure_step m)) (sym (e.rolls-PartOf kind a part indices))
    ∙ fold-roll-TypedExpr ℕ ℕ (measure_passed m) (measure_step m) (node.PartOf kind a part indices)

pub measured-Paren : (m : Measure) (kind : Kind) (a : TypedExpr) → measured m (e.Paren kind a) ≡ measure_step m (node.Paren kind (measured m a))
unfolding measured argument_measured
measured-Paren m kind a =
    ap (fold-TypedExpr ℕ ℕ (measure_passed m) (measure_step m)) (sym (e.rolls-Paren kind a))
    ∙ fold-roll-TypedExpr ℕ ℕ (measure_passed m) (measure_step m) (node.Paren kind a)

pub measured-Promote : (m : Measure) (ty : Ty) (a : TypedExpr) → measured m (e.Promote ty a) ≡ measure_step m (node.Promote ty (measured m a))
unfolding measured argument_measured
measured-Promote m ty a =
    ap (fold-TypedExpr ℕ ℕ (measure_passed m) (measure_step m)) (sym (e.rolls-Promote ty a))
    ∙ fold-roll-TypedExpr ℕ ℕ (measure_passed m) (measure_step m) (node.Promote ty a)

pub measured-Apply : (m : Measure) (op : OpName) (ty : Ty) (operands : List TypedExpr) → measured m (e.Apply op ty operands) ≡ measure_step m (node.Apply op ty (map (measured m) operands))
unfolding measured argument_measured
measured-Apply m op ty operands =
    ap (fold-TypedExpr ℕ ℕ (measure_passed m) (measure_step m)) (sym (e.rolls-Apply op ty operands))
    ∙ fold-roll-TypedExpr ℕ ℕ (measure_passed m) (measure_step m) (node.Apply op ty operands)

pub measured-And : (m : Measure) (a : TypedExpr) (b : TypedExpr) → measured m (e.And a b) ≡ measure_step m (node.And (measured m a) (measured m b))
unfolding measured argument_measured
measured-And m a b =
    ap (fold-TypedExpr ℕ ℕ (measure_passed m) (measure_step m)) (sym (e.rolls-And a b))
    ∙ fold-roll-TypedExpr ℕ ℕ (measure_passed m) (measure_step m) (node.And a b)

pub measured-Or : (m : Measure) (a : TypedExpr) (b : TypedExpr) → measured m (e.Or a b) ≡ measure_step m (node.Or (measured m a) (measured m b))
unfolding measured argument_measured
measured-Or m a b =
    ap (fold-TypedExpr ℕ ℕ (measure_passed m) (measure_step m)) (sym (e.rolls-Or a b))
    ∙ fold-roll-TypedExpr ℕ ℕ (measure_passed m) (measure_step m) (node.Or a b)

pub measured-Choose : (m : Measure) (kind : Kind) (c : TypedExpr) (a : TypedExpr) (b : TypedExpr) → measured m (e.Choose kind c a b) ≡ measure_step m (node.Choose kind (measured m c) (measured m a) (measured m b))
unfolding measured argument_measured
measured-Choose m kind c a b =
    ap (fold-TypedExpr ℕ ℕ (measure_passed m) (measure_step m)) (sym (e.rolls-Choose kind c a b))
    ∙ fold-roll-TypedExpr ℕ ℕ (measure_passed m) (measure_step m) (node.Choose kind c a b)

pub measured-Assign : (m : Measure) (root : Root) (part : Part) (indices : List TypedExpr) (a : TypedExpr) → measured m (e.Assign root part indices a) ≡ measure_step m (node.Assign root part (map (measured m) indices) (measured m a))
unfolding measured argument_measured
measured-Assign m root part indices a =
    ap (fold-TypedExpr ℕ ℕ (measure_passed m) (measure_step m)) (sym (e.rolls-Assign root part indices a))
    ∙ fold-roll-TypedExpr ℕ ℕ (measure_passed m) (measure_step m) (node.Assign root part indices a)

pub measured-Update : (m : Measure) (op : OpName) (ty : Ty) (root : Root) (part : Part) (indices : List TypedExpr) (a : TypedExpr) → measured m (e.Update op ty root part indices a) ≡ measure_step m (node.Update op ty root part (map (measured m) indices) (measured m a))
unfolding measured argument_measured
measured-Update m op ty root part indices a =
    ap (fold-TypedExpr ℕ ℕ (measure_passed m) (measure_step m)) (sym (e.rolls-Update op ty root part indices a))
    ∙ fold-roll-TypedExpr ℕ ℕ (measure_passed m) (measure_step m) (node.Update op ty root part indices a)

pub measured-Step : (m : Measure) (step : Increment) (ty : Ty) (root : Root) → measured m (e.Step step ty root) ≡ measure_step m (node.Step step ty root)
unfolding measured argument_measured
measured-Step m step ty root =
    ap (fold-TypedExpr ℕ ℕ (measure_passed m) (measure_step m)) (sym (e.rolls-Step step ty root))
    ∙ fold-roll-TypedExpr ℕ ℕ (measure_passed m) (measure_step m) (node.Step step ty root)

pub measured-Call : (m : Measure) (f : ℕ) (kind : Kind) (args : List Argument) → measured m (e.Call f kind args) ≡ measure_step m (node.Call f kind (map (argument_measured m) args))
unfolding measured argument_measured
measured-Call m f kind args =
    ap (fold-TypedExpr ℕ ℕ (measure_passed m) (measure_step m)) (sym (e.rolls-Call f kind args))
    ∙ fold-roll-TypedExpr ℕ ℕ (measure_passed m) (measure_step m) (node.Call f kind args)

pub measured-Exit : (m : Measure) → measured m e.Exit ≡ measure_step m node.Exit
unfolding measured argument_measured
measured-Exit m =
    ap (fold-TypedExpr ℕ ℕ (measure_passed m) (measure_step m)) (sym e.rolls-Exit)
    ∙ fold-roll-TypedExpr ℕ ℕ (measure_passed m) (measure_step m) node.Exit

pub measured-In : (m : Measure) (a : TypedExpr) → argument_measured m (arguments.In a) ≡ measure_passed m (node.In (measured m a))
unfolding measured argument_measured
measured-In m a =
    ap (fold-Argument ℕ ℕ (measure_passed m) (measure_step m)) (sym (arguments.rolls-In a))
    ∙ fold-roll-Argument ℕ ℕ (measure_passed m) (measure_step m) (node.In a)

pub measured-Out : (m : Measure) (root : Root) (part : Part) (indices : List TypedExpr) → argument_measured m (arguments.Out root part indices) ≡ measure_passed m (node.Out root part (map (measured m) indices))
unfolding measured argument_measured
measured-Out m root part indices =
    ap (fold-Argument ℕ ℕ (measure_passed m) (measure_step m)) (sym (arguments.rolls-Out root part indices))
    ∙ fold-roll-Argument ℕ ℕ (measure_passed m) (measure_step m) (node.Out root part indices)
