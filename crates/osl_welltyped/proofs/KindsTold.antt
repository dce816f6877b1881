-- The kind of a well formed expression is what its outermost node tells.
use Rattle.std.proofs.Common.{◌≡◌, Bool, true, false, List, Option, Some, sym, ap, ◌∙◌, map, ◌+◌}
use Rattle.std.proofs.lemmas.List.{length-map}
use Rattle.osl_overload.specs.declared.signature.Formal.{Formal}
use Rattle.osl_overload.specs.declared.signature.Kind.{Kind}
use Rattle.osl_typed.specs.declared.expr.Part.{Part}
use Rattle.osl_typed.specs.declared.expr.TypedExpr.{TypedExpr}
use Rattle.osl_typed.specs.declared.expr.Argument.{Argument}
use Rattle.osl_typed.specs.declared.expr.Argument.TheOpen as o
use Rattle.osl_typed.specs.declared.expr.Argument.TheOpen.{TypedExpr-F}
use Rattle.osl_typed.specs.declared.expr.Argument.TheViews.{out-TypedExpr, roll-TypedExpr, roll-out-TypedExpr}
use Rattle.osl_typed.specs.declared.expr.Argument.TheFolds.{fold-roll-TypedExpr}
use Rattle.osl_typed.specs.Selections.{part_kind, kind_at, component_count}
use Rattle.osl_welltyped.specs.Kinded.{Rules, only_if, kind_step, argument_step, kinded, passed_kind}
use Rattle.osl_welltyped.specs.KindOf.{kind_of_node, kind_of_argument, kind_of, kind_passed}
use Rattle.osl_welltyped.proofs.Steps.{none_is_not, some_same}

only_same : (t : Bool) (k kind : Kind) → only_if t k ≡ Some kind → k ≡ kind
only_same true k kind h = some_same k kind h
only_same false k kind h = none_is_not kind h

-- both count the indices
counted : {X Y : Type 0} (part : Part) (f : TypedExpr → X) (g : TypedExpr → Y) (indices : List TypedExpr) → part_kind part (map f indices) ≡ part_kind part (map g indices)
counted part f g indices = ap (λ n. kind_at part.kind (n + component_count part.component)) (length-map indices f ∙ sym (length-map indices g))

module _ (rules : Rules) (kind : Kind) where
  told_by_layer : (l : TypedExpr-F Argument TypedExpr) → kinded rules (roll-TypedExpr l) ≡ Some kind → kind_of (roll-TypedExpr l) ≡ kind
  unfolding kinded kind_of passed_kind kind_passed
  told_by_layer (o.Int n) h = fold-roll-TypedExpr Kind Kind kind_of_argument kind_of_node (o.Int n) ∙ some_same _ kind (sym (fold-roll-TypedExpr (Option Formal) (Option Kind) (argument_step rules) (kind_step rules) (o.Int n)) ∙ h)
  told_by_layer (o.Float units) h = fold-roll-TypedExpr Kind Kind kind_of_argument kind_of_node (o.Float units) ∙ some_same _ kind (sym (fold-roll-TypedExpr (Option Formal) (Option Kind) (argument_step rules) (kind_step rules) (o.Float units)) ∙ h)
  told_by_layer (o.Text bytes) h = fold-roll-TypedExpr Kind Kind kind_of_argument kind_of_node (o.Text bytes) ∙ some_same _ kind (sym (fold-roll-TypedExpr (Option Formal) (Option Kind) (argument_step rules) (kind_step rules) (o.Text bytes)) ∙ h)
  told_by_layer (o.Variable root part indices) h = fold-roll-TypedExpr Kind Kind kind_of_argument kind_of_node (o.Variable root part indices) ∙ counted part kind_of (kinded rules) indices ∙ only_same _ _ kind (sym (fold-roll-TypedExpr (Option Formal) (Option Kind) (argument_step rules) (kind_step rules) (o.Variable root part indices)) ∙ h)
  told_by_layer (o.PartOf from a part indices) h = fold-roll-TypedExpr Kind Kind kind_of_argument kind_of_node (o.PartOf from a part indices) ∙ counted part kind_of (kinded rules) indices ∙ only_same _ _ kind (sym (fold-roll-TypedExpr (Option Formal) (Option Kind) (argument_step rules) (kind_step rules) (o.PartOf from a part indices)) ∙ h)
  told_by_layer (o.Paren k a) h = fold-roll-TypedExpr Kind Kind kind_of_argument kind_of_node (o.Paren k a) ∙ only_same _ _ kind (sym (fold-roll-TypedExpr (Option Formal) (Option Kind) (argument_step rules) (kind_step rules) (o.Paren k a)) ∙ h)
  told_by_layer (o.Promote ty a) h = fold-roll-TypedExpr Kind Kind kind_of_argument kind_of_node (o.Promote ty a) ∙ only_same _ _ kind (sym (fold-roll-TypedExpr (Option Formal) (Option Kind) (argument_step rules) (kind_step rules) (o.Promote ty a)) ∙ h)
  told_by_layer (o.Apply op ty operands) h = fold-roll-TypedExpr Kind Kind kind_of_argument kind_of_node (o.Apply op ty operands) ∙ only_same _ _ kind (sym (fold-roll-TypedExpr (Option Formal) (Option Kind) (argument_step rules) (kind_step rules) (o.Apply op ty operands)) ∙ h)
  told_by_layer (o.And a b) h = fold-roll-TypedExpr Kind Kind kind_of_argument kind_of_node (o.And a b) ∙ only_same _ _ kind (sym (fold-roll-TypedExpr (Option Formal) (Option Kind) (argument_step rules) (kind_step rules) (o.And a b)) ∙ h)
  told_by_layer (o.Or a b) h = fold-roll-TypedExpr Kind Kind kind_of_argument kind_of_node (o.Or a b) ∙ only_same _ _ kind (sym (fold-roll-TypedExpr (Option Formal) (Option Kind) (argument_step rules) (kind_step rules) (o.Or a b)) ∙ h)
  told_by_layer (o.Choose k c a b) h = fold-roll-TypedExpr Kind Kind kind_of_argument kind_of_node (o.Choose k c a b) ∙ only_same _ _ kind (sym (fold-roll-TypedExpr (Option Formal) (Option Kind) (argument_step rules) (kind_step rules) (o.Choose k c a b)) ∙ h)
  told_by_layer (o.Assign root part indices a) h = fold-roll-TypedExpr Kind Kind kind_of_argument kind_of_node (o.Assign root part indices a) ∙ counted part kind_of (kinded rules) indices ∙ only_same _ _ kind (sym (fold-roll-TypedExpr (Option Formal) (Option Kind) (argument_step rules) (kind_step rules) (o.Assign root part indices a)) ∙ h)
  told_by_layer (o.Update op ty root part indices a) h = fold-roll-TypedExpr Kind Kind kind_of_argument kind_of_node (o.Update op ty root part indices a) ∙ counted part kind_of (kinded rules) indices ∙ only_same _ _ kind (sym (fold-roll-TypedExpr (Option Formal) (Option Kind) (argument_step rules) (kind_step rules) (o.Update op ty root part indices a)) ∙ h)
  told_by_layer (o.Step step ty root) h = fold-roll-TypedExpr Kind Kind kind_of_argument kind_of_node (o.Step step ty root) ∙ only_same _ _ kind (sym (fold-roll-TypedExpr (Option Formal) (Option Kind) (argument_step rules) (kind_step rules) (o.Step step ty root)) ∙ h)
  told_by_layer (o.Call f k args) h = fold-roll-TypedExpr Kind Kind kind_of_argument kind_of_node (o.Call f k args) ∙ only_same _ _ kind (sym (fold-roll-TypedExpr (Option Formal) (Option Kind) (argument_step rules) (kind_step rules) (o.Call f k args)) ∙ h)
  told_by_layer o.Exit h = fold-roll-TypedExpr Kind Kind kind_of_argument kind_of_node o.Exit ∙ some_same _ kind (sym (fold-roll-TypedExpr (Option Formal) (Option Kind) (argument_step rules) (kind_step rules) o.Exit) ∙ h)

pub told_by_node : (rules : Rules) (x : TypedExpr) (kind : Kind) → kinded rules x ≡ Some kind → kind_of x ≡ kind
told_by_node rules x kind h =
    ap kind_of (sym (roll-out-TypedExpr x)) ∙ told_by_layer rules kind (out-TypedExpr x) (ap (kinded rules) (roll-out-TypedExpr x) ∙ h)
