-- What is asked of each statement, what it declares and what it measures, from the same of its parts.
use Rattle.std.proofs.Common.{◌≡◌, ℕ, sym, ap, ◌∙◌}
use Rattle.std.specs.Prelude.{Bool, List, Option, None, Some, map}
use Rattle.osl_overload.specs.declared.signature.Kind.{Kind}
use Rattle.osl_typed.specs.declared.expr.TypedExpr.{TypedExpr}
use Rattle.osl_typed.specs.declared.stmt.Declared.{Declared}
use Rattle.osl_typed.specs.declared.stmt.TypedForStart.{TypedForStart}
use Rattle.osl_typed.specs.declared.stmt.TypedStmt.{TypedStmt, fold-TypedStmt, fold-roll-TypedStmt}
use Rattle.osl_typed.specs.declared.stmt.TypedStmt.TheOpen as node
use Rattle.osl_typed.specs.declared.stmt.TypedStmt.TheVariants as s
use Rattle.osl_welltyped.specs.Kinded.{Rules}
use Rattle.osl_welltyped.specs.Measures as measures
use Rattle.osl_welltyped.specs.Measures.{Measure, stmt_measured}
use Rattle.osl_welltyped.specs.StatementsFit.{Fits, fit_step, stmt_fits, declares_step, declares}

pub fits-Empty : (rules : Rules) (result : Kind) (in_loop : Bool) → stmt_fits rules result s.Empty in_loop ≡ fit_step rules result node.Empty in_loop
unfolding stmt_fits
fits-Empty rules result in_loop = λ i. (ap (fold-TypedStmt Fits (fit_step rules result)) (sym s.rolls-Empty) ∙ fold-roll-TypedStmt Fits (fit_step rules result) node.Empty) i in_loop

pub fits-Block : (rules : Rules) (result : Kind) (all : List TypedStmt) (in_loop : Bool) → stmt_fits rules result (s.Block all) in_loop ≡ fit_step rules result (node.Block (map (stmt_fits rules result) all)) in_loop
unfolding stmt_fits
fits-Block rules result all in_loop = λ i. (ap (fold-TypedStmt Fits (fit_step rules result)) (sym (s.rolls-Block all)) ∙ fold-roll-TypedStmt Fits (fit_step rules result) (node.Block all)) i in_loop

pub fits-Declare : (rules : Rules) (result : Kind) (ds : List Declared) (in_loop : Bool) → stmt_fits rules result (s.Declare ds) in_loop ≡ fit_step rules result (node.Declare ds) in_loop
unfolding stmt_fits
fits-Declare rules result ds in_loop = λ i. (ap (fold-TypedStmt Fits (fit_step rules result)) (sym (s.rolls-Declare ds)) ∙ fold-roll-TypedStmt Fits (fit_step rules result) (node.Declare ds)) i in_loop

pub fits-Expr : (rules : Rules) (result : Kind) (a : TypedExpr) (in_loop : Bool) → stmt_fits rules result (s.Expr a) in_loop ≡ fit_step rules result (node.Expr a) in_loop
unfolding stmt_fits
fits-Expr rules result a in_loop = λ i. (ap (fold-TypedStmt Fits (fit_step rules result)) (sym (s.rolls-Expr a)) ∙ fold-roll-TypedStmt Fits (fit_step rules result) (node.Expr a)) i in_loop

pub fits-Break : (rules : Rules) (result : Kind) (in_loop : Bool) → stmt_fits rules result s.Break in_loop ≡ fit_step rules result node.Break in_loop
unfolding stmt_fits
fits-Break rules result in_loop = λ i. (ap (fold-TypedStmt Fits (fit_step rules result)) (sym s.rolls-Break) ∙ fold-roll-TypedStmt Fits (fit_step rules result) node.Break) i in_loop

pub fits-Continue : (rules : Rules) (result : Kind) (in_loop : Bool) → stmt_fits rules result s.Continue in_loop ≡ fit_step rules result node.Continue in_loop
unfolding stmt_fits
fits-Continue rules result in_loop = λ i. (ap (fold-TypedStmt Fits (fit_step rules result)) (sym s.rolls-Continue) ∙ fold-roll-TypedStmt Fits (fit_step rules result) node.Continue) i in_loop

pub fits-Return : (rules : Rules) (result : Kind) (a : Option TypedExpr) (in_loop : Bool) → stmt_fits rules result (s.Return a) in_loop ≡ fit_step rules result (node.Return a) in_loop
unfolding stmt_fits
fits-Return rules result a in_loop = λ i. (ap (fold-TypedStmt Fits (fit_step rules result)) (sym (s.rolls-Return a)) ∙ fold-roll-TypedStmt Fits (fit_step rules result) (node.Return a)) i in_loop

pub fits-If : (rules : Rules) (result : Kind) (c : TypedExpr) (a : TypedStmt) (in_loop : Bool) → stmt_fits rules result (s.If c a None) in_loop ≡ fit_step rules result (node.If c (stmt_fits rules result a) None) in_loop
unfolding stmt_fits
fits-If rules result c a in_loop = λ i. (ap (fold-TypedStmt Fits (fit_step rules result)) (sym (s.rolls-If c a None)) ∙ fold-roll-TypedStmt Fits (fit_step rules result) (node.If c a None)) i in_loop

pub fits-If-else : (rules : Rules) (result : Kind) (c : TypedExpr) (a : TypedStmt) (b : TypedStmt) (in_loop : Bool) → stmt_fits rules result (s.If c a (Some b)) in_loop ≡ fit_step rules result (node.If c (stmt_fits rules result a) (Some (stmt_fits rules result b))) in_loop
unfolding stmt_fits
fits-If-else rules result c a b in_loop = λ i. (ap (fold-TypedStmt Fits (fit_step rules result)) (sym (s.rolls-If c a (Some b))) ∙ fold-roll-TypedStmt Fits (fit_step rules result) (node.If c a (Some b))) i in_loop

pub fits-While : (rules : Rules) (result : Kind) (c : TypedExpr) (a : TypedStmt) (in_loop : Bool) → stmt_fits rules result (s.While c a) in_loop ≡ fit_step rules result (node.While c (stmt_fits rules result a)) in_loop
unfolding stmt_fits
fits-While rules result c a in_loop = λ i. (ap (fold-TypedStmt Fits (fit_step rules result)) (sym (s.rolls-While c a)) ∙ fold-roll-TypedStmt Fits (fit_step rules result) (node.While c a)) i in_loop

pub fits-DoWhile : (rules : Rules) (result : Kind) (a : TypedStmt) (c : TypedExpr) (in_loop : Bool) → stmt_fits rules result (s.DoWhile a c) in_loop ≡ fit_step rules result (node.DoWhile (stmt_fits rules result a) c) in_loop
unfolding stmt_fits
fits-DoWhile rules result a c in_loop = λ i. (ap (fold-TypedStmt Fits (fit_step rules result)) (sym (s.rolls-DoWhile a c)) ∙ fold-roll-TypedStmt Fits (fit_step rules result) (node.DoWhile a c)) i in_loop

pub fits-For : (rules : Rules) (result : Kind) (x : TypedForStart) (c : Option TypedExpr) (step : Option TypedExpr) (a : TypedStmt) (in_loop : Bool) → stmt_fits rules result (s.For x c step a) in_loop ≡ fit_step rules result (node.For x c step (stmt_fits rules result a)) in_loop
unfolding stmt_fits
fits-For rules result x c step a in_loop = λ i. (ap (fold-TypedStmt Fits (fit_step rules result)) (sym (s.rolls-For x c step a)) ∙ fold-roll-TypedStmt Fits (fit_step rules result) (node.For x c step a)) i in_loop

pub declares-Empty : declares s.Empty ≡ declares_step node.Empty
unfolding declares
declares-Empty = ap (fold-TypedStmt (List Declared) declares_step) (sym s.rolls-Empty) ∙ fold-roll-TypedStmt (List Declared) declares_step node.Empty

pub declares-Block : (all : List TypedStmt) → declares (s.Block all) ≡ declares_step (node.Block (map declares all))
unfolding declares
declares-Block all = ap (fold-TypedStmt (List Declared) declares_step) (sym (s.rolls-Block all)) ∙ fold-roll-TypedStmt (List Declared) declares_step (node.Block all)

pub declares-Declare : (ds : List Declared) → declares (s.Declare ds) ≡ declares_step (node.Declare ds)
unfolding declares
declares-Declare ds = ap (fold-TypedStmt (List Declared) declares_step) (sym (s.rolls-Declare ds)) ∙ fold-roll-TypedStmt (List Declared) declares_step (node.Declare ds)

pub declares-Expr : (a : TypedExpr) → declares (s.Expr a) ≡ declares_step (node.Expr a)
unfolding declares
declares-Expr a = ap (fold-TypedStmt (List Declared) declares_step) (sym (s.rolls-Expr a)) ∙ fold-roll-TypedStmt (List Declared) declares_step (node.Expr a)

pub declares-Break : declares s.Break ≡ declares_step node.Break
unfolding declares
declares-Break = ap (fold-TypedStmt (List Declared) declares_step) (sym s.rolls-Break) ∙ fold-roll-TypedStmt (List Declared) declares_step node.Break

pub declares-Continue : declares s.Continue ≡ declares_step node.Continue
unfolding declares
declares-Continue = ap (fold-TypedStmt (List Declared) declares_step) (sym s.rolls-Continue) ∙ fold-roll-TypedStmt (List Declared) declares_step node.Continue

pub declares-Return : (a : Option TypedExpr) → declares (s.Return a) ≡ declares_step (node.Return a)
unfolding declares
declares-Return a = ap (fold-TypedStmt (List Declared) declares_step) (sym (s.rolls-Return a)) ∙ fold-roll-TypedStmt (List Declared) declares_step (node.Return a)

pub declares-If : (c : TypedExpr) (a : TypedStmt) → declares (s.If c a None) ≡ declares_step (node.If c (declares a) None)
unfolding declares
declares-If c a = ap (fold-TypedStmt (List Declared) declares_step) (sym (s.rolls-If c a None)) ∙ fold-roll-TypedStmt (List Declared) declares_step (node.If c a None)

pub declares-If-else : (c : TypedExpr) (a : TypedStmt) (b : TypedStmt) → declares (s.If c a (Some b)) ≡ declares_step (node.If c (declares a) (Some (declares b)))
unfolding declares
declares-If-else c a b = ap (fold-TypedStmt (List Declared) declares_step) (sym (s.rolls-If c a (Some b))) ∙ fold-roll-TypedStmt (List Declared) declares_step (node.If c a (Some b))

pub declares-While : (c : TypedExpr) (a : TypedStmt) → declares (s.While c a) ≡ declares_step (node.While c (declares a))
unfolding declares
declares-While c a = ap (fold-TypedStmt (List Declared) declares_step) (sym (s.rolls-While c a)) ∙ fold-roll-TypedStmt (List Declared) declares_step (node.While c a)

pub declares-DoWhile : (a : TypedStmt) (c : TypedExpr) → declares (s.DoWhile a c) ≡ declares_step (node.DoWhile (declares a) c)
unfolding declares
declares-DoWhile a c = ap (fold-TypedStmt (List Declared) declares_step) (sym (s.rolls-DoWhile a c)) ∙ fold-roll-TypedStmt (List Declared) declares_step (node.DoWhile a c)

pub declares-For : (x : TypedForStart) (c : Option TypedExpr) (step : Option TypedExpr) (a : TypedStmt) → declares (s.For x c step a) ≡ declares_step (node.For x c step (declares a))
unfolding declares
declares-For x c step a = ap (fold-TypedStmt (List Declared) declares_step) (sym (s.rolls-For x c step a)) ∙ fold-roll-TypedStmt (List Declared) declares_step (node.For x c step a)

pub measured-Empty : (m : Measure) → stmt_measured m s.Empty ≡ measures.stmt_step m node.Empty
unfolding stmt_measured
measured-Empty m = ap (fold-TypedStmt ℕ (measures.stmt_step m)) (sym s.rolls-Empty) ∙ fold-roll-TypedStmt ℕ (measures.stmt_step m) node.Empty

pub measured-Block : (m : Measure) (all : List TypedStmt) → stmt_measured m (s.Block all) ≡ measures.stmt_step m (node.Block (map (stmt_measured m) all))
unfolding stmt_measured
measured-Block m all = ap (fold-TypedStmt ℕ (measures.stmt_step m)) (sym (s.rolls-Block all)) ∙ fold-roll-TypedStmt ℕ (measures.stmt_step m) (node.Block all)

pub measured-Declare : (m : Measure) (ds : List Declared) → stmt_measured m (s.Declare ds) ≡ measures.stmt_step m (node.Declare ds)
unfolding stmt_measured
measured-Declare m ds = ap (fold-TypedStmt ℕ (measures.stmt_step m)) (sym (s.rolls-Declare ds)) ∙ fold-roll-TypedStmt ℕ (measures.stmt_step m) (node.Declare ds)

pub measured-Expr : (m : Measure) (a : TypedExpr) → stmt_measured m (s.Expr a) ≡ measures.stmt_step m (node.Expr a)
unfolding stmt_measured
measured-Expr m a = ap (fold-TypedStmt ℕ (measures.stmt_step m)) (sym (s.rolls-Expr a)) ∙ fold-roll-TypedStmt ℕ (measures.stmt_step m) (node.Expr a)

pub measured-Break : (m : Measure) → stmt_measured m s.Break ≡ measures.stmt_step m node.Break
unfolding stmt_measured
measured-Break m = ap (fold-TypedStmt ℕ (measures.stmt_step m)) (sym s.rolls-Break) ∙ fold-roll-TypedStmt ℕ (measures.stmt_step m) node.Break

pub measured-Continue : (m : Measure) → stmt_measured m s.Continue ≡ measures.stmt_step m node.Continue
unfolding stmt_measured
measured-Continue m = ap (fold-TypedStmt ℕ (measures.stmt_step m)) (sym s.rolls-Continue) ∙ fold-roll-TypedStmt ℕ (measures.stmt_step m) node.Continue

pub measured-Return : (m : Measure) (a : Option TypedExpr) → stmt_measured m (s.Return a) ≡ measures.stmt_step m (node.Return a)
unfolding stmt_measured
measured-Return m a = ap (fold-TypedStmt ℕ (measures.stmt_step m)) (sym (s.rolls-Return a)) ∙ fold-roll-TypedStmt ℕ (measures.stmt_step m) (node.Return a)

pub measured-If : (m : Measure) (c : TypedExpr) (a : TypedStmt) → stmt_measured m (s.If c a None) ≡ measures.stmt_step m (node.If c (stmt_measured m a) None)
unfolding stmt_measured
measured-If m c a = ap (fold-TypedStmt ℕ (measures.stmt_step m)) (sym (s.rolls-If c a None)) ∙ fold-roll-TypedStmt ℕ (measures.stmt_step m) (node.If c a None)

pub measured-If-else : (m : Measure) (c : TypedExpr) (a : TypedStmt) (b : TypedStmt) → stmt_measured m (s.If c a (Some b)) ≡ measures.stmt_step m (node.If c (stmt_measured m a) (Some (stmt_measured m b)))
unfolding stmt_measured
measured-If-else m c a b = ap (fold-TypedStmt ℕ (measures.stmt_step m)) (sym (s.rolls-If c a (Some b))) ∙ fold-roll-TypedStmt ℕ (measures.stmt_step m) (node.If c a (Some b))

pub measured-While : (m : Measure) (c : TypedExpr) (a : TypedStmt) → stmt_measured m (s.While c a) ≡ measures.stmt_step m (node.While c (stmt_measured m a))
unfolding stmt_measured
measured-While m c a = ap (fold-TypedStmt ℕ (measures.stmt_step m)) (sym (s.rolls-While c a)) ∙ fold-roll-TypedStmt ℕ (measures.stmt_step m) (node.While c a)

pub measured-DoWhile : (m : Measure) (a : TypedStmt) (c : TypedExpr) → stmt_measured m (s.DoWhile a c) ≡ measures.stmt_step m (node.DoWhile (stmt_measured m a) c)
unfolding stmt_measured
measured-DoWhile m a c = ap (fold-TypedStmt ℕ (measures.stmt_step m)) (sym (s.rolls-DoWhile a c)) ∙ fold-roll-TypedStmt ℕ (measures.stmt_step m) (node.DoWhile a c)

pub measured-For : (m : Measure) (x : TypedForStart) (c : Option TypedExpr) (step : Option TypedExpr) (a : TypedStmt) → stmt_measured m (s.For x c step a) ≡ measures.stmt_step m (node.For x c step (stmt_measured m a))
unfolding stmt_measured
measured-For m x c step a = ap (fold-TypedStmt ℕ (measures.stmt_step m)) (sym (s.rolls-For x c step a)) ∙ fold-roll-TypedStmt ℕ (measures.stmt_step m) (node.For x c step a)
