-- How high typed trees are, and which literals they hold: the greatest that a measure finds in a tree.
use Rattle.std.specs.Prelude.{ℕ, ◌+◌, ◌^◌, max, nat_lt, nat_le, Bool, if◌then◌else◌, ℤ, pos, negsuc, unsigned_abs, List, [], ◌∷◌, length, map, Option, None, Some}
use Rattle.osl_value.specs.Numbers.{fmax}
use Rattle.osl_typed.specs.declared.expr.TypedExpr.{TypedExpr}
use Rattle.osl_typed.specs.declared.expr.Argument.{Argument}
use Rattle.osl_typed.specs.declared.expr.Argument.TheOpen as e
use Rattle.osl_typed.specs.declared.expr.Argument.TheOpen.{TypedExpr-F, Argument-F}
use Rattle.osl_typed.specs.declared.expr.Argument.TheFolds.{fold-TypedExpr, fold-Argument}
use Rattle.osl_typed.specs.declared.stmt.Declared.{Declared}
use Rattle.osl_typed.specs.declared.stmt.TypedForStart.{TypedForStart}
use Rattle.osl_typed.specs.declared.stmt.TypedForStart.TheVariants as start
use Rattle.osl_typed.specs.declared.stmt.TypedInit.{TypedInit}
use Rattle.osl_typed.specs.declared.stmt.TypedInit.TheVariants as init
use Rattle.osl_typed.specs.declared.stmt.TypedStmt.{TypedStmt, TypedStmt-F, fold-TypedStmt}
use Rattle.osl_typed.specs.declared.stmt.TypedStmt.TheOpen as s

-- a number for each literal, one for any other leaf, and that of a node from the greatest of its parts (0 where it has none)
pub record Measure : Type 0 where
  pub int : ℤ → ℕ
  pub float : ℤ → ℕ
  pub text : List ℕ → ℕ
  pub leaf : ℕ
  pub node : ℕ → ℕ

-- ---- the measures

-- the height, as the grammar has it: a leaf is 1 high, and a node one more than its highest part, which is no lower than a leaf
abbrev pub by_height : Measure
by_height = record { int = λ n. 1; float = λ units. 1; text = λ bytes. 1; leaf = 1; node = λ n. max 1 n + 1 }

-- the bytes of the longest string
abbrev pub by_text : Measure
by_text = record { int = λ n. 0; float = λ units. 0; text = length; leaf = 0; node = λ n. n }

abbrev pub fits_int : ℤ → Bool
fits_int (pos n) = nat_lt n (2 ^ 31)
fits_int (negsuc n) = nat_lt n (2 ^ 31)

abbrev pub fits_float : ℤ → Bool
fits_float units = nat_le (unsigned_abs units) fmax

abbrev pub fault_unless : Bool → ℕ
fault_unless fits = if fits then 0 else 1

-- 1 where an int or a float is out of its range
abbrev pub by_fault : Measure
by_fault = record {
  int = λ n. fault_unless (fits_int n);
  float = λ units. fault_unless (fits_float units);
  text = λ bytes. 0;
  leaf = 0;
  node = λ n. n;
}

-- ---- expressions

abbrev pub greatest_of : List ℕ → ℕ
greatest_of [] = 0
greatest_of (n ∷ ns) = max n (greatest_of ns)

-- a variable, or a node over the indices of a part of one
abbrev pub place_measured : Measure → List ℕ → ℕ
place_measured m indices = max m.leaf (greatest_of (map m.node indices))

-- A promotion is no higher than what is promoted, since no node of the source is a promotion.
abbrev pub measure_step : Measure → TypedExpr-F ℕ ℕ → ℕ
measure_step m (e.Int n) = m.int n
measure_step m (e.Float units) = m.float units
measure_step m (e.Text bytes) = m.text bytes
measure_step m (e.Variable root part indices) = place_measured m indices
measure_step m (e.PartOf kind a part indices) = m.node (max a (greatest_of indices))
measure_step m (e.Paren kind a) = m.node a
measure_step m (e.Promote ty a) = a
measure_step m (e.Apply op ty operands) = m.node (greatest_of operands)
measure_step m (e.And a b) = m.node (max a b)
measure_step m (e.Or a b) = m.node (max a b)
measure_step m (e.Choose kind c a b) = m.node (max c (max a b))
measure_step m (e.Assign root part indices a) = m.node (max (place_measured m indices) a)
measure_step m (e.Update op ty root part indices a) = m.node (max (place_measured m indices) a)
measure_step m (e.Step step ty root) = m.node m.leaf
measure_step m (e.Call f kind args) = m.node (greatest_of args)
measure_step m e.Exit = m.leaf

abbrev pub measure_passed : Measure → Argument-F ℕ ℕ → ℕ
measure_passed m (e.In a) = a
measure_passed m (e.Out root part indices) = place_measured m indices

unfoldable pub measured : Measure → TypedExpr → ℕ
measured m x = fold-TypedExpr ℕ ℕ (measure_passed m) (measure_step m) x

unfoldable pub argument_measured : Measure → Argument → ℕ
argument_measured m x = fold-Argument ℕ ℕ (measure_passed m) (measure_step m) x

-- ---- statements

abbrev pub all_measured : Measure → List TypedExpr → ℕ
all_measured m xs = greatest_of (map (measured m) xs)

abbrev pub or_zero : Option ℕ → ℕ
or_zero None = 0
or_zero (Some n) = n

abbrev pub maybe_measured : Measure → Option TypedExpr → ℕ
maybe_measured m None = 0
maybe_measured m (Some a) = measured m a

abbrev pub init_measured : Measure → TypedInit → ℕ
init_measured m (init.Expr a) = measured m a
init_measured m (init.List items) = m.node (all_measured m items)

abbrev pub begun_measured : Measure → Option TypedInit → ℕ
begun_measured m None = m.leaf
begun_measured m (Some x) = m.node (init_measured m x)

abbrev pub declared_measured : Measure → List Declared → ℕ
declared_measured m ds = greatest_of (map (λ d. begun_measured m d.init) ds)

abbrev pub start_measured : Measure → TypedForStart → ℕ
start_measured m start.Nothing = 0
start_measured m (start.Expr a) = measured m a
start_measured m (start.Declare ds) = m.node (declared_measured m ds)

abbrev pub stmt_step : Measure → TypedStmt-F ℕ → ℕ
stmt_step m s.Empty = m.leaf
stmt_step m (s.Block all) = m.node (greatest_of all)
stmt_step m (s.Declare ds) = m.node (declared_measured m ds)
stmt_step m (s.Expr a) = m.node (measured m a)
stmt_step m s.Break = m.leaf
stmt_step m s.Continue = m.leaf
stmt_step m (s.Return a) = m.node (maybe_measured m a)
stmt_step m (s.If c a b) = m.node (max (measured m c) (max a (or_zero b)))
stmt_step m (s.While c a) = m.node (max (measured m c) a)
stmt_step m (s.DoWhile a c) = m.node (max a (measured m c))
stmt_step m (s.For x c step a) = m.node (max (max (start_measured m x) (maybe_measured m c)) (max (maybe_measured m step) a))

unfoldable pub stmt_measured : Measure → TypedStmt → ℕ
stmt_measured m x = fold-TypedStmt ℕ (stmt_step m) x

abbrev pub body_measured : Measure → List TypedStmt → ℕ
body_measured m body = greatest_of (map (stmt_measured m) body)
