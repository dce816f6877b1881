-- What a tree spells bounds its measure: by its height, and by the literals among its tokens.
use Rattle.std.proofs.Common.{◌≡◌, ℕ, ◌+◌, ◌≤◌, max, List, [], ◌∷◌, ◌++◌, map, Option, Some, None, sym, ap, ◌∙◌, subst, arith}
use Rattle.std.specs.Prelude.{ℤ}
use Rattle.osl_tree.specs.Lexeme.{Lexeme}
use Rattle.osl_tree.specs.Lexeme as l
use Rattle.osl_tree.specs.Grammar.{IsBase, IsExpr, IsUnary, IsPostfix, IsPrimary, AreArguments, AreExprs}
use Rattle.osl_tree.specs.Grammar as g
use Rattle.osl_tree.specs.declared.expr.AssignOp.{AssignOp}
use Rattle.osl_tree.specs.declared.expr.BaseType.{BaseType}
use Rattle.osl_tree.specs.declared.expr.BinaryOp.{BinaryOp}
use Rattle.osl_tree.specs.declared.expr.PostfixOp.{PostfixOp}
use Rattle.osl_tree.specs.declared.expr.PrefixOp.{PrefixOp}
use Rattle.osl_tree.specs.declared.stmt.Declaration.{Declaration}
use Rattle.osl_tree.specs.declared.stmt.ForStart.{ForStart}
use Rattle.osl_tree.specs.declared.stmt.Stmt.{Stmt, fold-Stmt, fold-roll-Stmt}
use Rattle.osl_tree.specs.declared.stmt.Stmt.TheOpen as so
use Rattle.osl_tree.specs.declared.stmt.Stmt.TheVariants as s
use Rattle.osl_tree.specs.declared.token.Punct.TheVariants as p
use Rattle.osl_tree.specs.Terminals.{sign, level}
use Rattle.osl_tree.specs.declared.expr.Expr.{Expr, fold-Expr, fold-roll-Expr}
use Rattle.osl_tree.specs.declared.expr.Expr.TheOpen as o
use Rattle.osl_tree.specs.declared.expr.Expr.TheVariants as e
use Rattle.osl_welltyped.specs.Measures.{Measure, greatest_of}
use Rattle.osl_welltyped.proofs.Measured.{IsMeasure, source_step, source_measured}
use Rattle.osl_welltyped.proofs.MeasuredBodies.{source_stmt_step, source_stmt}

-- a literal measures no more than this
abbrev pub LiteralLow : Measure → ℕ → Lexeme → Type 0
LiteralLow m k (l.name bytes) = Unit {0}
LiteralLow m k (l.int n) = m.int n ≤ k
LiteralLow m k (l.float units) = m.float units ≤ k
LiteralLow m k (l.text bytes) = m.text bytes ≤ k
LiteralLow m k (l.terminal terminal) = Unit {0}

abbrev pub LiteralsLow : Measure → ℕ → List Lexeme → Type 0
LiteralsLow m k [] = Unit {0}
LiteralsLow m k (x ∷ xs) = LiteralLow m k x × LiteralsLow m k xs

pub low_left : (m : Measure) (k : ℕ) (xs ys : List Lexeme) → LiteralsLow m k (xs ++ ys) → LiteralsLow m k xs
low_left m k [] ys h = tt
low_left m k (x ∷ xs) ys h = (h.0, low_left m k xs ys (h.1))

pub low_right : (m : Measure) (k : ℕ) (xs ys : List Lexeme) → LiteralsLow m k (xs ++ ys) → LiteralsLow m k ys
low_right m k [] ys h = h
low_right m k (x ∷ xs) ys h = low_right m k xs ys (h.1)

-- a bound on the measure of a tree, by the tree's height
pub record IsHeightBound (m : Measure) (top : ℕ → ℕ) : Type 0 where
  pub leaf : m.leaf ≤ top 1
  pub more : (a b : ℕ) → a ≤ b → top a ≤ top b
  pub node : (h : ℕ) → 1 ≤ h → m.node (top h) ≤ top (h + 1)

-- ---- the measure of each node of a source

pub source-Int : (m : Measure) (n : ℤ) → source_measured m (e.Int n) ≡ source_step m (o.Int n)
unfolding source_measured
source-Int m n = ap (fold-Expr ℕ (source_step m)) (sym (e.rolls-Int n)) ∙ fold-roll-Expr ℕ (source_step m) (o.Int n)

pub source-Float : (m : Measure) (units : ℤ) → source_measured m (e.Float units) ≡ source_step m (o.Float units)
unfolding source_measured
source-Float m units = ap (fold-Expr ℕ (source_step m)) (sym (e.rolls-Float units)) ∙ fold-roll-Expr ℕ (source_step m) (o.Float units)

pub source-Text : (m : Measure) (bytes : List ℕ) → source_measured m (e.Text bytes) ≡ source_step m (o.Text bytes)
unfolding source_measured
source-Text m bytes = ap (fold-Expr ℕ (source_step m)) (sym (e.rolls-Text bytes)) ∙ fold-roll-Expr ℕ (source_step m) (o.Text bytes)

pub source-Name : (m : Measure) (word : List ℕ) → source_measured m (e.Name word) ≡ source_step m (o.Name word)
unfolding source_measured
source-Name m word = ap (fold-Expr ℕ (source_step m)) (sym (e.rolls-Name word)) ∙ fold-roll-Expr ℕ (source_step m) (o.Name word)

pub source-Call : (m : Measure) (word : List ℕ) (args : List Expr) → source_measured m (e.Call word args) ≡ source_step m (o.Call word (map (source_measured m) args))
unfolding source_measured
source-Call m word args = ap (fold-Expr ℕ (source_step m)) (sym (e.rolls-Call word args)) ∙ fold-roll-Expr ℕ (source_step m) (o.Call word args)

pub source-Construct : (m : Measure) (to : BaseType) (args : List Expr) → source_measured m (e.Construct to args) ≡ source_step m (o.Construct to (map (source_measured m) args))
unfolding source_measured
source-Construct m to args = ap (fold-Expr ℕ (source_step m)) (sym (e.rolls-Construct to args)) ∙ fold-roll-Expr ℕ (source_step m) (o.Construct to args)

pub source-Paren : (m : Measure) (a : Expr) → source_measured m (e.Paren a) ≡ source_step m (o.Paren (source_measured m a))
unfolding source_measured
source-Paren m a = ap (fold-Expr ℕ (source_step m)) (sym (e.rolls-Paren a)) ∙ fold-roll-Expr ℕ (source_step m) (o.Paren a)

pub source-Index : (m : Measure) (a i : Expr) → source_measured m (e.Index a i) ≡ source_step m (o.Index (source_measured m a) (source_measured m i))
unfolding source_measured
source-Index m a i = ap (fold-Expr ℕ (source_step m)) (sym (e.rolls-Index a i)) ∙ fold-roll-Expr ℕ (source_step m) (o.Index a i)

pub source-Field : (m : Measure) (a : Expr) (word : List ℕ) → source_measured m (e.Field a word) ≡ source_step m (o.Field (source_measured m a) word)
unfolding source_measured
source-Field m a word = ap (fold-Expr ℕ (source_step m)) (sym (e.rolls-Field a word)) ∙ fold-roll-Expr ℕ (source_step m) (o.Field a word)

pub source-Postfix : (m : Measure) (p : PostfixOp) (a : Expr) → source_measured m (e.Postfix p a) ≡ source_step m (o.Postfix p (source_measured m a))
unfolding source_measured
source-Postfix m p a = ap (fold-Expr ℕ (source_step m)) (sym (e.rolls-Postfix p a)) ∙ fold-roll-Expr ℕ (source_step m) (o.Postfix p a)

pub source-Prefix : (m : Measure) (p : PrefixOp) (a : Expr) → source_measured m (e.Prefix p a) ≡ source_step m (o.Prefix p (source_measured m a))
unfolding source_measured
source-Prefix m p a = ap (fold-Expr ℕ (source_step m)) (sym (e.rolls-Prefix p a)) ∙ fold-roll-Expr ℕ (source_step m) (o.Prefix p a)

pub source-Cast : (m : Measure) (to : BaseType) (a : Expr) → source_measured m (e.Cast to a) ≡ source_step m (o.Cast to (source_measured m a))
unfolding source_measured
source-Cast m to a = ap (fold-Expr ℕ (source_step m)) (sym (e.rolls-Cast to a)) ∙ fold-roll-Expr ℕ (source_step m) (o.Cast to a)

pub source-Binary : (m : Measure) (p : BinaryOp) (a c : Expr) → source_measured m (e.Binary p a c) ≡ source_step m (o.Binary p (source_measured m a) (source_measured m c))
unfolding source_measured
source-Binary m p a c = ap (fold-Expr ℕ (source_step m)) (sym (e.rolls-Binary p a c)) ∙ fold-roll-Expr ℕ (source_step m) (o.Binary p a c)

pub source-Choice : (m : Measure) (c a d : Expr) → source_measured m (e.Choice c a d) ≡ source_step m (o.Choice (source_measured m c) (source_measured m a) (source_measured m d))
unfolding source_measured
source-Choice m c a d = ap (fold-Expr ℕ (source_step m)) (sym (e.rolls-Choice c a d)) ∙ fold-roll-Expr ℕ (source_step m) (o.Choice c a d)

pub source-Assign : (m : Measure) (p : AssignOp) (a c : Expr) → source_measured m (e.Assign p a c) ≡ source_step m (o.Assign p (source_measured m a) (source_measured m c))
unfolding source_measured
source-Assign m p a c = ap (fold-Expr ℕ (source_step m)) (sym (e.rolls-Assign p a c)) ∙ fold-roll-Expr ℕ (source_step m) (o.Assign p a c)

pub source-stmt-Empty : (m : Measure) → source_stmt m s.Empty ≡ source_stmt_step m so.Empty
unfolding source_stmt
source-stmt-Empty m = ap (fold-Stmt ℕ (source_stmt_step m)) (sym s.rolls-Empty) ∙ fold-roll-Stmt ℕ (source_stmt_step m) so.Empty

pub source-stmt-Block : (m : Measure) (all : List Stmt) → source_stmt m (s.Block all) ≡ source_stmt_step m (so.Block (map (source_stmt m) all))
unfolding source_stmt
source-stmt-Block m all = ap (fold-Stmt ℕ (source_stmt_step m)) (sym (s.rolls-Block all)) ∙ fold-roll-Stmt ℕ (source_stmt_step m) (so.Block all)

pub source-stmt-Declare : (m : Measure) (d : Declaration) → source_stmt m (s.Declare d) ≡ source_stmt_step m (so.Declare d)
unfolding source_stmt
source-stmt-Declare m d = ap (fold-Stmt ℕ (source_stmt_step m)) (sym (s.rolls-Declare d)) ∙ fold-roll-Stmt ℕ (source_stmt_step m) (so.Declare d)

pub source-stmt-Expr : (m : Measure) (a : Expr) → source_stmt m (s.Expr a) ≡ source_stmt_step m (so.Expr a)
unfolding source_stmt
source-stmt-Expr m a = ap (fold-Stmt ℕ (source_stmt_step m)) (sym (s.rolls-Expr a)) ∙ fold-roll-Stmt ℕ (source_stmt_step m) (so.Expr a)

pub source-stmt-Break : (m : Measure) → source_stmt m s.Break ≡ source_stmt_step m so.Break
unfolding source_stmt
source-stmt-Break m = ap (fold-Stmt ℕ (source_stmt_step m)) (sym s.rolls-Break) ∙ fold-roll-Stmt ℕ (source_stmt_step m) so.Break

pub source-stmt-Continue : (m : Measure) → source_stmt m s.Continue ≡ source_stmt_step m so.Continue
unfolding source_stmt
source-stmt-Continue m = ap (fold-Stmt ℕ (source_stmt_step m)) (sym s.rolls-Continue) ∙ fold-roll-Stmt ℕ (source_stmt_step m) so.Continue

pub source-stmt-Return : (m : Measure) (a : Option Expr) → source_stmt m (s.Return a) ≡ source_stmt_step m (so.Return a)
unfolding source_stmt
source-stmt-Return m a = ap (fold-Stmt ℕ (source_stmt_step m)) (sym (s.rolls-Return a)) ∙ fold-roll-Stmt ℕ (source_stmt_step m) (so.Return a)

pub source-stmt-If : (m : Measure) (c : Expr) (a : Stmt) → source_stmt m (s.If c a None) ≡ source_stmt_step m (so.If c (source_stmt m a) None)
unfolding source_stmt
source-stmt-If m c a = ap (fold-Stmt ℕ (source_stmt_step m)) (sym (s.rolls-If c a None)) ∙ fold-roll-Stmt ℕ (source_stmt_step m) (so.If c a None)

pub source-stmt-If-else : (m : Measure) (c : Expr) (a d : Stmt) → source_stmt m (s.If c a (Some d)) ≡ source_stmt_step m (so.If c (source_stmt m a) (Some (source_stmt m d)))
unfolding source_stmt
source-stmt-If-else m c a d = ap (fold-Stmt ℕ (source_stmt_step m)) (sym (s.rolls-If c a (Some d))) ∙ fold-roll-Stmt ℕ (source_stmt_step m) (so.If c a (Some d))

pub source-stmt-While : (m : Measure) (c : Expr) (a : Stmt) → source_stmt m (s.While c a) ≡ source_stmt_step m (so.While c (source_stmt m a))
unfolding source_stmt
source-stmt-While m c a = ap (fold-Stmt ℕ (source_stmt_step m)) (sym (s.rolls-While c a)) ∙ fold-roll-Stmt ℕ (source_stmt_step m) (so.While c a)

pub source-stmt-DoWhile : (m : Measure) (a : Stmt) (c : Expr) → source_stmt m (s.DoWhile a c) ≡ source_stmt_step m (so.DoWhile (source_stmt m a) c)
unfolding source_stmt
source-stmt-DoWhile m a c = ap (fold-Stmt ℕ (source_stmt_step m)) (sym (s.rolls-DoWhile a c)) ∙ fold-roll-Stmt ℕ (source_stmt_step m) (so.DoWhile a c)

pub source-stmt-For : (m : Measure) (x : ForStart) (c step : Option Expr) (a : Stmt) → source_stmt m (s.For x c step a) ≡ source_stmt_step m (so.For x c step (source_stmt m a))
unfolding source_stmt
source-stmt-For m x c step a = ap (fold-Stmt ℕ (source_stmt_step m)) (sym (s.rolls-For x c step a)) ∙ fold-roll-Stmt ℕ (source_stmt_step m) (so.For x c step a)

module _ (m : Measure) (is : IsMeasure m) (top : ℕ → ℕ) (b : IsHeightBound m top) where
  pub record LowAt (x h : ℕ) : Type 0 where
    pub some : 1 ≤ h
    pub low : x ≤ top h

  -- a node over parts of a height
  pub node_at : (x y h : ℕ) → x ≡ m.node y → 1 ≤ h → y ≤ top h → LowAt x (h + 1)
  node_at x y h same some low = record { some = omega arith; low = let n = b.node h some in let k = is.more y (top h) low in omega arith }

  pub leaf_at : (x : ℕ) → x ≤ top 1 → LowAt x 1
  leaf_at x low = record { some = omega arith; low = low }

  pub up : (x h k : ℕ) → LowAt x h → h ≤ k → x ≤ top k
  up x h k l le = let p = b.more h k le in let q = l.low in omega arith

  -- ---- expressions

  abbrev sm : Expr → ℕ
  sm x = source_measured m x

  abbrev L : List Lexeme → Type 0
  L a = LiteralsLow m (top 1) a

  pub base_some : (to : BaseType) (a : List Lexeme) (h : ℕ) → IsBase to a h → 1 ≤ h
  base_some to a h (g.of_one_word terminal t is) = omega arith
  base_some to a h g.closure = omega arith

  pub two_at : (x y h i : ℕ) → LowAt x h → LowAt y i → max x y ≤ top (max h i)
  two_at x y h i u v = let p = up x h (max h i) u (omega arith) in let q = up y i (max h i) v (omega arith) in omega arith

  mutual
    pub expr_low : (k : ℕ) (x : Expr) (a : List Lexeme) (h : ℕ) → IsExpr k x a h → L a → LowAt (sm x) h
    expr_low k x a h (g.unary d) t = unary_low x a h d t
    expr_low k z d n (g.binary {h = h} {i = i} {x = x} {y = y} {a = a} {b = c} terminal p is lv u v) t =
        let f = expr_low (level p) x a h u (low_left m (top 1) a (l.terminal terminal ∷ c) t) in
        let r = expr_low (level p + 1) y c i v (low_right m (top 1) a (l.terminal terminal ∷ c) t).1 in
        let s = f.some in
        node_at _ (max (sm x) (sm y)) (max h i) (source-Binary m p x y) (omega arith) (two_at (sm x) (sm y) h i f r)
    expr_low k w d n (g.choice {h = h} {i = i} {j = j} {x = x} {y = y} {z = z} {a = a} {b = q} {c = c} lv u v s) t =
        let front = low_left m (top 1) (a ++ sign p.Question ∷ q) (sign p.Colon ∷ c) t in
        let f = expr_low 2 x a h u (low_left m (top 1) a (sign p.Question ∷ q) front) in
        let r = expr_low 0 y q i v (low_right m (top 1) a (sign p.Question ∷ q) front).1 in
        let o = expr_low 1 z c j s (low_right m (top 1) (a ++ sign p.Question ∷ q) (sign p.Colon ∷ c) t).1 in
        let one = f.some in
        let two = r.some in
        node_at _ (max (sm x) (max (sm y) (sm z))) (max h (max i j)) (source-Choice m x y z) (omega arith)
        (two_at (sm x) (max (sm y) (sm z)) h (max i j) f (record { some = omega arith; low = two_at (sm y) (sm z) i j r o }))
    expr_low k z d n (g.assign {h = h} {i = i} {x = x} {y = y} {a = a} {b = c} terminal p is lv u v) t =
        let f = unary_low x a h u (low_left m (top 1) a (l.terminal terminal ∷ c) t) in
        let r = expr_low 0 y c i v (low_right m (top 1) a (l.terminal terminal ∷ c) t).1 in
        let s = f.some in
        node_at _ (max (sm x) (sm y)) (max h i) (source-Assign m p x y) (omega arith) (two_at (sm x) (sm y) h i f r)

    unary_low : (x : Expr) (a : List Lexeme) (h : ℕ) → IsUnary x a h → L a → LowAt (sm x) h
    unary_low x a h (g.postfix d) t = postfix_low x a h d t
    unary_low z d n (g.prefix {h = h} {x = x} {a = a} terminal p is u) t = let f = unary_low x a h u (t.1) in node_at _ (sm x) h (source-Prefix m p x) f.some f.low
    unary_low z d n (g.cast {h = h} {i = i} {x = x} {a = a} {b = c} to base u) t =
        let f = unary_low x c i u (low_right m (top 1) a (sign p.CloseParen ∷ c) (t.1)).1 in
        let one = base_some to a h base in
        node_at _ (sm x) (max h i) (source-Cast m to x) (omega arith) (up (sm x) i (max h i) f (omega arith))

    postfix_low : (x : Expr) (a : List Lexeme) (h : ℕ) → IsPostfix x a h → L a → LowAt (sm x) h
    postfix_low x a h (g.primary d) t = primary_low x a h d t
    postfix_low z d n (g.index {h = h} {i = i} {x = x} {y = y} {a = a} {b = c} u v) t =
        let front = low_left m (top 1) (a ++ sign p.OpenBracket ∷ c) (sign p.CloseBracket ∷ []) t in
        let f = postfix_low x a h u (low_left m (top 1) a (sign p.OpenBracket ∷ c) front) in
        let r = expr_low 0 y c i v (low_right m (top 1) a (sign p.OpenBracket ∷ c) front).1 in
        let s = f.some in
        node_at _ (max (sm x) (sm y)) (max h i) (source-Index m x y) (omega arith) (two_at (sm x) (sm y) h i f r)
    postfix_low z d n (g.field {h = h} {x = x} {a = a} name u) t =
        let f = postfix_low x a h u (low_left m (top 1) a (sign p.Dot ∷ l.name name ∷ []) t) in node_at _ (sm x) h (source-Field m x name) f.some f.low
    postfix_low z d n (g.step {h = h} {x = x} {a = a} terminal p is u) t =
        let f = postfix_low x a h u (low_left m (top 1) a (l.terminal terminal ∷ []) t) in node_at _ (sm x) h (source-Postfix m p x) f.some f.low

    primary_low : (x : Expr) (a : List Lexeme) (h : ℕ) → IsPrimary x a h → L a → LowAt (sm x) h
    primary_low x a h (g.int n) t = leaf_at _ (subst (λ k. k ≤ top 1) (sym (source-Int m n)) (t.0))
    primary_low x a h (g.float units) t = leaf_at _ (subst (λ k. k ≤ top 1) (sym (source-Float m units)) (t.0))
    primary_low x a h (g.text bytes) t = leaf_at _ (subst (λ k. k ≤ top 1) (sym (source-Text m bytes)) (t.0))
    primary_low x a h (g.name bytes) t = leaf_at _ (subst (λ k. k ≤ top 1) (sym (source-Name m bytes)) b.leaf)
    primary_low z d n (g.call {h = h} {xs = xs} {a = a} name u) t = let f = arguments_low xs a h u (t.1) in node_at _ (greatest_of (map (source_measured m) xs)) h (source-Call m name xs) f.some f.low
    primary_low z d n (g.construct {h = h} {i = i} {xs = xs} {a = a} {b = c} to base u) t =
        let f = arguments_low xs c i u (low_right m (top 1) a c t) in
        let one = base_some to a h base in
        node_at _ (greatest_of (map (source_measured m) xs)) (max h i) (source-Construct m to xs) (omega arith) (up _ i (max h i) f (omega arith))
    primary_low z d n (g.paren {h = h} {x = x} {a = a} u) t = let f = expr_low 0 x a h u (low_left m (top 1) a (sign p.CloseParen ∷ []) (t.1)) in node_at _ (sm x) h (source-Paren m x) f.some f.low

    arguments_low : (xs : List Expr) (a : List Lexeme) (h : ℕ) → AreArguments xs a h → L a → LowAt (greatest_of (map (source_measured m) xs)) h
    arguments_low xs a h g.none t = record { some = omega arith; low = omega arith }
    arguments_low xs d n (g.some {h = h} {xs = ys} {a = a} u) t = exprs_low ys a h u (low_left m (top 1) a (sign p.CloseParen ∷ []) (t.1))

    pub exprs_low : (xs : List Expr) (a : List Lexeme) (h : ℕ) → AreExprs xs a h → L a → LowAt (greatest_of (map (source_measured m) xs)) h
    exprs_low xs a h (g.last {x = x} u) t = let f = expr_low 0 x a h u t in let s = f.low in record { some = f.some; low = omega arith }
    exprs_low zs d n (g.more {h = h} {i = i} {x = x} {xs = xs} {a = a} {b = c} u v) t =
        let f = expr_low 0 x a h u (low_left m (top 1) a (sign p.Comma ∷ c) t) in
        let r = exprs_low xs c i v (low_right m (top 1) a (sign p.Comma ∷ c) t).1 in
        let s = f.some in
        record { some = omega arith; low = two_at (sm x) (greatest_of (map (source_measured m) xs)) h i f r }
