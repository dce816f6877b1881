-- The longest name and the longest string of a source bound each of its names and strings.
use Rattle.std.proofs.Common.{ℕ, ◌≤◌, max, List, [], ◌∷◌, length, map, Option, Some, None, sym, subst, arith}
use Rattle.osl_tree.specs.declared.expr.Expr.{Expr, Expr-F, fold-roll-Expr, ind-Expr, roll-Expr}
use Rattle.osl_tree.specs.declared.expr.Expr.TheFolds.{map-Expr}
use Rattle.osl_tree.specs.declared.expr.Expr.TheOpen as o
use Rattle.osl_tree.specs.declared.stmt.Declaration.{Declaration}
use Rattle.osl_tree.specs.declared.stmt.ForStart.{ForStart}
use Rattle.osl_tree.specs.declared.stmt.ForStart.TheVariants as from
use Rattle.osl_tree.specs.declared.stmt.Init.{Init}
use Rattle.osl_tree.specs.declared.stmt.Init.TheVariants as begin
use Rattle.osl_tree.specs.declared.stmt.Stmt.{Stmt, Stmt-F, fold-roll-Stmt, ind-Stmt, roll-Stmt}
use Rattle.osl_tree.specs.declared.stmt.Stmt.TheFolds.{map-Stmt}
use Rattle.osl_tree.specs.declared.stmt.Stmt.TheOpen as s
use Rattle.osl_tree.specs.declared.stmt.Var.{Var}
use Rattle.osl_tree.specs.declared.tree.Datum.{Datum}
use Rattle.osl_tree.specs.declared.tree.Definition.{Definition}
use Rattle.osl_tree.specs.declared.tree.Definition.TheVariants as definitions
use Rattle.osl_tree.specs.declared.tree.Param.{Param}
use Rattle.osl_tree.specs.declared.tree.Tree.{Tree}
use Rattle.osl_typed.specs.Longest as longest
use Rattle.osl_typed.specs.Longest.{Longest, ◌and◌, all_of, in_expr, in_init, in_maybe_init, in_var, in_declaration, in_maybe_expr, in_start, in_stmt, in_body, in_type, in_item, in_definition, in_datum, in_param, in_formal, in_result, in_structure, named, longest_of}
use Rattle.osl_welltyped.specs.Measures.{by_text, greatest_of}
use Rattle.osl_welltyped.proofs.GrammarFiles.{AllOf, FunctionWithin, ParamWithin, SourceWithin}
use Rattle.osl_welltyped.proofs.Measured.{source_step, source_measured}
use Rattle.osl_welltyped.proofs.MeasuredBodies.{all_sources, source_init, source_begun, source_vars, source_declaration, source_maybe, source_start, source_stmt_step, source_stmt, source_body}

abbrev te : Expr → ℕ
te x = source_measured by_text x

abbrev ts : Stmt → ℕ
ts x = source_stmt by_text x

-- ---- expressions

module _ (Y : Type 0) (tree : Y → Expr) (low : (y : Y) → te (tree y) ≤ (in_expr (tree y)).text) where
  all_low : (ys : List Y) → greatest_of (map (source_measured by_text) (map tree ys)) ≤ (all_of (map in_expr (map tree ys))).text
  all_low [] = omega arith
  all_low (y ∷ ys) = let a = low y in let r = all_low ys in omega arith

  step_low : (l : Expr-F Y) → source_step by_text (map-Expr Expr ℕ (source_measured by_text) (map-Expr Y Expr tree l)) ≤ (longest.expr_step (map-Expr Expr Longest in_expr (map-Expr Y Expr tree l))).text
  step_low (o.Int n) = omega arith
  step_low (o.Float units) = omega arith
  step_low (o.Text bytes) = omega arith
  step_low (o.Name word) = omega arith
  step_low (o.Call word ys) = let r = all_low ys in omega arith
  step_low (o.Construct to ys) = all_low ys
  step_low (o.Paren x) = low x
  step_low (o.Index x i) = let a = low x in let c = low i in omega arith
  step_low (o.Field x word) = let a = low x in omega arith
  step_low (o.Postfix p x) = low x
  step_low (o.Prefix p x) = low x
  step_low (o.Cast to x) = low x
  step_low (o.Binary p x y) = let a = low x in let c = low y in omega arith
  step_low (o.Choice t x y) = let a = low t in let c = low x in let d = low y in omega arith
  step_low (o.Assign p x y) = let a = low x in let c = low y in omega arith

  layer_low : (l : Expr-F Y) → te (roll-Expr (map-Expr Y Expr tree l)) ≤ (in_expr (roll-Expr (map-Expr Y Expr tree l))).text
  unfolding source_measured in_expr
  layer_low l =
      let a = fold-roll-Expr ℕ (source_step by_text) (map-Expr Y Expr tree l) in
      let c = fold-roll-Expr Longest longest.expr_step (map-Expr Y Expr tree l) in
      subst (λ k. k ≤ (in_expr (roll-Expr (map-Expr Y Expr tree l))).text) (sym a) (subst (λ (k : Longest). source_step by_text (map-Expr Expr ℕ (source_measured by_text) (map-Expr Y Expr tree l)) ≤ k.text) (sym c) (step_low l))

expr_low : (x : Expr) → te x ≤ (in_expr x).text
expr_low x = ind-Expr (λ x. te x ≤ (in_expr x).text) (λ l y same. subst (λ z. te (roll-Expr z) ≤ (in_expr (roll-Expr z)).text) same (layer_low _ (λ w. w.0) (λ w. w.1) y)) x

exprs_low : (xs : List Expr) → all_sources by_text xs ≤ (all_of (map in_expr xs)).text
exprs_low [] = omega arith
exprs_low (x ∷ xs) = let a = expr_low x in let r = exprs_low xs in omega arith

init_low : (x : Init) → source_init by_text x ≤ (in_init x).text
init_low (begin.Expr a) = expr_low a
init_low (begin.List items) = exprs_low items

begun_low : (x : Option Init) → source_begun by_text x ≤ (in_maybe_init x).text
begun_low None = omega arith
begun_low (Some x) = init_low x

vars_low : (vs : List Var) → source_vars by_text vs ≤ (all_of (map in_var vs)).text
vars_low [] = omega arith
vars_low (v ∷ vs) = let a = begun_low v.init in let r = vars_low vs in omega arith

declaration_low : (d : Declaration) → source_declaration by_text d ≤ (in_declaration d).text
declaration_low d = let a = vars_low d.vars in omega arith

maybe_low : (x : Option Expr) → source_maybe by_text x ≤ (in_maybe_expr x).text
maybe_low None = omega arith
maybe_low (Some a) = expr_low a

start_low : (x : ForStart) → source_start by_text x ≤ (in_start x).text
start_low from.Nothing = omega arith
start_low (from.Expr a) = expr_low a
start_low (from.Declare d) = declaration_low d

-- ---- statements

module _ (Y : Type 0) (tree : Y → Stmt) (low : (y : Y) → ts (tree y) ≤ (in_stmt (tree y)).text) where
  all_stmts : (ys : List Y) → greatest_of (map (source_stmt by_text) (map tree ys)) ≤ (all_of (map in_stmt (map tree ys))).text
  all_stmts [] = omega arith
  all_stmts (y ∷ ys) = let a = low y in let r = all_stmts ys in omega arith

  stmt_step_low : (l : Stmt-F Y) → source_stmt_step by_text (map-Stmt Stmt ℕ (source_stmt by_text) (map-Stmt Y Stmt tree l)) ≤ (longest.stmt_step (map-Stmt Stmt Longest in_stmt (map-Stmt Y Stmt tree l))).text
  stmt_step_low s.Empty = omega arith
  stmt_step_low (s.Block ys) = all_stmts ys
  stmt_step_low (s.Declare d) = declaration_low d
  stmt_step_low (s.Expr a) = expr_low a
  stmt_step_low s.Break = omega arith
  stmt_step_low s.Continue = omega arith
  stmt_step_low (s.Return a) = maybe_low a
  stmt_step_low (s.If c y None) = let a = expr_low c in let q = low y in omega arith
  stmt_step_low (s.If c y (Some z)) = let a = expr_low c in let q = low y in let r = low z in omega arith
  stmt_step_low (s.While c y) = let a = expr_low c in let q = low y in omega arith
  stmt_step_low (s.DoWhile y c) = let a = expr_low c in let q = low y in omega arith
  stmt_step_low (s.For x c step y) = let a = start_low x in let q = maybe_low c in let r = maybe_low step in let u = low y in omega arith

  stmt_layer_low : (l : Stmt-F Y) → ts (roll-Stmt (map-Stmt Y Stmt tree l)) ≤ (in_stmt (roll-Stmt (map-Stmt Y Stmt tree l))).text
  unfolding source_stmt in_stmt
  stmt_layer_low l =
      let a = fold-roll-Stmt ℕ (source_stmt_step by_text) (map-Stmt Y Stmt tree l) in
      let c = fold-roll-Stmt Longest longest.stmt_step (map-Stmt Y Stmt tree l) in
      subst (λ k. k ≤ (in_stmt (roll-Stmt (map-Stmt Y Stmt tree l))).text) (sym a) (subst (λ (k : Longest). source_stmt_step by_text (map-Stmt Stmt ℕ (source_stmt by_text) (map-Stmt Y Stmt tree l)) ≤ k.text) (sym c) (stmt_step_low l))

stmt_low : (x : Stmt) → ts x ≤ (in_stmt x).text
stmt_low x = ind-Stmt (λ x. ts x ≤ (in_stmt x).text) (λ l y same. subst (λ z. ts (roll-Stmt z) ≤ (in_stmt (roll-Stmt z)).text) same (stmt_layer_low _ (λ w. w.0) (λ w. w.1) y)) x

body_low : (xs : List Stmt) → source_body by_text xs ≤ (in_body xs).text
body_low [] = omega arith
body_low (x ∷ xs) = let a = stmt_low x in let r = body_low xs in omega arith

-- ---- sources

definition_low : (x : Definition) (k : ℕ) → (in_definition x).text ≤ k → FunctionWithin by_text k x
definition_low (definitions.Structure x) k le = tt
definition_low (definitions.Function f) k le = let a = body_low f.body in omega arith

definitions_low : (xs : List Definition) (k : ℕ) → (all_of (map in_definition xs)).text ≤ k → AllOf (FunctionWithin by_text k) xs
definitions_low [] k le = tt
definitions_low (x ∷ xs) k le =
    let both : max (in_definition x).text (all_of (map in_definition xs)).text ≤ k = le in
    (definition_low x k (omega arith), definitions_low xs k (omega arith))

params_low : (xs : List Param) (k : ℕ) → (all_of (map in_param xs)).text ≤ k → AllOf (ParamWithin by_text k) xs
params_low [] k le = tt
params_low (x ∷ xs) k le =
    let both : max (in_param x).text (all_of (map in_param xs)).text ≤ k = le in
    let a = init_low x.init in
    (omega arith, params_low xs k (omega arith))

pub texts_low : (tree : Tree) → SourceWithin by_text (longest_of tree).text tree
texts_low tree =
    let a = body_low tree.shader.body in
    record { functions = definitions_low tree.definitions _ (omega arith); params = params_low tree.shader.params _ (omega arith); body = omega arith }

-- ---- names

abbrev pub DatumShort : ℕ → Datum → Type 0
DatumShort k x = length x.item.name ≤ k

abbrev pub ParamShort : ℕ → Param → Type 0
ParamShort k x = (length x.item.name ≤ k) × AllOf (DatumShort k) x.metadata

data_short : (xs : List Datum) (k : ℕ) → (all_of (map in_datum xs)).word ≤ k → AllOf (DatumShort k) xs
data_short [] k le = tt
data_short (x ∷ xs) k le =
    let both : max (in_datum x).word (all_of (map in_datum xs)).word ≤ k = le in
    (omega arith, data_short xs k (omega arith))

params_short : (xs : List Param) (k : ℕ) → (all_of (map in_param xs)).word ≤ k → AllOf (ParamShort k) xs
params_short [] k le = tt
params_short (x ∷ xs) k le =
    let both : max (in_param x).word (all_of (map in_param xs)).word ≤ k = le in
    ((omega arith, data_short x.metadata k (omega arith)), params_short xs k (omega arith))

pub record NamesShort (k : ℕ) (tree : Tree) : Type 0 where
  pub shader : length tree.shader.name ≤ k
  pub metadata : AllOf (DatumShort k) tree.shader.metadata
  pub params : AllOf (ParamShort k) tree.shader.params

pub names_short : (tree : Tree) → NamesShort (longest_of tree).word tree
names_short tree = record { shader = omega arith; metadata = data_short tree.shader.metadata _ (omega arith); params = params_short tree.shader.params _ (omega arith) }
