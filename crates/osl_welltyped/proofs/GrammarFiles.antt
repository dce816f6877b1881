-- What a tree spells bounds the measures of its statements and of all that a source holds; names are names of the tokens.
use Rattle.std.proofs.Common.{◌≡◌, ℕ, zero, suc, ◌+◌, ◌≤◌, max, List, [], ◌∷◌, ◌++◌, Option, Some, refl, sym, subst, arith}
use Rattle.std.specs.Prelude.{Bool, false, slice_get}
use Rattle.osl_tree.specs.Lexeme.{Lexeme}
use Rattle.osl_tree.specs.Lexeme as l
use Rattle.osl_tree.specs.Terminals.{sign, key}
use Rattle.osl_tree.specs.Grammar.{IsBase, IsType, IsExpr, AreExprs}
use Rattle.osl_tree.specs.Grammar as g
use Rattle.osl_tree.specs.Statements.{AreListed, IsItem, IsInit, IsVar, IsDeclaration, IsMaybe, IsForStart, IsStmt, IsBlock, AreStmts}
use Rattle.osl_tree.specs.Statements as y
use Rattle.osl_tree.specs.Files.{AreFields, IsStructure, output_word, IsFormal, AreFormals, IsResult, IsFunction, IsDefinition, AreTrailed, IsDatum, IsMetadata, IsParam, AreParams, IsShader, AreDefinitions, IsTree}
use Rattle.osl_tree.specs.Files as f
use Rattle.osl_tree.specs.declared.token.Punct.TheVariants as p
use Rattle.osl_tree.specs.declared.terminal.Keyword.TheVariants as w
use Rattle.osl_tree.specs.declared.expr.Expr.{Expr}
use Rattle.osl_tree.specs.declared.stmt.Declaration.{Declaration}
use Rattle.osl_tree.specs.declared.stmt.ForStart.{ForStart}
use Rattle.osl_tree.specs.declared.stmt.Init.{Init}
use Rattle.osl_tree.specs.declared.stmt.Item.{Item}
use Rattle.osl_tree.specs.declared.stmt.Stmt.{Stmt}
use Rattle.osl_tree.specs.declared.stmt.TypeName.{TypeName}
use Rattle.osl_tree.specs.declared.stmt.Var.{Var}
use Rattle.osl_tree.specs.declared.tree.Datum.{Datum}
use Rattle.osl_tree.specs.declared.tree.Definition.{Definition}
use Rattle.osl_tree.specs.declared.tree.Definition.TheVariants as definitions
use Rattle.osl_tree.specs.declared.tree.Function.{Function}
use Rattle.osl_tree.specs.declared.tree.Param.{Param}
use Rattle.osl_tree.specs.declared.tree.Shader.{Shader}
use Rattle.osl_tree.specs.declared.tree.Tree.{Tree}
use Rattle.osl_welltyped.specs.Measures.{Measure}
use Rattle.osl_welltyped.proofs.Measured.{IsMeasure, source_measured}
use Rattle.osl_welltyped.proofs.MeasuredBodies.{all_sources, source_init, source_begun, source_vars, source_declaration, source_maybe, source_start, source_stmt, source_body}
use Rattle.osl_welltyped.proofs.GrammarLow.{LiteralsLow, low_left, low_right, IsHeightBound, LowAt, node_at, up, two_at, base_some, expr_low, exprs_low, source-stmt-Empty, source-stmt-Block, source-stmt-Declare, source-stmt-Expr, source-stmt-Break, source-stmt-Continue, source-stmt-Return, source-stmt-If, source-stmt-If-else, source-stmt-While, source-stmt-DoWhile, source-stmt-For}
use Rattle.osl_welltyped.proofs.Steps.{none_is_not, some_same}

-- ---- lists

abbrev pub AllOf : {A : Type 0} → (A → Type 0) → List A → Type 0
AllOf P [] = Unit {0}
AllOf P (x ∷ xs) = P x × AllOf P xs

pub all_of_at : {A : Type 0} (P : A → Type 0) (xs : List A) (k : ℕ) (x : A) → AllOf P xs → slice_get xs k ≡ Some x → P x
all_of_at P [] k x h at = none_is_not x at
all_of_at P (z ∷ xs) zero x h at = subst P (some_same z x at) (h.0)
all_of_at P (z ∷ xs) (suc k) x h at = all_of_at P xs k x (h.1) at

-- ---- what a source holds

abbrev pub FunctionWithin : Measure → ℕ → Definition → Type 0
FunctionWithin m k (definitions.Structure s) = Unit {0}
FunctionWithin m k (definitions.Function fn) = source_body m fn.body ≤ k

abbrev pub DatumWithin : Measure → ℕ → Datum → Type 0
DatumWithin m k datum = source_init m datum.init ≤ k

abbrev pub ParamWithin : Measure → ℕ → Param → Type 0
ParamWithin m k param = source_init m param.init ≤ k

-- bodies and defaults
pub record SourceWithin (m : Measure) (k : ℕ) (tree : Tree) : Type 0 where
  pub functions : AllOf (FunctionWithin m k) tree.definitions
  pub params : AllOf (ParamWithin m k) tree.shader.params
  pub body : source_body m tree.shader.body ≤ k

abbrev pub MetadataWithin : Measure → ℕ → Param → Type 0
MetadataWithin m k param = AllOf (DatumWithin m k) param.metadata

-- metadata
pub record DataWithin (m : Measure) (k : ℕ) (tree : Tree) : Type 0 where
  pub shader : AllOf (DatumWithin m k) tree.shader.metadata
  pub params : AllOf (MetadataWithin m k) tree.shader.params

module _ (m : Measure) (is : IsMeasure m) (top : ℕ → ℕ) (b : IsHeightBound m top) where
  abbrev L : List Lexeme → Type 0
  L a = LiteralsLow m (top 1) a

  abbrev At : ℕ → ℕ → Type 0
  At x h = LowAt m is top b x h

  over : (x z h : ℕ) → x ≡ m.node z → 1 ≤ h → z ≤ top h → At x (h + 1)
  over x z h same some low = node_at m is top b x z h same some low

  left : (xs ys : List Lexeme) → L (xs ++ ys) → L xs
  left xs ys t = low_left m (top 1) xs ys t

  right : (xs ys : List Lexeme) → L (xs ++ ys) → L ys
  right xs ys t = low_right m (top 1) xs ys t

  both : (x z h i : ℕ) → At x h → At z i → max x z ≤ top (max h i)
  both x z h i u v = two_at m is top b x z h i u v

  higher : (x h k : ℕ) → At x h → h ≤ k → x ≤ top k
  higher x h k u le = up m is top b x h k u le

  item_some : (x : Item) (a : List Lexeme) (h : ℕ) → IsItem x a h → 1 ≤ h
  item_some x a h (y.alone name) = omega arith
  item_some x a h (y.array name n) = omega arith

  type_some : (x : TypeName) (a : List Lexeme) (h : ℕ) → IsType x a h → 1 ≤ h
  type_some x a h (g.base to d) = base_some m is top b to a h d
  type_some x a h (g.struct name) = omega arith

  init_low : (x : Init) (a : List Lexeme) (h : ℕ) → IsInit x a h → L a → At (source_init m x) h
  init_low x a h (y.expr {x = e} d) t = expr_low m is top b 0 e a h d t
  init_low x d n (y.list {h = h} {xs = xs} {a = a} u) t =
      let r = exprs_low m is top b xs a h u (left a (sign p.CloseBrace ∷ []) (t.1)) in over _ (all_sources m xs) h refl r.some r.low

  var_low : (x : Var) (a : List Lexeme) (h : ℕ) → IsVar x a h → L a → At (source_begun m x.init) h
  var_low x a h (y.plain {x = item} d) t =
      let some = item_some item a h d in let le = b.more 1 h some in let leaf = b.leaf in record { some = some; low = omega arith }
  var_low x d n (y.set {h = h} {i = i} {x = item} {y = init} {a = a} {b = c} u v) t =
      let r = init_low init c i v (right a (sign p.Assign ∷ c) t).1 in
      let some = item_some item a h u in
      over _ (source_init m init) (max h i) refl (omega arith) (higher _ i (max h i) r (omega arith))

  vars_low : (xs : List Var) (a : List Lexeme) (h : ℕ) → AreListed IsVar xs a h → L a → At (source_vars m xs) h
  vars_low xs a h (y.last {x = v} u) t = let r = var_low v a h u t in let low = r.low in record { some = r.some; low = omega arith }
  vars_low zs d n (y.more {h = h} {i = i} {x = v} {xs = xs} {a = a} {b = c} u s) t =
      let r = var_low v a h u (left a (sign p.Comma ∷ c) t) in
      let q = vars_low xs c i s (right a (sign p.Comma ∷ c) t).1 in
      let some = r.some in
      record { some = omega arith; low = both (source_begun m v.init) (source_vars m xs) h i r q }

  declaration_low : (x : Declaration) (a : List Lexeme) (h : ℕ) → IsDeclaration x a h → L a → At (source_declaration m x) h
  declaration_low x d n (y.declare {h = h} {i = i} {to = to} {xs = xs} {a = a} {b = c} u v) t =
      let r = vars_low xs c i v (right a c (left (a ++ c) (sign p.Semicolon ∷ []) t)) in
      let some = type_some to a h u in
      over _ (source_vars m xs) (max h i) refl (omega arith) (higher _ i (max h i) r (omega arith))

  maybe_low : (x : Option Expr) (a : List Lexeme) (h : ℕ) → IsMaybe x a h → L a → At (source_maybe m x) h
  maybe_low x a h y.nothing t = record { some = omega arith; low = omega arith }
  maybe_low x a h (y.just {x = e} d) t = expr_low m is top b 0 e a h d t

  start_low : (x : ForStart) (a : List Lexeme) (h : ℕ) → IsForStart x a h → L a → At (source_start m x) h
  start_low x a h y.nothing t = record { some = omega arith; low = omega arith }
  start_low x d h (y.expr {x = e} {a = a} u) t = expr_low m is top b 0 e a h u (left a (sign p.Semicolon ∷ []) t)
  start_low x a h (y.declare {d = d} u) t = declaration_low d a h u t

  of_leaf : (x h : ℕ) → x ≡ m.leaf → 1 ≤ h → At x h
  of_leaf x h e some = let le = b.more 1 h some in let leaf = b.leaf in record { some = some; low = omega arith }

  mutual
    stmt_low : (x : Stmt) (a : List Lexeme) (h : ℕ) (o : Bool) → IsStmt x a h o → L a → At (source_stmt m x) h
    stmt_low x a h o y.empty t = of_leaf _ h (source-stmt-Empty m) (omega arith)
    stmt_low x a h o (y.block {all = all} u) t = let r = block_low all a h u t in record { some = r.some; low = subst (λ k. k ≤ top h) (sym (source-stmt-Block m all)) r.low }
    stmt_low x a h o (y.declare {d = d} u) t = let r = declaration_low d a h u t in record { some = r.some; low = subst (λ k. k ≤ top h) (sym (source-stmt-Declare m d)) r.low }
    stmt_low x d n o (y.expr {h = h} {x = e} {a = a} u) t = let r = expr_low m is top b 0 e a h u (left a (sign p.Semicolon ∷ []) t) in over _ _ h (source-stmt-Expr m e) r.some r.low
    stmt_low x a h o y.break t = of_leaf _ h (source-stmt-Break m) (omega arith)
    stmt_low x a h o y.continue t = of_leaf _ h (source-stmt-Continue m) (omega arith)
    stmt_low x d n o (y.return {h = h} {x = e} {a = a} u) t = let r = maybe_low e a h u (left a (sign p.Semicolon ∷ []) (t.1)) in over _ _ h (source-stmt-Return m e) r.some r.low
    stmt_low x d n o (y.only_if {h = h} {i = i} {o = q} {x = e} {y = body} {a = a} {b = c} u v) t =
        let r = expr_low m is top b 0 e a h u (left a (sign p.CloseParen ∷ c) (t.1.1)) in
        let s = stmt_low body c i q v (right a (sign p.CloseParen ∷ c) (t.1.1)).1 in
        let some = r.some in
        let k = both (source_measured m e) (source_stmt m body) h i r s in
        over _ _ (max h i) (source-stmt-If m e body) (omega arith) (omega arith)
    stmt_low x d n o (y.if_else {h = h} {i = i} {j = j} {x = e} {y = body} {z = other} {a = a} {b = c} {c = z} u v s) t =
        let front = left (a ++ sign p.CloseParen ∷ c) (key w.Else ∷ z) (t.1.1) in
        let r = expr_low m is top b 0 e a h u (left a (sign p.CloseParen ∷ c) front) in
        let q = stmt_low body c i false v (right a (sign p.CloseParen ∷ c) front).1 in
        let k = stmt_low other z j o s (right (a ++ sign p.CloseParen ∷ c) (key w.Else ∷ z) (t.1.1)).1 in
        let some = r.some in
        let one = higher _ h (max h (max i j)) r (omega arith) in
        let two = higher _ i (max h (max i j)) q (omega arith) in
        let three = higher _ j (max h (max i j)) k (omega arith) in
        over _ _ (max h (max i j)) (source-stmt-If-else m e body other) (omega arith) (omega arith)
    stmt_low x d n o (y.while {h = h} {i = i} {x = e} {y = body} {a = a} {b = c} u v) t =
        let r = expr_low m is top b 0 e a h u (left a (sign p.CloseParen ∷ c) (t.1.1)) in
        let s = stmt_low body c i o v (right a (sign p.CloseParen ∷ c) (t.1.1)).1 in
        let some = r.some in
        over _ _ (max h i) (source-stmt-While m e body) (omega arith) (both _ _ h i r s)
    stmt_low x d n q (y.do_while {h = h} {i = i} {o = o} {x = e} {y = body} {a = a} {b = c} u v) t =
        let front = left (a ++ key w.While ∷ sign p.OpenParen ∷ c) (sign p.CloseParen ∷ sign p.Semicolon ∷ []) (t.1) in
        let s = stmt_low body a h o u (left a (key w.While ∷ sign p.OpenParen ∷ c) front) in
        let r = expr_low m is top b 0 e c i v (right a (key w.While ∷ sign p.OpenParen ∷ c) front).1.1 in
        let some = s.some in
        over _ _ (max h i) (source-stmt-DoWhile m body e) (omega arith) (both _ _ h i s r)
    stmt_low x e n o (y.for {h = h} {i = i} {j = j} {k = k} {x = first} {y = test} {z = step} {body = body} {a = a} {b = q} {c = c} {d = d} u v s r) t =
        let front = left (a ++ q ++ sign p.Semicolon ∷ c) (sign p.CloseParen ∷ d) (t.1.1) in
        let begin = left (a ++ q) (sign p.Semicolon ∷ c) front in
        let one = start_low first a h u (left a q begin) in
        let two = maybe_low test q i v (right a q begin) in
        let three = maybe_low step c j s (right (a ++ q) (sign p.Semicolon ∷ c) front).1 in
        let four = stmt_low body d k o r (right (a ++ q ++ sign p.Semicolon ∷ c) (sign p.CloseParen ∷ d) (t.1.1)).1 in
        let some = one.some in
        let all = max (max h i) (max j k) in
        let l1 = higher _ h all one (omega arith) in
        let l2 = higher _ i all two (omega arith) in
        let l3 = higher _ j all three (omega arith) in
        let l4 = higher _ k all four (omega arith) in
        over _ _ all (source-stmt-For m first test step body) (omega arith) (omega arith)

    block_low : (all : List Stmt) (a : List Lexeme) (h : ℕ) → IsBlock all a h → L a → At (m.node (source_body m all)) h
    block_low all d n (y.braces {h = h} {a = a} u) t = let r = stmts_low all a h u (left a (sign p.CloseBrace ∷ []) (t.1)) in over _ _ h refl r.some r.low

    stmts_low : (all : List Stmt) (a : List Lexeme) (h : ℕ) → AreStmts all a h → L a → At (source_body m all) h
    stmts_low all a h y.end t = record { some = omega arith; low = omega arith }
    stmts_low all d n (y.more {h = h} {i = i} {o = o} {x = x} {xs = xs} {a = a} {b = c} u v) t =
        let r = stmt_low x a h o u (left a c t) in
        let s = stmts_low xs c i v (right a c t) in
        let some = r.some in
        record { some = omega arith; low = both _ _ h i r s }

  -- ---- files

  body_low : (all : List Stmt) (a : List Lexeme) (h k : ℕ) → IsBlock all a h → L a → h ≤ k → source_body m all ≤ top k
  body_low all a h k u t le = let r = block_low all a h u t in let q = higher _ h k r le in let s = is.grows (source_body m all) in omega arith

  function_low : (fn : Function) (a : List Lexeme) (h k : ℕ) → IsFunction fn a h → L a → h ≤ k → source_body m fn.body ≤ top k
  function_low fn d n k (f.function {h = h} {i = i} {j = j} {body = body} {a = a} {b = c} {c = z} name u v s) t le =
      body_low body z j k s (right (a ++ l.name name ∷ sign p.OpenParen ∷ c) (sign p.CloseParen ∷ z) t).1 (omega arith)

  definition_low : (x : Definition) (a : List Lexeme) (h k : ℕ) → IsDefinition x a h → L a → h ≤ k → FunctionWithin m (top k) x
  definition_low x a h k (f.structure u) t le = tt
  definition_low x a h k (f.function {x = fn} u) t le = function_low fn a h k u t le

  definitions_low : (xs : List Definition) (a : List Lexeme) (h k : ℕ) → AreDefinitions xs a h → L a → h ≤ k → AllOf (FunctionWithin m (top k)) xs
  definitions_low xs a h k f.end t le = tt
  definitions_low zs d n k (f.more {h = h} {i = i} {x = x} {xs = xs} {a = a} {b = c} u v) t le =
      (definition_low x a h k u (left a c t) (omega arith), definitions_low xs c i k v (right a c t) (omega arith))

  datum_low : (x : Datum) (a : List Lexeme) (h k : ℕ) → IsDatum x a h → L a → h ≤ k → DatumWithin m (top k) x
  datum_low x d n k (f.datum {h = h} {i = i} {j = j} {y = init} {a = a} {b = q} {c = c} u v s) t le =
      higher _ j k (init_low init c j s (right (a ++ q) (sign p.Assign ∷ c) t).1) (omega arith)

  data_low : (xs : List Datum) (a : List Lexeme) (h k : ℕ) → AreListed IsDatum xs a h → L a → h ≤ k → AllOf (DatumWithin m (top k)) xs
  data_low xs a h k (y.last {x = x} u) t le = (datum_low x a h k u t le, tt)
  data_low zs d n k (y.more {h = h} {i = i} {x = x} {xs = xs} {a = a} {b = c} u v) t le =
      (datum_low x a h k u (left a (sign p.Comma ∷ c) t) (omega arith), data_low xs c i k v (right a (sign p.Comma ∷ c) t).1 (omega arith))

  trailed_data : (xs : List Datum) (a : List Lexeme) (h k : ℕ) → AreTrailed IsDatum xs a h → L a → h ≤ k → AllOf (DatumWithin m (top k)) xs
  trailed_data xs a h k (f.bare u) t le = data_low xs a h k u t le
  trailed_data xs d h k (f.with_comma {a = a} u) t le = data_low xs a h k u (left a (sign p.Comma ∷ []) t) le

  metadata_low : (xs : List Datum) (a : List Lexeme) (h k : ℕ) → IsMetadata xs a h → L a → h ≤ k → AllOf (DatumWithin m (top k)) xs
  metadata_low xs a h k f.none t le = tt
  metadata_low xs d n k (f.some {h = h} {a = a} u) t le = trailed_data xs a h k u (left a (sign p.CloseBracket ∷ sign p.CloseBracket ∷ []) (t.1)) (omega arith)

  abbrev BothWithin : ℕ → Param → Type 0
  BothWithin k x = ParamWithin m k x × MetadataWithin m k x

  param_low : (x : Param) (a : List Lexeme) (h k : ℕ) → IsParam x a h → L a → h ≤ k → BothWithin (top k) x
  param_low x e n k (f.param {h = h} {i = i} {j = j} {k = kk} {y = init} {zs = zs} {a = a} {b = q} {c = c} {d = d} output u v s r) t le =
      let front = left (output_word output ++ a ++ q ++ sign p.Assign ∷ c) d t in (
        higher _ j k (init_low init c j s (right (output_word output ++ a ++ q) (sign p.Assign ∷ c) front).1) (omega arith),
        metadata_low zs d kk k r (right (output_word output ++ a ++ q ++ sign p.Assign ∷ c) d t) (omega arith),
      )

  params_low : (xs : List Param) (a : List Lexeme) (h k : ℕ) → AreListed IsParam xs a h → L a → h ≤ k → AllOf (BothWithin (top k)) xs
  params_low xs a h k (y.last {x = x} u) t le = (param_low x a h k u t le, tt)
  params_low zs d n k (y.more {h = h} {i = i} {x = x} {xs = xs} {a = a} {b = c} u v) t le =
      (param_low x a h k u (left a (sign p.Comma ∷ c) t) (omega arith), params_low xs c i k v (right a (sign p.Comma ∷ c) t).1 (omega arith))

  trailed_params : (xs : List Param) (a : List Lexeme) (h k : ℕ) → AreTrailed IsParam xs a h → L a → h ≤ k → AllOf (BothWithin (top k)) xs
  trailed_params xs a h k (f.bare u) t le = params_low xs a h k u t le
  trailed_params xs d h k (f.with_comma {a = a} u) t le = params_low xs a h k u (left a (sign p.Comma ∷ []) t) le

  all_params : (xs : List Param) (a : List Lexeme) (h k : ℕ) → AreParams xs a h → L a → h ≤ k → AllOf (BothWithin (top k)) xs
  all_params xs a h k f.none t le = tt
  all_params xs a h k (f.some u) t le = trailed_params xs a h k u t le

  pub record ShaderWithin (k : ℕ) (x : Shader) : Type 0 where
    pub metadata : AllOf (DatumWithin m k) x.metadata
    pub params : AllOf (BothWithin k) x.params
    pub body : source_body m x.body ≤ k

  shader_low : (x : Shader) (a : List Lexeme) (h k : ℕ) → IsShader x a h → L a → h ≤ k → ShaderWithin (top k) x
  shader_low x d n k (f.shader {h = h} {i = i} {j = j} {metas = metas} {xs = xs} {body = body} {a = a} {b = q} {c = c} terminal kind name is_kind u v s) t le =
      let front = left (a ++ sign p.OpenParen ∷ q) (sign p.CloseParen ∷ c) (t.1.1) in
      record {
        metadata = metadata_low metas a h k u (left a (sign p.OpenParen ∷ q) front) (omega arith);
        params = all_params xs q i k v (right a (sign p.OpenParen ∷ q) front).1 (omega arith);
        body = body_low body c j k s (right (a ++ sign p.OpenParen ∷ q) (sign p.CloseParen ∷ c) (t.1.1)).1 (omega arith);
      }

  first_of : (k : ℕ) (xs : List Param) → AllOf (BothWithin k) xs → AllOf (ParamWithin m k) xs
  first_of k [] h = tt
  first_of k (x ∷ xs) h = (h.0.0, first_of k xs (h.1))

  second_of : (k : ℕ) (xs : List Param) → AllOf (BothWithin k) xs → AllOf (MetadataWithin m k) xs
  second_of k [] h = tt
  second_of k (x ∷ xs) h = (h.0.1, second_of k xs (h.1))

  pub tree_low : (x : Tree) (a : List Lexeme) (h k : ℕ) → IsTree x a h → L a → h ≤ k → SourceWithin m (top k) x × DataWithin m (top k) x
  tree_low x a h k (f.shader_alone {x = shader} u) t le =
      let s = shader_low shader a h k u t le in
      (record { functions = tt; params = first_of (top k) shader.params s.params; body = s.body }, record { shader = s.metadata; params = second_of (top k) shader.params s.params })
  tree_low x d n k (f.with_definitions {h = h} {i = i} {j = j} {d = one} {ds = ds} {x = shader} {a = a} {b = q} {c = c} u v r) t le =
      let front = left (a ++ q) c t in
      let s = shader_low shader c j k r (right (a ++ q) c t) (omega arith) in (
        record { functions = (definition_low one a h k u (left a q front) (omega arith), definitions_low ds q i k v (right a q front) (omega arith)); params = first_of (top k) shader.params s.params; body = s.body },
        record { shader = s.metadata; params = second_of (top k) shader.params s.params },
      )
