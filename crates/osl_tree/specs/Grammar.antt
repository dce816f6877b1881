-- The grammar's types and expressions. A tree is set against the tokens that it spells, and has a height: that of a token is 1, and that of a node is one more than its highest part's.
use Rattle.std.specs.Prelude.{◌≡◌, ℕ, ◌+◌, ◌≤◌, max, List, [], ◌∷◌, ◌++◌, Some, ℤ}
use Rattle.osl_tree.specs.declared.token.Punct.TheVariants as p
use Rattle.osl_tree.specs.declared.terminal.Keyword.TheVariants as w
use Rattle.osl_tree.specs.declared.terminal.Terminal.{Terminal}
use Rattle.osl_tree.specs.Lexeme.{Lexeme}
use Rattle.osl_tree.specs.Lexeme as l
use Rattle.osl_tree.specs.declared.expr.BaseType.{BaseType}
use Rattle.osl_tree.specs.declared.expr.BaseType.TheVariants as bases
use Rattle.osl_tree.specs.declared.expr.PrefixOp.{PrefixOp}
use Rattle.osl_tree.specs.declared.expr.PostfixOp.{PostfixOp}
use Rattle.osl_tree.specs.declared.expr.BinaryOp.{BinaryOp}
use Rattle.osl_tree.specs.declared.expr.AssignOp.{AssignOp}
use Rattle.osl_tree.specs.declared.expr.Expr.{Expr}
use Rattle.osl_tree.specs.declared.expr.Expr.TheVariants as e
use Rattle.osl_tree.specs.declared.stmt.TypeName.{TypeName}
use Rattle.osl_tree.specs.declared.stmt.TypeName.TheVariants as types
use Rattle.osl_tree.specs.Terminals.{sign, key, base_of, prefix_of, postfix_of, binary_of, level, assign_of}

-- a type that reserved words name
pub data IsBase : BaseType → List Lexeme → ℕ → Type 0 where
  of_one_word : (terminal : Terminal) (to : BaseType) → base_of terminal ≡ Some to → IsBase to (l.terminal terminal ∷ []) 1
  closure : IsBase bases.Closure (key w.Closure ∷ key w.Color ∷ []) 2

-- a type
pub data IsType : TypeName → List Lexeme → ℕ → Type 0 where
  base : {h : ℕ} {a : List Lexeme} (to : BaseType) → IsBase to a h → IsType (types.Base to) a h
  struct : (name : List ℕ) → IsType (types.Struct name) (l.name name ∷ []) 1

mutual
  -- At this level the tree spells the tokens, and it is so high.
  pub data IsExpr : ℕ → Expr → List Lexeme → ℕ → Type 0 where
    unary : {k h : ℕ} {x : Expr} {a : List Lexeme} → IsUnary x a h → IsExpr k x a h
    binary : {k h i : ℕ} {x y : Expr} {a b : List Lexeme} (terminal : Terminal) (op : BinaryOp)
        → binary_of terminal ≡ Some op → k ≤ level op
        → IsExpr (level op) x a h → IsExpr (level op + 1) y b i
        → IsExpr k (e.Binary op x y) (a ++ l.terminal terminal ∷ b) (max h i + 1)
    choice : {k h i j : ℕ} {x y z : Expr} {a b c : List Lexeme}
        → k ≤ 1 → IsExpr 2 x a h → IsExpr 0 y b i → IsExpr 1 z c j
        → IsExpr k (e.Choice x y z) (a ++ sign p.Question ∷ b ++ sign p.Colon ∷ c) (max h (max i j) + 1)
    assign : {k h i : ℕ} {x y : Expr} {a b : List Lexeme} (terminal : Terminal) (op : AssignOp)
        → assign_of terminal ≡ Some op → k ≡ 0
        → IsUnary x a h → IsExpr 0 y b i
        → IsExpr k (e.Assign op x y) (a ++ l.terminal terminal ∷ b) (max h i + 1)

  pub data IsUnary : Expr → List Lexeme → ℕ → Type 0 where
    postfix : {h : ℕ} {x : Expr} {a : List Lexeme} → IsPostfix x a h → IsUnary x a h
    prefix : {h : ℕ} {x : Expr} {a : List Lexeme} (terminal : Terminal) (op : PrefixOp)
        → prefix_of terminal ≡ Some op → IsUnary x a h
        → IsUnary (e.Prefix op x) (l.terminal terminal ∷ a) (h + 1)
    cast : {h i : ℕ} {x : Expr} {a b : List Lexeme} (to : BaseType)
        → IsBase to a h → IsUnary x b i
        → IsUnary (e.Cast to x) (sign p.OpenParen ∷ a ++ sign p.CloseParen ∷ b) (max h i + 1)

  pub data IsPostfix : Expr → List Lexeme → ℕ → Type 0 where
    primary : {h : ℕ} {x : Expr} {a : List Lexeme} → IsPrimary x a h → IsPostfix x a h
    index : {h i : ℕ} {x y : Expr} {a b : List Lexeme}
        → IsPostfix x a h → IsExpr 0 y b i
        → IsPostfix (e.Index x y) (a ++ sign p.OpenBracket ∷ b ++ sign p.CloseBracket ∷ []) (max h i + 1)
    field : {h : ℕ} {x : Expr} {a : List Lexeme} (name : List ℕ)
        → IsPostfix x a h
        → IsPostfix (e.Field x name) (a ++ sign p.Dot ∷ l.name name ∷ []) (h + 1)
    step : {h : ℕ} {x : Expr} {a : List Lexeme} (terminal : Terminal) (op : PostfixOp)
        → postfix_of terminal ≡ Some op → IsPostfix x a h
        → IsPostfix (e.Postfix op x) (a ++ l.terminal terminal ∷ []) (h + 1)

  pub data IsPrimary : Expr → List Lexeme → ℕ → Type 0 where
    int : (n : ℤ) → IsPrimary (e.Int n) (l.int n ∷ []) 1
    float : (units : ℤ) → IsPrimary (e.Float units) (l.float units ∷ []) 1
    text : (bytes : List ℕ) → IsPrimary (e.Text bytes) (l.text bytes ∷ []) 1
    name : (bytes : List ℕ) → IsPrimary (e.Name bytes) (l.name bytes ∷ []) 1
    call : {h : ℕ} {xs : List Expr} {a : List Lexeme} (name : List ℕ)
        → AreArguments xs a h
        → IsPrimary (e.Call name xs) (l.name name ∷ a) (h + 1)
    construct : {h i : ℕ} {xs : List Expr} {a b : List Lexeme} (to : BaseType)
        → IsBase to a h → AreArguments xs b i
        → IsPrimary (e.Construct to xs) (a ++ b) (max h i + 1)
    paren : {h : ℕ} {x : Expr} {a : List Lexeme}
        → IsExpr 0 x a h
        → IsPrimary (e.Paren x) (sign p.OpenParen ∷ a ++ sign p.CloseParen ∷ []) (h + 1)

  -- the arguments of a call or a constructor, with their parentheses
  pub data AreArguments : List Expr → List Lexeme → ℕ → Type 0 where
    none : AreArguments [] (sign p.OpenParen ∷ sign p.CloseParen ∷ []) 1
    some : {h : ℕ} {xs : List Expr} {a : List Lexeme}
        → AreExprs xs a h
        → AreArguments xs (sign p.OpenParen ∷ a ++ sign p.CloseParen ∷ []) h

  -- one or more, with commas between them
  pub data AreExprs : List Expr → List Lexeme → ℕ → Type 0 where
    last : {h : ℕ} {x : Expr} {a : List Lexeme} → IsExpr 0 x a h → AreExprs (x ∷ []) a h
    more : {h i : ℕ} {x : Expr} {xs : List Expr} {a b : List Lexeme}
        → IsExpr 0 x a h → AreExprs xs b i
        → AreExprs (x ∷ xs) (a ++ sign p.Comma ∷ b) (max h i)
