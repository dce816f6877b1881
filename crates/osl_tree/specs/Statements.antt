-- The grammar's declarations and statements.
use Rattle.std.specs.Prelude.{ℕ, ◌+◌, max, List, [], ◌∷◌, ◌++◌, Bool, true, false, Option, Some, None, ℤ}
use Rattle.osl_tree.specs.declared.token.Punct.TheVariants as p
use Rattle.osl_tree.specs.declared.terminal.Keyword.TheVariants as w
use Rattle.osl_tree.specs.Lexeme.{Lexeme}
use Rattle.osl_tree.specs.Lexeme as l
use Rattle.osl_tree.specs.declared.expr.Expr.{Expr}
use Rattle.osl_tree.specs.declared.stmt.TypeName.{TypeName}
use Rattle.osl_tree.specs.declared.stmt.Item.{Item}
use Rattle.osl_tree.specs.declared.stmt.Init.{Init}
use Rattle.osl_tree.specs.declared.stmt.Init.TheVariants as inits
use Rattle.osl_tree.specs.declared.stmt.Var.{Var}
use Rattle.osl_tree.specs.declared.stmt.Declaration.{Declaration}
use Rattle.osl_tree.specs.declared.stmt.ForStart.{ForStart}
use Rattle.osl_tree.specs.declared.stmt.ForStart.TheVariants as starts
use Rattle.osl_tree.specs.declared.stmt.Stmt.{Stmt}
use Rattle.osl_tree.specs.declared.stmt.Stmt.TheVariants as s
use Rattle.osl_tree.specs.Terminals.{sign, key}
use Rattle.osl_tree.specs.Grammar.{IsType, IsExpr, AreExprs}

-- one or more, with commas between them
pub data AreListed {A : Type 0} (Is : A → List Lexeme → ℕ → Type 0) : List A → List Lexeme → ℕ → Type 0 where
  last : {h : ℕ} {x : A} {a : List Lexeme} → Is x a h → AreListed Is (x ∷ []) a h
  more : {h i : ℕ} {x : A} {xs : List A} {a b : List Lexeme}
      → Is x a h → AreListed Is xs b i
      → AreListed Is (x ∷ xs) (a ++ sign p.Comma ∷ b) (max h i)

pub data IsItem : Item → List Lexeme → ℕ → Type 0 where
  alone : (name : List ℕ) → IsItem (record { name = name; len = None }) (l.name name ∷ []) 1
  array : (name : List ℕ) (n : ℤ)
      → IsItem (record { name = name; len = Some n }) (l.name name ∷ sign p.OpenBracket ∷ l.int n ∷ sign p.CloseBracket ∷ []) 3

pub data IsInit : Init → List Lexeme → ℕ → Type 0 where
  expr : {h : ℕ} {x : Expr} {a : List Lexeme} → IsExpr 0 x a h → IsInit (inits.Expr x) a h
  list : {h : ℕ} {xs : List Expr} {a : List Lexeme}
      → AreExprs xs a h
      → IsInit (inits.List xs) (sign p.OpenBrace ∷ a ++ sign p.CloseBrace ∷ []) (h + 1)

pub data IsVar : Var → List Lexeme → ℕ → Type 0 where
  plain : {h : ℕ} {x : Item} {a : List Lexeme} → IsItem x a h → IsVar (record { item = x; init = None }) a h
  set : {h i : ℕ} {x : Item} {y : Init} {a b : List Lexeme}
      → IsItem x a h → IsInit y b i
      → IsVar (record { item = x; init = Some y }) (a ++ sign p.Assign ∷ b) (max h i + 1)

pub data IsDeclaration : Declaration → List Lexeme → ℕ → Type 0 where
  declare : {h i : ℕ} {to : TypeName} {xs : List Var} {a b : List Lexeme}
      → IsType to a h → AreListed IsVar xs b i
      → IsDeclaration (record { ty = to; vars = xs }) (a ++ b ++ sign p.Semicolon ∷ []) (max h i + 1)

-- an expression, or nothing, which is no higher than a token
pub data IsMaybe : Option Expr → List Lexeme → ℕ → Type 0 where
  nothing : IsMaybe None [] 1
  just : {h : ℕ} {x : Expr} {a : List Lexeme} → IsExpr 0 x a h → IsMaybe (Some x) a h

-- the first part of a `for`, with its semicolon
pub data IsForStart : ForStart → List Lexeme → ℕ → Type 0 where
  nothing : IsForStart starts.Nothing (sign p.Semicolon ∷ []) 1
  expr : {h : ℕ} {x : Expr} {a : List Lexeme} → IsExpr 0 x a h → IsForStart (starts.Expr x) (a ++ sign p.Semicolon ∷ []) h
  declare : {h : ℕ} {d : Declaration} {a : List Lexeme} → IsDeclaration d a h → IsForStart (starts.Declare d) a h

mutual
  -- The last index says whether an `else` that follows would belong to a part of the statement: so an `else` belongs to the nearest `if`.
  pub data IsStmt : Stmt → List Lexeme → ℕ → Bool → Type 0 where
    empty : IsStmt s.Empty (sign p.Semicolon ∷ []) 1 false
    block : {h : ℕ} {all : List Stmt} {a : List Lexeme} → IsBlock all a h → IsStmt (s.Block all) a h false
    declare : {h : ℕ} {d : Declaration} {a : List Lexeme} → IsDeclaration d a h → IsStmt (s.Declare d) a h false
    expr : {h : ℕ} {x : Expr} {a : List Lexeme} → IsExpr 0 x a h → IsStmt (s.Expr x) (a ++ sign p.Semicolon ∷ []) (h + 1) false
    break : IsStmt s.Break (key w.Break ∷ sign p.Semicolon ∷ []) 2 false
    continue : IsStmt s.Continue (key w.Continue ∷ sign p.Semicolon ∷ []) 2 false
    return : {h : ℕ} {x : Option Expr} {a : List Lexeme}
        → IsMaybe x a h
        → IsStmt (s.Return x) (key w.Return ∷ a ++ sign p.Semicolon ∷ []) (h + 1) false
    only_if : {h i : ℕ} {o : Bool} {x : Expr} {y : Stmt} {a b : List Lexeme}
        → IsExpr 0 x a h → IsStmt y b i o
        → IsStmt (s.If x y None) (key w.If ∷ sign p.OpenParen ∷ a ++ sign p.CloseParen ∷ b) (max h i + 1) true
    if_else : {h i j : ℕ} {o : Bool} {x : Expr} {y z : Stmt} {a b c : List Lexeme}
        → IsExpr 0 x a h → IsStmt y b i false → IsStmt z c j o
        → IsStmt (s.If x y (Some z)) (key w.If ∷ sign p.OpenParen ∷ a ++ sign p.CloseParen ∷ b ++ key w.Else ∷ c) (max h (max i j) + 1) o
    while : {h i : ℕ} {o : Bool} {x : Expr} {y : Stmt} {a b : List Lexeme}
        → IsExpr 0 x a h → IsStmt y b i o
        → IsStmt (s.While x y) (key w.While ∷ sign p.OpenParen ∷ a ++ sign p.CloseParen ∷ b) (max h i + 1) o
    do_while : {h i : ℕ} {o : Bool} {x : Expr} {y : Stmt} {a b : List Lexeme}
        → IsStmt y a h o → IsExpr 0 x b i
        → IsStmt (s.DoWhile y x) (key w.Do ∷ a ++ key w.While ∷ sign p.OpenParen ∷ b ++ sign p.CloseParen ∷ sign p.Semicolon ∷ []) (max h i + 1) false
    for : {h i j k : ℕ} {o : Bool} {x : ForStart} {y z : Option Expr} {body : Stmt} {a b c d : List Lexeme}
        → IsForStart x a h → IsMaybe y b i → IsMaybe z c j → IsStmt body d k o
        → IsStmt (s.For x y z body) (key w.For ∷ sign p.OpenParen ∷ a ++ b ++ sign p.Semicolon ∷ c ++ sign p.CloseParen ∷ d) (max (max h i) (max j k) + 1) o

  pub data IsBlock : List Stmt → List Lexeme → ℕ → Type 0 where
    braces : {h : ℕ} {all : List Stmt} {a : List Lexeme} → AreStmts all a h → IsBlock all (sign p.OpenBrace ∷ a ++ sign p.CloseBrace ∷ []) (h + 1)

  -- any number of statements; none is no higher than a token
  pub data AreStmts : List Stmt → List Lexeme → ℕ → Type 0 where
    end : AreStmts [] [] 1
    more : {h i : ℕ} {o : Bool} {x : Stmt} {xs : List Stmt} {a b : List Lexeme}
        → IsStmt x a h o → AreStmts xs b i
        → AreStmts (x ∷ xs) (a ++ b) (max h i)
