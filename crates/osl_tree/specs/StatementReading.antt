-- Reading declarations and statements from the front of a list of tokens.
use Rattle.std.specs.Prelude.{ℕ, zero, suc, max, Bool, if◌then◌else◌, List, [], ◌∷◌, ◌++◌, length, Option, Some, None}
use Rattle.osl_tree.specs.declared.token.Punct.TheVariants as p
use Rattle.osl_tree.specs.declared.terminal.Keyword.TheVariants as w
use Rattle.osl_tree.specs.declared.terminal.Terminal.{Terminal}
use Rattle.osl_tree.specs.declared.terminal.Terminal.TheVariants as m
use Rattle.osl_tree.specs.declared.expr.Expr.{Expr}
use Rattle.osl_tree.specs.declared.stmt.Item.{Item}
use Rattle.osl_tree.specs.declared.stmt.Init.{Init}
use Rattle.osl_tree.specs.declared.stmt.Init.TheVariants as inits
use Rattle.osl_tree.specs.declared.stmt.Var.{Var}
use Rattle.osl_tree.specs.declared.stmt.Declaration.{Declaration}
use Rattle.osl_tree.specs.declared.stmt.ForStart.{ForStart}
use Rattle.osl_tree.specs.declared.stmt.ForStart.TheVariants as fors
use Rattle.osl_tree.specs.declared.stmt.Stmt.{Stmt}
use Rattle.osl_tree.specs.declared.stmt.Stmt.TheVariants as s
use Rattle.osl_tree.specs.declared.stmt.Start.{Start}
use Rattle.osl_tree.specs.declared.stmt.Start.TheVariants as starts
use Rattle.osl_tree.specs.Parser.{Parser, ◌>>=◌, ◌>>◌, pure, refuse, peek, eat, expect, name, int, take_as, type_name, declares, node, listed}
use Rattle.osl_tree.specs.Reading.{Found, expr}

-- a statement and its height
abbrev pub Part : Type 0
Part = Stmt × ℕ

unfoldable pub item : Parser (Item × ℕ)
item = do
  bytes ← name
  is_array ← eat (m.Punct p.OpenBracket)
  if is_array then (do
    n ← int
    expect (m.Punct p.CloseBracket)
    pure (record { name = bytes; len = Some n }, 3)) else pure (record { name = bytes; len = None }, 1)

-- parts are no higher than room

unfoldable pub init : ℕ → Parser (Init × ℕ)
init room = do
  is_list ← eat (m.Punct p.OpenBrace)
  if is_list then (do
    xs ← listed (expr room 0)
    expect (m.Punct p.CloseBrace)
    h ← node room xs.1
    pure (inits.List xs.0, h)) else (do x ← expr room 0; pure (inits.Expr x.0, x.1))

unfoldable pub var : ℕ → Parser (Var × ℕ)
var room = do
  x ← item
  sets ← eat (m.Punct p.Assign)
  if sets then (do
    y ← init room
    h ← node room (max x.1 y.1)
    pure (record { item = x.0; init = Some y.0 }, h)) else pure (record { item = x.0; init = None }, x.1)

unfoldable pub declaration : ℕ → Parser (Declaration × ℕ)
declaration room = do
  to ← type_name
  xs ← listed (var room)
  expect (m.Punct p.Semicolon)
  h ← node room (max to.1 xs.1)
  pure (record { ty = to.0; vars = xs.0 }, h)

-- an expression, or nothing where this terminal is
unfoldable pub maybe : ℕ → Terminal → Parser (Option Expr × ℕ)
maybe room close = do
  none ← peek close
  if none then pure (None, 1) else (do x ← expr room 0; pure (Some x.0, x.1))

unfoldable pub condition : ℕ → Parser Found
condition room = do
  expect (m.Punct p.OpenParen)
  x ← expr room 0
  expect (m.Punct p.CloseParen)
  pure x

-- whether a declaration comes next
abbrev pub asks_declares : Parser Bool
asks_declares = λ ts. Some (declares ts, ts)

unfoldable pub for_start : ℕ → Parser (ForStart × ℕ)
for_start room = do
  none ← eat (m.Punct p.Semicolon)
  if none then pure (fors.Nothing, 1) else (do
    is_declaration ← asks_declares
    if is_declaration then (do d ← declaration room; pure (fors.Declare d.0, d.1)) else (do
      x ← expr room 0
      expect (m.Punct p.Semicolon)
      pure (fors.Expr x.0, x.1)))

abbrev pub start_of : Terminal → Option Start
start_of (m.Punct p.Semicolon) = Some starts.Empty
start_of (m.Punct p.OpenBrace) = Some starts.Block
start_of (m.Keyword w.Break) = Some starts.Break
start_of (m.Keyword w.Continue) = Some starts.Continue
start_of (m.Keyword w.Return) = Some starts.Return
start_of (m.Keyword w.If) = Some starts.If
start_of (m.Keyword w.While) = Some starts.While
start_of (m.Keyword w.Do) = Some starts.Do
start_of (m.Keyword w.For) = Some starts.For
start_of (m.Punct _) = None
start_of (m.Keyword _) = None

-- Given is a parser of the statements inside, which are no higher than room.
module _ (inner : Parser Part) (room : ℕ) where
  unfoldable pub stmts_from : ℕ → List Stmt → ℕ → Parser (List Stmt × ℕ)
  stmts_from zero xs h = refuse
  stmts_from (suc n) xs h = do
    ends ← eat (m.Punct p.CloseBrace)
    if ends then pure (xs, h) else (do x ← inner; stmts_from n (xs ++ x.0 ∷ []) (max h x.1))

  -- a block after its brace
  unfoldable pub block : Parser (List Stmt × ℕ)
  block = do
    xs ← (λ ts. stmts_from (length ts) [] 1 ts)
    h ← node room xs.1
    pure (xs.0, h)

  unfoldable pub ended : Stmt → Parser Part
  ended x = do
    expect (m.Punct p.Semicolon)
    h ← node room 1
    pure (x, h)

  unfoldable pub returned : Parser Part
  returned = do
    x ← maybe room (m.Punct p.Semicolon)
    expect (m.Punct p.Semicolon)
    h ← node room x.1
    pure (s.Return x.0, h)

  unfoldable pub choice : Parser Part
  choice = do
    x ← condition room
    y ← inner
    has_else ← eat (m.Keyword w.Else)
    if has_else then (do
      z ← inner
      h ← node room (max x.1 (max y.1 z.1))
      pure (s.If x.0 y.0 (Some z.0), h)) else (do h ← node room (max x.1 y.1); pure (s.If x.0 y.0 None, h))

  unfoldable pub while_loop : Parser Part
  while_loop = do
    x ← condition room
    y ← inner
    h ← node room (max x.1 y.1)
    pure (s.While x.0 y.0, h)

  unfoldable pub do_loop : Parser Part
  do_loop = do
    y ← inner
    expect (m.Keyword w.While)
    x ← condition room
    expect (m.Punct p.Semicolon)
    h ← node room (max y.1 x.1)
    pure (s.DoWhile y.0 x.0, h)

  unfoldable pub for_loop : Parser Part
  for_loop = do
    expect (m.Punct p.OpenParen)
    x ← for_start room
    y ← maybe room (m.Punct p.Semicolon)
    expect (m.Punct p.Semicolon)
    z ← maybe room (m.Punct p.CloseParen)
    expect (m.Punct p.CloseParen)
    body ← inner
    h ← node room (max (max x.1 y.1) (max z.1 body.1))
    pure (s.For x.0 y.0 z.0 body.0, h)

  unfoldable pub plain : Parser Part
  plain = do
    x ← expr room 0
    expect (m.Punct p.Semicolon)
    h ← node room x.1
    pure (s.Expr x.0, h)

  unfoldable pub other : Parser Part
  other = do
    is_declaration ← asks_declares
    if is_declaration then (do d ← declaration room; pure (s.Declare d.0, d.1)) else plain

  abbrev pub formed : Option Start → Parser Part
  formed (Some starts.Empty) = pure (s.Empty, 1)
  formed (Some starts.Block) = (do xs ← block; pure (s.Block xs.0, xs.1))
  formed (Some starts.Break) = ended s.Break
  formed (Some starts.Continue) = ended s.Continue
  formed (Some starts.Return) = returned
  formed (Some starts.If) = choice
  formed (Some starts.While) = while_loop
  formed (Some starts.Do) = do_loop
  formed (Some starts.For) = for_loop
  formed None = other

  unfoldable pub form : Parser Part
  form = take_as start_of >>= formed

-- A statement no higher than this.
unfoldable pub stmt : ℕ → Parser Part
stmt zero = refuse
stmt (suc room) = form (stmt room) room
