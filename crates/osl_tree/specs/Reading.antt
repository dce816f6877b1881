-- Reading expressions from the front of a list of tokens, as far as they go.
use Rattle.std.specs.Prelude.{◌+◌, ℕ, zero, suc, max, Bool, if◌then◌else◌, nat_le, List, [], Option, Some, None}
use Rattle.osl_tree.specs.declared.token.Punct.TheVariants as p
use Rattle.osl_tree.specs.declared.terminal.Terminal.{Terminal}
use Rattle.osl_tree.specs.declared.terminal.Terminal.TheVariants as m
use Rattle.osl_tree.specs.Lexeme.{Lexeme}
use Rattle.osl_tree.specs.Lexeme as l
use Rattle.osl_tree.specs.declared.expr.BaseType.{BaseType}
use Rattle.osl_tree.specs.declared.expr.PrefixOp.{PrefixOp}
use Rattle.osl_tree.specs.declared.expr.PostfixOp.{PostfixOp}
use Rattle.osl_tree.specs.declared.expr.PostfixOp.TheVariants as postfixes
use Rattle.osl_tree.specs.declared.expr.BinaryOp.{BinaryOp}
use Rattle.osl_tree.specs.declared.expr.AssignOp.{AssignOp}
use Rattle.osl_tree.specs.declared.expr.Expr.{Expr}
use Rattle.osl_tree.specs.declared.expr.Expr.TheVariants as e
use Rattle.osl_tree.specs.declared.expr.Suffix.{Suffix}
use Rattle.osl_tree.specs.declared.expr.Suffix.TheVariants as suffixes
use Rattle.osl_tree.specs.Terminals.{prefix_of, binary_of, level, assign_of}
use Rattle.osl_tree.specs.Parser.{Parser, ◌>>=◌, ◌>>◌, pure, refuse, first, rest, peek, eat, expect, asks_name, name, past, take_as, take_base, take_cast, node, listed}

-- a tree and its height
abbrev pub Found : Type 0
Found = Expr × ℕ

-- the operator of a terminal, if it binds so tightly
abbrev pub at_least : ℕ → Option BinaryOp → Option BinaryOp
at_least k None = None
at_least k (Some op) = if nat_le k (level op) then Some op else None

abbrev pub operator : ℕ → Terminal → Option BinaryOp
operator k terminal = at_least k (binary_of terminal)

-- the assignment of a terminal, at level 0 alone
abbrev pub storing : ℕ → Terminal → Option AssignOp
storing zero terminal = assign_of terminal
storing (suc k) terminal = None

-- whether `?` belongs to a part of this level
abbrev pub is_asking : ℕ → Bool
is_asking k = nat_le k 1

-- what goes on after a part
abbrev pub suffix_of : Terminal → Option Suffix
suffix_of (m.Punct p.OpenBracket) = Some suffixes.Index
suffix_of (m.Punct p.Dot) = Some suffixes.Field
suffix_of (m.Punct p.Increment) = Some suffixes.Increment
suffix_of (m.Punct p.Decrement) = Some suffixes.Decrement
suffix_of (m.Punct _) = None
suffix_of (m.Keyword _) = None

-- a number or a string is an expression
abbrev pub literal_of : Option Lexeme → Option Expr
literal_of None = None
literal_of (Some (l.name bytes)) = None
literal_of (Some (l.int n)) = Some (e.Int n)
literal_of (Some (l.float units)) = Some (e.Float units)
literal_of (Some (l.text bytes)) = Some (e.Text bytes)
literal_of (Some (l.terminal terminal)) = None

-- takes a number or a string, if one comes next
abbrev pub take_literal : Parser (Option Expr)
take_literal = λ ts. Some (literal_of (first ts), past (literal_of (first ts)) ts (rest ts))

-- Given is a parser of the parts, which are no higher than room.
module _ (inner : ℕ → Parser Found) (room : ℕ) where
  unfoldable pub arguments : Parser (List Expr × ℕ)
  arguments = do
    expect (m.Punct p.OpenParen)
    none ← eat (m.Punct p.CloseParen)
    if none then pure ([], 1) else (do
      xs ← listed (inner 0)
      expect (m.Punct p.CloseParen)
      pure xs)

  unfoldable pub word : List ℕ → Parser Found
  word bytes = do
    is_call ← peek (m.Punct p.OpenParen)
    if is_call then (do
      xs ← arguments
      h ← node room xs.1
      pure (e.Call bytes xs.0, h)) else pure (e.Name bytes, 1)

  unfoldable pub parenthesised : Parser Found
  parenthesised = do
    x ← inner 0
    expect (m.Punct p.CloseParen)
    h ← node room x.1
    pure (e.Paren x.0, h)

  unfoldable pub name_or_paren : Parser Found
  name_or_paren = do
    is_named ← asks_name
    if is_named then (do bytes ← name; word bytes) else (do expect (m.Punct p.OpenParen); parenthesised)

  abbrev pub leaf : Option Expr → Parser Found
  leaf None = name_or_paren
  leaf (Some x) = pure (x, 1)

  abbrev pub constructed : Option (BaseType × ℕ) → Parser Found
  constructed None = take_literal >>= leaf
  constructed (Some to) = do
    xs ← arguments
    h ← node room (max to.1 xs.1)
    pure (e.Construct to.0 xs.0, h)

  unfoldable pub primary : Parser Found
  primary = take_base >>= constructed

  unfoldable pub index : Found → Parser Found
  index x = do
    y ← inner 0
    expect (m.Punct p.CloseBracket)
    h ← node room (max x.1 y.1)
    pure (e.Index x.0 y.0, h)

  unfoldable pub field : Found → Parser Found
  field x = do
    bytes ← name
    h ← node room x.1
    pure (e.Field x.0 bytes, h)

  unfoldable pub stepped : PostfixOp → Found → Parser Found
  stepped op x = do
    h ← node room x.1
    pure (e.Postfix op x.0, h)

  abbrev pub suffixed : Found → Suffix → Parser Found
  suffixed x suffixes.Index = index x
  suffixed x suffixes.Field = field x
  suffixed x suffixes.Increment = stepped postfixes.Increment x
  suffixed x suffixes.Decrement = stepped postfixes.Decrement x

  -- x with its suffix, which then goes on
  abbrev pub continued : Found → (Found → Parser Found) → Option Suffix → Parser Found
  continued x go None = pure x
  continued x go (Some suffix) = suffixed x suffix >>= go

  -- Each turn makes the tree higher, so there are no more turns than levels.
  unfoldable pub postfix_from : ℕ → Found → Parser Found
  postfix_from zero x = refuse
  postfix_from (suc n) x = take_as suffix_of >>= continued x (postfix_from n)

  unfoldable pub postfix : Parser Found
  postfix = primary >>= postfix_from (room + 1)

  abbrev pub cast : Option (BaseType × ℕ) → Parser Found
  cast None = postfix
  cast (Some to) = do
    x ← inner 12
    h ← node room (max to.1 x.1)
    pure (e.Cast to.0 x.0, h)

  abbrev pub prefixed : Option PrefixOp → Parser Found
  prefixed None = take_cast >>= cast
  prefixed (Some op) = do
    x ← inner 12
    h ← node room x.1
    pure (e.Prefix op x.0, h)

  unfoldable pub unary : Parser Found
  unary = take_as prefix_of >>= prefixed

  -- x with the operator and what it joins, which then goes on
  abbrev pub joined : Found → (Found → Parser Found) → Option BinaryOp → Parser Found
  joined x go None = pure x
  joined x go (Some op) = do
    y ← inner (level op + 1)
    h ← node room (max x.1 y.1)
    go (e.Binary op x.0 y.0, h)

  unfoldable pub climb : ℕ → ℕ → Found → Parser Found
  climb zero k x = refuse
  climb (suc n) k x = take_as (operator k) >>= joined x (climb n k)

  unfoldable pub chosen : Found → Parser Found
  chosen x = do
    asks ← eat (m.Punct p.Question)
    if asks then (do
      y ← inner 0
      expect (m.Punct p.Colon)
      z ← inner 1
      h ← node room (max x.1 (max y.1 z.1))
      pure (e.Choice x.0 y.0 z.0, h)) else pure x

  unfoldable pub binary : ℕ → Found → Parser Found
  binary k x = do
    y ← climb (room + 1) (max k 2) x
    if is_asking k then chosen y else pure y

  abbrev pub stored : ℕ → Found → Option AssignOp → Parser Found
  stored k x None = binary k x
  stored k x (Some op) = do
    y ← inner 0
    h ← node room (max x.1 y.1)
    pure (e.Assign op x.0 y.0, h)

  -- a unary part first: only then is it known whether it is assigned to
  unfoldable pub whole : ℕ → Parser Found
  whole k = do
    x ← unary
    op ← take_as (storing k)
    stored k x op

-- An expression at a level, no higher than the first number.
unfoldable pub expr : ℕ → ℕ → Parser Found
expr zero k = refuse
expr (suc room) k = whole (expr room) room k
