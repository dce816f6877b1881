-- What is spelled as a declaration or a statement is read.
use Rattle.std.proofs.Common.{◌≡◌, ℕ, zero, suc, ◌+◌, ◌≤◌, ◌<◌, max, Bool, true, false, List, [], ◌∷◌, ◌++◌, length, Option, Some, None, refl, sym, ap, ◌∙◌, arith, append_assoc, append-nil, length-append}
use Rattle.osl_tree.specs.declared.token.Punct.TheVariants as p
use Rattle.osl_tree.specs.declared.terminal.Keyword.TheVariants as w
use Rattle.osl_tree.specs.declared.terminal.Terminal.{Terminal}
use Rattle.osl_tree.specs.declared.terminal.Terminal.TheVariants as m
use Rattle.osl_tree.specs.Lexeme.{Lexeme}
use Rattle.osl_tree.specs.Lexeme as l
use Rattle.osl_tree.specs.declared.expr.BaseType.{BaseType}
use Rattle.osl_tree.specs.declared.expr.PrefixOp.{PrefixOp}
use Rattle.osl_tree.specs.declared.expr.Expr.{Expr}
use Rattle.osl_tree.specs.declared.stmt.TypeName.{TypeName}
use Rattle.osl_tree.specs.declared.stmt.Item.{Item}
use Rattle.osl_tree.specs.declared.stmt.Init.{Init}
use Rattle.osl_tree.specs.declared.stmt.Var.{Var}
use Rattle.osl_tree.specs.declared.stmt.Declaration.{Declaration}
use Rattle.osl_tree.specs.declared.stmt.ForStart.{ForStart}
use Rattle.osl_tree.specs.declared.stmt.Stmt.{Stmt}
use Rattle.osl_tree.specs.declared.stmt.Stmt.TheVariants as s
use Rattle.osl_tree.specs.declared.stmt.Start.TheVariants as starts
use Rattle.osl_tree.specs.Terminals.{sign, key, base_of, prefix_of}
use Rattle.osl_tree.specs.Grammar as e
use Rattle.osl_tree.specs.Grammar.{IsBase, IsType, IsExpr, AreExprs}
use Rattle.osl_tree.specs.Statements as g
use Rattle.osl_tree.specs.Statements.{AreListed, IsItem, IsInit, IsVar, IsDeclaration, IsMaybe, IsForStart, IsStmt, IsBlock, AreStmts}
use Rattle.osl_tree.specs.Parser.{same_terminal, Read, Parser, first, rest, of_terminal, is_name, sees, declares, listed}
use Rattle.osl_tree.specs.Reading.{expr}
use Rattle.osl_tree.specs.StatementReading.{Part, item, init, var, declaration, maybe, condition, for_start, start_of, stmts_from, block, ended, returned, choice, while_loop, do_loop, for_loop, plain, other, formed, form, stmt}
use Rattle.osl_tree.proofs.Steps.{expect_terminal, node_in, name_is, int_is, bound, eats, skips, leaves, sees_terminal}
use Rattle.osl_tree.proofs.Begins.{Begins, at_name, at_int, at_float, at_text, at_open, at_cast, at_type, at_closure, at_prefix, and_more, begins_expr, some_token, high_expr, base_other, NoBeginning, unlike, type_complete, undeclared, declared_by}
use Rattle.osl_tree.proofs.Lists.{CompleteFor, listed_complete}
use Rattle.osl_tree.proofs.Complete.{binds, follows, unseen, Stops, from_exprs, expr_complete}
use Rattle.osl_tree.proofs.StatementSound.{high_var, for_tokens}

-- ---- declarations

pub item_complete : CompleteFor IsItem 3 (λ ts. follows ts ≤ 12) item
unfolding item
item_complete h x _ after (g.alone bytes) low quiet = bound _ (name_is bytes after) (skips (m.Punct p.OpenBracket) after _ _ (unseen (m.Punct p.OpenBracket) after (omega arith)) refl)
item_complete h x _ after (g.array bytes n) low quiet =
    bound _ (name_is bytes (sign p.OpenBracket ∷ l.int n ∷ sign p.CloseBracket ∷ after))
    (eats (m.Punct p.OpenBracket) (l.int n ∷ sign p.CloseBracket ∷ after) _ _
    (bound _ (int_is n (sign p.CloseBracket ∷ after)) (bound _ (expect_terminal (m.Punct p.CloseBracket) after) refl)))

item_low : {x : Item} {a : List Lexeme} {h : ℕ} → IsItem x a h → h ≤ 3
item_low (g.alone bytes) = omega arith
item_low (g.array bytes n) = omega arith

-- an item of any height is read
pub reads_item : (h : ℕ) (x : Item) (a after : List Lexeme) → IsItem x a h → follows after ≤ 12 → item (a ++ after) ≡ Some ((x, h), after)
reads_item h x a after d quiet = item_complete h x a after d (item_low d) quiet

pub item_is_name : {x : Item} {a : List Lexeme} {h : ℕ} (c : List Lexeme) → IsItem x a h → is_name (first (a ++ c)) ≡ true
item_is_name c (g.alone bytes) = refl
item_is_name c (g.array bytes n) = refl

pub item_some : {x : Item} {a : List Lexeme} {h : ℕ} → IsItem x a h → 0 < length a
item_some (g.alone bytes) = omega arith
item_some (g.array bytes n) = omega arith

pub no_comma_at_brace : (us : List Lexeme) → sees (m.Punct p.Comma) (sign p.CloseBrace ∷ us) ≡ false
unfolding sees same_terminal
no_comma_at_brace us = refl

pub no_comma_at_semicolon : (us : List Lexeme) → sees (m.Punct p.Comma) (sign p.Semicolon ∷ us) ≡ false
unfolding sees same_terminal
no_comma_at_semicolon us = refl

no_brace : NoBeginning (m.Punct p.OpenBrace)
unfolding same_terminal
no_brace = record { no_base = refl; no_prefix = refl; no_paren = refl; no_closure = refl }

reads_expr : (room : ℕ) → CompleteFor (IsExpr 0) room Stops (expr room 0)
reads_expr room h x a after d low quiet = expr_complete room 0 h x a after (omega arith) d low quiet

exprs_complete : (room : ℕ) → CompleteFor AreExprs room (λ ts. Stops ts × (sees (m.Punct p.Comma) ts ≡ false)) (listed (expr room 0))
exprs_complete room h xs a after d low f =
    listed_complete (IsExpr 0) room (expr room 0) Stops (reads_expr room) (λ x a h d. high_expr d) (λ x a h d. some_token (begins_expr d)) (λ ts. omega arith) h xs a after (from_exprs d) low f

-- The parts are no higher than room.
pub init_complete : (room h : ℕ) (x : Init) (a after : List Lexeme) → IsInit x a h → h ≤ room → Stops after → init room (a ++ after) ≡ Some ((x, h), after)
unfolding init
init_complete room h x a after (g.expr {x = y} d) low quiet =
    skips (m.Punct p.OpenBrace) (a ++ after) _ _ (unlike (m.Punct p.OpenBrace) no_brace (and_more after (begins_expr d))) (bound _ (reads_expr room h y a after d low quiet) refl)
init_complete room _ x _ after (g.list {h} {xs} {a} d) low quiet =
    let us = sign p.CloseBrace ∷ after in
    ap (init room) (append_assoc (sign p.OpenBrace ∷ a) (sign p.CloseBrace ∷ []) after)
    ∙ eats (m.Punct p.OpenBrace) (a ++ us) _ _
    (bound _ (exprs_complete room h xs a us d (omega arith) (omega arith, no_comma_at_brace after))
    (bound _ (expect_terminal (m.Punct p.CloseBrace) after) (bound _ (node_in room h after (omega arith)) refl)))

pub var_complete : (room : ℕ) → CompleteFor IsVar (room + 1) Stops (var room)
unfolding var
var_complete room h x a after (g.plain {x = y} d) low quiet = bound _ (reads_item h y a after d (omega arith)) (skips (m.Punct p.Assign) after _ _ (unseen (m.Punct p.Assign) after (omega arith)) refl)
var_complete room _ _ _ after (g.set {h} {i} {x} {y} {a} {b} d d') low quiet =
    ap (var room) (append_assoc a (sign p.Assign ∷ b) after)
    ∙ bound _ (reads_item h x a (sign p.Assign ∷ b ++ after) d (omega arith))
    (eats (m.Punct p.Assign) (b ++ after) _ _
    (bound _ (init_complete room i y b after d' (omega arith) quiet) (bound _ (node_in room (max h i) after (omega arith)) refl)))

var_is_name : {x : Var} {a : List Lexeme} {h : ℕ} (c : List Lexeme) → IsVar x a h → is_name (first (a ++ c)) ≡ true
var_is_name c (g.plain d) = item_is_name c d
var_is_name c (g.set {a} {b} d d') = ap (λ us. is_name (first us)) (append_assoc a (sign p.Assign ∷ b) c) ∙ item_is_name (sign p.Assign ∷ b ++ c) d

var_some : {x : Var} {a : List Lexeme} {h : ℕ} → IsVar x a h → 0 < length a
var_some (g.plain d) = item_some d
var_some (g.set {a} {b} d d') = omega (arith, item_some d, length-append a (sign p.Assign ∷ b))

vars_are_names : {xs : List Var} {a : List Lexeme} {h : ℕ} (c : List Lexeme) → AreListed IsVar xs a h → is_name (first (a ++ c)) ≡ true
vars_are_names c (g.last d) = var_is_name c d
vars_are_names c (g.more {a} {b} d d') = ap (λ us. is_name (first us)) (append_assoc a (sign p.Comma ∷ b) c) ∙ var_is_name (sign p.Comma ∷ b ++ c) d

declaration_tokens : (a b after : List Lexeme) → (a ++ b ++ sign p.Semicolon ∷ []) ++ after ≡ a ++ (b ++ sign p.Semicolon ∷ after)
declaration_tokens a b after = simp append_assoc

pub declaration_complete : (room h : ℕ) (d : Declaration) (a after : List Lexeme) → IsDeclaration d a h → h ≤ room + 1 → declaration room (a ++ after) ≡ Some ((d, h), after)
unfolding declaration
declaration_complete room _ _ _ after (g.declare {h} {i} {to} {xs} {a} {b} d d') low =
    let us = sign p.Semicolon ∷ after in
    ap (declaration room) (declaration_tokens a b after)
    ∙ bound _ (type_complete (b ++ us) d)
    (bound _ (listed_complete IsVar (room + 1) (var room) Stops (var_complete room) (λ x a h d. high_var d) (λ x a h d. var_some d) (λ ts. omega arith) i xs b us d' (omega arith) (omega arith, no_comma_at_semicolon after))
    (bound _ (expect_terminal (m.Punct p.Semicolon) after) (bound _ (node_in room (max h i) after (omega arith)) refl)))

declares_declaration : {d : Declaration} {a : List Lexeme} {h : ℕ} (after : List Lexeme) → IsDeclaration d a h → declares (a ++ after) ≡ true
declares_declaration after (g.declare {a} {b} d d') = ap declares (declaration_tokens a b after) ∙ declared_by (b ++ sign p.Semicolon ∷ after) d (vars_are_names (sign p.Semicolon ∷ after) d')

-- ---- how statements begin

base_no_start : (k : Terminal) (to : BaseType) → base_of k ≡ Some to → start_of k ≡ None
base_no_start (m.Punct k) to q = cc
base_no_start (m.Keyword w.Break) to q = cc
base_no_start (m.Keyword w.Continue) to q = cc
base_no_start (m.Keyword w.Return) to q = cc
base_no_start (m.Keyword w.If) to q = cc
base_no_start (m.Keyword w.While) to q = cc
base_no_start (m.Keyword w.Do) to q = cc
base_no_start (m.Keyword w.For) to q = cc
base_no_start (m.Keyword _) to q = refl

prefix_no_start : (k : Terminal) (op : PrefixOp) → prefix_of k ≡ Some op → start_of k ≡ None
prefix_no_start (m.Punct p.Semicolon) op q = cc
prefix_no_start (m.Punct p.OpenBrace) op q = cc
prefix_no_start (m.Punct _) op q = refl
prefix_no_start (m.Keyword w.Not) op q = refl
prefix_no_start (m.Keyword _) op q = cc

no_start : {ts : List Lexeme} → Begins true ts → of_terminal start_of (first ts) ≡ None
no_start (at_name bytes) = refl
no_start (at_int n) = refl
no_start (at_float n) = refl
no_start (at_text bytes) = refl
no_start (at_open r) = refl
no_start at_cast = refl
no_start (at_type k to q) = base_no_start k to q
no_start at_closure = refl
no_start (at_prefix k op q) = prefix_no_start k op q

type_no_start : {to : TypeName} {a : List Lexeme} {h : ℕ} (c : List Lexeme) → IsType to a h → of_terminal start_of (first (a ++ c)) ≡ None
type_no_start c (e.base _ (e.of_one_word k to q)) = base_no_start k to q
type_no_start c (e.base _ e.closure) = refl
type_no_start c (e.struct bytes) = refl

pub type_unlike : {to : TypeName} {a : List Lexeme} {h : ℕ} (j : Terminal) (c : List Lexeme) → NoBeginning j → IsType to a h → sees j (a ++ c) ≡ false
unfolding sees
type_unlike j c n (e.base _ (e.of_one_word k to q)) = base_other k j to q n.no_base
type_unlike j c n (e.base _ e.closure) = n.no_closure
type_unlike j c n (e.struct bytes) = refl

pub type_some : {to : TypeName} {a : List Lexeme} {h : ℕ} → IsType to a h → 0 < length a
type_some (e.base _ (e.of_one_word k to q)) = omega arith
type_some (e.base _ e.closure) = omega arith
type_some (e.struct bytes) = omega arith

declaration_unlike : {d : Declaration} {a : List Lexeme} {h : ℕ} (j : Terminal) (c : List Lexeme) → NoBeginning j → IsDeclaration d a h → sees j (a ++ c) ≡ false
declaration_unlike j c n (g.declare {a} {b} d d') = ap (sees j) (declaration_tokens a b c) ∙ type_unlike j (b ++ sign p.Semicolon ∷ c) n d

no_else_terminal : NoBeginning (m.Keyword w.Else)
unfolding same_terminal
no_else_terminal = record { no_base = refl; no_prefix = refl; no_paren = refl; no_closure = refl }

no_close_terminal : NoBeginning (m.Punct p.CloseBrace)
unfolding same_terminal
no_close_terminal = record { no_base = refl; no_prefix = refl; no_paren = refl; no_closure = refl }

-- Neither an `else` nor a closing brace begins a statement.
no_else : {x : Stmt} {a : List Lexeme} {h : ℕ} {o : Bool} (after : List Lexeme) → IsStmt x a h o → sees (m.Keyword w.Else) (a ++ after) ≡ false
unfolding sees same_terminal
no_else after g.empty = refl
no_else after (g.block (g.braces d)) = refl
no_else after (g.declare d) = declaration_unlike (m.Keyword w.Else) after no_else_terminal d
no_else after (g.expr d) = unlike (m.Keyword w.Else) no_else_terminal (and_more after (and_more _ (begins_expr d)))
no_else after g.break = refl
no_else after g.continue = refl
no_else after (g.return d) = refl
no_else after (g.only_if d d') = refl
no_else after (g.if_else d d' d'') = refl
no_else after (g.while d d') = refl
no_else after (g.do_while d d') = refl
no_else after (g.for d d' d'' d3) = refl

no_close : {x : Stmt} {a : List Lexeme} {h : ℕ} {o : Bool} (after : List Lexeme) → IsStmt x a h o → sees (m.Punct p.CloseBrace) (a ++ after) ≡ false
unfolding sees same_terminal
no_close after g.empty = refl
no_close after (g.block (g.braces d)) = refl
no_close after (g.declare d) = declaration_unlike (m.Punct p.CloseBrace) after no_close_terminal d
no_close after (g.expr d) = unlike (m.Punct p.CloseBrace) no_close_terminal (and_more after (and_more _ (begins_expr d)))
no_close after g.break = refl
no_close after g.continue = refl
no_close after (g.return d) = refl
no_close after (g.only_if d d') = refl
no_close after (g.if_else d d' d'') = refl
no_close after (g.while d d') = refl
no_close after (g.do_while d d') = refl
no_close after (g.for d d' d'' d3) = refl

no_else_at_brace : (us : List Lexeme) → sees (m.Keyword w.Else) (sign p.CloseBrace ∷ us) ≡ false
unfolding sees same_terminal
no_else_at_brace us = refl

no_else_at_while : (us : List Lexeme) → sees (m.Keyword w.Else) (key w.While ∷ us) ≡ false
unfolding sees same_terminal
no_else_at_while us = refl

no_else_after : {xs : List Stmt} {a : List Lexeme} {h : ℕ} (after : List Lexeme) → AreStmts xs a h → sees (m.Keyword w.Else) (a ++ sign p.CloseBrace ∷ after) ≡ false
no_else_after after g.end = no_else_at_brace after
no_else_after after (g.more {a} {b} d d') = ap (sees (m.Keyword w.Else)) (append_assoc a b (sign p.CloseBrace ∷ after)) ∙ no_else (b ++ sign p.CloseBrace ∷ after) d

declaration_some : {d : Declaration} {a : List Lexeme} {h : ℕ} → IsDeclaration d a h → 0 < length a
declaration_some (g.declare {a} {b} d d') = omega (arith, length-append (a ++ b) (sign p.Semicolon ∷ []))

stmt_some : {x : Stmt} {a : List Lexeme} {h : ℕ} {o : Bool} → IsStmt x a h o → 0 < length a
stmt_some g.empty = omega arith
stmt_some (g.block (g.braces d)) = omega arith
stmt_some (g.declare d) = declaration_some d
stmt_some (g.expr {a} d) = omega (arith, length-append a (sign p.Semicolon ∷ []))
stmt_some g.break = omega arith
stmt_some g.continue = omega arith
stmt_some (g.return d) = omega arith
stmt_some (g.only_if d d') = omega arith
stmt_some (g.if_else d d' d'') = omega arith
stmt_some (g.while d d') = omega arith
stmt_some (g.do_while d d') = omega arith
stmt_some (g.for d d' d'' d3) = omega arith

stmt_high : {x : Stmt} {a : List Lexeme} {h : ℕ} {o : Bool} → IsStmt x a h o → 0 < h
stmt_high g.empty = omega arith
stmt_high (g.block (g.braces d)) = omega arith
stmt_high (g.declare (g.declare d d')) = omega arith
stmt_high (g.expr d) = omega arith
stmt_high g.break = omega arith
stmt_high g.continue = omega arith
stmt_high (g.return d) = omega arith
stmt_high (g.only_if d d') = omega arith
stmt_high (g.if_else d d' d'') = omega arith
stmt_high (g.while d d') = omega arith
stmt_high (g.do_while d d') = omega arith
stmt_high (g.for d d' d'' d3) = omega arith

stmts_length : {xs : List Stmt} {a : List Lexeme} {h : ℕ} → AreStmts xs a h → length xs ≤ length a
stmts_length g.end = omega arith
stmts_length (g.more {a} {b} d d') = omega (arith, stmt_some d, stmts_length d', length-append a b)

stmts_high : {xs : List Stmt} {a : List Lexeme} {h : ℕ} → AreStmts xs a h → 0 < h
stmts_high g.end = omega arith
stmts_high (g.more d d') = let k = stmts_high d' in omega arith

-- ---- parts of statements

maybe_complete : (room h : ℕ) (close : Terminal) (x : Option Expr) (a us : List Lexeme) → NoBeginning close → binds close ≤ 0 → IsMaybe x a h → h ≤ room
    → maybe room close (a ++ l.terminal close ∷ us) ≡ Some ((x, h), l.terminal close ∷ us)
unfolding maybe
maybe_complete room h close x a us n b g.nothing low = rw (sees_terminal close us) refl
maybe_complete room h close x a us n b (g.just {x = y} d) low =
    rw (unlike close n (and_more (l.terminal close ∷ us) (begins_expr d))) (bound _ (reads_expr room h y a (l.terminal close ∷ us) d low b) refl)

no_semicolon : NoBeginning (m.Punct p.Semicolon)
unfolding same_terminal
no_semicolon = record { no_base = refl; no_prefix = refl; no_paren = refl; no_closure = refl }

pub no_paren_terminal : NoBeginning (m.Punct p.CloseParen)
unfolding same_terminal
no_paren_terminal = record { no_base = refl; no_prefix = refl; no_paren = refl; no_closure = refl }

condition_complete : (room : ℕ) {x : Expr} {a : List Lexeme} {h : ℕ} (after : List Lexeme) → IsExpr 0 x a h → h ≤ room
    → condition room (sign p.OpenParen ∷ a ++ sign p.CloseParen ∷ after) ≡ Some ((x, h), after)
unfolding condition
condition_complete room {x} {a} {h} after d low =
    bound _ (expect_terminal (m.Punct p.OpenParen) (a ++ sign p.CloseParen ∷ after))
    (bound _ (reads_expr room h x a (sign p.CloseParen ∷ after) d low (omega arith)) (bound _ (expect_terminal (m.Punct p.CloseParen) after) refl))

for_start_complete : (room h : ℕ) (x : ForStart) (a after : List Lexeme) → IsForStart x a h → h ≤ room → for_start room (a ++ after) ≡ Some ((x, h), after)
unfolding for_start
for_start_complete room h x _ after g.nothing low = eats (m.Punct p.Semicolon) after _ _ refl
for_start_complete room h x a after (g.declare d) low =
    skips (m.Punct p.Semicolon) (a ++ after) _ _ (declaration_unlike (m.Punct p.Semicolon) after no_semicolon d)
    (rw (declares_declaration after d) (bound _ (declaration_complete room h _ a after d (omega arith)) refl))
for_start_complete room h x _ after (g.expr {x = y} {a} d) low =
    let us = sign p.Semicolon ∷ after in
    ap (for_start room) (append_assoc a (sign p.Semicolon ∷ []) after)
    ∙ skips (m.Punct p.Semicolon) (a ++ us) _ _ (unlike (m.Punct p.Semicolon) no_semicolon (and_more us (begins_expr d)))
    (rw (undeclared us refl d) (bound _ (reads_expr room h y a us d low (omega arith)) (bound _ (expect_terminal (m.Punct p.Semicolon) after) refl)))

-- ---- statements

-- Where an `else` would belong to a part of the statement, none follows.
abbrev pub CompleteStmt : Parser Part → ℕ → Type 0
CompleteStmt inner room = (h : ℕ) (o : Bool) (x : Stmt) (a after : List Lexeme) → IsStmt x a h o → h ≤ room → (o ≡ true → sees (m.Keyword w.Else) after ≡ false)
    → inner (a ++ after) ≡ Some ((x, h), after)

if_tokens : (a b after : List Lexeme) → ((sign p.OpenParen ∷ a) ++ sign p.CloseParen ∷ b) ++ after ≡ sign p.OpenParen ∷ a ++ sign p.CloseParen ∷ (b ++ after)
if_tokens a b after = simp append_assoc

else_tokens : (a b c after : List Lexeme) → (((sign p.OpenParen ∷ a) ++ sign p.CloseParen ∷ b) ++ key w.Else ∷ c) ++ after ≡ sign p.OpenParen ∷ a ++ sign p.CloseParen ∷ (b ++ key w.Else ∷ (c ++ after))
else_tokens a b c after = simp append_assoc

do_tokens : (a b after : List Lexeme) → (a ++ key w.While ∷ sign p.OpenParen ∷ b ++ sign p.CloseParen ∷ sign p.Semicolon ∷ []) ++ after ≡ a ++ key w.While ∷ sign p.OpenParen ∷ (b ++ sign p.CloseParen ∷ sign p.Semicolon ∷ after)
do_tokens a b after = simp append_assoc

module _ (inner : Parser Part) (room : ℕ) (comp : CompleteStmt inner room) where
  stmts_complete : (n : ℕ) {next : List Stmt} {a : List Lexeme} {h : ℕ} (xs : List Stmt) (i : ℕ) (after : List Lexeme) → 0 < i → AreStmts next a h → h ≤ room → length next < n
      → stmts_from inner room n xs i (a ++ sign p.CloseBrace ∷ after) ≡ Some ((xs ++ next, max i h), after)
  unfolding stmts_from
  stmts_complete zero xs i after some d low short = absurd (omega arith)
  stmts_complete (suc n) xs i after some g.end low short =
      eats (m.Punct p.CloseBrace) after _ _ (let peak : i ≡ max i 1 = omega arith in ap (λ k. Some ((xs, k), after)) peak ∙ ap (λ ys. Some ((ys, max i 1), after)) (sym (append-nil xs)))
  stmts_complete (suc n) xs i after some (g.more {h} {i = j} {o} {x} {xs = next} {a} {b} d d') low short =
      let ts = b ++ sign p.CloseBrace ∷ after in
      ap (stmts_from inner room (suc n) xs i) (append_assoc a b (sign p.CloseBrace ∷ after))
      ∙ skips (m.Punct p.CloseBrace) (a ++ ts) _ _ (no_close ts d)
      (bound _ (comp h o x a ts d (omega arith) (λ _. no_else_after after d'))
      (stmts_complete n (xs ++ x ∷ []) (max i h) after (omega arith) d' (omega arith) (omega arith)
      ∙ ap (λ ys. Some ((ys, max (max i h) j), after)) (append_assoc xs (x ∷ []) next)
      ∙ ap (λ k. Some ((xs ++ x ∷ next, k), after)) (let q : max (max i h) j ≡ max i (max h j) = omega arith in q)))

  -- a block after its brace
  pub block_complete : {xs : List Stmt} {a : List Lexeme} {h : ℕ} (after : List Lexeme) → AreStmts xs a h → h ≤ room → block inner room (a ++ sign p.CloseBrace ∷ after) ≡ Some ((xs, h + 1), after)
  unfolding block
  block_complete {xs} {a} {h} after d low =
      let ts = a ++ sign p.CloseBrace ∷ after in
      let long : length xs < length ts = omega (arith, stmts_length d, length-append a (sign p.CloseBrace ∷ after)) in
      let peak : max 1 h ≡ h = let k = stmts_high d in omega arith in
      bound _ (stmts_complete (length ts) [] 1 after (omega arith) d low long ∙ ap (λ k. Some ((xs, k), after)) peak) (bound _ (node_in room h after low) refl)

  expression_complete : {ts : List Lexeme} (y : Read Part) → Begins true ts → declares ts ≡ false → plain inner room ts ≡ y → form inner room ts ≡ y
  unfolding form other
  expression_complete {ts} y b n q = leaves _ ts (rest ts) (formed inner room) (no_start b) (rw n q)

  declared_complete : {d : Declaration} {a : List Lexeme} {h : ℕ} (after : List Lexeme) → IsDeclaration d a h → h ≤ room + 1 → form inner room (a ++ after) ≡ Some ((s.Declare d, h), after)
  unfolding form other
  declared_complete {d} {a} {h} after (g.declare {a = a'} {b} d1 d2) low =
      let ts = sign p.Semicolon ∷ after in
      leaves _ (a ++ after) (rest (a ++ after)) (formed inner room)
      (ap (λ us. of_terminal start_of (first us)) (declaration_tokens a' b after) ∙ type_no_start (b ++ ts) d1)
      (rw (declares_declaration after (g.declare d1 d2)) (bound _ (declaration_complete room h d a after (g.declare d1 d2) low) refl))

  form_complete : (h : ℕ) (o : Bool) (x : Stmt) (a after : List Lexeme) → IsStmt x a h o → h ≤ room + 1 → (o ≡ true → sees (m.Keyword w.Else) after ≡ false)
      → form inner room (a ++ after) ≡ Some ((x, h), after)
  unfolding form returned choice while_loop do_loop for_loop plain ended
  form_complete _ _ _ _ after g.empty low quiet = refl
  form_complete _ _ _ _ after (g.block (g.braces {h} {all} {a} d)) low quiet =
      ap (λ us. formed inner room (Some starts.Block) us) (append_assoc a (sign p.CloseBrace ∷ []) after) ∙ bound _ (block_complete after d (omega arith)) refl
  form_complete _ _ _ _ after (g.declare d) low quiet = declared_complete after d low
  form_complete _ _ _ _ after (g.expr {h} {x} {a} d) low quiet =
      let us = sign p.Semicolon ∷ after in
      ap (form inner room) (append_assoc a (sign p.Semicolon ∷ []) after)
      ∙ expression_complete _ (and_more us (begins_expr d)) (undeclared us refl d)
      (bound _ (reads_expr room h x a us d (omega arith) (omega arith)) (bound _ (expect_terminal (m.Punct p.Semicolon) after) (bound _ (node_in room h after (omega arith)) refl)))
  form_complete _ _ _ _ after g.break low quiet = bound _ (expect_terminal (m.Punct p.Semicolon) after) (bound _ (node_in room 1 after (omega arith)) refl)
  form_complete _ _ _ _ after g.continue low quiet = bound _ (expect_terminal (m.Punct p.Semicolon) after) (bound _ (node_in room 1 after (omega arith)) refl)
  form_complete _ _ _ _ after (g.return {h} {x} {a} d) low quiet =
      ap (returned inner room) (append_assoc a (sign p.Semicolon ∷ []) after)
      ∙ bound _ (maybe_complete room h (m.Punct p.Semicolon) x a after no_semicolon (omega arith) d (omega arith))
      (bound _ (expect_terminal (m.Punct p.Semicolon) after) (bound _ (node_in room h after (omega arith)) refl))
  form_complete _ _ _ _ after (g.only_if {h} {i} {o} {x} {y} {a} {b} d d') low quiet =
      ap (choice inner room) (if_tokens a b after)
      ∙ bound _ (condition_complete room (b ++ after) d (omega arith))
      (bound _ (comp i o y b after d' (omega arith) (λ _. quiet refl)) (skips (m.Keyword w.Else) after _ _ (quiet refl) (bound _ (node_in room (max h i) after (omega arith)) refl)))
  form_complete _ _ _ _ after (g.if_else {h} {i} {j} {o} {x} {y} {z} {a} {b} {c} d d' d'') low quiet =
      let us = c ++ after in
      let ts = b ++ key w.Else ∷ us in
      ap (choice inner room) (else_tokens a b c after)
      ∙ bound _ (condition_complete room ts d (omega arith))
      (bound _ (comp i false y b (key w.Else ∷ us) d' (omega arith) (λ q. cc))
      (eats (m.Keyword w.Else) us _ _ (bound _ (comp j o z c after d'' (omega arith) quiet) (bound _ (node_in room (max h (max i j)) after (omega arith)) refl))))
  form_complete _ _ _ _ after (g.while {h} {i} {o} {x} {y} {a} {b} d d') low quiet =
      ap (while_loop inner room) (if_tokens a b after)
      ∙ bound _ (condition_complete room (b ++ after) d (omega arith)) (bound _ (comp i o y b after d' (omega arith) quiet) (bound _ (node_in room (max h i) after (omega arith)) refl))
  form_complete _ _ _ _ after (g.do_while {h} {i} {o} {x} {y} {a} {b} d d') low quiet =
      let us = sign p.OpenParen ∷ (b ++ sign p.CloseParen ∷ sign p.Semicolon ∷ after) in
      ap (do_loop inner room) (do_tokens a b after)
      ∙ bound _ (comp h o y a (key w.While ∷ us) d (omega arith) (λ _. no_else_at_while us))
      (bound _ (expect_terminal (m.Keyword w.While) us)
      (bound _ (condition_complete room (sign p.Semicolon ∷ after) d' (omega arith))
      (bound _ (expect_terminal (m.Punct p.Semicolon) after) (bound _ (node_in room (max h i) after (omega arith)) refl))))
  form_complete _ _ _ _ after (g.for {h} {i} {j} {k} {o} {x} {y} {z} {body} {a} {b} {c} {d} d0 d1 d2 d3) low quiet =
      let v = d ++ after in
      let u = c ++ sign p.CloseParen ∷ v in
      let t = b ++ sign p.Semicolon ∷ u in
      ap (form inner room) (for_tokens a b c d after)
      ∙ bound _ (expect_terminal (m.Punct p.OpenParen) (a ++ t))
      (bound _ (for_start_complete room h x a t d0 (omega arith))
      (bound _ (maybe_complete room i (m.Punct p.Semicolon) y b u no_semicolon (omega arith) d1 (omega arith))
      (bound _ (expect_terminal (m.Punct p.Semicolon) u)
      (bound _ (maybe_complete room j (m.Punct p.CloseParen) z c v no_paren_terminal (omega arith) d2 (omega arith))
      (bound _ (expect_terminal (m.Punct p.CloseParen) v)
      (bound _ (comp k o body d after d3 (omega arith) quiet) (bound _ (node_in room (max (max h i) (max j k)) after (omega arith)) refl)))))))

-- What is spelled is read by `stmt`.
pub stmt_complete : (n : ℕ) → CompleteStmt (stmt n) n
unfolding stmt
stmt_complete zero h o x a after d low quiet = absurd (omega (arith, stmt_high d))
stmt_complete (suc room) h o x a after d low quiet = form_complete (stmt room) room (stmt_complete room) h o x a after d (omega arith) quiet
