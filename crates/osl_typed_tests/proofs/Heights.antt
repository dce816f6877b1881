-- Heights of nodes: one more than the highest part's, wherever that part stands. In each row another part is the highest.
use Rattle.std.proofs.Common.{ℕ, refl, rules}
use Rattle.std.specs.Prelude.{pos, false, true, ◌++◌, List, [], ◌∷◌, codes, None, Some}
use Rattle.osl_tree.specs.declared.token.Punct.TheVariants as p
use Rattle.osl_tree.specs.declared.terminal.Keyword.TheVariants as w
use Rattle.osl_tree.specs.declared.terminal.Terminal.TheVariants as m
use Rattle.osl_tree.specs.declared.expr.AssignOp.TheVariants as assigned
use Rattle.osl_tree.specs.declared.expr.BaseType.TheVariants as bases
use Rattle.osl_tree.specs.declared.expr.BinaryOp.TheVariants as ops
use Rattle.osl_tree.specs.declared.expr.Expr.{Expr}
use Rattle.osl_tree.specs.declared.expr.Expr.TheVariants as e
use Rattle.osl_tree.specs.declared.stmt.ForStart.TheVariants as starts
use Rattle.osl_tree.specs.declared.stmt.Init.TheVariants as inits
use Rattle.osl_tree.specs.declared.stmt.Stmt.TheVariants as s
use Rattle.osl_tree.specs.declared.stmt.TypeName.TheVariants as types
use Rattle.osl_tree.specs.Grammar.{IsBase, IsType, IsExpr, IsUnary, IsPostfix, IsPrimary, unary, binary, choice, assign, postfix, cast, primary, index, field, int, call, construct, paren, none, some, last, more, closure, of_one_word, base}
use Rattle.osl_tree.specs.Lexeme.{Lexeme}
use Rattle.osl_tree.specs.Lexeme as l
use Rattle.osl_tree.specs.Statements as g
use Rattle.osl_tree.specs.Terminals.{sign, key}

-- ---- an int, and one in one and in two pairs of parentheses

abbrev one : Expr
one = e.Int (pos 1)

abbrev token : List Lexeme
token = l.int (pos 1) ∷ []

abbrev wrapped : List Lexeme → List Lexeme
wrapped a = sign p.OpenParen ∷ a ++ sign p.CloseParen ∷ []

low : IsPostfix one token 1
low = primary (int (pos 1))

high : IsPostfix (e.Paren (e.Paren one)) (wrapped (wrapped token)) 3
high = primary (paren (unary (postfix (primary (paren (unary (postfix low)))))))

abbrev two : Expr
two = e.Paren (e.Paren one)

abbrev tokens : List Lexeme
tokens = wrapped (wrapped token)

low_expr : {k : ℕ} → IsExpr k one token 1
low_expr = unary (postfix low)

high_expr : {k : ℕ} → IsExpr k two tokens 3
high_expr = unary (postfix high)

-- ---- types

closure_color : IsBase bases.Closure (key w.Closure ∷ key w.Color ∷ []) 2
closure_color = closure

closure_type : IsType (types.Base bases.Closure) (key w.Closure ∷ key w.Color ∷ []) 2
closure_type = base bases.Closure closure

float_type : IsType (types.Base bases.Float) (key w.Float ∷ []) 1
float_type = base bases.Float (of_one_word (m.Keyword w.Float) bases.Float refl)

-- ---- expressions

call_of_nothing : IsPrimary (e.Call (codes "f") []) (l.name (codes "f") ∷ sign p.OpenParen ∷ sign p.CloseParen ∷ []) 2
call_of_nothing = call (codes "f") none

call_first_high : IsPrimary (e.Call (codes "f") (two ∷ one ∷ [])) (l.name (codes "f") ∷ sign p.OpenParen ∷ (tokens ++ sign p.Comma ∷ token) ++ sign p.CloseParen ∷ []) 4
call_first_high = call (codes "f") (some (more high_expr (last low_expr)))

call_last_high : IsPrimary (e.Call (codes "f") (one ∷ two ∷ [])) (l.name (codes "f") ∷ sign p.OpenParen ∷ (token ++ sign p.Comma ∷ tokens) ++ sign p.CloseParen ∷ []) 4
call_last_high = call (codes "f") (some (more low_expr (last high_expr)))

construct_by_type : IsPrimary (e.Construct bases.Closure []) ((key w.Closure ∷ key w.Color ∷ []) ++ (sign p.OpenParen ∷ sign p.CloseParen ∷ [])) 3
construct_by_type = construct bases.Closure closure none

construct_by_argument : IsPrimary (e.Construct bases.Float (two ∷ [])) ((key w.Float ∷ []) ++ (sign p.OpenParen ∷ tokens ++ sign p.CloseParen ∷ [])) 4
construct_by_argument = construct bases.Float (of_one_word (m.Keyword w.Float) bases.Float refl) (some (last high_expr))

index_of_high : IsPostfix (e.Index two one) (tokens ++ sign p.OpenBracket ∷ token ++ sign p.CloseBracket ∷ []) 4
index_of_high = index high low_expr

high_index : IsPostfix (e.Index one two) (token ++ sign p.OpenBracket ∷ tokens ++ sign p.CloseBracket ∷ []) 4
high_index = index low high_expr

field_of_high : IsPostfix (e.Field two (codes "r")) (tokens ++ sign p.Dot ∷ l.name (codes "r") ∷ []) 4
field_of_high = field (codes "r") high

cast_by_type : IsUnary (e.Cast bases.Closure one) (sign p.OpenParen ∷ (key w.Closure ∷ key w.Color ∷ []) ++ sign p.CloseParen ∷ token) 3
cast_by_type = cast bases.Closure closure (postfix low)

cast_of_high : IsUnary (e.Cast bases.Float two) (sign p.OpenParen ∷ (key w.Float ∷ []) ++ sign p.CloseParen ∷ tokens) 4
cast_of_high = cast bases.Float (of_one_word (m.Keyword w.Float) bases.Float refl) (postfix high)

left_high : IsExpr 0 (e.Binary ops.Add two one) (tokens ++ l.terminal (m.Punct p.Plus) ∷ token) 4
left_high = binary (m.Punct p.Plus) ops.Add refl (search rules) high_expr low_expr

right_high : IsExpr 0 (e.Binary ops.Add one two) (token ++ l.terminal (m.Punct p.Plus) ∷ tokens) 4
right_high = binary (m.Punct p.Plus) ops.Add refl (search rules) low_expr high_expr

choice_0 : IsExpr 0 (e.Choice two one one) (tokens ++ sign p.Question ∷ token ++ sign p.Colon ∷ token) 4
choice_0 = choice (search rules) high_expr low_expr low_expr

choice_1 : IsExpr 0 (e.Choice one two one) (token ++ sign p.Question ∷ tokens ++ sign p.Colon ∷ token) 4
choice_1 = choice (search rules) low_expr high_expr low_expr

choice_2 : IsExpr 0 (e.Choice one one two) (token ++ sign p.Question ∷ token ++ sign p.Colon ∷ tokens) 4
choice_2 = choice (search rules) low_expr low_expr high_expr

assigned_high : IsExpr 0 (e.Assign assigned.Set one two) (token ++ l.terminal (m.Punct p.Assign) ∷ tokens) 4
assigned_high = assign (m.Punct p.Assign) assigned.Set refl refl (postfix low) high_expr

target_high : IsExpr 0 (e.Assign assigned.Set two one) (tokens ++ l.terminal (m.Punct p.Assign) ∷ token) 4
target_high = assign (m.Punct p.Assign) assigned.Set refl refl (postfix high) low_expr

-- ---- statements

-- `1;`, and `((1));`
low_stmt : g.IsStmt (s.Expr one) (token ++ sign p.Semicolon ∷ []) 2 false
low_stmt = g.expr low_expr

high_stmt : g.IsStmt (s.Expr two) (tokens ++ sign p.Semicolon ∷ []) 4 false
high_stmt = g.expr high_expr

returned : g.IsStmt (s.Return (Some two)) (key w.Return ∷ tokens ++ sign p.Semicolon ∷ []) 4 false
returned = g.return (g.just high_expr)

return_nothing : g.IsStmt (s.Return None) (key w.Return ∷ [] ++ sign p.Semicolon ∷ []) 2 false
return_nothing = g.return g.nothing

break_height : g.IsStmt s.Break (key w.Break ∷ sign p.Semicolon ∷ []) 2 false
break_height = g.break

empty_block : g.IsStmt (s.Block []) (sign p.OpenBrace ∷ [] ++ sign p.CloseBrace ∷ []) 2 false
empty_block = g.block (g.braces g.end)

block_high : g.IsStmt (s.Block (s.Empty ∷ s.Expr two ∷ [])) (sign p.OpenBrace ∷ ((sign p.Semicolon ∷ []) ++ ((tokens ++ sign p.Semicolon ∷ []) ++ [])) ++ sign p.CloseBrace ∷ []) 5 false
block_high = g.block (g.braces (g.more g.empty (g.more high_stmt g.end)))

if_condition_high : g.IsStmt (s.If two s.Empty None) (key w.If ∷ sign p.OpenParen ∷ tokens ++ sign p.CloseParen ∷ (sign p.Semicolon ∷ [])) 4 true
if_condition_high = g.only_if high_expr g.empty

if_branch_high : g.IsStmt (s.If one (s.Expr two) None) (key w.If ∷ sign p.OpenParen ∷ token ++ sign p.CloseParen ∷ (tokens ++ sign p.Semicolon ∷ [])) 5 true
if_branch_high = g.only_if low_expr high_stmt

else_condition_high : g.IsStmt (s.If two s.Empty (Some s.Empty)) (key w.If ∷ sign p.OpenParen ∷ tokens ++ sign p.CloseParen ∷ (sign p.Semicolon ∷ []) ++ key w.Else ∷ (sign p.Semicolon ∷ [])) 4 false
else_condition_high = g.if_else high_expr g.empty g.empty

then_high : g.IsStmt (s.If one (s.Expr two) (Some s.Empty)) (key w.If ∷ sign p.OpenParen ∷ token ++ sign p.CloseParen ∷ (tokens ++ sign p.Semicolon ∷ []) ++ key w.Else ∷ (sign p.Semicolon ∷ [])) 5 false
then_high = g.if_else low_expr high_stmt g.empty

else_high : g.IsStmt (s.If one s.Empty (Some (s.Expr two))) (key w.If ∷ sign p.OpenParen ∷ token ++ sign p.CloseParen ∷ (sign p.Semicolon ∷ []) ++ key w.Else ∷ (tokens ++ sign p.Semicolon ∷ [])) 5 false
else_high = g.if_else low_expr g.empty high_stmt

while_condition_high : g.IsStmt (s.While two s.Empty) (key w.While ∷ sign p.OpenParen ∷ tokens ++ sign p.CloseParen ∷ (sign p.Semicolon ∷ [])) 4 false
while_condition_high = g.while high_expr g.empty

while_body_high : g.IsStmt (s.While one (s.Expr two)) (key w.While ∷ sign p.OpenParen ∷ token ++ sign p.CloseParen ∷ (tokens ++ sign p.Semicolon ∷ [])) 5 false
while_body_high = g.while low_expr high_stmt

do_condition_high : g.IsStmt (s.DoWhile s.Empty two) (key w.Do ∷ (sign p.Semicolon ∷ []) ++ key w.While ∷ sign p.OpenParen ∷ tokens ++ sign p.CloseParen ∷ sign p.Semicolon ∷ []) 4 false
do_condition_high = g.do_while g.empty high_expr

do_body_high : g.IsStmt (s.DoWhile (s.Expr two) one) (key w.Do ∷ (tokens ++ sign p.Semicolon ∷ []) ++ key w.While ∷ sign p.OpenParen ∷ token ++ sign p.CloseParen ∷ sign p.Semicolon ∷ []) 5 false
do_body_high = g.do_while high_stmt low_expr

for_start_high : g.IsStmt (s.For (starts.Expr two) None None s.Empty) (key w.For ∷ sign p.OpenParen ∷ (tokens ++ sign p.Semicolon ∷ []) ++ [] ++ sign p.Semicolon ∷ [] ++ sign p.CloseParen ∷ (sign p.Semicolon ∷ [])) 4 false
for_start_high = g.for (g.expr high_expr) g.nothing g.nothing g.empty

for_condition_high : g.IsStmt (s.For starts.Nothing (Some two) None s.Empty) (key w.For ∷ sign p.OpenParen ∷ (sign p.Semicolon ∷ []) ++ tokens ++ sign p.Semicolon ∷ [] ++ sign p.CloseParen ∷ (sign p.Semicolon ∷ [])) 4 false
for_condition_high = g.for g.nothing (g.just high_expr) g.nothing g.empty

for_step_high : g.IsStmt (s.For starts.Nothing None (Some two) s.Empty) (key w.For ∷ sign p.OpenParen ∷ (sign p.Semicolon ∷ []) ++ [] ++ sign p.Semicolon ∷ tokens ++ sign p.CloseParen ∷ (sign p.Semicolon ∷ [])) 4 false
for_step_high = g.for g.nothing g.nothing (g.just high_expr) g.empty

for_body_high : g.IsStmt (s.For starts.Nothing None None (s.Expr two)) (key w.For ∷ sign p.OpenParen ∷ (sign p.Semicolon ∷ []) ++ [] ++ sign p.Semicolon ∷ [] ++ sign p.CloseParen ∷ (tokens ++ sign p.Semicolon ∷ [])) 5 false
for_body_high = g.for g.nothing g.nothing g.nothing high_stmt

-- ---- declarations

array_item : g.IsItem (record { name = codes "a"; len = Some (pos 2) }) (l.name (codes "a") ∷ sign p.OpenBracket ∷ l.int (pos 2) ∷ sign p.CloseBracket ∷ []) 3
array_item = g.array (codes "a") (pos 2)

brace_list : g.IsInit (inits.List (one ∷ two ∷ [])) (sign p.OpenBrace ∷ (token ++ sign p.Comma ∷ tokens) ++ sign p.CloseBrace ∷ []) 4
brace_list = g.list (more low_expr (last high_expr))

declared_by_type : g.IsDeclaration (record { ty = types.Base bases.Closure; vars = record { item = record { name = codes "c"; len = None }; init = None } ∷ [] }) ((key w.Closure ∷ key w.Color ∷ []) ++ (l.name (codes "c") ∷ []) ++ sign p.Semicolon ∷ []) 3
declared_by_type = g.declare closure_type (g.last (g.plain (g.alone (codes "c"))))

declared_by_value : g.IsDeclaration (record { ty = types.Base bases.Float; vars = record { item = record { name = codes "x"; len = None }; init = Some (inits.Expr two) } ∷ [] }) ((key w.Float ∷ []) ++ ((l.name (codes "x") ∷ []) ++ sign p.Assign ∷ tokens) ++ sign p.Semicolon ∷ []) 5
declared_by_value = g.declare float_type (g.last (g.set (g.alone (codes "x")) (g.expr high_expr)))
