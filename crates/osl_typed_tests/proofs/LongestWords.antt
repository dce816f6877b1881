-- The longest word and the longest string: each place of each node is looked at, and metadata's strings are not.
use Rattle.std.proofs.Common.{◌≡◌, ℕ, refl, ap, sym, ◌∙◌}
use Rattle.std.specs.Prelude.{pos, List, [], ◌∷◌, codes, None, Some}
use Rattle.osl_tree.specs.declared.expr.AssignOp.TheVariants as assigned
use Rattle.osl_tree.specs.declared.expr.BaseType.TheVariants as base
use Rattle.osl_tree.specs.declared.expr.BinaryOp.TheVariants as binary
use Rattle.osl_tree.specs.declared.expr.Expr.{Expr, fold-Expr, fold-roll-Expr}
use Rattle.osl_tree.specs.declared.expr.Expr.TheOpen as x
use Rattle.osl_tree.specs.declared.expr.Expr.TheVariants as e
use Rattle.osl_tree.specs.declared.expr.PostfixOp.TheVariants as postfix
use Rattle.osl_tree.specs.declared.expr.PrefixOp.TheVariants as prefix
use Rattle.osl_tree.specs.declared.stmt.ForStart.TheVariants as from
use Rattle.osl_tree.specs.declared.stmt.Init.TheVariants as begin
use Rattle.osl_tree.specs.declared.stmt.Item.{Item}
use Rattle.osl_tree.specs.declared.stmt.Stmt.TheOpen as s
use Rattle.osl_tree.specs.declared.stmt.TypeName.TheVariants as types
use Rattle.osl_typed.specs.Longest.{Longest, none, ◌and◌, expr_step, stmt_step, in_expr, in_fields, in_datum, in_var, in_declaration}

-- so many bytes of a word and of a string
abbrev longest : ℕ → ℕ → Longest
longest word text = record { word = word; text = text }

-- a part with a longer word, one with a longer string, and one with neither
abbrev wordy : Longest
wordy = longest 7 2

abbrev texty : Longest
texty = longest 3 8

abbrev short : Longest
short = longest 1 1

-- an expression with a word of seven bytes, and one with a string of eight
abbrev a_word : Expr
a_word = e.Name (codes "seventh")

abbrev a_text : Expr
a_text = e.Text (codes "eightful")

abbrev one : Expr
one = e.Int (pos 1)

abbrev item : List ℕ → Item
item name = record { name = name; len = None }

-- ---- expressions

int : expr_step (x.Int (pos 1234567)) ≡ longest 0 0
int = refl

float : expr_step (x.Float (pos 1234567)) ≡ longest 0 0
float = refl

text : expr_step (x.Text (codes "four")) ≡ longest 0 4
text = refl

empty_text : expr_step (x.Text []) ≡ longest 0 0
empty_text = refl

name : expr_step (x.Name (codes "three")) ≡ longest 5 0
name = refl

call_name : expr_step (x.Call (codes "function") (wordy ∷ texty ∷ [])) ≡ longest 8 8
call_name = refl

call_without_arguments : expr_step (x.Call (codes "function") []) ≡ longest 8 0
call_without_arguments = refl

call_word_0 : expr_step (x.Call (codes "f") (wordy ∷ short ∷ short ∷ [])) ≡ longest 7 2
call_word_0 = refl

construct_text_0 : expr_step (x.Construct base.Color (texty ∷ short ∷ short ∷ [])) ≡ texty
construct_text_0 = refl

call_word_1 : expr_step (x.Call (codes "f") (short ∷ wordy ∷ short ∷ [])) ≡ longest 7 2
call_word_1 = refl

construct_text_1 : expr_step (x.Construct base.Color (short ∷ texty ∷ short ∷ [])) ≡ texty
construct_text_1 = refl

call_word_2 : expr_step (x.Call (codes "f") (short ∷ short ∷ wordy ∷ [])) ≡ longest 7 2
call_word_2 = refl

construct_text_2 : expr_step (x.Construct base.Color (short ∷ short ∷ texty ∷ [])) ≡ texty
construct_text_2 = refl

paren_word : expr_step (x.Paren wordy) ≡ wordy
paren_word = refl

paren_text : expr_step (x.Paren texty) ≡ texty
paren_text = refl

index_0_1 : expr_step (x.Index wordy texty) ≡ longest 7 8
index_0_1 = refl

index_1_0 : expr_step (x.Index texty wordy) ≡ longest 7 8
index_1_0 = refl

field_name : expr_step (x.Field texty (codes "component")) ≡ longest 9 8
field_name = refl

field_of : expr_step (x.Field wordy (codes "r")) ≡ wordy
field_of = refl

postfix_word : expr_step (x.Postfix postfix.Increment wordy) ≡ wordy
postfix_word = refl

postfix_text : expr_step (x.Postfix postfix.Increment texty) ≡ texty
postfix_text = refl

prefix_word : expr_step (x.Prefix prefix.Minus wordy) ≡ wordy
prefix_word = refl

prefix_text : expr_step (x.Prefix prefix.Minus texty) ≡ texty
prefix_text = refl

cast_word : expr_step (x.Cast base.Float wordy) ≡ wordy
cast_word = refl

cast_text : expr_step (x.Cast base.Float texty) ≡ texty
cast_text = refl

binary_0_1 : expr_step (x.Binary binary.Or wordy texty) ≡ longest 7 8
binary_0_1 = refl

binary_1_0 : expr_step (x.Binary binary.Or texty wordy) ≡ longest 7 8
binary_1_0 = refl

choice_0_1 : expr_step (x.Choice wordy texty short) ≡ longest 7 8
choice_0_1 = refl

choice_0_2 : expr_step (x.Choice wordy short texty) ≡ longest 7 8
choice_0_2 = refl

choice_1_0 : expr_step (x.Choice texty wordy short) ≡ longest 7 8
choice_1_0 = refl

choice_1_2 : expr_step (x.Choice short wordy texty) ≡ longest 7 8
choice_1_2 = refl

choice_2_0 : expr_step (x.Choice texty short wordy) ≡ longest 7 8
choice_2_0 = refl

choice_2_1 : expr_step (x.Choice short texty wordy) ≡ longest 7 8
choice_2_1 = refl

assign_0_1 : expr_step (x.Assign assigned.Set wordy texty) ≡ longest 7 8
assign_0_1 = refl

assign_1_0 : expr_step (x.Assign assigned.Set texty wordy) ≡ longest 7 8
assign_1_0 = refl

-- ---- statements

word_is : in_expr a_word ≡ longest 7 0
unfolding in_expr
word_is = ap (fold-Expr Longest expr_step) (sym (e.rolls-Name (codes "seventh"))) ∙ fold-roll-Expr Longest expr_step (x.Name (codes "seventh"))

text_is : in_expr a_text ≡ longest 0 8
unfolding in_expr
text_is = ap (fold-Expr Longest expr_step) (sym (e.rolls-Text (codes "eightful"))) ∙ fold-roll-Expr Longest expr_step (x.Text (codes "eightful"))

empty : stmt_step s.Empty ≡ longest 0 0
empty = refl

break_ : stmt_step s.Break ≡ longest 0 0
break_ = refl

continue_ : stmt_step s.Continue ≡ longest 0 0
continue_ = refl

return_nothing : stmt_step (s.Return None) ≡ longest 0 0
return_nothing = refl

block_word : stmt_step (s.Block (short ∷ short ∷ wordy ∷ [])) ≡ wordy
block_word = refl

block_text : stmt_step (s.Block (texty ∷ short ∷ [])) ≡ texty
block_text = refl

evaluated : stmt_step (s.Expr a_word) ≡ longest 7 0
evaluated = ap (λ m. m) word_is

returned : stmt_step (s.Return (Some a_text)) ≡ longest 0 8
returned = ap (λ m. m) text_is

if_condition : stmt_step (s.If a_word texty None) ≡ longest 7 8
if_condition = ap (λ m. m and texty and none) word_is

if_branch : stmt_step (s.If a_text wordy None) ≡ longest 7 8
if_branch = ap (λ m. m and wordy and none) text_is

if_else : stmt_step (s.If a_text short (Some wordy)) ≡ longest 7 8
if_else = ap (λ m. m and short and wordy) text_is

while_condition : stmt_step (s.While a_word texty) ≡ longest 7 8
while_condition = ap (λ m. m and texty) word_is

while_body : stmt_step (s.While a_text wordy) ≡ longest 7 8
while_body = ap (λ m. m and wordy) text_is

do_condition : stmt_step (s.DoWhile texty a_word) ≡ longest 7 8
do_condition = ap (λ m. texty and m) word_is

do_body : stmt_step (s.DoWhile wordy a_text) ≡ longest 7 8
do_body = ap (λ m. wordy and m) text_is

for_start : stmt_step (s.For (from.Expr a_word) None None texty) ≡ longest 7 8
for_start = ap (λ m. m and none and none and texty) word_is

for_condition : stmt_step (s.For from.Nothing (Some a_word) None texty) ≡ longest 7 8
for_condition = ap (λ m. none and m and none and texty) word_is

for_step : stmt_step (s.For from.Nothing None (Some a_word) texty) ≡ longest 7 8
for_step = ap (λ m. none and none and m and texty) word_is

for_step_text : stmt_step (s.For from.Nothing None (Some a_text) short) ≡ longest 1 8
for_step_text = ap (λ m. none and none and m and short) text_is

for_body : stmt_step (s.For from.Nothing (Some a_text) None wordy) ≡ longest 7 8
for_body = ap (λ m. none and m and none and wordy) text_is

for_nothing : stmt_step (s.For from.Nothing None None short) ≡ short
for_nothing = refl

for_declares : stmt_step (s.For (from.Declare (record {
  ty = types.Base base.Int;
  vars = record { item = item (codes "seventh"); init = Some (begin.Expr a_text) }
      ∷ [];
})) None None short) ≡ longest 7 8
for_declares = ap (λ m. (none and (longest 7 0 and m and none)) and none and none and short) text_is

declares : stmt_step (s.Declare (record {
  ty = types.Base base.Int;
  vars = record { item = item (codes "seventh"); init = Some (begin.Expr a_text) }
      ∷ [];
})) ≡ longest 7 8
declares = ap (λ m. none and (longest 7 0 and m and none)) text_is

-- ---- declarations

declared_type : in_declaration (record {
  ty = types.Struct (codes "structure");
  vars = record { item = item (codes "a"); init = None }
      ∷ [];
}) ≡ longest 9 0
declared_type = refl

declared_list : in_var (record {
  item = item (codes "a");
  init = Some (begin.List (a_text ∷ a_word
      ∷ []));
}) ≡ longest 7 8
declared_list = ap (λ m. longest 1 0 and (m and (in_expr a_word and none))) text_is ∙ ap (λ m. longest 1 0 and (longest 0 8 and (m and none))) word_is

fields : in_fields (record {
  ty = types.Struct (codes "abc");
  items = item (codes "a") ∷ item (codes "field")
      ∷ [];
}) ≡ longest 5 0
fields = refl

fields_type : in_fields (record { ty = types.Struct (codes "structure"); items = item (codes "a") ∷ [] }) ≡ longest 9 0
fields_type = refl

metadata : in_datum (record { ty = types.Base base.Str; item = item (codes "label"); init = begin.Expr (e.Text (codes "a long text")) }) ≡ longest 5 0
metadata = refl
