-- What is spelled as an expression is read.
use Rattle.std.proofs.Common.{◌≡◌, ℕ, zero, suc, ◌+◌, ◌-◌, ◌≤◌, ◌<◌, max, Bool, true, false, if◌then◌else◌, nat_le, List, [], ◌∷◌, ◌++◌, Option, Some, None, refl, sym, ap, ◌∙◌, arith, append_assoc}
use Rattle.std.proofs.lemmas.Bool.Decides.{nat_tests}
use Rattle.std.proofs.lemmas.Option.{none-some}
use Rattle.osl_tree.specs.declared.token.Punct.TheVariants as p
use Rattle.osl_tree.specs.declared.terminal.Keyword.TheVariants as w
use Rattle.osl_tree.specs.declared.terminal.Terminal.{Terminal}
use Rattle.osl_tree.specs.declared.terminal.Terminal.TheVariants as m
use Rattle.osl_tree.specs.Lexeme.{Lexeme}
use Rattle.osl_tree.specs.Lexeme as l
use Rattle.osl_tree.specs.declared.expr.PostfixOp.{PostfixOp}
use Rattle.osl_tree.specs.declared.expr.PostfixOp.TheVariants as postfixes
use Rattle.osl_tree.specs.declared.expr.Suffix.{Suffix}
use Rattle.osl_tree.specs.declared.expr.Suffix.TheVariants as suffixes
use Rattle.osl_tree.specs.declared.expr.BinaryOp.{BinaryOp}
use Rattle.osl_tree.specs.declared.expr.BinaryOp.TheVariants as binaries
use Rattle.osl_tree.specs.declared.expr.AssignOp.{AssignOp}
use Rattle.osl_tree.specs.declared.expr.Expr.{Expr}
use Rattle.osl_tree.specs.declared.expr.Expr.TheVariants as e
use Rattle.osl_tree.specs.Terminals.{sign, prefix_of, postfix_of, binary_of, level, assign_of}
use Rattle.osl_tree.specs.Grammar as g
use Rattle.osl_tree.specs.Grammar.{IsBase, IsExpr, IsUnary, IsPostfix, IsPrimary, AreArguments, AreExprs}
use Rattle.osl_tree.specs.Statements as s
use Rattle.osl_tree.specs.Statements.{AreListed}
use Rattle.osl_tree.specs.Parser.{same_terminal, Parser, first, of_terminal, sees, base_at, listed, name, expect}
use Rattle.osl_tree.specs.Reading.{at_least, operator, storing, is_asking, Found, suffix_of, arguments, word, parenthesised, constructed, primary, index, field, stepped, suffixed, continued, postfix_from, postfix, cast, prefixed, unary, joined, climb, chosen, binary, stored, whole, expr, name_or_paren}
use Rattle.osl_tree.proofs.Steps.{sees_terminal, expect_terminal, node_in, name_is, bound, eats, skips, takes, leaves}
use Rattle.osl_tree.proofs.Begins.{and_more, begins_expr, begins_postfix, some_token, high_primary, high_unary, high_expr, other_terminal, unlike, no_prefix, no_cast, takes_base, uncast_goes, cast_goes}
use Rattle.osl_tree.proofs.Lists.{CompleteFor, listed_complete}
use Rattle.osl_tree.proofs.Sound.{loose}

-- After a part at a lower level than this, such a terminal would go on with it.
abbrev pub binds : Terminal → ℕ
binds (m.Punct p.Assign) = 1
binds (m.Punct p.PlusAssign) = 1
binds (m.Punct p.MinusAssign) = 1
binds (m.Punct p.StarAssign) = 1
binds (m.Punct p.SlashAssign) = 1
binds (m.Punct p.ShiftLeftAssign) = 1
binds (m.Punct p.ShiftRightAssign) = 1
binds (m.Punct p.AndAssign) = 1
binds (m.Punct p.OrAssign) = 1
binds (m.Punct p.XorAssign) = 1
binds (m.Punct p.Question) = 2
binds (m.Punct p.OrOr) = 3
binds (m.Keyword w.Or) = 3
binds (m.Punct p.AndAnd) = 4
binds (m.Keyword w.And) = 4
binds (m.Punct p.Or) = 5
binds (m.Punct p.Xor) = 6
binds (m.Punct p.And) = 7
binds (m.Punct p.Equal) = 8
binds (m.Punct p.NotEqual) = 8
binds (m.Punct p.Less) = 9
binds (m.Punct p.LessEqual) = 9
binds (m.Punct p.Greater) = 9
binds (m.Punct p.GreaterEqual) = 9
binds (m.Punct p.ShiftLeft) = 10
binds (m.Punct p.ShiftRight) = 10
binds (m.Punct p.Plus) = 11
binds (m.Punct p.Minus) = 11
binds (m.Punct p.Star) = 12
binds (m.Punct p.Slash) = 12
binds (m.Punct p.Percent) = 12
binds (m.Punct p.OpenParen) = 13
binds (m.Punct p.OpenBracket) = 13
binds (m.Punct p.Dot) = 13
binds (m.Punct p.Increment) = 13
binds (m.Punct p.Decrement) = 13
binds (m.Punct _) = 0
binds (m.Keyword _) = 0

abbrev pub follows : List Lexeme → ℕ
follows [] = 0
follows (l.name bytes ∷ ts) = 0
follows (l.int n ∷ ts) = 0
follows (l.float units ∷ ts) = 0
follows (l.text bytes ∷ ts) = 0
follows (l.terminal k ∷ ts) = binds k

too_loose : (k : ℕ) (op : BinaryOp) → level op < k → at_least k (Some op) ≡ None
too_loose k op less = let e : nat_le k (level op) ≡ false = grind (arith, nat_tests) in rw e refl

tight : (k : ℕ) (op : BinaryOp) → k ≤ level op → at_least k (Some op) ≡ Some op
tight k op le = let e : nat_le k (level op) ≡ true = grind (arith, nat_tests) in rw e refl

binds_op : (j : Terminal) (op : BinaryOp) → binary_of j ≡ Some op → binds j ≡ level op + 1
binds_op (m.Punct p.OrOr) op s = let q : binaries.Or ≡ op = grind arith in ap (λ o. level o + 1) q
binds_op (m.Keyword w.Or) op s = let q : binaries.Or ≡ op = grind arith in ap (λ o. level o + 1) q
binds_op (m.Punct p.AndAnd) op s = let q : binaries.And ≡ op = grind arith in ap (λ o. level o + 1) q
binds_op (m.Keyword w.And) op s = let q : binaries.And ≡ op = grind arith in ap (λ o. level o + 1) q
binds_op (m.Punct p.Or) op s = let q : binaries.BitOr ≡ op = grind arith in ap (λ o. level o + 1) q
binds_op (m.Punct p.Xor) op s = let q : binaries.BitXor ≡ op = grind arith in ap (λ o. level o + 1) q
binds_op (m.Punct p.And) op s = let q : binaries.BitAnd ≡ op = grind arith in ap (λ o. level o + 1) q
binds_op (m.Punct p.Equal) op s = let q : binaries.Equal ≡ op = grind arith in ap (λ o. level o + 1) q
binds_op (m.Punct p.NotEqual) op s = let q : binaries.NotEqual ≡ op = grind arith in ap (λ o. level o + 1) q
binds_op (m.Punct p.Less) op s = let q : binaries.Less ≡ op = grind arith in ap (λ o. level o + 1) q
binds_op (m.Punct p.LessEqual) op s = let q : binaries.LessEqual ≡ op = grind arith in ap (λ o. level o + 1) q
binds_op (m.Punct p.Greater) op s = let q : binaries.Greater ≡ op = grind arith in ap (λ o. level o + 1) q
binds_op (m.Punct p.GreaterEqual) op s = let q : binaries.GreaterEqual ≡ op = grind arith in ap (λ o. level o + 1) q
binds_op (m.Punct p.ShiftLeft) op s = let q : binaries.ShiftLeft ≡ op = grind arith in ap (λ o. level o + 1) q
binds_op (m.Punct p.ShiftRight) op s = let q : binaries.ShiftRight ≡ op = grind arith in ap (λ o. level o + 1) q
binds_op (m.Punct p.Plus) op s = let q : binaries.Add ≡ op = grind arith in ap (λ o. level o + 1) q
binds_op (m.Punct p.Minus) op s = let q : binaries.Subtract ≡ op = grind arith in ap (λ o. level o + 1) q
binds_op (m.Punct p.Star) op s = let q : binaries.Multiply ≡ op = grind arith in ap (λ o. level o + 1) q
binds_op (m.Punct p.Slash) op s = let q : binaries.Divide ≡ op = grind arith in ap (λ o. level o + 1) q
binds_op (m.Punct p.Percent) op s = let q : binaries.Remainder ≡ op = grind arith in ap (λ o. level o + 1) q
binds_op (m.Punct _) op s = cc
binds_op (m.Keyword _) op s = cc

quiet_terminal : (k : ℕ) (j : Terminal) → binds j ≤ k → operator k j ≡ None
quiet_terminal k j le = by (binary_of j) refl
  where
    by : (o : Option BinaryOp) → binary_of j ≡ o → at_least k o ≡ None
    by None s = refl
    by (Some op) s = too_loose k op (let b = binds_op j op s in omega arith)

quiet_operator : (k : ℕ) (ts : List Lexeme) → follows ts ≤ k → of_terminal (operator k) (first ts) ≡ None
quiet_operator k [] le = refl
quiet_operator k (l.name bytes ∷ ts) le = refl
quiet_operator k (l.int n ∷ ts) le = refl
quiet_operator k (l.float units ∷ ts) le = refl
quiet_operator k (l.text bytes ∷ ts) le = refl
quiet_operator k (l.terminal j ∷ ts) le = quiet_terminal k j le

binds_store : (j : Terminal) (op : AssignOp) → assign_of j ≡ Some op → binds j ≡ 1
binds_store (m.Punct p.Assign) op s = refl
binds_store (m.Punct p.PlusAssign) op s = refl
binds_store (m.Punct p.MinusAssign) op s = refl
binds_store (m.Punct p.StarAssign) op s = refl
binds_store (m.Punct p.SlashAssign) op s = refl
binds_store (m.Punct p.ShiftLeftAssign) op s = refl
binds_store (m.Punct p.ShiftRightAssign) op s = refl
binds_store (m.Punct p.AndAssign) op s = refl
binds_store (m.Punct p.OrAssign) op s = refl
binds_store (m.Punct p.XorAssign) op s = refl
binds_store (m.Punct _) op s = cc
binds_store (m.Keyword k) op s = cc

quiet_assign : (j : Terminal) → binds j ≤ 0 → assign_of j ≡ None
quiet_assign j le = by (assign_of j) refl
  where
    by : (o : Option AssignOp) → assign_of j ≡ o → o ≡ None
    by None s = refl
    by (Some op) s = absurd (let b = binds_store j op s in omega arith)

quiet_storing : (k : ℕ) (j : Terminal) → binds j ≤ k → storing k j ≡ None
quiet_storing (suc k) j le = refl
quiet_storing zero j le = quiet_assign j le

quiet_store : (k : ℕ) (ts : List Lexeme) → follows ts ≤ k → of_terminal (storing k) (first ts) ≡ None
quiet_store k [] le = refl
quiet_store k (l.name bytes ∷ ts) le = refl
quiet_store k (l.int n ∷ ts) le = refl
quiet_store k (l.float units ∷ ts) le = refl
quiet_store k (l.text bytes ∷ ts) le = refl
quiet_store k (l.terminal j ∷ ts) le = quiet_storing k j le

binds_suffix : (j : Terminal) (o : Suffix) → suffix_of j ≡ Some o → binds j ≡ 13
binds_suffix (m.Punct p.OpenBracket) o s = refl
binds_suffix (m.Punct p.Dot) o s = refl
binds_suffix (m.Punct p.Increment) o s = refl
binds_suffix (m.Punct p.Decrement) o s = refl
binds_suffix (m.Punct _) o s = cc
binds_suffix (m.Keyword k) o s = cc

quiet_suffix_terminal : (j : Terminal) → binds j ≤ 12 → suffix_of j ≡ None
quiet_suffix_terminal j le = by (suffix_of j) refl
  where
    by : (o : Option Suffix) → suffix_of j ≡ o → o ≡ None
    by None s = refl
    by (Some op) s = absurd (let b = binds_suffix j op s in omega arith)

quiet_suffix : (ts : List Lexeme) → follows ts ≤ 12 → of_terminal suffix_of (first ts) ≡ None
quiet_suffix [] le = refl
quiet_suffix (l.name bytes ∷ ts) le = refl
quiet_suffix (l.int n ∷ ts) le = refl
quiet_suffix (l.float units ∷ ts) le = refl
quiet_suffix (l.text bytes ∷ ts) le = refl
quiet_suffix (l.terminal j ∷ ts) le = quiet_suffix_terminal j le

pub unseen : (k : Terminal) (ts : List Lexeme) → follows ts < binds k → sees k ts ≡ false
unfolding sees
unseen k [] less = refl
unseen k (l.name bytes ∷ ts) less = refl
unseen k (l.int n ∷ ts) less = refl
unseen k (l.float units ∷ ts) less = refl
unseen k (l.text bytes ∷ ts) less = refl
unseen k (l.terminal j ∷ ts) less = other_terminal j k (λ s. absurd (omega (arith, ap binds s)))

op_no_store : (k : ℕ) (j : Terminal) (op : BinaryOp) → binary_of j ≡ Some op → 2 ≤ level op → storing k j ≡ None
op_no_store (suc k) j op s two = refl
op_no_store zero j op s two = by (assign_of j) refl
  where
    by : (o : Option AssignOp) → assign_of j ≡ o → o ≡ None
    by None t = refl
    by (Some o) t = absurd (let b = binds_store j o t in let c = binds_op j op s in omega arith)

ask_no_store : (k : ℕ) → storing k (m.Punct p.Question) ≡ None
ask_no_store zero = refl
ask_no_store (suc k) = refl

tight_enough : (op : BinaryOp) → 2 ≤ level op
tight_enough binaries.Or = omega arith
tight_enough binaries.And = omega arith
tight_enough binaries.BitOr = omega arith
tight_enough binaries.BitXor = omega arith
tight_enough binaries.BitAnd = omega arith
tight_enough binaries.Equal = omega arith
tight_enough binaries.NotEqual = omega arith
tight_enough binaries.Less = omega arith
tight_enough binaries.LessEqual = omega arith
tight_enough binaries.Greater = omega arith
tight_enough binaries.GreaterEqual = omega arith
tight_enough binaries.ShiftLeft = omega arith
tight_enough binaries.ShiftRight = omega arith
tight_enough binaries.Add = omega arith
tight_enough binaries.Subtract = omega arith
tight_enough binaries.Multiply = omega arith
tight_enough binaries.Divide = omega arith
tight_enough binaries.Remainder = omega arith

pub from_exprs : {xs : List Expr} {a : List Lexeme} {h : ℕ} → AreExprs xs a h → AreListed (IsExpr 0) xs a h
from_exprs (g.last d) = s.last d
from_exprs (g.more d d') = s.more d (from_exprs d')

abbrev pub Complete : (ℕ → Parser Found) → ℕ → Type 0
Complete inner room = (k h : ℕ) (x : Expr) (a after : List Lexeme) → k ≤ 12 → IsExpr k x a h → h ≤ room → follows after ≤ k → inner k (a ++ after) ≡ Some ((x, h), after)

-- what an expression is followed by that ends where it can
abbrev pub Stops : List Lexeme → Type 0
Stops ts = follows ts ≤ 0

begins_items : {xs : List Expr} {a : List Lexeme} {h : ℕ} (after : List Lexeme) → AreExprs xs a h → sees (m.Punct p.CloseParen) (a ++ after) ≡ false
unfolding same_terminal
begins_items after (g.last d) = unlike (m.Punct p.CloseParen) (record { no_base = refl; no_prefix = refl; no_paren = refl; no_closure = refl }) (and_more after (begins_expr d))
begins_items after (g.more d d') = unlike (m.Punct p.CloseParen) (record { no_base = refl; no_prefix = refl; no_paren = refl; no_closure = refl }) (and_more after (and_more _ (begins_expr d)))

sees_arguments : {xs : List Expr} {a : List Lexeme} {h : ℕ} (after : List Lexeme) → AreArguments xs a h → sees (m.Punct p.OpenParen) (a ++ after) ≡ true
sees_arguments after g.none = sees_terminal (m.Punct p.OpenParen) _
sees_arguments after (g.some d) = sees_terminal (m.Punct p.OpenParen) _

exprs_high : {xs : List Expr} {a : List Lexeme} {h : ℕ} → AreExprs xs a h → 0 < h
exprs_high (g.last d) = high_expr d
exprs_high (g.more d d') = omega (arith, high_expr d)

pub no_comma_at_paren : (us : List Lexeme) → sees (m.Punct p.Comma) (sign p.CloseParen ∷ us) ≡ false
unfolding sees same_terminal
no_comma_at_paren us = refl

unopened_index : (us : List Lexeme) → sees (m.Punct p.OpenParen) (sign p.OpenBracket ∷ us) ≡ false
unfolding sees same_terminal
unopened_index us = refl

unopened_field : (us : List Lexeme) → sees (m.Punct p.OpenParen) (sign p.Dot ∷ us) ≡ false
unfolding sees same_terminal
unopened_field us = refl

unopened_step : (k : Terminal) (op : PostfixOp) (us : List Lexeme) → postfix_of k ≡ Some op → sees (m.Punct p.OpenParen) (l.terminal k ∷ us) ≡ false
unfolding sees
unopened_step k op us e = other_terminal k (m.Punct p.OpenParen) (λ s. none-some op (sym (ap postfix_of s) ∙ e))

abbrev suffix_for : PostfixOp → Suffix
suffix_for postfixes.Increment = suffixes.Increment
suffix_for postfixes.Decrement = suffixes.Decrement

step_suffix : (k : Terminal) (op : PostfixOp) → postfix_of k ≡ Some op → suffix_of k ≡ Some (suffix_for op)
step_suffix (m.Punct p.Increment) op e = let q : postfixes.Increment ≡ op = grind arith in ap (λ o. Some (suffix_for o)) q
step_suffix (m.Punct p.Decrement) op e = let q : postfixes.Decrement ≡ op = grind arith in ap (λ o. Some (suffix_for o)) q
step_suffix (m.Punct _) op e = cc
step_suffix (m.Keyword k) op e = cc

module _ (inner : ℕ → Parser Found) (room : ℕ) (comp : Complete inner room) where
  part_complete : CompleteFor (IsExpr 0) room Stops (inner 0)
  part_complete h x a after d low quiet = comp 0 h x a after (omega arith) d low quiet

  exprs_complete : CompleteFor AreExprs room (λ ts. Stops ts × (sees (m.Punct p.Comma) ts ≡ false)) (listed (inner 0))
  exprs_complete h xs a after d low f =
      listed_complete (IsExpr 0) room (inner 0) Stops part_complete (λ x a h d. high_expr d) (λ x a h d. some_token (begins_expr d)) (λ ts. omega arith) h xs a after (from_exprs d) low f

  arguments_complete : {xs : List Expr} {a : List Lexeme} {h : ℕ} (after : List Lexeme) → AreArguments xs a h → h ≤ room → arguments inner room (a ++ after) ≡ Some ((xs, h), after)
  unfolding arguments
  arguments_complete after g.none low = bound _ (expect_terminal (m.Punct p.OpenParen) (sign p.CloseParen ∷ after)) (eats (m.Punct p.CloseParen) after _ _ refl)
  arguments_complete after (g.some {h} {xs} {a} d) low =
      let ts = a ++ sign p.CloseParen ∷ after in
      ap (λ us. arguments inner room (sign p.OpenParen ∷ us)) (append_assoc a (sign p.CloseParen ∷ []) after)
      ∙ bound _ (expect_terminal (m.Punct p.OpenParen) ts) (skips (m.Punct p.CloseParen) ts _ _ (begins_items (sign p.CloseParen ∷ after) d)
      (bound _ (exprs_complete h xs a (sign p.CloseParen ∷ after) d low (omega arith, no_comma_at_paren after)) (bound _ (expect_terminal (m.Punct p.CloseParen) after) refl)))

  parenthesised_complete : {x : Expr} {a : List Lexeme} {h : ℕ} (after : List Lexeme) → IsExpr 0 x a h → h ≤ room
      → parenthesised inner room (a ++ sign p.CloseParen ∷ after) ≡ Some ((e.Paren x, h + 1), after)
  unfolding parenthesised
  parenthesised_complete {x} {a} {h} after d low =
      bound _ (comp 0 h x a (sign p.CloseParen ∷ after) (omega arith) d low (omega arith))
      (bound _ (expect_terminal (m.Punct p.CloseParen) after) (bound _ (node_in room h after low) refl))

  primary_complete : {x : Expr} {a : List Lexeme} {h : ℕ} (after : List Lexeme) → IsPrimary x a h → h ≤ room + 1 → sees (m.Punct p.OpenParen) after ≡ false
      → primary inner room (a ++ after) ≡ Some ((x, h), after)
  unfolding primary name_or_paren word name expect base_at sees same_terminal
  primary_complete after (g.int n) low quiet = refl
  primary_complete after (g.float n) low quiet = refl
  primary_complete after (g.text bytes) low quiet = refl
  primary_complete after (g.name bytes) low quiet = rw quiet refl
  primary_complete after (g.call {h} {xs} {a} bytes d) low quiet =
      rw (sees_arguments after d) (bound _ (arguments_complete after d (omega arith)) (bound _ (node_in room h after (omega arith)) refl))
  primary_complete after (g.construct {h} {i} {xs} {a} {b} to d d') low quiet =
      ap (primary inner room) (append_assoc a b after)
      ∙ takes_base (b ++ after) (constructed inner room) d
      (bound _ (arguments_complete after d' (omega arith)) (bound _ (node_in room (max h i) after (omega arith)) refl))
  primary_complete after (g.paren {h} {x} {a} d) low quiet =
      ap (parenthesised inner room) (append_assoc a (sign p.CloseParen ∷ []) after) ∙ parenthesised_complete after d (omega arith)

  -- a suffix is read, and the reading goes on with what it makes
  index_complete : (x : Expr) (h : ℕ) {y : Expr} {b : List Lexeme} {i : ℕ} (after : List Lexeme) → IsExpr 0 y b i → max h i ≤ room
      → index inner room (x, h) (b ++ sign p.CloseBracket ∷ after) ≡ Some ((e.Index x y, max h i + 1), after)
  unfolding index
  index_complete x h {y} {b} {i} after d low =
      bound _ (comp 0 i y b (sign p.CloseBracket ∷ after) (omega arith) d (omega arith) (omega arith))
      (bound _ (expect_terminal (m.Punct p.CloseBracket) after) (bound _ (node_in room (max h i) after low) refl))

  field_complete : (x : Expr) (h : ℕ) (bytes : List ℕ) (after : List Lexeme) → h ≤ room → field inner room (x, h) (l.name bytes ∷ after) ≡ Some ((e.Field x bytes, h + 1), after)
  unfolding field
  field_complete x h bytes after low = bound _ (name_is bytes after) (bound _ (node_in room h after low) refl)

  step_complete : (x : Expr) (h : ℕ) (op : PostfixOp) (after : List Lexeme) → h ≤ room → suffixed inner room (x, h) (suffix_for op) after ≡ Some ((e.Postfix op x, h + 1), after)
  unfolding stepped
  step_complete x h postfixes.Increment after low = bound _ (node_in room h after low) refl
  step_complete x h postfixes.Decrement after low = bound _ (node_in room h after low) refl

  suffix_goes : (n : ℕ) (k : Terminal) (o : Suffix) (x : Found) (y : Found) (us after : List Lexeme) → suffix_of k ≡ Some o → suffixed inner room x o us ≡ Some (y, after)
      → postfix_from inner room (suc n) x (l.terminal k ∷ us) ≡ postfix_from inner room n y after
  unfolding postfix_from
  suffix_goes n k o x y us after s e = takes suffix_of k o us (continued inner room x (postfix_from inner room n)) s (bound (postfix_from inner room n) e refl)

  -- reading comes to a part, and goes on after it
  abbrev Goes : Expr → ℕ → List Lexeme → List Lexeme → Type 0
  Goes x h ts after = (n : ℕ) × (room + 1 < n + h) × (postfix inner room ts ≡ postfix_from inner room n (x, h) after)

  goes_on : (x y : Expr) (h i : ℕ) (ts all us after : List Lexeme) (k : Terminal) (o : Suffix) → all ≡ ts → Goes x h ts (l.terminal k ∷ us) → suffix_of k ≡ Some o
      → suffixed inner room (x, h) o us ≡ Some ((y, i), after) → h < i → i ≤ room + 1 → Goes y i all after
  goes_on x y h i ts all us after k o split r s e more low =
      let left = r.1 in
      let n : r.0 ≡ suc (r.0 - 1) = omega arith in
      (r.0 - 1, omega arith, ap (postfix inner room) split ∙ r.2 ∙ ap (λ j. postfix_from inner room j (x, h) (l.terminal k ∷ us)) n ∙ suffix_goes (r.0 - 1) k o (x, h) (y, i) us after s e)

  postfix_goes : {x : Expr} {a : List Lexeme} {h : ℕ} (after : List Lexeme) → IsPostfix x a h → h ≤ room + 1 → sees (m.Punct p.OpenParen) after ≡ false → Goes x h (a ++ after) after
  unfolding postfix
  postfix_goes after (g.primary d) low quiet = let high = high_primary d in (room + 1, omega arith, bound _ (primary_complete after d low quiet) refl)
  postfix_goes after (g.index {h} {i} {x} {y} {a} {b} d d') low quiet =
      let us = b ++ sign p.CloseBracket ∷ after in
      let all : ((a ++ sign p.OpenBracket ∷ b) ++ sign p.CloseBracket ∷ []) ++ after ≡ a ++ sign p.OpenBracket ∷ us = simp append_assoc in
      goes_on x (e.Index x y) h (max h i + 1) (a ++ sign p.OpenBracket ∷ us) _ us after (m.Punct p.OpenBracket) suffixes.Index all (postfix_goes (sign p.OpenBracket ∷ us) d (omega arith) (unopened_index us)) refl
      (index_complete x h after d' (omega arith)) (omega arith) low
  postfix_goes after (g.field {h} {x} {a} bytes d) low quiet =
      let us = l.name bytes ∷ after in
      goes_on x (e.Field x bytes) h (h + 1) (a ++ sign p.Dot ∷ us) _ us after (m.Punct p.Dot) suffixes.Field (append_assoc a (sign p.Dot ∷ l.name bytes ∷ []) after) (postfix_goes (sign p.Dot ∷ us) d (omega arith) (unopened_field us)) refl
      (field_complete x h bytes after (omega arith)) (omega arith) low
  postfix_goes after (g.step {h} {x} {a} k op s d) low quiet =
      goes_on x (e.Postfix op x) h (h + 1) (a ++ l.terminal k ∷ after) _ after after k (suffix_for op) (append_assoc a (l.terminal k ∷ []) after) (postfix_goes (l.terminal k ∷ after) d (omega arith) (unopened_step k op after s)) (step_suffix k op s)
      (step_complete x h op after (omega arith)) (omega arith) low

  postfix_stops : (n : ℕ) (x : Found) (after : List Lexeme) → 0 < n → follows after ≤ 12 → postfix_from inner room n x after ≡ Some (x, after)
  unfolding postfix_from
  postfix_stops zero x after some quiet = absurd (omega arith)
  postfix_stops (suc n) x after some quiet = leaves _ after _ (continued inner room x (postfix_from inner room n)) (quiet_suffix after quiet) refl

  postfix_complete : {x : Expr} {a : List Lexeme} {h : ℕ} (after : List Lexeme) → IsPostfix x a h → h ≤ room + 1 → follows after ≤ 12
      → postfix inner room (a ++ after) ≡ Some ((x, h), after)
  postfix_complete {x} {a} {h} after d low quiet =
      let r = postfix_goes after d low (unseen (m.Punct p.OpenParen) after (omega arith)) in
      let left = r.1 in
      r.2 ∙ postfix_stops r.0 (x, h) after (omega arith) quiet

  unary_complete : {x : Expr} {a : List Lexeme} {h : ℕ} (after : List Lexeme) → IsUnary x a h → h ≤ room + 1 → follows after ≤ 12
      → unary inner room (a ++ after) ≡ Some ((x, h), after)
  unfolding unary
  unary_complete after (g.postfix {h} {x} {a} d) low quiet =
      let b = begins_postfix d in
      leaves _ (a ++ after) _ (prefixed inner room) (no_prefix (and_more after b))
      (uncast_goes (a ++ after) (cast inner room) (no_cast (and_more after b)) (postfix_complete after d low quiet))
  unary_complete after (g.prefix {h} {x} {a} k op s d) low quiet =
      takes prefix_of k op (a ++ after) (prefixed inner room) s
      (bound _ (comp 12 h x a after (omega arith) (g.unary d) (omega arith) quiet) (bound _ (node_in room h after (omega arith)) refl))
  unary_complete after (g.cast {h} {i} {x} {a} {b} to d d') low quiet =
      let us = b ++ after in
      ap (unary inner room) (let q : ((sign p.OpenParen ∷ a) ++ sign p.CloseParen ∷ b) ++ after ≡ sign p.OpenParen ∷ a ++ sign p.CloseParen ∷ us = simp append_assoc in q)
      ∙ cast_goes us (cast inner room) d
      (bound _ (comp 12 i x b after (omega arith) (g.unary d') (omega arith) quiet) (bound _ (node_in room (max h i) after (omega arith)) refl))

  -- Reading comes to x by its first unary part and then operators.
  record Chain (base j : ℕ) (x : Expr) (h : ℕ) (ts after : List Lexeme) : Type 0 where
    start : Found
    between : List Lexeme
    turns : ℕ
    reads : unary inner room ts ≡ Some (start, between)
    quiet : of_terminal (storing base) (first between) ≡ None
    left : room + 1 < turns + h
    goes : (k : ℕ) → k ≤ j → climb inner room (room + 1) k start between ≡ climb inner room turns k (x, h) after

  chain : (base : ℕ) {j h : ℕ} {x : Expr} {a : List Lexeme} (after : List Lexeme) → 2 ≤ j → IsExpr j x a h → h ≤ room + 1
      → follows after ≤ j + 1 → follows after ≤ 12 → of_terminal (storing base) (first after) ≡ None → Chain base j x h (a ++ after) after
  unfolding climb
  chain base {j} after two (g.unary {h} {x} {a} d) low quiet quiet' none =
      let high = high_unary d in
      record { start = (x, h); between = after; turns = room + 1; reads = unary_complete after d low quiet'; quiet = none; left = omega arith; goes = λ k le. refl }
  chain base {j} after two (g.binary {h} {i} {x} {y} {a} {b} k op s le d d') low quiet quiet' none =
      let ts = b ++ after in
      let is = binds_op k op s in
      let top = loose op in
      let c = chain base (l.terminal k ∷ ts) (tight_enough op) d (omega arith) (omega arith) (omega arith) (op_no_store base k op s (tight_enough op)) in
      let left = c.left in
      let n : c.turns ≡ suc (c.turns - 1) = omega arith in
      record {
        start = c.start;
        between = c.between;
        turns = c.turns - 1;
        reads = ap (unary inner room) (append_assoc a (l.terminal k ∷ b) after) ∙ c.reads;
        quiet = c.quiet;
        left = omega arith;
        goes = λ t least.
            c.goes t (omega arith) ∙ ap (λ m. climb inner room m t (x, h) (l.terminal k ∷ ts)) n
            ∙ takes (operator t) k op ts (joined inner room (x, h) (climb inner room (c.turns - 1) t)) (ap (at_least t) s ∙ tight t op (omega arith))
            (bound _ (comp (level op + 1) i y b after (omega arith) d' (omega arith) (omega arith)) (bound _ (node_in room (max h i) after (omega arith)) refl));
      }
  chain base after two (g.choice le d d' d'') low quiet quiet' none = absurd (omega arith)
  chain base after two (g.assign k op s z d d') low quiet quiet' none = absurd (omega arith)

  climb_stops : (n k : ℕ) (x : Found) (after : List Lexeme) → 0 < n → of_terminal (operator k) (first after) ≡ None → climb inner room n k x after ≡ Some (x, after)
  unfolding climb
  climb_stops zero k x after some quiet = absurd (omega arith)
  climb_stops (suc n) k x after some quiet = leaves _ after _ (joined inner room x (climb inner room n k)) quiet refl

  chosen_stops : (x : Found) (after : List Lexeme) → follows after ≤ 1 → chosen inner room x after ≡ Some (x, after)
  unfolding chosen
  chosen_stops x after quiet = skips (m.Punct p.Question) after _ _ (unseen (m.Punct p.Question) after (omega arith)) refl

  -- The end of a chain is the end of the expression.
  chain_ends : (k j : ℕ) (x : Expr) (h : ℕ) (ts after : List Lexeme) → max k 2 ≤ j → h ≤ room + 1 → follows after ≤ k → Chain k j x h ts after
      → whole inner room k ts ≡ Some ((x, h), after)
  unfolding whole binary
  chain_ends k j x h ts after le low quiet c =
      let left = c.left in
      bound _ c.reads (leaves _ c.between _ (stored inner room k c.start) c.quiet
      (bound _ (c.goes (max k 2) le ∙ climb_stops c.turns (max k 2) (x, h) after (omega arith) (quiet_operator (max k 2) after (omega arith)))
      (ending (is_asking k) refl)))
    where
      ending : (b : Bool) → is_asking k ≡ b → (if b then chosen inner room (x, h) else (λ us. Some ((x, h), us))) after ≡ Some ((x, h), after)
      ending true s = chosen_stops (x, h) after (let one : k ≤ 1 = grind (arith, nat_tests, s) in omega arith)
      ending false s = refl

  whole_complete : (k h : ℕ) (x : Expr) (a after : List Lexeme) → k ≤ 12 → IsExpr k x a h → h ≤ room + 1 → follows after ≤ k
      → whole inner room k (a ++ after) ≡ Some ((x, h), after)
  unfolding whole binary chosen
  whole_complete k h x a after five (g.unary d) low quiet =
      chain_ends k (max k 2) x h (a ++ after) after (omega arith) low quiet
      (chain k after (omega arith) (g.unary d) low (omega arith) (omega arith) (quiet_store k after quiet))
  whole_complete k _ _ _ after five (g.binary {h} {i} {x} {y} {a} {b} j op s le d d') low quiet =
      let two = tight_enough op in
      chain_ends k (max k 2) (e.Binary op x y) (max h i + 1) ((a ++ l.terminal j ∷ b) ++ after) after (omega arith) low quiet
      (chain k after (omega arith) (g.binary j op s (omega arith) d d') low (omega arith) (omega arith) (quiet_store k after quiet))
  whole_complete k _ _ _ after five (g.choice {h} {i} {j} {x} {y} {z} {a} {b} {c} one d d' d'') low quiet =
      let us = c ++ after in
      let ts = b ++ sign p.Colon ∷ us in
      let r = chain k (sign p.Question ∷ ts) (omega arith) d (omega arith) (omega arith) (omega arith) (ask_no_store k) in
      let left = r.left in
      let all : ((a ++ sign p.Question ∷ b) ++ sign p.Colon ∷ c) ++ after ≡ a ++ sign p.Question ∷ ts = simp append_assoc in
      let asks : is_asking k ≡ true = grind (arith, nat_tests) in
      ap (whole inner room k) all
      ∙ bound _ r.reads (leaves _ r.between _ (stored inner room k r.start) r.quiet
      (bound _ (r.goes (max k 2) (omega arith) ∙ climb_stops r.turns (max k 2) (x, h) (sign p.Question ∷ ts) (omega arith) refl)
      (rw asks (eats (m.Punct p.Question) ts _ _
      (bound _ (comp 0 i y b (sign p.Colon ∷ us) (omega arith) d' (omega arith) (omega arith))
      (bound _ (expect_terminal (m.Punct p.Colon) us) (bound _ (comp 1 j z c after (omega arith) d'' (omega arith) (omega arith))
      (bound _ (node_in room (max h (max i j)) after (omega arith)) refl))))))))
  whole_complete k _ _ _ after five (g.assign {h} {i} {x} {y} {a} {b} j op s z d d') low quiet =
      let us = b ++ after in
      let one = binds_store j op s in
      let is : storing k j ≡ Some op = ap (λ n. storing n j) z ∙ s in
      ap (whole inner room k) (append_assoc a (l.terminal j ∷ b) after)
      ∙ bound _ (unary_complete (l.terminal j ∷ us) d (omega arith) (omega arith))
      (takes (storing k) j op us (stored inner room k (x, h)) is
      (bound _ (comp 0 i y b after (omega arith) d' (omega arith) (omega arith)) (bound _ (node_in room (max h i) after (omega arith)) refl)))

-- What is spelled is read by `expr`.
pub expr_complete : (n : ℕ) → Complete (expr n) n
unfolding expr
expr_complete zero k h x a after five d low quiet = absurd (omega (arith, high_expr d))
expr_complete (suc room) k h x a after five d low quiet = whole_complete (expr room) room (expr_complete room) k h x a after five d (omega arith) quiet
