-- How the tokens of an expression begin.
use Rattle.std.proofs.Common.{◌≡◌, ℕ, ◌<◌, Bool, true, false, List, [], ◌∷◌, ◌++◌, length, Option, Some, None, refl, arith, rules, sym, ap, ◌∙◌, append_assoc}
use Rattle.std.specs.Prelude.{ℤ}
use Rattle.std.proofs.lemmas.Option.{none-some}
use denote.Enum.Bare.{false_same}
use Rattle.osl_tree.specs.contracts.token.Punct as punct
use Rattle.osl_tree.specs.contracts.terminal.Keyword as word
use Rattle.osl_tree.specs.declared.token.Punct.TheVariants as p
use Rattle.osl_tree.specs.declared.terminal.Keyword.TheVariants as w
use Rattle.osl_tree.specs.declared.terminal.Terminal.{Terminal}
use Rattle.osl_tree.specs.declared.terminal.Terminal.TheVariants as m
use Rattle.osl_tree.specs.Lexeme.{Lexeme}
use Rattle.osl_tree.specs.Lexeme as l
use Rattle.osl_tree.specs.declared.expr.BaseType.{BaseType}
use Rattle.osl_tree.specs.declared.expr.PrefixOp.{PrefixOp}
use Rattle.osl_tree.specs.declared.expr.Expr.{Expr}
use Rattle.osl_tree.specs.declared.stmt.TypeName.{TypeName}
use Rattle.osl_tree.specs.Terminals.{sign, key, base_of, prefix_of}
use Rattle.osl_tree.specs.Grammar as g
use Rattle.osl_tree.specs.Grammar.{IsBase, IsType, IsExpr, IsUnary, IsPostfix, IsPrimary, AreArguments}
use Rattle.osl_tree.specs.Parser.{Read, Parser, same_terminal, first, of_terminal, is_name, sees, base_at, behind, closed, cast_of, behind_cast, named_type, type_name, declares, declares_at}
use Rattle.osl_tree.proofs.Steps.{name_is}

-- The truth value says whether an operator may begin it.
pub data Begins : Bool → List Lexeme → Type 0 where
  at_name : {b : Bool} {ts : List Lexeme} (bytes : List ℕ) → Begins b (l.name bytes ∷ ts)
  at_int : {b : Bool} {ts : List Lexeme} (n : ℤ) → Begins b (l.int n ∷ ts)
  at_float : {b : Bool} {ts : List Lexeme} (units : ℤ) → Begins b (l.float units ∷ ts)
  at_text : {b : Bool} {ts : List Lexeme} (bytes : List ℕ) → Begins b (l.text bytes ∷ ts)
  at_open : {b : Bool} {ts : List Lexeme} → Begins true ts → Begins b (sign p.OpenParen ∷ ts)
  at_cast : {ts : List Lexeme} → Begins true (sign p.OpenParen ∷ ts)
  at_type : {b : Bool} {ts : List Lexeme} (k : Terminal) (to : BaseType) → base_of k ≡ Some to → Begins b (l.terminal k ∷ sign p.OpenParen ∷ ts)
  at_closure : {b : Bool} {ts : List Lexeme} → Begins b (key w.Closure ∷ key w.Color ∷ sign p.OpenParen ∷ ts)
  at_prefix : {ts : List Lexeme} (k : Terminal) (op : PrefixOp) → prefix_of k ≡ Some op → Begins true (l.terminal k ∷ ts)

pub and_more : {b : Bool} {a : List Lexeme} (c : List Lexeme) → Begins b a → Begins b (a ++ c)
and_more c (at_name bytes) = at_name bytes
and_more c (at_int n) = at_int n
and_more c (at_float n) = at_float n
and_more c (at_text bytes) = at_text bytes
and_more c (at_open r) = at_open (and_more c r)
and_more c at_cast = at_cast
and_more c (at_type k to e) = at_type k to e
and_more c at_closure = at_closure
and_more c (at_prefix k op e) = at_prefix k op e

weaker : {b : Bool} {a : List Lexeme} → Begins b a → Begins true a
weaker (at_name bytes) = at_name bytes
weaker (at_int n) = at_int n
weaker (at_float n) = at_float n
weaker (at_text bytes) = at_text bytes
weaker (at_open r) = at_open r
weaker at_cast = at_cast
weaker (at_type k to e) = at_type k to e
weaker at_closure = at_closure
weaker (at_prefix k op e) = at_prefix k op e

before_open : {to : BaseType} {a : List Lexeme} {h : ℕ} (ts : List Lexeme) → IsBase to a h → Begins false (a ++ sign p.OpenParen ∷ ts)
before_open ts (g.of_one_word k to e) = at_type k to e
before_open ts g.closure = at_closure

at_made : {to : BaseType} {xs : List Expr} {a b : List Lexeme} {h i : ℕ} → IsBase to a h → AreArguments xs b i → Begins false (a ++ b)
at_made d g.none = before_open (sign p.CloseParen ∷ []) d
at_made d (g.some {a} d') = before_open (a ++ sign p.CloseParen ∷ []) d

mutual
  pub begins_primary : {x : Expr} {a : List Lexeme} {h : ℕ} → IsPrimary x a h → Begins false a
  begins_primary (g.int n) = at_int n
  begins_primary (g.float n) = at_float n
  begins_primary (g.text bytes) = at_text bytes
  begins_primary (g.name bytes) = at_name bytes
  begins_primary (g.call bytes d) = at_name bytes
  begins_primary (g.construct to d d') = at_made d d'
  begins_primary (g.paren d) = at_open (and_more _ (begins_expr d))

  pub begins_postfix : {x : Expr} {a : List Lexeme} {h : ℕ} → IsPostfix x a h → Begins false a
  begins_postfix (g.primary d) = begins_primary d
  begins_postfix (g.index d d') = and_more _ (and_more _ (begins_postfix d))
  begins_postfix (g.field bytes d) = and_more _ (begins_postfix d)
  begins_postfix (g.step k op e d) = and_more _ (begins_postfix d)

  pub begins_unary : {x : Expr} {a : List Lexeme} {h : ℕ} → IsUnary x a h → Begins true a
  begins_unary (g.postfix d) = weaker (begins_postfix d)
  begins_unary (g.prefix k op e d) = at_prefix k op e
  begins_unary (g.cast to d d') = at_cast

  pub begins_expr : {k h : ℕ} {x : Expr} {a : List Lexeme} → IsExpr k x a h → Begins true a
  begins_expr (g.unary d) = begins_unary d
  begins_expr (g.binary k op e le d d') = and_more _ (begins_expr d)
  begins_expr (g.choice le d d' d'') = and_more _ (and_more _ (begins_expr d))
  begins_expr (g.assign k op e z d d') = and_more _ (begins_unary d)

pub some_token : {b : Bool} {a : List Lexeme} → Begins b a → 0 < length a
some_token (at_name bytes) = omega arith
some_token (at_int n) = omega arith
some_token (at_float n) = omega arith
some_token (at_text bytes) = omega arith
some_token (at_open r) = omega arith
some_token at_cast = omega arith
some_token (at_type k to e) = omega arith
some_token at_closure = omega arith
some_token (at_prefix k op e) = omega arith

-- heights are positive

pub high_base : {to : BaseType} {a : List Lexeme} {h : ℕ} → IsBase to a h → 0 < h
high_base (g.of_one_word k to e) = omega arith
high_base g.closure = omega arith

pub high_primary : {x : Expr} {a : List Lexeme} {h : ℕ} → IsPrimary x a h → 0 < h
high_primary (g.int n) = omega arith
high_primary (g.float n) = omega arith
high_primary (g.text bytes) = omega arith
high_primary (g.name bytes) = omega arith
high_primary (g.call bytes d) = omega arith
high_primary (g.construct to d d') = omega arith
high_primary (g.paren d) = omega arith

pub high_postfix : {x : Expr} {a : List Lexeme} {h : ℕ} → IsPostfix x a h → 0 < h
high_postfix (g.primary d) = high_primary d
high_postfix (g.index d d') = omega arith
high_postfix (g.field bytes d) = omega arith
high_postfix (g.step k op e d) = omega arith

pub high_unary : {x : Expr} {a : List Lexeme} {h : ℕ} → IsUnary x a h → 0 < h
high_unary (g.postfix d) = high_postfix d
high_unary (g.prefix k op e d) = omega arith
high_unary (g.cast to d d') = omega arith

pub high_expr : {k h : ℕ} {x : Expr} {a : List Lexeme} → IsExpr k x a h → 0 < h
high_expr (g.unary d) = high_unary d
high_expr (g.binary k op e le d d') = omega arith
high_expr (g.choice le d d' d'') = omega arith
high_expr (g.assign k op e z d d') = omega arith

-- ---- what a beginning is not

pub other_terminal : (j k : Terminal) → (j ≡ k → ⊥) → same_terminal j k ≡ false
unfolding same_terminal
other_terminal (m.Punct j) (m.Punct k) h = false_same punct.the_type (search rules) j k (λ s. h (ap (λ i. m.Punct i) s))
other_terminal (m.Punct j) (m.Keyword k) h = refl
other_terminal (m.Keyword j) (m.Punct k) h = refl
other_terminal (m.Keyword j) (m.Keyword k) h = false_same word.the_type (search rules) j k (λ s. h (ap (λ i. m.Keyword i) s))

pub base_other : (k j : Terminal) (to : BaseType) → base_of k ≡ Some to → base_of j ≡ None → same_terminal k j ≡ false
base_other k j to e n = other_terminal k j (λ s. none-some to (sym n ∙ sym (ap base_of s) ∙ e))

pub prefix_other : (k j : Terminal) (op : PrefixOp) → prefix_of k ≡ Some op → prefix_of j ≡ None → same_terminal k j ≡ false
prefix_other k j op e n = other_terminal k j (λ s. none-some op (sym n ∙ sym (ap prefix_of s) ∙ e))

pub base_no_prefix : (k : Terminal) (to : BaseType) → base_of k ≡ Some to → prefix_of k ≡ None
base_no_prefix (m.Punct k) to e = cc
base_no_prefix (m.Keyword w.Not) to e = cc
base_no_prefix (m.Keyword _) to e = refl

pub prefix_no_base : (k : Terminal) (op : PrefixOp) → prefix_of k ≡ Some op → base_of k ≡ None
prefix_no_base (m.Punct k) op e = refl
prefix_no_base (m.Keyword w.Not) op e = refl
prefix_no_base (m.Keyword _) op e = cc

-- No expression begins with such a terminal.
pub record NoBeginning (j : Terminal) : Type 0 where
  pub no_base : base_of j ≡ None
  pub no_prefix : prefix_of j ≡ None
  pub no_paren : same_terminal (m.Punct p.OpenParen) j ≡ false
  pub no_closure : same_terminal (m.Keyword w.Closure) j ≡ false

pub unlike : {b : Bool} {ts : List Lexeme} (j : Terminal) → NoBeginning j → Begins b ts → sees j ts ≡ false
unfolding sees
unlike j n (at_name bytes) = refl
unlike j n (at_int i) = refl
unlike j n (at_float i) = refl
unlike j n (at_text bytes) = refl
unlike j n (at_open r) = n.no_paren
unlike j n at_cast = n.no_paren
unlike j n (at_type k to e) = base_other k j to e n.no_base
unlike j n at_closure = n.no_closure
unlike j n (at_prefix k op e) = prefix_other k j op e n.no_prefix

pub no_prefix : {ts : List Lexeme} → Begins false ts → of_terminal prefix_of (first ts) ≡ None
no_prefix (at_name bytes) = refl
no_prefix (at_int n) = refl
no_prefix (at_float n) = refl
no_prefix (at_text bytes) = refl
no_prefix (at_open r) = refl
no_prefix (at_type k to e) = base_no_prefix k to e
no_prefix at_closure = refl

-- an operator is no type
pub prefix_baseless : (k : Terminal) (op : PrefixOp) (ts : List Lexeme) → prefix_of k ≡ Some op → base_at (l.terminal k ∷ ts) ≡ None
unfolding base_at sees
prefix_baseless k op ts e = rw (prefix_no_base k op e, prefix_other k (m.Keyword w.Closure) op e refl) refl

-- no type and `)` come after the parenthesis
cast_inside : {ts : List Lexeme} → Begins true ts → closed (base_at ts) ts ≡ None
unfolding base_at sees same_terminal
cast_inside (at_name bytes) = refl
cast_inside (at_int n) = refl
cast_inside (at_float n) = refl
cast_inside (at_text bytes) = refl
cast_inside (at_open r) = refl
cast_inside at_cast = refl
cast_inside (at_type k to e) = rw e refl
cast_inside at_closure = refl
cast_inside (at_prefix {ts} k op e) = ap (λ o. closed o (l.terminal k ∷ ts)) (prefix_baseless k op ts e)

open_cast : (ts : List Lexeme) → closed (base_at ts) ts ≡ None → cast_of (sign p.OpenParen ∷ ts) ≡ None
unfolding cast_of sees same_terminal
open_cast ts e = e

closure_cast : (ts : List Lexeme) → cast_of (key w.Closure ∷ ts) ≡ None
unfolding cast_of sees same_terminal
closure_cast ts = refl

pub no_cast : {ts : List Lexeme} → Begins false ts → cast_of ts ≡ None
unfolding cast_of sees
no_cast (at_name bytes) = refl
no_cast (at_int n) = refl
no_cast (at_float n) = refl
no_cast (at_text bytes) = refl
no_cast (at_open {ts} r) = open_cast ts (cast_inside r)
no_cast (at_type k to e) = rw (base_other k (m.Punct p.OpenParen) to e refl) refl
no_cast (at_closure {ts}) = closure_cast (key w.Color ∷ sign p.OpenParen ∷ ts)

-- ---- types

pub takes_base : {B : Type 0} {to : BaseType} {a : List Lexeme} {h : ℕ} (after : List Lexeme) (go : Option (BaseType × ℕ) → Parser B) {y : Read B} → IsBase to a h
    → go (Some (to, h)) after ≡ y → go (base_at (a ++ after)) (behind (base_at (a ++ after)) (a ++ after)) ≡ y
unfolding base_at sees same_terminal
takes_base after go (g.of_one_word k to s) e = rw s e
takes_base after go g.closure e = e

cast_is : {to : BaseType} {a : List Lexeme} {h : ℕ} (after : List Lexeme) → IsBase to a h
    → cast_of (sign p.OpenParen ∷ a ++ sign p.CloseParen ∷ after) ≡ Some (to, h)
unfolding cast_of base_at sees same_terminal
cast_is after (g.of_one_word k to s) = rw s refl
cast_is after g.closure = refl

behind_cast_is : {to : BaseType} {a : List Lexeme} {h : ℕ} (after : List Lexeme) → IsBase to a h
    → behind_cast (Some (to, h)) (sign p.OpenParen ∷ a ++ sign p.CloseParen ∷ after) ≡ after
behind_cast_is after (g.of_one_word k to s) = refl
behind_cast_is after g.closure = refl

pub cast_goes : {B : Type 0} {to : BaseType} {a : List Lexeme} {h : ℕ} (after : List Lexeme) (go : Option (BaseType × ℕ) → Parser B) {y : Read B} → IsBase to a h
    → go (Some (to, h)) after ≡ y
    → go (cast_of (sign p.OpenParen ∷ a ++ sign p.CloseParen ∷ after)) (behind_cast (cast_of (sign p.OpenParen ∷ a ++ sign p.CloseParen ∷ after)) (sign p.OpenParen ∷ a ++ sign p.CloseParen ∷ after)) ≡ y
cast_goes {to} {a} {h} after go {y} d e = rw (cast_is after d) (rw (behind_cast_is after d) e)

pub uncast_goes : {B : Type 0} (ts : List Lexeme) (go : Option (BaseType × ℕ) → Parser B) {y : Read B} → cast_of ts ≡ None → go None ts ≡ y
    → go (cast_of ts) (behind_cast (cast_of ts) ts) ≡ y
uncast_goes ts go c e = rw c e

pub type_complete : {to : TypeName} {a : List Lexeme} {h : ℕ} (after : List Lexeme) → IsType to a h → type_name (a ++ after) ≡ Some ((to, h), after)
unfolding type_name base_at sees same_terminal
type_complete after (g.base to d) = takes_base after named_type d refl
type_complete after (g.struct bytes) = rw (name_is bytes after) refl

-- ---- declarations and expressions

opens : {xs : List Expr} {a : List Lexeme} {h : ℕ} (c : List Lexeme) → AreArguments xs a h → is_name (first (a ++ c)) ≡ false
opens c g.none = refl
opens c (g.some d) = refl

undeclared_primary : {x : Expr} {a : List Lexeme} {h : ℕ} (c : List Lexeme) → is_name (first c) ≡ false → IsPrimary x a h → declares (a ++ c) ≡ false
unfolding declares base_at sees same_terminal
undeclared_primary c q (g.int n) = refl
undeclared_primary c q (g.float n) = refl
undeclared_primary c q (g.text bytes) = refl
undeclared_primary c q (g.name bytes) = q
undeclared_primary c q (g.call bytes d) = opens c d
undeclared_primary c q (g.construct to (g.of_one_word k _ e) d') = rw e (opens c d')
undeclared_primary c q (g.construct to g.closure d') = opens c d'
undeclared_primary c q (g.paren d) = refl

undeclared_postfix : {x : Expr} {a : List Lexeme} {h : ℕ} (c : List Lexeme) → is_name (first c) ≡ false → IsPostfix x a h → declares (a ++ c) ≡ false
undeclared_postfix c q (g.primary d) = undeclared_primary c q d
undeclared_postfix c q (g.index {a} {b} d d') =
    let all : ((a ++ sign p.OpenBracket ∷ b) ++ sign p.CloseBracket ∷ []) ++ c ≡ a ++ (sign p.OpenBracket ∷ b ++ sign p.CloseBracket ∷ c) = simp append_assoc in
    ap declares all ∙ undeclared_postfix (sign p.OpenBracket ∷ b ++ sign p.CloseBracket ∷ c) refl d
undeclared_postfix c q (g.field {a} bytes d) =
    ap declares (append_assoc a (sign p.Dot ∷ l.name bytes ∷ []) c) ∙ undeclared_postfix (sign p.Dot ∷ l.name bytes ∷ c) refl d
undeclared_postfix c q (g.step {a} k op e d) = ap declares (append_assoc a (l.terminal k ∷ []) c) ∙ undeclared_postfix (l.terminal k ∷ c) refl d

undeclared_unary : {x : Expr} {a : List Lexeme} {h : ℕ} (c : List Lexeme) → is_name (first c) ≡ false → IsUnary x a h → declares (a ++ c) ≡ false
unfolding declares base_at sees same_terminal
undeclared_unary c q (g.postfix d) = undeclared_postfix c q d
undeclared_unary c q (g.prefix {a} k op e d) = ap (λ o. declares_at o (l.terminal k ∷ a ++ c)) (prefix_baseless k op (a ++ c) e)
undeclared_unary c q (g.cast to d d') = refl

-- where an expression begins, no declaration does
pub undeclared : {k h : ℕ} {x : Expr} {a : List Lexeme} (c : List Lexeme) → is_name (first c) ≡ false → IsExpr k x a h → declares (a ++ c) ≡ false
undeclared c q (g.unary d) = undeclared_unary c q d
undeclared c q (g.binary {a} {b} k op e le d d') = ap declares (append_assoc a (l.terminal k ∷ b) c) ∙ undeclared (l.terminal k ∷ b ++ c) refl d
undeclared c q (g.choice {a} {b} {c = c'} le d d' d'') =
    let all : ((a ++ sign p.Question ∷ b) ++ sign p.Colon ∷ c') ++ c ≡ a ++ (sign p.Question ∷ b ++ sign p.Colon ∷ c' ++ c) = simp append_assoc in
    ap declares all ∙ undeclared (sign p.Question ∷ b ++ sign p.Colon ∷ c' ++ c) refl d
undeclared c q (g.assign {a} {b} k op e z d d') = ap declares (append_assoc a (l.terminal k ∷ b) c) ∙ undeclared_unary (l.terminal k ∷ b ++ c) refl d

-- where a type and a name begin a declaration
pub declared_by : {to : TypeName} {a : List Lexeme} {h : ℕ} (after : List Lexeme) → IsType to a h → is_name (first after) ≡ true → declares (a ++ after) ≡ true
unfolding declares base_at sees same_terminal
declared_by after (g.base _ (g.of_one_word k to e)) n = rw e n
declared_by after (g.base _ g.closure) n = n
declared_by after (g.struct bytes) n = n
