-- What is read as a declaration or a statement is spelled.
use Rattle.std.proofs.Common.{◌≡◌, ℕ, zero, suc, ◌+◌, ◌≤◌, ◌<◌, max, Bool, true, false, List, [], ◌∷◌, ◌++◌, length, Some, refl, sym, ap, ◌∙◌, arith, append_assoc, append-nil, subst, inl, inr}
use Rattle.osl_tree.specs.declared.token.Punct.TheVariants as p
use Rattle.osl_tree.specs.declared.terminal.Keyword.TheVariants as w
use Rattle.osl_tree.specs.declared.terminal.Terminal.{Terminal}
use Rattle.osl_tree.specs.declared.terminal.Terminal.TheVariants as m
use Rattle.osl_tree.specs.Lexeme.{Lexeme}
use Rattle.osl_tree.specs.Lexeme as l
use Rattle.osl_tree.specs.declared.stmt.TypeName.{TypeName}
use Rattle.osl_tree.specs.declared.stmt.Item.{Item}
use Rattle.osl_tree.specs.declared.stmt.Init.{Init}
use Rattle.osl_tree.specs.declared.stmt.Var.{Var}
use Rattle.osl_tree.specs.declared.stmt.Stmt.{Stmt}
use Rattle.osl_tree.specs.declared.stmt.Stmt.TheVariants as s
use Rattle.osl_tree.specs.declared.stmt.Start.{Start}
use Rattle.osl_tree.specs.declared.stmt.Start.TheVariants as starts
use Rattle.osl_tree.specs.Terminals.{sign, key}
use Rattle.osl_tree.specs.Grammar as e
use Rattle.osl_tree.specs.Grammar.{IsType, IsExpr, AreExprs}
use Rattle.osl_tree.specs.Statements as g
use Rattle.osl_tree.specs.Statements.{AreListed, IsItem, IsInit, IsVar, IsDeclaration, IsMaybe, IsForStart, IsStmt, IsBlock, AreStmts}
use Rattle.osl_tree.specs.Parser.{Parser, sees, expect, name, int, named_type, type_name, declares, listed}
use Rattle.osl_tree.specs.Reading.{Found, expr}
use Rattle.osl_tree.specs.StatementReading.{Part, item, init, var, declaration, maybe, condition, for_start, start_of, stmts_from, block, ended, returned, choice, while_loop, do_loop, for_loop, plain, other, formed, form, stmt}
use Rattle.osl_tree.proofs.Steps as steps_of
use Rattle.osl_tree.proofs.Steps.{steps, expected, raised, named, numbered, did, didn't, ate, took, left, taking, bases', baseless, basing, sees_terminal, decided}
use Rattle.osl_tree.proofs.Begins.{high_base, high_expr}
use Rattle.osl_tree.proofs.Lists.{Spelt, SoundFor, listed_sound}
use Rattle.osl_tree.proofs.Sound.{expr_sound, to_exprs}

-- heights are positive

pub high_type : {to : TypeName} {a : List Lexeme} {h : ℕ} → IsType to a h → 0 < h
high_type (e.base to d) = high_base d
high_type (e.struct bytes) = omega arith

pub high_item : {x : Item} {a : List Lexeme} {h : ℕ} → IsItem x a h → 0 < h
high_item (g.alone bytes) = omega arith
high_item (g.array bytes n) = omega arith

pub high_init : {x : Init} {a : List Lexeme} {h : ℕ} → IsInit x a h → 0 < h
high_init (g.expr d) = high_expr d
high_init (g.list d) = omega arith

pub high_var : {x : Var} {a : List Lexeme} {h : ℕ} → IsVar x a h → 0 < h
high_var (g.plain d) = high_item d
high_var (g.set d d') = omega arith

-- ---- declarations

pub type_sound : SoundFor IsType 2 type_name
unfolding type_name
type_sound ts after x eq =
    elim (basing ts named_type x after eq) [
      | bases' b front us is se eq ↦ steps_of.ended (λ y vs. Spelt IsType 2 ts y vs) eq (record { front = front; split = se; is = e.base b.0 is; low = low is })
      | baseless none eq ↦
          let s = steps (name ts) _ x after eq in
          let q = named ts s.value s.between s.was in
          steps_of.ended (λ y vs. Spelt IsType 2 ts y vs) s.goes (record { front = l.name s.value ∷ []; split = q; is = e.struct s.value; low = omega arith })
    ]
  where
    low : {to : _} {a : List Lexeme} {h : ℕ} → e.IsBase to a h → h ≤ 2
    low (e.of_one_word k to q) = omega arith
    low e.closure = omega arith

pub item_sound : SoundFor IsItem 3 item
unfolding item
item_sound ts after x eq =
    let b = steps (name ts) _ x after eq in
    let q = named ts b.value b.between b.was in
    elim (ate (m.Punct p.OpenBracket) b.between _ _ x after b.goes) [
      | did us se eq ↦
          let i = steps (int us) _ x after eq in
          let r = numbered us i.value i.between i.was in
          let c = steps (expect (m.Punct p.CloseBracket) i.between) _ x after i.goes in
          let f = expected (m.Punct p.CloseBracket) i.between c.between c.value c.was in
          steps_of.ended (λ y vs. Spelt IsItem 3 ts y vs) c.goes (record {
            front = l.name b.value ∷ sign p.OpenBracket ∷ l.int i.value ∷ sign p.CloseBracket ∷ [];
            split = q ∙ ap (λ vs. l.name b.value ∷ vs) (se ∙ ap (λ vs. sign p.OpenBracket ∷ vs) (r ∙ ap (λ vs. l.int i.value ∷ vs) f));
            is = g.array b.value i.value;
            low = omega arith;
          })
      | didn't f eq ↦ steps_of.ended (λ y vs. Spelt IsItem 3 ts y vs) eq (record { front = l.name b.value ∷ []; split = q; is = g.alone b.value; low = omega arith })
    ]

expr_spelt : (room : ℕ) → SoundFor (IsExpr 0) room (expr room 0)
expr_spelt room ts after x eq = (expr_sound room 0 ts after x eq).spelt

pub init_sound : (room : ℕ) → SoundFor IsInit (room + 1) (init room)
unfolding init
init_sound room ts after x eq =
    elim (ate (m.Punct p.OpenBrace) ts _ _ x after eq) [
      | did us se eq ↦
          let i = steps (listed (expr room 0) us) _ x after eq in
          let d = listed_sound (IsExpr 0) room (expr room 0) (expr_spelt room) (λ x a h d. high_expr d) us i.between i.value i.was in
          let c = steps (expect (m.Punct p.CloseBrace) i.between) _ x after i.goes in
          let f = expected (m.Punct p.CloseBrace) i.between c.between c.value c.was in
          let n = raised room i.value.1 c.between _ x after c.goes in
          steps_of.ended (λ y vs. Spelt IsInit (room + 1) ts y vs) n.goes (record {
            front = sign p.OpenBrace ∷ d.front ++ sign p.CloseBrace ∷ [];
            split = se ∙ ap (λ vs. sign p.OpenBrace ∷ vs) (d.split ∙ ap (λ vs. d.front ++ vs) f ∙ sym (append_assoc d.front (sign p.CloseBrace ∷ []) c.between));
            is = g.list (to_exprs d.is);
            low = let low = n.low in omega arith;
          })
      | didn't f eq ↦
          let i = steps (expr room 0 ts) _ x after eq in
          let d = expr_spelt room ts i.between i.value i.was in
          steps_of.ended (λ y vs. Spelt IsInit (room + 1) ts y vs) i.goes (record { front = d.front; split = d.split; is = g.expr d.is; low = let low = d.low in omega arith })
    ]

pub var_sound : (room : ℕ) → SoundFor IsVar (max 3 (room + 1)) (var room)
unfolding var
var_sound room ts after x eq =
    let b = steps (item ts) _ x after eq in
    let d = item_sound ts b.between b.value b.was in
    elim (ate (m.Punct p.Assign) b.between _ _ x after b.goes) [
      | did us se eq ↦
          let i = steps (init room us) _ x after eq in
          let r = init_sound room us i.between i.value i.was in
          let n = raised room (max b.value.1 i.value.1) i.between _ x after i.goes in
          steps_of.ended (λ y vs. Spelt IsVar (max 3 (room + 1)) ts y vs) n.goes (record {
            front = d.front ++ sign p.Assign ∷ r.front;
            split = d.split ∙ ap (λ vs. d.front ++ vs) (se ∙ ap (λ vs. sign p.Assign ∷ vs) r.split) ∙ sym (append_assoc d.front (sign p.Assign ∷ r.front) i.between);
            is = g.set d.is r.is;
            low = let low = n.low in omega arith;
          })
      | didn't f eq ↦ steps_of.ended (λ y vs. Spelt IsVar (max 3 (room + 1)) ts y vs) eq (record { front = d.front; split = d.split; is = g.plain d.is; low = let low = d.low in omega arith })
    ]

pub declaration_sound : (room : ℕ) → SoundFor IsDeclaration (room + 1) (declaration room)
unfolding declaration
declaration_sound room ts after x eq =
    let b = steps (type_name ts) _ x after eq in
    let d = type_sound ts b.between b.value b.was in
    let i = steps (listed (var room) b.between) _ x after b.goes in
    let r = listed_sound IsVar (max 3 (room + 1)) (var room) (var_sound room) (λ x a h d. high_var d) b.between i.between i.value i.was in
    let c = steps (expect (m.Punct p.Semicolon) i.between) _ x after i.goes in
    let f = expected (m.Punct p.Semicolon) i.between c.between c.value c.was in
    let n = raised room (max b.value.1 i.value.1) c.between _ x after c.goes in
    let all : (d.front ++ r.front ++ sign p.Semicolon ∷ []) ++ c.between ≡ d.front ++ (r.front ++ sign p.Semicolon ∷ c.between) = simp append_assoc in
    steps_of.ended (λ y vs. Spelt IsDeclaration (room + 1) ts y vs) n.goes (record {
      front = d.front ++ r.front ++ sign p.Semicolon ∷ [];
      split = d.split ∙ ap (λ vs. d.front ++ vs) (r.split ∙ ap (λ vs. r.front ++ vs) f) ∙ sym all;
      is = g.declare d.is r.is;
      low = let low = n.low in omega arith;
    })

-- ---- parts of statements

pub maybe_sound : (room : ℕ) (close : Terminal) → SoundFor IsMaybe (max 1 room) (maybe room close)
unfolding maybe
maybe_sound room close ts after x eq =
    elim (decided (sees close ts) _ _ ts _ eq) [
      | inl q ↦ steps_of.ended (λ y vs. Spelt IsMaybe (max 1 room) ts y vs) q.1 (record { front = []; split = refl; is = g.nothing; low = omega arith })
      | inr q ↦
          let i = steps (expr room 0 ts) _ x after q.1 in
          let d = expr_spelt room ts i.between i.value i.was in
          steps_of.ended (λ y vs. Spelt IsMaybe (max 1 room) ts y vs) i.goes (record { front = d.front; split = d.split; is = g.just d.is; low = let low = d.low in omega arith })
    ]

record Asked (room : ℕ) (ts : List Lexeme) (x : Found) (after : List Lexeme) : Type 0 where
  front : List Lexeme
  split : ts ≡ sign p.OpenParen ∷ front ++ sign p.CloseParen ∷ after
  is : IsExpr 0 x.0 front x.1
  low : x.1 ≤ room

condition_sound : (room : ℕ) (ts after : List Lexeme) (x : Found) → condition room ts ≡ Some (x, after) → Asked room ts x after
unfolding condition
condition_sound room ts after x eq =
    let b = steps (expect (m.Punct p.OpenParen) ts) _ x after eq in
    let o = expected (m.Punct p.OpenParen) ts b.between b.value b.was in
    let i = steps (expr room 0 b.between) _ x after b.goes in
    let d = expr_spelt room b.between i.between i.value i.was in
    let c = steps (expect (m.Punct p.CloseParen) i.between) _ x after i.goes in
    let f = expected (m.Punct p.CloseParen) i.between c.between c.value c.was in
    steps_of.ended (λ y vs. Asked room ts y vs) c.goes (record {
      front = d.front;
      split = o ∙ ap (λ vs. sign p.OpenParen ∷ vs) (d.split ∙ ap (λ vs. d.front ++ vs) f);
      is = d.is;
      low = d.low;
    })

pub for_start_sound : (room : ℕ) → SoundFor IsForStart (room + 1) (for_start room)
unfolding for_start
for_start_sound room ts after x eq =
    elim (ate (m.Punct p.Semicolon) ts _ _ x after eq) [
      | did us se eq ↦ steps_of.ended (λ y vs. Spelt IsForStart (room + 1) ts y vs) eq (record { front = sign p.Semicolon ∷ []; split = se; is = g.nothing; low = omega arith })
      | didn't f eq ↦ elim (decided (declares ts) _ _ ts _ eq) [
        | inl q ↦
            let i = steps (declaration room ts) _ x after q.1 in
            let d = declaration_sound room ts i.between i.value i.was in
            steps_of.ended (λ y vs. Spelt IsForStart (room + 1) ts y vs) i.goes (record { front = d.front; split = d.split; is = g.declare d.is; low = d.low })
        | inr q ↦
            let i = steps (expr room 0 ts) _ x after q.1 in
            let d = expr_spelt room ts i.between i.value i.was in
            let c = steps (expect (m.Punct p.Semicolon) i.between) _ x after i.goes in
            let h = expected (m.Punct p.Semicolon) i.between c.between c.value c.was in
            steps_of.ended (λ y vs. Spelt IsForStart (room + 1) ts y vs) c.goes (record {
              front = d.front ++ sign p.Semicolon ∷ [];
              split = d.split ∙ ap (λ vs. d.front ++ vs) h ∙ sym (append_assoc d.front (sign p.Semicolon ∷ []) c.between);
              is = g.expr d.is;
              low = let low = d.low in omega arith;
            })
      ]
    ]

-- ---- statements

-- If an `else` could follow, none does.
pub record SpeltStmt (top : ℕ) (ts : List Lexeme) (x : Part) (after : List Lexeme) : Type 0 where
  pub front : List Lexeme
  pub open_if : Bool
  pub split : ts ≡ front ++ after
  pub is : IsStmt x.0 front x.1 open_if
  pub low : x.1 ≤ top
  pub no_else : open_if ≡ true → sees (m.Keyword w.Else) after ≡ false

abbrev pub SoundStmt : Parser Part → ℕ → Type 0
SoundStmt inner room = (ts after : List Lexeme) (x : Part) → inner ts ≡ Some (x, after) → SpeltStmt room ts x after

-- what has no open `if`
complete_stmt : (top : ℕ) (ts : List Lexeme) (x : Part) (after front : List Lexeme) → ts ≡ front ++ after → IsStmt x.0 front x.1 false → x.1 ≤ top → SpeltStmt top ts x after
complete_stmt top ts x after front split is low = record { front = front; open_if = false; split = split; is = is; low = low; no_else = λ e. cc }

restart : {top : ℕ} {ts us : List Lexeme} {x : Part} {after : List Lexeme} → us ≡ ts → SpeltStmt top ts x after → SpeltStmt top us x after
restart q r = record { front = r.front; open_if = r.open_if; split = q ∙ r.split; is = r.is; low = r.low; no_else = r.no_else }

abbrev opening : Start → Terminal
opening starts.Empty = m.Punct p.Semicolon
opening starts.Block = m.Punct p.OpenBrace
opening starts.Break = m.Keyword w.Break
opening starts.Continue = m.Keyword w.Continue
opening starts.Return = m.Keyword w.Return
opening starts.If = m.Keyword w.If
opening starts.While = m.Keyword w.While
opening starts.Do = m.Keyword w.Do
opening starts.For = m.Keyword w.For

start_is : (k : Terminal) (o : Start) → start_of k ≡ Some o → k ≡ opening o
start_is (m.Punct p.Semicolon) o q = let r : starts.Empty ≡ o = grind arith in ap opening r
start_is (m.Punct p.OpenBrace) o q = let r : starts.Block ≡ o = grind arith in ap opening r
start_is (m.Keyword w.Break) o q = let r : starts.Break ≡ o = grind arith in ap opening r
start_is (m.Keyword w.Continue) o q = let r : starts.Continue ≡ o = grind arith in ap opening r
start_is (m.Keyword w.Return) o q = let r : starts.Return ≡ o = grind arith in ap opening r
start_is (m.Keyword w.If) o q = let r : starts.If ≡ o = grind arith in ap opening r
start_is (m.Keyword w.While) o q = let r : starts.While ≡ o = grind arith in ap opening r
start_is (m.Keyword w.Do) o q = let r : starts.Do ≡ o = grind arith in ap opening r
start_is (m.Keyword w.For) o q = let r : starts.For ≡ o = grind arith in ap opening r
start_is (m.Punct _) o q = cc
start_is (m.Keyword _) o q = cc

-- more statements, after those that were read
record Listed (room : ℕ) (xs : List Stmt) (h : ℕ) (ts : List Lexeme) (ys : List Stmt × ℕ) (after : List Lexeme) : Type 0 where
  next : List Stmt
  high : ℕ
  front : List Lexeme
  split : ts ≡ front ++ sign p.CloseBrace ∷ after
  is : AreStmts next front high
  all : ys.0 ≡ xs ++ next
  peak : ys.1 ≡ max h high

pub for_tokens : (a b c d after : List Lexeme) → (key w.For ∷ sign p.OpenParen ∷ a ++ b ++ sign p.Semicolon ∷ c ++ sign p.CloseParen ∷ d) ++ after
    ≡ key w.For ∷ sign p.OpenParen ∷ a ++ (b ++ sign p.Semicolon ∷ (c ++ sign p.CloseParen ∷ (d ++ after)))
for_tokens a b c d after = simp append_assoc

-- what an `else` follows has no open `if`
closed_if : (o : Bool) (ts us : List Lexeme) → (o ≡ true → sees (m.Keyword w.Else) ts ≡ false) → ts ≡ key w.Else ∷ us → o ≡ false
closed_if false ts us n split = refl
closed_if true ts us n split = let seen = sees_terminal (m.Keyword w.Else) us in let none = n refl in let same = ap (sees (m.Keyword w.Else)) split in cc

module _ (inner : Parser Part) (room : ℕ) (sound : SoundStmt inner room) where
  stmts_sound : (n : ℕ) (xs : List Stmt) (h : ℕ) (ts after : List Lexeme) (ys : List Stmt × ℕ) → 0 < h → stmts_from inner room n xs h ts ≡ Some (ys, after) → Listed room xs h ts ys after
  unfolding stmts_from
  stmts_sound zero xs h ts after ys some eq = cc
  stmts_sound (suc n) xs h ts after ys some eq =
      elim (ate (m.Punct p.CloseBrace) ts _ _ ys after eq) [
        | did us se eq ↦ steps_of.ended (λ y vs. Listed room xs h ts y vs) eq
            (record { next = []; high = 1; front = []; split = se; is = g.end; all = sym (append-nil xs); peak = omega arith })
        | didn't f eq ↦
            let b = steps (inner ts) _ ys after eq in
            let d = sound ts b.between b.value b.was in
            let r = stmts_sound n _ _ b.between after ys (omega arith) b.goes in
            let peak = r.peak in
            record {
              next = b.value.0 ∷ r.next;
              high = max b.value.1 r.high;
              front = d.front ++ r.front;
              split = d.split ∙ ap (λ vs. d.front ++ vs) r.split ∙ sym (append_assoc d.front r.front (sign p.CloseBrace ∷ after));
              is = g.more d.is r.is;
              all = r.all ∙ append_assoc xs (b.value.0 ∷ []) r.next;
              peak = omega arith;
            }
      ]

  stmts_high : {xs : List Stmt} {a : List Lexeme} {h : ℕ} → AreStmts xs a h → 0 < h
  stmts_high g.end = omega arith
  stmts_high (g.more d d') = let k = stmts_high d' in omega arith

  -- a block, whose brace was taken
  pub block_sound : (ts after : List Lexeme) (x : List Stmt × ℕ) → block inner room ts ≡ Some (x, after) → Spelt IsBlock (room + 1) (sign p.OpenBrace ∷ ts) x after
  unfolding block
  block_sound ts after x eq =
      let b = steps (stmts_from inner room (length ts) [] 1 ts) _ x after eq in
      let d = stmts_sound (length ts) [] 1 ts b.between b.value (omega arith) b.was in
      let n = raised room b.value.1 b.between _ x after b.goes in
      let k = stmts_high d.is in
      let peak : b.value.1 ≡ d.high = let q = d.peak in omega arith in
      steps_of.ended (λ y vs. Spelt IsBlock (room + 1) (sign p.OpenBrace ∷ ts) y vs) n.goes (record {
        front = sign p.OpenBrace ∷ d.front ++ sign p.CloseBrace ∷ [];
        split = ap (λ vs. sign p.OpenBrace ∷ vs) (d.split ∙ sym (append_assoc d.front (sign p.CloseBrace ∷ []) b.between));
        is = g.braces (subst (λ zs. AreStmts zs d.front b.value.1) (sym d.all) (subst (λ i. AreStmts d.next d.front i) (sym peak) d.is));
        low = let low = n.low in omega arith;
      })

  ended_sound : (k : Terminal) (x : Stmt) → IsStmt x (l.terminal k ∷ sign p.Semicolon ∷ []) 2 false → (ts after : List Lexeme) (y : Part) → ended inner room x ts ≡ Some (y, after)
      → SpeltStmt (room + 1) (l.terminal k ∷ ts) y after
  unfolding ended
  ended_sound k x is ts after y eq =
      let c = steps (expect (m.Punct p.Semicolon) ts) _ y after eq in
      let f = expected (m.Punct p.Semicolon) ts c.between c.value c.was in
      let n = raised room 1 c.between _ y after c.goes in
      steps_of.ended (λ z vs. SpeltStmt (room + 1) (l.terminal k ∷ ts) z vs) n.goes
      (complete_stmt (room + 1) (l.terminal k ∷ ts) (x, 2) c.between (l.terminal k ∷ sign p.Semicolon ∷ []) (ap (λ vs. l.terminal k ∷ vs) f) is (let low = n.low in omega arith))

  returned_sound : (ts after : List Lexeme) (x : Part) → returned inner room ts ≡ Some (x, after) → SpeltStmt (room + 1) (key w.Return ∷ ts) x after
  unfolding returned
  returned_sound ts after x eq =
      let i = steps (maybe room (m.Punct p.Semicolon) ts) _ x after eq in
      let d = maybe_sound room (m.Punct p.Semicolon) ts i.between i.value i.was in
      let c = steps (expect (m.Punct p.Semicolon) i.between) _ x after i.goes in
      let f = expected (m.Punct p.Semicolon) i.between c.between c.value c.was in
      let n = raised room i.value.1 c.between _ x after c.goes in
      steps_of.ended (λ y vs. SpeltStmt (room + 1) (key w.Return ∷ ts) y vs) n.goes
      (complete_stmt (room + 1) (key w.Return ∷ ts) (s.Return i.value.0, i.value.1 + 1) c.between (key w.Return ∷ d.front ++ sign p.Semicolon ∷ [])
      (ap (λ vs. key w.Return ∷ vs) (d.split ∙ ap (λ vs. d.front ++ vs) f ∙ sym (append_assoc d.front (sign p.Semicolon ∷ []) c.between)))
      (g.return d.is) (let low = n.low in omega arith))

  choice_sound : (ts after : List Lexeme) (x : Part) → choice inner room ts ≡ Some (x, after) → SpeltStmt (room + 1) (key w.If ∷ ts) x after
  unfolding choice
  choice_sound ts after x eq =
      let i = steps (condition room ts) _ x after eq in
      let d = condition_sound room ts i.between i.value i.was in
      let b = steps (inner i.between) _ x after i.goes in
      let r = sound i.between b.between b.value b.was in
      elim (ate (m.Keyword w.Else) b.between _ _ x after b.goes) [
        | did us se eq ↦
            let c = steps (inner us) _ x after eq in
            let q = sound us c.between c.value c.was in
            let n = raised room (max i.value.1 (max b.value.1 c.value.1)) c.between _ x after c.goes in
            let closed = closed_if r.open_if b.between us r.no_else se in
            let all : (key w.If ∷ sign p.OpenParen ∷ d.front ++ sign p.CloseParen ∷ r.front ++ key w.Else ∷ q.front) ++ c.between
            ≡ key w.If ∷ sign p.OpenParen ∷ d.front ++ sign p.CloseParen ∷ (r.front ++ key w.Else ∷ (q.front ++ c.between)) = simp append_assoc in
            steps_of.ended (λ y vs. SpeltStmt (room + 1) (key w.If ∷ ts) y vs) n.goes (record {
              front = key w.If ∷ sign p.OpenParen ∷ d.front ++ sign p.CloseParen ∷ r.front ++ key w.Else ∷ q.front;
              open_if = q.open_if;
              split = ap (λ vs. key w.If ∷ vs) (d.split ∙ ap (λ vs. sign p.OpenParen ∷ d.front ++ sign p.CloseParen ∷ vs) (r.split ∙ ap (λ vs. r.front ++ vs) (se ∙ ap (λ vs. key w.Else ∷ vs) q.split))) ∙ sym all;
              is = g.if_else d.is (subst (λ o. IsStmt b.value.0 r.front b.value.1 o) closed r.is) q.is;
              low = let low = n.low in omega arith;
              no_else = q.no_else;
            })
        | didn't f eq ↦
            let n = raised room (max i.value.1 b.value.1) b.between _ x after eq in
            let all : (key w.If ∷ sign p.OpenParen ∷ d.front ++ sign p.CloseParen ∷ r.front) ++ b.between ≡ key w.If ∷ sign p.OpenParen ∷ d.front ++ sign p.CloseParen ∷ (r.front ++ b.between) = simp append_assoc in
            steps_of.ended (λ y vs. SpeltStmt (room + 1) (key w.If ∷ ts) y vs) n.goes (record {
              front = key w.If ∷ sign p.OpenParen ∷ d.front ++ sign p.CloseParen ∷ r.front;
              open_if = true;
              split = ap (λ vs. key w.If ∷ vs) (d.split ∙ ap (λ vs. sign p.OpenParen ∷ d.front ++ sign p.CloseParen ∷ vs) r.split) ∙ sym all;
              is = g.only_if d.is r.is;
              low = let low = n.low in omega arith;
              no_else = λ _. f;
            })
      ]

  while_sound : (ts after : List Lexeme) (x : Part) → while_loop inner room ts ≡ Some (x, after) → SpeltStmt (room + 1) (key w.While ∷ ts) x after
  unfolding while_loop
  while_sound ts after x eq =
      let i = steps (condition room ts) _ x after eq in
      let d = condition_sound room ts i.between i.value i.was in
      let b = steps (inner i.between) _ x after i.goes in
      let r = sound i.between b.between b.value b.was in
      let n = raised room (max i.value.1 b.value.1) b.between _ x after b.goes in
      let all : (key w.While ∷ sign p.OpenParen ∷ d.front ++ sign p.CloseParen ∷ r.front) ++ b.between ≡ key w.While ∷ sign p.OpenParen ∷ d.front ++ sign p.CloseParen ∷ (r.front ++ b.between) = simp append_assoc in
      steps_of.ended (λ y vs. SpeltStmt (room + 1) (key w.While ∷ ts) y vs) n.goes (record {
        front = key w.While ∷ sign p.OpenParen ∷ d.front ++ sign p.CloseParen ∷ r.front;
        open_if = r.open_if;
        split = ap (λ vs. key w.While ∷ vs) (d.split ∙ ap (λ vs. sign p.OpenParen ∷ d.front ++ sign p.CloseParen ∷ vs) r.split) ∙ sym all;
        is = g.while d.is r.is;
        low = let low = n.low in omega arith;
        no_else = r.no_else;
      })

  do_sound : (ts after : List Lexeme) (x : Part) → do_loop inner room ts ≡ Some (x, after) → SpeltStmt (room + 1) (key w.Do ∷ ts) x after
  unfolding do_loop
  do_sound ts after x eq =
      let b = steps (inner ts) _ x after eq in
      let r = sound ts b.between b.value b.was in
      let v = steps (expect (m.Keyword w.While) b.between) _ x after b.goes in
      let f = expected (m.Keyword w.While) b.between v.between v.value v.was in
      let i = steps (condition room v.between) _ x after v.goes in
      let d = condition_sound room v.between i.between i.value i.was in
      let c = steps (expect (m.Punct p.Semicolon) i.between) _ x after i.goes in
      let f' = expected (m.Punct p.Semicolon) i.between c.between c.value c.was in
      let n = raised room (max b.value.1 i.value.1) c.between _ x after c.goes in
      let all : (key w.Do ∷ r.front ++ key w.While ∷ sign p.OpenParen ∷ d.front ++ sign p.CloseParen ∷ sign p.Semicolon ∷ []) ++ c.between
      ≡ key w.Do ∷ r.front ++ key w.While ∷ sign p.OpenParen ∷ (d.front ++ sign p.CloseParen ∷ sign p.Semicolon ∷ c.between) = simp append_assoc in
      steps_of.ended (λ y vs. SpeltStmt (room + 1) (key w.Do ∷ ts) y vs) n.goes
      (complete_stmt (room + 1) (key w.Do ∷ ts) (s.DoWhile b.value.0 i.value.0, max b.value.1 i.value.1 + 1) c.between
      (key w.Do ∷ r.front ++ key w.While ∷ sign p.OpenParen ∷ d.front ++ sign p.CloseParen ∷ sign p.Semicolon ∷ [])
      (ap (λ vs. key w.Do ∷ vs) (r.split ∙ ap (λ vs. r.front ++ vs) (f ∙ ap (λ vs. key w.While ∷ vs) (d.split ∙ ap (λ vs. sign p.OpenParen ∷ d.front ++ sign p.CloseParen ∷ vs) f'))) ∙ sym all)
      (g.do_while r.is d.is) (let low = n.low in omega arith))

  for_sound : (ts after : List Lexeme) (x : Part) → for_loop inner room ts ≡ Some (x, after) → SpeltStmt (room + 1) (key w.For ∷ ts) x after
  unfolding for_loop
  for_sound ts after x eq =
      let o = steps (expect (m.Punct p.OpenParen) ts) _ x after eq in
      let fo = expected (m.Punct p.OpenParen) ts o.between o.value o.was in
      let a = steps (for_start room o.between) _ x after o.goes in
      let da = for_start_sound room o.between a.between a.value a.was in
      let b = steps (maybe room (m.Punct p.Semicolon) a.between) _ x after a.goes in
      let db = maybe_sound room (m.Punct p.Semicolon) a.between b.between b.value b.was in
      let u = steps (expect (m.Punct p.Semicolon) b.between) _ x after b.goes in
      let fu = expected (m.Punct p.Semicolon) b.between u.between u.value u.was in
      let c = steps (maybe room (m.Punct p.CloseParen) u.between) _ x after u.goes in
      let dc = maybe_sound room (m.Punct p.CloseParen) u.between c.between c.value c.was in
      let v = steps (expect (m.Punct p.CloseParen) c.between) _ x after c.goes in
      let fv = expected (m.Punct p.CloseParen) c.between v.between v.value v.was in
      let t = steps (inner v.between) _ x after v.goes in
      let r = sound v.between t.between t.value t.was in
      let n = raised room (max (max a.value.1 b.value.1) (max c.value.1 t.value.1)) t.between _ x after t.goes in
      steps_of.ended (λ y vs. SpeltStmt (room + 1) (key w.For ∷ ts) y vs) n.goes (record {
        front = key w.For ∷ sign p.OpenParen ∷ da.front ++ db.front ++ sign p.Semicolon ∷ dc.front ++ sign p.CloseParen ∷ r.front;
        open_if = r.open_if;
        split = ap (λ vs. key w.For ∷ vs) (fo ∙ ap (λ vs. sign p.OpenParen ∷ vs) (da.split ∙ ap (λ vs. da.front ++ vs) (db.split ∙ ap (λ vs. db.front ++ vs) (fu ∙ ap (λ vs. sign p.Semicolon ∷ vs)
            (dc.split ∙ ap (λ vs. dc.front ++ vs) (fv ∙ ap (λ vs. sign p.CloseParen ∷ vs) r.split)))))) ∙ sym (for_tokens da.front db.front dc.front r.front t.between);
        is = g.for da.is db.is dc.is r.is;
        low = let low = n.low in omega arith;
        no_else = r.no_else;
      })

  plain_sound : (ts after : List Lexeme) (x : Part) → plain inner room ts ≡ Some (x, after) → SpeltStmt (room + 1) ts x after
  unfolding plain
  plain_sound ts after x eq =
      let i = steps (expr room 0 ts) _ x after eq in
      let d = expr_spelt room ts i.between i.value i.was in
      let c = steps (expect (m.Punct p.Semicolon) i.between) _ x after i.goes in
      let f = expected (m.Punct p.Semicolon) i.between c.between c.value c.was in
      let n = raised room i.value.1 c.between _ x after c.goes in
      steps_of.ended (λ y vs. SpeltStmt (room + 1) ts y vs) n.goes
      (complete_stmt (room + 1) ts (s.Expr i.value.0, i.value.1 + 1) c.between (d.front ++ sign p.Semicolon ∷ [])
      (d.split ∙ ap (λ vs. d.front ++ vs) f ∙ sym (append_assoc d.front (sign p.Semicolon ∷ []) c.between)) (g.expr d.is) (let low = n.low in omega arith))

  other_sound : (ts after : List Lexeme) (x : Part) → other inner room ts ≡ Some (x, after) → SpeltStmt (room + 1) ts x after
  unfolding other
  other_sound ts after x eq =
      elim (decided (declares ts) _ _ ts _ eq) [
        | inl q ↦
            let i = steps (declaration room ts) _ x after q.1 in
            let d = declaration_sound room ts i.between i.value i.was in
            steps_of.ended (λ y vs. SpeltStmt (room + 1) ts y vs) i.goes (complete_stmt (room + 1) ts (s.Declare i.value.0, i.value.1) i.between d.front d.split (g.declare d.is) d.low)
        | inr q ↦ plain_sound ts after x q.1
      ]

  block_stmt_sound : (ts after : List Lexeme) (x : Part) → formed inner room (Some starts.Block) ts ≡ Some (x, after) → SpeltStmt (room + 1) (sign p.OpenBrace ∷ ts) x after
  block_stmt_sound ts after x eq =
      let i = steps (block inner room ts) _ x after eq in
      let d = block_sound ts i.between i.value i.was in
      steps_of.ended (λ y vs. SpeltStmt (room + 1) (sign p.OpenBrace ∷ ts) y vs) i.goes
      (complete_stmt (room + 1) (sign p.OpenBrace ∷ ts) (s.Block i.value.0, i.value.1) i.between d.front d.split (g.block d.is) d.low)

  formed_sound : (o : Start) (ts after : List Lexeme) (x : Part) → formed inner room (Some o) ts ≡ Some (x, after) → SpeltStmt (room + 1) (l.terminal (opening o) ∷ ts) x after
  formed_sound starts.Empty ts after x eq = steps_of.ended (λ y vs. SpeltStmt (room + 1) (sign p.Semicolon ∷ ts) y vs) eq
      (complete_stmt (room + 1) (sign p.Semicolon ∷ ts) (s.Empty, 1) ts (sign p.Semicolon ∷ []) refl g.empty (omega arith))
  formed_sound starts.Block ts after x eq = block_stmt_sound ts after x eq
  formed_sound starts.Break ts after x eq = ended_sound (m.Keyword w.Break) s.Break g.break ts after x eq
  formed_sound starts.Continue ts after x eq = ended_sound (m.Keyword w.Continue) s.Continue g.continue ts after x eq
  formed_sound starts.Return ts after x eq = returned_sound ts after x eq
  formed_sound starts.If ts after x eq = choice_sound ts after x eq
  formed_sound starts.While ts after x eq = while_sound ts after x eq
  formed_sound starts.Do ts after x eq = do_sound ts after x eq
  formed_sound starts.For ts after x eq = for_sound ts after x eq

  form_sound : (ts after : List Lexeme) (x : Part) → form inner room ts ≡ Some (x, after) → SpeltStmt (room + 1) ts x after
  unfolding form
  form_sound ts after x eq =
      elim (taking start_of ts (formed inner room) x after eq) [
        | took k o us q se eq ↦ restart (se ∙ ap (λ j. l.terminal j ∷ us) (start_is k o q)) (formed_sound o us after x eq)
        | left f eq ↦ other_sound ts after x eq
      ]

-- What `stmt` reads is spelled.
pub stmt_sound : (n : ℕ) → SoundStmt (stmt n) n
unfolding stmt
stmt_sound zero ts after x eq = cc
stmt_sound (suc room) ts after x eq =
    let r = form_sound (stmt room) room (stmt_sound room) ts after x eq in
    let low = r.low in
    record { front = r.front; open_if = r.open_if; split = r.split; is = r.is; low = omega arith; no_else = r.no_else }
