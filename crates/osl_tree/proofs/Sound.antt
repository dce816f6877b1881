-- What is read as an expression is spelled.
use Rattle.std.proofs.Common.{◌≡◌, ℕ, zero, suc, ◌+◌, ◌≤◌, ◌<◌, max, Bool, true, false, if◌then◌else◌, nat_le, List, [], ◌∷◌, ◌++◌, Option, Some, None, refl, sym, ap, ◌∙◌, arith, append_assoc, inl, inr, subst}
use Rattle.std.proofs.lemmas.Bool.Decides.{nat_tests}
use Rattle.std.proofs.lemmas.Option.{cond_some}
use Rattle.osl_tree.specs.declared.token.Punct.TheVariants as p
use Rattle.osl_tree.specs.declared.terminal.Terminal.{Terminal}
use Rattle.osl_tree.specs.declared.terminal.Terminal.TheVariants as m
use Rattle.osl_tree.specs.Lexeme.{Lexeme}
use Rattle.osl_tree.specs.Lexeme as l
use Rattle.osl_tree.specs.declared.expr.PostfixOp.{PostfixOp}
use Rattle.osl_tree.specs.declared.expr.PostfixOp.TheVariants as postfixes
use Rattle.osl_tree.specs.declared.expr.Suffix.{Suffix}
use Rattle.osl_tree.specs.declared.expr.Suffix.TheVariants as suffixes
use Rattle.osl_tree.specs.declared.expr.BinaryOp.{BinaryOp}
use Rattle.osl_tree.specs.declared.expr.BinaryOp.TheVariants as binaries
use Rattle.osl_tree.specs.declared.expr.AssignOp.{AssignOp}
use Rattle.osl_tree.specs.declared.expr.Expr.{Expr}
use Rattle.osl_tree.specs.Terminals.{sign, prefix_of, postfix_of, binary_of, level, assign_of}
use Rattle.osl_tree.specs.Grammar as g
use Rattle.osl_tree.specs.Grammar.{IsBase, IsExpr, IsUnary, IsPostfix, IsPrimary, AreArguments, AreExprs}
use Rattle.osl_tree.specs.Statements as s
use Rattle.osl_tree.specs.Statements.{AreListed}
use Rattle.osl_tree.specs.Parser.{Parser, first, rest, of_terminal, sees, expect, name, listed, is_name, past}
use Rattle.osl_tree.specs.Reading.{at_least, operator, storing, is_asking, Found, suffix_of, arguments, word, parenthesised, literal_of, name_or_paren, leaf, constructed, primary, index, field, stepped, suffixed, continued, postfix_from, postfix, cast, prefixed, unary, joined, climb, chosen, binary, stored, whole, expr}
use Rattle.osl_tree.proofs.Steps.{steps, expected, raised, named, did, didn't, ate, took, left, taking, bases', baseless, basing, casts, uncast, casting, ended, decided}
use Rattle.osl_tree.proofs.Begins.{high_expr}
use Rattle.osl_tree.proofs.Lists.{Spelt, respelt, SoundFor, listed_sound}

-- no operator of this level or a tighter one comes next
abbrev pub Ends : ℕ → List Lexeme → Type 0
Ends k ts = (op : BinaryOp) → of_terminal binary_of (first ts) ≡ Some op → level op < k

pub record SpeltAt (k top : ℕ) (ts : List Lexeme) (x : Found) (after : List Lexeme) : Type 0 where
  pub spelt : Spelt (IsExpr k) top ts x after
  pub ends : Ends (max k 2) after

abbrev pub Sound : (ℕ → Parser Found) → ℕ → Type 0
Sound inner room = (k : ℕ) (ts after : List Lexeme) (x : Found) → inner k ts ≡ Some (x, after) → SpeltAt k room ts x after

-- where no operator has such a level, there is only a unary expression
pub loose : (op : BinaryOp) → level op ≤ 11
loose binaries.Or = omega arith
loose binaries.And = omega arith
loose binaries.BitOr = omega arith
loose binaries.BitXor = omega arith
loose binaries.BitAnd = omega arith
loose binaries.Equal = omega arith
loose binaries.NotEqual = omega arith
loose binaries.Less = omega arith
loose binaries.LessEqual = omega arith
loose binaries.Greater = omega arith
loose binaries.GreaterEqual = omega arith
loose binaries.ShiftLeft = omega arith
loose binaries.ShiftRight = omega arith
loose binaries.Add = omega arith
loose binaries.Subtract = omega arith
loose binaries.Multiply = omega arith
loose binaries.Divide = omega arith
loose binaries.Remainder = omega arith

only_unary : {k h : ℕ} {x : Expr} {a : List Lexeme} → 12 ≤ k → IsExpr k x a h → IsUnary x a h
only_unary low (g.unary d) = d
only_unary low (g.binary j op e le d d') = absurd (omega (arith, loose op))
only_unary low (g.choice le d d' d'') = absurd (omega arith)
only_unary low (g.assign j op e le d d') = absurd (omega arith)

-- what is at a level stands at a lower one
pub lower : {j k h : ℕ} {x : Expr} {a : List Lexeme} → j ≤ k → IsExpr k x a h → IsExpr j x a h
lower le (g.unary d) = g.unary d
lower le (g.binary i op e le' d d') = g.binary i op e (omega arith) d d'
lower le (g.choice le' d d' d'') = g.choice (omega arith) d d' d''
lower le (g.assign i op e le' d d') = g.assign i op e (omega arith) d d'

pub to_exprs : {xs : List Expr} {a : List Lexeme} {h : ℕ} → AreListed (IsExpr 0) xs a h → AreExprs xs a h
to_exprs (s.last d) = g.last d
to_exprs (s.more d d') = g.more d (to_exprs d')

operator_is : (k : ℕ) (j : Terminal) (op : BinaryOp) → operator k j ≡ Some op → (binary_of j ≡ Some op) × (k ≤ level op)
operator_is k j op e = by (binary_of j) e
  where
    by : (o : Option BinaryOp) → at_least k o ≡ Some op → (o ≡ Some op) × (k ≤ level op)
    by None e = cc
    by (Some q) e = let r = cond_some (nat_le k (level q)) q op e in let r' = r.1 in (ap Some r.1, rw (← r') (grind (arith, nat_tests, r.0)))

looser : (k : ℕ) (op : BinaryOp) → at_least k (Some op) ≡ None → level op < k
looser k op e = by (nat_le k (level op)) refl e
  where
    by : (b : Bool) → nat_le k (level op) ≡ b → (if b then Some op else None) ≡ None → level op < k
    by true s e = cc
    by false s e = grind (arith, nat_tests)

no_operator : (k : ℕ) (ts : List Lexeme) → of_terminal (operator k) (first ts) ≡ None → Ends k ts
no_operator k [] e op s = cc
no_operator k (l.name bytes ∷ ts) e op s = cc
no_operator k (l.int n ∷ ts) e op s = cc
no_operator k (l.float units ∷ ts) e op s = cc
no_operator k (l.text bytes ∷ ts) e op s = cc
no_operator k (l.terminal j ∷ ts) e op s = looser k op (ap (at_least k) (sym s) ∙ e)

storing_is : (k : ℕ) (j : Terminal) (op : AssignOp) → storing k j ≡ Some op → (assign_of j ≡ Some op) × (k ≡ 0)
storing_is zero j op e = (e, refl)
storing_is (suc k) j op e = cc

-- the terminal that begins a suffix
abbrev suffix_terminal : Suffix → Terminal
suffix_terminal suffixes.Index = m.Punct p.OpenBracket
suffix_terminal suffixes.Field = m.Punct p.Dot
suffix_terminal suffixes.Increment = m.Punct p.Increment
suffix_terminal suffixes.Decrement = m.Punct p.Decrement

suffix_is : (k : Terminal) (o : Suffix) → suffix_of k ≡ Some o → k ≡ suffix_terminal o
suffix_is (m.Punct p.OpenBracket) o e = let q : suffixes.Index ≡ o = grind arith in ap suffix_terminal q
suffix_is (m.Punct p.Dot) o e = let q : suffixes.Field ≡ o = grind arith in ap suffix_terminal q
suffix_is (m.Punct p.Increment) o e = let q : suffixes.Increment ≡ o = grind arith in ap suffix_terminal q
suffix_is (m.Punct p.Decrement) o e = let q : suffixes.Decrement ≡ o = grind arith in ap suffix_terminal q
suffix_is (m.Punct _) o e = cc
suffix_is (m.Keyword k) o e = cc

module _ (inner : ℕ → Parser Found) (room : ℕ) (sound : Sound inner room) where
  part_sound : (k : ℕ) → SoundFor (IsExpr k) room (inner k)
  part_sound k ts after x eq = (sound k ts after x eq).spelt

  exprs_sound : SoundFor AreExprs room (listed (inner 0))
  exprs_sound ts after ys eq =
      let r = listed_sound (IsExpr 0) room (inner 0) (part_sound 0) (λ x a h d. high_expr d) ts after ys eq in
      record { front = r.front; split = r.split; is = to_exprs r.is; low = r.low }

  arguments_sound : SoundFor AreArguments (max 1 room) (arguments inner room)
  unfolding arguments
  arguments_sound ts after ys eq =
      let s = steps (expect (m.Punct p.OpenParen) ts) _ ys after eq in
      let o = expected (m.Punct p.OpenParen) ts s.between s.value s.was in
      elim (ate (m.Punct p.CloseParen) s.between _ _ ys after s.goes) [
        | did us se eq ↦ ended (λ y vs. Spelt AreArguments (max 1 room) ts y vs) eq (record {
          front = sign p.OpenParen ∷ sign p.CloseParen ∷ [];
          split = o ∙ ap (λ vs. sign p.OpenParen ∷ vs) se;
          is = g.none;
          low = omega arith;
        })
        | didn't f eq ↦
            let i = steps (listed (inner 0) s.between) _ ys after eq in
            let d = exprs_sound s.between i.between i.value i.was in
            let c = steps (expect (m.Punct p.CloseParen) i.between) _ ys after i.goes in
            let e = expected (m.Punct p.CloseParen) i.between c.between c.value c.was in
            ended (λ y vs. Spelt AreArguments (max 1 room) ts y vs) c.goes (record {
              front = sign p.OpenParen ∷ d.front ++ sign p.CloseParen ∷ [];
              split = o ∙ ap (λ vs. sign p.OpenParen ∷ vs) (d.split ∙ ap (λ vs. d.front ++ vs) e ∙ sym (append_assoc d.front (sign p.CloseParen ∷ []) c.between));
              is = g.some d.is;
              low = let low = d.low in omega arith;
            })
      ]

  word_sound : (bytes : List ℕ) (ts after : List Lexeme) (x : Found) → word inner room bytes ts ≡ Some (x, after) → Spelt IsPrimary (room + 1) (l.name bytes ∷ ts) x after
  unfolding word
  word_sound bytes ts after x eq =
      elim (decided (sees (m.Punct p.OpenParen) ts) _ _ ts _ eq) [
        | inl q ↦
            let s = steps (arguments inner room ts) _ x after q.1 in
            let d = arguments_sound ts s.between s.value s.was in
            let h = raised room s.value.1 s.between _ x after s.goes in
            ended (λ y vs. Spelt IsPrimary (room + 1) (l.name bytes ∷ ts) y vs) h.goes (record {
              front = l.name bytes ∷ d.front;
              split = ap (λ vs. l.name bytes ∷ vs) d.split;
              is = g.call bytes d.is;
              low = let low = h.low in omega arith;
            })
        | inr q ↦ ended (λ y vs. Spelt IsPrimary (room + 1) (l.name bytes ∷ ts) y vs) q.1 (record { front = l.name bytes ∷ []; split = refl; is = g.name bytes; low = omega arith })
      ]

  parenthesised_sound : (ts after : List Lexeme) (x : Found) → parenthesised inner room ts ≡ Some (x, after) → Spelt IsPrimary (room + 1) (sign p.OpenParen ∷ ts) x after
  unfolding parenthesised
  parenthesised_sound ts after x eq =
      let s = steps (inner 0 ts) _ x after eq in
      let d = part_sound 0 ts s.between s.value s.was in
      let c = steps (expect (m.Punct p.CloseParen) s.between) _ x after s.goes in
      let e = expected (m.Punct p.CloseParen) s.between c.between c.value c.was in
      let h = raised room s.value.1 c.between _ x after c.goes in
      ended (λ y vs. Spelt IsPrimary (room + 1) (sign p.OpenParen ∷ ts) y vs) h.goes (record {
        front = sign p.OpenParen ∷ d.front ++ sign p.CloseParen ∷ [];
        split = ap (λ vs. sign p.OpenParen ∷ vs) (d.split ∙ ap (λ vs. d.front ++ vs) e ∙ sym (append_assoc d.front (sign p.CloseParen ∷ []) c.between));
        is = g.paren d.is;
        low = let low = h.low in omega arith;
      })

  name_or_paren_sound : SoundFor IsPrimary (room + 1) (name_or_paren inner room)
  unfolding name_or_paren
  name_or_paren_sound ts after x eq =
      elim (decided (is_name (first ts)) _ _ ts _ eq) [
        | inl q ↦
            let b = steps (name ts) _ x after q.1 in
            respelt (named ts b.value b.between b.was) (word_sound b.value b.between after x b.goes)
        | inr q ↦
            let c = steps (expect (m.Punct p.OpenParen) ts) _ x after q.1 in
            respelt (expected (m.Punct p.OpenParen) ts c.between c.value c.was) (parenthesised_sound c.between after x c.goes)
      ]

  leaf_sound : (ts after : List Lexeme) (x : Found) → leaf inner room (literal_of (first ts)) (past (literal_of (first ts)) ts (rest ts)) ≡ Some (x, after) → Spelt IsPrimary (room + 1) ts x after
  leaf_sound [] after x eq = name_or_paren_sound [] after x eq
  leaf_sound (l.name bytes ∷ ts) after x eq = name_or_paren_sound (l.name bytes ∷ ts) after x eq
  leaf_sound (l.int n ∷ ts) after x eq = ended (λ y vs. Spelt IsPrimary (room + 1) (l.int n ∷ ts) y vs) eq (record { front = l.int n ∷ []; split = refl; is = g.int n; low = omega arith })
  leaf_sound (l.float n ∷ ts) after x eq = ended (λ y vs. Spelt IsPrimary (room + 1) (l.float n ∷ ts) y vs) eq (record { front = l.float n ∷ []; split = refl; is = g.float n; low = omega arith })
  leaf_sound (l.text bytes ∷ ts) after x eq = ended (λ y vs. Spelt IsPrimary (room + 1) (l.text bytes ∷ ts) y vs) eq (record { front = l.text bytes ∷ []; split = refl; is = g.text bytes; low = omega arith })
  leaf_sound (l.terminal k ∷ ts) after x eq = name_or_paren_sound (l.terminal k ∷ ts) after x eq

  primary_sound : SoundFor IsPrimary (room + 1) (primary inner room)
  unfolding primary
  primary_sound ts after x eq =
      elim (basing ts (constructed inner room) x after eq) [
        | bases' b front us is se eq ↦
            let s = steps (arguments inner room us) _ x after eq in
            let d = arguments_sound us s.between s.value s.was in
            let h = raised room (max b.1 s.value.1) s.between _ x after s.goes in
            ended (λ y vs. Spelt IsPrimary (room + 1) ts y vs) h.goes (record {
              front = front ++ d.front;
              split = se ∙ ap (λ vs. front ++ vs) d.split ∙ sym (append_assoc front d.front s.between);
              is = g.construct b.0 is d.is;
              low = let low = h.low in omega arith;
            })
        | baseless none eq ↦ leaf_sound ts after x eq
      ]

  step_is : (o : Suffix) (op : PostfixOp) → postfix_of (suffix_terminal o) ≡ Some op → (x : Found) (a ts after : List Lexeme) (y : Found) → IsPostfix x.0 a x.1
      → stepped inner room op x ts ≡ Some (y, after) → Spelt IsPostfix (room + 1) (a ++ l.terminal (suffix_terminal o) ∷ ts) y after
  unfolding stepped
  step_is o op s x a ts after y d eq =
      let h = raised room x.1 ts _ y after eq in
      ended (λ z vs. Spelt IsPostfix (room + 1) (a ++ l.terminal (suffix_terminal o) ∷ ts) z vs) h.goes (record {
        front = a ++ l.terminal (suffix_terminal o) ∷ [];
        split = sym (append_assoc a (l.terminal (suffix_terminal o) ∷ []) ts);
        is = g.step (suffix_terminal o) op s d;
        low = let low = h.low in omega arith;
      })

  suffixed_sound : (o : Suffix) (x : Found) (a ts after : List Lexeme) (y : Found) → IsPostfix x.0 a x.1
      → suffixed inner room x o ts ≡ Some (y, after) → Spelt IsPostfix (room + 1) (a ++ l.terminal (suffix_terminal o) ∷ ts) y after
  unfolding index field
  suffixed_sound suffixes.Index x a ts after y d eq =
      let s = steps (inner 0 ts) _ y after eq in
      let b = part_sound 0 ts s.between s.value s.was in
      let c = steps (expect (m.Punct p.CloseBracket) s.between) _ y after s.goes in
      let e = expected (m.Punct p.CloseBracket) s.between c.between c.value c.was in
      let h = raised room (max x.1 s.value.1) c.between _ y after c.goes in
      let all : (a ++ sign p.OpenBracket ∷ b.front ++ sign p.CloseBracket ∷ []) ++ c.between ≡ a ++ sign p.OpenBracket ∷ (b.front ++ sign p.CloseBracket ∷ c.between) = simp append_assoc in
      ended (λ z vs. Spelt IsPostfix (room + 1) (a ++ sign p.OpenBracket ∷ ts) z vs) h.goes (record {
        front = a ++ sign p.OpenBracket ∷ b.front ++ sign p.CloseBracket ∷ [];
        split = ap (λ vs. a ++ sign p.OpenBracket ∷ vs) (b.split ∙ ap (λ vs. b.front ++ vs) e) ∙ sym all;
        is = g.index d b.is;
        low = let low = h.low in omega arith;
      })
  suffixed_sound suffixes.Field x a ts after y d eq =
      let s = steps (name ts) _ y after eq in
      let e = named ts s.value s.between s.was in
      let h = raised room x.1 s.between _ y after s.goes in
      ended (λ z vs. Spelt IsPostfix (room + 1) (a ++ sign p.Dot ∷ ts) z vs) h.goes (record {
        front = a ++ sign p.Dot ∷ l.name s.value ∷ [];
        split = ap (λ vs. a ++ sign p.Dot ∷ vs) e ∙ sym (append_assoc a (sign p.Dot ∷ l.name s.value ∷ []) s.between);
        is = g.field s.value d;
        low = let low = h.low in omega arith;
      })
  suffixed_sound suffixes.Increment x a ts after y d eq = step_is suffixes.Increment postfixes.Increment refl x a ts after y d eq
  suffixed_sound suffixes.Decrement x a ts after y d eq = step_is suffixes.Decrement postfixes.Decrement refl x a ts after y d eq

  postfix_from_sound : (n : ℕ) (x : Found) (a ts after : List Lexeme) (y : Found) → IsPostfix x.0 a x.1 → x.1 ≤ room + 1
      → postfix_from inner room n x ts ≡ Some (y, after) → Spelt IsPostfix (room + 1) (a ++ ts) y after
  unfolding postfix_from
  postfix_from_sound zero x a ts after y d low eq = cc
  postfix_from_sound (suc n) x a ts after y d low eq =
      elim (taking suffix_of ts (continued inner room x (postfix_from inner room n)) y after eq) [
        | took k o us e se eq ↦
            let s = steps (suffixed inner room x o us) _ y after eq in
            let r = suffixed_sound o x a us s.between s.value d s.was in
            respelt (ap (λ vs. a ++ vs) (se ∙ ap (λ j. l.terminal j ∷ us) (suffix_is k o e)) ∙ r.split)
            (postfix_from_sound n s.value r.front s.between after y r.is r.low s.goes)
        | left f eq ↦ ended (λ z vs. Spelt IsPostfix (room + 1) (a ++ ts) z vs) eq (record { front = a; split = refl; is = d; low = low })
      ]

  postfix_sound : SoundFor IsPostfix (room + 1) (postfix inner room)
  unfolding postfix
  postfix_sound ts after x eq =
      let s = steps (primary inner room ts) _ x after eq in
      let d = primary_sound ts s.between s.value s.was in
      respelt d.split (postfix_from_sound (room + 1) s.value d.front s.between after x (g.primary d.is) d.low s.goes)

  unary_sound : SoundFor IsUnary (room + 1) (unary inner room)
  unfolding unary
  unary_sound ts after x eq =
      elim (taking prefix_of ts (prefixed inner room) x after eq) [
        | took k op us e se eq ↦
            let s = steps (inner 12 us) _ x after eq in
            let d = part_sound 12 us s.between s.value s.was in
            let h = raised room s.value.1 s.between _ x after s.goes in
            ended (λ y vs. Spelt IsUnary (room + 1) ts y vs) h.goes (record {
              front = l.terminal k ∷ d.front;
              split = se ∙ ap (λ vs. l.terminal k ∷ vs) d.split;
              is = g.prefix k op e (only_unary (omega arith) d.is);
              low = let low = h.low in omega arith;
            })
        | left f eq ↦ elim (casting ts (cast inner room) x after eq) [
          | casts b front us is se eq ↦
              let s = steps (inner 12 us) _ x after eq in
              let d = part_sound 12 us s.between s.value s.was in
              let h = raised room (max b.1 s.value.1) s.between _ x after s.goes in
              let all : (sign p.OpenParen ∷ front ++ sign p.CloseParen ∷ d.front) ++ s.between ≡ sign p.OpenParen ∷ front ++ sign p.CloseParen ∷ (d.front ++ s.between) = simp append_assoc in
              ended (λ y vs. Spelt IsUnary (room + 1) ts y vs) h.goes (record {
                front = sign p.OpenParen ∷ front ++ sign p.CloseParen ∷ d.front;
                split = se ∙ ap (λ vs. sign p.OpenParen ∷ front ++ sign p.CloseParen ∷ vs) d.split ∙ sym all;
                is = g.cast b.0 is (only_unary (omega arith) d.is);
                low = let low = h.low in omega arith;
              })
          | uncast eq ↦ let d = postfix_sound ts after x eq in record { front = d.front; split = d.split; is = g.postfix d.is; low = d.low }
        ]
      ]

  climb_sound : (n k : ℕ) (x : Found) (a ts after : List Lexeme) (y : Found) → 2 ≤ k → x.1 ≤ room + 1 → IsExpr k x.0 a x.1
      → ((op : BinaryOp) → of_terminal binary_of (first ts) ≡ Some op → IsExpr (level op) x.0 a x.1)
      → climb inner room n k x ts ≡ Some (y, after) → Spelt (IsExpr k) (room + 1) (a ++ ts) y after × Ends k after
  unfolding climb
  climb_sound zero k x a ts after y two low d next eq = cc
  climb_sound (suc n) k x a ts after y two low d next eq =
      elim (taking (operator k) ts (joined inner room x (climb inner room n k)) y after eq) [
        | took j op us o se eq ↦
            let i = operator_is k j op o in
            let s = steps (inner (level op + 1) us) _ y after eq in
            let r = sound (level op + 1) us s.between s.value s.was in
            let b = r.spelt in
            let h = raised room (max x.1 s.value.1) s.between _ y after s.goes in
            let left = next op (ap (λ vs. of_terminal binary_of (first vs)) se ∙ i.0) in
            let least = i.1 in
            let all : (a ++ l.terminal j ∷ b.front) ++ s.between ≡ a ++ l.terminal j ∷ (b.front ++ s.between) = append_assoc a (l.terminal j ∷ b.front) s.between in
            let go = climb_sound n k _ (a ++ l.terminal j ∷ b.front) s.between after y two (let low = h.low in omega arith)
            (g.binary j op i.0 least left b.is)
            (λ op' e. g.binary j op i.0 (let lt = r.ends op' e in omega arith) left b.is)
            h.goes in
            (respelt (ap (λ vs. a ++ vs) (se ∙ ap (λ vs. l.terminal j ∷ vs) b.split) ∙ sym all) go.0, go.1)
        | left f eq ↦
            ended (λ z vs. Spelt (IsExpr k) (room + 1) (a ++ ts) z vs × Ends k vs) eq
            (record { front = a; split = refl; is = d; low = low }, no_operator k ts f)
      ]

  chosen_sound : (k : ℕ) (x : Found) (a ts after : List Lexeme) (y : Found) → k ≤ 1 → x.1 ≤ room + 1 → IsExpr 2 x.0 a x.1 → Ends 2 ts
      → chosen inner room x ts ≡ Some (y, after) → Spelt (IsExpr k) (room + 1) (a ++ ts) y after × Ends 2 after
  unfolding chosen
  chosen_sound k x a ts after y one low d ends eq =
      elim (ate (m.Punct p.Question) ts _ _ y after eq) [
        | did us se eq ↦
            let s = steps (inner 0 us) _ y after eq in
            let b = part_sound 0 us s.between s.value s.was in
            let c = steps (expect (m.Punct p.Colon) s.between) _ y after s.goes in
            let e = expected (m.Punct p.Colon) s.between c.between c.value c.was in
            let s' = steps (inner 1 c.between) _ y after c.goes in
            let r = sound 1 c.between s'.between s'.value s'.was in
            let b' = r.spelt in
            let h = raised room (max x.1 (max s.value.1 s'.value.1)) s'.between _ y after s'.goes in
            let all : (a ++ sign p.Question ∷ b.front ++ sign p.Colon ∷ b'.front) ++ s'.between ≡ a ++ sign p.Question ∷ (b.front ++ sign p.Colon ∷ (b'.front ++ s'.between)) = simp append_assoc in
            ended (λ z vs. Spelt (IsExpr k) (room + 1) (a ++ ts) z vs × Ends 2 vs) h.goes (
              record {
                front = a ++ sign p.Question ∷ b.front ++ sign p.Colon ∷ b'.front;
                split = ap (λ vs. a ++ vs) (se ∙ ap (λ vs. sign p.Question ∷ vs) (b.split ∙ ap (λ vs. b.front ++ vs) (e ∙ ap (λ vs. sign p.Colon ∷ vs) b'.split))) ∙ sym all;
                is = g.choice one d b.is b'.is;
                low = let low = h.low in omega arith;
              },
              r.ends,
            )
        | didn't f eq ↦
            ended (λ z vs. Spelt (IsExpr k) (room + 1) (a ++ ts) z vs × Ends 2 vs) eq
            (record { front = a; split = refl; is = lower (omega arith) d; low = low }, ends)
      ]

  binary_sound : (k : ℕ) (x : Found) (a ts after : List Lexeme) (y : Found) → x.1 ≤ room + 1 → IsUnary x.0 a x.1
      → binary inner room k x ts ≡ Some (y, after) → SpeltAt k (room + 1) (a ++ ts) y after
  unfolding binary
  binary_sound k x a ts after y low d eq =
      let s = steps (climb inner room (room + 1) (max k 2) x ts) _ y after eq in
      let c = climb_sound (room + 1) (max k 2) x a ts s.between s.value (omega arith) low (g.unary d) (λ op e. g.unary d) s.was in
      elim (decided (is_asking k) _ _ s.between _ s.goes) [
        | inl q ↦
            let one : k ≤ 1 = grind (arith, nat_tests, q.0) in
            let two : max k 2 ≡ 2 = omega arith in
            let r = chosen_sound k s.value c.0.front s.between after y one c.0.low (lower (omega arith) c.0.is) (subst (λ i. Ends i s.between) two c.1) q.1 in
            record { spelt = respelt c.0.split r.0; ends = subst (λ i. Ends i after) (sym two) r.1 }
        | inr q ↦
            ended (λ z vs. SpeltAt k (room + 1) (a ++ ts) z vs) q.1
            (record { spelt = record { front = c.0.front; split = c.0.split; is = lower (omega arith) c.0.is; low = c.0.low }; ends = c.1 })
      ]

  whole_sound : (k : ℕ) (ts after : List Lexeme) (y : Found) → whole inner room k ts ≡ Some (y, after) → SpeltAt k (room + 1) ts y after
  unfolding whole
  whole_sound k ts after y eq =
      let u = steps (unary inner room ts) _ y after eq in
      let d = unary_sound ts u.between u.value u.was in
      elim (taking (storing k) u.between (stored inner room k u.value) y after u.goes) [
        | took j op us o se eq ↦
            let i = storing_is k j op o in
            let s = steps (inner 0 us) _ y after eq in
            let r = sound 0 us s.between s.value s.was in
            let b = r.spelt in
            let h = raised room (max u.value.1 s.value.1) s.between _ y after s.goes in
            let zero : k ≡ 0 = i.1 in
            let two : 2 ≡ max k 2 = omega arith in
            let all : (d.front ++ l.terminal j ∷ b.front) ++ s.between ≡ d.front ++ l.terminal j ∷ (b.front ++ s.between) = append_assoc d.front (l.terminal j ∷ b.front) s.between in
            ended (λ z vs. SpeltAt k (room + 1) ts z vs) h.goes (record {
              spelt = record {
                front = d.front ++ l.terminal j ∷ b.front;
                split = d.split ∙ ap (λ vs. d.front ++ vs) (se ∙ ap (λ vs. l.terminal j ∷ vs) b.split) ∙ sym all;
                is = g.assign j op i.0 zero d.is b.is;
                low = let low = h.low in omega arith;
              };
              ends = subst (λ i. Ends i s.between) two r.ends;
            })
        | left f eq ↦
            let r = binary_sound k u.value d.front u.between after y d.low d.is eq in
            record { spelt = respelt d.split r.spelt; ends = r.ends }
      ]

-- What `expr` reads is spelled.
pub expr_sound : (n : ℕ) → Sound (expr n) n
unfolding expr
expr_sound zero k ts after x eq = cc
expr_sound (suc room) k ts after x eq =
    let r = whole_sound (expr room) room (expr_sound room) k ts after x eq in
    let low = r.spelt.low in
    record { spelt = record { front = r.spelt.front; split = r.spelt.split; is = r.spelt.is; low = omega arith }; ends = r.ends }
