-- What the steps of a parser give, forwards and backwards.
use Rattle.std.proofs.Common.{rules, ◌≡◌, ℕ, ◌+◌, ◌≤◌, Bool, true, false, ◌&&◌, if◌then◌else◌, nat_le, List, [], ◌∷◌, ◌++◌, drop, Option, Some, None, refl, ap, ◌∙◌, arith, inl, inr, subst, ◌⊎◌}
use Rattle.std.specs.Prelude.{ℤ}
use Rattle.std.proofs.lemmas.Bool.Decides.{nat_tests}
use Rattle.std.proofs.lemmas.Option.{some_pair_parts}
use denote.Enum.Bare.{same_true, true_same}
use Rattle.osl_tree.specs.contracts.token.Punct as punct
use Rattle.osl_tree.specs.contracts.terminal.Keyword as word
use Rattle.osl_tree.specs.declared.token.Punct.TheVariants as p
use Rattle.osl_tree.specs.declared.terminal.Keyword.TheVariants as w
use Rattle.osl_tree.specs.declared.terminal.Terminal.{Terminal}
use Rattle.osl_tree.specs.declared.terminal.Terminal.TheVariants as m
use Rattle.osl_tree.specs.Lexeme.{Lexeme}
use Rattle.osl_tree.specs.Lexeme as l
use Rattle.osl_tree.specs.declared.expr.BaseType.{BaseType}
use Rattle.osl_tree.specs.declared.expr.BaseType.TheVariants as bases
use Rattle.osl_tree.specs.Terminals.{sign, key, base_of}
use Rattle.osl_tree.specs.Grammar.{IsBase, of_one_word, closure}
use Rattle.osl_tree.specs.Parser.{Read, Parser, and_then, same_terminal, first, rest, of_terminal, sees, expect, required, name, int, past, height_over, node, or_closure_color, base_at, behind, closed, cast_of, behind_cast}

-- the first of two steps, and the second
pub record Steps {A B : Type 0} (r : Read A) (f : A → Parser B) (y : B) (after : List Lexeme) : Type 0 where
  pub value : A
  pub between : List Lexeme
  pub was : r ≡ Some (value, between)
  pub goes : f value between ≡ Some (y, after)

pub steps : {A B : Type 0} (r : Read A) (f : A → Parser B) (y : B) (after : List Lexeme) → and_then r f ≡ Some (y, after) → Steps r f y after
steps None f y after e = cc
steps (Some r) f y after e = record { value = r.0; between = r.1; was = refl; goes = e }

-- the last step
pub ended : {A : Type 0} (P : A → List Lexeme → Type 0) {x y : A} {us after : List Lexeme} → ◌≡◌ {A = Read A} (Some (x, us)) (Some (y, after)) → P x us → P y after
ended P {x} {y} {us} {after} e r = let q = some_pair_parts x y us after e in subst (λ z. P z after) q.0 (subst (λ vs. P x vs) q.1 r)

-- ---- terminals

pub same_terminals : (j k : Terminal) → same_terminal j k ≡ true → j ≡ k
unfolding same_terminal
same_terminals (m.Punct j) (m.Punct k) e = ap (λ i. m.Punct i) (same_true punct.the_type (search rules) j k e)
same_terminals (m.Punct j) (m.Keyword k) e = cc
same_terminals (m.Keyword j) (m.Punct k) e = cc
same_terminals (m.Keyword j) (m.Keyword k) e = ap (λ i. m.Keyword i) (same_true word.the_type (search rules) j k e)

pub terminal_is_same : (k : Terminal) → same_terminal k k ≡ true
unfolding same_terminal
terminal_is_same (m.Punct k) = true_same punct.the_type k k refl
terminal_is_same (m.Keyword k) = true_same word.the_type k k refl

pub sees_terminal : (k : Terminal) (ts : List Lexeme) → sees k (l.terminal k ∷ ts) ≡ true
unfolding sees
sees_terminal k ts = terminal_is_same k

-- what is seen is there
pub seen : (k : Terminal) (ts : List Lexeme) → sees k ts ≡ true → ts ≡ l.terminal k ∷ rest ts
unfolding sees
seen k [] e = cc
seen k (l.name bytes ∷ ts) e = cc
seen k (l.int n ∷ ts) e = cc
seen k (l.float units ∷ ts) e = cc
seen k (l.text bytes ∷ ts) e = cc
seen k (l.terminal j ∷ ts) e = ap (λ i. l.terminal i ∷ ts) (same_terminals j k e)

pub expect_terminal : (k : Terminal) (ts : List Lexeme) → expect k (l.terminal k ∷ ts) ≡ Some (tt, ts)
unfolding expect
expect_terminal k ts = rw (sees_terminal k ts) refl

pub expected : (k : Terminal) (ts after : List Lexeme) (u : Unit {0}) → expect k ts ≡ Some (u, after) → ts ≡ l.terminal k ∷ after
unfolding expect
expected k ts after u e = go (sees k ts) refl e
  where
    go : (b : Bool) → sees k ts ≡ b → if◌then◌else◌ {A = Read (Unit {0})} b (Some (tt, rest ts)) None ≡ Some (u, after) → ts ≡ l.terminal k ∷ after
    go true s e = let r : rest ts ≡ after = grind arith in seen k ts s ∙ ap (λ us. l.terminal k ∷ us) r
    go false s e = cc

-- ---- heights

pub node_in : (room h : ℕ) (ts : List Lexeme) → h ≤ room → node room h ts ≡ Some (h + 1, ts)
unfolding height_over
node_in room h ts low = let e : nat_le h room ≡ true = grind (arith, nat_tests) in rw e refl

-- a node was allowed, and the reading went on with its height
pub record Raised {B : Type 0} (room h : ℕ) (ts : List Lexeme) (go : ℕ → Parser B) (y : B) (after : List Lexeme) : Type 0 where
  pub low : h ≤ room
  pub goes : go (h + 1) ts ≡ Some (y, after)

pub raised : {B : Type 0} (room h : ℕ) (ts : List Lexeme) (go : ℕ → Parser B) (y : B) (after : List Lexeme) → and_then (node room h ts) go ≡ Some (y, after) → Raised room h ts go y after
unfolding height_over
raised room h ts go y after e = by (nat_le h room) refl e
  where
    by : (b : Bool) → nat_le h room ≡ b → and_then (required (if b then Some (h + 1) else None) ts) go ≡ Some (y, after) → Raised room h ts go y after
    by true s e = record { low = grind (arith, nat_tests); goes = e }
    by false s e = cc

-- ---- names and ints

pub named : (ts : List Lexeme) (bytes : List ℕ) (after : List Lexeme) → name ts ≡ Some (bytes, after) → ts ≡ l.name bytes ∷ after
unfolding name
named [] bytes after e = cc
named (l.name b ∷ ts) bytes after e = let q = some_pair_parts b bytes ts after e in ap (λ c. l.name c ∷ ts) q.0 ∙ ap (λ us. l.name bytes ∷ us) q.1
named (l.int n ∷ ts) bytes after e = cc
named (l.float units ∷ ts) bytes after e = cc
named (l.text b ∷ ts) bytes after e = cc
named (l.terminal k ∷ ts) bytes after e = cc

pub name_is : (bytes : List ℕ) (ts : List Lexeme) → name (l.name bytes ∷ ts) ≡ Some (bytes, ts)
unfolding name
name_is bytes ts = refl

pub numbered : (ts : List Lexeme) (n : ℤ) (after : List Lexeme) → int ts ≡ Some (n, after) → ts ≡ l.int n ∷ after
unfolding int
numbered [] n after e = cc
numbered (l.name b ∷ ts) n after e = cc
numbered (l.int i ∷ ts) n after e = let q = some_pair_parts i n ts after e in ap (λ j. l.int j ∷ ts) q.0 ∙ ap (λ us. l.int n ∷ us) q.1
numbered (l.float units ∷ ts) n after e = cc
numbered (l.text b ∷ ts) n after e = cc
numbered (l.terminal k ∷ ts) n after e = cc

pub int_is : (n : ℤ) (ts : List Lexeme) → int (l.int n ∷ ts) ≡ Some (n, ts)
unfolding int
int_is n ts = refl

-- ---- choices

-- a terminal that f knows
pub record Taken {A : Type 0} (f : Terminal → Option A) (a : A) (ts : List Lexeme) : Type 0 where
  pub terminal : Terminal
  pub is : f terminal ≡ Some a
  pub split : ts ≡ l.terminal terminal ∷ rest ts

pub taken : {A : Type 0} (f : Terminal → Option A) (a : A) (ts : List Lexeme) → of_terminal f (first ts) ≡ Some a → Taken f a ts
taken f a [] e = cc
taken f a (l.name bytes ∷ ts) e = cc
taken f a (l.int n ∷ ts) e = cc
taken f a (l.float units ∷ ts) e = cc
taken f a (l.text bytes ∷ ts) e = cc
taken f a (l.terminal k ∷ ts) e = record { terminal = k; is = e; split = refl }

-- a terminal was there and was taken, or it was not
pub data Ate {B : Type 0} (k : Terminal) (ts : List Lexeme) (this other : Parser B) (y : B) (after : List Lexeme) : Type 0 where
  did : (us : List Lexeme) → ts ≡ l.terminal k ∷ us → this us ≡ Some (y, after) → Ate k ts this other y after
  didn't : sees k ts ≡ false → other ts ≡ Some (y, after) → Ate k ts this other y after

pub ate : {B : Type 0} (k : Terminal) (ts : List Lexeme) (this other : Parser B) (y : B) (after : List Lexeme)
    → (if sees k ts then this else other) (if sees k ts then rest ts else ts) ≡ Some (y, after) → Ate k ts this other y after
ate k ts this other y after e = go (sees k ts) refl e
  where
    go : (b : Bool) → sees k ts ≡ b → (if b then this else other) (if b then rest ts else ts) ≡ Some (y, after) → Ate k ts this other y after
    go true s e = did (rest ts) (seen k ts s) e
    go false s e = didn't s e

-- a terminal of which f makes something was taken, or none was there
pub data Took {A B : Type 0} (f : Terminal → Option A) (ts : List Lexeme) (go : Option A → Parser B) (y : B) (after : List Lexeme) : Type 0 where
  took : (k : Terminal) (a : A) (us : List Lexeme) → f k ≡ Some a → ts ≡ l.terminal k ∷ us → go (Some a) us ≡ Some (y, after) → Took f ts go y after
  left : of_terminal f (first ts) ≡ None → go None ts ≡ Some (y, after) → Took f ts go y after

pub taking : {A B : Type 0} (f : Terminal → Option A) (ts : List Lexeme) (go : Option A → Parser B) (y : B) (after : List Lexeme)
    → go (of_terminal f (first ts)) (past (of_terminal f (first ts)) ts (rest ts)) ≡ Some (y, after) → Took f ts go y after
taking f [] go y after e = left refl e
taking f (l.name bytes ∷ ts) go y after e = left refl e
taking f (l.int n ∷ ts) go y after e = left refl e
taking f (l.float units ∷ ts) go y after e = left refl e
taking f (l.text bytes ∷ ts) go y after e = left refl e
taking f (l.terminal k ∷ ts) go y after e = by (f k) refl e
  where
    by : (o : Option _) → f k ≡ o → go o (past o (l.terminal k ∷ ts) ts) ≡ Some (y, after) → Took f (l.terminal k ∷ ts) go y after
    by None s e = left s e
    by (Some a) s e = took k a ts s refl e

pub decided : {B : Type 0} (b : Bool) (this other : Parser B) (ts : List Lexeme) (r : Read B) → (if b then this else other) ts ≡ r → ((b ≡ true) × (this ts ≡ r)) ⊎ ((b ≡ false) × (other ts ≡ r))
decided true this other ts r e = inl (refl, e)
decided false this other ts r e = inr (refl, e)

-- ---- types

pub both_true : {A : Type 0} (b c : Bool) (o : Option A) (a : A) → (if b && c then o else None) ≡ Some a → (b ≡ true) × (c ≡ true) × (o ≡ Some a)
both_true true true o a e = (refl, refl, e)
both_true true false o a e = cc
both_true false c o a e = cc

-- the tokens of a type that comes next
pub record Based (ts : List Lexeme) (to : BaseType × ℕ) : Type 0 where
  pub front : List Lexeme
  pub split : ts ≡ front ++ drop to.1 ts
  pub is : IsBase to.0 front to.1

one_word : (terminal : Terminal) (to : BaseType) (ts : List Lexeme) (b : BaseType × ℕ) → base_of terminal ≡ Some to → ts ≡ l.terminal terminal ∷ rest ts → ◌≡◌ {A = BaseType × ℕ} (to, 1) b → Based ts b
one_word terminal to ts b is split same =
    subst (Based ts) same (subst (λ us. Based us (to, 1)) (let q : l.terminal terminal ∷ rest ts ≡ ts = grind arith in q)
    (record { front = l.terminal terminal ∷ []; split = refl; is = of_one_word terminal to is }))

two_words : (ts : List Lexeme) (b : BaseType × ℕ) → ts ≡ key w.Closure ∷ rest ts → rest ts ≡ key w.Color ∷ rest (rest ts) → ◌≡◌ {A = BaseType × ℕ} (bases.Closure, 2) b → Based ts b
two_words ts b one two same =
    subst (Based ts) same (subst (λ us. Based us (bases.Closure, 2)) (let q : key w.Closure ∷ key w.Color ∷ rest (rest ts) ≡ ts = grind arith in q)
    (record { front = key w.Closure ∷ key w.Color ∷ []; split = refl; is = closure }))

pub based : (ts : List Lexeme) (b : BaseType × ℕ) → base_at ts ≡ Some b → Based ts b
unfolding base_at
based ts b e = by (of_terminal base_of (first ts)) refl e
  where
    by : (o : Option BaseType) → of_terminal base_of (first ts) ≡ o → or_closure_color o ts ≡ Some b → Based ts b
    by (Some to) s e = let k = taken base_of to ts s in one_word k.terminal to ts b k.is k.split (grind arith)
    by None s e =
        let c = both_true (sees (m.Keyword w.Closure) ts) (sees (m.Keyword w.Color) (rest ts)) (Some (bases.Closure, 2)) b e in
        two_words ts b (seen (m.Keyword w.Closure) ts c.0) (seen (m.Keyword w.Color) (rest ts) c.1) (grind arith)

-- a type was taken, or none was there
pub data Basing {B : Type 0} (ts : List Lexeme) (go : Option (BaseType × ℕ) → Parser B) (y : B) (after : List Lexeme) : Type 0 where
  bases' : (b : BaseType × ℕ) (front us : List Lexeme) → IsBase b.0 front b.1 → ts ≡ front ++ us → go (Some b) us ≡ Some (y, after) → Basing ts go y after
  baseless : base_at ts ≡ None → go None ts ≡ Some (y, after) → Basing ts go y after

pub basing : {B : Type 0} (ts : List Lexeme) (go : Option (BaseType × ℕ) → Parser B) (y : B) (after : List Lexeme)
    → go (base_at ts) (behind (base_at ts) ts) ≡ Some (y, after) → Basing ts go y after
basing ts go y after e = by (base_at ts) refl e
  where
    by : (o : Option (BaseType × ℕ)) → base_at ts ≡ o → go o (behind o ts) ≡ Some (y, after) → Basing ts go y after
    by None s e = baseless s e
    by (Some b) s e = let r = based ts b s in bases' b r.front (drop b.1 ts) r.is r.split e

-- a type in parentheses was taken, or none was there
pub data Casting {B : Type 0} (ts : List Lexeme) (go : Option (BaseType × ℕ) → Parser B) (y : B) (after : List Lexeme) : Type 0 where
  casts : (b : BaseType × ℕ) (front us : List Lexeme) → IsBase b.0 front b.1 → ts ≡ sign p.OpenParen ∷ front ++ sign p.CloseParen ∷ us → go (Some b) us ≡ Some (y, after) → Casting ts go y after
  uncast : go None ts ≡ Some (y, after) → Casting ts go y after

record Closed (ts : List Lexeme) (b : BaseType × ℕ) : Type 0 where
  front : List Lexeme
  is : IsBase b.0 front b.1
  split : ts ≡ front ++ sign p.CloseParen ∷ rest (drop b.1 ts)

closing : (ts : List Lexeme) (o : Option (BaseType × ℕ)) (b : BaseType × ℕ) → base_at ts ≡ o → closed o ts ≡ Some b → Closed ts b
closing ts None b s e = cc
closing ts (Some c) b s e = by (sees (m.Punct p.CloseParen) (drop c.1 ts)) refl e
  where
    by : (t : Bool) → sees (m.Punct p.CloseParen) (drop c.1 ts) ≡ t → (if t then Some c else None) ≡ Some b → Closed ts b
    by true f e =
        let r = based ts c s in
        let q : c ≡ b = grind arith in
        subst (Closed ts) q (record { front = r.front; is = r.is; split = r.split ∙ ap (λ us. r.front ++ us) (seen (m.Punct p.CloseParen) (drop c.1 ts) f) })
    by false f e = cc

pub casting : {B : Type 0} (ts : List Lexeme) (go : Option (BaseType × ℕ) → Parser B) (y : B) (after : List Lexeme)
    → go (cast_of ts) (behind_cast (cast_of ts) ts) ≡ Some (y, after) → Casting ts go y after
unfolding cast_of
casting ts go y after e = by (sees (m.Punct p.OpenParen) ts) refl e
  where
    inside : (o : Option (BaseType × ℕ)) → sees (m.Punct p.OpenParen) ts ≡ true → closed (base_at (rest ts)) (rest ts) ≡ o → go o (behind_cast o ts) ≡ Some (y, after) → Casting ts go y after
    inside None s f e = uncast e
    inside (Some b) s f e =
        let r = closing (rest ts) (base_at (rest ts)) b refl f in
        casts b r.front (rest (drop b.1 (rest ts))) r.is (seen (m.Punct p.OpenParen) ts s ∙ ap (λ us. sign p.OpenParen ∷ us) r.split) e

    by : (t : Bool) → sees (m.Punct p.OpenParen) ts ≡ t
        → go (if t then closed (base_at (rest ts)) (rest ts) else None) (behind_cast (if t then closed (base_at (rest ts)) (rest ts) else None) ts) ≡ Some (y, after) → Casting ts go y after
    by false s e = uncast e
    by true s e = inside (closed (base_at (rest ts)) (rest ts)) s refl e

-- ---- forwards

pub bound : {A B : Type 0} {r : Read A} (f : A → Parser B) {x : A} {us : List Lexeme} {y : Read B} → r ≡ Some (x, us) → f x us ≡ y → and_then r f ≡ y
bound f s go = rw s go

pub eats : {B : Type 0} (k : Terminal) (us : List Lexeme) (this other : Parser B) {y : Read B} → this us ≡ y
    → (if sees k (l.terminal k ∷ us) then this else other) (if sees k (l.terminal k ∷ us) then us else l.terminal k ∷ us) ≡ y
eats k us this other go = rw (sees_terminal k us) go

pub skips : {B : Type 0} (k : Terminal) (ts : List Lexeme) (this other : Parser B) {y : Read B} → sees k ts ≡ false → other ts ≡ y
    → (if sees k ts then this else other) (if sees k ts then rest ts else ts) ≡ y
skips k ts this other s go = rw s go

pub takes : {A B : Type 0} (f : Terminal → Option A) (k : Terminal) (a : A) (us : List Lexeme) (go : Option A → Parser B) {y : Read B} → f k ≡ Some a → go (Some a) us ≡ y
    → go (f k) (past (f k) (l.terminal k ∷ us) us) ≡ y
takes f k a us go s e = rw s e

pub leaves : {A B : Type 0} (o : Option A) (ts us : List Lexeme) (go : Option A → Parser B) {y : Read B} → o ≡ None → go None ts ≡ y → go o (past o ts us) ≡ y
leaves o ts us go s e = rw s e
