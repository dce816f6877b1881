-- Steps of reading from the front of a list of tokens: what was read and the rest, or nothing.
use Rattle.std.specs.Prelude.{ℕ, zero, suc, ◌+◌, max, Bool, true, false, not, ◌&&◌, if◌then◌else◌, nat_le, List, [], ◌∷◌, ◌++◌, length, drop, Option, Some, None, ℤ}
use denote.Enum.Bare.{sameb}
use Rattle.osl_tree.specs.contracts.token.Punct as punct
use Rattle.osl_tree.specs.contracts.terminal.Keyword as word
use Rattle.osl_tree.specs.declared.token.Punct.TheVariants as p
use Rattle.osl_tree.specs.declared.terminal.Keyword.TheVariants as w
use Rattle.osl_tree.specs.declared.terminal.Terminal.{Terminal}
use Rattle.osl_tree.specs.declared.terminal.Terminal.TheVariants as m
use Rattle.osl_tree.specs.Lexeme.{Lexeme}
use Rattle.osl_tree.specs.Lexeme as l
use Rattle.osl_tree.specs.declared.expr.BaseType.{BaseType}
use Rattle.osl_tree.specs.declared.expr.BaseType.TheVariants as bases
use Rattle.osl_tree.specs.declared.stmt.TypeName.{TypeName}
use Rattle.osl_tree.specs.declared.stmt.TypeName.TheVariants as types
use Rattle.osl_tree.specs.Terminals.{base_of}

abbrev pub Read : Type 0 → Type 0
Read A = Option (A × List Lexeme)

abbrev pub Parser : Type 0 → Type 0
Parser A = List Lexeme → Read A

abbrev pub and_then : {A B : Type 0} → Read A → (A → Parser B) → Read B
and_then None f = None
and_then (Some r) f = f r.0 r.1

infixl 10 ◌>>=◌
abbrev pub ◌>>=◌ : {A B : Type 0} → Parser A → (A → Parser B) → Parser B
r >>= f = λ ts. and_then (r ts) f

infixl 10 ◌>>◌
abbrev pub ◌>>◌ : {A B : Type 0} → Parser A → Parser B → Parser B
r >> q = r >>= (λ _. q)

abbrev pub pure : {A : Type 0} → A → Parser A
pure a = λ ts. Some (a, ts)

abbrev pub refuse : {A : Type 0} → Parser A
refuse = λ ts. None

-- ---- what is in front

abbrev pub first : List Lexeme → Option Lexeme
first [] = None
first (x ∷ xs) = Some x

abbrev pub rest : List Lexeme → List Lexeme
rest [] = []
rest (x ∷ xs) = xs

unfoldable pub same_terminal : Terminal → Terminal → Bool
same_terminal (m.Punct j) (m.Punct k) = sameb punct.the_type j k
same_terminal (m.Punct j) (m.Keyword k) = false
same_terminal (m.Keyword j) (m.Punct k) = false
same_terminal (m.Keyword j) (m.Keyword k) = sameb word.the_type j k

-- what f makes of the token, if it is a terminal
abbrev pub of_terminal : {A : Type 0} → (Terminal → Option A) → Option Lexeme → Option A
of_terminal f None = None
of_terminal f (Some (l.name bytes)) = None
of_terminal f (Some (l.int n)) = None
of_terminal f (Some (l.float units)) = None
of_terminal f (Some (l.text bytes)) = None
of_terminal f (Some (l.terminal terminal)) = f terminal

abbrev pub is_terminal : Terminal → Option Lexeme → Bool
is_terminal k None = false
is_terminal k (Some (l.name bytes)) = false
is_terminal k (Some (l.int n)) = false
is_terminal k (Some (l.float units)) = false
is_terminal k (Some (l.text bytes)) = false
is_terminal k (Some (l.terminal terminal)) = same_terminal terminal k

abbrev pub name_of : Option Lexeme → Option (List ℕ)
name_of None = None
name_of (Some (l.name bytes)) = Some bytes
name_of (Some (l.int n)) = None
name_of (Some (l.float units)) = None
name_of (Some (l.text bytes)) = None
name_of (Some (l.terminal terminal)) = None

abbrev pub int_of : Option Lexeme → Option ℤ
int_of None = None
int_of (Some (l.name bytes)) = None
int_of (Some (l.int n)) = Some n
int_of (Some (l.float units)) = None
int_of (Some (l.text bytes)) = None
int_of (Some (l.terminal terminal)) = None

abbrev pub is_name : Option Lexeme → Bool
is_name None = false
is_name (Some (l.name bytes)) = true
is_name (Some (l.int n)) = false
is_name (Some (l.float units)) = false
is_name (Some (l.text bytes)) = false
is_name (Some (l.terminal terminal)) = false

unfoldable pub sees : Terminal → List Lexeme → Bool
sees k ts = is_terminal k (first ts)

-- ---- steps

abbrev pub peek : Terminal → Parser Bool
peek k = λ ts. Some (sees k ts, ts)

-- takes this terminal, if it comes next
abbrev pub eat : Terminal → Parser Bool
eat k = λ ts. Some (sees k ts, if sees k ts then rest ts else ts)

unfoldable pub expect : Terminal → Parser (Unit {0})
expect k = λ ts. if sees k ts then Some (tt, rest ts) else None

-- goes on after it, if there is a value
abbrev pub required : {A : Type 0} → Option A → List Lexeme → Read A
required None us = None
required (Some a) us = Some (a, us)

-- whether a name comes next
abbrev pub asks_name : Parser Bool
asks_name = λ ts. Some (is_name (first ts), ts)

-- takes a name
unfoldable pub name : Parser (List ℕ)
name = λ ts. required (name_of (first ts)) (rest ts)

-- takes an int
unfoldable pub int : Parser ℤ
int = λ ts. required (int_of (first ts)) (rest ts)

abbrev pub past : {A : Type 0} → Option A → List Lexeme → List Lexeme → List Lexeme
past None ts us = ts
past (Some a) ts us = us

-- takes the next token, if it is a terminal of which f makes something
abbrev pub take_as : {A : Type 0} → (Terminal → Option A) → Parser (Option A)
take_as f = λ ts. Some (of_terminal f (first ts), past (of_terminal f (first ts)) ts (rest ts))

-- The height of a node over parts of this height, which may be no higher than room.
unfoldable pub height_over : ℕ → ℕ → Option ℕ
height_over room h = if nat_le h room then Some (h + 1) else None

abbrev pub node : ℕ → ℕ → Parser ℕ
node room h = λ ts. required (height_over room h) ts

-- ---- types

abbrev pub closure_color : List Lexeme → Option (BaseType × ℕ)
closure_color ts = if sees (m.Keyword w.Closure) ts && sees (m.Keyword w.Color) (rest ts) then Some (bases.Closure, 2) else None

abbrev pub or_closure_color : Option BaseType → List Lexeme → Option (BaseType × ℕ)
or_closure_color None ts = closure_color ts
or_closure_color (Some to) ts = Some (to, 1)

-- a type that reserved words name, and how many they are, which is its height too
unfoldable pub base_at : List Lexeme → Option (BaseType × ℕ)
base_at ts = or_closure_color (of_terminal base_of (first ts)) ts

-- takes so many tokens, if there is something
abbrev pub behind : Option (BaseType × ℕ) → List Lexeme → List Lexeme
behind None ts = ts
behind (Some b) ts = drop b.1 ts

-- takes a type that reserved words name, if it comes next
abbrev pub take_base : Parser (Option (BaseType × ℕ))
take_base = λ ts. Some (base_at ts, behind (base_at ts) ts)

-- takes a type, whose height is the number of its tokens
abbrev pub named_type : Option (BaseType × ℕ) → Parser (TypeName × ℕ)
named_type (Some b) = pure (types.Base b.0, b.1)
named_type None = do
  bytes ← name
  pure (types.Struct bytes, 1)

unfoldable pub type_name : Parser (TypeName × ℕ)
type_name = take_base >>= named_type

abbrev pub closed : Option (BaseType × ℕ) → List Lexeme → Option (BaseType × ℕ)
closed None ts = None
closed (Some b) ts = if sees (m.Punct p.CloseParen) (drop b.1 ts) then Some b else None

-- a type in parentheses
unfoldable pub cast_of : List Lexeme → Option (BaseType × ℕ)
cast_of ts = if sees (m.Punct p.OpenParen) ts then closed (base_at (rest ts)) (rest ts) else None

abbrev pub behind_cast : Option (BaseType × ℕ) → List Lexeme → List Lexeme
behind_cast None ts = ts
behind_cast (Some b) ts = rest (drop b.1 (rest ts))

abbrev pub take_cast : Parser (Option (BaseType × ℕ))
take_cast = λ ts. Some (cast_of ts, behind_cast (cast_of ts) ts)

abbrev pub declares_at : Option (BaseType × ℕ) → List Lexeme → Bool
declares_at None ts = is_name (first ts) && is_name (first (rest ts))
declares_at (Some b) ts = is_name (first (drop b.1 ts))

-- a type and a name begin a declaration
unfoldable pub declares : List Lexeme → Bool
declares ts = declares_at (base_at ts) ts

-- ---- lists

-- One or more with commas between them, after those that were read. There are no more than so many.
unfoldable pub listed_from : {A : Type 0} → Parser (A × ℕ) → ℕ → List A → ℕ → Parser (List A × ℕ)
listed_from one zero xs h = refuse
listed_from one (suc n) xs h = do
  x ← one
  more ← eat (m.Punct p.Comma)
  if more then listed_from one n (xs ++ x.0 ∷ []) (max h x.1) else pure (xs ++ x.0 ∷ [], max h x.1)

-- one or more, and the height of the highest
unfoldable pub listed : {A : Type 0} → Parser (A × ℕ) → Parser (List A × ℕ)
listed one = λ ts. listed_from one (length ts) [] 1 ts

-- the same, but a comma may follow the last: there this terminal closes the list
unfoldable pub trailed_from : {A : Type 0} → Terminal → Parser (A × ℕ) → ℕ → List A → ℕ → Parser (List A × ℕ)
trailed_from close one zero xs h = refuse
trailed_from close one (suc n) xs h = do
  x ← one
  more ← eat (m.Punct p.Comma)
  ends ← peek close
  if more && not ends then trailed_from close one n (xs ++ x.0 ∷ []) (max h x.1) else pure (xs ++ x.0 ∷ [], max h x.1)

unfoldable pub trailed : {A : Type 0} → Terminal → Parser (A × ℕ) → Parser (List A × ℕ)
trailed close one = λ ts. trailed_from close one (length ts) [] 1 ts
