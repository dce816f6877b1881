-- Reading from the front of a list of pieces and marks: what was read and the rest, or nothing.
use Rattle.std.specs.Prelude.{◌≡◌, ℕ, Bool, false, ◌==◌, if◌then◌else◌, List, [], ◌∷◌, Option, Some, None, Result, Ok, Err, bytes_eq}
use Rattle.osl_job.specs.declared.text.ReadStop.{ReadStop}
use Rattle.osl_job.specs.declared.text.ReadStop.TheVariants.{NotBuilt, Memory}
use Rattle.osl_job.specs.Text.{Lexeme, Piece, Mark}

abbrev pub Read : Type 0 → Type 0
Read A = Option (A × List Lexeme)

abbrev pub Reader : Type 0 → Type 0
Reader A = List Lexeme → Read A

abbrev pub and_then : {A B : Type 0} → Read A → (A → Reader B) → Read B
and_then None f = None
and_then (Some p) f = f p.0 p.1

infixl 10 ◌>>=◌
abbrev pub ◌>>=◌ : {A B : Type 0} → Reader A → (A → Reader B) → Reader B
p >>= f = λ ls. and_then (p ls) f

infixl 10 ◌>>◌
abbrev pub ◌>>◌ : {A B : Type 0} → Reader A → Reader B → Reader B
p >> q = p >>= (λ _. q)

abbrev pub pure : {A : Type 0} → A → Reader A
pure a = λ ls. Some (a, ls)

-- ---- one step

abbrev pub rest : List Lexeme → List Lexeme
rest [] = []
rest (l ∷ ls) = ls

-- the piece that comes next
abbrev pub piece_of : List Lexeme → Option (List ℕ)
piece_of [] = None
piece_of (Piece text ∷ ls) = Some text
piece_of (Mark c ∷ ls) = None

-- the mark that comes next
abbrev pub mark_of : List Lexeme → Option ℕ
mark_of [] = None
mark_of (Piece text ∷ ls) = None
mark_of (Mark c ∷ ls) = Some c

abbrev pub passes : {A : Type 0} → (A → Bool) → Option A → Bool
passes test None = false
passes test (Some x) = test x

unfoldable pub sees_word : List ℕ → List Lexeme → Bool
sees_word text ls = passes (λ t. bytes_eq t text) (piece_of ls)

unfoldable pub sees_mark : ℕ → List Lexeme → Bool
sees_mark c ls = passes (λ m. m == c) (mark_of ls)

-- this word comes next, or nothing is read
abbrev pub word : List ℕ → Reader (Unit {0})
word text = λ ls. if sees_word text ls then Some (tt, rest ls) else None

-- this mark comes next, or nothing is read
abbrev pub mark : ℕ → Reader (Unit {0})
mark c = λ ls. if sees_mark c ls then Some (tt, rest ls) else None

-- takes this word, if it comes next
abbrev pub eat_word : List ℕ → Reader Bool
eat_word text = λ ls. Some (sees_word text ls, if sees_word text ls then rest ls else ls)

abbrev pub of_piece : {A : Type 0} → (List ℕ → Option A) → Option (List ℕ) → Option A
of_piece f None = None
of_piece f (Some text) = f text

abbrev pub found : {A : Type 0} → Option A → List Lexeme → Read A
found None after = None
found (Some x) after = Some (x, after)

-- what f makes of the piece that comes next
abbrev pub piece : {A : Type 0} → (List ℕ → Option A) → Reader A
piece f = λ ls. found (of_piece f (piece_of ls)) (rest ls)

abbrev pub is_end : {L : Type 0} → List L → Bool
is_end [] = Bool.true
is_end (l ∷ ls) = false

-- what was read, if nothing is left
abbrev pub ended : {A L : Type 0} → Option (A × List L) → Option A
ended None = None
ended (Some p) = if is_end p.1 then Some p.0 else None

-- ---- what a function that reads ensures: the outcome of the reading, unless memory runs out

abbrev pub Reads : {A L : Type 0} → Option (A × List L) → Result A ReadStop → List L → Type 0
Reads read (Ok a) after = read ≡ Some (a, after)
Reads read (Err NotBuilt) after = read ≡ None
Reads read (Err Memory) after = Unit {0}

abbrev pub ReadsWhole : {A : Type 0} → Option A → Result A ReadStop → Type 0
ReadsWhole read (Ok a) = read ≡ Some a
ReadsWhole read (Err NotBuilt) = read ≡ None
ReadsWhole read (Err Memory) = Unit {0}

-- this, unless memory runs out
abbrev pub OnlyMemory : {A : Type 0} → A → Result A ReadStop → Type 0
OnlyMemory x (Ok a) = a ≡ x
OnlyMemory x (Err NotBuilt) = ⊥
OnlyMemory x (Err Memory) = Unit {0}
