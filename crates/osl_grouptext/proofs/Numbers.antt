-- The statements of words, one after another.
use denote.Ref.{Bor}
use Rattle.std.proofs.Common.{◌≡◌, ℕ, ◌+◌, ◌-◌, ◌<◌, ◌==◌, List, [], ◌∷◌, ◌++◌, length, take, drop, Ok, Err, refl, sym, ap, subst, ◌∙◌, append_assoc, Bool, true, false, cond, Option, Some, None, not, nat_lt, suc, ◌≤◌, arith}
use Rattle.std.specs.Prelude.{Result, if◌then◌else◌}
use Rattle.std.specs.List.{slice_split, onto_first, position, position_or_len}
use Rattle.std.proofs.lemmas.Bool.{ltb-true, ltb-false}
use Rattle.std.proofs.lemmas.List.{take-map, drop-map, take_rest}
use Rattle.std.proofs.lemmas.List.Splits.{slice_split_first}
use Rattle.osl_valuetext.specs.declared.unread.Unread.{Unread}
use Rattle.osl_valuetext.specs.declared.unread.Unread.TheVariants as unread
use Rattle.osl_valuetext.specs.Scan.{spoken}
use Rattle.osl_valuetext.specs.Unread.{Tells}
use Rattle.osl_valuetext.specs.Words.{Line}
use Rattle.osl_network.specs.declared.statement.Statement.{Statement}
use Rattle.osl_grouptext.specs.Reading.{is_semicolon, with_statement, onto, reads}
use Rattle.osl_grouptext.specs.Statements.{statement_at}

-- what was read, before what is read
abbrev pub with_front : List Statement → Result (List Statement) ℕ → Result (List Statement) ℕ
with_front front (Ok more) = Ok (front ++ more)
with_front front (Err number) = Err number

two_parts : (xs : Line) → (first : Line) × (others : List Line) × (slice_split is_semicolon xs ≡ first ∷ others)
two_parts [] = ([], [], refl)
two_parts (x ∷ xs) = go (is_semicolon x) (slice_split is_semicolon xs)
  where
    go : (b : Bool) (parts : List Line) → (first : Line) × (others : List Line) × (cond b ([] ∷ slice_split is_semicolon xs) (onto_first x parts) ≡ first ∷ others)
    go true parts = ([], slice_split is_semicolon xs, refl)
    go false [] = (x ∷ [], [], refl)
    go false (p ∷ parts) = (x ∷ p, parts, refl)

reads_more : (number : ℕ) (statement : Line) (xs : Line) → reads number (statement ∷ slice_split is_semicolon xs) ≡ onto number (statement_at statement) (reads (number + 1) (slice_split is_semicolon xs))
unfolding reads
reads_more number statement xs =
    let parts = two_parts xs in
    ap (λ (ps : List Line). reads number (statement ∷ ps)) parts.2 ∙ ap (λ (ps : List Line). onto number (statement_at statement) (reads (number + 1) ps)) (sym parts.2)

one_more : (front : List Statement) (statement : Statement) (read : Result (List Statement) ℕ) → with_front (front ++ statement ∷ []) read ≡ with_front front (with_statement statement read)
one_more front statement (Ok more) = ap Ok (append_assoc front (statement ∷ []) more)
one_more front statement (Err number) = refl

-- one statement is read, and the words after its `;` are left
pub statement_read : (number : ℕ) (words here rest : Line) (front after : List Statement) (statement : Statement) (total : Result (List Statement) ℕ)
    → slice_split is_semicolon words ≡ here ∷ slice_split is_semicolon rest → statement_at here ≡ Some statement → after ≡ front ++ statement ∷ []
    → with_front front (reads number (slice_split is_semicolon words)) ≡ total
    → with_front after (reads (number + 1) (slice_split is_semicolon rest)) ≡ total
statement_read number words here rest front after statement total first is push was =
    let next = reads (number + 1) (slice_split is_semicolon rest) in
    ap (λ (ss : List Statement). with_front ss next) push ∙ one_more front statement next
    ∙ ap (λ (o : Option Statement). with_front front (onto number o next)) (sym is)
    ∙ ap (with_front front) (sym (ap (reads number) first ∙ reads_more number here rest)) ∙ was

-- one is not in the grammar
pub statement_fails : (number : ℕ) (words here rest : Line) (front : List Statement) (total : Result (List Statement) ℕ)
    → slice_split is_semicolon words ≡ here ∷ slice_split is_semicolon rest → statement_at here ≡ None
    → with_front front (reads number (slice_split is_semicolon words)) ≡ total → total ≡ Err number
statement_fails number words here rest front total first is was =
    let next = reads (number + 1) (slice_split is_semicolon rest) in
    sym was ∙ ap (with_front front) (ap (reads number) first ∙ reads_more number here rest) ∙ ap (λ (o : Option Statement). with_front front (onto number o next)) is

-- there is no `;` more
last_read : (number : ℕ) (words : Line) (front : List Statement) (total : Result (List Statement) ℕ) → slice_split is_semicolon words ≡ words ∷ []
    → with_front front (reads number (slice_split is_semicolon words)) ≡ total → with_front front (reads number (words ∷ [])) ≡ total
last_read number words front total whole was = ap (λ (ps : List Line). with_front front (reads number ps)) (sym whole) ∙ was

append_nil : (xs : List Statement) → xs ++ [] ≡ xs
append_nil [] = refl
append_nil (x ∷ xs) = ap (λ (ys : List Statement). x ∷ ys) (append_nil xs)

pub all_read : (number : ℕ) (words : Line) (front : List Statement) (total : Result (List Statement) ℕ) → slice_split is_semicolon words ≡ words ∷ [] → (length words == 0) ≡ true
    → with_front front (reads number (slice_split is_semicolon words)) ≡ total → total ≡ Ok front
unfolding reads
all_read number words front total whole none was =
    let read : Bool → Result (List Statement) ℕ = λ b. with_front front (if b then Ok [] else Err number) in
    sym (last_read number words front total whole was) ∙ ap read none ∙ ap Ok (append_nil front)

pub last_fails : (number : ℕ) (words : Line) (front : List Statement) (total : Result (List Statement) ℕ) → slice_split is_semicolon words ≡ words ∷ [] → (length words == 0) ≡ false
    → with_front front (reads number (slice_split is_semicolon words)) ≡ total → total ≡ Err number
unfolding reads
last_fails number words front total whole some was =
    let read : Bool → Result (List Statement) ℕ = λ b. with_front front (if b then Ok [] else Err number) in
    sym (last_read number words front total whole was) ∙ ap read some

-- ---- where a statement ends

placed_some : (b : Bool) (k i : ℕ) → cond b (Some k) None ≡ Some i → (b ≡ true) × (k ≡ i)
placed_some true k i h = (refl, cc)
placed_some false k i h = absurd cc

placed_none : (b : Bool) (k : ℕ) → cond b (Some k) None ≡ None → b ≡ false
placed_none true k h = absurd cc
placed_none false k h = refl

pub at_semicolon : (words : Line) (at : ℕ) → position is_semicolon words ≡ Some at → slice_split is_semicolon words ≡ take at words ∷ slice_split is_semicolon (drop (at + 1) words)
at_semicolon words at h =
    let k = position_or_len is_semicolon words in
    let placed = placed_some (nat_lt k (length words)) k at h in
    slice_split_first is_semicolon words [] (ltb-true _ _ placed.0) ∙ ap (λ (n : ℕ). take n words ∷ slice_split is_semicolon (drop (n + 1) words)) placed.1

whole_part : (words : Line) → length words ≤ position_or_len is_semicolon words → slice_split is_semicolon words ≡ words ∷ []
whole_part [] h = refl
whole_part (word ∷ words) h = go (is_semicolon word) (whole_part words) h
  where
    go : (b : Bool) → (length words ≤ position_or_len is_semicolon words → slice_split is_semicolon words ≡ words ∷ [])
        → suc (length words) ≤ cond (not b) (1 + position_or_len is_semicolon words) 0
        → cond b ([] ∷ slice_split is_semicolon words) (onto_first word (slice_split is_semicolon words)) ≡ (word ∷ words) ∷ []
    go true inner le = absurd (omega arith)
    go false inner le = ap (onto_first word) (inner (omega arith))

pub no_semicolon : (words : Line) → position is_semicolon words ≡ None → slice_split is_semicolon words ≡ words ∷ []
no_semicolon words h = whole_part words (ltb-false _ _ (placed_none (nat_lt (position_or_len is_semicolon words) (length words)) _ h))

pub within : (words : Line) (at : ℕ) → position is_semicolon words ≡ Some at → at < length words
within words at h =
    let placed = placed_some (nat_lt (position_or_len is_semicolon words) (length words)) _ at h in
    let below = ltb-true _ _ placed.0 in
    omega (arith, below, placed.1)

-- the statement at the front, and the words after its `;`
pub parted : (rest : List (Bor (List ℕ))) (at : ℕ) → position is_semicolon (spoken rest) ≡ Some at
    → slice_split is_semicolon (spoken rest) ≡ spoken (take at rest) ∷ slice_split is_semicolon (spoken (take (length rest - (at + 1)) (drop (at + 1) rest)))
parted rest at h =
    let now : Bor (List ℕ) → List ℕ = λ word. word.now in
    at_semicolon (spoken rest) at h ∙ ap (λ (here : Line). here ∷ slice_split is_semicolon (drop (at + 1) (spoken rest))) (take-map now at rest)
    ∙ ap (λ (later : Line). spoken (take at rest) ∷ slice_split is_semicolon later) (drop-map now (at + 1) rest ∙ ap spoken (sym (take_rest rest (at + 1))))

pub spoken_len : (words : List (Bor (List ℕ))) → length (spoken words) ≡ length words
spoken_len [] = refl
spoken_len (word ∷ words) = ap suc (spoken_len words)

-- what is misspelled is no statement
pub misspelled : {X : Type 0} (view : X → X) (error : Unread) (told : Option X) → error ≡ unread.Misspelled → Tells view (Err error) told → told ≡ None
misspelled view error told is tells = subst (λ (e : Unread). Tells view (Err e) told) is tells
