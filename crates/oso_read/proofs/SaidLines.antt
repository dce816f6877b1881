-- A line in two parts: words that are no hints, and hints.
use Rattle.std.proofs.Common.{◌≡◌, ℕ, suc, ◌+◌, Bool, true, false, not, cond, List, [], ◌∷◌, ◌++◌, length, take, drop, filter, Some, None, refl, sym, ap, subst, ◌∙◌, arith}
use Rattle.std.specs.Prelude.{option_map}
use Rattle.std.specs.List.{list_all, AllByRecursion}
use Rattle.std.proofs.lemmas.Bool.{and_parts, and_from, cond-true}
use Rattle.std.proofs.lemmas.List.{take_at, drop_at}
use Rattle.osl_valuetext.specs.Words.{Line}
use Rattle.oso_read.specs.Hints.{begins_hint, is_hint, is_datum, Saying, word_count, saying, said}
use Rattle.oso_read.proofs.Fields.{IsFront}
use Rattle.oso_read.proofs.Data.{IsBack}

abbrev pub IsNoHint : List ℕ → Type 0
IsNoHint word = begins_hint word ≡ false

abbrev pub BeginsHint : List ℕ → Type 0
BeginsHint word = begins_hint word ≡ true

-- ---- one way to part a line

both_cases : (word : List ℕ) → begins_hint word ≡ false → begins_hint word ≡ true → ⊥
both_cases word h k = let e : false ≡ true = sym h ∙ k in cc

front_alone : (xs us vs : Line) → AllByRecursion IsNoHint us → AllByRecursion BeginsHint vs → AllByRecursion IsNoHint xs → xs ≡ us ++ vs → (xs ≡ us) × ([] ≡ vs)
front_alone xs [] [] front back all e = (e, refl)
front_alone [] [] (v ∷ vs) front back all e = absurd cc
front_alone (x ∷ xs) [] (v ∷ vs) front back all e = let same : x ≡ v = cc in absurd (both_cases v (subst IsNoHint same all.0) back.0)
front_alone [] (u ∷ us) vs front back all e = absurd cc
front_alone (x ∷ xs) (u ∷ us) vs front back all e =
    let same : x ≡ u = cc in
    let rest : xs ≡ us ++ vs = cc in
    let more = front_alone xs us vs front.1 back all.1 rest in
    (cc, more.1)

pub parted_once : (xs ys us vs : Line) → AllByRecursion IsNoHint xs → AllByRecursion BeginsHint ys → AllByRecursion IsNoHint us → AllByRecursion BeginsHint vs
    → xs ++ ys ≡ us ++ vs → (xs ≡ us) × (ys ≡ vs)
parted_once [] ys [] vs a b c d e = (refl, e)
parted_once [] [] (u ∷ us) vs a b c d e = absurd cc
parted_once [] (y ∷ ys) (u ∷ us) vs a b c d e = let same : y ≡ u = cc in absurd (both_cases u c.0 (subst BeginsHint same b.0))
parted_once (x ∷ xs) ys [] [] a b c d e = absurd cc
parted_once (x ∷ xs) ys [] (v ∷ vs) a b c d e = let same : x ≡ v = cc in absurd (both_cases v (subst IsNoHint same a.0) d.0)
parted_once (x ∷ xs) ys (u ∷ us) vs a b c d e =
    let same : x ≡ u = cc in
    let rest : xs ++ ys ≡ us ++ vs = cc in
    let more = parted_once xs ys us vs a.1 b c.1 d rest in
    (cc, more.1)

-- ---- what a line says

hint_begins : (word : List ℕ) → is_hint word ≡ true → begins_hint word ≡ true
unfolding is_hint
hint_begins word h = (and_parts (begins_hint word) _ h).0

front_taken : (line : Line) → AllByRecursion IsNoHint (take (word_count line) line)
front_taken [] = tt
front_taken (word ∷ line) = go (begins_hint word) refl (front_taken line)
  where
    go : (b : Bool) → begins_hint word ≡ b → AllByRecursion IsNoHint (take (word_count line) line) → AllByRecursion IsNoHint (take (cond (not b) (1 + word_count line) 0) (word ∷ line))
    go true h more = tt
    go false h more = let next : 1 + word_count line ≡ suc (word_count line) = omega arith in subst (λ (k : ℕ). AllByRecursion IsNoHint (take k (word ∷ line))) (sym next) (h, more)

hints_kept : (line : Line) → list_all is_hint line ≡ true → AllByRecursion BeginsHint (filter is_datum line)
hints_kept [] h = tt
hints_kept (word ∷ line) h =
    let parts = and_parts (is_hint word) (list_all is_hint line) h in
    go (is_datum word) (hint_begins word parts.0) (hints_kept line parts.1)
  where
    go : (b : Bool) → BeginsHint word → AllByRecursion BeginsHint (filter is_datum line) → AllByRecursion BeginsHint (cond b (word ∷ filter is_datum line) (filter is_datum line))
    go true here more = (here, more)
    go false here more = more

abbrev pub parts_are : Line → Line → Saying
parts_are words metadata = record { words = words; metadata = metadata }

-- What is said has one part before hints and one of hints: a line that says these says them in these parts.
pub says_parts : (line front back : Line) → AllByRecursion IsNoHint front → AllByRecursion BeginsHint back → said line ≡ Some (front ++ back) → saying line ≡ Some (parts_are front back)
unfolding saying
says_parts line front back before behind e = go (list_all is_hint (drop (word_count line) line)) refl e
  where
    go : (b : Bool) → list_all is_hint (drop (word_count line) line) ≡ b
        → option_map (λ (s : Saying). s.words ++ s.metadata) (cond b (Some (parts_are (take (word_count line) line) (filter is_datum (drop (word_count line) line)))) None) ≡ Some (front ++ back)
        → cond b (Some (parts_are (take (word_count line) line) (filter is_datum (drop (word_count line) line)))) None ≡ Some (parts_are front back)
    go true h k =
        let words = take (word_count line) line in
        let metadata = filter is_datum (drop (word_count line) line) in
        let same : words ++ metadata ≡ front ++ back = cc in
        let parted = parted_once words metadata front back (front_taken line) (hints_kept (drop (word_count line) line) h) before behind same in
        ap (λ (ws : Line). Some (parts_are ws metadata)) parted.0 ∙ ap (λ (ms : Line). Some (parts_are front ms)) parted.1
    go false h k = absurd cc

-- ---- a line that is made of both parts

count_front : (front back : Line) → AllByRecursion IsNoHint front → AllByRecursion BeginsHint back → word_count (front ++ back) ≡ length front
count_front [] [] all hints = refl
count_front [] (word ∷ back) all hints = ap (λ (b : Bool). cond (not b) (1 + word_count back) 0) hints.0
count_front (word ∷ front) back all hints =
    ap (λ (b : Bool). cond (not b) (1 + word_count (front ++ back)) 0) all.0 ∙ ap (λ (n : ℕ). 1 + n) (count_front front back all.1 hints) ∙ omega arith

all_hints : (back : Line) → AllByRecursion IsBack back → (list_all is_hint back ≡ true) × (filter is_datum back ≡ back)
all_hints [] all = (refl, refl)
all_hints (word ∷ back) all =
    let more = all_hints back all.1 in
    (and_from _ _ all.0.hint more.0, ap (λ (b : Bool). cond b (word ∷ filter is_datum back) (filter is_datum back)) all.0.datum ∙ ap (λ (ws : Line). word ∷ ws) more.1)

pub backs_begin : (back : Line) → AllByRecursion IsBack back → AllByRecursion BeginsHint back
backs_begin [] all = tt
backs_begin (word ∷ back) all = (hint_begins word all.0.hint, backs_begin back all.1)

pub fronts_begin : (front : Line) → AllByRecursion IsFront front → AllByRecursion IsNoHint front
fronts_begin [] all = tt
fronts_begin (word ∷ front) all = (all.0.no_hint, fronts_begin front all.1)

pub says_itself : (front back : Line) → AllByRecursion IsNoHint front → AllByRecursion IsBack back → said (front ++ back) ≡ Some (front ++ back)
unfolding saying
says_itself front back before behind =
    let line = front ++ back in
    let count = count_front front back before (backs_begin back behind) in
    let hints = all_hints back behind in
    let taken : take (word_count line) line ≡ front = take_at front back (word_count line) (sym count) in
    let dropped : drop (word_count line) line ≡ back = drop_at front back (word_count line) (sym count) in
    let rest : list_all is_hint (drop (word_count line) line) ≡ true = ap (list_all is_hint) dropped ∙ hints.0 in
    ap (option_map (λ (s : Saying). s.words ++ s.metadata)) (cond-true _ _ _ rest)
    ∙ ap (λ (ws : Line). Some (ws ++ filter is_datum (drop (word_count line) line))) taken
    ∙ ap (λ (ws : Line). Some (front ++ filter is_datum ws)) dropped ∙ ap (λ (ws : Line). Some (front ++ ws)) hints.1

-- the first word of a line that says something with a first word before its hints
pub first_said : (line front back : Line) → AllByRecursion IsNoHint front → AllByRecursion BeginsHint back → said line ≡ Some (front ++ back) → take (word_count line) line ≡ front
unfolding saying
first_said line front back before behind e = go (list_all is_hint (drop (word_count line) line)) refl e
  where
    go : (b : Bool) → list_all is_hint (drop (word_count line) line) ≡ b
        → option_map (λ (s : Saying). s.words ++ s.metadata) (cond b (Some (parts_are (take (word_count line) line) (filter is_datum (drop (word_count line) line)))) None) ≡ Some (front ++ back)
        → take (word_count line) line ≡ front
    go true h k =
        let words = take (word_count line) line in
        let metadata = filter is_datum (drop (word_count line) line) in
        let same : words ++ metadata ≡ front ++ back = cc in
        (parted_once words metadata front back (front_taken line) (hints_kept (drop (word_count line) line) h) before behind same).0
    go false h k = absurd cc
