-- The first piece of a text, and the pieces after it.
use denote.Ref.{Bor}
use Rattle.std.proofs.Common.{◌≡◌, ℕ, suc, ◌+◌, ◌<◌, Bool, true, false, ◌&&◌, cond, List, [], ◌∷◌, ◌++◌, length, get_or, take, drop, filter, refl, sym, ap, ◌∙◌, append_assoc, arith}
use Rattle.std.proofs.lemmas.List.{take_all, at_drop_more}
use Rattle.std.specs.List.{onto_first}
use Rattle.osl_valuetext.specs.declared.place.Place.{Place}
use Rattle.osl_valuetext.specs.declared.place.Place.TheVariants.{Open}
use Rattle.osl_valuetext.specs.Splitting.{next, is_open, pieces}
use Rattle.osl_valuetext.specs.Scan.{piece_end, spoken}

-- how many bytes the first piece has
abbrev pub len : (ℕ → Bool) → Place → List ℕ → ℕ
len test place [] = 0
len test place (c ∷ cs) = cond (is_open place && test c) 0 (suc (len test (next place c) cs))

pub piece_end-len : (test : ℕ → Bool) (place : Place) (at : ℕ) (xs : List ℕ) → piece_end test place at xs ≡ at + len test place xs
piece_end-len test place at [] = omega arith
piece_end-len test place at (c ∷ cs) = go (is_open place && test c) (piece_end-len test (next place c) (at + 1) cs)
  where
    go : (b : Bool) → piece_end test (next place c) (at + 1) cs ≡ at + 1 + len test (next place c) cs
        → cond b at (piece_end test (next place c) (at + 1) cs) ≡ at + cond b 0 (suc (len test (next place c) cs))
    go true h = omega arith
    go false h = omega arith

pub pieces_more : (test : ℕ → Bool) (place : Place) (xs : List ℕ) → len test place xs < length xs
    → pieces test place xs ≡ take (len test place xs) xs ∷ pieces test Open (drop (suc (len test place xs)) xs)
pieces_more test place [] below = absurd (omega arith)
pieces_more test place (c ∷ cs) below = go (is_open place && test c) (pieces_more test (next place c) cs) below
  where
    go : (b : Bool)
        → (len test (next place c) cs < length cs → pieces test (next place c) cs ≡ take (len test (next place c) cs) cs ∷ pieces test Open (drop (suc (len test (next place c) cs)) cs))
        → cond b 0 (suc (len test (next place c) cs)) < suc (length cs)
        → cond b ([] ∷ pieces test Open cs) (onto_first c (pieces test (next place c) cs))
        ≡ take (cond b 0 (suc (len test (next place c) cs))) (c ∷ cs) ∷ pieces test Open (drop (suc (cond b 0 (suc (len test (next place c) cs)))) (c ∷ cs))
    go true h lt = refl
    go false h lt = ap (onto_first c) (h (omega arith))

pub pieces_last : (test : ℕ → Bool) (place : Place) (xs : List ℕ) → len test place xs ≡ length xs → pieces test place xs ≡ xs ∷ []
pieces_last test place [] whole = refl
pieces_last test place (c ∷ cs) whole = go (is_open place && test c) (pieces_last test (next place c) cs) whole
  where
    go : (b : Bool) → (len test (next place c) cs ≡ length cs → pieces test (next place c) cs ≡ cs ∷ [])
        → cond b 0 (suc (len test (next place c) cs)) ≡ suc (length cs)
        → cond b ([] ∷ pieces test Open cs) (onto_first c (pieces test (next place c) cs)) ≡ (c ∷ cs) ∷ []
    go true h e = absurd (omega arith)
    go false h e = ap (onto_first c) (h (omega arith))

-- ---- a loop over the pieces that pass a test

front : (keep : List ℕ → Bool) (x : List ℕ) (xs : List (List ℕ)) → filter keep (x ∷ xs) ≡ filter keep (x ∷ []) ++ filter keep xs
front keep x xs = go (keep x)
  where
    go : (b : Bool) → cond b (x ∷ filter keep xs) (filter keep xs) ≡ cond b (x ∷ []) [] ++ filter keep xs
    go true = refl
    go false = refl

pub split_ends : (keep : List ℕ → Bool) (test : ℕ → Bool) (n : ℕ) (rest piece : List ℕ) (out after total : List (List ℕ))
    → n ≡ piece_end test Open 0 rest → n ≡ length rest → piece ≡ take n rest → after ≡ out ++ filter keep (piece ∷ [])
    → out ++ filter keep (pieces test Open rest) ≡ total → after ≡ total
split_ends keep test n rest piece out after total is whole taken push was =
    let all : len test Open rest ≡ length rest = omega (arith, piece_end-len test Open 0 rest) in
    let same : piece ≡ rest = taken ∙ take_all n rest (omega arith) in
    push ∙ ap (λ (p : List ℕ). out ++ filter keep (p ∷ [])) same ∙ ap (λ (ps : List (List ℕ)). out ++ filter keep ps) (sym (pieces_last test Open rest all)) ∙ was

pub split_goes_on : (keep : List ℕ → Bool) (test : ℕ → Bool) (n : ℕ) (rest piece behind : List ℕ) (out after total : List (List ℕ))
    → n ≡ piece_end test Open 0 rest → n < length rest → piece ≡ take n rest → behind ≡ drop (n + 1) rest → after ≡ out ++ filter keep (piece ∷ [])
    → out ++ filter keep (pieces test Open rest) ≡ total → after ++ filter keep (pieces test Open behind) ≡ total
split_goes_on keep test n rest piece behind out after total is below taken dropped push was =
    let n-is : len test Open rest ≡ n = omega (arith, piece_end-len test Open 0 rest) in
    let next_place : suc n ≡ n + 1 = omega arith in
    let more : pieces test Open rest ≡ take (len test Open rest) rest ∷ pieces test Open (drop (suc (len test Open rest)) rest) = pieces_more test Open rest (omega arith) in
    let at_n : pieces test Open rest ≡ take n rest ∷ pieces test Open (drop (n + 1) rest) = more ∙ ap (λ (k : ℕ). take k rest ∷ pieces test Open (drop (suc k) rest)) n-is ∙ ap (λ (k : ℕ). take n rest ∷ pieces test Open (drop k rest)) next_place in
    let here : pieces test Open rest ≡ piece ∷ pieces test Open behind = at_n ∙ ap (λ (p : List ℕ). p ∷ pieces test Open (drop (n + 1) rest)) (sym taken) ∙ ap (λ (r : List ℕ). piece ∷ pieces test Open r) (sym dropped) in
    ap (λ (ps : List (List ℕ)). ps ++ filter keep (pieces test Open behind)) push
    ∙ append_assoc out (filter keep (piece ∷ [])) (filter keep (pieces test Open behind))
    ∙ ap (λ (ps : List (List ℕ)). out ++ ps) (sym (front keep piece (pieces test Open behind)))
    ∙ ap (λ (ps : List (List ℕ)). out ++ filter keep ps) (sym here) ∙ was

-- one more element of a list in a loop that keeps those that pass
pub filter_more : (keep : List ℕ → Bool) (words : List (Bor (List ℕ))) (i : ℕ) (d : Bor (List ℕ)) (out after total : List (List ℕ))
    → i < length words → after ≡ out ++ filter keep ((get_or words i d).now ∷ [])
    → out ++ filter keep (spoken (drop i words)) ≡ total → after ++ filter keep (spoken (drop (i + 1) words)) ≡ total
filter_more keep words i d out after total below push was =
    let word = (get_or words i d).now in
    let rest = spoken (drop (i + 1) words) in
    let here : filter keep (spoken (drop i words)) ≡ filter keep (word ∷ rest) = at_drop_more (λ (ws : List (Bor (List ℕ))). filter keep (spoken ws)) words i d below in
    ap (λ (ps : List (List ℕ)). ps ++ filter keep rest) push ∙ append_assoc out (filter keep (word ∷ [])) (filter keep rest)
    ∙ ap (λ (ps : List (List ℕ)). out ++ ps) (sym (front keep word rest)) ∙ ap (λ (ps : List (List ℕ)). out ++ ps) (sym here) ∙ was
