-- A run of bytes: the place that it leads to, and the pieces that runs between marks make.
use Rattle.std.proofs.Common.{◌≡◌, ℕ, Bool, true, false, ◌&&◌, cond, List, [], ◌∷◌, ◌++◌, Option, Some, None, refl, sym, ap, ◌∙◌, append-nil}
use Rattle.std.specs.List.{onto_first, AllByRecursion}
use Rattle.std.proofs.lemmas.Bool.{and_parts}
use Rattle.osl_valuetext.specs.Words.{behind}
use Rattle.osl_valuetext.specs.declared.place.Place.{Place}
use Rattle.osl_valuetext.specs.declared.place.Place.TheVariants.{Open}
use Rattle.osl_valuetext.specs.Splitting.{next, is_open, pieces}

-- the place after a run of bytes, if none of them parts
abbrev pub run : (ℕ → Bool) → Place → List ℕ → Option Place
run test place [] = Some place
run test place (c ∷ cs) = cond (is_open place && test c) None (run test (next place c) cs)

pub run-append : (test : ℕ → Bool) (p q : Place) (xs ys : List ℕ) → run test p xs ≡ Some q → run test p (xs ++ ys) ≡ run test q ys
run-append test p q [] ys h = let same : p ≡ q = cc in ap (λ (r : Place). run test r ys) same
run-append test p q (c ∷ cs) ys h = go (is_open p && test c) (run-append test (next p c) q cs ys) h
  where
    go : (b : Bool) → (run test (next p c) cs ≡ Some q → run test (next p c) (cs ++ ys) ≡ run test q ys)
        → cond b None (run test (next p c) cs) ≡ Some q → cond b None (run test (next p c) (cs ++ ys)) ≡ run test q ys
    go true more e = absurd cc
    go false more e = more e

pub run_both : (test : ℕ → Bool) (p q r : Place) (xs ys : List ℕ) → run test p xs ≡ Some q → run test q ys ≡ Some r → run test p (xs ++ ys) ≡ Some r
run_both test p q r xs ys h k = run-append test p q xs ys h ∙ k

-- ---- pieces

-- a run up to a byte that parts is the first piece
pub pieces_at : (test : ℕ → Bool) (p : Place) (xs : List ℕ) (c : ℕ) (ys : List ℕ) → run test p xs ≡ Some Open → test c ≡ true → pieces test p (xs ++ c ∷ ys) ≡ xs ∷ pieces test Open ys
pieces_at test p [] c ys h parts =
    let same : p ≡ Open = cc in
    ap (λ (r : Place). pieces test r (c ∷ ys)) same ∙ ap (λ (b : Bool). cond b ([] ∷ pieces test Open ys) (onto_first c (pieces test (next Open c) ys))) parts
pieces_at test p (x ∷ xs) c ys h parts = go (is_open p && test x) (pieces_at test (next p x) xs c ys) h
  where
    go : (b : Bool) → (run test (next p x) xs ≡ Some Open → test c ≡ true → pieces test (next p x) (xs ++ c ∷ ys) ≡ xs ∷ pieces test Open ys)
        → cond b None (run test (next p x) xs) ≡ Some Open
        → cond b ([] ∷ pieces test Open (xs ++ c ∷ ys)) (onto_first x (pieces test (next p x) (xs ++ c ∷ ys))) ≡ (x ∷ xs) ∷ pieces test Open ys
    go true more e = absurd cc
    go false more e = ap (onto_first x) (more e parts)

-- a run is one piece
pub pieces_only : (test : ℕ → Bool) (p q : Place) (xs : List ℕ) → run test p xs ≡ Some q → pieces test p xs ≡ xs ∷ []
pieces_only test p q [] h = refl
pieces_only test p q (x ∷ xs) h = go (is_open p && test x) (pieces_only test (next p x) q xs) h
  where
    go : (b : Bool) → (run test (next p x) xs ≡ Some q → pieces test (next p x) xs ≡ xs ∷ [])
        → cond b None (run test (next p x) xs) ≡ Some q → cond b ([] ∷ pieces test Open xs) (onto_first x (pieces test (next p x) xs)) ≡ (x ∷ xs) ∷ []
    go true more e = absurd cc
    go false more e = ap (onto_first x) (more e)

-- a word that is one piece
abbrev pub Holds : (ℕ → Bool) → List ℕ → Type 0
Holds test word = run test Open word ≡ Some Open

-- words after marks are the pieces
pub pieces_joined : (test : ℕ → Bool) (mark : ℕ) (word : List ℕ) (words : List (List ℕ)) → test mark ≡ true
    → Holds test word → AllByRecursion (Holds test) words → pieces test Open (word ++ behind mark words) ≡ word ∷ words
pieces_joined test mark word [] parts here all = ap (pieces test Open) (append-nil word) ∙ pieces_only test Open Open word here
pieces_joined test mark word (more ∷ words) parts here all =
    pieces_at test Open word mark (more ++ behind mark words) here parts
    ∙ ap (λ (ps : List (List ℕ)). word ∷ ps) (pieces_joined test mark more words parts all.0 all.1)

-- ---- the pieces joined again

abbrev pub rejoined : ℕ → List (List ℕ) → List ℕ
rejoined mark [] = []
rejoined mark (word ∷ words) = word ++ behind mark words

onto_rejoined : (mark c : ℕ) (ps : List (List ℕ)) → rejoined mark (onto_first c ps) ≡ c ∷ rejoined mark ps
onto_rejoined mark c [] = refl
onto_rejoined mark c (p ∷ ps) = refl

-- there is a first piece
pub first_piece : (test : ℕ → Bool) (p : Place) (xs : List ℕ) → (word : List ℕ) × (words : List (List ℕ)) × (pieces test p xs ≡ word ∷ words)
first_piece test p [] = ([], [], refl)
first_piece test p (c ∷ cs) = go (is_open p && test c) (pieces test (next p c) cs)
  where
    go : (b : Bool) (ps : List (List ℕ)) → (word : List ℕ) × (words : List (List ℕ)) × (cond b ([] ∷ pieces test Open cs) (onto_first c ps) ≡ word ∷ words)
    go true ps = ([], pieces test Open cs, refl)
    go false [] = (c ∷ [], [], refl)
    go false (q ∷ ps) = (c ∷ q, ps, refl)

pub pieces-rejoined : (test : ℕ → Bool) (mark : ℕ) → ((c : ℕ) → test c ≡ true → c ≡ mark) → (p : Place) (xs : List ℕ) → rejoined mark (pieces test p xs) ≡ xs
pieces-rejoined test mark only p [] = refl
pieces-rejoined test mark only p (c ∷ cs) = go (is_open p && test c) refl (pieces-rejoined test mark only Open cs) (pieces-rejoined test mark only (next p c) cs)
  where
    parted : (test c ≡ true) → rejoined mark ([] ∷ pieces test Open cs) ≡ c ∷ rejoined mark (pieces test Open cs)
    parted h =
        let first = first_piece test Open cs in
        ap (λ (ps : List (List ℕ)). rejoined mark ([] ∷ ps)) first.2 ∙ ap (λ (n : ℕ). n ∷ rejoined mark (first.0 ∷ first.1)) (sym (only c h)) ∙ ap (λ (ps : List (List ℕ)). c ∷ rejoined mark ps) (sym first.2)

    go : (b : Bool) → (is_open p && test c) ≡ b → rejoined mark (pieces test Open cs) ≡ cs → rejoined mark (pieces test (next p c) cs) ≡ cs
        → rejoined mark (cond b ([] ∷ pieces test Open cs) (onto_first c (pieces test (next p c) cs))) ≡ c ∷ cs
    go true h behind_it more = parted (and_parts (is_open p) (test c) h).1 ∙ ap (λ (t : List ℕ). c ∷ t) behind_it
    go false h behind_it more = onto_rejoined mark c (pieces test (next p c) cs) ∙ ap (λ (t : List ℕ). c ∷ t) more
