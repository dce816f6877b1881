-- The words of a line of a text are those that were written.
use Rattle.std.proofs.Common.{codes, ◌≡◌, ℕ, Bool, true, false, ◌&&◌, ◌||◌, ◌==◌, cond, List, [], ◌∷◌, ◌++◌, filter, Some, None, refl, sym, ap, subst, ◌∙◌, append_assoc}
use Rattle.std.specs.List.{onto_first, AllByRecursion}
use Rattle.std.proofs.lemmas.Bool.{eqb-true}
use Rattle.osl_valuetext.specs.Words.{Line, behind}
use Rattle.osl_valuetext.specs.declared.place.Place.{Place}
use Rattle.osl_valuetext.specs.declared.place.Place.TheVariants.{Open}
use Rattle.osl_valuetext.specs.Splitting.{next, is_open}
use Rattle.osl_lines.specs.Lines.{line_text}
use Rattle.osl_grouptext.specs.Pieces.{is_single, is_double, begins_comment, Word, Bracket, Comment, pieces, is_word, words}
use Rattle.osl_grouptext.specs.Whole.{passes, IsWhole}

bracket_blank : (c : ℕ) (rest : List ℕ) → is_double c (32 ∷ rest) ≡ false
bracket_blank c rest = go (32 == c) refl
  where
    go : (b : Bool) → (32 == c) ≡ b → (((c == 91) || (c == 93)) && (32 == c)) ≡ false
    go true h = let e : 32 ≡ c = eqb-true 32 c h in subst (λ (n : ℕ). (((n == 91) || (n == 93)) && (32 == n)) ≡ false) e refl
    go false h = ap (λ (b : Bool). ((c == 91) || (c == 93)) && b) h ∙ none ((c == 91) || (c == 93))
      where
        none : (b : Bool) → (b && false) ≡ false
        none true = refl
        none false = refl

double_same : (c : ℕ) (cs rest : List ℕ) → is_double c (cs ++ 32 ∷ rest) ≡ is_double c cs
double_same c [] rest = bracket_blank c rest
double_same c (d ∷ ds) rest = refl

word_at : (place : Place) (word rest : List ℕ) → passes place word ≡ Some Open → pieces (Word place) (word ++ 32 ∷ rest) ≡ word ∷ (32 ∷ []) ∷ pieces (Word Open) rest
word_at place [] rest h = let same : place ≡ Open = cc in ap (λ (p : Place). pieces (Word p) (32 ∷ rest)) same
word_at place (c ∷ cs) rest h =
    ap (λ (b : Bool). cond (is_open place && is_single c) ([] ∷ (c ∷ []) ∷ pieces (Word Open) (cs ++ 32 ∷ rest)) (cond (is_open place && b) ([] ∷ onto_first c (pieces Bracket (cs ++ 32 ∷ rest))) (cond (is_open place && begins_comment c) ([] ∷ onto_first c (pieces Comment (cs ++ 32 ∷ rest))) (onto_first c (pieces (Word (next place c)) (cs ++ 32 ∷ rest)))))) (double_same c cs rest)
    ∙ go (is_open place) (is_single c) (is_double c cs) (begins_comment c) (word_at (next place c) cs rest) h
  where
    go : (o s d b : Bool) → (passes (next place c) cs ≡ Some Open → pieces (Word (next place c)) (cs ++ 32 ∷ rest) ≡ cs ∷ (32 ∷ []) ∷ pieces (Word Open) rest)
        → cond (o && (s || (d || b))) None (passes (next place c) cs) ≡ Some Open
        → cond (o && s) ([] ∷ (c ∷ []) ∷ pieces (Word Open) (cs ++ 32 ∷ rest)) (cond (o && d) ([] ∷ onto_first c (pieces Bracket (cs ++ 32 ∷ rest))) (cond (o && b) ([] ∷ onto_first c (pieces Comment (cs ++ 32 ∷ rest))) (onto_first c (pieces (Word (next place c)) (cs ++ 32 ∷ rest)))))
        ≡ (c ∷ cs) ∷ (32 ∷ []) ∷ pieces (Word Open) rest
    go false s d b more k = ap (onto_first c) (more k)
    go true true d b more k = absurd cc
    go true false true b more k = absurd cc
    go true false false true more k = absurd cc
    go true false false false more k = ap (onto_first c) (more k)

-- ---- the words of a line

one_word : (word rest : List ℕ) → IsWhole word → filter is_word (pieces (Word Open) (word ++ 32 ∷ rest)) ≡ word ∷ filter is_word (pieces (Word Open) rest)
one_word word rest is =
    ap (filter is_word) (word_at Open word rest is.passes_it) ∙ ap (λ (b : Bool). cond b (word ∷ filter is_word (pieces (Word Open) rest)) (filter is_word (pieces (Word Open) rest))) is.is_one

line_again : (word : List ℕ) (line : Line) (rest : List ℕ) → IsWhole word → AllByRecursion IsWhole line
    → filter is_word (pieces (Word Open) (word ++ (behind 32 (line ++ codes ";" ∷ []) ++ 10 ∷ rest))) ≡ word ∷ (line ++ codes ";" ∷ filter is_word (pieces (Word Open) rest))
line_again word [] rest is all = one_word word (59 ∷ 10 ∷ rest) is
line_again word (more ∷ line) rest is all =
    let text = behind 32 (line ++ codes ";" ∷ []) in
    ap (λ (t : List ℕ). filter is_word (pieces (Word Open) (word ++ 32 ∷ t))) (append_assoc more text (10 ∷ rest))
    ∙ one_word word (more ++ (text ++ 10 ∷ rest)) is
    ∙ ap (λ (ws : Line). word ∷ ws) (line_again more line rest all.0 all.1)

pub words_found : (word : List ℕ) (line : Line) (rest : List ℕ) → IsWhole word → AllByRecursion IsWhole line
    → words (line_text (word ∷ line ++ codes ";" ∷ []) ++ rest) ≡ (word ∷ line ++ codes ";" ∷ []) ++ words rest
unfolding words
words_found word line rest is all =
    let text = behind 32 (line ++ codes ";" ∷ []) in
    ap (λ (t : List ℕ). filter is_word (pieces (Word Open) t)) (append_assoc (word ++ text) (10 ∷ []) rest ∙ append_assoc word text (10 ∷ rest))
    ∙ line_again word line rest is all
    ∙ ap (λ (ws : Line). word ∷ ws) (sym (append_assoc line (codes ";" ∷ []) (filter is_word (pieces (Word Open) rest))))
