-- The word at the front of a text, the mark, the blank or the comment after it, and the pieces after that.
use Rattle.std.proofs.Common.{◌≡◌, ℕ, suc, ◌+◌, ◌≤◌, Bool, true, false, ◌&&◌, ◌||◌, cond, List, [], ◌∷◌, ◌++◌, length, take, drop, filter, refl, sym, ap, ◌∙◌, append_assoc, arith}
use Rattle.std.specs.List.{onto_first}
use Rattle.osl_valuetext.specs.declared.place.Place.{Place}
use Rattle.osl_valuetext.specs.declared.place.Place.TheVariants.{Open}
use Rattle.osl_valuetext.specs.Splitting.{next, is_open}
use Rattle.osl_grouptext.specs.Pieces.{Spot, is_single, is_double, begins_comment, is_line_feed, Word, Bracket, Comment, pieces, is_word, ends_word, word_end, comment_len, part_len, words}

-- how many bytes the word has
abbrev pub len : Place → List ℕ → ℕ
len place [] = 0
len place (c ∷ cs) = cond (is_open place && ends_word c cs) 0 (suc (len (next place c) cs))

pub word_end-len : (place : Place) (at : ℕ) (xs : List ℕ) → word_end place at xs ≡ at + len place xs
word_end-len place at [] = omega arith
word_end-len place at (c ∷ cs) = go (is_open place && ends_word c cs) (word_end-len (next place c) (at + 1) cs)
  where
    go : (b : Bool) → word_end (next place c) (at + 1) cs ≡ at + 1 + len (next place c) cs
        → cond b at (word_end (next place c) (at + 1) cs) ≡ at + cond b 0 (suc (len (next place c) cs))
    go true h = omega arith
    go false h = omega arith

-- the pieces after the word
abbrev behind_word : List ℕ → List (List ℕ)
behind_word [] = []
behind_word (c ∷ cs) = cond (is_single c) ((c ∷ []) ∷ pieces (Word Open) cs) (cond (is_double c cs) (onto_first c (pieces Bracket cs)) (onto_first c (pieces Comment cs)))

word_first : (place : Place) (xs : List ℕ) → pieces (Word place) xs ≡ take (len place xs) xs ∷ behind_word (drop (len place xs) xs)
word_first place [] = refl
word_first place (c ∷ cs) = go (is_open place) (is_single c) (is_double c cs) (begins_comment c) (word_first (next place c) cs) ∙ ends (is_open place && ends_word c cs)
  where
    n : ℕ
    n = len (next place c) cs

    single : List (List ℕ)
    single = (c ∷ []) ∷ pieces (Word Open) cs

    double : List (List ℕ)
    double = onto_first c (pieces Bracket cs)

    comment : List (List ℕ)
    comment = onto_first c (pieces Comment cs)

    word : List (List ℕ)
    word = onto_first c (pieces (Word (next place c)) cs)

    go : (o s d h : Bool) → pieces (Word (next place c)) cs ≡ take n cs ∷ behind_word (drop n cs)
        → cond (o && s) ([] ∷ single) (cond (o && d) ([] ∷ double) (cond (o && h) ([] ∷ comment) word))
        ≡ cond (o && (s || (d || h))) ([] ∷ cond s single (cond d double comment)) ((c ∷ take n cs) ∷ behind_word (drop n cs))
    go false s d h more = ap (onto_first c) more
    go true true d h more = refl
    go true false true h more = refl
    go true false false true more = refl
    go true false false false more = ap (onto_first c) more

    ends : (b : Bool) → cond b ([] ∷ behind_word (c ∷ cs)) ((c ∷ take n cs) ∷ behind_word (drop n cs))
        ≡ take (cond b 0 (suc n)) (c ∷ cs) ∷ behind_word (drop (cond b 0 (suc n)) (c ∷ cs))
    ends true = refl
    ends false = refl

-- ---- the words among the pieces

record Commented (cs : List ℕ) : Type 0 where
  others : List (List ℕ)
  are : pieces Comment cs ≡ take (comment_len cs) cs ∷ others
  words : filter is_word others ≡ filter is_word (pieces (Word Open) (drop (comment_len cs) cs))

-- the same with the first byte being a line feed, or not
abbrev After : ℕ → List ℕ → Bool → List (List ℕ) → Type 0
After c cs b others =
    (cond b ((c ∷ []) ∷ pieces (Word Open) cs) (onto_first c (pieces Comment cs)) ≡ take (cond b 1 (suc (comment_len cs))) (c ∷ cs) ∷ others)
    × (filter is_word others ≡ filter is_word (pieces (Word Open) (drop (cond b 1 (suc (comment_len cs))) (c ∷ cs))))

commented : (cs : List ℕ) → Commented cs
commented [] = record { others = []; are = refl; words = refl }
commented (c ∷ cs) = let found = by (is_line_feed c) (commented cs) in record { others = found.0; are = found.1.0; words = found.1.1 }
  where
    by : (b : Bool) → Commented cs → (others : List (List ℕ)) × After c cs b others
    by true more = (pieces (Word Open) cs, (refl, refl))
    by false more = (more.others, (ap (onto_first c) more.are, more.words))

kept_both : (b : Bool) (x : List ℕ) (xs ys : List (List ℕ)) → xs ≡ ys → cond b (x ∷ xs) xs ≡ cond b (x ∷ ys) ys
kept_both b x xs ys e = ap (λ (zs : List (List ℕ)). cond b (x ∷ zs) zs) e

part_first : (text : List ℕ) → filter is_word (behind_word text) ≡ filter is_word (take (part_len text) text ∷ pieces (Word Open) (drop (part_len text) text))
part_first [] = refl
part_first (c ∷ cs) = go (is_single c) (is_double c cs) refl
  where
    go : (s d : Bool) → is_double c cs ≡ d
        → filter is_word (cond s ((c ∷ []) ∷ pieces (Word Open) cs) (cond d (onto_first c (pieces Bracket cs)) (onto_first c (pieces Comment cs))))
        ≡ filter is_word (take (cond s 1 (cond d 2 (suc (comment_len cs)))) (c ∷ cs) ∷ pieces (Word Open) (drop (cond s 1 (cond d 2 (suc (comment_len cs)))) (c ∷ cs)))
    go true d h = refl
    go false true h = two cs h
      where
        two : (ds : List ℕ) → is_double c ds ≡ true
            → filter is_word (onto_first c (pieces Bracket ds)) ≡ filter is_word (take 2 (c ∷ ds) ∷ pieces (Word Open) (drop 2 (c ∷ ds)))
        two [] k = absurd cc
        two (d ∷ ds) k = refl
    go false false h =
        let more = commented cs in
        ap (λ (ps : List (List ℕ)). filter is_word (onto_first c ps)) more.are
        ∙ kept_both (is_word (c ∷ take (comment_len cs) cs)) (c ∷ take (comment_len cs) cs) (filter is_word more.others) (filter is_word (pieces (Word Open) (drop (comment_len cs) cs))) more.words

front : (x : List ℕ) (xs : List (List ℕ)) → filter is_word (x ∷ xs) ≡ filter is_word (x ∷ []) ++ filter is_word xs
front x xs = go (is_word x)
  where
    go : (b : Bool) → cond b (x ∷ filter is_word xs) (filter is_word xs) ≡ cond b (x ∷ []) [] ++ filter is_word xs
    go true = refl
    go false = refl

words_of : (n : ℕ) (text : List ℕ) → n ≡ word_end Open 0 text
    → filter is_word (pieces (Word Open) text) ≡ filter is_word (take n text ∷ []) ++ filter is_word (behind_word (drop n text))
words_of n text is =
    let same : len Open text ≡ n = omega (arith, word_end-len Open 0 text) in
    ap (filter is_word) (word_first Open text)
    ∙ ap (λ (k : ℕ). filter is_word (take k text ∷ behind_word (drop k text))) same
    ∙ front (take n text) (behind_word (drop n text))

-- the last word
pub words_end : (n : ℕ) (text word : List ℕ) (out after total : List (List ℕ)) → n ≡ word_end Open 0 text → word ≡ take n text → length (drop n text) ≡ 0
    → after ≡ out ++ filter is_word (word ∷ []) → out ++ filter is_word (pieces (Word Open) text) ≡ total → after ≡ total
words_end n text word out after total is taken none push was =
    push ∙ ap (λ (w : List ℕ). out ++ filter is_word (w ∷ [])) taken
    ∙ ap (λ (ws : List (List ℕ)). out ++ ws)
    (sym_nil ∙ ap (λ (r : List ℕ). filter is_word (take n text ∷ []) ++ filter is_word (behind_word r)) (sym (nothing (drop n text) none)) ∙ sym (words_of n text is))
    ∙ was
  where
    append_nil : (xs : List (List ℕ)) → xs ++ [] ≡ xs
    append_nil [] = refl
    append_nil (x ∷ xs) = ap (λ (ys : List (List ℕ)). x ∷ ys) (append_nil xs)

    sym_nil : filter is_word (take n text ∷ []) ≡ filter is_word (take n text ∷ []) ++ []
    sym_nil = sym (append_nil (filter is_word (take n text ∷ [])))

    nothing : (xs : List ℕ) → length xs ≡ 0 → xs ≡ []
    nothing [] h = refl
    nothing (x ∷ xs) h = absurd (omega arith)

-- a word, and the mark, the blank or the comment after it
pub words_go_on : (n k : ℕ) (text word behind part more : List ℕ) (out middle after total : List (List ℕ)) → n ≡ word_end Open 0 text → word ≡ take n text → behind ≡ drop n text
    → k ≡ part_len behind → part ≡ take k behind → more ≡ drop k behind
    → middle ≡ out ++ filter is_word (word ∷ []) → after ≡ middle ++ filter is_word (part ∷ [])
    → out ++ filter is_word (pieces (Word Open) text) ≡ total → after ++ filter is_word (pieces (Word Open) more) ≡ total
words_go_on n k text word behind part more out middle after total is taken dropped part_is part_taken part_dropped push push_part was =
    let here : List (List ℕ) = filter is_word (word ∷ []) in
    let there : List (List ℕ) = filter is_word (part ∷ []) in
    let rest : List (List ℕ) = filter is_word (pieces (Word Open) more) in
    let first : filter is_word (pieces (Word Open) text) ≡ here ++ filter is_word (behind_word behind) =
    words_of n text is ∙ ap (λ (w : List ℕ). filter is_word (w ∷ []) ++ filter is_word (behind_word (drop n text))) (sym taken)
    ∙ ap (λ (b : List ℕ). here ++ filter is_word (behind_word b)) (sym dropped) in
    let second : filter is_word (behind_word behind) ≡ there ++ rest =
    part_first behind ∙ ap (λ (m : ℕ). filter is_word (take m behind ∷ pieces (Word Open) (drop m behind))) (sym part_is)
    ∙ ap (λ (p : List ℕ). filter is_word (p ∷ pieces (Word Open) (drop k behind))) (sym part_taken)
    ∙ ap (λ (m : List ℕ). filter is_word (part ∷ pieces (Word Open) m)) (sym part_dropped) ∙ front part (pieces (Word Open) more) in
    ap (λ (ws : List (List ℕ)). ws ++ rest) (push_part ∙ ap (λ (ws : List (List ℕ)). ws ++ there) push)
    ∙ append_assoc (out ++ here) there rest ∙ append_assoc out here (there ++ rest)
    ∙ ap (λ (ws : List (List ℕ)). out ++ (here ++ ws)) (sym second) ∙ ap (λ (ws : List (List ℕ)). out ++ ws) (sym first) ∙ was

-- ---- how many words there are

record Few (n : ℕ) (ps : List (List ℕ)) : Type 0 where
  first : List ℕ
  others : List (List ℕ)
  are : ps ≡ first ∷ others
  few : length (filter is_word others) + length first ≤ n

counted : (b : Bool) (x : List ℕ) (xs : List (List ℕ)) → length (cond b (x ∷ xs) xs) ≤ suc (length xs)
counted true x xs = omega arith
counted false x xs = omega arith

some_first : (first : List ℕ) (others : List (List ℕ)) → length (filter is_word (first ∷ others)) ≤ length (filter is_word others) + length first
some_first [] others = omega arith
some_first (c ∷ first) others = let h = counted (is_word (c ∷ first)) (c ∷ first) (filter is_word others) in omega (arith, h)

one_piece : (c : ℕ) (n : ℕ) (ps : List (List ℕ)) → Few n ps → Few (suc n) ([] ∷ (c ∷ []) ∷ ps)
one_piece c n ps more =
    let h = counted (is_word (c ∷ [])) (c ∷ []) (filter is_word ps) in
    let k = some_first more.first more.others in
    let e : length (filter is_word ps) ≡ length (filter is_word (more.first ∷ more.others)) = ap (λ (qs : List (List ℕ)). length (filter is_word qs)) more.are in
    record { first = []; others = (c ∷ []) ∷ ps; are = refl; few = omega (arith, h, k, e, more.few) }

closed_piece : (c : ℕ) (n : ℕ) (ps : List (List ℕ)) → Few n ps → Few (suc n) ((c ∷ []) ∷ ps)
closed_piece c n ps more =
    let k = some_first more.first more.others in
    let e : length (filter is_word ps) ≡ length (filter is_word (more.first ∷ more.others)) = ap (λ (qs : List (List ℕ)). length (filter is_word qs)) more.are in
    record { first = c ∷ []; others = ps; are = refl; few = omega (arith, k, e, more.few) }

longer_piece : (c : ℕ) (n : ℕ) (ps : List (List ℕ)) → Few n ps → Few (suc n) (onto_first c ps)
longer_piece c n ps more = record { first = c ∷ more.first; others = more.others; are = ap (onto_first c) more.are; few = omega (arith, more.few) }

begun_piece : (c : ℕ) (n : ℕ) (ps : List (List ℕ)) → Few n ps → Few (suc n) ([] ∷ onto_first c ps)
begun_piece c n ps more =
    let h = counted (is_word (c ∷ more.first)) (c ∷ more.first) (filter is_word more.others) in
    record { first = []; others = (c ∷ more.first) ∷ more.others; are = ap (λ (qs : List (List ℕ)). [] ∷ onto_first c qs) more.are; few = omega (arith, h, more.few) }

few_pieces : (spot : Spot) (text : List ℕ) → Few (length text) (pieces spot text)
few_pieces (Word place) [] = record { first = []; others = []; are = refl; few = omega arith }
few_pieces Bracket [] = record { first = []; others = []; are = refl; few = omega arith }
few_pieces Comment [] = record { first = []; others = []; are = refl; few = omega arith }
few_pieces Bracket (c ∷ cs) = closed_piece c (length cs) (pieces (Word Open) cs) (few_pieces (Word Open) cs)
few_pieces Comment (c ∷ cs) = go (is_line_feed c) (few_pieces (Word Open) cs) (few_pieces Comment cs)
  where
    go : (b : Bool) → Few (length cs) (pieces (Word Open) cs) → Few (length cs) (pieces Comment cs)
        → Few (suc (length cs)) (cond b ((c ∷ []) ∷ pieces (Word Open) cs) (onto_first c (pieces Comment cs)))
    go true out in_it = closed_piece c (length cs) (pieces (Word Open) cs) out
    go false out in_it = longer_piece c (length cs) (pieces Comment cs) in_it
few_pieces (Word place) (c ∷ cs) =
    go (is_open place && is_single c) (is_open place && is_double c cs) (is_open place && begins_comment c)
    (few_pieces (Word Open) cs) (few_pieces Bracket cs) (few_pieces Comment cs) (few_pieces (Word (next place c)) cs)
  where
    go : (s d h : Bool) → Few (length cs) (pieces (Word Open) cs) → Few (length cs) (pieces Bracket cs) → Few (length cs) (pieces Comment cs) → Few (length cs) (pieces (Word (next place c)) cs)
        → Few (suc (length cs)) (cond s ([] ∷ (c ∷ []) ∷ pieces (Word Open) cs) (cond d ([] ∷ onto_first c (pieces Bracket cs)) (cond h ([] ∷ onto_first c (pieces Comment cs)) (onto_first c (pieces (Word (next place c)) cs)))))
    go true d h out bracket comment word = one_piece c (length cs) (pieces (Word Open) cs) out
    go false true h out bracket comment word = begun_piece c (length cs) (pieces Bracket cs) bracket
    go false false true out bracket comment word = begun_piece c (length cs) (pieces Comment cs) comment
    go false false false out bracket comment word = longer_piece c (length cs) (pieces (Word (next place c)) cs) word

pub words_fit : (text : List ℕ) → length (words text) ≤ length text
unfolding words
words_fit text =
    let all = few_pieces (Word Open) text in
    let k = some_first all.first all.others in
    let e : length (filter is_word (pieces (Word Open) text)) ≡ length (filter is_word (all.first ∷ all.others)) = ap (λ (qs : List (List ℕ)). length (filter is_word qs)) all.are in
    omega (arith, k, e, all.few)
