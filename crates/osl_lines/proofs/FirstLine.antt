-- The first line of a text, and the lines after it.
use Rattle.std.proofs.Common.{◌≡◌, ℕ, suc, ◌+◌, ◌<◌, ◌≤◌, Bool, true, false, not, cond, ◌==◌, nat_lt, List, [], ◌∷◌, length, take, drop, filter, Some, None, refl, sym, ap, ◌∙◌, arith, rules, tests}
use Rattle.std.specs.List.{slice_split, onto_first, position, position_or_len}
use Rattle.std.specs.Str.Lines.{lines, lines_of_parts, strip_carriage_return}
use Rattle.std.proofs.lemmas.Bool.{ltb-true, ltb-false}
use Rattle.std.proofs.lemmas.List.Splits.{slice_split_first}
use Rattle.osl_valuetext.specs.Words.{Line}
use Rattle.osl_lines.specs.declared.comment.Comments.{Comments}
use Rattle.osl_lines.specs.Lines.{is_line_feed, line_words, means, numbered, meant_from}

placed_some : (b : Bool) (k i : ℕ) → cond b (Some k) None ≡ Some i → (b ≡ true) × (k ≡ i)
placed_some true k i h = (refl, cc)
placed_some false k i h = absurd cc

placed_none : (b : Bool) (k : ℕ) → cond b (Some k) None ≡ None → b ≡ false
placed_none true k h = absurd cc
placed_none false k h = refl

more_parts : (line c : List ℕ) (parts : List (List ℕ)) (x : ℕ) → lines_of_parts (line ∷ onto_first x parts) ≡ strip_carriage_return line ∷ lines_of_parts (onto_first x parts)
more_parts line c [] x = refl
more_parts line c (part ∷ parts) x = refl

-- a part that others follow is a line
pub followed : (line : List ℕ) (xs : List ℕ) → lines_of_parts (line ∷ slice_split is_line_feed xs) ≡ strip_carriage_return line ∷ lines_of_parts (slice_split is_line_feed xs)
followed line [] = refl
followed line (x ∷ xs) = go (is_line_feed x)
  where
    go : (b : Bool)
        → lines_of_parts (line ∷ cond b ([] ∷ slice_split is_line_feed xs) (onto_first x (slice_split is_line_feed xs)))
        ≡ strip_carriage_return line ∷ lines_of_parts (cond b ([] ∷ slice_split is_line_feed xs) (onto_first x (slice_split is_line_feed xs)))
    go true = refl
    go false = more_parts line [] (slice_split is_line_feed xs) x

whole_part : (xs : List ℕ) → length xs ≤ position_or_len is_line_feed xs → slice_split is_line_feed xs ≡ xs ∷ []
whole_part [] h = refl
whole_part (x ∷ xs) h = go (is_line_feed x) (whole_part xs) h
  where
    go : (b : Bool) → (length xs ≤ position_or_len is_line_feed xs → slice_split is_line_feed xs ≡ xs ∷ [])
        → suc (length xs) ≤ cond (not b) (1 + position_or_len is_line_feed xs) 0
        → cond b ([] ∷ slice_split is_line_feed xs) (onto_first x (slice_split is_line_feed xs)) ≡ (x ∷ xs) ∷ []
    go true inner le = absurd (omega arith)
    go false inner le = ap (onto_first x) (inner (omega arith))

pub at_line_feed : (xs : List ℕ) (at : ℕ) → position is_line_feed xs ≡ Some at → lines xs ≡ strip_carriage_return (take at xs) ∷ lines (drop (at + 1) xs)
at_line_feed xs at h =
    let k = position_or_len is_line_feed xs in
    let placed = placed_some (nat_lt k (length xs)) k at h in
    let first = slice_split_first is_line_feed xs 0 (ltb-true _ _ placed.0) in
    let at_k : lines xs ≡ strip_carriage_return (take k xs) ∷ lines (drop (k + 1) xs) = ap lines_of_parts first ∙ followed (take k xs) (drop (k + 1) xs) in
    at_k ∙ ap (λ (n : ℕ). strip_carriage_return (take n xs) ∷ lines (drop (n + 1) xs)) placed.1

last_part : (x : ℕ) (xs : List ℕ) → lines_of_parts ((x ∷ xs) ∷ []) ≡ (x ∷ xs) ∷ []
last_part x xs = let some : (length (x ∷ xs) == 0) ≡ false = search (rules, tests) in rw some refl

pub no_line_feed : (xs : List ℕ) → position is_line_feed xs ≡ None → 0 < length xs → lines xs ≡ xs ∷ []
no_line_feed [] h some = absurd (omega arith)
no_line_feed (x ∷ xs) h some =
    let k = position_or_len is_line_feed (x ∷ xs) in
    let past = ltb-false _ _ (placed_none (nat_lt k (length (x ∷ xs))) k h) in
    ap lines_of_parts (whole_part (x ∷ xs) past) ∙ last_part x xs

-- ---- the lines that mean something

meant_more : (comments : Comments) (n : ℕ) (bytes line rest : List ℕ) → lines bytes ≡ line ∷ lines rest
    → meant_from comments n bytes ≡ cond (means (line_words comments line)) (record { number = n; line = line_words comments line } ∷ meant_from comments (n + 1) rest) (meant_from comments (n + 1) rest)
unfolding meant_from
meant_more comments n bytes line rest first = ap (λ (ls : List (List ℕ)). filter (λ l. means l.line) (numbered comments n ls)) first

pub meant_found : (comments : Comments) (n : ℕ) (bytes line rest : List ℕ) (said : Line) → lines bytes ≡ line ∷ lines rest → said ≡ line_words comments line → means said ≡ true
    → meant_from comments n bytes ≡ record { number = n; line = said } ∷ meant_from comments (n + 1) rest
meant_found comments n bytes line rest said first same does =
    meant_more comments n bytes line rest first
    ∙ ap (λ (ws : Line). cond (means ws) (record { number = n; line = ws } ∷ meant_from comments (n + 1) rest) (meant_from comments (n + 1) rest)) (sym same)
    ∙ ap (λ (b : Bool). cond b (record { number = n; line = said } ∷ meant_from comments (n + 1) rest) (meant_from comments (n + 1) rest)) does

pub meant_passed : (comments : Comments) (n : ℕ) (bytes line rest : List ℕ) (said : Line) → lines bytes ≡ line ∷ lines rest → said ≡ line_words comments line → means said ≡ false
    → meant_from comments (n + 1) rest ≡ meant_from comments n bytes
meant_passed comments n bytes line rest said first same does =
    sym (meant_more comments n bytes line rest first
    ∙ ap (λ (ws : Line). cond (means ws) (record { number = n; line = ws } ∷ meant_from comments (n + 1) rest) (meant_from comments (n + 1) rest)) (sym same)
    ∙ ap (λ (b : Bool). cond b (record { number = n; line = said } ∷ meant_from comments (n + 1) rest) (meant_from comments (n + 1) rest)) does)

pub meant_none : (comments : Comments) (n : ℕ) (bytes : List ℕ) → length bytes ≡ 0 → meant_from comments n bytes ≡ []
unfolding meant_from
meant_none comments n [] h = refl
meant_none comments n (c ∷ bytes) h = absurd (omega arith)
