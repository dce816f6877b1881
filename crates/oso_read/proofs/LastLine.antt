-- The last line of a text: whether it has its line feed.
use Rattle.std.proofs.Common.{◌≡◌, ℕ, suc, ◌+◌, ◌-◌, ◌<◌, ◌≤◌, Bool, true, false, not, ◌||◌, ◌==◌, cond, eqb, nat_lt, List, [], ◌∷◌, ◌++◌, length, drop, filter, reverse, refl, sym, ap, subst, ◌∙◌, ◌⊎◌, inl, inr, ⊎_elim, append-nil, arith}
use Rattle.std.specs.Prelude.{slice_index}
use Rattle.std.specs.List.{slice_split, onto_first, after_last, suffix_len, prefix_len, AllByRecursion}
use Rattle.std.specs.Str.Lines.{lines, lines_of_parts, strip_carriage_return}
use Rattle.std.proofs.lemmas.Bool.{eqb-true, eq-eqb, ne_eqb, lt-ltb, le-ltb, or_right, cond-true, cond-false, true≢false}
use Rattle.std.proofs.lemmas.List.{get_or_at, length-append, length-reverse, length-drop, reverse-append, same_from_push}
use Rattle.std.proofs.lemmas.List.Elements.{filter-append}
use Rattle.std.proofs.lemmas.List.Folds.{prefix_len-append}
use Rattle.std.proofs.lemmas.List.Sums.{suffix_len-le-length}
use Rattle.osl_valuetext.specs.Splitting.{words}
use Rattle.oso_read.specs.Text.{means, Numbered, numbered, told_from, told, line_count}
use Rattle.oso_read.specs.Spelt.{is_line_feed}
use Rattle.oso_read.specs.Reading.{is_ended}
use Rattle.osl_valuetext.proofs.Alls.{last_of_all}
use Rattle.oso_read.proofs.CanonLines.{ends_in_feed}

abbrev inside : ℕ → Bool
inside c = not (is_line_feed c)

-- ---- the last part between line feeds

abbrev last_part : List (List ℕ) → List ℕ
last_part [] = []
last_part (x ∷ []) = x
last_part (x ∷ y ∷ more) = last_part (y ∷ more)

-- no line feed stands in it
abbrev is_one : List ℕ → Bool
is_one xs = eqb (suffix_len inside xs) (length xs)

record HasTwo (parts : List (List ℕ)) : Type 0 where
  first : List ℕ
  second : List ℕ
  others : List (List ℕ)
  are : parts ≡ first ∷ second ∷ others

record Parted (xs : List ℕ) : Type 0 where
  last : last_part (slice_split is_line_feed xs) ≡ after_last is_line_feed xs
  one : is_one xs ≡ true → slice_split is_line_feed xs ≡ xs ∷ []
  more : is_one xs ≡ false → HasTwo (slice_split is_line_feed xs)

suffix_more : (c : ℕ) (cs : List ℕ) → suffix_len inside (c ∷ cs) ≡ cond (is_one cs) (length cs + prefix_len inside (c ∷ [])) (suffix_len inside cs)
suffix_more c cs =
    ap (prefix_len inside) (reverse-append (c ∷ []) cs) ∙ prefix_len-append inside (reverse cs) (c ∷ [])
    ∙ ap (λ (n : ℕ). cond (eqb (suffix_len inside cs) n) (n + prefix_len inside (c ∷ [])) (suffix_len inside cs)) (length-reverse cs)

after_by : (c : ℕ) (cs : List ℕ) (k : ℕ) → suffix_len inside (c ∷ cs) ≡ k → after_last is_line_feed (c ∷ cs) ≡ drop (suc (length cs) - k) (c ∷ cs)
after_by c cs k e = ap (λ (n : ℕ). drop (suc (length cs) - n) (c ∷ cs)) e

two_parts : (xs : List ℕ) → (first : List ℕ) × (others : List (List ℕ)) × (slice_split is_line_feed xs ≡ first ∷ others)
two_parts [] = ([], [], refl)
two_parts (c ∷ cs) = go (is_line_feed c) (slice_split is_line_feed cs)
  where
    go : (b : Bool) (parts : List (List ℕ)) → (first : List ℕ) × (others : List (List ℕ)) × (cond b ([] ∷ slice_split is_line_feed cs) (onto_first c parts) ≡ first ∷ others)
    go true parts = ([], slice_split is_line_feed cs, refl)
    go false [] = (c ∷ [], [], refl)
    go false (x ∷ parts) = (c ∷ x, parts, refl)

at_feed : (c : ℕ) (cs : List ℕ) → is_line_feed c ≡ true → Parted cs → Parted (c ∷ cs)
at_feed c cs feed rest =
    let split : slice_split is_line_feed (c ∷ cs) ≡ [] ∷ slice_split is_line_feed cs = cond-true _ _ _ feed in
    let first = two_parts cs in
    let two : slice_split is_line_feed (c ∷ cs) ≡ [] ∷ first.0 ∷ first.1 = split ∙ ap (λ (ps : List (List ℕ)). [] ∷ ps) first.2 in
    let nothing : prefix_len inside (c ∷ []) ≡ 0 = ap (λ (b : Bool). cond (not b) (1 + 0) 0) feed in
    let size : suffix_len inside (c ∷ cs) ≡ cond (is_one cs) (length cs + 0) (suffix_len inside cs) =
    suffix_more c cs ∙ ap (λ (n : ℕ). cond (is_one cs) (length cs + n) (suffix_len inside cs)) nothing in
    let bound = suffix_len-le-length inside cs in
    let last_here : last_part (slice_split is_line_feed (c ∷ cs)) ≡ last_part (slice_split is_line_feed cs) = ap last_part two ∙ ap last_part (sym first.2) in
    let small : suffix_len inside (c ∷ cs) ≤ length cs = below (is_one cs) size bound in
    record {
      last = last_here ∙ rest.last ∙ sym (after (is_one cs) refl size bound);
      one = λ h. let e = eqb-true _ _ h in absurd (omega arith);
      more = λ h. record { first = []; second = first.0; others = first.1; are = two };
    }
  where
    below : (b : Bool) → suffix_len inside (c ∷ cs) ≡ cond b (length cs + 0) (suffix_len inside cs) → suffix_len inside cs ≤ length cs → suffix_len inside (c ∷ cs) ≤ length cs
    below true size bound = omega arith
    below false size bound = omega arith

    after : (b : Bool) → is_one cs ≡ b → suffix_len inside (c ∷ cs) ≡ cond b (length cs + 0) (suffix_len inside cs) → suffix_len inside cs ≤ length cs
        → after_last is_line_feed (c ∷ cs) ≡ after_last is_line_feed cs
    after true h size bound =
        let all = eqb-true (suffix_len inside cs) (length cs) h in
        let one : suc (length cs) - (length cs + 0) ≡ suc 0 = omega arith in
        let none : 0 ≡ length cs - suffix_len inside cs = omega arith in
        after_by c cs (length cs + 0) size ∙ ap (λ (n : ℕ). drop n (c ∷ cs)) one ∙ ap (λ (n : ℕ). drop n cs) none
    after false h size bound =
        let step : suc (length cs) - suffix_len inside cs ≡ suc (length cs - suffix_len inside cs) = omega arith in
        after_by c cs (suffix_len inside cs) size ∙ ap (λ (n : ℕ). drop n (c ∷ cs)) step

at_other : (c : ℕ) (cs : List ℕ) → is_line_feed c ≡ false → Parted cs → Parted (c ∷ cs)
at_other c cs other rest = go (is_one cs) refl
  where
    split : slice_split is_line_feed (c ∷ cs) ≡ onto_first c (slice_split is_line_feed cs)
    split = cond-false _ _ _ other

    some : prefix_len inside (c ∷ []) ≡ 1
    some = ap (λ (b : Bool). cond (not b) (1 + 0) 0) other

    size : suffix_len inside (c ∷ cs) ≡ cond (is_one cs) (length cs + 1) (suffix_len inside cs)
    size = suffix_more c cs ∙ ap (λ (n : ℕ). cond (is_one cs) (length cs + n) (suffix_len inside cs)) some

    go : (b : Bool) → is_one cs ≡ b → Parted (c ∷ cs)
    go true h =
        let here : suffix_len inside (c ∷ cs) ≡ length cs + 1 = size ∙ cond-true _ _ _ h in
        let whole : slice_split is_line_feed (c ∷ cs) ≡ (c ∷ cs) ∷ [] = split ∙ ap (onto_first c) (rest.one h) in
        let all : is_one (c ∷ cs) ≡ true = eq-eqb _ _ (omega arith) in
        let none : suc (length cs) - (length cs + 1) ≡ 0 = omega arith in
        record {
          last = ap last_part whole ∙ sym (after_by c cs (length cs + 1) here ∙ ap (λ (n : ℕ). drop n (c ∷ cs)) none);
          one = λ k. whole;
          more = λ k. absurd (true≢false (sym all ∙ k));
        }
    go false h =
        let here : suffix_len inside (c ∷ cs) ≡ suffix_len inside cs = size ∙ cond-false _ _ _ h in
        let two = rest.more h in
        let bound = suffix_len-le-length inside cs in
        let whole : slice_split is_line_feed (c ∷ cs) ≡ (c ∷ two.first) ∷ two.second ∷ two.others = split ∙ ap (onto_first c) two.are in
        let step : suc (length cs) - suffix_len inside cs ≡ suc (length cs - suffix_len inside cs) = omega arith in
        let same_last : last_part (slice_split is_line_feed (c ∷ cs)) ≡ last_part (slice_split is_line_feed cs) = ap last_part whole ∙ ap last_part (sym two.are) in
        record {
          last = same_last ∙ rest.last ∙ sym (after_by c cs (suffix_len inside cs) here ∙ ap (λ (n : ℕ). drop n (c ∷ cs)) step);
          one = λ k. let e = eqb-true (suffix_len inside (c ∷ cs)) (suc (length cs)) k in absurd (omega arith);
          more = λ k. record { first = c ∷ two.first; second = two.second; others = two.others; are = whole };
        }

parted : (xs : List ℕ) → Parted xs
parted [] = record { last = refl; one = λ h. refl; more = λ h. absurd (true≢false h) }
parted (c ∷ cs) = go (is_line_feed c) refl (parted cs)
  where
    go : (b : Bool) → is_line_feed c ≡ b → Parted cs → Parted (c ∷ cs)
    go true h rest = at_feed c cs h rest
    go false h rest = at_other c cs h rest

-- ---- the last line

lines_last : (part : List ℕ) (parts : List (List ℕ)) → 0 < length (last_part (part ∷ parts)) → (ls : List (List ℕ)) × (lines_of_parts (part ∷ parts) ≡ ls ++ last_part (part ∷ parts) ∷ [])
lines_last part [] some = ([], cond-false _ _ _ (ne_eqb (length part) 0 (λ e. absurd (omega arith))))
lines_last part (next ∷ parts) some =
    let rest = lines_last next parts some in
    (strip_carriage_return part ∷ rest.0, ap (λ (ls : List (List ℕ)). strip_carriage_return part ∷ ls) rest.1)

last_line : (bytes : List ℕ) → 0 < length (after_last is_line_feed bytes) → (ls : List (List ℕ)) × (lines bytes ≡ ls ++ after_last is_line_feed bytes ∷ [])
last_line bytes some =
    let first = two_parts bytes in
    let is : last_part (first.0 ∷ first.1) ≡ after_last is_line_feed bytes = ap last_part (sym first.2) ∙ (parted bytes).last in
    let long : 0 < length (last_part (first.0 ∷ first.1)) = omega (arith, ap length is) in
    let found = lines_last first.0 first.1 long in
    (found.0, ap lines_of_parts first.2 ∙ found.1 ∙ ap (λ (l : List ℕ). found.0 ++ l ∷ []) is)

numbered-append : (n : ℕ) (xs ys : List (List ℕ)) → numbered n (xs ++ ys) ≡ numbered n xs ++ numbered (n + length xs) ys
numbered-append n [] ys = let same : n ≡ n + length {A = List ℕ} [] = omega arith in ap (λ (k : ℕ). numbered k ys) same
numbered-append n (x ∷ xs) ys =
    let same : n + 1 + length xs ≡ n + length (x ∷ xs) = omega arith in
    ap (λ (ls : List Numbered). record { number = n; line = words x } ∷ ls) (numbered-append (n + 1) xs ys ∙ ap (λ (k : ℕ). numbered (n + 1) xs ++ numbered k ys) same)

abbrev Below : ℕ → Numbered → Type 0
Below n l = l.number < n

numbers_below : (n top : ℕ) (xs : List (List ℕ)) → n + length xs ≤ top → AllByRecursion (Below top) (filter (λ (l : Numbered). means l.line) (numbered n xs))
numbers_below n top [] le = tt
numbers_below n top (x ∷ xs) le = go (means (words x)) (numbers_below (n + 1) top xs (omega arith))
  where
    go : (b : Bool) → AllByRecursion (Below top) (filter (λ (l : Numbered). means l.line) (numbered (n + 1) xs))
        → AllByRecursion (Below top) (cond b (record { number = n; line = words x } ∷ filter (λ (l : Numbered). means l.line) (numbered (n + 1) xs)) (filter (λ (l : Numbered). means l.line) (numbered (n + 1) xs)))
    go true rest = (omega arith, rest)
    go false rest = rest

-- ---- whether it has its line feed

open_end : (bytes : List ℕ) (before : List Numbered) (last : Numbered) → (slice_index bytes (length bytes - 1) == 10) ≡ false → 0 < length (after_last is_line_feed bytes)
    → told bytes ≡ before ++ last ∷ [] → is_ended bytes last.number ≡ not (means (words (after_last is_line_feed bytes)))
unfolding told_from
open_end bytes before last shut some is =
    let found = last_line bytes some in
    let tail = after_last is_line_feed bytes in
    let count : line_count bytes ≡ length found.0 + 1 = ap length found.1 ∙ length-append found.0 (tail ∷ []) in
    let top = 1 + length found.0 in
    let kept : List Numbered = filter (λ (l : Numbered). means l.line) (numbered 1 found.0) in
    let all : told bytes ≡ kept ++ cond (means (words tail)) (record { number = top; line = words tail } ∷ []) [] =
    ap (λ (ls : List (List ℕ)). filter (λ (l : Numbered). means l.line) (numbered 1 ls)) found.1
    ∙ ap (filter (λ (l : Numbered). means l.line)) (numbered-append 1 found.0 (tail ∷ []))
    ∙ filter-append (λ (l : Numbered). means l.line) (numbered 1 found.0) (numbered top (tail ∷ [])) in
    ap (λ (b : Bool). nat_lt last.number (line_count bytes) || b) shut ∙ or-false (nat_lt last.number (line_count bytes))
    ∙ go (means (words tail)) top kept (numbers_below 1 top found.0 (omega arith)) (sym is ∙ all) (omega arith)
  where
    or-false : (b : Bool) → (b || false) ≡ b
    or-false true = refl
    or-false false = refl

    go : (b : Bool) (top : ℕ) (kept : List Numbered) → AllByRecursion (Below top) kept
        → before ++ last ∷ [] ≡ kept ++ cond b (record { number = top; line = words (after_last is_line_feed bytes) } ∷ []) [] → line_count bytes ≡ top
        → nat_lt last.number (line_count bytes) ≡ not b
    go true top kept below e count =
        let same = same_from_push before kept last (record { number = top; line = words (after_last is_line_feed bytes) }) e in
        let number : last.number ≡ top = ap (λ (l : Numbered). l.number) same.1 in
        le-ltb last.number (line_count bytes) (omega arith)
    go false top kept below e count =
        let less : last.number < top = last_of_all (Below top) before last (subst (λ (ls : List Numbered). AllByRecursion (Below top) ls) (sym (e ∙ append-nil kept)) below) in
        lt-ltb last.number (line_count bytes) (omega arith)

list_end : (xs : List ℕ) → (xs ≡ []) ⊎ ((front : List ℕ) × (c : ℕ) × (xs ≡ front ++ c ∷ []))
list_end [] = inl refl
list_end (x ∷ xs) =
    ⊎_elim (λ (e : xs ≡ []). inr ([], x, ap (λ (t : List ℕ). x ∷ t) e))
    (λ (e : (front : List ℕ) × (c : ℕ) × (xs ≡ front ++ c ∷ [])). inr (x ∷ e.0, e.1, ap (λ (t : List ℕ). x ∷ t) e.2)) (list_end xs)

tail_some : (front : List ℕ) (c : ℕ) → is_line_feed c ≡ false → 0 < length (after_last is_line_feed (front ++ c ∷ []))
tail_some front c other =
    let whole = front ++ c ∷ [] in
    let size : suffix_len inside whole ≡ 1 + prefix_len inside (reverse front) =
    ap (prefix_len inside) (reverse-append front (c ∷ [])) ∙ ap (λ (b : Bool). cond (not b) (1 + prefix_len inside (reverse front)) 0) other in
    let bound = suffix_len-le-length inside whole in
    omega (arith, length-drop (length whole - suffix_len inside whole) whole)

last_byte : (front : List ℕ) (c : ℕ) → slice_index (front ++ c ∷ []) (length (front ++ c ∷ []) - 1) ≡ c
last_byte front c = get_or_at front c [] 0 (length (front ++ c ∷ []) - 1) (omega (arith, length-append front (c ∷ [])))

no_lines : (before : List Numbered) (last : Numbered) → [] ≡ before ++ last ∷ [] → ⊥
no_lines [] last e = cc
no_lines (l ∷ before) last e = cc

-- The last line that means something has its line feed exactly where nothing after the last line feed means something.
pub ended_exactly : (bytes : List ℕ) (before : List Numbered) (last : Numbered) → told bytes ≡ before ++ last ∷ []
    → is_ended bytes last.number ≡ not (means (words (after_last is_line_feed bytes)))
unfolding told_from
ended_exactly bytes before last is =
    ⊎_elim (λ (e : bytes ≡ []). absurd (no_lines before last (sym (ap told e) ∙ is)))
    (λ (e : (front : List ℕ) × (c : ℕ) × (bytes ≡ front ++ c ∷ [])). go e.0 e.1 e.2 (is_line_feed e.1) refl) (list_end bytes)
  where
    go : (front : List ℕ) (c : ℕ) → bytes ≡ front ++ c ∷ [] → (b : Bool) → is_line_feed c ≡ b → is_ended bytes last.number ≡ not (means (words (after_last is_line_feed bytes)))
    go front c whole true h =
        let feed : c ≡ 10 = eqb-true c 10 h in
        let closed : bytes ≡ front ++ 10 ∷ [] = whole ∙ ap (λ (n : ℕ). front ++ n ∷ []) feed in
        let ends : (slice_index bytes (length bytes - 1) == 10) ≡ true = ap (λ (bs : List ℕ). slice_index bs (length bs - 1) == 10) closed ∙ eq-eqb _ 10 (last_byte front 10) in
        or_right _ _ ends ∙ sym (ap not (ap (λ (bs : List ℕ). means (words (after_last is_line_feed bs))) closed ∙ ends_in_feed front))
    go front c whole false h =
        let shut : (slice_index bytes (length bytes - 1) == 10) ≡ false = ap (λ (bs : List ℕ). slice_index bs (length bs - 1) == 10) whole ∙ ap (λ (n : ℕ). n == 10) (last_byte front c) ∙ h in
        let some : 0 < length (after_last is_line_feed bytes) = subst (λ (bs : List ℕ). 0 < length (after_last is_line_feed bs)) (sym whole) (tail_some front c h) in
        open_end bytes before last shut some is

pub end_is_ended : (bytes : List ℕ) (before : List Numbered) (last : Numbered) → told bytes ≡ before ++ last ∷ [] → means (words (after_last is_line_feed bytes)) ≡ false → is_ended bytes last.number ≡ true
end_is_ended bytes before last is h = ended_exactly bytes before last is ∙ ap not h

pub ended_is_end : (bytes : List ℕ) (before : List Numbered) (last : Numbered) → told bytes ≡ before ++ last ∷ [] → is_ended bytes last.number ≡ true → means (words (after_last is_line_feed bytes)) ≡ false
ended_is_end bytes before last is h = go (means (words (after_last is_line_feed bytes))) refl (sym (ended_exactly bytes before last is) ∙ h)
  where
    go : (b : Bool) → means (words (after_last is_line_feed bytes)) ≡ b → not b ≡ true → means (words (after_last is_line_feed bytes)) ≡ false
    go true k e = absurd cc
    go false k e = k
