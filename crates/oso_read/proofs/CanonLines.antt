-- The canonical text of lines: it splits again into these lines, and they into their words.
use Rattle.std.proofs.Common.{◌≡◌, ℕ, zero, suc, ◌+◌, ◌-◌, ◌<◌, ◌≤◌, Bool, true, false, not, ◌==◌, cond, List, [], ◌∷◌, ◌++◌, length, drop, filter, map, Option, refl, sym, ap, ◌∙◌, append_assoc, arith}
use Rattle.std.specs.Prelude.{nat_le, slice_index}
use Rattle.std.specs.List.{list_all, flat_map, after_last, suffix_len, prefix_len, AllByRecursion}
use Rattle.std.specs.Str.Lines.{lines, lines_of_parts}
use Rattle.std.proofs.lemmas.Bool.{and_parts, ne_eqb, leb-true, cond-false}
use Rattle.std.proofs.lemmas.List.{drop_all, reverse-append}
use Rattle.std.proofs.lemmas.List.Concat.{flat_map-append}
use Rattle.std.proofs.lemmas.List.Elements.{All-from_recursion}
use Rattle.std.proofs.lemmas.List.Splits.{slice_split_at}
use Rattle.osl_valuetext.specs.Words.{behind, Line}
use Rattle.oso_write.specs.Canon.{line_text}
use Rattle.osl_valuetext.specs.declared.place.Place.TheVariants.{Open}
use Rattle.osl_valuetext.specs.Splitting.{is_blank, has_bytes, pieces, words}
use Rattle.oso_read.specs.Text.{means, Numbered, numbered, told_from}
use Rattle.oso_read.specs.Hints.{said}
use Rattle.oso_read.specs.Spelt.{is_line_feed}
use Rattle.oso_read.proofs.FirstLine.{followed}
use Rattle.osl_valuetext.proofs.Runs.{Holds, pieces_joined}
use Rattle.oso_read.proofs.Dull.{is_printed}
use Rattle.oso_read.proofs.Fields.{IsWord, printed_both}

-- a line that means something, each of its words whole
pub record IsLine (line : Line) : Type 0 where
  pub whole : AllByRecursion IsWord line
  pub meaning : means line ≡ true

-- its words with a space between them
abbrev pub joined : Line → List ℕ
joined [] = []
joined (word ∷ words) = word ++ behind 32 words

-- ---- words

all_blanks : (line : Line) → AllByRecursion IsWord line → AllByRecursion (Holds is_blank) line
all_blanks [] all = tt
all_blanks (word ∷ line) all = (all.0.blank, all_blanks line all.1)

all_kept : (line : Line) → AllByRecursion IsWord line → filter has_bytes line ≡ line
all_kept [] all = refl
all_kept (word ∷ line) all = ap (λ (b : Bool). cond b (word ∷ filter has_bytes line) (filter has_bytes line)) all.0.some ∙ ap (λ (ws : Line). word ∷ ws) (all_kept line all.1)

words_joined : (line : Line) → AllByRecursion IsWord line → words (joined line) ≡ line
unfolding words
words_joined [] all = refl
words_joined (word ∷ line) all =
    ap (filter has_bytes) (pieces_joined is_blank 32 word line refl all.0.blank (all_blanks line all.1)) ∙ all_kept (word ∷ line) all

-- ---- bytes

behind_printed : (line : Line) → AllByRecursion IsWord line → list_all is_printed (behind 32 line) ≡ true
behind_printed [] all = refl
behind_printed (word ∷ line) all = printed_both word (behind 32 line) all.0.printed (behind_printed line all.1)

joined_printed : (line : Line) → AllByRecursion IsWord line → list_all is_printed (joined line) ≡ true
joined_printed [] all = refl
joined_printed (word ∷ line) all = printed_both word (behind 32 line) all.0.printed (behind_printed line all.1)

low_printed : (c low : ℕ) → is_printed c ≡ true → low < 32 → (c == low) ≡ false
low_printed c low h below =
    let parts = and_parts (nat_le 32 c) (nat_le c 126) h in
    let from : 32 ≤ c = leb-true 32 c parts.0 in
    ne_eqb c low (λ e. absurd (omega arith))

no_feed : (text : List ℕ) → list_all is_printed text ≡ true → AllByRecursion (λ c. (c == 10) ≡ false) text
no_feed [] h = tt
no_feed (c ∷ cs) h = let parts = and_parts (is_printed c) (list_all is_printed cs) h in (low_printed c 10 parts.0 (omega arith), no_feed cs parts.1)

no_return : (text : List ℕ) (k : ℕ) → list_all is_printed text ≡ true → (slice_index text k == 13) ≡ false
no_return [] k h = ne_eqb (slice_index [] k) 13 (λ e. absurd (omega (arith, e)))
no_return (c ∷ cs) zero h = let parts = and_parts (is_printed c) (list_all is_printed cs) h in low_printed c 13 parts.0 (omega arith)
no_return (c ∷ cs) (suc k) h = no_return cs k (and_parts (is_printed c) (list_all is_printed cs) h).1

-- ---- lines

first_line : (text rest : List ℕ) → list_all is_printed text ≡ true → lines (text ++ 10 ∷ rest) ≡ text ∷ lines rest
first_line text rest h =
    let split = slice_split_at (λ (c : ℕ). c == 10) text 10 rest (All-from_recursion (λ c. (c == 10) ≡ false) text (no_feed text h)) refl in
    ap lines_of_parts split ∙ followed text rest ∙ ap (λ (t : List ℕ). t ∷ lines rest) (cond-false _ _ _ (no_return text (length text - 1) h))

line_ends : (line : Line) (rest : List ℕ) → line_text line ++ rest ≡ joined line ++ 10 ∷ rest
line_ends [] rest = refl
line_ends (word ∷ line) rest = append_assoc (word ++ behind 32 line) (10 ∷ []) rest

abbrev AreLines : List Line → Type 0
AreLines ls = AllByRecursion IsLine ls

lines_again : (ls : List Line) → AreLines ls → lines (flat_map line_text ls) ≡ map joined ls
lines_again [] all = refl
lines_again (line ∷ ls) all =
    ap lines (line_ends line (flat_map line_text ls))
    ∙ first_line (joined line) (flat_map line_text ls) (joined_printed line all.0.whole)
    ∙ ap (λ (ts : List (List ℕ)). joined line ∷ ts) (lines_again ls all.1)

abbrev said_of : List Numbered → List (Option Line)
said_of ls = map (λ (l : Numbered). said l.line) ls

numbered_says : (n : ℕ) (ls : List Line) → AreLines ls → said_of (filter (λ l. means l.line) (numbered n (map joined ls))) ≡ map said ls
numbered_says n [] all = refl
numbered_says n (line ∷ ls) all =
    let rest = filter (λ (l : Numbered). means l.line) (numbered (n + 1) (map joined ls)) in
    ap (λ (ws : Line). said_of (cond (means ws) (record { number = n; line = ws } ∷ rest) rest)) (words_joined line all.0.whole)
    ∙ ap (λ (b : Bool). said_of (cond b (record { number = n; line = line } ∷ rest) rest)) all.0.meaning
    ∙ ap (λ (os : List (Option Line)). said line ∷ os) (numbered_says (n + 1) ls all.1)

-- the lines of the text of lines say what these say
pub told_again : (n : ℕ) (ls : List Line) → AllByRecursion IsLine ls → map (λ (l : Numbered). said l.line) (told_from n (flat_map line_text ls)) ≡ map said ls
unfolding told_from
told_again n ls all = ap (λ (ts : List (List ℕ)). said_of (filter (λ (l : Numbered). means l.line) (numbered n ts))) (lines_again ls all) ∙ numbered_says n ls all

-- ---- after the last line feed

pub ends_in_feed : (text : List ℕ) → means (words (after_last is_line_feed (text ++ 10 ∷ []))) ≡ false
unfolding words
ends_in_feed text =
    let whole = text ++ 10 ∷ [] in
    let none : suffix_len (λ c. not (is_line_feed c)) whole ≡ 0 = ap (prefix_len (λ c. not (is_line_feed c))) (reverse-append text (10 ∷ [])) in
    let nothing : after_last is_line_feed whole ≡ [] = ap (λ (k : ℕ). drop (length whole - k) whole) none ∙ drop_all (length whole - 0) whole (omega arith) in
    ap (λ (t : List ℕ). means (filter has_bytes (pieces is_blank Open t))) nothing

last_ends : (ls : List Line) (word : List ℕ) (line : Line) → flat_map line_text (ls ++ (word ∷ line) ∷ []) ≡ (flat_map line_text ls ++ joined (word ∷ line)) ++ 10 ∷ []
last_ends ls word line =
    flat_map-append line_text ls ((word ∷ line) ∷ []) ∙ ap (λ (t : List ℕ). flat_map line_text ls ++ t) (line_ends (word ∷ line) []) ∙ sym (append_assoc (flat_map line_text ls) (joined (word ∷ line)) (10 ∷ []))

pub lines_end : (ls : List Line) (word : List ℕ) (line : Line) → means (words (after_last is_line_feed (flat_map line_text (ls ++ (word ∷ line) ∷ [])))) ≡ false
lines_end ls word line = ap (λ (t : List ℕ). means (words (after_last is_line_feed t))) (last_ends ls word line) ∙ ends_in_feed (flat_map line_text ls ++ joined (word ∷ line))
