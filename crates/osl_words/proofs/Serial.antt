-- A job is serial exactly where `--serial` is among the later words.
use Rattle.std.proofs.Common.{inl, inr, ◌≡◌, ◌≢◌, List, [], ◌∷◌, true, false, Option, Some, None, refl, ap, sym, ◌∙◌, subst}
use Rattle.std.specs.Prelude.{◌⊎◌, slice_get, codes, fold}
use Rattle.std.specs.Option.{option_map_or}
use Rattle.std.specs.Str.{bytes_eq}
use Rattle.std.proofs.lemmas.Bool.{or_parts, false≢true}
use Rattle.std.proofs.lemmas.Option.{none-some, same_Some}
use Rattle.clap.specs.Walk.{Held, Row, Rule, Text, Walk, arg_by_id, first_of, finished, nothing_held, option, idle, settled, settled_rows, started, used, used_by_id, values_or_missing, walk, walk_from, walked, with_default}
use Rattle.clap.specs.Faults.{turn_fault, settle_fault, use_fault, walk_fault}
use Rattle.clap.specs.Simple.{Shape}
use Rattle.osl_words.specs.Words.{is_among}
use Rattle.osl_words.proofs.Rows.{IsOnce, IsAbsentOr, row_at, neither, compare_texts, same_text, text_is, use_gives, use_leaves, use_keeps, default_keeps, default_gives, has_no_row}
use Rattle.osl_words.proofs.ClapTurns.{EachRule, IsPlainRule, IsShade, Turn, Turned, keeps, uses, opens, fills, places, turn, found_rule, serial_id, serial_word}

-- ---- an argument's first value

pub record HasValue (id value : Text) (rows : List Row) : Type 0 where
  pub row : Row
  pub there : row_at id rows ≡ Some row
  pub first : slice_get row.values 0 ≡ Some value

value_kept : (id value : Text) (a : Rule) (values : List Text) (rows : List Row) → IsOnce a → use_fault false a values rows ≡ [] → HasValue id value rows → HasValue id value (used a values rows)
value_kept id value a values rows once clean h = record { row = h.row; there = use_keeps id h.row a values rows once clean h.there; first = h.first }

value_given : (id value : Text) (a : Rule) (values : List Text) (rows : List Row) → IsOnce a → use_fault false a values rows ≡ [] → a.id ≡ id → slice_get (values_or_missing a values) 0 ≡ Some value → HasValue id value (used a values rows)
value_given id value a values rows once clean same first =
    let new = use_gives a values rows once clean in
    record { row = new.0; there = ap (λ x. row_at x (used a values rows)) (sym same) ∙ new.1; first = ap (λ vs. slice_get vs 0) new.2 ∙ first }

-- ---- what is pending is used

settle_kept : (c : List Rule) (id value : Text) (h : Held) → EachRule IsPlainRule c → settle_fault c false h ≡ [] → HasValue id value h.rows → HasValue id value (settled_rows c h.pending h.rows)
settle_kept c id value h each clean has = by h.pending clean
  where
    named : (q : Text × List Text) (found : Option Rule) → arg_by_id c q.0 ≡ found → option_map_or (λ a. use_fault false a q.1 h.rows) found [] ≡ [] → HasValue id value (used_by_id found q.1 h.rows)
    named q None e f = has
    named q (Some a) e f = value_kept id value a q.1 h.rows (found_rule IsPlainRule (λ x. bytes_eq x.id q.0) c a each e).0.once f has

    by : (p : Option (Text × List Text)) → option_map_or (λ q. option_map_or (λ a. use_fault false a q.1 h.rows) (arg_by_id c q.0) []) p [] ≡ [] → HasValue id value (settled_rows c p h.rows)
    by None f = has
    by (Some q) f = named q (arg_by_id c q.0) refl f

-- the value of a positional that was pending
settle_gives : (c : List Rule) (id value : Text) (a : Rule) (h : Held) → EachRule IsPlainRule c → arg_by_id c id ≡ Some a → h.pending ≡ Some (id, value ∷ []) → settle_fault c false h ≡ []
    → HasValue id value (settled_rows c h.pending h.rows)
settle_gives c id value a h each found pending clean =
    let f = found_rule IsPlainRule (λ x. bytes_eq x.id id) c a each found in
    let same : a.id ≡ id = text_is a.id id f.1 in
    let clear : use_fault false a (value ∷ []) h.rows ≡ [] = rw (pending, found) at clean in
    rw (pending, found) (value_given id value a (value ∷ []) h.rows f.0.once clear same refl)

-- an argument with no row gets none of another's values
settle_none : (c : List Rule) (id : Text) (h : Held) → EachRule IsPlainRule c → ((q : Text × List Text) → h.pending ≡ Some q → q.0 ≢ id) → row_at id h.rows ≡ None → row_at id (settled_rows c h.pending h.rows) ≡ None
settle_none c id h each other none = by h.pending refl
  where
    named : (q : Text × List Text) (found : Option Rule) → q.0 ≢ id → arg_by_id c q.0 ≡ found → row_at id (used_by_id found q.1 h.rows) ≡ None
    named q None n e = none
    named q (Some a) n e =
        let f = found_rule IsPlainRule (λ x. bytes_eq x.id q.0) c a each e in
        use_leaves id a q.1 h.rows f.0.once (λ same. n (sym (text_is a.id q.0 f.1) ∙ same)) ∙ none

    by : (p : Option (Text × List Text)) → h.pending ≡ p → row_at id (settled_rows c p h.rows) ≡ None
    by None e = none
    by (Some q) e = named q (arg_by_id c q.0) (other q e) refl

-- ---- no word was the flag

pub record NoSerial (w : Walk) : Type 0 where
  pub row : row_at serial_id w.held.rows ≡ None
  pub pending : (q : Text × List Text) → w.held.pending ≡ Some q → q.0 ≢ serial_id
  pub waiting : (id : Text) → w.waiting ≡ option id → id ≢ serial_id

option_is : (a b : Text) → option a ≡ option b → a ≡ b
option_is a b e = cc

idle_is_no_option : (id : Text) → idle ≡ option id → ⊥
idle_is_no_option id e = cc

pair_first : (p q : Text × List Text) → Some p ≡ Some q → p.0 ≡ q.0
pair_first p q e = ap (λ x. x.0) (same_Some p q e)

no_serial_after : (c : List Rule) (w n : Walk) (word : Text) → EachRule IsPlainRule c → word ≢ serial_word → NoSerial w → Turn c w word n → NoSerial n
no_serial_after c w n word each other free (keeps rows pending waiting apart) = record {
  row = ap (row_at serial_id) rows ∙ free.row;
  pending = λ q e. free.pending q (sym pending ∙ e);
  waiting = λ id e. free.waiting id (sym waiting ∙ e);
}
no_serial_after c w n word each other free (uses a values p settle clean rows pending waiting named flag) = record {
  row = ap (row_at serial_id) rows
      ∙ use_leaves serial_id a values (settled_rows c w.held.pending w.held.rows) p.once (λ same. other (named same))
      ∙ settle_none c serial_id w.held each free.pending free.row;
  pending = λ q e. absurd (none-some q (sym pending ∙ e));
  waiting = λ id e. absurd (idle_is_no_option id (sym waiting ∙ e));
}
no_serial_after c w n word each other free (opens a p settle rows pending waiting apart no_flag) = record {
  row = ap (row_at serial_id) rows ∙ settle_none c serial_id w.held each free.pending free.row;
  pending = λ q e same. apart (pair_first (a.id, []) q (sym pending ∙ e) ∙ same);
  waiting = λ id e same. apart (option_is a.id id (sym waiting ∙ e) ∙ same);
}
no_serial_after c w n word each other free (fills id waits rows pending waiting no_flag) = record {
  row = ap (row_at serial_id) rows ∙ free.row;
  pending = λ q e same. begun w.held.pending refl (pair_first _ q (sym pending ∙ e) ∙ same);
  waiting = λ other_id e. after waiting other_id e;
}
  where
    begun : (p : Option (Text × List Text)) → w.held.pending ≡ p → (started id p).0 ≡ serial_id → ⊥
    begun None e same = free.waiting id waits same
    begun (Some q) e same = free.pending q e same

    after : (n.waiting ≡ option id) ⊎ (n.waiting ≡ idle) → (other_id : Text) → n.waiting ≡ option other_id → other_id ≢ serial_id
    after (inl still) other_id e same = free.waiting id waits (option_is id other_id (sym still ∙ e) ∙ same)
    after (inr over) other_id e same = idle_is_no_option other_id (sym over ∙ e)
no_serial_after c w n word each other free (places a p settle rows pending waiting place) = record {
  row = ap (row_at serial_id) rows ∙ settle_none c serial_id w.held each free.pending free.row;
  pending = λ q e same. of_place place (pair_first (a.id, word ∷ []) q (sym pending ∙ e) ∙ same);
  waiting = λ id e. absurd (idle_is_no_option id (sym waiting ∙ e));
}
  where
    apart : (name : Text) → bytes_eq name serial_id ≡ false → name ≢ serial_id
    apart name e = Rattle.osl_words.proofs.Rows.text_differs name serial_id e

    of_place : (a.id ≡ codes "group") ⊎ (a.id ≡ codes "points") → a.id ≡ serial_id → ⊥
    of_place (inl e) same = apart (codes "group") refl (sym e ∙ same)
    of_place (inr e) same = apart (codes "points") refl (sym e ∙ same)

-- ---- some word was the flag

-- what the flag leaves: its own row, or a positional that has its name
pub data HasSerial (w : Walk) : Type 0 where
  flagged : HasValue serial_id (codes "true") w.held.rows → HasSerial w
  group : HasValue (codes "group") serial_word w.held.rows → HasSerial w
  points : HasValue (codes "points") serial_word w.held.rows → HasSerial w
  next_group : w.held.pending ≡ Some (codes "group", serial_word ∷ []) → w.waiting ≡ idle → HasSerial w
  next_points : w.held.pending ≡ Some (codes "points", serial_word ∷ []) → w.waiting ≡ idle → HasSerial w

-- the two positionals and the flag
pub record HasArguments (c : List Rule) : Type 0 where
  pub each : EachRule IsPlainRule c
  pub group : Rule
  pub group_is : arg_by_id c (codes "group") ≡ Some group
  pub points : Rule
  pub points_is : arg_by_id c (codes "points") ≡ Some points

-- a value stays through a word
value_after : (c : List Rule) (w n : Walk) (word id value : Text) → EachRule IsPlainRule c → Turn c w word n → HasValue id value w.held.rows → HasValue id value n.held.rows
value_after c w n word id value each (keeps rows pending waiting apart) h = subst (HasValue id value) (sym rows) h
value_after c w n word id value each (uses a values p settle clean rows pending waiting named flag) h =
    subst (HasValue id value) (sym rows) (value_kept id value a values (settled_rows c w.held.pending w.held.rows) p.once clean (settle_kept c id value w.held each settle h))
value_after c w n word id value each (opens a p settle rows pending waiting apart no_flag) h = subst (HasValue id value) (sym rows) (settle_kept c id value w.held each settle h)
value_after c w n word id value each (fills name waits rows pending waiting no_flag) h = subst (HasValue id value) (sym rows) h
value_after c w n word id value each (places a p settle rows pending waiting place) h = subst (HasValue id value) (sym rows) (settle_kept c id value w.held each settle h)

-- what is pending stays so, or becomes a value
pub data Goes (id value : Text) (n : Walk) : Type 0 where
  still : n.held.pending ≡ Some (id, value ∷ []) → n.waiting ≡ idle → Goes id value n
  given : HasValue id value n.held.rows → Goes id value n

pending_after : (c : List Rule) (w n : Walk) (word id value : Text) (a : Rule) → EachRule IsPlainRule c → arg_by_id c id ≡ Some a → Turn c w word n → w.held.pending ≡ Some (id, value ∷ []) → w.waiting ≡ idle → Goes id value n
pending_after c w n word id value a each found (keeps rows pending waiting apart) e d = still (pending ∙ e) (waiting ∙ d)
pending_after c w n word id value a each found (uses b values p settle clean rows pending waiting named flag) e d =
    given (subst (HasValue id value) (sym rows) (value_kept id value b values (settled_rows c w.held.pending w.held.rows) p.once clean (settle_gives c id value a w.held each found e settle)))
pending_after c w n word id value a each found (opens b p settle rows pending waiting apart no_flag) e d = given (subst (HasValue id value) (sym rows) (settle_gives c id value a w.held each found e settle))
pending_after c w n word id value a each found (fills name waits rows pending waiting no_flag) e d = absurd (idle_is_no_option name (sym d ∙ waits))
pending_after c w n word id value a each found (places b p settle rows pending waiting place) e d = given (subst (HasValue id value) (sym rows) (settle_gives c id value a w.held each found e settle))

has_serial_after : (c : List Rule) (w n : Walk) (word : Text) → HasArguments c → Turn c w word n → HasSerial w → HasSerial n
has_serial_after c w n word args t (flagged h) = flagged (value_after c w n word _ _ args.each t h)
has_serial_after c w n word args t (group h) = group (value_after c w n word _ _ args.each t h)
has_serial_after c w n word args t (points h) = points (value_after c w n word _ _ args.each t h)
has_serial_after c w n word args t (next_group e d) = by (pending_after c w n word _ _ args.group args.each args.group_is t e d)
  where
    by : Goes (codes "group") serial_word n → HasSerial n
    by (still p q) = next_group p q
    by (given h) = group h
has_serial_after c w n word args t (next_points e d) = by (pending_after c w n word _ _ args.points args.each args.points_is t e d)
  where
    by : Goes (codes "points") serial_word n → HasSerial n
    by (still p q) = next_points p q
    by (given h) = points h

-- ---- the word itself

serial_after : (c : List Rule) (w n : Walk) → Turn c w serial_word n → HasSerial n
serial_after c w n (keeps rows pending waiting apart) = absurd (apart refl)
serial_after c w n (uses a values p settle clean rows pending waiting named flag) =
    let is = flag refl in
    let first : slice_get (values_or_missing a values) 0 ≡ Some (codes "true") = ap (λ vs. slice_get (values_or_missing a vs) 0) is.1 ∙ ap (λ vs. slice_get vs 0) (p.serial is.0).2 in
    flagged (subst (HasValue serial_id (codes "true")) (sym rows) (value_given serial_id (codes "true") a values (settled_rows c w.held.pending w.held.rows) p.once clean is.0 first))
serial_after c w n (opens a p settle rows pending waiting apart no_flag) = absurd (no_flag refl)
serial_after c w n (fills id waits rows pending waiting no_flag) = absurd (no_flag refl)
serial_after c w n (places a p settle rows pending waiting place) = by place
  where
    by : (a.id ≡ codes "group") ⊎ (a.id ≡ codes "points") → HasSerial n
    by (inl e) = next_group (pending ∙ ap (λ id. Some (id, serial_word ∷ [])) e) waiting
    by (inr e) = next_points (pending ∙ ap (λ id. Some (id, serial_word ∷ [])) e) waiting

-- ---- all words

abbrev pub walk_on : List Rule → Walk → List Text → Walk
walk_on c w words = fold (walked c []) w words

clear_rest : (s : Shape) (w : Walk) (word : Text) (words : List Text) → walk_fault s [] w (word ∷ words) ≡ [] → (turn_fault s [] w word ≡ []) × (walk_fault s [] (walked s.rules [] w word) words ≡ [])
unfolding walk_fault
clear_rest s w word words e = neither _ _ e

no_serial_walk : (s : Shape) (words : List Text) (w : Walk) → IsShade s → w.stopped ≡ None → walk_fault s [] w words ≡ [] → is_among serial_word words ≡ false → NoSerial w → NoSerial (walk_on s.rules w words)
no_serial_walk s [] w is none clear away free = free
no_serial_walk s (word ∷ words) w is none clear away free =
    let rest = clear_rest s w word words clear in
    let t = turn s w word is none rest.0 in
    let parts = or_parts (bytes_eq serial_word word) (is_among serial_word words) away in
    no_serial_walk s words (walked s.rules [] w word) is t.0 rest.1 parts.1
    (no_serial_after s.rules w (walked s.rules [] w word) word is.each (λ same. false≢true (sym parts.0 ∙ same_text serial_word word (sym same))) free t.1)

has_serial_walk : (s : Shape) (words : List Text) (w : Walk) → IsShade s → HasArguments s.rules → w.stopped ≡ None → walk_fault s [] w words ≡ [] → HasSerial w → HasSerial (walk_on s.rules w words)
has_serial_walk s [] w is args none clear has = has
has_serial_walk s (word ∷ words) w is args none clear has =
    let rest = clear_rest s w word words clear in
    let t = turn s w word is none rest.0 in
    has_serial_walk s words (walked s.rules [] w word) is args t.0 rest.1 (has_serial_after s.rules w (walked s.rules [] w word) word args t.1 has)

serial_walk : (s : Shape) (words : List Text) (w : Walk) → IsShade s → HasArguments s.rules → w.stopped ≡ None → walk_fault s [] w words ≡ [] → is_among serial_word words ≡ true → HasSerial (walk_on s.rules w words)
serial_walk s [] w is args none clear here = absurd (false≢true here)
serial_walk s (word ∷ words) w is args none clear here =
    let rest = clear_rest s w word words clear in
    let t = turn s w word is none rest.0 in
    by t (λ h. has_serial_walk s words (walked s.rules [] w word) is args t.0 rest.1 h) (λ h. serial_walk s words (walked s.rules [] w word) is args t.0 rest.1 h) (compare_texts serial_word word)
  where
    by : Turned s.rules w word (walked s.rules [] w word) → (HasSerial (walked s.rules [] w word) → HasSerial (walk_on s.rules w (word ∷ words))) → (is_among serial_word words ≡ true → HasSerial (walk_on s.rules w (word ∷ words)))
        → (serial_word ≡ word) ⊎ (serial_word ≢ word) → HasSerial (walk_on s.rules w (word ∷ words))
    by t now later (inl same) = now (serial_after s.rules w (walked s.rules [] w word) (subst (λ (x : Text). Turn s.rules w x (walked s.rules [] w word)) (sym same) t.1))
    by t now later (inr n) = later (rw (Rattle.osl_words.proofs.Rows.other_text serial_word word n) at here)

-- ---- the end

-- a value stays through the defaults
defaults_keep : (id value : Text) (rules : List Rule) (rows : List Row) → HasValue id value rows → HasValue id value (fold with_default rows rules)
defaults_keep id value [] rows h = h
defaults_keep id value (a ∷ rules) rows h = defaults_keep id value rules (with_default rows a) (record { row = h.row; there = default_keeps id h.row a rows h.there; first = h.first })

defaults_give : (rules : List Rule) (rows : List Row) → EachRule IsPlainRule rules → IsAbsentOr serial_id (codes "false") rows → IsAbsentOr serial_id (codes "false") (fold with_default rows rules)
defaults_give [] rows each h = h
defaults_give (a ∷ rules) rows each h = defaults_give rules (with_default rows a) each.1 (default_gives serial_id (codes "false") a rows (λ same. (each.0.serial same).1) h)

first_is : (id value : Text) (rows : List Row) → HasValue id value rows → first_of id rows ≡ Some value
first_is id value rows h = rw h.there h.first

-- no word is the flag, and the flag is not set
pub not_among : (s : Shape) (words : List Text) → IsShade s → walk_fault s [] (walk_from nothing_held) words ≡ [] → is_among serial_word words ≡ false
    → option_map_or (bytes_eq (codes "true")) (first_of serial_id (finished s.rules (walk s.rules [] nothing_held words).held)) false ≡ false
not_among s words is clear away = by (defaults_give s.rules (settled s.rules w.held).rows is.each (inl settled_none))
  where
    w : Walk
    w = walk_on s.rules (walk_from nothing_held) words

    free : NoSerial w
    free = no_serial_walk s words (walk_from nothing_held) is refl clear away (record { row = refl; pending = λ q e. absurd (none-some q e); waiting = λ id e. absurd (idle_is_no_option id e) })

    settled_none : row_at serial_id (settled_rows s.rules w.held.pending w.held.rows) ≡ None
    settled_none = settle_none s.rules serial_id w.held is.each free.pending free.row

    by : IsAbsentOr serial_id (codes "false") (finished s.rules w.held) → option_map_or (bytes_eq (codes "true")) (first_of serial_id (finished s.rules w.held)) false ≡ false
    by (inl none) = rw none refl
    by (inr (r, there, first)) = rw (there, first) refl

-- what the flag leaves at the end
pub data EndsSerial (rows : List Row) : Type 0 where
  flag_set : first_of serial_id rows ≡ Some (codes "true") → EndsSerial rows
  group_named : first_of (codes "group") rows ≡ Some serial_word → EndsSerial rows
  points_named : first_of (codes "points") rows ≡ Some serial_word → EndsSerial rows

pub among : (s : Shape) (words : List Text) → IsShade s → HasArguments s.rules → walk_fault s [] (walk_from nothing_held) words ≡ []
    → settle_fault s.rules false (walk s.rules [] nothing_held words).held ≡ [] → is_among serial_word words ≡ true → EndsSerial (finished s.rules (walk s.rules [] nothing_held words).held)
among s words is args clear settle here = by (serial_walk s words (walk_from nothing_held) is args refl clear here)
  where
    w : Walk
    w = walk_on s.rules (walk_from nothing_held) words

    ended : (id value : Text) → HasValue id value (settled_rows s.rules w.held.pending w.held.rows) → first_of id (finished s.rules w.held) ≡ Some value
    ended id value h = first_is id value (finished s.rules w.held) (defaults_keep id value s.rules (settled_rows s.rules w.held.pending w.held.rows) h)

    by : HasSerial w → EndsSerial (finished s.rules w.held)
    by (flagged h) = flag_set (ended _ _ (settle_kept s.rules _ _ w.held args.each settle h))
    by (group h) = group_named (ended _ _ (settle_kept s.rules _ _ w.held args.each settle h))
    by (points h) = points_named (ended _ _ (settle_kept s.rules _ _ w.held args.each settle h))
    by (next_group e d) = group_named (ended _ _ (settle_gives s.rules _ _ args.group w.held args.each args.group_is e settle))
    by (next_points e d) = points_named (ended _ _ (settle_gives s.rules _ _ args.points w.held args.each args.points_is e settle))
