-- At each place of a source something stands, and so the source is read.
use Rattle.std.proofs.Common.{◌≡◌, ◌⊎◌, ℕ, zero, suc, ◌+◌, ◌-◌, ◌<◌, ◌≤◌, Bool, true, false, ◌&&◌, List, [], ◌∷◌, length, take, drop, nat_eq, slice_index, slice_get, Option, Some, None, Ok, Err, refl, sym, ap, subst, ◌∙◌, inl, inr, arith}
use Rattle.std.proofs.lemmas.Bool.{both_ways, cases_Bool, cases_lt, cases_eq, ne_eqb}
use Rattle.osl_tree.specs.declared.token.Punct.{Punct}
use Rattle.osl_tree.specs.declared.token.TokenKind.{TokenKind}
use Rattle.osl_tree.specs.declared.token.TokenKind.TheVariants as kinds
use Rattle.osl_tree.specs.declared.token.Token.{Token}
use Rattle.osl_tree.specs.declared.token.LexKind.{LexKind}
use Rattle.osl_tree.specs.declared.token.LexKind.TheVariants as faults
use Rattle.osl_tree.specs.Lexical.{is_blank, begins_word, passes, IsGap, IsNoComment, IsTokenAt, BeginsLine, IsFault, Runs, Tokens, FirstBad, line_comment, block_comment, directive, bad_byte, here, gap, token}
use Rattle.osl_lex.specs.Readings.{Reading, IsReading}
use Rattle.osl_lex.specs.Scan.{line_len, word_len, string_end, comment_end, number_len, begins_number}
use Rattle.osl_lex.specs.Signs.{longest_mark}
use Rattle.osl_lex.specs.Value.{number_of}
use Rattle.osl_lex.proofs.Places.{ArePair, get_index, passes_within}
use Rattle.osl_lex.proofs.OneReading.{Stops, done, fails}
use Rattle.osl_lex.proofs.Standing.{token_of, read_within, no_comment_at, no_slash_at, OnlyMarks, blank_at, line_comment_at, block_comment_at, open_comment_at, string_at, open_string_at, word_at, number_at, bad_number_at, mark_at, no_mark_at, gap_ends, token_ends}

-- ---- the beginning of a line

-- A line that begins before a blank which does not end it goes on behind the blank.
goes_on_blank : (bytes : List ℕ) (at : ℕ) → passes is_blank (slice_get bytes at) ≡ true → BeginsLine bytes at → BeginsLine bytes (suc at)
goes_on_blank bytes at is line = record {
  line = line.line;
  order = let o = line.order in omega arith;
  begins = line.begins;
  blank = λ k low high. elim (cases_lt k at) [
    | inl before ↦ line.blank k low before
    | inr last ↦ (let e : at ≡ k = omega arith in ap (λ n. passes is_blank (slice_get bytes n)) (sym e) ∙ is)
  ];
}

-- A line that begins before the byte behind it begins before that byte too, or that byte ended a line.
before_byte : (bytes : List ℕ) (at : ℕ) → (slice_get bytes at ≡ Some 10 → ⊥) → BeginsLine bytes (suc at) → BeginsLine bytes at × (passes is_blank (slice_get bytes at) ≡ true)
before_byte bytes at no_end line = elim (cases_lt line.line (suc at)) [
  | inl low ↦ (
    record { line = line.line; order = omega arith; begins = line.begins; blank = λ k from to. line.blank k from (omega arith) },
    line.blank at (omega arith) (omega arith),
  )
  | inr high ↦ absurd (ended high (line.begins (omega arith)))
]
  where
    ended : suc at ≤ line.line → (k : ℕ) × (k + 1 ≡ line.line) × (slice_get bytes k ≡ Some 10) → ⊥
    ended high b =
        let order = line.order in
        let e = b.1 in
        let last : b.0 ≡ at = omega arith in
        no_end (ap (slice_get bytes) (sym last) ∙ b.2)

line_or_not : (bytes : List ℕ) (at : ℕ) → at ≤ length bytes → BeginsLine bytes at ⊎ (BeginsLine bytes at → ⊥)
line_or_not bytes zero low = inl (record { line = 0; order = omega arith; begins = λ some. absurd (omega arith); blank = λ k from to. absurd (omega arith) })
line_or_not bytes (suc at) low = go (cases_eq c 10) (cases_Bool (is_blank c)) (line_or_not bytes at (omega arith))
  where
    c : ℕ
    c = slice_index bytes at

    within : at < length bytes
    within = omega arith

    no_end : (c ≡ 10 → ⊥) → slice_get bytes at ≡ Some 10 → ⊥
    no_end other e = let f = sym (get_index bytes at within) ∙ e in let g : c ≡ 10 = cc (f) in other g

    go : (c ≡ 10) ⊎ (c ≡ 10 → ⊥) → (is_blank c ≡ true) ⊎ (is_blank c ≡ false) → BeginsLine bytes at ⊎ (BeginsLine bytes at → ⊥) → BeginsLine bytes (suc at) ⊎ (BeginsLine bytes (suc at) → ⊥)
    go (inl e) is before = inl (record {
      line = suc at;
      order = omega arith;
      begins = λ some. (at, omega arith, get_index bytes at within ∙ ap Some e);
      blank = λ k from to. absurd (omega arith);
    })
    go (inr other) (inl is) (inl line) = inl (goes_on_blank bytes at (passes_within is_blank bytes at within ∙ is) line)
    go (inr other) (inl is) (inr no_line) = inr (λ line. no_line (before_byte bytes at (no_end other) line).0)
    go (inr other) (inr is_no) before = inr (λ line. both_ways _ (passes_within is_blank bytes at within ∙ is_no) (before_byte bytes at (no_end other) line).1)

-- ---- what stands at a place

-- a gap, a token or a fault
pub data Something (bytes : List ℕ) (at : ℕ) : Type 0 where
  some_gap : (to : ℕ) → IsGap bytes at to → Something bytes at
  some_token : (kind : TokenKind) (to : ℕ) → IsTokenAt bytes at (token_of kind at to) → Something bytes at
  some_fault : (kind : LexKind) → IsFault bytes at kind → Something bytes at

module _ (bytes : List ℕ) (at : ℕ) (inside : at < length bytes) where
  abbrev c : ℕ
  c = slice_index bytes at

  abbrev d : ℕ
  d = slice_index bytes (at + 1)

  second_pair : (n : ℕ) → 0 < n → c ≡ 47 → d ≡ n → ArePair bytes at 47 n
  second_pair n some e f = record { first = e; second = f; within = read_within bytes (at + 1) n (sym f) some }

  some_block : c ≡ 47 → d ≡ 42 → Something bytes at
  some_block e f = go (comment_end 0 false (drop (at + 2) bytes)) refl
    where
      go : (o : Option ℕ) → comment_end 0 false (drop (at + 2) bytes) ≡ o → Something bytes at
      go (Some len) found = some_gap (at + 2 + len) (block_comment (at + 2 + len) (block_comment_at bytes at len (second_pair 42 (omega arith) e f) found))
      go None none = some_fault faults.OpenComment (open_comment_at bytes at (second_pair 42 (omega arith) e f) none)

  some_string : c ≡ 34 → Something bytes at
  some_string e = go (string_end 0 false (drop (at + 1) bytes)) refl
    where
      go : (o : Option ℕ) → string_end 0 false (drop (at + 1) bytes) ≡ o → Something bytes at
      go (Some len) found = some_token kinds.Str (at + 1 + len) (string_at bytes at len inside e found)
      go None none = some_fault faults.OpenString (open_string_at bytes at inside e none)

  some_number : begins_number c d ≡ true → Something bytes at
  some_number begins = go (number_of (take (number_len (drop at bytes)) (drop at bytes))) refl
    where
      go : (o : Option TokenKind) → number_of (take (number_len (drop at bytes)) (drop at bytes)) ≡ o → Something bytes at
      go (Some kind) found = some_token kind (at + number_len (drop at bytes)) (number_at bytes at kind inside begins found)
      go None none = some_fault faults.BadNumber (bad_number_at bytes at inside begins none)

  some_mark : OnlyMarks bytes at → is_blank c ≡ false → IsNoComment bytes at → Something bytes at
  some_mark only no_blank no_comment = go (longest_mark (drop at bytes)) refl
    where
      bad : longest_mark (drop at bytes) ≡ None → (c ≡ 35 → BeginsLine bytes at → ⊥) → Something bytes at
      bad none no_line = some_fault faults.BadByte (bad_byte c (get_index bytes at inside) no_blank (ne_eqb c 34 only.no_quote) (no_mark_at bytes at inside only none) no_line)

      none_there : longest_mark (drop at bytes) ≡ None → (c ≡ 35) ⊎ (c ≡ 35 → ⊥) → BeginsLine bytes at ⊎ (BeginsLine bytes at → ⊥) → Something bytes at
      none_there none (inl hash) (inl line) = some_fault faults.Directive (directive (get_index bytes at inside ∙ ap Some hash) line)
      none_there none (inl hash) (inr no_line) = bad none (λ e begins. no_line begins)
      none_there none (inr no_hash) line = bad none (λ e begins. no_hash e)

      go : (o : Option (Punct × ℕ)) → longest_mark (drop at bytes) ≡ o → Something bytes at
      go (Some found) e = some_token (kinds.Punct found.0) (at + found.1) (mark_at bytes at found.0 found.1 inside only no_comment e)
      go None none = none_there none (cases_eq c 35) (line_or_not bytes at (omega arith))

  after_slash : is_blank c ≡ false → c ≡ 47 → Something bytes at
  after_slash no_blank e = go (cases_eq d 47) (cases_eq d 42)
    where
      only : OnlyMarks bytes at
      only = record {
        no_word = ap begins_word e;
        no_quote = λ quote. let f : ◌≡◌ {A = ℕ} 47 34 = sym e ∙ quote in absurd (omega arith);
        no_number = ap (λ x. begins_number x d) e;
      }

      go : (d ≡ 47) ⊎ (d ≡ 47 → ⊥) → (d ≡ 42) ⊎ (d ≡ 42 → ⊥) → Something bytes at
      go (inl f) block = some_gap (at + line_len (drop at bytes)) (line_comment (at + line_len (drop at bytes)) (line_comment_at bytes at (second_pair 47 (omega arith) e f)))
      go (inr no_line) (inl f) = some_block e f
      go (inr no_line) (inr no_block) = some_mark only no_blank (no_comment_at bytes at (λ f s. no_line s) (λ f s. no_block s))

  without_slash : is_blank c ≡ false → (c ≡ 47 → ⊥) → Something bytes at
  without_slash no_blank no_slash = go (cases_eq c 34) (cases_Bool (begins_word c)) (cases_Bool (begins_number c d))
    where
      go : (c ≡ 34) ⊎ (c ≡ 34 → ⊥) → (begins_word c ≡ true) ⊎ (begins_word c ≡ false) → (begins_number c d ≡ true) ⊎ (begins_number c d ≡ false) → Something bytes at
      go (inl quote) word number = some_string quote
      go (inr no_quote) (inl begins) number = some_token kinds.Word (at + word_len (drop at bytes)) (word_at bytes at inside begins)
      go (inr no_quote) (inr no_word) (inl begins) = some_number begins
      go (inr no_quote) (inr no_word) (inr no_number) =
          some_mark (record { no_word = no_word; no_quote = no_quote; no_number = no_number }) no_blank (no_slash_at bytes at no_slash)

  pub something : Something bytes at
  something = go (cases_Bool (is_blank c)) (cases_eq c 47)
    where
      go : (is_blank c ≡ true) ⊎ (is_blank c ≡ false) → (c ≡ 47) ⊎ (c ≡ 47 → ⊥) → Something bytes at
      go (inl is) first = some_gap (at + 1) (blank_at bytes at inside is)
      go (inr no_blank) (inl slash) = after_slash no_blank slash
      go (inr no_blank) (inr no_slash) = without_slash no_blank no_slash

-- ---- a whole source

-- A walk from a place up to where it stops.
pub record Walk (bytes : List ℕ) (at : ℕ) : Type 0 where
  pub tokens : List Token
  pub to : ℕ
  pub reason : Option LexKind
  pub runs : Runs bytes at tokens to
  pub stops : Stops bytes to reason

-- With so many bytes left at most.
walk_from : (n : ℕ) (bytes : List ℕ) (at : ℕ) → at ≤ length bytes → length bytes - at ≤ n → Walk bytes at
walk_from zero bytes at low left = record { tokens = []; to = at; reason = None; runs = here at; stops = done (omega arith) }
walk_from (suc n) bytes at low left = go (cases_lt at (length bytes)) (walk_from n bytes)
  where
    by : at < length bytes → Something bytes at → ((on : ℕ) → on ≤ length bytes → length bytes - on ≤ n → Walk bytes on) → Walk bytes at
    by inside (some_gap on is) shorter =
        let ends = gap_ends bytes at on inside is in
        let rest = shorter on ends.1 (omega arith) in
        record { tokens = rest.tokens; to = rest.to; reason = rest.reason; runs = gap at on rest.to rest.tokens is rest.runs; stops = rest.stops }
    by inside (some_token kind on is) shorter =
        let ends = token_ends bytes at kind on is in
        let rest = shorter on ends.1 (omega arith) in
        record {
          tokens = token_of kind at on ∷ rest.tokens;
          to = rest.to;
          reason = rest.reason;
          runs = token at rest.to (token_of kind at on) rest.tokens is rest.runs;
          stops = rest.stops;
        }
    by inside (some_fault kind is) shorter = record { tokens = []; to = at; reason = Some kind; runs = here at; stops = fails kind is }

    go : (at < length bytes) ⊎ (length bytes ≤ at) → ((on : ℕ) → on ≤ length bytes → length bytes - on ≤ n → Walk bytes on) → Walk bytes at
    go (inl inside) shorter = by inside (something bytes at inside) shorter
    go (inr past) shorter = record { tokens = []; to = at; reason = None; runs = here at; stops = done (omega arith) }

pub walk : (bytes : List ℕ) → Walk bytes 0
walk bytes = walk_from (length bytes) bytes 0 (omega arith) (omega arith)

pub some_reading_of : (bytes : List ℕ) → (reading : Reading) × IsReading bytes reading
some_reading_of bytes = let w = walk bytes in go w.tokens w.to w.reason w.runs w.stops
  where
    go : (ts : List Token) (to : ℕ) (reason : Option LexKind) → Runs bytes 0 ts to → Stops bytes to reason → (reading : Reading) × IsReading bytes reading
    go ts to _ runs (done e) = (Ok ts, subst (λ n. Runs bytes 0 ts n) e runs)
    go ts to _ runs (fails k is) = (Err (k, to), record { tokens = ts; before = runs; fault = is })
