-- At each place of a source one thing stands at most, and so the source is read in one way.
use Rattle.std.proofs.Common.{◌≡◌, ◌⊎◌, ℕ, ◌+◌, ◌-◌, ◌<◌, ◌≤◌, Bool, true, false, ◌&&◌, List, [], ◌∷◌, length, take, drop, nat_eq, slice_index, slice_get, slice_range, Option, Some, None, Result, Ok, Err, refl, sym, ap, subst, ◌∙◌, inl, inr, arith, length-drop, length-take}
use Rattle.std.specs.Char.{is_ascii_digit}
use Rattle.std.proofs.lemmas.Bool.{both_ways, eq-eqb, or_cases, and_parts, cases_order}
use Rattle.std.proofs.lemmas.Option.{slice_get_within, get_or_from_slice_get, slice_get_past}
use Rattle.osl_tree.specs.declared.token.Punct.TheVariants as p
use Rattle.osl_tree.specs.declared.token.TokenKind.{TokenKind}
use Rattle.osl_tree.specs.declared.token.TokenKind.TheVariants as kinds
use Rattle.osl_tree.specs.declared.token.Token.{Token}
use Rattle.osl_tree.specs.declared.token.LexKind.{LexKind}
use Rattle.osl_tree.specs.declared.token.LexKind.TheVariants as faults
use Rattle.osl_tree.specs.Lexical.{is_blank, is_number, is_cut_short, passes, Stands, IsLineComment, IsBlockComment, IsGap, IsLongest, IsTokenAt, IsToken, NoToken, BeginsLine, IsFault, Runs, Tokens, FirstBad, mark, blank, line_comment, block_comment, open_comment, open_string, bad_number, directive, bad_byte, here, gap, token}
use Rattle.osl_decimal.specs.Decimal.{is_point}
use Rattle.osl_lex.specs.Readings.{Reading, IsReading}
use Rattle.osl_lex.proofs.Places.{index_rest, get_index, passes_within, passes_past, ArePair, pair_there, pair_rest}
use Rattle.osl_lex.proofs.Firsts.{not_blank, not_hash, some_byte, number_first}
use Rattle.osl_lex.proofs.Fronts.{front_some, front_first}
use Rattle.osl_lex.proofs.OneKind.{same_kind}
use Rattle.osl_lex.proofs.Standing.{token_of, first_there, token_some}

module _ (bytes : List ℕ) (at : ℕ) where
  -- ---- the byte at the place

  abbrev byte : ℕ
  byte = slice_index bytes at

  -- the first byte of a token is the byte there
  token_byte : (kind : TokenKind) (to : ℕ) → IsToken (slice_range bytes at to) kind → slice_index (slice_range bytes at to) 0 ≡ byte
  token_byte kind to is = front_first (drop at bytes) (to - at) kind is ∙ first_there bytes at

  -- a byte that is read there
  byte_is : (c : ℕ) → slice_get bytes at ≡ Some c → byte ≡ c
  byte_is c e = get_or_from_slice_get bytes at c 0 e

  blank_byte : passes is_blank (slice_get bytes at) ≡ true → (at < length bytes) × (is_blank byte ≡ true)
  blank_byte is = go (slice_get bytes at) refl is
    where
      go : (o : Option ℕ) → slice_get bytes at ≡ o → passes is_blank o ≡ true → (at < length bytes) × (is_blank byte ≡ true)
      go None e is = cc
      go (Some c) e is = (slice_get_within bytes at c e, ap is_blank (byte_is c e) ∙ is)

  -- where a blank stands, no other byte does
  not_when_blank : (c : ℕ) → is_blank c ≡ false → is_blank byte ≡ true → byte ≡ c → ⊥
  not_when_blank c no_blank is e = both_ways _ no_blank (ap is_blank (sym e) ∙ is)

  -- no token begins with a blank
  token_no_blank : (kind : TokenKind) (to : ℕ) → IsToken (slice_range bytes at to) kind → is_blank byte ≡ true → ⊥
  token_no_blank kind to is blank_there = both_ways _ (ap is_blank (sym (token_byte kind to is)) ∙ not_blank (slice_range bytes at to) kind is) blank_there

  -- a slash is a mark
  slash_token : (c : ℕ) → ArePair bytes at 47 c → NoToken bytes at → ⊥
  slash_token c pair no_token =
      let inside = pair.within in
      let e : at + 1 - at ≡ 1 = omega arith in
      let there : slice_range bytes at (at + 1) ≡ 47 ∷ [] = ap (λ n. take n (drop at bytes)) e ∙ ap (take 1) (pair_rest bytes at 47 c pair) in
      no_token (at + 1) (kinds.Punct p.Slash) (omega arith) (mark (slice_range bytes at (at + 1)) p.Slash there)

  number_no_byte : (c : ℕ) → is_ascii_digit c ≡ false → is_point c ≡ false → (kind : TokenKind) (to : ℕ) → IsToken (slice_range bytes at to) kind → is_number kind ≡ true → byte ≡ c → ⊥
  number_no_byte c no_digit no_point kind to is number e = elim (or_cases (is_ascii_digit first) (is_point first && is_ascii_digit (slice_index text 1)) (number_first text kind is number)) [
    | inl digit ↦ both_ways _ no_digit (ap is_ascii_digit (sym same) ∙ digit)
    | inr point ↦ both_ways _ no_point (ap is_point (sym same) ∙ (and_parts (is_point first) (is_ascii_digit (slice_index text 1)) point).0)
  ]
    where
      text : List ℕ
      text = slice_range bytes at to

      first : ℕ
      first = slice_index text 0

      same : first ≡ c
      same = token_byte kind to is ∙ e

  -- ---- two gaps

  line_unique : (a b : ℕ) → IsLineComment bytes at a → IsLineComment bytes at b → a < b → ⊥
  line_unique a b is other low =
      let within = other.within in
      let order = is.order in
      let ends = is.ends (omega arith) in
      both_ways _ (other.one_line a (omega arith) low) (ap (passes (nat_eq 10)) ends)

  block_unique : (a b : ℕ) → IsBlockComment bytes at a → IsBlockComment bytes at b → a < b → ⊥
  block_unique a b is other low =
      let order = is.order in
      let e = is.closes.1 in
      other.first is.closes.0 (omega arith) (omega arith) is.closes.2

  same_by : (a b : ℕ) → (a < b → ⊥) → (b < a → ⊥) → a ≡ b
  same_by a b not_less not_more = elim (cases_order a b) [ inl e ↦ e | inr other ↦ (elim other [ inl less ↦ absurd (not_less less) | inr more ↦ absurd (not_more more) ]) ]

  line_not_block : (a b : ℕ) → IsLineComment bytes at a → IsBlockComment bytes at b → ⊥
  line_not_block a b line block =
      let e = (pair_there bytes at 47 47 line.opens).second in
      let f = (pair_there bytes at 47 42 block.opens).second in
      let g : ◌≡◌ {A = ℕ} 47 42 = sym e ∙ f in
      omega arith

  slash_no_blank : (c : ℕ) → Stands bytes at (47 ∷ c ∷ []) → passes is_blank (slice_get bytes at) ≡ true → ⊥
  slash_no_blank c stands is = not_when_blank 47 refl (blank_byte is).1 (pair_there bytes at 47 c stands).first

  pub same_gap : (a b : ℕ) → IsGap bytes at a → IsGap bytes at b → a ≡ b
  same_gap _ _ (blank is) (blank other) = refl
  same_gap _ _ (blank is) (line_comment b other) = absurd (slash_no_blank 47 other.opens is)
  same_gap _ _ (blank is) (block_comment b other) = absurd (slash_no_blank 42 other.opens is)
  same_gap _ _ (line_comment a is) (blank other) = absurd (slash_no_blank 47 is.opens other)
  same_gap _ _ (line_comment a is) (line_comment b other) = same_by a b (line_unique a b is other) (line_unique b a other is)
  same_gap _ _ (line_comment a is) (block_comment b other) = absurd (line_not_block a b is other)
  same_gap _ _ (block_comment a is) (blank other) = absurd (slash_no_blank 42 is.opens other)
  same_gap _ _ (block_comment a is) (line_comment b other) = absurd (line_not_block b a other is)
  same_gap _ _ (block_comment a is) (block_comment b other) = same_by a b (block_unique a b is other) (block_unique b a other is)

  -- ---- a gap and a token

  pub gap_no_token : (a : ℕ) (t : Token) → IsGap bytes at a → IsTokenAt bytes at t → ⊥
  gap_no_token _ t (blank is) other = token_no_blank t.kind t.end (from_there t other) (blank_byte is).1
    where
      from_there : (t : Token) → IsTokenAt bytes at t → IsToken (slice_range bytes at t.end) t.kind
      from_there t other = subst (λ n. IsToken (slice_range bytes n t.end) t.kind) other.starts other.longest.is
  gap_no_token _ t (line_comment a is) other = other.no_comment.no_line_comment is.opens
  gap_no_token _ t (block_comment a is) other = other.no_comment.no_block_comment is.opens

  -- ---- two tokens

  longest_unique : (t u : Token) → t.start ≡ at → u.start ≡ at → IsLongest bytes t → IsLongest bytes u → t.end < u.end → ⊥
  longest_unique t u here_t here_u is other low =
      is.longest u.end u.kind low other.within (subst (λ n. IsToken (slice_range bytes n u.end) u.kind) (here_u ∙ sym here_t) other.is)

  pub same_longest : (t u : Token) → t.start ≡ at → u.start ≡ at → IsLongest bytes t → IsLongest bytes u → t ≡ u
  same_longest t u here_t here_u is other =
      let ends = same_by t.end u.end (longest_unique t u here_t here_u is other) (longest_unique u t here_u here_t other is) in
      let starts = here_t ∙ sym here_u in
      let kinds = same_kind (slice_range bytes t.start t.end) t.kind u.kind is.is
      (subst (λ n. IsToken (slice_range bytes n t.end) u.kind) (sym starts) (subst (λ n. IsToken (slice_range bytes u.start n) u.kind) (sym ends) other.is)) in
      ap (λ k. token_of k t.start t.end) kinds ∙ ap (λ n. token_of u.kind n t.end) starts ∙ ap (λ n. token_of u.kind u.start n) ends

  pub same_token : (t u : Token) → IsTokenAt bytes at t → IsTokenAt bytes at u → t ≡ u
  same_token t u is other = same_longest t u is.starts other.starts is.longest other.longest

  -- ---- faults

  -- A number that is cut short stands there.
  record IsBadNumber (t : Token) : Type 0 where
    starts : t.start ≡ at
    longest : IsLongest bytes t
    cut : is_cut_short bytes t ≡ true

  bad_token : (t : Token) → IsBadNumber t → IsToken (slice_range bytes at t.end) t.kind
  bad_token t is = subst (λ n. IsToken (slice_range bytes n t.end) t.kind) is.starts is.longest.is

  bad_is_number : (t : Token) → IsBadNumber t → is_number t.kind ≡ true
  bad_is_number t is = (and_parts (is_number t.kind) _ is.cut).0

  -- Where a token stands, no token is none.
  not_none : (t : Token) → t.start ≡ at → IsLongest bytes t → NoToken bytes at → ⊥
  not_none t starts is none = none t.end t.kind is.within (subst (λ n. IsToken (slice_range bytes n t.end) t.kind) starts is.is)

  bad_number_no_byte : (c : ℕ) → is_ascii_digit c ≡ false → is_point c ≡ false → (t : Token) → IsBadNumber t → byte ≡ c → ⊥
  bad_number_no_byte c no_digit no_point t is = number_no_byte c no_digit no_point t.kind t.end (bad_token t is) (bad_is_number t is)

  two_bytes : (c d : ℕ) → nat_eq c d ≡ false → byte ≡ c → byte ≡ d → ⊥
  two_bytes c d apart e f = both_ways _ apart (eq-eqb c d (sym e ∙ f))

  slash : (c : ℕ) → Stands bytes at (47 ∷ c ∷ []) → byte ≡ 47
  slash c stands = (pair_there bytes at 47 c stands).first

  no_slash_fault : (c : ℕ) → Stands bytes at (47 ∷ c ∷ []) → NoToken bytes at → ⊥
  no_slash_fault c stands none = slash_token c (pair_there bytes at 47 c stands) none

  -- ---- a gap and a fault

  pub gap_no_fault : (a : ℕ) (k : LexKind) → IsGap bytes at a → IsFault bytes at k → ⊥
  gap_no_fault _ _ (blank is) (open_comment opens never) = slash_no_blank 42 opens is
  gap_no_fault _ _ (blank is) (open_string quote none) = not_when_blank 34 refl (blank_byte is).1 (byte_is 34 quote)
  gap_no_fault _ _ (blank is) (bad_number t starts longest cut) = token_no_blank t.kind t.end (bad_token t (record { starts = starts; longest = longest; cut = cut })) (blank_byte is).1
  gap_no_fault _ _ (blank is) (directive hash begins) = not_when_blank 35 refl (blank_byte is).1 (byte_is 35 hash)
  gap_no_fault _ _ (blank is) (bad_byte c there no_blank no_quote none no_line) = not_when_blank c no_blank (blank_byte is).1 (byte_is c there)
  gap_no_fault _ _ (line_comment a is) (open_comment opens never) =
      let e = (pair_there bytes at 47 47 is.opens).second in
      let f = (pair_there bytes at 47 42 opens).second in
      let g : ◌≡◌ {A = ℕ} 47 42 = sym e ∙ f in
      omega arith
  gap_no_fault _ _ (line_comment a is) (open_string quote none) = no_slash_fault 47 is.opens none
  gap_no_fault _ _ (line_comment a is) (bad_number t starts longest cut) =
      bad_number_no_byte 47 refl refl t (record { starts = starts; longest = longest; cut = cut }) (slash 47 is.opens)
  gap_no_fault _ _ (line_comment a is) (directive hash begins) = two_bytes 47 35 refl (slash 47 is.opens) (byte_is 35 hash)
  gap_no_fault _ _ (line_comment a is) (bad_byte c there no_blank no_quote none no_line) = no_slash_fault 47 is.opens none
  gap_no_fault _ _ (block_comment a is) (open_comment opens never) =
      let order = is.order in
      let e = is.closes.1 in
      never is.closes.0 (omega arith) is.closes.2
  gap_no_fault _ _ (block_comment a is) (open_string quote none) = no_slash_fault 42 is.opens none
  gap_no_fault _ _ (block_comment a is) (bad_number t starts longest cut) =
      bad_number_no_byte 47 refl refl t (record { starts = starts; longest = longest; cut = cut }) (slash 42 is.opens)
  gap_no_fault _ _ (block_comment a is) (directive hash begins) = two_bytes 47 35 refl (slash 42 is.opens) (byte_is 35 hash)
  gap_no_fault _ _ (block_comment a is) (bad_byte c there no_blank no_quote none no_line) = no_slash_fault 42 is.opens none

  -- ---- a token and a fault

  hash_no_token : (t : Token) → t.start ≡ at → IsLongest bytes t → byte ≡ 35 → ⊥
  hash_no_token t starts is hash =
      let it = subst (λ n. IsToken (slice_range bytes n t.end) t.kind) starts is.is in
      both_ways _ (not_hash (slice_range bytes at t.end) t.kind it) (eq-eqb _ 35 (token_byte t.kind t.end it ∙ hash))

  pub token_no_fault : (t : Token) (k : LexKind) → IsTokenAt bytes at t → IsFault bytes at k → ⊥
  token_no_fault t _ is (open_comment opens never) = is.no_comment.no_block_comment opens
  token_no_fault t _ is (open_string quote none) = not_none t is.starts is.longest none
  token_no_fault t _ is (bad_number u starts longest cut) =
      let e = same_longest t u is.starts starts is.longest longest in
      both_ways _ is.whole (ap (is_cut_short bytes) e ∙ cut)
  token_no_fault t _ is (directive hash begins) = hash_no_token t is.starts is.longest (byte_is 35 hash)
  token_no_fault t _ is (bad_byte c there no_blank no_quote none no_line) = not_none t is.starts is.longest none

  -- ---- two faults

  pub same_fault : (k j : LexKind) → IsFault bytes at k → IsFault bytes at j → k ≡ j
  same_fault _ _ (open_comment opens never) (open_comment opens' never') = refl
  same_fault _ _ (open_comment opens never) (open_string quote none) = absurd (no_slash_fault 42 opens none)
  same_fault _ _ (open_comment opens never) (bad_number t starts longest cut) =
      absurd (bad_number_no_byte 47 refl refl t (record { starts = starts; longest = longest; cut = cut }) (slash 42 opens))
  same_fault _ _ (open_comment opens never) (directive hash begins) = absurd (two_bytes 47 35 refl (slash 42 opens) (byte_is 35 hash))
  same_fault _ _ (open_comment opens never) (bad_byte c there no_blank no_quote none no_line) = absurd (no_slash_fault 42 opens none)
  same_fault _ _ (open_string quote none) (open_comment opens never) = absurd (no_slash_fault 42 opens none)
  same_fault _ _ (open_string quote none) (open_string quote' none') = refl
  same_fault _ _ (open_string quote none) (bad_number t starts longest cut) = absurd (not_none t starts longest none)
  same_fault _ _ (open_string quote none) (directive hash begins) = absurd (two_bytes 34 35 refl (byte_is 34 quote) (byte_is 35 hash))
  same_fault _ _ (open_string quote none) (bad_byte c there no_blank no_quote none' no_line) =
      absurd (both_ways _ no_quote (eq-eqb c 34 (sym (byte_is c there) ∙ byte_is 34 quote)))
  same_fault _ _ (bad_number t starts longest cut) (open_comment opens never) =
      absurd (bad_number_no_byte 47 refl refl t (record { starts = starts; longest = longest; cut = cut }) (slash 42 opens))
  same_fault _ _ (bad_number t starts longest cut) (open_string quote none) = absurd (not_none t starts longest none)
  same_fault _ _ (bad_number t starts longest cut) (bad_number u starts' longest' cut') = refl
  same_fault _ _ (bad_number t starts longest cut) (directive hash begins) = absurd (hash_no_token t starts longest (byte_is 35 hash))
  same_fault _ _ (bad_number t starts longest cut) (bad_byte c there no_blank no_quote none no_line) = absurd (not_none t starts longest none)
  same_fault _ _ (directive hash begins) (open_comment opens never) = absurd (two_bytes 47 35 refl (slash 42 opens) (byte_is 35 hash))
  same_fault _ _ (directive hash begins) (open_string quote none) = absurd (two_bytes 34 35 refl (byte_is 34 quote) (byte_is 35 hash))
  same_fault _ _ (directive hash begins) (bad_number t starts longest cut) = absurd (hash_no_token t starts longest (byte_is 35 hash))
  same_fault _ _ (directive hash begins) (directive hash' begins') = refl
  same_fault _ _ (directive hash begins) (bad_byte c there no_blank no_quote none no_line) = absurd (no_line (sym (byte_is c there) ∙ byte_is 35 hash) begins)
  same_fault _ _ (bad_byte c there no_blank no_quote none no_line) (open_comment opens never) = absurd (no_slash_fault 42 opens none)
  same_fault _ _ (bad_byte c there no_blank no_quote none no_line) (open_string quote none') =
      absurd (both_ways _ no_quote (eq-eqb c 34 (sym (byte_is c there) ∙ byte_is 34 quote)))
  same_fault _ _ (bad_byte c there no_blank no_quote none no_line) (bad_number t starts longest cut) = absurd (not_none t starts longest none)
  same_fault _ _ (bad_byte c there no_blank no_quote none no_line) (directive hash begins) = absurd (no_line (sym (byte_is c there) ∙ byte_is 35 hash) begins)
  same_fault _ _ (bad_byte c there no_blank no_quote none no_line) (bad_byte c' there' no_blank' no_quote' none' no_line') = refl

  -- ---- past the end

  gap_within : (a : ℕ) → IsGap bytes at a → at < length bytes
  gap_within _ (blank is) = (blank_byte is).0
  gap_within _ (line_comment a is) = let w = (pair_there bytes at 47 47 is.opens).within in omega arith
  gap_within _ (block_comment a is) = let w = (pair_there bytes at 47 42 is.opens).within in omega arith

  longest_within : (t : Token) → t.start ≡ at → IsLongest bytes t → at < length bytes
  longest_within t starts is =
      let some = front_some (drop at bytes) (t.end - at) t.kind (subst (λ n. IsToken (slice_range bytes n t.end) t.kind) starts is.is) in
      let within = is.within in
      omega arith

  fault_within : (k : LexKind) → IsFault bytes at k → at < length bytes
  fault_within _ (open_comment opens never) = let w = (pair_there bytes at 47 42 opens).within in omega arith
  fault_within _ (open_string quote none) = slice_get_within bytes at 34 quote
  fault_within _ (bad_number t starts longest cut) = longest_within t starts longest
  fault_within _ (directive hash begins) = slice_get_within bytes at 35 hash
  fault_within _ (bad_byte c there no_blank no_quote none no_line) = slice_get_within bytes at c there

  -- ---- where a walk stops

  -- at the end, or at a fault
  pub data Stops : Option LexKind → Type 0 where
    done : at ≡ length bytes → Stops None
    fails : (k : LexKind) → IsFault bytes at k → Stops (Some k)

  pub same_stop : (x y : Option LexKind) → Stops x → Stops y → x ≡ y
  same_stop _ _ (done e) (done f) = refl
  same_stop _ _ (done e) (fails k is) = let w = fault_within k is in absurd (omega arith)
  same_stop _ _ (fails k is) (done e) = let w = fault_within k is in absurd (omega arith)
  same_stop _ _ (fails k is) (fails j other) = ap Some (same_fault k j is other)

  stop_no_gap : (x : Option LexKind) (a : ℕ) → Stops x → IsGap bytes at a → ⊥
  stop_no_gap _ a (done e) is = let w = gap_within a is in omega arith
  stop_no_gap _ a (fails k fault) is = gap_no_fault a k is fault

  stop_no_token : (x : Option LexKind) (t : Token) → Stops x → IsTokenAt bytes at t → ⊥
  stop_no_token _ t (done e) is = let w = longest_within t is.starts is.longest in omega arith
  stop_no_token _ t (fails k fault) is = token_no_fault t k is fault

-- Two walks from one place that stop have the same tokens and stop at the same place, for the same reason.
pub record Same (ts us : List Token) (to so : ℕ) (x y : Option LexKind) : Type 0 where
  pub tokens : ts ≡ us
  pub place : to ≡ so
  pub reason : x ≡ y

pub same_walk : {bytes : List ℕ} {at to so : ℕ} {ts us : List Token} {x y : Option LexKind} → Runs bytes at ts to → Stops bytes to x → Runs bytes at us so → Stops bytes so y → Same ts us to so x y
same_walk {bytes} {x = x} {y = y} (here at) stop (here _) other = record { tokens = refl; place = refl; reason = same_stop bytes at x y stop other }
same_walk {bytes} {x = x} (here at) stop (gap _ on so us is rest) other = absurd (stop_no_gap bytes at x on stop is)
same_walk {bytes} {x = x} (here at) stop (token _ so t us is rest) other = absurd (stop_no_token bytes at x t stop is)
same_walk {bytes} {y = y} (gap at on to ts is rest) stop (here _) other = absurd (stop_no_gap bytes at y on other is)
same_walk {bytes} (gap at on to ts is rest) stop (gap _ on' so us is' rest') other =
    same_walk rest stop (subst (λ n. Runs bytes n us so) (sym (same_gap bytes at on on' is is')) rest') other
same_walk {bytes} (gap at on to ts is rest) stop (token _ so t us is' rest') other = absurd (gap_no_token bytes at on t is is')
same_walk {bytes} {y = y} (token at to t ts is rest) stop (here _) other = absurd (stop_no_token bytes at y t other is)
same_walk {bytes} (token at to t ts is rest) stop (gap _ on so us is' rest') other = absurd (gap_no_token bytes at on t is' is)
same_walk {bytes} (token at to t ts is rest) stop (token _ so u us is' rest') other =
    let same = same_token bytes at t u is is' in
    let r = same_walk rest stop (subst (λ n. Runs bytes n us so) (sym (ap (λ (v : Token). v.end) same)) rest') other in
    record { tokens = ap (λ v. v ∷ ts) same ∙ ap (λ vs. u ∷ vs) r.tokens; place = r.place; reason = r.reason }

-- ---- a whole source

-- A reading is a walk from the beginning, and where it stops.
pub record IsWalk (bytes : List ℕ) (tokens : List Token) (to : ℕ) (reason : Option LexKind) : Type 0 where
  pub runs : Runs bytes 0 tokens to
  pub stops : Stops bytes to reason

pub one_walk : {bytes : List ℕ} {ts us : List Token} {to so : ℕ} {x y : Option LexKind} → IsWalk bytes ts to x → IsWalk bytes us so y → Same ts us to so x y
one_walk w v = same_walk w.runs w.stops v.runs v.stops

whole : {bytes : List ℕ} {ts : List Token} → Tokens bytes ts → IsWalk bytes ts (length bytes) None
whole {bytes} runs = record { runs = runs; stops = done refl }

broken : {bytes : List ℕ} {k : LexKind} {at : ℕ} (bad : FirstBad bytes k at) → IsWalk bytes bad.tokens at (Some k)
broken {bytes} {k} {at} bad = record { runs = bad.before; stops = fails k bad.fault }

pub one_reading_of : (bytes : List ℕ) (x y : Reading) → IsReading bytes x → IsReading bytes y → x ≡ y
one_reading_of bytes (Ok ts) (Ok us) is other = ap Ok (one_walk (whole is) (whole other)).tokens
one_reading_of bytes (Ok ts) (Err fault) is other = let e = (one_walk (whole is) (broken other)).reason in cc
one_reading_of bytes (Err fault) (Ok us) is other = let e = (one_walk (broken is) (whole other)).reason in cc
one_reading_of bytes (Err fault) (Err other_fault) is other =
    let same = one_walk (broken is) (broken other) in
    let kinds : fault.0 ≡ other_fault.0 = some_same same.reason in
    ap (λ k. Err (k, fault.1)) kinds ∙ ap (λ n. Err (other_fault.0, n)) same.place
  where
    some_same : Some fault.0 ≡ Some other_fault.0 → fault.0 ≡ other_fault.0
    some_same e = cc
