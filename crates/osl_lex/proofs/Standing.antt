-- What stands at a place of a source, from what its rest begins with.
use Rattle.std.proofs.Common.{◌≡◌, ◌⊎◌, ℕ, zero, suc, ◌+◌, ◌-◌, ◌<◌, ◌≤◌, Bool, true, false, not, ◌||◌, ◌&&◌, List, ◌∷◌, length, take, drop, nat_eq, ◌==◌, slice_index, slice_get, Option, Some, None, codes, refl, sym, ap, subst, ◌∙◌, inl, inr, arith, length-drop}
use Rattle.std.proofs.lemmas.Bool.{eqb-true, and_from, not-false, cases_lt}
use Rattle.std.proofs.lemmas.Bool.Decides.{nat_tests}
use Rattle.std.proofs.lemmas.List.{drop-drop, take_rest, get_or_past}
use Rattle.std.proofs.lemmas.List.Sums.{prefix_len-le-length, prefix_len_passes, prefix_len_stops}
use Rattle.osl_tree.specs.declared.token.Punct.{Punct}
use Rattle.osl_tree.specs.declared.token.TokenKind.{TokenKind}
use Rattle.osl_tree.specs.declared.token.TokenKind.TheVariants as kinds
use Rattle.osl_tree.specs.declared.token.Token.{Token}
use Rattle.osl_tree.specs.declared.token.LexKind.TheVariants as faults
use Rattle.osl_tree.specs.Lexical.{is_blank, begins_word, is_word_byte, is_number, passes, Stands, IsLineComment, IsBlockComment, IsGap, IsNoComment, IsLongest, IsTokenAt, IsToken, NoToken, IsFault, blank, line_comment, block_comment, open_comment, open_string, bad_number}
use Rattle.osl_lex.specs.Scan.{word_len, line_len, string_end, comment_end, number_len, begins_number}
use Rattle.osl_lex.specs.Signs.{longest_mark}
use Rattle.osl_lex.specs.Value.{number_of}
use Rattle.osl_lex.proofs.Places.{index_rest, get_rest, get_index, passes_within, fails_there, ArePair, pair_there, pair_rest, pair_stands}
use Rattle.osl_lex.proofs.Comments.{IsClose, ClosesFirst, comment_closes, comment_never_closes}
use Rattle.osl_lex.proofs.Numbers.{begins_as_number}
use Rattle.osl_lex.proofs.Fronts.{IsFront, HasNoFront, front_some, word_front, string_front, no_string}
use Rattle.osl_lex.proofs.NumberFronts.{number_front, number_whole, number_cut}
use Rattle.osl_lex.proofs.MarkFronts.{mark_front, no_mark}

-- ---- tokens

abbrev pub token_of : TokenKind → ℕ → ℕ → Token
token_of kind at to = record { kind = kind; start = at; end = to }

pub longest_at : (bytes : List ℕ) (at : ℕ) (kind : TokenKind) (len : ℕ) → at ≤ length bytes → IsFront (drop at bytes) kind len → IsLongest bytes (token_of kind at (at + len))
longest_at bytes at kind len inside front =
    let size = length-drop at bytes in
    let low = front.within in
    let e : len ≡ at + len - at = omega arith in
    record {
      within = omega arith;
      is = subst (λ n. IsToken (take n (drop at bytes)) kind) e front.is;
      longest = λ to other more within is. front.longest (to - at) other (omega arith) (omega arith) is;
    }

pub no_token_at : (bytes : List ℕ) (at : ℕ) → at ≤ length bytes → HasNoFront (drop at bytes) → NoToken bytes at
no_token_at bytes at inside none to kind within is = let size = length-drop at bytes in none (to - at) kind (omega arith) is

-- a comment does not begin with these bytes
pub no_comment_at : (bytes : List ℕ) (at : ℕ) → (slice_index bytes at ≡ 47 → slice_index bytes (at + 1) ≡ 47 → ⊥) → (slice_index bytes at ≡ 47 → slice_index bytes (at + 1) ≡ 42 → ⊥) → IsNoComment bytes at
no_comment_at bytes at no_line no_block = record {
  no_line_comment = λ there. let pair = pair_there bytes at 47 47 there in no_line pair.first pair.second;
  no_block_comment = λ there. let pair = pair_there bytes at 47 42 there in no_block pair.first pair.second;
}

-- A byte that is no slash begins no comment.
pub no_slash_at : (bytes : List ℕ) (at : ℕ) → (slice_index bytes at ≡ 47 → ⊥) → IsNoComment bytes at
no_slash_at bytes at no_slash = no_comment_at bytes at (λ slash other. no_slash slash) (λ slash other. no_slash slash)

pub token_at : (bytes : List ℕ) (at : ℕ) (kind : TokenKind) (len : ℕ) → at ≤ length bytes → IsNoComment bytes at → IsFront (drop at bytes) kind len
    → is_number kind && passes (λ c. is_word_byte c || nat_eq c 46) (slice_get (drop at bytes) len) ≡ false → IsTokenAt bytes at (token_of kind at (at + len))
token_at bytes at kind len inside no_comment front whole = record {
  starts = refl;
  no_comment = no_comment;
  longest = longest_at bytes at kind len inside front;
  whole = ap (λ (o : Option ℕ). is_number kind && passes (λ c. is_word_byte c || nat_eq c 46) o) (sym (get_rest bytes at len)) ∙ whole;
}

-- ---- gaps

pub blank_at : (bytes : List ℕ) (at : ℕ) → at < length bytes → is_blank (slice_index bytes at) ≡ true → IsGap bytes at (at + 1)
blank_at bytes at inside is = blank (passes_within is_blank bytes at inside ∙ is)

-- in the source, a byte of its rest
there : (bytes : List ℕ) (at k : ℕ) → at ≤ k → slice_index bytes k ≡ slice_index (drop at bytes) (k - at)
there bytes at k low = let e : at + (k - at) ≡ k = omega arith in ap (slice_index bytes) (sym e) ∙ sym (index_rest bytes at (k - at))

not_ten : (c : ℕ) → not (c == 10) ≡ true → nat_eq 10 c ≡ false
not_ten c e = grind (arith, nat_tests)

pub line_comment_at : (bytes : List ℕ) (at : ℕ) → ArePair bytes at 47 47 → IsLineComment bytes at (at + line_len (drop at bytes))
line_comment_at bytes at pair =
    let test : ℕ → Bool = λ c. not (c == 10) in
    let rest = drop at bytes in
    let size = length-drop at bytes in
    let inside = pair.within in
    let within = prefix_len-le-length test rest in
    let front = ap line_len (pair_rest bytes at 47 47 pair) in
    record {
      opens = pair_stands bytes at 47 47 pair;
      order = omega arith;
      within = omega arith;
      one_line = λ k low high. fails_there (nat_eq 10) bytes k (λ in_source.
          ap (nat_eq 10) (there bytes at k low) ∙ not_ten (slice_index rest (k - at)) (prefix_len_passes test rest (k - at) 0 (omega arith)));
      ends = λ more.
          let stops = prefix_len_stops test rest 0 (omega arith) in
          get_index bytes (at + line_len rest) more
          ∙ ap Some (sym (index_rest bytes at (line_len rest)) ∙ eqb-true (slice_index rest (line_len rest)) 10 (not-false (slice_index rest (line_len rest) == 10) stops));
    }

-- ---- block comments

-- `*/` in the rest, in terms of the source
close_there : (bytes : List ℕ) (at k : ℕ) → k + 1 < length (drop at bytes) → IsClose (drop at bytes) k → Stands bytes (at + k) (codes "*/")
close_there bytes at k low close = let size = length-drop at bytes in pair_stands bytes (at + k) 42 47 (record {
  first = sym (index_rest bytes at k) ∙ close.0;
  second = let e : at + (suc k) ≡ at + k + 1 = omega arith in sym (ap (slice_index bytes) e) ∙ sym (index_rest bytes at (suc k)) ∙ close.1;
  within = omega arith;
})

there_close : (bytes : List ℕ) (at k : ℕ) → at ≤ k → Stands bytes k (codes "*/") → IsClose (drop at bytes) (k - at) × (k - at + 1 < length (drop at bytes))
there_close bytes at k low stands =
    let pair = pair_there bytes k 42 47 stands in
    let size = length-drop at bytes in
    let inside = pair.within in
    let e : at + suc (k - at) ≡ k + 1 = omega arith in
    ((sym (there bytes at k low) ∙ pair.first, index_rest bytes at (suc (k - at)) ∙ ap (slice_index bytes) e ∙ pair.second), omega arith)

pub block_comment_at : (bytes : List ℕ) (at len : ℕ) → ArePair bytes at 47 42 → comment_end 0 false (drop (at + 2) bytes) ≡ Some len → IsBlockComment bytes at (at + 2 + len)
block_comment_at bytes at len pair found = go (comment_closes (drop (at + 2) bytes) 0 0 len found)
  where
    rest : List ℕ
    rest = drop (at + 2) bytes

    go : ClosesFirst 0 0 (drop (at + 2) bytes) len → IsBlockComment bytes at (at + 2 + len)
    go closes = by closes.star closes.within closes.closes closes.place closes.first
      where
        by : (star : ℕ) → star < length (drop (at + 2) bytes) → IsClose (0 ∷ drop (at + 2) bytes) star → len ≡ 0 + star + 1
            → ((k : ℕ) → k < star → IsClose (0 ∷ drop (at + 2) bytes) k → ⊥) → IsBlockComment bytes at (at + 2 + len)
        by zero within close place first = let e : ◌≡◌ {A = ℕ} 0 42 = close.0 in absurd (omega arith)
        by (suc k) within close place first = record {
          opens = pair_stands bytes at 47 42 pair;
          order = omega arith;
          closes = (at + 2 + k, omega arith, close_there bytes (at + 2) k (omega arith) close);
          first = λ j low early stands.
              let c = there_close bytes (at + 2) j low stands in
              first (suc (j - (at + 2))) (omega arith) c.0;
        }

pub open_comment_at : (bytes : List ℕ) (at : ℕ) → ArePair bytes at 47 42 → comment_end 0 false (drop (at + 2) bytes) ≡ None → IsFault bytes at faults.OpenComment
open_comment_at bytes at pair none = open_comment (pair_stands bytes at 47 42 pair) (λ k low stands.
    let c = there_close bytes (at + 2) k low stands in
    comment_never_closes (drop (at + 2) bytes) 0 0 none (suc (k - (at + 2))) (omega arith) c.0)

-- ---- strings

pub first_there : (bytes : List ℕ) (at : ℕ) → slice_index (drop at bytes) 0 ≡ slice_index bytes at
first_there bytes at = let e : at + 0 ≡ at = omega arith in index_rest bytes at 0 ∙ ap (slice_index bytes) e

second_there : (bytes : List ℕ) (at : ℕ) → slice_index (drop at bytes) 1 ≡ slice_index bytes (at + 1)
second_there bytes at = index_rest bytes at 1

quote_no_slash : (bytes : List ℕ) (at : ℕ) → slice_index bytes at ≡ 34 → slice_index bytes at ≡ 47 → ⊥
quote_no_slash bytes at quote slash = let e = sym quote ∙ slash in absurd (omega arith)

pub string_at : (bytes : List ℕ) (at len : ℕ) → at < length bytes → slice_index bytes at ≡ 34 → string_end 0 false (drop (at + 1) bytes) ≡ Some len
    → IsTokenAt bytes at (token_of kinds.Str at (at + 1 + len))
string_at bytes at len inside quote found =
    let front = string_front (drop at bytes) len (first_there bytes at ∙ quote) (ap (string_end 0 false) (drop-drop 1 at bytes) ∙ found) in
    let e : at + (1 + len) ≡ at + 1 + len = omega arith in
    subst (λ to. IsTokenAt bytes at (token_of kinds.Str at to)) e (token_at bytes at kinds.Str (1 + len) (omega arith) (no_slash_at bytes at (quote_no_slash bytes at quote)) front refl)

pub open_string_at : (bytes : List ℕ) (at : ℕ) → at < length bytes → slice_index bytes at ≡ 34 → string_end 0 false (drop (at + 1) bytes) ≡ None → IsFault bytes at faults.OpenString
open_string_at bytes at inside quote none =
    open_string (get_index bytes at inside ∙ ap Some quote)
    (no_token_at bytes at (omega arith) (no_string (drop at bytes) (first_there bytes at ∙ quote) (ap (string_end 0 false) (drop-drop 1 at bytes) ∙ none)))

-- ---- words

pub word_at : (bytes : List ℕ) (at : ℕ) → at < length bytes → begins_word (slice_index bytes at) ≡ true → IsTokenAt bytes at (token_of kinds.Word at (at + word_len (drop at bytes)))
word_at bytes at inside begins =
    token_at bytes at kinds.Word (word_len (drop at bytes)) (omega arith) (no_slash_at bytes at no_slash) (word_front (drop at bytes) (ap begins_word (first_there bytes at) ∙ begins)) refl
  where
    no_slash : slice_index bytes at ≡ 47 → ⊥
    no_slash slash = let e : begins_word 47 ≡ true = ap begins_word (sym slash) ∙ begins in cc

-- ---- numbers

begins_there : (bytes : List ℕ) (at : ℕ) → begins_number (slice_index bytes at) (slice_index bytes (at + 1)) ≡ true → begins_as_number (drop at bytes) ≡ true
begins_there bytes at begins = rw (first_there bytes at, second_there bytes at) begins

pub number_at : (bytes : List ℕ) (at : ℕ) (kind : TokenKind) → at < length bytes → begins_number (slice_index bytes at) (slice_index bytes (at + 1)) ≡ true
    → number_of (take (number_len (drop at bytes)) (drop at bytes)) ≡ Some kind → IsTokenAt bytes at (token_of kind at (at + number_len (drop at bytes)))
number_at bytes at kind inside begins found =
    let begins' = begins_there bytes at begins in
    token_at bytes at kind (number_len (drop at bytes)) (omega arith) (no_slash_at bytes at no_slash)
    (number_front (drop at bytes) begins' kind found) (number_whole (drop at bytes) begins' kind found)
  where
    no_slash : slice_index bytes at ≡ 47 → ⊥
    no_slash slash = let e : begins_number 47 (slice_index bytes (at + 1)) ≡ true = subst (λ c. begins_number c (slice_index bytes (at + 1)) ≡ true) slash begins in cc

pub bad_number_at : (bytes : List ℕ) (at : ℕ) → at < length bytes → begins_number (slice_index bytes at) (slice_index bytes (at + 1)) ≡ true
    → number_of (take (number_len (drop at bytes)) (drop at bytes)) ≡ None → IsFault bytes at faults.BadNumber
bad_number_at bytes at inside begins none =
    let cut = number_cut (drop at bytes) (begins_there bytes at begins) none in
    bad_number (token_of cut.kind at (at + cut.len)) refl (longest_at bytes at cut.kind cut.len (omega arith) cut.front)
    (and_from (is_number cut.kind) _ cut.number (ap (passes (λ c. is_word_byte c || nat_eq c 46)) (sym (get_rest bytes at cut.len)) ∙ cut.cut))

-- ---- marks

-- Neither a word nor a string nor a number begins there.
pub record OnlyMarks (bytes : List ℕ) (at : ℕ) : Type 0 where
  pub no_word : begins_word (slice_index bytes at) ≡ false
  pub no_quote : slice_index bytes at ≡ 34 → ⊥
  pub no_number : begins_number (slice_index bytes at) (slice_index bytes (at + 1)) ≡ false

pub mark_at : (bytes : List ℕ) (at : ℕ) (sign : Punct) (len : ℕ) → at < length bytes → OnlyMarks bytes at → IsNoComment bytes at → longest_mark (drop at bytes) ≡ Some (sign, len)
    → IsTokenAt bytes at (token_of (kinds.Punct sign) at (at + len))
mark_at bytes at sign len inside only no_comment found =
    token_at bytes at (kinds.Punct sign) len (omega arith) no_comment
    (mark_front (drop at bytes) (ap begins_word (first_there bytes at) ∙ only.no_word) (λ quote. only.no_quote (sym (first_there bytes at) ∙ quote))
    (rw (first_there bytes at, second_there bytes at) only.no_number) sign len found) refl

pub no_mark_at : (bytes : List ℕ) (at : ℕ) → at < length bytes → OnlyMarks bytes at → longest_mark (drop at bytes) ≡ None → NoToken bytes at
no_mark_at bytes at inside only none =
    no_token_at bytes at (omega arith)
    (no_mark (drop at bytes) (ap begins_word (first_there bytes at) ∙ only.no_word) (λ quote. only.no_quote (sym (first_there bytes at) ∙ quote))
    (rw (first_there bytes at, second_there bytes at) only.no_number) none)

-- ---- bytes that are read from the rest

pub first_read : (bytes : List ℕ) (at c : ℕ) → c ≡ slice_index (take (length bytes - at) (drop at bytes)) 0 → c ≡ slice_index bytes at
first_read bytes at c e = e ∙ ap (λ (xs : List ℕ). slice_index xs 0) (take_rest bytes at) ∙ first_there bytes at

pub second_read : (bytes : List ℕ) (at c : ℕ) → c ≡ slice_index (take (length bytes - at) (drop at bytes)) 1 → c ≡ slice_index bytes (at + 1)
second_read bytes at c e = e ∙ ap (λ (xs : List ℕ). slice_index xs 1) (take_rest bytes at) ∙ second_there bytes at

-- Past the end 0 is read.
pub read_within : (bytes : List ℕ) (k c : ℕ) → c ≡ slice_index bytes k → 0 < c → k < length bytes
read_within bytes k c e some = elim (cases_lt k (length bytes)) [
  | inl within ↦ within
  | inr past ↦ (let f = get_or_past bytes k 0 past in absurd (omega arith))
]

-- ---- how far a piece goes

pub token_some : (bytes : List ℕ) (at : ℕ) (kind : TokenKind) (to : ℕ) → IsTokenAt bytes at (token_of kind at to) → at < to
token_some bytes at kind to is =
    let some = front_some (drop at bytes) (to - at) kind is.longest.is in
    omega arith

-- A piece has a byte or more, and ends within the source.
pub gap_ends : (bytes : List ℕ) (at to : ℕ) → at < length bytes → IsGap bytes at to → (at < to) × (to ≤ length bytes)
gap_ends bytes at _ inside (blank is) = (omega arith, omega arith)
gap_ends bytes at _ inside (line_comment to is) = let o = is.order in (omega arith, is.within)
gap_ends bytes at _ inside (block_comment to is) =
    let o = is.order in
    let e = is.closes.1 in
    let pair = pair_there bytes is.closes.0 42 47 is.closes.2 in
    let w = pair.within in
    (omega arith, omega arith)

pub token_ends : (bytes : List ℕ) (at : ℕ) (kind : TokenKind) (to : ℕ) → IsTokenAt bytes at (token_of kind at to) → (at < to) × (to ≤ length bytes)
token_ends bytes at kind to is = (token_some bytes at kind to is, is.longest.within)

-- ---- what the tests of the first two bytes say

module _ (bytes : List ℕ) (at c d : ℕ) (first : c ≡ slice_index bytes at) (second : d ≡ slice_index bytes (at + 1)) where
  pub only_marks : begins_word c ≡ false → (c ≡ 34 → ⊥) → begins_number c d ≡ false → OnlyMarks bytes at
  only_marks no_word no_quote no_number = record {
    no_word = ap begins_word (sym first) ∙ no_word;
    no_quote = λ quote. no_quote (first ∙ quote);
    no_number = ap (λ x. begins_number x (slice_index bytes (at + 1))) (sym first) ∙ ap (begins_number c) (sym second) ∙ no_number;
  }

  pub no_comment_read : ((c ≡ 47) × (d ≡ 47 → ⊥)) ⊎ (c ≡ 47 → ⊥) → ((c ≡ 47) × (d ≡ 42 → ⊥)) ⊎ (c ≡ 47 → ⊥) → IsNoComment bytes at
  no_comment_read line block = no_comment_at bytes at (λ f s. neither line (first ∙ f) (second ∙ s)) (λ f s. neither block (first ∙ f) (second ∙ s))
    where
      neither : {n : ℕ} → ((c ≡ 47) × (d ≡ n → ⊥)) ⊎ (c ≡ 47 → ⊥) → c ≡ 47 → d ≡ n → ⊥
      neither (inl both) f s = both.1 s
      neither (inr not_first) f s = not_first f
