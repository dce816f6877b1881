-- The longest token at the front of a list.
use Rattle.std.proofs.Common.{◌≡◌, ℕ, zero, suc, ◌+◌, ◌-◌, ◌<◌, ◌≤◌, true, false, List, [], ◌∷◌, ◌++◌, length, take, drop, get_or, slice_index, Some, None, refl, sym, ap, subst, ◌∙◌, arith, append_assoc, length-take, length-append}
use Rattle.std.proofs.lemmas.Bool.{both_ways}
use Rattle.std.proofs.lemmas.Bool.Decides.{nat_tests}
use Rattle.std.proofs.lemmas.List.{get_or-take, get_or_default, take-append-drop, take_at}
use Rattle.std.proofs.lemmas.List.Sums.{prefix_len-le-length, prefix_len_passes, prefix_len_stops}
use Rattle.std.proofs.Math.Numerals.{one-add}
use Rattle.osl_tree.specs.declared.token.TokenKind.{TokenKind}
use Rattle.osl_tree.specs.declared.token.TokenKind.TheVariants as kinds
use Rattle.osl_tree.specs.Lexical.{begins_word, is_word_byte, IsWord, IsString, IsToken, word, quoted, string}
use Rattle.osl_lex.specs.Scan.{word_len, string_end}
use Rattle.osl_lex.proofs.Firsts.{only_word, only_string, some_byte}
use Rattle.osl_lex.proofs.Strings.{string_closes, string_ends}

-- The front of so many bytes is a token of this kind, and no longer front is one.
pub record IsFront (rest : List ℕ) (kind : TokenKind) (len : ℕ) : Type 0 where
  pub within : len ≤ length rest
  pub is : IsToken (take len rest) kind
  pub longest : (n : ℕ) (other : TokenKind) → len < n → n ≤ length rest → IsToken (take n rest) other → ⊥

-- no front is a token
abbrev pub HasNoFront : List ℕ → Type 0
HasNoFront rest = (n : ℕ) (kind : TokenKind) → n ≤ length rest → IsToken (take n rest) kind → ⊥

-- A front that is a token has a byte, the first.
pub front_some : (rest : List ℕ) (n : ℕ) (kind : TokenKind) → IsToken (take n rest) kind → 0 < n
front_some rest n kind is = let e = length-take n rest in let f = some_byte (take n rest) kind is in omega arith

pub front_index : (rest : List ℕ) (n k : ℕ) → k < n → slice_index (take n rest) k ≡ slice_index rest k
front_index rest n k low = get_or-take n rest k 0 low

pub front_first : (rest : List ℕ) (n : ℕ) (kind : TokenKind) → IsToken (take n rest) kind → slice_index (take n rest) 0 ≡ slice_index rest 0
front_first rest n kind is = front_index rest n 0 (front_some rest n kind is)

-- ---- words

begins_byte : (c : ℕ) → begins_word c ≡ true → is_word_byte c ≡ true
begins_byte c begins = grind (arith, nat_tests)

word_bytes : (text : List ℕ) → IsWord text → (k : ℕ) → k < length text → is_word_byte (slice_index text k) ≡ true
word_bytes _ (word c cs begins each) zero low = begins_byte c begins
word_bytes _ (word c cs begins each) (suc k) low = each k 0 (omega arith)

is_word : (text : List ℕ) → begins_word (slice_index text 0) ≡ true → ((k : ℕ) → k < length text → is_word_byte (slice_index text k) ≡ true) → IsWord text
is_word [] begins each = cc
is_word (c ∷ cs) begins each = word c cs begins (λ k d low. at_default cs k d low (each (suc k) (omega arith)))
  where
    at_default : (cs : List ℕ) (k d : ℕ) → k < length cs → is_word_byte (slice_index cs k) ≡ true → is_word_byte (get_or cs k d) ≡ true
    at_default cs k d low e = ap is_word_byte (get_or_default cs k d 0 low) ∙ e

some_word : (rest : List ℕ) → begins_word (slice_index rest 0) ≡ true → 0 < word_len rest
some_word [] begins = cc
some_word (c ∷ cs) begins = rw (begins_byte c begins) (omega arith)

pub word_front : (rest : List ℕ) → begins_word (slice_index rest 0) ≡ true → IsFront rest kinds.Word (word_len rest)
word_front rest begins =
    let len = word_len rest in
    let within : len ≤ length rest = prefix_len-le-length is_word_byte rest in
    let first = front_index rest len 0 (some_word rest begins) in
    record {
      within = within;
      is = word (take len rest) (is_word (take len rest) (ap begins_word first ∙ begins) inside);
      longest = longest;
    }
  where
    inside : (k : ℕ) → k < length (take (word_len rest) rest) → is_word_byte (slice_index (take (word_len rest) rest) k) ≡ true
    inside k low =
        let e = length-take (word_len rest) rest in
        ap is_word_byte (front_index rest (word_len rest) k (omega arith)) ∙ prefix_len_passes is_word_byte rest k 0 (omega arith)

    longest : (n : ℕ) (other : TokenKind) → word_len rest < n → n ≤ length rest → IsToken (take n rest) other → ⊥
    longest n other more low is =
        let e = length-take n rest in
        let is_word = only_word (take n rest) other is (ap begins_word (front_first rest n other is) ∙ begins) in
        let passes = sym (ap is_word_byte (front_index rest n (word_len rest) more)) ∙ word_bytes (take n rest) is_word.0 (word_len rest) (omega arith) in
        both_ways _ (prefix_len_stops is_word_byte rest 0 (omega arith)) passes

-- ---- strings

-- A string at the front ends where its quote is found.
string_len : (rest : List ℕ) (n : ℕ) (kind : TokenKind) → slice_index rest 0 ≡ 34 → n ≤ length rest → IsToken (take n rest) kind → string_end 0 false (drop 1 rest) ≡ Some (n - 1)
string_len rest n kind quote low is = go (take n rest) refl (only_string (take n rest) kind is (front_first rest n kind is ∙ quote)).0
  where
    go : (text : List ℕ) → take n rest ≡ text → IsString text → string_end 0 false (drop 1 rest) ≡ Some (n - 1)
    go _ e (quoted inside is) =
        let long = length-take n rest in
        let same = ap length e in
        let parts = length-append inside (34 ∷ []) in
        let whole : rest ≡ 34 ∷ (inside ++ 34 ∷ drop n rest) =
        sym (take-append-drop n rest) ∙ ap (λ (xs : List ℕ). xs ++ drop n rest) e ∙ ap (λ (xs : List ℕ). 34 ∷ xs) (append_assoc inside (34 ∷ []) (drop n rest)) in
        ap (λ (xs : List ℕ). string_end 0 false (drop 1 xs)) whole ∙ string_ends inside (drop n rest) 0 is ∙ ap Some (omega arith)

pub string_front : (rest : List ℕ) (len : ℕ) → slice_index rest 0 ≡ 34 → string_end 0 false (drop 1 rest) ≡ Some len → IsFront rest kinds.Str (1 + len)
string_front [] len quote found = cc
string_front (c ∷ cs) len quote found =
    let closes = string_closes cs 0 false len found in
    let inside = closes.inside in
    let long = ap length closes.split ∙ length-append inside (34 ∷ closes.after) in
    let place = closes.place in
    let parts = length-append inside (34 ∷ []) in
    let split : cs ≡ (inside ++ 34 ∷ []) ++ closes.after = closes.split ∙ sym (append_assoc inside (34 ∷ []) closes.after) in
    let front : take len cs ≡ inside ++ 34 ∷ [] = ap (take len) split ∙ take_at (inside ++ 34 ∷ []) closes.after len (omega arith) in
    let text : take (1 + len) (c ∷ cs) ≡ 34 ∷ (inside ++ 34 ∷ []) =
    ap (λ n. take n (c ∷ cs)) (one-add len) ∙ ap (λ (xs : List ℕ). c ∷ xs) front ∙ ap (λ (x : ℕ). x ∷ (inside ++ 34 ∷ [])) quote in
    record {
      within = omega arith;
      is = string (take (1 + len) (c ∷ cs)) (subst IsString (sym text) (quoted inside closes.is));
      longest = λ n other more low is. let e : Some (n - 1) ≡ Some len = sym (string_len (c ∷ cs) n other quote low is) ∙ found in let f : n - 1 ≡ len = cc in omega arith;
    }

pub no_string : (rest : List ℕ) → slice_index rest 0 ≡ 34 → string_end 0 false (drop 1 rest) ≡ None → HasNoFront rest
no_string rest quote none n kind low is = let e = sym (string_len rest n kind quote low is) ∙ none in cc
