-- How a text is cut, from its front on.
use Rattle.std.proofs.Common.{◌≡◌, ◌≢◌, ◌⊎◌, inl, inr, ⊎_elim, Some, None, min, max, ℕ, zero, suc, ◌+◌, ◌<◌, ◌≤◌, List, [], ◌∷◌, ◌-◌, length, take, drop, get_or, Bool, true, false, cond, not, refl, ap, sym, ◌∙◌, arith, add-one}
use Rattle.std.specs.Prelude.{◌==◌, slice_get}
use Rattle.std.proofs.Math.Seq.{drop-cons, drop-nil}
use Rattle.std.proofs.lemmas.Bool.Decides.{eqb_tells}
use Rattle.std.proofs.lemmas.List.{take_all, drop_all, length-drop}
use Rattle.osl_job.specs.declared.text.TextForm.{TextForm}
use Rattle.osl_job.specs.declared.text.Class.{Class}
use Rattle.osl_job.specs.declared.text.Class.TheVariants.{Blank, Comment, Joined, Alone}
use Rattle.osl_job.specs.Text.{Piece, Mark, class_of, is_joined, is_comment, joins, longer, placed, cut, lexemes, begins_lexeme, begins, one_longer, joined_len}
use Rattle.osl_job.specs.Reader.{piece_of, mark_of, rest, is_end}

-- ---- one byte

pub cut_inside : (form : TextForm) (c : ℕ) (cs : List ℕ) → cut form true (c ∷ cs) ≡ cut form (not (c == 10)) cs
unfolding cut
cut_inside form c cs = refl

pub cut_byte : (form : TextForm) (c : ℕ) (cs : List ℕ) → cut form false (c ∷ cs) ≡ placed (class_of form c cs) c (joins form cs) (cut form (is_comment (class_of form c cs)) cs)
unfolding cut
cut_byte form c cs = refl

pub cut_none : (form : TextForm) (inside : Bool) → cut form inside [] ≡ []
unfolding cut
cut_none form true = refl
cut_none form false = refl

cut_class : (form : TextForm) (c : ℕ) (cs : List ℕ) (k : Class) → class_of form c cs ≡ k → cut form false (c ∷ cs) ≡ placed k c (joins form cs) (cut form (is_comment k) cs)
cut_class form c cs k e = cut_byte form c cs ∙ ap (λ (x : Class). placed x c (joins form cs) (cut form (is_comment x) cs)) e

joined_len_class : (form : TextForm) (c : ℕ) (cs : List ℕ) (k : Class) → class_of form c cs ≡ k → joined_len form (c ∷ cs) ≡ one_longer k (joined_len form cs)
unfolding joined_len
joined_len_class form c cs k e = ap (λ (x : Class). one_longer x (joined_len form cs)) e

-- ---- the byte at a place

-- what stands behind the byte there
abbrev pub behind : List ℕ → ℕ → List ℕ
behind text at = take (length text - (at + 1)) (drop (at + 1) text)

behind-drop : (text : List ℕ) (at : ℕ) → behind text at ≡ drop (at + 1) text
behind-drop text at = take_all (length text - (at + 1)) (drop (at + 1) text) (omega (arith, length-drop (at + 1) text))

front : (text : List ℕ) (at : ℕ) (byte : ℕ) → at < length text → byte ≡ get_or text at 0 → drop at text ≡ byte ∷ drop (at + 1) text
front text at byte h e = rw add-one (drop-cons text at 0 h ∙ ap (λ x. x ∷ drop (suc at) text) (sym e))

class_at : (form : TextForm) (text : List ℕ) (at byte : ℕ) (k : Class) → class_of form byte (behind text at) ≡ k → class_of form byte (drop (at + 1) text) ≡ k
class_at form text at byte k e = ap (class_of form byte) (sym (behind-drop text at)) ∙ e

pub past_inside : (form : TextForm) (text : List ℕ) (at byte : ℕ) → at < length text → byte ≡ get_or text at 0 → cut form true (drop at text) ≡ cut form (not (byte == 10)) (drop (at + 1) text)
past_inside form text at byte h e = ap (cut form true) (front text at byte h e) ∙ cut_inside form byte (drop (at + 1) text)

pub past_blank : (form : TextForm) (text : List ℕ) (at byte : ℕ) → at < length text → byte ≡ get_or text at 0 → class_of form byte (behind text at) ≡ Blank
    → cut form false (drop at text) ≡ cut form false (drop (at + 1) text)
past_blank form text at byte h e k = ap (cut form false) (front text at byte h e) ∙ cut_class form byte (drop (at + 1) text) Blank (class_at form text at byte Blank k)

pub past_comment : (form : TextForm) (text : List ℕ) (at byte : ℕ) → at < length text → byte ≡ get_or text at 0 → class_of form byte (behind text at) ≡ Comment
    → cut form false (drop at text) ≡ cut form true (drop (at + 1) text)
past_comment form text at byte h e k = ap (cut form false) (front text at byte h e) ∙ cut_class form byte (drop (at + 1) text) Comment (class_at form text at byte Comment k)

pub begins_at : (form : TextForm) (text : List ℕ) (at byte : ℕ) → at < length text → byte ≡ get_or text at 0 → begins_lexeme (class_of form byte (behind text at)) ≡ true
    → begins form (drop at text) ≡ true
begins_at form text at byte h e k = ap (begins form) (front text at byte h e) ∙ ap begins_lexeme (class_at form text at byte _ refl) ∙ k

none_joined : (k : Class) (n : ℕ) → is_joined k ≡ false → one_longer k n ≡ 0
none_joined Blank n e = refl
none_joined Comment n e = refl
none_joined Joined n e = cc
none_joined Alone n e = refl

is_joined_class : (k : Class) → is_joined k ≡ true → k ≡ Joined
is_joined_class Blank e = cc
is_joined_class Comment e = cc
is_joined_class Joined e = refl
is_joined_class Alone e = cc

pub apart_at : (form : TextForm) (text : List ℕ) (at byte : ℕ) → at < length text → byte ≡ get_or text at 0 → is_joined (class_of form byte (behind text at)) ≡ false
    → joined_len form (drop at text) ≡ 0
apart_at form text at byte h e k =
    ap (joined_len form) (front text at byte h e) ∙ joined_len_class form byte (drop (at + 1) text) (class_of form byte (behind text at)) (class_at form text at byte _ refl)
    ∙ none_joined (class_of form byte (behind text at)) (joined_len form (drop (at + 1) text)) k

pub goes_on_at : (form : TextForm) (text : List ℕ) (at byte : ℕ) → at < length text → byte ≡ get_or text at 0 → is_joined (class_of form byte (behind text at)) ≡ true
    → joined_len form (drop at text) ≡ suc (joined_len form (drop (at + 1) text))
goes_on_at form text at byte h e k =
    ap (joined_len form) (front text at byte h e) ∙ joined_len_class form byte (drop (at + 1) text) Joined (class_at form text at byte Joined (is_joined_class _ k))

pub joined_len_none : (form : TextForm) → joined_len form [] ≡ 0
unfolding joined_len
joined_len_none form = refl

-- ---- the first piece or mark

joins_some : (form : TextForm) (cs : List ℕ) → joins form cs ≡ true → 0 < joined_len form cs
joins_some form [] e = cc
joins_some form (c ∷ cs) e = rw (joined_len_class form c cs Joined (is_joined_class _ e)) (omega arith)

joins_none : (form : TextForm) (cs : List ℕ) → joins form cs ≡ false → joined_len form cs ≡ 0
joins_none form [] e = joined_len_none form
joins_none form (c ∷ cs) e = joined_len_class form c cs (class_of form c cs) refl ∙ none_joined (class_of form c cs) (joined_len form cs) e

no_length : (k : Class) (n : ℕ) → 0 < one_longer k n → k ≡ Joined
no_length Blank n h = absurd (omega arith)
no_length Comment n h = absurd (omega arith)
no_length Joined n h = refl
no_length Alone n h = absurd (omega arith)

first_class : (form : TextForm) (c : ℕ) (cs : List ℕ) → 0 < joined_len form (c ∷ cs) → class_of form c cs ≡ Joined
first_class form c cs h = no_length (class_of form c cs) (joined_len form cs) (rw (← joined_len_class form c cs (class_of form c cs) refl) h)

-- a piece is what stands together in front
pub cut_piece : (form : TextForm) (text : List ℕ) → 0 < joined_len form text
    → lexemes form text ≡ Piece (take (joined_len form text) text) ∷ lexemes form (drop (joined_len form text) text)
cut_piece form [] h = absurd (omega (arith, joined_len_none form))
cut_piece form (c ∷ cs) h =
    let is : class_of form c cs ≡ Joined = first_class form c cs h in
    let len : joined_len form (c ∷ cs) ≡ suc (joined_len form cs) = joined_len_class form c cs Joined is in
    let P : Bool → Type 0 = λ b. joins form cs ≡ b → cond b (longer c (lexemes form cs)) (Piece (c ∷ []) ∷ lexemes form cs) ≡ Piece (c ∷ take (joined_len form cs) cs) ∷ lexemes form (drop (joined_len form cs) cs) in
    let here : P (joins form cs) = elim (joins form cs) as P [
      | true ↦ λ e. ap (longer c) (cut_piece form cs (joins_some form cs e))
      | false ↦ λ e. let n : joined_len form cs ≡ 0 = joins_none form cs e in rw n refl
    ] in
    cut_class form c cs Joined is ∙ here refl ∙ ap (λ n. Piece (take n (c ∷ cs)) ∷ lexemes form (drop n (c ∷ cs))) (sym len)

begins_mark : (k : Class) (n : ℕ) → begins_lexeme k ≡ true → one_longer k n ≡ 0 → k ≡ Alone
begins_mark Blank n b e = cc
begins_mark Comment n b e = cc
begins_mark Joined n b e = absurd (omega arith)
begins_mark Alone n b e = refl

-- a mark stands in front, where no piece does
pub cut_mark : (form : TextForm) (c : ℕ) (cs : List ℕ) → begins form (c ∷ cs) ≡ true → joined_len form (c ∷ cs) ≡ 0 → lexemes form (c ∷ cs) ≡ Mark c ∷ lexemes form cs
cut_mark form c cs b e =
    cut_class form c cs Alone (begins_mark (class_of form c cs) (joined_len form cs) b (sym (joined_len_class form c cs (class_of form c cs) refl) ∙ e))

-- ---- what a text begins with, as its reader sees it

no_text : (form : TextForm) → lexemes form [] ≡ []
no_text form = cut_none form false

-- either nothing is left, or a mark stands in front, or a piece does
pub data Front (form : TextForm) (text : List ℕ) : Type 0 where
  nothing : text ≡ [] → joined_len form text ≡ 0 → lexemes form text ≡ [] → Front form text
  mark : (c : ℕ) (cs : List ℕ) → text ≡ c ∷ cs → joined_len form text ≡ 0 → lexemes form text ≡ Mark c ∷ lexemes form cs → Front form text
  piece : 0 < joined_len form text → text ≢ [] → lexemes form text ≡ Piece (take (joined_len form text) text) ∷ lexemes form (drop (joined_len form text) text) → Front form text

pub front_of : (form : TextForm) (text : List ℕ) → begins form text ≡ true → Front form text
front_of form [] b = nothing refl (joined_len_none form) (no_text form)
front_of form (c ∷ cs) b =
    ⊎_elim
    (λ (none : joined_len form (c ∷ cs) ≡ 0). mark c cs refl none (cut_mark form c cs b none))
    (λ (some : 0 < joined_len form (c ∷ cs)). piece some (λ e. cc) (cut_piece form (c ∷ cs) some))
    (zero_or (joined_len form (c ∷ cs)))
  where
    zero_or : (n : ℕ) → (n ≡ 0) ⊎ (0 < n)
    zero_or zero = inl refl
    zero_or (suc n) = inr (omega arith)

length_more : (c : ℕ) (cs : List ℕ) → (length (c ∷ cs) == 0) ≡ false
length_more c cs = ⊎_elim (λ (y : _). absurd (omega (arith, y.1))) (λ (y : _). y.0) (eqb_tells (suc (length cs)) 0)

length_some : (xs : List ℕ) → xs ≢ [] → (length xs == 0) ≡ false
length_some [] n = absurd (n refl)
length_some (x ∷ xs) n = length_more x xs

pub end_of : (form : TextForm) (text : List ℕ) → begins form text ≡ true → is_end (lexemes form text) ≡ (length text == 0)
end_of form text b = elim (front_of form text b) [
  | nothing e n l ↦ rw (l, e) refl
  | mark c cs e n l ↦ rw (l, e) (sym (length_more c cs))
  | piece n e l ↦ rw l (sym (length_some text e))
]

pub piece_none : (form : TextForm) (text : List ℕ) → begins form text ≡ true → joined_len form text ≡ 0 → piece_of (lexemes form text) ≡ None
piece_none form text b z = elim (front_of form text b) [
  | nothing e n l ↦ rw l refl
  | mark c cs e n l ↦ rw l refl
  | piece n e l ↦ absurd (omega arith)
]

pub piece_some : (form : TextForm) (text : List ℕ) → begins form text ≡ true → joined_len form text ≢ 0 → piece_of (lexemes form text) ≡ Some (take (joined_len form text) text)
piece_some form text b z = elim (front_of form text b) [
  | nothing e n l ↦ absurd (z n)
  | mark c cs e n l ↦ absurd (z n)
  | piece n e l ↦ rw l refl
]

pub mark_none : (form : TextForm) (text : List ℕ) → begins form text ≡ true → joined_len form text ≢ 0 → mark_of (lexemes form text) ≡ None
mark_none form text b z = elim (front_of form text b) [
  | nothing e n l ↦ absurd (z n)
  | mark c cs e n l ↦ absurd (z n)
  | piece n e l ↦ rw l refl
]

pub mark_some : (form : TextForm) (text : List ℕ) → begins form text ≡ true → joined_len form text ≡ 0 → mark_of (lexemes form text) ≡ slice_get text 0
mark_some form text b z = elim (front_of form text b) [
  | nothing e n l ↦ rw (l, e) refl
  | mark c cs e n l ↦ rw (l, e) refl
  | piece n e l ↦ absurd (omega arith)
]

pub rest_some : (form : TextForm) (text : List ℕ) (count : ℕ) → begins form text ≡ true → joined_len form text ≤ length text → count ≡ min (max (joined_len form text) 1) (length text)
    → rest (lexemes form text) ≡ lexemes form (drop count text)
rest_some form text count b w e = elim (front_of form text b) [
  | nothing t n l ↦ rw (l, t) (sym (ap (lexemes form) (drop-nil count) ∙ no_text form))
  | mark c cs t n l ↦ let one : count ≡ 1 = omega (arith, e, n, ap length t) in rw (l, one, t) refl
  | piece n t l ↦ let is : count ≡ joined_len form text = omega arith in rw (l, is) refl
]

-- nothing is left behind the end
pub none_left : (form : TextForm) (inside : Bool) (text : List ℕ) (at : ℕ) → length text ≤ at → cut form inside (drop at text) ≡ lexemes form []
none_left form inside text at h = ap (cut form inside) (drop_all at text h) ∙ cut_none form inside ∙ sym (cut_none form false)

pub behind_is : (text : List ℕ) (n : ℕ) → take (length text - n) (drop n text) ≡ drop n text
behind_is text n = take_all (length text - n) (drop n text) (omega (arith, length-drop n text))
