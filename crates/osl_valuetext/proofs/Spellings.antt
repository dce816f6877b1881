-- A text is the canonical one of at most one number.
use Rattle.std.proofs.Common.{◌≡◌, ℕ, zero, suc, Bool, true, false, ◌&&◌, cond, List, ℤ, Option, Some, None, refl, sym, ap, ◌∙◌, rules, tests}
use Rattle.std.specs.Prelude.{FitsSigned, IfSome, ◌≢◌, nat_le}
use Rattle.std.specs.Int.{w32}
use Rattle.std.specs.Str.{bytes_eq}
use Rattle.std.specs.Str.Parse.{digits_value}
use Rattle.std.proofs.lemmas.Int.{ints}
use Rattle.std.proofs.lemmas.Slice.Eq.{bytes_eq-Decides}
use Rattle.osl_value.specs.Numbers.{IsInRange, fmax}
use Rattle.osl_decimal.specs.Decimal.{is_numeral, is_decimal, has_minus, without_minus, decimal_units, signed, int_limit, int_of, fx_of}
use Rattle.osl_decimal.specs.Canonical.{int_text, fx_text}
use Rattle.osl_decimal.proofs.RoundTrip.{int_of-int_text, fx_of-fx_text}
use Rattle.osl_valuetext.specs.Literals.{◌>>=◌, spelled, int_at, fx_at}

pub spelled_some : {X : Type 0} (text : X → List ℕ) (word : List ℕ) (x : X) → word ≡ text x → spelled text word x ≡ Some x
spelled_some text word x e =
    let same : bytes_eq word (text x) ≡ true = (bytes_eq-Decides word (text x)).1 e in
    ap (λ b. cond b (Some x) None) same

-- no number that is read has this text
spelled_none : {X : Type 0} (text : X → List ℕ) (word : List ℕ) (In : X → Type 0) (read : Option X)
    → IfSome read In → ((x : X) → In x → word ≢ text x) → (read >>= spelled text word) ≡ None
spelled_none text word In None fits none = refl
spelled_none text word In (Some x) fits none = go (bytes_eq word (text x)) refl
  where
    go : (b : Bool) → bytes_eq word (text x) ≡ b → cond b (Some x) None ≡ None
    go true e = absurd (none x fits ((bytes_eq-Decides word (text x)).0 e))
    go false e = refl

-- ---- ints

signed_int : (minus : Bool) (n : ℕ) → nat_le n (int_limit minus) ≡ true → FitsSigned w32 (signed minus n)
signed_int false n h = search (rules, tests, ints)
signed_int true zero h = search (rules, tests, ints)
signed_int true (suc n) h = search (rules, tests, ints)

chosen : {X : Type 0} (P : X → Type 0) (a b : Bool) (x : X) → (b ≡ true → P x) → IfSome (cond (a && b) (Some x) None) P
chosen P false b x h = tt
chosen P true false x h = tt
chosen P true true x h = h refl

pub int_in_range : (word : List ℕ) → IfSome (int_of word) (FitsSigned w32)
unfolding int_of
int_in_range word =
    chosen (FitsSigned w32) (is_numeral (without_minus word)) (nat_le (digits_value 10 (without_minus word)) (int_limit (has_minus word)))
    (signed (has_minus word) (digits_value 10 (without_minus word))) (signed_int (has_minus word) (digits_value 10 (without_minus word)))

pub int_spelled : (word : List ℕ) (n : ℤ) → FitsSigned w32 n → word ≡ int_text n → Some n ≡ int_at word
unfolding int_at
int_spelled word n fits e =
    let read : int_of word ≡ Some n = ap int_of e ∙ int_of-int_text n fits in
    sym (ap (λ (o : Option ℤ). o >>= spelled int_text word) read ∙ spelled_some int_text word n e)

pub no_int_spelled : (word : List ℕ) → ((n : ℤ) → FitsSigned w32 n → word ≢ int_text n) → None ≡ int_at word
unfolding int_at
no_int_spelled word none = sym (spelled_none int_text word (FitsSigned w32) (int_of word) (int_in_range word) none)

-- ---- floats

signed_fx : (minus : Bool) (n : ℕ) → nat_le n fmax ≡ true → IsInRange (signed minus n)
signed_fx false n h = search (rules, tests, ints)
signed_fx true zero h = search (rules, tests, ints)
signed_fx true (suc n) h = search (rules, tests, ints)

pub fx_in_range : (word : List ℕ) → IfSome (fx_of word) IsInRange
unfolding fx_of
fx_in_range word =
    chosen IsInRange (is_decimal (without_minus word)) (nat_le (decimal_units (without_minus word)) fmax)
    (signed (has_minus word) (decimal_units (without_minus word))) (signed_fx (has_minus word) (decimal_units (without_minus word)))

pub fx_spelled : (word : List ℕ) (x : ℤ) → IsInRange x → word ≡ fx_text x → Some x ≡ fx_at word
unfolding fx_at
fx_spelled word x fits e =
    let read : fx_of word ≡ Some x = ap fx_of e ∙ fx_of-fx_text x fits in
    sym (ap (λ (o : Option ℤ). o >>= spelled fx_text word) read ∙ spelled_some fx_text word x e)

pub no_fx_spelled : (word : List ℕ) → ((x : ℤ) → IsInRange x → word ≢ fx_text x) → None ≡ fx_at word
unfolding fx_at
no_fx_spelled word none = sym (spelled_none fx_text word IsInRange (fx_of word) (fx_in_range word) none)
