-- Words whose bytes mean nothing to a reader of words: names, numbers, types.
use Rattle.std.proofs.Common.{◌≡◌, ℕ, suc, ◌/◌, ◌%◌, ◌^◌, ◌<◌, ◌≤◌, Bool, true, false, ◌&&◌, ◌||◌, ◌==◌, cond, List, [], ◌∷◌, ◌++◌, length, ℤ, pos, negsuc, Option, Some, None, refl, sym, ap, subst, ◌∙◌, ◌⊎◌, inl, inr, ⊎_elim, arith, rules, tests}
use Rattle.std.specs.Prelude.{nat_le, FitsSigned}
use Rattle.std.specs.Char.{is_ascii_digit, is_ascii_alphanumeric}
use Rattle.std.specs.Fmt.{decimal}
use Rattle.std.specs.Int.{w32, is_in_range}
use Rattle.std.specs.List.{list_all, AllByRecursion}
use Rattle.std.proofs.lemmas.Bool.{and_parts, and_from, or_cases, or_from, ne_eqb, eqb-true, leb-true, le-leb}
use Rattle.osl_value.specs.Numbers.{scale, fmax, IsInRange}
use Rattle.osl_decimal.specs.Canonical.{places, fraction_text, magnitude_text, fx_text, int_text}
use Rattle.osl_decimal.specs.Decimal.{are_digits}
use Rattle.osl_decimal.proofs.RoundTrip.{digit_bounds, digits-places, digits-decimal}
use Rattle.oso_code.specs.Names.{is_name, begins_name, continues_name, is_joiner, longest_name}
use Rattle.osl_valuetext.specs.declared.place.Place.{Place}
use Rattle.osl_valuetext.specs.declared.place.Place.TheVariants.{Open, Quoted, Braced, BracedQuoted}
use Rattle.osl_valuetext.specs.Splitting.{next, is_open, is_blank, is_comma}
use Rattle.osl_valuetext.proofs.Runs.{run, Holds}

-- a byte of printed text
abbrev pub is_printed : ℕ → Bool
is_printed c = nat_le 32 c && nat_le c 126

-- a byte of printed text that parts nothing and begins and ends nothing
pub record IsDull (c : ℕ) : Type 0 where
  pub printed : is_printed c ≡ true
  pub no_blank : is_blank c ≡ false
  pub no_comma : is_comma c ≡ false
  pub no_quote : (c == 34) ≡ false
  pub opens_none : (c == 123) ≡ false
  pub closes_none : (c == 125) ≡ false
  pub no_hint : (c == 37) ≡ false
  pub no_comment : (c == 35) ≡ false

pub dull_between : (c : ℕ) → 45 ≤ c → c ≤ 122 → IsDull c
dull_between c low high =
    record {
      printed = and_from _ _ (le-leb 32 c (omega arith)) (le-leb c 126 (omega arith));
      no_blank = or_from _ _ (ne_eqb c 32 (λ e. absurd (omega arith))) (ne_eqb c 9 (λ e. absurd (omega arith)));
      no_comma = ne_eqb c 44 (λ e. absurd (omega arith));
      no_quote = ne_eqb c 34 (λ e. absurd (omega arith));
      opens_none = ne_eqb c 123 (λ e. absurd (omega arith));
      closes_none = ne_eqb c 125 (λ e. absurd (omega arith));
      no_hint = ne_eqb c 37 (λ e. absurd (omega arith));
      no_comment = ne_eqb c 35 (λ e. absurd (omega arith));
    }

dollar : IsDull 36
dollar = record { printed = refl; no_blank = refl; no_comma = refl; no_quote = refl; opens_none = refl; closes_none = refl; no_hint = refl; no_comment = refl }

abbrev pub AllDull : List ℕ → Type 0
AllDull word = AllByRecursion IsDull word

pub dull_both : (xs ys : List ℕ) → AllDull xs → AllDull ys → AllDull (xs ++ ys)
dull_both [] ys h k = k
dull_both (x ∷ xs) ys h k = (h.0, dull_both xs ys h.1 k)

-- ---- what they do to a reader

pub run_dull : (test : ℕ → Bool) → ((c : ℕ) → IsDull c → test c ≡ false) → (word : List ℕ) → AllDull word → Holds test word
run_dull test none [] all = refl
run_dull test none (c ∷ cs) all =
    let stays : next Open c ≡ Open = ap (λ (b : Bool). cond b Quoted (cond (c == 123) Braced Open)) all.0.no_quote ∙ ap (λ (b : Bool). cond b Braced Open) all.0.opens_none in
    ap (λ (b : Bool). cond b None (run test (next Open c) cs)) (none c all.0)
    ∙ ap (λ (p : Place). run test p cs) stays ∙ run_dull test none cs all.1

-- the place after bytes that do not leave braces
abbrev pub within : Place → List ℕ → Option Place
within place [] = Some place
within place (c ∷ cs) = cond (is_open (next place c)) None (within (next place c) cs)

pub within-append : (p q : Place) (xs ys : List ℕ) → within p xs ≡ Some q → within p (xs ++ ys) ≡ within q ys
within-append p q [] ys h = let same : p ≡ q = cc in ap (λ (r : Place). within r ys) same
within-append p q (c ∷ cs) ys h = go (is_open (next p c)) (within-append (next p c) q cs ys) h
  where
    go : (b : Bool) → (within (next p c) cs ≡ Some q → within (next p c) (cs ++ ys) ≡ within q ys)
        → cond b None (within (next p c) cs) ≡ Some q → cond b None (within (next p c) (cs ++ ys)) ≡ within q ys
    go true more e = absurd cc
    go false more e = more e

pub within_dull : (word : List ℕ) → AllDull word → within Braced word ≡ Some Braced
within_dull [] all = refl
within_dull (c ∷ cs) all =
    let stays : next Braced c ≡ Braced = ap (λ (b : Bool). cond b BracedQuoted (cond (c == 125) Open Braced)) all.0.no_quote ∙ ap (λ (b : Bool). cond b Open Braced) all.0.closes_none in
    ap (λ (p : Place). cond (is_open p) None (within p cs)) stays ∙ within_dull cs all.1

pub printed_dull : (word : List ℕ) → AllDull word → list_all is_printed word ≡ true
printed_dull [] all = refl
printed_dull (c ∷ cs) all = and_from _ _ all.0.printed (printed_dull cs all.1)

-- ---- which words they are

between : (lo hi c : ℕ) → 45 ≤ lo → hi ≤ 122 → (nat_le lo c && nat_le c hi) ≡ true → (45 ≤ c) × (c ≤ 122)
between lo hi c low high h =
    let parts = and_parts (nat_le lo c) (nat_le c hi) h in
    let from : lo ≤ c = leb-true lo c parts.0 in
    let upto : c ≤ hi = leb-true c hi parts.1 in
    (omega arith, omega arith)

abbrev IsNameByte : ℕ → Type 0
IsNameByte c = ((45 ≤ c) × (c ≤ 122)) ⊎ (c ≡ 36)

alphanumeric : (c : ℕ) → is_ascii_alphanumeric c ≡ true → IsNameByte c
alphanumeric c h =
    ⊎_elim
    (λ (k : (is_in_range 48 57 c || is_in_range 65 90 c) ≡ true).
    ⊎_elim (λ (d : is_in_range 48 57 c ≡ true). inl (between 48 57 c (omega arith) (omega arith) d))
    (λ (d : is_in_range 65 90 c ≡ true). inl (between 65 90 c (omega arith) (omega arith) d)) (or_cases _ _ k))
    (λ (k : is_in_range 97 122 c ≡ true). inl (between 97 122 c (omega arith) (omega arith) k)) (or_cases _ _ h)

joiner : (c : ℕ) → is_joiner c ≡ true → IsNameByte c
joiner c h =
    ⊎_elim (λ (k : (c == 95) ≡ true). let e : c ≡ 95 = eqb-true c 95 k in inl (omega arith, omega arith))
    (λ (k : (c == 36) ≡ true). inr (eqb-true c 36 k)) (or_cases _ _ h)

name_byte : (c : ℕ) → continues_name c ≡ true → IsNameByte c
name_byte c h =
    ⊎_elim
    (λ (k : (is_ascii_alphanumeric c || is_joiner c) ≡ true). ⊎_elim (alphanumeric c) (joiner c) (or_cases _ _ k))
    (λ (k : (c == 46) ≡ true). let e : c ≡ 46 = eqb-true c 46 k in inl (omega arith, omega arith)) (or_cases _ _ h)

dull_name_byte : (c : ℕ) → continues_name c ≡ true → IsDull c
dull_name_byte c h = ⊎_elim (λ (r : (45 ≤ c) × (c ≤ 122)). dull_between c r.0 r.1) (λ (e : c ≡ 36). subst (λ (d : ℕ). IsDull d) (sym e) dollar) (name_byte c h)

dull_name_bytes : (cs : List ℕ) → list_all continues_name cs ≡ true → AllDull cs
dull_name_bytes [] h = tt
dull_name_bytes (c ∷ cs) h = let parts = and_parts (continues_name c) (list_all continues_name cs) h in (dull_name_byte c parts.0, dull_name_bytes cs parts.1)

pub begins_continues : (c : ℕ) → begins_name c ≡ true → continues_name c ≡ true
begins_continues c h = go (is_in_range 48 57 c) (is_in_range 65 90 c) (is_in_range 97 122 c) (is_joiner c) (c == 46) h
  where
    go : (d u l j p : Bool) → ((u || l) || j) ≡ true → ((((d || u) || l) || j) || p) ≡ true
    go d u true j p k = search (rules, tests)
    go d true false j p k = search (rules, tests)
    go d false false true p k = search (rules, tests)
    go d false false false p k = absurd cc

pub dull_name : (name : List ℕ) → is_name name ≡ true → AllDull name
dull_name [] h = absurd cc
dull_name (c ∷ cs) h =
    let parts = and_parts (begins_name c && list_all continues_name cs) (nat_le (length (c ∷ cs)) longest_name) h in
    let bytes = and_parts (begins_name c) (list_all continues_name cs) parts.0 in
    (dull_name_byte c (begins_continues c bytes.0), dull_name_bytes cs bytes.1)

pub dull_digits : (ds : List ℕ) → are_digits ds ≡ true → AllDull ds
dull_digits [] h = tt
dull_digits (d ∷ ds) h =
    let parts = and_parts (is_ascii_digit d) (are_digits ds) h in
    let bounds = digit_bounds d parts.0 in
    (dull_between d (omega arith) (omega arith), dull_digits ds parts.1)

-- words that are written out
pub dull_all : (word : List ℕ) → list_all (is_in_range 45 122) word ≡ true → AllDull word
dull_all [] h = tt
dull_all (c ∷ cs) h =
    let parts = and_parts (is_in_range 45 122 c) (list_all (is_in_range 45 122) cs) h in
    let bounds = between 45 122 c (omega arith) (omega arith) parts.0 in
    (dull_between c bounds.0 bounds.1, dull_all cs parts.1)

pub dull_decimal : (n : ℕ) → n < 2 ^ 64 → AllDull (decimal n)
dull_decimal n small = dull_digits (decimal n) (digits-decimal n small)

pub dull_int : (n : ℤ) → FitsSigned w32 n → AllDull (int_text n)
dull_int (pos n) fits = dull_digits (decimal n) (digits-decimal n (omega arith))
dull_int (negsuc n) fits = (dull_between 45 (omega arith) (omega arith), dull_digits (decimal (suc n)) (digits-decimal (suc n) (omega arith)))

dull_fraction : (fraction : ℕ) → fraction < 10 ^ 9 → AllDull (fraction_text fraction)
unfolding fraction_text
dull_fraction fraction small = go (fraction == 0)
  where
    go : (b : Bool) → AllDull (cond b [] (46 ∷ places 9 fraction))
    go true = tt
    go false = (dull_between 46 (omega arith) (omega arith), dull_digits (places 9 fraction) (digits-places 9 fraction small))

dull_magnitude : (units : ℕ) → units ≤ fmax → AllDull (magnitude_text units)
unfolding magnitude_text
dull_magnitude units small =
    dull_both (decimal (units / scale)) (fraction_text (units % scale)) (dull_digits (decimal (units / scale)) (digits-decimal (units / scale) (omega arith))) (dull_fraction (units % scale) (omega arith))

pub dull_fx : (x : ℤ) → IsInRange x → AllDull (fx_text x)
dull_fx (pos n) fits = dull_magnitude n (omega arith)
dull_fx (negsuc n) fits = (dull_between 45 (omega arith) (omega arith), dull_magnitude (suc n) (omega arith))
