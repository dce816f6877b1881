-- Strings: what is written of a byte is read as this byte, and what is read was written.
use Rattle.std.proofs.Common.{◌≡◌, ℕ, ◌+◌, ◌-◌, ◌/◌, ◌%◌, ◌<◌, ◌≤◌, Bool, true, false, ◌&&◌, ◌||◌, ◌==◌, not, cond, nat_lt, List, [], ◌∷◌, ◌++◌, length, take, Option, Some, None, refl, sym, ap, subst, ◌∙◌, ◌⊎◌, inl, inr, ⊎_elim, append_assoc, arith}
use Rattle.std.specs.Prelude.{nat_le, option_map, slice_index}
use Rattle.std.specs.List.{flat_map, AllByRecursion}
use Rattle.std.proofs.lemmas.Bool.{and_parts, and_from, or_cases, or_parts, or_from, ne_eqb, eqb-true, eq-eqb, leb-true, le-leb, le-ltb, ltb-true, ltb-false, lt-ltb, or_left, or_right, cond-true, cond-false, cond_both, not-true}
use Rattle.std.proofs.lemmas.List.{get_or_at, take_at, length-append}
use Rattle.osl_valuetext.specs.Spells.{IsByte}
use Rattle.osl_valuetext.specs.Words.{octal, escape, string_text}
use Rattle.osl_valuetext.specs.declared.escape.Pending.{Pending}
use Rattle.osl_valuetext.specs.declared.escape.Pending.TheVariants.{Nothing, Backslash, OneDigit, TwoDigits}
use Rattle.osl_valuetext.specs.declared.escape.Step.TheVariants.{Waits, Gives}
use Rattle.osl_valuetext.specs.Literals.{is_plain, escaped_byte, is_octal, octal_value, needs_octal, octal_byte, escaped_step, with_byte, goes_on, inside_at, is_quoted, string_at}
use Rattle.osl_valuetext.proofs.Rounds.{round}

abbrev pub AreBytes : List ℕ → Type 0
AreBytes bytes = AllByRecursion IsByte bytes

-- ---- the ways in which a byte is written

-- a digit of an octal number
pub record IsOctal (c : ℕ) : Type 0 where
  pub from : 48 ≤ c
  pub upto : c ≤ 55

-- a byte that stands for itself
pub record StandsPlain (c : ℕ) : Type 0 where
  pub from : 32 ≤ c
  pub upto : c ≤ 126
  pub no_quote : (c == 34) ≡ false
  pub no_backslash : (c == 92) ≡ false

-- the letter after `\` that stands for a byte
pub record IsLetterOf (c letter : ℕ) : Type 0 where
  pub means : escaped_byte letter ≡ Some c
  pub from : 32 ≤ letter
  pub upto : letter ≤ 126

pub record IsOctalOf (c a b e : ℕ) : Type 0 where
  pub first : IsOctal a
  pub second : IsOctal b
  pub third : IsOctal e
  pub means : octal_byte a b e ≡ Some c

quote : IsLetterOf 34 34
quote = record { means = refl; from = omega arith; upto = omega arith }

backslash : IsLetterOf 92 92
backslash = record { means = refl; from = omega arith; upto = omega arith }

line_feed : IsLetterOf 10 110
line_feed = record { means = refl; from = omega arith; upto = omega arith }

tab : IsLetterOf 9 116
tab = record { means = refl; from = omega arith; upto = omega arith }

carriage_return : IsLetterOf 13 114
carriage_return = record { means = refl; from = omega arith; upto = omega arith }

at_same : (c d letter : ℕ) → (c == d) ≡ true → IsLetterOf d letter → IsLetterOf c letter
at_same c d letter h is = subst (λ (n : ℕ). IsLetterOf n letter) (sym (eqb-true c d h)) is

-- three octal digits of a byte
octal_digits : (c : ℕ) → c < 256 → ((c == 34) || (c == 92)) ≡ false → (c == 10) ≡ false → (c == 9) ≡ false → (c == 13) ≡ false
    → (nat_lt c 32 || nat_lt 126 c) ≡ true → IsOctalOf c (48 + c / 64) (48 + c / 8 % 8) (48 + c % 8)
octal_digits c small marks no_feed no_tab no_return outside =
    let a = 48 + c / 64 in
    let b = 48 + c / 8 % 8 in
    let e = 48 + c % 8 in
    let eighths : c / 8 / 8 ≡ c / 64 = omega arith in
    let value : octal_value a b e ≡ c = omega arith in
    let first : IsOctal a = record { from = omega arith; upto = omega arith } in
    let second : IsOctal b = record { from = omega arith; upto = omega arith } in
    let third : IsOctal e = record { from = omega arith; upto = omega arith } in
    let digits : (is_octal a && (is_octal b && is_octal e)) ≡ true =
    and_from _ _ (and_from _ _ (le-leb 48 a (omega arith)) (le-leb a 55 (omega arith)))
    (and_from _ _ (and_from _ _ (le-leb 48 b (omega arith)) (le-leb b 55 (omega arith))) (and_from _ _ (le-leb 48 e (omega arith)) (le-leb e 55 (omega arith)))) in
    let needed : needs_octal c ≡ true = go (nat_lt c 32) (nat_lt 126 c) (nat_lt c 256) outside (lt-ltb c 256 small) in
    let known : needs_octal (octal_value a b e) ≡ true = ap needs_octal value ∙ needed in
    record {
      first = first;
      second = second;
      third = third;
      means = cond-true _ _ _ (and_from _ _ digits known) ∙ ap Some value;
    }
  where
    go : (low high byte : Bool) → (low || high) ≡ true → byte ≡ true → ((low || high && byte) && not ((c == 10) || ((c == 9) || (c == 13)))) ≡ true
    go low high byte h k = and_from _ _ (inner low high byte h k) (ap not (or_from _ _ no_feed (or_from _ _ no_tab no_return)))
      where
        inner : (low high byte : Bool) → (low || high) ≡ true → byte ≡ true → (low || high && byte) ≡ true
        inner true high byte h k = refl
        inner false true byte h k = k
        inner false false byte h k = absurd cc

-- What is so for each way of writing a byte is so for what is written.
pub written : (P : List ℕ → Type 0) (c : ℕ) → IsByte c → ((letter : ℕ) → IsLetterOf c letter → P (92 ∷ letter ∷ []))
    → ((a b e : ℕ) → IsOctalOf c a b e → P (92 ∷ a ∷ b ∷ e ∷ [])) → (StandsPlain c → P (c ∷ [])) → P (escape c)
written P c small letter digits plain =
    cond_both ((c == 34) || (c == 92)) _ _ P (λ marked. letter c (⊎_elim (λ (k : (c == 34) ≡ true). same 34 k quote) (λ (k : (c == 92) ≡ true). same 92 k backslash) (or_cases _ _ marked)))
    (λ unmarked. cond_both (c == 10) _ _ P (λ k. letter 110 (at_same c 10 110 k line_feed))
    (λ no_feed. cond_both (c == 9) _ _ P (λ k. letter 116 (at_same c 9 116 k tab))
    (λ no_tab. cond_both (c == 13) _ _ P (λ k. letter 114 (at_same c 13 114 k carriage_return))
    (λ no_return. cond_both (nat_lt c 32 || nat_lt 126 c) _ _ P (λ outside. digits (48 + c / 64) (48 + c / 8 % 8) (48 + c % 8) (octal_digits c small unmarked no_feed no_tab no_return outside))
    (λ inside. plain (stands unmarked inside))))))
  where
    same : (d : ℕ) → (c == d) ≡ true → IsLetterOf d d → IsLetterOf c c
    same d k is = subst (λ (n : ℕ). IsLetterOf n n) (sym (eqb-true c d k)) is

    stands : ((c == 34) || (c == 92)) ≡ false → (nat_lt c 32 || nat_lt 126 c) ≡ false → StandsPlain c
    stands unmarked inside =
        let marks = or_parts (c == 34) (c == 92) unmarked in
        let sides = or_parts (nat_lt c 32) (nat_lt 126 c) inside in
        record { from = ltb-false c 32 sides.0; upto = ltb-false 126 c sides.1; no_quote = marks.0; no_backslash = marks.1 }

-- ---- what is written is read

octal_is_no_letter : (a : ℕ) → IsOctal a → escaped_byte a ≡ None
octal_is_no_letter a is =
    cond-false _ _ _ (or_from _ _ (ne_eqb a 34 (λ e. absurd (omega (arith, is.from)))) (ne_eqb a 92 (λ e. absurd (omega (arith, is.upto)))))
    ∙ cond-false _ _ _ (ne_eqb a 110 (λ e. absurd (omega (arith, is.upto))))
    ∙ cond-false _ _ _ (ne_eqb a 116 (λ e. absurd (omega (arith, is.upto))))
    ∙ cond-false _ _ _ (ne_eqb a 114 (λ e. absurd (omega (arith, is.upto))))

plain_passes : (c : ℕ) → StandsPlain c → is_plain c ≡ true
plain_passes c is =
    and_from _ _ (and_from _ _ (le-leb 32 c is.from) (le-leb c 126 is.upto)) (ap not (or_from _ _ is.no_quote is.no_backslash))

read_on : (c : ℕ) (rest : List ℕ) → IsByte c → inside_at Nothing (escape c ++ rest) ≡ with_byte c (inside_at Nothing rest)
read_on c rest small =
    written (λ (text : List ℕ). inside_at Nothing (text ++ rest) ≡ with_byte c (inside_at Nothing rest)) c small
    (λ letter is. ap (λ (o : Option ℕ). goes_on (Some (escaped_step letter o)) (λ next. inside_at next rest)) is.means)
    (λ a b e is.
    ap (λ (o : Option ℕ). goes_on (Some (escaped_step a o)) (λ next. inside_at next (b ∷ e ∷ rest))) (octal_is_no_letter a is.first)
    ∙ ap (λ (o : Option ℕ). goes_on (option_map Gives o) (λ next. inside_at next rest)) is.means)
    (λ is.
    ap (λ (b : Bool). goes_on (cond b (Some (Waits Backslash)) (cond (is_plain c) (Some (Gives c)) None)) (λ next. inside_at next rest)) is.no_backslash
    ∙ ap (λ (b : Bool). goes_on (cond b (Some (Gives c)) None) (λ next. inside_at next rest)) (plain_passes c is))

inside_written : (bytes : List ℕ) → AreBytes bytes → inside_at Nothing (flat_map escape bytes) ≡ Some bytes
inside_written [] all = refl
inside_written (c ∷ bytes) all = read_on c (flat_map escape bytes) all.0 ∙ ap (with_byte c) (inside_written bytes all.1)

-- ---- what is read was written

pending_text : Pending → List ℕ
pending_text Nothing = []
pending_text Backslash = 92 ∷ []
pending_text (OneDigit c) = 92 ∷ c ∷ []
pending_text (TwoDigits c d) = 92 ∷ c ∷ d ∷ []

record IsReadOf (p : Pending) (cs bytes : List ℕ) : Type 0 where
  text : pending_text p ++ cs ≡ flat_map escape bytes
  all : AreBytes bytes

abbrev Written : Pending → List ℕ → Type 0
Written p cs = (bytes : List ℕ) → inside_at p cs ≡ Some bytes → IsReadOf p cs bytes

byte_first : (byte : ℕ) (o : Option (List ℕ)) (bytes : List ℕ) → with_byte byte o ≡ Some bytes → (more : List ℕ) × (o ≡ Some more) × (byte ∷ more ≡ bytes)
byte_first byte (Some more) bytes e = (more, refl, cc)
byte_first byte None bytes e = absurd cc

-- a byte that was read, and what is read after it
one_read : (p : Pending) (c byte : ℕ) (cs bytes : List ℕ) → pending_text p ++ c ∷ [] ≡ escape byte → IsByte byte → Written Nothing cs
    → with_byte byte (inside_at Nothing cs) ≡ Some bytes → IsReadOf p (c ∷ cs) bytes
unfolding pending_text
one_read p c byte cs bytes here small rest e =
    let first = byte_first byte (inside_at Nothing cs) bytes e in
    let behind = rest first.0 first.1 in
    let whole : pending_text p ++ c ∷ cs ≡ flat_map escape (byte ∷ first.0) =
    sym (append_assoc (pending_text p) (c ∷ []) cs) ∙ ap (λ (t : List ℕ). t ++ cs) here ∙ ap (λ (t : List ℕ). escape byte ++ t) behind.text in
    let made : IsReadOf p (c ∷ cs) (byte ∷ first.0) = record { text = whole; all = (small, behind.all) } in
    subst (λ (bs : List ℕ). IsReadOf p (c ∷ cs) bs) first.2 made

plain_escape : (c : ℕ) → is_plain c ≡ true → (c ∷ [] ≡ escape c) × IsByte c
plain_escape c h =
    let parts = and_parts (nat_le 32 c && nat_le c 126) (not ((c == 34) || (c == 92))) h in
    let sides = and_parts (nat_le 32 c) (nat_le c 126) parts.0 in
    let low : 32 ≤ c = leb-true 32 c sides.0 in
    let high : c ≤ 126 = leb-true c 126 sides.1 in
    let outside : (nat_lt c 32 || nat_lt 126 c) ≡ false = or_from _ _ (le-ltb c 32 low) (le-ltb 126 c high) in
    let is : escape c ≡ c ∷ [] =
    cond-false _ _ _ (not-true _ parts.1) ∙ cond-false _ _ _ (ne_eqb c 10 (λ e. absurd (omega arith))) ∙ cond-false _ _ _ (ne_eqb c 9 (λ e. absurd (omega arith)))
    ∙ cond-false _ _ _ (ne_eqb c 13 (λ e. absurd (omega arith))) ∙ cond-false _ _ _ outside in
    (sym is, omega arith)

some_is : (x y : ℕ) → ◌≡◌ {A = Option ℕ} (Some x) (Some y) → x ≡ y
some_is x y e = cc

letter_escape : (c byte : ℕ) → escaped_byte c ≡ Some byte → (92 ∷ c ∷ [] ≡ escape byte) × IsByte byte
letter_escape c byte h = one ((c == 34) || (c == 92)) refl h
  where
    lit : (d letter : ℕ) → (c == letter) ≡ true → ◌≡◌ {A = Option ℕ} (Some d) (Some byte) → escape d ≡ 92 ∷ letter ∷ [] → IsByte d → (92 ∷ c ∷ [] ≡ escape byte) × IsByte byte
    lit d letter k e is small =
        let same : d ≡ byte = some_is d byte e in
        (ap (λ (n : ℕ). 92 ∷ n ∷ []) (eqb-true c letter k) ∙ sym is ∙ ap escape same, subst IsByte same small)

    four : (b : Bool) → (c == 114) ≡ b → cond b (Some 13) None ≡ Some byte → (92 ∷ c ∷ [] ≡ escape byte) × IsByte byte
    four true k e = lit 13 114 k e refl (omega arith)
    four false k e = absurd cc

    three : (b : Bool) → (c == 116) ≡ b → cond b (Some 9) (cond (c == 114) (Some 13) None) ≡ Some byte → (92 ∷ c ∷ [] ≡ escape byte) × IsByte byte
    three true k e = lit 9 116 k e refl (omega arith)
    three false k e = four (c == 114) refl e

    two : (b : Bool) → (c == 110) ≡ b → cond b (Some 10) (cond (c == 116) (Some 9) (cond (c == 114) (Some 13) None)) ≡ Some byte → (92 ∷ c ∷ [] ≡ escape byte) × IsByte byte
    two true k e = lit 10 110 k e refl (omega arith)
    two false k e = three (c == 116) refl e

    marked : ((c == 34) || (c == 92)) ≡ true → c < 256
    marked k = ⊎_elim (λ (m : (c == 34) ≡ true). let is : c ≡ 34 = eqb-true c 34 m in omega arith) (λ (m : (c == 92) ≡ true). let is : c ≡ 92 = eqb-true c 92 m in omega arith) (or_cases _ _ k)

    one : (b : Bool) → ((c == 34) || (c == 92)) ≡ b → cond b (Some c) (cond (c == 110) (Some 10) (cond (c == 116) (Some 9) (cond (c == 114) (Some 13) None))) ≡ Some byte
        → (92 ∷ c ∷ [] ≡ escape byte) × IsByte byte
    one true k e =
        let same : c ≡ byte = some_is c byte e in
        (sym (cond-true _ _ _ k) ∙ ap escape same, subst IsByte same (marked k))
    one false k e = two (c == 110) refl e

octal_bounds : (c : ℕ) → is_octal c ≡ true → IsOctal c
octal_bounds c h = let parts = and_parts (nat_le 48 c) (nat_le c 55) h in record { from = leb-true 48 c parts.0; upto = leb-true c 55 parts.1 }

octal_is : (a b e : ℕ) → IsOctal a → IsOctal b → IsOctal e → octal (octal_value a b e) ≡ a ∷ b ∷ e ∷ []
octal_is a b e x y z =
    let v = octal_value a b e in
    let first : 48 + v / 64 ≡ a = omega (arith, x.from, x.upto, y.from, y.upto, z.from, z.upto) in
    let second : 48 + v / 8 % 8 ≡ b = omega (arith, x.from, x.upto, y.from, y.upto, z.from, z.upto) in
    let third : 48 + v % 8 ≡ e = omega (arith, x.from, x.upto, y.from, y.upto, z.from, z.upto) in
    cc

needed_escape : (v : ℕ) → needs_octal v ≡ true → (escape v ≡ 92 ∷ octal v) × IsByte v
needed_escape v h =
    let parts = and_parts (nat_lt v 32 || nat_lt 126 v && nat_lt v 256) (not ((v == 10) || ((v == 9) || (v == 13)))) h in
    let none = or_parts (v == 10) ((v == 9) || (v == 13)) (not-true _ parts.1) in
    let others = or_parts (v == 9) (v == 13) none.1 in
    let outside : (v < 32) ⊎ ((126 < v) × (v < 256)) =
    ⊎_elim (λ (k : nat_lt v 32 ≡ true). inl (ltb-true v 32 k))
    (λ (k : (nat_lt 126 v && nat_lt v 256) ≡ true). let both = and_parts (nat_lt 126 v) (nat_lt v 256) k in inr (ltb-true 126 v both.0, ltb-true v 256 both.1)) (or_cases _ _ parts.0) in
    let small : v < 256 = ⊎_elim (λ (k : v < 32). omega arith) (λ (k : (126 < v) × (v < 256)). k.1) outside in
    let tests : (nat_lt v 32 || nat_lt 126 v) ≡ true = ⊎_elim (λ (k : v < 32). or_left _ _ (lt-ltb v 32 k)) (λ (k : (126 < v) × (v < 256)). or_right _ _ (lt-ltb 126 v k.0)) outside in
    let unmarked : ((v == 34) || (v == 92)) ≡ false =
    ⊎_elim (λ (k : v < 32). or_from _ _ (ne_eqb v 34 (λ e. absurd (omega arith))) (ne_eqb v 92 (λ e. absurd (omega arith))))
    (λ (k : (126 < v) × (v < 256)). or_from _ _ (ne_eqb v 34 (λ e. absurd (omega arith))) (ne_eqb v 92 (λ e. absurd (omega arith)))) outside in
    (cond-false _ _ _ unmarked ∙ cond-false _ _ _ none.0 ∙ cond-false _ _ _ others.0 ∙ cond-false _ _ _ others.1 ∙ cond-true _ _ _ tests, small)

octal_escape : (a b e byte : ℕ) → octal_byte a b e ≡ Some byte → (92 ∷ a ∷ b ∷ e ∷ [] ≡ escape byte) × IsByte byte
octal_escape a b e byte h = go ((is_octal a && (is_octal b && is_octal e)) && needs_octal (octal_value a b e)) refl h
  where
    go : (t : Bool) → ((is_octal a && (is_octal b && is_octal e)) && needs_octal (octal_value a b e)) ≡ t → cond t (Some (octal_value a b e)) None ≡ Some byte
        → (92 ∷ a ∷ b ∷ e ∷ [] ≡ escape byte) × IsByte byte
    go true k eq =
        let parts = and_parts (is_octal a && (is_octal b && is_octal e)) (needs_octal (octal_value a b e)) k in
        let digits = and_parts (is_octal a) (is_octal b && is_octal e) parts.0 in
        let more = and_parts (is_octal b) (is_octal e) digits.1 in
        let same : octal_value a b e ≡ byte = some_is (octal_value a b e) byte eq in
        let is = needed_escape (octal_value a b e) parts.1 in
        (ap (λ (t : List ℕ). 92 ∷ t) (sym (octal_is a b e (octal_bounds a digits.0) (octal_bounds b more.0) (octal_bounds e more.1))) ∙ sym is.0 ∙ ap escape same, subst IsByte same is.1)
    go false k eq = absurd cc

at_nothing : (c : ℕ) (cs : List ℕ) → Written Backslash cs → Written Nothing cs → Written Nothing (c ∷ cs)
unfolding pending_text
at_nothing c cs more rest bytes e = go (c == 92) (is_plain c) refl refl e
  where
    go : (b p : Bool) → (c == 92) ≡ b → is_plain c ≡ p → goes_on (cond b (Some (Waits Backslash)) (cond p (Some (Gives c)) None)) (λ next. inside_at next cs) ≡ Some bytes
        → IsReadOf Nothing (c ∷ cs) bytes
    go true p k l eq = let read = more bytes eq in record { text = ap (λ (n : ℕ). n ∷ cs) (eqb-true c 92 k) ∙ read.text; all = read.all }
    go false true k l eq = let is = plain_escape c l in one_read Nothing c c cs bytes is.0 is.1 rest eq
    go false false k l eq = absurd cc

at_backslash : (c : ℕ) (cs : List ℕ) → Written (OneDigit c) cs → Written Nothing cs → Written Backslash (c ∷ cs)
unfolding pending_text
at_backslash c cs more rest bytes e = go (escaped_byte c) refl e
  where
    go : (o : Option ℕ) → escaped_byte c ≡ o → goes_on (Some (escaped_step c o)) (λ next. inside_at next cs) ≡ Some bytes → IsReadOf Backslash (c ∷ cs) bytes
    go (Some byte) k eq = let is = letter_escape c byte k in one_read Backslash c byte cs bytes is.0 is.1 rest eq
    go None k eq = let read = more bytes eq in record { text = read.text; all = read.all }

at_two : (a b e : ℕ) (cs : List ℕ) → Written Nothing cs → Written (TwoDigits a b) (e ∷ cs)
unfolding pending_text
at_two a b e cs rest bytes h = go (octal_byte a b e) refl h
  where
    go : (o : Option ℕ) → octal_byte a b e ≡ o → goes_on (option_map Gives o) (λ next. inside_at next cs) ≡ Some bytes → IsReadOf (TwoDigits a b) (e ∷ cs) bytes
    go (Some byte) k eq = let is = octal_escape a b e byte k in one_read (TwoDigits a b) e byte cs bytes is.0 is.1 rest eq
    go None k eq = absurd cc

nothing_read : (bytes : List ℕ) → ◌≡◌ {A = Option (List ℕ)} (Some []) (Some bytes) → IsReadOf Nothing [] bytes
unfolding pending_text
nothing_read [] e = record { text = refl; all = tt }
nothing_read (c ∷ bytes) e = absurd cc

read_was_written : (p : Pending) (cs : List ℕ) → Written p cs
unfolding pending_text
read_was_written Nothing [] = nothing_read
read_was_written Backslash [] = λ bytes e. absurd cc
read_was_written (OneDigit c) [] = λ bytes e. absurd cc
read_was_written (TwoDigits c d) [] = λ bytes e. absurd cc
read_was_written Nothing (c ∷ cs) = at_nothing c cs (read_was_written Backslash cs) (read_was_written Nothing cs)
read_was_written Backslash (c ∷ cs) = at_backslash c cs (read_was_written (OneDigit c) cs) (read_was_written Nothing cs)
read_was_written (OneDigit c) (d ∷ cs) = λ bytes e. let read = read_was_written (TwoDigits c d) cs bytes e in record { text = read.text; all = read.all }
read_was_written (TwoDigits c d) (e ∷ cs) = at_two c d e cs (read_was_written Nothing cs)

-- ---- in quotes

in_quotes : (inner : List ℕ) → string_at (34 ∷ (inner ++ 34 ∷ [])) ≡ inside_at Nothing inner
unfolding string_at
in_quotes inner =
    let word = 34 ∷ (inner ++ 34 ∷ []) in
    let long : length word ≡ length inner + 2 = omega (arith, length-append inner (34 ∷ [])) in
    let last : slice_index word (length word - 1) ≡ 34 = get_or_at (34 ∷ inner) 34 [] 0 (length word - 1) (omega arith) in
    let quoted : is_quoted word ≡ true = and_from _ _ (le-leb 2 (length word) (omega arith)) (eq-eqb _ 34 last) in
    cond-true _ _ _ quoted ∙ ap (inside_at Nothing) (take_at inner (34 ∷ []) (length word - 2) (omega arith))

pub string_written : (bytes : List ℕ) → AreBytes bytes → string_at (string_text bytes) ≡ Some bytes
string_written bytes all = in_quotes (flat_map escape bytes) ∙ inside_written bytes all

pub string_read : (word bytes : List ℕ) → string_at word ≡ Some bytes → (word ≡ string_text bytes) × AreBytes bytes
unfolding string_at pending_text
string_read [] bytes e = absurd cc
string_read (x ∷ xs) bytes e = go (is_quoted (x ∷ xs)) refl e
  where
    go : (b : Bool) → is_quoted (x ∷ xs) ≡ b → cond b (inside_at Nothing (take (length (x ∷ xs) - 2) xs)) None ≡ Some bytes → (x ∷ xs ≡ string_text bytes) × AreBytes bytes
    go true k eq =
        let parts = and_parts (nat_le 2 (length (x ∷ xs))) ((x == 34) && (slice_index (x ∷ xs) (length (x ∷ xs) - 1) == 34)) k in
        let ends = and_parts (x == 34) (slice_index (x ∷ xs) (length (x ∷ xs) - 1) == 34) parts.1 in
        let long : 2 ≤ length (x ∷ xs) = leb-true 2 (length (x ∷ xs)) parts.0 in
        let read = read_was_written Nothing (take (length (x ∷ xs) - 2) xs) bytes eq in
        (round 34 34 (x ∷ xs) (omega arith) (eqb-true x 34 ends.0) (eqb-true _ 34 ends.1) ∙ ap (λ (t : List ℕ). 34 ∷ (t ++ 34 ∷ [])) read.text, read.all)
    go false k eq = absurd cc
