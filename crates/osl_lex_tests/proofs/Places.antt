-- Which `#` is a directive's, and where comments begin and end, as places of whole sources.
use Rattle.std.proofs.Common.{◌≡◌, ℕ, zero, suc, refl, sym, ap, arith, true≢false}
use Rattle.std.specs.Prelude.{◌+◌, ◌<◌, ◌≤◌, nat_eq, true, false, List, [], ◌∷◌, codes, slice_get, unwrap_or, Some}
use Rattle.osl_tree.specs.declared.token.LexKind.TheVariants as faults
use Rattle.osl_tree.specs.Lexical.{passes, is_blank, BeginsLine, IsFault, IsLineComment, IsBlockComment, directive}

-- ---- first on its line, but for blanks

at_the_start : BeginsLine (codes "#x") 0
at_the_start = record { line = 0; order = omega arith; begins = λ below. absurd (let no : ⊥ = omega arith in no); blank = λ k h b. absurd (let no : ⊥ = omega arith in no) }

-- after a space, a tab, a carriage return and a form feed
abbrev blanks : List ℕ
blanks = 32 ∷ 9 ∷ 13 ∷ 12 ∷ 35 ∷ []

after_blanks : BeginsLine blanks 4
after_blanks = record { line = 0; order = omega arith; begins = λ below. absurd (let no : ⊥ = omega arith in no); blank = each }
  where
    each : (k : ℕ) → 0 ≤ k → k < 4 → passes is_blank (slice_get blanks k) ≡ true
    each zero h b = refl
    each (suc zero) h b = refl
    each (suc (suc zero)) h b = refl
    each (suc (suc (suc zero))) h b = refl
    each (suc (suc (suc (suc k)))) h b = absurd (let no : ⊥ = omega arith in no)

-- after a line feed, and one blank more
abbrev two_lines : List ℕ
two_lines = 97 ∷ 10 ∷ 32 ∷ 35 ∷ []

on_the_second_line : BeginsLine two_lines 3
on_the_second_line = record { line = 2; order = omega arith; begins = λ below. (1, refl, refl); blank = each }
  where
    each : (k : ℕ) → 2 ≤ k → k < 3 → passes is_blank (slice_get two_lines k) ≡ true
    each zero h b = absurd (let no : ⊥ = omega arith in no)
    each (suc zero) h b = absurd (let no : ⊥ = omega arith in no)
    each (suc (suc zero)) h b = refl
    each (suc (suc (suc k))) h b = absurd (let no : ⊥ = omega arith in no)

a_directive : IsFault two_lines 3 faults.Directive
a_directive = directive refl on_the_second_line

-- ---- not first on its line: after a letter, after a comment, after a carriage return alone

-- after a letter
abbrev after_a_letter_source : List ℕ
after_a_letter_source = 97 ∷ 35 ∷ []

after_a_letter : BeginsLine after_a_letter_source 1 → ⊥
after_a_letter l = from l.line l.order l.begins l.blank
  where
    feed : (line : ℕ) → 0 < line → line ≤ 1 → (k : ℕ) × (k + 1 ≡ line) × (slice_get after_a_letter_source k ≡ Some 10) → ⊥
    feed line below order (zero, sum, is) = let no : ◌≡◌ {A = ℕ} 97 10 = ap (λ o. unwrap_or o 0) is in omega arith
    feed line below order ((suc k), sum, is) = omega arith

    from : (line : ℕ) → line ≤ 1 → (0 < line → (k : ℕ) × (k + 1 ≡ line) × (slice_get after_a_letter_source k ≡ Some 10))
        → ((k : ℕ) → line ≤ k → k < 1 → passes is_blank (slice_get after_a_letter_source k) ≡ true) → ⊥
    from zero order begins blank = true≢false (sym (blank 0 (omega arith) (omega arith)))
    from (suc line) order begins blank = feed (suc line) (omega arith) order (begins (omega arith))

-- after a comment
abbrev after_a_comment_source : List ℕ
after_a_comment_source = codes "/**/#"

after_a_comment : BeginsLine after_a_comment_source 4 → ⊥
after_a_comment l = from l.line l.order l.begins l.blank
  where
    feed : (line : ℕ) → 0 < line → line ≤ 4 → (k : ℕ) × (k + 1 ≡ line) × (slice_get after_a_comment_source k ≡ Some 10) → ⊥
    feed line below order (zero, sum, is) = let no : ◌≡◌ {A = ℕ} 47 10 = ap (λ o. unwrap_or o 0) is in omega arith
    feed line below order ((suc zero), sum, is) = let no : ◌≡◌ {A = ℕ} 42 10 = ap (λ o. unwrap_or o 0) is in omega arith
    feed line below order ((suc (suc zero)), sum, is) = let no : ◌≡◌ {A = ℕ} 42 10 = ap (λ o. unwrap_or o 0) is in omega arith
    feed line below order ((suc (suc (suc zero))), sum, is) = let no : ◌≡◌ {A = ℕ} 47 10 = ap (λ o. unwrap_or o 0) is in omega arith
    feed line below order ((suc (suc (suc (suc k)))), sum, is) = omega arith

    from : (line : ℕ) → line ≤ 4 → (0 < line → (k : ℕ) × (k + 1 ≡ line) × (slice_get after_a_comment_source k ≡ Some 10))
        → ((k : ℕ) → line ≤ k → k < 4 → passes is_blank (slice_get after_a_comment_source k) ≡ true) → ⊥
    from zero order begins blank = true≢false (sym (blank 0 (omega arith) (omega arith)))
    from (suc line) order begins blank = feed (suc line) (omega arith) order (begins (omega arith))

-- after a carriage return alone
abbrev after_a_return_source : List ℕ
after_a_return_source = 97 ∷ 13 ∷ 35 ∷ []

after_a_return : BeginsLine after_a_return_source 2 → ⊥
after_a_return l = from l.line l.order l.begins l.blank
  where
    feed : (line : ℕ) → 0 < line → line ≤ 2 → (k : ℕ) × (k + 1 ≡ line) × (slice_get after_a_return_source k ≡ Some 10) → ⊥
    feed line below order (zero, sum, is) = let no : ◌≡◌ {A = ℕ} 97 10 = ap (λ o. unwrap_or o 0) is in omega arith
    feed line below order ((suc zero), sum, is) = let no : ◌≡◌ {A = ℕ} 13 10 = ap (λ o. unwrap_or o 0) is in omega arith
    feed line below order ((suc (suc k)), sum, is) = omega arith

    from : (line : ℕ) → line ≤ 2 → (0 < line → (k : ℕ) × (k + 1 ≡ line) × (slice_get after_a_return_source k ≡ Some 10))
        → ((k : ℕ) → line ≤ k → k < 2 → passes is_blank (slice_get after_a_return_source k) ≡ true) → ⊥
    from zero order begins blank = true≢false (sym (blank 0 (omega arith) (omega arith)))
    from (suc line) order begins blank = feed (suc line) (omega arith) order (begins (omega arith))

-- ---- comments

empty_block : IsBlockComment (codes "/**/") 0 4
empty_block = record { opens = refl; order = omega arith; closes = (2, refl, refl); first = λ k h b. absurd (let no : ⊥ = omega arith in no) }

-- `/*/` does not close
not_closed : (to : ℕ) → to ≤ 3 → IsBlockComment (codes "/*/") 0 to → ⊥
not_closed to within c = let h = c.order in omega arith

-- a line comment ends before its line feed, or where the source ends
abbrev commented : List ℕ
commented = 47 ∷ 47 ∷ 97 ∷ 10 ∷ 98 ∷ []

one_line : IsLineComment commented 0 3
one_line = record { opens = refl; order = omega arith; within = omega arith; one_line = each; ends = λ h. refl }
  where
    each : (k : ℕ) → 0 ≤ k → k < 3 → passes (nat_eq 10) (slice_get commented k) ≡ false
    each zero h b = refl
    each (suc zero) h b = refl
    each (suc (suc zero)) h b = refl
    each (suc (suc (suc k))) h b = absurd (let no : ⊥ = omega arith in no)
