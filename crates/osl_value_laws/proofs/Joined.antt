-- Joined strings and their parts.
use Rattle.std.proofs.Common.{◌≡◌, ℕ, suc, inl, inr, rules, sym, ap, ◌∙◌, arith}
use Rattle.std.proofs.Math.Seq.{take-append_seam, drop-append_seam, take-length}
use Rattle.std.proofs.lemmas.Bool.Decides.{leb_tells}
use Rattle.std.proofs.lemmas.Int.{int_wrap_fits, int_wrap-add_left, int_wrap-add_right}
use Rattle.std.proofs.lemmas.List.{length-append, take_all}
use Rattle.std.specs.Prelude.{◌≤◌, ◌<◌, ◌⊎◌, min, true, false, if◌then◌else◌, int_lt, pos, ◌+ℤ◌, List, ◌++◌, length, take, drop}
use Rattle.std.specs.Int.{w32}
use Rattle.osl_value.specs.Numbers.{wrapped, int_add, count_of}
use Rattle.osl_value.specs.Strings.{concat, strlen, substr, begin_of}
use Rattle.osl_value.specs.Types.{longest_text}
use Rattle.osl_value_laws.specs.Strings.{Fit}

joined : (s t : List ℕ) → Fit s t → concat s t ≡ s ++ t
joined s t fit = take_all longest_text (s ++ t) (let e = length-append s t in omega arith)

pub length_is : (s t : List ℕ) → Fit s t → strlen (concat s t) ≡ int_add (strlen s) (strlen t)
length_is s t fit =
    ap strlen (joined s t fit) ∙ ap (λ n. wrapped (pos n)) (length-append s t)
    ∙ sym (int_wrap-add_left w32 (pos (length s)) (pos (length t)))
    ∙ sym (int_wrap-add_right w32 (wrapped (pos (length s))) (pos (length t)))

small : (n : ℕ) → n ≤ longest_text → wrapped (pos n) ≡ pos n
small n h = int_wrap_fits w32 (pos n) (search (arith, rules))

least_zero : (n : ℕ) → min 0 n ≡ 0
least_zero n = omega arith

pub front_is : (s t : List ℕ) → Fit s t → substr (concat s t) (pos 0) (strlen s) ≡ s
front_is s t fit =
    ap (λ u. substr u (pos 0) (strlen s)) (joined s t fit)
    ∙ ap (λ n. substr (s ++ t) (pos 0) n) (small (length s) (omega arith))
    ∙ ap (λ k. take (length s) (drop k (s ++ t))) (least_zero (length (s ++ t)))
    ∙ take-append_seam s t

not_below : (n : ℕ) → int_lt (pos n) (pos 0) ≡ false
not_below n = told (leb_tells (suc n) 0)
  where
    told : ((int_lt (pos n) (pos 0) ≡ true) × (suc n ≤ 0)) ⊎ ((int_lt (pos n) (pos 0) ≡ false) × (0 < suc n)) → int_lt (pos n) (pos 0) ≡ false
    told (inl (_, h)) = let no : ⊥ = omega arith in absurd no
    told (inr (p, _)) = p

begin_is : (s t : List ℕ) → begin_of (s ++ t) (pos (length s)) ≡ length s
begin_is s t =
    ap (λ b. min (count_of (if b then pos (length s) +ℤ pos (length (s ++ t)) else pos (length s))) (length (s ++ t))) (not_below (length s))
    ∙ (let e = length-append s t in omega arith)

pub rest_is : (s t : List ℕ) → Fit s t → substr (concat s t) (strlen s) (strlen t) ≡ t
rest_is s t fit =
    ap (λ u. substr u (strlen s) (strlen t)) (joined s t fit)
    ∙ ap (λ n. substr (s ++ t) n (strlen t)) (small (length s) (omega arith))
    ∙ ap (λ n. substr (s ++ t) (pos (length s)) n) (small (length t) (omega arith))
    ∙ ap (λ k. take (length t) (drop k (s ++ t))) (begin_is s t)
    ∙ ap (take (length t)) (drop-append_seam s t)
    ∙ take-length t
