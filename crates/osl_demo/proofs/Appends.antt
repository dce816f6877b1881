-- What one more text does to texts that come one after another, and what two more draws do to the state.
use Rattle.std.proofs.Common.{◌≡◌, ℕ, ◌+◌, ◌*◌, List, ◌++◌, suc, pos, codes, ap, sym, ◌∙◌, append_assoc, add-one, arith}
use Rattle.osl_decimal.specs.Canonical.{int_text}
use Rattle.osl_demo.specs.Draws.{next, after, drawn}
use Rattle.osl_demo.specs.Texts.{line_end, fraction, edit_line, joined}

-- a text appended after the first k
pub added : (k : ℕ) (part : ℕ → List ℕ) (before text now : List ℕ) → now ≡ before ++ text → before ≡ joined k part → text ≡ part k → now ≡ joined (k + 1) part
added k part before text now appended so_far is =
    appended ∙ ap (λ b. b ++ text) so_far ∙ ap (λ t. joined k part ++ t) is ∙ sym (ap (λ m. joined m part) (add-one k))

after-two : (k x : ℕ) → after (2 * (k + 1)) x ≡ next (next (after (2 * k) x))
after-two k x = let e : 2 * (k + 1) ≡ suc (suc (2 * k)) = omega arith in ap (λ m. after m x) e

-- two draws made after 2k
pub two_more : (k x s t : ℕ) → s ≡ after (2 * k) x → t ≡ next (next s) → t ≡ after (2 * (k + 1)) x
two_more k x s t so_far drawn_twice = drawn_twice ∙ ap (λ m. next (next m)) so_far ∙ sym (after-two k x)

regrouped : (o a b c : List ℕ) → o ++ a ++ b ++ c ≡ o ++ (a ++ b ++ c)
regrouped o a b c = simp append_assoc

three : (o a b c p q r : List ℕ) → p ≡ o ++ a → q ≡ p ++ b → r ≡ q ++ c → r ≡ o ++ (a ++ b ++ c)
three o a b c p q r first second third =
    third ∙ ap (λ t. t ++ c) (second ∙ ap (λ t. t ++ b) first) ∙ regrouped o a b c

-- an edit written piece by piece: the layer j is drawn in the state x, and the value t in the state y
pub edit_written : (layers x y j t : ℕ) (o p q r : List ℕ) → j ≡ drawn x layers → y ≡ next x → t ≡ drawn y 1000 → p ≡ o ++ (codes "edit 0 float g" ++ int_text (pos j) ++ codes ".b ") → q ≡ p ++ fraction t → r ≡ q ++ line_end → r ≡ o ++ edit_line layers x
unfolding edit_line
edit_written layers x y j t o p q r layer state value first second third =
    three o (codes "edit 0 float g" ++ int_text (pos j) ++ codes ".b ") (fraction t) line_end p q r first second third
    ∙ ap (λ k. o ++ (codes "edit 0 float g" ++ int_text (pos k) ++ codes ".b " ++ fraction t ++ line_end)) layer
    ∙ ap (λ v. o ++ (codes "edit 0 float g" ++ int_text (pos (drawn x layers)) ++ codes ".b " ++ fraction v ++ line_end)) (value ∙ ap (λ s. drawn s 1000) state)
