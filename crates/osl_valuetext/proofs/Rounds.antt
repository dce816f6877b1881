-- A text between a first and a last byte.
use Rattle.std.proofs.Common.{◌≡◌, ℕ, suc, ◌+◌, ◌-◌, ◌<◌, List, [], ◌∷◌, ◌++◌, length, get_or, take, drop, sym, ap, ◌∙◌, arith}
use Rattle.std.specs.Prelude.{slice_index}
use Rattle.std.proofs.lemmas.List.{take_all, take_more, take-append-drop, get_or-drop, length-drop}

pub before_last : (last : ℕ) (text : List ℕ) → 0 < length text → slice_index text (length text - 1) ≡ last → text ≡ take (length text - 1) text ++ last ∷ []
before_last last text some at_last =
    let i = length text - 1 in
    sym (take_all (i + 1) text (omega arith)) ∙ take_more text i 0 (omega arith) ∙ ap (λ (n : ℕ). take i text ++ n ∷ []) at_last

pub round : (first last : ℕ) (text : List ℕ) → 1 < length text → slice_index text 0 ≡ first → slice_index text (length text - 1) ≡ last
    → text ≡ first ∷ (take (length text - 2) (drop 1 text) ++ last ∷ [])
round first last [] long at_first at_last = absurd (omega arith)
round first last (x ∷ xs) long at_first at_last =
    let place : suc (length xs - 1) ≡ length (x ∷ xs) - 1 = omega arith in
    let upto : length xs - 1 ≡ length (x ∷ xs) - 2 = omega arith in
    let here : get_or xs (length xs - 1) 0 ≡ last = ap (λ (k : ℕ). get_or (x ∷ xs) k 0) place ∙ at_last in
    ap (λ (n : ℕ). n ∷ xs) at_first ∙ ap (λ (t : List ℕ). first ∷ t) (before_last last xs (omega arith) here ∙ ap (λ (k : ℕ). take k xs ++ last ∷ []) upto)

-- what is between two fronts and the last byte
pub between : (front : List ℕ) (last : ℕ) (text : List ℕ) → length front < length text → take (length front) text ≡ front → slice_index text (length text - 1) ≡ last
    → text ≡ front ++ (take (length text - (length front + 1)) (drop (length front) text) ++ last ∷ [])
between front last text long same at_last =
    let n = length front in
    let rest = drop n text in
    let size : length rest ≡ length text - n = length-drop n text in
    let upto : length rest - 1 ≡ length text - (n + 1) = omega arith in
    let place : n + (length rest - 1) ≡ length text - 1 = omega arith in
    let here : slice_index rest (length rest - 1) ≡ last = get_or-drop n text (length rest - 1) 0 ∙ ap (λ (k : ℕ). get_or text k 0) place ∙ at_last in
    sym (take-append-drop n text) ∙ ap (λ (t : List ℕ). t ++ rest) same
    ∙ ap (λ (t : List ℕ). front ++ t) (before_last last rest (omega arith) here ∙ ap (λ (k : ℕ). take k rest ++ last ∷ []) upto)
