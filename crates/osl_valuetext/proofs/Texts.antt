-- Words, as a writer appends them.
use Rattle.std.proofs.Common.{◌≡◌, ℕ, ◌+◌, ◌<◌, List, [], ◌∷◌, ◌++◌, length, get_or, take, map, sym, ap, ◌∙◌, append_assoc}
use Rattle.std.proofs.lemmas.List.{take_more, map-append, flat_map_more}
use Rattle.osl_valuetext.specs.Words.{behind}

-- one more word after its mark
pub words_more : {X : Type 0} (mark : ℕ) (f : X → List ℕ) (xs : List X) (i : ℕ) (d : X) (out before marked after : List ℕ) → i < length xs
    → before ≡ out ++ behind mark (map f (take i xs)) → marked ≡ before ++ mark ∷ [] → after ≡ marked ++ f (get_or xs i d)
    → after ≡ out ++ behind mark (map f (take (i + 1) xs))
words_more mark f xs i d out before marked after below was push told =
    let word = f (get_or xs i d) in
    let grown : map f (take (i + 1) xs) ≡ map f (take i xs) ++ word ∷ [] = ap (map f) (take_more xs i d below) ∙ map-append f (take i xs) (get_or xs i d ∷ []) in
    let joined : (before ++ mark ∷ []) ++ word ≡ before ++ mark ∷ word = append_assoc before (mark ∷ []) word in
    told ∙ ap (λ (t : List ℕ). t ++ word) push ∙ joined ∙ ap (λ (t : List ℕ). t ++ mark ∷ word) was
    ∙ flat_map_more (λ w. mark ∷ w) out (map f (take i xs)) word ∙ ap (λ (ws : List (List ℕ)). out ++ behind mark ws) (sym grown)
