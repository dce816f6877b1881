-- Words whose first names no command.
use Rattle.std.proofs.Common.{◌≡◌, ◌≢◌, ap, ℕ, List, [], ◌∷◌, map, false, Some, None, refl, String, Global}
use Rattle.std.specs.Prelude.{find, slice_get, string_bytes}
use Rattle.std.specs.Str.{bytes_eq}
use Rattle.std.proofs.lemmas.Bool.{false_from_ne_true}
use Rattle.std.proofs.lemmas.Slice.Eq.{bytes_eq-Decides}
use Rattle.osl_words.specs.Arguments.{◌>>=◌}
use Rattle.osl_words.specs.Usage.{Usage, asked}
use Rattle.osl_words.specs.Words.{commands, job_of}

differs : (name other : List ℕ) → name ≢ other → bytes_eq name other ≡ false
differs name other n = false_from_ne_true (bytes_eq name other) (λ e. n ((bytes_eq-Decides name other).0 e))

-- none of the usages has this name
abbrev pub NoneHas : List ℕ → List Usage → Type 0
NoneHas name [] = Unit
NoneHas name (usage ∷ usages) = (name ≢ usage.name) × NoneHas name usages

none_found : (name : List ℕ) (usages : List Usage) → NoneHas name usages → find (λ usage. bytes_eq name usage.name) usages ≡ None
none_found name [] h = refl
none_found name (usage ∷ usages) h = rw (differs name usage.name h.0) (none_found name usages h.1)

pub job_of-no_command : (name : List ℕ) (words : List (List ℕ)) → NoneHas name commands → job_of (name ∷ words) ≡ None
job_of-no_command name words h = ap (λ found. found >>= (λ usage. asked usage (name ∷ words))) (none_found name commands h)

-- the words of a list whose first is told
pub words_from : (words : List (String Global)) (name : String Global) → slice_get words 0 ≡ Some name
    → (rest : List (List ℕ)) × (map string_bytes words ≡ string_bytes name ∷ rest)
words_from [] name h = absurd (cc)
words_from (x ∷ xs) name h = let e : x ≡ name = cc in (map string_bytes xs, ap (λ y. string_bytes y ∷ map string_bytes xs) e)
