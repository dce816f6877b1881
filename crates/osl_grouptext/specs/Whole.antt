-- Words and marks that are one piece between blanks.
use Rattle.std.specs.Prelude.{◌≡◌, ℕ, true, ◌&&◌, if◌then◌else◌, List, [], ◌∷◌, Option, None, Some}
use Rattle.osl_valuetext.specs.declared.place.Place.{Place}
use Rattle.osl_valuetext.specs.declared.place.Place.TheVariants.{Open}
use Rattle.osl_valuetext.specs.Splitting.{next, is_open}
use Rattle.osl_grouptext.specs.Pieces.{is_word, ends_word}

-- the place after bytes none of which ends a word
abbrev pub passes : Place → List ℕ → Option Place
passes place [] = Some place
passes place (c ∷ cs) = if is_open place && ends_word c cs then None else passes (next place c) cs

-- no byte of it ends a word, strings that it begins it ends, and it is neither blank nor comment
pub record IsWhole (word : List ℕ) : Type 0 where
  pub passes_it : passes Open word ≡ Some Open
  pub is_one : is_word word ≡ true
