-- How far a piece at the front of a list of bytes goes, and which pieces are words.
use denote.Ref.{Bor}
use Rattle.std.specs.Prelude.{ℕ, ◌+◌, Bool, true, ◌&&◌, if◌then◌else◌, List, [], ◌∷◌, map}
use Rattle.osl_valuetext.specs.Words.{Line}
use Rattle.osl_valuetext.specs.declared.place.Place.{Place}
use Rattle.osl_valuetext.specs.declared.words.Parting.{Parting}
use Rattle.osl_valuetext.specs.declared.words.Parting.TheVariants.{Blanks, Commas}
use Rattle.osl_valuetext.specs.Splitting.{next, is_open, is_blank, has_bytes, is_comma}

-- the bytes that part
abbrev pub parts : Parting → ℕ → Bool
parts Blanks c = is_blank c
parts Commas c = is_comma c

-- where a piece ends whose bytes begin at `at`, the first at this place
abbrev pub piece_end : (ℕ → Bool) → Place → ℕ → List ℕ → ℕ
piece_end test place at [] = at
piece_end test place at (c ∷ cs) = if is_open place && test c then at else piece_end test (next place c) (at + 1) cs

-- a word has bytes, and a field may be empty
abbrev pub keeps : Parting → List ℕ → Bool
keeps Blanks piece = has_bytes piece
keeps Commas piece = true

-- words as lists of bytes
abbrev pub spoken : List (Bor (List ℕ)) → Line
spoken words = map (λ word. word.now) words
