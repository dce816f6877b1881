-- The five files of the demonstration of a size, and what is seen of a file.
use Rattle.std.specs.Prelude.{ℕ, ◌+◌, ◌*◌, ◌%◌, List, [], ◌∷◌, map, slice_index_or, codes}
use Rattle.osl_demo.specs.Draws.{after}
use Rattle.osl_demo.specs.Texts.{generator_text, top_text, group_text, points_text, edits_text}

pub record File : Type 0 where
  pub name : List ℕ
  pub text : List ℕ

abbrev pub file : List ℕ → List ℕ → File
file name text = record { name = name; text = text }

abbrev pub name_at : List File → ℕ → List ℕ
name_at files i = slice_index_or (map (λ f. f.name) files) i []

abbrev pub text_at : List File → ℕ → List ℕ
text_at files i = slice_index_or (map (λ f. f.text) files) i []

-- The files of these texts, under their names and in the order in which they are made.
abbrev pub files_of : List ℕ → List ℕ → List ℕ → List File
files_of group points edits =
    file (codes "gen.osl") generator_text ∷ file (codes "top.osl") top_text ∷ file (codes "g") group ∷ file (codes "p") points ∷ file (codes "e") edits ∷ []

-- the number of the group's last generated layer, counted from 0
abbrev pub last_layer : ℕ → ℕ
last_layer n = 3 + n % 12

-- The draws start at the size, and each file goes on where the one before it stopped.
unfoldable pub demo : ℕ → List File
demo n =
    let last = last_layer n in
    let x = after last n in
    let y = after (2 * (32 * n)) x in
    files_of (group_text n last) (points_text x (32 * n)) (edits_text (last + 1) y (4 * n))
