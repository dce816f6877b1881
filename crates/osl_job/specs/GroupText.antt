-- The small forms of group and point texts that are built today.
use Rattle.std.specs.Prelude.{ℕ, Bool, false, ◌&&◌, nat_le, if◌then◌else◌, List, [], ◌∷◌, length, Option, Some, None, codes, bytes_eq}
use Rattle.std.specs.List.{list_all, before_first, after_first}
use Rattle.osl_job.specs.declared.text.TextForm.TheVariants as form
use Rattle.osl_job.specs.declared.group.Group.{Group}
use Rattle.osl_job.specs.Text.{lexemes, begins_word, is_word_byte, is_point}
use Rattle.osl_job.specs.Reader.{Reader, ◌>>=◌, ◌>>◌, pure, word, mark, piece, ended, is_end, rest, sees_word}

-- ---- names

abbrev pub are_word_bytes : List ℕ → Bool
are_word_bytes text = list_all is_word_byte text

-- a letter or `_`, and then letters, digits and `_`
abbrev pub is_word : List ℕ → Bool
is_word [] = false
is_word (c ∷ cs) = begins_word c && are_word_bytes cs

-- a word of at most 255 bytes
abbrev pub name : List ℕ → Option (List ℕ)
name text = if is_word text && nat_le (length text) 255 then Some text else None

-- of LAYER.PARAM the parameter, where this is the layer
abbrev pub asked_of : List ℕ → List ℕ → Option (List ℕ)
asked_of layer pair = if bytes_eq (before_first is_point pair) layer then name (after_first is_point pair) else None

-- ---- the group

abbrev pub semicolon : ℕ
semicolon = 59

-- "shader" SHADER LAYER ";" "output" LAYER.PARAM ";", with the same LAYER twice
abbrev pub group : Reader Group
group = do
  word (codes "shader")
  shader ← piece name
  layer ← piece name
  mark semicolon
  word (codes "output")
  param ← piece (asked_of layer)
  mark semicolon
  pure (record { shader = shader; layer = layer; param = param })

-- the group that a text of the small form spells
abbrev pub small_group : List ℕ → Option Group
small_group text = ended (group (lexemes form.Group text))

-- ---- the points

-- `point` is the only word
abbrev pub is_one_point : List ℕ → Bool
is_one_point text = sees_word (codes "point") (lexemes form.Points text) && is_end (rest (lexemes form.Points text))
