-- Names in code: a letter, `_` or `$`, and then letters, digits, `_`, `$` and points, at most 255 bytes (oso text, names).
use Rattle.std.specs.Prelude.{codes, ℕ, nat_le, Bool, false, ◌&&◌, ◌||◌, ◌==◌, List, [], ◌∷◌, length}
use Rattle.std.specs.Char.{is_ascii_alphabetic, is_ascii_alphanumeric}
use Rattle.std.specs.List.{list_all}

abbrev pub longest_name : ℕ
longest_name = 255

-- `_` and `$`
abbrev pub is_joiner : ℕ → Bool
is_joiner c = (c == 95) || (c == 36)

abbrev pub begins_name : ℕ → Bool
begins_name c = is_ascii_alphabetic c || is_joiner c

abbrev pub continues_name : ℕ → Bool
continues_name c = (is_ascii_alphanumeric c || is_joiner c) || (c == 46)

abbrev pub is_name : List ℕ → Bool
is_name [] = false
is_name (c ∷ cs) = (begins_name c && list_all continues_name cs) && nat_le (length (c ∷ cs)) longest_name

-- the name of the section of the body, which no parameter has
abbrev pub main_name : List ℕ
main_name = codes "___main___"
