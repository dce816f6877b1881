-- What a line says: its words without hints, and its data. A hint is `%`, a name and braces, and hints stand at a line's end.
use Rattle.std.specs.Prelude.{codes, ℕ, Bool, false, not, ◌&&◌, ◌==◌, if◌then◌else◌, List, [], ◌∷◌, ◌++◌, length, take, drop, filter, take_while, Option, Some, None, option_map, slice_index}
use Rattle.std.specs.List.{list_all, prefix_len}
use Rattle.std.specs.Str.{bytes_eq}
use Rattle.oso_code.specs.Names.{is_name, continues_name}
use Rattle.osl_valuetext.specs.Words.{Line}
use Rattle.osl_valuetext.specs.declared.place.Place.{Place}
use Rattle.osl_valuetext.specs.declared.place.Place.TheVariants.{Braced}
use Rattle.osl_valuetext.specs.Splitting.{next, is_open}

abbrev pub begins_hint : List ℕ → Bool
begins_hint word = slice_index word 0 == 37

-- what is after the `%`, as far as a name goes
abbrev pub hint_name : List ℕ → List ℕ
hint_name word = take_while continues_name (drop 1 word)

-- The first `}` outside strings, after a byte at this place, is the last byte.
abbrev pub closes : Place → List ℕ → Bool
closes place [] = false
closes place (c ∷ cs) = if is_open (next place c) then length cs == 0 else closes (next place c) cs

abbrev pub is_braced : List ℕ → Bool
is_braced [] = false
is_braced (c ∷ cs) = (c == 123) && closes Braced cs

-- `%`, a name, and braces
unfoldable pub is_hint : List ℕ → Bool
is_hint word = begins_hint word && (is_name (hint_name word) && is_braced (drop (length (hint_name word)) (drop 1 word)))

-- a datum: the hint named `meta`
abbrev pub is_datum : List ℕ → Bool
is_datum word = bytes_eq (hint_name word) (codes "meta")

pub record Saying : Type 0 where
  pub words : Line
  pub metadata : Line

-- how many words stand before the first hint
abbrev pub word_count : Line → ℕ
word_count line = prefix_len (λ word. not (begins_hint word)) line

-- what a line says; none where a word stands after a hint, or a hint is not of its form
unfoldable pub saying : Line → Option Saying
saying line =
    if list_all is_hint (drop (word_count line) line)
    then Some (record { words = take (word_count line) line; metadata = filter is_datum (drop (word_count line) line) })
    else None

-- the same as one list
abbrev pub said : Line → Option Line
said line = option_map (λ s. s.words ++ s.metadata) (saying line)
