-- What an op's line says, and the line at which a section begins.
use Rattle.std.specs.Prelude.{codes, ℕ, Bool, false, ◌==◌, ◌&&◌, if◌then◌else◌, List, [], ◌∷◌, length, take, drop, Option, Some, None, option_map}
use Rattle.std.specs.List.{prefix_len}
use Rattle.std.specs.Str.{bytes_eq}
use Rattle.oso_code.specs.Names.{is_name}
use Rattle.osl_valuetext.specs.Words.{Line}
use Rattle.oso_read.specs.Hints.{Saying}
use Rattle.osl_valuetext.specs.Literals.{◌>>=◌, each, decimal_at}
use Rattle.oso_read.specs.Text.{only_word}

-- an operation's name, the names of its arguments, and its jumps
pub record OpWords : Type 0 where
  pub name : List ℕ
  pub args : Line
  pub jumps : List ℕ

unfoldable pub op_words : Line → Option OpWords
op_words [] = None
op_words (name ∷ words) =
    let count = prefix_len is_name words in
    if is_name name then option_map (λ jumps. record { name = name; args = take count words; jumps = jumps }) (each decimal_at (drop count words)) else None

-- no metadata stands on these lines
unfoldable pub op_at : Saying → Option OpWords
op_at s = if length s.metadata == 0 then op_words s.words else None

abbrev pub code_words : Line → Option (List ℕ)
code_words [] = None
code_words (code ∷ words) = only_word words >>= λ name. if is_name name then Some name else None

-- the name after `code`
unfoldable pub code_at : Saying → Option (List ℕ)
code_at s = if length s.metadata == 0 then code_words s.words else None

-- nothing stands after `end`
unfoldable pub is_end : Saying → Bool
is_end s = (length s.metadata == 0) && (length s.words == 1)

-- which of the three a line after the symbols is, by its first word
abbrev pub begins_with : List ℕ → Line → Bool
begins_with first [] = false
begins_with first (word ∷ words) = bytes_eq word first

abbrev pub is_code_line : Line → Bool
is_code_line line = begins_with (codes "code") line

abbrev pub is_end_line : Line → Bool
is_end_line line = begins_with (codes "end") line
