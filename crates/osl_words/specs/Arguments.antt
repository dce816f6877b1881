-- The arguments of a command, and what the words give them, in clap's own terms.
use Rattle.std.specs.Prelude.{ℕ, List, codes, Option, None, Some, Bool, true, false, if◌then◌else◌, option_and_then, fold, length, ◌==◌}
use Rattle.std.specs.Option.{option_map_or}
use Rattle.std.specs.Str.{bytes_eq}
use Rattle.std.specs.Str.Parse.{digits_value, without_leading_plus}
use Rattle.clap.specs.ValueTests.{is_unsigned_in}
use Rattle.clap.specs.Words.{App, Row, Rule, Text, first_of, fault_of, matches_of, new_app, new_rule, with_rule}
use Rattle.clap.specs.Simple.{on_top}
use Rattle.clap.specs.declared.builder.ArgAction.TheVariants.{Set, SetTrue}

infixl 10 ◌>>=◌
abbrev pub ◌>>=◌ : {A B : Type 0} → Option A → (A → Option B) → Option B
o >>= f = option_and_then f o

-- `ID`, which must be there
abbrev pub required : Text → Rule
required id = record (new_rule id) { required = true; action = Some Set }

-- `[--ID VALUE]`
abbrev pub option : Text → Rule
option id = record (new_rule id) { long = Some id; action = Some Set }

-- `[--ID]`
abbrev pub flag : Text → Rule
flag id = record (new_rule id) { long = Some id; action = Some SetTrue }

-- a command with these arguments and no help flag
abbrev pub command_with : Text → List Rule → App
command_with name arguments =
    fold with_rule (on_top (λ top. record top { disable_help_flag = true }) (new_app name)) arguments

-- what the words give the arguments, or nothing where clap refuses them
unfoldable pub matched : App → List Text → Option (List Row)
matched app words = if length (fault_of app words) == 0 then Some (matches_of app words) else None

-- the value of an argument
abbrev pub given : Text → List Row → Option Text
given = first_of

abbrev pub is_set : Text → List Row → Bool
is_set id rows = option_map_or (bytes_eq (codes "true")) (given id rows) false

-- the number that a text writes, as clap reads a number from `least` to `most`
abbrev pub number_in : ℕ → ℕ → Text → Option ℕ
number_in least most text =
    if is_unsigned_in least most text then Some (digits_value 10 (without_leading_plus text)) else None

-- that number, or the default where none is given
abbrev pub number_or : ℕ → ℕ → ℕ → Option Text → Option ℕ
number_or default least most None = Some default
number_or default least most (Some text) = number_in least most text
