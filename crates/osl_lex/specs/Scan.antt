-- How far what begins a list of bytes goes, by one walk over the list.
use Rattle.std.specs.Prelude.{ℕ, ◌+◌, Bool, false, not, ◌&&◌, ◌||◌, ◌==◌, if◌then◌else◌, List, [], ◌∷◌, Option, Some, None, slice_index}
use Rattle.std.specs.List.{prefix_len}
use Rattle.std.specs.Char.{is_ascii_digit}
use Rattle.osl_tree.specs.Lexical.{is_word_byte}
use Rattle.osl_decimal.specs.Decimal.{is_point, begins_exponent}

abbrev pub word_len : List ℕ → ℕ
word_len bytes = prefix_len is_word_byte bytes

-- the bytes before the first line feed
abbrev pub line_len : List ℕ → ℕ
line_len bytes = prefix_len (λ c. not (c == 10)) bytes

-- Where a string ends of which these bytes stand at a place: behind the first quote that no `\` escapes, if no line feed comes before. The flag says that the byte before is a `\` that escapes the next.
abbrev pub string_end : ℕ → Bool → List ℕ → Option ℕ
string_end at escaped [] = None
string_end at escaped (c ∷ cs) =
    if c == 10 then None
    else (if escaped then string_end (at + 1) false cs
    else (if c == 34 then Some (at + 1) else string_end (at + 1) (c == 92) cs))

-- Where a comment ends of which these bytes stand at a place: behind the first `*/`. The flag says that the byte before is a `*`.
abbrev pub comment_end : ℕ → Bool → List ℕ → Option ℕ
comment_end at star [] = None
comment_end at star (c ∷ cs) = if star && (c == 47) then Some (at + 1) else comment_end (at + 1) (c == 42) cs

-- whether a number goes on with a byte, behind another
abbrev pub goes_on : Bool → ℕ → ℕ → Bool
goes_on hex before c = is_word_byte c || is_point c || (not hex && begins_exponent before && ((c == 43) || (c == 45)))

-- Where a number stops going on of which these bytes stand at a place.
abbrev pub run_end : Bool → ℕ → ℕ → List ℕ → ℕ
run_end hex at before [] = at
run_end hex at before (c ∷ cs) = if goes_on hex before c then run_end hex (at + 1) c cs else at

-- `0x` or `0X` stands at the front
abbrev pub is_hex : List ℕ → Bool
is_hex bytes = (slice_index bytes 0 == 48) && ((slice_index bytes 1 == 120) || (slice_index bytes 1 == 88))

-- the bytes of a number at the front, as far as it goes on
abbrev pub number_len : List ℕ → ℕ
number_len bytes = run_end (is_hex bytes) 0 0 bytes

-- A number begins with a digit, or with a point and a digit.
abbrev pub begins_number : ℕ → ℕ → Bool
begins_number c d = is_ascii_digit c || (is_point c && is_ascii_digit d)
