-- The operations on strings (OSL specification, "String functions"). A string is seen here as the list of its bytes, an int as itself.
use Rattle.std.specs.Prelude.{ℕ, min, nat_eq, not, ℤ, pos, negsuc, ◌+ℤ◌, int_lt, if◌then◌else◌, List, ◌++◌, length, take, drop, slice_index}
use Rattle.std.specs.List.{starts_with, ends_with}
use Rattle.std.specs.Str.{bytes_eq}
use Rattle.osl_value.specs.Numbers.{wrapped, truth, count_of}
use Rattle.osl_value.specs.Types.{longest_text}

abbrev pub eq_strings : List ℕ → List ℕ → ℤ
eq_strings s t = truth (bytes_eq s t)

abbrev pub neq_strings : List ℕ → List ℕ → ℤ
neq_strings s t = truth (not (bytes_eq s t))

-- joined, and cut to the first 512 bytes
abbrev pub concat : List ℕ → List ℕ → List ℕ
concat s t = take longest_text (s ++ t)

-- the number of bytes
abbrev pub strlen : List ℕ → ℤ
strlen s = wrapped (pos (length s))

abbrev pub startswith : List ℕ → List ℕ → ℤ
startswith s t = truth (starts_with nat_eq s t)

abbrev pub endswith : List ℕ → List ℕ → ℤ
endswith s t = truth (ends_with nat_eq s t)

-- where a part of a string begins: a start below 0 counts from the string's end, and then it is moved into the string
abbrev pub begin_of : List ℕ → ℤ → ℕ
begin_of s start =
    let from = if int_lt start (pos 0) then start +ℤ pos (length s) else start in
    min (count_of from) (length s)

-- at most so many bytes from there on, and none for a count below 0
abbrev pub substr : List ℕ → ℤ → ℤ → List ℕ
substr s start count = take (count_of count) (drop (begin_of s start) s)

-- the byte at a place, and 0 where the string has no such place
abbrev pub getchar : List ℕ → ℤ → ℤ
getchar s (pos i) = wrapped (pos (slice_index s i))
getchar s (negsuc i) = pos 0
