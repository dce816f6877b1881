-- The words of a line: pieces between blanks, where a string in quotes or braces may hold blanks.
use Rattle.std.specs.Prelude.{ℕ, nat_lt, Bool, true, false, ◌&&◌, ◌||◌, ◌==◌, if◌then◌else◌, List, [], ◌∷◌, length, filter}
use Rattle.std.specs.List.{onto_first}
use Rattle.osl_valuetext.specs.declared.place.Place.{Place}
use Rattle.osl_valuetext.specs.declared.place.Place.TheVariants.{Open, Quoted, Escaped, Braced, BracedQuoted, BracedEscaped}
use Rattle.osl_valuetext.specs.Words.{Line}

-- a space or a tab
abbrev pub is_blank : ℕ → Bool
is_blank c = (c == 32) || (c == 9)

abbrev pub is_comma : ℕ → Bool
is_comma c = c == 44

-- the place after a byte: strings begin and end with a quote that no `\` escapes, and braces do not nest
abbrev pub next : Place → ℕ → Place
next Open c = if c == 34 then Quoted else (if c == 123 then Braced else Open)
next Quoted c = if c == 34 then Open else (if c == 92 then Escaped else Quoted)
next Escaped c = Quoted
next Braced c = if c == 34 then BracedQuoted else (if c == 125 then Open else Braced)
next BracedQuoted c = if c == 34 then Braced else (if c == 92 then BracedEscaped else BracedQuoted)
next BracedEscaped c = BracedQuoted

abbrev pub is_open : Place → Bool
is_open Open = true
is_open Quoted = false
is_open Escaped = false
is_open Braced = false
is_open BracedQuoted = false
is_open BracedEscaped = false

-- the pieces between the bytes outside strings and braces that part them, the first byte being at this place
abbrev pub pieces : (ℕ → Bool) → Place → List ℕ → List (List ℕ)
pieces parts place [] = [] ∷ []
pieces parts place (c ∷ cs) = if is_open place && parts c then [] ∷ pieces parts Open cs else onto_first c (pieces parts (next place c) cs)

abbrev pub has_bytes : List ℕ → Bool
has_bytes bytes = nat_lt 0 (length bytes)

-- The words of a line are parted by blanks; one may hold blanks in a string or in braces.
unfoldable pub words : List ℕ → Line
words line = filter has_bytes (pieces is_blank Open line)
