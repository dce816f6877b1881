-- What words mean: numbers, strings and values.
use Rattle.std.specs.Prelude.{ℕ, ◌+◌, ◌-◌, ◌*◌, ◌^◌, nat_lt, nat_le, Bool, not, ◌&&◌, ◌||◌, ◌==◌, if◌then◌else◌, List, [], ◌∷◌, length, take, drop, ℤ, Option, Some, None, option_and_then, option_map, slice_index}
use Rattle.std.specs.Fmt.{decimal}
use Rattle.std.specs.Str.{bytes_eq}
use Rattle.std.specs.Str.Parse.{digits_value}
use Rattle.osl_decimal.specs.Decimal.{is_numeral, int_of, fx_of}
use Rattle.osl_decimal.specs.Canonical.{int_text, fx_text}
use Rattle.osl_value.specs.declared.types.Base.{Base}
use Rattle.osl_value.specs.declared.types.Base.TheVariants.{Int, Str, Closure}
use Rattle.osl_value.specs.declared.types.Ty.{Ty}
use Rattle.osl_value.specs.Plain.{Plain}
use Rattle.osl_value.specs.Types.{same_base, number_count, text_count, longest_text, longest_array}
use Rattle.osl_valuetext.specs.declared.number.Spelling.{Spelling}
use Rattle.osl_valuetext.specs.declared.number.Spelling.TheVariants.{Canonical, Free}
use Rattle.osl_valuetext.specs.Words.{Line}
use Rattle.osl_valuetext.specs.declared.escape.Pending.{Pending}
use Rattle.osl_valuetext.specs.declared.escape.Pending.TheVariants.{Nothing, Backslash, OneDigit, TwoDigits}
use Rattle.osl_valuetext.specs.declared.escape.Step.{Step}
use Rattle.osl_valuetext.specs.declared.escape.Step.TheVariants.{Waits, Gives}

infixl 10 ◌>>=◌
abbrev pub ◌>>=◌ : {A B : Type 0} → Option A → (A → Option B) → Option B
o >>= f = option_and_then f o

-- what a function gives of each element, if it gives something of each
abbrev pub each : {X Y : Type 0} → (X → Option Y) → List X → Option (List Y)
each f [] = Some []
each f (x ∷ xs) = f x >>= λ y. each f xs >>= λ ys. Some (y ∷ ys)

-- ---- numbers

abbrev pub spelled : {X : Type 0} → (X → List ℕ) → List ℕ → X → Option X
spelled text word x = if bytes_eq word (text x) then Some x else None

-- the int, and the float's units, of which this is the canonical text
unfoldable pub int_at : List ℕ → Option ℤ
int_at word = int_of word >>= spelled int_text word

unfoldable pub fx_at : List ℕ → Option ℤ
fx_at word = fx_of word >>= spelled fx_text word

-- the number below 2^32 of which this is the text
unfoldable pub decimal_at : List ℕ → Option ℕ
decimal_at word =
    let n = digits_value 10 word in
    if is_numeral word && nat_lt n (2 ^ 32) then spelled decimal word n else None

-- the int, and the float's units, that a word writes
abbrev pub int_word : Spelling → List ℕ → Option ℤ
int_word Canonical word = int_at word
int_word Free word = int_of word

abbrev pub fx_word : Spelling → List ℕ → Option ℤ
fx_word Canonical word = fx_at word
fx_word Free word = fx_of word

-- the number of a type
abbrev pub number_at : Spelling → Base → List ℕ → Option ℤ
number_at spelling base word = if same_base base Int then int_word spelling word else fx_word spelling word

-- ---- strings

-- a byte that stands for itself
abbrev pub is_plain : ℕ → Bool
is_plain c = (nat_le 32 c && nat_le c 126) && not ((c == 34) || (c == 92))

-- the byte that one letter stands for after `\`
abbrev pub escaped_byte : ℕ → Option ℕ
escaped_byte c =
    if (c == 34) || (c == 92) then Some c
    else (if c == 110 then Some 10
    else (if c == 116 then Some 9
    else (if c == 114 then Some 13
    else None)))

abbrev pub is_octal : ℕ → Bool
is_octal c = nat_le 48 c && nat_le c 55

abbrev pub octal_value : ℕ → ℕ → ℕ → ℕ
octal_value c d e = (c - 48) * 64 + (d - 48) * 8 + (e - 48)

-- a byte that octal digits alone stand for
abbrev pub needs_octal : ℕ → Bool
needs_octal n = (nat_lt n 32 || nat_lt 126 n && nat_lt n 256) && not ((n == 10) || ((n == 9) || (n == 13)))

abbrev pub octal_byte : ℕ → ℕ → ℕ → Option ℕ
octal_byte c d e =
    if (is_octal c && (is_octal d && is_octal e)) && needs_octal (octal_value c d e) then Some (octal_value c d e) else None

abbrev pub escaped_step : ℕ → Option ℕ → Step
escaped_step c None = Waits (OneDigit c)
escaped_step c (Some byte) = Gives byte

-- what a byte of a string gives after what is pending
abbrev pub step : Pending → ℕ → Option Step
step Nothing c = if c == 92 then Some (Waits Backslash) else (if is_plain c then Some (Gives c) else None)
step Backslash c = Some (escaped_step c (escaped_byte c))
step (OneDigit c) d = Some (Waits (TwoDigits c d))
step (TwoDigits c d) e = option_map Gives (octal_byte c d e)

abbrev pub with_byte : ℕ → Option (List ℕ) → Option (List ℕ)
with_byte byte bytes = option_map (λ more. byte ∷ more) bytes

abbrev pub goes_on : Option Step → (Pending → Option (List ℕ)) → Option (List ℕ)
goes_on None rest = None
goes_on (Some (Waits pending)) rest = rest pending
goes_on (Some (Gives byte)) rest = with_byte byte (rest Nothing)

abbrev pub ends : Pending → Option (List ℕ)
ends Nothing = Some []
ends Backslash = None
ends (OneDigit c) = None
ends (TwoDigits c d) = None

-- the bytes that the inside of a string stands for, after what is pending
abbrev pub inside_at : Pending → List ℕ → Option (List ℕ)
inside_at pending [] = ends pending
inside_at pending (c ∷ cs) = goes_on (step pending c) (λ next. inside_at next cs)

abbrev pub is_quoted : List ℕ → Bool
is_quoted word = nat_le 2 (length word) && ((slice_index word 0 == 34) && (slice_index word (length word - 1) == 34))

-- the bytes of a string in quotes
unfoldable pub string_at : List ℕ → Option (List ℕ)
string_at word = if is_quoted word then inside_at Nothing (take (length word - 2) (drop 1 word)) else None

abbrev pub is_short : List ℕ → Bool
is_short bytes = nat_le (length bytes) longest_text

-- the same of at most 512 bytes
unfoldable pub text_at : List ℕ → Option (List ℕ)
text_at word = string_at word >>= λ bytes. if is_short bytes then Some bytes else None

-- ---- values

-- a type that has values: no closure, and no array longer than 1,024
abbrev pub is_plain_type : Ty → Bool
is_plain_type ty = nat_le ty.len longest_array && not (same_base ty.base Closure)

pub record Values : Type 0 where
  pub nums : List ℤ
  pub texts : List (List ℕ)

-- so many numbers of a type, or so many strings
unfoldable pub numbers_at : Spelling → Ty → Line → Option Values
numbers_at spelling ty words =
    if length words == number_count ty then option_map (λ nums. record { nums = nums; texts = [] }) (each (number_at spelling ty.base) words) else None

unfoldable pub strings_at : (List ℕ → Option (List ℕ)) → Ty → Line → Option Values
strings_at read ty words = if length words == text_count ty then option_map (λ texts. record { nums = []; texts = texts }) (each read words) else None

-- the numbers or strings of a type, in order, each string read like this
unfoldable pub values_at : Spelling → (List ℕ → Option (List ℕ)) → Ty → Line → Option Values
values_at spelling read ty words = if same_base ty.base Str then strings_at read ty words else numbers_at spelling ty words

abbrev pub value_of : Ty → Values → Plain
value_of ty v = record { ty = ty; nums = v.nums; texts = v.texts }

-- a value of a type that has values, its strings of at most 512 bytes: none where the words are too few or too many, or one of them is not of the type
unfoldable pub value_at : Spelling → Ty → Line → Option Plain
value_at spelling ty words = if is_plain_type ty then option_map (value_of ty) (values_at spelling text_at ty words) else None
