-- Which words spell a string, a type, a number or a value.
use Rattle.std.specs.Prelude.{◌≡◌, ◌≢◌, ℕ, ◌<◌, ◌≤◌, nat_lt, Bool, true, false, ◌&&◌, List, [], ◌∷◌, length, ℤ, Some}
use Rattle.std.specs.List.{All, list_all}
use Rattle.osl_value.specs.declared.types.Base.{Base}
use Rattle.osl_value.specs.declared.types.Base.TheVariants.{Str, Closure}
use Rattle.osl_value.specs.declared.types.Ty.{Ty}
use Rattle.osl_value.specs.Plain.{Plain, IsNumberOf, IsPlain}
use Rattle.osl_value.specs.Types.{same_base, longest_text, longest_array}
use Rattle.osl_valuetext.specs.declared.number.Spelling.{Spelling}
use Rattle.osl_valuetext.specs.declared.number.Spelling.TheVariants.{Canonical, Free}
use Rattle.osl_valuetext.specs.Words.{Line, type_text, string_text, number_text}
use Rattle.osl_valuetext.specs.Literals.{number_at, is_short}

-- ---- strings

abbrev pub IsByte : ℕ → Type 0
IsByte c = c < 256

-- bytes in quotes, each written as it must be
pub record StringWord (word bytes : List ℕ) : Type 0 where
  pub text : word ≡ string_text bytes
  pub all_bytes : All IsByte bytes

-- the same of at most 512 bytes
pub record TextWord (word text : List ℕ) : Type 0 where
  pub string : StringWord word text
  pub short : length text ≤ longest_text

-- the same as tests
abbrev pub are_bytes : List ℕ → Bool
are_bytes bytes = list_all (λ c. nat_lt c 256) bytes

abbrev pub is_text : List ℕ → Bool
is_text bytes = are_bytes bytes && is_short bytes

-- ---- types and numbers

-- a type that has values, in its one text
pub record TypeWord (word : List ℕ) (ty : Ty) : Type 0 where
  pub text : word ≡ type_text ty
  pub no_closure : ty.base ≢ Closure
  pub short : ty.len ≤ longest_array

-- a number: in its canonical text, or in any text of it
abbrev pub Literal : Spelling → Base → List ℕ → ℤ → Type 0
Literal Canonical base word n = (word ≡ number_text base n) × IsNumberOf base n
Literal Free base word n = number_at Free base word ≡ Some n

-- ---- values

-- as many of the one as of the other, and each with its own
abbrev pub OneForOne : {X Y : Type 0} → (X → Y → Type 0) → List X → List Y → Type 0
OneForOne P [] [] = Unit {0}
OneForOne P [] (y ∷ ys) = ⊥
OneForOne P (x ∷ xs) [] = ⊥
OneForOne P (x ∷ xs) (y ∷ ys) = P x y × OneForOne P xs ys

-- a word for each string, or for each number
abbrev pub Spelled : (strings : Bool) → Spelling → Line → Plain → Type 0
Spelled true spelling words v = OneForOne TextWord words v.texts
Spelled false spelling words v = OneForOne (Literal spelling v.ty.base) words v.nums

-- a value: exactly as many words as its type has numbers or strings
pub record ValueWords (spelling : Spelling) (words : Line) (v : Plain) : Type 0 where
  pub is_plain : IsPlain v.ty v.nums v.texts
  pub spelled : Spelled (same_base v.ty.base Str) spelling words v
