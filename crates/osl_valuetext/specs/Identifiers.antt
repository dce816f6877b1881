-- Names in the texts of groups, points and edits: words of the language of at most 255 bytes; and the name of a layer's parameter, `LAYER.PARAM`.
use Rattle.std.specs.Prelude.{◌≡◌, ℕ, nat_le, Bool, true, false, ◌&&◌, ◌||◌, ◌==◌, if◌then◌else◌, List, [], ◌∷◌, ◌++◌, length, Option, Some, None}
use Rattle.std.specs.Char.{is_ascii_alphabetic, is_ascii_alphanumeric}
use Rattle.std.specs.List.{list_all, before_first, after_first}

abbrev pub longest_identifier : ℕ
longest_identifier = 255

abbrev pub begins_identifier : ℕ → Bool
begins_identifier c = is_ascii_alphabetic c || (c == 95)

abbrev pub continues_identifier : ℕ → Bool
continues_identifier c = is_ascii_alphanumeric c || (c == 95)

-- a letter or `_`, and then letters, digits and `_`
abbrev pub is_identifier : List ℕ → Bool
is_identifier [] = false
is_identifier (c ∷ cs) = (begins_identifier c && list_all continues_identifier cs) && nat_le (length (c ∷ cs)) longest_identifier

pub record Pair : Type 0 where
  pub layer : List ℕ
  pub param : List ℕ

abbrev pub is_point : ℕ → Bool
is_point c = c == 46

-- two names with a point between
unfoldable pub pair_at : List ℕ → Option Pair
pair_at word =
    let pair : Pair = record { layer = before_first is_point word; param = after_first is_point word } in
    if is_identifier pair.layer && is_identifier pair.param then Some pair else None

abbrev pub pair_text : Pair → List ℕ
pair_text pair = pair.layer ++ 46 ∷ pair.param

pub record PairWord (word : List ℕ) (pair : Pair) : Type 0 where
  pub text : word ≡ pair_text pair
  pub layer_is : is_identifier pair.layer ≡ true
  pub param_is : is_identifier pair.param ≡ true
