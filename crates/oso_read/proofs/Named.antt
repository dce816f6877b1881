-- Names that are kept as a function of keys.
use Rattle.std.proofs.Common.{◌≡◌, ℕ, ◌+◌, Bool, true, false, not, ◌&&◌, ◌||◌, cond, ltb, List, [], ◌∷◌, ◌++◌, length, map, Some, None, refl, sym, ap, ◌∙◌, ◌<◌, ◌≤◌, nat_lt, arith, rules, tests}
use Rattle.std.specs.Prelude.{nat_le}
use Rattle.std.specs.List.{list_any, position, position_or_len}
use Rattle.std.specs.Str.{bytes_eq}
use Rattle.std.proofs.lemmas.List.{map-append, length-map}
use Rattle.osl_value.specs.declared.types.Ty.{Ty}
use Rattle.osl_value.specs.Types.{slot_count}
use Rattle.oso_code.specs.declared.symbol.Symbol.{Symbol}
use Rattle.oso_code.specs.Symbols.{is_parameter, are_parameters, is_taken}
use Rattle.oso_code.specs.Valid.{slots_of, most_symbols, most_slots}
use Rattle.oso_read.specs.SymbolNames.{names_of, has_room}

pub any_map : {K : Type 0} (f : K → List ℕ) (test : List ℕ → Bool) (keys : List K) → list_any (λ k. test (f k)) keys ≡ list_any test (map f keys)
any_map f test [] = refl
any_map f test (k ∷ keys) = ap (λ (b : Bool). test (f k) || b) (any_map f test keys)

first_map : {K : Type 0} (f : K → List ℕ) (test : List ℕ → Bool) (keys : List K) → position_or_len (λ k. test (f k)) keys ≡ position_or_len test (map f keys)
first_map f test [] = refl
first_map f test (k ∷ keys) = ap (λ (n : ℕ). cond (not (test (f k))) (1 + n) 0) (first_map f test keys)

pub position_map : {K : Type 0} (f : K → List ℕ) (test : List ℕ → Bool) (keys : List K) → position (λ k. test (f k)) keys ≡ position test (map f keys)
position_map f test keys =
    ap (λ (n : ℕ). cond (ltb n (length keys)) (Some n) None) (first_map f test keys)
    ∙ ap (λ (m : ℕ). cond (ltb (position_or_len test (map f keys)) m) (Some (position_or_len test (map f keys))) None) (sym (length-map keys f))

-- a key that is new goes after the others
pub pushed_map : {K : Type 0} (f : K → List ℕ) (old new : List K) (key : K) (name : List ℕ) (found : Bool) → found ≡ false
    → new ≡ cond found old (old ++ key ∷ []) → f key ≡ name → map f new ≡ map f old ++ name ∷ []
pushed_map f old new key name found absent grown named =
    ap (map f) (grown ∙ ap (λ (b : Bool). cond b old (old ++ key ∷ [])) absent) ∙ map-append f old (key ∷ []) ∙ ap (λ (n : List ℕ). map f old ++ n ∷ []) named

-- a symbol's name is taken where the table has it
pub taken : (symbols : List Symbol) (name : List ℕ) → list_any (bytes_eq name) (names_of symbols) ≡ is_taken symbols name
taken [] name = refl
taken (s ∷ symbols) name = ap (λ (b : Bool). bytes_eq name s.name || b) (taken symbols name)

-- ---- one more symbol after others

pub names_more : (symbols : List Symbol) (symbol : Symbol) (names more : List (List ℕ)) (name : List ℕ)
    → names ≡ names_of symbols → more ≡ names ++ name ∷ [] → name ≡ symbol.name → more ≡ names_of (symbols ++ symbol ∷ [])
names_more symbols symbol names more name was grown is =
    grown ∙ ap (λ (ns : List (List ℕ)). ns ++ name ∷ []) was ∙ ap (λ (n : List ℕ). names_of symbols ++ n ∷ []) is
    ∙ sym (map-append (λ (s : Symbol). s.name) symbols (symbol ∷ []))

pub slots_more : (symbols : List Symbol) (symbol : Symbol) → slots_of (symbols ++ symbol ∷ []) ≡ slots_of symbols + slot_count symbol.ty
slots_more [] symbol = omega arith
slots_more (s ∷ symbols) symbol = omega (arith, slots_more symbols symbol)

pub leads_more : (symbols : List Symbol) (symbol : Symbol) → are_parameters (symbols ++ symbol ∷ []) ≡ are_parameters symbols && is_parameter symbol.class
leads_more [] symbol = go (is_parameter symbol.class)
  where
    go : (b : Bool) → (b && true) ≡ b
    go true = refl
    go false = refl
leads_more (s ∷ symbols) symbol = go (is_parameter s.class) (leads_more symbols symbol)
  where
    go : (b : Bool) → are_parameters (symbols ++ symbol ∷ []) ≡ are_parameters symbols && is_parameter symbol.class
        → (b && are_parameters (symbols ++ symbol ∷ [])) ≡ (b && are_parameters symbols) && is_parameter symbol.class
    go true h = h
    go false h = refl

pub absent_where_fits : (fits taken found : Bool) → found ≡ (fits && not taken) → found ≡ true → taken ≡ false
absent_where_fits true true found e h = absurd cc
absent_where_fits true false found e h = refl
absent_where_fits false taken found e h = absurd cc

pub room_parts : (symbols : List Symbol) (ty : Ty) → has_room symbols ty ≡ true
    → (length symbols < most_symbols) × (slots_of symbols + slot_count ty ≤ most_slots)
room_parts symbols ty h = go (nat_lt (length symbols) most_symbols) (nat_le (slots_of symbols + slot_count ty) most_slots) refl refl h
  where
    go : (a b : Bool) → nat_lt (length symbols) most_symbols ≡ a → nat_le (slots_of symbols + slot_count ty) most_slots ≡ b → (a && b) ≡ true
        → (length symbols < most_symbols) × (slots_of symbols + slot_count ty ≤ most_slots)
    go true true e f g = let below : length symbols < most_symbols = search (rules, tests) in let within : slots_of symbols + slot_count ty ≤ most_slots = search (rules, tests) in (below, within)
    go true false e f g = absurd cc
    go false b e f g = absurd cc
