-- The symbols that are read fit, each after those before it.
use Rattle.std.proofs.Common.{◌≡◌, ℕ, zero, suc, ◌+◌, ◌<◌, ◌≤◌, Bool, true, false, ⊎_elim, List, [], ◌∷◌, ◌++◌, length, Some, Result, Ok, refl, sym, ap, ◌∙◌, subst, arith}
use Rattle.std.specs.Prelude.{IsTrue, if◌then◌else◌, nat_le, nat_lt, slice_get}
use Rattle.std.specs.Option.{ok_or}
use Rattle.std.proofs.lemmas.Bool.{cases_lt, and_parts, ltb-true, leb-true}
use Rattle.std.proofs.lemmas.List.{length-append, take-append-le}
use Rattle.std.proofs.lemmas.Option.{slice_get_within}
use Rattle.std.proofs.Math.Seq.{take-append_seam}
use Rattle.osl_value.specs.Types.{slot_count}
use Rattle.oso_code.specs.declared.symbol.Symbol.{Symbol}
use Rattle.oso_code.specs.Symbols.{fits_behind, symbol_at_fits}
use Rattle.oso_code.specs.Valid.{most_symbols, most_slots, slots_of}
use Rattle.oso_read.specs.declared.error.OsoKind.TheVariants as kinds
use Rattle.oso_read.specs.Faults.{Fault, ◌>>=◌, at_line, holding}
use Rattle.oso_read.specs.Text.{Numbered}
use Rattle.oso_read.specs.Hints.{Saying, saying}
use Rattle.oso_read.specs.SymbolLine.{symbol_at}
use Rattle.oso_read.specs.SymbolNames.{has_room}
use Rattle.oso_read.specs.Reading.{heard, added, symbol_added, Declared, begins_body, declared_from}
use Rattle.oso_read.proofs.Passing.{some_of, ok_of, goes_on, line_gave, hears, holds}

-- each fits after those before it, and they pass no limit
pub record AreSymbols (symbols : List Symbol) : Type 0 where
  pub fit : (k : ℕ) (symbol : Symbol) → slice_get symbols k ≡ Some symbol → IsTrue (symbol_at_fits symbols k symbol)
  pub few : length symbols ≤ most_symbols
  pub small : slots_of symbols ≤ most_slots

pub no_symbols : AreSymbols []
no_symbols = record { fit = λ k symbol is. absurd (cc is); few = omega arith; small = omega arith }

-- ---- lists with one element more

pub get_front : {X : Type 0} (xs ys : List X) (k : ℕ) → k < length xs → slice_get (xs ++ ys) k ≡ slice_get xs k
get_front [] ys k lt = absurd (omega arith)
get_front (x ∷ xs) ys zero lt = refl
get_front (x ∷ xs) ys (suc k) lt = get_front xs ys k (omega arith)

pub get_seam : {X : Type 0} (xs : List X) (y : X) → slice_get (xs ++ y ∷ []) (length xs) ≡ Some y
get_seam [] y = refl
get_seam (x ∷ xs) y = get_seam xs y

-- a fact of each element, by those before the last and the last
pub each_of_more : {X : Type 0} (P : ℕ → X → Type 0) (xs : List X) (y : X)
    → ((k : ℕ) (x : X) → k < length xs → slice_get xs k ≡ Some x → P k x) → P (length xs) y
    → (k : ℕ) (x : X) → slice_get (xs ++ y ∷ []) k ≡ Some x → P k x
each_of_more P xs y before last k x is =
    ⊎_elim (λ (lower : k < length xs). before k x lower (sym (get_front xs (y ∷ []) k lower) ∙ is)) (λ (above : length xs ≤ k).
    let within = slice_get_within (xs ++ y ∷ []) k x is in
    let len = length-append xs (y ∷ []) in
    let e : k ≡ length xs = omega (arith, within, len, above) in
    let same = some_of y x (sym (get_seam xs y) ∙ ap (slice_get (xs ++ y ∷ [])) (sym e) ∙ is) in
    subst (λ n. P n x) (sym e) (subst (P (length xs)) same last)) (cases_lt k (length xs))

pub slots_more : (symbols : List Symbol) (symbol : Symbol) → slots_of (symbols ++ symbol ∷ []) ≡ slots_of symbols + slot_count symbol.ty
slots_more [] symbol = omega arith
slots_more (s ∷ symbols) symbol = let h = slots_more symbols symbol in omega (arith, h)

-- ---- symbols

one_more : (before : List Symbol) (symbol : Symbol) → AreSymbols before → IsTrue (fits_behind before symbol) → IsTrue (has_room before symbol.ty) → AreSymbols (before ++ symbol ∷ [])
one_more before symbol are fits room =
    let rooms = and_parts (nat_lt (length before) most_symbols) (nat_le (slots_of before + slot_count symbol.ty) most_slots) room in
    let few = ltb-true (length before) most_symbols rooms.0 in
    let small = leb-true (slots_of before + slot_count symbol.ty) most_slots rooms.1 in
    let len = length-append before (symbol ∷ []) in
    let slots = slots_more before symbol in
    record {
      fit = each_of_more (λ k s. IsTrue (symbol_at_fits (before ++ symbol ∷ []) k s)) before symbol
          (λ k s lower is. subst (λ front. IsTrue (fits_behind front s)) (sym (take-append-le k before (symbol ∷ []) (omega arith))) (are.fit k s is))
          (subst (λ front. IsTrue (fits_behind front symbol)) (sym (take-append_seam before (symbol ∷ []))) fits);
      few = omega (arith, few, len);
      small = omega (arith, small, slots);
    }

added_are : (before : List Symbol) (symbol : Symbol) (after : List Symbol) → AreSymbols before → added before symbol ≡ Ok after → AreSymbols after
added_are before symbol after are h =
    let fitting = goes_on (holding (fits_behind before symbol) kinds.Symbol symbol) (λ s. holding (has_room before s.ty) kinds.Limit (before ++ s ∷ [])) after h in
    let fits = holds (fits_behind before symbol) kinds.Symbol symbol fitting.value fitting.gave in
    let room = holds (has_room before fitting.value.ty) kinds.Limit (before ++ fitting.value ∷ []) after fitting.rest in
    subst AreSymbols room.1
    (one_more before fitting.value are (subst (λ s. IsTrue (fits_behind before s)) fits.1 fits.0) room.0)

line_are : (before : List Symbol) (s : Saying) (after : List Symbol) → AreSymbols before → symbol_added before s ≡ Ok after → AreSymbols after
unfolding symbol_added
line_are before s after are h =
    let read = goes_on (ok_or (symbol_at s) kinds.Line) (added before) after h in
    added_are before read.value after are read.rest

-- what is read of lines is symbols after those that there are, and the rest begins the body
abbrev pub BeginsBody : List Numbered → Type 0
BeginsBody [] = Unit {0}
BeginsBody (l ∷ ls) = IsTrue (begins_body l.line)

pub record AreDeclared (d : Declared) : Type 0 where
  pub symbols : AreSymbols d.symbols
  pub rest : BeginsBody d.rest

pub declared_are : (before : List Symbol) (ls : List Numbered) (d : Declared) → AreSymbols before → declared_from before ls ≡ Ok d → AreDeclared d
unfolding declared_from
declared_are before [] d are h = subst AreDeclared (ok_of (record { symbols = before; rest = [] }) d h) (record { symbols = are; rest = tt })
declared_are before (l ∷ ls) d are h = by (begins_body l.line) refl h (λ symbols more rest. declared_are symbols ls d more rest)
  where
    line_read : Result (List Symbol) Fault
    line_read = at_line l.number (heard kinds.Line (symbol_added before) (saying l.line))

    stops : Declared
    stops = record { symbols = before; rest = l ∷ ls }

    by : (b : Bool) → begins_body l.line ≡ b → (if b then Ok stops else (line_read >>= λ symbols. declared_from symbols ls)) ≡ Ok d
        → ((symbols : List Symbol) → AreSymbols symbols → declared_from symbols ls ≡ Ok d → AreDeclared d) → AreDeclared d
    by true is h go = subst AreDeclared (ok_of stops d h) (record { symbols = are; rest = is })
    by false is h go =
        let read = goes_on line_read (λ symbols. declared_from symbols ls) d h in
        let heard_line = hears kinds.Line (symbol_added before) (saying l.line) read.value (line_gave l.number (heard kinds.Line (symbol_added before) (saying l.line)) read.value read.gave) in
        go read.value (line_are before heard_line.saying read.value are heard_line.made) read.rest
