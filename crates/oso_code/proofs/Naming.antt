-- A walk over symbols: what is known of those that it passed.
use Rattle.std.proofs.Common.{◌≡◌, ℕ, suc, ◌+◌, ◌<◌, ◌≤◌, ⊎_elim, List, [], ◌∷◌, ◌++◌, length, Some, None, Bool, true, false, not, Bor, refl, sym, ap, ◌∙◌, subst, arith}
use Rattle.std.specs.Prelude.{slice_get, slice_index_or, map, take, ◌&&◌, ◌||◌, if◌then◌else◌, IsTrue}
use Rattle.std.specs.List.{list_any}
use Rattle.std.specs.Str.{bytes_eq}
use Rattle.std.proofs.Math.Seq.{take-suc}
use Rattle.std.proofs.lemmas.Bool.{cases_lt}
use Rattle.std.proofs.lemmas.List.{map-append}
use Rattle.std.proofs.lemmas.List.Folds.{list_all-append}
use Rattle.std.proofs.lemmas.Option.{slice_get-get_or, slice_get_within}
use Rattle.oso_code.specs.declared.symbol.Symbol.{Symbol}
use Rattle.oso_code.specs.Faults.{misfits, least}
use Rattle.oso_code.specs.Symbols.{is_parameter, symbol_fits, are_parameters, is_taken, symbol_at_fits}
use Rattle.oso_code.proofs.Fitting.{some_same, all_fit}
use Rattle.oso_code.proofs.Firsts.{first_misfit}

-- the first k symbols fit, these are their names, and `leading` says whether they are parameters
pub record Passed (symbols : List Symbol) (k : ℕ) (names : List (Bor (List ℕ))) (leading : Bool) : Type 0 where
  pub fits : (j : ℕ) (symbol : Symbol) → j < k → slice_get symbols j ≡ Some symbol → IsTrue (symbol_at_fits symbols j symbol)
  pub names_are : map (λ name. name.now) names ≡ map (λ symbol. symbol.name) (take k symbols)
  pub leading_is : leading ≡ are_parameters (take k symbols)

any_map : {X Y : Type 0} (test : Y → Bool) (f : X → Y) (xs : List X) → list_any test (map f xs) ≡ list_any (λ x. test (f x)) xs
any_map test f [] = refl
any_map test f (x ∷ xs) = ap (λ b. test (f x) || b) (any_map test f xs)

and_false : (a b : Bool) → a ≡ false → (a && b) ≡ false
and_false true b h = absurd (cc h)
and_false false b h = refl

and_not : (a b : Bool) → IsTrue b → (a && not b) ≡ false
and_not true true h = refl
and_not false true h = refl
and_not a false h = absurd (cc h)

both_hold : (a b : Bool) → IsTrue a → b ≡ false → IsTrue (a && not b)
both_hold true false h g = refl
both_hold true true h g = absurd (cc g)
both_hold false b h g = absurd (cc h)

-- an answer whether a name was new
pub is_found : (b new : Bool) → new ≡ not b → new ≡ false → IsTrue b
is_found true new e h = refl
is_found false new e h = absurd (cc (e, h))

pub is_new : (b new : Bool) → new ≡ not b → IsTrue new → b ≡ false
is_new true new e h = absurd (cc (e, h))
is_new false new e h = refl

pub grown : {X : Type 0} (b : Bool) (xs ys : List X) → b ≡ false → (if b then xs else ys) ≡ ys
grown true xs ys h = absurd (cc h)
grown false xs ys h = refl

module _ (symbols : List Symbol) (k : ℕ) (names : List (Bor (List ℕ))) (leading : Bool) (passed : Passed symbols k names leading) where
  -- a name is among the names so far where it is taken
  taken_is : (name : List ℕ) → list_any (λ key. bytes_eq name key.now) names ≡ is_taken (take k symbols) name
  taken_is name =
      sym (any_map (bytes_eq name) (λ key. key.now) names)
      ∙ ap (list_any (bytes_eq name)) passed.names_are
      ∙ any_map (bytes_eq name) (λ symbol. symbol.name) (take k symbols)

  pub all_passed : length symbols ≤ k → None ≡ least (misfits (symbol_at_fits symbols) 0 symbols)
  all_passed le =
      sym (ap least (all_fit (symbol_at_fits symbols) symbols (λ j symbol is. let lt = slice_get_within symbols j symbol is in passed.fits j symbol (omega (arith, lt, le)) is)))

  module _ (symbol : Symbol) (lt : k < length symbols) (is : symbol ≡ slice_index_or symbols k symbol) where
    there : slice_get symbols k ≡ Some symbol
    there = slice_get-get_or symbols k symbol lt ∙ ap Some (sym is)

    misfit : symbol_at_fits symbols k symbol ≡ false → Some k ≡ least (misfits (symbol_at_fits symbols) 0 symbols)
    misfit h = sym (first_misfit (symbol_at_fits symbols) symbols k symbol passed.fits there h)

    -- the symbol does not fit by itself
    pub wrong_self : symbol_fits leading symbol ≡ false → Some k ≡ least (misfits (symbol_at_fits symbols) 0 symbols)
    wrong_self h =
        misfit (and_false (symbol_fits (are_parameters (take k symbols)) symbol) (not (is_taken (take k symbols) symbol.name)) (ap (λ b. symbol_fits b symbol) (sym passed.leading_is) ∙ h))

    -- its name is taken
    pub wrong_name : IsTrue (list_any (λ key. bytes_eq symbol.name key.now) names) → Some k ≡ least (misfits (symbol_at_fits symbols) 0 symbols)
    wrong_name h = misfit (and_not (symbol_fits (are_parameters (take k symbols)) symbol) (is_taken (take k symbols) symbol.name) (sym (taken_is symbol.name) ∙ h))

    next : take (k + 1) symbols ≡ take k symbols ++ symbol ∷ []
    next = let n : k + 1 ≡ suc k = omega arith in ap (λ j. take j symbols) n ∙ take-suc symbols k symbol lt ∙ ap (λ x. take k symbols ++ x ∷ []) (sym is)

    and_true : (a b : Bool) → (a && (b && true)) ≡ (a && b)
    and_true true true = refl
    and_true true false = refl
    and_true false b = refl

    pub passes : (key : Bor (List ℕ)) (after : Bool) → key.now ≡ symbol.name → IsTrue (symbol_fits leading symbol) → list_any (λ other. bytes_eq symbol.name other.now) names ≡ false → after ≡ (leading && is_parameter symbol.class) → Passed symbols (k + 1) (names ++ key ∷ []) after
    passes key after named fits free leads = record {
      fits = λ j other below at.
          ⊎_elim (λ (lower : j < k). passed.fits j other lower at) (λ (le : k ≤ j).
          let e : j ≡ k = omega (arith, below, le) in
          let same = some_same symbol other (sym there ∙ ap (slice_get symbols) (sym e) ∙ at) in
          subst (λ i. IsTrue (symbol_at_fits symbols i other)) (sym e) (subst (λ x. IsTrue (symbol_at_fits symbols k x)) same (both_hold (symbol_fits (are_parameters (take k symbols)) symbol) (is_taken (take k symbols) symbol.name) (ap (λ b. symbol_fits b symbol) (sym passed.leading_is) ∙ fits) (sym (taken_is symbol.name) ∙ free)))) (cases_lt j k);
      names_are =
          map-append (λ name. name.now) names (key ∷ [])
          ∙ (λ i. passed.names_are i ++ named i ∷ [])
          ∙ sym (map-append (λ other. other.name) (take k symbols) (symbol ∷ []))
          ∙ sym (ap (map (λ other. other.name)) next);
      leading_is =
          leads
          ∙ ap (λ b. b && is_parameter symbol.class) passed.leading_is
          ∙ sym (and_true (are_parameters (take k symbols)) (is_parameter symbol.class))
          ∙ sym (list_all-append (λ other. is_parameter other.class) (take k symbols) (symbol ∷ []))
          ∙ sym (ap are_parameters next);
    }
