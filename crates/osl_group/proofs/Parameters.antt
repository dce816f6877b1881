-- The parameters of valid code, by their symbols.
use Rattle.std.proofs.Common.{◌≡◌, ℕ, ◌+◌, ◌<◌, Bool, true, false, cond, List, [], ◌∷◌, ◌++◌, length, map, get_or, Some, refl, sym, ap, ◌∙◌}
use Rattle.std.specs.Prelude.{slice_get, take, not, ◌&&◌, ◌||◌, if◌then◌else◌, IsTrue}
use Rattle.std.specs.List.{filter, list_any}
use Rattle.std.specs.Str.{bytes_eq}
use Rattle.std.proofs.lemmas.List.{map-append, append-nil}
use Rattle.std.proofs.lemmas.List.Elements.{filter_more}
use Rattle.std.proofs.lemmas.Option.{slice_get-get_or}
use Rattle.oso_code.specs.declared.symbol.Symbol.{Symbol}
use Rattle.oso_code.specs.Symbols.{is_parameter, symbol_fits, are_parameters, is_taken, symbol_at_fits}
use Rattle.osl_network.specs.declared.port.Port.{Port}
use Rattle.osl_network.specs.Shaders.{port_of}
use Rattle.osl_group.specs.Loaded.{names_of}

abbrev test : Symbol → Bool
test symbol = is_parameter symbol.class

-- the names of the parameters among symbols
abbrev pub names_in : List Symbol → List (List ℕ)
names_in symbols = names_of (map port_of (filter test symbols))

neither : (a b : Bool) → (a || b) ≡ false → (a ≡ false) × (b ≡ false)
neither true b h = absurd (cc h)
neither false b h = (refl, h)

-- a name that no symbol has is no parameter's
free : (symbols : List Symbol) (name : List ℕ) → is_taken symbols name ≡ false → list_any (bytes_eq name) (names_in symbols) ≡ false
free [] name h = refl
free (s ∷ ss) name h = let p = neither (bytes_eq name s.name) (is_taken ss name) h in go (test s) p.0 (free ss name p.1)
  where
    go : (b : Bool) → bytes_eq name s.name ≡ false → list_any (bytes_eq name) (names_in ss) ≡ false
        → list_any (bytes_eq name) (names_of (map port_of (if b then s ∷ filter test ss else filter test ss))) ≡ false
    go true n ih = ap (λ b. b || list_any (bytes_eq name) (names_in ss)) n ∙ ih
    go false n ih = ih

not_true : (a b : Bool) → IsTrue (a && not b) → b ≡ false
not_true true false h = refl
not_true true true h = absurd (cc h)
not_true false b h = absurd (cc h)

-- each symbol fits after those before it
abbrev pub AllFit : List Symbol → Type 0
AllFit symbols = (k : ℕ) (symbol : Symbol) → slice_get symbols k ≡ Some symbol → IsTrue (symbol_at_fits symbols k symbol)

module _ (symbols : List Symbol) (k : ℕ) (symbol : Symbol) (lt : k < length symbols) (is : symbol ≡ get_or symbols k symbol) where
  at : slice_get symbols k ≡ Some symbol
  at = slice_get-get_or symbols k symbol lt ∙ ap Some (sym is)

  -- no symbol before it has its name
  pub new_name : AllFit symbols → (names : List (List ℕ)) (name : List ℕ) → names ≡ names_in (take k symbols) → name ≡ symbol.name → list_any (bytes_eq name) names ≡ false
  new_name fit names name was named =
      let before = take k symbols in
      ap (list_any (bytes_eq name)) was ∙ ap (λ n. list_any (bytes_eq n) (names_in before)) named
      ∙ free before symbol.name (not_true (symbol_fits (are_parameters before) symbol) (is_taken before symbol.name) (fit k symbol at))

  more : filter test (take (k + 1) symbols) ≡ filter test (take k symbols) ++ cond (test symbol) (symbol ∷ []) []
  more = filter_more test symbols k symbol lt ∙ ap (λ s. filter test (take k symbols) ++ cond (test s) (s ∷ []) []) (sym is)

  pub one_more_name : (names new : List (List ℕ)) (name : List ℕ) → names ≡ names_in (take k symbols) → test symbol ≡ true → name ≡ symbol.name → new ≡ names ++ name ∷ [] → new ≡ names_in (take (k + 1) symbols)
  one_more_name names new name was passes named grown =
      let before = filter test (take k symbols) in
      grown ∙ ap (λ ns. ns ++ name ∷ []) was ∙ ap (λ n. names_in (take k symbols) ++ n ∷ []) named
      ∙ sym (map-append (λ (port : Port). port.name) (map port_of before) (port_of symbol ∷ []))
      ∙ sym (ap names_of (map-append port_of before (symbol ∷ [])))
      ∙ sym (ap (λ b. names_of (map port_of (before ++ cond b (symbol ∷ []) []))) passes)
      ∙ sym (ap (λ ss. names_of (map port_of ss)) more)

  pub no_more_name : (names : List (List ℕ)) → names ≡ names_in (take k symbols) → test symbol ≡ false → names ≡ names_in (take (k + 1) symbols)
  no_more_name names was fails =
      let before = filter test (take k symbols) in
      was ∙ sym (ap (λ ss. names_of (map port_of ss)) (append-nil before))
      ∙ sym (ap (λ b. names_of (map port_of (before ++ cond b (symbol ∷ []) []))) fails)
      ∙ sym (ap (λ ss. names_of (map port_of ss)) more)

  -- a parameter among the parameters
  pub one_more_port : (ports : List Port) (port : Port) → ports ≡ map port_of (filter test (take k symbols)) → test symbol ≡ true → port ≡ port_of symbol → ports ++ port ∷ [] ≡ map port_of (filter test (take (k + 1) symbols))
  one_more_port ports port was passes named =
      let before = filter test (take k symbols) in
      ap (λ ps. ps ++ port ∷ []) was ∙ ap (λ p. map port_of before ++ p ∷ []) named
      ∙ sym (map-append port_of before (symbol ∷ []))
      ∙ sym (ap (λ b. map port_of (before ++ cond b (symbol ∷ []) [])) passes)
      ∙ sym (ap (map port_of) more)

  pub no_more_port : (ports : List Port) → ports ≡ map port_of (filter test (take k symbols)) → test symbol ≡ false → ports ≡ map port_of (filter test (take (k + 1) symbols))
  no_more_port ports was fails =
      let before = filter test (take k symbols) in
      was ∙ sym (ap (map port_of) (append-nil before))
      ∙ sym (ap (λ b. map port_of (before ++ cond b (symbol ∷ []) [])) fails)
      ∙ sym (ap (map port_of) more)
