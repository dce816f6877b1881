-- Names of symbols and of operations, and what they name.
use Rattle.std.proofs.Common.{◌≡◌, ℕ, zero, suc, ◌+◌, Bool, true, false, not, ◌&&◌, ◌||◌, List, [], ◌∷◌, length, map, take, Option, Some, None, refl, sym, ap, ◌∙◌, subst, arith, rules, tests}
use Rattle.std.specs.Prelude.{IsTrue, if◌then◌else◌, nat_lt, slice_get, position, option_map, option_and_then, unwrap_or}
use Rattle.std.specs.List.{list_all, list_any, position_or_len}
use Rattle.std.specs.Str.{bytes_eq}
use Rattle.std.proofs.lemmas.Bool.{and_parts, or_parts, not-true, lt-ltb, ltb-true}
use Rattle.std.proofs.lemmas.Slice.Eq.{bytes_eq-Decides}
use Rattle.osl_value.specs.declared.op_name.OpName.{OpName}
use Rattle.osl_value.specs.declared.op_name.OpName.TheVariants as O
use Rattle.osl_value.specs.declared.op_name.TheConstants.OpName.{ALL}
use Rattle.osl_value.specs.OpText.{name_of}
use Rattle.oso_code.specs.declared.symbol.Symbol.{Symbol}
use Rattle.oso_code.specs.Names.{is_name, main_name}
use Rattle.oso_code.specs.Ops.{is_number_of}
use Rattle.oso_code.specs.Sections.{owner_fits, may_have_section}
use Rattle.oso_code.specs.Symbols.{is_parameter, is_taken, symbol_fits, symbol_at_fits, are_parameters, parameter_fits}
use Rattle.osl_valuetext.specs.Words.{Line}
use Rattle.oso_write.specs.Lines.{name_at, section_name}
use Rattle.osl_valuetext.specs.Literals.{each}
use Rattle.oso_read.specs.SymbolNames.{names_of}
use Rattle.oso_read.specs.Reading.{symbol_number, owner_named, op_named}
use Rattle.osl_valuetext.proofs.TypeTexts.{find_passes}
use Rattle.oso_read.proofs.Passing.{some_of, maps}

-- ---- the first symbol of a name

-- one place further, if there is one
abbrev further : Option ℕ → Option ℕ
further o = option_map suc o

position_first : {X : Type 0} (test : X → Bool) (x : X) (xs : List X) → test x ≡ true → position test (x ∷ xs) ≡ Some 0
position_first test x xs h = by (test x) h
  where
    at_front : Bool → ℕ
    at_front b = if not b then 1 + position_or_len test xs else 0

    by : (b : Bool) → b ≡ true → (if nat_lt (at_front b) (length (x ∷ xs)) then Some (at_front b) else None) ≡ Some 0
    by true e = ap (λ (t : Bool). if t then Some 0 else None) (lt-ltb 0 (length (x ∷ xs)) (omega arith))
    by false e = absurd (cc e)

position_later : {X : Type 0} (test : X → Bool) (x : X) (xs : List X) → test x ≡ false → position test (x ∷ xs) ≡ further (position test xs)
position_later test x xs h = by (test x) h
  where
    at_front : Bool → ℕ
    at_front b = if not b then 1 + position_or_len test xs else 0

    shift : (n m : ℕ) → (if nat_lt (1 + n) (suc m) then Some (1 + n) else None) ≡ further (if nat_lt n m then Some n else None)
    shift n m = go (nat_lt n m) refl
      where
        go : (b : Bool) → nat_lt n m ≡ b → (if nat_lt (1 + n) (suc m) then Some (1 + n) else None) ≡ further (if b then Some n else None)
        go true e = search (rules, tests)
        go false e = search (rules, tests)

    by : (b : Bool) → b ≡ false → (if nat_lt (at_front b) (length (x ∷ xs)) then Some (at_front b) else None) ≡ further (position test xs)
    by true e = absurd (cc e)
    by false e = shift (position_or_len test xs) (length xs)

-- the first passing element is one that passes
pub record IsFirst {X : Type 0} (test : X → Bool) (xs : List X) (k : ℕ) : Type 0 where
  pub element : X
  pub here : slice_get xs k ≡ Some element
  pub passes : test element ≡ true

pub position_is : {X : Type 0} (test : X → Bool) (xs : List X) (k : ℕ) → position test xs ≡ Some k → IsFirst test xs k
position_is test [] k h = absurd (cc h)
position_is {X} test (x ∷ xs) k h = by (test x) refl h (λ n later. position_is test xs n later)
  where
    by : (b : Bool) → test x ≡ b → position test (x ∷ xs) ≡ Some k → ((n : ℕ) → position test xs ≡ Some n → IsFirst test xs n) → IsFirst test (x ∷ xs) k
    by true is at more =
        let first : 0 ≡ k = some_of 0 k (sym (position_first test x xs is) ∙ at) in
        subst (IsFirst test (x ∷ xs)) first (record { element = x; here = refl; passes = is })
    by false is at more =
        let moved = maps suc (position test xs) k (sym (position_later test x xs is) ∙ at) in
        let found = more moved.value moved.is in
        subst (IsFirst test (x ∷ xs)) moved.image (record { element = found.element; here = found.here; passes = found.passes })

-- it is the one that passes, where none before it does
pub position_at : {X : Type 0} (test : X → Bool) (xs : List X) (k : ℕ) (x : X) → slice_get xs k ≡ Some x → test x ≡ true → list_any test (take k xs) ≡ false → position test xs ≡ Some k
position_at test [] k x here passes none = absurd (cc here)
position_at test (y ∷ ys) zero x here passes none = position_first test y ys (ap test (some_of y x here) ∙ passes)
position_at test (y ∷ ys) (suc k) x here passes none =
    let parts = or_parts (test y) (list_any test (take k ys)) none in
    position_later test y ys parts.0 ∙ ap further (position_at test ys k x here passes parts.1)

get_name : (symbols : List Symbol) (k : ℕ) (name : List ℕ) → slice_get (names_of symbols) k ≡ Some name → (symbol : Symbol) × (slice_get symbols k ≡ Some symbol) × (symbol.name ≡ name)
get_name [] k name h = absurd (cc h)
get_name (s ∷ symbols) zero name h = (s, refl, some_of s.name name h)
get_name (s ∷ symbols) (suc k) name h = get_name symbols k name h

pub name_get : (symbols : List Symbol) (k : ℕ) (symbol : Symbol) → slice_get symbols k ≡ Some symbol → slice_get (names_of symbols) k ≡ Some symbol.name
name_get [] k symbol h = absurd (cc h)
name_get (s ∷ symbols) zero symbol h = ap (λ (t : Symbol). Some t.name) (some_of s symbol h)
name_get (s ∷ symbols) (suc k) symbol h = name_get symbols k symbol h

name_of_symbol : (symbols : List Symbol) (k : ℕ) (symbol : Symbol) → slice_get symbols k ≡ Some symbol → name_at symbols k ≡ symbol.name
name_of_symbol symbols k symbol h = ap (λ (o : Option Symbol). unwrap_or (option_map (λ s. s.name) o) []) h

-- a number that is read is that of a symbol of the name
pub number_names : (symbols : List Symbol) (name : List ℕ) (k : ℕ) → symbol_number symbols name ≡ Some k → name ≡ name_at symbols k
number_names symbols name k h =
    let first = position_is (bytes_eq name) (names_of symbols) k h in
    let symbol = get_name symbols k first.element first.here in
    (bytes_eq-Decides name first.element).0 first.passes ∙ sym symbol.2 ∙ sym (name_of_symbol symbols k symbol.0 symbol.1)

-- ---- names of symbols that fit differ

abbrev pub Fit : List Symbol → Type 0
Fit symbols = (k : ℕ) (symbol : Symbol) → slice_get symbols k ≡ Some symbol → IsTrue (symbol_at_fits symbols k symbol)

taken_is : (symbols : List Symbol) (name : List ℕ) → list_any (bytes_eq name) (names_of symbols) ≡ is_taken symbols name
taken_is [] name = refl
taken_is (s ∷ symbols) name = ap (λ (b : Bool). bytes_eq name s.name || b) (taken_is symbols name)

names_take : (k : ℕ) (symbols : List Symbol) → names_of (take k symbols) ≡ take k (names_of symbols)
names_take zero symbols = refl
names_take (suc k) [] = refl
names_take (suc k) (s ∷ symbols) = ap (λ (names : Line). s.name ∷ names) (names_take k symbols)

pub number_of_name : (symbols : List Symbol) (k : ℕ) (symbol : Symbol) → Fit symbols → slice_get symbols k ≡ Some symbol → symbol_number symbols symbol.name ≡ Some k
number_of_name symbols k symbol fit here =
    let free = not-true (is_taken (take k symbols) symbol.name) (and_parts (symbol_fits (are_parameters (take k symbols)) symbol) (not (is_taken (take k symbols) symbol.name)) (fit k symbol here)).1 in
    position_at (bytes_eq symbol.name) (names_of symbols) k symbol.name (name_get symbols k symbol here) ((bytes_eq-Decides symbol.name symbol.name).1 refl)
    (ap (list_any (bytes_eq symbol.name)) (sym (names_take k symbols)) ∙ taken_is (take k symbols) symbol.name ∙ free)

-- the symbol of a number below their count
pub there : (symbols : List Symbol) (k : ℕ) → IsTrue (is_number_of symbols k) → (symbol : Symbol) × (slice_get symbols k ≡ Some symbol)
there [] k h = absurd (none k h)
  where
    none : (k : ℕ) → IsTrue (nat_lt k 0) → ⊥
    none k e = let lt = ltb-true k 0 e in omega (arith, lt)
there (s ∷ symbols) zero h = (s, refl)
there (s ∷ symbols) (suc k) h =
    let lt = ltb-true (suc k) (length (s ∷ symbols)) h in
    there symbols k (lt-ltb k (length symbols) (omega (arith, lt)))

pub number_written : (symbols : List Symbol) (k : ℕ) → Fit symbols → IsTrue (is_number_of symbols k) → symbol_number symbols (name_at symbols k) ≡ Some k
number_written symbols k fit below =
    let symbol = there symbols k below in
    ap (symbol_number symbols) (name_of_symbol symbols k symbol.0 symbol.1) ∙ number_of_name symbols k symbol.0 fit symbol.1

pub numbers_written : (symbols : List Symbol) (args : List ℕ) → Fit symbols → IsTrue (list_all (is_number_of symbols) args) → each (symbol_number symbols) (map (name_at symbols) args) ≡ Some args
numbers_written symbols [] fit below = refl
numbers_written symbols (k ∷ args) fit below =
    let parts = and_parts (is_number_of symbols k) (list_all (is_number_of symbols) args) below in
    ap (λ (o : Option ℕ). option_and_then (λ n. option_and_then (λ ns. Some (n ∷ ns)) (each (symbol_number symbols) (map (name_at symbols) args))) o) (number_written symbols k fit parts.0)
    ∙ ap (λ (o : Option (List ℕ)). option_and_then (λ ns. Some (k ∷ ns)) o) (numbers_written symbols args fit parts.1)

-- the name of a symbol that fits is a name
name_is : (symbols : List Symbol) (k : ℕ) (symbol : Symbol) → Fit symbols → slice_get symbols k ≡ Some symbol → is_name symbol.name ≡ true
name_is symbols k symbol fit here =
    let fits = (and_parts (symbol_fits (are_parameters (take k symbols)) symbol) (not (is_taken (take k symbols) symbol.name)) (fit k symbol here)).0 in
    (and_parts (is_name symbol.name) _ (and_parts (is_name symbol.name && parameter_fits (are_parameters (take k symbols)) symbol) _ (and_parts _ _ fits).0).0).0

pub name_is_name : (symbols : List Symbol) (k : ℕ) → Fit symbols → IsTrue (is_number_of symbols k) → is_name (name_at symbols k) ≡ true
name_is_name symbols k fit below =
    let symbol = there symbols k below in
    ap is_name (name_of_symbol symbols k symbol.0 symbol.1) ∙ name_is symbols k symbol.0 fit symbol.1

-- ---- owners of sections

pub owner_names : (symbols : List Symbol) (name : List ℕ) (owner : Option ℕ) → owner_named symbols name ≡ Some owner → name ≡ section_name symbols owner
owner_names symbols name owner h = by (bytes_eq name main_name) refl h
  where
    by : (b : Bool) → bytes_eq name main_name ≡ b → (if b then Some None else option_map Some (symbol_number symbols name)) ≡ Some owner → name ≡ section_name symbols owner
    by true same e = (bytes_eq-Decides name main_name).0 same ∙ ap (section_name symbols) (some_of None owner e)
    by false other e =
        let number = maps Some (symbol_number symbols name) owner e in
        number_names symbols name number.value number.is ∙ ap (section_name symbols) number.image

-- a parameter has not the name of the body
not_main : (symbols : List Symbol) (k : ℕ) (symbol : Symbol) → Fit symbols → slice_get symbols k ≡ Some symbol → is_parameter symbol.class ≡ true → bytes_eq symbol.name main_name ≡ false
not_main symbols k symbol fit here parameter =
    let fits = (and_parts (symbol_fits (are_parameters (take k symbols)) symbol) (not (is_taken (take k symbols) symbol.name)) (fit k symbol here)).0 in
    let leads = (and_parts (is_name symbol.name) (parameter_fits (are_parameters (take k symbols)) symbol) (and_parts (is_name symbol.name && parameter_fits (are_parameters (take k symbols)) symbol) _ (and_parts _ _ fits).0).0).1 in
    by (is_parameter symbol.class) (are_parameters (take k symbols)) (bytes_eq symbol.name main_name) parameter leads
  where
    by : (p l m : Bool) → p ≡ true → (not p || (l && not m)) ≡ true → m ≡ false
    by p l false is h = refl
    by true true true is h = absurd (cc h)
    by true false true is h = absurd (cc h)
    by false l true is h = absurd (cc is)

owned : (symbols : List Symbol) (k : ℕ) (o : Option Symbol) → slice_get symbols k ≡ o → IsTrue (may_have_section o) → (symbol : Symbol) × (slice_get symbols k ≡ Some symbol) × (is_parameter symbol.class ≡ true)
owned symbols k None is h = absurd (cc h)
owned symbols k (Some symbol) is h = (symbol, is, (and_parts (is_parameter symbol.class) _ h).0)

pub owner_written : (symbols : List Symbol) (owner : Option ℕ) → Fit symbols → IsTrue (owner_fits symbols owner) → owner_named symbols (section_name symbols owner) ≡ Some owner
owner_written symbols None fit fits = refl
owner_written symbols (Some k) fit fits =
    let symbol = owned symbols k (slice_get symbols k) refl fits in
    let name = name_of_symbol symbols k symbol.0 symbol.1 in
    ap (owner_named symbols) name
    ∙ ap (λ (b : Bool). if b then Some None else option_map Some (symbol_number symbols symbol.0.name)) (not_main symbols k symbol.0 fit symbol.1 symbol.2)
    ∙ ap (option_map Some) (number_of_name symbols k symbol.0 fit symbol.1)

pub owner_is_name : (symbols : List Symbol) (owner : Option ℕ) → Fit symbols → IsTrue (owner_fits symbols owner) → is_name (section_name symbols owner) ≡ true
owner_is_name symbols None fit fits = refl
owner_is_name symbols (Some k) fit fits =
    let symbol = owned symbols k (slice_get symbols k) refl fits in
    ap is_name (name_of_symbol symbols k symbol.0 symbol.1) ∙ name_is symbols k symbol.0 fit symbol.1

-- ---- operations

pub op_names : (name : List ℕ) (op : OpName) → op_named name ≡ Some op → name ≡ name_of op
unfolding op_named
op_names name op h = (bytes_eq-Decides name (name_of op)).0 (find_passes (λ op. bytes_eq name (name_of op)) ALL op h)

pub op_written : (op : OpName) → op_named (name_of op) ≡ Some op
unfolding op_named
op_written O.Assign = refl
op_written _ = refl
