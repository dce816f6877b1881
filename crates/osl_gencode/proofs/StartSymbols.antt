-- The symbols that a shader's code begins with are valid, and are what the code's meaning asks, where each is pushed after those before it.
use Rattle.std.proofs.Common.{◌≡◌, ℕ, zero, suc, ◌+◌, ◌<◌, ◌≤◌, ◌≢◌, ◌^◌, ◌⊎◌, inr, ⊎_elim, List, [], ◌∷◌, ◌++◌, length, map, filter, Option, Some, None, Bool, true, false, not, refl, sym, ap, ◌∙◌, subst, arith}
use Rattle.std.specs.Prelude.{slice_get, take, IsTrue, ◌&&◌, ◌||◌, if◌then◌else◌}
use Rattle.std.specs.List.{list_all, flat_map}
use Rattle.std.specs.Str.{bytes_eq}
use Rattle.std.proofs.lemmas.Bool.{cases_lt}
use Rattle.osl_value.specs.declared.types.Ty.{Ty}
use Rattle.osl_value.specs.AnyValue.{AnyValue, type_of}
use Rattle.osl_value.specs.Types.{same_type}
use Rattle.osl_value.proofs.SameTypes.{same_type-refl}
use Rattle.osl_layer.specs.Globals.{global_text, global_named, type_of_global}
use Rattle.osl_layer.specs.declared.global.GlobalName.{GlobalName}
use Rattle.osl_layer.specs.declared.global.GlobalName.TheVariants as G
use Rattle.osl_typed.specs.declared.shader.TypedParam.{TypedParam}
use Rattle.osl_typed.specs.declared.shader.TypedShader.{TypedShader}
use Rattle.osl_typed.specs.Frames.{leaves_of}
use Rattle.oso_code.specs.declared.symbol.Class.{Class}
use Rattle.oso_code.specs.declared.symbol.Class.TheVariants as C
use Rattle.oso_code.specs.declared.symbol.Symbol.{Symbol}
use Rattle.oso_code.specs.CodeRun.{is_output, is_parameter_at, is_ci}
use Rattle.oso_code.specs.Holding.{is_type}
use Rattle.oso_code.specs.Names.{is_name, main_name}
use Rattle.oso_code.specs.Symbols.{is_parameter, is_global, parameter_fits, global_fits, is_global_type, is_value_of, has_value, metadata_fits, datum_fits, is_empty, symbol_fits, are_parameters, is_taken}
use Rattle.oso_code.proofs.Members.{and_both, both_and}
use Rattle.osl_gencode.specs.Bodies.{Body, shader, Room, IsVariable, number_of, symbol_of, is_const}
use Rattle.osl_gencode.specs.Growth.{Extends}
use Rattle.osl_gencode.specs.OwnNames.{AreNamed, IsOwned, is_own}
use Rattle.osl_gencode.specs.ShaderSymbols.{At, Defaults, IsParam, IsGlobal, IsLocal, IsShaderBody, IsShaderFrame, AreSymbols, ParamFits, ParamsFit, ParamSymbols, GlobalSymbols, LocalSymbols}
use Rattle.osl_gencode.specs.StandsFor.{told_of_param, told_of_symbol}
use Rattle.osl_gencode.proofs.BlockMoves.{le_gap}
use Rattle.osl_gencode.proofs.Growing.{get_seam, get_some, get_there, get_extended, extends_push, push_length}
use Rattle.osl_gencode.proofs.LayerStart.{named_back}
use Rattle.osl_gencode.proofs.OwnSymbols.{none_taken, differ_eq, not_parameter, named_none, named_push, owned_push}
use Rattle.osl_gencode.proofs.RelatedStates.{low_symbol, high_symbol}

-- ---- symbols at places

pub at_later : (P : Symbol → Type 0) (symbols more : List Symbol) (k : ℕ) → Extends symbols more → At P symbols k → At P more k
at_later P symbols more k ext a = record { symbol = a.symbol; here = get_extended symbols more k a.symbol ext a.here; is = a.is }

at_end : (P : Symbol → Type 0) (symbols : List Symbol) (symbol : Symbol) (k : ℕ) → length symbols ≡ k → P symbol → At P (symbols ++ symbol ∷ []) k
at_end P symbols symbol k e is = record { symbol = symbol; here = ap (slice_get (symbols ++ symbol ∷ [])) (sym e) ∙ get_seam symbols symbol; is = is }

same_at : (symbols : List Symbol) (k : ℕ) (x y : Symbol) → slice_get symbols k ≡ Some x → slice_get symbols k ≡ Some y → x ≡ y
same_at symbols k x y p q = let e : Some x ≡ Some y = sym p ∙ q in cc e

all_by : (test : Symbol → Bool) (xs : List Symbol) → ((k : ℕ) (x : Symbol) → slice_get xs k ≡ Some x → test x ≡ true) → list_all test xs ≡ true
all_by test [] h = refl
all_by test (x ∷ xs) h = both_and (test x) (list_all test xs) (h 0 x refl) (all_by test xs (λ k y at. h (suc k) y at))

all_get : (test : Symbol → Bool) (xs : List Symbol) (k : ℕ) (x : Symbol) → list_all test xs ≡ true → slice_get xs k ≡ Some x → test x ≡ true
all_get test [] k x h at = absurd (cc at)
all_get test (y ∷ xs) zero x h at = let e : Some y ≡ Some x = at in let s : y ≡ x = cc e in ap test (sym s) ∙ (and_both (test y) (list_all test xs) h).0
all_get test (y ∷ xs) (suc k) x h at = all_get test xs k x ((and_both (test y) (list_all test xs) h).1) at

get_taken : (xs : List Symbol) (n k : ℕ) → k < n → slice_get (take n xs) k ≡ slice_get xs k
get_taken [] zero k lt = refl
get_taken [] (suc n) k lt = refl
get_taken (x ∷ xs) zero k lt = absurd (omega (arith, lt))
get_taken (x ∷ xs) (suc n) zero lt = refl
get_taken (x ∷ xs) (suc n) (suc k) lt = get_taken xs n k (omega (arith, lt))

-- ---- classes

pub is_param : (t : Bool) (class : Class) → class ≡ (if t then C.Oparam else C.Param) → is_parameter class ≡ true
is_param true class e = ap is_parameter e
is_param false class e = ap is_parameter e

no_global : (t : Bool) (class : Class) → class ≡ (if t then C.Oparam else C.Param) → is_global class ≡ false
no_global true class e = ap is_global e
no_global false class e = ap is_global e

no_const : (t : Bool) (class : Class) → class ≡ (if t then C.Oparam else C.Param) → is_const class ≡ false
no_const true class e = ap is_const e
no_const false class e = ap is_const e

says_output : (t : Bool) (class : Class) → class ≡ (if t then C.Oparam else C.Param) → is_output class ≡ t
says_output true class e = ap is_output e
says_output false class e = ap is_output e

any_type : (t : Bool) (class : Class) (name : List ℕ) (ty : Ty) → class ≡ (if t then C.Oparam else C.Param) → global_fits class name ty ≡ true
any_type true class name ty e = ap (λ c. global_fits c name ty) e
any_type false class name ty e = ap (λ c. global_fits c name ty) e

fits_by : (leading : Bool) (symbol : Symbol) → IsTrue (is_name symbol.name) → IsTrue (parameter_fits leading symbol) → IsTrue (is_type symbol.ty) → IsTrue (global_fits symbol.class symbol.name symbol.ty) → IsTrue (is_value_of (has_value symbol.class symbol.ty) symbol.ty symbol.value) → IsTrue (metadata_fits symbol.class symbol.metas) → IsTrue (symbol_fits leading symbol)
fits_by leading symbol name param type global value metas =
    both_and ((is_name symbol.name && parameter_fits leading symbol) && (is_type symbol.ty && global_fits symbol.class symbol.name symbol.ty)) (is_value_of (has_value symbol.class symbol.ty) symbol.ty symbol.value && metadata_fits symbol.class symbol.metas)
    (both_and (is_name symbol.name && parameter_fits leading symbol) (is_type symbol.ty && global_fits symbol.class symbol.name symbol.ty) (both_and (is_name symbol.name) (parameter_fits leading symbol) name param) (both_and (is_type symbol.ty) (global_fits symbol.class symbol.name symbol.ty) type global))
    (both_and (is_value_of (has_value symbol.class symbol.ty) symbol.ty symbol.value) (metadata_fits symbol.class symbol.metas) value metas)

-- ---- parameters

module _ (t : TypedShader) (defaults : Defaults) (fit : ParamsFit t) where
  pub params_none : ParamSymbols t defaults 0 []
  params_none = record { count = refl; each = λ k p lt at. absurd (omega (arith, lt)); named = named_none }

  -- one parameter more, with the value that its class and type ask
  pub params_push : (n : ℕ) (p : TypedParam) (symbols : List Symbol) (symbol : Symbol) → slice_get t.params n ≡ Some p → IsParam p (defaults n) symbol → IsTrue (is_value_of (has_value symbol.class symbol.ty) symbol.ty symbol.value) → ParamSymbols t defaults n symbols → ParamSymbols t defaults (n + 1) (symbols ++ symbol ∷ [])
  params_push n p symbols symbol at is value done = record {
    count = (let c = done.count in let l = push_length symbols symbol in omega (arith, c, l));
    each = λ k q lt here. ⊎_elim (λ (l : k < n). at_later (IsParam q (defaults k)) symbols (symbols ++ symbol ∷ []) k (extends_push symbols symbol) (done.each k q l here)) (λ (g : n ≤ k).
        let e : k ≡ n = omega (arith, lt, g) in
        let same : Some p ≡ Some q = sym at ∙ ap (slice_get t.params) (sym e) ∙ here in
        let pq : p ≡ q = cc same in
        subst (λ z. At (IsParam z (defaults k)) (symbols ++ symbol ∷ []) k) pq (subst (λ z. At (IsParam p (defaults z)) (symbols ++ symbol ∷ []) z) (sym e) (at_end (IsParam p (defaults n)) symbols symbol n done.count is))) (cases_lt k n);
    named = named_push symbols symbol done.named (both_and (symbol_fits (are_parameters symbols) symbol) (not (is_taken symbols symbol.name)) valid (ap not free)) (inr (ap is_own is.name ∙ one.word));
  }
    where
      one : ParamFits p
      one = fit.each n p at

      earlier : (k : ℕ) (x : Symbol) → slice_get symbols k ≡ Some x → (q : TypedParam) × (slice_get t.params k ≡ Some q) × IsParam q (defaults k) x × (k < n)
      earlier k x here =
          let l = get_some symbols k x here in
          let c = done.count in let m = get_some t.params n p at in
          let q = get_there t.params k (omega (arith, l, c, m)) in
          let a = done.each k (q.0) (omega (arith, l, c)) (q.1) in
          (q.0, q.1, subst (IsParam (q.0) (defaults k)) (same_at symbols k a.symbol x a.here here) a.is, omega (arith, l, c))

      leads : are_parameters symbols ≡ true
      leads = all_by (λ s. is_parameter s.class) symbols (λ k x here. let a = earlier k x here in is_param (a.0).output x.class ((a.2).class))

      free : is_taken symbols symbol.name ≡ false
      free = none_taken (λ s. bytes_eq symbol.name s.name) symbols (λ k x here.
          let a = earlier k x here in
          ap (λ m. bytes_eq m x.name) is.name ∙ ap (bytes_eq p.name) ((a.2).name) ∙ fit.differ k n (a.0) p (a.3) (a.1) at)

      param : is_parameter symbol.class ≡ true
      param = is_param p.output symbol.class is.class

      valid : IsTrue (symbol_fits (are_parameters symbols) symbol)
      valid =
          fits_by (are_parameters symbols) symbol
          (ap is_name is.name ∙ one.name)
          (ap (λ c. not c || (are_parameters symbols && not (bytes_eq symbol.name main_name))) param ∙ ap (λ l. l && not (bytes_eq symbol.name main_name)) leads ∙ ap (λ m. not (bytes_eq m main_name)) is.name ∙ ap not one.body)
          (ap is_type is.type ∙ one.type)
          (any_type p.output symbol.class symbol.name symbol.ty is.class)
          value
          (ap (λ c. if c then list_all datum_fits symbol.metas else is_empty symbol.metas) param ∙ ap (list_all datum_fits) is.metas ∙ one.metas)

  -- ---- global variables

  pub globals_none : (symbols : List Symbol) → ParamSymbols t defaults (length t.params) symbols → GlobalSymbols t defaults 0 symbols
  globals_none symbols done = record {
    count = (let c = done.count in omega (arith, c));
    params = λ k p at. done.each k p (get_some t.params k p at) at;
    globals = λ g lt. absurd (omega (arith, lt));
    named = done.named;
  }

numbered : (m : ℕ) → m < 7 → (g : GlobalName) × (number_of g ≡ m)
numbered zero lt = (G.P, refl)
numbered (suc zero) lt = (G.N, refl)
numbered (suc (suc zero)) lt = (G.Ng, refl)
numbered (suc (suc (suc zero))) lt = (G.I, refl)
numbered (suc (suc (suc (suc zero)))) lt = (G.U, refl)
numbered (suc (suc (suc (suc (suc zero))))) lt = (G.V, refl)
numbered (suc (suc (suc (suc (suc (suc zero)))))) lt = (G.Ci, refl)
numbered (suc (suc (suc (suc (suc (suc (suc n))))))) lt = absurd (omega (arith, lt))

abbrev by_number : ℕ → Option GlobalName
by_number zero = Some G.P
by_number (suc zero) = Some G.N
by_number (suc (suc zero)) = Some G.Ng
by_number (suc (suc (suc zero))) = Some G.I
by_number (suc (suc (suc (suc zero)))) = Some G.U
by_number (suc (suc (suc (suc (suc zero))))) = Some G.V
by_number (suc (suc (suc (suc (suc (suc n)))))) = Some G.Ci

known_number : (g : GlobalName) → by_number (number_of g) ≡ Some g
known_number G.P = refl
known_number G.N = refl
known_number G.Ng = refl
known_number G.I = refl
known_number G.U = refl
known_number G.V = refl
known_number G.Ci = refl

same_number : (a b : GlobalName) → number_of a ≡ number_of b → a ≡ b
same_number a b e = let s : Some a ≡ Some b = sym (known_number a) ∙ ap by_number e ∙ known_number b in cc s

number_low : (g : GlobalName) → number_of g < 7
number_low G.P = omega arith
number_low G.N = omega arith
number_low G.Ng = omega arith
number_low G.I = omega arith
number_low G.U = omega arith
number_low G.V = omega arith
number_low G.Ci = omega arith

global_name : (g : GlobalName) → IsTrue (is_name (global_text g))
global_name G.P = refl
global_name G.N = refl
global_name G.Ng = refl
global_name G.I = refl
global_name G.U = refl
global_name G.V = refl
global_name G.Ci = refl

global_word : (g : GlobalName) → is_own (global_text g) ≡ false
global_word G.P = refl
global_word G.N = refl
global_word G.Ng = refl
global_word G.I = refl
global_word G.U = refl
global_word G.V = refl
global_word G.Ci = refl

global_type : (g : GlobalName) → IsTrue (is_type (type_of_global g))
global_type G.P = refl
global_type G.N = refl
global_type G.Ng = refl
global_type G.I = refl
global_type G.U = refl
global_type G.V = refl
global_type G.Ci = refl

texts_differ : (g h : GlobalName) → number_of g ≢ number_of h → global_text g ≢ global_text h
texts_differ g h ne e = ne (let s : Some g ≡ Some h = sym (named_back g) ∙ ap global_named e ∙ named_back h in ap (λ o. elim o [ None ↦ 0 | Some x ↦ number_of x ]) s)

module _ (t : TypedShader) (defaults : Defaults) (fit : ParamsFit t) where
  pub globals_push : (g : GlobalName) (symbols : List Symbol) (symbol : Symbol) → IsGlobal g symbol → GlobalSymbols t defaults (number_of g) symbols → GlobalSymbols t defaults (number_of g + 1) (symbols ++ symbol ∷ [])
  globals_push g symbols symbol is done = record {
    count = (let c = done.count in let l = push_length symbols symbol in omega (arith, c, l));
    params = λ k p at. at_later (IsParam p (defaults k)) symbols (symbols ++ symbol ∷ []) k (extends_push symbols symbol) (done.params k p at);
    globals = λ h lt. ⊎_elim (λ (l : number_of h < number_of g). at_later (IsGlobal h) symbols (symbols ++ symbol ∷ []) (length t.params + number_of h) (extends_push symbols symbol) (done.globals h l)) (λ (m : number_of g ≤ number_of h).
        let e : number_of h ≡ number_of g = omega (arith, lt, m) in
        let c = done.count in
        subst (λ z. At (IsGlobal z) (symbols ++ symbol ∷ []) (length t.params + number_of z)) (same_number g h (sym e)) (at_end (IsGlobal g) symbols symbol (length t.params + number_of g) c is)) (cases_lt (number_of h) (number_of g));
    named = named_push symbols symbol done.named (both_and (symbol_fits (are_parameters symbols) symbol) (not (is_taken symbols symbol.name)) valid (ap not free)) (inr (ap is_own is.name ∙ global_word g));
  }
    where
      free : is_taken symbols symbol.name ≡ false
      free = none_taken (λ s. bytes_eq symbol.name s.name) symbols (λ k x here.
          ap (λ m. bytes_eq m x.name) is.name ∙ ⊎_elim (λ (l : k < length t.params).
          let p = get_there t.params k l in
          let a = done.params k (p.0) (p.1) in
          let named : x.name ≡ (p.0).name = ap (λ s. s.name) (sym (same_at symbols k a.symbol x a.here here)) ∙ a.is.name in
          differ_eq (global_text g) x.name (λ e. absurd (let f : Some g ≡ None = sym (named_back g) ∙ ap global_named (e ∙ named) ∙ (fit.each k (p.0) (p.1)).free in cc f))) (λ (m : length t.params ≤ k).
          let l = get_some symbols k x here in
          let c = done.count in
          let low = number_low g in
          let d = le_gap (length t.params) k m in
          let de = d.1 in
          let h = numbered (d.0) (omega (arith, l, c, low, de)) in
          let he = h.1 in
          let a = done.globals (h.0) (omega (arith, l, c, de, he)) in
          let place : length t.params + number_of (h.0) ≡ k = omega (arith, de, he) in
          let named : x.name ≡ global_text (h.0) = ap (λ s. s.name) (sym (same_at symbols k a.symbol x (ap (slice_get symbols) (sym place) ∙ a.here) here)) ∙ a.is.name in
          differ_eq (global_text g) x.name (λ e. texts_differ g (h.0) (λ z. absurd (omega (arith, z, he, de, l, c))) (e ∙ named))) (cases_lt k (length t.params)))

      valid : IsTrue (symbol_fits (are_parameters symbols) symbol)
      valid =
          fits_by (are_parameters symbols) symbol
          (ap is_name is.name ∙ global_name g)
          (not_parameter (are_parameters symbols) symbol (ap is_parameter is.class))
          (ap is_type is.type ∙ global_type g)
          (ap (λ c. global_fits c symbol.name symbol.ty) is.class ∙ ap (λ m. is_global_type (global_named m) symbol.ty) is.name ∙ ap (λ o. is_global_type o symbol.ty) (named_back g) ∙ ap (λ u. same_type u (type_of_global g)) is.type ∙ same_type-refl (type_of_global g))
          (ap (λ c. is_value_of (has_value c symbol.ty) symbol.ty symbol.value) is.class ∙ ap (is_value_of false symbol.ty) is.value)
          (ap (λ c. metadata_fits c symbol.metas) is.class ∙ ap is_empty is.metas)

-- ---- other variables

module _ (t : TypedShader) (defaults : Defaults) where
  abbrev types : List Ty
  types = flat_map (leaves_of t.structures) t.frame

  pub locals_none : (symbols : List Symbol) → GlobalSymbols t defaults 7 symbols → LocalSymbols t defaults 0 symbols
  locals_none symbols done = record {
    count = (let c = done.count in omega (arith, c));
    params = done.params;
    globals = λ g. done.globals g (number_low g);
    locals = λ k ty le lt at. absurd (omega (arith, le, lt));
    named = done.named;
  }

  -- one leaf more, with a name of the compiler
  pub locals_push : (n : ℕ) (ty : Ty) (symbols : List Symbol) (symbol : Symbol) → slice_get types (length t.params + n) ≡ Some ty → IsLocal ty symbol → length symbols < 2 ^ 64 → IsOwned (length symbols) symbol → LocalSymbols t defaults n symbols → LocalSymbols t defaults (n + 1) (symbols ++ symbol ∷ [])
  locals_push n ty symbols symbol at is low owned done = record {
    count = (let c = done.count in let l = push_length symbols symbol in omega (arith, c, l));
    params = λ k p here. at_later (IsParam p (defaults k)) symbols (symbols ++ symbol ∷ []) k (extends_push symbols symbol) (done.params k p here);
    globals = λ g. at_later (IsGlobal g) symbols (symbols ++ symbol ∷ []) (length t.params + number_of g) (extends_push symbols symbol) (done.globals g);
    locals = λ k u le lt here. ⊎_elim (λ (l : k < length t.params + n). at_later (IsLocal u) symbols (symbols ++ symbol ∷ []) (7 + k) (extends_push symbols symbol) (done.locals k u le l here)) (λ (g : length t.params + n ≤ k).
        let e : k ≡ length t.params + n = omega (arith, lt, g) in
        let same : Some ty ≡ Some u = sym at ∙ ap (slice_get types) (sym e) ∙ here in
        let c = done.count in
        let tu : ty ≡ u = cc same in
        subst (λ z. At (IsLocal z) (symbols ++ symbol ∷ []) (7 + k)) tu (at_end (IsLocal ty) symbols symbol (7 + k) (omega (arith, c, e)) is)) (cases_lt k (length t.params + n));
    named = owned_push symbols symbol low done.named owned;
  }

  -- ---- the whole

  module _ (b : Body) (n : ℕ) (first symbols : List Symbol) (body : IsShaderBody t b) (frame : IsShaderFrame t) (done : LocalSymbols t defaults n first) (all : length types ≤ length t.params + n) (ext : Extends first symbols) where
    local_at : (k : ℕ) (ty : Ty) → length t.params ≤ k → slice_get types k ≡ Some ty → At (IsLocal ty) symbols (7 + k)
    local_at k ty le at = let l = get_some types k ty at in at_later (IsLocal ty) first symbols (7 + k) ext (done.locals k ty le (omega (arith, l, all)) at)

    param_at : (k : ℕ) (p : TypedParam) → slice_get t.params k ≡ Some p → At (IsParam p (defaults k)) symbols k
    param_at k p at = at_later (IsParam p (defaults k)) first symbols k ext (done.params k p at)

    global_at : (g : GlobalName) → At (IsGlobal g) symbols (length t.params + number_of g)
    global_at g = at_later (IsGlobal g) first symbols (length t.params + number_of g) ext (done.globals g)

    -- no parameter comes after a global
    other_at : AreNamed symbols → (k : ℕ) → length t.params ≤ k → is_parameter_at (slice_get symbols k) ≡ false
    other_at named k le = by_symbol (slice_get symbols k) refl
      where
        g : At (IsGlobal G.P) symbols (length t.params)
        g = let e : length t.params + 0 ≡ length t.params = omega arith in subst (At (IsGlobal G.P) symbols) e (global_at G.P)

        plain : is_parameter g.symbol.class ≡ false
        plain = ap is_parameter g.is.class

        leads : (l c m : Bool) → (not c || (l && m)) ≡ true → c ≡ true → l ≡ true
        leads true c m h e = refl
        leads false c m h e = ap (λ z. not z || (false && m)) (sym e) ∙ h

        by_class : (x : Symbol) (c : Bool) → slice_get symbols k ≡ Some x → is_parameter x.class ≡ c → c ≡ false
        by_class x false here is = refl
        by_class x true here is = ⊎_elim (λ (l : length t.params < k).
            let before = take k symbols in
            let fits = and_both (symbol_fits (are_parameters before) x) (not (is_taken before x.name)) (named.fit k x here) in
            let parts = and_both ((is_name x.name && parameter_fits (are_parameters before) x) && (is_type x.ty && global_fits x.class x.name x.ty)) (is_value_of (has_value x.class x.ty) x.ty x.value && metadata_fits x.class x.metas) fits.0 in
            let firsts = and_both (is_name x.name && parameter_fits (are_parameters before) x) (is_type x.ty && global_fits x.class x.name x.ty) parts.0 in
            let param = (and_both (is_name x.name) (parameter_fits (are_parameters before) x) firsts.0).1 in
            let lead = leads (are_parameters before) (is_parameter x.class) (not (bytes_eq x.name main_name)) param is in
            let yes = all_get (λ s. is_parameter s.class) before (length t.params) g.symbol lead (get_taken symbols k (length t.params) l ∙ g.here) in
            absurd (let f : true ≡ false = sym yes ∙ plain in cc f)) (λ (h : k ≤ length t.params).
            let e : k ≡ length t.params = omega (arith, le, h) in
            let same = same_at symbols k g.symbol x (ap (slice_get symbols) e ∙ g.here) here in
            sym is ∙ ap (λ s. is_parameter s.class) (sym same) ∙ plain) (cases_lt (length t.params) k)

        by_symbol : (o : Option Symbol) → slice_get symbols k ≡ o → is_parameter_at (slice_get symbols k) ≡ false
        by_symbol None here = ap is_parameter_at here
        by_symbol (Some x) here = ap is_parameter_at here ∙ by_class x (is_parameter x.class) here refl

    -- the symbols are what the meaning of the code asks
    pub shader_symbols : AreNamed symbols → ((k : ℕ) → length t.params ≤ k → defaults k ≡ None) → ((k : ℕ) (p : TypedParam) (v : AnyValue) → slice_get t.params k ≡ Some p → defaults k ≡ Some v → type_of v ≡ p.ty) → AreSymbols t defaults b symbols
    shader_symbols named few typed = record { body = body; frame = frame; params = param_at; globals = global_at; locals = local_at; others = other_at named; few = few; typed = typed }

    no_local_const : (class : Class) → (class ≡ C.Local) ⊎ (class ≡ C.Temp) → is_const class ≡ false
    no_local_const class is = ⊎_elim (λ e. ap is_const e) (λ e. ap is_const e) is

    pub params_within : length t.params ≤ length types
    params_within = up_to (length t.params) (omega arith)
      where
        up_to : (m : ℕ) → m ≤ length t.params → m ≤ length types
        up_to zero le = omega arith
        up_to (suc m) le = let p = get_there t.params m (omega (arith, le)) in let h = get_some types m (p.0).ty (frame.first m (p.0) (p.1)) in omega (arith, h)

    -- and the variables of the body have them
    pub shader_room : Room b symbols
    shader_room =
        let sp = body.split in let sh = body.shift in let gl = body.globals_at in let cn = body.connected in
        let ty = ap length body.types in let pw = params_within in let c = done.count in let l = ext.longer in
        record {
          laid = shader body.start (omega (arith, sp, gl)) sh (omega (arith, sp, cn));
          splits = omega (arith, sp, ty, pw);
          within = omega (arith, sh, ty, c, l, all);
          leaves = λ k u at. let here = sym (ap (λ z. slice_get z k) body.types) ∙ at in ⊎_elim (λ (lt : k < length t.params).
              let p = get_there t.params k lt in
              let a = param_at k (p.0) (p.1) in
              let same : Some (p.0).ty ≡ Some u = sym (frame.first k (p.0) (p.1)) ∙ here in
              subst (λ z. IsVariable symbols z u) (sym (low_symbol b k (omega (arith, lt, sp)))) (record { symbol = a.symbol; here = a.here; type = a.is.type ∙ cc same; free = no_const (p.0).output a.symbol.class a.is.class })) (λ (le : length t.params ≤ k).
              let a = local_at k u le here in
              let e : symbol_of b k ≡ 7 + k = high_symbol b k (omega (arith, le, sp)) ∙ ap (λ z. z + k) sh in
              subst (λ z. IsVariable symbols z u) (sym e) (record { symbol = a.symbol; here = a.here; type = a.is.type; free = no_local_const a.symbol.class a.is.class })) (cases_lt k (length t.params));
          globals = λ g.
              let a = global_at g in
              subst (λ z. IsVariable symbols (z + number_of g) (type_of_global g)) (sym gl) (record { symbol = a.symbol; here = a.here; type = a.is.type; free = ap is_const a.is.class });
        }

    -- `Ci` is the first symbol of its name
    pub ci_first : (k : ℕ) (x : Symbol) → k < length t.params + 6 → slice_get symbols k ≡ Some x → is_ci x ≡ false
    ci_first k x lt here = ⊎_elim (λ (l : k < length t.params).
        let p = get_there t.params k l in
        let a = param_at k (p.0) (p.1) in
        let same = same_at symbols k a.symbol x a.here here in
        ap (λ s. is_ci s) (sym same) ∙ ap (λ c. c && bytes_eq a.symbol.name (global_text G.Ci)) (no_global (p.0).output a.symbol.class a.is.class)) (λ (le : length t.params ≤ k).
        let d = le_gap (length t.params) k le in let de = d.1 in
        let h = numbered (d.0) (omega (arith, lt, de)) in let he = h.1 in
        let a = global_at (h.0) in
        let place : length t.params + number_of (h.0) ≡ k = omega (arith, de, he) in
        let same = same_at symbols k a.symbol x (ap (slice_get symbols) (sym place) ∙ a.here) here in
        ap (λ s. is_ci s) (sym same) ∙ ap (λ c. is_global c && bytes_eq a.symbol.name (global_text G.Ci)) a.is.class ∙ ap (λ m. bytes_eq m (global_text G.Ci)) a.is.name
        ∙ differ_eq (global_text (h.0)) (global_text G.Ci) (texts_differ (h.0) G.Ci (λ z. absurd (omega (arith, z, he, de, lt))))) (cases_lt k (length t.params))

    -- what is told of the parameters is what the source tells
    pub params_told : AreNamed symbols → map told_of_symbol (filter (λ symbol. is_parameter symbol.class) symbols) ≡ map told_of_param t.params
    params_told named = told t.params symbols (λ k p at. let a = param_at k p at in record { symbol = a.symbol; here = a.here; is = (is_param p.output a.symbol.class a.is.class, (λ j. record { output = says_output p.output a.symbol.class a.is.class j; ty = a.is.type j; name = a.is.name j; metas = a.is.metas j })) }) (other_at named)
      where
        IsTold : TypedParam → Symbol → Type 0
        IsTold p symbol = (is_parameter symbol.class ≡ true) × (told_of_symbol symbol ≡ told_of_param p)

        none_left : (xs : List Symbol) → ((k : ℕ) → is_parameter_at (slice_get xs k) ≡ false) → map told_of_symbol (filter (λ symbol. is_parameter symbol.class) xs) ≡ []
        none_left [] none = refl
        none_left (x ∷ xs) none = ap (λ c. map told_of_symbol (if c then x ∷ filter (λ symbol. is_parameter symbol.class) xs else filter (λ symbol. is_parameter symbol.class) xs)) (none 0) ∙ none_left xs (λ k. none (suc k))

        told : (ps : List TypedParam) (xs : List Symbol) → ((k : ℕ) (p : TypedParam) → slice_get ps k ≡ Some p → At (IsTold p) xs k) → ((k : ℕ) → length ps ≤ k → is_parameter_at (slice_get xs k) ≡ false) → map told_of_symbol (filter (λ symbol. is_parameter symbol.class) xs) ≡ map told_of_param ps
        told [] xs are none = none_left xs (λ k. none k (omega arith))
        told (p ∷ ps) [] are none = absurd (let a = are 0 p refl in let h = a.here in cc h)
        told (p ∷ ps) (x ∷ xs) are none =
            let a = are 0 p refl in
            let h : Some x ≡ Some a.symbol = a.here in
            let s : x ≡ a.symbol = cc h in
            ap (λ c. map told_of_symbol (if c then x ∷ filter (λ symbol. is_parameter symbol.class) xs else filter (λ symbol. is_parameter symbol.class) xs)) (ap (λ z. is_parameter z.class) s ∙ a.is.0)
            ∙ ap (λ z. z ∷ map told_of_symbol (filter (λ symbol. is_parameter symbol.class) xs)) (ap told_of_symbol s ∙ a.is.1)
            ∙ ap (λ l. told_of_param p ∷ l) (told ps xs (λ k q e. let c = are (suc k) q e in record { symbol = c.symbol; here = c.here; is = c.is }) (λ k le. none (suc k) (omega (arith, le))))
