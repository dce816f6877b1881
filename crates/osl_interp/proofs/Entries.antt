-- Whether instance values and connections fit a shader, symbol by symbol.
use Rattle.std.proofs.Common.{◌≡◌, ℕ, ◌+◌, ◌<◌, ◌≤◌, ⊎_elim, List, length, Option, Some, None, Bool, true, false, refl, sym, ap, ◌∙◌, subst, arith}
use Rattle.std.specs.Prelude.{slice_get, nat_lt, not, ◌&&◌, ◌||◌, IsTrue}
use Rattle.std.proofs.lemmas.Bool.{cases_lt, lt-ltb}
use Rattle.std.proofs.lemmas.Option.{slice_get_past, slice_get_within}
use Rattle.osl_value.specs.Plain.{Plain}
use Rattle.osl_value.specs.Types.{same_type}
use Rattle.osl_value.proofs.SameTypes.{same_type-true, same_type-refl}
use Rattle.oso_code.specs.declared.raw.Raw.{Raw}
use Rattle.oso_code.specs.declared.symbol.Class.{Class}
use Rattle.oso_code.specs.declared.symbol.Class.TheVariants.{Param, Oparam, Global, Const, Local, Temp}
use Rattle.oso_code.specs.declared.symbol.Symbol.{Symbol}
use Rattle.oso_code.specs.CodeRun.{is_parameter_at}
use Rattle.oso_code.specs.Ops.{type_at, type_of_symbol}
use Rattle.oso_code.specs.Symbols.{is_parameter}
use Rattle.oso_code.proofs.Members.{and_both, both_and}
use Rattle.osl_interp.specs.Calls.{HasOneEach, InputsFit}
use Rattle.osl_interp.specs.Starts.{is_input, has_type, entry_fits, FitTo, EntriesFit}
use Rattle.osl_interp.proofs.Starting.{is_there, below_there, has_entry, some_of}

-- ---- one symbol

record IsEntry (symbol : Symbol) (w : Option Bool) (f : Option (Option Plain)) : Type 0 where
  pub wired : is_parameter symbol.class ≡ is_there w
  pub fixed : is_parameter symbol.class ≡ is_there f
  pub input : w ≡ Some true → symbol.class ≡ Param
  pub typed : (v : Plain) → f ≡ Some (Some v) → v.ty ≡ symbol.ty

is_param : (class : Class) → is_input class ≡ true → class ≡ Param
is_param Param h = refl
is_param Oparam h = absurd (cc h)
is_param Global h = absurd (cc h)
is_param Const h = absurd (cc h)
is_param Local h = absurd (cc h)
is_param Temp h = absurd (cc h)

not_true : (b : Bool) → IsTrue (not b) → b ≡ false
not_true true h = absurd (cc h)
not_true false h = refl

entry_is : (symbol : Symbol) (w : Option Bool) (f : Option (Option Plain)) → IsTrue (entry_fits symbol w f) → IsEntry symbol w f
entry_is symbol None None h = record { wired = not_true (is_parameter symbol.class) h; fixed = not_true (is_parameter symbol.class) h; input = λ is. absurd (cc is); typed = λ v is. absurd (cc is) }
entry_is symbol None (Some v) h = absurd (cc h)
entry_is symbol (Some w) None h = absurd (cc h)
entry_is symbol (Some w) (Some f) h =
    let p = and_both (is_parameter symbol.class && (not w || is_input symbol.class)) (has_type symbol.ty f) h in
    let q = and_both (is_parameter symbol.class) (not w || is_input symbol.class) p.0 in
    record {
      wired = q.0;
      fixed = q.0;
      input = λ is. is_param symbol.class (subst (λ b. IsTrue (not b || is_input symbol.class)) (some_of w true is) q.1);
      typed = λ v is. same_type-true v.ty symbol.ty (subst (λ x. IsTrue (has_type symbol.ty x)) (some_of f (Some v) is) p.1);
    }

is_entry : (symbol : Symbol) (w : Option Bool) (f : Option (Option Plain)) → IsEntry symbol w f → IsTrue (entry_fits symbol w f)
is_entry symbol None None h = ap not h.wired
is_entry symbol None (Some v) h = let q = sym h.wired ∙ h.fixed in absurd (cc q)
is_entry symbol (Some w) None h = let q = sym h.wired ∙ h.fixed in absurd (cc q)
is_entry symbol (Some w) (Some f) h =
    both_and (is_parameter symbol.class && (not w || is_input symbol.class)) (has_type symbol.ty f)
    (both_and (is_parameter symbol.class) (not w || is_input symbol.class) h.wired (input w refl)) (typed f refl)
  where
    input : (b : Bool) → w ≡ b → IsTrue (not b || is_input symbol.class)
    input true is = ap is_input (h.input (ap Some is))
    input false is = refl

    typed : (o : Option Plain) → f ≡ o → IsTrue (has_type symbol.ty o)
    typed None is = refl
    typed (Some v) is = subst (λ ty. IsTrue (same_type v.ty ty)) (h.typed v (ap Some is)) (same_type-refl v.ty)

-- ---- all symbols

pub fit_more : (symbols : List Symbol) (wired : List Bool) (fixed : List (Option Plain)) (at : ℕ) (symbol : Symbol) → FitTo at symbols wired fixed → slice_get symbols at ≡ Some symbol → IsTrue (entry_fits symbol (slice_get wired at) (slice_get fixed at)) → FitTo (at + 1) symbols wired fixed
fit_more symbols wired fixed at symbol so_far here fits k s lt there =
    ⊎_elim (λ (below : k < at). so_far k s below there) (λ (above : at ≤ k).
    let e : k ≡ at = omega (arith, lt, above) in
    let which = some_of symbol s (sym here ∙ ap (slice_get symbols) (sym e) ∙ there) in
    subst (λ j. IsTrue (entry_fits s (slice_get wired j) (slice_get fixed j))) (sym e) (subst (λ x. IsTrue (entry_fits x (slice_get wired at) (slice_get fixed at))) which fits)) (cases_lt k at)

-- a symbol that was looked at
pub record LookedAt (symbols : List Symbol) (wired : List Bool) (fixed : List (Option Plain)) (k : ℕ) (symbol : Symbol) (w : Option Bool) (f : Option (Option Plain)) (fits : Bool) : Type 0 where
  pub here : slice_get symbols k ≡ Some symbol
  pub wired_is : w ≡ slice_get wired k
  pub fixed_is : f ≡ slice_get fixed k
  pub fits_is : fits ≡ entry_fits symbol w f

module _ (symbols : List Symbol) (wired : List Bool) (fixed : List (Option Plain)) (k : ℕ) (symbol : Symbol) (w : Option Bool) (f : Option (Option Plain)) (fits : Bool) (seen : LookedAt symbols wired fixed k symbol w f fits) where
  fits_there : fits ≡ entry_fits symbol (slice_get wired k) (slice_get fixed k)
  fits_there = seen.fits_is ∙ (λ i. entry_fits symbol (seen.wired_is i) (seen.fixed_is i))

  pub refused : fits ≡ false → EntriesFit symbols wired fixed → ⊥
  refused unfit all =
      let q = sym unfit ∙ fits_there ∙ all.each k symbol (slice_get_within symbols k symbol seen.here) seen.here in
      cc q

  pub passed : fits ≡ true → FitTo k symbols wired fixed → FitTo (k + 1) symbols wired fixed
  passed fit so_far = fit_more symbols wired fixed k symbol so_far seen.here (sym fits_there ∙ fit)

none_past : {X : Type 0} (xs : List X) (k : ℕ) → slice_get xs k ≡ None → length xs ≤ k
none_past xs k at = ⊎_elim (λ (lt : k < length xs). let q = sym (lt-ltb k (length xs) lt) ∙ below_there xs k ∙ ap is_there at in absurd (cc q)) (λ (le : length xs ≤ k). le) (cases_lt k (length xs))

module _ (code : Raw) (fixed : List (Option Plain)) (wired : List Bool) where
  one_each : {X : Type 0} (xs : List X) → length xs ≤ length code.symbols → ((k : ℕ) (symbol : Symbol) → slice_get code.symbols k ≡ Some symbol → is_parameter symbol.class ≡ is_there (slice_get xs k)) → HasOneEach code xs
  one_each xs within each k = by (slice_get code.symbols k) refl
    where
      by : (o : Option Symbol) → slice_get code.symbols k ≡ o → is_parameter_at o ≡ nat_lt k (length xs)
      by None at = let le = none_past code.symbols k at in sym (below_there xs k ∙ ap is_there (slice_get_past xs k (omega (arith, within, le))))
      by (Some symbol) at = each k symbol at ∙ sym (below_there xs k)

  not_more : {X : Type 0} (xs : List X) → HasOneEach code xs → length xs ≤ length code.symbols
  not_more xs each =
      ⊎_elim (λ (lt : length code.symbols < length xs).
      let n = length code.symbols in
      let q = sym (ap is_parameter_at (slice_get_past code.symbols n (omega arith))) ∙ each n ∙ lt-ltb n (length xs) lt in
      absurd (cc q)) (λ (le : length xs ≤ length code.symbols). le) (cases_lt (length code.symbols) (length xs))

  module _ (e : EntriesFit code.symbols wired fixed) where
    entry : (k : ℕ) (symbol : Symbol) → slice_get code.symbols k ≡ Some symbol → IsEntry symbol (slice_get wired k) (slice_get fixed k)
    entry k symbol at = entry_is symbol (slice_get wired k) (slice_get fixed k) (e.each k symbol (slice_get_within code.symbols k symbol at) at)

    pub inputs_from : InputsFit code fixed wired
    inputs_from =
        record {
          fixed_each = one_each fixed e.fixed_within (λ k symbol at. (entry k symbol at).fixed);
          wired_each = one_each wired e.wired_within (λ k symbol at. (entry k symbol at).wired);
          no_output = λ k symbol is at. (entry k symbol at).input is;
          types = λ k v is. typed k v is (slice_get code.symbols k) refl;
        }
      where
        typed : (k : ℕ) (v : Plain) → slice_get fixed k ≡ Some (Some v) → (o : Option Symbol) → slice_get code.symbols k ≡ o → v.ty ≡ type_at code.symbols k
        typed k v is None at = let le = none_past code.symbols k at in let lt = slice_get_within fixed k (Some v) is in let w = e.fixed_within in absurd (omega (arith, le, lt, w))
        typed k v is (Some symbol) at = (entry k symbol at).typed v is ∙ sym (ap type_of_symbol at)

  pub entries_from : InputsFit code fixed wired → EntriesFit code.symbols wired fixed
  entries_from h =
      record {
        wired_within = not_more wired h.wired_each;
        fixed_within = not_more fixed h.fixed_each;
        each = λ k symbol lt at.
            is_entry symbol (slice_get wired k) (slice_get fixed k) (record {
              wired = has_entry code wired h.wired_each k symbol at;
              fixed = has_entry code fixed h.fixed_each k symbol at;
              input = λ is. h.no_output k symbol is at;
              typed = λ v is. h.types k v is ∙ ap type_of_symbol at;
            });
      }
