-- The machine at the start of a run.
use Rattle.std.proofs.Common.{◌≡◌, ℕ, zero, suc, ◌+◌, ◌<◌, ◌≤◌, ⊎_elim, List, [], ◌∷◌, ◌++◌, length, drop, Option, Some, None, Bool, true, false, refl, sym, ap, ◌∙◌, subst, arith}
use Rattle.std.specs.Prelude.{slice_get, nat_lt, nat_le, not, ◌&&◌, ◌==◌, if◌then◌else◌, IsTrue, take}
use Rattle.std.proofs.lemmas.Bool.{cases_lt, ltb-true, lt-ltb, eqb-true}
use Rattle.std.proofs.Math.ListN.{get_or-append}
use Rattle.std.proofs.Math.Seq.{get_or-append_seam}
use Rattle.std.proofs.lemmas.List.{get_or_past, append_assoc, append-nil, drop_all, map-append, length-append}
use Rattle.std.proofs.lemmas.Option.{slice_get_within}
use Rattle.osl_value.specs.declared.point.Point.{Point}
use Rattle.osl_value.specs.declared.types.Base.TheVariants as B
use Rattle.osl_value.specs.declared.types.Ty.{Ty}
use Rattle.osl_value.specs.AnyValue.{AnyValue, Of, Parts, argument, type_of, zero_value}
use Rattle.osl_value.specs.Plain.{Plain, zero_of}
use Rattle.osl_value.specs.Types.{only, same_base, same_type, longest_array}
use Rattle.osl_value.proofs.SameTypes.{same_base-true, same_type-true}
use Rattle.osl_apply.specs.declared.slot.Slot.{Slot}
use Rattle.osl_apply.specs.Operands.{values}
use Rattle.osl_apply.specs.Slots.{seen}
use Rattle.osl_layer.specs.Layer as L
use Rattle.osl_layer.specs.declared.global.GlobalName.{GlobalName}
use Rattle.osl_layer.specs.declared.global.GlobalName.TheVariants as G
use Rattle.osl_layer.specs.Globals.{global_named, type_of_global, global_at}
use Rattle.oso_code.specs.declared.raw.Raw.{Raw}
use Rattle.oso_code.specs.declared.symbol.Class.{Class}
use Rattle.oso_code.specs.declared.symbol.Class.TheVariants.{Param, Oparam, Global, Const, Local, Temp}
use Rattle.oso_code.specs.declared.symbol.Symbol.{Symbol}
use Rattle.oso_code.specs.CodeRun.{is_parameter_at, parameter_start, global_start, class_start, symbol_start, stated, start_of, layer_run}
use Rattle.oso_code.specs.Holding.{is_closure, is_type, makes_up}
use Rattle.oso_code.specs.Names.{is_name}
use Rattle.oso_code.specs.Ops.{type_at, type_of_symbol}
use Rattle.oso_code.specs.Symbols.{is_parameter, parameter_fits, is_global_type, global_fits, has_value, is_value_of, metadata_fits, symbol_fits, are_parameters, is_taken}
use Rattle.oso_code.specs.Valid.{IsValid}
use Rattle.oso_code.proofs.Members.{and_both}
use Rattle.osl_interp.specs.Known.{is_wired, is_given, is_wired_at}
use Rattle.osl_interp.specs.Calls.{HasOneEach, InputsFit, begun, first_known, first_knowns}
use Rattle.osl_interp.specs.Meaning.{Configuration, held_values, state_of, later_sections, meaning}
use Rattle.osl_interp.specs.Ready.{IsLaid, Ready}
use Rattle.osl_interp.specs.Progress.{AgreesAt, Agrees, given_reads}
use Rattle.osl_interp.specs.Starts.{known_from, knowns, parameter_slot, slot_by, first_value, AreFirst, first_configuration, BeginsAt}
use Rattle.osl_interp.specs.Whole.{Begins}
use Rattle.osl_interp.specs.View.{Plan, seen_knowns, progress_of, Follows, IsRunOf}
use Rattle.osl_interp.specs.declared.known.Known.{Known}
use Rattle.osl_interp.specs.declared.layer_run.Status.TheVariants as T
use Rattle.osl_interp.proofs.Agreeing.{knowns_first, reads_same}
use Rattle.osl_interp.proofs.Laying.{length_values}
use Rattle.osl_interp.proofs.Sections.{between_comes}

-- ---- lists with one entry for each parameter

pub some_of : {X : Type 0} (a b : X) → Some a ≡ Some b → a ≡ b
some_of a b h = cc

abbrev pub is_there : {X : Type 0} → Option X → Bool
is_there None = false
is_there (Some x) = true

pub below_there : {X : Type 0} (xs : List X) (k : ℕ) → nat_lt k (length xs) ≡ is_there (slice_get xs k)
below_there [] k = by (nat_lt k 0) refl
  where
    by : (b : Bool) → nat_lt k 0 ≡ b → b ≡ false
    by true h = let lt = ltb-true k 0 h in absurd (omega (arith, lt))
    by false h = refl
below_there (x ∷ xs) zero = lt-ltb 0 (length (x ∷ xs)) (omega arith)
below_there (x ∷ xs) (suc k) = by (nat_lt k (length xs)) refl ∙ below_there xs k
  where
    by : (b : Bool) → nat_lt k (length xs) ≡ b → nat_lt (suc k) (length (x ∷ xs)) ≡ b
    by true h = let lt = ltb-true k (length xs) h in lt-ltb (suc k) (length (x ∷ xs)) (omega (arith, lt))
    by false h = over (nat_lt (suc k) (length (x ∷ xs))) refl
      where
        over : (c : Bool) → nat_lt (suc k) (length (x ∷ xs)) ≡ c → c ≡ false
        over true g = let lt = ltb-true (suc k) (length (x ∷ xs)) g in let q = sym (lt-ltb k (length xs) (omega (arith, lt))) ∙ h in absurd (cc q)
        over false g = refl

pub same_length : (a b : ℕ) → ((k : ℕ) → nat_lt k a ≡ nat_lt k b) → a ≡ b
same_length a b h =
    ⊎_elim (λ (lt : a < b). let l = ltb-true a a (h a ∙ lt-ltb a b lt) in absurd (omega (arith, l))) (λ (le : b ≤ a).
    ⊎_elim (λ (lt : b < a). let l = ltb-true b b (sym (h b) ∙ lt-ltb b a lt) in absurd (omega (arith, l))) (λ (ge : a ≤ b). omega (arith, le, ge)) (cases_lt b a)) (cases_lt a b)

-- ---- what is known of inputs

abbrev known_of : Option Bool → Option (Option Plain) → Option Known
known_of None fixed = None
known_of (Some wired) None = None
known_of (Some wired) (Some v) = Some (known_from wired v)

known_none : (w : Option Bool) → None ≡ known_of w None
known_none None = refl
known_none (Some w) = refl

knowns_at : (wired : List Bool) (fixed : List (Option Plain)) (k : ℕ) → slice_get (knowns wired fixed) k ≡ known_of (slice_get wired k) (slice_get fixed k)
knowns_at [] fixed k = refl
knowns_at (w ∷ wired) [] k = known_none (slice_get (w ∷ wired) k)
knowns_at (w ∷ wired) (v ∷ fixed) zero = refl
knowns_at (w ∷ wired) (v ∷ fixed) (suc k) = knowns_at wired fixed k

knowns_length : (wired : List Bool) (fixed : List (Option Plain)) → length wired ≡ length fixed → length (knowns wired fixed) ≡ length wired
knowns_length [] fixed h = refl
knowns_length (w ∷ wired) [] h = absurd (omega (arith, h))
knowns_length (w ∷ wired) (v ∷ fixed) h = ap suc (knowns_length wired fixed (omega (arith, h)))

-- one parameter more
pub knowns_more : (wired : List Bool) (fixed : List (Option Plain)) (k : ℕ) (w : Bool) (v : Option Plain) → slice_get wired k ≡ Some w → slice_get fixed k ≡ Some v → knowns (drop k wired) (drop k fixed) ≡ known_from w v ∷ knowns (drop (k + 1) wired) (drop (k + 1) fixed)
knowns_more [] fixed k w v at there = absurd (cc at)
knowns_more (w0 ∷ wired) [] k w v at there = absurd (cc there)
knowns_more (w0 ∷ wired) (v0 ∷ fixed) zero w v at there = (λ i. known_from (some_of w0 w at i) (some_of v0 v there i) ∷ knowns wired fixed)
knowns_more (w0 ∷ wired) (v0 ∷ fixed) (suc k) w v at there =
    let n : suc k + 1 ≡ suc (k + 1) = omega arith in
    knowns_more wired fixed k w v at there ∙ ap (λ i. known_from w v ∷ knowns (drop i (w0 ∷ wired)) (drop i (v0 ∷ fixed))) (sym n)

pub inputs_more : (wired : List Bool) (fixed : List (Option Plain)) (k : ℕ) (w : Bool) (v : Option Plain) (so_far all : List Known) → slice_get wired k ≡ Some w → slice_get fixed k ≡ Some v → so_far ++ knowns (drop k wired) (drop k fixed) ≡ all
    → (so_far ++ known_from w v ∷ []) ++ knowns (drop (k + 1) wired) (drop (k + 1) fixed) ≡ all
inputs_more wired fixed k w v so_far all at there is =
    append_assoc so_far (known_from w v ∷ []) (knowns (drop (k + 1) wired) (drop (k + 1) fixed)) ∙ ap (λ l. so_far ++ l) (sym (knowns_more wired fixed k w v at there)) ∙ is

pub inputs_all : (wired : List Bool) (fixed : List (Option Plain)) (k : ℕ) (so_far all : List Known) → length wired ≤ k → so_far ++ knowns (drop k wired) (drop k fixed) ≡ all → so_far ≡ all
inputs_all wired fixed k so_far all le is = sym (append-nil so_far) ∙ ap (λ l. so_far ++ knowns l (drop k fixed)) (sym (drop_all k wired le)) ∙ is

wired_is : (w : Option Bool) (f : Option (Option Plain)) → is_wired (known_of w f) ≡ true → w ≡ Some true
wired_is None f h = absurd (cc h)
wired_is (Some w) None h = absurd (cc h)
wired_is (Some true) (Some v) h = refl
wired_is (Some false) (Some None) h = absurd (cc h)
wired_is (Some false) (Some (Some v)) h = absurd (cc h)

never_given : (w : Option Bool) (f : Option (Option Plain)) → is_given (known_of w f) ≡ false
never_given None f = refl
never_given (Some w) None = refl
never_given (Some true) (Some v) = refl
never_given (Some false) (Some None) = refl
never_given (Some false) (Some (Some v)) = refl

-- inputs that agree with what is known at the start
begins_known : (input : L.Input) (w : Bool) (f : Option Plain) → AgreesAt input (Some (first_known w f)) → BeginsAt input (Some w) (Some f)
begins_known input true f h = h
begins_known input false None h = h
begins_known input false (Some v) h = h

pub begins_by : (input : L.Input) (wired : List Bool) (fixed : List (Option Plain)) (k : ℕ) → length wired ≡ length fixed → AgreesAt input (slice_get (first_knowns wired fixed) k) → BeginsAt input (slice_get wired k) (slice_get fixed k)
begins_by input [] fixed k same h = tt
begins_by input (w ∷ wired) [] k same h = absurd (omega (arith, same))
begins_by input (w ∷ wired) (f ∷ fixed) zero same h = begins_known input w f h
begins_by input (w ∷ wired) (f ∷ fixed) (suc k) same h = begins_by input wired fixed k (omega (arith, same)) h

-- ---- slots, one after another

-- the slots of the first symbols, up to a place
pub record FirstTo (symbols : List Symbol) (wired : List Bool) (fixed : List (Option Plain)) (point : Point) (slots : List Slot) (at : ℕ) : Type 0 where
  pub count : length slots ≡ at
  pub each : (k : ℕ) (symbol : Symbol) → k < at → slice_get symbols k ≡ Some symbol → argument (values slots) k ≡ first_value symbol (slice_get wired k) (slice_get fixed k) point

pub first_none : (symbols : List Symbol) (wired : List Bool) (fixed : List (Option Plain)) (point : Point) → FirstTo symbols wired fixed point [] 0
first_none symbols wired fixed point = record { count = refl; each = λ k symbol lt at. absurd (omega (arith, lt)) }

pub first_more : (symbols : List Symbol) (wired : List Bool) (fixed : List (Option Plain)) (point : Point) (slots : List Slot) (at : ℕ) (symbol : Symbol) (slot : Slot) → FirstTo symbols wired fixed point slots at → slice_get symbols at ≡ Some symbol → seen slot ≡ first_value symbol (slice_get wired at) (slice_get fixed at) point
    → FirstTo symbols wired fixed point (slots ++ slot ∷ []) (at + 1)
first_more symbols wired fixed point slots at symbol slot so_far here is =
    let n = length_values slots in
    let c = so_far.count in
    record {
      count = length-append slots (slot ∷ []) ∙ ap (λ m. m + 1) c;
      each = λ k s lt there.
          ap (λ vs. argument vs k) (map-append seen slots (slot ∷ []))
          ∙ ⊎_elim (λ (below : k < at). get_or-append (values slots) (seen slot ∷ []) (Parts []) k (omega (arith, below, n, c)) ∙ so_far.each k s below there) (λ (above : at ≤ k).
          let e : k ≡ at = omega (arith, lt, above) in
          let l : at ≡ length (values slots) = omega (arith, n, c) in
          let which = some_of symbol s (sym here ∙ ap (slice_get symbols) (sym e) ∙ there) in
          ap (argument (values slots ++ seen slot ∷ [])) (e ∙ l)
          ∙ get_or-append_seam (values slots) (seen slot) [] (Parts [])
          ∙ is
          ∙ (λ i. first_value (which i) (slice_get wired (sym e i)) (slice_get fixed (sym e i)) point)) (cases_lt k at);
    }

-- entries that were read
pub first_is : (symbol : Symbol) (w v : Option Bool) (f g : Option (Option Plain)) (point : Point) (slot : Slot) → w ≡ v → f ≡ g → seen slot ≡ first_value symbol w f point → seen slot ≡ first_value symbol v g point
first_is symbol w v f g point slot same_w same_f is = is ∙ (λ i. first_value symbol (same_w i) (same_f i) point)

pub first_all : (symbols : List Symbol) (wired : List Bool) (fixed : List (Option Plain)) (point : Point) (slots : List Slot) (at : ℕ) → at ≡ length symbols → FirstTo symbols wired fixed point slots at → AreFirst symbols wired fixed point (values slots)
first_all symbols wired fixed point slots at is so_far =
    record { count = length_values slots ∙ so_far.count ∙ is; each = λ k symbol there. let lt = slice_get_within symbols k symbol there in so_far.each k symbol (omega (arith, lt, is)) there }

-- ---- types at the start

pub record IsFitting (symbol : Symbol) : Type 0 where
  pub is_type : IsTrue (is_type symbol.ty)
  pub global : IsTrue (global_fits symbol.class symbol.name symbol.ty)
  pub value : IsTrue (is_value_of (has_value symbol.class symbol.ty) symbol.ty symbol.value)

pub symbol_facts : (code : Raw) → IsValid code → (k : ℕ) (symbol : Symbol) → slice_get code.symbols k ≡ Some symbol → IsFitting symbol
symbol_facts code valid k symbol at =
    let before = take k code.symbols in
    let leading = are_parameters before in
    let all = (and_both (symbol_fits leading symbol) (not (is_taken before symbol.name)) (valid.symbols k symbol at)).0 in
    let named = is_name symbol.name && parameter_fits leading symbol in
    let typed = is_type symbol.ty && global_fits symbol.class symbol.name symbol.ty in
    let valued = is_value_of (has_value symbol.class symbol.ty) symbol.ty symbol.value in
    let metas = metadata_fits symbol.class symbol.metas in
    let p = and_both (named && typed) (valued && metas) all in
    let q = and_both (is_type symbol.ty) (global_fits symbol.class symbol.name symbol.ty) (and_both named typed p.0).1 in
    record { is_type = q.0; global = q.1; value = (and_both valued metas p.1).0 }

short_type : (ty : Ty) → IsTrue (is_type ty) → ty.len ≤ longest_array
short_type ty h = by (nat_le ty.len longest_array) refl (and_both (nat_le ty.len longest_array) (not (is_closure ty && not (ty.len == 0))) h).0
  where
    by : (b : Bool) → nat_le ty.len longest_array ≡ b → IsTrue b → ty.len ≤ longest_array
    by true is t = grind arith
    by false is t = absurd (cc t)

pub symbols_short : (code : Raw) → IsValid code → (k : ℕ) (symbol : Symbol) → slice_get code.symbols k ≡ Some symbol → symbol.ty.len ≤ longest_array
symbols_short code valid k symbol at = short_type symbol.ty (symbol_facts code valid k symbol at).is_type

closure_type : (ty : Ty) → IsTrue (is_type ty) → is_closure ty ≡ true → only B.Closure ≡ ty
closure_type ty h closure =
    let l = (and_both (nat_le ty.len longest_array) (not (is_closure ty && not (ty.len == 0))) h).1 in
    let base = same_base-true ty.base B.Closure closure in
    λ i. record { base = sym base i; len = sym (none (ty.len == 0) refl (ap (λ b. not (b && not (ty.len == 0))) (sym closure) ∙ l)) i }
  where
    none : (b : Bool) → (ty.len == 0) ≡ b → IsTrue (not (true && not b)) → ty.len ≡ 0
    none true is t = eqb-true ty.len 0 is
    none false is t = absurd (cc t)

zero_type : (ty : Ty) → IsTrue (is_type ty) → type_of (zero_value ty) ≡ ty
zero_type ty h = by (same_base ty.base B.Closure) refl
  where
    by : (b : Bool) → same_base ty.base B.Closure ≡ b → type_of (if b then Parts [] else Of (zero_of ty)) ≡ ty
    by true is = closure_type ty h is
    by false is = refl

stated_type : (ty : Ty) (wanted : Bool) (value : Option Plain) → IsTrue (is_type ty) → IsTrue (is_value_of wanted ty value) → type_of (stated ty value) ≡ ty
stated_type ty wanted None h v = zero_type ty h
stated_type ty wanted (Some x) h v =
    let p = (and_both (wanted && not (is_closure ty)) (same_type x.ty ty && makes_up x.ty x.nums x.texts) v).1 in
    same_type-true x.ty ty (and_both (same_type x.ty ty) (makes_up x.ty x.nums x.texts) p).0

global_typed : (point : Point) (global : GlobalName) → type_of (global_at point global) ≡ type_of_global global
global_typed point G.P = refl
global_typed point G.N = refl
global_typed point G.Ng = refl
global_typed point G.I = refl
global_typed point G.U = refl
global_typed point G.V = refl
global_typed point G.Ci = refl

global_type : (ty : Ty) (point : Point) (o : Option GlobalName) → IsTrue (is_global_type o ty) → type_of (global_start ty point o) ≡ ty
global_type ty point None h = absurd (cc h)
global_type ty point (Some global) h = global_typed point global ∙ sym (same_type-true ty (type_of_global global) h)

parameter_type : (symbol : Symbol) (w : Option Bool) (f : Option (Option Plain)) → IsFitting symbol → ((v : Plain) → f ≡ Some (Some v) → v.ty ≡ symbol.ty) → type_of (parameter_slot symbol w f) ≡ symbol.ty
parameter_type symbol (Some true) f h typed = zero_type symbol.ty h.is_type
parameter_type symbol (Some false) None h typed = stated_type symbol.ty (has_value symbol.class symbol.ty) symbol.value h.is_type h.value
parameter_type symbol (Some false) (Some None) h typed = stated_type symbol.ty (has_value symbol.class symbol.ty) symbol.value h.is_type h.value
parameter_type symbol (Some false) (Some (Some v)) h typed = typed v refl
parameter_type symbol None None h typed = stated_type symbol.ty (has_value symbol.class symbol.ty) symbol.value h.is_type h.value
parameter_type symbol None (Some None) h typed = stated_type symbol.ty (has_value symbol.class symbol.ty) symbol.value h.is_type h.value
parameter_type symbol None (Some (Some v)) h typed = typed v refl

slot_type : (symbol : Symbol) (w : Option Bool) (f : Option (Option Plain)) (point : Point) (class : Class) → IsFitting symbol → symbol.class ≡ class → ((v : Plain) → f ≡ Some (Some v) → v.ty ≡ symbol.ty) → type_of (slot_by symbol w f point class) ≡ symbol.ty
slot_type symbol w f point Param h is typed = parameter_type symbol w f h typed
slot_type symbol w f point Oparam h is typed = parameter_type symbol w f h typed
slot_type symbol w f point Global h is typed = global_type symbol.ty point (global_named symbol.name) (subst (λ c. IsTrue (global_fits c symbol.name symbol.ty)) is h.global)
slot_type symbol w f point Const h is typed = stated_type symbol.ty (has_value symbol.class symbol.ty) symbol.value h.is_type h.value
slot_type symbol w f point Local h is typed = zero_type symbol.ty h.is_type
slot_type symbol w f point Temp h is typed = zero_type symbol.ty h.is_type

abbrev pub plan_with : Raw → Point → ℕ → List (Option Plain) → Plan
plan_with code point budget fixed = record { code = code; point = point; budget = budget; fixed = fixed }

-- ---- values at the start

-- where entries are those of a parameter, a slot holds what the symbol starts with
slot_starts : (symbol : Symbol) (input : L.Input) (w : Option Bool) (f : Option (Option Plain)) (point : Point) (class : Class) → is_parameter class ≡ is_there w → is_parameter class ≡ is_there f → BeginsAt input w f
    → (if is_wired (known_of w f) then zero_value symbol.ty else slot_by symbol w f point class) ≡ class_start symbol input point class
slot_starts symbol input None None point Param a b h = absurd (cc a)
slot_starts symbol input None None point Oparam a b h = absurd (cc a)
slot_starts symbol input None None point Global a b h = refl
slot_starts symbol input None None point Const a b h = refl
slot_starts symbol input None None point Local a b h = refl
slot_starts symbol input None None point Temp a b h = refl
slot_starts symbol input None (Some v) point class a b h = let q = sym a ∙ b in absurd (cc q)
slot_starts symbol input (Some w) None point class a b h = let q = sym a ∙ b in absurd (cc q)
slot_starts symbol input (Some true) (Some v) point Param a b h = ap (parameter_start symbol) (sym h.1)
slot_starts symbol input (Some true) (Some v) point Oparam a b h = ap (parameter_start symbol) (sym h.1)
slot_starts symbol input (Some false) (Some None) point Param a b h = ap (parameter_start symbol) (sym h)
slot_starts symbol input (Some false) (Some None) point Oparam a b h = ap (parameter_start symbol) (sym h)
slot_starts symbol input (Some false) (Some (Some v)) point Param a b h = ap (parameter_start symbol) (sym h)
slot_starts symbol input (Some false) (Some (Some v)) point Oparam a b h = ap (parameter_start symbol) (sym h)
slot_starts symbol input (Some w) (Some v) point Global a b h = absurd (cc a)
slot_starts symbol input (Some w) (Some v) point Const a b h = absurd (cc a)
slot_starts symbol input (Some w) (Some v) point Local a b h = absurd (cc a)
slot_starts symbol input (Some w) (Some v) point Temp a b h = absurd (cc a)

pub has_entry : {X : Type 0} (code : Raw) (xs : List X) → HasOneEach code xs → (k : ℕ) (symbol : Symbol) → slice_get code.symbols k ≡ Some symbol → is_parameter symbol.class ≡ is_there (slice_get xs k)
has_entry code xs each k symbol at = sym (ap is_parameter_at at) ∙ each k ∙ below_there xs k

module _ (code : Raw) (wired : List Bool) (fixed : List (Option Plain)) (fit : InputsFit code fixed wired) where
  pub lengths_same : length wired ≡ length fixed
  lengths_same = same_length (length wired) (length fixed) (λ k. sym (fit.wired_each k) ∙ fit.fixed_each k)

  wired_at : (k : ℕ) → is_wired_at (knowns wired fixed) k ≡ is_wired (known_of (slice_get wired k) (slice_get fixed k))
  wired_at k = ap is_wired (knowns_at wired fixed k)

  module _ (valid : IsValid code) (point : Point) (budget : ℕ) (vs : List AnyValue) (first : AreFirst code.symbols wired fixed point vs) where
    abbrev at_first : Configuration
    at_first = first_configuration code wired fixed budget vs

    laid : IsLaid code (knowns wired fixed) vs
    laid =
        record {
          valid = valid;
          parameters = λ k. fit.wired_each k ∙ ap (nat_lt k) (sym (knowns_length wired fixed lengths_same));
          no_output = λ k symbol is at. fit.no_output k symbol (wired_is (slice_get wired k) (slice_get fixed k) (sym (wired_at k) ∙ is)) at;
          slots = first.count;
          types = λ k below. typed k (slice_get code.symbols k) refl below;
        }
      where
        typed : (k : ℕ) (o : Option Symbol) → slice_get code.symbols k ≡ o → k < length code.symbols → type_of (argument vs k) ≡ type_at code.symbols k
        typed k None at below = let q = below_there code.symbols k in let l = lt-ltb k (length code.symbols) below in let e = sym l ∙ q ∙ ap is_there at in absurd (cc e)
        typed k (Some symbol) at below =
            ap type_of (first.each k symbol at)
            ∙ slot_type symbol (slice_get wired k) (slice_get fixed k) point symbol.class (symbol_facts code valid k symbol at) refl (λ v is. fit.types k v is ∙ ap (λ o. type_of_symbol o) at)
            ∙ sym (ap (λ o. type_of_symbol o) at)

    held_is_start : (inputs : L.Inputs) → Begins inputs wired fixed → (k : ℕ) → held_values code (knowns wired fixed) vs k ≡ symbol_start (inputs k) point (slice_get code.symbols k)
    held_is_start inputs begins k = by (slice_get code.symbols k) refl
      where
        by : (o : Option Symbol) → slice_get code.symbols k ≡ o → held_values code (knowns wired fixed) vs k ≡ symbol_start (inputs k) point o
        by None at =
            let out = sym (fit.wired_each k) ∙ ap is_parameter_at at in
            let none = sym (below_there wired k) ∙ out in
            ap (λ b. if b then zero_value (type_at code.symbols k) else argument vs k) (wired_at k ∙ not_wired (slice_get wired k) none)
            ∙ get_or_past vs k (Parts []) (past vs k first.count)
          where
            not_wired : (w : Option Bool) → is_there w ≡ false → is_wired (known_of w (slice_get fixed k)) ≡ false
            not_wired None h = refl
            not_wired (Some w) h = absurd (cc h)

            past : (ws : List AnyValue) (j : ℕ) → length ws ≡ length code.symbols → length ws ≤ k
            past ws j count = ⊎_elim (λ (lt : k < length code.symbols). let q = sym (lt-ltb k (length code.symbols) lt) ∙ below_there code.symbols k ∙ ap is_there at in absurd (cc q)) (λ (le : length code.symbols ≤ k). omega (arith, count, le)) (cases_lt k (length code.symbols))
        by (Some symbol) at =
            (λ i. if wired_at k i then zero_value (type_of_symbol (at i)) else first.each k symbol at i)
            ∙ slot_starts symbol (inputs k) (slice_get wired k) (slice_get fixed k) point symbol.class (has_entry code wired fit.wired_each k symbol at) (has_entry code fixed fit.fixed_each k symbol at) (begins k)

    ready : Ready at_first
    ready =
        record {
          laid = laid;
          here = record { closed = record { ends = λ k step a b is. absurd (omega (arith, a, b)) }; within = omega arith; spares = λ k step a b is. absurd (omega (arith, a, b)) };
          frames = tt;
        }

    state_is_start : (inputs : L.Inputs) → Begins inputs wired fixed → state_of 0 at_first ≡ start_of code inputs point budget
    state_is_start inputs begins =
        λ i. record {
          values = λ k. held_is_start inputs begins k i;
          turns = budget;
          reads = λ k. (ap is_given (knowns_at wired fixed k) ∙ never_given (slice_get wired k) (slice_get fixed k)) i;
          ops = 0;
        }

    first_comes : (inputs : L.Inputs) → Begins inputs wired fixed → meaning inputs 0 at_first ≡ layer_run code inputs point budget
    first_comes inputs begins =
        between_comes at_first (record { ready = ready; runs = refl; past = omega arith; last = refl }) inputs 0
        ∙ ap (later_sections inputs code 0) (state_is_start inputs begins)

    abbrev plan : Plan
    plan = record { code = code; point = point; budget = budget; fixed = fixed }

    begins : (inputs : L.Inputs) → Agrees inputs (seen_knowns fixed at_first) → Begins inputs wired fixed
    begins inputs h k = begins_by (inputs k) wired fixed k lengths_same (subst (λ l. AgreesAt (inputs k) (slice_get l k)) (knowns_first wired fixed at_first refl) (h.each k))

    follows : Follows plan at_first 0
    follows = record { code = refl; ready = ready; comes = λ inputs h. first_comes inputs (begins inputs h) }

    none_read : (k : ℕ) → given_reads (seen_knowns fixed at_first) k ≡ false
    none_read k = sym (λ i. reads_same fixed at_first i k) ∙ ap is_given (knowns_at wired fixed k) ∙ never_given (slice_get wired k) (slice_get fixed k)

    pub started : (slots : List Slot) (c : Configuration) → c ≡ at_first → IsRunOf plan c slots T.Fresh
    started slots c is =
        subst (λ x. IsRunOf plan x slots T.Fresh) (sym is)
        (record {
          sound = (record { reads = λ inputs h k read. let q = sym (none_read k) ∙ read in absurd (cc q); ops = λ inputs h. omega arith }, refl);
          holds = follows;
        })

    pub seen_begun : (c : Configuration) → c ≡ at_first → progress_of plan c T.Fresh ≡ begun code fixed wired point budget
    seen_begun c is =
        ap (λ x. progress_of plan x T.Fresh) is
        ∙ λ i. record {
          code = code;
          point = point;
          budget = budget;
          known = knowns_first wired fixed at_first refl i;
          status = T.Fresh;
          ops = 0;
          results = None;
        }

pub same_plan : (code : Raw) (p q : Point) (b d : ℕ) (f g : List (Option Plain)) → p ≡ q → b ≡ d → f ≡ g
    → plan_with code p b f ≡ plan_with code q d g
same_plan code p q b d f g hp hb hf = λ i. plan_with code (hp i) (hb i) (hf i)
