-- Where a layer's run begins, the source and the code agree: parameters, globals, constants, and zero in all else.
use Rattle.std.proofs.Common.{◌≡◌, ℕ, zero, suc, ◌+◌, ◌<◌, ◌≤◌, ◌≢◌, ⊎_elim, List, [], ◌∷◌, length, Option, Some, None, Bool, true, false, refl, sym, ap, ◌∙◌, arith}
use Rattle.std.specs.Prelude.{slice_get, if◌then◌else◌}
use Rattle.std.specs.List.{flat_map}
use Rattle.std.proofs.lemmas.Bool.{lt-ltb, le-ltb, le-leb, cases_lt}
use Rattle.osl_value.specs.declared.point.Point.{Point}
use Rattle.osl_value.specs.declared.types.Ty.{Ty}
use Rattle.osl_value.specs.AnyValue.{AnyValue, Parts, type_of, zero_value}
use Rattle.osl_layer.specs.Globals.{global_text, global_named, global_at, type_of_global}
use Rattle.osl_layer.specs.Layer.{Input, From, Fixed, Default, Inputs}
use Rattle.osl_layer.specs.declared.global.GlobalName.{GlobalName}
use Rattle.osl_layer.specs.declared.global.GlobalName.TheVariants as G
use Rattle.osl_typed.specs.declared.shader.TypedParam.{TypedParam}
use Rattle.osl_typed.specs.declared.shader.TypedShader.{TypedShader}
use Rattle.osl_typed.specs.Frames.{leaves_of, leaf_count, zero_leaves, place_of, kind_in}
use Rattle.osl_typed.specs.State.{State}
use Rattle.osl_typed.specs.SourceRun as source
use Rattle.oso_code.specs.declared.raw.Raw.{Raw}
use Rattle.oso_code.specs.declared.symbol.Class.{Class}
use Rattle.oso_code.specs.declared.symbol.Class.TheVariants as C
use Rattle.oso_code.specs.declared.symbol.Symbol.{Symbol}
use Rattle.oso_code.specs.CodeRun.{source_of, is_parameter_at, sources_of, stated, parameter_start, class_start, symbol_start, start_of}
use Rattle.oso_code.specs.Run as R
use Rattle.oso_code.specs.Symbols.{is_parameter}
use Rattle.osl_gencode.specs.Relation.{Wired, Related}
use Rattle.osl_gencode.specs.ShaderSymbols.{At, Defaults, IsParam, IsGlobal, IsLocal, AreSymbols, begins_at, stated_or, with_stated}
use Rattle.osl_gencode.specs.Bodies.{number_of, Body, is_const, symbol_of}
use Rattle.osl_gencode.proofs.Growing.{get_there}
use Rattle.osl_gencode.proofs.RelatedStates.{low_symbol, high_symbol}
use Rattle.osl_gencode.proofs.OpValues.{zero_type}

-- ---- inputs

-- what a layer of this shader may be given
pub record MayBeGiven (t : TypedShader) (inputs : Inputs) : Type 0 where
  pub outputs : (k : ℕ) (p : TypedParam) (o : Option AnyValue) → slice_get t.params k ≡ Some p → p.output ≡ true → inputs k ≢ From o
  pub fixed : (k : ℕ) (p : TypedParam) (v : AnyValue) → slice_get t.params k ≡ Some p → inputs k ≡ Fixed v → type_of v ≡ p.ty
  pub connected : (k : ℕ) (p : TypedParam) (v : AnyValue) → slice_get t.params k ≡ Some p → inputs k ≡ From (Some v) → type_of v ≡ p.ty

-- ---- one symbol at the start

output_start : (symbol : Symbol) (input : Input) (point : Point) (t : Bool) → class_start symbol input point (if t then C.Oparam else C.Param) ≡ parameter_start symbol input
output_start symbol input point true = refl
output_start symbol input point false = refl

param_start : (p : TypedParam) (default : Option AnyValue) (symbols : List Symbol) (k : ℕ) (input : Input) (point : Point) → At (IsParam p default) symbols k → symbol_start input point (slice_get symbols k) ≡ stated_or input default (source.start_value p input)
param_start p default symbols k input point at =
    ap (symbol_start input point) at.here ∙ ap (class_start at.symbol input point) at.is.class ∙ output_start at.symbol input point p.output ∙ by_input input default at.is.value
  where
    by_input : (i : Input) (d : Option AnyValue) → stated at.symbol.ty at.symbol.value ≡ begins_at at.symbol.ty d → parameter_start at.symbol i ≡ stated_or i d (source.start_value p i)
    by_input (From o) d value = ap zero_value at.is.type
    by_input (Fixed v) d value = refl
    by_input Default None value = value ∙ ap zero_value at.is.type
    by_input Default (Some v) value = value

local_start : (ty : Ty) (symbols : List Symbol) (k : ℕ) (input : Input) (point : Point) → At (IsLocal ty) symbols k → symbol_start input point (slice_get symbols k) ≡ zero_value ty
local_start ty symbols k input point at =
    ap (symbol_start input point) at.here ∙ ⊎_elim (λ e. ap (class_start at.symbol input point) e) (λ e. ap (class_start at.symbol input point) e) at.is.class ∙ ap zero_value at.is.type

pub named_back : (g : GlobalName) → global_named (global_text g) ≡ Some g
named_back G.P = refl
named_back G.N = refl
named_back G.Ng = refl
named_back G.I = refl
named_back G.U = refl
named_back G.V = refl
named_back G.Ci = refl

global_started : (ty : Ty) (point : Point) (name : List ℕ) (g : GlobalName) → name ≡ global_text g → elim (global_named name) [ None ↦ zero_value ty | Some h ↦ global_at point h ] ≡ global_at point g
global_started ty point name g e = ap (λ o. elim o [ None ↦ zero_value ty | Some h ↦ global_at point h ]) (ap global_named e ∙ named_back g)

global_start_is : (g : GlobalName) (symbols : List Symbol) (k : ℕ) (input : Input) (point : Point) → At (IsGlobal g) symbols k → symbol_start input point (slice_get symbols k) ≡ global_at point g
global_start_is g symbols k input point at =
    ap (symbol_start input point) at.here ∙ ap (class_start at.symbol input point) at.is.class ∙ global_started at.symbol.ty point at.symbol.name g at.is.name

const_start : (symbol : Symbol) (input : Input) (point : Point) (class : Class) → is_const class ≡ true → class_start symbol input point class ≡ stated symbol.ty symbol.value
const_start symbol input point C.Const is = refl
const_start symbol input point C.Param is = absurd (cc is)
const_start symbol input point C.Oparam is = absurd (cc is)
const_start symbol input point C.Global is = absurd (cc is)
const_start symbol input point C.Local is = absurd (cc is)
const_start symbol input point C.Temp is = absurd (cc is)

global_typed : (point : Point) (g : GlobalName) → type_of (global_at point g) ≡ type_of_global g
global_typed point G.P = refl
global_typed point G.N = refl
global_typed point G.Ng = refl
global_typed point G.I = refl
global_typed point G.U = refl
global_typed point G.V = refl
global_typed point G.Ci = refl

none_past : {X : Type 0} (xs : List X) (k : ℕ) → length xs ≤ k → slice_get xs k ≡ None
none_past [] k le = refl
none_past (x ∷ xs) zero le = absurd (omega (arith, le))
none_past (x ∷ xs) (suc k) le = none_past xs k (omega (arith, le))

-- ---- the whole

pub stated_none : (i : Input) (x : AnyValue) → stated_or i None x ≡ x
stated_none (From o) x = refl
stated_none (Fixed v) x = refl
stated_none Default x = refl

-- what a stated default is in place of has its type too
stated_type : (ty : Ty) (i : Input) (d : Option AnyValue) (x : AnyValue) → ((v : AnyValue) → d ≡ Some v → type_of v ≡ ty) → type_of x ≡ ty → type_of (stated_or i d x) ≡ ty
stated_type ty (From o) d x stated is = is
stated_type ty (Fixed v) d x stated is = is
stated_type ty Default None x stated is = is
stated_type ty Default (Some v) x stated is = stated v refl

module _ (t : TypedShader) (defaults : Defaults) (b : Body) (raw : Raw) (inputs : Inputs) (symbols : AreSymbols t defaults b raw.symbols) (given : MayBeGiven t inputs) where
  abbrev types : List Ty
  types = flat_map (leaves_of t.structures) t.frame

  place : (k : ℕ) → place_of b.structures b.kinds k ≡ place_of t.structures t.frame k
  place k = (λ j. place_of (symbols.body.structures j) (symbols.body.kinds j) k)

  leaves : (k : ℕ) → leaf_count b.structures (kind_in b.kinds k) ≡ leaf_count t.structures (kind_in t.frame k)
  leaves k = (λ j. leaf_count (symbols.body.structures j) (kind_in (symbols.body.kinds j) k))

  typed_at : (k : ℕ) → slice_get b.types k ≡ slice_get types k
  typed_at k = ap (λ l. slice_get l k) symbols.body.types

  -- what a leaf holds
  source_low : (k : ℕ) (p : TypedParam) (point : Point) (budget : ℕ) → slice_get t.params k ≡ Some p → (source.start_of t inputs point budget).vars k ≡ source.start_value p (inputs k)
  source_low k p point budget at = ap (λ o. source.started_leaf o (inputs k) (zero_leaves types k)) at

  source_high : (k : ℕ) (ty : Ty) (point : Point) (budget : ℕ) → length t.params ≤ k → slice_get types k ≡ Some ty → (source.start_of t inputs point budget).vars k ≡ zero_value ty
  source_high k ty point budget le at =
      ap (λ o. source.started_leaf o (inputs k) (zero_leaves types k)) (none_past t.params k le) ∙ ap (λ o. elim o [ None ↦ Parts [] | Some u ↦ zero_value u ]) at

  start_typed : (k : ℕ) (p : TypedParam) (i : Input) → slice_get t.params k ≡ Some p → inputs k ≡ i → type_of (source.start_value p i) ≡ p.ty
  start_typed k p (From o) at is = zero_type p.ty (symbols.frame.has k p.ty (symbols.frame.first k p at))
  start_typed k p (Fixed v) at is = given.fixed k p v at is
  start_typed k p Default at is = zero_type p.ty (symbols.frame.has k p.ty (symbols.frame.first k p at))

  -- with the defaults that are stated
  abbrev began : Point → ℕ → State
  began point budget = with_stated defaults inputs 0 (source.start_of t inputs point budget)

  began_is : (k : ℕ) (point : Point) (budget : ℕ) → (began point budget).vars k ≡ stated_or (inputs k) (defaults k) ((source.start_of t inputs point budget).vars k)
  began_is k point budget =
      let s = source.start_of t inputs point budget in
      ap (λ z. if z then stated_or (inputs k) (defaults k) (s.vars k) else s.vars k) (le-leb 0 k (omega arith))

  began_low : (k : ℕ) (p : TypedParam) (point : Point) (budget : ℕ) → slice_get t.params k ≡ Some p → (began point budget).vars k ≡ stated_or (inputs k) (defaults k) (source.start_value p (inputs k))
  began_low k p point budget at = began_is k point budget ∙ ap (stated_or (inputs k) (defaults k)) (source_low k p point budget at)

  began_high : (k : ℕ) (ty : Ty) (point : Point) (budget : ℕ) → length t.params ≤ k → slice_get types k ≡ Some ty → (began point budget).vars k ≡ zero_value ty
  began_high k ty point budget le at =
      let s = source.start_of t inputs point budget in
      began_is k point budget ∙ ap (λ d. stated_or (inputs k) d (s.vars k)) (symbols.few k le) ∙ stated_none (inputs k) (s.vars k) ∙ source_high k ty point budget le at

  pub start_related : (point : Point) (budget : ℕ) → Related b raw.symbols (with_stated defaults inputs 0 (source.start_of t inputs point budget)) (start_of raw inputs point budget)
  start_related point budget =
      let sp = symbols.body.split in let sh = symbols.body.shift in let gl = symbols.body.globals_at in
      record {
        vars = λ k h. ⊎_elim (λ (lt : k < length t.params).
            let p = get_there t.params k lt in
            ap (λ z. symbol_start (inputs z) point (slice_get raw.symbols z)) (low_symbol b k (omega (arith, lt, sp))) ∙ param_start (p.0) (defaults k) raw.symbols k (inputs k) point (symbols.params k (p.0) (p.1)) ∙ sym (began_low k (p.0) point budget (p.1))) (λ (le : length t.params ≤ k).
            let ty = get_there b.types k h in
            let e : symbol_of b k ≡ 7 + k = high_symbol b k (omega (arith, le, sp)) ∙ ap (λ z. z + k) sh in
            let at = sym (typed_at k) ∙ ty.1 in
            ap (λ z. symbol_start (inputs z) point (slice_get raw.symbols z)) e ∙ local_start (ty.0) raw.symbols (7 + k) (inputs (7 + k)) point (symbols.locals k (ty.0) le at) ∙ sym (began_high k (ty.0) point budget le at)) (cases_lt k (length t.params));
        typed = λ k ty at. ⊎_elim (λ (lt : k < length t.params).
            let p = get_there t.params k lt in
            let both : Some (p.0).ty ≡ Some ty = sym (symbols.frame.first k (p.0) (p.1)) ∙ sym (typed_at k) ∙ at in
            ap type_of (began_low k (p.0) point budget (p.1)) ∙ stated_type (p.0).ty (inputs k) (defaults k) (source.start_value (p.0) (inputs k)) (λ v is. symbols.typed k (p.0) v (p.1) is) (start_typed k (p.0) (inputs k) (p.1) refl) ∙ cc both) (λ (le : length t.params ≤ k).
            let h = sym (typed_at k) ∙ at in
            ap type_of (began_high k ty point budget le h) ∙ zero_type ty (symbols.frame.has k ty h)) (cases_lt k (length t.params));
        globals = λ g. ap (λ z. symbol_start (inputs (z + number_of g)) point (slice_get raw.symbols (z + number_of g))) gl ∙ global_start_is g raw.symbols (length t.params + number_of g) (inputs (length t.params + number_of g)) point (symbols.globals g);
        global_types = λ g. global_typed point g;
        turns = refl;
        reads = refl;
        consts = λ k symbol here is. ap (symbol_start (inputs k) point) here ∙ const_start symbol (inputs k) point symbol.class is;
      }

  -- ---- what is connected

  given_low : (k : ℕ) → k < length t.params → source.given_to t.params inputs k ≡ inputs k
  given_low k lt = ap (λ z. if z then inputs k else Default) (lt-ltb k (length t.params) lt)

  given_high : (k : ℕ) → length t.params ≤ k → source.given_to t.params inputs k ≡ Default
  given_high k le = ap (λ z. if z then inputs k else Default) (le-ltb k (length t.params) le)

  own_high : (k : ℕ) → length t.params ≤ k → sources_of raw inputs k ≡ R.Own
  own_high k le = ap (λ z. if z then source_of (inputs k) else R.Own) (symbols.others k le)

  output_is : (t1 : Bool) (class : Class) → class ≡ (if t1 then C.Oparam else C.Param) → (symbol : Symbol) → symbol.class ≡ class → is_parameter_at (Some symbol) ≡ true
  output_is true class e symbol is = ap is_parameter (is ∙ e)
  output_is false class e symbol is = ap is_parameter (is ∙ e)

  source_at : (k : ℕ) → k < length t.params → sources_of raw inputs k ≡ source_of (inputs k)
  source_at k lt =
      let p = get_there t.params k lt in
      let s = symbols.params k (p.0) (p.1) in
      ap (λ o. if is_parameter_at o then source_of (inputs k) else R.Own) s.here ∙ ap (λ z. if z then source_of (inputs k) else R.Own) (output_is (p.0).output s.symbol.class s.is.class s.symbol refl)

  places : (k : ℕ) → k < length t.params → (place_of b.structures b.kinds k ≡ k) × (leaf_count b.structures (kind_in b.kinds k) ≡ 1)
  places k lt = let p = symbols.frame.places k lt in (place k ∙ p.0, leaves k ∙ p.1)

  -- what is connected is a parameter
  connected_low : (k : ℕ) (o : Option AnyValue) → source.given_to t.params inputs k ≡ From o → k < length t.params
  connected_low k o e = ⊎_elim (λ (lt : k < length t.params). lt) (λ (le : length t.params ≤ k). absurd (let d = given_high k le in cc (d, e))) (cases_lt k (length t.params))

  pub start_wired : Wired b (source.given_to t.params inputs) (sources_of raw inputs)
  start_wired =
      let sp = symbols.body.split in let sh = symbols.body.shift in let cn = symbols.body.connected in
      record {
        here = λ k j l1 l2. ⊎_elim (λ (lt : k < length t.params).
            let p = places k lt in let p0 = p.0 in let p1 = p.1 in
            let e : place_of b.structures b.kinds k + j ≡ k = omega (arith, p0, p1, l2) in
            ap (λ z. sources_of raw inputs (symbol_of b z)) e ∙ ap (sources_of raw inputs) (low_symbol b k (omega (arith, lt, sp))) ∙ source_at k lt ∙ ap source_of (sym (given_low k lt))) (λ (le : length t.params ≤ k).
            let q = symbols.frame.later k le in let pl = place k in
            let s = high_symbol b (place_of b.structures b.kinds k + j) (omega (arith, q, sp, pl)) in
            own_high (symbol_of b (place_of b.structures b.kinds k + j)) (omega (arith, q, s, pl)) ∙ ap source_of (sym (given_high k le))) (cases_lt k (length t.params));
        first = λ k o e. let lt = connected_low k o e in let p = places k lt in (ap (symbol_of b) (p.0) ∙ low_symbol b k (omega (arith, lt, sp)), p.1);
        typed = λ k v ty e at.
            let lt = connected_low k (Some v) e in
            let p = get_there t.params k lt in
            let both : Some (p.0).ty ≡ Some ty = sym (symbols.frame.first k (p.0) (p.1)) ∙ sym (typed_at k) ∙ sym (ap (slice_get b.types) ((places k lt).0)) ∙ at in
            given.connected k (p.0) v (p.1) (sym (given_low k lt) ∙ e) ∙ cc both;
        unwired = λ k o may e.
            let lt = connected_low k o e in
            let p = get_there t.params k lt in
            given.outputs k (p.0) o (p.1) (symbols.body.stored k (p.0) (p.1) may) (sym (given_low k lt) ∙ e);
        above = λ k le. own_high k (omega (arith, le, cn));
      }
