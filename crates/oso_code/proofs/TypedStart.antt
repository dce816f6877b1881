-- From inputs that fit, at a point in range, each symbol of valid code has a value of its type at the start, and what the code gives has the types of its parameters.
use Rattle.std.proofs.Common.{◌≡◌, ℕ, zero, suc, ◌+◌, ◌≤◌, List, [], ◌∷◌, length, map, filter, Option, Some, None, Bool, true, false, ℤ, pos, negsuc, refl, sym, ap, ◌∙◌, subst, arith, lit<, lit≤}
use Rattle.std.specs.Prelude.{slice_get, take, nat_le, not, ◌&&◌, ◌||◌, ◌^◌, ◌==◌, if◌then◌else◌, IsTrue}
use Rattle.std.specs.Str.{bytes_eq}
use Rattle.std.specs.List.{All, list_all}
use Rattle.std.proofs.lemmas.Bool.{eqb-true, ltb-true, leb-true}
use Rattle.std.proofs.lemmas.List.{length-replicate}
use Rattle.std.proofs.lemmas.List.Elements.{All-nil, All-cons, All-replicate}
use Rattle.osl_value.specs.declared.closure.Part.{Part}
use Rattle.osl_value.specs.declared.point.Point.{Point}
use Rattle.osl_value.specs.declared.types.Base.{Base}
use Rattle.osl_value.specs.declared.types.Base.TheVariants as B
use Rattle.osl_value.specs.declared.types.Ty.{Ty}
use Rattle.osl_value.specs.AnyValue.{AnyValue, Of, Parts, parts_of, zero_value}
use Rattle.osl_value.specs.Plain.{Plain, IsNumberOf, IsPlain, zero_of}
use Rattle.osl_value.specs.Types.{only, same_base, same_type, number_count, text_count, longest_array}
use Rattle.osl_value.specs.WellFormed.{IsPart, AreParts, IsValue, IsOfType, IsPoint}
use Rattle.osl_value.proofs.SameTypes.{same_base-true, same_type-true}
use Rattle.osl_layer.specs.declared.global.GlobalName.{GlobalName}
use Rattle.osl_layer.specs.Globals.{global_named, global_at, type_of_global}
use Rattle.osl_layer.specs.Laws.{GlobalsAreTyped}
use Rattle.osl_layer.specs.Layer.{Input, From, Fixed, Default, Inputs, AreInputs, LayerResults}
use Rattle.oso_code.specs.declared.raw.Raw.{Raw}
use Rattle.oso_code.specs.declared.symbol.Class.{Class}
use Rattle.oso_code.specs.declared.symbol.Class.TheVariants.{Param, Oparam, Global, Const, Local, Temp}
use Rattle.oso_code.specs.declared.symbol.Symbol.{Symbol}
use Rattle.oso_code.specs.CodeRun.{is_output, parameter_of, parameters_of, source_of, is_parameter_at, sources_of, stated, parameter_start, global_start, class_start, symbol_start, start_of, output_of, outputs_from, is_ci, closure_from, results_by, layer_end}
use Rattle.oso_code.specs.Holding.{is_closure, is_type, fits_base, makes_up}
use Rattle.oso_code.specs.Run.{State, Own, Wired, Held, Outcome, Next, Jumps, Spent, last}
use Rattle.oso_code.specs.Symbols.{is_parameter, are_parameters, is_taken, symbol_fits, parameter_fits, global_fits, is_global_type, has_value, is_value_of, metadata_fits}
use Rattle.oso_code.specs.Names.{is_name, main_name}
use Rattle.oso_code.specs.Typed.{IsTyped, TypedSources, OutputFits, OutputsFit, AreResults}
use Rattle.oso_code.specs.Valid.{IsValid}
use Rattle.oso_code.proofs.Fitting.{some_same}
use Rattle.oso_code.proofs.Members.{and_both}

-- ---- zeros

zero_number : (base : Base) → IsNumberOf base (pos 0)
zero_number B.Int = record { sfits = lit< tt }
zero_number B.Float = lit≤ tt
zero_number B.Color = lit≤ tt
zero_number B.Point = lit≤ tt
zero_number B.Vector = lit≤ tt
zero_number B.Normal = lit≤ tt
zero_number B.Matrix = lit≤ tt
zero_number B.Str = lit≤ tt
zero_number B.Closure = lit≤ tt

pub short_type : (ty : Ty) → IsTrue (is_type ty) → ty.len ≤ longest_array
short_type ty h = leb-true ty.len longest_array (and_both (nat_le ty.len longest_array) (not (is_closure ty && not (ty.len == 0))) h).0

-- a closure is no array
pub closure_type : (ty : Ty) → IsTrue (is_type ty) → is_closure ty ≡ true → only B.Closure ≡ ty
closure_type ty h closure =
    let l = (and_both (nat_le ty.len longest_array) (not (is_closure ty && not (ty.len == 0))) h).1 in
    let base = same_base-true ty.base B.Closure closure in
    λ i. record { base = sym base i; len = sym (none (ty.len == 0) refl (ap (λ b. not (b && not (ty.len == 0))) (sym closure) ∙ l)) i }
  where
    none : (b : Bool) → (ty.len == 0) ≡ b → IsTrue (not (true && not b)) → ty.len ≡ 0
    none true is t = eqb-true ty.len 0 is
    none false is t = absurd (cc t)

no_closure : (ty : Ty) → is_closure ty ≡ false → ty.base ≡ B.Closure → ⊥
no_closure ty h e = let t : is_closure ty ≡ true = ap (λ b. same_base b B.Closure) e in cc (h, t)

pub zero_typed : (ty : Ty) → IsTrue (is_type ty) → IsOfType ty (zero_value ty)
zero_typed ty h = by (same_base ty.base B.Closure) refl
  where
    by : (b : Bool) → same_base ty.base B.Closure ≡ b → IsOfType ty (if b then Parts [] else Of (zero_of ty))
    by true is = record { value = record { few = lit≤ tt; all = All-nil IsPart }; type = closure_type ty h is }
    by false is = record {
      value = record {
        no_closure = no_closure ty is;
        short = short_type ty h;
        nums_fit = length-replicate (number_count ty) (pos 0);
        texts_fit = length-replicate (text_count ty) [];
        in_range = All-replicate (IsNumberOf ty.base) (number_count ty) (pos 0) (zero_number ty.base);
      };
      type = refl;
    }

-- ---- values that the code states

number_fits : (base : Base) (n : ℤ) → IsTrue (fits_base base n) → IsNumberOf base n
number_fits B.Int (pos n) h = let k = ltb-true n (2 ^ 31) h in record { sfits = omega arith }
number_fits B.Int (negsuc n) h = let k = ltb-true n (2 ^ 31) h in record { sfits = omega arith }
number_fits B.Float n h = leb-true _ _ h
number_fits B.Color n h = leb-true _ _ h
number_fits B.Point n h = leb-true _ _ h
number_fits B.Vector n h = leb-true _ _ h
number_fits B.Normal n h = leb-true _ _ h
number_fits B.Matrix n h = leb-true _ _ h
number_fits B.Str n h = leb-true _ _ h
number_fits B.Closure n h = leb-true _ _ h

numbers_fit : (base : Base) (ns : List ℤ) → IsTrue (list_all (fits_base base) ns) → All (IsNumberOf base) ns
numbers_fit base [] h = All-nil (IsNumberOf base)
numbers_fit base (n ∷ ns) h = let p = and_both (fits_base base n) (list_all (fits_base base) ns) h in All-cons (IsNumberOf base) n ns (number_fits base n p.0) (numbers_fit base ns p.1)

made_up : (ty : Ty) (nums : List ℤ) (texts : List (List ℕ)) → IsTrue (is_type ty) → is_closure ty ≡ false → IsTrue (makes_up ty nums texts) → IsPlain ty nums texts
made_up ty nums texts h other makes =
    let p = and_both ((length nums == number_count ty) && (length texts == text_count ty)) (list_all (fits_base ty.base) nums) makes in
    let q = and_both (length nums == number_count ty) (length texts == text_count ty) p.0 in
    record {
      no_closure = no_closure ty other;
      short = short_type ty h;
      nums_fit = eqb-true (length nums) (number_count ty) q.0;
      texts_fit = eqb-true (length texts) (text_count ty) q.1;
      in_range = numbers_fit ty.base nums p.1;
    }

pub stated_typed : (ty : Ty) (wanted : Bool) (value : Option Plain) → IsTrue (is_type ty) → IsTrue (is_value_of wanted ty value) → IsOfType ty (stated ty value)
stated_typed ty wanted None h v = zero_typed ty h
stated_typed ty wanted (Some x) h v =
    let p = and_both (wanted && not (is_closure ty)) (same_type x.ty ty && makes_up x.ty x.nums x.texts) v in
    let q = and_both (same_type x.ty ty) (makes_up x.ty x.nums x.texts) p.1 in
    let same = same_type-true x.ty ty q.0 in
    let other = is_other (is_closure ty) (and_both wanted (not (is_closure ty)) p.0).1 in
    record { value = made_up x.ty x.nums x.texts (subst (λ t. IsTrue (is_type t)) (sym same) h) (ap is_closure same ∙ other) q.1; type = same }
  where
    is_other : (b : Bool) → IsTrue (not b) → b ≡ false
    is_other true t = absurd (cc t)
    is_other false t = refl

global_typed : GlobalsAreTyped → (ty : Ty) (point : Point) (o : Option GlobalName) → IsPoint point → IsTrue (is_global_type o ty) → IsOfType ty (global_start ty point o)
global_typed typed ty point None p h = absurd (cc h)
global_typed typed ty point (Some global) p h = subst (λ t. IsOfType t (global_at point global)) (sym (same_type-true ty (type_of_global global) h)) (typed point global p)

-- ---- symbols of valid code

pub record SymbolFits (raw : Raw) (k : ℕ) (symbol : Symbol) : Type 0 where
  pub leading : IsTrue (parameter_fits (are_parameters (take k raw.symbols)) symbol)
  pub is_type : IsTrue (is_type symbol.ty)
  pub global : IsTrue (global_fits symbol.class symbol.name symbol.ty)
  pub value : IsTrue (is_value_of (has_value symbol.class symbol.ty) symbol.ty symbol.value)

module _ (raw : Raw) (valid : IsValid raw) where
  pub symbol_facts : (k : ℕ) (symbol : Symbol) → slice_get raw.symbols k ≡ Some symbol → SymbolFits raw k symbol
  symbol_facts k symbol at =
      let before = take k raw.symbols in
      let leading = are_parameters before in
      let all = (and_both (symbol_fits leading symbol) (not (is_taken before symbol.name)) (valid.symbols k symbol at)).0 in
      let named = is_name symbol.name && parameter_fits leading symbol in
      let typed = is_type symbol.ty && global_fits symbol.class symbol.name symbol.ty in
      let valued = is_value_of (has_value symbol.class symbol.ty) symbol.ty symbol.value in
      let metas = metadata_fits symbol.class symbol.metas in
      let p = and_both (named && typed) (valued && metas) all in
      let q = and_both named typed p.0 in
      let r = and_both (is_type symbol.ty) (global_fits symbol.class symbol.name symbol.ty) q.1 in
      record { leading = (and_both (is_name symbol.name) (parameter_fits leading symbol) q.0).1; is_type = r.0; global = r.1; value = (and_both valued metas p.1).0 }

-- a parameter after parameters has its number among them
parameter_behind : (symbols : List Symbol) (k : ℕ) (symbol : Symbol) → slice_get symbols k ≡ Some symbol → is_parameter symbol.class ≡ true → IsTrue (are_parameters (take k symbols))
    → slice_get (map parameter_of (filter (λ s. is_parameter s.class) symbols)) k ≡ Some (parameter_of symbol)
parameter_behind [] k symbol at is before = absurd (cc at)
parameter_behind (s ∷ ss) zero symbol at is before =
    let same : s ≡ symbol = some_same s symbol at in
    ap (λ b. slice_get (map parameter_of (if b then s ∷ filter (λ s. is_parameter s.class) ss else filter (λ s. is_parameter s.class) ss)) 0) (ap (λ s. is_parameter s.class) same ∙ is)
    ∙ ap (λ s. Some (parameter_of s)) same
parameter_behind (s ∷ ss) (suc k) symbol at is before =
    let p = and_both (is_parameter s.class) (are_parameters (take k ss)) before in
    ap (λ b. slice_get (map parameter_of (if b then s ∷ filter (λ s. is_parameter s.class) ss else filter (λ s. is_parameter s.class) ss)) (suc k)) p.0
    ∙ parameter_behind ss k symbol at is p.1

module _ (raw : Raw) (valid : IsValid raw) where
  -- a parameter has its symbol's number
  pub parameter_at : (k : ℕ) (symbol : Symbol) → slice_get raw.symbols k ≡ Some symbol → is_parameter symbol.class ≡ true → slice_get (parameters_of raw) k ≡ Some (parameter_of symbol)
  parameter_at k symbol at is = parameter_behind raw.symbols k symbol at is (leads (is_parameter symbol.class) is (symbol_facts raw valid k symbol at).leading)
    where
      leads : (b : Bool) → b ≡ true → IsTrue (not b || (are_parameters (take k raw.symbols) && not (bytes_eq symbol.name main_name))) → IsTrue (are_parameters (take k raw.symbols))
      leads true is h = (and_both (are_parameters (take k raw.symbols)) (not (bytes_eq symbol.name main_name)) h).0
      leads false is h = absurd (cc is)

  module _ (inputs : Inputs) (fit : AreInputs (parameters_of raw) inputs) where
    -- ---- what is connected

    wired_by : (k : ℕ) (symbol : Symbol) (v : AnyValue) → slice_get raw.symbols k ≡ Some symbol → is_parameter symbol.class ≡ true → (i : Input) → inputs k ≡ i → source_of i ≡ Wired (Some v) → IsOfType symbol.ty v
    wired_by k symbol v at is (From None) here h = absurd (cc h)
    wired_by k symbol v at is (From (Some w)) here h = let same : w ≡ v = cc h in subst (IsOfType symbol.ty) same (fit.connected k (parameter_of symbol) w (parameter_at k symbol at is) here)
    wired_by k symbol v at is (Fixed w) here h = absurd (cc h)
    wired_by k symbol v at is Default here h = absurd (cc h)

    never_held : (i : Input) (v : AnyValue) → source_of i ≡ Held v → ⊥
    never_held (From given) v h = cc h
    never_held (Fixed w) v h = cc h
    never_held Default v h = cc h

    pub sources_typed : TypedSources raw.symbols (sources_of raw inputs)
    sources_typed = record {
      wired = λ k symbol v at is. wired k symbol v at (is_parameter symbol.class) refl (sym (ap (λ o. if is_parameter_at o then source_of (inputs k) else Own) at) ∙ is);
      held = λ k symbol v at is. absurd (held k v (is_parameter_at (slice_get raw.symbols k)) is);
    }
      where
        wired : (k : ℕ) (symbol : Symbol) (v : AnyValue) → slice_get raw.symbols k ≡ Some symbol → (b : Bool) → is_parameter symbol.class ≡ b → (if b then source_of (inputs k) else Own) ≡ Wired (Some v) → IsOfType symbol.ty v
        wired k symbol v at true is h = wired_by k symbol v at is (inputs k) refl h
        wired k symbol v at false is h = absurd (cc h)

        held : (k : ℕ) (v : AnyValue) (b : Bool) → (if b then source_of (inputs k) else Own) ≡ Held v → ⊥
        held k v true h = never_held (inputs k) v h
        held k v false h = cc h

    -- ---- the start

    parameter_typed : (k : ℕ) (symbol : Symbol) → slice_get raw.symbols k ≡ Some symbol → is_parameter symbol.class ≡ true → (i : Input) → inputs k ≡ i → IsOfType symbol.ty (parameter_start symbol i)
    parameter_typed k symbol at is (From given) here = zero_typed symbol.ty (symbol_facts raw valid k symbol at).is_type
    parameter_typed k symbol at is (Fixed v) here = fit.fixed k (parameter_of symbol) v (parameter_at k symbol at is) here
    parameter_typed k symbol at is Default here = let fits = symbol_facts raw valid k symbol at in stated_typed symbol.ty (has_value symbol.class symbol.ty) symbol.value fits.is_type fits.value

    module _ (globals : GlobalsAreTyped) (point : Point) (in_range : IsPoint point) where
      class_typed : (k : ℕ) (symbol : Symbol) → slice_get raw.symbols k ≡ Some symbol → (class : Class) → symbol.class ≡ class → IsOfType symbol.ty (class_start symbol (inputs k) point class)
      class_typed k symbol at Param is = parameter_typed k symbol at (ap is_parameter is) (inputs k) refl
      class_typed k symbol at Oparam is = parameter_typed k symbol at (ap is_parameter is) (inputs k) refl
      class_typed k symbol at Global is =
          global_typed globals symbol.ty point (global_named symbol.name) in_range (subst (λ c. IsTrue (global_fits c symbol.name symbol.ty)) is (symbol_facts raw valid k symbol at).global)
      class_typed k symbol at Const is = let fits = symbol_facts raw valid k symbol at in stated_typed symbol.ty (has_value symbol.class symbol.ty) symbol.value fits.is_type fits.value
      class_typed k symbol at Local is = zero_typed symbol.ty (symbol_facts raw valid k symbol at).is_type
      class_typed k symbol at Temp is = zero_typed symbol.ty (symbol_facts raw valid k symbol at).is_type

      pub start_typed : (budget : ℕ) → IsTyped raw.symbols (start_of raw inputs point budget)
      start_typed budget = record {
        each = λ k symbol at. subst (λ o. IsOfType symbol.ty (symbol_start (inputs k) point o)) (sym at) (class_typed k symbol at symbol.class refl);
      }

-- ---- what it gives

-- the symbols' values, where the first one's number is `at`
abbrev ValuesFit : ℕ → List Symbol → (ℕ → AnyValue) → Type 0
ValuesFit at symbols values = (k : ℕ) (symbol : Symbol) → slice_get symbols k ≡ Some symbol → IsOfType symbol.ty (values (at + k))

first_fits : (at : ℕ) (symbol : Symbol) (symbols : List Symbol) (values : ℕ → AnyValue) → ValuesFit at (symbol ∷ symbols) values → IsOfType symbol.ty (values at)
first_fits at symbol symbols values h = let n : at + 0 ≡ at = omega arith in subst (λ j. IsOfType symbol.ty (values j)) n (h 0 symbol refl)

later_fit : (at : ℕ) (symbol : Symbol) (symbols : List Symbol) (values : ℕ → AnyValue) → ValuesFit at (symbol ∷ symbols) values → ValuesFit (at + 1) symbols values
later_fit at symbol symbols values h k s is = let n : at + suc k ≡ (at + 1) + k = omega arith in subst (λ j. IsOfType s.ty (values j)) n (h (suc k) s is)

-- one symbol more
output_fits : (at : ℕ) (symbol : Symbol) (params : List Symbol) (values : ℕ → AnyValue) (outputs : List (Option AnyValue)) → IsOfType symbol.ty (values at) → OutputsFit (map parameter_of params) outputs → (class : Class) → symbol.class ≡ class
    → OutputsFit (map parameter_of (if is_parameter class then symbol ∷ params else params)) (output_of class (values at) outputs)
output_fits at symbol params values outputs of rest Param is = (subst (λ b. OutputFits symbol.ty b None) (sym (ap is_output is)) tt, rest)
output_fits at symbol params values outputs of rest Oparam is = (subst (λ b. OutputFits symbol.ty b (Some (values at))) (sym (ap is_output is)) of, rest)
output_fits at symbol params values outputs of rest Global is = rest
output_fits at symbol params values outputs of rest Const is = rest
output_fits at symbol params values outputs of rest Local is = rest
output_fits at symbol params values outputs of rest Temp is = rest

outputs_fit : (at : ℕ) (symbols : List Symbol) (values : ℕ → AnyValue) → ValuesFit at symbols values → OutputsFit (map parameter_of (filter (λ s. is_parameter s.class) symbols)) (outputs_from at symbols values)
outputs_fit at [] values h = tt
outputs_fit at (symbol ∷ symbols) values h =
    output_fits at symbol (filter (λ s. is_parameter s.class) symbols) values (outputs_from (at + 1) symbols values) (first_fits at symbol symbols values h) (outputs_fit (at + 1) symbols values (later_fit at symbol symbols values h)) symbol.class refl

parts_fit : (v : AnyValue) → IsValue v → AreParts (parts_of v)
parts_fit (Of v) h = record { few = lit≤ tt; all = All-nil IsPart }
parts_fit (Parts parts) h = h

either_fits : (b : Bool) (x y : List Part) → AreParts x → AreParts y → AreParts (if b then x else y)
either_fits true x y h g = h
either_fits false x y h g = g

closure_fits : (at : ℕ) (symbols : List Symbol) (values : ℕ → AnyValue) → ValuesFit at symbols values → AreParts (closure_from at symbols values)
closure_fits at [] values h = record { few = lit≤ tt; all = All-nil IsPart }
closure_fits at (symbol ∷ symbols) values h = either_fits (is_ci symbol) (parts_of (values at)) (closure_from (at + 1) symbols values) (parts_fit (values at) (first_fits at symbol symbols values h).value) (closure_fits (at + 1) symbols values (later_fit at symbol symbols values h))

module _ (raw : Raw) where
  results_typed : (s : State) → IsTyped raw.symbols s → AreResults (parameters_of raw) (results_by raw s)
  results_typed s h =
      let values : ValuesFit 0 raw.symbols s.values = λ k symbol at. let n : k ≡ 0 + k = omega arith in subst (λ j. IsOfType symbol.ty (s.values j)) n (h.each k symbol at) in
      record { outputs = outputs_fit 0 raw.symbols s.values values; closure = closure_fits 0 raw.symbols s.values values }

  pub end_typed : (o : Outcome) (results : LayerResults) → IsTyped raw.symbols (last o) → (layer_end raw o).results ≡ Some results → AreResults (parameters_of raw) results
  end_typed (Next s) results h is = subst (AreResults (parameters_of raw)) (some_same (results_by raw s) results is) (results_typed s h)
  end_typed (Jumps way s) results h is = subst (AreResults (parameters_of raw)) (some_same (results_by raw s) results is) (results_typed s h)
  end_typed (Spent s) results h is = absurd (cc is)
