-- A layer's run keeps types: from inputs that fit, at a point in range, along defaults and body, to what it gives.
use Rattle.std.proofs.Common.{◌≡◌, ℕ, zero, suc, ◌+◌, ◌<◌, ◌≤◌, Bool, true, false, List, [], ◌∷◌, ◌++◌, length, map, Option, Some, None, refl, sym, ap, ◌∙◌, subst, arith}
use Rattle.std.specs.Prelude.{slice_get, nat_lt, if◌then◌else◌}
use Rattle.std.specs.List.{flat_map}
use Rattle.std.proofs.Math.Seq.{take-length}
use Rattle.std.proofs.lemmas.Bool.{ltb-true}
use Rattle.std.proofs.lemmas.Option.{slice_get-map}
use Rattle.osl_value.specs.declared.point.Point.{Point}
use Rattle.osl_value.specs.declared.types.Base.TheVariants.{Closure}
use Rattle.osl_value.specs.declared.types.Ty.{Ty}
use Rattle.osl_value.specs.AnyValue.{AnyValue, Of, Parts, parts_of, zero_value}
use Rattle.osl_value.specs.Types.{only}
use Rattle.osl_value.specs.WellFormed.{AreParts, IsOfType, IsPoint}
use Rattle.osl_layer.specs.declared.global.GlobalName.TheVariants.{Ci}
use Rattle.osl_layer.specs.Laws.{GlobalsAreTyped}
use Rattle.osl_layer.specs.Layer.{Input, From, Fixed, Default, Inputs, AreInputs, LayerResults}
use Rattle.osl_overload.specs.declared.signature.Kind.{Kind}
use Rattle.osl_overload.specs.declared.signature.Kind.TheVariants.{Value, Void}
use Rattle.osl_typed.specs.declared.shader.TypedParam.{TypedParam}
use Rattle.osl_typed.specs.declared.shader.TypedShader.{TypedShader}
use Rattle.osl_typed.specs.declared.shader.TypedStructure.{TypedStructure}
use Rattle.osl_typed.specs.Ends.{StatementEnd, Next, Breaks, Continues, Returns, Exits, Spent}
use Rattle.osl_typed.specs.Frames.{leaves_of, zero_leaves, place_of}
use Rattle.osl_typed.specs.Parts.{Frame}
use Rattle.osl_typed.specs.SourceRun.{start_value, started_leaf, start_of, given_to, shader_frame, functions_of, default_held, defaults_held, layer_run, outputs_from, layer_end}
use Rattle.osl_typed.specs.State.{State, write_leaves}
use Rattle.osl_typed.specs.Statements.{begun, exec_all}
use Rattle.osl_welltyped.specs.Kinded.{is_type}
use Rattle.osl_welltyped.specs.Measures.{by_fault, body_measured, init_measured}
use Rattle.osl_welltyped.specs.WellTyped.{as_formal, kinds_of_formals, rules_below, rules_of, IsWithin, FitsRules}
use Rattle.osl_welltyped.proofs.Steps.{none_is_not, some_same}
use Rattle.oso_code.specs.Typed.{OutputFits, OutputsFit, AreResults}
use Rattle.oso_code.proofs.TypedStart.{zero_typed}
use Rattle.osl_typed_runs.specs.Parameters.{parameter_of, parameters_of}
use Rattle.osl_typed_runs.specs.Typed.{IsOfKind, IsTypedState, StatementEndsTyped, IsTypedFrame, CallsKeep}
use Rattle.osl_typed_runs.proofs.FunctionTypes.{zeros_typed, below_keep}
use Rattle.osl_typed_runs.proofs.InitTypes.{begun_typed, variable_written, kind_there}
use Rattle.osl_typed_runs.proofs.LeafKinds.{all_get, frame_all}
use Rattle.osl_typed_runs.proofs.StatementTypes.{then_keeps, value_keeps, statements_keep}

-- ---- parameters

-- a parameter is one variable, and one leaf
param_kind : (params : List TypedParam) (rest : List Kind) (k : ℕ) (param : TypedParam) → slice_get params k ≡ Some param → slice_get (kinds_of_formals (map as_formal params) ++ rest) k ≡ Some (Value param.ty)
param_kind [] rest k param h = none_is_not param h
param_kind (p ∷ params) rest zero param h = ap (λ (q : TypedParam). Some (Value q.ty)) (some_same p param h)
param_kind (p ∷ params) rest (suc k) param h = param_kind params rest k param h

pub param_leaf : (structures : List TypedStructure) (params : List TypedParam) (rest : List Kind) (k : ℕ) (param : TypedParam) → slice_get params k ≡ Some param
    → slice_get (flat_map (leaves_of structures) (kinds_of_formals (map as_formal params) ++ rest)) k ≡ Some param.ty
param_leaf structures [] rest k param h = none_is_not param h
param_leaf structures (p ∷ params) rest zero param h = ap (λ (q : TypedParam). Some q.ty) (some_same p param h)
param_leaf structures (p ∷ params) rest (suc k) param h = param_leaf structures params rest k param h

-- there is one of each number
param_there : (params : List TypedParam) (k : ℕ) → k < length params → (param : TypedParam) × (slice_get params k ≡ Some param)
param_there [] k h = absurd (omega (arith, h))
param_there (p ∷ params) zero h = (p, refl)
param_there (p ∷ params) (suc k) h = param_there params k (omega (arith, h))

told : (t : TypedShader) (k : ℕ) (param : TypedParam) → slice_get t.params k ≡ Some param → slice_get (parameters_of t) k ≡ Some (parameter_of param)
told t k param h = slice_get-map parameter_of t.params k ∙ ap (λ o. elim o [ None ↦ None | Some p ↦ Some (parameter_of p) ]) h

-- ---- faults

no_more : (n : ℕ) → n ≤ 0 → n ≡ 0
no_more n h = omega (arith, h)

-- ---- what a layer gives

parts_are : (v : AnyValue) → IsOfType (only Closure) v → AreParts (parts_of v)
parts_are (Of v) h = absurd (h.value.no_closure (ap (λ (ty : Ty). ty.base) h.type))
parts_are (Parts parts) h = h.value

module _ (t : TypedShader) (fit : FitsRules t) (good : IsWithin by_fault 0 t) where
  abbrev types : List Ty
  types = flat_map (leaves_of t.structures) t.frame

  param_type : (k : ℕ) (param : TypedParam) → slice_get t.params k ≡ Some param → slice_get types k ≡ Some param.ty
  param_type k param h = ap (λ kinds. slice_get (flat_map (leaves_of t.structures) kinds) k) fit.frame.kinds ∙ param_leaf t.structures t.params _ k param h

  variable_kind : (k : ℕ) (param : TypedParam) → slice_get t.params k ≡ Some param → slice_get t.frame k ≡ Some (Value param.ty)
  variable_kind k param h = ap (λ kinds. slice_get kinds k) fit.frame.kinds ∙ param_kind t.params _ k param h

  outputs_typed : (vars : ℕ → AnyValue) (at : ℕ) (params : List TypedParam) → ((j : ℕ) (param : TypedParam) → slice_get params j ≡ Some param → IsOfType param.ty (vars (at + j)))
      → OutputsFit (map parameter_of params) (outputs_from vars at params)
  unfolding outputs_from
  outputs_typed vars at [] h = tt
  outputs_typed vars at (param ∷ params) h =
      let here : at + 0 ≡ at = omega arith in (
        by param.output (subst (λ k. IsOfType param.ty (vars k)) here (h 0 param refl)),
        outputs_typed vars (at + 1) params (λ j p is. let e : at + suc j ≡ (at + 1) + j = omega arith in subst (λ k. IsOfType p.ty (vars k)) e (h (suc j) p is)),
      )
    where
      by : (b : Bool) → IsOfType param.ty (vars at) → OutputFits param.ty b (if b then Some (vars at) else None)
      by true is = is
      by false is = tt

  results_typed : (s : State) (results : LayerResults) → IsTypedState types s → (layer_end t (Next s)).results ≡ Some results → AreResults (parameters_of t) results
  results_typed s results typed h =
      subst (AreResults (parameters_of t)) (some_same _ results h)
      (record {
        outputs = outputs_typed s.vars 0 t.params (λ j param is. let e : j ≡ 0 + j = omega arith in subst (λ k. IsOfType param.ty (s.vars k)) e (typed.vars.each j param.ty (param_type j param is)));
        closure = parts_are (s.globals Ci) (typed.globals.each Ci);
      })

  pub end_results : (end : StatementEnd) (results : LayerResults) → StatementEndsTyped t.structures types Void end → (layer_end t end).results ≡ Some results → AreResults (parameters_of t) results
  end_results (Next s) results typed h = results_typed s results typed h
  end_results (Breaks s) results typed h = results_typed s results typed h
  end_results (Continues s) results typed h = results_typed s results typed h
  end_results (Returns v s) results typed h = results_typed s results typed.1 h
  end_results (Exits s) results typed h = results_typed s results typed h
  end_results (Spent s) results typed h = none_is_not results h

  -- ---- functions

  pub functions_keep : CallsKeep t.structures t.functions (functions_of t)
  functions_keep = subst (λ fs. CallsKeep t.structures fs (functions_of t)) (take-length t.functions) (below_keep t fit (λ n f is. no_more (body_measured by_fault f.body) (good.functions n f is)) (length t.functions))

  module _ (inputs : Inputs) (are : AreInputs (parameters_of t) inputs) where
    -- ---- the frame

    given : (k : ℕ) (b : Bool) (v : AnyValue) → nat_lt k (length t.params) ≡ b → (if b then inputs k else Default) ≡ From (Some v) → (param : TypedParam) × ((slice_get t.params k ≡ Some param) × IsOfType param.ty v)
    given k true v lt h = let p = param_there t.params k (ltb-true k (length t.params) lt) in (p.0, (p.1, are.connected k (parameter_of p.0) v (told t k p.0 p.1) h))
    given k false v lt h = absurd (cc h)

    pub frame_typed : (ready : ℕ) → IsTypedFrame (rules_below t ready) (given_to t.params inputs)
    frame_typed ready = record {
      structures = fit.structures;
      kinds = fit.frame.fit;
      connected = λ k v h. let p = given k (nat_lt k (length t.params)) v refl h in variable_kind k p.0 p.1.0 ∙ ap (λ ty. Some (Value ty)) (sym p.1.1.type);
      given = λ k v h. (given k (nat_lt k (length t.params)) v refl h).1.1.value;
    }

    -- ---- the start

    started : (k : ℕ) (ty : Ty) (o : Option TypedParam) (i : Input) → slice_get types k ≡ Some ty → slice_get t.params k ≡ o → inputs k ≡ i → IsOfType ty (started_leaf o i (zero_leaves types k))
    started k ty None i is p q = (zeros_typed types (frame_all t.structures fit.structures t.frame fit.frame.fit)).each k ty is
    started k ty (Some param) i is p q = subst (λ z. IsOfType z (start_value param i)) (some_same param.ty ty (sym (param_type k param p) ∙ is)) (by i q)
      where
        zero_is : IsOfType param.ty (zero_value param.ty)
        zero_is = zero_typed param.ty (all_get is_type types k param.ty (frame_all t.structures fit.structures t.frame fit.frame.fit) (param_type k param p))

        by : (i : Input) → inputs k ≡ i → IsOfType param.ty (start_value param i)
        by (From source) h = zero_is
        by (Fixed v) h = are.fixed k (parameter_of param) v (told t k param p) h
        by Default h = zero_is

    pub start_typed : GlobalsAreTyped → (point : Point) (budget : ℕ) → IsPoint point → IsTypedState types (start_of t inputs point budget)
    start_typed globals point budget in_range = record {
      vars = record { each = λ k ty is. started k ty (slice_get t.params k) (inputs k) is refl refl };
      globals = record { each = λ g. globals point g in_range };
    }

    -- ---- defaults

    abbrev frame : Frame
    frame = shader_frame t inputs

    default_keeps : (k : ℕ) (param : TypedParam) (i : Input) → slice_get t.params k ≡ Some param → (s : State) → IsTypedState types s → StatementEndsTyped t.structures types Void (default_held frame (functions_of t) i k param s)
    default_keeps k param (From source) is s typed = typed
    default_keeps k param (Fixed v) is s typed = typed
    default_keeps k param Default is s typed =
        let rules = rules_below t k in
        let fits = frame_typed k in
        let kind = variable_kind k param is in
        value_keeps rules (given_to t.params inputs) (functions_of t) fits functions_keep Void (IsOfKind t.structures (Value param.ty)) (begun frame (functions_of t) (Value param.ty) param.init s)
        (λ vs s1. Next (write_leaves (place_of t.structures t.frame k) vs s1))
        (begun_typed rules (given_to t.params inputs) (functions_of t) fits functions_keep (Value param.ty) param.init (kind_there rules (given_to t.params inputs) (functions_of t) fits functions_keep k (Value param.ty) kind)
        (fit.params k param is).default (no_more (init_measured by_fault param.init) (good.params k param is)) s typed)
        (λ vs s1 given t1. variable_written rules (given_to t.params inputs) (functions_of t) fits functions_keep k (Value param.ty) vs s1 kind given t1)

    defaults_keep : (k : ℕ) (params : List TypedParam) → ((j : ℕ) (param : TypedParam) → slice_get params j ≡ Some param → slice_get t.params (k + j) ≡ Some param) → (s : State) → IsTypedState types s
        → StatementEndsTyped t.structures types Void (defaults_held frame (functions_of t) k params s)
    unfolding defaults_held
    defaults_keep k [] there s typed = typed
    defaults_keep k (param ∷ params) there s typed =
        let here : k + 0 ≡ k = omega arith in
        then_keeps (rules_of t) (given_to t.params inputs) (functions_of t) (frame_typed (length t.frame)) functions_keep Void (default_held frame (functions_of t) (frame.inputs k) k param s) (defaults_held frame (functions_of t) (k + 1) params)
        (default_keeps k param (frame.inputs k) (subst (λ j. slice_get t.params j ≡ Some param) here (there 0 param refl)) s typed)
        (λ s1 t1. defaults_keep (k + 1) params (λ j p is. let e : k + suc j ≡ (k + 1) + j = omega arith in subst (λ i. slice_get t.params i ≡ Some p) e (there (suc j) p is)) s1 t1)

    -- ---- the whole run

    pub layer_typed : GlobalsAreTyped → (point : Point) (budget : ℕ) → IsPoint point → StatementEndsTyped t.structures types Void (layer_run t inputs (start_of t inputs point budget))
    layer_typed globals point budget in_range =
        let start = start_of t inputs point budget in
        then_keeps (rules_of t) (given_to t.params inputs) (functions_of t) (frame_typed (length t.frame)) functions_keep Void (defaults_held frame (functions_of t) 0 t.params start) (exec_all frame (functions_of t) t.body)
        (defaults_keep 0 t.params (λ j param is. let e : 0 + j ≡ j = omega arith in ap (slice_get t.params) e ∙ is) start (start_typed globals point budget in_range))
        (statements_keep (rules_of t) (given_to t.params inputs) (functions_of t) (frame_typed (length t.frame)) functions_keep Void t.body fit.body (no_more (body_measured by_fault t.body) good.body))
