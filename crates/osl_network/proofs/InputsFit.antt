-- A layer of a group is given what it may be given.
use Rattle.std.proofs.Common.{◌≡◌, ◌∙◌, ap, sym, refl, subst, ℕ, zero, suc, Bool, true, false, ◌||◌, ◌&&◌, List, [], ◌∷◌, map, Option, Some, None, slice_get, cond}
use Rattle.std.specs.Prelude.{option_and_then, option_map, unwrap_or, bytes_eq}
use Rattle.std.specs.List.{All}
use Rattle.std.proofs.lemmas.Bool.{false≢true, cond-true}
use Rattle.std.proofs.lemmas.List.Elements.{All-cons, All-head, All-tail, All-nil}
use Rattle.std.proofs.lemmas.Option.{slice_get-map, same_Some}
use Rattle.osl_value.specs.declared.op_name.OpName.TheVariants.{Assign}
use Rattle.osl_value.specs.declared.types.Ty.{Ty}
use Rattle.osl_value.specs.AnyValue.{AnyValue, Of, type_of, converted, is_assignable, zero_value}
use Rattle.osl_value.specs.Apply.{apply, is_allowed}
use Rattle.osl_value.specs.Laws.{GivesValues, WritesItsType}
use Rattle.osl_value.specs.Plain.{Plain}
use Rattle.osl_value.specs.Types.{same_type}
use Rattle.osl_value.specs.WellFormed.{IsOfType, IsValue}
use Rattle.osl_value.proofs.SameTypes.{same_type-true}
use Rattle.osl_layer.specs.Layer.{From, Fixed, LayerEnd, Parameter, AreInputs}
use Rattle.osl_network.specs.declared.port.Port.{Port}
use Rattle.osl_network.specs.declared.variables.Var.{Var}
use Rattle.osl_network.specs.Groups.{ValueFits, ValuesFit, AllFit, IsWire, IsNetwork, AreValues}
use Rattle.osl_network.specs.Inputs.{output_at, inputs_of, given, given_at, held, overridden, instance}
use Rattle.osl_network.specs.Laws.{EndsFit, InputsFit}
use Rattle.osl_network.specs.Network.{Place, Layer, Network, layer_at, port_at, source_at, parameter_of}
use Rattle.osl_network.specs.Points.{variable_of}
use Rattle.osl_network.specs.Runs.{GroupValues, values_of}

-- ---- conversions

assigned : (ty : Ty) (v : AnyValue) → is_assignable ty (type_of v) ≡ true → apply Assign ty (v ∷ []) ≡ converted ty v
unfolding apply
assigned ty v is = cond-true (is_assignable ty (type_of v)) (converted ty v) (zero_value ty) is

allowed : (ty from : Ty) → is_assignable ty from ≡ true → is_allowed Assign ty (from ∷ []) ≡ true
unfolding is_allowed
allowed ty from is = ap (λ t. t || false) is

converted_fits : GivesValues → WritesItsType → (ty from : Ty) (v : AnyValue) → IsOfType from v → is_assignable ty from ≡ true → IsOfType ty (converted ty v)
converted_fits gives writes ty from v fits is =
    let takes : is_assignable ty (type_of v) ≡ true = ap (is_assignable ty) fits.type ∙ is in
    let passes : is_allowed Assign ty (type_of v ∷ []) ≡ true = allowed ty (type_of v) takes in
    let same : apply Assign ty (v ∷ []) ≡ converted ty v = assigned ty v takes in
    record {
      value = subst IsValue same (gives Assign ty (v ∷ []) (All-cons IsValue v [] fits.value (All-nil IsValue)) passes);
      type = sym (ap type_of same) ∙ writes Assign ty (v ∷ []) passes;
    }

-- ---- values

value_fits : (p port : Port) (v : Option Plain) (u : Plain) → ValueFits p v → Some p ≡ Some port → v ≡ Some u → IsOfType port.ty (Of u)
value_fits p port None u fits same is = absurd (cc is)
value_fits p port (Some w) u fits same is =
    subst (λ q. IsOfType q.ty (Of u)) (same_Some p port same) (subst (λ x. IsOfType p.ty (Of x)) (same_Some w u is) fits)

values_fit : (ports : List Port) (values : List (Option Plain)) → ValuesFit ports values → (k : ℕ) (port : Port) (u : Plain) → slice_get ports k ≡ Some port → unwrap_or (slice_get values k) None ≡ Some u → IsOfType port.ty (Of u)
values_fit [] values fits k port u here is = absurd (cc here)
values_fit (p ∷ ports) [] fits k port u here is = absurd fits
values_fit (p ∷ ports) (v ∷ values) fits zero port u here is = value_fits p port v u fits.0 here is
values_fit (p ∷ ports) (v ∷ values) fits (suc k) port u here is = values_fit ports values fits.1 k port u here is

layer_fits : (layers : List Layer) (values : GroupValues) → AllFit layers values → (l : ℕ) (layer : Layer) → slice_get layers l ≡ Some layer → ValuesFit layer.ports (values_of values l)
layer_fits [] values fits l layer here = absurd (cc here)
layer_fits (x ∷ layers) [] fits l layer here = absurd fits
layer_fits (x ∷ layers) (v ∷ values) fits zero layer here = subst (λ (y : Layer). ValuesFit y.ports v) (same_Some x layer here) fits.0
layer_fits (x ∷ layers) (v ∷ values) fits (suc l) layer here = layer_fits layers values fits.1 l layer here

variable_fits : (vars : List Var) → All (λ var. IsValue (Of var.value)) vars → (name : List ℕ) (ty : Ty) (u : Plain) → variable_of vars name ty ≡ Some u → IsOfType ty (Of u)
variable_fits [] good name ty u is = absurd (cc is)
variable_fits (var ∷ vars) good name ty u is =
    go (bytes_eq var.name name) (same_type var.value.ty ty) (variable_fits vars (All-tail (λ (w : Var). IsValue (Of w.value)) var vars good) name ty u) refl is
  where
    go : (named typed : Bool) → (variable_of vars name ty ≡ Some u → IsOfType ty (Of u)) → same_type var.value.ty ty ≡ typed → cond (named && typed) (Some var.value) (variable_of vars name ty) ≡ Some u → IsOfType ty (Of u)
    go true true others of_type found =
        let same : var.value ≡ u = same_Some var.value u found in
        record {
          value = subst (λ w. IsValue (Of w)) same (All-head (λ (w : Var). IsValue (Of w.value)) var vars good);
          type = ap (λ (w : Plain). w.ty) (sym same) ∙ same_type-true var.value.ty ty of_type;
        }
    go true false others of_type found = others found
    go false typed others of_type found = others found

-- ---- inputs

module _ (net : Network) (values : GroupValues) (vars : List Var) (ends : List LayerEnd) (l : ℕ) (layer : Layer) (group : IsNetwork net) (here : layer_at net l ≡ Some layer) where
  port_here : (k : ℕ) (port : Port) → slice_get layer.ports k ≡ Some port → port_at net (l, k) ≡ Some port
  port_here k port is = ap (option_and_then (λ (x : Layer). slice_get x.ports k)) here ∙ is

  flat : (o : Option (Option Place)) (place : Place) → unwrap_or o None ≡ Some place → option_and_then (λ found. found) o ≡ Some place
  flat None place is = absurd (cc is)
  flat (Some found) place is = is

  source_here : (k : ℕ) (place : Place) → unwrap_or (slice_get layer.sources k) None ≡ Some place → source_at net (l, k) ≡ Some place
  source_here k place is = ap (λ o. option_and_then (λ found. found) (option_and_then (λ (x : Layer). slice_get x.sources k) o)) here ∙ flat (slice_get layer.sources k) place is

  connected_at : (k : ℕ) (port : Port) (place : Place) → slice_get layer.ports k ≡ Some port → unwrap_or (slice_get layer.sources k) None ≡ Some place → IsWire net place (l, k)
  connected_at k port place is from = group.wires (l, k) place (source_here k place from)

  -- the parameter at the end of a connection is the one that is there
  input_is : (k : ℕ) (port : Port) → slice_get layer.ports k ≡ Some port → (place : Place) (wire : IsWire net place (l, k)) → wire.input ≡ port
  input_is k port is place wire = same_Some wire.input port (sym wire.here ∙ port_here k port is)

  -- by what a parameter is connected to
  no_output : (port : Port) (interactive : Bool) (value : Option Plain) (source : Option Place) (from : Option AnyValue)
      → ((place : Place) → source ≡ Some place → port.output ≡ false) → port.output ≡ true → given vars ends port interactive value source ≡ From from → ⊥
  no_output port interactive value None from wired out is = unconnected (held vars port interactive value) is
    where
      unconnected : (v : Option Plain) → instance v ≡ From from → ⊥
      unconnected None e = absurd (cc e)
      unconnected (Some u) e = absurd (cc e)
  no_output port interactive value (Some place) from wired out is = false≢true (sym (wired place refl) ∙ out)

  fixed_fits : (port : Port) (interactive : Bool) (value : Option Plain) (source : Option Place) (v : AnyValue)
      → ((u : Plain) → held vars port interactive value ≡ Some u → IsOfType port.ty (Of u)) → given vars ends port interactive value source ≡ Fixed v → IsOfType port.ty v
  fixed_fits port interactive value None v fits is = of_instance (held vars port interactive value) fits is
    where
      of_instance : (o : Option Plain) → ((u : Plain) → o ≡ Some u → IsOfType port.ty (Of u)) → instance o ≡ Fixed v → IsOfType port.ty v
      of_instance None fit e = absurd (cc e)
      of_instance (Some u) fit e = let same : Of u ≡ v = cc e in subst (IsOfType port.ty) same (fit u refl)
  fixed_fits port interactive value (Some place) v fits is = absurd (cc is)

  held_fits : (port : Port) (interactive : Bool) (value : Option Plain) → All (λ (var : Var). IsValue (Of var.value)) vars
      → ((u : Plain) → value ≡ Some u → IsOfType port.ty (Of u)) → (u : Plain) → held vars port interactive value ≡ Some u → IsOfType port.ty (Of u)
  held_fits port false value good fits u is = fits u is
  held_fits port true value good fits u is = of_variable (variable_of vars port.name port.ty) (variable_fits vars good port.name port.ty) is
    where
      of_variable : (o : Option Plain) → ((w : Plain) → o ≡ Some w → IsOfType port.ty (Of w)) → overridden o value ≡ Some u → IsOfType port.ty (Of u)
      of_variable None fit e = fits u e
      of_variable (Some w) fit e = fit u e

  connected_fits : GivesValues → WritesItsType → EndsFit net ends → (port : Port) (interactive : Bool) (value : Option Plain) (source : Option Place) (v : AnyValue)
      → ((place : Place) → source ≡ Some place → (from : Port) × (port_at net place ≡ Some from) × (is_assignable port.ty from.ty ≡ true))
      → given vars ends port interactive value source ≡ From (Some v) → IsOfType port.ty v
  connected_fits gives writes typed port interactive value None v wired is = absurd (unconnected (held vars port interactive value) is)
    where
      unconnected : (o : Option Plain) → instance o ≡ From (Some v) → ⊥
      unconnected None e = absurd (cc e)
      unconnected (Some u) e = absurd (cc e)
  connected_fits gives writes typed port interactive value (Some place) v wired is = of_output (output_at ends place) refl is
    where
      of_output : (o : Option AnyValue) → output_at ends place ≡ o → From (option_map (converted port.ty) o) ≡ From (Some v) → IsOfType port.ty v
      of_output None found e = absurd (cc e)
      of_output (Some w) found e =
          let from = wired place refl in
          let same : converted port.ty w ≡ v = cc e in
          subst (IsOfType port.ty) same (converted_fits gives writes port.ty from.0.ty w (typed place from.0 w from.1 found) from.2)

  told : (k : ℕ) (param : Parameter) → slice_get (map parameter_of layer.ports) k ≡ Some param → (port : Port) × (slice_get layer.ports k ≡ Some port) × (parameter_of port ≡ param)
  told k param is = of_port (slice_get layer.ports k) refl (sym (slice_get-map parameter_of layer.ports k) ∙ is)
    where
      of_port : (o : Option Port) → slice_get layer.ports k ≡ o → option_map parameter_of o ≡ Some param → (port : Port) × (slice_get layer.ports k ≡ Some port) × (parameter_of port ≡ param)
      of_port None found e = absurd (cc e)
      of_port (Some port) found e = (port, found, same_Some (parameter_of port) param e)

  given_here : (k : ℕ) (port : Port) → slice_get layer.ports k ≡ Some port → inputs_of vars ends (values_of values l) layer k
      ≡ given vars ends port (unwrap_or (slice_get layer.interactive k) false) (unwrap_or (slice_get (values_of values l) k) None) (unwrap_or (slice_get layer.sources k) None)
  given_here k port is = ap (given_at vars ends (values_of values l) layer k) is

  fits_here : GivesValues → WritesItsType → AreValues net values → All (λ (var : Var). IsValue (Of var.value)) vars → EndsFit net ends
      → AreInputs (map parameter_of layer.ports) (inputs_of vars ends (values_of values l) layer)
  fits_here gives writes fit good typed = record {
    outputs = λ k param from is out e.
        let port = told k param is in
        no_output port.0 (unwrap_or (slice_get layer.interactive k) false) (unwrap_or (slice_get (values_of values l) k) None) (unwrap_or (slice_get layer.sources k) None) from
        (λ place w. let wire = connected_at k port.0 place port.1 w in sym (ap (λ (p : Port). p.output) (input_is k port.0 port.1 place wire)) ∙ wire.is_input)
        (ap (λ (p : Parameter). p.output) port.2 ∙ out) (sym (given_here k port.0 port.1) ∙ e);
    fixed = λ k param v is e.
        let port = told k param is in
        subst (λ (p : Parameter). IsOfType p.ty v) port.2
        (fixed_fits port.0 (unwrap_or (slice_get layer.interactive k) false) (unwrap_or (slice_get (values_of values l) k) None) (unwrap_or (slice_get layer.sources k) None) v
        (held_fits port.0 (unwrap_or (slice_get layer.interactive k) false) (unwrap_or (slice_get (values_of values l) k) None) good
        (λ u given_value. values_fit layer.ports (values_of values l) (layer_fits net.layers values fit l layer here) k port.0 u port.1 given_value))
        (sym (given_here k port.0 port.1) ∙ e));
    connected = λ k param v is e.
        let port = told k param is in
        subst (λ (p : Parameter). IsOfType p.ty v) port.2
        (connected_fits gives writes typed port.0 (unwrap_or (slice_get layer.interactive k) false) (unwrap_or (slice_get (values_of values l) k) None) (unwrap_or (slice_get layer.sources k) None) v
        (λ place w.
        let wire = connected_at k port.0 place port.1 w in
        (wire.output, wire.there, ap (λ (p : Port). is_assignable p.ty wire.output.ty) (sym (input_is k port.0 port.1 place wire)) ∙ wire.assignable))
        (sym (given_here k port.0 port.1) ∙ e));
  }

pub inputs_fit : GivesValues → WritesItsType → InputsFit
inputs_fit gives writes net values vars ends l layer group fit good typed here = fits_here net values vars ends l layer group here gives writes fit good typed
