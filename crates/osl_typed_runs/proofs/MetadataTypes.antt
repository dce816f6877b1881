-- The numbers and texts of a datum make up its type.
use Rattle.std.proofs.Common.{false, [], refl, sym, subst}
use Rattle.std.specs.Prelude.{IsTrue}
use Rattle.osl_value.specs.declared.types.Base.TheVariants as B
use Rattle.osl_value.specs.AnyValue.{Parts, zero_value}
use Rattle.osl_value.specs.WellFormed.{IsOfType}
use Rattle.osl_layer.specs.declared.global.GlobalName.{GlobalName}
use Rattle.osl_layer.specs.declared.global.GlobalName.TheVariants as G
use Rattle.osl_layer.specs.Globals.{type_of_global}
use Rattle.osl_layer.specs.Layer.{Inputs, Default}
use Rattle.osl_overload.specs.declared.signature.Kind.TheVariants.{Value}
use Rattle.osl_typed.specs.declared.shader.TypedDatum.{TypedDatum}
use Rattle.osl_typed.specs.declared.shader.TypedShader.{TypedShader}
use Rattle.osl_typed.specs.Metadata.{no_frame, no_calls, no_state, value_given, datum_value, datum_numbers, datum_texts}
use Rattle.osl_typed.specs.State.{State}
use Rattle.osl_welltyped.specs.Kinded.{Rules}
use Rattle.osl_welltyped.specs.WellTyped.{rules_of_constants, structures_fit, IsDatum}
use Rattle.osl_welltyped.proofs.Steps.{none_is_not}
use Rattle.oso_code.specs.Holding.{makes_up}
use Rattle.oso_code.proofs.TypedStart.{zero_typed}
use Rattle.osl_typed_runs.specs.Typed.{IsOfKind, IsTypedState, EndsTyped, frame_by, IsTypedFrame, CallsKeep}
use Rattle.osl_typed_runs.proofs.ConstantValues.{constant_begun}
use Rattle.osl_typed_runs.proofs.FunctionTypes.{never_from}
use Rattle.osl_typed_runs.proofs.InitTypes.{begun_typed}
use Rattle.osl_typed_runs.proofs.MadeValues.{value_makes}
use Rattle.osl_typed_runs.proofs.PartTypes.{single_type}
use Rattle.osl_typed_runs.proofs.Values.{only_fits}

-- ---- where constants are evaluated

any_global : (g : GlobalName) → IsOfType (type_of_global g) (zero_value (type_of_global g))
any_global G.P = zero_typed _ (only_fits B.Point)
any_global G.N = zero_typed _ (only_fits B.Normal)
any_global G.Ng = zero_typed _ (only_fits B.Normal)
any_global G.I = zero_typed _ (only_fits B.Vector)
any_global G.U = zero_typed _ (only_fits B.Float)
any_global G.V = zero_typed _ (only_fits B.Float)
any_global G.Ci = zero_typed _ (only_fits B.Closure)

abbrev some_state : State
some_state = record { vars = λ k. Parts []; globals = λ g. zero_value (type_of_global g); turns = 0; reads = λ k. false }

some_typed : IsTypedState [] some_state
some_typed = record { vars = record { each = λ k ty is. none_is_not ty is }; globals = record { each = any_global } }

abbrev no_inputs : Inputs
no_inputs k = Default

module _ (t : TypedShader) (fit : IsTrue (structures_fit 0 t.structures)) where
  abbrev rules : Rules
  rules = rules_of_constants t

  frame_typed : IsTypedFrame rules no_inputs
  frame_typed = record { structures = fit; kinds = refl; connected = λ k v h. absurd (never_from v h); given = λ k v h. absurd (never_from v h) }

  calls_keep : CallsKeep t.structures [] no_calls
  calls_keep = record { each = λ n f args globals turns reads is are typed. none_is_not f is }

  -- ---- data

  pub datum_typed : (datum : TypedDatum) → IsDatum t datum → IsOfType datum.ty (datum_value datum)
  datum_typed datum is =
      let kind = Value datum.ty in
      let given = constant_begun datum.ty datum.init is.constant in
      let typed = begun_typed rules no_inputs no_calls frame_typed calls_keep kind datum.init is.type is.value is.numbers some_state some_typed in
      let holds = subst (EndsTyped [] (IsOfKind t.structures kind)) (given.gives (frame_by rules no_inputs) no_calls some_state) typed in
      subst (λ end. IsOfType datum.ty (value_given end)) (sym (given.gives no_frame no_calls no_state)) (single_type datum.ty given.value holds.0)

  pub datum_made : (datum : TypedDatum) → IsDatum t datum → IsTrue (makes_up datum.ty (datum_numbers datum) (datum_texts datum))
  datum_made datum is = value_makes datum.ty (datum_value datum) (datum_typed datum is)
