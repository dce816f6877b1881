-- A default that is a constant may be stated in its parameter's symbol: it gives its value wherever it is evaluated.
use Rattle.std.proofs.Common.{◌≡◌, ℕ, [], ◌∷◌, Some, true, ap, ◌∙◌}
use Rattle.std.specs.Prelude.{slice_get}
use Rattle.osl_value.specs.AnyValue.{AnyValue}
use Rattle.osl_layer.specs.Layer.{Inputs, Default}
use Rattle.osl_typed.specs.declared.shader.TypedParam.{TypedParam}
use Rattle.osl_typed.specs.declared.shader.TypedShader.{TypedShader}
use Rattle.osl_typed.specs.Ends.{Next}
use Rattle.osl_typed.specs.Frames.{place_of}
use Rattle.osl_typed.specs.SourceRun.{default_held, functions_of}
use Rattle.osl_typed.specs.State.{State, write_leaves}
use Rattle.osl_typed.specs.Statements.{with_value}
use Rattle.osl_typed_runs.proofs.ConstantValues.{constant_begun}
use Rattle.osl_welltyped.specs.WellTyped.{FitsRules, is_constant_init}
use Rattle.osl_gencode.specs.SectionCodes.{source_frame}
use Rattle.osl_gencode.proofs.Growing.{get_some}
use Rattle.osl_gencode.proofs.ShaderFrames.{shader_frame}

-- v is what the constant gives
pub constant_stated : (t : TypedShader) → FitsRules t → (n : ℕ) (p : TypedParam) (v : AnyValue) → slice_get t.params n ≡ Some p → (constant : is_constant_init p.init ≡ true) → (constant_begun p.ty p.init constant).value ≡ v ∷ [] → (inputs : Inputs) (s : State) → default_held (source_frame t inputs) (functions_of t) Default n p s ≡ Next (write_leaves n (v ∷ []) s)
constant_stated t fit n p v at constant is inputs s =
    let place = ((shader_frame t fit).places n (get_some t.params n p at)).0 in
    ap (λ o. with_value o (λ vs s1. Next (write_leaves (place_of t.structures t.frame n) vs s1))) ((constant_begun p.ty p.init constant).gives (source_frame t inputs) (functions_of t) s)
    ∙ ap (λ vs. Next (write_leaves (place_of t.structures t.frame n) vs s)) is
    ∙ ap (λ k. Next (write_leaves k (v ∷ []) s)) place
