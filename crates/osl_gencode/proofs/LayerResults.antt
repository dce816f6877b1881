-- What a layer gives at its end: its outputs and the parts of `Ci`.
use Rattle.std.proofs.Common.{◌≡◌, ℕ, zero, suc, ◌+◌, ◌<◌, ◌≤◌, List, [], ◌∷◌, length, Option, Some, None, Bool, true, false, refl, sym, ap, ◌∙◌, arith}
use Rattle.std.specs.Prelude.{slice_get, if◌then◌else◌}
use Rattle.osl_value.specs.AnyValue.{AnyValue, parts_of}
use Rattle.osl_typed.specs.declared.shader.TypedParam.{TypedParam}
use Rattle.osl_typed.specs.SourceRun as source
use Rattle.oso_code.specs.declared.symbol.Class.{Class}
use Rattle.oso_code.specs.declared.symbol.Class.TheVariants as C
use Rattle.oso_code.specs.Symbols.{is_parameter}
use Rattle.oso_code.specs.declared.symbol.Symbol.{Symbol}
use Rattle.oso_code.specs.CodeRun.{is_parameter_at, output_of, outputs_from, is_ci, closure_from}
use Rattle.osl_gencode.specs.ShaderSymbols.{At, HasClass}

-- ---- outputs

-- symbols of which none is a parameter give no output
no_output : (symbol : Symbol) (v : AnyValue) (outputs : List (Option AnyValue)) → is_parameter_at (Some symbol) ≡ false → output_of symbol.class v outputs ≡ outputs
no_output symbol v outputs none = by_class symbol.class none
  where
    by_class : (class : Class) → is_parameter class ≡ false → output_of class v outputs ≡ outputs
    by_class C.Param e = absurd (cc e)
    by_class C.Oparam e = absurd (cc e)
    by_class C.Global e = refl
    by_class C.Const e = refl
    by_class C.Local e = refl
    by_class C.Temp e = refl

no_outputs : (at : ℕ) (symbols : List Symbol) (values : ℕ → AnyValue) → ((k : ℕ) → is_parameter_at (slice_get symbols k) ≡ false) → outputs_from at symbols values ≡ []
no_outputs at [] values none = refl
no_outputs at (symbol ∷ symbols) values none =
    no_output symbol (values at) (outputs_from (at + 1) symbols values) (none 0) ∙ no_outputs (at + 1) symbols values (λ k. none (suc k))

one_output : (t : Bool) (v : AnyValue) (outputs : List (Option AnyValue)) → output_of (if t then C.Oparam else C.Param) v outputs ≡ (if t then Some v else None) ∷ outputs
one_output true v outputs = refl
one_output false v outputs = refl

-- the first symbols are the parameters, with the values that these have
pub outputs_same : (at : ℕ) (params : List TypedParam) (symbols : List Symbol) (values vars : ℕ → AnyValue) → ((k : ℕ) (p : TypedParam) → slice_get params k ≡ Some p → At (HasClass p) symbols k) → ((k : ℕ) → length params ≤ k → is_parameter_at (slice_get symbols k) ≡ false) → ((k : ℕ) → k < length params → values (at + k) ≡ vars (at + k)) → outputs_from at symbols values ≡ source.outputs_from vars at params
unfolding source.outputs_from
outputs_same at [] symbols values vars are others same = no_outputs at symbols values (λ k. others k (omega arith))
outputs_same at (p ∷ params) [] values vars are others same = absurd (let h = (are 0 p refl).here in cc h)
outputs_same at (p ∷ params) (symbol ∷ symbols) values vars are others same =
    let is = are 0 p refl in
    let h : Some symbol ≡ Some is.symbol = is.here in
    let class : symbol.class ≡ (if p.output then C.Oparam else C.Param) = ap (λ o. elim o [ None ↦ symbol.class | Some s ↦ s.class ]) h ∙ is.is in
    let z : at ≡ at + 0 = omega arith in
    ap (λ c. output_of c (values at) (outputs_from (at + 1) symbols values)) class
    ∙ one_output p.output (values at) (outputs_from (at + 1) symbols values)
    ∙ ap (λ v. (if p.output then Some v else None) ∷ outputs_from (at + 1) symbols values) (ap values z ∙ same 0 (omega arith) ∙ sym (ap vars z))
    ∙ ap (λ l. (if p.output then Some (vars at) else None) ∷ l) (outputs_same (at + 1) params symbols values vars (λ k q e. let s = are (suc k) q e in record { symbol = s.symbol; here = s.here; is = s.is }) (λ k le. others (suc k) (omega (arith, le))) (λ k lt. let e : (at + 1) + k ≡ at + suc k = omega arith in ap values e ∙ same (suc k) (omega (arith, lt)) ∙ sym (ap vars e)))

-- ---- the closure

-- the first symbol that is `Ci` has the closure
pub closure_same : (at k : ℕ) (symbols : List Symbol) (symbol : Symbol) (values : ℕ → AnyValue) → slice_get symbols k ≡ Some symbol → is_ci symbol ≡ true → ((j : ℕ) (s : Symbol) → j < k → slice_get symbols j ≡ Some s → is_ci s ≡ false) → closure_from at symbols values ≡ parts_of (values (at + k))
closure_same at k [] symbol values here is before = absurd (cc here)
closure_same at zero (s ∷ symbols) symbol values here is before =
    let e : Some s ≡ Some symbol = here in
    let z : at ≡ at + 0 = omega arith in
    ap (λ t. if t then parts_of (values at) else closure_from (at + 1) symbols values) (ap (λ o. elim o [ None ↦ true | Some q ↦ is_ci q ]) e ∙ is) ∙ ap (λ q. parts_of (values q)) z
closure_same at (suc k) (s ∷ symbols) symbol values here is before =
    let z : (at + 1) + k ≡ at + suc k = omega arith in
    ap (λ t. if t then parts_of (values at) else closure_from (at + 1) symbols values) (before 0 s (omega arith) refl)
    ∙ closure_same (at + 1) k symbols symbol values here is (λ j q lt e. before (suc j) q (omega (arith, lt)) e)
    ∙ ap (λ q. parts_of (values q)) z
