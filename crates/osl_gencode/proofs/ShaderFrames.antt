-- The frame of a well typed shader: each parameter is one leaf, and has the first places.
use Rattle.std.proofs.Common.{◌≡◌, ℕ, zero, suc, ◌<◌, ◌≤◌, List, [], ◌∷◌, ◌++◌, length, map, refl, sym, ap, ◌∙◌, subst, arith}
use Rattle.std.specs.Prelude.{slice_get}
use Rattle.std.specs.List.{flat_map}
use Rattle.osl_overload.specs.declared.signature.Kind.{Kind}
use Rattle.osl_typed.specs.declared.shader.TypedParam.{TypedParam}
use Rattle.osl_typed.specs.declared.shader.TypedShader.{TypedShader}
use Rattle.osl_typed.specs.declared.shader.TypedStructure.{TypedStructure}
use Rattle.osl_typed.specs.Frames.{leaves_of, leaf_count, place_of, kind_in}
use Rattle.osl_welltyped.specs.Kinded.{is_type}
use Rattle.osl_welltyped.specs.WellTyped.{as_formal, kinds_of_formals, FitsRules}
use Rattle.osl_typed_runs.proofs.LayerTypes.{param_leaf}
use Rattle.osl_typed_runs.proofs.LeafKinds.{all_get, frame_all}
use Rattle.osl_typed_runs.proofs.Values.{type_has}
use Rattle.osl_gencode.specs.ShaderSymbols.{IsShaderFrame}

-- the kinds of the parameters, before those of other variables
abbrev with_params : List TypedParam → List Kind → List Kind
with_params params rest = kinds_of_formals (map as_formal params) ++ rest

-- as many places as parameters
place_is : (structures : List TypedStructure) (params : List TypedParam) (rest : List Kind) (k : ℕ) → k < length params → place_of structures (with_params params rest) k ≡ k
place_is structures [] rest k h = absurd (omega (arith, h))
place_is structures (p ∷ params) rest zero h = refl
place_is structures (p ∷ params) rest (suc k) h = ap suc (place_is structures params rest k (omega (arith, h)))

leaf_is : (structures : List TypedStructure) (params : List TypedParam) (rest : List Kind) (k : ℕ) → k < length params → leaf_count structures (kind_in (with_params params rest) k) ≡ 1
leaf_is structures [] rest k h = absurd (omega (arith, h))
leaf_is structures (p ∷ params) rest zero h = refl
leaf_is structures (p ∷ params) rest (suc k) h = leaf_is structures params rest k (omega (arith, h))

place_later : (structures : List TypedStructure) (params : List TypedParam) (rest : List Kind) (k : ℕ) → length params ≤ k → length params ≤ place_of structures (with_params params rest) k
place_later structures [] rest k h = omega arith
place_later structures (p ∷ params) rest zero h = absurd (omega (arith, h))
place_later structures (p ∷ params) rest (suc k) h = let n = place_later structures params rest k (omega (arith, h)) in omega (arith, n)

pub shader_frame : (t : TypedShader) → FitsRules t → IsShaderFrame t
shader_frame t fit = record {
  first = λ k p is. ap (λ kinds. slice_get (flat_map (leaves_of t.structures) kinds) k) fit.frame.kinds ∙ param_leaf t.structures t.params _ k p is;
  has = λ k ty is. type_has ty (all_get is_type (flat_map (leaves_of t.structures) t.frame) k ty (frame_all t.structures fit.structures t.frame fit.frame.fit) is);
  places = λ k h. (
    ap (λ kinds. place_of t.structures kinds k) fit.frame.kinds ∙ place_is t.structures t.params _ k h,
    ap (λ kinds. leaf_count t.structures (kind_in kinds k)) fit.frame.kinds ∙ leaf_is t.structures t.params _ k h,
  );
  later = λ k h. subst (λ kinds. length t.params ≤ place_of t.structures kinds k) (sym fit.frame.kinds) (place_later t.structures t.params _ k h);
}
