-- A factor of 1 leaves the parts of a closure as they were.
use Rattle.std.proofs.Common.{◌≡◌, ℤ, pos, List, [], ◌∷◌, refl, ap, ◌∙◌, arith, lit<}
use Rattle.std.specs.List.{All}
use Rattle.std.proofs.lemmas.List.Elements.{All-head, All-tail}
use Rattle.osl_value.specs.declared.closure.Part.{Part}
use Rattle.osl_value.specs.Closures.{weighted, weighted_part}
use Rattle.osl_value.specs.Geometry.{component, each}
use Rattle.osl_value.specs.Laws.{ClosuresKeep}
use Rattle.osl_value.specs.Numbers.{scale, Two, fx_mul}
use Rattle.osl_value.specs.WellFormed.{AreFloats, IsPart}
use Rattle.osl_value.proofs.Identities.{one-fx_mul}

-- a factor of 1 on three channels
module _ (factor : List ℤ) (first : component factor 0 ≡ pos scale) (second : component factor 1 ≡ pos scale) (third : component factor 2 ≡ pos scale) where
  same_weight : (weight : List ℤ) → AreFloats 3 weight → each 3 (Two fx_mul) (factor ∷ weight ∷ []) ≡ weight
  same_weight [] h = absurd (omega (arith, h.count_fits))
  same_weight (a ∷ []) h = absurd (omega (arith, h.count_fits))
  same_weight (a ∷ (b ∷ [])) h = absurd (omega (arith, h.count_fits))
  same_weight (a ∷ (b ∷ (c ∷ []))) h =
      let all = h.in_range in
      let p = ap (λ f. fx_mul f a) first ∙ one-fx_mul a (all 0 a (lit< tt)) in
      let q = ap (λ f. fx_mul f b) second ∙ one-fx_mul b (all 1 b (lit< tt)) in
      let r = ap (λ f. fx_mul f c) third ∙ one-fx_mul c (all 2 c (lit< tt)) in
      λ i. p i ∷ q i ∷ r i ∷ []
  same_weight (a ∷ (b ∷ (c ∷ (d ∷ weight)))) h = absurd (omega (arith, h.count_fits))

  same_part : (part : Part) → IsPart part → weighted_part factor part ≡ part
  same_part part h = let e = same_weight part.weight h.weight in λ i. record part { weight = e i }

  same_parts : (parts : List Part) → All IsPart parts → weighted factor parts ≡ parts
  same_parts [] h = refl
  same_parts (part ∷ parts) h =
      let e = same_part part (All-head IsPart part parts h) in
      let f = same_parts parts (All-tail IsPart part parts h) in
      λ i. e i ∷ f i

pub closures_keep : ClosuresKeep
closures_keep parts h = (same_parts (pos scale ∷ []) refl refl refl parts h.all, same_parts (pos scale ∷ pos scale ∷ pos scale ∷ []) refl refl refl parts h.all)
