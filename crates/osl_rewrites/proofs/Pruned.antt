-- A layer from which dead ops are taken out, any number of them, shows what is asked of it.
use Rattle.std.proofs.Common.{◌≡◌, ℕ, zero, suc, ◌+◌, ◌<◌, ◌≤◌, List, [], ◌∷◌, length, Option, Some, None, Bool, true, false, refl, sym, ap, ◌∙◌, subst, arith}
use Rattle.std.specs.Prelude.{slice_get, option_map, if◌then◌else◌}
use Rattle.std.proofs.lemmas.Option.{slice_get_within}
use Rattle.osl_value.specs.declared.point.Point.{Point}
use Rattle.osl_layer.specs.Layer.{Inputs}
use Rattle.oso_code.specs.CodeRun.{sources_of, start_of}
use Rattle.oso_code.specs.Nesting.{after, IsClosed, IsInside, Nests, AreNested}
use Rattle.oso_code.specs.Ranges.{steps_of}
use Rattle.oso_code.specs.Run.{Sources}
use Rattle.oso_code.specs.Steps.{Span, span, Step, Compute, Branch, Loop, Call, Leave}
use Rattle.oso_code.specs.Valid.{IsValid}
use Rattle.oso_code.specs.declared.raw.Raw.{Raw}
use Rattle.oso_code.specs.declared.op.Section.{Section}
use Rattle.oso_code.proofs.Chained.{section_closed, section_within}
use Rattle.oso_code.proofs.Nested.{valid_nested}
use Rattle.osl_rewrites.specs.Cut.{new_place, moved, cut, CutSteps}
use Rattle.osl_rewrites.specs.Drop.{Dead, layer_ends, Spared, Stood, Died}
use Rattle.osl_rewrites.specs.Flow.{Surrounds, Settled}
use Rattle.osl_rewrites.specs.declared.point.Around.{Around}
use Rattle.osl_rewrites.specs.declared.point.Spot.{Spot}
use Rattle.osl_rewrites.specs.declared.point.Spot.TheVariants.{Gate}
use Rattle.osl_rewrites.specs.Quiet.{quiet_layer}
use Rattle.osl_rewrites.specs.Side.{Match}
use Rattle.osl_rewrites.proofs.CutCode.{cut_steps}
use Rattle.osl_rewrites.proofs.Cuts.{rises, nothings_run}
use Rattle.osl_rewrites.proofs.Drops.{agree_self}
use Rattle.osl_rewrites.proofs.Layers.{sections_same, dead_sections}
use Rattle.osl_rewrites.proofs.Uniform.{is_there}

module _ (kept : ℕ → Bool) where
  -- what is at k in the middle: the op, or a call of nothing
  abbrev ghost_at : ℕ → Step → Step
  ghost_at k step = if kept k then step else Call (span (k + 1) (k + 1))

  abbrev ghosted : ℕ → List Step → List Step
  ghosted at [] = []
  ghosted at (step ∷ steps) = ghost_at at step ∷ ghosted (at + 1) steps

  ghost_get : (at : ℕ) (steps : List Step) (k : ℕ) → slice_get (ghosted at steps) k ≡ option_map (ghost_at (at + k)) (slice_get steps k)
  ghost_get at [] k = refl
  ghost_get at (step ∷ steps) zero = let n : at ≡ at + 0 = omega arith in ap (λ j. Some (ghost_at j step)) n
  ghost_get at (step ∷ steps) (suc k) =
      let n : (at + 1) + k ≡ at + suc k = omega arith in ghost_get (at + 1) steps k ∙ ap (λ j. option_map (ghost_at j) (slice_get steps k)) n

  ghost_length : (at : ℕ) (steps : List Step) → length (ghosted at steps) ≡ length steps
  ghost_length at [] = refl
  ghost_length at (step ∷ steps) = let h = ghost_length (at + 1) steps in omega (arith, h)

  module _ (from : Sources) (old : List Step) (around : ℕ → Around) (row : Spot → ℕ → Bool) where
    module _ (nested : AreNested old) (dies : (i : ℕ) → i < length old → kept i ≡ false → Dead from old around row i) where
      mid : List Step
      mid = ghosted 0 old

      mid_get : (k : ℕ) (step : Step) → slice_get old k ≡ Some step → slice_get mid k ≡ Some (ghost_at k step)
      unfolding mid
      mid_get k step at = let n : 0 + k ≡ k = omega arith in ghost_get 0 old k ∙ ap (λ j. option_map (ghost_at j) (slice_get old k)) n ∙ ap (option_map (ghost_at k)) at

      mid_length : length mid ≡ length old
      unfolding mid
      mid_length = ghost_length 0 old

      mid_kept : (k : ℕ) (step : Step) → slice_get old k ≡ Some step → kept k ≡ true → slice_get mid k ≡ Some step
      mid_kept k step at h = mid_get k step at ∙ ap (λ b. Some (if b then step else Call (span (k + 1) (k + 1)))) h

      mid_gone : (k : ℕ) (step : Step) → slice_get old k ≡ Some step → kept k ≡ false → slice_get mid k ≡ Some (Call (span (k + 1) (k + 1)))
      mid_gone k step at h = mid_get k step at ∙ ap (λ b. Some (if b then step else Call (span (k + 1) (k + 1)))) h

      -- what is in the middle stood in the old code, or was dead there
      pub data Was (k : ℕ) (step : Step) : Type 0 where
        Stays : slice_get old k ≡ Some step → kept k ≡ true → Was k step
        Goes : (dead : Dead from old around row k) → kept k ≡ false → step ≡ Call (span (k + 1) (k + 1)) → Was k step

      was_by : (k : ℕ) (step : Step) (o : Option Step) (b : Bool) → slice_get old k ≡ o → kept k ≡ b → slice_get mid k ≡ Some step → k < length old → Was k step
      was_by k step None b at h is lt = absurd (is_there old k at lt)
      was_by k step (Some x) true at h is lt = let e : x ≡ step = cc (mid_kept k x at h, is) in Stays (at ∙ ap Some e) h
      was_by k step (Some x) false at h is lt = let e : step ≡ Call (span (k + 1) (k + 1)) = cc (mid_gone k x at h, is) in Goes (dies k lt h) h e

      was : (k : ℕ) (step : Step) → slice_get mid k ≡ Some step → Was k step
      was k step is = was_by k step (slice_get old k) (kept k) refl refl is (let w = slice_get_within mid k step is in omega (arith, w, mid_length))

      closed_was : (e k : ℕ) (step : Step) → Was k step → IsClosed old k e → k < e → after k step ≤ e
      closed_was e k step (Stays at h) cl lt = cl.ends k step (omega arith) lt at
      closed_was e k step (Goes d h q) cl lt = subst (λ x. after k x ≤ e) (sym q) (cl.ends k (Compute d.name d.ty d.target d.sources) (omega arith) lt d.here)

      mid_closed : (i e : ℕ) → IsClosed old i e → IsClosed mid i e
      mid_closed i e cl = record { ends = λ k step a b at. closed_was e k step (was k step at) (record { ends = λ j x c d is. cl.ends j x (omega arith) d is }) b }

      in_mid : (k next : ℕ) (s : Span) → IsInside old k next s → IsInside mid k next s
      in_mid k next s o = record { later = o.later; ordered = o.ordered; within = o.within; closed = mid_closed s.start s.end o.closed }

      nests_mid : (k : ℕ) (step : Step) → Nests old k step → Nests mid k step
      nests_mid k (Compute name ty target sources) n = tt
      nests_mid k (Branch c holds fails) n = (in_mid k fails.end holds n.0, in_mid k fails.end fails n.1)
      nests_mid k (Loop tested c test body step) n = (in_mid k step.end test n.0, in_mid k step.end body n.1, in_mid k step.end step n.2)
      nests_mid k (Call body) n = in_mid k body.end body n
      nests_mid k (Leave way) n = tt

      nests_was : (k : ℕ) (step : Step) → Was k step → Nests mid k step
      nests_was k step (Stays at h) = nests_mid k step (nested.each k step at)
      nests_was k step (Goes d h q) = subst (Nests mid k) (sym q) (record { later = omega arith; ordered = omega arith; within = omega arith; closed = record { ends = λ j x a b is. absurd (omega arith) } })

      mid_nested : AreNested mid
      mid_nested = record { each = λ k step at. nests_was k step (was k step at) }

      spared : (i : ℕ) → i < length old → Spared from around row old mid i
      spared i lt = by (slice_get old i) (kept i) refl refl
        where
          by : (o : Option Step) (b : Bool) → slice_get old i ≡ o → kept i ≡ b → Spared from around row old mid i
          by None b at h = absurd (is_there old i at lt)
          by (Some x) true at h = Stood x at (mid_kept i x at h)
          by (Some x) false at h = let d = dies i lt h in Died d.name d.ty d.target d.sources d.here (mid_gone i x at h) d.sure d.dead

      nothing : (k : ℕ) → k < length mid → kept k ≡ false → slice_get mid k ≡ Some (Call (span (k + 1) (k + 1)))
      nothing k lt h = let d = dies k (omega (arith, lt, mid_length)) h in mid_gone k (Compute d.name d.ty d.target d.sources) d.here h

      mid_cut : (new : List Step) → CutSteps kept old new → CutSteps kept mid new
      mid_cut new c = record {
        size = let n = mid_length in c.size ∙ ap (new_place kept) (sym n);
        there = λ k step at h. by_was k step h (was k step at);
        back = λ j step at. let x = c.back j step at in record { from_place = x.from_place; from_step = x.from_step; stayed = x.stayed; here = mid_kept x.from_place x.from_step x.here x.stayed; there = x.there; is = x.is };
      }
        where
          by_was : (k : ℕ) (step : Step) → kept k ≡ true → Was k step → slice_get new (new_place kept k) ≡ Some (moved (new_place kept) step)
          by_was k step h (Stays at g) = c.there k step at h
          by_was k step h (Goes d g q) = absurd (cc (h, g))

module _ (raw : Raw) (valid : IsValid raw) (kept : ℕ → Bool) (around : ℕ → Around) (surrounds : Surrounds (steps_of raw) raw.sections around) (asked : ℕ → Bool) (row : Spot → ℕ → Bool) (settled : Settled (steps_of raw) raw.sections around asked row) (inputs : Inputs)
    (dies : (i : ℕ) → i < length (steps_of raw) → kept i ≡ false → Dead (sources_of raw inputs) (steps_of raw) around row i) where
  from : Sources
  from = sources_of raw inputs

  inside : (j : ℕ) (section : Section) → slice_get raw.sections j ≡ Some section → IsClosed (steps_of raw) section.start section.end × (section.end ≤ length (steps_of raw))
  inside j section is = (section_closed raw valid j section is, section_within raw valid j section is)

  pub prune_law : (point : Point) (budget : ℕ) → Match (layer_ends row) (quiet_layer raw inputs point budget) (quiet_layer (cut kept raw) inputs point budget)
  unfolding from cut
  prune_law point budget =
      let old = steps_of raw in let s = start_of raw inputs point budget in
      let nested = valid_nested raw valid in
      let m = mid kept from old around row nested dies in
      let new = steps_of (cut kept raw) in
      let c = mid_cut kept from old around row nested dies new (cut_steps kept raw) in
      let size = mid_length kept from old around row nested dies in
      subst (λ o. Match (layer_ends row) (quiet_layer raw inputs point budget) o)
      (sections_same from m new (new_place kept) inputs raw.sections
      (λ j section is t.
      let k = inside j section is in let w = k.1 in let r = rises kept section.end (length m) (omega (arith, w, size)) in let z = c.size in
      nothings_run kept m new c from (mid_nested kept from old around row nested dies) (nothing kept from old around row nested dies) (length m) (length new) section.start section.end t
      (record { closed = mid_closed kept from old around row nested dies section.start section.end k.0; within = omega (arith, w, size) }) (omega (arith, w, size)) (omega (arith, r, z))) s)
      (dead_sections from old m raw.sections nested around surrounds asked row settled (spared kept from old around row nested dies) (sym size) inputs inside s s (agree_self (row (Gate 0)) s))
