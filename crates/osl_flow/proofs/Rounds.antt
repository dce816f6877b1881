-- One pass after another.
use Rattle.std.proofs.Common.{◌≡◌, ℕ, ◌+◌, ◌<◌, Bool, true, false, List, Some, refl, sym, ap, ◌∙◌, subst, arith, ⊎_elim}
use Rattle.std.specs.Prelude.{◌||◌, slice_get, slice_index_or, None, if◌then◌else◌}
use Rattle.std.proofs.lemmas.Option.{slice_get-get_or}
use Rattle.std.proofs.lemmas.Bool.{cases_Bool, or_parts}
use Rattle.oso_code.specs.Valid.{IsValid}
use Rattle.oso_code.specs.declared.op.Section.{Section}
use Rattle.oso_code.specs.declared.raw.Raw.{Raw}
use Rattle.osl_rewrites.specs.declared.point.Around.{Around}
use Rattle.osl_rewrites.specs.declared.point.Spot.{Spot}
use Rattle.osl_rewrites.specs.declared.point.Spot.TheVariants.{At, Test, Gate, Done}
use Rattle.osl_flow.specs.Rows.{all_lack, IsReal, SettledAt, SettledOp, SettledSection, Sized, Passed, Reached}
use Rattle.osl_flow.proofs.Sections.{covered, valid_sectioned}

module _ (raw : Raw) (table : ℕ → Around) where
  -- nothing is done
  pub passed_none : (rows : List (List Bool)) → Sized raw table rows → Passed raw table rows rows false
  passed_none rows sized = record { sized = sized; grows = λ p k h. h; earned = λ asked all. all; still = λ e. refl; rises = λ e. absurd (cc e) }

  -- two passes
  pub passed_two : (a b d : List (List Bool)) (one two : Bool) → Passed raw table a b one → Passed raw table b d two → Passed raw table a d (one || two)
  passed_two a b d one two p q = record {
    sized = q.sized;
    grows = λ s k h. q.grows s k (p.grows s k h);
    earned = λ asked all. q.earned asked (p.earned asked all);
    still = λ e. let both = or_parts one two e in q.still both.1 ∙ p.still both.0;
    rises = λ e. ⊎_elim
        (λ (first : one ≡ true). let less = p.rises first in ⊎_elim
        (λ (second : two ≡ true). let more = q.rises second in omega (arith, less, more))
        (λ (none : two ≡ false). let same = ap all_lack (q.still none) in omega (arith, less, same))
        (cases_Bool two))
        (λ (none : one ≡ false). let same = ap all_lack (p.still none) in
        let second : two ≡ true = sym (ap (λ x. x || two) none) ∙ e in
        let more = q.rises second in omega (arith, same, more))
        (cases_Bool one);
  }

  -- what was settled stays so where nothing changed
  pub settled_on : (a b : List (List Bool)) (changed : Bool) (p : Spot) → Passed raw table a b changed → changed ≡ false → SettledAt raw table a p → SettledAt raw table b p
  settled_on a b changed p passed e settled = subst (λ rows. SettledAt raw table rows p) (sym (passed.still e)) settled

  pub op_settled_on : (a b : List (List Bool)) (changed : Bool) (i : ℕ) → Passed raw table a b changed → changed ≡ false → SettledOp raw table a i → SettledOp raw table b i
  op_settled_on a b changed i passed e settled = subst (λ rows. SettledOp raw table rows i) (sym (passed.still e)) settled

  -- all sections are settled, so all spots are
  pub sections_settled : IsValid raw → (rows : List (List Bool)) → ((j : ℕ) (section : Section) → slice_get raw.sections j ≡ Some section → SettledSection raw table rows j section) → (p : Spot) → IsReal raw p → SettledAt raw table rows p
  sections_settled valid rows all (At i) real =
      let s = valid_sectioned raw valid in
      let l = s.last in
      let h = covered 0 i raw.sections s.chain (omega arith) (omega (arith, l, real)) in
      ((all h.place h.section h.is).0 i h.starts h.ends).0
  sections_settled valid rows all (Test i) real =
      let s = valid_sectioned raw valid in
      let l = s.last in
      let h = covered 0 i raw.sections s.chain (omega arith) (omega (arith, l, real)) in
      ((all h.place h.section h.is).0 i h.starts h.ends).1
  sections_settled valid rows all (Gate j) real =
      let none : Section = record { param = None; start = 0; end = 0 } in
      (all j (slice_index_or raw.sections j none) (slice_get-get_or raw.sections j none real)).1
  sections_settled valid rows all Done real = absurd real

  pub reached_none : (rows : List (List Bool)) → Sized raw table rows → Reached raw table rows rows
  reached_none rows sized = record { sized = sized; grows = λ p k h. h; earned = λ asked all. all }

  pub reached_on : (a b d : List (List Bool)) (changed : Bool) → Reached raw table a b → Passed raw table b d changed → Reached raw table a d
  reached_on a b d changed p q = record { sized = q.sized; grows = λ s k h. q.grows s k (p.grows s k h); earned = λ asked all. q.earned asked (p.earned asked all) }

  -- a pass that goes on
  pub pass_falls : (a b : List (List Bool)) (changed : Bool) → Passed raw table a b changed → all_lack b + (if changed then 1 else 0) < all_lack a + 1
  pass_falls a b true p = let h = p.rises refl in omega (arith, h)
  pass_falls a b false p = let h = ap all_lack (p.still refl) in omega (arith, h)
