-- The sections of valid code follow each other, and their ranges are closed.
use Rattle.std.proofs.Common.{◌≡◌, ℕ, zero, suc, ◌+◌, ◌<◌, ◌≤◌, List, [], ◌∷◌, ◌++◌, length, Some, ap, ◌∙◌, subst, arith, sym, ⊎_elim, refl}
use Rattle.std.specs.Prelude.{slice_get, slice_index_or, nat_le, ◌==◌, ◌&&◌, if◌then◌else◌, IsTrue}
use Rattle.std.proofs.lemmas.Bool.{leb-true, lt-ltb, le-ltb, eqb-true, cases_lt}
use Rattle.std.proofs.lemmas.Option.{get_or_from_slice_get, slice_get_within}
use Rattle.oso_code.specs.declared.op.Section.{Section}
use Rattle.oso_code.specs.declared.raw.Raw.{Raw}
use Rattle.oso_code.specs.Faults.{unless}
use Rattle.oso_code.specs.Nesting.{after, IsClosed}
use Rattle.oso_code.specs.Ops.{section_at}
use Rattle.oso_code.specs.Ranges.{reach, ends_in_section, steps_of}
use Rattle.oso_code.specs.Sections.{EndBefore, owner_fits, owner_follows, section_fits, follows, later_faults, end_faults, section_faults}
use Rattle.oso_code.specs.Valid.{IsValid}
use Rattle.oso_code.proofs.Decoding.{came_from, length_steps}
use Rattle.oso_code.proofs.Fitting.{unless_none, both_none, some_same}
use Rattle.oso_code.proofs.Members.{and_both}
use Rattle.oso_code.proofs.Nested.{jump_facts, op_ends}

-- a section that lies among the ops, where no earlier one reaches
pub record Lies (raw : Raw) (sections : List Section) (section : Section) : Type 0 where
  pub ordered : section.start ≤ section.end
  pub within : section.end ≤ length raw.ops
  pub owner : IsTrue (owner_fits raw.symbols section.param)
  pub holds : (k : ℕ) → section.start ≤ k → k < section.end → section_at sections k ≡ Some section

section_here : (k : ℕ) (section : Section) (sections : List Section) → k < section.end → section_at (section ∷ sections) k ≡ Some section
section_here k section sections lt = ap (λ b. if b then Some section else section_at sections k) (lt-ltb k section.end lt)

section_behind : (k : ℕ) (section : Section) (sections : List Section) → section.end ≤ k → section_at (section ∷ sections) k ≡ section_at sections k
section_behind k section sections le = ap (λ b. if b then Some section else section_at sections k) (le-ltb k section.end le)

module _ (raw : Raw) where
  pub record Fits (section : Section) : Type 0 where
    pub owner : IsTrue (owner_fits raw.symbols section.param)
    pub ordered : section.start ≤ section.end
    pub within : section.end ≤ length raw.ops

  section_facts : (section : Section) → IsTrue (section_fits raw section) → Fits section
  section_facts section h =
      let p = and_both (owner_fits raw.symbols section.param) (nat_le section.start section.end && nat_le section.end (length raw.ops)) h in
      let q = and_both (nat_le section.start section.end) (nat_le section.end (length raw.ops)) p.1 in
      record { owner = p.0; ordered = leb-true section.start section.end q.0; within = leb-true section.end (length raw.ops) q.1 }

  lies_first : (section : Section) (sections : List Section) → Fits section → Lies raw (section ∷ sections) section
  lies_first section sections fits = record { ordered = fits.ordered; within = fits.within; owner = fits.owner; holds = λ k a b. section_here k section sections b }

  -- a section after another, and not before its end
  lies_behind : (before : Section) (sections : List Section) → later_faults raw before sections ≡ [] → (j : ℕ) (section : Section) → slice_get sections j ≡ Some section → Lies raw sections section × (before.end ≤ section.start)
  lies_behind before [] none j section is = absurd (cc is)
  lies_behind before (next ∷ sections) none zero section is =
      let p = both_none (unless (follows before next && section_fits raw next) next.start) (later_faults raw next sections) none in
      let q = and_both (follows before next) (section_fits raw next) (unless_none (follows before next && section_fits raw next) next.start p.0) in
      let r = and_both (owner_follows before.param next.param) (next.start == before.end) q.0 in
      let e = eqb-true next.start before.end r.1 in
      subst (λ s. Lies raw (next ∷ sections) s × (before.end ≤ s.start)) (some_same next section is) (lies_first next sections (section_facts next q.1), omega (arith, e))
  lies_behind before (next ∷ sections) none (suc j) section is =
      let p = both_none (unless (follows before next && section_fits raw next) next.start) (later_faults raw next sections) none in
      let q = and_both (follows before next) (section_fits raw next) (unless_none (follows before next && section_fits raw next) next.start p.0) in
      let r = and_both (owner_follows before.param next.param) (next.start == before.end) q.0 in
      let e = eqb-true next.start before.end r.1 in
      let h = lies_behind next sections p.1 j section is in
      let le = h.1 in
      let o = (section_facts next q.1).ordered in (
        record { ordered = h.0.ordered; within = h.0.within; owner = h.0.owner; holds = λ k a b. section_behind k next sections (omega (arith, le, a)) ∙ h.0.holds k a b },
        omega (arith, e, le, o),
      )

  lies_in : (sections : List Section) → section_faults raw sections ≡ [] → (j : ℕ) (section : Section) → slice_get sections j ≡ Some section → Lies raw sections section
  lies_in [] none j section is = absurd (cc is)
  lies_in (first ∷ sections) none j section is =
      let p = both_none (unless ((first.start == 0) && section_fits raw first) first.start) (later_faults raw first sections ++ end_faults raw first sections) none in
      let q = and_both (first.start == 0) (section_fits raw first) (unless_none ((first.start == 0) && section_fits raw first) first.start p.0) in
      let later = (both_none (later_faults raw first sections) (end_faults raw first sections) p.1).0 in
      lies_at j is later q.1
    where
      lies_at : (j : ℕ) → slice_get (first ∷ sections) j ≡ Some section → later_faults raw first sections ≡ [] → IsTrue (section_fits raw first) → Lies raw (first ∷ sections) section
      lies_at zero is later fits = subst (Lies raw (first ∷ sections)) (some_same first section is) (lies_first first sections (section_facts first fits))
      lies_at (suc j) is later fits =
          let h = lies_behind first sections later j section is in
          let le = h.1 in
          record { ordered = h.0.ordered; within = h.0.within; owner = h.0.owner; holds = λ k a b. section_behind k first sections (omega (arith, le, a)) ∙ h.0.holds k a b }

  module _ (valid : IsValid raw) where
    pub valid_section : (j : ℕ) (section : Section) → slice_get raw.sections j ≡ Some section → Lies raw raw.sections section
    valid_section j section is = lies_in raw.sections valid.sections j section is

    -- no op of a section reaches past it
    pub section_closed : (j : ℕ) (section : Section) → slice_get raw.sections j ≡ Some section → IsClosed (steps_of raw) section.start section.end
    section_closed j section is = record {
      ends = λ k step a b at.
          let from = came_from raw k step at in
          let fits = jump_facts raw k from.op (valid.jumps k from.op from.here) in
          let held = (valid_section j section is).holds k a b in
          let le = leb-true (reach (k + 1) from.op.jumps) section.end (subst (λ o. IsTrue (ends_in_section (reach (k + 1) from.op.jumps) o)) held fits.section) in
          let e = ap (after k) from.is ∙ op_ends raw valid k from.op from.here in
          omega (arith, e, le);
    }

    pub section_within : (j : ℕ) (section : Section) → slice_get raw.sections j ≡ Some section → section.end ≤ length (steps_of raw)
    section_within j section is = let h = length_steps raw.symbols 0 raw.ops in let w = (valid_section j section is).within in omega (arith, h, w)

-- ---- the section of an op, by a walk

-- sections that end before a place are passed over
pub section_walk : (sections : List Section) (n at : ℕ) → EndBefore sections n at → ((section : Section) → slice_get sections n ≡ Some section → at < section.end) → slice_get sections n ≡ section_at sections at
section_walk [] n at past here = refl
section_walk (section ∷ sections) zero at past here = sym (section_here at section sections (here section refl))
section_walk (section ∷ sections) (suc n) at past here =
    section_walk sections n at (λ j s lt is. past (suc j) s (omega arith) is) here ∙ sym (section_behind at section sections (past 0 section (omega arith) refl))

-- the element at a place, where the code reads it with another one for none
at_place : (sections : List Section) (n : ℕ) (d section : Section) → slice_get sections n ≡ Some section → slice_index_or sections n d ≡ section
at_place sections n d section is = get_or_from_slice_get sections n section d is

pub walk_here : (sections : List Section) (n at : ℕ) (d : Section) → EndBefore sections n at → at < (slice_index_or sections n d).end → slice_get sections n ≡ section_at sections at
walk_here sections n at d past lt =
    section_walk sections n at past (λ section is. let e = ap (λ s. s.end) (at_place sections n d section is) in omega (arith, e, lt))

pub walk_end : (sections : List Section) (at : ℕ) → EndBefore sections (length sections) at → slice_get sections (length sections) ≡ section_at sections at
walk_end sections at past =
    section_walk sections (length sections) at past (λ section is. let lt = slice_get_within sections (length sections) section is in absurd (omega (arith, lt)))

pub walk_on : (sections : List Section) (n at : ℕ) (d : Section) → EndBefore sections n at → (slice_index_or sections n d).end ≤ at → EndBefore sections (n + 1) at
walk_on sections n at d past le j section lt is =
    ⊎_elim (λ (lower : j < n). past j section lower is) (λ (above : n ≤ j).
    let same : j ≡ n = omega (arith, lt, above) in
    let e = ap (λ s. s.end) (at_place sections n d section (ap (slice_get sections) (sym same) ∙ is)) in
    omega (arith, e, le)) (cases_lt j n)

-- what ends before a place ends before a later one
pub end_before_later : (sections : List Section) (n at after : ℕ) → at ≤ after → EndBefore sections n at → EndBefore sections n after
end_before_later sections n at after le past j section lt is = let h = past j section lt is in omega (arith, h, le)
