-- Code is valid where its symbols fit, its sections follow each other, and each section is code that was put together.
use Rattle.std.proofs.Common.{◌≡◌, ℕ, suc, ◌+◌, ◌<◌, ◌≤◌, List, [], ◌∷◌, ◌++◌, length, Some, Bool, true, false, refl, sym, ap, ◌∙◌, subst, arith, ⊎_elim}
use Rattle.std.specs.Prelude.{slice_get, nat_le, IsTrue, ◌&&◌, ◌==◌, if◌then◌else◌}
use Rattle.std.proofs.lemmas.Bool.{cases_lt, le-leb, lt-ltb, le-ltb, eqb-true}
use Rattle.oso_code.specs.declared.op.Op.{Op}
use Rattle.oso_code.specs.declared.op.Section.{Section}
use Rattle.oso_code.specs.declared.raw.Raw.{Raw}
use Rattle.oso_code.specs.declared.symbol.Symbol.{Symbol}
use Rattle.oso_code.specs.Faults.{unless, misfits}
use Rattle.oso_code.specs.Nesting.{Nests}
use Rattle.oso_code.specs.Ops.{section_at, owner_at, owner_of, op_fits, op_at_fits}
use Rattle.oso_code.specs.Ranges.{steps_of}
use Rattle.oso_code.specs.Sections.{owner_fits, owner_follows, section_fits, follows, is_body, later_faults, end_faults, section_faults}
use Rattle.oso_code.specs.Steps.{Step}
use Rattle.oso_code.specs.Symbols.{is_empty, header_fits, symbol_at_fits}
use Rattle.oso_code.specs.Valid.{IsValid, most_nested, most_ops, most_slots, most_symbols, slots_of, nests_within, deep_faults}
use Rattle.oso_code.proofs.Decoding.{length_steps}
use Rattle.oso_code.proofs.Fitting.{none_unless}
use Rattle.oso_code.proofs.Members.{and_both, both_and}
use Rattle.osl_gencode.proofs.Growing.{get_some}
use Rattle.osl_gencode.proofs.JumpsFit.{IsPlaced, jumps_valid}
use Rattle.osl_gencode.proofs.LoopsAround.{leaves_none, leaves_on}
use Rattle.osl_gencode.proofs.NestedRanges.{shaped_none, shaped_on}
use Rattle.osl_gencode.proofs.RangeDepth.{deep_none, deep_on, deep_fits}
use Rattle.osl_gencode.specs.Pieces.{Shaped, Leaves, Deep}

-- ---- sections

-- A section of code that was put together, whose ranges are at most d deep.
pub record IsSection (raw : Raw) (d : ℕ) (section : Section) : Type 0 where
  pub owner : IsTrue (owner_fits raw.symbols section.param)
  pub ordered : section.start ≤ section.end
  pub within : section.end ≤ length raw.ops
  pub ops : (k : ℕ) (op : Op) → section.start ≤ k → k < section.end → slice_get raw.ops k ≡ Some op → IsTrue (op_fits raw.kind raw.symbols section.param op)
  pub shaped : Shaped (steps_of raw) section.start section.end
  pub leaves : Leaves (steps_of raw) false section.start section.end
  pub deep : Deep (steps_of raw) section.start section.end d

-- the sections after one: each goes on where the one before it ends, and the last is that of the body
pub data Follow (raw : Raw) (d : ℕ) : Section → List Section → Type 0 where
  last : (main : Section) → IsTrue (is_body main.param) → length raw.ops ≤ main.end → Follow raw d main []
  next : (before section : Section) (rest : List Section) → IsTrue (follows before section) → IsSection raw d section → Follow raw d section rest → Follow raw d before (section ∷ rest)

fits_section : (raw : Raw) (d : ℕ) (section : Section) → IsSection raw d section → IsTrue (section_fits raw section)
fits_section raw d section s =
    both_and (owner_fits raw.symbols section.param) (nat_le section.start section.end && nat_le section.end (length raw.ops)) s.owner (
    both_and (nat_le section.start section.end) (nat_le section.end (length raw.ops)) (le-leb section.start section.end s.ordered) (le-leb section.end (length raw.ops) s.within))

none_before : (xs ys : List ℕ) → xs ≡ [] → ys ≡ [] → xs ++ ys ≡ []
none_before xs ys p q = (λ j. p j ++ q j)

module _ (raw : Raw) (d : ℕ) where
  none_later : (before : Section) (sections : List Section) → Follow raw d before sections → later_faults raw before sections ≡ []
  none_later _ _ (last main body long) = refl
  none_later _ _ (next before section rest after is more) =
      none_before (unless (follows before section && section_fits raw section) section.start) (later_faults raw section rest) (none_unless (follows before section && section_fits raw section) section.start (both_and (follows before section) (section_fits raw section) after (fits_section raw d section is))) (none_later section rest more)

  none_at_end : (before : Section) (sections : List Section) → Follow raw d before sections → end_faults raw before sections ≡ []
  none_at_end _ _ (last main body long) = none_unless (is_body main.param && nat_le (length raw.ops) main.end) main.end (both_and (is_body main.param) (nat_le (length raw.ops) main.end) body (le-leb (length raw.ops) main.end long))
  none_at_end _ _ (next before section rest after is more) = none_at_end section rest more

  starts_at : (before section : Section) → IsTrue (follows before section) → section.start ≡ before.end
  starts_at before section h = eqb-true section.start before.end (and_both (owner_follows before.param section.param) (section.start == before.end) h).1

  -- ---- the section of an op

  pub record Found (sections : List Section) (k : ℕ) : Type 0 where
    pub section : Section
    pub here : section_at sections k ≡ Some section
    pub first : section.start ≤ k
    pub last : k < section.end
    pub is : IsSection raw d section

  at_first : (section : Section) (rest : List Section) (k : ℕ) → k < section.end → section_at (section ∷ rest) k ≡ Some section
  at_first section rest k h = ap (λ t. if t then Some section else section_at rest k) (lt-ltb k section.end h)

  past_first : (section : Section) (rest : List Section) (k : ℕ) → section.end ≤ k → section_at (section ∷ rest) k ≡ section_at rest k
  past_first section rest k h = ap (λ t. if t then Some section else section_at rest k) (le-ltb k section.end h)

  found_later : (before : Section) (sections : List Section) (k : ℕ) → Follow raw d before sections → before.end ≤ k → k < length raw.ops → Found sections k
  found_later _ _ k (last main body long) h lt = absurd (omega (arith, long, h, lt))
  found_later _ _ k (next before section rest after is more) h lt =
      let e = starts_at before section after in
      ⊎_elim (λ (l : k < section.end). record { section = section; here = at_first section rest k l; first = omega (arith, e, h); last = l; is = is }) (λ (g : section.end ≤ k).
      let f = found_later section rest k more g lt in
      record { section = f.section; here = past_first section rest k g ∙ f.here; first = f.first; last = f.last; is = f.is }) (cases_lt k section.end)

  pub found : (section : Section) (rest : List Section) (k : ℕ) → section.start ≡ 0 → IsSection raw d section → Follow raw d section rest → k < length raw.ops → Found (section ∷ rest) k
  found section rest k zero is more lt =
      ⊎_elim (λ (l : k < section.end). record { section = section; here = at_first section rest k l; first = omega (arith, zero); last = l; is = is }) (λ (g : section.end ≤ k).
      let f = found_later section rest k more g lt in
      record { section = f.section; here = past_first section rest k g ∙ f.here; first = f.first; last = f.last; is = f.is }) (cases_lt k section.end)

  -- ---- the sections as one part

  pub record Whole (i : ℕ) : Type 0 where
    pub low : i ≤ length raw.ops
    pub shaped : Shaped (steps_of raw) i (length raw.ops)
    pub leaves : Leaves (steps_of raw) false i (length raw.ops)
    pub deep : Deep (steps_of raw) i (length raw.ops) d

  joined : (section : Section) → IsSection raw d section → Whole section.end → Whole section.start
  joined section s w =
      let l = s.ordered in let m = w.low in record {
        low = omega (arith, l, m);
        shaped = shaped_on (steps_of raw) section.start section.end (length raw.ops) m s.shaped w.shaped;
        leaves = leaves_on (steps_of raw) false section.start section.end (length raw.ops) l s.shaped.closed s.leaves w.leaves;
        deep = deep_on (steps_of raw) section.start section.end (length raw.ops) d l s.shaped s.deep w.deep;
      }

  at_end : (i : ℕ) → i ≡ length raw.ops → Whole i
  at_end i e = record {
    low = omega (arith, e);
    shaped = subst (λ z. Shaped (steps_of raw) z (length raw.ops)) (sym e) (shaped_none (steps_of raw) (length raw.ops));
    leaves = subst (λ z. Leaves (steps_of raw) false z (length raw.ops)) (sym e) (leaves_none (steps_of raw) false (length raw.ops));
    deep = subst (λ z. Deep (steps_of raw) z (length raw.ops) d) (sym e) (deep_none (steps_of raw) (length raw.ops) d);
  }

  whole_from : (before : Section) (sections : List Section) → before.end ≤ length raw.ops → Follow raw d before sections → Whole before.end
  whole_from _ _ le (last main body long) = at_end main.end (omega (arith, le, long))
  whole_from _ _ le (next before section rest after is more) =
      subst Whole (starts_at before section after) (joined section is (whole_from section rest is.within more))

-- ---- the whole

-- what code is made of: a first section, and those that follow
pub record AreSections (raw : Raw) (d : ℕ) : Type 0 where
  pub first : Section
  pub rest : List Section
  pub are : raw.sections ≡ first ∷ rest
  pub begins : first.start ≡ 0
  pub is : IsSection raw d first
  pub follow : Follow raw d first rest

no_misfits : {X : Type 0} (fits : ℕ → X → Bool) (at : ℕ) (xs : List X) → ((k : ℕ) (x : X) → slice_get xs k ≡ Some x → fits (at + k) x ≡ true) → misfits fits at xs ≡ []
no_misfits fits at [] h = refl
no_misfits fits at (x ∷ xs) h =
    ap (λ t. if t then misfits fits (at + 1) xs else at ∷ misfits fits (at + 1) xs) (ap (λ n. fits n x) (let e : at ≡ at + 0 = omega arith in e) ∙ h 0 x refl)
    ∙ no_misfits fits (at + 1) xs (λ k y is. ap (λ n. fits n y) (let e : (at + 1) + k ≡ at + suc k = omega arith in e) ∙ h (suc k) y is)

-- Code is valid where its header and its symbols fit, its sections are put together from parts, and its sizes and the depth of its ranges are within the limits.
pub code_valid : (raw : Raw) (d : ℕ) → IsTrue (header_fits raw) → ((k : ℕ) (symbol : Symbol) → slice_get raw.symbols k ≡ Some symbol → IsTrue (symbol_at_fits raw.symbols k symbol)) → AreSections raw d → length raw.symbols ≤ most_symbols → length raw.ops ≤ most_ops → slots_of raw.symbols ≤ most_slots → d ≤ most_nested → IsValid raw
code_valid raw d header symbols sections few_symbols few_ops few_slots low = record {
  header = header;
  symbols = symbols;
  ops = λ k op at. op_is k op at;
  sections = ap (section_faults raw) sections.are ∙ none_before (unless ((sections.first.start == 0) && section_fits raw sections.first) sections.first.start) (later_faults raw sections.first sections.rest ++ end_faults raw sections.first sections.rest) (none_unless ((sections.first.start == 0) && section_fits raw sections.first) sections.first.start (both_and (sections.first.start == 0) (section_fits raw sections.first) (ap (λ n. n == 0) sections.begins) (fits_section raw d sections.first sections.is))) (none_before (later_faults raw sections.first sections.rest) (end_faults raw sections.first sections.rest) (none_later raw d sections.first sections.rest sections.follow) (none_at_end raw d sections.first sections.rest sections.follow));
  jumps = λ k op at. jumps_valid raw (length raw.ops) k op at (get_some raw.ops k op at) (op_is k op at) (placed k (get_some raw.ops k op at)) nested one.leaves;
  limits = both_and ((nat_le (length raw.symbols) most_symbols && nat_le (length raw.ops) most_ops) && nat_le (slots_of raw.symbols) most_slots) (is_empty (deep_faults raw)) (both_and (nat_le (length raw.symbols) most_symbols && nat_le (length raw.ops) most_ops) (nat_le (slots_of raw.symbols) most_slots) (both_and (nat_le (length raw.symbols) most_symbols) (nat_le (length raw.ops) most_ops) (le-leb (length raw.symbols) most_symbols few_symbols) (le-leb (length raw.ops) most_ops few_ops)) (le-leb (slots_of raw.symbols) most_slots few_slots)) (ap is_empty shallow);
}
  where
    n : length (steps_of raw) ≡ length raw.ops
    n = length_steps raw.symbols 0 raw.ops

    place : (k : ℕ) → k < length raw.ops → Found raw d (sections.first ∷ sections.rest) k
    place k lt = found raw d sections.first sections.rest k sections.begins sections.is sections.follow lt

    owned : (k : ℕ) (lt : k < length raw.ops) → owner_at raw.sections k ≡ (place k lt).section.param
    owned k lt = ap (λ s. owner_at s k) sections.are ∙ ap owner_of (place k lt).here

    op_is : (k : ℕ) (op : Op) → slice_get raw.ops k ≡ Some op → IsTrue (op_at_fits raw k op)
    op_is k op at =
        let lt = get_some raw.ops k op at in let f = place k lt in
        ap (λ o. op_fits raw.kind raw.symbols o op) (owned k lt) ∙ f.is.ops k op f.first f.last at

    placed : (k : ℕ) → k < length raw.ops → IsPlaced raw k
    placed k lt = let f = place k lt in record { section = f.section; here = ap (λ s. section_at s k) sections.are ∙ f.here; first = f.first; last = f.last; closed = f.is.shaped.closed }

    one : Whole raw d 0
    one = subst (Whole raw d) sections.begins (joined raw d sections.first sections.is (whole_from raw d sections.first sections.rest sections.is.within sections.follow))

    nested : (j : ℕ) (step : Step) → slice_get (steps_of raw) j ≡ Some step → Nests (steps_of raw) j step
    nested j step at = one.shaped.nests j step (omega arith) (let l = get_some (steps_of raw) j step at in omega (arith, l, n)) at

    shallow : deep_faults raw ≡ []
    shallow = no_misfits (nests_within (steps_of raw)) 0 (steps_of raw) (λ k step at. let e : 0 + k ≡ k = omega arith in ap (λ z. nests_within (steps_of raw) z step) e ∙ deep_fits (steps_of raw) (length raw.ops) d k step low one.deep (let l = get_some (steps_of raw) k step at in omega (arith, l, n)) at)
