-- The sections of valid code follow each other from the first op to the last.
use Rattle.std.proofs.Common.{◌≡◌, ℕ, zero, suc, ◌+◌, ◌<◌, ◌≤◌, List, [], ◌∷◌, ◌++◌, length, Option, Some, None, refl, sym, ap, ◌∙◌, subst, arith, ⊎_elim}
use Rattle.std.specs.Prelude.{slice_get, nat_le, ◌==◌, ◌&&◌, IsTrue}
use Rattle.std.proofs.lemmas.Bool.{leb-true, ltb-true, eqb-true, cases_lt, cases_order}
use Rattle.std.proofs.lemmas.Option.{slice_get_within}
use Rattle.oso_code.specs.declared.op.Section.{Section}
use Rattle.oso_code.specs.declared.raw.Raw.{Raw}
use Rattle.oso_code.specs.declared.symbol.Symbol.{Symbol}
use Rattle.oso_code.specs.Faults.{unless}
use Rattle.oso_code.specs.Nesting.{after}
use Rattle.oso_code.specs.Ranges.{steps_of}
use Rattle.oso_code.specs.Sections.{owner_fits, may_have_section, owner_follows, section_fits, follows, later_faults, is_body, end_faults, section_faults}
use Rattle.oso_code.specs.Steps.{Step}
use Rattle.oso_code.specs.Symbols.{is_empty}
use Rattle.oso_code.specs.Valid.{IsValid, most_symbols, most_ops, most_slots, slots_of, deep_faults}
use Rattle.oso_code.proofs.Decoding.{length_steps}
use Rattle.oso_code.proofs.Fitting.{unless_none, both_none, some_same}
use Rattle.oso_code.proofs.Members.{and_both}
use Rattle.oso_code.proofs.Chained.{Fits, section_closed}

-- each begins where the one before it ends
abbrev pub Chained : ℕ → List Section → Type 0
Chained at [] = Unit {0}
Chained at (section ∷ sections) = (section.start ≡ at) × (section.start ≤ section.end) × Chained section.end sections

-- where the last ends
abbrev pub finish : ℕ → List Section → ℕ
finish at [] = at
finish at (section ∷ sections) = finish section.end sections

-- a section, and its place
pub record Holder (sections : List Section) (q : ℕ) : Type 0 where
  pub place : ℕ
  pub section : Section
  pub is : slice_get sections place ≡ Some section
  pub starts : section.start ≤ q
  pub ends : q < section.end

pub covered : (at q : ℕ) (sections : List Section) → Chained at sections → at ≤ q → q < finish at sections → Holder sections q
covered at q [] chain le lt = absurd (omega arith)
covered at q (section ∷ sections) chain le lt =
    let same = chain.0 in
    ⊎_elim (λ (here : q < section.end). record { place = 0; section = section; is = refl; starts = omega arith; ends = here })
    (λ (there : section.end ≤ q). let h = covered section.end q sections chain.2 there lt in record { place = suc h.place; section = h.section; is = h.is; starts = h.starts; ends = h.ends })
    (cases_lt q section.end)

later_start : (at : ℕ) (sections : List Section) (k : ℕ) (b : Section) → Chained at sections → slice_get sections k ≡ Some b → at ≤ b.start
later_start at [] k b chain is = absurd (cc is)
later_start at (section ∷ sections) zero b chain is = let e = ap (λ (s : Section). s.start) (some_same section b is) in let h = chain.0 in omega (arith, e, h)
later_start at (section ∷ sections) (suc k) b chain is = let h = later_start section.end sections k b chain.2 is in let e = chain.0 in let o = chain.1 in omega (arith, h, e, o)

pub in_order : (at : ℕ) (sections : List Section) (j k : ℕ) (a b : Section) → Chained at sections → j < k → slice_get sections j ≡ Some a → slice_get sections k ≡ Some b → a.end ≤ b.start
in_order at [] j k a b chain lt here there = absurd (cc here)
in_order at (section ∷ sections) j zero a b chain lt here there = absurd (omega arith)
in_order at (section ∷ sections) zero (suc k) a b chain lt here there =
    let e = ap (λ (s : Section). s.end) (some_same section a here) in let h = later_start section.end sections k b chain.2 there in omega (arith, e, h)
in_order at (section ∷ sections) (suc j) (suc k) a b chain lt here there = in_order section.end sections j k a b chain.2 (omega arith) here there

pub ordered_at : (at : ℕ) (sections : List Section) (k : ℕ) (b : Section) → Chained at sections → slice_get sections k ≡ Some b → b.start ≤ b.end
ordered_at at [] k b chain is = absurd (cc is)
ordered_at at (section ∷ sections) zero b chain is = subst (λ (s : Section). s.start ≤ s.end) (some_same section b is) chain.1
ordered_at at (section ∷ sections) (suc k) b chain is = ordered_at section.end sections k b chain.2 is

-- ---- of valid code

-- how many sections may follow one of this owner
abbrev Room : List Symbol → Option ℕ → ℕ → Type 0
Room symbols None n = n ≡ 0
Room symbols (Some p) n = p + n ≤ length symbols

room_none : (symbols : List Symbol) (owner : Option ℕ) → IsTrue (owner_fits symbols owner) → Room symbols owner 0
room_none symbols None fits = refl
room_none symbols (Some p) fits = has_room (slice_get symbols p) refl fits
  where
    has_room : (o : Option Symbol) → slice_get symbols p ≡ o → IsTrue (may_have_section o) → p + 0 ≤ length symbols
    has_room None is h = absurd (cc h)
    has_room (Some symbol) is h = let w = slice_get_within symbols p symbol is in omega (arith, w)

room_more : (symbols : List Symbol) (owner next : Option ℕ) (n : ℕ) → IsTrue (owner_fits symbols owner) → IsTrue (owner_follows owner next) → Room symbols next n → Room symbols owner (n + 1)
room_more symbols None next n fits follow room = absurd (cc follow)
room_more symbols (Some p) None n fits follow room = let h = room_none symbols (Some p) fits in let w = within p (slice_get symbols p) refl fits in omega (arith, room, w)
  where
    within : (p : ℕ) (o : Option Symbol) → slice_get symbols p ≡ o → IsTrue (may_have_section o) → p < length symbols
    within p None is h = absurd (cc h)
    within p (Some symbol) is h = slice_get_within symbols p symbol is
room_more symbols (Some p) (Some q) n fits follow room = let lt = ltb-true p q follow in omega (arith, lt, room)

module _ (raw : Raw) where
  section_facts : (section : Section) → IsTrue (section_fits raw section) → Fits raw section
  section_facts section h =
      let p = and_both (owner_fits raw.symbols section.param) (nat_le section.start section.end && nat_le section.end (length raw.ops)) h in
      let q = and_both (nat_le section.start section.end) (nat_le section.end (length raw.ops)) p.1 in
      record { owner = p.0; ordered = leb-true section.start section.end q.0; within = leb-true section.end (length raw.ops) q.1 }

  pub record Follows (before : Section) (sections : List Section) : Type 0 where
    pub chain : Chained before.end sections
    pub last : length raw.ops ≤ finish before.end sections
    pub room : Room raw.symbols before.param (length sections)

  following : (before : Section) (sections : List Section) → IsTrue (owner_fits raw.symbols before.param) → later_faults raw before sections ≡ [] → end_faults raw before sections ≡ [] → Follows before sections
  following before [] owner later ends =
      let p = and_both (is_body before.param) (nat_le (length raw.ops) before.end) (unless_none (is_body before.param && nat_le (length raw.ops) before.end) before.end ends) in
      record { chain = tt; last = leb-true (length raw.ops) before.end p.1; room = room_none raw.symbols before.param owner }
  following before (next ∷ sections) owner later ends =
      let p = both_none (unless (follows before next && section_fits raw next) next.start) (later_faults raw next sections) later in
      let q = and_both (follows before next) (section_fits raw next) (unless_none (follows before next && section_fits raw next) next.start p.0) in
      let r = and_both (owner_follows before.param next.param) (next.start == before.end) q.0 in
      let fits = section_facts next q.1 in
      let rest = following next sections fits.owner p.1 ends in
      let room = room_more raw.symbols before.param next.param (length sections) owner r.0 rest.room in
      record { chain = (eqb-true next.start before.end r.1, fits.ordered, rest.chain); last = rest.last; room = subst (Room raw.symbols before.param) (one_more (length sections)) room }
    where
      one_more : (n : ℕ) → n + 1 ≡ suc n
      one_more n = omega arith

  pub record Sectioned : Type 0 where
    pub chain : Chained 0 raw.sections
    pub last : length raw.ops ≤ finish 0 raw.sections
    pub few : length raw.sections ≤ length raw.symbols + 1

  room_few : (owner : Option ℕ) (n : ℕ) → Room raw.symbols owner n → suc n ≤ length raw.symbols + 1
  room_few None n room = omega (arith, room)
  room_few (Some p) n room = omega (arith, room)

  sectioned : (sections : List Section) → section_faults raw sections ≡ [] → (Chained 0 sections × (length raw.ops ≤ finish 0 sections) × (length sections ≤ length raw.symbols + 1))
  sectioned [] none = absurd (cc none)
  sectioned (first ∷ sections) none =
      let p = both_none (unless ((first.start == 0) && section_fits raw first) first.start) (later_faults raw first sections ++ end_faults raw first sections) none in
      let q = and_both (first.start == 0) (section_fits raw first) (unless_none ((first.start == 0) && section_fits raw first) first.start p.0) in
      let s = both_none (later_faults raw first sections) (end_faults raw first sections) p.1 in
      let fits = section_facts first q.1 in
      let rest = following first sections fits.owner s.0 s.1 in
      ((eqb-true first.start 0 q.0, fits.ordered, rest.chain), rest.last, room_few first.param (length sections) rest.room)

  pub valid_sectioned : IsValid raw → Sectioned
  valid_sectioned valid = let h = sectioned raw.sections valid.sections in record { chain = h.0; last = h.1; few = h.2 }

  -- an op before a section's start does not reach past it
  pub before_section : IsValid raw → (j : ℕ) (section : Section) (q : ℕ) (step : Step) → slice_get raw.sections j ≡ Some section → slice_get (steps_of raw) q ≡ Some step → q < section.start → after q step ≤ section.start
  before_section valid j section q step is there lt =
      let s = valid_sectioned valid in
      let n = length_steps raw.symbols 0 raw.ops in
      let w = slice_get_within (steps_of raw) q step there in
      let l = s.last in
      let h = covered 0 q raw.sections s.chain (omega arith) (omega (arith, n, w, l)) in
      let closed = (section_closed raw valid h.place h.section h.is).ends q step h.starts h.ends there in
      let starts = h.starts in
      ⊎_elim (λ (e : h.place ≡ j).
      let same = ap (λ (x : Section). x.start) (some_same h.section section (sym h.is ∙ ap (slice_get raw.sections) e ∙ is)) in
      absurd (omega (arith, same, lt, starts)))
      (λ o. ⊎_elim (λ (lower : h.place < j). let le = in_order 0 raw.sections h.place j h.section section s.chain lower h.is is in omega (arith, closed, le))
      (λ (higher : j < h.place).
      let le = in_order 0 raw.sections j h.place section h.section s.chain higher is h.is in
      let o = ordered_at 0 raw.sections j section s.chain is in
      absurd (omega (arith, le, o, starts, lt))) o)
      (cases_order h.place j)

-- what valid code has at most
pub record AtMost (raw : Raw) : Type 0 where
  pub symbols : length raw.symbols ≤ 65536
  pub ops : length raw.ops ≤ 65536
  pub sections : length raw.sections ≤ 65537

pub valid_at_most : (raw : Raw) → IsValid raw → AtMost raw
valid_at_most raw valid =
    let a = nat_le (length raw.symbols) most_symbols in
    let b = nat_le (length raw.ops) most_ops in
    let d = nat_le (slots_of raw.symbols) most_slots in
    let p = and_both ((a && b) && d) (is_empty (deep_faults raw)) valid.limits in
    let q = and_both (a && b) d p.0 in
    let r = and_both a b q.0 in
    let symbols = leb-true (length raw.symbols) 65536 r.0 in
    let s = (valid_sectioned raw valid).few in
    record { symbols = symbols; ops = leb-true (length raw.ops) 65536 r.1; sections = omega (arith, symbols, s) }
