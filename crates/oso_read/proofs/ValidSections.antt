-- Sections are in order as they are read, each from the place where it begins up to the next one, and the owner of the section that an op stands in is that of the last one that began before it.
use Rattle.std.proofs.Common.{◌≡◌, ℕ, suc, ◌-◌, ◌<◌, ◌≤◌, Bool, true, false, ◌&&◌, List, [], ◌∷◌, ◌++◌, length, Option, Some, None, refl, ap, ◌∙◌, arith}
use Rattle.std.specs.Prelude.{IsTrue, if◌then◌else◌, nat_le, nat_lt, ◌==◌, slice_get}
use Rattle.std.proofs.lemmas.Bool.{and_from, le-leb, lt-ltb, le-ltb, eq-eqb}
use Rattle.oso_code.specs.declared.op.Section.{Section}
use Rattle.oso_code.specs.declared.raw.Raw.{Raw}
use Rattle.oso_code.specs.declared.symbol.Symbol.{Symbol}
use Rattle.oso_code.specs.Faults.{unless}
use Rattle.oso_code.specs.Ops.{owner_of, owner_at, section_at}
use Rattle.oso_code.specs.Sections.{owner_fits, owner_follows, is_body, section_fits, follows, later_faults, end_faults, section_faults}
use Rattle.oso_code.proofs.Fitting.{none_unless}
use Rattle.oso_read.specs.declared.body.Start.{Start}
use Rattle.oso_read.specs.Reading.{last_start, sections_of}

-- ---- the section that began last

abbrev pub last_of : Start → List Start → Start
last_of start [] = start
last_of start (next ∷ starts) = last_of next starts

pub last_is : (start : Start) (starts : List Start) → last_start (start ∷ starts) ≡ Some (last_of start starts)
last_is start [] = refl
last_is start (next ∷ starts) =
    let n : length (start ∷ next ∷ starts) - 1 ≡ suc (length starts) = omega arith in
    let m : length starts ≡ length (next ∷ starts) - 1 = omega arith in
    ap (slice_get (start ∷ next ∷ starts)) n ∙ ap (slice_get (next ∷ starts)) m ∙ last_is next starts

-- ---- sections in order

-- each has an owner that fits and follows the one before it, and none begins after `end`
abbrev pub Rises : List Symbol → Start → List Start → ℕ → Type 0
Rises symbols start [] end = IsTrue (owner_fits symbols start.owner) × (start.op ≤ end)
Rises symbols start (next ∷ starts) end =
    IsTrue (owner_fits symbols start.owner) × (start.op ≤ next.op) × IsTrue (owner_follows start.owner next.owner) × Rises symbols next starts end

pub rises_end : (symbols : List Symbol) (start : Start) (starts : List Start) (end : ℕ) → Rises symbols start starts end → start.op ≤ end
rises_end symbols start [] end rises = rises.1
rises_end symbols start (next ∷ starts) end rises =
    let first = rises.1 in
    let later = rises_end symbols next starts end rises.3 in
    omega (arith, first, later)

pub rises_more : (symbols : List Symbol) (start : Start) (starts : List Start) (end further : ℕ) → end ≤ further → Rises symbols start starts end → Rises symbols start starts further
rises_more symbols start [] end further le rises = let first = rises.1 in (rises.0, omega (arith, le, first))
rises_more symbols start (next ∷ starts) end further le rises = (rises.0, rises.1, rises.2, rises_more symbols next starts end further le rises.3)

abbrev pub begun : Option ℕ → ℕ → Start
begun owner op = record { owner = owner; op = op }

pub rises_begun : (symbols : List Symbol) (start : Start) (starts : List Start) (owner : Option ℕ) (end : ℕ)
    → Rises symbols start starts end → IsTrue (owner_fits symbols owner) → IsTrue (owner_follows (last_of start starts).owner owner)
    → Rises symbols start (starts ++ begun owner end ∷ []) end
rises_begun symbols start [] owner end rises fits comes = (rises.0, rises.1, comes, (fits, omega arith))
rises_begun symbols start (next ∷ starts) owner end rises fits comes = (rises.0, rises.1, rises.2, rises_begun symbols next starts owner end rises.3 fits comes)

abbrev section_of : Start → ℕ → Section
section_of start end = record { param = start.owner; start = start.op; end = end }

module _ (raw : Raw) where
  fits_there : (start : Start) (end : ℕ) → IsTrue (owner_fits raw.symbols start.owner) → start.op ≤ end → end ≤ length raw.ops → IsTrue (section_fits raw (section_of start end))
  fits_there start end owner ordered within =
      and_from (owner_fits raw.symbols start.owner) (nat_le start.op end && nat_le end (length raw.ops)) owner
      (and_from (nat_le start.op end) (nat_le end (length raw.ops)) (le-leb start.op end ordered) (le-leb end (length raw.ops) within))

  no_fault : (before : Section) (start : Start) (end : ℕ) → IsTrue (owner_follows before.param start.owner) → start.op ≡ before.end → IsTrue (section_fits raw (section_of start end))
      → unless (follows before (section_of start end) && section_fits raw (section_of start end)) start.op ≡ []
  no_fault before start end comes at fits =
      none_unless (follows before (section_of start end) && section_fits raw (section_of start end)) start.op
      (and_from (follows before (section_of start end)) (section_fits raw (section_of start end))
      (and_from (owner_follows before.param start.owner) (start.op == before.end) comes (eq-eqb start.op before.end at)) fits)

  later_none : (before : Section) (start : Start) (starts : List Start) → IsTrue (owner_follows before.param start.owner) → start.op ≡ before.end
      → Rises raw.symbols start starts (length raw.ops) → later_faults raw before (sections_of (start ∷ starts) (length raw.ops)) ≡ []
  later_none before start [] comes at rises =
      ap (λ places. places ++ []) (no_fault before start (length raw.ops) comes at (fits_there start (length raw.ops) rises.0 rises.1 (omega arith)))
  later_none before start (next ∷ starts) comes at rises =
      let within = rises_end raw.symbols next starts (length raw.ops) rises.3 in
      let behind = later_faults raw (section_of start next.op) (sections_of (next ∷ starts) (length raw.ops)) in
      ap (λ places. places ++ behind) (no_fault before start next.op comes at (fits_there start next.op rises.0 rises.1 within))
      ∙ later_none (section_of start next.op) next starts rises.2 refl rises.3

  end_none : (before : Section) (start : Start) (starts : List Start) → IsTrue (is_body (last_of start starts).owner) → end_faults raw before (sections_of (start ∷ starts) (length raw.ops)) ≡ []
  end_none before start [] body =
      none_unless (is_body start.owner && nat_le (length raw.ops) (length raw.ops)) (length raw.ops)
      (and_from (is_body start.owner) (nat_le (length raw.ops) (length raw.ops)) body (le-leb (length raw.ops) (length raw.ops) (omega arith)))
  end_none before start (next ∷ starts) body = end_none (section_of start next.op) next starts body

  first_fault : (start : Start) (end : ℕ) → start.op ≡ 0 → IsTrue (section_fits raw (section_of start end)) → unless ((start.op == 0) && section_fits raw (section_of start end)) start.op ≡ []
  first_fault start end at fits =
      none_unless ((start.op == 0) && section_fits raw (section_of start end)) start.op
      (and_from (start.op == 0) (section_fits raw (section_of start end)) (eq-eqb start.op 0 at) fits)

  -- sections that rise from 0 on, the last one the body's, have no fault
  pub sections_none : (start : Start) (starts : List Start) → start.op ≡ 0 → Rises raw.symbols start starts (length raw.ops) → IsTrue (is_body (last_of start starts).owner)
      → section_faults raw (sections_of (start ∷ starts) (length raw.ops)) ≡ []
  sections_none start [] at rises body =
      let last = section_of start (length raw.ops) in
      ap (λ places. places ++ ([] ++ end_faults raw last [])) (first_fault start (length raw.ops) at (fits_there start (length raw.ops) rises.0 rises.1 (omega arith)))
      ∙ end_none last start [] body
  sections_none start (next ∷ starts) at rises body =
      let within = rises_end raw.symbols next starts (length raw.ops) rises.3 in
      let first = section_of start next.op in
      let behind = sections_of (next ∷ starts) (length raw.ops) in
      ap (λ places. places ++ (later_faults raw first behind ++ end_faults raw first behind)) (first_fault start next.op at (fits_there start next.op rises.0 rises.1 within))
      ∙ ap (λ places. places ++ end_faults raw first behind) (later_none first next starts rises.2 refl rises.3)
      ∙ end_none first next starts body

-- ---- owners

-- the owner of the last section that begins at a place or before it
abbrev pub owner_in : Start → List Start → ℕ → Option ℕ
owner_in start [] k = start.owner
owner_in start (next ∷ starts) k = if nat_lt k next.op then start.owner else owner_in next starts k

pub owner_there : (start : Start) (starts : List Start) (end k : ℕ) → k < end → owner_at (sections_of (start ∷ starts) end) k ≡ owner_in start starts k
owner_there start [] end k lt = ap (λ b. owner_of (if b then Some (section_of start end) else None)) (lt-ltb k end lt)
owner_there start (next ∷ starts) end k lt = by (nat_lt k next.op) (owner_there next starts end k lt)
  where
    by : (b : Bool) → owner_at (sections_of (next ∷ starts) end) k ≡ owner_in next starts k
        → owner_of (if b then Some (section_of start next.op) else section_at (sections_of (next ∷ starts) end) k) ≡ (if b then start.owner else owner_in next starts k)
    by true later = refl
    by false later = later

-- an op after all is in the last one
pub owner_last : (symbols : List Symbol) (start : Start) (starts : List Start) (end : ℕ) → Rises symbols start starts end → owner_in start starts end ≡ (last_of start starts).owner
owner_last symbols start [] end rises = refl
owner_last symbols start (next ∷ starts) end rises =
    ap (λ b. if b then start.owner else owner_in next starts end) (le-ltb end next.op (rises_end symbols next starts end rises.3))
    ∙ owner_last symbols next starts end rises.3

-- one that begins after an op changes nothing for it
pub owner_begun : (start : Start) (starts : List Start) (new : Start) (k : ℕ) → k < new.op → owner_in start (starts ++ new ∷ []) k ≡ owner_in start starts k
owner_begun start [] new k lt = ap (λ b. if b then start.owner else new.owner) (lt-ltb k new.op lt)
owner_begun start (next ∷ starts) new k lt = ap (λ owner. if nat_lt k next.op then start.owner else owner) (owner_begun next starts new k lt)
