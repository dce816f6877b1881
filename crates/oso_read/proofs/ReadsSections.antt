-- The sections of valid code follow each other as their lines are read.
use Rattle.std.proofs.Common.{codes, ◌≡◌, ℕ, zero, suc, ◌+◌, ◌-◌, ◌<◌, ◌≤◌, min, true, ◌&&◌, List, [], ◌∷◌, ◌++◌, length, map, take, drop, Option, Some, Result, refl, sym, ap, ◌∙◌, subst, append_assoc, append-nil, arith}
use Rattle.std.specs.Prelude.{IsTrue, nat_le, ◌==◌, slice_get, slice_range}
use Rattle.std.specs.List.{flat_map, AllByRecursion}
use Rattle.std.proofs.lemmas.Bool.{and_parts, leb-true, eqb-true}
use Rattle.std.proofs.lemmas.List.{length-take, length-drop, take_all}
use Rattle.oso_code.specs.declared.op.Op.{Op}
use Rattle.oso_code.specs.declared.op.Section.{Section}
use Rattle.oso_code.specs.declared.raw.Raw.{Raw}
use Rattle.oso_code.specs.Faults.{unless}
use Rattle.oso_code.specs.Ops.{op_fits, owner_of, section_at}
use Rattle.oso_code.specs.Sections.{owner_fits, owner_follows, is_body, section_fits, follows, later_faults, end_faults, section_faults}
use Rattle.oso_code.specs.Valid.{most_ops, IsValid}
use Rattle.oso_code.proofs.Chained.{Lies, valid_section}
use Rattle.oso_code.proofs.Fitting.{unless_none, both_none}
use Rattle.osl_valuetext.specs.Words.{Line}
use Rattle.oso_write.specs.Lines.{op_line, section_name, section_lines}
use Rattle.oso_read.specs.declared.body.Start.{Start}
use Rattle.oso_read.specs.Faults.{Fault}
use Rattle.oso_read.specs.Text.{Numbered}
use Rattle.oso_read.specs.Reading.{Body, Filled, last_start, may_follow, has_main, sections_of, filled_from}
use Rattle.oso_read.proofs.PlainLines.{AreJumps}
use Rattle.oso_read.proofs.ReadsBody.{OpsFit, section_read, last_of_more}
use Rattle.oso_read.proofs.ReadsSymbols.{Say}
use Rattle.oso_read.proofs.ValidJumps.{jumps_small}
use Rattle.oso_read.proofs.ValidSections.{last_is}

-- ---- parts of a list

take_get : {X : Type 0} (n : ℕ) (xs : List X) (i : ℕ) (x : X) → slice_get (take n xs) i ≡ Some x → slice_get xs i ≡ Some x
take_get zero xs i x h = absurd (cc h)
take_get (suc n) [] i x h = absurd (cc h)
take_get (suc n) (y ∷ ys) zero x h = h
take_get (suc n) (y ∷ ys) (suc i) x h = take_get n ys i x h

drop_get : {X : Type 0} (n : ℕ) (xs : List X) (i : ℕ) (x : X) → slice_get (drop n xs) i ≡ Some x → slice_get xs (n + i) ≡ Some x
drop_get zero xs i x h = let e : i ≡ 0 + i = omega arith in subst (λ k. slice_get xs k ≡ Some x) e h
drop_get (suc n) [] i x h = absurd (cc h)
drop_get (suc n) (y ∷ ys) i x h = let e : suc (n + i) ≡ suc n + i = omega arith in subst (λ k. slice_get (y ∷ ys) k ≡ Some x) e (drop_get n ys i x h)

take_on : {X : Type 0} (n m : ℕ) (xs : List X) → take n xs ++ take m (drop n xs) ≡ take (n + m) xs
take_on zero m xs = let e : m ≡ 0 + m = omega arith in ap (λ k. take k xs) e
take_on {X} (suc n) m [] = none m ∙ sym (none (suc n + m))
  where
    none : (k : ℕ) → ◌≡◌ {A = List X} (take k []) []
    none zero = refl
    none (suc k) = refl
take_on {X} (suc n) m (x ∷ xs) = let e : suc (n + m) ≡ suc n + m = omega arith in ap (λ (ys : List X). x ∷ ys) (take_on n m xs) ∙ ap (λ k. take k (x ∷ xs)) e

pub taken_on : {X : Type 0} (a b : ℕ) (xs : List X) → a ≤ b → take a xs ++ slice_range xs a b ≡ take b xs
taken_on a b xs le = let e : a + (b - a) ≡ b = omega (arith, le) in take_on a (b - a) xs ∙ ap (λ k. take k xs) e

abbrev pub start_of : Section → Start
start_of section = record { owner = section.param; op = section.start }

all_jumps : (jumps : List ℕ) → AllByRecursion (λ j. j ≤ most_ops) jumps → AreJumps jumps
all_jumps [] all = tt
all_jumps (j ∷ jumps) all = let le = all.0 in (omega (arith, le), all_jumps jumps all.1)

module _ (last : Numbered) (raw : Raw) (valid : IsValid raw) (few : length raw.ops ≤ most_ops) where
  abbrev Fits : Option ℕ → ℕ → List Op → Type 0
  Fits owner n ops = OpsFit last raw.kind raw.symbols valid.symbols owner n ops

  -- ops that stand in a section fit it
  ops_fit : (section : Section) (n : ℕ) (ops : List Op) → ((i : ℕ) (op : Op) → slice_get ops i ≡ Some op → slice_get raw.ops (n + i) ≡ Some op)
      → ((k : ℕ) → n ≤ k → k < n + length ops → section_at raw.sections k ≡ Some section) → n + length ops ≤ most_ops → Fits section.param n ops
  ops_fit section n [] are here small = tt
  ops_fit section n (op ∷ ops) are here small =
      let at : n + 0 ≡ n = omega arith in
      let get = subst (λ k. slice_get raw.ops k ≡ Some op) at (are 0 op refl) in (
        subst (λ (owner : Option ℕ). IsTrue (op_fits raw.kind raw.symbols owner op)) (ap owner_of (here n (omega arith) (omega arith))) (valid.ops n op get),
        omega (arith, small),
        all_jumps op.jumps (jumps_small raw valid n op get),
        ops_fit section (n + 1) ops
            (λ i o is. let e : n + suc i ≡ (n + 1) + i = omega arith in subst (λ k. slice_get raw.ops k ≡ Some o) e (are (suc i) o is))
            (λ k a b. here k (omega (arith, a)) (omega (arith, b))) (omega (arith, small)),
      )

  ops_in : (s : Section) → Lies raw raw.sections s → Fits s.param s.start (slice_range raw.ops s.start s.end)
  ops_in s lies =
      let front = length-take (s.end - s.start) (drop s.start raw.ops) in
      let back = length-drop s.start raw.ops in
      let ordered = lies.ordered in
      let within = lies.within in
      ops_fit s s.start (slice_range raw.ops s.start s.end)
      (λ i op is. drop_get s.start raw.ops i op (take_get (s.end - s.start) (drop s.start raw.ops) i op is))
      (λ k a b. lies.holds k a (omega (arith, b, front, ordered))) (omega (arith, front, back, few, ordered, within))

  -- sections that follow these that have begun, the first one from the n-th op on
  abbrev pub ChainFrom : List Start → ℕ → List Section → Type 0
  ChainFrom starts n [] = n ≡ length raw.ops
  ChainFrom starts n (s ∷ sections) =
      (s.start ≡ n) × (s.start ≤ s.end) × (s.end ≤ length raw.ops) × IsTrue (owner_fits raw.symbols s.param) × IsTrue (may_follow (last_start starts) s.param)
      × Fits s.param n (slice_range raw.ops s.start s.end) × ChainFrom (starts ++ start_of s ∷ []) s.end sections

  abbrev AllLie : List Section → Type 0
  AllLie sections = (j : ℕ) (s : Section) → slice_get sections j ≡ Some s → Lies raw raw.sections s

  chain_behind : (before : Section) (sections : List Section) (starts : List Start) → last_start starts ≡ Some (start_of before) → before.end ≤ length raw.ops → AllLie sections
      → later_faults raw before sections ≡ [] → end_faults raw before sections ≡ [] → ChainFrom starts before.end sections
  chain_behind before [] starts at within lie later ends =
      let end = and_parts (is_body before.param) (nat_le (length raw.ops) before.end) (unless_none (is_body before.param && nat_le (length raw.ops) before.end) before.end ends) in
      let le = leb-true (length raw.ops) before.end end.1 in
      omega (arith, within, le)
  chain_behind before (s ∷ sections) starts at within lie later ends =
      let p = both_none (unless (follows before s && section_fits raw s) s.start) (later_faults raw s sections) later in
      let q = and_parts (follows before s) (section_fits raw s) (unless_none (follows before s && section_fits raw s) s.start p.0) in
      let r = and_parts (owner_follows before.param s.param) (s.start == before.end) q.0 in
      let e = eqb-true s.start before.end r.1 in
      let lies = lie 0 s refl in (
        e,
        lies.ordered,
        lies.within,
        lies.owner,
        ap (λ (o : Option Start). may_follow o s.param) at ∙ r.0,
        subst (λ n. Fits s.param n (slice_range raw.ops s.start s.end)) e (ops_in s lies),
        chain_behind s sections (starts ++ start_of s ∷ []) (last_of_more last raw.kind raw.symbols valid.symbols starts (start_of s)) lies.within (λ j t is. lie (suc j) t is) p.1 ends,
      )

  chain_all : (sections : List Section) → section_faults raw sections ≡ [] → AllLie sections → ChainFrom [] 0 sections
  chain_all [] none lie = absurd (cc none)
  chain_all (s ∷ sections) none lie =
      let p = both_none (unless ((s.start == 0) && section_fits raw s) s.start) (later_faults raw s sections ++ end_faults raw s sections) none in
      let q = both_none (later_faults raw s sections) (end_faults raw s sections) p.1 in
      let r = and_parts (s.start == 0) (section_fits raw s) (unless_none ((s.start == 0) && section_fits raw s) s.start p.0) in
      let e = eqb-true s.start 0 r.0 in
      let lies = lie 0 s refl in (
        e,
        lies.ordered,
        lies.within,
        lies.owner,
        refl,
        subst (λ n. Fits s.param n (slice_range raw.ops s.start s.end)) e (ops_in s lies),
        chain_behind s sections (start_of s ∷ []) refl lies.within (λ j t is. lie (suc j) t is) q.0 q.1,
      )

  pub chain : ChainFrom [] 0 raw.sections
  chain = chain_all raw.sections valid.sections (valid_section raw valid)

  -- ---- the sections that are made of their starts

  sections_back : (starts : List Start) (n : ℕ) (sections : List Section) → ChainFrom starts n sections → sections_of (map start_of sections) (length raw.ops) ≡ sections
  sections_back starts n [] links = refl
  sections_back starts n (s ∷ []) links = ap (λ end. record { param = s.param; start = s.start; end = end } ∷ []) (sym links.6)
  sections_back starts n (s ∷ next ∷ sections) links =
      let more = links.6 in
      let behind = sections_of (map start_of (next ∷ sections)) (length raw.ops) in
      ap (λ end. record { param = s.param; start = s.start; end = end } ∷ behind) more.0
      ∙ ap (λ (ss : List Section). s ∷ ss) (sections_back (starts ++ start_of s ∷ []) s.end (next ∷ sections) more)

  pub sections_are : sections_of (map start_of raw.sections) (length raw.ops) ≡ raw.sections
  sections_are = sections_back [] 0 raw.sections chain

  last_main : (before : Section) (sections : List Section) → end_faults raw before sections ≡ [] → has_main (last_start (map start_of (before ∷ sections))) ≡ true
  last_main before [] ends = (and_parts (is_body before.param) (nat_le (length raw.ops) before.end) (unless_none (is_body before.param && nat_le (length raw.ops) before.end) before.end ends)).0
  last_main before (s ∷ sections) ends =
      ap has_main (last_is (start_of before) (map start_of (s ∷ sections)) ∙ sym (last_is (start_of s) (map start_of sections))) ∙ last_main s sections ends

  main_of : (sections : List Section) → section_faults raw sections ≡ [] → has_main (last_start (map start_of sections)) ≡ true
  main_of [] none = absurd (cc none)
  main_of (s ∷ sections) none =
      let p = both_none (unless ((s.start == 0) && section_fits raw s) s.start) (later_faults raw s sections ++ end_faults raw s sections) none in
      last_main s sections (both_none (later_faults raw s sections) (end_faults raw s sections) p.1).1

  pub main_last : has_main (last_start (map start_of raw.sections)) ≡ true
  main_last = main_of raw.sections valid.sections

  -- ---- their lines

  pub record SectionsRead (body : Body) (sections : List Section) (ls : List Numbered) (ws : List Line) : Type 0 where
    pub lines : List ℕ
    pub rest : List Numbered
    pub reads : filled_from raw.kind raw.symbols body ls ≡ filled_from raw.kind raw.symbols (record { starts = body.starts ++ map start_of sections; ops = raw.ops; lines = lines }) rest
    pub says : Say last rest ws

  abbrev reading_on : List Start → List Op → List ℕ → List Numbered → Result Filled Fault
  reading_on starts ops lines rest = filled_from raw.kind raw.symbols (record { starts = starts; ops = ops; lines = lines }) rest

  abbrev code_line : Section → Line
  code_line s = codes "code" ∷ section_name raw.symbols s.param ∷ []

  pub sections_read : (sections : List Section) (body : Body) (ls : List Numbered) (ws : List Line) → ChainFrom body.starts (length body.ops) sections → body.ops ≡ take (length body.ops) raw.ops
      → Say last ls (flat_map (section_lines raw) sections ++ ws) → SectionsRead body sections ls ws
  sections_read [] body ls ws links taken h =
      let all = taken ∙ take_all (length body.ops) raw.ops (omega (arith, links)) in
      record {
        lines = body.lines;
        rest = ls;
        reads = ap (λ starts. reading_on starts body.ops body.lines ls) (sym (append-nil body.starts)) ∙ ap (λ ops. reading_on (body.starts ++ []) ops body.lines ls) all;
        says = h;
      }
  sections_read (s ∷ sections) body ls ws links taken h =
      let ops = slice_range raw.ops s.start s.end in
      let behind = flat_map (section_lines raw) sections in
      let parts = append_assoc (map (op_line raw.symbols) ops) behind ws in
      let one = section_read last raw.kind raw.symbols valid.symbols s.param ops body ls (behind ++ ws) links.3 links.4 links.5 (subst (λ (more : List Line). Say last ls (code_line s ∷ more)) parts h) in
      let after : Body = record { starts = body.starts ++ start_of s ∷ []; ops = body.ops ++ ops; lines = one.lines } in
      let grown : body.ops ++ ops ≡ take s.end raw.ops = ap (λ front. front ++ ops) (taken ∙ ap (λ n. take n raw.ops) (sym links.0)) ∙ taken_on s.start s.end raw.ops links.1 in
      let len = length-take s.end raw.ops in
      let within = links.2 in
      let whole : min s.end (length raw.ops) ≡ s.end = omega (arith, within) in
      let end : length (body.ops ++ ops) ≡ s.end = ap length grown ∙ len ∙ whole in
      let more = sections_read sections after one.rest ws (subst (λ n. ChainFrom (body.starts ++ start_of s ∷ []) n sections) (sym end) links.6) (grown ∙ ap (λ n. take n raw.ops) (sym end)) one.says in
      record {
        lines = more.lines;
        rest = more.rest;
        reads =
            one.reads
            ∙ ap (λ n. reading_on (body.starts ++ record { owner = s.param; op = n } ∷ []) (body.ops ++ ops) one.lines one.rest) (sym links.0)
            ∙ more.reads
            ∙ ap (λ starts. reading_on starts raw.ops more.lines more.rest) (append_assoc body.starts (start_of s ∷ []) (map start_of sections));
        says = more.says;
      }
