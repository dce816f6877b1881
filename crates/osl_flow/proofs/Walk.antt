-- The table of what is around each op, made from the first op on: what is noted of a place is never noted again.
use Rattle.std.proofs.Common.{◌≡◌, ℕ, ◌+◌, ◌<◌, ◌≤◌, ◌⊎◌, inl, inr, Bool, List, [], ◌∷◌, true, false, length, replicate, Some, refl, sym, ap, ◌∙◌, subst, arith, ⊎_elim}
use Rattle.std.specs.Prelude.{slice_get, slice_set, if◌then◌else◌}
use Rattle.std.proofs.lemmas.Bool.{cases_eq, cases_lt, cases_order, lt-ltb, le-ltb}
use Rattle.std.proofs.lemmas.List.{get_or-set_same, get_or-set_other, get_or-replicate, get_or_past, length-replicate, length-set}
use Rattle.std.proofs.lemmas.Option.{slice_get_within}
use Rattle.oso_code.specs.Nesting.{after, IsClosed, Nests, Tiles, AreNested, AreTiled}
use Rattle.oso_code.specs.Steps.{Span, Step, Compute, Branch, Loop, Call, Leave}
use Rattle.oso_code.specs.declared.op.Section.{Section}
use Rattle.oso_code.specs.Ranges.{steps_of}
use Rattle.oso_code.specs.Valid.{IsValid}
use Rattle.oso_code.specs.declared.raw.Raw.{Raw}
use Rattle.oso_code.proofs.Chained.{section_closed, section_within}
use Rattle.oso_code.proofs.Decoding.{length_steps}
use Rattle.oso_code.proofs.Fitting.{some_same}
use Rattle.oso_code.proofs.Nested.{valid_nested}
use Rattle.oso_code.proofs.Tiled.{valid_tiled}
use Rattle.osl_rewrites.specs.Flow.{In, IsAround, Inner, Surrounds, within_branch, within_test, within_body, within_step, within_call, within_section}
use Rattle.osl_rewrites.specs.declared.point.Around.{Around}
use Rattle.osl_flow.specs.Table.{nowhere, table_of, noted, marked, starts, MayEnd, Walked}
use Rattle.osl_flow.proofs.Sections.{covered, in_order, ordered_at, valid_sectioned, before_section}
use Rattle.osl_flow.proofs.Shapes.{Shape, shaped}

-- what holds of one, two, three and four
one_of : (P : ℕ → Type 0) (a : ℕ) → P a → (y : ℕ) → In y (a ∷ []) → P y
one_of P a pa y m = ⊎_elim (λ (e : y ≡ a). subst P (sym e) pa) (λ h. absurd h) m

two_of : (P : ℕ → Type 0) (a b : ℕ) → P a → P b → (y : ℕ) → In y (a ∷ b ∷ []) → P y
two_of P a b pa pb y m = ⊎_elim (λ (e : y ≡ a). subst P (sym e) pa) (one_of P b pb y) m

three_of : (P : ℕ → Type 0) (a b c : ℕ) → P a → P b → P c → (y : ℕ) → In y (a ∷ b ∷ c ∷ []) → P y
three_of P a b c pa pb pc y m = ⊎_elim (λ (e : y ≡ a). subst P (sym e) pa) (two_of P b c pb pc y) m

four_of : (P : ℕ → Type 0) (a b c d : ℕ) → P a → P b → P c → P d → (y : ℕ) → In y (a ∷ b ∷ c ∷ d ∷ []) → P y
four_of P a b c d pa pb pc pd y m = ⊎_elim (λ (e : y ≡ a). subst P (sym e) pa) (three_of P b c d pb pc pd y) m

-- one place may have been noted
pub record Noted (t u : ℕ → Around) (x : ℕ) (a : Around) : Type 0 where
  pub here : x < a.end → u x ≡ a
  pub same : (k : ℕ) → (x < a.end → k ≡ x → ⊥) → u k ≡ t k

-- a list's table, where one place is noted
pub list_noted : (table : List Around) (x : ℕ) (a : Around) → a.end ≤ length table → Noted (table_of table) (table_of (noted x a table)) x a
list_noted table x a le = record {
  here = λ lt. ap (λ b. table_of (if b then slice_set table x a else table) x) (lt-ltb x a.end lt) ∙ get_or-set_same table x a nowhere (omega arith);
  same = λ k other. ⊎_elim
      (λ (lt : x < a.end). ap (λ b. table_of (if b then slice_set table x a else table) k) (lt-ltb x a.end lt) ∙ get_or-set_other table x k a nowhere (other lt))
      (λ (past : a.end ≤ x). ap (λ b. table_of (if b then slice_set table x a else table) k) (le-ltb x a.end past))
      (cases_lt x a.end);
}

module _ (steps : List Step) (sections : List Section) where
  -- code whose ranges nest, in sections that follow each other
  pub record Laid : Type 0 where
    pub nested : AreNested steps
    pub tiled : AreTiled steps
    pub shaped : (i : ℕ) (step : Step) → slice_get steps i ≡ Some step → Shape i step
    pub within : (i : ℕ) (step : Step) → slice_get steps i ≡ Some step → after i step ≤ length steps
    pub before : (j : ℕ) (section : Section) (q : ℕ) (step : Step) → slice_get sections j ≡ Some section → slice_get steps q ≡ Some step → q < section.start → after q step ≤ section.start
    pub order : (j k : ℕ) (a b : Section) → j < k → slice_get sections j ≡ Some a → slice_get sections k ≡ Some b → a.end ≤ b.start
    pub rises : (j : ℕ) (a : Section) → slice_get sections j ≡ Some a → a.start ≤ a.end
    pub ends : (j : ℕ) (a : Section) → slice_get sections j ≡ Some a → a.end ≤ length steps

  -- a place that may have been noted by the ops before i, or for a section
  abbrev Fixed : ℕ → ℕ → Type 0
  Fixed i y = ((q : ℕ) × (step : Step) × (slice_get steps q ≡ Some step) × (q < i) × In y (starts q step)) ⊎ ((j : ℕ) × (section : Section) × (slice_get sections j ≡ Some section) × (section.start ≡ y))

  module _ (laid : Laid) where
    -- an op starts its ranges after itself, and up to where it ends
    start_within : (i : ℕ) (step : Step) → Nests steps i step → (y : ℕ) → In y (starts i step) → (i < y) × (y ≤ after i step)
    start_within i (Compute name ty target sources) n = one_of (λ y. (i < y) × (y ≤ i + 1)) (i + 1) (omega arith, omega arith)
    start_within i (Branch c holds fails) n =
        let a = n.0.later in let b = n.0.ordered in let d = n.0.within in let e = n.1.later in let f = n.1.ordered in
        three_of (λ y. (i < y) × (y ≤ fails.end)) holds.start fails.start fails.end (a, omega (arith, b, d)) (e, f) (omega (arith, e, f), omega arith)
    start_within i (Loop tested c test body step) n =
        let a = n.0.later in let b = n.0.ordered in let d = n.0.within in
        let e = n.1.later in let f = n.1.ordered in let g = n.1.within in
        let h = n.2.later in let k = n.2.ordered in
        four_of (λ y. (i < y) × (y ≤ step.end)) test.start body.start step.start step.end (a, omega (arith, b, d)) (e, omega (arith, f, g)) (h, k) (omega (arith, h, k), omega arith)
    start_within i (Call body) n = let a = n.later in let b = n.ordered in two_of (λ y. (i < y) × (y ≤ body.end)) body.start body.end (a, b) (omega (arith, a, b), omega arith)
    start_within i (Leave way) n = one_of (λ y. (i < y) × (y ≤ i + 1)) (i + 1) (omega arith, omega arith)

    none : (i : ℕ) → IsClosed steps i i
    none i = record { ends = λ k step a b at. absurd (omega arith) }

    start_closed : (i : ℕ) (step : Step) → Tiles steps i step → (y : ℕ) → In y (starts i step) → IsClosed steps (i + 1) y
    start_closed i (Compute name ty target sources) h = one_of (λ y. IsClosed steps (i + 1) y) (i + 1) (none (i + 1))
    start_closed i (Branch c holds fails) h = three_of (λ y. IsClosed steps (i + 1) y) holds.start fails.start fails.end h.0 h.1 h.2
    start_closed i (Loop tested c test body step) h = four_of (λ y. IsClosed steps (i + 1) y) test.start body.start step.start step.end h.0 h.1 h.2 h.3
    start_closed i (Call body) h = two_of (λ y. IsClosed steps (i + 1) y) body.start body.end h.0 h.1
    start_closed i (Leave way) h = one_of (λ y. IsClosed steps (i + 1) y) (i + 1) (none (i + 1))

    -- an op after p, and before one of its starts, ends before that
    reaches : (p q y : ℕ) (step next : Step) → slice_get steps p ≡ Some step → slice_get steps q ≡ Some next → In y (starts p step) → p < q → q < y → after q next ≤ y
    reaches p q y step next here there m lt less = (start_closed p step (laid.tiled.each p step here) y m).ends q next (omega arith) less there

    -- the range of an op
    inner_end : (q x n : ℕ) (step : Step) → slice_get steps q ≡ Some step → In x (starts q step) → n ≤ after q step → ((y : ℕ) → In y (starts q step) → x < y → n ≤ y) → MayEnd steps sections x n
    inner_end q x n step is m le own = record {
      bound = let w = laid.within q step is in omega (arith, w, le);
      past = λ p y other there my below above.
          let mine = start_within q step (laid.nested.each q step is) x m in
          let theirs = start_within p other (laid.nested.each p other there) y my in
          ⊎_elim (λ (e : p ≡ q).
          let same : other ≡ step = some_same other step (sym there ∙ ap (slice_get steps) e ∙ is) in
          own y (subst (λ z. In y (starts z step)) e (subst (λ z. In y (starts p z)) same my)) above)
          (λ o. ⊎_elim (λ (lower : p < q). let r = reaches p q y other step there is my lower (let a = mine.0 in omega (arith, a, above)) in omega (arith, r, le))
          (λ (higher : q < p). let r = reaches q p x step other is there m higher below in let a = theirs.1 in absurd (omega (arith, r, a, above))) o)
          (cases_order p q);
      gates = λ j section there lt.
          let mine = start_within q step (laid.nested.each q step is) x m in
          let a = mine.0 in
          let b = laid.before j section q step there is (omega (arith, a, lt)) in
          omega (arith, b, le);
    }

    -- what follows an op is in the range around it
    outer_end : (q n : ℕ) (step : Step) → slice_get steps q ≡ Some step → In (after q step) (starts q step) → MayEnd steps sections q n → MayEnd steps sections (after q step) n
    outer_end q n step is m around = record {
      bound = around.bound;
      past = λ p y other there my below above.
          let mine = start_within q step (laid.nested.each q step is) (after q step) m in
          let theirs = start_within p other (laid.nested.each p other there) y my in
          let a = mine.0 in let b = theirs.1 in
          ⊎_elim (λ (e : p ≡ q).
          let same : other ≡ step = some_same other step (sym there ∙ ap (slice_get steps) e ∙ is) in
          let ends = ap (after p) same ∙ ap (λ z. after z step) e in
          absurd (omega (arith, ends, b, above)))
          (λ o. ⊎_elim (λ (lower : p < q). around.past p y other there my lower (omega (arith, a, above)))
          (λ (higher : q < p). let r = reaches q p (after q step) step other is there m higher below in absurd (omega (arith, r, b, above))) o)
          (cases_order p q);
      gates = λ j section there lt.
          let mine = start_within q step (laid.nested.each q step is) (after q step) m in
          let a = mine.0 in around.gates j section there (omega (arith, a, lt));
    }

    -- what was noted lies after the op at i, and after the range around it
    fixed_after : (i y : ℕ) (step : Step) → slice_get steps i ≡ Some step → Fixed i y → i < y → after i step ≤ y
    fixed_after i y step is fixed lt = ⊎_elim (λ f. reaches f.0 i y f.1 step f.2 is f.4 f.3 lt)
        (λ f. let e = f.3 in let b = laid.before f.0 f.1 i step f.2 is (omega (arith, e, lt)) in omega (arith, e, b)) fixed

    fixed_past : (i y n : ℕ) → MayEnd steps sections i n → Fixed i y → i < y → n ≤ y
    fixed_past i y n may fixed lt = ⊎_elim (λ f. may.past f.0 y f.1 f.2 f.4 f.3 lt) (λ f. let e = f.3 in let b = may.gates f.0 f.1 f.2 (omega (arith, e, lt)) in omega (arith, e, b)) fixed

    -- a step's facts look at its starts alone
    inner_same : (t u : ℕ → Around) (i : ℕ) (step : Step) (a : Around) → ((y : ℕ) → In y (starts i step) → u y ≡ t y) → Inner t i step a → Inner u i step a
    inner_same t u i (Compute name ty target sources) a same h = λ lt. same (i + 1) (inl refl) ∙ h lt
    inner_same t u i (Branch c holds fails) a same h = (λ lt. same holds.start (inl refl) ∙ h.0 lt, λ lt. same fails.start (inr (inl refl)) ∙ h.1 lt, λ lt. same fails.end (inr (inr (inl refl))) ∙ h.2 lt)
    inner_same t u i (Loop tested c test body step) a same h = (
      λ lt. same test.start (inl refl) ∙ h.0 lt,
      λ lt. same body.start (inr (inl refl)) ∙ h.1 lt,
      λ lt. same step.start (inr (inr (inl refl))) ∙ h.2 lt,
      λ lt. same step.end (inr (inr (inr (inl refl)))) ∙ h.3 lt,
    )
    inner_same t u i (Call body) a same h = (λ lt. same body.start (inl refl) ∙ h.0 lt, λ lt. same body.end (inr (inl refl)) ∙ h.1 lt)
    inner_same t u i (Leave way) a same h = λ lt. same (i + 1) (inl refl) ∙ h lt

    -- one place after i is noted: what is known stays
    noted_on : (i x : ℕ) (t u : ℕ → Around) (a : Around) → Noted t u x a → i < x → (x < a.end → MayEnd steps sections x a.end) → (x < a.end → (y : ℕ) → Fixed i y → i < y → x < y) → Walked steps sections i t → Walked steps sections i u
    noted_on i x t u a n later may apart w =
        let free : (y : ℕ) → Fixed i y → u y ≡ t y = λ y fixed. n.same y (λ lt e. ⊎_elim (λ (after_it : i < y). let h = apart lt y fixed after_it in omega (arith, h, e)) (λ (not_after : y ≤ i). omega arith) (cases_lt i y)) in
        record {
          start = λ j section is lt. free section.start (inr (j, section, is, refl)) ∙ w.start j section is lt;
          each = λ q step lt is.
              let same : u q ≡ t q = n.same q (λ less e. omega (arith, e, lt, later)) in
              subst (Inner u q step) (sym same) (inner_same t u q step (t q) (λ y m. free y (inl (q, step, is, lt, m))) (w.each q step lt is));
          ends = λ k. ⊎_elim (λ (e : k ≡ x). ⊎_elim
              (λ (lt : x < a.end). subst (λ z. MayEnd steps sections z (u z).end) (sym e) (subst (λ (z : Around). MayEnd steps sections x z.end) (sym (n.here lt)) (may lt)))
              (λ (past : a.end ≤ x). subst (λ (z : Around). MayEnd steps sections k z.end) (sym (n.same k (λ lt z. omega arith))) (w.ends k))
              (cases_lt x a.end))
              (λ (other : k ≡ x → ⊥). subst (λ (z : Around). MayEnd steps sections k z.end) (sym (n.same k (λ lt. other))) (w.ends k))
              (cases_eq k x);
        }

    one_more : (i : ℕ) (u : ℕ → Around) (step : Step) → slice_get steps i ≡ Some step → Inner u i step (u i) → Walked steps sections i u → Walked steps sections (i + 1) u
    one_more i u step is inner w = record {
      start = w.start;
      each = λ q other lt there. ⊎_elim (λ (lower : q < i). w.each q other lower there)
          (λ (not_lower : i ≤ q).
          let e : i ≡ q = omega (arith, lt, not_lower) in
          let same : step ≡ other = some_same step other (sym is ∙ ap (slice_get steps) e ∙ there) in
          subst (λ z. Inner u z other (u z)) e (subst (λ z. Inner u i z (u i)) same inner)) (cases_lt q i);
      ends = w.ends;
    }

    -- a list in which one more place is noted
    record Stepped (i : ℕ) (table : List Around) (x : ℕ) (a : Around) : Type 0 where
      walked : Walked steps sections i (table_of (noted x a table))
      is_noted : Noted (table_of table) (table_of (noted x a table)) x a
      size : length (noted x a table) ≡ length steps

    length_noted : (x : ℕ) (a : Around) (table : List Around) → length (noted x a table) ≡ length table
    length_noted x a table = ⊎_elim (λ (lt : x < a.end). ap (λ b. length (if b then slice_set table x a else table)) (lt-ltb x a.end lt) ∙ length-set table x a)
        (λ (past : a.end ≤ x). ap (λ b. length (if b then slice_set table x a else table)) (le-ltb x a.end past)) (cases_lt x a.end)

    range_noted : (i x : ℕ) (step : Step) (a : Around) (table : List Around) → slice_get steps i ≡ Some step → In x (starts i step) → a.end ≤ after i step → ((y : ℕ) → In y (starts i step) → x < y → a.end ≤ y)
        → length table ≡ length steps → Walked steps sections i (table_of table) → Stepped i table x a
    range_noted i x step a table is m le own size w =
        let may = inner_end i x a.end step is m le own in
        let bound = may.bound in
        let n = list_noted table x a (omega (arith, bound, size)) in
        let inside = start_within i step (laid.nested.each i step is) x m in
        record {
          walked = noted_on i x (table_of table) (table_of (noted x a table)) a n inside.0 (λ lt. may) (λ lt y fixed above. let h = fixed_after i y step is fixed above in omega (arith, lt, le, h)) w;
          is_noted = n;
          size = length_noted x a table ∙ size;
        }

    rest_noted : (i : ℕ) (step : Step) (a : Around) (table : List Around) → slice_get steps i ≡ Some step → In (after i step) (starts i step) → MayEnd steps sections i a.end
        → length table ≡ length steps → Walked steps sections i (table_of table) → Stepped i table (after i step) a
    rest_noted i step a table is m may size w =
        let bound = may.bound in
        let n = list_noted table (after i step) a (omega (arith, bound, size)) in
        let inside = start_within i step (laid.nested.each i step is) (after i step) m in
        record {
          walked = noted_on i (after i step) (table_of table) (table_of (noted (after i step) a table)) a n inside.0 (λ lt. outer_end i a.end step is m may) (λ lt y fixed above. let h = fixed_past i y a.end may fixed above in omega (arith, lt, h)) w;
          is_noted = n;
          size = length_noted (after i step) a table ∙ size;
        }

    -- a list on which the op at i was noted
    pub record Marked (i : ℕ) (table : List Around) : Type 0 where
      pub walked : Walked steps sections (i + 1) (table_of table)
      pub size : length table ≡ length steps

    one_marked : (i : ℕ) (step : Step) (table : List Around) → slice_get steps i ≡ Some step → after i step ≡ i + 1 → In (after i step) (starts i step)
        → ((u : ℕ → Around) (a : Around) → IsAround u (after i step) a → Inner u i step a) → length table ≡ length steps → Walked steps sections i (table_of table) → Marked i (noted (after i step) (table_of table i) table)
    one_marked i step table is e m inner size w =
        let a = table_of table i in
        let s = rest_noted i step a table is m (w.ends i) size w in
        let u = table_of (noted (after i step) a table) in
        let same : u i ≡ a = s.is_noted.same i (λ lt z. omega (arith, e, z)) in
        record { walked = one_more i u step is (subst (Inner u i step) (sym same) (inner u a s.is_noted.here)) s.walked; size = s.size }

    branch_marked : (i c : ℕ) (holds fails : Span) (table : List Around) → slice_get steps i ≡ Some (Branch c holds fails) → length table ≡ length steps → Walked steps sections i (table_of table) → Marked i (marked i (Branch c holds fails) (table_of table i) table)
    branch_marked i c holds fails table is size w =
        let step = Branch c holds fails in
        let a = table_of table i in
        let n = laid.nested.each i step is in
        let shape = laid.shaped i step is in
        let later = n.0.later in let rise = n.0.ordered in let later2 = n.1.later in let rise2 = n.1.ordered in let within = n.0.within in
        let next = shape.1 in
        let s1 = range_noted i holds.start step (within_branch holds fails a) table is (inl refl) within
        (three_of (λ y. holds.start < y → holds.end ≤ y) holds.start fails.start fails.end (λ lt. omega arith) (λ lt. omega arith) (λ lt. within)) size w in
        let t1 = noted holds.start (within_branch holds fails a) table in
        let s2 = range_noted i fails.start step (within_branch fails fails a) t1 is (inr (inl refl)) (omega arith)
        (three_of (λ y. fails.start < y → fails.end ≤ y) holds.start fails.start fails.end (λ lt. omega arith) (λ lt. omega arith) (λ lt. omega arith)) s1.size s1.walked in
        let t2 = noted fails.start (within_branch fails fails a) t1 in
        let s3 = rest_noted i step a t2 is (inr (inr (inl refl))) (w.ends i) s2.size s2.walked in
        let u = table_of (noted fails.end a t2) in
        let same : u i ≡ a = s3.is_noted.same i (λ lt z. omega arith) ∙ s2.is_noted.same i (λ lt z. omega arith) ∙ s1.is_noted.same i (λ lt z. omega arith) in
        let inner : Inner u i step a = (
          λ lt. s3.is_noted.same holds.start (λ less z. omega arith) ∙ s2.is_noted.same holds.start (λ less z. omega arith) ∙ s1.is_noted.here lt,
          λ lt. s3.is_noted.same fails.start (λ less z. omega arith) ∙ s2.is_noted.here lt,
          λ lt. s3.is_noted.here lt,
        ) in
        record { walked = one_more i u step is (subst (Inner u i step) (sym same) inner) s3.walked; size = s3.size }

    call_marked : (i : ℕ) (body : Span) (table : List Around) → slice_get steps i ≡ Some (Call body) → length table ≡ length steps → Walked steps sections i (table_of table) → Marked i (marked i (Call body) (table_of table i) table)
    call_marked i body table is size w =
        let step = Call body in
        let a = table_of table i in
        let n = laid.nested.each i step is in
        let later = n.later in let rise = n.ordered in
        let s1 = range_noted i body.start step (within_call body a) table is (inl refl) (omega arith)
        (two_of (λ y. body.start < y → body.end ≤ y) body.start body.end (λ lt. omega arith) (λ lt. omega arith)) size w in
        let t1 = noted body.start (within_call body a) table in
        let s2 = rest_noted i step a t1 is (inr (inl refl)) (w.ends i) s1.size s1.walked in
        let u = table_of (noted body.end a t1) in
        let same : u i ≡ a = s2.is_noted.same i (λ lt z. omega arith) ∙ s1.is_noted.same i (λ lt z. omega arith) in
        let inner : Inner u i step a = (
          λ lt. s2.is_noted.same body.start (λ less z. omega arith) ∙ s1.is_noted.here lt,
          λ lt. s2.is_noted.here lt,
        ) in
        record { walked = one_more i u step is (subst (Inner u i step) (sym same) inner) s2.walked; size = s2.size }

    -- the ranges of a loop, in the order in which they lie
    abbrev LoopOrder : Span → Span → Span → Type 0
    LoopOrder test body step = ((test.end ≡ body.start) × (body.end ≡ step.start)) ⊎ ((body.end ≡ test.start) × (test.end ≡ step.start))

    loop_order : (tested : Bool) (i c : ℕ) (test body step : Span) → Shape i (Loop tested c test body step) → LoopOrder test body step
    loop_order true i c test body step h = inl (h.1, h.2)
    loop_order false i c test body step h = inr (h.1, h.2)

    loop_marked : (tested : Bool) (i c : ℕ) (test body step : Span) (table : List Around) → slice_get steps i ≡ Some (Loop tested c test body step) → length table ≡ length steps → Walked steps sections i (table_of table) → LoopOrder test body step
        → Marked i (marked i (Loop tested c test body step) (table_of table i) table)
    loop_marked tested i c test body step table is size w order =
        let it = Loop tested c test body step in
        let a = table_of table i in
        let n = laid.nested.each i it is in
        let later = n.0.later in let rise = n.0.ordered in let later2 = n.1.later in let rise2 = n.1.ordered in let later3 = n.2.later in let rise3 = n.2.ordered in
        let within = n.0.within in let within2 = n.1.within in let within3 = n.2.within in
        let before_body : test.start < test.end → test.start < body.start → test.end ≤ body.start = λ lt less. ⊎_elim (λ h. let e = h.0 in omega (arith, e)) (λ h. let e = h.0 in omega (arith, e)) order in
        let test_step : test.end ≤ step.start = ⊎_elim (λ h. let e = h.0 in let f = h.1 in omega (arith, e, f)) (λ h. let e = h.1 in omega (arith, e)) order in
        let body_step : body.end ≤ step.start = ⊎_elim (λ h. let e = h.1 in omega (arith, e)) (λ h. let e = h.0 in let f = h.1 in omega (arith, e, f)) order in
        let test_body : test.start < body.start → test.end ≤ body.start = λ less. ⊎_elim (λ h. let e = h.0 in omega (arith, e)) (λ h. let e = h.0 in omega (arith, e)) order in
        let body_test : body.start < test.start → body.end ≤ test.start = λ less. ⊎_elim (λ h. let e = h.0 in omega (arith, e)) (λ h. let e = h.0 in omega (arith, e)) order in
        let apart : test.start < test.end → body.start < body.end → test.start ≡ body.start → ⊥ = λ one two z. ⊎_elim (λ h. let e = h.0 in omega (arith, e)) (λ h. let e = h.0 in omega (arith, e)) order in
        let s1 = range_noted i test.start it (within_test i test a) table is (inl refl) within
        (four_of (λ y. test.start < y → test.end ≤ y) test.start body.start step.start step.end (λ lt. omega arith) test_body (λ lt. test_step) (λ lt. within)) size w in
        let t1 = noted test.start (within_test i test a) table in
        let s2 = range_noted i body.start it (within_body i test body step a) t1 is (inr (inl refl)) within2
        (four_of (λ y. body.start < y → body.end ≤ y) test.start body.start step.start step.end body_test (λ lt. omega arith) (λ lt. body_step) (λ lt. within2)) s1.size s1.walked in
        let t2 = noted body.start (within_body i test body step a) t1 in
        let s3 = range_noted i step.start it (within_step i test step a) t2 is (inr (inr (inl refl))) (omega arith)
        (four_of (λ y. step.start < y → step.end ≤ y) test.start body.start step.start step.end (λ lt. omega arith) (λ lt. omega arith) (λ lt. omega arith) (λ lt. omega arith)) s2.size s2.walked in
        let t3 = noted step.start (within_step i test step a) t2 in
        let s4 = rest_noted i it a t3 is (inr (inr (inr (inl refl)))) (w.ends i) s3.size s3.walked in
        let u = table_of (noted step.end a t3) in
        let same : u i ≡ a = s4.is_noted.same i (λ lt z. omega arith) ∙ s3.is_noted.same i (λ lt z. omega arith) ∙ s2.is_noted.same i (λ lt z. omega arith) ∙ s1.is_noted.same i (λ lt z. omega arith) in
        let inner : Inner u i it a = (
          λ lt. s4.is_noted.same test.start (λ less z. omega arith) ∙ s3.is_noted.same test.start (λ less z. omega arith) ∙ s2.is_noted.same test.start (λ less z. apart lt less z) ∙ s1.is_noted.here lt,
          λ lt. s4.is_noted.same body.start (λ less z. omega arith) ∙ s3.is_noted.same body.start (λ less z. omega arith) ∙ s2.is_noted.here lt,
          λ lt. s4.is_noted.same step.start (λ less z. omega arith) ∙ s3.is_noted.here lt,
          λ lt. s4.is_noted.here lt,
        ) in
        record { walked = one_more i u it is (subst (Inner u i it) (sym same) inner) s4.walked; size = s4.size }

    -- one more op is noted
    pub step_marked : (i : ℕ) (step : Step) (table : List Around) → slice_get steps i ≡ Some step → length table ≡ length steps → Walked steps sections i (table_of table) → Marked i (marked i step (table_of table i) table)
    step_marked i (Compute name ty target sources) table is size w = one_marked i (Compute name ty target sources) table is refl (inl refl) (λ u a h. h) size w
    step_marked i (Branch c holds fails) table is size w = branch_marked i c holds fails table is size w
    step_marked i (Loop tested c test body step) table is size w = loop_marked tested i c test body step table is size w (loop_order tested i c test body step (laid.shaped i (Loop tested c test body step) is))
    step_marked i (Call body) table is size w = call_marked i body table is size w
    step_marked i (Leave way) table is size w = one_marked i (Leave way) table is refl (inl refl) (λ u a h. h) size w

    -- ---- sections are noted first

    -- the first j sections are noted
    pub record Begun (j : ℕ) (t : ℕ → Around) : Type 0 where
      pub start : (k : ℕ) (section : Section) → k < j → slice_get sections k ≡ Some section → IsAround t section.start (within_section k section)
      pub ends : (x : ℕ) → MayEnd steps sections x (t x).end

    pub begun_none : (table : List Around) → table ≡ replicate (length steps) nowhere → Begun 0 (table_of table)
    begun_none table e = record {
      start = λ k section lt. absurd (omega arith);
      ends = λ x. subst (λ (z : Around). MayEnd steps sections x z.end) (sym (ap (λ xs. table_of xs x) e ∙ nowhere_all (length steps) x)) (record { bound = omega arith; past = λ p y step is m below above. omega arith; gates = λ j section is lt. omega arith });
    }
      where
        nowhere_all : (n x : ℕ) → table_of (replicate n nowhere) x ≡ nowhere
        nowhere_all n x = ⊎_elim (λ (lt : x < n). get_or-replicate n x nowhere nowhere lt) (λ (past : n ≤ x). get_or_past (replicate n nowhere) x nowhere (let e = length-replicate n nowhere in omega (arith, e))) (cases_lt x n)

    pub section_begun : (j : ℕ) (section : Section) (table : List Around) → slice_get sections j ≡ Some section → length table ≡ length steps → Begun j (table_of table) → Begun (j + 1) (table_of (noted section.start (within_section j section) table))
    section_begun j section table is size b =
        let t = table_of table in
        let u = table_of (noted section.start (within_section j section) table) in
        let bound = laid.ends j section is in
        let n = list_noted table section.start (within_section j section) (omega (arith, bound, size)) in
        let may : MayEnd steps sections section.start section.end = record {
          bound = bound;
          past = λ p y step there m below above.
              let inside = start_within p step (laid.nested.each p step there) y m in
              let le = inside.1 in
              let h = laid.before j section p step is there below in
              absurd (omega (arith, le, h, above));
          gates = λ k other there lt.
              ⊎_elim (λ (e : j ≡ k). let same = ap (λ (z : Section). z.start) (some_same section other (sym is ∙ ap (slice_get sections) e ∙ there)) in absurd (omega (arith, same, lt)))
              (λ o. ⊎_elim (λ (lower : j < k). laid.order j k section other lower is there)
              (λ (higher : k < j). let h = laid.order k j other section higher there is in let r = laid.rises k other there in absurd (omega (arith, h, r, lt))) o)
              (cases_order j k);
        } in
        record {
          start = λ k other lt there. ⊎_elim
              (λ (lower : k < j). λ less.
              let h = laid.order k j other section lower there is in
              n.same other.start (λ le e. omega (arith, h, less, e)) ∙ b.start k other lower there less)
              (λ (not_lower : j ≤ k).
              let e : j ≡ k = omega (arith, lt, not_lower) in
              let same : section ≡ other = some_same section other (sym is ∙ ap (slice_get sections) e ∙ there) in
              subst (λ z. IsAround u other.start (within_section z other)) e (subst (λ (z : Section). IsAround u z.start (within_section j z)) same n.here))
              (cases_lt k j);
          ends = λ k. ⊎_elim (λ (e : k ≡ section.start). ⊎_elim
              (λ (lt : section.start < section.end). subst (λ z. MayEnd steps sections z (u z).end) (sym e) (subst (λ (z : Around). MayEnd steps sections section.start z.end) (sym (n.here lt)) may))
              (λ (past : section.end ≤ section.start). subst (λ (z : Around). MayEnd steps sections k z.end) (sym (n.same k (λ lt z. omega arith))) (b.ends k))
              (cases_lt section.start section.end))
              (λ (other : k ≡ section.start → ⊥). subst (λ (z : Around). MayEnd steps sections k z.end) (sym (n.same k (λ lt. other))) (b.ends k))
              (cases_eq k section.start);
        }

    pub section_size : (j : ℕ) (section : Section) (table : List Around) → length (noted section.start (within_section j section) table) ≡ length table
    section_size j section table = length_noted section.start (within_section j section) table

    pub begun_all : (t : ℕ → Around) → Begun (length sections) t → Walked steps sections 0 t
    begun_all t b = record {
      start = λ j section is. b.start j section (slice_get_within sections j section is) is;
      each = λ q step lt. absurd (omega arith);
      ends = b.ends;
    }

  -- all ops are noted
  pub walked_all : (t : ℕ → Around) → Walked steps sections (length steps) t → Surrounds steps sections t
  walked_all t w = record { start = w.start; each = λ i step is. w.each i step (slice_get_within steps i step is) is }

-- valid code is laid out so
pub valid_laid : (raw : Raw) → IsValid raw → Laid (steps_of raw) raw.sections
valid_laid raw valid =
    let s = valid_sectioned raw valid in
    record {
      nested = valid_nested raw valid;
      tiled = valid_tiled raw valid;
      shaped = shaped raw;
      within = λ i step is.
          let n = length_steps raw.symbols 0 raw.ops in
          let w = slice_get_within (steps_of raw) i step is in
          let l = s.last in
          let h = covered 0 i raw.sections s.chain (omega arith) (omega (arith, n, w, l)) in
          let a = (section_closed raw valid h.place h.section h.is).ends i step h.starts h.ends is in
          let b = section_within raw valid h.place h.section h.is in
          omega (arith, a, b);
      before = before_section raw valid;
      order = λ j k a b lt here there. in_order 0 raw.sections j k a b s.chain lt here there;
      rises = λ j a is. ordered_at 0 raw.sections j a s.chain is;
      ends = section_within raw valid;
    }
