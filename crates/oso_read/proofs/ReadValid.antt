-- What is read of a text is valid code.
use Rattle.std.proofs.Common.{◌≡◌, ℕ, ◌+◌, ◌≤◌, Bool, true, false, not, ◌&&◌, ◌⊎◌, ⊎_elim, List, [], ◌∷◌, length, Option, Some, None, Result, Ok, Err, refl, sym, ap, ◌∙◌, subst}
use Rattle.std.specs.Prelude.{IsTrue, if◌then◌else◌, nat_le}
use Rattle.std.specs.Option.{ok_or}
use Rattle.std.proofs.lemmas.Bool.{and_from, le-leb}
use Rattle.std.proofs.lemmas.Option.{slice_get_within}
use Rattle.oso_code.specs.declared.raw.Raw.{Raw}
use Rattle.oso_code.specs.declared.symbol.Symbol.{Symbol}
use Rattle.oso_code.specs.Faults.{least}
use Rattle.oso_code.specs.Names.{is_name}
use Rattle.oso_code.specs.Ops.{owner_at, op_fits}
use Rattle.oso_code.specs.Ranges.{jumps_fit, jump_faults, steps_of}
use Rattle.oso_code.specs.Sections.{section_faults}
use Rattle.oso_code.specs.Symbols.{is_empty, datum_fits}
use Rattle.oso_code.specs.Valid.{most_symbols, most_ops, most_slots, slots_of, deep_faults, fits_limits, first_flaw, IsValid}
use Rattle.oso_code.proofs.Fitting.{least_none, each_fits}
use Rattle.oso_code.proofs.Validity.{valid_flawless}
use Rattle.std.specs.List.{list_all}
use Rattle.oso_read.specs.declared.error.OsoKind.{OsoKind}
use Rattle.oso_read.specs.declared.error.OsoKind.TheVariants as kinds
use Rattle.oso_read.specs.Faults.{Fault, fault, ◌>>=◌, at_line}
use Rattle.oso_read.specs.Text.{Numbered, told, line_count}
use Rattle.oso_read.specs.Hints.{Saying, saying}
use Rattle.oso_read.specs.SymbolLine.{Head, head_at}
use Rattle.oso_read.specs.Reading.{heard, headed, named_from, Opened, opened, Declared, declared_from, Body, empty_body, Filled, filled_from, last_start, sections_of, raw_of, sooner, range_fault, in_range, is_ended, says_end, has_main, nothing_behind, ended, closed, reading}
use Rattle.oso_read.proofs.Passing.{ok_of, goes_on, line_gave, hears, some_from_ok}
use Rattle.oso_read.proofs.ValidBody.{IsFilled, filled_first}
use Rattle.oso_read.proofs.ValidHead.{HeadFits, head_fits}
use Rattle.oso_read.proofs.ValidSections.{last_is, sections_none, owner_there}
use Rattle.oso_read.proofs.ValidSymbols.{AreSymbols, no_symbols, declared_are}

-- ---- the first two lines

named_fits : (end : ℕ) (ls : List Numbered) (o : Opened) → named_from end ls ≡ Ok o → HeadFits o.head
unfolding named_from
named_fits end [] o h = absurd (cc h)
named_fits end (l ∷ ls) o h =
    let make : Saying → Result Head OsoKind = λ s. ok_or (head_at s) kinds.Header in
    let read = goes_on (at_line l.number (heard kinds.Header make (saying l.line))) (λ head. Ok (record { head = head; rest = ls })) o h in
    let made = hears kinds.Header make (saying l.line) read.value (line_gave l.number (heard kinds.Header make (saying l.line)) read.value read.gave) in
    let fits = head_fits made.saying read.value (some_from_ok (head_at made.saying) kinds.Header read.value made.made) in
    subst (λ (x : Opened). HeadFits x.head) (ok_of (record { head = read.value; rest = ls }) o read.rest) fits

opened_fits : (end : ℕ) (ls : List Numbered) (o : Opened) → opened end ls ≡ Ok o → HeadFits o.head
unfolding opened
opened_fits end ls o h =
    let behind = goes_on (headed end ls) (named_from end) o h in
    named_fits end behind.value o behind.rest

-- ---- the end

ended_main : (bytes : List ℕ) (body : Body) (ls : List Numbered) (x : Unit {0}) → ended bytes body ls ≡ Ok x → IsTrue (has_main (last_start body.starts))
unfolding ended
ended_main bytes body [] x h = absurd (cc h)
ended_main bytes body (l ∷ ls) x h = by (says_end (saying l.line)) (has_main (last_start body.starts)) h
  where
    behind : Result (Unit {0}) Fault
    behind = if is_ended bytes l.number then nothing_behind ls else Err (fault kinds.Line (line_count bytes + 1))

    by : (a b : Bool) → (if not (a && b) then Err (fault kinds.Line l.number) else behind) ≡ Ok x → IsTrue b
    by true true e = refl
    by true false e = absurd (cc e)
    by false b e = absurd (cc e)

no_range_fault : (raw : Raw) (lines : List ℕ) (found : Option (OsoKind × ℕ)) (read : Raw) → in_range raw lines found ≡ Ok read → (raw ≡ read) × (found ≡ None)
no_range_fault raw lines None read h = (ok_of raw read h, refl)
no_range_fault raw lines (Some f) read h = absurd (cc h)

-- no jump is at fault, and no range nests too deep
neither : (jump deep : Option ℕ) → sooner jump deep ≡ None → (jump ≡ None) × (deep ≡ None)
neither None None h = (refl, refl)
neither (Some j) None h = absurd (cc h)
neither None (Some d) h = absurd (cc h)
neither (Some j) (Some d) h = by (nat_le j d) h
  where
    at_jump : Option (OsoKind × ℕ)
    at_jump = Some (kinds.Jump, j)

    too_deep : Option (OsoKind × ℕ)
    too_deep = Some (kinds.Limit, d)

    by : (b : Bool) → (if b then at_jump else too_deep) ≡ None → (Some j ≡ None) × (Some d ≡ None)
    by true e = absurd (cc e)
    by false e = absurd (cc e)

ranges_fit : (raw : Raw) → range_fault raw ≡ None → (jump_faults raw ≡ []) × (deep_faults raw ≡ [])
unfolding range_fault
ranges_fit raw h =
    let none = neither (least (jump_faults raw)) (least (deep_faults raw)) h in
    (least_none (jump_faults raw) none.0, least_none (deep_faults raw) none.1)

-- ---- the whole

abbrev pub made : Head → List Symbol → Body → Raw
made head symbols body = raw_of head symbols (sections_of body.starts (length body.ops)) body.ops

limits_fit : (raw : Raw) → AreSymbols raw.symbols → length raw.ops ≤ most_ops → deep_faults raw ≡ [] → IsTrue (fits_limits raw)
limits_fit raw are few none =
    let symbols = nat_le (length raw.symbols) most_symbols in
    let ops = nat_le (length raw.ops) most_ops in
    let slots = nat_le (slots_of raw.symbols) most_slots in
    and_from ((symbols && ops) && slots) (is_empty (deep_faults raw))
    (and_from (symbols && ops) slots
    (and_from symbols ops (le-leb (length raw.symbols) most_symbols are.few) (le-leb (length raw.ops) most_ops few))
    (le-leb (slots_of raw.symbols) most_slots are.small))
    (ap is_empty none)

all_valid : (head : Head) (symbols : List Symbol) (body : Body) → HeadFits head → AreSymbols symbols → IsFilled head.kind symbols body
    → IsTrue (has_main (last_start body.starts)) → range_fault (made head symbols body) ≡ None → IsValid (made head symbols body)
all_valid head symbols body fits are filled main none =
    let raw = made head symbols body in
    let ranges = ranges_fit raw none in
    let end = length body.ops in
    let starts = ap (λ starts. sections_of starts end) filled.starts in
    let last = subst (λ start. IsTrue (has_main start)) (ap last_start filled.starts ∙ last_is filled.first filled.later) main in
    record {
      header = and_from (is_name head.name) (list_all datum_fits head.metas) fits.name fits.metas;
      symbols = are.fit;
      ops = λ k op is.
          subst (λ owner. IsTrue (op_fits head.kind symbols owner op))
          (sym (ap (λ sections. owner_at sections k) starts ∙ owner_there filled.first filled.later end k (slice_get_within body.ops k op is)))
          (filled.ops k op is);
      sections = ap (section_faults raw) starts ∙ sections_none raw filled.first filled.later filled.at_start filled.rises last;
      jumps = each_fits (jumps_fit raw (steps_of raw)) body.ops ranges.0;
      limits = limits_fit raw are filled.few ranges.1;
    }

-- what is read up to `end`, and after it
abbrev pub closing : List ℕ → Opened → Declared → Filled → Result Raw Fault
closing bytes o d f = closed bytes (made o.head d.symbols f.body) f.body f.rest

abbrev pub filling : List ℕ → Opened → Declared → Result Raw Fault
filling bytes o d = filled_from o.head.kind d.symbols empty_body d.rest >>= closing bytes o d

abbrev pub declaring : List ℕ → Opened → Result Raw Fault
declaring bytes o = declared_from [] o.rest >>= filling bytes o

closed_valid : (bytes : List ℕ) (head : Head) (symbols : List Symbol) (body : Body) (ls : List Numbered) (raw : Raw)
    → HeadFits head → AreSymbols symbols → IsFilled head.kind symbols body ⊎ (body.starts ≡ []) → closed bytes (made head symbols body) body ls ≡ Ok raw → IsValid raw
unfolding closed
closed_valid bytes head symbols body ls raw fits are filled h =
    let end = goes_on (ended bytes body ls) (λ _. in_range (made head symbols body) body.lines (range_fault (made head symbols body))) raw h in
    let main = ended_main bytes body ls end.value end.gave in
    let range = no_range_fault (made head symbols body) body.lines (range_fault (made head symbols body)) raw end.rest in
    ⊎_elim
    (λ (some : IsFilled head.kind symbols body). subst IsValid range.0 (all_valid head symbols body fits are some main range.1))
    (λ (none : body.starts ≡ []). absurd (no_main (subst (λ starts. IsTrue (has_main (last_start starts))) none main)))
    filled
  where
    no_main : IsTrue false → ⊥
    no_main e = cc e

pub read_is_valid : (bytes : List ℕ) (raw : Raw) → reading bytes ≡ Ok raw → IsValid raw
unfolding reading
read_is_valid bytes raw h =
    let o = goes_on (opened (line_count bytes + 1) (told bytes)) (declaring bytes) raw h in
    let d = goes_on (declared_from [] o.value.rest) (filling bytes o.value) raw o.rest in
    let f = goes_on (filled_from o.value.head.kind d.value.symbols empty_body d.value.rest) (closing bytes o.value d.value) raw d.rest in
    let fits = opened_fits (line_count bytes + 1) (told bytes) o.value o.gave in
    let are = declared_are [] o.value.rest d.value no_symbols d.gave in
    let filled = filled_first o.value.head.kind d.value.symbols d.value.rest f.value are.rest f.gave in
    closed_valid bytes o.value.head d.value.symbols f.value.body f.value.rest raw fits are.symbols filled f.rest

-- it has no flaw
pub read_is_flawless : (bytes : List ℕ) (raw : Raw) → reading bytes ≡ Ok raw → first_flaw raw ≡ None
read_is_flawless bytes raw h = valid_flawless raw (read_is_valid bytes raw h)
