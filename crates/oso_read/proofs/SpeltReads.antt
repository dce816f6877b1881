-- A text that spells a shader is read as that shader.
use Rattle.std.proofs.Common.{codes, ◌≡◌, ℕ, ◌+◌, ◌≤◌, Bool, true, not, ◌&&◌, ◌||◌, List, [], ◌∷◌, ◌++◌, length, map, Option, Some, None, Result, Ok, Err, refl, sym, ap, ◌∙◌, subst, append_assoc, arith}
use Rattle.std.specs.Prelude.{IsTrue, if◌then◌else◌}
use Rattle.std.specs.List.{list_all, flat_map, AllByRecursion}
use Rattle.std.proofs.lemmas.Bool.{and_parts}
use Rattle.oso_code.specs.declared.op.Section.{Section}
use Rattle.oso_code.specs.declared.raw.Raw.{Raw}
use Rattle.oso_code.specs.Faults.{least}
use Rattle.oso_code.specs.Names.{is_name}
use Rattle.oso_code.specs.Ranges.{jumps_fit, steps_of}
use Rattle.oso_code.specs.Sections.{owner_fits}
use Rattle.oso_code.specs.Symbols.{is_empty, datum_fits}
use Rattle.oso_code.specs.Valid.{most_ops, deep_faults, IsValid}
use Rattle.oso_code.proofs.Chained.{valid_section}
use Rattle.oso_code.proofs.Fitting.{all_fit}
use Rattle.osl_valuetext.specs.Words.{Line}
use Rattle.oso_write.specs.Lines.{header, symbol_line, section_name, section_lines}
use Rattle.oso_read.specs.declared.error.OsoKind.TheVariants as kinds
use Rattle.oso_read.specs.Faults.{Fault, fault, ◌>>=◌, at_line}
use Rattle.oso_read.specs.Text.{Numbered, told, line_count}
use Rattle.oso_read.specs.Hints.{saying, said}
use Rattle.oso_read.specs.OpLine.{is_end_line}
use Rattle.oso_read.specs.Spelt.{datum_spells, symbol_spells, Spelt}
use Rattle.oso_read.specs.SymbolLine.{Head}
use Rattle.oso_read.specs.Reading.{Opened, Declared, Body, empty_body, body_line, Filled, filled_from, last_start, sooner, range_fault, in_range, is_ended, says_end, has_main, ended, closed, reading}
use Rattle.oso_read.proofs.LastLine.{end_is_ended}
use Rattle.oso_read.proofs.Limits.{limits}
use Rattle.oso_read.proofs.PlainLines.{EndReads, end_line_reads, code_line_reads}
use Rattle.oso_read.proofs.NameNumbers.{owner_is_name}
use Rattle.oso_read.proofs.ReadValid.{made, closing, filling, declaring}
use Rattle.oso_read.proofs.ReadsSections.{start_of, sections_read, sections_are, main_last, chain}
use Rattle.osl_valuetext.proofs.Alls.{all_at}
use Rattle.oso_read.proofs.ReadsSymbols.{Say, EndsWith, ends_with, said_first, said_rest, none_said, no_more, shader_words, opened_reads, declared_reads, BodyWords}
use Rattle.oso_read.proofs.ReadsSymbols as symbols_read

nothing_deep : (places : List ℕ) → is_empty places ≡ true → places ≡ []
nothing_deep [] h = refl
nothing_deep (p ∷ places) h = absurd (cc h)

-- valid code has no fault of ranges
pub no_range_fault : (raw : Raw) → IsValid raw → range_fault raw ≡ None
unfolding range_fault
no_range_fault raw valid =
    let jumps = all_fit (jumps_fit raw (steps_of raw)) raw.ops valid.jumps in
    let deep = nothing_deep (deep_faults raw) (and_parts _ (is_empty (deep_faults raw)) valid.limits).1 in
    ap (λ places. sooner (least places) (least (deep_faults raw))) jumps ∙ ap (λ places. sooner None (least places)) deep

-- ---- the end

abbrev end_words : Line
end_words = codes "end" ∷ []

module _ (bytes : List ℕ) (raw : Raw) (valid : IsValid raw) (last : Numbered) (finished : is_ended bytes last.number ≡ true) where
  abbrev head : Head
  head = record { kind = raw.kind; name = raw.name; metas = raw.metas }

  abbrev whole_body : List ℕ → Body
  whole_body lines = record { starts = map start_of raw.sections; ops = raw.ops; lines = lines }

  few : length raw.ops ≤ most_ops
  few = (limits raw valid).ops

  made_is : (lines : List ℕ) → made head raw.symbols (whole_body lines) ≡ raw
  made_is lines = ap (λ sections. record raw { sections = sections }) (sections_are last raw valid few)

  end_stops : (body : Body) (l : Numbered) → is_end_line l.line ≡ true → filled_from raw.kind raw.symbols body (l ∷ []) ≡ Ok (record { body = body; rest = l ∷ [] })
  unfolding filled_from
  end_stops body l end =
      let stops : Result Filled Fault = Ok (record { body = body; rest = l ∷ [] }) in
      ap (λ (b : Bool). if b then stops else (at_line l.number (body_line raw.kind raw.symbols body l) >>= λ after. filled_from raw.kind raw.symbols after [])) end

  closed_reads : (lines : List ℕ) (l : Numbered) → says_end (saying l.line) ≡ true → l ≡ last → closed bytes (made head raw.symbols (whole_body lines)) (whole_body lines) (l ∷ []) ≡ Ok raw
  unfolding closed ended
  closed_reads lines l says is =
      let ranges : Raw → Result Raw Fault = λ r. in_range r lines (range_fault r) in
      let all : Result Raw Fault = ranges (made head raw.symbols (whole_body lines)) in
      let wrong : Result (Unit {0}) Fault = Err (fault kinds.Line l.number) in
      let cut : Result (Unit {0}) Fault = Err (fault kinds.Line (line_count bytes + 1)) in
      let done : Result (Unit {0}) Fault = Ok tt in
      let main = has_main (last_start (map start_of raw.sections)) in
      let feed = is_ended bytes l.number in
      ap (λ (b : Bool). (if not (b && main) then wrong else (if feed then done else cut)) >>= λ _. all) says
      ∙ ap (λ (b : Bool). (if not b then wrong else (if feed then done else cut)) >>= λ _. all) (main_last last raw valid few)
      ∙ ap (λ (b : Bool). (if b then done else cut) >>= λ _. all) (ap (λ (k : Numbered). is_ended bytes k.number) is ∙ finished)
      ∙ ap ranges (made_is lines)
      ∙ ap (in_range raw lines) (no_range_fault raw valid)

  -- the last line is `end`, and it is read as such
  record Ends (body : Body) (ls : List Numbered) : Type 0 where
    line : Numbered
    is : ls ≡ line ∷ []
    at : line ≡ last
    end : EndReads line.line

  ends : (body : Body) (ls : List Numbered) → Say last ls (end_words ∷ []) → Ends body ls
  ends body [] h = absurd (none_said last end_words [] h)
  ends body (l ∷ []) h = record { line = l; is = refl; at = h.ends; end = end_line_reads l.line (said_first last l [] end_words [] h) }
  ends body (l ∷ next ∷ ls) h =
      let nothing = no_more last (next ∷ ls) (said_rest last l (next ∷ ls) end_words [] h) in
      absurd (cc nothing)

  -- the lines after symbols begin the body
  body_words : BodyWords (flat_map (section_lines raw) raw.sections ++ end_words ∷ [])
  body_words = by raw.sections (all_at (λ s. owner_fits raw.symbols s.param ≡ true) raw.sections (λ k s is. (valid_section raw valid k s is).owner))
    where
      by : (sections : List Section) → AllByRecursion (λ s. owner_fits raw.symbols s.param ≡ true) sections → BodyWords (flat_map (section_lines raw) sections ++ end_words ∷ [])
      by [] fit = λ l says. (end_line_reads l says).begins
      by (s ∷ sections) fit = λ l says.
          let code = code_line_reads l (section_name raw.symbols s.param) (owner_is_name raw.symbols s.param valid.symbols fit.0) says in
          ap (λ (b : Bool). b || is_end_line l) code.is_code

  read_whole : Say last (told bytes) (header ∷ shader_words head ∷ (map symbol_line raw.symbols ++ (flat_map (section_lines raw) raw.sections ++ end_words ∷ [])))
      → IsTrue (list_all datum_spells raw.metas) → IsTrue (list_all symbol_spells raw.symbols) → reading bytes ≡ Ok raw
  unfolding reading
  read_whole say data_spell symbols_spell =
      let most = limits raw valid in
      let few_symbols = most.symbols in
      let few_slots = most.slots in
      let names = and_parts (is_name raw.name) (list_all datum_fits raw.metas) valid.header in
      let behind = flat_map (section_lines raw) raw.sections ++ end_words ∷ [] in
      let o = opened_reads last (line_count bytes + 1) head (told bytes) (map symbol_line raw.symbols ++ behind) names.0 names.1 data_spell say in
      let fit = symbols_read.all_fit raw.symbols [] valid.symbols (omega (arith, few_symbols)) (omega (arith, few_slots)) symbols_spell in
      let d = declared_reads last raw.symbols [] o.rest behind fit body_words o.says in
      let f = sections_read last raw valid few raw.sections empty_body d.rest (end_words ∷ []) (chain last raw valid few) refl d.says in
      let e = ends (whole_body f.lines) f.rest f.says in
      let opening : Opened = record { head = head; rest = o.rest } in
      let declared : Declared = record { symbols = raw.symbols; rest = d.rest } in
      let stop = f.reads ∙ ap (filled_from raw.kind raw.symbols (whole_body f.lines)) e.is ∙ end_stops (whole_body f.lines) e.line e.end.is_end in
      ap (λ (r : Result Opened Fault). r >>= declaring bytes) o.reads
      ∙ ap (λ (r : Result Declared Fault). r >>= filling bytes opening) d.reads
      ∙ ap (λ (r : Result Filled Fault). r >>= closing bytes opening declared) stop
      ∙ closed_reads f.lines e.line e.end.says e.at

-- ---- the whole

record LastOf (ls : List Numbered) : Type 0 where
  before : List Numbered
  last : Numbered
  is : ls ≡ before ++ last ∷ []

last_line : (l : Numbered) (ls : List Numbered) → LastOf (l ∷ ls)
last_line l [] = record { before = []; last = l; is = refl }
last_line l (next ∷ ls) = let more = last_line next ls in record { before = l ∷ more.before; last = more.last; is = ap (λ (rest : List Numbered). l ∷ rest) more.is }

some_lines : (ls : List Numbered) (w : Line) (ws : List Line) → ◌≡◌ {A = List (Option Line)} (map (λ l. said l.line) ls) (map Some (w ∷ ws)) → LastOf ls
some_lines [] w ws h = absurd (cc h)
some_lines (l ∷ ls) w ws h = last_line l ls

pub spelt_reads : (bytes : List ℕ) (raw : Raw) → Spelt bytes raw → reading bytes ≡ Ok raw
spelt_reads bytes raw spelt =
    let symbols = map symbol_line raw.symbols in
    let sections = flat_map (section_lines raw) raw.sections in
    let head : Head = record { kind = raw.kind; name = raw.name; metas = raw.metas } in
    let parts : (symbols ++ sections) ++ end_words ∷ [] ≡ symbols ++ (sections ++ end_words ∷ []) = append_assoc symbols sections (end_words ∷ []) in
    let says = spelt.says ∙ ap (λ (behind : List Line). map Some (header ∷ shader_words head ∷ behind)) parts in
    let end = some_lines (told bytes) header (shader_words head ∷ (symbols ++ (sections ++ end_words ∷ []))) says in
    let finished = end_is_ended bytes end.before end.last end.is spelt.ended in
    let spells = and_parts (list_all datum_spells raw.metas) (list_all symbol_spells raw.symbols) spelt.texts in
    read_whole bytes raw spelt.valid end.last finished
    (record { says = says; ends = subst (λ (ls : List Numbered). EndsWith end.last ls) (sym end.is) (ends_with end.last end.before) }) spells.0 spells.1
