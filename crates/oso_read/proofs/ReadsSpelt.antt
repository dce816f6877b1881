-- A text that is read as a shader spells it.
use Rattle.std.proofs.Common.{codes, ◌≡◌, ℕ, ◌+◌, Bool, true, false, not, ◌&&◌, List, [], ◌∷◌, ◌++◌, length, map, Option, Some, None, Result, Ok, Err, refl, sym, ap, ◌∙◌, subst, append_assoc}
use Rattle.std.specs.Prelude.{IsTrue, if◌then◌else◌}
use Rattle.std.specs.List.{after_last, list_all}
use Rattle.std.proofs.lemmas.Bool.{and_from}
use Rattle.std.proofs.lemmas.List.{map-append}
use Rattle.oso_code.specs.declared.raw.Raw.{Raw}
use Rattle.oso_code.specs.declared.symbol.Symbol.{Symbol}
use Rattle.osl_valuetext.specs.Words.{Line}
use Rattle.oso_write.specs.Lines.{header, symbol_line, lines_of}
use Rattle.oso_read.specs.declared.error.OsoKind.{OsoKind}
use Rattle.oso_read.specs.declared.error.OsoKind.TheVariants as kinds
use Rattle.oso_read.specs.Faults.{Fault, fault, ◌>>=◌}
use Rattle.oso_read.specs.Text.{Numbered, means, told, line_count}
use Rattle.osl_valuetext.specs.Splitting.{words}
use Rattle.oso_read.specs.Hints.{saying, said}
use Rattle.oso_read.specs.OpLine.{is_end_line}
use Rattle.oso_read.specs.Spelt.{symbol_spells, can_spell, is_line_feed, Spelt}
use Rattle.oso_read.specs.SymbolLine.{Head}
use Rattle.oso_read.specs.Reading.{Opened, opened, Declared, declared_from, Body, empty_body, Filled, filled_from, last_start, sections_of, raw_of, range_fault, in_range, is_ended, says_end, has_main, nothing_behind, ended, closed, reading}
use Rattle.oso_read.proofs.LastLine.{ended_is_end}
use Rattle.oso_read.proofs.Passing.{ok_of, goes_on}
use Rattle.oso_read.proofs.PlainLines.{end_line_says}
use Rattle.oso_read.proofs.ReadValid.{read_is_valid}
use Rattle.oso_read.proofs.SaysBody.{body_lines, EndsBody, FillSays, first_says}
use Rattle.oso_read.proofs.SaysHead.{says, EndsWith, ends_through, head_line, OpenSays, opened_says, DeclareSays, declared_says}
use Rattle.oso_read.proofs.ValidSymbols.{no_symbols, declared_are}

-- ---- the end

-- the one line at the end, with its line feed
record ClosesText (bytes : List ℕ) (ls : List Numbered) : Type 0 where
  last : Numbered
  are : ls ≡ last ∷ []
  says_end : says_end (saying last.line) ≡ true
  feed : is_ended bytes last.number ≡ true

ended_closes : (bytes : List ℕ) (body : Body) (ls : List Numbered) (x : Unit {0}) → ended bytes body ls ≡ Ok x → ClosesText bytes ls
unfolding ended
ended_closes bytes body [] x h = absurd (cc h)
ended_closes bytes body (l ∷ ls) x h = by (says_end (saying l.line)) (has_main (last_start body.starts)) (is_ended bytes l.number) refl refl h
  where
    nothing : (ms : List Numbered) → nothing_behind ms ≡ Ok x → ms ≡ []
    nothing [] e = refl
    nothing (m ∷ ms) e = absurd (cc e)

    by : (a b c : Bool) → says_end (saying l.line) ≡ a → is_ended bytes l.number ≡ c
        → (if not (a && b) then Err (fault kinds.Line l.number) else (if c then nothing_behind ls else Err (fault kinds.Line (line_count bytes + 1)))) ≡ Ok x → ClosesText bytes (l ∷ ls)
    by true true true end feed e = record { last = l; are = ap (λ (ms : List Numbered). l ∷ ms) (nothing ls e); says_end = end; feed = feed }
    by true true false end feed e = absurd (cc e)
    by true false c end feed e = absurd (cc e)
    by false b c end feed e = absurd (cc e)

range_same : (raw : Raw) (lines : List ℕ) (found : Option (OsoKind × ℕ)) (read : Raw) → in_range raw lines found ≡ Ok read → raw ≡ read
range_same raw lines None read h = ok_of raw read h
range_same raw lines (Some f) read h = absurd (cc h)

record Closes (bytes : List ℕ) (raw read : Raw) (ls : List Numbered) : Type 0 where
  same : raw ≡ read
  text : ClosesText bytes ls

closed_says : (bytes : List ℕ) (raw read : Raw) (body : Body) (ls : List Numbered) → closed bytes raw body ls ≡ Ok read → Closes bytes raw read ls
unfolding closed
closed_says bytes raw read body ls h =
    let end = goes_on (ended bytes body ls) (λ _. in_range raw body.lines (range_fault raw)) read h in
    record { same = range_same raw body.lines (range_fault raw) read end.rest; text = ended_closes bytes body ls end.value end.gave }

-- ---- the whole

abbrev made : Head → List Symbol → Body → Raw
made head symbols body = raw_of head symbols (sections_of body.starts (length body.ops)) body.ops

abbrev closing : List ℕ → Opened → Declared → Filled → Result Raw Fault
closing bytes o d f = closed bytes (made o.head d.symbols f.body) f.body f.rest

abbrev filling : List ℕ → Opened → Declared → Result Raw Fault
filling bytes o d = filled_from o.head.kind d.symbols empty_body d.rest >>= closing bytes o d

abbrev declaring : List ℕ → Opened → Result Raw Fault
declaring bytes o = declared_from [] o.rest >>= filling bytes o

abbrev the_end : Line
the_end = codes "end" ∷ []

-- what lines say, one after the other
joined : (symbols body : List Line) (head : Line) (all middle rest last : List (Option Line)) → all ≡ Some header ∷ Some head ∷ middle → middle ≡ map Some symbols ++ rest
    → rest ≡ map Some body ++ last → last ≡ Some the_end ∷ [] → all ≡ map Some (header ∷ head ∷ (symbols ++ body ++ the_end ∷ []))
joined symbols body head all middle rest last a b c d =
    let whole : map Some (symbols ++ body ++ the_end ∷ []) ≡ map Some symbols ++ (map Some body ++ Some the_end ∷ []) =
    map-append Some (symbols ++ body) (the_end ∷ []) ∙ ap (λ (xs : List (Option Line)). xs ++ Some the_end ∷ []) (map-append Some symbols body)
    ∙ append_assoc (map Some symbols) (map Some body) (Some the_end ∷ []) in
    a ∙ ap (λ (xs : List (Option Line)). Some header ∷ Some head ∷ xs)
    (b ∙ ap (λ (xs : List (Option Line)). map Some symbols ++ xs) (c ∙ ap (λ (xs : List (Option Line)). map Some body ++ xs) d) ∙ sym whole)

-- what a text says of which a shader was read
pub record Says (bytes : List ℕ) (raw : Raw) : Type 0 where
  pub texts : IsTrue (can_spell raw)
  pub lines : map (λ (l : Numbered). said l.line) (told bytes) ≡ map Some (lines_of raw)
  pub ended : means (words (after_last is_line_feed bytes)) ≡ false

last_says : (ls : List Numbered) (bytes : List ℕ) → EndsBody ls → ClosesText bytes ls → says ls ≡ Some the_end ∷ []
last_says ls bytes end closes =
    let line : is_end_line closes.last.line ≡ true = subst (λ (ms : List Numbered). EndsBody ms) closes.are end in
    ap says closes.are ∙ ap (λ (o : Option Line). o ∷ []) (end_line_says closes.last.line line closes.says_end)

text_ends : (bytes : List ℕ) (ls : List Numbered) → EndsWith (told bytes) ls → ClosesText bytes ls → means (words (after_last is_line_feed bytes)) ≡ false
text_ends bytes ls ends closes = ended_is_end bytes ends.front closes.last (ends.are ∙ ap (λ (ms : List Numbered). ends.front ++ ms) closes.are) closes.feed

parts_say : (bytes : List ℕ) (raw : Raw) (o : Opened) (d : Declared) (f : Filled) → OpenSays (told bytes) o → DeclareSays [] o.rest d → FillSays o.head.kind d.symbols empty_body d.rest f
    → Closes bytes (made o.head d.symbols f.body) raw f.rest → Says bytes raw
parts_say bytes raw o d f open_says declare_says fill_says closes =
    let symbols : declare_says.more ≡ d.symbols = sym declare_says.symbols in
    let spells : IsTrue (list_all symbol_spells d.symbols) = subst (λ (ss : List Symbol). IsTrue (list_all symbol_spells ss)) symbols declare_says.spells in
    let middle : says o.rest ≡ map Some (map symbol_line d.symbols) ++ says d.rest =
    declare_says.says_it ∙ ap (λ (ss : List Symbol). map Some (map symbol_line ss) ++ says d.rest) symbols in
    let whole = made o.head d.symbols f.body in
    let lines : says (told bytes) ≡ map Some (lines_of whole) =
    joined (map symbol_line d.symbols) (body_lines d.symbols f.body) (head_line o.head) (says (told bytes)) (says o.rest) (says d.rest) (says f.rest)
    open_says.says_it middle fill_says.says_it (last_says f.rest bytes fill_says.end closes.text) in
    let ends = ends_through (told bytes) o.rest f.rest open_says.ends (ends_through o.rest d.rest f.rest declare_says.ends fill_says.ends) in
    let says_it : Says bytes whole =
    record { texts = and_from _ _ open_says.metas spells; lines = lines; ended = text_ends bytes f.rest ends closes.text } in
    subst (λ (r : Raw). Says bytes r) closes.same says_it

pub reads_says : (bytes : List ℕ) (raw : Raw) → reading bytes ≡ Ok raw → Says bytes raw
unfolding reading
reads_says bytes raw h =
    let o = goes_on (opened (line_count bytes + 1) (told bytes)) (declaring bytes) raw h in
    let d = goes_on (declared_from [] o.value.rest) (filling bytes o.value) raw o.rest in
    let f = goes_on (filled_from o.value.head.kind d.value.symbols empty_body d.value.rest) (closing bytes o.value d.value) raw d.rest in
    let open_says = opened_says (line_count bytes + 1) (told bytes) o.value o.gave in
    let declare_says = declared_says [] o.value.rest d.value d.gave in
    let are = declared_are [] o.value.rest d.value no_symbols d.gave in
    let fill_says = first_says o.value.head.kind d.value.symbols d.value.rest f.value are.rest f.gave in
    let closes = closed_says bytes (made o.value.head d.value.symbols f.value.body) raw f.value.body f.value.rest f.rest in
    parts_say bytes raw o.value d.value f.value open_says declare_says fill_says closes

pub read_can_spell : (bytes : List ℕ) (raw : Raw) → reading bytes ≡ Ok raw → IsTrue (can_spell raw)
read_can_spell bytes raw h = (reads_says bytes raw h).texts

-- what is read of a text is what it spells
pub reads_spelt : (bytes : List ℕ) (raw : Raw) → reading bytes ≡ Ok raw → Spelt bytes raw
reads_spelt bytes raw h =
    let is = reads_says bytes raw h in
    record { valid = read_is_valid bytes raw h; texts = is.texts; says = is.lines; ended = is.ended }
