-- Lines that say the lines of a shader up to its symbols: what is read of them.
use Rattle.std.proofs.Common.{◌≡◌, ℕ, suc, ◌+◌, ◌≤◌, Bool, true, not, List, [], ◌∷◌, ◌++◌, length, map, take, Option, Some, Result, Ok, Err, refl, sym, ap, ◌∙◌, subst, append_assoc, append-nil, arith}
use Rattle.std.specs.Prelude.{IsTrue, if◌then◌else◌, nat_le, nat_lt, slice_get}
use Rattle.std.specs.List.{list_all}
use Rattle.std.specs.Option.{ok_or}
use Rattle.std.proofs.lemmas.Bool.{and_parts, and_from, lt-ltb, le-leb}
use Rattle.std.proofs.lemmas.List.{length-append}
use Rattle.osl_value.specs.Types.{slot_count}
use Rattle.oso_code.specs.declared.symbol.Symbol.{Symbol}
use Rattle.oso_code.specs.Names.{is_name}
use Rattle.oso_code.specs.Symbols.{are_parameters, datum_fits, fits_behind, is_taken, symbol_fits}
use Rattle.oso_code.specs.Valid.{most_symbols, most_slots, slots_of}
use Rattle.osl_valuetext.specs.Words.{Line}
use Rattle.oso_write.specs.Lines.{header, meta_text, symbol_line}
use Rattle.oso_write.specs.Names.{kind_name}
use Rattle.oso_read.specs.declared.error.OsoKind.{OsoKind}
use Rattle.oso_read.specs.declared.error.OsoKind.TheVariants as kinds
use Rattle.oso_read.specs.Faults.{Fault, fault, ◌>>=◌, at_line, holding}
use Rattle.oso_read.specs.Text.{Numbered}
use Rattle.oso_read.specs.Hints.{Saying, saying, said}
use Rattle.oso_read.specs.Spelt.{datum_spells, symbol_spells}
use Rattle.oso_read.specs.SymbolLine.{Head, head_at, symbol_at}
use Rattle.oso_read.specs.SymbolNames.{has_room}
use Rattle.oso_read.specs.Reading.{heard, headed, named_from, Opened, opened, added, symbol_added, Declared, begins_body, declared_from}
use Rattle.oso_read.proofs.DataLines.{head_line_reads, symbol_line_reads}
use Rattle.oso_read.proofs.PlainLines.{header_line_reads}
use Rattle.oso_read.proofs.ValidSymbols.{slots_more}

-- ---- lines that say these, up to a last one

-- the last of the lines, if there are any
abbrev pub EndsWith : Numbered → List Numbered → Type 0
EndsWith last [] = Unit {0}
EndsWith last (l ∷ []) = l ≡ last
EndsWith last (l ∷ next ∷ ls) = EndsWith last (next ∷ ls)

pub ends_with : (last : Numbered) (before : List Numbered) → EndsWith last (before ++ last ∷ [])
ends_with last [] = refl
ends_with last (l ∷ []) = refl
ends_with last (l ∷ next ∷ before) = ends_with last (next ∷ before)

ends_rest : (last l : Numbered) (ls : List Numbered) → EndsWith last (l ∷ ls) → EndsWith last ls
ends_rest last l [] ends = tt
ends_rest last l (next ∷ ls) ends = ends

pub record Say (last : Numbered) (ls : List Numbered) (ws : List Line) : Type 0 where
  pub says : ◌≡◌ {A = List (Option Line)} (map (λ l. said l.line) ls) (map Some ws)
  pub ends : EndsWith last ls

pub said_first : (last : Numbered) (l : Numbered) (ls : List Numbered) (w : Line) (ws : List Line) → Say last (l ∷ ls) (w ∷ ws) → said l.line ≡ Some w
said_first last l ls w ws h = let says = h.says in cc says

pub said_rest : (last : Numbered) (l : Numbered) (ls : List Numbered) (w : Line) (ws : List Line) → Say last (l ∷ ls) (w ∷ ws) → Say last ls ws
said_rest last l ls w ws h = let says = h.says in record { says = cc says; ends = ends_rest last l ls h.ends }

pub none_said : (last : Numbered) (w : Line) (ws : List Line) → Say last [] (w ∷ ws) → ⊥
none_said last w ws h = let says = h.says in cc says

pub no_more : (last : Numbered) (ls : List Numbered) → Say last ls [] → ls ≡ []
no_more last [] h = refl
no_more last (l ∷ ls) h = let says = h.says in absurd (cc says)

-- ---- the first two lines

pub record OpenReads (last : Numbered) (end : ℕ) (head : Head) (ls : List Numbered) (ws : List Line) : Type 0 where
  pub rest : List Numbered
  pub reads : opened end ls ≡ Ok (record { head = head; rest = rest })
  pub says : Say last rest ws

abbrev pub shader_words : Head → Line
shader_words head = kind_name head.kind ∷ head.name ∷ map meta_text head.metas

pub opened_reads : (last : Numbered) (end : ℕ) (head : Head) (ls : List Numbered) (ws : List Line)
    → IsTrue (is_name head.name) → IsTrue (list_all datum_fits head.metas) → IsTrue (list_all datum_spells head.metas)
    → Say last ls (header ∷ shader_words head ∷ ws) → OpenReads last end head ls ws
unfolding opened headed named_from
opened_reads last end head [] ws name fit spell h = absurd (none_said last header (shader_words head ∷ ws) h)
opened_reads last end head (first ∷ []) ws name fit spell h =
    absurd (none_said last (shader_words head) ws (said_rest last first [] header (shader_words head ∷ ws) h))
opened_reads last end head (first ∷ second ∷ rest) ws name fit spell h =
    let more = said_rest last first (second ∷ rest) header (shader_words head ∷ ws) h in
    let reads = head_line_reads second.line head.kind head.name head.metas name fit spell (said_first last second rest (shader_words head) ws more) in
    let make : Saying → Result Head OsoKind = λ s. ok_or (head_at s) kinds.Header in
    let behind : Head → Result Opened Fault = λ head. Ok (record { head = head; rest = rest }) in
    let titled : Bool → Result (List Numbered) Fault = λ b. if b then Ok (second ∷ rest) else Err (fault kinds.Header first.number) in
    record {
      rest = rest;
      reads =
          ap (λ (b : Bool). titled b >>= named_from end) (header_line_reads first.line (said_first last first (second ∷ rest) header (shader_words head ∷ ws) h))
          ∙ ap (λ (o : Option Saying). at_line second.number (heard kinds.Header make o) >>= behind) reads.1
          ∙ ap (λ (o : Option Head). at_line second.number (ok_or o kinds.Header) >>= behind) reads.2;
      says = said_rest last second rest (shader_words head) ws more;
    }

-- ---- symbols

-- each fits after those before it, with room, and has a text
abbrev pub AllFit : List Symbol → List Symbol → Type 0
AllFit before [] = Unit {0}
AllFit before (s ∷ symbols) = IsTrue (fits_behind before s) × IsTrue (has_room before s.ty) × IsTrue (symbol_spells s) × AllFit (before ++ s ∷ []) symbols

pub all_fit : (symbols before : List Symbol) → ((k : ℕ) (s : Symbol) → slice_get symbols k ≡ Some s → IsTrue (fits_behind (before ++ take k symbols) s))
    → length before + length symbols ≤ most_symbols → slots_of before + slots_of symbols ≤ most_slots → IsTrue (list_all symbol_spells symbols) → AllFit before symbols
all_fit [] before fit few small spell = tt
all_fit (s ∷ symbols) before fit few small spell =
    let spells = and_parts (symbol_spells s) (list_all symbol_spells symbols) spell in
    let len = length-append before (s ∷ []) in
    let slots = slots_more before s in (
      subst (λ (front : List Symbol). IsTrue (fits_behind front s)) (append-nil before) (fit 0 s refl),
      and_from (nat_lt (length before) most_symbols) (nat_le (slots_of before + slot_count s.ty) most_slots)
          (lt-ltb (length before) most_symbols (omega (arith, few))) (le-leb (slots_of before + slot_count s.ty) most_slots (omega (arith, small))),
      spells.0,
      all_fit symbols (before ++ s ∷ [])
          (λ k t is. subst (λ (front : List Symbol). IsTrue (fits_behind front t)) (sym (append_assoc before (s ∷ []) (take k symbols))) (fit (suc k) t is))
          (omega (arith, few, len)) (omega (arith, small, slots)) spells.1,
    )

-- a line that says the first of these begins the body
abbrev pub BodyWords : List Line → Type 0
BodyWords [] = Unit {0}
BodyWords (w ∷ ws) = (l : Line) → said l ≡ Some w → begins_body l ≡ true

pub record DeclareReads (last : Numbered) (before symbols : List Symbol) (ls : List Numbered) (ws : List Line) : Type 0 where
  pub rest : List Numbered
  pub reads : declared_from before ls ≡ Ok (record { symbols = before ++ symbols; rest = rest })
  pub says : Say last rest ws

line_added : (before : List Symbol) (s : Symbol) (heard_line : Saying) → symbol_at heard_line ≡ Some s → IsTrue (fits_behind before s) → IsTrue (has_room before s.ty) → symbol_added before heard_line ≡ Ok (before ++ s ∷ [])
unfolding symbol_added
line_added before s heard_line is fits room =
    ap (λ (o : Option Symbol). ok_or o kinds.Line >>= added before) is
    ∙ ap (λ (b : Bool). holding b kinds.Symbol s >>= λ t. holding (has_room before t.ty) kinds.Limit (before ++ t ∷ [])) fits
    ∙ ap (λ (b : Bool). holding b kinds.Limit (before ++ s ∷ [])) room

pub declared_reads : (last : Numbered) (symbols before : List Symbol) (ls : List Numbered) (ws : List Line)
    → AllFit before symbols → BodyWords ws → Say last ls (map symbol_line symbols ++ ws) → DeclareReads last before symbols ls ws
unfolding declared_from
declared_reads last [] before [] ws fit body h =
    record { rest = []; reads = ap (λ (all : List Symbol). Ok (record { symbols = all; rest = [] })) (sym (append-nil before)); says = h }
declared_reads last [] before (l ∷ ls) [] fit body h = let says = h.says in absurd (cc says)
declared_reads last [] before (l ∷ ls) (w ∷ ws) fit body h =
    let line_read = at_line l.number (heard kinds.Line (symbol_added before) (saying l.line)) in
    let stops : Result Declared Fault = Ok (record { symbols = before; rest = l ∷ ls }) in
    record {
      rest = l ∷ ls;
      reads =
          ap (λ (b : Bool). if b then stops else (line_read >>= λ symbols. declared_from symbols ls)) (body l.line (said_first last l ls w ws h))
          ∙ ap (λ (all : List Symbol). Ok (record { symbols = all; rest = l ∷ ls })) (sym (append-nil before));
      says = h;
    }
declared_reads last (s ∷ symbols) before [] ws fit body h = absurd (none_said last (symbol_line s) (map symbol_line symbols ++ ws) h)
declared_reads last (s ∷ symbols) before (l ∷ ls) ws fit body h =
    let line = symbol_line_reads l.line (are_parameters before) s (and_parts (symbol_fits (are_parameters before) s) (not (is_taken before s.name)) fit.0).0 fit.2 (said_first last l ls (symbol_line s) (map symbol_line symbols ++ ws) h) in
    let more = declared_reads last symbols (before ++ s ∷ []) ls ws fit.3 body (said_rest last l ls (symbol_line s) (map symbol_line symbols ++ ws) h) in
    let line_read = at_line l.number (heard kinds.Line (symbol_added before) (saying l.line)) in
    let stops : Result Declared Fault = Ok (record { symbols = before; rest = l ∷ ls }) in
    let behind : List Symbol → Result Declared Fault = λ symbols. declared_from symbols ls in
    record {
      rest = more.rest;
      reads =
          ap (λ (b : Bool). if b then stops else (line_read >>= behind)) line.3
          ∙ ap (λ (o : Option Saying). at_line l.number (heard kinds.Line (symbol_added before) o) >>= behind) line.1
          ∙ ap (λ (r : Result (List Symbol) OsoKind). at_line l.number r >>= behind) (line_added before s line.0 line.2 fit.0 fit.1)
          ∙ more.reads
          ∙ ap (λ (all : List Symbol). Ok (record { symbols = all; rest = more.rest })) (append_assoc before (s ∷ []) symbols);
      says = more.says;
    }
