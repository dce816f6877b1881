-- What was read up to the symbols: the lines say the lines that are written of it.
use Rattle.std.proofs.Common.{◌≡◌, ℕ, Bool, true, false, List, [], ◌∷◌, ◌++◌, map, Option, Some, Result, Ok, Err, refl, sym, ap, ◌∙◌, subst, append_assoc, append-nil}
use Rattle.std.specs.Prelude.{IsTrue, if◌then◌else◌}
use Rattle.std.specs.List.{list_all}
use Rattle.std.specs.Option.{ok_or}
use Rattle.std.proofs.lemmas.Bool.{and_from}
use Rattle.oso_code.specs.declared.symbol.Symbol.{Symbol}
use Rattle.oso_code.specs.Symbols.{fits_behind}
use Rattle.osl_valuetext.specs.Words.{Line}
use Rattle.oso_write.specs.Lines.{header, meta_text, symbol_line}
use Rattle.oso_write.specs.Names.{kind_name}
use Rattle.oso_read.specs.declared.error.OsoKind.{OsoKind}
use Rattle.oso_read.specs.declared.error.OsoKind.TheVariants as kinds
use Rattle.oso_read.specs.Faults.{fault, ◌>>=◌, at_line, holding}
use Rattle.oso_read.specs.Text.{Numbered}
use Rattle.oso_read.specs.Hints.{Saying, saying, said}
use Rattle.oso_read.specs.Spelt.{datum_spells, symbol_spells}
use Rattle.oso_read.specs.SymbolLine.{Head, head_at, symbol_at}
use Rattle.oso_read.specs.SymbolNames.{has_room}
use Rattle.oso_read.specs.Reading.{heard, says_header, headed, named_from, Opened, opened, added, symbol_added, Declared, begins_body, declared_from}
use Rattle.oso_read.proofs.DataLines.{head_line_says, symbol_line_says}
use Rattle.oso_read.proofs.Passing.{ok_of, goes_on, line_gave, hears, some_from_ok, holds}
use Rattle.oso_read.proofs.PlainLines.{header_line_says}

-- what each line says
abbrev pub says : List Numbered → List (Option Line)
says ls = map (λ (l : Numbered). said l.line) ls

-- lines, of which the last are these
pub record EndsWith (ls rest : List Numbered) : Type 0 where
  pub front : List Numbered
  pub are : ls ≡ front ++ rest

pub ends_itself : (ls : List Numbered) → EndsWith ls ls
ends_itself ls = record { front = []; are = refl }

pub ends_later : (l : Numbered) (ls rest : List Numbered) → EndsWith ls rest → EndsWith (l ∷ ls) rest
ends_later l ls rest ends = record { front = l ∷ ends.front; are = ap (λ (ms : List Numbered). l ∷ ms) ends.are }

pub ends_through : (ls middle rest : List Numbered) → EndsWith ls middle → EndsWith middle rest → EndsWith ls rest
ends_through ls middle rest a b =
    record { front = a.front ++ b.front; are = a.are ∙ ap (λ (ms : List Numbered). a.front ++ ms) b.are ∙ sym (append_assoc a.front b.front rest) }

-- ---- the first two lines

record HeadSays (ls rest : List Numbered) : Type 0 where
  says_it : says ls ≡ Some header ∷ says rest
  ends : EndsWith ls rest

headed_says : (end : ℕ) (ls rest : List Numbered) → headed end ls ≡ Ok rest → HeadSays ls rest
unfolding headed
headed_says end [] rest h = absurd (cc h)
headed_says end (l ∷ ls) rest h = by (says_header (saying l.line)) refl h
  where
    by : (b : Bool) → says_header (saying l.line) ≡ b → (if b then Ok ls else Err (fault kinds.Header l.number)) ≡ Ok rest → HeadSays (l ∷ ls) rest
    by true is e =
        let same : ls ≡ rest = ok_of ls rest e in
        let made : HeadSays (l ∷ ls) ls =
        record { says_it = ap (λ (o : Option Line). o ∷ says ls) (header_line_says l.line is); ends = ends_later l ls ls (ends_itself ls) } in
        subst (λ (ms : List Numbered). HeadSays (l ∷ ls) ms) same made
    by false is e = absurd (cc e)

-- the line of a kind and a name with metadata
abbrev pub head_line : Head → Line
head_line head = kind_name head.kind ∷ head.name ∷ map meta_text head.metas

record NameSays (ls : List Numbered) (o : Opened) : Type 0 where
  says_it : says ls ≡ Some (head_line o.head) ∷ says o.rest
  metas : IsTrue (list_all datum_spells o.head.metas)
  ends : EndsWith ls o.rest

named_says : (end : ℕ) (ls : List Numbered) (o : Opened) → named_from end ls ≡ Ok o → NameSays ls o
unfolding named_from
named_says end [] o h = absurd (cc h)
named_says end (l ∷ ls) o h =
    let make : Saying → Result Head OsoKind = λ s. ok_or (head_at s) kinds.Header in
    let read = goes_on (at_line l.number (heard kinds.Header make (saying l.line))) (λ head. Ok (record { head = head; rest = ls })) o h in
    let made = hears kinds.Header make (saying l.line) read.value (line_gave l.number (heard kinds.Header make (saying l.line)) read.value read.gave) in
    let line = head_line_says l.line made.saying read.value made.says (some_from_ok (head_at made.saying) kinds.Header read.value made.made) in
    let opening : Opened = record { head = read.value; rest = ls } in
    let whole : NameSays (l ∷ ls) opening =
    record { says_it = ap (λ (x : Option Line). x ∷ says ls) line.0; metas = line.1; ends = ends_later l ls ls (ends_itself ls) } in
    subst (λ (x : Opened). NameSays (l ∷ ls) x) (ok_of opening o read.rest) whole

pub record OpenSays (ls : List Numbered) (o : Opened) : Type 0 where
  pub says_it : says ls ≡ Some header ∷ Some (head_line o.head) ∷ says o.rest
  pub metas : IsTrue (list_all datum_spells o.head.metas)
  pub ends : EndsWith ls o.rest

pub opened_says : (end : ℕ) (ls : List Numbered) (o : Opened) → opened end ls ≡ Ok o → OpenSays ls o
unfolding opened
opened_says end ls o h =
    let behind = goes_on (headed end ls) (named_from end) o h in
    let first = headed_says end ls behind.value behind.gave in
    let second = named_says end behind.value o behind.rest in
    record {
      says_it = first.says_it ∙ ap (λ (xs : List (Option Line)). Some header ∷ xs) second.says_it;
      metas = second.metas;
      ends = ends_through ls behind.value o.rest first.ends second.ends;
    }

-- ---- symbols

pub record DeclareSays (before : List Symbol) (ls : List Numbered) (d : Declared) : Type 0 where
  pub more : List Symbol
  pub symbols : d.symbols ≡ before ++ more
  pub says_it : says ls ≡ map Some (map symbol_line more) ++ says d.rest
  pub spells : IsTrue (list_all symbol_spells more)
  pub ends : EndsWith ls d.rest

none_declared : (before : List Symbol) (ls : List Numbered) → DeclareSays before ls (record { symbols = before; rest = ls })
none_declared before ls = record { more = []; symbols = sym (append-nil before); says_it = refl; spells = refl; ends = ends_itself ls }

one_declared : (before : List Symbol) (l : Numbered) (ls : List Numbered) (d : Declared) (symbol : Symbol) → said l.line ≡ Some (symbol_line symbol) → IsTrue (symbol_spells symbol)
    → DeclareSays (before ++ symbol ∷ []) ls d → DeclareSays before (l ∷ ls) d
one_declared before l ls d symbol line spells rest =
    record {
      more = symbol ∷ rest.more;
      symbols = rest.symbols ∙ append_assoc before (symbol ∷ []) rest.more;
      says_it = ap (λ (o : Option Line). o ∷ says ls) line ∙ ap (λ (xs : List (Option Line)). Some (symbol_line symbol) ∷ xs) rest.says_it;
      spells = and_from _ _ spells rest.spells;
      ends = ends_later l ls d.rest rest.ends;
    }

-- the symbol that a line added
record Adds (before : List Symbol) (s : Saying) (after : List Symbol) : Type 0 where
  symbol : Symbol
  at : symbol_at s ≡ Some symbol
  grown : before ++ symbol ∷ [] ≡ after

symbol_adds : (before : List Symbol) (s : Saying) (after : List Symbol) → symbol_added before s ≡ Ok after → Adds before s after
unfolding symbol_added
symbol_adds before s after h =
    let read = goes_on (ok_or (symbol_at s) kinds.Line) (added before) after h in
    let fitting = goes_on (holding (fits_behind before read.value) kinds.Symbol read.value) (λ symbol. holding (has_room before symbol.ty) kinds.Limit (before ++ symbol ∷ [])) after read.rest in
    let fits = holds (fits_behind before read.value) kinds.Symbol read.value fitting.value fitting.gave in
    let room = holds (has_room before fitting.value.ty) kinds.Limit (before ++ fitting.value ∷ []) after fitting.rest in
    record { symbol = read.value; at = some_from_ok (symbol_at s) kinds.Line read.value read.gave; grown = ap (λ (x : Symbol). before ++ x ∷ []) fits.1 ∙ room.1 }

pub declared_says : (before : List Symbol) (ls : List Numbered) (d : Declared) → declared_from before ls ≡ Ok d → DeclareSays before ls d
unfolding declared_from
declared_says before [] d h = subst (λ (x : Declared). DeclareSays before [] x) (ok_of (record { symbols = before; rest = [] }) d h) (none_declared before [])
declared_says before (l ∷ ls) d h = by (begins_body l.line) h (λ symbols rest. declared_says symbols ls d rest)
  where
    by : (b : Bool)
        → (if b then Ok (record { symbols = before; rest = l ∷ ls }) else (at_line l.number (heard kinds.Line (symbol_added before) (saying l.line)) >>= λ symbols. declared_from symbols ls)) ≡ Ok d
        → ((symbols : List Symbol) → declared_from symbols ls ≡ Ok d → DeclareSays symbols ls d) → DeclareSays before (l ∷ ls) d
    by true e go = subst (λ (x : Declared). DeclareSays before (l ∷ ls) x) (ok_of (record { symbols = before; rest = l ∷ ls }) d e) (none_declared before (l ∷ ls))
    by false e go =
        let read = goes_on (at_line l.number (heard kinds.Line (symbol_added before) (saying l.line))) (λ symbols. declared_from symbols ls) d e in
        let made = hears kinds.Line (symbol_added before) (saying l.line) read.value (line_gave l.number (heard kinds.Line (symbol_added before) (saying l.line)) read.value read.gave) in
        let adds = symbol_adds before made.saying read.value made.made in
        let line = symbol_line_says l.line made.saying adds.symbol made.says adds.at in
        one_declared before l ls d adds.symbol line.0 line.1 (subst (λ (symbols : List Symbol). DeclareSays symbols ls d) (sym adds.grown) (go read.value read.rest))
