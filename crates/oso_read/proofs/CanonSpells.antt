-- The canonical text of valid code spells it.
use Rattle.std.proofs.Common.{codes, ◌≡◌, ℕ, zero, suc, ◌-◌, ◌≤◌, true, not, ◌==◌, List, [], ◌∷◌, ◌++◌, take, drop, map, Option, Some, refl, sym, ap, subst, ◌∙◌, append-nil, arith}
use Rattle.std.specs.Prelude.{IsTrue, slice_get, slice_index}
use Rattle.std.specs.Fmt.{decimal}
use Rattle.std.specs.List.{list_all, flat_map, slice_range, AllByRecursion}
use Rattle.std.proofs.lemmas.Bool.{and_parts}
use Rattle.osl_value.specs.OpText.{name_of}
use Rattle.oso_code.specs.declared.op.Op.{Op}
use Rattle.oso_code.specs.declared.op.Section.{Section}
use Rattle.oso_code.specs.declared.raw.Raw.{Raw}
use Rattle.osl_value.specs.declared.shader_kind.ShaderKind.{ShaderKind}
use Rattle.osl_value.specs.declared.shader_kind.ShaderKind.TheVariants as kinds
use Rattle.oso_code.specs.declared.symbol.Class.{Class}
use Rattle.oso_code.specs.declared.symbol.Class.TheVariants as classes
use Rattle.oso_code.specs.declared.symbol.Symbol.{Symbol}
use Rattle.oso_code.specs.Names.{is_name}
use Rattle.oso_code.specs.Ops.{is_number_of}
use Rattle.oso_code.specs.Symbols.{are_parameters, datum_fits, header_fits, is_taken, symbol_fits}
use Rattle.oso_code.specs.Valid.{IsValid, most_ops}
use Rattle.oso_code.proofs.Chained.{valid_section}
use Rattle.oso_code.proofs.Nested.{op_facts}
use Rattle.oso_write.specs.Canon.{canon}
use Rattle.osl_valuetext.specs.Words.{Line}
use Rattle.oso_write.specs.Lines.{header, meta_text, shader_line, symbol_line, name_at, op_line, section_name, section_lines, lines_of}
use Rattle.oso_write.specs.Names.{kind_name, class_name}
use Rattle.oso_read.specs.Hints.{said}
use Rattle.oso_read.specs.Spelt.{datum_spells, symbol_spells, can_spell, Spelt}
use Rattle.osl_valuetext.proofs.Alls.{all_map, all_both, all_taken, all_dropped, all_flat, all_pass, all_at}
use Rattle.oso_read.proofs.CanonLines.{IsLine, told_again, lines_end}
use Rattle.oso_read.proofs.Data.{IsBack}
use Rattle.oso_read.proofs.DataLines.{data_are, metas_back, SymbolIs, symbol_is, symbol_data, symbol_rest, symbol_fronts}
use Rattle.oso_read.proofs.Dull.{AllDull, dull_all, dull_name}
use Rattle.oso_read.proofs.Fields.{IsWord, IsFront, decimal_front, dull_front, name_front}
use Rattle.oso_read.proofs.NameNumbers.{name_is_name, owner_is_name}
use Rattle.oso_read.proofs.SaidLines.{fronts_begin, says_itself}
use Rattle.oso_read.proofs.ValidJumps.{jumps_small}
use Rattle.oso_read.proofs.PlainLines.{op_is_name}

-- a line of which each word is found again, and which says its words
record IsCanonical (line : Line) : Type 0 where
  found : IsLine line
  says : said line ≡ Some line

no_comment : (word : List ℕ) → AllDull word → not (slice_index word 0 == 35) ≡ true
no_comment [] all = refl
no_comment (c ∷ cs) all = ap not all.0.no_comment

front_words : (line : Line) → AllByRecursion IsFront line → AllByRecursion IsWord line
front_words [] all = tt
front_words (word ∷ line) all = (all.0.whole, front_words line all.1)

back_words : (line : Line) → AllByRecursion IsBack line → AllByRecursion IsWord line
back_words [] all = tt
back_words (word ∷ line) all = (all.0.whole, back_words line all.1)

made_of_parts : (word : List ℕ) (front back : Line) → AllDull word → IsFront word → AllByRecursion IsFront front → AllByRecursion IsBack back → IsCanonical ((word ∷ front) ++ back)
made_of_parts word front back dull first before behind =
    let fronts : AllByRecursion IsFront (word ∷ front) = (first, before) in
    record {
      found = record { whole = all_both IsWord (word ∷ front) back (front_words (word ∷ front) fronts) (back_words back behind); meaning = no_comment word dull };
      says = says_itself (word ∷ front) back (fronts_begin (word ∷ front) fronts) behind;
    }

-- a line without metadata
plain_line : (word : List ℕ) (front : Line) → AllDull word → IsFront word → AllByRecursion IsFront front → IsCanonical (word ∷ front)
plain_line word front dull first before =
    subst (λ (line : Line). IsCanonical line) (append-nil (word ∷ front)) (made_of_parts word front [] dull first before tt)

named_line : (name : List ℕ) (front : Line) → is_name name ≡ true → AllByRecursion IsFront front → IsCanonical (name ∷ front)
named_line name front named before = plain_line name front (dull_name name named) (name_front name named) before

-- ---- the lines of valid code

header_line : IsCanonical header
header_line = named_line (codes "OpenShadingLanguage") (codes "1.00" ∷ []) refl (dull_front (codes "1.00") (dull_all (codes "1.00") refl) (omega arith), tt)

end_line : IsCanonical (codes "end" ∷ [])
end_line = named_line (codes "end") [] refl tt

kind_is_name : (kind : ShaderKind) → is_name (kind_name kind) ≡ true
kind_is_name kinds.Surface = refl
kind_is_name kinds.Displacement = refl
kind_is_name kinds.Volume = refl
kind_is_name kinds.Shader = refl

class_is_name : (class : Class) → is_name (class_name class) ≡ true
class_is_name classes.Param = refl
class_is_name classes.Oparam = refl
class_is_name classes.Global = refl
class_is_name classes.Const = refl
class_is_name classes.Local = refl
class_is_name classes.Temp = refl

head_line : (raw : Raw) → IsTrue (header_fits raw) → IsTrue (list_all datum_spells raw.metas) → IsCanonical (shader_line raw)
head_line raw fits spells =
    let parts = and_parts (is_name raw.name) (list_all datum_fits raw.metas) fits in
    let kind = kind_is_name raw.kind in
    made_of_parts (kind_name raw.kind) (raw.name ∷ []) (map meta_text raw.metas) (dull_name (kind_name raw.kind) kind) (name_front (kind_name raw.kind) kind)
    (name_front raw.name parts.0, tt) (metas_back raw.metas (data_are raw.metas parts.1 spells))

symbol_is_canonical : (s : Symbol) → SymbolIs s → IsCanonical (symbol_line s)
symbol_is_canonical s is =
    let class = class_is_name s.class in
    made_of_parts (class_name s.class) (symbol_rest s) (map meta_text s.metas) (dull_name (class_name s.class) class) (name_front (class_name s.class) class)
    (symbol_fronts s is) (metas_back s.metas (symbol_data s is))

spells_at : (symbols : List Symbol) (k : ℕ) (s : Symbol) → list_all symbol_spells symbols ≡ true → slice_get symbols k ≡ Some s → symbol_spells s ≡ true
spells_at [] k s all is = absurd cc
spells_at (first ∷ symbols) zero s all is =
    let same : first ≡ s = cc in
    ap symbol_spells (sym same) ∙ (and_parts (symbol_spells first) (list_all symbol_spells symbols) all).0
spells_at (first ∷ symbols) (suc k) s all is = spells_at symbols k s (and_parts (symbol_spells first) (list_all symbol_spells symbols) all).1 is

symbol_lines : (raw : Raw) → IsValid raw → IsTrue (list_all symbol_spells raw.symbols) → AllByRecursion IsCanonical (map symbol_line raw.symbols)
symbol_lines raw valid spells =
    all_map SymbolIs IsCanonical symbol_line symbol_is_canonical raw.symbols
    (all_at SymbolIs raw.symbols (λ k s is.
    let fits = and_parts (symbol_fits (are_parameters (take k raw.symbols)) s) (not (is_taken (take k raw.symbols) s.name)) (valid.symbols k s is) in
    symbol_is (are_parameters (take k raw.symbols)) s fits.0 (spells_at raw.symbols k s spells is)))

-- ---- ops and sections

arg_fronts : (raw : Raw) → IsValid raw → (args : List ℕ) → list_all (is_number_of raw.symbols) args ≡ true → AllByRecursion IsFront (map (name_at raw.symbols) args)
arg_fronts raw valid args h =
    all_map (λ (k : ℕ). is_number_of raw.symbols k ≡ true) IsFront (name_at raw.symbols)
    (λ k below. name_front (name_at raw.symbols k) (name_is_name raw.symbols k valid.symbols below)) args
    (all_pass (λ (k : ℕ). is_number_of raw.symbols k ≡ true) (is_number_of raw.symbols) (λ k below. below) args h)

jump_fronts : (jumps : List ℕ) → AllByRecursion (λ (j : ℕ). j ≤ most_ops) jumps → AllByRecursion IsFront (map decimal jumps)
jump_fronts jumps all = all_map (λ (j : ℕ). j ≤ most_ops) IsFront decimal (λ j small. decimal_front j (omega arith)) jumps all

op_lines : (raw : Raw) → IsValid raw → AllByRecursion (λ (op : Op). IsCanonical (op_line raw.symbols op)) raw.ops
op_lines raw valid =
    all_at (λ (op : Op). IsCanonical (op_line raw.symbols op)) raw.ops (λ k op is.
    let facts = op_facts raw k op (valid.ops k op is) in
    named_line (name_of op.name) (map (name_at raw.symbols) op.args ++ map decimal op.jumps) (op_is_name op.name)
    (all_both IsFront (map (name_at raw.symbols) op.args) (map decimal op.jumps) (arg_fronts raw valid op.args facts.numbers) (jump_fronts op.jumps (jumps_small raw valid k op is))))

one_section : (raw : Raw) → IsValid raw → (j : ℕ) (s : Section) → slice_get raw.sections j ≡ Some s → AllByRecursion IsCanonical (section_lines raw s)
one_section raw valid j s is =
    let lies = valid_section raw valid j s is in
    let named : is_name (section_name raw.symbols s.param) ≡ true = owner_is_name raw.symbols s.param valid.symbols lies.owner in
    let P : Op → Type 0 = λ op. IsCanonical (op_line raw.symbols op) in (
      named_line (codes "code") (section_name raw.symbols s.param ∷ []) refl (name_front (section_name raw.symbols s.param) named, tt),
      all_map P IsCanonical (op_line raw.symbols) (λ op h. h) (slice_range raw.ops s.start s.end)
          (all_taken P (s.end - s.start) (drop s.start raw.ops) (all_dropped P s.start raw.ops (op_lines raw valid))),
    )

sections_lines : (raw : Raw) → IsValid raw → AllByRecursion IsCanonical (flat_map (section_lines raw) raw.sections)
sections_lines raw valid =
    let P : Section → Type 0 = λ s. AllByRecursion IsCanonical (section_lines raw s) in
    all_flat P IsCanonical (section_lines raw) (λ s h. h) raw.sections (all_at P raw.sections (one_section raw valid))

-- ---- the whole

all_lines : (raw : Raw) → IsValid raw → IsTrue (can_spell raw) → AllByRecursion IsCanonical (lines_of raw)
all_lines raw valid spells =
    let strings = and_parts (list_all datum_spells raw.metas) (list_all symbol_spells raw.symbols) spells in
    let symbols = map symbol_line raw.symbols in
    let sections = flat_map (section_lines raw) raw.sections in (
      header_line,
      (
        head_line raw valid.header strings.0,
        all_both IsCanonical (symbols ++ sections) ((codes "end" ∷ []) ∷ [])
            (all_both IsCanonical symbols sections (symbol_lines raw valid strings.1) (sections_lines raw valid)) (end_line, tt),
      ),
    )

canonical_lines : (ls : List Line) → AllByRecursion IsCanonical ls → AllByRecursion IsLine ls
canonical_lines [] all = tt
canonical_lines (line ∷ ls) all = (all.0.found, canonical_lines ls all.1)

all_say : (ls : List Line) → AllByRecursion IsCanonical ls → map said ls ≡ map Some ls
all_say [] all = refl
all_say (line ∷ ls) all = ap (λ (o : Option Line). o ∷ map said ls) all.0.says ∙ ap (λ (os : List (Option Line)). Some line ∷ os) (all_say ls all.1)

pub canon_spells : (raw : Raw) → IsValid raw → IsTrue (can_spell raw) → Spelt (canon raw) raw
unfolding canon
canon_spells raw valid spells =
    let all = all_lines raw valid spells in
    let before = header ∷ shader_line raw ∷ (map symbol_line raw.symbols ++ flat_map (section_lines raw) raw.sections) in
    record {
      valid = valid;
      texts = spells;
      says = told_again 1 (lines_of raw) (canonical_lines (lines_of raw) all) ∙ all_say (lines_of raw) all;
      ended = lines_end before (codes "end") [];
    }
