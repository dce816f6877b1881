-- The lines with metadata, that of the shader and those of symbols: what is written is read, and what is read was written.
use Rattle.std.proofs.Common.{codes, ◌≡◌, ℕ, zero, suc, Bool, true, false, not, ◌&&◌, ◌||◌, ◌==◌, cond, List, [], ◌∷◌, ◌++◌, length, take, map, Option, Some, None, refl, sym, ap, subst, ◌∙◌, arith}
use Rattle.std.specs.Prelude.{IsTrue, nat_le, nat_lt, option_map}
use Rattle.std.specs.List.{list_all, AllByRecursion}
use Rattle.std.specs.Str.{bytes_eq}
use Rattle.std.proofs.lemmas.Bool.{and_parts, and_from, eqb-true, leb-true, le-leb, ltb-true, lt-ltb, not-true, not-false, cond-true, cond-false}
use Rattle.std.proofs.lemmas.List.{nil_from_length}
use Rattle.std.proofs.lemmas.Slice.Eq.{bytes_eq-Decides}
use Rattle.osl_value.specs.declared.types.Base.{Base}
use Rattle.osl_value.specs.declared.types.Base.TheVariants.{Int, Float, Color, Point, Vector, Normal, Matrix, Str, Closure}
use Rattle.osl_value.specs.declared.types.Ty.{Ty}
use Rattle.osl_value.specs.Plain.{Plain}
use Rattle.osl_value.specs.Types.{same_type, only, longest_array, longest_text}
use Rattle.osl_value.proofs.SameTypes.{same_type-true}
use Rattle.osl_value.specs.declared.shader_kind.ShaderKind.{ShaderKind}
use Rattle.osl_value.specs.declared.shader_kind.ShaderKind.TheVariants as kinds
use Rattle.oso_code.specs.declared.symbol.Class.{Class}
use Rattle.oso_code.specs.declared.symbol.Class.TheVariants as classes
use Rattle.oso_code.specs.declared.symbol.Meta.{Meta}
use Rattle.oso_code.specs.declared.symbol.Symbol.{Symbol}
use Rattle.oso_code.specs.Holding.{is_closure, is_type, makes_up}
use Rattle.oso_code.specs.Names.{is_name}
use Rattle.oso_code.specs.Symbols.{is_empty, is_parameter, datum_fits, parameter_fits, global_fits, has_value, is_value_of, metadata_fits, symbol_fits}
use Rattle.osl_valuetext.specs.declared.number.Spelling.TheVariants.{Canonical}
use Rattle.osl_valuetext.specs.Words.{Line, type_text, value_words}
use Rattle.oso_write.specs.Lines.{meta_text, start_words, symbol_line}
use Rattle.oso_write.specs.Names.{kind_name, class_name, type_words}
use Rattle.oso_read.specs.Hints.{begins_hint, Saying, word_count, saying, said}
use Rattle.osl_valuetext.specs.Literals.{◌>>=◌, each, is_plain_type, value_of, text_at, is_short, Values, values_at, value_at}
use Rattle.oso_read.specs.Text.{only_word}
use Rattle.osl_valuetext.specs.Types.{type_at}
use Rattle.oso_read.specs.Data.{meta_at}
use Rattle.oso_read.specs.SymbolLine.{all_kinds, kind_named, Head, head_words, head_at, all_classes, class_named, Typed, closure_words, typed_words, start_at, metas_at, named_at, class_at, symbol_words, symbol_at}
use Rattle.oso_read.specs.OpLine.{begins_with, is_end_line}
use Rattle.oso_read.specs.Reading.{begins_body}
use Rattle.osl_valuetext.specs.Spells.{IsByte, are_bytes, is_text}
use Rattle.oso_read.specs.Spelt.{datum_spells, start_spells, symbol_spells}
use Rattle.osl_valuetext.proofs.Alls.{all_map, all_both, all_pass, pass_all}
use Rattle.osl_valuetext.proofs.Plains.{bound, each_all}
use Rattle.osl_valuetext.proofs.Canonicals.{each_written, each_read}
use Rattle.osl_valuetext.proofs.Escapes.{AreBytes}
use Rattle.osl_valuetext.proofs.Exact.{bytes_are, text_is}
use Rattle.osl_valuetext.proofs.TypeTexts.{find_passes, typed, type_written, type_read}
use Rattle.osl_valuetext.proofs.ValueWords.{MakesUp, IsText, text_written, text_read, values_written, values_read}
use Rattle.oso_read.proofs.MadeUp.{makes_up_facts}
use Rattle.oso_read.proofs.MetaTypes.{no_closure_array, type_is_plain}
use Rattle.oso_read.proofs.Fields.{IsFront, dull_front, name_front, type_front, value_fronts}
use Rattle.oso_read.proofs.Data.{IsData, IsBack, meta_back, meta_written, meta_read}
use Rattle.oso_read.proofs.SaidLines.{IsNoHint, BeginsHint, backs_begin, fronts_begin, parts_are, says_parts, first_said}
use Rattle.oso_read.proofs.Dull.{dull_all}
use Rattle.osl_valuetext.specs.declared.place.Place.TheVariants.{Open}
use Rattle.osl_valuetext.specs.Splitting.{is_blank}
use Rattle.osl_valuetext.proofs.Runs.{run}

-- ---- tests of lists, as facts on their elements

are_all_bytes : (bytes : List ℕ) → AreBytes bytes → are_bytes bytes ≡ true
are_all_bytes bytes all = pass_all IsByte (λ c. nat_lt c 256) (λ c k. lt-ltb c 256 k) bytes all

is_a_text : (text : List ℕ) → IsText text → is_text text ≡ true
is_a_text text is = and_from _ _ (are_all_bytes text is.bytes) (le-leb (length text) longest_text is.short)

pub data_are : (metas : List Meta) → list_all datum_fits metas ≡ true → list_all datum_spells metas ≡ true → AllByRecursion IsData metas
data_are [] h k = tt
data_are (m ∷ metas) h k =
    let fits = and_parts (datum_fits m) (list_all datum_fits metas) h in
    let spells = and_parts (datum_spells m) (list_all datum_spells metas) k in
    let first : IsData m = record { fits = fits.0; bytes = all_pass AreBytes are_bytes bytes_are m.texts spells.0 } in
    (first, data_are metas fits.1 spells.1)

pub metas_back : (metas : List Meta) → AllByRecursion IsData metas → AllByRecursion IsBack (map meta_text metas)
metas_back metas all = all_map IsData IsBack meta_text meta_back metas all

-- what metadata was read of
record WereMetas (words : Line) (metas : List Meta) : Type 0 where
  texts : words ≡ map meta_text metas
  spells : list_all datum_spells metas ≡ true

metas_read : (words : Line) (metas : List Meta) → each meta_at words ≡ Some metas → WereMetas words metas
metas_read words metas e =
    record {
      texts = each_read meta_at meta_text (λ word m h. (meta_read word m h).text) words metas e;
      spells = pass_all (λ m. AllByRecursion AreBytes m.texts) datum_spells (λ m all. pass_all AreBytes are_bytes are_all_bytes m.texts all) metas
          (each_all (λ m. AllByRecursion AreBytes m.texts) meta_at (λ word m h. (meta_read word m h).bytes) words metas e);
    }

-- ---- the line of the shader

kind_written : (kind : ShaderKind) → kind_named (kind_name kind) ≡ Some kind
kind_written kinds.Surface = refl
kind_written kinds.Displacement = refl
kind_written kinds.Volume = refl
kind_written kinds.Shader = refl

kind_read : (word : List ℕ) (kind : ShaderKind) → kind_named word ≡ Some kind → word ≡ kind_name kind
kind_read word kind e = (bytes_eq-Decides word (kind_name kind)).0 (find_passes (λ (k : ShaderKind). bytes_eq word (kind_name k)) all_kinds kind e)

kind_no_hint : (kind : ShaderKind) → begins_hint (kind_name kind) ≡ false
kind_no_hint kinds.Surface = refl
kind_no_hint kinds.Displacement = refl
kind_no_hint kinds.Volume = refl
kind_no_hint kinds.Shader = refl

abbrev head_made : List Meta → ShaderKind → List ℕ → Option Head
head_made metas kind name = cond (is_name name) (Some (record { kind = kind; name = name; metas = metas })) None

abbrev the_head : ShaderKind → List ℕ → List Meta → Head
the_head kind name metas = record { kind = kind; name = name; metas = metas }

pub head_line_reads : (l : Line) (kind : ShaderKind) (name : List ℕ) (metas : List Meta) → IsTrue (is_name name) → IsTrue (list_all datum_fits metas) → IsTrue (list_all datum_spells metas)
    → said l ≡ Some (kind_name kind ∷ name ∷ map meta_text metas)
    → (s : Saying) × (saying l ≡ Some s) × (head_at s ≡ Some (record { kind = kind; name = name; metas = metas }))
unfolding head_at head_words
head_line_reads l kind name metas named fit spell e =
    let all = data_are metas fit spell in
    let front = kind_name kind ∷ name ∷ [] in
    let back = map meta_text metas in
    let says = says_parts l front back (kind_no_hint kind, ((name_front name named).no_hint, tt)) (backs_begin back (metas_back metas all)) e in
    let read : head_at (parts_are front back) ≡ Some (the_head kind name metas) =
    ap (λ (o : Option (List Meta)). o >>= head_words front) (each_written meta_at meta_text IsData meta_written metas all)
    ∙ ap (λ (o : Option ShaderKind). o >>= λ k. head_made metas k name) (kind_written kind) ∙ cond-true _ _ _ named in
    (parts_are front back, says, read)

record WasHead (words : Line) (metas : List Meta) (head : Head) : Type 0 where
  words_are : words ≡ kind_name head.kind ∷ head.name ∷ []
  same_metas : metas ≡ head.metas

head_words_read : (words : Line) (metas : List Meta) (head : Head) → head_words words metas ≡ Some head → WasHead words metas head
unfolding head_words
head_words_read [] metas head e = absurd cc
head_words_read (kind ∷ words) metas head e =
    let a = bound (kind_named kind) (λ k. only_word words >>= head_made metas k) head e in
    let b = bound (only_word words) (head_made metas a.0) head a.2 in
    go a.0 (kind_read kind a.0 a.1) b.0 (only_is words b.0 b.1) (is_name b.0) b.2
  where
    only_is : (ws : Line) (name : List ℕ) → only_word ws ≡ Some name → ws ≡ name ∷ []
    only_is [] name h = absurd cc
    only_is (w ∷ ws) name h = pick (length ws == 0) refl h
      where
        pick : (t : Bool) → (length ws == 0) ≡ t → cond t (Some w) None ≡ Some name → w ∷ ws ≡ name ∷ []
        pick true none k = let empty : ws ≡ [] = nil_from_length ws (eqb-true _ 0 none) in let same : w ≡ name = cc in cc
        pick false none k = absurd cc

    go : (k : ShaderKind) → kind ≡ kind_name k → (name : List ℕ) → words ≡ name ∷ [] → (b : Bool) → cond b (Some (the_head k name metas)) None ≡ Some head → WasHead (kind ∷ words) metas head
    go k is name one true h =
        let same : the_head k name metas ≡ head = cc in
        let made : WasHead (kind ∷ words) metas (the_head k name metas) =
        record { words_are = ap (λ (w : List ℕ). w ∷ words) is ∙ ap (λ (ws : Line). kind_name k ∷ ws) one; same_metas = refl } in
        subst (λ (x : Head). WasHead (kind ∷ words) metas x) same made
    go k is name one false h = absurd cc

pub head_line_says : (l : Line) (s : Saying) (head : Head) → saying l ≡ Some s → head_at s ≡ Some head
    → (said l ≡ Some (kind_name head.kind ∷ head.name ∷ map meta_text head.metas)) × IsTrue (list_all datum_spells head.metas)
unfolding head_at
head_line_says l s head says e =
    let a = bound (each meta_at s.metadata) (head_words s.words) head e in
    let metas = metas_read s.metadata a.0 a.1 in
    let was = head_words_read s.words a.0 head a.2 in
    let parts : s.words ++ s.metadata ≡ kind_name head.kind ∷ head.name ∷ map meta_text head.metas =
    ap (λ (ws : Line). ws ++ s.metadata) was.words_are ∙ ap (λ (ws : Line). kind_name head.kind ∷ head.name ∷ ws) (metas.texts ∙ ap (map meta_text) was.same_metas) in
    (ap (option_map (λ (x : Saying). x.words ++ x.metadata)) says ∙ ap Some parts, subst (λ (ms : List Meta). list_all datum_spells ms ≡ true) was.same_metas metas.spells)

-- ---- classes and types

class_written : (class : Class) → class_named (class_name class) ≡ Some class
class_written classes.Param = refl
class_written classes.Oparam = refl
class_written classes.Global = refl
class_written classes.Const = refl
class_written classes.Local = refl
class_written classes.Temp = refl

class_read : (word : List ℕ) (class : Class) → class_named word ≡ Some class → word ≡ class_name class
class_read word class e = (bytes_eq-Decides word (class_name class)).0 (find_passes (λ (c : Class). bytes_eq word (class_name c)) all_classes class e)

class_no_hint : (class : Class) → begins_hint (class_name class) ≡ false
class_no_hint classes.Param = refl
class_no_hint classes.Oparam = refl
class_no_hint classes.Global = refl
class_no_hint classes.Const = refl
class_no_hint classes.Local = refl
class_no_hint classes.Temp = refl

-- a symbol's line does not begin the body
class_begins_none : (class : Class) → (bytes_eq (class_name class) (codes "code") || bytes_eq (class_name class) (codes "end")) ≡ false
class_begins_none classes.Param = refl
class_begins_none classes.Oparam = refl
class_begins_none classes.Global = refl
class_begins_none classes.Const = refl
class_begins_none classes.Local = refl
class_begins_none classes.Temp = refl

begins_front : (l : Line) (n : ℕ) (word : List ℕ) (front : Line) (first : List ℕ) → take n l ≡ word ∷ front → begins_with first l ≡ bytes_eq word first
begins_front [] zero word front first e = absurd cc
begins_front [] (suc n) word front first e = absurd cc
begins_front (w ∷ ws) zero word front first e = absurd cc
begins_front (w ∷ ws) (suc n) word front first e = let same : w ≡ word = cc in ap (λ (x : List ℕ). bytes_eq x first) same

-- a line begins with the first word that it says
pub begins_said : (l : Line) (word : List ℕ) (front back : Line) (first : List ℕ) → IsNoHint word → AllByRecursion IsNoHint front → AllByRecursion BeginsHint back
    → said l ≡ Some ((word ∷ front) ++ back) → begins_with first l ≡ bytes_eq word first
begins_said l word front back first here before behind e = begins_front l (word_count l) word front first (first_said l (word ∷ front) back (here, before) behind e)

abbrev typed_made : Ty → Line → Typed
typed_made ty rest = record { ty = ty; rest = rest }

typed_written : (base : Base) (len : ℕ) (rest : Line) → is_type (typed base len) ≡ true → typed_words (type_words (typed base len) ++ rest) ≡ Some (typed_made (typed base len) rest)
unfolding typed_words
typed_written Int len rest fits = ap (option_map (λ ty. typed_made ty rest)) (type_written (typed Int len) fits)
typed_written Float len rest fits = ap (option_map (λ ty. typed_made ty rest)) (type_written (typed Float len) fits)
typed_written Color len rest fits = ap (option_map (λ ty. typed_made ty rest)) (type_written (typed Color len) fits)
typed_written Point len rest fits = ap (option_map (λ ty. typed_made ty rest)) (type_written (typed Point len) fits)
typed_written Vector len rest fits = ap (option_map (λ ty. typed_made ty rest)) (type_written (typed Vector len) fits)
typed_written Normal len rest fits = ap (option_map (λ ty. typed_made ty rest)) (type_written (typed Normal len) fits)
typed_written Matrix len rest fits = ap (option_map (λ ty. typed_made ty rest)) (type_written (typed Matrix len) fits)
typed_written Str len rest fits = ap (option_map (λ ty. typed_made ty rest)) (type_written (typed Str len) fits)
typed_written Closure len rest fits =
    subst (λ (n : ℕ). typed_words (type_words (typed Closure n) ++ rest) ≡ Some (typed_made (typed Closure n) rest)) (sym (no_closure_array len fits)) refl

type_fronts : (base : Base) (len : ℕ) → is_type (typed base len) ≡ true → AllByRecursion IsFront (type_words (typed base len))
type_fronts Int len fits = (type_front (typed Int len) fits (λ e. cc), tt)
type_fronts Float len fits = (type_front (typed Float len) fits (λ e. cc), tt)
type_fronts Color len fits = (type_front (typed Color len) fits (λ e. cc), tt)
type_fronts Point len fits = (type_front (typed Point len) fits (λ e. cc), tt)
type_fronts Vector len fits = (type_front (typed Vector len) fits (λ e. cc), tt)
type_fronts Normal len fits = (type_front (typed Normal len) fits (λ e. cc), tt)
type_fronts Matrix len fits = (type_front (typed Matrix len) fits (λ e. cc), tt)
type_fronts Str len fits = (type_front (typed Str len) fits (λ e. cc), tt)
type_fronts Closure len fits =
    subst (λ (n : ℕ). AllByRecursion IsFront (type_words (typed Closure n))) (sym (no_closure_array len fits))
    (dull_front (codes "closure") (dull_all (codes "closure") refl) (omega arith), (dull_front (codes "color") (dull_all (codes "color") refl) (omega arith), tt))

-- ---- a symbol by its parts

-- what valid code has, and strings that can be spelled
pub record SymbolIs (s : Symbol) : Type 0 where
  pub name : is_name s.name ≡ true
  pub type : is_type s.ty ≡ true
  pub value : is_value_of (has_value s.class s.ty) s.ty s.value ≡ true
  pub metas : metadata_fits s.class s.metas ≡ true
  pub value_spells : start_spells s.value ≡ true
  pub metas_spell : list_all datum_spells s.metas ≡ true

pub symbol_is : (leading : Bool) (s : Symbol) → symbol_fits leading s ≡ true → symbol_spells s ≡ true → SymbolIs s
symbol_is leading s fits spells =
    let all = and_parts ((is_name s.name && parameter_fits leading s) && (is_type s.ty && global_fits s.class s.name s.ty)) (is_value_of (has_value s.class s.ty) s.ty s.value && metadata_fits s.class s.metas) fits in
    let front = and_parts (is_name s.name && parameter_fits leading s) (is_type s.ty && global_fits s.class s.name s.ty) all.0 in
    let back = and_parts (is_value_of (has_value s.class s.ty) s.ty s.value) (metadata_fits s.class s.metas) all.1 in
    let strings = and_parts (start_spells s.value) (list_all datum_spells s.metas) spells in
    record {
      name = (and_parts (is_name s.name) (parameter_fits leading s) front.0).0;
      type = (and_parts (is_type s.ty) (global_fits s.class s.name s.ty) front.1).0;
      value = back.0;
      metas = back.1;
      value_spells = strings.0;
      metas_spell = strings.1;
    }

none_fit : (metas : List Meta) → is_empty metas ≡ true → list_all datum_fits metas ≡ true
none_fit [] h = refl
none_fit (m ∷ metas) h = absurd cc

pub symbol_data : (s : Symbol) → SymbolIs s → AllByRecursion IsData s.metas
symbol_data s is = data_are s.metas (go (is_parameter s.class) is.metas) is.metas_spell
  where
    go : (b : Bool) → cond b (list_all datum_fits s.metas) (is_empty s.metas) ≡ true → list_all datum_fits s.metas ≡ true
    go true h = h
    go false h = none_fit s.metas h

metas_at_written : (s : Symbol) → SymbolIs s → metas_at s.class (map meta_text s.metas) ≡ Some s.metas
unfolding metas_at
metas_at_written s is = go (is_parameter s.class) is.metas
  where
    all : AllByRecursion IsData s.metas
    all = symbol_data s is

    none : (metas : List Meta) → is_empty metas ≡ true → cond (length (map meta_text metas) == 0) (Some []) None ≡ Some metas
    none [] h = refl
    none (m ∷ metas) h = absurd cc

    go : (b : Bool) → cond b (list_all datum_fits s.metas) (is_empty s.metas) ≡ true
        → cond b (each meta_at (map meta_text s.metas)) (cond (length (map meta_text s.metas) == 0) (Some []) None) ≡ Some s.metas
    go true h = each_written meta_at meta_text IsData meta_written s.metas all
    go false h = none s.metas h

record ValueIs (ty : Ty) (v : Plain) : Type 0 where
  wanted : not (is_closure ty) ≡ true
  same : v.ty ≡ ty
  makes : MakesUp v.ty v.nums v.texts

value_is : (wanted : Bool) (ty : Ty) (v : Plain) → is_value_of wanted ty (Some v) ≡ true → (wanted ≡ true) × ValueIs ty v
value_is wanted ty v h =
    let parts = and_parts (wanted && not (is_closure ty)) (same_type v.ty ty && makes_up v.ty v.nums v.texts) h in
    let front = and_parts wanted (not (is_closure ty)) parts.0 in
    let back = and_parts (same_type v.ty ty) (makes_up v.ty v.nums v.texts) parts.1 in
    (front.0, record { wanted = front.1; same = same_type-true v.ty ty back.0; makes = makes_up_facts v.ty v.nums v.texts back.1 })

value_at_written : (ty : Ty) (v : Plain) → is_type ty ≡ true → ValueIs ty v → AllByRecursion IsText v.texts → value_at Canonical ty (value_words v.ty.base v.nums v.texts) ≡ Some v
unfolding value_at
value_at_written ty v fits is texts =
    let at_own : option_map (value_of v.ty) (values_at Canonical text_at v.ty (value_words v.ty.base v.nums v.texts)) ≡ Some v =
    ap (option_map (value_of v.ty)) (values_written Canonical text_at IsText text_written v.ty.base v.ty.len v.nums v.texts is.makes texts) in
    cond-true _ _ _ (type_is_plain ty fits is.wanted) ∙ subst (λ (t : Ty). option_map (value_of t) (values_at Canonical text_at t (value_words v.ty.base v.nums v.texts)) ≡ Some v) is.same at_own

start_written : (class : Class) (ty : Ty) (value : Option Plain) → is_type ty ≡ true → is_value_of (has_value class ty) ty value ≡ true → start_spells value ≡ true
    → start_at class ty (start_words value) ≡ Some value
unfolding start_at
start_written class ty None fits is spells = cond-false _ _ _ (not-true (has_value class ty) is)
start_written class ty (Some v) fits is spells =
    let parts = value_is (has_value class ty) ty v is in
    cond-true _ _ _ parts.0 ∙ ap (option_map Some) (value_at_written ty v fits parts.1 (all_pass IsText is_text text_is v.texts spells))

all_text_bytes : (texts : List (List ℕ)) → AllByRecursion IsText texts → AllByRecursion AreBytes texts
all_text_bytes [] all = tt
all_text_bytes (text ∷ texts) all = (all.0.bytes, all_text_bytes texts all.1)

start_fronts : (wanted : Bool) (ty : Ty) (value : Option Plain) → is_value_of wanted ty value ≡ true → start_spells value ≡ true → AllByRecursion IsFront (start_words value)
start_fronts wanted ty None is spells = tt
start_fronts wanted ty (Some v) is spells =
    let parts = value_is wanted ty v is in
    value_fronts v.ty.base v.nums v.texts parts.1.makes.fit (all_text_bytes v.texts (all_pass IsText is_text text_is v.texts spells))

-- the words of a symbol's line after its class, up to its metadata
abbrev pub symbol_rest : Symbol → Line
symbol_rest s = type_words s.ty ++ (s.name ∷ start_words s.value)

pub symbol_fronts : (s : Symbol) → SymbolIs s → AllByRecursion IsFront (symbol_rest s)
symbol_fronts s is =
    all_both IsFront (type_words s.ty) (s.name ∷ start_words s.value) (type_fronts s.ty.base s.ty.len is.type)
    (name_front s.name is.name, start_fronts (has_value s.class s.ty) s.ty s.value is.value is.value_spells)

-- ---- the line of a symbol, read

abbrev symbol_made : Class → Ty → List ℕ → List Meta → Option Plain → Symbol
symbol_made class ty name metas value = record { class = class; ty = ty; name = name; value = value; metas = metas }

symbol_written : (s : Symbol) → SymbolIs s → symbol_at (parts_are (class_name s.class ∷ symbol_rest s) (map meta_text s.metas)) ≡ Some s
unfolding symbol_at symbol_words class_at named_at
symbol_written s is =
    let behind_name = start_words s.value in
    let metadata = map meta_text s.metas in
    ap (λ (o : Option Class). o >>= λ class. typed_words (symbol_rest s) >>= λ t. metas_at class metadata >>= λ metas. named_at class t.ty t.rest metas) (class_written s.class)
    ∙ ap (λ (o : Option Typed). o >>= λ t. metas_at s.class metadata >>= λ metas. named_at s.class t.ty t.rest metas) (typed_written s.ty.base s.ty.len (s.name ∷ behind_name) is.type)
    ∙ ap (λ (o : Option (List Meta)). o >>= λ metas. named_at s.class s.ty (s.name ∷ behind_name) metas) (metas_at_written s is)
    ∙ cond-true _ _ _ is.name
    ∙ ap (option_map (symbol_made s.class s.ty s.name s.metas)) (start_written s.class s.ty s.value is.type is.value is.value_spells)

pub symbol_line_reads : (l : Line) (leading : Bool) (symbol : Symbol) → IsTrue (symbol_fits leading symbol) → IsTrue (symbol_spells symbol) → said l ≡ Some (symbol_line symbol)
    → (s : Saying) × (saying l ≡ Some s) × (symbol_at s ≡ Some symbol) × (begins_body l ≡ false)
symbol_line_reads l leading symbol fits spells e =
    let is = symbol_is leading symbol fits spells in
    let word = class_name symbol.class in
    let front = symbol_rest symbol in
    let back = map meta_text symbol.metas in
    let here = class_no_hint symbol.class in
    let before = fronts_begin front (symbol_fronts symbol is) in
    let behind = backs_begin back (metas_back symbol.metas (symbol_data symbol is)) in
    let begins : begins_body l ≡ false =
    ap (λ (b : Bool). b || is_end_line l) (begins_said l word front back (codes "code") here before behind e)
    ∙ ap (λ (b : Bool). bytes_eq word (codes "code") || b) (begins_said l word front back (codes "end") here before behind e)
    ∙ class_begins_none symbol.class in
    (parts_are (word ∷ front) back, says_parts l (word ∷ front) back (here, before) behind e, symbol_written symbol is, begins)

-- ---- the line of a symbol, as it was written

one_word : (base : Base) (len : ℕ) (word : List ℕ) → word ≡ type_text (typed base len) → is_plain_type (typed base len) ≡ true → type_words (typed base len) ≡ word ∷ []
one_word Int len word is has = ap (λ (w : List ℕ). w ∷ []) (sym is)
one_word Float len word is has = ap (λ (w : List ℕ). w ∷ []) (sym is)
one_word Color len word is has = ap (λ (w : List ℕ). w ∷ []) (sym is)
one_word Point len word is has = ap (λ (w : List ℕ). w ∷ []) (sym is)
one_word Vector len word is has = ap (λ (w : List ℕ). w ∷ []) (sym is)
one_word Normal len word is has = ap (λ (w : List ℕ). w ∷ []) (sym is)
one_word Matrix len word is has = ap (λ (w : List ℕ). w ∷ []) (sym is)
one_word Str len word is has = ap (λ (w : List ℕ). w ∷ []) (sym is)
one_word Closure len word is has = let parts = and_parts (nat_le len longest_array) false has in absurd cc

typed_read : (words : Line) (t : Typed) → typed_words words ≡ Some t → words ≡ type_words t.ty ++ t.rest
unfolding typed_words
typed_read [] t e = absurd cc
typed_read (word ∷ words) t e = go (bytes_eq word (codes "closure")) refl e
  where
    closure : (ws : Line) → word ≡ codes "closure" → closure_words ws ≡ Some t → word ∷ ws ≡ type_words t.ty ++ t.rest
    closure [] is h = absurd cc
    closure (w ∷ ws) is h = pick (bytes_eq w (codes "color")) refl h
      where
        pick : (b : Bool) → bytes_eq w (codes "color") ≡ b → cond b (Some (typed_made (only Closure) ws)) None ≡ Some t → word ∷ w ∷ ws ≡ type_words t.ty ++ t.rest
        pick true k g =
            let same : typed_made (only Closure) ws ≡ t = cc in
            ap (λ (x : List ℕ). x ∷ w ∷ ws) is ∙ ap (λ (x : List ℕ). codes "closure" ∷ x ∷ ws) ((bytes_eq-Decides w (codes "color")).0 k)
            ∙ ap (λ (u : Typed). type_words u.ty ++ u.rest) same
        pick false k g = absurd cc

    plain : (o : Option Ty) → type_at word ≡ o → option_map (λ ty. typed_made ty words) o ≡ Some t → word ∷ words ≡ type_words t.ty ++ t.rest
    plain (Some ty) read h =
        let same : typed_made ty words ≡ t = cc in
        let is = type_read word ty read in
        let one : type_words ty ≡ word ∷ [] = one_word ty.base ty.len word is.0 is.1 in
        ap (λ (ws : Line). ws ++ words) (sym one) ∙ ap (λ (u : Typed). type_words u.ty ++ u.rest) same
    plain None read h = absurd cc

    go : (b : Bool) → bytes_eq word (codes "closure") ≡ b → cond b (closure_words words) (option_map (λ ty. typed_made ty words) (type_at word)) ≡ Some t → word ∷ words ≡ type_words t.ty ++ t.rest
    go true k h = closure words ((bytes_eq-Decides word (codes "closure")).0 k) h
    go false k h = plain (type_at word) refl h

record WasStart (words : Line) (value : Option Plain) : Type 0 where
  words_are : words ≡ start_words value
  spells : start_spells value ≡ true

value_at_read : (ty : Ty) (words : Line) (v : Plain) → value_at Canonical ty words ≡ Some v → WasStart words (Some v)
unfolding value_at
value_at_read ty words v e = go (is_plain_type ty) e
  where
    from : (o : Option Values) → values_at Canonical text_at ty words ≡ o → option_map (value_of ty) o ≡ Some v → WasStart words (Some v)
    from (Some u) read h =
        let same : value_of ty u ≡ v = cc in
        let is = values_read IsText text_at text_read ty words u read in
        let made : WasStart words (Some (value_of ty u)) = record { words_are = is.words_are; spells = pass_all IsText is_text is_a_text u.texts is.all } in
        subst (λ (x : Plain). WasStart words (Some x)) same made
    from None read h = absurd cc

    go : (b : Bool) → cond b (option_map (value_of ty) (values_at Canonical text_at ty words)) None ≡ Some v → WasStart words (Some v)
    go true h = from (values_at Canonical text_at ty words) refl h
    go false h = absurd cc

start_read : (class : Class) (ty : Ty) (words : Line) (value : Option Plain) → start_at class ty words ≡ Some value → WasStart words value
unfolding start_at
start_read class ty words value e = go (has_value class ty) e
  where
    some : (o : Option Plain) → value_at Canonical ty words ≡ o → option_map Some o ≡ Some value → WasStart words value
    some (Some v) read h =
        let same : Some v ≡ value = cc in
        subst (λ (x : Option Plain). WasStart words x) same (value_at_read ty words v read)
    some None read h = absurd cc

    none : (b : Bool) → (length words == 0) ≡ b → ◌≡◌ {A = Option (Option Plain)} (cond b (Some None) None) (Some value) → WasStart words value
    none true k h =
        let empty : words ≡ [] = nil_from_length words (eqb-true _ 0 k) in
        let same : None ≡ value = cc in
        let made : WasStart words None = record { words_are = empty; spells = refl } in
        subst (λ (x : Option Plain). WasStart words x) same made
    none false k h = absurd cc

    go : (b : Bool) → ◌≡◌ {A = Option (Option Plain)} (cond b (option_map Some (value_at Canonical ty words)) (cond (length words == 0) (Some None) None)) (Some value) → WasStart words value
    go true h = some (value_at Canonical ty words) refl h
    go false h = none (length words == 0) refl h

record WasNamed (class : Class) (ty : Ty) (words : Line) (metas : List Meta) (s : Symbol) : Type 0 where
  same_class : class ≡ s.class
  same_ty : ty ≡ s.ty
  same_metas : metas ≡ s.metas
  words_are : words ≡ s.name ∷ start_words s.value
  spells : start_spells s.value ≡ true

named_read : (class : Class) (ty : Ty) (words : Line) (metas : List Meta) (s : Symbol) → named_at class ty words metas ≡ Some s → WasNamed class ty words metas s
unfolding named_at
named_read class ty [] metas s e = absurd cc
named_read class ty (name ∷ words) metas s e = go (is_name name) e
  where
    from : (o : Option (Option Plain)) → start_at class ty words ≡ o → option_map (symbol_made class ty name metas) o ≡ Some s → WasNamed class ty (name ∷ words) metas s
    from (Some value) read h =
        let same : symbol_made class ty name metas value ≡ s = cc in
        let was = start_read class ty words value read in
        let made : WasNamed class ty (name ∷ words) metas (symbol_made class ty name metas value) =
        record { same_class = refl; same_ty = refl; same_metas = refl; words_are = ap (λ (ws : Line). name ∷ ws) was.words_are; spells = was.spells } in
        subst (λ (x : Symbol). WasNamed class ty (name ∷ words) metas x) same made
    from None read h = absurd cc

    go : (b : Bool) → cond b (option_map (symbol_made class ty name metas) (start_at class ty words)) None ≡ Some s → WasNamed class ty (name ∷ words) metas s
    go true h = from (start_at class ty words) refl h
    go false h = absurd cc

metas_at_read : (class : Class) (metadata : Line) (metas : List Meta) → metas_at class metadata ≡ Some metas → WereMetas metadata metas
unfolding metas_at
metas_at_read class metadata metas e = go (is_parameter class) e
  where
    none : (b : Bool) → (length metadata == 0) ≡ b → ◌≡◌ {A = Option (List Meta)} (cond b (Some []) None) (Some metas) → WereMetas metadata metas
    none true k h =
        let empty : metadata ≡ [] = nil_from_length metadata (eqb-true _ 0 k) in
        let same : [] ≡ metas = cc in
        let made : WereMetas metadata [] = record { texts = empty; spells = refl } in
        subst (λ (ms : List Meta). WereMetas metadata ms) same made
    none false k h = absurd cc

    go : (b : Bool) → ◌≡◌ {A = Option (List Meta)} (cond b (each meta_at metadata) (cond (length metadata == 0) (Some []) None)) (Some metas) → WereMetas metadata metas
    go true h = metas_read metadata metas h
    go false h = none (length metadata == 0) refl h

record WasSymbol (words metadata : Line) (s : Symbol) : Type 0 where
  words_are : words ++ metadata ≡ symbol_line s
  spells : symbol_spells s ≡ true

three_parts : (word class : List ℕ) (words rest metadata back : Line) → word ≡ class → words ≡ rest → metadata ≡ back → (word ∷ words) ++ metadata ≡ (class ∷ rest) ++ back
three_parts word class words rest metadata back p q r = cc

assembled : (word : List ℕ) (words metadata : Line) (s : Symbol) (class : Class) (t : Typed) (metas : List Meta) → word ≡ class_name class → words ≡ type_words t.ty ++ t.rest
    → WereMetas metadata metas → WasNamed class t.ty t.rest metas s → WasSymbol (word ∷ words) metadata s
assembled word words metadata s class t metas is typed_is were was =
    let first : word ≡ class_name s.class = is ∙ ap class_name was.same_class in
    let behind_type : type_words t.ty ++ t.rest ≡ type_words t.ty ++ (s.name ∷ start_words s.value) = ap (λ (ws : Line). type_words t.ty ++ ws) was.words_are in
    let of_type : type_words t.ty ++ (s.name ∷ start_words s.value) ≡ symbol_rest s = ap (λ (ty : Ty). type_words ty ++ (s.name ∷ start_words s.value)) was.same_ty in
    let rest : words ≡ symbol_rest s = typed_is ∙ behind_type ∙ of_type in
    let behind : metadata ≡ map meta_text s.metas = were.texts ∙ ap (map meta_text) was.same_metas in
    record {
      words_are = three_parts word (class_name s.class) words (symbol_rest s) metadata (map meta_text s.metas) first rest behind;
      spells = and_from _ _ was.spells (subst (λ (ms : List Meta). list_all datum_spells ms ≡ true) was.same_metas were.spells);
    }

symbol_words_read : (words metadata : Line) (s : Symbol) → symbol_words words metadata ≡ Some s → WasSymbol words metadata s
unfolding symbol_words class_at
symbol_words_read [] metadata s e = absurd cc
symbol_words_read (word ∷ words) metadata s e =
    let a = bound (class_named word) (λ class. typed_words words >>= λ t. metas_at class metadata >>= λ metas. named_at class t.ty t.rest metas) s e in
    let b = bound (typed_words words) (λ t. metas_at a.0 metadata >>= λ metas. named_at a.0 t.ty t.rest metas) s a.2 in
    let c = bound (metas_at a.0 metadata) (λ metas. named_at a.0 b.0.ty b.0.rest metas) s b.2 in
    assembled word words metadata s a.0 b.0 c.0 (class_read word a.0 a.1) (typed_read words b.0 b.1) (metas_at_read a.0 metadata c.0 c.1) (named_read a.0 b.0.ty b.0.rest c.0 s c.2)

pub symbol_line_says : (l : Line) (s : Saying) (symbol : Symbol) → saying l ≡ Some s → symbol_at s ≡ Some symbol
    → (said l ≡ Some (symbol_line symbol)) × IsTrue (symbol_spells symbol)
unfolding symbol_at
symbol_line_says l s symbol says e =
    let was = symbol_words_read s.words s.metadata symbol e in
    (ap (option_map (λ (x : Saying). x.words ++ x.metadata)) says ∙ ap Some was.words_are, was.spells)
