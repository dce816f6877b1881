-- Lines without metadata: what is written is read, and what is read was written.
use Rattle.std.proofs.Common.{codes, ◌≡◌, ℕ, ◌+◌, ◌<◌, ◌^◌, Bool, true, false, ◌&&◌, ◌==◌, List, [], ◌∷◌, ◌++◌, length, map, take, drop, Option, Some, None, refl, sym, ap, ◌∙◌, append-nil, arith}
use Rattle.std.specs.Prelude.{if◌then◌else◌, nat_le, nat_lt, option_map}
use Rattle.std.specs.Char.{is_ascii_digit}
use Rattle.std.specs.Cmp.Lexicographic.{pointwise}
use Rattle.std.specs.Fmt.{decimal}
use Rattle.std.specs.List.{list_all, prefix_len, AllByRecursion}
use Rattle.std.specs.Str.{bytes_eq}
use Rattle.std.proofs.lemmas.Bool.{and_parts, eqb-true, or_from, lt-leb, ne_eqb}
use Rattle.std.proofs.lemmas.Slice.Eq.{bytes_eq-Decides, slice_eq-Decides}
use Rattle.std.proofs.Math.Seq.{take-append_seam, drop-append_seam}
use Rattle.std.proofs.lemmas.List.{take-append-drop}
use Rattle.osl_value.specs.declared.op_name.OpName.{OpName}
use Rattle.osl_value.specs.declared.op_name.OpName.TheVariants as O
use Rattle.osl_value.specs.OpText.{name_of}
use Rattle.osl_decimal.specs.Decimal.{is_numeral, are_digits}
use Rattle.osl_decimal.proofs.RoundTrip.{numeral-decimal, digit_bounds}
use Rattle.oso_code.specs.Names.{is_name, begins_name, continues_name, longest_name}
use Rattle.osl_valuetext.specs.Words.{Line}
use Rattle.oso_write.specs.Lines.{header}
use Rattle.oso_read.specs.Hints.{Saying, saying, said}
use Rattle.osl_valuetext.specs.Literals.{each, decimal_at}
use Rattle.oso_read.specs.Text.{only_word}
use Rattle.oso_read.specs.OpLine.{OpWords, op_words, op_at, code_words, code_at, is_end, begins_with, is_code_line, is_end_line}
use Rattle.oso_read.specs.Reading.{says_header, says_end, begins_body}
use Rattle.osl_valuetext.proofs.Canonicals.{each_written, each_read, decimal_written, decimal_read}
use Rattle.osl_valuetext.proofs.Alls.{all_both}
use Rattle.oso_read.proofs.Fields.{name_front, decimal_front}
use Rattle.oso_read.proofs.FirstWord.{words_of, saying_said, saying_begins}
use Rattle.oso_read.proofs.SaidLines.{IsNoHint}
use Rattle.oso_read.proofs.Passing.{some_of, follows, maps, tested}

nil_of : {X : Type 0} (xs : List X) → (length xs == 0) ≡ true → xs ≡ []
nil_of [] h = refl
nil_of (x ∷ xs) h = let e = eqb-true (length (x ∷ xs)) 0 h in absurd (omega (arith, e))

abbrev plain_saying : Line → Saying
plain_saying words = record { words = words; metadata = [] }

-- what a line without metadata says
plain_said : (l : Line) (s : Saying) (words : Line) → saying l ≡ Some s → (length s.metadata == 0) ≡ true → s.words ≡ words → said l ≡ Some words
plain_said l s words is none same =
    saying_said l s is ∙ ap Some (ap (λ (more : Line). s.words ++ more) (nil_of s.metadata none) ∙ append-nil s.words ∙ same)

-- ---- the header

pub header_line_reads : (l : Line) → said l ≡ Some header → says_header (saying l) ≡ true
header_line_reads l h = ap says_header (words_of l header (refl, (refl, tt)) h)

pub header_line_says : (l : Line) → says_header (saying l) ≡ true → said l ≡ Some header
header_line_says l h = by (saying l) refl h
  where
    by : (o : Option Saying) → saying l ≡ o → says_header o ≡ true → said l ≡ Some header
    by None is e = absurd (cc e)
    by (Some s) is e =
        let parts = and_parts (length s.metadata == 0) (pointwise bytes_eq s.words header) e in
        plain_said l s header is parts.0 ((slice_eq-Decides bytes_eq-Decides s.words header (pointwise bytes_eq s.words header) refl).0 parts.1)

-- ---- `code NAME`

pub record CodeReads (l : Line) (name : List ℕ) : Type 0 where
  pub heard : Saying
  pub says : saying l ≡ Some heard
  pub is_code : is_code_line l ≡ true
  pub not_end : is_end_line l ≡ false
  pub code : code_at heard ≡ Some name

pub code_line_reads : (l : Line) (name : List ℕ) → is_name name ≡ true → said l ≡ Some (codes "code" ∷ name ∷ []) → CodeReads l name
unfolding code_at
code_line_reads l name named h =
    let words : Line = codes "code" ∷ name ∷ [] in
    let says = words_of l words (refl, ((name_front name named).no_hint, tt)) h in
    let begins = saying_begins l (plain_saying words) (codes "code") (name ∷ []) says refl in
    record {
      heard = plain_saying words;
      says = says;
      is_code = ap is_code_line begins.is;
      not_end = ap is_end_line begins.is;
      code = ap (λ (b : Bool). if b then Some name else None) named;
    }

only_is : (words : Line) (word : List ℕ) → only_word words ≡ Some word → words ≡ word ∷ []
only_is [] word h = absurd (cc h)
only_is (w ∷ words) word h =
    let test = tested (length words == 0) (Some w) word h in
    ap (λ (ws : Line). w ∷ ws) (nil_of words test.0) ∙ ap (λ (x : List ℕ). x ∷ []) (some_of w word test.1)

-- a line that begins with a word is one whose first word it is
first_is : (l : Line) (s : Saying) (word : List ℕ) (words : Line) (first : List ℕ) → saying l ≡ Some s → s.words ≡ word ∷ words → begins_with first l ≡ true → word ≡ first
first_is l s word words first is at begins =
    let front = saying_begins l s word words is at in
    (bytes_eq-Decides word first).0 (sym (ap (begins_with first) front.is) ∙ begins)

pub code_line_says : (l : Line) (s : Saying) (name : List ℕ) → saying l ≡ Some s → is_code_line l ≡ true → code_at s ≡ Some name → said l ≡ Some (codes "code" ∷ name ∷ [])
unfolding code_at
code_line_says l s name is code h =
    let test = tested (length s.metadata == 0) (code_words s.words) name h in
    plain_said l s (codes "code" ∷ name ∷ []) is test.0 (by s.words refl test.1)
  where
    by : (words : Line) → s.words ≡ words → code_words words ≡ Some name → s.words ≡ codes "code" ∷ name ∷ []
    by [] at e = absurd (cc e)
    by (word ∷ words) at e =
        let only = follows (only_word words) (λ n. if is_name n then Some n else None) name e in
        let named = tested (is_name only.value) (Some only.value) name only.rest in
        at ∙ ap (λ (w : List ℕ). w ∷ words) (first_is l s word words (codes "code") is at code)
        ∙ ap (λ (ws : Line). codes "code" ∷ ws) (only_is words only.value only.is ∙ ap (λ (n : List ℕ). n ∷ []) (some_of only.value name named.1))

-- ---- `end`

pub record EndReads (l : Line) : Type 0 where
  pub says : says_end (saying l) ≡ true
  pub is_end : is_end_line l ≡ true
  pub begins : begins_body l ≡ true

pub end_line_reads : (l : Line) → said l ≡ Some (codes "end" ∷ []) → EndReads l
unfolding is_end
end_line_reads l h =
    let words : Line = codes "end" ∷ [] in
    let says = words_of l words (refl, tt) h in
    let begins = saying_begins l (plain_saying words) (codes "end") [] says refl in
    record { says = ap says_end says; is_end = ap is_end_line begins.is; begins = ap begins_body begins.is }

one_word : (words : Line) → (length words == 1) ≡ true → (word : List ℕ) × (words ≡ word ∷ [])
one_word [] h = absurd (cc h)
one_word (word ∷ []) h = (word, refl)
one_word (word ∷ more ∷ words) h = let e = eqb-true (length (word ∷ more ∷ words)) 1 h in absurd (omega (arith, e))

pub end_line_says : (l : Line) → is_end_line l ≡ true → says_end (saying l) ≡ true → said l ≡ Some (codes "end" ∷ [])
unfolding is_end
end_line_says l end h = by (saying l) refl h
  where
    by : (o : Option Saying) → saying l ≡ o → says_end o ≡ true → said l ≡ Some (codes "end" ∷ [])
    by None is e = absurd (cc e)
    by (Some s) is e =
        let parts = and_parts (length s.metadata == 0) (length s.words == 1) e in
        let one = one_word s.words parts.1 in
        plain_said l s (codes "end" ∷ []) is parts.0 (one.1 ∙ ap (λ (w : List ℕ). w ∷ []) (first_is l s one.0 [] (codes "end") is one.1 end))

-- ---- ops

digit_begins_none : (c : ℕ) → is_ascii_digit c ≡ true → begins_name c ≡ false
digit_begins_none c h =
    let bounds = digit_bounds c h in
    or_from _ _
    (or_from _ _ (ap (λ (b : Bool). b && nat_le c 90) (lt-leb 65 c (omega (arith, bounds)))) (ap (λ (b : Bool). b && nat_le c 122) (lt-leb 97 c (omega (arith, bounds)))))
    (or_from _ _ (ne_eqb c 95 (λ e. absurd (omega (arith, bounds, e)))) (ne_eqb c 36 (λ e. absurd (omega (arith, bounds, e)))))

numeral_no_name : (text : List ℕ) → is_numeral text ≡ true → is_name text ≡ false
numeral_no_name [] h = refl
numeral_no_name (c ∷ cs) h =
    let digits = (and_parts (nat_lt 0 (length (c ∷ cs))) (are_digits (c ∷ cs)) h).1 in
    ap (λ (b : Bool). (b && list_all continues_name cs) && nat_le (length (c ∷ cs)) longest_name) (digit_begins_none c (and_parts (is_ascii_digit c) (are_digits cs) digits).0)

abbrev pub AreJumps : List ℕ → Type 0
AreJumps jumps = AllByRecursion (λ (n : ℕ). n < 2 ^ 32) jumps

no_names : (jumps : List ℕ) → AreJumps jumps → prefix_len is_name (map decimal jumps) ≡ 0
no_names [] all = refl
no_names (n ∷ jumps) all =
    let small = all.0 in
    ap (λ (b : Bool). if b then 1 + prefix_len is_name (map decimal jumps) else 0) (numeral_no_name (decimal n) (numeral-decimal n (omega (arith, small))))

names_before : (args : Line) (jumps : List ℕ) → list_all is_name args ≡ true → AreJumps jumps → prefix_len is_name (args ++ map decimal jumps) ≡ length args
names_before [] jumps names all = no_names jumps all
names_before (arg ∷ args) jumps names all =
    let parts = and_parts (is_name arg) (list_all is_name args) names in
    let more = names_before args jumps parts.1 all in
    let next : 1 + prefix_len is_name (args ++ map decimal jumps) ≡ length (arg ∷ args) = omega (arith, more) in
    ap (λ (b : Bool). if b then 1 + prefix_len is_name (args ++ map decimal jumps) else 0) parts.0 ∙ next

names_front : (names : Line) → list_all is_name names ≡ true → AllByRecursion IsNoHint names
names_front [] h = tt
names_front (name ∷ names) h =
    let parts = and_parts (is_name name) (list_all is_name names) h in
    ((name_front name parts.0).no_hint, names_front names parts.1)

jumps_front : (jumps : List ℕ) → AreJumps jumps → AllByRecursion IsNoHint (map decimal jumps)
jumps_front [] all = tt
jumps_front (n ∷ jumps) all = let small = all.0 in ((decimal_front n (omega (arith, small))).no_hint, jumps_front jumps all.1)

pub op_is_name : (op : OpName) → is_name (name_of op) ≡ true
op_is_name O.Assign = refl
op_is_name _ = refl

op_is_no_code : (op : OpName) → bytes_eq (name_of op) (codes "code") ≡ false
op_is_no_code O.Assign = refl
op_is_no_code _ = refl

op_is_no_end : (op : OpName) → bytes_eq (name_of op) (codes "end") ≡ false
op_is_no_end O.Assign = refl
op_is_no_end _ = refl

abbrev words_with : List ℕ → Line → List ℕ → OpWords
words_with name args jumps = record { name = name; args = args; jumps = jumps }

words_read : (name : List ℕ) (args : Line) (jumps : List ℕ) → is_name name ≡ true → list_all is_name args ≡ true → AreJumps jumps
    → op_words (name ∷ (args ++ map decimal jumps)) ≡ Some (words_with name args jumps)
unfolding op_words
words_read name args jumps named names all =
    let words = args ++ map decimal jumps in
    let read : Line → Line → Option OpWords = λ front back. option_map (λ ns. words_with name front ns) (each decimal_at back) in
    ap (λ (b : Bool). if b then read (take (prefix_len is_name words) words) (drop (prefix_len is_name words) words) else None) named
    ∙ ap (λ (n : ℕ). read (take n words) (drop n words)) (names_before args jumps names all)
    ∙ ap (λ (front : Line). read front (drop (length args) words)) (take-append_seam args (map decimal jumps))
    ∙ ap (read args) (drop-append_seam args (map decimal jumps))
    ∙ ap (λ (o : Option (List ℕ)). option_map (λ ns. words_with name args ns) o) (each_written decimal_at decimal (λ (n : ℕ). n < 2 ^ 32) decimal_written jumps all)

pub record OpReads (l : Line) (name : OpName) (args : Line) (jumps : List ℕ) : Type 0 where
  pub heard : Saying
  pub says : saying l ≡ Some heard
  pub not_code : is_code_line l ≡ false
  pub not_end : is_end_line l ≡ false
  pub op : op_at heard ≡ Some (record { name = name_of name; args = args; jumps = jumps })

pub op_line_reads : (l : Line) (name : OpName) (args : Line) (jumps : List ℕ) → list_all is_name args ≡ true → AreJumps jumps
    → said l ≡ Some (name_of name ∷ (args ++ map decimal jumps)) → OpReads l name args jumps
unfolding op_at
op_line_reads l name args jumps names all h =
    let words : Line = name_of name ∷ (args ++ map decimal jumps) in
    let front : AllByRecursion IsNoHint words = ((name_front (name_of name) (op_is_name name)).no_hint, all_both IsNoHint args (map decimal jumps) (names_front args names) (jumps_front jumps all)) in
    let says = words_of l words front h in
    let begins = saying_begins l (plain_saying words) (name_of name) (args ++ map decimal jumps) says refl in
    record {
      heard = plain_saying words;
      says = says;
      not_code = ap is_code_line begins.is ∙ op_is_no_code name;
      not_end = ap is_end_line begins.is ∙ op_is_no_end name;
      op = words_read (name_of name) args jumps (op_is_name name) names all;
    }

pub op_line_says : (l : Line) (s : Saying) (w : OpWords) → saying l ≡ Some s → op_at s ≡ Some w → said l ≡ Some (w.name ∷ (w.args ++ map decimal w.jumps))
unfolding op_at op_words
op_line_says l s w is h =
    let test = tested (length s.metadata == 0) (op_words s.words) w h in
    plain_said l s (w.name ∷ (w.args ++ map decimal w.jumps)) is test.0 (by s.words test.1)
  where
    by : (words : Line) → op_words words ≡ Some w → words ≡ w.name ∷ (w.args ++ map decimal w.jumps)
    by [] e = absurd (cc e)
    by (name ∷ words) e =
        let n = prefix_len is_name words in
        let named = tested (is_name name) (option_map (λ ns. words_with name (take n words) ns) (each decimal_at (drop n words))) w e in
        let read = maps (λ ns. words_with name (take n words) ns) (each decimal_at (drop n words)) w named.1 in
        let jumps = each_read decimal_at decimal (λ (word : List ℕ) (m : ℕ) (k : decimal_at word ≡ Some m). (decimal_read word m k).0) (drop n words) read.value read.is in
        ap (λ (ws : Line). name ∷ ws) (sym (take-append-drop n words) ∙ ap (λ (back : Line). take n words ++ back) jumps)
        ∙ ap (λ (v : OpWords). v.name ∷ (v.args ++ map decimal v.jumps)) read.image
