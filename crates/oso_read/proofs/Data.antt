-- Data of metadata: a hint that is found whole, what is written is read, and what is read was written.
use Rattle.std.proofs.Common.{codes, ◌≡◌, ℕ, ◌+◌, ◌-◌, ◌≤◌, Bool, true, false, ◌&&◌, ◌==◌, cond, List, [], ◌∷◌, ◌++◌, length, length-append, take, Option, Some, None, refl, sym, ap, subst, ◌∙◌, arith}
use Rattle.std.specs.Prelude.{nat_le, option_map, slice_index}
use Rattle.std.specs.List.{list_all, AllByRecursion}
use Rattle.std.specs.Str.{bytes_eq}
use Rattle.std.proofs.lemmas.Bool.{and_parts, and_from, eq-eqb, eqb-true, leb-true, le-leb, lt-ltb, cond-true}
use Rattle.std.proofs.lemmas.List.{get_or_at, take_at}
use Rattle.std.proofs.lemmas.Slice.Eq.{bytes_eq-Decides}
use Rattle.osl_value.specs.declared.types.Ty.{Ty}
use Rattle.oso_code.specs.declared.symbol.Meta.{Meta}
use Rattle.oso_code.specs.Holding.{is_type, makes_up}
use Rattle.oso_code.specs.Names.{is_name}
use Rattle.oso_code.specs.Symbols.{datum_fits}
use Rattle.osl_valuetext.specs.declared.number.Spelling.TheVariants.{Canonical}
use Rattle.osl_valuetext.specs.Words.{Line, behind, type_text, value_words}
use Rattle.oso_write.specs.Lines.{meta_text}
use Rattle.osl_valuetext.specs.declared.place.Place.{Place}
use Rattle.osl_valuetext.specs.declared.place.Place.TheVariants.{Open, Braced}
use Rattle.osl_valuetext.specs.Splitting.{next, is_open, is_blank, pieces, is_comma}
use Rattle.oso_read.specs.Hints.{closes, is_hint, is_datum}
use Rattle.osl_valuetext.specs.Literals.{◌>>=◌, Values, string_at, values_at}
use Rattle.oso_read.specs.Data.{meta_type_at, datum_of, is_meta, in_braces, meta_at}
use Rattle.osl_valuetext.proofs.Runs.{run, run_both, Holds, pieces_joined, rejoined, pieces-rejoined}
use Rattle.osl_valuetext.proofs.Rounds.{between}
use Rattle.oso_read.proofs.Dull.{is_printed, within, dull_name}
use Rattle.osl_valuetext.proofs.Escapes.{AreBytes, string_written, string_read}
use Rattle.osl_valuetext.proofs.Plains.{bound}
use Rattle.oso_read.proofs.MetaTypes.{meta_type_written, meta_type_read}
use Rattle.osl_valuetext.proofs.ValueWords.{MakesUp, values_written, values_read}
use Rattle.oso_read.proofs.MadeUp.{makes_up_facts}
use Rattle.oso_read.proofs.Fields.{IsField, IsWord, within_both, printed_both, dull_field, type_field, value_fields}

-- a datum that a text can spell
pub record IsData (m : Meta) : Type 0 where
  pub fits : datum_fits m ≡ true
  pub bytes : AllByRecursion AreBytes m.texts

record Parts (m : Meta) : Type 0 where
  name : is_name m.name ≡ true
  type : is_type m.ty ≡ true
  makes : MakesUp m.ty m.nums m.texts

parts_of : (m : Meta) → datum_fits m ≡ true → Parts m
parts_of m h =
    let all = and_parts (is_name m.name && is_type m.ty) (makes_up m.ty m.nums m.texts) h in
    let front = and_parts (is_name m.name) (is_type m.ty) all.0 in
    record { name = front.0; type = front.1; makes = makes_up_facts m.ty m.nums m.texts all.1 }

-- ---- the hint

abbrev fields : Meta → List (List ℕ)
fields m = m.name ∷ value_words m.ty.base m.nums m.texts

abbrev body : Meta → List ℕ
body m = type_text m.ty ++ behind 44 (fields m)

-- a datum's text is this hint
abbrev hint : List ℕ → List ℕ
hint text = 37 ∷ 109 ∷ 101 ∷ 116 ∷ 97 ∷ 123 ∷ (text ++ 125 ∷ [])

meta_is : (m : Meta) → meta_text m ≡ hint (body m)
meta_is m = refl

behind_inside : (words : List (List ℕ)) → AllByRecursion IsField words → within Braced (behind 44 words) ≡ Some Braced
behind_inside [] all = refl
behind_inside (word ∷ words) all = within_both Braced Braced Braced word (behind 44 words) all.0.inside (behind_inside words all.1)

behind_printed : (words : List (List ℕ)) → AllByRecursion IsField words → list_all is_printed (behind 44 words) ≡ true
behind_printed [] all = refl
behind_printed (word ∷ words) all = printed_both word (behind 44 words) all.0.printed (behind_printed words all.1)

all_commas : (words : List (List ℕ)) → AllByRecursion IsField words → AllByRecursion (Holds is_comma) words
all_commas [] all = tt
all_commas (word ∷ words) all = (all.0.comma, all_commas words all.1)

-- bytes that stay in braces part nothing
run_within : (test : ℕ → Bool) (p q : Place) (xs : List ℕ) → is_open p ≡ false → within p xs ≡ Some q → run test p xs ≡ Some q
run_within test p q [] shut h = h
run_within test p q (c ∷ cs) shut h = ap (λ (b : Bool). cond (b && test c) None (run test (next p c) cs)) shut ∙ go (is_open (next p c)) refl (run_within test (next p c) q cs) h
  where
    go : (b : Bool) → is_open (next p c) ≡ b → (is_open (next p c) ≡ false → within (next p c) cs ≡ Some q → run test (next p c) cs ≡ Some q)
        → cond b None (within (next p c) cs) ≡ Some q → run test (next p c) cs ≡ Some q
    go true e more k = absurd cc
    go false e more k = more e k

closed_at_end : (p : Place) (xs : List ℕ) → within p xs ≡ Some Braced → closes p (xs ++ 125 ∷ []) ≡ true
closed_at_end p [] h = let same : Braced ≡ p = cc in subst (λ (q : Place). closes q (125 ∷ []) ≡ true) same refl
closed_at_end p (c ∷ cs) h = go (is_open (next p c)) (closed_at_end (next p c) cs) h
  where
    go : (b : Bool) → (within (next p c) cs ≡ Some Braced → closes (next p c) (cs ++ 125 ∷ []) ≡ true)
        → cond b None (within (next p c) cs) ≡ Some Braced → cond b (length (cs ++ 125 ∷ []) == 0) (closes (next p c) (cs ++ 125 ∷ [])) ≡ true
    go true more k = absurd cc
    go false more k = more k

hint_word : (text : List ℕ) → within Braced text ≡ Some Braced → list_all is_printed text ≡ true → IsWord (hint text)
hint_word text inside printed =
    record {
      blank = run_both is_blank Braced Braced Open text (125 ∷ []) (run_within is_blank Braced Braced text refl inside) refl;
      some = lt-ltb 0 (length (hint text)) (omega arith);
      printed = printed_both text (125 ∷ []) printed refl;
    }

hint_is_hint : (text : List ℕ) → within Braced text ≡ Some Braced → is_hint (hint text) ≡ true
unfolding is_hint
hint_is_hint text inside = closed_at_end Braced text inside

-- a word that is a datum
pub record IsBack (word : List ℕ) : Type 0 where
  pub whole : IsWord word
  pub hint : is_hint word ≡ true
  pub datum : is_datum word ≡ true

pub meta_back : (m : Meta) → IsData m → IsBack (meta_text m)
meta_back m is =
    let parts = parts_of m is.fits in
    let ty : IsField (type_text m.ty) = type_field m.ty parts.type in
    let name : IsField m.name = dull_field m.name (dull_name m.name parts.name) in
    let values = value_fields m.ty.base m.nums m.texts parts.makes.fit is.bytes in
    let inside : within Braced (body m) ≡ Some Braced = within_both Braced Braced Braced (type_text m.ty) (behind 44 (fields m)) ty.inside (behind_inside (fields m) (name, values)) in
    let printed : list_all is_printed (body m) ≡ true = printed_both (type_text m.ty) (behind 44 (fields m)) ty.printed (behind_printed (fields m) (name, values)) in
    record { whole = hint_word (body m) inside printed; hint = hint_is_hint (body m) inside; datum = refl }

-- ---- written and read

hint_opened : (text : List ℕ) → meta_at (hint text) ≡ datum_of (pieces is_comma Open text)
unfolding meta_at
hint_opened text =
    let word = hint text in
    let long : length word ≡ length text + 7 = omega (arith, length-append text (125 ∷ [])) in
    let last : slice_index word (length word - 1) ≡ 125 = get_or_at (37 ∷ 109 ∷ 101 ∷ 116 ∷ 97 ∷ 123 ∷ text) 125 [] 0 (length word - 1) (omega arith) in
    let test : is_meta word ≡ true = and_from _ _ (and_from _ _ (le-leb 7 (length word) (omega arith)) refl) (eq-eqb _ 125 last) in
    cond-true _ _ _ test ∙ ap (λ (t : List ℕ). datum_of (pieces is_comma Open t)) (take_at text (125 ∷ []) (length word - 7) (omega arith))

abbrev made : Ty → List ℕ → Values → Meta
made ty name v = record { ty = ty; name = name; nums = v.nums; texts = v.texts }

abbrev datum_named : List ℕ → Line → Ty → Option Meta
datum_named name values ty = cond (is_name name) (option_map (made ty name) (values_at Canonical string_at ty values)) None

datum_written : (m : Meta) → IsData m → datum_of (type_text m.ty ∷ fields m) ≡ Some m
unfolding datum_of
datum_written m is =
    let parts = parts_of m is.fits in
    ap (λ (o : Option Ty). o >>= datum_named m.name (value_words m.ty.base m.nums m.texts)) (meta_type_written m.ty parts.type)
    ∙ cond-true _ _ _ parts.name
    ∙ ap (option_map (made m.ty m.name)) (values_written Canonical string_at AreBytes string_written m.ty.base m.ty.len m.nums m.texts parts.makes is.bytes)

pub meta_written : (m : Meta) → IsData m → meta_at (meta_text m) ≡ Some m
meta_written m is =
    let parts = parts_of m is.fits in
    let ty : IsField (type_text m.ty) = type_field m.ty parts.type in
    let name : IsField m.name = dull_field m.name (dull_name m.name parts.name) in
    let values = value_fields m.ty.base m.nums m.texts parts.makes.fit is.bytes in
    hint_opened (body m)
    ∙ ap datum_of (pieces_joined is_comma 44 (type_text m.ty) (fields m) refl ty.comma (all_commas (fields m) (name, values)))
    ∙ datum_written m is

-- what a datum was read of
pub record WasData (word : List ℕ) (m : Meta) : Type 0 where
  pub text : word ≡ meta_text m
  pub bytes : AllByRecursion AreBytes m.texts

record WereFields (words : Line) (m : Meta) : Type 0 where
  text : words ≡ type_text m.ty ∷ fields m
  bytes : AllByRecursion AreBytes m.texts

datum_read : (words : Line) (m : Meta) → datum_of words ≡ Some m → WereFields words m
unfolding datum_of
datum_read [] m e = absurd cc
datum_read (ty ∷ []) m e = absurd cc
datum_read (ty ∷ name ∷ values) m e = let a = bound (meta_type_at ty) (datum_named name values) m e in go a.0 a.1 (is_name name) a.2
  where
    from : (t : Ty) → meta_type_at ty ≡ Some t → (o : Option Values) → values_at Canonical string_at t values ≡ o → option_map (made t name) o ≡ Some m → WereFields (ty ∷ name ∷ values) m
    from t known (Some v) read h =
        let is = values_read AreBytes string_at string_read t values v read in
        let same : made t name v ≡ m = cc in
        let whole : WereFields (ty ∷ name ∷ values) (made t name v) =
        record {
          text = ap (λ (w : List ℕ). w ∷ name ∷ values) (meta_type_read ty t known).0 ∙ ap (λ (ws : Line). type_text t ∷ name ∷ ws) is.words_are;
          bytes = is.all;
        } in
        subst (λ (n : Meta). WereFields (ty ∷ name ∷ values) n) same whole
    from t known None read h = absurd cc

    go : (t : Ty) → meta_type_at ty ≡ Some t → (b : Bool) → cond b (option_map (made t name) (values_at Canonical string_at t values)) None ≡ Some m → WereFields (ty ∷ name ∷ values) m
    go t known true h = from t known (values_at Canonical string_at t values) refl h
    go t known false h = absurd cc

only_comma : (c : ℕ) → is_comma c ≡ true → c ≡ 44
only_comma c h = eqb-true c 44 h

round_braces : (word : List ℕ) → is_meta word ≡ true → word ≡ hint (in_braces word)
round_braces word h =
    let parts = and_parts (nat_le 7 (length word) && bytes_eq (take 6 word) (codes "%meta{")) (slice_index word (length word - 1) == 125) h in
    let front = and_parts (nat_le 7 (length word)) (bytes_eq (take 6 word) (codes "%meta{")) parts.0 in
    let long : 7 ≤ length word = leb-true 7 (length word) front.0 in
    between (codes "%meta{") 125 word (omega arith) ((bytes_eq-Decides (take 6 word) (codes "%meta{")).0 front.1) (eqb-true _ 125 parts.1)

pub meta_read : (word : List ℕ) (m : Meta) → meta_at word ≡ Some m → WasData word m
unfolding meta_at
meta_read word m e = go (is_meta word) refl e
  where
    go : (b : Bool) → is_meta word ≡ b → cond b (datum_of (pieces is_comma Open (in_braces word))) None ≡ Some m → WasData word m
    go true k h =
        let is = datum_read (pieces is_comma Open (in_braces word)) m h in
        let inner : in_braces word ≡ body m = sym (pieces-rejoined is_comma 44 only_comma Open (in_braces word)) ∙ ap (rejoined 44) is.text in
        record { text = round_braces word k ∙ ap hint inner; bytes = is.bytes }
    go false k h = absurd cc
