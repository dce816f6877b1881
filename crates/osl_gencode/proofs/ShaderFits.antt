-- A well typed shader: its names and metadata are what valid code asks.
use Rattle.std.proofs.Common.{◌≡◌, ℕ, zero, suc, ◌<◌, ◌≤◌, List, [], ◌∷◌, length, map, Option, Some, None, Bool, true, false, not, refl, sym, ap, ◌∙◌, arith}
use Rattle.std.specs.Prelude.{slice_get, IsTrue, nat_eq, nat_le, ◌&&◌, ◌||◌, ◌==◌}
use Rattle.std.specs.List.{list_all, flat_map}
use Rattle.std.specs.Str.{bytes_eq}
use Rattle.std.specs.Char.{is_ascii_alphabetic, is_ascii_alphanumeric}
use Rattle.std.proofs.lemmas.Bool.{or_left, or_right, le-leb, eqb-true}
use Rattle.std.proofs.lemmas.List.Sums.{list_all-from_AllPass}
use Rattle.std.proofs.lemmas.Slice.Eq.{bytes_eq-Decides}
use Rattle.osl_layer.specs.Globals.{global_named}
use Rattle.osl_layer.specs.declared.global.GlobalName.{GlobalName}
use Rattle.osl_tree.specs.Lexical.{IsWord, word, begins_word, is_word_byte}
use Rattle.osl_typed.specs.declared.shader.TypedDatum.{TypedDatum}
use Rattle.osl_typed.specs.declared.shader.TypedParam.{TypedParam}
use Rattle.osl_typed.specs.declared.shader.TypedShader.{TypedShader}
use Rattle.osl_typed.specs.Frames.{leaves_of}
use Rattle.osl_typed.specs.Metadata.{datum_value}
use Rattle.osl_typed_runs.proofs.LeafKinds.{all_get, frame_all}
use Rattle.osl_typed_runs.proofs.MetadataTypes.{datum_typed}
use Rattle.osl_welltyped.specs.WellTyped as well
use Rattle.osl_welltyped.specs.WellTyped.{IsWellTyped, IsDatum, AreMetadata, kinds_of_formals, as_formal, as_formals, names_of, differ, variable_fits}
use Rattle.oso_code.specs.declared.raw.Raw.{Raw}
use Rattle.oso_code.specs.Holding.{is_type}
use Rattle.oso_code.specs.Names.{is_name, begins_name, continues_name, is_joiner, longest_name, main_name}
use Rattle.oso_code.specs.Symbols.{datum_fits, header_fits}
use Rattle.oso_code.proofs.Members.{and_both, both_and}
use Rattle.osl_gencode.specs.OwnNames.{is_own}
use Rattle.osl_gencode.specs.ShaderSymbols.{ParamsFit}
use Rattle.osl_gencode.specs.StandsFor.{meta_of}
use Rattle.osl_gencode.proofs.OwnSymbols.{differ_eq}
use Rattle.osl_gencode.proofs.ShaderFrames.{shader_frame}
use Rattle.osl_gencode.proofs.ValuesFit.{meta_fits}

-- ---- words are names

begins : (c : ℕ) → begins_word c ≡ true → begins_name c ≡ true
begins c h = by_letter (is_ascii_alphabetic c) refl h
  where
    by_letter : (t : Bool) → is_ascii_alphabetic c ≡ t → (is_ascii_alphabetic c || nat_eq c 95) ≡ true → begins_name c ≡ true
    by_letter true e k = or_left (is_ascii_alphabetic c) (is_joiner c) e
    by_letter false e k = or_right (is_ascii_alphabetic c) (is_joiner c) (or_left (c == 95) (c == 36) (ap (λ z. z || nat_eq c 95) (sym e) ∙ k))

continues : (c : ℕ) → is_word_byte c ≡ true → continues_name c ≡ true
continues c h = or_left (is_ascii_alphanumeric c || is_joiner c) (c == 46) (by_letter (is_ascii_alphanumeric c) refl h)
  where
    by_letter : (t : Bool) → is_ascii_alphanumeric c ≡ t → (is_ascii_alphanumeric c || nat_eq c 95) ≡ true → (is_ascii_alphanumeric c || is_joiner c) ≡ true
    by_letter true e k = or_left (is_ascii_alphanumeric c) (is_joiner c) e
    by_letter false e k = or_right (is_ascii_alphanumeric c) (is_joiner c) (or_left (c == 95) (c == 36) (ap (λ z. z || nat_eq c 95) (sym e) ∙ k))

all_continue : (cs : List ℕ) → list_all is_word_byte cs ≡ true → list_all continues_name cs ≡ true
all_continue [] h = refl
all_continue (c ∷ cs) h =
    let p = and_both (is_word_byte c) (list_all is_word_byte cs) h in
    both_and (continues_name c) (list_all continues_name cs) (continues c p.0) (all_continue cs p.1)

pub word_name : (name : List ℕ) → IsWord name → length name ≤ longest_name → IsTrue (is_name name)
word_name _ (word c cs first rest) short =
    both_and (begins_name c && list_all continues_name cs) (nat_le (length (c ∷ cs)) longest_name) (both_and (begins_name c) (list_all continues_name cs) (begins c first) (all_continue cs (list_all-from_AllPass is_word_byte cs rest))) (le-leb (length (c ∷ cs)) longest_name short)

-- and no names of the compiler's
pub word_own : (name : List ℕ) → IsWord name → is_own name ≡ false
word_own _ (word c cs first rest) = by_dollar (c == 36) refl
  where
    by_dollar : (t : Bool) → (c == 36) ≡ t → (c == 36) ≡ false
    by_dollar true e = absurd (let f : false ≡ true = ap begins_word (sym (eqb-true c 36 e)) ∙ first in cc f)
    by_dollar false e = e

-- ---- names

neither : (o : Option GlobalName) (b : Bool) → (elim o [ None ↦ false | Some g ↦ true ] || b) ≡ false → (o ≡ None) × (b ≡ false)
neither None b h = (refl, h)
neither (Some g) b h = absurd (cc h)

-- no parameter has the name of an earlier one
names_differ : (ps : List TypedParam) (j k : ℕ) (p q : TypedParam) → differ (names_of ps) ≡ true → j < k → slice_get ps j ≡ Some p → slice_get ps k ≡ Some q → bytes_eq q.name p.name ≡ false
names_differ [] j k p q h lt here there = absurd (cc here)
names_differ (x ∷ ps) j zero p q h lt here there = absurd (omega (arith, lt))
names_differ (x ∷ ps) zero (suc k) p q h lt here there =
    let s : Some x ≡ Some p = here in
    let e : x ≡ p = cc s in
    let all = (and_both (list_all (λ other. not (bytes_eq x.name other)) (names_of ps)) (differ (names_of ps)) h).0 in
    differ_eq q.name p.name (λ same. absurd (
    let f : bytes_eq x.name q.name ≡ true = (bytes_eq-Decides x.name q.name).1 (ap (λ z. z.name) e ∙ sym same) in
    let g = name_at ps k q (λ other. not (bytes_eq x.name other)) all there in
    let z : true ≡ false = sym g ∙ ap not f in cc z))
  where
    name_at : (xs : List TypedParam) (i : ℕ) (y : TypedParam) (test : List ℕ → Bool) → list_all test (names_of xs) ≡ true → slice_get xs i ≡ Some y → test y.name ≡ true
    name_at [] i y test a at = absurd (cc at)
    name_at (w ∷ xs) zero y test a at = let s : Some w ≡ Some y = at in let e : w ≡ y = cc s in ap (λ z. test z.name) (sym e) ∙ (and_both (test w.name) (list_all test (names_of xs)) a).0
    name_at (w ∷ xs) (suc i) y test a at = name_at xs i y test ((and_both (test w.name) (list_all test (names_of xs)) a).1) at
names_differ (x ∷ ps) (suc j) (suc k) p q h lt here there =
    names_differ ps j k p q ((and_both (list_all (λ other. not (bytes_eq x.name other)) (names_of ps)) (differ (names_of ps)) h).1) (omega (arith, lt)) here there

-- ---- the whole

module _ (t : TypedShader) (is : IsWellTyped t) where
  param_type : (k : ℕ) (p : TypedParam) → slice_get t.params k ≡ Some p → IsTrue (is_type p.ty)
  param_type k p at = all_get is_type (flat_map (leaves_of t.structures) t.frame) k p.ty (frame_all t.structures is.rules.structures t.frame is.rules.frame.fit) ((shader_frame t is.rules).first k p at)

  module _ (short : t.longest_word ≤ longest_name) where
    name_fits : (name : List ℕ) → well.IsName t name → IsTrue (is_name name)
    name_fits name h = let s = h.short in word_name name h.word (omega (arith, s, short))

    data_fit : (metadata : List TypedDatum) → AreMetadata t metadata → IsTrue (list_all datum_fits (map meta_of metadata))
    data_fit [] are = refl
    data_fit (datum ∷ metadata) are =
        let one = are.each 0 datum refl in
        both_and (datum_fits (meta_of datum)) (list_all datum_fits (map meta_of metadata)) (meta_fits datum.ty datum.name (datum_value datum) (name_fits datum.name one.name) one.type (datum_typed t is.rules.structures datum one)) (data_fit metadata (record { each = λ k d at. are.each (suc k) d at }))

    pub params_fit : ParamsFit t
    params_fit = record {
      each = λ k p at.
          let n = is.names.params k p at in
          let r = neither (global_named p.name) (bytes_eq p.name main_name) ((is.rules.params k p at).free) in
          record { name = name_fits p.name n; body = r.1; free = r.0; word = word_own p.name n.word; type = param_type k p at; metas = data_fit p.metadata (is.metadata.params k p at) };
      differ = λ j k p q lt here there. names_differ t.params j k p q is.rules.names lt here there;
    }

    -- the shader's own name and metadata
    pub shader_header : (raw : Raw) → raw.name ≡ t.name → raw.metas ≡ map meta_of t.metadata → IsTrue (header_fits raw)
    shader_header raw name metas = both_and (is_name raw.name) (list_all datum_fits raw.metas) (ap is_name name ∙ name_fits t.name is.names.shader) (ap (list_all datum_fits) metas ∙ data_fit t.metadata is.metadata.shader)
