-- The canonical text in parts, as the writer appends them.
use Rattle.std.proofs.Common.{codes, ◌≡◌, ℕ, ◌+◌, ◌<◌, List, [], ◌∷◌, ◌++◌, length, get_or, take, map, sym, ap, ◌∙◌, append_assoc}
use Rattle.std.specs.List.{flat_map}
use Rattle.std.proofs.lemmas.List.{take_more, map-append, flat_map_more}
use Rattle.std.proofs.lemmas.List.Concat.{flat_map-append}
use Rattle.oso_code.specs.declared.raw.Raw.{Raw}
use Rattle.osl_valuetext.specs.Words.{behind}
use Rattle.oso_write.specs.Lines.{header, shader_line, symbol_line, section_lines}
use Rattle.oso_write.specs.Canon.{line_text, canon}

canon_parts : (raw : Raw) → canon raw ≡ line_text header ++ (line_text (shader_line raw) ++ (flat_map line_text (map symbol_line raw.symbols) ++ (flat_map line_text (flat_map (section_lines raw) raw.sections) ++ line_text (codes "end" ∷ []))))
unfolding canon
canon_parts raw =
    let symbols = map symbol_line raw.symbols in
    let sections = flat_map (section_lines raw) raw.sections in
    let last = flat_map-append line_text (symbols ++ sections) ((codes "end" ∷ []) ∷ []) in
    let both = flat_map-append line_text symbols sections in
    ap (λ (t : List ℕ). line_text header ++ (line_text (shader_line raw) ++ t))
    (last ∙ ap (λ (t : List ℕ). t ++ line_text (codes "end" ∷ [])) both ∙ append_assoc (flat_map line_text symbols) (flat_map line_text sections) (line_text (codes "end" ∷ [])))

five_parts : (out a b c d e : List ℕ) → (((((out ++ a) ++ b) ++ c) ++ d) ++ e) ≡ out ++ (a ++ (b ++ (c ++ (d ++ e))))
five_parts out a b c d e = simp append_assoc

-- its five parts, appended one after another
pub canon_appended : (raw : Raw) (out one two three four : List ℕ) → one ≡ out ++ line_text header → two ≡ one ++ line_text (shader_line raw)
    → three ≡ two ++ flat_map line_text (map symbol_line raw.symbols) → four ≡ three ++ flat_map line_text (flat_map (section_lines raw) raw.sections)
    → four ++ line_text (codes "end" ∷ []) ≡ out ++ canon raw
canon_appended raw out one two three four a b c d =
    let symbols = flat_map line_text (map symbol_line raw.symbols) in
    let sections = flat_map line_text (flat_map (section_lines raw) raw.sections) in
    let last = line_text (codes "end" ∷ []) in
    ap (λ (t : List ℕ). t ++ last) (d ∙ ap (λ (t : List ℕ). t ++ sections) (c ∙ ap (λ (t : List ℕ). t ++ symbols) (b ∙ ap (λ (t : List ℕ). t ++ line_text (shader_line raw)) a)))
    ∙ five_parts out (line_text header) (line_text (shader_line raw)) symbols sections last ∙ ap (λ (t : List ℕ). out ++ t) (sym (canon_parts raw))
