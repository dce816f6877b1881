-- The code of a shader, by its symbols, the sections of its defaults and its body: it is valid, and means what the source means.
use Rattle.std.proofs.Common.{◌≡◌, ℕ, zero, suc, ◌+◌, ◌<◌, ◌≤◌, List, [], ◌∷◌, ◌++◌, length, map, replicate, Option, Some, None, Bool, true, false, pos, refl, sym, ap, ◌∙◌, subst, arith}
use Rattle.std.specs.Prelude.{slice_get, drop, IsTrue, ◌==◌, if◌then◌else◌}
use Rattle.std.specs.List.{list_all, flat_map}
use Rattle.std.proofs.lemmas.Bool.{lt-ltb, eq-eqb}
use Rattle.osl_value.specs.declared.types.Base.TheVariants.{Closure}
use Rattle.osl_value.specs.declared.types.Ty.{Ty}
use Rattle.osl_value.specs.AnyValue.{AnyValue, Of, Parts, type_of, zero_value}
use Rattle.osl_value.specs.Numbers.{is_zero}
use Rattle.osl_value.specs.Plain.{Plain, zero_of}
use Rattle.osl_value.specs.Types.{same_base, number_count, text_count}
use Rattle.osl_layer.specs.Layer.{Inputs, Default, AreInputs}
use Rattle.osl_typed.specs.declared.shader.TypedParam.{TypedParam}
use Rattle.osl_typed.specs.declared.shader.TypedShader.{TypedShader}
use Rattle.osl_typed.specs.Ends.{StatementEnd, Next, Breaks, Continues, Returns, Exits, Spent}
use Rattle.osl_typed.specs.Frames.{leaves_of}
use Rattle.osl_typed.specs.SourceRun as source
use Rattle.osl_typed.specs.SourceRun.{default_held, functions_of, source_run}
use Rattle.osl_typed.specs.State.{State}
use Rattle.osl_typed.specs.Statements.{exec_all}
use Rattle.osl_typed_runs.specs.Parameters.{parameters_of}
use Rattle.osl_welltyped.specs.WellTyped.{IsWellTyped}
use Rattle.oso_code.specs.declared.op.Op.{Op}
use Rattle.oso_code.specs.declared.op.Section.{Section}
use Rattle.oso_code.specs.declared.raw.Raw.{Raw}
use Rattle.oso_code.specs.declared.symbol.Symbol.{Symbol}
use Rattle.oso_code.specs.CodeRun as code
use Rattle.oso_code.specs.CodeRun.{code_run, sources_of}
use Rattle.oso_code.specs.Names.{longest_name}
use Rattle.oso_code.specs.Ranges.{steps_of}
use Rattle.oso_code.specs.Sections.{is_zeros, may_have_section, owner_fits, owner_follows}
use Rattle.oso_code.specs.Symbols.{is_parameter, is_empty}
use Rattle.oso_code.specs.Valid.{IsValid, most_nested, most_ops, most_slots, most_symbols, slots_of}
use Rattle.oso_code.proofs.Members.{both_and}
use Rattle.osl_gencode.specs.Bodies.{Body}
use Rattle.osl_gencode.specs.Codes.{StmtCode}
use Rattle.osl_gencode.specs.Growth.{Extends}
use Rattle.osl_gencode.specs.OwnNames.{AreNamed}
use Rattle.osl_gencode.specs.Pieces.{Piece}
use Rattle.osl_gencode.specs.SectionCodes.{source_frame, section_of, HaveSections, none, stated, more}
use Rattle.osl_gencode.specs.ShaderSymbols.{Defaults, begins_at, IsShaderBody, AreSymbols, LocalSymbols, with_stated, EndsAs}
use Rattle.osl_gencode.specs.Relation.{Wired}
use Rattle.osl_gencode.specs.StandsFor.{StandsFor, meta_of}
use Rattle.osl_gencode.proofs.FittingOps.{op_later}
use Rattle.osl_gencode.proofs.Growing.{extends_self, extends_on, get_some}
use Rattle.osl_gencode.proofs.LayerCode.{covers_raw, section_holds, may_be_given, runs_same}
use Rattle.osl_gencode.proofs.LayerStart.{start_wired}
use Rattle.osl_gencode.proofs.SectionRuns as runs
use Rattle.osl_gencode.proofs.ShaderFits.{shader_header}
use Rattle.osl_gencode.proofs.ShaderFrames.{shader_frame}
use Rattle.osl_gencode.proofs.StartSymbols.{shader_symbols, shader_room, ci_first, params_told, params_within, is_param}
use Rattle.osl_gencode.proofs.ValidCode as valid
use Rattle.osl_gencode.proofs.ValidCode.{IsSection, Follow, AreSections, code_valid}

-- ---- zeros

all_zero : (n : ℕ) → list_all is_zero (replicate n (pos 0)) ≡ true
all_zero zero = refl
all_zero (suc n) = all_zero n

all_empty : (n : ℕ) → list_all (is_empty {X = ℕ}) (replicate n []) ≡ true
all_empty zero = refl
all_empty (suc n) = all_empty n

-- what states zero states zeros
zeros_stated : (ty : Ty) (value : Option Plain) → code.stated ty value ≡ zero_value ty → is_zeros value ≡ true
zeros_stated ty None is = refl
zeros_stated ty (Some v) is = by_closure (same_base ty.base Closure) is
  where
    by_closure : (t : Bool) → Of v ≡ (if t then Parts [] else Of (zero_of ty)) → is_zeros (Some v) ≡ true
    by_closure true e = absurd (cc e)
    by_closure false e =
        let same : v ≡ zero_of ty = cc e in
        ap (λ z. is_zeros (Some z)) same ∙ both_and (list_all is_zero (replicate (number_count ty) (pos 0))) (list_all (is_empty {X = ℕ}) (replicate (text_count ty) [])) (all_zero (number_count ty)) (all_empty (text_count ty))

assoc : {A : Type 0} (xs ys zs : List A) → (xs ++ ys) ++ zs ≡ xs ++ (ys ++ zs)
assoc [] ys zs = refl
assoc (x ∷ xs) ys zs = ap (λ l. x ∷ l) (assoc xs ys zs)

drop_at : (ps : List TypedParam) (n : ℕ) (p : TypedParam) → slice_get ps n ≡ Some p → drop n ps ≡ p ∷ drop (n + 1) ps
drop_at [] n p at = absurd (cc at)
drop_at (q ∷ ps) zero p at = let s : Some q ≡ Some p = at in let e : q ≡ p = cc s in ap (λ z. z ∷ ps) e
drop_at (q ∷ ps) (suc n) p at = let e : suc (n + 1) ≡ suc n + 1 = omega arith in drop_at ps n p at ∙ ap (λ z. p ∷ drop z (q ∷ ps)) e

drop_all : (ps : List TypedParam) → drop (length ps) ps ≡ []
drop_all [] = refl
drop_all (p ∷ ps) = drop_all ps

-- an end is as itself, where nothing is stated later
ends_same : (later : State → State) → ((s : State) → later s ≡ s) → (o : StatementEnd) → EndsAs later o o
ends_same later still (Next s) = ap Next (sym (still s))
ends_same later still (Breaks s) = refl
ends_same later still (Continues s) = refl
ends_same later still (Returns vs s) = refl
ends_same later still (Exits s) = refl
ends_same later still (Spent s) = (s, refl, refl)

-- ---- validity

module _ (raw : Raw) (d : ℕ) where
  -- a piece is a section of its owner's
  piece_section : (owner : Option ℕ) (ops0 ops1 : List Op) (syms0 syms1 : List Symbol) → Extends ops1 raw.ops → Extends syms1 raw.symbols → IsTrue (owner_fits raw.symbols owner) → Piece raw.kind owner false d ops0 ops1 syms0 syms1 → IsSection raw d (section_of owner ops0 ops1)
  piece_section owner ops0 ops1 syms0 syms1 ops syms fits p =
      let r = p.ranges raw.symbols (steps_of raw) (covers_raw raw ops1 (length ops0) ops) in
      record {
        owner = fits;
        ordered = p.grows.ops.longer;
        within = ops.longer;
        ops = λ k op low high at. op_later syms1 raw.symbols syms raw.kind owner op (p.fits.each k op low (sym (ops.same k high) ∙ at));
        shaped = r.shaped;
        leaves = r.leaves;
        deep = r.deep;
      }

module _ (t : TypedShader) (b : Body) (defaults : Defaults) (d : ℕ) (raw : Raw) (kind : raw.kind ≡ t.kind) (symbols : AreSymbols t defaults b raw.symbols) where
  owned : (n : ℕ) (p : TypedParam) → slice_get t.params n ≡ Some p → defaults n ≡ None → IsTrue (owner_fits raw.symbols (Some n))
  owned n p at unstated =
      let a = symbols.params n p at in
      ap may_have_section a.here ∙ both_and (is_parameter a.symbol.class) (is_zeros a.symbol.value) (is_param p.output a.symbol.class a.is.class) (zeros_stated a.symbol.ty a.symbol.value (a.is.value ∙ ap (begins_at a.symbol.ty) unstated))

  -- each earlier parameter's section may stand before this one
  abbrev Later : ℕ → Section → Type 0
  Later n section = (q : ℕ) → q < n → IsTrue (owner_follows (Some q) section.param)

  are_sections : (n : ℕ) (sections : List Section) (ops : List Op) (syms : List Symbol) (section : Section) (rest : List Section) → HaveSections t b defaults d n sections ops syms → Extends ops raw.ops → Extends syms raw.symbols → section.start ≡ length ops → IsSection raw d section → Follow raw d section rest → Later n section → raw.sections ≡ sections ++ section ∷ rest → AreSections raw d
  are_sections _ _ _ _ section rest (none syms) eo es starts is follow later are = record { first = section; rest = rest; are = are; begins = starts; is = is; follow = follow }
  are_sections _ _ _ _ section rest (stated n p v sections ops syms at given evaluates before) eo es starts is follow later are =
      are_sections n sections ops syms section rest before eo es starts is follow (λ q lt. later q (omega (arith, lt))) are
  are_sections _ _ _ _ section rest (more n p sections ops0 ops1 syms0 syms1 at unstated default before) eo es starts is follow later are =
      let one = section_of (Some n) ops0 ops1 in
      are_sections n sections ops0 syms0 one (section ∷ rest) before
      (extends_on ops0 ops1 raw.ops default.valid.grows.ops eo)
      (extends_on syms0 syms1 raw.symbols default.valid.grows.syms es)
      refl
      (piece_section raw d (Some n) ops0 ops1 syms0 syms1 eo es (owned n p at (unstated n (omega arith))) (subst (λ z. Piece z (Some n) false d ops0 ops1 syms0 syms1) (sym kind) default.valid))
      (valid.next one section rest (both_and (owner_follows (Some n) section.param) (section.start == length ops1) (later n (omega arith)) (eq-eqb section.start (length ops1) starts)) is follow)
      (λ q lt. lt-ltb q n lt)
      (are ∙ assoc sections (one ∷ []) (section ∷ rest))

  -- ---- meaning

  module _ (inputs : Inputs) (given : AreInputs (parameters_of t) inputs) where
    abbrev Goes : ℕ → List TypedParam → List Section → Type 0
    Goes k ps sections = runs.Sections b (sources_of raw inputs) (steps_of raw) raw.symbols inputs (source.shader_frame t inputs) (functions_of t) (exec_all (source.shader_frame t inputs) (functions_of t) t.body) defaults k ps sections

    shown : (k : ℕ) (p : TypedParam) → slice_get t.params k ≡ Some p → source.given_to t.params inputs k ≡ inputs k
    shown k p at = ap (λ z. if z then inputs k else Default) (lt-ltb k (length t.params) (get_some t.params k p at))

    wired : Wired b (source.given_to t.params inputs) (sources_of raw inputs)
    wired = start_wired t defaults b raw inputs symbols (may_be_given t inputs given)

    -- with nothing stated later, a default does the same
    alike : (k0 k : ℕ) (p : TypedParam) (s : State) → ((j : ℕ) → k ≤ j → defaults j ≡ None) → EndsAs (with_stated defaults inputs k) (default_held (source.shader_frame t inputs) (functions_of t) Default k0 p s) (default_held (source.shader_frame t inputs) (functions_of t) Default k0 p (with_stated defaults inputs k s))
    alike k0 k p s none_later =
        let frame = source.shader_frame t inputs in
        let still = λ (u : State). runs.ahead_none b (sources_of raw inputs) (steps_of raw) raw.symbols inputs frame (functions_of t) (exec_all frame (functions_of t) t.body) defaults k u none_later in
        subst (λ u. EndsAs (with_stated defaults inputs k) (default_held frame (functions_of t) Default k0 p s) (default_held frame (functions_of t) Default k0 p u)) (sym (still s)) (ends_same (with_stated defaults inputs k) still (default_held frame (functions_of t) Default k0 p s))

    goes_on : (n : ℕ) (sections : List Section) (ops : List Op) (syms : List Symbol) (rest : List Section) → HaveSections t b defaults d n sections ops syms → Extends ops raw.ops → Extends syms raw.symbols → Goes n (drop n t.params) rest → Goes 0 t.params (sections ++ rest)
    goes_on _ _ _ _ rest (none syms) eo es after = after
    goes_on _ _ _ _ rest (stated n p v sections ops syms at held evaluates before) eo es after =
        goes_on n sections ops syms rest before eo es (subst (λ ps. Goes n ps rest) (sym (drop_at t.params n p at)) (runs.stated n p (drop (n + 1) t.params) rest v held (shown n p at) (evaluates (source.given_to t.params inputs)) after))
    goes_on _ _ _ _ rest (more n p sections ops0 ops1 syms0 syms1 at unstated default before) eo es after =
        let one = section_of (Some n) ops0 ops1 in
        subst (Goes 0 t.params) (sym (assoc sections (one ∷ []) rest)) (
        goes_on n sections ops0 syms0 (one ∷ rest) before (extends_on ops0 ops1 raw.ops default.valid.grows.ops eo) (extends_on syms0 syms1 raw.symbols default.valid.grows.syms es) (
        subst (λ ps. Goes n ps (one ∷ rest)) (sym (drop_at t.params n p at)) (
        runs.more n p (drop (n + 1) t.params) one rest refl (unstated n (omega arith)) (shown n p at) (λ wanted. section_holds b raw [] ops0 ops1 syms0 syms1 (λ i. default_held (source_frame t i) (functions_of t) Default n p) inputs (source.given_to t.params inputs) (sources_of raw inputs) one default.code wired eo es refl refl) (λ wanted s. alike n (n + 1) p s (λ j le. unstated j (omega (arith, le)))) after)))

-- ---- the whole

module _ (t : TypedShader) (is : IsWellTyped t) (short : t.longest_word ≤ longest_name) (b : Body) (body : IsShaderBody t b) (defaults : Defaults) (d n : ℕ) (first symsP : List Symbol) (opsP : List Op) (sections : List Section) (raw : Raw)
    (kind : raw.kind ≡ t.kind) (name : raw.name ≡ t.name) (metas : raw.metas ≡ map meta_of t.metadata)
    (begin : LocalSymbols t defaults n first) (all : length (flat_map (leaves_of t.structures) t.frame) ≤ length t.params + n)
    (few : (k : ℕ) → length t.params ≤ k → defaults k ≡ None) (typed : (k : ℕ) (p : TypedParam) (v : AnyValue) → slice_get t.params k ≡ Some p → defaults k ≡ Some v → type_of v ≡ p.ty)
    (before : Extends first symsP) (named : AreNamed raw.symbols)
    (params : HaveSections t b defaults d (length t.params) sections opsP symsP)
    (main : StmtCode b [] opsP raw.ops symsP raw.symbols (λ inputs. exec_all (source_frame t inputs) (functions_of t) t.body))
    (main_valid : Piece t.kind None false d opsP raw.ops symsP raw.symbols)
    (made : raw.sections ≡ sections ++ section_of None opsP raw.ops ∷ []) where
  grown : Extends first raw.symbols
  grown = extends_on first symsP raw.symbols before main_valid.grows.syms

  symbols : AreSymbols t defaults b raw.symbols
  symbols = shader_symbols t defaults b n first raw.symbols body (shader_frame t is.rules) begin all grown named few typed

  -- the code is valid, where its sizes are within the limits
  pub shader_valid : length raw.symbols ≤ most_symbols → length raw.ops ≤ most_ops → slots_of raw.symbols ≤ most_slots → d ≤ most_nested → IsValid raw
  shader_valid few_symbols few_ops few_slots low =
      code_valid raw d (shader_header t is short raw name metas) named.fit
      (are_sections t b defaults d raw kind symbols (length t.params) sections opsP symsP (section_of None opsP raw.ops) [] params main_valid.grows.ops main_valid.grows.syms refl (piece_section raw d None opsP raw.ops symsP raw.symbols (extends_self raw.ops) (extends_self raw.symbols) refl (subst (λ z. Piece z None false d opsP raw.ops symsP raw.symbols) (sym kind) main_valid)) (valid.last (section_of None opsP raw.ops) refl (omega arith)) (λ q lt. refl) made)
      few_symbols few_ops few_slots low

  -- and stands for the source
  pub shader_stands : StandsFor raw t
  shader_stands = record {
    kind = kind;
    name = name;
    metas = metas;
    params = params_told t defaults b n first raw.symbols body (shader_frame t is.rules) begin all grown named;
    runs = λ inputs point budget given.
        let pw = params_within t defaults b n first raw.symbols body (shader_frame t is.rules) begin all grown in
        let ty = ap length body.types in
        let last = section_of None opsP raw.ops in
        runs_same t defaults b raw symbols (omega (arith, pw, ty)) (shader_room t defaults b n first raw.symbols body (shader_frame t is.rules) begin all grown) (ci_first t defaults b n first raw.symbols body (shader_frame t is.rules) begin all grown) inputs point budget given (
        subst (λ l. Goes t b defaults d raw kind symbols inputs given 0 t.params l) (sym made) (
        goes_on t b defaults d raw kind symbols inputs given (length t.params) sections opsP symsP (last ∷ []) params main_valid.grows.ops main_valid.grows.syms (
        subst (λ ps. Goes t b defaults d raw kind symbols inputs given (length t.params) ps (last ∷ [])) (sym (drop_all t.params)) (
        runs.last (length t.params) last refl few (section_holds b raw [] opsP raw.ops symsP raw.symbols (λ i. exec_all (source_frame t i) (functions_of t) t.body) inputs (source.given_to t.params inputs) (sources_of raw inputs) last main (wired t b defaults d raw kind symbols inputs given) (extends_self raw.ops) (extends_self raw.symbols) refl refl)))));
  }
