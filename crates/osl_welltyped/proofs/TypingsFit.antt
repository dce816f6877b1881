-- Every typing of a source is well typed.
use Rattle.std.proofs.Common.{◌≡◌, ℕ, zero, suc, ◌≤◌, true, false, not, ◌&&◌, inl, inr, List, [], ◌∷◌, length, map, Option, Some, refl, sym, ap, ◌∙◌, subst, arith}
use Rattle.std.specs.Prelude.{slice_get, is_some}
use Rattle.osl_overload.specs.declared.signature.Kind.TheVariants.{Value, Void}
use Rattle.osl_tree.specs.Files.{max_height}
use Rattle.osl_tree.specs.Lexemes.{lexemes}
use Rattle.osl_tree.specs.Lexical.{IsWord}
use Rattle.osl_tree.specs.declared.tree.Datum.{Datum}
use Rattle.osl_tree.specs.declared.tree.Definition.{Definition}
use Rattle.osl_tree.specs.declared.tree.Definition.TheVariants as definitions
use Rattle.osl_tree.specs.declared.tree.Function.{Function}
use Rattle.osl_tree.specs.declared.tree.Param.{Param}
use Rattle.osl_tree.specs.declared.tree.Structure as structure_tree
use Rattle.osl_tree.specs.declared.tree.Tree.{Tree}
use Rattle.osl_typed.specs.declared.shader.TypedDatum.{TypedDatum}
use Rattle.osl_typed.specs.declared.shader.TypedFunction.{TypedFunction}
use Rattle.osl_typed.specs.declared.shader.TypedParam.{TypedParam}
use Rattle.osl_typed.specs.declared.shader.TypedShader.{TypedShader}
use Rattle.osl_typed.specs.FileTyping as typing_rules
use Rattle.osl_typed.specs.FileTyping.{Above, at_the_top, lines_added, with_structure, structure_added, formals_added, result_kind, is_taken, function_added, definitions_added, datum_typed, metadata_typed, is_reserved, param_added, params_added, shader_typed, typed, IsTypingOf}
use Rattle.osl_typed.specs.Longest.{longest_of}
use Rattle.osl_typed.specs.Scopes.{Scope, Sight, is_here, with_variable, enter, outermost, is_assignable_global, structure_named}
use Rattle.osl_typed.specs.SourceTyping.{IsTypingOfSource}
use Rattle.osl_typed.specs.Typing.{sequence, plain_type, formal_kinds}
use Rattle.osl_typed.specs.BodyTyping.{declared_kind, begun, body_typed}
use Rattle.osl_welltyped.specs.Kinded.{is_type}
use Rattle.osl_welltyped.specs.Measures.{Measure, by_height, by_text, by_fault, body_measured}
use Rattle.osl_welltyped.specs.WellTyped.{AreMetadata, IsWithin, IsWellTyped}
use Rattle.osl_welltyped.proofs.BodiesFit.{kind_below, declared_below}
use Rattle.osl_welltyped.proofs.Constants.{begun_const, constant_fits}
use Rattle.osl_welltyped.proofs.FilesFit.{structures_above, sight_structures}
use Rattle.osl_welltyped.proofs.FormalsFit.{Begins, begins_all, snoc_at}
use Rattle.osl_welltyped.proofs.GrammarFiles.{AllOf, all_of_at, FunctionWithin, ParamWithin, DatumWithin, MetadataWithin, SourceWithin, tree_low}
use Rattle.osl_welltyped.proofs.Lexed.{tokens_lexed, height_is, text_is, fault_is, height_bound, fault_bound, heights_low, faults_low}
use Rattle.osl_welltyped.proofs.LongestTexts.{DatumShort, ParamShort, NamesShort, names_short, texts_low}
use Rattle.osl_welltyped.proofs.Measured.{IsMeasure}
use Rattle.osl_welltyped.proofs.MeasuredBodies.{begun_low, body_low}
use Rattle.osl_welltyped.proofs.NamesKnown.{DatumWord, ParamWord, tree_words}
use Rattle.osl_welltyped.proofs.OperatorsFit.{plain_is}
use Rattle.osl_welltyped.proofs.ShaderFits.{typing_fits}
use Rattle.osl_welltyped.proofs.Steps.{none_is_not, some_same, bound, held}

-- ---- what is typed of what

pub record Typed {X Y : Type 0} (f : X → Option Y) (xs : List X) (k : ℕ) (y : Y) : Type 0 where
  pub from : X
  pub at : slice_get xs k ≡ Some from
  pub is : f from ≡ Some y

typed_at : {X Y : Type 0} (f : X → Option Y) (xs : List X) (ys : List Y) → sequence (map f xs) ≡ Some ys → (k : ℕ) (y : Y) → slice_get ys k ≡ Some y → Typed f xs k y
unfolding sequence
typed_at f [] ys h k y at = none_is_not y (ap (λ l. slice_get l k) (some_same [] ys h) ∙ at)
typed_at {X} {Y} f (x ∷ xs) ys h zero y at =
    let a = bound (f x) _ ys h in
    let rest = bound (sequence (map f xs)) _ ys a.goes in
    record { from = x; at = refl; is = a.was ∙ ap (λ (l : List Y). slice_get l 0) (some_same (a.value ∷ rest.value) ys rest.goes) ∙ at }
typed_at {X} {Y} f (x ∷ xs) ys h (suc k) y at =
    let a = bound (f x) _ ys h in
    let rest = bound (sequence (map f xs)) _ ys a.goes in
    let q = typed_at f xs rest.value rest.was k y (ap (λ (l : List Y). slice_get l (suc k)) (some_same (a.value ∷ rest.value) ys rest.goes) ∙ at) in
    record { from = q.from; at = q.at; is = q.is }

record DatumMade (sight : Sight) (scope : Scope) (q : Datum) (d : TypedDatum) : Type 0 where
  name_is : d.name ≡ q.item.name
  type : is_type d.ty ≡ true
  constant : typing_rules.is_constant_init q.init ≡ true
  init_is : begun sight scope (Value d.ty) q.init ≡ Some d.init

datum_made : (sight : Sight) (scope : Scope) (q : Datum) (d : TypedDatum) → datum_typed sight scope q ≡ Some d → DatumMade sight scope q d
unfolding datum_typed
datum_made sight scope q d h =
    let kind = bound (declared_kind sight.structures q.ty q.item.len) _ d h in
    let ty = bound (plain_type kind.value) _ d kind.goes in
    let c = held (typing_rules.is_constant_init q.init) _ d ty.goes in
    let init = bound (begun sight scope kind.value q.init) _ d (c.1) in
    let is = plain_is kind.value ty.value ty.was in
    subst (DatumMade sight scope q) (some_same _ d init.goes) (record {
      name_is = refl;
      type = ap (kind_below (length sight.structures)) (sym is) ∙ declared_below sight.structures q.ty q.item.len kind.value kind.was;
      constant = c.0;
      init_is = ap (λ k. begun sight scope k q.init) (sym is) ∙ init.was;
    })

record ParamMade (sight : Sight) (q : Param) (p : TypedParam) : Type 0 where
  scope : Scope
  name_is : p.name ≡ q.item.name
  init_is : begun sight scope (Value p.ty) q.init ≡ Some p.init
  metadata_is : metadata_typed sight scope q.metadata ≡ Some p.metadata

param_made : (sight : Sight) (q : Param) (scope : Scope) (r : TypedParam × Scope) → param_added sight q scope ≡ Some r → ParamMade sight q (r.0)
unfolding param_added
param_made sight q scope r h =
    let kind = bound (declared_kind sight.structures q.ty q.item.len) _ r h in
    let ty = bound (plain_type kind.value) _ r kind.goes in
    let t = held (not (is_reserved q.item.name) && not (is_here q.item.name scope)) _ r ty.goes in
    let init = bound (begun sight scope kind.value q.init) _ r (t.1) in
    let metas = bound (metadata_typed sight scope q.metadata) _ r init.goes in
    let is = plain_is kind.value ty.value ty.was in
    subst (λ (r : TypedParam × Scope). ParamMade sight q (r.0))
    (some_same {A = TypedParam × Scope} (record { output = q.output; ty = ty.value; name = q.item.name; init = init.value; metadata = metas.value }, with_variable q.item.name kind.value q.output scope) r metas.goes)
    (record { scope = scope; name_is = refl; init_is = ap (λ k. begun sight scope k q.init) (sym is) ∙ init.was; metadata_is = metas.was })

record ParamAt (sight : Sight) (params : List Param) (k : ℕ) (p : TypedParam) : Type 0 where
  from : Param
  at : slice_get params k ≡ Some from
  made : ParamMade sight from p

params_at : (sight : Sight) (params : List Param) (scope : Scope) (r : List TypedParam × Scope) → params_added sight params scope ≡ Some r → (k : ℕ) (p : TypedParam) → slice_get (r.0) k ≡ Some p → ParamAt sight params k p
unfolding params_added
params_at sight [] scope r h k p at = none_is_not p (ap (λ (r : List TypedParam × Scope). slice_get (r.0) k) (some_same {A = List TypedParam × Scope} ([], scope) r h) ∙ at)
params_at sight (q ∷ params) scope r h zero p at =
    let a = bound (param_added sight q scope) _ r h in
    let rest = bound (params_added sight params (a.value.1)) _ r a.goes in
    let e = some_same (a.value.0) p (ap (λ (r : List TypedParam × Scope). slice_get (r.0) 0) (some_same {A = List TypedParam × Scope} (a.value.0 ∷ rest.value.0, rest.value.1) r rest.goes) ∙ at) in
    record { from = q; at = refl; made = subst (ParamMade sight q) e (param_made sight q scope a.value a.was) }
params_at sight (q ∷ params) scope r h (suc k) p at =
    let a = bound (param_added sight q scope) _ r h in
    let rest = bound (params_added sight params (a.value.1)) _ r a.goes in
    let m = params_at sight params (a.value.1) rest.value rest.was k p (ap (λ (r : List TypedParam × Scope). slice_get (r.0) (suc k)) (some_same {A = List TypedParam × Scope} (a.value.0 ∷ rest.value.0, rest.value.1) r rest.goes) ∙ at) in
    record { from = m.from; at = m.at; made = m.made }

-- ---- functions

abbrev FunctionsLow : Measure → ℕ → List TypedFunction → Type 0
FunctionsLow m limit fs = (n : ℕ) (f : TypedFunction) → slice_get fs n ≡ Some f → body_measured m f.body ≤ limit

structure_same : (structure : structure_tree.Structure) (above next : Above) → structure_added structure above ≡ Some next → next.functions ≡ above.functions
unfolding structure_added
structure_same structure above next h =
    let t = held (not (is_some (structure_named 0 above.sight.structures structure.name))) _ next h in
    let fields = bound (lines_added above.sight.structures structure.fields []) _ next (t.1) in
    ap (λ (a : Above). a.functions) (sym (some_same _ next fields.goes))

function_low : (m : Measure) → IsMeasure m → (limit : ℕ) (f : Function) (above next : Above) → FunctionsLow m limit above.functions → FunctionWithin m limit (definitions.Function f) → function_added f above ≡ Some next → FunctionsLow m limit next.functions
unfolding function_added
function_low m is limit f above next old within h =
    let result = bound (result_kind above.sight.structures f.result) _ next h in
    let formals = bound (formals_added above.sight.structures f.formals (enter (outermost (λ g. false)))) _ next result.goes in
    let t = held (not (is_taken above.sight f.name (formal_kinds (formals.value.0)))) _ next formals.goes in
    let body = bound (body_typed (record { sight = above.sight; result = result.value }) f.body (enter (formals.value.1))) _ next (t.1) in
    let low = body_low m is (record { sight = above.sight; result = result.value }) f.body (enter (formals.value.1)) body.value body.was in
    let made : TypedFunction = record { result = result.value; formals = formals.value.0; frame = (body.value.1).kinds; body = body.value.0 } in
    let ours : body_measured m made.body ≤ limit = omega arith in
    subst (λ (a : Above). FunctionsLow m limit a.functions) (some_same _ next body.goes) (λ n g at. elim (snoc_at above.functions made n g at) [
      | inl before ↦ old n g before
      | inr last ↦ subst (λ (k : TypedFunction). body_measured m k.body ≤ limit) (last.1) ours
    ])

definitions_low : (m : Measure) → IsMeasure m → (limit : ℕ) (xs : List Definition) (above next : Above) → FunctionsLow m limit above.functions → AllOf (FunctionWithin m limit) xs → definitions_added xs above ≡ Some next → FunctionsLow m limit next.functions
unfolding definitions_added
definitions_low m is limit [] above next old within h = subst (λ (a : Above). FunctionsLow m limit a.functions) (some_same above next h) old
definitions_low m is limit (definitions.Structure s ∷ rest) above next old within h =
    let one = bound (structure_added s above) _ next h in
    definitions_low m is limit rest one.value next (subst (FunctionsLow m limit) (sym (structure_same s above one.value one.was)) old) (within.1) one.goes
definitions_low m is limit (definitions.Function f ∷ rest) above next old within h =
    let one = bound (function_added f above) _ next h in
    definitions_low m is limit rest one.value next (function_low m is limit f above one.value old (within.0) one.was) (within.1) one.goes

-- ---- the shader

abbrev begin_of : Tree → Scope
begin_of tree = enter (outermost (is_assignable_global tree.shader.kind))

record ShaderMade (tree : Tree) (above : Above) (t : TypedShader) : Type 0 where
  before : Scope
  after : Scope
  metadata_is : metadata_typed above.sight (outermost (λ g. false)) tree.shader.metadata ≡ Some t.metadata
  params_is : params_added above.sight tree.shader.params (begin_of tree) ≡ Some (t.params, before)
  body_is : body_typed (record { sight = above.sight; result = Void }) tree.shader.body before ≡ Some (t.body, after)
  structures_is : t.structures ≡ structures_above above
  functions_is : t.functions ≡ above.functions
  name_is : t.name ≡ tree.shader.name
  word_is : t.longest_word ≡ (longest_of tree).word
  text_is : t.longest_text ≡ (longest_of tree).text

shader_made : (tree : Tree) (above : Above) (t : TypedShader) → shader_typed tree above ≡ Some t → ShaderMade tree above t
unfolding shader_typed
shader_made tree above t h =
    let metas = bound (metadata_typed above.sight (outermost (λ g. false)) tree.shader.metadata) _ t h in
    let params = bound (params_added above.sight tree.shader.params (begin_of tree)) _ t metas.goes in
    let body = bound (body_typed (record { sight = above.sight; result = Void }) tree.shader.body (params.value.1)) _ t params.goes in
    subst (ShaderMade tree above) (some_same _ t body.goes) (record {
      before = params.value.1;
      after = body.value.1;
      metadata_is = metas.was;
      params_is = params.was;
      body_is = body.was;
      structures_is = refl;
      functions_is = refl;
      name_is = refl;
      word_is = refl;
      text_is = refl;
    })

record TreeMade (tree : Tree) (t : TypedShader) : Type 0 where
  above : Above
  defined : definitions_added tree.definitions at_the_top ≡ Some above
  shader : ShaderMade tree above t

tree_made : (tree : Tree) (t : TypedShader) → IsTypingOf tree t → TreeMade tree t
unfolding typed
tree_made tree t h =
    let above = bound (definitions_added tree.definitions at_the_top) (shader_typed tree) t h in
    record { above = above.value; defined = above.was; shader = shader_made tree above.value t above.goes }

-- bodies and defaults measure no more than their sources
pub within : (m : Measure) → IsMeasure m → (limit : ℕ) (tree : Tree) (t : TypedShader) → SourceWithin m limit tree → IsTypingOf tree t → IsWithin m limit t
within m is limit tree t source h =
    let made = tree_made tree t h in
    let s = made.shader in
    let functions = definitions_low m is limit tree.definitions at_the_top made.above (λ n f at. none_is_not f at) source.functions made.defined in
    record {
      functions = λ n f at. functions n f (ap (λ l. slice_get l n) (sym s.functions_is) ∙ at);
      params = λ k p at.
          let q = params_at made.above.sight tree.shader.params (begin_of tree) (t.params, s.before) s.params_is k p at in
          let low = begun_low m is made.above.sight q.made.scope (Value p.ty) q.from.init p.init q.made.init_is in
          let most = all_of_at (ParamWithin m limit) tree.shader.params k q.from source.params q.at in omega arith;
      body = let low = body_low m is (record { sight = made.above.sight; result = Void }) tree.shader.body s.before (t.body, s.after) s.body_is in let most = source.body in omega arith;
    }

-- ---- metadata and names

data_fit : (tree : Tree) (t : TypedShader) (above : Above) (scope : Scope) (metas : List Datum) (typed : List TypedDatum) → t.structures ≡ structures_above above → metadata_typed above.sight scope metas ≡ Some typed
    → AllOf DatumWord metas → AllOf (DatumShort t.longest_word) metas → AllOf (DatumWithin by_fault 0) metas → AreMetadata t typed
data_fit tree t above scope metas typed structures h words short numbers = record {
  each = λ k d at.
      let q = typed_at (datum_typed above.sight scope) metas typed h k d at in
      let m = datum_made above.sight scope q.from d q.is in
      let begins : Begins (structures_above above) t.structures = subst (Begins (structures_above above)) (sym structures) (begins_all (structures_above above)) in
      let low = begun_low by_fault fault_is above.sight scope (Value d.ty) q.from.init d.init m.init_is in
      let zero_low = all_of_at (DatumWithin by_fault 0) metas k q.from numbers q.at in
      record {
        name = record {
          word = subst IsWord (sym m.name_is) (all_of_at DatumWord metas k q.from words q.at);
          short = subst (λ (n : List ℕ). length n ≤ t.longest_word) (sym m.name_is) (all_of_at (DatumShort t.longest_word) metas k q.from short q.at);
        };
        type = m.type;
        constant = begun_const above.sight scope (Value d.ty) q.from.init d.init m.constant m.init_is;
        value = constant_fits t above.sight scope (sight_structures above t.structures begins) (Value d.ty) q.from.init d.init m.constant m.init_is;
        numbers = omega arith;
      };
}

-- ---- all

pub typing_well : (t : TypedShader) → IsTypingOfSource t → IsWellTyped t
typing_well t h =
    let tree = h.tree in
    let of = h.of_source in
    let spells = of.spelled in
    let lexed = tokens_lexed of.source of.tokens of.lexed in
    let made = tree_made tree t h.typing in
    let s = made.shader in
    let heights = tree_low by_height height_is (λ h. h) height_bound tree (lexemes of.source of.tokens) spells.height max_height spells.is (heights_low (lexemes of.source of.tokens)) spells.low in
    let faults = tree_low by_fault fault_is (λ h. 0) fault_bound tree (lexemes of.source of.tokens) spells.height max_height spells.is (faults_low (lexemes of.source of.tokens) lexed) spells.low in
    let words = tree_words tree (lexemes of.source of.tokens) spells.height spells.is lexed in
    let short : NamesShort t.longest_word tree = subst (λ k. NamesShort k tree) (sym s.word_is) (names_short tree) in
    record {
      rules = typing_fits tree t h.typing;
      names = record {
        shader = record {
          word = subst IsWord (sym s.name_is) words.name;
          short = subst (λ (n : List ℕ). length n ≤ t.longest_word) (sym s.name_is) short.shader;
        };
        params = λ k p at.
            let q = params_at made.above.sight tree.shader.params (begin_of tree) (t.params, s.before) s.params_is k p at in
            record {
              word = subst IsWord (sym q.made.name_is) (all_of_at ParamWord tree.shader.params k q.from words.params q.at).0;
              short = subst (λ (n : List ℕ). length n ≤ t.longest_word) (sym q.made.name_is) (all_of_at (ParamShort t.longest_word) tree.shader.params k q.from short.params q.at).0;
            };
      };
      metadata = record {
        shader = data_fit tree t made.above (outermost (λ g. false)) tree.shader.metadata t.metadata s.structures_is s.metadata_is words.metadata short.metadata (faults.1).shader;
        params = λ k p at.
            let q = params_at made.above.sight tree.shader.params (begin_of tree) (t.params, s.before) s.params_is k p at in
            data_fit tree t made.above q.made.scope q.from.metadata p.metadata s.structures_is q.made.metadata_is
            (all_of_at ParamWord tree.shader.params k q.from words.params q.at).1
            (all_of_at (ParamShort t.longest_word) tree.shader.params k q.from short.params q.at).1
            (all_of_at (MetadataWithin by_fault 0) tree.shader.params k q.from (faults.1).params q.at);
      };
      bounds = record {
        heights = within by_height height_is max_height tree t (heights.0) h.typing;
        texts = subst (λ k. IsWithin by_text k t) (sym s.text_is) (within by_text text_is (longest_of tree).text tree t (texts_low tree) h.typing);
        numbers = within by_fault fault_is 0 tree t (faults.0) h.typing;
      };
    }
