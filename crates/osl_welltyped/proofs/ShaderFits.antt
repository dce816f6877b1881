-- A typed shader fits the rules.
use Rattle.std.proofs.Common.{◌≡◌, ℕ, zero, suc, ◌+◌, ◌<◌, Bool, true, false, not, ◌&&◌, List, [], ◌∷◌, ◌++◌, length, map, nat_lt, Some, None, refl, sym, ap, ◌∙◌, subst, arith, length-append}
use Rattle.std.specs.Prelude.{if◌then◌else◌, slice_get, bytes_eq}
use Rattle.std.specs.List.{list_all}
use Rattle.std.proofs.lemmas.Bool.{false≢true, and_from, and_parts, eq-eqb, lt-ltb}
use Rattle.std.proofs.lemmas.List.{length-map}
use Rattle.std.proofs.lemmas.Slice.Eq.{bytes_eq-Decides}
use Rattle.std.proofs.lemmas.Option.{slice_get_within}
use Rattle.osl_overload.specs.declared.signature.Kind.{Kind}
use Rattle.osl_overload.specs.declared.signature.Kind.TheVariants.{Value, Void}
use Rattle.osl_tree.specs.declared.tree.Param.{Param}
use Rattle.osl_tree.specs.declared.tree.Tree.{Tree}
use Rattle.osl_typed.specs.declared.expr.Root.TheVariants as root
use Rattle.osl_typed.specs.declared.shader.TypedParam.{TypedParam}
use Rattle.osl_typed.specs.declared.shader.TypedShader.{TypedShader}
use Rattle.osl_typed.specs.FileTyping.{Above, at_the_top, definitions_added, metadata_typed, is_reserved, param_added, params_added, shader_typed, typed, IsTypingOf}
use Rattle.osl_typed.specs.Scopes.{Scope, Candidate, Sight, look, is_here, stands_at, enter, outermost, is_assignable_global, with_variable}
use Rattle.osl_typed.specs.Typing.{plain_type}
use Rattle.osl_typed.specs.BodyTyping.{declared_kind, begun, body_typed}
use Rattle.osl_welltyped.specs.Agreement.{IsDeclared, SightFits, NamesFit}
use Rattle.osl_welltyped.specs.Kinded.{Rules, root_kind}
use Rattle.osl_welltyped.specs.StatementsFit.{init_fits, body_fits, declared_in}
use Rattle.osl_welltyped.specs.WellTyped.{structures_fit, IsFrame, kinds_of_formals, kinds_declared, is_output, as_formal, as_formals, rules_below, rules_of, differ, names_of, FitsRules}
use Rattle.osl_welltyped.proofs.BodiesFit.{Extends, Grows, kind_below, declared_below, begun_fits, with_name, at_front}
use Rattle.osl_welltyped.proofs.FilesFit.{above_length, AboveFits, top_fits, definitions_kept, frame_fits, behind_formals, sight_structures, structures_above}
use Rattle.osl_welltyped.proofs.FormalsFit.{globals_fit, Writes, FormalsGrow, formals_none, formals_more, Begins, begins_all, whole_frame}
use Rattle.osl_welltyped.proofs.OperatorsFit.{plain_is}
use Rattle.osl_welltyped.proofs.StatementsKeep.{body_keeps}
use Rattle.osl_welltyped.proofs.Steps.{none_is_not, some_same, bound, held}

-- ---- names of parameters

abbrev stands_if : Scope → Bool → List ℕ → Kind → Bool → List ℕ → Bool
stands_if scope t name kind output other = stands_at scope.depth (if t then Some (record { name = name; depth = scope.depth; root = root.Variable (length scope.kinds); kind = kind; writable = output }) else look other scope.bindings)

-- a name that is here stays here, and the new one is
here_kept : (scope : Scope) (name : List ℕ) (kind : Kind) (output : Bool) (other : List ℕ) → is_here other scope ≡ true → is_here other (with_variable name kind output scope) ≡ true
unfolding look
here_kept scope name kind output other h =
    elim (bytes_eq name other) as (λ t. stands_if scope t name kind output other ≡ true) [
      | true ↦ eq-eqb scope.depth scope.depth refl
      | false ↦ h
    ]

here_new : (scope : Scope) (name : List ℕ) (kind : Kind) (output : Bool) → is_here name (with_variable name kind output scope) ≡ true
unfolding look
here_new scope name kind output =
    ap (λ t. stands_if scope t name kind output name) ((bytes_eq-Decides name name).1 refl) ∙ eq-eqb scope.depth scope.depth refl

not_same : (scope : Scope) (name other : List ℕ) → is_here name scope ≡ true → not (is_here other scope) ≡ true → not (bytes_eq name other) ≡ true
not_same scope name other here free =
    (elim (bytes_eq name other) as (λ t. bytes_eq name other ≡ t → not t ≡ true) [
      | true ↦ λ same. absurd (false≢true (ap not (sym here ∙ ap (λ n. is_here n scope) ((bytes_eq-Decides name other).0 same)) ∙ free))
      | false ↦ λ other. refl
    ]) refl

-- ---- parameters

-- Parameter after parameter: what is known of each, whatever shader they become part of.
pub record ParamsGrow (sight : Sight) (scope : Scope) (params : List TypedParam) (after : Scope) : Type 0 where
  pub formals : FormalsGrow (length sight.structures) scope (map as_formal params) after
  pub differ_names : differ (names_of params) ≡ true
  pub apart : (name : List ℕ) → is_here name scope ≡ true → list_all (λ other. not (bytes_eq name other)) (names_of params) ≡ true
  pub free : (k : ℕ) (param : TypedParam) → slice_get params k ≡ Some param → is_reserved param.name ≡ false
  pub defaults : (k : ℕ) (param : TypedParam) → slice_get params k ≡ Some param → (rules : Rules) → SightFits rules sight → NamesFit rules scope.bindings
      → ((j : ℕ) (kind : Kind) → j < length scope.kinds + k → slice_get after.kinds j ≡ Some kind → root_kind rules (root.Variable j) ≡ Some kind) → Writes rules (length scope.kinds) (map as_formal params)
      → init_fits rules (Value param.ty) param.init ≡ true

params_none : (sight : Sight) (scope : Scope) → ParamsGrow sight scope [] scope
params_none sight scope = record {
  formals = formals_none (length sight.structures) scope;
  differ_names = refl;
  apart = λ name here. refl;
  free = λ k param at. none_is_not param at;
  defaults = λ k param at. none_is_not param at;
}

not_false : (b : Bool) → not b ≡ true → b ≡ false
not_false true h = absurd (false≢true h)
not_false false h = refl

record OneParam (sight : Sight) (scope : Scope) (p : TypedParam) (mid : Scope) : Type 0 where
  mid_is : mid ≡ with_variable p.name (Value p.ty) p.output scope
  below : kind_below (length sight.structures) (Value p.ty) ≡ true
  free : is_reserved p.name ≡ false
  new : not (is_here p.name scope) ≡ true
  default : (rules : Rules) → SightFits rules sight → NamesFit rules scope.bindings → init_fits rules (Value p.ty) p.init ≡ true

one_param : (sight : Sight) (param : Param) (scope : Scope) (r : TypedParam × Scope) → param_added sight param scope ≡ Some r → OneParam sight scope (r.0) (r.1)
unfolding param_added
one_param sight param scope r h =
    let kind = bound (declared_kind sight.structures param.ty param.item.len) _ r h in
    let ty = bound (plain_type kind.value) _ r kind.goes in
    let t = held (not (is_reserved param.item.name) && not (is_here param.item.name scope)) _ r ty.goes in
    let p = and_parts (not (is_reserved param.item.name)) (not (is_here param.item.name scope)) (t.0) in
    let init = bound (begun sight scope kind.value param.init) _ r (t.1) in
    let metas = bound (metadata_typed sight scope param.metadata) _ r init.goes in
    let is : kind.value ≡ Value ty.value = plain_is kind.value ty.value ty.was in
    subst (λ (r : TypedParam × Scope). OneParam sight scope (r.0) (r.1))
    (some_same {A = TypedParam × Scope} (record { output = param.output; ty = ty.value; name = param.item.name; init = init.value; metadata = metas.value }, with_variable param.item.name kind.value param.output scope) r metas.goes)
    (record {
      mid_is = ap (λ k. with_variable param.item.name k param.output scope) is;
      below = ap (kind_below (length sight.structures)) (sym is) ∙ declared_below sight.structures param.ty param.item.len kind.value kind.was;
      free = not_false (is_reserved param.item.name) (p.0);
      new = p.1;
      default = λ rules seen names. ap (λ k. init_fits rules k init.value) (sym is) ∙ begun_fits rules sight scope seen names kind.value param.init init.value init.was;
    })

params_more : (sight : Sight) (scope : Scope) (p : TypedParam) (params : List TypedParam) (after : Scope) → OneParam sight scope p (with_variable p.name (Value p.ty) p.output scope) → ParamsGrow sight (with_variable p.name (Value p.ty) p.output scope) params after
    → ParamsGrow sight scope (p ∷ params) after
params_more sight scope p params after one rest = record {
  formals = formals_more (length sight.structures) p.name (Value p.ty) p.output scope after (map as_formal params) one.below rest.formals;
  differ_names = and_from _ _ (rest.apart p.name (here_new scope p.name (Value p.ty) p.output)) rest.differ_names;
  apart = λ name here. and_from _ _ (not_same scope name p.name here one.new) (rest.apart name (here_kept scope p.name (Value p.ty) p.output name here));
  free = λ k param. later_free k param;
  defaults = λ k param. later_default k param;
}
  where
    long : length (scope.kinds ++ Value p.ty ∷ []) ≡ length scope.kinds + 1
    long = length-append scope.kinds (Value p.ty ∷ [])

    later_free : (k : ℕ) (param : TypedParam) → slice_get (p ∷ params) k ≡ Some param → is_reserved param.name ≡ false
    later_free zero param at = ap (λ (q : TypedParam). is_reserved q.name) (sym (some_same p param at)) ∙ one.free
    later_free (suc k) param at = rest.free k param at

    later_default : (k : ℕ) (param : TypedParam) → slice_get (p ∷ params) k ≡ Some param → (rules : Rules) → SightFits rules sight → NamesFit rules scope.bindings
        → ((j : ℕ) (kind : Kind) → j < length scope.kinds + k → slice_get after.kinds j ≡ Some kind → root_kind rules (root.Variable j) ≡ Some kind) → Writes rules (length scope.kinds) (map as_formal (p ∷ params))
        → init_fits rules (Value param.ty) param.init ≡ true
    later_default zero param at rules seen names holds writes = subst (λ (q : TypedParam). init_fits rules (Value q.ty) q.init ≡ true) (some_same p param at) (one.default rules seen names)
    later_default (suc k) param at rules seen names holds writes =
        let l : length (scope.kinds ++ Value p.ty ∷ []) ≡ length scope.kinds + 1 = long in
        let front : Extends rules (scope.kinds ++ Value p.ty ∷ []) = λ j kind there.
        let low : j < length (scope.kinds ++ Value p.ty ∷ []) = slice_get_within (scope.kinds ++ Value p.ty ∷ []) j kind there in
        holds j kind (omega arith) (ap (λ (l : List Kind). slice_get l j) (rest.formals.kinds) ∙ at_front (scope.kinds ++ Value p.ty ∷ []) (kinds_of_formals (map as_formal params)) j kind there) in
        let z : length scope.kinds + 0 ≡ length scope.kinds = omega arith in
        let named = with_name rules p.name (Value p.ty) p.output scope names front (λ is. ap (λ j. rules.may_write (root.Variable j)) (sym z) ∙ writes 0 (as_formal p) refl is) in
        rest.defaults k param at rules seen named (λ j kind low there. let below : j < length (scope.kinds ++ Value p.ty ∷ []) + k = low in holds j kind (omega arith) there) (λ i formal there is.
        let e : length (scope.kinds ++ Value p.ty ∷ []) + i ≡ length scope.kinds + suc i = omega arith in
        ap (λ j. rules.may_write (root.Variable j)) e ∙ writes (suc i) formal there is)

pub params_grow : (sight : Sight) (params : List Param) (scope : Scope) (r : List TypedParam × Scope) → params_added sight params scope ≡ Some r → ParamsGrow sight scope (r.0) (r.1)
unfolding params_added
params_grow sight [] scope r h = subst (λ (r : List TypedParam × Scope). ParamsGrow sight scope (r.0) (r.1)) (some_same {A = List TypedParam × Scope} ([], scope) r h) (params_none sight scope)
params_grow sight (param ∷ params) scope r h =
    let p = bound (param_added sight param scope) _ r h in
    let rest = bound (params_added sight params (p.value.1)) _ r p.goes in
    let one = one_param sight param scope p.value p.was in
    let grown = params_grow sight params (p.value.1) rest.value rest.was in
    subst (λ (r : List TypedParam × Scope). ParamsGrow sight scope (r.0) (r.1)) (some_same {A = List TypedParam × Scope} (p.value.0 ∷ rest.value.0, rest.value.1) r rest.goes)
    (params_more sight scope (p.value.0) (rest.value.0) (rest.value.1) (subst (OneParam sight scope (p.value.0)) one.mid_is one) (subst (λ mid. ParamsGrow sight mid (rest.value.0) (rest.value.1)) one.mid_is grown))

-- ---- the shader

abbrev begin_of : Tree → Scope
begin_of tree = enter (outermost (is_assignable_global tree.shader.kind))

-- what a typed shader is made of
record IsMadeOf (tree : Tree) (above : Above) (t : TypedShader) : Type 0 where
  before : Scope
  after : Scope
  params : ParamsGrow above.sight (begin_of tree) t.params before
  body : Grows above.sight before (declared_in t.body) after (λ rules. body_fits rules Void t.body)
  structures_is : t.structures ≡ structures_above above
  functions_is : t.functions ≡ above.functions
  kind_is : t.kind ≡ tree.shader.kind
  frame_is : t.frame ≡ after.kinds

made_of : (tree : Tree) (above : Above) (t : TypedShader) → shader_typed tree above ≡ Some t → IsMadeOf tree above t
unfolding shader_typed
made_of tree above t h =
    let metas = bound (metadata_typed above.sight (outermost (λ g. false)) tree.shader.metadata) _ t h in
    let params = bound (params_added above.sight tree.shader.params (begin_of tree)) _ t metas.goes in
    let body = bound (body_typed (record { sight = above.sight; result = Void }) tree.shader.body (params.value.1)) _ t params.goes in
    subst (IsMadeOf tree above) (some_same _ t body.goes) (record {
      before = params.value.1;
      after = body.value.1;
      params = params_grow above.sight tree.shader.params (begin_of tree) params.value params.was;
      body = body_keeps (record { sight = above.sight; result = Void }) tree.shader.body (params.value.1) body.value body.was;
      structures_is = refl;
      functions_is = refl;
      kind_is = refl;
      frame_is = refl;
    })

same_begins : {X : Type 0} (xs zs : List X) → zs ≡ xs → Begins xs zs
same_begins xs zs is = subst (λ l. Begins xs l) (sym is) (begins_all xs)

pub shader_fits : (tree : Tree) (above : Above) (t : TypedShader) → AboveFits above → shader_typed tree above ≡ Some t → FitsRules t
shader_fits tree above t fits h =
    let m = made_of tree above t h in
    let structures : Begins (structures_above above) t.structures = same_begins (structures_above above) t.structures m.structures_is in
    let functions : Begins above.functions t.functions = same_begins above.functions t.functions m.functions_is in
    let called : (word : List ℕ) (k : ℕ) (c : Candidate) → slice_get (above.sight.functions word) k ≡ Some c → IsDeclared t.functions c = λ word k c at. subst (λ fs. IsDeclared fs c) (sym m.functions_is) (fits.called word k c at) in
    let writes : (k : ℕ) → Writes (rules_below t k) 0 (as_formals t) = λ k i formal at out. let z : 0 + i ≡ i = omega arith in ap (λ j. is_output (slice_get (as_formals t) j)) z ∙ ap is_output at ∙ out in
    let globals : (k : ℕ) → NamesFit (rules_below t k) (begin_of tree).bindings = λ k. globals_fit (rules_below t k) (is_assignable_global tree.shader.kind) (λ g is. ap (λ kind. is_assignable_global kind g) m.kind_is ∙ is) in
    let count : length m.before.kinds ≡ length (as_formals t) = ap length m.params.formals.kinds ∙ length-map (as_formals t) (λ formal. formal.kind) in
    let extends : Extends (rules_of t) m.after.kinds = whole_frame (rules_of t) m.after.kinds m.frame_is (ap length m.frame_is) in
    let first : Extends (rules_of t) m.before.kinds = λ k kind at. extends k kind (ap (λ (l : List Kind). slice_get l k) m.body.kinds ∙ at_front m.before.kinds (kinds_declared (declared_in t.body)) k kind at) in
    let frame = frame_fits above.sight t.structures (begin_of tree) (as_formals t) m.before m.before m.after t.body (λ rules. body_fits rules Void t.body) refl refl (above_length above t.structures structures) m.params.formals m.body in
    record {
      structures = ap (structures_fit 0) m.structures_is ∙ fits.structures;
      functions = λ n f at. fits.functions n f (ap (λ l. slice_get l n) (sym m.functions_is) ∙ at) t structures functions;
      params = λ k param at. record {
        free = m.params.free k param at;
        default = m.params.defaults k param at (rules_below t k) (record { structures = sight_structures above t.structures structures; functions = called }) (globals k)
            (λ j kind low there.
            let below : j < 0 + k = low in
            let j_below : j < k = omega arith in
            let test : nat_lt j k ≡ true = lt-ltb j k j_below in
            ap (λ b. if b then slice_get t.frame j else None) test ∙ ap (λ (l : List Kind). slice_get l j) (m.frame_is ∙ m.body.kinds) ∙ at_front m.before.kinds (kinds_declared (declared_in t.body)) j kind there)
            (writes k);
      };
      names = m.params.differ_names;
      frame = subst (λ kinds. IsFrame t.structures (kinds_of_formals (as_formals t)) kinds t.body) (sym m.frame_is) frame;
      body = (m.body.fits (rules_of t) (record {
        sees = record { structures = sight_structures above t.structures structures; functions = called };
        names = m.params.formals.names (rules_of t) (globals (length t.frame)) first (writes (length t.frame));
        fresh = λ k low. behind_formals (as_formals t) k (omega arith);
        holds = extends;
      })).0;
    }

pub typing_fits : (tree : Tree) (t : TypedShader) → IsTypingOf tree t → FitsRules t
unfolding typed
typing_fits tree t h =
    let above = bound (definitions_added tree.definitions at_the_top) (shader_typed tree) t h in
    shader_fits tree above.value t (definitions_kept tree.definitions at_the_top above.value top_fits above.was) above.goes
