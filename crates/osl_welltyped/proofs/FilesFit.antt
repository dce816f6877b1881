-- Structures, functions and the shader fit the rules.
use Rattle.std.proofs.Common.{◌≡◌, ℕ, zero, suc, ◌+◌, ◌<◌, ◌≤◌, Bool, true, false, not, ◌&&◌, inl, inr, List, [], ◌∷◌, ◌++◌, length, map, take, Option, Some, None, refl, sym, ap, ◌∙◌, subst, arith}
use Rattle.std.specs.Prelude.{if◌then◌else◌, ◌==◌, slice_get, bytes_eq, is_some}
use Rattle.std.specs.List.{list_all}
use Rattle.std.proofs.lemmas.Bool.{false≢true, and_from, and_parts, lt-ltb, ltb-true}
use Rattle.std.proofs.lemmas.List.{length-map}
use Rattle.std.proofs.lemmas.List.Folds.{list_all-append}
use Rattle.osl_value.specs.declared.types.Base.TheVariants.{Closure}
use Rattle.osl_value.specs.Types.{same_base}
use Rattle.osl_overload.specs.Kinds.{same_kind}
use Rattle.osl_overload.specs.declared.signature.Formal.{Formal}
use Rattle.osl_overload.specs.declared.signature.Kind.{Kind}
use Rattle.osl_overload.specs.declared.signature.Kind.TheVariants.{Value, Structure, Void}
use Rattle.osl_tree.specs.declared.stmt.Item.{Item}
use Rattle.osl_tree.specs.declared.stmt.TypeName.{TypeName}
use Rattle.osl_tree.specs.declared.tree.Definition.{Definition}
use Rattle.osl_tree.specs.declared.tree.Definition.TheVariants as definitions
use Rattle.osl_tree.specs.declared.tree.Fields.{Fields}
use Rattle.osl_tree.specs.declared.tree.Function.{Function}
use Rattle.osl_tree.specs.declared.tree.Structure as structure_tree
use Rattle.osl_typed.specs.declared.found.Callee.TheVariants.{Declared}
use Rattle.osl_typed.specs.declared.shader.TypedFunction.{TypedFunction}
use Rattle.osl_typed.specs.declared.shader.TypedShader.{TypedShader}
use Rattle.osl_typed.specs.declared.shader.TypedStructure.{TypedStructure}
use Rattle.osl_typed.specs.declared.stmt.TypedStmt.{TypedStmt}
use Rattle.osl_typed.specs.Operators.{closure}
use Rattle.osl_typed.specs.Scopes.{Scope, enter, outermost, FieldName, StructureName, field_named, structure_named, Candidate, Functions, Sight}
use Rattle.osl_typed.specs.Typing.{formal_kinds}
use Rattle.osl_typed.specs.BodyTyping.{declared_kind, body_typed}
use Rattle.osl_typed.specs.FileTyping.{Above, at_the_top, fields_added, lines_added, with_structure, structure_added, formals_added, result_kind, is_taken, with_typed, function_added, definitions_added, kinds_of_fields}
use Rattle.osl_welltyped.specs.Agreement.{IsDeclared, NamesFit}
use Rattle.osl_welltyped.specs.Kinded.{Rules}
use Rattle.osl_welltyped.specs.StatementsFit.{body_fits, declared_in, are_numbered}
use Rattle.osl_welltyped.specs.WellTyped.{field_fits, structures_fit, variable_fits, kinds_declared, IsFrame, kinds_of_formals, result_fits, is_output, rules_of_function, IsFunction}
use Rattle.osl_welltyped.proofs.BodiesFit.{Extends, Grows, kind_below, declared_below, at_end}
use Rattle.osl_welltyped.proofs.FormalsFit.{globals_fit, FormalsGrow, formals_grow, Begins, begins_less, begins_at, begins_length, snoc_at, whole_frame}
use Rattle.osl_welltyped.proofs.StatementsKeep.{body_keeps}
use Rattle.osl_welltyped.proofs.Steps.{none_is_not, some_same, bound, held}

-- ---- structures

abbrev kinds_of_names : List FieldName → List Kind
kinds_of_names fields = map (λ field. field.kind) fields

closure_free : (le c z : Bool) → (le && not (c && not z)) ≡ true → not (c && z) ≡ true → ((le && not (c && not z)) && not c) ≡ true
closure_free true true true h n = absurd (false≢true n)
closure_free true true false h n = absurd (false≢true h)
closure_free true false z h n = refl
closure_free false c z h n = absurd (false≢true h)

field_sound : (count : ℕ) (kind : Kind) → kind_below count kind ≡ true → not (same_kind kind closure) ≡ true → field_fits count kind ≡ true
field_sound count (Value ty) below no_closure = closure_free _ (same_base ty.base Closure) (ty.len == 0) below no_closure
field_sound count (Structure m) below no_closure = below
field_sound count Void below no_closure = absurd (false≢true below)

map_snoc : {X Y : Type 0} (f : X → Y) (xs : List X) (x : X) → map f (xs ++ x ∷ []) ≡ map f xs ++ f x ∷ []
map_snoc f [] x = refl
map_snoc f (y ∷ xs) x = ap (λ ys. f y ∷ ys) (map_snoc f xs x)

all_snoc : {X : Type 0} (p : X → Bool) (xs : List X) (x : X) → list_all p xs ≡ true → p x ≡ true → list_all p (xs ++ x ∷ []) ≡ true
all_snoc p xs x a b = list_all-append p xs (x ∷ []) ∙ and_from _ _ a (and_from _ _ b refl)

abbrev FieldsFit : ℕ → List FieldName → Type 0
FieldsFit count fields = list_all (field_fits count) (kinds_of_names fields) ≡ true

fields_fit : (structures : List StructureName) (type : TypeName) (items : List Item) (fields after : List FieldName) → FieldsFit (length structures) fields → fields_added structures type items fields ≡ Some after → FieldsFit (length structures) after
unfolding fields_added
fields_fit structures type [] fields after fit h = ap (λ fs. list_all (field_fits (length structures)) (kinds_of_names fs)) (sym (some_same fields after h)) ∙ fit
fields_fit structures type (item ∷ items) fields after fit h =
    let kind = bound (declared_kind structures type item.len) _ after h in
    let t = held (not (same_kind kind.value closure) && not (is_some (field_named 0 fields item.name))) _ after kind.goes in
    let p = and_parts (not (same_kind kind.value closure)) (not (is_some (field_named 0 fields item.name))) (t.0) in
    fields_fit structures type items (fields ++ record { name = item.name; kind = kind.value } ∷ []) after
    (ap (list_all (field_fits (length structures))) (map_snoc (λ (f : FieldName). f.kind) fields (record { name = item.name; kind = kind.value }))
    ∙ all_snoc (field_fits (length structures)) (kinds_of_names fields) kind.value fit (field_sound (length structures) kind.value (declared_below structures type item.len kind.value kind.was) (p.0)))
    (t.1)

lines_fit : (structures : List StructureName) (lines : List Fields) (fields after : List FieldName) → FieldsFit (length structures) fields → lines_added structures lines fields ≡ Some after → FieldsFit (length structures) after
unfolding lines_added
lines_fit structures [] fields after fit h = ap (λ fs. list_all (field_fits (length structures)) (kinds_of_names fs)) (sym (some_same fields after h)) ∙ fit
lines_fit structures (line ∷ lines) fields after fit h =
    let one = bound (fields_added structures line.ty line.items fields) _ after h in
    lines_fit structures lines one.value after (fields_fit structures line.ty line.items fields one.value fit one.was) one.goes

structures_snoc : (at : ℕ) (xs : List TypedStructure) (x : TypedStructure) → structures_fit at xs ≡ true → list_all (field_fits (at + length xs)) x.fields ≡ true → structures_fit at (xs ++ x ∷ []) ≡ true
structures_snoc at [] x a b = let z : at + 0 ≡ at = omega arith in and_from _ _ (ap (λ n. list_all (field_fits n) x.fields) (sym z) ∙ b) refl
structures_snoc at (y ∷ xs) x a b =
    let p = and_parts (list_all (field_fits at) y.fields) (structures_fit (suc at) xs) a in
    let z : at + suc (length xs) ≡ suc at + length xs = omega arith in
    and_from _ _ (p.0) (structures_snoc (suc at) xs x (p.1) (ap (λ n. list_all (field_fits n) x.fields) (sym z) ∙ b))

-- ---- what is above

abbrev pub structures_above : Above → List TypedStructure
structures_above above = map kinds_of_fields above.sight.structures

-- What is above fits, whatever follows it.
pub record AboveFits (above : Above) : Type 0 where
  pub structures : structures_fit 0 (structures_above above) ≡ true
  pub functions : (n : ℕ) (f : TypedFunction) → slice_get above.functions n ≡ Some f → (t : TypedShader) → Begins (structures_above above) t.structures → Begins above.functions t.functions → IsFunction t n f
  pub called : (word : List ℕ) (k : ℕ) (c : Candidate) → slice_get (above.sight.functions word) k ≡ Some c → IsDeclared above.functions c

pub top_fits : AboveFits at_the_top
top_fits = record { structures = refl; functions = λ n f at t s g. none_is_not f at; called = λ word k c at. none_is_not c at }

structure_kept : (structure : structure_tree.Structure) (above next : Above) → AboveFits above → structure_added structure above ≡ Some next → AboveFits next
unfolding structure_added
structure_kept structure above next fits h =
    let t = held (not (is_some (structure_named 0 above.sight.structures structure.name))) _ next h in
    let fields = bound (lines_added above.sight.structures structure.fields []) _ next (t.1) in
    let s : StructureName = record { name = structure.name; fields = fields.value } in
    let snoc : structures_above (with_structure s above) ≡ structures_above above ++ kinds_of_fields s ∷ [] = map_snoc kinds_of_fields above.sight.structures s in
    let z : 0 + length (structures_above above) ≡ length above.sight.structures = let m = length-map above.sight.structures kinds_of_fields in omega arith in
    subst AboveFits (some_same _ next fields.goes) (record {
      structures = ap (structures_fit 0) snoc ∙ structures_snoc 0 (structures_above above) (kinds_of_fields s) fits.structures
          (ap (λ n. list_all (field_fits n) (kinds_of_fields s).fields) z ∙ lines_fit above.sight.structures structure.fields [] fields.value refl fields.was);
      functions = λ n f at t begins functions. fits.functions n f at t (begins_less (structures_above above) (kinds_of_fields s ∷ []) t.structures (subst (λ l. Begins l t.structures) snoc begins)) functions;
      called = fits.called;
    })

-- ---- functions

kinds_sound : (structures : List TypedStructure) (count : ℕ) (kind : Kind) → count ≤ length structures → kind_below count kind ≡ true → variable_fits structures kind ≡ true
kinds_sound structures count (Value ty) le h = h
kinds_sound structures count (Structure m) le h = let low : m < count = ltb-true m count h in lt-ltb m (length structures) (omega arith)
kinds_sound structures count Void le h = absurd (false≢true h)

all_sound : (structures : List TypedStructure) (count : ℕ) (kinds : List Kind) → count ≤ length structures → list_all (kind_below count) kinds ≡ true → list_all (variable_fits structures) kinds ≡ true
all_sound structures count [] le h = refl
all_sound structures count (kind ∷ kinds) le h =
    let p = and_parts (kind_below count kind) (list_all (kind_below count) kinds) h in
    and_from _ _ (kinds_sound structures count kind le (p.0)) (all_sound structures count kinds le (p.1))

result_sound : (structures : List TypedStructure) (kind : Kind) → variable_fits structures kind ≡ true → result_fits structures kind ≡ true
result_sound structures (Value ty) h = h
result_sound structures (Structure m) h = h
result_sound structures Void h = refl

-- the frame of a body after its parameters
pub frame_fits : (sight : Sight) (structures : List TypedStructure) (begin : Scope) (formals : List Formal) (before mid after : Scope) (body : List TypedStmt) (test : Rules → Bool) → begin.kinds ≡ [] → mid.kinds ≡ before.kinds → length sight.structures ≤ length structures
    → FormalsGrow (length sight.structures) begin formals before → Grows sight mid (declared_in body) after test → IsFrame structures (kinds_of_formals formals) after.kinds body
frame_fits sight structures begin formals before mid after body test none same le fs g =
    let start : mid.kinds ≡ kinds_of_formals formals = same ∙ fs.kinds ∙ ap (λ l. l ++ kinds_of_formals formals) none in
    let all : after.kinds ≡ kinds_of_formals formals ++ kinds_declared (declared_in body) = g.kinds ∙ ap (λ l. l ++ kinds_declared (declared_in body)) start in
    record {
      kinds = all;
      numbers = ap (λ (l : List Kind). are_numbered (length l) (declared_in body)) (sym start) ∙ g.numbers;
      fit = ap (list_all (variable_fits structures)) all ∙ list_all-append (variable_fits structures) (kinds_of_formals formals) (kinds_declared (declared_in body))
          ∙ and_from _ _ (all_sound structures (length sight.structures) (kinds_of_formals formals) le fs.sound) (all_sound structures (length sight.structures) (kinds_declared (declared_in body)) le g.sound);
    }

-- variables behind the formal parameters may be assigned, and outputs
pub behind_formals : (formals : List Formal) (k : ℕ) → length formals ≤ k → is_output (slice_get formals k) ≡ true
behind_formals [] k le = refl
behind_formals (f ∷ formals) zero le = let low : suc (length formals) ≤ 0 = le in absurd (omega arith)
behind_formals (f ∷ formals) (suc k) le = let low : suc (length formals) ≤ suc k = le in behind_formals formals k (omega arith)

declared_more : (fs gs : List TypedFunction) (c : Candidate) → Begins fs gs → IsDeclared fs c → IsDeclared gs c
declared_more fs gs c b d = record { number = d.number; f = d.f; callee = d.callee; is = begins_at fs gs d.number d.f b d.is; formals = d.formals; result = d.result }

take_front : {X : Type 0} (xs ys : List X) → take (length xs) (xs ++ ys) ≡ xs
take_front [] ys = refl
take_front (x ∷ xs) ys = ap (λ zs. x ∷ zs) (take_front xs ys)

pub map_at : {X Y : Type 0} (f : X → Y) (xs : List X) (k : ℕ) (x : X) → slice_get xs k ≡ Some x → slice_get (map f xs) k ≡ Some (f x)
map_at f [] k x h = none_is_not x h
map_at f (y ∷ xs) zero x h = ap (λ z. Some (f z)) (some_same y x h)
map_at f (y ∷ xs) (suc k) x h = map_at f xs k x h

pub sight_structures : (above : Above) (structures : List TypedStructure) → Begins (structures_above above) structures → (m : ℕ) (s : StructureName) → slice_get above.sight.structures m ≡ Some s → slice_get structures m ≡ Some (kinds_of_fields s)
sight_structures above structures b m s at = begins_at (structures_above above) structures m (kinds_of_fields s) b (map_at kinds_of_fields above.sight.structures m s at)

pub above_length : (above : Above) (structures : List TypedStructure) → Begins (structures_above above) structures → length above.sight.structures ≤ length structures
above_length above structures b = let n = begins_length (structures_above above) structures b in let m = length-map above.sight.structures kinds_of_fields in omega arith

record IsResult (above : Above) (kind : Kind) : Type 0 where
  fits : (structures : List TypedStructure) → Begins (structures_above above) structures → result_fits structures kind ≡ true

result_is : (above : Above) (type : Option TypeName) (kind : Kind) → result_kind above.sight.structures type ≡ Some kind → IsResult above kind
result_is above None kind h = record { fits = λ structures b. ap (result_fits structures) (sym (some_same Void kind h)) }
result_is above (Some type) kind h = record {
  fits = λ structures b. result_sound structures kind (kinds_sound structures (length above.sight.structures) kind (above_length above structures b) (declared_below above.sight.structures type None kind h));
}

-- one more function
function_one : (above : Above) (f : Function) (result : Kind) (formals : List Formal) (before after : Scope) (body : List TypedStmt) → AboveFits above → IsResult above result
    → FormalsGrow (length above.sight.structures) (enter (outermost (λ g. false))) formals before → Grows above.sight (enter before) (declared_in body) after (λ rules. body_fits rules result body)
    → (t : TypedShader) → Begins (structures_above above) t.structures → Begins above.functions t.functions → IsFunction t (length above.functions) (record { result = result; formals = formals; frame = after.kinds; body = body })
function_one above f result formals before after body fits is fs g t structures functions =
    let typed : TypedFunction = record { result = result; formals = formals; frame = after.kinds; body = body } in
    let rules = rules_of_function t (length above.functions) typed in
    let le = above_length above t.structures structures in
    let frame = frame_fits above.sight t.structures (enter (outermost (λ g. false))) formals before (enter before) after body (λ rules. body_fits rules result body) refl refl le fs g in
    let ours : take (length above.functions) t.functions ≡ above.functions = ap (take (length above.functions)) functions.is ∙ take_front above.functions functions.rest in
    let many : length before.kinds ≡ length formals = ap length fs.kinds ∙ length-map formals (λ formal. formal.kind) in
    let extends : Extends rules after.kinds = whole_frame rules after.kinds refl refl in
    let first : Extends rules before.kinds = λ k kind at. extends k kind (begins_at before.kinds after.kinds k kind (record { rest = kinds_declared (declared_in body); is = g.kinds }) at) in
    let names : NamesFit rules before.bindings = fs.names rules (globals_fit rules (λ g. false) (λ g no_write. absurd (false≢true no_write))) first
    (λ k formal at out. let z : 0 + k ≡ k = omega arith in ap (λ j. is_output (slice_get formals j)) z ∙ ap is_output at ∙ out) in
    record {
      result = is.fits t.structures structures;
      frame = frame;
      body = (g.fits rules (record {
        sees = record {
          structures = sight_structures above t.structures structures;
          functions = λ word k c at. subst (λ fs. IsDeclared fs c) (sym ours) (fits.called word k c at);
        };
        names = names;
        fresh = λ k low. behind_formals formals k (omega arith);
        holds = extends;
      })).0;
    }

abbrev called_more : Functions → List ℕ → Candidate → List ℕ → Bool → List Candidate
called_more functions name c other t = if t then functions other ++ c ∷ [] else functions other

-- what may be called after one more function
function_called : (above : Above) (name : List ℕ) (f : TypedFunction) → ((word : List ℕ) (k : ℕ) (c : Candidate) → slice_get (above.sight.functions word) k ≡ Some c → IsDeclared above.functions c)
    → (word : List ℕ) (k : ℕ) (c : Candidate) → slice_get ((with_typed name f above).sight.functions word) k ≡ Some c → IsDeclared (above.functions ++ f ∷ []) c
function_called above name f old word k c h =
    let new : Candidate = record { signature = record { params = f.formals; result = f.result }; callee = Declared (length above.functions) } in
    let more : Begins above.functions (above.functions ++ f ∷ []) = record { rest = f ∷ []; is = refl } in
    (elim (bytes_eq word name) as (λ t. slice_get (called_more above.sight.functions name new word t) k ≡ Some c → IsDeclared (above.functions ++ f ∷ []) c) [
      | true ↦ λ g. elim (snoc_at (above.sight.functions word) new k c g) [
        | inl at ↦ declared_more above.functions (above.functions ++ f ∷ []) c more (old word k c at)
        | inr last ↦ subst (IsDeclared (above.functions ++ f ∷ [])) (last.1) (record { number = length above.functions; f = f; callee = refl; is = at_end above.functions f; formals = refl; result = refl })
      ]
      | false ↦ λ g. declared_more above.functions (above.functions ++ f ∷ []) c more (old word k c g)
    ]) h

function_kept : (f : Function) (above next : Above) → AboveFits above → function_added f above ≡ Some next → AboveFits next
unfolding function_added
function_kept f above next fits h =
    let result = bound (result_kind above.sight.structures f.result) _ next h in
    let formals = bound (formals_added above.sight.structures f.formals (enter (outermost (λ g. false)))) _ next result.goes in
    let t = held (not (is_taken above.sight f.name (formal_kinds (formals.value.0)))) _ next formals.goes in
    let body = bound (body_typed (record { sight = above.sight; result = result.value }) f.body (enter (formals.value.1))) _ next (t.1) in
    let fs = formals_grow above.sight.structures f.formals (enter (outermost (λ g. false))) formals.value formals.was in
    let g = body_keeps (record { sight = above.sight; result = result.value }) f.body (enter (formals.value.1)) body.value body.was in
    let typed : TypedFunction = record { result = result.value; formals = formals.value.0; frame = (body.value.1).kinds; body = body.value.0 } in
    let made = function_one above f result.value (formals.value.0) (formals.value.1) (body.value.1) (body.value.0) fits (result_is above f.result result.value result.was) fs g in
    subst AboveFits (some_same _ next body.goes) (record {
      structures = fits.structures;
      functions = λ n g at t begins functions.
          let before = begins_less above.functions (typed ∷ []) t.functions functions in
          elim (snoc_at above.functions typed n g at) [
            | inl old ↦ fits.functions n g old t begins before
            | inr last ↦ subst (λ k. IsFunction t k g) (sym (last.0)) (subst (IsFunction t (length above.functions)) (last.1) (made t begins before))
          ];
      called = function_called above f.name typed fits.called;
    })

pub definitions_kept : (definitions : List Definition) (above next : Above) → AboveFits above → definitions_added definitions above ≡ Some next → AboveFits next
unfolding definitions_added
definitions_kept [] above next fits h = subst AboveFits (some_same above next h) fits
definitions_kept (definitions.Structure structure ∷ rest) above next fits h =
    let one = bound (structure_added structure above) _ next h in definitions_kept rest one.value next (structure_kept structure above one.value fits one.was) one.goes
definitions_kept (definitions.Function f ∷ rest) above next fits h =
    let one = bound (function_added f above) _ next h in definitions_kept rest one.value next (function_kept f above one.value fits one.was) one.goes
