-- A call keeps states typed and gives its kind, if functions do: arguments are passed as the formal parameters want them, and outputs are copied back.
use Rattle.std.proofs.Common.{◌≡◌, ℕ, ◌+◌, Bool, true, false, ◌&&◌, List, [], ◌∷◌, length, map, Option, Some, None, refl, sym, ap, ◌∙◌, subst}
use Rattle.std.specs.Prelude.{slice_get}
use Rattle.std.specs.List.{All}
use Rattle.std.proofs.lemmas.Bool.{false≢true, and_parts}
use Rattle.osl_value.specs.AnyValue.{AnyValue}
use Rattle.osl_value.specs.WellFormed.{IsValue}
use Rattle.osl_layer.specs.Layer.{Inputs}
use Rattle.osl_overload.specs.Kinds.{same_kind}
use Rattle.osl_overload.specs.declared.signature.Formal.{Formal}
use Rattle.osl_overload.specs.declared.signature.Kind.{Kind}
use Rattle.osl_typed.specs.declared.expr.Argument.TheOpen as e
use Rattle.osl_typed.specs.declared.expr.Part.{Part}
use Rattle.osl_typed.specs.declared.expr.Root.{Root}
use Rattle.osl_typed.specs.declared.shader.TypedFunction.{TypedFunction}
use Rattle.osl_typed.specs.Expressions as source
use Rattle.osl_typed.specs.Expressions.{Meaning, Calls, Called, Came, Left, Lost, Passed, Copied, Lent, Passing, value_passed, write_back, copied_back, counted, after_call, read_part, expr_step}
use Rattle.osl_typed.specs.Parts.{single}
use Rattle.osl_typed.specs.Selections.{part_kind, kind_at, component_count}
use Rattle.osl_typed.specs.State.{State, ExpressionEnd, Gives, then_value, in_order}
use Rattle.osl_welltyped.specs.Kinded.{Rules, only_if, led_to, root_kind, read_fits, stored_fits, is_alike, passes, call_fits, formal_of, argument_step, kind_step}
use Rattle.osl_welltyped.proofs.Steps.{none_is_not, some_same, same_kind-true}
use Rattle.osl_typed_runs.specs.Typed.{IsOfKind, IsTypedState, EndsTyped, frame_by, types_by, IsTypedFrame, AreArguments, CallEndsTyped, CallsKeep}
use Rattle.osl_typed_runs.proofs.KindTests.{if_so}
use Rattle.osl_typed_runs.proofs.NodeTypes.{Sound, Sounds, then_typed, order_typed, ints_keep, fits, as_many}
use Rattle.osl_typed_runs.proofs.PartTypes.{IsNamed, part_read, part_written}

module _ (rules : Rules) (inputs : Inputs) (calls : Calls) (fit : IsTypedFrame rules inputs) where
  -- ---- what is passed

  -- a part that a value of the kind may be written to
  pub record LentFits (kind : Kind) (root : Root) (part : Part) (indices : List AnyValue) : Type 0 where
    pub from : Kind
    pub is : root_kind rules root ≡ Some from
    pub led : led_to rules.structures (Some from) part.fields ≡ Some part.kind
    pub named : IsNamed part
    pub values : All IsValue indices
    pub kind_is : kind_at part.kind (length indices + component_count part.component) ≡ kind

  abbrev pub PassedTyped : Kind → Passed → Type 0
  PassedTyped kind (Copied value) = IsOfKind rules.structures kind value
  PassedTyped kind (Lent value root part indices) = IsOfKind rules.structures kind value × LentFits kind root part indices

  abbrev pub AllPassed : List Formal → List Passed → Type 0
  AllPassed [] [] = Unit {0}
  AllPassed [] (p ∷ ps) = ⊥
  AllPassed (formal ∷ formals) [] = ⊥
  AllPassed (formal ∷ formals) (p ∷ ps) = PassedTyped formal.kind p × AllPassed formals ps

  -- of the kind that there is, if there is one
  abbrev pub SoundArgument : Option Formal → Passing → Type 0
  SoundArgument o m = (formal : Formal) → o ≡ Some formal → (s : State) → IsTypedState (types_by rules) s → EndsTyped (types_by rules) (PassedTyped formal.kind) (m s)

  abbrev pub SoundArguments : List (Option Formal) → List Passing → Type 0
  SoundArguments [] [] = Unit {0}
  SoundArguments [] (m ∷ ms) = ⊥
  SoundArguments (o ∷ os) [] = ⊥
  SoundArguments (o ∷ os) (m ∷ ms) = SoundArgument o m × SoundArguments os ms

  -- ---- one argument

  record Passes (output : Bool) (o : Option Kind) (formal : Formal) : Type 0 where
    kind : Kind
    is : o ≡ Some kind
    same : kind ≡ formal.kind

  formal_there : (output : Bool) (o : Option Kind) (formal : Formal) → formal_of output o ≡ Some formal → Passes output o formal
  formal_there output None formal h = none_is_not formal h
  formal_there output (Some kind) formal h = record { kind = kind; is = refl; same = ap (λ (f : Formal). f.kind) (some_same _ formal h) }

  pub in_sound : (o : Option Kind) (m : Meaning) → Sound rules inputs calls fit o m → SoundArgument (argument_step rules (e.In o)) (source.argument_step (frame_by rules inputs) (e.In m))
  in_sound o m sound formal h s typed =
      let p = formal_there false o formal h in
      then_typed rules inputs calls fit (IsOfKind rules.structures formal.kind) (PassedTyped formal.kind) (m s) (λ v s1. Gives (Copied v) s1) (sound formal.kind (p.is ∙ ap Some p.same) s typed)
      (λ v s1 is t. (is, t))

  pub out_sound : (root : Root) (part : Part) (os : List (Option Kind)) (ms : List Meaning) → Sounds rules inputs calls fit os ms → SoundArgument (argument_step rules (e.Out root part os)) (source.argument_step (frame_by rules inputs) (e.Out root part ms))
  out_sound root part os ms all formal h s typed =
      let p = formal_there true (only_if (stored_fits rules root part os) (part_kind part os)) formal h in
      let t = if_so (stored_fits rules root part os) (part_kind part os) p.kind p.is in
      let f = fits rules inputs calls fit (root_kind rules root) part os (and_parts (rules.may_write root) (read_fits rules root part os) t.0).1 in
      order_typed rules inputs calls fit (PassedTyped formal.kind) ms s
      (λ is s1. then_value (read_part (frame_by rules inputs) root part (map single is) s1) (λ v s2. Gives (Lent v root part (map single is)) s2)) (ints_keep rules inputs calls fit os ms all f.ints) typed
      (λ vs s1 n is t1.
      let kind_is = as_many rules inputs calls fit part os ms vs all n ∙ t.1 ∙ p.same in
      then_typed rules inputs calls fit (IsOfKind rules.structures (kind_at part.kind (length (map single vs) + component_count part.component))) (PassedTyped formal.kind)
      (read_part (frame_by rules inputs) root part (map single vs) s1) (λ v s2. Gives (Lent v root part (map single vs)) s2)
      (part_read rules inputs fit part f.kind f.led f.named root (map single vs) s1 is f.is t1)
      (λ v s2 holds t2. (
        (subst (λ k. IsOfKind rules.structures k v) kind_is holds, record { from = f.kind; is = f.is; led = f.led; named = f.named; values = is; kind_is = kind_is }),
        t2,
      )))

  -- ---- all arguments

  as_wanted : (from to : Kind) (p : Passed) → from ≡ to → PassedTyped from p → PassedTyped to p
  as_wanted from to p same h = subst (λ k. PassedTyped k p) same h

  arguments_typed : {B : Type 0} (QB : B → Type 0) (formals : List Formal) (os : List (Option Formal)) (ms : List Passing) (s : State) (go : List Passed → State → ExpressionEnd B) → SoundArguments os ms → passes formals os ≡ true → IsTypedState (types_by rules) s
      → ((ps : List Passed) (s1 : State) → AllPassed formals ps → IsTypedState (types_by rules) s1 → EndsTyped (types_by rules) QB (go ps s1)) → EndsTyped (types_by rules) QB (in_order ms s go)
  unfolding in_order
  arguments_typed QB [] [] [] s go all h typed f = f [] s tt typed
  arguments_typed QB [] [] (m ∷ ms) s go all h typed f = absurd all
  arguments_typed QB [] (o ∷ os) ms s go all h typed f = absurd (false≢true h)
  arguments_typed QB (formal ∷ formals) [] ms s go all h typed f = absurd (false≢true h)
  arguments_typed QB (formal ∷ formals) (None ∷ os) ms s go all h typed f = absurd (false≢true h)
  arguments_typed QB (formal ∷ formals) (Some arg ∷ os) [] s go all h typed f = absurd all
  arguments_typed QB (formal ∷ formals) (Some arg ∷ os) (m ∷ ms) s go all h typed f =
      let p = and_parts (same_kind arg.kind formal.kind && is_alike arg.output formal.output) (passes formals os) h in
      let q = and_parts (same_kind arg.kind formal.kind) (is_alike arg.output formal.output) p.0 in
      then_typed rules inputs calls fit (PassedTyped arg.kind) QB (m s) (λ a s1. in_order ms s1 (λ rest s2. go (a ∷ rest) s2)) (all.0 arg refl s typed)
      (λ a s1 is t. arguments_typed QB formals os ms s1 (λ rest s2. go (a ∷ rest) s2) all.1 p.1 t (λ ps s2 rest t2. f (a ∷ ps) s2 (as_wanted arg.kind formal.kind a (same_kind-true arg.kind formal.kind q.0) is, rest) t2))

  value_typed : (kind : Kind) (p : Passed) → PassedTyped kind p → IsOfKind rules.structures kind (value_passed p)
  value_typed kind (Copied value) h = h
  value_typed kind (Lent value root part indices) h = h.0

  values_passed : (formals : List Formal) (ps : List Passed) → AllPassed formals ps → AreArguments rules.structures formals (map value_passed ps)
  values_passed [] [] all = tt
  values_passed [] (p ∷ ps) all = absurd all
  values_passed (formal ∷ formals) [] all = absurd all
  values_passed (formal ∷ formals) (p ∷ ps) all = (value_typed formal.kind p all.0, values_passed formals ps all.1)

  -- ---- the return

  written_back : (kind : Kind) (p : Passed) (final : List AnyValue) (s : State) → PassedTyped kind p → IsOfKind rules.structures kind final → IsTypedState (types_by rules) s → IsTypedState (types_by rules) (write_back (frame_by rules inputs) p final s)
  written_back kind (Copied value) final s h is typed = typed
  written_back kind (Lent value root part indices) final s h is typed =
      part_written rules inputs fit part h.1.from h.1.led h.1.named root indices final s h.1.values h.1.is (subst (λ k. IsOfKind rules.structures k final) (sym h.1.kind_is) is) typed

  back_typed : (formals : List Formal) (ps : List Passed) (finals : List (List AnyValue)) (s : State) → AllPassed formals ps → AreArguments rules.structures formals finals → IsTypedState (types_by rules) s → IsTypedState (types_by rules) (copied_back (frame_by rules inputs) ps finals s)
  back_typed [] [] finals s all are typed = typed
  back_typed [] (p ∷ ps) finals s all are typed = absurd all
  back_typed (formal ∷ formals) [] finals s all are typed = typed
  back_typed (formal ∷ formals) (p ∷ ps) [] s all are typed = absurd are
  back_typed (formal ∷ formals) (p ∷ ps) (final ∷ finals) s all are typed =
      back_typed formals ps finals (write_back (frame_by rules inputs) p final s) all.1 are.1 (written_back formal.kind p final s all.0 are.0 typed)

  after_typed : (f : TypedFunction) (ps : List Passed) (s : State) (end : Called) → AllPassed f.formals ps → CallEndsTyped rules.structures f end → IsTypedState (types_by rules) s
      → EndsTyped (types_by rules) (IsOfKind rules.structures f.result) (after_call (frame_by rules inputs) ps s end)
  after_typed f ps s (Came result finals turns reads) all is typed = (is.0, back_typed f.formals ps finals (counted turns reads s) all is.1 (record { vars = typed.vars; globals = typed.globals }))
  after_typed f ps s (Left turns reads) all is typed = record { vars = typed.vars; globals = typed.globals }
  after_typed f ps s (Lost turns reads) all is typed = record { vars = typed.vars; globals = typed.globals }

  -- ---- the node

  module _ (keep : CallsKeep rules.structures rules.functions calls) where
    called_typed : (n : ℕ) (f : TypedFunction) (os : List (Option Formal)) (ms : List Passing) (s : State) → slice_get rules.functions n ≡ Some f → passes f.formals os ≡ true → SoundArguments os ms → IsTypedState (types_by rules) s
        → EndsTyped (types_by rules) (IsOfKind rules.structures f.result) (source.called (frame_by rules inputs) calls n ms s)
    called_typed n f os ms s is h all typed =
        arguments_typed (IsOfKind rules.structures f.result) f.formals os ms s (λ ps s1. after_call (frame_by rules inputs) ps s1 (calls n (map value_passed ps) s1.globals s1.turns s1.reads)) all h typed
        (λ ps s1 passed t. after_typed f ps s1 (calls n (map value_passed ps) s1.globals s1.turns s1.reads) passed (keep.each n f (map value_passed ps) s1.globals s1.turns s1.reads is (values_passed f.formals ps passed) t.globals) t)

    call_typed : (n : ℕ) (kind : Kind) (os : List (Option Formal)) (ms : List Passing) (s : State) (o : Option TypedFunction) → slice_get rules.functions n ≡ o → call_fits o kind os ≡ true → SoundArguments os ms → IsTypedState (types_by rules) s
        → EndsTyped (types_by rules) (IsOfKind rules.structures kind) (source.called (frame_by rules inputs) calls n ms s)
    call_typed n kind os ms s None is h all typed = absurd (false≢true h)
    call_typed n kind os ms s (Some f) is h all typed =
        let p = and_parts (same_kind f.result kind) (passes f.formals os) h in
        subst (λ k. EndsTyped (types_by rules) (IsOfKind rules.structures k) (source.called (frame_by rules inputs) calls n ms s)) (same_kind-true f.result kind p.0) (called_typed n f os ms s is p.1 all typed)

    pub call_sound : (n : ℕ) (k : Kind) (os : List (Option Formal)) (ms : List Passing) → SoundArguments os ms → Sound rules inputs calls fit (kind_step rules (e.Call n k os)) (expr_step (frame_by rules inputs) calls (e.Call n k ms))
    call_sound n k os ms all kind h s typed =
        let t = if_so (call_fits (slice_get rules.functions n) k os) k kind h in
        subst (λ z. EndsTyped (types_by rules) (IsOfKind rules.structures z) (source.called (frame_by rules inputs) calls n ms s)) t.1 (call_typed n k os ms s (slice_get rules.functions n) refl t.0 all typed)
