-- Calls of a well typed shader's functions keep types: by their numbers, since each calls earlier ones.
use Rattle.std.proofs.Common.{◌≡◌, ◌≢◌, ℕ, zero, suc, ◌+◌, Bool, true, false, List, [], ◌∷◌, length, take, Some, None, refl, sym, ap, ◌∙◌, subst}
use Rattle.std.specs.Prelude.{slice_get, ◌==◌, if◌then◌else◌}
use Rattle.std.specs.List.{flat_map, list_all}
use Rattle.std.proofs.lemmas.Bool.{eqb-true, eqb-false}
use Rattle.std.proofs.lemmas.Grind.{flat_map-append}
use Rattle.osl_value.specs.declared.types.Ty.{Ty}
use Rattle.osl_value.specs.AnyValue.{AnyValue, Parts, zero_value}
use Rattle.osl_value.specs.WellFormed.{IsOfType}
use Rattle.osl_layer.specs.Layer.{From, Default}
use Rattle.osl_overload.specs.declared.signature.Formal.{Formal}
use Rattle.osl_typed.specs.declared.shader.TypedFunction.{TypedFunction}
use Rattle.osl_typed.specs.declared.shader.TypedShader.{TypedShader}
use Rattle.osl_typed.specs.declared.shader.TypedStructure.{TypedStructure}
use Rattle.osl_typed.specs.Ends.{StatementEnd, Next, Breaks, Continues, Returns, Exits, Spent}
use Rattle.osl_typed.specs.Expressions.{Calls}
use Rattle.osl_typed.specs.Frames.{leaves_of, zeros_of, zero_leaves}
use Rattle.osl_typed.specs.State.{Environment, Globals, Reads}
use Rattle.osl_typed.specs.Statements.{exec_all, finals_from, call_end, frame_types, entered, function_frame, run_function, below}
use Rattle.osl_welltyped.specs.Kinded.{is_type}
use Rattle.osl_welltyped.specs.Measures.{by_fault, body_measured}
use Rattle.osl_welltyped.specs.WellTyped.{kinds_of_formals, kinds_declared, rules_of_function, IsFunction, FitsRules}
use Rattle.osl_welltyped.specs.StatementsFit.{declared_in}
use Rattle.osl_welltyped.proofs.Steps.{none_is_not}
use Rattle.oso_code.proofs.TypedStart.{zero_typed}
use Rattle.osl_typed_runs.specs.Typed.{AreOfTypes, LeavesHaveTypes, GlobalsHaveTypes, IsTypedState, StatementEndsTyped, types_by, IsTypedFrame, AreArguments, CallEndsTyped, CallsKeep}
use Rattle.osl_typed_runs.proofs.LeafKinds.{all_get, frame_all, result_all, zero_row}
use Rattle.osl_typed_runs.proofs.LeafRows.{LiesIn, lies_first, lies_before, lies_after}
use Rattle.osl_typed_runs.proofs.LeafTypes.{no_values, both_rows, row_held, row_written}
use Rattle.osl_typed_runs.proofs.StatementTypes.{statements_keep}

-- ---- formal parameters

abbrev formal_row : List TypedStructure → List Formal → List Ty
formal_row structures formals = flat_map (leaves_of structures) (kinds_of_formals formals)

arguments_row : (structures : List TypedStructure) (formals : List Formal) (args : List (List AnyValue)) → AreArguments structures formals args → AreOfTypes (formal_row structures formals) (flat_map (λ arg. arg) args)
arguments_row structures [] [] are = no_values
arguments_row structures [] (arg ∷ args) are = absurd are
arguments_row structures (formal ∷ formals) [] are = absurd are
arguments_row structures (formal ∷ formals) (arg ∷ args) are =
    both_rows (leaves_of structures formal.kind) (formal_row structures formals) arg (flat_map (λ arg. arg) args) are.0 (arguments_row structures formals args are.1)

finals_typed : (structures : List TypedStructure) (types : List Ty) (vars : Environment) (at : ℕ) (formals : List Formal) → LeavesHaveTypes types vars → LiesIn types at (formal_row structures formals) → AreArguments structures formals (finals_from structures at formals vars)
unfolding finals_from
finals_typed structures types vars at [] have lies = tt
finals_typed structures types vars at (formal ∷ formals) have lies =
    let own = leaves_of structures formal.kind in
    let rest = formal_row structures formals in
    (row_held types own vars at have (lies_before types own rest at lies), finals_typed structures types vars (at + length own) formals have (lies_after types own rest at lies))

-- ---- the start

pub zeros_typed : (types : List Ty) → list_all is_type types ≡ true → LeavesHaveTypes types (zero_leaves types)
zeros_typed types fits = record { each = λ k ty is. subst (λ o. IsOfType ty (elim o [ None ↦ Parts [] | Some t ↦ zero_value t ])) (sym is) (zero_typed ty (all_get is_type types k ty fits is)) }

entered_typed : (types row : List Ty) (args : List (List AnyValue)) (globals : Globals) (turns : ℕ) (reads : Reads) → list_all is_type types ≡ true → LiesIn types 0 row → AreOfTypes row (flat_map (λ arg. arg) args) → GlobalsHaveTypes globals → IsTypedState types (entered types args globals turns reads)
entered_typed types row args globals turns reads fits lies are typed = record {
  vars = row_written types row (flat_map (λ arg. arg) args) (zero_leaves types) 0 (zeros_typed types fits) are lies;
  globals = typed;
}

-- ---- the end

end_typed : (structures : List TypedStructure) (types : List Ty) (f : TypedFunction) (end : StatementEnd) → AreOfTypes (leaves_of structures f.result) (zeros_of structures f.result) → LiesIn types 0 (formal_row structures f.formals)
    → StatementEndsTyped structures types f.result end → CallEndsTyped structures f (call_end structures f end)
end_typed structures types f (Next s) zeros lies typed = (zeros, finals_typed structures types s.vars 0 f.formals typed.vars lies)
end_typed structures types f (Breaks s) zeros lies typed = (zeros, finals_typed structures types s.vars 0 f.formals typed.vars lies)
end_typed structures types f (Continues s) zeros lies typed = (zeros, finals_typed structures types s.vars 0 f.formals typed.vars lies)
end_typed structures types f (Returns v s) zeros lies typed = (typed.0, finals_typed structures types s.vars 0 f.formals typed.1.vars lies)
end_typed structures types f (Exits s) zeros lies typed = tt
end_typed structures types f (Spent s) zeros lies typed = tt

-- ---- earlier functions

pub never_from : (v : AnyValue) → Default ≡ From (Some v) → ⊥
never_from v h = cc h

earlier : {X : Type 0} (n : ℕ) (xs : List X) (k : ℕ) (x : X) → slice_get (take (suc n) xs) k ≡ Some x → k ≢ n → slice_get (take n xs) k ≡ Some x
earlier n [] k x h other = none_is_not x h
earlier zero (y ∷ ys) zero x h other = absurd (other refl)
earlier zero (y ∷ ys) (suc k) x h other = none_is_not x h
earlier (suc n) (y ∷ ys) zero x h other = h
earlier (suc n) (y ∷ ys) (suc k) x h other = earlier n ys k x h (λ e. other (ap suc e))

last_taken : {X : Type 0} (n : ℕ) (xs : List X) (x : X) → slice_get (take (suc n) xs) n ≡ Some x → slice_get xs n ≡ Some x
last_taken n [] x h = none_is_not x h
last_taken zero (y ∷ ys) x h = h
last_taken (suc n) (y ∷ ys) x h = last_taken n ys x h

-- ---- functions

module _ (t : TypedShader) (fit : FitsRules t) (good : (n : ℕ) (f : TypedFunction) → slice_get t.functions n ≡ Some f → body_measured by_fault f.body ≡ 0) where
  module _ (n : ℕ) (f : TypedFunction) (is : slice_get t.functions n ≡ Some f) where
    fun : IsFunction t n f
    fun = fit.functions n f is

    frame_typed : IsTypedFrame (rules_of_function t n f) (λ k. Default)
    frame_typed = record { structures = fit.structures; kinds = fun.frame.fit; connected = λ k v h. absurd (never_from v h); given = λ k v h. absurd (never_from v h) }

    formals_first : LiesIn (types_by (rules_of_function t n f)) 0 (formal_row t.structures f.formals)
    formals_first =
        let leaves = flat_map (leaves_of t.structures) in
        let split = ap leaves fun.frame.kinds ∙ flat_map-append (leaves_of t.structures) (kinds_of_formals f.formals) (kinds_declared (declared_in f.body)) in
        subst (λ types. LiesIn types 0 (formal_row t.structures f.formals)) (sym split) (lies_first (formal_row t.structures f.formals) (leaves (kinds_declared (declared_in f.body))))

    run_typed : (calls : Calls) (args : List (List AnyValue)) (globals : Globals) (turns : ℕ) (reads : Reads) → CallsKeep t.structures (take n t.functions) calls → AreArguments t.structures f.formals args → GlobalsHaveTypes globals
        → CallEndsTyped t.structures f (run_function t.structures calls (Some f) (entered (frame_types t.structures (Some f)) args globals turns reads))
    run_typed calls args globals turns reads keep are typed =
        let types = types_by (rules_of_function t n f) in
        let start = entered types args globals turns reads in
        end_typed t.structures types f (exec_all (function_frame t.structures f) calls f.body start) (zero_row (leaves_of t.structures f.result) (result_all t.structures fit.structures f.result fun.result)) formals_first
        (statements_keep (rules_of_function t n f) (λ k. Default) calls frame_typed keep f.result f.body fun.body (good n f is) start
        (entered_typed types (formal_row t.structures f.formals) args globals turns reads (frame_all t.structures fit.structures f.frame fun.frame.fit) formals_first (arguments_row t.structures f.formals args are) typed))

  pub below_keep : (n : ℕ) → CallsKeep t.structures (take n t.functions) (below t.structures t.functions n)
  unfolding below
  below_keep zero = record { each = λ k f args globals turns reads is are typed. none_is_not f is }
  below_keep (suc n) = record { each = λ k f args globals turns reads is are typed. by (below_keep n) k f args globals turns reads is are typed (k == n) refl }
    where
      by : CallsKeep t.structures (take n t.functions) (below t.structures t.functions n) → (k : ℕ) (f : TypedFunction) (args : List (List AnyValue)) (globals : Globals) (turns : ℕ) (reads : Reads) → slice_get (take (suc n) t.functions) k ≡ Some f → AreArguments t.structures f.formals args → GlobalsHaveTypes globals
          → (b : Bool) → (k == n) ≡ b
          → CallEndsTyped t.structures f (if b then run_function t.structures (below t.structures t.functions n) (slice_get t.functions n) (entered (frame_types t.structures (slice_get t.functions n)) args globals turns reads) else below t.structures t.functions n k args globals turns reads)
      by keep k f args globals turns reads is are typed true same =
          let here = last_taken n t.functions f (ap (slice_get (take (suc n) t.functions)) (sym (eqb-true k n same)) ∙ is) in
          subst (λ o. CallEndsTyped t.structures f (run_function t.structures (below t.structures t.functions n) o (entered (frame_types t.structures o) args globals turns reads))) (sym here)
          (run_typed n f here (below t.structures t.functions n) args globals turns reads keep are typed)
      by keep k f args globals turns reads is are typed false other = keep.each k f args globals turns reads (earlier n t.functions k f is (eqb-false k n other)) are typed
