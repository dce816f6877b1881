-- Statements keep states typed, and return values of their function's kind: by induction on the tree.
use Rattle.std.proofs.Common.{◌≡◌, ℕ, zero, suc, max, Bool, true, false, ◌&&◌, List, [], ◌∷◌, map, Option, Some, None, refl, sym, ◌∙◌, subst}
use Rattle.std.specs.Prelude.{slice_get, nat_lt, not, if◌then◌else◌, is_some}
use Rattle.std.specs.List.{list_all}
use Rattle.std.proofs.lemmas.Bool.{false≢true, and_parts}
use Rattle.osl_value.specs.AnyValue.{AnyValue}
use Rattle.osl_layer.specs.Layer.{Inputs}
use Rattle.osl_overload.specs.Kinds.{same_kind}
use Rattle.osl_overload.specs.declared.signature.Kind.{Kind}
use Rattle.osl_overload.specs.declared.signature.Kind.TheVariants.{Void}
use Rattle.osl_typed.specs.declared.expr.Root.TheVariants as root
use Rattle.osl_typed.specs.declared.expr.TypedExpr.{TypedExpr}
use Rattle.osl_typed.specs.declared.stmt.Declared.{Declared}
use Rattle.osl_typed.specs.declared.stmt.TypedForStart.{TypedForStart}
use Rattle.osl_typed.specs.declared.stmt.TypedForStart.TheVariants as start
use Rattle.osl_typed.specs.declared.stmt.TypedStmt.{TypedStmt, TypedStmt-F, fold-roll-TypedStmt, ind-TypedStmt, roll-TypedStmt}
use Rattle.osl_typed.specs.declared.stmt.TypedStmt.TheFolds.{map-TypedStmt}
use Rattle.osl_typed.specs.declared.stmt.TypedStmt.TheOpen as s
use Rattle.osl_typed.specs.Ends.{StatementEnd, Doing, Next, Breaks, Continues, Returns, Exits, Spent, then_do, in_turn, Tested, Holds, Fails, Ends, on_test, take_turn, after_body, turn, loop, looped}
use Rattle.osl_typed.specs.Expressions.{Meaning, Calls, holds, eval}
use Rattle.osl_typed.specs.Frames.{place_of}
use Rattle.osl_typed.specs.State as expression
use Rattle.osl_typed.specs.State.{State, ExpressionEnd, Gives, with_turns, write_leaves}
use Rattle.osl_typed.specs.Statements.{with_value, tested, done, begun_or_zero, declared, declared_all, decided, or_nothing, started, condition, step_of, returned, stmt_step, exec, exec_all}
use Rattle.osl_welltyped.specs.Kinded.{Rules, is_kind, root_kind, kinded}
use Rattle.osl_welltyped.specs.Measures as measures
use Rattle.osl_welltyped.specs.Measures.{by_fault, greatest_of, measured, or_zero, maybe_measured, begun_measured, declared_measured, start_measured, stmt_measured, body_measured}
use Rattle.osl_welltyped.specs.StatementsFit.{has_kind, maybe_fits, declared_fits, evaluated_fits, condition_fits, start_fits, if_any, returned_fits, Fits, fit_step, stmt_fits, body_fits}
use Rattle.osl_welltyped.proofs.Steps.{is_kind_is, same_kind-true}
use Rattle.osl_typed_runs.specs.Typed.{IsOfKind, IsTypedState, EndsTyped, StatementEndsTyped, frame_by, types_by, IsTypedFrame, CallsKeep}
use Rattle.osl_typed_runs.proofs.ExpressionTypes.{left_good, right_good, expr_sound}
use Rattle.osl_typed_runs.proofs.InitTypes.{kind_typed, begun_or_zero_typed, variable_written, kind_there}
use Rattle.osl_typed_runs.proofs.KindTests.{number_found}
use Rattle.osl_typed_runs.proofs.LeafTypes.{no_values}
use Rattle.osl_typed_runs.proofs.PartTypes.{there_is}

-- a kind that a test found
record There (o : Option Kind) : Type 0 where
  kind : Kind
  is : o ≡ Some kind

some_there : (o : Option Kind) → is_some o ≡ true → There o
some_there None h = absurd (false≢true h)
some_there (Some kind) h = record { kind = kind; is = refl }

is_void : (b : Bool) (kind : Kind) → same_kind kind Void ≡ b → b ≡ true → kind ≡ Void
is_void true kind is h = same_kind-true kind Void is
is_void false kind is h = absurd (false≢true h)

module _ (rules : Rules) (inputs : Inputs) (calls : Calls) (fit : IsTypedFrame rules inputs) (keep : CallsKeep rules.structures rules.functions calls) (result : Kind) where
  abbrev Typed : State → Type 0
  Typed s = IsTypedState (types_by rules) s

  abbrev pub Good : StatementEnd → Type 0
  Good end = StatementEndsTyped rules.structures (types_by rules) result end

  -- what keeps states typed
  abbrev pub Keeps : Doing → Type 0
  Keeps go = (s : State) → Typed s → Good (go s)

  abbrev AllKeep : List Doing → Type 0
  AllKeep [] = Unit {0}
  AllKeep (x ∷ xs) = Keeps x × AllKeep xs

  abbrev TestedTyped : Tested → Type 0
  TestedTyped (Holds s) = Typed s
  TestedTyped (Fails s) = Typed s
  TestedTyped (Ends end) = Good end

  -- ---- one after the other

  pub then_keeps : (end : StatementEnd) (go : Doing) → Good end → Keeps go → Good (then_do end go)
  then_keeps (Next s) go h keeps = keeps s h
  then_keeps (Breaks s) go h keeps = h
  then_keeps (Continues s) go h keeps = h
  then_keeps (Returns v s) go h keeps = h
  then_keeps (Exits s) go h keeps = h
  then_keeps (Spent s) go h keeps = h

  turn_keeps : (xs : List Doing) → AllKeep xs → Keeps (in_turn xs)
  unfolding in_turn
  turn_keeps [] all s typed = typed
  turn_keeps (x ∷ xs) all s typed = then_keeps (x s) (in_turn xs) (all.0 s typed) (turn_keeps xs all.1)

  pub value_keeps : {A : Type 0} (Q : A → Type 0) (x : ExpressionEnd A) (go : A → State → StatementEnd) → EndsTyped (types_by rules) Q x → ((a : A) (s : State) → Q a → Typed s → Good (go a s)) → Good (with_value x go)
  value_keeps Q (Gives a s) go h f = f a s h.0 h.1
  value_keeps Q (expression.Exits s) go h f = h
  value_keeps Q (expression.Spent s) go h f = h

  -- ---- loops

  test_keeps : (t : Tested) (go : Doing) → TestedTyped t → Keeps go → Good (on_test t go)
  test_keeps (Holds s) go h keeps = keeps s h
  test_keeps (Fails s) go h keeps = h
  test_keeps (Ends end) go h keeps = h

  body_keeps : (end : StatementEnd) (go : Doing) → Good end → Keeps go → Good (after_body end go)
  body_keeps (Next s) go h keeps = keeps s h
  body_keeps (Breaks s) go h keeps = h
  body_keeps (Continues s) go h keeps = keeps s h
  body_keeps (Returns v s) go h keeps = h
  body_keeps (Exits s) go h keeps = h
  body_keeps (Spent s) go h keeps = h

  taken_keeps : (n : ℕ) (s : State) (go : Doing) → Typed s → Keeps go → Good (take_turn n s go)
  taken_keeps zero s go typed keeps = typed
  taken_keeps (suc n) s go typed keeps = keeps (with_turns n s) (record { vars = typed.vars; globals = typed.globals })

  module _ (test : State → Tested) (body step : Doing) (test_typed : (s : State) → Typed s → TestedTyped (test s)) (body_typed : Keeps body) (step_typed : Keeps step) where
    one_turn : (rest : Doing) → Keeps rest → Keeps (turn body step rest)
    one_turn rest keeps s typed =
        taken_keeps s.turns s (λ s1. after_body (body s1) (λ s2. then_do (step s2) rest)) typed
        (λ s1 t1. body_keeps (body s1) (λ s2. then_do (step s2) rest) (body_typed s1 t1) (λ s2 t2. then_keeps (step s2) rest (step_typed s2 t2) keeps))

    loop_keeps : (n : ℕ) → Keeps (loop n test body step)
    unfolding loop
    loop_keeps zero s typed = test_keeps (test s) Spent (test_typed s typed) (λ s1 t1. t1)
    loop_keeps (suc n) s typed = test_keeps (test s) (turn body step (loop n test body step)) (test_typed s typed) (one_turn (loop n test body step) (loop_keeps n))

    looped_keeps : (tested_first : Bool) → Keeps (looped tested_first test body step)
    looped_keeps true s typed = loop_keeps s.turns s typed
    looped_keeps false s typed = one_turn (λ s1. loop s1.turns test body step s1) (λ s1 t1. loop_keeps s1.turns s1 t1) s typed

  -- ---- expressions in statements

  abbrev means : TypedExpr → Meaning
  means a = eval (frame_by rules inputs) calls a

  expression_typed : (a : TypedExpr) (kind : Kind) → kinded rules a ≡ Some kind → measured by_fault a ≡ 0 → (s : State) → Typed s → EndsTyped (types_by rules) (IsOfKind rules.structures kind) (means a s)
  expression_typed a kind is good s typed = expr_sound rules inputs calls fit keep a good kind is s typed

  done_keeps : (a : TypedExpr) → evaluated_fits rules a ≡ true → measured by_fault a ≡ 0 → Keeps (done (means a))
  done_keeps a h good s typed =
      let there = some_there (kinded rules a) h in
      value_keeps (IsOfKind rules.structures there.kind) (means a s) (λ v s1. Next s1) (expression_typed a there.kind there.is good s typed) (λ v s1 is t. t)

  tested_typed : (kind : Kind) (x : ExpressionEnd (List AnyValue)) → EndsTyped (types_by rules) (IsOfKind rules.structures kind) x → TestedTyped (tested x)
  tested_typed kind (Gives v s) h = by (holds v)
    where
      by : (b : Bool) → TestedTyped (if b then Holds s else Fails s)
      by true = h.1
      by false = h.1
  tested_typed kind (expression.Exits s) h = h
  tested_typed kind (expression.Spent s) h = h

  condition_typed : (c : Option TypedExpr) → if_any (condition_fits rules) c ≡ true → maybe_measured by_fault c ≡ 0 → (s : State) → Typed s → TestedTyped (condition (frame_by rules inputs) calls c s)
  condition_typed None h good s typed = typed
  condition_typed (Some c) h good s typed =
      let number = number_found (kinded rules c) h in
      tested_typed number.kind (means c s) (expression_typed c number.kind number.is good s typed)

  step_keeps : (a : Option TypedExpr) → if_any (evaluated_fits rules) a ≡ true → maybe_measured by_fault a ≡ 0 → Keeps (step_of (frame_by rules inputs) calls a)
  step_keeps None h good s typed = typed
  step_keeps (Some a) h good s typed = done_keeps a h good s typed

  returned_keeps : (a : Option TypedExpr) → returned_fits rules result a ≡ true → maybe_measured by_fault a ≡ 0 → Keeps (returned (frame_by rules inputs) calls a)
  returned_keeps None h good s typed = (subst (λ k. IsOfKind rules.structures k []) (sym (is_void (same_kind result Void) result refl h)) no_values, typed)
  returned_keeps (Some a) h good s typed =
      let p = and_parts (not (same_kind result Void)) (has_kind rules result a) h in
      value_keeps (IsOfKind rules.structures result) (means a s) (λ v s1. Returns v s1) (kind_typed rules inputs calls fit keep result a p.1 good s typed) (λ v s1 is t. (is, t))

  -- ---- declarations

  one_declared : (d : Declared) → declared_fits rules d ≡ true → begun_measured by_fault d.init ≡ 0 → Keeps (declared (frame_by rules inputs) calls d)
  one_declared d h good s typed =
      let p = and_parts (is_kind d.kind (root_kind rules (root.Variable d.number))) (maybe_fits rules d.kind d.init) h in
      let is = there_is (nat_lt d.number rules.ready) (slice_get rules.kinds d.number) d.kind (is_kind_is d.kind (root_kind rules (root.Variable d.number)) p.0) in
      value_keeps (IsOfKind rules.structures d.kind) (begun_or_zero (frame_by rules inputs) calls d.kind d.init s) (λ vs s1. Next (write_leaves (place_of rules.structures rules.kinds d.number) vs s1))
      (begun_or_zero_typed rules inputs calls fit keep d.kind d.init (kind_there rules inputs calls fit keep d.number d.kind is) p.1 good s typed)
      (λ vs s1 are t. variable_written rules inputs calls fit keep d.number d.kind vs s1 is are t)

  declarations_keep : (ds : List Declared) → list_all (declared_fits rules) ds ≡ true → declared_measured by_fault ds ≡ 0 → AllKeep (map (declared (frame_by rules inputs) calls) ds)
  declarations_keep [] h good = tt
  declarations_keep (d ∷ ds) h good =
      let p = and_parts (declared_fits rules d) (list_all (declared_fits rules) ds) h in
      (one_declared d p.0 (left_good (begun_measured by_fault d.init) (declared_measured by_fault ds) good), declarations_keep ds p.1 (right_good (begun_measured by_fault d.init) (declared_measured by_fault ds) good))

  declared_keeps : (ds : List Declared) → list_all (declared_fits rules) ds ≡ true → declared_measured by_fault ds ≡ 0 → Keeps (declared_all (frame_by rules inputs) calls ds)
  declared_keeps ds h good = turn_keeps (map (declared (frame_by rules inputs) calls) ds) (declarations_keep ds h good)

  start_keeps : (x : TypedForStart) → start_fits rules x ≡ true → start_measured by_fault x ≡ 0 → Keeps (started (frame_by rules inputs) calls x)
  start_keeps start.Nothing h good s typed = typed
  start_keeps (start.Expr a) h good s typed = done_keeps a h good s typed
  start_keeps (start.Declare ds) h good s typed = declared_keeps ds h good s typed

  decided_keeps : (c : TypedExpr) (a b : Doing) → condition_fits rules c ≡ true → measured by_fault c ≡ 0 → Keeps a → Keeps b → Keeps (decided (means c) a b)
  decided_keeps c a b h good ka kb s typed =
      let number = number_found (kinded rules c) h in
      value_keeps (IsOfKind rules.structures number.kind) (means c s) (λ v s1. if holds v then a s1 else b s1) (expression_typed c number.kind number.is good s typed) (λ v s1 is t. by (holds v) s1 t)
    where
      by : (z : Bool) (s1 : State) → Typed s1 → Good (if z then a s1 else b s1)
      by true s1 t = ka s1 t
      by false s1 t = kb s1 t

  -- ---- nodes

  -- in a loop or not, where it is well formed
  abbrev pub Sound : ℕ → Fits → Doing → Type 0
  Sound fault fits go = fault ≡ 0 → (in_loop : Bool) → fits in_loop ≡ true → Keeps go

  abbrev pub StmtSound : TypedStmt → Type 0
  StmtSound x = Sound (stmt_measured by_fault x) (stmt_fits rules result x) (exec (frame_by rules inputs) calls x)

  module _ (Y : Type 0) (tree : Y → TypedStmt) (sound : (y : Y) → StmtSound (tree y)) where
    abbrev fault : Y → ℕ
    fault y = stmt_measured by_fault (tree y)

    abbrev faults : List Y → ℕ
    faults ys = greatest_of (map (stmt_measured by_fault) (map tree ys))

    block_keeps : (ys : List Y) (in_loop : Bool) → list_all (λ fits. fits in_loop) (map (stmt_fits rules result) (map tree ys)) ≡ true → faults ys ≡ 0 → AllKeep (map (exec (frame_by rules inputs) calls) (map tree ys))
    block_keeps [] in_loop h good = tt
    block_keeps (y ∷ ys) in_loop h good =
        let p = and_parts (stmt_fits rules result (tree y) in_loop) (list_all (λ fits. fits in_loop) (map (stmt_fits rules result) (map tree ys))) h in
        (sound y (left_good (fault y) (faults ys) good) in_loop p.0, block_keeps ys in_loop p.1 (right_good (fault y) (faults ys) good))

    node_keeps : (l : TypedStmt-F Y)
        → Sound (measures.stmt_step by_fault (map-TypedStmt TypedStmt ℕ (stmt_measured by_fault) (map-TypedStmt Y TypedStmt tree l))) (fit_step rules result (map-TypedStmt TypedStmt Fits (stmt_fits rules result) (map-TypedStmt Y TypedStmt tree l)))
        (stmt_step (frame_by rules inputs) calls (map-TypedStmt TypedStmt Doing (exec (frame_by rules inputs) calls) (map-TypedStmt Y TypedStmt tree l)))
    node_keeps s.Empty good in_loop h s0 typed = typed
    node_keeps (s.Block ys) good in_loop h s0 typed = turn_keeps (map (exec (frame_by rules inputs) calls) (map tree ys)) (block_keeps ys in_loop h good) s0 typed
    node_keeps (s.Declare ds) good in_loop h s0 typed = declared_keeps ds h good s0 typed
    node_keeps (s.Expr a) good in_loop h s0 typed = done_keeps a h good s0 typed
    node_keeps s.Break good in_loop h s0 typed = typed
    node_keeps s.Continue good in_loop h s0 typed = typed
    node_keeps (s.Return a) good in_loop h s0 typed = returned_keeps a h good s0 typed
    node_keeps (s.If c a None) good in_loop h s0 typed =
        let p = and_parts (condition_fits rules c && stmt_fits rules result (tree a) in_loop) true h in
        let q = and_parts (condition_fits rules c) (stmt_fits rules result (tree a) in_loop) p.0 in
        let r = right_good (measured by_fault c) (max (fault a) 0) good in
        decided_keeps c (exec (frame_by rules inputs) calls (tree a)) (or_nothing None) q.0 (left_good (measured by_fault c) (max (fault a) 0) good)
        (sound a (left_good (fault a) 0 r) in_loop q.1) (λ s1 t1. t1) s0 typed
    node_keeps (s.If c a (Some b)) good in_loop h s0 typed =
        let p = and_parts (condition_fits rules c && stmt_fits rules result (tree a) in_loop) (stmt_fits rules result (tree b) in_loop) h in
        let q = and_parts (condition_fits rules c) (stmt_fits rules result (tree a) in_loop) p.0 in
        let r = right_good (measured by_fault c) (max (fault a) (fault b)) good in
        decided_keeps c (exec (frame_by rules inputs) calls (tree a)) (exec (frame_by rules inputs) calls (tree b)) q.0 (left_good (measured by_fault c) (max (fault a) (fault b)) good)
        (sound a (left_good (fault a) (fault b) r) in_loop q.1) (sound b (right_good (fault a) (fault b) r) in_loop p.1) s0 typed
    node_keeps (s.While c a) good in_loop h s0 typed =
        let p = and_parts (condition_fits rules c) (stmt_fits rules result (tree a) true) h in
        looped_keeps (condition (frame_by rules inputs) calls (Some c)) (exec (frame_by rules inputs) calls (tree a)) Next
        (condition_typed (Some c) p.0 (left_good (measured by_fault c) (fault a) good)) (sound a (right_good (measured by_fault c) (fault a) good) true p.1) (λ s1 t1. t1) true s0 typed
    node_keeps (s.DoWhile a c) good in_loop h s0 typed =
        let p = and_parts (stmt_fits rules result (tree a) true) (condition_fits rules c) h in
        looped_keeps (condition (frame_by rules inputs) calls (Some c)) (exec (frame_by rules inputs) calls (tree a)) Next
        (condition_typed (Some c) p.1 (right_good (fault a) (measured by_fault c) good)) (sound a (left_good (fault a) (measured by_fault c) good) true p.0) (λ s1 t1. t1) false s0 typed
    node_keeps (s.For x c step a) good in_loop h s0 typed =
        let p = and_parts (start_fits rules x && if_any (condition_fits rules) c && if_any (evaluated_fits rules) step) (stmt_fits rules result (tree a) true) h in
        let q = and_parts (start_fits rules x && if_any (condition_fits rules) c) (if_any (evaluated_fits rules) step) p.0 in
        let r = and_parts (start_fits rules x) (if_any (condition_fits rules) c) q.0 in
        let first = max (start_measured by_fault x) (maybe_measured by_fault c) in
        let last = max (maybe_measured by_fault step) (fault a) in
        let fg = left_good first last good in
        let lg = right_good first last good in
        then_keeps (started (frame_by rules inputs) calls x s0) (looped true (condition (frame_by rules inputs) calls c) (exec (frame_by rules inputs) calls (tree a)) (step_of (frame_by rules inputs) calls step))
        (start_keeps x r.0 (left_good (start_measured by_fault x) (maybe_measured by_fault c) fg) s0 typed)
        (looped_keeps (condition (frame_by rules inputs) calls c) (exec (frame_by rules inputs) calls (tree a)) (step_of (frame_by rules inputs) calls step)
        (condition_typed c r.1 (right_good (start_measured by_fault x) (maybe_measured by_fault c) fg)) (sound a (right_good (maybe_measured by_fault step) (fault a) lg) true p.1)
        (step_keeps step q.1 (left_good (maybe_measured by_fault step) (fault a) lg)) true)

    layer_keeps : (l : TypedStmt-F Y) → StmtSound (roll-TypedStmt (map-TypedStmt Y TypedStmt tree l))
    unfolding stmt_fits stmt_measured exec
    layer_keeps l good in_loop =
        let x = map-TypedStmt Y TypedStmt tree l in
        let m = fold-roll-TypedStmt ℕ (measures.stmt_step by_fault) x in
        let k = fold-roll-TypedStmt Fits (fit_step rules result) x in
        let v = fold-roll-TypedStmt Doing (stmt_step (frame_by rules inputs) calls) x in
        subst (λ z. stmt_fits rules result (roll-TypedStmt x) in_loop ≡ true → Keeps z) (sym v) (
        subst (λ (z : Fits). z in_loop ≡ true → Keeps (stmt_step (frame_by rules inputs) calls (map-TypedStmt TypedStmt Doing (exec (frame_by rules inputs) calls) x))) (sym k) (
        node_keeps l (sym m ∙ good) in_loop))

  -- ---- all statements

  pub stmt_sound : (x : TypedStmt) → StmtSound x
  stmt_sound x = ind-TypedStmt StmtSound (λ l y same. subst (λ z. StmtSound (roll-TypedStmt z)) same (layer_keeps _ (λ w. w.0) (λ w. w.1) y)) x

  all_statements : (body : List TypedStmt) → body_fits rules result body ≡ true → body_measured by_fault body ≡ 0 → AllKeep (map (exec (frame_by rules inputs) calls) body)
  all_statements [] h good = tt
  all_statements (x ∷ xs) h good =
      let p = and_parts (stmt_fits rules result x false) (body_fits rules result xs) h in
      (stmt_sound x (left_good (stmt_measured by_fault x) (body_measured by_fault xs) good) false p.0, all_statements xs p.1 (right_good (stmt_measured by_fault x) (body_measured by_fault xs) good))

  pub statements_keep : (body : List TypedStmt) → body_fits rules result body ≡ true → body_measured by_fault body ≡ 0 → Keeps (exec_all (frame_by rules inputs) calls body)
  statements_keep body h good = turn_keeps (map (exec (frame_by rules inputs) calls) body) (all_statements body h good)
