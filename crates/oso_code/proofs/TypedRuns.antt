-- Along a run of valid code each symbol holds a value of its type.
use Rattle.std.proofs.Common.{◌≡◌, ℕ, zero, suc, ◌<◌, List, [], ◌∷◌, length, map, Some, None, Bool, true, false, refl, sym, ap, ◌∙◌, subst, arith}
use Rattle.std.specs.Prelude.{slice_get, nat_eq, if◌then◌else◌, ◌==◌, IsTrue}
use Rattle.std.specs.List.{All, list_all}
use Rattle.std.proofs.lemmas.Bool.{eqb-true, ltb-true}
use Rattle.std.proofs.lemmas.List.Elements.{All-nil, All-cons}
use Rattle.osl_value.specs.declared.op_name.OpName.{OpName}
use Rattle.osl_value.specs.declared.op_name.OpName.TheVariants as O
use Rattle.osl_value.specs.declared.types.Ty.{Ty}
use Rattle.osl_value.specs.AnyValue.{AnyValue, type_of}
use Rattle.osl_value.specs.Apply.{apply, is_allowed}
use Rattle.osl_value.specs.Laws.{GivesValues, WritesItsType}
use Rattle.osl_value.specs.Table.{updates}
use Rattle.osl_value.specs.WellFormed.{IsValue, IsOfType}
use Rattle.oso_code.specs.declared.op.Op.{Op}
use Rattle.oso_code.specs.declared.op.Section.{Section}
use Rattle.oso_code.specs.declared.raw.Raw.{Raw}
use Rattle.oso_code.specs.declared.symbol.Symbol.{Symbol}
use Rattle.oso_code.specs.CodeRun.{run_sections}
use Rattle.oso_code.specs.Lasting.{Stays, Keeps}
use Rattle.oso_code.specs.Ops.{range_count, takes_arguments, takes_types, type_at, type_of_symbol, is_number_of}
use Rattle.oso_code.specs.Ranges.{steps_of}
use Rattle.oso_code.specs.Run.{State, put, write, note, Source, Own, Wired, Held, Sources, read, read_from, Outcome, last, with_value, arguments, Run, act, run, range}
use Rattle.oso_code.specs.Steps.{Step, Compute, step_of, named_step, branch_step, while_step, for_step, do_step, call_step, compute}
use Rattle.oso_code.specs.Typed.{IsTyped, TypedSources, AreThere, AllTyped, OpTyped, StepTyped, AreTyped}
use Rattle.oso_code.specs.Valid.{IsValid}
use Rattle.oso_code.proofs.Decoding.{WithOne, WithTwo, WithThree, one, two, three, with_one, with_two, with_three, came_from}
use Rattle.oso_code.proofs.Members.{and_both}
use Rattle.oso_code.proofs.Nested.{op_facts}
use Rattle.oso_code.proofs.Staying.{then_stays, KeepsWriting, act_stays, run_stays}

-- ---- the operands of valid code

is_there : {X : Type 0} (xs : List X) (k : ℕ) → k < length xs → (x : X) × (slice_get xs k ≡ Some x)
is_there [] k lt = absurd (omega arith)
is_there (x ∷ xs) zero lt = (x, refl)
is_there (x ∷ xs) (suc k) lt = is_there xs k (omega arith)

module _ (symbols : List Symbol) where
  all_there : (ks : List ℕ) → IsTrue (list_all (is_number_of symbols) ks) → AreThere symbols ks
  all_there [] h = tt
  all_there (k ∷ ks) h = let p = and_both (is_number_of symbols k) (list_all (is_number_of symbols) ks) h in (is_there symbols k (ltb-true k (length symbols) p.0), all_there ks p.1)

  compute_typed : (name : OpName) (target : ℕ) (others : List ℕ) → IsTrue (list_all (is_number_of symbols) (target ∷ others)) → IsTrue (takes_arguments name (map (type_at symbols) (target ∷ others)))
      → StepTyped symbols (compute symbols name (target ∷ others))
  compute_typed name target others numbers takes = by (updates name) takes
    where
      by : (b : Bool) → IsTrue (is_allowed name (type_at symbols target) (if b then type_at symbols target ∷ map (type_at symbols) others else map (type_at symbols) others))
          → OpTyped symbols name (type_at symbols target) target (if b then target ∷ others else others)
      by true h = record { there = all_there (target ∷ others) numbers; allowed = h; written = refl }
      by false h = record { there = all_there others (and_both (is_number_of symbols target) (list_all (is_number_of symbols) others) numbers).1; allowed = h; written = refl }

  module _ (k : ℕ) where
    branch_typed : (args jumps : List ℕ) → WithTwo args jumps → StepTyped symbols (branch_step k args jumps)
    branch_typed _ _ (two c a e) = tt

    while_typed : (args jumps : List ℕ) → WithTwo args jumps → StepTyped symbols (while_step k args jumps)
    while_typed _ _ (two c a e) = tt

    for_typed : (args jumps : List ℕ) → WithThree args jumps → StepTyped symbols (for_step k args jumps)
    for_typed _ _ (three c a s e) = tt

    do_typed : (args jumps : List ℕ) → WithTwo args jumps → StepTyped symbols (do_step k args jumps)
    do_typed _ _ (two c a e) = tt

    call_typed : (args jumps : List ℕ) → WithOne args jumps → StepTyped symbols (call_step k args jumps)
    call_typed _ _ (one e) = tt

    named_typed : (name : OpName) (args jumps : List ℕ) → IsTrue (length jumps == range_count name) → IsTrue (takes_types name (map (type_at symbols) args)) → IsTrue (list_all (is_number_of symbols) args)
        → StepTyped symbols (named_step symbols k name args jumps)
    named_typed O.If args jumps n t numbers = branch_typed args jumps (with_two symbols O.If refl args jumps n t)
    named_typed O.While args jumps n t numbers = while_typed args jumps (with_two symbols O.While refl args jumps n t)
    named_typed O.For args jumps n t numbers = for_typed args jumps (with_three symbols args jumps n t)
    named_typed O.DoWhile args jumps n t numbers = do_typed args jumps (with_two symbols O.DoWhile refl args jumps n t)
    named_typed O.FunctionCall args jumps n t numbers = call_typed args jumps (with_one symbols args jumps n t)
    named_typed O.Break args jumps n t numbers = tt
    named_typed O.Continue args jumps n t numbers = tt
    named_typed O.Return args jumps n t numbers = tt
    named_typed O.Exit args jumps n t numbers = tt
    named_typed name [] jumps n t numbers = absurd (cc t)
    named_typed name (target ∷ others) jumps n t numbers = compute_typed name target others numbers t

module _ (raw : Raw) (valid : IsValid raw) where
  step_typed : (k : ℕ) (op : Op) → slice_get raw.ops k ≡ Some op → StepTyped raw.symbols (step_of raw.symbols k op)
  unfolding step_of
  step_typed k op is = let fits = op_facts raw k op (valid.ops k op is) in named_typed raw.symbols k op.name op.args op.jumps fits.count fits.types fits.numbers

  pub valid_typed : AreTyped raw.symbols (steps_of raw)
  valid_typed = record { each = λ k step is. let from = came_from raw k step is in subst (StepTyped raw.symbols) (sym from.is) (step_typed k from.op from.here) }

-- ---- values that are read, written and given

module _ (symbols : List Symbol) where
  -- typed values are values, and have their types
  all_values : (ks : List ℕ) (vs : List AnyValue) → AllTyped symbols ks vs → All IsValue vs
  all_values [] [] q = All-nil IsValue
  all_values [] (v ∷ vs) q = absurd q
  all_values (k ∷ ks) [] q = absurd q
  all_values (k ∷ ks) (v ∷ vs) q = All-cons IsValue v vs q.0.value (all_values ks vs q.1)

  all_types : (ks : List ℕ) (vs : List AnyValue) → AllTyped symbols ks vs → map type_of vs ≡ map (type_at symbols) ks
  all_types [] [] q = refl
  all_types [] (v ∷ vs) q = absurd q
  all_types (k ∷ ks) [] q = absurd q
  all_types (k ∷ ks) (v ∷ vs) q = λ j. q.0.type j ∷ all_types ks vs q.1 j

  -- an op gives a value of its target's type
  pub gives_typed : GivesValues → WritesItsType → (name : OpName) (ty : Ty) (target : ℕ) (ks : List ℕ) (vs : List AnyValue) → OpTyped symbols name ty target ks → AllTyped symbols ks vs → IsOfType (type_at symbols target) (apply name ty vs)
  gives_typed gives_values writes_its_type name ty target ks vs op q =
      let ok : IsTrue (is_allowed name ty (map type_of vs)) = subst (λ ts. IsTrue (is_allowed name ty ts)) (sym (all_types ks vs q)) op.allowed in
      record { value = gives_values name ty vs (all_values ks vs q) ok; type = writes_its_type name ty vs ok ∙ sym op.written }

  pub write_typed : (target : ℕ) (v : AnyValue) (s : State) → IsOfType (type_at symbols target) v → IsTyped symbols s → IsTyped symbols (write target v s)
  unfolding put
  write_typed target v s of h = record { each = λ k symbol at. by k symbol at (nat_eq k target) refl }
    where
      by : (k : ℕ) (symbol : Symbol) → slice_get symbols k ≡ Some symbol → (b : Bool) → nat_eq k target ≡ b → IsOfType symbol.ty (if b then v else s.values k)
      by k symbol at true is = subst (λ o. IsOfType (type_of_symbol o) v) (ap (slice_get symbols) (sym (eqb-true k target is)) ∙ at) of
      by k symbol at false is = h.each k symbol at

  pub typed_stays : Stays (IsTyped symbols)
  typed_stays = record { notes = λ k s h. record { each = h.each }; ticks = λ s h. record { each = h.each }; turns = λ n s h is. record { each = h.each } }

  module _ (from : Sources) (typed : TypedSources symbols from) where
    -- a read gives a value of the symbol's type
    source_typed : (source : Source) (k : ℕ) (symbol : Symbol) (s : State) (go : AnyValue → State → Outcome) → slice_get symbols k ≡ Some symbol → from k ≡ source → IsTyped symbols s
        → ((v : AnyValue) → IsOfType symbol.ty v → Keeps (IsTyped symbols) (go v)) → IsTyped symbols (last (with_value (read_from source k s) go))
    source_typed Own k symbol s go at is h g = g (s.values k) (h.each k symbol at) s h
    source_typed (Wired None) k symbol s go at is h g = typed_stays.notes k s h
    source_typed (Wired (Some v)) k symbol s go at is h g = g v (typed.wired k symbol v at is) (note k s) (typed_stays.notes k s h)
    source_typed (Held v) k symbol s go at is h g = g v (typed.held k symbol v at is) s h

    pub read_typed : (k : ℕ) (symbol : Symbol) (s : State) (go : AnyValue → State → Outcome) → slice_get symbols k ≡ Some symbol → IsTyped symbols s
        → ((v : AnyValue) → IsOfType symbol.ty v → Keeps (IsTyped symbols) (go v)) → IsTyped symbols (last (with_value (read from k s) go))
    read_typed k symbol s go at h g = source_typed (from k) k symbol s go at refl h g

    pub args_typed : (ks : List ℕ) (s : State) (go : List AnyValue → State → Outcome) → AreThere symbols ks → IsTyped symbols s → ((vs : List AnyValue) → AllTyped symbols ks vs → Keeps (IsTyped symbols) (go vs))
        → IsTyped symbols (last (arguments from ks s go))
    args_typed [] s go there h g = g [] tt s h
    args_typed (k ∷ ks) s go ((symbol, at), more) h g =
        read_typed k symbol s (λ v s1. arguments from ks s1 (λ vs s2. go (v ∷ vs) s2)) at h
        (λ v of t q. args_typed ks t (λ vs s2. go (v ∷ vs) s2) more q (λ vs all. g (v ∷ vs) (subst (λ o. IsOfType (type_of_symbol o) v) (sym at) of, all)))

    module _ (gives_values : GivesValues) (writes_its_type : WritesItsType) (steps : List Step) (ops : AreTyped symbols steps) where
      writing_typed : (k : ℕ) → KeepsWriting (IsTyped symbols) typed_stays from steps (slice_get steps k)
      writing_typed k name ty target sources is go h s p =
          let op = ops.each k (Compute name ty target sources) is in
          args_typed sources s (λ vs s1. go (write target (apply name ty vs) s1)) op.there p
          (λ vs all t q. h (write target (apply name ty vs) t) (write_typed target (apply name ty vs) t (gives_typed gives_values writes_its_type name ty target sources vs op all) q))

      pub act_typed : (go : Run) → ((i e : ℕ) → Keeps (IsTyped symbols) (go i e)) → (k i e : ℕ) → Keeps (IsTyped symbols) (act from go (slice_get steps k) i e)
      act_typed go h k = act_stays (IsTyped symbols) typed_stays from steps go h (slice_get steps k) (writing_typed k)

      pub run_typed : (n i e : ℕ) → Keeps (IsTyped symbols) (run from steps n i e)
      run_typed = run_stays (IsTyped symbols) typed_stays from steps writing_typed

      pub sections_typed : (sections : List Section) → Keeps (IsTyped symbols) (run_sections from steps sections)
      sections_typed [] s h = h
      sections_typed (section ∷ sections) s h =
          then_stays (IsTyped symbols) typed_stays (range from steps section.start section.end s) (run_sections from steps sections) (run_typed (length steps) section.start section.end s h) (sections_typed sections)
