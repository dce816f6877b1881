-- A call of a declared function: its body stands in place of it, in a frame of its own further up.
use Rattle.std.proofs.Common.{◌≡◌, ℕ, zero, suc, ◌+◌, ◌<◌, ◌≤◌, ◌≢◌, inl, inr, ⊎_elim, List, [], ◌∷◌, length, map, Some, refl, sym, ap, ◌∙◌, subst, arith}
use Rattle.std.specs.Prelude.{slice_get, if◌then◌else◌}
use Rattle.std.specs.List.{flat_map}
use Rattle.std.proofs.lemmas.Bool.{eq-eqb, ne_eqb, cases_eq}
use Rattle.std.proofs.lemmas.List.{length-map}
use Rattle.osl_value.specs.declared.op_name.OpName.TheVariants as O
use Rattle.osl_value.specs.declared.types.Ty.{Ty}
use Rattle.osl_value.specs.AnyValue.{AnyValue, type_of, zero_value}
use Rattle.osl_overload.specs.declared.signature.Formal.{Formal}
use Rattle.oso_code.specs.declared.op.Op.{Op}
use Rattle.oso_code.specs.declared.symbol.Symbol.{Symbol}
use Rattle.oso_code.specs.Run as R
use Rattle.oso_code.specs.Steps.{Step, Call, span, step_of, Break, Continue, Return, Exit}
use Rattle.osl_typed.specs.State.{State, Globals, Reads}
use Rattle.osl_typed.specs.Ends.{StatementEnd, Next, Breaks, Continues, Returns, Exits, Spent}
use Rattle.osl_typed.specs.Frames.{leaves_of}
use Rattle.osl_typed.specs.Expressions.{Called, Came, Left, Lost}
use Rattle.osl_typed.specs.Statements.{exec_all, finals_from, call_end, entered, function_frame, run_function, frame_types, below}
use Rattle.osl_typed.specs.declared.shader.TypedFunction.{TypedFunction}
use Rattle.osl_typed.specs.declared.shader.TypedStructure.{TypedStructure}
use Rattle.osl_value.specs.Laws.{HasValues}
use Rattle.osl_gencode.specs.Bodies.{Body, frame_end}
use Rattle.osl_gencode.specs.Relation.{Related, Kept, Held}
use Rattle.osl_gencode.specs.RunEnds.{Leads, Finishes, DoesCode}
use Rattle.osl_gencode.proofs.Growing.{get_some}
use Rattle.osl_gencode.proofs.RangeRuns.{step, whole, whole_end}
use Rattle.osl_gencode.proofs.OpValues.{zero_type}

-- ---- which function is called

pub below_is : (structures : List TypedStructure) (functions : List TypedFunction) (n f : ℕ) (fn : TypedFunction) (args : List (List AnyValue)) (globals : Globals) (turns : ℕ) (reads : Reads) → f < n → slice_get functions f ≡ Some fn → below structures functions n f args globals turns reads ≡ call_end structures fn (exec_all (function_frame structures fn) (below structures functions f) fn.body (entered (flat_map (leaves_of structures) fn.frame) args globals turns reads))
unfolding below
below_is structures functions zero f fn args globals turns reads lt at = absurd (omega (arith, lt))
below_is structures functions (suc n) f fn args globals turns reads lt at =
    ⊎_elim (λ (e : f ≡ n).
    ap (λ t. if t then run_function structures (below structures functions n) (slice_get functions n) (entered (frame_types structures (slice_get functions n)) args globals turns reads) else below structures functions n f args globals turns reads) (eq-eqb f n e)
    ∙ ap (λ m. run_function structures (below structures functions m) (slice_get functions m) (entered (frame_types structures (slice_get functions m)) args globals turns reads)) (sym e)
    ∙ ap (λ o. run_function structures (below structures functions f) o (entered (frame_types structures o) args globals turns reads)) at) (λ (ne : f ≢ n).
    ap (λ t. if t then run_function structures (below structures functions n) (slice_get functions n) (entered (frame_types structures (slice_get functions n)) args globals turns reads) else below structures functions n f args globals turns reads) (ne_eqb f n ne)
    ∙ below_is structures functions n f fn args globals turns reads (omega (arith, lt, ne)) at) (cases_eq f n)

-- ---- the body in place of the call

abbrev pub call_op : ℕ → Op
call_op e = record { name = O.FunctionCall; args = []; jumps = e ∷ [] }

pub call_step : (syms : List Symbol) (at e : ℕ) → step_of syms at (call_op e) ≡ Call (span (at + 1) e)
unfolding step_of
call_step syms at e = refl

-- the end of a call, with the frame of the function as it was left
pub record CameBack (b : Body) (from : R.Sources) (steps : List Step) (syms : List Symbol) (types : List Ty) (formals : List Formal) (i m : ℕ) (old : R.State) (result : List AnyValue) (finals : List (List AnyValue)) (turns : ℕ) (reads : Reads) (s : State) (new : R.State) : Type 0 where
  pub leads : Leads from steps i m old new
  pub related : Related b syms s new
  pub low : (k : ℕ) → k < b.start → new.values k ≡ old.values k
  pub holds : Held new.values (frame_end b) result
  pub typed : map type_of result ≡ types
  pub ends : finals ≡ finals_from b.structures 0 formals s.vars
  pub left : s.turns ≡ turns
  pub seen : s.reads ≡ reads

pub record LeftIt (b : Body) (from : R.Sources) (steps : List Step) (syms : List Symbol) (i m : ℕ) (old : R.State) (turns : ℕ) (reads : Reads) (s : State) (new : R.State) : Type 0 where
  pub finishes : Finishes from steps i m old (R.Jumps Exit new)
  pub related : Related b syms s new
  pub low : (k : ℕ) → k < b.start → new.values k ≡ old.values k
  pub left : s.turns ≡ turns
  pub seen : s.reads ≡ reads

pub record LostIt (from : R.Sources) (steps : List Step) (i m : ℕ) (old : R.State) (reads : Reads) (new : R.State) : Type 0 where
  pub finishes : Finishes from steps i m old (R.Spent new)
  pub seen : new.reads ≡ reads

module _ (b : Body) (from : R.Sources) (steps : List Step) (syms : List Symbol) (types : List Ty) (formals : List Formal) where
  abbrev pub CalledCode : (i m : ℕ) → (old : R.State) → Called → Type 0
  CalledCode i m old (Came result finals turns reads) = (s : State) × (new : R.State) × CameBack b from steps syms types formals i m old result finals turns reads s new
  CalledCode i m old (Left turns reads) = (s : State) × (new : R.State) × LeftIt b from steps syms i m old turns reads s new
  CalledCode i m old (Lost turns reads) = (new : R.State) × LostIt from steps i m old reads new

module _ (from : R.Sources) (steps : List Step) (i m : ℕ) (le : i < m) (at : slice_get steps i ≡ Some (Call (span (i + 1) m))) where
  inlined_run : (f x : ℕ) (old : R.State) (o : R.Outcome) → m ≤ x → x ≤ f + i → ((g : ℕ) → m ≤ g + (i + 1) → R.run from steps g (i + 1) m (R.ticked old) ≡ o) → (g : ℕ) × (x ≤ g + m) × (R.run from steps f i x old ≡ R.then_do (R.call_end o) (R.run from steps g m x))
  inlined_run f x old o lx en is =
      let p = step from steps f i x old (omega (arith, le, lx)) en in
      let l = p.1 in
      (p.0, omega (arith, l, le), p.2 ∙ ap (λ z. R.act from (R.run from steps p.0) z i x (R.ticked old)) at ∙ ap (λ z. R.then_do (R.call_end z) (R.run from steps p.0 m x)) (is p.0 (omega (arith, l, lx))))

  call_leads : (old new : R.State) (o : R.Outcome) → R.call_end o ≡ R.Next new → ((g : ℕ) → m ≤ g + (i + 1) → R.run from steps g (i + 1) m (R.ticked old) ≡ o) → Leads from steps i m old new
  call_leads old new o ends is =
      record { by = λ f x lx en. let p = inlined_run f x old o lx en is in (p.0, p.1, p.2 ∙ ap (λ z. R.then_do z (R.run from steps p.0 m x)) ends) }

  call_finishes : (old : R.State) (o : R.Outcome) → ((go : R.State → R.Outcome) → R.then_do (R.call_end o) go ≡ o) → ((g : ℕ) → m ≤ g + (i + 1) → R.run from steps g (i + 1) m (R.ticked old) ≡ o) → Finishes from steps i m old o
  call_finishes old o over is =
      record { by = λ f x lx en. let p = inlined_run f x old o lx en is in p.2 ∙ over (R.run from steps p.0 m x) }

  -- the six ends of a body become the three of a call
  module _ (b : Body) (syms : List Symbol) (types : List Ty) (s0 : ℕ) (room : frame_end b + length types ≤ s0) (order : b.start ≤ frame_end b) (old : R.State) (zeros : Held old.values (frame_end b) (map zero_value types)) (sound : (k : ℕ) (ty : Ty) → slice_get types k ≡ Some ty → HasValues ty) where
    zeros_typed : (ts : List Ty) → ((k : ℕ) (ty : Ty) → slice_get ts k ≡ Some ty → HasValues ty) → map type_of (map zero_value ts) ≡ ts
    zeros_typed [] sound = refl
    zeros_typed (t ∷ ts) sound = ap (λ z. z ∷ map type_of (map zero_value ts)) (zero_type t (sound 0 t refl)) ∙ ap (λ l. t ∷ l) (zeros_typed ts (λ k ty at. sound (suc k) ty at))

    zeros_kept : (new : R.State) → Kept b s0 (R.ticked old) new → Held new.values (frame_end b) (map zero_value types)
    zeros_kept new kept = record { each = λ k v at. let l = get_some (map zero_value types) k v at in let e = length-map types zero_value in kept.keeps (frame_end b + k) (omega (arith, l, e, room)) (inr (omega arith)) ∙ zeros.each k v at }

    low_kept : (new : R.State) → Kept b s0 (R.ticked old) new → (k : ℕ) → k < b.start → new.values k ≡ old.values k
    low_kept new kept k lt = kept.keeps k (omega (arith, lt, order, room)) (inl lt)

    fell : (formals : List Formal) (s : State) (new : R.State) (o : R.Outcome) → R.call_end o ≡ R.Next new → ((g : ℕ) → m ≤ g + (i + 1) → R.run from steps g (i + 1) m (R.ticked old) ≡ o) → Related b syms s new → Kept b s0 (R.ticked old) new → CameBack b from steps syms types formals i m old (map zero_value types) (finals_from b.structures 0 formals s.vars) s.turns s.reads s new
    fell formals s new o ends is rel kept = record {
      leads = call_leads old new o ends is;
      related = rel;
      low = low_kept new kept;
      holds = zeros_kept new kept;
      typed = zeros_typed types sound;
      ends = refl;
      left = refl;
      seen = refl;
    }

    pub inlined : (fn : TypedFunction) (o : StatementEnd) → types ≡ leaves_of b.structures fn.result → DoesCode b from steps syms s0 types (i + 1) m (R.ticked old) o → CalledCode b from steps syms types fn.formals i m old (call_end b.structures fn o)
    inlined fn (Next s) is (y, cm) =
        (s, y, subst (λ z. CameBack b from steps syms types fn.formals i m old (map zero_value z) (finals_from b.structures 0 fn.formals s.vars) s.turns s.reads s y) is (fell fn.formals s y (R.Next y) refl (λ g l. whole from steps (i + 1) m g (R.ticked old) y l cm.leads) cm.related cm.kept))
    inlined fn (Breaks s) is (y, g) =
        (s, y, subst (λ z. CameBack b from steps syms types fn.formals i m old (map zero_value z) (finals_from b.structures 0 fn.formals s.vars) s.turns s.reads s y) is (fell fn.formals s y (R.Jumps Break y) refl (λ q l. whole_end from steps (i + 1) m q (R.ticked old) (R.Jumps Break y) l g.finishes) g.related g.kept))
    inlined fn (Continues s) is (y, g) =
        (s, y, subst (λ z. CameBack b from steps syms types fn.formals i m old (map zero_value z) (finals_from b.structures 0 fn.formals s.vars) s.turns s.reads s y) is (fell fn.formals s y (R.Jumps Continue y) refl (λ q l. whole_end from steps (i + 1) m q (R.ticked old) (R.Jumps Continue y) l g.finishes) g.related g.kept))
    inlined fn (Returns vs s) is (y, g) = (
      s,
      y,
      record {
        leads = call_leads old y (R.Jumps Return y) refl (λ q l. whole_end from steps (i + 1) m q (R.ticked old) (R.Jumps Return y) l g.finishes);
        related = g.related;
        low = λ k lt. g.kept k (omega (arith, lt, order, room)) (inl lt);
        holds = g.value;
        typed = g.typed;
        ends = refl;
        left = refl;
        seen = refl;
      },
    )
    inlined fn (Exits s) is (y, g) = (
      s,
      y,
      record {
        finishes = call_finishes old (R.Jumps Exit y) (λ go. refl) (λ q l. whole_end from steps (i + 1) m q (R.ticked old) (R.Jumps Exit y) l g.finishes);
        related = g.related;
        low = low_kept y g.kept;
        left = refl;
        seen = refl;
      },
    )
    inlined fn (Spent s) is (y, g) = (y, record { finishes = call_finishes old (R.Spent y) (λ go. refl) (λ q l. whole_end from steps (i + 1) m q (R.ticked old) (R.Spent y) l g.finishes); seen = g.reads })
