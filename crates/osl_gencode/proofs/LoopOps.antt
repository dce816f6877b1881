-- The op of a loop, once its condition, its body and its step are known.
use Rattle.std.proofs.Common.{◌≡◌, ℕ, ◌+◌, ◌<◌, ◌≤◌, ◌⊎◌, List, length, map, Some, Bool, true, false, refl, ap, ◌∙◌, arith}
use Rattle.std.specs.Prelude.{slice_get, if◌then◌else◌}
use Rattle.osl_value.specs.declared.types.Ty.{Ty}
use Rattle.osl_value.specs.AnyValue.{AnyValue, type_of}
use Rattle.oso_code.specs.declared.symbol.Symbol.{Symbol}
use Rattle.oso_code.specs.Run as R
use Rattle.oso_code.specs.Steps.{Step, Loop, Span, Break, Continue, Return, Exit}
use Rattle.osl_typed.specs.State.{State, ExpressionEnd, Gives}
use Rattle.osl_typed.specs.State as expression
use Rattle.osl_typed.specs.Ends.{StatementEnd, Doing, Next, Breaks, Continues, Returns, Exits, Spent, Tested, Holds, Fails, Ends, looped}
use Rattle.osl_typed.specs.Expressions.{holds}
use Rattle.osl_typed.specs.Statements.{tested}
use Rattle.osl_gencode.specs.Bodies.{Body, frame_end}
use Rattle.osl_gencode.specs.Relation.{Related, Kept, Held}
use Rattle.osl_gencode.specs.RunEnds.{Finishes, Comes, GivesCode, DoesCode}
use Rattle.osl_gencode.proofs.RangeRuns.{step, whole, whole_end, leads_self}
use Rattle.osl_gencode.proofs.RelatedStates.{kept_on, kept_older, kept_self}
use Rattle.osl_gencode.proofs.Sequels.{kept_more, does_after}
use Rattle.osl_gencode.proofs.LoopsAgree.{Same, SameTest, looped_same}

-- the int in symbol c says whether a value holds
abbrev pub Truth : ℕ → List AnyValue → R.State → Type 0
Truth c vs x = R.is_so (x.values c) ≡ holds vs

-- what ties the states of the two runs of a loop
pub record Both (b : Body) (syms : List Symbol) (s0 : ℕ) (start : R.State) (s : State) (x : R.State) : Type 0 where
  pub related : Related b syms s x
  pub kept : Kept b s0 start x

pub record BothAt (b : Body) (syms : List Symbol) (s0 : ℕ) (types : List Ty) (start : R.State) (vs : List AnyValue) (s : State) (x : R.State) : Type 0 where
  pub related : Related b syms s x
  pub kept : (k : ℕ) → k < s0 → (k < b.start) ⊎ (frame_end b + length types ≤ k) → x.values k ≡ start.values k
  pub value : Held x.values (frame_end b) vs
  pub typed : map type_of vs ≡ types

-- an end that is not the range's
abbrev pub Over : StatementEnd → Type 0
Over (Next s) = ⊥
Over (Breaks s) = Unit {0}
Over (Continues s) = Unit {0}
Over (Returns vs s) = Unit {0}
Over (Exits s) = Unit {0}
Over (Spent s) = Unit {0}

-- a condition ends only where a run ends
abbrev pub EndsOver : Tested → Type 0
EndsOver (Holds s) = Unit {0}
EndsOver (Fails s) = Unit {0}
EndsOver (Ends o) = Over o

pub tested_over : (end : ExpressionEnd (List AnyValue)) → EndsOver (tested end)
tested_over (Gives vs s) = decides (holds vs)
  where
    decides : (t : Bool) → EndsOver (if t then Holds s else Fails s)
    decides true = tt
    decides false = tt
tested_over (expression.Exits s) = tt
tested_over (expression.Spent s) = tt

module _ (b : Body) (from : R.Sources) (steps : List Step) (syms : List Symbol) (types : List Ty) where
  -- the code of a condition, whose truth is in symbol c
  abbrev pub TestsCode : (s0 c i m : ℕ) → (old : R.State) → Tested → Type 0
  TestsCode s0 c i m old (Holds s) = (new : R.State) × Comes b from steps syms s0 i m s old new × (R.is_so (new.values c) ≡ true)
  TestsCode s0 c i m old (Fails s) = (new : R.State) × Comes b from steps syms s0 i m s old new × (R.is_so (new.values c) ≡ false)
  TestsCode s0 c i m old (Ends o) = DoesCode b from steps syms s0 types i m old o

  decided : (s0 c i m : ℕ) (old : R.State) (s : State) (new : R.State) (t : Bool) → Comes b from steps syms s0 i m s old new → R.is_so (new.values c) ≡ t → TestsCode s0 c i m old (if t then Holds s else Fails s)
  decided s0 c i m old s new true cm is = (new, cm, is)
  decided s0 c i m old s new false cm is = (new, cm, is)

  pub tests_code : (s0 c i m : ℕ) (old : R.State) (end : ExpressionEnd (List AnyValue)) → GivesCode b from steps syms s0 (Truth c) i m old end → TestsCode s0 c i m old (tested end)
  tests_code s0 c i m old (Gives vs s) (new, cm, t) = decided s0 c i m old s new (holds vs) cm t
  tests_code s0 c i m old (expression.Exits s) g = g
  tests_code s0 c i m old (expression.Spent s) g = g

  -- what is kept more is kept less
  pub tests_less : (s0 s1 c i m : ℕ) (old : R.State) (t : Tested) → s0 ≤ s1 → i ≤ m → TestsCode s1 c i m old t → TestsCode s0 c i m old t
  tests_less s0 s1 c i m old (Holds s) le order (y, cm, is) = (y, record { leads = cm.leads; related = cm.related; kept = kept_on b s0 s1 old old y le (kept_self b s0 old) cm.kept }, is)
  tests_less s0 s1 c i m old (Fails s) le order (y, cm, is) = (y, record { leads = cm.leads; related = cm.related; kept = kept_on b s0 s1 old old y le (kept_self b s0 old) cm.kept }, is)
  tests_less s0 s1 c i m old (Ends o) le order d = does_after b from steps syms types s0 s1 i i m old old o le order (leads_self from steps i old) (kept_self b s0 old) d

  module _ (s0 : ℕ) (start : R.State) where
    abbrev I : State → R.State → Type 0
    I = Both b syms s0 start

    abbrev J : List AnyValue → State → R.State → Type 0
    J = BothAt b syms s0 types start

    -- a range run to its very end, by any bound that is enough
    body_same : (p : ℕ → Type 0) (s1 i m : ℕ) (x : R.State) (o : StatementEnd) → s0 ≤ s1 → ((g : ℕ) → p g → m ≤ g + i) → Kept b s0 start x → DoesCode b from steps syms s1 types i m x o → Same I J p o (λ g. R.run from steps g i m x)
    body_same p s1 i m x (Next s) le en kept (c, k) = (c, λ g l. whole from steps i m g x c (en g l) k.leads, record { related = k.related; kept = kept_on b s0 s1 start x c le kept k.kept })
    body_same p s1 i m x (Breaks s) le en kept (c, k) = (c, λ g l. whole_end from steps i m g x (R.Jumps Break c) (en g l) k.finishes, record { related = k.related; kept = kept_on b s0 s1 start x c le kept k.kept })
    body_same p s1 i m x (Continues s) le en kept (c, k) = (c, λ g l. whole_end from steps i m g x (R.Jumps Continue c) (en g l) k.finishes, record { related = k.related; kept = kept_on b s0 s1 start x c le kept k.kept })
    body_same p s1 i m x (Returns vs s) le en kept (c, k) = (c, λ g l. whole_end from steps i m g x (R.Jumps Return c) (en g l) k.finishes, record { related = k.related; kept = λ j h o. k.kept j (omega (arith, h, le)) o ∙ kept_more b from steps syms types s0 start x kept j h o; value = k.value; typed = k.typed })
    body_same p s1 i m x (Exits s) le en kept (c, k) = (c, λ g l. whole_end from steps i m g x (R.Jumps Exit c) (en g l) k.finishes, record { related = k.related; kept = kept_on b s0 s1 start x c le kept k.kept })
    body_same p s1 i m x (Spent s) le en kept (c, k) = (c, λ g l. whole_end from steps i m g x (R.Spent c) (en g l) k.finishes, k.reads)

    read_test : (c : ℕ) (t : Bool) (x : R.State) → from c ≡ R.Own → R.is_so (x.values c) ≡ t → R.test_after from c (R.Next x) ≡ (if t then R.Holds x else R.Fails x)
    read_test c t x own is = ap (λ z. R.decide (R.read_from z c x)) own ∙ ap (λ z. if z then R.Holds x else R.Fails x) is

    ends_test : (p : ℕ → Type 0) (c : ℕ) (o : StatementEnd) (run : ℕ → R.Outcome) → Over o → Same I J p o run → SameTest I J p (Ends o) (λ g. R.test_after from c (run g))
    ends_test p c (Next s) run over same = absurd over
    ends_test p c (Breaks s) run over (y, h, i) = (λ g. R.Jumps Break y, λ g l. ap (R.test_after from c) (h g l), (y, λ g l. refl, i))
    ends_test p c (Continues s) run over (y, h, i) = (λ g. R.Jumps Continue y, λ g l. ap (R.test_after from c) (h g l), (y, λ g l. refl, i))
    ends_test p c (Returns vs s) run over (y, h, i) = (λ g. R.Jumps Return y, λ g l. ap (R.test_after from c) (h g l), (y, λ g l. refl, i))
    ends_test p c (Exits s) run over (y, h, i) = (λ g. R.Jumps Exit y, λ g l. ap (R.test_after from c) (h g l), (y, λ g l. refl, i))
    ends_test p c (Spent s) run over (y, h, i) = (λ g. R.Spent y, λ g l. ap (R.test_after from c) (h g l), (y, λ g l. refl, i))

    test_same : (p : ℕ → Type 0) (s1 c i m : ℕ) (x : R.State) (t : Tested) → EndsOver t → s0 ≤ s1 → from c ≡ R.Own → ((g : ℕ) → p g → m ≤ g + i) → Kept b s0 start x → TestsCode s1 c i m x t → SameTest I J p t (λ g. R.test_after from c (R.run from steps g i m x))
    test_same p s1 c i m x (Holds s) over le own en kept (y, k, is) =
        (y, λ g l. ap (R.test_after from c) (whole from steps i m g x y (en g l) k.leads) ∙ read_test c true y own is, record { related = k.related; kept = kept_on b s0 s1 start x y le kept k.kept })
    test_same p s1 c i m x (Fails s) over le own en kept (y, k, is) =
        (y, λ g l. ap (R.test_after from c) (whole from steps i m g x y (en g l) k.leads) ∙ read_test c false y own is, record { related = k.related; kept = kept_on b s0 s1 start x y le kept k.kept })
    test_same p s1 c i m x (Ends o) over le own en kept d = ends_test p c o (λ g. R.run from steps g i m x) over (body_same p s1 i m x o le en kept d)

  -- ---- the op

  loop_done : (s0 i e : ℕ) (first : Bool) (c : ℕ) (test body stepping : Span) (cod : R.State) (o : StatementEnd) → i < e → stepping.end ≡ e → slice_get steps i ≡ Some (Loop first c test body stepping) → Same (I s0 cod) (J s0 cod) (λ g. e ≤ g + (i + 1)) o (λ g. R.looped first (λ x. R.test_after from c (R.run_span (R.run from steps g) test x)) (R.run_span (R.run from steps g) body) (R.run_span (R.run from steps g) stepping) (R.ticked cod)) → DoesCode b from steps syms s0 types i e cod o
  loop_done s0 i e first c test body stepping cod o lt end at same = done o same
    where
      to_loop : (f x : ℕ) → e ≤ x → x ≤ f + i → (g : ℕ) × (x ≤ g + (i + 1)) × (R.run from steps f i x cod ≡ R.then_do (R.looped first (λ y. R.test_after from c (R.run_span (R.run from steps g) test y)) (R.run_span (R.run from steps g) body) (R.run_span (R.run from steps g) stepping) (R.ticked cod)) (R.run from steps g e x))
      to_loop f x le en =
          let p = step from steps f i x cod (omega (arith, lt, le)) en in
          (p.0, p.1, p.2 ∙ ap (λ z. R.act from (R.run from steps p.0) z i x (R.ticked cod)) at ∙ ap (λ z. R.then_do (R.looped first (λ y. R.test_after from c (R.run_span (R.run from steps p.0) test y)) (R.run_span (R.run from steps p.0) body) (R.run_span (R.run from steps p.0) stepping) (R.ticked cod)) (R.run from steps p.0 z x)) end)

      ends : (out : R.Outcome) → ((go : R.State → R.Outcome) → R.then_do out go ≡ out) → ((g : ℕ) → e ≤ g + (i + 1) → R.looped first (λ x. R.test_after from c (R.run_span (R.run from steps g) test x)) (R.run_span (R.run from steps g) body) (R.run_span (R.run from steps g) stepping) (R.ticked cod) ≡ out) → Finishes from steps i e cod out
      ends out over is = record { by = λ f x le en. let p = to_loop f x le en in let l = p.1 in p.2 ∙ ap (λ z. R.then_do z (R.run from steps p.0 e x)) (is p.0 (omega (arith, l, le))) ∙ over (R.run from steps p.0 e x) }

      done : (o : StatementEnd) → Same (I s0 cod) (J s0 cod) (λ g. e ≤ g + (i + 1)) o (λ g. R.looped first (λ x. R.test_after from c (R.run_span (R.run from steps g) test x)) (R.run_span (R.run from steps g) body) (R.run_span (R.run from steps g) stepping) (R.ticked cod)) → DoesCode b from steps syms s0 types i e cod o
      done (Next s) (y, is, k) = (
        y,
        record {
          leads = record { by = λ f x le en. let p = to_loop f x le en in let l = p.1 in (p.0, omega (arith, l, lt), p.2 ∙ ap (λ z. R.then_do z (R.run from steps p.0 e x)) (is p.0 (omega (arith, l, le)))) };
          related = k.related;
          kept = k.kept;
        },
      )
      done (Breaks s) (y, is, k) = (y, record { finishes = ends (R.Jumps Break y) (λ go. refl) is; related = k.related; kept = k.kept })
      done (Continues s) (y, is, k) = (y, record { finishes = ends (R.Jumps Continue y) (λ go. refl) is; related = k.related; kept = k.kept })
      done (Returns vs s) (y, is, k) = (y, record { finishes = ends (R.Jumps Return y) (λ go. refl) is; related = k.related; kept = k.kept; value = k.value; typed = k.typed })
      done (Exits s) (y, is, k) = (y, record { finishes = ends (R.Jumps Exit y) (λ go. refl) is; related = k.related; kept = k.kept })
      done (Spent s) (y, is, k) = (y, record { finishes = ends (R.Spent y) (λ go. refl) is; reads = k })

  -- a loop, by the code of its parts from any states that are tied
  pub loop_does : (s0 i e : ℕ) (first : Bool) (c : ℕ) (test body stepping : Span) (src : State) (cod : R.State) (t : State → Tested) (does steps_on : Doing) → i < test.start → test.end ≤ e → i < body.start → body.end ≤ e → i < stepping.start → stepping.end ≡ e → i < e → from c ≡ R.Own → slice_get steps i ≡ Some (Loop first c test body stepping)
      → ((s : State) → EndsOver (t s))
      → ((s : State) (x : R.State) → Related b syms s x → TestsCode s0 c test.start test.end x (t s))
      → ((s : State) (x : R.State) → Related b syms s x → DoesCode b from steps syms s0 types body.start body.end x (does s))
      → ((s : State) (x : R.State) → Related b syms s x → DoesCode b from steps syms s0 types stepping.start stepping.end x (steps_on s))
      → Related b syms src cod → DoesCode b from steps syms s0 types i e cod (looped first t does steps_on src)
  loop_does s0 i e first c test body stepping src cod t does steps_on t1 t2 b1 b2 s1 s2 lt own at over tests bodies stepsc rel =
      let p : ℕ → Type 0 = λ g. e ≤ g + (i + 1) in
      let ticked_rel : Related b syms src (R.ticked cod) = record { vars = rel.vars; typed = rel.typed; globals = rel.globals; global_types = rel.global_types; turns = rel.turns; reads = rel.reads; consts = rel.consts } in
      loop_done s0 i e first c test body stepping cod (looped first t does steps_on src) lt s2 at (
      looped_same (I s0 cod) (J s0 cod) p (λ s x k. k.related.turns) (λ s x k. k.related.reads) (λ n s x k. record { related = record { vars = k.related.vars; typed = k.related.typed; globals = k.related.globals; global_types = k.related.global_types; turns = refl; reads = k.related.reads; consts = k.related.consts }; kept = record { keeps = k.kept.keeps; all = k.kept.all } }) t (λ g x. R.test_after from c (R.run from steps g test.start test.end x)) does steps_on (λ g x. R.run from steps g body.start body.end x) (λ g x. R.run from steps g stepping.start stepping.end x) (λ s x k. test_same s0 cod p s0 c test.start test.end x (t s) (over s) (omega arith) own (λ g l. omega (arith, l, t1, t2)) k.kept (tests s x k.related)) (λ s x k. body_same s0 cod p s0 body.start body.end x (does s) (omega arith) (λ g l. omega (arith, l, b1, b2)) k.kept (bodies s x k.related)) (λ s x k. body_same s0 cod p s0 stepping.start stepping.end x (steps_on s) (omega arith) (λ g l. omega (arith, l, s1, s2)) k.kept (stepsc s x k.related)) first src (R.ticked cod) (record { related = ticked_rel; kept = kept_older b s0 cod (R.ticked cod) (λ k h. refl) }))
