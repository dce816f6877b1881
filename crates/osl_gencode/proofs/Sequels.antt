-- How the code of parts makes up the code of a whole.
use Rattle.std.proofs.Common.{◌≡◌, ℕ, ◌+◌, ◌<◌, ◌≤◌, ◌⊎◌, inl, inr, ⊎_elim, List, length, Some, Bool, refl, ◌∙◌, arith}
use Rattle.std.specs.Prelude.{slice_get}
use Rattle.osl_value.specs.declared.types.Ty.{Ty}
use Rattle.oso_code.specs.declared.symbol.Symbol.{Symbol}
use Rattle.oso_code.specs.Run as R
use Rattle.oso_code.specs.Steps.{Step, Branch, span, Exit, Break, Continue, Return}
use Rattle.osl_typed.specs.State.{State, ExpressionEnd, Gives, then_value}
use Rattle.osl_typed.specs.State as expression
use Rattle.osl_typed.specs.Ends.{StatementEnd, Doing, Next, Breaks, Continues, Returns, Exits, Spent, then_do}
use Rattle.osl_typed.specs.Statements.{with_value}
use Rattle.osl_gencode.specs.Bodies.{Body, frame_end}
use Rattle.osl_gencode.specs.Relation.{Related, Kept}
use Rattle.osl_gencode.specs.Codes.{Shows}
use Rattle.osl_gencode.specs.RunEnds.{Leads, GivesCode, DoesCode}
use Rattle.osl_gencode.proofs.RangeRuns.{leads_self, leads_on, leads_end, end_later, branch_leads, branch_ends, taken_from, taken_to}
use Rattle.osl_gencode.proofs.RelatedStates.{kept_on, kept_self}

-- an end with what it gives
pub gives_back : {A : Type 0} (end : ExpressionEnd A) → then_value end (λ a s. Gives a s) ≡ end
gives_back (Gives a s) = refl
gives_back (expression.Exits s) = refl
gives_back (expression.Spent s) = refl

module _ (b : Body) (from : R.Sources) (steps : List Step) (syms : List Symbol) where
  -- ---- expressions

  -- what was kept up to here stays so
  pub gives_after : {A : Type 0} (P : Shows A) (s0 s1 i m e : ℕ) (x y : R.State) (end : ExpressionEnd A) → s0 ≤ s1 → m ≤ e → Leads from steps i m x y → Kept b s0 x y → GivesCode b from steps syms s1 P m e y end → GivesCode b from steps syms s0 P i e x end
  gives_after P s0 s1 i m e x y (Gives a s) le me k kept (c, cm, p) =
      (c, record { leads = leads_on from steps i m e x y c me k cm.leads; related = cm.related; kept = kept_on b s0 s1 x y c le kept cm.kept }, p)
  gives_after P s0 s1 i m e x y (expression.Exits s) le me k kept (c, g) =
      (c, record { finishes = leads_end from steps i m e x y (R.Jumps Exit c) me k g.finishes; related = g.related; kept = kept_on b s0 s1 x y c le kept g.kept })
  gives_after P s0 s1 i m e x y (expression.Spent s) le me k kept (c, g) =
      (c, record { finishes = leads_end from steps i m e x y (R.Spent c) me k g.finishes; reads = g.reads })

  -- a part, and then what needs its value
  pub seq_code : {A B : Type 0} (P : Shows A) (Q : Shows B) (s0 s1 i m e : ℕ) (x : R.State) (end : ExpressionEnd A) (go : A → State → ExpressionEnd B) → s0 ≤ s1 → m ≤ e → GivesCode b from steps syms s0 P i m x end → ((a : A) (s : State) (y : R.State) → Related b syms s y → Kept b s0 x y → P a y → GivesCode b from steps syms s1 Q m e y (go a s)) → GivesCode b from steps syms s0 Q i e x (then_value end go)
  seq_code P Q s0 s1 i m e x (Gives a s) go le me (y, cm, p) next =
      gives_after Q s0 s1 i m e x y (go a s) le me cm.leads cm.kept (next a s y cm.related cm.kept p)
  seq_code P Q s0 s1 i m e x (expression.Exits s) go le me (y, g) next =
      (y, record { finishes = end_later from steps i m e x (R.Jumps Exit y) me g.finishes; related = g.related; kept = g.kept })
  seq_code P Q s0 s1 i m e x (expression.Spent s) go le me (y, g) next =
      (y, record { finishes = end_later from steps i m e x (R.Spent y) me g.finishes; reads = g.reads })

  -- what is shown may be told in other words
  pub gives_as : {A : Type 0} (P Q : Shows A) (s0 i m : ℕ) (x : R.State) (end : ExpressionEnd A) → ((a : A) (y : R.State) → P a y → Q a y) → GivesCode b from steps syms s0 P i m x end → GivesCode b from steps syms s0 Q i m x end
  gives_as P Q s0 i m x (Gives a s) h (y, cm, p) = (y, cm, h a y p)
  gives_as P Q s0 i m x (expression.Exits s) h g = g
  gives_as P Q s0 i m x (expression.Spent s) h g = g

  -- the branch that is taken, up to the end of the other
  pub branch_gives : {A : Type 0} (P : Shows A) (t : Bool) (s0 i c a e : ℕ) (x : R.State) (end : ExpressionEnd A) → slice_get steps i ≡ Some (Branch c (span (i + 1) a) (span a e)) → from c ≡ R.Own → i < a → a ≤ e → R.is_so (x.values c) ≡ t → GivesCode b from steps syms s0 P (taken_from from steps t i a) (taken_to from steps t a e) (R.ticked x) end → GivesCode b from steps syms s0 P i e x end
  branch_gives P t s0 i c a e x (Gives v s) at own l1 l2 is (y, cm, p) =
      (y, record { leads = branch_leads from steps t i c a e x y at own l1 l2 is cm.leads; related = cm.related; kept = record { keeps = cm.kept.keeps; all = cm.kept.all } }, p)
  branch_gives P t s0 i c a e x (expression.Exits s) at own l1 l2 is (y, g) =
      (y, record { finishes = branch_ends from steps t i c a e x (R.Jumps Exit y) (λ go. refl) at own l1 l2 is g.finishes; related = g.related; kept = record { keeps = g.kept.keeps; all = g.kept.all } })
  branch_gives P t s0 i c a e x (expression.Spent s) at own l1 l2 is (y, g) =
      (y, record { finishes = branch_ends from steps t i c a e x (R.Spent y) (λ go. refl) at own l1 l2 is g.finishes; reads = g.reads })

  -- ---- statements

  pub kept_more : (types : List Ty) (s0 : ℕ) (x y : R.State) → Kept b s0 x y → (k : ℕ) → k < s0 → (k < b.start) ⊎ (frame_end b + length types ≤ k) → y.values k ≡ x.values k
  kept_more types s0 x y k j h o = k.keeps j h (⊎_elim (λ l. inl l) (λ g. inr (omega (arith, g))) o)

  pub does_after : (types : List Ty) (s0 s1 i m e : ℕ) (x y : R.State) (o : StatementEnd) → s0 ≤ s1 → m ≤ e → Leads from steps i m x y → Kept b s0 x y → DoesCode b from steps syms s1 types m e y o → DoesCode b from steps syms s0 types i e x o
  does_after types s0 s1 i m e x y (Next s) le me k kept (c, cm) =
      (c, record { leads = leads_on from steps i m e x y c me k cm.leads; related = cm.related; kept = kept_on b s0 s1 x y c le kept cm.kept })
  does_after types s0 s1 i m e x y (Breaks s) le me k kept (c, g) =
      (c, record { finishes = leads_end from steps i m e x y (R.Jumps Break c) me k g.finishes; related = g.related; kept = kept_on b s0 s1 x y c le kept g.kept })
  does_after types s0 s1 i m e x y (Continues s) le me k kept (c, g) =
      (c, record { finishes = leads_end from steps i m e x y (R.Jumps Continue c) me k g.finishes; related = g.related; kept = kept_on b s0 s1 x y c le kept g.kept })
  does_after types s0 s1 i m e x y (Returns vs s) le me k kept (c, g) =
      (c, record { finishes = leads_end from steps i m e x y (R.Jumps Return c) me k g.finishes; related = g.related; kept = λ j h o. g.kept j (omega (arith, h, le)) o ∙ kept_more types s0 x y kept j h o; value = g.value; typed = g.typed })
  does_after types s0 s1 i m e x y (Exits s) le me k kept (c, g) =
      (c, record { finishes = leads_end from steps i m e x y (R.Jumps Exit c) me k g.finishes; related = g.related; kept = kept_on b s0 s1 x y c le kept g.kept })
  does_after types s0 s1 i m e x y (Spent s) le me k kept (c, g) =
      (c, record { finishes = leads_end from steps i m e x y (R.Spent c) me k g.finishes; reads = g.reads })

  -- one statement, and then another
  pub then_code : (types : List Ty) (s0 s1 i m e : ℕ) (x : R.State) (o : StatementEnd) (go : Doing) → s0 ≤ s1 → m ≤ e → DoesCode b from steps syms s0 types i m x o → ((s : State) (y : R.State) → Related b syms s y → Kept b s0 x y → DoesCode b from steps syms s1 types m e y (go s)) → DoesCode b from steps syms s0 types i e x (then_do o go)
  then_code types s0 s1 i m e x (Next s) go le me (y, cm) next = does_after types s0 s1 i m e x y (go s) le me cm.leads cm.kept (next s y cm.related cm.kept)
  then_code types s0 s1 i m e x (Breaks s) go le me (y, g) next = (y, record { finishes = end_later from steps i m e x (R.Jumps Break y) me g.finishes; related = g.related; kept = g.kept })
  then_code types s0 s1 i m e x (Continues s) go le me (y, g) next = (y, record { finishes = end_later from steps i m e x (R.Jumps Continue y) me g.finishes; related = g.related; kept = g.kept })
  then_code types s0 s1 i m e x (Returns vs s) go le me (y, g) next = (y, record { finishes = end_later from steps i m e x (R.Jumps Return y) me g.finishes; related = g.related; kept = g.kept; value = g.value; typed = g.typed })
  then_code types s0 s1 i m e x (Exits s) go le me (y, g) next = (y, record { finishes = end_later from steps i m e x (R.Jumps Exit y) me g.finishes; related = g.related; kept = g.kept })
  then_code types s0 s1 i m e x (Spent s) go le me (y, g) next = (y, record { finishes = end_later from steps i m e x (R.Spent y) me g.finishes; reads = g.reads })

  -- an expression, and then what needs its value
  pub value_code : {A : Type 0} (P : Shows A) (types : List Ty) (s0 s1 i m e : ℕ) (x : R.State) (end : ExpressionEnd A) (go : A → State → StatementEnd) → s0 ≤ s1 → m ≤ e → GivesCode b from steps syms s0 P i m x end → ((a : A) (s : State) (y : R.State) → Related b syms s y → Kept b s0 x y → P a y → DoesCode b from steps syms s1 types m e y (go a s)) → DoesCode b from steps syms s0 types i e x (with_value end go)
  value_code P types s0 s1 i m e x (Gives a s) go le me (y, cm, p) next = does_after types s0 s1 i m e x y (go a s) le me cm.leads cm.kept (next a s y cm.related cm.kept p)
  value_code P types s0 s1 i m e x (expression.Exits s) go le me (y, g) next = (y, record { finishes = end_later from steps i m e x (R.Jumps Exit y) me g.finishes; related = g.related; kept = g.kept })
  value_code P types s0 s1 i m e x (expression.Spent s) go le me (y, g) next = (y, record { finishes = end_later from steps i m e x (R.Spent y) me g.finishes; reads = g.reads })

  -- what is kept more is kept less
  pub gives_less : {A : Type 0} (P : Shows A) (s0 s1 i m : ℕ) (x : R.State) (end : ExpressionEnd A) → s0 ≤ s1 → i ≤ m → GivesCode b from steps syms s1 P i m x end → GivesCode b from steps syms s0 P i m x end
  gives_less P s0 s1 i m x end le order g = gives_after P s0 s1 i i m x x end le order (leads_self from steps i x) (kept_self b s0 x) g

  -- a part that gives a value that is known, and then the others
  pub gives_then : {A B : Type 0} (P : Shows A) (Q : Shows B) (s0 s1 i m e : ℕ) (x : R.State) (a : A) (s : State) (end : ExpressionEnd B) → s0 ≤ s1 → m ≤ e → GivesCode b from steps syms s0 P i m x (Gives a s) → ((y : R.State) → Related b syms s y → Kept b s0 x y → P a y → GivesCode b from steps syms s1 Q m e y end) → GivesCode b from steps syms s0 Q i e x end
  gives_then P Q s0 s1 i m e x a s end le me (y, cm, p) next = gives_after Q s0 s1 i m e x y end le me cm.leads cm.kept (next y cm.related cm.kept p)
