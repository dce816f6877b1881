-- How the code of an expression or a statement ends, beside how its source does.
use Rattle.std.specs.Prelude.{ℕ, ◌+◌, ◌<◌, ◌≤◌, ◌≡◌, ◌⊎◌, List, length, map}
use Rattle.osl_value.specs.declared.types.Ty.{Ty}
use Rattle.osl_value.specs.AnyValue.{AnyValue, type_of}
use Rattle.osl_typed.specs.State.{State, ExpressionEnd, Gives}
use Rattle.osl_typed.specs.State as expression
use Rattle.osl_typed.specs.Ends.{StatementEnd, Next, Breaks, Continues, Returns, Exits, Spent}
use Rattle.oso_code.specs.declared.symbol.Symbol.{Symbol}
use Rattle.oso_code.specs.Run as R
use Rattle.oso_code.specs.Steps.{Step, Way, Break, Continue, Return, Exit}
use Rattle.osl_gencode.specs.Bodies.{Body, frame_end}
use Rattle.osl_gencode.specs.Relation.{Related, Kept, Held}

-- ---- runs

-- the ops from i to m go from one state to another, in any range that holds them
pub record Leads (from : R.Sources) (steps : List Step) (i m : ℕ) (old new : R.State) : Type 0 where
  pub by : (f e : ℕ) → m ≤ e → e ≤ f + i → (g : ℕ) × (e ≤ g + m) × (R.run from steps f i e old ≡ R.run from steps g m e new)

-- the ops from i to m end the run of any range that holds them
pub record Finishes (from : R.Sources) (steps : List Step) (i m : ℕ) (old : R.State) (o : R.Outcome) : Type 0 where
  pub by : (f e : ℕ) → m ≤ e → e ≤ f + i → R.run from steps f i e old ≡ o

-- ---- ends

module _ (b : Body) (from : R.Sources) (steps : List Step) (syms : List Symbol) (s0 : ℕ) where
  -- the code goes on after its last op
  pub record Comes (i m : ℕ) (src : State) (old new : R.State) : Type 0 where
    pub leads : Leads from steps i m old new
    pub related : Related b syms src new
    pub kept : Kept b s0 old new

  -- it leaves the range by another way
  pub record Goes (i m : ℕ) (src : State) (old : R.State) (way : Way) (new : R.State) : Type 0 where
    pub finishes : Finishes from steps i m old (R.Jumps way new)
    pub related : Related b syms src new
    pub kept : Kept b s0 old new

  -- the budget is spent, or an input is missing: the reads alone are told
  pub record Fails (i m : ℕ) (src : State) (old new : R.State) : Type 0 where
    pub finishes : Finishes from steps i m old (R.Spent new)
    pub reads : new.reads ≡ src.reads

  -- the code from i to m does what an expression does, and P holds of what it gives
  abbrev pub GivesCode : {A : Type 0} → (P : A → R.State → Type 0) → (i m : ℕ) → (old : R.State) → ExpressionEnd A → Type 0
  GivesCode P i m old (Gives a s) = (new : R.State) × Comes i m s old new × P a new
  GivesCode P i m old (expression.Exits s) = (new : R.State) × Goes i m s old Exit new
  GivesCode P i m old (expression.Spent s) = (new : R.State) × Fails i m s old new

  -- a return leaves its value in the symbols after the frame
  pub record Hands (types : List Ty) (i m : ℕ) (src : State) (old : R.State) (vs : List AnyValue) (new : R.State) : Type 0 where
    pub finishes : Finishes from steps i m old (R.Jumps Return new)
    pub related : Related b syms src new
    pub kept : (k : ℕ) → k < s0 → (k < b.start) ⊎ (frame_end b + length types ≤ k) → new.values k ≡ old.values k
    pub value : Held new.values (frame_end b) vs
    pub typed : map type_of vs ≡ types

  -- the code from i to m does what a statement does; a value that is returned has these types
  abbrev pub DoesCode : (types : List Ty) → (i m : ℕ) → (old : R.State) → StatementEnd → Type 0
  DoesCode types i m old (Next s) = (new : R.State) × Comes i m s old new
  DoesCode types i m old (Breaks s) = (new : R.State) × Goes i m s old Break new
  DoesCode types i m old (Continues s) = (new : R.State) × Goes i m s old Continue new
  DoesCode types i m old (Returns vs s) = (new : R.State) × Hands types i m s old vs new
  DoesCode types i m old (Exits s) = (new : R.State) × Goes i m s old Exit new
  DoesCode types i m old (Spent s) = (new : R.State) × Fails i m s old new
