-- What code stands for: an expression, a list of expressions, a statement.
use Rattle.std.specs.Prelude.{ℕ, ◌+◌, ◌<◌, ◌≤◌, ◌⊎◌, List, [], ◌∷◌, length}
use Rattle.osl_value.specs.declared.types.Ty.{Ty}
use Rattle.osl_value.specs.AnyValue.{AnyValue}
use Rattle.osl_layer.specs.Layer.{Inputs}
use Rattle.osl_typed.specs.State.{State, ExpressionEnd, Gives, in_order}
use Rattle.osl_typed.specs.Ends.{Doing}
use Rattle.osl_typed.specs.Expressions.{Meaning}
use Rattle.oso_code.specs.declared.op.Op.{Op}
use Rattle.oso_code.specs.declared.symbol.Symbol.{Symbol}
use Rattle.oso_code.specs.Run as R
use Rattle.oso_code.specs.Steps.{Step}
use Rattle.osl_gencode.specs.Growth.{Extends, Covers, Grows}
use Rattle.osl_gencode.specs.Bodies.{HaveTypes, Body, frame_end}
use Rattle.osl_gencode.specs.Relation.{Wired, IsOwn, Related, Kept, In}
use Rattle.osl_gencode.specs.RunEnds.{GivesCode, DoesCode}

-- ---- any code that gives something

-- what is shown of something and a state
abbrev pub Shows : Type 0 → Type 1
Shows A = A → R.State → Type 0

-- nothing is asked of where it begins
abbrev pub Anything : Unit {0} → R.State → Type 0
Anything a cod = Unit {0}

-- a fact that lasts while code of the body runs, made where there are s0 symbols
abbrev pub Stays : {A : Type 0} → Body → (s0 : ℕ) → (A → R.State → Type 0) → Type 0
Stays {A} b s0 P = (a : A) (x y : R.State) → Kept b s0 x y → P a x → P a y

-- The code that was added goes on from something of which P holds as the source does, whatever follows it, and Q holds of what it gives.
pub record Code {A B : Type 0} (b : Body) (ops0 ops1 : List Op) (syms0 syms1 : List Symbol) (P : A → R.State → Type 0) (Q : B → R.State → Type 0) (sem : Inputs → A → State → ExpressionEnd B) : Type 0 where
  pub grows : Grows ops0 ops1 syms0 syms1
  pub runs : (inputs : Inputs) (from : R.Sources) (steps : List Step) (syms : List Symbol) (a : A) (src : State) (cod : R.State)
      → Wired b inputs from → Covers syms steps ops1 (length ops0) → Extends syms1 syms → Related b syms src cod → P a cod
      → GivesCode b from steps syms (length syms0) Q (length ops0) (length ops1) cod (sem inputs a src)

-- ---- expressions

-- The code that was added stands for the expression: its value is in the symbols from r on. These may be symbols of its own, or a constant, or a variable's or a global's, which no input reaches.
pub record ExprCode (b : Body) (ops0 ops1 : List Op) (syms0 syms1 : List Symbol) (r : ℕ) (types : List Ty) (sem : Inputs → Meaning) : Type 0 where
  pub within : r + length types ≤ length syms1
  pub own : (k : ℕ) → k < length types → IsOwn b (r + k)
  pub places : HaveTypes syms1 r types
  pub code : Code b ops0 ops1 syms0 syms1 Anything (In r types) (λ inputs a. sem inputs)

-- ---- lists of expressions

-- where a value is: its first symbol and the types of its leaves
pub record Place : Type 0 where
  pub first : ℕ
  pub types : List Ty

-- values in places, in order
abbrev pub AllIn : List Place → List (List AnyValue) → R.State → Type 0
AllIn [] [] cod = Unit {0}
AllIn [] (vs ∷ vss) cod = ⊥
AllIn (p ∷ ps) [] cod = ⊥
AllIn (p ∷ ps) (vs ∷ vss) cod = In p.first p.types vs cod × AllIn ps vss cod

-- each place is below hi, and no input reaches it
abbrev pub AllWithin : Body → ℕ → List Place → Type 0
AllWithin b hi [] = Unit {0}
AllWithin b hi (p ∷ ps) = (p.first + length p.types ≤ hi) × ((k : ℕ) → k < length p.types → IsOwn b (p.first + k)) × AllWithin b hi ps

-- no code of the body writes these n symbols from r on, once they are there
abbrev pub IsSpared : Body → (r n : ℕ) → Type 0
IsSpared b r n = (r + n ≤ b.start) ⊎ (frame_end b ≤ r)

abbrev pub AllSpared : Body → List Place → Type 0
AllSpared b [] = Unit {0}
AllSpared b (p ∷ ps) = IsSpared b p.first (length p.types) × AllSpared b ps

-- each place has its types
abbrev pub AllTyped : List Symbol → List Place → Type 0
AllTyped syms [] = Unit {0}
AllTyped syms (p ∷ ps) = HaveTypes syms p.first p.types × AllTyped syms ps

-- the code that was added evaluates expressions from left to right
pub record ListCode (b : Body) (ops0 ops1 : List Op) (syms0 syms1 : List Symbol) (ps : List Place) (sems : Inputs → List Meaning) : Type 0 where
  pub within : AllWithin b (length syms1) ps
  pub places : AllTyped syms1 ps
  pub code : Code b ops0 ops1 syms0 syms1 Anything (AllIn ps) (λ inputs a s. in_order (sems inputs) s Gives)

-- ---- statements

-- the code that was added stands for the statement
pub record StmtCode (b : Body) (result : List Ty) (ops0 ops1 : List Op) (syms0 syms1 : List Symbol) (sem : Inputs → Doing) : Type 0 where
  pub grows : Grows ops0 ops1 syms0 syms1
  pub runs : (inputs : Inputs) (from : R.Sources) (steps : List Step) (syms : List Symbol) (src : State) (cod : R.State)
      → Wired b inputs from → Covers syms steps ops1 (length ops0) → Extends syms1 syms → Related b syms src cod
      → DoesCode b from steps syms (length syms0) result (length ops0) (length ops1) cod (sem inputs src)
