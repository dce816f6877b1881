-- What the code of a call does around the body of the function: the frame is filled before it, and outputs are copied back after it.
use Rattle.std.specs.Prelude.{ℕ, ◌+◌, ◌<◌, ◌≤◌, ◌≡◌, List, [], ◌∷◌, length, map, Option, Some, None, slice_get}
use Rattle.std.specs.List.{flat_map}
use Rattle.osl_value.specs.declared.types.Ty.{Ty}
use Rattle.osl_value.specs.AnyValue.{AnyValue, type_of, zero_value}
use Rattle.osl_layer.specs.Layer.{Inputs}
use Rattle.osl_typed.specs.declared.expr.Root.{Root}
use Rattle.osl_typed.specs.declared.expr.Part.{Part}
use Rattle.osl_typed.specs.Frames.{zero_leaves}
use Rattle.osl_typed.specs.State.{State, with_leaves}
use Rattle.osl_typed.specs.Parts.{all_indices}
use Rattle.osl_typed.specs.Expressions.{Passed, Copied, Lent, value_passed, copied_back}
use Rattle.oso_code.specs.declared.op.Op.{Op}
use Rattle.oso_code.specs.declared.symbol.Symbol.{Symbol}
use Rattle.oso_code.specs.Run as R
use Rattle.oso_code.specs.Steps.{Step}
use Rattle.osl_gencode.specs.Growth.{Extends, Covers, Grows}
use Rattle.osl_gencode.specs.Bodies.{HaveTypes, Body, frame_end, frame_at, Room}
use Rattle.osl_gencode.specs.Relation.{Wired, HoldsConsts, Related, Kept, Held, In}
use Rattle.osl_gencode.specs.RunEnds.{Leads}
use Rattle.osl_gencode.specs.Codes.{Place}

-- ---- arguments

-- an argument: where its value is, and for an output what it is copied back to, with the symbols of its indices
pub record ArgPlace : Type 0 where
  pub value : Place
  pub target : Option (Root × Part)
  pub indices : List ℕ

-- an argument was passed: its value is in its place, and the indices of an output in theirs
abbrev pub PassedIn : ArgPlace → Passed → R.State → Type 0
PassedIn p (Copied v) cod = In p.value.first p.value.types v cod × (p.target ≡ None)
PassedIn p (Lent v root part is) cod = In p.value.first p.value.types v cod × (p.target ≡ Some (root, part)) × (map cod.values p.indices ≡ all_indices part is)

abbrev pub AllPassed : List ArgPlace → List Passed → R.State → Type 0
AllPassed [] [] cod = Unit {0}
AllPassed [] (v ∷ vs) cod = ⊥
AllPassed (p ∷ ps) [] cod = ⊥
AllPassed (p ∷ ps) (v ∷ vs) cod = PassedIn p v cod × AllPassed ps vs cod

-- ---- before the body

-- A frame is made for a function, after all symbols: the formal parameters hold what was passed, the other variables zero, and the place of the result zeros.
pub record Entered (inner : Body) (result : List Ty) (s0 : ℕ) (args : List (List AnyValue)) (syms : List Symbol) (old new : R.State) : Type 0 where
  pub frame : (k : ℕ) → k < length inner.types → new.values (inner.shift + k) ≡ with_leaves 0 (flat_map (λ arg. arg) args) (zero_leaves inner.types) k
  pub typed : (k : ℕ) (ty : Ty) → slice_get inner.types k ≡ Some ty → type_of (with_leaves 0 (flat_map (λ arg. arg) args) (zero_leaves inner.types) k) ≡ ty
  pub zeros : Held new.values (frame_end inner) (map zero_value result)
  pub low : (k : ℕ) → k < s0 → new.values k ≡ old.values k
  pub consts : HoldsConsts syms new
  pub turns : new.turns ≡ old.turns
  pub reads : new.reads ≡ old.reads

-- the frame of a called function, seen from the body that calls it
pub record IsInner (b inner : Body) : Type 0 where
  pub start : inner.start ≡ inner.shift
  pub split : inner.split ≡ 0
  pub globals : inner.globals ≡ b.globals
  pub params : inner.params ≡ b.params
  pub structures : inner.structures ≡ b.structures

-- the code that was added fills the frame of a function from its arguments
pub record EnterCode (b inner : Body) (result : List Ty) (ops0 ops1 : List Op) (syms0 syms1 : List Symbol) (ps : List ArgPlace) : Type 0 where
  pub grows : Grows ops0 ops1 syms0 syms1
  pub room : Room inner syms1
  pub later : length syms0 ≤ inner.start
  pub own_frame : IsInner b inner
  pub within : frame_end inner + length result ≤ length syms1
  pub places : HaveTypes syms1 (frame_end inner) result
  pub runs : (from : R.Sources) (steps : List Step) (syms : List Symbol) (passed : List Passed) (old : R.State) → Covers syms steps ops1 (length ops0) → Extends syms1 syms
      → ((k : ℕ) → b.params ≤ k → from k ≡ R.Own) → HoldsConsts syms old → AllPassed ps passed old
      → (new : R.State) × Leads from steps (length ops0) (length ops1) old new × Entered inner result (length syms0) (map value_passed passed) syms old new

-- ---- after the body

-- what the formal parameters hold, the first of them from leaf `at` on
abbrev pub FinalsIn : Body → (at : ℕ) → List (List AnyValue) → R.State → Type 0
FinalsIn inner at [] cod = Unit {0}
FinalsIn inner at (vs ∷ vss) cod = Held cod.values (inner.shift + at) vs × FinalsIn inner (at + length vs) vss cod

-- the indices of outputs are in their places
abbrev pub IndicesIn : List ArgPlace → List Passed → R.State → Type 0
IndicesIn [] [] cod = Unit {0}
IndicesIn [] (v ∷ vs) cod = ⊥
IndicesIn (p ∷ ps) [] cod = ⊥
IndicesIn (p ∷ ps) (Copied v ∷ vs) cod = (p.target ≡ None) × IndicesIn ps vs cod
IndicesIn (p ∷ ps) (Lent v root part is ∷ vs) cod = (p.target ≡ Some (root, part)) × (map cod.values p.indices ≡ all_indices part is) × IndicesIn ps vs cod

-- The code that was added copies outputs back from left to right, the first of them from leaf `at` on, where the formal parameters hold values of these types.
pub record BackCode (b inner : Body) (at : ℕ) (types : List (List Ty)) (ops0 ops1 : List Op) (syms0 syms1 : List Symbol) (ps : List ArgPlace) : Type 0 where
  pub grows : Grows ops0 ops1 syms0 syms1
  pub runs : (inputs : Inputs) (from : R.Sources) (steps : List Step) (syms : List Symbol) (passed : List Passed) (finals : List (List AnyValue)) (s : State) (old : R.State) → Wired b inputs from → Covers syms steps ops1 (length ops0) → Extends syms1 syms → Related b syms s old → IndicesIn ps passed old → FinalsIn inner at finals old → map (map type_of) finals ≡ types
      → (new : R.State) × Leads from steps (length ops0) (length ops1) old new × Related b syms (copied_back (frame_at b inputs) passed finals s) new × Kept b (length syms0) old new
