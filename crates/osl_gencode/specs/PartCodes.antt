-- What code does that reads or writes a part of a leaf: an element of an array, a component of a triple, an element of a matrix, or any of these of an element.
use Rattle.std.specs.Prelude.{ℕ, ◌<◌, ◌≤◌, ◌≡◌, ◌≢◌, ◌⊎◌, true, false, List, [], ◌∷◌, ◌++◌, length, map, Some, slice_get}
use Rattle.osl_value.specs.declared.types.Ty.{Ty}
use Rattle.osl_value.specs.AnyValue.{AnyValue, type_of}
use Rattle.osl_value.specs.declared.op_name.OpName.{OpName}
use Rattle.osl_value.specs.Apply.{apply}
use Rattle.osl_value.specs.Laws.{HasValues}
use Rattle.osl_value.specs.Table.{is_control, updates}
use Rattle.osl_typed.specs.Parts.{selected, with_selected}
use Rattle.oso_code.specs.declared.op.Op.{Op}
use Rattle.oso_code.specs.declared.symbol.Symbol.{Symbol}
use Rattle.oso_code.specs.Run as R
use Rattle.oso_code.specs.Steps.{Step}
use Rattle.osl_gencode.specs.Growth.{Extends, Covers, Grows}
use Rattle.osl_gencode.specs.Bodies.{is_const, IsVariable, HasType}
use Rattle.osl_gencode.specs.RunEnds.{Leads}

-- symbols that no input reaches
abbrev pub AllOwn : R.Sources → List ℕ → Type 0
AllOwn from [] = Unit {0}
AllOwn from (r ∷ rs) = (from r ≡ R.Own) × AllOwn from rs

-- each of these symbols is below n and is not w
abbrev pub AllBelow : ℕ → ℕ → List ℕ → Type 0
AllBelow n w [] = Unit {0}
AllBelow n w (r ∷ rs) = (r < n) × (r ≢ w) × AllBelow n w rs

-- each of these symbols is below n
abbrev pub AllUnder : ℕ → List ℕ → Type 0
AllUnder n [] = Unit {0}
AllUnder n (r ∷ rs) = (r < n) × AllUnder n rs

-- ---- reading

-- symbol r got a value; the symbols below s0 and the constants are as they were
pub record Computed (syms : List Symbol) (r : ℕ) (v : AnyValue) (s0 : ℕ) (old new : R.State) : Type 0 where
  pub value : new.values r ≡ v
  pub older : (k : ℕ) → k < s0 → new.values k ≡ old.values k
  pub consts : (k : ℕ) (symbol : Symbol) → slice_get syms k ≡ Some symbol → is_const symbol.class ≡ true → new.values k ≡ old.values k
  pub turns : new.turns ≡ old.turns
  pub reads : new.reads ≡ old.reads

-- One op takes the first n of n + m indices of a value of type ty: it gives one of type `to`, and the other indices are taken of that.
pub record Selects (ty : Ty) (name : OpName) (to : Ty) (n m : ℕ) : Type 0 where
  pub plain : is_control name ≡ false
  pub reading : updates name ≡ false
  pub has : HasValues to
  pub means : (v : AnyValue) (is js : List AnyValue) → type_of v ≡ ty → length is ≡ n → length js ≡ m → selected ty v (is ++ js) ≡ selected to (apply name to (v ∷ is)) js

-- The code that was added gives in symbol r what the indices in rs select of symbol w, which holds a value of type ty. Without indices r may be w itself.
pub record SelectCode (ops0 ops1 : List Op) (syms0 syms1 : List Symbol) (w : ℕ) (ty : Ty) (rs : List ℕ) (r : ℕ) (to : Ty) : Type 0 where
  pub grows : Grows ops0 ops1 syms0 syms1
  pub place : ((r ≡ w) × (rs ≡ [])) ⊎ ((length syms0 ≤ r) × (r < length syms1))
  pub typed : HasType syms0 w ty → HasType syms1 r to
  pub runs : (from : R.Sources) (steps : List Step) (syms : List Symbol) (old : R.State) → Covers syms steps ops1 (length ops0) → Extends syms1 syms
      → type_of (old.values w) ≡ ty → AllOwn from (w ∷ rs) → ((k : ℕ) → length syms0 ≤ k → from k ≡ R.Own) → AllUnder (length syms0) (w ∷ rs)
      → (new : R.State) × Leads from steps (length ops0) (length ops1) old new × Computed syms r (selected ty (old.values w) (map old.values rs)) (length syms0) old new × (type_of (new.values r) ≡ to)

-- ---- writing

-- symbol w got a value; of the others, those below s0 and the constants are as they were
pub record Stored (syms : List Symbol) (w : ℕ) (v : AnyValue) (s0 : ℕ) (old new : R.State) : Type 0 where
  pub value : new.values w ≡ v
  pub others : (k : ℕ) → k < s0 → k ≢ w → new.values k ≡ old.values k
  pub consts : (k : ℕ) (symbol : Symbol) → slice_get syms k ≡ Some symbol → is_const symbol.class ≡ true → new.values k ≡ old.values k
  pub turns : new.turns ≡ old.turns
  pub reads : new.reads ≡ old.reads

-- the code that was added writes x into the part of symbol w that the indices in rs select
pub record StoreCode (ops0 ops1 : List Op) (syms0 syms1 : List Symbol) (w : ℕ) (ty : Ty) (rs : List ℕ) (x : ℕ) : Type 0 where
  pub grows : Grows ops0 ops1 syms0 syms1
  pub runs : (from : R.Sources) (steps : List Step) (syms : List Symbol) (old : R.State) → Covers syms steps ops1 (length ops0) → Extends syms1 syms → IsVariable syms w ty
      → from w ≡ R.Own → AllOwn from rs → from x ≡ R.Own → ((k : ℕ) → length syms0 ≤ k → from k ≡ R.Own)
      → w < length syms0 → x < length syms0 → x ≢ w → AllBelow (length syms0) w rs
      → (new : R.State) × Leads from steps (length ops0) (length ops1) old new × Stored syms w (with_selected ty (old.values w) (map old.values rs) (old.values x)) (length syms0) old new
