-- What is a value: counts that fit the type, and numbers in their range.
use Rattle.std.specs.Prelude.{ℕ, ◌≡◌, ◌≤◌, ℤ, List, length}
use Rattle.std.specs.List.{All}
use Rattle.osl_value.specs.declared.closure.Part.{Part}
use Rattle.osl_value.specs.declared.point.Point.{Point}
use Rattle.osl_value.specs.declared.types.Ty.{Ty}
use Rattle.osl_value.specs.AnyValue.{AnyValue, Of, Parts, type_of}
use Rattle.osl_value.specs.Closures.{most_parts}
use Rattle.osl_value.specs.Numbers.{IsInRange}
use Rattle.osl_value.specs.Plain.{IsPlain}

-- so many floats
pub record AreFloats (count : ℕ) (xs : List ℤ) : Type 0 where
  pub count_fits : length xs ≡ count
  pub in_range : All IsInRange xs

pub record IsPart (part : Part) : Type 0 where
  pub weight : AreFloats 3 part.weight
  pub normal : AreFloats 3 part.normal
  pub number : IsInRange part.number

pub record AreParts (parts : List Part) : Type 0 where
  pub few : length parts ≤ most_parts
  pub all : All IsPart parts

abbrev pub IsValue : AnyValue → Type 0
IsValue (Of v) = IsPlain v.ty v.nums v.texts
IsValue (Parts parts) = AreParts parts

-- a value of this type
pub record IsOfType (ty : Ty) (v : AnyValue) : Type 0 where
  pub value : IsValue v
  pub type : type_of v ≡ ty

-- a point's numbers are floats
pub record IsPoint (point : Point) : Type 0 where
  pub p : AreFloats 3 point.p
  pub n : AreFloats 3 point.n
  pub ng : AreFloats 3 point.ng
  pub i : AreFloats 3 point.i
  pub u : IsInRange point.u
  pub v : IsInRange point.v
