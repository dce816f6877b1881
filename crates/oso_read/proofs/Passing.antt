-- Readings that give something: what each of their steps gave.
use Rattle.std.proofs.Common.{◌≡◌, ℕ, Bool, true, false, Option, Some, None, Result, Ok, Err, refl, ap}
use Rattle.std.specs.Prelude.{IsTrue, if◌then◌else◌, option_and_then, option_map}
use Rattle.std.specs.Option.{ok_or}
use Rattle.oso_read.specs.declared.error.OsoKind.{OsoKind}
use Rattle.oso_read.specs.Faults.{◌>>=◌, at_line, holding}
use Rattle.oso_read.specs.Hints.{Saying}
use Rattle.oso_read.specs.Reading.{heard}

pub some_of : {A : Type 0} (x y : A) → Some x ≡ Some y → x ≡ y
some_of x y h = cc h

pub ok_of : {A E : Type 0} (x y : A) → (◌≡◌ {A = Result A E} (Ok x) (Ok y)) → x ≡ y
ok_of x y h = cc h

-- a step gave a value, and the next one made the rest of it
pub record GoesOn {E A B : Type 0} (r : Result A E) (f : A → Result B E) (y : B) : Type 0 where
  pub value : A
  pub gave : r ≡ Ok value
  pub rest : f value ≡ Ok y

pub goes_on : {E A B : Type 0} (r : Result A E) (f : A → Result B E) (y : B) → r >>= f ≡ Ok y → GoesOn r f y
goes_on (Ok x) f y h = record { value = x; gave = refl; rest = h }
goes_on (Err e) f y h = absurd (cc h)

pub line_gave : {A : Type 0} (n : ℕ) (r : Result A OsoKind) (x : A) → at_line n r ≡ Ok x → r ≡ Ok x
line_gave n (Ok y) x h = ap Ok (ok_of y x h)
line_gave n (Err kind) x h = absurd (cc h)

-- a line says something, of which the value is made
pub record Hears {A : Type 0} (make : Saying → Result A OsoKind) (o : Option Saying) (x : A) : Type 0 where
  pub saying : Saying
  pub says : o ≡ Some saying
  pub made : make saying ≡ Ok x

pub hears : {A : Type 0} (kind : OsoKind) (make : Saying → Result A OsoKind) (o : Option Saying) (x : A) → heard kind make o ≡ Ok x → Hears make o x
hears kind make None x h = absurd (cc h)
hears kind make (Some s) x h = record { saying = s; says = refl; made = h }

pub some_from_ok : {A E : Type 0} (o : Option A) (e : E) (x : A) → ok_or o e ≡ Ok x → o ≡ Some x
some_from_ok None e x h = absurd (cc h)
some_from_ok (Some y) e x h = ap Some (ok_of y x h)

pub holds : {A : Type 0} (test : Bool) (kind : OsoKind) (x y : A) → holding test kind x ≡ Ok y → IsTrue test × (x ≡ y)
holds true kind x y h = (refl, ok_of x y h)
holds false kind x y h = absurd (cc h)

-- ---- options

pub record Follows {A B : Type 0} (o : Option A) (f : A → Option B) (y : B) : Type 0 where
  pub value : A
  pub is : o ≡ Some value
  pub rest : f value ≡ Some y

pub follows : {A B : Type 0} (o : Option A) (f : A → Option B) (y : B) → option_and_then f o ≡ Some y → Follows o f y
follows None f y h = absurd (cc h)
follows (Some x) f y h = record { value = x; is = refl; rest = h }

pub record Maps {A B : Type 0} (f : A → B) (o : Option A) (y : B) : Type 0 where
  pub value : A
  pub is : o ≡ Some value
  pub image : f value ≡ y

pub maps : {A B : Type 0} (f : A → B) (o : Option A) (y : B) → option_map f o ≡ Some y → Maps f o y
maps f None y h = absurd (cc h)
maps f (Some x) y h = record { value = x; is = refl; image = some_of (f x) y h }

pub tested : {A : Type 0} (test : Bool) (o : Option A) (x : A) → (if test then o else None) ≡ Some x → IsTrue test × (o ≡ Some x)
tested true o x h = (refl, h)
tested false o x h = absurd (cc h)
