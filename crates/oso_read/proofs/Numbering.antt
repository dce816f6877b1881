-- What is known of a value that is perhaps not there, for each value that it is.
use Rattle.std.proofs.Common.{◌≡◌, Option, Some, None, subst}
use Rattle.std.specs.Option.{IfSome, IfNone, ForSome, ForNone}

value_is : {X : Type 0} (x y : X) → ◌≡◌ {A = Option X} (Some x) (Some y) → x ≡ y
value_is x y e = cc

pub for_some : {X : Type 0} (o : Option X) (P : X → Type 0) → IfSome o P → ForSome o P
for_some None P h x e = absurd cc
for_some (Some y) P h x e = subst P (value_is y x e) h

pub for_none : {X : Type 0} (o : Option X) (P : Type 0) → IfNone o P → ForNone o P
for_none None P h e = h
for_none (Some x) P h e = absurd cc
