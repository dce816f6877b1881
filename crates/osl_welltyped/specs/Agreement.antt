-- What expressions see by typing, against the rules of well formed trees.
use Rattle.std.specs.Prelude.{◌≡◌, ℕ, true, List, Some, slice_get}
use Rattle.osl_typed.specs.declared.found.Binding.{Binding}
use Rattle.osl_typed.specs.declared.found.Callee.TheVariants.{Declared}
use Rattle.osl_typed.specs.declared.shader.TypedFunction.{TypedFunction}
use Rattle.osl_typed.specs.FileTyping.{kinds_of_fields}
use Rattle.osl_typed.specs.Scopes.{look, StructureName, Candidate, Sight}
use Rattle.osl_welltyped.specs.Kinded.{Rules, root_kind}

-- a variable of a name
pub record IsBound (rules : Rules) (b : Binding) : Type 0 where
  pub kind_is : root_kind rules b.root ≡ Some b.kind
  pub writes : b.writable ≡ true → rules.may_write b.root ≡ true

-- a function of these, that may be called
pub record IsDeclared (functions : List TypedFunction) (c : Candidate) : Type 0 where
  pub number : ℕ
  pub f : TypedFunction
  pub callee : c.callee ≡ Declared number
  pub is : slice_get functions number ≡ Some f
  pub formals : c.signature.params ≡ f.formals
  pub result : c.signature.result ≡ f.result

pub record SightFits (rules : Rules) (sight : Sight) : Type 0 where
  pub structures : (m : ℕ) (s : StructureName) → slice_get sight.structures m ≡ Some s → slice_get rules.structures m ≡ Some (kinds_of_fields s)
  pub functions : (word : List ℕ) (k : ℕ) (c : Candidate) → slice_get (sight.functions word) k ≡ Some c → IsDeclared rules.functions c

pub record NamesFit (rules : Rules) (bindings : List Binding) : Type 0 where
  pub bound : (word : List ℕ) (b : Binding) → look word bindings ≡ Some b → IsBound rules b
