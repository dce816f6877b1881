-- Declarations and lists in braces, as the code reads them.
use Rattle.std.proofs.Common.{◌≡◌, ℕ, List, ◌∷◌, length, refl, sym, subst}
use Rattle.std.specs.Prelude.{ℤ, Bool, true, not, Option, None, Some}
use Rattle.osl_names.specs.Kept.{Keeps}
use Rattle.osl_names.proofs.Keeping.{keeps_with}
use Rattle.osl_overload.specs.declared.signature.Kind.{Kind}
use Rattle.osl_overload.specs.declared.signature.Kind.TheVariants.{Structure}
use Rattle.osl_tree.specs.declared.stmt.TypeName.{TypeName}
use Rattle.osl_tree.specs.declared.stmt.TypeName.TheVariants.{Base, Struct}
use Rattle.osl_tree.specs.declared.stmt.Var.{Var}
use Rattle.osl_typed.specs.Scopes.{Scope, Sight, StructureName, structure_named, is_here, with_variable}
use Rattle.osl_typed.specs.Typing.{◌>>=◌, when}
use Rattle.osl_typed.specs.BodyTyping.{declared_kind, maybe_begun, declare, declare_all}
use Rattle.osl_check.specs.BodyParts.{lengthened, declare_one}
use Rattle.osl_check.proofs.Walks.{IsGathered}

no_length : (o : Option Kind) → lengthened o None ≡ o
no_length None = refl
no_length (Some kind) = refl

structures_have_none : (o : Option ℕ) (n : ℤ) → None ≡ lengthened (o >>= λ m. Some (Structure m)) (Some n)
structures_have_none None n = refl
structures_have_none (Some m) n = refl

-- the kind that a type makes, from the one that it makes with no length
pub kind_is : (structures : List StructureName) (type : TypeName) (len : Option ℤ) → declared_kind structures type len ≡ lengthened (declared_kind structures type None) len
kind_is structures (Base base) None = refl
kind_is structures (Base base) (Some n) = refl
kind_is structures (Struct word) None = sym (no_length (declared_kind structures (Struct word) None))
kind_is structures (Struct word) (Some n) = structures_have_none (structure_named 0 structures word) n

one_is : (sight : Sight) (type : TypeName) (v : Var) (scope : Scope) → declare sight type v scope ≡ declare_one sight (declared_kind sight.structures type None) v scope
unfolding declare declare_one
one_is sight type v scope = λ i. kind_is sight.structures type v.item.len i >>= λ kind. maybe_begun sight scope kind v.init >>= λ x.
    when (not (is_here v.item.name scope)) >>= λ ok. Some (record { number = length scope.kinds; kind = kind; init = x }, with_variable v.item.name kind true scope)

all_gathered : (sight : Sight) (type : TypeName) → IsGathered (declare_one sight (declared_kind sight.structures type None)) (declare_all sight type)
unfolding declare_all
all_gathered sight type = record {
  ends = λ scope. refl;
  takes = λ v vs scope. λ i. one_is sight type v scope i >>= λ r. declare_all sight type vs (r.1) >>= λ rest. Some (r.0 ∷ rest.0, rest.1);
}

-- the variables of a declaration, from the kind that its type makes
pub declarations_gathered : (sight : Sight) (type : TypeName) (plain : Option Kind) → plain ≡ declared_kind sight.structures type None
    → IsGathered (declare_one sight plain) (declare_all sight type)
declarations_gathered sight type plain is = subst (λ p. IsGathered (declare_one sight p) (declare_all sight type)) (sym is) (all_gathered sight type)

-- ---- what a scope keeps

pub keeps_declared : (name : List ℕ) (kind : Kind) (writable : Bool) (old new : Scope) → new ≡ with_variable name kind writable old → Keeps old new
keeps_declared name kind writable old new is = subst (Keeps old) (sym is) (keeps_with name kind writable old)
