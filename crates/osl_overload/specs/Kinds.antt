-- Kinds that are the same.
use Rattle.std.specs.Prelude.{Bool, true, false, ◌==◌}
use Rattle.osl_value.specs.Types.{same_type}
use Rattle.osl_overload.specs.declared.signature.Kind.{Kind}
use Rattle.osl_overload.specs.declared.signature.Kind.TheVariants.{Value, Structure, Void}

abbrev pub same_kind : Kind → Kind → Bool
same_kind (Value a) (Value b) = same_type a b
same_kind (Structure m) (Structure n) = m == n
same_kind Void Void = true
same_kind _ _ = false
