-- What a scope keeps of one before it, and who may assign global variables.
use Rattle.std.specs.Prelude.{◌≡◌, Bool, false, List, ◌++◌, Option, Some, None}
use Rattle.osl_layer.specs.declared.global.GlobalName.{GlobalName}
use Rattle.osl_value.specs.declared.shader_kind.ShaderKind.{ShaderKind}
use Rattle.osl_typed.specs.declared.found.Binding.{Binding}
use Rattle.osl_typed.specs.Scopes.{Scope, is_assignable_global}

-- a later scope of the same block: more variables are declared inside those that there were
pub record Keeps (earlier later : Scope) : Type 0 where
  pub more : List Binding
  pub bindings : later.bindings ≡ more ++ earlier.bindings
  pub depth : later.depth ≡ earlier.depth

-- whether a global variable may be assigned: in a shader of this kind, or else in a function
abbrev pub is_assignable : Option ShaderKind → GlobalName → Bool
is_assignable None global = false
is_assignable (Some kind) global = is_assignable_global kind global
