-- Whether outputs are variables of their own, in one pass over the arguments.
use Rattle.std.specs.Prelude.{ℕ, Bool, true, false, not, ◌&&◌, ◌||◌, if◌then◌else◌, List, [], ◌∷◌, Option, None, Some, nat_eq}
use Rattle.indexmap.specs.IndexMap.{get}
use Rattle.osl_layer.specs.declared.global.GlobalName.{GlobalName}
use Rattle.osl_layer.specs.declared.global.GlobalName.TheVariants.{P, N, Ng, I, U, V, Ci}
use Rattle.osl_overload.specs.declared.signature.Formal.{Formal}
use Rattle.osl_typed.specs.declared.expr.Root.{Root}
use Rattle.osl_typed.specs.declared.expr.Root.TheVariants as root
use Rattle.osl_typed.specs.Choosing.{same_root}
use Rattle.osl_calls.specs.declared.outputs.Roots.{Roots}

abbrev pub number_of : GlobalName → ℕ
number_of P = 0
number_of N = 1
number_of Ng = 2
number_of I = 3
number_of U = 4
number_of V = 5
number_of Ci = 6

-- for each root among the arguments so far, whether one of them is for an output
abbrev pub Passed : Type 0
Passed = Root → Option Bool

abbrev pub clashes : Option Bool → Bool → Bool
clashes None output = false
clashes (Some before) output = before || output

abbrev pub with_root : Root → Bool → Passed → Passed
with_root r output passed = λ s. if same_root r s then Some output else passed s

-- the arguments that are left clash with none before them and with none among them
unfoldable pub passes : Passed → List Formal → List (Option Root) → Bool
passes passed [] roots = true
passes passed (f ∷ fs) [] = true
passes passed (f ∷ fs) (None ∷ roots) = passes passed fs roots
passes passed (f ∷ fs) (Some r ∷ roots) = not (clashes (passed r) f.output) && passes (with_root r f.output passed) fs roots

-- what tables of variables and of global variables say
abbrev pub passed_in : Roots → Passed
passed_in roots (root.Variable j) = get nat_eq roots.variables j
passed_in roots (root.Global g) = get nat_eq roots.globals (number_of g)
