-- A call of one of some functions.
use Rattle.std.specs.Prelude.{codes, ℕ, ◌&&◌, if◌then◌else◌, List, [], ◌∷◌, ◌++◌, map, Option, None, Some, slice_get, bytes_eq}
use Rattle.osl_value.specs.declared.op_name.OpName.TheVariants.{ArrayLength}
use Rattle.osl_value.specs.AnyValue.{is_array}
use Rattle.osl_overload.specs.declared.choice.Choice.{Choice}
use Rattle.osl_overload.specs.declared.choice.Choice.TheVariants.{Chosen, NoCandidate, Ambiguous}
use Rattle.osl_overload.specs.declared.signature.Kind.{Kind}
use Rattle.osl_typed.specs.declared.found.Callee.TheVariants.{Operation}
use Rattle.osl_typed.specs.declared.found.Found.{Found}
use Rattle.osl_typed.specs.BuiltIns.{array_length, takes}
use Rattle.osl_typed.specs.Choosing.{chosen, apart}
use Rattle.osl_typed.specs.Operators.{int, is_type}
use Rattle.osl_typed.specs.Scopes.{Candidate}
use Rattle.osl_typed.specs.Typing.{◌>>=◌, when, as_argument, root_of, called_as}

-- a call of this function
unfoldable pub called_by : Candidate → List Found → Option Found
called_by c args = when (apart c.signature.params (map root_of args)) >>= λ ok. called_as c.callee c args

abbrev pub called_at : List Candidate → List Found → ℕ → Option Found
called_at candidates args place = slice_get candidates place >>= λ c. called_by c args

-- a call of the one of these functions that costs least
unfoldable pub called_among : List Candidate → List Found → Option Found
called_among candidates args = chosen (map (λ c. c.signature) candidates) (map as_argument args) >>= called_at candidates args

-- the place that a choice gives
abbrev pub place_of : Choice → Option ℕ
place_of (Chosen i) = Some i
place_of NoCandidate = None
place_of Ambiguous = None

-- ---- `arraylength`

-- the functions `arraylength` that there are for arguments of these kinds, if the word means it
unfoldable pub own_candidates : List ℕ → List Kind → List Candidate
own_candidates word kinds = if bytes_eq word (codes "arraylength") then array_length kinds else []

abbrev pub sole_kind : List Kind → Option Kind
sole_kind (kind ∷ []) = Some kind
sole_kind _ = None

-- the kind of the array that `arraylength` is called with
abbrev pub own_kind : List ℕ → Option Kind → Option Kind
own_kind word None = None
own_kind word (Some kind) = if bytes_eq word (codes "arraylength") && is_type is_array kind then Some kind else None

-- `arraylength` of arrays of this kind
abbrev pub length_of : Kind → Candidate
length_of kind = record { signature = takes (kind ∷ []) int; callee = Operation ArrayLength }

abbrev pub lengths_of : Option Kind → List Candidate
lengths_of None = []
lengths_of (Some kind) = length_of kind ∷ []

-- ---- arguments

-- what was passed so far, with what is still to be passed
abbrev pub behind : {X : Type 0} → List X → Option (List X) → Option (List X)
behind done rest = rest >>= λ xs. Some (done ++ xs)
