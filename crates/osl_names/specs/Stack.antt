-- A stack of bindings, and a table of the innermost of each name.
use Rattle.std.specs.Prelude.{ℕ, ◌≡◌, List, [], ◌∷◌, ◌++◌, length, Option, Some, None, bytes_eq, if◌then◌else◌}
use Rattle.indexmap.specs.IndexMap.{IndexMap, get_by}
use Rattle.osl_typed.specs.declared.found.Binding.{Binding}
use Rattle.osl_names.specs.declared.stack.Entry.{Entry}

-- the entries have the innermost last
unfoldable pub flip : List Entry → List Entry
flip [] = []
flip (x ∷ xs) = flip xs ++ x ∷ []

unfoldable pub bindings_of : List Entry → List Binding
bindings_of [] = []
bindings_of (x ∷ xs) = x.binding ∷ bindings_of xs

-- where in the stack the innermost binding of a name is
unfoldable pub newest : List ℕ → List Entry → Option ℕ
newest w [] = None
newest w (x ∷ xs) = if bytes_eq x.binding.name w then Some (length xs) else newest w xs

-- each entry knows which one it hides
pub data Chained : List Entry → Type 0 where
  no_entry : Chained []
  one_entry : (x : Entry) (xs : List Entry) → x.hidden ≡ newest x.binding.name xs → Chained xs → Chained (x ∷ xs)

-- the place that the table has for a name, where its keys are read by their bytes
abbrev pub place_by : {K S : Type 0} → (K → List ℕ) → List ℕ → IndexMap K ℕ S → Option ℕ
place_by bytes name table = get_by (λ k. bytes_eq name (bytes k)) table

pub record Tied {K S : Type 0} (bytes : K → List ℕ) (table : IndexMap K ℕ S) (entries : List Entry) : Type 0 where
  pub latest : (w : List ℕ) → place_by bytes w table ≡ newest w (flip entries)
  pub chained : Chained (flip entries)
