-- A loop that writes an operation's floats, one component after another.
use Rattle.std.proofs.Common.{◌≡◌, ℕ, zero, suc, ◌+◌, ◌<◌, ◌≤◌, ℤ, pos, List, [], ◌∷◌, length, map, set, refl, ◌∙◌, arith}
use Rattle.std.specs.Prelude.{slice_index_or}
use Rattle.std.proofs.lemmas.List.{length-set}
use Rattle.std.proofs.lemmas.List.Edits.{fill_by_more}
use Rattle.std.proofs.lemmas.List.FromFn.{fill_by_all}
use Rattle.osl_value.specs.Geometry.{number_at, component, each}
use Rattle.osl_value.specs.Numbers.{Numeric, Never, One, Two, Three, value_at}

-- the operation's float at place k
abbrev pub float_at : Numeric → List (List ℤ) → ℕ → ℤ
float_at f args k = value_at f (λ i. component (slice_index_or args i []) k)

-- of n floats the first k are written
pub record IsWritten (f : Numeric) (args : List (List ℤ)) (k n : ℕ) (out : List ℤ) : Type 0 where
  pub as_many : length out ≡ n
  pub first : (j : ℕ) → j < k → number_at out j ≡ float_at f args j

components_at : (args : List (List ℤ)) (k i : ℕ) → number_at (map (λ xs. component xs k) args) i ≡ component (slice_index_or args i []) k
components_at [] k i = refl
components_at (xs ∷ args) k zero = refl
components_at (xs ∷ args) k (suc i) = components_at args k i

-- the operation's value at the components of place k
value_of : (f : Numeric) (args : List (List ℤ)) (k : ℕ) → value_at f (number_at (map (λ xs. component xs k) args)) ≡ float_at f args k
value_of Never args k = refl
value_of (One f) args k = λ i. f (components_at args k 0 i)
value_of (Two f) args k = λ i. f (components_at args k 0 i) (components_at args k 1 i)
value_of (Three f) args k = λ i. f (components_at args k 0 i) (components_at args k 1 i) (components_at args k 2 i)

pub written_more : (f : Numeric) (args : List (List ℤ)) (k n : ℕ) (out : List ℤ) (x : ℤ) → IsWritten f args k n out → k < n
    → x ≡ value_at f (number_at (map (λ xs. component xs k) args)) → IsWritten f args (k + 1) n (set out k x)
written_more f args k n out x w b e =
    let many : length out ≡ n = w.as_many in
    let more : IsWritten f args (k + 1) n (set out k (float_at f args k)) = record {
      as_many = length-set out k (float_at f args k) ∙ many;
      first = fill_by_more (float_at f args) out k (pos 0) (omega arith) w.first;
    } in
    rw (e ∙ value_of f args k) more

pub written_all : (f : Numeric) (args : List (List ℤ)) (k n : ℕ) (out : List ℤ) → IsWritten f args k n out → n ≤ k → out ≡ each n f args
written_all f args k n out w h = fill_by_all (float_at f args) out n (pos 0) w.as_many (λ j b. w.first j (omega arith))

pub none_written : (f : Numeric) (args : List (List ℤ)) (n : ℕ) (out : List ℤ) → length out ≡ n → IsWritten f args 0 n out
none_written f args n out e = record { as_many = e; first = λ j b. absurd (omega arith) }

-- a list of one number, and another number in its place
pub set_alone : (xs : List ℤ) (x : ℤ) → length xs ≡ 1 → set xs 0 x ≡ x ∷ []
set_alone [] x h = absurd (omega arith)
set_alone (y ∷ []) x h = refl
set_alone (y ∷ (z ∷ xs)) x h = absurd (omega arith)
