-- Calls that are numbered from 1, of which listed ones fail.
use Rattle.std.specs.Prelude.{ℕ, Bool, true, false, List, [], ◌∷◌, ◌==◌}
use Rattle.std.specs.List.{list_any}
use Rattle.osl_store.specs.Counts.{one_more}
use Rattle.osl_store.specs.declared.failures.Failures.{Failures}

-- the next call is listed
abbrev pub next_fails : Failures → Bool
next_fails calls = list_any (λ n. n == one_more calls.made) calls.listed.items

-- after one more call
abbrev pub after_call : Failures → Failures
after_call calls = record calls { made = one_more calls.made }

abbrev pub is_nil : List ℕ → Bool
is_nil [] = true
is_nil (n ∷ ns) = false

-- no call is listed
abbrev pub never_fails : Failures → Bool
never_fails calls = is_nil calls.listed.items
