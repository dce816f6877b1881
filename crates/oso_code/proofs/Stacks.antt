-- Lists that grow and shrink at their end, seen from there.
use Rattle.std.proofs.Common.{◌≡◌, ℕ, suc, ◌-◌, ◌<◌, ◌≤◌, List, [], ◌∷◌, ◌++◌, length, refl, ap, ◌∙◌, arith}
use Rattle.std.specs.Prelude.{reverse, slice_index_or, if◌then◌else◌}
use Rattle.std.proofs.lemmas.List.{reverse-append}
use Rattle.std.proofs.lemmas.Bool.{lt-ltb, le-ltb}
use Rattle.oso_code.specs.declared.checks.opened.Open.{Open}
use Rattle.oso_code.specs.Ranges.{reach}
use Rattle.oso_code.specs.Walk.{close}

pub reverse_end : {X : Type 0} (xs : List X) (x : X) → reverse (xs ++ x ∷ []) ≡ x ∷ reverse xs
reverse_end xs x = reverse-append xs (x ∷ [])

pub last_reach : (from : ℕ) (jumps : List ℕ) → 1 ≤ length jumps → slice_index_or jumps (length jumps - 1) 0 ≡ reach from jumps
last_reach from [] le = absurd (omega arith)
last_reach from (j ∷ []) le = refl
last_reach from (j ∷ k ∷ ks) le =
    let n : length (j ∷ k ∷ ks) - 1 ≡ suc (length (k ∷ ks) - 1) = omega arith in
    ap (λ i. slice_index_or (j ∷ k ∷ ks) i 0) n ∙ last_reach j (k ∷ ks) (omega arith)

-- a range that ends later stays, and one that does not goes
pub close_stays : (at : ℕ) (range : Open) (below : List Open) → at < range.end → close at (range ∷ below) ≡ range ∷ below
close_stays at range below lt = ap (λ b. if b then range ∷ below else close at below) (lt-ltb at range.end lt)

pub close_goes : (at : ℕ) (range : Open) (below : List Open) → range.end ≤ at → close at (range ∷ below) ≡ close at below
close_goes at range below le = ap (λ b. if b then range ∷ below else close at below) (le-ltb at range.end le)
