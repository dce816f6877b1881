use Rattle.std.proofs.Common.{◌≡◌, ℕ, suc, ◌<◌, true, List, [], ◌∷◌, refl, Fits, w8, rules}
use Rattle.std.specs.Prelude.{slice_index}
use Rattle.std.proofs.lemmas.Bool.{and_from, lt-ltb}
use Rattle.osl_valuetext.specs.Spells.{are_bytes}
use Rattle.osl_valuetext.proofs.laws.are_bytes.Goals as goal

below : (c : ℕ) → Fits w8 c → c < 256
below c fits = search rules

each_below : (bytes : List ℕ) → ((k : ℕ) → Fits w8 (slice_index bytes k)) → are_bytes bytes ≡ true
each_below [] fits = refl
each_below (c ∷ cs) fits = and_from _ _ (lt-ltb c 256 (below c (fits 0))) (each_below cs (λ k. fits (suc k)))

pub returns : goal.returns
returns c = each_below c.args.bytes.now c.type_inv.bytes
