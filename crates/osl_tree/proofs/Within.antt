-- The tokens of a source lie within it.
use Rattle.std.proofs.Common.{ℕ, ◌<◌, ◌≤◌, ◌-◌, List, length, drop, slice_range, arith}
use Rattle.std.proofs.lemmas.List.{length-take}
use Rattle.osl_tree.specs.declared.token.Token.{Token}
use Rattle.osl_tree.specs.Lexical.{Runs, here, gap, token}
use Rattle.osl_tree.specs.Laws.{TokensLieWithin}
use Rattle.osl_tree.specs.Sources.{LieWithin}
use Rattle.osl_tree.proofs.Texts.{token_some}

in_order : (bytes : List ℕ) (from to : ℕ) → 0 < length (slice_range bytes from to) → from ≤ to
in_order bytes from to some = omega (arith, length-take (to - from) (drop from bytes))

pub lie_within : (bytes : List ℕ) (at to : ℕ) (ts : List Token) → Runs bytes at ts to → LieWithin bytes ts
lie_within bytes at to _ (here _) = tt
lie_within bytes at to ts (gap _ on _ _ g r) = lie_within bytes on to ts r
lie_within bytes at to _ (token _ _ t ts d r) = (in_order bytes t.start t.end (token_some d.longest.is), d.longest.within, lie_within bytes t.end to ts r)

pub tokens_lie_within : TokensLieWithin
tokens_lie_within source tokens are = lie_within source 0 (length source) tokens are
