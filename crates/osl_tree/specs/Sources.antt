-- What tokens and trees have to do with their source.
use Rattle.std.specs.Prelude.{ℕ, ◌≤◌, List, [], ◌∷◌, length}
use Rattle.osl_tree.specs.declared.token.Token.{Token}
use Rattle.osl_tree.specs.declared.tree.Tree.{Tree}
use Rattle.osl_tree.specs.Lexical.{Tokens}
use Rattle.osl_tree.specs.Files.{Spells}

-- tokens whose places are within the source
abbrev pub LieWithin : List ℕ → List Token → Type 0
LieWithin source [] = Unit {0}
LieWithin source (t ∷ ts) = (t.start ≤ t.end) × (t.end ≤ length source) × LieWithin source ts

-- the tree of some source: it spells the source's tokens, and so it is no higher than 256
pub record IsTreeOfSource (tree : Tree) : Type 0 where
  pub source : List ℕ
  pub tokens : List Token
  pub lexed : Tokens source tokens
  pub spelled : Spells tree source tokens
