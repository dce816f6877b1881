-- What holds of sources, tokens and trees.
use Rattle.std.specs.Prelude.{◌≡◌, ℕ, List, Some}
use Rattle.osl_tree.specs.declared.token.Token.{Token}
use Rattle.osl_tree.specs.declared.tree.Tree.{Tree}
use Rattle.osl_tree.specs.Lexical.{Tokens}
use Rattle.osl_tree.specs.Lexemes.{lexemes}
use Rattle.osl_tree.specs.Files.{Spells}
use Rattle.osl_tree.specs.FileReading.{parsed}
use Rattle.osl_tree.specs.Sources.{LieWithin}

-- at most one tree spells a list of tokens
abbrev pub OneTree : Type 0
OneTree = (x y : Tree) (source : List ℕ) (tokens : List Token) → Spells x source tokens → Spells y source tokens → x ≡ y

-- what is spelled is read
abbrev pub SpelledIsRead : Type 0
SpelledIsRead = (tree : Tree) (source : List ℕ) (tokens : List Token) → Spells tree source tokens → parsed (lexemes source tokens) ≡ Some tree

-- what is read is spelled
abbrev pub ReadIsSpelled : Type 0
ReadIsSpelled = (tree : Tree) (source : List ℕ) (tokens : List Token) → parsed (lexemes source tokens) ≡ Some tree → Spells tree source tokens

-- the tokens of a source lie within it
abbrev pub TokensLieWithin : Type 0
TokensLieWithin = (source : List ℕ) (tokens : List Token) → Tokens source tokens → LieWithin source tokens
