-- A token with its text, as the grammar sees it.
use Rattle.std.specs.Prelude.{ℕ, List, ℤ}
use Rattle.osl_tree.specs.declared.terminal.Terminal.{Terminal}

pub data Lexeme : Type 0 where
  -- a word that is not reserved
  name : List ℕ → Lexeme
  int : ℤ → Lexeme
  -- a float's units
  float : ℤ → Lexeme
  -- a string: the bytes for which it stands
  text : List ℕ → Lexeme
  -- a punctuation mark or a keyword
  terminal : Terminal → Lexeme
