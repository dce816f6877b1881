-- Typings of sources.
use Rattle.osl_tree.specs.declared.tree.Tree.{Tree}
use Rattle.osl_tree.specs.Sources.{IsTreeOfSource}
use Rattle.osl_typed.specs.declared.shader.TypedShader.{TypedShader}
use Rattle.osl_typed.specs.FileTyping.{IsTypingOf}

-- The typed tree of some source: the typing of the tree that the tokens of the source spell.
pub record IsTypingOfSource (t : TypedShader) : Type 0 where
  pub tree : Tree
  pub of_source : IsTreeOfSource tree
  pub typing : IsTypingOf tree t
