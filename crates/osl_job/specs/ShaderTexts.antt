-- What a source's text is.
use Rattle.std.specs.Prelude.{◌≡◌, ℕ, List, Option, Some, None}
use Rattle.osl_tree.specs.declared.token.Token.{Token}
use Rattle.osl_tree.specs.declared.tree.Tree.{Tree}
use Rattle.osl_tree.specs.Lexical.{Tokens}
use Rattle.osl_tree.specs.Lexemes.{lexemes}
use Rattle.osl_tree.specs.Files.{Spells}
use Rattle.osl_typed.specs.declared.shader.TypedShader.{TypedShader}
use Rattle.osl_job.specs.declared.small.SmallShader.{SmallShader}
use Rattle.osl_typed.specs.FileTyping.{IsTypingOf}
use Rattle.osl_job.specs.declared.shader_text.ShaderText.{ShaderText}
use Rattle.osl_job.specs.declared.shader_text.ShaderText.TheVariants.{NoTokens, NoTree, NoTyping, NotBuilt, Shader}
use Rattle.osl_job.specs.Small.{small_shader}

-- a source that has a typing is built where its tokens spell a shader of the small form
abbrev pub built : Option SmallShader → ShaderText
built None = NotBuilt
built (Some shader) = Shader shader

-- The text has no tokens; or it has tokens, and no tree spells them; or a tree spells its tokens, and has no typing; or the tree has one.
pub data IsShaderText (text : List ℕ) : ShaderText → Type 0 where
  no_tokens : ((tokens : List Token) → Tokens text tokens → ⊥) → IsShaderText text NoTokens
  no_tree : (tokens : List Token) → Tokens text tokens → ((tree : Tree) → Spells tree text tokens → ⊥) → IsShaderText text NoTree
  no_typing : (tokens : List Token) (tree : Tree) → Tokens text tokens → Spells tree text tokens → ((t : TypedShader) → IsTypingOf tree t → ⊥) → IsShaderText text NoTyping
  has_typing : (tokens : List Token) (tree : Tree) (t : TypedShader) (source : ShaderText)
      → Tokens text tokens → Spells tree text tokens → IsTypingOf tree t → source ≡ built (small_shader (lexemes text tokens)) → IsShaderText text source

-- a fact of the shader, where it is built
abbrev pub IfShader : ShaderText → (SmallShader → Type 0) → Type 0
IfShader NoTokens P = Unit {0}
IfShader NoTree P = Unit {0}
IfShader NoTyping P = Unit {0}
IfShader NotBuilt P = Unit {0}
IfShader (Shader shader) P = P shader
