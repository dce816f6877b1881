-- The grammar's structures, functions, shaders and whole sources; and which tree spells which tokens.
use Rattle.std.specs.Prelude.{◌≡◌, ℕ, ◌+◌, ◌≤◌, max, List, [], ◌∷◌, ◌++◌, Bool, true, false, Option, Some, None}
use Rattle.osl_tree.specs.declared.token.Punct.TheVariants as p
use Rattle.osl_tree.specs.declared.token.Token.{Token}
use Rattle.osl_tree.specs.declared.terminal.Keyword.TheVariants as w
use Rattle.osl_tree.specs.declared.terminal.Terminal.{Terminal}
use Rattle.osl_tree.specs.Lexeme.{Lexeme}
use Rattle.osl_tree.specs.Lexeme as l
use Rattle.osl_tree.specs.declared.stmt.TypeName.{TypeName}
use Rattle.osl_tree.specs.declared.stmt.Item.{Item}
use Rattle.osl_tree.specs.declared.stmt.Init.{Init}
use Rattle.osl_tree.specs.declared.stmt.Stmt.{Stmt}
use Rattle.osl_tree.specs.declared.tree.Fields.{Fields}
use Rattle.osl_tree.specs.declared.tree.Structure.{Structure}
use Rattle.osl_tree.specs.declared.tree.Formal.{Formal}
use Rattle.osl_tree.specs.declared.tree.Function.{Function}
use Rattle.osl_tree.specs.declared.tree.Definition.{Definition}
use Rattle.osl_tree.specs.declared.tree.Definition.TheVariants as definitions
use Rattle.osl_tree.specs.declared.tree.Datum.{Datum}
use Rattle.osl_tree.specs.declared.tree.Param.{Param}
use Rattle.osl_value.specs.declared.shader_kind.ShaderKind.{ShaderKind}
use Rattle.osl_tree.specs.declared.tree.Shader.{Shader}
use Rattle.osl_tree.specs.declared.tree.Tree.{Tree}
use Rattle.osl_tree.specs.Terminals.{sign, key, kind_of}
use Rattle.osl_tree.specs.Lexemes.{lexemes}
use Rattle.osl_tree.specs.Grammar.{IsType}
use Rattle.osl_tree.specs.Statements.{AreListed, IsItem, IsInit, IsBlock}

-- ---- structures

-- Fields of one type belong to the node of their structure.
pub data AreFields : List Fields → List Lexeme → ℕ → Type 0 where
  end : AreFields [] [] 1
  more : {h i j : ℕ} {to : TypeName} {items : List Item} {xs : List Fields} {a b c : List Lexeme}
      → IsType to a h → AreListed IsItem items b i → AreFields xs c j
      → AreFields (record { ty = to; items = items } ∷ xs) (a ++ b ++ sign p.Semicolon ∷ c) (max h (max i j))

pub data IsStructure : Structure → List Lexeme → ℕ → Type 0 where
  struct : {h : ℕ} {xs : List Fields} {a : List Lexeme} (name : List ℕ)
      → AreFields xs a h
      → IsStructure (record { name = name; fields = xs })
      (key w.Struct ∷ l.name name ∷ sign p.OpenBrace ∷ a ++ sign p.CloseBrace ∷ sign p.Semicolon ∷ []) (h + 1)

-- ---- functions

-- a word `output` that may be missing
abbrev pub output_word : Bool → List Lexeme
output_word true = key w.Output ∷ []
output_word false = []

pub data IsFormal : Formal → List Lexeme → ℕ → Type 0 where
  formal : {h i : ℕ} {to : TypeName} {x : Item} {a b : List Lexeme} (output : Bool)
      → IsType to a h → IsItem x b i
      → IsFormal (record { output = output; ty = to; item = x }) (output_word output ++ a ++ b) (max h i + 1)

pub data AreFormals : List Formal → List Lexeme → ℕ → Type 0 where
  none : AreFormals [] [] 1
  some : {h : ℕ} {xs : List Formal} {a : List Lexeme} → AreListed IsFormal xs a h → AreFormals xs a h

pub data IsResult : Option TypeName → List Lexeme → ℕ → Type 0 where
  void : IsResult None (key w.Void ∷ []) 1
  of_type : {h : ℕ} {to : TypeName} {a : List Lexeme} → IsType to a h → IsResult (Some to) a h

pub data IsFunction : Function → List Lexeme → ℕ → Type 0 where
  function : {h i j : ℕ} {to : Option TypeName} {xs : List Formal} {body : List Stmt} {a b c : List Lexeme} (name : List ℕ)
      → IsResult to a h → AreFormals xs b i → IsBlock body c j
      → IsFunction (record { result = to; name = name; formals = xs; body = body })
      (a ++ l.name name ∷ sign p.OpenParen ∷ b ++ sign p.CloseParen ∷ c) (max h (max i j) + 1)

pub data IsDefinition : Definition → List Lexeme → ℕ → Type 0 where
  structure : {h : ℕ} {x : Structure} {a : List Lexeme} → IsStructure x a h → IsDefinition (definitions.Structure x) a h
  function : {h : ℕ} {x : Function} {a : List Lexeme} → IsFunction x a h → IsDefinition (definitions.Function x) a h

-- ---- shaders

-- one or more, with commas between them, and perhaps one after the last
pub data AreTrailed {A : Type 0} (Is : A → List Lexeme → ℕ → Type 0) : List A → List Lexeme → ℕ → Type 0 where
  bare : {h : ℕ} {xs : List A} {a : List Lexeme} → AreListed Is xs a h → AreTrailed Is xs a h
  with_comma : {h : ℕ} {xs : List A} {a : List Lexeme} → AreListed Is xs a h → AreTrailed Is xs (a ++ sign p.Comma ∷ []) h

pub data IsDatum : Datum → List Lexeme → ℕ → Type 0 where
  datum : {h i j : ℕ} {to : TypeName} {x : Item} {y : Init} {a b c : List Lexeme}
      → IsType to a h → IsItem x b i → IsInit y c j
      → IsDatum (record { ty = to; item = x; init = y }) (a ++ b ++ sign p.Assign ∷ c) (max h (max i j) + 1)

-- metadata, or nothing
pub data IsMetadata : List Datum → List Lexeme → ℕ → Type 0 where
  none : IsMetadata [] [] 1
  some : {h : ℕ} {xs : List Datum} {a : List Lexeme}
      → AreTrailed IsDatum xs a h
      → IsMetadata xs (sign p.OpenMeta ∷ a ++ sign p.CloseBracket ∷ sign p.CloseBracket ∷ []) (h + 1)

pub data IsParam : Param → List Lexeme → ℕ → Type 0 where
  param : {h i j k : ℕ} {to : TypeName} {x : Item} {y : Init} {zs : List Datum} {a b c d : List Lexeme} (output : Bool)
      → IsType to a h → IsItem x b i → IsInit y c j → IsMetadata zs d k
      → IsParam (record { output = output; ty = to; item = x; init = y; metadata = zs })
      (output_word output ++ a ++ b ++ sign p.Assign ∷ c ++ d) (max (max h i) (max j k) + 1)

pub data AreParams : List Param → List Lexeme → ℕ → Type 0 where
  none : AreParams [] [] 1
  some : {h : ℕ} {xs : List Param} {a : List Lexeme} → AreTrailed IsParam xs a h → AreParams xs a h

pub data IsShader : Shader → List Lexeme → ℕ → Type 0 where
  shader : {h i j : ℕ} {metas : List Datum} {xs : List Param} {body : List Stmt} {a b c : List Lexeme} (terminal : Terminal) (kind : ShaderKind) (name : List ℕ)
      → kind_of terminal ≡ Some kind
      → IsMetadata metas a h → AreParams xs b i → IsBlock body c j
      → IsShader (record { kind = kind; name = name; metadata = metas; params = xs; body = body })
      (l.terminal terminal ∷ l.name name ∷ a ++ sign p.OpenParen ∷ b ++ sign p.CloseParen ∷ c) (max h (max i j) + 1)

-- ---- sources

-- definitions, one after the other
pub data AreDefinitions : List Definition → List Lexeme → ℕ → Type 0 where
  end : AreDefinitions [] [] 1
  more : {h i : ℕ} {x : Definition} {xs : List Definition} {a b : List Lexeme}
      → IsDefinition x a h → AreDefinitions xs b i
      → AreDefinitions (x ∷ xs) (a ++ b) (max h i)

-- A source of one shader alone is no node of its own.
pub data IsTree : Tree → List Lexeme → ℕ → Type 0 where
  shader_alone : {h : ℕ} {x : Shader} {a : List Lexeme}
      → IsShader x a h → IsTree (record { definitions = []; shader = x }) a h
  with_definitions : {h i j : ℕ} {d : Definition} {ds : List Definition} {x : Shader} {a b c : List Lexeme}
      → IsDefinition d a h → AreDefinitions ds b i → IsShader x c j
      → IsTree (record { definitions = d ∷ ds; shader = x }) (a ++ b ++ c) (max h (max i j) + 1)

abbrev pub max_height : ℕ
max_height = 256

-- The tree spells these tokens of the source, and it is no higher than 256.
pub record Spells (tree : Tree) (source : List ℕ) (tokens : List Token) : Type 0 where
  pub height : ℕ
  pub is : IsTree tree (lexemes source tokens) height
  pub low : height ≤ max_height
