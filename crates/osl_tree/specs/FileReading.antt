-- Reading structures, functions, shaders and whole sources.
use Rattle.std.specs.Prelude.{ℕ, zero, suc, max, Bool, if◌then◌else◌, List, [], ◌∷◌, ◌++◌, length, Option, Some, None}
use Rattle.osl_tree.specs.declared.token.Punct.TheVariants as p
use Rattle.osl_tree.specs.declared.terminal.Keyword.TheVariants as w
use Rattle.osl_tree.specs.declared.terminal.Terminal.TheVariants as m
use Rattle.osl_tree.specs.Lexeme.{Lexeme}
use Rattle.osl_tree.specs.declared.stmt.TypeName.{TypeName}
use Rattle.osl_tree.specs.declared.stmt.Stmt.{Stmt}
use Rattle.osl_tree.specs.declared.tree.Fields.{Fields}
use Rattle.osl_tree.specs.declared.tree.Structure.{Structure}
use Rattle.osl_tree.specs.declared.tree.Formal.{Formal}
use Rattle.osl_tree.specs.declared.tree.Function.{Function}
use Rattle.osl_tree.specs.declared.tree.Definition.{Definition}
use Rattle.osl_tree.specs.declared.tree.Definition.TheVariants as definitions
use Rattle.osl_tree.specs.declared.tree.Datum.{Datum}
use Rattle.osl_tree.specs.declared.tree.Param.{Param}
use Rattle.osl_value.specs.declared.shader_kind.ShaderKind.{ShaderKind}
use Rattle.osl_tree.specs.declared.tree.Shader.{Shader}
use Rattle.osl_tree.specs.declared.tree.Tree.{Tree}
use Rattle.osl_tree.specs.Terminals.{kind_of}
use Rattle.osl_tree.specs.Parser.{Read, Parser, ◌>>=◌, ◌>>◌, pure, refuse, peek, eat, expect, name, take_as, type_name, node, listed, trailed}
use Rattle.osl_tree.specs.StatementReading.{item, init, block, stmt}

-- The number of a rule is the room of its parts.

-- lines of fields, up to the closing brace
unfoldable pub fields_from : ℕ → List Fields → ℕ → Parser (List Fields × ℕ)
fields_from zero xs h = refuse
fields_from (suc n) xs h = do
  ends ← eat (m.Punct p.CloseBrace)
  if ends then pure (xs, h) else (do
    to ← type_name
    items ← listed item
    expect (m.Punct p.Semicolon)
    fields_from n (xs ++ record { ty = to.0; items = items.0 } ∷ []) (max h (max to.1 items.1)))

-- a structure after its first word
unfoldable pub structure : ℕ → Parser (Structure × ℕ)
structure room = do
  bytes ← name
  expect (m.Punct p.OpenBrace)
  xs ← (λ ts. fields_from (length ts) [] 1 ts)
  expect (m.Punct p.Semicolon)
  h ← node room xs.1
  pure (record { name = bytes; fields = xs.0 }, h)

-- after the word `output` that may be missing
abbrev pub formal_from : ℕ → Bool → Parser (Formal × ℕ)
formal_from room output = do
  to ← type_name
  x ← item
  h ← node room (max to.1 x.1)
  pure (record { output = output; ty = to.0; item = x.0 }, h)

unfoldable pub formal : ℕ → Parser (Formal × ℕ)
formal room = eat (m.Keyword w.Output) >>= formal_from room

unfoldable pub formals : ℕ → Parser (List Formal × ℕ)
formals room = do
  none ← peek (m.Punct p.CloseParen)
  if none then pure ([], 1) else listed (formal room)

-- the body of a function or a shader
unfoldable pub body : ℕ → Parser (List Stmt × ℕ)
body room = do
  expect (m.Punct p.OpenBrace)
  block (stmt room) room

-- a function's type, or `void`
unfoldable pub returns : Parser (Option TypeName × ℕ)
returns = do
  is_void ← eat (m.Keyword w.Void)
  if is_void then pure (None, 1) else (do to ← type_name; pure (Some to.0, to.1))

unfoldable pub function : ℕ → Parser (Function × ℕ)
function room = do
  to ← returns
  bytes ← name
  expect (m.Punct p.OpenParen)
  xs ← formals room
  expect (m.Punct p.CloseParen)
  ys ← body room
  h ← node room (max to.1 (max xs.1 ys.1))
  pure (record { result = to.0; name = bytes; formals = xs.0; body = ys.0 }, h)

unfoldable pub definition : ℕ → Parser (Definition × ℕ)
definition room = do
  is_structure ← eat (m.Keyword w.Struct)
  if is_structure then (do x ← structure room; pure (definitions.Structure x.0, x.1)) else (do
    x ← function room
    pure (definitions.Function x.0, x.1))

unfoldable pub datum : ℕ → Parser (Datum × ℕ)
datum room = do
  to ← type_name
  x ← item
  expect (m.Punct p.Assign)
  y ← init room
  h ← node room (max to.1 (max x.1 y.1))
  pure (record { ty = to.0; item = x.0; init = y.0 }, h)

unfoldable pub metadata : ℕ → Parser (List Datum × ℕ)
metadata room = do
  is_there ← eat (m.Punct p.OpenMeta)
  if is_there then (do
    xs ← trailed (m.Punct p.CloseBracket) (datum room)
    expect (m.Punct p.CloseBracket)
    expect (m.Punct p.CloseBracket)
    h ← node room xs.1
    pure (xs.0, h)) else pure ([], 1)

abbrev pub param_from : ℕ → Bool → Parser (Param × ℕ)
param_from room output = do
  to ← type_name
  x ← item
  expect (m.Punct p.Assign)
  y ← init room
  zs ← metadata room
  h ← node room (max (max to.1 x.1) (max y.1 zs.1))
  pure (record { output = output; ty = to.0; item = x.0; init = y.0; metadata = zs.0 }, h)

unfoldable pub param : ℕ → Parser (Param × ℕ)
param room = eat (m.Keyword w.Output) >>= param_from room

unfoldable pub params : ℕ → Parser (List Param × ℕ)
params room = do
  none ← peek (m.Punct p.CloseParen)
  if none then pure ([], 1) else trailed (m.Punct p.CloseParen) (param room)

-- a shader after its kind
unfoldable pub shader : ℕ → ShaderKind → Parser (Shader × ℕ)
shader room kind = do
  bytes ← name
  metas ← metadata room
  expect (m.Punct p.OpenParen)
  xs ← params room
  expect (m.Punct p.CloseParen)
  ys ← body room
  h ← node room (max metas.1 (max xs.1 ys.1))
  pure (record { kind = kind; name = bytes; metadata = metas.0; params = xs.0; body = ys.0 }, h)

-- definitions and the height of the highest, and the kind of the shader that follows
abbrev pub Definitions : Type 0
Definitions = (List Definition × ℕ) × ShaderKind

abbrev pub defined : Definition × ℕ → List Definition → ℕ → List Definition × ℕ
defined x xs h = (xs ++ x.0 ∷ [], max h x.1)

abbrev pub up_to_kind : (List Definition × ℕ) → Parser (Definition × ℕ) → (List Definition × ℕ → Parser Definitions) → Option ShaderKind → Parser Definitions
up_to_kind xs one go (Some kind) = pure (xs, kind)
up_to_kind xs one go None = do
  x ← one
  go (defined x xs.0 xs.1)

unfoldable pub definitions_from : ℕ → ℕ → List Definition × ℕ → Parser Definitions
definitions_from room zero xs = refuse
definitions_from room (suc n) xs = take_as kind_of >>= up_to_kind xs (definition room) (definitions_from room n)

-- the source: where there are no definitions, it is no node of its own
abbrev pub source_of : ℕ → List Definition × ℕ → Shader × ℕ → Parser (Tree × ℕ)
source_of room ([], h) x = pure (record { definitions = []; shader = x.0 }, x.1)
source_of room (d ∷ ds, h) x = do
  i ← node room (max h x.1)
  pure (record { definitions = d ∷ ds; shader = x.0 }, i)

unfoldable pub source : ℕ → Parser (Tree × ℕ)
source room = do
  xs ← (λ ts. definitions_from room (length ts) ([], 1) ts)
  x ← shader room xs.1
  source_of room xs.0 x

-- what was read, if nothing is left
abbrev pub none_left : Read (Tree × ℕ) → Option Tree
none_left None = None
none_left (Some (x, [])) = Some x.0
none_left (Some (x, t ∷ ts)) = None

-- The tree that spells these tokens: it is no higher than 256, and so its parts are no higher than 255.
unfoldable pub parsed : List Lexeme → Option Tree
parsed ts = none_left (source 255 ts)
