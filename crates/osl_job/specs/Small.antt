-- The small form of shaders that is built today: the shader that a list of tokens spells, if it spells one. OSL specification, sections "Shader declarations", "Expressions" and "Assignments".
use Rattle.std.specs.Prelude.{◌≡◌, ℕ, zero, suc, true, if◌then◌else◌, nat_le, List, [], ◌∷◌, ◌++◌, length, Option, Some, None, is_some, option_and_then, ℤ}
use Rattle.std.specs.List.{list_all}
use Rattle.osl_value.specs.Numbers.{fx_from_int}
use Rattle.osl_tree.specs.declared.token.Punct.TheVariants as p
use Rattle.osl_tree.specs.declared.terminal.Keyword.TheVariants as w
use Rattle.osl_tree.specs.declared.terminal.Terminal.{Terminal}
use Rattle.osl_tree.specs.declared.terminal.Terminal.TheVariants as m
use Rattle.osl_tree.specs.Lexeme.{Lexeme}
use Rattle.osl_tree.specs.Lexeme as l
use Rattle.osl_tree.specs.Parser.{Parser, ◌>>=◌, ◌>>◌, pure, eat, expect, first, rest, name_of, required, take_as}
use Rattle.osl_job.specs.declared.small.SumOp.{SumOp}
use Rattle.osl_job.specs.declared.small.SumOp.TheVariants.{Add, Sub}
use Rattle.osl_job.specs.declared.small.Expr.{Expr}
use Rattle.osl_job.specs.declared.small.Expr.TheVariants.{Const, Var, Apply}
use Rattle.osl_job.specs.declared.small.Param.{Param}
use Rattle.osl_job.specs.declared.small.Assignment.{Assignment}
use Rattle.osl_job.specs.declared.small.SmallShader.{SmallShader}
use Rattle.osl_job.specs.SmallNames.{param_named, output_named, fits}
use Rattle.osl_job.specs.Reader.{ended}

-- ---- one token

-- what f makes of the token that comes next, which is taken
abbrev pub token : {A : Type 0} → (Option Lexeme → Option A) → Parser A
token f = λ ts. required (f (first ts)) (rest ts)

-- what f makes of the name that comes next
abbrev pub named : {A : Type 0} → (List ℕ → Option A) → Parser A
named f = token (λ found. option_and_then f (name_of found))

-- a name of at most 32 bytes
abbrev pub short_name : List ℕ → Option (List ℕ)
short_name name = if nat_le (length name) 32 then Some name else None

-- such a name, which no parameter before it has
abbrev pub new_name : List Param → List ℕ → Option (List ℕ)
new_name before name = if is_some (param_named before name) then None else short_name name

abbrev pub float_of : Option Lexeme → Option ℤ
float_of None = None
float_of (Some (l.name bytes)) = None
float_of (Some (l.int n)) = None
float_of (Some (l.float units)) = Some units
float_of (Some (l.text bytes)) = None
float_of (Some (l.terminal mark)) = None

-- a float, or an int taken as a float
abbrev pub number_of : Option Lexeme → Option ℤ
number_of None = None
number_of (Some (l.name bytes)) = None
number_of (Some (l.int n)) = Some (fx_from_int n)
number_of (Some (l.float units)) = Some units
number_of (Some (l.text bytes)) = None
number_of (Some (l.terminal mark)) = None

-- ---- parameters

-- [ "output" ] "float" name "=" number
abbrev pub param : List Param → Parser Param
param before = do
  output ← eat (m.Keyword w.Output)
  expect (m.Keyword w.Float)
  name ← named (new_name before)
  expect (m.Punct p.Assign)
  value ← token number_of
  pure (record { name = name; output = output; default = Const value })

-- parameters behind the first, each behind a comma, so many more at most
unfoldable pub more_params : ℕ → List Param → Parser (List Param)
more_params zero params = pure params
more_params (suc room) params = do
  more ← eat (m.Punct p.Comma)
  if more then (do
    next ← param params
    more_params room (params ++ next ∷ [])) else pure params

-- param { "," param }, at most 16
abbrev pub parameters : Parser (List Param)
parameters = param [] >>= (λ first. more_params 15 (first ∷ []))

-- ---- sums

abbrev pub variable_or : Option ℕ → Option ℤ → Option Expr
variable_or (Some k) value = Some (Var k)
variable_or None (Some value) = Some (Const value)
variable_or None None = None

-- a parameter's name, or a float
abbrev pub operand_of : List Param → Option Lexeme → Option Expr
operand_of params found = variable_or (option_and_then (param_named params) (name_of found)) (float_of found)

abbrev pub sign_of : Terminal → Option SumOp
sign_of (m.Punct p.Plus) = Some Add
sign_of (m.Punct p.Minus) = Some Sub
sign_of (m.Punct _) = None
sign_of (m.Keyword _) = None

-- the sum with one operand more, where a sign was taken
abbrev pub joined : List Param → Expr → (Expr → Parser Expr) → Option SumOp → Parser Expr
joined params sum go None = pure sum
joined params sum go (Some op) = token (operand_of params) >>= (λ next. go (Apply op sum next))

-- operands behind the first, each behind a sign and joined to the left, so many more at most
unfoldable pub more_operands : List Param → ℕ → Expr → Parser Expr
more_operands params zero sum = pure sum
more_operands params (suc room) sum = take_as sign_of >>= joined params sum (more_operands params room)

-- operand { ( "+" | "-" ) operand }, at most 16 operands
abbrev pub sum : List Param → Parser Expr
sum params = token (operand_of params) >>= more_operands params 15

-- ---- the shader

-- output "=" sum ";"
abbrev pub assignment : List Param → Parser Assignment
assignment params = do
  target ← named (output_named params)
  expect (m.Punct p.Assign)
  value ← sum params
  expect (m.Punct p.Semicolon)
  pure (record { target = target; value = value })

-- assignments up to the closing brace, so many more at most
unfoldable pub more_assignments : List Param → ℕ → List Assignment → Parser (List Assignment)
more_assignments params zero body = expect (m.Punct p.CloseBrace) >> pure body
more_assignments params (suc room) body = do
  ends ← eat (m.Punct p.CloseBrace)
  if ends then pure body else (do
    next ← assignment params
    more_assignments params room (body ++ next ∷ []))

-- "shader" name "(" params ")" "{" { assignment } "}", at most 64 assignments
abbrev pub shader : Parser SmallShader
shader = do
  expect (m.Keyword w.Shader)
  name ← named short_name
  expect (m.Punct p.OpenParen)
  params ← parameters
  expect (m.Punct p.CloseParen)
  expect (m.Punct p.OpenBrace)
  body ← more_assignments params 64 []
  pure (record { name = name; params = params; body = body })

-- the shader that the tokens spell
abbrev pub small_shader : List Lexeme → Option SmallShader
small_shader tokens = ended (shader tokens)

-- the defaults of these parameters name no variable
abbrev pub AreTied : List Param → Type 0
AreTied params = (n : ℕ) → list_all (λ x. fits n x.default) params ≡ true
