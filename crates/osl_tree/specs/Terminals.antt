-- What terminals stand for.
use Rattle.std.specs.Prelude.{ℕ, Option, Some, None}
use Rattle.osl_tree.specs.declared.token.Punct.{Punct}
use Rattle.osl_tree.specs.declared.token.Punct.TheVariants as p
use Rattle.osl_tree.specs.declared.terminal.Keyword.{Keyword}
use Rattle.osl_tree.specs.declared.terminal.Keyword.TheVariants as w
use Rattle.osl_tree.specs.declared.terminal.Terminal.{Terminal}
use Rattle.osl_tree.specs.declared.terminal.Terminal.TheVariants as m
use Rattle.osl_tree.specs.Lexeme.{Lexeme}
use Rattle.osl_tree.specs.Lexeme as l
use Rattle.osl_tree.specs.declared.expr.BaseType.{BaseType}
use Rattle.osl_tree.specs.declared.expr.BaseType.TheVariants as bases
use Rattle.osl_tree.specs.declared.expr.PrefixOp.{PrefixOp}
use Rattle.osl_tree.specs.declared.expr.PrefixOp.TheVariants as prefixes
use Rattle.osl_tree.specs.declared.expr.PostfixOp.{PostfixOp}
use Rattle.osl_tree.specs.declared.expr.PostfixOp.TheVariants as postfixes
use Rattle.osl_tree.specs.declared.expr.BinaryOp.{BinaryOp}
use Rattle.osl_tree.specs.declared.expr.BinaryOp.TheVariants as binaries
use Rattle.osl_tree.specs.declared.expr.AssignOp.{AssignOp}
use Rattle.osl_tree.specs.declared.expr.AssignOp.TheVariants as assigns
use Rattle.osl_value.specs.declared.shader_kind.ShaderKind.{ShaderKind}
use Rattle.osl_value.specs.declared.shader_kind.ShaderKind.TheVariants as shaders

-- a punctuation mark, and a keyword, as a token
abbrev pub sign : Punct → Lexeme
sign mark = l.terminal (m.Punct mark)

abbrev pub key : Keyword → Lexeme
key word = l.terminal (m.Keyword word)

-- the types of one word
abbrev pub base_of : Terminal → Option BaseType
base_of (m.Keyword w.Int) = Some bases.Int
base_of (m.Keyword w.Float) = Some bases.Float
base_of (m.Keyword w.Color) = Some bases.Color
base_of (m.Keyword w.Point) = Some bases.Point
base_of (m.Keyword w.Vector) = Some bases.Vector
base_of (m.Keyword w.Normal) = Some bases.Normal
base_of (m.Keyword w.Matrix) = Some bases.Matrix
base_of (m.Keyword w.Str) = Some bases.Str
base_of (m.Keyword _) = None
base_of (m.Punct _) = None

abbrev pub prefix_of : Terminal → Option PrefixOp
prefix_of (m.Punct p.Minus) = Some prefixes.Minus
prefix_of (m.Punct p.Plus) = Some prefixes.Plus
prefix_of (m.Punct p.Tilde) = Some prefixes.Complement
prefix_of (m.Punct p.Bang) = Some prefixes.Not
prefix_of (m.Keyword w.Not) = Some prefixes.Not
prefix_of (m.Punct p.Increment) = Some prefixes.Increment
prefix_of (m.Punct p.Decrement) = Some prefixes.Decrement
prefix_of (m.Punct _) = None
prefix_of (m.Keyword _) = None

abbrev pub postfix_of : Terminal → Option PostfixOp
postfix_of (m.Punct p.Increment) = Some postfixes.Increment
postfix_of (m.Punct p.Decrement) = Some postfixes.Decrement
postfix_of (m.Punct _) = None
postfix_of (m.Keyword _) = None

abbrev pub binary_of : Terminal → Option BinaryOp
binary_of (m.Punct p.OrOr) = Some binaries.Or
binary_of (m.Keyword w.Or) = Some binaries.Or
binary_of (m.Punct p.AndAnd) = Some binaries.And
binary_of (m.Keyword w.And) = Some binaries.And
binary_of (m.Punct p.Or) = Some binaries.BitOr
binary_of (m.Punct p.Xor) = Some binaries.BitXor
binary_of (m.Punct p.And) = Some binaries.BitAnd
binary_of (m.Punct p.Equal) = Some binaries.Equal
binary_of (m.Punct p.NotEqual) = Some binaries.NotEqual
binary_of (m.Punct p.Less) = Some binaries.Less
binary_of (m.Punct p.LessEqual) = Some binaries.LessEqual
binary_of (m.Punct p.Greater) = Some binaries.Greater
binary_of (m.Punct p.GreaterEqual) = Some binaries.GreaterEqual
binary_of (m.Punct p.ShiftLeft) = Some binaries.ShiftLeft
binary_of (m.Punct p.ShiftRight) = Some binaries.ShiftRight
binary_of (m.Punct p.Plus) = Some binaries.Add
binary_of (m.Punct p.Minus) = Some binaries.Subtract
binary_of (m.Punct p.Star) = Some binaries.Multiply
binary_of (m.Punct p.Slash) = Some binaries.Divide
binary_of (m.Punct p.Percent) = Some binaries.Remainder
binary_of (m.Punct _) = None
binary_of (m.Keyword _) = None

-- How tightly a part holds: 0 an expression, 1 one that is no assignment, 2 one without `?` at its top, and then the levels of operators from the loosest; 12 stands for a unary expression.
abbrev pub level : BinaryOp → ℕ
level binaries.Or = 2
level binaries.And = 3
level binaries.BitOr = 4
level binaries.BitXor = 5
level binaries.BitAnd = 6
level binaries.Equal = 7
level binaries.NotEqual = 7
level binaries.Less = 8
level binaries.LessEqual = 8
level binaries.Greater = 8
level binaries.GreaterEqual = 8
level binaries.ShiftLeft = 9
level binaries.ShiftRight = 9
level binaries.Add = 10
level binaries.Subtract = 10
level binaries.Multiply = 11
level binaries.Divide = 11
level binaries.Remainder = 11

abbrev pub assign_of : Terminal → Option AssignOp
assign_of (m.Punct p.Assign) = Some assigns.Set
assign_of (m.Punct p.PlusAssign) = Some assigns.Add
assign_of (m.Punct p.MinusAssign) = Some assigns.Subtract
assign_of (m.Punct p.StarAssign) = Some assigns.Multiply
assign_of (m.Punct p.SlashAssign) = Some assigns.Divide
assign_of (m.Punct p.ShiftLeftAssign) = Some assigns.ShiftLeft
assign_of (m.Punct p.ShiftRightAssign) = Some assigns.ShiftRight
assign_of (m.Punct p.AndAssign) = Some assigns.BitAnd
assign_of (m.Punct p.OrAssign) = Some assigns.BitOr
assign_of (m.Punct p.XorAssign) = Some assigns.BitXor
assign_of (m.Punct _) = None
assign_of (m.Keyword _) = None

abbrev pub kind_of : Terminal → Option ShaderKind
kind_of (m.Keyword w.Surface) = Some shaders.Surface
kind_of (m.Keyword w.Displacement) = Some shaders.Displacement
kind_of (m.Keyword w.Volume) = Some shaders.Volume
kind_of (m.Keyword w.Shader) = Some shaders.Shader
kind_of (m.Keyword _) = None
kind_of (m.Punct _) = None
