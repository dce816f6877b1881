-- Constants, as metadata may hold.
use Rattle.std.specs.Prelude.{Bool, true, false}
use Rattle.osl_tree.specs.declared.expr.PrefixOp.{PrefixOp}
use Rattle.osl_tree.specs.declared.expr.PrefixOp.TheVariants.{Minus}
use Rattle.osl_typed.specs.FileTyping.{Constancy, Numeral, Constant, Neither}

-- a number, whose negation is a constant too
abbrev pub is_numeral : Constancy → Bool
is_numeral Numeral = true
is_numeral Constant = false
is_numeral Neither = false

abbrev pub is_minus : PrefixOp → Bool
is_minus Minus = true
is_minus _ = false
