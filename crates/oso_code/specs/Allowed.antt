-- The forms of arguments as the code names them.
use Rattle.osl_value.specs.Forms as F
use Rattle.oso_code.specs.declared.checks.form.Form.{Form}
use Rattle.oso_code.specs.declared.checks.form.Form.TheVariants.{Int, Float, Number, Floats, Triple, Point, Normal, Matrix, Str, Closure, Factor}

abbrev pub form_of : Form → F.Form
form_of Int = F.AnInt
form_of Float = F.AFloat
form_of Number = F.ANumber
form_of Floats = F.Floats
form_of Triple = F.ATriple
form_of Point = F.APoint
form_of Normal = F.ANormal
form_of Matrix = F.AMatrix
form_of Str = F.AString
form_of Closure = F.AClosure
form_of Factor = F.AFactor
