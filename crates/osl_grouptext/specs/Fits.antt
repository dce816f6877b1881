-- Statements that have a text: what those that are read have.
use Rattle.std.specs.Prelude.{◌≡◌, ℕ, true, List}
use Rattle.std.specs.List.{list_all}
use Rattle.osl_value.specs.Plain.{IsPlain}
use Rattle.osl_valuetext.specs.Identifiers.{is_identifier}
use Rattle.osl_valuetext.specs.Spells.{is_text}
use Rattle.osl_network.specs.declared.statement.Statement.{Statement}
use Rattle.osl_network.specs.declared.statement.Statement.TheVariants as statements

abbrev pub IsName : List ℕ → Type 0
IsName name = is_identifier name ≡ true

-- names are names, and strings bytes, at most 512
abbrev pub Fits : Statement → Type 0
Fits (statements.Param name value lockgeom) = IsName name × (IsPlain value.ty value.nums value.texts × (list_all is_text value.texts ≡ true))
Fits (statements.Shader shader layer) = IsName shader × IsName layer
Fits (statements.Connect src_layer src_param dst_layer dst_param) = (IsName src_layer × IsName src_param) × (IsName dst_layer × IsName dst_param)
Fits (statements.Output layer param) = IsName layer × IsName param
