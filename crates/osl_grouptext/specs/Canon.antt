-- The canonical text of statements: a line for each, with one space between words.
use Rattle.std.specs.Prelude.{codes, ℕ, List, [], ◌∷◌, ◌++◌}
use Rattle.std.specs.List.{flat_map}
use Rattle.osl_lines.specs.Lines.{line_text}
use Rattle.osl_network.specs.declared.statement.Statement.{Statement}
use Rattle.osl_grouptext.specs.Statements.{statement_words}

abbrev pub statement_text : Statement → List ℕ
statement_text statement = line_text (statement_words statement ++ codes ";" ∷ [])

unfoldable pub group_text : List Statement → List ℕ
group_text statements = flat_map statement_text statements
