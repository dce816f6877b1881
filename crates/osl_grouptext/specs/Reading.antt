-- A group's text: its statements, or the first that is not in the grammar.
use Rattle.std.specs.Prelude.{◌≡◌, codes, ℕ, ◌+◌, Bool, if◌then◌else◌, List, [], ◌∷◌, length, ◌==◌, Option, None, Some, Result, Ok, Err}
use Rattle.std.specs.List.{slice_split}
use Rattle.std.specs.Str.{bytes_eq}
use Rattle.osl_valuetext.specs.Words.{Line}
use Rattle.osl_network.specs.declared.statement.Statement.{Statement}
use Rattle.osl_grouptext.specs.declared.error.GroupTextError.{GroupTextError}
use Rattle.osl_grouptext.specs.declared.error.GroupTextError.TheVariants as errors
use Rattle.osl_grouptext.specs.Pieces.{words}
use Rattle.osl_grouptext.specs.Statements.{statement_at}

abbrev pub is_semicolon : List ℕ → Bool
is_semicolon word = bytes_eq word (codes ";")

-- a statement before others, where those are in the grammar
abbrev pub with_statement : Statement → Result (List Statement) ℕ → Result (List Statement) ℕ
with_statement statement (Ok more) = Ok (statement ∷ more)
with_statement statement (Err number) = Err number

abbrev pub onto : ℕ → Option Statement → Result (List Statement) ℕ → Result (List Statement) ℕ
onto number None rest = Err number
onto number (Some statement) rest = with_statement statement rest

-- the statements of these words from that of a number on, or the number of the first that is not in the grammar; what is after the last `;` has no words
unfoldable pub reads : ℕ → List Line → Result (List Statement) ℕ
reads number [] = Ok []
reads number (last ∷ []) = if length last == 0 then Ok [] else Err number
reads number (statement ∷ next ∷ rest) = onto number (statement_at statement) (reads (number + 1) (next ∷ rest))

-- the statements of a text, or the number of the first that is not in the grammar, counted from 1
unfoldable pub reading : List ℕ → Result (List Statement) ℕ
reading text = reads 1 (slice_split is_semicolon (words text))

-- What a function of the code returned is that, unless memory ran out.
abbrev pub Fails : GroupTextError → Result (List Statement) ℕ → Type 0
Fails errors.Memory read = Unit {0}
Fails (errors.Syntax number) read = read ≡ Err number
