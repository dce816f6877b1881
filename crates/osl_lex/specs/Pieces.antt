-- What the lexer finds at a place of a source.
use Rattle.std.specs.Prelude.{ℕ, List, Result, Ok, Err}
use Rattle.osl_tree.specs.declared.token.LexKind.{LexKind}
use Rattle.osl_tree.specs.Lexical.{IsGap, IsTokenAt, IsFault, FirstBad}
use Rattle.osl_lex.specs.declared.piece.Piece.{Piece}
use Rattle.osl_lex.specs.declared.piece.Piece.TheVariants as pieces
use Rattle.osl_lex.specs.declared.error.LexError.{LexError}
use Rattle.osl_lex.specs.declared.error.LexError.TheVariants as errors

-- it begins there, and ends here
abbrev pub IsPiece : List ℕ → ℕ → Piece → Type 0
IsPiece bytes at (pieces.Gap to) = IsGap bytes at to
IsPiece bytes at (pieces.Token kind to) = IsTokenAt bytes at (record { kind = kind; start = at; end = to })

abbrev pub StandsAt : List ℕ → ℕ → Result Piece LexKind → Type 0
StandsAt bytes at (Ok piece) = IsPiece bytes at piece
StandsAt bytes at (Err kind) = IsFault bytes at kind

-- The error is the first fault, unless memory was refused.
abbrev pub IsFirstBad : List ℕ → LexError → Type 0
IsFirstBad bytes errors.Memory = Unit {0}
IsFirstBad bytes (errors.Bad kind at) = FirstBad bytes kind at
