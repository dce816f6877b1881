-- A function value that reads the parts of a node, which are no higher than room.
use Rattle.std.specs.Prelude.{ℕ, ◌<◌, Result, List}
use Rattle.std.specs.declared.alloc.Global.{Global}
use denote.Ref.{MutBor}
use Rattle.osl_tree.specs.Lexeme.{Lexeme}
use Rattle.osl_tree.specs.Reading.{Found, expr}
use Rattle.osl_tree.specs.StatementReading.{Part, stmt}
use Rattle.osl_parse.specs.declared.error.SyntaxError.{SyntaxError}
use Rattle.osl_parse.specs.Reads.{Reads}

-- expressions
pub record Nests (room : ℕ) (pre : Global → MutBor (List Lexeme) → ℕ → ℕ → Type 0)
    (post : Global → MutBor (List Lexeme) → ℕ → ℕ → Result Found SyntaxError → MutBor (List Lexeme) → Type 0) : Type 0 where
  pub small : room < 256
  pub callable : (alloc : Global) (old : MutBor (List Lexeme)) (level : ℕ) → pre alloc old room level
  pub reads : (alloc : Global) (old new : MutBor (List Lexeme)) (level : ℕ) (r : Result Found SyntaxError) → post alloc old room level r new
      → Reads (expr room level old.now) r new.now

-- statements
pub record NestsStmt (room : ℕ) (pre : Global → MutBor (List Lexeme) → ℕ → Type 0)
    (post : Global → MutBor (List Lexeme) → ℕ → Result Part SyntaxError → MutBor (List Lexeme) → Type 0) : Type 0 where
  pub small : room < 256
  pub callable : (alloc : Global) (old : MutBor (List Lexeme)) → pre alloc old room
  pub reads : (alloc : Global) (old new : MutBor (List Lexeme)) (r : Result Part SyntaxError) → post alloc old room r new
      → Reads (stmt room old.now) r new.now
