-- What the generator promises of the code that it adds: for an expression, and for a statement.
use Rattle.std.specs.Prelude.{ℕ, ◌<◌, ◌+◌, Bool, List, [], ◌∷◌, length, IsTrue}
use Rattle.osl_overload.specs.declared.signature.Kind.{Kind}
use Rattle.osl_typed.specs.declared.expr.TypedExpr.{TypedExpr}
use Rattle.osl_typed.specs.declared.stmt.TypedStmt.{TypedStmt}
use Rattle.osl_typed.specs.Expressions.{eval}
use Rattle.osl_typed.specs.Frames.{leaves_of}
use Rattle.osl_typed.specs.Sizes.{weight, weight_done}
use Rattle.osl_typed.specs.Statements.{exec}
use Rattle.osl_welltyped.specs.StatementsFit.{declared_in}
use Rattle.oso_code.specs.declared.op.Op.{Op}
use Rattle.oso_code.specs.declared.symbol.Symbol.{Symbol}
use Rattle.oso_code.specs.Ops.{may_read}
use Rattle.osl_gencode.specs.Bodies.{frame_at, with_calm}
use Rattle.osl_gencode.specs.Codes.{ExprCode, StmtCode}
use Rattle.osl_gencode.specs.Depths.{expr_depth, stmt_depth}
use Rattle.osl_gencode.specs.Pieces.{Piece}
use Rattle.osl_gencode.specs.Sizes.{ExprWithin, StmtWithin}
use Rattle.osl_genparts.specs.declared.insides.Insides.{Insides}
use Rattle.osl_genparts.specs.Calm.{is_calm}
use Rattle.osl_genparts.specs.Insides.{body_of, calls_in, scale_in, types_in, spare_slots}

-- The code that was added stands for the expression, whose value is in the symbols from r on, which may be read. It is calm where the expression is, within its weight, and valid where it is.
pub record IsExprCode (i : Insides) (x : TypedExpr) (ops0 ops1 : List Op) (syms0 syms1 : List Symbol) (r : ℕ) : Type 0 where
  pub code : ExprCode (with_calm (is_calm x) (body_of i)) ops0 ops1 syms0 syms1 r (types_in i x) (λ inputs. eval (frame_at (body_of i) inputs) (calls_in i) x)
  pub within : ExprWithin ops0 ops1 syms0 syms1 (length (types_in i x)) (spare_slots i x) (weight (scale_in i) x)
  pub valid : (inside : Bool) → Piece i.kind i.owner inside (expr_depth (scale_in i) x) ops0 ops1 syms0 syms1
  pub readable : (k : ℕ) → k < length (types_in i x) → IsTrue (may_read syms1 i.owner (r + k))

-- The code that was added stands for the statement, in a body that gives a value of the kind.
pub record IsStmtCode (i : Insides) (result : Kind) (in_loop : Bool) (x : TypedStmt) (ops0 ops1 : List Op) (syms0 syms1 : List Symbol) : Type 0 where
  pub code : StmtCode (body_of i) (leaves_of i.structures.now result) ops0 ops1 syms0 syms1 (λ inputs. exec (frame_at (body_of i) inputs) (calls_in i) x)
  pub within : StmtWithin i.structures.now ops0 ops1 syms0 syms1 1 (declared_in (x ∷ [])) (weight_done (scale_in i) x)
  pub valid : Piece i.kind i.owner in_loop (stmt_depth (scale_in i) x) ops0 ops1 syms0 syms1
