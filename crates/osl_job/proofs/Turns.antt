-- What a reading has room for, turn by turn.
use Rattle.std.proofs.Common.{◌≡◌, ℕ, suc, ◌+◌, ◌-◌, ◌<◌, List, [], ◌∷◌, ◌++◌, Bool, true, false, Option, Some, None, Err, ap, ◌∙◌, arith}
use Rattle.std.specs.Prelude.{if◌then◌else◌}
use Rattle.osl_tree.specs.declared.token.Punct.TheVariants as p
use Rattle.osl_tree.specs.declared.terminal.Terminal.TheVariants as m
use Rattle.osl_tree.specs.Lexeme.{Lexeme}
use Rattle.osl_tree.specs.Parser.{◌>>=◌, and_then, pure, eat, take_as}
use Rattle.osl_job.specs.declared.small.SumOp.{SumOp}
use Rattle.osl_job.specs.declared.small.Expr.{Expr}
use Rattle.osl_job.specs.declared.small.Expr.TheVariants.{Apply}
use Rattle.osl_job.specs.declared.small.Param.{Param}
use Rattle.osl_job.specs.declared.small.Assignment.{Assignment}
use Rattle.osl_job.specs.declared.text.ReadStop.{ReadStop}
use Rattle.osl_job.specs.declared.text.ReadStop.TheVariants.{NotBuilt, Memory}
use Rattle.osl_job.specs.Reader.{Reads}
use Rattle.osl_job.specs.Small.{token, sign_of, operand_of, joined, more_operands, param, more_params, assignment, more_assignments}

pub one_more : {A : Type 0} → (f : ℕ → A) (end turn : ℕ) → turn < end → f (end - turn) ≡ f (suc (end - (turn + 1)))
one_more f end turn h = let n : end - turn ≡ suc (end - (turn + 1)) = omega arith in ap f n

-- a reading that stops, stops what goes on with it
pub stops : {A B : Type 0} → (r : Option (A × List Lexeme)) (s : Option (B × List Lexeme)) (stop : ReadStop) (a b : List Lexeme)
    → (r ≡ None → s ≡ None) → Reads {A = A} {L = Lexeme} r (Err stop) a → Reads {A = B} {L = Lexeme} s (Err stop) b
stops r s NotBuilt a b f p = f p
stops r s Memory a b f p = tt

-- one more operand
operands_step : (params : List Param) (room : ℕ) (sum next : Expr) (op : SumOp) (a b c : List Lexeme)
    → take_as sign_of a ≡ Some (Some op, b) → token (operand_of params) b ≡ Some (next, c) → more_operands params (suc room) sum a ≡ more_operands params room (Apply op sum next) c
unfolding more_operands
operands_step params room sum next op a b c sign is =
    ap (λ r. and_then r (joined params sum (more_operands params room))) sign ∙ ap (λ r. and_then r (λ n. more_operands params room (Apply op sum n))) is

pub operands_turn : (params : List Param) (room turn : ℕ) (sum next : Expr) (op : SumOp) (a b c : List Lexeme)
    → turn < room → take_as sign_of a ≡ Some (Some op, b) → token (operand_of params) b ≡ Some (next, c)
    → more_operands params (room - turn) sum a ≡ more_operands params (room - (turn + 1)) (Apply op sum next) c
operands_turn params room turn sum next op a b c h sign is =
    one_more (λ n. more_operands params n sum a) room turn h ∙ operands_step params (room - (turn + 1)) sum next op a b c sign is

-- one more parameter
params_step : (room : ℕ) (params : List Param) (next : Param) (a b c : List Lexeme)
    → eat (m.Punct p.Comma) a ≡ Some (true, b) → param params b ≡ Some (next, c) → more_params (suc room) params a ≡ more_params room (params ++ next ∷ []) c
unfolding more_params
params_step room params next a b c more is =
    ap (λ r. and_then r (λ (x : Bool). if x then (param params >>= (λ n. more_params room (params ++ n ∷ []))) else pure params)) more
    ∙ ap (λ r. and_then r (λ n. more_params room (params ++ n ∷ []))) is

pub params_turn : (room turn : ℕ) (params : List Param) (next : Param) (a b c : List Lexeme)
    → turn < room → eat (m.Punct p.Comma) a ≡ Some (true, b) → param params b ≡ Some (next, c)
    → more_params (room - turn) params a ≡ more_params (room - (turn + 1)) (params ++ next ∷ []) c
params_turn room turn params next a b c h more is =
    one_more (λ n. more_params n params a) room turn h ∙ params_step (room - (turn + 1)) params next a b c more is

pub params_fail : (room turn : ℕ) (params : List Param) (a b : List Lexeme)
    → turn < room → eat (m.Punct p.Comma) a ≡ Some (true, b) → param params b ≡ None → more_params (room - turn) params a ≡ None
unfolding more_params
params_fail room turn params a b h more is =
    one_more (λ n. more_params n params a) room turn h
    ∙ ap (λ r. and_then r (λ (x : Bool). if x then (param params >>= (λ n. more_params (room - (turn + 1)) (params ++ n ∷ []))) else pure params)) more
    ∙ ap (λ r. and_then r (λ n. more_params (room - (turn + 1)) (params ++ n ∷ []))) is

-- one more assignment
assignments_step : (params : List Param) (room : ℕ) (body : List Assignment) (next : Assignment) (a b c : List Lexeme)
    → eat (m.Punct p.CloseBrace) a ≡ Some (false, b) → assignment params b ≡ Some (next, c) → more_assignments params (suc room) body a ≡ more_assignments params room (body ++ next ∷ []) c
unfolding more_assignments
assignments_step params room body next a b c more is =
    ap (λ r. and_then r (λ (x : Bool). if x then pure body else (assignment params >>= (λ n. more_assignments params room (body ++ n ∷ []))))) more
    ∙ ap (λ r. and_then r (λ n. more_assignments params room (body ++ n ∷ []))) is

pub assignments_turn : (params : List Param) (room turn : ℕ) (body : List Assignment) (next : Assignment) (a b c : List Lexeme)
    → turn < room → eat (m.Punct p.CloseBrace) a ≡ Some (false, b) → assignment params b ≡ Some (next, c)
    → more_assignments params (room - turn) body a ≡ more_assignments params (room - (turn + 1)) (body ++ next ∷ []) c
assignments_turn params room turn body next a b c h more is =
    one_more (λ n. more_assignments params n body a) room turn h ∙ assignments_step params (room - (turn + 1)) body next a b c more is
