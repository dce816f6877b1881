-- The laws of the nodes, of the trees themselves: where code stands for the meaning of a node, it stands for the tree.
use Rattle.std.proofs.Common.{◌≡◌, ℕ, List, [], ◌∷◌, map, Option, Some, None, true, false, sym, subst}
use Rattle.std.specs.Prelude.{ℤ}
use Rattle.osl_value.specs.declared.op_name.OpName.{OpName}
use Rattle.osl_value.specs.declared.types.Base.TheVariants.{Int, Float, Str}
use Rattle.osl_value.specs.declared.types.Ty.{Ty}
use Rattle.osl_value.specs.AnyValue.{with_numbers, with_text}
use Rattle.osl_value.specs.Types.{only}
use Rattle.osl_layer.specs.Layer.{Inputs}
use Rattle.osl_overload.specs.declared.signature.Kind.{Kind}
use Rattle.oso_code.specs.declared.op.Op.{Op}
use Rattle.oso_code.specs.declared.symbol.Symbol.{Symbol}
use Rattle.osl_typed.specs.declared.expr.Root.{Root}
use Rattle.osl_typed.specs.declared.expr.Part.{Part}
use Rattle.osl_typed.specs.declared.expr.Increment.{Increment}
use Rattle.osl_typed.specs.declared.expr.TypedExpr.{TypedExpr}
use Rattle.osl_typed.specs.declared.expr.TypedExpr.TheVariants as e
use Rattle.osl_typed.specs.declared.expr.Argument.{Argument}
use Rattle.osl_typed.specs.declared.expr.Argument.TheVariants as arguments
use Rattle.osl_typed.specs.declared.stmt.Declared.{Declared}
use Rattle.osl_typed.specs.declared.stmt.TypedForStart.{TypedForStart}
use Rattle.osl_typed.specs.declared.stmt.TypedStmt.{TypedStmt}
use Rattle.osl_typed.specs.declared.stmt.TypedStmt.TheVariants as s
use Rattle.osl_typed.specs.State.{Gives, Exits, then_value}
use Rattle.osl_typed.specs.Parts.{single}
use Rattle.osl_typed.specs.Ends.{Doing, Next, Breaks, Continues, then_do, looped}
use Rattle.osl_typed.specs.Expressions.{Meaning, Calls, Passing, Copied, Lent, indexed, read_part, part_taken, promoted, both, either, chosen, assigned, updated, stepping, called, eval, pass}
use Rattle.osl_typed.specs.Statements.{condition, declared_all, decided, done, exec, exec_all, returned, started, step_of}
use Rattle.osl_typed.proofs.ExpressionLaws.{eval-Int, eval-Float, eval-Text, eval-Variable, eval-PartOf, eval-Paren, eval-Promote, eval-And, eval-Or, eval-Choose, eval-Assign, eval-Update, eval-Step, eval-Call, eval-Exit, pass-In, pass-Out}
use Rattle.osl_typed.proofs.StatementLaws.{exec-Empty, exec-Block, exec-Declare, exec-Expr, exec-Break, exec-Continue, exec-Return, exec-If, exec-If-Else, exec-While, exec-DoWhile, exec-For}
use Rattle.osl_gencode.specs.Bodies.{Body, frame_at}
use Rattle.osl_gencode.specs.Codes.{Code, Shows, ExprCode, StmtCode}

-- ---- expressions

module _ (b : Body) (calls : Calls) where
  -- the meaning of a tree in the body
  abbrev pub value_of : Inputs → TypedExpr → Meaning
  value_of inputs x = eval (frame_at b inputs) calls x

  abbrev pub values_in : Inputs → List TypedExpr → List Meaning
  values_in inputs xs = map (eval (frame_at b inputs) calls) xs

  module _ (ops0 ops1 : List Op) (syms0 syms1 : List Symbol) (r : ℕ) (types : List Ty) where
    tree_code : (x : TypedExpr) (sem : Inputs → Meaning) → ((inputs : Inputs) → value_of inputs x ≡ sem inputs) → ExprCode b ops0 ops1 syms0 syms1 r types sem → ExprCode b ops0 ops1 syms0 syms1 r types (λ inputs. value_of inputs x)
    tree_code x sem law c = subst (ExprCode b ops0 ops1 syms0 syms1 r types) (λ j inputs. sym (law inputs) j) c

    pub int_tree : (n : ℤ) → ExprCode b ops0 ops1 syms0 syms1 r types (λ inputs. Gives (with_numbers (only Int) (n ∷ []) ∷ [])) → ExprCode b ops0 ops1 syms0 syms1 r types (λ inputs. value_of inputs (e.Int n))
    int_tree n c = tree_code (e.Int n) _ (λ inputs. eval-Int (frame_at b inputs) calls n) c

    pub float_tree : (units : ℤ) → ExprCode b ops0 ops1 syms0 syms1 r types (λ inputs. Gives (with_numbers (only Float) (units ∷ []) ∷ [])) → ExprCode b ops0 ops1 syms0 syms1 r types (λ inputs. value_of inputs (e.Float units))
    float_tree units c = tree_code (e.Float units) _ (λ inputs. eval-Float (frame_at b inputs) calls units) c

    pub text_tree : (bytes : List ℕ) → ExprCode b ops0 ops1 syms0 syms1 r types (λ inputs. Gives (with_text (only Str) bytes ∷ [])) → ExprCode b ops0 ops1 syms0 syms1 r types (λ inputs. value_of inputs (e.Text bytes))
    text_tree bytes c = tree_code (e.Text bytes) _ (λ inputs. eval-Text (frame_at b inputs) calls bytes) c

    pub variable_tree : (root : Root) (part : Part) (is : List TypedExpr) → ExprCode b ops0 ops1 syms0 syms1 r types (λ inputs src. indexed (values_in inputs is) src (λ vs s1. read_part (frame_at b inputs) root part vs s1)) → ExprCode b ops0 ops1 syms0 syms1 r types (λ inputs. value_of inputs (e.Variable root part is))
    variable_tree root part is c = tree_code (e.Variable root part is) _ (λ inputs. eval-Variable (frame_at b inputs) calls root part is) c

    pub part_tree : (kind : Kind) (x : TypedExpr) (part : Part) (is : List TypedExpr) → ExprCode b ops0 ops1 syms0 syms1 r types (λ inputs. part_taken (frame_at b inputs) kind (value_of inputs x) part (values_in inputs is)) → ExprCode b ops0 ops1 syms0 syms1 r types (λ inputs. value_of inputs (e.PartOf kind x part is))
    part_tree kind x part is c = tree_code (e.PartOf kind x part is) _ (λ inputs. eval-PartOf (frame_at b inputs) calls kind x part is) c

    pub paren_tree : (kind : Kind) (x : TypedExpr) → ExprCode b ops0 ops1 syms0 syms1 r types (λ inputs. value_of inputs x) → ExprCode b ops0 ops1 syms0 syms1 r types (λ inputs. value_of inputs (e.Paren kind x))
    paren_tree kind x c = tree_code (e.Paren kind x) _ (λ inputs. eval-Paren (frame_at b inputs) calls kind x) c

    pub promote_tree : (ty : Ty) (x : TypedExpr) → ExprCode b ops0 ops1 syms0 syms1 r types (λ inputs src. then_value (value_of inputs x src) (λ v s1. Gives (promoted ty (single v) ∷ []) s1)) → ExprCode b ops0 ops1 syms0 syms1 r types (λ inputs. value_of inputs (e.Promote ty x))
    promote_tree ty x c = tree_code (e.Promote ty x) _ (λ inputs. eval-Promote (frame_at b inputs) calls ty x) c

    pub and_tree : (x y : TypedExpr) → ExprCode b ops0 ops1 syms0 syms1 r types (λ inputs. both (value_of inputs x) (value_of inputs y)) → ExprCode b ops0 ops1 syms0 syms1 r types (λ inputs. value_of inputs (e.And x y))
    and_tree x y c = tree_code (e.And x y) _ (λ inputs. eval-And (frame_at b inputs) calls x y) c

    pub or_tree : (x y : TypedExpr) → ExprCode b ops0 ops1 syms0 syms1 r types (λ inputs. either (value_of inputs x) (value_of inputs y)) → ExprCode b ops0 ops1 syms0 syms1 r types (λ inputs. value_of inputs (e.Or x y))
    or_tree x y c = tree_code (e.Or x y) _ (λ inputs. eval-Or (frame_at b inputs) calls x y) c

    pub choose_tree : (kind : Kind) (x y z : TypedExpr) → ExprCode b ops0 ops1 syms0 syms1 r types (λ inputs. chosen (value_of inputs x) (value_of inputs y) (value_of inputs z)) → ExprCode b ops0 ops1 syms0 syms1 r types (λ inputs. value_of inputs (e.Choose kind x y z))
    choose_tree kind x y z c = tree_code (e.Choose kind x y z) _ (λ inputs. eval-Choose (frame_at b inputs) calls kind x y z) c

    pub assign_tree : (root : Root) (part : Part) (is : List TypedExpr) (x : TypedExpr) → ExprCode b ops0 ops1 syms0 syms1 r types (λ inputs. assigned (frame_at b inputs) root part (values_in inputs is) (value_of inputs x)) → ExprCode b ops0 ops1 syms0 syms1 r types (λ inputs. value_of inputs (e.Assign root part is x))
    assign_tree root part is x c = tree_code (e.Assign root part is x) _ (λ inputs. eval-Assign (frame_at b inputs) calls root part is x) c

    pub update_tree : (op : OpName) (ty : Ty) (root : Root) (part : Part) (is : List TypedExpr) (x : TypedExpr) → ExprCode b ops0 ops1 syms0 syms1 r types (λ inputs. updated (frame_at b inputs) op ty root part (values_in inputs is) (value_of inputs x)) → ExprCode b ops0 ops1 syms0 syms1 r types (λ inputs. value_of inputs (e.Update op ty root part is x))
    update_tree op ty root part is x c = tree_code (e.Update op ty root part is x) _ (λ inputs. eval-Update (frame_at b inputs) calls op ty root part is x) c

    pub step_tree : (step : Increment) (ty : Ty) (root : Root) → ExprCode b ops0 ops1 syms0 syms1 r types (λ inputs. stepping (frame_at b inputs) step ty root) → ExprCode b ops0 ops1 syms0 syms1 r types (λ inputs. value_of inputs (e.Step step ty root))
    step_tree step ty root c = tree_code (e.Step step ty root) _ (λ inputs. eval-Step (frame_at b inputs) calls step ty root) c

    pub call_tree : (f : ℕ) (kind : Kind) (args : List Argument) → ExprCode b ops0 ops1 syms0 syms1 r types (λ inputs. called (frame_at b inputs) calls f (map (pass (frame_at b inputs) calls) args)) → ExprCode b ops0 ops1 syms0 syms1 r types (λ inputs. value_of inputs (e.Call f kind args))
    call_tree f kind args c = tree_code (e.Call f kind args) _ (λ inputs. eval-Call (frame_at b inputs) calls f kind args) c

    pub exit_tree : ExprCode b ops0 ops1 syms0 syms1 r types (λ inputs. Exits) → ExprCode b ops0 ops1 syms0 syms1 r types (λ inputs. value_of inputs e.Exit)
    exit_tree c = tree_code e.Exit _ (λ inputs. eval-Exit (frame_at b inputs) calls) c

  -- ---- arguments

  module _ {A : Type 0} (ops0 ops1 : List Op) (syms0 syms1 : List Symbol) (P : Shows A) (Q : Shows _) where
    argument_code : (x : Argument) (sem : Inputs → Passing) → ((inputs : Inputs) → pass (frame_at b inputs) calls x ≡ sem inputs) → Code b ops0 ops1 syms0 syms1 P Q (λ inputs a. sem inputs) → Code b ops0 ops1 syms0 syms1 P Q (λ inputs a. pass (frame_at b inputs) calls x)
    argument_code x sem law c = subst (λ (f : Inputs → Passing). Code b ops0 ops1 syms0 syms1 P Q (λ inputs a. f inputs)) (λ j inputs. sym (law inputs) j) c

    pub value_argument_tree : (x : TypedExpr) → Code b ops0 ops1 syms0 syms1 P Q (λ inputs a src. then_value (value_of inputs x src) (λ v s1. Gives (Copied v) s1)) → Code b ops0 ops1 syms0 syms1 P Q (λ inputs a. pass (frame_at b inputs) calls (arguments.In x))
    value_argument_tree x c = argument_code (arguments.In x) _ (λ inputs. pass-In (frame_at b inputs) calls x) c

    pub output_argument_tree : (root : Root) (part : Part) (is : List TypedExpr) → Code b ops0 ops1 syms0 syms1 P Q (λ inputs a src. indexed (values_in inputs is) src (λ js s1. then_value (read_part (frame_at b inputs) root part js s1) (λ v s2. Gives (Lent v root part js) s2))) → Code b ops0 ops1 syms0 syms1 P Q (λ inputs a. pass (frame_at b inputs) calls (arguments.Out root part is))
    output_argument_tree root part is c = argument_code (arguments.Out root part is) _ (λ inputs. pass-Out (frame_at b inputs) calls root part is) c

  -- ---- statements

  module _ (result : List Ty) (ops0 ops1 : List Op) (syms0 syms1 : List Symbol) where
    -- what a statement does in the body
    abbrev pub doing_of : Inputs → TypedStmt → Doing
    doing_of inputs x = exec (frame_at b inputs) calls x

    statement_code : (x : TypedStmt) (sem : Inputs → Doing) → ((inputs : Inputs) → doing_of inputs x ≡ sem inputs) → StmtCode b result ops0 ops1 syms0 syms1 sem → StmtCode b result ops0 ops1 syms0 syms1 (λ inputs. doing_of inputs x)
    statement_code x sem law c = subst (StmtCode b result ops0 ops1 syms0 syms1) (λ j inputs. sym (law inputs) j) c

    pub empty_tree : StmtCode b result ops0 ops1 syms0 syms1 (λ inputs. Next) → StmtCode b result ops0 ops1 syms0 syms1 (λ inputs. doing_of inputs s.Empty)
    empty_tree c = statement_code s.Empty _ (λ inputs. exec-Empty (frame_at b inputs) calls) c

    pub block_tree : (xs : List TypedStmt) → StmtCode b result ops0 ops1 syms0 syms1 (λ inputs. exec_all (frame_at b inputs) calls xs) → StmtCode b result ops0 ops1 syms0 syms1 (λ inputs. doing_of inputs (s.Block xs))
    block_tree xs c = statement_code (s.Block xs) _ (λ inputs. exec-Block (frame_at b inputs) calls xs) c

    pub declare_tree : (ds : List Declared) → StmtCode b result ops0 ops1 syms0 syms1 (λ inputs. declared_all (frame_at b inputs) calls ds) → StmtCode b result ops0 ops1 syms0 syms1 (λ inputs. doing_of inputs (s.Declare ds))
    declare_tree ds c = statement_code (s.Declare ds) _ (λ inputs. exec-Declare (frame_at b inputs) calls ds) c

    pub expression_tree : (x : TypedExpr) → StmtCode b result ops0 ops1 syms0 syms1 (λ inputs. done (value_of inputs x)) → StmtCode b result ops0 ops1 syms0 syms1 (λ inputs. doing_of inputs (s.Expr x))
    expression_tree x c = statement_code (s.Expr x) _ (λ inputs. exec-Expr (frame_at b inputs) calls x) c

    pub break_tree : StmtCode b result ops0 ops1 syms0 syms1 (λ inputs. Breaks) → StmtCode b result ops0 ops1 syms0 syms1 (λ inputs. doing_of inputs s.Break)
    break_tree c = statement_code s.Break _ (λ inputs. exec-Break (frame_at b inputs) calls) c

    pub continue_tree : StmtCode b result ops0 ops1 syms0 syms1 (λ inputs. Continues) → StmtCode b result ops0 ops1 syms0 syms1 (λ inputs. doing_of inputs s.Continue)
    continue_tree c = statement_code s.Continue _ (λ inputs. exec-Continue (frame_at b inputs) calls) c

    pub return_tree : (x : Option TypedExpr) → StmtCode b result ops0 ops1 syms0 syms1 (λ inputs. returned (frame_at b inputs) calls x) → StmtCode b result ops0 ops1 syms0 syms1 (λ inputs. doing_of inputs (s.Return x))
    return_tree x c = statement_code (s.Return x) _ (λ inputs. exec-Return (frame_at b inputs) calls x) c

    pub if_tree : (x : TypedExpr) (y : TypedStmt) → StmtCode b result ops0 ops1 syms0 syms1 (λ inputs. decided (value_of inputs x) (doing_of inputs y) Next) → StmtCode b result ops0 ops1 syms0 syms1 (λ inputs. doing_of inputs (s.If x y None))
    if_tree x y c = statement_code (s.If x y None) _ (λ inputs. exec-If (frame_at b inputs) calls x y) c

    pub if_else_tree : (x : TypedExpr) (y z : TypedStmt) → StmtCode b result ops0 ops1 syms0 syms1 (λ inputs. decided (value_of inputs x) (doing_of inputs y) (doing_of inputs z)) → StmtCode b result ops0 ops1 syms0 syms1 (λ inputs. doing_of inputs (s.If x y (Some z)))
    if_else_tree x y z c = statement_code (s.If x y (Some z)) _ (λ inputs. exec-If-Else (frame_at b inputs) calls x y z) c

    pub while_tree : (x : TypedExpr) (y : TypedStmt) → StmtCode b result ops0 ops1 syms0 syms1 (λ inputs. looped true (condition (frame_at b inputs) calls (Some x)) (doing_of inputs y) Next) → StmtCode b result ops0 ops1 syms0 syms1 (λ inputs. doing_of inputs (s.While x y))
    while_tree x y c = statement_code (s.While x y) _ (λ inputs. exec-While (frame_at b inputs) calls x y) c

    pub do_tree : (y : TypedStmt) (x : TypedExpr) → StmtCode b result ops0 ops1 syms0 syms1 (λ inputs. looped false (condition (frame_at b inputs) calls (Some x)) (doing_of inputs y) Next) → StmtCode b result ops0 ops1 syms0 syms1 (λ inputs. doing_of inputs (s.DoWhile y x))
    do_tree y x c = statement_code (s.DoWhile y x) _ (λ inputs. exec-DoWhile (frame_at b inputs) calls y x) c

    pub for_tree : (start : TypedForStart) (x step : Option TypedExpr) (y : TypedStmt) → StmtCode b result ops0 ops1 syms0 syms1 (λ inputs src. then_do (started (frame_at b inputs) calls start src) (looped true (condition (frame_at b inputs) calls x) (doing_of inputs y) (step_of (frame_at b inputs) calls step))) → StmtCode b result ops0 ops1 syms0 syms1 (λ inputs. doing_of inputs (s.For start x step y))
    for_tree start x step y c = statement_code (s.For start x step y) _ (λ inputs. exec-For (frame_at b inputs) calls start x step y) c
