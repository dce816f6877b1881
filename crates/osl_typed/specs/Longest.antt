-- The longest name of a source, and its longest string outside metadata.
use Rattle.std.specs.Prelude.{ℕ, max, List, [], ◌∷◌, length, map, Option, None, Some}
use Rattle.osl_tree.specs.declared.expr.Expr.{Expr, Expr-F, fold-Expr}
use Rattle.osl_tree.specs.declared.expr.Expr.TheOpen as x
use Rattle.osl_tree.specs.declared.stmt.TypeName.{TypeName}
use Rattle.osl_tree.specs.declared.stmt.TypeName.TheVariants as types
use Rattle.osl_tree.specs.declared.stmt.Item.{Item}
use Rattle.osl_tree.specs.declared.stmt.Init.{Init}
use Rattle.osl_tree.specs.declared.stmt.Init.TheVariants as begin
use Rattle.osl_tree.specs.declared.stmt.Var.{Var}
use Rattle.osl_tree.specs.declared.stmt.Declaration.{Declaration}
use Rattle.osl_tree.specs.declared.stmt.ForStart.{ForStart}
use Rattle.osl_tree.specs.declared.stmt.ForStart.TheVariants as from
use Rattle.osl_tree.specs.declared.stmt.Stmt.{Stmt, Stmt-F, fold-Stmt}
use Rattle.osl_tree.specs.declared.stmt.Stmt.TheOpen as s
use Rattle.osl_tree.specs.declared.tree.Fields.{Fields}
use Rattle.osl_tree.specs.declared.tree.Structure.{Structure}
use Rattle.osl_tree.specs.declared.tree.Formal.{Formal}
use Rattle.osl_tree.specs.declared.tree.Function.{Function}
use Rattle.osl_tree.specs.declared.tree.Definition.{Definition}
use Rattle.osl_tree.specs.declared.tree.Definition.TheVariants as definitions
use Rattle.osl_tree.specs.declared.tree.Datum.{Datum}
use Rattle.osl_tree.specs.declared.tree.Param.{Param}
use Rattle.osl_tree.specs.declared.tree.Tree.{Tree}

-- the most bytes of a name and of a string
pub record Longest : Type 0 where
  pub word : ℕ
  pub text : ℕ

abbrev pub none : Longest
none = record { word = 0; text = 0 }

infixl 30 ◌and◌
abbrev pub ◌and◌ : Longest → Longest → Longest
a and b = record { word = max a.word b.word; text = max a.text b.text }

abbrev pub all_of : List Longest → Longest
all_of [] = none
all_of (a ∷ rest) = a and all_of rest

abbrev pub maybe : Option Longest → Longest
maybe None = none
maybe (Some a) = a

abbrev pub named : List ℕ → Longest
named word = record { word = length word; text = 0 }

-- ---- expressions

abbrev pub expr_step : Expr-F Longest → Longest
expr_step (x.Int n) = none
expr_step (x.Float units) = none
expr_step (x.Text bytes) = record { word = 0; text = length bytes }
expr_step (x.Name word) = named word
expr_step (x.Call word args) = named word and all_of args
expr_step (x.Construct to args) = all_of args
expr_step (x.Paren a) = a
expr_step (x.Index a i) = a and i
expr_step (x.Field a word) = a and named word
expr_step (x.Postfix operator a) = a
expr_step (x.Prefix operator a) = a
expr_step (x.Cast to a) = a
expr_step (x.Binary operator a b) = a and b
expr_step (x.Choice c a b) = c and a and b
expr_step (x.Assign operator a b) = a and b

unfoldable pub in_expr : Expr → Longest
in_expr a = fold-Expr Longest expr_step a

abbrev pub in_maybe_expr : Option Expr → Longest
in_maybe_expr None = none
in_maybe_expr (Some a) = in_expr a

-- ---- declarations

abbrev pub in_type : TypeName → Longest
in_type (types.Base base) = none
in_type (types.Struct word) = named word

abbrev pub in_item : Item → Longest
in_item item = named item.name

abbrev pub in_init : Init → Longest
in_init (begin.Expr a) = in_expr a
in_init (begin.List items) = all_of (map in_expr items)

abbrev pub in_maybe_init : Option Init → Longest
in_maybe_init None = none
in_maybe_init (Some x) = in_init x

abbrev pub in_var : Var → Longest
in_var v = in_item v.item and in_maybe_init v.init

abbrev pub in_declaration : Declaration → Longest
in_declaration d = in_type d.ty and all_of (map in_var d.vars)

-- ---- statements

abbrev pub in_start : ForStart → Longest
in_start from.Nothing = none
in_start (from.Expr a) = in_expr a
in_start (from.Declare d) = in_declaration d

abbrev pub stmt_step : Stmt-F Longest → Longest
stmt_step s.Empty = none
stmt_step (s.Block all) = all_of all
stmt_step (s.Declare d) = in_declaration d
stmt_step (s.Expr a) = in_expr a
stmt_step s.Break = none
stmt_step s.Continue = none
stmt_step (s.Return a) = in_maybe_expr a
stmt_step (s.If c a b) = in_expr c and a and maybe b
stmt_step (s.While c a) = in_expr c and a
stmt_step (s.DoWhile a c) = a and in_expr c
stmt_step (s.For x c step a) = in_start x and in_maybe_expr c and in_maybe_expr step and a

unfoldable pub in_stmt : Stmt → Longest
in_stmt a = fold-Stmt Longest stmt_step a

abbrev pub in_body : List Stmt → Longest
in_body body = all_of (map in_stmt body)

-- ---- sources

abbrev pub in_fields : Fields → Longest
in_fields fields = in_type fields.ty and all_of (map in_item fields.items)

abbrev pub in_structure : Structure → Longest
in_structure structure = named structure.name and all_of (map in_fields structure.fields)

abbrev pub in_formal : Formal → Longest
in_formal formal = in_type formal.ty and in_item formal.item

abbrev pub in_result : Option TypeName → Longest
in_result None = none
in_result (Some type) = in_type type

abbrev pub in_function : Function → Longest
in_function f = in_result f.result and named f.name and all_of (map in_formal f.formals) and in_body f.body

abbrev pub in_definition : Definition → Longest
in_definition (definitions.Structure structure) = in_structure structure
in_definition (definitions.Function f) = in_function f

-- a datum of metadata has names, and its strings do not count
abbrev pub in_datum : Datum → Longest
in_datum datum = record { word = (in_type datum.ty and in_item datum.item).word; text = 0 }

abbrev pub in_param : Param → Longest
in_param param = in_type param.ty and in_item param.item and in_init param.init and all_of (map in_datum param.metadata)

abbrev pub longest_of : Tree → Longest
longest_of tree =
    all_of (map in_definition tree.definitions)
    and named tree.shader.name
    and all_of (map in_datum tree.shader.metadata)
    and all_of (map in_param tree.shader.params)
    and in_body tree.shader.body
