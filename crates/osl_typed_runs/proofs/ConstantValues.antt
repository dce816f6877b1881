-- A constant gives one value, whatever the frame, the functions and the state are.
use Rattle.std.proofs.Common.{◌≡◌, Bool, true, List, [], ◌∷◌, map, refl, sym, ap, ◌∙◌, subst}
use Rattle.std.specs.List.{list_all}
use Rattle.std.proofs.lemmas.Bool.{false≢true, and_from, and_parts}
use Rattle.osl_value.specs.declared.types.Ty.{Ty}
use Rattle.osl_value.specs.declared.types.Base.TheVariants.{Int, Float, Str}
use Rattle.osl_value.specs.AnyValue.{AnyValue, with_numbers, with_text}
use Rattle.osl_value.specs.Apply.{apply}
use Rattle.osl_value.specs.Types.{only}
use Rattle.osl_overload.specs.declared.signature.Kind.TheVariants.{Value}
use Rattle.osl_typed.specs.declared.expr.Argument.{Argument}
use Rattle.osl_typed.specs.declared.expr.Argument.TheFolds.{fold-Argument, fold-roll-TypedExpr, ind-TypedExpr, map-TypedExpr}
use Rattle.osl_typed.specs.declared.expr.Argument.TheOpen as o
use Rattle.osl_typed.specs.declared.expr.Argument.TheOpen.{TypedExpr-F}
use Rattle.osl_typed.specs.declared.expr.Argument.TheViews.{roll-TypedExpr}
use Rattle.osl_typed.specs.declared.expr.TypedExpr.{TypedExpr}
use Rattle.osl_typed.specs.declared.stmt.TypedInit.{TypedInit}
use Rattle.osl_typed.specs.declared.stmt.TypedInit.TheVariants as init
use Rattle.osl_typed.specs.Expressions as source
use Rattle.osl_typed.specs.Expressions.{Meaning, Calls, Passing, promoted, expr_step, eval, pass}
use Rattle.osl_typed.specs.Parts.{Frame, single}
use Rattle.osl_typed.specs.State.{State, ExpressionEnd, Gives, then_value, in_order}
use Rattle.osl_typed.specs.Statements.{listed, begun}
use Rattle.osl_welltyped.specs.WellTyped.{makes_constants, constant_step, constant_passed, is_constant, is_constant_init}

-- what is evaluated in a frame, with functions to call
abbrev pub Evaluated : Type 0
Evaluated = Frame → Calls → Meaning

-- it gives one value, and leaves the state as it is
pub record GivesOne (m : Evaluated) : Type 0 where
  pub value : List AnyValue
  pub gives : (frame : Frame) (calls : Calls) (s : State) → m frame calls s ≡ Gives value s

abbrev OneValue : TypedExpr → Type 0
OneValue x = is_constant x ≡ true → GivesOne (λ frame calls. eval frame calls x)

-- ---- one after the other

abbrev AllOne : List TypedExpr → Type 0
AllOne [] = Unit {0}
AllOne (x ∷ xs) = OneValue x × AllOne xs

record GiveAll (xs : List TypedExpr) : Type 0 where
  values : List (List AnyValue)
  give : (frame : Frame) (calls : Calls) (s : State) (go : List (List AnyValue) → State → ExpressionEnd (List AnyValue)) → in_order (map (eval frame calls) xs) s go ≡ go values s

all_give : (xs : List TypedExpr) → AllOne xs → list_all (λ b. b) (map is_constant xs) ≡ true → GiveAll xs
unfolding in_order
all_give [] one h = record { values = []; give = λ frame calls s go. refl }
all_give (x ∷ xs) one h =
    let p = and_parts (is_constant x) (list_all (λ b. b) (map is_constant xs)) h in
    let first = one.0 p.0 in
    let rest = all_give xs one.1 p.1 in
    record {
      values = first.value ∷ rest.values;
      give = λ frame calls s go.
          ap (λ end. then_value end (λ a s1. in_order (map (eval frame calls) xs) s1 (λ more s2. go (a ∷ more) s2))) (first.gives frame calls s)
          ∙ rest.give frame calls s (λ more s2. go (first.value ∷ more) s2);
    }

-- ---- one node

abbrev constant_argument : Argument → Bool
constant_argument x = fold-Argument Bool Bool constant_passed constant_step x

module _ (Y Z : Type 0) (arg : Y → Argument) (tree : Z → TypedExpr) (one : (z : Z) → OneValue (tree z)) where
  all_one : (zs : List Z) → AllOne (map tree zs)
  all_one [] = tt
  all_one (z ∷ zs) = (one z, all_one zs)

  node_one : (l : TypedExpr-F Y Z)
      → constant_step (map-TypedExpr Argument TypedExpr Bool Bool constant_argument is_constant (map-TypedExpr Y Z Argument TypedExpr arg tree l)) ≡ true
      → GivesOne (λ frame calls. expr_step frame calls (map-TypedExpr Argument TypedExpr Passing Meaning (pass frame calls) (eval frame calls) (map-TypedExpr Y Z Argument TypedExpr arg tree l)))
  node_one (o.Int n) h = record { value = with_numbers (only Int) (n ∷ []) ∷ []; gives = λ frame calls s. refl }
  node_one (o.Float units) h = record { value = with_numbers (only Float) (units ∷ []) ∷ []; gives = λ frame calls s. refl }
  node_one (o.Text bytes) h = record { value = with_text (only Str) bytes ∷ []; gives = λ frame calls s. refl }
  node_one (o.Promote ty a) h =
      let given = one a h in
      record {
        value = promoted ty (single given.value) ∷ [];
        gives = λ frame calls s. ap (λ end. then_value end (λ v s1. Gives (promoted ty (single v) ∷ []) s1)) (given.gives frame calls s);
      }
  node_one (o.Apply op ty operands) h =
      let given = all_give (map tree operands) (all_one operands) (and_parts (makes_constants op) (list_all (λ b. b) (map is_constant (map tree operands))) h).1 in
      record {
        value = apply op ty (map single given.values) ∷ [];
        gives = λ frame calls s. given.give frame calls s (λ vs s1. Gives (apply op ty (map single vs) ∷ []) s1);
      }
  node_one (o.Variable root part is) h = absurd (false≢true h)
  node_one (o.PartOf k a part is) h = absurd (false≢true h)
  node_one (o.Paren k a) h = absurd (false≢true h)
  node_one (o.And a b) h = absurd (false≢true h)
  node_one (o.Or a b) h = absurd (false≢true h)
  node_one (o.Choose k c a b) h = absurd (false≢true h)
  node_one (o.Assign root part is a) h = absurd (false≢true h)
  node_one (o.Update op ty root part is a) h = absurd (false≢true h)
  node_one (o.Step step ty root) h = absurd (false≢true h)
  node_one (o.Call f k args) h = absurd (false≢true h)
  node_one o.Exit h = absurd (false≢true h)

  layer_one : (l : TypedExpr-F Y Z) → OneValue (roll-TypedExpr (map-TypedExpr Y Z Argument TypedExpr arg tree l))
  unfolding is_constant eval pass
  layer_one l h =
      let x = map-TypedExpr Y Z Argument TypedExpr arg tree l in
      let given = node_one l (sym (fold-roll-TypedExpr Bool Bool constant_passed constant_step x) ∙ h) in
      record {
        value = given.value;
        gives = λ frame calls s. ap (λ (m : Meaning). m s) (fold-roll-TypedExpr Passing Meaning (source.argument_step frame) (expr_step frame calls) x) ∙ given.gives frame calls s;
      }

-- ---- all constants

pub constant_given : (x : TypedExpr) → OneValue x
constant_given x = ind-TypedExpr (λ a. Unit {0}) OneValue
    (λ l y same. tt)
    (λ l y same. subst (λ z. OneValue (roll-TypedExpr z)) same (layer_one _ _ (λ w. w.0) (λ w. w.0) (λ w. w.1) y)) x

constants_given : (xs : List TypedExpr) → AllOne xs
constants_given [] = tt
constants_given (x ∷ xs) = (constant_given x, constants_given xs)

same_all : (xs : List TypedExpr) → list_all is_constant xs ≡ true → list_all (λ b. b) (map is_constant xs) ≡ true
same_all [] h = h
same_all (x ∷ xs) h = let p = and_parts (is_constant x) (list_all is_constant xs) h in and_from _ _ p.0 (same_all xs p.1)

-- and so do initialisers of values
pub constant_begun : (ty : Ty) (x : TypedInit) → is_constant_init x ≡ true → GivesOne (λ frame calls. begun frame calls (Value ty) x)
constant_begun ty (init.Expr a) h = let given = constant_given a h in record { value = given.value; gives = λ frame calls s. given.gives frame calls s }
constant_begun ty (init.List items) h =
    let given = all_give items (constants_given items) (same_all items h) in
    record { value = listed [] (Value ty) given.values; gives = λ frame calls s. given.give frame calls s (λ vs s1. Gives (listed frame.structures (Value ty) vs) s1) }
