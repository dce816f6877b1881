-- Constructors keep what is known.
use Rattle.std.proofs.Common.{◌≡◌, ℕ, zero, suc, true, false, ◌&&◌, ◌||◌, inl, inr, List, [], ◌∷◌, length, map, replicate, Option, Some, None, refl, ap, ◌∙◌, subst, arith}
use Rattle.std.specs.Prelude.{if◌then◌else◌, ◌==◌}
use Rattle.std.specs.List.{list_all}
use Rattle.std.specs.Cmp.Lexicographic.{pointwise}
use Rattle.std.proofs.lemmas.Bool.{false≢true, and_from, and_parts, eqb-true, or_left, or_right}
use Rattle.osl_value.proofs.SameTypes.{same_type-true}
use Rattle.osl_value.specs.declared.op_name.OpName.{OpName}
use Rattle.osl_value.specs.declared.op_name.OpName.TheVariants as op
use Rattle.osl_value.specs.declared.types.Base.{Base}
use Rattle.osl_value.specs.declared.types.Base.TheVariants.{Int, Float, Color, Point, Vector, Normal, Matrix, Str, Closure}
use Rattle.osl_value.specs.declared.types.Ty.{Ty}
use Rattle.osl_value.specs.AnyValue.{is_number, is_one_triple}
use Rattle.osl_value.specs.Apply.{is_allowed}
use Rattle.osl_value.specs.Forms.{ANumber, fits}
use Rattle.osl_value.specs.Types.{only, is_only}
use Rattle.osl_overload.specs.declared.signature.Kind.{Kind}
use Rattle.osl_overload.specs.declared.signature.Kind.TheVariants.{Value, Structure, Void}
use Rattle.osl_tree.specs.declared.expr.BaseType.{BaseType}
use Rattle.osl_typed.specs.declared.found.Found.{Found}
use Rattle.osl_typed.specs.Operators as operators
use Rattle.osl_typed.specs.Operators.{base_named}
use Rattle.osl_typed.specs.Typing.{sequence, expression, trees, are_numbers, made_of, converted, construct_from, construct}
use Rattle.osl_welltyped.specs.Kinded.{Rules, takes, plain_types, kinded}
use Rattle.osl_welltyped.proofs.FoundFits.{FoundFits}
use Rattle.osl_welltyped.proofs.OperatorsFit.{Stands, stands, value_fits, apply_kinded, converted_fits}
use Rattle.osl_welltyped.proofs.Steps.{none_is_not, some_same, bound, held}
use Rattle.osl_welltyped.proofs.TypeTables.{or_true}

-- ---- lists

abbrev pub AllFit : Rules → List Found → Type 0
AllFit rules [] = Unit {0}
AllFit rules (a ∷ args) = FoundFits rules a × AllFit rules args

abbrev pub AllStand : Rules → List Found → Type 0
AllStand rules [] = Unit {0}
AllStand rules (a ∷ args) = Stands rules a × AllStand rules args

pub all_stand : (rules : Rules) (args bs : List Found) → AllFit rules args → sequence (map expression args) ≡ Some bs → AllStand rules bs
unfolding sequence
all_stand rules [] bs fits h = subst (AllStand rules) (some_same [] bs h) tt
all_stand rules (a ∷ args) bs fits h =
    let b = bound (expression a) _ bs h in
    let rest = bound (sequence (map expression args)) _ bs b.goes in
    subst (AllStand rules) (some_same (b.value ∷ rest.value) bs rest.goes) (stands rules a b.value (fits.0) b.was, all_stand rules args rest.value (fits.1) rest.was)

-- ---- numbers

record AreNumbers (rules : Rules) (args : List Found) : Type 0 where
  types : List Ty
  is : plain_types (map (kinded rules) (trees args)) ≡ Some types
  numbers : list_all (λ ty. is_number ty) types ≡ true
  count : length types ≡ length args

record IsNumber (kind : Kind) : Type 0 where
  ty : Ty
  is : kind ≡ Value ty
  number : is_number ty ≡ true

number_is : (kind : Kind) → operators.is_numeric kind ≡ true → IsNumber kind
number_is (Value ty) h = record { ty = ty; is = refl; number = h }
number_is (Structure m) h = absurd (false≢true h)
number_is Void h = absurd (false≢true h)

abbrev more_types : Ty → Option (List Ty) → Option (List Ty)
more_types ty o = elim o [ None ↦ None | Some types ↦ Some (ty ∷ types) ]

numbers : (rules : Rules) (args : List Found) → AllStand rules args → are_numbers args ≡ true → AreNumbers rules args
numbers rules [] s h = record { types = []; is = refl; numbers = refl; count = refl }
numbers rules (a ∷ args) s h =
    let p = and_parts (operators.is_numeric a.kind) (are_numbers args) h in
    let n = number_is a.kind (p.0) in
    let rest = numbers rules args (s.1) (p.1) in
    record {
      types = n.ty ∷ rest.types;
      is = ap (λ o. plain_types (o ∷ map (kinded rules) (trees args))) ((s.0).kind_is ∙ ap Some n.is) ∙ ap (more_types n.ty) rest.is;
      numbers = and_from _ _ n.number rest.numbers;
      count = ap suc rest.count;
    }

are_fit : (n : ℕ) (types : List Ty) → length types ≡ n → list_all (λ ty. is_number ty) types ≡ true → pointwise fits (replicate n ANumber) types ≡ true
are_fit zero [] count h = refl
are_fit zero (ty ∷ types) count h = let e : suc (length types) ≡ 0 = count in absurd (omega arith)
are_fit (suc n) [] count h = let e : 0 ≡ suc n = count in absurd (omega arith)
are_fit (suc n) (ty ∷ types) count h =
    let p = and_parts (is_number ty) (list_all (λ ty. is_number ty) types) h in
    let e : suc (length types) ≡ suc n = count in
    and_from _ _ (p.0) (are_fit n types (omega arith) (p.1))

triple_takes : (b : Base) (types : List Ty) → is_one_triple (only b) ≡ true → pointwise fits (replicate 3 ANumber) types ≡ true → takes op.Triple (only b) (Some types) ≡ true
unfolding is_allowed
triple_takes Color types t h = ap (λ x. (x || false) && true) h
triple_takes Point types t h = ap (λ x. (x || false) && true) h
triple_takes Vector types t h = ap (λ x. (x || false) && true) h
triple_takes Normal types t h = ap (λ x. (x || false) && true) h
triple_takes Int types t h = absurd (false≢true t)
triple_takes Float types t h = absurd (false≢true t)
triple_takes Matrix types t h = absurd (false≢true t)
triple_takes Str types t h = absurd (false≢true t)
triple_takes Closure types t h = absurd (false≢true t)

matrix_takes : (types : List Ty) → (pointwise fits (replicate 1 ANumber) types || (pointwise fits (replicate 16 ANumber) types || false)) ≡ true → takes op.Matrix (only Matrix) (Some types) ≡ true
unfolding is_allowed
matrix_takes types h = ap (λ x. x && true) h

made_fits : (rules : Rules) (name : OpName) (ty : Ty) (args : List Found) (c : Found) → AllStand rules args
    → ((types : List Ty) → length types ≡ length args → list_all (λ ty. is_number ty) types ≡ true → takes name ty (Some types) ≡ true) → made_of name ty args ≡ Some c → FoundFits rules c
made_fits rules name ty args c s table h =
    let t = held (are_numbers args) _ c h in
    let n = numbers rules args s (t.0) in
    subst (FoundFits rules) (some_same _ c (t.1)) (value_fits rules _ _ (apply_kinded rules name ty (trees args) (ap (takes name ty) n.is ∙ table n.types n.count n.numbers)))

matrix_made : (args : List Found) (ty : Ty) → ty ≡ only Matrix → (length args == 1 || length args == 16) ≡ true → (types : List Ty) → length types ≡ length args → list_all (λ ty. is_number ty) types ≡ true
    → takes op.Matrix ty (Some types) ≡ true
matrix_made args ty is count types as_many numeric = ap (λ (t : Ty). takes op.Matrix t (Some types)) is ∙ matrix_takes types (elim (or_true (length args == 1) (length args == 16) count) [
  | inl one ↦ or_left _ _ (are_fit 1 types (as_many ∙ eqb-true (length args) 1 one) numeric)
  | inr all ↦ or_right _ _ (or_left _ _ (are_fit 16 types (as_many ∙ eqb-true (length args) 16 all) numeric))
])

abbrev converted_alone : Ty → List Found → Option Found
converted_alone ty args = elim args [ [] ↦ None | a ∷ more ↦ if length more == 0 then converted ty a else None ]

alone_fits : (rules : Rules) (ty : Ty) (args : List Found) (c : Found) → AllStand rules args → converted_alone ty args ≡ Some c → FoundFits rules c
alone_fits rules ty [] c s h = none_is_not c h
alone_fits rules ty (a ∷ more) c s h =
    (elim (length more == 0) as (λ t. (if t then converted ty a else None) ≡ Some c → FoundFits rules c) [
      | true ↦ λ g. converted_fits rules ty a c (s.0).fits g
      | false ↦ λ g. none_is_not c g
    ]) h

from_fits : (rules : Rules) (b : Base) (args : List Found) (c : Found) → AllStand rules args → construct_from (only b) args ≡ Some c → FoundFits rules c
from_fits rules b args c s h =
    elim (is_only Matrix (only b) && (length args == 1 || length args == 16)) as (λ t. (is_only Matrix (only b) && (length args == 1 || length args == 16)) ≡ t
    → (if t then made_of op.Matrix (only b) args else (if is_one_triple (only b) && (length args == 3) then made_of op.Triple (only b) args else converted_alone (only b) args)) ≡ Some c → FoundFits rules c) [
      | true ↦ λ all g. let p = and_parts (is_only Matrix (only b)) (length args == 1 || length args == 16) all in
          made_fits rules op.Matrix (only b) args c s (matrix_made args (only b) (same_type-true (only b) (only Matrix) (p.0)) (p.1)) g
      | false ↦ λ other. elim (is_one_triple (only b) && (length args == 3)) as (λ t. (is_one_triple (only b) && (length args == 3)) ≡ t
          → (if t then made_of op.Triple (only b) args else converted_alone (only b) args) ≡ Some c → FoundFits rules c) [
            | true ↦ λ all g. let p = and_parts (is_one_triple (only b)) (length args == 3) all in
                made_fits rules op.Triple (only b) args c s (λ types as_many numeric. triple_takes b types (p.0) (are_fit 3 types (as_many ∙ eqb-true (length args) 3 (p.1)) numeric)) g
            | false ↦ λ no_triple g. alone_fits rules (only b) args c s g
          ] refl
    ] refl h

pub construct_fits : (rules : Rules) (to : BaseType) (args : List Found) (c : Found) → AllFit rules args → construct to args ≡ Some c → FoundFits rules c
unfolding construct
construct_fits rules to args c fits h =
    let bs = bound (sequence (map expression args)) _ c h in
    from_fits rules (base_named to) bs.value c (all_stand rules args bs.value fits bs.was) bs.goes
