-- The tables of typing against the table of operations: each operation that typing writes in is one that the table takes.
use Rattle.std.proofs.Common.{◌≡◌, ℕ, zero, suc, Bool, true, false, ◌&&◌, ◌||◌, ◌⊎◌, inl, inr, List, [], ◌∷◌, Option, Some, None, refl, sym, ap, ◌∙◌, subst}
use Rattle.std.specs.Prelude.{if◌then◌else◌, ◌==◌, is_some, slice_get}
use Rattle.std.specs.List.{list_all}
use Rattle.std.proofs.lemmas.Bool.{false≢true, and_parts, eqb-true}
use Rattle.osl_value.proofs.SameTypes.{same_type-true}
use Rattle.osl_value.specs.declared.op_name.OpName.{OpName}
use Rattle.osl_value.specs.declared.op_name.OpName.TheVariants as O
use Rattle.osl_value.specs.declared.types.Base.{Base}
use Rattle.osl_value.specs.declared.types.Base.TheVariants.{Int, Float, Color, Point, Vector, Normal, Matrix, Str, Closure}
use Rattle.osl_value.specs.declared.types.Ty.{Ty}
use Rattle.osl_value.specs.AnyValue.{is_number, is_one_triple}
use Rattle.osl_value.specs.Apply.{is_allowed}
use Rattle.osl_value.specs.Types.{only, is_only, is_triple}
use Rattle.osl_overload.specs.Cost.{cost, promotion_of, is_spatial}
use Rattle.osl_overload.specs.Kinds.{same_kind}
use Rattle.osl_overload.specs.declared.signature.Kind.{Kind}
use Rattle.osl_overload.specs.declared.signature.Kind.TheVariants.{Value, Structure, Void}
use Rattle.osl_tree.specs.declared.expr.AssignOp.{AssignOp}
use Rattle.osl_tree.specs.declared.expr.AssignOp.TheVariants as to
use Rattle.osl_tree.specs.declared.expr.BinaryOp.{BinaryOp}
use Rattle.osl_tree.specs.declared.expr.BinaryOp.TheVariants as by
use Rattle.osl_typed.specs.Operators as operators
use Rattle.osl_typed.specs.Operators.{operation, is_arithmetic, is_factor, is_type, is_spatial_type, is_scaling, joined, given, on_one_kind, on_one_type, closure, is_convertible, conversion_of}
use Rattle.osl_welltyped.specs.Kinded.{takes, plain_types, updates_by}
use Rattle.osl_welltyped.proofs.Steps.{none_is_not, some_same, same_kind-true}

-- ---- lists of all

pub all_at : {X : Type 0} (f : X → Bool) (xs : List X) (k : ℕ) (x : X) → slice_get xs k ≡ Some x → list_all f xs ≡ true → f x ≡ true
all_at f [] k x at h = none_is_not x at
all_at f (y ∷ ys) zero x at h = ap f (sym (some_same y x at)) ∙ (and_parts (f y) (list_all f ys) h).0
all_at f (y ∷ ys) (suc k) x at h = all_at f ys k x at (and_parts (f y) (list_all f ys) h).1

abbrev pub bases : List Base
bases = Int ∷ Float ∷ Color ∷ Point ∷ Vector ∷ Normal ∷ Matrix ∷ Str ∷ Closure ∷ []

pub each_base : (f : Base → Bool) → list_all f bases ≡ true → (b : Base) → f b ≡ true
each_base f h Int = all_at f bases 0 Int refl h
each_base f h Float = all_at f bases 1 Float refl h
each_base f h Color = all_at f bases 2 Color refl h
each_base f h Point = all_at f bases 3 Point refl h
each_base f h Vector = all_at f bases 4 Vector refl h
each_base f h Normal = all_at f bases 5 Normal refl h
each_base f h Matrix = all_at f bases 6 Matrix refl h
each_base f h Str = all_at f bases 7 Str refl h
each_base f h Closure = all_at f bases 8 Closure refl h

abbrev pub all_operators : List BinaryOp
all_operators = by.Add ∷ by.Subtract ∷ by.Multiply ∷ by.Divide ∷ by.Remainder ∷ by.ShiftLeft ∷ by.ShiftRight ∷ by.BitAnd ∷ by.BitXor ∷ by.BitOr ∷ by.Less ∷ by.LessEqual ∷ by.Greater ∷ by.GreaterEqual ∷ by.Equal ∷ by.NotEqual ∷ by.And ∷ by.Or ∷ []

each_operator : (f : BinaryOp → Bool) → list_all f all_operators ≡ true → (o : BinaryOp) → f o ≡ true
each_operator f h by.Add = all_at f all_operators 0 by.Add refl h
each_operator f h by.Subtract = all_at f all_operators 1 by.Subtract refl h
each_operator f h by.Multiply = all_at f all_operators 2 by.Multiply refl h
each_operator f h by.Divide = all_at f all_operators 3 by.Divide refl h
each_operator f h by.Remainder = all_at f all_operators 4 by.Remainder refl h
each_operator f h by.ShiftLeft = all_at f all_operators 5 by.ShiftLeft refl h
each_operator f h by.ShiftRight = all_at f all_operators 6 by.ShiftRight refl h
each_operator f h by.BitAnd = all_at f all_operators 7 by.BitAnd refl h
each_operator f h by.BitXor = all_at f all_operators 8 by.BitXor refl h
each_operator f h by.BitOr = all_at f all_operators 9 by.BitOr refl h
each_operator f h by.Less = all_at f all_operators 10 by.Less refl h
each_operator f h by.LessEqual = all_at f all_operators 11 by.LessEqual refl h
each_operator f h by.Greater = all_at f all_operators 12 by.Greater refl h
each_operator f h by.GreaterEqual = all_at f all_operators 13 by.GreaterEqual refl h
each_operator f h by.Equal = all_at f all_operators 14 by.Equal refl h
each_operator f h by.NotEqual = all_at f all_operators 15 by.NotEqual refl h
each_operator f h by.And = all_at f all_operators 16 by.And refl h
each_operator f h by.Or = all_at f all_operators 17 by.Or refl h

abbrev all_pairs : (BinaryOp → Base → Base → Bool) → Bool
all_pairs f = list_all (λ o. list_all (λ a. list_all (f o a) bases) bases) all_operators

each_pair : (f : BinaryOp → Base → Base → Bool) → all_pairs f ≡ true → (o : BinaryOp) (a b : Base) → f o a b ≡ true
each_pair f h o a b = each_base (f o a) (each_base (λ a. list_all (f o a) bases) (each_operator (λ o. list_all (λ a. list_all (f o a) bases) bases) h o) a) b

-- ---- types that are no arrays

abbrev pub Short : (Ty → Bool) → Type 0
Short test = (ty : Ty) → test ty ≡ true → ty.len ≡ 0

pub or_true : (a b : Bool) → (a || b) ≡ true → (a ≡ true) ⊎ (b ≡ true)
or_true true b h = inl refl
or_true false b h = inr h

short_or : (p q : Ty → Bool) → Short p → Short q → Short (λ ty. p ty || q ty)
short_or p q sp sq ty h = elim (or_true (p ty) (q ty) h) [ inl a ↦ sp ty a | inr b ↦ sq ty b ]

pub short_only : (b : Base) → Short (is_only b)
short_only b ty h = ap (λ (t : Ty). t.len) (same_type-true ty (only b) h)

pub short_triple : Short (λ ty. is_one_triple ty)
short_triple ty h = eqb-true ty.len 0 (and_parts (is_triple ty.base) (ty.len == 0) h).1

pub short_number : Short (λ ty. is_number ty)
short_number = short_or (is_only Int) (is_only Float) (short_only Int) (short_only Float)

pub short_arithmetic : Short (λ ty. is_arithmetic ty)
short_arithmetic = short_or (λ ty. is_number ty) (λ ty. is_one_triple ty) short_number short_triple

short_factor : Short (λ ty. is_factor ty)
short_factor = short_or (λ ty. is_number ty) (is_only Color) short_number (short_only Color)

pub only_base : (ty : Ty) → ty.len ≡ 0 → ty ≡ only ty.base
only_base ty h = λ i. record { base = ty.base; len = h i }

on_type_holds : (op : OpName) (t : Bool) (ty : Ty) (r : OpName × Ty) → operators.on_type op t ty ≡ Some r → t ≡ true
on_type_holds op true ty r h = refl
on_type_holds op false ty r h = none_is_not r h

short_equal : Short (λ ty. is_arithmetic ty || is_only Str ty || is_only Matrix ty)
short_equal = short_or (λ ty. is_arithmetic ty || is_only Str ty) (is_only Matrix) (short_or (λ ty. is_arithmetic ty) (is_only Str) short_arithmetic (short_only Str)) (short_only Matrix)

given_short : (o : BinaryOp) (ty : Ty) (r : OpName × Ty) → given o ty ≡ Some r → ty.len ≡ 0
given_short by.Add ty r h = short_or (λ ty. is_arithmetic ty) (is_only Closure) short_arithmetic (short_only Closure) ty (on_type_holds O.Add _ ty r h)
given_short by.Subtract ty r h = short_arithmetic ty (on_type_holds O.Sub _ ty r h)
given_short by.Multiply ty r h = short_or (λ ty. is_arithmetic ty) (is_only Matrix) short_arithmetic (short_only Matrix) ty (on_type_holds O.Mul _ ty r h)
given_short by.Divide ty r h = short_arithmetic ty (on_type_holds O.Div _ ty r h)
given_short by.Remainder ty r h = short_only Int ty (on_type_holds O.IRem _ ty r h)
given_short by.ShiftLeft ty r h = short_only Int ty (on_type_holds O.Shl _ ty r h)
given_short by.ShiftRight ty r h = short_only Int ty (on_type_holds O.Shr _ ty r h)
given_short by.BitAnd ty r h = short_only Int ty (on_type_holds O.BitAnd _ ty r h)
given_short by.BitXor ty r h = short_only Int ty (on_type_holds O.Xor _ ty r h)
given_short by.BitOr ty r h = short_only Int ty (on_type_holds O.BitOr _ ty r h)
given_short by.Less ty r h = short_number ty (on_type_holds O.Lt _ (only Int) r h)
given_short by.LessEqual ty r h = short_number ty (on_type_holds O.Le _ (only Int) r h)
given_short by.Greater ty r h = short_number ty (on_type_holds O.Gt _ (only Int) r h)
given_short by.GreaterEqual ty r h = short_number ty (on_type_holds O.Ge _ (only Int) r h)
given_short by.Equal ty r h = short_equal ty (on_type_holds O.Eq _ (only Int) r h)
given_short by.NotEqual ty r h = short_equal ty (on_type_holds O.Neq _ (only Int) r h)
given_short by.And ty r h = none_is_not r h
given_short by.Or ty r h = none_is_not r h

-- a type alone
pub record IsAlone (kind : Kind) : Type 0 where
  pub base : Base
  pub is : kind ≡ Value (only base)

alone : (ty : Ty) → ty.len ≡ 0 → IsAlone (Value ty)
alone ty h = record { base = ty.base; is = ap Value (only_base ty h) }

alone_same : (a b : Kind) → a ≡ b → IsAlone a → IsAlone b
alone_same a b e h = subst IsAlone e h

pub record BothAlone (a b : Kind) : Type 0 where
  pub left : IsAlone a
  pub right : IsAlone b

test_holds : {X : Type 0} (t : Bool) (o : Option X) → is_some (if t then o else None) ≡ true → t ≡ true
test_holds true o h = refl
test_holds false o h = absurd (false≢true h)

promotion_alone : (a b : Kind) → is_some (promotion_of a b) ≡ true → BothAlone a b
promotion_alone (Value a) (Value b) h =
    let p = and_parts (a.len == 0) (b.len == 0) (test_holds _ _ h) in
    record { left = alone a (eqb-true a.len 0 (p.0)); right = alone b (eqb-true b.len 0 (p.1)) }
promotion_alone (Value a) (Structure n) h = absurd (false≢true h)
promotion_alone (Value a) Void h = absurd (false≢true h)
promotion_alone (Structure m) (Value b) h = absurd (false≢true h)
promotion_alone (Structure m) (Structure n) h = absurd (false≢true h)
promotion_alone (Structure m) Void h = absurd (false≢true h)
promotion_alone Void (Value b) h = absurd (false≢true h)
promotion_alone Void (Structure n) h = absurd (false≢true h)
promotion_alone Void Void h = absurd (false≢true h)

type_alone : (test : Ty → Bool) → Short test → (a : Kind) → is_type test a ≡ true → IsAlone a
type_alone test short (Value a) h = alone a (short a h)
type_alone test short (Structure m) h = absurd (false≢true h)
type_alone test short Void h = absurd (false≢true h)

short_spatial : Short (λ ty. is_spatial_type ty)
short_spatial ty h = eqb-true ty.len 0 (and_parts (is_spatial ty.base) (ty.len == 0) h).1

joined_alone : (a b : Kind) (ty : Ty) → joined a b ≡ Some (Value ty) → ty.len ≡ 0 → BothAlone a b
joined_alone a b ty joins short =
    elim (same_kind a b) as (λ t. same_kind a b ≡ t → (if t then Some a else (if is_type is_spatial_type a && is_type is_spatial_type b then Some (Value (only Vector)) else (if is_some (promotion_of a b) then Some b else (if is_some (promotion_of b a) then Some a else None)))) ≡ Some (Value ty) → BothAlone a b) [
      | true ↦ λ same h.
          let left : IsAlone a = alone_same (Value ty) a (sym (some_same a (Value ty) h)) (alone ty short) in
          record { left = left; right = alone_same a b (same_kind-true a b same) left }
      | false ↦ λ other.
          elim (is_type is_spatial_type a && is_type is_spatial_type b) as (λ t. (is_type is_spatial_type a && is_type is_spatial_type b) ≡ t → (if t then Some (Value (only Vector)) else (if is_some (promotion_of a b) then Some b else (if is_some (promotion_of b a) then Some a else None))) ≡ Some (Value ty) → BothAlone a b) [
            | true ↦ λ both h. let p = and_parts (is_type is_spatial_type a) (is_type is_spatial_type b) both in
                record { left = type_alone (λ ty. is_spatial_type ty) short_spatial a (p.0); right = type_alone (λ ty. is_spatial_type ty) short_spatial b (p.1) }
            | false ↦ λ neither.
                elim (is_some (promotion_of a b)) as (λ t. is_some (promotion_of a b) ≡ t → (if t then Some b else (if is_some (promotion_of b a) then Some a else None)) ≡ Some (Value ty) → BothAlone a b) [
                  | true ↦ λ up h. promotion_alone a b up
                  | false ↦ λ not_up.
                      elim (is_some (promotion_of b a)) as (λ t. is_some (promotion_of b a) ≡ t → (if t then Some a else None) ≡ Some (Value ty) → BothAlone a b) [
                        | true ↦ λ down h. let p = promotion_alone b a down in record { left = p.right; right = p.left }
                        | false ↦ λ not_down h. none_is_not (Value ty) h
                      ] refl
                ] refl
          ] refl
    ] refl joins

scaling_alone : (o : BinaryOp) (a b : Kind) → is_scaling o a b ≡ true → BothAlone a b
scaling_alone by.Multiply a b h =
    elim (or_true (is_type is_factor a && same_kind b closure) (same_kind a closure && is_type is_factor b) h) [
      | inl x ↦ let p = and_parts (is_type is_factor a) (same_kind b closure) x in
          record { left = type_alone (λ ty. is_factor ty) short_factor a (p.0); right = record { base = Closure; is = same_kind-true b closure (p.1) } }
      | inr y ↦ let p = and_parts (same_kind a closure) (is_type is_factor b) y in
          record { left = record { base = Closure; is = same_kind-true a closure (p.0) }; right = type_alone (λ ty. is_factor ty) short_factor b (p.1) }
    ]
scaling_alone _ a b h = absurd (false≢true h)

one_kind_alone : (o : BinaryOp) (a b : Kind) (j : Option Kind) (r : operators.Operation) → joined a b ≡ j → on_one_kind o j ≡ Some r → BothAlone a b
one_kind_alone o a b None r is h = none_is_not r h
one_kind_alone o a b (Some (Value ty)) r is h =
    elim (given o ty) as (λ g. given o ty ≡ g → on_one_type (Value ty) g ≡ Some r → BothAlone a b) [
      | None ↦ λ was k. none_is_not r k
      | Some x ↦ λ was k. joined_alone a b ty is (given_short o ty x was)
    ] refl h
one_kind_alone o a b (Some (Structure m)) r is h = none_is_not r h
one_kind_alone o a b (Some Void) r is h = none_is_not r h

-- an operator's operands are no arrays
pub operation_alone : (o : BinaryOp) (a b : Kind) (r : operators.Operation) → operation o a b ≡ Some r → BothAlone a b
operation_alone o a b r h =
    elim (is_scaling o a b) as (λ t. is_scaling o a b ≡ t → (if t then Some (record { op = O.Mul; ty = only Closure; left = a; right = b }) else on_one_kind o (joined a b)) ≡ Some r → BothAlone a b) [
      | true ↦ λ scales k. scaling_alone o a b scales
      | false ↦ λ scales k. one_kind_alone o a b (joined a b) r refl k
    ] refl h

-- ---- the tables, by computing

abbrev operation_fits : Option operators.Operation → Bool
operation_fits None = true
operation_fits (Some o) = takes o.op o.ty (plain_types (Some o.left ∷ Some o.right ∷ []))

operators_fit : all_pairs (λ o a b. operation_fits (operation o (Value (only a)) (Value (only b)))) ≡ true
unfolding is_allowed
operators_fit = refl

-- the operation that an operator is takes its operands
pub operation_takes : (o : BinaryOp) (a b : Kind) (r : operators.Operation) → operation o a b ≡ Some r → takes r.op r.ty (plain_types (Some r.left ∷ Some r.right ∷ [])) ≡ true
operation_takes o a b r h =
    let both = operation_alone o a b r h in
    let at : operation_fits (operation o (Value (only both.left.base)) (Value (only both.right.base))) ≡ true =
    each_pair (λ o a b. operation_fits (operation o (Value (only a)) (Value (only b)))) operators_fit o both.left.base both.right.base in
    ap operation_fits (sym h ∙ (λ i. operation o (both.left.is i) (both.right.is i))) ∙ at

-- ---- operators of assignments

abbrev is_updating : BinaryOp → Bool
is_updating by.Add = true
is_updating by.Subtract = true
is_updating by.Multiply = true
is_updating by.Divide = true
is_updating by.ShiftLeft = true
is_updating by.ShiftRight = true
is_updating by.BitAnd = true
is_updating by.BitXor = true
is_updating by.BitOr = true
is_updating _ = false

operator_updates : (a : AssignOp) (o : BinaryOp) → operators.operator_of a ≡ Some o → is_updating o ≡ true
operator_updates to.Set o h = none_is_not o h
operator_updates to.Add o h = ap is_updating (sym (some_same by.Add o h))
operator_updates to.Subtract o h = ap is_updating (sym (some_same by.Subtract o h))
operator_updates to.Multiply o h = ap is_updating (sym (some_same by.Multiply o h))
operator_updates to.Divide o h = ap is_updating (sym (some_same by.Divide o h))
operator_updates to.ShiftLeft o h = ap is_updating (sym (some_same by.ShiftLeft o h))
operator_updates to.ShiftRight o h = ap is_updating (sym (some_same by.ShiftRight o h))
operator_updates to.BitAnd o h = ap is_updating (sym (some_same by.BitAnd o h))
operator_updates to.BitXor o h = ap is_updating (sym (some_same by.BitXor o h))
operator_updates to.BitOr o h = ap is_updating (sym (some_same by.BitOr o h))

-- the value of an operation goes to a kind by `=`
abbrev pub goes_to : Ty → Kind → Bool
goes_to ty kind = is_some (cost (record { kind = Value ty; zero_literal = false; writable = false }) kind)

abbrev implies : Bool → Bool → Bool
implies true b = b
implies false b = true

implied : (a b : Bool) → implies a b ≡ true → a ≡ true → b ≡ true
implied true b h is = h
implied false b h is = absurd (false≢true is)

abbrev update_fits : BinaryOp → Kind → Option operators.Operation → Bool
update_fits o a None = true
update_fits o a (Some r) = implies (is_updating o) (implies (goes_to r.ty a) (updates_by r.op r.ty a (Some r.right)))

updates_fit : all_pairs (λ o a b. update_fits o (Value (only a)) (operation o (Value (only a)) (Value (only b)))) ≡ true
unfolding is_allowed
updates_fit = refl

pub operation_updates : (assign : AssignOp) (o : BinaryOp) (a b : Kind) (r : operators.Operation) → operators.operator_of assign ≡ Some o → operation o a b ≡ Some r → goes_to r.ty a ≡ true → updates_by r.op r.ty a (Some r.right) ≡ true
operation_updates assign o a b r is h goes =
    let both = operation_alone o a b r h in
    let at : update_fits o (Value (only both.left.base)) (operation o (Value (only both.left.base)) (Value (only both.right.base))) ≡ true =
    each_pair (λ o a b. update_fits o (Value (only a)) (operation o (Value (only a)) (Value (only b)))) updates_fit o both.left.base both.right.base in
    let here : update_fits o a (Some r) ≡ true = ap (update_fits o a) (sym h) ∙ (λ i. update_fits o (both.left.is i) (operation o (both.left.is i) (both.right.is i))) ∙ at in
    implied _ _ (implied _ _ here (operator_updates assign o is)) goes

-- ---- one operand

abbrev one_fits : OpName → (Ty → Bool) → (Ty → Ty) → Base → Bool
one_fits op test gives b = implies (test (only b)) (takes op (gives (only b)) (Some (only b ∷ [])))

one_takes : (op : OpName) (test : Ty → Bool) (gives : Ty → Ty) → Short test → list_all (one_fits op test gives) bases ≡ true → (ty : Ty) → test ty ≡ true → takes op (gives ty) (Some (ty ∷ [])) ≡ true
one_takes op test gives short all ty h =
    let is = only_base ty (short ty h) in
    ap (λ (t : Ty). takes op (gives t) (Some (t ∷ []))) is ∙ implied _ _ (each_base (one_fits op test gives) all ty.base) (ap test (sym is) ∙ h)

pub neg_takes : (ty : Ty) → is_arithmetic ty ≡ true → takes O.Neg ty (Some (ty ∷ [])) ≡ true
unfolding is_allowed
neg_takes = one_takes O.Neg (λ ty. is_arithmetic ty) (λ ty. ty) short_arithmetic refl

pub plus_takes : (ty : Ty) → is_arithmetic ty ≡ true → takes O.Assign ty (Some (ty ∷ [])) ≡ true
unfolding is_allowed
plus_takes = one_takes O.Assign (λ ty. is_arithmetic ty) (λ ty. ty) short_arithmetic refl

pub compl_takes : (ty : Ty) → is_only Int ty ≡ true → takes O.Compl ty (Some (ty ∷ [])) ≡ true
unfolding is_allowed
compl_takes = one_takes O.Compl (is_only Int) (λ ty. ty) (short_only Int) refl

pub not_takes : (ty : Ty) → is_number ty ≡ true → takes O.Not (only Int) (Some (ty ∷ [])) ≡ true
unfolding is_allowed
not_takes = one_takes O.Not (λ ty. is_number ty) (λ ty. only Int) short_number refl

-- ---- conversions

abbrev conversion_fits : Base → Base → Bool
conversion_fits wanted from = implies (is_convertible (only wanted) (only from)) (takes (conversion_of (only wanted) (only from)) (only wanted) (Some (only from ∷ [])))

conversions_fit : list_all (λ a. list_all (conversion_fits a) bases) bases ≡ true
unfolding is_allowed
conversions_fit = refl

pub conversion_takes : (wanted from : Ty) → is_convertible wanted from ≡ true → takes (conversion_of wanted from) wanted (Some (from ∷ [])) ≡ true
conversion_takes wanted from h =
    let short : (wanted.len ≡ 0) × (from.len ≡ 0) = elim (or_true (is_number wanted && is_number from) (is_one_triple wanted && is_arithmetic from) h) [
      | inl x ↦ let p = and_parts (is_number wanted) (is_number from) x in (short_number wanted (p.0), short_number from (p.1))
      | inr y ↦ let p = and_parts (is_one_triple wanted) (is_arithmetic from) y in (short_triple wanted (p.0), short_arithmetic from (p.1))
    ] in
    let t = only_base wanted (short.0) in
    let f = only_base from (short.1) in
    (λ i. takes (conversion_of (t i) (f i)) (t i) (Some (f i ∷ []))) ∙ implied _ _ (each_base (conversion_fits wanted.base) (each_base (λ a. list_all (conversion_fits a) bases) conversions_fit wanted.base) from.base) ((λ i. is_convertible (sym t i) (sym f i)) ∙ h)
