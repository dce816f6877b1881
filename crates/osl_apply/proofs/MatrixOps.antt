-- Operations that write matrices.
use Rattle.std.proofs.Common.{◌≡◌, ℕ, Bool, true, false, ◌&&◌, ◌||◌, eqb, ℤ, List, [], ◌∷◌, length, map, replicate, refl, sym, ap, subst, ◌∙◌, ⊎_elim, arith}
use Rattle.std.specs.List.{list_any}
use Rattle.std.specs.Cmp.Lexicographic.{pointwise}
use Rattle.std.proofs.lemmas.Bool.{false≢true, and_parts, and_from, and_left, and_right, or_cases, or_left, or_right, eqb-true, eq-eqb, cond-true, cases_Bool}
use Rattle.osl_value.specs.declared.op_name.OpName.{OpName}
use Rattle.osl_value.specs.declared.op_name.OpName.TheVariants.{Assign, Mul, Matrix as MatrixOp, Transpose, ARef, MxCompAssign}
use Rattle.osl_value.specs.declared.types.Base.TheVariants.{Int, Float, Matrix}
use Rattle.osl_value.specs.declared.types.Ty.{Ty}
use Rattle.osl_value.specs.AnyValue.{AnyValue, type_of, with_numbers, is_array, is_assignable, is_number, is_one_triple}
use Rattle.osl_value.specs.Apply.{apply, takes_other}
use Rattle.osl_value.specs.Forms.{AnInt, AFloat, ANumber, AMatrix, fits, seen_of}
use Rattle.osl_value.specs.Geometry.{diagonal, mat_mul, mxcompassign}
use Rattle.osl_value.specs.Table.{Rule, On, Made, Assigned, ElementRead, ElementWritten, LengthRead, table}
use Rattle.osl_value.specs.Types.{only, is_only, same_type}
use Rattle.osl_value.proofs.SameTypes.{same_type-true, same_type-refl}
use Rattle.osl_apply.specs.Operands.{takes}
use Rattle.osl_apply.proofs.Counts.{rule_count, takes_count_of}
use Rattle.osl_apply.proofs.Forms.{One, Two, one_applied, two_applied}
use Rattle.osl_apply.proofs.Others.{assigned_at}
use Rattle.osl_apply.proofs.Rules.{only_rule, others_of, in_others, first_rule, later_rule, last_rule}
use Rattle.osl_apply.proofs.Rules.{Others as OtherRules}

abbrev pub matrix : Ty
matrix = only Matrix

-- whether a rule may write a matrix
abbrev pub may_write_matrix : Rule → Bool
may_write_matrix (On forms result f) = fits result matrix
may_write_matrix (Made count result) = fits result matrix
may_write_matrix Assigned = true
may_write_matrix ElementRead = true
may_write_matrix ElementWritten = false
may_write_matrix LengthRead = false

-- no array is a matrix
no_array : (ty : Ty) → is_array ty ≡ true → same_type matrix ty ≡ false
no_array ty h = ⊎_elim (λ e. absurd (false≢true (ap is_array (same_type-true matrix ty e) ∙ h))) (λ e. e) (cases_Bool (same_type matrix ty))

writes_matrix : (types : List Ty) (rule : Rule) → takes_other matrix types rule ≡ true → may_write_matrix rule ≡ true
writes_matrix types (On forms result f) h = (and_parts (fits result matrix) (pointwise fits forms types) h).0
writes_matrix types (Made count result) h = (and_parts (fits result matrix) (pointwise fits (replicate count ANumber) types) h).0
writes_matrix types Assigned h = refl
writes_matrix types ElementRead h = refl
writes_matrix [] ElementWritten h = absurd (false≢true h)
writes_matrix (t ∷ []) ElementWritten h = absurd (false≢true h)
writes_matrix (t ∷ (u ∷ [])) ElementWritten h = absurd (false≢true h)
writes_matrix (t ∷ (u ∷ (v ∷ []))) ElementWritten h =
    let p = and_parts _ (same_type matrix t) h in
    let array = (and_parts (is_array t) _ (and_parts _ _ p.0).0).0 in
    absurd (false≢true (sym (no_array t array) ∙ p.1))
writes_matrix (t ∷ (u ∷ (v ∷ (w ∷ types)))) ElementWritten h = absurd (false≢true h)
writes_matrix [] LengthRead h = absurd (false≢true h)
writes_matrix (t ∷ []) LengthRead h = (and_parts (is_array t) false h).1
writes_matrix (t ∷ (u ∷ types)) LengthRead h = absurd (false≢true h)

abbrev pub gives_matrix : ℕ → Rule → Bool
gives_matrix n rule = may_write_matrix rule && eqb (rule_count rule) n

abbrev pub may_give_matrix : OpName → ℕ → Bool
may_give_matrix op n = list_any (gives_matrix n) (table op).others

any_weaker : (f g : Rule → Bool) → ((rule : Rule) → f rule ≡ true → g rule ≡ true) → (rules : List Rule) → list_any f rules ≡ true → list_any g rules ≡ true
any_weaker f g h [] e = e
any_weaker f g h (rule ∷ rules) e =
    ⊎_elim (λ a. or_left (g rule) (list_any g rules) (h rule a)) (λ b. or_right (g rule) (list_any g rules) (any_weaker f g h rules b)) (or_cases (f rule) (list_any f rules) e)

pub matrix_rules : (op : OpName) (args : List AnyValue) → takes op matrix args ≡ true → OtherRules op matrix args (table op).others
matrix_rules op args h = in_others op matrix args (record { no_ints = and_left _ _ (and_right _ _ refl); no_floats = and_left _ _ (and_right _ _ refl) }) h

-- an operation that is allowed there may give a matrix on so many operands
pub given_matrix : (op : OpName) (args : List AnyValue) (n : ℕ) → length (map type_of args) ≡ n → takes op matrix args ≡ true → may_give_matrix op n ≡ true
given_matrix op args n count h =
    any_weaker (takes_other matrix (map type_of args)) (gives_matrix n)
    (λ rule t. and_from (may_write_matrix rule) (eqb (rule_count rule) n) (writes_matrix (map type_of args) rule t) (eq-eqb (rule_count rule) n (takes_count_of matrix (map type_of args) rule t ∙ count)))
    (table op).others (matrix_rules op args h).some

-- ---- one operand

pub record MatrixCopied (name : OpName) (a : AnyValue) : Type 0 where
  pub reads : is_only Matrix (type_of a) ≡ true
  pub value : apply name matrix (a ∷ []) ≡ a

only_matrix : (t : Ty) → is_assignable matrix t ≡ true → matrix ≡ t
only_matrix t h =
    ⊎_elim
    (λ e. ⊎_elim (λ f. same_type-true matrix t f) (λ f. absurd (false≢true (and_parts (is_only Float matrix) (is_only Int t) f).0)) (or_cases (same_type matrix t) (is_only Float matrix && is_only Int t) e))
    (λ e. absurd (false≢true (and_parts (is_one_triple matrix) (is_number t || is_one_triple t) e).0))
    (or_cases (same_type matrix t || (is_only Float matrix && is_only Int t)) (is_one_triple matrix && (is_number t || is_one_triple t)) h)

pub matrix_copied : (name : OpName) (a : AnyValue) → name ≡ Assign → takes name matrix (a ∷ []) ≡ true → MatrixCopied name a
matrix_copied name a is h =
    let p = assigned_at name matrix a is h in
    let e = only_matrix (type_of a) p.fits_it in
    record {
      reads = subst (λ t. is_only Matrix t ≡ true) e (same_type-refl matrix);
      value = p.value ∙ cond-true _ _ _ (subst (λ t. same_type matrix t ≡ true) e (same_type-refl matrix));
    }

abbrev diagonal_rule : Rule
diagonal_rule = On (ANumber ∷ []) AMatrix diagonal

diagonal_here : (a : AnyValue) → takes MatrixOp matrix (a ∷ []) ≡ true → One MatrixOp ANumber AMatrix diagonal matrix a
diagonal_here a h =
    let o = others_of MatrixOp (diagonal_rule ∷ Made 16 AMatrix ∷ []) matrix (a ∷ []) refl h in
    ⊎_elim
    (λ one. one_applied MatrixOp ANumber AMatrix diagonal matrix a (first_rule MatrixOp matrix (a ∷ []) diagonal_rule (Made 16 AMatrix ∷ []) one o))
    (λ other.
    let p = last_rule MatrixOp matrix (a ∷ []) (Made 16 AMatrix) (later_rule MatrixOp matrix (a ∷ []) diagonal_rule (Made 16 AMatrix ∷ []) other o) in
    let n : 16 ≡ 1 = takes_count_of matrix (type_of a ∷ []) (Made 16 AMatrix) p.takes in absurd (omega (arith, n)))
    (cases_Bool (takes_other matrix (type_of a ∷ []) diagonal_rule))

pub diagonal_at : (name : OpName) (a : AnyValue) → name ≡ MatrixOp → takes name matrix (a ∷ []) ≡ true → One name ANumber AMatrix diagonal matrix a
diagonal_at name a is h = subst (λ n. One n ANumber AMatrix diagonal matrix a) (sym is) (diagonal_here a (subst (λ n. takes n matrix (a ∷ []) ≡ true) is h))

pub none_left_of_one_matrix : (op : OpName) → may_give_matrix op 1 ≡ true → (op ≡ Assign → ⊥) → (op ≡ MatrixOp → ⊥) → (op ≡ Transpose → ⊥) → ⊥
none_left_of_one_matrix Assign h a b c = a refl
none_left_of_one_matrix MatrixOp h a b c = b refl
none_left_of_one_matrix Transpose h a b c = c refl
none_left_of_one_matrix _ h a b c = absurd (false≢true h)

-- ---- two operands

mul_here : (a b : AnyValue) → takes Mul matrix (a ∷ b ∷ []) ≡ true → Two Mul AMatrix AMatrix AMatrix mat_mul matrix a b
mul_here a b h =
    let o = matrix_rules Mul (a ∷ b ∷ []) h in
    two_applied Mul AMatrix AMatrix AMatrix mat_mul matrix a b (first_rule Mul matrix (a ∷ b ∷ []) (On (AMatrix ∷ AMatrix ∷ []) AMatrix mat_mul) _ (first_takes (a ∷ b ∷ []) o.some) o)
  where
    first_takes : (args : List AnyValue) → list_any (takes_other matrix (map type_of args)) (table Mul).others ≡ true → takes_other matrix (map type_of args) (On (AMatrix ∷ AMatrix ∷ []) AMatrix mat_mul) ≡ true
    first_takes args e = ⊎_elim (λ x. x) (λ x. absurd (false≢true x)) (or_cases (takes_other matrix (map type_of args) (On (AMatrix ∷ AMatrix ∷ []) AMatrix mat_mul)) false e)

pub mat_mul_at : (name : OpName) (a b : AnyValue) → name ≡ Mul → takes name matrix (a ∷ b ∷ []) ≡ true → Two name AMatrix AMatrix AMatrix mat_mul matrix a b
mat_mul_at name a b is h = subst (λ n. Two n AMatrix AMatrix AMatrix mat_mul matrix a b) (sym is) (mul_here a b (subst (λ n. takes n matrix (a ∷ b ∷ []) ≡ true) is h))

pub none_left_of_two_matrix : (op : OpName) → may_give_matrix op 2 ≡ true → (op ≡ Mul → ⊥) → (op ≡ ARef → ⊥) → ⊥
none_left_of_two_matrix Mul h a b = a refl
none_left_of_two_matrix ARef h a b = b refl
none_left_of_two_matrix _ h a b = absurd (false≢true h)

-- ---- four, and sixteen

pub four_matrix : (op : OpName) → may_give_matrix op 4 ≡ true → op ≡ MxCompAssign
four_matrix MxCompAssign h = refl
four_matrix _ h = absurd (false≢true h)

-- where there are not one, two or four operands
pub record ByRows (op : OpName) (n : ℕ) : Type 0 where
  pub name_is : op ≡ MatrixOp
  pub count_is : n ≡ 16

pub many_matrix : (op : OpName) (n : ℕ) → may_give_matrix op n ≡ true → (n ≡ 1 → ⊥) → (n ≡ 2 → ⊥) → (n ≡ 4 → ⊥) → ByRows op n
many_matrix Assign n h a b c = absurd (a (sym (eqb-true 1 n (⊎_elim (λ x. x) (λ x. absurd (false≢true x)) (or_cases (eqb 1 n) false h)))))
many_matrix Transpose n h a b c = absurd (a (sym (eqb-true 1 n (⊎_elim (λ x. x) (λ x. absurd (false≢true x)) (or_cases (eqb 1 n) false h)))))
many_matrix ARef n h a b c = absurd (b (sym (eqb-true 2 n (⊎_elim (λ x. x) (λ x. absurd (false≢true x)) (or_cases (eqb 2 n) false h)))))
many_matrix Mul n h a b c = absurd (b (sym (eqb-true 2 n (⊎_elim (λ x. x) (λ x. absurd (false≢true x)) (or_cases (eqb 2 n) false h)))))
many_matrix MxCompAssign n h a b c = absurd (c (sym (eqb-true 4 n (⊎_elim (λ x. x) (λ x. absurd (false≢true x)) (or_cases (eqb 4 n) false h)))))
many_matrix MatrixOp n h a b c =
    ⊎_elim (λ x. absurd (a (sym (eqb-true 1 n x))))
    (λ x. record { name_is = refl; count_is = sym (eqb-true 16 n (⊎_elim (λ y. y) (λ y. absurd (false≢true y)) (or_cases (eqb 16 n) false x))) })
    (or_cases (eqb 1 n) (eqb 16 n || false) h)
many_matrix _ n h a b c = absurd (false≢true h)

-- the numbers that make up a matrix by rows
pub record RowNumbers (name : OpName) (args : List AnyValue) : Type 0 where
  pub numbers : pointwise fits (replicate 16 ANumber) (map type_of args) ≡ true
  pub value : apply name matrix args ≡ with_numbers matrix (map (seen_of ANumber) args)

rows_here : (args : List AnyValue) → length (map type_of args) ≡ 16 → takes MatrixOp matrix args ≡ true → RowNumbers MatrixOp args
rows_here args n h =
    let o = others_of MatrixOp (diagonal_rule ∷ Made 16 AMatrix ∷ []) matrix args refl h in
    ⊎_elim
    (λ one. let m : 1 ≡ length (map type_of args) = takes_count_of matrix (map type_of args) diagonal_rule one in absurd (omega (arith, m, n)))
    (λ other.
    let p = last_rule MatrixOp matrix args (Made 16 AMatrix) (later_rule MatrixOp matrix args diagonal_rule (Made 16 AMatrix ∷ []) other o) in
    record { numbers = (and_parts true (pointwise fits (replicate 16 ANumber) (map type_of args)) p.takes).1; value = p.value })
    (cases_Bool (takes_other matrix (map type_of args) diagonal_rule))

pub rows_at : (name : OpName) (args : List AnyValue) → name ≡ MatrixOp → length (map type_of args) ≡ 16 → takes name matrix args ≡ true → RowNumbers name args
rows_at name args is n h = subst (λ o. RowNumbers o args) (sym is) (rows_here args n (subst (λ o. takes o matrix args ≡ true) is h))

-- an element of a matrix is written
pub record Four (name : OpName) (a b c d : AnyValue) : Type 0 where
  pub first : fits AMatrix (type_of a) ≡ true
  pub second : fits AnInt (type_of b) ≡ true
  pub third : fits AnInt (type_of c) ≡ true
  pub fourth : fits AFloat (type_of d) ≡ true
  pub value : apply name matrix (a ∷ b ∷ c ∷ d ∷ []) ≡ with_numbers matrix (mxcompassign (seen_of AMatrix a) (seen_of AnInt b) (seen_of AnInt c) (seen_of AFloat d))

pub four_at : (name : OpName) (a b c d : AnyValue) → name ≡ MxCompAssign → takes name matrix (a ∷ b ∷ c ∷ d ∷ []) ≡ true → Four name a b c d
four_at name a b c d is h =
    let p = only_rule name (On (AMatrix ∷ AnInt ∷ AnInt ∷ AFloat ∷ []) AMatrix mxcompassign) matrix (a ∷ b ∷ c ∷ d ∷ []) (ap table is) h in
    let q = and_parts true (fits AMatrix (type_of a) && (fits AnInt (type_of b) && (fits AnInt (type_of c) && (fits AFloat (type_of d) && true)))) p.takes in
    let r = and_parts (fits AMatrix (type_of a)) (fits AnInt (type_of b) && (fits AnInt (type_of c) && (fits AFloat (type_of d) && true))) q.1 in
    let s = and_parts (fits AnInt (type_of b)) (fits AnInt (type_of c) && (fits AFloat (type_of d) && true)) r.1 in
    let t = and_parts (fits AnInt (type_of c)) (fits AFloat (type_of d) && true) s.1 in
    record { first = r.0; second = s.0; third = t.0; fourth = (and_parts (fits AFloat (type_of d)) true t.1).0; value = p.value }

pub four_gives : {name : OpName} {a b c d : AnyValue} → Four name a b c d → (xs : List ℤ) → xs ≡ mxcompassign (seen_of AMatrix a) (seen_of AnInt b) (seen_of AnInt c) (seen_of AFloat d)
    → with_numbers matrix xs ≡ apply name matrix (a ∷ b ∷ c ∷ d ∷ [])
four_gives o xs e = ap (with_numbers matrix) e ∙ sym o.value
