-- How many operands an operation takes, and of which types.
use Rattle.std.proofs.Common.{◌≡◌, ℕ, zero, suc, ◌≤◌, Bool, true, false, ◌&&◌, ◌||◌, not, eqb, leb, List, [], ◌∷◌, length, map, replicate, refl, sym, ap, subst, ◌∙◌, arith, ⊎_elim}
use Rattle.std.specs.List.{list_all, list_any}
use Rattle.std.specs.Cmp.Lexicographic.{pointwise}
use Rattle.std.proofs.lemmas.Bool.{false≢true, and_parts, and_from, and_left, and_right, or_cases, or_from, or_left, or_right, not-true, eqb-true, eq-eqb, leb-true}
use Rattle.osl_value.specs.declared.op_name.OpName.{OpName}
use Rattle.osl_value.specs.declared.op_name.OpName.TheVariants.{Assign}
use Rattle.osl_value.specs.declared.types.Base.TheVariants.{Int, Matrix}
use Rattle.osl_value.specs.declared.types.Ty.{Ty}
use Rattle.osl_value.specs.AnyValue.{AnyValue, type_of, is_array}
use Rattle.osl_value.specs.Apply.{is_allowed, takes_count, takes_ints, takes_floats, takes_other, row_takes, is_float_part}
use Rattle.osl_value.specs.Forms.{Form, AnInt, AFloat, ANumber, Floats, ATriple, APoint, ANormal, AMatrix, AString, AClosure, AFactor, fits}
use Rattle.osl_value.specs.Numbers.{Numeric, arity}
use Rattle.osl_value.specs.Table.{Rule, On, Made, Assigned, ElementRead, ElementWritten, LengthRead, Row, table}
use Rattle.osl_value.specs.Types.{only, is_only}
use Rattle.osl_apply.specs.Operands.{takes}

-- ---- rules

abbrev pub is_matrix_form : Form → Bool
is_matrix_form AMatrix = true
is_matrix_form _ = false

-- a form other than a matrix
matrix_form : (form : Form) (ty : Ty) → is_matrix_form form ≡ true → is_only Matrix ty ≡ false → fits form ty ≡ false
matrix_form AMatrix ty h e = e
matrix_form AnInt ty h e = absurd (false≢true h)
matrix_form AFloat ty h e = absurd (false≢true h)
matrix_form ANumber ty h e = absurd (false≢true h)
matrix_form Floats ty h e = absurd (false≢true h)
matrix_form ATriple ty h e = absurd (false≢true h)
matrix_form APoint ty h e = absurd (false≢true h)
matrix_form ANormal ty h e = absurd (false≢true h)
matrix_form AString ty h e = absurd (false≢true h)
matrix_form AClosure ty h e = absurd (false≢true h)
matrix_form AFactor ty h e = absurd (false≢true h)

other_form : (form : Form) (ty : Ty) → is_only Matrix ty ≡ false → fits form ty ≡ true → not (is_matrix_form form) ≡ true
other_form AMatrix ty e h = absurd (false≢true (sym e ∙ h))
other_form AnInt ty e h = refl
other_form AFloat ty e h = refl
other_form ANumber ty e h = refl
other_form Floats ty e h = refl
other_form ATriple ty e h = refl
other_form APoint ty e h = refl
other_form ANormal ty e h = refl
other_form AString ty e h = refl
other_form AClosure ty e h = refl
other_form AFactor ty e h = refl

-- how many operands a rule takes
abbrev pub rule_count : Rule → ℕ
rule_count (On forms result f) = length forms
rule_count (Made count result) = count
rule_count Assigned = 1
rule_count ElementRead = 2
rule_count ElementWritten = 3
rule_count LengthRead = 1

-- whether it may write something else than a matrix
abbrev pub writes_other : Rule → Bool
writes_other (On forms result f) = not (is_matrix_form result)
writes_other (Made count result) = not (is_matrix_form result)
writes_other Assigned = true
writes_other ElementRead = true
writes_other ElementWritten = true
writes_other LengthRead = true

same_length : (forms : List Form) (types : List Ty) → pointwise fits forms types ≡ true → length forms ≡ length types
same_length [] [] h = refl
same_length [] (t ∷ types) h = absurd (false≢true h)
same_length (form ∷ forms) [] h = absurd (false≢true h)
same_length (form ∷ forms) (t ∷ types) h = ap suc (same_length forms types (and_parts (fits form t) (pointwise fits forms types) h).1)

length_replicate : (n : ℕ) (form : Form) → length (replicate n form) ≡ n
length_replicate zero form = refl
length_replicate (suc n) form = ap suc (length_replicate n form)

-- a rule that takes arguments takes so many
pub takes_count_of : (ty : Ty) (types : List Ty) (rule : Rule) → takes_other ty types rule ≡ true → rule_count rule ≡ length types
takes_count_of ty types (On forms result f) h = same_length forms types (and_parts (fits result ty) (pointwise fits forms types) h).1
takes_count_of ty types (Made count result) h =
    sym (length_replicate count ANumber) ∙ same_length (replicate count ANumber) types (and_parts (fits result ty) (pointwise fits (replicate count ANumber) types) h).1
takes_count_of ty [] Assigned h = absurd (false≢true h)
takes_count_of ty (t ∷ []) Assigned h = refl
takes_count_of ty (t ∷ (u ∷ types)) Assigned h = absurd (false≢true h)
takes_count_of ty [] ElementRead h = absurd (false≢true h)
takes_count_of ty (t ∷ []) ElementRead h = absurd (false≢true h)
takes_count_of ty (t ∷ (u ∷ [])) ElementRead h = refl
takes_count_of ty (t ∷ (u ∷ (v ∷ types))) ElementRead h = absurd (false≢true h)
takes_count_of ty [] ElementWritten h = absurd (false≢true h)
takes_count_of ty (t ∷ []) ElementWritten h = absurd (false≢true h)
takes_count_of ty (t ∷ (u ∷ [])) ElementWritten h = absurd (false≢true h)
takes_count_of ty (t ∷ (u ∷ (v ∷ []))) ElementWritten h = refl
takes_count_of ty (t ∷ (u ∷ (v ∷ (w ∷ types)))) ElementWritten h = absurd (false≢true h)
takes_count_of ty [] LengthRead h = absurd (false≢true h)
takes_count_of ty (t ∷ []) LengthRead h = refl
takes_count_of ty (t ∷ (u ∷ types)) LengthRead h = absurd (false≢true h)

writes_other_of : (ty : Ty) (types : List Ty) (rule : Rule) → is_only Matrix ty ≡ false → takes_other ty types rule ≡ true → writes_other rule ≡ true
writes_other_of ty types (On forms result f) e h = other_form result ty e (and_parts (fits result ty) (pointwise fits forms types) h).0
writes_other_of ty types (Made count result) e h = other_form result ty e (and_parts (fits result ty) (pointwise fits (replicate count ANumber) types) h).0
writes_other_of ty types Assigned e h = refl
writes_other_of ty types ElementRead e h = refl
writes_other_of ty types ElementWritten e h = refl
writes_other_of ty types LengthRead e h = refl

-- ---- rows

abbrev pub gives_so_many : ℕ → Rule → Bool
gives_so_many n rule = writes_other rule && eqb (rule_count rule) n

abbrev pub takes_so_many : Numeric → ℕ → Bool
takes_so_many f n = not (eqb (arity f) 0) && eqb (arity f) n

-- whether the operation may take so many operands, not ints alone, and write no matrix
abbrev pub may_give : OpName → ℕ → Bool
may_give op n = takes_so_many (table op).floats n || list_any (gives_so_many n) (table op).others

any_weaker : (f g : Rule → Bool) → ((rule : Rule) → f rule ≡ true → g rule ≡ true) → (rules : List Rule) → list_any f rules ≡ true → list_any g rules ≡ true
any_weaker f g h [] e = e
any_weaker f g h (rule ∷ rules) e =
    ⊎_elim (λ a. or_left (g rule) (list_any g rules) (h rule a)) (λ b. or_right (g rule) (list_any g rules) (any_weaker f g h rules b)) (or_cases (f rule) (list_any f rules) e)

row_gives : (row : Row) (ty : Ty) (types : List Ty) → is_only Matrix ty ≡ false → takes_ints row ty types ≡ false → row_takes row ty types ≡ true
    → (takes_so_many row.floats (length types) || list_any (gives_so_many (length types)) row.others) ≡ true
row_gives row ty types m i h =
    let ints = takes_ints row ty types in
    let floats = takes_floats row ty types in
    let many = takes_so_many row.floats (length types) in
    let rules = list_any (gives_so_many (length types)) row.others in
    ⊎_elim
    (λ e. ⊎_elim (λ a. absurd (false≢true (sym i ∙ a)))
    (λ b. or_left many rules (and_parts many (fits Floats ty) (and_parts (many && fits Floats ty) (list_all (is_float_part ty) types) b).0).0)
    (or_cases ints floats e))
    (λ e. or_right many rules (any_weaker (takes_other ty types) (gives_so_many (length types))
    (λ rule t. and_from (writes_other rule) (eqb (rule_count rule) (length types)) (writes_other_of ty types rule m t) (eq-eqb (rule_count rule) (length types) (takes_count_of ty types rule t))) row.others e))
    (or_cases (ints || floats) (list_any (takes_other ty types) row.others) h)

-- an operation that is allowed there may give a value on so many operands
pub given : (op : OpName) (ty : Ty) (args : List AnyValue) (n : ℕ) → length (map type_of args) ≡ n → is_only Matrix ty ≡ false
    → takes_ints (table op) ty (map type_of args) ≡ false → takes op ty args ≡ true → may_give op n ≡ true
unfolding is_allowed
given op ty args n count m i h = subst (λ k. may_give op k ≡ true) count (row_gives (table op) ty (map type_of args) m i h)

-- ---- ints alone

-- no rule takes these types and writes something else than a matrix
abbrev pub refuses : List Ty → Rule → Bool
refuses types (On forms result f) = is_matrix_form result || not (pointwise fits forms types)
refuses types (Made count result) = is_matrix_form result || not (pointwise fits (replicate count ANumber) types)
refuses types Assigned = not (eqb (length types) 1)
refuses [] ElementRead = true
refuses (t ∷ types) ElementRead = not (is_array t)
refuses [] ElementWritten = true
refuses (t ∷ types) ElementWritten = not (is_array t)
refuses [] LengthRead = true
refuses (t ∷ types) LengthRead = not (is_array t)

pub refused : (ty : Ty) (types : List Ty) (rule : Rule) → is_only Matrix ty ≡ false → refuses types rule ≡ true → takes_other ty types rule ≡ false
refused ty types (On forms result f) m h =
    ⊎_elim (λ e. and_left _ _ (matrix_form result ty e m)) (λ e. and_right _ _ (not-true _ e)) (or_cases (is_matrix_form result) (not (pointwise fits forms types)) h)
refused ty types (Made count result) m h =
    ⊎_elim (λ e. and_left _ _ (matrix_form result ty e m)) (λ e. and_right _ _ (not-true _ e)) (or_cases (is_matrix_form result) (not (pointwise fits (replicate count ANumber) types)) h)
refused ty [] Assigned m h = refl
refused ty (t ∷ []) Assigned m h = absurd (false≢true h)
refused ty (t ∷ (u ∷ types)) Assigned m h = refl
refused ty [] ElementRead m h = refl
refused ty (t ∷ []) ElementRead m h = refl
refused ty (t ∷ (u ∷ [])) ElementRead m h = and_left _ _ (and_left _ _ (not-true _ h))
refused ty (t ∷ (u ∷ (v ∷ types))) ElementRead m h = refl
refused ty [] ElementWritten m h = refl
refused ty (t ∷ []) ElementWritten m h = refl
refused ty (t ∷ (u ∷ [])) ElementWritten m h = refl
refused ty (t ∷ (u ∷ (v ∷ []))) ElementWritten m h = and_left _ _ (and_left _ _ (and_left _ _ (not-true _ h)))
refused ty (t ∷ (u ∷ (v ∷ (w ∷ types)))) ElementWritten m h = refl
refused ty [] LengthRead m h = refl
refused ty (t ∷ []) LengthRead m h = and_left _ _ (not-true _ h)
refused ty (t ∷ (u ∷ types)) LengthRead m h = refl

pub all_refused : (ty : Ty) (types : List Ty) (rules : List Rule) → is_only Matrix ty ≡ false → list_all (refuses types) rules ≡ true → list_any (takes_other ty types) rules ≡ false
all_refused ty types [] m h = refl
all_refused ty types (rule ∷ rules) m h =
    let p = and_parts (refuses types rule) (list_all (refuses types) rules) h in
    or_from _ _ (refused ty types rule m p.0) (all_refused ty types rules m p.1)

abbrev pub int : Ty
int = only Int

-- no operation but a copy and a diagonal takes one int by a rule, and none two
abbrev pub may_take_one : OpName → Bool
may_take_one Assign = true
may_take_one _ = false

pub one_int_refused : (op : OpName) → may_take_one op ≡ false → list_all (refuses (int ∷ [])) (table op).others ≡ true
one_int_refused Assign h = absurd (false≢true (sym h))
one_int_refused _ h = refl

pub two_ints_refused : (op : OpName) → list_all (refuses (int ∷ int ∷ [])) (table op).others ≡ true
two_ints_refused Assign = refl
two_ints_refused _ = refl

pub not_assign : (op : OpName) → (op ≡ Assign → ⊥) → may_take_one op ≡ false
not_assign Assign h = absurd (h refl)
not_assign _ h = refl

-- ---- no operation takes more than three operands, but one that writes matrices

abbrev pub is_small : Rule → Bool
is_small rule = not (writes_other rule) || leb (rule_count rule) 3

abbrev pub all_small : OpName → Bool
all_small op = (leb (arity (table op).ints) 3 && leb (arity (table op).floats) 3) && list_all is_small (table op).others

each_small : (op : OpName) → all_small op ≡ true
each_small Assign = refl
each_small _ = refl

small_rule : (ty : Ty) (types : List Ty) (rules : List Rule) → is_only Matrix ty ≡ false → list_all is_small rules ≡ true → list_any (takes_other ty types) rules ≡ true → length types ≤ 3
small_rule ty types [] m s h = absurd (false≢true h)
small_rule ty types (rule ∷ rules) m s h =
    let p = and_parts (is_small rule) (list_all is_small rules) s in
    ⊎_elim
    (λ t.
    let other = writes_other_of ty types rule m t in
    let few = ⊎_elim (λ x. absurd (false≢true (sym (not-true (writes_other rule) x) ∙ other))) (λ x. leb-true (rule_count rule) 3 x) (or_cases (not (writes_other rule)) (leb (rule_count rule) 3) p.0) in
    let e = takes_count_of ty types rule t in
    omega (arith, few, e))
    (λ t. small_rule ty types rules m p.1 t)
    (or_cases (takes_other ty types rule) (list_any (takes_other ty types) rules) h)

pub at_most_three : (op : OpName) (ty : Ty) (args : List AnyValue) → is_only Matrix ty ≡ false → takes op ty args ≡ true → length (map type_of args) ≤ 3
unfolding is_allowed
at_most_three op ty args m h =
    let types = map type_of args in
    let row = table op in
    let small = and_parts (leb (arity row.ints) 3 && leb (arity row.floats) 3) (list_all is_small row.others) (each_small op) in
    let counts = and_parts (leb (arity row.ints) 3) (leb (arity row.floats) 3) small.0 in
    ⊎_elim
    (λ e. ⊎_elim
    (λ i.
    let c = (and_parts (not (eqb (arity row.ints) 0)) (eqb (arity row.ints) (length types)) (and_parts (takes_count row.ints types) (fits AnInt ty) (and_parts (takes_count row.ints types && fits AnInt ty) (list_all (fits AnInt) types) i).0).0).1 in
    let n = eqb-true (arity row.ints) (length types) c in
    let few = leb-true (arity row.ints) 3 counts.0 in
    omega (arith, n, few))
    (λ i.
    let c = (and_parts (not (eqb (arity row.floats) 0)) (eqb (arity row.floats) (length types)) (and_parts (takes_count row.floats types) (fits Floats ty) (and_parts (takes_count row.floats types && fits Floats ty) (list_all (is_float_part ty) types) i).0).0).1 in
    let n = eqb-true (arity row.floats) (length types) c in
    let few = leb-true (arity row.floats) 3 counts.1 in
    omega (arith, n, few))
    (or_cases (takes_ints row ty types) (takes_floats row ty types) e))
    (λ e. small_rule ty types row.others m small.1 e)
    (or_cases (takes_ints row ty types || takes_floats row ty types) (list_any (takes_other ty types) row.others) h)
