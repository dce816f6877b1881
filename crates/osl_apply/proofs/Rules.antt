-- What the table says of an operation, by its rules.
use Rattle.std.proofs.Common.{◌≡◌, Bool, true, false, ◌||◌, List, [], ◌∷◌, map, refl, sym, subst, ◌∙◌}
use Rattle.std.specs.List.{list_any}
use Rattle.std.proofs.lemmas.Bool.{false≢true, or_from, cond-true, cond-false}
use Rattle.osl_value.specs.declared.op_name.OpName.{OpName}
use Rattle.osl_value.specs.declared.types.Ty.{Ty}
use Rattle.osl_value.specs.AnyValue.{AnyValue, type_of}
use Rattle.osl_value.specs.Apply.{apply, is_allowed, takes_ints, takes_floats, takes_other, other_value, first_value, ints_value, row_takes, row_value}
use Rattle.osl_value.specs.Table.{Rule, Row, table, others}
use Rattle.osl_apply.specs.Operands.{takes}

-- ---- rows

or_second : (a b : Bool) → a ≡ false → (a || b) ≡ true → b ≡ true
or_second false b e h = h
or_second true b e h = absurd (false≢true (sym e))

pub or_false : (a : Bool) → (a || false) ≡ true → a ≡ true
or_false true h = refl
or_false false h = absurd (false≢true h)

first_of_three : (a b c : Bool) → b ≡ false → c ≡ false → ((a || b) || c) ≡ true → a ≡ true
first_of_three true b c e f h = refl
first_of_three false b c e f h = absurd (false≢true (sym (or_from b c e f) ∙ h))

second_of_three : (a b c : Bool) → a ≡ false → c ≡ false → ((a || b) || c) ≡ true → b ≡ true
second_of_three true b c e f h = absurd (false≢true (sym e))
second_of_three false true c e f h = refl
second_of_three false false c e f h = absurd (false≢true (sym f ∙ h))

-- neither ints alone nor floats by components
pub record IsOther (row : Row) (ty : Ty) (types : List Ty) : Type 0 where
  pub no_ints : takes_ints row ty types ≡ false
  pub no_floats : takes_floats row ty types ≡ false

row_other : (row : Row) (ty : Ty) (types : List Ty) → IsOther row ty types → row_takes row ty types ≡ true → list_any (takes_other ty types) row.others ≡ true
row_other row ty types apart h =
    or_second (takes_ints row ty types || takes_floats row ty types) (list_any (takes_other ty types) row.others)
    (or_from _ _ apart.no_ints apart.no_floats) h

row_other_value : (row : Row) (ty : Ty) (args : List AnyValue) → IsOther row ty (map type_of args) → row_value row ty args ≡ first_value ty args row.others
row_other_value row ty args apart = cond-false _ _ _ apart.no_ints ∙ cond-false _ _ _ apart.no_floats

-- ---- the first rule, or one after it

pub record Applied (op : OpName) (ty : Ty) (args : List AnyValue) (rule : Rule) : Type 0 where
  pub takes : takes_other ty (map type_of args) rule ≡ true
  pub value : apply op ty args ≡ other_value ty args rule

-- what is said of an operation whose rules are these
pub record Others (op : OpName) (ty : Ty) (args : List AnyValue) (rules : List Rule) : Type 0 where
  pub some : list_any (takes_other ty (map type_of args)) rules ≡ true
  pub value : apply op ty args ≡ first_value ty args rules

pub in_others : (op : OpName) (ty : Ty) (args : List AnyValue) → IsOther (table op) ty (map type_of args) → takes op ty args ≡ true → Others op ty args (table op).others
unfolding apply is_allowed
in_others op ty args apart h = record {
  some = row_other (table op) ty (map type_of args) apart h;
  value = row_other_value (table op) ty args apart;
}

pub first_rule : (op : OpName) (ty : Ty) (args : List AnyValue) (rule : Rule) (rules : List Rule) → takes_other ty (map type_of args) rule ≡ true → Others op ty args (rule ∷ rules) → Applied op ty args rule
first_rule op ty args rule rules h o = record { takes = h; value = o.value ∙ cond-true _ _ _ h }

pub later_rule : (op : OpName) (ty : Ty) (args : List AnyValue) (rule : Rule) (rules : List Rule) → takes_other ty (map type_of args) rule ≡ false → Others op ty args (rule ∷ rules) → Others op ty args rules
later_rule op ty args rule rules h o = record { some = or_second _ _ h o.some; value = o.value ∙ cond-false _ _ _ h }

pub last_rule : (op : OpName) (ty : Ty) (args : List AnyValue) (rule : Rule) → Others op ty args (rule ∷ []) → Applied op ty args rule
last_rule op ty args rule o = first_rule op ty args rule [] (or_false _ o.some) o

-- an operation on other types alone
pub others_alone : (rules : List Rule) (ty : Ty) (types : List Ty) → IsOther (others rules) ty types
others_alone rules ty types = record { no_ints = refl; no_floats = refl }

others_row : (op : OpName) (ty : Ty) (args : List AnyValue) (row : Row) → table op ≡ row → Others op ty args (table op).others → Others op ty args row.others
others_row op ty args row e o = subst (λ (r : Row). Others op ty args r.others) e o

-- what is said of an operation on other types alone
pub others_of : (op : OpName) (rules : List Rule) (ty : Ty) (args : List AnyValue) → table op ≡ others rules → takes op ty args ≡ true → Others op ty args rules
others_of op rules ty args e h =
    others_row op ty args (others rules) e
    (in_others op ty args (subst (λ r. IsOther r ty (map type_of args)) (sym e) (others_alone rules ty (map type_of args))) h)

pub only_rule : (op : OpName) (rule : Rule) (ty : Ty) (args : List AnyValue) → table op ≡ others (rule ∷ []) → takes op ty args ≡ true → Applied op ty args rule
only_rule op rule ty args e h = last_rule op ty args rule (others_of op (rule ∷ []) ty args e h)

-- ---- ints alone

-- where a row takes ints alone, or floats
pub ints_value_of : (op : OpName) (ty : Ty) (args : List AnyValue) → takes_ints (table op) ty (map type_of args) ≡ true → apply op ty args ≡ ints_value (table op) ty args
unfolding apply
ints_value_of op ty args h = cond-true _ _ _ h

pub ints_left : (op : OpName) (ty : Ty) (args : List AnyValue) → takes_floats (table op) ty (map type_of args) ≡ false
    → list_any (takes_other ty (map type_of args)) (table op).others ≡ false → takes op ty args ≡ true → takes_ints (table op) ty (map type_of args) ≡ true
unfolding is_allowed
ints_left op ty args f o h = first_of_three _ _ _ f o h

pub floats_left : (op : OpName) (ty : Ty) (args : List AnyValue) → takes_ints (table op) ty (map type_of args) ≡ false
    → list_any (takes_other ty (map type_of args)) (table op).others ≡ false → takes op ty args ≡ true → takes_floats (table op) ty (map type_of args) ≡ true
unfolding is_allowed
floats_left op ty args i o h = second_of_three _ _ _ i o h
