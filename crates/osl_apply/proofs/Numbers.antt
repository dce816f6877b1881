-- Operations on ints alone, and on floats component by component: which they are.
use Rattle.std.proofs.Common.{◌≡◌, ℕ, Bool, true, false, ◌&&◌, ◌||◌, not, eqb, ℤ, List, [], ◌∷◌, length, map, refl, sym, ap, subst, ◌∙◌, arith, ◌⊎◌, ⊎_elim}
use Rattle.std.specs.List.{list_all, list_any}
use Rattle.std.proofs.lemmas.Bool.{false≢true, and_parts, and_left, and_right, or_cases, or_from, not-true, eqb-true, eq-eqb}
use Rattle.osl_value.specs.declared.op_name.OpName.{OpName}
use Rattle.osl_value.specs.declared.op_name.OpName.TheVariants.{Assign, Clamp, Mix, SmoothStep}
use Rattle.osl_value.specs.declared.types.Base.TheVariants.{Int, Matrix, Closure}
use Rattle.osl_value.specs.declared.types.Ty.{Ty}
use Rattle.osl_value.specs.AnyValue.{AnyValue, type_of, argument, with_numbers, is_one_triple}
use Rattle.osl_value.specs.Apply.{apply, takes_count, takes_ints, takes_floats, takes_other, is_float_part}
use Rattle.osl_value.specs.Forms.{Form, AnInt, AFloat, ANumber, Floats, ATriple, APoint, ANormal, AMatrix, AString, AClosure, AFactor, fits, seen_of}
use Rattle.osl_value.specs.Geometry.{number_at}
use Rattle.osl_value.specs.Laws.{int_value}
use Rattle.osl_value.specs.Numbers.{Numeric, Never, One, Two, Three, arity, value_at, int_clamp}
use Rattle.osl_value.specs.Table.{Rule, On, Made, Assigned, ElementRead, ElementWritten, LengthRead, Row, table}
use Rattle.osl_value.specs.Types.{is_only}
use Rattle.osl_value.proofs.SameTypes.{same_type-true}
use Rattle.osl_apply.specs.Operands.{takes, are_ints}
use Rattle.osl_apply.proofs.Counts.{all_refused, int, may_take_one, one_int_refused, two_ints_refused}
use Rattle.osl_apply.proofs.Rules.{ints_value_of, ints_left, floats_left}

-- ---- ints alone

value_of_one : (f : Numeric) (n m : ℤ) → arity f ≡ 1 → value_at f (number_at (n ∷ m ∷ [])) ≡ value_at f (λ k. seen_of AnInt (argument (int_value n ∷ []) k))
value_of_one Never n m h = absurd (omega arith)
value_of_one (One f) n m h = refl
value_of_one (Two f) n m h = absurd (omega arith)
value_of_one (Three f) n m h = absurd (omega arith)

value_of_two : (f : Numeric) (n m : ℤ) → arity f ≡ 2 → value_at f (number_at (n ∷ m ∷ [])) ≡ value_at f (λ k. seen_of AnInt (argument (int_value n ∷ int_value m ∷ []) k))
value_of_two Never n m h = absurd (omega arith)
value_of_two (One f) n m h = absurd (omega arith)
value_of_two (Two f) n m h = refl
value_of_two (Three f) n m h = absurd (omega arith)

-- what an operation gives on ints, and how many it takes
pub record OnInts (name : OpName) (ty : Ty) (args : List AnyValue) (count : ℕ) (n m : ℤ) : Type 0 where
  pub takes_them : arity (table name).ints ≡ count
  pub value : int_value (value_at (table name).ints (number_at (n ∷ m ∷ []))) ≡ apply name ty args

no_part : (ty : Ty) → is_float_part ty int ≡ false
no_part ty = and_right (is_one_triple ty) false refl

-- a row that takes ints takes as many, and an int is written
count_of : (row : Row) (ty : Ty) (types : List Ty) → takes_ints row ty types ≡ true → (arity row.ints ≡ length types) × (ty ≡ int)
count_of row ty types h =
    let p = and_parts (takes_count row.ints types && fits AnInt ty) (list_all (fits AnInt) types) h in
    let q = and_parts (takes_count row.ints types) (fits AnInt ty) p.0 in
    (eqb-true (arity row.ints) (length types) (and_parts (not (eqb (arity row.ints) 0)) (eqb (arity row.ints) (length types)) q.0).1, same_type-true ty int q.1)

one_int : (name : OpName) (ty : Ty) (n m : ℤ) → may_take_one name ≡ false → is_only Matrix ty ≡ false → takes name ty (int_value n ∷ []) ≡ true → OnInts name ty (int_value n ∷ []) 1 n m
one_int name ty n m other no_matrix h =
    let floats : takes_floats (table name) ty (int ∷ []) ≡ false = and_right _ _ (and_left _ _ (no_part ty)) in
    let rules = all_refused ty (int ∷ []) (table name).others no_matrix (one_int_refused name other) in
    let ints = ints_left name ty (int_value n ∷ []) floats rules h in
    let c = count_of (table name) ty (int ∷ []) ints in
    record {
      takes_them = c.0;
      value = ap int_value (value_of_one (table name).ints n m c.0)
          ∙ ap (λ t. with_numbers t (value_at (table name).ints (λ k. seen_of AnInt (argument (int_value n ∷ []) k)) ∷ [])) (sym c.1)
          ∙ sym (ints_value_of name ty (int_value n ∷ []) ints);
    }

pub on_one_int : (name : OpName) (ty : Ty) (a : AnyValue) (n m : ℤ) → may_take_one name ≡ false → is_only Matrix ty ≡ false → a ≡ int_value n → takes name ty (a ∷ []) ≡ true
    → OnInts name ty (a ∷ []) 1 n m
on_one_int name ty a n m other no_matrix e h =
    subst (λ v. OnInts name ty (v ∷ []) 1 n m) (sym e) (one_int name ty n m other no_matrix (subst (λ v. takes name ty (v ∷ []) ≡ true) e h))

two_ints : (name : OpName) (ty : Ty) (n m : ℤ) → is_only Matrix ty ≡ false → takes name ty (int_value n ∷ int_value m ∷ []) ≡ true → OnInts name ty (int_value n ∷ int_value m ∷ []) 2 n m
two_ints name ty n m no_matrix h =
    let floats : takes_floats (table name) ty (int ∷ int ∷ []) ≡ false = and_right _ _ (and_left _ _ (no_part ty)) in
    let rules = all_refused ty (int ∷ int ∷ []) (table name).others no_matrix (two_ints_refused name) in
    let ints = ints_left name ty (int_value n ∷ int_value m ∷ []) floats rules h in
    let c = count_of (table name) ty (int ∷ int ∷ []) ints in
    record {
      takes_them = c.0;
      value = ap int_value (value_of_two (table name).ints n m c.0)
          ∙ ap (λ t. with_numbers t (value_at (table name).ints (λ k. seen_of AnInt (argument (int_value n ∷ int_value m ∷ []) k)) ∷ [])) (sym c.1)
          ∙ sym (ints_value_of name ty (int_value n ∷ int_value m ∷ []) ints);
    }

pub on_two_ints : (name : OpName) (ty : Ty) (a b : AnyValue) (n m : ℤ) → is_only Matrix ty ≡ false → a ≡ int_value n → b ≡ int_value m → takes name ty (a ∷ b ∷ []) ≡ true
    → OnInts name ty (a ∷ b ∷ []) 2 n m
on_two_ints name ty a b n m no_matrix e f h =
    subst (λ v. OnInts name ty (v ∷ b ∷ []) 2 n m) (sym e)
    (subst (λ w. OnInts name ty (int_value n ∷ w ∷ []) 2 n m) (sym f)
    (two_ints name ty n m no_matrix (subst (λ w. takes name ty (int_value n ∷ w ∷ []) ≡ true) f (subst (λ v. takes name ty (v ∷ b ∷ []) ≡ true) e h))))

-- ---- floats

abbrev pub closure_or_matrix : Form → Bool
closure_or_matrix AMatrix = true
closure_or_matrix AClosure = true
closure_or_matrix _ = false

abbrev pub writes_those : Rule → Bool
writes_those (On forms result f) = closure_or_matrix result
writes_those _ = false

-- an operation on floats has no rule but for closures and matrices
abbrev pub floats_and_those : OpName → ℕ → Bool
floats_and_those op n = not (eqb (arity (table op).floats) n) || list_all writes_those (table op).others

those_two : (op : OpName) → floats_and_those op 2 ≡ true
those_two Assign = refl
those_two _ = refl

those_of : (op : OpName) (n : ℕ) → floats_and_those op n ≡ true → arity (table op).floats ≡ n → list_all writes_those (table op).others ≡ true
those_of op n h e =
    ⊎_elim (λ x. absurd (false≢true (sym (not-true _ x) ∙ eq-eqb _ _ e))) (λ x. x)
    (or_cases (not (eqb (arity (table op).floats) n)) (list_all writes_those (table op).others) h)

those_form : (form : Form) (ty : Ty) → closure_or_matrix form ≡ true → is_only Matrix ty ≡ false → is_only Closure ty ≡ false → fits form ty ≡ false
those_form AMatrix ty h m c = m
those_form AClosure ty h m c = c
those_form AnInt ty h m c = absurd (false≢true h)
those_form AFloat ty h m c = absurd (false≢true h)
those_form ANumber ty h m c = absurd (false≢true h)
those_form Floats ty h m c = absurd (false≢true h)
those_form ATriple ty h m c = absurd (false≢true h)
those_form APoint ty h m c = absurd (false≢true h)
those_form ANormal ty h m c = absurd (false≢true h)
those_form AString ty h m c = absurd (false≢true h)
those_form AFactor ty h m c = absurd (false≢true h)

those_refused : (ty : Ty) (types : List Ty) (rule : Rule) → is_only Matrix ty ≡ false → is_only Closure ty ≡ false → writes_those rule ≡ true → takes_other ty types rule ≡ false
those_refused ty types (On forms result f) m c h = and_left _ _ (those_form result ty h m c)
those_refused ty types (Made count result) m c h = absurd (false≢true h)
those_refused ty types Assigned m c h = absurd (false≢true h)
those_refused ty types ElementRead m c h = absurd (false≢true h)
those_refused ty types ElementWritten m c h = absurd (false≢true h)
those_refused ty types LengthRead m c h = absurd (false≢true h)

all_those_refused : (ty : Ty) (types : List Ty) (rules : List Rule) → is_only Matrix ty ≡ false → is_only Closure ty ≡ false → list_all writes_those rules ≡ true → list_any (takes_other ty types) rules ≡ false
all_those_refused ty types [] m c h = refl
all_those_refused ty types (rule ∷ rules) m c h =
    let p = and_parts (writes_those rule) (list_all writes_those rules) h in
    or_from _ _ (those_refused ty types rule m c p.0) (all_those_refused ty types rules m c p.1)

pub no_int_one : (row : Row) (ty s : Ty) → fits AnInt s ≡ false → takes_ints row ty (s ∷ []) ≡ false
no_int_one row ty s h = and_right _ _ (and_left _ _ h)

pair_fails : (x y : Bool) → (x && y) ≡ false → (x && (y && true)) ≡ false
pair_fails false y h = refl
pair_fails true false h = refl
pair_fails true true h = absurd (false≢true (sym h))

pub no_int_two : (row : Row) (ty s t : Ty) → are_ints s t ≡ false → takes_ints row ty (s ∷ t ∷ []) ≡ false
no_int_two row ty s t h = and_right _ _ (pair_fails (fits AnInt s) (fits AnInt t) h)

pub no_int_written : (row : Row) (ty : Ty) (types : List Ty) → fits AnInt ty ≡ false → takes_ints row ty types ≡ false
no_int_written row ty types h = and_left _ _ (and_right _ _ h)

pub two_floats_taken : (name : OpName) (ty : Ty) (a b : AnyValue) → arity (table name).floats ≡ 2 → is_only Matrix ty ≡ false → is_only Closure ty ≡ false
    → are_ints (type_of a) (type_of b) ≡ false → takes name ty (a ∷ b ∷ []) ≡ true → takes_floats (table name) ty (type_of a ∷ type_of b ∷ []) ≡ true
two_floats_taken name ty a b n m c i h =
    floats_left name ty (a ∷ b ∷ []) (no_int_two (table name) ty (type_of a) (type_of b) i)
    (all_those_refused ty (type_of a ∷ type_of b ∷ []) (table name).others m c (those_of name 2 (those_two name) n)) h

-- where an operation on floats has no rule beside
abbrev pub floats_alone : OpName → ℕ → Bool
floats_alone op n = not (eqb (arity (table op).floats) n) || not (list_any (λ rule. true) (table op).others)

alone_one : (op : OpName) → floats_alone op 1 ≡ true
alone_one Assign = refl
alone_one _ = refl

alone_three : (op : OpName) → floats_alone op 3 ≡ true
alone_three Assign = refl
alone_three _ = refl

no_rule : (ty : Ty) (types : List Ty) (rules : List Rule) → list_any (λ (rule : Rule). true) rules ≡ false → list_any (takes_other ty types) rules ≡ false
no_rule ty types [] h = refl
no_rule ty types (rule ∷ rules) h = absurd (false≢true (sym h))

alone_of : (op : OpName) (n : ℕ) (ty : Ty) (types : List Ty) → floats_alone op n ≡ true → arity (table op).floats ≡ n → list_any (takes_other ty types) (table op).others ≡ false
alone_of op n ty types h e =
    no_rule ty types (table op).others
    (⊎_elim (λ x. absurd (false≢true (sym (not-true _ x) ∙ eq-eqb _ _ e))) (λ x. not-true _ x)
    (or_cases (not (eqb (arity (table op).floats) n)) (not (list_any (λ rule. true) (table op).others)) h))

pub one_float : (name : OpName) (ty : Ty) (a : AnyValue) → arity (table name).floats ≡ 1 → fits AnInt (type_of a) ≡ false
    → takes name ty (a ∷ []) ≡ true → takes_floats (table name) ty (type_of a ∷ []) ≡ true
one_float name ty a n i h = floats_left name ty (a ∷ []) (no_int_one (table name) ty (type_of a) i) (alone_of name 1 ty (type_of a ∷ []) (alone_one name) n) h

pub three_floats : (name : OpName) (ty : Ty) (a b c : AnyValue) → arity (table name).floats ≡ 3 → fits AnInt ty ≡ false
    → takes name ty (a ∷ b ∷ c ∷ []) ≡ true → takes_floats (table name) ty (type_of a ∷ type_of b ∷ type_of c ∷ []) ≡ true
three_floats name ty a b c n i h =
    floats_left name ty (a ∷ b ∷ c ∷ []) (no_int_written (table name) ty (type_of a ∷ type_of b ∷ type_of c ∷ []) i) (alone_of name 3 ty (type_of a ∷ type_of b ∷ type_of c ∷ []) (alone_three name) n) h

never_both : (b : Bool) → (not b && b) ≡ false
never_both true = refl
never_both false = refl

-- no operation takes no int
pub no_int_none : (row : Row) (ty : Ty) → takes_ints row ty [] ≡ false
no_int_none row ty = and_left _ _ (and_left _ _ (never_both (eqb (arity row.ints) 0)))

-- ---- blends and clamps

blend_of : (op : OpName) (ty : Ty) (args : List AnyValue) → (table op).ints ≡ Never → (table op).others ≡ [] → takes op ty args ≡ true → takes_floats (table op) ty (map type_of args) ≡ true
blend_of op ty args i o h =
    floats_left op ty args
    (and_left _ _ (and_left _ _ (ap (λ f. takes_count f (map type_of args)) i)))
    (ap (list_any (takes_other ty (map type_of args))) o) h

pub blend_taken : (name : OpName) (ty : Ty) (args : List AnyValue) → (name ≡ Mix) ⊎ (name ≡ SmoothStep) → takes name ty args ≡ true → takes_floats (table name) ty (map type_of args) ≡ true
blend_taken name ty args is h =
    ⊎_elim
    (λ e. blend_of name ty args (ap (λ n. (table n).ints) e) (ap (λ n. (table n).others) e) h)
    (λ e. blend_of name ty args (ap (λ n. (table n).ints) e) (ap (λ n. (table n).others) e) h)
    is

pub clamp_floats : (ty : Ty) (a b c : AnyValue) → is_only Int ty ≡ false → takes Clamp ty (a ∷ b ∷ c ∷ []) ≡ true → takes_floats (table Clamp) ty (type_of a ∷ type_of b ∷ type_of c ∷ []) ≡ true
clamp_floats ty a b c i h = floats_left Clamp ty (a ∷ b ∷ c ∷ []) (no_int_written (table Clamp) ty (type_of a ∷ type_of b ∷ type_of c ∷ []) i) refl h

pub record ClampedInts (ty : Ty) (a b c : AnyValue) : Type 0 where
  pub first : fits AnInt (type_of a) ≡ true
  pub second : fits AnInt (type_of b) ≡ true
  pub third : fits AnInt (type_of c) ≡ true
  pub value : (n : ℤ) → n ≡ int_clamp (seen_of AnInt a) (seen_of AnInt b) (seen_of AnInt c) → int_value n ≡ apply Clamp ty (a ∷ b ∷ c ∷ [])

no_float_int : (ty : Ty) → is_only Int ty ≡ true → fits Floats ty ≡ false
no_float_int ty h = ap (fits Floats) (same_type-true ty int h)

pub clamp_ints : (ty : Ty) (a b c : AnyValue) → is_only Int ty ≡ true → takes Clamp ty (a ∷ b ∷ c ∷ []) ≡ true → ClampedInts ty a b c
clamp_ints ty a b c i h =
    let types = type_of a ∷ type_of b ∷ type_of c ∷ [] in
    let ints = ints_left Clamp ty (a ∷ b ∷ c ∷ []) (and_left (takes_count (table Clamp).floats types && fits Floats ty) (list_all (is_float_part ty) types) (and_right (takes_count (table Clamp).floats types) (fits Floats ty) (no_float_int ty i))) refl h in
    let p = and_parts (takes_count (table Clamp).ints types && fits AnInt ty) (list_all (fits AnInt) types) ints in
    let q = and_parts (fits AnInt (type_of a)) (fits AnInt (type_of b) && (fits AnInt (type_of c) && true)) p.1 in
    let r = and_parts (fits AnInt (type_of b)) (fits AnInt (type_of c) && true) q.1 in
    record {
      first = q.0;
      second = r.0;
      third = (and_parts (fits AnInt (type_of c)) true r.1).0;
      value = λ n e. ap int_value e ∙ ap (λ t. with_numbers t (int_clamp (seen_of AnInt a) (seen_of AnInt b) (seen_of AnInt c) ∷ [])) (sym (same_type-true ty int i)) ∙ sym (ints_value_of Clamp ty (a ∷ b ∷ c ∷ []) ints);
    }

-- a clamp alone takes three ints
clamp_alone : (op : OpName) → (op ≡ Clamp → ⊥) → (not (eqb (arity (table op).ints) 0) && eqb (arity (table op).ints) 3) ≡ false
clamp_alone Clamp h = absurd (h refl)
clamp_alone _ h = refl

pub no_int_three : (op : OpName) (ty s t u : Ty) → (op ≡ Clamp → ⊥) → takes_ints (table op) ty (s ∷ t ∷ u ∷ []) ≡ false
no_int_three op ty s t u h = and_left _ _ (and_left _ _ (clamp_alone op h))
