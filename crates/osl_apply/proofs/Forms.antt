-- Operations with one rule, by the forms of their operands.
use Rattle.std.proofs.Common.{◌≡◌, true, ◌&&◌, ℕ, ℤ, List, [], ◌∷◌, refl, sym, ap, subst, ◌∙◌}
use Rattle.std.proofs.lemmas.Bool.{and_parts}
use Rattle.osl_value.specs.declared.op_name.OpName.{OpName}
use Rattle.osl_value.specs.declared.types.Base.{Base}
use Rattle.osl_value.specs.declared.types.Base.TheVariants.{Int, Float, Str, Matrix, Point, Normal}
use Rattle.osl_value.specs.declared.types.Ty.{Ty}
use Rattle.osl_value.specs.declared.closure.Part.{Part}
use Rattle.osl_value.specs.AnyValue.{AnyValue, Parts, type_of, floats_of, with_numbers, with_text, is_one_triple}
use Rattle.osl_value.specs.Apply.{apply}
use Rattle.osl_value.specs.Forms.{Form, AnInt, AFloat, ANumber, Floats, ATriple, APoint, ANormal, AMatrix, AString, AClosure, AFactor, fits, Seen, seen_of, value_seen}
use Rattle.osl_value.specs.Table.{Rule, On, table, others}
use Rattle.osl_value.specs.Types.{only, is_only, is_triple}
use Rattle.osl_value.proofs.SameTypes.{same_type-true}
use Rattle.osl_value.proofs.Seen.{alone}
use Rattle.std.specs.Prelude.{Result, IfOk}
use Rattle.osl_value.specs.declared.memory.Memory.{Memory}
use Rattle.osl_value.specs.Geometry.{number_at}
use Rattle.osl_apply.specs.declared.slot.Slot.{Slot}
use Rattle.osl_apply.specs.Slots.{seen}
use Rattle.osl_apply.specs.Operands.{takes}
use Rattle.osl_apply.proofs.Rules.{Applied, only_rule}

-- ---- what a slot of the written type holds

abbrev pub written : (result : Form) → Ty → Seen result → AnyValue
written AnInt ty n = with_numbers (only Int) (n ∷ [])
written AFloat ty x = with_numbers (only Float) (x ∷ [])
written ANumber ty x = with_numbers ty (x ∷ [])
written Floats ty xs = with_numbers ty xs
written ATriple ty xs = with_numbers (only ty.base) xs
written APoint ty xs = with_numbers (only ty.base) xs
written ANormal ty xs = with_numbers (only ty.base) xs
written AMatrix ty xs = with_numbers (only Matrix) xs
written AString ty text = with_text (only Str) text
written AClosure ty parts = Parts parts
written AFactor ty xs = with_numbers ty xs

as_only : (base : Base) (ty : Ty) → is_only base ty ≡ true → only base ≡ ty
as_only base ty h = sym (same_type-true ty (only base) h)

triple_alone : (ty : Ty) → is_one_triple ty ≡ true → only ty.base ≡ ty
triple_alone ty h = sym (alone ty (and_parts _ _ h).1)

only_alone : (base : Base) (ty : Ty) → is_only base ty ≡ true → only ty.base ≡ ty
only_alone base ty h = let e = same_type-true ty (only base) h in ap (λ (t : Ty). only t.base) e ∙ sym e

pub written_is : (result : Form) (ty : Ty) (x : Seen result) → fits result ty ≡ true → written result ty x ≡ value_seen result ty x
written_is AnInt ty n h = ap (λ t. with_numbers t (n ∷ [])) (as_only Int ty h)
written_is AFloat ty x h = ap (λ t. with_numbers t (x ∷ [])) (as_only Float ty h)
written_is ANumber ty x h = refl
written_is Floats ty xs h = refl
written_is ATriple ty xs h = ap (λ t. with_numbers t xs) (triple_alone ty h)
written_is APoint ty xs h = ap (λ t. with_numbers t xs) (only_alone Point ty h)
written_is ANormal ty xs h = ap (λ t. with_numbers t xs) (only_alone Normal ty h)
written_is AMatrix ty xs h = ap (λ t. with_numbers t xs) (as_only Matrix ty h)
written_is AString ty text h = ap (λ t. with_text t text) (as_only Str ty h)
written_is AClosure ty parts h = refl
written_is AFactor ty xs h = refl

-- ---- forms in others

pub normal_is_triple : (ty : Ty) → is_only Normal ty ≡ true → is_one_triple ty ≡ true
normal_is_triple ty h = ap is_one_triple (same_type-true ty (only Normal) h)

pub point_is_triple : (ty : Ty) → is_only Point ty ≡ true → is_one_triple ty ≡ true
point_is_triple ty h = ap is_one_triple (same_type-true ty (only Point) h)

-- a triple's base type
pub triple_base : (ty : Ty) → is_one_triple ty ≡ true → is_triple ty.base ≡ true
triple_base ty h = (and_parts _ _ h).0

-- ---- no operand, one, two and three

pub record Zero (name : OpName) (R : Form) (x : Seen R) (ty : Ty) : Type 0 where
  pub writes : fits R ty ≡ true
  pub value : apply name ty [] ≡ value_seen R ty x

pub record One (name : OpName) (F R : Form) (f : Seen F → Seen R) (ty : Ty) (a : AnyValue) : Type 0 where
  pub writes : fits R ty ≡ true
  pub reads : fits F (type_of a) ≡ true
  pub value : apply name ty (a ∷ []) ≡ value_seen R ty (f (seen_of F a))

pub record Two (name : OpName) (F G R : Form) (f : Seen F → Seen G → Seen R) (ty : Ty) (a b : AnyValue) : Type 0 where
  pub writes : fits R ty ≡ true
  pub first : fits F (type_of a) ≡ true
  pub second : fits G (type_of b) ≡ true
  pub value : apply name ty (a ∷ b ∷ []) ≡ value_seen R ty (f (seen_of F a) (seen_of G b))

pub record Three (name : OpName) (F G H R : Form) (f : Seen F → Seen G → Seen H → Seen R) (ty : Ty) (a b c : AnyValue) : Type 0 where
  pub writes : fits R ty ≡ true
  pub first : fits F (type_of a) ≡ true
  pub second : fits G (type_of b) ≡ true
  pub third : fits H (type_of c) ≡ true
  pub value : apply name ty (a ∷ b ∷ c ∷ []) ≡ value_seen R ty (f (seen_of F a) (seen_of G b) (seen_of H c))

pub zero_applied : (name : OpName) (R : Form) (x : Seen R) (ty : Ty) → Applied name ty [] (On [] R x) → Zero name R x ty
zero_applied name R x ty p = record { writes = (and_parts (fits R ty) true p.takes).0; value = p.value }

pub one_applied : (name : OpName) (F R : Form) (f : Seen F → Seen R) (ty : Ty) (a : AnyValue) → Applied name ty (a ∷ []) (On (F ∷ []) R f) → One name F R f ty a
one_applied name F R f ty a p =
    let q = and_parts (fits R ty) (fits F (type_of a) && true) p.takes in
    record { writes = q.0; reads = (and_parts (fits F (type_of a)) true q.1).0; value = p.value }

pub two_applied : (name : OpName) (F G R : Form) (f : Seen F → Seen G → Seen R) (ty : Ty) (a b : AnyValue) → Applied name ty (a ∷ b ∷ []) (On (F ∷ G ∷ []) R f) → Two name F G R f ty a b
two_applied name F G R f ty a b p =
    let q = and_parts (fits R ty) (fits F (type_of a) && (fits G (type_of b) && true)) p.takes in
    let r = and_parts (fits F (type_of a)) (fits G (type_of b) && true) q.1 in
    record { writes = q.0; first = r.0; second = (and_parts (fits G (type_of b)) true r.1).0; value = p.value }

pub three_applied : (name : OpName) (F G H R : Form) (f : Seen F → Seen G → Seen H → Seen R) (ty : Ty) (a b c : AnyValue) → Applied name ty (a ∷ b ∷ c ∷ []) (On (F ∷ G ∷ H ∷ []) R f)
    → Three name F G H R f ty a b c
three_applied name F G H R f ty a b c p =
    let q = and_parts (fits R ty) (fits F (type_of a) && (fits G (type_of b) && (fits H (type_of c) && true))) p.takes in
    let r = and_parts (fits F (type_of a)) (fits G (type_of b) && (fits H (type_of c) && true)) q.1 in
    let s = and_parts (fits G (type_of b)) (fits H (type_of c) && true) r.1 in
    record { writes = q.0; first = r.0; second = s.0; third = (and_parts (fits H (type_of c)) true s.1).0; value = p.value }

-- the operation of this name has this one rule
rule_at : (name op : OpName) (rule : Rule) (ty : Ty) (args : List AnyValue) → name ≡ op → table op ≡ others (rule ∷ []) → takes name ty args ≡ true → Applied name ty args rule
rule_at name op rule ty args is e h = only_rule name rule ty args (ap table is ∙ e) h

pub zero_at : (name op : OpName) (R : Form) (x : Seen R) (ty : Ty) → name ≡ op → table op ≡ others (On [] R x ∷ []) → takes name ty [] ≡ true → Zero name R x ty
zero_at name op R x ty is e h = zero_applied name R x ty (rule_at name op (On [] R x) ty [] is e h)

pub one_at : (name op : OpName) (F R : Form) (f : Seen F → Seen R) (ty : Ty) (a : AnyValue) → name ≡ op → table op ≡ others (On (F ∷ []) R f ∷ [])
    → takes name ty (a ∷ []) ≡ true → One name F R f ty a
one_at name op F R f ty a is e h = one_applied name F R f ty a (rule_at name op (On (F ∷ []) R f) ty (a ∷ []) is e h)

pub two_at : (name op : OpName) (F G R : Form) (f : Seen F → Seen G → Seen R) (ty : Ty) (a b : AnyValue) → name ≡ op → table op ≡ others (On (F ∷ G ∷ []) R f ∷ [])
    → takes name ty (a ∷ b ∷ []) ≡ true → Two name F G R f ty a b
two_at name op F G R f ty a b is e h = two_applied name F G R f ty a b (rule_at name op (On (F ∷ G ∷ []) R f) ty (a ∷ b ∷ []) is e h)

pub three_at : (name op : OpName) (F G H R : Form) (f : Seen F → Seen G → Seen H → Seen R) (ty : Ty) (a b c : AnyValue) → name ≡ op
    → table op ≡ others (On (F ∷ G ∷ H ∷ []) R f ∷ []) → takes name ty (a ∷ b ∷ c ∷ []) ≡ true → Three name F G H R f ty a b c
three_at name op F G H R f ty a b c is e h = three_applied name F G H R f ty a b c (rule_at name op (On (F ∷ G ∷ H ∷ []) R f) ty (a ∷ b ∷ c ∷ []) is e h)

-- what is written, where it is what the rule says
pub zero_gives : {name : OpName} {R : Form} {x : Seen R} {ty : Ty} → Zero name R x ty → (y : Seen R) → y ≡ x → written R ty y ≡ apply name ty []
zero_gives {name = name} {R = R} {x = x} {ty = ty} o y e = ap (written R ty) e ∙ written_is R ty x o.writes ∙ sym o.value

pub one_gives : {name : OpName} {F R : Form} {f : Seen F → Seen R} {ty : Ty} {a : AnyValue} → One name F R f ty a → (y : Seen R) → y ≡ f (seen_of F a) → written R ty y ≡ apply name ty (a ∷ [])
one_gives {R = R} {ty = ty} o y e = ap (written R ty) e ∙ written_is R ty _ o.writes ∙ sym o.value

pub two_gives : {name : OpName} {F G R : Form} {f : Seen F → Seen G → Seen R} {ty : Ty} {a b : AnyValue} → Two name F G R f ty a b → (y : Seen R) → y ≡ f (seen_of F a) (seen_of G b)
    → written R ty y ≡ apply name ty (a ∷ b ∷ [])
two_gives {R = R} {ty = ty} o y e = ap (written R ty) e ∙ written_is R ty _ o.writes ∙ sym o.value

pub three_gives : {name : OpName} {F G H R : Form} {f : Seen F → Seen G → Seen H → Seen R} {ty : Ty} {a b c : AnyValue} → Three name F G H R f ty a b c → (y : Seen R)
    → y ≡ f (seen_of F a) (seen_of G b) (seen_of H c) → written R ty y ≡ apply name ty (a ∷ b ∷ c ∷ [])
three_gives {R = R} {ty = ty} o y e = ap (written R ty) e ∙ written_is R ty _ o.writes ∙ sym o.value

-- ---- answers that may be refused

pub ok_is : (r : Result Slot Memory) (v w : AnyValue) → v ≡ w → IfOk r (λ slot. seen slot ≡ v) → IfOk r (λ slot. seen slot ≡ w)
ok_is r v w e h = subst (λ x. IfOk r (λ slot. seen slot ≡ x)) e h

-- what a float or an int shows
pub float_seen : (v : AnyValue) (x : ℤ) → v ≡ with_numbers (only Float) (x ∷ []) → x ≡ seen_of AFloat v
float_seen v x e = ap (seen_of AFloat) (sym e)

pub int_seen : (v : AnyValue) (n : ℤ) → v ≡ with_numbers (only Int) (n ∷ []) → n ≡ seen_of AnInt v
int_seen v n e = ap (seen_of AnInt) (sym e)

pub number_seen : (v : AnyValue) (x : ℤ) → floats_of v ≡ x ∷ [] → x ≡ seen_of ANumber v
number_seen v x e = ap (λ xs. number_at xs 0) (sym e)

pub text_seen : (v : AnyValue) (text : List ℕ) → v ≡ with_text (only Str) text → text ≡ seen_of AString v
text_seen v text e = ap (seen_of AString) (sym e)

pub parts_seen : (v : AnyValue) (parts : List Part) → v ≡ Parts parts → parts ≡ seen_of AClosure v
parts_seen v parts e = ap (seen_of AClosure) (sym e)
