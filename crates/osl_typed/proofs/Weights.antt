-- Weights that are cut to one above the limits: cutting the parts first changes nothing.
use Rattle.std.proofs.Common.{◌≡◌, ℕ, ◌+◌, ◌<◌, ◌≤◌, min, max, Bool, false, List, ◌∷◌, length, get_or, drop, ap, sym, ◌∙◌, arith}
use Rattle.std.proofs.lemmas.List.{drop_more, drop_all, length-map}
use Rattle.std.specs.Prelude.{map, slice_index_or}
use Rattle.osl_overload.specs.declared.signature.Kind.{Kind}
use Rattle.osl_overload.specs.declared.signature.Kind.TheVariants.{Void}
use Rattle.osl_typed.specs.declared.expr.Part.{Part}
use Rattle.osl_typed.specs.declared.expr.Root.{Root}
use Rattle.osl_typed.specs.declared.expr.TypedExpr.{TypedExpr}
use Rattle.osl_typed.specs.declared.shader.TypedStructure.{TypedStructure}
use Rattle.osl_typed.specs.declared.sizes.Weight.{Weight}
use Rattle.osl_typed.specs.Measured.{cut, fields_node, variable_node, part_node}
use Rattle.osl_typed.specs.Selections.{depth_of, component_count, kind_at, part_kind}
use Rattle.osl_typed.specs.Frames.{fields_in}
use Rattle.osl_typed.specs.Sizes.{◌&◌, nothing, all_of, field_kinds, bare, valued, held, selections, selected_types, root_kind, variable_weight, part_weight, Scale, stored_weight}

-- by its three numbers
same_weight : (a b : Weight) → a.size ≡ b.size → a.slots ≡ b.slots → a.calls ≡ b.calls → a ≡ b
same_weight a b p q r = λ i. record { size = p i; slots = q i; calls = r i }

sum_left : (a b : ℕ) → min 65537 (min 65537 a + b) ≡ min 65537 (a + b)
sum_left a b = omega arith

sum_right : (a b : ℕ) → min 65537 (a + min 65537 b) ≡ min 65537 (a + b)
sum_right a b = omega arith

max_left : (a b : ℕ) → min 17 (max (min 17 a) b) ≡ min 17 (max a b)
max_left a b = omega arith

max_right : (a b : ℕ) → min 17 (max a (min 17 b)) ≡ min 17 (max a b)
max_right a b = omega arith

pub cut_left : (a b : Weight) → cut (cut a & b) ≡ cut (a & b)
cut_left a b = same_weight _ _ (sum_left a.size b.size) (sum_left a.slots b.slots) (max_left a.calls b.calls)

pub cut_right : (a b : Weight) → cut (a & cut b) ≡ cut (a & b)
cut_right a b = same_weight _ _ (sum_right a.size b.size) (sum_right a.slots b.slots) (max_right a.calls b.calls)

sum_regrouped : (a b c : ℕ) → (a + b) + c ≡ a + (b + c)
sum_regrouped a b c = omega arith

max_regrouped : (a b c : ℕ) → max (max a b) c ≡ max a (max b c)
max_regrouped a b c = omega arith

pub regrouped : (a b c : Weight) → (a & b) & c ≡ a & (b & c)
regrouped a b c = same_weight _ _ (sum_regrouped a.size b.size c.size) (sum_regrouped a.slots b.slots c.slots) (max_regrouped a.calls b.calls c.calls)

plus_zero : (a : ℕ) → a + 0 ≡ a
plus_zero a = omega arith

max_zero : (a : ℕ) → max a 0 ≡ a
max_zero a = omega arith

pub with_nothing : (a : Weight) → a & nothing ≡ a
with_nothing a = same_weight _ _ (plus_zero a.size) (plus_zero a.slots) (max_zero a.calls)

twice_cut : (a : ℕ) (t : ℕ) → min t (min t a) ≡ min t a
twice_cut a t = omega arith

pub cut_twice : (a : Weight) → cut (cut a) ≡ cut a
cut_twice a = same_weight _ _ (twice_cut a.size 65537) (twice_cut a.slots 65537) (twice_cut a.calls 17)

-- two parts, each cut, are cut together
pub both : (a b x y : Weight) → a ≡ cut x → b ≡ cut y → cut (a & b) ≡ cut (x & y)
both a b x y p q = (λ i. cut (p i & q i)) ∙ cut_left x (cut y) ∙ cut_right x y

pub together : (a b r x y : Weight) → a ≡ cut x → b ≡ cut y → r ≡ cut (a & b) → r ≡ cut (x & y)
together a b r x y p q h = h ∙ both a b x y p q

-- one more part of a sum, of which `rest` is still to come
pub one_more : (sum part new w rest whole : Weight) → part ≡ cut w → new ≡ cut (sum & part) → cut (sum & (w & rest)) ≡ whole → cut (new & rest) ≡ whole
one_more sum part new w rest whole p q h =
    (λ i. cut (q i & rest)) ∙ cut_left (sum & part) rest ∙ ap cut (regrouped sum part rest)
    ∙ (λ i. cut (sum & (p i & rest))) ∙ sym (cut_right sum (cut w & rest)) ∙ ap (λ z. cut (sum & z)) (cut_left w rest) ∙ cut_right sum (w & rest) ∙ h

-- ---- lists of parts, of which some are still to come

-- nothing is still to come
pub all_summed : (sum whole : Weight) → cut sum ≡ sum → cut (sum & nothing) ≡ whole → sum ≡ whole
all_summed sum whole small h = sym small ∙ ap cut (sym (with_nothing sum)) ∙ h

-- one more of a list
pub one_summed : {A : Type 0} (f : A → Weight) (xs : List A) (i : ℕ) (x : A) (sum part new whole : Weight)
    → i < length xs → get_or xs i x ≡ x → part ≡ cut (f x) → new ≡ cut (sum & part)
    → cut (sum & all_of (map f (drop i xs))) ≡ whole → cut (new & all_of (map f (drop (i + 1) xs))) ≡ whole
one_summed f xs i x sum part new whole within is p q h =
    one_more sum part new (f x) (all_of (map f (drop (i + 1) xs))) whole p q
    (ap (λ y. cut (sum & all_of (map f (y ∷ drop (i + 1) xs)))) (sym is) ∙ ap (λ ys. cut (sum & all_of (map f ys))) (sym (drop_more xs i x within)) ∙ h)

-- one more field
pub one_field : (structures : List TypedStructure) (holds : Bool) (kind next : Kind) (xs : List ℕ) (i : ℕ) (sum part new whole : Weight)
    → i < length xs → next ≡ slice_index_or (fields_in structures kind) (get_or xs i 0) Void → part ≡ cut (fields_node holds structures next) → new ≡ cut (sum & part)
    → cut (sum & all_of (map (fields_node holds structures) (field_kinds structures kind (drop i xs)))) ≡ whole
    → cut (new & all_of (map (fields_node holds structures) (field_kinds structures next (drop (i + 1) xs)))) ≡ whole
unfolding field_kinds
one_field structures holds kind next xs i sum part new whole within is p q h =
    one_more sum part new (fields_node holds structures next) (all_of (map (fields_node holds structures) (field_kinds structures next (drop (i + 1) xs)))) whole p q
    (ap (λ k. cut (sum & all_of (map (fields_node holds structures) (k ∷ field_kinds structures k (drop (i + 1) xs))))) is
    ∙ ap (λ ys. cut (sum & all_of (map (fields_node holds structures) (field_kinds structures kind ys)))) (sym (drop_more xs i 0 within)) ∙ h)

pub no_field : (structures : List TypedStructure) (holds : Bool) (kind : Kind) (xs : List ℕ) (i : ℕ) → length xs ≤ i
    → all_of (map (fields_node holds structures) (field_kinds structures kind (drop i xs))) ≡ nothing
unfolding field_kinds
no_field structures holds kind xs i past = ap (λ ys. all_of (map (fields_node holds structures) (field_kinds structures kind ys))) (drop_all i xs past)

pub none_left : {A : Type 0} (f : A → Weight) (xs : List A) (i : ℕ) → length xs ≤ i → all_of (map f (drop i xs)) ≡ nothing
none_left f xs i past = ap (λ ys. all_of (map f ys)) (drop_all i xs past)

-- a variable, from its fields, what it holds and its selections
pub variable_sum : (structures : List TypedStructure) (kinds : List Kind) (root : Root) (part : Part) (n : ℕ) (from : Kind) (fields : List ℕ) (b f x h y s z : Weight)
    → from ≡ root_kind kinds root → fields ≡ part.fields
    → b ≡ cut (bare structures from) → f ≡ cut (all_of (map (fields_node false structures) (field_kinds structures from fields))) → x ≡ cut (b & f)
    → h ≡ cut (held structures part.kind (selected_types part.kind n)) → y ≡ cut (x & h)
    → s ≡ cut (selections structures (selected_types part.kind n)) → z ≡ cut (y & s)
    → z ≡ cut (variable_node structures kinds root part n)
variable_sum structures kinds root part n from fields b f x h y s z from_is fields_are p q r t u v w =
    together y s z _ _ (together x h y _ _ (together b f x _ _ (p ∙ ap (λ k. cut (bare structures k)) from_is)
    (q ∙ (λ i. cut (all_of (map (fields_node false structures) (field_kinds structures (from_is i) (fields_are i)))))) r) t u) v w

-- ---- with indices

-- the indices are as many as their weights
same_depth : (part : Part) (f : TypedExpr → Weight) (indices : List TypedExpr) → depth_of part indices ≡ depth_of part (map f indices)
same_depth part f indices = ap (λ n. n + component_count part.component) (sym (length-map indices f))

pub place_sum : (structures : List TypedStructure) (kinds : List Kind) (root : Root) (part : Part) (f : TypedExpr → Weight) (indices : List TypedExpr) (v a z : Weight)
    → v ≡ cut (variable_node structures kinds root part (depth_of part indices)) → a ≡ cut (all_of (map f indices)) → z ≡ cut (v & a)
    → z ≡ cut (variable_weight structures kinds root part (map f indices))
place_sum structures kinds root part f indices v a z p q h =
    together v a z _ _ (p ∙ ap (λ n. cut (variable_node structures kinds root part n)) (same_depth part f indices)) q h

pub piece_sum : (structures : List TypedStructure) (kind : Kind) (part : Part) (f : TypedExpr → Weight) (a : Weight) (indices : List TypedExpr) (x v y all z : Weight)
    → x ≡ cut a → v ≡ cut (part_node structures kind part (depth_of part indices)) → y ≡ cut (x & v) → all ≡ cut (all_of (map f indices)) → z ≡ cut (y & all)
    → z ≡ cut (part_weight structures kind a part (map f indices))
piece_sum structures kind part f a indices x v y all z p q r s t =
    together y all z (a & part_node structures kind part (depth_of part (map f indices))) (all_of (map f indices))
    (together x v y _ _ p (q ∙ ap (λ n. cut (part_node structures kind part n)) (same_depth part f indices)) r) s t
    ∙ ap (λ w. cut (w & all_of (map f indices))) (sym (regrouped a (all_of (map (valued structures) (field_kinds structures kind part.fields))) (selections structures (selected_types part.kind (depth_of part (map f indices))))))

pub stored_sum : (scale : Scale) (root : Root) (part : Part) (f : TypedExpr → Weight) (indices : List TypedExpr) (a : Weight) (kind : Kind) (v p y right z : Weight)
    → kind ≡ part_kind part indices → v ≡ cut (valued scale.structures kind) → p ≡ cut (variable_weight scale.structures scale.kinds root part (map f indices)) → y ≡ cut (v & p)
    → right ≡ cut a → z ≡ cut (y & right)
    → z ≡ cut (stored_weight scale root part (map f indices) a)
stored_sum scale root part f indices a kind v p y right z kind_is q r s t u =
    together y right z _ _ (together v p y _ _ (q ∙ ap (λ k. cut (valued scale.structures k)) (kind_is ∙ ap (kind_at part.kind) (same_depth part f indices))) r s) t u
