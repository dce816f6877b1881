-- Names by their places, and what is kept beside them.
use Rattle.std.proofs.Common.{◌≡◌, ℕ, zero, suc, ◌+◌, ◌<◌, Bool, true, false, cond, List, [], ◌∷◌, ◌++◌, length, map, slice_get, Option, Some, None, if◌then◌else◌, refl, ap, sym, ◌∙◌, subst, arith}
use Rattle.std.specs.Prelude.{bytes_eq, option_map, ◌||◌, take, slice_index_or}
use Rattle.std.proofs.Math.Seq.{take-suc}
use Rattle.std.specs.List.{position, position_from, list_any}
use Rattle.std.specs.Cmp.Lexicographic.{nat_list_eq_equiv}
use Rattle.std.proofs.lemmas.Iterator.Adapters.{position_from-zero}
use Rattle.std.proofs.lemmas.List.{map-append}
use Rattle.osl_overload.specs.declared.signature.Kind.{Kind}
use Rattle.osl_typed.specs.declared.shader.TypedStructure.{TypedStructure}
use Rattle.osl_typed.specs.FileTyping.{kinds_of_fields}
use Rattle.osl_typed.specs.Scopes.{FieldName, StructureName, field_named, structure_named}
use Rattle.osl_typed.specs.Typing.{◌>>=◌}
use Rattle.osl_names.specs.Places.{fields_of, structures_of}

-- ---- the place of a name

from_map : {K : Type 0} (bytes : K → List ℕ) (test : List ℕ → Bool) (keys : List K) (at : ℕ) → position_from (λ k. test (bytes k)) at keys ≡ position_from test at (map bytes keys)
from_map bytes test [] at = refl
from_map bytes test (k ∷ keys) at = ap (λ (o : Option ℕ). cond (test (bytes k)) (Some at) o) (from_map bytes test keys (at + 1))

pub place_is : {K : Type 0} (bytes : K → List ℕ) (name : List ℕ) (keys : List K) → position (λ k. bytes_eq name (bytes k)) keys ≡ position (bytes_eq name) (map bytes keys)
place_is bytes name keys = position_from-zero (λ k. bytes_eq name (bytes k)) keys ∙ from_map bytes (bytes_eq name) keys 0 ∙ sym (position_from-zero (bytes_eq name) (map bytes keys))

-- ---- a new name

none_from : (test : List ℕ → Bool) (names : List (List ℕ)) (at : ℕ) → position_from test at names ≡ None → list_any test names ≡ false
none_from test [] at h = refl
none_from test (other ∷ names) at h = go (test other) (none_from test names (at + 1)) h
  where
    go : (t : Bool) → (position_from test (at + 1) names ≡ None → list_any test names ≡ false) → cond t (Some at) (position_from test (at + 1) names) ≡ None → (t || list_any test names) ≡ false
    go true ih k = absurd (cc)
    go false ih k = ih k

any_map : {K : Type 0} (bytes : K → List ℕ) (test : List ℕ → Bool) (keys : List K) → list_any (λ k. test (bytes k)) keys ≡ list_any test (map bytes keys)
any_map bytes test [] = refl
any_map bytes test (k ∷ keys) = ap (λ (b : Bool). test (bytes k) || b) (any_map bytes test keys)

-- a name that has no place goes after the others
pub one_more_name : {K : Type 0} (bytes : K → List ℕ) (old new : List K) (key : K) (name : List ℕ) → bytes key ≡ name → position (bytes_eq name) (map bytes old) ≡ None
    → new ≡ cond (list_any (λ k. bytes_eq (bytes key) (bytes k)) old) old (old ++ key ∷ []) → map bytes new ≡ map bytes old ++ name ∷ []
one_more_name bytes old new key name named none grown =
    let no : list_any (λ k. bytes_eq (bytes key) (bytes k)) old ≡ false =
    ap (λ n. list_any (λ k. bytes_eq n (bytes k)) old) named ∙ any_map bytes (bytes_eq name) old ∙ none_from (bytes_eq name) (map bytes old) 0 (sym (position_from-zero (bytes_eq name) (map bytes old)) ∙ none) in
    ap (map bytes) (grown ∙ ap (λ (b : Bool). cond b old (old ++ key ∷ [])) no) ∙ map-append bytes old (key ∷ []) ∙ ap (λ (n : List ℕ). map bytes old ++ n ∷ []) named

-- ---- what is kept beside a name

later : (test : List ℕ → Bool) (names : List (List ℕ)) (at : ℕ) → position_from test (at + 1) names ≡ option_map suc (position_from test at names)
later test [] at = refl
later test (other ∷ names) at = go (test other) (later test names (at + 1))
  where
    go : (t : Bool) → position_from test (at + 1 + 1) names ≡ option_map suc (position_from test (at + 1) names)
        → cond t (Some (at + 1)) (position_from test (at + 1 + 1) names) ≡ option_map suc (cond t (Some at) (position_from test (at + 1) names))
    go true ih = let e : at + 1 ≡ suc at = omega arith in ap Some e
    go false ih = ih

abbrev beside : List Kind → ℕ → Option ℕ → Option (ℕ × Kind)
beside kinds at o = o >>= λ i. slice_get kinds i >>= λ kind. Some (at + i, kind)

none_beside : (at : ℕ) (o : Option ℕ) → None ≡ beside [] at o
none_beside at None = refl
none_beside at (Some i) = refl

field_from : (name : List ℕ) (names : List (List ℕ)) (kinds : List Kind) (at : ℕ) → field_named at (fields_of names kinds) name ≡ beside kinds at (position_from (bytes_eq name) 0 names)
unfolding fields_of field_named
field_from name [] kinds at = refl
field_from name (other ∷ names) [] at = none_beside at _
field_from name (other ∷ names) (kind ∷ kinds) at =
    ap (λ b. if◌then◌else◌ {A = Option (ℕ × Kind)} b (Some (at, kind)) (field_named (at + 1) (fields_of names kinds) name)) (nat_list_eq_equiv.symm other name)
    ∙ go (bytes_eq name other) (position_from (bytes_eq name) 0 names) (field_from name names kinds (at + 1)) (later (bytes_eq name) names 0)
  where
    turn : (o : Option ℕ) → beside kinds (at + 1) o ≡ beside (kind ∷ kinds) at (option_map suc o)
    turn None = refl
    turn (Some i) = let e : at + 1 + i ≡ at + suc i = omega arith in ap (λ n. slice_get kinds i >>= λ k. Some (n, k)) e

    go : (t : Bool) (o : Option ℕ) → field_named (at + 1) (fields_of names kinds) name ≡ beside kinds (at + 1) o → position_from (bytes_eq name) 1 names ≡ option_map suc o
        → if◌then◌else◌ {A = Option (ℕ × Kind)} t (Some (at, kind)) (field_named (at + 1) (fields_of names kinds) name) ≡ beside (kind ∷ kinds) at (cond t (Some 0) (position_from (bytes_eq name) 1 names))
    go true o p q = let e : at ≡ at + 0 = omega arith in ap (λ n. Some (n, kind)) e
    go false o p q = p ∙ turn o ∙ sym (ap (beside (kind ∷ kinds) at) q)

-- the field of a name, by the table's answer
pub field_by : (name : List ℕ) (names : List (List ℕ)) (kinds : List Kind) (o : Option ℕ) → position (bytes_eq name) names ≡ o
    → field_named 0 (fields_of names kinds) name ≡ (o >>= λ i. slice_get kinds i >>= λ kind. Some (i, kind))
field_by name names kinds o e = field_from name names kinds 0 ∙ ap (beside kinds 0) (sym (position_from-zero (bytes_eq name) names) ∙ e) ∙ same o
  where
    same : (p : Option ℕ) → beside kinds 0 p ≡ (p >>= λ i. slice_get kinds i >>= λ kind. Some (i, kind))
    same None = refl
    same (Some i) = let z : 0 + i ≡ i = omega arith in ap (λ n. slice_get kinds i >>= λ kind. Some (n, kind)) z

no_field_from : (name : List ℕ) (names : List (List ℕ)) (kinds : List Kind) (at : ℕ) → length names ≡ length kinds → field_named at (fields_of names kinds) name ≡ None → position_from (bytes_eq name) at names ≡ None
unfolding fields_of field_named
no_field_from name [] kinds at h e = refl
no_field_from name (other ∷ names) [] at h e = absurd (omega arith)
no_field_from name (other ∷ names) (kind ∷ kinds) at h e =
    go (bytes_eq name other) (nat_list_eq_equiv.symm other name) (no_field_from name names kinds (at + 1) (omega arith)) e
  where
    go : (t : Bool) → bytes_eq other name ≡ t → (field_named (at + 1) (fields_of names kinds) name ≡ None → position_from (bytes_eq name) (at + 1) names ≡ None)
        → if◌then◌else◌ {A = Option (ℕ × Kind)} (bytes_eq other name) (Some (at, kind)) (field_named (at + 1) (fields_of names kinds) name) ≡ None
        → cond t (Some at) (position_from (bytes_eq name) (at + 1) names) ≡ None
    go true b ih k =
        let f : if◌then◌else◌ {A = Option (ℕ × Kind)} true (Some (at, kind)) (field_named (at + 1) (fields_of names kinds) name) ≡ None =
        subst (λ (t : Bool). if◌then◌else◌ {A = Option (ℕ × Kind)} t (Some (at, kind)) (field_named (at + 1) (fields_of names kinds) name) ≡ None) b k in absurd (cc)
    go false b ih k = ih (subst (λ (t : Bool). if◌then◌else◌ {A = Option (ℕ × Kind)} t (Some (at, kind)) (field_named (at + 1) (fields_of names kinds) name) ≡ None) b k)

-- where no field has a name, the name has no place
pub no_field : (name : List ℕ) (names : List (List ℕ)) (kinds : List Kind) → length names ≡ length kinds → field_named 0 (fields_of names kinds) name ≡ None → position (bytes_eq name) names ≡ None
no_field name names kinds h e = position_from-zero (bytes_eq name) names ∙ no_field_from name names kinds 0 h e

structure_from : (name : List ℕ) (names : List (List ℕ)) (fields : List (List FieldName)) (at : ℕ) → length names ≡ length fields
    → position_from (bytes_eq name) at names ≡ structure_named at (structures_of names fields) name
unfolding structures_of structure_named
structure_from name [] fields at h = refl
structure_from name (other ∷ names) [] at h = absurd (omega arith)
structure_from name (other ∷ names) (first ∷ fields) at h =
    ap (λ (b : Bool). cond b (Some at) (position_from (bytes_eq name) (at + 1) names)) (nat_list_eq_equiv.symm name other)
    ∙ ap (λ (o : Option ℕ). if◌then◌else◌ {A = Option ℕ} (bytes_eq other name) (Some at) o) (structure_from name names fields (at + 1) (omega arith))

-- the structure of a name has the name's place
pub structure_by : (name : List ℕ) (names : List (List ℕ)) (fields : List (List FieldName)) → length names ≡ length fields → position (bytes_eq name) names ≡ structure_named 0 (structures_of names fields) name
structure_by name names fields h = position_from-zero (bytes_eq name) names ∙ structure_from name names fields 0 h

-- ---- one more

pub one_more_field : (names : List (List ℕ)) (kinds : List Kind) (name : List ℕ) (kind : Kind) → length names ≡ length kinds
    → fields_of (names ++ name ∷ []) (kinds ++ kind ∷ []) ≡ fields_of names kinds ++ record { name = name; kind = kind } ∷ []
unfolding fields_of
one_more_field [] [] name kind h = refl
one_more_field [] (k ∷ kinds) name kind h = absurd (omega arith)
one_more_field (n ∷ names) [] name kind h = absurd (omega arith)
one_more_field (n ∷ names) (k ∷ kinds) name kind h = ap (λ fs. record { name = n; kind = k } ∷ fs) (one_more_field names kinds name kind (omega arith))

pub one_more_structure : (names : List (List ℕ)) (fields : List (List FieldName)) (name : List ℕ) (more : List FieldName) → length names ≡ length fields
    → structures_of (names ++ name ∷ []) (fields ++ more ∷ []) ≡ structures_of names fields ++ record { name = name; fields = more } ∷ []
unfolding structures_of
one_more_structure [] [] name more h = refl
one_more_structure [] (k ∷ fields) name more h = absurd (omega arith)
one_more_structure (n ∷ names) [] name more h = absurd (omega arith)
one_more_structure (n ∷ names) (k ∷ fields) name more h = ap (λ fs. record { name = n; fields = k } ∷ fs) (one_more_structure names fields name more (omega arith))

-- ---- the parts again

pub kinds_again : (names : List (List ℕ)) (kinds : List Kind) → length names ≡ length kinds → kinds ≡ map (λ (field : FieldName). field.kind) (fields_of names kinds)
unfolding fields_of
kinds_again [] [] h = refl
kinds_again [] (k ∷ kinds) h = absurd (omega arith)
kinds_again (n ∷ names) [] h = absurd (omega arith)
kinds_again (n ∷ names) (k ∷ kinds) h = ap (λ ks. k ∷ ks) (kinds_again names kinds (omega arith))

pub fields_at : (names : List (List ℕ)) (fields : List (List FieldName)) (m : ℕ) → length names ≡ length fields
    → slice_get fields m ≡ option_map (λ (s : StructureName). s.fields) (slice_get (structures_of names fields) m)
unfolding structures_of
fields_at [] [] m h = refl
fields_at [] (k ∷ fields) m h = absurd (omega arith)
fields_at (n ∷ names) [] m h = absurd (omega arith)
fields_at (n ∷ names) (k ∷ fields) zero h = refl
fields_at (n ∷ names) (k ∷ fields) (suc m) h = fields_at names fields m (omega arith)

abbrev pub kinds_in : List FieldName → TypedStructure
kinds_in fields = record { fields = map (λ (field : FieldName). field.kind) fields }

pub typed_again : (names : List (List ℕ)) (fields : List (List FieldName)) → length names ≡ length fields → map kinds_in fields ≡ map kinds_of_fields (structures_of names fields)
unfolding structures_of
typed_again [] [] h = refl
typed_again [] (k ∷ fields) h = absurd (omega arith)
typed_again (n ∷ names) [] h = absurd (omega arith)
typed_again (n ∷ names) (k ∷ fields) h = ap (λ ts. kinds_in k ∷ ts) (typed_again names fields (omega arith))

pub one_more_typed : (fields : List (List FieldName)) (done new : List TypedStructure) (i : ℕ) (x : List FieldName) → done ≡ map kinds_in (take i fields) → i < length fields → x ≡ slice_index_or fields i x
    → new ≡ done ++ kinds_in x ∷ [] → new ≡ map kinds_in (take (i + 1) fields)
one_more_typed fields done new i x h lt is e =
    let s : i + 1 ≡ suc i = omega arith in
    let t : take (i + 1) fields ≡ take i fields ++ x ∷ [] = ap (λ k. take k fields) s ∙ take-suc fields i x lt ∙ ap (λ y. take i fields ++ y ∷ []) (sym is) in
    e ∙ ap (λ ts. ts ++ kinds_in x ∷ []) h ∙ sym (map-append kinds_in (take i fields) (x ∷ [])) ∙ sym (ap (map kinds_in) t)
