-- Words that are types: what is written is read, and what is read was written.
use Rattle.std.proofs.Common.{◌≡◌, ℕ, zero, suc, ◌+◌, ◌-◌, ◌<◌, ◌≤◌, ◌^◌, Bool, true, false, ◌&&◌, ◌==◌, cond, nat_lt, List, [], ◌∷◌, ◌++◌, length, take, drop, Option, Some, None, refl, sym, ap, ◌∙◌, append-nil, arith}
use Rattle.std.specs.Prelude.{find, slice_index}
use Rattle.std.specs.Fmt.{decimal}
use Rattle.std.specs.List.{before_first, position_or_len}
use Rattle.std.specs.Str.{bytes_eq}
use Rattle.std.proofs.lemmas.Bool.{and_parts, and_from, eq-eqb, ne_eqb, eqb-true, ltb-true, lt-ltb, cond-true, cond-false}
use Rattle.std.proofs.lemmas.Fmt.{decimal_nonempty}
use Rattle.std.proofs.lemmas.List.{get_or_at, take_at, drop_at, drop_min, length-take, length-append, take-append-drop, nil_from_length}
use Rattle.std.proofs.lemmas.Slice.Eq.{bytes_eq-Decides}
use Rattle.osl_value.specs.declared.types.Base.{Base}
use Rattle.osl_value.specs.declared.types.Base.TheVariants.{Int, Float, Color, Point, Vector, Normal, Matrix, Str, Closure}
use Rattle.osl_value.specs.declared.types.Ty.{Ty}
use Rattle.osl_value.specs.Types.{base_name, longest_array}
use Rattle.osl_valuetext.specs.Words.{len_text, type_text}
use Rattle.osl_valuetext.specs.Literals.{◌>>=◌, decimal_at, is_plain_type}
use Rattle.osl_valuetext.specs.Types.{all_bases, base_named, opens_length, length_at, length_or_none, type_at}
use Rattle.osl_valuetext.proofs.Plains.{bound, plain_type}
use Rattle.osl_valuetext.proofs.Canonicals.{decimal_written, decimal_read}
use Rattle.osl_valuetext.proofs.Rounds.{round}

-- ---- base types

base_written : (base : Base) → (base ≡ Closure → ⊥) → base_named (base_name base) ≡ Some base
base_written Int other = refl
base_written Float other = refl
base_written Color other = refl
base_written Point other = refl
base_written Vector other = refl
base_written Normal other = refl
base_written Matrix other = refl
base_written Str other = refl
base_written Closure other = absurd (other refl)

-- what is found passes the test
pub find_passes : {X : Type 0} (test : X → Bool) (xs : List X) (x : X) → find test xs ≡ Some x → test x ≡ true
find_passes test [] x e = absurd cc
find_passes {X} test (y ∷ xs) x e = go (test y) refl (find_passes test xs x) e
  where
    go : (b : Bool) → test y ≡ b → (find test xs ≡ Some x → test x ≡ true) → cond b (Some y) (find test xs) ≡ Some x → test x ≡ true
    go true here more h = let same : y ≡ x = cc in ap test (sym same) ∙ here
    go false here more h = more h

base_read : (name : List ℕ) (base : Base) → base_named name ≡ Some base → name ≡ base_name base
base_read name base e = (bytes_eq-Decides name (base_name base)).0 (find_passes (λ (b : Base). bytes_eq name (base_name b)) all_bases base e)

name_alone : (base : Base) → before_first opens_length (base_name base) ≡ base_name base
name_alone Int = refl
name_alone Float = refl
name_alone Color = refl
name_alone Point = refl
name_alone Vector = refl
name_alone Normal = refl
name_alone Matrix = refl
name_alone Str = refl
name_alone Closure = refl

name_before : (base : Base) (rest : List ℕ) → before_first opens_length (base_name base ++ 91 ∷ rest) ≡ base_name base
name_before Int rest = refl
name_before Float rest = refl
name_before Color rest = refl
name_before Point rest = refl
name_before Vector rest = refl
name_before Normal rest = refl
name_before Matrix rest = refl
name_before Str rest = refl
name_before Closure rest = refl

-- ---- lengths

bracketed : (inner : List ℕ) → 1 ≤ length inner → length_at (91 ∷ (inner ++ 93 ∷ [])) ≡ (decimal_at inner >>= λ len. cond (nat_lt 0 len) (Some len) None)
unfolding length_at
bracketed inner some =
    let text = 91 ∷ (inner ++ 93 ∷ []) in
    let long : length text ≡ length inner + 2 = omega (arith, length-append inner (93 ∷ [])) in
    let last : slice_index text (length text - 1) ≡ 93 = get_or_at (91 ∷ inner) 93 [] 0 (length text - 1) (omega arith) in
    let test : ((nat_lt 1 (length text) && opens_length (slice_index text 0)) && (slice_index text (length text - 1) == 93)) ≡ true =
    and_from _ _ (and_from _ _ (lt-ltb 1 (length text) (omega arith)) refl) (eq-eqb _ 93 last) in
    cond-true _ _ _ test ∙ ap (λ (t : List ℕ). decimal_at t >>= λ len. cond (nat_lt 0 len) (Some len) None) (take_at inner (93 ∷ []) (length text - 2) (omega arith))

length_written : (len : ℕ) → len < 2 ^ 32 → length_or_none (len_text len) ≡ Some len
length_written zero small = refl
length_written (suc n) small =
    let read = decimal_written (suc n) small in
    let some : 0 < length (decimal (suc n)) = decimal_nonempty (suc n) (omega arith) in
    let present : (length (91 ∷ (decimal (suc n) ++ 93 ∷ [])) == 0) ≡ false = ne_eqb _ 0 (λ e. absurd (omega arith)) in
    let known : (suc n == 0) ≡ false = ne_eqb (suc n) 0 (λ e. absurd (omega arith)) in
    ap (λ (b : Bool). length_or_none (cond b [] (91 ∷ (decimal (suc n) ++ 93 ∷ [])))) known
    ∙ cond-false _ _ _ present ∙ bracketed (decimal (suc n)) some
    ∙ ap (λ (o : Option ℕ). o >>= λ len. cond (nat_lt 0 len) (Some len) None) read
    ∙ cond-true _ _ _ (lt-ltb 0 (suc n) (omega arith))

length_read : (text : List ℕ) (len : ℕ) → length_at text ≡ Some len → text ≡ len_text len
unfolding length_at
length_read text len e = go ((nat_lt 1 (length text) && opens_length (slice_index text 0)) && (slice_index text (length text - 1) == 93)) refl e
  where
    from : (n : ℕ) → decimal_at (take (length text - 2) (drop 1 text)) ≡ Some n → cond (nat_lt 0 n) (Some n) None ≡ Some len → text ≡ 91 ∷ (take (length text - 2) (drop 1 text) ++ 93 ∷ []) → text ≡ len_text len
    from n read h round = pick (nat_lt 0 n) refl h
      where
        pick : (b : Bool) → nat_lt 0 n ≡ b → cond b (Some n) None ≡ Some len → text ≡ len_text len
        pick true positive k =
            let same : n ≡ len = cc in
            let above : 0 < n = ltb-true 0 n positive in
            let known : (n == 0) ≡ false = ne_eqb n 0 (λ z. absurd (omega arith)) in
            round ∙ ap (λ (t : List ℕ). 91 ∷ (t ++ 93 ∷ [])) (decimal_read _ n read).0 ∙ sym (cond-false _ _ _ known) ∙ ap len_text same
        pick false positive k = absurd cc

    go : (b : Bool) → ((nat_lt 1 (length text) && opens_length (slice_index text 0)) && (slice_index text (length text - 1) == 93)) ≡ b
        → cond b (decimal_at (take (length text - 2) (drop 1 text)) >>= λ n. cond (nat_lt 0 n) (Some n) None) None ≡ Some len → text ≡ len_text len
    go true k h =
        let parts = and_parts (nat_lt 1 (length text) && opens_length (slice_index text 0)) (slice_index text (length text - 1) == 93) k in
        let fronts = and_parts (nat_lt 1 (length text)) (opens_length (slice_index text 0)) parts.0 in
        let found = bound (decimal_at (take (length text - 2) (drop 1 text))) (λ n. cond (nat_lt 0 n) (Some n) None) len h in
        from found.0 found.1 found.2 (round 91 93 text (ltb-true _ _ fronts.0) (eqb-true _ 91 fronts.1) (eqb-true _ 93 parts.1))
    go false k h = absurd cc

length_or_none_read : (text : List ℕ) (len : ℕ) → length_or_none text ≡ Some len → text ≡ len_text len
length_or_none_read text len e = go (length text == 0) refl e
  where
    go : (b : Bool) → (length text == 0) ≡ b → cond b (Some 0) (length_at text) ≡ Some len → text ≡ len_text len
    go true k h = let none : text ≡ [] = nil_from_length text (eqb-true _ 0 k) in let same : 0 ≡ len = cc in none ∙ ap len_text same
    go false k h = length_read text len h

-- ---- types

abbrev pub typed : Base → ℕ → Ty
typed base len = record { base = base; len = len }

abbrev checked : Ty → Option Ty
checked ty = cond (is_plain_type ty) (Some ty) None

-- the type of a name with a length after it
abbrev made_of : List ℕ → List ℕ → Option Ty
made_of name rest = base_named name >>= λ base. length_or_none rest >>= λ len. checked (typed base len)

made_written : (ty : Ty) → is_plain_type ty ≡ true → made_of (base_name ty.base) (len_text ty.len) ≡ Some ty
made_written ty fits =
    let has = plain_type ty fits in
    let short : ty.len ≤ longest_array = has.short in
    ap (λ (o : Option Base). o >>= λ base. length_or_none (len_text ty.len) >>= λ len. checked (typed base len)) (base_written ty.base has.no_closure)
    ∙ ap (λ (o : Option ℕ). o >>= λ len. checked (typed ty.base len)) (length_written ty.len (omega arith))
    ∙ cond-true _ _ _ fits

split_name : (ty : Ty) → before_first opens_length (type_text ty) ≡ base_name ty.base
split_name ty = go (ty.len == 0)
  where
    go : (b : Bool) → before_first opens_length (base_name ty.base ++ cond b [] (91 ∷ decimal ty.len ++ 93 ∷ [])) ≡ base_name ty.base
    go true = ap (before_first opens_length) (append-nil (base_name ty.base)) ∙ name_alone ty.base
    go false = name_before ty.base (decimal ty.len ++ 93 ∷ [])

pub type_written : (ty : Ty) → is_plain_type ty ≡ true → type_at (type_text ty) ≡ Some ty
unfolding type_at
type_written ty fits =
    ap (λ (name : List ℕ). made_of name (drop (length name) (type_text ty))) (split_name ty)
    ∙ ap (made_of (base_name ty.base)) (drop_at (base_name ty.base) (len_text ty.len) (length (base_name ty.base)) refl)
    ∙ made_written ty fits

rejoined : (k : ℕ) (word : List ℕ) → take k word ++ drop (length (take k word)) word ≡ word
rejoined k word =
    ap (λ (n : ℕ). take k word ++ drop n word) (length-take k word) ∙ ap (λ (t : List ℕ). take k word ++ t) (drop_min k word) ∙ take-append-drop k word

pub type_read : (word : List ℕ) (ty : Ty) → type_at word ≡ Some ty → (word ≡ type_text ty) × (is_plain_type ty ≡ true)
unfolding type_at
type_read word ty e =
    let name = before_first opens_length word in
    let rest = drop (length name) word in
    let a = bound (base_named name) (λ base. length_or_none rest >>= λ len. checked (typed base len)) ty e in
    let b = bound (length_or_none rest) (λ len. checked (typed a.0 len)) ty a.2 in
    let whole : word ≡ base_name a.0 ++ len_text b.0 =
    sym (rejoined (position_or_len opens_length word) word) ∙ ap (λ (t : List ℕ). t ++ rest) (base_read name a.0 a.1) ∙ ap (λ (t : List ℕ). base_name a.0 ++ t) (length_or_none_read rest b.0 b.1) in
    go (typed a.0 b.0) whole (is_plain_type (typed a.0 b.0)) refl b.2
  where
    go : (made : Ty) → word ≡ type_text made → (t : Bool) → is_plain_type made ≡ t → cond t (Some made) None ≡ Some ty → (word ≡ type_text ty) × (is_plain_type ty ≡ true)
    go made is true fits h = let same : made ≡ ty = cc in (is ∙ ap type_text same, ap is_plain_type (sym same) ∙ fits)
    go made is false fits h = absurd cc
