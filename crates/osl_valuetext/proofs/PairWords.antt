-- The name of a layer's parameter: what is written is read, and what is read was written.
use Rattle.std.proofs.Common.{◌≡◌, ℕ, suc, ◌+◌, ◌<◌, Bool, true, false, not, ◌&&◌, cond, nat_lt, List, [], ◌∷◌, ◌++◌, length, length-append, get_or, drop, Option, Some, None, refl, sym, ap, subst, ◌∙◌, append_assoc, arith}
use Rattle.std.specs.Prelude.{nat_le}
use Rattle.std.specs.List.{list_all, before_first, after_first, position_or_len}
use Rattle.std.proofs.lemmas.Bool.{and_parts, and_from, eqb-true, ltb-true, ltb-false, cond-true}
use Rattle.std.proofs.lemmas.List.{take_at, drop_at, drop_all}
use Rattle.std.proofs.lemmas.List.Sums.{split_at_first, passes_at_first}
use Rattle.osl_valuetext.specs.Identifiers.{begins_identifier, continues_identifier, is_identifier, is_point, longest_identifier, Pair, pair_at, pair_text, PairWord}

no_point : (c : ℕ) → continues_identifier c ≡ true → is_point c ≡ false
no_point c h = go (is_point c) refl
  where
    go : (b : Bool) → is_point c ≡ b → b ≡ false
    go true e = let dot : continues_identifier 46 ≡ true = subst (λ (n : ℕ). continues_identifier n ≡ true) (eqb-true c 46 e) h in absurd cc
    go false e = refl

begins_none : (c : ℕ) → begins_identifier c ≡ true → is_point c ≡ false
begins_none c h = go (is_point c) refl
  where
    go : (b : Bool) → is_point c ≡ b → b ≡ false
    go true e = let dot : begins_identifier 46 ≡ true = subst (λ (n : ℕ). begins_identifier n ≡ true) (eqb-true c 46 e) h in absurd cc
    go false e = refl

placed : (xs ys : List ℕ) → list_all (λ c. not (is_point c)) xs ≡ true → position_or_len is_point (xs ++ 46 ∷ ys) ≡ length xs
placed [] ys h = refl
placed (x ∷ xs) ys h =
    let parts = and_parts (not (is_point x)) (list_all (λ c. not (is_point c)) xs) h in
    ap (λ (b : Bool). cond b (1 + position_or_len is_point (xs ++ 46 ∷ ys)) 0) parts.0 ∙ go (placed xs ys parts.1)
  where
    go : position_or_len is_point (xs ++ 46 ∷ ys) ≡ length xs → 1 + position_or_len is_point (xs ++ 46 ∷ ys) ≡ suc (length xs)
    go e = omega arith

all_continue : (cs : List ℕ) → list_all continues_identifier cs ≡ true → list_all (λ c. not (is_point c)) cs ≡ true
all_continue [] h = refl
all_continue (c ∷ cs) h =
    let parts = and_parts (continues_identifier c) (list_all continues_identifier cs) h in
    and_from _ _ (ap not (no_point c parts.0)) (all_continue cs parts.1)

no_points : (name : List ℕ) → is_identifier name ≡ true → list_all (λ c. not (is_point c)) name ≡ true
no_points [] h = absurd cc
no_points (c ∷ cs) h =
    let all = and_parts (begins_identifier c && list_all continues_identifier cs) (nat_le (length (c ∷ cs)) longest_identifier) h in
    let parts = and_parts (begins_identifier c) (list_all continues_identifier cs) all.0 in
    and_from _ _ (ap not (begins_none c parts.0)) (all_continue cs parts.1)

before_is : (layer param : List ℕ) → is_identifier layer ≡ true → before_first is_point (layer ++ 46 ∷ param) ≡ layer
before_is layer param is = take_at layer (46 ∷ param) _ (sym (placed layer param (no_points layer is)))

after_is : (layer param : List ℕ) → is_identifier layer ≡ true → after_first is_point (layer ++ 46 ∷ param) ≡ param
after_is layer param is =
    let place = placed layer param (no_points layer is) in
    let front : position_or_len is_point (layer ++ 46 ∷ param) + 1 ≡ length (layer ++ 46 ∷ []) = omega (arith, place, length-append layer (46 ∷ [])) in
    ap (λ (t : List ℕ). drop (position_or_len is_point (layer ++ 46 ∷ param) + 1) t) (sym (append_assoc layer (46 ∷ []) param))
    ∙ drop_at (layer ++ 46 ∷ []) param _ (sym front)

abbrev pair : List ℕ → List ℕ → Pair
pair layer param = record { layer = layer; param = param }

abbrev checked : Pair → Option Pair
checked p = cond (is_identifier p.layer && is_identifier p.param) (Some p) None

pub pair_there : (word : List ℕ) (p : Pair) → PairWord word p → pair_at word ≡ Some p
unfolding pair_at
pair_there word p is =
    ap (λ (w : List ℕ). checked (pair (before_first is_point w) (after_first is_point w))) is.text
    ∙ ap (λ (l : List ℕ). checked (pair l (after_first is_point (pair_text p)))) (before_is p.layer p.param is.layer_is)
    ∙ ap (λ (q : List ℕ). checked (pair p.layer q)) (after_is p.layer p.param is.layer_is)
    ∙ cond-true _ _ _ (and_from _ _ is.layer_is is.param_is)

pub pair_spelled : (word : List ℕ) (p : Pair) → pair_at word ≡ Some p → PairWord word p
unfolding pair_at
pair_spelled word p e = go (is_identifier layer && is_identifier param) refl e
  where
    layer : List ℕ
    layer = before_first is_point word

    param : List ℕ
    param = after_first is_point word

    there : is_identifier layer ≡ true → is_identifier param ≡ true → (b : Bool) → nat_lt (position_or_len is_point word) (length word) ≡ b → PairWord word (pair layer param)
    there l q true k =
        let below : position_or_len is_point word < length word = ltb-true _ _ k in
        let dot : get_or word (position_or_len is_point word) 0 ≡ 46 = eqb-true _ 46 (passes_at_first is_point word 0 below) in
        record { text = split_at_first is_point word 0 below ∙ ap (λ (n : ℕ). layer ++ n ∷ param) dot; layer_is = l; param_is = q }
    there l q false k =
        let over = ltb-false (position_or_len is_point word) (length word) k in
        let none : param ≡ [] = drop_all (position_or_len is_point word + 1) word (omega arith) in
        absurd (no_name (sym (ap is_identifier none) ∙ q))
      where
        no_name : is_identifier [] ≡ true → ⊥
        no_name h = absurd cc

    go : (b : Bool) → (is_identifier layer && is_identifier param) ≡ b → cond b (Some (pair layer param)) None ≡ Some p → PairWord word p
    go true k h =
        let parts = and_parts (is_identifier layer) (is_identifier param) k in
        let same : pair layer param ≡ p = cc in
        subst (λ (x : Pair). PairWord word x) same (there parts.0 parts.1 (nat_lt (position_or_len is_point word) (length word)) refl)
    go false k h = absurd cc
