-- A list in braces, one item after the other.
use Rattle.std.proofs.Common.{◌≡◌, ℕ, suc, ◌+◌, ◌<◌, ◌≤◌, List, [], ◌∷◌, ◌++◌, length, get_or, drop, map, refl, ap, sym, ◌∙◌, append-nil, arith}
use Rattle.std.proofs.lemmas.List.{drop_all}
use Rattle.std.specs.Prelude.{Option, None, Some, is_some, slice_get}
use Rattle.osl_overload.specs.declared.signature.Kind.{Kind}
use Rattle.osl_tree.specs.declared.expr.Expr.{Expr}
use Rattle.osl_typed.specs.declared.expr.TypedExpr.{TypedExpr}
use Rattle.osl_typed.specs.declared.found.Found.{Found}
use Rattle.osl_typed.specs.Scopes.{Scope, Sight}
use Rattle.osl_typed.specs.Typing.{◌>>=◌, when, sequence, typing, fit}
use Rattle.osl_typed.specs.BodyTyping.{listed_kinds, fit_first}
use Rattle.osl_check.specs.BodyParts.{item_at, placed, listed}
use Rattle.osl_check.proofs.Walks.{at_hand, before, before_more}

-- ---- the walk along the items

pub placed_more : (sight : Sight) (scope : Scope) (kind : Kind) (xs : List Expr) (i : ℕ) (a : Expr) (front : List TypedExpr) (y : TypedExpr) (whole : Option (List TypedExpr))
    → i < length xs → a ≡ get_or xs i a → item_at sight scope kind i a ≡ Some y → before front (placed sight scope kind i (drop i xs)) ≡ whole
    → before (front ++ y ∷ []) (placed sight scope kind (i + 1) (drop (i + 1) xs)) ≡ whole
unfolding placed
placed_more sight scope kind xs i a front y whole within is went so_far =
    before_more front y (placed sight scope kind (i + 1) (drop (i + 1) xs))
    ∙ ap (λ o. before front (o >>= λ first. placed sight scope kind (i + 1) (drop (i + 1) xs) >>= λ others. Some (first ∷ others))) (sym went)
    ∙ ap (λ ys. before front (placed sight scope kind i ys)) (sym (at_hand xs i a within is)) ∙ so_far

pub placed_stops : (sight : Sight) (scope : Scope) (kind : Kind) (xs : List Expr) (i : ℕ) (a : Expr) (front : List TypedExpr) (whole : Option (List TypedExpr))
    → i < length xs → a ≡ get_or xs i a → before front (placed sight scope kind i (drop i xs)) ≡ whole → item_at sight scope kind i a ≡ None → whole ≡ None
unfolding placed
placed_stops sight scope kind xs i a front whole within is so_far stopped =
    sym so_far ∙ ap (λ ys. before front (placed sight scope kind i ys)) (at_hand xs i a within is)
    ∙ ap (λ o. before front (o >>= λ first. placed sight scope kind (i + 1) (drop (i + 1) xs) >>= λ others. Some (first ∷ others))) stopped

pub placed_ends : (sight : Sight) (scope : Scope) (kind : Kind) (xs : List Expr) (i : ℕ) (front : List TypedExpr) (whole : Option (List TypedExpr))
    → length xs ≤ i → before front (placed sight scope kind i (drop i xs)) ≡ whole → whole ≡ Some front
unfolding placed
placed_ends sight scope kind xs i front whole past so_far =
    sym so_far ∙ ap (λ ys. before front (placed sight scope kind i ys)) (drop_all i xs past) ∙ ap Some (append-nil front)

-- ---- it gives what all items give together

nothing_behind : {A B : Type 0} (o : Option A) (other : Option B) → other ≡ None → (o >>= λ a. other) ≡ None
nothing_behind None other none = refl
nothing_behind (Some a) other none = none

none_fits : (o : Option Found) (others : Option (List Found)) → (o >>= λ first. others >>= λ rest. Some (first ∷ rest)) >>= fit_first [] ≡ None
unfolding fit_first
none_fits None others = refl
none_fits (Some a) None = refl
none_fits (Some a) (Some rest) = refl

one_fits : (o : Option Found) (others : Option (List Found)) (kind : Kind) (kinds : List Kind)
    → (o >>= λ first. others >>= λ rest. Some (first ∷ rest)) >>= fit_first (kind ∷ kinds) ≡ (o >>= fit kind) >>= λ x. (others >>= fit_first kinds) >>= λ xs. Some (x ∷ xs)
unfolding fit_first
one_fits None others kind kinds = refl
one_fits (Some a) None kind kinds = sym (nothing_behind (fit kind a) None refl)
one_fits (Some a) (Some rest) kind kinds = refl

walked : (sight : Sight) (scope : Scope) (kind : Kind) (items : List Expr) (all kinds : List Kind) (place : ℕ) → listed_kinds sight.structures kind ≡ Some all
    → ((j : ℕ) → slice_get all (place + j) ≡ slice_get kinds j)
    → (sequence (map (typing sight scope.bindings) items) >>= fit_first kinds) ≡ placed sight scope kind place items
unfolding sequence fit_first placed
walked sight scope kind [] all kinds place is says = refl
walked sight scope kind (a ∷ items) all [] place is says =
    let here : slice_get all place ≡ None = ap (slice_get all) (let e : place ≡ place + 0 = omega arith in e) ∙ says 0 in
    none_fits (typing sight scope.bindings a) (sequence (map (typing sight scope.bindings) items))
    ∙ ap (λ o. (o >>= λ wanted. typing sight scope.bindings a >>= fit wanted) >>= λ x. placed sight scope kind (place + 1) items >>= λ xs. Some (x ∷ xs)) (sym here)
    ∙ ap (λ (o : Option (List Kind)). ((o >>= λ kinds. slice_get kinds place) >>= λ wanted. typing sight scope.bindings a >>= fit wanted) >>= λ x. placed sight scope kind (place + 1) items >>= λ xs. Some (x ∷ xs)) (sym is)
walked sight scope kind (a ∷ items) all (first ∷ kinds) place is says =
    let here : slice_get all place ≡ Some first = ap (slice_get all) (let e : place ≡ place + 0 = omega arith in e) ∙ says 0 in
    let next : (j : ℕ) → slice_get all (place + 1 + j) ≡ slice_get kinds j = λ j. ap (slice_get all) (let e : place + 1 + j ≡ place + suc j = omega arith in e) ∙ says (suc j) in
    one_fits (typing sight scope.bindings a) (sequence (map (typing sight scope.bindings) items)) first kinds
    ∙ ap (λ o. (typing sight scope.bindings a >>= fit first) >>= λ x. o >>= λ xs. Some (x ∷ xs)) (walked sight scope kind items all kinds (place + 1) is next)
    ∙ ap (λ o. (o >>= λ wanted. typing sight scope.bindings a >>= fit wanted) >>= λ x. placed sight scope kind (place + 1) items >>= λ xs. Some (x ∷ xs)) (sym here)
    ∙ ap (λ (o : Option (List Kind)). ((o >>= λ kinds. slice_get kinds place) >>= λ wanted. typing sight scope.bindings a >>= fit wanted) >>= λ x. placed sight scope kind (place + 1) items >>= λ xs. Some (x ∷ xs)) (sym is)

listed_by : (sight : Sight) (scope : Scope) (kind : Kind) (items : List Expr) (o : Option (List Kind)) → listed_kinds sight.structures kind ≡ o
    → (o >>= λ kinds. sequence (map (typing sight scope.bindings) items) >>= fit_first kinds) ≡ (when (is_some o) >>= λ ok. placed sight scope kind 0 items)
listed_by sight scope kind items None is = refl
listed_by sight scope kind items (Some kinds) is = walked sight scope kind items kinds kinds 0 is (λ j. ap (slice_get kinds) (let e : 0 + j ≡ j = omega arith in e))

pub listed_is : (sight : Sight) (scope : Scope) (kind : Kind) (items : List Expr)
    → listed sight scope kind items ≡ (when (is_some (listed_kinds sight.structures kind)) >>= λ ok. placed sight scope kind 0 items)
unfolding listed
listed_is sight scope kind items = listed_by sight scope kind items (listed_kinds sight.structures kind) refl
