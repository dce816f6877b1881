-- Walks along a list that a loop follows: what is left of the list, at the state so far, gives what the whole list gives.
use Rattle.std.proofs.Common.{◌≡◌, ℕ, ◌+◌, ◌<◌, ◌≤◌, List, [], ◌∷◌, ◌++◌, length, get_or, drop, refl, ap, sym, ◌∙◌, append_assoc, append-nil}
use Rattle.std.proofs.lemmas.List.{drop_more, drop_all}
use Rattle.std.specs.Prelude.{map, Option, None, Some}
use Rattle.osl_typed.specs.Typing.{◌>>=◌, sequence}

pub bind_assoc : {A B C : Type 0} (o : Option A) (f : A → Option B) (g : B → Option C) → (o >>= f >>= g) ≡ (o >>= λ a. f a >>= g)
bind_assoc None f g = refl
bind_assoc (Some a) f g = refl

-- what goes on after two answers goes on within
pub within : {A B C D : Type 0} (o : Option A) (t : A → Option B) (f : A → B → Option C) (g : C → Option D)
    → ((o >>= λ a. t a >>= f a) >>= g) ≡ (o >>= λ a. t a >>= λ b. f a b >>= g)
within None t f g = refl
within (Some a) t f g = bind_assoc (t a) (f a) g

-- what is left begins with the element at hand
pub at_hand : {X : Type 0} (xs : List X) (i : ℕ) (x : X) → i < length xs → x ≡ get_or xs i x → drop i xs ≡ x ∷ drop (i + 1) xs
at_hand xs i x below is = drop_more xs i x below ∙ ap (λ y. y ∷ drop (i + 1) xs) (sym is)

-- ---- a state is carried along, and each element gives something

-- these come before what is left
abbrev pub behind : {Y S : Type 0} → List Y → Option (List Y × S) → Option (List Y × S)
behind front o = o >>= λ rest. Some (front ++ rest.0, rest.1)

abbrev pub with_first : {Y S : Type 0} → Y → Option (List Y × S) → Option (List Y × S)
with_first y o = o >>= λ rest. Some (y ∷ rest.0, rest.1)

pub record IsGathered {X Y S : Type 0} (step : X → S → Option (Y × S)) (gather : List X → S → Option (List Y × S)) : Type 0 where
  pub ends : (s : S) → gather [] s ≡ Some ([], s)
  pub takes : (x : X) (xs : List X) (s : S) → gather (x ∷ xs) s ≡ (step x s >>= λ r. with_first (r.0) (gather xs (r.1)))

pub behind_nothing : {Y S : Type 0} (o : Option (List Y × S)) → behind [] o ≡ o
behind_nothing None = refl
behind_nothing (Some r) = refl

behind_more : {Y S : Type 0} (front : List Y) (y : Y) (o : Option (List Y × S)) → behind (front ++ y ∷ []) o ≡ behind front (with_first y o)
behind_more front y None = refl
behind_more front y (Some r) = ap (λ ys. Some (ys, r.1)) (append_assoc front (y ∷ []) (r.0))

pub gather_more : {X Y S : Type 0} (step : X → S → Option (Y × S)) (gather : List X → S → Option (List Y × S)) → IsGathered step gather
    → (xs : List X) (i : ℕ) (x : X) (front : List Y) (y : Y) (s new : S) (whole : Option (List Y × S))
    → i < length xs → x ≡ get_or xs i x → step x s ≡ Some (y, new) → behind front (gather (drop i xs) s) ≡ whole
    → behind (front ++ y ∷ []) (gather (drop (i + 1) xs) new) ≡ whole
gather_more step gather law xs i x front y s new whole below is went so_far =
    behind_more front y (gather (drop (i + 1) xs) new)
    ∙ ap (λ o. behind front (o >>= λ r. with_first (r.0) (gather (drop (i + 1) xs) (r.1)))) (sym went)
    ∙ ap (behind front) (sym (law.takes x (drop (i + 1) xs) s))
    ∙ ap (λ ys. behind front (gather ys s)) (sym (at_hand xs i x below is)) ∙ so_far

pub gather_stops : {X Y S : Type 0} (step : X → S → Option (Y × S)) (gather : List X → S → Option (List Y × S)) → IsGathered step gather
    → (xs : List X) (i : ℕ) (x : X) (front : List Y) (s : S) (whole : Option (List Y × S))
    → i < length xs → x ≡ get_or xs i x → behind front (gather (drop i xs) s) ≡ whole → step x s ≡ None → whole ≡ None
gather_stops step gather law xs i x front s whole below is so_far stopped =
    sym so_far ∙ ap (λ ys. behind front (gather ys s)) (at_hand xs i x below is) ∙ ap (behind front) (law.takes x (drop (i + 1) xs) s)
    ∙ ap (λ o. behind front (o >>= λ r. with_first (r.0) (gather (drop (i + 1) xs) (r.1)))) stopped

pub gather_ends : {X Y S : Type 0} (step : X → S → Option (Y × S)) (gather : List X → S → Option (List Y × S)) → IsGathered step gather
    → (xs : List X) (i : ℕ) (front : List Y) (s : S) (whole : Option (List Y × S))
    → length xs ≤ i → behind front (gather (drop i xs) s) ≡ whole → whole ≡ Some (front, s)
gather_ends step gather law xs i front s whole past so_far =
    sym so_far ∙ ap (λ ys. behind front (gather ys s)) (drop_all i xs past) ∙ ap (behind front) (law.ends s) ∙ ap (λ ys. Some (ys, s)) (append-nil front)

-- ---- a state alone is carried along

pub record IsCarried {X S : Type 0} (step : X → S → Option S) (carry : List X → S → Option S) : Type 0 where
  pub finishes : (s : S) → carry [] s ≡ Some s
  pub steps : (x : X) (xs : List X) (s : S) → carry (x ∷ xs) s ≡ (step x s >>= carry xs)

pub carry_more : {X S : Type 0} (step : X → S → Option S) (carry : List X → S → Option S) → IsCarried step carry
    → (xs : List X) (i : ℕ) (x : X) (s new : S) (whole : Option S)
    → i < length xs → x ≡ get_or xs i x → step x s ≡ Some new → carry (drop i xs) s ≡ whole → carry (drop (i + 1) xs) new ≡ whole
carry_more step carry law xs i x s new whole below is went so_far =
    ap (λ o. o >>= carry (drop (i + 1) xs)) (sym went) ∙ sym (law.steps x (drop (i + 1) xs) s)
    ∙ ap (λ ys. carry ys s) (sym (at_hand xs i x below is)) ∙ so_far

pub carry_stops : {X S : Type 0} (step : X → S → Option S) (carry : List X → S → Option S) → IsCarried step carry
    → (xs : List X) (i : ℕ) (x : X) (s : S) (whole : Option S)
    → i < length xs → x ≡ get_or xs i x → carry (drop i xs) s ≡ whole → step x s ≡ None → whole ≡ None
carry_stops step carry law xs i x s whole below is so_far stopped =
    sym so_far ∙ ap (λ ys. carry ys s) (at_hand xs i x below is) ∙ law.steps x (drop (i + 1) xs) s
    ∙ ap (λ o. o >>= carry (drop (i + 1) xs)) stopped

pub carry_ends : {X S : Type 0} (step : X → S → Option S) (carry : List X → S → Option S) → IsCarried step carry
    → (xs : List X) (i : ℕ) (s : S) (whole : Option S) → length xs ≤ i → carry (drop i xs) s ≡ whole → whole ≡ Some s
carry_ends step carry law xs i s whole past so_far =
    sym so_far ∙ ap (λ ys. carry ys s) (drop_all i xs past) ∙ law.finishes s

-- ---- each element gives something, and no state is carried along

abbrev pub before : {Y : Type 0} → List Y → Option (List Y) → Option (List Y)
before front o = o >>= λ rest. Some (front ++ rest)

pub before_nothing : {Y : Type 0} (o : Option (List Y)) → before [] o ≡ o
before_nothing None = refl
before_nothing (Some r) = refl

pub before_more : {Y : Type 0} (front : List Y) (y : Y) (o : Option (List Y)) → before (front ++ y ∷ []) o ≡ before front (o >>= λ others. Some (y ∷ others))
before_more front y None = refl
before_more front y (Some r) = ap Some (append_assoc front (y ∷ []) r)

pub list_more : {X Y : Type 0} (f : X → Option Y) (xs : List X) (i : ℕ) (x : X) (front : List Y) (y : Y) (whole : Option (List Y))
    → i < length xs → x ≡ get_or xs i x → f x ≡ Some y → before front (sequence (map f (drop i xs))) ≡ whole
    → before (front ++ y ∷ []) (sequence (map f (drop (i + 1) xs))) ≡ whole
unfolding sequence
list_more f xs i x front y whole below is went so_far =
    before_more front y (sequence (map f (drop (i + 1) xs)))
    ∙ ap (λ o. before front (o >>= λ first. sequence (map f (drop (i + 1) xs)) >>= λ others. Some (first ∷ others))) (sym went)
    ∙ ap (λ ys. before front (sequence (map f ys))) (sym (at_hand xs i x below is)) ∙ so_far

pub list_stops : {X Y : Type 0} (f : X → Option Y) (xs : List X) (i : ℕ) (x : X) (front : List Y) (whole : Option (List Y))
    → i < length xs → x ≡ get_or xs i x → before front (sequence (map f (drop i xs))) ≡ whole → f x ≡ None → whole ≡ None
unfolding sequence
list_stops f xs i x front whole below is so_far stopped =
    sym so_far ∙ ap (λ ys. before front (sequence (map f ys))) (at_hand xs i x below is)
    ∙ ap (λ o. before front (o >>= λ first. sequence (map f (drop (i + 1) xs)) >>= λ others. Some (first ∷ others))) stopped

pub list_ends : {X Y : Type 0} (f : X → Option Y) (xs : List X) (i : ℕ) (front : List Y) (whole : Option (List Y))
    → length xs ≤ i → before front (sequence (map f (drop i xs))) ≡ whole → whole ≡ Some front
unfolding sequence
list_ends f xs i front whole past so_far =
    sym so_far ∙ ap (λ ys. before front (sequence (map f ys))) (drop_all i xs past) ∙ ap Some (append-nil front)
