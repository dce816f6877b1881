-- A name looked up in a map's entries, after a change.
use Rattle.std.proofs.Common.{◌≡◌, ℕ, Bool, true, false, cond, if◌then◌else◌, List, [], ◌∷◌, ◌++◌, map, None, Some, Vec, Result, Ok, Err, OnOk, OnErr, refl, ap, sym, ◌∙◌}
use Rattle.std.specs.Str.{bytes_eq}
use Rattle.std.specs.Map.{lookup, set_value}
use Rattle.std.proofs.lemmas.Map.Steps.{set_value_same}
use Rattle.std.proofs.lemmas.Slice.Eq.{bytes_eq-Decides}
use Rattle.indexmap.specs.IndexMap.{insert_entry}
use Rattle.osl_typed.specs.Scopes.{Candidate}
use Rattle.osl_calls.specs.Table.{functions_in, held}

same : (a b : List ℕ) → bytes_eq a b ≡ true → a ≡ b
same a b h = (bytes_eq-Decides a b).0 h

alike : (a b : List ℕ) → a ≡ b → bytes_eq a b ≡ true
alike a b h = (bytes_eq-Decides a b).1 h

-- what a name has, where the functions of one name are changed
abbrev pub changed : List ℕ → List Candidate → List ℕ → List Candidate → List Candidate
changed name xs other old = if bytes_eq other name then xs else old

module _ {K : Type 0} (bytes : K → List ℕ) where
  abbrev pub seen : K × List Candidate → List ℕ × List Candidate
  seen entry = (bytes entry.0, entry.1)

  abbrev pub is : List ℕ → K → Bool
  is name k = bytes_eq name (bytes k)

  pub looked_up : (name : List ℕ) (es : List (K × List Candidate)) → held (map seen es) name ≡ functions_in (lookup (is name) es)
  unfolding held
  looked_up name [] = refl
  looked_up name (e ∷ es) = go (is name e.0) (looked_up name es)
    where
      go : (this : Bool) → held (map seen es) name ≡ functions_in (lookup (is name) es)
          → (if this then e.1 else held (map seen es) name) ≡ functions_in (cond this (Some e.1) (lookup (is name) es))
      go true h = refl
      go false h = h

  written_here : (name other own : List ℕ) (xs mine rest : List Candidate) → name ≡ own
      → (if bytes_eq other own then xs else rest) ≡ changed name xs other (if bytes_eq other own then mine else rest)
  written_here name other own xs mine rest e = go (bytes_eq other own) (bytes_eq other name) (ap (bytes_eq other) (sym e))
    where
      go : (b c : Bool) → b ≡ c → (if b then xs else rest) ≡ (if c then xs else (if b then mine else rest))
      go true true h = refl
      go true false h = absurd (cc)
      go false true h = absurd (cc)
      go false false h = refl

  written_below : (name other own : List ℕ) (xs mine rest rest_after : List Candidate) → bytes_eq name own ≡ false → rest_after ≡ changed name xs other rest
      → (if bytes_eq other own then mine else rest_after) ≡ changed name xs other (if bytes_eq other own then mine else rest)
  written_below name other own xs mine rest rest_after apart h = go (bytes_eq other own) (bytes_eq other name) refl refl h
    where
      go : (b c : Bool) → bytes_eq other own ≡ b → bytes_eq other name ≡ c → rest_after ≡ (if c then xs else rest)
          → (if b then mine else rest_after) ≡ (if c then xs else (if b then mine else rest))
      go true true p q k = let s : name ≡ own = sym (same other name q) ∙ same other own p in let t : bytes_eq name own ≡ true = alike name own s in absurd (cc)
      go true false p q k = refl
      go false true p q k = k
      go false false p q k = k

  pub written : (name other : List ℕ) (xs old : List Candidate) (es : List (K × List Candidate)) → lookup (is name) es ≡ Some old
      → held (map seen (set_value (is name) es xs)) other ≡ changed name xs other (held (map seen es) other)
  unfolding held
  written name other xs old [] there = absurd (cc)
  written name other xs old (e ∷ es) there = go (is name e.0) refl there (written name other xs old es)
    where
      go : (this : Bool) → is name e.0 ≡ this → cond this (Some e.1) (lookup (is name) es) ≡ Some old
          → (lookup (is name) es ≡ Some old → held (map seen (set_value (is name) es xs)) other ≡ changed name xs other (held (map seen es) other))
          → held (map seen (cond this ((e.0, xs) ∷ es) (e ∷ set_value (is name) es xs))) other
          ≡ changed name xs other (if bytes_eq other (bytes e.0) then e.1 else held (map seen es) other)
      go true p t ih = written_here name other (bytes e.0) xs e.1 (held (map seen es) other) (same name (bytes e.0) p)
      go false p t ih = written_below name other (bytes e.0) xs e.1 (held (map seen es) other) _ p (ih t)

  pub appended : (name other : List ℕ) (k : K) (xs : List Candidate) (es : List (K × List Candidate)) → bytes k ≡ name → lookup (is name) es ≡ None
      → held (map seen (es ++ (k, xs) ∷ [])) other ≡ changed name xs other (held (map seen es) other)
  unfolding held
  appended name other k xs [] e none = ap (λ b. if b then xs else []) (ap (bytes_eq other) e)
  appended name other k xs (f ∷ es) e none = go (is name f.0) refl none (appended name other k xs es e)
    where
      go : (this : Bool) → is name f.0 ≡ this → cond this (Some f.1) (lookup (is name) es) ≡ None
          → (lookup (is name) es ≡ None → held (map seen (es ++ (k, xs) ∷ [])) other ≡ changed name xs other (held (map seen es) other))
          → (if bytes_eq other (bytes f.0) then f.1 else held (map seen (es ++ (k, xs) ∷ [])) other)
          ≡ changed name xs other (if bytes_eq other (bytes f.0) then f.1 else held (map seen es) other)
      go true p t ih = absurd (cc)
      go false p t ih = written_below name other (bytes f.0) xs f.1 (held (map seen es) other) _ p (ih t)

-- the bytes of a key
abbrev pub key_bytes : {C : Type 0} → Vec ℕ C → List ℕ
key_bytes key = key.items

pub changes_nothing : (name other : List ℕ) (functions : List Candidate) → changed name functions other functions ≡ functions
changes_nothing name other functions = go (bytes_eq other name)
  where
    go : (b : Bool) → (if b then functions else functions) ≡ functions
    go true = refl
    go false = refl

-- one more function of a name
abbrev with_one : List ℕ → Candidate → List ℕ → List Candidate → List Candidate
with_one name c other functions = changed name (functions ++ c ∷ []) other functions

module _ {K A E : Type 0} (bytes : K → List ℕ) (r : Result A E) (name : List ℕ) (old xs : List Candidate) (es new : List (K × List Candidate))
    (there : lookup (is bytes name) es ≡ Some old) (after : new ≡ set_value (is bytes name) es xs) where
  pub pushed_ok : (c : Candidate) → OnOk r (xs ≡ old ++ c ∷ [])
      → OnOk r ((other : List ℕ) → held (map (seen bytes) new) other ≡ with_one name c other (held (map (seen bytes) es) other))
  pushed_ok c = go r
    where
      more : xs ≡ old ++ c ∷ [] → (other : List ℕ) → (b : Bool) → bytes_eq other name ≡ b
          → (if b then xs else held (map (seen bytes) es) other) ≡ (if b then held (map (seen bytes) es) other ++ c ∷ [] else held (map (seen bytes) es) other)
      more e other true p =
          let own : old ≡ held (map (seen bytes) es) other =
          sym (ap (held (map (seen bytes) es)) (same other name p) ∙ looked_up bytes name es ∙ ap functions_in there) in
          e ∙ ap (λ ys. ys ++ c ∷ []) own
      more e other false p = refl

      go : (q : Result A E) → OnOk q (xs ≡ old ++ c ∷ [])
          → OnOk q ((other : List ℕ) → held (map (seen bytes) new) other ≡ with_one name c other (held (map (seen bytes) es) other))
      go (Ok a) e = λ other. ap (λ ls. held (map (seen bytes) ls) other) after ∙ written bytes name other xs old es there ∙ more e other (bytes_eq other name) refl
      go (Err a) e = tt

  pub pushed_err : OnErr r (xs ≡ old) → OnErr r ((other : List ℕ) → held (map (seen bytes) new) other ≡ held (map (seen bytes) es) other)
  pushed_err = go r
    where
      go : (q : Result A E) → OnErr q (xs ≡ old) → OnErr q ((other : List ℕ) → held (map (seen bytes) new) other ≡ held (map (seen bytes) es) other)
      go (Ok a) e = tt
      go (Err a) e = λ other. ap (λ ls. held (map (seen bytes) ls) other) (after ∙ ap (set_value (is bytes name) es) e ∙ set_value_same (is bytes name) es old there)

module _ {K : Type 0} (bytes : K → List ℕ) (name : List ℕ) (k : K) (c : Candidate) (es : List (K × List Candidate)) (none : lookup (is bytes name) es ≡ None) where
  pub first_pushed : (xs : List Candidate) → bytes k ≡ name → xs ≡ c ∷ [] → (other : List ℕ)
      → held (map (seen bytes) (es ++ (k, xs) ∷ [])) other ≡ with_one name c other (held (map (seen bytes) es) other)
  first_pushed xs e only other = appended bytes name other k xs es e none ∙ go (bytes_eq other name) refl
    where
      go : (b : Bool) → bytes_eq other name ≡ b
          → (if b then xs else held (map (seen bytes) es) other) ≡ (if b then held (map (seen bytes) es) other ++ c ∷ [] else held (map (seen bytes) es) other)
      go true p =
          let empty : held (map (seen bytes) es) other ≡ [] = ap (held (map (seen bytes) es)) (same other name p) ∙ looked_up bytes name es ∙ ap functions_in none in
          only ∙ ap (λ ys. ys ++ c ∷ []) (sym empty)
      go false p = refl

-- a key that is not there goes last
goes_last : {K : Type 0} (eq : K → K → Bool) (k : K) (xs : List Candidate) (es : List (K × List Candidate)) → lookup (eq k) es ≡ None → insert_entry eq es k xs ≡ es ++ (k, xs) ∷ []
goes_last eq k xs [] none = refl
goes_last {K} eq k xs (f ∷ es) none = go (eq k f.0) none (goes_last eq k xs es)
  where
    go : (this : Bool) → cond this (Some f.1) (lookup (eq k) es) ≡ None → (lookup (eq k) es ≡ None → insert_entry eq es k xs ≡ es ++ (k, xs) ∷ [])
        → (if this then (f.0, xs) ∷ es else f ∷ insert_entry eq es k xs) ≡ f ∷ (es ++ (k, xs) ∷ [])
    go true h ih = absurd (cc)
    go false h ih = ap (λ rest. f ∷ rest) (ih h)

pub inserted_first : {K : Type 0} (bytes : K → List ℕ) (name : List ℕ) (k : K) (c : Candidate) (es before after : List (K × List Candidate)) (xs : List Candidate)
    → after ≡ insert_entry (λ a b. bytes_eq (bytes a) (bytes b)) before k xs → before ≡ es → bytes k ≡ name → lookup (is bytes name) es ≡ None → xs ≡ c ∷ []
    → (other : List ℕ) → held (map (seen bytes) after) other ≡ with_one name c other (held (map (seen bytes) es) other)
inserted_first bytes name k c es before after xs e b own none only other =
    ap (λ ls. held (map (seen bytes) ls) other)
    (e ∙ ap (λ ls. insert_entry (λ a b. bytes_eq (bytes a) (bytes b)) ls k xs) b
    ∙ goes_last (λ a b. bytes_eq (bytes a) (bytes b)) k xs es (ap (λ w. lookup (is bytes w) es) own ∙ none))
    ∙ first_pushed bytes name k c es none xs own only other
