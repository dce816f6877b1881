-- The stack and its table.
use Rattle.std.proofs.Common.{◌≡◌, ℕ, zero, suc, ◌+◌, ◌-◌, ◌<◌, Bool, true, false, List, [], ◌∷◌, ◌++◌, length, drop, slice_get, cond, if◌then◌else◌, Option, Some, None, refl, ap, sym, ◌∙◌, subst, arith, length-append, length-drop}
use Rattle.std.specs.Prelude.{bytes_eq}
use Rattle.std.specs.Cmp.Lexicographic.{bytes_decides, nat_list_eq_equiv}
use Rattle.std.proofs.lemmas.List.{drop-drop}
use Rattle.std.specs.Map.{lookup}
use Rattle.indexmap.specs.IndexMap.{IndexMap, IsEmpty}
use Rattle.osl_typed.specs.declared.found.Binding.{Binding}
use Rattle.osl_typed.specs.Scopes.{look}
use Rattle.osl_typed.specs.Typing.{◌>>=◌}
use Rattle.osl_names.specs.declared.stack.Entry.{Entry}
use Rattle.osl_names.specs.Stack.{flip, bindings_of, newest, Chained, no_entry, one_entry, place_by, Tied}

pub flip_last : (xs : List Entry) (x : Entry) → flip (xs ++ x ∷ []) ≡ x ∷ flip xs
unfolding flip
flip_last [] x = refl
flip_last (y ∷ ys) x = rw (flip_last ys x) refl

pub flip_flip : (xs : List Entry) → flip (flip xs) ≡ xs
unfolding flip
flip_flip [] = refl
flip_flip (x ∷ xs) = flip_last (flip xs) x ∙ ap (λ z. x ∷ z) (flip_flip xs)

pub length_flip : (xs : List Entry) → length (flip xs) ≡ length xs
unfolding flip
length_flip [] = refl
length_flip (x ∷ xs) = simp (length-append, length_flip xs) (omega arith)

pub length_bindings : (xs : List Entry) → length (bindings_of xs) ≡ length xs
unfolding bindings_of
length_bindings [] = refl
length_bindings (x ∷ xs) = ap suc (length_bindings xs)

pub counted : (xs : List Entry) → length (bindings_of (flip xs)) ≡ length xs
counted xs = length_bindings (flip xs) ∙ length_flip xs

get_last : (xs : List Entry) (x : Entry) → slice_get (xs ++ x ∷ []) (length xs) ≡ Some x
get_last [] x = refl
get_last (y ∷ ys) x = get_last ys x

get_before : (xs : List Entry) (x : Entry) (i : ℕ) → i < length xs → slice_get (xs ++ x ∷ []) i ≡ slice_get xs i
get_before [] x i lt = absurd (omega arith)
get_before (y ∷ ys) x zero lt = refl
get_before (y ∷ ys) x (suc i) lt = get_before ys x i (omega arith)

newest_within : (w : List ℕ) (ys : List Entry) (i : ℕ) → newest w ys ≡ Some i → i < length ys
unfolding newest
newest_within w [] i e = absurd (cc)
newest_within w (y ∷ ys) i e = go (bytes_eq y.binding.name w) (newest_within w ys i) e
  where
    go : (t : Bool) → (newest w ys ≡ Some i → i < length ys) → if◌then◌else◌ {A = Option ℕ} t (Some (length ys)) (newest w ys) ≡ Some i → i < length (y ∷ ys)
    go true ih h = let s : length ys ≡ i = cc in omega arith
    go false ih h = let s : i < length ys = ih h in omega arith

abbrev pub entry_at : List Entry → Option ℕ → Option Binding
entry_at xs o = o >>= λ i. slice_get xs i >>= λ x. Some x.binding

same_below : (xs : List Entry) (y : Entry) (o : Option ℕ) → ((i : ℕ) → o ≡ Some i → i < length xs) → entry_at (xs ++ y ∷ []) o ≡ entry_at xs o
same_below xs y None h = refl
same_below xs y (Some i) h = rw (get_before xs y i (h i refl)) refl

found_at : (w : List ℕ) (ys : List Entry) → look w (bindings_of ys) ≡ entry_at (flip ys) (newest w ys)
unfolding look bindings_of newest flip
found_at w [] = refl
found_at w (y ∷ ys) = go (bytes_eq y.binding.name w) (found_at w ys)
  where
    last : entry_at (flip ys ++ y ∷ []) (Some (length ys)) ≡ Some y.binding
    last = let e : slice_get (flip ys ++ y ∷ []) (length ys) ≡ Some y = ap (slice_get (flip ys ++ y ∷ [])) (sym (length_flip ys)) ∙ get_last (flip ys) y in rw e refl

    go : (t : Bool) → look w (bindings_of ys) ≡ entry_at (flip ys) (newest w ys)
        → if◌then◌else◌ {A = Option Binding} t (Some y.binding) (look w (bindings_of ys)) ≡ entry_at (flip ys ++ y ∷ []) (if◌then◌else◌ {A = Option ℕ} t (Some (length ys)) (newest w ys))
    go true ih = sym last
    go false ih = ih ∙ sym (same_below (flip ys) y (newest w ys) (λ i e. let l : i < length ys = newest_within w ys i e in let m : length (flip ys) ≡ length ys = length_flip ys in omega arith))

pub no_bindings : bindings_of (flip []) ≡ []
unfolding flip bindings_of
no_bindings = refl

pub push_bindings : (entries : List Entry) (x : Entry) → bindings_of (flip (entries ++ x ∷ [])) ≡ x.binding ∷ bindings_of (flip entries)
unfolding bindings_of
push_bindings entries x = rw (flip_last entries x) refl

module _ {K S : Type 0} (bytes : K → List ℕ) where
  pub none_there : (table : IndexMap K ℕ S) → IsEmpty table → (w : List ℕ) → place_by bytes w table ≡ None
  none_there table e w = ap (lookup (λ k. bytes_eq w (bytes k))) e

  pub new_tied : (table : IndexMap K ℕ S) → ((w : List ℕ) → place_by bytes w table ≡ None) → Tied bytes table []
  unfolding newest flip
  new_tied table h = record { latest = h; chained = no_entry }

  -- looking a name up, by the table's answer
  pub look_by : (table : IndexMap K ℕ S) (entries : List Entry) → Tied bytes table entries → (w : List ℕ) (o : Option ℕ) → o ≡ place_by bytes w table
      → look w (bindings_of (flip entries)) ≡ entry_at entries o
  look_by table entries t w o e = found_at w (flip entries) ∙ ap (λ z. entry_at z (newest w (flip entries))) (flip_flip entries) ∙ ap (entry_at entries) (sym (e ∙ t.latest w))

  -- after a push the name's place is the new one
  pub pushed : (old new : IndexMap K ℕ S) (entries : List Entry) (x : Entry) → Tied bytes old entries → x.hidden ≡ place_by bytes x.binding.name old
      → ((w : List ℕ) → place_by bytes w new ≡ cond (bytes_eq x.binding.name w) (Some (length entries)) (place_by bytes w old)) → Tied bytes new (entries ++ x ∷ [])
  unfolding newest
  pushed old new entries x t h u = record {
    latest = λ w. u w ∙ ap (cond (bytes_eq x.binding.name w) (Some (length entries))) (t.latest w)
        ∙ sym (ap (newest w) (flip_last entries x) ∙ ap (λ n. cond (bytes_eq x.binding.name w) (Some n) (newest w (flip entries))) (length_flip entries));
    chained = subst Chained (sym (flip_last entries x)) (one_entry x (flip entries) (h ∙ t.latest x.binding.name) t.chained);
  }

  pub record Popped (table : IndexMap K ℕ S) (rest : List Entry) (x : Entry) : Type 0 where
    pub place : place_by bytes x.binding.name table ≡ Some (length rest)
    pub hidden : x.hidden ≡ newest x.binding.name (flip rest)
    pub chained : Chained (flip rest)
    pub others : (w : List ℕ) → place_by bytes w table ≡ cond (bytes_eq x.binding.name w) (Some (length rest)) (newest w (flip rest))

  -- what the innermost entry tells
  pub popped : (table : IndexMap K ℕ S) (rest : List Entry) (x : Entry) → Tied bytes table (rest ++ x ∷ []) → Popped table rest x
  unfolding newest
  popped table rest x t = go (subst Chained (flip_last rest x) t.chained)
    where
      all : (w : List ℕ) → place_by bytes w table ≡ cond (bytes_eq x.binding.name w) (Some (length rest)) (newest w (flip rest))
      all w = t.latest w ∙ ap (newest w) (flip_last rest x) ∙ ap (λ n. cond (bytes_eq x.binding.name w) (Some n) (newest w (flip rest))) (length_flip rest)

      itself : cond (bytes_eq x.binding.name x.binding.name) (Some (length rest)) (newest x.binding.name (flip rest)) ≡ Some (length rest)
      itself = ap (λ b. cond b (Some (length rest)) (newest x.binding.name (flip rest))) (nat_list_eq_equiv.refl x.binding.name)

      go : Chained (x ∷ flip rest) → Popped table rest x
      go (one_entry y ys h d) = record { place = all x.binding.name ∙ itself; hidden = h; chained = d; others = all }

  -- after a pop the name means again what the entry hid
  pub restored : (old new : IndexMap K ℕ S) (rest : List Entry) (x : Entry) → Popped old rest x
      → ((w : List ℕ) → place_by bytes w new ≡ cond (bytes_eq x.binding.name w) x.hidden (place_by bytes w old)) → Tied bytes new rest
  restored old new rest x p u = record { latest = λ w. u w ∙ go w (bytes_eq x.binding.name w) refl (p.others w); chained = p.chained }
    where
      go : (w : List ℕ) (t : Bool) → bytes_eq x.binding.name w ≡ t → place_by bytes w old ≡ cond (bytes_eq x.binding.name w) (Some (length rest)) (newest w (flip rest))
          → cond t x.hidden (place_by bytes w old) ≡ newest w (flip rest)
      go w true e k = let s : x.binding.name ≡ w = (bytes_decides x.binding.name w).0 e in p.hidden ∙ ap (λ z. newest z (flip rest)) s
      go w false e k = k ∙ ap (λ b. cond b (Some (length rest)) (newest w (flip rest))) e

pub dropped : (entries rest : List Entry) (x : Entry) → entries ≡ rest ++ x ∷ [] → bindings_of (flip rest) ≡ drop 1 (bindings_of (flip entries))
dropped entries rest x e = sym (ap (drop 1) (ap (λ z. bindings_of (flip z)) e ∙ push_bindings rest x))

pub nothing_dropped : (old new : List Entry) → old ≡ [] → new ≡ [] → bindings_of (flip new) ≡ drop 1 (bindings_of (flip old))
nothing_dropped old new e f = ap (λ z. bindings_of (flip z)) f ∙ no_bindings ∙ sym (ap (drop 1) (ap (λ z. bindings_of (flip z)) e ∙ no_bindings))

-- one more is taken back of those that are above the count
pub one_back : (now after whole : List Binding) (count : ℕ) → count < length now → after ≡ drop 1 now → drop (length now - count) now ≡ whole → drop (length after - count) after ≡ whole
one_back now after whole count lt e h =
    let n : length after ≡ length now - 1 = ap length e ∙ length-drop 1 now in
    let m : 1 + (length after - count) ≡ length now - count = omega arith in
    ap (drop (length after - count)) e ∙ drop-drop (length after - count) 1 now ∙ ap (λ k. drop k now) m ∙ h
