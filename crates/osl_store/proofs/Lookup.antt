use Rattle.std.proofs.Common.{◌≡◌, ◌≢◌, ℕ, ◌+◌, ◌<◌, List, [], ◌∷◌, ◌++◌, length, get_or, set, drop, true, false, cond, Some, None, refl, ap, sym, ◌∙◌, arith, zero, suc, add-one}
use Rattle.std.proofs.lemmas.List.{get_or_default}
use Rattle.std.specs.Str.{bytes_eq}
use Rattle.std.proofs.lemmas.Slice.Eq.{bytes_eq-Decides}
use Rattle.std.proofs.Math.Seq.{drop-cons}
use Rattle.std.proofs.lemmas.Bool.{false≢true}
use Rattle.osl_store.specs.Memory.{Entry, name_of, bytes_of, content}

is_same : (a b : List ℕ) → a ≡ b → bytes_eq a b ≡ true
is_same a b e = (bytes_eq-Decides a b).1 e

is_other : (a b : List ℕ) → a ≢ b → bytes_eq a b ≡ false
is_other a b n = elim (bytes_eq a b) as (λ v. bytes_eq a b ≡ v → v ≡ false) [ true ↦ λ e. absurd (n ((bytes_eq-Decides a b).0 e)) | false ↦ λ e. refl ] refl

pub content-here : (x : Entry) (xs : List Entry) (name : List ℕ) → name_of x ≡ name → content (x ∷ xs) name ≡ Some (bytes_of x)
content-here x xs name e = rw (is_same _ _ e) refl

pub content-past : (x : Entry) (xs : List Entry) (name : List ℕ) → name_of x ≢ name → content (x ∷ xs) name ≡ content xs name
content-past x xs name n = rw (is_other _ _ n) refl

pub content-set : (xs : List Entry) (name : List ℕ) (at : ℕ) (new d : Entry) → at < length xs → ((k : ℕ) → k < at → name_of (get_or xs k d) ≢ name)
    → name_of new ≡ name → content (set xs at new) name ≡ Some (bytes_of new)
content-set [] name at new d h earlier e = absurd (omega arith)
content-set (x ∷ xs) name zero new d h earlier e = content-here new xs name e
content-set (x ∷ xs) name (suc at) new d h earlier e =
    content-past x (set xs at new) name (earlier 0 (omega arith))
    ∙ content-set xs name at new d (omega arith) (λ k p. earlier (suc k) (omega arith)) e

pub content-set_other : (xs : List Entry) (other : List ℕ) (at : ℕ) (new d : Entry) → at < length xs → name_of new ≢ other → name_of (get_or xs at d) ≢ other
    → content (set xs at new) other ≡ content xs other
content-set_other [] other at new d h e o = absurd (omega arith)
content-set_other (x ∷ xs) other zero new d h e o = content-past new xs other e ∙ sym (content-past x xs other o)
content-set_other (x ∷ xs) other (suc at) new d h e o =
    let rest : content (set xs at new) other ≡ content xs other = content-set_other xs other at new d (omega arith) e o in
    rw rest refl

pub content-push : (xs : List Entry) (name : List ℕ) (new : Entry) → content xs name ≡ None → name_of new ≡ name → content (xs ++ new ∷ []) name ≡ Some (bytes_of new)
content-push [] name new n e = content-here new [] name e
content-push (x ∷ xs) name new n e =
    elim (bytes_eq (name_of x) name) as (λ v. cond v (Some (bytes_of x)) (content xs name) ≡ None → cond v (Some (bytes_of x)) (content (xs ++ new ∷ []) name) ≡ Some (bytes_of new))
    [ true ↦ λ some. cc | false ↦ λ none. content-push xs name new none e ] n

pub content-push_other : (xs : List Entry) (other : List ℕ) (new : Entry) → name_of new ≢ other → content (xs ++ new ∷ []) other ≡ content xs other
content-push_other [] other new e = content-past new [] other e
content-push_other (x ∷ xs) other new e =
    let rest : content (xs ++ new ∷ []) other ≡ content xs other = content-push_other xs other new e in
    rw rest refl

pub differs : (xs : List Entry) (name : List ℕ) (i : ℕ) (e d : Entry) → i < length xs → e ≡ get_or xs i e → bytes_eq (name_of e) name ≡ false → name_of (get_or xs i d) ≢ name
differs xs name i e d h is apart same = false≢true (sym apart ∙ is_same (name_of e) name (ap name_of (is ∙ get_or_default xs i e d h) ∙ same))

pub content-drop : (xs : List Entry) (name : List ℕ) (i : ℕ) (e : Entry) → i < length xs → e ≡ get_or xs i e → bytes_eq (name_of e) name ≡ false
    → content (drop i xs) name ≡ content (drop (i + 1) xs) name
content-drop xs name i e h is apart =
    let cut : drop i xs ≡ get_or xs i e ∷ drop (i + 1) xs = rw add-one (drop-cons xs i e h) in
    ap (λ l. content l name) cut ∙ content-past (get_or xs i e) (drop (i + 1) xs) name (differs xs name i e e h is apart)
