-- Each step of the walk keeps what the walk comes to.
use Rattle.std.proofs.Common.{◌≡◌, ℕ, ◌+◌, ◌-◌, ◌<◌, ◌≤◌, List, [], ◌∷◌, ◌++◌, length, take, drop, map, get_or, set, refl, ap, sym, ◌∙◌, arith, length-append, lit≤}
use Rattle.std.proofs.lemmas.List.{take_all, length-take, length-map, map-append, take-map, drop-map, reverse-append, append-nil, drop_all, length-drop, get_or_default}
use Rattle.std.proofs.lemmas.List.Edits.{map_over_more}
use Rattle.std.specs.Borrow.{Bor}
use Rattle.std.specs.Prelude.{ℤ, Option, None, Some}
use borrow.Rule.Slice.PartMut.{put_mid}
use Rattle.osl_value.specs.Closures.{joined, weighted, weighted_part}
use Rattle.osl_value.specs.declared.closure.Part.{Part}
use Rattle.osl_closure.specs.declared.node.Shape.{Shape, Leaf, Add', Scale'}
use Rattle.osl_closure.specs.declared.walk.Found.{Found}
use Rattle.osl_closure.specs.declared.walk.Task.{Task}
use Rattle.osl_closure.specs.declared.walk.Task.TheVariants.{Visit, Multiply}
use Rattle.osl_closure.specs.Parts.{parts, parts_of}
use Rattle.osl_closure.specs.Walk.{done, finish, finish_up, seen, seen_all, found_weighted, size}
use Rattle.osl_closure.specs.Weights.{times}
use Rattle.osl_closure.proofs.Kept.{keeps_full, keeps_all, keeps_both, keeps_mapped}

-- ---- lists of parts

-- no closure has more than the kept parts
pub parts-short : (s : Shape) → length (parts s) ≤ 256
parts-short (Leaf arguments text) = lit≤ tt
parts-short (Add' p a q b) = omega (arith, length-take 256 (parts a ++ parts b))
parts-short (Scale' by p a) = omega (arith, length-map (parts a) (weighted_part by.now), parts-short a)

pub parts_of-short : (s : Option (Bor Shape)) → length (parts_of s) ≤ 256
parts_of-short None = lit≤ tt
parts_of-short (Some s) = parts-short s.now

-- the empty closure adds nothing
pub joined-none_left : (xs : List Part) → length xs ≤ 256 → xs ≡ joined [] xs
joined-none_left xs h = sym (take_all 256 xs h)

pub joined-none_right : (xs : List Part) → length xs ≤ 256 → xs ≡ joined xs []
joined-none_right xs h = sym (ap (take 256) (append-nil xs) ∙ take_all 256 xs h)

-- ---- one step

-- the last task is the next
finish_up-push : (ts : List Task) (t : Task) (f : List Part) → finish_up (ts ++ t ∷ []) f ≡ finish_up ts (done t f)
finish_up-push ts t f = ap (λ l. finish l f) (reverse-append ts (t ∷ []))

pub visit_first : (s : Bor Shape) → finish_up (Visit s ∷ []) [] ≡ parts s.now
visit_first s = take_all 256 (parts s.now) (parts-short s.now)

pub visit_full : (ts : List Task) (s : Bor Shape) (found : List Found) → length found ≡ 256
    → finish_up ts (seen_all found) ≡ finish_up (ts ++ Visit s ∷ []) (seen_all found)
visit_full ts s found h =
    ap (finish_up ts) (sym (keeps_full 256 (seen_all found) (parts s.now) (omega (arith, length-map found seen))))
    ∙ sym (finish_up-push ts (Visit s) (seen_all found))

pub visit_leaf : (ts : List Task) (s : Bor Shape) (found : List Found) (new : List Part) (part : Part) → length found < 256
    → parts s.now ≡ part ∷ [] → new ≡ seen_all found ++ part ∷ []
    → finish_up ts new ≡ finish_up (ts ++ Visit s ∷ []) (seen_all found)
visit_leaf ts s found new part h e q =
    ap (finish_up ts) (q
    ∙ sym (keeps_all 256 (seen_all found) (part ∷ []) (omega (arith, length-map found seen)))
    ∙ ap (joined (seen_all found)) (sym e))
    ∙ sym (finish_up-push ts (Visit s) (seen_all found))

pub visit_add : (ts : List Task) (s left right : Bor Shape) (f : List Part) → parts s.now ≡ joined (parts left.now) (parts right.now)
    → finish_up ((ts ++ Visit right ∷ []) ++ Visit left ∷ []) f ≡ finish_up (ts ++ Visit s ∷ []) f
visit_add ts s left right f e =
    finish_up-push (ts ++ Visit right ∷ []) (Visit left) f
    ∙ finish_up-push ts (Visit right) (joined f (parts left.now))
    ∙ ap (finish_up ts) (keeps_both 256 f (parts left.now) (parts right.now) ∙ ap (joined f) (sym e))
    ∙ sym (finish_up-push ts (Visit s) f)

pub visit_scale : (ts : List Task) (s inner : Bor Shape) (by : Bor (List ℤ)) (f : List Part) (k : ℕ) → k ≡ length f → k ≤ 256
    → parts s.now ≡ weighted by.now (parts inner.now)
    → finish_up ((ts ++ Multiply k by ∷ []) ++ Visit inner ∷ []) f ≡ finish_up (ts ++ Visit s ∷ []) f
visit_scale ts s inner by f k h short e =
    finish_up-push (ts ++ Multiply k by ∷ []) (Visit inner) f
    ∙ finish_up-push ts (Multiply k by) (joined f (parts inner.now))
    ∙ ap (finish_up ts) (ap (λ j. done (Multiply j by) (joined f (parts inner.now))) h
    ∙ keeps_mapped (weighted_part by.now) 256 f (parts inner.now) (omega arith)
    ∙ ap (joined f) (sym e))
    ∙ sym (finish_up-push ts (Visit s) f)

seen_all-weighted : (by : List ℤ) (xs : List Found) → seen_all (map (found_weighted by) xs) ≡ weighted by (seen_all xs)
seen_all-weighted by [] = refl
seen_all-weighted by (x ∷ xs) = ap (λ l. weighted_part by (seen x) ∷ l) (seen_all-weighted by xs)

pub multiply : (ts : List Task) (from : ℕ) (by : Bor (List ℤ)) (old new : List Found) → new ≡ take from old ++ map (found_weighted by.now) (drop from old)
    → finish_up ts (seen_all new) ≡ finish_up (ts ++ Multiply from by ∷ []) (seen_all old)
multiply ts from by old new e =
    ap (finish_up ts) (ap seen_all e
    ∙ map-append seen (take from old) (map (found_weighted by.now) (drop from old))
    ∙ rw (seen_all-weighted by.now (drop from old), take-map seen from old, drop-map seen from old) refl)
    ∙ sym (finish_up-push ts (Multiply from by) (seen_all old))

-- a walk over a shape has a step to do
pub size-positive : (s : Shape) → 0 < size s
size-positive (Leaf arguments text) = omega arith
size-positive (Add' p a q b) = omega arith
size-positive (Scale' by p a) = omega arith

-- ---- writing the weights

-- one more found part has its weight multiplied
pub weighted_more : (by : List ℤ) (xs ys : List Found) (i : ℕ) (d : Found) (w : List ℤ) → i < length xs
    → ys ≡ map (found_weighted by) (take i xs) ++ drop i xs → w ≡ times by (get_or ys i d).weight
    → set ys i (record (get_or ys i d) { weight = w }) ≡ map (found_weighted by) (take (i + 1) xs) ++ drop (i + 1) xs
weighted_more by xs ys i d w h e q =
    let within : i < length ys = rw e (omega (arith, length-append (map (found_weighted by) (take i xs)) (drop i xs), length-map (take i xs) (found_weighted by), length-take i xs, length-drop i xs)) in
    rw q (map_over_more (found_weighted by) xs ys i (get_or ys i d) h e (get_or_default ys i d (get_or ys i d) within))

-- the part of a slice from a place on, written back
pub put_end : {A : Type 0} (a : ℕ) (xs ys : List A) → put_mid a (length xs - a) xs ys ≡ take a xs ++ ys
put_end a xs ys =
    ap (λ l. take a xs ++ (ys ++ l)) (drop_all (length xs - a) (drop a xs) (omega (arith, length-drop a xs)))
    ∙ ap (λ l. take a xs ++ l) (append-nil ys)

-- the whole slice of a vector, written back
pub put_whole : {A : Type 0} (n : ℕ) (new old : List A) → length new ≡ length old → n ≡ length old → take n (new ++ drop (length new) old) ≡ new
put_whole n new old h e =
    ap (λ l. take n (new ++ l)) (drop_all (length new) old (omega arith)) ∙ ap (take n) (append-nil new) ∙ take_all n new (omega arith)
