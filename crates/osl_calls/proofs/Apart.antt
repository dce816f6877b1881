-- One pass with a table of roots finds what a comparison of each argument with each other finds.
use Rattle.std.proofs.Common.{◌≡◌, ℕ, zero, suc, ◌+◌, ◌<◌, ◌≤◌, Bool, true, false, not, cond, ◌&&◌, ◌||◌, if◌then◌else◌, List, [], ◌∷◌, length, map, drop, get_or, slice_get, nat_eq, Option, Some, None, refl, ap, sym, ◌∙◌, arith}
use Rattle.std.specs.Map.{lookup}
use Rattle.std.proofs.lemmas.List.{drop_more, drop_all}
use Rattle.indexmap.specs.IndexMap.{get}
use Rattle.std.specs.List.{list_any}
use Rattle.std.proofs.lemmas.Bool.Decides.{Decides-eqb}
use Rattle.osl_layer.specs.declared.global.GlobalName.{GlobalName}
use Rattle.osl_layer.specs.declared.global.GlobalName.TheVariants.{P, N, Ng, I, U, V, Ci}
use Rattle.osl_overload.specs.declared.signature.Formal.{Formal}
use Rattle.osl_typed.specs.declared.expr.Root.{Root}
use Rattle.osl_typed.specs.declared.expr.Root.TheVariants as root
use Rattle.osl_typed.specs.State.{same_global}
use Rattle.osl_typed.specs.Choosing.{same_root, share_root, apart_from, apart}
use Rattle.osl_typed.specs.declared.found.Found.{Found}
use Rattle.osl_typed.specs.Typing.{root_of}
use Rattle.osl_calls.specs.declared.outputs.Roots.{Roots}
use Rattle.osl_calls.specs.Roots.{Passed, clashes, with_root, passes, number_of, passed_in}

-- ---- roots

one_global : (g h : GlobalName) → same_global g h ≡ true → g ≡ h
one_global P P e = refl
one_global N N e = refl
one_global Ng Ng e = refl
one_global I I e = refl
one_global U U e = refl
one_global V V e = refl
one_global Ci Ci e = refl
one_global g h e = absurd (cc)

one_root : (r s : Root) → same_root r s ≡ true → r ≡ s
one_root (root.Variable j) (root.Variable k) e = ap root.Variable ((Decides-eqb j k).0 e)
one_root (root.Global g) (root.Global h) e = ap root.Global (one_global g h e)
one_root (root.Variable j) (root.Global h) e = absurd (cc)
one_root (root.Global g) (root.Variable k) e = absurd (cc)

-- ---- one pass

-- no argument that is left clashes with one before it
unfoldable clear : Passed → List Formal → List (Option Root) → Bool
clear passed [] roots = true
clear passed (f ∷ fs) [] = true
clear passed (f ∷ fs) (None ∷ roots) = clear passed fs roots
clear passed (f ∷ fs) (Some r ∷ roots) = not (clashes (passed r) f.output) && clear passed fs roots

-- an argument that clashed with none before it: what came before is no output, if there was something, and then it is none either
pair : (before : Option Bool) (o p : Bool) → clashes before o ≡ false
    → not (clashes (Some o) p) ≡ (not (clashes before p) && not ((o || p) && true))
pair None true p h = refl
pair None false true h = refl
pair None false false h = refl
pair (Some true) o p h = absurd (cc)
pair (Some false) true p h = absurd (cc)
pair (Some false) false true h = refl
pair (Some false) false false h = refl

other_pair : (before : Option Bool) (o p : Bool) → not (clashes before p) ≡ (not (clashes before p) && not ((o || p) && false))
other_pair before o p = go (not (clashes before p)) (o || p)
  where
    go : (a b : Bool) → a ≡ (a && not (b && false))
    go true true = refl
    go true false = refl
    go false b = refl

next : (passed : Passed) (r s : Root) (o p : Bool) → clashes (passed r) o ≡ false
    → not (clashes (with_root r o passed s) p) ≡ (not (clashes (passed s) p) && not ((o || p) && same_root r s))
next passed r s o p h = go (same_root r s) refl
  where
    go : (same : Bool) → same_root r s ≡ same
        → not (clashes (if same then Some o else passed s) p) ≡ (not (clashes (passed s) p) && not ((o || p) && same))
    go true e = pair (passed s) o p (ap (λ t. clashes (passed t) o) (sym (one_root r s e)) ∙ h)
    go false e = other_pair (passed s) o p

swapped : (a b c d : Bool) → ((a && b) && (c && d)) ≡ ((a && c) && (b && d))
swapped true true c d = refl
swapped true false true d = refl
swapped true false false d = refl
swapped false b c d = refl

-- one more before them: it clashes with none that is left, nor did the ones before it
one_more : (passed : Passed) (f : Formal) (r : Root) (fs : List Formal) (roots : List (Option Root)) → clashes (passed r) f.output ≡ false
    → clear (with_root r f.output passed) fs roots ≡ (clear passed fs roots && apart_from f (Some r) fs roots)
unfolding clear apart_from
one_more passed f r [] roots h = refl
one_more passed f r (g ∷ gs) [] h = refl
one_more passed f r (g ∷ gs) (None ∷ roots) h = one_more passed f r gs roots h ∙ ap (λ b. clear passed gs roots && b) (none f.output g.output (apart_from f (Some r) gs roots))
  where
    none : (o p b : Bool) → b ≡ (not ((o || p) && false) && b)
    none true p b = refl
    none false true b = refl
    none false false b = refl
one_more passed f r (g ∷ gs) (Some s ∷ roots) h =
    ap (λ b. b && clear (with_root r f.output passed) gs roots) (next passed r s f.output g.output h)
    ∙ ap (λ b. (not (clashes (passed s) g.output) && not ((f.output || g.output) && same_root r s)) && b) (one_more passed f r gs roots h)
    ∙ swapped (not (clashes (passed s) g.output)) (not ((f.output || g.output) && same_root r s)) (clear passed gs roots) (apart_from f (Some r) gs roots)

no_root : (f : Formal) (fs : List Formal) (roots : List (Option Root)) → apart_from f None fs roots ≡ true
unfolding apart_from
no_root f [] roots = refl
no_root f (g ∷ gs) [] = refl
no_root f (g ∷ gs) (b ∷ roots) = ap (λ c. c && apart_from f None gs roots) (none (f.output || g.output)) ∙ no_root f gs roots
  where
    none : (o : Bool) → not (o && false) ≡ true
    none true = refl
    none false = refl

passes_is : (passed : Passed) (fs : List Formal) (roots : List (Option Root)) → passes passed fs roots ≡ (clear passed fs roots && apart fs roots)
unfolding passes clear apart
passes_is passed [] roots = refl
passes_is passed (f ∷ fs) [] = refl
passes_is passed (f ∷ fs) (None ∷ roots) =
    passes_is passed fs roots ∙ ap (λ b. clear passed fs roots && (b && apart fs roots)) (sym (no_root f fs roots))
passes_is passed (f ∷ fs) (Some r ∷ roots) = go (clashes (passed r) f.output) refl (passes_is (with_root r f.output passed) fs roots)
  where
    joined : (a b c : Bool) → ((a && b) && c) ≡ (a && (b && c))
    joined true b c = refl
    joined false b c = refl

    go : (bad : Bool) → clashes (passed r) f.output ≡ bad
        → passes (with_root r f.output passed) fs roots ≡ (clear (with_root r f.output passed) fs roots && apart fs roots)
        → (not bad && passes (with_root r f.output passed) fs roots) ≡ ((not bad && clear passed fs roots) && (apart_from f (Some r) fs roots && apart fs roots))
    go true e rest = refl
    go false e rest =
        rest
        ∙ ap (λ b. b && apart fs roots) (one_more passed f r fs roots e)
        ∙ joined (clear passed fs roots) (apart_from f (Some r) fs roots) (apart fs roots)

nothing_passed : (fs : List Formal) (roots : List (Option Root)) → clear (λ r. None) fs roots ≡ true
unfolding clear
nothing_passed [] roots = refl
nothing_passed (f ∷ fs) [] = refl
nothing_passed (f ∷ fs) (None ∷ roots) = nothing_passed fs roots
nothing_passed (f ∷ fs) (Some r ∷ roots) = nothing_passed fs roots

pub passes_from_none : (fs : List Formal) (roots : List (Option Root)) → passes (λ r. None) fs roots ≡ apart fs roots
passes_from_none fs roots = passes_is (λ r. None) fs roots ∙ ap (λ b. b && apart fs roots) (nothing_passed fs roots)

-- ---- no output

no_clash_from : (f : Formal) (a : Option Root) (fs : List Formal) (roots : List (Option Root)) → f.output ≡ false → list_any (λ formal. formal.output) fs ≡ false
    → apart_from f a fs roots ≡ true
unfolding apart_from
no_clash_from f a [] roots e h = refl
no_clash_from f a (g ∷ gs) [] e h = refl
no_clash_from f a (g ∷ gs) (b ∷ roots) e h = go f.output g.output e h (no_clash_from f a gs roots e)
  where
    go : (o p : Bool) → o ≡ false → (p || list_any (λ formal. formal.output) gs) ≡ false
        → (list_any (λ formal. formal.output) gs ≡ false → apart_from f a gs roots ≡ true)
        → (not ((o || p) && share_root a b) && apart_from f a gs roots) ≡ true
    go true p k l ih = absurd (cc)
    go false true k l ih = absurd (cc)
    go false false k l ih = ih l

pub no_output : (fs : List Formal) (roots : List (Option Root)) → list_any (λ formal. formal.output) fs ≡ false → apart fs roots ≡ true
unfolding apart
no_output [] roots h = refl
no_output (f ∷ fs) [] h = refl
no_output (f ∷ fs) (a ∷ roots) h = go f.output refl h (no_output fs roots)
  where
    go : (o : Bool) → f.output ≡ o → (o || list_any (λ formal. formal.output) fs) ≡ false → (list_any (λ formal. formal.output) fs ≡ false → apart fs roots ≡ true)
        → (apart_from f a fs roots && apart fs roots) ≡ true
    go true e k rest = absurd (cc)
    go false e k rest = ap (λ b. b && apart fs roots) (no_clash_from f a fs roots e k) ∙ rest k

-- ---- the pass

global_key : (g h : GlobalName) → nat_eq (number_of g) (number_of h) ≡ same_global g h
global_key P P = refl
global_key P _ = refl
global_key N N = refl
global_key N _ = refl
global_key Ng Ng = refl
global_key Ng _ = refl
global_key I I = refl
global_key I _ = refl
global_key U U = refl
global_key U _ = refl
global_key V V = refl
global_key V _ = refl
global_key Ci Ci = refl
global_key Ci _ = refl

pub no_roots : (roots : Roots) → roots.variables.entries ≡ [] → roots.globals.entries ≡ [] → passed_in roots ≡ (λ r. None)
no_roots roots v g = λ i r. at r i
  where
    at : (r : Root) → passed_in roots r ≡ None
    at (root.Variable j) = ap (lookup (nat_eq j)) v
    at (root.Global h) = ap (lookup (nat_eq (number_of h))) g

pub variable_passed : (old new : Roots) (j : ℕ) (o : Bool) → ((k : ℕ) → get nat_eq new.variables k ≡ cond (nat_eq j k) (Some o) (get nat_eq old.variables k))
    → new.globals ≡ old.globals → passed_in new ≡ with_root (root.Variable j) o (passed_in old)
variable_passed old new j o v g = λ i r. at r i
  where
    at : (r : Root) → passed_in new r ≡ with_root (root.Variable j) o (passed_in old) r
    at (root.Variable k) = v k
    at (root.Global h) = ap (λ m. get nat_eq m (number_of h)) g

pub global_passed : (old new : Roots) (g : GlobalName) (o : Bool) → ((k : ℕ) → get nat_eq new.globals k ≡ cond (nat_eq (number_of g) k) (Some o) (get nat_eq old.globals k))
    → new.variables ≡ old.variables → passed_in new ≡ with_root (root.Global g) o (passed_in old)
global_passed old new g o now v = λ i r. at r i
  where
    at : (r : Root) → passed_in new r ≡ with_root (root.Global g) o (passed_in old) r
    at (root.Variable k) = ap (λ m. get nat_eq m k) v
    at (root.Global h) = now (number_of h) ∙ ap (λ b. cond b (Some o) (passed_in old (root.Global h))) (global_key g h)

rest_of : (args : List Found) (i : ℕ) (a : Found) → slice_get args i ≡ Some a → drop i (map root_of args) ≡ root_of a ∷ drop (i + 1) (map root_of args)
rest_of [] i a e = absurd (cc)
rest_of (b ∷ args) zero a e = let s : b ≡ a = cc in ap (λ x. root_of x ∷ map root_of args) s
rest_of (b ∷ args) (suc i) a e = let on : suc i + 1 ≡ suc (i + 1) = omega arith in
    rest_of args i a e ∙ ap (λ k. root_of a ∷ drop k (map root_of (b ∷ args))) (sym on)

none_of : (args : List Found) (i : ℕ) → slice_get args i ≡ None → drop i (map root_of args) ≡ []
none_of [] zero e = refl
none_of [] (suc i) e = refl
none_of (b ∷ args) zero e = absurd (cc)
none_of (b ∷ args) (suc i) e = none_of args i e

pub begins : (passed : Passed) (fs : List Formal) (roots : List (Option Root)) → passed ≡ (λ r. None) → passes passed fs roots ≡ apart fs roots
begins passed fs roots e = ap (λ p. passes p fs roots) e ∙ passes_from_none fs roots

module _ (passed : Passed) (fs : List Formal) (args : List Found) (i : ℕ) (whole : Bool) (so_far : passes passed (drop i fs) (drop i (map root_of args)) ≡ whole) where
  pub no_argument : slice_get args i ≡ None → true ≡ whole
  unfolding passes
  no_argument e = go (drop i fs) (ap (passes passed (drop i fs)) (sym (none_of args i e)) ∙ so_far)
    where
      go : (gs : List Formal) → passes passed gs [] ≡ whole → true ≡ whole
      go [] h = h
      go (g ∷ gs) h = h

  pub no_parameter : length fs ≤ i → true ≡ whole
  unfolding passes
  no_parameter ge = ap (λ gs. passes passed gs (drop i (map root_of args))) (sym (drop_all i fs ge)) ∙ so_far

  module _ (d : Formal) (a : Found) (lt : i < length fs) (here : slice_get args i ≡ Some a) where
    step : (r : Option Root) → root_of a ≡ r → passes passed (get_or fs i d ∷ drop (i + 1) fs) (r ∷ drop (i + 1) (map root_of args)) ≡ whole
    step r e = (λ j. passes passed (sym (drop_more fs i d lt) j) (lists j)) ∙ so_far
      where
        lists : r ∷ drop (i + 1) (map root_of args) ≡ drop i (map root_of args)
        lists = ap (λ x. x ∷ drop (i + 1) (map root_of args)) (sym e) ∙ sym (rest_of args i a here)

    pub passed_none : (now : Passed) → root_of a ≡ None → now ≡ passed → passes now (drop (i + 1) fs) (drop (i + 1) (map root_of args)) ≡ whole
    unfolding passes
    passed_none now e same = ap (λ p. passes p (drop (i + 1) fs) (drop (i + 1) (map root_of args))) same ∙ step None e

    pub found_clash : (r : Root) (before : Option Bool) (bad : Bool) → root_of a ≡ Some r → before ≡ passed r → bad ≡ clashes before (get_or fs i d).output → bad ≡ true → false ≡ whole
    unfolding passes
    found_clash r before bad e was is so =
        ap (λ b. not b && passes (with_root r (get_or fs i d).output passed) (drop (i + 1) fs) (drop (i + 1) (map root_of args)))
        (sym so ∙ is ∙ ap (λ b. clashes b (get_or fs i d).output) was)
        ∙ step (Some r) e

    pub passed_root : (r : Root) (before : Option Bool) (bad : Bool) (now : Passed) → root_of a ≡ Some r → before ≡ passed r → bad ≡ clashes before (get_or fs i d).output → bad ≡ false
        → now ≡ with_root r (get_or fs i d).output passed → passes now (drop (i + 1) fs) (drop (i + 1) (map root_of args)) ≡ whole
    unfolding passes
    passed_root r before bad now e was is so after =
        ap (λ p. passes p (drop (i + 1) fs) (drop (i + 1) (map root_of args))) after
        ∙ ap (λ b. not b && passes (with_root r (get_or fs i d).output passed) (drop (i + 1) fs) (drop (i + 1) (map root_of args)))
        (sym so ∙ is ∙ ap (λ b. clashes b (get_or fs i d).output) was)
        ∙ step (Some r) e
