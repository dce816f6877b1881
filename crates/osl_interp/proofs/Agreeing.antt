-- What is known of a run's inputs, as its callers see it and as the machine has it.
use Rattle.std.proofs.Common.{◌≡◌, ◌≢◌, ℕ, zero, suc, ◌+◌, List, [], ◌∷◌, Option, Some, None, Bool, true, false, refl, sym, ap, ◌∙◌, subst, arith}
use Rattle.std.specs.Prelude.{slice_get, slice_set}
use Rattle.osl_value.specs.AnyValue.{AnyValue, argument}
use Rattle.osl_value.specs.Plain.{Plain}
use Rattle.osl_layer.specs.Layer as L
use Rattle.osl_interp.specs.Calls.{first_known, first_knowns}
use Rattle.osl_interp.specs.Known.{is_given, FitsAt, Fits}
use Rattle.osl_interp.specs.Known as Machine
use Rattle.osl_interp.specs.Meaning.{Configuration}
use Rattle.osl_interp.specs.Progress.{AgreesAt, Agrees, was_given, given_reads}
use Rattle.osl_interp.specs.Starts.{known_from, knowns}
use Rattle.osl_interp.specs.View.{seen_known, knowns_from, seen_knowns, supposed_at, supposed}
use Rattle.osl_interp.specs.declared.known.Known.{Known}
use Rattle.osl_interp.specs.declared.known.Known.TheVariants as K

-- ---- one parameter

abbrev pub seen_at : Option Known → AnyValue → Option (Option Plain) → Option (Option L.Input)
seen_at None v fixed = None
seen_at (Some known) v fixed = Some (seen_known known v fixed)

pub known_at : (at : ℕ) (ks : List Known) (values : ℕ → AnyValue) (fixed : List (Option Plain)) (j : ℕ)
    → slice_get (knowns_from at ks values fixed) j ≡ seen_at (slice_get ks j) (values (at + j)) (slice_get fixed (at + j))
known_at at [] values fixed j = refl
known_at at (k ∷ ks) values fixed zero =
    let e : at ≡ at + 0 = omega arith in ap (λ n. Some (seen_known k (values n) (slice_get fixed n))) e
known_at at (k ∷ ks) values fixed (suc j) =
    let e : (at + 1) + j ≡ at + suc j = omega arith in
    known_at (at + 1) ks values fixed j ∙ ap (λ n. seen_at (slice_get ks j) (values n) (slice_get fixed n)) e

module _ (fixed : List (Option Plain)) (c : Configuration) where
  pub known_there : (j : ℕ) → slice_get (seen_knowns fixed c) j ≡ seen_at (slice_get c.inputs j) (argument c.values j) (slice_get fixed j)
  known_there j =
      let e : 0 + j ≡ j = omega arith in
      known_at 0 c.inputs (argument c.values) fixed j ∙ ap (λ n. seen_at (slice_get c.inputs j) (argument c.values n) (slice_get fixed n)) e

  fits_at : (input : L.Input) (v : AnyValue) (f : Option (Option Plain)) (o : Option Known) → AgreesAt input (seen_at o v f) → FitsAt input v o
  fits_at input v f None h = tt
  fits_at input v f (Some K.Default) h = h
  fits_at input v f (Some K.Fixed) h = (_, h)
  fits_at input v f (Some K.Waiting) h = h
  fits_at input v f (Some K.Given) h = h
  fits_at input v f (Some K.Nothing) h = h

  pub agrees_fits : (inputs : L.Inputs) → Agrees inputs (seen_knowns fixed c) → Fits inputs c.inputs c.values
  agrees_fits inputs h = record { each = λ k. fits_at (inputs k) (argument c.values k) (slice_get fixed k) (slice_get c.inputs k) (subst (AgreesAt (inputs k)) (known_there k) (h.each k)) }

  read_at : (o : Option Known) (v : AnyValue) (f : Option (Option Plain)) → was_given (seen_at o v f) ≡ is_given o
  read_at None v f = refl
  read_at (Some K.Default) v f = refl
  read_at (Some K.Fixed) v f = refl
  read_at (Some K.Waiting) v f = refl
  read_at (Some K.Given) v f = refl
  read_at (Some K.Nothing) v f = refl

  -- the parameters that were given are those that the machine was given
  pub reads_same : Machine.given_reads c.inputs ≡ given_reads (seen_knowns fixed c)
  reads_same = λ i k. sym (ap was_given (known_there k) ∙ read_at (slice_get c.inputs k) (argument c.values k) (slice_get fixed k)) i

  pub waits_seen : (p : ℕ) → slice_get c.inputs p ≡ Some K.Waiting → slice_get (seen_knowns fixed c) p ≡ Some None
  waits_seen p h = known_there p ∙ ap (λ o. seen_at o (argument c.values p) (slice_get fixed p)) h

-- ---- the inputs in which all that waits is nothing

supposed_fits : (o : Option (Option L.Input)) → AgreesAt (supposed_at o) o
supposed_fits None = tt
supposed_fits (Some None) = (None, refl)
supposed_fits (Some (Some input)) = refl

pub supposed_agrees : (known : List (Option L.Input)) → Agrees (supposed known) known
supposed_agrees known = record { each = λ k. supposed_fits (slice_get known k) }

-- ---- what is known stays, while the machine goes on

same_from : (at : ℕ) (ks : List Known) (v w : ℕ → AnyValue) (fixed : List (Option Plain)) → ((j : ℕ) → slice_get ks j ≡ Some K.Given → v (at + j) ≡ w (at + j)) → knowns_from at ks v fixed ≡ knowns_from at ks w fixed
same_from at [] v w fixed h = refl
same_from at (k ∷ ks) v w fixed h = by k refl (same_from (at + 1) ks v w fixed (λ j there. let e : (at + 1) + j ≡ at + suc j = omega arith in ap v e ∙ h (suc j) there ∙ ap w (sym e)))
  where
    by : (x : Known) → k ≡ x → knowns_from (at + 1) ks v fixed ≡ knowns_from (at + 1) ks w fixed → (seen_known x (v at) (slice_get fixed at) ∷ knowns_from (at + 1) ks v fixed) ≡ (seen_known x (w at) (slice_get fixed at) ∷ knowns_from (at + 1) ks w fixed)
    by K.Default is rest = ap (λ l. Some L.Default ∷ l) rest
    by K.Fixed is rest = ap (λ l. seen_known K.Fixed (v at) (slice_get fixed at) ∷ l) rest
    by K.Waiting is rest = ap (λ l. None ∷ l) rest
    by K.Given is rest =
        let e : at + 0 ≡ at = omega arith in
        let same : v at ≡ w at = ap v (sym e) ∙ h 0 (ap Some is) ∙ ap w e in
        λ i. Some (L.From (Some (same i))) ∷ rest i
    by K.Nothing is rest = ap (λ l. Some (L.From None) ∷ l) rest

from_same : (v w : AnyValue) (input : L.Input) → input ≡ L.From (Some v) → input ≡ L.From (Some w) → v ≡ w
from_same v w input a b = let q : L.From (Some v) ≡ L.From (Some w) = sym a ∙ b in cc q

pub knowns_stay : (fixed : List (Option Plain)) (old new : Configuration) → new.inputs ≡ old.inputs → ((inputs : L.Inputs) → Fits inputs old.inputs old.values → Fits inputs new.inputs new.values)
    → seen_knowns fixed new ≡ seen_knowns fixed old
knowns_stay fixed old new stay fits =
    let inputs = supposed (seen_knowns fixed old) in
    let before = agrees_fits fixed old inputs (supposed_agrees (seen_knowns fixed old)) in
    let after = fits inputs before in
    same_from 0 new.inputs (argument new.values) (argument old.values) fixed
    (λ j there.
    let e : 0 + j ≡ j = omega arith in
    ap (argument new.values) e
    ∙ from_same (argument new.values j) (argument old.values j) (inputs j)
    (subst (FitsAt (inputs j) (argument new.values j)) there (after.each j))
    (subst (FitsAt (inputs j) (argument old.values j)) (sym (ap (λ l. slice_get l j) stay) ∙ there) (before.each j))
    ∙ ap (argument old.values) (sym e))
    ∙ ap (λ l. knowns_from 0 l (argument old.values) fixed) stay

-- ---- what is given

set_from : (at : ℕ) (ks : List Known) (p : ℕ) (known : Known) (v w : ℕ → AnyValue) (fixed : List (Option Plain)) → ((j : ℕ) → j ≢ p → w (at + j) ≡ v (at + j))
    → knowns_from at (slice_set ks p known) w fixed ≡ slice_set (knowns_from at ks v fixed) p (seen_known known (w (at + p)) (slice_get fixed (at + p)))
set_from at [] p known v w fixed h = refl
set_from at (k ∷ ks) zero known v w fixed h =
    let e : at ≡ at + 0 = omega arith in
    let rest = same_from (at + 1) ks w v fixed (λ j there. let q : (at + 1) + j ≡ at + suc j = omega arith in let ne : suc j ≢ 0 = omega arith in ap w q ∙ h (suc j) ne ∙ ap v (sym q)) in
    λ i. seen_known known (w (e i)) (slice_get fixed (e i)) ∷ rest i
set_from at (k ∷ ks) (suc p) known v w fixed h =
    let e : at + 0 ≡ at = omega arith in
    let ne : 0 ≢ suc p = omega arith in
    let same : w at ≡ v at = ap w (sym e) ∙ h 0 ne ∙ ap v e in
    let q : (at + 1) + p ≡ at + suc p = omega arith in
    let rest = set_from (at + 1) ks p known v w fixed (λ j apart. let r : (at + 1) + j ≡ at + suc j = omega arith in let other : suc j ≢ suc p = omega (arith, apart) in ap w r ∙ h (suc j) other ∙ ap v (sym r))
    ∙ ap (λ n. slice_set (knowns_from (at + 1) ks v fixed) p (seen_known known (w n) (slice_get fixed n))) q in
    λ i. seen_known k (same i) (slice_get fixed at) ∷ rest i

pub knowns_given : (fixed : List (Option Plain)) (old new : Configuration) (p : ℕ) (known : Known) → new.inputs ≡ slice_set old.inputs p known → ((j : ℕ) → j ≢ p → argument new.values j ≡ argument old.values j)
    → seen_knowns fixed new ≡ slice_set (seen_knowns fixed old) p (seen_known known (argument new.values p) (slice_get fixed p))
knowns_given fixed old new p known is same =
    let e : 0 + p ≡ p = omega arith in
    ap (λ l. knowns_from 0 l (argument new.values) fixed) is
    ∙ set_from 0 old.inputs p known (argument old.values) (argument new.values) fixed (λ j ne. let q : 0 + j ≡ j = omega arith in ap (argument new.values) q ∙ same j ne ∙ ap (argument old.values) (sym q))
    ∙ ap (λ n. slice_set (seen_knowns fixed old) p (seen_known known (argument new.values n) (slice_get fixed n))) e

-- a list that is set twice, and then as it was
pub set_back : {X : Type 0} (xs : List X) (p : ℕ) (x y : X) → slice_get xs p ≡ Some y → slice_set (slice_set xs p x) p y ≡ xs
set_back [] p x y h = refl
set_back (z ∷ xs) zero x y h = let e : y ≡ z = cc h in ap (λ a. a ∷ xs) e
set_back (z ∷ xs) (suc p) x y h = ap (λ l. z ∷ l) (set_back xs p x y h)

-- ---- the start

seen_first : (wired : Bool) (f : Option Plain) (v : AnyValue) → seen_known (known_from wired f) v (Some f) ≡ first_known wired f
seen_first true f v = refl
seen_first false None v = refl
seen_first false (Some x) v = refl

first_from : (at : ℕ) (wired : List Bool) (fs fixed : List (Option Plain)) (v : ℕ → AnyValue) → ((j : ℕ) → slice_get fixed (at + j) ≡ slice_get fs j) → knowns_from at (knowns wired fs) v fixed ≡ first_knowns wired fs
first_from at [] fs fixed v h = refl
first_from at (w ∷ wired) [] fixed v h = refl
first_from at (w ∷ wired) (f ∷ fs) fixed v h =
    let e : at + 0 ≡ at = omega arith in
    let here : slice_get fixed at ≡ Some f = ap (slice_get fixed) (sym e) ∙ h 0 in
    let rest = first_from (at + 1) wired fs fixed v (λ j. let q : (at + 1) + j ≡ at + suc j = omega arith in ap (slice_get fixed) q ∙ h (suc j)) in
    let head : seen_known (known_from w f) (v at) (slice_get fixed at) ≡ first_known w f = ap (seen_known (known_from w f) (v at)) here ∙ seen_first w f (v at) in
    λ i. head i ∷ rest i

pub knowns_first : (wired : List Bool) (fixed : List (Option Plain)) (c : Configuration) → c.inputs ≡ knowns wired fixed → seen_knowns fixed c ≡ first_knowns wired fixed
knowns_first wired fixed c is =
    ap (λ l. knowns_from 0 l (argument c.values) fixed) is
    ∙ first_from 0 wired fixed fixed (argument c.values) (λ j. let e : 0 + j ≡ j = omega arith in ap (slice_get fixed) e)
