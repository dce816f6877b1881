-- How code composes: one part after another, and lists of expressions.
use Rattle.std.proofs.Common.{◌≡◌, ℕ, ◌+◌, ◌<◌, ◌≤◌, inl, inr, ⊎_elim, List, [], ◌∷◌, ◌++◌, length, true, refl, sym, ap, ◌∙◌, subst, arith}
use Rattle.std.proofs.lemmas.List.{length-map}
use Rattle.osl_value.specs.declared.types.Ty.{Ty}
use Rattle.osl_value.specs.AnyValue.{AnyValue, type_of}
use Rattle.osl_layer.specs.Layer.{Inputs}
use Rattle.oso_code.specs.declared.op.Op.{Op}
use Rattle.oso_code.specs.declared.symbol.Symbol.{Symbol}
use Rattle.oso_code.specs.Run as R
use Rattle.osl_typed.specs.State.{State, ExpressionEnd, Gives, Exits, Spent, then_value, in_order}
use Rattle.osl_typed.specs.Expressions.{Meaning}
use Rattle.osl_gencode.specs.Growth.{Extends}
use Rattle.osl_gencode.specs.Bodies.{Body, HaveTypes}
use Rattle.osl_gencode.specs.Relation.{IsOwn, In}
use Rattle.osl_gencode.specs.RunEnds.{GivesCode}
use Rattle.osl_gencode.specs.Codes.{IsSpared, AllSpared, Stays, Code, Anything, ExprCode, Place, AllIn, AllWithin, AllTyped, ListCode, Shows}
use Rattle.osl_gencode.proofs.Growing.{get_some, extends_self, extends_on, grows_on, covers_before, types_later}
use Rattle.osl_gencode.proofs.RangeRuns.{leads_self}
use Rattle.osl_gencode.proofs.RelatedStates.{kept_self}
use Rattle.osl_gencode.proofs.Sequels.{seq_code, gives_less}

-- ---- lists of meanings

-- one after another, in other brackets
pub spread : {X Y Z : Type 0} (end : ExpressionEnd X) (f : X → State → ExpressionEnd Y) (g : Y → State → ExpressionEnd Z) → then_value (then_value end f) g ≡ then_value end (λ a s1. then_value (f a s1) g)
spread (Gives a s1) f g = refl
spread (Exits s1) f g = refl
spread (Spent s1) f g = refl

pub in_order_then : {A B : Type 0} (xs : List (State → ExpressionEnd A)) (s : State) (go : List A → State → ExpressionEnd B) → in_order xs s go ≡ then_value (in_order xs s Gives) go
unfolding in_order
in_order_then [] s go = refl
in_order_then (x ∷ xs) s go =
    (λ j. then_value (x s) (λ a s1. (in_order_then xs s1 (λ rest s2. go (a ∷ rest) s2) ∙ sym (ap (λ z. then_value z go) (in_order_then xs s1 (λ rest s2. Gives (a ∷ rest) s2)) ∙ spread (in_order xs s1 Gives) (λ rest s2. Gives (a ∷ rest) s2) go)) j))
    ∙ sym (spread (x s) (λ a s1. in_order xs s1 (λ rest s2. Gives (a ∷ rest) s2)) go)

pub in_order_snoc : {A B : Type 0} (xs : List (State → ExpressionEnd A)) (x : State → ExpressionEnd A) (s : State) (go : List A → State → ExpressionEnd B) → in_order (xs ++ x ∷ []) s go ≡ in_order xs s (λ vs s1. then_value (x s1) (λ v s2. go (vs ++ v ∷ []) s2))
unfolding in_order
in_order_snoc [] x s go = refl
in_order_snoc (y ∷ xs) x s go = λ j. then_value (y s) (λ v s1. in_order_snoc xs x s1 (λ vs s2. go (v ∷ vs) s2) j)

-- ---- what lasts

pub in_stays : (b : Body) (s0 r : ℕ) (types : List Ty) → IsSpared b r (length types) → r + length types ≤ s0 → Stays b s0 (In r types)
in_stays b s0 r types spared h vs x y kept p =
    let e : length vs ≡ length types = sym (length-map vs type_of) ∙ ap length p.typed in
    record { held = record { each = λ k v at. let lt = get_some vs k v at in kept.keeps (r + k) (omega (arith, lt, e, h)) (⊎_elim (λ l. inl (omega (arith, l, lt, e))) (λ g. inr (omega (arith, g))) spared) ∙ p.held.each k v at }; typed = p.typed }

pub all_stay : (b : Body) (s0 : ℕ) (ps : List Place) → AllSpared b ps → AllWithin b s0 ps → Stays b s0 (AllIn ps)
all_stay b s0 [] spared w [] x y kept p = tt
all_stay b s0 [] spared w (vs ∷ vss) x y kept p = absurd p
all_stay b s0 (q ∷ ps) spared w [] x y kept p = absurd p
all_stay b s0 (q ∷ ps) spared w (vs ∷ vss) x y kept p =
    (in_stays b s0 q.first q.types spared.0 w.0 vs x y kept p.0, all_stay b s0 ps spared.1 w.2 vss x y kept p.1)

-- where the code is calm, values in variables last too
pub in_calm : (b : Body) (s0 r : ℕ) (types : List Ty) → b.calm ≡ true → r + length types ≤ s0 → Stays b s0 (In r types)
in_calm b s0 r types calm h vs x y kept p =
    let e : length vs ≡ length types = sym (length-map vs type_of) ∙ ap length p.typed in
    record { held = record { each = λ k v at. let lt = get_some vs k v at in kept.all calm (r + k) (omega (arith, lt, e, h)) ∙ p.held.each k v at }; typed = p.typed }

pub all_calm : (b : Body) (s0 : ℕ) (ps : List Place) → b.calm ≡ true → AllWithin b s0 ps → Stays b s0 (AllIn ps)
all_calm b s0 [] calm w [] x y kept p = tt
all_calm b s0 [] calm w (vs ∷ vss) x y kept p = absurd p
all_calm b s0 (q ∷ ps) calm w [] x y kept p = absurd p
all_calm b s0 (q ∷ ps) calm w (vs ∷ vss) x y kept p =
    (in_calm b s0 q.first q.types calm w.0 vs x y kept p.0, all_calm b s0 ps calm w.2 vss x y kept p.1)

-- more symbols
pub stays_more : {A : Type 0} (b : Body) (s0 s1 : ℕ) (P : Shows A) → s0 ≤ s1 → Stays b s0 P → Stays b s1 P
stays_more b s0 s1 P le stays a x y kept p = stays a x y (record { keeps = λ k h o. kept.keeps k (omega (arith, h, le)) o; all = λ calm k h. kept.all calm k (omega (arith, h, le)) }) p

-- ---- one after another

module _ (b : Body) {A B : Type 0} where
  pub code_then : {C : Type 0} (ops0 ops1 ops2 : List Op) (syms0 syms1 syms2 : List Symbol) (P : Shows A) (Q : Shows B) (S : Shows C) (f : Inputs → A → State → ExpressionEnd B) (g : Inputs → B → State → ExpressionEnd C) → Code b ops0 ops1 syms0 syms1 P Q f → Code b ops1 ops2 syms1 syms2 Q S g → Code b ops0 ops2 syms0 syms2 P S (λ inputs a s. then_value (f inputs a s) (g inputs))
  code_then ops0 ops1 ops2 syms0 syms1 syms2 P Q S f g c d =
      let l0 = c.grows.ops.longer in let l1 = d.grows.ops.longer in let ls = c.grows.syms.longer in
      record {
        grows = grows_on ops0 ops1 ops2 syms0 syms1 syms2 c.grows d.grows;
        runs = λ inputs from steps syms a src cod wired cov ext rel p.
            let ext1 = extends_on syms1 syms2 syms d.grows.syms ext in
            seq_code b from steps syms Q S (length syms0) (length syms1) (length ops0) (length ops1) (length ops2) cod (f inputs a src) (g inputs) ls l1 (c.runs inputs from steps syms a src cod wired (covers_before syms steps ops1 ops2 (length ops0) (length ops0) (omega arith) d.grows.ops cov) ext1 rel p) (λ v s y rel1 kept1 q.
            d.runs inputs from steps syms v s y wired (covers_before syms steps ops2 ops2 (length ops0) (length ops1) l0 (extends_self ops2) cov) ext rel1 q);
      }

  -- what was before is kept beside what is given
  pub code_beside : (ops1 ops2 : List Op) (syms1 syms2 : List Symbol) (P : Shows A) (Q : Shows B) (g : Inputs → A → State → ExpressionEnd B) → Stays b (length syms1) P → Code b ops1 ops2 syms1 syms2 P Q g → Code b ops1 ops2 syms1 syms2 P (λ (both : A × B) x. P (both.0) x × Q (both.1) x) (λ inputs a s. then_value (g inputs a s) (λ v s1. Gives (a, v) s1))
  code_beside ops1 ops2 syms1 syms2 P Q g stays c =
      record {
        grows = c.grows;
        runs = λ inputs from steps syms a src cod wired cov ext rel p.
            beside from steps syms a cod p (g inputs a src) (c.runs inputs from steps syms a src cod wired cov ext rel p);
      }
    where
      beside : (from : R.Sources) (steps : List _) (syms : List Symbol) (a : A) (cod : R.State) → P a cod → (end : ExpressionEnd B) → GivesCode b from steps syms (length syms1) Q (length ops1) (length ops2) cod end → GivesCode b from steps syms (length syms1) (λ (both : A × B) x. P (both.0) x × Q (both.1) x) (length ops1) (length ops2) cod (then_value end (λ v s1. Gives (a, v) s1))
      beside from steps syms a cod p (Gives v s) (y, cm, q) =
          (y, cm, (stays a cod y cm.kept p, q))
      beside from steps syms a cod p (Exits s) gone = gone
      beside from steps syms a cod p (Spent s) gone = gone

  -- other words for what it is
  pub code_as : (ops0 ops1 : List Op) (syms0 syms1 : List Symbol) (P : Shows A) (Q : Shows B) (f g : Inputs → A → State → ExpressionEnd B) → f ≡ g → Code b ops0 ops1 syms0 syms1 P Q f → Code b ops0 ops1 syms0 syms1 P Q g
  code_as ops0 ops1 syms0 syms1 P Q f g e c = subst (λ z. Code b ops0 ops1 syms0 syms1 P Q z) e c

-- ---- lists of expressions

pub list_none : (b : Body) (ops0 : List Op) (syms0 : List Symbol) → ListCode b ops0 ops0 syms0 syms0 [] (λ inputs. [])
unfolding in_order
list_none b ops0 syms0 =
    record {
      within = tt;
      places = tt;
      code = record {
        grows = record { ops = extends_self ops0; syms = extends_self syms0 };
        runs = λ inputs from steps syms a src cod wired cov ext rel p. (cod, record { leads = leads_self from steps (length ops0) cod; related = rel; kept = kept_self b (length syms0) cod }, tt);
      };
    }

pub within_snoc : (b : Body) (hi hi1 : ℕ) (ps : List Place) (p : Place) → hi ≤ hi1 → p.first + length p.types ≤ hi1 → ((k : ℕ) → k < length p.types → IsOwn b (p.first + k)) → AllWithin b hi ps → AllWithin b hi1 (ps ++ p ∷ [])
within_snoc b hi hi1 [] p le h own w = (h, own, tt)
within_snoc b hi hi1 (q ∷ ps) p le h own w = let w0 = w.0 in (omega (arith, w0, le), w.1, within_snoc b hi hi1 ps p le h own w.2)

pub typed_snoc : (syms syms1 : List Symbol) (ps : List Place) (p : Place) → Extends syms syms1 → AllTyped syms ps → HaveTypes syms1 p.first p.types → AllTyped syms1 (ps ++ p ∷ [])
typed_snoc syms syms1 [] p e all h = (h, tt)
typed_snoc syms syms1 (q ∷ ps) p e all h = (types_later syms syms1 q.first q.types e all.0, typed_snoc syms syms1 ps p e all.1 h)

pub in_snoc : (ps : List Place) (p : Place) (vss : List (List AnyValue)) (vs : List AnyValue) (x : R.State) → AllIn ps vss x → In p.first p.types vs x → AllIn (ps ++ p ∷ []) (vss ++ vs ∷ []) x
in_snoc [] p [] vs x all h = (h, tt)
in_snoc [] p (ws ∷ vss) vs x all h = absurd all
in_snoc (q ∷ ps) p [] vs x all h = absurd all
in_snoc (q ∷ ps) p (ws ∷ vss) vs x all h = (all.0, in_snoc ps p vss vs x all.1 h)

pub list_more : (b : Body) (ops0 ops1 ops2 : List Op) (syms0 syms1 syms2 : List Symbol) (ps : List Place) (p : Place) (sems : Inputs → List Meaning) (sem : Inputs → Meaning) → Stays b (length syms1) (AllIn ps) → ListCode b ops0 ops1 syms0 syms1 ps sems → ExprCode b ops1 ops2 syms1 syms2 p.first p.types sem → ListCode b ops0 ops2 syms0 syms2 (ps ++ p ∷ []) (λ inputs. sems inputs ++ sem inputs ∷ [])
list_more b ops0 ops1 ops2 syms0 syms1 syms2 ps p sems sem stays c d =
    let ls = c.code.grows.syms.longer in let ls2 = d.code.grows.syms.longer in let l0 = c.code.grows.ops.longer in let l1 = d.code.grows.ops.longer in
    record {
      within = within_snoc b (length syms1) (length syms2) ps p ls2 d.within d.own c.within;
      places = typed_snoc syms1 syms2 ps p d.code.grows.syms c.places d.places;
      code = record {
        grows = grows_on ops0 ops1 ops2 syms0 syms1 syms2 c.code.grows d.code.grows;
        runs = λ inputs from steps syms a src cod wired cov ext rel nothing.
            let ext1 = extends_on syms1 syms2 syms d.code.grows.syms ext in
            let is = in_order_snoc (sems inputs) (sem inputs) src Gives ∙ in_order_then (sems inputs) src (λ vss s1. then_value (sem inputs s1) (λ vs s2. Gives (vss ++ vs ∷ []) s2)) in
            subst (GivesCode b from steps syms (length syms0) (AllIn (ps ++ p ∷ [])) (length ops0) (length ops2) cod) (sym is) (
            seq_code b from steps syms (AllIn ps) (AllIn (ps ++ p ∷ [])) (length syms0) (length syms1) (length ops0) (length ops1) (length ops2) cod (in_order (sems inputs) src Gives) (λ vss s1. then_value (sem inputs s1) (λ vs s2. Gives (vss ++ vs ∷ []) s2)) ls l1 (c.code.runs inputs from steps syms tt src cod wired (covers_before syms steps ops1 ops2 (length ops0) (length ops0) (omega arith) d.code.grows.ops cov) ext1 rel tt) (λ vss s y rel1 kept1 all.
            snoc from steps syms y vss all (sem inputs s) (d.code.runs inputs from steps syms tt s y wired (covers_before syms steps ops2 ops2 (length ops0) (length ops1) l0 (extends_self ops2) cov) ext rel1 tt)));
      };
    }
  where
    snoc : (from : R.Sources) (steps : List _) (syms : List Symbol) (y : R.State) (vss : List (List AnyValue)) → AllIn ps vss y → (end : ExpressionEnd (List AnyValue)) → GivesCode b from steps syms (length syms1) (In p.first p.types) (length ops1) (length ops2) y end → GivesCode b from steps syms (length syms1) (AllIn (ps ++ p ∷ [])) (length ops1) (length ops2) y (then_value end (λ vs s2. Gives (vss ++ vs ∷ []) s2))
    snoc from steps syms y vss all (Gives vs s) (z, cm, q) =
        (z, cm, in_snoc ps p vss vs z (stays vss y z cm.kept all) q)
    snoc from steps syms y vss all (Exits s) gone = gone
    snoc from steps syms y vss all (Spent s) gone = gone

-- ---- other words

-- more symbols
pub code_more : {A B : Type 0} (b : Body) (ops0 ops1 : List Op) (syms0 syms1 syms2 : List Symbol) (P : Shows A) (Q : Shows B) (f : Inputs → A → State → ExpressionEnd B) → Extends syms1 syms2 → Code b ops0 ops1 syms0 syms1 P Q f → Code b ops0 ops1 syms0 syms2 P Q f
code_more b ops0 ops1 syms0 syms1 syms2 P Q f ext c =
    record {
      grows = record { ops = c.grows.ops; syms = extends_on syms0 syms1 syms2 c.grows.syms ext };
      runs = λ inputs from steps syms a src cod wired cov ext2 rel p. c.runs inputs from steps syms a src cod wired cov (extends_on syms1 syms2 syms ext ext2) rel p;
    }

-- code that asks nothing of where it begins
pub code_any : {A B : Type 0} (b : Body) (ops0 ops1 : List Op) (syms0 syms1 : List Symbol) (P : Shows A) (Q : Shows B) (f : Inputs → State → ExpressionEnd B) → Code b ops0 ops1 syms0 syms1 Anything Q (λ inputs a. f inputs) → Code b ops0 ops1 syms0 syms1 P Q (λ inputs a. f inputs)
code_any b ops0 ops1 syms0 syms1 P Q f c =
    record { grows = c.grows; runs = λ inputs from steps syms a src cod wired cov ext rel p. c.runs inputs from steps syms tt src cod wired cov ext rel tt }

-- what is older than more is older than less
pub code_less : {A B : Type 0} (b : Body) (ops0 ops1 : List Op) (syms0 syms1 syms2 : List Symbol) (P : Shows A) (Q : Shows B) (f : Inputs → A → State → ExpressionEnd B) → Extends syms0 syms1 → Code b ops0 ops1 syms1 syms2 P Q f → Code b ops0 ops1 syms0 syms2 P Q f
code_less b ops0 ops1 syms0 syms1 syms2 P Q f ext c =
    record {
      grows = record { ops = c.grows.ops; syms = extends_on syms0 syms1 syms2 ext c.grows.syms };
      runs = λ inputs from steps syms a src cod wired cov ext2 rel p. gives_less b from steps syms Q (length syms0) (length syms1) (length ops0) (length ops1) cod (f inputs a src) ext.longer c.grows.ops.longer (c.runs inputs from steps syms a src cod wired cov ext2 rel p);
    }

-- one after another, where the second may write what the first added
pub code_then_into : {A B C : Type 0} (b : Body) (ops0 ops1 ops2 : List Op) (syms0 syms1 syms2 : List Symbol) (P : Shows A) (Q : Shows B) (S : Shows C) (f : Inputs → A → State → ExpressionEnd B) (g : Inputs → B → State → ExpressionEnd C) → Extends syms1 syms2 → Code b ops0 ops1 syms0 syms1 P Q f → Code b ops1 ops2 syms0 syms2 Q S g → Code b ops0 ops2 syms0 syms2 P S (λ inputs a s. then_value (f inputs a s) (g inputs))
code_then_into b ops0 ops1 ops2 syms0 syms1 syms2 P Q S f g ext12 c d =
    let l0 = c.grows.ops.longer in let l1 = d.grows.ops.longer in
    record {
      grows = record { ops = extends_on ops0 ops1 ops2 c.grows.ops d.grows.ops; syms = d.grows.syms };
      runs = λ inputs from steps syms a src cod wired cov ext rel p.
          seq_code b from steps syms Q S (length syms0) (length syms0) (length ops0) (length ops1) (length ops2) cod (f inputs a src) (g inputs) (omega arith) l1 (c.runs inputs from steps syms a src cod wired (covers_before syms steps ops1 ops2 (length ops0) (length ops0) (omega arith) d.grows.ops cov) (extends_on syms1 syms2 syms ext12 ext) rel p) (λ v s y rel1 kept1 q.
          d.runs inputs from steps syms v s y wired (covers_before syms steps ops2 ops2 (length ops0) (length ops1) l0 (extends_self ops2) cov) ext rel1 q);
    }
