-- Code that writes no older symbol: it is code like any other, and all that was found before it lasts, values in variables too.
use Rattle.std.proofs.Common.{◌≡◌, ℕ, ◌+◌, List, [], ◌∷◌, ◌++◌, length, Bool, true, refl, sym, ◌∙◌}
use Rattle.osl_value.specs.declared.types.Ty.{Ty}
use Rattle.osl_layer.specs.Layer.{Inputs}
use Rattle.oso_code.specs.declared.op.Op.{Op}
use Rattle.oso_code.specs.declared.symbol.Symbol.{Symbol}
use Rattle.oso_code.specs.Run as R
use Rattle.oso_code.specs.Steps.{Step}
use Rattle.osl_typed.specs.State.{State, ExpressionEnd, Gives, Exits, Spent, then_value, in_order}
use Rattle.osl_typed.specs.Expressions.{Meaning}
use Rattle.osl_gencode.specs.Relation.{In, IsOwn, Kept, Wired, Related}
use Rattle.osl_gencode.specs.Growth.{Extends}
use Rattle.osl_gencode.specs.Codes.{Code, ListCode, Anything, ExprCode, AllIn, AllWithin, Place, Stays, Shows}
use Rattle.osl_gencode.specs.Bodies.{Body, shader, Laid, function, with_calm, Room}
use Rattle.osl_gencode.specs.RunEnds.{GivesCode}
use Rattle.osl_gencode.proofs.CodeLists.{code_any, all_calm, typed_snoc, in_order_snoc, code_beside, within_snoc, in_snoc, code_as, in_order_then, spread, code_then}

-- ---- what does not depend on it

laid_calm : (t : Bool) (b : Body) → Laid b → Laid (with_calm t b)
laid_calm t b (shader e1 e2 e3 e4) = shader e1 e2 e3 e4
laid_calm t b (function e1 e2 e3 e4) = function e1 e2 e3 e4

pub room_calm : (t : Bool) (b : Body) (syms : List Symbol) → Room b syms → Room (with_calm t b) syms
room_calm t b syms r = record { laid = laid_calm t b r.laid; splits = r.splits; within = r.within; leaves = r.leaves; globals = r.globals }

pub wired_calm : (t : Bool) (b : Body) (inputs : Inputs) (from : R.Sources) → Wired b inputs from → Wired (with_calm t b) inputs from
wired_calm t b inputs from w = record { here = w.here; first = w.first; typed = w.typed; unwired = w.unwired; above = w.above }

wired_loud : (t : Bool) (b : Body) (inputs : Inputs) (from : R.Sources) → Wired (with_calm t b) inputs from → Wired b inputs from
wired_loud t b inputs from w = record { here = w.here; first = w.first; typed = w.typed; unwired = w.unwired; above = w.above }

pub own_calm : (t : Bool) (b : Body) (k : ℕ) → IsOwn b k → IsOwn (with_calm t b) k
own_calm t b k own inputs from wired = own inputs from (wired_loud t b inputs from wired)

pub own_loud : (t : Bool) (b : Body) (k : ℕ) → IsOwn (with_calm t b) k → IsOwn b k
own_loud t b k own inputs from wired = own inputs from (wired_calm t b inputs from wired)

related_calm : (t : Bool) (b : Body) (syms : List Symbol) (s : State) (x : R.State) → Related b syms s x → Related (with_calm t b) syms s x
related_calm t b syms s x r = record { vars = r.vars; typed = r.typed; globals = r.globals; global_types = r.global_types; turns = r.turns; reads = r.reads; consts = r.consts }

related_loud : (t : Bool) (b : Body) (syms : List Symbol) (s : State) (x : R.State) → Related (with_calm t b) syms s x → Related b syms s x
related_loud t b syms s x r = record { vars = r.vars; typed = r.typed; globals = r.globals; global_types = r.global_types; turns = r.turns; reads = r.reads; consts = r.consts }

kept_loud : (b : Body) (s0 : ℕ) (x y : R.State) → Kept (with_calm true b) s0 x y → Kept b s0 x y
kept_loud b s0 x y k = record { keeps = k.keeps; all = λ calm. k.all refl }

-- ---- calm code is code

gives_loud : {A : Type 0} (b : Body) (from : R.Sources) (steps : List Step) (syms : List Symbol) (P : Shows A) (s0 i m : ℕ) (x : R.State) (end : ExpressionEnd A) → GivesCode (with_calm true b) from steps syms s0 P i m x end → GivesCode b from steps syms s0 P i m x end
gives_loud b from steps syms P s0 i m x (Gives a s) (y, cm, p) = (y, record { leads = cm.leads; related = related_loud true b syms s y cm.related; kept = kept_loud b s0 x y cm.kept }, p)
gives_loud b from steps syms P s0 i m x (Exits s) (y, g) = (y, record { finishes = g.finishes; related = related_loud true b syms s y g.related; kept = kept_loud b s0 x y g.kept })
gives_loud b from steps syms P s0 i m x (Spent s) (y, g) = (y, record { finishes = g.finishes; reads = g.reads })

pub loud_code : {A B : Type 0} (b : Body) (ops0 ops1 : List Op) (syms0 syms1 : List Symbol) (P : Shows A) (Q : Shows B) (f : Inputs → A → State → ExpressionEnd B) → Code (with_calm true b) ops0 ops1 syms0 syms1 P Q f → Code b ops0 ops1 syms0 syms1 P Q f
loud_code b ops0 ops1 syms0 syms1 P Q f c = record {
  grows = c.grows;
  runs = λ inputs from steps syms a src cod wired cov ext rel p. gives_loud b from steps syms Q (length syms0) (length ops0) (length ops1) cod (f inputs a src) (c.runs inputs from steps syms a src cod (wired_calm true b inputs from wired) cov ext (related_calm true b syms src cod rel) p);
}

pub loud_expr : (b : Body) (ops0 ops1 : List Op) (syms0 syms1 : List Symbol) (r : ℕ) (types : List Ty) (sem : Inputs → Meaning) → ExprCode (with_calm true b) ops0 ops1 syms0 syms1 r types sem → ExprCode b ops0 ops1 syms0 syms1 r types sem
loud_expr b ops0 ops1 syms0 syms1 r types sem c = record {
  within = c.within;
  own = λ k lt. own_loud true b (r + k) (c.own k lt);
  places = c.places;
  code = loud_code b ops0 ops1 syms0 syms1 Anything (In r types) (λ inputs a. sem inputs) c.code;
}

-- ---- what was found before lasts

-- A value and what was found before it: calm code keeps whatever speaks of older symbols, other code what `Stays`.
abbrev pub Beside : {A B : Type 0} → Shows A → Shows B → Shows (A × B)
Beside P Q both x = P (both.0) x × Q (both.1) x

pub calm_beside : {A B : Type 0} (b : Body) (ops1 ops2 : List Op) (syms1 syms2 : List Symbol) (P : Shows A) (Q : Shows B) (g : Inputs → A → State → ExpressionEnd B) → Stays (with_calm true b) (length syms1) P → Code (with_calm true b) ops1 ops2 syms1 syms2 P Q g → Code b ops1 ops2 syms1 syms2 P (Beside P Q) (λ inputs a s. then_value (g inputs a s) (λ v s1. Gives (a, v) s1))
calm_beside b ops1 ops2 syms1 syms2 P Q g stays c =
    loud_code b ops1 ops2 syms1 syms2 P (Beside P Q) (λ inputs a s. then_value (g inputs a s) (λ v s1. Gives (a, v) s1)) (code_beside (with_calm true b) ops1 ops2 syms1 syms2 P Q g stays c)

-- places in older symbols last in calm code, whatever they are
within_calm : (t : Bool) (b : Body) (hi : ℕ) (ps : List Place) → AllWithin b hi ps → AllWithin (with_calm t b) hi ps
within_calm t b hi [] w = tt
within_calm t b hi (p ∷ ps) w = (w.0, λ k lt. own_calm t b (p.first + k) (w.1 k lt), within_calm t b hi ps w.2)

pub places_calm : (b : Body) (hi : ℕ) (ps : List Place) → AllWithin b hi ps → Stays (with_calm true b) hi (AllIn ps)
places_calm b hi ps w = all_calm (with_calm true b) hi ps refl (within_calm true b hi ps w)

-- ---- in other words

-- other words for what is known before
pub code_from : {A A' B : Type 0} (b : Body) (ops0 ops1 : List Op) (syms0 syms1 : List Symbol) (P : Shows A) (P' : Shows A') (Q : Shows B) (h : A → A') (f : Inputs → A' → State → ExpressionEnd B) → ((a : A) (x : R.State) → P a x → P' (h a) x) → Code b ops0 ops1 syms0 syms1 P' Q f → Code b ops0 ops1 syms0 syms1 P Q (λ inputs a. f inputs (h a))
code_from b ops0 ops1 syms0 syms1 P P' Q h f is c = record { grows = c.grows; runs = λ inputs from steps syms a src cod wired cov ext rel p. c.runs inputs from steps syms (h a) src cod wired cov ext rel (is a cod p) }

-- other words for what is given
pub code_to : {A B B' : Type 0} (b : Body) (ops0 ops1 : List Op) (syms0 syms1 : List Symbol) (P : Shows A) (Q : Shows B) (Q' : Shows B') (h : B → B') (f : Inputs → A → State → ExpressionEnd B) → ((syms : List Symbol) (v : B) (s : State) (x : R.State) → Extends syms1 syms → Related b syms s x → Q v x → Q' (h v) x) → Code b ops0 ops1 syms0 syms1 P Q f → Code b ops0 ops1 syms0 syms1 P Q' (λ inputs a s. then_value (f inputs a s) (λ v s1. Gives (h v) s1))
code_to {A} {B} b ops0 ops1 syms0 syms1 P Q Q' h f is c = record {
  grows = c.grows;
  runs = λ inputs from steps syms a src cod wired cov ext rel p. told from steps syms cod ext (f inputs a src) (c.runs inputs from steps syms a src cod wired cov ext rel p);
}
  where
    told : (from : R.Sources) (steps : List Step) (syms : List Symbol) (cod : R.State) → Extends syms1 syms → (end : ExpressionEnd B) → GivesCode b from steps syms (length syms0) Q (length ops0) (length ops1) cod end → GivesCode b from steps syms (length syms0) Q' (length ops0) (length ops1) cod (then_value end (λ v s1. Gives (h v) s1))
    told from steps syms cod ext (Gives v s) (y, cm, q) = (y, cm, is syms v s y ext cm.related q)
    told from steps syms cod ext (Exits s) g = g
    told from steps syms cod ext (Spent s) g = g

-- ---- lists

-- one more at the end of a list
pub order_more : {A : Type 0} (b : Body) (ops0 ops1 ops2 : List Op) (syms0 syms1 syms2 : List Symbol) (P : Shows (List A)) (Q : Shows A) (S : Shows (List A)) (sems : Inputs → List (State → ExpressionEnd A)) (sem : Inputs → State → ExpressionEnd A) → ((vs : List A) (v : A) (x : R.State) → P vs x → Q v x → S (vs ++ v ∷ []) x) → Code b ops0 ops1 syms0 syms1 Anything P (λ inputs a s. in_order (sems inputs) s Gives) → Code b ops1 ops2 syms1 syms2 P (Beside P Q) (λ inputs vs s. then_value (sem inputs s) (λ v s1. Gives (vs, v) s1)) → Code b ops0 ops2 syms0 syms2 Anything S (λ inputs a s. in_order (sems inputs ++ sem inputs ∷ []) s Gives)
order_more {A} b ops0 ops1 ops2 syms0 syms1 syms2 P Q S sems sem joins c d =
    code_as b ops0 ops2 syms0 syms2 Anything S _ _ (λ j inputs a s. sym (meaning inputs s) j) (
    code_to b ops0 ops2 syms0 syms2 Anything (Beside P Q) S (λ (both : List A × A). both.0 ++ both.1 ∷ []) _ (λ syms v s x ext rel q. joins (v.0) (v.1) x q.0 q.1) (
    code_then b ops0 ops1 ops2 syms0 syms1 syms2 Anything P (Beside P Q) (λ inputs a s. in_order (sems inputs) s Gives) (λ inputs vs s. then_value (sem inputs s) (λ v s1. Gives (vs, v) s1)) c d))
  where
    meaning : (inputs : Inputs) (s : State) → in_order (sems inputs ++ sem inputs ∷ []) s Gives ≡ then_value (then_value (in_order (sems inputs) s Gives) (λ vs s1. then_value (sem inputs s1) (λ v s2. Gives (vs, v) s2))) (λ (both : List A × A) s3. Gives (both.0 ++ both.1 ∷ []) s3)
    meaning inputs s =
        in_order_snoc (sems inputs) (sem inputs) s Gives
        ∙ in_order_then (sems inputs) s (λ vs s1. then_value (sem inputs s1) (λ v s2. Gives (vs ++ v ∷ []) s2))
        ∙ (λ j. then_value (in_order (sems inputs) s Gives) (λ vs s1. sym (spread (sem inputs s1) (λ v s2. Gives (vs, v) s2) (λ (both : List A × A) s3. Gives (both.0 ++ both.1 ∷ []) s3)) j))
        ∙ sym (spread (in_order (sems inputs) s Gives) (λ vs s1. then_value (sem inputs s1) (λ v s2. Gives (vs, v) s2)) (λ (both : List A × A) s3. Gives (both.0 ++ both.1 ∷ []) s3))

-- an operand whose code is calm: those before it may lie where they are
pub list_more_calm : (b : Body) (ops0 ops1 ops2 : List Op) (syms0 syms1 syms2 : List Symbol) (ps : List Place) (p : Place) (sems : Inputs → List Meaning) (sem : Inputs → Meaning) → ListCode b ops0 ops1 syms0 syms1 ps sems → ExprCode (with_calm true b) ops1 ops2 syms1 syms2 p.first p.types sem → ListCode b ops0 ops2 syms0 syms2 (ps ++ p ∷ []) (λ inputs. sems inputs ++ sem inputs ∷ [])
list_more_calm b ops0 ops1 ops2 syms0 syms1 syms2 ps p sems sem c d =
    let l2 = d.code.grows.syms.longer in
    record {
      within = within_snoc b (length syms1) (length syms2) ps p l2 d.within (λ k lt. own_loud true b (p.first + k) (d.own k lt)) c.within;
      places = typed_snoc syms1 syms2 ps p d.code.grows.syms c.places d.places;
      code = order_more b ops0 ops1 ops2 syms0 syms1 syms2 (AllIn ps) (In p.first p.types) (AllIn (ps ++ p ∷ [])) sems sem (λ vss vs x all here. in_snoc ps p vss vs x all here) c.code (
          calm_beside b ops1 ops2 syms1 syms2 (AllIn ps) (In p.first p.types) (λ inputs a. sem inputs) (places_calm b (length syms1) ps c.within) (code_any (with_calm true b) ops1 ops2 syms1 syms2 (AllIn ps) (In p.first p.types) sem d.code));
    }
