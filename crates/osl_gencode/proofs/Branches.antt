-- Code that goes one of two ways and gives something on both.
use Rattle.std.proofs.Common.{◌≡◌, ℕ, ◌+◌, ◌<◌, ◌≤◌, List, [], ◌∷◌, ◌++◌, length, map, Some, Bool, true, false, sym, ap, ◌∙◌, subst, arith}
use Rattle.std.specs.Prelude.{slice_get, slice_set, if◌then◌else◌}
use Rattle.std.proofs.Math.ListN.{length-set}
use Rattle.osl_value.specs.declared.op_name.OpName.{OpName}
use Rattle.osl_value.specs.declared.types.Ty.{Ty}
use Rattle.osl_value.specs.AnyValue.{AnyValue}
use Rattle.osl_value.specs.Apply.{apply}
use Rattle.osl_value.specs.Laws.{HasValues}
use Rattle.osl_value.specs.Table.{is_control, updates}
use Rattle.osl_layer.specs.Layer.{Inputs}
use Rattle.oso_code.specs.declared.op.Op.{Op}
use Rattle.oso_code.specs.declared.symbol.Symbol.{Symbol}
use Rattle.oso_code.specs.Run as R
use Rattle.oso_code.specs.Steps.{Step, Branch, span}
use Rattle.osl_typed.specs.State.{State, ExpressionEnd, Gives, then_value}
use Rattle.osl_gencode.specs.Relation.{In, IsOwn}
use Rattle.osl_gencode.specs.Growth.{Extends}
use Rattle.osl_gencode.specs.Codes.{Shows, Code}
use Rattle.osl_gencode.specs.Bodies.{Body, Room, IsVariable}
use Rattle.osl_gencode.specs.RunEnds.{GivesCode}
use Rattle.osl_gencode.proofs.Growing.{covers_before, extends_self, push_length, extends_on, extends_set, extends_push, at_push, at_set, covers_after, variable_later}
use Rattle.osl_gencode.proofs.RelatedStates.{related_ticked, room_later}
use Rattle.osl_gencode.proofs.AndNode.{if_op, if_step}
use Rattle.osl_gencode.proofs.OneOp.{all_own, op_of, op_gives, reading_step, AllUnwired}
use Rattle.osl_gencode.proofs.Sequels.{seq_code, branch_gives}

module _ (b : Body) {A : Type 0} where
  -- an operation into a symbol that is there, but later than those that are to be kept
  pub op_into : (ops : List Op) (syms0 syms1 : List Symbol) (P : Shows A) (name : OpName) (ty : Ty) (w : ℕ) (rs : List ℕ) (values : A → List AnyValue) → Room b syms0 → Extends syms0 syms1 → length syms0 ≤ w → IsVariable syms1 w ty → is_control name ≡ false → updates name ≡ false → HasValues ty → AllUnwired b rs → ((a : A) (x : R.State) → P a x → map x.values rs ≡ values a) → Code b ops (ops ++ op_of name w rs ∷ []) syms0 syms1 P (In w (ty ∷ [])) (λ inputs a s. Gives (apply name ty (values a) ∷ []) s)
  op_into ops syms0 syms1 P name ty w rs values room ext0 later var plain reads sound all vals =
      let op = op_of name w rs in
      let len = push_length ops op in let rw = room.within in
      record {
        grows = record { ops = extends_push ops op; syms = ext0 };
        runs = λ inputs from steps syms a src cod wired cov ext rel p.
            let varS = variable_later syms1 syms w ty ext var in
            let roomS = room_later b syms0 syms (extends_on syms0 syms1 syms ext0 ext) room in
            let at = at_push syms steps ops op (length ops) (omega arith) cov ∙ ap Some (reading_step syms (length ops) name w ty rs plain reads varS) in
            let done = op_gives b from steps syms roomS (length syms0) (length ops) w name ty rs src cod later (omega (arith, rw, later)) varS sound at (all_own b inputs from rs wired all) rel in
            subst (λ z. GivesCode b from steps syms (length syms0) (In w (ty ∷ [])) (length ops) z cod (Gives (apply name ty (values a) ∷ []) src)) (sym len)
            (subst (λ vs. GivesCode b from steps syms (length syms0) (In w (ty ∷ [])) (length ops) (length ops + 1) cod (Gives (apply name ty vs ∷ []) src)) (vals a cod p) done);
      }

module _ (b : Body) {O A B : Type 0} (P0 : Shows O) (P : Shows A) (Q : Shows B) (test : A → Bool) (q : ℕ) where
  -- symbol q says which way it goes: what was found so far is known on both
  pub branch_code : (ops0 opsC opsA opsB : List Op) (syms0 symsC symsA symsB : List Symbol) (x : Op) (f : Inputs → O → State → ExpressionEnd A) (g h : Inputs → A → State → ExpressionEnd B) → Room b syms0 → IsOwn b q → ((a : A) (z : R.State) → P a z → R.is_so (z.values q) ≡ test a) → ((a : A) (z : R.State) → P a z → P a (R.ticked z)) → Extends symsA symsB → Code b ops0 opsC syms0 symsC P0 P f → Code b (opsC ++ x ∷ []) opsA symsC symsA P Q g → Code b opsA opsB symsC symsB P Q h
      → Code b ops0 (slice_set opsB (length opsC) (if_op q (length opsA) (length opsB))) syms0 symsB P0 Q (λ inputs o s. then_value (f inputs o s) (λ a s1. if test a then g inputs a s1 else h inputs a s1))
  branch_code ops0 opsC opsA opsB syms0 symsC symsA symsB x f g h room own decides ticks extAB cc ca cb =
      let i = length opsC in
      let opsX = opsC ++ x ∷ [] in
      let jump = if_op q (length opsA) (length opsB) in
      let opsE = slice_set opsB i jump in
      let l0 = cc.grows.ops.longer in let lX = push_length opsC x in let lA = ca.grows.ops.longer in let lB = cb.grows.ops.longer in let lE = length-set opsB i jump in
      let kC = cc.grows.syms.longer in
      let toB = extends_on opsC opsX opsB (extends_push opsC x) (extends_on opsX opsA opsB ca.grows.ops cb.grows.ops) in
      let toE = extends_set opsC opsB i jump toB (omega arith) in
      record {
        grows = record { ops = extends_on ops0 opsC opsE cc.grows.ops toE; syms = extends_on syms0 symsC symsB cc.grows.syms cb.grows.syms };
        runs = λ inputs from steps syms o src cod wired cov ext rel p0.
            let extA = extends_on symsA symsB syms extAB ext in
            let extC = extends_on symsC symsB syms cb.grows.syms ext in
            let roomS = room_later b syms0 syms (extends_on syms0 symsC syms cc.grows.syms extC) room in
            let at = at_set syms steps opsB i (length ops0) jump l0 (omega (arith, lX, lA, lB)) cov ∙ ap Some (if_step syms i q (length opsA) (length opsB)) in
            let covB = covers_after syms steps opsB i (length ops0) (i + 1) jump (omega (arith, l0)) (omega arith) cov in
            let ran = cc.runs inputs from steps syms o src cod wired (covers_before syms steps opsC opsE (length ops0) (length ops0) (omega arith) toE cov) extC rel p0 in
            subst (λ z. GivesCode b from steps syms (length syms0) Q (length ops0) z cod (then_value (f inputs o src) (λ a s1. if test a then g inputs a s1 else h inputs a s1))) (sym lE) (
            seq_code b from steps syms P Q (length syms0) (length symsC) (length ops0) i (length opsB) cod (f inputs o src) (λ a s1. if test a then g inputs a s1 else h inputs a s1) kC (omega (arith, lX, lA, lB)) ran (λ a s y rel1 kept1 p.
            let tick = related_ticked b syms roomS s y rel1 in
            let one = subst (λ z. GivesCode b from steps syms (length symsC) Q z (length opsA) (R.ticked y) (g inputs a s)) lX (ca.runs inputs from steps syms a s (R.ticked y) wired (covers_before syms steps opsA opsB (i + 1) (length opsX) (omega (arith, lX)) cb.grows.ops covB) extA tick (ticks a y p)) in
            let two = cb.runs inputs from steps syms a s (R.ticked y) wired (covers_before syms steps opsB opsB (i + 1) (length opsA) (omega (arith, lX, lA)) (extends_self opsB) covB) ext tick (ticks a y p) in
            either from steps syms (test a) i (length opsA) (length opsB) (length symsC) y (g inputs a s) (h inputs a s) at (own inputs from wired) (omega (arith, lX, lA)) lB (decides a y p) one two));
      }
    where
      either : (from : R.Sources) (steps : List Step) (syms : List Symbol) (t : Bool) (i a e s0 : ℕ) (y : R.State) (m n : ExpressionEnd B) → slice_get steps i ≡ Some (Branch q (span (i + 1) a) (span a e)) → from q ≡ R.Own → i < a → a ≤ e → R.is_so (y.values q) ≡ t → GivesCode b from steps syms s0 Q (i + 1) a (R.ticked y) m → GivesCode b from steps syms s0 Q a e (R.ticked y) n → GivesCode b from steps syms s0 Q i e y (if t then m else n)
      either from steps syms true i a e s0 y m n at own l1 l2 is one two = branch_gives b from steps syms Q true s0 i q a e y m at own l1 l2 is one
      either from steps syms false i a e s0 y m n at own l1 l2 is one two = branch_gives b from steps syms Q false s0 i q a e y n at own l1 l2 is two
