-- `a && b`: b is evaluated only where a holds.
use Rattle.std.proofs.Common.{◌≡◌, ℕ, ◌+◌, ◌≤◌, List, [], ◌∷◌, ◌++◌, length, Some, Bool, true, false, not, refl, sym, ap, ◌∙◌, subst, arith}
use Rattle.std.specs.Prelude.{slice_get, slice_set, if◌then◌else◌}
use Rattle.std.proofs.Math.ListN.{length-set}
use Rattle.osl_value.specs.declared.op_name.OpName.TheVariants.{Not, If}
use Rattle.osl_value.specs.declared.types.Base.TheVariants.{Int}
use Rattle.osl_value.specs.declared.types.Ty.{Ty}
use Rattle.osl_value.specs.AnyValue.{AnyValue, type_of}
use Rattle.osl_value.specs.Apply.{apply}
use Rattle.osl_value.specs.Types.{only}
use Rattle.osl_layer.specs.Layer.{Inputs}
use Rattle.oso_code.specs.declared.op.Op.{Op}
use Rattle.oso_code.specs.declared.symbol.Symbol.{Symbol}
use Rattle.oso_code.specs.Run as R
use Rattle.oso_code.specs.Steps.{Step, Branch, span, step_of}
use Rattle.osl_typed.specs.State.{State, Gives, then_value}
use Rattle.osl_typed.specs.Expressions.{Meaning, holds, truth_value, both}
use Rattle.osl_value.specs.Laws.{HasValues}
use Rattle.osl_gencode.specs.Growth.{Extends}
use Rattle.osl_gencode.specs.Bodies.{IsVariable, Body, frame_end, Room, IsNew}
use Rattle.osl_gencode.specs.Relation.{Related, In}
use Rattle.osl_gencode.specs.RunEnds.{GivesCode}
use Rattle.osl_gencode.specs.Codes.{ExprCode}
use Rattle.osl_gencode.proofs.Growing.{get_seam, get_extended, extends_on, extends_push, extends_set, covers_before, covers_after, at_set, at_push, push_length, type_later}
use Rattle.osl_gencode.proofs.RangeRuns.{taken_from, taken_to}
use Rattle.osl_gencode.proofs.RelatedStates.{above_own, room_later, related_ticked}
use Rattle.osl_gencode.proofs.Sequels.{seq_code, gives_less, gives_then, branch_gives}
use Rattle.osl_gencode.proofs.OneOp.{op_of, op_gives, reading_step, one_value}
use Rattle.osl_gencode.proofs.Operations.{one_typed, own_one}
use Rattle.osl_gencode.proofs.OpValues.{IsNumeric, as_int, not_number, not_truth}

abbrev pub int_ty : Ty
int_ty = only Int

abbrev pub if_op : ℕ → ℕ → ℕ → Op
if_op c a e = record { name = If; args = c ∷ []; jumps = a ∷ e ∷ [] }

pub if_step : (syms : List Symbol) (at c a e : ℕ) → step_of syms at (if_op c a e) ≡ Branch c (span (at + 1) a) (span a e)
unfolding step_of
if_step syms at c a e = refl

pub so_int : (t : Bool) → R.is_so (as_int t) ≡ t
so_int true = refl
so_int false = refl

int_sound : HasValues int_ty
int_sound is = refl

pub new_variable : (syms syms1 : List Symbol) (symbol : Symbol) (ty : Ty) → IsNew symbol ty → Extends (syms ++ symbol ∷ []) syms1 → IsVariable syms1 (length syms) ty
new_variable syms syms1 symbol ty new ext =
    record { symbol = symbol; here = get_extended (syms ++ symbol ∷ []) syms1 (length syms) symbol ext (get_seam syms symbol); type = new.typed; free = new.free }

-- the value of a number that was evaluated
pub numeric_value : (r : ℕ) (ty : Ty) (vs : List AnyValue) (x : R.State) → IsNumeric ty → In r (ty ∷ []) vs x → (v : AnyValue) × (vs ≡ v ∷ []) × (x.values r ≡ v) × IsNumeric (type_of v)
numeric_value r ty [] x n p = let e = ap length p.typed in absurd (omega (arith, e))
numeric_value r ty (v ∷ u ∷ vs) x n p = let e = ap length p.typed in absurd (omega (arith, e))
numeric_value r ty (v ∷ []) x n p =
    let e : type_of v ∷ [] ≡ ty ∷ [] = p.typed in
    let t : type_of v ≡ ty = cc e in
    (v, refl, one_value r (ty ∷ []) v [] x p, subst IsNumeric (sym t) n)

module _ (b : Body) (from : R.Sources) (steps : List Step) (syms : List Symbol) (room : Room b syms) where
  -- `not` of a number, into a symbol after the frame
  pub not_gives : (s0 i w r : ℕ) (v : AnyValue) (src : State) (x : R.State) → s0 ≤ w → frame_end b ≤ w → IsVariable syms w int_ty → slice_get steps i ≡ Some (step_of syms i (op_of Not w (r ∷ []))) → from r ≡ R.Own → x.values r ≡ v → IsNumeric (type_of v) → Related b syms src x → GivesCode b from steps syms s0 (In w (int_ty ∷ [])) i (i + 1) x (Gives (truth_value (not (holds (v ∷ [])))) src)
  not_gives s0 i w r v src x le above var at own is num rel =
      subst (λ u. GivesCode b from steps syms s0 (In w (int_ty ∷ [])) i (i + 1) x (Gives (u ∷ []) src)) (ap (λ z. apply Not int_ty (z ∷ [])) is ∙ not_number v num)
      (op_gives b from steps syms room s0 i w Not int_ty (r ∷ []) src x le above var int_sound (at ∙ ap Some (reading_step syms i Not w int_ty (r ∷ []) refl refl var)) (own, tt) rel)

  -- `not` of the int of a truth that was turned round
  pub back_gives : (s0 i w r : ℕ) (t : Bool) (src : State) (x : R.State) → s0 ≤ w → frame_end b ≤ w → IsVariable syms w int_ty → slice_get steps i ≡ Some (step_of syms i (op_of Not w (r ∷ []))) → from r ≡ R.Own → x.values r ≡ as_int (not t) → Related b syms src x → GivesCode b from steps syms s0 (In w (int_ty ∷ [])) i (i + 1) x (Gives (truth_value t) src)
  back_gives s0 i w r t src x le above var at own is rel =
      subst (λ u. GivesCode b from steps syms s0 (In w (int_ty ∷ [])) i (i + 1) x (Gives (u ∷ []) src)) (ap (λ z. apply Not int_ty (z ∷ [])) is ∙ not_truth t)
      (op_gives b from steps syms room s0 i w Not int_ty (r ∷ []) src x le above var int_sound (at ∙ ap Some (reading_step syms i Not w int_ty (r ∷ []) refl refl var)) (own, tt) rel)

module _ (b : Body) where
  pub and_code : (ops0 opsA opsB : List Op) (syms0 symsA symsB : List Symbol) (ra rb : ℕ) (ta tb : Ty) (sn st sm : Symbol) (x : Op) (sa sb : Inputs → Meaning)
      → Room b syms0 → IsNumeric ta → IsNumeric tb → IsNew sn int_ty → IsNew st int_ty → IsNew sm int_ty
      → ExprCode b ops0 opsA syms0 symsA ra (ta ∷ []) sa
      → ExprCode b (((opsA ++ op_of Not (length symsA) (ra ∷ []) ∷ []) ++ x ∷ []) ++ op_of Not (length (symsA ++ sn ∷ [])) (length symsA ∷ []) ∷ []) opsB ((symsA ++ sn ∷ []) ++ st ∷ []) symsB rb (tb ∷ []) sb
      → ExprCode b ops0 (slice_set ((opsB ++ op_of Not (length symsB) (rb ∷ []) ∷ []) ++ op_of Not (length (symsA ++ sn ∷ [])) (length symsB ∷ []) ∷ []) (length opsA + 1) (if_op (length symsA) (length opsA + 3) (length opsB + 2))) syms0 (symsB ++ sm ∷ []) (length (symsA ++ sn ∷ [])) (int_ty ∷ []) (λ inputs. both (sa inputs) (sb inputs))
  and_code ops0 opsA opsB syms0 symsA symsB ra rb ta tb sn st sm x sa sb room na nb newn newt newm ca cb =
      let n = length symsA in
      let symsN = symsA ++ sn ∷ [] in
      let t = length symsN in
      let symsT = symsN ++ st ∷ [] in
      let m = length symsB in
      let symsM = symsB ++ sm ∷ [] in
      let op1 = op_of Not n (ra ∷ []) in
      let op2 = op_of Not t (n ∷ []) in
      let op3 = op_of Not m (rb ∷ []) in
      let op4 = op_of Not t (m ∷ []) in
      let opsN = opsA ++ op1 ∷ [] in
      let opsX = opsN ++ x ∷ [] in
      let opsT = opsX ++ op2 ∷ [] in
      let opsM = opsB ++ op3 ∷ [] in
      let opsR = opsM ++ op4 ∷ [] in
      let i = length opsA + 1 in
      let e = length opsB + 2 in
      let jump = if_op n (length opsA + 3) e in
      let opsE = slice_set opsR i jump in
      let lN = push_length opsA op1 in let lX = push_length opsN x in let lT = push_length opsX op2 in
      let lM = push_length opsB op3 in let lR = push_length opsM op4 in let lE = length-set opsR i jump in
      let lB = cb.code.grows.ops.longer in let l0 = ca.code.grows.ops.longer in
      let kN = push_length symsA sn in let kT = push_length symsN st in let kM = push_length symsB sm in
      let kB = cb.code.grows.syms.longer in let k0 = ca.code.grows.syms.longer in
      let wa = ca.within in let wb = cb.within in
      let roomT = room_later b syms0 symsT (extends_on syms0 symsA symsT ca.code.grows.syms (extends_on symsA symsN symsT (extends_push symsA sn) (extends_push symsN st))) room in
      let w = room.within in
      let eNT = extends_on opsN opsX opsT (extends_push opsN x) (extends_push opsX op2) in
      let eNR = extends_on opsN opsT opsR eNT (extends_on opsT opsB opsR cb.code.grows.ops (extends_on opsB opsM opsR (extends_push opsB op3) (extends_push opsM op4))) in
      let eNE = extends_set opsN opsR i jump eNR (omega (arith, lN)) in
      let eAE = extends_on opsA opsN opsE (extends_push opsA op1) eNE in
      let sTM = extends_on symsT symsB symsM cb.code.grows.syms (extends_push symsB sm) in
      let sNM = extends_on symsN symsT symsM (extends_push symsN st) sTM in
      let sAM = extends_on symsA symsN symsM (extends_push symsA sn) sNM in
      record {
        within = omega (arith, kT, kB, kM);
        own = own_one b t (above_own b symsT roomT t (omega (arith, w, k0, kN)));
        places = record { each = λ k ty at. type_later symsT symsM (t + k) ty sTM ((one_typed symsN st int_ty newt.typed).each k ty at) };
        code = record {
          grows = record { ops = extends_on ops0 opsA opsE ca.code.grows.ops eAE; syms = extends_on syms0 symsA symsM ca.code.grows.syms sAM };
          runs = λ inputs from steps syms a src cod wired cov ext rel nothing.
              let extN = extends_on symsN symsM syms sNM ext in
              let extT = extends_on symsT symsM syms sTM ext in
              let extB = extends_on symsB symsM syms (extends_push symsB sm) ext in
              let extA = extends_on symsA symsM syms sAM ext in
              let varN = new_variable symsA syms sn int_ty newn extN in
              let varT = new_variable symsN syms st int_ty newt extT in
              let varM = new_variable symsB syms sm int_ty newm ext in
              let roomS = room_later b syms0 syms (extends_on syms0 symsA syms ca.code.grows.syms extA) room in
              let covN = covers_before syms steps opsN opsE (length ops0) (length ops0) (omega arith) eNE cov in
              let covA = covers_before syms steps opsA opsN (length ops0) (length ops0) (omega arith) (extends_push opsA op1) covN in
              let at1 = at_push syms steps opsA op1 (length ops0) l0 covN in
              let atI = at_set syms steps opsR i (length ops0) jump (omega (arith, l0)) (omega (arith, lN, lX, lT, lB, lM, lR)) cov ∙ ap Some (if_step syms i n (length opsA + 3) e) in
              let covR = covers_after syms steps opsR i (length ops0) (i + 1) jump (omega (arith, l0)) (omega arith) cov in
              let covT = covers_before syms steps opsT opsR (i + 1) (i + 1) (omega arith) (extends_on opsT opsB opsR cb.code.grows.ops (extends_on opsB opsM opsR (extends_push opsB op3) (extends_push opsM op4))) covR in
              let at2 = at_push syms steps opsX op2 (i + 1) (omega (arith, lN, lX)) covT in
              let covM = covers_before syms steps opsM opsR (i + 1) (i + 1) (omega arith) (extends_push opsM op4) covR in
              let covB = covers_before syms steps opsB opsM (i + 1) (length opsT) (omega (arith, lN, lX, lT)) (extends_push opsB op3) covM in
              let at3 = at_push syms steps opsB op3 (i + 1) (omega (arith, lN, lX, lT, lB)) covM in
              let at4 = at_push syms steps opsM op4 (i + 1) (omega (arith, lN, lX, lT, lB, lM)) covR in
              let ownA = subst (λ z. from z ≡ R.Own) (let e : ra + 0 ≡ ra = omega arith in e) (ca.own 0 (omega arith) inputs from wired) in
              let ownN = above_own b symsT roomT n (omega (arith, w, k0)) inputs from wired in
              let ownB = subst (λ z. from z ≡ R.Own) (let e : rb + 0 ≡ rb = omega arith in e) (cb.own 0 (omega arith) inputs from wired) in
              let ownM = above_own b symsT roomT m (omega (arith, w, k0, kN, kT, kB)) inputs from wired in
              let P = In t (int_ty ∷ []) in
              let Rest : AnyValue → State → Bool → Type 0 = λ v s h. holds (v ∷ []) ≡ h → (z : R.State) → z.values n ≡ as_int (not h) → Related b syms s z → GivesCode b from steps syms n P (taken_from from steps (not h) i (length opsA + 3)) (taken_to from steps (not h) (length opsA + 3) e) z (if h then then_value (sb inputs s) (λ u s2. Gives (truth_value (holds u)) s2) else Gives (truth_value false) s) in
              let rest : (v : AnyValue) (s : State) (h : Bool) → Rest v s h
              = λ v s h. elim h as (λ k. Rest v s k) [
                | true ↦ λ is z at rel1.
                    let ran = cb.code.runs inputs from steps syms tt s z wired covB extB rel1 tt in
                    let eT : length opsT ≡ length opsA + 3 = omega (arith, lN, lX, lT) in
                    let eM : length opsM ≡ length opsB + 1 = omega (arith, lM) in
                    let ran1 = gives_less b from steps syms (In rb (tb ∷ [])) n (length symsT) (length opsT) (length opsB) z (sb inputs s) (omega (arith, kN, kT)) lB ran in
                    subst (λ q. GivesCode b from steps syms n P q e z (then_value (sb inputs s) (λ u s2. Gives (truth_value (holds u)) s2))) eT (
                    seq_code b from steps syms (In rb (tb ∷ [])) P n n (length opsT) (length opsB) e z (sb inputs s) (λ u s2. Gives (truth_value (holds u)) s2) (omega arith) (omega arith) ran1 (λ u s2 y rel2 kept2 p.
                    let q = numeric_value rb tb u y nb p in
                    let first = not_gives b from steps syms roomS n (length opsB) m rb q.0 s2 y (omega (arith, kN, kT, kB)) (omega (arith, w, k0, kN, kT, kB)) varM at3 ownB q.2 q.3 rel2 in
                    let second = gives_then b from steps syms (In m (int_ty ∷ [])) P n n (length opsB) (length opsB + 1) e y (truth_value (not (holds (q.0 ∷ [])))) s2 (Gives (truth_value (holds (q.0 ∷ []))) s2) (omega arith) (omega arith) first (λ y3 rel3 kept3 p3. subst (λ g. GivesCode b from steps syms n P (length opsB + 1) g y3 (Gives (truth_value (holds (q.0 ∷ []))) s2)) (let g : length opsM + 1 ≡ e = omega (arith, lM) in g) (subst (λ g. GivesCode b from steps syms n P g (length opsM + 1) y3 (Gives (truth_value (holds (q.0 ∷ []))) s2)) eM (back_gives b from steps syms roomS n (length opsM) t m (holds (q.0 ∷ [])) s2 y3 (omega (arith, kN)) (omega (arith, w, k0, kN)) varT at4 ownM (one_value m (int_ty ∷ []) _ _ y3 p3) rel3))) in
                    subst (λ g. GivesCode b from steps syms n P (length opsB) e y (Gives (truth_value (holds g)) s2)) (sym q.1) second))
                | false ↦ λ is z at rel1.
                    let eX : length opsX ≡ i + 1 = omega (arith, lN, lX) in
                    let eG : length opsX + 1 ≡ length opsA + 3 = omega (arith, lN, lX) in
                    subst (λ g. GivesCode b from steps syms n P g (length opsA + 3) z (Gives (truth_value false) s)) eX (subst (λ g. GivesCode b from steps syms n P (length opsX) g z (Gives (truth_value false) s)) eG (back_gives b from steps syms roomS n (length opsX) t n false s z (omega (arith, kN)) (omega (arith, w, k0, kN)) varT at2 ownN at rel1))
              ] in
              subst (λ g. GivesCode b from steps syms (length syms0) P (length ops0) g cod (both (sa inputs) (sb inputs) src)) (let g : e ≡ length opsE = omega (arith, lE, lR, lM) in g) (
              seq_code b from steps syms (In ra (ta ∷ [])) P (length syms0) n (length ops0) (length opsA) e cod (sa inputs src) (λ v s1. if holds v then then_value (sb inputs s1) (λ u s2. Gives (truth_value (holds u)) s2) else Gives (truth_value false) s1) k0 (omega (arith, lN, lX, lT, lB)) (ca.code.runs inputs from steps syms tt src cod wired covA extA rel tt) (λ v s y rel1 kept1 p.
              let q = numeric_value ra ta v y na p in
              let h = holds (q.0 ∷ []) in
              let first = not_gives b from steps syms roomS n (length opsA) n ra q.0 s y (omega arith) (omega (arith, w, k0)) varN at1 ownA q.2 q.3 rel1 in
              let second = gives_then b from steps syms (In n (int_ty ∷ [])) P n n (length opsA) i e y (truth_value (not h)) s (if h then then_value (sb inputs s) (λ u2 s2. Gives (truth_value (holds u2)) s2) else Gives (truth_value false) s) (omega arith) (omega (arith, lN, lX, lT, lB)) first (λ z rel2 kept2 p2.
              let val = one_value n (int_ty ∷ []) _ _ z p2 in
              branch_gives b from steps syms P (not h) n i n (length opsA + 3) e z (if h then then_value (sb inputs s) (λ u2 s2. Gives (truth_value (holds u2)) s2) else Gives (truth_value false) s) atI ownN (omega arith) (omega (arith, lN, lX, lT, lB)) (ap R.is_so val ∙ so_int (not h)) (rest q.0 s h refl (R.ticked z) val (related_ticked b syms roomS s z rel2))) in
              subst (λ g. GivesCode b from steps syms n P (length opsA) e y (if holds g then then_value (sb inputs s) (λ u s2. Gives (truth_value (holds u)) s2) else Gives (truth_value false) s)) (sym q.1) second));
        };
      }
