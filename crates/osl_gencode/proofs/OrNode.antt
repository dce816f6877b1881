-- `a || b`: b is evaluated only where a does not hold.
use Rattle.std.proofs.Common.{◌≡◌, ℕ, ◌+◌, ◌≤◌, List, [], ◌∷◌, ◌++◌, length, Bool, true, false, not, refl, sym, ap, ◌∙◌, subst, arith}
use Rattle.std.specs.Prelude.{slice_set, if◌then◌else◌}
use Rattle.osl_value.specs.declared.op_name.OpName.TheVariants.{Not}
use Rattle.osl_value.specs.declared.types.Ty.{Ty}
use Rattle.osl_value.specs.AnyValue.{AnyValue}
use Rattle.osl_layer.specs.Layer.{Inputs}
use Rattle.oso_code.specs.declared.op.Op.{Op}
use Rattle.oso_code.specs.declared.symbol.Symbol.{Symbol}
use Rattle.oso_code.specs.Run as R
use Rattle.osl_typed.specs.State.{State, ExpressionEnd, Gives, then_value}
use Rattle.osl_typed.specs.Expressions.{Meaning, holds, truth_value, either}
use Rattle.osl_value.specs.Laws.{HasValues}
use Rattle.osl_gencode.specs.Relation.{In, IsOwn}
use Rattle.osl_gencode.specs.Growth.{Extends}
use Rattle.osl_gencode.specs.Codes.{Code, ExprCode, Anything}
use Rattle.osl_gencode.specs.Bodies.{IsNew, Body, Room, IsVariable}
use Rattle.osl_gencode.specs.RunEnds.{GivesCode}
use Rattle.osl_gencode.proofs.Operations.{one_place, own_one}
use Rattle.osl_gencode.proofs.Growing.{extends_self, extends_push, at_push, covers_before, grows_on, variable_typed, extends_on, push_length}
use Rattle.osl_gencode.proofs.Branches.{op_into, branch_code}
use Rattle.osl_gencode.proofs.RelatedStates.{room_later, above_own}
use Rattle.osl_gencode.proofs.OpValues.{as_int, not_truth, IsNumeric}
use Rattle.osl_gencode.proofs.AndNode.{new_variable, not_gives, if_op, numeric_value, int_ty, so_int}
use Rattle.osl_gencode.proofs.CodeLists.{code_any, code_less, code_as, code_then_into}
use Rattle.osl_gencode.proofs.OneOp.{one_value, op_of}
use Rattle.osl_gencode.proofs.Sequels.{gives_back, seq_code}

-- the truth of a number that was evaluated, turned round, is in symbol n
abbrev pub Negated : ℕ → List AnyValue → R.State → Type 0
Negated n vs x = x.values n ≡ as_int (not (holds vs))

module _ (b : Body) where
  pub negated_code : (ops0 opsA : List Op) (syms0 symsA : List Symbol) (ra : ℕ) (ta : Ty) (sn : Symbol) (sem : Inputs → Meaning) → Room b syms0 → IsNumeric ta → IsNew sn int_ty → ExprCode b ops0 opsA syms0 symsA ra (ta ∷ []) sem → Code b ops0 (opsA ++ op_of Not (length symsA) (ra ∷ []) ∷ []) syms0 (symsA ++ sn ∷ []) Anything (Negated (length symsA)) (λ inputs u. sem inputs)
  negated_code ops0 opsA syms0 symsA ra ta sn sem room na new ca =
      let n = length symsA in
      let symsN = symsA ++ sn ∷ [] in
      let op = op_of Not n (ra ∷ []) in
      let opsN = opsA ++ op ∷ [] in
      let lN = push_length opsA op in let k0 = ca.code.grows.syms.longer in let l0 = ca.code.grows.ops.longer in let w = room.within in
      record {
        grows = grows_on ops0 opsA opsN syms0 symsA symsN ca.code.grows (record { ops = extends_push opsA op; syms = extends_push symsA sn });
        runs = λ inputs from steps syms a src cod wired cov ext rel nothing.
            let extA = extends_on symsA symsN syms (extends_push symsA sn) ext in
            let roomS = room_later b syms0 syms (extends_on syms0 symsA syms ca.code.grows.syms extA) room in
            let varN = new_variable symsA syms sn int_ty new ext in
            let covA = covers_before syms steps opsA opsN (length ops0) (length ops0) (omega arith) (extends_push opsA op) cov in
            let at = at_push syms steps opsA op (length ops0) l0 cov in
            let own = subst (λ z. from z ≡ R.Own) (let e : ra + 0 ≡ ra = omega arith in e) (ca.own 0 (omega arith) inputs from wired) in
            subst (λ z. GivesCode b from steps syms (length syms0) (Negated n) (length ops0) z cod (sem inputs src)) (sym lN) (
            subst (GivesCode b from steps syms (length syms0) (Negated n) (length ops0) (length opsA + 1) cod) (gives_back (sem inputs src)) (
            seq_code b from steps syms (In ra (ta ∷ [])) (Negated n) (length syms0) n (length ops0) (length opsA) (length opsA + 1) cod (sem inputs src) (λ v s. Gives v s) k0 (omega arith) (ca.code.runs inputs from steps syms tt src cod wired covA extA rel tt) (λ v s y rel1 kept1 p.
            let q = numeric_value ra ta v y na p in
            let first = not_gives b from steps syms roomS n (length opsA) n ra q.0 s y (omega arith) (omega (arith, w, k0)) varN at own q.2 q.3 rel1 in
            (first.0, first.1, one_value n (int_ty ∷ []) _ _ first.0 first.2 ∙ ap (λ z. as_int (not (holds z))) (sym q.1)))));
      }

  int_has : HasValues int_ty
  int_has is = refl

  -- what was turned round is turned back, into a symbol that is there
  pub back_code : (ops : List Op) (syms0 syms1 : List Symbol) (n t : ℕ) → Room b syms0 → Extends syms0 syms1 → IsOwn b n → length syms0 ≤ t → IsVariable syms1 t int_ty → Code b ops (ops ++ op_of Not t (n ∷ []) ∷ []) syms0 syms1 (Negated n) (In t (int_ty ∷ [])) (λ inputs v s. Gives (truth_value (holds v)) s)
  back_code ops syms0 syms1 n t room ext own later var =
      code_as b ops (ops ++ op_of Not t (n ∷ []) ∷ []) syms0 syms1 (Negated n) (In t (int_ty ∷ [])) _ _ (λ j inputs v s. Gives (not_truth (holds v) j ∷ []) s) (
      op_into b ops syms0 syms1 (Negated n) Not int_ty t (n ∷ []) (λ v. as_int (not (holds v)) ∷ []) room ext later var refl refl int_has (own, tt) (λ v x p. ap (λ z. z ∷ []) p))

  pub or_code : (ops0 opsA opsB : List Op) (syms0 symsA symsB : List Symbol) (ra rb : ℕ) (ta tb : Ty) (sn st sm : Symbol) (x : Op) (sa sb : Inputs → Meaning)
      → Room b syms0 → IsNumeric ta → IsNumeric tb → IsNew sn int_ty → IsNew st int_ty → IsNew sm int_ty
      → ExprCode b ops0 opsA syms0 symsA ra (ta ∷ []) sa
      → ExprCode b ((opsA ++ op_of Not (length symsA) (ra ∷ []) ∷ []) ++ x ∷ []) opsB ((symsA ++ sn ∷ []) ++ st ∷ []) symsB rb (tb ∷ []) sb
      → ExprCode b ops0 (slice_set (((opsB ++ op_of Not (length symsB) (rb ∷ []) ∷ []) ++ op_of Not (length (symsA ++ sn ∷ [])) (length symsB ∷ []) ∷ []) ++ op_of Not (length (symsA ++ sn ∷ [])) (length symsA ∷ []) ∷ []) (length (opsA ++ op_of Not (length symsA) (ra ∷ []) ∷ [])) (if_op (length symsA) (length ((opsB ++ op_of Not (length symsB) (rb ∷ []) ∷ []) ++ op_of Not (length (symsA ++ sn ∷ [])) (length symsB ∷ []) ∷ [])) (length (((opsB ++ op_of Not (length symsB) (rb ∷ []) ∷ []) ++ op_of Not (length (symsA ++ sn ∷ [])) (length symsB ∷ []) ∷ []) ++ op_of Not (length (symsA ++ sn ∷ [])) (length symsA ∷ []) ∷ [])))) syms0 (symsB ++ sm ∷ []) (length (symsA ++ sn ∷ [])) (int_ty ∷ []) (λ inputs. either (sa inputs) (sb inputs))
  or_code ops0 opsA opsB syms0 symsA symsB ra rb ta tb sn st sm x sa sb room na nb newn newt newm ca cb =
      let n = length symsA in
      let symsN = symsA ++ sn ∷ [] in
      let t = length symsN in
      let symsT = symsN ++ st ∷ [] in
      let m = length symsB in
      let symsM = symsB ++ sm ∷ [] in
      let opsN = opsA ++ op_of Not n (ra ∷ []) ∷ [] in
      let opsX = opsN ++ x ∷ [] in
      let opsM = opsB ++ op_of Not m (rb ∷ []) ∷ [] in
      let opsR = opsM ++ op_of Not t (m ∷ []) ∷ [] in
      let opsF = opsR ++ op_of Not t (n ∷ []) ∷ [] in
      let k0 = ca.code.grows.syms.longer in let kN = push_length symsA sn in let kT = push_length symsN st in let kB = cb.code.grows.syms.longer in let kM = push_length symsB sm in let w = room.within in
      let extN = extends_on syms0 symsA symsN ca.code.grows.syms (extends_push symsA sn) in
      let extTM = extends_on symsT symsB symsM cb.code.grows.syms (extends_push symsB sm) in
      let extNM = extends_on symsN symsT symsM (extends_push symsN st) extTM in
      let roomN = room_later b syms0 symsN extN room in
      let roomT = room_later b symsN symsT (extends_push symsN st) roomN in
      let varT : IsVariable symsM t int_ty = new_variable symsN symsM st int_ty newt extTM in
      let own_n = above_own b symsN roomN n (omega (arith, w, k0)) in
      let own_m = above_own b symsN roomN m (omega (arith, w, k0, kN, kT, kB)) in
      let own_t = above_own b symsN roomN t (omega (arith, w, k0, kN)) in
      let P = Negated n in
      let Q = In t (int_ty ∷ []) in
      let cond = negated_code ops0 opsA syms0 symsA ra ta sn sa room na newn ca in
      let right = code_less b opsX opsM symsN symsT symsM Anything (Negated m) (λ inputs u. sb inputs) (extends_push symsN st) (negated_code opsX opsB symsT symsB rb tb sm sb roomT nb newm cb) in
      let right1 = code_then_into b opsX opsM opsR symsN symsM symsM Anything (Negated m) Q (λ inputs u. sb inputs) (λ inputs v s. Gives (truth_value (holds v)) s) (extends_self symsM) right (back_code opsM symsN symsM m t roomN extNM own_m (omega arith) varT) in
      let right2 = code_any b opsX opsR symsN symsM P Q (λ inputs s. then_value (sb inputs s) (λ v s1. Gives (truth_value (holds v)) s1)) right1 in
      let left = back_code opsR symsN symsM n t roomN extNM own_n (omega arith) varT in
      let c = branch_code b Anything P Q (λ v. not (holds v)) n ops0 opsN opsR opsF syms0 symsN symsM symsM x (λ inputs u. sa inputs) (λ inputs v s. then_value (sb inputs s) (λ u s1. Gives (truth_value (holds u)) s1)) (λ inputs v s. Gives (truth_value (holds v)) s) room own_n (λ v z p. ap R.is_so p ∙ so_int (not (holds v))) (λ v z p. p) (extends_self symsM) cond right2 left in
      record {
        within = omega (arith, kT, kB, kM);
        own = own_one b t own_t;
        places = one_place symsM t int_ty (variable_typed symsM t int_ty varT);
        code = code_as b ops0 _ syms0 symsM Anything Q _ _ (λ j inputs u s. then_value (sa inputs s) (λ v s1. turned (holds v) (then_value (sb inputs s1) (λ w1 s2. Gives (truth_value (holds w1)) s2)) s1 j)) c;
      }
    where
      turned : (h : Bool) (end : ExpressionEnd (List AnyValue)) (s : State) → (if not h then end else Gives (truth_value h) s) ≡ (if h then Gives (truth_value true) s else end)
      turned true end s = refl
      turned false end s = refl
