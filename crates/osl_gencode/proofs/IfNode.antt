-- `if`, with or without `else`.
use Rattle.std.proofs.Common.{not, ◌≡◌, ℕ, ◌+◌, ◌<◌, ◌≤◌, List, [], ◌∷◌, ◌++◌, length, Some, Bool, true, false, refl, sym, ap, ◌∙◌, subst, arith}
use Rattle.std.specs.Prelude.{slice_get, slice_set, if◌then◌else◌}
use Rattle.std.proofs.Math.ListN.{length-set}
use Rattle.osl_value.specs.declared.types.Ty.{Ty}
use Rattle.osl_layer.specs.Layer.{Inputs}
use Rattle.oso_code.specs.declared.op.Op.{Op}
use Rattle.oso_code.specs.declared.symbol.Symbol.{Symbol}
use Rattle.oso_code.specs.Run as R
use Rattle.oso_code.specs.Steps.{Step, Branch, span, Break, Continue, Return, Exit}
use Rattle.osl_typed.specs.Ends.{StatementEnd, Doing, Next, Breaks, Continues, Returns, Exits, Spent}
use Rattle.osl_typed.specs.Expressions.{Meaning, holds}
use Rattle.osl_typed.specs.Statements.{decided, with_value}
use Rattle.osl_value.specs.AnyValue.{AnyValue}
use Rattle.osl_gencode.specs.Bodies.{Body, Room}
use Rattle.osl_gencode.specs.RunEnds.{DoesCode}
use Rattle.osl_gencode.specs.Codes.{Code, Anything, StmtCode}
use Rattle.osl_gencode.specs.Relation.{IsOwn}
use Rattle.osl_gencode.proofs.Growing.{extends_self, extends_on, extends_push, extends_set, covers_before, covers_after, at_set, push_length}
use Rattle.osl_gencode.proofs.RangeRuns.{leads_self, branch_leads, branch_ends, taken_from, taken_to}
use Rattle.osl_gencode.proofs.RelatedStates.{kept_self, room_later, related_ticked}
use Rattle.osl_gencode.proofs.Sequels.{value_code, does_after}
use Rattle.osl_gencode.proofs.AndNode.{if_op, if_step}

module _ (b : Body) (from : R.Sources) (steps : List Step) (syms : List Symbol) (types : List Ty) where
  -- the branch that is taken, up to the end of the other
  pub branch_does : (t : Bool) (s0 i c a e : ℕ) (x : R.State) (o : StatementEnd) → slice_get steps i ≡ Some (Branch c (span (i + 1) a) (span a e)) → from c ≡ R.Own → i < a → a ≤ e → R.is_so (x.values c) ≡ t → DoesCode b from steps syms s0 types (taken_from from steps t i a) (taken_to from steps t a e) (R.ticked x) o → DoesCode b from steps syms s0 types i e x o
  branch_does t s0 i c a e x (Next s) at own l1 l2 is (y, k) = (y, record { leads = branch_leads from steps t i c a e x y at own l1 l2 is k.leads; related = k.related; kept = record { keeps = k.kept.keeps; all = k.kept.all } })
  branch_does t s0 i c a e x (Breaks s) at own l1 l2 is (y, k) = (y, record { finishes = branch_ends from steps t i c a e x (R.Jumps Break y) (λ go. refl) at own l1 l2 is k.finishes; related = k.related; kept = record { keeps = k.kept.keeps; all = k.kept.all } })
  branch_does t s0 i c a e x (Continues s) at own l1 l2 is (y, k) = (y, record { finishes = branch_ends from steps t i c a e x (R.Jumps Continue y) (λ go. refl) at own l1 l2 is k.finishes; related = k.related; kept = record { keeps = k.kept.keeps; all = k.kept.all } })
  branch_does t s0 i c a e x (Returns vs s) at own l1 l2 is (y, k) = (y, record { finishes = branch_ends from steps t i c a e x (R.Jumps Return y) (λ go. refl) at own l1 l2 is k.finishes; related = k.related; kept = k.kept; value = k.value; typed = k.typed })
  branch_does t s0 i c a e x (Exits s) at own l1 l2 is (y, k) = (y, record { finishes = branch_ends from steps t i c a e x (R.Jumps Exit y) (λ go. refl) at own l1 l2 is k.finishes; related = k.related; kept = record { keeps = k.kept.keeps; all = k.kept.all } })
  branch_does t s0 i c a e x (Spent s) at own l1 l2 is (y, k) = (y, record { finishes = branch_ends from steps t i c a e x (R.Spent y) (λ go. refl) at own l1 l2 is k.finishes; reads = k.reads })

  pub if_does : (t : Bool) (s0 i c a e : ℕ) (x : R.State) (o q : StatementEnd) → slice_get steps i ≡ Some (Branch c (span (i + 1) a) (span a e)) → from c ≡ R.Own → i < a → a ≤ e → R.is_so (x.values c) ≡ t → DoesCode b from steps syms s0 types (i + 1) a (R.ticked x) o → DoesCode b from steps syms s0 types a e (R.ticked x) q → DoesCode b from steps syms s0 types i e x (if t then o else q)
  if_does true s0 i c a e x o q at own l1 l2 is p r = branch_does true s0 i c a e x o at own l1 l2 is p
  if_does false s0 i c a e x o q at own l1 l2 is p r = branch_does false s0 i c a e x q at own l1 l2 is r

-- symbol c says which way it goes
pub if_code : (b : Body) (types : List Ty) (ops0 opsC opsA opsB : List Op) (syms0 symsC symsA symsB : List Symbol) (c : ℕ) (test : List AnyValue → Bool) (x : Op) (cond : Inputs → Meaning) (first other : Inputs → Doing) → Room b syms0 → IsOwn b c → Code b ops0 opsC syms0 symsC Anything (λ v z. R.is_so (z.values c) ≡ test v) (λ inputs u. cond inputs) → StmtCode b types (opsC ++ x ∷ []) opsA symsC symsA first → StmtCode b types opsA opsB symsA symsB other → StmtCode b types ops0 (slice_set opsB (length opsC) (if_op c (length opsA) (length opsB))) syms0 symsB (λ inputs s. with_value (cond inputs s) (λ v s1. if test v then first inputs s1 else other inputs s1))
if_code b types ops0 opsC opsA opsB syms0 symsC symsA symsB c test x cond first other room own cc ca cb =
    let i = length opsC in
    let opsX = opsC ++ x ∷ [] in
    let jump = if_op c (length opsA) (length opsB) in
    let opsE = slice_set opsB i jump in
    let l0 = cc.grows.ops.longer in let lX = push_length opsC x in let lA = ca.grows.ops.longer in let lB = cb.grows.ops.longer in let lE = length-set opsB i jump in
    let kC = cc.grows.syms.longer in let kA = ca.grows.syms.longer in let rw = room.within in
    let toB = extends_on opsC opsX opsB (extends_push opsC x) (extends_on opsX opsA opsB ca.grows.ops cb.grows.ops) in
    let toE = extends_set opsC opsB i jump toB (omega arith) in
    record {
      grows = record { ops = extends_on ops0 opsC opsE cc.grows.ops toE; syms = extends_on syms0 symsC symsB cc.grows.syms (extends_on symsC symsA symsB ca.grows.syms cb.grows.syms) };
      runs = λ inputs from steps syms src cod wired cov ext rel.
          let extA = extends_on symsA symsB syms cb.grows.syms ext in
          let extC = extends_on symsC symsA syms ca.grows.syms extA in
          let roomS = room_later b syms0 syms (extends_on syms0 symsC syms cc.grows.syms extC) room in
          let at = at_set syms steps opsB i (length ops0) jump l0 (omega (arith, lX, lA, lB)) cov ∙ ap Some (if_step syms i c (length opsA) (length opsB)) in
          let covB = covers_after syms steps opsB i (length ops0) (i + 1) jump (omega (arith, l0)) (omega arith) cov in
          let ran = cc.runs inputs from steps syms tt src cod wired (covers_before syms steps opsC opsE (length ops0) (length ops0) (omega arith) toE cov) extC rel tt in
          subst (λ z. DoesCode b from steps syms (length syms0) types (length ops0) z cod (with_value (cond inputs src) (λ v s1. if test v then first inputs s1 else other inputs s1))) (sym lE) (
          value_code b from steps syms (λ v z. R.is_so (z.values c) ≡ test v) types (length syms0) (length symsC) (length ops0) i (length opsB) cod (cond inputs src) (λ v s1. if test v then first inputs s1 else other inputs s1) kC (omega (arith, lX, lA, lB)) ran (λ v s y rel1 kept1 truth.
          let tick = related_ticked b syms roomS s y rel1 in
          let p = subst (λ z. DoesCode b from steps syms (length symsC) types z (length opsA) (R.ticked y) (first inputs s)) lX (ca.runs inputs from steps syms s (R.ticked y) wired (covers_before syms steps opsA opsB (i + 1) (length opsX) (omega (arith, lX)) cb.grows.ops covB) extA tick) in
          let q = cb.runs inputs from steps syms s (R.ticked y) wired (covers_before syms steps opsB opsB (i + 1) (length opsA) (omega (arith, lX, lA)) (extends_self opsB) covB) ext tick in
          let q' = does_after b from steps syms types (length symsC) (length symsA) (length opsA) (length opsA) (length opsB) (R.ticked y) (R.ticked y) (other inputs s) kA lB (leads_self from steps (length opsA) (R.ticked y)) (kept_self b (length symsC) (R.ticked y)) q in
          if_does b from steps syms types (test v) (length symsC) i c (length opsA) (length opsB) y (first inputs s) (other inputs s) at (own inputs from wired) (omega (arith, lX, lA)) lB truth p q'));
    }

-- where symbol c says that the condition does not hold, the second comes first
pub if_turned : (b : Body) (types : List Ty) (ops0 ops1 : List Op) (syms0 syms1 : List Symbol) (cond : Inputs → Meaning) (first other : Inputs → Doing) → StmtCode b types ops0 ops1 syms0 syms1 (λ inputs s. with_value (cond inputs s) (λ v s1. if not (holds v) then other inputs s1 else first inputs s1)) → StmtCode b types ops0 ops1 syms0 syms1 (λ inputs. decided (cond inputs) (first inputs) (other inputs))
if_turned b types ops0 ops1 syms0 syms1 cond first other c =
    subst (StmtCode b types ops0 ops1 syms0 syms1) (λ j inputs s. with_value (cond inputs s) (λ v s1. exchanged (holds v) (first inputs s1) (other inputs s1) j)) c
  where
    exchanged : (h : Bool) (m n : StatementEnd) → (if not h then n else m) ≡ (if h then m else n)
    exchanged true m n = refl
    exchanged false m n = refl
