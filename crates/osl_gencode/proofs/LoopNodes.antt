-- Loops: `while`, `for` and `do`.
use Rattle.std.proofs.Common.{◌≡◌, ℕ, ◌+◌, List, [], ◌∷◌, ◌++◌, length, Some, true, false, refl, sym, ap, ◌∙◌, subst, arith}
use Rattle.std.specs.Prelude.{slice_set}
use Rattle.std.proofs.Math.ListN.{length-set}
use Rattle.osl_value.specs.declared.op_name.OpName.TheVariants as O
use Rattle.osl_value.specs.declared.types.Ty.{Ty}
use Rattle.osl_value.specs.AnyValue.{AnyValue}
use Rattle.osl_layer.specs.Layer.{Inputs}
use Rattle.oso_code.specs.declared.op.Op.{Op}
use Rattle.oso_code.specs.declared.symbol.Symbol.{Symbol}
use Rattle.oso_code.specs.Run as R
use Rattle.oso_code.specs.Steps.{Step, Loop, span, step_of}
use Rattle.osl_typed.specs.State.{State}
use Rattle.osl_typed.specs.Ends.{Doing, Next, Tested, Holds, looped}
use Rattle.osl_typed.specs.Expressions.{Meaning}
use Rattle.osl_typed.specs.Statements.{tested}
use Rattle.osl_gencode.specs.Relation.{IsOwn, Wired, Related}
use Rattle.osl_gencode.specs.Growth.{Grows, Extends, Covers}
use Rattle.osl_gencode.specs.Codes.{Code, StmtCode, Anything}
use Rattle.osl_gencode.specs.Bodies.{Body}
use Rattle.osl_gencode.specs.RunEnds.{DoesCode}
use Rattle.osl_gencode.proofs.Growing.{extends_self, extends_push, covers_before, at_set, covers_after, extends_on, extends_set, push_length}
use Rattle.osl_gencode.proofs.Constants.{constant_holds, constant_later, IsConstant}
use Rattle.osl_gencode.proofs.RelatedStates.{kept_self}
use Rattle.osl_gencode.proofs.LoopOps.{Truth, tested_over, TestsCode, loop_does, tests_code, EndsOver, tests_less}
use Rattle.osl_gencode.proofs.Sequels.{does_after}
use Rattle.osl_gencode.proofs.RangeRuns.{leads_self}
use Rattle.osl_gencode.proofs.Statements.{nothing_code}

-- ---- ops

abbrev pub while_op : (c a e : ℕ) → Op
while_op c a e = record { name = O.While; args = c ∷ []; jumps = a ∷ e ∷ [] }

pub while_step : (syms : List Symbol) (at c a e : ℕ) → step_of syms at (while_op c a e) ≡ Loop true c (span (at + 1) a) (span a e) (span e e)
unfolding step_of
while_step syms at c a e = refl

abbrev pub for_op : (c a s e : ℕ) → Op
for_op c a s e = record { name = O.For; args = c ∷ []; jumps = a ∷ s ∷ e ∷ [] }

pub for_step : (syms : List Symbol) (at c a s e : ℕ) → step_of syms at (for_op c a s e) ≡ Loop true c (span (at + 1) a) (span a s) (span s e)
unfolding step_of
for_step syms at c a s e = refl

abbrev pub do_op : (c a e : ℕ) → Op
do_op c a e = record { name = O.DoWhile; args = c ∷ []; jumps = a ∷ e ∷ [] }

pub do_step : (syms : List Symbol) (at c a e : ℕ) → step_of syms at (do_op c a e) ≡ Loop false c (span a e) (span (at + 1) a) (span e e)
unfolding step_of
do_step syms at c a e = refl

-- ---- conditions

-- the code that was added tests the condition of a loop: symbol c says what it comes to
pub record TestCode (b : Body) (types : List Ty) (ops0 ops1 : List Op) (syms0 syms1 : List Symbol) (c : ℕ) (test : Inputs → State → Tested) : Type 0 where
  pub grows : Grows ops0 ops1 syms0 syms1
  pub own : IsOwn b c
  pub over : (inputs : Inputs) (s : State) → EndsOver (test inputs s)
  pub runs : (inputs : Inputs) (from : R.Sources) (steps : List Step) (syms : List Symbol) (src : State) (cod : R.State)
      → Wired b inputs from → Covers syms steps ops1 (length ops0) → Extends syms1 syms → Related b syms src cod
      → TestsCode b from steps syms types (length syms0) c (length ops0) (length ops1) cod (test inputs src)

module _ (b : Body) (types : List Ty) where
  -- an expression whose truth is in symbol c
  pub test_code : (ops0 ops1 : List Op) (syms0 syms1 : List Symbol) (c : ℕ) (cond : Inputs → Meaning) → IsOwn b c → Code b ops0 ops1 syms0 syms1 Anything (Truth c) (λ inputs u. cond inputs) → TestCode b types ops0 ops1 syms0 syms1 c (λ inputs s. tested (cond inputs s))
  test_code ops0 ops1 syms0 syms1 c cond own k = record {
    grows = k.grows;
    own = own;
    over = λ inputs s. tested_over (cond inputs s);
    runs = λ inputs from steps syms src cod wired cov ext rel. tests_code b from steps syms types (length syms0) c (length ops0) (length ops1) cod (cond inputs src) (k.runs inputs from steps syms tt src cod wired cov ext rel tt);
  }

  -- no condition: a constant that is not zero
  pub always_code : (ops0 : List Op) (syms0 syms1 : List Symbol) (c : ℕ) (ty : Ty) (v : AnyValue) → Extends syms0 syms1 → IsOwn b c → IsConstant syms1 c ty v → R.is_so v ≡ true → TestCode b types ops0 ops0 syms0 syms1 c (λ inputs s. Holds s)
  always_code ops0 syms0 syms1 c ty v ext own k is = record {
    grows = record { ops = extends_self ops0; syms = ext };
    own = own;
    over = λ inputs s. tt;
    runs = λ inputs from steps syms src cod wired cov ext1 rel. (cod, record { leads = leads_self from steps (length ops0) cod; related = rel; kept = kept_self b (length syms0) cod }, ap R.is_so (constant_holds b syms c ty v src cod (constant_later syms1 syms c ty v ext1 k) rel) ∙ is);
  }

  -- ---- the nodes

  -- a loop that tests first: `for`, and `while`, which has no step
  pub first_code : (op : Op) (ops0 opsC opsB opsS : List Op) (syms0 symsC symsB symsS : List Symbol) (c : ℕ) (x : Op) (test : Inputs → State → Tested) (body step : Inputs → Doing) → ((syms : List Symbol) → step_of syms (length ops0) op ≡ Loop true c (span (length ops0 + 1) (length opsC)) (span (length opsC) (length opsB)) (span (length opsB) (length opsS))) → TestCode b types (ops0 ++ x ∷ []) opsC syms0 symsC c test → StmtCode b types opsC opsB symsC symsB body → StmtCode b types opsB opsS symsB symsS step → StmtCode b types ops0 (slice_set opsS (length ops0) op) syms0 symsS (λ inputs. looped true (test inputs) (body inputs) (step inputs))
  first_code op ops0 opsC opsB opsS syms0 symsC symsB symsS c x test body step decodes cc cb cs =
      let i = length ops0 in
      let opsX = ops0 ++ x ∷ [] in
      let opsE = slice_set opsS i op in
      let lX = push_length ops0 x in let lC = cc.grows.ops.longer in let lB = cb.grows.ops.longer in let lS = cs.grows.ops.longer in let lE = length-set opsS i op in
      let kC = cc.grows.syms.longer in let kB = cb.grows.syms.longer in
      let toC = extends_on ops0 opsX opsC (extends_push ops0 x) cc.grows.ops in
      let toS = extends_on ops0 opsC opsS toC (extends_on opsC opsB opsS cb.grows.ops cs.grows.ops) in
      record {
        grows = record { ops = extends_set ops0 opsS i op toS (omega arith); syms = extends_on syms0 symsC symsS cc.grows.syms (extends_on symsC symsB symsS cb.grows.syms cs.grows.syms) };
        runs = λ inputs from steps syms src cod wired cov ext rel.
            let at = at_set syms steps opsS i i op (omega arith) (omega (arith, lX, lC, lB, lS)) cov ∙ ap Some (decodes syms) in
            let covS = covers_after syms steps opsS i i (i + 1) op (omega arith) (omega arith) cov in
            let covB = covers_before syms steps opsB opsS (i + 1) (i + 1) (omega arith) cs.grows.ops covS in
            let extB = extends_on symsB symsS syms cs.grows.syms ext in
            let extC = extends_on symsC symsB syms cb.grows.syms extB in
            let done = loop_does b from steps syms types (length syms0) i (length opsS) true c (span (i + 1) (length opsC)) (span (length opsC) (length opsB)) (span (length opsB) (length opsS)) src cod (test inputs) (body inputs) (step inputs) (omega arith) (omega (arith, lB, lS)) (omega (arith, lX, lC)) lS (omega (arith, lX, lC, lB)) refl (omega (arith, lX, lC, lB, lS)) (cc.own inputs from wired) at (cc.over inputs) (λ st y r.
            subst (λ z. TestsCode b from steps syms types (length syms0) c z (length opsC) y (test inputs st)) lX (cc.runs inputs from steps syms st y wired (covers_before syms steps opsC opsB (i + 1) (length opsX) (omega (arith, lX)) cb.grows.ops covB) extC r)) (λ st y r.
            let d = cb.runs inputs from steps syms st y wired (covers_before syms steps opsB opsB (i + 1) (length opsC) (omega (arith, lX, lC)) (extends_self opsB) covB) extB r in
            does_after b from steps syms types (length syms0) (length symsC) (length opsC) (length opsC) (length opsB) y y (body inputs st) kC lB (leads_self from steps (length opsC) y) (kept_self b (length syms0) y) d) (λ st y r.
            let d = cs.runs inputs from steps syms st y wired (covers_before syms steps opsS opsS (i + 1) (length opsB) (omega (arith, lX, lC, lB)) (extends_self opsS) covS) ext r in
            does_after b from steps syms types (length syms0) (length symsB) (length opsB) (length opsB) (length opsS) y y (step inputs st) (omega (arith, kC, kB)) lS (leads_self from steps (length opsB) y) (kept_self b (length syms0) y) d) rel in
            subst (λ z. DoesCode b from steps syms (length syms0) types i z cod (looped true (test inputs) (body inputs) (step inputs) src)) (sym lE) done;
      }

  pub while_code : (ops0 opsC opsB : List Op) (syms0 symsC symsB : List Symbol) (c : ℕ) (x : Op) (test : Inputs → State → Tested) (body : Inputs → Doing) → TestCode b types (ops0 ++ x ∷ []) opsC syms0 symsC c test → StmtCode b types opsC opsB symsC symsB body → StmtCode b types ops0 (slice_set opsB (length ops0) (while_op c (length opsC) (length opsB))) syms0 symsB (λ inputs. looped true (test inputs) (body inputs) Next)
  while_code ops0 opsC opsB syms0 symsC symsB c x test body cc cb =
      first_code (while_op c (length opsC) (length opsB)) ops0 opsC opsB opsB syms0 symsC symsB symsB c x test body (λ inputs. Next) (λ syms. while_step syms (length ops0) c (length opsC) (length opsB)) cc cb (nothing_code b types opsB symsB)

  pub for_code : (ops0 opsC opsB opsS : List Op) (syms0 symsC symsB symsS : List Symbol) (c : ℕ) (x : Op) (test : Inputs → State → Tested) (body step : Inputs → Doing) → TestCode b types (ops0 ++ x ∷ []) opsC syms0 symsC c test → StmtCode b types opsC opsB symsC symsB body → StmtCode b types opsB opsS symsB symsS step → StmtCode b types ops0 (slice_set opsS (length ops0) (for_op c (length opsC) (length opsB) (length opsS))) syms0 symsS (λ inputs. looped true (test inputs) (body inputs) (step inputs))
  for_code ops0 opsC opsB opsS syms0 symsC symsB symsS c x test body step cc cb cs =
      first_code (for_op c (length opsC) (length opsB) (length opsS)) ops0 opsC opsB opsS syms0 symsC symsB symsS c x test body step (λ syms. for_step syms (length ops0) c (length opsC) (length opsB) (length opsS)) cc cb cs

  -- a loop that tests after each turn
  pub do_code : (ops0 opsB opsC : List Op) (syms0 symsB symsC : List Symbol) (c : ℕ) (x : Op) (test : Inputs → State → Tested) (body : Inputs → Doing) → StmtCode b types (ops0 ++ x ∷ []) opsB syms0 symsB body → TestCode b types opsB opsC symsB symsC c test → StmtCode b types ops0 (slice_set opsC (length ops0) (do_op c (length opsB) (length opsC))) syms0 symsC (λ inputs. looped false (test inputs) (body inputs) Next)
  do_code ops0 opsB opsC syms0 symsB symsC c x test body cb cc =
      let i = length ops0 in
      let opsX = ops0 ++ x ∷ [] in
      let op = do_op c (length opsB) (length opsC) in
      let opsE = slice_set opsC i op in
      let lX = push_length ops0 x in let lC = cc.grows.ops.longer in let lB = cb.grows.ops.longer in let lE = length-set opsC i op in
      let kB = cb.grows.syms.longer in
      let toB = extends_on ops0 opsX opsB (extends_push ops0 x) cb.grows.ops in
      let toC = extends_on ops0 opsB opsC toB cc.grows.ops in
      record {
        grows = record { ops = extends_set ops0 opsC i op toC (omega arith); syms = extends_on syms0 symsB symsC cb.grows.syms cc.grows.syms };
        runs = λ inputs from steps syms src cod wired cov ext rel.
            let at = at_set syms steps opsC i i op (omega arith) (omega (arith, lX, lC, lB)) cov ∙ ap Some (do_step syms i c (length opsB) (length opsC)) in
            let covC = covers_after syms steps opsC i i (i + 1) op (omega arith) (omega arith) cov in
            let extB = extends_on symsB symsC syms cc.grows.syms ext in
            let done = loop_does b from steps syms types (length syms0) i (length opsC) false c (span (length opsB) (length opsC)) (span (i + 1) (length opsB)) (span (length opsC) (length opsC)) src cod (test inputs) (body inputs) Next (omega (arith, lX, lB)) (omega arith) (omega arith) lC (omega (arith, lX, lB, lC)) refl (omega (arith, lX, lC, lB)) (cc.own inputs from wired) at (cc.over inputs) (λ st y r.
            let t = cc.runs inputs from steps syms st y wired (covers_before syms steps opsC opsC (i + 1) (length opsB) (omega (arith, lX, lB)) (extends_self opsC) covC) ext r in
            tests_less b from steps syms types (length syms0) (length symsB) c (length opsB) (length opsC) y (test inputs st) kB lC t) (λ st y r.
            subst (λ z. DoesCode b from steps syms (length syms0) types z (length opsB) y (body inputs st)) lX (cb.runs inputs from steps syms st y wired (covers_before syms steps opsB opsC (i + 1) (length opsX) (omega (arith, lX)) cc.grows.ops covC) extB r)) (λ st y r. (y, record { leads = leads_self from steps (length opsC) y; related = r; kept = kept_self b (length syms0) y })) rel in
            subst (λ z. DoesCode b from steps syms (length syms0) types i z cod (looped false (test inputs) (body inputs) Next src)) (sym lE) done;
      }
