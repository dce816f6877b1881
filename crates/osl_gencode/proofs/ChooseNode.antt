-- `c ? a : b`: one of the two is evaluated, into the same symbols.
use Rattle.std.proofs.Common.{◌≡◌, ℕ, ◌+◌, ◌≤◌, List, [], ◌∷◌, ◌++◌, length, Bool, true, false, not, refl, arith}
use Rattle.std.specs.Prelude.{slice_set, if◌then◌else◌}
use Rattle.osl_value.specs.declared.types.Ty.{Ty}
use Rattle.osl_value.specs.AnyValue.{AnyValue}
use Rattle.osl_layer.specs.Layer.{Inputs}
use Rattle.oso_code.specs.declared.op.Op.{Op}
use Rattle.oso_code.specs.declared.symbol.Symbol.{Symbol}
use Rattle.oso_code.specs.Run as R
use Rattle.osl_typed.specs.State.{then_value}
use Rattle.osl_typed.specs.Expressions.{Meaning, holds, chosen}
use Rattle.osl_gencode.specs.Relation.{In, IsOwn}
use Rattle.osl_gencode.specs.Growth.{Extends}
use Rattle.osl_gencode.specs.Codes.{Code, ExprCode, Shows, Anything}
use Rattle.osl_gencode.specs.Bodies.{Body, Room}
use Rattle.osl_gencode.proofs.BlockMoves.{AreVariables}
use Rattle.osl_gencode.proofs.Growing.{variable_typed}
use Rattle.osl_gencode.proofs.Branches.{branch_code}
use Rattle.osl_gencode.proofs.RelatedStates.{above_own}
use Rattle.osl_gencode.proofs.AndNode.{if_op}
use Rattle.osl_gencode.proofs.CodeLists.{code_any, code_as}

-- what symbol q says of a condition: that it holds, or that it does not
abbrev pub Decides : (turned : Bool) → ℕ → List AnyValue → R.State → Type 0
Decides true q vs x = R.is_so (x.values q) ≡ not (holds vs)
Decides false q vs x = R.is_so (x.values q) ≡ holds vs

module _ (b : Body) (t : ℕ) (types : List Ty) where
  choose_by : (test : List AnyValue → Bool) (q : ℕ) (ops0 opsC opsA opsB : List Op) (syms0 symsC symsA symsB : List Symbol) (x : Op) (sc sa sb : Inputs → Meaning) → Room b syms0 → IsOwn b q → Extends symsA symsB → Code b ops0 opsC syms0 symsC Anything (λ v z. R.is_so (z.values q) ≡ test v) (λ inputs u. sc inputs) → Code b (opsC ++ x ∷ []) opsA symsC symsA Anything (In t types) (λ inputs u. sa inputs) → Code b opsA opsB symsC symsB Anything (In t types) (λ inputs u. sb inputs)
      → Code b ops0 (slice_set opsB (length opsC) (if_op q (length opsA) (length opsB))) syms0 symsB Anything (In t types) (λ inputs u s. then_value (sc inputs s) (λ v s1. if test v then sa inputs s1 else sb inputs s1))
  choose_by test q ops0 opsC opsA opsB syms0 symsC symsA symsB x sc sa sb room own ext cc ca cb =
      let P : Shows (List AnyValue) = λ v z. R.is_so (z.values q) ≡ test v in
      branch_code b Anything P (In t types) test q ops0 opsC opsA opsB syms0 symsC symsA symsB x (λ inputs u. sc inputs) (λ inputs v s. sa inputs s) (λ inputs v s. sb inputs s) room own (λ v z p. p) (λ v z p. p) ext cc (code_any b (opsC ++ x ∷ []) opsA symsC symsA P (In t types) sa ca) (code_any b opsA opsB symsC symsB P (In t types) sb cb)

  -- where symbol q says that the condition does not hold, the second comes first
  pub choose_code : (turned : Bool) (q : ℕ) (ops0 opsC opsA opsB : List Op) (syms0 symsC symsA symsB : List Symbol) (x : Op) (sc sa sb : Inputs → Meaning) → Room b syms0 → IsOwn b q → Extends symsA symsB → length symsC ≤ t → t + length types ≤ length symsB → AreVariables symsB t types → Code b ops0 opsC syms0 symsC Anything (Decides turned q) (λ inputs u. sc inputs) → Code b (opsC ++ x ∷ []) opsA symsC symsA Anything (In t types) (λ inputs u. (if turned then sb else sa) inputs) → Code b opsA opsB symsC symsB Anything (In t types) (λ inputs u. (if turned then sa else sb) inputs)
      → ExprCode b ops0 (slice_set opsB (length opsC) (if_op q (length opsA) (length opsB))) syms0 symsB t types (λ inputs. chosen (sc inputs) (sa inputs) (sb inputs))
  choose_code true q ops0 opsC opsA opsB syms0 symsC symsA symsB x sc sa sb room own ext later within vars cc ca cb =
      let k0 = cc.grows.syms.longer in let w = room.within in
      record {
        within = within;
        own = λ k lt. above_own b syms0 room (t + k) (omega (arith, w, k0, later));
        places = record { each = λ k ty at. variable_typed symsB (t + k) ty (vars.each k ty at) };
        code = code_as b ops0 _ syms0 symsB Anything (In t types) _ _ (λ j inputs u s. then_value (sc inputs s) (λ v s1. exchanged (holds v) (sa inputs s1) (sb inputs s1) j)) (
            choose_by (λ v. not (holds v)) q ops0 opsC opsA opsB syms0 symsC symsA symsB x sc sb sa room own ext cc ca cb);
      }
    where
      exchanged : {X : Type 0} (h : Bool) (m n : X) → (if not h then n else m) ≡ (if h then m else n)
      exchanged true m n = refl
      exchanged false m n = refl
  choose_code false q ops0 opsC opsA opsB syms0 symsC symsA symsB x sc sa sb room own ext later within vars cc ca cb =
      let k0 = cc.grows.syms.longer in let w = room.within in
      record {
        within = within;
        own = λ k lt. above_own b syms0 room (t + k) (omega (arith, w, k0, later));
        places = record { each = λ k ty at. variable_typed symsB (t + k) ty (vars.each k ty at) };
        code = choose_by holds q ops0 opsC opsA opsB syms0 symsC symsA symsB x sc sa sb room own ext cc ca cb;
      }
