-- `x op= e` in general: the target's indices, its old value, the right side, the operation, and then the write.
use Rattle.std.proofs.Common.{◌≡◌, ℕ, ◌<◌, ◌≢◌, List, [], ◌∷◌, ◌++◌, length, map, true, false, refl, sym, ◌∙◌, arith}
use Rattle.osl_value.specs.declared.op_name.OpName.{OpName}
use Rattle.osl_value.specs.declared.op_name.OpName.TheVariants.{Empty}
use Rattle.osl_value.specs.declared.types.Base.TheVariants.{Closure}
use Rattle.osl_value.specs.declared.types.Ty.{Ty}
use Rattle.osl_value.specs.AnyValue.{AnyValue}
use Rattle.osl_value.specs.Apply.{apply}
use Rattle.osl_value.specs.Laws.{HasValues}
use Rattle.osl_value.specs.Types.{same_base}
use Rattle.osl_layer.specs.Layer.{Inputs}
use Rattle.oso_code.specs.declared.op.Op.{Op}
use Rattle.oso_code.specs.declared.symbol.Symbol.{Symbol}
use Rattle.osl_typed.specs.State.{State, ExpressionEnd, Gives, Exits, Spent, then_value, in_order}
use Rattle.osl_typed.specs.Parts.{single, write_part}
use Rattle.osl_typed.specs.Selections.{part_kind}
use Rattle.osl_typed.specs.Expressions.{Meaning, promoted, read_part, updated, stored_as}
use Rattle.osl_typed.specs.declared.expr.Part.{Part}
use Rattle.osl_typed.specs.declared.expr.Root.{Root}
use Rattle.osl_gencode.specs.PartCodes.{AllBelow, StoreCode}
use Rattle.osl_gencode.specs.Relation.{IsOwn, In}
use Rattle.osl_gencode.specs.Growth.{Extends}
use Rattle.osl_gencode.specs.Codes.{Place, Code, Shows, ExprCode, ListCode, Anything, AllIn}
use Rattle.osl_gencode.specs.Bodies.{IsNew, Body, Room, HasType, frame_at}
use Rattle.osl_gencode.proofs.Operations.{one_place, all_unwired, AllSingle, one_typed, firsts, own_one}
use Rattle.osl_gencode.proofs.Growing.{type_later, push_length, extends_on}
use Rattle.osl_gencode.proofs.RelatedStates.{room_later, above_own}
use Rattle.osl_gencode.proofs.OpValues.{emptied, promotes_empty}
use Rattle.osl_gencode.proofs.Assignments.{Named, store_code, IndicesAndValue}
use Rattle.osl_gencode.proofs.CodeLists.{code_more, code_then, code_as, in_order_then}
use Rattle.osl_gencode.proofs.OneOp.{op_of, op_code}
use Rattle.osl_gencode.proofs.CalmCode.{Beside, code_from}
use Rattle.osl_gencode.proofs.Targets.{Target}

-- ---- meanings in other brackets

chain_value : {A B C D : Type 0} (a : A) (o : B) (end : ExpressionEnd C) (new : ((A × B) × C) → D) (put : (((A × B) × C) × D) → State → State) → then_value end (λ v s3. Gives (new ((a, o), v)) (put (((a, o), v), new ((a, o), v)) s3)) ≡ then_value (then_value (then_value end (λ v s1. Gives ((a, o), v) s1)) (λ (p : (A × B) × C) s. Gives (p, new p) s)) (λ (p : ((A × B) × C) × D) s. Gives (p.1) (put p s))
chain_value a o (Gives v s) new put = refl
chain_value a o (Exits s) new put = refl
chain_value a o (Spent s) new put = refl

chain_old : {A B C D : Type 0} (a : A) (end : ExpressionEnd B) (sem : State → ExpressionEnd C) (new : ((A × B) × C) → D) (put : (((A × B) × C) × D) → State → State) → then_value end (λ o s2. then_value (sem s2) (λ v s3. Gives (new ((a, o), v)) (put (((a, o), v), new ((a, o), v)) s3))) ≡ then_value (then_value (then_value (then_value end (λ o s1. Gives (a, o) s1)) (λ (p : A × B) s. then_value (sem s) (λ v s1. Gives (p, v) s1))) (λ (p : (A × B) × C) s. Gives (p, new p) s)) (λ (p : ((A × B) × C) × D) s. Gives (p.1) (put p s))
chain_old a (Gives o s) sem new put = chain_value a o (sem s) new put
chain_old a (Exits s) sem new put = refl
chain_old a (Spent s) sem new put = refl

chain : {A B C D : Type 0} (end : ExpressionEnd A) (reading : A → State → ExpressionEnd B) (sem : State → ExpressionEnd C) (new : ((A × B) × C) → D) (put : (((A × B) × C) × D) → State → State) → then_value end (λ a s1. then_value (reading a s1) (λ o s2. then_value (sem s2) (λ v s3. Gives (new ((a, o), v)) (put (((a, o), v), new ((a, o), v)) s3)))) ≡ then_value (then_value (then_value (then_value end (λ a s. then_value (reading a s) (λ o s1. Gives (a, o) s1))) (λ (p : A × B) s. then_value (sem s) (λ v s1. Gives (p, v) s1))) (λ (p : (A × B) × C) s. Gives (p, new p) s)) (λ (p : ((A × B) × C) × D) s. Gives (p.1) (put p s))
chain (Gives a s) reading sem new put = chain_old a (reading a s) sem new put
chain (Exits s) reading sem new put = refl
chain (Spent s) reading sem new put = refl

-- ---- the node

-- the indices, the old value and the right side are known
abbrev pub OldAndNew : List Place → (q : ℕ) → Ty → (r : ℕ) → Ty → Shows ((List (List AnyValue) × List AnyValue) × List AnyValue)
OldAndNew ps q to r ety = Beside (Beside (AllIn ps) (In q (to ∷ []))) (In r (ety ∷ []))

module _ (b : Body) (loud : b.calm ≡ false) (rt : Root) (part : Part) (leaf vty : Ty) (w : ℕ) (ps : List Place) (cs : List ℕ) (q : ℕ) (to : Ty) (r : ℕ) (ety : Ty) (u : ℕ) (op : OpName) (ty : Ty) (convert : AnyValue → AnyValue) where
  -- what is stored
  abbrev new_value : (List (List AnyValue) × List AnyValue) × List AnyValue → List AnyValue
  new_value a = convert (apply op ty (single (a.0.1) ∷ single (a.1) ∷ [])) ∷ []

  -- The code of each step knows what was found before it: by `calm_beside` where it is calm, by `code_beside` where the places are spared.
  pub update_code : (ops0 opsI opsR opsE opsO ops1 : List Op) (syms0 symsI symsN symsR symsE symsO syms1 : List Symbol) (indices : Inputs → List Meaning) (sem : Inputs → Meaning) → Room b syms0 → Target b syms0 rt part leaf w → HasValues leaf → (firsts ps ++ cs ≡ [] → vty ≡ leaf) → ((inputs : Inputs) (x : AnyValue) → stored_as (part_kind part (indices inputs)) x ≡ convert x)
      → AllSingle ps → ListCode b ops0 opsI syms0 symsI ps indices → Extends symsI symsN → Named b symsN part.component cs
      → Code b opsI opsR symsN symsR (AllIn ps) (Beside (AllIn ps) (In q (to ∷ []))) (λ inputs vss s. then_value (read_part (frame_at b inputs) rt part (map single vss) s) (λ old s1. Gives (vss, old) s1))
      → Code b opsR opsE symsR symsE (Beside (AllIn ps) (In q (to ∷ []))) (OldAndNew ps q to r ety) (λ inputs a s. then_value (sem inputs s) (λ v s1. Gives (a, v) s1))
      → Code b opsE opsO symsE symsO (OldAndNew ps q to r ety) (Beside (OldAndNew ps q to r ety) (In u (vty ∷ []))) (λ inputs a s. Gives (a, convert (apply op ty (single (a.0.1) ∷ single (a.1) ∷ [])) ∷ []) s)
      → IsOwn b u → HasType symsO u vty → u < length symsO → u ≢ w → AllBelow (length symsO) w (firsts ps)
      → StoreCode opsO ops1 symsO syms1 w leaf (firsts ps ++ cs) u
      → ExprCode b ops0 ops1 syms0 syms1 u (vty ∷ []) (λ inputs. updated (frame_at b inputs) op ty rt part (indices inputs) (sem inputs))
  update_code ops0 opsI opsR opsE opsO ops1 syms0 symsI symsN symsR symsE symsO syms1 indices sem room t has same converts one ci extN name cr ce co own type within ne under c =
      let l1 = c.grows.syms.longer in
      let ext0 = extends_on syms0 symsI symsN ci.code.grows.syms extN in
      let extNO = extends_on symsN symsR symsO cr.grows.syms (extends_on symsR symsE symsO ce.grows.syms co.grows.syms) in
      let P1 : Shows (List (List AnyValue)) = AllIn ps in
      let P2 : Shows (List (List AnyValue) × List AnyValue) = Beside P1 (In q (to ∷ [])) in
      let P3 : Shows ((List (List AnyValue) × List AnyValue) × List AnyValue) = OldAndNew ps q to r ety in
      let P4 : Shows (((List (List AnyValue) × List AnyValue) × List AnyValue) × List AnyValue) = Beside P3 (In u (vty ∷ [])) in
      let first = code_more b ops0 opsI syms0 symsI symsN Anything P1 (λ inputs a s. in_order (indices inputs) s Gives) extN ci.code in
      let two = code_then b ops0 opsI opsR syms0 symsN symsR Anything P1 P2 _ _ first cr in
      let three = code_then b ops0 opsR opsE syms0 symsR symsE Anything P2 P3 _ _ two ce in
      let four = code_then b ops0 opsE opsO syms0 symsE symsO Anything P3 P4 _ (λ inputs a s. Gives (a, new_value a) s) three co in
      let stores = store_code b loud rt part leaf vty w ps cs u opsO ops1 syms0 symsN symsO syms1 t room ext0 extNO one (all_unwired b (length symsI) ps one ci.within) under name own ne within has same c in
      let five = code_from b opsO ops1 symsO syms1 P4 (IndicesAndValue ps u vty) (In u (vty ∷ [])) (λ (p : ((List (List AnyValue) × List AnyValue) × List AnyValue) × List AnyValue). (p.0.0.0, p.1)) (λ inputs both s. Gives (both.1) (write_part (frame_at b inputs) rt part (map single (both.0)) (both.1) s)) (λ p x all. (all.0.0.0, all.1)) stores in
      record {
        within = omega (arith, within, l1);
        own = own_one b u own;
        places = one_place syms1 u vty (type_later symsO syms1 u vty c.grows.syms type);
        code = code_as b ops0 ops1 syms0 syms1 Anything (In u (vty ∷ [])) _ _ (λ j inputs a s. sym (meaning indices sem converts inputs s) j) (
            code_then b ops0 opsO ops1 syms0 symsO syms1 Anything P4 (In u (vty ∷ [])) _ _ four five);
      }
    where
      meaning : (indices : Inputs → List Meaning) (sem : Inputs → Meaning) → ((inputs : Inputs) (x : AnyValue) → stored_as (part_kind part (indices inputs)) x ≡ convert x) → (inputs : Inputs) (s : State) → updated (frame_at b inputs) op ty rt part (indices inputs) (sem inputs) s ≡ then_value (then_value (then_value (then_value (in_order (indices inputs) s Gives) (λ vss s1. then_value (read_part (frame_at b inputs) rt part (map single vss) s1) (λ old s2. Gives (vss, old) s2))) (λ (p : List (List AnyValue) × List AnyValue) s1. then_value (sem inputs s1) (λ v s2. Gives (p, v) s2))) (λ (p : (List (List AnyValue) × List AnyValue) × List AnyValue) s1. Gives (p, new_value p) s1)) (λ (p : ((List (List AnyValue) × List AnyValue) × List AnyValue) × List AnyValue) s1. Gives (p.1) (write_part (frame_at b inputs) rt part (map single (p.0.0.0)) (p.1) s1))
      meaning indices sem converts inputs s =
          in_order_then (indices inputs) s (λ vss s1. then_value (read_part (frame_at b inputs) rt part (map single vss) s1) (λ old s2. then_value (sem inputs s2) (λ v s3. Gives (stored_as (part_kind part (indices inputs)) (apply op ty (single old ∷ single v ∷ [])) ∷ []) (write_part (frame_at b inputs) rt part (map single vss) (stored_as (part_kind part (indices inputs)) (apply op ty (single old ∷ single v ∷ [])) ∷ []) s3))))
          ∙ (λ j. then_value (in_order (indices inputs) s Gives) (λ vss s1. then_value (read_part (frame_at b inputs) rt part (map single vss) s1) (λ old s2. then_value (sem inputs s2) (λ v s3. Gives (converts inputs (apply op ty (single old ∷ single v ∷ [])) j ∷ []) (write_part (frame_at b inputs) rt part (map single vss) (converts inputs (apply op ty (single old ∷ single v ∷ [])) j ∷ []) s3)))))
          ∙ chain (in_order (indices inputs) s Gives) (λ vss s1. read_part (frame_at b inputs) rt part (map single vss) s1) (sem inputs) new_value (λ (p : ((List (List AnyValue) × List AnyValue) × List AnyValue) × List AnyValue) s3. write_part (frame_at b inputs) rt part (map single (p.0.0.0)) (p.1) s3)

-- ---- the empty closure

-- the literal 0 as a closure: whatever was evaluated, the value is the empty one
pub promote_closure_code : (b : Body) (ops0 ops1 : List Op) (syms0 syms1 : List Symbol) (r : ℕ) (from ty : Ty) (symbol : Symbol) (sem : Inputs → Meaning) → Room b syms0 → same_base ty.base Closure ≡ true → HasValues ty → IsNew symbol ty → ExprCode b ops0 ops1 syms0 syms1 r (from ∷ []) sem → ExprCode b ops0 (ops1 ++ op_of Empty (length syms1) [] ∷ []) syms0 (syms1 ++ symbol ∷ []) (length syms1) (ty ∷ []) (λ inputs s. then_value (sem inputs s) (λ v s1. Gives (promoted ty (single v) ∷ []) s1))
promote_closure_code b ops0 ops1 syms0 syms1 r from ty symbol sem room is has new c =
    let last = op_of Empty (length syms1) [] in
    let w = room.within in let longer = c.code.grows.syms.longer in
    let room1 = room_later b syms0 syms1 c.code.grows.syms room in
    record {
      within = omega (arith, push_length syms1 symbol);
      own = own_one b (length syms1) (above_own b syms1 room1 (length syms1) (omega (arith, w, longer)));
      places = one_typed syms1 symbol ty new.typed;
      code = code_as b ops0 (ops1 ++ last ∷ []) syms0 (syms1 ++ symbol ∷ []) Anything (In (length syms1) (ty ∷ [])) _ _ (λ j inputs a s. then_value (sem inputs s) (λ v s1. Gives ((emptied ty is ∙ sym (promotes_empty ty (single v) is)) j ∷ []) s1)) (
          code_then b ops0 ops1 (ops1 ++ last ∷ []) syms0 syms1 (syms1 ++ symbol ∷ []) Anything (In r (from ∷ [])) (In (length syms1) (ty ∷ [])) (λ inputs a. sem inputs) (λ inputs v s1. Gives (apply Empty ty [] ∷ []) s1) c.code (
          op_code b ops1 syms1 (In r (from ∷ [])) Empty ty [] symbol (λ v. []) room1 refl refl new.typed new.free has tt (λ v x p. refl)));
    }
