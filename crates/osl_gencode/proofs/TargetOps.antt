-- Operations that write a variable or a global at once: an assignment of an operation, `op=`, `++` and `--` as one op.
use Rattle.std.proofs.Common.{◌≡◌, ℕ, List, [], ◌∷◌, ◌++◌, length, map, Some, None, false, sym, ap, ◌∙◌, subst, arith}
use Rattle.osl_value.specs.declared.op_name.OpName.{OpName}
use Rattle.osl_value.specs.declared.types.Ty.{Ty}
use Rattle.osl_value.specs.AnyValue.{AnyValue, type_of}
use Rattle.osl_value.specs.Apply.{apply}
use Rattle.osl_value.specs.Laws.{HasValues}
use Rattle.osl_value.specs.Table.{is_control, updates}
use Rattle.osl_value.proofs.TableLaws.{applied_type}
use Rattle.osl_layer.specs.Layer.{Inputs}
use Rattle.oso_code.specs.declared.op.Op.{Op}
use Rattle.oso_code.specs.declared.symbol.Symbol.{Symbol}
use Rattle.oso_code.specs.Run as R
use Rattle.osl_typed.specs.State.{State, Gives, then_value, in_order}
use Rattle.osl_typed.specs.Parts.{single, with_selected, write_part, all_indices}
use Rattle.osl_typed.specs.Expressions.{Meaning, assigned}
use Rattle.osl_typed.specs.declared.expr.Part.{Part}
use Rattle.osl_typed.specs.declared.expr.Root.{Root}
use Rattle.osl_gencode.specs.PartCodes.{Stored}
use Rattle.osl_gencode.specs.Relation.{In, Related}
use Rattle.osl_gencode.specs.Growth.{Extends}
use Rattle.osl_gencode.specs.Codes.{Code, ListCode, Anything, ExprCode, AllIn, Place, Shows}
use Rattle.osl_gencode.specs.Bodies.{Body, frame_at, Room}
use Rattle.osl_gencode.specs.RunEnds.{Leads}
use Rattle.osl_gencode.proofs.PartStores.{stored_one}
use Rattle.osl_gencode.proofs.Operations.{values_of, own_one, firsts, AllSingle, one_place, all_unwired}
use Rattle.osl_gencode.proofs.Growing.{extends_self, variable_later, extends_push, push_length, variable_typed, at_push}
use Rattle.osl_gencode.proofs.RelatedStates.{room_later}
use Rattle.osl_gencode.proofs.CodeLists.{code_as, in_order_then, spread, code_then}
use Rattle.osl_gencode.proofs.OneOp.{all_own, in_one, op_of, AllUnwired, reading_step}
use Rattle.osl_gencode.proofs.RangeRuns.{compute_leads}
use Rattle.osl_gencode.proofs.Targets.{kept_target, Target}

-- a part without a component, and without indices, is the whole leaf
pub no_indices : (part : Part) → part.component ≡ None → all_indices part [] ≡ []
no_indices part none = ap (λ z. all_indices (record { fields = part.fields; kind = part.kind; component = z }) []) none

whole_put : (ty : Ty) (v : AnyValue) (is : List AnyValue) (x : AnyValue) → is ≡ [] → with_selected ty v is x ≡ x
unfolding with_selected
whole_put ty v is x e = ap (λ z. with_selected ty v z x) e

module _ (b : Body) {A : Type 0} where
  -- an operation whose result is written into the target and is given too
  pub target_code : (ops : List Op) (syms0 : List Symbol) (P : Shows A) (rt : Root) (part : Part) (name : OpName) (ty : Ty) (w : ℕ) (rs : List ℕ) (values : A → List AnyValue) → b.calm ≡ false → Room b syms0 → Target b syms0 rt part ty w → part.component ≡ None → is_control name ≡ false → updates name ≡ false → HasValues ty → AllUnwired b rs → ((syms : List Symbol) (a : A) (s : State) (x : R.State) → Extends syms0 syms → Related b syms s x → P a x → map x.values rs ≡ values a) → Code b ops (ops ++ op_of name w rs ∷ []) syms0 syms0 P (In w (ty ∷ [])) (λ inputs a s. Gives (apply name ty (values a) ∷ []) (write_part (frame_at b inputs) rt part [] (apply name ty (values a) ∷ []) s))
  target_code ops syms0 P rt part name ty w rs values loud room t none plain reads has all vals =
      let op = op_of name w rs in
      let rw = room.within in
      record {
        grows = record { ops = extends_push ops op; syms = extends_self syms0 };
        runs = λ inputs from steps syms a src cod wired cov ext rel p.
            let var = variable_later syms0 syms w ty ext t.variable in
            let at = at_push syms steps ops op (length ops) (omega arith) cov ∙ ap Some (reading_step syms (length ops) name w ty rs plain reads var) in
            let v = apply name ty (map cod.values rs) in
            let u = apply name ty (values a) in
            let v_is : v ≡ u = ap (apply name ty) (vals syms a src cod ext rel p) in
            let y = R.write w v (R.ticked cod) in
            let moves = compute_leads from steps (length ops) w name ty rs cod at (all_own b inputs from rs wired all) in
            let st = subst (λ z. Stored syms w z (length syms0) cod y) v_is (stored_one syms w ty v (length syms0) cod var) in
            let tu : type_of u ≡ ty = applied_type name ty (values a) has in
            let is : write_part (frame_at b inputs) rt part [] (u ∷ []) src ≡ t.put u src = t.writes inputs [] (u ∷ []) src ∙ ap (λ z. t.put z src) (whole_put ty (t.leaf src) (all_indices part []) u (no_indices part none)) in (
              y,
              record {
                leads = subst (λ z. Leads from steps (length ops) z cod y) (sym (push_length ops op)) moves;
                related = subst (λ z. Related b syms z y) (sym is) (t.related syms (length syms0) u src cod y ext rw tu st rel);
                kept = kept_target b syms0 rt part ty w t loud syms (length syms0) u cod y st;
              },
              in_one w ty u y st.value tu,
            );
      }

module _ (b : Body) where
  -- the place of a target
  target_place : (syms0 syms1 : List Symbol) (rt : Root) (part : Part) (ty : Ty) (w : ℕ) (ops0 ops1 : List Op) (sem : Inputs → Meaning) → Room b syms0 → Extends syms0 syms1 → Target b syms0 rt part ty w → Code b ops0 ops1 syms0 syms1 Anything (In w (ty ∷ [])) (λ inputs a. sem inputs) → ExprCode b ops0 ops1 syms0 syms1 w (ty ∷ []) sem
  target_place syms0 syms1 rt part ty w ops0 ops1 sem room ext t c =
      let rw = room.within in let l = ext.longer in let tl = t.low in
      record {
        within = omega (arith, rw, l, tl);
        own = own_one b w t.own;
        places = one_place syms1 w ty (variable_typed syms1 w ty (variable_later syms0 syms1 w ty ext t.variable));
        code = c;
      }

  -- `x = op(..)`, where the types agree: one op, whose value is in x itself
  pub assign_applied_code : (ops0 ops1 : List Op) (syms0 syms1 : List Symbol) (rt : Root) (part : Part) (ps : List Place) (op : OpName) (ty : Ty) (w : ℕ) (sems : Inputs → List Meaning) → b.calm ≡ false → Room b syms0 → Target b syms1 rt part ty w → part.component ≡ None → is_control op ≡ false → updates op ≡ false → HasValues ty → AllSingle ps → ListCode b ops0 ops1 syms0 syms1 ps sems → ExprCode b ops0 (ops1 ++ op_of op w (firsts ps) ∷ []) syms0 syms1 w (ty ∷ []) (λ inputs. assigned (frame_at b inputs) rt part [] (λ s. in_order (sems inputs) s (λ vs s1. Gives (apply op ty (map single vs) ∷ []) s1)))
  unfolding in_order
  assign_applied_code ops0 ops1 syms0 syms1 rt part ps op ty w sems loud room t none plain reads has one c =
      let room1 = room_later b syms0 syms1 c.code.grows.syms room in
      let r1 = room1.within in let tl = t.low in
      record {
        within = omega (arith, r1, tl);
        own = own_one b w t.own;
        places = one_place syms1 w ty (variable_typed syms1 w ty t.variable);
        code = code_as b ops0 _ syms0 syms1 Anything (In w (ty ∷ [])) _ _ (λ j inputs a s. sym (meaning inputs s) j) (
            code_then b ops0 ops1 (ops1 ++ op_of op w (firsts ps) ∷ []) syms0 syms1 syms1 Anything (AllIn ps) (In w (ty ∷ [])) (λ inputs a s. in_order (sems inputs) s Gives) (λ inputs vss s. Gives (apply op ty (map single vss) ∷ []) (write_part (frame_at b inputs) rt part [] (apply op ty (map single vss) ∷ []) s)) c.code (
            target_code b ops1 syms1 (AllIn ps) rt part op ty w (firsts ps) (map single) loud room1 t none plain reads has (all_unwired b (length syms1) ps one c.within) (λ syms vss s x ext rel all. values_of ps vss x one all)));
      }
    where
      meaning : (inputs : Inputs) (s : State) → assigned (frame_at b inputs) rt part [] (λ s0. in_order (sems inputs) s0 (λ vs s1. Gives (apply op ty (map single vs) ∷ []) s1)) s ≡ then_value (in_order (sems inputs) s Gives) (λ vss s1. Gives (apply op ty (map single vss) ∷ []) (write_part (frame_at b inputs) rt part [] (apply op ty (map single vss) ∷ []) s1))
      meaning inputs s =
          ap (λ z. then_value z (λ v s1. Gives v (write_part (frame_at b inputs) rt part [] v s1))) (in_order_then (sems inputs) s (λ vs s1. Gives (apply op ty (map single vs) ∷ []) s1))
          ∙ spread (in_order (sems inputs) s Gives) (λ vs s1. Gives (apply op ty (map single vs) ∷ []) s1) (λ v s1. Gives v (write_part (frame_at b inputs) rt part [] v s1))
