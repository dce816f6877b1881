-- `x op= e`, `++` and `--` of a whole variable or global, as one op that reads and writes it.
use Rattle.std.proofs.Common.{◌≡◌, ℕ, ◌+◌, List, [], ◌∷◌, ◌++◌, length, None, true, false, refl, sym, ap, ◌∙◌, subst, arith}
use Rattle.osl_value.specs.declared.op_name.OpName.{OpName}
use Rattle.osl_value.specs.declared.types.Ty.{Ty}
use Rattle.osl_value.specs.AnyValue.{AnyValue, type_of}
use Rattle.osl_value.specs.Apply.{apply}
use Rattle.osl_value.specs.Laws.{HasValues}
use Rattle.osl_value.specs.Table.{is_control, updates}
use Rattle.osl_value.proofs.TableLaws.{applied_type}
use Rattle.osl_layer.specs.Layer.{Inputs}
use Rattle.osl_overload.specs.declared.signature.Kind.TheVariants.{Value}
use Rattle.oso_code.specs.declared.op.Op.{Op}
use Rattle.oso_code.specs.declared.symbol.Symbol.{Symbol}
use Rattle.oso_code.specs.Run as R
use Rattle.osl_typed.specs.State.{State, ExpressionEnd, Gives, then_value, in_order}
use Rattle.osl_typed.specs.State as expression
use Rattle.osl_typed.specs.Ends.{Next}
use Rattle.osl_typed.specs.Parts.{Frame, single, selected, write_part, all_indices}
use Rattle.osl_typed.specs.Selections.{part_kind, types_on_the_way}
use Rattle.osl_typed.specs.Statements.{with_value, done}
use Rattle.osl_typed.specs.Expressions.{Meaning, read_part, updated, stored_as, stepping, whole, step_op, step_gives, stepped, one_of}
use Rattle.osl_typed.specs.declared.expr.Part.{Part}
use Rattle.osl_typed.specs.declared.expr.Root.{Root}
use Rattle.osl_typed.specs.declared.expr.Increment.{Increment}
use Rattle.osl_typed.specs.declared.expr.Increment.TheVariants.{PreIncrement, PreDecrement, PostIncrement, PostDecrement}
use Rattle.osl_gencode.specs.Relation.{In, IsOwn}
use Rattle.osl_gencode.specs.Codes.{Code, Stays, Shows, Anything, IsSpared, ExprCode}
use Rattle.osl_gencode.specs.Bodies.{frame_at, with_calm, Room, Body}
use Rattle.osl_gencode.specs.RunEnds.{GivesCode}
use Rattle.osl_gencode.proofs.Operations.{single_value, one_place, own_one}
use Rattle.osl_gencode.proofs.Growing.{variable_typed, extends_self}
use Rattle.osl_gencode.proofs.Constants.{constant_holds, IsConstant, constant_later}
use Rattle.osl_gencode.proofs.RelatedStates.{kept_self, room_later}
use Rattle.osl_gencode.proofs.OpValues.{copied}
use Rattle.osl_gencode.proofs.TargetOps.{target_code, no_indices}
use Rattle.osl_gencode.proofs.VariableReads.{LeafSource}
use Rattle.osl_gencode.proofs.CodeLists.{code_beside, code_as, code_any, in_stays, code_then, spread}
use Rattle.osl_gencode.proofs.OneOp.{op_of}
use Rattle.osl_gencode.proofs.RangeRuns.{leads_self}
use Rattle.osl_gencode.proofs.CalmCode.{calm_beside, code_to, Beside, own_loud}
use Rattle.osl_gencode.proofs.Targets.{Target}

-- symbol w holds the value that was read
abbrev pub Here : ℕ → List AnyValue → R.State → Type 0
Here w vs x = x.values w ≡ single vs

-- an operation that steps
step_plain : (step : Increment) → (is_control (step_op step) ≡ false) × (updates (step_op step) ≡ false)
step_plain PreIncrement = (refl, refl)
step_plain PreDecrement = (refl, refl)
step_plain PostIncrement = (refl, refl)
step_plain PostDecrement = (refl, refl)

whole_leaf : (ty : Ty) (v : AnyValue) (is : List AnyValue) → is ≡ [] → selected ty v is ≡ v
unfolding selected
whole_leaf ty v is e = ap (selected ty v) e

module _ (b : Body) (rt : Root) (part : Part) (ty : Ty) (w : ℕ) (none : part.component ≡ None) where
  -- a leaf is read where it is
  pub here_code : (ops : List Op) (syms0 : List Symbol) → LeafSource b syms0 rt part ty w → Code b ops ops syms0 syms0 Anything (Here w) (λ inputs a s. read_part (frame_at b inputs) rt part [] s)
  here_code ops syms0 src = record {
    grows = record { ops = extends_self ops; syms = extends_self syms0 };
    runs = λ inputs from steps syms a s x wired cov ext rel p.
        let is : read_part (frame_at b inputs) rt part [] s ≡ Gives (src.leaf s ∷ []) s = src.reads inputs from wired [] s ∙ ap (λ z. Gives (z ∷ []) s) (whole_leaf ty (src.leaf s) (all_indices part []) (no_indices part none)) in
        subst (GivesCode b from steps syms (length syms0) (Here w) (length ops) (length ops) x) (sym is) (
          x,
          record { leads = leads_self from steps (length ops) x; related = rel; kept = kept_self b (length syms0) x },
          src.holds syms s x rel,
        );
  }

  -- what is stored has the type of the leaf already
  same_stored : (op : OpName) (x : AnyValue) → part.kind ≡ Value ty → type_of x ≡ ty → stored_as (part_kind {X = Meaning} part []) x ≡ x
  unfolding types_on_the_way
  same_stored op x kind tx =
      ap (λ z. stored_as (part_kind {X = Meaning} (record { fields = part.fields; kind = z; component = part.component }) []) x) kind
      ∙ ap (λ z. stored_as (part_kind {X = Meaning} (record { fields = part.fields; kind = Value ty; component = z }) []) x) none
      ∙ copied x ty tx

  -- `x op= e`, where the code of e is calm and the types agree: x is read by the op itself, as nothing writes it before
  pub update_here_code : (ops0 ops1 : List Op) (syms0 syms1 : List Symbol) (op : OpName) (ety : Ty) (r : ℕ) (sem : Inputs → Meaning) → b.calm ≡ false → Room b syms0 → part.kind ≡ Value ty → LeafSource b syms0 rt part ty w → Target b syms1 rt part ty w → is_control op ≡ false → updates op ≡ false → HasValues ty → ExprCode (with_calm true b) ops0 ops1 syms0 syms1 r (ety ∷ []) sem → ExprCode b ops0 (ops1 ++ op_of op w (w ∷ r ∷ []) ∷ []) syms0 syms1 w (ty ∷ []) (λ inputs. updated (frame_at b inputs) op ty rt part [] (sem inputs))
  unfolding in_order
  update_here_code ops0 ops1 syms0 syms1 op ety r sem loud room kind src t plain reads has c =
      let room1 = room_later b syms0 syms1 c.code.grows.syms room in
      let rw = room.within in let low = src.low in let tl = t.low in let r1 = room1.within in
      let P : Shows (List AnyValue) = Here w in
      let Q : Shows (List AnyValue) = In r (ety ∷ []) in
      let own_r : IsOwn b r = (let e : r + 0 ≡ r = omega arith in subst (IsOwn b) e (own_loud true b (r + 0) (c.own 0 (omega arith)))) in
      let lasts : Stays (with_calm true b) (length syms0) P = λ vs x y kept p. kept.all refl w (omega (arith, low, rw)) ∙ p in
      let second = calm_beside b ops0 ops1 syms0 syms1 P Q (λ inputs a. sem inputs) lasts (code_any (with_calm true b) ops0 ops1 syms0 syms1 P Q sem c.code) in
      let third = target_code b ops1 syms1 (Beside P Q) rt part op ty w (w ∷ r ∷ []) (λ (both : List AnyValue × List AnyValue). single (both.0) ∷ single (both.1) ∷ []) loud room1 t none plain reads has (t.own, (own_r, tt)) (λ syms both s x ext rel p. ap (λ z. z ∷ x.values r ∷ []) p.0 ∙ ap (λ z. single (both.0) ∷ z ∷ []) (single_value r (ety ∷ []) (both.1) x refl p.1)) in
      record {
        within = omega (arith, r1, tl);
        own = own_one b w t.own;
        places = one_place syms1 w ty (variable_typed syms1 w ty t.variable);
        code = code_as b ops0 _ syms0 syms1 Anything (In w (ty ∷ [])) _ _ (λ j inputs a s. sym (meaning inputs s) j) (
            code_then b ops0 ops1 (ops1 ++ op_of op w (w ∷ r ∷ []) ∷ []) syms0 syms1 syms1 Anything (Beside P Q) (In w (ty ∷ [])) _ _ (code_then b ops0 ops0 ops1 syms0 syms0 syms1 Anything P (Beside P Q) _ _ (here_code ops0 syms0 src) second) third);
      }
    where
      new : AnyValue → AnyValue → AnyValue
      new u v = apply op ty (u ∷ v ∷ [])

      meaning : (inputs : Inputs) (s : State) → updated (frame_at b inputs) op ty rt part [] (sem inputs) s ≡ then_value (then_value (read_part (frame_at b inputs) rt part [] s) (λ old s1. then_value (sem inputs s1) (λ v s2. Gives (old, v) s2))) (λ (both : List AnyValue × List AnyValue) s3. Gives (new (single (both.0)) (single (both.1)) ∷ []) (write_part (frame_at b inputs) rt part [] (new (single (both.0)) (single (both.1)) ∷ []) s3))
      meaning inputs s =
          (λ j. then_value (read_part (frame_at b inputs) rt part [] s) (λ old s2. then_value (sem inputs s2) (λ v s3. Gives (same_stored op (new (single old) (single v)) kind (applied_type op ty (single old ∷ single v ∷ []) has) j ∷ []) (write_part (frame_at b inputs) rt part [] (same_stored op (new (single old) (single v)) kind (applied_type op ty (single old ∷ single v ∷ []) has) j ∷ []) s3))))
          ∙ (λ j. then_value (read_part (frame_at b inputs) rt part [] s) (λ old s1. sym (spread (sem inputs s1) (λ v s2. Gives (old, v) s2) (λ (both : List AnyValue × List AnyValue) s3. Gives (new (single (both.0)) (single (both.1)) ∷ []) (write_part (frame_at b inputs) rt part [] (new (single (both.0)) (single (both.1)) ∷ []) s3))) j))
          ∙ sym (spread (read_part (frame_at b inputs) rt part [] s) (λ old s1. then_value (sem inputs s1) (λ v s2. Gives (old, v) s2)) (λ (both : List AnyValue × List AnyValue) s3. Gives (new (single (both.0)) (single (both.1)) ∷ []) (write_part (frame_at b inputs) rt part [] (new (single (both.0)) (single (both.1)) ∷ []) s3)))

-- ---- steps

module _ (b : Body) (rt : Root) (ty : Ty) (w c : ℕ) where
  -- the first forms give the new value: one op, whose value is in the variable itself
  pub step_first_code : (ops : List Op) (syms0 : List Symbol) (step : Increment) → ((old new : AnyValue) → step_gives step old new ≡ new) → b.calm ≡ false → Room b syms0 → LeafSource b syms0 rt (whole ty) ty w → Target b syms0 rt (whole ty) ty w → HasValues ty → IsConstant syms0 c ty (one_of ty) → IsOwn b c → ExprCode b ops (ops ++ op_of (step_op step) w (w ∷ c ∷ []) ∷ []) syms0 syms0 w (ty ∷ []) (λ inputs. stepping (frame_at b inputs) step ty rt)
  step_first_code ops syms0 step gives loud room src t has one own =
      let p = step_plain step in let rw = room.within in let tl = t.low in
      record {
        within = omega (arith, rw, tl);
        own = own_one b w t.own;
        places = one_place syms0 w ty (variable_typed syms0 w ty t.variable);
        code = code_as b ops _ syms0 syms0 Anything (In w (ty ∷ [])) _ _ (λ j inputs a s. then_value (read_part (frame_at b inputs) rt (whole ty) [] s) (λ old s1. Gives (sym (gives (single old) (stepped step ty (single old))) j ∷ []) (write_part (frame_at b inputs) rt (whole ty) [] (stepped step ty (single old) ∷ []) s1))) (
            code_then b ops ops (ops ++ op_of (step_op step) w (w ∷ c ∷ []) ∷ []) syms0 syms0 syms0 Anything (Here w) (In w (ty ∷ [])) _ _ (here_code b rt (whole ty) ty w refl ops syms0 src) (
            target_code b ops syms0 (Here w) rt (whole ty) (step_op step) ty w (w ∷ c ∷ []) (λ vs. single vs ∷ one_of ty ∷ []) loud room t refl p.0 p.1 has (t.own, (own, tt)) (λ syms vs s x ext rel h. ap (λ z. z ∷ x.values c ∷ []) h ∙ ap (λ z. single vs ∷ z ∷ []) (constant_holds b syms c ty (one_of ty) s x (constant_later syms0 syms c ty (one_of ty) ext one) rel))));
      }

  -- the others give the old one, which was copied before
  pub step_after_code : (ops0 ops1 : List Op) (syms0 syms1 : List Symbol) (r : ℕ) (step : Increment) → ((old new : AnyValue) → step_gives step old new ≡ old) → b.calm ≡ false → Room b syms0 → Target b syms1 rt (whole ty) ty w → HasValues ty → IsConstant syms1 c ty (one_of ty) → IsOwn b c → IsSpared b r 1 → ExprCode b ops0 ops1 syms0 syms1 r (ty ∷ []) (λ inputs s. read_part (frame_at b inputs) rt (whole ty) [] s) → ExprCode b ops0 (ops1 ++ op_of (step_op step) w (r ∷ c ∷ []) ∷ []) syms0 syms1 r (ty ∷ []) (λ inputs. stepping (frame_at b inputs) step ty rt)
  step_after_code ops0 ops1 syms0 syms1 r step gives loud room t has one own spared k =
      let p = step_plain step in
      let room1 = room_later b syms0 syms1 k.code.grows.syms room in
      let Q : Shows (List AnyValue) = In r (ty ∷ []) in
      let own_r : IsOwn b r = (let e : r + 0 ≡ r = omega arith in subst (IsOwn b) e (k.own 0 (omega arith))) in
      let last = ops1 ++ op_of (step_op step) w (r ∷ c ∷ []) ∷ [] in
      let writes = target_code b ops1 syms1 Q rt (whole ty) (step_op step) ty w (r ∷ c ∷ []) (λ vs. single vs ∷ one_of ty ∷ []) loud room1 t refl p.0 p.1 has (own_r, (own, tt)) (λ syms vs s x ext rel h. ap (λ z. z ∷ x.values c ∷ []) (single_value r (ty ∷ []) vs x refl h) ∙ ap (λ z. single vs ∷ z ∷ []) (constant_holds b syms c ty (one_of ty) s x (constant_later syms1 syms c ty (one_of ty) ext one) rel)) in
      let both = code_beside b ops1 last syms1 syms1 Q (In w (ty ∷ [])) _ (in_stays b (length syms1) r (ty ∷ []) spared k.within) writes in
      let old = code_to b ops1 last syms1 syms1 Q (Beside Q (In w (ty ∷ []))) Q (λ (pair : List AnyValue × List AnyValue). single (pair.0) ∷ []) _ (λ syms v s x ext rel q. as_single (v.0) x q.0) both in
      record {
        within = k.within;
        own = k.own;
        places = k.places;
        code = code_as b ops0 last syms0 syms1 Anything Q _ _ (λ j inputs a s. then_value (read_part (frame_at b inputs) rt (whole ty) [] s) (λ vs s1. Gives (sym (gives (single vs) (stepped step ty (single vs))) j ∷ []) (write_part (frame_at b inputs) rt (whole ty) [] (stepped step ty (single vs) ∷ []) s1))) (
            code_then b ops0 ops1 last syms0 syms1 syms1 Anything Q Q (λ inputs a s. read_part (frame_at b inputs) rt (whole ty) [] s) _ k.code old);
      }
    where
      as_single : (vs : List AnyValue) (x : R.State) → In r (ty ∷ []) vs x → In r (ty ∷ []) (single vs ∷ []) x
      as_single [] x q = let e = ap length q.typed in absurd (omega (arith, e))
      as_single (v ∷ []) x q = q
      as_single (v ∷ u ∷ vs) x q = let e = ap length q.typed in absurd (omega (arith, e))

-- as a statement, both do the same
pub step_done : (frame : Frame) (step other : Increment) (ty : Ty) (rt : Root) → step_op step ≡ step_op other → done (stepping frame step ty rt) ≡ done (stepping frame other ty rt)
step_done frame step other ty rt same = λ j s. (by_end (read_part frame rt (whole ty) [] s) (λ old. step_gives step (single old) (stepped step ty (single old))) (λ old. step_gives other (single old) (stepped other ty (single old))) (λ old. stepped step ty (single old)) (λ old. stepped other ty (single old)) (λ old. ap (λ z. apply z ty (single old ∷ one_of ty ∷ [])) same)) j
  where
    by_end : (end : ExpressionEnd (List AnyValue)) (g h u v : List AnyValue → AnyValue) → ((old : List AnyValue) → u old ≡ v old) → with_value (then_value end (λ old s1. Gives (g old ∷ []) (write_part frame rt (whole ty) [] (u old ∷ []) s1))) (λ q s2. Next s2) ≡ with_value (then_value end (λ old s1. Gives (h old ∷ []) (write_part frame rt (whole ty) [] (v old ∷ []) s1))) (λ q s2. Next s2)
    by_end (Gives old s1) g h u v e = ap (λ z. Next (write_part frame rt (whole ty) [] (z ∷ []) s1)) (e old)
    by_end (expression.Exits s1) g h u v e = refl
    by_end (expression.Spent s1) g h u v e = refl
