-- Assignments to leaves and to parts of them: the target's indices, the value, and then the write.
use Rattle.std.proofs.Common.{◌≡◌, ℕ, ◌+◌, ◌<◌, ◌≤◌, ◌≢◌, List, [], ◌∷◌, ◌++◌, length, map, Option, Some, None, true, false, refl, sym, ap, ◌∙◌, subst, arith}
use Rattle.std.specs.Prelude.{slice_get}
use Rattle.std.proofs.lemmas.List.{length-map}
use Rattle.osl_value.specs.declared.types.Ty.{Ty}
use Rattle.osl_value.specs.AnyValue.{AnyValue, type_of}
use Rattle.osl_value.specs.Laws.{HasValues}
use Rattle.osl_layer.specs.Layer.{Inputs}
use Rattle.oso_code.specs.declared.op.Op.{Op}
use Rattle.oso_code.specs.declared.symbol.Symbol.{Symbol}
use Rattle.oso_code.specs.CodeRun.{stated}
use Rattle.oso_code.specs.Run as R
use Rattle.osl_typed.specs.State.{State, Gives, then_value, in_order}
use Rattle.osl_typed.specs.Parts.{single, int_of, with_selected, write_part, all_indices, named_component}
use Rattle.osl_typed.specs.Expressions.{Meaning, assigned}
use Rattle.osl_typed.specs.declared.expr.Part.{Part}
use Rattle.osl_typed.specs.declared.expr.Root.{Root}
use Rattle.osl_typed.specs.Statements.{below}
use Rattle.osl_gencode.specs.PartCodes.{StoreCode, AllBelow, Stored}
use Rattle.osl_gencode.specs.Relation.{In, Related, IsOwn}
use Rattle.osl_gencode.specs.Growth.{Extends}
use Rattle.osl_gencode.specs.Codes.{AllWithin, AllIn, ExprCode, ListCode, Anything, Place, Code, Stays, AllSpared, Shows}
use Rattle.osl_gencode.specs.Bodies.{Room, frame_end, IsVariable, Body, is_const, frame_at}
use Rattle.osl_gencode.proofs.PartStores.{const_apart}
use Rattle.osl_gencode.proofs.Operations.{AllSingle, values_of, all_unwired, firsts}
use Rattle.osl_gencode.proofs.Growing.{get_some, get_extended, variable_later, extends_on, types_later}
use Rattle.osl_gencode.proofs.RelatedStates.{above_own}
use Rattle.osl_gencode.proofs.CodeLists.{in_order_then, code_then, code_as, code_more, spread, code_any, code_beside}
use Rattle.osl_gencode.proofs.OneOp.{AllUnwired, all_own}
use Rattle.osl_gencode.proofs.Targets.{Target, kept_target, stored_type}

-- ---- the indices of a part

-- a component that is named is a constant
pub data Named (b : Body) (syms : List Symbol) : Option ℕ → List ℕ → Type 0 where
  unnamed : Named b syms None []
  named : (n c : ℕ) (symbol : Symbol) → slice_get syms c ≡ Some symbol → is_const symbol.class ≡ true → stated symbol.ty symbol.value ≡ int_of n → IsOwn b c → Named b syms (Some n) (c ∷ [])

pub named_value : (b : Body) (syms syms1 : List Symbol) (o : Option ℕ) (cs : List ℕ) (src : State) (x : R.State) → Extends syms syms1 → Named b syms o cs → Related b syms1 src x → map x.values cs ≡ named_component o
named_value b syms syms1 _ _ src x ext unnamed rel = refl
named_value b syms syms1 _ _ src x ext (named n c symbol here is v own) rel = ap (λ z. z ∷ []) (rel.consts c symbol (get_extended syms syms1 c symbol ext here) is ∙ v)

pub named_unwired : (b : Body) (syms : List Symbol) (o : Option ℕ) (cs : List ℕ) → Named b syms o cs → AllUnwired b cs
named_unwired b syms _ _ unnamed = tt
named_unwired b syms _ _ (named n c symbol here is v own) = (own, tt)

pub named_below : (b : Body) (syms syms1 : List Symbol) (o : Option ℕ) (cs : List ℕ) (n w : ℕ) (ty : Ty) → Extends syms syms1 → length syms ≤ n → IsVariable syms1 w ty → Named b syms o cs → AllBelow n w cs
named_below b syms syms1 _ _ n w ty ext le var unnamed = tt
named_below b syms syms1 _ _ n w ty ext le var (named m c symbol here is v own) = let l = get_some syms c symbol here in (omega (arith, l, le), const_apart syms1 c w symbol ty var (get_extended syms syms1 c symbol ext here) is, tt)

pub below_append : (n w : ℕ) (rs cs : List ℕ) → AllBelow n w rs → AllBelow n w cs → AllBelow n w (rs ++ cs)
below_append n w [] cs a c = c
below_append n w (r ∷ rs) cs a c = (a.0, a.1, below_append n w rs cs a.2 c)

pub unwired_append : (b : Body) (rs cs : List ℕ) → AllUnwired b rs → AllUnwired b cs → AllUnwired b (rs ++ cs)
unwired_append b [] cs a c = c
unwired_append b (r ∷ rs) cs a c = (a.0, unwired_append b rs cs a.1 c)

pub map_append : (f : ℕ → AnyValue) (rs cs : List ℕ) → map f (rs ++ cs) ≡ map f rs ++ map f cs
map_append f [] cs = refl
map_append f (r ∷ rs) cs = ap (λ l. f r ∷ l) (map_append f rs cs)

-- no place outside the frame is a symbol of it
pub places_below : (b : Body) (hi n w : ℕ) (ps : List Place) → hi ≤ n → b.start ≤ w → w < frame_end b → AllSingle ps → AllSpared b ps → AllWithin b hi ps → AllBelow n w (firsts ps)
places_below b hi n w [] le lo up one spared all = tt
places_below b hi n w (p ∷ ps) le lo up one spared all =
    let a = all.0 in let o = one.0 in let s = spared.0 in
    (omega (arith, a, o, le), (λ e. absurd (omega (arith, e, s, lo, up, o))), places_below b hi n w ps le lo up one.1 spared.1 all.2)

-- the values of the indices and of the component
pub indices_are : (b : Body) (symsN syms : List Symbol) (part : Part) (ps : List Place) (cs : List ℕ) (vss : List (List AnyValue)) (src : State) (x : R.State) → Extends symsN syms → Named b symsN part.component cs → AllSingle ps → AllIn ps vss x → Related b syms src x → map x.values (firsts ps ++ cs) ≡ all_indices part (map single vss)
indices_are b symsN syms part ps cs vss src x ext name one all rel =
    map_append x.values (firsts ps) cs ∙ ap (λ l. l ++ map x.values cs) (values_of ps vss x one all) ∙ ap (λ l. map single vss ++ l) (named_value b symsN syms part.component cs src x ext name rel)

-- ---- the write

empty_map : (f : ℕ → AnyValue) (rs : List ℕ) → map f rs ≡ [] → rs ≡ []
empty_map f [] e = refl
empty_map f (r ∷ rs) e = absurd (cc e)

pub value_in : (r : ℕ) (vty : Ty) (vs : List AnyValue) (x : R.State) → In r (vty ∷ []) vs x → (x.values r ≡ single vs) × (type_of (single vs) ≡ vty)
value_in r vty [] x p = let e = ap length p.typed in absurd (omega (arith, e))
value_in r vty (v ∷ u ∷ vs) x p = let e = ap length p.typed in absurd (omega (arith, e))
value_in r vty (v ∷ []) x p = let e : r ≡ r + 0 = omega arith in let t : type_of v ∷ [] ≡ vty ∷ [] = p.typed in (ap x.values e ∙ p.held.each 0 v refl, cc t)

-- a value that is in another symbol is there after the write
in_other : (r w n : ℕ) (vty : Ty) (vs : List AnyValue) (x y : R.State) → r ≢ w → r < n → ((j : ℕ) → j < n → j ≢ w → y.values j ≡ x.values j) → In r (vty ∷ []) vs x → In r (vty ∷ []) vs y
in_other r w n vty vs x y ne lt others p = record { held = record { each = λ j v at. kept j v at }; typed = p.typed }
  where
    short : length vs ≡ 1
    short = sym (length-map vs type_of) ∙ ap length p.typed

    kept : (j : ℕ) (v : AnyValue) → slice_get vs j ≡ Some v → y.values (r + j) ≡ v
    kept j v at = let l = get_some vs j v at in let z : r + j ≡ r = omega (arith, l, short) in ap y.values z ∙ others r lt ne ∙ sym (ap x.values z) ∙ p.held.each j v at

-- the indices of the target and the value are known
abbrev pub IndicesAndValue : List Place → ℕ → Ty → (List (List AnyValue) × List AnyValue) → R.State → Type 0
IndicesAndValue ps r vty both x = AllIn ps (both.0) x × In r (vty ∷ []) (both.1) x

module _ (b : Body) (loud : b.calm ≡ false) (rt : Root) (part : Part) (ty vty : Ty) (w : ℕ) (ps : List Place) (cs : List ℕ) (r : ℕ) where
  -- the write itself, after the indices and the value
  pub store_code : (opsE ops1 : List Op) (syms0 symsN symsE syms1 : List Symbol) → Target b syms0 rt part ty w → Room b syms0 → Extends syms0 symsN → Extends symsN symsE → AllSingle ps → AllUnwired b (firsts ps) → AllBelow (length symsE) w (firsts ps) → Named b symsN part.component cs → IsOwn b r → r ≢ w → r < length symsE → HasValues ty → (firsts ps ++ cs ≡ [] → vty ≡ ty) → StoreCode opsE ops1 symsE syms1 w ty (firsts ps ++ cs) r
      → Code b opsE ops1 symsE syms1 (IndicesAndValue ps r vty) (In r (vty ∷ [])) (λ inputs both s. Gives (both.1) (write_part (frame_at b inputs) rt part (map single (both.0)) (both.1) s))
  store_code opsE ops1 syms0 symsN symsE syms1 t room ext0 extN one unwired below name own ne below_r sound same c =
      let rw = room.within in let l0 = ext0.longer in let lN = extN.longer in let low = t.low in
      record {
        grows = c.grows;
        runs = λ inputs from steps syms both src cod wired cov ext rel p.
            let extE = extends_on symsE syms1 syms c.grows.syms ext in
            let extS = extends_on symsN symsE syms extN extE in
            let ext00 = extends_on syms0 symsN syms ext0 extS in
            let var = variable_later syms0 syms w ty ext00 t.variable in
            let is = map single (both.0) in
            let all = unwired_append b (firsts ps) cs unwired (named_unwired b symsN part.component cs name) in
            let did = c.runs from steps syms cod cov ext var (t.own inputs from wired) (all_own b inputs from (firsts ps ++ cs) wired all) (own inputs from wired) (λ j l. above_own b syms0 room j (omega (arith, rw, l0, lN, l)) inputs from wired) (omega (arith, low, rw, l0, lN)) below_r ne (below_append (length symsE) w (firsts ps) cs below (named_below b symsN syms part.component cs (length symsE) w ty extS lN var name)) in
            let y = did.0 in
            let values = indices_are b symsN syms part ps cs (both.0) src cod extS name one p.0 rel in
            let new_is = value_in r vty (both.1) cod p.1 in
            let v = with_selected ty (t.leaf src) (all_indices part is) (single (both.1)) in
            let v_is : with_selected ty (cod.values w) (map cod.values (firsts ps ++ cs)) (cod.values r) ≡ v = ap (λ z. with_selected ty z (map cod.values (firsts ps ++ cs)) (cod.values r)) (t.holds syms src cod rel) ∙ ap (λ z. with_selected ty (t.leaf src) z (cod.values r)) values ∙ ap (with_selected ty (t.leaf src) (all_indices part is)) (new_is.0) in
            let st = subst (λ z. Stored syms w z (length symsE) cod y) v_is did.2 in
            let typed : type_of v ≡ ty = stored_type ty (t.leaf src) (all_indices part is) (single (both.1)) sound (t.typed syms src cod rel) (λ none. new_is.1 ∙ same (empty_map cod.values (firsts ps ++ cs) (values ∙ none))) in
            let rel1 = t.related syms (length symsE) v src cod y ext00 (omega (arith, rw, l0, lN)) typed st rel in (
              y,
              record {
                leads = did.1;
                related = subst (λ z. Related b syms z y) (sym (t.writes inputs is (both.1) src)) rel1;
                kept = kept_target b syms0 rt part ty w t loud syms (length symsE) v cod y st;
              },
              in_other r w (length symsE) vty (both.1) cod y ne below_r st.others p.1,
            );
      }

  pub assign_code : (ops0 opsI opsE ops1 : List Op) (syms0 symsI symsN symsE syms1 : List Symbol) (indices : Inputs → List Meaning) (sem : Inputs → Meaning) → Room b syms0 → Target b syms0 rt part ty w → HasValues ty → (firsts ps ++ cs ≡ [] → vty ≡ ty)
      → AllSingle ps → ListCode b ops0 opsI syms0 symsI ps indices → Extends symsI symsN → Named b symsN part.component cs → Stays b (length symsN) (AllIn ps)
      → ExprCode b opsI opsE symsN symsE r (vty ∷ []) sem → AllBelow (length symsE) w (firsts ps) → r ≢ w
      → StoreCode opsE ops1 symsE syms1 w ty (firsts ps ++ cs) r
      → ExprCode b ops0 ops1 syms0 syms1 r (vty ∷ []) (λ inputs. assigned (frame_at b inputs) rt part (indices inputs) (sem inputs))
  assign_code ops0 opsI opsE ops1 syms0 symsI symsN symsE syms1 indices sem room t sound same one ci extN name stays ce below ne c =
      let l1 = c.grows.syms.longer in let wi = ce.within in
      let ext0 = extends_on syms0 symsI symsN ci.code.grows.syms extN in
      let P1 : Shows (List (List AnyValue)) = AllIn ps in
      let P2 : Shows (List (List AnyValue) × List AnyValue) = IndicesAndValue ps r vty in
      let own : IsOwn b r = (let e : r + 0 ≡ r = omega arith in subst (IsOwn b) e (ce.own 0 (omega arith))) in
      let first = code_more b ops0 opsI syms0 symsI symsN Anything P1 (λ inputs a s. in_order (indices inputs) s Gives) extN ci.code in
      let second = code_beside b opsI opsE symsN symsE P1 (In r (vty ∷ [])) (λ inputs a. sem inputs) stays (code_any b opsI opsE symsN symsE P1 (In r (vty ∷ [])) sem ce.code) in
      let third = store_code opsE ops1 syms0 symsN symsE syms1 t room ext0 ce.code.grows.syms one (all_unwired b (length symsI) ps one ci.within) below name own ne (omega (arith, wi)) sound same c in
      record {
        within = omega (arith, wi, l1);
        own = ce.own;
        places = types_later symsE syms1 r (vty ∷ []) c.grows.syms ce.places;
        code = code_as b ops0 ops1 syms0 syms1 Anything (In r (vty ∷ [])) _ _ (λ j inputs a s. sym (meaning inputs s) j) (
            code_then b ops0 opsE ops1 syms0 symsE syms1 Anything P2 (In r (vty ∷ [])) _ _ (code_then b ops0 opsI opsE syms0 symsN symsE Anything P1 P2 _ _ first second) third);
      }
    where
      meaning : (inputs : Inputs) (s : State) → assigned (frame_at b inputs) rt part (indices inputs) (sem inputs) s ≡ then_value (then_value (in_order (indices inputs) s Gives) (λ is s1. then_value (sem inputs s1) (λ v s2. Gives (is, v) s2))) (λ (both : List (List AnyValue) × List AnyValue) s2. Gives (both.1) (write_part (frame_at b inputs) rt part (map single (both.0)) (both.1) s2))
      meaning inputs s =
          in_order_then (indices inputs) s (λ is s1. then_value (sem inputs s1) (λ v s2. Gives v (write_part (frame_at b inputs) rt part (map single is) v s2)))
          ∙ (λ j. then_value (in_order (indices inputs) s Gives) (λ is s1. (sym (spread (sem inputs s1) (λ v s2. Gives (is, v) s2) (λ (both : List (List AnyValue) × List AnyValue) s2. Gives (both.1) (write_part (frame_at b inputs) rt part (map single (both.0)) (both.1) s2)))) j))
          ∙ sym (spread (in_order (indices inputs) s Gives) (λ is s1. then_value (sem inputs s1) (λ v s2. Gives (is, v) s2)) (λ (both : List (List AnyValue) × List AnyValue) s2. Gives (both.1) (write_part (frame_at b inputs) rt part (map single (both.0)) (both.1) s2)))
