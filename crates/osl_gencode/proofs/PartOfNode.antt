-- A part of a value: a field of a structure, an element, a component, an element of a matrix.
use Rattle.std.proofs.Common.{◌≡◌, ℕ, zero, suc, ◌+◌, List, [], ◌∷◌, ◌++◌, length, map, Some, refl, sym, ap, ◌∙◌, subst, arith}
use Rattle.std.specs.Prelude.{slice_get, take, drop}
use Rattle.osl_value.specs.declared.types.Ty.{Ty}
use Rattle.osl_value.specs.AnyValue.{AnyValue, type_of}
use Rattle.osl_layer.specs.Layer.{Inputs}
use Rattle.osl_overload.specs.declared.signature.Kind.{Kind}
use Rattle.osl_overload.specs.declared.signature.Kind.TheVariants.{Value}
use Rattle.oso_code.specs.declared.op.Op.{Op}
use Rattle.oso_code.specs.declared.symbol.Symbol.{Symbol}
use Rattle.oso_code.specs.Run as R
use Rattle.osl_typed.specs.declared.expr.Part.{Part}
use Rattle.osl_typed.specs.Frames.{leaves_before}
use Rattle.osl_typed.specs.State.{State, Gives, then_value, in_order}
use Rattle.osl_typed.specs.Parts.{Frame, single, selected, selection, field_leaves, all_indices}
use Rattle.osl_typed.specs.Expressions.{Meaning, part_taken}
use Rattle.osl_gencode.specs.PartCodes.{SelectCode}
use Rattle.osl_gencode.specs.Relation.{In}
use Rattle.osl_gencode.specs.Growth.{Extends}
use Rattle.osl_gencode.specs.Codes.{Shows, Stays, ListCode, AllIn, ExprCode, Place, Anything}
use Rattle.osl_gencode.specs.Bodies.{Body, Room, frame_at}
use Rattle.osl_gencode.specs.RunEnds.{GivesCode}
use Rattle.osl_gencode.proofs.Operations.{one_place, own_one, AllSingle, firsts, all_unwired}
use Rattle.osl_gencode.proofs.Growing.{extends_on, type_later, get_some}
use Rattle.osl_gencode.proofs.RelatedStates.{above_own, room_later}
use Rattle.osl_gencode.proofs.VariableReads.{singles_under, selected_within, under_append, select_gives, selected_own, named_under}
use Rattle.osl_gencode.proofs.Assignments.{indices_are, Named, unwired_append, named_unwired}
use Rattle.osl_gencode.proofs.CodeLists.{spread, code_any, code_as, code_beside, code_then, in_order_then, code_more}
use Rattle.osl_gencode.proofs.OneOp.{all_own}

-- ---- one leaf of a value

taken_leaf : (vs : List AnyValue) (m : ℕ) (v : AnyValue) → slice_get vs m ≡ Some v → single (take 1 (drop m vs)) ≡ v
taken_leaf [] m v at = absurd (cc at)
taken_leaf (u ∷ vs) zero v at = let e : Some u ≡ Some v = at in cc e
taken_leaf (u ∷ vs) (suc m) v at = taken_leaf vs m v at

typed_leaf : (vs : List AnyValue) (types : List Ty) (m : ℕ) (ty : Ty) → map type_of vs ≡ types → slice_get types m ≡ Some ty → (v : AnyValue) × (slice_get vs m ≡ Some v) × (type_of v ≡ ty)
typed_leaf [] types m ty e at = absurd (let q : slice_get [] m ≡ Some ty = ap (λ z. slice_get z m) e ∙ at in cc q)
typed_leaf (v ∷ vs) types zero ty e at = let q : Some (type_of v) ≡ Some ty = ap (λ z. slice_get z 0) e ∙ at in (v, refl, cc q)
typed_leaf (v ∷ vs) types (suc m) ty e at = typed_leaf vs (map type_of vs) m ty refl (ap (λ z. slice_get z (suc m)) e ∙ at)

-- leaf m of a value in a place
pub in_at : (ra : ℕ) (types : List Ty) (vs : List AnyValue) (x : R.State) (m : ℕ) (ty : Ty) → In ra types vs x → slice_get types m ≡ Some ty → (v : AnyValue) × (slice_get vs m ≡ Some v) × (x.values (ra + m) ≡ v) × (type_of v ≡ ty)
in_at ra types vs x m ty p at = let q = typed_leaf vs types m ty p.typed at in (q.0, q.1, p.held.each m (q.0) (q.1), q.2)

taken : (frame : Frame) (kind : Kind) (part : Part) (ty : Ty) (vs is : List AnyValue) → part.kind ≡ Value ty → selection part (field_leaves frame kind part vs) is ≡ selected ty (single (take 1 (drop (leaves_before frame.structures kind part.fields) vs))) (all_indices part is) ∷ []
taken frame kind part ty vs is e =
    ap (λ z. selection (record { fields = part.fields; kind = z; component = part.component }) (field_leaves frame kind (record { fields = part.fields; kind = z; component = part.component }) vs) is) e

-- ---- the node

module _ (b : Body) (kind : Kind) (part : Part) (ps : List Place) (cs : List ℕ) (r : ℕ) (to : Ty) where
  pub part_code : (ops0 opsA opsI ops1 : List Op) (syms0 symsA symsI symsN syms1 : List Symbol) (ra : ℕ) (types : List Ty) (ty : Ty) (sem : Inputs → Meaning) (indices : Inputs → List Meaning) → Room b syms0 → part.kind ≡ Value ty → slice_get types (leaves_before b.structures kind part.fields) ≡ Some ty
      → ExprCode b ops0 opsA syms0 symsA ra types sem → Stays b (length symsA) (In ra types) → AllSingle ps → ListCode b opsA opsI symsA symsI ps indices → Extends symsI symsN → Named b symsN part.component cs
      → SelectCode opsI ops1 symsN syms1 (ra + leaves_before b.structures kind part.fields) ty (firsts ps ++ cs) r to
      → ExprCode b ops0 ops1 syms0 syms1 r (to ∷ []) (λ inputs. part_taken (frame_at b inputs) kind (sem inputs) part (indices inputs))
  part_code ops0 opsA opsI ops1 syms0 symsA symsI symsN syms1 ra types ty sem indices room is_kind at ca stays one ci extN name c =
      let m = leaves_before b.structures kind part.fields in
      let w = ra + m in
      let rw = room.within in let lA = ca.code.grows.syms.longer in let lI = ci.code.grows.syms.longer in let lN = extN.longer in
      let wa = ca.within in let lm = get_some types m ty at in
      let extAN = extends_on symsA symsI symsN ci.code.grows.syms extN in
      let ext0 = extends_on syms0 symsA symsN ca.code.grows.syms extAN in
      let P1 : Shows (List AnyValue) = In ra types in
      let P2 : Shows (List AnyValue × List (List AnyValue)) = λ both x. In ra types (both.0) x × AllIn ps (both.1) x in
      let second = code_beside b opsA opsI symsA symsN P1 (AllIn ps) (λ inputs a s. in_order (indices inputs) s Gives) stays (code_any b opsA opsI symsA symsN P1 (AllIn ps) (λ inputs s. in_order (indices inputs) s Gives) (code_more b opsA opsI symsA symsI symsN Anything (AllIn ps) (λ inputs a s. in_order (indices inputs) s Gives) extN ci.code)) in
      let own_w = ca.own m lm in
      record {
        within = selected_within opsI ops1 symsN syms1 w ty (firsts ps ++ cs) r to (omega (arith, wa, lm, lI, lN)) c;
        own = own_one b r (selected_own b syms0 room opsI ops1 symsN syms1 w ty (firsts ps ++ cs) r to ext0 own_w c);
        places = one_place syms1 r to (c.typed (type_later symsA symsN w ty extAN (ca.places.each m ty at)));
        code = code_as b ops0 ops1 syms0 syms1 Anything (In r (to ∷ [])) _ _ (λ j inputs a s. sym (meaning inputs s) j) (
            code_then b ops0 opsI ops1 syms0 symsN syms1 Anything P2 (In r (to ∷ [])) _ (λ inputs both s. Gives (selection part (field_leaves (frame_at b inputs) kind part (both.0)) (map single (both.1))) s) (code_then b ops0 opsA opsI syms0 symsA symsN Anything P1 P2 _ _ ca.code second) (record {
              grows = c.grows;
              runs = λ inputs from steps syms both s x wired cov ext rel p.
                  let extS = extends_on symsN syms1 syms c.grows.syms ext in
                  let roomS = room_later b syms0 syms (extends_on syms0 symsN syms ext0 extS) room in
                  let owns = all_own b inputs from (w ∷ (firsts ps ++ cs)) wired (own_w, unwired_append b (firsts ps) cs (all_unwired b (length symsI) ps one ci.within) (named_unwired b symsN part.component cs name)) in
                  let under = under_append (length symsN) (firsts ps) cs (singles_under b (length symsI) (length symsN) ps lN one ci.within) (named_under b symsN part.component cs name) in
                  let q = in_at ra types (both.0) x m ty p.0 at in
                  let is = map single (both.1) in
                  let value : selection part (field_leaves (frame_at b inputs) kind part (both.0)) is ≡ selected ty (q.0) (all_indices part is) ∷ [] = taken (frame_at b inputs) kind part ty (both.0) is is_kind ∙ ap (λ z. selected ty z (all_indices part is) ∷ []) (taken_leaf (both.0) m (q.0) (q.1)) in
                  subst (λ z. GivesCode b from steps syms (length symsN) (In r (to ∷ [])) (length opsI) (length ops1) x (Gives z s)) (sym value) (
                  select_gives b from steps syms roomS opsI ops1 symsN syms1 w ty (firsts ps ++ cs) r to (q.0) (all_indices part is) s x c cov ext (omega (arith, rw, lA, lI, lN)) (λ k l. above_own b syms0 room k (omega (arith, rw, lA, lI, lN, l)) inputs from wired) owns (omega (arith, wa, lm, lI, lN), under) (q.2) (q.3) (indices_are b symsN syms part ps cs (both.1) s x extS name one p.1 rel) rel);
            }));
      }
    where
      meaning : (inputs : Inputs) (s : State) → part_taken (frame_at b inputs) kind (sem inputs) part (indices inputs) s ≡ then_value (then_value (sem inputs s) (λ vs s1. then_value (in_order (indices inputs) s1 Gives) (λ vss s2. Gives (vs, vss) s2))) (λ (both : List AnyValue × List (List AnyValue)) s3. Gives (selection part (field_leaves (frame_at b inputs) kind part (both.0)) (map single (both.1))) s3)
      meaning inputs s =
          (λ j. then_value (sem inputs s) (λ vs s1. (in_order_then (indices inputs) s1 (λ vss s2. Gives (selection part (field_leaves (frame_at b inputs) kind part vs) (map single vss)) s2) ∙ sym (spread (in_order (indices inputs) s1 Gives) (λ vss s2. Gives (vs, vss) s2) (λ (both : List AnyValue × List (List AnyValue)) s3. Gives (selection part (field_leaves (frame_at b inputs) kind part (both.0)) (map single (both.1))) s3))) j))
          ∙ sym (spread (sem inputs s) (λ vs s1. then_value (in_order (indices inputs) s1 Gives) (λ vss s2. Gives (vs, vss) s2)) (λ (both : List AnyValue × List (List AnyValue)) s3. Gives (selection part (field_leaves (frame_at b inputs) kind part (both.0)) (map single (both.1))) s3))
