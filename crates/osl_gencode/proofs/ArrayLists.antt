-- An array is declared with a brace list: its items are evaluated, the array is zero, and then its first elements are written.
use Rattle.std.proofs.Common.{◌≡◌, ℕ, zero, suc, ◌+◌, ◌<◌, ◌≤◌, ◌≢◌, ◌⊎◌, inl, inr, ⊎_elim, List, [], ◌∷◌, length, map, Option, Some, false, refl, sym, ap, ◌∙◌, subst, arith}
use Rattle.std.specs.Prelude.{slice_get, pos, FitsSigned}
use Rattle.std.specs.Int.{w32}
use Rattle.std.proofs.lemmas.Bool.{cases_lt, cases_eq}
use Rattle.osl_value.specs.declared.op_name.OpName.TheVariants.{AAssign}
use Rattle.osl_value.specs.declared.types.Base.TheVariants.{Int}
use Rattle.osl_value.specs.declared.types.Ty.{Ty}
use Rattle.osl_value.specs.AnyValue.{AnyValue, type_of, zero_value}
use Rattle.osl_value.specs.Laws.{HasValues}
use Rattle.osl_value.specs.Types.{only}
use Rattle.osl_value.proofs.TableLaws.{applied_type}
use Rattle.osl_layer.specs.Layer.{Inputs}
use Rattle.osl_overload.specs.declared.signature.Kind.TheVariants.{Value}
use Rattle.oso_code.specs.declared.op.Op.{Op}
use Rattle.oso_code.specs.declared.symbol.Symbol.{Symbol}
use Rattle.oso_code.specs.Run as R
use Rattle.osl_typed.specs.Ends.{StatementEnd, Next}
use Rattle.osl_typed.specs.State.{State, ExpressionEnd, Gives, Exits, Spent, then_value, in_order, write_leaves}
use Rattle.osl_typed.specs.Parts.{single, int_of}
use Rattle.osl_typed.specs.Expressions.{Meaning}
use Rattle.osl_typed.specs.Statements.{with_value, with_elements, listed}
use Rattle.osl_gencode.specs.Relation.{IsOwn}
use Rattle.osl_gencode.specs.Growth.{Extends}
use Rattle.osl_gencode.specs.Bodies.{Body, Room, frame_end, IsVariable}
use Rattle.osl_gencode.specs.RunEnds.{DoesCode}
use Rattle.osl_gencode.specs.PartCodes.{AllOwn}
use Rattle.osl_gencode.specs.Codes.{AllIn, AllWithin, ListCode, Place, StmtCode}
use Rattle.osl_gencode.proofs.Growing.{get_some, covers_before, extends_on, extends_self, variable_later}
use Rattle.osl_gencode.proofs.RangeRuns.{leads_on}
use Rattle.osl_gencode.proofs.RelatedStates.{Wrote, above_own, kept_on, leaf_within, kept_temp, one_apart, related_temp, room_later, wrote_one}
use Rattle.osl_gencode.proofs.BlockMoves.{AreLeaves, AreSources, HeldIn, MoveCode, block_moves, held_by, kept_block, leaves_variables, related_block}
use Rattle.osl_gencode.proofs.OneOp.{all_own, in_one}
use Rattle.osl_gencode.proofs.OpValues.{zero_type}
use Rattle.osl_gencode.proofs.Operations.{AllSingle, all_unwired, firsts, values_of}
use Rattle.osl_gencode.proofs.Constants.{IsConstant, constant_holds, constant_later}
use Rattle.osl_gencode.proofs.ArgumentLists.{AreZeros, zero_held}
use Rattle.osl_gencode.proofs.ArrayElements.{CanCount, ElementsCode}
use Rattle.osl_gencode.proofs.CodeLists.{in_order_then}
use Rattle.osl_gencode.proofs.Sequels.{value_code}

-- ---- the items

own_at : (from : R.Sources) (rs : List ℕ) (i r : ℕ) → AllOwn from rs → slice_get rs i ≡ Some r → from r ≡ R.Own
own_at from [] i r all at = absurd (cc at)
own_at from (q ∷ rs) zero r all at = let s : Some q ≡ Some r = at in subst (λ z. from z ≡ R.Own) (cc s) all.0
own_at from (q ∷ rs) (suc i) r all at = own_at from rs i r all.1 at

first_below : (b : Body) (n : ℕ) (ps : List Place) (i r : ℕ) → AllSingle ps → AllWithin b n ps → slice_get (firsts ps) i ≡ Some r → r < n
first_below b n [] i r one w at = absurd (cc at)
first_below b n (p ∷ ps) zero r one w at =
    let s : Some p.first ≡ Some r = at in
    let e : p.first ≡ r = cc s in let h = w.0 in let o = one.0 in omega (arith, e, h, o)
first_below b n (p ∷ ps) (suc i) r one w at = first_below b n ps i r one.1 w.2 at

same_values : (rs : List ℕ) (x y : R.State) → ((i r : ℕ) → slice_get rs i ≡ Some r → y.values r ≡ x.values r) → map y.values rs ≡ map x.values rs
same_values [] x y same = refl
same_values (r ∷ rs) x y same = ap (λ v. v ∷ map y.values rs) (same 0 r refl) ∙ ap (λ l. x.values r ∷ l) (same_values rs x y (λ i q at. same (suc i) q at))

elements_typed : (ty : Ty) (n : ℕ) (xs : List AnyValue) (v : AnyValue) → HasValues ty → type_of v ≡ ty → type_of (with_elements ty n xs v) ≡ ty
unfolding with_elements
elements_typed ty n [] v has typed = typed
elements_typed ty n (x ∷ xs) v has typed = elements_typed ty (n + 1) xs _ has (applied_type AAssign ty (v ∷ int_of n ∷ x ∷ []) has)

one_held : (o : Option ℕ) (ty : Ty) (x : R.State) → held_by x o ≡ zero_value ty → HasValues ty → HeldIn (o ∷ []) (ty ∷ []) (zero_value ty ∷ []) x
one_held o ty x is has = record { values = λ k p at. values k p at; count = refl; typed = ap (λ t. t ∷ []) (zero_type ty has) }
  where
    values : (k : ℕ) (p : Option ℕ) → slice_get (o ∷ []) k ≡ Some p → slice_get (zero_value ty ∷ []) k ≡ Some (held_by x p)
    values zero p at = let s : Some o ≡ Some p = at in let e : o ≡ p = cc s in ap Some (sym is ∙ ap (held_by x) e)
    values (suc k) p at = absurd (cc at)

beside : (w j : ℕ) → j ≢ w → (j < w) ⊎ (w + 1 ≤ j)
beside w j ne = ⊎_elim (λ (l : j < w). inl l) (λ (h : w ≤ j). inr (omega (arith, h, ne))) (cases_lt j w)

with_then : (end : ExpressionEnd (List (List AnyValue))) (h : List (List AnyValue) → List AnyValue) (go : List AnyValue → State → StatementEnd) → with_value (then_value end (λ vss s1. Gives (h vss) s1)) go ≡ with_value end (λ vss s. go (h vss) s)
with_then (Gives vss s) h go = refl
with_then (Exits s) h go = refl
with_then (Spent s) h go = refl

-- ---- the declaration

module _ (b : Body) (result : List Ty) where
  -- Symbol w is the array, o a zero for it, k the counter, `one` a constant. A list has no more items than an int can count.
  pub array_code : (ops0 ops1 ops2 ops3 : List Op) (syms0 syms1 syms2 : List Symbol) (ps : List Place) (k0 w k one : ℕ) (o : Option ℕ) (ty : Ty) (sems : Inputs → List Meaning) → b.calm ≡ false → Room b syms0 → HasValues ty → IsOwn b w → AreLeaves b k0 w (ty ∷ []) → AreZeros syms2 (ty ∷ []) (o ∷ []) → AreSources b w 1 (o ∷ []) → AllSingle ps → ((i r : ℕ) → slice_get (firsts ps) i ≡ Some r → r ≢ w)
      → Extends syms1 syms2 → length syms1 ≤ k → IsVariable syms2 k (only Int) → IsConstant syms2 one (only Int) (int_of 1) → IsOwn b one → ((n : ℕ) → n ≤ length (firsts ps) → FitsSigned w32 (pos n))
      → ListCode b ops0 ops1 syms0 syms1 ps sems → MoveCode ops1 ops2 w (o ∷ []) → ElementsCode ops2 ops3 w ty k one (firsts ps)
      → StmtCode b result ops0 ops3 syms0 syms2 (λ inputs s. with_value (in_order (sems inputs) s (λ vss s1. Gives (listed b.structures (Value ty) vss) s1)) (λ vs s1. Next (write_leaves k0 vs s1)))
  array_code ops0 ops1 ops2 ops3 syms0 syms1 syms2 ps k0 w k one o ty sems loud room has own_w leaves zeros sources single_items apart more later counter const own_one_ small c mv el =
      let l0 = c.code.grows.ops.longer in let l1 = mv.grows.longer in let l2 = el.grows.longer in let ls = c.code.grows.syms.longer in
      let rw = room.within in
      let items = firsts ps in
      let to3 = extends_on ops1 ops2 ops3 mv.grows el.grows in
      record {
        grows = record { ops = extends_on ops0 ops1 ops3 c.code.grows.ops to3; syms = extends_on syms0 syms1 syms2 c.code.grows.syms more };
        runs = λ inputs from steps syms src cod wired cov ext rel.
            let ext1 = extends_on syms1 syms2 syms more ext in
            let roomS = room_later b syms0 syms (extends_on syms0 syms1 syms c.code.grows.syms ext1) room in
            let means = in_order_then (sems inputs) src (λ vss s1. Gives (listed b.structures (Value ty) vss) s1) in
            let value = c.code.runs inputs from steps syms tt src cod wired (covers_before syms steps ops1 ops3 (length ops0) (length ops0) (omega arith) to3 cov) ext1 rel tt in
            let go : List AnyValue → State → StatementEnd = λ vs s1. Next (write_leaves k0 vs s1) in
            subst (DoesCode b from steps syms (length syms0) result (length ops0) (length ops3) cod) (sym (ap (λ q. with_value q go) means ∙ with_then (in_order (sems inputs) src Gives) (listed b.structures (Value ty)) go)) (value_code b from steps syms (AllIn ps) result (length syms0) (length syms0) (length ops0) (length ops1) (length ops3) cod (in_order (sems inputs) src Gives) (λ vss s. Next (write_leaves k0 (listed b.structures (Value ty) vss) s)) (omega arith) to3.longer value (λ vss s x rel1 kept1 all.
            let vars = leaves_variables b syms k0 w (ty ∷ []) roomS leaves in
            let var : IsVariable syms w ty = (let e : w + 0 ≡ w = omega arith in subst (λ z. IsVariable syms z ty) e (vars.each 0 ty refl)) in
            let cov2 = covers_before syms steps ops2 ops3 (length ops0) (length ops1) l0 el.grows cov in
            let zero_is : held_by x o ≡ zero_value ty = zero_held syms2 syms (ty ∷ []) (o ∷ []) x 0 o ty zeros ext rel1.consts refl refl in
            let held : HeldIn (o ∷ []) (ty ∷ []) (zero_value ty ∷ []) x = one_held o ty x zero_is has in
            let did = block_moves b ops1 ops2 w (o ∷ []) (ty ∷ []) (zero_value ty ∷ []) inputs from steps syms x mv wired cov2 vars sources held in
            let y = did.0 in
            let yw : y.values w ≡ zero_value ty = (let e : w ≡ w + 0 = omega arith in ap y.values e ∙ did.2.inside.each 0 (zero_value ty) refl) in
            let yo : (j : ℕ) → j ≢ w → y.values j ≡ x.values j = λ j ne. did.2.outside j (beside w j ne) in
            let one_ne : one ≢ w = λ e. (let cs = constant_later syms2 syms one (only Int) (int_of 1) ext const in let q = one_apart b syms roomS w ty var one cs.symbol cs.here cs.const in absurd (omega (arith, q, e))) in
            let var_k = variable_later syms2 syms k (only Int) ext counter in
            let one_nk : one ≢ k = λ e. (let cs = constant_later syms2 syms one (only Int) (int_of 1) ext const in let q = one_apart b syms roomS k (only Int) var_k one cs.symbol cs.here cs.const in absurd (omega (arith, q, e))) in
            let low : w < k = (let q = (leaf_within b syms roomS (k0 + 0) (get_some b.types (k0 + 0) ty (leaves.typed 0 ty refl))).1 in let e = leaves.symbols 0 (omega arith) in omega (arith, q, e, rw, ls, later)) in
            let above : frame_end b ≤ k = omega (arith, rw, ls, later) in
            let can : CanCount from syms w ty k one items y = record {
              variable = var;
              counter = var_k;
              own = own_w inputs from wired;
              own_counter = above_own b syms roomS k above inputs from wired;
              apart = λ e. absurd (omega (arith, e, low));
              free = record { own = own_one_ inputs from wired; target = one_ne; counter = one_nk };
              items_free = λ i r at. record { own = own_at from items i r (all_own b inputs from items wired (all_unwired b (length syms1) ps single_items c.within)) at; target = apart i r at; counter = λ e. (let q = first_below b (length syms1) ps i r single_items c.within at in absurd (omega (arith, q, e, later))) };
              is_one = yo one one_ne ∙ constant_holds b syms one (only Int) (int_of 1) s x (constant_later syms2 syms one (only Int) (int_of 1) ext const) rel1;
              small = small;
            } in
            let next = el.runs from steps syms y (covers_before syms steps ops3 ops3 (length ops0) (length ops2) (omega (arith, l0, l1)) (extends_self ops3) cov) can in
            let u = next.0 in
            let p = next.2 in
            let whole = with_elements ty 0 (map single vss) (zero_value ty) in
            let u_is : u.values w ≡ whole
            = p.value
            ∙ ap (λ vs. with_elements ty 0 vs (y.values w)) (same_values items x y (λ i r at. yo r (apart i r at)) ∙ values_of ps vss x single_items all)
            ∙ ap (with_elements ty 0 (map single vss)) yw in
            let typed : type_of whole ≡ ty = elements_typed ty 0 (map single vss) (zero_value ty) has (zero_type ty has) in
            -- as if the counter had been written first
            let z = R.write k (int_of (length items)) (R.ticked x) in
            let wz = wrote_one k (int_of (length items)) x in
            let relz = related_temp b syms roomS k (int_of (length items) ∷ []) s x z above (one_apart b syms roomS k (only Int) var_k) wz rel1 in
            let zk : z.values k ≡ int_of (length items) = (let e : k ≡ k + 0 = omega arith in ap z.values e ∙ wz.inside.each 0 (int_of (length items)) refl) in
            let wr : Wrote w (whole ∷ []) z u = record {
              inside = (in_one w ty whole u u_is typed).held;
              outside = λ j out. ⊎_elim (λ (e : j ≡ k). ap u.values e ∙ p.counter ∙ sym zk ∙ ap z.values (sym e)) (λ (ne : j ≢ k). p.others j (λ e. absurd (omega (arith, e, out))) ne ∙ yo j (λ e. absurd (omega (arith, e, out))) ∙ sym (wz.outside j (beside k j ne))) (cases_eq j k);
              turns = p.turns ∙ did.2.turns;
              reads = p.reads ∙ did.2.reads;
            } in
            let tv : map type_of (whole ∷ []) ≡ ty ∷ [] = ap (λ t. t ∷ []) typed in (
              u,
              record {
                leads = leads_on from steps (length ops1) (length ops2) (length ops3) x y u l2 did.1 next.1;
                related = related_block b syms roomS k0 w (ty ∷ []) leaves (whole ∷ []) s z u tv wr relz;
                kept = kept_on b (length syms0) (length syms0) x z u (omega arith) (kept_temp b syms roomS (length syms0) k (int_of (length items) ∷ []) x z (omega (arith, ls, later)) wz) (kept_block b syms roomS k0 w (ty ∷ []) leaves (length syms0) (whole ∷ []) z u loud tv wr);
              },
            )));
      }
