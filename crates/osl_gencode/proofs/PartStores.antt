-- Writes of variables and of parts of them.
use Rattle.std.proofs.Common.{◌≡◌, ℕ, ◌+◌, ◌<◌, ◌≤◌, ◌≢◌, ◌⊎◌, inl, inr, ⊎_elim, List, [], ◌∷◌, ◌++◌, length, map, Some, true, false, refl, sym, ap, ◌∙◌, subst, arith}
use Rattle.std.specs.Prelude.{slice_get}
use Rattle.std.proofs.lemmas.Bool.{cases_lt, cases_eq, cond-true, cond-false}
use Rattle.std.proofs.lemmas.List.{length-map}
use Rattle.osl_value.specs.declared.op_name.OpName.{OpName}
use Rattle.osl_value.specs.declared.op_name.OpName.TheVariants.{ARef, AAssign, CompAssign, MxCompAssign}
use Rattle.osl_value.specs.declared.types.Base.TheVariants.{Matrix}
use Rattle.osl_value.specs.declared.types.Ty.{Ty}
use Rattle.osl_value.specs.AnyValue.{AnyValue, type_of, is_array, element_type}
use Rattle.osl_value.specs.Apply.{apply}
use Rattle.osl_value.specs.Table.{is_control, updates}
use Rattle.osl_value.specs.Types.{is_only}
use Rattle.oso_code.specs.declared.op.Op.{Op}
use Rattle.oso_code.specs.declared.symbol.Symbol.{Symbol}
use Rattle.oso_code.specs.Run as R
use Rattle.osl_typed.specs.State.{State, with_leaves, write_leaves}
use Rattle.osl_typed.specs.Parts.{with_selected}
use Rattle.osl_gencode.specs.Bodies.{is_const, IsVariable, Body, frame_end, symbol_of, global_of, Room, IsNew}
use Rattle.osl_gencode.specs.Relation.{Related, Kept}
use Rattle.osl_gencode.specs.RunEnds.{Leads}
use Rattle.osl_gencode.specs.PartCodes.{AllOwn, StoreCode, Stored, AllBelow}
use Rattle.osl_gencode.proofs.Growing.{extends_self, extends_on, extends_push, covers_before, at_push, push_length}
use Rattle.osl_gencode.proofs.RangeRuns.{put_same, put_other, leads_on, compute_leads}
use Rattle.osl_gencode.proofs.RelatedStates.{written_leaf, other_leaf, leaf_within, leaf_apart, global_apart, global_low}
use Rattle.osl_gencode.proofs.OneOp.{op_of, reading_step, updating_step}
use Rattle.osl_gencode.proofs.AndNode.{new_variable}

pub const_apart : (syms : List Symbol) (k w : ℕ) (symbol : Symbol) (ty : Ty) → IsVariable syms w ty → slice_get syms k ≡ Some symbol → is_const symbol.class ≡ true → k ≢ w
const_apart syms k w symbol ty v here is e = let h = v.here in let f = v.free in let q = ap (slice_get syms) e in absurd (cc (here, is, h, f, q))

-- one op
pub stored_one : (syms : List Symbol) (w : ℕ) (ty : Ty) (v : AnyValue) (s0 : ℕ) (x : R.State) → IsVariable syms w ty → Stored syms w v s0 x (R.write w v (R.ticked x))
stored_one syms w ty v s0 x var = record {
  value = put_same w v x.values;
  others = λ k lt ne. put_other w k v x.values ne;
  consts = λ k symbol here is. put_other w k v x.values (const_apart syms k w symbol ty var here is);
  turns = refl;
  reads = refl;
}

module _ (b : Body) (syms : List Symbol) (room : Room b syms) where
  -- a leaf of a variable is written on both sides
  pub related_stored : (s0 k : ℕ) (ty : Ty) (v : AnyValue) (src : State) (x y : R.State) → frame_end b ≤ s0 → k < length b.types → slice_get b.types k ≡ Some ty → type_of v ≡ ty → Stored syms (symbol_of b k) v s0 x y → Related b syms src x → Related b syms (write_leaves k (v ∷ []) src) y
  related_stored s0 k ty v src x y le lt at tv st r = record {
    vars = λ j h. ⊎_elim (λ (e : j ≡ k). ap (λ i. y.values (symbol_of b i)) e ∙ st.value ∙ sym (written j e)) (λ (ne : j ≢ k). (let q = (leaf_within b syms room j h).1 in st.others (symbol_of b j) (omega (arith, q, le)) (leaf_apart b syms room j k ne)) ∙ r.vars j h ∙ sym (other_leaf k (v ∷ []) src.vars j (beside j ne))) (cases_eq j k);
    typed = λ j ty' at'. ⊎_elim (λ (e : j ≡ k). ap type_of (written j e) ∙ tv ∙ (let q = ap (slice_get b.types) e in cc (q, at, at'))) (λ (ne : j ≢ k). ap type_of (other_leaf k (v ∷ []) src.vars j (beside j ne)) ∙ r.typed j ty' at') (cases_eq j k);
    globals = λ g. (let q = global_low b syms room g in st.others (global_of b g) (omega (arith, q, le)) (global_apart b syms room g k)) ∙ r.globals g;
    global_types = r.global_types;
    turns = st.turns ∙ r.turns;
    reads = st.reads ∙ r.reads;
    consts = λ i symbol here is. st.consts i symbol here is ∙ r.consts i symbol here is;
  }
    where
      written : (j : ℕ) → j ≡ k → with_leaves k (v ∷ []) src.vars j ≡ v
      written j e = let q : j ≡ k + 0 = omega (arith, e) in ap (with_leaves k (v ∷ []) src.vars) q ∙ written_leaf k (v ∷ []) src.vars 0 v refl

      beside : (j : ℕ) → j ≢ k → (j < k) ⊎ (k + 1 ≤ j)
      beside j ne = ⊎_elim (λ (l : j < k). inl l) (λ (h : k ≤ j). inr (omega (arith, h, ne))) (cases_lt j k)

  pub kept_stored : (s0 k : ℕ) (v : AnyValue) (x y : R.State) → b.calm ≡ false → k < length b.types → Stored syms (symbol_of b k) v s0 x y → Kept b s0 x y
  kept_stored s0 k v x y loud lt st =
      let p = leaf_within b syms room k lt in let p0 = p.0 in let p1 = p.1 in
      record { keeps = λ j h o. st.others j h (λ e. absurd (omega (arith, e, p0, p1, o))); all = λ calm j h. absurd (cc (calm, loud)) }

-- ---- one op

module _ (ops : List Op) (syms0 : List Symbol) (w : ℕ) (ty : Ty) where
  -- an operation that reads what it writes, on indices and then the value
  store_op : (name : OpName) (rs : List ℕ) (x : ℕ) → is_control name ≡ false → updates name ≡ true → ((v : AnyValue) (is : List AnyValue) (xv : AnyValue) → length is ≡ length rs → apply name ty (v ∷ (is ++ xv ∷ [])) ≡ with_selected ty v is xv) → StoreCode ops (ops ++ op_of name w (rs ++ x ∷ []) ∷ []) syms0 syms0 w ty rs x
  store_op name rs x plain reads means =
      let op = op_of name w (rs ++ x ∷ []) in
      record {
        grows = record { ops = extends_push ops op; syms = extends_self syms0 };
        runs = λ from steps syms old cov ext var own owns ownx above lw lx ne below.
            let at = at_push syms steps ops op (length ops) (omega arith) cov ∙ ap Some (updating_step syms (length ops) name w ty (rs ++ x ∷ []) plain reads var) in
            let moves = compute_leads from steps (length ops) w name ty (w ∷ (rs ++ x ∷ [])) old at (own, own_snoc from rs x owns ownx) in
            let v = apply name ty (map old.values (w ∷ (rs ++ x ∷ []))) in
            let eq : v ≡ with_selected ty (old.values w) (map old.values rs) (old.values x) = ap (λ l. apply name ty (old.values w ∷ l)) (map_snoc old.values rs x) ∙ means (old.values w) (map old.values rs) (old.values x) (length-map rs old.values) in
            (R.write w v (R.ticked old), subst (λ z. Leads from steps (length ops) z old (R.write w v (R.ticked old))) (sym (push_length ops op)) moves, subst (λ z. Stored syms w z (length syms0) old (R.write w v (R.ticked old))) eq (stored_one syms w ty v (length syms0) old var));
      }
    where
      own_snoc : (from : R.Sources) (rs : List ℕ) (x : ℕ) → AllOwn from rs → from x ≡ R.Own → AllOwn from (rs ++ x ∷ [])
      own_snoc from [] x all own = (own, tt)
      own_snoc from (r ∷ rs) x all own = (all.0, own_snoc from rs x all.1 own)

      map_snoc : (f : ℕ → AnyValue) (rs : List ℕ) (x : ℕ) → map f (rs ++ x ∷ []) ≡ map f rs ++ f x ∷ []
      map_snoc f [] x = refl
      map_snoc f (r ∷ rs) x = ap (λ l. f r ∷ l) (map_snoc f rs x)

  -- the element of an array
  pub store_element : (i x : ℕ) → is_array ty ≡ true → StoreCode ops (ops ++ op_of AAssign w (i ∷ x ∷ []) ∷ []) syms0 syms0 w ty (i ∷ []) x
  unfolding with_selected
  store_element i x is = store_op AAssign (i ∷ []) x refl refl (element is)
    where
      element : is_array ty ≡ true → (v : AnyValue) (is : List AnyValue) (xv : AnyValue) → length is ≡ 1 → apply AAssign ty (v ∷ (is ++ xv ∷ [])) ≡ with_selected ty v is xv
      element is v [] xv one = absurd (omega (arith, one))
      element is v (j ∷ []) xv one = sym (cond-true _ _ _ is)
      element is v (j ∷ (k ∷ more)) xv one = absurd (omega (arith, one))

  -- the component of a triple
  pub store_component : (i x : ℕ) → is_array ty ≡ false → is_only Matrix ty ≡ false → StoreCode ops (ops ++ op_of CompAssign w (i ∷ x ∷ []) ∷ []) syms0 syms0 w ty (i ∷ []) x
  unfolding with_selected
  store_component i x flat none = store_op CompAssign (i ∷ []) x refl refl (component flat none)
    where
      component : is_array ty ≡ false → is_only Matrix ty ≡ false → (v : AnyValue) (is : List AnyValue) (xv : AnyValue) → length is ≡ 1 → apply CompAssign ty (v ∷ (is ++ xv ∷ [])) ≡ with_selected ty v is xv
      component flat none v [] xv one = absurd (omega (arith, one))
      component flat none v (j ∷ []) xv one = sym (cond-false _ _ _ flat ∙ cond-false _ _ _ none)
      component flat none v (j ∷ (k ∷ more)) xv one = absurd (omega (arith, one))

  -- the element of a matrix
  pub store_matrix : (i j x : ℕ) → is_array ty ≡ false → is_only Matrix ty ≡ true → StoreCode ops (ops ++ op_of MxCompAssign w (i ∷ j ∷ x ∷ []) ∷ []) syms0 syms0 w ty (i ∷ j ∷ []) x
  unfolding with_selected
  store_matrix i j x flat is = store_op MxCompAssign (i ∷ j ∷ []) x refl refl (matrix flat is)
    where
      matrix : is_array ty ≡ false → is_only Matrix ty ≡ true → (v : AnyValue) (is : List AnyValue) (xv : AnyValue) → length is ≡ 2 → apply MxCompAssign ty (v ∷ (is ++ xv ∷ [])) ≡ with_selected ty v is xv
      matrix flat is v [] xv two = absurd (omega (arith, two))
      matrix flat is v (i ∷ []) xv two = absurd (omega (arith, two))
      matrix flat is v (i ∷ (j ∷ [])) xv two = sym (cond-false _ _ _ flat ∙ cond-true _ _ _ is)
      matrix flat is v (i ∷ (j ∷ (k ∷ more))) xv two = absurd (omega (arith, two))

  -- ---- a part of an element: the element is read, written and put back

  pub store_inside : (ops1 : List Op) (syms1 : List Symbol) (st : Symbol) (i : ℕ) (rs : List ℕ) (x : ℕ) → is_array ty ≡ true → IsNew st (element_type ty) → StoreCode (ops ++ op_of ARef (length syms0) (w ∷ i ∷ []) ∷ []) ops1 (syms0 ++ st ∷ []) syms1 (length syms0) (element_type ty) rs x → StoreCode ops (ops1 ++ op_of AAssign w (i ∷ length syms0 ∷ []) ∷ []) syms0 syms1 w ty (i ∷ rs) x
  unfolding with_selected
  store_inside ops1 syms1 st i rs x is new c =
      let t = length syms0 in
      let el = element_type ty in
      let first = op_of ARef t (w ∷ i ∷ []) in
      let last = op_of AAssign w (i ∷ t ∷ []) in
      let opsF = ops ++ first ∷ [] in
      let opsL = ops1 ++ last ∷ [] in
      let lF = push_length ops first in let lL = push_length ops1 last in let lC = c.grows.ops.longer in
      let kT = push_length syms0 st in let kC = c.grows.syms.longer in
      record {
        grows = record { ops = extends_on ops opsF opsL (extends_push ops first) (extends_on opsF ops1 opsL c.grows.ops (extends_push ops1 last)); syms = extends_on syms0 (syms0 ++ st ∷ []) syms1 (extends_push syms0 st) c.grows.syms };
        runs = λ from steps syms old cov ext var own owns ownx above lw lx ne below.
            let extT = extends_on (syms0 ++ st ∷ []) syms1 syms c.grows.syms ext in
            let varT = new_variable syms0 syms st el new extT in
            let cov1 = covers_before syms steps ops1 opsL (length ops) (length ops) (omega arith) (extends_push ops1 last) cov in
            let covF = covers_before syms steps opsF ops1 (length ops) (length ops) (omega arith) c.grows.ops cov1 in
            let covC = covers_before syms steps ops1 ops1 (length ops) (length opsF) (omega (arith, lF)) (extends_self ops1) cov1 in
            let atF = at_push syms steps ops first (length ops) (omega arith) covF ∙ ap Some (reading_step syms (length ops) ARef t el (w ∷ i ∷ []) refl refl varT) in
            let atL = at_push syms steps ops1 last (length ops) (omega (arith, lF, lC)) cov ∙ ap Some (updating_step syms (length ops1) AAssign w ty (i ∷ t ∷ []) refl refl var) in
            let v1 = apply ARef el (old.values w ∷ old.values i ∷ []) in
            let y1 = R.write t v1 (R.ticked old) in
            let moves1 = compute_leads from steps (length ops) t ARef el (w ∷ i ∷ []) old atF (own, (owns.0, tt)) in
            let ne_t : (k : ℕ) → k < t → k ≢ t = λ k lt e. absurd (omega (arith, lt, e)) in
            let same1 : (k : ℕ) → k < t → y1.values k ≡ old.values k = λ k lt. put_other t k v1 old.values (ne_t k lt) in
            let inner = c.runs from steps syms y1 covC ext varT (above t (omega arith)) owns.1 ownx (λ k l. above k (omega (arith, l, kT))) (omega (arith, kT)) (omega (arith, lx, kT)) (ne_t x lx) (deeper t (length (syms0 ++ st ∷ [])) w rs (omega (arith, kT)) below.2) in
            let y2 = inner.0 in
            let did = inner.2 in
            let same2 : (k : ℕ) → k < t → y2.values k ≡ old.values k = λ k lt. did.others k (omega (arith, lt, kT)) (ne_t k lt) ∙ same1 k lt in
            let v3 = apply AAssign ty (y2.values w ∷ y2.values i ∷ y2.values t ∷ []) in
            let y3 = R.write w v3 (R.ticked y2) in
            let moves3 = compute_leads from steps (length ops1) w AAssign ty (w ∷ i ∷ t ∷ []) y2 atL (own, (owns.0, (above t (omega arith), tt))) in
            let goal = with_selected el v1 (map old.values rs) (old.values x) in
            let t_is : y2.values t ≡ goal = did.value ∙ ap (λ z. with_selected el z (map y1.values rs) (y1.values x)) (put_same t v1 old.values) ∙ ap (λ z. with_selected el v1 z (y1.values x)) (map_same t w rs y1 old same1 below.2) ∙ ap (with_selected el v1 (map old.values rs)) (same1 x lx) in
            let eq : v3 ≡ with_selected ty (old.values w) (old.values i ∷ map old.values rs) (old.values x) = ap (λ z. apply AAssign ty (z ∷ y2.values i ∷ y2.values t ∷ [])) (same2 w lw) ∙ ap (λ z. apply AAssign ty (old.values w ∷ z ∷ y2.values t ∷ [])) (same2 i below.0) ∙ ap (λ z. apply AAssign ty (old.values w ∷ old.values i ∷ z ∷ [])) t_is ∙ sym (cond-true _ _ _ is) in
            let path = leads_on from steps (length ops) (length ops1) (length ops1 + 1) old y2 y3 (omega arith) (leads_on from steps (length ops) (length opsF) (length ops1) old y1 y2 lC (subst (λ z. Leads from steps (length ops) z old y1) (sym lF) moves1) inner.1) moves3 in (
              y3,
              subst (λ z. Leads from steps (length ops) z old y3) (sym lL) path,
              record {
                value = put_same w v3 y2.values ∙ eq;
                others = λ k lt kne. put_other w k v3 y2.values kne ∙ same2 k lt;
                consts = λ k symbol here isc. put_other w k v3 y2.values (const_apart syms k w symbol ty var here isc) ∙ did.consts k symbol here isc ∙ put_other t k v1 old.values (const_apart syms k t symbol el varT here isc);
                turns = did.turns;
                reads = did.reads;
              },
            );
      }
    where
      deeper : (n n1 w : ℕ) (rs : List ℕ) → n < n1 → AllBelow n w rs → AllBelow n1 n rs
      deeper n n1 w [] lt all = tt
      deeper n n1 w (r ∷ rs) lt all = let a = all.0 in (omega (arith, a, lt), (λ e. absurd (omega (arith, a, e))), deeper n n1 w rs lt all.2)

      map_same : (n w : ℕ) (rs : List ℕ) (y x : R.State) → ((k : ℕ) → k < n → y.values k ≡ x.values k) → AllBelow n w rs → map y.values rs ≡ map x.values rs
      map_same n w [] y x same all = refl
      map_same n w (r ∷ rs) y x same all = ap (λ v. v ∷ map y.values rs) (same r all.0) ∙ ap (λ l. x.values r ∷ l) (map_same n w rs y x same all.2)
