-- A block of symbols is filled by one op each: a value that is in another symbol is assigned, and a closure without a source is made empty, since no constant is a closure.
use Rattle.std.proofs.Common.{◌≡◌, ℕ, zero, suc, ◌+◌, ◌<◌, ◌≤◌, ◌⊎◌, inl, inr, ⊎_elim, List, [], ◌∷◌, ◌++◌, length, map, Option, Some, None, true, false, refl, sym, ap, ◌∙◌, subst, arith}
use Rattle.std.specs.Prelude.{slice_get}
use Rattle.std.proofs.lemmas.Bool.{cases_lt}
use Rattle.std.proofs.lemmas.List.{length-map}
use Rattle.osl_value.specs.declared.op_name.OpName.{OpName}
use Rattle.osl_value.specs.declared.op_name.OpName.TheVariants.{Assign, Empty}
use Rattle.osl_value.specs.declared.types.Base.TheVariants.{Closure}
use Rattle.osl_value.specs.declared.types.Ty.{Ty}
use Rattle.osl_value.specs.AnyValue.{AnyValue, Parts, type_of}
use Rattle.osl_value.specs.Apply.{apply}
use Rattle.osl_value.specs.Table.{is_control, updates}
use Rattle.osl_value.specs.Types.{only}
use Rattle.osl_layer.specs.Layer.{Inputs}
use Rattle.oso_code.specs.declared.op.Op.{Op}
use Rattle.oso_code.specs.declared.symbol.Symbol.{Symbol}
use Rattle.oso_code.specs.Run as R
use Rattle.oso_code.specs.Steps.{Step}
use Rattle.osl_typed.specs.State.{State, Gives, with_leaves, write_leaves}
use Rattle.osl_typed.specs.Expressions.{Meaning}
use Rattle.osl_layer.specs.declared.global.GlobalName.{GlobalName}
use Rattle.osl_gencode.specs.PartCodes.{AllOwn}
use Rattle.osl_gencode.specs.Relation.{Wired, IsOwn, In, Related, Kept}
use Rattle.osl_gencode.specs.Growth.{Extends, Covers}
use Rattle.osl_gencode.specs.Codes.{ExprCode, Anything, Code}
use Rattle.osl_gencode.specs.Bodies.{frame_end, IsVariable, Room, is_const, symbol_of, Body, global_of}
use Rattle.osl_gencode.specs.RunEnds.{GivesCode, Leads}
use Rattle.osl_gencode.proofs.Growing.{variable_later, covers_before, extends_on, push_length, get_left, get_there, at_push, extends_self, get_some, get_seam, extends_push}
use Rattle.osl_gencode.proofs.RelatedStates.{global_apart, related_temp, kept_temp, Wrote, other_leaf, leaf_apart, written_leaf, leaf_within, room_later}
use Rattle.osl_gencode.proofs.OpValues.{emptied, copied}
use Rattle.osl_gencode.proofs.OneOp.{op_of, reading_step}
use Rattle.osl_gencode.proofs.Sequels.{gives_less, gives_back, seq_code}
use Rattle.osl_gencode.proofs.RangeRuns.{put_same, put_other, compute_leads, leads_on, leads_self}

-- ---- one symbol

-- what a symbol is filled from: another symbol, or nothing
abbrev pub held_by : R.State → Option ℕ → AnyValue
held_by x None = Parts []
held_by x (Some r) = x.values r

abbrev pub fill_name : Option ℕ → OpName
fill_name None = Empty
fill_name (Some r) = Assign

abbrev pub fill_args : Option ℕ → List ℕ
fill_args None = []
fill_args (Some r) = r ∷ []

-- the op that fills symbol w
abbrev pub fill_op : ℕ → Option ℕ → Op
fill_op w o = op_of (fill_name o) w (fill_args o)

fill_plain : (o : Option ℕ) → (is_control (fill_name o) ≡ false) × (updates (fill_name o) ≡ false)
fill_plain None = (refl, refl)
fill_plain (Some r) = (refl, refl)

fill_value : (o : Option ℕ) (old y : R.State) → ((r : ℕ) → o ≡ Some r → y.values r ≡ old.values r) → apply (fill_name o) (type_of (held_by old o)) (map y.values (fill_args o)) ≡ held_by old o
fill_value None old y same = emptied (only Closure) refl
fill_value (Some r) old y same = ap (λ z. apply Assign (type_of (old.values r)) (z ∷ [])) (same r refl) ∙ copied (old.values r) (type_of (old.values r)) refl

fill_own : (from : R.Sources) (o : Option ℕ) → ((r : ℕ) → o ≡ Some r → from r ≡ R.Own) → AllOwn from (fill_args o)
fill_own from None own = tt
fill_own from (Some r) own = (own r refl, tt)

-- ---- blocks

-- the symbols from w on got what was in these
pub record Moved (w : ℕ) (rs : List (Option ℕ)) (old new : R.State) : Type 0 where
  pub inside : (k : ℕ) (o : Option ℕ) → slice_get rs k ≡ Some o → new.values (w + k) ≡ held_by old o
  pub outside : (k : ℕ) → (k < w) ⊎ (w + length rs ≤ k) → new.values k ≡ old.values k
  pub turns : new.turns ≡ old.turns
  pub reads : new.reads ≡ old.reads

-- what is asked: each target has the type of the value that goes there, and no source is a target
pub record CanMove (from : R.Sources) (syms : List Symbol) (w : ℕ) (rs : List (Option ℕ)) (old : R.State) : Type 0 where
  pub typed : (k : ℕ) (o : Option ℕ) → slice_get rs k ≡ Some o → IsVariable syms (w + k) (type_of (held_by old o))
  pub own : (k r : ℕ) → slice_get rs k ≡ Some (Some r) → from r ≡ R.Own
  pub apart : (k r : ℕ) → slice_get rs k ≡ Some (Some r) → (r < w) ⊎ (w + length rs ≤ r)

-- the ops that were added fill the symbols from w on
pub record MoveCode (ops0 ops1 : List Op) (w : ℕ) (rs : List (Option ℕ)) : Type 0 where
  pub grows : Extends ops0 ops1
  pub runs : (from : R.Sources) (steps : List Step) (syms : List Symbol) (old : R.State) → Covers syms steps ops1 (length ops0) → CanMove from syms w rs old → (new : R.State) × Leads from steps (length ops0) (length ops1) old new × Moved w rs old new

pub move_none : (ops : List Op) (w : ℕ) → MoveCode ops ops w []
move_none ops w = record {
  grows = extends_self ops;
  runs = λ from steps syms old cov can. (old, leads_self from steps (length ops) old, record { inside = λ k r at. absurd (cc at); outside = λ k o. refl; turns = refl; reads = refl });
}

pub move_more : (ops0 ops1 : List Op) (w : ℕ) (o : Option ℕ) (rs : List (Option ℕ)) → MoveCode ops0 ops1 w rs → MoveCode ops0 (ops1 ++ fill_op (w + length rs) o ∷ []) w (rs ++ o ∷ [])
move_more ops0 ops1 w o rs c =
    let n = length rs in
    let op = fill_op (w + n) o in
    let l = c.grows.longer in
    let lr = push_length rs o in
    record {
      grows = extends_on ops0 ops1 (ops1 ++ op ∷ []) c.grows (extends_push ops1 op);
      runs = λ from steps syms old cov can.
          let here : slice_get (rs ++ o ∷ []) n ≡ Some o = get_seam rs o in
          let can0 : CanMove from syms w rs old = record { typed = λ k q at. can.typed k q (left k q at); own = λ k q at. can.own k q (left k (Some q) at); apart = λ k q at. (⊎_elim (λ l. inl l) (λ g. inr (omega (arith, g, lr))) (can.apart k q (left k (Some q) at))) } in
          let did = c.runs from steps syms old (covers_before syms steps ops1 (ops1 ++ op ∷ []) (length ops0) (length ops0) (omega arith) (extends_push ops1 op) cov) can0 in
          let y = did.0 in
          let m = did.2 in
          let same : (r : ℕ) → o ≡ Some r → y.values r ≡ old.values r = λ r e. m.outside r (⊎_elim (λ l. inl l) (λ g. inr (omega (arith, g, lr))) (can.apart n r (here ∙ ap Some e))) in
          let ty = type_of (held_by old o) in
          let v = apply (fill_name o) ty (map y.values (fill_args o)) in
          let v_is : v ≡ held_by old o = fill_value o old y same in
          let z = R.write (w + n) v (R.ticked y) in
          let p = fill_plain o in
          let at = at_push syms steps ops1 op (length ops0) l cov ∙ ap Some (reading_step syms (length ops1) (fill_name o) (w + n) ty (fill_args o) p.0 p.1 (can.typed n o here)) in
          let moves = compute_leads from steps (length ops1) (w + n) (fill_name o) ty (fill_args o) y at (fill_own from o (λ r e. can.own n r (here ∙ ap Some e))) in (
            z,
            subst (λ q. Leads from steps (length ops0) q old z) (sym (push_length ops1 op)) (leads_on from steps (length ops0) (length ops1) (length ops1 + 1) old y z (omega arith) did.1 moves),
            record {
              inside = λ k q in_. ⊎_elim (λ (lt : k < n). put_other (w + n) (w + k) v y.values (λ e. absurd (omega (arith, e, lt))) ∙ m.inside k q (sym (get_left rs (o ∷ []) k lt) ∙ in_)) (λ (le : n ≤ k). let b = get_some (rs ++ o ∷ []) k q in_ in let e : k ≡ n = omega (arith, le, b, lr) in let same_o = last k q e in_ in ap (λ j. z.values (w + j)) e ∙ put_same (w + n) v y.values ∙ v_is ∙ ap (held_by old) same_o) (cases_lt k n);
              outside = λ k h. put_other (w + n) k v y.values (λ e. absurd (omega (arith, e, h, lr))) ∙ m.outside k (⊎_elim (λ a. inl a) (λ g. inr (omega (arith, g, lr))) h);
              turns = m.turns;
              reads = m.reads;
            },
          );
    }
  where
    left : (k : ℕ) (q : Option ℕ) → slice_get rs k ≡ Some q → slice_get (rs ++ o ∷ []) k ≡ Some q
    left k q at = get_left rs (o ∷ []) k (get_some rs k q at) ∙ at

    last : (k : ℕ) (q : Option ℕ) → k ≡ length rs → slice_get (rs ++ o ∷ []) k ≡ Some q → o ≡ q
    last k q e at = let s : Some o ≡ Some q = sym (get_seam rs o) ∙ ap (slice_get (rs ++ o ∷ [])) (sym e) ∙ at in cc s

-- ---- blocks of variables

-- the symbols from w on are variables of these types
pub record AreVariables (syms : List Symbol) (w : ℕ) (types : List Ty) : Type 0 where
  pub each : (k : ℕ) (ty : Ty) → slice_get types k ≡ Some ty → IsVariable syms (w + k) ty

pub variables_later : (syms syms1 : List Symbol) (w : ℕ) (types : List Ty) → Extends syms syms1 → AreVariables syms w types → AreVariables syms1 w types
variables_later syms syms1 w types ext vars = record { each = λ k ty at. variable_later syms syms1 (w + k) ty ext (vars.each k ty at) }

pub le_gap : (n k : ℕ) → n ≤ k → (d : ℕ) × (k ≡ n + d)
le_gap zero k le = (k, omega arith)
le_gap (suc n) zero le = absurd (omega (arith, le))
le_gap (suc n) (suc k) le = let p = le_gap n k (omega (arith, le)) in let e = p.1 in (p.0, omega (arith, e))

-- no constant is in the block
pub consts_apart : (syms : List Symbol) (w : ℕ) (types : List Ty) → AreVariables syms w types → (k : ℕ) (symbol : Symbol) → slice_get syms k ≡ Some symbol → is_const symbol.class ≡ true → (k < w) ⊎ (w + length types ≤ k)
consts_apart syms w types vars k symbol here is =
    ⊎_elim (λ (l : k < w). inl l) (λ (h : w ≤ k). ⊎_elim (λ (l : k < w + length types). let d = le_gap w k h in absurd (not_inside (d.0) (d.1) (let e = d.1 in omega (arith, e, l)))) (λ g. inr g) (cases_lt k (w + length types))) (cases_lt k w)
  where
    not_inside : (j : ℕ) → k ≡ w + j → j < length types → ⊥
    not_inside j e lt =
        let t = get_there types j lt in
        let v = vars.each j (t.0) (t.1) in
        let h = v.here in let f = v.free in let q = ap (slice_get syms) e in absurd (cc (here, is, h, f, q))

-- the values that are in these symbols, with their types
pub record HeldIn (rs : List (Option ℕ)) (types : List Ty) (vs : List AnyValue) (x : R.State) : Type 0 where
  pub values : (k : ℕ) (o : Option ℕ) → slice_get rs k ≡ Some o → slice_get vs k ≡ Some (held_by x o)
  pub count : length rs ≡ length vs
  pub typed : map type_of vs ≡ types

leaf_type : (vs : List AnyValue) (types : List Ty) (k : ℕ) (v : AnyValue) → map type_of vs ≡ types → slice_get vs k ≡ Some v → slice_get types k ≡ Some (type_of v)
leaf_type [] types k v e at = absurd (cc at)
leaf_type (u ∷ vs) types zero v e at = let s : Some u ≡ Some v = at in ap (λ z. slice_get z 0) (sym e) ∙ ap (λ o. elim o [ None ↦ None | Some w ↦ Some (type_of w) ]) s
leaf_type (u ∷ vs) types (suc k) v e at = ap (λ z. slice_get z (suc k)) (sym e) ∙ leaf_type vs (map type_of vs) k v refl at

-- sources that a block may be filled from
pub record AreSources (b : Body) (w n : ℕ) (rs : List (Option ℕ)) : Type 0 where
  pub own : (k r : ℕ) → slice_get rs k ≡ Some (Some r) → IsOwn b r
  pub apart : (k r : ℕ) → slice_get rs k ≡ Some (Some r) → (r < w) ⊎ (w + n ≤ r)

module _ (b : Body) where
  -- the block got the values
  pub block_moves : (ops0 ops1 : List Op) (w : ℕ) (rs : List (Option ℕ)) (types : List Ty) (vs : List AnyValue) (inputs : Inputs) (from : R.Sources) (steps : List Step) (syms : List Symbol) (x : R.State) → MoveCode ops0 ops1 w rs → Wired b inputs from → Covers syms steps ops1 (length ops0) → AreVariables syms w types → AreSources b w (length types) rs → HeldIn rs types vs x → (y : R.State) × Leads from steps (length ops0) (length ops1) x y × Wrote w vs x y
  block_moves ops0 ops1 w rs types vs inputs from steps syms x c wired cov vars src held =
      let n : length vs ≡ length types = sym (length-map vs type_of) ∙ ap length held.typed in
      let m = held.count in
      let can : CanMove from syms w rs x = record {
        typed = λ k o at. vars.each k (type_of (held_by x o)) (leaf_type vs types k (held_by x o) held.typed (held.values k o at));
        own = λ k r at. src.own k r at inputs from wired;
        apart = λ k r at. (⊎_elim (λ l. inl l) (λ g. inr (omega (arith, g, n, m))) (src.apart k r at));
      } in
      let did = c.runs from steps syms x cov can in (
        did.0,
        did.1,
        record {
          inside = record { each = λ k v at. let lt = get_some vs k v at in let o = get_there rs k (omega (arith, lt, m)) in did.2.inside k (o.0) (o.1) ∙ same_some (held_by x (o.0)) v (sym (held.values k (o.0) (o.1)) ∙ at) };
          outside = λ k h. did.2.outside k (⊎_elim (λ l. inl l) (λ g. inr (omega (arith, g, m))) h);
          turns = did.2.turns;
          reads = did.2.reads;
        },
      )
    where
      same_some : (u v : AnyValue) → Some u ≡ Some v → u ≡ v
      same_some u v e = cc e

-- ---- rows

-- these are the n symbols from r on
pub record IsRow (rs : List (Option ℕ)) (r n : ℕ) : Type 0 where
  pub count : length rs ≡ n
  pub each : (k : ℕ) (o : Option ℕ) → slice_get rs k ≡ Some o → o ≡ Some (r + k)

pub row_held : (rs : List (Option ℕ)) (r : ℕ) (types : List Ty) (vs : List AnyValue) (x : R.State) → IsRow rs r (length types) → In r types vs x → HeldIn rs types vs x
row_held rs r types vs x row p =
    let n : length vs ≡ length types = sym (length-map vs type_of) ∙ ap length p.typed in
    let m = row.count in
    record {
      values = λ k o at. let lt = get_some rs k o at in let v = get_there vs k (omega (arith, lt, n, m)) in v.1 ∙ ap Some (sym (ap (held_by x) (row.each k o at) ∙ p.held.each k (v.0) (v.1)));
      count = omega (arith, n, m);
      typed = p.typed;
    }

pub row_sources : (b : Body) (w r n : ℕ) (rs : List (Option ℕ)) → IsRow rs r n → ((k : ℕ) → k < n → IsOwn b (r + k)) → (r + n ≤ w) ⊎ (w + n ≤ r) → AreSources b w n rs
row_sources b w r n rs row own apart =
    let m = row.count in
    record {
      own = λ k q at. let lt = get_some rs k (Some q) at in subst (IsOwn b) (same (row.each k (Some q) at)) (own k (omega (arith, lt, m)));
      apart = λ k q at. let lt = get_some rs k (Some q) at in let e = same (row.each k (Some q) at) in ⊎_elim (λ l. inl (omega (arith, l, lt, m, e))) (λ g. inr (omega (arith, g, e))) apart;
    }
  where
    same : {u v : ℕ} → Some u ≡ Some v → v ≡ u
    same e = cc e

-- ---- a value is moved into a block of its own

module _ (b : Body) where
  -- The value of an expression is in the symbols from t on, which are older than its code and later than those that are to be kept: so both ways of a choice give it in the same place.
  pub moved_code : (ops0 ops1 ops2 : List Op) (syms0 symsT syms1 : List Symbol) (r t : ℕ) (types : List Ty) (rs : List (Option ℕ)) (sem : Inputs → Meaning) → Room b syms0 → Extends syms0 symsT → length syms0 ≤ t → AreVariables symsT t types → IsRow rs r (length types) → (r + length types ≤ t) ⊎ (t + length types ≤ r) → ExprCode b ops0 ops1 symsT syms1 r types sem → MoveCode ops1 ops2 t rs → Code b ops0 ops2 syms0 syms1 Anything (In t types) (λ inputs a. sem inputs)
  moved_code ops0 ops1 ops2 syms0 symsT syms1 r t types rs sem room ext0 later vars row apart c m =
      let l0 = c.code.grows.ops.longer in let l1 = m.grows.longer in let rw = room.within in let l = ext0.longer in
      record {
        grows = record { ops = extends_on ops0 ops1 ops2 c.code.grows.ops m.grows; syms = extends_on syms0 symsT syms1 ext0 c.code.grows.syms };
        runs = λ inputs from steps syms a src cod wired cov ext rel nothing.
            let extT = extends_on symsT syms1 syms c.code.grows.syms ext in
            let roomS = room_later b syms0 syms (extends_on syms0 symsT syms ext0 extT) room in
            let ran = c.code.runs inputs from steps syms tt src cod wired (covers_before syms steps ops1 ops2 (length ops0) (length ops0) (omega arith) m.grows cov) ext rel tt in
            let ran1 = gives_less b from steps syms (In r types) (length syms0) (length symsT) (length ops0) (length ops1) cod (sem inputs src) l l0 ran in
            subst (GivesCode b from steps syms (length syms0) (In t types) (length ops0) (length ops2) cod) (gives_back (sem inputs src)) (
            seq_code b from steps syms (In r types) (In t types) (length syms0) (length syms0) (length ops0) (length ops1) (length ops2) cod (sem inputs src) (λ v s. Gives v s) (omega arith) l1 ran1 (λ v s x rel1 kept1 p.
            let varsS = variables_later symsT syms t types extT vars in
            let did = block_moves b ops1 ops2 t rs types v inputs from steps syms x m wired (covers_before syms steps ops2 ops2 (length ops0) (length ops1) l0 (extends_self ops2) cov) varsS (row_sources b t r (length types) rs row c.own apart) (row_held rs r types v x row p) in
            let n : length v ≡ length types = sym (length-map v type_of) ∙ ap length p.typed in (
              did.0,
              record {
                leads = did.1;
                related = related_temp b syms roomS t v s x did.0 (omega (arith, rw, later)) (λ k symbol here is. ⊎_elim (λ a. inl a) (λ g. inr (omega (arith, g, n))) (consts_apart syms t types varsS k symbol here is)) did.2 rel1;
                kept = kept_temp b syms roomS (length syms0) t v x did.0 later did.2;
              },
              record { held = did.2.inside; typed = p.typed },
            )));
      }

-- ---- a value is written into a variable

-- these leaves of the frame are a row of symbols
pub record AreLeaves (b : Body) (k0 w : ℕ) (types : List Ty) : Type 0 where
  pub typed : (j : ℕ) (ty : Ty) → slice_get types j ≡ Some ty → slice_get b.types (k0 + j) ≡ Some ty
  pub symbols : (j : ℕ) → j < length types → symbol_of b (k0 + j) ≡ w + j

pub leaves_variables : (b : Body) (syms : List Symbol) (k0 w : ℕ) (types : List Ty) → Room b syms → AreLeaves b k0 w types → AreVariables syms w types
leaves_variables b syms k0 w types room leaves = record { each = λ j ty at. subst (λ z. IsVariable syms z ty) (leaves.symbols j (get_some types j ty at)) (room.leaves (k0 + j) ty (leaves.typed j ty at)) }

module _ (b : Body) (syms : List Symbol) (room : Room b syms) (k0 w : ℕ) (types : List Ty) (leaves : AreLeaves b k0 w types) where
  pub related_block : (vs : List AnyValue) (src : State) (x y : R.State) → map type_of vs ≡ types → Wrote w vs x y → Related b syms src x → Related b syms (write_leaves k0 vs src) y
  related_block vs src x y tv wr rel =
      let n : length vs ≡ length types = sym (length-map vs type_of) ∙ ap length tv in
      record {
        vars = λ k h. by_place k h (place k);
        typed = λ k ty at. typed_by k ty at (place k);
        globals = λ g. wr.outside (global_of b g) (global_away n g (spot n (global_of b g))) ∙ rel.globals g;
        global_types = rel.global_types;
        turns = wr.turns ∙ rel.turns;
        reads = wr.reads ∙ rel.reads;
        consts = λ i symbol here is. wr.outside i (⊎_elim (λ a. inl a) (λ g. inr (omega (arith, g, n))) (consts_apart syms w types (leaves_variables b syms k0 w types room leaves) i symbol here is)) ∙ rel.consts i symbol here is;
      }
    where
      -- leaf j of the block, or a leaf beside it
      Spot : ℕ → ℕ → Type 0
      Spot first k = ((j : ℕ) × (k ≡ first + j) × (j < length vs)) ⊎ ((k < first) ⊎ (first + length vs ≤ k))

      place : (k : ℕ) → ((j : ℕ) × (k ≡ k0 + j) × (j < length vs)) ⊎ ((k < k0) ⊎ (k0 + length vs ≤ k))
      place k = ⊎_elim (λ (l : k < k0). inr (inl l)) (λ (h : k0 ≤ k). ⊎_elim (λ (l : k < k0 + length vs). let d = le_gap k0 k h in let e = d.1 in inl (d.0, d.1, omega (arith, e, l))) (λ (g : k0 + length vs ≤ k). inr (inr g)) (cases_lt k (k0 + length vs))) (cases_lt k k0)

      spot : length vs ≡ length types → (k : ℕ) → ((j : ℕ) × (k ≡ w + j) × (j < length vs)) ⊎ ((k < w) ⊎ (w + length vs ≤ k))
      spot n k = ⊎_elim (λ (l : k < w). inr (inl l)) (λ (h : w ≤ k). ⊎_elim (λ (l : k < w + length vs). let d = le_gap w k h in let e = d.1 in inl (d.0, d.1, omega (arith, e, l))) (λ (g : w + length vs ≤ k). inr (inr g)) (cases_lt k (w + length vs))) (cases_lt k w)

      count : length vs ≡ length types
      count = sym (length-map vs type_of) ∙ ap length tv

      symbol_away : (k : ℕ) → (k < k0) ⊎ (k0 + length vs ≤ k) → ((j : ℕ) × (symbol_of b k ≡ w + j) × (j < length vs)) ⊎ ((symbol_of b k < w) ⊎ (w + length vs ≤ symbol_of b k)) → (symbol_of b k < w) ⊎ (w + length vs ≤ symbol_of b k)
      symbol_away k beside (inl (j, e, lt)) =
          let s = leaves.symbols j (let c = count in omega (arith, lt, c)) in
          absurd (leaf_apart b syms room k (k0 + j) (λ q. absurd (omega (arith, q, lt, beside))) (e ∙ sym s))
      symbol_away k beside (inr away) = away

      global_away : length vs ≡ length types → (g : GlobalName) → ((j : ℕ) × (global_of b g ≡ w + j) × (j < length vs)) ⊎ ((global_of b g < w) ⊎ (w + length vs ≤ global_of b g)) → (global_of b g < w) ⊎ (w + length vs ≤ global_of b g)
      global_away n g (inl (j, e, lt)) =
          let s = leaves.symbols j (omega (arith, lt, n)) in
          absurd (global_apart b syms room g (k0 + j) (e ∙ sym s))
      global_away n g (inr away) = away

      by_place : (k : ℕ) → k < length b.types → ((j : ℕ) × (k ≡ k0 + j) × (j < length vs)) ⊎ ((k < k0) ⊎ (k0 + length vs ≤ k)) → y.values (symbol_of b k) ≡ with_leaves k0 vs src.vars k
      by_place k h (inl (j, e, lt)) =
          let v = get_there vs j lt in
          ap (λ z. y.values (symbol_of b z)) e ∙ ap y.values (leaves.symbols j (let c = count in omega (arith, lt, c))) ∙ wr.inside.each j (v.0) (v.1) ∙ sym (ap (with_leaves k0 vs src.vars) e ∙ written_leaf k0 vs src.vars j (v.0) (v.1))
      by_place k h (inr beside) = wr.outside (symbol_of b k) (symbol_away k beside (spot count (symbol_of b k))) ∙ rel.vars k h ∙ sym (other_leaf k0 vs src.vars k beside)

      typed_by : (k : ℕ) (ty : Ty) → slice_get b.types k ≡ Some ty → ((j : ℕ) × (k ≡ k0 + j) × (j < length vs)) ⊎ ((k < k0) ⊎ (k0 + length vs ≤ k)) → type_of (with_leaves k0 vs src.vars k) ≡ ty
      typed_by k ty at (inl (j, e, lt)) =
          let v = get_there vs j lt in
          let is = leaf_type vs types j (v.0) tv (v.1) in
          let here = leaves.typed j (type_of (v.0)) is in
          let both : Some (type_of (v.0)) ≡ Some ty = sym here ∙ ap (slice_get b.types) (sym e) ∙ at in
          ap (λ z. type_of (with_leaves k0 vs src.vars z)) e ∙ ap type_of (written_leaf k0 vs src.vars j (v.0) (v.1)) ∙ cc both
      typed_by k ty at (inr beside) = ap type_of (other_leaf k0 vs src.vars k beside) ∙ rel.typed k ty at

  pub kept_block : (s0 : ℕ) (vs : List AnyValue) (x y : R.State) → b.calm ≡ false → map type_of vs ≡ types → Wrote w vs x y → Kept b s0 x y
  kept_block s0 vs x y loud tv wr = record { keeps = λ k h o. wr.outside k (outside k o (cases_lt k w)); all = λ calm k h. absurd (cc (calm, loud)) }
    where
      count : length vs ≡ length types
      count = sym (length-map vs type_of) ∙ ap length tv

      outside : (k : ℕ) → (k < b.start) ⊎ (frame_end b ≤ k) → (k < w) ⊎ (w ≤ k) → (k < w) ⊎ (w + length vs ≤ k)
      outside k o (inl l) = inl l
      outside k o (inr h) = ⊎_elim (λ (l : k < w + length vs).
          let d = le_gap w k h in let e = d.1 in
          let j_lt : d.0 < length types = (let c = count in omega (arith, e, l, c)) in
          let t = get_there types (d.0) j_lt in
          let p = leaf_within b syms room (k0 + d.0) (get_some b.types (k0 + d.0) (t.0) (leaves.typed (d.0) (t.0) (t.1))) in
          let p0 = p.0 in let p1 = p.1 in let s = leaves.symbols (d.0) j_lt in
          absurd (omega (arith, o, p0, p1, s, e))) (λ g. inr g) (cases_lt k (w + length vs))
