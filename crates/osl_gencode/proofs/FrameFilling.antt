-- How a function's frame is made: the frame and the place of the result are one block, filled from the arguments and from zeros.
use Rattle.std.proofs.Common.{◌≡◌, ℕ, zero, suc, ◌+◌, ◌<◌, ◌≤◌, ◌⊎◌, inl, inr, ⊎_elim, List, [], ◌∷◌, ◌++◌, length, map, Some, None, true, refl, sym, ap, ◌∙◌, subst, arith, length-append, Option}
use Rattle.std.specs.Prelude.{slice_get, ◌==◌, if◌then◌else◌}
use Rattle.std.specs.List.{flat_map}
use Rattle.std.proofs.lemmas.Bool.{cases_lt}
use Rattle.osl_value.specs.declared.types.Ty.{Ty}
use Rattle.osl_value.specs.AnyValue.{AnyValue, Parts, type_of, zero_value}
use Rattle.oso_code.specs.declared.op.Op.{Op}
use Rattle.oso_code.specs.declared.symbol.Symbol.{Symbol}
use Rattle.oso_code.specs.Run as R
use Rattle.osl_typed.specs.State.{with_leaves}
use Rattle.osl_typed.specs.Frames.{zero_leaves}
use Rattle.osl_typed.specs.Expressions.{Passed, value_passed}
use Rattle.osl_gencode.specs.Growth.{Extends}
use Rattle.osl_gencode.specs.Bodies.{is_const, IsVariable, HaveTypes, Body, frame_end, Room}
use Rattle.osl_gencode.specs.Relation.{HoldsConsts}
use Rattle.osl_gencode.specs.CallCodes.{ArgPlace, AllPassed, Entered, EnterCode, IsInner}
use Rattle.osl_gencode.proofs.Growing.{get_left, get_there, get_some}
use Rattle.osl_gencode.proofs.RelatedStates.{other_leaf}
use Rattle.osl_gencode.proofs.BlockMoves.{Moved, MoveCode, held_by, CanMove, le_gap}

-- what the block begins with: the frame, and the zeros of the result
abbrev pub begins : List (List AnyValue) → List Ty → List Ty → ℕ → AnyValue
begins args types result k = with_leaves 0 (flat_map (λ arg. arg) args) (zero_leaves (types ++ result)) k

-- ---- lists

get_after : {A : Type 0} (xs ys : List A) (j k : ℕ) → j ≡ length xs + k → slice_get (xs ++ ys) j ≡ slice_get ys k
get_after [] ys j k e = let z : j ≡ k = omega (arith, e) in ap (slice_get ys) z
get_after (x ∷ xs) ys zero k e = absurd (omega (arith, e))
get_after (x ∷ xs) ys (suc j) k e = get_after xs ys j k (omega (arith, e))

get_mapped : {A B : Type 0} (f : A → B) (xs : List A) (k : ℕ) (v : B) → slice_get (map f xs) k ≡ Some v → (x : A) × (slice_get xs k ≡ Some x) × (f x ≡ v)
get_mapped f [] k v at = absurd (cc at)
get_mapped f (x ∷ xs) zero v at = let s : Some (f x) ≡ Some v = at in (x, refl, cc s)
get_mapped f (x ∷ xs) (suc k) v at = get_mapped f xs k v at

-- written leaves, over two beginnings that agree at a place
leaves_same : (from : ℕ) (vs : List AnyValue) (f g : ℕ → AnyValue) (k : ℕ) → f k ≡ g k → with_leaves from vs f k ≡ with_leaves from vs g k
unfolding with_leaves
leaves_same from [] f g k e = e
leaves_same from (v ∷ vs) f g k e = ap (λ z. if k == from then v else z) (leaves_same (from + 1) vs f g k e)

zeros_left : (types result : List Ty) (k : ℕ) → k < length types → zero_leaves (types ++ result) k ≡ zero_leaves types k
zeros_left types result k lt = ap (λ o. elim o [ None ↦ Parts [] | Some ty ↦ zero_value ty ]) (get_left types result k lt)

zero_right : (types result : List Ty) (j k : ℕ) (ty : Ty) → j ≡ length types + k → slice_get result k ≡ Some ty → zero_leaves (types ++ result) j ≡ zero_value ty
zero_right types result j k ty e at = ap (λ o. elim o [ None ↦ Parts [] | Some t ↦ zero_value t ]) (get_after types result j k e ∙ at)

-- ---- the frame and the place of the result are one block

module _ (b inner : Body) (result : List Ty) (syms0 syms1 : List Symbol) (ps : List ArgPlace) (rs : List (Option ℕ))
    (count : length rs ≡ length inner.types + length result)
    -- the block's symbols are variables, after the sources
    (vars : (syms : List Symbol) → Extends syms1 syms → (k : ℕ) (ty : Ty) → slice_get (inner.types ++ result) k ≡ Some ty → IsVariable syms (inner.shift + k) ty)
    (low : (k r : ℕ) → slice_get rs k ≡ Some (Some r) → (b.params ≤ r) × (r < inner.shift))
    -- the sources hold what the block begins with
    (shown : (syms : List Symbol) (passed : List Passed) (old : R.State) → Extends syms1 syms → HoldsConsts syms old → AllPassed ps passed old → (k : ℕ) (o : Option ℕ) → slice_get rs k ≡ Some o → held_by old o ≡ begins (map value_passed passed) inner.types result k)
    (typed : (passed : List Passed) (old : R.State) → AllPassed ps passed old → (k : ℕ) (ty : Ty) → slice_get (inner.types ++ result) k ≡ Some ty → type_of (begins (map value_passed passed) inner.types result k) ≡ ty)
    (short : (passed : List Passed) (old : R.State) → AllPassed ps passed old → length (flat_map (λ arg. arg) (map value_passed passed)) ≤ length inner.types) where
  block_length : length (inner.types ++ result) ≡ length rs
  block_length = let l = length-append inner.types result in omega (arith, l, count)

  entered : (syms : List Symbol) (passed : List Passed) (old new : R.State) → length syms0 ≤ inner.shift → Extends syms1 syms → HoldsConsts syms old → AllPassed ps passed old → Moved inner.shift rs old new → Entered inner result (length syms0) (map value_passed passed) syms old new
  entered syms passed old new later ext consts all m = record {
    frame = λ k lt. let there = get_there rs k (omega (arith, lt, count)) in
        m.inside k (there.0) (there.1) ∙ shown syms passed old ext consts all k (there.0) (there.1) ∙ leaves_same 0 args (zero_leaves (inner.types ++ result)) (zero_leaves inner.types) k (zeros_left inner.types result k lt);
    typed = λ k ty at. let lt = get_some inner.types k ty at in
        sym (ap type_of (leaves_same 0 args (zero_leaves (inner.types ++ result)) (zero_leaves inner.types) k (zeros_left inner.types result k lt))) ∙ typed passed old all k ty (get_left inner.types result k lt ∙ at);
    zeros = record {
      each = λ k v at.
          let q = get_mapped zero_value result k v at in
          let lt = get_some result k (q.0) (q.1) in
          let j = length inner.types + k in
          let there = get_there rs j (omega (arith, lt, count)) in
          let e : frame_end inner + k ≡ inner.shift + j = omega arith in
          let s = short passed old all in
          ap new.values e ∙ m.inside j (there.0) (there.1) ∙ shown syms passed old ext consts all j (there.0) (there.1) ∙ other_leaf 0 args (zero_leaves (inner.types ++ result)) j (inr (omega (arith, s))) ∙ zero_right inner.types result j k (q.0) refl (q.1) ∙ q.2;
    };
    low = λ k lt. m.outside k (inl (omega (arith, lt, later)));
    consts = λ k symbol here is. m.outside k (apart k symbol here is) ∙ consts k symbol here is;
    turns = m.turns;
    reads = m.reads;
  }
    where
      args : List AnyValue
      args = flat_map (λ arg. arg) (map value_passed passed)

      inside_not : (k j : ℕ) (symbol : Symbol) → slice_get syms k ≡ Some symbol → is_const symbol.class ≡ true → k ≡ inner.shift + j → j < length rs → ⊥
      inside_not k j symbol here is e lt =
          let t = get_there (inner.types ++ result) j (omega (arith, lt, block_length)) in
          let v = vars syms ext j (t.0) (t.1) in
          let h = v.here in let f = v.free in let q = ap (slice_get syms) e in absurd (cc (here, is, h, f, q))

      apart : (k : ℕ) (symbol : Symbol) → slice_get syms k ≡ Some symbol → is_const symbol.class ≡ true → (k < inner.shift) ⊎ (inner.shift + length rs ≤ k)
      apart k symbol here is =
          ⊎_elim (λ (l : k < inner.shift). inl l) (λ (h : inner.shift ≤ k). ⊎_elim (λ (l : k < inner.shift + length rs). let d = le_gap inner.shift k h in absurd (inside_not k (d.0) symbol here is (d.1) (let e = d.1 in omega (arith, e, l)))) (λ g. inr g) (cases_lt k (inner.shift + length rs))) (cases_lt k inner.shift)

  pub enter_code : (ops0 ops1 : List Op) → Extends syms0 syms1 → Room inner syms1 → length syms0 ≤ inner.start → IsInner b inner → frame_end inner + length result ≤ length syms1 → HaveTypes syms1 (frame_end inner) result → MoveCode ops0 ops1 inner.shift rs → EnterCode b inner result ops0 ops1 syms0 syms1 ps
  enter_code ops0 ops1 ext room later own within places c = record {
    grows = record { ops = c.grows; syms = ext };
    room = room;
    later = later;
    own_frame = own;
    within = within;
    places = places;
    runs = λ from steps syms passed old cov exts above consts all.
        let can : CanMove from syms inner.shift rs old = record {
          typed = λ k r at. let there = get_there (inner.types ++ result) k (let l = get_some rs k r at in omega (arith, l, block_length)) in subst (IsVariable syms (inner.shift + k)) (sym (typed passed old all k (there.0) (there.1)) ∙ sym (ap type_of (shown syms passed old exts consts all k r at))) (vars syms exts k (there.0) (there.1));
          own = λ k r at. above r ((low k r at).0);
          apart = λ k r at. inl ((low k r at).1);
        } in
        let did = c.runs from steps syms old cov can in
        (did.0, did.1, entered syms passed old did.0 (let o = own.start in omega (arith, later, o)) exts consts all did.2);
  }
