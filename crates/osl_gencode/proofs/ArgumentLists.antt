-- The arguments of a call, from left to right, and what the frame of the function is filled from.
use Rattle.std.proofs.Common.{◌≡◌, ℕ, zero, suc, ◌+◌, ◌<◌, ◌≤◌, ⊎_elim, List, [], ◌∷◌, ◌++◌, length, map, Option, Some, None, refl, sym, ap, ◌∙◌, arith, inr, length-append}
use Rattle.std.specs.Prelude.{slice_get}
use Rattle.std.specs.List.{flat_map}
use Rattle.osl_value.specs.declared.types.Ty.{Ty}
use Rattle.osl_value.specs.AnyValue.{AnyValue, Parts, type_of, zero_value}
use Rattle.osl_value.specs.Laws.{HasValues}
use Rattle.osl_layer.specs.Layer.{Inputs}
use Rattle.oso_code.specs.declared.op.Op.{Op}
use Rattle.oso_code.specs.declared.symbol.Symbol.{Symbol}
use Rattle.oso_code.specs.Run as R
use Rattle.osl_typed.specs.State.{State, Gives, then_value, in_order, with_leaves}
use Rattle.osl_typed.specs.Parts.{single}
use Rattle.osl_typed.specs.Expressions.{Meaning, Passed, Copied, Lent, Passing, value_passed, read_part, indexed, holds}
use Rattle.osl_typed.specs.declared.expr.Part.{Part}
use Rattle.osl_typed.specs.declared.expr.Root.{Root}
use Rattle.osl_typed.specs.Frames.{zero_leaves}
use Rattle.std.proofs.lemmas.Bool.{cases_lt}
use Rattle.std.proofs.lemmas.List.{length-map}
use Rattle.osl_gencode.specs.CallCodes.{ArgPlace, AllPassed, PassedIn}
use Rattle.osl_gencode.specs.Relation.{HoldsConsts, In}
use Rattle.osl_gencode.specs.Growth.{Extends}
use Rattle.osl_gencode.specs.Codes.{Stays, IsSpared, Code, ListCode, ExprCode, AllIn, Place, Anything}
use Rattle.osl_gencode.specs.Bodies.{Body, frame_at}
use Rattle.osl_gencode.proofs.BlockMoves.{held_by}
use Rattle.osl_gencode.proofs.Operations.{firsts, AllSingle}
use Rattle.osl_gencode.proofs.Growing.{extends_on, extends_self, get_some, get_left, get_there}
use Rattle.osl_gencode.proofs.Constants.{IsConstant, constant_later}
use Rattle.osl_gencode.proofs.RelatedStates.{kept_self, written_leaf, other_leaf}
use Rattle.osl_gencode.proofs.Assignments.{Named, indices_are}
use Rattle.osl_gencode.proofs.CodeLists.{in_order_then, spread, code_then, code_more, code_as, code_any, in_stays, code_beside}
use Rattle.osl_gencode.proofs.CopyingBack.{AllSafe, safe_values}
use Rattle.osl_gencode.proofs.RangeRuns.{leads_self}
use Rattle.osl_gencode.proofs.CalmCode.{code_to, Beside, order_more}
use Rattle.osl_gencode.proofs.OpValues.{zero_type}
use Rattle.osl_gencode.proofs.FrameFilling.{begins}

-- ---- one argument

module _ (b : Body) where
  -- a value
  pub value_argument_code : (ops0 ops1 : List Op) (syms0 syms1 : List Symbol) (p : ArgPlace) (sem : Inputs → Meaning) → p.target ≡ None → ExprCode b ops0 ops1 syms0 syms1 p.value.first p.value.types sem → Code b ops0 ops1 syms0 syms1 Anything (PassedIn p) (λ inputs a s. then_value (sem inputs s) (λ v s1. Gives (Copied v) s1))
  value_argument_code ops0 ops1 syms0 syms1 p sem none c =
      code_to b ops0 ops1 syms0 syms1 Anything (In p.value.first p.value.types) (PassedIn p) Copied (λ inputs a. sem inputs) (λ syms v s x ext rel q. (q, none)) c.code

  -- an output: its indices, and then its value, which is read by code that knows them
  pub output_argument_code : (ops0 opsI ops1 : List Op) (syms0 symsI symsN syms1 : List Symbol) (p : ArgPlace) (rt : Root) (part : Part) (ps : List Place) (cs : List ℕ) (indices : Inputs → List Meaning) → p.target ≡ Some (rt, part) → p.indices ≡ firsts ps ++ cs → AllSingle ps → ListCode b ops0 opsI syms0 symsI ps indices → Extends symsI symsN → Named b symsN part.component cs → Stays b (length symsN) (AllIn ps) → Code b opsI ops1 symsN syms1 (AllIn ps) (In p.value.first p.value.types) (λ inputs vss s. read_part (frame_at b inputs) rt part (map single vss) s)
      → Code b ops0 ops1 syms0 syms1 Anything (PassedIn p) (λ inputs a s. indexed (indices inputs) s (λ is s1. then_value (read_part (frame_at b inputs) rt part is s1) (λ v s2. Gives (Lent v rt part is) s2)))
  output_argument_code ops0 opsI ops1 syms0 symsI symsN syms1 p rt part ps cs indices target is_indices one ci extN name stays c =
      let Q = In p.value.first p.value.types in
      let lent : (List (List AnyValue) × List AnyValue) → Passed = λ both. Lent (both.1) rt part (map single (both.0)) in
      let first = code_more b ops0 opsI syms0 symsI symsN Anything (AllIn ps) (λ inputs a s. in_order (indices inputs) s Gives) extN ci.code in
      let second = code_beside b opsI ops1 symsN syms1 (AllIn ps) Q (λ inputs vss s. read_part (frame_at b inputs) rt part (map single vss) s) stays c in
      let both = code_then b ops0 opsI ops1 syms0 symsN syms1 Anything (AllIn ps) (Beside (AllIn ps) Q) _ _ first second in
      code_as b ops0 ops1 syms0 syms1 Anything (PassedIn p) _ _ (λ j inputs a s. sym (meaning inputs s) j) (
      code_to b ops0 ops1 syms0 syms1 Anything (Beside (AllIn ps) Q) (PassedIn p) lent _ (λ syms v s x ext rel q. (q.1, target, ap (map x.values) is_indices ∙ indices_are b symsN syms part ps cs (v.0) s x (extends_on symsN syms1 syms c.grows.syms ext) name one q.0 rel)) both)
    where
      meaning : (inputs : Inputs) (s : State) → indexed (indices inputs) s (λ is s1. then_value (read_part (frame_at b inputs) rt part is s1) (λ v s2. Gives (Lent v rt part is) s2)) ≡ then_value (then_value (in_order (indices inputs) s Gives) (λ vss s1. then_value (read_part (frame_at b inputs) rt part (map single vss) s1) (λ v s2. Gives (vss, v) s2))) (λ (both : List (List AnyValue) × List AnyValue) s3. Gives (Lent (both.1) rt part (map single (both.0))) s3)
      meaning inputs s =
          in_order_then (indices inputs) s (λ vss s1. then_value (read_part (frame_at b inputs) rt part (map single vss) s1) (λ v s2. Gives (Lent v rt part (map single vss)) s2))
          ∙ (λ j. then_value (in_order (indices inputs) s Gives) (λ vss s1. sym (spread (read_part (frame_at b inputs) rt part (map single vss) s1) (λ v s2. Gives (vss, v) s2) (λ (both : List (List AnyValue) × List AnyValue) s3. Gives (Lent (both.1) rt part (map single (both.0))) s3)) j))
          ∙ sym (spread (in_order (indices inputs) s Gives) (λ vss s1. then_value (read_part (frame_at b inputs) rt part (map single vss) s1) (λ v s2. Gives (vss, v) s2)) (λ (both : List (List AnyValue) × List AnyValue) s3. Gives (Lent (both.1) rt part (map single (both.0))) s3))

-- ---- lists of arguments

passed_snoc : (ps : List ArgPlace) (p : ArgPlace) (vs : List Passed) (v : Passed) (x : R.State) → AllPassed ps vs x → PassedIn p v x → AllPassed (ps ++ p ∷ []) (vs ++ v ∷ []) x
passed_snoc [] p [] v x all h = (h, tt)
passed_snoc [] p (w ∷ vs) v x all h = absurd all
passed_snoc (q ∷ ps) p [] v x all h = absurd all
passed_snoc (q ∷ ps) p (w ∷ vs) v x all h = (all.0, passed_snoc ps p vs v x all.1 h)

-- places and indices of arguments that no code of the body writes, below n
abbrev pub ArgumentsSafe : Body → ℕ → List ArgPlace → Type 0
ArgumentsSafe b n [] = Unit {0}
ArgumentsSafe b n (p ∷ ps) = (p.value.first + length p.value.types ≤ n) × IsSpared b p.value.first (length p.value.types) × AllSafe b n p.indices × ArgumentsSafe b n ps

pub passed_stay : (b : Body) (n : ℕ) (ps : List ArgPlace) → ArgumentsSafe b n ps → Stays b n (AllPassed ps)
passed_stay b n [] safe [] x y kept all = tt
passed_stay b n [] safe (v ∷ vs) x y kept all = absurd all
passed_stay b n (p ∷ ps) safe [] x y kept all = absurd all
passed_stay b n (p ∷ ps) safe (Copied v ∷ vs) x y kept all =
    ((in_stays b n p.value.first p.value.types safe.1 safe.0 v x y kept all.0.0, all.0.1), passed_stay b n ps safe.3 vs x y kept all.1)
passed_stay b n (p ∷ ps) safe (Lent v rt part is ∷ vs) x y kept all =
    ((in_stays b n p.value.first p.value.types safe.1 safe.0 v x y kept all.0.0, all.0.1, safe_values b n p.indices x y kept safe.2 ∙ all.0.2), passed_stay b n ps safe.3 vs x y kept all.1)

module _ (b : Body) where
  pub arguments_none : (ops0 : List Op) (syms0 : List Symbol) → Code b ops0 ops0 syms0 syms0 Anything (AllPassed []) (λ inputs a s. in_order [] s Gives)
  unfolding in_order
  arguments_none ops0 syms0 = record {
    grows = record { ops = extends_self ops0; syms = extends_self syms0 };
    runs = λ inputs from steps syms a src cod wired cov ext rel p. (cod, record { leads = leads_self from steps (length ops0) cod; related = rel; kept = kept_self b (length syms0) cod }, tt);
  }

  -- one argument more
  pub arguments_more : (ops0 ops1 ops2 : List Op) (syms0 syms1 syms2 : List Symbol) (ps : List ArgPlace) (p : ArgPlace) (sems : Inputs → List Passing) (sem : Inputs → Passing) → Stays b (length syms1) (AllPassed ps) → Code b ops0 ops1 syms0 syms1 Anything (AllPassed ps) (λ inputs a s. in_order (sems inputs) s Gives) → Code b ops1 ops2 syms1 syms2 Anything (PassedIn p) (λ inputs a. sem inputs) → Code b ops0 ops2 syms0 syms2 Anything (AllPassed (ps ++ p ∷ [])) (λ inputs a s. in_order (sems inputs ++ sem inputs ∷ []) s Gives)
  arguments_more ops0 ops1 ops2 syms0 syms1 syms2 ps p sems sem stays c d =
      order_more b ops0 ops1 ops2 syms0 syms1 syms2 (AllPassed ps) (PassedIn p) (AllPassed (ps ++ p ∷ [])) sems sem (λ vs v x all h. passed_snoc ps p vs v x all h) c (
      code_beside b ops1 ops2 syms1 syms2 (AllPassed ps) (PassedIn p) (λ inputs a. sem inputs) stays (code_any b ops1 ops2 syms1 syms2 (AllPassed ps) (PassedIn p) sem d))

-- ---- what the frame is filled from

-- the n symbols from r on
abbrev pub numbers : (r n : ℕ) → List ℕ
numbers r zero = []
numbers r (suc n) = r ∷ numbers (r + 1) n

-- the symbols of all leaves that are passed
abbrev pub argument_symbols : List ArgPlace → List ℕ
argument_symbols [] = []
argument_symbols (p ∷ ps) = numbers p.value.first (length p.value.types) ++ argument_symbols ps

abbrev pub argument_types : List ArgPlace → List Ty
argument_types [] = []
argument_types (p ∷ ps) = p.value.types ++ argument_types ps

abbrev pub argument_values : List Passed → List AnyValue
argument_values passed = flat_map (λ arg. arg) (map value_passed passed)

pub in_numbers : (r : ℕ) (types : List Ty) (vs : List AnyValue) (x : R.State) → In r types vs x → map x.values (numbers r (length types)) ≡ vs
in_numbers r [] [] x p = refl
in_numbers r [] (v ∷ vs) x p = let e = ap length p.typed in absurd (omega (arith, e))
in_numbers r (t ∷ types) [] x p = let e = ap length p.typed in absurd (omega (arith, e))
in_numbers r (t ∷ types) (v ∷ vs) x p =
    let e : r ≡ r + 0 = omega arith in
    let rest : In (r + 1) types vs x = record { held = record { each = λ k u at. let z : (r + 1) + k ≡ r + suc k = omega arith in ap x.values z ∙ p.held.each (suc k) u at }; typed = tail_same p.typed } in
    ap (λ z. z ∷ map x.values (numbers (r + 1) (length types))) (ap x.values e ∙ p.held.each 0 v refl) ∙ ap (λ l. v ∷ l) (in_numbers (r + 1) types vs x rest)
  where
    rest_of : List Ty → List Ty
    rest_of [] = []
    rest_of (t ∷ ts) = ts

    tail_same : {a c : Ty} {xs ys : List Ty} → a ∷ xs ≡ c ∷ ys → xs ≡ ys
    tail_same e = ap rest_of e

pub append_map : (f : ℕ → AnyValue) (xs ys : List ℕ) → map f (xs ++ ys) ≡ map f xs ++ map f ys
append_map f [] ys = refl
append_map f (a ∷ xs) ys = ap (λ l. f a ∷ l) (append_map f xs ys)

pub append_types : (xs ys : List AnyValue) → map type_of (xs ++ ys) ≡ map type_of xs ++ map type_of ys
append_types [] ys = refl
append_types (a ∷ xs) ys = ap (λ l. type_of a ∷ l) (append_types xs ys)

value_in_place : (p : ArgPlace) (v : Passed) (x : R.State) → PassedIn p v x → In p.value.first p.value.types (value_passed v) x
value_in_place p (Copied v) x h = h.0
value_in_place p (Lent v rt part is) x h = h.0

pub passed_values : (ps : List ArgPlace) (passed : List Passed) (x : R.State) → AllPassed ps passed x → map x.values (argument_symbols ps) ≡ argument_values passed
passed_values [] [] x all = refl
passed_values [] (v ∷ vs) x all = absurd all
passed_values (p ∷ ps) [] x all = absurd all
passed_values (p ∷ ps) (v ∷ vs) x all =
    append_map x.values (numbers p.value.first (length p.value.types)) (argument_symbols ps)
    ∙ ap (λ l. l ++ map x.values (argument_symbols ps)) (in_numbers p.value.first p.value.types (value_passed v) x (value_in_place p v x all.0))
    ∙ ap (λ l. value_passed v ++ l) (passed_values ps vs x all.1)

pub passed_types : (ps : List ArgPlace) (passed : List Passed) (x : R.State) → AllPassed ps passed x → map type_of (argument_values passed) ≡ argument_types ps
passed_types [] [] x all = refl
passed_types [] (v ∷ vs) x all = absurd all
passed_types (p ∷ ps) [] x all = absurd all
passed_types (p ∷ ps) (v ∷ vs) x all =
    append_types (value_passed v) (argument_values vs)
    ∙ ap (λ l. l ++ map type_of (argument_values vs)) (value_in_place p v x all.0).typed
    ∙ ap (λ l. p.value.types ++ l) (passed_types ps vs x all.1)

-- Sources of zeros of these types: constants, and nothing where the zero is the empty closure.
pub record AreZeros (syms : List Symbol) (types : List Ty) (zs : List (Option ℕ)) : Type 0 where
  pub count : length zs ≡ length types
  pub const : (k c : ℕ) (ty : Ty) → slice_get zs k ≡ Some (Some c) → slice_get types k ≡ Some ty → IsConstant syms c ty (zero_value ty)
  pub empty : (k : ℕ) (ty : Ty) → slice_get zs k ≡ Some None → slice_get types k ≡ Some ty → zero_value ty ≡ Parts []

pub zero_held : (syms syms1 : List Symbol) (types : List Ty) (zs : List (Option ℕ)) (x : R.State) (k : ℕ) (o : Option ℕ) (ty : Ty) → AreZeros syms types zs → Extends syms syms1 → HoldsConsts syms1 x → slice_get zs k ≡ Some o → slice_get types k ≡ Some ty → held_by x o ≡ zero_value ty
zero_held syms syms1 types zs x k None ty z ext holds at is = sym (z.empty k ty at is)
zero_held syms syms1 types zs x k (Some c) ty z ext holds at is =
    let q = constant_later syms syms1 c ty (zero_value ty) ext (z.const k c ty at is) in
    holds c q.symbol q.here q.const ∙ q.value

-- The block of a function's frame and of its result: the first leaves are those that are passed, the others zeros.
pub record IsFilled (b inner : Body) (result : List Ty) (syms1 : List Symbol) (ps : List ArgPlace) (rs : List (Option ℕ)) : Type 0 where
  pub passed : (k : ℕ) (ty : Ty) → slice_get (argument_types ps) k ≡ Some ty → slice_get inner.types k ≡ Some ty
  pub sources : (k r : ℕ) → slice_get (argument_symbols ps) k ≡ Some r → slice_get rs k ≡ Some (Some r)
  pub zeros : (k : ℕ) (o : Option ℕ) (ty : Ty) → length (argument_types ps) ≤ k → slice_get rs k ≡ Some o → slice_get (inner.types ++ result) k ≡ Some ty → (syms : List Symbol) (x : R.State) → Extends syms1 syms → HoldsConsts syms x → held_by x o ≡ zero_value ty
  pub has : (k : ℕ) (ty : Ty) → slice_get (inner.types ++ result) k ≡ Some ty → HasValues ty
  pub count : length rs ≡ length inner.types + length result

module _ (b inner : Body) (result : List Ty) (syms1 : List Symbol) (ps : List ArgPlace) (rs : List (Option ℕ)) (fill : IsFilled b inner result syms1 ps rs) where
  some_same : {X : Type 0} {u v : X} → Some u ≡ Some v → u ≡ v
  some_same e = cc e

  mapped : (f : ℕ → AnyValue) (ks : List ℕ) (vs : List AnyValue) (k r : ℕ) → map f ks ≡ vs → slice_get ks k ≡ Some r → slice_get vs k ≡ Some (f r)
  mapped f [] vs k r e at = absurd (cc at)
  mapped f (j ∷ ks) vs zero r e at = let s : Some j ≡ Some r = at in ap (λ z. slice_get z 0) (sym e) ∙ ap (λ o. elim o [ None ↦ None | Some q ↦ Some (f q) ]) s
  mapped f (j ∷ ks) vs (suc k) r e at = ap (λ z. slice_get z (suc k)) (sym e) ∙ mapped f ks (map f ks) k r refl at

  typed_at : (vs : List AnyValue) (types : List Ty) (k : ℕ) (v : AnyValue) → map type_of vs ≡ types → slice_get vs k ≡ Some v → slice_get types k ≡ Some (type_of v)
  typed_at [] types k v e at = absurd (cc at)
  typed_at (u ∷ vs) types zero v e at = let s : Some u ≡ Some v = at in ap (λ z. slice_get z 0) (sym e) ∙ ap (λ o. elim o [ None ↦ None | Some w ↦ Some (type_of w) ]) s
  typed_at (u ∷ vs) types (suc k) v e at = ap (λ z. slice_get z (suc k)) (sym e) ∙ typed_at vs (map type_of vs) k v refl at

  zero_at : (types : List Ty) (k : ℕ) (ty : Ty) → slice_get types k ≡ Some ty → zero_leaves types k ≡ zero_value ty
  zero_at types k ty at = ap (λ o. elim o [ None ↦ Parts [] | Some t ↦ zero_value t ]) at

  how_many : (passed : List Passed) (x : R.State) → AllPassed ps passed x → length (argument_values passed) ≡ length (argument_types ps)
  how_many passed x all = sym (length-map (argument_values passed) type_of) ∙ ap length (passed_types ps passed x all)

  how_many_symbols : (passed : List Passed) (x : R.State) → AllPassed ps passed x → length (argument_symbols ps) ≡ length (argument_values passed)
  how_many_symbols passed x all = sym (length-map (argument_symbols ps) x.values) ∙ ap length (passed_values ps passed x all)

  -- no more leaves are passed than the frame has
  pub fills_short : (passed : List Passed) (x : R.State) → AllPassed ps passed x → length (argument_values passed) ≤ length inner.types
  fills_short passed x all = ⊎_elim (λ (lt : length inner.types < length (argument_values passed)).
      let h = how_many passed x all in
      let t = get_there (argument_types ps) (length inner.types) (omega (arith, h, lt)) in
      let over = get_some inner.types (length inner.types) (t.0) (fill.passed (length inner.types) (t.0) (t.1)) in
      absurd (omega (arith, over))) (λ (le : length (argument_values passed) ≤ length inner.types). le) (cases_lt (length inner.types) (length (argument_values passed)))

  -- the sources hold what the block begins with
  pub fills_shown : (syms : List Symbol) (passed : List Passed) (x : R.State) → Extends syms1 syms → HoldsConsts syms x → AllPassed ps passed x → (k : ℕ) (o : Option ℕ) → slice_get rs k ≡ Some o → held_by x o ≡ begins (map value_passed passed) inner.types result k
  fills_shown syms passed x ext holds all k o at =
      let n = how_many passed x all in let m = how_many_symbols passed x all in
      ⊎_elim (λ (lt : k < length (argument_values passed)).
      let r = get_there (argument_symbols ps) k (omega (arith, lt, m)) in
      let is_o : Some o ≡ Some (Some (r.0)) = sym at ∙ fill.sources k (r.0) (r.1) in
      let v = mapped x.values (argument_symbols ps) (argument_values passed) k (r.0) (passed_values ps passed x all) (r.1) in
      let z : 0 + k ≡ k = omega arith in
      ap (held_by x) (some_same is_o) ∙ sym (ap (with_leaves 0 (argument_values passed) (zero_leaves (inner.types ++ result))) (sym z) ∙ written_leaf 0 (argument_values passed) (zero_leaves (inner.types ++ result)) k (x.values (r.0)) v)) (λ (le : length (argument_values passed) ≤ k).
      let c = fill.count in let lt = get_some rs k o at in let la = length-append inner.types result in
      let t = get_there (inner.types ++ result) k (omega (arith, lt, c, la)) in
      fill.zeros k o (t.0) (omega (arith, le, n)) at (t.1) syms x ext holds ∙ sym (zero_at (inner.types ++ result) k (t.0) (t.1)) ∙ sym (other_leaf 0 (argument_values passed) (zero_leaves (inner.types ++ result)) k (inr (omega (arith, le))))) (cases_lt k (length (argument_values passed)))

  -- and these have the types of the block
  pub fills_typed : (passed : List Passed) (x : R.State) → AllPassed ps passed x → (k : ℕ) (ty : Ty) → slice_get (inner.types ++ result) k ≡ Some ty → type_of (begins (map value_passed passed) inner.types result k) ≡ ty
  fills_typed passed x all k ty at =
      let n = how_many passed x all in
      ⊎_elim (λ (lt : k < length (argument_values passed)).
      let v = get_there (argument_values passed) k lt in
      let tv = typed_at (argument_values passed) (argument_types ps) k (v.0) (passed_types ps passed x all) (v.1) in
      let here = fill.passed k (type_of (v.0)) tv in
      let both : Some (type_of (v.0)) ≡ Some ty = sym (get_left inner.types result k (get_some inner.types k (type_of (v.0)) here) ∙ here) ∙ at in
      let z : 0 + k ≡ k = omega arith in
      ap type_of (ap (with_leaves 0 (argument_values passed) (zero_leaves (inner.types ++ result))) (sym z) ∙ written_leaf 0 (argument_values passed) (zero_leaves (inner.types ++ result)) k (v.0) (v.1)) ∙ some_same both) (λ (le : length (argument_values passed) ≤ k).
      ap type_of (other_leaf 0 (argument_values passed) (zero_leaves (inner.types ++ result)) k (inr (omega (arith, le))) ∙ zero_at (inner.types ++ result) k ty at) ∙ zero_type ty (fill.has k ty at)) (cases_lt k (length (argument_values passed)))
