-- Brace lists of arrays: the items are written one after another, by a counter.
use Rattle.std.proofs.Common.{◌≡◌, ℕ, suc, ◌+◌, ◌≤◌, ◌≢◌, List, [], ◌∷◌, ◌++◌, length, map, Some, refl, sym, ap, ◌∙◌, subst, arith}
use Rattle.std.specs.Prelude.{slice_get, pos, FitsSigned}
use Rattle.std.specs.Int.{w32, int_wrap}
use Rattle.std.proofs.lemmas.Int.{int_wrap_fits}
use Rattle.std.proofs.lemmas.List.{length-map}
use Rattle.osl_value.specs.declared.op_name.OpName.TheVariants.{AAssign, Add, Sub}
use Rattle.osl_value.specs.declared.types.Base.TheVariants.{Int}
use Rattle.osl_value.specs.declared.types.Ty.{Ty}
use Rattle.osl_value.specs.AnyValue.{AnyValue, with_numbers}
use Rattle.osl_value.specs.Apply.{apply}
use Rattle.osl_value.specs.Types.{only}
use Rattle.oso_code.specs.declared.op.Op.{Op}
use Rattle.oso_code.specs.declared.symbol.Symbol.{Symbol}
use Rattle.oso_code.specs.Run as R
use Rattle.oso_code.specs.Steps.{Step}
use Rattle.osl_typed.specs.Parts.{int_of}
use Rattle.osl_typed.specs.Statements.{with_elements}
use Rattle.osl_gencode.specs.Growth.{Extends, Covers}
use Rattle.osl_gencode.specs.Bodies.{IsVariable}
use Rattle.osl_gencode.specs.RunEnds.{Leads}
use Rattle.osl_gencode.proofs.Growing.{at_push, covers_before, extends_on, extends_push, get_left, get_seam, get_some, push_length}
use Rattle.osl_gencode.proofs.OneOp.{op_of, reading_step, updating_step}
use Rattle.osl_gencode.proofs.RangeRuns.{compute_leads, leads_on, put_same, put_other}

-- ---- the counter

one_less_one : apply Sub (only Int) (int_of 1 ∷ int_of 1 ∷ []) ≡ int_of 0
unfolding apply int_wrap
one_less_one = refl

pub add_one : (n : ℕ) → FitsSigned w32 (pos (n + 1)) → apply Add (only Int) (int_of n ∷ int_of 1 ∷ []) ≡ int_of (n + 1)
unfolding apply
add_one n fits = ap (λ z. with_numbers (only Int) (z ∷ [])) (int_wrap_fits w32 (pos (n + 1)) fits)

-- ---- elements

-- one more at the end of a list
pub elements_snoc : (ty : Ty) (n : ℕ) (xs : List AnyValue) (x v : AnyValue) → with_elements ty n (xs ++ x ∷ []) v ≡ apply AAssign ty (with_elements ty n xs v ∷ int_of (n + length xs) ∷ x ∷ [])
unfolding with_elements
elements_snoc ty n [] x v = let e : n ≡ n + 0 = omega arith in ap (λ k. apply AAssign ty (v ∷ int_of k ∷ x ∷ [])) e
elements_snoc ty n (y ∷ xs) x v =
    let e : (n + 1) + length xs ≡ n + suc (length xs) = omega arith in
    let v1 = apply AAssign ty (v ∷ int_of n ∷ y ∷ []) in
    elements_snoc ty (n + 1) xs x v1 ∙ ap (λ k. apply AAssign ty (with_elements ty (n + 1) xs v1 ∷ int_of k ∷ x ∷ [])) e

map_snoc : (f : ℕ → AnyValue) (rs : List ℕ) (r : ℕ) → map f (rs ++ r ∷ []) ≡ map f rs ++ f r ∷ []
map_snoc f [] r = refl
map_snoc f (q ∷ rs) r = ap (λ l. f q ∷ l) (map_snoc f rs r)

-- symbol w got a value, and the counter k is n
pub record Counted (w k n : ℕ) (v : AnyValue) (old new : R.State) : Type 0 where
  pub value : new.values w ≡ v
  pub counter : new.values k ≡ int_of n
  pub others : (j : ℕ) → j ≢ w → j ≢ k → new.values j ≡ old.values j
  pub turns : new.turns ≡ old.turns
  pub reads : new.reads ≡ old.reads

-- a symbol that no input reaches, and that is neither of two
pub record IsFree (from : R.Sources) (w k r : ℕ) : Type 0 where
  pub own : from r ≡ R.Own
  pub target : r ≢ w
  pub counter : r ≢ k

-- what is asked where elements are written: `one` holds 1, and the numbers of the elements are ints
pub record CanCount (from : R.Sources) (syms : List Symbol) (w : ℕ) (ty : Ty) (k one : ℕ) (items : List ℕ) (old : R.State) : Type 0 where
  pub variable : IsVariable syms w ty
  pub counter : IsVariable syms k (only Int)
  pub own : from w ≡ R.Own
  pub own_counter : from k ≡ R.Own
  pub apart : w ≢ k
  pub free : IsFree from w k one
  pub items_free : (i r : ℕ) → slice_get items i ≡ Some r → IsFree from w k r
  pub is_one : old.values one ≡ int_of 1
  pub small : (n : ℕ) → n ≤ length items → FitsSigned w32 (pos n)

-- the ops that were added write what is in these symbols into the first elements of symbol w
pub record ElementsCode (ops0 ops1 : List Op) (w : ℕ) (ty : Ty) (k one : ℕ) (items : List ℕ) : Type 0 where
  pub grows : Extends ops0 ops1
  pub runs : (from : R.Sources) (steps : List Step) (syms : List Symbol) (old : R.State) → Covers syms steps ops1 (length ops0) → CanCount from syms w ty k one items old → (new : R.State) × Leads from steps (length ops0) (length ops1) old new × Counted w k (length items) (with_elements ty 0 (map old.values items) (old.values w)) old new

-- the counter begins at 0, which is 1 less 1
pub elements_none : (ops0 : List Op) (w : ℕ) (ty : Ty) (k one : ℕ) → ElementsCode ops0 (ops0 ++ op_of Sub k (one ∷ one ∷ []) ∷ []) w ty k one []
unfolding with_elements
elements_none ops0 w ty k one =
    let op = op_of Sub k (one ∷ one ∷ []) in
    record {
      grows = extends_push ops0 op;
      runs = λ from steps syms old cov can.
          let at = at_push syms steps ops0 op (length ops0) (omega arith) cov ∙ ap Some (reading_step syms (length ops0) Sub k (only Int) (one ∷ one ∷ []) refl refl can.counter) in
          let v = apply Sub (only Int) (map old.values (one ∷ one ∷ [])) in
          let y = R.write k v (R.ticked old) in
          let runs = compute_leads from steps (length ops0) k Sub (only Int) (one ∷ one ∷ []) old at (can.free.own, (can.free.own, tt)) in (
            y,
            subst (λ z. Leads from steps (length ops0) z old y) (sym (push_length ops0 op)) runs,
            record {
              value = put_other k w v old.values can.apart;
              counter = put_same k v old.values ∙ ap (λ u. apply Sub (only Int) (u ∷ u ∷ [])) can.is_one ∙ one_less_one;
              others = λ j target counter. put_other k j v old.values counter;
              turns = refl;
              reads = refl;
            },
          );
    }

-- one element more, and the counter goes on
pub elements_more : (ops0 ops1 : List Op) (w : ℕ) (ty : Ty) (k one item : ℕ) (items : List ℕ) → ElementsCode ops0 ops1 w ty k one items → ElementsCode ops0 ((ops1 ++ op_of AAssign w (k ∷ item ∷ []) ∷ []) ++ op_of Add k (k ∷ one ∷ []) ∷ []) w ty k one (items ++ item ∷ [])
elements_more ops0 ops1 w ty k one item items c =
    let n = length items in
    let put = op_of AAssign w (k ∷ item ∷ []) in
    let add = op_of Add k (k ∷ one ∷ []) in
    let ops2 = ops1 ++ put ∷ [] in
    let ops3 = ops2 ++ add ∷ [] in
    let l = c.grows.longer in let l2 = push_length ops1 put in let l3 = push_length ops2 add in let ln = push_length items item in
    let to = extends_on ops1 ops2 ops3 (extends_push ops1 put) (extends_push ops2 add) in
    record {
      grows = extends_on ops0 ops1 ops3 c.grows to;
      runs = λ from steps syms old cov can.
          let can0 : CanCount from syms w ty k one items old = record { variable = can.variable; counter = can.counter; own = can.own; own_counter = can.own_counter; apart = can.apart; free = can.free; items_free = λ i r at. can.items_free i r (get_left items (item ∷ []) i (get_some items i r at) ∙ at); is_one = can.is_one; small = λ m le. can.small m (omega (arith, le, ln)) } in
          let did = c.runs from steps syms old (covers_before syms steps ops1 ops3 (length ops0) (length ops0) (omega arith) to cov) can0 in
          let y = did.0 in
          let p = did.2 in
          let free = can.items_free n item (get_seam items item) in
          let v = apply AAssign ty (map y.values (w ∷ k ∷ item ∷ [])) in
          let z = R.write w v (R.ticked y) in
          let cov2 = covers_before syms steps ops2 ops3 (length ops0) (length ops0) (omega arith) (extends_push ops2 add) cov in
          let at2 = at_push syms steps ops1 put (length ops0) l cov2 ∙ ap Some (updating_step syms (length ops1) AAssign w ty (k ∷ item ∷ []) refl refl can.variable) in
          let run2 = compute_leads from steps (length ops1) w AAssign ty (w ∷ k ∷ item ∷ []) y at2 (can.own, (can.own_counter, (free.own, tt))) in
          let u = apply Add (only Int) (map z.values (k ∷ one ∷ [])) in
          let x = R.write k u (R.ticked z) in
          let at3 = at_push syms steps ops2 add (length ops0) (omega (arith, l, l2)) cov ∙ ap Some (reading_step syms (length ops2) Add k (only Int) (k ∷ one ∷ []) refl refl can.counter) in
          let run3 = compute_leads from steps (length ops2) k Add (only Int) (k ∷ one ∷ []) z at3 (can.own_counter, (can.free.own, tt)) in
          let counted : z.values k ≡ int_of n = put_other w k v y.values (λ e. can.apart (sym e)) ∙ p.counter in
          let first : z.values one ≡ int_of 1 = put_other w one v y.values can.free.target ∙ p.others one can.free.target can.free.counter ∙ can.is_one in
          let told : with_elements ty 0 (map old.values (items ++ item ∷ [])) (old.values w) ≡ apply AAssign ty (with_elements ty 0 (map old.values items) (old.values w) ∷ int_of n ∷ old.values item ∷ [])
          = ap (λ vs. with_elements ty 0 vs (old.values w)) (map_snoc old.values items item)
          ∙ elements_snoc ty 0 (map old.values items) (old.values item) (old.values w)
          ∙ (let e : 0 + length (map old.values items) ≡ n = (let m = length-map items old.values in omega (arith, m)) in ap (λ m. apply AAssign ty (with_elements ty 0 (map old.values items) (old.values w) ∷ int_of m ∷ old.values item ∷ [])) e) in
          let v_is : v ≡ apply AAssign ty (with_elements ty 0 (map old.values items) (old.values w) ∷ int_of n ∷ old.values item ∷ [])
          = ap (λ a. apply AAssign ty (a ∷ y.values k ∷ y.values item ∷ [])) p.value
          ∙ ap (λ a. apply AAssign ty (with_elements ty 0 (map old.values items) (old.values w) ∷ a ∷ y.values item ∷ [])) p.counter
          ∙ ap (λ a. apply AAssign ty (with_elements ty 0 (map old.values items) (old.values w) ∷ int_of n ∷ a ∷ [])) (p.others item free.target free.counter) in
          let lead2 = subst (λ m. Leads from steps (length ops1) m y z) (sym l2) run2 in
          let lead3 = subst (λ m. Leads from steps (length ops2) m z x) (sym l3) run3 in (
            x,
            leads_on from steps (length ops0) (length ops1) (length ops3) old y x (omega (arith, l2, l3)) did.1 (leads_on from steps (length ops1) (length ops2) (length ops3) y z x (omega (arith, l3)) lead2 lead3),
            record {
              value = put_other k w u z.values can.apart ∙ put_same w v y.values ∙ v_is ∙ sym told;
              counter = put_same k u z.values ∙ ap (λ a. apply Add (only Int) (a ∷ z.values one ∷ [])) counted ∙ ap (λ a. apply Add (only Int) (int_of n ∷ a ∷ [])) first ∙ add_one n (can.small (n + 1) (omega (arith, ln))) ∙ ap int_of (sym ln);
              others = λ j target counter. put_other k j u z.values counter ∙ put_other w j v y.values target ∙ p.others j target counter;
              turns = p.turns;
              reads = p.reads;
            },
          );
    }
