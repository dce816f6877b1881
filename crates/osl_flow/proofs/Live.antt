-- What rows say of a spot, and what is live there.
use Rattle.std.proofs.Common.{◌≡◌, ℕ, zero, suc, ◌+◌, ◌<◌, ◌≤◌, ◌==◌, inl, inr, Bool, true, false, not, List, [], ◌∷◌, ◌++◌, length, get_or, set, Option, None, Some, refl, sym, ap, ◌∙◌, subst, arith, ⊎_elim}
use Rattle.std.specs.Prelude.{◌||◌, ◌&&◌, if◌then◌else◌, slice_get, nat_lt, IsTrue}
use Rattle.std.specs.List.{list_any, list_all, All}
use Rattle.std.proofs.lemmas.Bool.{eqb-true, eq-eqb, ltb-true, lt-ltb, le-ltb, cases_lt, cases_eq, or_cases, or_left, or_right, and_parts, and_from, cases_Bool}
use Rattle.std.proofs.lemmas.List.Elements.{All-cons, All-nil, All-tail, All-set}
use Rattle.std.proofs.lemmas.List.{get_or-set_same, get_or-set_other, length-set, get_or_default, set-get_or}
use Rattle.osl_value.specs.Table.{is_control, updates}
use Rattle.osl_value.specs.declared.op_name.OpName.{OpName}
use Rattle.oso_code.specs.declared.symbol.Symbol.{Symbol}
use Rattle.oso_step.specs.Decoded.{seen_step}
use Rattle.oso_step.specs.declared.step.Step as D
use Rattle.oso_step.specs.declared.step.Step.TheVariants as W
use Rattle.oso_code.specs.Ops.{operands, reads, written}
use Rattle.oso_code.specs.Ranges.{steps_of}
use Rattle.oso_code.specs.Steps.{Step, step_of}
use Rattle.oso_code.specs.Uses.{reads_on_entry, reads_in_test, written_by}
use Rattle.oso_code.specs.Valid.{IsValid}
use Rattle.oso_code.specs.declared.op.Op.{Op}
use Rattle.oso_code.specs.declared.op.Section.{Section}
use Rattle.oso_code.specs.declared.raw.Raw.{Raw}
use Rattle.oso_code.proofs.Nested.{op_facts}
use Rattle.oso_code.proofs.Uses.{step_uses}
use Rattle.osl_rewrites.specs.Flow.{In, Among, nexts, nexts_of, test_nexts, gate_nexts, reads_at, writes_at, Live, Reads, Passes, Settled}
use Rattle.osl_rewrites.specs.declared.point.Around.{Around}
use Rattle.osl_rewrites.specs.declared.point.Spot.{Spot}
use Rattle.osl_rewrites.specs.declared.point.Spot.TheVariants.{At, Test, Gate, Done}
use Rattle.osl_flow.specs.Rows.{number, row_at, is_symbol, before, UsesBelow, lacks, all_lack, IsReal, live_bit, wanted, SettledAt, AllEarned, Sized, Passed}
use Rattle.osl_flow.specs.Uses.{bit, has, writes_of}

-- ---- lists

has_in : (k : ℕ) (xs : List ℕ) → has xs k ≡ true → In k xs
has_in k [] h = absurd (cc h)
has_in k (x ∷ xs) h = ⊎_elim (λ (e : (x == k) ≡ true). inl (sym (eqb-true x k e))) (λ (t : has xs k ≡ true). inr (has_in k xs t)) (or_cases (x == k) (has xs k) h)

in_has : (k : ℕ) (xs : List ℕ) → In k xs → has xs k ≡ true
in_has k [] m = absurd m
in_has k (x ∷ xs) m = ⊎_elim (λ (e : k ≡ x). or_left (x == k) (has xs k) (eq-eqb x k (sym e))) (λ (t : In k xs). or_right (x == k) (has xs k) (in_has k xs t)) m

-- one of the spots that has the symbol
pub record OneOf (row : Spot → ℕ → Bool) (spots : List Spot) (k : ℕ) : Type 0 where
  pub spot : Spot
  pub among : Among spot spots
  pub has_it : row spot k ≡ true

pub any_one : (row : Spot → ℕ → Bool) (spots : List Spot) (k : ℕ) → list_any (λ q. row q k) spots ≡ true → OneOf row spots k
any_one row [] k h = absurd (cc h)
any_one row (q ∷ qs) k h = ⊎_elim
    (λ (e : row q k ≡ true). record { spot = q; among = inl refl; has_it = e })
    (λ (t : list_any (λ q. row q k) qs ≡ true). let o = any_one row qs k t in record { spot = o.spot; among = inr o.among; has_it = o.has_it })
    (or_cases (row q k) (list_any (λ q. row q k) qs) h)

pub one_any : (row : Spot → ℕ → Bool) (spots : List Spot) (k : ℕ) (q : Spot) → Among q spots → row q k ≡ true → list_any (λ q. row q k) spots ≡ true
one_any row [] k q m h = absurd m
one_any row (p ∷ ps) k q m h = ⊎_elim
    (λ (e : q ≡ p). or_left (row p k) (list_any (λ q. row q k) ps) (subst (λ z. row z k ≡ true) e h))
    (λ (t : Among q ps). or_right (row p k) (list_any (λ q. row q k) ps) (one_any row ps k q t h)) m

not_symbol : (written : Option ℕ) (k : ℕ) → not (is_symbol written k) ≡ true → written ≡ Some k → ⊥
not_symbol None k h e = cc e
not_symbol (Some w) k h e = let same : w ≡ k = cc e in both_not (w == k) h (eq-eqb w k same)
  where
    both_not : (b : Bool) → not b ≡ true → b ≡ true → ⊥
    both_not true n t = cc n
    both_not false n t = cc t

symbol_not : (written : Option ℕ) (k : ℕ) → (written ≡ Some k → ⊥) → not (is_symbol written k) ≡ true
symbol_not None k h = refl
symbol_not (Some w) k h = ⊎_elim (λ (e : (w == k) ≡ true). absurd (h (ap Some (eqb-true w k e)))) (λ (e : (w == k) ≡ false). ap not e) (cases_Bool (w == k))

-- ---- what a spot asks for

module _ (raw : Raw) (table : ℕ → Around) (asked : ℕ → Bool) (rows : List (List Bool)) where
  -- what live symbols make wanted is live
  pub wanted_live : AllEarned raw table asked rows → (p : Spot) (k : ℕ) → wanted raw table rows p k ≡ true → Live (steps_of raw) raw.sections table asked k p
  wanted_live earned p k h =
      let steps = steps_of raw in
      let spots = nexts steps raw.sections table p in
      let goes = list_any (λ q. live_bit raw table rows q k) spots in
      let over = not (is_symbol (writes_at steps p) k) in
      ⊎_elim
      (λ (passes : (goes && over) ≡ true).
      let both = and_parts goes over passes in
      let one = any_one (live_bit raw table rows) spots k both.0 in
      Passes p one.spot one.among (not_symbol (writes_at steps p) k both.1) (earned one.spot k one.has_it))
      (λ (read : has (reads_at steps p) k ≡ true). Reads p (has_in k (reads_at steps p) read))
      (or_cases (goes && over) (has (reads_at steps p) k) h)

  -- rows that hold what is wanted hold what is live
  pub all_settled : ((p : Spot) → SettledAt raw table rows p) → ((k : ℕ) → asked k ≡ true → live_bit raw table rows Done k ≡ true) → Settled (steps_of raw) raw.sections table asked (live_bit raw table rows)
  all_settled settled asks =
      let steps = steps_of raw in
      let goes = λ (p : Spot) (k : ℕ). list_any (λ q. live_bit raw table rows q k) (nexts steps raw.sections table p) in
      let over = λ (p : Spot) (k : ℕ). not (is_symbol (writes_at steps p) k) in
      record {
        read = λ p k m. settled p k (or_right (goes p k && over p k) (has (reads_at steps p) k) (in_has k (reads_at steps p) m));
        pass = λ p q k m other h. settled p k (or_left (goes p k && over p k) (has (reads_at steps p) k) (and_from (goes p k) (over p k) (one_any (live_bit raw table rows) (nexts steps raw.sections table p) k q m h) (symbol_not (writes_at steps p) k other)));
        asks = asks;
      }

-- ---- what steps use

all_number : (n : ℕ) (xs : List ℕ) (symbols : List ℕ) → All (λ k. k < n) (xs ++ symbols) → All (λ k. k < n) xs × All (λ k. k < n) symbols
all_number n [] symbols h = (All-nil (λ k. k < n), h)
all_number n (x ∷ xs) symbols h = let rest = all_number n xs symbols (All-tail (λ k. k < n) x (xs ++ symbols) h) in (All-cons (λ k. k < n) x xs (h 0 0 (omega arith)) rest.0, rest.1)

all_numbers : (n : ℕ) (xs : List ℕ) → IsTrue (list_all (λ k. nat_lt k n) xs) → All (λ k. k < n) xs
all_numbers n [] h = All-nil (λ k. k < n)
all_numbers n (x ∷ xs) h =
    let p = and_parts (nat_lt x n) (list_all (λ k. nat_lt k n) xs) h in
    All-cons (λ k. k < n) x xs (ltb-true x n p.0) (all_numbers n xs p.1)

operands_number : (n : ℕ) (name : OpName) (args : List ℕ) → All (λ k. k < n) args → All (λ k. k < n) (operands name args)
operands_number n name [] h = h
operands_number n name (x ∷ xs) h = by_updates (updates name)
  where
    by_updates : (b : Bool) → All (λ k. k < n) (if b then x ∷ xs else xs)
    by_updates true = h
    by_updates false = All-tail (λ k. k < n) x xs h

reads_number : (n : ℕ) (op : Op) → All (λ k. k < n) op.args → All (λ k. k < n) (reads op)
reads_number n op h = by_control (is_control op.name)
  where
    by_control : (b : Bool) → All (λ k. k < n) (if b then op.args else operands op.name op.args)
    by_control true = h
    by_control false = operands_number n op.name op.args h

written_number : (n : ℕ) (op : Op) (k : ℕ) → All (λ k. k < n) op.args → written op ≡ Some k → k < n
written_number n op k h = by_control (is_control op.name)
  where
    first_number : (args : List ℕ) → All (λ k. k < n) args → slice_get args 0 ≡ Some k → k < n
    first_number [] all e = absurd (cc e)
    first_number (x ∷ xs) all e = let same : x ≡ k = cc e in subst (λ z. z < n) same (all 0 0 (omega arith))

    by_control : (b : Bool) → (if b then None else slice_get op.args 0) ≡ Some k → k < n
    by_control true e = absurd (cc e)
    by_control false e = first_number op.args h e

pub step_below : (raw : Raw) → IsValid raw → (i : ℕ) (op : Op) → slice_get raw.ops i ≡ Some op → UsesBelow (length raw.symbols) (step_of raw.symbols i op)
step_below raw valid i op is =
    let n = length raw.symbols in
    let uses = step_uses raw valid i op is in
    let args = all_numbers n op.args (op_facts raw i op (valid.ops i op is)).numbers in
    let step = step_of raw.symbols i op in
    let all = all_number n (reads_on_entry step) (reads_in_test step) (subst (All (λ k. k < n)) (sym uses.reads) (reads_number n op args)) in
    record { entry = all.0; test = all.1; written = λ k e. written_number n op k args (sym uses.written ∙ e) }

-- the types of symbols do not matter
any_symbols : (n : ℕ) (symbols others : List Symbol) (s : D.Step) → UsesBelow n (seen_step symbols s) → UsesBelow n (seen_step others s)
any_symbols n symbols others (W.Compute name target sources) h = record { entry = h.entry; test = h.test; written = h.written }
any_symbols n symbols others (W.Branch c holds fails) h = record { entry = h.entry; test = h.test; written = h.written }
any_symbols n symbols others (W.Loop tested l) h = record { entry = h.entry; test = h.test; written = h.written }
any_symbols n symbols others (W.Call body) h = record { entry = h.entry; test = h.test; written = h.written }
any_symbols n symbols others (W.Leave way) h = record { entry = h.entry; test = h.test; written = h.written }

pub seen_below : (raw : Raw) → IsValid raw → (i : ℕ) (op : Op) (s : D.Step) (symbols : List Symbol) → slice_get raw.ops i ≡ Some op → seen_step raw.symbols s ≡ step_of raw.symbols i op → UsesBelow (length raw.symbols) (seen_step symbols s)
seen_below raw valid i op s symbols is e = any_symbols (length raw.symbols) raw.symbols symbols s (subst (UsesBelow (length raw.symbols)) (sym e) (step_below raw valid i op is))

-- ---- what is gathered for a spot

or_false : (b : Bool) → b ≡ ((b && true) || false)
or_false true = refl
or_false false = refl

or_true : (b c : Bool) → (b || c) ≡ ((b && true) || c)
or_true true c = refl
or_true false c = refl

module _ (raw : Raw) (table : ℕ → Around) (rows : List (List Bool)) (k : ℕ) where
  pub joined_any : (n m : ℕ) (spots : List Spot) (more joined : List Bool) → n ≡ length raw.ops → m ≡ length raw.sections → bit more k ≡ false → bit joined k ≡ (bit more k || list_any (λ q. row_at rows n m q k) spots)
      → bit joined k ≡ list_any (λ q. live_bit raw table rows q k) spots
  joined_any n m spots more joined en em none is =
      is ∙ ap (λ b. b || list_any (λ q. row_at rows n m q k) spots) none
      ∙ ap (λ n. list_any (λ q. row_at rows n m q k) spots) en ∙ ap (λ m. list_any (λ q. row_at rows (length raw.ops) m q k) spots) em

  pub gathered_op : (i : ℕ) (a : Around) (seen step : Step) (spots : List Spot) (joined new : List Bool) → slice_get (steps_of raw) i ≡ Some step → a ≡ table i → seen ≡ step → spots ≡ nexts_of i a seen
      → bit joined k ≡ list_any (λ q. live_bit raw table rows q k) spots → bit new k ≡ ((bit joined k && not (is_symbol (written_by seen) k)) || has (reads_on_entry seen) k) → bit new k ≡ wanted raw table rows (At i) k
  gathered_op i a seen step spots joined new is ea es espots ej en =
      let F = λ (b : Bool) (s : Step). (b && not (is_symbol (written_by s) k)) || has (reads_on_entry s) k in
      let G = λ (qs : List Spot). list_any (λ q. live_bit raw table rows q k) qs in
      en ∙ ap (λ b. F b seen) (ej ∙ ap G (espots ∙ ap (λ a. nexts_of i a seen) ea ∙ ap (nexts_of i (table i)) es)) ∙ ap (F (G (nexts_of i (table i) step))) es
      ∙ sym (ap (λ o. before (live_bit raw table rows) (elim o [ None ↦ [] | Some step ↦ nexts_of i (table i) step ]) (elim o [ None ↦ None | Some step ↦ written_by step ]) (elim o [ None ↦ [] | Some step ↦ reads_on_entry step ]) k) is)

  pub gathered_test : (i : ℕ) (a : Around) (seen step : Step) (spots : List Spot) (joined new : List Bool) → slice_get (steps_of raw) i ≡ Some step → a ≡ table i → seen ≡ step → spots ≡ test_nexts i a seen
      → bit joined k ≡ list_any (λ q. live_bit raw table rows q k) spots → bit new k ≡ (bit joined k || has (reads_in_test seen) k) → bit new k ≡ wanted raw table rows (Test i) k
  gathered_test i a seen step spots joined new is ea es espots ej en =
      let F = λ (b : Bool) (s : Step). (b && true) || has (reads_in_test s) k in
      let G = λ (qs : List Spot). list_any (λ q. live_bit raw table rows q k) qs in
      en ∙ or_true (bit joined k) (has (reads_in_test seen) k)
      ∙ ap (λ b. F b seen) (ej ∙ ap G (espots ∙ ap (λ a. test_nexts i a seen) ea ∙ ap (test_nexts i (table i)) es)) ∙ ap (F (G (test_nexts i (table i) step))) es
      ∙ sym (ap (λ o. before (live_bit raw table rows) (elim o [ None ↦ [] | Some step ↦ test_nexts i (table i) step ]) None (elim o [ None ↦ [] | Some step ↦ reads_in_test step ]) k) is)

  pub gathered_gate : (j : ℕ) (section : Section) (spots : List Spot) (joined : List Bool) → slice_get raw.sections j ≡ Some section → spots ≡ gate_nexts j section
      → bit joined k ≡ list_any (λ q. live_bit raw table rows q k) spots → bit joined k ≡ wanted raw table rows (Gate j) k
  gathered_gate j section spots joined is espots ej =
      let G = λ (qs : List Spot). list_any (λ q. live_bit raw table rows q k) qs in
      or_false (bit joined k) ∙ ap (λ b. (b && true) || false) (ej ∙ ap G espots)
      ∙ sym (ap (λ o. before (live_bit raw table rows) (elim o [ None ↦ Done ∷ [] | Some section ↦ gate_nexts j section ]) None [] k) is)

-- ---- the places of rows

-- where a spot's row is
pub data Placed (n m : ℕ) (x : ℕ) : Spot → Type 0 where
  InOps : (i : ℕ) → i < n → x ≡ i → Placed n m x (At i)
  InTests : (i : ℕ) → i < n → x ≡ n + i → Placed n m x (Test i)
  InGates : (j : ℕ) → j < m → x ≡ n + n + 1 + j → Placed n m x (Gate j)
  AtEnd : (p : Spot) → x ≡ n + n → Placed n m x p
  Nowhere : (p : Spot) → x ≡ n + n + 1 + m → Placed n m x p

pub placed : (n m : ℕ) (p : Spot) → Placed n m (number n m p) p
placed n m (At i) = ⊎_elim (λ (lt : i < n). InOps i lt (ap (λ b. if b then i else n + n + 1 + m) (lt-ltb i n lt))) (λ (le : n ≤ i). Nowhere (At i) (ap (λ b. if b then i else n + n + 1 + m) (le-ltb i n le))) (cases_lt i n)
placed n m (Test i) = ⊎_elim (λ (lt : i < n). InTests i lt (ap (λ b. if b then n + i else n + n + 1 + m) (lt-ltb i n lt))) (λ (le : n ≤ i). Nowhere (Test i) (ap (λ b. if b then n + i else n + n + 1 + m) (le-ltb i n le))) (cases_lt i n)
placed n m (Gate j) = ⊎_elim (λ (lt : j < m). InGates j lt (ap (λ b. if b then n + n + 1 + j else n + n) (lt-ltb j m lt))) (λ (le : m ≤ j). AtEnd (Gate j) (ap (λ b. if b then n + n + 1 + j else n + n) (le-ltb j m le))) (cases_lt j m)
placed n m Done = AtEnd Done refl

-- the place of an op, of a loop's test or of a gate is of no other spot
only_op : (n m i x : ℕ) (q : Spot) → i < n → x ≡ i → Placed n m x q → q ≡ At i
only_op n m i x _ lt e (InOps j less h) = ap At (omega arith)
only_op n m i x _ lt e (InTests j less h) = absurd (omega arith)
only_op n m i x _ lt e (InGates j less h) = absurd (omega arith)
only_op n m i x q lt e (AtEnd _ h) = absurd (omega arith)
only_op n m i x q lt e (Nowhere _ h) = absurd (omega arith)

only_test : (n m i x : ℕ) (q : Spot) → i < n → x ≡ n + i → Placed n m x q → q ≡ Test i
only_test n m i x _ lt e (InOps j less h) = absurd (omega arith)
only_test n m i x _ lt e (InTests j less h) = ap Test (omega arith)
only_test n m i x _ lt e (InGates j less h) = absurd (omega arith)
only_test n m i x q lt e (AtEnd _ h) = absurd (omega arith)
only_test n m i x q lt e (Nowhere _ h) = absurd (omega arith)

only_gate : (n m i x : ℕ) (q : Spot) → i < m → x ≡ n + n + 1 + i → Placed n m x q → q ≡ Gate i
only_gate n m i x _ lt e (InOps j less h) = absurd (omega arith)
only_gate n m i x _ lt e (InTests j less h) = absurd (omega arith)
only_gate n m i x _ lt e (InGates j less h) = ap Gate (omega arith)
only_gate n m i x q lt e (AtEnd _ h) = absurd (omega arith)
only_gate n m i x q lt e (Nowhere _ h) = absurd (omega arith)

-- the row of a spot that is computed is there, and its own
pub record Own (n m : ℕ) (p : Spot) : Type 0 where
  pub there : number n m p < n + n + 1 + m
  pub only : (q : Spot) → number n m q ≡ number n m p → q ≡ p

pub real_own : (raw : Raw) (p : Spot) → IsReal raw p → Own (length raw.ops) (length raw.sections) p
real_own raw (At i) lt =
    let n = length raw.ops in let m = length raw.sections in
    let e : number n m (At i) ≡ i = ap (λ b. if b then i else n + n + 1 + m) (lt-ltb i n lt) in
    record { there = omega (arith, e, lt); only = λ q h. only_op n m i (number n m q) q lt (h ∙ e) (placed n m q) }
real_own raw (Test i) lt =
    let n = length raw.ops in let m = length raw.sections in
    let e : number n m (Test i) ≡ n + i = ap (λ b. if b then n + i else n + n + 1 + m) (lt-ltb i n lt) in
    record { there = omega (arith, e, lt); only = λ q h. only_test n m i (number n m q) q lt (h ∙ e) (placed n m q) }
real_own raw (Gate i) lt =
    let n = length raw.ops in let m = length raw.sections in
    let e : number n m (Gate i) ≡ n + n + 1 + i = ap (λ b. if b then n + n + 1 + i else n + n) (lt-ltb i m lt) in
    record { there = omega (arith, e, lt); only = λ q h. only_gate n m i (number n m q) q lt (h ∙ e) (placed n m q) }
real_own raw Done h = absurd h

-- ---- one row grows

all_lack_set : (rows : List (List Bool)) (at : ℕ) (new : List Bool) → at < length rows → all_lack (set rows at new) + lacks (get_or rows at []) ≡ all_lack rows + lacks new
all_lack_set [] at new lt = absurd (omega arith)
all_lack_set (row ∷ rows) zero new lt = omega arith
all_lack_set (row ∷ rows) (suc at) new lt = let h = all_lack_set rows at new (omega arith) in omega (arith, h)

module _ (raw : Raw) (table : ℕ → Around) (rows : List (List Bool)) (p : Spot) (at : ℕ) (row more new d : List Bool) (changed : Bool) where
  pub grown : IsReal raw p → Sized raw table rows → at ≡ number (length raw.ops) (length raw.sections) p → row ≡ get_or rows at d → ((k : ℕ) → bit more k ≡ wanted raw table rows p k)
      → length new ≡ length row → ((k : ℕ) → bit new k ≡ (bit row k || bit more k)) → (changed ≡ false → new ≡ row) → (changed ≡ true → lacks new < lacks row) → Passed raw table rows (set rows at new) changed
  grown real sized place read wants size bits still rises =
      let n = length raw.ops in
      let m = length raw.sections in
      let own = real_own raw p real in
      let there = own.there in
      let long = sized.long in
      let lt : at < length rows = omega (arith, there, long, place) in
      let was : row ≡ get_or rows at [] = read ∙ get_or_default rows at d [] lt in
      let here = λ (q : Spot) (k : ℕ) (e : number n m q ≡ at). ap (λ x. bit (get_or (set rows at new) x []) k) e ∙ ap (λ r. bit r k) (get_or-set_same rows at new [] lt) in
      let other = λ (q : Spot) (k : ℕ) (ne : number n m q ≡ at → ⊥). ap (λ r. bit r k) (get_or-set_other rows at (number n m q) new [] ne) in
      let old = λ (q : Spot) (k : ℕ) (e : number n m q ≡ at). ap (λ x. bit (get_or rows x []) k) e ∙ sym (ap (λ r. bit r k) was) in
      record {
        sized = record { long = length-set rows at new ∙ sized.long; wide = record { each = All-set (λ r. length r ≡ length raw.symbols) rows at new (size ∙ ap length was ∙ sized.wide.each at [] lt) sized.wide.each } };
        grows = λ q k h. ⊎_elim
            (λ (e : number n m q ≡ at). here q k e ∙ bits k ∙ or_left (bit row k) (bit more k) (sym (old q k e) ∙ h))
            (λ (ne : number n m q ≡ at → ⊥). other q k ne ∙ h)
            (cases_eq (number n m q) at);
        earned = λ asked all q k h. ⊎_elim
            (λ (e : number n m q ≡ at). ⊎_elim
            (λ (mine : bit row k ≡ true). all q k (old q k e ∙ mine))
            (λ (added : bit more k ≡ true). subst (λ z. Live (steps_of raw) raw.sections table asked k z) (sym (own.only q (e ∙ place))) (wanted_live raw table asked rows all p k (sym (wants k) ∙ added)))
            (or_cases (bit row k) (bit more k) (sym (bits k) ∙ sym (here q k e) ∙ h)))
            (λ (ne : number n m q ≡ at → ⊥). all q k (sym (other q k ne) ∙ h))
            (cases_eq (number n m q) at);
        still = λ e. ap (set rows at) (still e ∙ was) ∙ set-get_or rows at [];
        rises = λ e. let less = rises e in let sum = all_lack_set rows at new lt in let same = ap lacks was in omega (arith, less, sum, same);
      }

-- what was joined for an op is what is live after it
pub after_any : (raw : Raw) (table : ℕ → Around) (rows : List (List Bool)) (k i : ℕ) (a : Around) (seen step : Step) (spots : List Spot) (joined : List Bool) → slice_get (steps_of raw) i ≡ Some step → a ≡ table i → seen ≡ step → spots ≡ nexts_of i a seen
    → bit joined k ≡ list_any (λ q. live_bit raw table rows q k) spots → bit joined k ≡ list_any (λ q. live_bit raw table rows q k) (nexts (steps_of raw) raw.sections table (At i))
after_any raw table rows k i a seen step spots joined is ea es espots ej =
    let G = λ (qs : List Spot). list_any (λ q. live_bit raw table rows q k) qs in
    ej ∙ ap G (espots ∙ ap (λ a. nexts_of i a seen) ea ∙ ap (nexts_of i (table i)) es) ∙ sym (ap (λ o. G (elim o [ None ↦ [] | Some step ↦ nexts_of i (table i) step ])) is)

-- the symbols of an op of valid code are among the code's
pub reads_below : (raw : Raw) → IsValid raw → (i : ℕ) (op : Op) → slice_get raw.ops i ≡ Some op → All (λ k. k < length raw.symbols) (reads op)
reads_below raw valid i op is = reads_number (length raw.symbols) op (all_numbers (length raw.symbols) op.args (op_facts raw i op (valid.ops i op is)).numbers)

pub writes_below : (raw : Raw) → IsValid raw → (i : ℕ) (op : Op) → slice_get raw.ops i ≡ Some op → All (λ k. k < length raw.symbols) (writes_of op)
writes_below raw valid i op is = one (written op) (λ k e. written_number (length raw.symbols) op k (all_numbers (length raw.symbols) op.args (op_facts raw i op (valid.ops i op is)).numbers) e)
  where
    one : (o : Option ℕ) → ((k : ℕ) → o ≡ Some k → k < length raw.symbols) → All (λ k. k < length raw.symbols) (elim o [ None ↦ [] | Some k ↦ k ∷ [] ])
    one None h = All-nil (λ k. k < length raw.symbols)
    one (Some k) h = All-cons (λ k. k < length raw.symbols) k [] (h k refl) (All-nil (λ k. k < length raw.symbols))
