-- Ops that fit: of one op, and of code that is put together.
use Rattle.std.proofs.Common.{◌≡◌, ℕ, ◌+◌, ◌<◌, ◌≤◌, List, [], ◌∷◌, ◌++◌, length, Option, Some, None, true, false, refl, sym, ap, ◌∙◌, subst, arith, ⊎_elim}
use Rattle.std.specs.Prelude.{slice_get, slice_set, map, IsTrue, ◌&&◌, ◌==◌, not, if◌then◌else◌}
use Rattle.std.specs.List.{list_all}
use Rattle.std.proofs.lemmas.Bool.{cases_lt, lt-ltb, ltb-true}
use Rattle.osl_value.specs.declared.op_name.OpName.{OpName}
use Rattle.osl_value.specs.declared.op_name.OpName.TheVariants as O
use Rattle.osl_value.specs.declared.shader_kind.ShaderKind.{ShaderKind}
use Rattle.osl_value.specs.declared.types.Base.TheVariants.{Int}
use Rattle.osl_value.specs.declared.types.Ty.{Ty}
use Rattle.osl_value.specs.Apply.{is_allowed}
use Rattle.osl_value.specs.Table.{is_control, updates}
use Rattle.osl_value.specs.Types.{only, is_only}
use Rattle.oso_code.specs.declared.op.Op.{Op}
use Rattle.oso_code.specs.declared.symbol.Symbol.{Symbol}
use Rattle.oso_code.specs.Ops.{range_count, takes_types, takes_arguments, operands, type_at, type_of_symbol, written, reads, is_owner, may_write, may_write_symbol, may_read, may_read_symbol, comes_later, is_number_of, op_fits, is_conditional, takes_condition}
use Rattle.oso_code.proofs.Members.{and_both, both_and}
use Rattle.osl_gencode.specs.Growth.{Extends}
use Rattle.osl_gencode.specs.Validity.{Fitting, Takes, Writes}
use Rattle.osl_gencode.proofs.Growing.{get_left, get_seam, get_some, get_set_other, get_set_same, push_length}
use Rattle.osl_gencode.proofs.OneOp.{op_of}

-- ---- what is read and written, where there are more symbols

read_there : (syms : List Symbol) (owner : Option ℕ) (k : ℕ) → IsTrue (may_read syms owner k) → (symbol : Symbol) × (slice_get syms k ≡ Some symbol)
read_there syms owner k may = by_symbol (slice_get syms k) refl
  where
    by_symbol : (o : Option Symbol) → slice_get syms k ≡ o → (symbol : Symbol) × (slice_get syms k ≡ Some symbol)
    by_symbol None at = absurd (let f : may_read_symbol (comes_later owner k) None ≡ true = ap (may_read_symbol (comes_later owner k)) (sym at) ∙ may in cc f)
    by_symbol (Some symbol) at = (symbol, at)

pub read_number : (syms : List Symbol) (owner : Option ℕ) (k : ℕ) → IsTrue (may_read syms owner k) → IsTrue (is_number_of syms k)
read_number syms owner k may = let h = read_there syms owner k may in lt-ltb k (length syms) (get_some syms k h.0 h.1)

written_there : (kind : ShaderKind) (syms : List Symbol) (owner : Option ℕ) (k : ℕ) → IsTrue (may_write kind syms owner (Some k)) → (symbol : Symbol) × (slice_get syms k ≡ Some symbol)
written_there kind syms owner k may = by_symbol (slice_get syms k) refl
  where
    by_symbol : (o : Option Symbol) → slice_get syms k ≡ o → (symbol : Symbol) × (slice_get syms k ≡ Some symbol)
    by_symbol None at = absurd (let f : may_write_symbol kind (is_owner owner k) None ≡ true = ap (may_write_symbol kind (is_owner owner k)) (sym at) ∙ may in cc f)
    by_symbol (Some symbol) at = (symbol, at)

pub written_number : (kind : ShaderKind) (syms : List Symbol) (owner : Option ℕ) (k : ℕ) → IsTrue (may_write kind syms owner (Some k)) → IsTrue (is_number_of syms k)
written_number kind syms owner k may = let h = written_there kind syms owner k may in lt-ltb k (length syms) (get_some syms k h.0 h.1)

module _ (syms syms1 : List Symbol) (ext : Extends syms syms1) where
  same_symbol : (k : ℕ) (symbol : Symbol) → slice_get syms k ≡ Some symbol → slice_get syms1 k ≡ slice_get syms k
  same_symbol k symbol at = ext.same k (get_some syms k symbol at)

  pub read_later : (owner : Option ℕ) (k : ℕ) → IsTrue (may_read syms owner k) → IsTrue (may_read syms1 owner k)
  read_later owner k may = let h = read_there syms owner k may in ap (may_read_symbol (comes_later owner k)) (same_symbol k h.0 h.1) ∙ may

  pub reads_later : (owner : Option ℕ) (rs : List ℕ) → IsTrue (list_all (may_read syms owner) rs) → IsTrue (list_all (may_read syms1 owner) rs)
  reads_later owner [] may = refl
  reads_later owner (r ∷ rs) may =
      let p = and_both (may_read syms owner r) (list_all (may_read syms owner) rs) may in
      both_and (may_read syms1 owner r) (list_all (may_read syms1 owner) rs) (read_later owner r p.0) (reads_later owner rs p.1)

  pub write_later : (kind : ShaderKind) (owner : Option ℕ) (o : Option ℕ) → IsTrue (may_write kind syms owner o) → IsTrue (may_write kind syms1 owner o)
  write_later kind owner None may = refl
  write_later kind owner (Some k) may = let h = written_there kind syms owner k may in ap (may_write_symbol kind (is_owner owner k)) (same_symbol k h.0 h.1) ∙ may

  number_later : (k : ℕ) → IsTrue (is_number_of syms k) → (slice_get syms1 k ≡ slice_get syms k) × IsTrue (is_number_of syms1 k)
  number_later k is = let lt = ltb-true k (length syms) is in let l = ext.longer in (ext.same k lt, lt-ltb k (length syms1) (omega (arith, lt, l)))

  numbers_later : (rs : List ℕ) → IsTrue (list_all (is_number_of syms) rs) → IsTrue (list_all (is_number_of syms1) rs) × (map (type_at syms1) rs ≡ map (type_at syms) rs)
  numbers_later [] all = (refl, refl)
  numbers_later (r ∷ rs) all =
      let p = and_both (is_number_of syms r) (list_all (is_number_of syms) rs) all in
      let h = number_later r p.0 in let t = numbers_later rs p.1 in
      (both_and (is_number_of syms1 r) (list_all (is_number_of syms1) rs) h.1 t.0, (λ j. ap type_of_symbol h.0 j ∷ t.1 j))

  pub takes_later : (owner : Option ℕ) (rs : List ℕ) (types : List Ty) → Takes owner syms rs types → Takes owner syms1 rs types
  takes_later owner rs types t = record { may = reads_later owner rs t.may; typed = (numbers_later rs (all_numbers rs t.may)).1 ∙ t.typed }
    where
      all_numbers : (xs : List ℕ) → IsTrue (list_all (may_read syms owner) xs) → IsTrue (list_all (is_number_of syms) xs)
      all_numbers [] may = refl
      all_numbers (x ∷ xs) may =
          let p = and_both (may_read syms owner x) (list_all (may_read syms owner) xs) may in
          both_and (is_number_of syms x) (list_all (is_number_of syms) xs) (read_number syms owner x p.0) (all_numbers xs p.1)

  pub writes_later : (kind : ShaderKind) (owner : Option ℕ) (w : ℕ) (ty : Ty) → Writes kind owner syms w ty → Writes kind owner syms1 w ty
  writes_later kind owner w ty t =
      let h = written_there kind syms owner w t.may in
      record { may = write_later kind owner (Some w) t.may; typed = ap type_of_symbol (same_symbol w h.0 h.1) ∙ t.typed }

  -- an op that fits does so where there are more symbols
  pub op_later : (kind : ShaderKind) (owner : Option ℕ) (op : Op) → IsTrue (op_fits kind syms owner op) → IsTrue (op_fits kind syms1 owner op)
  op_later kind owner op h =
      let numbers = list_all (is_number_of syms) op.args in
      let count = length op.jumps == range_count op.name in
      let types = takes_types op.name (map (type_at syms) op.args) in
      let writes = may_write kind syms owner (written op) in
      let reading = list_all (may_read syms owner) (reads op) in
      let all = and_both ((numbers && count) && types) (writes && reading) h in
      let shape = and_both (numbers && count) types all.0 in
      let first = and_both numbers count shape.0 in
      let classes = and_both writes reading all.1 in
      let later = numbers_later op.args first.0 in
      let numbers1 = list_all (is_number_of syms1) op.args in
      let types1 = takes_types op.name (map (type_at syms1) op.args) in
      let writes1 = may_write kind syms1 owner (written op) in
      let reading1 = list_all (may_read syms1 owner) (reads op) in
      both_and ((numbers1 && count) && types1) (writes1 && reading1) (both_and (numbers1 && count) types1 (both_and numbers1 count later.0 first.1) (ap (takes_types op.name) later.1 ∙ shape.1)) (both_and writes1 reading1 (write_later kind owner (written op) classes.0) (reads_later owner (reads op) classes.1))

-- ---- pieces of code

module _ (kind : ShaderKind) (owner : Option ℕ) where
  pub fitting_none : (syms : List Symbol) (ops : List Op) → Fitting kind owner syms ops ops
  fitting_none syms ops = record { each = λ k op le at. absurd (let h = get_some ops k op at in omega (arith, h, le)) }

  pub fitting_later : (syms syms1 : List Symbol) (ops0 ops1 : List Op) → Extends syms syms1 → Fitting kind owner syms ops0 ops1 → Fitting kind owner syms1 ops0 ops1
  fitting_later syms syms1 ops0 ops1 ext f = record { each = λ k op le at. op_later syms syms1 ext kind owner op (f.each k op le at) }

  pub fitting_on : (syms : List Symbol) (ops0 ops1 ops2 : List Op) → Extends ops1 ops2 → Fitting kind owner syms ops0 ops1 → Fitting kind owner syms ops1 ops2 → Fitting kind owner syms ops0 ops2
  fitting_on syms ops0 ops1 ops2 ext f g = record {
    each = λ k op le at. ⊎_elim (λ (l : k < length ops1). f.each k op le (sym (ext.same k l) ∙ at)) (λ (h : length ops1 ≤ k). g.each k op h at) (cases_lt k (length ops1));
  }

  pub fitting_push : (syms : List Symbol) (ops : List Op) (op : Op) → IsTrue (op_fits kind syms owner op) → Fitting kind owner syms ops (ops ++ op ∷ [])
  fitting_push syms ops op fits = record { each = λ k x le at. by_place k x le at }
    where
      by_place : (k : ℕ) (x : Op) → length ops ≤ k → slice_get (ops ++ op ∷ []) k ≡ Some x → IsTrue (op_fits kind syms owner x)
      by_place k x le at =
          let l = get_some (ops ++ op ∷ []) k x at in
          let n = push_length ops op in
          let e : k ≡ length ops = omega (arith, l, le, n) in
          let same : Some op ≡ Some x = sym (get_seam ops op) ∙ ap (slice_get (ops ++ op ∷ [])) (sym e) ∙ at in
          let e2 : op ≡ x = cc same in subst (λ z. IsTrue (op_fits kind syms owner z)) e2 fits

  -- an op that was set aside is written over, after the ops of its ranges were added
  pub fitting_set : (syms : List Symbol) (ops0 ops1 ops2 : List Op) (x op : Op) → Extends (ops1 ++ x ∷ []) ops2 → IsTrue (op_fits kind syms owner op) → Fitting kind owner syms ops0 ops1 → Fitting kind owner syms (ops1 ++ x ∷ []) ops2 → Fitting kind owner syms ops0 (slice_set ops2 (length ops1) op)
  fitting_set syms ops0 ops1 ops2 x op ext fits f g = record { each = λ k y le at. by_place k y le at }
    where
      n : length (ops1 ++ x ∷ []) ≡ length ops1 + 1
      n = push_length ops1 x

      by_place : (k : ℕ) (y : Op) → length ops0 ≤ k → slice_get (slice_set ops2 (length ops1) op) k ≡ Some y → IsTrue (op_fits kind syms owner y)
      by_place k y le at =
          ⊎_elim (λ (l : k < length ops1).
          f.each k y le (sym (get_left ops1 (x ∷ []) k l) ∙ sym (ext.same k (omega (arith, l, n))) ∙ sym (get_set_other ops2 (length ops1) k op (λ e. absurd (omega (arith, l, e)))) ∙ at)) (λ (h : length ops1 ≤ k).
          ⊎_elim (λ (l : k < length ops1 + 1).
          let e : k ≡ length ops1 = omega (arith, h, l) in
          let lt = ext.longer in
          let same : Some op ≡ Some y = sym (get_set_same ops2 (length ops1) op (omega (arith, lt, n))) ∙ ap (slice_get (slice_set ops2 (length ops1) op)) (sym e) ∙ at in
          let e2 : op ≡ y = cc same in subst (λ z. IsTrue (op_fits kind syms owner z)) e2 fits) (λ (m : length ops1 + 1 ≤ k).
          g.each k y (omega (arith, m, n)) (sym (get_set_other ops2 (length ops1) k op (λ e. absurd (omega (arith, m, e)))) ∙ at)) (cases_lt k (length ops1 + 1))) (cases_lt k (length ops1))

-- ---- one op

no_ranges : (name : OpName) → is_control name ≡ false → range_count name ≡ 0
no_ranges O.If plain = absurd (cc plain)
no_ranges O.For plain = absurd (cc plain)
no_ranges O.While plain = absurd (cc plain)
no_ranges O.DoWhile plain = absurd (cc plain)
no_ranges O.FunctionCall plain = absurd (cc plain)
no_ranges name plain = refl

module _ (kind : ShaderKind) (owner : Option ℕ) (syms : List Symbol) where
  -- by its parts
  fits_by : (op : Op) → IsTrue (list_all (is_number_of syms) op.args) → IsTrue (length op.jumps == range_count op.name) → IsTrue (takes_types op.name (map (type_at syms) op.args)) → IsTrue (may_write kind syms owner (written op)) → IsTrue (list_all (may_read syms owner) (reads op)) → IsTrue (op_fits kind syms owner op)
  fits_by op numbers count types writes reading =
      both_and ((list_all (is_number_of syms) op.args && (length op.jumps == range_count op.name)) && takes_types op.name (map (type_at syms) op.args)) (may_write kind syms owner (written op) && list_all (may_read syms owner) (reads op))
      (both_and (list_all (is_number_of syms) op.args && (length op.jumps == range_count op.name)) (takes_types op.name (map (type_at syms) op.args)) (both_and (list_all (is_number_of syms) op.args) (length op.jumps == range_count op.name) numbers count) types)
      (both_and (may_write kind syms owner (written op)) (list_all (may_read syms owner) (reads op)) writes reading)

  pub all_numbers : (rs : List ℕ) → IsTrue (list_all (may_read syms owner) rs) → IsTrue (list_all (is_number_of syms) rs)
  all_numbers [] may = refl
  all_numbers (x ∷ xs) may =
      let p = and_both (may_read syms owner x) (list_all (may_read syms owner) xs) may in
      both_and (is_number_of syms x) (list_all (is_number_of syms) xs) (read_number syms owner x p.0) (all_numbers xs p.1)

  -- an operation that reads its operands and writes another symbol, or one of them
  pub compute_fits : (name : OpName) (w : ℕ) (rs : List ℕ) (ty : Ty) (types : List Ty) → is_control name ≡ false → updates name ≡ false → is_allowed name ty types ≡ true → Writes kind owner syms w ty → Takes owner syms rs types → IsTrue (op_fits kind syms owner (op_of name w rs))
  compute_fits name w rs ty types plain reading allowed write take =
      fits_by (op_of name w rs)
      (both_and (is_number_of syms w) (list_all (is_number_of syms) rs) (written_number kind syms owner w write.may) (all_numbers rs take.may))
      (ap (λ n. 0 == n) (no_ranges name plain))
      (ap (λ c. if c then takes_condition name (map (type_at syms) (w ∷ rs)) else takes_arguments name (map (type_at syms) (w ∷ rs))) plain ∙ ap (λ u. is_allowed name (type_at syms w) (if u then type_at syms w ∷ map (type_at syms) rs else map (type_at syms) rs)) reading ∙ (λ j. is_allowed name (write.typed j) (take.typed j)) ∙ allowed)
      (ap (λ c. may_write kind syms owner (if c then None else Some w)) plain ∙ write.may)
      (ap (λ c. list_all (may_read syms owner) (if c then w ∷ rs else operands name (w ∷ rs))) plain ∙ ap (λ u. list_all (may_read syms owner) (if u then w ∷ rs else rs)) reading ∙ take.may)

  -- one that reads the symbol that it writes
  pub update_fits : (name : OpName) (w : ℕ) (rs : List ℕ) (ty : Ty) (types : List Ty) → is_control name ≡ false → updates name ≡ true → is_allowed name ty (ty ∷ types) ≡ true → Writes kind owner syms w ty → Takes owner syms (w ∷ rs) (ty ∷ types) → IsTrue (op_fits kind syms owner (op_of name w rs))
  update_fits name w rs ty types plain updating allowed write take =
      fits_by (op_of name w rs)
      (all_numbers (w ∷ rs) take.may)
      (ap (λ n. 0 == n) (no_ranges name plain))
      (ap (λ c. if c then takes_condition name (map (type_at syms) (w ∷ rs)) else takes_arguments name (map (type_at syms) (w ∷ rs))) plain ∙ ap (λ u. is_allowed name (type_at syms w) (if u then type_at syms w ∷ map (type_at syms) rs else map (type_at syms) rs)) updating ∙ (λ j. is_allowed name (write.typed j) (take.typed j)) ∙ allowed)
      (ap (λ c. may_write kind syms owner (if c then None else Some w)) plain ∙ write.may)
      (ap (λ c. list_all (may_read syms owner) (if c then w ∷ rs else operands name (w ∷ rs))) plain ∙ ap (λ u. list_all (may_read syms owner) (if u then w ∷ rs else rs)) updating ∙ take.may)

  -- ops with a condition, which is an int
  pub condition_fits : (name : OpName) (c : ℕ) (jumps : List ℕ) → is_control name ≡ true → is_conditional name ≡ true → IsTrue (length jumps == range_count name) → Takes owner syms (c ∷ []) (only Int ∷ []) → IsTrue (op_fits kind syms owner (record { name = name; args = c ∷ []; jumps = jumps }))
  condition_fits name c jumps control conditional count take =
      fits_by (record { name = name; args = c ∷ []; jumps = jumps })
      (all_numbers (c ∷ []) take.may)
      count
      (ap (λ t. if t then takes_condition name (type_at syms c ∷ []) else takes_arguments name (type_at syms c ∷ [])) control ∙ ap (takes_condition name) take.typed ∙ ap (λ t. t && is_only Int (only Int)) conditional)
      (ap (λ t. may_write kind syms owner (if t then None else Some c)) control)
      (ap (λ t. list_all (may_read syms owner) (if t then c ∷ [] else operands name (c ∷ []))) control ∙ take.may)

  -- ops without arguments
  pub bare_fits : (name : OpName) (jumps : List ℕ) → is_control name ≡ true → is_conditional name ≡ false → IsTrue (length jumps == range_count name) → IsTrue (op_fits kind syms owner (record { name = name; args = []; jumps = jumps }))
  bare_fits name jumps control unconditional count =
      fits_by (record { name = name; args = []; jumps = jumps })
      refl
      count
      (ap (λ t. if t then takes_condition name [] else takes_arguments name []) control ∙ ap not unconditional)
      (ap (λ t. may_write kind syms owner (if t then None else None)) control)
      (ap (λ t. list_all (may_read syms owner) (if t then [] else [])) control)
