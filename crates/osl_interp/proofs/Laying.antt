-- What valid code says of the symbols of an op, and what slots hold.
use Rattle.std.proofs.Common.{◌≡◌, ◌≢◌, ℕ, ◌<◌, List, [], ◌∷◌, length, map, get_or, Option, Some, Bool, true, false, refl, sym, ap, ◌∙◌, subst, arith}
use Rattle.std.specs.Prelude.{slice_get, slice_set, ◌==◌, if◌then◌else◌, IsTrue}
use Rattle.std.specs.List.{list_all}
use Rattle.std.proofs.lemmas.Bool.{ltb-true}
use Rattle.std.proofs.lemmas.List.{length-map, get_or-map, get_or-set_same, get_or-set_other}
use Rattle.osl_value.specs.declared.op_name.OpName.{OpName}
use Rattle.osl_value.specs.declared.op_name.OpName.TheVariants as O
use Rattle.osl_value.specs.declared.types.Base.TheVariants.{Int}
use Rattle.osl_value.specs.declared.types.Ty.{Ty}
use Rattle.osl_value.specs.AnyValue.{AnyValue, Parts, argument, type_of}
use Rattle.osl_value.specs.Apply.{is_allowed}
use Rattle.osl_value.specs.Table.{updates}
use Rattle.osl_value.specs.Types.{only, is_only}
use Rattle.osl_value.proofs.SameTypes.{same_type-true}
use Rattle.osl_apply.specs.declared.slot.Slot.{Slot}
use Rattle.osl_apply.specs.Slots.{seen}
use Rattle.osl_apply.specs.Operands.{values, AllBelow, IsFirst, UpdatesFirst}
use Rattle.osl_interp.specs.Ready.{IsLaid}
use Rattle.osl_interp.specs.declared.known.Known.{Known}
use Rattle.oso_code.specs.declared.op.Op.{Op}
use Rattle.oso_code.specs.declared.raw.Raw.{Raw}
use Rattle.osl_value.specs.declared.shader_kind.ShaderKind.{ShaderKind}
use Rattle.oso_code.specs.declared.symbol.Symbol.{Symbol}
use Rattle.oso_code.specs.Ops.{type_at, range_count, is_conditional, takes_condition, takes_arguments, takes_types, is_number_of, may_write, written, owner_at}
use Rattle.oso_code.specs.Ranges.{steps_of}
use Rattle.oso_code.specs.Steps.{Step, Compute, Branch, Loop, Call, Leave, step_of, named_step, branch_step, while_step, for_step, do_step, call_step, compute}
use Rattle.oso_code.specs.Valid.{IsValid}
use Rattle.oso_code.proofs.Decoding.{WithOne, WithTwo, WithThree, one, two, three, with_one, with_two, with_three, came_from}
use Rattle.oso_code.proofs.Members.{and_both}
use Rattle.oso_code.proofs.Nested.{op_facts}

-- ---- the symbols of an op

abbrev pub IsInt : List Symbol → ℕ → Type 0
IsInt symbols k = (k < length symbols) × (type_at symbols k ≡ only Int)

pub record Computes (kind : ShaderKind) (owner : Option ℕ) (symbols : List Symbol) (name : OpName) (ty : Ty) (target : ℕ) (sources : List ℕ) : Type 0 where
  pub number : target < length symbols
  pub type_is : ty ≡ type_at symbols target
  pub numbers : AllBelow (length symbols) sources
  pub allowed : IsTrue (is_allowed name ty (map (type_at symbols) sources))
  pub first : UpdatesFirst name target sources
  pub writes : IsTrue (may_write kind symbols owner (Some target))

abbrev pub Fitting : ShaderKind → Option ℕ → List Symbol → Step → Type 0
Fitting kind owner symbols (Compute name ty target sources) = Computes kind owner symbols name ty target sources
Fitting kind owner symbols (Branch c holds fails) = IsInt symbols c
Fitting kind owner symbols (Loop tested c test body step) = IsInt symbols c
Fitting kind owner symbols (Call body) = Unit
Fitting kind owner symbols (Leave way) = Unit

all_below : (symbols : List Symbol) (ks : List ℕ) → IsTrue (list_all (is_number_of symbols) ks) → AllBelow (length symbols) ks
all_below symbols [] h = tt
all_below symbols (k ∷ ks) h =
    let p = and_both (is_number_of symbols k) (list_all (is_number_of symbols) ks) h in
    (ltb-true k (length symbols) p.0, all_below symbols ks p.1)

module _ (kind : ShaderKind) (owner : Option ℕ) (symbols : List Symbol) where
  operands_below : (b : Bool) (target : ℕ) (others : List ℕ) → AllBelow (length symbols) (target ∷ others) → AllBelow (length symbols) (if b then target ∷ others else others)
  operands_below true target others h = h
  operands_below false target others h = h.1

  operands_types : (b : Bool) (target : ℕ) (others : List ℕ) → map (type_at symbols) (if b then target ∷ others else others) ≡ (if b then type_at symbols target ∷ map (type_at symbols) others else map (type_at symbols) others)
  operands_types true target others = refl
  operands_types false target others = refl

  operands_first : (b : Bool) (target : ℕ) (others : List ℕ) → b ≡ true → IsFirst target (if b then target ∷ others else others)
  operands_first true target others h = refl
  operands_first false target others h = absurd (cc h)

  compute_fits : (name : OpName) (args : List ℕ) → IsTrue (list_all (is_number_of symbols) args) → IsTrue (takes_arguments name (map (type_at symbols) args)) → IsTrue (may_write kind symbols owner (slice_get args 0)) → Fitting kind owner symbols (compute symbols name args)
  compute_fits name [] n t w = tt
  compute_fits name (target ∷ others) n t w =
      let below = all_below symbols (target ∷ others) n in
      record {
        number = below.0;
        type_is = refl;
        numbers = operands_below (updates name) target others below;
        allowed = ap (is_allowed name (type_at symbols target)) (operands_types (updates name) target others) ∙ t;
        first = λ h. operands_first (updates name) target others h;
        writes = w;
      }

  is_int : (name : OpName) (c : ℕ) → IsTrue (list_all (is_number_of symbols) (c ∷ [])) → IsTrue (takes_condition name (map (type_at symbols) (c ∷ []))) → IsInt symbols c
  is_int name c n t =
      let p = and_both (is_conditional name) (is_only Int (type_at symbols c)) t in
      ((all_below symbols (c ∷ []) n).0, same_type-true (type_at symbols c) (only Int) p.1)

  abbrev Numbers : List ℕ → Type 0
  Numbers args = IsTrue (list_all (is_number_of symbols) args)

  branch_fits : (at : ℕ) (args jumps : List ℕ) → WithTwo args jumps → Numbers args → IsTrue (takes_condition O.If (map (type_at symbols) args)) → Fitting kind owner symbols (branch_step at args jumps)
  branch_fits at _ _ (two c a e) n t = is_int O.If c n t

  while_fits : (at : ℕ) (args jumps : List ℕ) → WithTwo args jumps → Numbers args → IsTrue (takes_condition O.While (map (type_at symbols) args)) → Fitting kind owner symbols (while_step at args jumps)
  while_fits at _ _ (two c a e) n t = is_int O.While c n t

  for_fits : (at : ℕ) (args jumps : List ℕ) → WithThree args jumps → Numbers args → IsTrue (takes_condition O.For (map (type_at symbols) args)) → Fitting kind owner symbols (for_step at args jumps)
  for_fits at _ _ (three c a s e) n t = is_int O.For c n t

  do_fits : (at : ℕ) (args jumps : List ℕ) → WithTwo args jumps → Numbers args → IsTrue (takes_condition O.DoWhile (map (type_at symbols) args)) → Fitting kind owner symbols (do_step at args jumps)
  do_fits at _ _ (two c a e) n t = is_int O.DoWhile c n t

  call_fits : (at : ℕ) (args jumps : List ℕ) → WithOne args jumps → Fitting kind owner symbols (call_step at args jumps)
  call_fits at _ _ (one e) = tt

  named_fits : (at : ℕ) (op : Op) (name : OpName) → op.name ≡ name → IsTrue (length op.jumps == range_count name) → Numbers op.args → IsTrue (takes_types name (map (type_at symbols) op.args)) → IsTrue (may_write kind symbols owner (written (record op { name = name }))) → Fitting kind owner symbols (named_step symbols at name op.args op.jumps)
  named_fits at op O.If is j n t w = branch_fits at op.args op.jumps (with_two symbols O.If refl op.args op.jumps j t) n t
  named_fits at op O.While is j n t w = while_fits at op.args op.jumps (with_two symbols O.While refl op.args op.jumps j t) n t
  named_fits at op O.For is j n t w = for_fits at op.args op.jumps (with_three symbols op.args op.jumps j t) n t
  named_fits at op O.DoWhile is j n t w = do_fits at op.args op.jumps (with_two symbols O.DoWhile refl op.args op.jumps j t) n t
  named_fits at op O.FunctionCall is j n t w = call_fits at op.args op.jumps (with_one symbols op.args op.jumps j t)
  named_fits at op O.Break is j n t w = tt
  named_fits at op O.Continue is j n t w = tt
  named_fits at op O.Return is j n t w = tt
  named_fits at op O.Exit is j n t w = tt
  named_fits at op name is j n t w = compute_fits name op.args n t w

module _ (code : Raw) (valid : IsValid code) where
  step_fitting : (at : ℕ) (op : Op) → slice_get code.ops at ≡ Some op → Fitting code.kind (owner_at code.sections at) code.symbols (step_of code.symbols at op)
  unfolding step_of
  step_fitting at op is =
      let fits = op_facts code at op (valid.ops at op is) in
      named_fits code.kind (owner_at code.sections at) code.symbols at op op.name refl fits.count fits.numbers fits.types fits.writes

  -- an op's symbols are there, and of types that it takes
  pub step_fits : (at : ℕ) (step : Step) → slice_get (steps_of code) at ≡ Some step → Fitting code.kind (owner_at code.sections at) code.symbols step
  step_fits at step is =
      let from = came_from code at step is in
      subst (Fitting code.kind (owner_at code.sections at) code.symbols) (sym from.is) (step_fitting at from.op from.here)

-- ---- slots

pub length_values : (slots : List Slot) → length (values slots) ≡ length slots
length_values slots = length-map slots seen

-- what a slot that is read holds
pub held_is : (slots : List Slot) (k : ℕ) (x : Slot) → k < length slots → x ≡ get_or slots k x → argument (values slots) k ≡ seen x
held_is slots k x lt is = get_or-map seen slots k x (Parts []) lt ∙ ap seen (sym is)

-- a symbol that was written
pub put_argument : (vs : List AnyValue) (target : ℕ) (v : AnyValue) (k : ℕ) → target < length vs → k ≡ target → argument (slice_set vs target v) k ≡ v
put_argument vs target v k lt is = ap (argument (slice_set vs target v)) is ∙ get_or-set_same vs target v (Parts []) lt

pub keep_argument : (vs : List AnyValue) (target : ℕ) (v : AnyValue) (k : ℕ) → k ≢ target → argument (slice_set vs target v) k ≡ argument vs k
keep_argument vs target v k not = get_or-set_other vs target k v (Parts []) not

-- an int that is read
pub int_slot : (code : Raw) (known : List Known) (slots : List Slot) (k : ℕ) (x : Slot) → IsLaid code known (values slots) → IsInt code.symbols k → x ≡ get_or slots k x → IsTrue (is_only Int (type_of (seen x)))
int_slot code known slots k x laid int is =
    let s = laid.slots in let l = length_values slots in let n = int.0 in
    let same = ap type_of (sym (held_is slots k x (omega (arith, n, s, l)) is)) ∙ laid.types k n ∙ int.1 in
    ap (is_only Int) same

pub int_held : (code : Raw) (known : List Known) (slots : List Slot) (k : ℕ) (x : Slot) → IsLaid code known (values slots) → IsInt code.symbols k → x ≡ get_or slots k x → argument (values slots) k ≡ seen x
int_held code known slots k x laid int is =
    let s = laid.slots in let l = length_values slots in let n = int.0 in
    held_is slots k x (omega (arith, n, s, l)) is

pub slot_there : (code : Raw) (known : List Known) (slots : List Slot) (k n : ℕ) → IsLaid code known (values slots) → k < length code.symbols → n ≡ length slots → k < n
slot_there code known slots k n laid lt is = let s = laid.slots in let l = length_values slots in omega (arith, lt, s, l, is)
